-- What the marks of calls are once the map is closed: the places of changes, and the starts of other calls.
use Rattle.std.proofs.Common.{◌≡◌, ℕ, ◌+◌, ◌≤◌, Bool, true, false, cond, not, ◌&&◌, List, [], ◌∷◌, ◌++◌, length}
use Rattle.std.proofs.Common.{drop, Some, None, ⊎_elim, ◌⊎◌, inl, inr, refl, sym, ap, ◌∙◌, subst, arith}
use Rattle.std.proofs.Common.{append_assoc}
use Rattle.std.specs.Prelude.{slice_get, is_some}
use Rattle.std.proofs.lemmas.Bool.{cases_Bool, true≢false}
use Rattle.pp_model.specs.declared.Call.{Call}
use Rattle.pp_model.specs.declared.Reply.{Reply}
use Rattle.pp_model.specs.declared.Answer.{Answer}
use Rattle.pp_model.specs.declared.Answer.TheVariants.{Said, Full, Lost}
use Rattle.pp_model.specs.declared.Change.{Change}
use Rattle.pp_model.specs.declared.Placed.{Placed}
use Rattle.pp_model.specs.declared.steps.Step.{Step}
use Rattle.pp_model.specs.Lists.{IsPrefix}
use Rattle.pp_model.specs.Calls.{reply, changes}
use Rattle.pp_model.specs.History.{after, Stands}
use Rattle.pp_model.specs.Pass.{PassView, NoteView, MapSizes, Meaning, steps_since, seen_first}
use Rattle.pp_model.specs.MapCalls.{AnswersCall, PlacesReply, placed, Counted, took_effect}
use Rattle.pp_model.proofs.Chains.{IsPrefix-refl, IsPrefix-trans}
use Rattle.pp_model.proofs.Histories.{slice_get_new, after_grown}
use Rattle.pp_schedule.specs.Calls.{CallerAt, Doing, Has, goes_on, begins, Leaves, on, done, CallerTurn, InCall}
use Rattle.pp_schedule.specs.Calls.{Marks, strikes}
use Rattle.pp_schedule.specs.Marks.{MarkPlaces, MarkedAs, none, said, full, lost}
use Rattle.pp_schedule.proofs.Effects.{entered_once, strikes_was, strikes_still, strikes_new}
use Rattle.pp_schedule.proofs.Orders.{prefix_length}
use Rattle.pp_schedule.proofs.Places.{drop_front, right_at}
use Rattle.pp_schedule.proofs.Starts.{first_saw}

-- ---- a call more

pub push_said : (log : List Change) (calls : List Call) (answers : List Answer) (marks : List ℕ) (mine : List Placed) (c : Call) (r : Reply)
    (m : ℕ) (s : Placed) → MarkedAs log calls answers marks mine → MarkPlaces log c r m s
    → MarkedAs log (calls ++ c ∷ []) (answers ++ Said r ∷ []) (marks ++ m ∷ []) (mine ++ s ∷ [])
push_said log _ _ _ _ c r m s none is = said c r m s [] [] [] [] is none
push_said log _ _ _ _ c r m s (said d q n t calls answers marks mine one rest) is =
    said d q n t (calls ++ c ∷ []) (answers ++ Said r ∷ []) (marks ++ m ∷ []) (mine ++ s ∷ []) one
    (push_said log calls answers marks mine c r m s rest is)
push_said log _ _ _ _ c r m s (full d n calls answers marks mine rest) is =
    full d n (calls ++ c ∷ []) (answers ++ Said r ∷ []) (marks ++ m ∷ []) (mine ++ s ∷ [])
    (push_said log calls answers marks mine c r m s rest is)
push_said log _ _ _ _ c r m s (lost d turns n calls answers marks mine rest) is =
    lost d turns n (calls ++ c ∷ []) (answers ++ Said r ∷ []) (marks ++ m ∷ []) (mine ++ s ∷ [])
    (push_said log calls answers marks mine c r m s rest is)

-- an answer that places nothing
abbrev pub Unplaced : Answer → Type 0
Unplaced (Said r) = ⊥
Unplaced Full = Unit {0}
Unplaced (Lost turns) = Unit {0}

pub push_other : (log : List Change) (calls : List Call) (answers : List Answer) (marks : List ℕ) (mine : List Placed) (c : Call)
    (a : Answer) (m : ℕ) → MarkedAs log calls answers marks mine → Unplaced a
    → MarkedAs log (calls ++ c ∷ []) (answers ++ a ∷ []) (marks ++ m ∷ []) mine
push_other log _ _ _ _ c (Said r) m none is = absurd is
push_other log _ _ _ _ c Full m none is = full c m [] [] [] [] none
push_other log _ _ _ _ c (Lost turns) m none is = lost c turns m [] [] [] [] none
push_other log _ _ _ _ c a m (said d q n t calls answers marks mine one rest) is =
    said d q n t (calls ++ c ∷ []) (answers ++ a ∷ []) (marks ++ m ∷ []) mine one
    (push_other log calls answers marks mine c a m rest is)
push_other log _ _ _ _ c a m (full d n calls answers marks mine rest) is =
    full d n (calls ++ c ∷ []) (answers ++ a ∷ []) (marks ++ m ∷ []) mine (push_other log calls answers marks mine c a m rest is)
push_other log _ _ _ _ c a m (lost d turns n calls answers marks mine rest) is =
    lost d turns n (calls ++ c ∷ []) (answers ++ a ∷ []) (marks ++ m ∷ []) mine
    (push_other log calls answers marks mine c a m rest is)

-- ---- the steps of a going call

since_two : (before left ready now : PassView) → IsPrefix before.steps left.steps → ready.steps ≡ left.steps
    → IsPrefix ready.steps now.steps → steps_since before now ≡ steps_since before left ++ steps_since ready now
since_two before left ready now first same second =
    let old : steps_since before left ≡ first.0 = ap (drop (length before.steps)) first.1 ∙ drop_front before.steps first.0 in
    let new : steps_since ready now ≡ second.0 = ap (drop (length ready.steps)) second.1 ∙ drop_front ready.steps second.0 in
    let all : now.steps ≡ before.steps ++ (first.0 ++ second.0) =
    second.1 ∙ (ap (λ xs. xs ++ second.0) (same ∙ first.1) ∙ append_assoc before.steps first.0 second.0) in
    ap (drop (length before.steps)) all ∙ (drop_front before.steps (first.0 ++ second.0)
    ∙ (ap (λ xs. xs ++ second.0) (sym old) ∙ ap (λ xs. steps_since before left ++ xs) (sym new)))

-- The first step of a call that has made one saw so many changes; one that has made none began at so many, on a map that has one
-- caller.
pub data Began (many count mark : ℕ) (seen : ℕ) : List Step → Type 0 where
  stepped : (x : Step) (xs : List Step) → x.seen ≡ mark → Began many count mark seen (x ∷ xs)
  unstepped : seen ≡ mark → mark ≡ count → many ≡ 1 → Began many count mark seen []

-- the steps of one more turn that saw as many changes as there were before and after it
began_more : (many n m mark mark' seen : ℕ) (xs ys : List Step) → Began many n mark seen xs → mark' ≡ mark → m ≡ n
    → ((y : Step) (zs : List Step) → ys ≡ y ∷ zs → y.seen ≡ n) → Began many m mark' seen (xs ++ ys)
began_more many n m mark mark' seen _ ys (stepped x xs saw) same still first = stepped x (xs ++ ys) (saw ∙ sym same)
began_more many n m mark mark' seen _ [] (unstepped start is one) same still first =
    unstepped (start ∙ sym same) (same ∙ is ∙ sym still) one
began_more many n m mark mark' seen _ (y ∷ ys) (unstepped start is one) same still first =
    stepped y ys (first y ys refl ∙ sym is ∙ sym same)

-- the first turn
began_first : (many n m mark seen : ℕ) (ys : List Step) → mark ≡ m → m ≡ n → ((y : Step) (zs : List Step) → ys ≡ y ∷ zs → y.seen ≡ n)
    → (1 ≤ length ys) ⊎ ((many ≡ 1) × (seen ≡ n)) → Began many m mark seen ys
began_first many n m mark seen [] is still first how =
    ⊎_elim
    (λ (some : 1 ≤ 0). absurd (omega (arith, some)))
    (λ (one : (many ≡ 1) × (seen ≡ n)). unstepped (one.1 ∙ sym still ∙ sym is) is one.0)
    how
began_first many n m mark seen (y ∷ ys) is still first how = stepped y ys (first y ys refl ∙ sym still ∙ sym is)

began_start : (many count mark seen : ℕ) (xs : List Step) → Began many count mark seen xs → seen_first seen xs ≡ mark
began_start many count mark seen _ (stepped x xs saw) = saw
began_start many count mark seen _ (unstepped start is one) = start

-- ---- a caller's turn

module _ (meaning : Meaning) (sizes : MapSizes) (races : ℕ) (log : List Change) (many : ℕ)
    (steps_or_one : (1 ≤ meaning.turn_steps) ⊎ (many ≡ 1)) where
  -- what is known of the call that is going
  pub record GoingMark (count : ℕ) (d : Doing) (v : CallerAt) : Type 0 where
    pub steps : IsPrefix d.before.steps v.pass.steps
    pub taken : d.going.struck ≡ true → (s : Placed) × (v.pass.mine ≡ d.before.mine ++ s ∷ []) × (s.place ≡ v.mark)
    pub began : d.going.struck ≡ false → Began many count v.mark (length d.before.seen) (steps_since d.before v.pass)

  -- Of its calls the caller made the first with these marks; with the going one and those that are left they are all.
  pub record Told (count : ℕ) (all : List Call) (v : CallerAt) : Type 0 where
    pub alone : many ≡ 1 → length v.pass.seen ≡ count
    pub rests : v.doing ≡ None → (made : List Call) × (all ≡ made ++ v.calls) × MarkedAs log made v.answers v.marks v.pass.mine
    pub goes : (d : Doing) → v.doing ≡ Some d → (made : List Call) × (all ≡ made ++ d.going.call ∷ v.calls)
        × MarkedAs log made v.answers v.marks d.before.mine × GoingMark count d v

  module _ (told : NoteView) (n m : ℕ) (v w : CallerAt) (t : CallerTurn meaning sizes races told v w)
      (marks : Marks t.going t.now n m v w) (in_call : InCall v) (before_is : n ≡ told.seen) (after_is : m ≡ length w.pass.seen)
      (begins_log : IsPrefix w.pass.seen log) (all : List Call) (had : Told n all v) where
    abbrev was : Bool
    was = t.going.struck

    abbrev is : Bool
    is = t.now.struck

    ready_mine : t.ready.mine ≡ v.pass.mine
    ready_mine = ap (λ (p : PassView). p.mine) t.learnt.same

    ready_steps : t.ready.steps ≡ v.pass.steps
    ready_steps = ap (λ (p : PassView). p.steps) t.learnt.same

    heard : n ≤ length t.ready.seen
    heard = let l = t.learnt.noted_seen in omega (arith, l, before_is)

    ready_within : length t.ready.seen ≤ m
    ready_within = let l = prefix_length t.ready.seen w.pass.seen t.turn.grew.seen in omega (arith, l, after_is)

    still_count : strikes was is ≡ false → m ≡ n
    still_count e = marks.counts ∙ ap (λ b. cond b (n + 1) n) e

    new_count : strikes was is ≡ true → m ≡ n + 1
    new_count e = marks.counts ∙ ap (λ b. cond b (n + 1) n) e

    mark_new : strikes was is ≡ true → w.mark ≡ m
    mark_new e = marks.mark ∙ by (is_some v.doing)
      where
        by : (b : Bool) → cond (b && not (strikes was is)) v.mark m ≡ m
        by true = ap (λ x. cond (true && not x) v.mark m) e
        by false = refl

    mark_first : v.doing ≡ None → w.mark ≡ m
    mark_first idle = marks.mark ∙ ap (λ o. cond (is_some o && not (strikes was is)) v.mark m) idle

    mark_kept : (d : Doing) → v.doing ≡ Some d → strikes was is ≡ false → w.mark ≡ v.mark
    mark_kept d some e = marks.mark ∙ ap (λ o. cond (is_some o && not (strikes was is)) v.mark m) some
        ∙ ap (λ x. cond (true && not x) v.mark m) e

    -- what is known of the call as the turn finds it
    record Found : Type 0 where
      made : List Call
      calls : all ≡ made ++ t.going.call ∷ w.calls
      marked : MarkedAs log made v.answers v.marks t.before.mine
      steps : IsPrefix t.before.steps v.pass.steps
      untaken : was ≡ false → v.pass.mine ≡ t.before.mine
      taken : was ≡ true → (s : Placed) × (v.pass.mine ≡ t.before.mine ++ s ∷ []) × (s.place ≡ w.mark)
      began : strikes was is ≡ false → was ≡ false → Began many m w.mark (length t.before.seen) (steps_since t.before w.pass)

    first_seen : m ≡ n → (y : Step) (zs : List Step) → steps_since t.ready w.pass ≡ y ∷ zs → y.seen ≡ n
    first_seen still y zs at =
        let so = first_saw t.ready w.pass 0 t.turn.grew (omega (arith, ap length at)) (omega (arith, heard, ready_within, still, after_is))
        in
        sym (ap (seen_first 0) at) ∙ so ∙ omega (arith, heard, ready_within, still)

    found_by : Has races v t.going t.before w.calls → Found
    found_by (goes_on doing rest) =
        let h = had.goes _ doing in
        let e = in_call _ doing in
        record {
          made = h.0;
          calls = h.1 ∙ ap (λ cs. h.0 ++ t.going.call ∷ cs) (sym rest);
          marked = h.2;
          steps = h.3.steps;
          untaken = λ not. e.none not;
          taken = λ so. let k = h.3.taken so in (k.0, k.1, k.2 ∙ sym (mark_kept _ doing (strikes_was was is so)));
          began = λ e not.
              let still = still_count e in
              let two = since_two t.before v.pass t.ready w.pass h.3.steps ready_steps t.turn.grew.steps in
              subst (λ (xs : List Step). Began many m w.mark (length t.before.seen) xs) (sym two)
              (began_more many n m v.mark w.mark (length t.before.seen) (steps_since t.before v.pass) (steps_since t.ready w.pass)
              (h.3.began not) (mark_kept _ doing e) still (first_seen still));
        }
    found_by (begins call idle calls same begun) =
        let h = had.rests idle in
        let own : t.before.steps ≡ t.ready.steps = ap (λ (p : PassView). p.steps) same ∙ sym ready_steps in
        let mine : t.before.mine ≡ v.pass.mine = ap (λ (p : PassView). p.mine) same in
        record {
          made = h.0;
          calls = h.1 ∙ ap (λ cs. h.0 ++ cs) (calls ∙ ap (λ c. c ∷ w.calls) (sym begun.call));
          marked = subst (λ (ms : List Placed). MarkedAs log h.0 v.answers v.marks ms) (sym mine) h.2;
          steps = subst (λ (xs : List Step). IsPrefix xs v.pass.steps) (sym (ap (λ (p : PassView). p.steps) same))
              (IsPrefix-refl v.pass.steps);
          untaken = λ not. sym mine;
          taken = λ so. absurd (true≢false (sym so ∙ begun.untouched));
          began = λ e not.
              let still = still_count e in
              let since : steps_since t.before w.pass ≡ steps_since t.ready w.pass = ap (λ (xs : List Step). drop (length xs) w.pass.steps)
              own in
              subst (λ (xs : List Step). Began many m w.mark (length t.before.seen) xs) (sym since)
              (began_first many n m w.mark (length t.before.seen) (steps_since t.ready w.pass) (mark_first idle) still (first_seen still)
              (⊎_elim
              (λ (some : 1 ≤ meaning.turn_steps). let s = t.turn.stepped in inl (omega (arith, some, s)))
              (λ (one : many ≡ 1). inr (one, ap (λ (p : PassView). length p.seen) same ∙ had.alone one))
              steps_or_one));
        }

    found : Found
    found = found_by t.has

    -- a change that took effect in this turn has the number that is counted then
    struck_place : was ≡ false → is ≡ true → (s : Placed) × (w.pass.mine ≡ t.before.mine ++ s ∷ []) × (s.place ≡ w.mark)
    struck_place not so =
        let s = t.turn.strikes not so in
        let e = strikes_new was is not so in
        let within = s.within in
        let above = s.above in
        let place : s.place ≡ m = omega (arith, within, above, heard, after_is, new_count e) in (
          placed t.going.call s.said s.place,
          s.mine ∙ ap (λ xs. xs ++ placed t.going.call s.said s.place ∷ []) (ready_mine ∙ found.untaken not),
          place ∙ sym (mark_new e),
        )

    -- a change that took effect before this turn
    kept_place : was ≡ true → (x : Placed) → w.pass.mine ≡ t.before.mine ++ x ∷ []
        → (s : Placed) × (w.pass.mine ≡ t.before.mine ++ s ∷ []) × (s.place ≡ w.mark)
    kept_place so x mine =
        let k = found.taken so in (
          k.0,
          entered_once t.before.mine t.ready.mine w.pass.mine k.0 x (ready_mine ∙ k.1) mine t.turn.grew.mine ∙ (ready_mine ∙ k.1),
          k.2,
        )

    took_place : is ≡ true → (x : Placed) → w.pass.mine ≡ t.before.mine ++ x ∷ []
        → (s : Placed) × (w.pass.mine ≡ t.before.mine ++ s ∷ []) × (s.place ≡ w.mark)
    took_place so x mine =
        ⊎_elim
        (λ (yes : was ≡ true). kept_place yes x mine)
        (λ (no : was ≡ false). struck_place no so)
        (cases_Bool was)

    unstruck : is ≡ false → was ≡ false
    unstruck unmade =
        ⊎_elim
        (λ (yes : was ≡ true). absurd (true≢false (sym (t.turn.same.struck yes) ∙ unmade)))
        (λ (not : was ≡ false). not)
        (cases_Bool was)

    began_now : is ≡ false → Began many m w.mark (length t.before.seen) (steps_since t.before w.pass)
    began_now unmade = found.began (strikes_still was is unmade) (unstruck unmade)

    -- the call's place, where a reply was given
    said_place : (r : Reply) → is ≡ changes r → (says : PlacesReply t.going.call r t.before w.pass)
        → Stands w.pass.seen w.pass.caller w.pass.mine → MarkPlaces log t.going.call r w.mark (placed t.going.call r says.place)
    said_place r is_so says stands =
        let within : says.place ≤ length log = let l = says.within in omega (arith, l, prefix_length w.pass.seen log begins_log) in
        let longer : (k : ℕ) → k ≤ length w.pass.seen → after log k ≡ after w.pass.seen k =
        λ k le. ap (λ (l : List Change). after l k) begins_log.1 ∙ after_grown w.pass.seen begins_log.0 k le in
        record {
          call_is = refl;
          reply_is = refl;
          within = within;
          change = λ yes.
              let k = took_place (is_so ∙ yes) (placed t.going.call r says.place) says.mine in
              same_last t.before.mine (placed t.going.call r says.place) k.0 (sym says.mine ∙ k.1) ∙ k.2;
          from_mark = λ no.
              let from = says.from_start no in
              omega (arith, from, began_start many m w.mark (length t.before.seen) (steps_since t.before w.pass) (began_now (is_so ∙ no)));
          right = λ no.
              let at : slice_get w.pass.mine (length t.before.mine) ≡ Some (placed t.going.call r says.place) =
              ap (λ (xs : List Placed). slice_get xs (length t.before.mine)) says.mine
              ∙ slice_get_new t.before.mine (placed t.going.call r says.place) in
              ap (λ x. reply x t.going.call) (longer says.place says.within)
              ∙ right_at (changes r) w.pass.seen w.pass.caller (length t.before.mine + 1) (placed t.going.call r says.place) no
              (stands.each (length t.before.mine) (placed t.going.call r says.place) at);
          least = λ no q from below so.
              let start = began_start many m w.mark (length t.before.seen) (steps_since t.before w.pass) (began_now (is_so ∙ no)) in
              let in_seen = says.within in
              says.least no q (omega (arith, from, start)) below
              (ap (λ x. reply x t.going.call) (sym (longer q (omega (arith, below, in_seen)))) ∙ so);
        }
      where
        same_last : (xs : List Placed) (x y : Placed) → xs ++ x ∷ [] ≡ xs ++ y ∷ [] → x.place ≡ y.place
        same_last [] x y e = let same : x ≡ y = cc in ap (λ (s : Placed). s.place) same
        same_last (z ∷ xs) x y e = same_last xs x y (let rest : xs ++ x ∷ [] ≡ xs ++ y ∷ [] = cc in rest)

    -- the call as its answer leaves it
    answered : (answer : Answer) → is ≡ took_effect answer → AnswersCall meaning sizes t.going.call t.going.budget t.before w.pass answer
        → MarkedAs log (found.made ++ t.going.call ∷ []) (v.answers ++ answer ∷ []) (v.marks ++ w.mark ∷ []) w.pass.mine
    answered (Said r) is_so made =
        let says = made.told.says in
        subst (λ (ms : List Placed). MarkedAs log (found.made ++ t.going.call ∷ []) (v.answers ++ Said r ∷ []) (v.marks ++ w.mark ∷ []) ms)
        (sym says.mine)
        (push_said log found.made v.answers v.marks t.before.mine t.going.call r w.mark (placed t.going.call r says.place) found.marked
        (said_place r is_so says made.told.stands))
    answered Full is_so made =
        subst (λ (ms : List Placed). MarkedAs log (found.made ++ t.going.call ∷ []) (v.answers ++ Full ∷ []) (v.marks ++ w.mark ∷ []) ms)
        (sym made.told.says.mine) (push_other log found.made v.answers v.marks t.before.mine t.going.call Full w.mark found.marked tt)
    answered (Lost turns) is_so made =
        subst (λ (ms : List Placed). MarkedAs log (found.made ++ t.going.call ∷ []) (v.answers ++ Lost turns ∷ [])
        (v.marks ++ w.mark ∷ []) ms)
        (sym made.told.says.mine) (push_other log found.made v.answers v.marks t.before.mine t.going.call (Lost turns) w.mark found.marked
        tt)

    goes_now : Counted meaning sizes t.now t.before w.pass → GoingMark m (record { going = t.now; before = t.before }) w
    goes_now counted = record {
      steps = IsPrefix-trans t.before.steps t.ready.steps w.pass.steps
          (subst (λ (xs : List Step). IsPrefix t.before.steps xs) (sym ready_steps) found.steps) t.turn.grew.steps;
      taken = λ so. let e = counted.effect so in took_place so (placed t.now.call e.said e.entered.place) e.entered.mine;
      began = λ no. began_now no;
    }

    pub told_turn : Told m all w
    told_turn = by t.leaves
      where
        by : Leaves meaning sizes t.going t.now t.before v w → Told m all w
        by (on doing answers counted) = record {
          alone = λ one. sym after_is;
          rests = λ no. absurd (let e = sym doing ∙ no in cc);
          goes = λ d at.
              let same : record { going = t.now; before = t.before } ≡ d = let e = sym doing ∙ at in cc in
              let kept = marks.goes_on d at in
              let one : (made : List Call) × (all ≡ made ++ t.now.call ∷ w.calls) × MarkedAs log made w.answers w.marks t.before.mine
              × GoingMark m (record { going = t.now; before = t.before }) w = (
                found.made,
                found.calls ∙ ap (λ c. found.made ++ c ∷ w.calls) (sym t.turn.same.call),
                subst (λ (given : List Answer). MarkedAs log found.made given w.marks t.before.mine) (sym answers)
                    (subst (λ (ms : List ℕ). MarkedAs log found.made v.answers ms t.before.mine) (sym kept) found.marked),
                goes_now counted,
              ) in
              subst (λ (x : Doing). (made : List Call) × (all ≡ made ++ x.going.call ∷ w.calls)
              × MarkedAs log made w.answers w.marks x.before.mine × GoingMark m x w) same one;
        }
        by (done answer doing answers struck made) = record {
          alone = λ one. sym after_is;
          rests = λ no. (
            found.made ++ t.going.call ∷ [],
            found.calls ∙ sym (append_assoc found.made (t.going.call ∷ []) w.calls),
            subst (λ (given : List Answer). MarkedAs log (found.made ++ t.going.call ∷ []) given w.marks w.pass.mine) (sym answers)
                (subst (λ (ms : List ℕ). MarkedAs log (found.made ++ t.going.call ∷ []) (v.answers ++ answer ∷ []) ms w.pass.mine)
                (sym (marks.answered doing)) (answered answer struck made)),
          );
          goes = λ d at. absurd (let e = sym doing ∙ at in cc);
        }
