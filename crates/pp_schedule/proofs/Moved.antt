-- One caller's turn among all callers of a schedule.
use Rattle.std.proofs.Common.{◌≡◌, ◌≢◌, ℕ, zero, suc, ◌+◌, ◌-◌, ◌^◌, ◌<◌, ◌≤◌, List, [], ◌∷◌, length, drop, set, map, Option}
use Rattle.std.proofs.Common.{Some, None, ⊎_elim, refl, sym, ap, ◌∙◌, subst, arith}
use Rattle.std.proofs.Common.{length-append}
use Rattle.std.specs.Prelude.{slice_get, IfSome, IsSomeAnd, vec_capacity}
use Rattle.std.proofs.lemmas.Bool.{cases_eq}
use Rattle.std.proofs.lemmas.Option.{slice_get_within}
use Rattle.pp_model.specs.Lists.{AtEach}
use Rattle.pp_model.specs.Calls.{key_of}
use Rattle.pp_model.specs.Pass.{PassView, GoingView, NoteView, MapSizes, Meaning}
use Rattle.pp_model.specs.MapCalls.{Notes}
use Rattle.pp_schedule.specs.declared.caller.Caller.{Caller}
use Rattle.pp_schedule.specs.declared.call_future.CallFuture.{CallFuture}
use Rattle.pp_schedule.specs.Calls.{CallerAt, Doing, Has, goes_on, begins, Leaves, on, done, CallerTurn, Shows, Marks}
use Rattle.pp_schedule.specs.Calls.{rests, calls_on, CanLearn, capped, all_capped, answers_of, marks_of}
use Rattle.pp_schedule.specs.Plays.{Moment, Move}
use Rattle.pp_schedule.specs.Seats.{SeenAs, MayGoOn, AllSeen, AllMayGoOn}

pub some_same : {A : Type 0} {a b : A} → Some a ≡ Some b → a ≡ b
some_same {A} {a} {b} e = cc

pub set_here : {A : Type 0} → (xs : List A) (k : ℕ) (y : A) → k < length xs → slice_get (set xs k y) k ≡ Some y
set_here [] k y l = absurd (omega arith)
set_here (x ∷ xs) zero y l = refl
set_here (x ∷ xs) (suc k) y l = set_here xs k y (omega arith)

pub set_there : {A : Type 0} → (xs : List A) (k : ℕ) (y : A) (j : ℕ) → j ≢ k → slice_get (set xs k y) j ≡ slice_get xs j
set_there [] k y j other = refl
set_there (x ∷ xs) zero y zero other = absurd (other refl)
set_there (x ∷ xs) zero y (suc j) other = refl
set_there (x ∷ xs) (suc k) y zero other = refl
set_there (x ∷ xs) (suc k) y (suc j) other = set_there xs k y j (λ e. other (ap suc e))

pub set_length : {A : Type 0} → (xs : List A) (k : ℕ) (y : A) → length (set xs k y) ≡ length xs
set_length [] k y = refl
set_length (x ∷ xs) zero y = refl
set_length (x ∷ xs) (suc k) y = ap suc (set_length xs k y)

-- an element that is replaced by one that shows the same leaves what the list shows
pub set_shown : {A B : Type 0} (f : A → B) (xs : List A) (k : ℕ) (x y : A) → slice_get xs k ≡ Some x → f y ≡ f x
    → map f (set xs k y) ≡ map f xs
set_shown f [] k x y at e = refl
set_shown f (z ∷ xs) zero x y at e = ap (λ v. v ∷ map f xs) (e ∙ ap f (sym (some_same at)))
set_shown f (z ∷ xs) (suc k) x y at e = ap (λ l. f z ∷ l) (set_shown f xs k x y at e)

module _ {M P G N W : Type 0} (belongs : P → Type 0) (idle : P → Type 0) (under_way : P → G → PassView → Type 0)
    (learnable : P → N → Type 0) (view : P → PassView) (going_view : P → G → GoingView) (this : M)
    (others_learn : (p q : P) (note : N) → belongs p → belongs q → (view p).caller ≢ (view q).caller → learnable p note
    → learnable q note) where
  abbrev Shown : CallerAt → Option P → Option (CallFuture M P G N W) → Type 0
  Shown v pass call = Shows belongs idle under_way view going_view (λ (f : CallFuture M P G N W). f.parts) v pass call

  abbrev Learner : N → Option P → Option (CallFuture M P G N W) → Type 0
  Learner note pass call = CanLearn learnable (λ (f : CallFuture M P G N W). f.parts) pass call note

  -- the caller's pass that may learn the note
  learner : (note : N) (v : CallerAt) (pass : Option P) (call : Option (CallFuture M P G N W)) → Shown v pass call
      → Learner note pass call
      → (p : P) × belongs p × (view p ≡ v.pass) × learnable p note
  learner note v pass call (rests p own not_going is doing) can = (p, own, is, can.0)
  learner note v pass call (calls_on f d doing calling) can =
      let both : P × G = (calling.at, calling.call) in
      let here : IsSomeAnd (Some both) (λ x. learnable x.0 note) =
      subst (λ (o : Option (P × G)). IsSomeAnd o (λ x. learnable x.0 note)) calling.is can.1 in
      (calling.at, calling.belongs_to, calling.pass_is, here)

  may_learn : (note : N) (v : CallerAt) (pass : Option P) (call : Option (CallFuture M P G N W)) → Shown v pass call
      → ((p : P) → belongs p → view p ≡ v.pass → learnable p note) → Learner note pass call
  may_learn note v pass call (rests p own not_going is doing) can = (can p own is, tt)
  may_learn note v pass call (calls_on f d doing calling) can = (tt, rw calling.is (can calling.at calling.belongs_to calling.pass_is))

  -- what one caller of another number may learn, this one may
  passes_on : (note : N) (v w : CallerAt) (pass pass' : Option P) (call call' : Option (CallFuture M P G N W)) → Shown v pass call
      → Learner note pass call → Shown w pass' call' → v.pass.caller ≢ w.pass.caller → Learner note pass' call'
  passes_on note v w pass pass' call call' shows can shows' differ =
      let l = learner note v pass call shows can in
      may_learn note w pass' call' shows' (λ q own is.
      others_learn l.0 q note l.1 own (λ e. differ (ap (λ (x : PassView). x.caller) (sym l.2)
      ∙ (e ∙ ap (λ (x : PassView). x.caller) is))) l.3)

  module _ (meaning : Meaning) (sizes : MapSizes) (races : ℕ) where
    -- room and space are left for the rest of the calls
    goes_with : (told : NoteView) (note note' : N) (x x' : Caller M P G N W) (v w : CallerAt)
        → MayGoOn belongs idle under_way learnable view going_view this note x v
        → x'.calls ≡ x.calls → vec_capacity x.answers ≤ vec_capacity x'.answers → Learner note' x'.pass x'.call
        → CallerTurn meaning sizes races told v w → MayGoOn belongs idle under_way learnable view going_view this note' x' w
    goes_with told note note' x x' v w may calls capacity learns t = record {
      keys = subst (λ cs. AtEach cs (λ k call. key_of call ≤ 2 ^ 64 - 4)) (ap (λ c. c.items) (sym calls)) may.keys;
      room = λ none. let h = counts t.has in room_done t.leaves none h.0;
      room_going = λ d is. let h = counts t.has in room_on t.leaves d is h.0;
      space = λ none. let h = counts t.has in space_done t.leaves none h.1;
      space_going = λ d is. let h = counts t.has in space_on t.leaves d is h.1;
      learns = learns;
    }
      where
        counts : Has races v t.going t.before w.calls
            → (length w.calls + 1 ≤ t.before.room) × (length v.answers + length w.calls + 1 ≤ vec_capacity x.answers)
        counts (goes_on is same) =
            let r = may.room_going _ is in
            let s = may.space_going _ is in
            let e = ap length same in
            (omega (arith, r, e), omega (arith, s, e))
        counts (begins call none is same begun) =
            let r = may.room none in
            let s = may.space none in
            let e = ap length is in
            let b = ap (λ (p : PassView). p.room) same in
            (omega (arith, r, e, b), omega (arith, s, e))

        room_done : Leaves meaning sizes t.going t.now t.before v w → w.doing ≡ None → length w.calls + 1 ≤ t.before.room
            → length w.calls ≤ w.pass.room
        room_done (on is answers counted) none r = absurd (let e = sym is ∙ none in cc)
        room_done (done answer is answers struck made) none r = omega (arith, r, made.told.grew.room)

        room_on : Leaves meaning sizes t.going t.now t.before v w → (d : Doing) → w.doing ≡ Some d → length w.calls + 1 ≤ t.before.room
            → length w.calls + 1 ≤ d.before.room
        room_on (on is answers counted) d at r =
            let same : record { going = t.now; before = t.before } ≡ d = cc in
            let b = ap (λ (y : Doing). y.before.room) same in omega (arith, r, b)
        room_on (done answer is answers struck made) d at r = absurd (let e = sym is ∙ at in cc)

        space_done : Leaves meaning sizes t.going t.now t.before v w → w.doing ≡ None
            → length v.answers + length w.calls + 1 ≤ vec_capacity x.answers
            → length w.answers + length w.calls ≤ vec_capacity x'.answers
        space_done (on is answers counted) none s = absurd (let e = sym is ∙ none in cc)
        space_done (done answer is answers struck made) none s =
            omega (arith, s, capacity, ap length answers, length-append v.answers (answer ∷ []))

        space_on : Leaves meaning sizes t.going t.now t.before v w → (d : Doing) → w.doing ≡ Some d
            → length v.answers + length w.calls + 1 ≤ vec_capacity x.answers
            → length w.answers + length w.calls + 1 ≤ vec_capacity x'.answers
        space_on (on is answers counted) d at s = omega (arith, s, capacity, ap length answers)
        space_on (done answer is answers struck made) d at s = absurd (let e = sym is ∙ at in cc)

    -- All callers after caller c's turn.
    pub moved : (s : Moment) (c : ℕ) (xs : List (Caller M P G N W)) (note note' : N) (told' : NoteView)
        (x x' : Caller M P G N W) (v w : CallerAt)
        → AllSeen belongs idle under_way learnable view going_view this xs s.callers
        → AllMayGoOn belongs idle under_way learnable view going_view this note xs s.callers
        → slice_get xs c ≡ Some x → slice_get s.callers c ≡ Some v
        → x'.calls ≡ x.calls → vec_capacity x.answers ≤ vec_capacity x'.answers → IfSome x'.call (λ f. f.map.now ≡ this)
        → Learner note' x'.pass x'.call → Shown w x'.pass x'.call → w.calls ≡ drop x'.next x'.calls.items
        → w.answers ≡ answers_of x'.answers.items → all_capped w.marks ≡ marks_of x'.answers.items
        → capped w.mark ≡ x'.mark → (turn : CallerTurn meaning sizes races s.told v w) → Notes w.pass told'
        → (count changes : ℕ) → changes ≡ capped count → Marks turn.going turn.now s.count count v w
        → (t : Moment) × Move meaning sizes races s c t × (told' ≡ t.told) × (changes ≡ capped t.count)
        × AllSeen belongs idle under_way learnable view going_view this (set xs c x') t.callers
        × AllMayGoOn belongs idle under_way learnable view going_view this note' (set xs c x') t.callers
    moved s c xs note note' told' x x' v w seen may is_x is_v calls capacity maps learns shows left answers marks mark turn noted count
        changes counted marked =
        let within_x = slice_get_within xs c x is_x in
        let within_v = slice_get_within s.callers c v is_v in
        let was = seen.each c x v is_x is_v in
        let caller : w.pass.caller ≡ c = turn.turn.grew.caller ∙ (ap (λ (p : PassView). p.caller) turn.learnt.same ∙ was.caller) in
        let t : Moment = record { callers = set s.callers c w; told = told'; count = count } in (
          t,
          record {
            was = v;
            is_was = is_v;
            now = w;
            is_now = set_here s.callers c w within_v;
            others = λ d other. set_there s.callers c w d other;
            as_many = set_length s.callers c w;
            turn = turn;
            marks = marked;
            noted = noted;
          },
          refl,
          counted,
          record {
            lengths = set_length s.callers c w ∙ (seen.lengths ∙ sym (set_length xs c x'));
            each = λ k y u at_y at_u.
                ⊎_elim
                (λ (same : k ≡ c).
                let is_y : x' ≡ y = some_same (sym (set_here xs c x' within_x) ∙ (ap (slice_get (set xs c x')) (sym same) ∙ at_y)) in
                let is_u : w ≡ u = some_same (sym (set_here s.callers c w within_v)
                ∙ (ap (slice_get (set s.callers c w)) (sym same) ∙ at_u)) in
                subst (λ (z : Caller M P G N W). SeenAs belongs idle under_way learnable view going_view this k z u) is_y
                (subst (λ (z : CallerAt). SeenAs belongs idle under_way learnable view going_view this k x' z) is_u
                (record {
                  shows = shows;
                  calls = left;
                  answers = answers;
                  marks = marks;
                  mark = mark;
                  maps = maps;
                  caller = caller ∙ sym same;
                })))
                (λ (other : k ≡ c → ⊥).
                seen.each k y u (sym (set_there xs c x' k other) ∙ at_y) (sym (set_there s.callers c w k other) ∙ at_u))
                (cases_eq k c);
          },
          record {
            each = λ k y u at_y at_u.
                ⊎_elim
                (λ (same : k ≡ c).
                let is_y : x' ≡ y = some_same (sym (set_here xs c x' within_x) ∙ (ap (slice_get (set xs c x')) (sym same) ∙ at_y)) in
                let is_u : w ≡ u = some_same (sym (set_here s.callers c w within_v)
                ∙ (ap (slice_get (set s.callers c w)) (sym same) ∙ at_u)) in
                subst (λ (z : Caller M P G N W). MayGoOn belongs idle under_way learnable view going_view this note' z u) is_y
                (subst (λ (z : CallerAt). MayGoOn belongs idle under_way learnable view going_view this note' x' z) is_u
                (goes_with s.told note note' x x' v w (may.each c x v is_x is_v) calls capacity learns turn)))
                (λ (other : k ≡ c → ⊥).
                let at_y' = sym (set_there xs c x' k other) ∙ at_y in
                let at_u' = sym (set_there s.callers c w k other) ∙ at_u in
                let had = may.each k y u at_y' at_u' in
                let saw = seen.each k y u at_y' at_u' in
                record {
                  keys = had.keys;
                  room = had.room;
                  room_going = had.room_going;
                  space = had.space;
                  space_going = had.space_going;
                  learns = passes_on note' w u x'.pass y.pass x'.call y.call shows learns saw.shows
                      (λ e. other (sym saw.caller ∙ (sym e ∙ caller)));
                })
                (cases_eq k c);
          },
        )
