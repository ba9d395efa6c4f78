-- What a turn's clauses say of the log, and what closing says of the passes.
use Rattle.std.proofs.Common.{◌≡◌, ℕ, suc, ◌+◌, Bool, true, false, cond, List, [], ◌∷◌, ◌++◌, length, map}
use Rattle.std.proofs.Common.{option_map, Some, ⊎_elim, refl, sym, ap, ◌∙◌, subst, arith}
use Rattle.std.proofs.Common.{length-append, append-nil}
use Rattle.std.specs.Prelude.{slice_get}
use Rattle.std.proofs.lemmas.Bool.{cases_Bool, true≢false}
use Rattle.std.proofs.lemmas.Option.{slice_get-map}
use Rattle.pp_model.specs.declared.Answer.{Answer}
use Rattle.pp_model.specs.declared.Answer.TheVariants.{Said, Full, Lost}
use Rattle.pp_model.specs.declared.Placed.{Placed}
use Rattle.pp_model.specs.declared.Pair.{Pair}
use Rattle.pp_model.specs.Lists.{AtEach, IsPrefix}
use Rattle.pp_model.specs.Calls.{changes}
use Rattle.pp_model.specs.History.{Stands, places_of}
use Rattle.pp_model.specs.Pass.{PassView, GoingView, NoteView, MapSizes, Meaning, RunView, CallerRun, steps_of}
use Rattle.pp_model.specs.MapCalls.{IsClosing, caller_run, Counted, Says, placed, took_effect}
use Rattle.pp_model.proofs.Histories.{places_of-append}
use Rattle.pp_schedule.specs.Schedule.{Effect, none, struck, Closed, Advances}
use Rattle.pp_model.specs.MapCalls.{MakesTurn}
use Rattle.pp_schedule.specs.Calls.{Entering, CallerAt, Has, goes_on, begins, Leaves, on, done, CallerTurn, InCall}
use Rattle.pp_schedule.specs.Calls.{strikes, count_after}

-- a list that grew and has as many elements is the same
same_length : {A : Type 0} → (xs ys : List A) → IsPrefix xs ys → length xs ≡ length ys → ys ≡ xs
same_length {A = A} xs ys (more, is) e = by_more more is
  where
    by_more : (more : List A) → ys ≡ xs ++ more → ys ≡ xs
    by_more [] is = is ∙ append-nil xs
    by_more (m ∷ more) is = absurd (omega (arith, e, ap length is, length-append xs (m ∷ more)))

-- a list that grew by one and is the old one with one more, as before, is the same
pub entered_once : (before ready now : List Placed) (s t : Placed) → ready ≡ before ++ s ∷ [] → now ≡ before ++ t ∷ []
    → IsPrefix ready now
    → now ≡ ready
entered_once before ready now s t was is grew =
    same_length ready now grew
    (omega (arith, ap length was, ap length is, length-append before (s ∷ []), length-append before (t ∷ [])))

pub placed_change : (mine : List Placed) (s : Placed) → changes s.reply ≡ true → places_of (mine ++ s ∷ []) ≡ places_of mine
    ++ s.place ∷ []
placed_change mine s changed =
    let one : places_of (s ∷ []) ≡ s.place ∷ [] = rw changed refl in
    places_of-append mine (s ∷ []) ∙ ap (λ xs. places_of mine ++ xs) one

pub placed_other : (mine : List Placed) (s : Placed) → changes s.reply ≡ false → places_of (mine ++ s ∷ []) ≡ places_of mine
placed_other mine s not =
    let one : places_of (s ∷ []) ≡ [] = rw not refl in
    places_of-append mine (s ∷ []) ∙ (ap (λ xs. places_of mine ++ xs) one ∙ append-nil (places_of mine))

-- what a turn did to the log, with as many changes as are counted
abbrev Effects : Bool → Bool → PassView → PassView → Type 0
Effects was is before now = (places : List ℕ) × Effect before now places × (length places ≡ count_after was is 0)

pub strikes_was : (was is : Bool) → was ≡ true → strikes was is ≡ false
strikes_was true true e = refl
strikes_was true false e = refl
strikes_was false is e = absurd (true≢false (sym e))

pub strikes_still : (was is : Bool) → is ≡ false → strikes was is ≡ false
strikes_still was true e = absurd (true≢false e)
strikes_still was false e = refl

pub strikes_new : (was is : Bool) → was ≡ false → is ≡ true → strikes was is ≡ true
strikes_new true is e f = absurd (true≢false e)
strikes_new false true e f = refl
strikes_new false false e f = absurd (true≢false (sym f))

uncounted : (was is : Bool) → strikes was is ≡ false → 0 ≡ count_after was is 0
uncounted was is e = sym (ap (λ b. cond b (0 + 1) 0) e)

counted_once : (was is : Bool) → strikes was is ≡ true → 1 ≡ count_after was is 0
counted_once was is e = sym (ap (λ b. cond b (0 + 1) 0) e)

nothing : (was is : Bool) (before now : PassView) → now.mine ≡ before.mine → strikes was is ≡ false → Effects was is before now
nothing was is before now same not = ([], none (ap places_of same), uncounted was is not)

module _ (meaning : Meaning) (sizes : MapSizes) (was now : GoingView) (before ready left : PassView)
    (turn : MakesTurn meaning was now ready left) (in_call : Entering was before ready) where
  strikes_effect : was.struck ≡ false → now.struck ≡ true → Effects was.struck now.struck ready left
  strikes_effect was_not is =
      let s = turn.strikes was_not is in
      let one = placed was.call s.said s.place in (
        s.place ∷ [],
        struck s.place (ap places_of s.mine ∙ placed_change ready.mine one s.changed) s.above s.within,
        counted_once was.struck now.struck (strikes_new was.struck now.struck was_not is),
      )

  again_effect : was.struck ≡ true → (t : Placed) → left.mine ≡ before.mine ++ t ∷ [] → Effects was.struck now.struck ready left
  again_effect was_so t is =
      let had = in_call.taken was_so in
      nothing was.struck now.struck ready left (entered_once before.mine ready.mine left.mine had.0 t had.2 is turn.grew.mine)
      (strikes_was was.struck now.struck was_so)

  -- a turn that goes on
  pub on_effect : Counted meaning sizes now before left → Effects was.struck now.struck ready left
  on_effect counted =
      ⊎_elim
      (λ (was_so : was.struck ≡ true).
      let took = counted.effect (turn.same.struck was_so) in
      again_effect was_so (placed now.call took.said took.entered.place) took.entered.mine)
      (λ (was_not : was.struck ≡ false).
      ⊎_elim
      (λ (is : now.struck ≡ true). strikes_effect was_not is)
      (λ (is_not : now.struck ≡ false). nothing was.struck now.struck ready left (counted.no_effect is_not ∙ sym (in_call.none was_not))
      (strikes_still was.struck now.struck is_not))
      (cases_Bool now.struck))
      (cases_Bool was.struck)

  pub on_entering : Counted meaning sizes now before left → Entering now before left
  on_entering counted = record {
    none = counted.no_effect;
    taken = λ is. let took = counted.effect is in (placed now.call took.said took.entered.place, took.changed, took.entered.mine);
  }

  -- a turn that ends the call
  pub done_effect : (answer : Answer) → now.struck ≡ took_effect answer → Says meaning sizes was.call before left answer
      → Effects was.struck now.struck ready left
  done_effect (Said r) is says =
      let one = placed was.call r says.place in
      ⊎_elim
      (λ (changed : changes r ≡ true).
      ⊎_elim
      (λ (was_so : was.struck ≡ true). again_effect was_so one says.mine)
      (λ (was_not : was.struck ≡ false). strikes_effect was_not (is ∙ changed))
      (cases_Bool was.struck))
      (λ (unchanged : changes r ≡ false).
      ⊎_elim
      (λ (was_so : was.struck ≡ true). absurd (true≢false (sym (turn.same.struck was_so) ∙ (is ∙ unchanged))))
      (λ (was_not : was.struck ≡ false). (
        [],
        none (ap places_of says.mine ∙ (placed_other before.mine one unchanged ∙ ap places_of (sym (in_call.none was_not)))),
        uncounted was.struck now.struck (strikes_still was.struck now.struck (is ∙ unchanged)),
      ))
      (cases_Bool was.struck))
      (cases_Bool (changes r))
  done_effect Full is says =
      ⊎_elim
      (λ (was_so : was.struck ≡ true). absurd (true≢false (sym (turn.same.struck was_so) ∙ is)))
      (λ (was_not : was.struck ≡ false). nothing was.struck now.struck ready left (says.mine ∙ sym (in_call.none was_not))
      (strikes_still was.struck now.struck is))
      (cases_Bool was.struck)
  done_effect (Lost turns) is says =
      ⊎_elim
      (λ (was_so : was.struck ≡ true). absurd (true≢false (sym (turn.same.struck was_so) ∙ is)))
      (λ (was_not : was.struck ≡ false). nothing was.struck now.struck ready left (says.mine ∙ sym (in_call.none was_not))
      (strikes_still was.struck now.struck is))
      (cases_Bool was.struck)

-- What closing tells of the passes.
pub closed_of : (meaning : Meaning) (sizes : MapSizes) (passes : List PassView) (contents : List Pair) (free : List ℕ) (run : RunView)
    → IsClosing meaning sizes passes contents free run → AtEach passes (λ k p. p.caller ≡ k) → Closed passes run.log run.order
closed_of meaning sizes passes contents free run closing callers = record {
  own_order = closing.order;
  own_seen = closing.seen;
  own_steps = λ d p at.
      let here : slice_get run.callers d ≡ Some (caller_run p) =
      ap (λ (rs : List CallerRun). slice_get rs d) closing.callers_are ∙ (slice_get-map caller_run passes d ∙ got d p at) in
      closing.ordered.own_steps d (caller_run p) here ∙ ap (λ n. steps_of n run.order) (callers d p at);
  stand = λ d p at. subst (λ n. Stands run.log n p.mine) (callers d p at) (closing.stand d p at);
  known_changes = closing.known;
  known_steps = λ k e at.
      let many : length run.callers ≡ length passes = ap length closing.callers_are ∙ many_of passes in
      omega (arith, closing.ordered.own_passes k e at, many);
  all = (closing.saw_all.position, closing.saw_all.last, closing.saw_all.is_one, closing.saw_all.order);
}
  where
    got : (d : ℕ) (p : PassView) → slice_get passes d ≡ Some p → option_map caller_run (slice_get passes d) ≡ Some (caller_run p)
    got d p at = ap (option_map caller_run) at

    many_of : (ps : List PassView) → length (map caller_run ps) ≡ length ps
    many_of [] = refl
    many_of (p ∷ ps) = ap suc (many_of ps)

-- a caller's turn, as the order of steps and the log see it
pub turn_advances : (meaning : Meaning) (sizes : MapSizes) (races c : ℕ) (told : NoteView) (v w : CallerAt)
    → (t : CallerTurn meaning sizes races told v w) → v.pass.caller ≡ c → InCall v
    → (places : List ℕ) × Advances meaning.turn_steps told c v.pass w.pass places
    × (length places ≡ count_after t.going.struck t.now.struck 0)
turn_advances meaning sizes races c told v w t own in_call =
    let caller : t.ready.caller ≡ c = ap (λ (p : PassView). p.caller) t.learnt.same ∙ own in
    let mine : t.ready.mine ≡ v.pass.mine = ap (λ (p : PassView). p.mine) t.learnt.same in
    let effects = by_leaves t.leaves (kept t.has mine) in (
      effects.0,
      record {
        ready = t.ready;
        kept_steps = ap (λ (p : PassView). p.steps) t.learnt.same;
        kept_mine = mine;
        learnt_order = t.learnt.order;
        learnt_seen = t.learnt.seen;
        told_order = t.learnt.noted_order;
        told_seen = t.learnt.noted_seen;
        ready_steps = t.learnt.own_steps ∙ ap (λ n. steps_of n t.ready.order) caller;
        order = t.turn.grew.order;
        seen = t.turn.grew.seen;
        now_steps = t.turn.grew.own_steps ∙ ap (λ n. steps_of n w.pass.order) (t.turn.grew.caller ∙ caller);
        least_steps = t.turn.stepped;
        effect = effects.1;
      },
      effects.2,
    )
  where
    kept : Has races v t.going t.before w.calls → t.ready.mine ≡ v.pass.mine → Entering t.going t.before t.ready
    kept (goes_on is rest) mine =
        let e = in_call _ is in
        record {
          none = λ not. mine ∙ e.none not;
          taken = λ so. let had = e.taken so in (had.0, had.1, mine ∙ had.2);
        }
    kept (begins call idle is same begun) mine = record {
      none = λ not. mine ∙ ap (λ (p : PassView). p.mine) (sym same);
      taken = λ so. absurd (true≢false (sym so ∙ begun.untouched));
    }

    by_leaves : Leaves meaning sizes t.going t.now t.before v w → Entering t.going t.before t.ready
        → Effects t.going.struck t.now.struck t.ready w.pass
    by_leaves (on doing answers counted) e = on_effect meaning sizes t.going t.now t.before t.ready w.pass t.turn e counted
    by_leaves (done answer doing answers is made) e =
        done_effect meaning sizes t.going t.now t.before t.ready w.pass t.turn e answer is made.told.says
