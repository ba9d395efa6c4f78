use Rattle.std.proofs.Common.{◌≡◌, ℕ, ◌+◌, ◌<◌, Some, None, length, drop, List, []}
use Rattle.std.proofs.Common.{arith, ⊎_elim, refl, sym, ap, ◌∙◌, subst, get_or}
use Rattle.std.specs.Prelude.{slice_get}
use Rattle.std.proofs.lemmas.Bool.{cases_eq}
use Rattle.std.proofs.lemmas.List.{drop_more, drop_all}
use Rattle.std.proofs.lemmas.Option.{slice_get-get_or, slice_get_read}
use Rattle.pp_schedule.specs.Seats.{IsOver, passes, takes, least, all_over}
use Rattle.pp_schedule.proofs.Moved.{some_same}
use Rattle.pp_schedule.proofs.schedule.choose.Goals as goal

known : (xs : List ℕ) (n i : ℕ) → ((k x : ℕ) → slice_get xs k ≡ Some x → x < n) → i < length xs → get_or xs i 0 < n
known xs n i all within = all i (get_or xs i 0) (slice_get-get_or xs i 0 within)

pub offset_bounds-callers-caller : goal.offset_bounds-callers-caller
offset_bounds-callers-caller g c =
    let k = known c.args.plan.now (length c.args.callers.now) c.loop-at.at c.requires.known c.loop-at-test.true in omega (arith, k)

pub bounds-callers-caller : goal.bounds-callers-caller
bounds-callers-caller g c = known c.args.plan.now (length c.args.callers.now) c.loop-at.at c.requires.known c.loop-at-test.true

pub returns-then-has_more : goal.returns-then-has_more
returns-then-has_more g c =
    let plan = c.args.plan.now in
    let xs = c.args.callers.now in
    let i = c.loop-at.at in
    let k = get_or plan i 0 in
    let lt : k < length xs = known plan (length xs) i c.requires.known c.loop-at-test.true in
    let at : slice_get xs k ≡ Some c.index-callers-caller.result = slice_get_read xs
    (length xs) k c.index-callers-caller.result refl lt c.index-callers-caller.is in
    record {
      chosen = c.loop-at.invariant (Some k) (drop (i + 1) plan)
          (rw (drop_more plan i 0 c.loop-at-test.true) (takes k (drop (i + 1) plan)
          (λ over. c.has_more.ensures.some c.if-has_more.true (over c.index-callers-caller.result at)) lt));
    }

pub loop-at-preserved : goal.loop-at-preserved
loop-at-preserved g c = λ r left later.
    let plan = c.args.plan.now in
    let xs = c.args.callers.now in
    let i = c.loop-at.at in
    let k = get_or plan i 0 in
    let lt : k < length xs = known plan (length xs) i c.requires.known c.loop-at-test.true in
    let at : slice_get xs k ≡ Some c.index-callers-caller.result = slice_get_read xs
    (length xs) k c.index-callers-caller.result refl lt c.index-callers-caller.is in
    c.loop-at.invariant r left (rw (drop_more plan i 0 c.loop-at-test.true) (passes k (drop (i + 1) plan) left r
    (λ x is. subst (λ y. IsOver y) (some_same (sym at ∙ is)) (c.has_more.ensures.none c.if-has_more.false)) later))

pub returns-then-has_more-2 : goal.returns-then-has_more-2
returns-then-has_more-2 g c =
    let plan = c.args.plan.now in
    let xs = c.args.callers.now in
    let k = c.loop-caller.caller in
    let res = c.index-callers-caller-in-loop-caller.result in
    let at : slice_get xs k ≡ Some res = slice_get_read xs (length xs) k res refl c.loop-caller-test.true
    c.index-callers-caller-in-loop-caller.is in
    let nil : drop c.loop-at.at plan ≡ [] = drop_all c.loop-at.at plan c.loop-caller.invariant.past in
    record {
      chosen = c.loop-caller.invariant.passed (Some k) (drop c.loop-at.at plan)
          (rw nil (least k (λ over. c.has_more-in-loop-caller.ensures.some c.if-has_more-2.true (over res at))
          c.loop-caller-test.true c.loop-caller.invariant.over));
    }

pub loop-caller-preserved : goal.loop-caller-preserved
loop-caller-preserved g c =
    let xs = c.args.callers.now in
    let k = c.loop-caller.caller in
    let res = c.index-callers-caller-in-loop-caller.result in
    let at : slice_get xs k ≡ Some res = slice_get_read xs (length xs) k res refl c.loop-caller-test.true
    c.index-callers-caller-in-loop-caller.is in
    record {
      past = c.loop-caller.invariant.past;
      over = λ d lt x is.
          ⊎_elim
          (λ (same : d ≡ k).
          subst (λ y. IsOver y) (some_same (sym at ∙ (ap (slice_get xs) (sym same) ∙ is)))
          (c.has_more-in-loop-caller.ensures.none c.if-has_more-2.false))
          (λ (other : d ≡ k → ⊥). c.loop-caller.invariant.over d (omega (arith, lt, other)) x is)
          (cases_eq d k);
      passed = c.loop-caller.invariant.passed;
    }

pub returns : goal.returns
returns g c =
    let plan = c.args.plan.now in
    let xs = c.args.callers.now in
    let nil : drop c.loop-at.at plan ≡ [] = drop_all c.loop-at.at plan c.loop-caller.invariant.past in
    record {
      chosen = c.loop-caller.invariant.passed None (drop c.loop-at.at plan)
          (rw nil (all_over (λ d lt. c.loop-caller.invariant.over d (omega (arith, lt, c.loop-caller-test.false)))));
    }
