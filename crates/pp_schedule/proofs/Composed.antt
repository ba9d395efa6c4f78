-- What a pass keeps over two turns of a call with a note learnt between them.
use Rattle.std.proofs.Common.{◌≡◌, ℕ, ◌+◌, ◌-◌, ◌<◌, ◌≤◌, List, [], ◌∷◌, ◌++◌, length, drop, Some, ⊎_elim, refl, sym}
use Rattle.std.proofs.Common.{ap, ◌∙◌, subst, arith, append_assoc}
use Rattle.std.specs.Prelude.{slice_get}
use Rattle.std.proofs.lemmas.Bool.{cases_lt}
use Rattle.pp_model.specs.declared.steps.Step.{Step}
use Rattle.pp_model.specs.Lists.{IsPrefix}
use Rattle.pp_model.specs.Pass.{PassView, NoteView, steps_since, seen_last}
use Rattle.pp_model.specs.MapCalls.{Grew, Learns}
use Rattle.pp_model.proofs.Chains.{IsPrefix-trans}
use Rattle.pp_model.proofs.Histories.{slice_get-append_left, slice_get-append_right}
use Rattle.pp_schedule.proofs.Orders.{prefix_length}
use Rattle.pp_schedule.proofs.Places.{drop_front}

last_kept : (d e : ℕ) (xs ys : List Step) → 1 ≤ length ys → seen_last d (xs ++ ys) ≡ seen_last e ys
last_kept d e [] [] some = absurd (omega (arith, some))
last_kept d e [] (y ∷ ys) some = refl
last_kept d e (x ∷ xs) ys some = last_kept x.seen e xs ys some

pub grew_over : (note : NoteView) (before left ready now : PassView) → Grew before left → Learns note left ready → Grew ready now
    → 1 ≤ length (steps_since ready now) → before.room ≤ now.room + 1 → Grew before now
grew_over note before left ready now first learnt second some room =
    let same = learnt.same in
    let steps : ready.steps ≡ left.steps = ap (λ (p : PassView). p.steps) same in
    let mine : ready.mine ≡ left.mine = ap (λ (p : PassView). p.mine) same in
    let to_ready : IsPrefix before.steps ready.steps = subst (λ xs. IsPrefix before.steps xs) (sym steps) first.steps in
    let to_now = IsPrefix-trans before.steps ready.steps now.steps to_ready second.steps in
    let old : steps_since before left ≡ first.steps.0 = ap (drop (length before.steps)) first.steps.1
    ∙ drop_front before.steps first.steps.0 in
    let new : steps_since ready now ≡ second.steps.0 = ap (drop (length ready.steps)) second.steps.1
    ∙ drop_front ready.steps second.steps.0 in
    let all : now.steps ≡ before.steps ++ (first.steps.0 ++ second.steps.0) =
    second.steps.1 ∙ (ap (λ xs. xs ++ second.steps.0) (steps ∙ first.steps.1) ∙ append_assoc before.steps first.steps.0 second.steps.0) in
    let since : steps_since before now ≡ steps_since before left ++ steps_since ready now =
    ap (drop (length before.steps)) all ∙ (drop_front before.steps (first.steps.0 ++ second.steps.0)
    ∙ (ap (λ xs. xs ++ second.steps.0) (sym old) ∙ ap (λ xs. steps_since before left ++ xs) (sym new))) in
    let seen = IsPrefix-trans before.seen ready.seen now.seen
    (IsPrefix-trans before.seen left.seen ready.seen first.seen learnt.seen) second.seen in
    record {
      caller = second.caller ∙ (ap (λ (p : PassView). p.caller) same ∙ first.caller);
      share = second.share ∙ (ap (λ (p : PassView). p.share) same ∙ first.share);
      seen = seen;
      steps = to_now;
      order = IsPrefix-trans before.order ready.order now.order
          (IsPrefix-trans before.order left.order ready.order first.order learnt.order) second.order;
      wrote = let w = ap (λ (p : PassView). p.wrote) same in omega (arith, first.wrote, second.wrote, w);
      room = room;
      own_steps = second.own_steps;
      seen_by = λ any. ap (seen_last 0) since ∙ (last_kept 0 0 (steps_since before left) (steps_since ready now) some
          ∙ second.seen_by some);
      saw = λ k s at.
          let at' : slice_get (steps_since before left ++ steps_since ready now) k ≡ Some s = ap
          (λ (xs : List Step). slice_get xs k) (sym since) ∙ at in
          let to_left = prefix_length left.seen ready.seen learnt.seen in
          let to_end = prefix_length ready.seen now.seen second.seen in
          let from = prefix_length before.seen left.seen first.seen in
          ⊎_elim
          (λ (lt : k < length (steps_since before left)).
          let h = first.saw k s (sym (slice_get-append_left (steps_since before left) (steps_since ready now) k lt) ∙ at') in
          (h.0, omega (arith, h.1, to_left, to_end)))
          (λ (ge : length (steps_since before left) ≤ k).
          let j = k - length (steps_since before left) in
          let e : length (steps_since before left) + j ≡ k = omega (arith, ge) in
          let there = sym (slice_get-append_right (steps_since before left) (steps_since ready now) j)
          ∙ (ap (slice_get (steps_since before left ++ steps_since ready now)) e ∙ at') in
          let h = second.saw j s there in
          (omega (arith, h.0, from, to_left), h.1))
          (cases_lt k (length (steps_since before left)));
      mine = IsPrefix-trans before.mine ready.mine now.mine (subst (λ xs. IsPrefix before.mine xs) (sym mine) first.mine) second.mine;
    }
