-- What a pass keeps over the turns of a call with notes learnt between them.
--
-- Right after it learnt a note a pass has seen more than its last step saw. The next turn that makes a step closes the gap.
use Rattle.std.proofs.Common.{◌≡◌, ℕ, ◌+◌, ◌≤◌, List, [], ◌∷◌, ◌++◌, length, drop, refl, sym, ap, ◌∙◌, subst, arith}
use Rattle.std.specs.Prelude.{slice_get, Some}
use Rattle.pp_model.specs.declared.Placed.{Placed}
use Rattle.pp_model.specs.declared.steps.Step.{Step}
use Rattle.pp_model.specs.Lists.{AtEach, IsPrefix}
use Rattle.pp_model.specs.Pass.{PassView, NoteView, steps_since, seen_last}
use Rattle.pp_model.specs.MapCalls.{Grew, Learns, seeing}
use Rattle.pp_model.proofs.Positions.{each_append, IsPrefix-trans, IsPrefix-length, drop_over}

-- two notes learnt one after the other
pub learns_again : (one two : NoteView) (before ready now : PassView) → Learns one before ready → Learns two ready now
    → Learns two before now
learns_again one two before ready now first second = record {
  same = second.same ∙ ap (seeing now.seen now.order) first.same;
  seen = IsPrefix-trans before.seen ready.seen now.seen first.seen second.seen;
  order = IsPrefix-trans before.order ready.order now.order first.order second.order;
  noted_seen = second.noted_seen;
  noted_order = second.noted_order;
  own_steps = second.own_steps;
}

last_kept : (d e : ℕ) (xs ys : List Step) → 1 ≤ length ys → seen_last d (xs ++ ys) ≡ seen_last e ys
last_kept d e [] [] some = absurd (omega arith)
last_kept d e [] (y ∷ ys) some = refl
last_kept d e (x ∷ xs) ys some = last_kept x.seen e xs ys some

-- A turn, a note learnt behind it, and a further turn that makes a step: all that one turn keeps is kept over both.
pub grew_over : (note : NoteView) (before left ready now : PassView) → Grew before left → Learns note left ready → Grew ready now
    → 1 ≤ length (steps_since ready now) → before.room ≤ now.room + 1 → Grew before now
grew_over note before left ready now first learnt second some room =
    let same = learnt.same in
    let steps : ready.steps ≡ left.steps = ap (λ (p : PassView). p.steps) same in
    let mine : ready.mine ≡ left.mine = ap (λ (p : PassView). p.mine) same in
    let earlier : IsPrefix before.steps ready.steps =
    subst (λ (xs : List Step). IsPrefix before.steps xs) (sym steps) first.steps in
    let since : steps_since before now ≡ steps_since before ready ++ steps_since ready now =
    drop_over before.steps ready.steps now.steps earlier second.steps in
    let old : steps_since before ready ≡ steps_since before left = ap (λ (xs : List Step). drop (length before.steps) xs) steps in
    let met = IsPrefix-trans left.seen ready.seen now.seen learnt.seen second.seen in
    let more = IsPrefix-length left.seen now.seen met in
    let from = IsPrefix-length before.seen left.seen first.seen in
    let shown = IsPrefix-length left.seen ready.seen learnt.seen in
    let Within : Step → Type 0 = λ s. (length before.seen ≤ s.seen) × (s.seen ≤ length now.seen) in
    let saw : AtEach (steps_since before ready ++ steps_since ready now) (λ k s. Within s) =
    each_append Within (steps_since before ready) (steps_since ready now)
    (λ k s at.
    let h = first.saw k s (subst (λ (xs : List Step). slice_get xs k ≡ Some s) old at) in
    (h.0, omega (arith, h.1, more)))
    (λ k s at. let h = second.saw k s at in (omega (arith, h.0, from, shown), h.1)) in
    record {
      caller = second.caller ∙ (ap (λ (p : PassView). p.caller) same ∙ first.caller);
      share = second.share ∙ (ap (λ (p : PassView). p.share) same ∙ first.share);
      seen = IsPrefix-trans before.seen left.seen now.seen first.seen met;
      steps = IsPrefix-trans before.steps ready.steps now.steps earlier second.steps;
      order = IsPrefix-trans before.order left.order now.order first.order
          (IsPrefix-trans left.order ready.order now.order learnt.order second.order);
      wrote = omega (arith, first.wrote, second.wrote, ap (λ (p : PassView). p.wrote) same);
      room = room;
      own_steps = second.own_steps;
      seen_by = λ any. ap (seen_last 0) since
          ∙ (last_kept 0 0 (steps_since before ready) (steps_since ready now) some ∙ second.seen_by some);
      saw = subst (λ (xs : List Step). AtEach xs (λ k s. Within s)) (sym since) saw;
      mine = IsPrefix-trans before.mine ready.mine now.mine
          (subst (λ (xs : List Placed). IsPrefix before.mine xs) (sym mine) first.mine) second.mine;
    }
