-- A walk word may be cleared, and it is told that no record in hand can be reached then.
use Rattle.std.proofs.Common.{◌≡◌, ℕ, ◌<◌, List, [], ◌∷◌, ◌++◌, length, set, refl, sym, ap, ◌∙◌, subst}
use Rattle.std.proofs.Common.{arith}
use Rattle.std.proofs.Math.Bool.{false≢true}
use Rattle.atomic_table.specs.Table.{Me, keeps, Allows}
use Rattle.pp_link.specs.declared.layout.Sizes.{Sizes}
use Rattle.pp_link.specs.Places.{walk_place}
use Rattle.pp_link.proofs.Stores.{walk_stored}
use Rattle.pp_rule.specs.Lists.{IsIn}
use Rattle.pp_rule.specs.declared.views.LoggedStep.{LoggedStep}
use Rattle.pp_rule.specs.declared.views.PassState.{PassState}
use Rattle.pp_rule.specs.declared.views.SeatView.{SeatView}
use Rattle.pp_rule.specs.Orders.{clear_step, replayed, entries_of}
use Rattle.pp_rule.specs.Views.{naming, all_of}
use Rattle.pp_rule.specs.States.{RecordState, attached, in_hand, PoolState}
use Rattle.pp_rule.specs.Rule.{Base}
use Rattle.pp_rule.specs.Ties.{Holds}
use Rattle.pp_rule.specs.Reached.{Reached}
use Rattle.pp_rule.specs.Steps.{entry, alone, IsAlone, MadeQuietStep, clearing}
use Rattle.pp_rule.specs.Looks.{Clears}
use Rattle.pp_rule.specs.Laws.{KeptCleared}
use Rattle.pp_rule.proofs.Slots.{WalkSet, clears_after}
use Rattle.pp_rule.proofs.Stepping.{after_step, ties_after, runs_after, aside_after, aside_reached, low_aside}
use Rattle.pp_rule.proofs.Put.{put_here}
use Rattle.pp_rule.proofs.Frames.{SameContent, content_used, walk_content}
use Rattle.pp_rule.proofs.Keeping.{clears_looks}
use Rattle.pp_rule.proofs.WalkWords.{base_walk_stored}
use Rattle.pp_rule.proofs.Reaching.{reached_attached}
use Rattle.pp_base.specs.Passes.{IsPassOf}
use Rattle.pp_base.proofs.Telling.{telling, made_alone}
use Rattle.pp_detached.specs.Gone.{AreGone}

hand_attached : (s : RecordState) (p j : ℕ) → s ≡ in_hand p j → s ≡ attached → ⊥
hand_attached s p j a b = let e : in_hand p j ≡ attached = sym a ∙ b in cc

module _ {E A W : Type 0} (sides : ℕ) (opens : Sizes → List ℕ) (addition : Sizes → List ℕ → PoolState E A W → Type 0) where
  -- by the rule, a record in hand is not attached, and so it can't be reached
  gone_there : (z : Sizes) (words : List ℕ) (g : PoolState E A W) (w : SeatView E A W) → Base sides z words g
      → w.known.number < z.passes → g.of w.known.number ≡ w.known → replayed (opens z) (entries_of w.order) ≡ words
      → AreGone sides z (opens z) w
  gone_there z words g w b low is leaves = record {
    gone = λ c n i j r. let m = b.chains.members w.known.number n c low (subst (λ (q : PassState W). IsIn c q.chains) (sym is) i) j in
        hand_attached (g.status n) w.known.number c.guard m.1 (reached_attached sides z words g b n m.0
        (subst (λ (ws : List ℕ). Reached sides z ws n) leaves r));
  }

  pub clears_gone : (forget : ℕ → W → W) → KeptCleared sides addition forget
      → (z : Sizes) (slots id place i : ℕ) (me : Me Unit (SeatView E A W)) → IsAlone me
      → i < 5 → place ≡ walk_place z me.0.known.number i
      → Allows (Holds sides opens addition z) slots id me place (λ _. 0)
      (λ _ m'. ((m'.1 ≡ []) × MadeQuietStep clear_step place 0 0 (clearing forget i me.0.known) me.0 m'.0)
      × AreGone sides z (opens z) m'.0)
  clears_gone forget clears z slots id place i me lone lt at =
      subst (λ (c : List (ℕ × Unit)). Allows (Holds sides opens addition z) slots id (me.0, c) place (λ _. 0)
      (λ _ m'. ((m'.1 ≡ []) × MadeQuietStep clear_step place 0 0 (clearing forget i me.0.known) me.0 m'.0)
      × AreGone sides z (opens z) m'.0)) (sym lone.0)
      (λ s h deep here fits. let v : SeatView E A W = me.0 in
      let g : PoolState E A W = h.pool in
      let q : PassState W = v.known in
      let q' : PassState W = clearing forget i q in
      let tied = h.ties.each_seat id v here in
      let standing : IsIn v.known (all_of v) = subst (λ (u : SeatView E A W). IsIn v.known (all_of u)) (sym lone.1) (0, refl) in
      let mine = tied.each v.known standing in
      let e : LoggedStep E A = entry clear_step place 0 0 [] [] g.order q' in
      let w : SeatView E A W = alone (g.order ++ e ∷ []) q' in
      let new : List ℕ = set s.words place 0 in
      let is_set : WalkSet i (naming 0) q q' = record {
        number = refl;
        sizes = refl;
        owned = refl;
        retired_are = refl;
        frontier = refl;
        chains = refl;
        scan = refl;
        walk = refl;
      } in
      let b' : Base sides z new (after_step g q' g.status e) = subst (λ (k : ℕ). Base sides z (set s.words k 0)
      (after_step g q' g.status e)) (sym at)
      (base_walk_stored sides z s.words g q q' i 0 e h.base mine.number mine.is lt is_set) in
      let content : SameContent z s.words new = subst (λ (k : ℕ). SameContent z s.words (set s.words k 0)) (sym at)
      (walk_content z s.words (walk_place z q.number i) 0 q.number i (walk_stored z s.words 0 h.base.wide q.number i mine.number lt)) in
      let five : length q.walk ≡ 5 = ap (λ (u : PassState W). length u.walk) (sym mine.is) ∙ h.base.hazards.five q.number mine.number in
      let deep : i < length q.walk = omega arith in
      let runs = runs_after (opens z) s.words g.order q' clear_step place 0 0 [] [] h.runs (λ bad. absurd (false≢true (sym bad)))
      (λ yes. refl) (λ _. refl) in (
        w,
        keeps,
        tt,
        record {
          pool = after_step g q' g.status e;
          ties = ties_after z s.views g id v q' g.status e h.ties here lone.1 refl mine.sizes refl;
          runs = runs;
          aside = aside_after sides z (opens z) g.order e h.aside (λ _. aside_reached sides z s.words g h.base h.runs place
              (low_aside z g place (let low = mine.number in omega arith)));
          base = b';
          added = clears z s.words new g (after_step g q' g.status e) q.number i h.base b'
              (clears_looks sides z forget s.words new g q' i e
              (content_used z g.status s.words new content) refl refl mine.number lt
              (subst (λ (u : PassState W). Clears forget i u q') (sym mine.is) (clears_after forget q q' i refl deep refl))) h.added;
        },
        (
          (refl, record { so_far = g.order; begins = tied.begins; own_steps = sym mine.steps; is = refl }),
          gone_there z new (after_step g q' g.status e) w b' mine.number (put_here g.of q'.number q') runs.leaves,
        ),
      ))

  pub clears_gone_on : (forget : ℕ → W → W) → KeptCleared sides addition forget
      → (z : Sizes) (slots id place i : ℕ) (me : Me Unit (SeatView E A W)) → IsAlone me
      → i < 5 → place ≡ walk_place z me.0.known.number i
      → Allows (Holds sides opens addition z) slots id me place (λ _. 0)
      (λ _ m'. (((m'.1 ≡ []) × MadeQuietStep clear_step place 0 0 (clearing forget i me.0.known) me.0 m'.0)
      × AreGone sides z (opens z) m'.0) × IsPassOf z m'.0.known)
  clears_gone_on forget clears z slots id place i me lone lt at = telling sides opens addition z slots id me place (λ _. 0)
      (λ _ m'. ((m'.1 ≡ []) × MadeQuietStep clear_step place 0 0 (clearing forget i me.0.known) me.0 m'.0)
      × AreGone sides z (opens z) m'.0)
      (clears_gone forget clears z slots id place i me lone lt at) (λ _ m t. made_alone m t.0.0 t.0.1)
