-- A flush of chains in hand is calm.
use Rattle.std.proofs.Common.{ℕ, zero, suc, ◌+◌, ◌≤◌, List, [], ◌∷◌, ◌++◌, length, refl, arith}
use Rattle.std.proofs.Math.Decide.{ℕ_discrete}
use mathlib.Core.Logic.{dite}
use Rattle.pp_link.specs.declared.layout.Sizes.{Sizes}
use Rattle.pp_link.specs.Places.{cell_place, frontier_place}
use Rattle.pp_rule.specs.Paths.{links_of}
use Rattle.pp_rule.specs.declared.views.SeatView.{SeatView}
use Rattle.pp_base.specs.Chains.{chain_at}
use Rattle.pp_base.specs.Named.{NamedStep, invalidates, retires, Made}
use Rattle.pp_base.proofs.Calm.{AreCalm, calm_both, calm_one, calm_none}
use Rattle.pp_base.proofs.Named.{made_append}
use Rattle.pp_unlink.specs.Invalidation.{Flushed, invalidations}
use Rattle.pp_unlink.specs.Unlinking.{MayFlush}

links_calm : (z : Sizes) (ls : List (ℕ × ℕ)) (words : List ℕ) → AreCalm (invalidations z ls words)
unfolding invalidations
links_calm z [] words = calm_none
links_calm z (l ∷ ls) [] = calm_none
links_calm z (l ∷ ls) (w ∷ words) = calm_one (invalidates (cell_place z l.0 (2 + l.1)) w) (invalidations z ls words) refl
    (links_calm z ls words)

module _ {E A W : Type 0} (sides : ℕ) (z : Sizes) where
  flushed_calm : (n : ℕ) (v w : SeatView E A W) → Flushed sides z n v w → (steps : List NamedStep) × (Made steps v w × AreCalm steps)
  flushed_calm zero v w is = ([], (is, calm_none))
  flushed_calm (suc n) v w f = let one = f.1.0 in let rest = flushed_calm n f.0 w f.1.1 in let c = chain_at v.known 0 in
      let last : NamedStep = retires (frontier_place z v.known.number c.guard) in
      let sets : List NamedStep = invalidations z (links_of sides c.records) one.words in (
        (sets ++ last ∷ []) ++ rest.0,
        (
          made_append (sets ++ last ∷ []) rest.0 v f.0 w one.steps rest.1.0,
          calm_both (sets ++ last ∷ []) rest.0 (calm_both sets (last ∷ []) (links_calm z (links_of sides c.records) one.words)
              (calm_one last [] refl calm_none)) rest.1.1,
        ),
      )

  pub flush_calm : (v w : SeatView E A W) → length v.known.chains ≤ 4 → MayFlush sides z v w
      → (steps : List NamedStep) × (Made steps v w × AreCalm steps)
  flush_calm v w few f = dite (ℕ_discrete (length v.known.chains) 4) (λ e. flushed_calm 4 v w (f.full e))
      (λ ne. ([], (f.few (omega arith), calm_none)))
