-- What a pass keeps of itself beside its seat tells what callers see of its purse.
use Rattle.std.proofs.Common.{◌≡◌, ℕ, ◌≤◌, List, length, take, sym, ap, ◌∙◌, subst, arith}
use Rattle.std.proofs.lemmas.List.{length-map}
use Rattle.atomic_table.specs.declared.shared.Seat.{Seat}
use Rattle.pp_link.specs.declared.layout.Sizes.{Sizes}
use Rattle.pp_model.specs.declared.Change.{Change}
use Rattle.pp_model.specs.declared.Placed.{Placed}
use Rattle.pp_model.specs.declared.steps.Step.{Step}
use Rattle.pp_model.specs.Pass.{steps_since}
use Rattle.pp_model.specs.MapCalls.{Grew, StandsIn}
use Rattle.pp_rule.specs.declared.views.SeatView.{SeatView}
use Rattle.pp_rule.specs.Opening.{share_of}
use Rattle.pp_rule.specs.States.{PoolState}
use Rattle.pp_rule.specs.Steps.{IsAlone}
use Rattle.pp_base.specs.declared.purse.Purse.{Purse}
use Rattle.pp_base.specs.declared.purse.InHand.{InHand}
use Rattle.pp_base.specs.Made.{HasRun}
use Rattle.pp_base.specs.Passes.{known, view, Keeping, IsSame, in_hand_of}
use Rattle.pp_calls.specs.PoolViews.{pool_view}
use Rattle.pp_calls.specs.Steps.{SamePurse, HasOwn, TurnMade}
use Rattle.pp_calls.proofs.Growing.{grew, since_steps}

module _ {E A W : Type 0} (sentinels sides : ℕ) (s s' : Seat Unit (SeatView E A W)) (n share n' share' : ℕ)
    (ws ws' : List ℕ) (p p' : Purse)
    (k : Keeping sentinels sides s n share ws p) (k' : Keeping sentinels sides s' n' share' ws' p') where
  -- a pass with the same purse has the same retired numbers and as many chains
  pub same_purse : p' ≡ p → IsSame s s' → SamePurse (view s) (view s')
  same_purse is same =
      let after : Keeping sentinels sides s' n' share' ws' p =
      subst (λ (x : Purse). Keeping sentinels sides s' n' share' ws' x) is k' in
      let a = k.retired_count in let b = after.retired_count in
      let long : length (known s').retired ≡ length (known s).retired = omega arith in record {
        sizes = same.sizes;
        retired = sym after.retired_are ∙ (ap (λ (m : ℕ). take m p.retired.items) long ∙ k.retired_are);
        chains = sym (length-map (known s').chains in_hand_of) ∙ (ap (λ (l : List InHand). length l) (after.chains ∙ sym k.chains)
            ∙ length-map (known s).chains in_hand_of);
      }

  -- the share of a pass is that of its number
  pub same_share : IsSame s s' → share' ≡ share
  same_share same = k'.share_is
      ∙ (ap (λ (m : ℕ). share_of sentinels (known s').sizes m) (sym k'.number_is ∙ (same.number ∙ k.number_is))
      ∙ (ap (λ (z : Sizes). share_of sentinels z n) same.sizes ∙ sym k.share_is))

module _ {W : Type 0} where
  -- the changes of the steps that a pass has seen are their passes' own
  pub has_own : {sides : ℕ} {addition : Sizes → List ℕ → PoolState Change Placed W → Type 0} (sentinels : ℕ) (head : ℕ → ℕ)
      (field : ℕ → ℕ → ℕ) (s : Seat Unit (SeatView Change Placed W)) → IsAlone s.me
      → HasRun sides sentinels head field addition (λ (c : Change). c.caller) (view s) → HasOwn (view s).order
  has_own sentinels head field s lone run = (run (ap (λ (v : SeatView Change Placed W). v.standing) lone.1)).run.own

  -- the clauses of a turn that speak of no call
  pub turn_clauses : (v w : SeatView Change Placed W) (free free' : List ℕ) (share : ℕ) → TurnMade v w
      → w.known.sizes ≡ v.known.sizes
      → Grew (pool_view v free share) (pool_view w free' share)
      × (StandsIn (pool_view v free share) → StandsIn (pool_view w free' share))
      × (1 ≤ length (steps_since (pool_view v free share) (pool_view w free' share)))
  turn_clauses v w free free' share t sizes = let many = t.some_made in (
    grew v w free free' share t.stepped sizes,
    t.stands,
    subst (λ (l : List Step). 1 ≤ length l) (sym (since_steps v w free free' share t.stepped)) (omega arith),
  )
