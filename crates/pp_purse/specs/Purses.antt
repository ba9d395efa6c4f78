-- What a call finds in its purse before its change, and what it leaves there at its end.
use Rattle.std.specs.Prelude.{◌≡◌, ◌⊎◌, ℕ, ◌*◌, ◌<◌, ◌≤◌, min, List, ◌++◌, length}
use Rattle.pp_link.specs.declared.layout.Sizes.{Sizes}
use Rattle.pp_model.specs.declared.steps.Step.{Step}
use Rattle.pp_rule.specs.declared.views.SeatView.{SeatView}
use Rattle.pp_rule.specs.Causes.{FoundTaken, IsReclaim, owned_after}
use Rattle.pp_rule.specs.Lists.{BeginsWith}
use Rattle.pp_base.specs.declared.purse.Purse.{Purse}
use Rattle.pp_base.specs.Named.{NamedStep}
use Rattle.pp_shelf.specs.Runs.{FoundEmpty, map_sizes, steps_made}
use Rattle.pp_purse.specs.Steps.{PurseSteps}

-- The lists of a purse that no call at it but these changes.
pub record KeepsTaken (p p' : Purse) : Type 0 where
  pub taken : p'.taken ≡ p.taken
  pub going : p'.going ≡ p.going

module _ {E A W : Type 0} where
  -- A call tidied its purse: at most twice as many numbers are retired as there are hazard words, at most as many are free as the pass
  -- was dealt, or each shelf word was found taken, and of the free ones of its share none is gone.
  pub record TidiesPurse (z : Sizes) (share : ℕ) (before after : SeatView E A W) (p p' : Purse) : Type 0 where
    pub names : List NamedStep
    pub steps : PurseSteps z names before after
    pub retired : length after.known.retired ≤ 18 * z.passes
    pub shared : (length p'.free.items ≤ share) ⊎ FoundTaken (map_sizes z) (steps_made before after)
    pub kept : min share (length p.free.items) ≤ length p'.free.items
    pub lists : KeepsTaken p p'

  -- A reclaim pass was made where more than twice as many numbers were retired as there are hazard words. None that was free is gone.
  pub record ReclaimsMany (z : Sizes) (before after : SeatView E A W) (p p' : Purse) : Type 0 where
    pub names : List NamedStep
    pub steps : PurseSteps z names before after
    pub retired : length after.known.retired ≤ 18 * z.passes
    pub begins : BeginsWith p'.free.items p.free.items
    pub lists : KeepsTaken p p'

  -- A call that has so few records that they aren't enough made a reclaim pass and then found each shelf word empty. It has too few
  -- still, and at most as many numbers are retired as there are hazard words.
  pub record RanOut (z : Sizes) (need : ℕ) (before after : SeatView E A W) (p p' : Purse) : Type 0 where
    pub short : length p.free.items < need
    pub earlier : List Step
    pub scan : List Step
    pub later : List Step
    pub is : steps_made before after ≡ earlier ++ (scan ++ later)
    pub reclaim : IsReclaim (map_sizes z) scan
    pub few : owned_after need scan < need
    pub empty : FoundEmpty (map_sizes z) later
    pub still : length after.known.owned < need
    pub still_short : length p'.free.items < need
    pub retired : length after.known.retired ≤ 9 * z.passes

  -- A call looked for free records, by a reclaim pass and on the shelves where it had too few. None that was free is gone.
  pub record FindsFree (z : Sizes) (need : ℕ) (before after : SeatView E A W) (p p' : Purse) : Type 0 where
    pub names : List NamedStep
    pub steps : PurseSteps z names before after
    pub begins : BeginsWith p'.free.items p.free.items
    pub lists : KeepsTaken p p'
