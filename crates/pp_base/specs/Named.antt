-- The steps that a call made, by their names.
use Rattle.std.specs.Prelude.{◌≡◌, ℕ, ◌+◌, Bool, false, nat_eq, ◌||◌, List, [], ◌∷◌}
use Rattle.pp_model.specs.declared.steps.Step.{Step}
use Rattle.pp_rule.specs.Orders.{load_step, announce_step, confirm_step, clear_step, guard_step, unguard_step, detach_step, missed_step}
use Rattle.pp_rule.specs.Orders.{invalidate_step, retire_step, scan_frontier_step, scan_walk_step, shelve_step, unshelve_step}
use Rattle.pp_rule.specs.declared.views.PassState.{PassState}
use Rattle.pp_rule.specs.declared.views.SeatView.{SeatView}
use Rattle.pp_rule.specs.Steps.{MadeStep, MadeQuietStep}

-- a step by its kind, the place of its word, and the word that it found or stored
pub record NamedStep : Type 0 where
  pub kind : ℕ
  pub place : ℕ
  pub word : ℕ

-- how a step of the order is named
abbrev pub name_of : Step → NamedStep
name_of s = record { kind = s.kind; place = s.place; word = s.word }

abbrev pub loads : ℕ → ℕ → NamedStep
loads place word = record { kind = load_step; place = place; word = word }

abbrev pub announces : ℕ → ℕ → NamedStep
announces place number = record { kind = announce_step; place = place; word = number }

abbrev pub confirms : ℕ → ℕ → NamedStep
confirms place word = record { kind = confirm_step; place = place; word = word }

abbrev pub clears : ℕ → NamedStep
clears place = record { kind = clear_step; place = place; word = 0 }

abbrev pub guards : ℕ → ℕ → NamedStep
guards place number = record { kind = guard_step; place = place; word = number }

abbrev pub unguards : ℕ → NamedStep
unguards place = record { kind = unguard_step; place = place; word = 0 }

abbrev pub detaches : ℕ → ℕ → NamedStep
detaches place word = record { kind = detach_step; place = place; word = word }

abbrev pub misses : ℕ → ℕ → NamedStep
misses place word = record { kind = missed_step; place = place; word = word }

abbrev pub invalidates : ℕ → ℕ → NamedStep
invalidates place word = record { kind = invalidate_step; place = place; word = word }

abbrev pub retires : ℕ → NamedStep
retires place = record { kind = retire_step; place = place; word = 0 }

abbrev pub scans_frontier : ℕ → ℕ → NamedStep
scans_frontier place word = record { kind = scan_frontier_step; place = place; word = word }

abbrev pub scans_walk : ℕ → ℕ → NamedStep
scans_walk place word = record { kind = scan_walk_step; place = place; word = word }

abbrev pub shelves : ℕ → NamedStep
shelves place = record { kind = shelve_step; place = place; word = 0 }

abbrev pub unshelves : ℕ → ℕ → NamedStep
unshelves place word = record { kind = unshelve_step; place = place; word = word }

-- the steps that found these words, each at the place after the one before, from this place on
abbrev pub in_turn : (ℕ → ℕ → NamedStep) → ℕ → List ℕ → List NamedStep
in_turn step place [] = []
in_turn step place (word ∷ words) = step place word ∷ in_turn step (place + 1) words

-- The kinds of step after which the pass may own other records: the last load of a reclaim pass frees some, and a step at a shelf
-- word gives one away or takes one.
abbrev pub moves_owned : ℕ → Bool
moves_owned kind = nat_eq kind scan_walk_step || nat_eq kind shelve_step || nat_eq kind unshelve_step

-- the kinds of step that may leave another word than the one that is named
abbrev pub changes_word : ℕ → Bool
changes_word kind = nat_eq kind detach_step || nat_eq kind invalidate_step || nat_eq kind shelve_step || nat_eq kind unshelve_step

module _ {E A W : Type 0} where
  -- the pass made this step, at which no change took effect and no call was placed
  pub record MadeOne (step : NamedStep) (before after : SeatView E A W) : Type 0 where
    pub known : PassState W
    pub left : ℕ
    pub number : known.number ≡ before.known.number
    pub owned : moves_owned step.kind ≡ false → known.owned ≡ before.known.owned
    pub leaves : changes_word step.kind ≡ false → left ≡ step.word
    pub made : MadeQuietStep step.kind step.place step.word left known before after

  -- the pass made this step, whatever took effect or was placed at it
  pub record Did (step : NamedStep) (before after : SeatView E A W) : Type 0 where
    pub known : PassState W
    pub left : ℕ
    pub changes : List E
    pub placed : List A
    pub number : known.number ≡ before.known.number
    pub made : MadeStep step.kind step.place step.word left changes placed known before after

  -- the pass made these steps, one after another, and no others
  abbrev pub Made : List NamedStep → SeatView E A W → SeatView E A W → Type 0
  Made [] before after = after ≡ before
  Made (step ∷ steps) before after = (next : SeatView E A W) × (MadeOne step before next × Made steps next after)
