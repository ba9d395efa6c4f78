-- The order of all steps.
use Rattle.std.specs.Prelude.{◌≡◌, ℕ, Bool, true, false, cond, nat_eq, ◌||◌, List, [], ◌∷◌, ◌++◌, map}
pub use Rattle.pp_model.specs.declared.steps.Step.{Step}
pub use Rattle.pp_model.specs.declared.steps.OrderEntry.{OrderEntry}
pub use Rattle.pp_model.specs.Pass.{replayed, changes_of, steps_of, FindsWord, IsExecution}
pub use Rattle.pp_rule.specs.declared.views.LoggedStep.{LoggedStep}

-- The kinds of step that every pool has. A pass alone in its seat makes them; a split and a join make no entry.
-- a store to a field of a private record
abbrev pub write_step : ℕ
write_step = 1

-- a load of a link of a head or of a held record
abbrev pub load_step : ℕ
load_step = 4

-- a store of a number to a walk word
abbrev pub announce_step : ℕ
announce_step = 5

-- the second load of a link, which confirms what was announced
abbrev pub confirm_step : ℕ
confirm_step = 6

-- a store of 0 to a walk word
abbrev pub clear_step : ℕ
clear_step = 7

-- a load of the key or the value of a held record
abbrev pub read_step : ℕ
read_step = 8

-- a store of a frontier's number to a frontier word
abbrev pub guard_step : ℕ
guard_step = 9

-- an exchange that detaches a chain
abbrev pub detach_step : ℕ
detach_step = 10

-- an exchange that found another word than it expected
abbrev pub missed_step : ℕ
missed_step = 11

-- an or-step that sets INVALID
abbrev pub invalidate_step : ℕ
invalidate_step = 12

-- a store of 0 to a frontier word that guards no chain
abbrev pub unguard_step : ℕ
unguard_step = 13

-- a store of 0 to the frontier word of a chain, which is retired
abbrev pub retire_step : ℕ
retire_step = 14

-- a reclaim pass reads a frontier word
abbrev pub scan_frontier_step : ℕ
scan_frontier_step = 15

-- a reclaim pass reads a walk word
abbrev pub scan_walk_step : ℕ
scan_walk_step = 16

-- an exchange of 0 for a free number at a shelf word
abbrev pub shelve_step : ℕ
shelve_step = 25

-- a swap of 0 into a shelf word
abbrev pub unshelve_step : ℕ
unshelve_step = 26

-- the kinds of step that store
abbrev pub stores : ℕ → Bool
stores kind = nat_eq kind write_step || nat_eq kind announce_step || nat_eq kind clear_step || nat_eq kind guard_step
    || nat_eq kind unguard_step || nat_eq kind retire_step

-- The kinds of step that change no word of a head or of a record that can be reached: stores to hazard words and to private records,
-- INVALID in a link of a chain in hand, and the steps at shelf words.
abbrev pub goes_aside : ℕ → Bool
goes_aside kind = stores kind || nat_eq kind invalidate_step || nat_eq kind shelve_step || nat_eq kind unshelve_step

-- The kinds of step that leave the word that they found: loads, and exchanges that found another word than they expected. 19
-- and 24 are loads of the structures, at which a call that changes nothing may be placed.
abbrev pub only_loads : ℕ → Bool
only_loads kind = nat_eq kind load_step || nat_eq kind confirm_step || nat_eq kind read_step || nat_eq kind missed_step
    || nat_eq kind scan_frontier_step || nat_eq kind scan_walk_step || nat_eq kind 19 || nat_eq kind 24

-- The kinds of step by which no link of a head or of a record that can be reached changes.
abbrev pub is_calm : ℕ → Bool
is_calm kind = only_loads kind || goes_aside kind

-- Those of a walk: it loads links, keys and values, announces, and clears.
abbrev pub only_walks : ℕ → Bool
only_walks kind = nat_eq kind load_step || (nat_eq kind confirm_step || (nat_eq kind read_step || (nat_eq kind 19
    || (nat_eq kind announce_step || (nat_eq kind clear_step || false)))))

module _ {E A : Type 0} where
  abbrev pub entry_of : LoggedStep E A → OrderEntry E
  entry_of s = s.entry

  -- the entries of these steps
  unfoldable pub entries_of : List (LoggedStep E A) → List (OrderEntry E)
  entries_of order = map entry_of order

  -- the changes that took effect at these steps
  unfoldable pub log_of : List (LoggedStep E A) → List E
  log_of order = changes_of (entries_of order)

  -- the steps of one pass among these
  unfoldable pub made_by : ℕ → List (LoggedStep E A) → List Step
  made_by pass order = steps_of pass (entries_of order)

  -- the calls of one pass that were placed at these steps
  unfoldable pub placed_by : ℕ → List (LoggedStep E A) → List A
  placed_by pass [] = []
  placed_by pass (s ∷ order) = cond (nat_eq s.entry.pass pass) (s.placed ++ placed_by pass order) (placed_by pass order)

  -- a step that only loads leaves the word that it found
  abbrev pub KeepsWord : LoggedStep E A → Type 0
  KeepsWord s = only_loads s.entry.step.kind ≡ true → s.entry.left ≡ s.entry.step.word

  -- one step more, at which no change took effect and no call was placed
  pub record IsQuietStep (before after : List (LoggedStep E A)) : Type 0 where
    pub step : LoggedStep E A
    pub is : after ≡ before ++ step ∷ []
    pub no_change : step.entry.changes ≡ []
    pub no_call : step.placed ≡ []
