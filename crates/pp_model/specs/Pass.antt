-- What contracts see of a pass, of a going call, of a map and of a run.
use Rattle.std.specs.Prelude.{◌≡◌, ℕ, ◌+◌, ◌-◌, ◌*◌, ◌^◌, Bool, true, false, cond, nat_eq, List, [], ◌∷◌, ◌++◌, length, drop}
use Rattle.std.specs.Prelude.{slice_index, slice_set}
use Rattle.pp_model.specs.declared.Call.{Call}
use Rattle.pp_model.specs.declared.Answer.{Answer}
use Rattle.pp_model.specs.declared.Change.{Change}
use Rattle.pp_model.specs.declared.Placed.{Placed}
use Rattle.pp_model.specs.declared.Pair.{Pair}
pub use Rattle.pp_model.specs.declared.steps.Step.{Step}
pub use Rattle.pp_model.specs.declared.steps.OrderEntry.{OrderEntry}

-- the words that stand after these steps, from these words on
abbrev pub replayed : {E : Type 0} → List ℕ → List (OrderEntry E) → List ℕ
replayed words [] = words
replayed words (e ∷ order) = replayed (slice_set words e.step.place e.left) order

-- the changes that took effect at these steps
abbrev pub changes_of : {E : Type 0} → List (OrderEntry E) → List E
changes_of [] = []
changes_of (e ∷ order) = e.changes ++ changes_of order

-- the steps of one pass among these
abbrev pub steps_of : {E : Type 0} → ℕ → List (OrderEntry E) → List Step
steps_of pass [] = []
steps_of pass (e ∷ order) = cond (nat_eq e.pass pass) (e.step ∷ steps_of pass order) (steps_of pass order)

-- a step that is no store finds the word that stands at its place; of a store the word is the one that it wrote
pub record FindsWord {E : Type 0} (stores : ℕ → Bool) (words : List ℕ) (e : OrderEntry E) : Type 0 where
  pub found : stores e.step.kind ≡ false → e.step.word ≡ slice_index words e.step.place
  pub wrote : stores e.step.kind ≡ true → e.step.word ≡ e.left

-- From these words and so many changes on, each step finds the word that the steps before it left, and tells how many
-- changes had taken effect after it.
abbrev pub IsExecution : {E : Type 0} → (ℕ → Bool) → List ℕ → ℕ → List (OrderEntry E) → Type 0
IsExecution stores words seen [] = Unit {0}
IsExecution stores words seen (e ∷ order) =
    FindsWord stores words e × (e.step.seen ≡ seen + length e.changes)
    × IsExecution stores (slice_set words e.step.place e.left) (seen + length e.changes) order

-- a pass: its caller, the changes that it has seen, its placed calls, its atomic steps, the steps of all passes up to its own
-- last one, its link writes, the calls that it may still make, its free and its retired numbers, its chains in hand, and the
-- free numbers that it started with
pub record PassView : Type 0 where
  pub caller : ℕ
  pub seen : List Change
  pub mine : List Placed
  pub steps : List Step
  pub order : List (OrderEntry Change)
  pub wrote : ℕ
  pub room : ℕ
  pub free : List ℕ
  pub retired : List ℕ
  pub chains : ℕ
  pub share : ℕ

-- a pass that has done nothing yet: its share is free
pub record IsFresh (pass : PassView) : Type 0 where
  pub seen : pass.seen ≡ []
  pub mine : pass.mine ≡ []
  pub steps : pass.steps ≡ []
  pub order : pass.order ≡ []
  pub wrote : pass.wrote ≡ 0
  pub free : length pass.free ≡ pass.share
  pub retired : pass.retired ≡ []
  pub chains : pass.chains ≡ 0

-- A going call: its lost turns and its budget of them, how much of the log was seen at its first step, and whether it has taken
-- effect. Each map says by itself what the kind of its next turn is, from 0 to 3, and which keys its walk has left, from lower up
-- to upper: they count down to the call's end, and no clause of the calls says that they are keys that were read.
pub record GoingView : Type 0 where
  pub call : Call
  pub budget : ℕ
  pub lost : ℕ
  pub start : ℕ
  pub struck : Bool
  pub kind : ℕ
  pub lower : ℕ
  pub upper : ℕ

-- a note: how many changes and how many steps the pass had seen that made it
pub record NoteView : Type 0 where
  pub seen : ℕ
  pub order : ℕ

-- how large a map is: its passes, its records, and the heads of its structure
pub record MapSizes : Type 0 where
  pub passes : ℕ
  pub records : ℕ
  pub heads : ℕ

-- what one map means by the words of the calls' clauses
pub record Meaning : Type 1 where
  -- the records that an insert needs
  pub need : ℕ
  -- the live records of a map of so many pairs
  pub live : ℕ → ℕ
  -- the steps that each turn makes at least
  pub turn_steps : ℕ
  -- how many hazard words there are
  pub hazards : MapSizes → ℕ
  -- the kinds of step that store
  pub stores : ℕ → Bool
  -- the words that the map opens with
  pub opening : MapSizes → List ℕ
  -- these words hold these pairs, in the records of these numbers
  pub Holds : MapSizes → List ℕ → List Pair → List ℕ → Type 0
  -- so many records are attached in these words
  pub Attached : MapSizes → List ℕ → ℕ → Type 0
  -- the lost turns of a call that made these steps
  pub lost : MapSizes → Call → List Step → ℕ
  -- those of them that came before it took effect
  pub lost_early : MapSizes → Call → List Step → ℕ
  -- why a call with this budget, from this pass to that one, was given this answer
  pub Cause : MapSizes → Call → ℕ → PassView → PassView → Answer → Type 0
  -- these steps found each shelf word taken
  pub Shelved : MapSizes → List Step → Type 0

-- the steps that a pass made since
abbrev pub steps_since : PassView → PassView → List Step
steps_since before now = drop (length before.steps) now.steps

-- how much of the log was seen at the first of these steps; without a step, at the time before
abbrev pub seen_first : ℕ → List Step → ℕ
seen_first seen [] = seen
seen_first seen (s ∷ steps) = s.seen

-- how much was seen at the last of these steps; without a step, at the time before
abbrev pub seen_last : ℕ → List Step → ℕ
seen_last seen [] = seen
seen_last seen (s ∷ steps) = seen_last s.seen steps

-- how much of the log a call had seen at its first step; without a step, before it
abbrev pub start_of : PassView → PassView → ℕ
start_of before now = seen_first (length before.seen) (steps_since before now)

-- what a run shows of one caller
pub record CallerRun : Type 0 where
  pub caller : ℕ
  pub mine : List Placed
  pub steps : List Step

-- a run that was closed: its log, what each caller did, the order of all steps, the live numbers, and the sizes of its map
pub record RunView : Type 0 where
  pub log : List Change
  pub callers : List CallerRun
  pub order : List (OrderEntry Change)
  pub live : List ℕ
  pub sizes : MapSizes

-- a number that each turn lowers: lost turns count most, then the kinds of turn, then the keys left
abbrev pub turns_left : GoingView → ℕ
turns_left g = ((g.budget - g.lost) * 4 + (3 - g.kind)) * (2 ^ 64 + 1) + (g.upper - g.lower)
