-- The words in which maps over a pool say their causes: all of them are read off the steps of a call.
use Rattle.std.specs.Prelude.{◌≡◌, ◌⊎◌, ℕ, ◌+◌, ◌-◌, ◌*◌, ◌<◌, ◌≤◌, Bool, cond, List, [], ◌∷◌, ◌++◌, length, Some}
use Rattle.std.specs.Prelude.{slice_get}
use Rattle.pp_link.specs.declared.layout.Sizes.{Sizes}
use Rattle.pp_link.specs.Places.{frontier_place, walk_place, shelf_place}
use Rattle.pp_model.specs.declared.Answer.{Answer}
use Rattle.pp_model.specs.declared.Answer.TheVariants.{Said, Full, Lost}
use Rattle.pp_model.specs.declared.Call.{Call}
use Rattle.pp_model.specs.declared.Pair.{Pair}
use Rattle.pp_model.specs.declared.Reply.TheVariants.{Value, Absent, Added, Held, Took, Other}
use Rattle.pp_model.specs.declared.steps.Step.{Step}
use Rattle.pp_model.specs.declared.steps.OrderEntry.{OrderEntry}
use Rattle.pp_model.specs.Lists.{IsPrefix}
use Rattle.pp_model.specs.Pass.{PassView, MapSizes, Meaning, replayed, steps_of, steps_since}
use Rattle.pp_rule.specs.Lists.{IsIn, Once}
use Rattle.pp_rule.specs.Orders.{stores, missed_step, scan_frontier_step, scan_walk_step, unshelve_step}

-- How a structure reads the steps of a call of type C, one after another.
pub record Reader (C : Type 0) : Type 1 where
  -- what it remembers of the steps so far
  pub Memory : Type 0
  pub blank : Memory
  pub next : MapSizes → C → Memory → Step → Memory
  -- a turn is lost at this step
  pub loses : MapSizes → C → Memory → Step → Bool
  -- the call takes effect at this step
  pub strikes : MapSizes → C → Memory → Step → Bool

module _ {C : Type 0} (r : Reader C) (z : MapSizes) (call : C) where
  unfoldable pub memory_after : r.Memory → List Step → r.Memory
  memory_after m [] = m
  memory_after m (s ∷ steps) = memory_after (r.next z call m s) steps

  -- the lost turns of these steps
  unfoldable pub lost_from : r.Memory → List Step → ℕ
  lost_from m [] = 0
  lost_from m (s ∷ steps) = cond (r.loses z call m s) 1 0 + lost_from (r.next z call m s) steps

  -- those of them that came before the call took effect
  unfoldable pub early_from : r.Memory → List Step → ℕ
  early_from m [] = 0
  early_from m (s ∷ steps) = cond (r.strikes z call m s) 0 (cond (r.loses z call m s) 1 0 + early_from (r.next z call m s) steps)

  -- the steps after the one at which the call took effect
  unfoldable pub after_effect : r.Memory → List Step → List Step
  after_effect m [] = []
  after_effect m (s ∷ steps) = cond (r.strikes z call m s) steps (after_effect (r.next z call m s) steps)

-- the sizes of a map over a pool are those of its pool
abbrev pub pool_sizes : MapSizes → Sizes
pool_sizes z = record { passes = z.passes; records = z.records; heads = z.heads }

-- so many steps of one kind, each on its place
pub record AreSteps (kind count : ℕ) (place : ℕ → ℕ) (steps : List Step) : Type 0 where
  pub count_is : length steps ≡ count
  pub each : (i : ℕ) (s : Step) → slice_get steps i ≡ Some s → (s.kind ≡ kind) × (s.place ≡ place i)

-- a reclaim pass: it loads each frontier word, and then each walk word
pub record IsReclaim (z : MapSizes) (steps : List Step) : Type 0 where
  pub fronts : List Step
  pub walks : List Step
  pub is : steps ≡ fronts ++ walks
  pub frontier : AreSteps scan_frontier_step (4 * z.passes) (frontier_place (pool_sizes z) 0) fronts
  pub walk : AreSteps scan_walk_step (5 * z.passes) (walk_place (pool_sizes z) 0) walks

-- how many records the pass owned after the last of these steps
abbrev pub owned_after : ℕ → List Step → ℕ
owned_after owned [] = owned
owned_after owned (s ∷ steps) = owned_after s.owned steps

-- Why an insert found no record: its pass had too few, a reclaim pass left too few, then each shelf word was empty, and at its
-- end the pass still has too few.
pub record FoundNone (need : ℕ) (z : MapSizes) (free : List ℕ) (steps : List Step) : Type 0 where
  pub short : length free < need
  pub earlier : List Step
  pub scan : List Step
  pub later : List Step
  pub is : steps ≡ earlier ++ (scan ++ later)
  pub reclaim : IsReclaim z scan
  pub few : owned_after need scan < need
  pub still : owned_after need steps < need
  pub empty : (j : ℕ) → j < 8 * z.passes
      → (s : Step) × (IsIn s later × (s.kind ≡ unshelve_step) × (s.place ≡ shelf_place (pool_sizes z) j) × (s.word ≡ 0))

-- these steps found each shelf word taken: an exchange failed there, which found another word than 0
pub record FoundTaken (z : MapSizes) (steps : List Step) : Type 0 where
  pub each : (j : ℕ) → j < 8 * z.passes
      → (s : Step) × (IsIn s steps × (s.kind ≡ missed_step) × (s.place ≡ shelf_place (pool_sizes z) j) × (s.word ≡ 0 → ⊥))

-- so many records are attached in these words; 0 is the number of none
pub record CountsAttached (IsAttached : ℕ → Type 0) (count : ℕ) : Type 0 where
  pub numbers : List ℕ
  pub count_is : length numbers ≡ count
  pub once : Once numbers
  pub each : (n : ℕ) → IsIn n numbers → (1 ≤ n) × IsAttached n
  pub all : (n : ℕ) → 1 ≤ n → IsAttached n → IsIn n numbers

-- At some time after so many steps of its own the pass has seen that the record wasn't attached.
pub record WasDetached {E : Type 0} (IsAttached : List ℕ → ℕ → Type 0) (opens : List ℕ) (n own pass : ℕ)
    (order : List (OrderEntry E)) : Type 0 where
  pub so_far : List (OrderEntry E)
  pub begins : IsPrefix so_far order
  pub since : own ≤ length (steps_of pass so_far)
  pub gone : IsAttached (replayed opens so_far) n → ⊥

-- the words of a structure for its causes
pub record CauseWords : Type 1 where
  pub reader : Reader Call
  -- the words show this record attached
  pub IsAttached : MapSizes → List ℕ → ℕ → Type 0
  -- the record whose pair the call took, by its steps
  pub taken : MapSizes → Call → List Step → ℕ
  -- why it was left attached: by the call's budget, its lost turns and the steps after it took effect
  pub LeftBy : MapSizes → Call → (budget lost : ℕ) → List Step → Type 0

-- the words of a structure that all maps over a pool have
pub record PoolWords : Type 0 where
  pub need : ℕ
  pub live : ℕ → ℕ
  pub opening : MapSizes → List ℕ

-- why a call of a map over a pool was given its answer
abbrev pub PoolCause : PoolWords → CauseWords → MapSizes → Call → ℕ → PassView → PassView → Answer → Type 0
PoolCause p w z call budget before now (Said (Took v)) =
    WasDetached (w.IsAttached z) (p.opening z) (w.taken z call (steps_since before now))
    (length now.steps - length (after_effect w.reader z call w.reader.blank (steps_since before now))) now.caller now.order
    ⊎ w.LeftBy z call budget (lost_from w.reader z call w.reader.blank (steps_since before now))
    (after_effect w.reader z call w.reader.blank (steps_since before now))
PoolCause p w z call budget before now (Said (Value v)) = Unit {0}
PoolCause p w z call budget before now (Said Absent) = Unit {0}
PoolCause p w z call budget before now (Said Added) = Unit {0}
PoolCause p w z call budget before now (Said (Held v)) = Unit {0}
PoolCause p w z call budget before now (Said (Other v)) = Unit {0}
PoolCause p w z call budget before now Full = FoundNone p.need z before.free (steps_since before now)
PoolCause p w z call budget before now (Lost turns) = Unit {0}

-- what a map over a pool means by the words of the calls' clauses
abbrev pub pool_meaning : PoolWords → CauseWords → (MapSizes → List ℕ → List Pair → List ℕ → Type 0) → Meaning
pool_meaning p w holds = record {
  need = p.need;
  live = p.live;
  turn_steps = 1;
  hazards = λ z. 9 * z.passes;
  stores = stores;
  opening = p.opening;
  Holds = holds;
  Attached = λ z words count. CountsAttached (w.IsAttached z words) count;
  lost = λ z call steps. lost_from w.reader z call w.reader.blank steps;
  lost_early = λ z call steps. early_from w.reader z call w.reader.blank steps;
  Cause = PoolCause p w;
  Shelved = FoundTaken;
}
