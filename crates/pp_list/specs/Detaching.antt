-- What the try to detach a marked record shows.
use Rattle.std.specs.Prelude.{◌≡◌, ◌⊎◌, ℕ, ◌+◌, ◌<◌, true, List, ◌++◌, length}
use Rattle.pp_link.specs.declared.layout.Sizes.{Sizes}
use Rattle.pp_model.specs.declared.Call.{Call}
use Rattle.pp_model.specs.declared.steps.Step.{Step}
use Rattle.pp_rule.specs.Lists.{IsIn}
use Rattle.pp_rule.specs.Orders.{replayed, entries_of, missed_step}
use Rattle.pp_base.specs.declared.purse.Purse.{Purse}
use Rattle.pp_base.specs.Named.{NamedStep}
use Rattle.pp_calls.specs.Steps.{Stepped, HasOwn, StandsThen}
use Rattle.pp_shelf.specs.Runs.{map_sizes, steps_made}
use Rattle.pp_unlink.specs.Invalidation.{SameFree}
use Rattle.pp_lists.specs.Walks.{numbers}
use Rattle.pp_lists.specs.Turns.{ListView}
use Rattle.pp_lists.specs.Losses.{list_reader, is_past_shelves}
use Rattle.pp_turns.specs.Tallies.{effected}
use Rattle.pp_turns.specs.Turns.{Ran, Unplaced}
use Rattle.pp_list.specs.Causes.{IsListed}
use Rattle.pp_list.specs.Meant.{list_words}

-- After the call took effect the pass made steps. So many turns are lost by them.
pub record MadeAfter (z : Sizes) (v w : ListView) : Type 0 where
  pub stepped : Stepped v w
  pub some_made : 0 < length (steps_made v w)
  pub stands : HasOwn w.order → StandsThen v → StandsThen w
  pub unplaced : Unplaced v w
  pub lost : ℕ
  pub counted : (call : Call) (m : List NamedStep) (n early : ℕ) (later : List Step) → (m' : List NamedStep)
      × Ran list_reader (map_sizes z) call (effected m n early later) (effected m' (n + lost) early (later ++ steps_made v w)) v w

-- what the walk gathered was no longer listed after these steps
abbrev pub AreGone : Sizes → ListView → ListView → Type 0
AreGone z v w = (n : ℕ) → IsIn n (numbers v.known.own.chain)
    → IsListed (map_sizes z) (replayed (list_words.opening (map_sizes z)) (entries_of w.order)) n → ⊥

-- an exchange of a link failed among them
abbrev pub HasMissed : Sizes → ListView → ListView → Type 0
HasMissed z v w = (s : Step) × (IsIn s (steps_made v w) × (s.kind ≡ missed_step) × (is_past_shelves (map_sizes z) s.place ≡ true))

-- What was gathered was detached, or an exchange failed. So many turns were lost by it.
pub record TriesToDetach (z : Sizes) (lost : ℕ) (v w : ListView) (p p' : Purse) : Type 0 where
  pub after : MadeAfter z v w
  pub lost_is : after.lost ≡ lost
  pub comes : AreGone z v w ⊎ HasMissed z v w
  pub free : SameFree p p'
  pub start : w.known.own.start ≡ v.known.own.start
  pub owned : w.known.owned ≡ v.known.owned
