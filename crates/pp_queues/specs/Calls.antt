-- What contracts see of a pass of a queue, and the clauses of a queue's calls.
use Rattle.std.specs.Prelude.{◌≡◌, ◌⊎◌, ℕ, ◌+◌, ◌*◌, ◌<◌, ◌≤◌, min, true, false, List, [], ◌∷◌, ◌++◌, length, drop}
use Rattle.std.specs.Prelude.{Option, Some, None, Result, Ok, Err}
use Rattle.pp_link.specs.declared.layout.Sizes.{Sizes}
use Rattle.pp_link.specs.Places.{head_place}
use Rattle.pp_model.specs.declared.InsertFault.{InsertFault}
use Rattle.pp_model.specs.declared.InsertFault.TheVariants as fault
use Rattle.pp_model.specs.declared.Lost.{Lost}
use Rattle.pp_model.specs.declared.steps.OrderEntry.{OrderEntry}
use Rattle.pp_model.specs.declared.steps.Step.{Step}
use Rattle.pp_model.specs.Lists.{IsPrefix}
use Rattle.pp_model.specs.Pass.{MapSizes, steps_of, seen_first, seen_last}
use Rattle.pp_rule.specs.Causes.{lost_from, early_from, FoundNone, FoundTaken}
use Rattle.pp_rule.specs.Lists.{IsIn}
use Rattle.pp_rule.specs.Orders.{log_of, made_by, placed_by, entries_of, missed_step}
use Rattle.pp_queues.specs.declared.calls.QueueAnswer.{QueueAnswer}
use Rattle.pp_queues.specs.declared.calls.QueueAnswer.TheVariants as answer
use Rattle.pp_queues.specs.declared.calls.QueueCall.{QueueCall}
use Rattle.pp_queues.specs.declared.calls.QueueCall.TheVariants as call
use Rattle.pp_queues.specs.declared.calls.QueueReply.{QueueReply}
use Rattle.pp_queues.specs.declared.calls.QueueReply.TheVariants as said
use Rattle.pp_queues.specs.declared.calls.QueueChange.{QueueChange}
use Rattle.pp_queues.specs.declared.calls.QueuePlaced.{QueuePlaced}
use Rattle.pp_model.specs.Objects.{after}
use Rattle.pp_queues.specs.Queue.{queue, reply, changes, placed, StandsIn}
use Rattle.pp_queues.specs.Queues.{QueueView}
use Rattle.pp_queues.specs.Turns.{put_step, advance_step}
use Rattle.pp_queues.specs.Losses.{queue_reader}

-- a pass of a queue: its caller, the changes that it has seen, its placed calls, its atomic steps, the steps of all passes up to
-- its own
-- last one, its free and its retired numbers, its chains in hand, and the free numbers that it started with
pub record QueuePassView : Type 0 where
  pub caller : ℕ
  pub seen : List QueueChange
  pub mine : List QueuePlaced
  pub steps : List Step
  pub order : List (OrderEntry QueueChange)
  pub free : List ℕ
  pub retired_are : List ℕ
  pub chains : ℕ
  pub share : ℕ

-- the pass with this view, these free numbers, and the number of those that it started with
abbrev pub queue_view : QueueView → List ℕ → ℕ → QueuePassView
queue_view v free share = record {
  caller = v.known.number;
  seen = log_of v.order;
  mine = placed_by v.known.number v.order;
  steps = made_by v.known.number v.order;
  order = entries_of v.order;
  free = free;
  retired_are = v.known.retired;
  chains = length v.known.chains;
  share = share;
}

-- the steps that a pass made since
abbrev pub steps_since : QueuePassView → QueuePassView → List Step
steps_since before now = drop (length before.steps) now.steps

-- how much of the log a call had seen at its first step
abbrev pub start_of : QueuePassView → QueuePassView → ℕ
start_of before now = seen_first (length before.seen) (steps_since before now)

-- the sizes of a queue over a pool are those of its pool
abbrev pub map_sizes : Sizes → MapSizes
map_sizes z = record { passes = z.passes; records = z.records; heads = z.heads }

-- the lost turns of a call that made these steps, and those of them that came before it took effect
abbrev pub lost_turns : Sizes → QueueCall → List Step → ℕ
lost_turns z asked steps = lost_from queue_reader (map_sizes z) asked queue_reader.blank steps

abbrev pub early_losses : Sizes → QueueCall → List Step → ℕ
early_losses z asked steps = early_from queue_reader (map_sizes z) asked queue_reader.blank steps

-- what a pass keeps over a call
pub record Grew (before now : QueuePassView) : Type 0 where
  pub caller : now.caller ≡ before.caller
  pub share : now.share ≡ before.share
  pub seen : IsPrefix before.seen now.seen
  pub mine : IsPrefix before.mine now.mine
  pub steps : IsPrefix before.steps now.steps
  pub order : IsPrefix before.order now.order
  -- its steps are its own ones in the order that it has seen
  pub own_steps : now.steps ≡ steps_of now.caller now.order
  -- each step that it made saw at least what it had seen before, and no more than it has seen
  pub saw : (s : Step) → IsIn s (steps_since before now) → (length before.seen ≤ s.seen) × (s.seen ≤ length now.seen)
  -- it has seen what its last step saw
  pub seen_by : seen_last 0 (steps_since before now) ≡ length now.seen

-- a pass's placed calls stand in what it has seen
abbrev pub Stands : QueuePassView → Type 0
Stands p = StandsIn p.seen p.caller p.mine

-- A reply was entered in the pass's list, at a place among the changes that it saw in the call. A change comes after all that
-- was seen
-- before; of a call that changed nothing the place is the least from its start on at which the reply is right.
pub record PlacesReply (asked : QueueCall) (r : QueueReply) (before now : QueuePassView) : Type 0 where
  pub place : ℕ
  pub mine : now.mine ≡ before.mine ++ placed asked r place ∷ []
  pub since : length before.seen ≤ place
  pub within : place ≤ length now.seen
  pub above : changes r ≡ true → length before.seen < place
  pub from_start : changes r ≡ false → start_of before now ≤ place
  pub right : changes r ≡ false → reply (after queue now.seen place) asked ≡ r
  pub least : changes r ≡ false → (p : ℕ) → start_of before now ≤ p → p < place → reply (after queue now.seen p) asked ≡ r → ⊥

-- a put had no free record
pub record FoundFull (asked : QueueCall) (before now : QueuePassView) : Type 0 where
  pub mine : now.mine ≡ before.mine
  pub puts : (v : ℕ) × (asked ≡ call.Put v)

-- a call gave up; it carries the number of its lost turns
pub record GaveUp (lost turns : ℕ) (before now : QueuePassView) : Type 0 where
  pub mine : now.mine ≡ before.mine
  pub counted : lost ≡ turns

-- what an answer says of the pass
abbrev pub Says : Sizes → QueueCall → QueuePassView → QueuePassView → QueueAnswer → Type 0
Says z asked before now (answer.Said r) = PlacesReply asked r before now
Says z asked before now answer.Full = FoundFull asked before now
Says z asked before now (answer.Lost turns) = GaveUp (lost_turns z asked (steps_since before now)) turns before now

-- a call answers lost exactly where its lost turns, of which so many came before it took effect, reached its budget
abbrev pub KeepsBudget : ℕ → ℕ → QueueAnswer → Type 0
KeepsBudget budget early (answer.Said r) = early < budget
KeepsBudget budget early answer.Full = early < budget
KeepsBudget budget early (answer.Lost turns) = (turns ≡ budget) × (early ≡ budget)

-- after a linking exchange the call tried to move head 1 on: it did, or it found another word there
pub record TriedToMove (z : Sizes) (steps : List Step) : Type 0 where
  pub earlier : List Step
  pub linking : Step
  pub later : List Step
  pub steps_are : steps ≡ earlier ++ linking ∷ later
  pub linked : linking.kind ≡ put_step
  pub tried : Step
  pub after_it : IsIn tried later
  pub place : tried.place ≡ head_place z 1
  pub outcome : (tried.kind ≡ advance_step) ⊎ (tried.kind ≡ missed_step)

-- what stands behind a reply
abbrev pub SaidCause : Sizes → QueueReply → List Step → Type 0
SaidCause z said.Put steps = TriedToMove z steps
SaidCause z (said.Took v) steps = Unit {0}
SaidCause z said.Empty steps = Unit {0}

-- why a call was given its answer
abbrev pub Cause : Sizes → QueuePassView → QueuePassView → QueueAnswer → Type 0
Cause z before now (answer.Said r) = SaidCause z r (steps_since before now)
Cause z before now answer.Full = FoundNone 1 (map_sizes z) before.free (steps_since before now)
Cause z before now (answer.Lost turns) = Unit {0}

-- how many free records a call may spend
abbrev pub spends : QueueCall → ℕ
spends (call.Put v) = 1
spends call.Take = 0

-- A call tidied its purse.
pub record Tidied (z : Sizes) (asked : QueueCall) (before now : QueuePassView) : Type 0 where
  pub retired_few : length now.retired_are ≤ 2 * (9 * z.passes)
  pub chains : now.chains ≤ 4
  -- no more are free than it started with, or each shelf word was found taken
  pub shared : (length now.free ≤ now.share) ⊎ FoundTaken (map_sizes z) (steps_since before now)
  pub kept : min (length before.free) before.share ≤ length now.free + spends asked

-- after a full answer no record is free, and few are retired
pub record FullPurse (z : Sizes) (now : QueuePassView) : Type 0 where
  pub none : now.free ≡ []
  pub retired_few : length now.retired_are ≤ 9 * z.passes

abbrev pub LeavesFull : Sizes → QueuePassView → QueueAnswer → Type 0
LeavesFull z now (answer.Said r) = Unit {0}
LeavesFull z now answer.Full = FullPurse z now
LeavesFull z now (answer.Lost turns) = Unit {0}

-- the call didn't give up
abbrev pub IsGiven : QueueAnswer → Type 0
IsGiven (answer.Said r) = Unit {0}
IsGiven answer.Full = Unit {0}
IsGiven (answer.Lost turns) = ⊥

-- A call on a queue was made with this budget of lost turns, from its begin to this answer.
pub record AnswersQueue (z : Sizes) (asked : QueueCall) (budget : ℕ) (before now : QueuePassView)
    (given : QueueAnswer) : Type 0 where
  pub grew : Grew before now
  pub says : Says z asked before now given
  pub stands : Stands now
  pub lost : KeepsBudget budget (early_losses z asked (steps_since before now)) given
  pub cause : Cause z before now given
  pub purse : Tidied z asked before now
  pub full : LeavesFull z now given
  pub stepped : 0 < length (steps_since before now)
  -- where no other caller takes part, it doesn't give up
  pub alone : z.passes ≡ 1 → IsGiven given
  -- and loses no turn
  pub none_lost : z.passes ≡ 1 → lost_turns z asked (steps_since before now) ≡ 0

-- the answers of the two calls, as one type
abbrev pub put_answer : Result Unit InsertFault → QueueAnswer
put_answer (Ok u) = answer.Said said.Put
put_answer (Err fault.Full) = answer.Full
put_answer (Err (fault.Lost turns)) = answer.Lost turns

abbrev pub take_answer : Result (Option ℕ) Lost → QueueAnswer
take_answer (Ok None) = answer.Said said.Empty
take_answer (Ok (Some v)) = answer.Said (said.Took v)
take_answer (Err e) = answer.Lost e.turns
