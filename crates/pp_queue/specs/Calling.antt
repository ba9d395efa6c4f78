-- What the parts of a call on a queue make of the view of its pass.
use Rattle.std.specs.Prelude.{◌≡◌, ◌≢◌, ℕ, ◌+◌, ◌*◌, ◌<◌, ◌≤◌, Bool, true, false, [], ◌∷◌, ◌++◌, length}
use Rattle.pp_link.specs.declared.layout.Sizes.{Sizes}
use Rattle.pp_link.specs.Links.{target}
use Rattle.pp_rule.specs.declared.views.WalkSlot.{WalkSlot}
use Rattle.pp_rule.specs.Lists.{BeginsWith, times}
use Rattle.pp_rule.specs.Orders.{log_of, placed_by}
use Rattle.pp_rule.specs.Views.{slot}
use lib.ListN.{get_elem?}
use mathlib.Core.Option.{some}
use Rattle.pp_rule.specs.declared.views.PrivateRecord.{PrivateRecord}
use Rattle.pp_base.specs.declared.purse.Purse.{Purse}
use Rattle.pp_base.specs.Passes.{owned_numbers}
use Rattle.pp_queues.specs.declared.calls.QueueCall.{QueueCall}
use Rattle.pp_queues.specs.declared.calls.QueueReply.{QueueReply}
use Rattle.pp_queue.specs.Steps.{value_in}
use Rattle.pp_queues.specs.declared.calls.QueueCall.TheVariants as call
use Rattle.pp_queues.specs.declared.calls.QueueReply.TheVariants as said
use Rattle.pp_queue.specs.declared.calling.TakeTurn.{TakeTurn}
use Rattle.pp_queue.specs.declared.calling.TakeTurn.TheVariants as turn
use Rattle.pp_model.specs.Objects.{after}
use Rattle.pp_queues.specs.Queue.{queue, reply, placed}
use Rattle.pp_queues.specs.Queues.{QueuePass, QueueView}
use Rattle.pp_queues.specs.Turns.{stand}
use Rattle.pp_queues.specs.Calls.{TriedToMove}
use Rattle.pp_queues.specs.Losses.{Tally, losing, striking, HasStruck, Ran}

-- nothing is announced or held in this walk word
abbrev pub IsEmpty : WalkSlot → Type 0
IsEmpty w = (w.held ≡ false) × (w.named ≡ 0)

-- all walk words from this one on are empty
abbrev pub EmptyFrom : ℕ → QueuePass → Type 0
EmptyFrom i q = (j : ℕ) → i ≤ j → j < 5 → IsEmpty (slot q j)

-- but for its walk words, and for where its call stands, the pass is as it was
pub record SameRest (q q' : QueuePass) : Type 0 where
  pub number : q'.number ≡ q.number
  pub sizes : q'.sizes ≡ q.sizes
  pub owned : q'.owned ≡ q.owned
  pub retired_are : q'.retired ≡ q.retired
  pub frontier : q'.frontier ≡ q.frontier
  pub chains : q'.chains ≡ q.chains
  pub scan : q'.scan ≡ q.scan
  pub going : q'.own.going ≡ q.own.going
  pub start : q'.own.start ≡ q.own.start

-- The pass made steps, at which no call of it was placed.
pub record GoesOn (before now : QueueView) : Type 0 where
  pub order : BeginsWith now.order before.order
  pub mine : placed_by before.known.number now.order ≡ placed_by before.known.number before.order
  pub rest : SameRest before.known now.known

-- Its call stands at the record with the number n, which it holds in the walk word 0 and has found by one of the heads.
pub record StandsAt (front : Bool) (n : ℕ) (q : QueuePass) : Type 0 where
  pub at : q.own.at ≡ 0
  pub front_is : q.own.front ≡ front
  pub held : (slot q 0).held ≡ true
  pub named : (slot q 0).named ≡ n
  pub others : EmptyFrom 1 q

-- a word of a head
pub record IsHeadWord (first : ℕ) : Type 0 where
  pub some : target first ≢ 0
  pub plain : first ≡ 16 * target first
  pub small : first < 68719476736

-- The pass holds in the walk word 1 the record with the number n too.
pub record HoldsNext (n : ℕ) (q q' : QueuePass) : Type 0 where
  pub own : q'.own ≡ q.own
  pub first : slot q' 0 ≡ slot q 0
  pub held : (slot q' 1).held ≡ true
  pub named : (slot q' 1).named ≡ n
  pub others : EmptyFrom 2 q'

-- What a take has to know before it moves head 0 on: the record behind the dummy is held in the walk word 1.
pub record MayRemove (z : Sizes) (q : QueuePass) (first new : ℕ) : Type 0 where
  pub two : z.heads ≡ 2
  pub word : q.own.at < 5
  pub front : q.own.front ≡ true
  pub past : q.own.past ≡ true
  pub some : q.own.next ≢ 0
  pub first_is : first ≡ 16 * stand q
  pub new_is : new ≡ 16 * q.own.next
  pub held : (slot q 1).held ≡ true
  pub named : (slot q 1).named ≡ q.own.next

-- The pass made steps, at which no call of it was placed. It may have flushed chains and used frontier words.
pub record GoesFree (before now : QueueView) : Type 0 where
  pub order : BeginsWith now.order before.order
  pub mine : placed_by before.known.number now.order ≡ placed_by before.known.number before.order
  pub number : now.known.number ≡ before.known.number
  pub walk : now.known.walk ≡ before.known.walk
  pub own : now.known.own ≡ before.known.own

-- A take took effect, with this value.
pub record TookOff (v : ℕ) (before now : QueueView) : Type 0 where
  pub order : BeginsWith now.order before.order
  pub place : ℕ
  pub mine : placed_by before.known.number now.order ≡ placed_by before.known.number before.order ++ placed call.Take
      (said.Took v) place ∷ []
  pub above : length (log_of before.order) < place
  pub within : place ≤ length (log_of now.order)
  pub number : now.known.number ≡ before.known.number

-- A take goes on: no call was placed, and it is still the same.
pub record WentOn (before now : QueueView) : Type 0 where
  pub order : BeginsWith now.order before.order
  pub mine : placed_by before.known.number now.order ≡ placed_by before.known.number before.order
  pub number : now.known.number ≡ before.known.number
  pub going : now.known.own.going ≡ true
  pub start : now.known.own.start ≡ before.known.own.start

-- A take is answered Empty. Its place is the least one since its start at which that is right.
pub record SaidEmpty (before now : QueueView) : Type 0 where
  pub order : BeginsWith now.order before.order
  pub place : ℕ
  pub mine : placed_by before.known.number now.order ≡ placed_by before.known.number before.order ++ placed call.Take said.Empty
      place ∷ []
  pub since : before.known.own.start ≤ place
  pub within : place ≤ length (log_of now.order)
  pub right : reply (after queue (log_of now.order) place) call.Take ≡ said.Empty
  pub least : (p : ℕ) → before.known.own.start ≤ p → p < place → reply (after queue (log_of now.order) p) call.Take ≡ said.Empty
      → ⊥
  pub number : now.known.number ≡ before.known.number

-- what a turn of a take came to
abbrev pub TurnedTo : TakeTurn → QueueView → QueueView → Type 0
TurnedTo turn.Again before now = WentOn before now
TurnedTo turn.Empty before now = SaidEmpty before now
TurnedTo (turn.Took v) before now = TookOff v before now

-- it isn't to begin again
abbrev pub IsDone : TakeTurn → Type 0
IsDone turn.Again = ⊥
IsDone turn.Empty = Unit {0}
IsDone (turn.Took v) = Unit {0}

-- A call took effect at a step between, with this reply.
pub record Struck (asked : QueueCall) (given : QueueReply) (before now : QueueView) : Type 0 where
  pub order : BeginsWith now.order before.order
  pub place : ℕ
  pub mine : placed_by before.known.number now.order ≡ placed_by before.known.number before.order ++ placed asked given place ∷ []
  pub above : length (log_of before.order) < place
  pub within : place ≤ length (log_of now.order)
  pub number : now.known.number ≡ before.known.number

-- The pass has a record that was taken, with this number, this value and a nil link.
pub record HasRecord (q : QueuePass) (p : Purse) (n v : ℕ) : Type 0 where
  pub index : ℕ
  pub was : PrivateRecord
  pub number_is : was.number ≡ n
  pub taken : times n p.free.items < times n (owned_numbers q)
  pub at : get_elem? q.owned index ≡ some was
  pub left : was.left ≡ 0
  pub value_is : value_in was ≡ v

-- what the steps of a turn of a take count: before it so many turns were lost
abbrev pub TakeRan : ℕ → ℕ → ℕ → TakeTurn → QueueView → QueueView → Type 0
TakeRan passes first n turn.Again before now = (word : ℕ) × Ran passes (losing first n) (losing word (n + 1)) before now
TakeRan passes first n turn.Empty before now = (word : ℕ) × Ran passes (losing first n) (losing word n) before now
TakeRan passes first n (turn.Took v) before now = (word : ℕ) × Ran passes (losing first n) (striking word n) before now

-- a turn of a put in which it took effect
pub record PutStruck (z : Sizes) (first n : ℕ) (before now : QueueView) : Type 0 where
  pub counted : Tally
  pub struck : HasStruck n counted
  pub ran : Ran z.passes (losing first n) counted before now
  -- where it moved head 1 on, it lost no more
  pub up : now.known.own.behind ≡ false → counted.lost ≡ n
  pub tried : TriedToMove z ran.stepped.steps

-- what the steps of a turn of a put count: before it so many turns were lost
abbrev pub PutRan : Sizes → ℕ → ℕ → Bool → QueueView → QueueView → Type 0
PutRan z first n true before now = PutStruck z first n before now
PutRan z first n false before now = (word : ℕ) × Ran z.passes (losing first n) (losing word (n + 1)) before now

-- but for its walk words, what it owns and where its call stands, the pass is as it was
pub record SameLists (q q' : QueuePass) : Type 0 where
  pub number : q'.number ≡ q.number
  pub sizes : q'.sizes ≡ q.sizes
  pub retired_are : q'.retired ≡ q.retired
  pub frontier : q'.frontier ≡ q.frontier
  pub chains : q'.chains ≡ q.chains
  pub scan : q'.scan ≡ q.scan
