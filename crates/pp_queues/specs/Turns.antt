-- What the steps of a queue's own kinds owe and tell.
use Rattle.std.specs.Prelude.{◌≡◌, ◌≢◌, ◌⊎◌, ℕ, ◌*◌, ◌<◌, ◌≤◌, Bool, true, false, [], ◌∷◌, length}
use Rattle.std.specs.Prelude.{slice_set}
use lib.ListN.{get_elem?}
use mathlib.Core.Option.{some}
use Rattle.pp_link.specs.declared.layout.Sizes.{Sizes}
use Rattle.pp_link.specs.Links.{target, invalid_bit}
use Rattle.pp_link.specs.Places.{IsNumber, head_place, cell_place}
use Rattle.pp_rule.specs.declared.views.PrivateRecord.{PrivateRecord}
use Rattle.pp_rule.specs.Lists.{remove_at}
use Rattle.pp_rule.specs.Orders.{log_of, placed_by, load_step, confirm_step, missed_step}
use Rattle.pp_rule.specs.declared.views.Halves.{Halves}
use Rattle.pp_rule.specs.Views.{halves, value_of, slot, guarding}
use Rattle.pp_rule.specs.States.{IsSmall}
use Rattle.pp_rule.specs.Steps.{MadeStep, MadeQuietStep, holding, detaching, IsUnused}
use Rattle.pp_queues.specs.declared.calls.QueueCall.{QueueCall}
use Rattle.pp_queues.specs.declared.calls.QueueCall.TheVariants as call
use Rattle.pp_queues.specs.declared.calls.QueueReply.{QueueReply}
use Rattle.pp_queues.specs.declared.calls.QueueReply.TheVariants as said
use Rattle.pp_queues.specs.declared.calls.QueueChange.{QueueChange}
use Rattle.pp_queues.specs.declared.calls.QueuePlaced.{QueuePlaced}
use Rattle.pp_queues.specs.declared.own.QueueOwn.{QueueOwn}
use Rattle.pp_model.specs.Objects.{after}
use Rattle.pp_queues.specs.Queue.{queue, reply, change_of, placed, StandsIn}
use Rattle.pp_queues.specs.Queues.{QueuePass, QueueView, dummy_chain}

-- The kinds of step that a queue has beside those of every pool.
-- an exchange that links a record behind the last one
abbrev pub put_step : ℕ
put_step = 30

-- an exchange that moves head 1 on
abbrev pub advance_step : ℕ
advance_step = 31

-- an exchange that moves head 0 on, and detaches the dummy
abbrev pub take_step : ℕ
take_step = 32

-- a load of the dummy's link that finds nil
abbrev pub empty_step : ℕ
empty_step = 33

-- the pass with this part of the queue's
abbrev pub with_own : QueueOwn → QueuePass → QueuePass
with_own own q = record q { own = own }

-- the change by which a call took effect at the last step of this view
abbrev pub change_at : QueueCall → QueueView → QueueChange
change_at call v = change_of v.known.number (length (placed_by v.known.number v.order)) call

-- the call with its reply, as the change that took effect there
abbrev pub placed_at : QueueCall → QueueReply → QueueView → QueuePlaced
placed_at call r v = placed call r (length (log_of v.order))

-- the placed calls of the pass stand in what it has seen
abbrev pub StandsThen : QueueView → Type 0
StandsThen v = StandsIn (log_of v.order) v.known.number (placed_by v.known.number v.order)

-- the record where the call stands
abbrev pub stand : QueuePass → ℕ
stand q = (slot q q.own.at).named

-- a take that begins when so many changes have taken effect
abbrev pub beginning : ℕ → QueueOwn → QueueOwn
beginning start own = record { going = true; start = start; at = 5; front = false; next = 0; past = false; behind = own.behind }

-- the call takes effect or was answered
abbrev pub resting : QueueOwn → QueueOwn
resting own = record own { going = false }

-- its record leads to this one
abbrev pub leading : ℕ → QueueOwn → QueueOwn
leading n own = record own { next = n }

-- it linked a record, behind the one to which head 1 leads
abbrev pub lagging : QueueOwn → QueueOwn
lagging own = record own { behind = true }

-- it moved head 1 on
abbrev pub caught_up : QueueOwn → QueueOwn
caught_up own = record own { behind = false }

-- head 1 has passed it
abbrev pub passed : QueueOwn → QueueOwn
passed own = record own { past = true }

-- what a loaded link is
pub record IsLoaded (z : Sizes) (found : ℕ) : Type 0 where
  pub small : IsSmall found
  -- where it is valid, it leads to nil or to a record of this pool
  pub to : invalid_bit found ≡ 0 → (target found ≡ 0) ⊎ IsNumber z (target found)

-- the word of a head: it leads to a record, and has no bits
pub record IsEnd (z : Sizes) (found : ℕ) : Type 0 where
  pub number : IsNumber z (target found)
  pub plain : found ≡ 16 * target found

-- The first load of a take, of head 0.
pub record Begins (place found : ℕ) (before now : QueueView) : Type 0 where
  pub end : IsEnd before.known.sizes found
  pub made : MadeQuietStep load_step place found found (with_own (beginning (length (log_of now.order)) before.known.own)
      before.known) before now

-- A load of a head.
pub record Ends (place found : ℕ) (before now : QueueView) : Type 0 where
  pub end : IsEnd before.known.sizes found
  pub made : MadeQuietStep load_step place found found before.known before now

-- which head
abbrev pub end_number : Bool → ℕ
end_number true = 0
end_number false = 1

-- the call stands at the record that the pass holds from now on in the word i
abbrev pub standing : ℕ → Bool → ℕ → ℕ → Halves → QueuePass → QueuePass
standing i front n key value q = record q {
  walk = slice_set q.walk i (holding n key value);
  own = record q.own { at = i; front = front; next = 0; past = false };
}

-- The confirming load of a head.
pub record Came (i : ℕ) (front : Bool) (first found place : ℕ) (before now : QueueView) : Type 0 where
  pub small : IsSmall found
  pub number : found ≡ first → IsNumber before.known.sizes (target first)
  pub same : found ≡ first → (key : ℕ) × ((value : Halves)
      × MadeQuietStep confirm_step place found found (standing i front (target first) key value before.known) before now)
  pub other : found ≢ first → MadeQuietStep confirm_step place found found before.known before now

-- A take's load of head 1.
pub record Saw (place found : ℕ) (before now : QueueView) : Type 0 where
  pub end : IsEnd before.known.sizes found
  pub here : found ≡ 16 * stand before.known → MadeQuietStep load_step place found found before.known before now
  pub elsewhere : found ≢ 16 * stand before.known
      → MadeQuietStep load_step place found found (with_own (passed before.known.own) before.known) before now

-- The load of the link where the call stands.
pub record Looked (place found : ℕ) (before now : QueueView) : Type 0 where
  pub loaded : IsLoaded before.known.sizes found
  -- a link that leads nowhere has no bits
  pub plain : target found ≡ 0 → found ≡ 0
  pub made : MadeQuietStep load_step place found found
      (with_own (leading (target found) before.known.own) before.known) before now

-- The step settled that a take is answered Empty. Its place is the least one since the call's start at which that is right.
pub record Settled (place found : ℕ) (before now : QueueView) : Type 0 where
  pub at : ℕ
  pub since : before.known.own.start ≤ at
  pub within : at ≤ length (log_of now.order)
  pub right : reply (after queue (log_of now.order) at) call.Take ≡ said.Empty
  pub least : (p : ℕ) → before.known.own.start ≤ p → p < at → reply (after queue (log_of now.order) p) call.Take ≡ said.Empty → ⊥
  pub made : MadeStep empty_step place found found [] (placed call.Take said.Empty at ∷ [])
      (with_own (resting before.known.own) before.known)
      before now
  pub stands : StandsThen now

-- The same load by a take: nil settles its answer.
pub record Tried (place found : ℕ) (before now : QueueView) : Type 0 where
  pub loaded : IsLoaded before.known.sizes found
  pub plain : target found ≡ 0 → found ≡ 0
  pub some : found ≢ 0 → MadeQuietStep load_step place found found
      (with_own (leading (target found) before.known.own) before.known) before now
  pub none : found ≡ 0 → Settled place found before now

-- The exchange of head 1.
pub record Advanced (place first new found : ℕ) (before now : QueueView) : Type 0 where
  pub same : found ≡ first → MadeQuietStep advance_step place found new (with_own (caught_up before.known.own) before.known) before now
  pub other : found ≢ first → MadeQuietStep missed_step place found found before.known before now

-- What a call has to know for it: its record leads on to this one.
pub record MayAdvance (z : Sizes) (q : QueuePass) (place first new : ℕ) : Type 0 where
  pub two : z.heads ≡ 2
  pub word : q.own.at < 5
  pub some : q.own.next ≢ 0
  pub place_is : place ≡ head_place z 1
  pub first_is : first ≡ 16 * stand q
  pub new_is : new ≡ 16 * q.own.next

-- What a put has to know before it links its record d, the one at the index i of those that it owns.
pub record MayLink (z : Sizes) (q : QueuePass) (i : ℕ) (d : PrivateRecord) (place v new : ℕ) : Type 0 where
  pub two : z.heads ≡ 2
  pub word : q.own.at < 5
  pub back : q.own.front ≡ false
  pub place_is : place ≡ cell_place z (stand q) 2
  pub owned_at : get_elem? q.owned i ≡ some d
  pub value : value_of (halves d.value d.high) ≡ v
  pub left : d.left ≡ 0
  pub new_is : new ≡ 16 * d.number

-- the pass after it
abbrev pub linked : ℕ → ℕ → QueuePass → QueuePass
linked i n q = record q { owned = remove_at i q.owned; own = lagging (leading n (resting q.own)) }

-- The exchange of the last record's nil link.
pub record Linked (i n place v new found : ℕ) (before now : QueueView) : Type 0 where
  pub same : found ≡ 0 → MadeStep put_step place found new (change_at (call.Put v) now ∷ [])
      (placed_at (call.Put v) said.Put now ∷ [])
      (linked i n before.known) before now
  pub stands : found ≡ 0 → StandsThen now
  pub other : found ≢ 0 → MadeQuietStep missed_step place found found before.known before now

-- What a take has to know before it moves head 0: its record is one that head 1 has passed, and leads to the one that it holds
-- in the
-- word j, which the frontier word names.
pub record MayTake (z : Sizes) (q : QueuePass) (j guard place first new : ℕ) : Type 0 where
  pub two : z.heads ≡ 2
  pub word : q.own.at < 5
  pub front : q.own.front ≡ true
  pub past : q.own.past ≡ true
  pub some : q.own.next ≢ 0
  pub place_is : place ≡ head_place z 0
  pub first_is : first ≡ 16 * stand q
  pub new_is : new ≡ 16 * q.own.next
  pub other : j < 5
  pub held : (slot q j).held ≡ true
  pub named : (slot q j).named ≡ q.own.next
  pub guard_low : guard < 4
  pub guarded : guarding q guard ≡ q.own.next
  pub unused : IsUnused guard q

-- the pass after it
abbrev pub taken : ℕ → ℕ → ℕ → QueuePass → QueuePass
taken n guard new q = with_own (resting q.own) (detaching (dummy_chain n guard new) q)

-- The exchange of head 0.
pub record Took (j guard place first new found : ℕ) (before now : QueueView) : Type 0 where
  pub same : found ≡ first → MadeStep take_step place found new (change_at call.Take now ∷ [])
      (placed_at call.Take (said.Took (value_of (slot before.known j).value)) now ∷ [])
      (taken (stand before.known) guard new before.known)
      before now
  pub stands : found ≡ first → StandsThen now
  pub other : found ≢ first → MadeQuietStep missed_step place found found before.known before now
