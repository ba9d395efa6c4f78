-- What the turns of a call on a queue come to.
use Rattle.std.specs.Prelude.{◌≡◌, ◌⊎◌, min, ℕ, ◌+◌, ◌*◌, ◌<◌, ◌≤◌, true, false, [], ◌∷◌, ◌++◌, length, Option, Some, None}
use Rattle.std.specs.Prelude.{Result, Ok, Err}
use Rattle.pp_link.specs.declared.layout.Sizes.{Sizes}
use Rattle.pp_model.specs.declared.Lost.{Lost}
use Rattle.pp_model.specs.Pass.{seen_first}
use Rattle.pp_rule.specs.Causes.{FoundNone, FoundTaken}
use Rattle.pp_rule.specs.Lists.{BeginsWith}
use Rattle.pp_rule.specs.Orders.{log_of, placed_by}
use Rattle.pp_base.specs.declared.purse.Purse.{Purse}
use Rattle.pp_pool.specs.Taken.{IsPrivate, IsPublished}
use Rattle.pp_queues.specs.declared.calls.QueueCall.TheVariants as call
use Rattle.pp_queues.specs.declared.calls.QueueReply.TheVariants as said
use Rattle.pp_model.specs.Objects.{after}
use Rattle.pp_queues.specs.Queue.{queue, reply, placed}
use Rattle.pp_queues.specs.Queues.{QueuePass, QueueView}
use Rattle.pp_shelf.specs.Runs.{steps_made}
use Rattle.pp_queues.specs.Calls.{TriedToMove, map_sizes}
use Rattle.pp_queues.specs.Losses.{Tally, losing, striking, HasStruck, Ran}
use Rattle.pp_queue.specs.Calling.{TookOff, Struck}

-- The pass made steps at which nothing counts for a call of a queue, and no call was placed.
pub record Idles (passes : ℕ) (before now : QueueView) : Type 0 where
  pub ran : (t : Tally) → Ran passes t t before now
  pub mine : placed_by before.known.number now.order ≡ placed_by before.known.number before.order

-- The record n was taken. It is private, and but for it at least as many are free as before.
pub record HasTaken (n : ℕ) (q : QueuePass) (p p' : Purse) : Type 0 where
  pub private : IsPrivate q p' n
  pub out : p'.taken ≡ 1
  pub going : p'.going ≡ p.going
  pub kept : length p.free.items ≤ length p'.free.items + 1

-- There was no free record: a reclaim pass freed none, and the shelves had none.
pub record RanOut (z : Sizes) (before now : QueueView) (p p' : Purse) : Type 0 where
  pub cause : FoundNone 1 (map_sizes z) p.free.items (steps_made before now)
  pub none : p'.free.items ≡ []
  pub retired_few : length now.known.retired ≤ 9 * z.passes
  pub taken : p'.taken ≡ p.taken
  pub going : p'.going ≡ p.going
  pub some : 0 < length (steps_made before now)

-- as many records are out as before, and no call is going on that wasn't
pub record SameCounts (p p' : Purse) : Type 0 where
  pub taken : p'.taken ≡ p.taken
  pub going : p'.going ≡ p.going

-- The end of a call: few records stay retired, and of the free ones those of its share stay.
pub record Tidies (z : Sizes) (share : ℕ) (before now : QueueView) (p p' : Purse) : Type 0 where
  pub few : length now.known.retired ≤ 2 * (9 * z.passes)
  pub shared : (length p'.free.items ≤ share) ⊎ FoundTaken (map_sizes z) (steps_made before now)
  pub kept : min share (length p.free.items) ≤ length p'.free.items
  pub counts : SameCounts p p'

-- A take goes on after its first step.
pub record Began (before now : QueueView) : Type 0 where
  pub order : BeginsWith now.order before.order
  pub mine : placed_by before.known.number now.order ≡ placed_by before.known.number before.order
  pub number : now.known.number ≡ before.known.number
  pub going : now.known.own.going ≡ true
  pub since : length (log_of before.order) ≤ now.known.own.start

-- A take was answered Empty, at the least place since its first step at which that is right.
pub record TookNone (passes races : ℕ) (before now : QueueView) : Type 0 where
  pub start : ℕ
  pub from : length (log_of before.order) ≤ start
  pub place : ℕ
  pub mine : placed_by before.known.number now.order ≡ placed_by before.known.number before.order ++ placed call.Take said.Empty
      place ∷ []
  pub since : start ≤ place
  pub within : place ≤ length (log_of now.order)
  pub right : reply (after queue (log_of now.order) place) call.Take ≡ said.Empty
  pub least : (p : ℕ) → start ≤ p → p < place → reply (after queue (log_of now.order) p) call.Take ≡ said.Empty → ⊥
  -- it lost fewer turns than it may
  pub word : ℕ
  pub lost : ℕ
  pub few : lost < races
  pub ran : Ran passes (losing 0 0) (losing word lost) before now
  pub some : 0 < length ran.stepped.steps
  pub started : seen_first 0 ran.stepped.steps ≡ start
  -- none where the pass is alone
  pub alone : passes ≡ 1 → before.known.own.behind ≡ false → lost ≡ 0

-- It took this value.
pub record TookValue (passes races v : ℕ) (before now : QueueView) : Type 0 where
  pub took : TookOff v before now
  pub word : ℕ
  pub lost : ℕ
  pub few : lost < races
  pub ran : Ran passes (losing 0 0) (striking word lost) before now
  pub some : 0 < length ran.stepped.steps
  pub alone : passes ≡ 1 → before.known.own.behind ≡ false → lost ≡ 0

-- It lost as many turns as it may, and no call was placed.
pub record GaveUp (passes turns races : ℕ) (before now : QueueView) : Type 0 where
  pub mine : placed_by before.known.number now.order ≡ placed_by before.known.number before.order
  pub counted : turns ≡ races
  pub word : ℕ
  pub ran : Ran passes (losing 0 0) (losing word races) before now
  pub some : 0 < length ran.stepped.steps
  -- to other callers
  pub others : passes ≡ 1 → before.known.own.behind ≡ false → ⊥

-- what a take was answered
abbrev pub TakeSays : ℕ → ℕ → Result (Option ℕ) Lost → QueueView → QueueView → Type 0
TakeSays passes races (Ok None) before now = TookNone passes races before now
TakeSays passes races (Ok (Some v)) before now = TookValue passes races v before now
TakeSays passes races (Err e) before now = GaveUp passes e.turns races before now

-- A value was put, and after that step the call tried to move head 1 on.
pub record PutDone (z : Sizes) (races v : ℕ) (before now : QueueView) : Type 0 where
  pub struck : Struck (call.Put v) said.Put before now
  pub lost : ℕ
  pub few : lost < races
  pub counted : Tally
  pub effect : HasStruck lost counted
  pub ran : Ran z.passes (losing 0 0) counted before now
  pub some : 0 < length ran.stepped.steps
  pub tried : TriedToMove z ran.stepped.steps
  -- where the pass is alone, it has moved head 1 on
  pub up : z.passes ≡ 1 → before.known.own.behind ≡ false → now.known.own.behind ≡ false
  pub alone : z.passes ≡ 1 → before.known.own.behind ≡ false → counted.lost ≡ 0

-- what a put was answered
abbrev pub PutSays : Sizes → ℕ → ℕ → Result Unit Lost → QueueView → QueueView → Type 0
PutSays z races v (Ok u) before now = PutDone z races v before now
PutSays z races v (Err e) before now = GaveUp z.passes e.turns races before now

-- what it leaves of its record
abbrev pub PutLeaves : ℕ → Result Unit Lost → QueuePass → Purse → Type 0
PutLeaves n (Ok u) q p = IsPublished q p n
PutLeaves n (Err e) q p = IsPrivate q p n
