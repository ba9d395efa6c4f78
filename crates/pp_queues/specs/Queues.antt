-- What a queue adds to the rule of its pool.
use Rattle.std.specs.Prelude.{◌≡◌, ℕ, ◌<◌, ◌≤◌, Bool, true, false, cond, nat_eq, List, [], ◌∷◌, length, Some, slice_get}
use Rattle.pp_link.specs.declared.layout.Sizes.{Sizes}
use Rattle.pp_link.specs.Links.{target}
use Rattle.pp_rule.specs.declared.views.WalkSlot.{WalkSlot}
use Rattle.pp_rule.specs.declared.views.Chain.{Chain}
use Rattle.pp_rule.specs.declared.views.PassState.{PassState}
use Rattle.pp_rule.specs.declared.views.LoggedStep.{LoggedStep}
use Rattle.pp_rule.specs.declared.views.SeatView.{SeatView}
use Rattle.pp_rule.specs.Lists.{IsIn}
use Rattle.pp_rule.specs.Orders.{log_of, placed_by}
use Rattle.pp_rule.specs.Views.{slot}
use Rattle.pp_rule.specs.States.{PoolState}
use Rattle.pp_rule.specs.Paths.{links_of}
use Rattle.pp_queues.specs.declared.calls.QueueChange.{QueueChange}
use Rattle.pp_queues.specs.declared.calls.QueuePlaced.{QueuePlaced}
use Rattle.pp_queues.specs.declared.own.QueueOwn.{QueueOwn}
use Rattle.pp_queues.specs.Queue.{items_of, IsSound, StandsIn}
use Rattle.pp_queues.specs.Lines.{Heap, heap, Lined, Stood, Sole}

abbrev pub QueuePass : Type 0
QueuePass = PassState QueueOwn

abbrev pub QueueState : Type 0
QueueState = PoolState QueueChange QueuePlaced QueueOwn

abbrev pub QueueStep : Type 0
QueueStep = LoggedStep QueueChange QueuePlaced

abbrev pub QueueView : Type 0
QueueView = SeatView QueueChange QueuePlaced QueueOwn

-- What is true of the pass p, by its walk words, its own part and its placed calls.
pub record Calls (z : Sizes) (t : Heap) (log : List QueueChange) (p : ℕ) (w : ℕ
    → WalkSlot) (own : QueueOwn) (mine : List QueuePlaced)
    : Type 0 where
  pub stands : StandsIn log p mine
  pub since : own.going ≡ true → own.start ≤ length log
  -- the calls before it have their places up to its start
  pub earlier : own.going ≡ true → (i : ℕ) (x : QueuePlaced) → slice_get mine i ≡ Some x → x.place ≤ own.start
  pub stood : z.heads ≡ 2 → Stood t w own
  -- and of the one pass of a pool
  pub sole : z.passes ≡ 1 → z.heads ≡ 2 → Sole t w own

-- the changes of this step are those of its pass
abbrev pub IsOwnStep : QueueStep → Type 0
IsOwnStep s = (c : QueueChange) → IsIn c s.entry.changes → c.caller ≡ s.entry.pass

-- so are those of each step
abbrev pub HasOwn : List QueueStep → Type 0
HasOwn order = (s : QueueStep) → IsIn s order → IsOwnStep s

-- what a queue adds to the rule
pub record Queues (z : Sizes) (words : List ℕ) (g : QueueState) : Type 0 where
  pub sound : IsSound (log_of g.order)
  pub own_changes : (s : QueueStep) → IsIn s g.order → IsOwnStep s
  -- where the attached records stand in their line
  pub at : ℕ → ℕ
  pub lined : Lined z (heap z words g.status) at (items_of (log_of g.order))
  pub each : (p : ℕ) → p < z.passes
      → Calls z (heap z words g.status) (log_of g.order) p (slot (g.of p)) (g.of p).own (placed_by p g.order)

-- no link is frozen by its bits
abbrev pub queue_frozen : ℕ → Bool
queue_frozen w = false

-- a walk word was cleared
abbrev pub queue_forget : ℕ → QueueOwn → QueueOwn
queue_forget i own = record own { at = cond (nat_eq own.at i) 5 own.at }

-- a pass without a call
abbrev pub nobody : QueueOwn
nobody = record { going = false; start = 0; at = 5; front = false; next = 0; past = false; behind = false }

-- a dummy alone, which this word leads on from
abbrev pub dummy_chain : ℕ → ℕ → ℕ → Chain
dummy_chain n guard word = record {
  records = n ∷ [];
  guard = guard;
  frontier = target word;
  links = record { number = n; side = 0; word = word } ∷ [];
  valid = links_of 1 (n ∷ []);
}

-- a queue detaches by its own step alone
abbrev pub queue_chain : List WalkSlot → QueueOwn → ℕ → ℕ → ℕ → Chain
queue_chain walk own guard first new = dummy_chain (target first) guard new

abbrev pub NeverDetaches : Sizes → List WalkSlot → QueueOwn → ℕ → ℕ → ℕ → Type 0
NeverDetaches z walk own place first new = ⊥

-- a queue opens with record 1 as its dummy
abbrev pub queue_head : ℕ → ℕ
queue_head h = 16

abbrev pub queue_field : ℕ → ℕ → ℕ
queue_field n f = 0
