-- A call on a list that is going on, by the views of its pass.
use Rattle.std.specs.Prelude.{◌≡◌, ◌≢◌, ◌⊎◌, ℕ, ◌^◌, ◌<◌, Bool, true, false, cond, List, Option}
use Rattle.pp_link.specs.declared.layout.Sizes.{Sizes}
use Rattle.pp_pool.specs.declared.fresh.Fresh.{Fresh}
use Rattle.pp_model.specs.declared.Call.{Call}
use Rattle.pp_model.specs.declared.Call.TheVariants.{Insert}
use Rattle.pp_model.specs.declared.Reply.TheVariants.{Took}
use Rattle.pp_model.specs.declared.steps.Step.{Step}
use Rattle.pp_model.specs.Calls.{key_of, Takes}
use Rattle.pp_model.specs.Pass.{GoingView}
use Rattle.pp_rule.specs.Orders.{log_of}
use Rattle.pp_rule.specs.Views.{slot, value_of}
use Rattle.pp_rule.specs.Lists.{IsIn}
use Rattle.pp_base.specs.declared.purse.Purse.{Purse}
use Rattle.pp_base.specs.Named.{NamedStep}
use Rattle.pp_base.specs.Passes.{IsAtRest}
use Rattle.pp_shelf.specs.Runs.{map_sizes, steps_made}
use Rattle.pp_lists.specs.Lists.{ListPass}
use Rattle.pp_lists.specs.Walks.{bucket, numbers}
use Rattle.pp_lists.specs.Turns.{ListView}
use Rattle.pp_lists.specs.Losses.{list_reader}
use Rattle.pp_turns.specs.Purses as purses
use Rattle.pp_turns.specs.Tallies.{losing, effected}
use Rattle.pp_turns.specs.Turns.{Since, Waits, Unplaced, Struck, WasAbsent}
use Rattle.pp_walk.specs.Roles.{IsWalk, IsFound, lower_of, is_look}
use Rattle.pp_walk.specs.Effects.{MayFill, MayDetachRun}
use Rattle.pp_walk.specs.Parts.{GathersNone}
use Rattle.pp_list.specs.declared.going.ListGoing.{ListGoing}
use Rattle.pp_list.specs.declared.going.Marked.{Marked}
use Rattle.pp_list.specs.declared.going.Next.{Next}
use Rattle.pp_list.specs.declared.going.Next.TheVariants.{Walks, Detaches, Marks, Publishes, Unlinks, Over}
use Rattle.pp_list.specs.Causes.{taken_by}
use Rattle.pp_list.specs.Purses.{HasOut}

-- The kind of the next turn: the first one, a later one of the walk, and those behind the walk, in their order.
abbrev pub kind_of : Next → ℕ
kind_of (Walks w) = cond w.fresh 0 1
kind_of (Detaches f) = 2
kind_of (Marks f) = 2
kind_of (Publishes f) = 3
kind_of (Unlinks m) = 3
kind_of Over = 3

-- the least key that the walk has left
abbrev pub lower_left : ListPass → Next → ℕ
lower_left q (Walks w) = cond w.fresh 0 (lower_of q w.at)
lower_left q (Detaches f) = 0
lower_left q (Marks f) = 0
lower_left q (Publishes f) = 0
lower_left q (Unlinks m) = 0
lower_left q Over = 0

-- What callers see of it: its start and the keys that are left are those of its pass.
abbrev pub going_of : ListPass → ListGoing → GoingView
going_of q g = record {
  call = g.call;
  budget = g.races;
  lost = g.lost;
  start = q.own.start;
  struck = g.struck;
  kind = kind_of g.next;
  lower = lower_left q g.next;
  upper = 2 ^ 64;
}

-- The call made these turns since it was begun, of which so many were lost. It hasn't taken effect.
pub record Tries (z : Sizes) (call : Call) (lost : ℕ) (from now : ListView) : Type 0 where
  pub memory : List NamedStep
  pub since : Since list_reader (map_sizes z) call now.known.own.start (losing memory lost) from now
  pub unplaced : Unplaced from now

-- It took the pair of the record n, and since then it made these steps. So many turns were lost before that.
pub record HasTaken (z : Sizes) (call : Call) (races lost n v : ℕ) (from now : ListView) : Type 0 where
  pub memory : List NamedStep
  pub early : ℕ
  pub later : List Step
  pub since : Since list_reader (map_sizes z) call now.known.own.start (effected memory lost early later) from now
  pub few : early < races
  pub struck : Struck call (Took v) from now
  pub taken : taken_by (map_sizes z) call (steps_made from now) ≡ n
  pub changing : is_look call ≡ false

-- an insert found no record with its key, at a place since its start, and goes on
pub record Inserts (call : Call) (now : ListView) : Type 0 where
  pub key : ℕ
  pub value : ℕ
  pub call_is : call ≡ Insert key value
  pub going : now.known.own.going ≡ true
  pub own_call : now.known.own.call ≡ call
  pub absent : WasAbsent now.known.own.start key (log_of now.order)

-- what was gathered begins with a record that is held, or there is nothing
abbrev pub HoldsFirst : ListPass → Type 0
HoldsFirst q = GathersNone q.own ⊎ ((q.own.first < 5) × ((slot q q.own.first).held ≡ true))

-- A remove or a cut has marked the record n, which it holds.
pub record MayUnlink (z : Sizes) (q : ListPass) (m : Marked) (n : ℕ) : Type 0 where
  pub detaches : MayDetachRun z q m.anchor m.first m.next
  pub member : IsIn n (numbers q.own.chain)
  pub word : m.word < 5

-- whether the next turn follows one by which the call took effect
abbrev pub is_after : Next → Bool
is_after (Walks w) = false
is_after (Detaches f) = false
is_after (Marks f) = false
is_after (Publishes f) = false
is_after (Unlinks m) = true
is_after Over = false

-- It stands in its walk: it made no step yet, or these turns.
abbrev pub Begun : Bool → Sizes → Call → ℕ → ListView → ListView → Type 0
Begun true z call lost from now = Waits from now × (Unplaced from now × (lost ≡ 0))
Begun false z call lost from now = Tries z call lost from now

-- what is true before each kind of turn
abbrev pub Stands : Sizes → Call → (races lost : ℕ) → Next → ListView → ListView → Type 0
Stands z call races lost (Walks w) from now = (w.call ≡ call) × (IsWalk z now.known w × Begun w.fresh z call lost from now)
Stands z call races lost (Detaches f) from now = Tries z call lost from now × (Inserts call now × (IsFound z now.known call f
    × ((f.equal ≡ false) × (f.chain ≢ 0))))
Stands z call races lost (Marks f) from now = Tries z call lost from now × (IsFound z now.known call f
    × ((f.equal ≡ true) × (now.known.own.going ≡ true) × (f.word < 5) × ((slot now.known f.word).held ≡ true)
    × Takes call (slot now.known f.word).key (value_of (slot now.known f.word).value)))
Stands z call races lost (Publishes f) from now = Tries z call lost from now × (Inserts call now
    × (MayFill z now.known f.anchor f.end (key_of call) × HoldsFirst now.known))
Stands z call races lost (Unlinks m) from now = (n : ℕ) × (HasTaken z call races lost n m.value from now × MayUnlink z now.known m n)
Stands z call races lost Over from now = ⊥

-- What the call has of the purse of its pass, whose free numbers at its begin were these.
abbrev pub Carries : ℕ → Call → Option Fresh → ListView → ListView → List ℕ → Purse → Type 0
Carries share call fresh from now free p = purses.Carries HasOut 1 share call fresh from now free p

-- The call is under way on a pass with this share: it was begun at this view, with these free numbers.
pub record IsUnder (z : Sizes) (share : ℕ) (g : ListGoing) (now : ListView) (p : Purse) (from : ListView) (free : List ℕ)
    : Type 0 where
  pub low : g.head < z.heads
  pub home : g.head ≡ bucket z.heads (key_of g.call)
  pub below : g.lost < g.races
  pub struck : g.struck ≡ is_after g.next
  pub rest : IsAtRest now.known p
  pub carries : Carries share g.call g.fresh from now free p
  pub stands : Stands z g.call g.races g.lost g.next from now
