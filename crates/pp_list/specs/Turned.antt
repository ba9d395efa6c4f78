-- What a part of a turn makes of a call that is going on a list.
use Rattle.std.specs.Prelude.{◌≡◌, ◌⊎◌, ℕ, ◌+◌, ◌<◌, true, false, List, Some, None}
use Rattle.pp_link.specs.declared.layout.Sizes.{Sizes}
use Rattle.pp_model.specs.declared.Reply.{Reply}
use Rattle.pp_model.specs.declared.Turned.{Turned}
use Rattle.pp_model.specs.Calls.{key_of, changes, reply_at}
use Rattle.pp_model.specs.MapCalls.{Answered, IfOn, IfDone, took_effect}
use Rattle.pp_rule.specs.Orders.{log_of}
use Rattle.pp_base.specs.declared.purse.Purse.{Purse}
use Rattle.pp_base.specs.Named.{NamedStep, Made}
use Rattle.pp_calls.specs.PoolViews.{pool_view}
use Rattle.pp_calls.specs.Steps.{Went, Stepped, HasOwn, StandsThen}
use Rattle.pp_shelf.specs.Runs.{map_sizes}
use Rattle.pp_base.specs.Passes.{IsAtRest}
use Rattle.pp_lists.specs.Lists.{ListPass}
use Rattle.pp_lists.specs.Walks.{IsRight, bucket}
use Rattle.pp_lists.specs.Turns.{ListView}
use Rattle.pp_lists.specs.Losses.{list_reader}
use Rattle.pp_turns.specs.Tallies.{losing}
use Rattle.pp_turns.specs.Turned.{HasTurned}
use Rattle.pp_turns.specs.Turns.{Since, Unplaced, Struck, Replied, SawLast}
use Rattle.pp_walk.specs.declared.walk.Found.{Found}
use Rattle.pp_walk.specs.Roles.{found_in, is_look, IsFound}
use Rattle.pp_list.specs.declared.going.ListGoing.{ListGoing}
use Rattle.pp_list.specs.Meant.{list_meaning}
use Rattle.pp_list.specs.Going.{kind_of, going_of, IsUnder, Carries, Tries, Inserts}
use Rattle.pp_purse.specs.Purses.{RanOut}
use Rattle.pp_pool.specs.declared.fresh.Fresh.{Fresh}
use Rattle.pp_list.specs.Purses.{HasOut}

-- it is the same call, with the same budget, on the same list
pub record SameGoing (g g' : ListGoing) : Type 0 where
  pub head : g'.head ≡ g.head
  pub call : g'.call ≡ g.call
  pub races : g'.races ≡ g.races

-- a part of a turn that goes on was lost, or came to a later kind of turn
abbrev pub Advances : ListGoing → ListGoing → Type 0
Advances g g' = ((g'.lost ≡ g.lost + 1) × (g'.lost < g'.races)) ⊎ ((g'.lost ≡ g.lost) × (kind_of g.next < kind_of g'.next))

-- The last part of a turn, of a call that had not taken effect, of which so much was known before it. What is known speaks of the
-- view at which the call was
-- begun and of the free numbers then.
pub record Part (z : Sizes) (share : ℕ) (Known : ListView → List ℕ → Type 0) (g g' : ListGoing) (v w : ListView) (p' : Purse)
    (result : Turned) : Type 0 where
  pub stepped : Stepped v w
  pub stands : HasOwn w.order → StandsThen v → StandsThen w
  pub same : SameGoing g g'
  pub strikes : g'.struck ≡ true → (said : Reply) × Struck g.call said v w
  pub struck : IfDone result (λ answer. g'.struck ≡ took_effect answer)
  pub advances : IfOn result (Advances g g')
  pub goes_on : IfOn result ((from : ListView) (free : List ℕ) → Known from free → IsUnder z share g' w p' from free)
  pub answered : IfDone result (λ answer. (from : ListView) (free : List ℕ) → Known from free → StandsThen w
      → Answered list_meaning (map_sizes z) g.call g.races (pool_view from free share) (pool_view w p'.free.items share) answer
      g'.lost)

-- A turn of it was lost just now.
pub record HasLost (z : Sizes) (share : ℕ) (g : ListGoing) (v : ListView) (p : Purse) (from : ListView) (free : List ℕ) : Type 0 where
  pub tries : Tries z g.call (g.lost + 1) from v
  pub last : SawLast from v
  pub carries : Carries share g.call g.fresh from v free p

-- Its walk ended just now at what was found. A reply that changes nothing was placed.
pub record HasArrived (z : Sizes) (share : ℕ) (g : ListGoing) (f : Found) (v : ListView) (p : Purse) (from : ListView)
    (free : List ℕ) : Type 0 where
  pub memory : List NamedStep
  pub since : Since list_reader (map_sizes z) g.call v.known.own.start (losing memory g.lost) from v
  pub last : SawLast from v
  pub settled : changes (reply_at g.call (found_in v.known f)) ≡ false
      → Replied g.call (reply_at g.call (found_in v.known f)) v.known.own.start from v
  pub opened : changes (reply_at g.call (found_in v.known f)) ≡ true → Unplaced from v
      × IsRight (log_of v.order) v.known.own.start (key_of g.call) (found_in v.known f)
  pub carries : Carries share g.call g.fresh from v free p

-- It found no record for its insert by its last steps.
pub record FoundNoRecord (z : Sizes) (share : ℕ) (g : ListGoing) (v : ListView) (p : Purse) (from : ListView) (free : List ℕ) : Type 0 where
  pub tries : Tries z g.call g.lost from v
  pub last : SawLast from v
  pub inserts : Inserts g.call v
  pub sizes : v.known.sizes ≡ from.known.sizes
  pub was : ListView
  pub went : Went from was
  pub names : List NamedStep
  pub made : Made names was v
  pub before : Purse
  pub same : before.free.items ≡ free
  pub ran_out : RanOut z 1 was v before p

-- It has a record now for its insert, which goes on.
pub record HasRecord (z : Sizes) (share : ℕ) (g : ListGoing) (f : Fresh) (v : ListView) (p : Purse) (from : ListView) (free : List ℕ) : Type
    0 where
  pub tries : Tries z g.call g.lost from v
  pub inserts : Inserts g.call v
  pub carries : Carries share g.call (Some f) from v free p

-- The walk of a call ended at what was found, and the pass is ready for what comes next.
pub record HasEnded (z : Sizes) (g : ListGoing) (q : ListPass) (p : Purse) (f : Found) : Type 0 where
  pub found : IsFound z q g.call f
  pub goes : changes (reply_at g.call (found_in q f)) ≡ true → q.own.going ≡ true
  pub low : g.head < z.heads
  pub home : g.head ≡ bucket z.heads (key_of g.call)
  pub below : g.lost < g.races
  pub unstruck : g.struck ≡ false
  pub walks : kind_of g.next < 2
  pub rest : IsAtRest q p
  pub out : HasOut q p g.fresh
  pub none : is_look g.call ≡ true → g.fresh ≡ None

-- What a turn makes of it.
abbrev pub ListTurned : Sizes → ℕ → ListGoing → ListGoing → ListView → ListView → Purse → Purse → Turned → Type 0
ListTurned z share g g' v w p p' result = HasTurned list_meaning z share (SameGoing g g') (IsUnder z share g v p) (IsUnder z share g' w p')
    (going_of v.known g) (going_of w.known g') v w p'.free.items result
