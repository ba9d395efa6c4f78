-- A call is under way still where its pass learnt of more steps of others.
use Rattle.std.proofs.Common.{◌≡◌, ℕ, ◌<◌, Bool, true, false, List}
use Rattle.std.proofs.Common.{sym, ap, ◌∙◌, subst}
use Rattle.pp_link.specs.declared.layout.Sizes.{Sizes}
use Rattle.pp_model.specs.declared.Call.{Call}
use Rattle.pp_model.specs.declared.steps.Step.{Step}
use Rattle.pp_model.specs.declared.Reply.TheVariants.{Took}
use Rattle.pp_model.specs.Calls.{key_of, Takes}
use Rattle.pp_rule.specs.Lists.{BeginsWith}
use Rattle.pp_rule.specs.Orders.{log_of, made_by, placed_by}
use Rattle.pp_rule.proofs.Histories.{log_begins}
use Rattle.pp_base.specs.declared.purse.Purse.{Purse}
use Rattle.pp_base.specs.Passes.{IsAtRest}
use Rattle.pp_calls.specs.Steps.{Went}
use Rattle.pp_shelf.specs.Runs.{map_sizes}
use Rattle.pp_lists.specs.Lists.{ListPass}
use Rattle.pp_lists.specs.Turns.{ListView}
use Rattle.pp_lists.specs.Losses.{list_reader}
use Rattle.pp_turns.specs.Tallies.{losing, effected}
use Rattle.pp_turns.specs.Turns.{Since, Unplaced, WasAbsent}
use Rattle.pp_turns.proofs.Purses.{carries_learnt}
use Rattle.pp_turns.proofs.Placing.{steps_learnt, waits_learnt, since_learnt, unplaced_on, struck_later, absent_on}
use Rattle.pp_walk.specs.Roles.{IsWalk, IsFound}
use Rattle.pp_walk.specs.Effects.{MayFill}
use Rattle.pp_rule.specs.Views.{slot, value_of}
use Rattle.pp_list.specs.declared.going.ListGoing.{ListGoing}
use Rattle.pp_list.specs.declared.going.Next.{Next}
use Rattle.pp_list.specs.declared.going.Next.TheVariants.{Walks, Detaches, Marks, Publishes, Unlinks, Over}
use Rattle.pp_list.specs.Causes.{taken_by}
use Rattle.pp_list.specs.Going.{IsUnder, Stands, Begun, Tries, HasTaken, Inserts, MayUnlink, HoldsFirst}
use Rattle.pp_list.specs.Purses.{HasOut}

module _ (z : Sizes) (share : ℕ) (from v w : ListView) (same : w.known ≡ v.known) (order : BeginsWith w.order v.order)
    (made : made_by v.known.number w.order ≡ made_by v.known.number v.order)
    (placed : placed_by v.known.number w.order ≡ placed_by v.known.number v.order) where
  unplaced_still : Went from v → Unplaced from v → Unplaced from w
  unplaced_still g u = unplaced_on from v w g.number u placed

  tries_learnt : (call : Call) (lost : ℕ) → Tries z call lost from v → Tries z call lost from w
  tries_learnt call lost t = record {
    memory = t.memory;
    since = subst (λ (q : ListPass). Since list_reader (map_sizes z) call q.own.start (losing t.memory lost) from w) (sym same)
        (since_learnt from v w same order made placed list_reader (map_sizes z) call v.known.own.start (losing t.memory lost) t.since);
    unplaced = unplaced_still t.since.went t.unplaced;
  }

  taken_learnt : (call : Call) (races lost n x : ℕ) → HasTaken z call races lost n x from v → HasTaken z call races lost n x from w
  taken_learnt call races lost n x t = record {
    memory = t.memory;
    early = t.early;
    later = t.later;
    since = subst (λ (q : ListPass). Since list_reader (map_sizes z) call q.own.start (effected t.memory lost t.early t.later) from w)
        (sym same)
        (since_learnt from v w same order made placed list_reader (map_sizes z) call v.known.own.start (effected t.memory lost t.early
        t.later)
        t.since);
    few = t.few;
    struck = struck_later call (Took x) from v w t.since.went.number order t.struck placed;
    taken = ap (λ (l : List Step). taken_by (map_sizes z) call l) (steps_learnt from v w same order made placed t.since.went) ∙ t.taken;
    changing = t.changing;
  }

  inserts_learnt : (call : Call) → Inserts call v → Inserts call w
  inserts_learnt call i = record {
    key = i.key;
    value = i.value;
    call_is = i.call_is;
    going = ap (λ (q : ListPass). q.own.going) same ∙ i.going;
    own_call = ap (λ (q : ListPass). q.own.call) same ∙ i.own_call;
    absent = subst (λ (q : ListPass). WasAbsent q.own.start i.key (log_of w.order)) (sym same)
        (absent_on v.known.own.start i.key (log_of w.order) (log_of v.order) (log_begins w.order v.order order) i.absent);
  }

  begun_learnt : (fresh : Bool) (call : Call) (lost : ℕ) → Begun fresh z call lost from v → Begun fresh z call lost from w
  begun_learnt true call lost b = (waits_learnt from v w same order made placed b.0, (unplaced_still b.0.went b.1.0, b.1.1))
  begun_learnt false call lost b = tries_learnt call lost b

  stands_learnt : (call : Call) (races lost : ℕ) (n : Next) → Stands z call races lost n from v → Stands z call races lost n from w
  stands_learnt call races lost (Walks x) s =
      (s.0, (subst (λ (q : ListPass). IsWalk z q x) (sym same) s.1.0, begun_learnt x.fresh call lost s.1.1))
  stands_learnt call races lost (Detaches f) s = (
    tries_learnt call lost s.0,
    (
      inserts_learnt call s.1.0,
      (subst (λ (q : ListPass). IsFound z q call f) (sym same) s.1.1.0, s.1.1.1),
    ),
  )
  stands_learnt call races lost (Marks f) s = (
    tries_learnt call lost s.0,
    subst (λ (q : ListPass). IsFound z q call f × ((f.equal ≡ true) × (q.own.going ≡ true) × (f.word < 5)
        × ((slot q f.word).held ≡ true) × Takes call (slot q f.word).key (value_of (slot q f.word).value))) (sym same) s.1,
  )
  stands_learnt call races lost (Publishes f) s = (
    tries_learnt call lost s.0,
    (
      inserts_learnt call s.1.0,
      subst (λ (q : ListPass). MayFill z q f.anchor f.end (key_of call) × HoldsFirst q) (sym same) s.1.1,
    ),
  )
  stands_learnt call races lost (Unlinks m) s = (
    s.0,
    (
      taken_learnt call races lost s.0 m.value s.1.0,
      subst (λ (q : ListPass). MayUnlink z q m s.0) (sym same) s.1.1,
    ),
  )
  stands_learnt call races lost Over s = s

  pub under_learnt : (g : ListGoing) (p : Purse) (free : List ℕ) → IsUnder z share g v p from free → IsUnder z share g w p from free
  under_learnt g p free x = record {
    low = x.low;
    home = x.home;
    below = x.below;
    struck = x.struck;
    rest = subst (λ (q : ListPass). IsAtRest q p) (sym same) x.rest;
    carries = carries_learnt HasOut 1 share g.call g.fresh from v w free p same made x.carries;
    stands = stands_learnt g.call g.races g.lost g.next x.stands;
  }
