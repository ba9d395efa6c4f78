-- What the loads of a seek tell: it begins, comes to an internal record, and ends at a leaf.
use Rattle.std.specs.Prelude.{◌≡◌, ◌≢◌, ℕ, ◌+◌, ◌<◌, ◌≤◌, Bool, true, false, cond, nat_eq, List, [], ◌∷◌, ◌++◌, length}
use Rattle.std.specs.Prelude.{Option, Some, None, slice_set}
use Rattle.pp_link.specs.declared.layout.Sizes.{Sizes}
use Rattle.pp_link.specs.Links.{target, flag_bit, tag_bit}
use Rattle.pp_link.specs.Places.{cell_place}
use Rattle.pp_model.specs.declared.Call.{Call}
use Rattle.pp_model.specs.Calls.{key_of, reply_at, reply, changes}
use Rattle.pp_model.specs.History.{after, Stands}
use Rattle.pp_model.specs.MapCalls.{placed}
use Rattle.pp_rule.specs.declared.views.Halves.{Halves}
use Rattle.pp_rule.specs.Orders.{log_of, placed_by, load_step, confirm_step}
use Rattle.pp_rule.specs.Views.{slot, value_of}
use Rattle.pp_rule.specs.States.{IsSmall}
use Rattle.pp_rule.specs.Steps.{MadeStep, MadeQuietStep, LoadedLink, holding, learning}
use Rattle.pp_trees.specs.declared.own.TreeOwn.{TreeOwn}
use Rattle.pp_trees.specs.declared.own.Passed.{Passed}
use Rattle.pp_trees.specs.TaggedPaths.{Joined}
use Rattle.pp_trees.specs.Trees.{side, IsEdge, IsRight, inf2}
use Rattle.pp_trees.specs.Searches.{TreePass}
use Rattle.pp_trees.specs.Sentinels.{has_mark}
use Rattle.pp_trees.specs.Edges.{TreeView, end_step}

-- a call that begins at the head when so many changes have taken effect, on a pass that removed these
abbrev pub begun : Call → ℕ → List ℕ → TreeOwn
begun call start left = record {
  going = true;
  call = call;
  start = start;
  at = 5;
  top = 5;
  path = [];
  flag = 2;
  beside = 0;
  left = left;
}

-- The first load of a call, at the head: it begins. The head leads to the root.
pub record Begins (place : ℕ) (call : Call) (found : ℕ) (before now : TreeView) : Type 0 where
  pub root : found ≡ 16
  pub made : MadeQuietStep load_step place found found
      (record before.known { own = begun call (length (log_of now.order)) before.known.own.left }) before now

-- a later load of the head
pub record LooksAgain (place found : ℕ) (before now : TreeView) : Type 0 where
  pub root : found ≡ 16
  pub made : MadeQuietStep load_step place found found before.known before now

-- the call stands at the root, which is held in the walk word i
abbrev pub at_root : ℕ → TreeOwn → TreeOwn
at_root i own = record own { at = i; top = 5; path = []; flag = 2 }

-- the confirming load of the head
pub record ComesToRoot (i place found : ℕ) (before now : TreeView) : Type 0 where
  pub root : found ≡ 16
  pub value : Halves
  pub made : MadeQuietStep confirm_step place found found
      (record before.known {
        walk = slice_set before.known.walk i
            (holding 1 inf2 value);
        own = at_root i before.known.own;
      }) before now

-- The first load of an edge of the record where the call stands: it leads to a record, and without FLAG, if that is an internal
-- one.
-- The left edge of the root leads to S for good, without a bit.
pub record Looks (sd place found : ℕ) (before now : TreeView) : Type 0 where
  pub loaded : LoadedLink (learning has_mark before.known.own.at sd found before.known) found place before now
  pub some : target found ≢ 0
  pub unflagged : IsEdge found 0 → flag_bit found ≡ 0
  pub below_root : (slot before.known before.known.own.at).named ≡ 1 → sd ≡ 0 → found ≡ 32

-- The call stands at the record in the walk word i, to which an edge with this word led. Without TAG the record is the
-- successor, and
-- else the edge joins the tagged path.
abbrev pub over_edge : ℕ → Passed → ℕ → TreeOwn → TreeOwn
over_edge i c first own = cond (nat_eq (tag_bit first) 0) (record own { at = i; top = i; path = []; flag = 2 })
    (record own { at = i; path = own.path ++ c ∷ []; flag = 2 })

-- the pass whose call came there over the edge of this side
abbrev pub came_over : ℕ → ℕ → ℕ → ℕ → ℕ → Halves → TreePass → TreePass
came_over i sd first leaf key value q = record q {
  walk = slice_set q.walk i (holding (target first) key value);
  own = over_edge i (record { number = (slot q q.own.at).named; side = sd; word = first; leaf = leaf }) first q.own;
}

-- What is to be known for a confirming load of an edge of the record where the call stands, at the side of its key, into the
-- walk word
-- i. The first word was valid and had this LEAF, and the record to which it leads is announced.
pub record MayCome (z : Sizes) (q : TreePass) (i sd place first leaf : ℕ) : Type 0 where
  pub low : i < 5
  pub free : (slot q i).held ≡ false
  pub named : (slot q i).named ≡ target first
  pub at : q.own.at < 5
  pub side_is : sd ≡ side (key_of q.own.call) (slot q q.own.at).key
  pub place_is : place ≡ cell_place z (slot q q.own.at).named (2 + sd)
  pub edge : IsEdge first leaf

-- the tagged path that the pass walked ends at the record where the call stands
pub record PathEnds (q : TreePass) : Type 0 where
  pub first : ℕ
  pub last : ℕ
  pub begins : q.own.top < 5 → target first ≡ (slot q q.own.top).named
  pub joined : q.own.top < 5 → Joined first q.own.path last
  pub ends : (slot q q.own.at).named ≡ target last

-- the confirming load of an edge to an internal record
pub record ComesTo (i sd place first found : ℕ) (before now : TreeView) : Type 0 where
  pub small : IsSmall found
  pub same : found ≡ first → (leaf : ℕ) × ((key : ℕ) × ((value : Halves)
      × MadeQuietStep confirm_step place found found (came_over i sd first leaf key value before.known) before now))
  pub other : found ≢ first → MadeQuietStep confirm_step place found found before.known before now

-- what a walk for k finds that ends at a leaf with this key and this value, over an edge with this word
abbrev pub found_at : ℕ → ℕ → Halves → ℕ → Option ℕ
found_at k key value edge = cond (nat_eq key k) (cond (nat_eq (flag_bit edge) 0) (Some (value_of value)) None) None

-- The pass whose seek ended at a leaf, which it holds in the walk word i. Where the edge has FLAG, that is known.
abbrev pub ended_pass : ℕ → ℕ → ℕ → ℕ → Halves → Bool → TreePass → TreePass
ended_pass i sd first key value going q = record q {
  walk = slice_set q.walk i (holding (target first) key value);
  own = record q.own { going = going; flag = cond (nat_eq (flag_bit first) 1) sd 2; beside = target first };
}

-- The reply to a find of a was settled at this step, which changes nothing. Its place is the least one since the call's start
-- at which
-- it is right.
pub record Settled (known : TreePass) (place found : ℕ) (a : Option ℕ) (before now : TreeView) : Type 0 where
  pub at : ℕ
  pub since : before.known.own.start ≤ at
  pub within : at ≤ length (log_of now.order)
  pub right : reply (after (log_of now.order) at) before.known.own.call ≡ reply_at before.known.own.call a
  pub least : (p : ℕ) → before.known.own.start ≤ p → p < at
      → reply (after (log_of now.order) p) before.known.own.call ≡ reply_at before.known.own.call a → ⊥
  pub made : MadeStep end_step place found found [] (placed before.known.own.call
      (reply_at before.known.own.call a) at ∷ []) known before now
  -- the pass's placed calls stand in the log
  pub stands : Stands (log_of now.order) now.known.number (placed_by now.known.number now.order)

-- the seek ended, and its call goes on, or had taken effect: what was found is right since its start
pub record EndsGoing (known : TreePass) (place found : ℕ) (a : Option ℕ) (before now : TreeView) : Type 0 where
  pub made : MadeQuietStep end_step place found found known before now
  pub right : IsRight (log_of now.order) before.known.own.start (key_of before.known.own.call) a

-- The seek of the pass's call ended at a leaf with this key and this value. Where the call goes on and its reply changes
-- nothing, it
-- is settled.
pub record Ended (i sd place first key : ℕ) (value : Halves) (before now : TreeView) : Type 0 where
  pub settled : before.known.own.going ≡ true
      → changes (reply_at before.known.own.call (found_at (key_of before.known.own.call) key value first)) ≡ false
      → Settled (ended_pass i sd first key value false before.known) place first
      (found_at (key_of before.known.own.call) key value first) before now
  pub effect : before.known.own.going ≡ true
      → changes (reply_at before.known.own.call (found_at (key_of before.known.own.call) key value first)) ≡ true
      → EndsGoing (ended_pass i sd first key value true before.known) place first
      (found_at (key_of before.known.own.call) key value first) before now
  pub again : before.known.own.going ≡ false → EndsGoing (ended_pass i sd first key value false before.known) place first
      (found_at (key_of before.known.own.call) key value first) before now

-- the confirming load of an edge to a leaf
pub record EndsAt (i sd place first found : ℕ) (before now : TreeView) : Type 0 where
  pub small : IsSmall found
  pub same : found ≡ first → (key : ℕ) × ((value : Halves) × Ended i sd place first key value before now)
  pub other : found ≢ first → MadeQuietStep end_step place found found before.known before now
