-- What a turn of a call on a tree makes of it, as a map's clauses ask it.
use Rattle.std.proofs.Common.{◌≡◌, ℕ, ◌<◌, ◌≤◌, Bool, true, false, length, Option, sym, ap, subst, arith}
use Rattle.pp_link.specs.declared.layout.Sizes.{Sizes}
use Rattle.pp_model.specs.declared.Reply.TheVariants.{Took}
use Rattle.pp_model.specs.declared.Turned.{Turned}
use Rattle.pp_base.specs.declared.purse.Purse.{Purse}
use Rattle.pp_calls.specs.PoolViews.{pool_view}
use Rattle.pp_calls.specs.Steps.{Went, HasOwn, StandsThen}
use Rattle.pp_shelf.specs.Runs.{map_sizes, steps_made}
use Rattle.pp_seek.specs.declared.seek.Spot.{Spot}
use Rattle.pp_trees.specs.Edges.{TreeView}
use Rattle.pp_trees.specs.Clean.{IsBare}
use Rattle.pp_trees.specs.Lone.{Sees, words_of}
use Rattle.pp_trees.proofs.LoneCounts.{bare_clean_now}
use Rattle.pp_turns.specs.Turned.{CountsAs, TurnClauses}
use Rattle.pp_turns.specs.Turns.{BegunAt}
use Rattle.pp_turns.proofs.Turning.{turn_clauses}
use Rattle.pp_tree_turns.specs.Walked.{tree_reader}
use Rattle.pp_tree_turns.specs.Causes.{tree_words, tree_causes, tree_meaning, HoldsPairs}
use Rattle.pp_tree_calls.specs.declared.going.TreeGoing.{TreeGoing}
use Rattle.pp_tree_calls.specs.declared.going.Next.{Next}
use Rattle.pp_tree_calls.specs.declared.going.Next.TheVariants.{Seeks, Publishes, Flags, Tags, Splices, Over}
use Rattle.pp_tree_calls.specs.Going.{IsUnder, Stands, Begun, Tries, going_of, kind_of}
use Rattle.pp_tree_calls.specs.Lone.{LoneAt, LoneTurn}
use Rattle.pp_tree_calls.specs.Turned.{StaysSame, TreeTurned}
use Rattle.pp_tree.specs.Trees.{IsGoing}

kind_few : (n : Next) → kind_of n ≤ 3
kind_few (Seeks s) = omega arith
kind_few (Publishes s) = omega arith
kind_few (Flags s) = omega arith
kind_few (Tags s side) = omega arith
kind_few (Splices s side sibling) = omega arith
kind_few Over = omega arith

-- the call has made steps since its begin, or none
begun_went : (z : Sizes) (fresh : Bool) (g : TreeGoing) (spot : Option Spot) (from v : TreeView) → Begun fresh z g spot from v → Went from v
begun_went z true g spot from v b = b.0.went
begun_went z false g spot from v b = b.0.counts.since.went

stood_went : (z : Sizes) (g : TreeGoing) (n : Next) (from v : TreeView) → Stands z g n from v → Went from v
stood_went z g (Seeks s) from v x = begun_went z s.fresh g s.spot from v x.1.2
stood_went z g (Publishes s) from v x = x.0.counts.since.went
stood_went z g (Flags s) from v x = x.0.counts.since.went
stood_went z g (Tags s side) from v x = x.0.counts.since.went
stood_went z g (Splices s side sibling) from v x = x.0.counts.since.went
stood_went z g Over from v x = absurd x

-- how its steps are counted
module _ (z : Sizes) (g : TreeGoing) (from w : TreeView) (long : 0 < length (steps_made from w)) where
  abbrev Shown : Type 0
  Shown = CountsAs tree_reader (map_sizes z) (going_of w.known g) from w

  tried_counts : Tries (map_sizes z) g g.lost from w → Shown
  tried_counts t = record {
    tally = t.counts.tally;
    since = t.counts.since;
    lost_is = sym t.counts.lost_is;
    effect = λ yes. (Took g.taken, (t.taken yes).struck);
    none = λ not. (t.untaken not).1;
  }

  begun_counts : (fresh : Bool) (spot : Option Spot) → Begun fresh z g spot from w → Shown
  begun_counts true spot b = absurd (let e = ap (λ l. length l) b.0.none in omega arith)
  begun_counts false spot b = tried_counts b.0

  stood_counts : (n : Next) → Stands z g n from w → Shown
  stood_counts (Seeks s) x = begun_counts s.fresh s.spot x.1.2
  stood_counts (Publishes s) x = tried_counts x.0
  stood_counts (Flags s) x = tried_counts x.0
  stood_counts (Tags s side) x = tried_counts x.0
  stood_counts (Splices s side sibling) x = tried_counts x.0
  stood_counts Over x = absurd x

-- A turn of it meets them.
module _ (z : Sizes) (share : ℕ) (g g' : TreeGoing) (v w : TreeView) (p p' : Purse) (result : Turned) where
  -- what a map's clauses say of it
  pub clauses : (n : ℕ) → n ≡ share → HasOwn w.order → w.known.sizes ≡ v.known.sizes → StandsThen v → Sees z w
      → TreeTurned z share g g' v w p p' result → (LoneAt z g v → LoneTurn z g g' w result)
      → TurnClauses tree_meaning (map_sizes z) (going_of v.known g) (going_of w.known g') (pool_view v p.free.items share)
      (pool_view w p'.free.items n) result (BegunAt share (IsGoing z share g v p)) (BegunAt n (IsGoing z n g' w p'))
  clauses n is own sizes stood sees t alone = subst (λ (k : ℕ). TurnClauses tree_meaning (map_sizes z) (going_of v.known g)
      (going_of w.known g') (pool_view v p.free.items share) (pool_view w p'.free.items k) result (BegunAt share (IsGoing z share g v p))
      (BegunAt k (IsGoing z k g' w p'))) (sym is)
      (turn_clauses tree_words tree_causes HoldsPairs z share (StaysSame g g') (IsUnder z share g v p) (IsUnder z share g' w p')
      (LoneAt z g v) (LoneAt z g' w) (IsBare z (words_of z w)) (going_of v.known g) (going_of w.known g') v w p.free.items
      p'.free.items result t alone own stood
      (λ from free x. stood_went z g g.next from v x.stands)
      (λ from free x long. stood_counts z g' from w long g'.next x.stands) (bare_clean_now z w sees) sizes record {
        call = t.same.call;
        budget = t.same.races;
        struck = t.stays;
        few = kind_few g'.next;
        high = t.same.high;
      })
