-- A call is under way still where its pass learnt of more steps of others.
use Rattle.std.proofs.Common.{◌≡◌, ℕ, Bool, true, false, List}
use Rattle.std.proofs.Common.{Option, sym, ap, ◌∙◌, subst, ⊎_elim, inl, inr}
use Rattle.pp_link.specs.declared.layout.Sizes.{Sizes}
use Rattle.pp_model.specs.declared.Call.{Call}
use Rattle.pp_model.specs.declared.Reply.TheVariants.{Took}
use Rattle.pp_rule.specs.Lists.{BeginsWith}
use Rattle.pp_rule.specs.Orders.{log_of, made_by, placed_by}
use Rattle.pp_rule.proofs.Histories.{log_begins}
use Rattle.pp_base.specs.declared.purse.Purse.{Purse}
use Rattle.pp_base.specs.declared.source.Side.{Side}
use Rattle.pp_base.specs.Passes.{IsAtRest}
use Rattle.pp_base.specs.Sources.{side_number}
use Rattle.pp_calls.specs.Steps.{Went}
use Rattle.pp_shelf.specs.Runs.{map_sizes, steps_made}
use Rattle.pp_seek.specs.declared.seek.Spot.{Spot}
use Rattle.pp_seek.specs.Seeking.{Seeks as IsSeek}
use Rattle.pp_trees.specs.Trees.{across}
use Rattle.pp_trees.specs.Searches.{TreePass}
use Rattle.pp_trees.specs.Edges.{TreeView}
use Rattle.pp_turns.specs.Tallies.{later_of}
use Rattle.pp_turns.specs.Turns.{Since, Unplaced, WasAbsent}
use Rattle.pp_turns.proofs.Purses.{carries_learnt}
use Rattle.pp_turns.proofs.Placing.{steps_learnt, waits_learnt, since_learnt, unplaced_on, struck_later, absent_on}
use Rattle.pp_tree_turns.specs.Walked.{tree_reader, TreeTally}
use Rattle.pp_tree_turns.specs.Causes.{flagged_leaf, ReadsValueOf, EndedElsewhere}
use Rattle.pp_tree_turns.specs.Exchanging.{FlagsNext, TagsNext, SplicesNext}
use Rattle.pp_tree_turns.specs.Filling.{PublishesNext}
use Rattle.pp_tree_calls.specs.declared.going.TreeGoing.{TreeGoing}
use Rattle.pp_tree_calls.specs.declared.going.Next.{Next}
use Rattle.pp_tree_calls.specs.declared.going.Next.TheVariants.{Seeks, Publishes, Flags, Tags, Splices, Over}
use Rattle.pp_tree_calls.specs.Going.{IsUnder, Stands, Begun, Counts, Tries, Goes, HasTaken, TakesWith}
use Rattle.pp_tree_calls.specs.Purses.{HasOut}

module _ (z : Sizes) (share : ℕ) (from v w : TreeView) (same : w.known ≡ v.known) (order : BeginsWith w.order v.order)
    (made : made_by v.known.number w.order ≡ made_by v.known.number v.order)
    (placed : placed_by v.known.number w.order ≡ placed_by v.known.number v.order) where
  unplaced_still : Went from v → Unplaced from v → Unplaced from w
  unplaced_still g u = unplaced_on from v w g.number u placed

  abbrev counts_learnt : (call : Call) (lost : ℕ) (struck : Bool) → Counts (map_sizes z) call lost struck from v
      → Counts (map_sizes z) call lost struck from w
  counts_learnt call lost struck c = record {
    tally = c.tally;
    since = subst (λ (q : TreePass). Since tree_reader (map_sizes z) call q.own.start c.tally from w) (sym same)
        (since_learnt from v w same order made placed tree_reader (map_sizes z) call v.known.own.start c.tally c.since);
    lost_is = c.lost_is;
    calm = c.calm;
    struck_is = c.struck_is;
  }

  taken_learnt : Went from v → (call : Call) (races value : ℕ) (t : TreeTally) → HasTaken (map_sizes z) call races value t from v
      → HasTaken (map_sizes z) call races value t from w
  taken_learnt g call races value t h = let leaf = ap flagged_leaf (steps_learnt from v w same order made placed g) in record {
    memory = h.memory;
    lost = h.lost;
    early = h.early;
    later = h.later;
    is = h.is;
    few = h.few;
    struck = struck_later call (Took value) from v w g.number order h.struck placed;
    some = λ none. h.some (sym leaf ∙ none);
    reads = subst (λ (n : ℕ). ReadsValueOf (map_sizes z) n h.later) (sym leaf) h.reads;
  }

  abbrev tries_learnt : (g : TreeGoing) (lost : ℕ) → Tries (map_sizes z) g lost from v → Tries (map_sizes z) g lost from w
  tries_learnt g lost t = let went = t.counts.since.went in record {
    counts = counts_learnt g.call lost g.struck t.counts;
    untaken = λ not. let u = t.untaken not in (u.0, unplaced_still went u.1);
    taken = λ yes. taken_learnt went g.call g.races g.taken t.counts.tally (t.taken yes);
  }

  goes_learnt : (g : TreeGoing) → Goes g v.known → Goes g w.known
  goes_learnt g s = subst (Goes g) (sym same) s

  takes_learnt : Went from v → (g : TreeGoing) (side : Side) (t : TreeTally) → TakesWith (map_sizes z) g side t from v
      → TakesWith (map_sizes z) g side t from w
  takes_learnt went g side t s = λ struck. ⊎_elim
      (λ (l : (v.known.own.flag ≡ across (side_number side)) × (v.known.own.beside ≡ flagged_leaf (steps_made from v))).
      inl (
        ap (λ (q : TreePass). q.own.flag) same ∙ l.0,
        ap (λ (q : TreePass). q.own.beside) same ∙ (l.1 ∙ sym (ap flagged_leaf (steps_learnt from v w same order made placed went))),
      ))
      (λ (r : EndedElsewhere (map_sizes z) g.call (later_of t)). inr r) (s struck)

  begun_learnt : (fresh : Bool) (g : TreeGoing) (spot : Option Spot) → Begun fresh z g spot from v → Begun fresh z g spot from w
  begun_learnt true g spot b = (waits_learnt from v w same order made placed b.0, (unplaced_still b.0.went b.1.0, b.1.1))
  begun_learnt false g spot b = (tries_learnt g g.lost b.0, (goes_learnt g b.1.0, b.1.1))

  stands_learnt : (g : TreeGoing) (n : Next) → Stands z g n from v → Stands z g n from w
  stands_learnt g (Seeks s) x =
      (x.0, (subst (λ (q : TreePass). IsSeek q s) (sym same) x.1.0, x.1.1, begun_learnt s.fresh g s.spot x.1.2))
  stands_learnt g (Publishes s) x = let publishes = x.1.1.1 in (
    tries_learnt g g.lost x.0,
    (
      goes_learnt g x.1.0,
      (
        x.1.1.0,
        (
          publishes.0,
          (
            publishes.1.0,
            (
              publishes.1.1.0,
              (
                subst (λ (q : TreePass). PublishesNext q s publishes.0 publishes.1.0) (sym same) publishes.1.1.1.0,
                subst (λ (q : TreePass). WasAbsent q.own.start publishes.0 (log_of w.order)) (sym same)
                    (absent_on v.known.own.start publishes.0 (log_of w.order) (log_of v.order) (log_begins w.order v.order order)
                    publishes.1.1.1.1),
              ),
            ),
          ),
        ),
      ),
    ),
  )
  stands_learnt g (Flags s) x = (
    tries_learnt g g.lost x.0,
    (goes_learnt g x.1.0, (x.1.1.0, (x.1.1.1.0, subst (λ (q : TreePass). FlagsNext q s) (sym same) x.1.1.1.1))),
  )
  stands_learnt g (Tags s side) x = (
    tries_learnt g g.lost x.0,
    (
      goes_learnt g x.1.0,
      (
        x.1.1.0,
        (
          subst (λ (q : TreePass). TagsNext q s side) (sym same) x.1.1.1.0,
          takes_learnt x.0.counts.since.went g side x.0.counts.tally x.1.1.1.1,
        ),
      ),
    ),
  )
  stands_learnt g (Splices s side sibling) x = (
    tries_learnt g g.lost x.0,
    (
      goes_learnt g x.1.0,
      (
        x.1.1.0,
        (
          subst (λ (q : TreePass). SplicesNext z q s side sibling) (sym same) x.1.1.1.0,
          takes_learnt x.0.counts.since.went g side x.0.counts.tally x.1.1.1.1,
        ),
      ),
    ),
  )
  stands_learnt g Over x = x

  pub under_learnt : (g : TreeGoing) (p : Purse) (free : List ℕ) → IsUnder z share g v p from free → IsUnder z share g w p from free
  under_learnt g p free x = record {
    pair = x.pair;
    below = x.below;
    rest = subst (λ (q : TreePass). IsAtRest q p) (sym same) x.rest;
    looks = x.looks;
    carries = carries_learnt HasOut 2 share g.call g.records from v w free p same made x.carries;
    stands = stands_learnt g g.next x.stands;
  }
