-- What is known of a going call stays over a stretch of its steps.
use Rattle.std.proofs.Common.{◌≡◌, ℕ, ◌+◌, Bool, false, List, ◌++◌, refl}
use Rattle.std.proofs.Common.{sym, ap, ◌∙◌, subst}
use Rattle.std.proofs.Common.{Option, Some, None, arith}
use Rattle.pp_link.specs.declared.layout.Sizes.{Sizes}
use Rattle.pp_model.specs.declared.Call.{Call}
use Rattle.pp_model.specs.declared.Reply.TheVariants.{Took}
use Rattle.pp_model.specs.declared.Turned.{Turned}
use Rattle.pp_model.specs.MapCalls.{Answered}
use Rattle.pp_model.specs.declared.steps.Step.{Step}
use Rattle.pp_model.specs.Pass.{MapSizes}
use Rattle.pp_rule.specs.Lists.{IsIn}
use Rattle.pp_base.specs.declared.purse.Purse.{Purse}
use Rattle.pp_base.specs.Named.{NamedStep}
use Rattle.pp_calls.specs.PoolViews.{is_writing, pool_view}
use Rattle.pp_calls.specs.Steps.{Stepped, HasOwn, StandsThen, WriteNone}
use Rattle.pp_calls.proofs.Growing.{kinds_none, stepped_both}
use Rattle.pp_shelf.specs.Runs.{map_sizes, steps_made}
use Rattle.pp_trees.specs.Searches.{TreePass}
use Rattle.pp_trees.specs.Edges.{TreeView}
use Rattle.pp_turns.specs.Tallies.{losing, effected, lost_of, memory_of}
use Rattle.pp_turns.specs.Turns.{Since, Unplaced}
use Rattle.pp_turns.proofs.Placing.{unplaced_on, struck_later}
use Rattle.pp_turns.proofs.Purses.{carries_on}
use Rattle.pp_turns.proofs.Turning.{on_by, done_by}
use Rattle.pp_turns.proofs.Stretches.{saw_on, since_on, steps_both, own_before}
use Rattle.pp_tree_turns.specs.Walked.{Walked, tree_reader, TreeTally, moved}
use Rattle.pp_tree_turns.specs.Causes.{tree_meaning, flagged_leaf, ReadsValueOf}
use Rattle.pp_tree_turns.specs.Turning.{Names, Walks}
use Rattle.pp_tree_turns.proofs.Counting.{flagged_on, reads_on, none_walks, aside_counted}
use Rattle.pp_tree_turns.proofs.Seeks.{trail_names}
use Rattle.pp_tree_turns.specs.Turning.{Minds}
use Rattle.pp_purse.specs.Steps.{is_purse_step}
use Rattle.pp_rule.specs.declared.views.PrivateRecord.{PrivateRecord}
use Rattle.pp_seek.specs.Trails.{Clears}
use Rattle.pp_seek.specs.declared.seek.Seek.{Seek}
use Rattle.pp_seek.specs.declared.seek.Spot.{Spot}
use Rattle.pp_tree_calls.proofs.Resting.{aside_clears, or_clear, same_purse}
use Rattle.pp_tree_calls.proofs.Closing.{clears_none}
use Rattle.pp_tree_calls.specs.declared.going.TreeGoing.{TreeGoing}
use Rattle.pp_tree_calls.specs.Going.{Counts, IsLosing, HasTaken, Tries, IsUnder}
use Rattle.pp_tree_calls.specs.Purses.{TwoRecords, HasOut}
use Rattle.pp_tree_calls.specs.Turned.{Part, HasLost, HasMissed}

-- none of the steps writes a link, by their names
pub silent_none : (names : List NamedStep) (v w : TreeView) → Names names v w → ((s : NamedStep) → IsIn s names → is_writing s.kind ≡ false)
    → WriteNone (steps_made v w)
silent_none names v w a each = kinds_none (steps_made v w) (λ n i. each n (subst (λ (l : List NamedStep). IsIn n l) a.named i))

pub moved_lost : (t : TreeTally) (m : Walked) (k : ℕ) (steps : List Step) → lost_of (moved t m k steps) ≡ lost_of t + k
moved_lost (losing a n) m k steps = refl
moved_lost (effected a n early later) m k steps = refl

pub moved_memory : (t : TreeTally) (m : Walked) (k : ℕ) (steps : List Step) → memory_of (moved t m k steps) ≡ m
moved_memory (losing a n) m k steps = refl
moved_memory (effected a n early later) m k steps = refl

module _ (z : MapSizes) (call : Call) (from v w : TreeView) (k : ℕ) where
  -- its steps, of which k more lost a turn
  abbrev pub counts_on : (lost lost' : ℕ) (struck : Bool) (c : Counts z call lost struck from v) → Walks z call c.tally k v w
      → lost' ≡ lost + k → w.known.own.start ≡ v.known.own.start → Counts z call lost' struck from w
  counts_on lost lost' struck c a sum start = record {
    tally = moved c.tally a.memory k (steps_made v w);
    since = subst (λ (n : ℕ). Since tree_reader z call n (moved c.tally a.memory k (steps_made v w)) from w) (sym start)
        (since_on tree_reader z call v.known.own.start c.tally (moved c.tally a.memory k (steps_made v w)) from v w c.since a.ran);
    lost_is = moved_lost c.tally a.memory k (steps_made v w) ∙ (ap (λ (n : ℕ). n + k) c.lost_is ∙ sym sum);
    calm = ap (λ (m : Walked). m.coming) (moved_memory c.tally a.memory k (steps_made v w)) ∙ a.calm;
    struck_is = ap (λ (m : Walked). m.struck) (moved_memory c.tally a.memory k (steps_made v w)) ∙ (a.struck ∙ c.struck_is);
  }

  pub losing_on : (t : TreeTally) (m : Walked) (steps : List Step) → IsLosing t → IsLosing (moved t m k steps)
  losing_on t m steps l = record {
    memory = m;
    lost = l.lost + k;
    is = ap (λ (x : TreeTally). moved x m k steps) l.is;
  }

  -- what it has taken it has taken then
  pub taken_on : (races value start : ℕ) (t : TreeTally) (m : Walked) → Since tree_reader z call start t from v → Stepped v w → Unplaced v w
      → HasTaken z call races value t from v → HasTaken z call races value (moved t m k (steps_made v w)) from w
  taken_on races value start t m since s none h =
      let same : flagged_leaf (steps_made from w) ≡ flagged_leaf (steps_made from v) =
      ap flagged_leaf (steps_both from v w since.went s)
      ∙ flagged_on (steps_made from v) (steps_made v w) (flagged_leaf (steps_made from v)) refl h.some in record {
        memory = m;
        lost = h.lost + k;
        early = h.early;
        later = h.later ++ steps_made v w;
        is = ap (λ (x : TreeTally). moved x m k (steps_made v w)) h.is;
        few = h.few;
        struck = struck_later call (Took value) from v w since.went.number s.order h.struck none;
        some = λ e. h.some (sym same ∙ e);
        reads = subst (λ (n : ℕ). ReadsValueOf z n (h.later ++ steps_made v w)) (sym same)
            (reads_on z (flagged_leaf (steps_made from v)) h.later (steps_made v w) h.reads);
      }

-- a call goes on trying
abbrev pub tries_on : (z : MapSizes) (g : TreeGoing) (lost lost' k : ℕ) (from v w : TreeView) (t : Tries z g lost from v)
    → Walks z g.call t.counts.tally k v w → lost' ≡ lost + k → Unplaced v w → w.known.own.start ≡ v.known.own.start
    → Tries z g lost' from w
tries_on z g lost lost' k from v w t a sum none start = record {
  counts = counts_on z g.call from v w k lost lost' g.struck t.counts a sum start;
  untaken = λ off. let u = t.untaken off in (
    losing_on z g.call from v w k t.counts.tally a.memory (steps_made v w) u.0,
    unplaced_on from v w t.counts.since.went.number u.1 none,
  );
  taken = λ on. taken_on z g.call from v w k g.races g.taken v.known.own.start t.counts.tally a.memory
      t.counts.since a.ran.stepped none (t.taken on);
}

-- a part of a turn after other steps, by which more is known
pub part_after : (z : Sizes) (share : ℕ) (Known Later : TreeView → List ℕ → Type 0) (g g' : TreeGoing) (v u w : TreeView) (p' : Purse)
    (result : Turned) → Stepped v u → (HasOwn u.order → StandsThen v → StandsThen u)
    → ((from : TreeView) (free : List ℕ) → Known from free → Later from free)
    → Part z share Later g g' u w p' result → Part z share Known g g' v w p' result
part_after z share Known Later g g' v u w p' result s stands knows a = record {
  stepped = stepped_both v u w s a.stepped;
  stands = λ own st. a.stands own (stands (own_before u w a.stepped own) st);
  same = a.same;
  struck = a.struck;
  advances = a.advances;
  high = a.high;
  goes_on = on_by result _ ((from : TreeView) (free : List ℕ) → Known from free → IsUnder z share g' w p' from free)
      (λ each from free k. each from free (knows from free k)) a.goes_on;
  answered = done_by result _ (λ answer. (from : TreeView) (free : List ℕ) → Known from free → StandsThen w
      → Answered tree_meaning (map_sizes z) g.call g.races (pool_view from free share) (pool_view w p'.free.items share) answer g'.lost)
      (λ answer each from free k. each from free (knows from free k)) a.answered;
}

-- the same records are out, where the pass owns the same ones
pub out_same : (records : TwoRecords) (q q' : TreePass) (p p' : Purse) → q'.owned ≡ q.owned → p' ≡ p → HasOut q p records
    → HasOut q' p' records
out_same records q q' p p' owned same out = subst (λ (x : Purse). HasOut q' x records) (sym same) (by records out)
  where
    by : (r : TwoRecords) → HasOut q p r → HasOut q' p r
    by None o = o
    by (Some f) o = subst (λ (ds : List PrivateRecord). HasOut (record q { owned = ds }) p (Some f)) (sym owned) o

-- what a call had lost is lost still as it lets go of what it holds
pub clears_walks : (z : Sizes) (call : Call) (t : TreeTally) (v w : TreeView) → Clears v w → (memory_of t).coming ≡ false
    → Walks (map_sizes z) call t 0 v w
clears_walks z call t v w c calm = none_walks z call t c.trail.steps v w (trail_names v w c.trail) calm
    (aside_counted z call (memory_of t) c.trail.steps record {
      each = λ s i. or_clear (is_purse_step z s) s.kind (c.each s i);
    })

-- a call seeks again
pub missed_lost : (z : Sizes) (share : ℕ) (g : TreeGoing) (s : Seek) (v u : TreeView) (p p' : Purse) → s.spot ≡ None → Clears v u
    → u.known.own.start ≡ v.known.own.start → p' ≡ p
    → (from : TreeView) (free : List ℕ) → HasMissed z share g v p from free → HasLost z share g s u p' from free
missed_lost z share g s v u p p' head c start same from free k =
    let a = clears_walks z g.call k.tries.counts.tally v u c k.tries.counts.calm in
    let n = aside_clears z v u c in record {
      tries = tries_on (map_sizes z) g (g.lost + 1) (g.lost + 1) 0 from v u k.tries a (omega arith) n.unplaced start;
      minds = subst (λ (o : Option Spot). Minds (memory_of (moved k.tries.counts.tally a.memory 0 (steps_made v u))) o) (sym head) tt;
      last = saw_on from v u k.tries.counts.since.went k.last n.stepped;
      carries = carries_on HasOut 2 share g.call g.records from v u free p p' c.trail.rest.sizes
          (out_same g.records v.known u.known p p' c.trail.rest.owned same) (ap (λ (x : Purse). x.free.items) same)
          (λ looks. (n.stepped, clears_none v u c, same_purse v u c.trail.rest)) k.carries;
    }

pub lost_shared : (z : Sizes) (share share' : ℕ) (g g' : TreeGoing) (s : Seek) (v w : TreeView) (p p' : Purse) (result : Turned)
    → share' ≡ share → Part z share' (HasLost z share' g s v p) g g' v w p' result → Part z share
    (HasLost z share g s v p) g g' v w p' result
lost_shared z share share' g g' s v w p p' result same e =
    subst (λ (n : ℕ). Part z n (HasLost z n g s v p) g g' v w p' result) same e

pub missed_shared : (z : Sizes) (share share' : ℕ) (g g' : TreeGoing) (v w : TreeView) (p p' : Purse) (result : Turned)
    → share' ≡ share → Part z share' (HasMissed z share' g v p) g g' v w p' result → Part z share
    (HasMissed z share g v p) g g' v w p' result
missed_shared z share share' g g' v w p p' result same e =
    subst (λ (n : ℕ). Part z n (HasMissed z n g v p) g g' v w p' result) same e
