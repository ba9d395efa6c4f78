-- A turn of a call on a tree that was lost.
use Rattle.std.proofs.Common.{◌≡◌, ℕ, ◌+◌, ◌<◌, ◌≤◌, ◌^◌, Bool, true, false, refl, sym, ap, ◌∙◌, subst}
use Rattle.std.proofs.Common.{inl, inr, arith}
use Rattle.pp_tree_turns.specs.Causes.{tree_words, tree_causes, tree_meaning}
use Rattle.pp_calls.specs.PoolViews.{pool_view}
use Rattle.pp_link.specs.declared.layout.Sizes.{Sizes}
use Rattle.pp_model.specs.declared.Answer.TheVariants.{Said, Lost}
use Rattle.pp_model.specs.declared.Reply.TheVariants.{Took}
use Rattle.pp_model.specs.declared.Turned.{Turned}
use Rattle.pp_model.specs.declared.Turned.TheVariants.{On, Done}
use Rattle.pp_base.specs.declared.purse.Purse.{Purse}
use Rattle.pp_base.specs.Passes.{IsAtRest}
use Rattle.pp_calls.proofs.Growing.{stepped_none}
use Rattle.pp_shelf.specs.Runs.{map_sizes, steps_made}
use Rattle.pp_seek.specs.declared.seek.Seek.{Seek}
use Rattle.pp_seek.specs.Seeking.{Seeks as IsSeek}
use Rattle.pp_trees.specs.Trees.{inf0}
use Rattle.pp_model.specs.Calls.{key_of}
use Rattle.pp_trees.specs.Edges.{TreeView}
use Rattle.pp_turns.proofs.Answering.{told_as}
use Rattle.pp_turns.specs.Tallies.{losing, lost_of, memory_of}
use Rattle.pp_turns.specs.Turns.{Since}
use Rattle.pp_tree_turns.specs.Walked.{tree_reader, TreeTally}
use Rattle.pp_tree_turns.specs.Turning.{Minds}
use Rattle.pp_tree_calls.specs.declared.going.TreeGoing.{TreeGoing}
use Rattle.pp_tree_calls.specs.declared.going.Next.{Next}
use Rattle.pp_tree_calls.specs.declared.going.Next.TheVariants.{Seeks, Over}
use Rattle.pp_turns.specs.Answers.{is_look, SaysStruck}
use Rattle.pp_tree_calls.specs.Going.{upper_at, spot_of, Begun, Tries, Goes, HasTaken}
use Rattle.pp_tree_calls.specs.Answers.{Ends}
use Rattle.pp_tree_calls.specs.Turned.{SameGoing, Part, HasLost}
use Rattle.pp_tree_calls.proofs.Closing.{leaf_settled}

-- a call that has taken a pair says so
pub says_took : (z : Sizes) (g : TreeGoing) (t : TreeTally) (start : ℕ) (from v : TreeView)
    → Since tree_reader (map_sizes z) g.call start t from v → (h : HasTaken (map_sizes z) g.call g.races g.taken t from v)
    → (lost_of t ≡ g.races) → SaysStruck tree_words tree_causes (map_sizes z) g.races g.call (Took g.taken) h.lost from v
says_took z g t start from v since h all = record {
  start = start;
  memory = h.memory;
  early = h.early;
  later = h.later;
  since = subst (λ (x : TreeTally). Since tree_reader (map_sizes z) g.call start x from v) h.is since;
  few = h.few;
  struck = h.struck;
  took = λ x is. (inr (inl (sym (ap (λ (y : TreeTally). lost_of y) h.is) ∙ all)), leaf_settled (steps_made from v) h.some);
}

-- a call that is over has no bounds
pub ends_high : (g : TreeGoing) → g.next ≡ Over → upper_at (spot_of g.next) ≤ 2 ^ 64
ends_high g over = subst (λ (n : Next). upper_at (spot_of n) ≤ 2 ^ 64) (sym over) (omega arith)

module _ (z : Sizes) (share : ℕ) (g : TreeGoing) (s : Seek) (v : TreeView) (p : Purse) where
  begun_again : (fresh : Bool) → fresh ≡ false → (from : TreeView) → (t : Tries (map_sizes z) g (g.lost + 1) from v)
      → Goes g v.known → Minds (memory_of t.counts.tally) s.spot
      → Begun fresh z (record g { lost = g.lost + 1; next = Seeks s }) s.spot from v
  begun_again true is from t goes minds = absurd cc
  begun_again false is from t goes minds = (
    record { counts = t.counts; untaken = t.untaken; taken = t.taken },
    (record { call = goes.call; going = goes.going }, minds),
  )

  -- It goes on: its seek is on its way.
  pub lost_goes : key_of g.call < inf0 → (is_look g.call ≡ true → g.struck ≡ false) → g.lost + 1 < g.races → IsAtRest v.known p
      → Goes g v.known
      → s.call ≡ g.call → IsSeek v.known s → s.fresh ≡ false → upper_at s.spot ≤ 2 ^ 64
      → Part z share (HasLost z share g s v p) g (record g { lost = g.lost + 1; next = Seeks s }) v v p On
  lost_goes pair looks below rest goes asked seeks on_its_way high = record {
    stepped = stepped_none v v refl;
    stands = λ own stands. stands;
    same = record { call = refl; races = refl; struck = refl };
    struck = tt;
    advances = inl (refl, below);
    high = high;
    goes_on = λ from free k. record {
      pair = pair;
      below = below;
      rest = rest;
      looks = looks;
      carries = k.carries;
      stands = (asked, (seeks, high, begun_again s.fresh on_its_way from k.tries goes k.minds));
    };
    answered = tt;
  }

  -- It gave up.
  pub lost_ends : (g' : TreeGoing) (w : TreeView) (p' : Purse) (result : Turned) → SameGoing g g' → g'.lost ≡ g.lost + 1
      → g'.next ≡ Over → g.struck ≡ false → g.lost + 1 ≡ g.races → result ≡ Done (Lost (g.lost + 1))
      → Ends z share g.races g.call g.records (Lost (g.lost + 1)) v w p p' → Part z share (HasLost z share g s v p) g g' v w p' result
  lost_ends g' w p' result same lost_now over none all is e = subst (λ (r : Turned). Part z share (HasLost z share g s v p) g g' v w p' r)
      (sym is) record {
        stepped = e.calm.stepped;
        stands = e.calm.stands;
        same = same;
        struck = same.struck ∙ none;
        advances = tt;
        high = ends_high g' over;
        goes_on = tt;
        answered = λ from free k stands. let u = k.tries.untaken none in
            let lost : u.0.lost ≡ g.lost + 1 = sym (ap (λ (y : TreeTally). lost_of y) u.0.is) ∙ k.tries.counts.lost_is in
            e.answered from free g'.lost record {
              by = (
                record {
                  start = v.known.own.start;
                  memory = u.0.memory;
                  since = subst (λ (x : TreeTally). Since tree_reader (map_sizes z) g.call v.known.own.start x from v)
                      (u.0.is ∙ ap (losing u.0.memory) lost) k.tries.counts.since;
                  all = all;
                  unplaced = u.1;
                },
                sym lost_now,
              );
              last = k.last;
              sizes = k.carries.sizes;
              kept = let few = k.carries.kept in omega arith;
              alone = k.carries.alone;
            } stands;
      }

  -- It says what it took.
  pub lost_took : (g' : TreeGoing) (w : TreeView) (p' : Purse) (result : Turned) → SameGoing g g' → g'.lost ≡ g.lost + 1
      → g'.next ≡ Over → g.struck ≡ true → g.lost + 1 ≡ g.races → result ≡ Done (Said (Took g.taken))
      → Ends z share g.races g.call g.records (Said (Took g.taken)) v w p p' → Part z share (HasLost z share g s v p) g g' v w p' result
  lost_took g' w p' result same lost_now over took all is e = subst (λ (r : Turned). Part z share (HasLost z share g s v p) g g' v w p' r)
      (sym is) record {
        stepped = e.calm.stepped;
        stands = e.calm.stands;
        same = same;
        struck = same.struck ∙ took;
        advances = tt;
        high = ends_high g' over;
        goes_on = tt;
        answered = λ from free k stands. let h = k.tries.taken took in
            told_as tree_meaning (map_sizes z) g.call g.races (pool_view from free share) (pool_view w p'.free.items share)
            (Said (Took g.taken)) h.lost g'.lost
            (sym (ap (λ (y : TreeTally). lost_of y) h.is) ∙ (k.tries.counts.lost_is ∙ sym lost_now)) (e.answered from free h.lost record {
              by = says_took z g k.tries.counts.tally v.known.own.start from v k.tries.counts.since (k.tries.taken took)
                  (k.tries.counts.lost_is ∙ all);
              last = k.last;
              sizes = k.carries.sizes;
              kept = let few = k.carries.kept in omega arith;
              alone = k.carries.alone;
            } stands);
      }
