-- What a turn of a call on a list makes of it, as a map's clauses ask it.
use Rattle.std.proofs.Common.{◌≡◌, ℕ, ◌<◌, ◌≤◌, Bool, true, false, cond, List, length, refl, sym, ap, ◌∙◌, subst, arith}
use Rattle.std.proofs.Math.Bool.{false≢true}
use Rattle.pp_link.specs.declared.layout.Sizes.{Sizes}
use Rattle.pp_model.specs.declared.Call.{Call}
use Rattle.pp_model.specs.declared.Reply.TheVariants.{Took}
use Rattle.pp_model.specs.declared.Turned.{Turned}
use Rattle.pp_base.specs.declared.purse.Purse.{Purse}
use Rattle.pp_calls.specs.PoolViews.{pool_view}
use Rattle.pp_calls.specs.Steps.{Went, HasOwn, StandsThen}
use Rattle.pp_shelf.specs.Runs.{map_sizes, steps_made}
use Rattle.pp_lists.specs.Clean.{IsBare}
use Rattle.pp_lists.specs.Turns.{ListView}
use Rattle.pp_lists.specs.Losses.{list_reader}
use Rattle.pp_turns.specs.Tallies.{losing, effected}
use Rattle.pp_turns.specs.Turned.{CountsAs, TurnClauses}
use Rattle.pp_turns.specs.Turns.{BegunAt}
use Rattle.pp_turns.proofs.Turning.{turn_clauses}
use Rattle.pp_walk.specs.Lone.{Sees, words_of}
use Rattle.pp_walk.proofs.LoneCounts.{bare_clean_now}
use Rattle.pp_list.specs.declared.going.ListGoing.{ListGoing}
use Rattle.pp_list.specs.declared.going.Next.{Next}
use Rattle.pp_list.specs.declared.going.Next.TheVariants.{Walks, Detaches, Marks, Publishes, Unlinks, Over}
use Rattle.pp_list.specs.Causes.{list_causes}
use Rattle.pp_list.specs.Meant.{list_words, list_meaning, HoldsPairs}
use Rattle.pp_list.specs.Going.{IsUnder, Stands, Begun, Tries, HasTaken, going_of, kind_of, is_after}
use Rattle.pp_list.specs.Lone.{LoneAt, LoneTurn}
use Rattle.pp_list.specs.Turned.{SameGoing, ListTurned}
use Rattle.pp_buckets.specs.Tables.{IsGoing}

kind_few : (n : Next) → kind_of n ≤ 3
kind_few (Walks w) = by w.fresh
  where
    by : (b : Bool) → cond b 0 1 ≤ 3
    by true = omega arith
    by false = omega arith
kind_few (Detaches f) = omega arith
kind_few (Marks f) = omega arith
kind_few (Publishes f) = omega arith
kind_few (Unlinks m) = omega arith
kind_few Over = omega arith

-- the call has made steps since its begin, or none
begun_went : (z : Sizes) (fresh : Bool) (call : Call) (lost : ℕ) (from v : ListView) → Begun fresh z call lost from v → Went from v
begun_went z true call lost from v b = b.0.went
begun_went z false call lost from v b = b.since.went

stood_went : (z : Sizes) (call : Call) (races lost : ℕ) (n : Next) (from v : ListView) → Stands z call races lost n from v → Went from v
stood_went z call races lost (Walks w) from v s = begun_went z w.fresh call lost from v s.1.1
stood_went z call races lost (Detaches f) from v s = s.0.since.went
stood_went z call races lost (Marks f) from v s = s.0.since.went
stood_went z call races lost (Publishes f) from v s = s.0.since.went
stood_went z call races lost (Unlinks m) from v s = s.1.0.since.went
stood_went z call races lost Over from v s = absurd s

-- how its steps are counted
module _ (z : Sizes) (g : ListGoing) (from w : ListView) (long : 0 < length (steps_made from w)) where
  abbrev Shown : Type 0
  Shown = CountsAs list_reader (map_sizes z) (going_of w.known g) from w

  tried_counts : g.struck ≡ false → Tries z g.call g.lost from w → Shown
  tried_counts early t = record {
    tally = losing t.memory g.lost;
    since = t.since;
    lost_is = refl;
    effect = λ yes. absurd (false≢true (sym early ∙ yes));
    none = λ _. t.unplaced;
  }

  begun_counts : g.struck ≡ false → (fresh : Bool) → Begun fresh z g.call g.lost from w → Shown
  begun_counts early true b = absurd (let e = ap (λ l. length l) b.0.none in omega arith)
  begun_counts early false b = tried_counts early b

  taken_counts : (n x : ℕ) → g.struck ≡ true → HasTaken z g.call g.races g.lost n x from w → Shown
  taken_counts n x late t = record {
    tally = effected t.memory g.lost t.early t.later;
    since = t.since;
    lost_is = refl;
    effect = λ _. (Took x, t.struck);
    none = λ not. absurd (false≢true (sym not ∙ late));
  }

  stood_counts : (n : Next) → g.struck ≡ is_after n → Stands z g.call g.races g.lost n from w → Shown
  stood_counts (Walks x) is s = begun_counts is x.fresh s.1.1
  stood_counts (Detaches f) is s = tried_counts is s.0
  stood_counts (Marks f) is s = tried_counts is s.0
  stood_counts (Publishes f) is s = tried_counts is s.0
  stood_counts (Unlinks m) is s = taken_counts s.0 m.value is s.1.0
  stood_counts Over is s = absurd s

-- A turn of it meets them.
module _ (z : Sizes) (share : ℕ) (g g' : ListGoing) (v w : ListView) (p p' : Purse) (result : Turned) where
  -- what a map's clauses say of it
  pub clauses : (n : ℕ) → n ≡ share → HasOwn w.order → w.known.sizes ≡ v.known.sizes → StandsThen v → Sees z w
      → ListTurned z share g g' v w p p' result → (LoneAt z g.next v → LoneTurn z g g' w result)
      → TurnClauses list_meaning (map_sizes z) (going_of v.known g) (going_of w.known g') (pool_view v p.free.items share)
      (pool_view w p'.free.items n) result (BegunAt share (IsGoing z share g v p)) (BegunAt n (IsGoing z n g' w p'))
  clauses n is own sizes stood sees t alone = subst (λ (k : ℕ). TurnClauses list_meaning (map_sizes z) (going_of v.known g)
      (going_of w.known g') (pool_view v p.free.items share) (pool_view w p'.free.items k) result (BegunAt share (IsGoing z share g v p))
      (BegunAt k (IsGoing z k g' w p'))) (sym is)
      (turn_clauses list_words list_causes HoldsPairs z share (SameGoing g g') (IsUnder z share g v p) (IsUnder z share g' w p')
      (LoneAt z g.next v) (LoneAt z g'.next w) (IsBare z (words_of z w)) (going_of v.known g) (going_of w.known g') v w p.free.items
      p'.free.items result t alone own stood
      (λ from free x. stood_went z g.call g.races g.lost g.next from v x.stands)
      (λ from free x long. stood_counts z g' from w long g'.next x.struck x.stands) (bare_clean_now z w sees) sizes record {
        call = t.same.call;
        budget = t.same.races;
        struck = t.stays;
        few = kind_few g'.next;
        high = omega arith;
      })
