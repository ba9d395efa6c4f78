-- The turns of a call after its seek.
use Rattle.std.proofs.Common.{◌≡◌, ℕ, ◌+◌, ◌-◌, ◌<◌, ◌≤◌, ◌^◌, true, false, List, [], ◌∷◌, ◌++◌, map}
use Rattle.std.proofs.Common.{length, refl, sym, ap, ◌∙◌, subst, ⊎_elim, inl, inr}
use Rattle.std.proofs.Common.{Option, Some, None, append-nil, arith, ne_eqb, eq-eqb}
use Rattle.std.specs.Prelude.{nat_eq}
use Rattle.std.proofs.Math.Bool.{false≢true}
use Rattle.pp_calls.specs.PoolViews.{pool_view}
use Rattle.pp_link.specs.declared.layout.Sizes.{Sizes}
use Rattle.pp_link.specs.declared.link.Link.{Link}
use Rattle.pp_link.specs.Links.{word_of, target, invalid_bit}
use Rattle.pp_model.specs.declared.Answer.{Answer}
use Rattle.pp_model.specs.declared.Answer.TheVariants.{Said}
use Rattle.pp_link.specs.Places.{cell_place}
use Rattle.pp_model.specs.Pass.{MapSizes}
use Rattle.pp_rule.specs.Causes.{WasDetached, pool_sizes}
use Rattle.pp_rule.specs.Orders.{made_by, entries_of}
use Rattle.pp_calls.proofs.Growing.{stepped_none}
use Rattle.pp_turns.proofs.Purses.{carries_on}
use Rattle.pp_turns.proofs.Answering.{told_as}
use Rattle.pp_turns.proofs.Stretches.{steps_none}
use Rattle.pp_seek.specs.Trails.{reads}
use Rattle.pp_model.specs.declared.Reply.TheVariants.{Took}
use Rattle.pp_model.specs.declared.Turned.{Turned}
use Rattle.pp_model.specs.declared.Turned.TheVariants.{On, Done}
use Rattle.pp_model.specs.declared.steps.Step.{Step}
use Rattle.pp_model.specs.MapCalls.{WentOn, next_kind, took_effect}
use Rattle.pp_rule.specs.declared.views.PrivateRecord.{PrivateRecord}
use Rattle.pp_base.specs.declared.purse.Purse.{Purse}
use Rattle.pp_base.specs.declared.source.Side.{Side}
use Rattle.pp_base.specs.Named.{NamedStep, name_of}
use Rattle.pp_base.specs.Passes.{IsAtRest, owned_numbers}
use Rattle.pp_base.specs.Sources.{side_number}
use Rattle.pp_calls.specs.Steps.{Stepped, HasOwn, StandsThen}
use Rattle.pp_shelf.specs.Runs.{map_sizes, steps_made}
use Rattle.pp_seek.specs.declared.seek.Spot.{Spot}
use Rattle.pp_rule.specs.Lists.{times}
use Rattle.pp_pool.specs.Taken.{IsPrivate}
use Rattle.pp_seek.specs.declared.seek.Sought.{Sought}
use Rattle.pp_trees.specs.Trees.{across}
use Rattle.pp_trees.specs.Searches.{TreePass}
use Rattle.pp_trees.specs.Edges.{TreeView, flag_step}
use Rattle.pp_turns.specs.Tallies.{losing, effected, lost_of, memory_of, later_of}
use Rattle.pp_turns.specs.Turns.{Since, Unplaced}
use Rattle.pp_turns.specs.Causes.{TookBy}
use Rattle.pp_turns.proofs.Detached.{was_detached}
use Rattle.pp_turns.proofs.Placing.{struck_on}
use Rattle.pp_turns.proofs.Stretches.{saw_last, since_on, steps_both}
use Rattle.pp_tree_turns.specs.Walked.{Walked, fresh_walk, tree_reader, TreeTally, moved}
use Rattle.pp_tree_turns.specs.Causes.{tree_meaning, tree_words, tree_causes, flagged_leaf, ReadsValueOf, EndedElsewhere}
use Rattle.pp_tree_turns.specs.Turning.{Walks}
use Rattle.pp_tree_turns.specs.Exchanging.{flags, FlagsNext, SplicesNext, MissesEdge, FlagsLeaf, TagsEdge, MissesPath, TakesPath}
use Rattle.pp_tree_turns.proofs.Exchanges.{tags_after_flag, across_twice, side_two}
use Rattle.pp_tree_turns.proofs.Counting.{TakesEffect, struck_walk, edge_misses, path_misses, path_takes, tag_walks, flag_strikes}
use Rattle.pp_tree_turns.proofs.Counting.{flagged_losing, flagged_here, flagged_on, elsewhere_on}
use Rattle.pp_tree_calls.specs.declared.going.TreeGoing.{TreeGoing}
use Rattle.pp_tree_calls.specs.declared.going.Next.{Next}
use Rattle.pp_tree_calls.specs.declared.going.Next.TheVariants.{Flags, Tags, Splices, Over}
use Rattle.pp_tree_calls.specs.Purses.{TwoRecords, HasOut}
use Rattle.pp_turns.specs.Answers.{is_look}
use Rattle.pp_tree_calls.specs.Going.{kind_of, spot_of, upper_at, going_of, IsLosing, HasTaken, Tries}
use Rattle.pp_tree_calls.specs.Going.{TakesWith, Stands, IsUnder}
use Rattle.pp_tree_calls.specs.Answers.{MayEnd, Ends}
use Rattle.pp_tree_calls.specs.Turned.{Part, HasMissed, TreeTurned}
use Rattle.pp_tree_calls.proofs.Closing.{leaf_settled}
use Rattle.pp_tree_calls.proofs.Losing.{ends_high}
use Rattle.pp_tree_calls.proofs.Lasting.{counts_on, tries_on}
use Rattle.pp_tree_calls.proofs.Treading.{some_named}
use Rattle.pp_tree_calls.proofs.Arriving.{over_same}

-- steps among whose names there is one are some steps
pub some_in : (flush : List NamedStep) (n : NamedStep) (names : List NamedStep) (steps : List Step) → map name_of steps ≡ flush ++ n ∷ names
    → 0 < length steps
some_in [] n names steps e = some_named n names steps e
some_in (f ∷ flush) n names steps e = some_named f (flush ++ n ∷ names) steps e

-- the same records are out, where the pass owns the same numbers and as much is free
pub out_free : (records : TwoRecords) (q q' : TreePass) (p p' : Purse) → owned_numbers q' ≡ owned_numbers q → p'.free ≡ p.free
    → p'.taken ≡ p.taken
    → HasOut q p records → HasOut q' p' records
out_free None q q' p p' owned free taken out = taken ∙ out
out_free (Some f) q q' p p' owned free taken out = (more f.0.number out.0, more f.1.number out.1, out.2, taken ∙ out.3)
  where
    more : (n : ℕ) → IsPrivate q p n → IsPrivate q' p' n
    more n private = let a = ap (λ (l : List ℕ). times n l) owned in let b = ap (λ f. times n f.items) free in omega arith

module _ (z : Sizes) (share : ℕ) (g : TreeGoing) (v u : TreeView) (p p' : Purse) where
  -- A turn of it was lost by these steps.
  pub has_missed : (from : TreeView) (free : List ℕ) → IsUnder z share g v p from free → is_look g.call ≡ false
      → (t : Tries (map_sizes z) g g.lost from v) → (a : Walks (map_sizes z) g.call t.counts.tally 1 v u) → Unplaced v u
      → u.known.own.start ≡ v.known.own.start → 0 < length (steps_made v u) → u.known.sizes ≡ v.known.sizes
      → owned_numbers u.known ≡ owned_numbers v.known → p'.free ≡ p.free → p'.taken ≡ p.taken → HasMissed z share g u p' from free
  has_missed from free under change t a none start some sizes owned same taken = record {
    tries = tries_on (map_sizes z) g g.lost (g.lost + 1) 1 from v u t a refl none start;
    last = saw_last from v u t.counts.since.went a.ran.stepped some;
    carries = carries_on HasOut 2 share g.call g.records from v u free p p' sizes
        (out_free g.records v.known u.known p p' owned same taken) (ap (λ f. f.items) same)
        (λ looks. absurd (false≢true (sym change ∙ looks))) under.carries;
  }

  -- It comes to its next kind of turn.
  pub comes_to : (n : Next) → kind_of g.next < kind_of n → spot_of n ≡ None → Stepped v u → 0 < length (steps_made v u)
      → (HasOwn u.order → StandsThen v → StandsThen u)
      → ((from : TreeView) (free : List ℕ) → IsUnder z share g v p from free → IsUnder z share (record g { next = n }) u p' from free)
      → TreeTurned z share g (record g { next = n }) v u p p' On
  comes_to n later head s some stands each = record {
    stepped = s;
    some_made = some;
    stands = stands;
    same = record {
      call = refl;
      races = refl;
      high = subst (λ (o : Option Spot). upper_at o ≤ 2 ^ 64) (sym head) (omega arith);
    };
    stays = λ on. on;
    strikes = λ off on. absurd (false≢true (sym off ∙ on));
    struck = tt;
    went = next_kind refl later;
    goes_on = each;
    answered = tt;
  }

module _ (z : Sizes) (share : ℕ) (g : TreeGoing) (s : Sought) (v u : TreeView) (p : Purse) where
  -- the flag of a removal found another word
  pub flag_missed : g.next ≡ Flags s → (e : MissesEdge z v u) → (p' : Purse) → p' ≡ p
      → (from : TreeView) (free : List ℕ) → IsUnder z share g v p from free → HasMissed z share g u p' from free
  flag_missed at e p' same from free under = let k = subst (λ (n : Next). Stands z g n from v) at under.stands in
      has_missed z share g v u p p' from free under k.1.1.1.0 k.0 (edge_misses z g.call k.0.counts.tally v u k.0.counts.calm e) e.unplaced
      (ap (λ (q : TreePass). q.own.start) e.known) (some_named _ _ (steps_made v u) e.names.named) (ap (λ (q : TreePass). q.sizes) e.known)
      (ap (λ (q : TreePass). owned_numbers q) e.known) (ap (λ (x : Purse). x.free) same) (ap (λ (x : Purse). x.taken) same)

  -- TAG was set in an edge
  tag_none : (found : ℕ) → TagsEdge found v u → owned_numbers u.known ≡ owned_numbers v.known
  tag_none found e = ap (λ (ds : List PrivateRecord). map (λ d. d.number) ds) e.rest.owned

  pub tag_missed : (side : Side) → g.next ≡ Tags s side → (found : ℕ) → TagsEdge found v u → invalid_bit found ≡ 1 → (p' : Purse) → p' ≡ p
      → (from : TreeView) (free : List ℕ) → IsUnder z share g v p from free → HasMissed z share g u p' from free
  tag_missed side at found e bad p' same from free under = let k = subst (λ (n : Next). Stands z g n from v) at under.stands in
      has_missed z share g v u p p' from free under k.1.1.0 k.0
      (tag_walks z g.call k.0.counts.tally found true v u k.0.counts.calm (eq-eqb (invalid_bit found) 1 bad) e) e.unplaced
      e.same.start (some_named _ _ (steps_made v u) e.names.named) e.rest.sizes (tag_none found e)
      (ap (λ (x : Purse). x.free) same) (ap (λ (x : Purse). x.taken) same)

  -- Of what was taken the leaf goes with the path still.
  takes_with : (side : Side) (from : TreeView) (t : Tries (map_sizes z) g g.lost from v) (m : Walked) → Stepped v u
      → u.known.own.flag ≡ v.known.own.flag → u.known.own.beside ≡ v.known.own.beside
      → TakesWith (map_sizes z) g side t.counts.tally from v → TakesWith (map_sizes z) g side
      (moved t.counts.tally m 0 (steps_made v u)) from u
  takes_with side from t m st flag beside k on = let h = t.taken on in
      let same : flagged_leaf (steps_made from u) ≡ flagged_leaf (steps_made from v) =
      ap flagged_leaf (steps_both from v u t.counts.since.went st)
      ∙ flagged_on (steps_made from v) (steps_made v u) (flagged_leaf (steps_made from v)) refl h.some in
      let now : later_of (moved t.counts.tally m 0 (steps_made v u)) ≡ h.later ++ steps_made v u =
      ap (λ (x : TreeTally). later_of (moved x m 0 (steps_made v u))) h.is in
      let was : later_of t.counts.tally ≡ h.later = ap (λ (x : TreeTally). later_of x) h.is in
      ⊎_elim (λ (a : (v.known.own.flag ≡ across (side_number side)) × (v.known.own.beside ≡ flagged_leaf (steps_made from v))).
      inl (flag ∙ a.0, beside ∙ (a.1 ∙ sym same)))
      (λ (b : EndedElsewhere (map_sizes z) g.call (later_of t.counts.tally)). inr (subst (EndedElsewhere (map_sizes z) g.call) (sym now)
      (elsewhere_on (map_sizes z) g.call h.later (steps_made v u) (subst (EndedElsewhere (map_sizes z) g.call) was b)))) (k on)

  pub tag_goes : (side : Side) (sibling : Link) → g.next ≡ Tags s side → TagsEdge (word_of sibling) v u → invalid_bit (word_of sibling) ≡ 0
      → SplicesNext z u.known s side sibling → (p' : Purse) → p' ≡ p → IsAtRest u.known p'
      → (from : TreeView) (free : List ℕ) → IsUnder z share g v p from free
      → IsUnder z share (record g { next = Splices s side sibling }) u p' from free
  tag_goes side sibling at e valid may p' same rest from free under =
      let k = subst (λ (n : Next). Stands z g n from v) at under.stands in
      let good : nat_eq (invalid_bit (word_of sibling)) 1 ≡ false = ne_eqb (invalid_bit (word_of sibling)) 1
      (λ bad. let v = valid in omega arith) in
      let a = tag_walks z g.call k.0.counts.tally (word_of sibling) false v u k.0.counts.calm good e in
      let zero : g.lost ≡ g.lost + 0 = omega arith in
      let on = tries_on (map_sizes z) g g.lost g.lost 0 from v u k.0 a zero e.unplaced e.same.start in record {
        pair = under.pair;
        below = under.below;
        rest = rest;
        looks = under.looks;
        carries = carries_on HasOut 2 share g.call g.records from v u free p p' e.rest.sizes
            (out_free g.records v.known u.known p p' (tag_none (word_of sibling) e) (ap (λ (x : Purse). x.free) same)
            (ap (λ (x : Purse). x.taken) same)) (ap (λ (x : Purse). x.free.items) same)
            (λ looks. absurd (false≢true (sym k.1.1.0 ∙ looks))) under.carries;
        stands = (
          record {
            counts = counts_on (map_sizes z) g.call from v u 0 g.lost g.lost g.struck k.0.counts a zero e.same.start;
            untaken = on.untaken;
            taken = on.taken;
          },
          (
            record { call = e.same.call ∙ k.1.0.call; going = e.same.going ∙ k.1.0.going },
            (
              k.1.1.0,
              (
                may,
                takes_with side from k.0 a.memory e.names.stepped e.flag e.beside k.1.1.1.1,
              ),
            ),
          ),
        );
      }

  -- a splice found another word
  pub splice_missed : (side : Side) (sibling : Link) → g.next ≡ Splices s side sibling → MissesPath z v u → (p' : Purse) → p'.free ≡ p.free
      → p'.taken ≡ p.taken → u.known.sizes ≡ v.known.sizes
      → (from : TreeView) (free : List ℕ) → IsUnder z share g v p from free → HasMissed z share g u p' from free
  splice_missed side sibling at e p' same taken sizes from free under = let k = subst (λ (n : Next). Stands z g n from v) at under.stands in
      has_missed z share g v u p p' from free under k.1.1.0 k.0 (path_misses z g.call k.0.counts.tally v u k.0.counts.calm e) e.unplaced
      (ap (λ o. o.start) e.own) (misses_some e) sizes (ap (λ (ds : List PrivateRecord). map (λ d. d.number) ds) e.owned) same taken
    where
      misses_some : MissesPath z v u → 0 < length (steps_made v u)
      misses_some e = some_in e.flush _ _ (steps_made v u) e.names.named

  -- a splice that took a path out before the call took effect
  pub splice_lost : (side : Side) (sibling : Link) → g.next ≡ Splices s side sibling → g.struck ≡ false → TakesPath z v u → (p' : Purse)
      → p'.free ≡ p.free → p'.taken ≡ p.taken → u.known.sizes ≡ v.known.sizes
      → (from : TreeView) (free : List ℕ) → IsUnder z share g v p from free → HasMissed z share g u p' from free
  splice_lost side sibling at off e p' same taken sizes from free under = let k = subst
      (λ (n : Next). Stands z g n from v) at under.stands in
      has_missed z share g v u p p' from free under k.1.1.0 k.0
      (path_takes z g.call k.0.counts.tally false v u k.0.counts.calm (k.0.counts.struck_is ∙ off) e) e.unplaced
      e.same.start (some_in e.flush _ _ (steps_made v u) e.names.named) sizes
      (ap (λ (ds : List PrivateRecord). map (λ d. d.number) ds) e.owned) same taken

-- A call is ended that may be.
pub end_part : (z : Sizes) (share : ℕ) (g g' : TreeGoing) (answer : Answer) (u w : TreeView) (p p' : Purse) (result : Turned)
    → g' ≡ record g { next = Over; records = None } → result ≡ Done answer → g.struck ≡ took_effect answer
    → Ends z share g.races g.call g.records answer u w p p'
    → Part z share (λ from free. MayEnd z share g.races g.call g.records answer g.lost from u free p) g g' u w p' result
end_part z share g g' answer u w p p' result over done took e =
    subst (λ (r : Turned). Part z share (λ from free. MayEnd z share g.races g.call g.records answer g.lost from u free p) g g' u w p' r)
    (sym done) record {
      stepped = e.calm.stepped;
      stands = e.calm.stands;
      same = over_same g g' over;
      struck = ap (λ x. x.struck) over ∙ took;
      advances = tt;
      high = ends_high g' (ap (λ x. x.next) over);
      goes_on = tt;
      answered = λ from free k st. told_as tree_meaning (map_sizes z) g.call g.races (pool_view from free share)
          (pool_view w p'.free.items share) answer g.lost g'.lost (sym (ap (λ x. x.lost) over)) (e.answered from free g.lost k st);
    }

-- the leaf that the first of some steps flags
first_flag : (n : NamedStep) (names : List NamedStep) (steps : List Step) → map name_of steps ≡ n ∷ names → n.kind ≡ flag_step
    → flagged_leaf steps ≡ target n.word
first_flag n names [] e is = absurd cc
first_flag n names (x ∷ xs) e is = let here : name_of x ≡ n = cc in
    flagged_here x xs (ap (λ (m : NamedStep). m.kind) here ∙ is) ∙ ap (λ (m : NamedStep). target m.word) here

-- and a load of a value
first_read : (z : MapSizes) (leaf low : ℕ) (names : List NamedStep) (steps : List Step)
    → map name_of steps ≡ reads (cell_place (pool_sizes z) leaf 1) low ∷ names → ReadsValueOf z leaf steps
first_read z leaf low names [] e = absurd cc
first_read z leaf low names (x ∷ xs) e = let here : name_of x ≡ reads (cell_place (pool_sizes z) leaf 1) low = cc in record {
  first = x;
  rest = xs;
  is = refl;
  kind = ap (λ (m : NamedStep). m.kind) here;
  place = ap (λ (m : NamedStep). m.place) here;
}

module _ (z : Sizes) (share : ℕ) (g : TreeGoing) (s : Sought) (v u : TreeView) (p : Purse) (value : ℕ) (side : Side)
    (other : side_number side ≡ across (side_number s.side)) (p' : Purse) (same : p' ≡ p) (at : g.next ≡ Flags s) where
  abbrev flagged : TreeGoing
  flagged = record g { struck = true; taken = value; next = Tags s side }

  -- A removal took effect.
  flag_under : FlagsLeaf z g.call s value v u → (from : TreeView) (free : List ℕ) → IsUnder z share g v p from free
      → IsUnder z share flagged u p' from free
  flag_under f from free under = record {
    pair = under.pair;
    below = under.below;
    rest = subst (λ (x : Purse). IsAtRest u.known x) (sym same) (subst (λ (q : TreePass). IsAtRest q p) (sym f.known) record {
      scan = under.rest.scan;
      spent = under.rest.spent;
      frontier = under.rest.frontier;
    });
    looks = λ looks. absurd (false≢true (sym k.1.1.1.0 ∙ looks));
    carries = carries_on HasOut 2 share g.call g.records from v u free p p' (ap (λ (q : TreePass). q.sizes) f.known)
        (out_free g.records v.known u.known p p' (ap (λ (q : TreePass). owned_numbers q) f.known) (ap (λ (x : Purse). x.free) same)
        (ap (λ (x : Purse). x.taken) same)) (ap (λ (x : Purse). x.free.items) same)
        (λ looks. absurd (false≢true (sym k.1.1.1.0 ∙ looks))) under.carries;
    stands = (
      record {
        counts = record {
          tally = effected (struck_walk z g.call l.memory) l.lost l.lost e.later;
          since = subst (λ (n : ℕ). Since tree_reader (map_sizes z) g.call n
              (effected (struck_walk z g.call l.memory) l.lost l.lost e.later) from u)
              (sym start) (since_on tree_reader (map_sizes z) g.call v.known.own.start (losing l.memory l.lost) _ from v u since e.ran);
          lost_is = lost;
          calm = calm;
          struck_is = refl;
        };
        untaken = λ off. absurd (false≢true (sym off));
        taken = λ on. record {
          memory = struck_walk z g.call l.memory;
          lost = l.lost;
          early = l.lost;
          later = e.later;
          is = refl;
          few = let below = under.below in omega (arith, below, lost);
          struck = struck_on g.call (Took value) from v u since.went.number since.went.order (k.0.untaken k.1.1.0).1 f.struck;
          some = λ none. may.sought.edge.2 (sym leaf ∙ none);
          reads = subst (λ (n : ℕ). ReadsValueOf (map_sizes z) n e.later) (sym leaf)
              (first_read (map_sizes z) (target (word_of s.edge)) f.low _ e.later e.later_are);
        };
      },
      (
        record {
          call = ap (λ (q : TreePass). q.own.call) f.known ∙ k.1.0.call;
          going = ap (λ (q : TreePass). q.own.going) f.known;
        },
        (
          k.1.1.1.0,
          (
            tags_after_flag z g.call s side value v u may f other,
            λ on. inl (
              ap (λ (q : TreePass). q.own.flag) f.known ∙ (sym (across_twice (side_number s.side) (side_two s.side)) ∙ ap across
                  (sym other)),
              ap (λ (q : TreePass). q.own.beside) f.known ∙ sym leaf,
            ),
          ),
        ),
      ),
    );
  }
    where
      k : Stands z g (Flags s) from v
      k = subst (λ (n : Next). Stands z g n from v) at under.stands

      may : FlagsNext v.known s
      may = k.1.1.1.1

      l : IsLosing k.0.counts.tally
      l = (k.0.untaken k.1.1.0).0

      calm : l.memory.coming ≡ false
      calm = sym (ap (λ (t : TreeTally). (memory_of t).coming) l.is) ∙ k.0.counts.calm

      lost : l.lost ≡ g.lost
      lost = sym (ap (λ (t : TreeTally). lost_of t) l.is) ∙ k.0.counts.lost_is

      e : TakesEffect (map_sizes z) g.call l.memory (struck_walk z g.call l.memory) l.lost (flags f.place (word_of s.edge))
          (reads (cell_place z (target (word_of s.edge)) 1) f.low ∷ reads (cell_place z (target (word_of s.edge)) 4) f.high ∷ []) v u
      e = flag_strikes z g.call l.memory l.lost s value v u calm f

      since : Since tree_reader (map_sizes z) g.call v.known.own.start (losing l.memory l.lost) from v
      since = subst (λ (t : TreeTally). Since tree_reader (map_sizes z) g.call v.known.own.start t from v) l.is k.0.counts.since

      start : u.known.own.start ≡ v.known.own.start
      start = ap (λ (q : TreePass). q.own.start) f.known

      leaf : flagged_leaf (steps_made from u) ≡ target (word_of s.edge)
      leaf = ap flagged_leaf (steps_both from v u since.went f.names.stepped)
          ∙ (flagged_losing (map_sizes z) g.call fresh_walk l.memory 0 l.lost (steps_made from v) (steps_made v u) since.read
          ∙ first_flag (flags f.place (word_of s.edge)) _ (steps_made v u) f.names.named refl)

  pub flag_turned : FlagsLeaf z g.call s value v u → TreeTurned z share g flagged v u p p' On
  flag_turned f = record {
    stepped = f.names.stepped;
    some_made = some_named _ _ (steps_made v u) f.names.named;
    stands = f.names.stands;
    same = record {
      call = refl;
      races = refl;
      high = omega arith;
    };
    stays = λ on. refl;
    strikes = λ off on. (Took value, f.struck);
    struck = tt;
    went = subst (λ (n : Next). WentOn (going_of v.known (record g { next = n })) (going_of u.known flagged)) (sym at)
        (next_kind refl (omega arith));
    goes_on = λ from free under. flag_under f from free under;
    answered = tt;
  }

-- A removal that has taken effect spliced its path out.
module _ (z : Sizes) (share : ℕ) (g : TreeGoing) (s : Sought) (v u : TreeView) (p p' : Purse) (side : Side) (sibling : Link)
    (at : g.next ≡ Splices s side sibling) (on : g.struck ≡ true) (e : TakesPath z v u) where
  pub splice_may : p'.free ≡ p.free → u.known.sizes ≡ v.known.sizes → (from : TreeView) (free : List ℕ) → IsUnder z share g v p from free
      → MayEnd z share g.races g.call g.records (Said (Took g.taken)) g.lost from u free p'
  splice_may same sizes from free under = subst (λ (n : ℕ). MayEnd z share g.races g.call g.records (Said (Took g.taken)) n from u free p')
      (sym (ap (λ (y : TreeTally). lost_of y) now.is) ∙ t.counts.lost_is) record {
        by = record {
          start = u.known.own.start;
          memory = now.memory;
          early = now.early;
          later = now.later;
          since = subst (λ (y : TreeTally). Since tree_reader (map_sizes z) g.call u.known.own.start y from u) now.is t.counts.since;
          few = now.few;
          struck = now.struck;
          took = λ x is. (why, leaf_settled (steps_made from u) now.some);
        };
        last = saw_last from v u k.0.counts.since.went e.names.stepped (some_in e.flush _ _ (steps_made v u) e.names.named);
        sizes = sizes ∙ under.carries.sizes;
        kept = let few = under.carries.kept in let same_long = ap (λ f. length f.items) same in omega arith;
        alone = λ looks. absurd (false≢true (sym k.1.1.0 ∙ looks));
      }
    where
      k : Stands z g (Splices s side sibling) from v
      k = subst (λ (n : Next). Stands z g n from v) at under.stands

      a : Walks (map_sizes z) g.call k.0.counts.tally 0 v u
      a = path_takes z g.call k.0.counts.tally true v u k.0.counts.calm (k.0.counts.struck_is ∙ on) e

      zero : g.lost ≡ g.lost + 0
      zero = omega arith

      t : Tries (map_sizes z) g g.lost from u
      t = tries_on (map_sizes z) g g.lost g.lost 0 from v u k.0 a zero e.unplaced e.same.start

      was : HasTaken (map_sizes z) g.call g.races g.taken k.0.counts.tally from v
      was = k.0.taken on

      now : HasTaken (map_sizes z) g.call g.races g.taken t.counts.tally from u
      now = t.taken on

      leaf : flagged_leaf (steps_made from u) ≡ flagged_leaf (steps_made from v)
      leaf = ap flagged_leaf (steps_both from v u k.0.counts.since.went e.names.stepped)
          ∙ flagged_on (steps_made from v) (steps_made v u) (flagged_leaf (steps_made from v)) refl was.some

      moved_elsewhere : (y : TreeTally) → HasTaken (map_sizes z) g.call g.races g.taken y from v
          → EndedElsewhere (map_sizes z) g.call (later_of y)
          → EndedElsewhere (map_sizes z) g.call (later_of (moved y a.memory 0 (steps_made v u)))
      moved_elsewhere y h x = subst (λ (q : TreeTally). EndedElsewhere (map_sizes z) g.call
          (later_of (moved q a.memory 0 (steps_made v u))))
          (sym h.is) (elsewhere_on (map_sizes z) g.call h.later (steps_made v u)
          (subst (λ (q : TreeTally). EndedElsewhere (map_sizes z) g.call (later_of q)) h.is x))

      why : TookBy tree_words tree_causes (map_sizes z) g.call g.races (effected now.memory now.lost now.early now.later) from u
      why = ⊎_elim (λ (x : (v.known.own.flag ≡ across (side_number side)) × (v.known.own.beside ≡ flagged_leaf (steps_made from v))).
          inl (subst (λ (n : ℕ). WasDetached (tree_causes.IsAttached (map_sizes z)) (tree_words.opening (map_sizes z)) n
          (length (made_by u.known.number u.order) - length now.later) u.known.number (entries_of u.order)) (x.1 ∙ sym leaf)
          (was_detached (tree_causes.IsAttached (map_sizes z)) (tree_words.opening (map_sizes z)) v.known.own.beside u u now.later now.later
          (stepped_none u u refl) (sym (ap (λ (l : List Step). now.later ++ l) (steps_none u u refl) ∙ append-nil now.later))
          (e.gone v.known.own.beside (k.1.1.1.0.beside x.0)))))
          (λ (x : EndedElsewhere (map_sizes z) g.call (later_of k.0.counts.tally)). inr (inr
          (subst (EndedElsewhere (map_sizes z) g.call) (ap (λ (y : TreeTally). later_of y) now.is)
          (moved_elsewhere k.0.counts.tally was x)))) (k.1.1.1.1 on)
