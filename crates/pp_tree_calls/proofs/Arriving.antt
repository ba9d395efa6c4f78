-- From the end of a seek a call is answered, or comes to its next kind of turn.
use Rattle.std.proofs.Common.{◌≡◌, ◌≢◌, ◌⊎◌, ℕ, ◌+◌, ◌*◌, ◌/◌, ◌%◌, ◌<◌, ◌≤◌, ◌^◌, Bool, true, false, cond, nat_eq, length, List}
use Rattle.std.proofs.Common.{◌∷◌, ◌++◌, refl, sym, ap, ◌∙◌, subst, inl, inr, arith}
use Rattle.std.proofs.Common.{Option, Some, None, eqb-true, eq-eqb, ne_eqb, ⊎_elim, append_assoc}
use Rattle.std.specs.Prelude.{not}
use Rattle.std.proofs.Math.Bool.{false≢true}
use Rattle.pp_calls.specs.PoolViews.{pool_view}
use Rattle.pp_link.specs.declared.layout.Sizes.{Sizes}
use Rattle.pp_link.specs.declared.link.Link.{Link}
use Rattle.pp_link.specs.Links.{target, word_of, flag_bit, tag_bit, bit}
use Rattle.pp_model.specs.declared.Answer.{Answer}
use Rattle.pp_model.specs.declared.Answer.TheVariants.{Said}
use Rattle.pp_model.specs.declared.Call.{Call}
use Rattle.pp_model.specs.declared.Call.TheVariants.{Get, Insert, Remove, Cut}
use Rattle.pp_model.specs.declared.Change.{Change}
use Rattle.pp_model.specs.declared.Pair.{Pair}
use Rattle.pp_model.specs.FiniteMap.{find}
use Rattle.pp_model.specs.History.{after}
use Rattle.pp_model.specs.declared.Reply.{Reply}
use Rattle.pp_model.specs.declared.Reply.TheVariants.{Value, Absent, Held, Took, Other}
use Rattle.pp_model.specs.declared.Turned.{Turned}
use Rattle.pp_model.specs.declared.Turned.TheVariants.{On, Done}
use Rattle.pp_model.specs.declared.steps.Step.{Step}
use Rattle.pp_model.specs.Calls.{key_of, changes, reply_at, Takes, removes, cuts}
use Rattle.pp_rule.specs.Lists.{BeginsWith}
use Rattle.pp_rule.specs.Orders.{log_of}
use Rattle.pp_rule.specs.Views.{slot, value_of}
use Rattle.pp_rule.proofs.Histories.{log_begins}
use Rattle.pp_base.specs.declared.purse.Purse.{Purse}
use Rattle.pp_base.specs.declared.source.Side.{Side}
use Rattle.pp_base.specs.Sources.{side_number}
use Rattle.pp_calls.proofs.Growing.{begins_long, stepped_none}
use Rattle.pp_shelf.specs.Runs.{map_sizes, steps_made}
use Rattle.pp_seek.specs.declared.seek.Spot.{Spot}
use Rattle.pp_seek.specs.declared.seek.Sought.{Sought}
use Rattle.pp_seek.specs.Seeking.{IsSought}
use Rattle.pp_trees.specs.Trees.{IsRight, across}
use Rattle.pp_trees.specs.Searches.{TreePass}
use Rattle.pp_trees.specs.Edges.{TreeView}
use Rattle.pp_turns.proofs.Purses.{carries_on}
use Rattle.pp_turns.proofs.Answering.{told_as}
use Rattle.pp_turns.specs.Tallies.{losing, effected, lost_of, later_of}
use Rattle.pp_turns.specs.Turns.{Since, Replied}
use Rattle.pp_turns.proofs.Placing.{replied_later, unplaced_on, after_longer}
use Rattle.pp_turns.proofs.Stretches.{saw_on}
use Rattle.pp_tree_turns.specs.Walked.{Walked, tree_reader, TreeTally, moved}
use Rattle.pp_tree_turns.specs.Causes.{tree_words, tree_causes, tree_meaning, flagged_leaf, ReadsValueOf, EndedElsewhere}
use Rattle.pp_tree_turns.proofs.Exchanges.{tags_beside, tags_again, across_twice, side_two}
use Rattle.pp_tree_calls.specs.declared.going.TreeGoing.{TreeGoing}
use Rattle.pp_tree_calls.specs.declared.going.Next.{Next}
use Rattle.pp_tree_calls.specs.declared.going.Next.TheVariants.{Publishes, Flags, Tags, Over}
use Rattle.pp_tree_calls.specs.Purses.{TwoRecords, HasOut}
use Rattle.pp_turns.specs.Answers.{is_look, SaysBy}
use Rattle.pp_tree_calls.specs.Going.{kind_of, spot_of, upper_at, HasTaken, Tries, Goes}
use Rattle.pp_tree_calls.specs.Going.{Stands}
use Rattle.pp_tree_calls.specs.Answers.{Ends}
use Rattle.pp_tree_calls.specs.Turned.{SameGoing, Part, EndedAt, found_by, Idles, HasArrived, HasEnded}
use Rattle.pp_tree_calls.proofs.Closing.{leaf_settled}
use Rattle.pp_tree_calls.proofs.Losing.{ends_high}
use Rattle.pp_tree_calls.proofs.Lasting.{counts_on, losing_on, taken_on}

-- what was right at a place stays so
pub right_on : (longer log : List Change) (start k : ℕ) (a : Option ℕ) → BeginsWith longer log → IsRight log start k a
    → IsRight longer start k a
right_on longer log start k a b r = let long = begins_long longer log b in let within = r.1.1 in
    (r.0, (r.1.0, omega arith, ap (λ (m : List Pair). find m k) (after_longer longer log r.0 b r.1.1) ∙ r.1.2))

low_bit : (b : Bool) → bit b ≤ 1
low_bit true = omega arith
low_bit false = omega arith

-- FLAG and TAG in a link's word
pub flag_of : (l : Link) → flag_bit (word_of l) ≡ bit l.flag
flag_of l = go l.number (bit l.leaf) (bit l.invalid) (bit l.tag) (bit l.flag) (low_bit l.leaf) (low_bit l.invalid) (low_bit l.tag)
    (low_bit l.flag)
  where
    go : (n l i t f : ℕ) → l ≤ 1 → i ≤ 1 → t ≤ 1 → f ≤ 1 → (16 * n + 8 * l + 4 * i + 2 * t + f) % 2 ≡ f
    go n l i t f a b c d = omega arith

pub tag_of : (l : Link) → tag_bit (word_of l) ≡ bit l.tag
tag_of l = go l.number (bit l.leaf) (bit l.invalid) (bit l.tag) (bit l.flag) (low_bit l.leaf) (low_bit l.invalid) (low_bit l.tag)
    (low_bit l.flag)
  where
    go : (n l i t f : ℕ) → l ≤ 1 → i ≤ 1 → t ≤ 1 → f ≤ 1 → (16 * n + 8 * l + 4 * i + 2 * t + f) / 2 % 2 ≡ t
    go n l i t f a b c d = omega arith

pub not_so : (b : Bool) → not b ≡ true → b ≡ false
not_so true e = absurd (false≢true e)
not_so false e = refl

pub so : (b : Bool) → not b ≡ false → b ≡ true
so true e = refl
so false e = absurd (false≢true (sym e))

-- the call is the same one as it is over
pub over_same : (g g' : TreeGoing) → g' ≡ record g { next = Over; records = None } → SameGoing g g'
over_same g g' is = record { call = ap (λ x. x.call) is; races = ap (λ x. x.races) is; struck = ap (λ x. x.struck) is }

-- what ends a call of a pass with the same share and purse
pub ends_as : (z : Sizes) (share share' races : ℕ) (call : Call) (records : TwoRecords) (answer : Answer) (v w : TreeView) (p q p' : Purse)
    → share' ≡ share → q ≡ p → Ends z share' races call records answer v w q p' → Ends z share races call records answer v w p p'
ends_as z share share' races call records answer v w p q p' same purse e =
    subst (λ (n : ℕ). Ends z n races call records answer v w p p') same
    (subst (λ (r : Purse). Ends z share' races call records answer v w r p') purse e)

-- what a seek found
pub found_other : (g : TreeGoing) (s : Sought) (q : TreePass) → IsSought q (key_of g.call) s → s.equal ≡ false → found_by g s q ≡ None
found_other g s q i is = ap (λ (b : Bool). cond b (cond (nat_eq (flag_bit (word_of s.edge)) 0)
    (Some (value_of (slot q s.word).value)) None) None)
    (sym i.equal ∙ is)

no_value : Option ℕ
no_value = None

both_none : (b : Bool) → cond b no_value no_value ≡ no_value
both_none true = refl
both_none false = refl

pub found_flag : (g : TreeGoing) (s : Sought) (q : TreePass) → flag_bit (word_of s.edge) ≡ 1 → found_by g s q ≡ None
unfolding no_value
found_flag g s q is = ap (λ (b : ℕ). cond (nat_eq (slot q s.word).key (key_of g.call)) (cond (nat_eq b 0)
    (Some (value_of (slot q s.word).value)) None) None) is ∙ both_none (nat_eq (slot q s.word).key (key_of g.call))

pub found_value : (g : TreeGoing) (s : Sought) (q : TreePass) → IsSought q (key_of g.call) s → s.equal ≡ true
    → flag_bit (word_of s.edge) ≡ 0 → found_by g s q ≡ Some (value_of (slot q s.word).value)
found_value g s q i is plain = ap (λ (b : Bool). cond b (cond (nat_eq (flag_bit (word_of s.edge)) 0)
    (Some (value_of (slot q s.word).value)) None) None)
    (sym i.equal ∙ is) ∙ ap (λ (b : ℕ). cond (nat_eq b 0) (Some (value_of (slot q s.word).value)) None) plain

-- A seek that ended stays so over steps that count for nothing.
module _ (z : Sizes) (share : ℕ) (g : TreeGoing) (s : Sought) (v u : TreeView) (p : Purse) (idle : Idles z v u) where
  own_start : u.known.own.start ≡ v.known.own.start
  own_start = ap (λ (q : TreePass). q.own.start) idle.known

  pub ended_idle : HasEnded z g v.known p s → HasEnded z g u.known p s
  ended_idle e = subst (λ (q : TreePass). HasEnded z g q p s) (sym idle.known) e

  ended_later : (t : TreeTally) (m : Walked) (word key : ℕ) → EndedAt word key (later_of t)
      → EndedAt word key (later_of (moved t m 0 (steps_made v u)))
  ended_later (losing a n) m word key e = e
  ended_later (effected a n early later) m word key e = record {
    earlier = e.earlier;
    ends = e.ends;
    reads = e.reads;
    after = e.after ++ steps_made v u;
    is = ap (λ (l : List Step). l ++ steps_made v u) e.is ∙ append_assoc e.earlier (e.ends ∷ e.reads ∷ e.after) (steps_made v u);
    ends_kind = e.ends_kind;
    ends_word = e.ends_word;
    reads_kind = e.reads_kind;
    reads_word = e.reads_word;
  }

  pub arrived_idle : (from : TreeView) (free : List ℕ) → HasArrived z share g s v p from free → HasArrived z share g s u p from free
  arrived_idle from free k = let a = idle.walks g.call k.counts.tally k.counts.calm in
      let zero : g.lost ≡ g.lost + 0 = omega arith in record {
        counts = counts_on (map_sizes z) g.call from v u 0 g.lost g.lost g.struck k.counts a zero own_start;
        last = saw_on from v u k.counts.since.went k.last idle.stepped;
        losing_still = λ off. losing_on (map_sizes z) g.call from v u 0 k.counts.tally a.memory (steps_made v u) (k.losing_still off);
        settled = λ off same. subst (λ (q : TreePass). Replied g.call (reply_at g.call (found_by g s q)) q.own.start from u)
            (sym idle.known)
            (replied_later g.call (reply_at g.call (found_by g s v.known)) v.known.own.start from v u
            k.counts.since.went.number idle.stepped.order
            (k.settled off (ap (λ (q : TreePass). changes (reply_at g.call (found_by g s q))) (sym idle.known) ∙ same)) idle.unplaced);
        opened = λ off change. let o = k.opened off (ap (λ (q : TreePass). changes (reply_at g.call (found_by g s q)))
            (sym idle.known) ∙ change) in (
              unplaced_on from v u k.counts.since.went.number o.0 idle.unplaced,
              subst (λ (q : TreePass). IsRight (log_of u.order) q.own.start (key_of g.call) (found_by g s q)) (sym idle.known)
                  (right_on (log_of u.order) (log_of v.order) v.known.own.start (key_of g.call) (found_by g s v.known)
                  (log_begins u.order v.order idle.stepped.order) o.1),
            );
        taken = λ on. taken_on (map_sizes z) g.call from v u 0 g.races g.taken v.known.own.start k.counts.tally a.memory k.counts.since
            idle.stepped idle.unplaced (k.taken on);
        ended = λ on. subst (λ (q : TreePass). EndedAt (word_of s.edge) (slot q s.word).key
            (later_of (moved k.counts.tally a.memory 0 (steps_made v u))))
            (sym idle.known) (ended_later k.counts.tally a.memory (word_of s.edge) (slot v.known s.word).key (k.ended on));
        carries = carries_on HasOut 2 share g.call g.records from v u free p p (ap (λ (q : TreePass). q.sizes) idle.known)
            (λ out. subst (λ (q : TreePass). HasOut q p g.records) (sym idle.known) out) refl
            (λ looks. (
              idle.stepped,
              idle.none,
              record {
                sizes = ap (λ (q : TreePass). q.sizes) idle.known;
                retired = ap (λ (q : TreePass). q.retired) idle.known;
                chains = ap (λ (q : TreePass). length q.chains) idle.known;
              },
            )) k.carries;
      }

module _ (z : Sizes) (share : ℕ) (g : TreeGoing) (s : Sought) (v : TreeView) (p : Purse) where
  -- It is answered by a reply that was settled.
  pub arrived_says : (w : TreeView) (g' : TreeGoing) (p' : Purse) (result : Turned) (said : Reply)
      → g' ≡ record g { next = Over; records = None } → g.struck ≡ false → g.lost < g.races
      → reply_at g.call (found_by g s v.known) ≡ said → changes said ≡ false → result ≡ Done (Said said)
      → Ends z share g.races g.call g.records (Said said) v w p p'
      → Part z share (HasArrived z share g s v p) g g' v w p' result
  arrived_says w g' p' result said over off few is plain done e =
      subst (λ (r : Turned). Part z share (HasArrived z share g s v p) g g' v w p' r) (sym done) record {
        stepped = e.calm.stepped;
        stands = e.calm.stands;
        same = over_same g g' over;
        struck = ap (λ x. x.struck) over ∙ (off ∙ sym plain);
        advances = tt;
        high = ends_high g' (ap (λ x. x.next) over);
        goes_on = tt;
        answered = λ from free k stands. let l = k.losing_still off in
            let lost : l.lost ≡ g.lost = sym (ap (λ (y : TreeTally). lost_of y) l.is) ∙ k.counts.lost_is in
            told_as tree_meaning (map_sizes z) g.call g.races (pool_view from free share) (pool_view w p'.free.items share)
            (Said said) l.lost g'.lost (lost ∙ sym (ap (λ x. x.lost) over)) (e.answered from free l.lost record {
              by = subst (λ (b : Bool). SaysBy tree_words tree_causes (map_sizes z) g.races g.call b said l.lost from v)
                  (sym plain) record {
                    start = v.known.own.start;
                    memory = l.memory;
                    since = subst (λ (x : TreeTally). Since tree_reader (map_sizes z) g.call v.known.own.start x from v) l.is
                        k.counts.since;
                    few = omega (arith, few, lost);
                    replied = subst (λ (r : Reply). Replied g.call r v.known.own.start from v) is (k.settled off (ap changes is ∙ plain));
                  };
              last = k.last;
              sizes = k.carries.sizes;
              kept = let few = k.carries.kept in omega arith;
              alone = k.carries.alone;
            } stands);
      }

  -- where a seek ended elsewhere, by its steps
  ended_elsewhere : (t : TreeTally) (from : TreeView) → HasTaken (map_sizes z) g.call g.races g.taken t from v
      → EndedAt (word_of s.edge) (slot v.known s.word).key (later_of t)
      → (flag_bit (word_of s.edge) ≡ 0) ⊎ (((slot v.known s.word).key ≢ key_of g.call)
      ⊎ (target (word_of s.edge) ≢ flagged_leaf (steps_made from v)))
      → EndedElsewhere (map_sizes z) g.call (later_of t)
  ended_elsewhere t from h e other = record {
    earlier = e.earlier;
    later = e.after;
    ends = e.ends;
    reads = e.reads;
    is = e.is;
    ends_kind = e.ends_kind;
    reads_kind = e.reads_kind;
    leaf = flagged_leaf (steps_made from v);
    own = subst (ReadsValueOf (map_sizes z) (flagged_leaf (steps_made from v))) (sym (ap (λ (y : TreeTally). later_of y) h.is)) h.reads;
    elsewhere = ⊎_elim (λ (a : flag_bit (word_of s.edge) ≡ 0). inl (ap flag_bit e.ends_word ∙ a))
        (λ b. inr (⊎_elim (λ (c : (slot v.known s.word).key ≢ key_of g.call). inl (λ x. c (sym e.reads_word ∙ x)))
        (λ (d : target (word_of s.edge) ≢ flagged_leaf (steps_made from v)). inr (λ x. d (ap target (sym e.ends_word) ∙ x))) b)) other;
  }

  -- It says what it took: its leaf isn't there any more.
  pub arrived_took : (w : TreeView) (g' : TreeGoing) (p' : Purse) (result : Turned)
      → g' ≡ record g { next = Over; records = None } → g.struck ≡ true
      → (flag_bit (word_of s.edge) ≡ 0) ⊎ ((slot v.known s.word).key ≢ key_of g.call) → result ≡ Done (Said (Took g.taken))
      → Ends z share g.races g.call g.records (Said (Took g.taken)) v w p p'
      → Part z share (HasArrived z share g s v p) g g' v w p' result
  arrived_took w g' p' result over on other done e =
      subst (λ (r : Turned). Part z share (HasArrived z share g s v p) g g' v w p' r) (sym done) record {
        stepped = e.calm.stepped;
        stands = e.calm.stands;
        same = over_same g g' over;
        struck = ap (λ x. x.struck) over ∙ on;
        advances = tt;
        high = ends_high g' (ap (λ x. x.next) over);
        goes_on = tt;
        answered = λ from free k stands. let h = k.taken on in
            let x = ended_elsewhere k.counts.tally from h (k.ended on)
            (⊎_elim (λ (a : flag_bit (word_of s.edge) ≡ 0). inl a) (λ (b : (slot v.known s.word).key ≢ key_of g.call). inr
            (inl b)) other) in
            told_as tree_meaning (map_sizes z) g.call g.races (pool_view from free share) (pool_view w p'.free.items share)
            (Said (Took g.taken)) h.lost g'.lost (sym (ap (λ (y : TreeTally). lost_of y) h.is)
            ∙ (k.counts.lost_is ∙ sym (ap (λ x. x.lost) over)))
            (e.answered from free h.lost record {
              by = record {
                start = v.known.own.start;
                memory = h.memory;
                early = h.early;
                later = h.later;
                since = subst (λ (y : TreeTally). Since tree_reader (map_sizes z) g.call v.known.own.start y from v) h.is k.counts.since;
                few = h.few;
                struck = h.struck;
                took = λ y is. (
                  inr (inr (subst (EndedElsewhere (map_sizes z) g.call)
                      (ap (λ (y : TreeTally). later_of y) h.is) x)),
                  leaf_settled (steps_made from v) h.some,
                );
              };
              last = k.last;
              sizes = k.carries.sizes;
              kept = let few = k.carries.kept in omega arith;
              alone = k.carries.alone;
            } stands);
      }

  -- it goes on trying
  abbrev pub opened_tries : (n : Next) (from : TreeView) (free : List ℕ) → HasArrived z share g s v p from free
      → (g.struck ≡ false → changes (reply_at g.call (found_by g s v.known)) ≡ true)
      → Tries (map_sizes z) (record g { next = n }) g.lost from v
  opened_tries n from free k opens = record {
    counts = k.counts;
    untaken = λ off. (k.losing_still off, (k.opened off (opens off)).0);
    taken = k.taken;
  }

  module _ (ended : HasEnded z g v.known p s) (opens : g.struck ≡ false → changes (reply_at g.call (found_by g s v.known)) ≡ true) where
    going_is : (b : Bool) → g.struck ≡ b → v.known.own.going ≡ not b
    going_is true is = ended.gone is
    going_is false is = ended.goes is (opens is)

    pub goes : (n : Next) → Goes (record g { next = n }) v.known
    goes n = record { call = ended.call; going = going_is g.struck refl }

    -- It comes to its next kind of turn.
    pub arrived_opens : (n : Next) → 0 < kind_of n → spot_of n ≡ None
        → ((from : TreeView) (free : List ℕ) → HasArrived z share g s v p from free → Stands z (record g { next = n }) n from v)
        → Part z share (HasArrived z share g s v p) g (record g { next = n }) v v p On
    arrived_opens n later high each = record {
      stepped = stepped_none v v refl;
      stands = λ own stands. stands;
      same = record { call = refl; races = refl; struck = refl };
      struck = tt;
      advances = inr (refl, let at = ended.seeks in omega arith);
      high = subst (λ (o : Option Spot). upper_at o ≤ 2 ^ 64) (sym high) (omega arith);
      goes_on = λ from free k. record {
        pair = ended.pair;
        below = ended.below;
        rest = ended.rest;
        looks = λ is. (ended.looks is).1;
        carries = k.carries;
        stands = each from free k;
      };
      answered = tt;
    }

    -- an edge with TAG alone is tagged again
    pub opens_again : is_look g.call ≡ false → g.struck ≡ false → tag_bit (word_of s.edge) ≡ 1
        → Part z share (HasArrived z share g s v p) g (record g { next = Tags s s.side }) v v p On
    opens_again change off tag = arrived_opens (Tags s s.side) (omega arith) refl
        (λ from free k. (
          opened_tries (Tags s s.side) from free k opens,
          (
            goes (Tags s s.side),
            (
              change,
              (tags_again v.known (key_of g.call) s ended.sought tag, λ on. absurd (false≢true (sym off ∙ on))),
            ),
          ),
        ))

    -- beside an edge with FLAG the other one is tagged
    pub opens_beside : (side : Side) → is_look g.call ≡ false → side_number side ≡ across (side_number s.side) → flag_bit
        (word_of s.edge) ≡ 1
        → Part z share (HasArrived z share g s v p) g (record g { next = Tags s side }) v v p On
    opens_beside side change is flag = arrived_opens (Tags s side) (omega arith) refl
        (λ from free k. (
          opened_tries (Tags s side) from free k opens,
          (
            goes (Tags s side),
            (
              change,
              (
                tags_beside v.known (key_of g.call) s side ended.sought flag is,
                λ on. with_it from free k on (target (word_of s.edge)) (flagged_leaf (steps_made from v)) refl refl,
              ),
            ),
          ),
        ))
      where
        flagged : v.known.own.flag ≡ across (side_number side)
        flagged = ended.sought.flag flag ∙ (sym (across_twice (side_number s.side) (side_two s.side)) ∙ ap across (sym is))

        by_eq : (a b : ℕ) → (a ≡ b) ⊎ (a ≢ b)
        by_eq a b = by (nat_eq a b) refl
          where
            by : (c : Bool) → nat_eq a b ≡ c → (a ≡ b) ⊎ (a ≢ b)
            by true e = inl (eqb-true a b e)
            by false e = inr (λ same. false≢true (sym e ∙ eq-eqb a b same))

        with_it : (from : TreeView) (free : List ℕ) (k : HasArrived z share g s v p from free) → g.struck ≡ true → (a b : ℕ)
            → target (word_of s.edge) ≡ a → flagged_leaf (steps_made from v) ≡ b
            → ((v.known.own.flag ≡ across (side_number side)) × (v.known.own.beside ≡ flagged_leaf (steps_made from v)))
            ⊎ EndedElsewhere (map_sizes z) g.call (later_of k.counts.tally)
        with_it from free k on a b edge leaf = ⊎_elim
            (λ (same : target (word_of s.edge) ≡ flagged_leaf (steps_made from v)). inl (flagged, ended.sought.beside ∙ same))
            (λ (other : target (word_of s.edge) ≢ flagged_leaf (steps_made from v)).
            inr (ended_elsewhere k.counts.tally from (k.taken on) (k.ended on) (inr (inr other))))
            (by_eq (target (word_of s.edge)) (flagged_leaf (steps_made from v)))

-- the key of the leaf is another one
pub other_key : (g : TreeGoing) (s : Sought) (q : TreePass) → IsSought q (key_of g.call) s → s.equal ≡ false →
    (slot q s.word).key ≢ key_of g.call
other_key g s q i other same = false≢true (sym other ∙ (i.equal ∙ eq-eqb (slot q s.word).key (key_of g.call) same))

-- a part of a turn of a pass with the same share and purse
pub part_as : (z : Sizes) (share share' : ℕ) (g g' : TreeGoing) (s : Sought) (v w : TreeView) (p q p' : Purse) (result : Turned)
    → share' ≡ share → q ≡ p → Part z share' (HasArrived z share' g s v q) g g' v w p' result
    → Part z share (HasArrived z share g s v p) g g' v w p' result
part_as z share share' g g' s v w p q p' result same purse e =
    subst (λ (n : ℕ). Part z n (HasArrived z n g s v p) g g' v w p' result) same
    (subst (λ (r : Purse). Part z share' (HasArrived z share' g s v r) g g' v w p' result) purse e)

-- a call that has taken effect doesn't only look, and has no change to make
pub changing_struck : (g : TreeGoing) → g.struck ≡ true → (is_look g.call ≡ true → g.struck ≡ false) → is_look g.call ≡ false
changing_struck g on = by (is_look g.call) refl
  where
    by : (b : Bool) → is_look g.call ≡ b → (is_look g.call ≡ true → g.struck ≡ false) → is_look g.call ≡ false
    by true is looks = absurd (false≢true (sym (looks is) ∙ on))
    by false is looks = is

pub no_change : (g : TreeGoing) → g.struck ≡ true → (b : Bool) → g.struck ≡ false → b ≡ true
no_change g on b off = absurd (false≢true (sym off ∙ on))

-- what the calls answer
pub get_absent : (call : Call) (a : Option ℕ) → is_look call ≡ true → a ≡ None → reply_at call a ≡ Absent
get_absent (Get k) a looks e = ap (reply_at (Get k)) e
get_absent (Insert k x) a looks e = absurd (false≢true looks)
get_absent (Remove k) a looks e = absurd (false≢true looks)
get_absent (Cut k x) a looks e = absurd (false≢true looks)

pub get_value : (call : Call) (a : Option ℕ) (x : ℕ) → is_look call ≡ true → a ≡ Some x → reply_at call a ≡ Value x
get_value (Get k) a x looks e = ap (reply_at (Get k)) e
get_value (Insert k y) a x looks e = absurd (false≢true looks)
get_value (Remove k) a x looks e = absurd (false≢true looks)
get_value (Cut k y) a x looks e = absurd (false≢true looks)

pub insert_held : (call : Call) (k x : ℕ) (a : Option ℕ) (y : ℕ) → call ≡ Insert k x → a ≡ Some y → reply_at call a ≡ Held y
insert_held call k x a y is e = ap (λ (c : Call). reply_at c a) is ∙ ap (reply_at (Insert k x)) e

pub insert_added : (call : Call) (k x : ℕ) (a : Option ℕ) → call ≡ Insert k x → a ≡ None → changes (reply_at call a) ≡ true
insert_added call k x a is e = ap (λ (c : Call). changes (reply_at c a)) is ∙ ap (λ (o : Option ℕ). changes (reply_at (Insert k x) o)) e

pub remove_absent : (call : Call) (k : ℕ) (a : Option ℕ) → call ≡ Remove k → a ≡ None → reply_at call a ≡ Absent
remove_absent call k a is e = ap (λ (c : Call). reply_at c a) is ∙ ap (reply_at (Remove k)) e

pub remove_takes : (call : Call) (k y : ℕ) → call ≡ Remove k → Takes call (key_of call) y
remove_takes call k y is = subst (λ (c : Call). Takes c (key_of c) y) (sym is) (removes k y)

pub cut_absent : (call : Call) (k x : ℕ) (a : Option ℕ) → call ≡ Cut k x → a ≡ None → reply_at call a ≡ Absent
cut_absent call k x a is e = ap (λ (c : Call). reply_at c a) is ∙ ap (reply_at (Cut k x)) e

pub cut_other : (call : Call) (k x : ℕ) (a : Option ℕ) (y : ℕ) → call ≡ Cut k x → a ≡ Some y → y ≢ x → reply_at call a ≡ Other y
cut_other call k x a y is e apart = ap (λ (c : Call). reply_at c a) is ∙ (ap (reply_at (Cut k x)) e
    ∙ ap (λ (b : Bool). cond b (Took y) (Other y)) (ne_eqb y x apart))

pub cut_takes : (call : Call) (k x y : ℕ) → call ≡ Cut k x → y ≡ x → Takes call (key_of call) y
cut_takes call k x y is value = subst (λ (c : Call). Takes c (key_of c) y) (sym is)
    (subst (λ (w : ℕ). Takes (Cut k x) k w) (sym value) (cuts k x))

-- a call that takes the pair that it found changes the map
pub takes_changes : (call : Call) (key y : ℕ) (a : Option ℕ) → Takes call key y → a ≡ Some y → changes (reply_at call a) ≡ true
takes_changes call key y a (removes k w) e = ap (λ (o : Option ℕ). changes (reply_at (Remove k) o)) e
takes_changes call key y a (cuts k w) e = ap (λ (o : Option ℕ). changes (reply_at (Cut k w) o)) e
    ∙ ap (λ (b : Bool). changes (cond b (Took w) (Other w))) (eq-eqb w w refl)

pub takes_look : (call : Call) (key y : ℕ) → Takes call key y → is_look call ≡ false
takes_look call key y (removes k w) = refl
takes_look call key y (cuts k w) = refl

module _ (z : Sizes) (share : ℕ) (g : TreeGoing) (s : Sought) (v : TreeView) (p : Purse) (ended : HasEnded z g v.known p s) where
  -- a removal comes to its flag
  pub opens_flag : s.equal ≡ true → flag_bit (word_of s.edge) ≡ 0 → tag_bit (word_of s.edge) ≡ 0
      → Takes g.call (key_of g.call) (value_of (slot v.known s.word).value) → g.struck ≡ false
      → Part z share (HasArrived z share g s v p) g (record g { next = Flags s }) v v p On
  opens_flag equal flag tag takes off =
      let opens : g.struck ≡ false → changes (reply_at g.call (found_by g s v.known)) ≡ true =
      λ _. takes_changes g.call (key_of g.call) (value_of (slot v.known s.word).value) (found_by g s v.known) takes
      (found_value g s v.known ended.sought equal flag) in
      arrived_opens z share g s v p ended opens (Flags s) (omega arith) refl
      (λ from free k. (
        opened_tries z share g s v p (Flags s) from free k opens,
        (
          goes z share g s v p ended opens (Flags s),
          (
            off,
            (
              takes_look g.call (key_of g.call) (value_of (slot v.known s.word).value) takes,
              record {
                sought = subst (λ (c : Call). IsSought v.known (key_of c) s) (sym ended.call) ended.sought;
                going = ended.goes off (opens off);
                plain = (flag, tag);
                equal = equal;
                takes = subst (λ (c : Call). Takes c (key_of c) (value_of (slot v.known s.word).value)) (sym ended.call) takes;
              },
            ),
          ),
        ),
      ))

  -- or to the tag of an edge that has TAG already
  pub opens_tag : s.equal ≡ true → flag_bit (word_of s.edge) ≡ 0 → tag_bit (word_of s.edge) ≡ 1
      → Takes g.call (key_of g.call) (value_of (slot v.known s.word).value) → g.struck ≡ false
      → Part z share (HasArrived z share g s v p) g (record g { next = Tags s s.side }) v v p On
  opens_tag equal flag tag takes off = opens_again z share g s v p ended
      (λ _. takes_changes g.call (key_of g.call) (value_of (slot v.known s.word).value) (found_by g s v.known) takes
      (found_value g s v.known ended.sought equal flag))
      (takes_look g.call (key_of g.call) (value_of (slot v.known s.word).value) takes) off tag

  -- an insert comes to publish its records
  pub opens_publish : (k x : ℕ) → g.call ≡ Insert k x → s.equal ≡ false → flag_bit (word_of s.edge) ≡ 0 → tag_bit (word_of s.edge) ≡ 0
      → g.struck ≡ false → Part z share (HasArrived z share g s v p) g (record g { next = Publishes s }) v v p On
  opens_publish k x is other flag tag off =
      let none : found_by g s v.known ≡ None = found_other g s v.known ended.sought other in
      let opens : g.struck ≡ false → changes (reply_at g.call (found_by g s v.known)) ≡ true =
      λ _. insert_added g.call k x (found_by g s v.known) is none in
      arrived_opens z share g s v p ended opens (Publishes s) (omega arith) refl
      (λ from free a. (
        opened_tries z share g s v p (Publishes s) from free a opens,
        (
          goes z share g s v p ended opens (Publishes s),
          (
            off,
            (
              k,
              (
                x,
                (
                  is,
                  (
                    record {
                      call = ended.call ∙ is;
                      sought = subst (λ (c : Call). IsSought v.known (key_of c) s) is ended.sought;
                      going = ended.goes off (opens off);
                      plain = (flag, tag);
                      other = λ same. false≢true (sym other ∙ (ended.sought.equal ∙ eq-eqb (slot v.known s.word).key (key_of g.call)
                          (same ∙ sym (ap key_of is))));
                    },
                    let r = (a.opened off (opens off)).1 in record {
                      place = r.0;
                      since = r.1.0;
                      within = r.1.1;
                      absent = ap (find (after (log_of v.order) r.0)) (sym (ap key_of is)) ∙ (r.1.2 ∙ none);
                    },
                  ),
                ),
              ),
            ),
          ),
        ),
      ))
