-- The turn in which an insert publishes its two records.
use Rattle.std.proofs.Common.{◌≡◌, ℕ, true, false, List, [], length, refl, sym, ap, ◌∙◌, subst}
use Rattle.std.proofs.Common.{Some, None, arith}
use Rattle.std.proofs.Math.Bool.{false≢true}
use Rattle.pp_link.specs.declared.layout.Sizes.{Sizes}
use Rattle.pp_model.specs.declared.Answer.TheVariants.{Said}
use Rattle.pp_model.specs.declared.Call.{Call}
use Rattle.pp_model.specs.declared.Call.TheVariants.{Insert}
use Rattle.pp_model.specs.declared.Reply.TheVariants.{Added}
use Rattle.pp_model.specs.declared.Turned.{Turned}
use Rattle.pp_rule.specs.Orders.{log_of}
use Rattle.pp_pool.specs.declared.fresh.Fresh.{Fresh}
use Rattle.pp_pool.specs.Taken.{one_fewer_out}
use Rattle.pp_base.specs.declared.purse.Purse.{Purse}
use Rattle.pp_calls.specs.Steps.{Stepped}
use Rattle.pp_shelf.specs.Runs.{map_sizes, steps_made}
use Rattle.pp_seek.specs.declared.seek.Sought.{Sought}
use Rattle.pp_trees.specs.Searches.{TreePass}
use Rattle.pp_trees.specs.Edges.{TreeView, publish_step}
use Rattle.pp_turns.specs.Tallies.{losing, lost_of, memory_of}
use Rattle.pp_turns.specs.Turns.{Since, Unplaced, Struck, WasAbsent}
use Rattle.pp_turns.proofs.Placing.{struck_on, struck_later}
use Rattle.pp_turns.proofs.Stretches.{saw_last, since_on}
use Rattle.pp_tree_turns.specs.Walked.{tree_reader, TreeTally}
use Rattle.pp_tree_turns.specs.Filling.{PublishesNext, NotPublished, Publishes as PublishesPair}
use Rattle.pp_tree_turns.proofs.Counting.{TakesEffect, struck_walk, not_published_walks, publish_strikes}
use Rattle.pp_tree_calls.specs.declared.going.TreeGoing.{TreeGoing}
use Rattle.pp_tree_calls.specs.declared.going.Next.{Next}
use Rattle.pp_tree_calls.specs.declared.going.Next.TheVariants.{Publishes}
use Rattle.pp_tree_calls.specs.Purses.{TwoRecords, HasOut, out_of}
use Rattle.pp_turns.specs.Answers.{is_look, spends_of}
use Rattle.pp_tree_calls.specs.Going.{IsLosing, Tries, Goes, Stands, IsUnder}
use Rattle.pp_tree_calls.specs.Answers.{MayEnd}
use Rattle.pp_tree_calls.specs.Turned.{Part, HasMissed, TreeTurned}
use Rattle.pp_tree_calls.proofs.Exchanged.{some_in, out_free, has_missed}
use Rattle.pp_tree_calls.proofs.Treading.{turned_by}

-- What is known before an insert publishes.
pub record MayPublish (z : Sizes) (g : TreeGoing) (s : Sought) (from now : TreeView) : Type 0 where
  pub tries : Tries (map_sizes z) g g.lost from now
  pub goes : Goes g now.known
  pub off : g.struck ≡ false
  pub key : ℕ
  pub value : ℕ
  pub call : g.call ≡ Insert key value
  pub next : PublishesNext now.known s key value
  pub absent : WasAbsent now.known.own.start key (log_of now.order)

pub may_publish : (z : Sizes) (g : TreeGoing) (s : Sought) (from now : TreeView) → g.next ≡ Publishes s → Stands z g g.next from now
    → MayPublish z g s from now
may_publish z g s from now at stands = let k = subst (λ (n : Next). Stands z g n from now) at stands in record {
  tries = k.0;
  goes = k.1.0;
  off = k.1.1.0;
  key = k.1.1.1.0;
  value = k.1.1.1.1.0;
  call = k.1.1.1.1.1.0;
  next = k.1.1.1.1.1.1.0;
  absent = k.1.1.1.1.1.1.1;
}

pub insert_changes : (z : Sizes) (g : TreeGoing) (s : Sought) (from now : TreeView) → MayPublish z g s from now → is_look g.call ≡ false
insert_changes z g s from now m = ap is_look m.call

-- equal numbers are those of equal records
pub same_fresh : (a b : Fresh × Fresh) → a.0.number ≡ b.0.number → a.1.number ≡ b.1.number → a ≡ b
same_fresh a b first second = let one : a.0 ≡ b.0 = ap (λ (n : ℕ). fresh n) first in let two : a.1 ≡ b.1 = ap (λ (n : ℕ). fresh n) second in
    ap (λ (x : Fresh). both x a.1) one ∙ ap (λ (x : Fresh). both b.0 x) two
  where
    fresh : ℕ → Fresh
    fresh n = record { number = n }

    both : Fresh → Fresh → Fresh × Fresh
    both x y = (x, y)

-- the call, by the pair that it is to add
pub call_by_pair : (call : Call) (k v a b : ℕ) → call ≡ Insert k v → a ≡ k → b ≡ v → call ≡ Insert a b
call_by_pair call k v a b is key value = is ∙ (ap (λ (n : ℕ). Insert n v) (sym key) ∙ ap (λ (n : ℕ). Insert a n) (sym value))

pub next_by_pair : (q : TreePass) (s : Sought) (k v a b : ℕ) → a ≡ k → b ≡ v → PublishesNext q s k v → PublishesNext q s a b
next_by_pair q s k v a b key value n = subst (λ (x : ℕ). PublishesNext q s a x) (sym value)
    (subst (λ (x : ℕ). PublishesNext q s x v) (sym key) n)

-- both records are spent
pub spent_out : (q : TreePass) (p p' : Purse) (records : TwoRecords) → records ≡ None → p' ≡ one_fewer_out (one_fewer_out p) → p.taken ≡ 2
    → HasOut q p' records
spent_out q p p' records bare spent two = subst (λ (r : TwoRecords). HasOut q p' r) (sym bare)
    (ap (λ (x : Purse). x.taken) spent ∙ omega (arith, two))

-- the same with the records that the call has
abbrev pub with_records : TreeGoing → Fresh × Fresh → TreeGoing
with_records g f = record g { records = Some f }

module _ (z : Sizes) (share : ℕ) (g : TreeGoing) (s : Sought) (f : Fresh × Fresh) (v u : TreeView) (p : Purse)
    (at : g.next ≡ Publishes s) where
  -- The edge had become another one, and the records are back.
  pub publish_missed : (f' : Fresh × Fresh) → f' ≡ f → NotPublished z v u → (p' : Purse) → p' ≡ p → (from : TreeView) (free : List ℕ)
      → IsUnder z share (with_records g f) v p from free → HasMissed z share (with_records g f') u p' from free
  publish_missed f' is e p' same from free under =
      subst (λ (x : Fresh × Fresh). HasMissed z share (with_records g x) u p' from free) (sym is)
      (let m = may_publish z (with_records g f) s from v at under.stands in
      has_missed z share (with_records g f) v u p p' from free under (insert_changes z (with_records g f) s from v m) m.tries
      (not_published_walks z g.call m.tries.counts.tally v u m.tries.counts.calm e) e.unplaced
      (ap (λ (q : TreePass). q.own.start) e.same.is) (some_in e.before _ _ (steps_made v u) e.names.named)
      (ap (λ (q : TreePass). q.sizes) e.same.is) e.same.numbers (ap (λ (x : Purse). x.free) same) (ap (λ (x : Purse). x.taken) same))

  -- the call goes on then, with its records
  pub publish_goes : (f' : Fresh × Fresh) → NotPublished z v u → Goes (with_records g f) v.known → Goes (with_records g f') u.known
  publish_goes f' e k = record {
    call = ap (λ (q : TreePass). q.own.call) e.same.is ∙ k.call;
    going = ap (λ (q : TreePass). q.own.going) e.same.is ∙ k.going;
  }

  pub publish_out : (f' : Fresh × Fresh) → f' ≡ f → NotPublished z v u → (p' : Purse) → p' ≡ p → HasOut v.known p (Some f)
      → HasOut u.known p' (Some f')
  publish_out f' is e p' same out = subst (λ (x : Fresh × Fresh). HasOut u.known p' (Some x)) (sym is)
      (out_free (Some f) v.known u.known p p' e.same.numbers (ap (λ (x : Purse). x.free) same) (ap (λ (x : Purse). x.taken) same) out)

  pub missed_turned : (f' : Fresh × Fresh) → f' ≡ f → (e : NotPublished z v u) → (q : Purse) → q ≡ p → (g' : TreeGoing)
      (w : TreeView) (p' : Purse)
      (result : Turned) → Part z share (HasMissed z share (with_records g f') u q) (with_records g f') g' u w p' result
      → g.struck ≡ false → TreeTurned z share (with_records g f) g' v w p p' result
  missed_turned f' is e q same g' w p' result part off =
      turned_by z share (with_records g f) (with_records g f') g' v u w p p' result (HasMissed z share (with_records g f') u q)
      refl refl refl refl (λ on. on) (λ no on. absurd (false≢true (sym off ∙ on))) e.names.stepped
      (some_in e.before _ _ (steps_made v u) e.names.named) e.names.stands
      (λ from free under. publish_missed f' is e q same from free under) part

  -- The pair was added, and the insert may be answered.
  pub publish_may : (k value : ℕ) → g.call ≡ Insert k value → g.records ≡ None → PublishesPair k value v u → (p' : Purse) → p'.free ≡ p.free
      → u.known.sizes ≡ v.known.sizes → (from : TreeView) (free : List ℕ) → IsUnder z share (with_records g f) v p from free
      → MayEnd z share g.races g.call g.records (Said Added) g.lost from u free p'
  publish_may k value call bare e p' same sizes from free under =
      subst (λ (n : ℕ). MayEnd z share g.races g.call g.records (Said Added) n from u free p') lost record {
        by = record {
          start = v.known.own.start;
          memory = struck_walk z g.call l.memory;
          early = l.lost;
          later = t.later;
          since = since_on tree_reader (map_sizes z) g.call v.known.own.start (losing l.memory l.lost) _ from v u since t.ran;
          few = let below = under.below in omega (arith, below, lost);
          struck = struck_on g.call Added from v u since.went.number since.went.order (m.tries.untaken m.off).1
              (subst (λ (c : Call). Struck c Added v u) (sym call) e.struck);
          took = λ y is. absurd cc;
        };
        last = saw_last from v u since.went e.names.stepped (some_in e.before _ _ (steps_made v u) e.names.named);
        sizes = sizes ∙ under.carries.sizes;
        kept = let few = under.carries.kept in let long = ap (λ y. length y.items) same in let none = ap out_of bare in
            let spends = ap (spends_of 2) call in omega arith;
        alone = λ looks. absurd (false≢true (sym (insert_changes z (with_records g f) s from v m) ∙ looks));
      }
    where
      m : MayPublish z (with_records g f) s from v
      m = may_publish z (with_records g f) s from v at under.stands

      l : IsLosing m.tries.counts.tally
      l = (m.tries.untaken m.off).0

      lost : l.lost ≡ g.lost
      lost = sym (ap (λ (y : TreeTally). lost_of y) l.is) ∙ m.tries.counts.lost_is

      calm : l.memory.coming ≡ false
      calm = sym (ap (λ (y : TreeTally). (memory_of y).coming) l.is) ∙ m.tries.counts.calm

      t : TakesEffect (map_sizes z) g.call l.memory (struck_walk z g.call l.memory) l.lost
          (record { kind = publish_step; place = e.place; word = e.word }) [] v u
      t = publish_strikes z g.call l.memory l.lost k value v u calm e

      since : Since tree_reader (map_sizes z) g.call v.known.own.start (losing l.memory l.lost) from v
      since = subst (λ (y : TreeTally). Since tree_reader (map_sizes z) g.call v.known.own.start y from v) l.is m.tries.counts.since

  -- and is answered
  pub added_turned : (k value : ℕ) → g.call ≡ Insert k value → g.records ≡ None → (e : PublishesPair k value v u) → (q : Purse)
      → q.free ≡ p.free
      → u.known.sizes ≡ v.known.sizes → (g' : TreeGoing) (w : TreeView) (p' : Purse) (result : Turned) → Stepped u w → Unplaced u w
      → Part z share (λ from free. MayEnd z share g.races g.call g.records (Said Added) g.lost from u free q)
      (record g { struck = true }) g' u w p' result
      → TreeTurned z share (with_records g f) g' v w p p' result
  added_turned k value call bare e q same sizes g' w p' result stepped none part =
      turned_by z share (with_records g f) (record g { struck = true }) g' v u w p p' result
      (λ from free. MayEnd z share g.races g.call g.records (Said Added) g.lost from u free q) refl refl refl refl (λ on. refl)
      (λ off on. (
        Added,
        struck_later g.call Added v u w e.names.stepped.number stepped.order
            (subst (λ (c : Call). Struck c Added v u) (sym call) e.struck) none,
      )) e.names.stepped
      (some_in e.before _ _ (steps_made v u) e.names.named) e.names.stands
      (λ from free under. publish_may k value call bare e q same sizes from free under) part
