-- The turn in which a remove or a cut tries to detach its record, and is answered.
use Rattle.std.proofs.Common.{◌≡◌, ℕ, ◌+◌, ◌*◌, ◌<◌, ◌≤◌, true, false, List, [], ◌∷◌, ◌++◌, map}
use Rattle.std.proofs.Common.{length, refl, sym, ap, ◌∙◌}
use Rattle.std.proofs.Common.{subst, inl, inr, ⊎_elim, Option, Some, None, arith, length-append, lt-ltb, append_assoc, append-nil}
use Rattle.std.specs.Prelude.{nat_lt}
use Rattle.std.proofs.Math.Bool.{false≢true}
use Rattle.pp_calls.specs.PoolViews.{pool_view}
use Rattle.pp_link.specs.declared.layout.Sizes.{Sizes}
use Rattle.pp_link.specs.Links.{word_of, target}
use Rattle.pp_link.specs.Places.{frontier_place}
use Rattle.pp_pool.specs.declared.fresh.Fresh.{Fresh}
use Rattle.pp_model.specs.declared.Answer.TheVariants.{Said}
use Rattle.pp_model.specs.declared.Reply.TheVariants.{Took}
use Rattle.pp_model.specs.declared.Turned.{Turned}
use Rattle.pp_model.specs.declared.Turned.TheVariants.{Done}
use Rattle.pp_model.specs.declared.steps.Step.{Step}
use Rattle.pp_rule.specs.declared.views.Chain.{Chain}
use Rattle.pp_rule.specs.Lists.{IsIn, times}
use Rattle.pp_rule.specs.Rule.{number_of}
use Rattle.pp_rule.specs.declared.views.PrivateRecord.{PrivateRecord}
use Rattle.pp_rule.specs.Orders.{entries_of, replayed, clear_step}
use Rattle.pp_rule.specs.Causes.{memory_after}
use Rattle.pp_rule.specs.Steps.{MadeQuietStep, clearing}
use Rattle.pp_rule.proofs.Made.{known_after}
use Rattle.pp_rule.proofs.Put.{in_nil, in_cases, in_first, in_right, in_later}
use Rattle.pp_base.specs.declared.purse.Purse.{Purse}
use Rattle.pp_base.specs.declared.source.Side.TheVariants.{Left}
use Rattle.pp_base.specs.Named.{NamedStep, name_of, misses, guards, detaches, unguards}
use Rattle.pp_base.specs.Sources.{source_place}
use Rattle.pp_calls.proofs.Growing.{stepped_none, stepped_made, stepped_both}
use Rattle.pp_calls.proofs.Remaining.{stands_made}
use Rattle.pp_detached.specs.Gone.{AreGone as NoneReached}
use Rattle.pp_shelf.specs.Runs.{map_sizes, steps_made}
use Rattle.pp_unlink.specs.Invalidation.{SameFree}
use Rattle.pp_unlink.specs.Unlinking.{Unlinks, Exchanges, Misses}
use Rattle.pp_unlink.specs.declared.unlinking.Unlink.{Unlink}
use Rattle.pp_unlink.specs.declared.unlinking.Unlink.TheVariants.{Detached}
use Rattle.pp_lists.specs.Lists.{ListPass, list_chain, list_frozen, list_forget}
use Rattle.pp_lists.specs.Turns.{ListView}
use Rattle.pp_lists.specs.Losses.{list_reader}
use Rattle.pp_turns.proofs.Answering.{told_as}
use Rattle.pp_turns.specs.Tallies.{effected}
use Rattle.pp_turns.proofs.Aside.{aside_one, counts_effected}
use Rattle.pp_turns.proofs.Detached.{was_detached}
use Rattle.pp_turns.proofs.Placing.{unplaced_made, unplaced_on, struck_later}
use Rattle.pp_turns.proofs.Stretches.{since_on, saw_last, steps_named, steps_both, stretch_both, steps_none}
use Rattle.pp_turns.proofs.Stretches.{own_before, ran_both, ran_as}
use Rattle.pp_walk.specs.Effects.{Tried, DetachesSo}
use Rattle.pp_list.specs.declared.going.ListGoing.{ListGoing}
use Rattle.pp_list.specs.declared.going.Marked.{Marked}
use Rattle.pp_list.specs.declared.going.Next.{Next}
use Rattle.pp_list.specs.declared.going.Next.TheVariants.{Unlinks as ToUnlink}
use Rattle.pp_list.specs.Causes.{IsListed, taken_by, effect_place, number_at}
use Rattle.pp_list.specs.Purses.{HasOut}
use Rattle.pp_list.specs.Meant.{list_meaning, list_words}
use Rattle.pp_list.specs.Detaching.{MadeAfter, AreGone, HasMissed, TriesToDetach}
use Rattle.pp_list.specs.Going.{HasTaken, MayUnlink, Stands, IsUnder, is_after}
use Rattle.pp_list.specs.Answers.{MayEnd, Ends}
use Rattle.pp_list.specs.Turned.{SameGoing, ListTurned}
use Rattle.pp_list.proofs.Calm.{named_after}
use Rattle.pp_list.proofs.Closing.{effect_front, taken_settled}
use Rattle.pp_list.proofs.Reading.{list_over}
use Rattle.pp_list.proofs.Trying.{flush_steps, long_behind, tried_long}

-- steps that tried something, after the call took effect
after_tried : (z : Sizes) (lost : ℕ) (v u : ListView) (t : Tried lost v u) → z ≡ v.known.sizes → 0 < length (steps_made v u)
    → MadeAfter z v u
after_tried z lost v u t z_is long = record {
  stepped = stepped_made t.steps v u t.did;
  some_made = long;
  stands = λ own s. stands_made t.steps v u t.did own s;
  unplaced = unplaced_made t.steps v u t.did;
  lost = lost;
  counted = λ call m n early later. named_after z call lost t.steps v u t.did
      (λ earlier. t.loses (map_sizes z) earlier (ap (λ (s : Sizes). s.passes) z_is)) m n early later;
}

-- with a clear of a walk word behind them
after_clear : (z : Sizes) (i place : ℕ) (v u w : ListView) → MadeAfter z v u
    → MadeQuietStep clear_step place 0 0 (clearing list_forget i u.known) u w → MadeAfter z v w
after_clear z i place v u w a m = let b = aside_one z u w m refl refl in record {
  stepped = stepped_both v u w a.stepped b.stepped;
  some_made = let e = ap (λ (l : List Step). length l) (stretch_both v u w a.stepped b.stepped)
      ∙ length-append (steps_made v u) (steps_made u w) in let long = a.some_made in omega arith;
  stands = λ own s. b.stands own (a.stands (own_before u w b.stepped own) s);
  unplaced = unplaced_on v u w a.stepped.number a.unplaced b.unplaced;
  lost = a.lost;
  counted = λ call m n early later. let x = a.counted call m n early later in
      let last : List NamedStep = memory_after list_reader (map_sizes z) call x.0 (steps_made u w) in
      let y = counts_effected list_reader z (list_over z) call u w b x.0 (n + a.lost) early (later ++ steps_made v u) in (
        last,
        ran_as list_reader (map_sizes z) call (effected m n early later) _ _ v w
            (ap (λ (l : List Step). effected last (n + a.lost) early l) (append_assoc later (steps_made v u) (steps_made u w)
            ∙ ap (λ (l : List Step). later ++ l) (sym (stretch_both v u w a.stepped b.stepped))))
            (ran_both list_reader (map_sizes z) call (effected m n early later) (effected x.0 (n + a.lost) early (later ++ steps_made v u))
            _ v u w x.1 y),
      );
}

-- the try that detached
pub tries_hit : (z : Sizes) (m : Marked) (i place : ℕ) (v u w : ListView) (p q r : Purse) → z ≡ v.known.sizes → length v.known.chains ≤ 4
    → DetachesSo z m.anchor (word_of m.first) (word_of m.next) v u true
    → MadeQuietStep clear_step place 0 0 (clearing list_forget i u.known) u w
    → NoneReached 1 z (list_words.opening (map_sizes z)) w → SameFree p q → r ≡ q → TriesToDetach z 0 v w p r
unfolding after_clear after_tried
tries_hit z m i place v u w p q r z_is few d made gone free same = record {
  after = after_clear z i place v u w (after_tried z 0 v u hit.2 z_is long) made;
  lost_is = refl;
  comes = inl (λ n here. gone.gone chain n
      (subst (λ (cs : List Chain). IsIn chain cs) (sym (ap (λ (q : ListPass). q.chains) known_w ∙ ap (λ (q : ListPass). q.chains) x.known))
      (in_right chain x.between.known.chains (chain ∷ []) (in_first chain []))) here);
  free = subst (SameFree p) (sym same) free;
  start = ap (λ (q : ListPass). q.own.start) known_w ∙ ap (λ o. o.start) d.own;
  owned = ap (λ (q : ListPass). q.owned) known_w ∙ d.owned;
}
  where
    hit : (d.answer ≡ Detached) × (u.known.walk ≡ v.known.walk) × Tried 0 v u
    hit = d.hit refl

    x : Exchanges 1 z list_frozen list_chain m.anchor Left (word_of m.first) (word_of m.next) v u
    x = subst (λ (a : Unlink). Unlinks 1 z list_frozen list_chain m.anchor Left (word_of m.first) (word_of m.next) v u a) hit.0 d.unlinks

    long : 0 < length (steps_made v u)
    long = long_behind z v x.between u few x.flushed (guards (frontier_place z v.known.number x.guard) (target (word_of m.next)))
        (detaches (source_place z v.known m.anchor Left) (word_of m.first) ∷ []) x.steps

    chain : Chain
    chain = list_chain v.known.walk v.known.own x.guard (word_of m.first) (word_of m.next)

    known_w : w.known ≡ clearing list_forget i u.known
    known_w = known_after clear_step place 0 0 [] [] (clearing list_forget i u.known) u w made

-- a step by its name
step_named : (n : NamedStep) (xs : List Step) → IsIn n (map name_of xs) → (s : Step) × (IsIn s xs × (name_of s ≡ n))
step_named n [] i = absurd (in_nil n i)
step_named n (x ∷ xs) i = ⊎_elim (λ (here : n ≡ name_of x). (x, (in_first x xs, sym here)))
    (λ (later : IsIn n (map name_of xs)). let y = step_named n xs later in (y.0, (in_later y.0 x xs y.1.0, y.1.1)))
    (in_cases n (name_of x) (map name_of xs) i)

-- the try whose exchange failed
pub tries_miss : (z : Sizes) (m : Marked) (v u : ListView) (p q : Purse) → z ≡ v.known.sizes → length v.known.chains ≤ 4
    → DetachesSo z m.anchor (word_of m.first) (word_of m.next) v u false → SameFree p q → TriesToDetach z 1 v u p q
unfolding after_tried
tries_miss z m v u p q z_is few d free = let miss = d.missed refl in
    let x : Misses 1 z list_frozen list_chain m.anchor Left (word_of m.first) (word_of m.next) v u (word_of miss.0) =
    subst (λ (a : Unlink). Unlinks 1 z list_frozen list_chain m.anchor Left (word_of m.first) (word_of m.next) v u a) miss.1.0 d.unlinks in
    let flush = flush_steps z v x.between few x.flushed in let place : ℕ = source_place z v.known m.anchor Left in
    let guard : ℕ = frontier_place z v.known.number x.guard in
    let names : List NamedStep = guards guard (target (word_of m.next)) ∷ misses place (word_of miss.0) ∷ unguards guard ∷ [] in
    let found = step_named (misses place (word_of miss.0)) (steps_made x.between u)
    (subst (λ (l : List NamedStep). IsIn (misses place (word_of miss.0)) l) (sym (steps_named names x.between u x.steps))
    (in_later (misses place (word_of miss.0)) (guards guard (target (word_of m.next))) (misses place (word_of miss.0) ∷ unguards guard ∷ [])
    (in_first (misses place (word_of miss.0)) (unguards guard ∷ [])))) in
    let parts = stretch_both v x.between u (stepped_made flush.0 v x.between flush.1.made) (stepped_made names x.between u x.steps) in
    let past : 17 * z.passes < place = subst (λ (s : Sizes). 17 * s.passes < place) (sym z_is) d.past in record {
      after = after_tried z 1 v u miss.1.1 z_is (tried_long z v u miss.1.1 (ap (λ (s : Sizes). s.passes) z_is));
      lost_is = refl;
      comes = inr (
        found.0,
        (
          subst (λ (l : List Step). IsIn found.0 l) (sym parts) (in_right found.0 (steps_made v x.between) (steps_made x.between u)
              found.1.0),
          ap (λ (n : NamedStep). n.kind) found.1.1,
          ap (λ (n : NamedStep). nat_lt (17 * z.passes) n.place) found.1.1 ∙ lt-ltb (17 * z.passes) place past,
        ),
      );
      free = free;
      start = ap (λ o. o.start) d.own;
      owned = d.owned;
    }

module _ (z : Sizes) (share : ℕ) (g : ListGoing) (m : Marked) (v : ListView) (p : Purse) (at : g.next ≡ ToUnlink m) (from : ListView)
    (free : List ℕ) (x : IsUnder z share g v p from free) where
  pub at_unlink : (n : ℕ) × (HasTaken z g.call g.races g.lost n m.value from v × MayUnlink z v.known m n)
  at_unlink = subst (λ (n : Next). Stands z g.call g.races g.lost n from v) at x.stands

  pub struck_before : g.struck ≡ true
  struck_before = x.struck ∙ ap is_after at

-- what is out is out still
pub out_still : (fresh : Option Fresh) (v u : ListView) (p q : Purse) → u.known.owned ≡ v.known.owned → SameFree p q
    → HasOut v.known p fresh
    → HasOut u.known q fresh
out_still None v u p q owned same o = same.taken ∙ o
out_still (Some f) v u p q owned same o = (
  subst (λ (l : List ℕ). times f.number l < times f.number (map number_of u.known.owned)) (sym (ap (λ y. y.items) same.free))
      (subst (λ (ds : List PrivateRecord). times f.number p.free.items < times f.number (map number_of ds)) (sym owned) o.0),
  same.taken ∙ o.1,
)

-- It is answered.
module _ (z : Sizes) (share : ℕ) (g : ListGoing) (m : Marked) (v u : ListView) (p q : Purse) (at : g.next ≡ ToUnlink m)
    (sizes : u.known.sizes ≡ v.known.sizes) (missed : ℕ) (t : TriesToDetach z missed v u p q) where
  may_end : (from : ListView) (free : List ℕ) → IsUnder z share g v p from free
      → MayEnd z share g.races g.call g.fresh (Said (Took m.value)) (g.lost + t.after.lost) from u free q
  may_end from free x = let k = at_unlink z share g m v p at from free x in let h = k.1.0 in
      let r = t.after.counted g.call h.memory g.lost h.early h.later in
      let later : List Step = h.later ++ steps_made v u in
      let since = since_on list_reader (map_sizes z) g.call v.known.own.start (effected h.memory g.lost h.early h.later)
      (effected r.0 (g.lost + t.after.lost) h.early later) from v u h.since r.1 in
      let n_is : taken_by (map_sizes z) g.call (steps_made from u) ≡ k.0 =
      ap (λ (l : List Step). number_at (map_sizes z) (effect_place (map name_of l))) (steps_both from v u h.since.went t.after.stepped)
      ∙ (ap (number_at (map_sizes z)) (effect_front g.call (map_sizes z) [] 0 g.lost h.early h.memory h.later (steps_made from v)
      (steps_made v u)
      h.since.read) ∙ h.taken) in record {
        by = record {
          start = v.known.own.start;
          memory = r.0;
          early = h.early;
          later = later;
          since = since;
          few = h.few;
          struck = struck_later g.call (Took m.value) from v u h.since.went.number t.after.stepped.order h.struck t.after.unplaced;
          took = λ y is. (
            ⊎_elim
                (λ (gone : AreGone z v u). inl (was_detached (IsListed (map_sizes z)) (list_words.opening (map_sizes z))
                (taken_by (map_sizes z) g.call (steps_made from u)) u u later later (stepped_none u u refl)
                (sym (append-nil later) ∙ ap (λ (l : List Step). later ++ l) (sym (steps_none u u refl)))
                (subst (λ (n : ℕ). IsListed (map_sizes z) (replayed (list_words.opening (map_sizes z)) (entries_of u.order)) n → ⊥)
                (sym n_is)
                (gone k.0 k.1.1.member))))
                (λ (miss : HasMissed z v u). inr (miss.0, (in_right miss.0 h.later (steps_made v u) miss.1.0, miss.1.1, miss.1.2)))
                t.comes,
            taken_settled (map_sizes z) g.call r.0 (g.lost + t.after.lost) h.early later (steps_made from u) since.read,
          );
        };
        last = saw_last from v u h.since.went t.after.stepped t.after.some_made;
        sizes = sizes ∙ x.carries.sizes;
        kept = let kept = x.carries.kept in let e = ap (λ f. length f.items) t.free.free in omega arith;
        alone = λ looks. absurd (false≢true (sym h.changing ∙ looks));
      }

  pub unlinked : (g' : ListGoing) (w : ListView) (p' : Purse) (result : Turned) → SameGoing g g' → g'.lost ≡ g.lost + missed
      → g'.struck ≡ g.struck
      → result ≡ Done (Said (Took m.value))
      → Ends z share g.races g.call g.fresh (Said (Took m.value)) u w q p' → (from : ListView) (free : List ℕ) → IsUnder z share g v p from
      free
      → ListTurned z share g g' v w p p' result
  unlinked g' w p' result same lost_now struck is e from0 free0 x0 =
      subst (λ (r : Turned). ListTurned z share g g' v w p p' r) (sym is) record {
        stepped = stepped_both v u w t.after.stepped e.calm.stepped;
        some_made = let n = ap (λ (l : List Step). length l) (stretch_both v u w t.after.stepped e.calm.stepped)
            ∙ length-append (steps_made v u) (steps_made u w) in let long = t.after.some_made in omega arith;
        stands = λ own s. e.calm.stands own (t.after.stands (own_before u w e.calm.stepped own) s);
        same = same;
        stays = λ was. struck ∙ was;
        strikes = λ was now. absurd (false≢true (sym was ∙ struck_before z share g m v p at from0 free0 x0));
        struck = struck ∙ struck_before z share g m v p at from0 free0 x0;
        went = tt;
        goes_on = tt;
        answered = λ from free x stands. told_as list_meaning (map_sizes z) g.call g.races (pool_view from free share)
            (pool_view w p'.free.items share) (Said (Took m.value)) (g.lost + t.after.lost) g'.lost
            (ap (λ (n : ℕ). g.lost + n) t.lost_is ∙ sym lost_now)
            (e.answered from free (g.lost + t.after.lost) (may_end from free x) stands);
      }
