-- The steps of a try to detach a chain.
use Rattle.std.proofs.Common.{◌≡◌, ◌≢◌, ℕ, zero, suc, ◌-◌, ◌<◌, Bool, List, [], ◌∷◌, map, length, refl, sym, ap, ◌∙◌, subst}
use Rattle.std.proofs.Common.{arith}
use Rattle.std.proofs.Math.Bool.{false≢true}
use mathlib.Core.Option.{some, some-injective}
use lib.ListN.{get_elem?}
use Rattle.atomic_table.specs.declared.shared.Seat.{Seat}
use Rattle.pp_link.specs.declared.layout.Sizes.{Sizes}
use Rattle.pp_link.specs.Links.{target}
use Rattle.pp_link.specs.Places.{frontier_place}
use Rattle.pp_rule.specs.Lists.{IsIn, rest_of}
use Rattle.pp_rule.specs.declared.views.Chain.{Chain}
use Rattle.pp_rule.specs.declared.views.WalkSlot.{WalkSlot}
use Rattle.pp_rule.specs.declared.views.PassState.{PassState}
use Rattle.pp_rule.specs.declared.views.SeatView.{SeatView}
use Rattle.pp_rule.specs.Orders.{detach_step}
use Rattle.pp_rule.specs.Steps.{IsUnused, with_frontier, detaching, MadeQuietStep}
use Rattle.pp_rule.proofs.Made.{known_after}
use Rattle.pp_base.specs.declared.purse.InHand.{InHand}
use Rattle.pp_base.specs.declared.purse.Purse.{Purse}
use Rattle.pp_base.specs.declared.source.Side.{Side}
use Rattle.pp_base.specs.declared.source.Place.{Place}
use Rattle.pp_base.specs.declared.source.Place.TheVariants.{Head, Walk}
use Rattle.pp_base.specs.Passes.{known, view, in_hand_of, IsAtRest}
use Rattle.pp_base.specs.Sources.{source_place, learning_at}
use Rattle.pp_base.specs.Chains.{GuardedBy, DetachedAt, Unguarded}
use Rattle.pp_base.specs.Named.{guards, unguards, detaches, misses, MadeOne}
use Rattle.pp_base.proofs.Named.{plain_one}
use Rattle.pp_base.proofs.Learning.{SameButWalk, learns_walk, frontier_learning}
use Rattle.pp_unlink.specs.Invalidation.{Flushed}
use Rattle.pp_unlink.specs.Unlinking.{GuardsNone, SameHeld, MayFlush, Exchanges, Misses}
use Rattle.pp_unlink.proofs.Settling.{rest_missed}

kept : (cs : List Chain) (k : ℕ) (c : Chain) → get_elem? cs k ≡ some c → IsIn (in_hand_of c) (map in_hand_of cs)
kept [] k c at = absurd cc
kept (d ∷ cs) zero c at = (0, ap some (ap in_hand_of (some-injective d c at)))
kept (d ∷ cs) (suc k) c at = let later = kept cs k c at in (suc later.0, later.1)

-- a frontier word that guards none of the chains that the pass keeps guards none that it has in hand
pub unused_of : {W : Type 0} (q : PassState W) (hs : List InHand) (j : ℕ) → map in_hand_of q.chains ≡ hs → GuardsNone j hs → IsUnused j q
unused_of q hs j same none c i = none (in_hand_of c) (subst (λ (l : List InHand). IsIn (in_hand_of c) l) same (kept q.chains i.0 c i.1))

module _ {W : Type 0} where
  -- where a link stands depends on what the pass holds alone
  pub place_same : (z : Sizes) (q q' : PassState W) (at : Place) (side : Side) → q'.walk ≡ q.walk
      → source_place z q' at side ≡ source_place z q at side
  place_same z q q' (Head h) side same = refl
  place_same z q q' (Walk i) side same = ap (λ (walk : List WalkSlot). source_place z (record q { walk = walk }) (Walk i) side) same

module _ {E A W : Type 0} where
  -- what is in hand and held after some chains were flushed
  pub flushed_length : (sides : ℕ) (z : Sizes) (n : ℕ) (v w : SeatView E A W) → Flushed sides z n v w
      → length w.known.chains ≡ length v.known.chains - n
  flushed_length sides z zero v w is = ap (λ (x : SeatView E A W). length x.known.chains) is ∙ omega arith
  flushed_length sides z (suc n) v w flushed = let rest = flushed_length sides z n flushed.0 w flushed.1.1 in
      let one : length flushed.0.known.chains ≡ length v.known.chains - 1 =
      ap (λ (q : PassState W). length q.chains) flushed.1.0.known ∙ less v.known.chains in omega (arith, rest, one)
    where
      less : (cs : List Chain) → length (rest_of cs) ≡ length cs - 1
      less [] = refl
      less (c ∷ cs) = omega arith

  pub flushed_held : (sides : ℕ) (z : Sizes) (n : ℕ) (v w : SeatView E A W) → Flushed sides z n v w → SameHeld v.known w.known
  flushed_held sides z zero v w is = subst (λ (x : SeatView E A W). SameHeld v.known x.known) (sym is)
      record { number = refl; walk = refl; own = refl }
  flushed_held sides z (suc n) v w flushed = let rest = flushed_held sides z n flushed.0 w flushed.1.1 in
      let one = flushed.1.0.known in record {
        number = rest.number ∙ ap (λ q. q.number) one;
        walk = rest.walk ∙ ap (λ q. q.walk) one;
        own = rest.own ∙ ap (λ q. q.own) one;
      }

  module _ (sides : ℕ) (z : Sizes) (frozen : ℕ → Bool) (chain : List WalkSlot → W → ℕ → ℕ → ℕ → Chain) (at : Place)
      (side : Side) (first new guard : ℕ)
      (s s1 s2 s3 : Seat Unit (SeatView E A W)) (flushed : MayFlush sides z (view s) (view s1)) (held : SameHeld (known s) (known s1))
      (low : guard < 4) (unused : IsUnused guard (known s1)) (guarded : GuardedBy z guard (target new) s1 s2) where
    abbrev place : ℕ
    place = source_place z (known s) at side

    guarded_known : known s2 ≡ with_frontier guard (target new) (known s1)
    guarded_known = known_after _ _ _ _ _ _ _ (view s1) (view s2) guarded

    guards_one : MadeOne (guards (frontier_place z (known s).number guard) (target new)) (view s1) (view s2)
    guards_one = subst (λ (p : ℕ). MadeOne (guards (frontier_place z p guard) (target new)) (view s1) (view s2)) held.number
        (plain_one (guards (frontier_place z (known s1).number guard) (target new)) (with_frontier guard (target new) (known s1))
        (view s1) (view s2) refl refl guarded)

    place_is : source_place z (known s2) at side ≡ place
    place_is = place_same z (known s) (known s2) at side (ap (λ q. q.walk) guarded_known ∙ held.walk)

    abbrev taken : Chain
    taken = chain (known s).walk (known s).own guard first new

    pub taken_is : chain (known s2).walk (known s2).own guard first new ≡ taken
    taken_is = ap (λ (walk : List WalkSlot). chain walk (known s2).own guard first new) (ap (λ q. q.walk) guarded_known ∙ held.walk)
        ∙ ap (λ (own : W). chain (known s).walk own guard first new) (ap (λ q. q.own) guarded_known ∙ held.own)

    pub exchanged_known : (found : ℕ) → DetachedAt z frozen chain at side guard first new found s2 s3 → found ≡ first
        → known s3 ≡ detaching taken (with_frontier guard (target new) (known s1))
    exchanged_known found detached hit = known_after _ _ _ _ _ _ _ (view s2) (view s3) (detached.same hit)
        ∙ (ap (λ (c : Chain). detaching c (known s2)) taken_is ∙ ap (λ (q : PassState W). detaching taken q) guarded_known)

    pub exchanges : (found : ℕ) → DetachedAt z frozen chain at side guard first new found s2 s3 → found ≡ first
        → Exchanges sides z frozen chain at side first new (view s) (view s3)
    exchanges found detached hit = let made = detached.same hit in record {
      between = view s1;
      flushed = flushed;
      guard = guard;
      guard_low = low;
      unused = unused;
      steps = (
        view s2,
        (
          guards_one,
          (
            view s3,
            (
              subst (λ (k : ℕ). MadeOne (detaches k first) (view s2) (view s3)) place_is
                  (subst (λ (w : ℕ). MadeOne (detaches (source_place z (known s2) at side) w) (view s2) (view s3)) hit record {
                    known = detaching (chain (known s2).walk (known s2).own guard first new) (known s2);
                    left = new;
                    number = refl;
                    owned = λ _. refl;
                    leaves = λ bad. absurd (false≢true (sym bad));
                    made = made;
                  }),
              refl,
            ),
          ),
        ),
      );
      known = exchanged_known found detached hit;
      exchange = record {
        then = view s2;
        earlier = (view s2, (guards_one, refl));
        known = detaching (chain (known s2).walk (known s2).own guard first new) (known s2);
        made = subst (λ (k : ℕ). MadeQuietStep detach_step k first new
            (detaching (chain (known s2).walk (known s2).own guard first new) (known s2)) (view s2) (view s3)) place_is
            (subst (λ (w : ℕ). MadeQuietStep detach_step (source_place z (known s2) at side) w new
            (detaching (chain (known s2).walk (known s2).own guard first new) (known s2)) (view s2) (view s3)) hit made);
      };
    }

    -- what the pass knows after the exchange that found another word
    missed_at : (found : ℕ) → DetachedAt z frozen chain at side guard first new found s2 s3 → found ≢ first
        → known s3 ≡ learning_at frozen at side found (known s2)
    missed_at found detached other = known_after _ _ _ _ _ _ _ (view s2) (view s3) (detached.other other)

    pub missed_known : (found : ℕ) (p : Purse) (s4 : Seat Unit (SeatView E A W))
        → DetachedAt z frozen chain at side guard first new found s2 s3
        → found ≢ first → Unguarded z guard s3 s4 → IsAtRest (known s1) p → known s4 ≡ learning_at frozen at side found (known s1)
    missed_known found p s4 detached other cleared rest = known_after _ _ _ _ _ _ _ (view s3) (view s4) cleared
        ∙ (ap (λ (q : PassState W). with_frontier guard 0 q) (missed_at found detached other
        ∙ ap (λ (q : PassState W). learning_at frozen at side found q) guarded_known)
        ∙ (frontier_learning frozen at side found guard 0 (with_frontier guard (target new) (known s1))
        ∙ ap (λ (q : PassState W). learning_at frozen at side found q)
        (rest_missed (known s1) p guard (target new) low unused rest)))

    pub misses_it : (found : ℕ) (p : Purse) (s4 : Seat Unit (SeatView E A W))
        → DetachedAt z frozen chain at side guard first new found s2 s3
        → found ≢ first → Unguarded z guard s3 s4 → IsAtRest (known s1) p
        → Misses sides z frozen chain at side first new (view s) (view s4) found
    misses_it found p s4 detached other cleared rest = let made = detached.other other in
        let later : PassState W = learning_at frozen at side found (known s2) in
        let learns : SameButWalk (known s2) later = learns_walk frozen at side found (known s2) in
        let number : (known s3).number ≡ (known s).number = ap (λ q. q.number) (missed_at found detached other)
        ∙ (learns.number ∙ (ap (λ q. q.number) guarded_known ∙ held.number)) in record {
          between = view s1;
          flushed = flushed;
          guard = guard;
          guard_low = low;
          unused = unused;
          other = other;
          steps = (
            view s2,
            (
              guards_one,
              (
                view s3,
                (
                  subst (λ (k : ℕ). MadeOne (misses k found) (view s2) (view s3)) place_is
                      (plain_one (misses (source_place z (known s2) at side) found) later (view s2)
                      (view s3) learns.number learns.owned
                      made),
                  (
                    view s4,
                    (
                      subst (λ (k : ℕ). MadeOne (unguards (frontier_place z k guard)) (view s3) (view s4)) number
                          (plain_one (unguards (frontier_place z (known s3).number guard)) (with_frontier guard 0 (known s3)) (view s3)
                          (view s4) refl
                          refl cleared),
                      refl,
                    ),
                  ),
                ),
              ),
            ),
          );
          known = missed_known found p s4 detached other cleared rest;
        }
