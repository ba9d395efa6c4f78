-- What a reclaim pass keeps was named by a word that it read, and what it frees was not.
use Rattle.std.proofs.Common.{◌≡◌, ℕ, zero, suc, ◌+◌, ◌-◌, ◌*◌, ◌<◌, Bool, true, false, cond, ◌||◌, List, [], ◌∷◌, ◌++◌}
use Rattle.std.proofs.Common.{length, refl, sym, ap, ◌∙◌, subst, ⊎_elim, eq-eqb, ne_eqb, arith}
use Rattle.std.proofs.Math.Bool.{false≢true}
use Rattle.std.proofs.Math.Decide.{ℕ_discrete}
use Rattle.std.proofs.lemmas.Bool.{lt-ltb, le-ltb}
use mathlib.Core.Logic.{dite}
use mathlib.Core.Option.{some, some-ne-none}
use lib.ListN.{get_elem?}
use Rattle.pp_link.specs.declared.layout.Sizes.{Sizes}
use Rattle.pp_link.specs.Places.{frontier_place, walk_place}
use Rattle.pp_rule.specs.Lists.{IsIn}
use Rattle.pp_rule.proofs.Put.{in_nil, in_first, in_later, in_cases, in_either, at_below}
use Rattle.pp_base.specs.Named.{NamedStep, scans_frontier, scans_walk}
use Rattle.pp_base.specs.Scans.{is_named, chosen, rejected}
use Rattle.pp_base.proofs.Named.{in_turn_at}
use Rattle.pp_reclaim.specs.Sweeps.{in_turn, WasNamed}

-- a number is named where it is one of the words
named_in : (words : List ℕ) (n : ℕ) → is_named words n ≡ true → IsIn n words
named_in [] n e = absurd (false≢true e)
named_in (w ∷ words) n e = dite (ℕ_discrete w n) (λ same. subst (λ (k : ℕ). IsIn k (w ∷ words)) same (in_first w words))
    (λ other. in_later n w words (named_in words n (subst (λ (b : Bool). (b || is_named words n) ≡ true) (ne_eqb w n other) e)))

in_named : (words : List ℕ) (n : ℕ) → IsIn n words → is_named words n ≡ true
in_named [] n i = absurd (in_nil n i)
in_named (w ∷ words) n i = dite (ℕ_discrete w n) (λ same. ap (λ (b : Bool). b || is_named words n) (eq-eqb w n same))
    (λ other. ap (λ (b : Bool). b || is_named words n) (ne_eqb w n other)
    ∙ in_named words n (⊎_elim (λ (here : n ≡ w). absurd (other (sym here))) (λ (later : IsIn n words). later) (in_cases n w words i)))

in_chosen : (test : ℕ → Bool) (ns : List ℕ) (n : ℕ) → IsIn n (chosen test ns) → test n ≡ true
unfolding chosen
in_chosen test [] n i = absurd (in_nil n i)
in_chosen test (m ∷ ns) n i = by (in_chosen test ns n) (test m) refl i
  where
    by : (IsIn n (chosen test ns) → test n ≡ true) → (b : Bool) → test m ≡ b → IsIn n (cond b (m ∷ chosen test ns) (chosen test ns))
        → test n ≡ true
    by rest true e i = ⊎_elim (λ (here : n ≡ m). ap test here ∙ e) rest (in_cases n m (chosen test ns) i)
    by rest false e i = rest i

in_rejected : (test : ℕ → Bool) (ns : List ℕ) (n : ℕ) → IsIn n (rejected test ns) → test n ≡ false
unfolding rejected
in_rejected test [] n i = absurd (in_nil n i)
in_rejected test (m ∷ ns) n i = by (in_rejected test ns n) (test m) refl i
  where
    by : (IsIn n (rejected test ns) → test n ≡ false) → (b : Bool) → test m ≡ b → IsIn n (cond b (rejected test ns) (m ∷ rejected test ns))
        → test n ≡ false
    by rest true e i = rest i
    by rest false e i = ⊎_elim (λ (here : n ≡ m). ap test here ∙ e) rest (in_cases n m (rejected test ns) i)

-- what is chosen by the words is one of them, and what is rejected is none
pub chosen_in : (words ns : List ℕ) (n : ℕ) → IsIn n (chosen (is_named words) ns) → IsIn n words
chosen_in words ns n i = named_in words n (in_chosen (is_named words) ns n i)

pub rejected_out : (words ns : List ℕ) (n : ℕ) → IsIn n words → IsIn n (rejected (is_named words) ns) → ⊥
rejected_out words ns n i gone = false≢true (sym (in_rejected (is_named words) ns n gone) ∙ in_named words n i)

-- the entry at an index of two lists put together
at_left : {A : Type 0} (xs ys : List A) (k : ℕ) (x : A) → get_elem? xs k ≡ some x → get_elem? (xs ++ ys) k ≡ some x
at_left [] ys k x e = absurd (some-ne-none x (sym e))
at_left (y ∷ xs) ys zero x e = e
at_left (y ∷ xs) ys (suc k) x e = at_left xs ys k x e

at_right : {A : Type 0} (xs ys : List A) (l k : ℕ) (x : A) → l ≡ length xs + k → get_elem? ys k ≡ some x → get_elem? (xs ++ ys) l ≡ some x
at_right [] ys l k x at e = let here : l ≡ k = omega arith in ap (λ (m : ℕ). get_elem? ys m) here ∙ e
at_right (y ∷ xs) ys zero k x at e = absurd (omega arith)
at_right (y ∷ xs) ys (suc l) k x at e = at_right xs ys l k x (omega arith) e

module _ (load : ℕ → ℕ → NamedStep) where
  length_in_turn : (place : ℕ) (words : List ℕ) → length (in_turn load place words) ≡ length words
  length_in_turn place [] = refl
  length_in_turn place (word ∷ words) = ap suc (length_in_turn (place + 1) words)

module _ (z : Sizes) (fronts walks : List ℕ) (n : ℕ) (all_fronts : length fronts ≡ 4 * z.passes)
    (all_walks : length walks ≡ 5 * z.passes) where
  abbrev firsts : List NamedStep
  firsts = in_turn scans_frontier (frontier_place z 0 0) fronts

  abbrev seconds : List NamedStep
  seconds = in_turn scans_walk (walk_place z 0 0) walks

  -- which load a hazard word has
  abbrev load_by : ℕ → Bool → NamedStep
  load_by k b = cond b (scans_frontier (frontier_place z 0 0 + k) n) (scans_walk (walk_place z 0 0 + (k - 4 * z.passes)) n)

  front_named : IsIn n fronts → WasNamed z fronts walks n
  front_named (k, e) = let below = at_below fronts k n e in let first : k < 4 * z.passes = omega (arith, below, all_fronts) in record {
    k = k;
    low = omega (arith, first);
    word = at_left fronts walks k n e;
    load = at_left firsts seconds k _ (in_turn_at scans_frontier (frontier_place z 0 0) fronts k n e)
        ∙ ap (λ (b : Bool). some (load_by k b)) (sym (lt-ltb k (4 * z.passes) first));
  }

  walk_named : IsIn n walks → WasNamed z fronts walks n
  walk_named (k, e) = let below = at_below walks k n e in
      let behind : k ≡ 4 * z.passes + k - 4 * z.passes = omega arith in record {
        k = 4 * z.passes + k;
        low = omega (arith, below, all_walks);
        word = at_right fronts walks (4 * z.passes + k) k n (omega (arith, all_fronts)) e;
        load = at_right firsts seconds (4 * z.passes + k) k _
            (omega (arith, all_fronts, length_in_turn scans_frontier (frontier_place z 0 0) fronts))
            (in_turn_at scans_walk (walk_place z 0 0) walks k n e)
            ∙ (ap (λ (m : ℕ). some (scans_walk (walk_place z 0 0 + m) n)) behind
            ∙ ap (λ (b : Bool). some (load_by (4 * z.passes + k) b)) (sym (le-ltb (4 * z.passes + k) (4 * z.passes) (omega arith))));
      }

  -- a word that was read is a hazard word
  pub was_named : IsIn n (fronts ++ walks) → WasNamed z fronts walks n
  was_named i = ⊎_elim front_named walk_named (in_either n fronts walks i)
