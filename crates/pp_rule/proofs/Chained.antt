-- Steps that change the chains of one pass, and nothing else that is known of the passes.
use Rattle.std.proofs.Common.{◌≡◌, ◌≢◌, ◌⊎◌, ℕ, zero, suc, ◌+◌, ◌*◌, ◌<◌, true, List, [], ◌∷◌, ◌++◌, map, length, get_or, set}
use Rattle.std.proofs.Common.{refl, sym, ap, ◌∙◌, subst, inl, inr, ⊎_elim, arith}
use Rattle.std.proofs.Math.Decide.{ℕ_discrete}
use mathlib.Core.Logic.{dite}
use mathlib.Core.Option.{some, some-injective}
use lib.ListN.{get_elem?}
use Rattle.pp_link.specs.declared.layout.Sizes.{Sizes}
use Rattle.pp_link.specs.Links.{target, invalid_bit}
use Rattle.pp_link.specs.Places.{IsNumber}
use Rattle.pp_link.specs.Words.{frontier_word}
use Rattle.pp_rule.specs.Lists.{IsIn, OnceBy, Once}
use Rattle.pp_rule.specs.Views.{WalkSlot, blank, PrivateRecord, Chain, PassState}
use Rattle.pp_rule.specs.States.{RecordState, in_hand, IsUsed, Held, Leaves, SameTarget}
use Rattle.pp_rule.specs.Rule.{number_of, Numbers, PrivateWords, Hazards, Scans}
use Rattle.pp_rule.proofs.Put.{put, put_here, put_else, put_each, in_nil, in_first, in_later, in_cases}

-- the images stay where an entry of the list gets another with the same image
pub images_set : {A B : Type 0} (f : A → B) (xs : List A) (k : ℕ) (x y : A) → get_elem? xs k ≡ some x → f y ≡ f x
    → map f (set xs k y) ≡ map f xs
images_set f [] k x y at same = refl
images_set f (a ∷ xs) zero x y at same = ap (λ b. b ∷ map f xs) (same ∙ ap f (sym (some-injective a x at)))
images_set f (a ∷ xs) (suc k) x y at same = ap (λ bs. f a ∷ bs) (images_set f xs k x y at same)

module _ {A : Type 0} where
  -- an entry of two lists put together stands in the one, or behind it in the other
  pub at_either : (xs ys : List A) (k : ℕ) (x : A) → get_elem? (xs ++ ys) k ≡ some x
      → ((k < length xs) × (get_elem? xs k ≡ some x)) ⊎ ((j : ℕ) × ((k ≡ length xs + j) × (get_elem? ys j ≡ some x)))
  at_either [] ys k x e = inr (k, (omega arith, e))
  at_either (y ∷ xs) ys zero x e = inl (omega arith, e)
  at_either (y ∷ xs) ys (suc k) x e = ⊎_elim (λ (a : (k < length xs) × (get_elem? xs k ≡ some x)). let low = a.0 in inl (omega arith, a.1))
      (λ (a : (j : ℕ) × ((k ≡ length xs + j) × (get_elem? ys j ≡ some x))). let here = a.1.0 in inr (a.0, (omega arith, a.1.1)))
      (at_either xs ys k x e)

-- a number stands in the list or it doesn't
pub in_or_out : (n : ℕ) (ns : List ℕ) → IsIn n ns ⊎ (IsIn n ns → ⊥)
in_or_out n [] = inr (in_nil n)
in_or_out n (m ∷ ns) = dite (ℕ_discrete n m) (λ e. inl (subst (λ (x : ℕ). IsIn n (x ∷ ns)) e (in_first n ns)))
    (λ ne. ⊎_elim (λ (i : IsIn n ns). inl (in_later n m ns i))
    (λ (out : IsIn n ns → ⊥). inr (λ i. ⊎_elim (λ (e : n ≡ m). ne e) out (in_cases n m ns i))) (in_or_out n ns))

module _ {A : Type 0} where
  -- the function with this value at each number of the list
  unfoldable pub put_all : (ℕ → A) → List ℕ → A → ℕ → A
  put_all f [] a = f
  put_all f (n ∷ ns) a = put (put_all f ns a) n a

  pub put_all_in : (f : ℕ → A) (ns : List ℕ) (a : A) (n : ℕ) → IsIn n ns → put_all f ns a n ≡ a
  unfolding put_all
  put_all_in f [] a n i = absurd (in_nil n i)
  put_all_in f (m ∷ ns) a n i = dite (ℕ_discrete n m) (λ e. ap (put (put_all f ns a) m a) e ∙ put_here (put_all f ns a) m a)
      (λ ne. put_else (put_all f ns a) m a n ne
      ∙ ⊎_elim (λ (e : n ≡ m). absurd (ne e)) (λ (later : IsIn n ns). put_all_in f ns a n later) (in_cases n m ns i))

  pub put_all_out : (f : ℕ → A) (ns : List ℕ) (a : A) (n : ℕ) → (IsIn n ns → ⊥) → put_all f ns a n ≡ f n
  unfolding put_all
  put_all_out f [] a n out = refl
  put_all_out f (m ∷ ns) a n out =
      put_else (put_all f ns a) m a n (λ e. out (subst (λ (x : ℕ). IsIn n (x ∷ ns)) e (in_first n ns)))
      ∙ put_all_out f ns a n (λ i. out (in_later n m ns i))

-- where one word leads, another that leads to the same does
pub same_through : (u v w : ℕ) → SameTarget u v → SameTarget v w → SameTarget u w
same_through u v w a b = record {
  target_is = b.target_is ∙ a.target_is;
  flag_is = b.flag_is ∙ a.flag_is;
  leaf_is = b.leaf_is ∙ a.leaf_is;
}

-- a link of a record in hand leads on where the frontier word of its chain is as it was
pub leaves_on : (z : Sizes) (old new : List ℕ) (status : ℕ → RecordState) (w p j : ℕ) → frontier_word new z p j ≡ frontier_word old z p j
    → Leaves z old status p j w → Leaves z new status p j w
leaves_on z old new status w p j e was = record {
  small = was.small;
  to = subst (λ (x : ℕ). invalid_bit w ≡ 0 → (target w ≡ 0) ⊎ (IsNumber z (target w)
      × ((status (target w) ≡ in_hand p j) ⊎ ((target w ≡ x) × IsUsed (status (target w)))))) (sym e) was.to;
}

module _ {W : Type 0} where
  -- what the facts of every pool speak of is as it was of each pass, but perhaps its chains
  pub record SameButChains (of of' : ℕ → PassState W) : Type 0 where
    pub owned : (r : ℕ) → (of' r).owned ≡ (of r).owned
    pub retired_are : (r : ℕ) → (of' r).retired ≡ (of r).retired
    pub walk : (r : ℕ) → (of' r).walk ≡ (of r).walk
    pub frontier : (r : ℕ) → (of' r).frontier ≡ (of r).frontier
    pub scan : (r : ℕ) → (of' r).scan ≡ (of r).scan

  -- one pass has other chains
  pub with_chains : (of : ℕ → PassState W) (q : PassState W) (cs : List Chain) → of q.number ≡ q
      → SameButChains of (put of q.number (record q { chains = cs }))
  with_chains of q cs is = record {
    owned = put_each (λ (r : ℕ) (v : PassState W). v.owned ≡ (of r).owned) of q.number q' (ap (λ v. v.owned) (sym is)) (λ r other. refl);
    retired_are = put_each (λ (r : ℕ) (v : PassState W). v.retired ≡ (of r).retired) of q.number q' (ap (λ v. v.retired) (sym is))
        (λ r other. refl);
    walk = put_each (λ (r : ℕ) (v : PassState W). v.walk ≡ (of r).walk) of q.number q' (ap (λ v. v.walk) (sym is)) (λ r other. refl);
    frontier = put_each (λ (r : ℕ) (v : PassState W). v.frontier ≡ (of r).frontier) of q.number q' (ap (λ v. v.frontier) (sym is))
        (λ r other. refl);
    scan = put_each (λ (r : ℕ) (v : PassState W). v.scan ≡ (of r).scan) of q.number q' (ap (λ v. v.scan) (sym is)) (λ r other. refl);
  }
    where
      q' : PassState W
      q' = record q { chains = cs }

  module _ (z : Sizes) (of of' : ℕ → PassState W) (status : ℕ → RecordState) (s : SameButChains of of') where
    pub numbers_on : Numbers z of status → Numbers z of' status
    numbers_on n = record {
      scope = n.scope;
      owned_to = λ r d low i. n.owned_to r d low (subst (λ (l : List PrivateRecord). IsIn d l) (s.owned r) i);
      owned_from = λ r m low number is. let was = n.owned_from r m low number is in
          (was.0, (subst (λ (l : List PrivateRecord). IsIn was.0 l) (sym (s.owned r)) was.1.0, was.1.1));
      owned_once = λ r low. subst (OnceBy number_of) (sym (s.owned r)) (n.owned_once r low);
      retired_to = λ r m low i. n.retired_to r m low (subst (λ (l : List ℕ). IsIn m l) (s.retired_are r) i);
      retired_from = λ r m low number is. subst (λ (l : List ℕ). IsIn m l) (sym (s.retired_are r)) (n.retired_from r m low number is);
      retired_once = λ r low. subst Once (sym (s.retired_are r)) (n.retired_once r low);
    }

    pub privates_on : (words : List ℕ) → PrivateWords z words of → PrivateWords z words of'
    privates_on words w = record { reads = λ r d low i. w.reads r d low (subst (λ (l : List PrivateRecord). IsIn d l) (s.owned r) i) }

    pub hazards_on : (words : List ℕ) → Hazards z words of status → Hazards z words of' status
    hazards_on words h = record {
      five = λ r low. ap (λ (l : List WalkSlot). length l) (s.walk r) ∙ h.five r low;
      four = λ r low. ap (λ (l : List ℕ). length l) (s.frontier r) ∙ h.four r low;
      walks = λ r i low lt. h.walks r i low lt ∙ ap (λ (l : List WalkSlot). (get_or l i blank).named) (sym (s.walk r));
      frontiers = λ r j low lt. h.frontiers r j low lt ∙ ap (λ (l : List ℕ). get_or l j 0) (sym (s.frontier r));
      held = λ r i low lt. subst (λ (l : List WalkSlot). (get_or l i blank).held ≡ true → Held z words status (get_or l i blank))
          (sym (s.walk r))
          (h.held r i low lt);
    }

    pub scans_on : (sides : ℕ) (words : List ℕ) → Scans sides z words of status → Scans sides z words of' status
    scans_on sides words c = record {
      left = λ r n low i. c.left r n low (was r n i);
      left_once = λ r low. subst (λ (l : List ℕ). Once l) (ap (λ x. x.left) (sym (s.scan r))) (c.left_once r low);
      fronts = λ r n q j m side low i read number lt is valid. c.fronts r n q j m side low (was r n i)
          (subst (λ (k : ℕ). 4 * q + j < k) (ap (λ x. x.read) (s.scan r)) read) number lt is valid;
      walks = λ r n q i low left pass five read. subst (λ (l : List WalkSlot). (get_or l i blank).held ≡ true
          → (get_or l i blank).named ≢ n)
          (sym (s.walk q))
          (c.walks r n q i low (was r n left) pass five (subst (λ (k : ℕ). 4 * z.passes + 5 * q + i < k)
          (ap (λ x. x.read) (s.scan r)) read));
    }
      where
        was : (r n : ℕ) → IsIn n (of' r).scan.left → IsIn n (of r).scan.left
        was r n i = subst (λ (l : List ℕ). IsIn n l) (ap (λ x. x.left) (s.scan r)) i
