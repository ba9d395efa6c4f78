-- What steps leave of the removed records that are still attached.
use Rattle.std.proofs.Common.{◌≡◌, ◌≢◌, ⊎_elim, ℕ, ◌<◌, cond, List, [], ◌∷◌, sym, ap, ◌∙◌, subst, arith, eq-eqb, ne_eqb}
use Rattle.std.proofs.Math.Decide.{ℕ_discrete}
use mathlib.Core.Logic.{dite}
use Rattle.pp_link.specs.declared.layout.Sizes.{Sizes}
use Rattle.pp_link.specs.Links.{flag_bit}
use Rattle.pp_link.specs.Places.{IsNumber}
use Rattle.pp_rule.specs.Lists.{IsIn}
use Rattle.pp_rule.specs.States.{attached}
use Rattle.pp_rule.proofs.Put.{put, put_each, in_nil, in_cases, in_first, in_later}
use Rattle.pp_lists.specs.Walks.{Heap, Source, at_head, at_record, word_at, Rewired}
use Rattle.pp_lists.specs.Lists.{ListPass, Leaves}
use Rattle.pp_lists.specs.Turns.{without}

-- what is another number stays
pub in_without : (n m : ℕ) (ms : List ℕ) → IsIn m ms → m ≢ n → IsIn m (without n ms)
unfolding without
in_without n m [] i ne = absurd (in_nil m i)
in_without n m (x ∷ ms) i ne = dite (ℕ_discrete x n)
    (λ e. subst (λ b. IsIn m (cond b (without n ms) (x ∷ without n ms))) (sym (eq-eqb x n e))
    (⊎_elim (λ (here : m ≡ x). absurd (ne (here ∙ e))) (λ (later : IsIn m ms). in_without n m ms later ne) (in_cases m x ms i)))
    (λ other. subst (λ b. IsIn m (cond b (without n ms) (x ∷ without n ms))) (sym (ne_eqb x n other))
    (⊎_elim (λ (here : m ≡ x). subst (λ (y : ℕ). IsIn m (y ∷ without n ms)) here (in_first m (without n ms)))
    (λ (later : IsIn m ms). in_later m x (without n ms) (in_without n m ms later ne)) (in_cases m x ms i)))

-- and what stays stood there, and is another number
pub without_in : (n m : ℕ) (ms : List ℕ) → IsIn m (without n ms) → IsIn m ms × (m ≢ n)
unfolding without
without_in n m [] i = absurd (in_nil m i)
without_in n m (x ∷ ms) i = dite (ℕ_discrete x n)
    (λ e. let r = without_in n m ms (subst (λ b. IsIn m (cond b (without n ms) (x ∷ without n ms))) (eq-eqb x n e) i) in
    (in_later m x ms r.0, r.1))
    (λ other. ⊎_elim
    (λ (here : m ≡ x). (subst (λ (y : ℕ). IsIn m (y ∷ ms)) here (in_first m ms), λ e. other (sym here ∙ e)))
    (λ (later : IsIn m (without n ms)). let r = without_in n m ms later in (in_later m x ms r.0, r.1))
    (in_cases m x (without n ms) (subst (λ b. IsIn m (cond b (without n ms) (x ∷ without n ms))) (ne_eqb x n other) i)))

-- where a link without FLAG was led on, and has none now, all flags are as they were
pub rewired_flag : (z : Sizes) (t t' : Heap) (s : Source) (w : ℕ) → Rewired z t t' s w → flag_bit (word_at t s) ≡ 0
    → flag_bit w ≡ 0
    → (n : ℕ) → IsNumber z n → flag_bit (t'.link n) ≡ flag_bit (t.link n)
rewired_flag z t t' (at_head h) w r plain new_plain n is = ap flag_bit (r.links n is (λ e. cc))
rewired_flag z t t' (at_record m) w r plain new_plain n is = dite (ℕ_discrete n m)
    (λ e. ap (λ (k : ℕ). flag_bit (t'.link k)) e
    ∙ (ap flag_bit r.there ∙ (new_plain ∙ sym (ap (λ (k : ℕ). flag_bit (t.link k)) e ∙ plain))))
    (λ ne. ap flag_bit (r.links n is (λ e. ne (same_record m n e))))
  where
    same_record : (m n : ℕ) → at_record n ≡ at_record m → n ≡ m
    same_record m n e = cc

module _ (g : ℕ → ListPass) (p : ℕ) (q q' : ListPass) (is : g p ≡ q) where
  -- the lists of the passes, of which one has another list now
  pub left_more : (ok : ℕ → Type 0) → ((n : ℕ) → ok n → IsIn n q.own.left → IsIn n q'.own.left) → (r n : ℕ) → ok n
      → IsIn n (g r).own.left → IsIn n (put g p q' r).own.left
  left_more ok more r n fine = put_each (λ (r : ℕ) (v : ListPass). IsIn n (g r).own.left → IsIn n v.own.left) g p q'
      (λ i. more n fine (subst (λ (v : ListPass). IsIn n v.own.left) is i)) (λ r _ i. i) r

  pub left_fewer : (ok : ℕ → Type 0) → ((n : ℕ) → ok n → IsIn n q'.own.left → IsIn n q.own.left) → (r n : ℕ) → ok n
      → IsIn n (put g p q' r).own.left → IsIn n (g r).own.left
  left_fewer ok fewer r n fine = put_each (λ (r : ℕ) (v : ListPass). IsIn n v.own.left → IsIn n (g r).own.left) g p q'
      (λ i. subst (λ (v : ListPass). IsIn n v.own.left) (sym is) (fewer n fine i)) (λ r _ i. i) r

module _ (z : Sizes) (t t' : Heap) (left left' : ℕ → List ℕ) where
  -- no record was attached, and of those that are attached the flags are as they were
  pub leaves_on : ((p : ℕ) → p < z.passes → left' p ≡ left p)
      → ((n : ℕ) → IsNumber z n → t'.status n ≡ attached → (t.status n ≡ attached) × (flag_bit (t'.link n) ≡ flag_bit (t.link n)))
      → Leaves z t left → Leaves z t' left'
  leaves_on same was l = record {
    known_to = λ n is st flag. let w = was n is st in let k = l.known_to n is w.0 (sym w.1 ∙ flag) in
        (k.0, (k.1.0, subst (IsIn n) (sym (same k.0 k.1.0)) k.1.1));
    removed = λ one p n lt is i st. let w = was n is st in
        w.1 ∙ l.removed one p n lt is (subst (IsIn n) (same p lt) i) w.0;
  }

  module _ (p c : ℕ) (pass : p < z.passes) where
    -- the pass p marked the record c
    pub leaves_marked : ((n : ℕ) → IsNumber z n → t'.status n ≡ t.status n)
        → ((n : ℕ) → IsNumber z n → n ≢ c → t'.link n ≡ t.link n)
        → flag_bit (t'.link c) ≡ 1 → ((r n : ℕ) → r < z.passes → IsIn n (left r) → IsIn n (left' r)) → IsIn c (left' p)
        → ((r n : ℕ) → r < z.passes → IsIn n (left' r) → n ≢ c → IsIn n (left r)) → Leaves z t left → Leaves z t' left'
    leaves_marked status links flag more here fewer l = record {
      known_to = λ n is st f. dite (ℕ_discrete n c)
          (λ e. (p, (pass, subst (λ (m : ℕ). IsIn m (left' p)) (sym e) here)))
          (λ ne. let k = l.known_to n is (sym (status n is) ∙ st) (sym (ap flag_bit (links n is ne)) ∙ f) in
          (k.0, (k.1.0, more k.0 n k.1.0 k.1.1)));
      removed = λ one r n lt is i st. dite (ℕ_discrete n c)
          (λ e. ap (λ (m : ℕ). flag_bit (t'.link m)) e ∙ flag)
          (λ ne. ap flag_bit (links n is ne) ∙ l.removed one r n lt is (fewer r n lt i ne) (sym (status n is) ∙ st));
    }

    -- the pass p published the record c
    pub leaves_published : ((n : ℕ) → IsNumber z n → n ≢ c → t'.status n ≡ t.status n)
        → ((n : ℕ) → IsNumber z n → t.status n ≡ attached → flag_bit (t'.link n) ≡ flag_bit (t.link n))
        → flag_bit (t'.link c) ≡ 0 → ((r n : ℕ) → r < z.passes → IsIn n (left r) → n ≢ c → IsIn n (left' r))
        → ((r n : ℕ) → r < z.passes → IsIn n (left' r) → IsIn n (left r)) → (IsIn c (left' p) → ⊥) → Leaves z t left
        → Leaves z t' left'
    leaves_published status flags plain more fewer gone l = record {
      known_to = λ n is st f. let ne : n ≢ c = λ e. (let zero = ap (λ (m : ℕ). flag_bit (t'.link m)) e ∙ plain in omega arith) in
          let was : t.status n ≡ attached = sym (status n is ne) ∙ st in
          let k = l.known_to n is was (sym (flags n is was) ∙ f) in (k.0, (k.1.0, more k.0 n k.1.0 k.1.1 ne));
      removed = λ one r n lt is i st. let same : r ≡ p = omega arith in
          let ne : n ≢ c = λ e. gone (subst (λ (q : ℕ). IsIn c (left' q)) same (subst (λ (m : ℕ). IsIn m (left' r)) e i)) in
          let was : t.status n ≡ attached = sym (status n is ne) ∙ st in
          flags n is was ∙ l.removed one r n lt is (fewer r n lt i) was;
    }
