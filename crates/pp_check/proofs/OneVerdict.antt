-- No text has two verdicts.
use Rattle.std.proofs.Common.{◌≡◌, ℕ, ◌<◌, inl, inr, List, Some, None, refl, sym, ap, ◌∙◌, ⊎_elim, arith, subst}
use Rattle.std.proofs.lemmas.Bool.{true≢false, cases_lt, cases_eq}
use Rattle.std.proofs.lemmas.Option.{slice_get_within}
use Rattle.pp_model.specs.declared.Change.{Change}
use Rattle.pp_model.specs.declared.Placed.{Placed}
use Rattle.pp_model.specs.History.{Sound}
use Rattle.pp_certificate.specs.Stages.{first_bad}
use Rattle.pp_certificate.specs.Certificates.{log_of, list_of}
use Rattle.pp_check.specs.declared.Verdict.TheVariants.{Yes, BadLine, Unsound, Misplaced}
use Rattle.pp_check.specs.Histories.{IsUnsound, IsAmiss, IsShort, IsMisplacedAt, IsMisplaced, AllStand}
use Rattle.pp_check.specs.Verdicts.{VerdictsAreOne}
use Rattle.pp_check.proofs.Standing.{stands_not}

-- one of two numbers is the lower, or they are equal
parted : (P : Type 0) (m n : ℕ) → (m < n → P) → (n < m → P) → (m ≡ n → P) → P
parted P m n low high same = ⊎_elim low (λ ge. ⊎_elim same (λ other. high (omega arith)) (cases_eq m n)) (cases_lt m n)

-- ---- logs

unsound_not : (log : List Change) (change : ℕ) → IsUnsound log change → Sound log → ⊥
unsound_not log change is sound = true≢false (sym (sound is.before is.made is.logged) ∙ is.still)

first_unsound : (log : List Change) (m n : ℕ) (a : IsUnsound log m) (b : IsUnsound log n) → a.before < b.before → ⊥
first_unsound log m n a b lt = true≢false (sym (b.sound a.before a.made lt a.logged) ∙ a.still)

one_unsound : (log : List Change) (m n : ℕ) → IsUnsound log m → IsUnsound log n → m ≡ n
one_unsound log m n a b =
    parted (m ≡ n) a.before b.before (λ lt. absurd (first_unsound log m n a b lt)) (λ gt. absurd (first_unsound log n m b a gt))
    (λ same. omega (arith, a.number, b.number))

-- ---- lists

module _ (log : List Change) (caller : ℕ) (mine : List Placed) where
  first_amiss : (m n : ℕ) (a : IsAmiss log caller mine m) (b : IsAmiss log caller mine n) → a.position < b.position → ⊥
  first_amiss m n a b lt = a.amiss (b.before a.position a.call lt a.listed)

  amiss_not_short : (m n : ℕ) → IsAmiss log caller mine m → IsShort log caller mine n → ⊥
  amiss_not_short m n a b = a.amiss (b.all a.position a.call (slice_get_within mine a.position a.call a.listed) a.listed)

  one_number : (m n : ℕ) → IsMisplacedAt log caller mine m → IsMisplacedAt log caller mine n → m ≡ n
  one_number m n (inl a) (inl b) =
      parted (m ≡ n) a.position b.position (λ lt. absurd (first_amiss m n a b lt)) (λ gt. absurd (first_amiss n m b a gt))
      (λ same. omega (arith, a.number_is, b.number_is))
  one_number m n (inl a) (inr b) = absurd (amiss_not_short m n a b)
  one_number m n (inr a) (inl b) = absurd (amiss_not_short n m b a)
  one_number m n (inr a) (inr b) = a.number_is ∙ sym b.number_is

module _ (log : List Change) (lists : ℕ → List Placed) where
  least : (c d m n : ℕ) → IsMisplaced log lists c m → IsMisplaced log lists d n → c < d → ⊥
  least c d m n a b lt = stands_not log c (lists c) (b.stand c lt) m a.at

  misplaced_not : (c m : ℕ) → IsMisplaced log lists c m → AllStand log lists → ⊥
  misplaced_not c m a stand = stands_not log c (lists c) (stand c a.known) m a.at

  one_misplaced : (c d m n : ℕ) → IsMisplaced log lists c m → IsMisplaced log lists d n → Misplaced c m ≡ Misplaced d n
  one_misplaced c d m n a b =
      parted (Misplaced c m ≡ Misplaced d n) c d (λ lt. absurd (least c d m n a b lt)) (λ gt. absurd (least d c n m b a gt))
      (λ same.
      let number : m ≡ n = one_number log d (lists d) m n (subst (λ k. IsMisplacedAt log k (lists k) m) same a.at) b.at in
      ap (λ k. Misplaced k m) same ∙ ap (λ k. Misplaced d k) number)

no_line : {P : Type 0} (text : List ℕ) (line : ℕ) → first_bad text ≡ None → first_bad text ≡ Some line → P
no_line text line none some = absurd (let e : None ≡ Some line = sym none ∙ some in cc)

pub verdicts_are_one : VerdictsAreOne
verdicts_are_one text Yes Yes a b = refl
verdicts_are_one text Yes (BadLine n) a b = no_line text n a.0 b
verdicts_are_one text Yes (Unsound q) a b = absurd (unsound_not (log_of text) q b.1 a.1.0)
verdicts_are_one text Yes (Misplaced d n) a b = absurd (misplaced_not (log_of text) (list_of text) d n b.1.1 a.1.1)
verdicts_are_one text (BadLine m) Yes a b = no_line text m b.0 a
verdicts_are_one text (BadLine m) (BadLine n) a b = let same : m ≡ n = let e = sym a ∙ b in cc in ap BadLine same
verdicts_are_one text (BadLine m) (Unsound q) a b = no_line text m b.0 a
verdicts_are_one text (BadLine m) (Misplaced d n) a b = no_line text m b.0 a
verdicts_are_one text (Unsound p) Yes a b = absurd (unsound_not (log_of text) p a.1 b.1.0)
verdicts_are_one text (Unsound p) (BadLine n) a b = no_line text n a.0 b
verdicts_are_one text (Unsound p) (Unsound q) a b = ap Unsound (one_unsound (log_of text) p q a.1 b.1)
verdicts_are_one text (Unsound p) (Misplaced d n) a b = absurd (unsound_not (log_of text) p a.1 b.1.0)
verdicts_are_one text (Misplaced c m) Yes a b = absurd (misplaced_not (log_of text) (list_of text) c m a.1.1 b.1.1)
verdicts_are_one text (Misplaced c m) (BadLine n) a b = no_line text n a.0 b
verdicts_are_one text (Misplaced c m) (Unsound q) a b = absurd (unsound_not (log_of text) q b.1 a.1.0)
verdicts_are_one text (Misplaced c m) (Misplaced d n) a b = one_misplaced (log_of text) (list_of text) c d m n a.1.1 b.1.1
