-- Verdicts on a certificate that was read.
use Rattle.std.proofs.Common.{◌≡◌, ℕ, zero, suc, ◌+◌, ◌<◌, ◌≤◌, List, map, Some, ap, ◌∙◌, ⊎_elim, arith, subst}
use Rattle.std.proofs.lemmas.Bool.{cases_lt}
use Rattle.std.specs.Prelude.{slice_get, option_map}
use Rattle.std.proofs.lemmas.Option.{slice_get-map}
use Rattle.pp_model.specs.declared.Change.{Change}
use Rattle.pp_model.specs.declared.Placed.{Placed}
use Rattle.pp_model.specs.Lists.{upto, RisesFrom}
use Rattle.pp_model.specs.History.{finite_map, Sound, Stands}
use Rattle.pp_model.specs.Linearization.{CallerList, callers_of}
use Rattle.pp_model.proofs.CallersOrder.{is_history}
use Rattle.pp_certificate.specs.Certificates.{CertificateView, IsCertificate, log_of, list_of}
use Rattle.pp_check.specs.declared.Verdict.{Verdict}
use Rattle.pp_check.specs.declared.Verdict.TheVariants.{Yes, Unsound, Misplaced}
use Rattle.pp_check.specs.Histories.{IsUnsound, IsMisplacedAt, AllStand}
use Rattle.pp_check.specs.Verdicts.{IsVerdict, caller_list, caller_lists, IsLegal}

upto_at : (low n k : ℕ) → k < n → slice_get (upto low n) k ≡ Some (low + k)
upto_at low zero k within = absurd (omega arith)
upto_at low (suc n) zero within = ap (λ (m : ℕ). Some m) (omega arith)
upto_at low (suc n) (suc k) within =
    let next : low + 1 + k ≡ low + suc k = omega arith in
    upto_at (low + 1) n k (omega arith) ∙ ap (λ (m : ℕ). Some m) next

mapped_at : {A : Type 0} (f : ℕ → A) (n k : ℕ) → k < n → slice_get (map f (upto 0 n)) k ≡ Some (f k)
mapped_at f n k within =
    let first : 0 + k ≡ k = omega arith in
    slice_get-map f (upto 0 n) k ∙ ap (option_map f) (upto_at 0 n k within) ∙ ap (λ (m : ℕ). Some (f m)) first

module _ (text : List ℕ) (said : CertificateView) (is : IsCertificate text said) where
  -- the list of a caller is the one that the text says
  list_is : (c : ℕ) (mine : List Placed) → c < 64 → slice_get said.lists c ≡ Some mine → mine ≡ list_of text c
  list_is c mine below at =
      let own : slice_get said.lists c ≡ Some (list_of text c) =
      ap (λ (lists : List (List Placed)). slice_get lists c) is.lists_are ∙ mapped_at (list_of text) 64 c below in
      cc

  -- so is the log that was read of it
  log_read : (log : List Change) → log ≡ said.log → log ≡ log_of text
  log_read log read = read ∙ is.log_is

  pub stands_as_said : (log : List Change) (c : ℕ) (mine : List Placed) → log ≡ said.log → c < 64 → slice_get said.lists c ≡ Some mine
      → Stands log c mine → Stands (log_of text) c (list_of text c)
  stands_as_said log c mine read below at stands =
      subst (λ l. Stands l c (list_of text c)) (log_read log read) (subst (λ list. Stands log c list) (list_is c mine below at) stands)

  -- one more list
  pub stand_more : (log : List Change) (caller : ℕ) (mine : List Placed) → log ≡ said.log → caller < 64 → slice_get said.lists caller ≡ Some
      mine
      → Stands log caller mine → ((c : ℕ) → c < caller → Stands (log_of text) c (list_of text c))
      → (c : ℕ) → c < caller + 1 → Stands (log_of text) c (list_of text c)
  stand_more log caller mine read below at stands so_far c lt =
      ⊎_elim
      (λ (before : c < caller). so_far c before)
      (λ (last : caller ≤ c).
      let same : caller ≡ c = omega arith in
      subst (λ k. Stands (log_of text) k (list_of text k)) same (stands_as_said log caller mine read below at stands))
      (cases_lt c caller)

  pub unsound_verdict : (log : List Change) (change : ℕ) → log ≡ said.log → IsUnsound log change → IsVerdict text (Unsound change)
  unsound_verdict log change read unsound = (is.good, subst (λ l. IsUnsound l change) (log_read log read) unsound)

  pub misplaced_verdict : (log : List Change) (caller number : ℕ) (mine : List Placed) → log ≡ said.log → caller < 64
      → slice_get said.lists caller ≡ Some mine → Sound said.log → ((c : ℕ) → c < caller → Stands (log_of text) c (list_of text c))
      → IsMisplacedAt log caller mine number → IsVerdict text (Misplaced caller number)
  misplaced_verdict log caller number mine read below at sound stand misplaced = (
    is.good,
    (
      subst Sound is.log_is sound,
      record {
        known = below;
        stand = stand;
        at = subst (λ l. IsMisplacedAt l caller (list_of text caller) number) (log_read log read)
            (subst (λ list. IsMisplacedAt log caller list number) (list_is caller mine below at) misplaced);
      },
    ),
  )

  pub yes_verdict : Sound said.log → AllStand (log_of text) (list_of text) → IsVerdict text Yes
  yes_verdict sound stand = (is.good, (subst Sound is.log_is sound, stand))

-- ---- the law of histories

callers_rise : (lists : ℕ → List Placed) (low n : ℕ) → RisesFrom low (callers_of (map (caller_list lists) (upto low n)))
callers_rise lists low zero = tt
callers_rise lists low (suc n) = (omega arith, callers_rise lists (low + 1) n)

each_upto : {A : Type 0} (f : ℕ → A) (P : ℕ → A → Type 0) (low n : ℕ) → ((c : ℕ) → low ≤ c → c < low + n → P c (f c))
    → (k : ℕ) (x : A) → slice_get (map f (upto low n)) k ≡ Some x → P (low + k) x
each_upto f P low zero holds k x at = absurd cc
each_upto f P low (suc n) holds zero x at =
    let same : f low ≡ x = cc in
    subst (P (low + 0)) same (subst (λ c. P c (f low)) (omega arith) (holds low (omega arith) (omega arith)))
each_upto f P low (suc n) holds (suc k) x at =
    let next : low + 1 + k ≡ low + suc k = omega arith in
    subst (λ c. P c x) next (each_upto f P (low + 1) n (λ c above below. holds c (omega arith) (omega arith)) k x at)

-- the linearization of a sound log whose callers have lists that stand in it is legal
pub legal : (text : List ℕ) (said : CertificateView) → IsCertificate text said → (v : Verdict) → IsVerdict text v → v ≡ Yes → IsLegal text
legal text said is v right agreed =
    let at_yes : IsVerdict text Yes = subst (IsVerdict text) agreed right in
    let log = log_of text in
    let lists = list_of text in
    is_history finite_map log (caller_lists lists) (record {
      sound = at_yes.1.0;
      rise = callers_rise lists 0 64;
      known = λ p c at. record {
        position = c.caller;
        mine = lists c.caller;
        is_one = mapped_at (caller_list lists) 64 c.caller (is.callers p c (ap (λ (l : List Change). slice_get l p) is.log_is ∙ at));
      };
      stand = λ k l at. stands_at lists log k l at_yes.1.1 at;
    })
  where
    stands_at : (lists : ℕ → List Placed) (log : List Change) (k : ℕ) (l : CallerList) → AllStand log lists
        → slice_get (caller_lists lists) k ≡ Some l → Stands log l.caller l.mine
    stands_at lists log k l stand at =
        each_upto (caller_list lists) (λ c (l : CallerList). Stands log l.caller l.mine) 0 64 (λ c low below. stand c (omega arith)) k l at
