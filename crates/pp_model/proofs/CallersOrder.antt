-- The linearization has each caller's calls in the order of its list, for any sequential object.
--
-- Idea: give each placed call a rank, so that the linearization takes the ranks in turn. Along a list that stands in the log the
-- ranks never fall, and picking a list's calls rank by rank gives the list back.
use Rattle.std.proofs.Common.{◌≡◌, ℕ, zero, suc, ◌+◌, ◌*◌, ◌<◌, ◌≤◌, Bool, true, false, cond, eqb, List, [], ◌∷◌, ◌++◌, length}
use Rattle.std.proofs.Common.{map, Some, ⊎_elim, refl, sym, ap, ◌∙◌, subst, arith, append-nil}
use Rattle.std.proofs.Common.{eq-eqb, ne_eqb}
use Rattle.std.specs.Prelude.{slice_get}
use Rattle.std.proofs.lemmas.Bool.{cases_eq, cases_Bool}
use Rattle.pp_model.specs.Lists.{AtEach, RisesFrom}
use Rattle.pp_model.specs.Objects.{Object, Fits, Follows, CallerList, HistoryCall, history_call, stands_at, calls_at}
use Rattle.pp_model.specs.Objects.{all_calls_at, linearized_from, linearization, calls_of, callers_of, IsRecordedRun, RunsAreHistories}
use Rattle.pp_model.proofs.Logs.{fits_within}
use Rattle.pp_model.proofs.Linearizations.{low_caller, as_change, callers_known, legal_from}

same_test : (a b c d : ℕ) → (a ≡ b → c ≡ d) → (c ≡ d → a ≡ b) → eqb a b ≡ eqb c d
same_test a b c d there back =
    ⊎_elim
    (λ (e : a ≡ b). eq-eqb a b e ∙ sym (eq-eqb c d (there e)))
    (λ (n : a ≡ b → ⊥). ne_eqb a b n ∙ sym (ne_eqb c d (λ e. n (back e))))
    (cases_eq a b)

abbrev double : ℕ → ℕ
double zero = zero
double (suc n) = suc (suc (double n))

double_is : (n : ℕ) → double n ≡ 2 * n
double_is zero = refl
double_is (suc n) = omega (arith, double_is n)

module _ (o : Object) where
  -- a change at place p comes between the other calls of p - 1 and those of p
  abbrev rank : o.Placed → ℕ
  rank s = cond (o.changes (o.given s)) (2 * o.place s) (2 * o.place s + 1)

  -- a caller's calls of one rank
  abbrev at_rank : ℕ → ℕ → List o.Placed → List (HistoryCall o)
  at_rank r caller [] = []
  at_rank r caller (s ∷ mine) = cond (eqb (rank s) r) (history_call o caller s ∷ at_rank r caller mine) (at_rank r caller mine)

  abbrev all_at_rank : ℕ → List (CallerList o) → List (HistoryCall o)
  all_at_rank r [] = []
  all_at_rank r (l ∷ lists) = at_rank r l.caller l.mine ++ all_at_rank r lists

  -- all calls of so many ranks, from a rank on
  abbrev by_rank : ℕ → ℕ → List (CallerList o) → List (HistoryCall o)
  by_rank r zero lists = []
  by_rank r (suc m) lists = all_at_rank r lists ++ by_rank (suc r) m lists

  abbrev own_by_rank : ℕ → ℕ → ℕ → List o.Placed → List (HistoryCall o)
  own_by_rank r zero caller mine = []
  own_by_rank r (suc m) caller mine = at_rank r caller mine ++ own_by_rank (suc r) m caller mine

  change_rank : (p : ℕ) (s : o.Placed) → stands_at o true (p + 1) s ≡ eqb (rank s) (2 * p + 2)
  change_rank p s =
      ⊎_elim
      (λ (change : o.changes (o.given s) ≡ true). rw change (same_test (o.place s) (p + 1) (2 * o.place s) (2 * p + 2)
      (λ e. omega arith) (λ e. omega arith)))
      (λ (none : o.changes (o.given s) ≡ false).
      let apart : eqb (2 * o.place s + 1) (2 * p + 2) ≡ false = ne_eqb (2 * o.place s + 1) (2 * p + 2) (λ e. omega arith) in
      rw (none, apart) refl)
      (cases_Bool (o.changes (o.given s)))

  other_rank : (p : ℕ) (s : o.Placed) → stands_at o false p s ≡ eqb (rank s) (2 * p + 1)
  other_rank p s =
      ⊎_elim
      (λ (change : o.changes (o.given s) ≡ true).
      let apart : eqb (2 * o.place s) (2 * p + 1) ≡ false = ne_eqb (2 * o.place s) (2 * p + 1) (λ e. omega arith) in
      rw (change, apart) refl)
      (λ (none : o.changes (o.given s) ≡ false). rw none (same_test (o.place s) p (2 * o.place s + 1) (2 * p + 1)
      (λ e. omega arith) (λ e. omega arith)))
      (cases_Bool (o.changes (o.given s)))

  -- the calls at a place are those of a rank
  calls_ranked : (change : Bool) (p r caller : ℕ) (mine : List o.Placed)
      → ((s : o.Placed) → stands_at o change p s ≡ eqb (rank s) r)
      → calls_at o change p caller mine ≡ at_rank r caller mine
  calls_ranked change p r caller [] test = refl
  calls_ranked change p r caller (s ∷ mine) test =
      let ih = calls_ranked change p r caller mine test in
      ap (λ b. cond b (history_call o caller s ∷ calls_at o change p caller mine) (calls_at o change p caller mine)) (test s)
      ∙ ap (λ (xs : List (HistoryCall o)). cond (eqb (rank s) r) (history_call o caller s ∷ xs) xs) ih

  all_ranked : (change : Bool) (p r : ℕ) (lists : List (CallerList o))
      → ((s : o.Placed) → stands_at o change p s ≡ eqb (rank s) r)
      → all_calls_at o change p lists ≡ all_at_rank r lists
  all_ranked change p r [] test = refl
  all_ranked change p r (l ∷ lists) test =
      ap (λ xs. xs ++ all_calls_at o change p lists) (calls_ranked change p r l.caller l.mine test)
      ∙ ap (λ xs. at_rank r l.caller l.mine ++ xs) (all_ranked change p r lists test)

  -- The linearization takes the ranks in turn.
  linearized_ranked : (n p r : ℕ) → r ≡ 2 * p + 1 → (lists : List (CallerList o))
      → linearized_from o p n lists ≡ by_rank r (suc (double n)) lists
  linearized_ranked zero p r e lists =
      let here : (s : o.Placed) → stands_at o false p s ≡ eqb (rank s) r = λ s. other_rank p s ∙ ap (eqb (rank s)) (sym e) in
      all_ranked false p r lists here ∙ sym (append-nil (all_at_rank r lists))
  linearized_ranked (suc n) p r e lists =
      let here : (s : o.Placed) → stands_at o false p s ≡ eqb (rank s) r = λ s. other_rank p s ∙ ap (eqb (rank s)) (sym e) in
      let number : 2 * p + 2 ≡ suc r = omega arith in
      let next : (s : o.Placed) → stands_at o true (p + 1) s ≡ eqb (rank s) (suc r) =
      λ s. change_rank p s ∙ ap (eqb (rank s)) number in
      let ih = linearized_ranked n (p + 1) (suc (suc r)) (omega arith) lists in
      ap (λ xs. xs ++ (all_calls_at o true (p + 1) lists ++ linearized_from o (p + 1) n lists)) (all_ranked false p r lists here)
      ∙ ap (λ xs. all_at_rank r lists ++ xs)
      (ap (λ xs. xs ++ linearized_from o (p + 1) n lists) (all_ranked true (p + 1) (suc r) lists next)
      ∙ ap (λ xs. all_at_rank (suc r) lists ++ xs) ih)

  calls_of-append : (caller : ℕ) (xs ys : List (HistoryCall o))
      → calls_of o caller (xs ++ ys) ≡ calls_of o caller xs ++ calls_of o caller ys
  calls_of-append caller [] ys = refl
  calls_of-append caller (s ∷ xs) ys =
      let ih = calls_of-append caller xs ys in
      ⊎_elim
      (λ (same : eqb s.caller caller ≡ true). rw same (ap (λ zs. s ∷ zs) ih))
      (λ (other : eqb s.caller caller ≡ false). rw other ih)
      (cases_Bool (eqb s.caller caller))

  calls_of_own : (r caller : ℕ) (mine : List o.Placed) → calls_of o caller (at_rank r caller mine) ≡ at_rank r caller mine
  calls_of_own r caller [] = refl
  calls_of_own r caller (s ∷ mine) =
      let ih = calls_of_own r caller mine in
      let own : eqb caller caller ≡ true = eq-eqb caller caller refl in
      ⊎_elim
      (λ (here : eqb (rank s) r ≡ true). rw (here, own) (ap (λ xs. history_call o caller s ∷ xs) ih))
      (λ (other : eqb (rank s) r ≡ false). rw other ih)
      (cases_Bool (eqb (rank s) r))

  calls_of_other : (r caller other : ℕ) (mine : List o.Placed) → (other ≡ caller → ⊥)
      → calls_of o caller (at_rank r other mine) ≡ []
  calls_of_other r caller other [] apart = refl
  calls_of_other r caller other (s ∷ mine) apart =
      let ih = calls_of_other r caller other mine apart in
      let test : eqb other caller ≡ false = ne_eqb other caller apart in
      ⊎_elim
      (λ (here : eqb (rank s) r ≡ true). rw (here, test) ih)
      (λ (none : eqb (rank s) r ≡ false). rw none ih)
      (cases_Bool (eqb (rank s) r))

  calls_of_none : (r caller low : ℕ) (lists : List (CallerList o)) → RisesFrom low (callers_of o lists) → caller < low
      → calls_of o caller (all_at_rank r lists) ≡ []
  calls_of_none r caller low [] rise lt = refl
  calls_of_none r caller low (l ∷ lists) rise lt =
      let rest = calls_of_none r caller (l.caller + 1) lists rise.1 (omega (arith, rise.0)) in
      calls_of-append caller (at_rank r l.caller l.mine) (all_at_rank r lists)
      ∙ (ap (λ xs. xs ++ calls_of o caller (all_at_rank r lists))
      (calls_of_other r caller l.caller l.mine (λ e. omega (arith, rise.0))) ∙ rest)

  -- of all calls of a rank, those of one caller are its own
  calls_of_all : (r low k : ℕ) (lists : List (CallerList o)) (l : CallerList o) → RisesFrom low (callers_of o lists)
      → slice_get lists k ≡ Some l
      → calls_of o l.caller (all_at_rank r lists) ≡ at_rank r l.caller l.mine
  calls_of_all r low k [] l rise e = absurd cc
  calls_of_all r low zero (m ∷ lists) l rise e =
      let is : m ≡ l = cc in
      let none = calls_of_none r m.caller (m.caller + 1) lists rise.1 (omega arith) in
      subst (λ (x : CallerList o). calls_of o x.caller (all_at_rank r (m ∷ lists)) ≡ at_rank r x.caller x.mine) is
      (calls_of-append m.caller (at_rank r m.caller m.mine) (all_at_rank r lists)
      ∙ (ap (λ xs. calls_of o m.caller (at_rank r m.caller m.mine) ++ xs) none
      ∙ (append-nil (calls_of o m.caller (at_rank r m.caller m.mine)) ∙ calls_of_own r m.caller m.mine)))
  calls_of_all r low (suc k) (m ∷ lists) l rise e =
      let above = low_caller o (m.caller + 1) k lists l rise.1 e in
      calls_of-append l.caller (at_rank r m.caller m.mine) (all_at_rank r lists)
      ∙ (ap (λ xs. xs ++ calls_of o l.caller (all_at_rank r lists)) (calls_of_other r l.caller m.caller m.mine (λ h. omega arith))
      ∙ calls_of_all r (m.caller + 1) k lists l rise.1 e)

  calls_of_ranked : (m r k : ℕ) (lists : List (CallerList o)) (l : CallerList o) → RisesFrom 0 (callers_of o lists)
      → slice_get lists k ≡ Some l
      → calls_of o l.caller (by_rank r m lists) ≡ own_by_rank r m l.caller l.mine
  calls_of_ranked zero r k lists l rise e = refl
  calls_of_ranked (suc m) r k lists l rise e =
      calls_of-append l.caller (all_at_rank r lists) (by_rank (suc r) m lists)
      ∙ (ap (λ xs. xs ++ calls_of o l.caller (by_rank (suc r) m lists)) (calls_of_all r 0 k lists l rise e)
      ∙ ap (λ xs. at_rank r l.caller l.mine ++ xs) (calls_of_ranked m (suc r) k lists l rise e))

  -- a call below all ranks that are to come is left out
  own_skips : (m r caller : ℕ) (s : o.Placed) (mine : List o.Placed) → rank s < r
      → own_by_rank r m caller (s ∷ mine) ≡ own_by_rank r m caller mine
  own_skips zero r caller s mine lt = refl
  own_skips (suc m) r caller s mine lt =
      let test : eqb (rank s) r ≡ false = ne_eqb (rank s) r (λ e. omega arith) in
      let ih = own_skips m (suc r) caller s mine (omega arith) in
      rw test (ap (λ xs. at_rank r caller mine ++ xs) ih)

  none_at_rank : (r caller : ℕ) (mine : List o.Placed) → AtEach mine (λ _ t. r < rank t) → at_rank r caller mine ≡ []
  none_at_rank r caller [] above = refl
  none_at_rank r caller (t ∷ mine) above =
      let higher = above 0 t refl in
      let test : eqb (rank t) r ≡ false = ne_eqb (rank t) r (λ e. omega arith) in
      rw test (none_at_rank r caller mine (λ k u at. above (suc k) u at))

  -- a call of the lowest rank of a list comes first
  own_first : (m r caller : ℕ) (s : o.Placed) (mine : List o.Placed) → r ≤ rank s → rank s < r + m
      → AtEach mine (λ _ t. rank s ≤ rank t)
      → own_by_rank r m caller (s ∷ mine) ≡ history_call o caller s ∷ own_by_rank r m caller mine
  own_first zero r caller s mine low high least = absurd (omega arith)
  own_first (suc m) r caller s mine low high least =
      ⊎_elim
      (λ (here : rank s ≡ r).
      let test : eqb (rank s) r ≡ true = eq-eqb (rank s) r here in
      rw test (ap (λ xs. history_call o caller s ∷ (at_rank r caller mine ++ xs))
      (own_skips m (suc r) caller s mine (omega arith))))
      (λ (other : rank s ≡ r → ⊥).
      let test : eqb (rank s) r ≡ false = ne_eqb (rank s) r other in
      let none : at_rank r caller mine ≡ [] = none_at_rank r caller mine (λ k t at. let le = least k t at in omega arith) in
      let ih = own_first m (suc r) caller s mine (omega arith) (omega arith) least in
      rw (test, none) ih)
      (cases_eq (rank s) r)

  own_nil : (m r caller : ℕ) → own_by_rank r m caller [] ≡ []
  own_nil zero r caller = refl
  own_nil (suc m) r caller = own_nil m (suc r) caller

  -- Picking a list's calls rank by rank gives the list back, if its ranks never fall.
  own_whole : (m r caller : ℕ) (mine : List o.Placed) → AtEach mine (λ _ t. (r ≤ rank t) × (rank t < r + m))
      → ((i j : ℕ) (s t : o.Placed) → i < j → slice_get mine i ≡ Some s → slice_get mine j ≡ Some t → rank s ≤ rank t)
      → own_by_rank r m caller mine ≡ map (history_call o caller) mine
  own_whole m r caller [] within rising = own_nil m r caller
  own_whole m r caller (s ∷ mine) within rising =
      let here = within 0 s refl in
      own_first m r caller s mine here.0 here.1 (λ k t at. rising 0 (suc k) s t (omega arith) refl at)
      ∙ ap (λ xs. history_call o caller s ∷ xs)
      (own_whole m r caller mine (λ k t at. within (suc k) t at)
      (λ i j a b lt at_i at_j. rising (suc i) (suc j) a b (omega arith) at_i at_j))

  -- ranks never fall along calls that follow one another
  rank_follows : (s t : o.Placed) → Follows o s t → rank s ≤ rank t
  rank_follows s t follows =
      ⊎_elim
      (λ (change : o.changes (o.given t) ≡ true).
      let lt = follows.above change in
      ⊎_elim
      (λ (a : o.changes (o.given s) ≡ true). rw (a, change) (omega arith))
      (λ (b : o.changes (o.given s) ≡ false). rw (b, change) (omega arith))
      (cases_Bool (o.changes (o.given s))))
      (λ (none : o.changes (o.given t) ≡ false).
      let le = follows.rises in
      ⊎_elim
      (λ (a : o.changes (o.given s) ≡ true). rw (a, none) (omega arith))
      (λ (b : o.changes (o.given s) ≡ false). rw (b, none) (omega arith))
      (cases_Bool (o.changes (o.given s))))
      (cases_Bool (o.changes (o.given t)))

  -- a call that fits has one of the ranks of the log
  rank_within : (log : List o.Change) (caller number m : ℕ) (s : o.Placed) → m ≡ 2 * length log → Fits o log caller number s
      → (1 ≤ rank s) × (rank s < 1 + suc m)
  rank_within log caller number m s e fits =
      let within = fits_within o log caller number s fits in
      ⊎_elim
      (λ (change : o.changes (o.given s) ≡ true).
      let fits_so = as_change o log caller number s change fits in
      rw change (omega (arith, fits_so.place), omega arith))
      (λ (none : o.changes (o.given s) ≡ false). rw none (omega arith, omega arith))
      (cases_Bool (o.changes (o.given s)))

  -- Each caller's calls stand in the linearization in the order of its list.
  pub each_in_order : (log : List o.Change) (lists : List (CallerList o)) → IsRecordedRun o log lists
      → AtEach lists (λ k l. calls_of o l.caller (linearization o log lists) ≡ map (history_call o l.caller) l.mine)
  each_in_order log lists run k l at =
      let stands = run.stand k l at in
      let many = suc (double (length log)) in
      ap (calls_of o l.caller) (linearized_ranked (length log) 0 1 refl lists)
      ∙ (calls_of_ranked many 1 k lists l run.rise at
      ∙ own_whole many 1 l.caller l.mine
      (λ i t got. rank_within log l.caller (i + 1) (double (length log)) t (double_is (length log)) (stands.each i t got))
      (λ i j s t lt at_i at_j. rank_follows s t (stands.rising i j s t lt at_i at_j)))

  -- The law: the linearization of a recorded run is a history.
  pub is_history : RunsAreHistories o
  is_history log lists run = record {
    legal = legal_from o log lists run (length log) 0 (omega arith);
    each = each_in_order log lists run;
    no_other = callers_known o 0 (length log) lists;
  }
