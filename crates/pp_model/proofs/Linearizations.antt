-- The linearization of a recorded run is legal, for any sequential object.
use Rattle.std.proofs.Common.{◌≡◌, ℕ, zero, suc, ◌+◌, ◌<◌, ◌≤◌, Bool, true, false, cond, not, eqb, List, [], ◌∷◌, ◌++◌, length}
use Rattle.std.proofs.Common.{take, Some, ⊎_elim, refl, sym, ap, ◌∙◌, subst, arith, length-append}
use Rattle.std.proofs.Common.{append-nil, eq-eqb, ne_eqb}
use Rattle.std.specs.Prelude.{slice_get}
use Rattle.std.proofs.lemmas.Bool.{cases_eq, cases_Bool, and_parts, eqb-true, not-true}
use Rattle.pp_model.specs.Lists.{AtEach, RisesFrom, times}
use Rattle.pp_model.specs.Objects.{Object, run_from, after, FitsAsChange, FitsUnchanged, FitsBy, Fits, places_from, places_in}
use Rattle.pp_model.specs.Objects.{places_of, Stands, CallerList, HistoryCall, history_call, LegalFrom, stands_at, calls_at}
use Rattle.pp_model.specs.Objects.{all_calls_at, linearized_from, callers_of, HasList, IsRecordedRun}
use Rattle.pp_model.proofs.Positions.{each_append, each_cons}
use Rattle.pp_model.proofs.Logs.{run_from-append}

take_next : {A : Type 0} → (xs : List A) (p : ℕ) (x : A) → slice_get xs p ≡ Some x → take (suc p) xs ≡ take p xs ++ x ∷ []
take_next [] p x e = absurd cc
take_next (y ∷ xs) zero x e = let is : y ≡ x = cc in ap (λ z. z ∷ []) is
take_next (y ∷ xs) (suc p) x e = ap (λ zs. y ∷ zs) (take_next xs p x e)

module _ (o : Object) where
  -- what holds of a caller's placed calls at a place holds of the calls there
  each_at : (P : HistoryCall o → Type 0) (change : Bool) (q caller : ℕ) (mine : List o.Placed)
      → AtEach mine (λ _ s. stands_at o change q s ≡ true → P (history_call o caller s))
      → AtEach (calls_at o change q caller mine) (λ _ x. P x)
  each_at P change q caller [] each i x e = absurd cc
  each_at P change q caller (s ∷ mine) each i x e =
      let ih : AtEach (calls_at o change q caller mine) (λ _ y. P y) =
      each_at P change q caller mine (λ k t at. each (suc k) t at) in
      ⊎_elim
      (λ (here : stands_at o change q s ≡ true).
      each_cons P (history_call o caller s) (calls_at o change q caller mine) (each 0 s refl here) ih i x (rw here at e))
      (λ (other : stands_at o change q s ≡ false). ih i x (rw other at e))
      (cases_Bool (stands_at o change q s))

  each_at_all : (P : HistoryCall o → Type 0) (change : Bool) (q : ℕ) (lists : List (CallerList o))
      → AtEach lists (λ _ l. AtEach l.mine (λ _ s. stands_at o change q s ≡ true → P (history_call o l.caller s)))
      → AtEach (all_calls_at o change q lists) (λ _ x. P x)
  each_at_all P change q [] each i x e = absurd cc
  each_at_all P change q (l ∷ lists) each i x e =
      each_append P (calls_at o change q l.caller l.mine) (all_calls_at o change q lists)
      (each_at P change q l.caller l.mine (each 0 l refl))
      (each_at_all P change q lists (λ k m at. each (suc k) m at)) i x e

  -- Each call of the linearization is of a caller that has a list.
  callers_at : (change : Bool) (q : ℕ) (lists : List (CallerList o))
      → AtEach (all_calls_at o change q lists) (λ _ s. HasList o s.caller lists)
  callers_at change q lists =
      each_at_all (λ s. HasList o s.caller lists) change q lists
      (λ k l at i s got here. record { position = k; mine = l.mine; is_one = at })

  pub callers_known : (p n : ℕ) (lists : List (CallerList o))
      → AtEach (linearized_from o p n lists) (λ _ s. HasList o s.caller lists)
  callers_known p zero lists = callers_at false p lists
  callers_known p (suc n) lists =
      each_append (λ s. HasList o s.caller lists) (all_calls_at o false p lists)
      (all_calls_at o true (p + 1) lists ++ linearized_from o (p + 1) n lists)
      (callers_at false p lists)
      (each_append (λ s. HasList o s.caller lists) (all_calls_at o true (p + 1) lists) (linearized_from o (p + 1) n lists)
      (callers_at true (p + 1) lists)
      (callers_known (p + 1) n lists))

  -- one change on
  pub after_next : (log : List o.Change) (p : ℕ) (c : o.Change) → slice_get log p ≡ Some c
      → o.next (after o log p) (o.call c) ≡ after o log (p + 1)
  after_next log p c e =
      let next : p + 1 ≡ suc p = omega arith in
      sym (ap (after o log) next
      ∙ (ap (run_from o o.initial) (take_next log p c e) ∙ run_from-append o o.initial (take p log) (c ∷ [])))

  -- the calls that changed nothing at a place leave the state there
  legal_unchanged : (m : o.State) (xs ys : List (HistoryCall o))
      → AtEach xs (λ _ s. (o.reply m s.call ≡ s.reply) × (o.next m s.call ≡ m))
      → LegalFrom o m ys → LegalFrom o m (xs ++ ys)
  legal_unchanged m [] ys each legal = legal
  legal_unchanged m (s ∷ xs) ys each legal =
      let here = each 0 s refl in
      (here.0, subst (λ n. LegalFrom o n (xs ++ ys)) (sym here.1) (legal_unchanged m xs ys (λ k t at. each (suc k) t at) legal))

  -- one call that changes the state to another
  legal_change : (m m' : o.State) (xs ys : List (HistoryCall o)) → length xs ≡ 1
      → AtEach xs (λ _ s. (o.reply m s.call ≡ s.reply) × (o.next m s.call ≡ m'))
      → LegalFrom o m' ys → LegalFrom o m (xs ++ ys)
  legal_change m m' [] ys one each legal = absurd (omega arith)
  legal_change m m' (s ∷ []) ys one each legal =
      let here = each 0 s refl in
      (here.0, subst (λ n. LegalFrom o n ys) (sym here.1) legal)
  legal_change m m' (s ∷ t ∷ xs) ys one each legal = absurd (omega arith)

  -- so many changes as the list has places of changes there
  length-calls_at : (q caller : ℕ) (mine : List o.Placed) → length (calls_at o true q caller mine) ≡ times q (places_of o mine)
  length-calls_at q caller [] = refl
  length-calls_at q caller (s ∷ mine) =
      let ih = length-calls_at q caller mine in
      ⊎_elim
      (λ (change : o.changes (o.given s) ≡ true).
      ⊎_elim
      (λ (here : o.place s ≡ q).
      let test : eqb (o.place s) q ≡ true = eq-eqb (o.place s) q here in
      rw (change, test) (omega (arith, ih)))
      (λ (other : o.place s ≡ q → ⊥). let test : eqb (o.place s) q ≡ false = ne_eqb (o.place s) q other in rw (change, test) ih)
      (cases_eq (o.place s) q))
      (λ (none : o.changes (o.given s) ≡ false). rw none ih)
      (cases_Bool (o.changes (o.given s)))

  times_low : (n base caller : ℕ) (log : List o.Change) → n ≤ base → times n (places_from o base caller log) ≡ 0
  times_low n base caller [] le = refl
  times_low n base caller (c ∷ log) le =
      let ih = times_low n (base + 1) caller log (omega arith) in
      let other : eqb (base + 1) n ≡ false = ne_eqb (base + 1) n (λ e. omega arith) in
      ⊎_elim
      (λ (same : eqb (o.caller c) caller ≡ true). rw (same, other) ih)
      (λ (apart : eqb (o.caller c) caller ≡ false). rw apart ih)
      (cases_Bool (eqb (o.caller c) caller))

  -- a caller's places have the place of a change once, if the change is its own, and else never
  times_places : (base i caller : ℕ) (log : List o.Change) (c : o.Change) → slice_get log i ≡ Some c
      → times (base + i + 1) (places_from o base caller log) ≡ cond (eqb (o.caller c) caller) 1 0
  times_places base i caller [] c e = absurd cc
  times_places base zero caller (d ∷ log) c e =
      let is : d ≡ c = cc in
      let low = times_low (base + 0 + 1) (base + 1) caller log (omega arith) in
      let here : eqb (base + 1) (base + 0 + 1) ≡ true = eq-eqb (base + 1) (base + 0 + 1) (omega arith) in
      subst (λ x. times (base + 0 + 1) (places_from o base caller (d ∷ log)) ≡ cond (eqb (o.caller x) caller) 1 0) is
      (⊎_elim
      (λ (same : eqb (o.caller d) caller ≡ true). rw (same, here) (omega (arith, low)))
      (λ (apart : eqb (o.caller d) caller ≡ false). rw apart low)
      (cases_Bool (eqb (o.caller d) caller)))
  times_places base (suc i) caller (d ∷ log) c e =
      let other : eqb (base + 1) (base + suc i + 1) ≡ false = ne_eqb (base + 1) (base + suc i + 1) (λ h. omega arith) in
      let number : base + 1 + i + 1 ≡ base + suc i + 1 = omega arith in
      let ih = ap (λ n. times n (places_from o (base + 1) caller log)) (sym number) ∙ times_places (base + 1) i caller log c e in
      ⊎_elim
      (λ (same : eqb (o.caller d) caller ≡ true). rw (same, other) ih)
      (λ (apart : eqb (o.caller d) caller ≡ false). rw apart ih)
      (cases_Bool (eqb (o.caller d) caller))

  -- a caller that stands in the lists has at least the first number
  pub low_caller : (low k : ℕ) (lists : List (CallerList o)) (l : CallerList o) → RisesFrom low (callers_of o lists)
      → slice_get lists k ≡ Some l → low ≤ l.caller
  low_caller low k [] l r e = absurd cc
  low_caller low zero (m ∷ lists) l r e = let is : m ≡ l = cc in omega (arith, r.0, ap (λ (x : CallerList o). x.caller) is)
  low_caller low (suc k) (m ∷ lists) l r e = omega (arith, r.0, low_caller (m.caller + 1) k lists l r.1 e)

  module _ (log : List o.Change) (p : ℕ) (c : o.Change) (logged : slice_get log p ≡ Some c) where
    -- a caller's list has one change at the place of its own change, and none at another caller's
    count_at : (caller : ℕ) (mine : List o.Placed) → Stands o log caller mine
        → length (calls_at o true (p + 1) caller mine) ≡ cond (eqb (o.caller c) caller) 1 0
    count_at caller mine stands =
        let number : p + 1 ≡ 0 + p + 1 = omega arith in
        length-calls_at (p + 1) caller mine
        ∙ (ap (times (p + 1)) (sym stands.all)
        ∙ (ap (λ n. times n (places_in o caller log)) number ∙ times_places 0 p caller log c logged))

    count_none : (low : ℕ) (lists : List (CallerList o)) → RisesFrom low (callers_of o lists) → o.caller c < low
        → AtEach lists (λ _ l. Stands o log l.caller l.mine) → length (all_calls_at o true (p + 1) lists) ≡ 0
    count_none low [] r l stand = refl
    count_none low (m ∷ lists) r l stand =
        let here = count_at m.caller m.mine (stand 0 m refl) in
        let test : eqb (o.caller c) m.caller ≡ false = ne_eqb (o.caller c) m.caller (λ e. omega (arith, r.0)) in
        let none : length (calls_at o true (p + 1) m.caller m.mine) ≡ 0 = rw test at here in
        let rest = count_none (m.caller + 1) lists r.1 (omega (arith, r.0)) (λ k n at. stand (suc k) n at) in
        omega (arith, none, rest, length-append (calls_at o true (p + 1) m.caller m.mine) (all_calls_at o true (p + 1) lists))

    -- All lists together have one change at the place of a change.
    count_one : (low k : ℕ) (lists : List (CallerList o)) (l : CallerList o) → RisesFrom low (callers_of o lists)
        → slice_get lists k ≡ Some l → l.caller ≡ o.caller c → AtEach lists (λ _ l. Stands o log l.caller l.mine)
        → length (all_calls_at o true (p + 1) lists) ≡ 1
    count_one low k [] l r e own stand = absurd cc
    count_one low zero (m ∷ lists) l r e own stand =
        let is : m ≡ l = cc in
        let same : o.caller c ≡ m.caller = sym own ∙ sym (ap (λ (x : CallerList o). x.caller) is) in
        let test : eqb (o.caller c) m.caller ≡ true = eq-eqb (o.caller c) m.caller same in
        let one : length (calls_at o true (p + 1) m.caller m.mine) ≡ 1 = rw test at (count_at m.caller m.mine (stand 0 m refl)) in
        let rest = count_none (m.caller + 1) lists r.1 (omega arith) (λ k n at. stand (suc k) n at) in
        omega (arith, one, rest, length-append (calls_at o true (p + 1) m.caller m.mine) (all_calls_at o true (p + 1) lists))
    count_one low (suc k) (m ∷ lists) l r e own stand =
        let above = low_caller (m.caller + 1) k lists l r.1 e in
        let test : eqb (o.caller c) m.caller ≡ false = ne_eqb (o.caller c) m.caller (λ h. omega arith) in
        let none : length (calls_at o true (p + 1) m.caller m.mine) ≡ 0 =
        rw test at (count_at m.caller m.mine (stand 0 m refl)) in
        let rest = count_one (m.caller + 1) k lists l r.1 e own (λ j n at. stand (suc j) n at) in
        omega (arith, none, rest, length-append (calls_at o true (p + 1) m.caller m.mine) (all_calls_at o true (p + 1) lists))

  -- a placed change that fits stands in the log at its place
  pub as_change : (log : List o.Change) (caller number : ℕ) (s : o.Placed) → o.changes (o.given s) ≡ true
      → Fits o log caller number s → FitsAsChange o log caller number s
  as_change log caller number s change fits = subst (λ b. FitsBy o b log caller number s) change fits

  pub as_unchanged : (log : List o.Change) (caller number : ℕ) (s : o.Placed) → o.changes (o.given s) ≡ false
      → Fits o log caller number s → FitsUnchanged o log s
  as_unchanged log caller number s none fits = subst (λ b. FitsBy o b log caller number s) none fits

  module _ (log : List o.Change) (lists : List (CallerList o)) (run : IsRecordedRun o log lists) where
    -- the calls that changed nothing are right at their place, and leave the state
    unchanged_here : (p : ℕ) → AtEach (all_calls_at o false p lists)
        (λ _ x. (o.reply (after o log p) x.call ≡ x.reply) × (o.next (after o log p) x.call ≡ after o log p))
    unchanged_here p = each_at_all
        (λ x. (o.reply (after o log p) x.call ≡ x.reply) × (o.next (after o log p) x.call ≡ after o log p)) false p lists
        (λ k l at i s got here.
        let parts = and_parts (not (o.changes (o.given s))) (eqb (o.place s) p) here in
        let none : o.changes (o.given s) ≡ false = not-true (o.changes (o.given s)) parts.0 in
        let place : o.place s ≡ p = eqb-true (o.place s) p parts.1 in
        let fits = as_unchanged log l.caller (i + 1) s none ((run.stand k l at).each i s got) in
        let right : o.reply (after o log p) (o.asked s) ≡ o.given s = rw place at fits.right in
        (right, o.still (after o log p) (o.asked s) (ap o.changes right ∙ none)))

    -- the change at a place is right before it, and leads to the next state
    change_here : (p : ℕ) → AtEach (all_calls_at o true (p + 1) lists)
        (λ _ x. (o.reply (after o log p) x.call ≡ x.reply) × (o.next (after o log p) x.call ≡ after o log (p + 1)))
    change_here p = each_at_all
        (λ x. (o.reply (after o log p) x.call ≡ x.reply) × (o.next (after o log p) x.call ≡ after o log (p + 1)))
        true (p + 1) lists (λ k l at i s got here.
        let parts = and_parts (o.changes (o.given s)) (eqb (o.place s) (p + 1)) here in
        let place : o.place s ≡ p + 1 = eqb-true (o.place s) (p + 1) parts.1 in
        let fits = as_change log l.caller (i + 1) s parts.0 ((run.stand k l at).each i s got) in
        let before : fits.before ≡ p = omega (arith, fits.place, place) in
        let right : o.reply (after o log p) (o.asked s) ≡ o.given s = rw before at fits.right in
        let logged : slice_get log p ≡ Some (o.change l.caller (i + 1) (o.asked s)) = rw before at fits.logged in
        let is = o.call_is l.caller (i + 1) (o.asked s) in
        (right, ap (o.next (after o log p)) (sym is) ∙ after_next log p (o.change l.caller (i + 1) (o.asked s)) logged))

    pub legal_from : (n p : ℕ) → p + n ≡ length log → LegalFrom o (after o log p) (linearized_from o p n lists)
    legal_from zero p e =
        let alone = legal_unchanged (after o log p) (all_calls_at o false p lists) [] (unchanged_here p) tt in
        subst (LegalFrom o (after o log p)) (append-nil (all_calls_at o false p lists)) alone
    legal_from (suc n) p e =
        let c = logged log p (omega arith) in
        let own = run.known p c.0 c.1 in
        let one = count_one log p c.0 c.1 0 own.position lists (record { caller = o.caller c.0; mine = own.mine }) run.rise
        own.is_one refl run.stand in
        legal_unchanged (after o log p) (all_calls_at o false p lists)
        (all_calls_at o true (p + 1) lists ++ linearized_from o (p + 1) n lists) (unchanged_here p)
        (legal_change (after o log p) (after o log (p + 1)) (all_calls_at o true (p + 1) lists)
        (linearized_from o (p + 1) n lists) one (change_here p)
        (legal_from n (p + 1) (omega arith)))
      where
        logged : (xs : List o.Change) (i : ℕ) → i < length xs → (x : o.Change) × (slice_get xs i ≡ Some x)
        logged [] i l = absurd (omega arith)
        logged (x ∷ xs) zero l = (x, refl)
        logged (x ∷ xs) (suc i) l = logged xs i (omega arith)
