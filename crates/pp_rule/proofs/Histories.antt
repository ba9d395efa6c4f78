-- The order of all steps with one step more, and its prefixes.
use Rattle.std.proofs.Common.{◌≡◌, ◌≢◌, ℕ, suc, ◌+◌, Bool, cond, eqb, true, false, List, [], ◌∷◌, ◌++◌, length, set, refl}
use Rattle.std.proofs.Common.{sym, ap, ◌∙◌, subst, append_assoc, append-nil, length-append, arith, eq-eqb, ne_eqb}
use Rattle.std.proofs.lemmas.List.{nil_from_length}
use Rattle.pp_rule.specs.Lists.{BeginsWith}
use Rattle.pp_rule.specs.Orders.{OrderEntry, LoggedStep, replayed, changes_of, steps_of, FindsWord, IsExecution, stores}
use Rattle.pp_rule.specs.Orders.{entries_of, log_of, made_by, placed_by, IsQuietStep}

module _ {A : Type 0} where
  pub begins_self : (xs : List A) → BeginsWith xs xs
  begins_self xs = ([], sym (append-nil xs))

  pub begins_more : (xs first more : List A) → BeginsWith xs first → BeginsWith (xs ++ more) first
  begins_more xs first more b = (b.0 ++ more, ap (λ l. l ++ more) b.1 ∙ append_assoc first b.0 more)

  pub begins_through : (xs ys zs : List A) → BeginsWith xs ys → BeginsWith ys zs → BeginsWith xs zs
  begins_through xs ys zs b c = (c.0 ++ b.0, b.1 ∙ (ap (λ l. l ++ b.0) c.1 ∙ append_assoc zs c.0 b.0))

module _ {E : Type 0} where
  replayed_snoc : (words : List ℕ) (es : List (OrderEntry E)) (e : OrderEntry E)
      → replayed words (es ++ e ∷ []) ≡ set (replayed words es) e.step.place e.left
  replayed_snoc words [] e = refl
  replayed_snoc words (x ∷ es) e = replayed_snoc (set words x.step.place x.left) es e

  changes_append : (es fs : List (OrderEntry E)) → changes_of (es ++ fs) ≡ changes_of es ++ changes_of fs
  changes_append [] fs = refl
  changes_append (x ∷ es) fs = ap (λ l. x.changes ++ l) (changes_append es fs)
      ∙ sym (append_assoc x.changes (changes_of es) (changes_of fs))

  steps_append : (p : ℕ) (es fs : List (OrderEntry E)) → steps_of p (es ++ fs) ≡ steps_of p es ++ steps_of p fs
  steps_append p [] fs = refl
  steps_append p (x ∷ es) fs = by (eqb x.pass p) (steps_append p es fs)
    where
      by : (b : Bool) → steps_of p (es ++ fs) ≡ steps_of p es ++ steps_of p fs
          → cond b (x.step ∷ steps_of p (es ++ fs)) (steps_of p (es ++ fs)) ≡ cond b (x.step ∷ steps_of p es)
          (steps_of p es) ++ steps_of p fs
      by true h = ap (λ l. x.step ∷ l) h
      by false h = h

  execution_snoc : (words : List ℕ) (seen : ℕ) (es : List (OrderEntry E)) (e : OrderEntry E) → IsExecution stores words seen es
      → FindsWord stores (replayed words es) e → e.step.seen ≡ seen + (length (changes_of es) + length e.changes)
      → IsExecution stores words seen (es ++ e ∷ [])
  execution_snoc words seen [] e run finds counts = (finds, (let none : length (changes_of {E = E} []) ≡ 0 = refl in omega arith), tt)
  execution_snoc words seen (x ∷ es) e run finds counts = (
    run.0,
    run.1,
    execution_snoc (set words x.step.place x.left) (seen + length x.changes) es e run.2 finds
        (let both = length-append x.changes (changes_of es) in omega arith),
  )

module _ {E A : Type 0} where
  pub entries_append : (xs ys : List (LoggedStep E A)) → entries_of (xs ++ ys) ≡ entries_of xs ++ entries_of ys
  unfolding entries_of
  entries_append [] ys = refl
  entries_append (x ∷ xs) ys = ap (λ l. x.entry ∷ l) (entries_append xs ys)

  entries_one : (s : LoggedStep E A) → entries_of (s ∷ []) ≡ s.entry ∷ []
  unfolding entries_of
  entries_one s = refl

  pub entries_snoc : (xs : List (LoggedStep E A)) (s : LoggedStep E A) → entries_of (xs ++ s ∷ []) ≡ entries_of xs ++ s.entry ∷ []
  entries_snoc xs s = entries_append xs (s ∷ []) ∙ ap (λ l. entries_of xs ++ l) (entries_one s)

  pub log_append : (xs ys : List (LoggedStep E A)) → log_of (xs ++ ys) ≡ log_of xs ++ log_of ys
  unfolding log_of
  log_append xs ys = ap changes_of (entries_append xs ys) ∙ changes_append (entries_of xs) (entries_of ys)

  pub log_snoc : (xs : List (LoggedStep E A)) (s : LoggedStep E A) → log_of (xs ++ s ∷ []) ≡ log_of xs ++ s.entry.changes
  unfolding log_of
  log_snoc xs s = ap changes_of (entries_snoc xs s) ∙ (changes_append (entries_of xs) (s.entry ∷ [])
      ∙ ap (λ l. changes_of (entries_of xs) ++ l) (append-nil s.entry.changes))

  -- what a pass has seen is a prefix of the log
  pub log_begins : (xs first : List (LoggedStep E A)) → BeginsWith xs first → BeginsWith (log_of xs) (log_of first)
  log_begins xs first b = (log_of b.0, ap log_of b.1 ∙ log_append first b.0)

  pub made_append : (p : ℕ) (xs ys : List (LoggedStep E A)) → made_by p (xs ++ ys) ≡ made_by p xs ++ made_by p ys
  unfolding made_by
  made_append p xs ys = ap (steps_of p) (entries_append xs ys) ∙ steps_append p (entries_of xs) (entries_of ys)

  pub made_here : (xs : List (LoggedStep E A)) (s : LoggedStep E A)
      → made_by s.entry.pass (xs ++ s ∷ []) ≡ made_by s.entry.pass xs ++ s.entry.step ∷ []
  unfolding made_by entries_of
  made_here xs s = made_append s.entry.pass xs (s ∷ [])
      ∙ ap (λ (b : Bool). made_by s.entry.pass xs ++ cond b (s.entry.step ∷ []) []) (eq-eqb s.entry.pass s.entry.pass refl)

  pub made_else : (p : ℕ) (xs : List (LoggedStep E A)) (s : LoggedStep E A) → s.entry.pass ≢ p → made_by p (xs ++ s ∷ []) ≡ made_by p xs
  unfolding made_by entries_of
  made_else p xs s ne = made_append p xs (s ∷ [])
      ∙ (ap (λ (b : Bool). made_by p xs ++ cond b (s.entry.step ∷ []) []) (ne_eqb s.entry.pass p ne) ∙ append-nil (made_by p xs))

  pub placed_append : (p : ℕ) (xs ys : List (LoggedStep E A)) → placed_by p (xs ++ ys) ≡ placed_by p xs ++ placed_by p ys
  unfolding placed_by
  placed_append p [] ys = refl
  placed_append p (x ∷ xs) ys = by (eqb x.entry.pass p) (placed_append p xs ys)
    where
      by : (b : Bool) → placed_by p (xs ++ ys) ≡ placed_by p xs ++ placed_by p ys
          → cond b (x.placed ++ placed_by p (xs ++ ys)) (placed_by p (xs ++ ys)) ≡ cond b (x.placed ++ placed_by p xs)
          (placed_by p xs) ++ placed_by p ys
      by true h = ap (λ l. x.placed ++ l) h ∙ sym (append_assoc x.placed (placed_by p xs) (placed_by p ys))
      by false h = h

  pub placed_here : (xs : List (LoggedStep E A)) (s : LoggedStep E A)
      → placed_by s.entry.pass (xs ++ s ∷ []) ≡ placed_by s.entry.pass xs ++ s.placed
  unfolding placed_by
  placed_here xs s = placed_append s.entry.pass xs (s ∷ [])
      ∙ (ap (λ (b : Bool). placed_by s.entry.pass xs ++ cond b (s.placed ++ []) []) (eq-eqb s.entry.pass s.entry.pass refl)
      ∙ ap (λ l. placed_by s.entry.pass xs ++ l) (append-nil s.placed))

  pub placed_else : (p : ℕ) (xs : List (LoggedStep E A)) (s : LoggedStep E A) → s.entry.pass ≢ p
      → placed_by p (xs ++ s ∷ []) ≡ placed_by p xs
  unfolding placed_by
  placed_else p xs s ne = placed_append p xs (s ∷ [])
      ∙ (ap (λ (b : Bool). placed_by p xs ++ cond b (s.placed ++ []) []) (ne_eqb s.entry.pass p ne) ∙ append-nil (placed_by p xs))

  -- a pass that made no step placed no call
  pub none_placed : (p : ℕ) (xs : List (LoggedStep E A)) → made_by p xs ≡ [] → placed_by p xs ≡ []
  unfolding made_by entries_of placed_by
  none_placed p [] e = refl
  none_placed p (x ∷ xs) e = by (eqb x.entry.pass p) (none_placed p xs) e
    where
      by : (b : Bool) → (made_by p xs ≡ [] → placed_by p xs ≡ []) → cond b (x.entry.step ∷ made_by p xs) (made_by p xs) ≡ []
          → cond b (x.placed ++ placed_by p xs) (placed_by p xs) ≡ []
      by true again bad = let long : suc (length (made_by p xs)) ≡ 0 = ap length bad in absurd (omega arith)
      by false again e = again e

  -- where no other step of the pass came between, no call of it was placed between
  pub placed_kept : (p : ℕ) (xs first : List (LoggedStep E A)) → BeginsWith xs first → made_by p xs ≡ made_by p first
      → placed_by p xs ≡ placed_by p first
  placed_kept p xs first b same = ap (placed_by p) b.1 ∙ (placed_append p first b.0
      ∙ (ap (λ l. placed_by p first ++ l) (none_placed p b.0 (nil_from_length (made_by p b.0)
      (let long = ap length (sym same ∙ (ap (made_by p) b.1 ∙ made_append p first b.0)) in
      let sum = length-append (made_by p first) (made_by p b.0) in omega arith)))
      ∙ append-nil (placed_by p first)))

  -- the order with one step more is what these words run to
  pub replayed_more : (opens : List ℕ) (xs : List (LoggedStep E A)) (s : LoggedStep E A)
      → replayed opens (entries_of (xs ++ s ∷ [])) ≡ set (replayed opens (entries_of xs)) s.entry.step.place s.entry.left
  replayed_more opens xs s = ap (replayed opens) (entries_snoc xs s) ∙ replayed_snoc opens (entries_of xs) s.entry

  pub run_more : (opens : List ℕ) (xs : List (LoggedStep E A)) (s : LoggedStep E A) → IsExecution stores opens 0 (entries_of xs)
      → FindsWord stores (replayed opens (entries_of xs)) s.entry → s.entry.step.seen ≡ length (log_of xs) + length s.entry.changes
      → IsExecution stores opens 0 (entries_of (xs ++ s ∷ []))
  unfolding log_of
  run_more opens xs s run finds counts = subst (IsExecution stores opens 0) (sym (entries_snoc xs s))
      (execution_snoc opens 0 (entries_of xs) s.entry run finds
      (let so_far : s.entry.step.seen ≡ length (changes_of (entries_of xs)) + length s.entry.changes = counts in omega arith))

  -- after a quiet step the log and the placed calls are as they were
  pub quiet_log : (xs ys : List (LoggedStep E A)) → IsQuietStep xs ys → log_of ys ≡ log_of xs
  quiet_log xs ys q = ap log_of q.is ∙ (log_snoc xs q.step ∙ (ap (λ l. log_of xs ++ l) q.no_change ∙ append-nil (log_of xs)))

  pub quiet_placed : (p : ℕ) (xs ys : List (LoggedStep E A)) → IsQuietStep xs ys → placed_by p ys ≡ placed_by p xs
  unfolding placed_by
  quiet_placed p xs ys q = ap (placed_by p) q.is ∙ (placed_append p xs (q.step ∷ [])
      ∙ (ap (λ l. placed_by p xs ++ l) (by (eqb q.step.entry.pass p)) ∙ append-nil (placed_by p xs)))
    where
      by : (b : Bool) → cond b (q.step.placed ++ []) [] ≡ []
      by true = append-nil q.step.placed ∙ q.no_call
      by false = refl
