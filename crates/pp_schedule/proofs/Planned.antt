-- A run by a plan makes its turns in the plan's order, and is a run of turns.
use Rattle.std.proofs.Common.{◌≡◌, ◌≢◌, ℕ, zero, suc, ◌+◌, ◌-◌, ◌<◌, ◌≤◌, true, false, cond, List, [], ◌∷◌, ◌++◌, length}
use Rattle.std.proofs.Common.{replicate}
use Rattle.std.proofs.Common.{Some, ⊎_elim, refl, sym, ap, ◌∙◌, arith, eq-eqb, ne_eqb}
use Rattle.std.specs.Prelude.{slice_get, nat_eq}
use Rattle.std.proofs.lemmas.Bool.{cases_eq}
use Rattle.std.proofs.lemmas.Option.{slice_get_within}
use Rattle.pp_model.specs.Lists.{times}
use Rattle.pp_model.specs.Pass.{MapSizes, Meaning}
use Rattle.pp_schedule.specs.Calls.{CallerAt, Has, goes_on, begins, CallerTurn}
use Rattle.pp_schedule.specs.Plays.{less_one, rising, turns_by, Moment, Answered, Move, Plays, ended, passed, planned, rest}

replicate_none : (n k : ℕ) → n ≡ 0 → replicate n k ≡ []
replicate_none zero k e = refl
replicate_none (suc n) k e = absurd (omega (arith, e))

rising_same : (k n : ℕ) (f g : ℕ → ℕ) → ((d : ℕ) → f d ≡ g d) → rising k n f ≡ rising k n g
rising_same k zero f g same = refl
rising_same k (suc n) f g same =
    ap (λ m. replicate m k ++ rising (k + 1) n f) (same k) ∙ ap (λ xs. replicate (g k) k ++ xs) (rising_same (k + 1) n f g same)

less_same : (c : ℕ) (f g : ℕ → ℕ) → ((d : ℕ) → f d ≡ g d) → (d : ℕ) → less_one c f d ≡ less_one c g d
less_same c f g same d = ap (λ m. cond (nat_eq d c) (m - 1) m) (same d)

turns_same : (n : ℕ) (plan : List ℕ) (f g : ℕ → ℕ) → ((d : ℕ) → f d ≡ g d) → turns_by n plan f ≡ turns_by n plan g
turns_same n [] f g same = rising_same 0 n f g same
turns_same n (c ∷ plan) f g same =
    let skip = turns_same n plan f g same in
    let take_it = turns_same n plan (less_one c f) (less_one c g) (less_same c f g same) in
    ap (λ m. cond (nat_eq m 0) (turns_by n plan f) (c ∷ turns_by n plan (less_one c f))) (same c)
    ∙ (ap (λ xs. cond (nat_eq (g c) 0) xs (c ∷ turns_by n plan (less_one c f))) skip
    ∙ ap (λ xs. cond (nat_eq (g c) 0) (turns_by n plan g) (c ∷ xs)) take_it)

rising_none : (k n : ℕ) (f : ℕ → ℕ) → ((d : ℕ) → f d ≡ 0) → rising k n f ≡ []
rising_none k zero f none = refl
rising_none k (suc n) f none = rw (replicate_none (f k) k (none k)) (rising_none (k + 1) n f none)

turns_none : (n : ℕ) (plan : List ℕ) (f : ℕ → ℕ) → ((d : ℕ) → f d ≡ 0) → turns_by n plan f ≡ []
turns_none n [] f none = rising_none 0 n f none
turns_none n (c ∷ plan) f none = rw (none c) (turns_none n plan f none)

-- from a caller on above c nothing changes
rising_above : (k n c : ℕ) (f g : ℕ → ℕ) → c < k → ((d : ℕ) → d ≢ c → f d ≡ g d) → rising k n f ≡ rising k n g
rising_above k zero c f g above same = refl
rising_above k (suc n) c f g above same =
    let here : f k ≡ g k = same k (λ e. omega (arith, above, e)) in
    ap (λ m. replicate m k ++ rising (k + 1) n f) here
    ∙ ap (λ xs. replicate (g k) k ++ xs) (rising_above (k + 1) n c f g (omega (arith, above)) same)

-- the first caller that has a turn left makes it
rising_first : (k n c : ℕ) (f g : ℕ → ℕ) → k ≤ c → c < k + n → f c ≡ g c + 1 → ((d : ℕ) → d < c → f d ≡ 0)
    → ((d : ℕ) → d ≢ c → f d ≡ g d) → rising k n f ≡ c ∷ rising k n g
rising_first k zero c f g low high one zeros same = absurd (omega (arith, low, high))
rising_first k (suc n) c f g low high one zeros same =
    ⊎_elim
    (λ (here : k ≡ c).
    let count : f k ≡ suc (g k) = ap f here ∙ (one ∙ (omega arith ∙ ap (λ m. suc (g m)) (sym here))) in
    let above = rising_above (k + 1) n c f g (omega (arith, here)) same in
    ap (λ m. replicate m k ++ rising (k + 1) n f) count
    ∙ (ap (λ xs. k ∷ replicate (g k) k ++ xs) above ∙ ap (λ m. m ∷ replicate (g k) k ++ rising (k + 1) n g) here))
    (λ (other : k ≡ c → ⊥).
    let none : f k ≡ 0 = zeros k (lower other) in
    let none' : g k ≡ 0 = sym (same k other) ∙ none in
    let ih = rising_first (k + 1) n c f g (omega (arith, lower other)) (omega (arith, high)) one zeros same in
    ap (λ xs. xs ++ rising (k + 1) n f) (replicate_none (f k) k none)
    ∙ (ih ∙ ap (λ xs. c ∷ xs ++ rising (k + 1) n g) (sym (replicate_none (g k) k none'))))
    (cases_eq k c)
  where
    lower : (k ≡ c → ⊥) → k < c
    lower other = omega (arith, low, other)

times_other : (c d : ℕ) (xs : List ℕ) → d ≢ c → times d (c ∷ xs) ≡ times d xs
times_other c d xs other = let test : nat_eq c d ≡ false = ne_eqb c d (λ e. other (sym e)) in rw test refl

times_own : (c : ℕ) (xs : List ℕ) → times c (c ∷ xs) ≡ times c xs + 1
times_own c xs = let test : nat_eq c c ≡ true = eq-eqb c c refl in rw test refl

module _ (meaning : Meaning) (sizes : MapSizes) (races : ℕ) where
  no_turn : (told : _) (v w : CallerAt) → Answered v → CallerTurn meaning sizes races told v w → ⊥
  no_turn told v w a t = by t.has
    where
      by : Has races v t.going t.before w.calls → ⊥
      by (goes_on is same) = let e = sym a.none_going ∙ is in cc
      by (begins call none calls same begun) = let e = sym a.none_left ∙ calls in cc

  by_move : (s t : Moment) (c : ℕ) (turns : List ℕ) (d : ℕ) → Move meaning sizes races s c t
      → (((v : CallerAt) → slice_get t.callers d ≡ Some v → Answered v) → times d turns ≡ 0)
      → ((v : CallerAt) → slice_get s.callers d ≡ Some v → Answered v) → times d (c ∷ turns) ≡ 0
  by_move s t c turns d move later answered =
      ⊎_elim
      (λ (same : d ≡ c).
      absurd (no_turn s.told move.was move.now (answered move.was (ap (slice_get s.callers) same ∙ move.is_was)) move.turn))
      (λ (other : d ≡ c → ⊥).
      times_other c d turns other ∙ later (λ v at. answered v (sym (move.others d other) ∙ at)))
      (cases_eq d c)

  answered_rests : (plan : List ℕ) (s t : Moment) (turns : List ℕ) → Plays meaning sizes races plan s turns t → (d : ℕ)
      → ((v : CallerAt) → slice_get s.callers d ≡ Some v → Answered v) → times d turns ≡ 0
  answered_rests plan s t turns (ended _ all) d answered = refl
  answered_rests plan s t turns (passed c plan' _ _ _ over plays) d answered = answered_rests plan' s t turns plays d answered
  answered_rests plan s t turns (planned c plan' _ m _ later move plays) d answered =
      by_move s m c later d move (answered_rests plan' m t later plays d) answered
  answered_rests plan s t turns (rest c _ m _ later low move plays) d answered =
      by_move s m c later d move (answered_rests [] m t later plays d) answered

  less_times : (c : ℕ) (xs : List ℕ) (d : ℕ) → less_one c (λ e. times e (c ∷ xs)) d ≡ times d xs
  less_times c xs d =
      ⊎_elim
      (λ (same : d ≡ c).
      let test : nat_eq d c ≡ true = eq-eqb d c same in
      let count : times d (c ∷ xs) ≡ times d xs + 1 = ap (λ e. times e (c ∷ xs)) same
      ∙ (times_own c xs ∙ ap (λ e. times e xs + 1) (sym same)) in
      rw test (omega (arith, count)))
      (λ (other : d ≡ c → ⊥).
      let test : nat_eq d c ≡ false = ne_eqb d c other in
      rw test (times_other c d xs other))
      (cases_eq d c)

  -- The turns are made in the order that the plan gives for as many turns of each caller.
  pub planned_order : (plan : List ℕ) (s t : Moment) (turns : List ℕ) → Plays meaning sizes races plan s turns t
      → turns ≡ turns_by (length s.callers) plan (λ c. times c turns)
  planned_order plan s t turns (ended _ all) = sym (turns_none (length s.callers) [] (λ c. times c []) (λ d. refl))
  planned_order plan s t turns (passed c plan' _ _ _ over plays) =
      let none : times c turns ≡ 0 = answered_rests plan' s t turns plays c over in
      let test : nat_eq (times c turns) 0 ≡ true = eq-eqb (times c turns) 0 none in
      rw test (planned_order plan' s t turns plays)
  planned_order plan s t turns (planned c plan' _ m _ later move plays) =
      let some : times c (c ∷ later) ≡ times c later + 1 = times_own c later in
      let test : nat_eq (times c (c ∷ later)) 0 ≡ false = ne_eqb (times c (c ∷ later)) 0 (λ e. omega (arith, e, some)) in
      let ih = planned_order plan' m t later plays in
      let same = turns_same (length s.callers) plan' (λ e. times e later) (less_one c (λ e. times e (c ∷ later)))
      (λ d. sym (less_times c later d)) in
      let many = ap (λ n. turns_by n plan' (λ e. times e later)) move.as_many in
      let whole : (c ∷ later) ≡ c ∷ turns_by (length s.callers) plan' (less_one c (λ e. times e (c ∷ later))) =
      ap (λ xs. c ∷ xs) (ih ∙ (many ∙ same)) in
      whole ∙ sym (ap (λ b. cond b (turns_by (length s.callers) plan' (λ e. times e (c ∷ later)))
      (c ∷ turns_by (length s.callers) plan' (less_one c (λ e. times e (c ∷ later))))) test)
  planned_order plan s t turns (rest c _ m _ later low move plays) =
      let ih = planned_order [] m t later plays in
      let many = ap (λ n. rising 0 n (λ e. times e later)) move.as_many in
      let within = slice_get_within s.callers c move.was move.is_was in
      let zeros : (d : ℕ) → d < c → times d (c ∷ later) ≡ 0 =
      λ d lt. by_move s m c later d move (answered_rests [] m t later plays d) (λ v at. low d v lt at) in
      let first = rising_first 0 (length s.callers) c (λ e. times e (c ∷ later)) (λ e. times e later) (omega arith)
      (omega (arith, within))
      (times_own c later) zeros (λ d other. times_other c d later other) in
      ap (λ xs. c ∷ xs) (ih ∙ many) ∙ sym first
