-- A removed chain, and the one source that leads to it.
use Rattle.std.proofs.Common.{◌≡◌, ◌≢◌, ◌⊎◌, inl, inr, ⊎_elim, ℕ, zero, suc, ◌<◌, ◌≤◌, List}
use Rattle.std.proofs.Common.{[], ◌∷◌, sym, ap, ◌∙◌, subst, arith}
use Rattle.std.proofs.Math.Decide.{ℕ_discrete}
use mathlib.Core.Logic.{dite}
use mathlib.Core.Option.{some, some-injective, some-ne-none}
use lib.ListN.{get_elem?}
use Rattle.pp_link.specs.Links.{target, invalid_bit, flag_bit}
use Rattle.pp_link.specs.Places.{IsNumber}
use Rattle.pp_link.specs.declared.layout.Sizes.{Sizes}
use Rattle.pp_rule.specs.Lists.{IsIn}
use Rattle.pp_rule.specs.States.{attached, IsLinked}
use Rattle.pp_lists.specs.Walks.{Heap, Source, at_head, at_record, word_at, IsLive, bucket, bucket_at, IsBelow, Sane}
use Rattle.pp_lists.specs.Walks.{Listed, Joined, Intact, numbers}
use Rattle.pp_lists.specs.Walks.Joined.{done, more}
use Rattle.pp_lists.specs.declared.own.Gathered.{Gathered}
use Rattle.pp_lists.proofs.Answering.{less_or}

pub in_first : {X : Type 0} (x y : X) (ys : List X) → x ≡ y → IsIn y (x ∷ ys)
in_first x y ys e = (zero, ap some e)

pub in_rest : {X : Type 0} (x y : X) (ys : List X) → IsIn y ys → IsIn y (x ∷ ys)
in_rest x y ys i = (suc i.0, i.1)

pub in_none : {X : Type 0} (y : X) → IsIn y [] → ⊥
in_none y i = some-ne-none y (sym i.1)

pub in_cases : {X : Type 0} (x y : X) (ys : List X) → IsIn y (x ∷ ys) → (x ≡ y) ⊎ IsIn y ys
in_cases {X} x y ys i = go i.0 i.1
  where
    go : (k : ℕ) → get_elem? (x ∷ ys) k ≡ some y → (x ≡ y) ⊎ IsIn y ys
    go zero e = inl (some-injective x y e)
    go (suc k) e = inr (k, e)

pub in_or : (n : ℕ) (xs : List ℕ) → IsIn n xs ⊎ (IsIn n xs → ⊥)
in_or n [] = inr (in_none n)
in_or n (x ∷ xs) = dite (ℕ_discrete x n) (λ e. inl (in_first x n xs e))
    (λ ne. ⊎_elim (λ (i : IsIn n xs). inl (in_rest x n xs i))
    (λ (out : IsIn n xs → ⊥). inr (λ i. ⊎_elim ne out (in_cases x n xs i))) (in_or n xs))

module _ (z : Sizes) (t : Heap) where
  -- what stands of each record of the chain
  pub record Link (n : ℕ) : Type 0 where
    pub number : IsNumber z n
    pub state : t.status n ≡ attached
    pub flag : flag_bit (t.link n) ≡ 1

  pub each_link : (n m : ℕ) (cs : List Gathered) (x : ℕ) → Joined n cs x → Intact z t cs → IsIn m (numbers cs) → Link m
  unfolding Intact
  each_link n m [] x (done e) i inside = absurd (in_none m inside)
  each_link n m (c ∷ cs) x (more ne number flag valid rest) i inside = ⊎_elim
      (λ (e : c.number ≡ m). record {
        number = subst (IsNumber z) e i.0;
        state = ap t.status (sym e)
            ∙ i.1;
        flag = ap (λ (k : ℕ). flag_bit (t.link k)) (sym e) ∙ (ap flag_bit i.2 ∙ flag);
      })
      (λ (i' : IsIn m (numbers cs)). each_link (target c.link) m cs x rest i.3 i')
      (in_cases c.number m (numbers cs) inside)

  module _ (sane : Sane z t) (l : Listed z t) where
    -- keys rise along the chain
    pub chain_up : (n : ℕ) (cs : List Gathered) (x : ℕ) → Joined n cs x → Intact z t cs → x ≢ 0 → (n ≢ 0) × (t.key n ≤ t.key x)
        × (bucket z.heads (t.key x) ≡ bucket z.heads (t.key n))
    unfolding Intact
    chain_up n [] x (done e) i some_x = (
      (λ nil. some_x (sym e ∙ nil)),
      subst (λ (y : ℕ). t.key n ≤ t.key y) e (omega arith),
      ap (λ (y : ℕ). bucket z.heads (t.key y)) (sym e),
    )
    chain_up n (c ∷ cs) x (more ne number flag valid rest) i some_x = let up = chain_up (target c.link) cs x rest i.3 some_x in
        let link : t.link n ≡ c.link = ap t.link (sym number) ∙ i.2 in let is_n : IsNumber z n = subst (IsNumber z) number i.0 in
        let st : t.status n ≡ attached = ap t.status (sym number) ∙ i.1 in
        let some_next : target (t.link n) ≢ 0 = λ e. up.0 (sym (ap target link) ∙ e) in
        let gap = l.rising n is_n (subst IsLinked (sym st) tt) (ap invalid_bit link ∙ valid) some_next in
        let gap' : t.key n < t.key (target c.link) = subst (λ (w : ℕ). t.key n < t.key (target w)) link gap in
        let home = l.home (at_record n) (is_n, st) some_next in let le = up.1 in
        (ne, omega arith, up.2 ∙ (ap (λ (w : ℕ). bucket z.heads (t.key (target w))) (sym link) ∙ home))

    -- what is attached, outside the chain and not before its first record is not before x
    pub chain_next : (n : ℕ) (cs : List Gathered) (x m : ℕ) → Joined n cs x → Intact z t cs → IsNumber z m
        → t.status m ≡ attached → (IsIn m (numbers cs) → ⊥) → n ≢ 0 → t.key n ≤ t.key m
        → bucket z.heads (t.key m) ≡ bucket z.heads (t.key n)
        → (x ≢ 0) × (t.key x ≤ t.key m)
    unfolding Intact
    chain_next n [] x m (done e) i is_m st out ne le same = ((λ nil. ne (e ∙ nil)), subst (λ (y : ℕ). t.key y ≤ t.key m) e le)
    chain_next n (c ∷ cs) x m (more ne' number flag valid rest) i is_m st out ne le same =
        let link : t.link n ≡ c.link = ap t.link (sym number) ∙ i.2 in let is_n : IsNumber z n = subst (IsNumber z) number i.0 in
        let st_n : t.status n ≡ attached = ap t.status (sym number) ∙ i.1 in
        let other : t.key n ≢ t.key m = λ e. out (in_first c.number m (numbers cs) (number ∙ l.once n m is_n is_m st_n st e)) in
        let go = l.next (at_record n) m (is_n, st_n) is_m st same (omega arith) in
        let some_next : target c.link ≢ 0 = λ e. go.0 (ap target link ∙ e) in
        chain_next (target c.link) cs x m rest i.3 is_m st (λ i'. out (in_rest c.number m (numbers cs) i')) some_next
        (subst (λ (w : ℕ). t.key (target w) ≤ t.key m) link go.1)
        (same ∙ (sym (l.home (at_record n) (is_n, st_n) go.0) ∙ ap (λ (w : ℕ). bucket z.heads (t.key (target w))) link))

    -- one source alone leads to a record
    pub one_source : (s r : Source) (n : ℕ) → IsLive z t s → IsLive z t r → n ≢ 0 → target (word_at t s) ≡ n
        → target (word_at t r) ≡ n → s ≡ r
    one_source s r n live live' ne to to' = go s r live live' to to'
      where
        home_of : (s : Source) → IsLive z t s → target (word_at t s) ≡ n → bucket z.heads (t.key n) ≡ bucket_at z t s
        home_of s live to = subst (λ (x : ℕ). bucket z.heads (t.key x) ≡ bucket_at z t s) to
            (l.home s live (λ e. ne (sym to ∙ e)))

        up : (m : ℕ) → IsLive z t (at_record m) → target (t.link m) ≡ n → t.key m < t.key n
        up m y to = subst (λ (x : ℕ). t.key m < t.key x) to (l.rising m y.0 (subst IsLinked (sym y.1) tt)
            (sane.valid (at_record m) y) (λ e. ne (sym to ∙ e)))

        between : (s : Source) (m : ℕ) → IsLive z t s → IsLive z t (at_record m) → target (word_at t s) ≡ n
            → target (t.link m) ≡ n → IsBelow t s (t.key m) → ⊥
        between s m live y to to' low = let go = l.next s m live y.0 y.1
            (sym (home_of (at_record m) y to') ∙ home_of s live to) low in
            let le : t.key n ≤ t.key m = subst (λ (x : ℕ). t.key x ≤ t.key m) to go.1 in let lt = up m y to' in omega arith

        go : (s r : Source) → IsLive z t s → IsLive z t r → target (word_at t s) ≡ n → target (word_at t r) ≡ n → s ≡ r
        go (at_head h) (at_head i) live live' to to' = ap at_head
            (sym (home_of (at_head h) live to) ∙ home_of (at_head i) live' to')
        go (at_head h) (at_record m) live live' to to' = absurd (between (at_head h) m live live' to to' tt)
        go (at_record m) (at_head h) live live' to to' = absurd (between (at_head h) m live' live to' to tt)
        go (at_record m) (at_record k) live live' to to' = ⊎_elim
            (λ (lt : t.key m < t.key k). absurd (between (at_record m) k live live' to to' lt))
            (λ (le : t.key k ≤ t.key m). dite (ℕ_discrete (t.key k) (t.key m))
            (λ e. ap at_record (l.once m k live.0 live'.0 live.1 live'.1 (sym e)))
            (λ other. absurd (between (at_record k) m live' live to' to (omega arith)))) (less_or (t.key m) (t.key k))

    -- only the source s leads into its chain from outside
    pub no_other : (s r : Source) (n m : ℕ) (cs : List Gathered) (x : ℕ) → IsLive z t s → IsLive z t r → target (word_at t s) ≡ n
        → Joined n cs x → Intact z t cs → r ≢ s → ((k : ℕ) → r ≡ at_record k → IsIn k (numbers cs) → ⊥)
        → target (word_at t r) ≡ m → IsIn m (numbers cs) → ⊥
    unfolding Intact
    no_other s r n m [] x live live' to (done e) i other out to' inside = in_none m inside
    no_other s r n m (c ∷ cs) x live live' to (more ne number flag valid rest) i other out to' inside =
        let link : t.link n ≡ c.link = ap t.link (sym number) ∙ i.2 in let is_n : IsNumber z n = subst (IsNumber z) number i.0 in
        let st_n : t.status n ≡ attached = ap t.status (sym number) ∙ i.1 in ⊎_elim
        (λ (e : c.number ≡ m). other (one_source r s n live' live ne (to' ∙ (sym e ∙ number)) to))
        (λ (i' : IsIn m (numbers cs)). no_other (at_record n) r (target c.link) m cs x (is_n, st_n) live'
        (ap target link) rest i.3 (λ e. out n e (in_first c.number n (numbers cs) number))
        (λ k e j. out k e (in_rest c.number k (numbers cs) j)) to' i')
        (in_cases c.number m (numbers cs) inside)
