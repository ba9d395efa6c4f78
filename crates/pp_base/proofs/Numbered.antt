-- A pass has no more records of its own than the pool has: each has one state, and stands in one list of the pass, once.
use Rattle.std.proofs.Common.{◌≡◌, ◌≢◌, ℕ, zero, suc, ◌<◌, ◌≤◌, List, [], ◌∷◌, ◌++◌, map, length, refl, sym, ap, ◌∙◌, subst, ⊎_elim}
use Rattle.std.proofs.Common.{arith, eq-eqb, ne_eqb, Bool, cond}
use Rattle.std.proofs.Math.Decide.{ℕ_discrete}
use mathlib.Core.Logic.{dite}
use Rattle.pp_link.specs.declared.layout.Sizes.{Sizes}
use Rattle.pp_link.specs.Places.{IsNumber}
use Rattle.pp_rule.specs.Lists.{IsIn, OnceBy, Once, without}
use Rattle.pp_rule.specs.declared.views.Chain.{Chain}
use Rattle.pp_rule.specs.declared.views.PrivateRecord.{PrivateRecord}
use Rattle.pp_rule.specs.States.{RecordState, attached, in_hand, retired, owned, shelved, PoolState}
use Rattle.pp_rule.specs.Rule.{number_of, guard_of, Base}
use Rattle.pp_rule.proofs.Put.{in_nil, in_first, in_later, in_cases, in_either}
use Rattle.pp_rule.proofs.Without.{once_tail, once_head, once_cons, once_append, once_without, in_without}
use Rattle.pp_base.specs.Passes.{members_of, owned_numbers, numbers_of}

without_else : (n y : ℕ) (ys : List ℕ) → y ≢ n → without n (y ∷ ys) ≡ y ∷ without n ys
without_else n y ys ne = ap (λ (b : Bool). cond b (without n ys) (y ∷ without n ys)) (ne_eqb y n ne)

without_here : (n y : ℕ) (ys : List ℕ) → y ≡ n → without n (y ∷ ys) ≡ without n ys
without_here n y ys e = ap (λ (b : Bool). cond b (without n ys) (y ∷ without n ys)) (eq-eqb y n e)

without_none : (n : ℕ) (ys : List ℕ) → ((x : ℕ) → IsIn x ys → x ≡ n → ⊥) → without n ys ≡ ys
without_none n [] none = refl
without_none n (y ∷ ys) none = without_else n y ys (none y (in_first y ys))
    ∙ ap (λ (l : List ℕ). y ∷ l) (without_none n ys (λ x i. none x (in_later x y ys i)))

-- a list that has each number once has one number less, at most, without one of them
length_without : (n : ℕ) (ys : List ℕ) → Once ys → length ys ≤ suc (length (without n ys))
length_without n [] o = omega arith
length_without n (y ∷ ys) o = dite (ℕ_discrete y n)
    (λ e. let same : length (without n (y ∷ ys)) ≡ length ys = ap (λ (l : List ℕ). length l) (without_here n y ys e
    ∙ without_none n ys (λ x i x_is. once_head (λ k. k) y ys o x i (x_is ∙ sym e))) in omega arith)
    (λ ne. let rest = length_without n ys (once_tail (λ k. k) y ys o) in
    let same : length (without n (y ∷ ys)) ≡ suc (length (without n ys)) = ap (λ (l : List ℕ). length l) (without_else n y ys ne) in
    omega (arith, rest, same))

-- there are at most n numbers from 1 to n
pub bounded : (n : ℕ) (xs : List ℕ) → Once xs → ((m : ℕ) → IsIn m xs → (1 ≤ m) × (m ≤ n)) → length xs ≤ n
bounded n [] o range = omega arith
bounded zero (x ∷ xs) o range = let low = range x (in_first x xs) in absurd (omega (arith, low.0, low.1))
bounded (suc n) (x ∷ xs) o range = let less = length_without (suc n) (x ∷ xs) o in
    let rest = bounded n (without (suc n) (x ∷ xs)) (once_without (suc n) (x ∷ xs) o)
    (λ m i. let was = in_without (suc n) m (x ∷ xs) i in let low = range m was.0 in (
      low.0,
      let high : m ≤ suc n = low.1 in
          let other : m ≢ suc n = was.1 in omega arith,
    )) in omega (arith, less, rest)

in_map : (ds : List PrivateRecord) (n : ℕ) → IsIn n (map number_of ds) → (d : PrivateRecord) × (IsIn d ds × (d.number ≡ n))
in_map [] n i = absurd (in_nil n i)
in_map (d ∷ ds) n i = ⊎_elim (λ (here : n ≡ d.number). (d, (in_first d ds, sym here)))
    (λ (later : IsIn n (map number_of ds)). let found = in_map ds n later in (found.0, (in_later found.0 d ds found.1.0, found.1.1)))
    (in_cases n d.number (map number_of ds) i)

once_map : (ds : List PrivateRecord) → OnceBy number_of ds → Once (map number_of ds)
once_map [] o = λ k l x y at_k at_l e. absurd (in_nil x (k, at_k))
once_map (d ∷ ds) o = once_cons (λ k. k) d.number (map number_of ds) (λ x i same. let found = in_map ds x i in
    once_head number_of d ds o found.0 found.1.0 (found.1.1 ∙ same)) (once_map ds (once_tail number_of d ds o))

-- a record of these chains is one of one of them
pub in_members : (cs : List Chain) (n : ℕ) → IsIn n (members_of cs) → (c : Chain) × (IsIn c cs × IsIn n c.records)
unfolding members_of
in_members [] n i = absurd (in_nil n i)
in_members (c ∷ cs) n i = ⊎_elim (λ (here : IsIn n c.records). (c, (in_first c cs, here)))
    (λ (later : IsIn n (members_of cs)). let found = in_members cs n later in (found.0, (in_later found.0 c cs found.1.0, found.1.1)))
    (in_either n c.records (members_of cs) i)

abbrev hand_guard : RecordState → ℕ
hand_guard attached = 0
hand_guard (in_hand p j) = j
hand_guard (retired p) = 0
hand_guard (owned p) = 0
hand_guard (shelved j) = 0

once_members : (cs : List Chain) (status : ℕ → RecordState) (p : ℕ) → OnceBy guard_of cs → ((c : Chain) → IsIn c cs → Once c.records)
    → ((c : Chain) (n : ℕ) → IsIn c cs → IsIn n c.records → status n ≡ in_hand p c.guard) → Once (members_of cs)
unfolding members_of
once_members [] status p guards each state = λ k l x y at_k at_l e. absurd (in_nil x (k, at_k))
once_members (c ∷ cs) status p guards each state = once_append (λ k. k) c.records (members_of cs) (each c (in_first c cs))
    (once_members cs status p (once_tail guard_of c cs guards) (λ d i. each d (in_later d c cs i))
    (λ d n i m. state d n (in_later d c cs i) m))
    (λ x y i j same. let found = in_members cs y j in
    let here : status x ≡ in_hand p c.guard = state c x (in_first c cs) i in
    let there : status x ≡ in_hand p found.0.guard = ap status same ∙ state found.0 y (in_later found.0 c cs found.1.0) found.1.1 in
    once_head guard_of c cs guards found.0 found.1.0 (ap hand_guard (sym there ∙ here)))

module _ {E A W : Type 0} (sides : ℕ) (z : Sizes) (words : List ℕ) (g : PoolState E A W) (p : ℕ) (b : Base sides z words g)
    (low : p < z.passes) where
  once_chains : Once (members_of (g.of p).chains)
  once_chains = once_members (g.of p).chains g.status p (b.chains.once p low) (λ c i. b.chains.members_once p c low i)
      (λ c n i m. (b.chains.members p n c low i m).1)

  retired_is : (n : ℕ) → IsIn n (g.of p).retired → IsNumber z n × (g.status n ≡ retired p)
  retired_is n i = b.numbers.retired_to p n low i

  owned_is : (n : ℕ) → IsIn n (owned_numbers (g.of p)) → IsNumber z n × (g.status n ≡ owned p)
  owned_is n i = let found = in_map (g.of p).owned n i in subst (λ (k : ℕ). IsNumber z k × (g.status k ≡ owned p)) found.1.1
      (b.numbers.owned_to p found.0 low found.1.0)

  hand_is : (n : ℕ) → IsIn n (members_of (g.of p).chains) → IsNumber z n × ((j : ℕ) × (g.status n ≡ in_hand p j))
  hand_is n i = let found = in_members (g.of p).chains n i in let at = b.chains.members p n found.0 low found.1.0 found.1.1 in
      (at.0, (found.0.guard, at.1))

  once_numbers : Once (numbers_of (g.of p))
  once_numbers = once_append (λ k. k) (owned_numbers (g.of p)) ((g.of p).retired ++ members_of (g.of p).chains)
      (once_map (g.of p).owned (b.numbers.owned_once p low))
      (once_append (λ k. k) (g.of p).retired (members_of (g.of p).chains) (b.numbers.retired_once p low) once_chains
      (λ x y i j same. let there = hand_is y j in let here = (retired_is x i).1 in
      let bad : retired p ≡ in_hand p there.1.0 = sym here ∙ (ap g.status same ∙ there.1.1) in absurd cc))
      (λ x y i j same. let here = (owned_is x i).1 in ⊎_elim
      (λ (r : IsIn y (g.of p).retired). let bad : owned p ≡ retired p = sym here ∙ (ap g.status same ∙ (retired_is y r).1) in absurd cc)
      (λ (m : IsIn y (members_of (g.of p).chains)). let there = hand_is y m in
      let bad : owned p ≡ in_hand p there.1.0 = sym here ∙ (ap g.status same ∙ there.1.1) in absurd cc)
      (in_either y (g.of p).retired (members_of (g.of p).chains) j))

  pub numbers_fit : length (numbers_of (g.of p)) ≤ z.records
  numbers_fit = bounded z.records (numbers_of (g.of p)) once_numbers
      (λ m i. ⊎_elim (λ (o : IsIn m (owned_numbers (g.of p))). (owned_is m o).0)
      (λ (rest : IsIn m ((g.of p).retired ++ members_of (g.of p).chains)). ⊎_elim
      (λ (r : IsIn m (g.of p).retired). (retired_is m r).0)
      (λ (h : IsIn m (members_of (g.of p).chains)). (hand_is m h).0) (in_either m (g.of p).retired (members_of (g.of p).chains) rest))
      (in_either m (owned_numbers (g.of p)) ((g.of p).retired ++ members_of (g.of p).chains) i))
