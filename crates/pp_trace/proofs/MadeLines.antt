-- One more line of a made trace, and the ranges of its keys and lists.
use Rattle.std.proofs.Common.{◌≡◌, ◌≢◌, ℕ, zero, suc, ◌+◌, ◌*◌, ◌/◌, ◌%◌, ◌<◌, ◌≤◌, Bool, true, false, cond, nat_eq, nat_lt, List}
use Rattle.std.proofs.Common.{[], ◌∷◌, ◌++◌, length, map, filter, get_or, refl, sym, ap, ◌∙◌, subst, add-one, add-zero, zero-add}
use Rattle.std.proofs.Common.{append-nil, arith}
use Rattle.std.proofs.Math.ListN.{set}
use Rattle.std.proofs.Math.Nat.{mul-le-mul_right}
use Rattle.std.proofs.lemmas.List.Sums.{length-filter, count_by-le-length}
use Rattle.std.specs.Prelude.{replicate}
use Rattle.std.specs.List.{range_with_len}
use Rattle.std.proofs.lemmas.Bool.Decides.{nat_tests}
use Rattle.std.proofs.lemmas.List.{map-append, length-map}
use Rattle.std.proofs.lemmas.List.Elements.{filter-append}
use Rattle.std.proofs.lemmas.List.FromFn.{get_or-map-range_with_len}
use Rattle.pp_model.specs.declared.Call.{Call}
use Rattle.pp_model.specs.declared.Call.TheVariants.{Get, Insert, Remove}
use Rattle.pp_model.specs.Calls.{key_of}
use Rattle.pp_model.specs.Lists.{upto, AtEach}
use Rattle.pp_trace.specs.TraceLists.{KeysFit, with_call}
use Rattle.pp_trace.proofs.Limits.{each-map}
use Rattle.pp_trace.specs.MadeTrace.{draw, state, made_call, drawn_call, made_line, made, IsMade}

pub state-next : (seed n : ℕ) → state seed (n + 1) ≡ draw (state seed n)
state-next seed n = rw add-one

-- two draws after those of n lines
pub state-first : (seed n x y : ℕ) → x ≡ state seed (2 * n) → y ≡ draw x → y ≡ state seed (2 * n + 1)
state-first seed n x y is drawn = drawn ∙ ap draw is ∙ sym (state-next seed (2 * n))

pub state-second : (seed n x y z : ℕ) → x ≡ state seed (2 * n) → y ≡ draw x → z ≡ draw y → z ≡ state seed (2 * n + 2)
state-second seed n x y z is first second =
    let e : 2 * n + 1 + 1 ≡ 2 * n + 2 = omega arith in
    second ∙ ap draw (state-first seed n x y is first) ∙ sym (state-next seed (2 * n + 1)) ∙ ap (state seed) e

pub state-more : (seed n x y z : ℕ) → x ≡ state seed (2 * n) → y ≡ draw x → z ≡ draw y → z ≡ state seed (2 * (n + 1))
state-more seed n x y z is first second =
    let e : 2 * n + 2 ≡ 2 * (n + 1) = omega arith in
    state-second seed n x y z is first second ∙ ap (state seed) e

pub made_line-drawn : (seed callers n x y z : ℕ) → x ≡ state seed (2 * n) → y ≡ draw x → z ≡ draw y
    → drawn_call callers (n % callers) y z ≡ made_line seed callers n
made_line-drawn seed callers n x y z is first second =
    let a = state-first seed n x y is first in
    let b = state-second seed n x y z is first second in
    ap (λ v. drawn_call callers (n % callers) v z) a ∙ ap (λ w. drawn_call callers (n % callers) (state seed (2 * n + 1)) w) b

upto-suc : (low n : ℕ) → upto low (suc n) ≡ upto low n ++ (low + n) ∷ []
upto-suc low zero = ap (λ x. x ∷ []) (sym (add-zero low))
upto-suc low (suc n) =
    let e : low + 1 + n ≡ low + suc n = omega arith in
    ap (λ l. low ∷ l) (upto-suc (low + 1) n ∙ ap (λ x. upto (low + 1) n ++ x ∷ []) e)

upto-range : (low n : ℕ) → upto low n ≡ range_with_len low n
upto-range low zero = refl
upto-range low (suc n) = ap (λ l. low ∷ l) (upto-range (low + 1) n)

get_or-map-upto : {A : Type 0} (f : ℕ → A) (n i : ℕ) (d : A) → i < n → get_or (map f (upto 0 n)) i d ≡ f i
get_or-map-upto f n i d lt = ap (λ l. get_or (map f l) i d) (upto-range 0 n) ∙ get_or-map-range_with_len f 0 n i i d lt (zero-add i)

-- the calls of a caller, with one more line
made-more : (seed n callers c : ℕ)
    → made seed (n + 1) callers c ≡ made seed n callers c ++ cond (nat_eq (n % callers) c) (made_line seed callers n ∷ []) []
made-more seed n callers c =
    let p = λ (i : ℕ). nat_eq (i % callers) c in
    let line = made_line seed callers in
    let numbers : upto 0 (n + 1) ≡ upto 0 n ++ n ∷ [] = rw add-one (upto-suc 0 n ∙ ap (λ x. upto 0 n ++ x ∷ []) (zero-add n)) in
    ap (λ l. map line (filter p l)) numbers
    ∙ ap (map line) (filter-append p (upto 0 n) (n ∷ []))
    ∙ map-append line (filter p (upto 0 n)) (filter p (n ∷ []))
    ∙ ap (λ l. made seed n callers c ++ l) (last line p n)
  where
    last : (line : ℕ → Call) (p : ℕ → Bool) (n : ℕ) → map line (filter p (n ∷ [])) ≡ cond (p n) (line n ∷ []) []
    last line p n = elim (p n) as (λ b. map line (cond b (n ∷ []) []) ≡ cond b (line n ∷ []) []) [ true ↦ refl | false ↦ refl ]

map-upto-same : {A : Type 0} (f g : ℕ → A) (low n : ℕ) → ((c : ℕ) → low ≤ c → g c ≡ f c) → map f (upto low n) ≡ map g (upto low n)
map-upto-same f g low zero h = refl
map-upto-same f g low (suc n) h =
    let rest = map-upto-same f g (low + 1) n (λ c le. h c (omega arith)) in
    let first = h low (omega arith) in
    cc

-- lists by number, one of them changed
map-upto-set : {A : Type 0} (f g : ℕ → A) (low n i : ℕ) (y : A) → i < n → g (low + i) ≡ y → ((c : ℕ) → c ≢ low + i → g c ≡ f c)
    → set (map f (upto low n)) i y ≡ map g (upto low n)
map-upto-set f g low zero i y lt at others = absurd (omega arith)
map-upto-set f g low (suc n) zero y lt at others =
    let rest = map-upto-same f g (low + 1) n (λ c le. others c (λ e. omega arith)) in
    let first : g low ≡ y = ap g (sym (add-zero low)) ∙ at in
    cc
map-upto-set f g low (suc n) (suc i) y lt at others =
    let place : low + 1 + i ≡ low + suc i = omega arith in
    let rest = map-upto-set f g (low + 1) n i y (omega arith) (ap g place ∙ at) (λ c ne. others c (λ e. ne (e ∙ sym place))) in
    let first : g low ≡ f low = others low (λ e. omega arith) in
    cc

-- the lists of n lines, with one more line in the list of its caller
pub made-step : (seed n callers : ℕ) (lists : List (List Call)) → 0 < callers → lists ≡ map (made seed n callers) (upto 0 callers)
    → with_call lists (n % callers) (made_line seed callers n) ≡ map (made seed (n + 1) callers) (upto 0 callers)
made-step seed n callers lists some is =
    let c = n % callers in
    let lt : c < callers = omega arith in
    let here : get_or lists c [] ≡ made seed n callers c =
    ap (λ l. get_or l c []) is ∙ get_or-map-upto (made seed n callers) callers c [] lt in
    let L = made_line seed callers n ∷ [] in
    let own : made seed (n + 1) callers (0 + c) ≡ get_or lists c [] ++ L =
    ap (made seed (n + 1) callers) (zero-add c) ∙ made-more seed n callers c
    ∙ ap (λ b. made seed n callers c ++ cond b L []) (nat_eq-refl c) ∙ ap (λ l. l ++ L) (sym here) in
    ap (λ l. set l c (get_or lists c [] ++ L)) is
    ∙ map-upto-set (made seed n callers) (made seed (n + 1) callers) 0 callers c _ lt own
    (λ d ne. made-more seed n callers d ∙ ap (λ b. made seed n callers d ++ cond b L []) (nat_eq-other c d (λ e. ne (e ∙ sym (zero-add c))))
    ∙ append-nil (made seed n callers d))
  where
    nat_eq-refl : (c : ℕ) → nat_eq c c ≡ true
    nat_eq-refl c = grind (arith, nat_tests)

    nat_eq-other : (c d : ℕ) → (d ≡ c → ⊥) → nat_eq c d ≡ false
    nat_eq-other c d ne = grind (arith, nat_tests)

-- no lines
pub made-none : (seed callers : ℕ) → replicate callers [] ≡ map (made seed 0 callers) (upto 0 callers)
made-none seed callers = empty 0 callers
  where
    empty : (low n : ℕ) → replicate n [] ≡ map (made seed 0 callers) (upto low n)
    empty low zero = refl
    empty low (suc n) = ap (λ l. [] ∷ l) (empty (low + 1) n)

key_of-made_call : (kind key value : ℕ) → key_of (made_call kind key value) ≡ key
key_of-made_call kind key value =
    elim (nat_lt kind 2) as (λ b. key_of (cond b (Insert key value) (cond (nat_eq kind 2) (Remove key) (Get key))) ≡ key) [
      | true ↦ refl
      | false ↦ elim (nat_eq kind 2) as (λ b. key_of (cond b (Remove key) (Get key)) ≡ key) [ true ↦ refl | false ↦ refl ]
    ]

-- a key is below the callers' number times 4096
key_of-made_line : (seed callers i : ℕ) → 0 < callers → callers ≤ 64 → key_of (made_line seed callers i) ≤ 18446744073709551612
key_of-made_line seed callers i some few =
    let part = (state seed (2 * i + 2) / 65536) % 4096 in
    let small : part < 4096 = omega arith in
    let turn : i % callers < callers = omega arith in
    let product : callers * part ≤ 64 * part = mul-le-mul_right part few in
    let bound : callers * part + i % callers ≤ 18446744073709551612 = omega arith in
    let P : ℕ → Type 0 = λ k. k ≤ 18446744073709551612 in
    subst P (sym (key_of-made_call ((state seed (2 * i + 1) / 65536) % 4) (callers * part + i % callers) (state seed (2 * i + 2)))) bound

length-upto : (low n : ℕ) → length (upto low n) ≡ n
length-upto low zero = refl
length-upto low (suc n) = ap suc (length-upto (low + 1) n)

length-made-le : (seed count callers c : ℕ) → length (made seed count callers c) ≤ count
length-made-le seed count callers c =
    let p = λ (i : ℕ). nat_eq (i % callers) c in
    omega (
      arith,
      length-map (filter p (upto 0 count)) (made_line seed callers),
      length-filter p (upto 0 count),
      count_by-le-length p (upto 0 count),
      length-upto 0 count,
    )

-- as many lists as callers
pub length-lists : {A : Type 0} (g : ℕ → A) (xs : List A) (n : ℕ) → xs ≡ map g (upto 0 n) → length xs ≡ n
length-lists g xs n is = ap length is ∙ length-map (upto 0 n) g ∙ length-upto 0 n

-- lists that are the generator's have keys in range and are short
pub IsMade-lists : (seed count callers : ℕ) (lists : List (List Call)) → 0 < callers → callers ≤ 64 → count ≤ 1000000
    → lists ≡ map (made seed count callers) (upto 0 callers) → IsMade seed count callers lists
IsMade-lists seed count callers lists some few short is = record {
  lists_are = is;
  keys = subst KeysFit (sym is) (each-map InRange (made seed count callers) in_range (upto 0 callers));
  short = subst Short (sym is) (each-map (λ calls. length calls ≤ 16777216) (made seed count callers)
      (λ c. omega (arith, length-made-le seed count callers c)) (upto 0 callers));
}
  where
    InRange : List Call → Type 0
    InRange calls = AtEach calls (λ n call. key_of call ≤ 18446744073709551612)

    in_range : (c : ℕ) → InRange (made seed count callers c)
    in_range c =
        each-map (λ call. key_of call ≤ 18446744073709551612) (made_line seed callers) (λ i. key_of-made_line seed callers i some few)
        (filter (λ i. nat_eq (i % callers) c) (upto 0 count))

    Short : List (List Call) → Type 0
    Short lists = AtEach lists (λ c calls. length calls ≤ 16777216)
