-- Pieces of bytes, and how often a byte stands in them.
use Rattle.std.proofs.Common.{◌≡◌, ◌≢◌, ℕ, zero, suc, ◌+◌, ◌*◌, ◌<◌, ◌≤◌, Bool, true, false, cond, List, [], ◌∷◌, ◌++◌, length}
use Rattle.std.proofs.Common.{map, take, min, set, get_or, eq-eqb, ne_eqb, refl, sym, ap, ◌∙◌, ⊎_elim, arith}
use Rattle.std.specs.Prelude.{nat_eq}
use Rattle.std.proofs.lemmas.Bool.{cases_lt}
use Rattle.std.proofs.Math.Decide.{ℕ_discrete}
use mathlib.Core.Logic.{dite}
use Rattle.std.proofs.lemmas.List.{take_all, map-append, length-set, get_or-set_same, get_or-set_other}
use Rattle.pp_model.specs.Lists.{times, upto}
use Rattle.pp_model.proofs.PlainPasses.{upto-push}
use Rattle.pp_model.specs.declared.Answer.{Answer}
use Rattle.pp_model.specs.declared.Call.{Call}
use Rattle.pp_model.specs.Calls.{key_of}
use Rattle.pp_pieces.specs.Pieces.{piece}
use Rattle.pp_pieces.specs.Counts.{Counted, CountedIn, is_added, owned, times_in}

step_le : (c : Bool) (n m : ℕ) → n ≤ m → cond c (n + 1) n ≤ m + 1
step_le true n m le = omega arith
step_le false n m le = omega arith

-- at most once at each place
pub times-le : (b : ℕ) (xs : List ℕ) → times b xs ≤ length xs
times-le b [] = omega arith
times-le b (x ∷ xs) = let rest = times-le b xs in let e = step_le (nat_eq x b) (times b xs) (length xs) rest in omega arith

step_sum : (c : Bool) (n m k : ℕ) → n ≡ m + k → cond c (n + 1) n ≡ cond c (m + 1) m + k
step_sum true n m k e = omega arith
step_sum false n m k e = e

pub times-append : (b : ℕ) (xs ys : List ℕ) → times b (xs ++ ys) ≡ times b xs + times b ys
times-append b [] ys = omega arith
times-append b (x ∷ xs) ys = step_sum (nat_eq x b) (times b (xs ++ ys)) (times b xs) (times b ys) (times-append b xs ys)

-- one more of a list that is made by position
pub map-more : {A : Type 0} (f : ℕ → A) (xs : List A) (n : ℕ) (x : A) → xs ≡ map f (upto 0 n) → x ≡ f n
    → xs ++ x ∷ [] ≡ map f (upto 0 (n + 1))
map-more {A} f xs n x is last = let zero : 0 + n ≡ n = omega arith in
    ap (λ (l : List A). l ++ x ∷ []) is ∙ (ap (λ (y : A). map f (upto 0 n) ++ y ∷ []) last
    ∙ (sym (map-append f (upto 0 n) (n ∷ [])) ∙ (ap (λ (m : ℕ). map f (upto 0 n ++ m ∷ [])) (sym zero)
    ∙ ap (map f) (sym (upto-push 0 n (n + 1) refl)))))

-- as many as there are, or as many as are asked for
pub take-within : (n k : ℕ) (xs : List ℕ) → n ≡ min (length xs) k → take n xs ≡ take k xs
take-within n k xs is = ⊎_elim
    (λ (less : length xs < k). let all : length xs ≤ n = omega arith in let more : length xs ≤ k = omega arith in
    take_all n xs all ∙ sym (take_all k xs more))
    (λ (more : k ≤ length xs). let same : n ≡ k = omega arith in ap (λ (m : ℕ). take m xs) same) (cases_lt (length xs) k)

short_take : (k : ℕ) (xs : List ℕ) → length (take k xs) ≤ k
short_take zero [] = omega arith
short_take zero (x ∷ xs) = omega arith
short_take (suc k) [] = omega arith
short_take (suc k) (x ∷ xs) = let rest = short_take k xs in omega arith

pub piece-short : (bytes : List ℕ) (n : ℕ) → length (piece bytes n) ≤ 4096
piece-short bytes n = short_take 4096 _

times_here : (b x : ℕ) → x ≡ b → times b (x ∷ []) ≡ 1
times_here b x same = ap (λ (c : Bool). cond c (0 + 1) 0) (eq-eqb x b same)

times_else : (b x : ℕ) → x ≢ b → times b (x ∷ []) ≡ 0
times_else b x other = ap (λ (c : Bool). cond c (0 + 1) 0) (ne_eqb x b other)

-- one more byte was counted
pub counted-more : (old new bytes : List ℕ) (x : ℕ) → Counted old new bytes → x < 256
    → Counted old (set new x (get_or new x 0 + 1)) (bytes ++ x ∷ [])
counted-more old new bytes x c low = record {
  all = length-set new x _ ∙ c.all;
  each = λ b lt. let sum = times-append b bytes (x ∷ []) in let was = c.each b lt in
      dite (ℕ_discrete x b)
      (λ same. let one = times_here b x same in let all = c.all in let within : x < length new = omega arith in
      let now = ap (λ (m : ℕ). get_or (set new x (get_or new x 0 + 1)) m 0) (sym same)
      ∙ get_or-set_same new x (get_or new x 0 + 1) 0 within in let here = ap (λ (m : ℕ). get_or new m 0) same in
      omega (arith, sum, was, one, now, here))
      (λ other. let none = times_else b x other in
      let now = get_or-set_other new x b (get_or new x 0 + 1) 0 (λ e. other (sym e)) in omega (arith, sum, was, none, now));
}

-- so much was counted at most
pub counted-le : (old new bytes : List ℕ) (b : ℕ) → Counted old new bytes → b < 256 → get_or new b 0 ≤ get_or old b 0 + length bytes
counted-le old new bytes b c low = let is = c.each b low in let few = times-le b bytes in omega arith

pub times_in-append : (b : ℕ) (bytes ms ns : List ℕ) → times_in b bytes (ms ++ ns) ≡ times_in b bytes ms + times_in b bytes ns
times_in-append b bytes [] ns = omega arith
times_in-append b bytes (m ∷ ms) ns = let rest = times_in-append b bytes ms ns in omega arith

pub times_in-le : (b : ℕ) (bytes ns : List ℕ) → times_in b bytes ns ≤ 4096 * length ns
times_in-le b bytes [] = omega arith
times_in-le b bytes (n ∷ ns) = let rest = times_in-le b bytes ns in let here = times-le b (piece bytes n) in
    let few = piece-short bytes n in omega arith

owned_step : (won : Bool) (k : ℕ) (ms ns : List ℕ) → cond won (k ∷ (ms ++ ns)) (ms ++ ns) ≡ cond won (k ∷ ms) ms ++ ns
owned_step true k ms ns = refl
owned_step false k ms ns = refl

-- one more claim
pub owned-more : (xs : List Call) (ys : List Answer) (x : Call) (y : Answer) → length xs ≡ length ys
    → owned (xs ++ x ∷ []) (ys ++ y ∷ []) ≡ owned xs ys ++ owned (x ∷ []) (y ∷ [])
owned-more [] [] x y same = refl
owned-more [] (b ∷ ys) x y same = absurd (omega arith)
owned-more (a ∷ xs) [] x y same = absurd (omega arith)
owned-more (a ∷ xs) (b ∷ ys) x y same =
    ap (λ (l : List ℕ). cond (is_added b) (key_of a ∷ l) l) (owned-more xs ys x y (omega arith))
    ∙ owned_step (is_added b) (key_of a) (owned xs ys) (owned (x ∷ []) (y ∷ []))

owned_one : (won : Bool) (k n : ℕ) (ms : List ℕ) → length ms ≤ n → length (cond won (k ∷ ms) ms) ≤ n + 1
owned_one true k n ms le = omega arith
owned_one false k n ms le = omega arith

owned-le : (xs : List Call) (ys : List Answer) → length (owned xs ys) ≤ length xs
owned-le [] ys = omega arith
owned-le (x ∷ xs) [] = omega arith
owned-le (x ∷ xs) (y ∷ ys) = let one = owned_one (is_added y) (key_of x) (length xs) (owned xs ys) (owned-le xs ys) in omega arith

-- the pieces of some more claims were counted
pub counted_in-more : (old mid new bytes ms ns : List ℕ) → CountedIn old mid bytes ms → CountedIn mid new bytes ns
    → CountedIn old new bytes (ms ++ ns)
counted_in-more old mid new bytes ms ns a b = record {
  all = b.all;
  each = λ x low. let one = a.each x low in let two = b.each x low in let sum = times_in-append x bytes ms ns in omega arith;
}

pub counted_in-none : (old bytes : List ℕ) → length old ≡ 256 → CountedIn old old bytes []
counted_in-none old bytes long = record { all = long; each = λ x low. omega arith }

-- a table in which a caller's first claims are counted has room for a further piece
pub room-left : (old new bytes : List ℕ) (xs : List Call) (ys : List Answer) (b : ℕ) → CountedIn old new bytes (owned xs ys)
    → length xs < 4096 → get_or old b 0 + 16777216 < 4294967296 → b < 256 → get_or new b 0 + 4096 < 4294967296
room-left old new bytes xs ys b c few room low = let is = c.each b low in let most = times_in-le b bytes (owned xs ys) in
    let long = owned-le xs ys in omega arith
