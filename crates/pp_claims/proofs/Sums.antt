-- The sum of tables of counts, and what it is of the tables of a tally.
use Rattle.std.proofs.Common.{◌≡◌, ℕ, zero, suc, ◌+◌, ◌<◌, ◌≤◌, List, [], ◌∷◌, ◌++◌, length, map, take, get_or, replicate, Vec, Global}
use Rattle.std.proofs.Common.{refl, sym, ap, ◌∙◌, arith}
use Rattle.std.specs.Prelude.{sum_by, Some, slice_get}
use Rattle.std.proofs.lemmas.List.Sums.{sum_by-cons, sum_by_more, sum_by_more_le}
use Rattle.pp_model.specs.declared.Answer.{Answer}
use Rattle.pp_model.specs.declared.Call.{Call}
use Rattle.pp_model.specs.Lists.{times, upto}
use Rattle.pp_pieces.specs.Counts.{Counted, CountedIn, owned, times_in}
use Rattle.pp_pieces.specs.Pieces.{pieces_of}
use Rattle.pp_pieces.proofs.Bytes.{times_in-append, times-le}
use Rattle.pp_pieces.proofs.Whole.{all_pieces}
use Rattle.pp_claims.specs.Claimed.{all_owned, AreCounted, sum_at, IsSum}
use Rattle.pp_claims.proofs.Apart.{Apart, all_shared}
use Rattle.pp_claims.proofs.Owned.{none_counted}

abbrev items_of : List (Vec ℕ Global) → List (List ℕ)
items_of counts = map (λ v. v.items) counts

at : ℕ → Vec ℕ Global → ℕ
at b v = get_or v.items b 0

sum_mapped : (b : ℕ) (counts : List (Vec ℕ Global)) → sum_by (λ t. get_or t b 0) (items_of counts) ≡ sum_by (at b) counts
unfolding at
sum_mapped b [] = refl
sum_mapped b (v ∷ counts) =
    sum_by-cons (λ t. get_or t b 0) v.items (items_of counts) ∙ (ap (λ (n : ℕ). get_or v.items b 0 + n) (sum_mapped b counts)
    ∙ sym (sum_by-cons (at b) v counts))

module _ (counts : List (Vec ℕ Global)) (rest : List ℕ) (b i : ℕ) (v : Vec ℕ Global) (is : v ≡ get_or counts i v)
    (low : i < length counts)
  where
    -- one more table
    pub sum_more : sum_at (items_of (take (i + 1) counts)) rest b ≡ sum_at (items_of (take i counts)) rest b + get_or v.items b 0
    unfolding at
    sum_more =
        let now = sum_mapped b (take (i + 1) counts) in let was = sum_mapped b (take i counts) in
        let more = sum_by_more (at b) counts i v low in let one = ap (at b) is in
        omega (arith, now, was, more, one)

    -- is within the sum of all
    pub sum_more_le : sum_at (items_of (take i counts)) rest b + get_or v.items b 0 ≤ sum_at (items_of counts) rest b
    unfolding at
    sum_more_le =
        let all = sum_mapped b counts in let was = sum_mapped b (take i counts) in
        let more = sum_by_more_le (at b) counts i v low in let one = ap (at b) is in
        omega (arith, all, was, more, one)

-- one more value of the sum
pub sums_more : (f : ℕ → ℕ) (total : List ℕ) (value sum : ℕ) → length total ≡ value → ((b : ℕ) → b < value → get_or total b 0 ≡ f b)
    → sum ≡ f value → (b : ℕ) → b < value + 1 → get_or (total ++ sum ∷ []) b 0 ≡ f b
sums_more f [] value sum long each is zero low = let none : value ≡ 0 = omega (arith, long) in is ∙ ap f none
sums_more f [] value sum long each is (suc b) low = absurd (omega (arith, long))
sums_more f (x ∷ total) value sum long each is zero low = each 0 (omega (arith, long))
sums_more f (x ∷ total) zero sum long each is (suc b) low = absurd (omega (arith, long))
sums_more f (x ∷ total) (suc value) sum long each is (suc b) low =
    sums_more (λ n. f (suc n)) total value sum (omega (arith, long)) (λ c below. each (suc c) (omega (arith, below))) is b
    (omega (arith, low))

module _ (bytes : List ℕ) (b : ℕ) (low : b < 256) where
  -- what the callers counted is what stands in the pieces that they own
  owned_sum : (lists : List (List Call)) (answers : List (List Answer)) (counts : List (List ℕ)) → length answers ≡ length lists
      → length counts ≡ length lists
      → ((c : ℕ) (calls : List Call) (got : List Answer) (counted : List ℕ) → slice_get lists c ≡ Some calls
      → slice_get answers c ≡ Some got → slice_get counts c ≡ Some counted → CountedIn (replicate 256 0) counted bytes (owned calls got))
      → sum_by (λ counted. get_or counted b 0) counts ≡ times_in b bytes (all_owned lists answers)
  owned_sum [] [] [] same long each = refl
  owned_sum [] answers (t ∷ counts) same long each = absurd (omega (arith, long))
  owned_sum [] (g ∷ answers) [] same long each = absurd (omega (arith, same))
  owned_sum (l ∷ lists) [] counts same long each = absurd (omega (arith, same))
  owned_sum (l ∷ lists) (g ∷ answers) [] same long each = absurd (omega (arith, long))
  owned_sum (l ∷ lists) (g ∷ answers) (t ∷ counts) same long each =
      let here = (each 0 l g t refl refl refl).each b low in
      let none = none_counted 256 b in
      let rest = owned_sum lists answers counts (omega (arith, same)) (omega (arith, long))
      (λ c calls got counted x y z. each (suc c) calls got counted x y z) in
      let sum = sum_by-cons (λ counted. get_or counted b 0) t counts in
      let both = times_in-append b bytes (owned l g) (all_owned lists answers) in
      omega (arith, here, none, rest, sum, both)

  -- all counts together are those of the input
  pub whole_sum : (pieces : ℕ) (lists : List (List Call)) (answers : List (List Answer)) (counts : List (List ℕ)) (rest : List ℕ)
      → pieces ≡ pieces_of (length bytes) → length answers ≡ length lists → Apart pieces (all_owned lists answers)
      → AreCounted bytes pieces lists answers counts rest → sum_at counts rest b ≡ times b bytes
  whole_sum pieces lists answers counts rest is same apart counted =
      let own = owned_sum lists answers counts same counted.each_caller counted.own in
      let left = counted.left.each b low in
      let none = none_counted 256 b in
      let shared = all_shared b bytes pieces (all_owned lists answers) apart in
      let all = all_pieces b bytes in
      let whole = ap (λ (n : ℕ). times_in b bytes (upto 0 n)) is in
      omega (arith, own, left, none, shared, all, whole)

-- and the sum of all tables counts it
pub counts_input : (bytes : List ℕ) (pieces : ℕ) (lists : List (List Call)) (answers : List (List Answer)) (counts : List (List ℕ))
    (rest total : List ℕ) → pieces ≡ pieces_of (length bytes) → length answers ≡ length lists → Apart pieces (all_owned lists answers)
    → AreCounted bytes pieces lists answers counts rest → IsSum counts rest total → Counted (replicate 256 0) total bytes
counts_input bytes pieces lists answers counts rest total is same apart counted sum = record {
  all = sum.all;
  each = λ b low. let whole = whole_sum bytes b low pieces lists answers counts rest is same apart counted in
      let each = sum.each b low in let none = none_counted 256 b in omega (arith, whole, each, none);
}

-- which is small
pub sum_fits : (bytes : List ℕ) (pieces : ℕ) (lists : List (List Call)) (answers : List (List Answer)) (counts : List (List ℕ))
    (rest : List ℕ) → length bytes ≤ 16777216 → pieces ≡ pieces_of (length bytes) → length answers ≡ length lists
    → Apart pieces (all_owned lists answers)
    → AreCounted bytes pieces lists answers counts rest → (b : ℕ) → b < 256 → sum_at counts rest b < 4294967296
sum_fits bytes pieces lists answers counts rest short is same apart counted b low =
    let whole = whole_sum bytes b low pieces lists answers counts rest is same apart counted in
    let few = times-le b bytes in omega (arith, whole, few, short)
