-- Pieces that are marked, and those that are left.
use Rattle.std.proofs.Common.{◌≡◌, ℕ, ◌+◌, ◌<◌, ◌≤◌, Bool, true, false, cond, List, [], ◌∷◌, ◌++◌, length, set, get_or, eq-eqb, ne_eqb}
use Rattle.std.proofs.Common.{refl, sym, ap, ◌∙◌, arith}
use Rattle.std.specs.Prelude.{◌||◌, nat_eq}
use Rattle.std.proofs.Math.Decide.{ℕ_discrete}
use mathlib.Core.Logic.{dite}
use Rattle.std.proofs.lemmas.List.{length-set, get_or-set_same, get_or-set_other}
use Rattle.pp_pieces.specs.Counts.{CountedIn}
use Rattle.pp_pieces.specs.Left.{has, Marked, left}
use Rattle.pp_pieces.proofs.Bytes.{times_in-le}

or_false : (a : Bool) → a ≡ (a || false)
or_false true = refl
or_false false = refl

or_true : (a : Bool) → true ≡ (a || true)
or_true true = refl
or_true false = refl

or_assoc : (a b c : Bool) → ((a || b) || c) ≡ (a || (b || c))
or_assoc true b c = refl
or_assoc false b c = refl

has-append : (n : ℕ) (ms ns : List ℕ) → has n (ms ++ ns) ≡ (has n ms || has n ns)
has-append n [] ns = refl
has-append n (m ∷ ms) ns = ap (λ (b : Bool). nat_eq m n || b) (has-append n ms ns) ∙ sym (or_assoc (nat_eq m n) (has n ms) (has n ns))

pub marked-none : (old : List Bool) → Marked old old []
marked-none old = record { long = refl; each = λ n low. or_false (get_or old n false) }

-- some more pieces were marked
pub marked-more : (old mid new : List Bool) (ms ns : List ℕ) → Marked old mid ms → Marked mid new ns → Marked old new (ms ++ ns)
marked-more old mid new ms ns a b = record {
  long = b.long ∙ a.long;
  each = λ n low. let same = a.long in b.each n (omega (arith, same, low)) ∙ (ap (λ (c : Bool). c || has n ns) (a.each n low)
      ∙ (or_assoc (get_or old n false) (has n ms) (has n ns) ∙ ap (λ (c : Bool). get_or old n false || c) (sym (has-append n ms ns))));
}

-- one piece was marked
pub marked-one : (old : List Bool) (k : ℕ) → k < length old → Marked old (set old k true) (k ∷ [])
marked-one old k within = record {
  long = length-set old k true;
  each = λ n low. dite (ℕ_discrete k n)
      (λ same. ap (λ (m : ℕ). get_or (set old k true) m false) (sym same) ∙ (get_or-set_same old k true false within
      ∙ (or_true (get_or old n false) ∙ ap (λ (c : Bool). get_or old n false || (c || false)) (sym (eq-eqb k n same)))))
      (λ other. get_or-set_other old k n true false (λ e. other (sym e))
      ∙ (or_false (get_or old n false) ∙ ap (λ (c : Bool). get_or old n false || (c || false)) (sym (ne_eqb k n other))));
}

left_step : (taken : Bool) (low n : ℕ) (ms ns : List ℕ) → low ≡ n → cond taken (ms ++ ns) (low ∷ (ms ++ ns)) ≡ cond taken ms
    (low ∷ ms) ++ ns
left_step true low n ms ns same = refl
left_step false low n ms ns same = refl

-- one more piece that is taken or isn't
pub left-more : (low : ℕ) (bs : List Bool) (b : Bool) (n : ℕ) → n ≡ low + length bs
    → left low (bs ++ b ∷ []) ≡ left low bs ++ cond b [] (n ∷ [])
left-more low [] b n is = let same : low ≡ n = omega arith in by b same
  where
    by : (b : Bool) → low ≡ n → cond b [] (low ∷ []) ≡ cond b [] (n ∷ [])
    by true same = refl
    by false same = ap (λ (m : ℕ). m ∷ []) same
left-more low (c ∷ bs) b n is = ap (λ (l : List ℕ). cond c l (low ∷ l)) (left-more (low + 1) bs b n (omega arith))
    ∙ left_step c low low (left (low + 1) bs) (cond b [] (n ∷ [])) refl

left_one : (taken : Bool) (low n : ℕ) (ms : List ℕ) → length ms ≤ n → length (cond taken ms (low ∷ ms)) ≤ n + 1
left_one true low n ms le = omega arith
left_one false low n ms le = omega arith

left-le : (low : ℕ) (bs : List Bool) → length (left low bs) ≤ length bs
left-le low [] = omega arith
left-le low (b ∷ bs) = let one = left_one b low (length bs) (left (low + 1) bs) (left-le (low + 1) bs) in omega arith

-- there is room for a further piece
pub left-room : (old new bytes : List ℕ) (bs : List Bool) (b : ℕ) → CountedIn old new bytes (left 0 bs) → length bs < 4096
    → get_or old b 0 + 16777216 < 4294967296 → b < 256 → get_or new b 0 + 4096 < 4294967296
left-room old new bytes bs b c few room low = let is = c.each b low in let most = times_in-le b bytes (left 0 bs) in
    let long = left-le 0 bs in omega arith
