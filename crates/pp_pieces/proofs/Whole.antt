-- The pieces of an input are all of it, each byte once.
use Rattle.std.proofs.Common.{◌≡◌, ℕ, zero, suc, ◌+◌, ◌*◌, ◌≤◌, List, [], ◌∷◌, length, sym, ap, ◌∙◌, arith}
use Rattle.std.specs.Prelude.{drop}
use Rattle.std.proofs.Math.ListN.{drop_of_length-le}
use Rattle.std.proofs.lemmas.List.{take-append-drop}
use Rattle.pp_model.specs.Lists.{times, upto}
use Rattle.pp_pieces.specs.Pieces.{pieces_of, piece}
use Rattle.pp_pieces.specs.Counts.{times_in}
use Rattle.pp_pieces.proofs.Bytes.{times-append}

drop_plus : (n m : ℕ) (xs : List ℕ) → drop m (drop n xs) ≡ drop (n + m) xs
drop_plus zero m xs = let e : 0 + m ≡ m = omega arith in ap (λ (k : ℕ). drop k xs) (sym e)
drop_plus (suc n) m [] = drop_of_length-le (drop (suc n) []) (omega arith) ∙ sym (drop_of_length-le [] (omega arith))
drop_plus (suc n) m (x ∷ xs) = let e : suc n + m ≡ suc (n + m) = omega arith in
    drop_plus n m xs ∙ ap (λ (k : ℕ). drop k (x ∷ xs)) (sym e)

-- what stands behind the first pieces stands in the next ones, or behind them
next_pieces : (b low count : ℕ) (bytes : List ℕ)
    → times b (drop (low * 4096) bytes) ≡ times_in b bytes (upto low count) + times b (drop ((low + count) * 4096) bytes)
next_pieces b low zero bytes = let e : low * 4096 ≡ (low + 0) * 4096 = omega arith in
    let same = ap (λ (k : ℕ). times b (drop k bytes)) e in omega (arith, same)
next_pieces b low (suc count) bytes =
    let rest = next_pieces b (low + 1) count bytes in
    let cut = ap (times b) (sym (take-append-drop 4096 (drop (low * 4096) bytes)))
    ∙ times-append b (piece bytes low) (drop 4096 (drop (low * 4096) bytes)) in
    let on : low * 4096 + 4096 ≡ (low + 1) * 4096 = omega arith in
    let far = ap (times b) (drop_plus (low * 4096) 4096 bytes ∙ ap (λ (k : ℕ). drop k bytes) on) in
    let ends : (low + 1 + count) * 4096 ≡ (low + suc count) * 4096 = omega arith in
    let same = ap (λ (k : ℕ). times b (drop k bytes)) ends in omega (arith, rest, cut, far, same)

-- the counts of all pieces are those of the input
pub all_pieces : (b : ℕ) (bytes : List ℕ) → times_in b bytes (upto 0 (pieces_of (length bytes))) ≡ times b bytes
all_pieces b bytes = let n = pieces_of (length bytes) in let is = next_pieces b 0 n bytes in
    let past : length bytes ≤ (0 + n) * 4096 = omega arith in
    let none = ap (times b) (drop_of_length-le bytes past) in omega (arith, is, none)
