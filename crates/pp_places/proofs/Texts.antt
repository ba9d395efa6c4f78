-- Texts of lists that grow by an element.
use Rattle.std.proofs.Common.{◌≡◌, ℕ, zero, suc, ◌+◌, ◌<◌, List, [], ◌∷◌, ◌++◌, length, take, get_or, sym, ap, ◌∙◌, arith}
use Rattle.std.proofs.Common.{append_assoc, append-nil}
use Rattle.std.specs.List.{flat_map}
use Rattle.pp_model.specs.declared.Placed.{Placed}
use Rattle.pp_certificate.specs.Printed.{said_line, said_text}

flat_more : {A : Type 0} (f : A → List ℕ) (xs : List A) (k : ℕ) (x : A) → k < length xs
    → flat_map f (take (k + 1) xs) ≡ flat_map f (take k xs) ++ f (get_or xs k x)
flat_more f [] k x low = absurd (omega (arith, low))
flat_more f (y ∷ xs) zero x low = append-nil (f y)
flat_more f (y ∷ xs) (suc k) x low =
    let next : suc k + 1 ≡ suc (k + 1) = omega arith in
    ap (λ j. flat_map f (take j (y ∷ xs))) next ∙ (ap (λ l. f y ++ l) (flat_more f xs k x (omega (arith, low)))
    ∙ sym (append_assoc (f y) (flat_map f (take k xs)) (f (get_or xs k x))))

pub pushed : {A : Type 0} (f : A → List ℕ) (xs : List A) (k : ℕ) (x : A) (old now next : List ℕ) → k < length xs
    → now ≡ old ++ flat_map f (take k xs) → next ≡ now ++ f (get_or xs k x) → next ≡ old ++ flat_map f (take (k + 1) xs)
pushed f xs k x old now next low had is =
    is ∙ (ap (λ l. l ++ f (get_or xs k x)) had ∙ (append_assoc old (flat_map f (take k xs)) (f (get_or xs k x))
    ∙ ap (λ l. old ++ l) (sym (flat_more f xs k x low))))

said_more : (c : ℕ) (lists : List (List Placed)) (k : ℕ) (x : List Placed) → k < length lists
    → said_text c (take (k + 1) lists) ≡ said_text c (take k lists) ++ flat_map (said_line (c + k)) (get_or lists k x)
said_more c [] k x low = absurd (omega (arith, low))
said_more c (mine ∷ lists) zero x low =
    let same : c + 0 ≡ c = omega arith in
    append-nil (flat_map (said_line c) mine) ∙ ap (λ j. flat_map (said_line j) mine) (sym same)
said_more c (mine ∷ lists) (suc k) x low =
    let next : suc k + 1 ≡ suc (k + 1) = omega arith in
    let same : c + 1 + k ≡ c + suc k = omega arith in
    ap (λ j. said_text c (take j (mine ∷ lists))) next
    ∙ (ap (λ l. flat_map (said_line c) mine ++ l) (said_more (c + 1) lists k x (omega (arith, low))
    ∙ ap (λ j. said_text (c + 1) (take k lists) ++ flat_map (said_line j) (get_or lists k x)) same)
    ∙ sym (append_assoc (flat_map (said_line c) mine) (said_text (c + 1) (take k lists))
    (flat_map (said_line (c + suc k)) (get_or lists k x))))

pub listed : (lists : List (List Placed)) (k : ℕ) (x : List Placed) (old now next : List ℕ) → k < length lists
    → now ≡ old ++ said_text 0 (take k lists) → next ≡ now ++ flat_map (said_line k) (get_or lists k x)
    → next ≡ old ++ said_text 0 (take (k + 1) lists)
listed lists k x old now next low had is =
    let same : 0 + k ≡ k = omega arith in
    is ∙ (ap (λ l. l ++ flat_map (said_line k) (get_or lists k x)) had
    ∙ (append_assoc old (said_text 0 (take k lists)) (flat_map (said_line k) (get_or lists k x))
    ∙ ap (λ l. old ++ l) (ap (λ j. said_text 0 (take k lists) ++ flat_map (said_line j) (get_or lists k x)) (sym same)
    ∙ sym (said_more 0 lists k x low))))
