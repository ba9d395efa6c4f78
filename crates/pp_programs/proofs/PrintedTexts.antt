-- Texts printed piece by piece.
use Rattle.std.proofs.Common.{◌≡◌, ℕ, ◌+◌, ◌<◌, List, [], ◌∷◌, ◌++◌, length, map, take, drop, sym, ap, ◌∙◌, subst, arith}
use Rattle.std.proofs.Common.{append_assoc, append-nil, Ok, Err, Vec, Global}
use Rattle.std.specs.Prelude.{Option, Result, OnOk}
use Rattle.std.proofs.lemmas.List.{take_more, take-append-drop, map-append, length-map}
use Rattle.std.proofs.lemmas.List.{length-take-le}
use Rattle.std.proofs.Math.ListN.{get_or}
use Rattle.pp_outside.specs.Outside.{HasCause}
use Rattle.pp_outside.specs.declared.Failed.{Failed}
use Rattle.pp_trace.specs.Text.{caller_text, callers_text}
use Rattle.pp_trace.specs.Printing.{Waiting, Broke, Printing, Puts}
use Rattle.pp_trace.proofs.Buffered.{Appends-ended, GrewByPrefix-ended, GrewByPrefix-broke, Rose-since, Puts-then, Puts-longer}
use Rattle.pp_programs.specs.Printed.{IsPrinted}

module _ {K : Type 0} {written : K → Option (List ℕ)} {faults : K → ℕ} {Writes : K → K → List ℕ → Result ℕ Failed → Type 0}
    {s0 s1 s2 : K} {p0 p1 p2 : Waiting} where
  -- one more piece
  pub Puts-more : (t line u : List ℕ) (r : Result (Unit {0}) Failed) → u ≡ t ++ line → Puts written faults Writes s0 s1 p0 p1 t (Ok tt)
      → Puts written faults Writes s1 s2 p1 p2 line r → Puts written faults Writes s0 s2 p0 p2 u r
  Puts-more t line u r e a b = subst (λ (l : List ℕ). Puts written faults Writes s0 s2 p0 p2 l r) (sym e) (Puts-then r a b)

module _ {K : Type 0} {written : K → Option (List ℕ)} {faults : K → ℕ} {Writes : K → K → List ℕ → Result ℕ Failed → Type 0}
    {s0 s1 : K} {p0 p1 : Waiting} where
  -- a piece that broke off is the front of the whole
  pub Puts-short : (t whole rest : List ℕ) (e : Failed) → whole ≡ t ++ rest → Puts written faults Writes s0 s1 p0 p1 t (Err e)
      → Puts written faults Writes s0 s1 p0 p1 whole (Err e)
  Puts-short t whole rest e same a =
      subst (λ (l : List ℕ). Puts written faults Writes s0 s1 p0 p1 l (Err e)) (sym same) (Puts-longer rest e a)

  -- a printer that had nothing waiting and broke off printed a prefix
  pub printed_short : (text whole rest : List ℕ) (e : Failed) → p0.waits ≡ [] → whole ≡ text ++ rest
      → Puts written faults Writes s0 s1 p0 p1 text (Err e)
      → IsPrinted (written s0) (faults s0) (written s1) (faults s1) whole (Err e)
  printed_short text whole rest e none same a =
      let b = Puts-short text whole rest e same a in
      let c : Broke (written s0) (written s1) [] p1.waits whole = subst (λ (l : List ℕ). Broke (written s0)
      (written s1) l p1.waits whole) none b.printed in
      (a.cause.failed, GrewByPrefix-broke c)

module _ {K : Type 0} {written : K → Option (List ℕ)} {faults : K → ℕ} {Writes : K → K → List ℕ → Result ℕ Failed → Type 0}
    {s0 s1 s2 : K} {p0 p1 : Waiting} where
  -- and one that wrote all that waits printed all
  pub printed_all : (text left : List ℕ) (r : Result (Unit {0}) Failed) → p0.waits ≡ []
      → Puts written faults Writes s0 s1 p0 p1 text (Ok tt)
      → Printing (written s1) (written s2) p1.waits left [] r → OnOk r (left ≡ []) → HasCause (faults s1) (faults s2) r
      → IsPrinted (written s0) (faults s0) (written s2) (faults s2) text r
  printed_all text left (Ok u) none a b empty cause = (Appends-ended none a b empty, cause.kept ∙ a.cause.kept)
  printed_all text left (Err e) none a b empty cause =
      (Rose-since (faults s0) (faults s1) (faults s2) a.cause.later cause.failed, GrewByPrefix-ended none a b)

-- ---- the lines of answers

abbrev pub items_of : {A : Type 0} → List (Vec A Global) → List (List A)
items_of lists = map (λ v. v.items) lists

module _ {A : Type 0} (line : ℕ → ℕ → A → List ℕ) where
  pub caller_text-append : (caller n : ℕ) (xs ys : List A)
      → caller_text line caller n (xs ++ ys) ≡ caller_text line caller n xs ++ caller_text line caller (n + length xs) ys
  caller_text-append caller n [] ys = ap (λ m. caller_text line caller m ys) (omega arith)
  caller_text-append caller n (x ∷ xs) ys =
      let next : (n + 1) + length xs ≡ n + length (x ∷ xs) = omega arith in
      ap (λ l. line caller n x ++ l) (caller_text-append caller (n + 1) xs ys
      ∙ ap (λ m. caller_text line caller (n + 1) xs ++ caller_text line caller m ys) next)
      ∙ sym (append_assoc (line caller n x) (caller_text line caller (n + 1) xs) (caller_text line caller (n + length (x ∷ xs)) ys))

  pub callers_text-append : (c : ℕ) (xs ys : List (List A))
      → callers_text line c (xs ++ ys) ≡ callers_text line c xs ++ callers_text line (c + length xs) ys
  callers_text-append c [] ys = ap (λ m. callers_text line m ys) (omega arith)
  callers_text-append c (x ∷ xs) ys =
      let next : (c + 1) + length xs ≡ c + length (x ∷ xs) = omega arith in
      ap (λ l. caller_text line c 1 x ++ l) (callers_text-append (c + 1) xs ys
      ∙ ap (λ m. callers_text line (c + 1) xs ++ callers_text line m ys) next)
      ∙ sym (append_assoc (caller_text line c 1 x) (callers_text line (c + 1) xs) (callers_text line (c + length (x ∷ xs)) ys))

  -- a caller's text with one more line
  pub caller_more : (caller number : ℕ) (answers : List A) (i : ℕ) (d : A) → i < length answers → number ≡ i + 1
      → caller_text line caller 1 (take (i + 1) answers)
      ≡ caller_text line caller 1 (take i answers) ++ line caller number (get_or answers i d)
  caller_more caller number answers i d low is =
      let at : 1 + length (take i answers) ≡ number = omega (arith, length-take-le i answers (omega arith)) in
      ap (caller_text line caller 1) (take_more answers i d low) ∙ caller_text-append caller 1 (take i answers) (get_or answers i d ∷ [])
      ∙ ap (λ l. caller_text line caller 1 (take i answers) ++ l) (append-nil _ ∙ ap (λ m. line caller m (get_or answers i d)) at)

  -- all of it
  pub caller_whole : (caller n : ℕ) (answers : List A)
      → caller_text line caller 1 answers
      ≡ caller_text line caller 1 (take n answers) ++ caller_text line caller (1 + length (take n answers)) (drop n answers)
  caller_whole caller n answers = ap (caller_text line caller 1) (sym (take-append-drop n answers))
      ∙ caller_text-append caller 1 (take n answers) (drop n answers)

  -- the callers' text with one more caller
  pub callers_more : (caller : ℕ) (lists : List (Vec A Global)) (i : ℕ) (d : Vec A Global) → i < length lists → caller ≡ i
      → callers_text line 0 (items_of (take (i + 1) lists))
      ≡ callers_text line 0 (items_of (take i lists)) ++ caller_text line caller 1 (get_or lists i d).items
  callers_more caller lists i d low is =
      let at : 0 + length (items_of (take i lists)) ≡ caller = omega (
        arith,
        length-take-le i lists (omega arith),
        length-map
            (take i lists) (λ v. v.items),
      ) in
      ap (λ l. callers_text line 0 (items_of l)) (take_more lists i d low)
      ∙ (ap (callers_text line 0) (map-append (λ v. v.items) (take i lists) (get_or lists i d ∷ []))
      ∙ (callers_text-append 0 (items_of (take i lists)) ((get_or lists i d).items ∷ [])
      ∙ ap (λ l. callers_text line 0 (items_of (take i lists)) ++ l)
      (append-nil _ ∙ ap (λ m. caller_text line m 1 (get_or lists i d).items) at)))

  pub callers_whole : (n : ℕ) (lists : List (Vec A Global))
      → callers_text line 0 (items_of lists)
      ≡ callers_text line 0 (items_of (take n lists)) ++ callers_text line (0 + length (items_of (take n lists))) (items_of (drop n lists))
  callers_whole n lists =
      ap (λ l. callers_text line 0 (items_of l)) (sym (take-append-drop n lists))
      ∙ (ap (callers_text line 0) (map-append (λ v. v.items) (take n lists) (drop n lists))
      ∙ callers_text-append 0 (items_of (take n lists)) (items_of (drop n lists)))
