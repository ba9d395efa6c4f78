-- The lines at the front of a trace that say no calls.
use Rattle.std.proofs.Common.{◌≡◌, ℕ, zero, suc, ◌+◌, true, false, List, [], ◌∷◌, ◌++◌, length, map, drop, replicate}
use Rattle.std.proofs.Common.{codes, refl, ap, sym, ◌∙◌, ⊎_elim, arith}
use Rattle.std.specs.List.{between}
use Rattle.std.specs.Str.{bytes_eq}
use Rattle.std.proofs.lemmas.Bool.{cases_Bool}
use Rattle.std.proofs.lemmas.List.{drop_all}
use Rattle.std.proofs.lemmas.Slice.Eq.{bytes_eq-Decides}
use Rattle.pp_trace.specs.declared.forms.Form.{Form}
use Rattle.pp_trace.specs.declared.forms.Form.TheVariants.{First, Second}
use Rattle.pp_trace.specs.declared.parsing.Reading.{Reading}
use Rattle.pp_trace.specs.declared.parsing.Reading.TheVariants.{Nothing}
use Rattle.pp_trace.specs.declared.scanning.Span.{Span}
use Rattle.pp_trace.specs.Lines.{IsLineAt, lines_of, fields_of}
use Rattle.pp_trace.specs.Grammar.{reading, readings_of, readings, is_skipped, names_second, form_of}
use Rattle.pp_trace.specs.Grammar.{calls_of, first_bad}
use Rattle.pp_trace.specs.Opening.{readings_in}

abbrev pub nothings : ℕ → List Reading
nothings n = replicate n Nothing

-- lines that say nothing are no calls, and none of them is bad
pub calls_of-nothings : (n c : ℕ) (rest : List Reading) → calls_of c (nothings n ++ rest) ≡ calls_of c rest
calls_of-nothings zero c rest = refl
calls_of-nothings (suc n) c rest = calls_of-nothings n c rest

pub first_bad-nothings : (n k : ℕ) (rest : List Reading) → first_bad k (nothings n ++ rest) ≡ first_bad (n + k) rest
first_bad-nothings zero k rest = ap (λ m. first_bad m rest) (omega arith)
first_bad-nothings (suc n) k rest = first_bad-nothings n (k + 1) rest ∙ ap (λ m. first_bad m rest) (omega arith)

pub nothings-more : (n : ℕ) (rest : List Reading) → nothings n ++ Nothing ∷ rest ≡ nothings (n + 1) ++ rest
nothings-more zero rest = refl
nothings-more (suc n) rest =
    let next : suc n + 1 ≡ suc (n + 1) = omega arith in
    ap (λ l. Nothing ∷ l) (nothings-more n rest) ∙ ap (λ k. nothings k ++ rest) (sym next)

-- ---- the first line

skipped-says : (form : Form) (callers : ℕ) (line : List (List ℕ)) → is_skipped line ≡ true → reading form callers line ≡ Nothing
skipped-says form callers [] so = refl
skipped-says form callers (first ∷ fields) so = rw so refl

-- the line that names the second form isn't skipped
name-shown : (line : List (List ℕ)) → names_second line ≡ true → is_skipped line ≡ false
name-shown [] so = cc
name-shown (first ∷ []) so = cc
name-shown (first ∷ second ∷ []) so =
    ⊎_elim
    (λ (same : bytes_eq first (codes "trace") ≡ true). let text = (bytes_eq-Decides first (codes "trace")).0 same in rw text refl)
    (λ (other : bytes_eq first (codes "trace") ≡ false). absurd (let no = rw other at so in cc))
    (cases_Bool (bytes_eq first (codes "trace")))
name-shown (first ∷ second ∷ third ∷ more) so = cc

of_skipped : (callers : ℕ) (line : List (List ℕ)) (lines : List (List (List ℕ))) → is_skipped line ≡ true
    → readings_of (line ∷ lines) callers ≡ Nothing ∷ readings_of lines callers
of_skipped callers line lines so =
    let says = skipped-says (form_of lines) callers line so in
    rw so (ap (λ r. r ∷ readings_of lines callers) says)

of_name : (callers : ℕ) (line : List (List ℕ)) (lines : List (List (List ℕ))) → names_second line ≡ true
    → readings_of (line ∷ lines) callers ≡ Nothing ∷ map (reading Second callers) lines
of_name callers line lines so = let shown = name-shown line so in rw (shown, so) refl

of_other : (callers : ℕ) (line : List (List ℕ)) (lines : List (List (List ℕ))) → is_skipped line ≡ false → names_second line ≡ false
    → readings_of (line ∷ lines) callers ≡ map (reading First callers) (line ∷ lines)
of_other callers line lines shown other = rw (shown, other) refl

-- ---- the line at a place

module _ (text : List ℕ) (from : ℕ) (line : Span) (is : IsLineAt text from line) where
  abbrev fields : List (List ℕ)
  fields = fields_of (between line.start line.end text)

  abbrev behind : List (List (List ℕ))
  behind = map fields_of (lines_of (drop line.next text))

  cut : map fields_of (lines_of (drop from text)) ≡ fields ∷ behind
  cut = ap (map fields_of) is.lines

  pub skipped_at : (callers : ℕ) → is_skipped fields ≡ true
      → readings (drop from text) callers ≡ Nothing ∷ readings (drop line.next text) callers
  skipped_at callers so = ap (λ ls. readings_of ls callers) cut ∙ of_skipped callers fields behind so

  pub name_at : (callers : ℕ) → names_second fields ≡ true
      → readings (drop from text) callers ≡ Nothing ∷ readings_in Second (drop line.next text) callers
  name_at callers so = ap (λ ls. readings_of ls callers) cut ∙ of_name callers fields behind so

  pub other_at : (callers : ℕ) → is_skipped fields ≡ false → names_second fields ≡ false
      → readings (drop from text) callers ≡ readings_in First (drop from text) callers
  other_at callers shown other = ap (λ ls. readings_of ls callers) cut ∙ of_other callers fields behind shown other
      ∙ ap (map (reading First callers)) (sym cut)

-- at the end of the text no line is left
pub none_at : (text : List ℕ) (from callers : ℕ) → from ≡ length text
    → readings (drop from text) callers ≡ readings_in First (drop from text) callers
none_at text from callers end = let none = drop_all from text (omega arith) in rw none refl
