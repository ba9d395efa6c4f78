-- An input, line by line, up to the one that names the plan.
use Rattle.std.proofs.Common.{◌≡◌, ℕ, suc, ◌+◌, ◌-◌, ◌≤◌, true, false, List, [], ◌∷◌, length, take, drop, Option, Some, None}
use Rattle.std.proofs.Common.{option_map, refl, sym, ap, ◌∙◌, subst, arith}
use Rattle.std.specs.List.{between, after_first}
use Rattle.std.proofs.lemmas.List.{drop_all, length-drop, take_all}
use Rattle.pp_trace.specs.declared.scanning.Span.{Span}
use Rattle.pp_trace.specs.Lines.{IsLineAt, is_line_feed, lines_of, fields_of}
use Rattle.pp_plans.specs.Parts.{names_plan, plan_at, after_lines, TextParts, parts_at, parts_of}

-- what is known when so many lines of a text were passed, up to this place
pub record Passed (text : List ℕ) (from lines : ℕ) : Type 0 where
  pub within : from ≤ length text
  pub few : lines ≤ from
  pub rest : drop from text ≡ after_lines lines text
  pub none : plan_at (lines_of text) ≡ option_map (λ k. lines + k) (plan_at (lines_of (drop from text)))
  pub many : length (lines_of text) ≡ lines + length (lines_of (drop from text))

same_map : (o : Option ℕ) → o ≡ option_map (λ k. 0 + k) o
same_map None = refl
same_map (Some k) = let e : 0 + k ≡ k = omega arith in ap (λ j. Some j) (sym e)

later_map : (n : ℕ) (o : Option ℕ) → option_map (λ k. n + k) (option_map suc o) ≡ option_map (λ k. n + 1 + k) o
later_map n None = refl
later_map n (Some k) = let e : n + suc k ≡ n + 1 + k = omega arith in ap (λ j. Some j) e

pub passed_none : (text : List ℕ) → Passed text 0 0
passed_none text = record {
  within = omega arith;
  few = omega arith;
  rest = refl;
  none = same_map (plan_at (lines_of text));
  many = omega arith;
}

module _ (text : List ℕ) (from lines : ℕ) (line : Span) (is : IsLineAt text from line) (before : Passed text from lines) where
  abbrev here : List ℕ
  here = between line.start line.end text

  -- behind a line that doesn't name the plan
  pub passed_line : names_plan (fields_of here) ≡ false → Passed text line.next (lines + 1)
  passed_line other = record {
    within = is.ordered.2;
    few = omega (arith, is.longer, before.few);
    rest = let one : suc lines ≡ lines + 1 = omega arith in
        subst (λ (n : ℕ). drop line.next text ≡ after_lines n text) one (is.rest ∙ ap (after_first is_line_feed) before.rest);
    none =
        let cut = ap plan_at is.lines in
        let next : plan_at (here ∷ lines_of (drop line.next text)) ≡ option_map suc (plan_at (lines_of (drop line.next text)))
        = rw other refl in
        before.none ∙ (ap (option_map (λ k. lines + k)) (cut ∙ next) ∙ later_map lines (plan_at (lines_of (drop line.next text))));
    many = let cut = ap length is.lines in omega (arith, before.many, cut);
  }

  -- at the line that names the plan the text is cut
  pub parts_here : names_plan (fields_of here) ≡ true
      → parts_of text ≡ record { trace = take from text; plan = drop line.next text; lines = lines + 1 }
  parts_here names =
      let cut = ap plan_at is.lines in
      let first : plan_at (here ∷ lines_of (drop line.next text)) ≡ Some 0 = rw names refl in
      let at : plan_at (lines_of text) ≡ Some (lines + 0) = before.none ∙ ap (option_map (λ k. lines + k)) (cut ∙ first) in
      let place : lines + 0 ≡ lines = omega arith in
      let behind : drop line.next text ≡ after_lines (suc lines) text = is.rest ∙ ap (after_first is_line_feed) before.rest in
      let front : length text - length (after_lines lines text) ≡ from =
      let l = ap length (sym before.rest) in omega (arith, l, length-drop from text, before.within) in
      ap (parts_at text) (at ∙ ap (λ k. Some k) place)
      ∙ ap (λ (n : ℕ). let p : TextParts = record {
        trace = take n text;
        plan = after_lines
            (suc lines) text;
        lines = lines + 1;
      } in p) front
      ∙ ap (λ (xs : List ℕ). let p : TextParts = record { trace = take from text; plan = xs; lines = lines + 1 } in p) (sym behind)

-- a text without such a line is all trace
pub parts_whole : (text : List ℕ) (from lines : ℕ) → from ≡ length text → Passed text from lines
    → parts_of text ≡ record { trace = take (length text) text; plan = drop (length text) text; lines = lines }
parts_whole text from lines end before =
    let empty : drop from text ≡ [] = drop_all from text (omega (arith, end)) in
    let none : lines_of (drop from text) ≡ [] = ap lines_of empty in
    let at : plan_at (lines_of text) ≡ None = before.none ∙ ap (λ l. option_map (λ k. lines + k) (plan_at l)) none in
    let count : length (lines_of text) ≡ lines = let l = ap length none in omega (arith, before.many, l) in
    let whole = take_all (length text) text (omega arith) in
    let nothing = drop_all (length text) text (omega arith) in
    ap (parts_at text) at
    ∙ ap (λ (n : ℕ). let p : TextParts = record { trace = text; plan = []; lines = n } in p) count
    ∙ ap (λ (xs : List ℕ). let p : TextParts = record { trace = xs; plan = []; lines = lines } in p) (sym whole)
    ∙ ap (λ (xs : List ℕ). let p : TextParts = record { trace = take (length text) text; plan = xs; lines = lines } in p) (sym nothing)
