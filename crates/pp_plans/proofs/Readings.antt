-- What the lines of a plan say, one line after the other, and the plan that grows from them.
use Rattle.std.proofs.Common.{◌≡◌, ℕ, zero, suc, ◌+◌, ◌<◌, ◌≤◌, true, false, cond, nat_lt, List, [], ◌∷◌, ◌++◌}
use Rattle.std.proofs.Common.{length, map, drop, replicate}
use Rattle.std.proofs.Common.{Option, Some, None, option_and_then, refl, sym, ap, ◌∙◌, arith, append_assoc, append-nil, ⊎_elim}
use Rattle.std.specs.List.{between}
use Rattle.std.proofs.lemmas.Bool.{cases_lt, cases_Bool}
use Rattle.std.proofs.lemmas.List.{drop_all}
use Rattle.pp_model.specs.Lists.{AtEach}
use Rattle.pp_trace.specs.declared.scanning.Span.{Span}
use Rattle.pp_trace.specs.Grammar.{number_below, is_skipped}
use Rattle.pp_trace.specs.Lines.{IsLineAt, fields_of, number_of}
use Rattle.pp_plans.specs.declared.parsing.Reading.{Reading}
use Rattle.pp_plans.specs.declared.parsing.Reading.TheVariants.{Nothing, Gives, Bad}
use Rattle.pp_plans.specs.Plans.{turns_in, given_by, given, reading, readings, turns_of, first_bad, bad_behind, IsPlan}

-- what is known when the lines up to this place were read, and this plan came of them
pub record HasRead (text : List ℕ) (before callers from line : ℕ) (plan : List ℕ) : Type 0 where
  pub within : from ≤ length text
  pub few : line ≤ before + from
  pub good : bad_behind before text callers ≡ first_bad (line + 1) (readings (drop from text) callers)
  pub turns : turns_of (readings text callers) ≡ plan ++ turns_of (readings (drop from text) callers)
  pub known : AtEach plan (λ k c. c < callers)

pub read_none : (text : List ℕ) (before callers : ℕ) → HasRead text before callers 0 before []
read_none text before callers = record {
  within = omega arith;
  few = omega arith;
  good = refl;
  turns = refl;
  known = λ k c at. absurd cc;
}

below_bound : (bound : ℕ) (field : List ℕ) (c : ℕ) → number_below bound field ≡ Some c → c < bound
below_bound bound field c is = by (number_of field) is
  where
    by : (o : Option ℕ) → option_and_then (λ n. cond (nat_lt n bound) (Some n) None) o ≡ Some c → c < bound
    by None e = absurd cc
    by (Some n) e =
        ⊎_elim
        (λ (low : n < bound). let t : nat_lt n bound ≡ true = (search arith) in let s = rw t at e in
        let same : n ≡ c = cc in omega (arith, low, same))
        (λ (high : bound ≤ n). let t : nat_lt n bound ≡ false = (search arith) in absurd (let s = rw t at e in cc))
        (cases_lt n bound)

-- a caller to whom a line gives turns is one of so many
known_giver : (callers : ℕ) (fields : List (List ℕ)) (c n : ℕ) → Gives c n ≡ reading callers fields → c < callers
known_giver callers fields c n says =
    ⊎_elim
    (λ (so : is_skipped fields ≡ true). absurd (let s = rw so at says in cc))
    (λ (shown : is_skipped fields ≡ false). by fields (rw shown at says))
    (cases_Bool (is_skipped fields))
  where
    of : (field : List ℕ) (a b : Option ℕ) → number_below callers field ≡ a → Gives c n ≡ given_by a b → c < callers
    of field None b is e = absurd cc
    of field (Some x) None is e = absurd cc
    of field (Some x) (Some y) is e = let same : c ≡ x = cc in omega (arith, below_bound callers field x is, same)

    by : (l : List (List ℕ)) → Gives c n ≡ given callers l → c < callers
    by [] e = absurd cc
    by (x ∷ []) e = absurd cc
    by (x ∷ y ∷ []) e = of x (number_below callers x) (turns_in y) refl e
    by (x ∷ y ∷ z ∷ l) e = absurd cc

replicate_known : (n c callers : ℕ) → c < callers → AtEach (replicate n c) (λ k d. d < callers)
replicate_known zero c callers low k d at = absurd cc
replicate_known (suc n) c callers low zero d at = let same : c ≡ d = cc in omega (arith, low, same)
replicate_known (suc n) c callers low (suc k) d at = replicate_known n c callers low k d at

append_known : (xs ys : List ℕ) (callers : ℕ) → AtEach xs (λ k d. d < callers) → AtEach ys (λ k d. d < callers)
    → AtEach (xs ++ ys) (λ k d. d < callers)
append_known [] ys callers left right k d at = right k d at
append_known (x ∷ xs) ys callers left right zero d at = left 0 d at
append_known (x ∷ xs) ys callers left right (suc k) d at = append_known xs ys callers (λ j e h. left (suc j) e h) right k d at

module _ (text : List ℕ) (before callers from line : ℕ) (plan : List ℕ) (span : Span) (is : IsLineAt text from span)
    (read : HasRead text before callers from line plan) where
  abbrev fields : List (List ℕ)
  fields = fields_of (between span.start span.end text)

  abbrev left : List Reading
  left = readings (drop span.next text) callers

  cut : readings (drop from text) callers ≡ reading callers fields ∷ left
  cut = ap (λ ls. map (reading callers) (map fields_of ls)) is.lines

  pub past_nothing : Nothing ≡ reading callers fields → HasRead text before callers span.next (line + 1) plan
  past_nothing says =
      let next = cut ∙ ap (λ r. r ∷ left) (sym says) in
      record {
        within = is.ordered.2;
        few = omega (arith, is.longer, read.few);
        good = read.good ∙ ap (first_bad (line + 1)) next;
        turns = read.turns ∙ ap (λ l. plan ++ turns_of l) next;
        known = read.known;
      }

  pub past_given : (c n : ℕ) → Gives c n ≡ reading callers fields
      → HasRead text before callers span.next (line + 1) (plan ++ replicate n c)
  past_given c n says =
      let next = cut ∙ ap (λ r. r ∷ left) (sym says) in
      record {
        within = is.ordered.2;
        few = omega (arith, is.longer, read.few);
        good = read.good ∙ ap (first_bad (line + 1)) next;
        turns = read.turns ∙ (ap (λ l. plan ++ turns_of l) next ∙ sym (append_assoc plan (replicate n c) (turns_of left)));
        known = append_known plan (replicate n c) callers read.known
            (replicate_known n c callers (known_giver callers fields c n says));
      }

  pub bad_here : (why : _) → Bad why ≡ reading callers fields
      → bad_behind before text callers ≡ Some (record { line = line + 1; why = why })
  bad_here why says = read.good ∙ ap (first_bad (line + 1)) (cut ∙ ap (λ r. r ∷ left) (sym says))

good_anywhere : (n m : ℕ) (rs : List Reading) → first_bad n rs ≡ None → first_bad m rs ≡ None
good_anywhere n m [] good = refl
good_anywhere n m (Nothing ∷ rs) good = good_anywhere (n + 1) (m + 1) rs good
good_anywhere n m (Gives c t ∷ rs) good = good_anywhere (n + 1) (m + 1) rs good
good_anywhere n m (Bad w ∷ rs) good = absurd cc

-- at the end of the text the plan is what it says
pub read_all : (text : List ℕ) (before callers from line : ℕ) (plan : List ℕ) → from ≡ length text
    → HasRead text before callers from line plan → IsPlan text callers plan
read_all text before callers from line plan end read =
    let none : readings (drop from text) callers ≡ [] = ap (λ t. readings t callers) (drop_all from text (omega (arith, end))) in
    record {
      good = good_anywhere (before + 1) 1 (readings text callers) (read.good ∙ ap (first_bad (line + 1)) none);
      plan_is = sym (read.turns ∙ (ap (λ l. plan ++ turns_of l) none ∙ append-nil plan));
      known = read.known;
    }
