-- What the text of a plan says: the callers in the order of their turns, or its first bad line. Lines, fields and numbers are those of
-- a trace, and so is what is skipped.
use Rattle.std.specs.Prelude.{◌≡◌, ℕ, ◌+◌, ◌<◌, ◌&&◌, cond, nat_lt, List, [], ◌∷◌, ◌++◌, map, replicate, Option, Some, None}
use Rattle.std.specs.Prelude.{option_and_then, ⊤}
use Rattle.pp_model.specs.Lists.{AtEach}
use Rattle.pp_trace.specs.Grammar.{number_below, is_skipped}
use Rattle.pp_trace.specs.Lines.{lines_of, fields_of, number_of}
use Rattle.pp_plans.specs.declared.parsing.PlanWhy.{PlanWhy}
use Rattle.pp_plans.specs.declared.parsing.PlanWhy.TheVariants as why
use Rattle.pp_plans.specs.declared.parsing.PlanFault.{PlanFault}
use Rattle.pp_plans.specs.declared.parsing.PlanFault.TheVariants as fault
use Rattle.pp_plans.specs.declared.parsing.Reading.{Reading}
use Rattle.pp_plans.specs.declared.parsing.Reading.TheVariants.{Nothing, Gives, Bad}

-- the number of turns that a field writes, if it is one from 1 to 1,000,000
abbrev pub turns_in : List ℕ → Option ℕ
turns_in field = option_and_then (λ n. cond (nat_lt 0 n && nat_lt n 1000001) (Some n) None) (number_of field)

abbrev pub given_by : Option ℕ → Option ℕ → Reading
given_by None turns = Bad why.Caller
given_by (Some caller) None = Bad why.Turns
given_by (Some caller) (Some turns) = Gives caller turns

-- what the fields of a line say that isn't skipped
abbrev pub given : ℕ → List (List ℕ) → Reading
given callers (caller ∷ turns ∷ []) = given_by (number_below callers caller) (turns_in turns)
given callers fields = Bad why.Fields

abbrev pub reading : ℕ → List (List ℕ) → Reading
reading callers fields = cond (is_skipped fields) Nothing (given callers fields)

-- what each line of a text says
abbrev pub readings : List ℕ → ℕ → List Reading
readings text callers = map (reading callers) (map fields_of (lines_of text))

-- the callers in the order of their turns
abbrev pub turns_of : List Reading → List ℕ
turns_of [] = []
turns_of (Nothing ∷ rest) = turns_of rest
turns_of (Gives caller turns ∷ rest) = replicate turns caller ++ turns_of rest
turns_of (Bad cause ∷ rest) = turns_of rest

pub record BadLine : Type 0 where
  pub line : ℕ
  pub why : PlanWhy

-- the first bad line, where lines count from n
abbrev pub first_bad : ℕ → List Reading → Option BadLine
first_bad n [] = None
first_bad n (Nothing ∷ rest) = first_bad (n + 1) rest
first_bad n (Gives caller turns ∷ rest) = first_bad (n + 1) rest
first_bad n (Bad cause ∷ rest) = Some (record { line = n; why = cause })

-- the first bad line of a plan before which so many lines stand
abbrev pub bad_behind : ℕ → List ℕ → ℕ → Option BadLine
bad_behind before text callers = first_bad (before + 1) (readings text callers)

-- the plan is what a text says, and each of its callers is one of so many
pub record IsPlan (text : List ℕ) (callers : ℕ) (plan : List ℕ) : Type 0 where
  pub good : first_bad 1 (readings text callers) ≡ None
  pub plan_is : plan ≡ turns_of (readings text callers)
  pub known : AtEach plan (λ k c. c < callers)

-- why a plan was refused
abbrev pub PlanCause : List ℕ → ℕ → ℕ → PlanFault → Type 0
PlanCause text before callers (fault.BadLine line why) = bad_behind before text callers ≡ Some (record { line = line; why = why })
PlanCause text before callers fault.NoMemory = ⊤
