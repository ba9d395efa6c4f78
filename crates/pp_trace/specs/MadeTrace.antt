-- A trace made from a seed by a linear congruential generator.
use Rattle.std.specs.Prelude.{◌≡◌, ℕ, zero, suc, ◌+◌, ◌*◌, ◌/◌, ◌%◌, ◌^◌, ◌≤◌, cond, nat_lt, nat_eq, List, map, filter, length}
use Rattle.pp_model.specs.declared.Call.{Call}
use Rattle.pp_model.specs.declared.Call.TheVariants.{Get, Insert, Remove}
use Rattle.pp_model.specs.Lists.{upto, AtEach}
use Rattle.pp_trace.specs.TraceLists.{KeysFit}

abbrev pub draw : ℕ → ℕ
draw x = (x * 1103515245 + 12345) % 2 ^ 31

-- the state after some draws
abbrev pub state : ℕ → ℕ → ℕ
state seed zero = seed
state seed (suc n) = draw (state seed n)

abbrev pub made_call : ℕ → ℕ → ℕ → Call
made_call kind key value = cond (nat_lt kind 2) (Insert key value) (cond (nat_eq kind 2) (Remove key) (Get key))

-- the call of a caller that two draws in a row make
abbrev pub drawn_call : ℕ → ℕ → ℕ → ℕ → Call
drawn_call callers c x y = made_call ((x / 65536) % 4) (callers * ((y / 65536) % 4096) + c) y

-- the call of line i, from 0 on; the callers take turns
abbrev pub made_line : ℕ → ℕ → ℕ → Call
made_line seed callers i = drawn_call callers (i % callers) (state seed (2 * i + 1)) (state seed (2 * i + 2))

-- the calls of caller c among some made lines
abbrev pub made : ℕ → ℕ → ℕ → ℕ → List Call
made seed count callers c = map (made_line seed callers) (filter (λ i. nat_eq (i % callers) c) (upto 0 count))

-- the lists are those of a made trace
pub record IsMade (seed count callers : ℕ) (lists : List (List Call)) : Type 0 where
  pub lists_are : lists ≡ map (made seed count callers) (upto 0 callers)
  pub keys : KeysFit lists
  pub short : AtEach lists (λ c calls. length calls ≤ 16777216)
