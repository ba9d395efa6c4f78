-- The calls by which callers claim pieces.
use Rattle.std.specs.Prelude.{ℕ, ◌+◌, ◌*◌, ◌/◌, ◌%◌, List, map}
use Rattle.pp_model.specs.declared.Call.{Call}
use Rattle.pp_model.specs.declared.Call.TheVariants.{Insert}
use Rattle.pp_model.specs.Lists.{upto}

-- The claim that caller c makes after so many others. It begins at its part of the pieces, and goes round from the last one to the
-- first.
abbrev pub claim : (callers pieces c turn : ℕ) → Call
claim callers pieces c turn = Insert ((c * pieces / callers + turn) % pieces) c

-- the claims of caller c, one for each piece
abbrev pub claims : (callers pieces c : ℕ) → List Call
claims callers pieces c = map (claim callers pieces c) (upto 0 pieces)

-- the claims of all callers
abbrev pub all_claims : (callers pieces : ℕ) → List (List Call)
all_claims callers pieces = map (claims callers pieces) (upto 0 callers)
