-- How often each byte value stands in bytes, and which pieces a caller owns.
use Rattle.std.specs.Prelude.{◌≡◌, ℕ, ◌+◌, ◌^◌, ◌<◌, Bool, true, false, cond, List, [], ◌∷◌, length, get_or}
use Rattle.pp_model.specs.declared.Answer.{Answer}
use Rattle.pp_model.specs.declared.Answer.TheVariants.{Said, Full, Lost}
use Rattle.pp_model.specs.declared.Call.{Call}
use Rattle.pp_model.specs.declared.Reply.TheVariants.{Value, Absent, Added, Held, Took, Other}
use Rattle.pp_model.specs.Calls.{key_of}
use Rattle.pp_model.specs.Lists.{times}
use Rattle.pp_pieces.specs.Pieces.{piece}

-- so many bytes more may be counted
abbrev pub HaveRoom : List ℕ → ℕ → Type 0
HaveRoom counts more = (b : ℕ) → b < 256 → get_or counts b 0 + more < 2 ^ 32

-- these bytes were counted too, each by its value
pub record Counted (old new bytes : List ℕ) : Type 0 where
  pub all : length new ≡ 256
  pub each : (b : ℕ) → b < 256 → get_or new b 0 ≡ get_or old b 0 + times b bytes

-- the answer of an insert that added its pair
abbrev pub is_added : Answer → Bool
is_added (Said Added) = true
is_added (Said (Value v)) = false
is_added (Said Absent) = false
is_added (Said (Held v)) = false
is_added (Said (Took v)) = false
is_added (Said (Other v)) = false
is_added Full = false
is_added (Lost turns) = false

-- the pieces whose claims were answered so, in the order of the claims
abbrev pub owned : List Call → List Answer → List ℕ
owned [] answers = []
owned (call ∷ calls) [] = []
owned (call ∷ calls) (answer ∷ answers) = cond (is_added answer) (key_of call ∷ owned calls answers) (owned calls answers)

-- how often a byte value stands in these pieces
abbrev pub times_in : (b : ℕ) → List ℕ → List ℕ → ℕ
times_in b bytes [] = 0
times_in b bytes (n ∷ ns) = times b (piece bytes n) + times_in b bytes ns

-- the bytes of these pieces were counted too
pub record CountedIn (old new bytes ns : List ℕ) : Type 0 where
  pub all : length new ≡ 256
  pub each : (b : ℕ) → b < 256 → get_or new b 0 ≡ get_or old b 0 + times_in b bytes ns
