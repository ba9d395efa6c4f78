-- What callers that claimed pieces own, and what they counted.
use Rattle.std.specs.Prelude.{◌≡◌, ℕ, ◌+◌, ◌<◌, ◌≤◌, Bool, true, false, List, [], ◌∷◌, ◌++◌, length, replicate, get_or}
use Rattle.std.specs.Prelude.{sum_by, Some, slice_get}
use Rattle.pp_model.specs.declared.Answer.{Answer}
use Rattle.pp_model.specs.declared.Answer.TheVariants.{Said, Full, Lost}
use Rattle.pp_model.specs.declared.Call.{Call}
use Rattle.pp_model.specs.declared.Pair.{Pair}
use Rattle.pp_model.specs.Calls.{key_of}
use Rattle.pp_model.specs.FiniteMap.{find}
use Rattle.pp_model.specs.Lists.{times}
use Rattle.pp_pieces.specs.Counts.{CountedIn, owned}
use Rattle.pp_pieces.specs.Left.{has}
use Rattle.pp_claims.specs.Rest.{left_over}

-- the pieces that the callers own, as their claims were answered
abbrev pub all_owned : List (List Call) → List (List Answer) → List ℕ
all_owned [] answers = []
all_owned (calls ∷ lists) [] = []
all_owned (calls ∷ lists) (got ∷ answers) = owned calls got ++ all_owned lists answers

-- caller c owns this piece
pub record Owns (lists : List (List Call)) (answers : List (List Answer)) (c number : ℕ) : Type 0 where
  pub calls : List Call
  pub got : List Answer
  pub list : slice_get lists c ≡ Some calls
  pub answered : slice_get answers c ≡ Some got
  pub won : has number (owned calls got) ≡ true

-- an answer that is no reply
abbrev pub is_refused : Answer → Bool
is_refused (Said reply) = false
is_refused Full = true
is_refused (Lost turns) = true

-- every caller's claim of this piece was answered Full or Lost
abbrev pub AreRefused : List (List Call) → List (List Answer) → ℕ → Type 0
AreRefused lists answers number = (c j : ℕ) (calls : List Call) (got : List Answer) (call : Call) (answer : Answer)
    → slice_get lists c ≡ Some calls → slice_get answers c ≡ Some got → slice_get calls j ≡ Some call → slice_get got j ≡ Some answer
    → key_of call ≡ number → is_refused answer ≡ true

-- The pairs are the owned pieces, each with its owner. No piece is owned twice, and one is left over exactly where every caller's claim
-- of it was answered Full or Lost.
pub record AreOwned (pieces : ℕ) (lists : List (List Call)) (answers : List (List Answer)) (contents : List Pair) : Type 0 where
  pub paired : (c number : ℕ) → Owns lists answers c number → find contents number ≡ Some c
  pub own : (c number : ℕ) → find contents number ≡ Some c → (number < pieces) × Owns lists answers c number
  pub once : (number : ℕ) → times number (all_owned lists answers) ≤ 1
  pub refused : (number : ℕ) → number < pieces → has number (all_owned lists answers) ≡ false → AreRefused lists answers number
  pub left : (number : ℕ) → AreRefused lists answers number → has number (all_owned lists answers) ≡ false

-- There are tables of counts: for each caller that of exactly the pieces that it owns, and one of the pieces left over.
pub record AreCounted (bytes : List ℕ) (pieces : ℕ) (lists : List (List Call)) (answers : List (List Answer)) (counts : List (List ℕ))
    (rest : List ℕ) : Type 0 where
  pub each_caller : length counts ≡ length lists
  pub own : (c : ℕ) (calls : List Call) (got : List Answer) (counted : List ℕ) → slice_get lists c ≡ Some calls
      → slice_get answers c ≡ Some got → slice_get counts c ≡ Some counted
      → CountedIn (replicate 256 0) counted bytes (owned calls got)
  pub left : CountedIn (replicate 256 0) rest bytes (left_over 0 pieces (all_owned lists answers))

-- the sum of tables, at one byte value
abbrev pub sum_at : List (List ℕ) → List ℕ → ℕ → ℕ
sum_at counts rest b = sum_by (λ counted. get_or counted b 0) counts + get_or rest b 0

-- a table is the sum of others
pub record IsSum (counts : List (List ℕ)) (rest total : List ℕ) : Type 0 where
  pub all : length total ≡ 256
  pub each : (b : ℕ) → b < 256 → get_or total b 0 ≡ sum_at counts rest b
