-- The pieces that no caller owns.
use Rattle.std.specs.Prelude.{◌≡◌, ℕ, zero, suc, ◌+◌, ◌<◌, cond, List, [], ◌∷◌, ◌++◌, length}
use Rattle.pp_model.specs.Calls.{key_of}
use Rattle.pp_model.specs.Lists.{AtEach}
use Rattle.pp_pieces.specs.Counts.{owned}
use Rattle.pp_pieces.specs.Left.{has}
use Rattle.pp_claims.specs.declared.shares.Share.{Share}

-- a caller's claims are those of so many pieces, and each has an answer
pub record MayMark (pieces : ℕ) (share : Share) : Type 0 where
  pub there : AtEach share.calls.items (λ j call. key_of call < pieces)
  pub answered : length share.answers.now ≡ length share.calls.items

-- the pieces that the callers own
abbrev pub owned_of : List Share → List ℕ
owned_of [] = []
owned_of (share ∷ shares) = owned share.calls.items share.answers.now ++ owned_of shares

-- the numbers from `low` on, so many, that aren't among these
abbrev pub left_over : ℕ → ℕ → List ℕ → List ℕ
left_over low zero ns = []
left_over low (suc count) ns = cond (has low ns) (left_over (low + 1) count ns) (low ∷ left_over (low + 1) count ns)
