-- What a caller has to count.
use Rattle.std.specs.Prelude.{◌≡◌, ℕ, ◌<◌, ◌≤◌, List, length}
use Rattle.pp_model.specs.Calls.{key_of}
use Rattle.pp_model.specs.Lists.{AtEach}
use Rattle.pp_pieces.specs.Counts.{HaveRoom}
use Rattle.pp_pieces.specs.Pieces.{pieces_of}
use Rattle.pp_claims.specs.declared.shares.Share.{Share}

-- what a caller owns may be counted: its claims are those of pieces, each has an answer, and the table has room for the whole input
pub record MayCount (bytes : List ℕ) (share : Share) : Type 0 where
  pub few : length share.calls.items ≤ 4096
  pub there : AtEach share.calls.items (λ j call. key_of call < pieces_of (length bytes))
  pub answered : length share.answers.now ≡ length share.calls.items
  pub all : length share.counts.items ≡ 256
  pub room : HaveRoom share.counts.items 16777216
