use Rattle.std.proofs.Common.{◌≡◌, All, map, take, replicate}
use Rattle.pp_model.specs.Lists.{upto}
use Rattle.pp_pieces.specs.Claims.{claims}
use Rattle.pp_claims.proofs.shares.shares_of.Given as goal

-- the shares of the callers so far
abbrev pub invariant-loop-caller : goal.invariant-loop-caller
invariant-loop-caller l = record {
  calls : map (λ s. s.calls.items) l.shares.items ≡ map (claims l.callers l.pieces) (upto 0 l.caller);
  answers : map (λ s. s.answers.now) l.shares.items ≡ map (λ v. v.items) (take l.caller l.answers);
  empty : All (λ s. s.counts.items ≡ replicate 256 0) l.shares.items;
}
