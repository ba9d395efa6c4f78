-- A line that is told piece by piece.
use Rattle.std.proofs.Common.{◌≡◌, ℕ, ◌-◌, ◌≤◌, List, [], ◌++◌, length, take, drop, refl, sym, ap, ◌∙◌, subst, arith}
use Rattle.std.proofs.Common.{append_assoc, append-nil}
use Rattle.std.specs.Prelude.{Option, Result, Ok, Err, IfOk, IfErr}
use Rattle.std.proofs.Common.{inl, inr}
use Rattle.std.proofs.lemmas.List.{take-append-drop, take_all, length-drop}
use Rattle.std.specs.Io.KnownBytes.{Appends}
use Rattle.std.proofs.KnownBytes.{Appends-nil, Appends-trans}
use Rattle.pp_outside.specs.declared.Failed.{Failed}
use Rattle.pp_outside.specs.Outside.{WroteOn, no_write, next_write, OffersAll}
use Rattle.pp_devices.specs.Told.{IsTold, IsToldWhole, IsToldPart}

module _ {E : Type 0} (written : E → Option (List ℕ)) (faults : E → ℕ) (Writes : E → E → List ℕ → Result ℕ Failed → Type 0) where
  -- the front of the line was taken, and this is the rest; no write failed
  pub record IsSent (old new : E) (rest line : List ℕ) : Type 0 where
    pub sent : List ℕ
    pub is : sent ++ rest ≡ line
    pub written_is : Appends (written old) (written new) sent
    pub kept : faults new ≡ faults old
    pub writes : WroteOn Writes OffersAll old line new rest

  pub none_sent : (s : E) (line : List ℕ) → IsSent s s line line
  none_sent s line = record { sent = []; is = refl; written_is = Appends-nil (written s); kept = refl; writes = no_write }

  pub more_sent : (s t u : E) (rest line : List ℕ) (count : ℕ) → count ≤ length rest → IsSent s t rest line
      → Appends (written t) (written u) (take count rest) → faults u ≡ faults t → Writes t u rest (Ok count)
      → IsSent s u (take (length rest - count) (drop count rest)) line
  more_sent s t u rest line count fits so_far took kept made =
      let all : take (length rest - count) (drop count rest) ≡ drop count rest =
      take_all (length rest - count) (drop count rest) (omega (arith, length-drop count rest)) in
      record {
        sent = so_far.sent ++ take count rest;
        is = ap (λ l. (so_far.sent ++ take count rest) ++ l) all
            ∙ (append_assoc so_far.sent (take count rest) (drop count rest)
            ∙ (ap (λ l. so_far.sent ++ l) (take-append-drop count rest) ∙ so_far.is));
        written_is = Appends-trans (written s) (written t) (written u) so_far.sent (take count rest) so_far.written_is took;
        kept = kept ∙ so_far.kept;
        writes = subst (λ (left : List ℕ). WroteOn Writes OffersAll s line u left) (sym all)
            (next_write t u rest rest [] count so_far.writes (sym (append-nil rest)) refl fits made);
      }

  -- it was told, however that ended
  pub told : (old new : E) (line : List ℕ) (r : Result Unit Failed) → IfOk r (λ u. IsToldWhole written faults Writes old new line)
      → IfErr r (λ e. IsToldPart written faults Writes old new line) → IsTold written faults Writes old new line
  told old new line (Ok u) whole part = inl whole
  told old new line (Err e) whole part = inr part
