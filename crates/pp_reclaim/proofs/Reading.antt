-- One more word of a reclaim pass.
use Rattle.std.proofs.Common.{◌≡◌, ℕ, ◌+◌, cond, Bool, List, [], ◌∷◌, ◌++◌, length, refl, sym, ap, ◌∙◌, subst}
use Rattle.std.proofs.Common.{ne_eqb, length-append, arith}
use Rattle.atomic_table.specs.declared.shared.Seat.{Seat}
use Rattle.pp_rule.specs.Lists.{without}
use Rattle.pp_rule.specs.declared.views.Scan.{Scan}
use Rattle.pp_rule.specs.declared.views.PassState.{PassState}
use Rattle.pp_rule.specs.declared.views.SeatView.{SeatView}
use Rattle.pp_rule.specs.Steps.{still, scanned}
use Rattle.pp_base.specs.Passes.{known, view, IsSame}
use Rattle.pp_base.specs.Named.{NamedStep, MadeOne}
use Rattle.pp_base.proofs.Named.{made_in_turn}
use Rattle.pp_base.proofs.Parted.{without_last}
use Rattle.pp_reclaim.specs.Sweeps.{HasRead}

-- what is left after one more word
still_more : {W : Type 0} (found : ℕ) (q : PassState W) → still (scanned found q) ≡ without found (still q)
still_more found q = ap (λ (b : Bool). cond b q.retired (without found (still q))) (ne_eqb (q.scan.read + 1) 0 (λ e. absurd (omega arith)))

module _ (load : ℕ → ℕ → NamedStep) where
  module _ {E A W : Type 0} where
    pub has_read_none : (place : ℕ) (s : Seat Unit (SeatView E A W)) → HasRead load place [] s s
    has_read_none place s = record {
      same = record { table_is = refl; number = refl; sizes = refl };
      rest = refl;
      read = omega arith;
      left = refl;
      steps = refl;
    }

    pub has_read_more : (place at found : ℕ) (words : List ℕ) (s s' s'' : Seat Unit (SeatView E A W)) → HasRead load place words s s'
        → IsSame s' s'' → at ≡ place + length words → known s'' ≡ scanned found (known s') → MadeOne (load at found) (view s') (view s'')
        → HasRead load place (words ++ found ∷ []) s s''
    has_read_more place at found words s s' s'' h one here is made = let more = ap (λ (q : PassState W). q.scan.read) is in record {
      same = record {
        table_is = one.table_is ∙ h.same.table_is;
        number = one.number ∙ h.same.number;
        sizes = one.sizes ∙ h.same.sizes;
      };
      rest = is ∙ (ap (λ (q : PassState W). record q { scan = (scanned found (known s')).scan }) h.rest
          ∙ ap (λ (x : Scan). record (known s) { scan = x }) (sym (ap (λ (q : PassState W). q.scan) is)));
      read = omega (arith, more, h.read, length-append words (found ∷ []));
      left = ap (λ (q : PassState W). still q) is ∙ (still_more found (known s') ∙ (ap (λ (l : List ℕ). without found l) h.left
          ∙ without_last words (still (known s)) found));
      steps = made_in_turn load place words found (view s) (view s') (view s'') h.steps
          (subst (λ (k : ℕ). MadeOne (load k found) (view s') (view s'')) here made);
    }
