-- No chain is in hand after all of them were flushed.
use Rattle.std.proofs.Common.{◌≡◌, ℕ, zero, suc, List, [], ◌∷◌, length, refl, ap, ◌∙◌, arith}
use Rattle.pp_link.specs.declared.layout.Sizes.{Sizes}
use Rattle.pp_rule.specs.Lists.{rest_of}
use Rattle.pp_rule.specs.declared.views.SeatView.{SeatView}
use Rattle.pp_unlink.specs.Invalidation.{Flushed}
use Rattle.atomic_table.specs.declared.shared.Seat.{Seat}
use Rattle.pp_rule.specs.declared.views.PassState.{PassState}
use Rattle.pp_base.specs.declared.purse.Purse.{Purse}
use Rattle.pp_base.specs.Passes.{known}
use Rattle.pp_reclaim.specs.Sweeps.{Swept}

empty : {A : Type 0} (xs : List A) → length xs ≡ 0 → xs ≡ []
empty [] none = refl
empty (x ∷ xs) none = absurd (omega arith)

length_rest : {A : Type 0} (xs : List A) (n : ℕ) → length xs ≡ suc n → length (rest_of xs) ≡ n
length_rest [] n many = absurd (omega arith)
length_rest (x ∷ xs) n many = omega arith

pub flushed_none : {E A W : Type 0} (sides : ℕ) (z : Sizes) (n : ℕ) (v w : SeatView E A W) → length v.known.chains ≡ n
    → Flushed sides z n v w → w.known.chains ≡ []
flushed_none sides z zero v w many same = ap (λ u. u.known.chains) same ∙ empty v.known.chains many
flushed_none sides z (suc n) v w many (next, (first, rest)) = flushed_none sides z n next w
    (ap (λ q. length q.chains) first.known ∙ length_rest v.known.chains n many) rest

-- a reclaim pass leaves it so
pub swept_none : {E A W : Type 0} (z : Sizes) (many : ℕ) (s s' : Seat Unit (SeatView E A W)) (p p' : Purse) → Swept z many s s' p p'
    → (known s).chains ≡ [] → (known s').chains ≡ []
swept_none {E} {A} {W} z many s s' p p' w none = ap (λ (q : PassState W). q.chains) w.known_is ∙ none
