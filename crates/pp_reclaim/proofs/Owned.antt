-- A pass owns no more records than there are.
use Rattle.std.proofs.Common.{◌≡◌, ℕ, ◌+◌, ◌<◌, ◌≤◌, Bool, true, false, eqb, ◌||◌, List, [], ◌∷◌, map, length, sym, ap, ◌∙◌, subst}
use Rattle.std.proofs.Common.{ne_eqb, length-append, arith}
use Rattle.std.proofs.Math.Decide.{ℕ_discrete}
use mathlib.Core.Logic.{dite}
use Rattle.std.proofs.Math.Bool.{false≢true}
use Rattle.std.specs.List.{IsDistinct, All, list_any}
use Rattle.std.proofs.lemmas.List.Elements.{All-cons, All-nil, recursion_from_All}
use Rattle.std.proofs.lemmas.List.{length-map}
use Rattle.std.proofs.lemmas.Map.Keys.{IsDistinct-cons}
use Rattle.std.proofs.lemmas.Map.Steps.{length-le_from_distinct_below}
use Rattle.atomic_table.specs.declared.shared.Seat.{Seat}
use Rattle.pp_link.specs.declared.layout.Sizes.{Sizes}
use Rattle.pp_rule.specs.Lists.{IsIn, OnceBy}
use Rattle.pp_rule.specs.declared.views.PrivateRecord.{PrivateRecord}
use Rattle.pp_rule.specs.declared.views.PassState.{PassState}
use Rattle.pp_rule.specs.declared.views.SeatView.{SeatView}
use Rattle.pp_rule.specs.Rule.{number_of}
use Rattle.pp_rule.proofs.Put.{in_first, in_later}
use Rattle.pp_rule.proofs.Without.{once_tail, once_head}
use Rattle.pp_base.specs.declared.purse.Purse.{Purse}
use Rattle.pp_base.specs.Passes.{known, IsPassOf}
use Rattle.pp_reclaim.specs.Sweeps.{Swept}

apart : (n : ℕ) (ds : List PrivateRecord) → ((d : PrivateRecord) → IsIn d ds → d.number ≡ n → ⊥)
    → All (λ m. eqb n m ≡ false) (map number_of ds)
apart n [] none = All-nil (λ m. eqb n m ≡ false)
apart n (d ∷ ds) none = All-cons (λ m. eqb n m ≡ false) d.number (map number_of ds)
    (ne_eqb n d.number (λ e. none d (in_first d ds) (sym e))) (apart n ds (λ x i. none x (in_later x d ds i)))

distinct : (ds : List PrivateRecord) → OnceBy number_of ds → IsDistinct eqb (map number_of ds)
unfolding IsDistinct
distinct [] once = tt
distinct (d ∷ ds) once = IsDistinct-cons eqb d.number (map number_of ds)
    (recursion_from_All (λ m. eqb d.number m ≡ false) (map number_of ds)
    (apart d.number ds (λ x i e. once_head number_of d ds once x i e)))
    (distinct ds (once_tail number_of d ds once))

below : (top : ℕ) (ds : List PrivateRecord) → ((d : PrivateRecord) → IsIn d ds → d.number < top) → (n : ℕ)
    → list_any (eqb n) (map number_of ds) ≡ true → n < top
below top [] low n hit = absurd (false≢true hit)
below top (d ∷ ds) low n hit = dite (ℕ_discrete n d.number)
    (λ e. subst (λ (m : ℕ). m < top) (sym e) (low d (in_first d ds)))
    (λ ne. below top ds (λ x i. low x (in_later x d ds i)) n
    (sym (ap (λ (b : Bool). b || list_any (eqb n) (map number_of ds)) (ne_eqb n d.number ne)) ∙ hit))

pub few_owned : {W : Type 0} (z : Sizes) (q : PassState W) → IsPassOf z q → length q.owned ≤ z.records + 1
few_owned z q pass = subst (λ (n : ℕ). n ≤ z.records + 1) (length-map q.owned number_of)
    (length-le_from_distinct_below (map number_of q.owned) (z.records + 1) (distinct q.owned pass.owned_once)
    (below (z.records + 1) q.owned (λ d i. omega (arith, pass.owned d i))))

-- so it frees no more
pub few_freed : {E A W : Type 0} (z : Sizes) (many : ℕ) (s s' : Seat Unit (SeatView E A W)) (p p' : Purse) → Swept z many s s' p p'
    → IsPassOf (known s').sizes (known s') → (known s').sizes ≡ z → many ≤ z.records + 1
few_freed z many s s' p p' w pass is = let few = few_owned (known s').sizes (known s') pass in
    omega (
      arith,
      few,
      w.count,
      ap (λ (y : Sizes). y.records) is,
      ap (λ q. length q.owned) w.known_is,
      length-append (known s).owned w.freed,
    )
