-- The records that a pass owns, found by their numbers, and the step at one of them.
use Rattle.std.proofs.Common.{◌≡◌, ℕ, suc, ◌<◌, ◌≤◌, Bool, cond, List, [], ◌∷◌, map, refl, sym, ap, ◌∙◌, subst, ne_eqb, arith}
use Rattle.std.proofs.Math.Decide.{ℕ_discrete}
use mathlib.Core.Logic.{dite}
use mathlib.Core.Option.{some}
use lib.ListN.{get_elem?}
use Rattle.atomic_table.specs.Table.{Me, Allows}
use Rattle.atomic_table.specs.declared.shared.Seat.{Seat}
use Rattle.pp_link.specs.declared.layout.Sizes.{Sizes}
use Rattle.pp_link.specs.declared.layout.Field.{Field}
use Rattle.pp_link.specs.declared.layout.Field.TheVariants.{Key, Value, Left, Right, High}
use Rattle.pp_link.specs.Places.{IsNumber, total, cell_place, field_number}
use Rattle.pp_rule.specs.Lists.{times}
use Rattle.pp_rule.specs.declared.views.PrivateRecord.{PrivateRecord}
use Rattle.pp_rule.specs.declared.views.PassState.{PassState}
use Rattle.pp_rule.specs.declared.views.SeatView.{SeatView}
use Rattle.pp_rule.specs.States.{PoolState}
use Rattle.pp_rule.specs.Rule.{number_of}
use Rattle.pp_rule.specs.Ties.{Holds}
use Rattle.pp_rule.specs.Steps.{IsAlone, wrote, with_private}
use Rattle.pp_rule.specs.Laws.{KeptAlike}
use Rattle.pp_rule.proofs.Private.{numbers_set}
use Rattle.pp_base.specs.declared.purse.Purse.{Purse}
use Rattle.pp_base.specs.Passes.{known, named_of, IsPassOf, IsSame, Keeping}
use Rattle.pp_base.specs.Private.{IsOwned, WroteField}
use Rattle.pp_base.proofs.Telling.{made_alone, made_known}
use Rattle.pp_base.proofs.Steady.{keeping_steady, same_known}
use Rattle.pp_base.proofs.Moves.{writes_on}

-- where a record with the number n stands in the list
pub record OwnedAt (n : ℕ) (ds : List PrivateRecord) : Type 0 where
  pub index : ℕ
  pub was : PrivateRecord
  pub at : get_elem? ds index ≡ some was
  pub number_is : was.number ≡ n

pub owned_at : (n : ℕ) (ds : List PrivateRecord) → 1 ≤ times n (map number_of ds) → OwnedAt n ds
unfolding times
owned_at n [] some_are = absurd (omega arith)
owned_at n (d ∷ ds) some_are = dite (ℕ_discrete d.number n) (λ e. record { index = 0; was = d; at = refl; number_is = e })
    (λ ne. let later = owned_at n ds (subst (λ (b : Bool). 1 ≤ cond b (suc (times n (map number_of ds))) (times n (map number_of ds)))
    (ne_eqb d.number n ne) some_are) in
    record { index = suc later.index; was = later.was; at = later.at; number_is = later.number_is })

pub owned_number : {W : Type 0} (q : PassState W) (z : Sizes) (n : ℕ) → IsPassOf q.sizes q → q.sizes ≡ z → IsOwned q n → IsNumber z n
owned_number q z n pass sizes owned = let o = owned_at n q.owned owned in
    subst (λ (k : ℕ). IsNumber z k) o.number_is (subst (λ (y : Sizes). IsNumber y o.was.number) sizes (pass.owned o.was (o.index, o.at)))

pub cell_low : (z : Sizes) (n f place : ℕ) → IsNumber z n → f < 5 → place ≡ cell_place z n f → place < total z
cell_low z n f place number four is = omega arith

pub field_low : (f : Field) → field_number f < 5
field_low Key = omega arith
field_low Value = omega arith
field_low Left = omega arith
field_low Right = omega arith
field_low High = omega arith

module _ {E A W : Type 0} (sides : ℕ) (opens : Sizes → List ℕ) (addition : Sizes → List ℕ → PoolState E A W
    → Type 0) (z : Sizes) (slots id place : ℕ) (me : Me Unit (SeatView E A W)) where
  pub writes_owned : KeptAlike sides addition → (n f x : ℕ) → IsAlone me → IsOwned me.0.known n → f < 5 → place ≡ cell_place z n f
      → Allows (Holds sides opens addition z) slots id me place (λ _. x)
      (λ _ m'. ((m'.1 ≡ []) × WroteField n f x place me.0 m'.0) × IsPassOf z m'.0.known)
  writes_owned alike n f x lone owned four is = let o = owned_at n me.0.known.owned owned in
      λ s h deep at fits. let r = writes_on sides opens addition z slots id place me alike o.index f x o.was lone o.at four (is ∙ ap (λ
      (k : ℕ). cell_place z k f) (sym o.number_is)) s h deep at fits in
      (r.0, r.1, r.2, r.3, ((r.4.0.0, record { index = o.index; was = o.was; at = o.at; number_is = o.number_is; made = r.4.0.1 }), r.4.1))

module _ {E A W : Type 0} where
  pub keeping_wrote : (sentinels sides : ℕ) (s s' : Seat Unit (SeatView E A W)) (z : Sizes) (number share : ℕ) (walk : List ℕ) (p : Purse)
      (n f x place : ℕ)
      → Keeping sentinels sides s number share walk p → s'.me.1 ≡ [] → IsPassOf z (known s') → WroteField n f x place s.me.0 s'.me.0
      → Keeping sentinels sides s' number share walk p
  keeping_wrote sentinels sides s s' z number share walk p n f x place k none pass w = let is = made_known s'.me w.made in
      keeping_steady sentinels sides s s' z number share walk walk p k (made_alone s'.me none w.made) pass
      record {
        number = ap (λ q. q.number) is;
        sizes = ap (λ q. q.sizes) is;
        owned = ap (λ q. map number_of q.owned) is ∙ numbers_set (known s).owned w.index w.was (wrote f x w.was) w.at refl;
        retired_are = ap (λ q. q.retired) is;
        frontier = ap (λ q. q.frontier) is;
        chains = ap (λ q. q.chains) is;
      }
      (ap (λ q. map named_of q.walk) is ∙ k.walk_is)

  pub same_wrote : (s s' : Seat Unit (SeatView E A W)) (n f x place : ℕ) → WroteField n f x place s.me.0 s'.me.0 → s'.table_id ≡ s.table_id
      → IsSame s s'
  same_wrote s s' n f x place w table = same_known s s' (with_private w.index (wrote f x w.was) (known s)) (made_known s'.me w.made) refl
      refl table
