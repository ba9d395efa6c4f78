-- The changes of an order of steps.
use Rattle.std.proofs.Common.{◌≡◌, ℕ, zero, suc, List, [], ◌∷◌, Some, ⊎_elim, subst, arith}
use Rattle.std.specs.Prelude.{slice_get}
use Rattle.std.proofs.lemmas.Option.{slice_get_within}
use Rattle.pp_model.specs.declared.steps.OrderEntry.{OrderEntry}
use Rattle.pp_rule.specs.Lists.{IsIn}
use Rattle.pp_rule.specs.Orders.{changes_of}
use Rattle.pp_rule.proofs.Put.{in_nil, in_first, in_later, in_either}

-- an element at a position stands in the list
pub change_at : {A : Type 0} (xs : List A) (k : ℕ) (x : A) → slice_get xs k ≡ Some x → IsIn x xs
change_at [] k x e = let long = slice_get_within [] k x e in absurd (omega arith)
change_at {A} (y ∷ xs) zero x e = let is : y ≡ x = cc in subst (λ (w : A). IsIn w (y ∷ xs)) is (in_first y xs)
change_at (y ∷ xs) (suc k) x e = in_later x y xs (change_at xs k x e)

-- a change of the order took effect at one of its steps
pub in_changes : {E : Type 0} (order : List (OrderEntry E)) (c : E) → IsIn c (changes_of order)
    → (e : OrderEntry E) × (IsIn e order × IsIn c e.changes)
in_changes [] c i = absurd (in_nil c i)
in_changes {E} (e ∷ order) c i = ⊎_elim (λ (here : IsIn c e.changes). (e, (in_first e order, here)))
    (λ (later : IsIn c (changes_of order)). let r = in_changes order c later in (r.0, (in_later r.0 e order r.1.0, r.1.1)))
    (in_either c e.changes (changes_of order) i)
