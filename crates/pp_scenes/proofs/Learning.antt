-- What a pass keeps of the records that it holds as it loads their links.
use Rattle.std.proofs.Common.{◌≡◌, ℕ, suc, ◌<◌, Bool, true, false, cond, ◌&&◌, ◌∷◌, length, refl, sym, ap, ◌∙◌, subst}
use Rattle.atomic_table.specs.declared.shared.Seat.{Seat}
use Rattle.std.proofs.Math.Decide.{ℕ_discrete}
use mathlib.Core.Logic.{dite}
use Rattle.pp_link.specs.declared.layout.Sizes.{Sizes}
use Rattle.pp_rule.specs.declared.views.WalkSlot.{WalkSlot}
use Rattle.pp_rule.specs.declared.views.PassState.{PassState}
use Rattle.pp_rule.specs.declared.views.SeatView.{SeatView}
use Rattle.pp_rule.specs.Views.{slot}
use Rattle.pp_rule.specs.Steps.{with_walk}
use Rattle.pp_rule.proofs.Slots.{slot_here, slot_else}
use Rattle.pp_rule.proofs.Made.{known_after}
use Rattle.pp_base.specs.Passes.{known, view}
use Rattle.pp_base.specs.Made.{LoadedAt}
use Rattle.pp_base.specs.declared.source.Side.{Side}
use Rattle.pp_base.specs.declared.source.Place.{Place}
use Rattle.pp_base.specs.declared.source.Place.TheVariants.{Head, Walk}
use Rattle.pp_base.specs.Sources.{side_number, IsReadable, learning_at}
use Rattle.pp_scenes.specs.Rows.{Grown, GrownBut}

grown_same : (s : WalkSlot) → Grown s s
grown_same s = record { held = refl; named = refl; learnt = λ l i. i }

module _ {W : Type 0} where
  -- a load forgets nothing
  grown_learning : (sides : ℕ) (z : Sizes) (frozen : ℕ → Bool) (at : Place) (side : Side) (word : ℕ) (q : PassState W) → length q.walk ≡ 5
      → IsReadable sides z q at side → (j : ℕ) → Grown (slot q j) (slot (learning_at frozen at side word q) j)
  grown_learning sides z frozen (Head h) side word q five readable j = grown_same (slot q j)
  grown_learning sides z frozen (Walk i) side word q five readable j = by (frozen word && (slot q i).held)
    where
      more : WalkSlot
      more = record (slot q i) { learnt = (side_number side, word) ∷ (slot q i).learnt }

      by : (b : Bool) → Grown (slot q j) (slot (cond b (with_walk i more q) q) j)
      by false = grown_same (slot q j)
      by true = dite (ℕ_discrete j i)
          (λ e. subst (λ (k : ℕ). Grown (slot q k) (slot (with_walk i more q) k)) (sym e)
          (subst (λ (s : WalkSlot). Grown (slot q i) s)
          (sym (slot_here q (with_walk i more q) i more refl (subst (λ (n : ℕ). i < n) (sym five) readable.0)))
          (record { held = refl; named = refl; learnt = λ l m. (suc m.0, m.1) })))
          (λ ne. subst (λ (s : WalkSlot). Grown (slot q j) s) (sym (slot_else q (with_walk i more q) i more refl j ne))
          (grown_same (slot q j)))

  -- a record is held in one more walk word
  pub grown_held : (sides : ℕ) (z : Sizes) (frozen : ℕ → Bool) (at : Place) (side : Side) (i word : ℕ) (w : WalkSlot) (q q' : PassState W)
      → length q.walk ≡ 5 → IsReadable sides z q at side → q' ≡ with_walk i w (learning_at frozen at side word q) → GrownBut i q q'
  grown_held sides z frozen at side i word w q q' five readable is j low ne =
      subst (λ (s : WalkSlot). Grown (slot q j) s)
      (sym (slot_else (learning_at frozen at side word q) q' i w (ap (λ (x : PassState W). x.walk) is) j ne))
      (grown_learning sides z frozen at side word q five readable j)

grown_on : (s t u : WalkSlot) → Grown s t → Grown t u → Grown s u
grown_on s t u a b = record { held = b.held ∙ a.held; named = b.named ∙ a.named; learnt = λ l i. b.learnt l (a.learnt l i) }

-- and then a link was loaded
pub grown_loaded : {E A W : Type 0} (sides : ℕ) (z : Sizes) (frozen : ℕ → Bool) (at : Place) (side : Side) (i word : ℕ)
    (s t s' : Seat Unit (SeatView E A W)) → length (known t).walk ≡ 5 → IsReadable sides z (known t) at side
    → GrownBut i (known s) (known t)
    → LoadedAt z frozen at side word t s' → GrownBut i (known s) (known s')
grown_loaded {E} {A} {W} sides z frozen at side i word s t s' five readable first loaded j low ne =
    grown_on (slot (known s) j) (slot (known t) j) (slot (known s') j) (first j low ne)
    (subst (λ (q : PassState W). Grown (slot (known t) j) (slot q j))
    (sym (known_after _ _ _ _ _ _ _ (view t) (view s') loaded.made))
    (grown_learning sides z frozen at side word (known t) five readable j))
