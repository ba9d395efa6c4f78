-- The steps of a pass at its walk words, at links, at held records and at private records: that the rule allows them, with what
-- they tell of the pass.
use Rattle.std.proofs.Common.{◌≡◌, ◌≢◌, ℕ, ◌<◌, Bool, true, false, List, [], inl, inr}
use mathlib.Core.Option.{some}
use lib.ListN.{get_elem?}
use Rattle.atomic_table.specs.Table.{Me, Allows}
use Rattle.pp_link.specs.declared.layout.Sizes.{Sizes}
use Rattle.pp_link.specs.Links.{target, invalid_bit}
use Rattle.pp_link.specs.Places.{walk_place, cell_place}
use Rattle.pp_rule.specs.declared.views.PrivateRecord.{PrivateRecord}
use Rattle.pp_rule.specs.declared.views.SeatView.{SeatView}
use Rattle.pp_rule.specs.Orders.{announce_step, clear_step, write_step}
use Rattle.pp_rule.specs.Views.{naming, slot}
use Rattle.pp_rule.specs.States.{PoolState}
use Rattle.pp_rule.specs.Ties.{Holds}
use Rattle.pp_rule.specs.Steps.{IsAlone, MadeQuietStep, with_walk, clearing, with_private, wrote, IsSource, LoadedLink, ReadField}
use Rattle.pp_rule.specs.Steps.{Confirmed}
use Rattle.pp_rule.specs.Laws.{KeptAlike, KeptCleared, Freezes}
use Rattle.pp_rule.proofs.WalkWords.{announces, clears_word, reads_field}
use Rattle.pp_rule.proofs.Confirming.{loads_head, loads_held, confirms}
use Rattle.pp_rule.proofs.Private.{writes_private}
use Rattle.pp_base.specs.declared.source.Side.{Side}
use Rattle.pp_base.specs.declared.source.Place.{Place}
use Rattle.pp_base.specs.declared.source.Place.TheVariants.{Head, Walk}
use Rattle.pp_base.specs.Passes.{IsPassOf}
use Rattle.pp_base.specs.Sources.{side_number, source_place, IsReadable, learning_at}
use Rattle.pp_base.proofs.Telling.{telling, made_alone, confirmed_alone}

module _ {E A W : Type 0} (sides : ℕ) (opens : Sizes → List ℕ) (addition : Sizes → List ℕ → PoolState E A W
    → Type 0) (z : Sizes) (slots id place : ℕ) (me : Me Unit (SeatView E A W)) where
  pub announces_on : KeptAlike sides addition → (i n : ℕ) → IsAlone me → i < 5 → (slot me.0.known i).held ≡ false
      → place ≡ walk_place z me.0.known.number i
      → Allows (Holds sides opens addition z) slots id me place (λ _. n)
      (λ _ m'. ((m'.1 ≡ []) × MadeQuietStep announce_step place n n (with_walk i (naming n) me.0.known) me.0 m'.0) × IsPassOf z m'.0.known)
  announces_on alike i n lone lt free at = telling sides opens addition z slots id me place (λ _. n)
      (λ _ m'. (m'.1 ≡ []) × MadeQuietStep announce_step place n n (with_walk i (naming n) me.0.known) me.0 m'.0)
      (announces sides opens addition alike z slots id place i n me lone lt free at) (λ _ m t. made_alone m t.0 t.1)

  pub clears_on : (forget : ℕ → W → W) → KeptCleared sides addition forget → (i : ℕ) → IsAlone me → i < 5 → place ≡ walk_place z
      me.0.known.number i
      → Allows (Holds sides opens addition z) slots id me place (λ _. 0)
      (λ _ m'. ((m'.1 ≡ []) × MadeQuietStep clear_step place 0 0 (clearing forget i me.0.known) me.0 m'.0) × IsPassOf z m'.0.known)
  clears_on forget clears i lone lt at = telling sides opens addition z slots id me place (λ _. 0)
      (λ _ m'. (m'.1 ≡ []) × MadeQuietStep clear_step place 0 0 (clearing forget i me.0.known) me.0 m'.0)
      (clears_word sides opens addition forget clears z slots id place i me lone lt at) (λ _ m t. made_alone m t.0 t.1)

  pub reads_on : KeptAlike sides addition → (i field : ℕ) → IsAlone me → i < 5 → (slot me.0.known i).held ≡ true
      → place ≡ cell_place z (slot me.0.known i).named field
      → Allows (Holds sides opens addition z) slots id me place (λ n. n) (λ n m'. ((m'.1 ≡ []) × ReadField i field n place me.0 m'.0)
      × IsPassOf z m'.0.known)
  reads_on alike i field lone lt on at = telling sides opens addition z slots id me place (λ n. n) (λ n m'. (m'.1 ≡ [])
      × ReadField i field n place me.0 m'.0)
      (reads_field sides opens addition alike z slots id place i field me lone lt on at) (λ _ m t. made_alone m t.0 t.1.made)

  pub loads_on : KeptAlike sides addition → (frozen : ℕ → Bool) → Freezes frozen → (at : Place) (side : Side) → IsAlone me
      → IsReadable sides z me.0.known at side
      → place ≡ source_place z me.0.known at side
      → Allows (Holds sides opens addition z) slots id me place (λ n. n)
      (λ n m'. ((m'.1 ≡ []) × LoadedLink (learning_at frozen at side n me.0.known) n place me.0 m'.0) × IsPassOf z m'.0.known)
  loads_on alike frozen freezes (Head h) side lone low is = telling sides opens addition z slots id me place (λ n. n) (λ n m'. (m'.1 ≡ [])
      × LoadedLink me.0.known n place me.0 m'.0)
      (loads_head sides opens addition alike z slots id place h me lone low is) (λ _ m t. made_alone m t.0 t.1.made)
  loads_on alike frozen freezes (Walk i) side lone low is = telling sides opens addition z slots id me place (λ n. n)
      (λ n m'. (m'.1 ≡ []) × LoadedLink (learning_at frozen (Walk i) side n me.0.known) n place me.0 m'.0)
      (loads_held sides opens addition alike frozen freezes z slots id place i (side_number side) me lone low.0 low.1 low.2 is)
      (λ _ m t. made_alone m t.0 t.1.made)

  unfoldable pub source_of : (at : Place) (side : Side) → IsReadable sides z me.0.known at side
      → place ≡ source_place z me.0.known at side
      → IsSource sides z me.0.known place
  source_of (Head h) side low is = inl (h, (low, is))
  source_of (Walk i) side low is = inr (i, (side_number side, (low.0, low.1, low.2, is)))

  pub confirms_on : KeptAlike sides addition → (frozen : ℕ → Bool) → Freezes frozen → (i first : ℕ) (at : Place) (side : Side)
      → IsAlone me
      → i < 5 → (slot me.0.known i).held ≡ false → (slot me.0.known i).named ≡ target first
      → invalid_bit first ≡ 0 → target first ≢ 0 → IsReadable sides z me.0.known at side → place ≡ source_place z me.0.known at side
      → Allows (Holds sides opens addition z) slots id me place (λ n. n)
      (λ n m'. ((m'.1 ≡ []) × Confirmed i first n place (learning_at frozen at side n me.0.known) me.0 m'.0)
      × IsPassOf z m'.0.known)
  unfolding source_of
  confirms_on alike frozen freezes i first (Head h) side lone lt free named valid real low is =
      telling sides opens addition z slots id me place
      (λ n. n) (λ n m'. (m'.1 ≡ []) × Confirmed i first n place me.0.known me.0 m'.0)
      (confirms sides opens addition alike frozen freezes z slots id place i first me lone lt free named valid real
      (source_of (Head h) side low is))
      (λ n m t. confirmed_alone i first n place me.0.known me.0 m t.0 t.1)
  confirms_on alike frozen freezes i first (Walk j) side lone lt free named valid real low is =
      telling sides opens addition z slots id me place
      (λ n. n) (λ n m'. (m'.1 ≡ []) × Confirmed i first n place (learning_at frozen (Walk j) side n me.0.known) me.0 m'.0)
      (confirms sides opens addition alike frozen freezes z slots id place i first me lone lt free named valid real
      (source_of (Walk j) side low is))
      (λ n m t. confirmed_alone i first n place (learning_at frozen (Walk j) side n me.0.known) me.0 m t.0 t.1)

  pub writes_on : KeptAlike sides addition → (k f x : ℕ) (d : PrivateRecord) → IsAlone me
      → get_elem? me.0.known.owned k ≡ some d → f < 5
      → place ≡ cell_place z d.number f
      → Allows (Holds sides opens addition z) slots id me place (λ _. x)
      (λ _ m'. ((m'.1 ≡ []) × MadeQuietStep write_step place x x (with_private k (wrote f x d) me.0.known) me.0 m'.0)
      × IsPassOf z m'.0.known)
  writes_on alike k f x d lone at four is = telling sides opens addition z slots id me place (λ _. x)
      (λ _ m'. (m'.1 ≡ []) × MadeQuietStep write_step place x x (with_private k (wrote f x d) me.0.known) me.0 m'.0)
      (writes_private sides opens addition alike z slots id place k f x d me lone at four is) (λ _ m t. made_alone m t.0 t.1)
