-- The steps of seats under the key of the table of their pool.
use Rattle.std.proofs.Common.{◌≡◌, ℕ, ◌<◌, true, List, refl, ap, arith}
use Rattle.atomic_table.specs.Table.{Me, Splits, Joins, Allows}
use Rattle.pp_link.specs.declared.layout.Sizes.{Sizes}
use Rattle.pp_link.specs.Places.{total}
use Rattle.pp_rule.specs.declared.views.PassState.{PassState}
use Rattle.pp_rule.specs.declared.views.SeatView.{SeatView}
use Rattle.pp_rule.specs.States.{PoolState}
use Rattle.pp_rule.specs.Ties.{Holds}
use Rattle.pp_rule.specs.Steps.{kept_part, dealt_part, both_parts, spent_part, told_part, meeting_part, Learnt, IsAlone}
use Rattle.pp_rule.proofs.Seats.{deals, joins, tells}
use Rattle.pp_rule.proofs.Notes.{meets, learns}
use Rattle.pp_base.specs.Seats.{HasMore}

-- a table has a word at least
pub some_word : (z : Sizes) (words : ℕ) → words ≡ total z → 0 < words
some_word z words wide = omega arith

module _ {E A W : Type 0} (sides : ℕ) (opens : Sizes → List ℕ) (addition : Sizes → List ℕ → PoolState E A W → Type 0)
    (z : Sizes) where
  pub deals_on : (id : ℕ) (v : SeatView E A W) → HasMore v → Splits (Holds sides opens addition z) id v (kept_part v) (dealt_part v)
  deals_on id v more = deals sides opens addition z id v more.next more.rest more.is

  pub joins_on : (id other : ℕ) (me : Me Unit (SeatView E A W)) (w : SeatView E A W) (nobody : PassState W) → IsAlone me
      → w.standing ≡ true
      → Joins (Holds sides opens addition z) id me.0 other w (both_parts me.0 w) (spent_part nobody)
  joins_on id other me w nobody lone standing = joins sides opens addition z id other me.0 w nobody lone.1 standing

  pub tells_on : (id : ℕ) (v : SeatView E A W) → Splits (Holds sides opens addition z) id v v (told_part v)
  tells_on id v = tells sides opens addition z id v

  pub meets_on : (id other : ℕ) (me : Me Unit (SeatView E A W)) (w : SeatView E A W) (nobody : PassState W) → IsAlone me
      → Joins (Holds sides opens addition z) id me.0 other w (meeting_part me.0 w) (spent_part nobody)
  meets_on id other me w nobody lone = meets sides opens addition z id other me.0 w nobody
      (ap (λ (v : SeatView E A W). v.standing) lone.1)

  pub learns_on : (slots id place : ℕ) (me : Me Unit (SeatView E A W))
      → Allows (Holds sides opens addition z) slots id me place (λ n. n) (λ _ m. (m.1 ≡ me.1) × Learnt me.0 m.0)
  learns_on slots id place me = learns sides opens addition z slots id place me (λ _ m. (m.1 ≡ me.1) × Learnt me.0 m.0)
      (λ n w learnt. (refl, learnt))
