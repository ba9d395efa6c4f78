-- When a chain may be detached, and what the exchange makes of the pool.
use Rattle.std.specs.Prelude.{◌≡◌, ◌≢◌, ◌⊎◌, ℕ, ◌+◌, ◌*◌, ◌<◌, ◌≤◌, true, List}
use Rattle.pp_link.specs.declared.layout.Sizes.{Sizes}
use Rattle.pp_link.specs.Links.{target, invalid_bit}
use Rattle.pp_link.specs.Places.{IsNumber, total, head_place, cell_place}
use Rattle.pp_link.specs.Words.{head_word, cell_word}
use Rattle.pp_rule.specs.Lists.{IsIn, Once}
use Rattle.pp_rule.specs.Orders.{detach_step, missed_step, IsQuietStep}
use Rattle.pp_rule.specs.Views.{Chain, ChainLink, PassState, SeatView, slot, guarding}
use Rattle.pp_rule.specs.States.{attached, in_hand, PoolState, IsSmall, SameTarget}
use Rattle.pp_rule.specs.Steps.{MadeQuietStep, detaching, IsUnused}
use Rattle.pp_rule.specs.Looks.{SameOwn}

-- Nobody learnt a frozen link at this place, which is that of a link of a head or of an attached record.
pub record IsFreeLink {E A W : Type 0} (z : Sizes) (g : PoolState E A W) (place : ℕ) : Type 0 where
  pub high : (place < total z) × (17 * z.passes < place)
  pub holder : (n f : ℕ) → IsNumber z n → f < 5 → cell_place z n f ≡ place → (2 ≤ f) × (f < 4) × (g.status n ≡ attached)
  pub unlearnt : (r i : ℕ) (l : ℕ × ℕ) → r < z.passes → i < 5 → (slot (g.of r) i).held ≡ true → IsIn l (slot (g.of r) i).learnt
      → cell_place z (slot (g.of r) i).named (2 + l.0) ≢ place

-- The records of the chain c are attached, only the link at this place leads to them from outside, and they lead to nil, to
-- each other and to the record x. The word `new` leads to x.
pub record Detaches {E A W : Type 0} (sides : ℕ) (z : Sizes) (words : List ℕ) (g : PoolState E A W) (q : PassState W) (c : Chain)
    (place x new : ℕ) : Type 0 where
  pub members : (n : ℕ) → IsIn n c.records → IsNumber z n × (g.status n ≡ attached)
  pub members_once : Once c.records
  pub inside : (n side : ℕ) → IsIn n c.records → side < sides → (target (cell_word words z n (2 + side)) ≡ 0)
      ⊎ (IsIn (target (cell_word words z n (2 + side))) c.records ⊎ (target (cell_word words z n (2 + side)) ≡ x))
  pub valid : (n side : ℕ) → IsIn n c.records → side < sides → IsIn (n, side) c.valid
  pub links : (l : ChainLink) → IsIn l c.links
      → IsIn l.number c.records × (l.side < sides) × SameTarget l.word (cell_word words z l.number (2 + l.side))
  pub heads : (h : ℕ) → h < z.heads → head_place z h ≢ place → IsIn (target (head_word words z h)) c.records → ⊥
  pub others : (n side : ℕ) → IsNumber z n → side < sides → g.status n ≡ attached → (IsIn n c.records → ⊥)
      → cell_place z n (2 + side) ≢ place → IsIn (target (cell_word words z n (2 + side))) c.records → ⊥
  pub frontier : (x ≡ 0) ⊎ (IsNumber z x × (g.status x ≡ attached) × (IsIn x c.records → ⊥))
  pub new_is : IsSmall new × (invalid_bit new ≡ 0) × (target new ≡ x)
  -- the place is that of a link of a head, or of an attached record that stays
  pub place_is : IsFreeLink z g place
  pub stays : (n f : ℕ) → IsNumber z n → f < 5 → cell_place z n f ≡ place → IsIn n c.records → ⊥
  -- the frontier word of the chain names x, and guards no chain yet
  pub guard : c.guard < 4
  pub named : guarding q c.guard ≡ x
  pub unused : IsUnused c.guard q

-- The state after it, as a shape sees it. The words differ at the place alone.
pub record Detached {E A W : Type 0} (z : Sizes) (g g' : PoolState E A W) (q : PassState W) (c : Chain) : Type 0 where
  pub inside : (n : ℕ) → IsIn n c.records → g'.status n ≡ in_hand q.number c.guard
  pub outside : (n : ℕ) → (IsIn n c.records → ⊥) → g'.status n ≡ g.status n
  pub order : IsQuietStep g.order g'.order
  pub passes : (p : ℕ) → p < z.passes → SameOwn (g.of p) (g'.of p)

-- An exchange of `first` for `new` to detach the chain c, which may find another word. Of that it is known what a load of it
-- would tell.
pub record Exchanged {E A W : Type 0} (c : Chain) (first new found place : ℕ) (known : PassState W)
    (before after : SeatView E A W)
    : Type 0 where
  pub small : IsSmall found
  pub same : found ≡ first → MadeQuietStep detach_step place found new (detaching c before.known) before after
  pub other : found ≢ first → MadeQuietStep missed_step place found found known before after
