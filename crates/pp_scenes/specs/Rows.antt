-- What a pass holds of the row as a scene goes on.
use Rattle.std.specs.Prelude.{◌≡◌, ◌≢◌, ℕ, ◌<◌, ◌≤◌, true, List}
use Rattle.atomic_table.specs.Seated.{TableId}
use Rattle.pp_link.specs.declared.layout.Sizes.{Sizes}
use Rattle.pp_model.specs.Lists.{AtEach}
use Rattle.pp_rule.specs.declared.shape.Shape.{Ghosts}
use Rattle.pp_base.specs.declared.pool.Pass.{Pass}
use Rattle.pp_base.specs.Passes.{IsIdle}
use Rattle.pp_pool.specs.Closed.{IsSeatOf}
use Rattle.pp_rule.specs.Lists.{IsIn}
use Rattle.pp_rule.specs.declared.views.WalkSlot.{WalkSlot}
use Rattle.pp_rule.specs.declared.views.PassState.{PassState}
use Rattle.pp_rule.specs.Views.{slot}

-- it holds records in its first n walk words, and the others are 0
pub record HoldsFirst {W : Type 0} (n : ℕ) (q : PassState W) : Type 0 where
  pub held : (i : ℕ) → i < n → i < 5 → (slot q i).held ≡ true
  pub clear : (i : ℕ) → n ≤ i → i < 5 → (slot q i).named ≡ 0

-- it holds the record n in the walk word i, and has learnt this word of its left link
pub record Knows {W : Type 0} (i n word : ℕ) (q : PassState W) : Type 0 where
  pub held : (slot q i).held ≡ true
  pub named : (slot q i).named ≡ n
  pub learnt : IsIn (0, word) (slot q i).learnt

-- the record that was held in a walk word is held still, and what was learnt of it is known still
pub record Grown (s s' : WalkSlot) : Type 0 where
  pub held : s'.held ≡ s.held
  pub named : s'.named ≡ s.named
  pub learnt : (l : ℕ × ℕ) → IsIn l s.learnt → IsIn l s'.learnt

-- so it is in all walk words but the word i
abbrev pub GrownBut : {W : Type 0} → ℕ → PassState W → PassState W → Type 0
GrownBut i q q' = (j : ℕ) → j < 5 → j ≢ i → Grown (slot q j) (slot q' j)

-- These are the passes of the pool, by rising numbers, and each is idle.
abbrev pub AreIdle : {S E A W : Type 0} {shape : Ghosts S E A W} → TableId → Sizes → List (Pass S E A W shape) → Type 0
AreIdle table z passes = AtEach passes (λ k p. IsSeatOf table z k p.seat × IsIdle p.walk p.purse)
