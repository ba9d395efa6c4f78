-- What is known where a pool has one pass.
use Rattle.std.specs.Prelude.{◌≡◌, ℕ, ◌<◌, List, ◌∷◌, ◌++◌}
use Rattle.pp_link.specs.declared.layout.Sizes.{Sizes}
use Rattle.pp_rule.specs.Lists.{IsIn}
use Rattle.pp_rule.specs.Orders.{LoggedStep, FindsWord, replayed, entries_of, stores, KeepsWord}
use Rattle.pp_rule.specs.Views.{SeatView}
use Rattle.pp_rule.specs.States.{PoolState}
use Rattle.pp_rule.specs.Rule.{Base}
use Rattle.pp_rule.specs.Ties.{Runs, GoAside}

-- the changes of this step are those of its pass
abbrev pub IsOwnStep : {E A : Type 0} → (E → ℕ) → LoggedStep E A → Type 0
IsOwnStep {E} {A} caller s = (c : E) → IsIn c s.entry.changes → caller c ≡ s.entry.pass

-- so are those of each step
abbrev pub HasOwnChanges : {E A W : Type 0} → (Sizes → List ℕ → PoolState E A W → Type 0) → (E → ℕ) → Type 0
HasOwnChanges {E} {A} {W} addition caller = (z : Sizes) (words : List ℕ) (g : PoolState E A W) → addition z words g
    → (s : LoggedStep E A) → IsIn s g.order → IsOwnStep caller s

-- an order of steps of these passes, from the opening words on
pub record IsRun {E A : Type 0} (sides : ℕ) (caller : E → ℕ) (opens : List ℕ) (z : Sizes) (order : List (LoggedStep E A)) : Type 0 where
  -- each step found the word that the steps before it left
  pub finds : (before after : List (LoggedStep E A)) (s : LoggedStep E A) → order ≡ before ++ s ∷ after
      → FindsWord stores (replayed opens (entries_of before)) s.entry
  -- a step that only loads leaves it
  pub kept : (s : LoggedStep E A) → IsIn s order → KeepsWord s
  pub made : (s : LoggedStep E A) → IsIn s order → s.entry.pass < z.passes
  pub own : (s : LoggedStep E A) → IsIn s order → IsOwnStep caller s
  pub aside : GoAside sides z opens order

-- it is true of the view of a seat that has seen all steps, by the rule of words that meet it
abbrev pub SeesAll : {E A W : Type 0} → ℕ → (Sizes → List ℕ) → (Sizes → List ℕ → PoolState E A W → Type 0) → Sizes
    → (SeatView E A W → Type 0) → Type 0
SeesAll {E} {A} {W} sides opens addition z Q =
    (words : List ℕ) (g : PoolState E A W) (v : SeatView E A W) → Base sides z words g → addition z words g
    → Runs (opens z) words g.order
    → ((s : LoggedStep E A) → IsIn s g.order → s.entry.pass < z.passes) → g.order ≡ v.order → g.of v.known.number ≡ v.known → Q v

module _ {E A W : Type 0} (sides : ℕ) (opens : Sizes → List ℕ) (addition : Sizes → List ℕ → PoolState E A W → Type 0) where
  -- The rule of the words that the order of this view leaves: it has all steps, and what is known of the pass is what holds.
  pub record SeenState (v : SeatView E A W) : Type 0 where
    pub pool : PoolState E A W
    pub base : Base sides v.known.sizes (replayed (opens v.known.sizes) (entries_of v.order)) pool
    pub added : addition v.known.sizes (replayed (opens v.known.sizes) (entries_of v.order)) pool
    pub order : pool.order ≡ v.order
    pub known_is : pool.of v.known.number ≡ v.known

  -- Whatever is decided follows from the rule of the present words.
  abbrev pub SeesState : SeatView E A W → Type 0
  SeesState v = (SeenState v → ⊥) → ⊥

  -- What a pass has seen: a run of its pool, from its opening words on. Where the pool has one pass, it has seen all steps.
  pub record HasSeen (caller : E → ℕ) (v : SeatView E A W) : Type 0 where
    pub run : IsRun sides caller (opens v.known.sizes) v.known.sizes v.order
    pub whole : v.known.sizes.passes ≡ 1 → SeesState v
