-- The rule of the table: the views are tied to one order of all steps and to what is known of each pass, the words are what
-- that order leaves, and what is true of every pool and of this shape holds.
use Rattle.std.specs.Prelude.{◌≡◌, ℕ, ◌<◌, true, List, ◌∷◌, ◌++◌}
use Rattle.pp_link.specs.declared.layout.Sizes.{Sizes}
use Rattle.atomic_table.specs.Table.{State}
use lib.ListN.{get_elem?}
use mathlib.Core.Option.{some}
use Rattle.pp_rule.specs.Lists.{IsIn, OnceBy, BeginsWith}
use Rattle.pp_rule.specs.Orders.{LoggedStep, entries_of, made_by, replayed, IsExecution, stores, KeepsWord, goes_aside}
use Rattle.pp_rule.specs.Views.{PassState, JoinedOrder, SeatView, all_of}
use Rattle.pp_rule.specs.States.{PoolState}
use Rattle.pp_rule.specs.Rule.{Base}
use Rattle.pp_rule.specs.Reached.{IsAside}

module _ {W : Type 0} where
  abbrev pub pass_number : PassState W → ℕ
  pass_number q = q.number

module _ {E A W : Type 0} where
  -- What is known of a pass in a view of the seat j: the pass is the seat's, what is known is what holds, and the view's order
  -- has all steps of the pass.
  pub record TiedPass (z : Sizes) (g : PoolState E A W) (seat_of : ℕ → ℕ) (j : ℕ) (order : List (LoggedStep E A))
      (q : PassState W) : Type 0 where
    pub number : q.number < z.passes
    pub sizes : q.sizes ≡ z
    pub is : g.of q.number ≡ q
    pub seat : seat_of q.number ≡ j
    pub steps : made_by q.number order ≡ made_by q.number g.order

  -- an order that was kept at a join has all steps of its pass
  pub record TiedOrder (g : PoolState E A W) (seat_of : ℕ → ℕ) (j : ℕ) (o : JoinedOrder E A) : Type 0 where
    pub begins : BeginsWith g.order o.order
    pub seat : seat_of o.pass ≡ j
    pub steps : made_by o.pass o.order ≡ made_by o.pass g.order

  -- the view of the seat j
  pub record Tied (z : Sizes) (g : PoolState E A W) (seat_of : ℕ → ℕ) (j : ℕ) (v : SeatView E A W) : Type 0 where
    pub begins : BeginsWith g.order v.order
    pub each : (q : PassState W) → IsIn q (all_of v) → TiedPass z g seat_of j v.order q
    pub apart : OnceBy pass_number (all_of v)
    pub kept : (o : JoinedOrder E A) → IsIn o v.kept → TiedOrder g seat_of j o
    -- the orders that met begin that of all steps
    pub met : (o : List (LoggedStep E A)) → IsIn o v.met → BeginsWith g.order o

  pub record Ties (z : Sizes) (views : List (SeatView E A W)) (g : PoolState E A W) : Type 0 where
    -- the seat of each pass
    pub seat_of : ℕ → ℕ
    pub each_seat : (j : ℕ) (v : SeatView E A W) → get_elem? views j ≡ some v → Tied z g seat_of j v
    -- some seat has seen all steps
    pub last : (j : ℕ) × ((v : SeatView E A W) × (get_elem? views j ≡ some v) × (v.order ≡ g.order))
    -- each step was made by a pass
    pub made : (s : LoggedStep E A) → IsIn s g.order → s.entry.pass < z.passes

module _ {E A : Type 0} where
  -- the order of all steps, from the words with which the table opened
  pub record Runs (opens words : List ℕ) (order : List (LoggedStep E A)) : Type 0 where
    pub leaves : replayed opens (entries_of order) ≡ words
    pub finds : IsExecution stores opens 0 (entries_of order)
    pub kept : (s : LoggedStep E A) → IsIn s order → KeepsWord s

module _ {E A : Type 0} where
  -- each step of these kinds went aside of the words that stood there
  abbrev pub GoAside : ℕ → Sizes → List ℕ → List (LoggedStep E A) → Type 0
  GoAside sides z opens order = (before after : List (LoggedStep E A)) (s : LoggedStep E A) → order ≡ before ++ s ∷ after
      → goes_aside s.entry.step.kind ≡ true → IsAside sides z (replayed opens (entries_of before)) s.entry.step.place

module _ {E A W : Type 0} where
  -- The whole rule, with the addition of a shape whose records have so many links.
  pub record Holds (sides : ℕ) (opens : Sizes → List ℕ) (addition : Sizes → List ℕ → PoolState E A W → Type 0) (z : Sizes)
      (s : State Unit (SeatView E A W)) : Type 0 where
    pub pool : PoolState E A W
    pub ties : Ties z s.views pool
    pub runs : Runs (opens z) s.words pool.order
    -- steps of these kinds changed no word of a head or of a record that could be reached then
    pub aside : GoAside sides z (opens z) pool.order
    pub base : Base sides z s.words pool
    pub added : addition z s.words pool
