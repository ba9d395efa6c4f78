-- What a closed pool shows of its run.
use Rattle.std.specs.Prelude.{◌≡◌, ◌⊎◌, ℕ, ◌+◌, ◌<◌, true, false, List, ◌∷◌, map, length}
use lib.ListN.{get_elem?}
use mathlib.Core.Option.{some}
use Rattle.atomic_table.specs.Seated.{TableId}
use Rattle.atomic_table.specs.declared.shared.Seat.{Seat}
use Rattle.pp_link.specs.declared.layout.Sizes.{Sizes}
use Rattle.pp_link.specs.Places.{IsNumber}
use Rattle.pp_model.specs.declared.Pair.{Pair}
use Rattle.pp_rule.specs.Lists.{IsIn, BeginsWith, times}
use Rattle.pp_rule.specs.declared.views.LoggedStep.{LoggedStep}
use Rattle.pp_rule.specs.Orders.{log_of, made_by, placed_by}
use Rattle.pp_rule.specs.declared.views.SeatView.{SeatView}
use Rattle.pp_rule.specs.Steps.{order_of}
use Rattle.pp_rule.specs.Ties.{Runs}
use Rattle.pp_rule.specs.Closing.{spare}
use Rattle.pp_rule.specs.Alone.{IsOwnStep}
use Rattle.pp_base.specs.Passes.{known, view, Fits}

module _ {E A W : Type 0} where
  -- the seat is that of the pass number k of the pool with this table and these sizes
  abbrev pub IsSeatOf : TableId → Sizes → ℕ → Seat Unit (SeatView E A W) → Type 0
  IsSeatOf table z k s = Fits table z s × ((known s).number ≡ k)

  -- these are the seats of the passes, by rising numbers from 0 on
  abbrev pub AreSeats : TableId → Sizes → List (Seat Unit (SeatView E A W)) → Type 0
  AreSeats table z seats = (k : ℕ) (s : Seat Unit (SeatView E A W)) → get_elem? seats k ≡ some s → IsSeatOf table z k s

  -- one seat knows what each of these seats knew, it keeps their orders, and one of them had its order
  pub record IsJoined (seats : List (Seat Unit (SeatView E A W))) (v : SeatView E A W) : Type 0 where
    pub standing : v.standing ≡ true
    pub all : v.known ∷ v.taken ≡ map known seats
    pub orders : (s : Seat Unit (SeatView E A W)) → IsIn s seats → IsIn (order_of (view s)) (order_of v ∷ v.kept)
    pub longest : (s : Seat Unit (SeatView E A W)) × (IsIn s seats × (v.order ≡ (view s).order))

  -- The end of the pool of these passes, by its witness: the live numbers, and a view v of all steps. A shape says what the
  -- contents and the live numbers of closed words are, how many live numbers there are with so many pairs, what the log tells
  -- of them and of the placed calls, and to which pass a change belongs.
  pub record IsClosedPool (opens : List ℕ) (gathered : Sizes → List ℕ → List Pair → List ℕ → Type 0) (live_count : ℕ → ℕ)
      (tells : Sizes → List E → List Pair → Type 0) (tells_pass : Sizes → List E → ℕ → List A → Type 0)
      (caller : E → ℕ) (z : Sizes)
      (seats : List (Seat Unit (SeatView E A W))) (contents : List Pair) (free live : List ℕ) (v : SeatView E A W) : Type 0 where
    -- the witness stands for no pass
    pub standing : v.standing ≡ false
    -- the words that stood in the table at its end
    pub words : List ℕ
    -- the order is a run of the table from its opening words to these
    pub run : Runs opens words v.order
    -- it knows what the passes knew, by rising numbers
    pub all : v.known ∷ v.taken ≡ map known seats
    -- each step was made by a pass
    pub made : (s : LoggedStep E A) → IsIn s v.order → s.entry.pass < z.passes
    -- the changes of each step are those of its pass
    pub own : (s : LoggedStep E A) → IsIn s v.order → IsOwnStep caller s
    -- what each pass had seen begins the order, and has all steps of the pass
    pub each : (s : Seat Unit (SeatView E A W)) → IsIn s seats → BeginsWith v.order (view s).order
        × (made_by (known s).number (view s).order ≡ made_by (known s).number v.order)
    -- some pass had seen it all
    pub longest : (s : Seat Unit (SeatView E A W)) × (IsIn s seats × (v.order ≡ (view s).order))
    pub contents_are : gathered z words contents live
    pub told : tells z (log_of v.order) contents
    pub told_pass : (p : ℕ) → p < z.passes → tells_pass z (log_of v.order) p (placed_by p v.order)
    -- each record is live or free, once, and no other number is either
    pub once : (n : ℕ) → IsNumber z n → times n live + times n free ≡ 1
    pub no_other : (n : ℕ) → (n ≡ 0) ⊎ (z.records < n) → times n live + times n free ≡ 0
    pub live_are : length live ≡ live_count (length contents)
    -- the free numbers rise
    pub free_are : free ≡ spare live 1 z.records
