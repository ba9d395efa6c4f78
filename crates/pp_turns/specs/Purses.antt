-- What a call has of its purse, and what its parts make of it, for every structure.
use Rattle.std.specs.Prelude.{◌≡◌, ℕ, ◌+◌, ◌≤◌, Bool, true, false, List, length, Option, Some, None}
use Rattle.pp_link.specs.declared.layout.Sizes.{Sizes}
use Rattle.pp_model.specs.declared.Call.{Call}
use Rattle.pp_model.specs.declared.Change.{Change}
use Rattle.pp_model.specs.declared.Placed.{Placed}
use Rattle.pp_model.specs.MapCalls.{LeftAlone}
use Rattle.pp_rule.specs.declared.views.PassState.{PassState}
use Rattle.pp_rule.specs.declared.views.SeatView.{SeatView}
use Rattle.pp_rule.specs.Lists.{BeginsWith}
use Rattle.pp_base.specs.declared.purse.Purse.{Purse}
use Rattle.pp_base.specs.Named.{NamedStep}
use Rattle.pp_calls.specs.PoolViews.{pool_view}
use Rattle.pp_calls.specs.Steps.{SamePurse}
use Rattle.pp_purse.specs.Purses.{TidiesPurse, RanOut}
use Rattle.pp_purse.specs.Steps.{PurseSteps}
use Rattle.pp_turns.specs.Answers.{is_look}
use Rattle.pp_turns.specs.Turns.{Kept}

-- how many records are out, of an insert that needs so many
abbrev pub out_of : {R : Type 0} → (need : ℕ) → Option R → ℕ
out_of need None = 0
out_of need (Some records) = need

-- A structure says how the records of an insert are out, of which it needs so many.
module _ {W R : Type 0} (HasOut : PassState W → Purse → Option R → Type 0) (need : ℕ) where
  -- What a call has of the purse of its pass, whose free numbers at its begin were these.
  pub record Carries (share : ℕ) (call : Call) (records : Option R) (from now : SeatView Change Placed W) (free : List ℕ) (p : Purse)
      : Type 0 where
    pub sizes : now.known.sizes ≡ from.known.sizes
    pub out : HasOut now.known p records
    pub kept : Kept free share p.free.items (out_of need records)
    pub same : records ≡ None → p.free.items ≡ free
    -- a call that only looks takes no record, and has left all as it was
    pub none : is_look call ≡ true → records ≡ None
    pub alone : is_look call ≡ true → LeftAlone (pool_view from free share) (pool_view now p.free.items share)

  -- A call that had its records out already, or none, has these out. Of the free ones but for them none is gone.
  pub record Takes (z : Sizes) (had : Option R) (records : R) (v w : SeatView Change Placed W) (p p' : Purse) : Type 0 where
    pub names : List NamedStep
    pub steps : PurseSteps z names v w
    pub out : HasOut w.known p' (Some records)
    pub kept : length p.free.items + out_of need had ≤ length p'.free.items + need

-- It had none out, and found too few. None that was free is gone.
pub record TakesNone {W R : Type 0} (need : ℕ) (z : Sizes) (had : Option R) (v w : SeatView Change Placed W) (p p' : Purse)
    : Type 0 where
  pub none : had ≡ None
  pub names : List NamedStep
  pub steps : PurseSteps z names v w
  pub ran_out : RanOut z need v w p p'
  pub begins : BeginsWith p'.free.items p.free.items
  pub taken : p'.taken ≡ 0

-- the records that were out, so many, are free again
pub record GaveBackOut (out : ℕ) (p p' : Purse) : Type 0 where
  pub taken : p'.taken ≡ 0
  pub long : length p'.free.items ≡ length p.free.items + out
  pub going : p'.going ≡ p.going
  pub spent : p'.spent ≡ p.spent

-- The walk words of a call are cleared as its structure says.
module _ {W : Type 0} (Clears : SeatView Change Placed W → SeatView Change Placed W → Type 0) where
  -- A call that only looked cleared its walk words.
  pub record LooksAway (v w : SeatView Change Placed W) (p p' : Purse) : Type 0 where
    pub clears : Clears v w
    pub purse : SamePurse v w
    pub free : p'.free ≡ p.free

  -- A call cleared its walk words, gave the records back that were out, and tidied.
  pub record TidiesUp (z : Sizes) (share out : ℕ) (v w : SeatView Change Placed W) (p p' : Purse) : Type 0 where
    pub between : SeatView Change Placed W
    pub middle : Purse
    pub clears : Clears v between
    pub long : length middle.free.items ≡ length p.free.items + out
    pub last : Purse
    pub tidies : TidiesPurse z share between w middle last
    pub free : p'.free ≡ last.free

  -- what ends a call, by whether it only looked
  abbrev pub Leaves : Bool → Sizes → (share out : ℕ) → SeatView Change Placed W → SeatView Change Placed W → Purse → Purse → Type 0
  Leaves true z share out v w p p' = LooksAway v w p p'
  Leaves false z share out v w p p' = TidiesUp z share out v w p p'
