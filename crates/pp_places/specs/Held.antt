-- Numbers of a history as their types hold them.
use Rattle.std.specs.Prelude.{◌≡◌, ℕ, ◌<◌, ◌^◌, List, slice_get, Some}
use Rattle.pp_model.specs.declared.Call.{Call}
use Rattle.pp_model.specs.declared.Call.TheVariants.{Get, Insert, Remove, Cut}
use Rattle.pp_model.specs.declared.Change.{Change}
use Rattle.pp_model.specs.declared.Placed.{Placed}
use Rattle.pp_model.specs.Lists.{AtEach}
use Rattle.pp_certificate.specs.Printed.{ValueFits, ReplyFits}

-- the value of a call, where it has one, is in range
abbrev pub IsCallHeld : Call → Type 0
IsCallHeld (Get k) = Unit {0}
IsCallHeld (Insert k v) = ValueFits v
IsCallHeld (Remove k) = Unit {0}
IsCallHeld (Cut k v) = ValueFits v

pub record IsChangeHeld (c : Change) : Type 0 where
  pub number : c.number < 2 ^ 64
  pub call : IsCallHeld c.call

pub record IsPlacedHeld (s : Placed) : Type 0 where
  pub place : s.place < 2 ^ 64
  pub call : IsCallHeld s.call
  pub reply : ReplyFits s.reply

-- all changes of a log are so
abbrev pub IsLogHeld : List Change → Type 0
IsLogHeld log = AtEach log (λ p c. IsChangeHeld c)

-- and all calls of a caller's list
abbrev pub IsListHeld : List Placed → Type 0
IsListHeld mine = AtEach mine (λ n s. IsPlacedHeld s)

-- the numbers of a log and of the callers' lists, but for the keys and the callers, are in range
pub record AreHeld (log : List Change) (lists : List (List Placed)) : Type 0 where
  pub changes : IsLogHeld log
  pub placed : AtEach lists (λ c mine. IsListHeld mine)

-- the first so many elements are so
abbrev pub AtFirst : {A : Type 0} → ℕ → List A → (A → Type 0) → Type 0
AtFirst {A} many xs Is = (k : ℕ) (x : A) → k < many → slice_get xs k ≡ Some x → Is x
