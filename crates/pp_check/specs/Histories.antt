-- Where a log isn't sound, and where a caller's list doesn't stand in it.
use Rattle.std.specs.Prelude.{◌≡◌, ℕ, ◌+◌, ◌<◌, ◌⊎◌, true, false, List, Some, slice_get, length}
use Rattle.pp_model.specs.declared.Change.{Change}
use Rattle.pp_model.specs.declared.Placed.{Placed}
use Rattle.pp_model.specs.Calls.{reply, changes}
use Rattle.pp_model.specs.History.{after, Fits, Follows, Stands}

-- each of the first p changes of a log changes the map before it
abbrev pub SoundTo : List Change → ℕ → Type 0
SoundTo log p = (q : ℕ) (c : Change) → q < p → slice_get log q ≡ Some c → changes (reply (after log q) c.call) ≡ true

-- this change, counted from 1, is the first that leaves the map before it as it was
pub record IsUnsound (log : List Change) (change : ℕ) : Type 0 where
  pub before : ℕ
  pub number : change ≡ before + 1
  pub sound : SoundTo log before
  pub made : Change
  pub logged : slice_get log before ≡ Some made
  pub still : changes (reply (after log before) made.call) ≡ false

-- the call at position n of a caller's list is in place: it fits the log, and follows the call before it
pub record IsInPlace (log : List Change) (caller : ℕ) (mine : List Placed) (n : ℕ) (s : Placed) : Type 0 where
  pub fits : Fits log caller (n + 1) s
  pub follows : (m : ℕ) (t : Placed) → n ≡ m + 1 → slice_get mine m ≡ Some t → Follows t s

-- the calls at the first n positions are
abbrev pub InPlaceTo : List Change → ℕ → List Placed → ℕ → Type 0
InPlaceTo log caller mine n = (m : ℕ) (s : Placed) → m < n → slice_get mine m ≡ Some s → IsInPlace log caller mine m s

-- the call of this number of a list is a change at this place
pub record IsChangeAt (mine : List Placed) (number place : ℕ) : Type 0 where
  pub position : ℕ
  pub number_is : number ≡ position + 1
  pub call : Placed
  pub listed : slice_get mine position ≡ Some call
  pub changed : changes call.reply ≡ true
  pub place_is : call.place ≡ place

-- no change of a list has this place
abbrev pub HasNoChangeAt : List Placed → ℕ → Type 0
HasNoChangeAt mine place = (n : ℕ) (s : Placed) → slice_get mine n ≡ Some s → changes s.reply ≡ true → s.place ≡ place → ⊥

-- the log has a change of this caller at a place that no change of its list has
pub record LeavesOut (log : List Change) (caller : ℕ) (mine : List Placed) : Type 0 where
  pub before : ℕ
  pub change : Change
  pub logged : slice_get log before ≡ Some change
  pub its : change.caller ≡ caller
  pub unlisted : HasNoChangeAt mine (before + 1)

-- each change of this caller is the call of its number in the list, at its place
abbrev pub ListsAll : List Change → ℕ → List Placed → Type 0
ListsAll log caller mine =
    (p : ℕ) (c : Change) → slice_get log p ≡ Some c → c.caller ≡ caller → IsChangeAt mine c.number (p + 1)

-- the call of this number is the first that isn't in place
pub record IsAmiss (log : List Change) (caller : ℕ) (mine : List Placed) (number : ℕ) : Type 0 where
  pub position : ℕ
  pub number_is : number ≡ position + 1
  pub before : InPlaceTo log caller mine position
  pub call : Placed
  pub listed : slice_get mine position ≡ Some call
  pub amiss : IsInPlace log caller mine position call → ⊥

-- all calls are in place, but a change is left out: this number is one more than there are calls
pub record IsShort (log : List Change) (caller : ℕ) (mine : List Placed) (number : ℕ) : Type 0 where
  pub number_is : number ≡ length mine + 1
  pub all : InPlaceTo log caller mine (length mine)
  pub left_out : LeavesOut log caller mine

-- a caller's list doesn't stand in the log, first at this number
abbrev pub IsMisplacedAt : List Change → ℕ → List Placed → ℕ → Type 0
IsMisplacedAt log caller mine number = IsAmiss log caller mine number ⊎ IsShort log caller mine number

-- this is the least caller whose list doesn't stand in the log, first at this number
pub record IsMisplaced (log : List Change) (lists : ℕ → List Placed) (caller number : ℕ) : Type 0 where
  pub known : caller < 64
  pub stand : (c : ℕ) → c < caller → Stands log c (lists c)
  pub at : IsMisplacedAt log caller (lists caller) number

abbrev pub AllStand : List Change → (ℕ → List Placed) → Type 0
AllStand log lists = (c : ℕ) → c < 64 → Stands log c (lists c)
