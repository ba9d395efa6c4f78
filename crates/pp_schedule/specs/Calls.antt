-- Callers with their calls, turn by turn, as a schedule polls them.
use Rattle.std.specs.Prelude.{◌≡◌, ℕ, ◌+◌, ◌-◌, ◌^◌, min, ◌++◌, Bool, true, false, cond, not, ◌&&◌, List, [], ◌∷◌, map}
use Rattle.std.specs.Prelude.{Option, Some, None, IfSome, IsSomeAnd, is_some}
use Rattle.pp_model.specs.declared.Call.{Call}
use Rattle.pp_model.specs.declared.Answer.{Answer}
use Rattle.pp_model.specs.declared.Placed.{Placed}
use Rattle.pp_schedule.specs.declared.caller.Marked.{Marked}
use Rattle.pp_model.specs.Calls.{changes}
use Rattle.pp_model.specs.Pass.{PassView, GoingView, NoteView, MapSizes, Meaning}
use Rattle.pp_model.specs.MapCalls.{Begun, Learns, Counted, AnswersCall, took_effect}
use Rattle.pp_model.specs.MapCalls.{MakesTurn}

-- what is known of a pass's list while a call is going on it
pub record Entering (going : GoingView) (before now : PassView) : Type 0 where
  pub none : going.struck ≡ false → now.mine ≡ before.mine
  pub taken : going.struck ≡ true → (s : Placed) × (changes s.reply ≡ true) × (now.mine ≡ before.mine ++ s ∷ [])

-- a call that is going, and the pass as it was when the call was begun
pub record Doing : Type 0 where
  pub going : GoingView
  pub before : PassView

-- a caller: its pass, the call that is going with its mark, the calls that aren't begun yet, and the answers so far with their
-- calls' marks
pub record CallerAt : Type 0 where
  pub pass : PassView
  pub doing : Option Doing
  pub calls : List Call
  pub answers : List Answer
  pub mark : ℕ
  pub marks : List ℕ

-- The caller has this call going; where none was going it begins its next one.
pub data Has (races : ℕ) (v : CallerAt) (going : GoingView) (before : PassView) (rest : List Call) : Type 0 where
  goes_on : v.doing ≡ Some (record { going = going; before = before }) → rest ≡ v.calls → Has races v going before rest
  begins : (call : Call) → v.doing ≡ None → v.calls ≡ call ∷ rest → before ≡ v.pass → Begun call races going
      → Has races v going before rest

-- What a turn leaves of the call: it goes on, or it has its answer.
pub data Leaves (meaning : Meaning) (sizes : MapSizes) (was now : GoingView) (before : PassView) (v w : CallerAt) : Type 0 where
  on : w.doing ≡ Some (record { going = now; before = before }) → w.answers ≡ v.answers → Counted meaning sizes now before w.pass
      → Leaves meaning sizes was now before v w
  done : (answer : Answer) → w.doing ≡ None → w.answers ≡ v.answers ++ answer ∷ [] → now.struck ≡ took_effect answer
      → AnswersCall meaning sizes was.call was.budget before w.pass answer → Leaves meaning sizes was now before v w

-- A caller's pass learnt what a note tells, and made one turn of its present call.
pub record CallerTurn (meaning : Meaning) (sizes : MapSizes) (races : ℕ) (told : NoteView) (v w : CallerAt) : Type 0 where
  pub going : GoingView
  pub before : PassView
  pub has : Has races v going before w.calls
  pub ready : PassView
  pub learnt : Learns told v.pass ready
  pub now : GoingView
  pub turn : MakesTurn meaning going now ready w.pass
  pub leaves : Leaves meaning sizes going now before v w

-- A call took effect in a turn: before it had not, and after it had.
abbrev pub strikes : Bool → Bool → Bool
strikes was now = now && not was

-- so many changes took effect up to a turn's end, where there were so many before it
abbrev pub count_after : Bool → Bool → ℕ → ℕ
count_after was now n = cond (strikes was now) (n + 1) n

-- A call's mark is the number of changes up to the end of its first turn, and then up to the end of the turn in which it took effect.
abbrev pub mark_after : Bool → Bool → Bool → ℕ → ℕ → ℕ
mark_after begun was now n mark = cond (begun && not (strikes was now)) mark n

-- what a turn of a caller's call makes of the number of changes, n before and m after it, and of the call's mark
pub record Marks (going now : GoingView) (n m : ℕ) (v w : CallerAt) : Type 0 where
  pub counts : m ≡ count_after going.struck now.struck n
  pub mark : w.mark ≡ mark_after (is_some v.doing) going.struck now.struck m v.mark
  pub goes_on : (d : Doing) → w.doing ≡ Some d → w.marks ≡ v.marks
  pub answered : w.doing ≡ None → w.marks ≡ v.marks ++ w.mark ∷ []

-- a number as 64 bits hold it, the greatest of them for every greater one
abbrev pub capped : ℕ → ℕ
capped n = min n (2 ^ 64 - 1)

abbrev pub all_capped : List ℕ → List ℕ
all_capped ns = map capped ns

-- the answers, and their marks
abbrev pub answers_of : List Marked → List Answer
answers_of given = map (λ a. a.answer) given

abbrev pub marks_of : List Marked → List ℕ
marks_of given = map (λ a. a.mark) given

-- while a call is going, the caller's list is as the call left it
abbrev pub InCall : CallerAt → Type 0
InCall v = (d : Doing) → v.doing ≡ Some d → Entering d.going d.before v.pass

-- ---- what a caller's parts show

-- A future's pass and call are these, and its call has been going since before.
pub record IsCalling {P G : Type 0} (belongs : P → Type 0) (under_way : P → G → PassView → Type 0) (view : P → PassView)
    (going_view : P → G → GoingView) (parts : Option (P × G)) (pass : PassView) (going : GoingView) (before : PassView) : Type 0 where
  pub at : P
  pub call : G
  pub is : parts ≡ Some (at, call)
  pub belongs_to : belongs at
  pub pass_is : view at ≡ pass
  pub going_is : going_view at call ≡ going
  pub under : under_way at call before

-- A caller has an idle pass, or a future whose call is going.
pub data Shows {P G F : Type 0} (belongs : P → Type 0) (idle : P → Type 0) (under_way : P → G → PassView → Type 0) (view : P → PassView)
    (going_view : P → G → GoingView) (parts : F → Option (P × G)) (v : CallerAt) : Option P → Option F → Type 0 where
  rests : (p : P) → belongs p → idle p → view p ≡ v.pass → v.doing ≡ None
      → Shows belongs idle under_way view going_view parts v (Some p) None
  calls_on : (f : F) (d : Doing) → v.doing ≡ Some d
      → IsCalling belongs under_way view going_view (parts f) v.pass d.going d.before
      → Shows belongs idle under_way view going_view parts v None (Some f)

-- The caller's pass, idle or in its call, may learn the note.
abbrev pub CanLearn : {P G F N : Type 0} → (P → N → Type 0) → (F → Option (P × G)) → Option P → Option F → N → Type 0
CanLearn learnable parts pass call note =
    IfSome pass (λ p. learnable p note) × IfSome call (λ f. IsSomeAnd (parts f) (λ x. learnable x.0 note))
