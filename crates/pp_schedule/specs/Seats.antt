-- The callers of a schedule, as their parts show them.
use Rattle.std.specs.Prelude.{◌≡◌, ℕ, ◌+◌, ◌-◌, ◌^◌, ◌<◌, ◌≤◌, List, [], ◌∷◌, length, drop, Option, Some, None, slice_get}
use Rattle.std.specs.Prelude.{IfSome, map, vec_capacity, Vec}
use Rattle.std.specs.Global.{Global}
use Rattle.pp_model.specs.declared.Call.{Call}
use Rattle.pp_model.specs.Lists.{AtEach}
use Rattle.pp_model.specs.Calls.{key_of}
use Rattle.pp_model.specs.Pass.{PassView, GoingView}
use Rattle.pp_schedule.specs.declared.caller.Caller.{Caller}
use Rattle.pp_schedule.specs.declared.call_future.CallFuture.{CallFuture}
use Rattle.pp_schedule.specs.Calls.{CallerAt, Doing, Shows, CanLearn, capped, all_capped, answers_of, marks_of}

module _ {M P G N W : Type 0} (belongs : P → Type 0) (idle : P → Type 0) (under_way : P → G → PassView → Type 0)
    (learnable : P → N → Type 0) (view : P → PassView) (going_view : P → G → GoingView) (on : M) where
  -- a caller of this number is seen so
  pub record SeenAs (k : ℕ) (x : Caller M P G N W) (v : CallerAt) : Type 0 where
    pub shows : Shows belongs idle under_way view going_view (λ (f : CallFuture M P G N W). f.parts) v x.pass x.call
    pub calls : v.calls ≡ drop x.next x.calls.items
    pub answers : v.answers ≡ answers_of x.answers.items
    pub marks : all_capped v.marks ≡ marks_of x.answers.items
    pub mark : capped v.mark ≡ x.mark
    pub maps : IfSome x.call (λ f. f.map.now ≡ on)
    pub caller : v.pass.caller ≡ k

  -- and it may go on: its calls are in range, and there is room for them
  pub record MayGoOn (note : N) (x : Caller M P G N W) (v : CallerAt) : Type 0 where
    pub keys : AtEach x.calls.items (λ k call. key_of call ≤ 2 ^ 64 - 4)
    pub room : v.doing ≡ None → length v.calls ≤ v.pass.room
    pub room_going : (d : Doing) → v.doing ≡ Some d → length v.calls + 1 ≤ d.before.room
    pub space : v.doing ≡ None → length v.answers + length v.calls ≤ vec_capacity x.answers
    pub space_going : (d : Doing) → v.doing ≡ Some d → length v.answers + length v.calls + 1 ≤ vec_capacity x.answers
    pub learns : CanLearn learnable (λ (f : CallFuture M P G N W). f.parts) x.pass x.call note

  pub record AllSeen (xs : List (Caller M P G N W)) (vs : List CallerAt) : Type 0 where
    pub lengths : length vs ≡ length xs
    pub each : (k : ℕ) (x : Caller M P G N W) (v : CallerAt) → slice_get xs k ≡ Some x → slice_get vs k ≡ Some v → SeenAs k x v

  pub record AllMayGoOn (note : N) (xs : List (Caller M P G N W)) (vs : List CallerAt) : Type 0 where
    pub each : (k : ℕ) (x : Caller M P G N W) (v : CallerAt) → slice_get xs k ≡ Some x → slice_get vs k ≡ Some v → MayGoOn note x v

-- the callers' lists of calls
abbrev pub calls_of : {M P G N W : Type 0} → List (Caller M P G N W) → List (Vec Call Global)
calls_of xs = map (λ x. x.calls) xs

-- a caller has no call going and none left
abbrev pub IsOver : {M P G N W : Type 0} → Caller M P G N W → Type 0
IsOver x = (x.call ≡ None) × (length x.calls.items ≤ x.next)

-- the caller of this number, where there is one, has no call going and none left
abbrev pub HasNone : {M P G N W : Type 0} → List (Caller M P G N W) → ℕ → Type 0
HasNone {M} {P} {G} {N} {W} xs c = (x : Caller M P G N W) → slice_get xs c ≡ Some x → IsOver x

-- the plan's next caller that has calls left, or the least one past the plan's end; and what is left of the plan
pub data Chooses (Over : ℕ → Type 0) (callers : ℕ) : List ℕ → Option ℕ → List ℕ → Type 0 where
  passes : (c : ℕ) (plan left : List ℕ) (r : Option ℕ) → Over c → Chooses Over callers plan r left
      → Chooses Over callers (c ∷ plan) r left
  takes : (c : ℕ) (plan : List ℕ) → (Over c → ⊥) → c < callers → Chooses Over callers (c ∷ plan) (Some c) plan
  least : (c : ℕ) → (Over c → ⊥) → c < callers → ((d : ℕ) → d < c → Over d) → Chooses Over callers [] (Some c) []
  all_over : ((d : ℕ) → d < callers → Over d) → Chooses Over callers [] None []
