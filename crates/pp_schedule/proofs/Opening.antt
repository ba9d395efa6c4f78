-- One caller before its first turn.
use Rattle.std.proofs.Common.{◌≡◌, ℕ, zero, suc, ◌^◌, ◌-◌, ◌≤◌, List, [], ◌∷◌, length, drop, map, Option, Some, None}
use Rattle.std.proofs.Common.{refl, sym, ap, ◌∙◌, subst, arith}
use Rattle.std.specs.Prelude.{slice_get, vec_capacity, IfSome}
use Rattle.pp_model.specs.declared.Call.{Call}
use Rattle.pp_model.specs.Lists.{AtEach}
use Rattle.pp_model.specs.Calls.{key_of}
use Rattle.pp_model.specs.Pass.{PassView, GoingView}
use Rattle.pp_schedule.specs.declared.caller.Caller.{Caller}
use Rattle.pp_schedule.specs.declared.caller.Marked.{Marked}
use Rattle.pp_schedule.specs.declared.call_future.CallFuture.{CallFuture}
use Rattle.pp_schedule.specs.Calls.{CallerAt, Shows, rests, CanLearn}
use Rattle.pp_schedule.specs.Opened.{opened_alone}
use Rattle.pp_schedule.specs.Seats.{SeenAs, MayGoOn, AllSeen, AllMayGoOn}

module _ {M P G N W : Type 0} (belongs : P → Type 0) (idle : P → Type 0) (under_way : P → G → PassView → Type 0)
    (learnable : P → N → Type 0) (view : P → PassView) (going_view : P → G → GoingView) (this : M)
    (note : N) (p : P) (x : Caller M P G N W) (pass : PassView) (calls : List Call)
    (is_pass : x.pass ≡ Some p) (no_call : x.call ≡ None) (first : x.next ≡ 0) (calls_are : x.calls.items ≡ calls)
    (no_answer : x.answers.items ≡ []) (unmarked : x.mark ≡ 0)
    (own : belongs p) (rested : idle p) (pass_is : view p ≡ pass) (caller : pass.caller ≡ 0)
    (keys : AtEach calls (λ k call. key_of call ≤ 2 ^ 64 - 4))
    (room : length calls ≤ pass.room) (space : length calls ≤ vec_capacity x.answers) (learns : learnable p note) where
  abbrev start : CallerAt
  start = record { pass = pass; doing = None; calls = calls; answers = []; mark = 0; marks = [] }

  abbrev ShownBy : Option P → Option (CallFuture M P G N W) → Type 0
  ShownBy o f = Shows belongs idle under_way view going_view (λ (h : CallFuture M P G N W). h.parts) start o f

  abbrev Learning : Option P → Option (CallFuture M P G N W) → Type 0
  Learning o f = CanLearn learnable (λ (h : CallFuture M P G N W). h.parts) o f note

  is_seen : SeenAs belongs idle under_way learnable view going_view this 0 x start
  is_seen = record {
    shows = subst (λ o. ShownBy o x.call) (sym is_pass) (subst (λ f. ShownBy (Some p) f) (sym no_call) (rests p own rested pass_is refl));
    calls = sym calls_are ∙ ap (λ j. drop j x.calls.items) (sym first);
    answers = sym (ap (map (λ (a : Marked). a.answer)) no_answer);
    marks = sym (ap (map (λ (a : Marked). a.mark)) no_answer);
    mark = sym unmarked;
    maps = subst (λ (o : Option (CallFuture M P G N W)). IfSome o (λ f. f.map.now ≡ this)) (sym no_call) tt;
    caller = caller;
  }

  goes : MayGoOn belongs idle under_way learnable view going_view this note x start
  goes = record {
    keys = subst (λ cs. AtEach cs (λ k call. key_of call ≤ 2 ^ 64 - 4)) (sym calls_are) keys;
    room = λ none. room;
    room_going = λ d is. absurd cc;
    space = λ none. omega (arith, space);
    space_going = λ d is. absurd cc;
    learns = subst (λ o. Learning o x.call) (sym is_pass) (subst (λ f. Learning (Some p) f) (sym no_call) (learns, tt));
  }

  pub alone_seen : AllSeen belongs idle under_way learnable view going_view this (x ∷ []) (opened_alone pass calls).callers
  alone_seen = record { lengths = refl; each = by }
    where
      by : (k : ℕ) (y : Caller M P G N W) (v : CallerAt) → slice_get (x ∷ []) k ≡ Some y
          → slice_get (opened_alone pass calls).callers k ≡ Some v
          → SeenAs belongs idle under_way learnable view going_view this k y v
      by zero y v at_y at_v =
          let is_y : x ≡ y = cc in
          let is_v : start ≡ v = cc in
          subst (λ (z : Caller M P G N W). SeenAs belongs idle under_way learnable view going_view this 0 z v) is_y
          (subst (λ (z : CallerAt). SeenAs belongs idle under_way learnable view going_view this 0 x z) is_v is_seen)
      by (suc k) y v at_y at_v = absurd cc

  pub alone_goes : AllMayGoOn belongs idle under_way learnable view going_view this note (x ∷ []) (opened_alone pass calls).callers
  alone_goes = record { each = by }
    where
      by : (k : ℕ) (y : Caller M P G N W) (v : CallerAt) → slice_get (x ∷ []) k ≡ Some y
          → slice_get (opened_alone pass calls).callers k ≡ Some v
          → MayGoOn belongs idle under_way learnable view going_view this note y v
      by zero y v at_y at_v =
          let is_y : x ≡ y = cc in
          let is_v : start ≡ v = cc in
          subst (λ (z : Caller M P G N W). MayGoOn belongs idle under_way learnable view going_view this note z v) is_y
          (subst (λ (z : CallerAt). MayGoOn belongs idle under_way learnable view going_view this note x z) is_v goes)
      by (suc k) y v at_y at_v = absurd cc
