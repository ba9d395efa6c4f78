-- The caller that the plan chooses, and what lets it make a turn.
use Rattle.std.proofs.Common.{◌≡◌, true, false, get_or, ℕ, ◌-◌, ◌<◌, ◌≤◌, List, [], ◌∷◌, length}
use Rattle.std.proofs.Common.{Option, Some, None, ⊎_elim, refl, sym, ap, ◌∙◌, subst, arith}
use Rattle.std.specs.Prelude.{slice_get, IfSome, IsSome, vec_capacity}
use Rattle.std.proofs.lemmas.Bool.{cases_lt, false≢true}
use Rattle.std.proofs.lemmas.List.{drop_all, length-drop, length-map}
use Rattle.std.proofs.lemmas.Option.{slice_get_within, slice_get_read}
use Rattle.pp_schedule.proofs.Moved.{some_same}
use Rattle.pp_model.specs.Pass.{PassView, GoingView, MapSizes, Meaning}
use Rattle.pp_schedule.specs.declared.caller.Caller.{Caller}
use Rattle.pp_schedule.specs.declared.call_future.CallFuture.{CallFuture}
use Rattle.pp_schedule.specs.Calls.{CallerAt, Shows, rests, calls_on}
use Rattle.pp_schedule.specs.Plays.{Moment, Answered, Move, Plays, ended, passed, planned, rest}
use Rattle.pp_schedule.specs.Seats.{SeenAs, MayGoOn, AllSeen, AllMayGoOn, IsOver, HasNone, Chooses, passes, takes, least, all_over}
use Rattle.pp_schedule.proofs.Orders.{within_get}

pub chosen_not_over : (Over : ℕ → Type 0) (n : ℕ) (plan left : List ℕ) (c : ℕ) → Chooses Over n plan (Some c) left
    → (Over c → ⊥) × (c < n)
chosen_not_over Over n plan left c (passes d plan' _ _ over later) = chosen_not_over Over n plan' left c later
chosen_not_over Over n plan left c (takes _ _ not lt) = (not, lt)
chosen_not_over Over n plan left c (least _ not lt low) = (not, lt)

module _ {M P G N W : Type 0} (belongs : P → Type 0) (idle : P → Type 0) (under_way : P → G → PassView → Type 0)
    (learnable : P → N → Type 0) (view : P → PassView) (going_view : P → G → GoingView) (this : M) where
  -- a caller with no call going and none left has all its answers
  answered : (k : ℕ) (x : Caller M P G N W) (v : CallerAt) → SeenAs belongs idle under_way learnable view going_view this k x v
      → IsOver x → Answered v
  answered k x v seen over = record {
    none_going = by seen.shows over.0;
    none_left = seen.calls ∙ drop_all x.next x.calls.items over.1;
  }
    where
      by : {pass : Option P} {call : Option (CallFuture M P G N W)}
          → Shows belongs idle under_way view going_view (λ (f : CallFuture M P G N W). f.parts) v pass call → call ≡ None
          → v.doing ≡ None
      by (rests p own not_going is doing) e = doing
      by (calls_on f d doing calling) e = absurd cc

  answered_at : (xs : List (Caller M P G N W)) (vs : List CallerAt) (c : ℕ)
      → AllSeen belongs idle under_way learnable view going_view this xs vs
      → HasNone xs c → (v : CallerAt) → slice_get vs c ≡ Some v → Answered v
  answered_at xs vs c seen none v at =
      let within = slice_get_within vs c v at in
      let x = within_get xs c (omega (arith, within, seen.lengths)) in
      answered c x.0 v (seen.each c x.0 v x.1 at) (none x.0 x.1)

  module _ (meaning : Meaning) (sizes : MapSizes) (races : ℕ) where
    -- where the plan chooses nobody, all is answered
    pub plays_over : (xs : List (Caller M P G N W)) (s : Moment) (plan left : List ℕ)
        → AllSeen belongs idle under_way learnable view going_view this xs s.callers
        → Chooses (HasNone xs) (length xs) plan None left → Plays meaning sizes races plan s [] s
    plays_over xs s plan left seen (passes c plan' _ _ over later) =
        passed c plan' s s [] (answered_at xs s.callers c seen over) (plays_over xs s plan' left seen later)
    plays_over xs s plan left seen (all_over over) =
        ended s (λ k v at.
        let within = slice_get_within s.callers k v at in
        answered_at xs s.callers k seen (over k (omega (arith, within, seen.lengths))) v at)

    -- the caller that the plan chooses makes its turn
    pub plays_turn : (xs : List (Caller M P G N W)) (s t u : Moment) (plan left turns : List ℕ) (c : ℕ)
        → AllSeen belongs idle under_way learnable view going_view this xs s.callers
        → Chooses (HasNone xs) (length xs) plan (Some c) left → Move meaning sizes races s c t
        → Plays meaning sizes races left t turns u → Plays meaning sizes races plan s (c ∷ turns) u
    plays_turn xs s t u plan left turns c seen (passes d plan' _ _ over later) move plays =
        passed d plan' s u (c ∷ turns) (answered_at xs s.callers d seen over)
        (plays_turn xs s t u plan' left turns c seen later move plays)
    plays_turn xs s t u plan left turns c seen (takes _ _ not lt) move plays = planned c left s t u turns move plays
    plays_turn xs s t u plan left turns c seen (least _ not lt low) move plays =
        rest c s t u turns (λ d v l at. answered_at xs s.callers d seen (low d l) v at) move plays

  -- what a caller needs for a turn
  pub record MayTurn (x : Caller M P G N W) : Type 0 where
    pub more : IsSome x.pass → x.next < length x.calls.items
    pub room : IfSome x.pass (λ p. 1 ≤ (view p).room)
    pub space : length x.answers.items < vec_capacity x.answers

  pub may_turn : (k : ℕ) (note : N) (x : Caller M P G N W) (v : CallerAt)
      → SeenAs belongs idle under_way learnable view going_view this k x v
      → MayGoOn belongs idle under_way learnable view going_view this note x v → (IsOver x → ⊥) → MayTurn x
  may_turn k note x v seen may not = by x.pass x.call refl refl seen.shows
    where
      left_is : length v.calls ≡ length x.calls.items - x.next
      left_is = ap length seen.calls ∙ length-drop x.next x.calls.items

      many : length v.answers ≡ length x.answers.items
      many = ap length seen.answers ∙ length-map x.answers.items (λ a. a.answer)

      none_some : (pass : Option P) → pass ≡ None → IsSome pass → ⊥
      none_some None e some = let s : false ≡ true = some in false≢true s
      none_some (Some p) e some = absurd cc

      by : (pass : Option P) (call : Option (CallFuture M P G N W)) → x.pass ≡ pass → x.call ≡ call
          → Shows belongs idle under_way view going_view (λ (f : CallFuture M P G N W). f.parts) v pass call → MayTurn x
      by pass call is_pass is_call (rests p own not_going is doing) =
          let some : x.next < length x.calls.items =
          ⊎_elim
          (λ (lt : x.next < length x.calls.items). lt)
          (λ (le : length x.calls.items ≤ x.next). absurd (not (is_call, le)))
          (cases_lt x.next (length x.calls.items)) in
          let r = may.room doing in
          let s = may.space doing in
          let b = ap (λ (q : PassView). q.room) is in
          record {
            more = λ _. some;
            room = rw is_pass (omega (arith, r, b, left_is, some));
            space = omega (arith, s, left_is, some, many);
          }
      by pass call is_pass is_call (calls_on f d doing calling) =
          let s = may.space_going d doing in
          record {
            more = λ some. absurd (none_some x.pass is_pass some);
            room = rw is_pass tt;
            space = omega (arith, s, many);
          }

  -- the chosen caller, as it is seen, with what it needs for its turn
  pub record ChosenTurn (s : Moment) (note : N) (c : ℕ) (x : Caller M P G N W) : Type 0 where
    pub v : CallerAt
    pub is_v : slice_get s.callers c ≡ Some v
    pub sees : SeenAs belongs idle under_way learnable view going_view this c x v
    pub goes : MayGoOn belongs idle under_way learnable view going_view this note x v
    pub may : MayTurn x

  pub chosen_turn : (xs : List (Caller M P G N W)) (s : Moment) (note : N) (plan left : List ℕ) (c : ℕ) (x : Caller M P G N W)
      → AllSeen belongs idle under_way learnable view going_view this xs s.callers
      → AllMayGoOn belongs idle under_way learnable view going_view this note xs s.callers
      → Chooses (HasNone xs) (length xs) plan (Some c) left → x ≡ get_or xs c x → ChosenTurn s note c x
  chosen_turn xs s note plan left c x seen may chosen is_x =
      let not = chosen_not_over (HasNone xs) (length xs) plan left c chosen in
      let at : slice_get xs c ≡ Some x = slice_get_read xs (length xs) c x refl not.1 is_x in
      let v = within_get s.callers c (omega (arith, not.1, seen.lengths)) in
      let sees = seen.each c x v.0 at v.1 in
      let goes = may.each c x v.0 at v.1 in
      record {
        v = v.0;
        is_v = v.1;
        sees = sees;
        goes = goes;
        may = may_turn c note x v.0 sees goes
            (λ over. not.0 (λ y is. subst (λ (z : Caller M P G N W). IsOver z) (some_same (sym at ∙ is)) over));
      }
