-- What makes a finite map a sequential object.
use Rattle.std.proofs.Common.{◌≡◌, ℕ, Bool, true, false, cond, nat_eq, List, Option, Some, None, refl}
use Rattle.std.proofs.lemmas.Bool.{true≢false}
use Rattle.pp_model.specs.declared.Call.{Call}
use Rattle.pp_model.specs.declared.Call.TheVariants.{Get, Insert, Remove, Cut}
use Rattle.pp_model.specs.declared.Reply.TheVariants.{Took, Other}
use Rattle.pp_model.specs.declared.Pair.{Pair}
use Rattle.pp_model.specs.FiniteMap.{find, drop_key}
use Rattle.pp_model.specs.Calls.{key_of, reply, reply_at, map_after, map_after_at, changes}

unchanged_by : (m : List Pair) (k x : ℕ) (same : Bool) → changes (cond same (Took x) (Other x)) ≡ false
    → cond same (drop_key m k) m ≡ m
unchanged_by m k x true none = absurd (true≢false none)
unchanged_by m k x false none = refl

unchanged_at : (m : List Pair) (call : Call) (w : Option ℕ) → changes (reply_at call w) ≡ false → map_after_at m call w ≡ m
unchanged_at m (Get k) w none = refl
unchanged_at m (Insert k v) None none = absurd (true≢false none)
unchanged_at m (Insert k v) (Some x) none = refl
unchanged_at m (Remove k) None none = refl
unchanged_at m (Remove k) (Some x) none = absurd (true≢false none)
unchanged_at m (Cut k v) None none = refl
unchanged_at m (Cut k v) (Some x) none = unchanged_by m k x (nat_eq x v) none

-- a call whose reply says no change leaves the map as it was
pub map_after_unchanged : (m : List Pair) (call : Call) → changes (reply m call) ≡ false → map_after m call ≡ m
map_after_unchanged m call none = unchanged_at m call (find m (key_of call)) none
