-- The map that a sound log leaves is what a closed map has to hold.
use Rattle.std.proofs.Common.{◌≡◌, ℕ, Bool, true, false, cond, List, [], ◌∷◌, Option, Some, None, refl, sym, subst, arith}
use Rattle.std.specs.Prelude.{nat_eq}
use Rattle.pp_model.specs.declared.Call.{Call}
use Rattle.pp_model.specs.declared.Call.TheVariants.{Get, Insert, Remove, Cut}
use Rattle.pp_model.specs.declared.Change.{Change}
use Rattle.pp_model.specs.declared.Pair.{Pair}
use Rattle.pp_model.specs.Calls.{key_of, map_after, map_after_at}
use Rattle.pp_model.specs.FiniteMap.{find, drop_key, KeysRise}
use Rattle.pp_model.specs.History.{run_from, contents_of, Sound}
use Rattle.pp_model.proofs.Maps.{RisesFrom-put, RisesFrom-drop_key}
use Rattle.pp_ends.specs.Ends.{TellsMap}

cut_rises : (b : Bool) (m : List Pair) (k : ℕ) → KeysRise m → KeysRise (cond b (drop_key m k) m)
cut_rises true m k r = RisesFrom-drop_key m 0 k r
cut_rises false m k r = r

rises_at : (m : List Pair) (call : Call) (w : Option ℕ) → find m (key_of call) ≡ w → KeysRise m → KeysRise (map_after_at m call w)
rises_at m (Get k) w e r = r
rises_at m (Insert k v) None e r = RisesFrom-put m 0 k v r (omega arith) e
rises_at m (Insert k v) (Some w) e r = r
rises_at m (Remove k) None e r = r
rises_at m (Remove k) (Some w) e r = RisesFrom-drop_key m 0 k r
rises_at m (Cut k v) None e r = r
rises_at m (Cut k v) (Some w) e r = cut_rises (nat_eq w v) m k r

-- the keys of a map rise, whatever calls were made on it
run_rises : (log : List Change) (m : List Pair) → KeysRise m → KeysRise (run_from m log)
run_rises [] m r = r
run_rises (c ∷ log) m r = run_rises log (map_after m c.call) (rises_at m c.call (find m (key_of c.call)) refl r)

pub tells_map : (log : List Change) (pairs : List Pair) → Sound log → pairs ≡ contents_of log → TellsMap log pairs
tells_map log pairs sound is = record {
  sound = sound;
  contents_are = is;
  keys_rise = subst KeysRise (sym is) (run_rises log [] tt);
}
