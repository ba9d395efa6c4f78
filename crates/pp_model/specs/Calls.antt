-- What a call does to a finite map, and what it answers.
use Rattle.std.specs.Prelude.{ℕ, ◌+◌, Bool, true, false, cond, nat_eq, List, [], ◌∷◌, Option, Some, None}
use Rattle.pp_model.specs.declared.Call.{Call}
use Rattle.pp_model.specs.declared.Call.TheVariants.{Get, Insert, Remove, Cut}
use Rattle.pp_model.specs.declared.Reply.{Reply}
use Rattle.pp_model.specs.declared.Reply.TheVariants.{Value, Absent, Added, Held, Took, Other}
use Rattle.pp_model.specs.declared.Pair.{Pair}
use Rattle.pp_model.specs.FiniteMap.{find, put, drop_key}

-- the key that a call speaks of
abbrev pub key_of : Call → ℕ
key_of (Get k) = k
key_of (Insert k v) = k
key_of (Remove k) = k
key_of (Cut k v) = k

-- the reply to a call whose key has this value
abbrev pub reply_at : Call → Option ℕ → Reply
reply_at (Get k) None = Absent
reply_at (Get k) (Some w) = Value w
reply_at (Insert k v) None = Added
reply_at (Insert k v) (Some w) = Held w
reply_at (Remove k) None = Absent
reply_at (Remove k) (Some w) = Took w
reply_at (Cut k v) None = Absent
reply_at (Cut k v) (Some w) = cond (nat_eq w v) (Took w) (Other w)

-- the reply of a map to a call
abbrev pub reply : List Pair → Call → Reply
reply m call = reply_at call (find m (key_of call))

-- the map after a call whose key has this value in it
abbrev pub map_after_at : List Pair → Call → Option ℕ → List Pair
map_after_at m (Get k) w = m
map_after_at m (Insert k v) None = put m k v
map_after_at m (Insert k v) (Some w) = m
map_after_at m (Remove k) None = m
map_after_at m (Remove k) (Some w) = drop_key m k
map_after_at m (Cut k v) None = m
map_after_at m (Cut k v) (Some w) = cond (nat_eq w v) (drop_key m k) m

-- the map after a call
abbrev pub map_after : List Pair → Call → List Pair
map_after m call = map_after_at m call (find m (key_of call))

-- a call on a key with this value takes its pair away
pub data Takes : Call → ℕ → ℕ → Type 0 where
  removes : (k w : ℕ) → Takes (Remove k) k w
  cuts : (k w : ℕ) → Takes (Cut k w) k w

-- a reply that says that the map was changed
abbrev pub changes : Reply → Bool
changes (Value v) = false
changes Absent = false
changes Added = true
changes (Held v) = false
changes (Took v) = true
changes (Other v) = false

-- how many of these calls are inserts
abbrev pub inserts : List Call → ℕ
inserts [] = 0
inserts (Get k ∷ calls) = inserts calls
inserts (Insert k v ∷ calls) = inserts calls + 1
inserts (Remove k ∷ calls) = inserts calls
inserts (Cut k v ∷ calls) = inserts calls
