-- How a tree reads the steps of a call: which turns are lost, and at which step the call takes effect.
use Rattle.std.specs.Prelude.{ℕ, ◌+◌, ◌*◌, ◌^◌, Bool, true, false, cond, not, nat_eq, nat_lt, nat_le, ◌||◌, ◌&&◌, List, [], ◌∷◌, ◌++◌}
use Rattle.pp_link.specs.Links.{invalid_bit}
use Rattle.pp_link.specs.Places.{head_place}
use Rattle.pp_model.specs.declared.Call.{Call}
use Rattle.pp_model.specs.declared.steps.Step.{Step}
use Rattle.pp_model.specs.Calls.{key_of}
use Rattle.pp_model.specs.Pass.{MapSizes}
use Rattle.pp_rule.specs.Causes.{Reader, pool_sizes}
use Rattle.pp_rule.specs.Orders.{load_step, confirm_step, read_step, detach_step, missed_step}
use Rattle.pp_base.specs.Named.{NamedStep, name_of}
use Rattle.pp_trees.specs.Edges.{publish_step, flag_step, tag_step, end_step}
use Rattle.pp_turns.specs.Tallies.{Tally, losing, effected}

-- What is remembered of the steps: the word of the last first load; whether the last second load found it again and the key of an
-- internal record is to be read; the bounds of the walk, which are that key's from `low` on and below `high`; and whether the call
-- has taken effect.
pub record Walked : Type 0 where
  pub word : ℕ
  pub coming : Bool
  pub low : ℕ
  pub high : ℕ
  pub struck : Bool

-- nothing excludes a key
abbrev pub unbounded : ℕ
unbounded = 2 ^ 64

abbrev pub fresh_walk : Walked
fresh_walk = record { word = 0; coming = false; low = 0; high = unbounded; struck = false }

-- A call takes effect where it publishes, or sets FLAG.
abbrev pub tree_strikes : NamedStep → Bool
tree_strikes s = nat_eq s.kind publish_step || nat_eq s.kind flag_step

-- the memory after a first load, which at the head begins a walk
abbrev pub after_load : MapSizes → Walked → NamedStep → Walked
after_load z m s = record {
  word = s.word;
  coming = false;
  low = cond (nat_eq s.place (head_place (pool_sizes z) 0)) 0 m.low;
  high = cond (nat_eq s.place (head_place (pool_sizes z) 0)) unbounded m.high;
  struck = m.struck;
}

-- after the key of an internal record was read: the walk goes left below it, and right from it on
abbrev pub after_key : Call → Walked → NamedStep → Walked
after_key call m s = record m {
  coming = false;
  low = cond (nat_lt (key_of call) s.word) m.low (s.word + 1);
  high = cond (nat_lt (key_of call) s.word) s.word m.high;
}

abbrev pub tree_next : MapSizes → Call → Walked → NamedStep → Walked
tree_next z call m s = cond (nat_eq s.kind load_step) (after_load z m s)
    (cond (nat_eq s.kind confirm_step) (record m { coming = nat_eq s.word m.word })
    (cond (nat_eq s.kind read_step && m.coming) (after_key call m s)
    (cond (tree_strikes s) (record m { struck = true }) m)))

-- A turn is lost at a first load or a tagging or-step that finds INVALID; at a second load that finds another word than the first
-- one; at a failing exchange of a link; at an exchange that detaches before the call took effect; and at the key of an internal
-- record that lies outside the bounds of the walk.
abbrev pub tree_loses : MapSizes → Walked → NamedStep → Bool
tree_loses z m s = cond (nat_eq s.kind load_step) (nat_eq (invalid_bit s.word) 1)
    (cond (nat_eq s.kind confirm_step || nat_eq s.kind end_step) (not (nat_eq s.word m.word))
    (cond (nat_eq s.kind missed_step) (nat_lt (17 * z.passes) s.place)
    (cond (nat_eq s.kind tag_step) (nat_eq (invalid_bit s.word) 1)
    (cond (nat_eq s.kind detach_step) (not m.struck)
    (cond (nat_eq s.kind read_step && m.coming) (nat_lt s.word m.low || nat_le m.high s.word) false)))))

abbrev pub tree_reader : Reader Call
tree_reader = record {
  Memory = Walked;
  blank = fresh_walk;
  next = λ z call m s. tree_next z call m (name_of s);
  loses = λ z call m s. tree_loses z m (name_of s);
  strikes = λ z call m s. tree_strikes (name_of s);
}

-- what is remembered after steps of these names, and how many turns they lose
unfoldable pub walked : MapSizes → Call → Walked → List NamedStep → Walked
walked z call m [] = m
walked z call m (s ∷ names) = walked z call (tree_next z call m s) names

abbrev pub one_if : Bool → ℕ
one_if b = cond b 1 0

unfoldable pub lost_by : MapSizes → Call → Walked → List NamedStep → ℕ
lost_by z call m [] = 0
lost_by z call m (s ∷ names) = one_if (tree_loses z m s) + lost_by z call (tree_next z call m s) names

abbrev pub TreeTally : Type 0
TreeTally = Tally Walked

-- a call after these further steps, at which it didn't take effect
abbrev pub moved : TreeTally → Walked → ℕ → List Step → TreeTally
moved (losing m n) m' k steps = losing m' (n + k)
moved (effected m n early later) m' k steps = effected m' (n + k) early (later ++ steps)
