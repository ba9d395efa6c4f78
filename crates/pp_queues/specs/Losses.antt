-- The lost turns of a call on a queue, told by its steps.
use Rattle.std.specs.Prelude.{◌≡◌, ℕ, ◌+◌, ◌*◌, Bool, true, false, cond, nat_eq, nat_lt, not, List, [], ◌∷◌, map}
use Rattle.pp_link.specs.Links.{invalid_bit}
use Rattle.pp_rule.specs.Orders.{load_step, confirm_step, missed_step}
use Rattle.pp_rule.specs.Causes.{Reader}
use Rattle.pp_base.specs.Named.{NamedStep, name_of}
use Rattle.pp_calls.specs.Steps.{Stepped}
use Rattle.pp_queues.specs.declared.calls.QueueCall.{QueueCall}
use Rattle.pp_queues.specs.Queues.{QueueView, HasOwn}
use Rattle.pp_queues.specs.Turns.{put_step, advance_step, take_step, StandsThen}

-- What is remembered of a call's steps: the word of the last first load, and whether the call took effect.
pub record Remembered : Type 0 where
  pub word : ℕ
  pub struck : Bool

-- it takes effect at a linking exchange or at one of head 0
abbrev pub queue_strikes : NamedStep → Bool
queue_strikes s = cond (nat_eq s.kind put_step) true (nat_eq s.kind take_step)

abbrev pub queue_next : Remembered → NamedStep → Remembered
queue_next m s = record {
  word = cond (nat_eq s.kind load_step) s.word m.word;
  struck = cond (queue_strikes s) true m.struck;
}

-- A turn is lost at a load that finds INVALID, at a second load that finds another word than the first one, at a failing
-- exchange of a
-- link, and where head 1 is moved on before the call took effect: for another put.
abbrev pub queue_loses : ℕ → Remembered → NamedStep → Bool
queue_loses passes m s =
    cond (nat_eq s.kind load_step) (nat_eq (invalid_bit s.word) 1)
    (cond (nat_eq s.kind confirm_step) (not (nat_eq s.word m.word))
    (cond (nat_eq s.kind missed_step) (nat_lt (17 * passes) s.place)
    (cond (nat_eq s.kind advance_step) (not m.struck) false)))

abbrev pub queue_reader : Reader QueueCall
queue_reader = record {
  Memory = Remembered;
  blank = record { word = 0; struck = false };
  next = λ z call m s. queue_next m (name_of s);
  loses = λ z call m s. queue_loses z.passes m (name_of s);
  strikes = λ z call m s. queue_strikes (name_of s);
}

-- The lost turns counted along the steps: all of them, and those before the call took effect.
pub record Tally : Type 0 where
  pub memory : Remembered
  pub lost : ℕ
  pub early : ℕ

abbrev pub one_more : Bool → ℕ → ℕ
one_more lost n = cond lost (n + 1) n

abbrev pub counting : ℕ → Tally → NamedStep → Tally
counting passes t s = record {
  memory = queue_next t.memory s;
  lost = one_more (queue_loses passes t.memory s) t.lost;
  early = cond t.memory.struck t.early (one_more (queue_loses passes t.memory s) t.early);
}

unfoldable pub tally : ℕ → Tally → List NamedStep → Tally
tally passes t [] = t
tally passes t (s ∷ steps) = tally passes (counting passes t s) steps

-- the call lost so many turns, and didn't take effect yet
abbrev pub losing : ℕ → ℕ → Tally
losing word n = record { memory = record { word = word; struck = false }; lost = n; early = n }

-- it took effect, before which it lost so many turns, and none since
abbrev pub striking : ℕ → ℕ → Tally
striking word n = record { memory = record { word = word; struck = true }; lost = n; early = n }

-- it took effect, before which it lost so many turns
abbrev pub HasStruck : ℕ → Tally → Type 0
HasStruck n t = (t.memory.struck ≡ true) × (t.early ≡ n)

-- The pass made steps, over which the lost turns were counted so.
pub record Ran (passes : ℕ) (t t' : Tally) (v w : QueueView) : Type 0 where
  pub stepped : Stepped v w
  pub tallied : tally passes t (map name_of stepped.steps) ≡ t'
  pub stands : HasOwn w.order → StandsThen v → StandsThen w
