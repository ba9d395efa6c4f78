-- What a closed queue holds, by its words.
use Rattle.std.specs.Prelude.{◌≡◌, ℕ, zero, suc, ◌+◌, cond, nat_eq, List, [], ◌∷◌, map}
use Rattle.pp_link.specs.declared.layout.Sizes.{Sizes}
use Rattle.pp_link.specs.Links.{target}
use Rattle.pp_link.specs.Words.{head_word, cell_word}
use Rattle.pp_model.specs.declared.Pair.{Pair}
use Rattle.pp_rule.specs.Lists.{rest_of}
use Rattle.pp_rule.specs.Views.{halves, value_of}
use Rattle.pp_queues.specs.declared.calls.QueueChange.{QueueChange}
use Rattle.pp_queues.specs.declared.calls.QueuePlaced.{QueuePlaced}
use Rattle.pp_queues.specs.Queue.{items_of, IsSound, StandsIn}

-- the record to which the link of the record n leads
abbrev pub next_of : Sizes → List ℕ → ℕ → ℕ
next_of z words n = target (cell_word words z n 2)

-- the records from n on along links, at most so many
unfoldable pub along : Sizes → List ℕ → ℕ → ℕ → List ℕ
along z words zero n = []
along z words (suc most) n = cond (nat_eq n 0) [] (n ∷ along z words most (next_of z words n))

-- the live numbers: the dummy and those behind it
abbrev pub queue_alive : Sizes → List ℕ → List ℕ
queue_alive z words = along z words z.records (target (head_word words z 0))

abbrev pub value_at : Sizes → List ℕ → ℕ → ℕ
value_at z words n = value_of (halves (cell_word words z n 1) (cell_word words z n 4))

-- each value with its position, the first one's being k
abbrev pub numbered : ℕ → List ℕ → List Pair
numbered k [] = []
numbered k (v ∷ vs) = record { key = k; value = v } ∷ numbered (k + 1) vs

-- the contents: the values behind the dummy, each with its position
abbrev pub queue_pairs : Sizes → List ℕ → List Pair
queue_pairs z words = numbered 0 (map (value_at z words) (rest_of (queue_alive z words)))

-- what the contents and the live numbers of closed words are
abbrev pub QueueGathered : Sizes → List ℕ → List Pair → List ℕ → Type 0
QueueGathered z words contents live = (contents ≡ queue_pairs z words) × (live ≡ queue_alive z words)

-- the pass to which a change belongs
abbrev pub queue_caller : QueueChange → ℕ
queue_caller c = c.caller

-- the dummy is live beside them
abbrev pub queue_count : ℕ → ℕ
queue_count pairs = pairs + 1

-- the log of a closed queue is sound and leaves these values
pub record QueueTells (z : Sizes) (log : List QueueChange) (pairs : List Pair) : Type 0 where
  pub sound : IsSound log
  pub contents : pairs ≡ numbered 0 (items_of log)

-- the placed calls of a pass stand in it
abbrev pub QueueTellsPass : Sizes → List QueueChange → ℕ → List QueuePlaced → Type 0
QueueTellsPass z log p placed = StandsIn log p placed
