-- What the order that a pass has seen leaves in the words of its queue.
use Rattle.std.specs.Prelude.{◌≡◌, ℕ, false, List, slice_index}
use Rattle.pp_rule.specs.Orders.{replayed, entries_of}
use Rattle.pp_rule.specs.Opening.{opening_words}
use Rattle.pp_queues.specs.Queues.{QueuePass, QueueView, queue_head, queue_field}

-- the words that the steps of this order leave, from those of a new queue on
abbrev pub words_of : QueueView → List ℕ
words_of v = replayed (opening_words 1 queue_head queue_field v.known.sizes) (entries_of v.order)

abbrev pub word_in : QueueView → ℕ → ℕ
word_in v place = slice_index (words_of v) place

-- where the pass had left no record behind head 1, it has left none since
abbrev pub StaysUp : QueuePass → QueuePass → Type 0
StaysUp q q' = q.own.behind ≡ false → q'.own.behind ≡ false
