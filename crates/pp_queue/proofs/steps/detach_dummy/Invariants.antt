use Rattle.std.proofs.Common.{◌≡◌, []}
use Rattle.pp_base.specs.Passes.{IsPassOf}
use Rattle.pp_queues.specs.Turns.{Took}
use Rattle.pp_queue.proofs.Heading.{word_in}
use Rattle.pp_queue.proofs.steps.detach_dummy.Given as goal

abbrev pub ghosts-exchange_word : goal.ghosts-exchange_word
ghosts-exchange_word a = record {
  then = λ m n m'. ((m'.1 ≡ []) × Took (word_in a._about.at) a._about.word a.place a.first a.new n m.0 m'.0) × IsPassOf
      a.pool.now.layout m'.0.known;
}
