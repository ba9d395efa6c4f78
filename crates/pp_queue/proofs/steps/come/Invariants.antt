use Rattle.std.proofs.Common.{◌≡◌, [], eqb}
use Rattle.pp_base.specs.Passes.{IsPassOf}
use Rattle.pp_queues.specs.Turns.{Came}
use Rattle.pp_queue.proofs.Heading.{head_in}
use Rattle.pp_queue.proofs.steps.come.Given as goal

abbrev pub ghosts-load_word : goal.ghosts-load_word
ghosts-load_word a = record {
  then = λ m n m'. ((m'.1 ≡ []) × Came a._about.word (eqb (head_in a._about.at) 0) a._about.number n a.place m.0 m'.0) × IsPassOf
      a.pool.now.layout m'.0.known;
}
