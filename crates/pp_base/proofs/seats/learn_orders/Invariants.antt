use Rattle.std.proofs.Common.{◌≡◌}
use Rattle.pp_rule.specs.Steps.{Learnt}
use Rattle.pp_base.proofs.seats.learn_orders.Given as goal

abbrev pub ghosts-load_word : goal.ghosts-load_word
ghosts-load_word g a = record { then = λ m n m'. (m'.1 ≡ m.1) × Learnt m.0 m'.0 }
