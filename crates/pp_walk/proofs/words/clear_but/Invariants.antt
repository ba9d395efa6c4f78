use Rattle.std.proofs.Common.{◌≡◌}
use Rattle.pp_walk.proofs.Clearing.{ClearsTo}
use Rattle.pp_walk.proofs.words.clear_but.Given as goal

abbrev pub invariant-loop-word : goal.invariant-loop-word
invariant-loop-word l = record {
  to : ClearsTo l.word l.a l.b l.c l.fn.pass.seat l.pass.seat;
  purse : l.pass.purse ≡ l.fn.pass.purse;
}
