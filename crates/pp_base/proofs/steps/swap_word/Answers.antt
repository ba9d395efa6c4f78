use Rattle.std.proofs.Common.{arith}
use Rattle.pp_base.proofs.Telling.{keyed_run}
use Rattle.pp_base.proofs.steps.swap_word.Goals as goal

pub swap-requires : goal.swap-requires
swap-requires g c = let N = g.N.StepNote in let pool = c.args.pool.now in let seat = c.args.seat.now in let low = c.requires.place in
    let wide = pool.wide in (
      c.requires.table,
      omega arith,
      keyed_run _ _ _ g.S.Shape.caller_of g.met.S.Shape.own_changes pool.layout pool.table.shared.key _ _ seat.me _
          (λ _. c.args.new) (N.then seat.me) pool.keyed pool.slotless c.requires.allows,
    )
