use Rattle.std.proofs.Common.{sym, ◌∙◌}
use Rattle.pp_queue.proofs.Starting.{starts_standing, starts_new, starts_up}
use Rattle.pp_queue.proofs.queue.Queue.start.Goals as goal

pub returns-clause-ready : goal.returns-clause-ready
returns-clause-ready c = λ k p at. let n = c.in_ok-pool.ensures.passes k p at in record {
  fits = record { table_is = n.fits.table_is; sizes = n.fits.sizes ∙ sym c.in_ok-pool.ensures.sizes };
  idle = (n.unnamed, n.purse.resting, n.purse.taken);
  rest = n.rests;
  stands = starts_standing p.seat _ k n.knows;
  up = λ _. starts_up p.seat _ k n.knows;
}

pub returns-clause-fresh : goal.returns-clause-fresh
returns-clause-fresh c = λ k p at. let n = c.in_ok-pool.ensures.passes k p at in record {
  seen_so = starts_new p.seat _ k p.purse.free.items p.share n.knows n.purse.free n.share_is;
}
