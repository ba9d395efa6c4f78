use Rattle.std.proofs.Common.{◌∙◌, ap}
use Rattle.pp_pool.proofs.Noting.{learnt_keeping, learnt_same, has_learnt}
use Rattle.pp_pool.proofs.notes.learn.Goals as goal

pub invariant_of-pass : goal.invariant_of-pass
invariant_of-pass g c = let pass = c.args.pass.now in record {
  keeping = learnt_keeping c.args.note.seat pass.seat c.meet_seat.new.seat c.learn_orders.new.seat pass.keeping.lone c.meet_seat.ensures.met
      c.learn_orders.ensures.slots c.learn_orders.ensures.learnt _ _ _ _ _ _ pass.keeping;
  run = c.learn_orders.ensures.run;
}

pub returns-clause-same : goal.returns-clause-same
returns-clause-same g c = let pass = c.args.pass.now in
    let is = learnt_same c.args.note.seat pass.seat c.meet_seat.new.seat c.learn_orders.new.seat pass.keeping.lone c.meet_seat.ensures.met
    c.learn_orders.ensures.slots c.learn_orders.ensures.learnt in record {
      table_is = c.learn_orders.ensures.table ∙ c.meet_seat.ensures.table;
      number = ap (λ q. q.number) is;
      sizes = ap (λ q. q.sizes) is;
    }

pub returns-clause-learnt : goal.returns-clause-learnt
returns-clause-learnt g c = let pass = c.args.pass.now in
    has_learnt c.args.note.seat pass.seat c.meet_seat.new.seat c.learn_orders.new.seat pass.keeping.lone c.meet_seat.ensures.met
    c.learn_orders.ensures.slots c.learn_orders.ensures.learnt
