use Rattle.pp_base.specs.Passes.{known}
use Rattle.pp_pool.proofs.Taking.{last_was, keeping_took, private_taken}
use Rattle.pp_pool.proofs.fresh.take.Goals as goal

pub invariant_of-pass : goal.invariant_of-pass
invariant_of-pass g c = let pass = c.args.pass.now in let n = c.unwrap-number.result in record {
  keeping = keeping_took g.S.Shape.SENTINELS g.S.Shape.SIDES pass.seat _ _ _ pass.purse pass.keeping c.pop.new.self n _
      (last_was pass.purse.free.items c.pop.new.self.items n _ c.pop.ensures.items c.unwrap-number.ensures)
      c.pop.ensures.capacity c.saturating_add-pass.ensures;
  run = pass.run;
}

pub returns-clause-private : goal.returns-clause-private
returns-clause-private g c = let pass = c.args.pass.now in let n = c.unwrap-number.result in
    private_taken (known pass.seat) n pass.purse (record pass.purse { free = c.pop.new.self })
    (last_was pass.purse.free.items c.pop.new.self.items n _ c.pop.ensures.items c.unwrap-number.ensures) pass.keeping.free
