use Rattle.std.proofs.Common.{◌≤◌, refl, arith}
use Rattle.pp_pool.proofs.Taking.{last_is, keeping_gave, private_room, private_out}
use Rattle.pp_pool.proofs.fresh.give_back.Goals as goal

pub unwrap-requires : goal.unwrap-requires
unwrap-requires g c = let pass = c.args.pass.now in let long = pass.purse.free.ok.0 in
    let room = private_room g.S.Shape.SENTINELS g.S.Shape.SIDES pass.seat _ _ _ pass.purse pass.keeping c.args.fresh.number c.requires in
    c.push.ensures.succeeds (omega arith)

pub overflow_sub-pass : goal.overflow_sub-pass
overflow_sub-pass g c = let pass = c.args.pass.now in
    private_out g.S.Shape.SENTINELS g.S.Shape.SIDES pass.seat _ _ _ pass.purse pass.keeping c.args.fresh.number c.requires

pub invariant_of-pass : goal.invariant_of-pass
invariant_of-pass g c = let pass = c.args.pass.now in record {
  keeping = keeping_gave g.S.Shape.SENTINELS g.S.Shape.SIDES pass.seat _ _ _ pass.purse pass.keeping c.push.new.self c.args.fresh.number
      c.requires (last_is pass.purse.free.items c.push.new.self.items c.args.fresh.number _ _ c.push.ensures.items c.unwrap.ensures)
      c.push.ensures.capacity;
  run = pass.run;
}

pub returns-clause-purse : goal.returns-clause-purse
returns-clause-purse g c = let pass = c.args.pass.now in
    let out : 1 ≤ pass.purse.taken = private_out g.S.Shape.SENTINELS g.S.Shape.SIDES pass.seat _ _ _ pass.purse pass.keeping
    c.args.fresh.number c.requires in record {
      free = last_is pass.purse.free.items c.push.new.self.items c.args.fresh.number _ _ c.push.ensures.items c.unwrap.ensures;
      room = c.push.ensures.capacity;
      retired_are = refl;
      spent = refl;
      chains = refl;
      frontier = refl;
      taken = omega arith;
      going = refl;
    }
