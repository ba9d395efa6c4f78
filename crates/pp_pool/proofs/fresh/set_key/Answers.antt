use Rattle.pp_pool.proofs.Taking.{owned_wrote, private_wrote}
use Rattle.pp_pool.proofs.fresh.set_key.Goals as goal

pub returns-clause-owned : goal.returns-clause-owned
returns-clause-owned g c = owned_wrote c.args.pass.now.seat c.write.new.pass.seat _ _ _ _ c.write.ensures.wrote

pub returns-clause-private : goal.returns-clause-private
returns-clause-private g c = private_wrote c.args.pass.now.seat c.write.new.pass.seat _ _ _ _ c.args.fresh.now.number
    c.args.pass.now.purse c.write.new.pass.purse c.write.ensures.wrote c.write.ensures.purse c.requires.private
