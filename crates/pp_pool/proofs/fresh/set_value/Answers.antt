use Rattle.std.proofs.Common.{◌∙◌, arith}
use Rattle.pp_base.specs.Passes.{known}
use Rattle.pp_pool.specs.Taken.{IsPrivate}
use Rattle.pp_pool.proofs.Taking.{owned_wrote, private_wrote}
use Rattle.pp_pool.proofs.fresh.set_value.Goals as goal

-- after the low half the record is still private
pub write-requires-2-clause-owned : goal.write-requires-2-clause-owned
write-requires-2-clause-owned g c =
    let private : IsPrivate (known c.write.new.pass.seat) c.write.new.pass.purse c.args.fresh.now.number =
    private_wrote c.args.pass.now.seat c.write.new.pass.seat _ _ _ _ c.args.fresh.now.number
    c.args.pass.now.purse c.write.new.pass.purse c.write.ensures.wrote c.write.ensures.purse c.requires.private in omega arith

pub returns-clause-owned : goal.returns-clause-owned
returns-clause-owned g c = owned_wrote c.write.new.pass.seat c.write-2.new.pass.seat _ _ _ _ c.write-2.ensures.wrote
    ∙ owned_wrote c.args.pass.now.seat c.write.new.pass.seat _ _ _ _ c.write.ensures.wrote

pub returns-clause-private : goal.returns-clause-private
returns-clause-private g c = private_wrote c.write.new.pass.seat c.write-2.new.pass.seat _ _ _ _ c.args.fresh.now.number
    c.write.new.pass.purse c.write-2.new.pass.purse c.write-2.ensures.wrote c.write-2.ensures.purse
    (private_wrote c.args.pass.now.seat c.write.new.pass.seat _ _ _ _ c.args.fresh.now.number
    c.args.pass.now.purse c.write.new.pass.purse c.write.ensures.wrote c.write.ensures.purse c.requires.private)
