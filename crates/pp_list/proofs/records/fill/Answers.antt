use Rattle.std.proofs.Common.{refl}
use Rattle.pp_base.specs.Passes.{view}
use Rattle.pp_list.proofs.Filling.{fills, writes}
use Rattle.pp_list.proofs.records.fill.Goals as goal

pub returns-clause-fills : goal.returns-clause-fills
returns-clause-fills c = let w = c.set_value.ensures.wrote in let pass = c.set_link-2.new.pass in
    fills c.args.pool.now.layout c.args.fresh.now.number c.args.pair.0 c.args.pair.1 _ _ _ _ _ _ _ (view c.args.pass.now.seat)
    (view c.set_key.new.pass.seat) (view w.middle) (view c.set_value.new.pass.seat) (view c.set_link.new.pass.seat) (view pass.seat)
    c.set_key.ensures.wrote w.low w.high c.set_link.ensures.wrote c.set_link-2.ensures.wrote
    c.set_key.new.pass.keeping.pass.owned_once pass.purse c.args.end c.set_link-2.ensures.private refl

pub returns-clause-writes : goal.returns-clause-writes
returns-clause-writes c = let w = c.set_value.ensures.wrote in let pass = c.set_link-2.new.pass in
    writes c.args.pool.now.layout c.args.fresh.now.number c.args.pair.0 c.args.pair.1 _ _ _ _ _ _ _ (view c.args.pass.now.seat)
    (view c.set_key.new.pass.seat) (view w.middle) (view c.set_value.new.pass.seat) (view c.set_link.new.pass.seat) (view pass.seat)
    c.set_key.ensures.wrote w.low w.high c.set_link.ensures.wrote c.set_link-2.ensures.wrote
    c.set_key.new.pass.keeping.pass.owned_once
