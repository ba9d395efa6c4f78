use Rattle.std.proofs.Common.{◌/◌, ◌%◌, ◌^◌}
use Rattle.pp_base.specs.Passes.{view}
use Rattle.pp_link.specs.Links.{word_of}
use Rattle.pp_tree_turns.proofs.Written.{filled, both_halves}
use Rattle.pp_tree_turns.proofs.filling.fill.Goals as goal

pub returns-clause-filled : goal.returns-clause-filled
returns-clause-filled c = let w = c.set_value.ensures.wrote in let value = c.args.value in
    filled c.args.fresh.now.number c.args.key (value % 2 ^ 64) (value / 2 ^ 64) (word_of c.args.left) (word_of c.args.right) _ _ _ _ _
    (view c.args.pass.now.seat) (view c.set_key.new.pass.seat) (view w.middle) (view c.set_value.new.pass.seat)
    (view c.set_link.new.pass.seat) (view c.set_link-2.new.pass.seat)
    c.set_key.ensures.wrote w.low w.high c.set_link.ensures.wrote c.set_link-2.ensures.wrote c.args.pass.now.keeping.pass.owned_once
    value (both_halves value)
