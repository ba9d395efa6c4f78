use Rattle.std.proofs.Common.{refl}
use Rattle.pp_pool.proofs.Dealt.{new_pass_of}
use Rattle.pp_pool.proofs.opening.make_pool.Goals as goal

pub returns-clause-passes : goal.returns-clause-passes
returns-clause-passes g c = let table = c.in-Ok-make_table.pool.table.shared.table_id in
    λ k p at. new_pass_of table table c.in-Ok-make_table.pool.layout c.args.sizes k k p refl
    c.in-Ok-make_table.ensures.sizes refl (c.deal_passes.ensures.passes k p at)
