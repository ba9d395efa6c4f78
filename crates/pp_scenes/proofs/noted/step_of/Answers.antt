use Rattle.std.proofs.Common.{◌∙◌, refl}
use Rattle.std.proofs.lemmas.Option.{slice_get_read}
use Rattle.pp_scenes.proofs.Scenes.{each_set, idle_cleared}
use Rattle.pp_scenes.proofs.noted.step_of.Goals as goal

pub returns-clause-passes : goal.returns-clause-passes
returns-clause-passes c = let passes = c.args.passes.now.items in let before = c.index_mut.result.now in
    let now = c.clear.new.pass in
    let was = c.requires.passes c.args.pass before
    (slice_get_read passes _ c.args.pass before refl c.requires.pass c.index_mut.ensures.value) in
    let same = c.clear.ensures.same in
    each_set _ passes c.args.pass now c.requires.passes (
      (
        record { table_is = same.table_is ∙ was.0.0.table_is; sizes = same.sizes ∙ was.0.0.sizes },
        same.number ∙ was.0.1,
      ),
      idle_cleared 3 1 c.args.pool.now.layout _ before.seat now.seat _ _ _ _ _ _ _ _ before.keeping now.keeping c.clear.ensures.made
          c.clear.ensures.purse was.1,
    )
