use Rattle.std.proofs.Common.{ap, ◌∙◌, refl}
use Rattle.std.proofs.lemmas.Option.{slice_get_read}
use Rattle.pp_base.specs.declared.purse.Purse.{Purse}
use Rattle.pp_scenes.proofs.Scenes.{each_set}
use Rattle.pp_scenes.proofs.noted.learn_by.Goals as goal

pub returns-clause-passes : goal.returns-clause-passes
returns-clause-passes c = let passes = c.args.passes.now.items in let before = c.index_mut.result.now in
    let was = c.requires.passes c.args.pass before
    (slice_get_read passes _ c.args.pass before refl c.requires.pass c.index_mut.ensures.value) in
    let same = c.learn.ensures.same in let purse = c.learn.ensures.purse in
    each_set _ passes c.args.pass c.learn.new.pass c.requires.passes (
      (
        record { table_is = same.table_is ∙ was.0.0.table_is; sizes = same.sizes ∙ was.0.0.sizes },
        same.number ∙ was.0.1,
      ),
      (
        c.learn.ensures.walk ∙ was.1.0,
        ap (λ (r : Purse). r.going) purse ∙ was.1.1,
        ap (λ (r : Purse). r.taken) purse ∙ was.1.2,
      ),
    )
