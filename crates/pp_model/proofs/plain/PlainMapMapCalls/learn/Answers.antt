use Rattle.std.proofs.Common.{sym, subst}
use Rattle.pp_model.specs.Pass.{PassView}
use Rattle.pp_model.specs.MapCalls.{Learns}
use Rattle.pp_model.specs.Plain.{plain_note, PlainLearnable}
use Rattle.pp_model.proofs.PlainPasses.{plain_learns}
use Rattle.pp_model.proofs.plain.PlainMapMapCalls.learn.Goals as goal

pub returns-clause-learnt : goal.returns-clause-learnt
returns-clause-learnt c = let pass = c.pass.inside in
    subst (λ (v : PassView). Learns (plain_note c.args._note) v v) c.pass.view_is
    (plain_learns pass.records pass.calls pass.pairs.items pass.placed.items c.args._note
    (subst (λ (v : PassView). PlainLearnable v c.args._note) (sym c.pass.view_is) c.requires.learnable))
