use Rattle.std.proofs.Common.{subst}
use Rattle.pp_model.specs.Lists.{AtEach}
use Rattle.pp_list_scenes.specs.Staff.{IsReady}
use Rattle.pp_list_scenes.proofs.Staying.{each_before, each_last}
use Rattle.pp_list_scenes.proofs.staging.last_pass.Goals as goal

pub returns-clause-ready : goal.returns-clause-ready
returns-clause-ready g c = let t = c.args.table.now in let s = c.take_last in
    each_before (λ p. IsReady t p) s.new.passes.items s.result
    (subst (λ l. AtEach l (λ k p. IsReady t p)) s.ensures c.requires.ready)

pub returns-clause-last : goal.returns-clause-last
returns-clause-last g c = let t = c.args.table.now in let s = c.take_last in
    each_last (λ p. IsReady t p) s.new.passes.items s.result
    (subst (λ l. AtEach l (λ k p. IsReady t p)) s.ensures c.requires.ready)
