use Rattle.std.proofs.Common.{subst}
use Rattle.pp_base.specs.Passes.{known, view}
use Rattle.pp_base.specs.Row.{has_flag}
use Rattle.pp_base.specs.declared.source.Side.TheVariants.{Left}
use Rattle.pp_link.specs.Links.{word_of}
use Rattle.pp_hazard.specs.Protection.{Answered, Protects}
use Rattle.pp_hazard.proofs.Resting.{rest_but}
use Rattle.pp_scenes.proofs.Learning.{grown_held}
use Rattle.pp_scenes.proofs.tests.hold.Goals as goal

pub returns-clause-learnt : goal.returns-clause-learnt
returns-clause-learnt g c = let pass = c.args.pass.now in let z = c.args.pool.now.layout in
    let held : Protects z has_flag (λ i own. own) c.args.source Left c.args.word (view pass.seat)
    (view c.try_protect.new.pass.seat) (word_of c.in-Confirmed.link) =
    subst (λ a. Answered z has_flag (λ i own. own) c.args.source Left c.args.word (view pass.seat) (view c.try_protect.new.pass.seat) a)
    c.in-Confirmed.is c.try_protect.ensures.answered in
    grown_held 1 z has_flag c.args.source Left c.args.word (word_of c.in-Confirmed.link) _ (known pass.seat)
    (known c.try_protect.new.pass.seat) pass.keeping.pass.five c.requires.readable held.known

pub returns-clause-rest : goal.returns-clause-rest
returns-clause-rest g c = rest_but c.args.word (known c.args.pass.now.seat) (known c.try_protect.new.pass.seat) c.args.pass.now.purse
    c.try_protect.new.pass.purse c.try_protect.ensures.others c.try_protect.ensures.purse
