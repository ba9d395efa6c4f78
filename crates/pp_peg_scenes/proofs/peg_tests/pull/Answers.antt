use Rattle.std.proofs.Common.{◌≡◌, ◌*◌, sym, ap, ◌∙◌, arith}
use Rattle.pp_link.specs.Links.{word_of, target}
use Rattle.pp_base.specs.Passes.{known}
use Rattle.pp_base.proofs.Chaining.{word_target}
use Rattle.pp_base.specs.declared.source.Side.TheVariants.{Left}
use Rattle.pp_base.specs.declared.source.Place.TheVariants.{Walk}
use Rattle.pp_base.specs.Row.{has_flag}
use Rattle.pp_hazard.proofs.Resting.{rest_but, rest_loaded}
use Rattle.pp_peg_scenes.proofs.Pulling.{may_pull}
use Rattle.pp_peg_scenes.proofs.peg_tests.pull.Goals as goal

pub try_unlink-answer-requires-clause-rest : goal.try_unlink-answer-requires-clause-rest
try_unlink-answer-requires-clause-rest g c = let before = c.args.pass.now in let holding = c.try_protect.new.pass in
    let now = c.link-learnt.new.pass in
    rest_loaded c.args.pool.now.layout has_flag (Walk 0) Left (word_of c.link-learnt.result) holding.seat now.seat holding.purse now.purse
    c.link-learnt.ensures.loaded c.link-learnt.ensures.purse
    (rest_but 0 (known before.seat) (known holding.seat) before.purse holding.purse c.in-Confirmed.ensures.others
    c.in-Confirmed.ensures.purse c.requires.rest)

pub try_unlink-answer-requires-clause-may : goal.try_unlink-answer-requires-clause-may
try_unlink-answer-requires-clause-may g c = let holding = c.try_protect.new.pass in
    let first_is : word_of c.in-Confirmed.first ≡ 16 * c.args.peg = omega arith in
    let leads : target (16 * c.args.peg) ≡ c.args.peg = omega arith in
    may_pull c.args.pool.now.layout c.args.peg (word_of c.in-Confirmed.first) (word_of c.pack-past.result)
    (word_of c.link-learnt.result)
    holding.seat c.link-learnt.new.pass.seat holding.keeping.pass.five c.link-learnt.ensures.loaded (omega arith)
    c.in-Confirmed.ensures.word.0
    (c.in-Confirmed.ensures.word.1 ∙ (sym (word_target c.in-Confirmed.first) ∙ (ap target first_is ∙ leads)))
    c.requires.some_is c.requires.few first_is (ap word_of c.pack-past.ensures ∙ omega arith)

pub returns-clause-rest : goal.returns-clause-rest
returns-clause-rest g c = let before = c.try_unlink-answer.new.pass in let now = c.clear.new.pass in
    rest_but 0 (known before.seat) (known now.seat) before.purse now.purse c.clear.ensures.others c.clear.ensures.purse
    c.try_unlink-answer.ensures.rest
