use Rattle.std.proofs.Common.{arith}
use Rattle.pp_link.specs.Links.{word_of}
use Rattle.pp_base.specs.Row.{has_flag}
use Rattle.pp_base.specs.declared.source.Side.TheVariants.{Left}
use Rattle.pp_base.specs.declared.source.Place.TheVariants.{Walk}
use Rattle.pp_hazard.proofs.Resting.{rest_loaded}
use Rattle.pp_scenes.proofs.Learning.{grown_loaded}
use Rattle.pp_scenes.proofs.detaching.hold_and_load.Goals as goal

pub returns-clause-rest : goal.returns-clause-rest
returns-clause-rest g c = let held = c.hold.new.pass in let now = c.link.new.pass in
    rest_loaded c.args.pool.now.layout has_flag (Walk c.args.word) Left (word_of c.link.result) held.seat now.seat held.purse now.purse
    c.link.ensures.loaded c.link.ensures.purse (c.hold.ensures.rest c.requires.rest)

pub returns-clause-learnt : goal.returns-clause-learnt
returns-clause-learnt g c = let held = c.hold.new.pass in let now = c.link.new.pass in
    grown_loaded 1 c.args.pool.now.layout has_flag (Walk c.args.word) Left c.args.word
    (word_of c.link.result) c.args.pass.now.seat held.seat now.seat
    held.keeping.pass.five (c.requires.word, omega arith, c.hold.ensures.holds.held c.args.word (omega arith) c.requires.word)
    c.hold.ensures.learnt c.link.ensures.loaded
