use Rattle.std.proofs.Common.{Bool, subst}
use Rattle.pp_base.specs.Passes.{known, view}
use Rattle.pp_tree_calls.specs.Purses.{TwoRecords, Leaves}
use Rattle.pp_tree_calls.proofs.Closing.{ended}
use Rattle.pp_turns.proofs.Resting.{four_chains}
use Rattle.std.proofs.Common.{◌∙◌}
use Rattle.pp_seek.proofs.LoneSpots.{sees_of}
use Rattle.pp_tree_calls.proofs.Alone.{leaves_bare}
use Rattle.pp_tree_calls.proofs.parts.end.Goals as goal

pub returns-clause-ended : goal.returns-clause-ended
returns-clause-ended c = let old = c.args.pass.now in let new = c.finish.new.pass in let z = c.args.pool.now.layout in
    ended z old.share c.args.going.now.races c.args.going.now.call c.args.going.now.records (view old.seat)
    (view new.seat) old.purse new.purse
    (subst (λ (b : Bool). Leaves b z old.share c.args.going.now.records (view old.seat) (view new.seat) old.purse new.purse)
    c.looks-looks.ensures (subst (λ (f : TwoRecords). Leaves c.looks-looks.result z old.share f (view old.seat) (view new.seat) old.purse
    new.purse) c.take-records.ensures.value c.finish.ensures.leaves)) c.finish.ensures.same.sizes
    (four_chains (known new.seat) new.purse new.keeping.chains new.keeping.few) c.args.answer

pub returns-clause-alone : goal.returns-clause-alone
returns-clause-alone c = λ one bare. let z = c.args.pool.now.layout in let old = c.args.pass.now in let new = c.finish.new.pass in
    leaves_bare z (view old.seat) (view new.seat) (sees_of z old.seat _ _ _ _ old.keeping old.run c.requires.fits.sizes)
    (sees_of z new.seat _ _ _ _ new.keeping new.run (c.finish.ensures.same.sizes ∙ c.requires.fits.sizes)) one c.looks-looks.result
    old.share _
    old.purse new.purse c.finish.ensures.leaves bare
