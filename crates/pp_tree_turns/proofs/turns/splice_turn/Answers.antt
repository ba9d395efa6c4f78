use Rattle.std.proofs.Common.{refl, ◌∙◌}
use Rattle.pp_base.specs.Passes.{known, view}
use Rattle.pp_tree_turns.proofs.Exchanges.{misses_path, takes_path, few_chains, walk_far, rest_cleared}
use Rattle.pp_seek.proofs.LoneSpots.{sees_of}
use Rattle.pp_tree_turns.proofs.LoneSplices.{splice_finds, spliced_bare}
use Rattle.pp_tree_turns.proofs.turns.splice_turn.Goals as goal

pub returns-in-Detached-clause-spliced : goal.returns-in-Detached-clause-spliced
returns-in-Detached-clause-spliced c = let pass = c.args.pass.now in let s = c.args.sought in
    takes_path c.args.pool.now.layout s.ancestor s.ancestor_side _ _ s.word _ (view pass.seat)
    (view c.splice.new.pass.seat) (view c.clear_after.new.pass.seat) (few_chains
    (known pass.seat) pass.purse pass.keeping.chains pass.keeping.few)
    c.in-Detached.ensures.spliced (c.in-Detached.ensures.in_hand refl) c.clear_after.ensures.made c.clear_after.ensures.gone

pub returns-in-Detached-clause-rest : goal.returns-in-Detached-clause-rest
returns-in-Detached-clause-rest c = rest_cleared c.args.sought.word _ (view c.splice.new.pass.seat) (view c.clear_after.new.pass.seat)
    c.splice.new.pass.purse c.clear_after.new.pass.purse c.clear_after.ensures.purse c.clear_after.ensures.made c.in-Detached.ensures.rest

pub returns-in-Changed-clause-spliced : goal.returns-in-Changed-clause-spliced
returns-in-Changed-clause-spliced c = let pass = c.args.pass.now in let s = c.args.sought in let z = c.args.pool.now.layout in
    misses_path z s.ancestor s.ancestor_side _ _ _ (view pass.seat) (view c.splice.new.pass.seat)
    (few_chains (known pass.seat) pass.purse pass.keeping.chains pass.keeping.few)
    (walk_far z (known pass.seat) s.ancestor c.requires.may.ancestor s.ancestor_side c.requires.may.ancestor_is)
    c.in-Changed.ensures.spliced

pub returns-in-Detached-clause-alone : goal.returns-in-Detached-clause-alone
returns-in-Detached-clause-alone c = λ lone. let z = c.args.pool.now.layout in let s = c.args.sought in let old = c.args.pass.now in
    let mid = c.splice.new.pass in let new = c.clear_after.new.pass in let may = c.requires.may in
    let sizes = c.splice.ensures.same.sizes ∙ c.requires.fits.sizes in (
      refl,
      spliced_bare z s c.args.side c.args.sibling (view old.seat) (sees_of z old.seat _ _ _ _ old.keeping old.run c.requires.fits.sizes)
          (few_chains (known old.seat) old.purse old.keeping.chains old.keeping.few) may.ancestor may.ancestor_is
          may.may.word_low may.may.held lone (view mid.seat) (sees_of z mid.seat _ _ _ _ mid.keeping mid.run sizes)
          c.in-Detached.ensures.spliced s.word _ (view new.seat)
          (sees_of z new.seat _ _ _ _ new.keeping new.run (c.clear_after.ensures.same.sizes ∙ sizes)) c.clear_after.ensures.made
          (returns-in-Detached-clause-spliced c).gone,
    )

pub returns-in-Changed-clause-alone : goal.returns-in-Changed-clause-alone
returns-in-Changed-clause-alone c = λ lone. let z = c.args.pool.now.layout in let s = c.args.sought in let old = c.args.pass.now in
    let mid = c.splice.new.pass in let may = c.requires.may in
    absurd (splice_finds z s c.args.side c.args.sibling (view old.seat)
    (sees_of z old.seat _ _ _ _ old.keeping old.run c.requires.fits.sizes)
    (few_chains (known old.seat) old.purse old.keeping.chains old.keeping.few) may.ancestor may.ancestor_is
    may.may.word_low may.may.held lone _ (view mid.seat)
    (sees_of z mid.seat _ _ _ _ mid.keeping mid.run (c.splice.ensures.same.sizes ∙ c.requires.fits.sizes))
    c.in-Changed.ensures.spliced)
