use Rattle.std.proofs.Common.{◌∙◌}
use Rattle.pp_base.specs.Passes.{known, view}
use Rattle.pp_calls.specs.PoolViews.{pass_view}
use Rattle.pp_calls.proofs.Purses.{same_share, has_own}
use Rattle.pp_model.specs.Pass.{PassView}
use Rattle.pp_ends.specs.Ends.{map_sizes}
use Rattle.pp_turns.specs.Turned.{TurnClauses}
use Rattle.pp_seek.proofs.LoneSpots.{sees_of}
use Rattle.pp_tree_calls.specs.Going.{going_of}
use Rattle.pp_tree_turns.specs.Causes.{tree_meaning}
use Rattle.pp_tree.specs.Trees.{IsCalling}
use Rattle.pp_tree.proofs.Turning.{clauses}
use Rattle.pp_tree.proofs.calls.TreeMapCalls.turn.Goals as goal

pub turn-requires-clause-under : goal.turn-requires-clause-under
turn-requires-clause-under c = let b = c.requires.going.1 in (b.from, (b.free, b.under.0))

all_clauses : (c : goal.After-turn) → TurnClauses tree_meaning (map_sizes c.args.self.now.pool.layout)
    (going_of (known c.args.pass.now.seat) c.args.going.now) (going_of (known c.turn.new.pass.seat) c.turn.new.self)
    (pass_view c.args.pass.now) (pass_view c.turn.new.pass) c.turn.result
    (λ (before : PassView). IsCalling c.args.self.now.pool.layout c.args.pass.now c.args.going.now before)
    (λ (before : PassView). IsCalling c.args.self.now.pool.layout c.turn.new.pass c.turn.new.self before)
all_clauses c = let z = c.args.self.now.pool.layout in let old = c.args.pass.now in let new = c.turn.new.pass in
    let same = c.turn.ensures.same in
    clauses z old.share c.args.going.now c.turn.new.self (view old.seat) (view new.seat) old.purse new.purse c.turn.result new.share
    (same_share 5 2 old.seat new.seat _ _ _ _ _ _ _ _ old.keeping new.keeping same)
    (has_own 5 _ _ new.seat new.keeping.lone new.run) same.sizes c.requires.belongs.stands
    (sees_of z new.seat _ _ _ _ new.keeping new.run (same.sizes ∙ c.requires.belongs.fits.sizes)) c.turn.ensures.turned
    c.turn.ensures.alone

pub returns-clause-made : goal.returns-clause-made
returns-clause-made c = (all_clauses c).made

pub returns-clause-going : goal.returns-clause-going
returns-clause-going c = (all_clauses c).going

pub returns-clause-counted : goal.returns-clause-counted
returns-clause-counted c = (all_clauses c).counted

pub returns-clause-answered : goal.returns-clause-answered
returns-clause-answered c = (all_clauses c).answered
