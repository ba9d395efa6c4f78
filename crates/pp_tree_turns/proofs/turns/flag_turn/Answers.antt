use Rattle.pp_base.specs.Passes.{known, view}
use Rattle.pp_tree_turns.proofs.Exchanges.{missed_edge, parent_far, flags_leaf}
use Rattle.std.proofs.Common.{◌∙◌}
use Rattle.pp_link.specs.Links.{word_of}
use Rattle.pp_model.specs.Calls.{key_of}
use Rattle.pp_seek.proofs.LoneSpots.{sees_of}
use Rattle.pp_tree_turns.proofs.Adding.{plain_leaf}
use Rattle.pp_tree_turns.proofs.LoneTurns.{flagged_lone, never_missed, read_calm, none_some}
use Rattle.pp_tree_turns.proofs.turns.flag_turn.Goals as goal

pub returns-in-Done-clause-flagged : goal.returns-in-Done-clause-flagged
returns-in-Done-clause-flagged c = flags_leaf c.args.pool.now.layout c.args.sought _ c.value.result (view c.args.pass.now.seat)
    c.flag.new.pass.seat c.value.new.pass.seat c.requires.may c.in-Done.ensures.flagged c.value.ensures.read c.value.ensures.value

pub returns-in-Changed-clause-flagged : goal.returns-in-Changed-clause-flagged
returns-in-Changed-clause-flagged c = let z = c.args.pool.now.layout in let s = c.args.sought in let v = view c.args.pass.now.seat in
    missed_edge z _ _ _ v (view c.flag.new.pass.seat) (parent_far z v.known s.parent s.side c.requires.may.sought.parent_is)
    c.in-Changed.ensures.flagged

pub returns-in-Done-clause-alone : goal.returns-in-Done-clause-alone
returns-in-Done-clause-alone c = λ l. let z = c.args.pool.now.layout in let s = c.args.sought in let old = c.args.pass.now in
    let mid = c.flag.new.pass in let new = c.value.new.pass in let may = c.requires.may in
    let sv = sees_of z old.seat _ _ _ _ old.keeping old.run c.requires.fits.sizes in
    let size_u = c.flag.ensures.same.sizes ∙ c.requires.fits.sizes in
    let su = sees_of z mid.seat _ _ _ _ mid.keeping mid.run size_u in
    let sw = sees_of z new.seat _ _ _ _ new.keeping new.run (c.value.ensures.same.sizes ∙ size_u) in
    let r = read_calm z s.word c.value.result mid.seat new.seat su sw l.lone.one c.value.ensures.read in (
      none_some c.value.result,
      λ other opposite. flagged_lone z (key_of (known old.seat).own.call) s (view old.seat) (view mid.seat) (view new.seat)
          sv su sw may.sought l c.in-Done.ensures.flagged r.0 r.1
          (plain_leaf (word_of s.edge) may.sought.edge.0 may.sought.edge.1 may.plain.0 may.plain.1) other opposite,
    )

pub returns-in-Changed-clause-alone : goal.returns-in-Changed-clause-alone
returns-in-Changed-clause-alone c = λ l. let z = c.args.pool.now.layout in let old = c.args.pass.now in let mid = c.flag.new.pass in
    absurd (never_missed z (key_of (known old.seat).own.call) c.args.sought (view old.seat) (view mid.seat) (view mid.seat)
    (sees_of z old.seat _ _ _ _ old.keeping old.run c.requires.fits.sizes)
    (sees_of z mid.seat _ _ _ _ mid.keeping mid.run (c.flag.ensures.same.sizes ∙ c.requires.fits.sizes))
    (sees_of z mid.seat _ _ _ _ mid.keeping mid.run (c.flag.ensures.same.sizes ∙ c.requires.fits.sizes)) c.requires.may.sought l
    c.in-Changed.ensures.flagged)
