-- The record's key was read, and the walk comes on by it.
use Rattle.std.proofs.Common.{refl, sym, ap, ◌∙◌, subst}
use Rattle.pp_rule.specs.Views.{slot}
use Rattle.pp_base.specs.Passes.{view}
use Rattle.pp_lists.specs.Lists.{ListPass}
use Rattle.pp_walk.specs.Parts.{Holds}
use Rattle.pp_walk.proofs.Here.{here_after, read_quiet, read_known}
use Rattle.pp_walk.proofs.walk.change_here.Goals as goal

pub pass_here-requires-clause-holds : goal.pass_here-requires-clause-holds
pass_here-requires-clause-holds c = subst (λ (q : ListPass). Holds c.args.pool.now.layout q c.args.walk.call c.args.walk.anchor
    c.args.word)
    (sym (read_known c.args.word 0 c.read-key.result _ (view c.args.pass.now.seat)
    (view c.read-key.new.pass.seat) c.read-key.ensures.read))
    c.requires.holds

pub stop_here-requires-clause-holds : goal.stop_here-requires-clause-holds
stop_here-requires-clause-holds c = subst (λ (q : ListPass). Holds c.args.pool.now.layout q c.args.walk.call c.args.walk.anchor
    c.args.word)
    (sym (read_known c.args.word 0 c.read-key.result _ (view c.args.pass.now.seat)
    (view c.read-key.new.pass.seat) c.read-key.ensures.read))
    c.requires.holds

pub pass_here-requires-clause-key : goal.pass_here-requires-clause-key
pass_here-requires-clause-key c = let r = c.read-key.ensures.read in r.key refl ∙ ap (λ (q : ListPass). (slot q c.args.word).key)
    (sym (read_known c.args.word 0 c.read-key.result _ (view c.args.pass.now.seat) (view c.read-key.new.pass.seat) r))

pub stop_here-requires-clause-key : goal.stop_here-requires-clause-key
stop_here-requires-clause-key c = let r = c.read-key.ensures.read in r.key refl ∙ ap (λ (q : ListPass). (slot q c.args.word).key)
    (sym (read_known c.args.word 0 c.read-key.result _ (view c.args.pass.now.seat) (view c.read-key.new.pass.seat) r))

pub returns-then-key-key_for-clause-came : goal.returns-then-key-key_for-clause-came
returns-then-key-key_for-clause-came c = let v = view c.args.pass.now.seat in let v1 = view c.read-key.new.pass.seat in
    let r = c.read-key.ensures.read in
    here_after c.args.pool.now.layout c.args.walk c.args.word v v1 (view c.pass_here.new.pass.seat) c.pass_here.result
    (read_known c.args.word 0 c.read-key.result _ v v1 r) (read_quiet c.args.word 0 c.read-key.result _ v v1 r) c.pass_here.ensures.came

pub returns-clause-came : goal.returns-clause-came
returns-clause-came c = let v = view c.args.pass.now.seat in let v1 = view c.read-key.new.pass.seat in
    let r = c.read-key.ensures.read in
    here_after c.args.pool.now.layout c.args.walk c.args.word v v1 (view c.stop_here.new.pass.seat) c.stop_here.result
    (read_known c.args.word 0 c.read-key.result _ v v1 r) (read_quiet c.args.word 0 c.read-key.result _ v v1 r) c.stop_here.ensures.came
