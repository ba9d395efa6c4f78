-- How the parts of a turn come together after its first load.
use Rattle.std.proofs.Common.{sym, ap, ◌∙◌}
use Rattle.pp_base.specs.declared.source.Side.TheVariants.{Left}
use Rattle.pp_base.specs.Passes.{view}
use Rattle.pp_base.specs.Sources.{source_place}
use Rattle.pp_walk.specs.Parts.{word_in}
use Rattle.pp_walk.proofs.On.{on_held, on_moved, on_broken}
use Rattle.pp_walk.proofs.walk.come_on.Goals as goal

pub hold_next-second-requires-clause-word : goal.hold_next-second-requires-clause-word
hold_next-second-requires-clause-word c = let s = c.spare-word.ensures.other in (
  c.spare-word.ensures.low,
  (λ e. s.0 (ap word_in e ∙ sym c.word_of.ensures)),
  (λ e. s.1 (ap word_in e ∙ sym c.word_of-2.ensures)),
  s.2,
)

pub look_here-requires-clause-holds : goal.look_here-requires-clause-holds
look_here-requires-clause-holds c = (c.hold_next-second.ensures.held c.if-second-first.false).holds

pub change_here-requires-clause-holds : goal.change_here-requires-clause-holds
change_here-requires-clause-holds c = (c.hold_next-second.ensures.held c.if-second-first.false).holds

pub returns-clause-on : goal.returns-clause-on
returns-clause-on c = let z = c.args.pool.now.layout in let v = view c.args.pass.now.seat in
    on_held z c.args.walk c.spare-word.result (source_place z v.known c.args.walk.at Left) c.args.first v
    (view c.hold_next-second.new.pass.seat)
    (view c.change_here.new.pass.seat) c.change_here.result (c.hold_next-second.ensures.held c.if-second-first.false)
    c.change_here.ensures.came

pub returns-then-looks-2-clause-on : goal.returns-then-looks-2-clause-on
returns-then-looks-2-clause-on c = let z = c.args.pool.now.layout in let v = view c.args.pass.now.seat in
    on_held z c.args.walk c.spare-word.result (source_place z v.known c.args.walk.at Left) c.args.first v
    (view c.hold_next-second.new.pass.seat)
    (view c.look_here.new.pass.seat) c.look_here.result (c.hold_next-second.ensures.held c.if-second-first.false) c.look_here.ensures.came

pub returns-then-second-first-clause-on : goal.returns-then-second-first-clause-on
returns-then-second-first-clause-on c = let z = c.args.pool.now.layout in let v = view c.args.pass.now.seat in
    on_broken z c.args.walk (source_place z v.known c.args.walk.at Left) c.args.first v (view c.hold_next-second.new.pass.seat)
    (view c.rest.new.pass.seat) (c.hold_next-second.ensures.moved c.if-second-first.true) c.rest.ensures.cleared c.rest.ensures.idles

pub returns-then-not-invalid-clause-on : goal.returns-then-not-invalid-clause-on
returns-then-not-invalid-clause-on c = let z = c.args.pool.now.layout in let v = view c.args.pass.now.seat in
    on_moved z c.args.walk (source_place z v.known c.args.walk.at Left) c.args.first v (view c.hold_next-second.new.pass.seat)
    (sym c.looks.ensures ∙ c.if-looks.true) (c.hold_next-second.ensures.moved c.if-second-first.true)
