use Rattle.std.proofs.Common.{arith, ◌≡◌, length, Some, refl}
use Rattle.std.specs.Prelude.{slice_get}
use Rattle.std.proofs.lemmas.Option.{slice_get_read}
use Rattle.pp_schedule.proofs.Moved.{set_shown}
use Rattle.pp_planned.proofs.Openings.{noted_opened, noted_learns, tells_nothing}
use Rattle.pp_planned.proofs.callers.first_note.Goals as goal

pub returns-clause-passes : goal.returns-clause-passes
returns-clause-passes g c =
    let n = c.note.ensures in
    let ps = c.args.passes.now.items in
    let x = c.index_mut.result.now in
    let at : slice_get ps 0 ≡ Some x = slice_get_read ps (length ps) 0 x refl
    (omega (arith, c.requires.some)) c.index_mut.ensures.value in
    noted_opened (g.M.MapCalls.Belongs c.args.map.now) g.M.MapCalls.Idle g.M.MapCalls.pass_view (g.M.MapCalls.Learnable c.args.map.now)
    c.note.result (λ p q own other apart can. g.met.M.MapCalls.others_learn c.args.map.now p q c.note.result own other apart can)
    ps x c.note.new.pass c.requires.passes at n.belongs (n.idle (c.requires.passes 0 x at).1) n.same n.learnable

pub returns-clause-same : goal.returns-clause-same
returns-clause-same g c =
    let n = c.note.ensures in
    let ps = c.args.passes.now.items in
    let x = c.index_mut.result.now in
    let at : slice_get ps 0 ≡ Some x = slice_get_read ps (length ps) 0 x refl
    (omega (arith, c.requires.some)) c.index_mut.ensures.value in
    set_shown g.M.MapCalls.pass_view ps 0 x c.note.new.pass at n.same

pub returns-clause-nothing : goal.returns-clause-nothing
returns-clause-nothing g c =
    let n = c.note.ensures in
    let ps = c.args.passes.now.items in
    let x = c.index_mut.result.now in
    let at : slice_get ps 0 ≡ Some x = slice_get_read ps (length ps) 0 x refl
    (omega (arith, c.requires.some)) c.index_mut.ensures.value in
    tells_nothing _ _ _ n.noted n.same (c.requires.passes 0 x at).2.fresh

pub returns-clause-learnable : goal.returns-clause-learnable
returns-clause-learnable g c =
    let n = c.note.ensures in
    let ps = c.args.passes.now.items in
    let x = c.index_mut.result.now in
    let at : slice_get ps 0 ≡ Some x = slice_get_read ps (length ps) 0 x refl
    (omega (arith, c.requires.some)) c.index_mut.ensures.value in
    noted_learns (g.M.MapCalls.Belongs c.args.map.now) g.M.MapCalls.Idle g.M.MapCalls.pass_view (g.M.MapCalls.Learnable c.args.map.now)
    c.note.result (λ p q own other apart can. g.met.M.MapCalls.others_learn c.args.map.now p q c.note.result own other apart can)
    ps x c.note.new.pass c.requires.passes at n.belongs (n.idle (c.requires.passes 0 x at).1) n.same n.learnable
