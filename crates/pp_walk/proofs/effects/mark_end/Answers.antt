-- The or-step, and the value behind it.
use Rattle.std.proofs.Common.{◌≡◌, sym, ap, ◌∙◌}
use Rattle.pp_link.specs.Links.{bit, flag_bit}
use Rattle.pp_link.specs.Places.{cell_place}
use Rattle.pp_rule.specs.declared.views.WalkSlot.{WalkSlot}
use Rattle.pp_rule.specs.Views.{slot}
use Rattle.pp_walk.specs.Parts.{plain_link}
use Rattle.pp_base.specs.Passes.{view}
use Rattle.pp_walk.proofs.Effecting.{flag_of, marks_none, marks_one, held_marked}
use Rattle.pp_walk.proofs.Lone.{lone_marks, sees_of}
use Rattle.pp_walk.proofs.effects.mark_end.Goals as goal

pub returns-then-flag-clause-marks : goal.returns-then-flag-clause-marks
returns-then-flag-clause-marks c = let v = view c.args.pass.now.seat in
    marks_none c.args.word (cell_place c.args.pool.now.layout (slot v.known c.args.word).named 2) c.mark-found.result c.args.call v
    (view c.mark-found.new.pass.seat)
    (ap flag_bit (sym c.unpacked-link.ensures.word) ∙ (flag_of c.unpacked-link.result ∙ ap bit (sym c.flag.ensures ∙ c.if-flag.true)))
    c.mark-found.ensures.marks

pub value-value-requires-clause-held : goal.value-value-requires-clause-held
value-value-requires-clause-held c = let v = view c.args.pass.now.seat in
    let plain : flag_bit c.mark-found.result ≡ 0 =
    ap flag_bit (sym c.unpacked-link.ensures.word) ∙ (flag_of c.unpacked-link.result ∙ ap bit (sym c.flag.ensures ∙ c.if-flag.false)) in
    ap (λ (s : WalkSlot). s.held) (held_marked c.args.word (cell_place c.args.pool.now.layout (slot v.known c.args.word).named 2)
    c.mark-found.result c.args.call v (view c.mark-found.new.pass.seat) plain c.mark-found.ensures.marks c.args.word) ∙ c.requires.held

pub returns-clause-marks : goal.returns-clause-marks
returns-clause-marks c = let v = view c.args.pass.now.seat in let r = c.value-value.ensures.read in
    let plain : flag_bit c.mark-found.result ≡ 0 =
    ap flag_bit (sym c.unpacked-link.ensures.word) ∙ (flag_of c.unpacked-link.result ∙ ap bit (sym c.flag.ensures ∙ c.if-flag.false)) in
    marks_one c.args.pool.now.layout c.args.word c.mark-found.result r.low r.high _ _ c.args.call _ v (view c.mark-found.new.pass.seat)
    (view r.middle) (view c.value-value.new.pass.seat) plain c.mark-found.ensures.marks r.first r.second c.value-value.ensures.value
    (c.pack-next.ensures ∙ ap plain_link (c.number.ensures ∙ c.unpacked-link.ensures.number))

pub returns-then-flag-clause-alone : goal.returns-then-flag-clause-alone
returns-then-flag-clause-alone c = λ lone. let z = c.args.pool.now.layout in let old = c.args.pass.now in let new = c.mark-found.new.pass in
    absurd (lone_marks z c.args.word c.mark-found.result (view old.seat) (view new.seat)
    (sees_of z old.seat _ _ _ _ old.keeping old.run c.requires.fits.sizes)
    (sees_of z new.seat _ _ _ _ new.keeping new.run (c.mark-found.ensures.same.sizes ∙ c.requires.fits.sizes)) c.requires.word
    c.requires.held
    c.mark-found.ensures.marks.lost lone
    (ap flag_bit (sym c.unpacked-link.ensures.word) ∙ (flag_of c.unpacked-link.result ∙ ap bit (sym c.flag.ensures ∙ c.if-flag.true))))
