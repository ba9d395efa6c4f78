use Rattle.std.proofs.Common.{sym, ◌∙◌, subst}
use Rattle.pp_schedule.specs.Marks.{MarkPlaces}
use Rattle.pp_places.proofs.Listed.{change_place}
use Rattle.pp_places.proofs.placing.place_of.Goals as goal

pub returns-then-changes : goal.returns-then-changes
returns-then-changes c = λ m s is placed.
    change_place c.args.log.now c.args.call.now c.args.reply.now c.args.mark m s c.requires.short is placed
    ∙ sym (placed.change (sym c.changes.ensures ∙ c.if-changes.true))

pub returns-else-changes : goal.returns-else-changes
returns-else-changes c = λ m s is placed.
    let same = change_place c.args.log.now c.args.call.now c.args.reply.now c.args.mark m s c.requires.short is placed in
    c.least_right.ensures s (sym c.changes.ensures ∙ c.if-changes.false)
    (subst (λ k. MarkPlaces c.args.log.now c.args.call.now c.args.reply.now k s) (sym same) placed)
