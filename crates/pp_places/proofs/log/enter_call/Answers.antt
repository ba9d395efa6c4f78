use Rattle.std.proofs.Common.{◌≡◌, ◌∷◌, refl, sym, ◌∙◌, subst}
use Rattle.pp_model.specs.declared.Answer.{Answer}
use Rattle.pp_model.specs.declared.Answer.TheVariants.{Said, Full, Lost}
use Rattle.pp_places.specs.Places.{EntersOn}
use Rattle.pp_schedule.proofs.Marking.{Unplaced}
use Rattle.pp_places.proofs.Entries.{enters_other, enters_unchanged, enters_change}
use Rattle.pp_places.proofs.log.enter_call.Goals as goal

unplaced : (a : Answer) → ((r : _) → a ≡ Said r → ⊥) → Unplaced a
unplaced (Said r) not = absurd (not r refl)
unplaced Full not = tt
unplaced (Lost turns) not = tt

pub returns-in_default-clause-entered : goal.returns-in_default-clause-entered
returns-in_default-clause-entered c = λ whole mine calls answers exact m is stands e.
    enters_other whole c.args.caller mine stands c.args.call c.args.answer.now m calls answers exact c.args.number c.args.log.now.items
    (unplaced c.args.answer.now c.in_default.not-Said) e

pub returns-then-not-changes-clause-entered : goal.returns-then-not-changes-clause-entered
returns-then-not-changes-clause-entered c = λ whole mine calls answers exact m is stands e.
    enters_unchanged whole c.args.caller mine stands c.args.call c.in-Said.reply m calls answers exact c.args.number c.args.log.now.items
    (subst (λ (a : Answer). EntersOn whole c.args.caller mine (c.args.call ∷ calls) (a ∷ answers) (m ∷ exact) c.args.number
    c.args.log.now.items) c.in-Said.is e) (sym c.changes.ensures ∙ c.if-not-changes.true)

pub returns-clause-entered : goal.returns-clause-entered
returns-clause-entered c = λ whole mine calls answers exact m is stands e.
    enters_change whole c.args.caller mine stands c.args.call c.in-Said.reply m calls answers exact c.args.number c.args.log.now.items
    (subst (λ (a : Answer). EntersOn whole c.args.caller mine (c.args.call ∷ calls) (a ∷ answers) (m ∷ exact) c.args.number
    c.args.log.now.items) c.in-Said.is e) (sym c.changes.ensures ∙ c.if-not-changes.false) c.args.mark is
    c.enter_change.new.log.items c.in_ok-enter_change.ensures
