use Rattle.std.proofs.Common.{◌≡◌, Some, sym, ap, ◌∙◌, subst}
use Rattle.pp_model.specs.declared.Call.TheVariants.{Cut}
use Rattle.pp_model.specs.declared.Reply.TheVariants.{Took}
use Rattle.pp_model.specs.declared.Answer.TheVariants.{Said}
use Rattle.pp_model.specs.FiniteMap.{find, HasKeyAt}
use Rattle.pp_model.specs.Calls.{Takes, cuts}
use Rattle.pp_model.specs.History.{contents_of}
use Rattle.pp_model.specs.Pass.{PassView}
use Rattle.pp_model.specs.Plain.{IsPlainAnswer}
use Rattle.pp_model.proofs.Maps.{read_at, cut_value, cut_other}
use Rattle.pp_model.proofs.plain.PlainPass.cut.Goals as goal

pub take-requires-clause-takes : goal.take-requires-clause-takes
take-requires-clause-takes c w found =
    let has : HasKeyAt c.self.inside.pairs.items c.args.key c.in-Ok.i = rw c.deref.ensures.value at c.in-Ok.ensures.found in
    let contents = c.self.invariant.holds.contents ∙ ap (λ (v : PassView). contents_of v.seen) c.self.view_is in
    let held : find (contents_of c.args.self.now.seen) c.args.key ≡ Some c.index.result.now.value =
    ap (λ m. find m c.args.key) (sym contents)
    ∙ read_at c.self.inside.pairs.items c.args.key c.in-Ok.i c.index.result.now has c.index.ensures in
    let same : Some c.index.result.now.value ≡ Some w = sym held ∙ found in
    let value : c.index.result.now.value ≡ w = cc in
    subst (λ x. Takes (Cut c.args.key c.args.value) c.args.key x) (sym c.if-held-value.true ∙ value) (cuts c.args.key c.args.value)

pub returns-then-held-value : goal.returns-then-held-value
returns-then-held-value c = subst
    (λ x. IsPlainAnswer (Cut c.args.key c.args.value) c.args.self.now c.take.new.self (Said (Took x)))
    (cut_value c.args.key c.args.value c.args.key c.take.result c.take.ensures.takes) c.take.ensures.answered

pub enter-requires-clause-right : goal.enter-requires-clause-right
enter-requires-clause-right c =
    let has : HasKeyAt c.self.inside.pairs.items c.args.key c.in-Ok.i = rw c.deref.ensures.value at c.in-Ok.ensures.found in
    let contents = c.self.invariant.holds.contents ∙ ap (λ (v : PassView). contents_of v.seen) c.self.view_is in
    let held : find (contents_of c.args.self.now.seen) c.args.key ≡ Some c.index.result.now.value =
    ap (λ m. find m c.args.key) (sym contents)
    ∙ read_at c.self.inside.pairs.items c.args.key c.in-Ok.i c.index.result.now has c.index.ensures in
    cut_other (contents_of c.args.self.now.seen) c.args.key c.args.value c.index.result.now.value held c.if-held-value.false
