use Rattle.std.proofs.Common.{arith, ◌∙◌, length, map, ap, sym, subst}
use Rattle.std.proofs.lemmas.List.{length-map}
use Rattle.pp_model.specs.MapCalls.{IsClean}
use Rattle.pp_model.specs.Pass.{PassView}
use Rattle.pp_running.proofs.Lists.{mapped_at}
use Rattle.pp_replay.proofs.Unders.{short, none_lost, under}
use Rattle.pp_replay.proofs.Finishes.{refused, cause_of}
use Rattle.pp_replay.proofs.showing.run_shown.Goals as goal

pub run_on-requires-clause-all : goal.run_on-requires-clause-all
run_on-requires-clause-all g c κs within = c.requires.count ∙ sym (ap (λ z. z.passes) c.requires.chosen.sizes_are)

pub run_on-requires-clause-lists : goal.run_on-requires-clause-lists
run_on-requires-clause-lists g c κs within =
    sym (length-map c.args.lists.items (λ v. v.items)) ∙ (c.requires.calls.each_caller ∙ sym c.requires.count)

pub finish-way-requires-clause-short : goal.finish-way-requires-clause-short
finish-way-requires-clause-short g c =
    let run = c.requires.chosen.runs _ _ _ _ c.in-Ok.ensures.ran in
    rw c.deref.ensures.value (short c.args.settings _ (map (λ v. v.items) c.args.lists.items)
    (map (λ v. v.items) c.in-Ok.ran.answers.items) _ run c.requires.within c.requires.calls.each_caller c.requires.calls.short)

pub finish-way-requires-clause-few : goal.finish-way-requires-clause-few
finish-way-requires-clause-few g c =
    let few = rw c.requires.chosen.sizes_are at c.in-Ok.ensures.few in
    let pairs = c.requires.chosen.live (length c.in-Ok.ran.closed.contents.items) in
    omega (arith, few, pairs, c.requires.within.records_high, ap length c.contents.ensures)

pub returns-in_default : goal.returns-in_default
returns-in_default g c = λ words before after said_by calls.
    refused words c.args.settings _ before after _ _ _ _ said_by calls c.without_closing.ensures.0

pub returns : goal.returns
returns g c = λ words before after said_by calls.
    let run = c.requires.chosen.runs _ _ _ _ c.in-Ok.ensures.ran in
    let ends = rw (c.deref.ensures.value, c.contents.ensures, c.in-Ok.ensures.contents) at c.finish-way.ensures in
    cause_of words c.args.settings (map (λ v. v.items) c.args.lists.items) (map (λ v. v.items) c.in-Ok.ran.answers.items)
    _ before _ after _ said_by calls
    (under c.args.settings (map g.M.MapCalls.pass_view c.args.passes.items) (map (λ v. v.items) c.args.lists.items)
    (map (λ v. v.items) c.in-Ok.ran.answers.items) _ run
    (λ k v at. let from = mapped_at g.M.MapCalls.pass_view c.args.passes.items k v at in
    ap (λ p. p.share) (sym from.2) ∙ c.requires.shares k from.0 from.1)
    (none_lost _ _ c.args.settings (map g.M.MapCalls.pass_view c.args.passes.items) (map (λ v. v.items) c.args.lists.items)
    (map (λ v. v.items) c.in-Ok.ran.answers.items) _ c.in-Ok.ensures.ran
    c.requires.chosen.sizes_are c.requires.within (λ k v at. let from = mapped_at g.M.MapCalls.pass_view c.args.passes.items k v at in
    subst (λ (p : PassView). IsClean g.M.MapCalls.meaning (g.M.MapCalls.sizes c.args.chosen) p) from.2 (c.requires.clean k from.0 from.1))))
    c.finish-way.result ends
