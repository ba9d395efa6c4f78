use Rattle.std.proofs.Common.{arith, ◌≡◌, ◌≤◌, inl, inr, ⊎_elim, ◌∙◌, List, length, map, ap, sym, subst}
use Rattle.std.proofs.lemmas.List.{length-map}
use Rattle.pp_model.specs.Lists.{AtEach}
use Rattle.pp_model.specs.MapCalls.{IsClean}
use Rattle.pp_model.specs.Pass.{PassView}
use Rattle.pp_trace.specs.Text.{count_all, is_lost}
use Rattle.pp_planned.specs.Planned.{IsPlanned}
use Rattle.pp_places.proofs.Runs.{placed_run}
use Rattle.pp_replay.specs.Replay.{meaning_of, sizes_of, share_of}
use Rattle.pp_running.proofs.Lists.{mapped_at}
use Rattle.pp_replay.proofs.Unders.{short, none_lost, under, under_opened}
use Rattle.pp_poll.proofs.Finishes.{cause_of, ranges_of}
use Rattle.pp_poll.proofs.showing.run_shown.Goals as goal

pub show-way-requires-clause-short : goal.show-way-requires-clause-short
show-way-requires-clause-short g c =
    let run = c.requires.chosen.chosen.runs _ _ _ _ c.in-Ok.ensures.ran in
    rw c.deref-2.ensures.value (short c.args.settings _ (map (λ v. v.items) c.args.input.lists.items)
    (map (λ v. v.items) c.in-Ok.planned.ran.answers.items) _ run c.requires.within c.requires.calls.each_caller c.requires.calls.short)

pub show-way-requires-clause-few : goal.show-way-requires-clause-few
show-way-requires-clause-few g c =
    let few = rw c.requires.chosen.chosen.sizes_are at c.in-Ok.ensures.few in
    let pairs = c.requires.chosen.chosen.live (length c.in-Ok.planned.ran.closed.contents.items) in
    omega (arith, few, pairs, c.requires.within.records_high, ap length c.contents.ensures)

pub show-way-requires-clause-callers : goal.show-way-requires-clause-callers
show-way-requires-clause-callers g c =
    let all = length-map c.args.input.lists.items (λ v. v.items) in
    omega (
      arith,
      ap length c.deref.ensures.value,
      ap length c.in-Ok.ensures.lists,
      all,
      c.requires.calls.each_caller,
      c.requires.within.callers_high,
    )

pub show-way-requires-clause-run : goal.show-way-requires-clause-run
show-way-requires-clause-run g c =
    let all = length-map c.args.input.lists.items (λ v. v.items) in
    let turns =
    ⊎_elim
    (λ (more : 1 ≤ g.M.MapCalls.meaning.turn_steps). inl more)
    (λ (one : c.args.settings.callers ≡ 1). inr (omega (arith, one, all, c.requires.calls.each_caller)))
    c.requires.chosen.turns in
    rw (c.deref.ensures.value, c.in-Ok.ensures.lists, c.deref-2.ensures.value, c.deref-3.ensures.value) (
      g.M.MapCalls.run_view c.in-Ok.planned.ran.closed.witness,
      placed_run _ _ _ _ _ _ _ _ c.in-Ok.ensures.ran (c.in-Ok.ensures.marked turns),
    )

pub returns : goal.returns
returns g c = λ words before after said_by input.
    let lists = map (λ v. v.items) c.args.input.lists.items in
    let answers = map (λ v. v.items) c.in-Ok.planned.ran.answers.items in
    let opened = map g.M.MapCalls.pass_view c.args.passes.items in
    let closed = g.M.MapCalls.run_view c.in-Ok.planned.ran.closed.witness in
    let run = c.requires.chosen.chosen.runs _ _ _ _ c.in-Ok.ensures.ran in
    let shares : AtEach opened (λ k p. p.share ≡ share_of c.args.settings.map (sizes_of c.args.settings) k) =
    λ k v at. let from = mapped_at g.M.MapCalls.pass_view c.args.passes.items k v at in
    ap (λ p. p.share) (sym from.2) ∙ c.requires.shares k from.0 from.1 in
    let unlost : c.args.settings.callers ≡ 1 → count_all is_lost answers ≡ 0 = none_lost _ _ c.args.settings opened lists answers _
    c.in-Ok.ensures.ran c.requires.chosen.chosen.sizes_are c.requires.within
    (λ k v at. let from = mapped_at g.M.MapCalls.pass_view c.args.passes.items k v at in
    subst (λ (p : PassView). IsClean g.M.MapCalls.meaning (g.M.MapCalls.sizes c.args.chosen) p) from.2 (c.requires.clean k from.0 from.1))
    in
    let same = under_opened c.args.settings opened lists answers _ run shares unlost in
    let planned = subst (λ (vs : List PassView). IsPlanned (meaning_of c.args.settings.map) (sizes_of c.args.settings)
    c.args.settings.races c.args.input.plan.items vs lists closed) (sym same)
    (c.requires.chosen.plans _ _ _ _ c.in-Ok.ensures.planned) in
    let all = length-map c.args.input.lists.items (λ v. v.items) in
    let turns =
    ⊎_elim
    (λ (more : 1 ≤ g.M.MapCalls.meaning.turn_steps). inl more)
    (λ (one : c.args.settings.callers ≡ 1). inr (omega (arith, one, all, c.requires.calls.each_caller)))
    c.requires.chosen.turns in
    let placed = placed_run _ _ _ _ _ _ _ _ c.in-Ok.ensures.ran (c.in-Ok.ensures.marked turns) in
    let shown = rw (c.deref.ensures.value, c.in-Ok.ensures.lists, c.deref-2.ensures.value, c.deref-3.ensures.value, c.contents.ensures) at
    c.show-way.ensures.shown in
    let held = rw (c.deref.ensures.value, c.in-Ok.ensures.lists, c.deref-2.ensures.value, c.deref-3.ensures.value) at
    c.show-way.ensures.held in
    cause_of c.args.places words c.args.settings lists _ answers _ before after _ _ _ _ said_by input
    (under c.args.settings opened lists answers _ run shares unlost) planned c.show-way.result
    (shown closed placed c.in-Ok.ensures.contents)
    (λ not. ranges_of c.args.places _ _ _ opened lists answers closed run c.requires.calls.keys
    (omega (arith, c.requires.calls.each_caller, c.requires.within.callers_high)) (held closed placed not))
