use Rattle.std.proofs.Common.{arith, ◌≡◌, length, map, sym, ap, ◌∙◌, subst, List, ⊎_elim, inl, inr}
use Rattle.pp_model.specs.Lists.{AtEach}
use Rattle.pp_model.specs.Pass.{PassView}
use Rattle.pp_running.specs.Jobs.{views_of}
use Rattle.pp_running.specs.Run.{IsOpened}
use Rattle.pp_running.proofs.Numbers.{few_live}
use Rattle.pp_running.proofs.Lists.{mapped_at}
use Rattle.pp_planned.proofs.Openings.{views_length}
use Rattle.pp_planned.proofs.Played.{closes_all, closes_each, ran, is_planned, is_marked}
use Rattle.pp_planned.proofs.run_by_plan.Goals as goal

-- passes that are opened show opened views
opens_all : {P : Type 0} (view : P → PassView) (Belongs Idle : P → Type 0) (ps : List P)
    → AtEach ps (λ c p. Belongs p × Idle p × IsOpened c (view p)) → AtEach (map view ps) IsOpened
opens_all view Belongs Idle ps opened k v at =
    let from = mapped_at view ps k v at in subst (IsOpened k) from.2 (opened k from.0 from.1).2

pub close-requires-clause-all : goal.close-requires-clause-all
close-requires-clause-all g c =
    let view = g.M.MapCalls.pass_view in
    let given = map (λ v. v.items) c.args.lists.items in
    let run = c.in_ok-callers.ensures.played in
    let lengths : length given ≡ length (views_of view c.args.passes.items) = views_length (λ v. v.items) c.args.lists.items
    ∙ (c.requires.lists ∙ sym (views_length view c.args.passes.items)) in
    let opens = opens_all view (g.M.MapCalls.Belongs c.args.chosen) g.M.MapCalls.Idle c.args.passes.items c.requires.passes in
    let all = closes_all (g.M.MapCalls.Belongs c.args.chosen) g.M.MapCalls.Idle (g.M.MapCalls.UnderWay c.args.chosen)
    (g.M.MapCalls.Learnable c.args.chosen) view g.M.MapCalls.going_view c.args.chosen g.M.MapCalls.meaning
    (g.M.MapCalls.sizes c.args.chosen) c.args.races c.args.plan.items (views_of view c.args.passes.items) given lengths opens
    c.in_ok-callers.callers.items run.0 run.1 run.2 run.3 in
    ap length c.in-Ok.ensures.passes ∙ (all ∙ (views_length view c.args.passes.items ∙ c.requires.all))

pub close-requires-clause-each : goal.close-requires-clause-each
close-requires-clause-each g c =
    let view = g.M.MapCalls.pass_view in
    let given = map (λ v. v.items) c.args.lists.items in
    let run = c.in_ok-callers.ensures.played in
    let lengths : length given ≡ length (views_of view c.args.passes.items) = views_length (λ v. v.items) c.args.lists.items
    ∙ (c.requires.lists ∙ sym (views_length view c.args.passes.items)) in
    let opens = opens_all view (g.M.MapCalls.Belongs c.args.chosen) g.M.MapCalls.Idle c.args.passes.items c.requires.passes in
    rw c.in-Ok.ensures.passes (closes_each (g.M.MapCalls.Belongs c.args.chosen) g.M.MapCalls.Idle (g.M.MapCalls.UnderWay c.args.chosen)
    (g.M.MapCalls.Learnable c.args.chosen) view g.M.MapCalls.going_view c.args.chosen g.M.MapCalls.meaning
    (g.M.MapCalls.sizes c.args.chosen) c.args.races c.args.plan.items (views_of view c.args.passes.items) given lengths opens
    c.in_ok-callers.callers.items run.0 run.1 run.2 run.3)

pub returns-in-Ok-close-clause-ran : goal.returns-in-Ok-close-clause-ran
returns-in-Ok-close-clause-ran g c =
    let view = g.M.MapCalls.pass_view in
    let given = map (λ v. v.items) c.args.lists.items in
    let run = c.in_ok-callers.ensures.played in
    let lengths : length given ≡ length (views_of view c.args.passes.items) = views_length (λ v. v.items) c.args.lists.items
    ∙ (c.requires.lists ∙ sym (views_length view c.args.passes.items)) in
    let opens = opens_all view (g.M.MapCalls.Belongs c.args.chosen) g.M.MapCalls.Idle c.args.passes.items c.requires.passes in
    let closing = rw c.in-Ok.ensures.passes at c.in-Ok-close.ensures.closed in
    ran (g.M.MapCalls.Belongs c.args.chosen) g.M.MapCalls.Idle (g.M.MapCalls.UnderWay c.args.chosen)
    (g.M.MapCalls.Learnable c.args.chosen) view g.M.MapCalls.going_view c.args.chosen g.M.MapCalls.meaning
    (g.M.MapCalls.sizes c.args.chosen) c.args.races c.args.plan.items (views_of view c.args.passes.items) given lengths opens
    c.in_ok-callers.callers.items run.0 run.1 run.2 run.3
    c.in-Ok-close.closed.contents.items c.in-Ok-close.closed.free.items (g.M.MapCalls.run_view c.in-Ok-close.closed.witness) closing
    (map (λ v. v.items) c.in-Ok.parts.answers.items) c.in-Ok.ensures.answers

pub returns-in-Ok-close-clause-marked : goal.returns-in-Ok-close-clause-marked
returns-in-Ok-close-clause-marked g c = λ how.
    let view = g.M.MapCalls.pass_view in
    let given = map (λ v. v.items) c.args.lists.items in
    let run = c.in_ok-callers.ensures.played in
    let lengths : length given ≡ length (views_of view c.args.passes.items) = views_length (λ v. v.items) c.args.lists.items
    ∙ (c.requires.lists ∙ sym (views_length view c.args.passes.items)) in
    let opens = opens_all view (g.M.MapCalls.Belongs c.args.chosen) g.M.MapCalls.Idle c.args.passes.items c.requires.passes in
    let closing = rw c.in-Ok.ensures.passes at c.in-Ok-close.ensures.closed in
    is_marked (g.M.MapCalls.Belongs c.args.chosen) g.M.MapCalls.Idle (g.M.MapCalls.UnderWay c.args.chosen)
    (g.M.MapCalls.Learnable c.args.chosen) view g.M.MapCalls.going_view c.args.chosen g.M.MapCalls.meaning
    (g.M.MapCalls.sizes c.args.chosen) c.args.races c.args.plan.items (views_of view c.args.passes.items) given lengths opens
    c.in_ok-callers.callers.items run.0 run.1 run.2 run.3
    c.in-Ok-close.closed.contents.items c.in-Ok-close.closed.free.items (g.M.MapCalls.run_view c.in-Ok-close.closed.witness) closing
    (⊎_elim inl (λ one. inr (views_length (λ v. v.items) c.args.lists.items ∙ one)) how)
    (map (λ v. v.items) c.in-Ok.parts.answers.items) (map (λ v. v.items) c.in-Ok.parts.marks.items)
    c.in-Ok.ensures.answers c.in-Ok.ensures.marks

pub returns-in-Ok-close-clause-lists : goal.returns-in-Ok-close-clause-lists
returns-in-Ok-close-clause-lists g c = c.in-Ok.ensures.lists ∙ c.in_ok-callers.ensures.calls

pub returns-in-Ok-close-clause-planned : goal.returns-in-Ok-close-clause-planned
returns-in-Ok-close-clause-planned g c =
    let view = g.M.MapCalls.pass_view in
    let given = map (λ v. v.items) c.args.lists.items in
    let run = c.in_ok-callers.ensures.played in
    let lengths : length given ≡ length (views_of view c.args.passes.items) = views_length (λ v. v.items) c.args.lists.items
    ∙ (c.requires.lists ∙ sym (views_length view c.args.passes.items)) in
    let opens = opens_all view (g.M.MapCalls.Belongs c.args.chosen) g.M.MapCalls.Idle c.args.passes.items c.requires.passes in
    let closing = rw c.in-Ok.ensures.passes at c.in-Ok-close.ensures.closed in
    is_planned (g.M.MapCalls.Belongs c.args.chosen) g.M.MapCalls.Idle (g.M.MapCalls.UnderWay c.args.chosen)
    (g.M.MapCalls.Learnable c.args.chosen) view g.M.MapCalls.going_view c.args.chosen g.M.MapCalls.meaning
    (g.M.MapCalls.sizes c.args.chosen) c.args.races c.args.plan.items (views_of view c.args.passes.items) given lengths opens
    c.in_ok-callers.callers.items run.0 run.1 run.2 run.3
    c.in-Ok-close.closed.contents.items c.in-Ok-close.closed.free.items (g.M.MapCalls.run_view c.in-Ok-close.closed.witness) closing

pub returns-in-Ok-close-clause-few : goal.returns-in-Ok-close-clause-few
returns-in-Ok-close-clause-few g c = let closing = c.in-Ok-close.ensures.closed in
    let live = few_live _ _ _ closing.numbers in let count = closing.live in omega arith
