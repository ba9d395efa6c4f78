use Rattle.std.proofs.Common.{arith, ◌≡◌, ◌<◌, length, map, sym, ap, ◌∙◌}
use Rattle.std.specs.Prelude.{Some, slice_get}
use Rattle.std.proofs.lemmas.Option.{slice_get_within, get_or_from_slice_get}
use Rattle.std.proofs.lemmas.List.{take_at}
use Rattle.pp_running.proofs.Lists.{at_mapped}
use Rattle.pp_running.proofs.Numbers.{few_live}
use Rattle.pp_running.proofs.JobsDone.{pass_at, list_at}
use Rattle.pp_running.proofs.RunJobs.{closes, runs}
use Rattle.pp_running.proofs.run_on.Goals as goal

pub run-requires-clause-ready : goal.run-requires-clause-ready
run-requires-clause-ready g c κs within k x at =
    let jobs = c.in_ok-jobs.jobs.items in
    let here : slice_get jobs k ≡ Some x = ap (λ l. slice_get l k) (sym c.as_mut_slice.ensures.value) ∙ at in
    let low : k < length jobs = slice_get_within jobs k x here in
    let pass = pass_at c.args.passes.items c.args.lists.items jobs c.in_ok-jobs.ensures.passes c.in_ok-jobs.ensures.calls k x here in
    let list = list_at c.args.passes.items c.args.lists.items jobs c.in_ok-jobs.ensures.passes c.in_ok-jobs.ensures.calls k x here in
    let opened = c.requires.passes k x.pass pass in (
      opened.0,
      opened.1,
      record {
        keys = c.requires.keys k x.calls.items list;
        room = c.requires.room k (g.M.MapCalls.pass_view x.pass) x.calls.items
            (at_mapped g.M.MapCalls.pass_view c.args.passes.items k x.pass pass) list;
        none = rw (get_or_from_slice_get jobs k x x here) at (c.in_ok-jobs.ensures.empty k x low);
        fits = rw (get_or_from_slice_get jobs k x x here) at (c.in_ok-jobs.ensures.room k x low);
      },
    )

pub close-requires-clause-each : goal.close-requires-clause-each
close-requires-clause-each g c =
    let now = c.run.new.jobs in
    let whole = take_at now _ c.in_ok-jobs.jobs.len (c.run.auto.jobs ∙ c.as_mut_slice.ensures.len) in
    let passes = c.in_ok-passes.ensures.passes ∙ ap (map (λ job. job.pass)) whole in
    rw passes (closes g.M.MapCalls.pass_view (g.M.MapCalls.Belongs c.args.chosen) g.M.MapCalls.Idle g.M.MapCalls.meaning
    (g.M.MapCalls.sizes c.args.chosen) c.args.races c.args.passes.items c.args.lists.items c.in_ok-jobs.jobs.items now
    c.in_ok-jobs.ensures.passes c.in_ok-jobs.ensures.calls c.requires.passes (rw c.as_mut_slice.ensures.value at c.run.ensures.ran))

pub returns-in-Ok-clause-ran : goal.returns-in-Ok-clause-ran
returns-in-Ok-clause-ran g c =
    let now = c.run.new.jobs in
    let whole = take_at now _ c.in_ok-jobs.jobs.len (c.run.auto.jobs ∙ c.as_mut_slice.ensures.len) in
    let passes = c.in_ok-passes.ensures.passes ∙ ap (map (λ job. job.pass)) whole in
    let answers = c.in_ok-passes.ensures.answers ∙ ap (map (λ job. job.answers)) whole in
    rw answers (runs g.M.MapCalls.pass_view (g.M.MapCalls.Belongs c.args.chosen) g.M.MapCalls.Idle g.M.MapCalls.meaning
    (g.M.MapCalls.sizes c.args.chosen) c.args.races c.args.passes.items c.args.lists.items c.in_ok-jobs.jobs.items now
    c.in_ok-jobs.ensures.passes c.in_ok-jobs.ensures.calls c.requires.passes (rw c.as_mut_slice.ensures.value at c.run.ensures.ran)
    c.in-Ok.closed.contents.items c.in-Ok.closed.free.items (g.M.MapCalls.run_view c.in-Ok.closed.witness)
    (rw passes at c.in-Ok.ensures.closed) c.requires.lists)

pub returns-in-Ok-clause-few : goal.returns-in-Ok-clause-few
returns-in-Ok-clause-few g c = let closing = c.in-Ok.ensures.closed in
    let live = few_live _ _ _ closing.numbers in let count = closing.live in omega arith
