use Rattle.std.proofs.Common.{◌≡◌, ◌<◌, length, map, sym, ap, ◌∙◌}
use Rattle.std.specs.Prelude.{Some, slice_get}
use Rattle.std.proofs.lemmas.Option.{slice_get_within, get_or_from_slice_get}
use Rattle.std.proofs.lemmas.List.{take_at}
use Rattle.pp_callers.specs.Jobs.{AtBoth}
use Rattle.pp_base.specs.Passes.{view}
use Rattle.pp_queue.specs.Closings.{queue_run}
use Rattle.pp_queue.specs.Passes.{IsReady, pass_seen}
use Rattle.pp_queue_replay.specs.Jobs.{HasMade}
use Rattle.pp_running.proofs.JobsDone.{pass_at}
use Rattle.pp_queue_replay.proofs.RunJobs.{closes, runs}
use Rattle.pp_queue_replay.proofs.running.run_on.Goals as goal

pub run-requires-clause-ready : goal.run-requires-clause-ready
run-requires-clause-ready g c κs within k x at =
    let jobs = c.in_ok-jobs.jobs.items in
    let here : slice_get jobs k ≡ Some x = ap (λ l. slice_get l k) (sym c.as_mut_slice.ensures.value) ∙ at in
    let low : k < length jobs = slice_get_within jobs k x here in
    let pass = pass_at c.args.passes.items c.args.lists.items jobs c.in_ok-jobs.ensures.passes c.in_ok-jobs.ensures.calls
    k x here in
    record {
      ready = (c.requires.passes k x.pass pass).0;
      none = rw (get_or_from_slice_get jobs k x x here) at (c.in_ok-jobs.ensures.empty k x low);
      fits = rw (get_or_from_slice_get jobs k x x here) at (c.in_ok-jobs.ensures.room k x low);
    }

pub close-requires-clause-ready : goal.close-requires-clause-ready
close-requires-clause-ready g c k x at =
    let now = c.run.new.jobs in
    let did : AtBoth c.in_ok-jobs.jobs.items now (HasMade c.args.queue c.args.races) =
    rw c.as_mut_slice.ensures.value at c.run.ensures.ran in
    let whole = take_at now _ c.in_ok-jobs.jobs.len (c.run.auto.jobs ∙ c.as_mut_slice.ensures.len) in
    let passes = c.in_ok-passes.ensures.passes ∙ ap (map (λ job. job.pass)) whole in
    let each = closes (HasMade c.args.queue c.args.races) pass_seen (IsReady c.args.queue) c.args.queue.pool.layout c.args.races
    (λ a b did. did.ready) (λ a b did. did.made) c.args.passes.items c.args.lists.items
    c.in_ok-jobs.jobs.items now c.in_ok-jobs.ensures.passes c.in_ok-jobs.ensures.calls c.requires.passes
    did in
    (each k x (ap (λ l. slice_get l k) (sym passes) ∙ at)).0

pub close-requires-clause-numbered : goal.close-requires-clause-numbered
close-requires-clause-numbered g c k x at =
    let now = c.run.new.jobs in
    let did : AtBoth c.in_ok-jobs.jobs.items now (HasMade c.args.queue c.args.races) =
    rw c.as_mut_slice.ensures.value at c.run.ensures.ran in
    let whole = take_at now _ c.in_ok-jobs.jobs.len (c.run.auto.jobs ∙ c.as_mut_slice.ensures.len) in
    let passes = c.in_ok-passes.ensures.passes ∙ ap (map (λ job. job.pass)) whole in
    let each = closes (HasMade c.args.queue c.args.races) pass_seen (IsReady c.args.queue) c.args.queue.pool.layout c.args.races
    (λ a b did. did.ready) (λ a b did. did.made) c.args.passes.items c.args.lists.items
    c.in_ok-jobs.jobs.items now c.in_ok-jobs.ensures.passes c.in_ok-jobs.ensures.calls c.requires.passes
    did in
    (each k x (ap (λ l. slice_get l k) (sym passes) ∙ at)).1

pub returns-in-Ok : goal.returns-in-Ok
returns-in-Ok g c =
    let now = c.run.new.jobs in
    let did : AtBoth c.in_ok-jobs.jobs.items now (HasMade c.args.queue c.args.races) =
    rw c.as_mut_slice.ensures.value at c.run.ensures.ran in
    let whole = take_at now _ c.in_ok-jobs.jobs.len (c.run.auto.jobs ∙ c.as_mut_slice.ensures.len) in
    let passes = c.in_ok-passes.ensures.passes ∙ ap (map (λ job. job.pass)) whole in
    let answers = c.in_ok-passes.ensures.answers ∙ ap (map (λ job. job.answers)) whole in
    record {
      ran = rw answers (runs (HasMade c.args.queue c.args.races) pass_seen (IsReady c.args.queue) c.args.queue.pool.layout c.args.races
          (λ a b did. did.ready) (λ a b did. did.made) c.args.passes.items c.args.lists.items
          c.in_ok-jobs.jobs.items now c.in_ok-jobs.ensures.passes c.in_ok-jobs.ensures.calls c.requires.passes did
          c.in-Ok.closed.items.items c.in-Ok.closed.closed.free.items
          (queue_run (view c.in-Ok.closed.closed.witness.seat) c.in-Ok.closed.closed.witness.live.items)
          (rw passes at c.in-Ok.ensures.closed) c.requires.lists c.requires.all);
    }
