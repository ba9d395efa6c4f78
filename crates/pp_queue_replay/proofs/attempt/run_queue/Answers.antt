use Rattle.std.proofs.Common.{map, ap, ◌∙◌, sym}
use Rattle.pp_base.specs.Passes.{view}
use Rattle.pp_queue.specs.Closings.{queue_run}
use Rattle.pp_queue.specs.Passes.{pass_seen, queue_sizes}
use Rattle.pp_queue_replay.proofs.Finishes.{refused, cause_of}
use Rattle.pp_running.proofs.Lists.{mapped_at}
use Rattle.pp_queue_replay.proofs.Starts.{opened_new, share_new, under, short}
use Rattle.pp_queue_replay.proofs.attempt.run_queue.Goals as goal

pub run_on-requires-clause-passes : goal.run_on-requires-clause-passes
run_on-requires-clause-passes g c κs within k p at = let z = queue_sizes c.args.settings.callers c.args.settings.records in
    (c.in-Ok.ensures.ready k p at, opened_new z k p (c.in-Ok.ensures.fresh k p at))

pub finish-way-requires : goal.finish-way-requires
finish-way-requires g c = let z = queue_sizes c.args.settings.callers c.args.settings.records in
    let passes = c.in-Ok.passes.items in let closed = c.in-Ok-run_on.ran.closed in
    let run = queue_run (view closed.closed.witness.seat) closed.closed.witness.live.items in
    let ran = rw c.in-Ok.ensures.sizes at c.in-Ok-run_on.ensures.ran in
    record {
      short = rw c.deref.ensures.value (short c.args.settings c.requires.within (map pass_seen passes)
          (map (λ v. v.items) c.args.lists.items) (map (λ v. v.items) c.in-Ok-run_on.ran.answers.items) closed.items.items run
          (λ k v at. let from = mapped_at pass_seen passes k v at in
          ap (λ u. u.share) (sym from.2) ∙ share_new z k from.0 (c.in-Ok.ensures.fresh k from.0 from.1))
          ran c.requires.calls.each_caller c.requires.calls.short);
    }

pub returns-in_default : goal.returns-in_default
returns-in_default g c = λ words before after said calls.
    refused words c.args.settings (map (λ v. v.items) c.args.lists.items) before after _ _ _ _ said calls c.without_run.ensures.0

pub returns-in_default-run_on : goal.returns-in_default-run_on
returns-in_default-run_on g c = λ words before after said calls.
    refused words c.args.settings (map (λ v. v.items) c.args.lists.items) before after _ _ _ _ said calls
    c.without_run-in_default-run_on.ensures.0

pub returns : goal.returns
returns g c = λ words before after said calls.
    let z = queue_sizes c.args.settings.callers c.args.settings.records in
    let passes = c.in-Ok.passes.items in let closed = c.in-Ok-run_on.ran.closed in
    let run = queue_run (view closed.closed.witness.seat) closed.closed.witness.live.items in
    let ran = rw c.in-Ok.ensures.sizes at c.in-Ok-run_on.ensures.ran in
    let ends = rw (c.deref.ensures.value, c.items.ensures, ran.items_are) at c.finish-way.ensures in
    cause_of words c.args.settings (map (λ v. v.items) c.args.lists.items) (map (λ v. v.items) c.in-Ok-run_on.ran.answers.items)
    run before _ after _ said calls
    (under c.args.settings c.requires.within (map pass_seen passes) (map (λ v. v.items) c.args.lists.items)
    (map (λ v. v.items) c.in-Ok-run_on.ran.answers.items) closed.items.items run
    (λ k v at. let from = mapped_at pass_seen passes k v at in
    ap (λ u. u.share) (sym from.2) ∙ share_new z k from.0 (c.in-Ok.ensures.fresh k from.0 from.1))
    ran)
    c.finish-way.result ends
