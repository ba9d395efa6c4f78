use Rattle.std.proofs.Common.{arith, ◌<◌, ◌≤◌, length, refl, sym, ap}
use Rattle.std.proofs.lemmas.List.{length-map}
use Rattle.std.proofs.lemmas.Option.{slice_get_read}
use Rattle.pp_model.specs.Plain.{plain_meaning, plain_sizes}
use Rattle.pp_running.proofs.Lists.{at_mapped}
use Rattle.pp_replay.specs.Replay.{meaning_of}
use Rattle.pp_replay.proofs.PlainRuns.{plain_shares, plain_sized}
use Rattle.pp_poll.proofs.Finishes.{refused, chosen_to_poll}
use Rattle.pp_poll.proofs.attempt.run_plain.Goals as goal

pub overflow_cast-calls : goal.overflow_cast-calls
overflow_cast-calls g c =
    let lists = c.args.input.lists.items in
    let low : 0 < length lists = omega (
      arith,
      length-map lists
          (λ v. v.items),
      c.requires.calls.each_caller,
      c.requires.within.callers_low,
    ) in
    let here = slice_get_read lists (length lists) 0 c.index.result.now refl low c.index.ensures in
    let short_one : length c.index.result.now.items ≤ 16777216 =
    c.requires.calls.short 0 c.index.result.now.items (at_mapped (λ v. v.items) lists 0 c.index.result.now here) in
    omega (arith, short_one, c.len-calls.ensures, c.index.result.now.ok.0)

pub run_shown-shown-requires-clause-chosen : goal.run_shown-shown-requires-clause-chosen
run_shown-shown-requires-clause-chosen g c = rw c.in-Ok.ensures.sizes (chosen_to_poll c.args.settings plain_meaning
    (plain_sizes c.args.settings.records) c.requires.within
    (sym (ap meaning_of c.requires.plain)) (plain_sized c.args.settings c.requires.within c.requires.plain))

pub run_shown-shown-requires-clause-clean : goal.run_shown-shown-requires-clause-clean
run_shown-shown-requires-clause-clean g c = λ k p at. tt

pub run_shown-shown-requires-clause-shares : goal.run_shown-shown-requires-clause-shares
run_shown-shown-requires-clause-shares g c = rw c.in-Ok-from_array.ensures.items
    (plain_shares c.args.settings c.requires.within c.requires.plain c.in-Ok.pass c.in-Ok.ensures.share)

pub returns-in_default : goal.returns-in_default
returns-in_default g c = λ words before after said_by input.
    refused c.args.places words c.args.settings _ _ before after _ _ _ _ _ _ said_by input c.without_run.ensures.0

pub returns-in_default-from_array : goal.returns-in_default-from_array
returns-in_default-from_array g c = λ words before after said_by input.
    refused c.args.places words c.args.settings _ _ before after _ _ _ _ _ _ said_by input c.without_run-in_default-from_array.ensures.0

pub returns : goal.returns
returns g c = λ words before after said_by input. rw c.kept_plain.ensures (c.run_shown-shown.ensures words before after said_by input)
