use Rattle.std.proofs.Common.{sym, ap}
use Rattle.pp_model.specs.Plain.{plain_meaning, plain_sizes}
use Rattle.pp_replay.specs.Replay.{meaning_of}
use Rattle.pp_replay.proofs.PlainRuns.{plain_shares, plain_sized}
use Rattle.pp_replay.proofs.Unders.{chosen}
use Rattle.pp_tally.proofs.Finishes.{refused}
use Rattle.pp_tally.proofs.attempt.run_plain.Goals as goal

pub run_shown-shown-requires-clause-chosen : goal.run_shown-shown-requires-clause-chosen
run_shown-shown-requires-clause-chosen g c κs within = rw c.in-Ok.ensures.sizes
    (chosen c.args.settings plain_meaning (plain_sizes c.args.settings.records)
    (sym (ap meaning_of c.requires.plain)) (plain_sized c.args.settings c.requires.within c.requires.plain))

pub run_shown-shown-requires-clause-clean : goal.run_shown-shown-requires-clause-clean
run_shown-shown-requires-clause-clean g c κs within = λ k p at. tt

pub run_shown-shown-requires-clause-shares : goal.run_shown-shown-requires-clause-shares
run_shown-shown-requires-clause-shares g c κs within = rw c.in-Ok-from_array.ensures.items
    (plain_shares c.args.settings c.requires.within c.requires.plain c.in-Ok.pass c.in-Ok.ensures.share)

pub returns-in_default : goal.returns-in_default
returns-in_default g c = λ words before after said_by read.
    refused words c.args.settings before after _ c.args.bytes.now _ _ said_by read c.without_run.ensures.0

pub returns-in_default-from_array : goal.returns-in_default-from_array
returns-in_default-from_array g c = λ words before after said_by read.
    refused words c.args.settings before after _ c.args.bytes.now _ _ said_by read c.without_run-in_default-from_array.ensures.0

pub returns : goal.returns
returns g c = λ words before after said_by read. rw c.kept_plain.ensures (c.run_shown-shown.ensures words before after said_by read)
