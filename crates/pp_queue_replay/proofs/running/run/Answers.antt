use Rattle.std.proofs.Common.{◌≡◌, length, ◌∙◌, refl}
use Rattle.std.proofs.lemmas.Option.{slice_get_read, slice_get_within, get_or_from_slice_get}
use Rattle.pp_queue_replay.proofs.running.run.Goals as goal

pub for_each_mut-requires-clause-accepts : goal.for_each_mut-requires-clause-accepts
for_each_mut-requires-clause-accepts g c κs within i p low is =
    (c.requires.races, c.requires.ready i p.now (slice_get_read c.args.jobs.now (length c.args.jobs.now) i p.now refl low is))

pub returns : goal.returns
returns g c = record {
  ran = record {
    lengths = c.for_each_mut.auto.s;
    each = λ k x y was now.
        let change = (c.for_each_mut.ensures k x (slice_get_within c.args.jobs.now k x was)).1 in
        let old : change.argument.now ≡ x = change.argument_is ∙ get_or_from_slice_get c.args.jobs.now k x x was in
        let new : change.after_call.now ≡ y = change.left ∙ get_or_from_slice_get c.for_each_mut.new.s k y x now in
        rw (← old, ← new) change.call;
  };
}
