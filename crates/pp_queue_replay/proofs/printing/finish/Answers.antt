use Rattle.std.proofs.Common.{map}
use Rattle.pp_programs.proofs.Finishes.{few_answers}
use Rattle.pp_queue_replay.proofs.printing.finish.Goals as goal

pub of-counts-requires : goal.of-counts-requires
of-counts-requires g c = few_answers (map (λ v. v.items) c.args.answers.now) c.requires.short

pub returns : goal.returns
returns g c = rw (← c.of-counts.ensures.full, ← c.of-counts.ensures.lost)
    (c.end.ensures _ _ (rw c.in-Ok.ensures at c.print_text-printed.ensures))
