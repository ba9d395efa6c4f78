use Rattle.std.proofs.Common.{map, ap}
use Rattle.pp_programs.proofs.Finishes.{few_answers}
use Rattle.pp_replay.proofs.printing.finish.Goals as goal

pub of-counts-requires : goal.of-counts-requires
of-counts-requires g c = few_answers (map (λ v. v.items) c.args.answers.now) c.requires.short

pub returns : goal.returns
returns g c = rw (← ap (λ k. k.full) c.of-counts.ensures, ← ap (λ k. k.lost) c.of-counts.ensures)
    (c.end.ensures _ _ (rw c.in-Ok.ensures at c.print_text-printed.ensures))
