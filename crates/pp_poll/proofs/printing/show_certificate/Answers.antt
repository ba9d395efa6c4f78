use Rattle.std.proofs.Common.{map, ap}
use Rattle.pp_programs.proofs.Finishes.{few_answers}
use Rattle.pp_poll.proofs.printing.show_certificate.Goals as goal

pub of-counts-requires : goal.of-counts-requires
of-counts-requires g c = few_answers (map (λ v. v.items) c.args.answers.now) c.requires.short

pub returns-clause-shown : goal.returns-clause-shown
returns-clause-shown g c = λ run placed.
    rw (← ap (λ k. k.full) c.of-counts.ensures, ← ap (λ k. k.lost) c.of-counts.ensures) (c.end.ensures _ _
    (rw (c.deref.ensures.value, c.in-Ok.ensures.text run placed, c.in-Ok-new.ensures) at c.put-printed.ensures))

pub returns-clause-held : goal.returns-clause-held
returns-clause-held g c = λ run placed not. c.in-Ok.ensures.held run placed
