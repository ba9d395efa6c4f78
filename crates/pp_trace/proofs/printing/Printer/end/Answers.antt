use Rattle.std.proofs.Common.{arith, refl, Ok, Err, ◌∙◌}
use Rattle.std.proofs.lemmas.Result.{err_from_is_err_and}
use Rattle.pp_outside.specs.Outside.{no_write}
use Rattle.pp_trace.proofs.Buffered.{Prints-none, Prints-then, Broke-then, HasCause-since, Written-once, Written-then}
use Rattle.pp_trace.proofs.printing.Printer.end.Goals as goal

pub loop-self-init : goal.loop-self-init
loop-self-init g c = record { printed = Prints-none _ _; kept = refl; writes = no_write; whole = c.requires.whole }

pub loop-self-preserved : goal.loop-self-preserved
loop-self-preserved g c =
    let written = c.in_ok-write.ensures in
    let so_far = c.loop-self.invariant in
    record {
      printed = Prints-then so_far.printed written.printed;
      kept = written.cause.kept ∙ so_far.kept;
      writes = Written-then _ _ (Ok tt) so_far.writes (Written-once _ _ _ _ _ _ (Ok tt) refl written.once);
      whole = written.failed;
    }

pub returns-in_err-write : goal.returns-in_err-write
returns-in_err-write g c =
    let p = err_from_is_err_and c.from_residual.result c.from_residual.ensures.1 in
    let written = c.in_err-write.ensures in
    let so_far = c.loop-self.invariant in
    rw p.1 (record {
      printed = Broke-then so_far.printed written.printed;
      empty = tt;
      cause = HasCause-since _ _ _ (Err p.0) so_far.kept written.cause;
      writes = Written-then _ _ (Err p.0) so_far.writes (Written-once _ _ _ _ _ _ (Err p.0) refl written.once);
      failed = written.failed;
    })

pub returns-clause-cause : goal.returns-clause-cause
returns-clause-cause g c = record { later = omega (arith, c.loop-self.invariant.kept); failed = tt; kept = c.loop-self.invariant.kept }
