use Rattle.pp_programs.proofs.Causes.{says, refused_made}
use Rattle.pp_tally.proofs.Finishes.{unread}
use Rattle.pp_tally.proofs.attempt.attempt_under.Goals as goal

pub returns-then-is_some : goal.returns-then-is_some
returns-then-is_some g c = λ words said_by. rw c.without_run.ensures.0
    (refused_made words c.args.settings said_by _ c.is_some.ensures _ c.if-is_some.true)

pub returns-in-Err : goal.returns-in-Err
returns-in-Err g c = λ words said_by.
    let said = says words c.args.settings said_by _ c.is_some.ensures c.if-is_some.false in
    rw c.without_run-in-Err.ensures.0 (unread words c.args.settings _ _ _ _ c.in-Err.way said c.in-Err.ensures.none)

pub returns-in-Ok : goal.returns-in-Ok
returns-in-Ok g c = λ words said_by.
    let said = says words c.args.settings said_by _ c.is_some.ensures c.if-is_some.false in
    c.run_chosen.ensures words _ _ said (rw c.deref.ensures.value c.in-Ok.ensures.bytes)
