use Rattle.pp_check.proofs.Verdicts.{unsound_verdict, legal}
use Rattle.pp_check.proofs.history.check_history.Goals as goal

pub returns-in-Some : goal.returns-in-Some
returns-in-Some c = record {
  verdict = λ text is. unsound_verdict text c.args.certificate.now is c.log-2.result.now c.in-Some.change c.log-2.ensures c.in-Some.ensures;
  legal = λ text is none. absurd cc;
}

pub returns : goal.returns
returns c = record {
  verdict = λ text is. c.check_lists.ensures text is;
  legal = λ text is agreed. legal text c.args.certificate.now is c.check_lists.result (c.check_lists.ensures text is) agreed;
}
