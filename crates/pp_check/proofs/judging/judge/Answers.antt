use Rattle.pp_check.proofs.Completeness.{complete}
use Rattle.pp_check.proofs.judging.judge.Goals as goal

pub returns-clause-complete : goal.returns-clause-complete
returns-clause-complete g c = λ good.
    rw c.status.ensures (complete _ _ _ _ _ _ _ (λ line cut. cut.rose) good c.judge_source-way.result c.judge_source-way.ensures)
