use Rattle.pp_replay.proofs.Completeness.{complete}
use Rattle.pp_replay.proofs.replay.Goals as goal

pub returns-clause-complete : goal.returns-clause-complete
returns-clause-complete g c = λ good.
    rw c.of.ensures.status (complete _ _ _ _ _ good c.make_attempt-attempt.result.way c.make_attempt-attempt.ensures)
