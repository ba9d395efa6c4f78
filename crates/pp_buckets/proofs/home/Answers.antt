use Rattle.std.proofs.Common.{refl}
use Rattle.pp_lists.specs.Walks.{bucket}
use Rattle.pp_buckets.proofs.home.Goals as goal

pub returns-clause-home : goal.returns-clause-home
unfolding bucket
returns-clause-home c = refl
