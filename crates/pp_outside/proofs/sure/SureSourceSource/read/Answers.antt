use Rattle.std.proofs.Common.{arith, rules, length}
use Rattle.pp_outside.proofs.MemoryReads.{front_given}
use Rattle.pp_outside.proofs.sure.SureSourceSource.read.Goals as goal

pub returns-clause-bytes : goal.returns-clause-bytes
returns-clause-bytes c = front_given _ _ _ _ c.args.self.now.at c.min-count.result (length c.args.into.now)
    c.deref.ensures.value c.copy_from_slice.ensures.after (search rules) (omega arith) (omega arith) (omega arith)
