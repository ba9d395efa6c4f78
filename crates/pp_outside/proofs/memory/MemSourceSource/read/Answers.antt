use Rattle.std.proofs.Common.{arith, rules}
use Rattle.pp_outside.proofs.MemoryReads.{front_given}
use Rattle.pp_outside.proofs.memory.MemSourceSource.read.Goals as goal

pub returns-clause-bytes : goal.returns-clause-bytes
returns-clause-bytes c = rw (← c.self.view_is) (front_given _ _ _ _ c.self.inside.at c.min-count.result c.self.inside.most
    c.deref.ensures.value c.copy_from_slice.ensures.after (search rules) (omega arith) (omega arith) (omega arith))
