use Rattle.std.proofs.Common.{arith}
use Rattle.pp_model.proofs.PlainPasses.{answers_full}
use Rattle.pp_model.proofs.plain.PlainPass.insert.Goals as goal

pub returns-then-len-self : goal.returns-then-len-self
returns-then-len-self c =
    let pass = c.self.inside in
    let lacks = c.in-Err.ensures.absent in
    let absent = rw c.deref.ensures.value at lacks.absent in
    rw (← c.self.view_is)
    (answers_full pass.records pass.calls pass.pairs.items pass.placed.items c.self.invariant.holds c.args.key c.args.value absent
    (omega (arith, c.len.ensures, c.if-len-self.true, pass.pairs.ok)))
