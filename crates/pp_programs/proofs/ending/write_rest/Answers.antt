use Rattle.std.proofs.Common.{[], refl, sym, append-nil}
use Rattle.pp_programs.proofs.PrintedTexts.{printed_short, printed_all}
use Rattle.pp_programs.proofs.ending.write_rest.Goals as goal

pub returns-in-Ok : goal.returns-in-Ok
returns-in-Ok g c = λ was text put.
    printed_all text c.end.new.self.waits c.end.result refl (rw c.in-Ok.is at put) c.end.ensures.printed c.end.ensures.empty
    c.end.ensures.cause

pub returns : goal.returns
returns g c = λ was text put. printed_short text text [] c.in-Err.error refl (sym (append-nil text)) (rw c.in-Err.is at put)
