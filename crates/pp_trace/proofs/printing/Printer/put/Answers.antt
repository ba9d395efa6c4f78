use Rattle.std.proofs.Common.{◌<◌, ◌≡◌, length, rules}
use Rattle.std.proofs.lemmas.Result.{err_from_is_err_and}
use Rattle.pp_trace.proofs.Buffered.{Underway-none, Underway-written, Underway-kept, Puts-done, Puts-failed}
use Rattle.pp_trace.proofs.printing.Printer.put.Goals as goal

pub loop-rest-init : goal.loop-rest-init
loop-rest-init g c = Underway-none _ _ _ _ c.args.self.now c.args.text.now c.requires.whole

pub loop-rest-preserved : goal.loop-rest-preserved
loop-rest-preserved g c =
    let some : 0 < length c.loop-rest.rest.now = search rules in
    let made = c.in_ok-make_room.ensures in
    let roomy = Underway-written c.loop-rest.invariant some made.printed made.cause.kept made.writes made.roomy made.failed in
    Underway-kept roomy c.keep-rest.ensures.kept c.keep-rest.ensures.failed

pub returns-in_err-make_room : goal.returns-in_err-make_room
returns-in_err-make_room g c =
    let p = err_from_is_err_and c.from_residual.result c.from_residual.ensures.1 in
    let some : 0 < length c.loop-rest.rest.now = search rules in
    let made = c.in_err-make_room.ensures in
    rw p.1 (Puts-failed p.0 c.loop-rest.invariant some made.printed made.cause made.roomy made.writes made.failed)

pub returns : goal.returns
returns g c =
    let none : length c.loop-rest.rest.now ≡ 0 = search rules in
    Puts-done c.loop-rest.invariant none
