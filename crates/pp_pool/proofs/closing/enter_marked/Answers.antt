use Rattle.std.proofs.Common.{◌≡◌, suc, ◌+◌, ◌-◌, ◌∷◌, [], length-append, arith}
use Rattle.pp_pool.proofs.Marking.{enter_yes, enter_no, entered_all}
use Rattle.pp_pool.proofs.closing.enter_marked.Goals.{then-marks-number, else-marks-number}
use Rattle.pp_pool.proofs.closing.enter_marked.Goals as goal

pub loop-i-preserved : goal.loop-i-preserved
loop-i-preserved c = let i = c.loop-i.i in let before = c.loop-i.invariant in
    let left : c.args.last - c.loop-i.i ≡ suc (c.args.last - (c.loop-i.i + 1)) = omega (arith, c.loop-i-test.true) in
    elim c.if-marks-number.branch [
      | then-marks-number w ↦ rw (w.free-is, w.enter.ensures.items) record {
        entered = enter_yes c.args.marks.now c.loop-i.free.items _ (i + 1) _ _ left w.if-marks-number.true before.entered;
        few = omega (arith, before.few, length-append c.loop-i.free.items ((i + 1) ∷ []));
        room = omega (arith, before.room, w.enter.ensures.room);
      }
      | else-marks-number w ↦ rw w.free-is record {
        entered = enter_no c.args.marks.now c.loop-i.free.items _ (i + 1) _ _ left w.if-marks-number.false before.entered;
        few = omega (arith, before.few);
        room = before.room;
      }
    ]

pub returns : goal.returns
returns c = entered_all c.args.marks.now c.loop-i.free.items _ (c.loop-i.i + 1) (c.args.last - c.loop-i.i)
    (omega (arith, c.loop-i-test.false)) c.loop-i.invariant.entered
