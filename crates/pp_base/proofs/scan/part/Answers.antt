use Rattle.std.proofs.Common.{◌<◌, ◌∷◌, [], length, sym, ◌∙◌, length-append, length-set, arith}
use Rattle.pp_base.specs.Scans.{is_named}
use Rattle.pp_base.proofs.Parted.{stays_kept, stays_gone, freed_kept, freed_gone, stays_all, freed_all}
use Rattle.pp_base.proofs.scan.part.Goals.{then-is_hazard, else-is_hazard}
use Rattle.pp_base.proofs.scan.part.Goals as goal

pub loop-i-preserved : goal.loop-i-preserved
loop-i-preserved c = let test = is_named c.args.words.now in let n = c.index-number.result.now in
    let xs = c.loop-i.retired.items in let i = c.loop-i.i in let kept = c.loop-i.kept in let before = c.loop-i.invariant in
    let below : c.loop-i.i < length c.loop-i.retired.items = omega (arith, c.loop-i-test.true, c.len-count.ensures, before.count) in
    elim c.if-is_hazard.branch [
      | then-is_hazard w ↦ rw (w.kept-is, w.retired-is, w.free-is) record {
        stays = stays_kept test xs _ kept i n before.behind below c.index-number.ensures
            (sym c.is_hazard.ensures ∙ w.if-is_hazard.true) before.stays;
        freed = freed_kept test xs c.loop-i.free.items _ kept i n before.behind below c.index-number.ensures
            (sym c.is_hazard.ensures ∙ w.if-is_hazard.true) before.freed;
        count = length-set xs kept n ∙ before.count;
        behind = omega (arith, before.behind);
        room = omega (arith, before.room, length-set xs kept n);
        grown = before.grown;
        same = before.same;
      }
      | else-is_hazard w ↦ rw (w.kept-is, w.retired-is, w.free-is, w.enter.ensures.items) record {
        stays = stays_gone test xs _ kept i n below c.index-number.ensures (sym c.is_hazard.ensures ∙ w.if-is_hazard.false) before.stays;
        freed = freed_gone test xs c.loop-i.free.items _ i n below c.index-number.ensures
            (sym c.is_hazard.ensures ∙ w.if-is_hazard.false) before.freed;
        count = before.count;
        behind = omega (arith, before.behind);
        room = omega (arith, before.room, w.enter.ensures.room, length-append c.loop-i.free.items (n ∷ []));
        grown = omega (arith, before.grown, w.enter.ensures.room);
        same = before.same;
      }
    ]

pub returns-clause-retired : goal.returns-clause-retired
returns-clause-retired c = c.truncate.ensures.items
    ∙ stays_all (is_named c.args.words.now) c.loop-i.retired.items _ c.loop-i.kept c.loop-i.i
    (omega (arith, c.loop-i-test.false, c.len-count.ensures, c.loop-i.invariant.count)) c.loop-i.invariant.stays

pub returns-clause-free : goal.returns-clause-free
returns-clause-free c = freed_all (is_named c.args.words.now) c.loop-i.retired.items c.loop-i.free.items _ c.loop-i.i
    (omega (arith, c.loop-i-test.false, c.len-count.ensures, c.loop-i.invariant.count)) c.loop-i.invariant.freed
