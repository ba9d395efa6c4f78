use Rattle.std.proofs.Common.{arith, sym}
use Rattle.pp_check.proofs.Indexing.{none_found, key_read, found_at}
use Rattle.pp_check.proofs.index.value_at.Goals as goal

pub returns-then-count-eq0 : goal.returns-then-count-eq0
returns-then-count-eq0 c =
    sym (none_found c.args.log.now c.args.index.now c.args.key c.args.place _ c.requires.index c.requires.within
    c.count_before-count.ensures
    (λ j d lt is e. omega arith))

pub returns-then-last-key : goal.returns-then-last-key
returns-then-last-key c =
    sym (none_found c.args.log.now c.args.index.now c.args.key c.args.place _ c.requires.index c.requires.within
    c.count_before-count.ensures
    (λ j d lt is e. c.if-last-key.true
    (key_read c.args.index.now j _ d _ c.args.key (omega arith) (omega (arith, c.count_before-count.ensures.within)) e)))

pub returns : goal.returns
returns c =
    found_at c.args.log.now c.args.index.now c.args.key c.args.place _ _ _ _ c.requires.index c.requires.sound c.requires.within
    c.count_before-count.ensures c.if-count-eq0.false c.if-last-key.false c.left_by.ensures
