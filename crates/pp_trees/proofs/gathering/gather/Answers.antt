use Rattle.std.proofs.Common.{◌++◌, List, get_or, ap, sym, ◌∙◌, subst, arith, take_all}
use Rattle.pp_model.specs.declared.Pair.{Pair}
use Rattle.pp_trees.specs.Gathering.{closed, HoldsTree, IsGathered, own_pairs, pairs_in}
use Rattle.pp_trees.proofs.Gathers.{item_readable, item_room, pairs_take}
use Rattle.pp_trees.proofs.Heaps.{sane_of}
use Rattle.pp_trees.proofs.gathering.gather.Goals as goal

pub list_live-requires-clause-tree : goal.list_live-requires-clause-tree
list_live-requires-clause-tree c = let r = c.requires.rule in record {
  state = r.0.status;
  few = r.1.within.records;
  wide = r.1.wide;
  sane = sane_of c.args.layout.now c.args.words.now r.0 r.1;
  tree = r.2.tree;
}

pub enter_pair-requires-clause-number : goal.enter_pair-requires-clause-number
enter_pair-requires-clause-number c = let r = c.requires.rule in let holds : HoldsTree c.args.layout.now c.args.words.now =
    record {
      state = r.0.status;
      few = r.1.within.records;
      wide = r.1.wide;
      sane = sane_of c.args.layout.now c.args.words.now
          r.0 r.1;
      tree = r.2.tree;
    } in
    let read = item_readable c.args.layout.now c.args.words.now (pairs_in
    (closed c.args.layout.now c.args.words.now) c.list_live.new.live.items) c.list_live.new.live.items
    c.deref-number-items.result.now
    holds c.list_live.ensures.gathered c.deref-number-items.ensures.value c.loop-number.number-index c.loop-number-test.true in
    read.number

pub enter_pair-requires-clause-small : goal.enter_pair-requires-clause-small
enter_pair-requires-clause-small c = let r = c.requires.rule in let holds : HoldsTree c.args.layout.now c.args.words.now =
    record {
      state = r.0.status;
      few = r.1.within.records;
      wide = r.1.wide;
      sane = sane_of c.args.layout.now c.args.words.now
          r.0 r.1;
      tree = r.2.tree;
    } in
    let read = item_readable c.args.layout.now c.args.words.now (pairs_in
    (closed c.args.layout.now c.args.words.now) c.list_live.new.live.items) c.list_live.new.live.items
    c.deref-number-items.result.now
    holds c.list_live.ensures.gathered c.deref-number-items.ensures.value c.loop-number.number-index c.loop-number-test.true in
    read.left

pub enter_pair-requires-clause-room : goal.enter_pair-requires-clause-room
enter_pair-requires-clause-room c = let r = c.requires.rule in let holds : HoldsTree c.args.layout.now c.args.words.now =
    record {
      state = r.0.status;
      few = r.1.within.records;
      wide = r.1.wide;
      sane = sane_of c.args.layout.now c.args.words.now
          r.0 r.1;
      tree = r.2.tree;
    } in
    let few = item_room c.args.layout.now c.args.words.now (pairs_in
    (closed c.args.layout.now c.args.words.now) c.list_live.new.live.items) c.list_live.new.live.items
    c.deref-number-items.result.now
    holds c.list_live.ensures.gathered c.deref-number-items.ensures.value c.loop-number.number-index
    c.loop-number.contents.items c.loop-number-test.true c.loop-number.invariant.contents in
    omega (arith, few, c.loop-number.invariant.room)

pub loop-number-preserved : goal.loop-number-preserved
loop-number-preserved c = record {
  contents = c.enter_pair.ensures.items ∙ (ap (λ (m : List Pair). m ++ own_pairs (closed c.args.layout.now c.args.words.now)
      (get_or c.deref-number-items.result.now c.loop-number.number-index 0)) c.loop-number.invariant.contents
      ∙ sym (pairs_take (closed c.args.layout.now c.args.words.now) c.deref-number-items.result.now c.loop-number.number-index
      c.loop-number-test.true));
  room = omega (arith, c.loop-number.invariant.room, c.enter_pair.ensures.room);
}

pub returns : goal.returns
returns c = let z = c.args.layout.now in let words = c.args.words.now in record {
  gathered = subst (λ (m : List Pair). IsGathered (closed z words) m c.list_live.new.live.items)
      (sym (c.loop-number.invariant.contents ∙ (ap (pairs_in (closed z words))
      (take_all c.loop-number.number-index c.deref-number-items.result.now c.loop-number-test.false)
      ∙ ap (pairs_in (closed z words)) c.deref-number-items.ensures.value))) c.list_live.ensures.gathered;
}
