use Rattle.std.proofs.Common.{◌≡◌, map, List, sym, ap, ◌∙◌, subst, arith}
use Rattle.std.specs.List.Sorted.{IsPermutation}
use Rattle.std.proofs.lemmas.List.Sorted.{IsNonDecreasingBy-from_sort_by_key}
use Rattle.pp_model.specs.declared.Pair.{Pair}
use Rattle.pp_lists.specs.Contents.{live_of, pair_of, list_alive}
use Rattle.pp_lists.proofs.Closing.{live_none, live_keys}
use Rattle.pp_lists.proofs.Ordering.{sorted_is}
use Rattle.pp_walk.proofs.shape.ListShapeShape.gather.Goals as goal

pub loop-head-init : goal.loop-head-init
loop-head-init c = let z = c.args.layout.now in let words = c.args.words.now in record {
  live = c.requires.none.1 ∙ sym (live_none z words);
  contents = c.requires.none.0 ∙ ap (map (pair_of z words)) (sym c.requires.none.1);
  contents_room = c.requires.room.0;
  live_room = c.requires.room.1;
}

pub returns : goal.returns
returns c = let z = c.args.layout.now in let words = c.args.words.now in
    let end : c.loop-head.head ≡ z.heads = (let over = c.loop-head-test.false in let most = c.loop-head.auto.head-end in
    let heads = ap (λ s. s.heads) c.sizes-heads.ensures.same in omega arith) in
    let pairs : c.loop-head.contents.items ≡ map (pair_of z words) (list_alive z words) =
    c.loop-head.invariant.contents ∙ (ap (map (pair_of z words)) (c.loop-head.invariant.live ∙ ap (live_of z words) end)) in
    let sorted = c.sort_unstable_by_key.new.self.items in (
      sorted_is (map (pair_of z words) (list_alive z words)) sorted
          (subst (λ (l : List Pair). IsPermutation l sorted) pairs c.sort_unstable_by_key.ensures.permutation)
          (IsNonDecreasingBy-from_sort_by_key (λ (p : Pair). p.key) sorted c.sort_unstable_by_key.ensures.sorted (λ a r f called. search))
          (live_keys z words c.requires.rule.0 c.requires.rule.1 c.requires.rule.2),
      c.loop-head.invariant.live ∙ ap (live_of z words) end,
    )
