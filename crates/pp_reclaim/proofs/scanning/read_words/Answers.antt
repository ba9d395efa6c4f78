use Rattle.std.proofs.Common.{◌≡◌, ◌+◌, ◌-◌, ◌*◌, ◌++◌, drop, length, length-append, ap, arith}
use Rattle.std.proofs.lemmas.List.{length-drop, length-take-le}
use Rattle.pp_link.specs.declared.layout.Sizes.{Sizes}
use Rattle.pp_reclaim.proofs.Sweeping.{most_words}
use Rattle.pp_reclaim.proofs.scanning.read_words.Goals as goal

pub returns-clause-read : goal.returns-clause-read
returns-clause-read g c = let fronts = c.read_frontier_words.new.words in let walks = c.read_walk_words.new.words in
    let split = c.split_at_mut-fronts in let behind = c.split_at_mut-fronts.result.1.now in
    let passes : c.sizes-passes.result.passes ≡ c.args.pool.now.layout.passes = ap (λ (z : Sizes). z.passes) c.sizes-passes.ensures.same in
    let many : length c.split_at_mut-fronts.result.1.now ≡ 5 * c.args.pool.now.layout.passes =
    omega (arith, split.ensures.back_len, c.requires.count, passes) in
    let some = c.sizes-passes.ensures.within.some_passes in let rest = drop (5 * c.sizes-passes.result.passes - 1) behind in
    let all_fronts : length c.read_frontier_words.new.words ≡ 4 * c.args.pool.now.layout.passes =
    omega (arith, c.read_frontier_words.auto.words, split.ensures.front_len, passes) in
    let most_walks : length c.read_walk_words.new.words + 1 ≡ 5 * c.args.pool.now.layout.passes =
    omega (
      arith,
      c.read_walk_words.auto.words,
      passes,
      many,
      some,
      length-take-le (5 * c.sizes-passes.result.passes - 1) behind (omega (arith, many, passes)),
    ) in
    let one : length (drop (5 * c.sizes-passes.result.passes - 1) c.split_at_mut-fronts.result.1.now) ≡ 1 =
    omega (arith, length-drop (5 * c.sizes-passes.result.passes - 1) behind, many, passes, some) in record {
      fronts = fronts;
      walks = walks;
      all_fronts = all_fronts;
      most_walks = most_walks;
      all_words = omega (arith, length-append fronts (walks ++ rest), length-append walks rest, all_fronts, most_walks, one);
      words_are = most_words fronts walks rest one;
      between = c.read_frontier_words.new.pass.seat;
      first = c.read_frontier_words.ensures.read;
      second = c.read_walk_words.ensures.read;
    }
