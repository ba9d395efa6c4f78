use Rattle.std.proofs.Common.{◌≡◌, ℕ, [], refl, subst}
use Rattle.pp_base.specs.Passes.{known, view}
use Rattle.pp_base.proofs.Telling.{telling}
use Rattle.pp_base.proofs.Staying.{keeping_stays, same_stays}
use Rattle.pp_trees.specs.Searches.{Trees}
use Rattle.pp_trees.specs.Seeks.{ComesToRoot}
use Rattle.pp_trees.proofs.Looking.{comes_to_root}
use Rattle.pp_seek.proofs.Staying.{root_stays, first_head}
use Rattle.pp_seek.proofs.steps.come_to_root.Goals as goal

pub head_word-place-requires : goal.head_word-place-requires
head_word-place-requires c = let pass = c.args.pass.now in
    first_head c.args.pool.now.layout (known pass.seat).sizes pass.keeping.pass.within c.requires.fits.sizes

pub load_word-requires-clause-allows : goal.load_word-requires-clause-allows
load_word-requires-clause-allows c = let z = c.args.pool.now.layout in let me = c.args.pass.now.seat.me in
    let place = c.head_word-place.result in
    telling 2 _ (λ z words g. Trees z words g) z 0 _ me _ (λ n. n) (λ n m'. (m'.1 ≡ [])
    × ComesToRoot c.args.word place n me.0 m'.0)
    (comes_to_root _ z _ place c.args.word me c.args.pass.now.keeping.lone c.head_word-place.ensures c.requires.word
    c.requires.free c.requires.named c.requires.pair)
    (λ n m t. (root_stays t.0 c.args.word place n c.requires.named t.1).lone)

pub invariant_of-pass : goal.invariant_of-pass
invariant_of-pass c = let pass = c.args.pass.now in let t = c.load_word.ensures.told in let seat = c.load_word.new.seat in
    let n = c.load_word.result in
    let place = c.head_word-place.result in record {
      keeping = keeping_stays 5 2 pass.seat seat _ _ _ _ _ pass.keeping t.1
          (root_stays t.0.0 c.args.word place n c.requires.named t.0.1);
      run = c.load_word.ensures.run;
    }

pub returns : goal.returns
returns c = let pass = c.args.pass.now in let t = c.load_word.ensures.told in let seat = c.load_word.new.seat in
    let n = c.load_word.result in
    let place = c.head_word-place.result in record {
      same = same_stays pass.seat seat (root_stays t.0.0 c.args.word place n c.requires.named t.0.1) c.load_word.ensures.table;
      comes = subst (λ (p : ℕ). ComesToRoot c.args.word p n (view pass.seat) (view seat)) c.head_word-place.ensures t.0.1;
      walk = refl;
      purse = refl;
    }
