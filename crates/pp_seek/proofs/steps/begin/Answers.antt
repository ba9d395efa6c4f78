use Rattle.std.proofs.Common.{◌≡◌, ℕ, [], refl, subst}
use Rattle.pp_base.specs.Passes.{known, view}
use Rattle.pp_base.proofs.Telling.{telling}
use Rattle.pp_base.proofs.Staying.{keeping_stays, same_stays}
use Rattle.pp_trees.specs.Searches.{Trees}
use Rattle.pp_trees.specs.Seeks.{Begins}
use Rattle.pp_trees.proofs.Looking.{begins_at}
use Rattle.pp_seek.proofs.Staying.{begins_stays, first_head}
use Rattle.pp_seek.proofs.steps.begin.Goals as goal

pub head_word-place-requires : goal.head_word-place-requires
head_word-place-requires c = let pass = c.args.pass.now in
    first_head c.args.pool.now.layout (known pass.seat).sizes pass.keeping.pass.within c.requires.fits.sizes

pub load_word-requires-clause-allows : goal.load_word-requires-clause-allows
load_word-requires-clause-allows c = let z = c.args.pool.now.layout in let me = c.args.pass.now.seat.me in
    let place = c.head_word-place.result in
    telling 2 _ (λ z words g. Trees z words g) z 0 _ me _ (λ n. n) (λ n m'. (m'.1 ≡ []) × Begins place c.args.call n me.0 m'.0)
    (begins_at _ z _ place c.args.call me c.args.pass.now.keeping.lone c.head_word-place.ensures)
    (λ n m t. (begins_stays t.0 place c.args.call n t.1).lone)

pub invariant_of-pass : goal.invariant_of-pass
invariant_of-pass c = let pass = c.args.pass.now in let t = c.load_word.ensures.told in let seat = c.load_word.new.seat in
    let n = c.load_word.result in
    let place = c.head_word-place.result in record {
      keeping = keeping_stays 5 2 pass.seat seat _ _ _ _ _ pass.keeping t.1 (begins_stays t.0.0 place c.args.call n t.0.1);
      run = c.load_word.ensures.run;
    }

pub returns : goal.returns
returns c = let pass = c.args.pass.now in let t = c.load_word.ensures.told in let seat = c.load_word.new.seat in
    let n = c.load_word.result in
    let place = c.head_word-place.result in record {
      same = same_stays pass.seat seat (begins_stays t.0.0 place c.args.call n t.0.1) c.load_word.ensures.table;
      begins = subst (λ (p : ℕ). Begins p c.args.call n (view pass.seat) (view seat)) c.head_word-place.ensures t.0.1;
      walk = refl;
      purse = refl;
    }
