use Rattle.std.proofs.Common.{◌≡◌, ℕ, [], refl, sym, subst}
use Rattle.pp_base.specs.Sources.{side_number}
use Rattle.pp_base.specs.Passes.{known, view}
use Rattle.pp_base.proofs.Telling.{telling}
use Rattle.pp_base.proofs.Staying.{keeping_stays, same_stays}
use Rattle.pp_trees.specs.Searches.{Trees}
use Rattle.pp_trees.specs.Seeks.{EndsAt, MayCome}
use Rattle.pp_trees.proofs.Looking.{ends_at}
use Rattle.pp_seek.proofs.Staying.{ends_stays}
use Rattle.pp_seek.proofs.steps.end.Goals as goal

pub load_word-requires-clause-allows : goal.load_word-requires-clause-allows
load_word-requires-clause-allows c = let z = c.args.pool.now.layout in let me = c.args.pass.now.seat.me in
    let q = known c.args.pass.now.seat in
    let place = c.locate-place.result in let sd = side_number c.args.side in
    telling 2 _ (λ z words g. Trees z words g) z 0 _ me _ (λ n. n) (λ n m'. (m'.1 ≡ [])
    × EndsAt c.args.next sd place c.args.first n me.0 m'.0)
    (ends_at _ z _ place c.args.next sd c.args.first me c.args.pass.now.keeping.lone (subst (λ
    (p : ℕ). MayCome z q c.args.next sd p c.args.first 1) (sym c.locate-place.ensures.place) c.requires.may))
    (λ n m t. (ends_stays t.0 c.args.next sd place c.args.first n c.requires.may.named t.1).lone)

pub invariant_of-pass : goal.invariant_of-pass
invariant_of-pass c = let pass = c.args.pass.now in let t = c.load_word.ensures.told in let seat = c.load_word.new.seat in
    let n = c.load_word.result in
    let place = c.locate-place.result in let sd = side_number c.args.side in record {
      keeping = keeping_stays 5 2 pass.seat seat _ _ _ _ _ pass.keeping t.1
          (ends_stays t.0.0 c.args.next sd place c.args.first n c.requires.may.named t.0.1);
      run = c.load_word.ensures.run;
    }

pub returns : goal.returns
returns c = let pass = c.args.pass.now in let t = c.load_word.ensures.told in let seat = c.load_word.new.seat in
    let n = c.load_word.result in
    let place = c.locate-place.result in let sd = side_number c.args.side in record {
      same = same_stays pass.seat seat (ends_stays t.0.0 c.args.next sd place c.args.first n c.requires.may.named t.0.1)
          c.load_word.ensures.table;
      ends = subst (λ (p : ℕ). EndsAt c.args.next sd p c.args.first n (view pass.seat)
          (view seat)) c.locate-place.ensures.place t.0.1;
      walk = refl;
      purse = refl;
    }
