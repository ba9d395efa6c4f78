use Rattle.std.proofs.Common.{◌≡◌, ℕ, [], refl, subst}
use Rattle.pp_base.specs.Passes.{known, view}
use Rattle.pp_base.proofs.Telling.{telling}
use Rattle.pp_queues.specs.Queues.{Queues}
use Rattle.pp_queues.specs.Turns.{Saw}
use Rattle.pp_queues.proofs.Loading.{sees}
use Rattle.pp_base.proofs.Staying.{keeping_stays, same_stays}
use Rattle.pp_queue.proofs.Staying.{saw_stays}
use Rattle.pp_queue.proofs.steps.see.Goals as goal

pub load_word-requires-clause-allows : goal.load_word-requires-clause-allows
load_word-requires-clause-allows c = let z = c.args.pool.now.layout in let me = c.args.pass.now.seat.me in
    let q = known c.args.pass.now.seat in
    telling 1 _ Queues z 0 _ me _ (λ n. n) (λ n m'. (m'.1 ≡ []) × Saw c.head_word-place.result n me.0 m'.0)
    (sees _ z 0 _ _ me c.args.pass.now.keeping.lone c.requires.two c.requires.stands c.requires.front c.head_word-place.ensures)
    (λ n m t. (saw_stays t.0 _ n t.1).lone)

pub invariant_of-pass : goal.invariant_of-pass
invariant_of-pass c = let pass = c.args.pass.now in let t = c.load_word.ensures.told in let seat = c.load_word.new.seat in
    record {
      keeping = keeping_stays 1 1 pass.seat seat _ _ _ _ _ pass.keeping t.1 (saw_stays t.0.0 _ _ t.0.1);
      run = c.load_word.ensures.run;
    }

pub returns : goal.returns
returns c = let pass = c.args.pass.now in let t = c.load_word.ensures.told in let seat = c.load_word.new.seat in
    let result = c.load_word.result in record {
      same = same_stays pass.seat seat (saw_stays t.0.0 _ _ t.0.1) c.load_word.ensures.table;
      saw = subst (λ (p : ℕ). Saw p result (view pass.seat) (view seat)) c.head_word-place.ensures t.0.1;
      walk = refl;
      purse = refl;
    }
