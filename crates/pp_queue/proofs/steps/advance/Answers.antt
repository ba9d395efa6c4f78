use Rattle.std.proofs.Common.{◌≡◌, ℕ, [], eqb, refl, sym, subst}
use prog.Atomic.{either}
use Rattle.pp_base.specs.Passes.{known, view}
use Rattle.pp_base.proofs.Telling.{telling}
use Rattle.pp_queues.specs.Queues.{Queues}
use Rattle.pp_queues.specs.Turns.{MayAdvance, Advanced}
use Rattle.pp_queues.proofs.Moving.{advances}
use Rattle.pp_base.proofs.Staying.{keeping_stays, same_stays}
use Rattle.pp_queue.proofs.Staying.{advanced_stays}
use Rattle.pp_queue.proofs.steps.advance.Goals as goal

pub exchange_word-requires-clause-allows : goal.exchange_word-requires-clause-allows
exchange_word-requires-clause-allows c = let z = c.args.pool.now.layout in let me = c.args.pass.now.seat.me in
    let q = known c.args.pass.now.seat in
    let first = c.args.first in let new = c.args.new in
    telling 1 _ Queues z 0 _ me _ (λ n. either (eqb n first) new n)
    (λ n m'. (m'.1 ≡ []) × Advanced c.head_word-place.result first new n me.0 m'.0)
    (advances _ z 0 _ _ first new me c.args.pass.now.keeping.lone
    (subst (λ (p : ℕ). MayAdvance z q p first new) (sym c.head_word-place.ensures) c.requires.may))
    (λ n m t. (advanced_stays t.0 _ first new n t.1).lone)

pub invariant_of-pass : goal.invariant_of-pass
invariant_of-pass c = let pass = c.args.pass.now in let t = c.exchange_word.ensures.told in
    let seat = c.exchange_word.new.seat in record {
      keeping = keeping_stays 1 1 pass.seat seat _ _ _ _ _ pass.keeping t.1 (advanced_stays t.0.0 _ _ _ _ t.0.1);
      run = c.exchange_word.ensures.run;
    }

pub returns : goal.returns
returns c = let pass = c.args.pass.now in let t = c.exchange_word.ensures.told in let seat = c.exchange_word.new.seat in
    let result = c.exchange_word.result in record {
      same = same_stays pass.seat seat (advanced_stays t.0.0 _ _ _ _ t.0.1) c.exchange_word.ensures.table;
      advanced = subst (λ (p : ℕ). Advanced p c.args.first c.args.new result (view pass.seat)
          (view seat)) c.head_word-place.ensures t.0.1;
      walk = refl;
      purse = refl;
    }
