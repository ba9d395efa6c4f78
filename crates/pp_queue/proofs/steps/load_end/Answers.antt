use Rattle.std.proofs.Common.{◌≡◌, ℕ, [], eqb, refl, sym, ap, ◌∙◌, subst}
use Rattle.pp_link.specs.Places.{head_place}
use Rattle.pp_base.specs.Passes.{known, view}
use Rattle.pp_base.proofs.Telling.{telling}
use Rattle.pp_queues.specs.Queues.{Queues}
use Rattle.pp_queues.specs.Turns.{Ends}
use Rattle.pp_queues.proofs.Loading.{loads_end}
use Rattle.pp_base.proofs.Staying.{keeping_stays, same_stays}
use Rattle.pp_queue.proofs.Staying.{ends_stays, end_is}
use Rattle.pp_queue.proofs.steps.load_end.Goals as goal

pub load_word-requires-clause-allows : goal.load_word-requires-clause-allows
load_word-requires-clause-allows c = let z = c.args.pool.now.layout in let me = c.args.pass.now.seat.me in
    let q = known c.args.pass.now.seat in
    telling 1 _ Queues z 0 _ me _ (λ n. n) (λ n m'. (m'.1 ≡ []) × Ends c.head_word-place.result n me.0 m'.0)
    (loads_end _ z 0 _ _ (eqb c.args.head 0) me c.args.pass.now.keeping.lone c.requires.two (c.head_word-place.ensures
    ∙ ap (head_place z) (sym (end_is c.args.head c.requires.head))))
    (λ n m t. (ends_stays t.0 _ n t.1).lone)

pub invariant_of-pass : goal.invariant_of-pass
invariant_of-pass c = let pass = c.args.pass.now in let t = c.load_word.ensures.told in let seat = c.load_word.new.seat in
    record {
      keeping = keeping_stays 1 1 pass.seat seat _ _ _ _ _ pass.keeping t.1 (ends_stays t.0.0 _ _ t.0.1);
      run = c.load_word.ensures.run;
    }

pub returns : goal.returns
returns c = let pass = c.args.pass.now in let t = c.load_word.ensures.told in let seat = c.load_word.new.seat in
    let result = c.load_word.result in record {
      same = same_stays pass.seat seat (ends_stays t.0.0 _ _ t.0.1) c.load_word.ensures.table;
      ends = subst (λ (p : ℕ). Ends p result (view pass.seat) (view seat)) c.head_word-place.ensures t.0.1;
      walk = refl;
      purse = refl;
    }
