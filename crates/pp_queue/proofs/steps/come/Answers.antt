use Rattle.std.proofs.Common.{◌≡◌, ℕ, [], eqb, refl, sym, ap, ◌∙◌, subst}
use Rattle.pp_link.specs.Places.{head_place}
use Rattle.pp_base.specs.Passes.{known, view}
use Rattle.pp_base.proofs.Telling.{telling}
use Rattle.pp_queues.specs.Queues.{Queues}
use Rattle.pp_queues.specs.Turns.{Came}
use Rattle.pp_queues.proofs.Loading.{comes}
use Rattle.pp_base.proofs.Staying.{keeping_stays, same_stays}
use Rattle.pp_queue.proofs.Staying.{came_stays, end_is}
use Rattle.pp_queue.proofs.steps.come.Goals as goal

pub load_word-requires-clause-allows : goal.load_word-requires-clause-allows
load_word-requires-clause-allows c = let z = c.args.pool.now.layout in let me = c.args.pass.now.seat.me in
    let q = known c.args.pass.now.seat in
    telling 1 _ Queues z 0 _ me _ (λ n. n) (λ n m'. (m'.1 ≡ []) × Came c.args.word
    (eqb c.args.head 0) c.args.first n c.head_word-place.result me.0 m'.0)
    (comes _ z 0 _ _ c.args.word (eqb c.args.head 0) c.args.first me c.args.pass.now.keeping.lone c.requires.two c.requires.word
    c.requires.free
    c.requires.named c.requires.valid c.requires.record (c.head_word-place.ensures
    ∙ ap (head_place z) (sym (end_is c.args.head c.requires.head))))
    (λ n m t. (came_stays t.0 c.args.word (eqb c.args.head 0) c.args.first n _ c.requires.named t.1).lone)

pub invariant_of-pass : goal.invariant_of-pass
invariant_of-pass c = let pass = c.args.pass.now in let t = c.load_word.ensures.told in let seat = c.load_word.new.seat in
    record {
      keeping = keeping_stays 1 1 pass.seat seat _ _ _ _ _ pass.keeping t.1
          (came_stays t.0.0 c.args.word (eqb c.args.head 0) c.args.first _ _ c.requires.named t.0.1);
      run = c.load_word.ensures.run;
    }

pub returns : goal.returns
returns c = let pass = c.args.pass.now in let t = c.load_word.ensures.told in let seat = c.load_word.new.seat in
    let result = c.load_word.result in record {
      same = same_stays pass.seat seat (came_stays t.0.0 c.args.word (eqb c.args.head 0) c.args.first _ _ c.requires.named t.0.1)
          c.load_word.ensures.table;
      came = subst (λ (p : ℕ). Came c.args.word (eqb c.args.head 0) c.args.first result p (view pass.seat)
          (view seat)) c.head_word-place.ensures t.0.1;
      walk = refl;
      purse = refl;
    }
