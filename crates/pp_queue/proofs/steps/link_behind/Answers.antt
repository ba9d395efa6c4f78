use Rattle.std.proofs.Common.{◌≡◌, ℕ, [], eqb, refl, sym, subst}
use prog.Atomic.{either}
use Rattle.pp_base.specs.Passes.{known, view}
use Rattle.pp_base.proofs.Telling.{telling}
use Rattle.pp_queues.specs.Queues.{Queues}
use Rattle.pp_queues.specs.Turns.{MayLink, Linked}
use Rattle.pp_queues.proofs.Putting.{links_one}
use Rattle.pp_queue.specs.Steps.{value_in, LinkedAt}
use Rattle.pp_queue.proofs.Staying.{keeping_linked, same_linked, linked_lone}
use Rattle.pp_queue.proofs.steps.link_behind.Goals as goal

pub exchange_word-requires-clause-allows : goal.exchange_word-requires-clause-allows
exchange_word-requires-clause-allows c = let z = c.args.pool.now.layout in let me = c.args.pass.now.seat.me in
    let q = known c.args.pass.now.seat in
    let may = c.requires.may in let place = c.locate-place.result in let new = c.args.new in
    let here : MayLink z q may.index may.was place (value_in may.was) new =
    subst (λ (p : ℕ). MayLink z q may.index may.was p (value_in may.was) new) (sym c.locate-place.ensures.place) may.may in
    λ s h deep at fits. let r = telling 1 _ Queues z 0 _ me place (λ n. either (eqb n 0) new n)
    (λ n m'. (m'.1 ≡ []) × Linked may.index may.was.number place (value_in may.was) new n me.0 m'.0)
    (links_one _ z 0 _ may.index may.was place (value_in may.was) new me c.args.pass.now.keeping.lone here)
    (λ n m t. linked_lone may.index may.was.number place (value_in may.was) new n me.0 m t.0 t.1) s h deep at fits in (
      r.0,
      r.1,
      r.2,
      r.3,
      (
        (
          r.4.0.0,
          record {
            index = may.index;
            was = may.was;
            at = here.owned_at;
            number_is = may.number_is;
            made = r.4.0.1;
          },
        ),
        r.4.1,
      ),
    )

pub invariant_of-pass : goal.invariant_of-pass
invariant_of-pass c = let pass = c.args.pass.now in let t = c.exchange_word.ensures.told in
    let seat = c.exchange_word.new.seat in record {
      keeping = keeping_linked pass.seat seat _ _ _ _ _ _ _ _ _ pass.keeping t.1 t.0.0 c.requires.may.taken t.0.1;
      run = c.exchange_word.ensures.run;
    }

pub returns : goal.returns
returns c = let pass = c.args.pass.now in let t = c.exchange_word.ensures.told in let seat = c.exchange_word.new.seat in record {
  same = same_linked pass.seat seat _ _ _ _ _ _ _ _ _ pass.keeping t.1 t.0.0 c.requires.may.taken t.0.1
      c.exchange_word.ensures.table;
  linked = subst (λ (p : ℕ). LinkedAt c.args.number p c.args.new c.exchange_word.result (view pass.seat)
      (view seat)) c.locate-place.ensures.place t.0.1;
  walk = refl;
  purse = refl;
}
