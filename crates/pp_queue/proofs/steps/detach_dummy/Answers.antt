use Rattle.std.proofs.Common.{◌≡◌, ℕ, [], eqb, sym, ap, subst}
use prog.Atomic.{either}
use Rattle.pp_link.specs.Links.{target}
use Rattle.pp_base.specs.declared.purse.InHand.{InHand}
use Rattle.pp_base.specs.Passes.{known, in_hand_of}
use Rattle.pp_queues.specs.Queues.{dummy_chain}
use Rattle.pp_queues.specs.Turns.{stand}
use Rattle.pp_queues.proofs.Lining.{leads_to}
use Rattle.pp_queue.proofs.Handing.{keeping_took}
use Rattle.pp_base.proofs.Telling.{telling}
use Rattle.pp_queues.specs.Queues.{Queues}
use Rattle.pp_queues.specs.Turns.{MayTake, Took}
use Rattle.pp_queues.proofs.Taking.{takes_one}
use Rattle.pp_queue.proofs.Staying.{took_lone}
use Rattle.pp_queue.proofs.steps.detach_dummy.Goals as goal

pub exchange_word-found-requires-clause-allows : goal.exchange_word-found-requires-clause-allows
exchange_word-found-requires-clause-allows c = let z = c.args.pool.now.layout in let me = c.args.pass.now.seat.me in
    let q = known c.args.pass.now.seat in
    let first = c.args.first in let new = c.args.new in
    telling 1 _ Queues z 0 _ me _ (λ n. either (eqb n first) new n)
    (λ n m'. (m'.1 ≡ []) × Took c.args.other c.args.guard c.head_word-place.result first new n me.0 m'.0)
    (takes_one _ z 0 _ c.args.other c.args.guard _ first new me c.args.pass.now.keeping.lone
    (subst (λ (p : ℕ). MayTake z q c.args.other c.args.guard p first new) (sym c.head_word-place.ensures) c.requires.may))
    (λ n m t. took_lone c.args.other c.args.guard _ first new n me.0 m t.0 t.1)

pub invariant_of-pass : goal.invariant_of-pass
invariant_of-pass c = let pass = c.args.pass.now in let t = c.exchange_word-found.ensures.told in
    let seat = c.exchange_word-found.new.seat in
    let q = known pass.seat in let first : ℕ = c.args.first in let new : ℕ = c.args.new in let may = c.requires.may in
    let hand : InHand = record { first = target first; guard = c.args.guard; frontier = target new } in
    let dummy : stand q ≡ target first = sym (leads_to first (stand q) may.first_is) in
    let kept : in_hand_of (dummy_chain (stand q) c.args.guard new) ≡ hand =
    ap (λ (n : ℕ). record { first = n; guard = c.args.guard; frontier = target new }) dummy in record {
      keeping = keeping_took pass.seat seat _ _ _ _ _ _ _ _ _ _ _ _ hand pass.keeping t.0.0 t.1 kept c.requires.few
          c.take_in_hand.ensures
          c.if-found-first.true t.0.1;
      run = c.exchange_word-found.ensures.run;
    }
