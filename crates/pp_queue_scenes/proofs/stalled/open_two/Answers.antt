use Rattle.std.proofs.Common.{subst}
use Rattle.pp_model.specs.Lists.{AtEach}
use Rattle.pp_queue.specs.Passes.{IsReady}
use Rattle.pp_queue_scenes.proofs.Staying.{each_before, each_last}
use Rattle.pp_queue_scenes.proofs.stalled.open_two.Goals as goal

pub returns-clause-second : goal.returns-clause-second
returns-clause-second g c = let q = c.open-queue.result.0 in let s = c.take_last-second in
    each_last (λ p. IsReady q p) s.new.passes.items s.result
    (subst (λ l. AtEach l (λ k p. IsReady q p)) s.ensures c.open-queue.ensures.ready.each)

pub returns-clause-first : goal.returns-clause-first
returns-clause-first g c = let q = c.open-queue.result.0 in let s = c.take_last-second in let f = c.take_last-first in
    each_last (λ p. IsReady q p) f.new.passes.items f.result
    (subst (λ l. AtEach l (λ k p. IsReady q p)) f.ensures (each_before (λ p. IsReady q p) s.new.passes.items s.result
    (subst (λ l. AtEach l (λ k p. IsReady q p)) s.ensures c.open-queue.ensures.ready.each)))
