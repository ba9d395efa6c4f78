use Rattle.std.proofs.Common.{subst}
use Rattle.pp_model.specs.Lists.{AtEach}
use Rattle.pp_queue.specs.Passes.{IsReady}
use Rattle.pp_queue_scenes.proofs.Staying.{each_before, each_last}
use Rattle.pp_queue_scenes.proofs.stalled.open_three.Goals as goal

pub returns : goal.returns
returns g c = let q = c.open-queue.result.0 in let t = c.take_last-third in let s = c.take_last-second in let f = c.take_last-first in
    let at_third = subst (λ l. AtEach l (λ k p. IsReady q p)) t.ensures c.open-queue.ensures.ready.each in
    let at_second = subst (λ l. AtEach l (λ k p. IsReady q p)) s.ensures
    (each_before (λ p. IsReady q p) t.new.passes.items t.result at_third) in
    let at_first = subst (λ l. AtEach l (λ k p. IsReady q p)) f.ensures
    (each_before (λ p. IsReady q p) s.new.passes.items s.result at_second) in
    record {
      third = each_last (λ p. IsReady q p) t.new.passes.items t.result at_third;
      second = each_last (λ p. IsReady q p) s.new.passes.items s.result at_second;
      first = each_last (λ p. IsReady q p) f.new.passes.items f.result at_first;
    }
