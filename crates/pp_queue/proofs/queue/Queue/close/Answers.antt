use Rattle.std.proofs.Common.{◌++◌, ℕ, List, map, length, sym, ap, ◌∙◌, subst, arith}
use Rattle.pp_model.specs.declared.Pair.{Pair}
use Rattle.pp_base.specs.Passes.{view}
use Rattle.pp_queue.specs.Closings.{IsClosing, queue_run}
use Rattle.pp_queue.specs.Passes.{pass_seen}
use Rattle.pp_queue.proofs.Ending.{closes, few_items, position_of}
use Rattle.pp_queue.proofs.queue.Queue.close.Goals as goal

pub close-requires-clause-each : goal.close-requires-clause-each
close-requires-clause-each c = λ k p at. ((c.requires.ready k p at).fits, c.requires.numbered k p at)

pub close-requires-clause-idle : goal.close-requires-clause-idle
close-requires-clause-idle c = λ k p at. (c.requires.ready k p at).idle

pub enter_values-requires : goal.enter_values-requires
enter_values-requires c = let z = c.args.self.pool.layout in
    let few = few_items c.args.passes.items (λ p. p.seat) (λ p. p.purse.free.items)
    (λ p. p.share) z c.in-Ok-close.closed.contents.items c.in-Ok-close.closed.free.items c.in-Ok-close.closed.witness.live.items
    (view c.in-Ok-close.closed.witness.seat) c.in-Ok-close.ensures.closed c.requires.all c.requires.numbered in
    let room = c.in-Ok.ensures.capacity in let none = ap (λ (l : List ℕ). length l) c.in-Ok.ensures.items in
    let same = ap (λ (l : List Pair). length l) c.contents.ensures in
    let records = ap (λ s. s.records) c.sizes-records.ensures.same in omega arith

pub returns-in-Ok-close-clause-closed : goal.returns-in-Ok-close-clause-closed
returns-in-Ok-close-clause-closed c = let z = c.args.self.pool.layout in let closed = c.in-Ok-close.closed in
    let all = closes c.args.passes.items (λ p. p.seat) (λ p. p.purse.free.items)
    (λ p. p.share) z closed.contents.items closed.free.items closed.witness.live.items
    (view closed.witness.seat) c.in-Ok-close.ensures.closed c.requires.all c.requires.numbered
    (λ p i. let at = position_of p c.args.passes.items i in (c.requires.ready at.0 p at.1).fits.sizes) in
    let items = c.enter_values.ensures ∙ (ap (λ (l : List ℕ). l ++ map
    (λ (p : Pair). p.value) c.contents.result.now) c.in-Ok.ensures.items
    ∙ ap (map (λ (p : Pair). p.value)) c.contents.ensures) in
    subst (λ (l : List ℕ). IsClosing z (map (λ p. pass_seen p) c.args.passes.items) l closed.free.items
    (queue_run (view closed.witness.seat) closed.witness.live.items)) (sym items) all
