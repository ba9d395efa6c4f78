use Rattle.std.proofs.Common.{ℕ, sym, ap, ◌∙◌, subst}
use Rattle.pp_rule.proofs.Made.{known_after}
use Rattle.pp_base.specs.Passes.{known, view}
use Rattle.pp_queues.specs.Queues.{QueuePass}
use Rattle.pp_queue.specs.Calling.{HasRecord}
use Rattle.pp_queue.proofs.Called.{empty_of}
use Rattle.pp_queue.proofs.Whole.{head_word_of, record_on}
use Rattle.pp_queue_scenes.proofs.stalled.stop_a_put.Goals as goal

pub link_alone-requires-clause-record : goal.link_alone-requires-clause-record
link_alone-requires-clause-record g c = let p2 = c.fill.new.pass in let p3 = c.load_end-first.new.pass in
    let e = c.load_end-first.ensures in
    let is = known_after _ _ _ _ _ _ _ (view p2.seat) (view p3.seat) e.ends.made in
    let n = c.number.result in let v = c.args.value in
    let has = subst (λ (m : ℕ). HasRecord (known p2.seat) p2.purse m v) (sym c.number.ensures) c.fill.ensures.has in
    (v, record_on (known p2.seat) (known p3.seat) p2.purse p3.purse n v (ap (λ (q : QueuePass). q.owned) is) e.purse has)

pub link_alone-requires-clause-first : goal.link_alone-requires-clause-first
link_alone-requires-clause-first g c =
    head_word_of _ c.load_end-first.result c.fill.new.pass.keeping.pass.within c.load_end-first.ensures.ends.end

pub link_alone-requires-clause-empty : goal.link_alone-requires-clause-empty
link_alone-requires-clause-empty g c = let p3 = c.load_end-first.new.pass in
    empty_of (known p3.seat).sizes (known p3.seat) p3.walk p3.keeping.pass p3.keeping.walk_is
    (c.load_end-first.ensures.walk ∙ (c.fill.ensures.walk ∙ (c.take_record.ensures.walk ∙ c.requires.ready.idle.0)))
