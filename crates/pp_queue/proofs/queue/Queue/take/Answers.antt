use Rattle.std.proofs.Common.{◌≡◌, ◌≤◌, ℕ, length, sym, ◌∙◌, subst, arith}
use Rattle.pp_base.specs.Passes.{known, view}
use Rattle.pp_base.proofs.Chaining.{chains_count}
use Rattle.pp_calls.proofs.Purses.{same_share}
use Rattle.pp_queues.specs.declared.calls.QueueCall.TheVariants as call
use Rattle.pp_queues.specs.Calls.{queue_view, AnswersQueue, take_answer}
use Rattle.pp_queue.specs.Answers.{Tidies}
use Rattle.pp_queue.proofs.Called.{walk_zero, empty_of, own_of, take_answered}
use Rattle.pp_queue.proofs.queue.Queue.take.Goals as goal

pub take_value-answer-requires-clause-empty : goal.take_value-answer-requires-clause-empty
take_value-answer-requires-clause-empty c = let pass = c.args.pass.now in
    empty_of _ (known pass.seat) _ pass.keeping.pass pass.keeping.walk_is c.requires.ready.idle.0

pub returns-clause-ready : goal.returns-clause-ready
returns-clause-ready c = let a = c.take_value-answer.ensures in let f = c.finish.ensures in
    let pass = c.take_value-answer.new.pass in
    let last = c.finish.new.pass in let ready = c.requires.ready in let z = c.args.self.now.pool.layout in
    let v0 = view c.args.pass.now.seat in let v1 = view pass.seat in let w = view last.seat in let p0 = c.args.pass.now.purse in
    let count = chains_count w.known.chains last.purse.chains.items last.keeping.chains in let few = last.keeping.few in
    let four : length w.known.chains ≤ 4 = omega arith in record {
      fits = record {
        table_is = f.same.table_is ∙ (a.same.table_is ∙ ready.fits.table_is);
        sizes = f.same.sizes ∙ (a.same.sizes ∙ ready.fits.sizes);
      };
      idle = (
        f.walk ∙ walk_zero (known pass.seat) _ pass.keeping.pass.five pass.keeping.walk_is a.empty,
        f.tidies.counts.going ∙ (a.purse.going ∙ ready.idle.1),
        f.tidies.counts.taken ∙ (a.purse.taken ∙ ready.idle.2),
      );
      rest = f.rest;
      stands = (take_answered z c.args.races v0 v1 w p0 pass.purse last.purse pass.share c.requires.races f.idles f.tidies
          a.purse four
          (own_of last.seat last.keeping.lone last.run) ready.stands ready.up c.take_value-answer.result a.says).stands;
      up = λ one. f.up (a.up (ready.up one));
    }

pub returns-clause-answered : goal.returns-clause-answered
returns-clause-answered c = let a = c.take_value-answer.ensures in let f = c.finish.ensures in
    let pass = c.take_value-answer.new.pass in
    let last = c.finish.new.pass in let ready = c.requires.ready in let z = c.args.self.now.pool.layout in
    let v0 = view c.args.pass.now.seat in let v1 = view pass.seat in let w = view last.seat in let p0 = c.args.pass.now.purse in
    let share : ℕ = c.args.pass.now.share in
    let share1 : pass.share ≡ share = same_share 1 1 c.args.pass.now.seat pass.seat _ _ _ _ _ _ _ _ c.args.pass.now.keeping
    pass.keeping a.same in
    let share2 : last.share ≡ pass.share = same_share 1 1 pass.seat last.seat _ _ _ _ _ _ _ _ pass.keeping last.keeping f.same in
    let count = chains_count w.known.chains last.purse.chains.items last.keeping.chains in let few = last.keeping.few in
    let four : length w.known.chains ≤ 4 = omega arith in
    subst (λ (n : ℕ). AnswersQueue z call.Take c.args.races (queue_view v0 p0.free.items share)
    (queue_view w last.purse.free.items n)
    (take_answer c.take_value-answer.result)) (sym (share2 ∙ share1))
    (take_answered z c.args.races v0 v1 w p0 pass.purse last.purse share c.requires.races f.idles
    (subst (λ (n : ℕ). Tidies z n v1 w pass.purse last.purse) share1 f.tidies) a.purse four
    (own_of last.seat last.keeping.lone last.run) ready.stands ready.up c.take_value-answer.result a.says)
