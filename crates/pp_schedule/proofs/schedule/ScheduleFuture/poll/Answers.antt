use Rattle.std.proofs.Common.{◌≡◌, Some, []}
use Rattle.std.proofs.Common.{arith, sym, ap, ◌∙◌}
use Rattle.pp_schedule.specs.Seats.{calls_of}
use Rattle.pp_schedule.proofs.Moved.{some_same}
use Rattle.pp_schedule.proofs.schedule.ScheduleFuture.poll.Goals as goal

pub returns-then-more-clause-again : goal.returns-then-more-clause-again
returns-then-more-clause-again g c =
    let note_is : c.args.self.now.note ≡ Some c.in-Some-take.note = sym c.take.ensures.value ∙ c.in-Some-take.is in
    let q = rw (c.in-Some.is, note_is) at c.requires.1 in
    let o = c.one_turn-note.ensures.on c.if-more.true q.1.0 q.1.1 q.1.2 q.1.3 q.1.4 in
    rw c.yield_now.ensures.pending (
      c.requires.0,
      (
        (λ k x at. let l = q.0 k x at in omega (arith, l, c.one_turn-note.ensures.as_many)),
        (o.0, o.1, o.2, o.3, o.4),
      ),
    )

pub returns-else-more-clause-value : goal.returns-else-more-clause-value
returns-else-more-clause-value g c =
    let note_is : c.args.self.now.note ≡ Some c.in-Some-take.note = sym c.take.ensures.value ∙ c.in-Some-take.is in
    let over = c.one_turn-note.ensures.over c.if-more.false in
    let out : c.one_turn-note.new.callers ≡ c.unwrap.result = some_same (sym c.take-else-more.ensures.value ∙ c.unwrap.ensures) in
    let items : c.in-Some.callers.items ≡ c.unwrap.result.items = sym over.0 ∙ ap (λ v. v.items) out in
    rw (c.in-Some.is, note_is) (λ s seen may told counted. (
      [],
      s,
      rw c.as_slice.ensures.value at (over.1 s seen),
      rw (← items) seen,
      sym (ap calls_of items),
    ))
