use Rattle.std.proofs.Common.{◌≡◌, ◌≤◌, ◌+◌, ◌-◌, ℕ, List, [], ◌∷◌, length, length-append, sym, ap, ◌∙◌, subst, arith}
use Rattle.std.proofs.Common.{Ok, Err}
use Rattle.pp_base.specs.Passes.{known, view}
use Rattle.pp_base.proofs.Chaining.{chains_count}
use Rattle.pp_calls.proofs.Purses.{same_share}
use Rattle.pp_model.specs.declared.InsertFault.TheVariants as fault
use Rattle.pp_queues.specs.declared.calls.QueueCall.TheVariants as call
use Rattle.pp_queues.specs.Calls.{queue_view, AnswersQueue, put_answer}
use Rattle.pp_queue.specs.Calling.{HasRecord}
use Rattle.pp_queue.specs.Answers.{Idles, Tidies, GaveUp}
use Rattle.pp_queue.proofs.Idling.{idles_both}
use Rattle.pp_queue.proofs.Turning.{rest_same_lists}
use Rattle.pp_queue.proofs.Called.{walk_zero, own_of, same_then, put_full, put_done, put_lost}
use Rattle.pp_queue.proofs.queue.Queue.put.Goals as goal
use Rattle.pp_queue.proofs.Finding.{up_seat}

pub returns-in_default-clause-ready : goal.returns-in_default-clause-ready
returns-in_default-clause-ready c = let z = c.args.self.now.pool.layout in let pass = c.args.pass.now in
    let last = c.take_record.new.pass in
    let t = c.take_record.ensures in let ready = c.requires.ready in let out = c.in_default.ensures.none in
    let v = view pass.seat in let w = view last.seat in
    let count = chains_count w.known.chains last.purse.chains.items last.keeping.chains in let few = last.keeping.few in
    let four : length w.known.chains ≤ 4 = omega arith in record {
      fits = record { table_is = t.same.table_is ∙ ready.fits.table_is; sizes = t.same.sizes ∙ ready.fits.sizes };
      idle = (t.walk ∙ ready.idle.0, out.going ∙ ready.idle.1, out.taken ∙ ready.idle.2);
      rest = t.rest;
      stands = (put_full z c.args.races c.args.value v w pass.purse last.purse pass.share c.requires.races t.idles out four
          (own_of last.seat last.keeping.lone last.run) ready.stands).stands;
      up = λ one. t.up (ready.up one);
    }

pub returns-in_default-clause-answered : goal.returns-in_default-clause-answered
returns-in_default-clause-answered c = let z = c.args.self.now.pool.layout in let pass = c.args.pass.now in
    let last = c.take_record.new.pass in
    let t = c.take_record.ensures in let ready = c.requires.ready in let out = c.in_default.ensures.none in
    let v = view pass.seat in let w = view last.seat in
    let count = chains_count w.known.chains last.purse.chains.items last.keeping.chains in let few = last.keeping.few in
    let four : length w.known.chains ≤ 4 = omega arith in
    let share : last.share ≡ pass.share = same_share 1 1 pass.seat last.seat _ _ _ _ _ _ _ _ pass.keeping last.keeping t.same in
    subst (λ (n : ℕ). AnswersQueue z (call.Put c.args.value) c.args.races (queue_view v pass.purse.free.items pass.share)
    (queue_view w last.purse.free.items n) (put_answer (Err fault.Full))) (sym share)
    (put_full z c.args.races c.args.value v w pass.purse last.purse pass.share c.requires.races t.idles out four
    (own_of last.seat last.keeping.lone last.run) ready.stands)

pub finish-requires-clause-rest : goal.finish-requires-clause-rest
finish-requires-clause-rest c = let z = c.args.self.now.pool.layout in let pass = c.args.pass.now in
    let p1 = c.take_record.new.pass in let p2 = c.fill.new.pass in
    let p3 = c.link_record.new.pass in let ready = c.requires.ready in let t = c.take_record.ensures in
    let has = c.in-Some.ensures.some in
    let f = c.fill.ensures in let l = c.in-Ok.ensures in
    rest_same_lists (known p1.seat) (known c.published.new.pass.seat) p1.purse c.published.new.pass.purse
    (ap (λ s. (known s).scan) c.published.ensures.seat ∙ (l.lists.scan ∙ f.lists.scan))
    (ap (λ s. (known s).chains) c.published.ensures.seat ∙ (l.lists.chains ∙ f.lists.chains))
    (ap (λ s. (known s).frontier) c.published.ensures.seat ∙ (l.lists.frontier ∙ f.lists.frontier))
    (ap (λ p. p.spent) c.published.ensures.purse ∙ ap (λ p. p.spent) (l.purse ∙ f.purse)) t.rest

pub finish-requires-in-Err-clause-rest : goal.finish-requires-in-Err-clause-rest
finish-requires-in-Err-clause-rest c = let z = c.args.self.now.pool.layout in let pass = c.args.pass.now in
    let p1 = c.take_record.new.pass in let p2 = c.fill.new.pass in
    let p3 = c.link_record.new.pass in let ready = c.requires.ready in let t = c.take_record.ensures in
    let has = c.in-Some.ensures.some in
    let f = c.fill.ensures in let l = c.in-Err.ensures in
    rest_same_lists (known p1.seat) (known c.give_back.new.pass.seat) p1.purse c.give_back.new.pass.purse
    (ap (λ s. (known s).scan) c.give_back.ensures.seat ∙ (l.lists.scan ∙ f.lists.scan))
    (ap (λ s. (known s).chains) c.give_back.ensures.seat ∙ (l.lists.chains ∙ f.lists.chains))
    (ap (λ s. (known s).frontier) c.give_back.ensures.seat ∙ (l.lists.frontier ∙ f.lists.frontier))
    (c.give_back.ensures.purse.spent ∙ ap (λ p. p.spent) (l.purse ∙ f.purse)) t.rest

pub returns-in-Ok-clause-ready : goal.returns-in-Ok-clause-ready
returns-in-Ok-clause-ready c = let z = c.args.self.now.pool.layout in let pass = c.args.pass.now in
    let p1 = c.take_record.new.pass in let p2 = c.fill.new.pass in
    let p3 = c.link_record.new.pass in let ready = c.requires.ready in let t = c.take_record.ensures in
    let has = c.in-Some.ensures.some in
    let f = c.fill.ensures in let l = c.in-Ok.ensures in
    let p4 = c.published.new.pass in let p5 = c.finish.new.pass in let e = c.finish.ensures in
    let v0 = view pass.seat in let v2 = view p2.seat in let v3 = view p3.seat in let w = view p5.seat in
    let idles = subst (λ s. Idles z.passes (view s) w) c.published.ensures.seat e.idles in
    let tidy = subst (λ s. Tidies z p4.share (view s) w p4.purse p5.purse) c.published.ensures.seat e.tidies in
    let pre = idles_both z.passes v0 (view p1.seat) v2 t.same.number t.idles f.idles in
    let record_is = subst (λ (n : ℕ). HasRecord (known p2.seat) p2.purse n c.args.value) (sym c.number.ensures) f.has in
    let says = l.says c.args.value record_is in
    let count = chains_count w.known.chains p5.purse.chains.items p5.keeping.chains in let few = p5.keeping.few in
    let four : length w.known.chains ≤ 4 = omega arith in
    let own = own_of p5.seat p5.keeping.lone p5.run in
    let same24 = same_then p2.seat p3.seat p4.seat l.same c.published.ensures.seat in
    let share1 : p1.share ≡ pass.share = same_share 1 1 pass.seat p1.seat _ _ _ _ _ _ _ _ pass.keeping p1.keeping t.same in
    let share2 : p2.share ≡ p1.share = same_share 1 1 p1.seat p2.seat _ _ _ _ _ _ _ _ p1.keeping p2.keeping f.same in
    let share4 : p4.share ≡ p2.share = same_share 1 1 p2.seat p4.seat _ _ _ _ _ _ _ _ p2.keeping p4.keeping same24 in
    let share5 : p5.share ≡ p4.share = same_share 1 1 p4.seat p5.seat _ _ _ _ _ _ _ _ p4.keeping p5.keeping e.same in
    let first = f.same.number ∙ t.same.number in
    let kept : length pass.purse.free.items ≤ length p4.purse.free.items + 1 = (let k = has.kept in
    let a = ap (λ p. length p.free.items) (l.purse ∙ f.purse) in
    let b = ap (λ p. length p.free.items) c.published.ensures.purse in omega arith) in record {
      fits = record {
        table_is = e.same.table_is ∙ (same24.table_is ∙ (f.same.table_is ∙ (t.same.table_is ∙ ready.fits.table_is)));
        sizes = e.same.sizes ∙ (same24.sizes ∙ (f.same.sizes ∙ (t.same.sizes ∙ ready.fits.sizes)));
      };
      idle = (
        e.walk ∙ (c.published.ensures.walk ∙ walk_zero (known p3.seat) _ p3.keeping.pass.five p3.keeping.walk_is l.empty),
        e.tidies.counts.going ∙ ((ap (λ p. p.going) c.published.ensures.purse
            ∙ (ap (λ p. p.going) (l.purse ∙ f.purse) ∙ has.going)) ∙ ready.idle.1),
        e.tidies.counts.taken ∙ (ap (λ p. p.taken) c.published.ensures.purse
            ∙ ap (λ (n : ℕ). n - 1) (ap (λ p. p.taken) (l.purse ∙ f.purse) ∙ has.out)),
      );
      rest = e.rest;
      stands = (put_done z c.args.races c.args.value v0 v2 v3 w pass.purse p4.purse p5.purse p4.share pre idles tidy four own
          ready.stands first kept (λ one. f.up (t.up (ready.up one))) says).stands;
      up = λ one. e.up (up_seat p3.seat p4.seat c.published.ensures.seat (says.up one (f.up (t.up (ready.up one)))));
    }

pub returns-in-Ok-clause-answered : goal.returns-in-Ok-clause-answered
returns-in-Ok-clause-answered c = let z = c.args.self.now.pool.layout in let pass = c.args.pass.now in
    let p1 = c.take_record.new.pass in let p2 = c.fill.new.pass in
    let p3 = c.link_record.new.pass in let ready = c.requires.ready in let t = c.take_record.ensures in
    let has = c.in-Some.ensures.some in
    let f = c.fill.ensures in let l = c.in-Ok.ensures in
    let p4 = c.published.new.pass in let p5 = c.finish.new.pass in let e = c.finish.ensures in
    let v0 = view pass.seat in let v2 = view p2.seat in let v3 = view p3.seat in let w = view p5.seat in
    let idles = subst (λ s. Idles z.passes (view s) w) c.published.ensures.seat e.idles in
    let tidy = subst (λ s. Tidies z p4.share (view s) w p4.purse p5.purse) c.published.ensures.seat e.tidies in
    let pre = idles_both z.passes v0 (view p1.seat) v2 t.same.number t.idles f.idles in
    let record_is = subst (λ (n : ℕ). HasRecord (known p2.seat) p2.purse n c.args.value) (sym c.number.ensures) f.has in
    let says = l.says c.args.value record_is in
    let count = chains_count w.known.chains p5.purse.chains.items p5.keeping.chains in let few = p5.keeping.few in
    let four : length w.known.chains ≤ 4 = omega arith in
    let own = own_of p5.seat p5.keeping.lone p5.run in
    let same24 = same_then p2.seat p3.seat p4.seat l.same c.published.ensures.seat in
    let share1 : p1.share ≡ pass.share = same_share 1 1 pass.seat p1.seat _ _ _ _ _ _ _ _ pass.keeping p1.keeping t.same in
    let share2 : p2.share ≡ p1.share = same_share 1 1 p1.seat p2.seat _ _ _ _ _ _ _ _ p1.keeping p2.keeping f.same in
    let share4 : p4.share ≡ p2.share = same_share 1 1 p2.seat p4.seat _ _ _ _ _ _ _ _ p2.keeping p4.keeping same24 in
    let share5 : p5.share ≡ p4.share = same_share 1 1 p4.seat p5.seat _ _ _ _ _ _ _ _ p4.keeping p5.keeping e.same in
    let first = f.same.number ∙ t.same.number in
    let kept : length pass.purse.free.items ≤ length p4.purse.free.items + 1 = (let k = has.kept in
    let a = ap (λ p. length p.free.items) (l.purse ∙ f.purse) in
    let b = ap (λ p. length p.free.items) c.published.ensures.purse in omega arith) in
    subst (λ (n : ℕ). AnswersQueue z (call.Put c.args.value) c.args.races (queue_view v0 pass.purse.free.items pass.share)
    (queue_view w p5.purse.free.items n) (put_answer (Ok tt))) (sym (share5 ∙ (share4 ∙ (share2 ∙ share1))))
    (put_done z c.args.races c.args.value v0 v2 v3 w pass.purse p4.purse p5.purse pass.share pre idles
    (subst (λ (n : ℕ). Tidies z n v3 w p4.purse p5.purse) (share4
    ∙ (share2 ∙ share1)) tidy) four own ready.stands first kept (λ one. f.up (t.up (ready.up one))) says)

pub returns-in-Err-clause-ready : goal.returns-in-Err-clause-ready
returns-in-Err-clause-ready c = let z = c.args.self.now.pool.layout in let pass = c.args.pass.now in
    let p1 = c.take_record.new.pass in let p2 = c.fill.new.pass in
    let p3 = c.link_record.new.pass in let ready = c.requires.ready in let t = c.take_record.ensures in
    let has = c.in-Some.ensures.some in
    let f = c.fill.ensures in let l = c.in-Err.ensures in
    let p4 = c.give_back.new.pass in let p5 = c.finish-in-Err.new.pass in let e = c.finish-in-Err.ensures in
    let v0 = view pass.seat in let v2 = view p2.seat in let v3 = view p3.seat in let w = view p5.seat in
    let idles = subst (λ s. Idles z.passes (view s) w) c.give_back.ensures.seat e.idles in
    let tidy = subst (λ s. Tidies z p4.share (view s) w p4.purse p5.purse) c.give_back.ensures.seat e.tidies in
    let pre = idles_both z.passes v0 (view p1.seat) v2 t.same.number t.idles f.idles in
    let record_is = subst (λ (n : ℕ). HasRecord (known p2.seat) p2.purse n c.args.value) (sym c.number.ensures) f.has in
    let says = l.says c.args.value record_is in
    let count = chains_count w.known.chains p5.purse.chains.items p5.keeping.chains in let few = p5.keeping.few in
    let four : length w.known.chains ≤ 4 = omega arith in
    let own = own_of p5.seat p5.keeping.lone p5.run in
    let same24 = same_then p2.seat p3.seat p4.seat l.same c.give_back.ensures.seat in
    let share1 : p1.share ≡ pass.share = same_share 1 1 pass.seat p1.seat _ _ _ _ _ _ _ _ pass.keeping p1.keeping t.same in
    let share2 : p2.share ≡ p1.share = same_share 1 1 p1.seat p2.seat _ _ _ _ _ _ _ _ p1.keeping p2.keeping f.same in
    let share4 : p4.share ≡ p2.share = same_share 1 1 p2.seat p4.seat _ _ _ _ _ _ _ _ p2.keeping p4.keeping same24 in
    let share5 : p5.share ≡ p4.share = same_share 1 1 p4.seat p5.seat _ _ _ _ _ _ _ _ p4.keeping p5.keeping e.same in
    let first = f.same.number ∙ t.same.number in
    let kept : length pass.purse.free.items ≤ length p4.purse.free.items + 1 = (let k = has.kept in
    let a = ap (λ p. length p.free.items) (l.purse ∙ f.purse) in
    let b = ap (λ (ns : List ℕ). length ns) c.give_back.ensures.purse.free
    ∙ length-append p3.purse.free.items (c.in-Some.fresh.number ∷ []) in omega arith) in record {
      fits = record {
        table_is = e.same.table_is ∙ (same24.table_is ∙ (f.same.table_is ∙ (t.same.table_is ∙ ready.fits.table_is)));
        sizes = e.same.sizes ∙ (same24.sizes ∙ (f.same.sizes ∙ (t.same.sizes ∙ ready.fits.sizes)));
      };
      idle = (
        e.walk ∙ (c.give_back.ensures.walk ∙ walk_zero (known p3.seat) _ p3.keeping.pass.five p3.keeping.walk_is l.empty),
        e.tidies.counts.going ∙ ((c.give_back.ensures.purse.going ∙ (ap (λ p. p.going) (l.purse ∙ f.purse) ∙ has.going))
            ∙ ready.idle.1),
        e.tidies.counts.taken ∙ (let a = c.give_back.ensures.purse.taken in
            let b = ap (λ p. p.taken) (l.purse ∙ f.purse) ∙ has.out in omega arith),
      );
      rest = e.rest;
      stands = (put_lost z c.args.races c.args.value v0 v2 v3 w pass.purse p4.purse p5.purse p4.share pre idles tidy four own
          ready.stands first kept (λ one. f.up (t.up (ready.up one))) c.in-Err.turns
          (subst (λ (n : ℕ). GaveUp z.passes n c.args.races v2 v3) c.in-Err.turns-is says)).stands;
      up = λ one. absurd (says.others one (f.up (t.up (ready.up one))));
    }

pub returns-in-Err-clause-answered : goal.returns-in-Err-clause-answered
returns-in-Err-clause-answered c = let z = c.args.self.now.pool.layout in let pass = c.args.pass.now in
    let p1 = c.take_record.new.pass in let p2 = c.fill.new.pass in
    let p3 = c.link_record.new.pass in let ready = c.requires.ready in let t = c.take_record.ensures in
    let has = c.in-Some.ensures.some in
    let f = c.fill.ensures in let l = c.in-Err.ensures in
    let p4 = c.give_back.new.pass in let p5 = c.finish-in-Err.new.pass in let e = c.finish-in-Err.ensures in
    let v0 = view pass.seat in let v2 = view p2.seat in let v3 = view p3.seat in let w = view p5.seat in
    let idles = subst (λ s. Idles z.passes (view s) w) c.give_back.ensures.seat e.idles in
    let tidy = subst (λ s. Tidies z p4.share (view s) w p4.purse p5.purse) c.give_back.ensures.seat e.tidies in
    let pre = idles_both z.passes v0 (view p1.seat) v2 t.same.number t.idles f.idles in
    let record_is = subst (λ (n : ℕ). HasRecord (known p2.seat) p2.purse n c.args.value) (sym c.number.ensures) f.has in
    let says = l.says c.args.value record_is in
    let count = chains_count w.known.chains p5.purse.chains.items p5.keeping.chains in let few = p5.keeping.few in
    let four : length w.known.chains ≤ 4 = omega arith in
    let own = own_of p5.seat p5.keeping.lone p5.run in
    let same24 = same_then p2.seat p3.seat p4.seat l.same c.give_back.ensures.seat in
    let share1 : p1.share ≡ pass.share = same_share 1 1 pass.seat p1.seat _ _ _ _ _ _ _ _ pass.keeping p1.keeping t.same in
    let share2 : p2.share ≡ p1.share = same_share 1 1 p1.seat p2.seat _ _ _ _ _ _ _ _ p1.keeping p2.keeping f.same in
    let share4 : p4.share ≡ p2.share = same_share 1 1 p2.seat p4.seat _ _ _ _ _ _ _ _ p2.keeping p4.keeping same24 in
    let share5 : p5.share ≡ p4.share = same_share 1 1 p4.seat p5.seat _ _ _ _ _ _ _ _ p4.keeping p5.keeping e.same in
    let first = f.same.number ∙ t.same.number in
    let kept : length pass.purse.free.items ≤ length p4.purse.free.items + 1 = (let k = has.kept in
    let a = ap (λ p. length p.free.items) (l.purse ∙ f.purse) in
    let b = ap (λ (ns : List ℕ). length ns) c.give_back.ensures.purse.free
    ∙ length-append p3.purse.free.items (c.in-Some.fresh.number ∷ []) in omega arith) in
    subst (λ (n : ℕ). AnswersQueue z (call.Put c.args.value) c.args.races (queue_view v0 pass.purse.free.items pass.share)
    (queue_view w p5.purse.free.items n) (put_answer (Err (fault.Lost c.in-Err.field-0.turns)))) (sym (share5
    ∙ (share4 ∙ (share2 ∙ share1))))
    (put_lost z c.args.races c.args.value v0 v2 v3 w pass.purse p4.purse p5.purse pass.share pre idles
    (subst (λ (n : ℕ). Tidies z n v3 w p4.purse p5.purse) (share4
    ∙ (share2 ∙ share1)) tidy) four own ready.stands first kept (λ one. f.up (t.up (ready.up one))) c.in-Err.field-0.turns says)
