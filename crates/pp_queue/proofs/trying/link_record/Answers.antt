use Rattle.std.proofs.Common.{◌<◌, ◌+◌, ℕ, length, Bool, refl, sym, ap, ◌∙◌, subst, arith}
use Rattle.pp_rule.specs.Views.{slot}
use Rattle.pp_rule.proofs.Made.{known_after}
use Rattle.pp_base.specs.Passes.{view}
use Rattle.pp_queues.specs.Queues.{QueuePass}
use Rattle.pp_queues.specs.Losses.{losing, Ran}
use Rattle.pp_queues.proofs.Counting.{ran_none, ran_both}
use Rattle.pp_queue.specs.Calling.{IsEmpty, GoesOn, PutRan}
use Rattle.pp_queue.proofs.Going.{rest_self, goes_made, goes_on, goes_self}
use Rattle.pp_queue.proofs.Running.{ran_ends}
use Rattle.pp_queue.proofs.Publishing.{lists_on, lists_rest, put_after}
use Rattle.pp_queue.proofs.Whole.{head_word_of, ended, record_on, struck_on}
use Rattle.pp_queue.proofs.trying.link_record.Goals as goal
use Rattle.std.proofs.Math.Bool.{false≢true}
use Rattle.pp_link.specs.declared.layout.Sizes.{Sizes}
use Rattle.pp_queue.proofs.Standing.{seen_of}
use Rattle.pp_queue.proofs.Finding.{up_made, load_left}

pub again-init : goal.again-init
again-init c = let v0 = view c.args.pass.now.seat in let v1 = view c.load_end-first.new.pass.seat in
    let e = c.load_end-first.ensures.ends in
    let is = known_after _ _ _ _ _ _ _ v0 v1 e.made in let some = c.requires.races in record {
      few = omega arith;
      goes = goes_self v1;
      ran = ran_none c.args.pool.now.layout.passes (losing c.load_end-first.result 0) v1 v1 refl;
      same = record { table_is = refl; number = refl; sizes = refl };
      first = head_word_of _ c.load_end-first.result c.args.pass.now.keeping.pass.within e.end;
      alone = λ one up. (
        up,
        load_left v0 v1 e.made refl (ap (λ (y : Sizes). y.passes) c.requires.fits.sizes ∙ one)
            c.args.pass.now.keeping.pass.pass
            (seen_of c.load_end-first.new.pass.seat c.load_end-first.new.pass.keeping.lone c.load_end-first.new.pass.run) refl,
        refl,
      );
      empty = λ j lo lt. subst (λ (q : QueuePass). IsEmpty (slot q j)) (sym is) (c.requires.empty j lo lt);
      purse = refl;
    }

pub put_turn-requires-clause-record : goal.put_turn-requires-clause-record
put_turn-requires-clause-record c = let v0 = view c.args.pass.now.seat in let v1 = view c.load_end-first.new.pass.seat in
    let w = view c.again.pass.seat in
    let a : GoesOn v0 w = goes_on v0 v1 w (goes_made v0 v1 c.load_end-first.ensures.ends.made
    (rest_self v0.known)) c.again.invariant.goes in (
      c.requires.record.0,
      record_on v0.known w.known c.args.pass.now.purse c.again.pass.purse c.args.number c.requires.record.0
          a.rest.owned
          (c.again.invariant.purse ∙ c.load_end-first.ensures.purse) c.requires.record.1,
    )

pub again-preserved : goal.again-preserved
again-preserved c = let v1 = view c.load_end-first.new.pass.seat in let w = view c.again.pass.seat in
    let x = view c.put_turn.new.pass.seat in
    let y = view c.load_end-first-in-again.new.pass.seat in let ends = c.load_end-first-in-again.ensures.ends in
    let goes = goes_made x y ends.made (rest_self x.known) in let z = c.args.pool.now.layout in let passes = z.passes in
    let n : ℕ = c.again.turns in let next : ℕ = c.load_end-first-in-again.result in
    let turn = subst (λ (b : Bool). PutRan z c.again.first n b w x) c.if-put_turn.false (c.put_turn.ensures.steps n) in
    let is = known_after _ _ _ _ _ _ _ x y ends.made in let a = c.again.invariant.same in let s = c.put_turn.ensures.same in
    let e = c.load_end-first-in-again.ensures.same in let more = c.again.invariant.few in record {
      few = omega arith;
      goes = goes_on v1 w y c.again.invariant.goes (goes_on w x y (c.put_turn.ensures.again c.if-put_turn.false) goes);
      ran = ran_both passes (losing c.load_end-first.result 0) (losing turn.0 (n + 1)) (losing next (n + 1)) v1 x y
          (ran_both passes (losing c.load_end-first.result 0) (losing c.again.first n)
          (losing turn.0 (n + 1)) v1 w x c.again.invariant.ran turn.1)
          (ran_ends passes x y _ next turn.0 (n + 1) ends);
      same = record {
        table_is = e.table_is ∙ (s.table_is ∙ a.table_is);
        number = e.number
            ∙ (s.number ∙ a.number);
        sizes = e.sizes ∙ (s.sizes ∙ a.sizes);
      };
      first = head_word_of _ c.load_end-first-in-again.result c.put_turn.new.pass.keeping.pass.within ends.end;
      alone = λ one up. let a = c.again.invariant.alone one up in
          absurd (false≢true (sym c.if-put_turn.false ∙ (c.put_turn.ensures.alone one a.0 a.1).0));
      empty = λ j lo lt. subst (λ (q : QueuePass). IsEmpty (slot q j)) (sym is) (c.put_turn.ensures.empty j lo lt);
      purse = c.load_end-first-in-again.ensures.purse ∙ (c.put_turn.ensures.purse ∙ c.again.invariant.purse);
    }

pub returns-then-put_turn-clause-says : goal.returns-then-put_turn-clause-says
returns-then-put_turn-clause-says c = λ v has. let v0 = view c.args.pass.now.seat in
    let v1 = view c.load_end-first.new.pass.seat in
    let w = view c.again.pass.seat in let x = view c.put_turn.new.pass.seat in let z = c.args.pool.now.layout in
    let passes = z.passes in
    let n : ℕ = c.again.turns in let first : ℕ = c.load_end-first.result in
    let a : GoesOn v0 w = goes_on v0 v1 w (goes_made v0 v1 c.load_end-first.ensures.ends.made
    (rest_self v0.known)) c.again.invariant.goes in
    let so_far = ended passes (losing c.again.first n) _ first v0 v1 w c.load_end-first.ensures.ends c.again.invariant.ran in
    let turn = subst (λ (b : Bool). PutRan z c.again.first n b w x) c.if-put_turn.true (c.put_turn.ensures.steps n) in
    put_after z c.args.races v c.again.first n v0 w x so_far.0 so_far.1 turn (struck_on _ _ v0 w x a (c.put_turn.ensures.put v
    (record_on v0.known w.known c.args.pass.now.purse c.again.pass.purse c.args.number v a.rest.owned
    (c.again.invariant.purse ∙ c.load_end-first.ensures.purse) has) c.if-put_turn.true)) c.again.invariant.few
    (λ one up. let a = c.again.invariant.alone one (up_made v0 v1 c.load_end-first.ensures.ends.made refl up) in
    (c.put_turn.ensures.alone one a.0 a.1).1)
    (λ one up. (c.again.invariant.alone one (up_made v0 v1 c.load_end-first.ensures.ends.made refl up)).2)

pub returns-then-put_turn-clause-leaves : goal.returns-then-put_turn-clause-leaves
returns-then-put_turn-clause-leaves c = c.put_turn.ensures.published c.if-put_turn.true

pub returns-then-put_turn-clause-lists : goal.returns-then-put_turn-clause-lists
returns-then-put_turn-clause-lists c = let v0 = view c.args.pass.now.seat in let v1 = view c.load_end-first.new.pass.seat in
    let w = view c.again.pass.seat in let x = view c.put_turn.new.pass.seat in let z = c.args.pool.now.layout in
    let passes = z.passes in
    let n : ℕ = c.again.turns in let first : ℕ = c.load_end-first.result in
    let a : GoesOn v0 w = goes_on v0 v1 w (goes_made v0 v1 c.load_end-first.ensures.ends.made
    (rest_self v0.known)) c.again.invariant.goes in
    let so_far = ended passes (losing c.again.first n) _ first v0 v1 w c.load_end-first.ensures.ends c.again.invariant.ran in
    lists_on v0.known w.known x.known (lists_rest v0.known w.known a.rest) c.put_turn.ensures.same_lists

pub returns-then-over-clause-says : goal.returns-then-over-clause-says
returns-then-over-clause-says c = λ v has. let v0 = view c.args.pass.now.seat in let v1 = view c.load_end-first.new.pass.seat in
    let w = view c.again.pass.seat in let x = view c.put_turn.new.pass.seat in let z = c.args.pool.now.layout in
    let passes = z.passes in
    let n : ℕ = c.again.turns in let first : ℕ = c.load_end-first.result in
    let a : GoesOn v0 w = goes_on v0 v1 w (goes_made v0 v1 c.load_end-first.ensures.ends.made
    (rest_self v0.known)) c.again.invariant.goes in
    let so_far = ended passes (losing c.again.first n) _ first v0 v1 w c.load_end-first.ensures.ends c.again.invariant.ran in
    let turn = subst (λ (b : Bool). PutRan z c.again.first n b w x) c.if-put_turn.false (c.put_turn.ensures.steps n) in
    let all = goes_on v0 w x a (c.put_turn.ensures.again c.if-put_turn.false) in
    let y = subst (λ (k : ℕ). (r : Ran passes (losing 0 0) (losing turn.0 k) v0 x) × (0 < length r.stepped.steps)) c.if-over.true
    (ended passes (losing turn.0 (n + 1)) _ first v0 v1 x c.load_end-first.ensures.ends
    (ran_both passes (losing first 0) (losing c.again.first n) (losing turn.0 (n + 1)) v1 w x c.again.invariant.ran turn.1)) in
    record {
      mine = all.mine;
      counted = c.if-over.true;
      word = turn.0;
      ran = y.0;
      some = y.1;
      others = λ one up. let a = c.again.invariant.alone one (up_made v0 v1 c.load_end-first.ensures.ends.made refl up) in
          false≢true (sym c.if-put_turn.false ∙ (c.put_turn.ensures.alone one a.0 a.1).0);
    }

pub returns-then-over-clause-leaves : goal.returns-then-over-clause-leaves
returns-then-over-clause-leaves c = c.put_turn.ensures.private c.if-put_turn.false

pub returns-then-over-clause-lists : goal.returns-then-over-clause-lists
returns-then-over-clause-lists c = let v0 = view c.args.pass.now.seat in let v1 = view c.load_end-first.new.pass.seat in
    let w = view c.again.pass.seat in let x = view c.put_turn.new.pass.seat in let z = c.args.pool.now.layout in
    let passes = z.passes in
    let n : ℕ = c.again.turns in let first : ℕ = c.load_end-first.result in
    let a : GoesOn v0 w = goes_on v0 v1 w (goes_made v0 v1 c.load_end-first.ensures.ends.made
    (rest_self v0.known)) c.again.invariant.goes in
    let so_far = ended passes (losing c.again.first n) _ first v0 v1 w c.load_end-first.ensures.ends c.again.invariant.ran in
    lists_on v0.known w.known x.known (lists_rest v0.known w.known a.rest) c.put_turn.ensures.same_lists
