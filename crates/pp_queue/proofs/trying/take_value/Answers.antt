use Rattle.std.proofs.Common.{◌<◌, ◌+◌, ℕ, length, refl, sym, ap, ◌∙◌, subst, arith}
use Rattle.pp_rule.specs.Views.{slot}
use Rattle.pp_rule.proofs.Made.{known_after}
use Rattle.pp_base.specs.Passes.{view}
use Rattle.pp_queues.specs.Queues.{QueuePass}
use Rattle.pp_queues.specs.Losses.{losing, striking, Ran}
use Rattle.pp_queues.proofs.Counting.{ran_none, ran_both}
use Rattle.pp_queue.specs.Calling.{IsEmpty}
use Rattle.pp_queue.proofs.Going.{rest_self, goes_self, goes_made}
use Rattle.pp_queue.proofs.Turning.{rest_same_lists, rest_goes}
use Rattle.pp_queue.proofs.Running.{ran_ends}
use Rattle.pp_queue.proofs.Whole.{head_word_of, began, began_on, begun, went_self, went_more, took_none, took_one, free_on}
use Rattle.pp_queue.proofs.trying.take_value.Goals as goal
use Rattle.pp_link.specs.declared.layout.Sizes.{Sizes}
use Rattle.pp_queue.proofs.Standing.{seen_of}
use Rattle.pp_queue.proofs.Finding.{up_made, up_on, load_left}

pub again-init : goal.again-init
again-init c = let v0 = view c.args.pass.now.seat in let v1 = view c.begin-first.new.pass.seat in
    let b = c.begin-first.ensures.begins in
    let is = known_after _ _ _ _ _ _ _ v0 v1 b.made in let some = c.requires.races in record {
      few = omega arith;
      went = went_self v1 (began _ _ v0 v1 b).going;
      ran = ran_none c.args.pool.now.layout.passes (losing c.begin-first.result 0) v1 v1 refl;
      same = record { table_is = refl; number = refl; sizes = refl };
      first = head_word_of _ c.begin-first.result c.args.pass.now.keeping.pass.within b.end;
      up = λ e. e;
      alone = λ one _. (
        refl,
        load_left v0 v1 b.made refl (ap (λ (y : Sizes). y.passes) c.requires.fits.sizes ∙ one)
            c.args.pass.now.keeping.pass.pass
            (seen_of c.begin-first.new.pass.seat c.begin-first.new.pass.keeping.lone c.begin-first.new.pass.run) refl,
      );
      empty = λ j lo lt. subst (λ (q : QueuePass). IsEmpty (slot q j)) (sym is) (c.requires.empty j lo lt);
      rest = rest_same_lists v0.known v1.known c.args.pass.now.purse c.begin-first.new.pass.purse (ap
          (λ (q : QueuePass). q.scan) is)
          (ap (λ (q : QueuePass). q.chains) is) (ap (λ (q : QueuePass). q.frontier) is) (ap
          (λ p. p.spent) c.begin-first.ensures.purse) c.requires.rest;
      purse = record { free = refl; taken = refl; going = refl };
    }

pub again-preserved : goal.again-preserved
again-preserved c = let v1 = view c.begin-first.new.pass.seat in let w = view c.again.pass.seat in
    let x = view c.take_turn.new.pass.seat in
    let y = view c.load_end-first.new.pass.seat in let ends = c.load_end-first.ensures.ends in
    let goes = goes_made x y ends.made (rest_self x.known) in let passes = c.args.pool.now.layout.passes in
    let n : ℕ = c.again.turns in let turn = c.in-Again.ensures.steps n in let next : ℕ = c.load_end-first.result in
    let is = known_after _ _ _ _ _ _ _ x y ends.made in let a = c.again.invariant.same in let s = c.take_turn.ensures.same in
    let e = c.load_end-first.ensures.same in let more = c.again.invariant.few in record {
      few = omega arith;
      went = went_more v1 w x y c.again.invariant.went c.in-Again.ensures.turned goes;
      ran = ran_both passes (losing c.begin-first.result 0) (losing turn.0 (n + 1)) (losing next (n + 1)) v1 x y
          (ran_both passes (losing c.begin-first.result 0) (losing c.again.first n)
          (losing turn.0 (n + 1)) v1 w x c.again.invariant.ran turn.1)
          (ran_ends passes x y _ next turn.0 (n + 1) ends);
      same = record {
        table_is = e.table_is ∙ (s.table_is ∙ a.table_is);
        number = e.number
            ∙ (s.number ∙ a.number);
        sizes = e.sizes ∙ (s.sizes ∙ a.sizes);
      };
      first = head_word_of _ c.load_end-first.result c.take_turn.new.pass.keeping.pass.within ends.end;
      up = up_on v1.known w.known y.known c.again.invariant.up (up_on w.known x.known y.known c.take_turn.ensures.up
          (up_made x y ends.made refl));
      alone = λ one up. absurd (c.in-Again.ensures.alone one (c.again.invariant.up up) (c.again.invariant.alone one up).1);
      empty = λ j lo lt. subst (λ (q : QueuePass). IsEmpty (slot q j)) (sym is) (c.take_turn.ensures.empty j lo lt);
      rest = rest_goes x y c.take_turn.new.pass.purse c.load_end-first.new.pass.purse goes c.load_end-first.ensures.purse
          c.take_turn.ensures.rest;
      purse = free_on _ _ _ _ c.again.invariant.purse c.take_turn.ensures.purse c.load_end-first.ensures.purse;
    }

pub returns-in-Empty-clause-says : goal.returns-in-Empty-clause-says
returns-in-Empty-clause-says c = let v0 = view c.args.pass.now.seat in let v1 = view c.begin-first.new.pass.seat in
    let w = view c.again.pass.seat in
    let x = view c.take_turn.new.pass.seat in let passes = c.args.pool.now.layout.passes in let n : ℕ = c.again.turns in
    let first : ℕ = c.begin-first.result in let turn = c.in-Empty.ensures.steps n in
    let ran = begun passes (losing turn.0 n) _ first v0 v1 x c.begin-first.ensures.begins
    (ran_both passes (losing first 0) (losing c.again.first n) (losing turn.0 n) v1 w x c.again.invariant.ran turn.1) in
    took_none passes c.args.races n turn.0 v0 w x
    (began_on v0 v1 w (began _ _ v0 v1 c.begin-first.ensures.begins) c.again.invariant.went)
    c.in-Empty.ensures.turned c.again.invariant.few ran.0 (ran.1.0 ∙ sym c.again.invariant.went.start) ran.1.1
    (λ one up. (c.again.invariant.alone one (up_made v0 v1 c.begin-first.ensures.begins.made refl up)).0)

pub returns-in-Took-clause-says : goal.returns-in-Took-clause-says
returns-in-Took-clause-says c = let v0 = view c.args.pass.now.seat in let v1 = view c.begin-first.new.pass.seat in
    let w = view c.again.pass.seat in
    let x = view c.take_turn.new.pass.seat in let passes = c.args.pool.now.layout.passes in let n : ℕ = c.again.turns in
    let first : ℕ = c.begin-first.result in let turn = c.in-Took.ensures.steps n in
    let all = begun passes (striking turn.0 n) _ first v0 v1 x c.begin-first.ensures.begins
    (ran_both passes (losing first 0) (losing c.again.first n) (striking turn.0 n) v1 w x c.again.invariant.ran turn.1) in
    record {
      took = took_one _ v0 w x (began_on v0 v1 w (began _ _ v0 v1 c.begin-first.ensures.begins) c.again.invariant.went)
          c.in-Took.ensures.turned;
      word = turn.0;
      lost = n;
      few = c.again.invariant.few;
      ran = all.0;
      some = all.1.1;
      alone = λ one up. (c.again.invariant.alone one (up_made v0 v1 c.begin-first.ensures.begins.made refl up)).0;
    }

pub returns-then-spent-clause-says : goal.returns-then-spent-clause-says
returns-then-spent-clause-says c = let v0 = view c.args.pass.now.seat in let v1 = view c.begin-first.new.pass.seat in
    let w = view c.again.pass.seat in let x = view c.take_turn.new.pass.seat in let passes = c.args.pool.now.layout.passes in
    let n : ℕ = c.again.turns in let first : ℕ = c.begin-first.result in let turn = c.in-Again.ensures.steps n in
    let b = began_on v0 v1 x (began _ _ v0 v1 c.begin-first.ensures.begins)
    (went_more v1 w x x c.again.invariant.went c.in-Again.ensures.turned
    (goes_self x)) in
    let all = subst (λ (k : ℕ). (y : Ran passes (losing 0 0) (losing turn.0 k) v0 x) ×
    (0 < length y.stepped.steps)) c.if-spent.true
    (let y = begun passes (losing turn.0 (n + 1)) _ first v0 v1 x c.begin-first.ensures.begins
    (ran_both passes (losing first 0) (losing c.again.first n) (losing turn.0 (n + 1)) v1 w x c.again.invariant.ran turn.1) in
    (y.0, y.1.1)) in record {
      mine = b.mine;
      counted = c.if-spent.true;
      word = turn.0;
      ran = all.0;
      some = all.1;
      others = λ one up. let now = up_made v0 v1 c.begin-first.ensures.begins.made refl up in
          c.in-Again.ensures.alone one (c.again.invariant.up now) (c.again.invariant.alone one now).1;
    }

pub returns-in-Empty-clause-up : goal.returns-in-Empty-clause-up
returns-in-Empty-clause-up c = let v0 = view c.args.pass.now.seat in let v1 = view c.begin-first.new.pass.seat in
    let w = view c.again.pass.seat in let x = view c.take_turn.new.pass.seat in
    up_on v0.known v1.known x.known (up_made v0 v1 c.begin-first.ensures.begins.made refl)
    (up_on v1.known w.known x.known c.again.invariant.up c.take_turn.ensures.up)

pub returns-in-Took-clause-up : goal.returns-in-Took-clause-up
returns-in-Took-clause-up c = let v0 = view c.args.pass.now.seat in let v1 = view c.begin-first.new.pass.seat in
    let w = view c.again.pass.seat in let x = view c.take_turn.new.pass.seat in
    up_on v0.known v1.known x.known (up_made v0 v1 c.begin-first.ensures.begins.made refl)
    (up_on v1.known w.known x.known c.again.invariant.up c.take_turn.ensures.up)

pub returns-then-spent-clause-up : goal.returns-then-spent-clause-up
returns-then-spent-clause-up c = let v0 = view c.args.pass.now.seat in let v1 = view c.begin-first.new.pass.seat in
    let w = view c.again.pass.seat in let x = view c.take_turn.new.pass.seat in
    up_on v0.known v1.known x.known (up_made v0 v1 c.begin-first.ensures.begins.made refl)
    (up_on v1.known w.known x.known c.again.invariant.up c.take_turn.ensures.up)
