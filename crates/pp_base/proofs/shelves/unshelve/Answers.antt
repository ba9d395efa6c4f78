use Rattle.std.proofs.Common.{ℕ, refl, subst, arith}
use Rattle.pp_rule.specs.Orders.{unshelve_step}
use Rattle.pp_rule.specs.Steps.{MadeQuietStep}
use Rattle.pp_rule.specs.Shelves.{getting, TookFromShelf}
use Rattle.pp_base.specs.Passes.{known, view}
use Rattle.pp_base.proofs.Shelving.{unshelves_on, keeping_unshelved, room_unshelved, found_number, found_small}
use Rattle.pp_base.proofs.Steady.{keeping_idle, same_known}
use Rattle.pp_base.proofs.Telling.{made_alone, made_known}
use Rattle.pp_base.proofs.shelves.unshelve.Goals as goal

pub swap_word-found-requires-clause-allows : goal.swap_word-found-requires-clause-allows
swap_word-found-requires-clause-allows g c = let S = g.S.Shape in let pass = c.args.pass.now in
    unshelves_on S.SIDES _ S.addition c.args.pool.now.layout _ _ _ c.args.shelf pass.seat.me g.met.S.Shape.alike pass.keeping.lone
    c.requires.shelf c.shelf_word-place.ensures

pub invariant_of-pass : goal.invariant_of-pass
invariant_of-pass g c = let S = g.S.Shape in let pass = c.args.pass.now in
    let t = c.swap_word-found.ensures.told in let seat = c.swap_word-found.new.seat in
    let made = t.0.1.none c.if-found-eq0.true in record {
      keeping = keeping_idle S.SENTINELS S.SIDES pass.seat seat _ _ _ _ _ pass.keeping (made_alone seat.me t.0.0 made) t.1
          (made_known seat.me made);
      run = c.swap_word-found.ensures.run;
    }

pub returns-then-found-eq0-clause-same : goal.returns-then-found-eq0-clause-same
returns-then-found-eq0-clause-same g c = let pass = c.args.pass.now in let seat = c.swap_word-found.new.seat in
    let made = c.swap_word-found.ensures.told.0.1.none c.if-found-eq0.true in
    same_known pass.seat seat (known pass.seat) (made_known seat.me made) refl refl c.swap_word-found.ensures.table

pub returns-then-found-eq0-clause-none : goal.returns-then-found-eq0-clause-none
returns-then-found-eq0-clause-none g c = let pass = c.args.pass.now in let seat = c.swap_word-found.new.seat in record {
  made = subst (λ (k : ℕ). MadeQuietStep unshelve_step k 0 0 (known pass.seat) (view pass.seat) (view seat))
      c.shelf_word-place.ensures (c.swap_word-found.ensures.told.0.1.none c.if-found-eq0.true);
  purse = refl;
}

pub overflow_cast-number : goal.overflow_cast-number
overflow_cast-number g c = let t = c.swap_word-found.ensures.told in let seat = c.swap_word-found.new.seat in
    let small = found_small c.args.pool.now.layout c.swap_word-found.result _ _ seat.me t.0.1 t.1 in omega (arith, small)

pub enter-requires : goal.enter-requires
enter-requires g c = let S = g.S.Shape in let pass = c.args.pass.now in let t = c.swap_word-found.ensures.told in
    let seat = c.swap_word-found.new.seat in let took = t.0.1.some c.if-found-eq0.false in
    room_unshelved S.SENTINELS S.SIDES pass.seat seat c.args.pool.now.layout _ _ _ pass.purse pass.keeping took.freed t.1
    (made_known seat.me took.made)

pub invariant_of-pass-2 : goal.invariant_of-pass-2
invariant_of-pass-2 g c = let S = g.S.Shape in let pass = c.args.pass.now in let t = c.swap_word-found.ensures.told in
    let seat = c.swap_word-found.new.seat in let took = t.0.1.some c.if-found-eq0.false in record {
      keeping = keeping_unshelved S.SENTINELS S.SIDES pass.seat seat _ _ _ _ pass.purse pass.keeping c.enter.new.list
          c.swap_word-found.result took.freed (made_alone seat.me t.0.0 took.made) t.1 took.number_is
          (made_known seat.me took.made) c.enter.ensures.items c.enter.ensures.room;
      run = c.swap_word-found.ensures.run;
    }

pub returns-clause-same : goal.returns-clause-same
returns-clause-same g c = let pass = c.args.pass.now in let seat = c.swap_word-found.new.seat in
    let took = c.swap_word-found.ensures.told.0.1.some c.if-found-eq0.false in
    same_known pass.seat seat (getting took.freed (known pass.seat)) (made_known seat.me took.made) refl refl
    c.swap_word-found.ensures.table

pub returns-clause-some : goal.returns-clause-some
returns-clause-some g c = let pass = c.args.pass.now in let seat = c.swap_word-found.new.seat in
    let n = c.swap_word-found.result in record {
      took = subst (λ (k : ℕ). TookFromShelf n k (view pass.seat) (view seat)) c.shelf_word-place.ensures
          (c.swap_word-found.ensures.told.0.1.some c.if-found-eq0.false);
      purse = record { rest = refl; free = c.enter.ensures.items; room = c.enter.ensures.room };
    }

pub returns-clause-number : goal.returns-clause-number
returns-clause-number g c = let t = c.swap_word-found.ensures.told in let seat = c.swap_word-found.new.seat in
    found_number c.args.pool.now.layout c.swap_word-found.result _ _ seat.me t.0.1 t.1 c.if-found-eq0.false
