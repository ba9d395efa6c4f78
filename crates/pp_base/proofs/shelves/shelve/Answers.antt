use Rattle.std.proofs.Common.{◌≡◌, ℕ, ◌+◌, ◌-◌, ◌∷◌, [], ◌++◌, length, take, refl, sym, ap, ◌∙◌, subst, arith}
use Rattle.pp_rule.specs.Orders.{missed_step}
use Rattle.pp_rule.specs.Steps.{MadeQuietStep}
use Rattle.pp_rule.specs.Shelves.{giving, PutOnShelf}
use Rattle.pp_base.specs.Passes.{known, view}
use Rattle.pp_base.proofs.Shelving.{last_apart, last_owned, shelves_on, keeping_shelved}
use Rattle.pp_base.proofs.Steady.{keeping_idle, same_known}
use Rattle.pp_base.proofs.Telling.{made_alone, made_known}
use Rattle.pp_base.proofs.shelves.shelve.Goals as goal

pub exchange_word-found-requires-clause-allows : goal.exchange_word-found-requires-clause-allows
exchange_word-found-requires-clause-allows g c = let S = g.S.Shape in let z = c.args.pool.now.layout in
    let pass = c.args.pass.now in let n = c.index-number.result.now in
    let long : c.len.result - 1 + 1 ≡ length c.args.pass.now.purse.free.items =
    omega (arith, c.len.ensures, c.args.pass.now.purse.free.ok.0, c.requires.some) in
    shelves_on S.SIDES _ S.addition z _ _ _ c.args.shelf pass.seat.me g.met.S.Shape.alike n pass.keeping.lone
    (last_owned S.SENTINELS S.SIDES pass.seat pass.seat z _ _ _ pass.purse pass.keeping (c.len.result - 1) n long
    c.index-number.ensures) c.requires.shelf c.shelf_word-place.ensures

pub invariant_of-pass : goal.invariant_of-pass
invariant_of-pass g c = let S = g.S.Shape in let pass = c.args.pass.now in let n = c.index-number.result.now in
    let long : c.len.result - 1 + 1 ≡ length c.args.pass.now.purse.free.items =
    omega (arith, c.len.ensures, c.args.pass.now.purse.free.ok.0, c.requires.some) in
    let t = c.exchange_word-found.ensures.told in let seat = c.exchange_word-found.new.seat in
    let put = t.0.1.empty c.if-found-eq0.true in let f = c.pop.new.self in record {
      keeping = keeping_shelved S.SENTINELS S.SIDES pass.seat seat _ _ _ _ pass.purse pass.keeping f put.index n put.was
          (made_alone seat.me t.0.0 put.made) t.1 put.at put.number_is (made_known seat.me put.made)
          (last_apart pass.purse.free.items (c.len.result - 1) n long c.index-number.ensures
          ∙ ap (λ l. l ++ n ∷ []) (ap (λ (k : ℕ). take (k - 1) pass.purse.free.items) c.len.ensures ∙ sym c.pop.ensures.rest))
          c.pop.ensures.capacity;
      run = c.exchange_word-found.ensures.run;
    }

pub invariant_of-pass-else-found-eq0 : goal.invariant_of-pass-else-found-eq0
invariant_of-pass-else-found-eq0 g c = let S = g.S.Shape in let pass = c.args.pass.now in
    let t = c.exchange_word-found.ensures.told in let seat = c.exchange_word-found.new.seat in
    let made = t.0.1.taken c.if-found-eq0.false in record {
      keeping = keeping_idle S.SENTINELS S.SIDES pass.seat seat _ _ _ _ _ pass.keeping (made_alone seat.me t.0.0 made) t.1
          (made_known seat.me made);
      run = c.exchange_word-found.ensures.run;
    }

pub returns-then-found-eq0-clause-same : goal.returns-then-found-eq0-clause-same
returns-then-found-eq0-clause-same g c = let pass = c.args.pass.now in let seat = c.exchange_word-found.new.seat in
    let put = c.exchange_word-found.ensures.told.0.1.empty c.if-found-eq0.true in
    same_known pass.seat seat (giving put.index (known pass.seat)) (made_known seat.me put.made) refl refl
    c.exchange_word-found.ensures.table

pub returns-then-found-eq0-clause-made : goal.returns-then-found-eq0-clause-made
returns-then-found-eq0-clause-made g c = let pass = c.args.pass.now in let seat = c.exchange_word-found.new.seat in
    let n = c.index-number.result.now in
    let long : c.len.result - 1 + 1 ≡ length c.args.pass.now.purse.free.items =
    omega (arith, c.len.ensures, c.args.pass.now.purse.free.ok.0, c.requires.some) in
    let first = ap (λ (k : ℕ). take (k - 1) pass.purse.free.items) c.len.ensures ∙ sym c.pop.ensures.rest in
    let put = c.exchange_word-found.ensures.told.0.1.empty c.if-found-eq0.true in record {
      put = λ _. (
        n,
        (
          subst (λ (k : ℕ). PutOnShelf n k (view pass.seat) (view seat)) c.shelf_word-place.ensures put,
          record {
            rest = refl;
            free = last_apart pass.purse.free.items (c.len.result - 1) n long c.index-number.ensures
                ∙ ap (λ l. l ++ n ∷ []) first;
            room = c.pop.ensures.capacity;
          },
        ),
      );
      taken = λ other. absurd (other c.if-found-eq0.true);
    }

pub returns-else-found-eq0-clause-same : goal.returns-else-found-eq0-clause-same
returns-else-found-eq0-clause-same g c = let pass = c.args.pass.now in let seat = c.exchange_word-found.new.seat in
    let made = c.exchange_word-found.ensures.told.0.1.taken c.if-found-eq0.false in
    same_known pass.seat seat (known pass.seat) (made_known seat.me made) refl refl c.exchange_word-found.ensures.table

pub returns-else-found-eq0-clause-made : goal.returns-else-found-eq0-clause-made
returns-else-found-eq0-clause-made g c = let pass = c.args.pass.now in let seat = c.exchange_word-found.new.seat in
    let found = c.exchange_word-found.result in record {
      put = λ nil. absurd (c.if-found-eq0.false nil);
      taken = λ other. (
        subst (λ (k : ℕ). MadeQuietStep missed_step k found found (known pass.seat) (view pass.seat) (view seat))
            c.shelf_word-place.ensures (c.exchange_word-found.ensures.told.0.1.taken other),
        refl,
      );
    }
