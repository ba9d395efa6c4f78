use Rattle.std.proofs.Common.{◌≡◌, ℕ, ◌<◌, refl, sym, ap, ◌∙◌, subst}
use Rattle.pp_link.specs.declared.layout.Sizes.{Sizes}
use Rattle.pp_link.specs.Places.{frontier_place}
use Rattle.pp_rule.specs.Orders.{retire_step}
use Rattle.pp_rule.specs.Steps.{MadeQuietStep, retiring}
use Rattle.pp_base.specs.Passes.{known, view}
use Rattle.pp_base.specs.Chains.{chain_at}
use Rattle.pp_base.proofs.Chaining.{retires_on, keeping_retired, oldest_guard, guard_low, frontier_low, lets_go}
use Rattle.pp_base.proofs.Steady.{same_known}
use Rattle.pp_base.proofs.Telling.{made_alone, made_known}
use Rattle.pp_base.proofs.chains.retire.Goals as goal

pub frontier_word-place-requires-clause-word : goal.frontier_word-place-requires-clause-word
frontier_word-place-requires-clause-word g c = let pass = c.args.pass.now in let same : c.index.result.now.guard
    ≡ (chain_at (known pass.seat) 0).guard =
    oldest_guard (known pass.seat).chains pass.purse.chains.items c.index.result.now pass.keeping.chains c.requires.some c.index.ensures in
    subst (λ (j : ℕ). j < 4) (sym same) (guard_low (known pass.seat) 0 pass.keeping.pass c.requires.some)

pub store_word-requires-clause-place : goal.store_word-requires-clause-place
store_word-requires-clause-place g c = let pass = c.args.pass.now in let same : c.index.result.now.guard
    ≡ (chain_at (known pass.seat) 0).guard =
    oldest_guard (known pass.seat).chains pass.purse.chains.items c.index.result.now pass.keeping.chains c.requires.some c.index.ensures in
    frontier_low c.args.pool.now.layout (known pass.seat).number c.index.result.now.guard _
    (subst (λ (z : Sizes). (known pass.seat).number < z.passes) c.requires.fits.sizes pass.keeping.pass.pass)
    (subst (λ (j : ℕ). j < 4) (sym same) (guard_low (known pass.seat) 0 pass.keeping.pass c.requires.some))
    (c.frontier_word-place.ensures ∙ ap (λ (p : ℕ). frontier_place c.args.pool.now.layout p c.index.result.now.guard)
    (sym pass.keeping.number_is))

pub store_word-requires-clause-allows : goal.store_word-requires-clause-allows
store_word-requires-clause-allows g c = let pass = c.args.pass.now in let same : c.index.result.now.guard
    ≡ (chain_at (known pass.seat) 0).guard =
    oldest_guard (known pass.seat).chains pass.purse.chains.items c.index.result.now pass.keeping.chains c.requires.some c.index.ensures in
    let S = g.S.Shape in
    retires_on S.SIDES _ S.addition c.args.pool.now.layout _ _ _ pass.seat.me g.met.S.Shape.alike pass.keeping.lone c.requires.some
    c.requires.invalid
    (c.frontier_word-place.ensures ∙ (ap (λ (p : ℕ). frontier_place c.args.pool.now.layout p c.index.result.now.guard)
    (sym pass.keeping.number_is)
    ∙ ap (λ (j : ℕ). frontier_place c.args.pool.now.layout (known pass.seat).number j) same))

pub bounds-pass-word : goal.bounds-pass-word
bounds-pass-word g c = let pass = c.args.pass.now in let same : c.index.result.now.guard ≡ (chain_at (known pass.seat) 0).guard =
    oldest_guard (known pass.seat).chains pass.purse.chains.items c.index.result.now pass.keeping.chains c.requires.some c.index.ensures in
    subst (λ (j : ℕ). j < 4) (sym same) (guard_low (known pass.seat) 0 pass.keeping.pass c.requires.some)

pub invariant_of-pass : goal.invariant_of-pass
invariant_of-pass g c = let pass = c.args.pass.now in let same : c.index.result.now.guard ≡ (chain_at (known pass.seat) 0).guard =
    oldest_guard (known pass.seat).chains pass.purse.chains.items c.index.result.now pass.keeping.chains c.requires.some c.index.ensures in
    let t = c.store_word.ensures.told in let seat = c.store_word.new.seat in record {
      keeping = keeping_retired g.S.Shape.SENTINELS g.S.Shape.SIDES pass.seat seat _ _ _ _ _ _ pass.keeping (made_alone seat.me t.0.0 t.0.1)
          t.1
          c.requires.spent (lets_go pass.purse c.remove.new.self _ _ same c.remove.ensures.items c.remove.ensures.capacity)
          (made_known seat.me t.0.1);
      run = c.store_word.ensures.run;
    }

pub returns : goal.returns
returns g c = let pass = c.args.pass.now in let same : c.index.result.now.guard ≡ (chain_at (known pass.seat) 0).guard =
    oldest_guard (known pass.seat).chains pass.purse.chains.items c.index.result.now pass.keeping.chains c.requires.some c.index.ensures in
    let t = c.store_word.ensures.told in let seat = c.store_word.new.seat in record {
      same = same_known pass.seat seat (retiring (chain_at (known pass.seat) 0) (known pass.seat)) (made_known seat.me t.0.1) refl refl
          c.store_word.ensures.table;
      made = subst (λ (k : ℕ). MadeQuietStep retire_step k 0 0 (retiring (chain_at (known pass.seat) 0) (known pass.seat))
          (view pass.seat) (view seat))
          (c.frontier_word-place.ensures ∙ (ap (λ (p : ℕ). frontier_place c.args.pool.now.layout p c.index.result.now.guard)
          (sym pass.keeping.number_is)
          ∙ ap (λ (j : ℕ). frontier_place c.args.pool.now.layout (known pass.seat).number j) same)) t.0.1;
      walk = refl;
      purse = lets_go pass.purse c.remove.new.self _ _ same c.remove.ensures.items c.remove.ensures.capacity;
    }
