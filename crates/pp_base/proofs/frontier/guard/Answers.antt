use Rattle.std.proofs.Common.{ℕ, refl, sym, ap, ◌∙◌, subst}
use Rattle.pp_link.specs.Places.{frontier_place}
use Rattle.pp_rule.specs.Orders.{guard_step}
use Rattle.pp_rule.specs.Steps.{MadeQuietStep, with_frontier}
use Rattle.pp_base.specs.Passes.{known, view}
use Rattle.pp_base.proofs.Chaining.{guards_on, keeping_guarded}
use Rattle.pp_base.proofs.Steady.{same_known}
use Rattle.pp_base.proofs.Telling.{made_alone, made_known}
use Rattle.pp_base.proofs.frontier.guard.Goals as goal

pub store_word-requires-clause-allows : goal.store_word-requires-clause-allows
store_word-requires-clause-allows g c = let S = g.S.Shape in let pool = c.args.pool.now in let pass = c.args.pass.now in
    guards_on S.SIDES _ S.addition pool.layout _ _ _ pass.seat.me g.met.S.Shape.alike c.args.word c.args.number pass.keeping.lone
    c.requires.word c.requires.unused
    (c.frontier_word-place.ensures ∙ ap (λ (p : ℕ). frontier_place pool.layout p c.args.word) (sym pass.keeping.number_is))

pub invariant_of-pass : goal.invariant_of-pass
invariant_of-pass g c = let pass = c.args.pass.now in let t = c.store_word.ensures.told in let seat = c.store_word.new.seat in record {
  keeping = keeping_guarded g.S.Shape.SENTINELS g.S.Shape.SIDES pass.seat seat _ _ _ _ _ c.args.word c.args.number pass.keeping
      (made_alone seat.me t.0.0 t.0.1) t.1 (made_known seat.me t.0.1);
  run = c.store_word.ensures.run;
}

pub returns : goal.returns
returns g c = let pass = c.args.pass.now in let t = c.store_word.ensures.told in let seat = c.store_word.new.seat in record {
  same = same_known pass.seat seat (with_frontier c.args.word c.args.number (known pass.seat)) (made_known seat.me t.0.1) refl refl
      c.store_word.ensures.table;
  made = subst (λ (k : ℕ). MadeQuietStep guard_step k c.args.number c.args.number (with_frontier c.args.word c.args.number
      (known pass.seat)) (view pass.seat) (view seat))
      (c.frontier_word-place.ensures ∙ ap (λ (p : ℕ). frontier_place c.args.pool.now.layout p c.args.word) (sym pass.keeping.number_is))
      t.0.1;
  walk = refl;
  purse = refl;
}
