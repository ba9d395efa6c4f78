use Rattle.std.proofs.Common.{ℕ, refl, sym, ap, ◌∙◌, subst}
use Rattle.pp_link.specs.Places.{walk_place}
use Rattle.pp_rule.specs.Orders.{clear_step}
use Rattle.pp_rule.specs.Views.{naming}
use Rattle.pp_rule.specs.Steps.{MadeQuietStep, clearing}
use Rattle.pp_base.specs.Passes.{known, view}
use Rattle.pp_base.proofs.Steady.{keeping_stored}
use Rattle.pp_base.proofs.Telling.{made_alone, made_known}
use Rattle.pp_detached.proofs.Clearing.{clears_gone_on}
use Rattle.pp_detached.proofs.clear_after.Goals as goal

pub store_word-requires-clause-allows : goal.store_word-requires-clause-allows
store_word-requires-clause-allows g c = let S = g.S.Shape in let pool = c.args.pool.now in let pass = c.args.pass.now in
    clears_gone_on S.SIDES _ S.addition S.forget g.met.S.Shape.clears pool.layout _ _ _ c.args.word pass.seat.me pass.keeping.lone
    c.requires.word
    (c.walk_word-place.ensures ∙ ap (λ (p : ℕ). walk_place pool.layout p c.args.word) (sym pass.keeping.number_is))

pub invariant_of-pass : goal.invariant_of-pass
invariant_of-pass g c = let pass = c.args.pass.now in let t = c.store_word.ensures.told in let seat = c.store_word.new.seat in record {
  keeping = keeping_stored g.S.Shape.SENTINELS g.S.Shape.SIDES pass.seat seat _ _ _ _ _ c.args.word (naming 0) _ pass.keeping
      (made_alone seat.me t.0.0.0 t.0.0.1) t.1 (made_known seat.me t.0.0.1);
  run = c.store_word.ensures.run;
}

pub returns : goal.returns
returns g c = let pass = c.args.pass.now in let t = c.store_word.ensures.told in let seat = c.store_word.new.seat in
    let is = made_known seat.me t.0.0.1 in record {
      same = record { table_is = c.store_word.ensures.table; number = ap (λ q. q.number) is; sizes = ap (λ q. q.sizes) is };
      made = subst (λ (k : ℕ). MadeQuietStep clear_step k 0 0 (clearing g.S.Shape.forget c.args.word (known pass.seat)) (view pass.seat)
          (view seat))
          (c.walk_word-place.ensures ∙ ap (λ (p : ℕ). walk_place c.args.pool.now.layout p c.args.word) (sym pass.keeping.number_is))
          t.0.0.1;
      gone = t.0.1;
      purse = refl;
    }
