use Rattle.std.proofs.Common.{ℕ, refl, subst}
use Rattle.pp_rule.specs.Steps.{Confirmed}
use Rattle.pp_base.specs.Passes.{known, view}
use Rattle.pp_base.specs.Sources.{learning_at}
use Rattle.pp_base.proofs.Moves.{confirms_on}
use Rattle.pp_base.proofs.Steady.{keeping_confirmed, same_confirmed}
use Rattle.pp_base.proofs.hazards.confirm.Goals as goal

pub load_word-requires-clause-allows : goal.load_word-requires-clause-allows
load_word-requires-clause-allows g c = let S = g.S.Shape in let pool = c.args.pool.now in let pass = c.args.pass.now in
    confirms_on S.SIDES _ S.addition pool.layout _ _ _ pass.seat.me g.met.S.Shape.alike S.frozen g.met.S.Shape.freezes
    c.args.word c.args.first c.args.at
    c.args.side pass.keeping.lone c.requires.word c.requires.free c.requires.named
    c.requires.first.0 c.requires.first.1 c.requires.readable c.locate-place.ensures.place

pub invariant_of-pass : goal.invariant_of-pass
invariant_of-pass g c = let pass = c.args.pass.now in let t = c.load_word.ensures.told in let seat = c.load_word.new.seat in record {
  keeping = keeping_confirmed g.S.Shape.SENTINELS g.S.Shape.SIDES pass.seat seat _ _ _ _ _ g.S.Shape.frozen c.args.at c.args.side
      c.args.word c.args.first c.load_word.result _ pass.keeping t.0.0 t.1 c.requires.named t.0.1;
  run = c.load_word.ensures.run;
}

pub returns : goal.returns
returns g c = let S = g.S.Shape in let pass = c.args.pass.now in let t = c.load_word.ensures.told in let seat = c.load_word.new.seat in
    record {
      same = same_confirmed pass.seat seat S.frozen c.args.at c.args.side c.args.word c.args.first c.load_word.result _ t.0.1
          c.load_word.ensures.table;
      confirmed = subst (λ (k : ℕ). Confirmed c.args.word c.args.first c.load_word.result k
          (learning_at S.frozen c.args.at c.args.side c.load_word.result (known pass.seat)) (view pass.seat)
          (view seat)) c.locate-place.ensures.place t.0.1;
      purse = refl;
    }
