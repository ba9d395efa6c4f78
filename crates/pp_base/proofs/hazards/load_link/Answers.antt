use Rattle.std.proofs.Common.{ℕ, refl, subst}
use Rattle.pp_rule.specs.Steps.{LoadedLink}
use Rattle.pp_base.specs.Passes.{known, view}
use Rattle.pp_base.specs.Sources.{learning_at}
use Rattle.pp_base.proofs.Moves.{loads_on}
use Rattle.pp_base.proofs.Steady.{keeping_loaded, same_loaded}
use Rattle.pp_base.proofs.Telling.{made_alone, made_known}
use Rattle.pp_base.proofs.hazards.load_link.Goals as goal

pub load_word-requires-clause-allows : goal.load_word-requires-clause-allows
load_word-requires-clause-allows g c = let S = g.S.Shape in let pool = c.args.pool.now in let pass = c.args.pass.now in
    loads_on S.SIDES _ S.addition pool.layout _ _ _ pass.seat.me g.met.S.Shape.alike S.frozen g.met.S.Shape.freezes c.args.at c.args.side
    pass.keeping.lone c.requires.readable c.locate-place.ensures.place

pub invariant_of-pass : goal.invariant_of-pass
invariant_of-pass g c = let S = g.S.Shape in let pass = c.args.pass.now in let t = c.load_word.ensures.told in
    let seat = c.load_word.new.seat in record {
      keeping = keeping_loaded S.SENTINELS S.SIDES pass.seat seat _ _ _ _ _ S.frozen c.args.at c.args.side c.load_word.result pass.keeping
          (made_alone seat.me t.0.0 t.0.1.made) t.1 (made_known seat.me t.0.1.made);
      run = c.load_word.ensures.run;
    }

pub returns : goal.returns
returns g c = let S = g.S.Shape in let pass = c.args.pass.now in let t = c.load_word.ensures.told in let seat = c.load_word.new.seat in
    record {
      same = same_loaded pass.seat seat S.frozen c.args.at c.args.side c.load_word.result (made_known seat.me t.0.1.made)
          c.load_word.ensures.table;
      loaded = subst (λ (k : ℕ). LoadedLink (learning_at S.frozen c.args.at c.args.side c.load_word.result
          (known pass.seat)) c.load_word.result k (view pass.seat) (view seat)) c.locate-place.ensures.place t.0.1;
      purse = refl;
    }
