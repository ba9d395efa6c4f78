use Rattle.std.proofs.Common.{ℕ, refl, ap, subst}
use Rattle.pp_rule.specs.Orders.{scan_walk_step}
use Rattle.pp_rule.specs.Steps.{MadeQuietStep, scanned}
use Rattle.pp_base.specs.Passes.{known, view}
use Rattle.pp_base.proofs.Scanned.{scans_walk_on, keeping_scanned}
use Rattle.pp_base.proofs.Telling.{made_alone, made_known}
use Rattle.pp_base.proofs.scan.scan_walk.Goals as goal

pub load_word-requires-clause-allows : goal.load_word-requires-clause-allows
load_word-requires-clause-allows g c = let S = g.S.Shape in let pass = c.args.pass.now in
    scans_walk_on S.SIDES _ S.addition c.args.pool.now.layout _ _ _ pass.seat.me g.met.S.Shape.alike c.args.number c.args.word
    pass.keeping.lone c.requires.number c.requires.word c.requires.next c.walk_word-place.ensures

pub invariant_of-pass : goal.invariant_of-pass
invariant_of-pass g c = let pass = c.args.pass.now in let t = c.load_word.ensures.told in let seat = c.load_word.new.seat in record {
  keeping = keeping_scanned g.S.Shape.SENTINELS g.S.Shape.SIDES pass.seat seat _ _ _ _ _ c.load_word.result pass.keeping
      (made_alone seat.me t.0.0 t.0.1) t.1 (made_known seat.me t.0.1);
  run = c.load_word.ensures.run;
}

pub returns : goal.returns
returns g c = let pass = c.args.pass.now in let t = c.load_word.ensures.told in let seat = c.load_word.new.seat in
    let is = made_known seat.me t.0.1 in record {
      same = record { table_is = c.load_word.ensures.table; number = ap (λ q. q.number) is; sizes = ap (λ q. q.sizes) is };
      made = subst (λ (k : ℕ). MadeQuietStep scan_walk_step k c.load_word.result c.load_word.result
          (scanned c.load_word.result (known pass.seat)) (view pass.seat) (view seat)) c.walk_word-place.ensures t.0.1;
      walk = refl;
      purse = refl;
    }
