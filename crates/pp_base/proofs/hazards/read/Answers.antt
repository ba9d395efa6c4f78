use Rattle.std.proofs.Common.{ℕ, refl, ap, ◌∙◌, subst}
use Rattle.pp_link.specs.Places.{cell_place, field_number}
use Rattle.pp_rule.specs.Steps.{ReadField}
use Rattle.pp_base.specs.Passes.{known, view}
use Rattle.pp_base.proofs.Moves.{reads_on}
use Rattle.pp_base.proofs.Steady.{keeping_idle, named_at}
use Rattle.pp_base.proofs.Telling.{made_alone, made_known}
use Rattle.pp_base.proofs.hazards.read.Goals as goal

pub load_word-requires-clause-allows : goal.load_word-requires-clause-allows
load_word-requires-clause-allows g c = let S = g.S.Shape in let pool = c.args.pool.now in let pass = c.args.pass.now in
    reads_on S.SIDES _ S.addition pool.layout _ _ _ pass.seat.me g.met.S.Shape.alike c.args.word
    (field_number c.args.field) pass.keeping.lone c.requires.word c.requires.held
    (c.cell-place.ensures ∙ ap (λ (n : ℕ). cell_place pool.layout n (field_number c.args.field)) (named_at
    (known pass.seat).walk pass.walk c.args.word pass.keeping.walk_is))

pub invariant_of-pass : goal.invariant_of-pass
invariant_of-pass g c = let pass = c.args.pass.now in let t = c.load_word.ensures.told in let seat = c.load_word.new.seat in record {
  keeping = keeping_idle g.S.Shape.SENTINELS g.S.Shape.SIDES pass.seat seat _ _ _ _ _ pass.keeping (made_alone seat.me t.0.0 t.0.1.made) t.1
      (made_known seat.me t.0.1.made);
  run = c.load_word.ensures.run;
}

pub returns : goal.returns
returns g c = let pass = c.args.pass.now in let t = c.load_word.ensures.told in let seat = c.load_word.new.seat in
    let is = made_known seat.me t.0.1.made in record {
      same = record { table_is = c.load_word.ensures.table; number = ap (λ q. q.number) is; sizes = ap (λ q. q.sizes) is };
      read = subst (λ (k : ℕ). ReadField c.args.word (field_number c.args.field) c.load_word.result k (view pass.seat) (view seat))
          (c.cell-place.ensures ∙ ap (λ (n : ℕ). cell_place c.args.pool.now.layout n (field_number c.args.field)) (named_at
          (known pass.seat).walk pass.walk c.args.word pass.keeping.walk_is)) t.0.1;
      purse = refl;
    }
