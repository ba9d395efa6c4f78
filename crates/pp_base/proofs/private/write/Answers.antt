use Rattle.std.proofs.Common.{ℕ, refl, subst}
use Rattle.pp_link.specs.Places.{field_number}
use Rattle.pp_base.specs.Passes.{known, view}
use Rattle.pp_base.specs.Private.{WroteField}
use Rattle.pp_base.proofs.Owning.{owned_number, cell_low, field_low, writes_owned, keeping_wrote, same_wrote}
use Rattle.pp_base.proofs.private.write.Goals as goal

pub cell-place-requires : goal.cell-place-requires
cell-place-requires g c = let pass = c.args.pass.now in
    owned_number (known pass.seat) c.args.pool.now.layout c.args.number pass.keeping.pass c.requires.fits.sizes c.requires.owned

pub store_word-requires-clause-place : goal.store_word-requires-clause-place
store_word-requires-clause-place g c = let pass = c.args.pass.now in
    cell_low c.args.pool.now.layout c.args.number (field_number c.args.field) _
    (owned_number (known pass.seat) c.args.pool.now.layout c.args.number pass.keeping.pass c.requires.fits.sizes c.requires.owned)
    (field_low c.args.field) c.cell-place.ensures

pub store_word-requires-clause-allows : goal.store_word-requires-clause-allows
store_word-requires-clause-allows g c = let S = g.S.Shape in let pool = c.args.pool.now in let pass = c.args.pass.now in
    writes_owned S.SIDES _ S.addition pool.layout _ _ _ pass.seat.me g.met.S.Shape.alike c.args.number
    (field_number c.args.field) c.args.word pass.keeping.lone c.requires.owned (field_low c.args.field) c.cell-place.ensures

pub invariant_of-pass : goal.invariant_of-pass
invariant_of-pass g c = let pass = c.args.pass.now in let t = c.store_word.ensures.told in let seat = c.store_word.new.seat in record {
  keeping = keeping_wrote g.S.Shape.SENTINELS g.S.Shape.SIDES pass.seat seat _ _ _ _ _ _ _ _ _ pass.keeping t.0.0 t.1 t.0.1;
  run = c.store_word.ensures.run;
}

pub returns : goal.returns
returns g c = let pass = c.args.pass.now in let t = c.store_word.ensures.told in let seat = c.store_word.new.seat in record {
  same = same_wrote pass.seat seat _ _ _ _ t.0.1 c.store_word.ensures.table;
  wrote = subst (λ (k : ℕ). WroteField c.args.number (field_number c.args.field) c.args.word k (view pass.seat)
      (view seat)) c.cell-place.ensures t.0.1;
  walk = refl;
  purse = refl;
}
