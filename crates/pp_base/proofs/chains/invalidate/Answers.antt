use Rattle.std.proofs.Common.{ℕ, ◌+◌, refl, ap, ◌∙◌, subst}
use Rattle.pp_link.specs.Places.{cell_place}
use Rattle.pp_rule.specs.Steps.{Invalidated, invalidated, with_chain}
use Rattle.pp_base.specs.Passes.{known, view}
use Rattle.pp_base.specs.Sources.{side_number}
use Rattle.pp_base.specs.Chains.{chain_at}
use Rattle.pp_base.proofs.Chaining.{invalidates_on, keeping_invalidated, member_number, side_low}
use Rattle.pp_base.proofs.Owning.{cell_low}
use Rattle.pp_base.proofs.Steady.{same_known}
use Rattle.pp_base.proofs.Telling.{made_alone, made_known}
use Rattle.pp_base.proofs.chains.invalidate.Goals as goal

pub cell-place-requires : goal.cell-place-requires
cell-place-requires g c = let pass = c.args.pass.now in
    member_number (known pass.seat) c.args.pool.now.layout c.args.chain c.args.number pass.keeping.pass c.requires.fits.sizes
    c.requires.chain c.requires.member

pub set_bits-requires-clause-place : goal.set_bits-requires-clause-place
set_bits-requires-clause-place g c = let pass = c.args.pass.now in
    cell_low c.args.pool.now.layout c.args.number (2 + side_number c.args.side) _
    (member_number (known pass.seat) c.args.pool.now.layout c.args.chain c.args.number pass.keeping.pass c.requires.fits.sizes
    c.requires.chain c.requires.member) (side_low c.args.side)
    (c.cell-place.ensures ∙ ap (λ (f : ℕ). cell_place c.args.pool.now.layout c.args.number f) c.field.ensures)

pub set_bits-requires-clause-allows : goal.set_bits-requires-clause-allows
set_bits-requires-clause-allows g c = let S = g.S.Shape in let pool = c.args.pool.now in let pass = c.args.pass.now in
    invalidates_on S.SIDES _ S.addition pool.layout _ _ _ pass.seat.me g.met.S.Shape.invalidates c.args.chain c.args.number
    (side_number c.args.side) pass.keeping.lone c.requires.chain c.requires.member c.requires.side
    (c.cell-place.ensures ∙ ap (λ (f : ℕ). cell_place pool.layout c.args.number f) c.field.ensures)

pub invariant_of-pass : goal.invariant_of-pass
invariant_of-pass g c = let pass = c.args.pass.now in let t = c.set_bits.ensures.told in let seat = c.set_bits.new.seat in record {
  keeping = keeping_invalidated g.S.Shape.SENTINELS g.S.Shape.SIDES pass.seat seat _ _ _ _ _ c.args.chain c.args.number
      (side_number c.args.side) pass.keeping
      (made_alone seat.me t.0.0 t.0.1.made) t.1 (made_known seat.me t.0.1.made);
  run = c.set_bits.ensures.run;
}

pub returns : goal.returns
returns g c = let pass = c.args.pass.now in let t = c.set_bits.ensures.told in let seat = c.set_bits.new.seat in
    let n : ℕ = c.args.number in let side : ℕ = side_number c.args.side in record {
      same = same_known pass.seat seat (with_chain c.args.chain (invalidated n side (chain_at (known pass.seat) c.args.chain))
          (known pass.seat))
          (made_known seat.me t.0.1.made) refl refl c.set_bits.ensures.table;
      made = subst (λ (k : ℕ). Invalidated c.args.chain (chain_at (known pass.seat) c.args.chain) n side c.set_bits.result k
          (view pass.seat) (view seat))
          (c.cell-place.ensures ∙ ap (λ (f : ℕ). cell_place c.args.pool.now.layout n f) c.field.ensures) t.0.1;
      walk = refl;
      purse = refl;
    }
