use Rattle.std.proofs.Common.{◌≡◌, ℕ, [], refl, sym, subst}
use Rattle.std.specs.Prelude.{bit_or}
use Rattle.pp_base.specs.Sources.{side_number}
use Rattle.pp_base.specs.Passes.{known, view}
use Rattle.pp_base.proofs.Telling.{telling}
use Rattle.pp_trees.specs.Searches.{Trees}
use Rattle.pp_trees.specs.Edges.{MayTag, Tags}
use Rattle.pp_trees.proofs.Allowing.{tags_edge}
use Rattle.pp_base.proofs.Staying.{keeping_stays, same_stays}
use Rattle.pp_edges.proofs.Staying.{tags_stays}
use Rattle.pp_edges.proofs.edges.tag_edge.Goals as goal

pub set_bits-requires-clause-allows : goal.set_bits-requires-clause-allows
set_bits-requires-clause-allows c = let z = c.args.pool.now.layout in let me = c.args.pass.now.seat.me in
    let q = known c.args.pass.now.seat in let place = c.locate-edge.result in let sd = side_number c.args.side in
    telling 2 _ (λ z words g. Trees z words g) z 0 _ me _ (λ n. bit_or n 2) (λ n m'. (m'.1 ≡ []) × Tags place sd n me.0 m'.0)
    (tags_edge _ z 0 _ place sd me c.args.pass.now.keeping.lone (subst (λ (x : ℕ). MayTag z q x sd)
    (sym c.locate-edge.ensures.place) c.requires.may))
    (λ n m t. (tags_stays t.0 place sd n t.1).lone)

pub invariant_of-pass : goal.invariant_of-pass
invariant_of-pass c = let pass = c.args.pass.now in let t = c.set_bits.ensures.told in let seat = c.set_bits.new.seat in record {
  keeping = keeping_stays 5 2 pass.seat seat _ _ _ _ _ pass.keeping t.1 (tags_stays t.0.0 _ _ _ t.0.1);
  run = c.set_bits.ensures.run;
}

pub returns : goal.returns
returns c = let pass = c.args.pass.now in let t = c.set_bits.ensures.told in let seat = c.set_bits.new.seat in
    let result = c.set_bits.result in record {
      same = same_stays pass.seat seat (tags_stays t.0.0 _ _ _ t.0.1) c.set_bits.ensures.table;
      tags = subst (λ (p : ℕ). Tags p (side_number c.args.side) result (view pass.seat)
          (view seat)) c.locate-edge.ensures.place t.0.1;
      walk = refl;
      purse = refl;
    }
