use Rattle.std.proofs.Common.{◌≡◌, ℕ, ◌*◌, ap, ◌∙◌, subst, arith}
use Rattle.pp_base.specs.declared.purse.Purse.{Purse}
use Rattle.pp_base.specs.Passes.{known, view}
use Rattle.pp_base.specs.Shelves.{FreeWithLast}
use Rattle.pp_link.specs.declared.layout.Sizes.{Sizes}
use Rattle.pp_link.specs.Places.{shelf_place}
use Rattle.pp_shelf.specs.Shelves.{EmptiesNone}
use Rattle.pp_shelf.proofs.Trying.{empties_more, moves_none, moves_took}
use Rattle.pp_shelf.proofs.Running.{takes_first_at, takes_none_at}
use Rattle.pp_shelf.proofs.taking.take_any.Goals as goal

pub returns-in-Some-clause-some : goal.returns-in-Some-clause-some
returns-in-Some-clause-some g c = let h = c.loop-shelf.invariant in let got = c.in-Some.ensures.some in
    let passes : c.sizes-shelf-end.result.passes ≡ c.args.pool.now.layout.passes =
    ap (λ (z : Sizes). z.passes) c.sizes-shelf-end.ensures.same in record {
      shelf = c.loop-shelf.shelf;
      low = omega (arith, c.loop-shelf-test.true, passes);
      between = view c.loop-shelf.pass.seat;
      empty = h.empty;
      took = got.took;
      free = subst (λ (p : Purse). FreeWithLast c.in-Some.number p c.unshelve.new.pass.purse) h.purse got.purse;
    }

pub returns-in-Some-clause-shelves : goal.returns-in-Some-clause-shelves
returns-in-Some-clause-shelves g c = takes_first_at c.args.pool.now.layout c.in-Some.number (view c.args.pass.now.seat)
    (view c.unshelve.new.pass.seat) c.args.pass.now.purse c.unshelve.new.pass.purse (returns-in-Some-clause-some g c)

pub returns-in-Some-clause-only : goal.returns-in-Some-clause-only
returns-in-Some-clause-only g c = let h = c.loop-shelf.invariant in let got = c.in-Some.ensures.some in
    moves_took c.in-Some.number (shelf_place c.args.pool.now.layout c.loop-shelf.shelf) (known c.args.pass.now.seat)
    (view c.loop-shelf.pass.seat) (view c.unshelve.new.pass.seat) c.args.pass.now.purse c.unshelve.new.pass.purse h.empty.known_is
    got.took (subst (λ (p : Purse). FreeWithLast c.in-Some.number p c.unshelve.new.pass.purse) h.purse got.purse)

pub loop-shelf-preserved : goal.loop-shelf-preserved
loop-shelf-preserved g c = let h = c.loop-shelf.invariant in let none = c.in_default.ensures.none in record {
  empty = empties_more c.args.pool.now.layout c.loop-shelf.shelf (view c.args.pass.now.seat) (view c.loop-shelf.pass.seat)
      (view c.unshelve.new.pass.seat) h.empty none.made;
  same = record {
    table_is = c.unshelve.ensures.same.table_is ∙ h.same.table_is;
    number = c.unshelve.ensures.same.number ∙ h.same.number;
    sizes = c.unshelve.ensures.same.sizes ∙ h.same.sizes;
  };
  purse = none.purse ∙ h.purse;
  walk = c.unshelve.ensures.walk ∙ h.walk;
}

pub returns-clause-none : goal.returns-clause-none
returns-clause-none g c = let h = c.loop-shelf.invariant in
    let passes : c.sizes-shelf-end.result.passes ≡ c.args.pool.now.layout.passes =
    ap (λ (z : Sizes). z.passes) c.sizes-shelf-end.ensures.same in
    let all : c.loop-shelf.shelf ≡ 8 * c.args.pool.now.layout.passes =
    omega (arith, c.loop-shelf-test.false, c.loop-shelf.auto.shelf-end, passes) in record {
      empty = subst (λ (count : ℕ). EmptiesNone c.args.pool.now.layout count (view c.args.pass.now.seat)
          (view c.loop-shelf.pass.seat)) all h.empty;
      lists = h.purse;
    }

pub returns-clause-shelves : goal.returns-clause-shelves
returns-clause-shelves g c = takes_none_at c.args.pool.now.layout (view c.args.pass.now.seat) (view c.loop-shelf.pass.seat)
    c.args.pass.now.purse c.loop-shelf.pass.purse (returns-clause-none g c)

pub returns-clause-only : goal.returns-clause-only
returns-clause-only g c = let h = c.loop-shelf.invariant in
    moves_none (known c.args.pass.now.seat) (known c.loop-shelf.pass.seat) c.args.pass.now.purse c.loop-shelf.pass.purse
    h.empty.known_is h.purse
