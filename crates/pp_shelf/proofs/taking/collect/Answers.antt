use Rattle.std.proofs.Common.{◌<◌, ℕ, ◌∷◌, [], List, suc, length, length-append, refl, ap, ◌∙◌, inl, inr, arith}
use Rattle.pp_base.specs.Passes.{known, view}
use Rattle.pp_shelf.specs.Shelves.{TakesFirst, TakesNone}
use Rattle.pp_shelf.proofs.Trying.{moves_none, moves_more, of_some, of_none}
use Rattle.pp_shelf.proofs.Running.{takes_more, collects_begin, collects_most, collects_at}
use Rattle.pp_shelf.proofs.Showing.{collects_shown}
use Rattle.pp_shelf.proofs.taking.collect.Goals as goal

pub loop-pass-init : goal.loop-pass-init
loop-pass-init g c = (
  0,
  record {
    takes = (refl, refl);
    same = record { table_is = refl; number = refl; sizes = refl };
    only = moves_none (known c.args.pass.now.seat) (known c.args.pass.now.seat) c.args.pass.now.purse c.args.pass.now.purse
        refl refl;
    walk = refl;
  },
)

pub loop-pass-preserved : goal.loop-pass-preserved
loop-pass-preserved g c = let h = c.loop-pass.invariant in let first = c.args.pass.now in let now = c.loop-pass.pass in
    let next = c.take_any.new.pass in
    let few : length c.loop-pass.pass.purse.free.items < c.args.enough =
    omega (arith, c.loop-pass-test.true, ap (λ (l : List ℕ). length l) c.free.ensures) in
    let found = λ (n : ℕ). TakesFirst c.args.pool.now.layout n (view now.seat) (view next.seat) now.purse next.purse in
    let got = of_some c.take_any.result found c.take_any.ensures.some c.if-is_none.ensures in (
      suc h.0,
      record {
        takes = takes_more c.args.pool.now.layout c.args.enough h.0 got.0 (view first.seat) (view now.seat) (view next.seat)
            first.purse now.purse next.purse h.1.takes few got.1;
        same = record {
          table_is = c.take_any.ensures.same.table_is ∙ h.1.same.table_is;
          number = c.take_any.ensures.same.number ∙ h.1.same.number;
          sizes = c.take_any.ensures.same.sizes ∙ h.1.same.sizes;
        };
        only = moves_more (known first.seat) (known now.seat) (known next.seat) first.purse now.purse next.purse h.1.only
            c.take_any.ensures.only;
        walk = c.take_any.ensures.walk ∙ h.1.walk;
      },
    )

pub loop-pass-smaller : goal.loop-pass-smaller
loop-pass-smaller g c = let now = c.loop-pass.pass in let next = c.take_any.new.pass in
    let found = λ (n : ℕ). TakesFirst c.args.pool.now.layout n (view now.seat) (view next.seat) now.purse next.purse in
    let got = of_some c.take_any.result found c.take_any.ensures.some c.if-is_none.ensures in
    omega (
      arith,
      c.loop-pass-test.true,
      ap (λ (l : List ℕ). length l) c.free.ensures,
      ap (λ (l : List ℕ). length l) got.1.free.free,
      length-append c.loop-pass.pass.purse.free.items (got.0 ∷ []),
    )

pub returns-then-is_none-clause-collects : goal.returns-then-is_none-clause-collects
returns-then-is_none-clause-collects g c = let h = c.loop-pass.invariant in let now = c.loop-pass.pass in
    let next = c.take_any.new.pass in record {
      count = h.0;
      between = view now.seat;
      lists = now.purse;
      takes = h.1.takes;
      last = inr (
        omega (arith, c.loop-pass-test.true, ap (λ (l : List ℕ). length l) c.free.ensures),
        of_none c.take_any.result (TakesNone c.args.pool.now.layout (view now.seat) (view next.seat) now.purse next.purse)
            c.take_any.ensures.none c.if-is_none.ensures,
      );
    }

pub returns-then-is_none-clause-ends : goal.returns-then-is_none-clause-ends
returns-then-is_none-clause-ends g c = collects_shown c.args.pool.now.layout (view c.args.pass.now.seat)
    (view c.take_any.new.pass.seat) c.args.pass.now.purse c.take_any.new.pass.purse c.args.enough
    (returns-then-is_none-clause-collects g c)

pub returns-then-is_none-clause-begins : goal.returns-then-is_none-clause-begins
returns-then-is_none-clause-begins g c = collects_begin c.args.pool.now.layout (view c.args.pass.now.seat)
    (view c.take_any.new.pass.seat) c.args.pass.now.purse c.take_any.new.pass.purse c.args.enough
    (returns-then-is_none-clause-collects g c)

pub returns-then-is_none-clause-most : goal.returns-then-is_none-clause-most
returns-then-is_none-clause-most g c = collects_most c.args.pool.now.layout (view c.args.pass.now.seat)
    (view c.take_any.new.pass.seat) c.args.pass.now.purse c.take_any.new.pass.purse c.args.enough
    (returns-then-is_none-clause-collects g c)

pub returns-then-is_none-clause-shelves : goal.returns-then-is_none-clause-shelves
returns-then-is_none-clause-shelves g c = collects_at c.args.pool.now.layout (view c.args.pass.now.seat)
    (view c.take_any.new.pass.seat) c.args.pass.now.purse c.take_any.new.pass.purse c.args.enough
    (returns-then-is_none-clause-collects g c)

pub returns-then-is_none-clause-only : goal.returns-then-is_none-clause-only
returns-then-is_none-clause-only g c = let now = c.loop-pass.pass in let next = c.take_any.new.pass in
    moves_more (known c.args.pass.now.seat) (known now.seat) (known next.seat) c.args.pass.now.purse now.purse next.purse
    c.loop-pass.invariant.1.only c.take_any.ensures.only

pub returns-clause-collects : goal.returns-clause-collects
returns-clause-collects g c = let h = c.loop-pass.invariant in let now = c.loop-pass.pass in record {
  count = h.0;
  between = view now.seat;
  lists = now.purse;
  takes = h.1.takes;
  last = inl (omega (arith, c.loop-pass-test.false, ap (λ (l : List ℕ). length l) c.free.ensures), refl, refl);
}

pub returns-clause-begins : goal.returns-clause-begins
returns-clause-begins g c = collects_begin c.args.pool.now.layout (view c.args.pass.now.seat) (view c.loop-pass.pass.seat)
    c.args.pass.now.purse c.loop-pass.pass.purse c.args.enough (returns-clause-collects g c)

pub returns-clause-most : goal.returns-clause-most
returns-clause-most g c = collects_most c.args.pool.now.layout (view c.args.pass.now.seat) (view c.loop-pass.pass.seat)
    c.args.pass.now.purse c.loop-pass.pass.purse c.args.enough (returns-clause-collects g c)

pub returns-clause-shelves : goal.returns-clause-shelves
returns-clause-shelves g c = collects_at c.args.pool.now.layout (view c.args.pass.now.seat) (view c.loop-pass.pass.seat)
    c.args.pass.now.purse c.loop-pass.pass.purse c.args.enough (returns-clause-collects g c)
