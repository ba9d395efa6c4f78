use Rattle.std.proofs.Common.{◌<◌, ℕ, ◌∷◌, [], List, suc, length, length-append, refl, ap, ◌∙◌, subst, arith}
use Rattle.pp_base.specs.Passes.{known, view}
use Rattle.pp_shelf.specs.Shelves.{PutsNone}
use Rattle.pp_shelf.proofs.Trying.{moves_none, moves_more, same_share}
use Rattle.pp_shelf.proofs.Running.{puts_more, tidies_begin, tidies_share, tidies_at}
use Rattle.pp_shelf.proofs.Showing.{tidies_shown}
use Rattle.pp_shelf.proofs.putting.tidy.Goals as goal

pub loop-init : goal.loop-init
loop-init g c = (
  0,
  record {
    puts = (refl, refl);
    same = record { table_is = refl; number = refl; sizes = refl };
    only = moves_none (known c.args.pass.now.seat) (known c.args.pass.now.seat) c.args.pass.now.purse c.args.pass.now.purse
        refl refl;
    walk = refl;
  },
)

pub loop-preserved : goal.loop-preserved
loop-preserved g c = let S = g.S.Shape in let h = c.loop.invariant in let first = c.args.pass.now in let now = c.loop.pass in
    let next = c.put.new.pass in
    let share = same_share S.SENTINELS S.SIDES first.seat now.seat _ _ _ _ _ _ _ _ first.keeping now.keeping h.1.same in
    let longer = subst (λ (n : ℕ). n < length now.purse.free.items) share (c.put.ensures.longer c.loop-test.true) in (
      suc h.0,
      record {
        puts = puts_more c.args.pool.now.layout first.share h.0 (view first.seat) (view now.seat) (view next.seat)
            first.purse now.purse next.purse h.1.puts longer (c.put.ensures.last c.loop-test.true);
        same = record {
          table_is = c.put.ensures.same.table_is ∙ h.1.same.table_is;
          number = c.put.ensures.same.number ∙ h.1.same.number;
          sizes = c.put.ensures.same.sizes ∙ h.1.same.sizes;
        };
        only = moves_more (known first.seat) (known now.seat) (known next.seat) first.purse now.purse next.purse h.1.only
            c.put.ensures.only;
        walk = c.put.ensures.walk ∙ h.1.walk;
      },
    )

pub loop-smaller : goal.loop-smaller
loop-smaller g c = let last = c.put.ensures.last c.loop-test.true in
    omega (
      arith,
      ap (λ (l : List ℕ). length l) last.free.free,
      length-append c.put.new.pass.purse.free.items (last.number ∷ []),
    )

pub returns-clause-tidies : goal.returns-clause-tidies
returns-clause-tidies g c = let S = g.S.Shape in let h = c.loop.invariant in let first = c.args.pass.now in
    let now = c.loop.pass in let next = c.put.new.pass in
    let share = same_share S.SENTINELS S.SIDES first.seat now.seat _ _ _ _ _ _ _ _ first.keeping now.keeping h.1.same in record {
      count = h.0;
      between = view now.seat;
      lists = now.purse;
      puts = h.1.puts;
      last = subst (λ (n : ℕ). PutsNone c.args.pool.now.layout n (view now.seat) (view next.seat) now.purse next.purse) share
          (c.put.ensures.none c.loop-test.false);
    }

pub returns-clause-ends : goal.returns-clause-ends
returns-clause-ends g c = tidies_shown c.args.pool.now.layout (view c.args.pass.now.seat) (view c.put.new.pass.seat)
    c.args.pass.now.purse c.put.new.pass.purse c.args.pass.now.share (returns-clause-tidies g c)

pub returns-clause-begins : goal.returns-clause-begins
returns-clause-begins g c = tidies_begin c.args.pool.now.layout (view c.args.pass.now.seat) (view c.put.new.pass.seat)
    c.args.pass.now.purse c.put.new.pass.purse c.args.pass.now.share (returns-clause-tidies g c)

pub returns-clause-share : goal.returns-clause-share
returns-clause-share g c = tidies_share c.args.pool.now.layout (view c.args.pass.now.seat) (view c.put.new.pass.seat)
    c.args.pass.now.purse c.put.new.pass.purse c.args.pass.now.share (returns-clause-tidies g c)

pub returns-clause-shelves : goal.returns-clause-shelves
returns-clause-shelves g c = tidies_at c.args.pool.now.layout (view c.args.pass.now.seat) (view c.put.new.pass.seat)
    c.args.pass.now.purse c.put.new.pass.purse c.args.pass.now.share (returns-clause-tidies g c)

pub returns-clause-only : goal.returns-clause-only
returns-clause-only g c = let h = c.loop.invariant in
    moves_more (known c.args.pass.now.seat) (known c.loop.pass.seat) (known c.put.new.pass.seat) c.args.pass.now.purse
    c.loop.pass.purse c.put.new.pass.purse h.1.only c.put.ensures.only
