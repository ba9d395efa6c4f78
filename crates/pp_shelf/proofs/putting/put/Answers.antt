use Rattle.std.proofs.Common.{◌≡◌, ℕ, ◌*◌, ◌<◌, ◌≤◌, List, length, refl, ap, ◌∙◌, subst, inl, inr, arith}
use Rattle.pp_link.specs.declared.layout.Sizes.{Sizes}
use Rattle.pp_link.specs.Places.{shelf_place}
use Rattle.pp_base.specs.declared.purse.Purse.{Purse}
use Rattle.pp_base.specs.Passes.{known, view}
use Rattle.pp_base.specs.Shelves.{FreeWithoutLast}
use Rattle.pp_shelf.specs.Shelves.{MissesShelves}
use Rattle.pp_shelf.proofs.Trying.{misses_more, moves_none, moves_put}
use Rattle.pp_shelf.proofs.Running.{puts_last_at, puts_none_at}
use Rattle.pp_shelf.proofs.putting.put.Goals as goal

pub returns-then-free-share-clause-none : goal.returns-then-free-share-clause-none
returns-then-free-share-clause-none g c = λ _. record {
  why = inl (
    subst (λ (l : List ℕ). length l ≤ c.args.pass.now.share) c.free.ensures
        (omega (arith, c.if-free-share.true, c.share.ensures)),
    refl,
  );
  lists = refl;
}

pub returns-then-free-share-clause-shelves : goal.returns-then-free-share-clause-shelves
returns-then-free-share-clause-shelves g c = puts_none_at c.args.pool.now.layout c.args.pass.now.share
    (view c.args.pass.now.seat) (view c.args.pass.now.seat) c.args.pass.now.purse c.args.pass.now.purse
    (returns-then-free-share-clause-none g c refl)

pub returns-then-free-share-clause-only : goal.returns-then-free-share-clause-only
returns-then-free-share-clause-only g c = moves_none (known c.args.pass.now.seat) (known c.args.pass.now.seat)
    c.args.pass.now.purse c.args.pass.now.purse refl refl

pub returns-then-shelve-eq0-clause-last : goal.returns-then-shelve-eq0-clause-last
returns-then-shelve-eq0-clause-last g c = λ _. let h = c.loop-shelf.invariant in
    let passes : c.sizes-shelf-end.result.passes ≡ c.args.pool.now.layout.passes =
    ap (λ (z : Sizes). z.passes) c.sizes-shelf-end.ensures.same in
    let put = c.shelve.ensures.made.put c.if-shelve-eq0.true in record {
      shelf = c.loop-shelf.shelf;
      low = omega (arith, c.loop-shelf-test.true, passes);
      between = view c.loop-shelf.pass.seat;
      missed = h.missed;
      number = put.0;
      put = put.1.0;
      free = subst (λ (p : Purse). FreeWithoutLast put.0 p c.shelve.new.pass.purse) h.purse put.1.1;
    }

pub returns-then-shelve-eq0-clause-shelves : goal.returns-then-shelve-eq0-clause-shelves
returns-then-shelve-eq0-clause-shelves g c = puts_last_at c.args.pool.now.layout (view c.args.pass.now.seat)
    (view c.shelve.new.pass.seat) c.args.pass.now.purse c.shelve.new.pass.purse (returns-then-shelve-eq0-clause-last g c refl)

pub returns-then-shelve-eq0-clause-only : goal.returns-then-shelve-eq0-clause-only
returns-then-shelve-eq0-clause-only g c = let h = c.loop-shelf.invariant in let now = c.loop-shelf.pass in
    let next = c.shelve.new.pass in let put = c.shelve.ensures.made.put c.if-shelve-eq0.true in
    moves_put put.0 (shelf_place c.args.pool.now.layout c.loop-shelf.shelf) (known c.args.pass.now.seat) (view now.seat)
    (view next.seat) c.args.pass.now.purse next.purse h.missed.known_is put.1.0
    (subst (λ (p : Purse). FreeWithoutLast put.0 p next.purse) h.purse put.1.1)

pub loop-shelf-preserved : goal.loop-shelf-preserved
loop-shelf-preserved g c = let h = c.loop-shelf.invariant in
    let taken = c.shelve.ensures.made.taken c.if-shelve-eq0.false in record {
      missed = misses_more c.args.pool.now.layout c.loop-shelf.shelf c.shelve.result (view c.args.pass.now.seat)
          (view c.loop-shelf.pass.seat) (view c.shelve.new.pass.seat) h.missed c.if-shelve-eq0.false taken.0;
      same = record {
        table_is = c.shelve.ensures.same.table_is ∙ h.same.table_is;
        number = c.shelve.ensures.same.number ∙ h.same.number;
        sizes = c.shelve.ensures.same.sizes ∙ h.same.sizes;
      };
      purse = taken.1 ∙ h.purse;
      walk = c.shelve.ensures.walk ∙ h.walk;
    }

pub returns-clause-none : goal.returns-clause-none
returns-clause-none g c = λ _. let h = c.loop-shelf.invariant in let first = c.args.pass.now in
    let passes : c.sizes-shelf-end.result.passes ≡ c.args.pool.now.layout.passes =
    ap (λ (z : Sizes). z.passes) c.sizes-shelf-end.ensures.same in
    let all : c.loop-shelf.shelf ≡ 8 * c.args.pool.now.layout.passes =
    omega (arith, c.loop-shelf-test.false, c.loop-shelf.auto.shelf-end, passes) in record {
      why = inr (
        subst (λ (l : List ℕ). first.share < length l) c.free.ensures (omega (arith, c.if-free-share.false, c.share.ensures)),
        subst (λ (count : ℕ). MissesShelves c.args.pool.now.layout count (view first.seat) (view c.loop-shelf.pass.seat)) all
            h.missed,
      );
      lists = h.purse;
    }

pub returns-clause-shelves : goal.returns-clause-shelves
returns-clause-shelves g c = puts_none_at c.args.pool.now.layout c.args.pass.now.share (view c.args.pass.now.seat)
    (view c.loop-shelf.pass.seat) c.args.pass.now.purse c.loop-shelf.pass.purse (returns-clause-none g c refl)

pub returns-clause-only : goal.returns-clause-only
returns-clause-only g c = let h = c.loop-shelf.invariant in
    moves_none (known c.args.pass.now.seat) (known c.loop-shelf.pass.seat) c.args.pass.now.purse c.loop-shelf.pass.purse
    h.missed.known_is h.purse
