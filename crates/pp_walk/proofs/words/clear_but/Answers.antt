-- Each word in turn is kept, empty or cleared.
use Rattle.std.proofs.Common.{◌+◌, ◌<◌, inl, inr, refl, sym, ap, ◌∙◌, subst}
use Rattle.atomic_table.specs.declared.shared.Seat.{Seat}
use Rattle.pp_base.specs.Passes.{known}
use Rattle.pp_base.proofs.Steady.{named_at}
use Rattle.pp_lists.specs.Turns.{ListView}
use Rattle.pp_walk.proofs.Clearing.{ClearsTo, clears_start, clears_kept, clears_empty, clears_one}
use Rattle.pp_walk.proofs.words.clear_but.Goals as goal
use Rattle.pp_walk.proofs.words.clear_but.Goals.{then-pass-word-ne0+then-word-a+then-word-b+then-word-c}
use Rattle.pp_walk.proofs.words.clear_but.Goals.{else-pass-word-ne0, then-pass-word-ne0+else-word-a}
use Rattle.pp_walk.proofs.words.clear_but.Goals.{else-word-a-via-then-word-a+then-word-b+else-word-c}
use Rattle.pp_walk.proofs.words.clear_but.Goals.{else-word-a-via-then-word-a+else-word-b, else-word-a-via-else-word-a}

pub loop-word-init : goal.loop-word-init
loop-word-init c = record { to = clears_start c.args.a c.args.b c.args.c c.args.pass.now.seat; purse = refl }

pub clear-requires-clause-fits : goal.clear-requires-clause-fits
clear-requires-clause-fits c = let same = c.loop-word.invariant.to.same in record {
  table_is = same.table_is ∙ c.requires.fits.table_is;
  sizes = same.sizes ∙ c.requires.fits.sizes;
}

pub loop-word-preserved : goal.loop-word-preserved
loop-word-preserved c = let old = c.args.pass.now.seat in let now = c.loop-word.pass in let i = c.loop-word.word in
    let inv = c.loop-word.invariant in let next : Seat Unit ListView → Type 0 = λ s. ClearsTo (i + 1) c.args.a c.args.b c.args.c old s in
    let lt : i < 5 = c.loop-word-test.true in
    elim c.if-pass-word-ne0.branch [
      | then-pass-word-ne0+then-word-a+then-word-b+then-word-c w ↦ record {
        to = subst next (sym (ap (λ p. p.seat) w.pass-is)) (clears_one i c.args.a c.args.b c.args.c _ old now.seat _ now.keeping.pass.five
            lt
            w.if-word-a.true w.if-word-b.true w.if-word-c.true w.clear.ensures.same w.clear.ensures.made inv.to);
        purse = ap (λ p. p.purse) w.pass-is ∙ (w.clear.ensures.purse ∙ inv.purse);
      }
      | else-pass-word-ne0 w ↦ record {
        to = subst next (sym (ap (λ p. p.seat) w.pass-is)) (clears_empty i c.args.a c.args.b c.args.c old now.seat now.keeping.pass lt
            (sym (named_at (known now.seat).walk now.walk i now.keeping.walk_is) ∙ w.if-pass-word-ne0.false) inv.to);
        purse = ap (λ p. p.purse) w.pass-is ∙ inv.purse;
      }
      | then-pass-word-ne0+else-word-a w ↦ record {
        to = subst next (sym (ap (λ p. p.seat) w.pass-is)) (clears_kept i c.args.a c.args.b c.args.c old now.seat
            (elim w.else-word-a.branch [
              | else-word-a-via-then-word-a+then-word-b+else-word-c x ↦ inr (inr x.if-word-c.false)
              | else-word-a-via-then-word-a+else-word-b x ↦ inr (inl x.if-word-b.false)
              | else-word-a-via-else-word-a x ↦ inl x.if-word-a.false
            ]) inv.to);
        purse = ap (λ p. p.purse) w.pass-is ∙ inv.purse;
      }
    ]
