use Rattle.std.proofs.Common.{refl, ◌∙◌}
use Rattle.pp_base.specs.Passes.{view}
use Rattle.pp_seek.proofs.Letting.{keeps_first, keeps_next}
use Rattle.pp_seek.proofs.keeping.keep_only.Goals as goal

pub loop-word-preserved : goal.loop-word-preserved
loop-word-preserved c = let i = c.loop-word.invariant in let e = c.keep_word.ensures in record {
  fits = record { table_is = e.same.table_is ∙ i.fits.table_is; sizes = e.same.sizes ∙ i.fits.sizes };
  same = record {
    table_is = e.same.table_is ∙ i.same.table_is;
    number = e.same.number ∙ i.same.number;
    sizes = e.same.sizes
        ∙ i.same.sizes;
  };
  keeps = keeps_next c.args.words c.loop-word.word (view c.args.pass.now.seat) (view c.loop-word.pass.seat)
      (view c.keep_word.new.pass.seat)
      c.loop-word-test.true i.keeps e.keeps;
  purse = e.purse ∙ i.purse;
}

pub loop-word-init : goal.loop-word-init
loop-word-init c = record {
  fits = c.requires.fits;
  same = record { table_is = refl; number = refl; sizes = refl };
  keeps = keeps_first c.args.words (view c.args.pass.now.seat);
  purse = refl;
}
