use Rattle.std.proofs.Common.{arith, sym, ◌∙◌}
use Rattle.std.proofs.lemmas.Bool.{true≢false}
use Rattle.pp_check.proofs.Indexing.{before_far, before_read}
use Rattle.pp_check.proofs.index.count_before.Goals as goal

pub loop-low-preserved-then-is_before : goal.loop-low-preserved-then-is_before
loop-low-preserved-then-is_before c = record {
  order = omega arith;
  within = c.loop-low.invariant.within;
  below = λ k d lt. before_far c.args.index.now c.requires k _ d c.args.key c.args.at (omega arith)
      (omega (arith, c.loop-low.invariant.within))
      (before_read c.args.index.now _ _ d c.args.key c.args.at (omega (arith, c.loop-low.invariant.within))
      (c.is_before.ensures.0 c.if-is_before.true));
  above = c.loop-low.invariant.above;
}

pub loop-low-preserved : goal.loop-low-preserved
loop-low-preserved c = record {
  order = omega arith;
  within = omega (arith, c.loop-low.invariant.within);
  below = c.loop-low.invariant.below;
  above = λ k d le within before.
      let middle = before_far c.args.index.now c.requires _ k d c.args.key c.args.at le within before in
      true≢false (sym (c.is_before.ensures.1 (before_read c.args.index.now _ d _ c.args.key c.args.at (omega arith) middle))
      ∙ c.if-is_before.false);
}
