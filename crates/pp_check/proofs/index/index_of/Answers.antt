use Rattle.std.proofs.Common.{arith}
use Rattle.std.proofs.lemmas.List.Sorted.{Contains-permutation, All-permutation}
use Rattle.std.proofs.lemmas.Option.{slice_get_within}
use Rattle.pp_check.specs.Indexes.{IsTouch}
use Rattle.pp_check.proofs.Indexing.{precedes_from}
use Rattle.pp_check.proofs.index.index_of.Goals as goal

pub returns : goal.returns
returns c = record {
  touches = All-permutation (IsTouch c.args.log.now) c.loop-at.touches.items _ c.sort_unstable.ensures.permutation
      c.loop-at.invariant.touches;
  each = λ p d at. Contains-permutation c.loop-at.touches.items _ _ c.sort_unstable.ensures.permutation
      (c.loop-at.invariant.each p d (omega (arith, slice_get_within c.args.log.now p d at)) at);
  rise = λ k d within. precedes_from _ _ (c.sort_unstable.ensures.sorted k d (omega arith) within);
}
