use Rattle.std.proofs.Common.{arith, ◌*◌}
use Rattle.pp_rule.specs.Opening.{fields_from}
use Rattle.pp_pool.proofs.Words.{none_yet, long, fields_appended, no_fields, length_fields}
use Rattle.pp_pool.proofs.opening.add_sentinels.Goals as goal

pub loop-before-init : goal.loop-before-init
loop-before-init g c = let field = g.S.Shape.first_field in
    (none_yet c.args.words.now.items (fields_from field 1 0) (no_fields field), omega arith)

pub add_sentinel-requires-clause-room : goal.add_sentinel-requires-clause-room
add_sentinel-requires-clause-room g c = let field = g.S.Shape.first_field in
    let count = long c.args.words.now.items c.loop-before.words.items (fields_from field 1 c.loop-before.before)
    (5 * c.loop-before.before)
    c.loop-before.invariant.0 (length_fields field 1 c.loop-before.before) in
    let most = c.SENTINELS-before-end.ensures in omega arith

pub loop-before-preserved : goal.loop-before-preserved
loop-before-preserved g c = let field = g.S.Shape.first_field in (
  fields_appended field c.args.words.now.items c.loop-before.words.items c.add_sentinel.new.words.items c.loop-before.before
      c.loop-before.invariant.0 c.add_sentinel.ensures.words,
  omega arith,
)
