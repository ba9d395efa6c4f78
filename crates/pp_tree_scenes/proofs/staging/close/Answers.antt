use Rattle.pp_tree_scenes.proofs.staging.close.Goals as goal

pub closes-requires-clause-each : goal.closes-requires-clause-each
closes-requires-clause-each g c = λ k p at. let r = c.requires.ready k p at in (r.member, r.resting, c.requires.order k p at)
