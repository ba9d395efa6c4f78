use Rattle.std.proofs.Common.{rules}
use Rattle.std.proofs.lemmas.List.Sorted.{answers_always}
use Rattle.pp_model.proofs.Maps.{searched}
use Rattle.pp_model.proofs.plain.spot.Goals as goal

-- the closure gives a pair's key
pub returns : goal.returns
returns c =
    let facts = c.binary_search_by_key.ensures in
    let by_key = facts.position (λ pair. pair.key) (answers_always _ _ _ (λ f a r g called. search rules)) in
    searched _ c.args.key _ c.requires facts.bound by_key
