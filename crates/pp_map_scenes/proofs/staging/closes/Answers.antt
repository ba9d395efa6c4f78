-- What a refused closing hands back is what it was given.
use Rattle.std.proofs.Common.{◌≡◌, subst, sym}
use Rattle.pp_model.specs.Lists.{AtEach}
use Rattle.pp_map_scenes.proofs.staging.closes.Goals as goal

pub close-requires-in-Err-clause-each : goal.close-requires-in-Err-clause-each
close-requires-in-Err-clause-each g c = let back = c.in-Err.ensures.back in
    subst (λ m. AtEach c.in-Err.refused.passes.items
    (λ k p. g.M.MapCalls.Belongs m p × g.M.MapCalls.Idle p × (g.M.MapCalls.pass_view p).caller ≡ k)) (sym back.0)
    (subst (λ items. AtEach items
    (λ k p. g.M.MapCalls.Belongs c.args.whole p × g.M.MapCalls.Idle p × (g.M.MapCalls.pass_view p).caller ≡ k)) (sym back.1)
    c.requires.each)
