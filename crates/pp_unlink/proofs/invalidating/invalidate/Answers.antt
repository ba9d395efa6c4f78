use Rattle.std.proofs.Common.{◌≡◌, ℕ, refl, ◌∙◌, subst}
use Rattle.pp_link.specs.Places.{frontier_place}
use Rattle.pp_rule.specs.Paths.{links_of}
use Rattle.pp_rule.specs.Steps.{retiring}
use Rattle.pp_rule.proofs.Made.{known_after}
use Rattle.pp_base.specs.Passes.{known, view}
use Rattle.pp_base.specs.Chains.{chain_at}
use Rattle.pp_base.specs.Named.{retires, MadeOne}
use Rattle.pp_base.proofs.Named.{made_more, plain_one}
use Rattle.pp_unlink.specs.Invalidation.{invalidations}
use Rattle.pp_unlink.proofs.Settling.{rest_retired, retired_same, retire_place}
use Rattle.pp_unlink.proofs.invalidating.invalidate.Goals as goal

pub returns-clause-made : goal.returns-clause-made
returns-clause-made g c = let pass = c.args.pass.now in let z = c.args.pool.now.layout in let q = known pass.seat in
    let looked = c.invalidate_links.ensures.made in let s1 = c.invalidate_links.new.pass.seat in let s2 = c.retire.new.pass.seat in
    let made = c.retire.ensures.made in let oldest = chain_at q 0 in
    let place : frontier_place z (known s1).number (chain_at (known s1) 0).guard ≡ frontier_place z q.number oldest.guard =
    retire_place z q (known s1) c.requires.some looked.known_is in
    record {
      words = looked.words;
      lead = looked.lead;
      steps = made_more (invalidations z (links_of g.S.Shape.SIDES oldest.records) looked.words)
          (retires (frontier_place z q.number oldest.guard))
          (view pass.seat) (view s1) (view s2) looked.steps
          (subst (λ (k : ℕ). MadeOne (retires k) (view s1) (view s2)) place
          (plain_one (retires (frontier_place z (known s1).number (chain_at (known s1) 0).guard)) (retiring (chain_at (known s1) 0)
          (known s1))
          (view s1) (view s2) refl refl made));
      known = known_after _ _ _ _ _ _ _ (view s1) (view s2) made ∙ retired_same q (known s1) c.requires.some looked.known_is;
    }

pub returns-clause-rest : goal.returns-clause-rest
returns-clause-rest g c = let pass = c.args.pass.now in let q = known pass.seat in
    let looked = c.invalidate_links.ensures.made in let s1 = c.invalidate_links.new.pass.seat in let s2 = c.retire.new.pass.seat in
    rest_retired q (known s2) pass.purse c.retire.new.pass.purse
    (known_after _ _ _ _ _ _ _ (view s1) (view s2) c.retire.ensures.made ∙ retired_same q (known s1) c.requires.some looked.known_is)
    c.retire.ensures.purse.spent c.requires.rest
