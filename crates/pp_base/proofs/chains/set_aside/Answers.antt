use Rattle.std.proofs.Common.{ℕ, List, ◌∷◌, [], ◌++◌, refl, ap, ◌∙◌}
use Rattle.std.specs.Bool.{if◌then◌else◌}
use Rattle.std.specs.Result.{is_ok}
use Rattle.pp_base.proofs.chains.set_aside.Goals as goal

pub returns-clause-purse : goal.returns-clause-purse
returns-clause-purse g c = let items : List ℕ = c.args.pass.now.purse.retired.items in record {
  free = refl;
  retired_are = c.push.ensures.items ∙ ap (λ r. if is_ok r then items ++ c.args.number ∷ [] else items) c.unwrap.ensures;
  room = c.push.ensures.capacity;
  spent = refl;
  chains = refl;
  frontier = refl;
  taken = refl;
  going = refl;
}
