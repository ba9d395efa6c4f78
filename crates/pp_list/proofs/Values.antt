-- Loads of the fields of held records find nothing.
use Rattle.std.proofs.Common.{◌≡◌, ℕ, true, [], ◌∷◌, ◌++◌, refl, subst, ⊎_elim, arith}
use Rattle.pp_rule.specs.Lists.{IsIn}
use Rattle.pp_rule.specs.Orders.{read_step}
use Rattle.pp_rule.specs.Steps.{ReadField}
use Rattle.pp_rule.proofs.Put.{in_one, in_either}
use Rattle.pp_base.specs.Named.{NamedStep}
use Rattle.pp_base.proofs.Named.{made_append}
use Rattle.pp_rule.specs.Orders.{only_walks}
use Rattle.pp_lists.specs.Turns.{ListView}
use Rattle.pp_lists.proofs.Losing.{IsIdleKind, idle_finds, finds_append, onto}
use Rattle.pp_walk.specs.Trod.{Idles}

pub idles_read : (i field found place : ℕ) (v w : ListView) → ReadField i field found place v w → Idles v w
idles_read i field found place v w r = record {
  steps = step ∷ [];
  did = (
    w,
    (
      record {
        known = v.known;
        left = found;
        number = refl;
        owned = λ _. refl;
        leaves = λ _. refl;
        made = r.made;
      },
      refl,
    ),
  );
  loses = λ sizes earlier. idle_finds sizes earlier (step ∷ []) (λ s here. subst (λ (x : NamedStep). IsIdleKind x.kind) (in_one s step here)
      record { load = λ e. omega arith; confirm = λ e. omega arith; miss = λ e. omega arith; mark = λ e. omega arith });
  writes = λ s here. subst (λ (x : NamedStep). only_walks x.kind ≡ true) (in_one s step here) refl;
}
  where
    step : NamedStep
    step = record { kind = read_step; place = place; word = found }

pub idles_both : (u v w : ListView) → Idles u v → Idles v w → Idles u w
idles_both u v w a b = record {
  steps = a.steps ++ b.steps;
  did = made_append a.steps b.steps u v w a.did b.did;
  loses = λ sizes earlier. let e = finds_append sizes earlier a.steps b.steps in let x = a.loses sizes earlier in
      let y = b.loses sizes (onto a.steps earlier) in omega arith;
  writes = λ s i. ⊎_elim (λ (l : IsIn s a.steps). a.writes s l) (λ (r : IsIn s b.steps). b.writes s r) (in_either s a.steps b.steps i);
}
