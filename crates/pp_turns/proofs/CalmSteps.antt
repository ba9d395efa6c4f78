-- The steps at a purse, and those beside it, are calm: they change no word of a head or of a record that can be reached.
use Rattle.std.proofs.Common.{◌≡◌, ℕ, ◌⊎◌, inl, inr, ⊎_elim, Bool, true, false, refl, sym, ap, ◌∙◌, subst, ne_eqb}
use Rattle.std.proofs.lemmas.Bool.{false≢true}
use Rattle.std.specs.Prelude.{nat_eq, ◌||◌, ◌&&◌}
use Rattle.std.proofs.Math.Decide.{ℕ_discrete}
use mathlib.Core.Logic.{dite}
use Rattle.pp_link.specs.declared.layout.Sizes.{Sizes}
use Rattle.pp_rule.specs.Orders.{is_calm, missed_step, invalidate_step, retire_step, scan_frontier_step, scan_walk_step, shelve_step}
use Rattle.pp_rule.specs.Orders.{unshelve_step, clear_step, write_step}
use Rattle.pp_base.specs.Named.{NamedStep}
use Rattle.pp_purse.specs.Steps.{is_purse_step}
use Rattle.pp_turns.specs.Causes.{is_aside}

pick : (k n : ℕ) (rest : Bool) → (nat_eq k n || rest) ≡ true → is_calm n ≡ true → (rest ≡ true → is_calm k ≡ true) → is_calm k ≡ true
pick k n rest is here later = dite (ℕ_discrete k n) (λ e. subst (λ (j : ℕ). is_calm j ≡ true) (sym e) here)
    (λ ne. later (sym (ap (λ (b : Bool). b || rest) (ne_eqb k n ne)) ∙ is))

both : (k n : ℕ) (rest : Bool) → (nat_eq k n && rest) ≡ true → is_calm n ≡ true → is_calm k ≡ true
both k n rest is here = dite (ℕ_discrete k n) (λ e. subst (λ (j : ℕ). is_calm j ≡ true) (sym e) here)
    (λ ne. absurd (false≢true (sym (ap (λ (b : Bool). b && rest) (ne_eqb k n ne)) ∙ is)))

pub purse_calm : (z : Sizes) (s : NamedStep) → is_purse_step z s ≡ true → is_calm s.kind ≡ true
purse_calm z s is = pick s.kind invalidate_step _ is refl (λ a. pick s.kind retire_step _ a refl (λ b. pick s.kind scan_frontier_step _ b
    refl
    (λ c. pick s.kind scan_walk_step _ c refl (λ d. pick s.kind shelve_step _ d refl (λ e. pick s.kind unshelve_step _ e refl
    (λ f. both s.kind missed_step _ f refl))))))

or_cases : (a b : Bool) → (a || b) ≡ true → (a ≡ true) ⊎ (b ≡ true)
or_cases true b e = inl refl
or_cases false b e = inr e

pub aside_calm : (z : Sizes) (s : NamedStep) → is_aside z s ≡ true → is_calm s.kind ≡ true
aside_calm z s is = ⊎_elim (purse_calm z s) (λ rest. pick s.kind clear_step _ rest refl (λ a. last s.kind a))
    (or_cases (is_purse_step z s) (nat_eq s.kind clear_step || nat_eq s.kind write_step) is)
  where
    last : (k : ℕ) → nat_eq k write_step ≡ true → is_calm k ≡ true
    last k e = dite (ℕ_discrete k write_step) (λ same. subst (λ (j : ℕ). is_calm j ≡ true) (sym same) refl)
        (λ ne. absurd (false≢true (sym (ne_eqb k write_step ne) ∙ e)))
