-- The facts of every pool don't speak of a shape's own part: they stay where a pass has another one after a step.
use Rattle.std.proofs.Common.{◌≡◌, ℕ, ◌<◌, List, sym, ap, ◌∙◌, subst}
use Rattle.std.proofs.Math.Path.{fun_ext}
use Rattle.std.proofs.Math.Decide.{ℕ_discrete}
use mathlib.Core.Logic.{dite}
use Rattle.pp_link.specs.declared.layout.Sizes.{Sizes}
use Rattle.pp_rule.specs.declared.views.PassState.{PassState}
use Rattle.pp_rule.specs.declared.views.LoggedStep.{LoggedStep}
use Rattle.pp_rule.specs.States.{RecordState, PoolState}
use Rattle.pp_rule.specs.Rule.{Numbers, PrivateWords, Hazards, Chains, Scans, Base}
use Rattle.pp_rule.specs.Changes.{SameBase}
use Rattle.pp_rule.proofs.Put.{put, put_here, put_else}
use Rattle.pp_rule.proofs.Stepping.{after_step}
use Rattle.pp_rule.proofs.Keeping.{base_idle}

-- the later of two values at one number counts
pub put_twice : {A : Type 0} (f : ℕ → A) (i j : ℕ) (a b : A) → j ≡ i → put (put f i a) j b ≡ put f j b
put_twice f i j a b same = fun_ext (λ n. dite (ℕ_discrete n j)
    (λ e. ap (put (put f i a) j b) e ∙ (put_here (put f i a) j b ∙ sym (ap (put f j b) e ∙ put_here f j b)))
    (λ ne. put_else (put f i a) j b n ne ∙ (put_else f i a n (λ e. ne (e ∙ sym same)) ∙ sym (put_else f j b n ne))))

module _ {E A W : Type 0} (sides : ℕ) (z : Sizes) (words : List ℕ) (g : PoolState E A W) (q q' : PassState W) (status : ℕ
    → RecordState)
    (s : LoggedStep E A) where
  pub base_own : Base sides z words (after_step g q status s) → q.number < z.passes → SameBase q q'
      → Base sides z words (after_step g q' status s)
  base_own b pass same = let of : ℕ → PassState W = put g.of q.number q in
      let more : Base sides z words (after_step (after_step g q status s) q' status s) =
      base_idle sides z words (after_step g q status s) q q' s b pass (put_here g.of q.number q) same in
      let is : put of q'.number q' ≡ put g.of q'.number q' = put_twice g.of q.number q'.number q q' same.rest.number in record {
        within = more.within;
        two = more.two;
        wide = more.wide;
        numbers = subst (λ (of : ℕ → PassState W). Numbers z of status) is more.numbers;
        privates = subst (λ (of : ℕ → PassState W). PrivateWords z words of) is more.privates;
        hazards = subst (λ (of : ℕ → PassState W). Hazards z words of status) is more.hazards;
        links = more.links;
        shelves = more.shelves;
        chains = subst (λ (of : ℕ → PassState W). Chains sides z words of status) is more.chains;
        scans = subst (λ (of : ℕ → PassState W). Scans sides z words of status) is more.scans;
      }
