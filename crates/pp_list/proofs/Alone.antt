-- What ends a call of a pass that is alone on its pool changes no link, and its record is detached or published as it stands.
use Rattle.std.proofs.Common.{◌≡◌, ℕ, Bool, true, false, List, ◌++◌, sym}
use Rattle.std.proofs.Common.{subst, arith, Option}
use Rattle.pp_link.specs.declared.layout.Sizes.{Sizes}
use Rattle.pp_model.specs.declared.Answer.{Answer}
use Rattle.pp_model.specs.declared.Change.{Change}
use Rattle.pp_model.specs.declared.Turned.{Turned}
use Rattle.pp_model.specs.declared.Turned.TheVariants.{Done}
use Rattle.pp_model.specs.declared.steps.Step.{Step}
use Rattle.pp_model.specs.MapCalls.{IfOn, IfDone}
use Rattle.pp_pool.specs.declared.fresh.Fresh.{Fresh}
use Rattle.pp_rule.specs.Lists.{IsIn}
use Rattle.pp_rule.specs.Reached.{SameReached}
use Rattle.pp_rule.proofs.Undisturbed.{calm_stays}
use Rattle.pp_base.specs.declared.purse.Purse.{Purse}
use Rattle.pp_base.specs.Named.{name_of}
use Rattle.pp_base.proofs.Named.{made_append}
pub use Rattle.pp_turns.proofs.CalmSteps.{purse_calm, aside_calm}
use Rattle.pp_turns.specs.Causes.{Aside}
use Rattle.pp_turns.proofs.Stretches.{stepped_steps}
use Rattle.pp_lists.specs.Clean.{IsBare}
use Rattle.pp_lists.specs.Turns.{ListView}
use Rattle.pp_walk.specs.Lone.{list_opens, words_of, Sees}
use Rattle.pp_walk.proofs.Lone.{run_of}
use Rattle.pp_walk.proofs.LoneRuns.{calm_both}
use Rattle.pp_list.specs.declared.going.ListGoing.{ListGoing}
use Rattle.pp_list.specs.Purses.{Leaves}
use Rattle.pp_walk.proofs.LoneEffects.{quiet_calm}
use Rattle.pp_walk.proofs.LoneStays.{same_bare, named_same, quiet_same}
use Rattle.pp_list.specs.Lone.{LoneAt, LoneTurn}

module _ (z : Sizes) (v w : ListView) (sv : Sees z v) (sw : Sees z w) (one : z.passes ≡ 1) where
  -- stores in private records and steps at the purse
  pub aside_same : Aside z v w → SameReached 1 z (words_of z v) (words_of z w)
  aside_same a = calm_stays 1 (omega arith) (λ (c : Change). c.caller) (list_opens z) z v.known.number v w a.stepped.steps one sv.low
      (run_of z w sw) a.stepped.order a.stepped.made (λ x i. aside_calm z (name_of x) (a.each x
      (subst (λ (l : List Step). IsIn x l) (sym (stepped_steps v w a.stepped)) i)))

  -- what ends a call
  pub leaves_bare : (looks : Bool) (share : ℕ) (fresh : Option Fresh) (p p' : Purse) → Leaves looks z share fresh v w p p'
      → IsBare z (words_of z v) → IsBare z (words_of z w)
  leaves_bare true share fresh p p' l = same_bare z v w sv sw one (quiet_same z v w sv sw one 0 l.clears)
  leaves_bare false share fresh p p' l = same_bare z v w sv sw one (named_same z v w sv sw one (l.clears.steps ++ l.tidies.names)
      (made_append l.clears.steps l.tidies.names v l.between w l.clears.did l.tidies.steps.made)
      (calm_both l.clears.steps l.tidies.names (quiet_calm 0 v l.between l.clears) (λ s i. purse_calm z s (l.tidies.steps.each s i))))

-- A turn that ended the call.
pub over_turn : (z : Sizes) (g g' : ListGoing) (w : ListView) (answer : Answer) (result : Turned) → g'.lost ≡ g.lost → result ≡ Done answer
    → IsBare z (words_of z w) → LoneTurn z g g' w result
over_turn z g g' w answer result lost done bare = record {
  lost = lost;
  on = subst (λ (r : Turned). IfOn r (LoneAt z g'.next w)) (sym done) tt;
  done = subst (λ (r : Turned). IfDone r (λ _. IsBare z (words_of z w))) (sym done) bare;
}
