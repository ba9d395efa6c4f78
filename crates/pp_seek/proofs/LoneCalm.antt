-- Calm steps of a pass that is alone on its pool change no word of a head or of a record that can be reached. What is true of every pool,
-- at the two sides of a tree.
use Rattle.std.proofs.Common.{◌≡◌, ℕ, zero, suc, ◌<◌, ◌≤◌, ⊎_elim, true, false, List, [], ◌∷◌, get_or, refl, ap, ◌∙◌, arith}
use Rattle.pp_link.specs.declared.layout.Sizes.{Sizes}
use Rattle.pp_model.specs.declared.Change.{Change}
use Rattle.pp_model.specs.declared.Placed.{Placed}
use Rattle.pp_rule.specs.Lists.{IsIn, BeginsWith}
use Rattle.pp_rule.specs.Orders.{is_calm, stores}
use Rattle.pp_rule.specs.Reached.{SameReached}
use Rattle.pp_rule.specs.Steps.{MadeStep}
use Rattle.pp_rule.proofs.Lone as lone
use Rattle.pp_rule.proofs.Made.{known_after}
use Rattle.pp_base.specs.Named.{NamedStep, Made}
use Rattle.pp_base.proofs.Calm as calms
use Rattle.pp_base.proofs.Named.{order_since}
use Rattle.pp_trees.specs.Searches.{TreePass, caller_of}
use Rattle.pp_trees.specs.Edges.{TreeView, end_step}
use Rattle.pp_trees.specs.Lone.{tree_opens, words_of as seen_words}
pub use Rattle.pp_trees.proofs.Lone.{TreeRun}
use Rattle.pp_seek.specs.Trails.{IsSilent, Trail}

-- what a pass had seen earlier was a run
pub run_back : (z : Sizes) (v w : TreeView) → BeginsWith w.order v.order → TreeRun z w.order → TreeRun z v.order
run_back z v w begins run = lone.run_back 2 caller_of (tree_opens z) z v w begins run

pub made_begins : (steps : List NamedStep) (v w : TreeView) → Made steps v w → BeginsWith w.order v.order
made_begins steps v w made = order_since steps v w made

-- it is the same pass
pub made_number : (steps : List NamedStep) (v w : TreeView) → Made steps v w → w.known.number ≡ v.known.number
made_number [] v w is = ap (λ (u : TreeView). u.known.number) is
made_number (s ∷ steps) v w m = made_number steps m.0 w m.1.1 ∙ (ap (λ (q : TreePass). q.number)
    (known_after s.kind s.place s.word m.1.0.left [] [] m.1.0.known v m.0 m.1.0.made) ∙ m.1.0.number)

module _ (z : Sizes) (one : z.passes ≡ 1) where
  pub calm_step : {kind place word left : ℕ} {changes : List Change} {placed : List Placed} {known : TreePass} (v w : TreeView)
      → v.known.number < z.passes → known.number ≡ v.known.number → MadeStep kind place word left changes placed known v w
      → TreeRun z w.order → is_calm kind ≡ true → SameReached 2 z (seen_words z v) (seen_words z w)
  calm_step v w low number made run calm = calms.calm_step 2 (omega arith) caller_of (tree_opens z) z one v w low number made run calm

  pub calm_made : (steps : List NamedStep) (v w : TreeView) → v.known.number < z.passes → Made steps v w → TreeRun z w.order
      → ((s : NamedStep) → IsIn s steps → is_calm s.kind ≡ true) → SameReached 2 z (seen_words z v) (seen_words z w)
  calm_made steps v w low made run calm = calms.calm_made 2 (omega arith) caller_of (tree_opens z) z one steps v w low made run calm

  -- A step of the pass that isn't a store found the word that stands there.
  pub finds_there : {kind place word left : ℕ} {changes : List Change} {placed : List Placed} (known : TreePass) (v w : TreeView)
      → v.known.number < z.passes → MadeStep kind place word left changes placed known v w → TreeRun z w.order
      → stores kind ≡ false → word ≡ get_or (seen_words z v) place 0
  finds_there known v w low made run silent = calms.finds_there 2 (omega arith) caller_of (tree_opens z) z one known v w low made run silent

pub silent_calm : (k : ℕ) → IsSilent k → is_calm k ≡ true
silent_calm k s = ⊎_elim (λ (lt : (4 ≤ k) × (k < 9)). low k lt.0 lt.1) (λ (e : k ≡ end_step). ap is_calm e) s
  where
    low : (k : ℕ) → 4 ≤ k → k < 9 → is_calm k ≡ true
    low zero a b = absurd (omega arith)
    low (suc zero) a b = absurd (omega arith)
    low (suc (suc zero)) a b = absurd (omega arith)
    low (suc (suc (suc zero))) a b = absurd (omega arith)
    low (suc (suc (suc (suc zero)))) a b = refl
    low (suc (suc (suc (suc (suc zero))))) a b = refl
    low (suc (suc (suc (suc (suc (suc zero)))))) a b = refl
    low (suc (suc (suc (suc (suc (suc (suc zero))))))) a b = refl
    low (suc (suc (suc (suc (suc (suc (suc (suc zero)))))))) a b = refl
    low (suc (suc (suc (suc (suc (suc (suc (suc (suc k))))))))) a b = absurd (omega arith)

-- the steps of a seek are calm
pub trail_same : (z : Sizes) (v w : TreeView) → z.passes ≡ 1 → v.known.number < z.passes → Trail v w → TreeRun z w.order
    → SameReached 2 z (seen_words z v) (seen_words z w)
trail_same z v w one low t run = calm_made z one t.steps v w low t.did run (λ s i. silent_calm s.kind (t.silent s i))
