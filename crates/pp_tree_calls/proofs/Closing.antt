-- A call on a tree that is ended meets its clauses.
use Rattle.std.proofs.Common.{◌≡◌, ◌≢◌, ℕ, ◌≤◌, Bool, true, false, List, ◌++◌, length, refl, ap, subst, ⊎_elim, inl, inr}
use Rattle.pp_link.specs.declared.layout.Sizes.{Sizes}
use Rattle.pp_model.specs.declared.Answer.{Answer}
use Rattle.pp_model.specs.declared.Call.{Call}
use Rattle.pp_model.specs.declared.steps.Step.{Step}
use Rattle.pp_model.specs.Pass.{MapSizes}
use Rattle.pp_rule.specs.Lists.{IsIn}
use Rattle.pp_base.specs.declared.purse.Purse.{Purse}
use Rattle.pp_base.specs.Named.{NamedStep}
use Rattle.pp_calls.specs.PoolViews.{is_writing}
use Rattle.pp_calls.specs.Steps.{WriteNone}
use Rattle.pp_calls.proofs.Growing.{kinds_none}
use Rattle.pp_shelf.specs.Runs.{map_sizes, steps_made}
use Rattle.pp_seek.specs.Trails.{Clears}
use Rattle.pp_trees.specs.Edges.{TreeView}
use Rattle.pp_turns.specs.Answers.{is_look, IsSettled}
use Rattle.pp_turns.specs.Causes.{Aside}
use Rattle.pp_turns.proofs.Aside.{aside_at_purse, aside_both}
use Rattle.pp_turns.proofs.Calm.{calm_aside}
use Rattle.pp_turns.proofs.Ending as ending
use Rattle.pp_turns.proofs.Stretches.{steps_named}
use Rattle.pp_tree_turns.specs.Walked.{tree_reader}
use Rattle.pp_tree_turns.specs.Causes.{tree_words, tree_causes, HoldsPairs, flagged_leaf, EndedElsewhere, TreeLeftBy}
use Rattle.pp_tree_turns.proofs.Counting.{flagged_on, elsewhere_on}
use Rattle.pp_tree_turns.proofs.Reading.{tree_over}
use Rattle.pp_tree_calls.specs.Purses.{TwoRecords, Leaves, out_of}
use Rattle.pp_tree_calls.specs.Answers.{Ends}
use Rattle.pp_tree_calls.proofs.Resting.{aside_clears}

-- What ends a call counts for nothing in it.
pub leaves_aside : (looks : Bool) (z : Sizes) (share : ℕ) (records : TwoRecords) (v w : TreeView) (p p' : Purse)
    → Leaves looks z share records v w p p' → Aside z v w
leaves_aside true z share records v w p p' l = aside_clears z v w l.clears
leaves_aside false z share records v w p p' l = aside_both z v l.between w (aside_clears z v l.between l.clears)
    (aside_at_purse z l.tidies.names l.between w l.tidies.steps)

-- clears of walk words write no link
pub clears_none : (v w : TreeView) → Clears v w → WriteNone (steps_made v w)
clears_none v w c = kinds_none (steps_made v w) (λ n i. ap is_writing (c.each n
    (subst (λ (ns : List NamedStep). IsIn n ns) (steps_named c.trail.steps v w c.trail.did) i)))

-- the leaf that a call took is settled by its steps, once there is one
pub leaf_settled : (steps : List Step) → flagged_leaf steps ≢ 0 → IsSettled flagged_leaf steps
leaf_settled steps some = λ more. flagged_on steps more (flagged_leaf steps) refl some

-- why it was left attached stays so
left_on : (z : MapSizes) (call : Call) (races lost : ℕ) (later more : List Step) → TreeLeftBy z call races lost later
    → TreeLeftBy z call races lost (later ++ more)
left_on z call races lost later more y = ⊎_elim (λ (all : lost ≡ races). inl all)
    (λ (x : EndedElsewhere z call later). inr (elsewhere_on z call later more x)) y

-- It is ended.
pub ended : (z : Sizes) (share races : ℕ) (call : Call) (records : TwoRecords) (v w : TreeView) (p p' : Purse)
    → Leaves (is_look call) z share records v w p p' → w.known.sizes ≡ v.known.sizes → length w.known.chains ≤ 4 → (answer : Answer)
    → Ends z share races call records answer v w p p'
ended z share races call records v w p p' l sizes four answer = ending.ended_by tree_words tree_causes HoldsPairs z call races
    (left_on (map_sizes z) call races) (tree_over z) Clears
    (λ x y c. calm_aside tree_reader z (tree_over z) call x y (aside_clears z x y c)) clears_none share (out_of records) v w p p' l sizes
    four (Aside z v w) (leaves_aside (is_look call) z share records v w p p' l) answer
