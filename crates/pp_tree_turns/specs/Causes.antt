-- The words in which a tree says its causes, and what it means by the words of the calls' clauses.
use Rattle.std.specs.Prelude.{◌≡◌, ◌≢◌, ◌⊎◌, ℕ, cond, nat_eq, List, [], ◌∷◌, ◌++◌}
use Rattle.pp_link.specs.Links.{target, flag_bit}
use Rattle.pp_link.specs.Places.{cell_place}
use Rattle.pp_model.specs.declared.Call.{Call}
use Rattle.pp_model.specs.declared.Pair.{Pair}
use Rattle.pp_model.specs.declared.steps.Step.{Step}
use Rattle.pp_model.specs.Calls.{key_of}
use Rattle.pp_model.specs.Pass.{MapSizes, Meaning}
use Rattle.pp_rule.specs.Causes.{PoolWords, CauseWords, pool_sizes, pool_meaning}
use Rattle.pp_rule.specs.Opening.{opening_words}
use Rattle.pp_rule.specs.Orders.{read_step}
use Rattle.pp_rule.specs.Reached.{Reached}
use Rattle.pp_trees.specs.Edges.{flag_step, end_step}
use Rattle.pp_trees.specs.Trees.{root_head}
use Rattle.pp_trees.specs.Sentinels.{sentinel_field}
use Rattle.pp_trees.specs.Gathering.{TreeGathered, live_in_tree}
use Rattle.pp_tree_turns.specs.Walked.{tree_reader}

-- the leaf whose pair a call took: that behind the edge on which it set FLAG
unfoldable pub flagged_leaf : List Step → ℕ
flagged_leaf [] = 0
flagged_leaf (s ∷ steps) = cond (nat_eq s.kind flag_step) (target s.word) (flagged_leaf steps)

-- the first step after a call took effect reads the value of the leaf that it removed
pub record ReadsValueOf (z : MapSizes) (leaf : ℕ) (steps : List Step) : Type 0 where
  pub first : Step
  pub rest : List Step
  pub is : steps ≡ first ∷ rest
  pub kind : first.kind ≡ read_step
  pub place : first.place ≡ cell_place (pool_sizes z) leaf 1

-- Among the steps after a call took effect, a seek ended elsewhere: at an edge without FLAG, at a leaf with another key, or at
-- another leaf than the one that the call removed.
pub record EndedElsewhere (z : MapSizes) (call : Call) (steps : List Step) : Type 0 where
  pub earlier : List Step
  pub later : List Step
  pub ends : Step
  pub reads : Step
  pub is : steps ≡ earlier ++ ends ∷ reads ∷ later
  pub ends_kind : ends.kind ≡ end_step
  pub reads_kind : reads.kind ≡ read_step
  pub leaf : ℕ
  pub own : ReadsValueOf z leaf steps
  pub elsewhere : (flag_bit ends.word ≡ 0) ⊎ ((reads.word ≢ key_of call) ⊎ (target ends.word ≢ leaf))

-- A leaf is left attached where the lost turns reached the budget, or a seek ended elsewhere after the call took effect.
abbrev pub TreeLeftBy : MapSizes → Call → ℕ → ℕ → List Step → Type 0
TreeLeftBy z call budget lost steps = (lost ≡ budget) ⊎ EndedElsewhere z call steps

abbrev pub tree_causes : CauseWords
tree_causes = record {
  reader = tree_reader;
  IsAttached = λ z words n. Reached 2 (pool_sizes z) words n;
  taken = λ z call steps. flagged_leaf steps;
  LeftBy = TreeLeftBy;
}

-- an insert needs two records, and each pair has two, beside the sentinels
abbrev pub tree_words : PoolWords
tree_words = record {
  need = 2;
  live = live_in_tree;
  opening = λ z. opening_words 5 root_head sentinel_field (pool_sizes z);
}

-- the words hold these pairs, in the records of these numbers
abbrev pub HoldsPairs : MapSizes → List ℕ → List Pair → List ℕ → Type 0
HoldsPairs z = TreeGathered (pool_sizes z)

abbrev pub tree_meaning : Meaning
tree_meaning = pool_meaning tree_words tree_causes HoldsPairs
