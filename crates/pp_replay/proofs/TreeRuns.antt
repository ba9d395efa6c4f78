-- How a tree starts under settings that choose it.
use Rattle.std.proofs.Common.{◌≡◌, ℕ, sym, ap}
use Rattle.pp_rule.specs.Opening.{share_of as pool_share}
use Rattle.pp_ends.specs.Ends.{map_sizes}
use Rattle.pp_tree.specs.Trees.{tree_sizes}
use Rattle.pp_words.specs.declared.Settings.{Settings}
use Rattle.pp_words.specs.declared.Kind.TheVariants as kind
use Rattle.pp_replay.specs.Replay.{sizes_of, heads_of, dealt, share_of}
use Rattle.pp_replay.proofs.PoolRuns.{pool_shares}

module _ (settings : Settings) (tree : settings.map ≡ kind.Tree) where
  pub tree_sized : map_sizes (tree_sizes settings.callers settings.records) ≡ sizes_of settings
  tree_sized = λ i. record { passes = settings.callers; records = settings.records; heads = ap (heads_of settings) (sym tree) i }

  pub tree_shares : (c : ℕ)
      → pool_share 5 (tree_sizes settings.callers settings.records) c ≡ share_of settings.map (sizes_of settings) c
  tree_shares c = pool_shares settings.map 5 (sizes_of settings) c (ap (λ k. dealt k (sizes_of settings)) tree)
