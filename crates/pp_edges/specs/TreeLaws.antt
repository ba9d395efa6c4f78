-- A tree meets the laws of a shape.
pub use Rattle.pp_trees.proofs.Opens.{tree_sided, tree_fits, tree_heads_open, tree_links_open, tree_freezes, tree_opened}
pub use Rattle.pp_trees.proofs.Keeping.{tree_own_changes, trees_alike, trees_cleared, trees_invalidated}
pub use Rattle.pp_trees.proofs.Taking.{tree_chained, tree_detaches, tree_detached}
pub use Rattle.pp_trees.proofs.Closes.{tree_gathers}
pub use Rattle.pp_trees.proofs.Reaching.{tree_reached}
