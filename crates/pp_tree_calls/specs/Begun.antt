-- A call on a tree as it begins.
use Rattle.std.specs.Prelude.{◌≡◌, ℕ, ◌<◌, true, false, None}
use Rattle.pp_model.specs.declared.Call.{Call}
use Rattle.pp_model.specs.Calls.{key_of}
use Rattle.pp_seek.specs.declared.seek.Seek.{Seek}
use Rattle.pp_seek.specs.Seeking.{AllEmpty, Seeks as IsSeek}
use Rattle.pp_trees.specs.Trees.{inf0}
use Rattle.pp_trees.specs.Searches.{TreePass}
use Rattle.pp_tree_calls.specs.declared.going.TreeGoing.{TreeGoing}
use Rattle.pp_tree_calls.specs.declared.going.Next.TheVariants.{Seeks}

-- A call is begun. Its first turn is that of its seek from the head, on any pass whose walk words are empty.
pub record BeginsOn (call : Call) (races : ℕ) (g : TreeGoing) : Type 0 where
  pub call_is : g.call ≡ call
  pub races_are : g.races ≡ races
  pub lost : g.lost ≡ 0
  pub struck : g.struck ≡ false
  pub records : g.records ≡ None
  pub seek : Seek
  pub next : g.next ≡ Seeks seek
  pub seek_call : seek.call ≡ call
  pub seek_fresh : seek.fresh ≡ true
  pub seek_spot : seek.spot ≡ None
  pub seeks : (q : TreePass) → key_of call < inf0 → AllEmpty q → IsSeek q seek
