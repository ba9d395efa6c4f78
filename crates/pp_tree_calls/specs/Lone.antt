-- A call of a pass that is alone on its pool, on a tree where no record that could be reached was removed as it began.
use Rattle.std.specs.Prelude.{◌≡◌, Bool, true, false, length}
use Rattle.pp_link.specs.declared.layout.Sizes.{Sizes}
use Rattle.pp_model.specs.declared.Turned.{Turned}
use Rattle.pp_model.specs.History.{contents_of}
use Rattle.pp_rule.specs.Causes.{CountsAttached}
use Rattle.pp_rule.specs.Orders.{log_of}
use Rattle.pp_rule.specs.Reached.{Reached}
use Rattle.pp_trees.specs.Clean.{IsBare}
use Rattle.pp_trees.specs.Edges.{TreeView}
use Rattle.pp_trees.specs.Gathering.{live_in_tree}
use Rattle.pp_trees.specs.Lone.{words_of}
use Rattle.pp_turns.specs.Turned.{LoneTurned}
use Rattle.pp_seek.specs.Lone.{LoneSeek, LoneSought}
use Rattle.pp_tree_turns.specs.Lone.{LoneFlagged, LoneTagged}
use Rattle.pp_tree_calls.specs.declared.going.Next.{Next}
use Rattle.pp_tree_calls.specs.declared.going.Next.TheVariants.{Seeks, Publishes, Flags, Tags, Splices, Over}
use Rattle.pp_tree_calls.specs.declared.going.TreeGoing.{TreeGoing}

-- What is true before each kind of turn of it. It has nothing to tag or to splice before it took effect, and seeks no more after that.
abbrev pub LoneNext : Sizes → Bool → Next → TreeView → Type 0
LoneNext z struck (Seeks s) v = (struck ≡ false) × LoneSeek z s.spot v
LoneNext z struck (Publishes s) v = LoneSought z s v
LoneNext z struck (Flags s) v = LoneSought z s v
LoneNext z struck (Tags s side) v = (struck ≡ true) × LoneFlagged z s side v
LoneNext z struck (Splices s side sibling) v = (struck ≡ true) × LoneTagged z s side sibling v
LoneNext z struck Over v = ⊥

abbrev pub LoneAt : Sizes → TreeGoing → TreeView → Type 0
LoneAt z g v = LoneNext z g.struck g.next v

-- A turn of it is not lost. After the last one no record that can be reached is removed.
abbrev pub LoneTurn : Sizes → TreeGoing → TreeGoing → TreeView → Turned → Type 0
LoneTurn z g g' now result = LoneTurned (LoneAt z g' now) (IsBare z (words_of z now)) g.lost g'.lost result

-- As many records are attached as a tree of the pairs has live ones that the pass has seen.
abbrev pub CountsClean : Sizes → TreeView → Type 0
CountsClean z v = CountsAttached (Reached 2 z (words_of z v)) (live_in_tree (length (contents_of (log_of v.order))))

-- Where the pass is alone, and no record of a removed pair was attached as the call began, no turn of it was lost so far.
abbrev pub LoneSince : Sizes → TreeGoing → TreeView → TreeView → Type 0
LoneSince z g from now = z.passes ≡ 1 → CountsClean z from → LoneAt z g now × (g.lost ≡ 0)
