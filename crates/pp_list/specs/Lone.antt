-- A call of a pass that is alone on its pool, on lists where no record that could be reached was removed as it began.
use Rattle.std.specs.Prelude.{◌≡◌, length}
use Rattle.pp_link.specs.declared.layout.Sizes.{Sizes}
use Rattle.pp_model.specs.declared.Turned.{Turned}
use Rattle.pp_model.specs.History.{contents_of}
use Rattle.pp_rule.specs.Causes.{CountsAttached}
use Rattle.pp_rule.specs.Orders.{log_of}
use Rattle.pp_rule.specs.Reached.{Reached}
use Rattle.pp_lists.specs.Clean.{IsBare}
use Rattle.pp_lists.specs.Turns.{ListView}
use Rattle.pp_turns.specs.Turned.{LoneTurned}
use Rattle.pp_walk.specs.Lone.{words_of, IsLone}
use Rattle.pp_walk.specs.Bare.{LoneEnd, LoneRemoved}
use Rattle.pp_list.specs.declared.going.ListGoing.{ListGoing}
use Rattle.pp_list.specs.declared.going.Marked.{Marked}
use Rattle.pp_list.specs.declared.going.Next.{Next}
use Rattle.pp_list.specs.declared.going.Next.TheVariants.{Walks, Detaches, Marks, Publishes, Unlinks, Over}

-- its record is marked, to which the anchor leads
abbrev pub LoneMarked : Sizes → Marked → ListView → Type 0
LoneMarked z m v = LoneRemoved z m.anchor m.first v

-- what is true before each kind of turn of it; it has nothing to detach before its record is marked
abbrev pub LoneAt : Sizes → Next → ListView → Type 0
LoneAt z (Walks w) v = IsLone z v
LoneAt z (Detaches f) v = ⊥
LoneAt z (Marks f) v = LoneEnd z f v × (f.first ≡ f.end)
LoneAt z (Publishes f) v = LoneEnd z f v
LoneAt z (Unlinks m) v = LoneMarked z m v
LoneAt z Over v = ⊥

-- A turn of it is not lost. After the last one no record that can be reached is removed.
abbrev pub LoneTurn : Sizes → ListGoing → ListGoing → ListView → Turned → Type 0
LoneTurn z g g' now result = LoneTurned (LoneAt z g'.next now) (IsBare z (words_of z now)) g.lost g'.lost result

-- Where the pass is alone, and no record of a removed pair was attached as the call began, no turn of it was lost so far.
abbrev pub LoneSince : Sizes → ListGoing → ListView → ListView → Type 0
LoneSince z g from now = z.passes ≡ 1 → CountsAttached (Reached 1 z (words_of z from)) (length (contents_of (log_of from.order)))
    → LoneAt z g.next now × (g.lost ≡ 0)
