-- How a call of a pass that is alone on its pool begins, and stays over what its pass learns.
use Rattle.std.proofs.Common.{◌≡◌, sym, ◌∙◌, subst}
use Rattle.std.proofs.lemmas.Bool.{false≢true}
use Rattle.pp_link.specs.declared.layout.Sizes.{Sizes}
use Rattle.pp_rule.specs.Lists.{BeginsWith}
use Rattle.pp_rule.specs.Orders.{made_by}
use Rattle.pp_lists.specs.Turns.{ListView}
use Rattle.pp_walk.specs.declared.walk.Walk.{Walk}
use Rattle.pp_walk.specs.Lone.{Sees}
use Rattle.pp_walk.specs.Words.{AllEmpty}
use Rattle.pp_walk.proofs.LoneCounts.{clean_bare_now}
use Rattle.pp_walk.proofs.LoneLearns.{order_learnt, lone_same, end_same, removed_same}
use Rattle.pp_list.specs.declared.going.ListGoing.{ListGoing}
use Rattle.pp_list.specs.declared.going.Next.{Next}
use Rattle.pp_list.specs.declared.going.Next.TheVariants.{Walks, Detaches, Marks, Publishes, Unlinks, Over}
use Rattle.pp_list.specs.Lone.{LoneAt, LoneSince}

-- a call that was begun
pub lone_begun : (z : Sizes) (g : ListGoing) (walk : Walk) (v : ListView) → Sees z v → g.next ≡ Walks walk → g.lost ≡ 0 → AllEmpty v.known
    → LoneSince z g v v
lone_begun z g walk v sees at none empty one clean = (
  subst (λ (n : Next). LoneAt z n v) (sym at) record {
    one = one;
    bare = clean_bare_now z v sees one clean;
    held = λ j low on. absurd (false≢true (sym (empty j low).free ∙ on));
  },
  none,
)

-- what is true before each kind of turn is so of each view of the same pass that has seen the same steps
at_same : (z : Sizes) (v w : ListView) → w.known ≡ v.known → w.order ≡ v.order → (n : Next) → LoneAt z n v → LoneAt z n w
at_same z v w known order (Walks x) l = lone_same z v w known order l
at_same z v w known order (Detaches f) l = l
at_same z v w known order (Marks f) l = (end_same z v w known order f l.0, l.1)
at_same z v w known order (Publishes f) l = end_same z v w known order f l
at_same z v w known order (Unlinks m) l = removed_same z v w known order m.anchor m.first l
at_same z v w known order Over l = l

-- a call on its way, over what its pass learns
pub lone_learnt : (z : Sizes) (g : ListGoing) (from v w : ListView) → Sees z v → Sees z w → w.known ≡ v.known → BeginsWith w.order v.order
    → made_by v.known.number w.order ≡ made_by v.known.number v.order → LoneSince z g from v → LoneSince z g from w
lone_learnt z g from v w sees then known begins made goes one clean = let l = goes one clean in
    (at_same z v w known (order_learnt z v w one sees then begins made) g.next l.0, l.1)
