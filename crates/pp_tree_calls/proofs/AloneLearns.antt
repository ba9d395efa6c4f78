-- A call of a pass that is alone on its pool, as it begins, and where its pass learns a note: it has seen all steps, so all stays.
use Rattle.std.proofs.Common.{◌≡◌, ℕ, Bool, Option, Some, None, sym, ◌∙◌, subst}
use Rattle.std.proofs.lemmas.Bool.{false≢true}
use Rattle.pp_link.specs.declared.layout.Sizes.{Sizes}
use Rattle.pp_link.specs.declared.link.Link.{Link}
use Rattle.pp_model.specs.declared.Call.{Call}
use Rattle.pp_rule.specs.Lists.{BeginsWith}
use Rattle.pp_rule.specs.Orders.{made_by}
use Rattle.pp_base.specs.declared.source.Side.{Side}
use Rattle.pp_calls.proofs.Lone.{learnt_same}
use Rattle.pp_trees.specs.Edges.{TreeView}
use Rattle.pp_trees.specs.Lone.{tree_opens, Sees, IsLone, IsStanding}
use Rattle.pp_trees.specs.Searches.{caller_of}
use Rattle.pp_trees.proofs.LoneCounts.{clean_bare_now}
use Rattle.pp_seek.specs.declared.seek.Above.{Above}
use Rattle.pp_seek.specs.declared.seek.Sought.{Sought}
use Rattle.pp_seek.specs.declared.seek.Spot.{Spot}
use Rattle.pp_seek.specs.Lone.{LoneOver, LoneSeek, LoneSought}
use Rattle.pp_seek.specs.Seeking.{AllEmpty}
use Rattle.pp_seek.proofs.Lone.{run_of}
use Rattle.pp_tree_turns.specs.Lone.{LoneFlagged, LoneTagged}
use Rattle.pp_tree_calls.specs.declared.going.Next.{Next}
use Rattle.pp_tree_calls.specs.declared.going.Next.TheVariants.{Seeks, Publishes, Flags, Tags, Splices, Over}
use Rattle.pp_tree_calls.specs.declared.going.TreeGoing.{TreeGoing}
use Rattle.pp_tree_calls.specs.Begun.{BeginsOn}
use Rattle.pp_tree_calls.specs.Lone.{LoneNext, LoneSince}

-- the order is as it was
order_learnt : (z : Sizes) (v w : TreeView) → z.passes ≡ 1 → Sees z v → Sees z w → BeginsWith w.order v.order
    → made_by v.known.number w.order ≡ made_by v.known.number v.order → w.order ≡ v.order
order_learnt z v w one sv sw begins same =
    learnt_same 2 caller_of (tree_opens z) z v.known.number w.order v.order one sv.low (run_of z w sw) begins same

-- What is known of the pass and the order that it has seen are all that is asked of a view.
module _ (z : Sizes) (v w : TreeView) (known : w.known ≡ v.known) (order : w.order ≡ v.order) where
  abbrev again : TreeView
  again = record v { known = w.known; order = w.order }

  again_is : again ≡ v
  again_is = λ i. record v { known = known i; order = order i }

  lone_again : IsLone z again → IsLone z w
  lone_again l = record { one = l.one; bare = l.bare; held = l.held }

  stands_again : (place word : ℕ) → IsStanding z place word again → IsStanding z place word w
  stands_again place word s = record { one = s.one; stands = s.stands }

  over_again : (word : ℕ) (a : Option Above) → LoneOver z word a again → LoneOver z word a w
  over_again word None l = tt
  over_again word (Some a) l = record { top = l.top; path = l.path; leads = l.leads; edge = stands_again _ _ l.edge }

  seek_again : (spot : Option Spot) → LoneSeek z spot again → LoneSeek z spot w
  seek_again None l = lone_again l
  seek_again (Some s) l = record { lone = lone_again l.lone; over = over_again s.word s.above l.over; between = l.between }

  sought_again : (s : Sought) → LoneSought z s again → LoneSought z s w
  sought_again s l = record {
    lone = lone_again l.lone;
    path = l.path;
    leads = l.leads;
    above = stands_again _ _ l.above;
    edge = stands_again _ _ l.edge;
  }

  flagged_again : (s : Sought) (side : Side) → LoneFlagged z s side again → LoneFlagged z s side w
  flagged_again s side l = record { one = l.one; but = l.but; held = l.held; leads = l.leads; above = stands_again _ _ l.above }

  tagged_again : (s : Sought) (side : Side) (sibling : Link) → LoneTagged z s side sibling again → LoneTagged z s side sibling w
  tagged_again s side sibling l = record {
    one = l.one;
    but = l.but;
    held = l.held;
    leads = l.leads;
    above = stands_again _ _ l.above;
    plain = l.plain;
    beside = l.beside;
    path = l.path;
  }

  next_again : (struck : Bool) (n : Next) → LoneNext z struck n again → LoneNext z struck n w
  next_again struck (Seeks s) l = (l.0, seek_again s.spot l.1)
  next_again struck (Publishes s) l = sought_again s l
  next_again struck (Flags s) l = sought_again s l
  next_again struck (Tags s side) l = (l.0, flagged_again s side l.1)
  next_again struck (Splices s side sibling) l = (l.0, tagged_again s side sibling l.1)
  next_again struck Over l = l

  at_same : (struck : Bool) (n : Next) → LoneNext z struck n v → LoneNext z struck n w
  at_same struck n l = next_again struck n (subst (λ (u : TreeView). LoneNext z struck n u) (sym again_is) l)

pub lone_learnt : (z : Sizes) (g : TreeGoing) (from v w : TreeView) → Sees z v → Sees z w → w.known ≡ v.known → BeginsWith w.order v.order
    → made_by v.known.number w.order ≡ made_by v.known.number v.order → LoneSince z g from v → LoneSince z g from w
lone_learnt z g from v w sv sw known begins made since one clean = let l = since one clean in
    (at_same z v w known (order_learnt z v w one sv sw begins made) g.struck g.next l.0, l.1)

pub lone_begun : (z : Sizes) (call : Call) (races : ℕ) (g : TreeGoing) (v : TreeView) → Sees z v → BeginsOn call races g → AllEmpty v.known
    → LoneSince z g v v
lone_begun z call races g v sees b empty one clean = (
  subst (λ (n : Next). LoneNext z g.struck n v) (sym b.next) (
    b.struck,
    subst (λ (s : Option Spot). LoneSeek z s v) (sym b.seek_spot) record {
      one = one;
      bare = clean_bare_now z v sees one clean;
      held = λ j low on. absurd (false≢true (sym (empty j low).free ∙ on));
    },
  ),
  b.lost,
)
