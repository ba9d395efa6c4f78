-- What the rule of the present words says of a pass that is alone on its pool, where no record that can be reached is removed.
use Rattle.std.proofs.Common.{◌≡◌, ℕ, ◌+◌, ◌<◌, true, List, ap, ◌∙◌, subst, arith}
use Rattle.std.proofs.Math.Decide.{ℕ_discrete}
use mathlib.Core.Logic.{dite}
use Rattle.atomic_table.specs.declared.shared.Seat.{Seat}
use Rattle.pp_link.specs.declared.layout.Sizes.{Sizes}
use Rattle.pp_link.specs.Links.{flag_bit, tag_bit, invalid_bit}
use Rattle.pp_link.specs.Places.{IsNumber}
use Rattle.pp_link.specs.Words.{cell_word}
use Rattle.pp_rule.specs.declared.views.LoggedStep.{LoggedStep}
use Rattle.pp_model.specs.declared.Change.{Change}
use Rattle.pp_model.specs.declared.Placed.{Placed}
use Rattle.pp_rule.specs.Alone.{IsRun}
use Rattle.pp_rule.specs.Orders.{log_of}
use Rattle.pp_rule.specs.Reached.{Reached}
use Rattle.pp_rule.specs.Rule.{Base}
use Rattle.pp_rule.specs.States.{attached, Held}
use Rattle.pp_rule.specs.Views.{slot}
use Rattle.pp_rule.proofs.Reaching.{reached_attached}
use Rattle.pp_rule.proofs.Undisturbed.{by_state, stable_less}
use Rattle.pp_base.specs.declared.purse.Purse.{Purse}
use Rattle.pp_base.specs.Made.{HasRun}
use Rattle.pp_base.specs.Passes.{known, view, Keeping}
use Rattle.pp_trees.specs.Clean.{IsBare}
use Rattle.pp_trees.specs.Edges.{TreeView}
use Rattle.pp_trees.specs.Lone.{tree_opens, words_of, Sees, IsLone}
use Rattle.pp_trees.specs.Searches.{TreePass, TreeState, Trees, Seated, caller_of}
use Rattle.pp_trees.specs.Sentinels.{sentinel_field}
use Rattle.pp_trees.specs.Trees.{root_head, heap, across, Internal, Sane}
use Rattle.pp_trees.proofs.Heaps.{sane_of}
use Rattle.pp_trees.proofs.Reaching.{tree_reached}
use Rattle.pp_trees.proofs.Walking.{across_low}

-- what the seat of a pass has seen
pub sees_of : (z : Sizes) (s : Seat Unit TreeView) (number share : ℕ) (walk : List ℕ) (p : Purse) → Keeping 5 2 s number share walk p
    → HasRun 2 5 root_head sentinel_field (λ z words g. Trees z words g) caller_of (view s) → (known s).sizes ≡ z → Sees z (view s)
sees_of z s number share walk p k run sizes = record {
  sizes = sizes;
  low = subst (λ (y : Sizes). (known s).number < y.passes) sizes k.pass.pass;
  seen = run (ap (λ (v : TreeView). v.standing) k.lone.1);
}

abbrev pub TreeRun : Sizes → List (LoggedStep Change Placed) → Type 0
TreeRun z order = IsRun 2 caller_of (tree_opens z) z order

module _ (z : Sizes) (v : TreeView) (s : Sees z v) where
  pub run_of : TreeRun z v.order
  run_of = subst (λ (y : Sizes). TreeRun y v.order) s.sizes s.seen.run

  -- An equation that the rule of the present words gives is so,
  pub state_at : z.passes ≡ 1 → (a b : ℕ)
      → ((g : TreeState) → Base 2 z (words_of z v) g → Trees z (words_of z v) g → g.of v.known.number ≡ v.known → a ≡ b) → a ≡ b
  state_at one a b says = by_state 2 tree_opens (λ z words g. Trees z words g) v
      (s.seen.whole (ap (λ (y : Sizes). y.passes) s.sizes ∙ one)) a b
      (λ st. says st.pool (subst (λ (y : Sizes). Base 2 y (words_of y v) st.pool) s.sizes st.base)
      (subst (λ (y : Sizes). Trees y (words_of y v) st.pool) s.sizes st.added) st.known_is)

  -- also one of the whole order,
  pub seen_at : z.passes ≡ 1 → (a b : ℕ)
      → ((g : TreeState) → Base 2 z (words_of z v) g → Trees z (words_of z v) g → g.order ≡ v.order → a ≡ b) → a ≡ b
  seen_at one a b says = by_state 2 tree_opens (λ z words g. Trees z words g) v
      (s.seen.whole (ap (λ (y : Sizes). y.passes) s.sizes ∙ one)) a b
      (λ st. says st.pool (subst (λ (y : Sizes). Base 2 y (words_of y v) st.pool) s.sizes st.base)
      (subst (λ (y : Sizes). Trees y (words_of y v) st.pool) s.sizes st.added) st.order)

  -- and so is an inequality.
  pub state_less : z.passes ≡ 1 → (a b : ℕ)
      → ((g : TreeState) → Base 2 z (words_of z v) g → Trees z (words_of z v) g → g.of v.known.number ≡ v.known → a < b) → a < b
  state_less one a b says = stable_less a b (λ no. s.seen.whole (ap (λ (y : Sizes). y.passes) s.sizes ∙ one)
      (λ st. no (says st.pool (subst (λ (y : Sizes). Base 2 y (words_of y v) st.pool) s.sizes st.base)
      (subst (λ (y : Sizes). Trees y (words_of y v) st.pool) s.sizes st.added) st.known_is)))

  module _ (g : TreeState) (b : Base 2 z (words_of z v) g) (tr : Trees z (words_of z v) g) (is : g.of v.known.number ≡ v.known) where
    pub sane_at : Sane z (heap z (words_of z v) g.status)
    sane_at = sane_of z (words_of z v) g b

    pub held_at : (j : ℕ) → j < 5 → (slot v.known j).held ≡ true → Held z (words_of z v) g.status (slot v.known j)
    held_at j lt on = subst (λ (q : TreePass). (slot q j).held ≡ true → Held z (words_of z v) g.status (slot q j)) is
        (b.hazards.held v.known.number j s.low lt) on

    pub reached_at : (n : ℕ) → IsNumber z n → g.status n ≡ attached → Reached 2 z (words_of z v) n
    reached_at n number on = tree_reached z (words_of z v) g n b tr number on

    -- an internal record that can be reached
    pub reached_internal : (n : ℕ) → Internal z (heap z (words_of z v) g.status) n → Reached 2 z (words_of z v) n
    reached_internal n i = reached_at n i.number i.on

    pub seated_at : Seated z (heap z (words_of z v) g.status) (log_of g.order) (slot v.known) v.known.own
    seated_at = subst (λ (q : TreePass). Seated z (heap z (words_of z v) g.status) (log_of g.order) (slot q) q.own) is
        (tr.each v.known.number s.low).seated

    -- the call stands at an internal record that is attached, if the record that it holds there can be reached
    pub stands_reached : v.known.own.at < 5 → Reached 2 z (words_of z v) (slot v.known v.known.own.at).named
        → Internal z (heap z (words_of z v) g.status) (slot v.known v.known.own.at).named
    stands_reached low reached = let at : ℕ = v.known.own.at in let h = held_at at low (seated_at.held low) in record {
      number = h.number;
      on = reached_attached 2 z (words_of z v) g b (slot v.known at).named h.number reached;
      children = (seated_at.standing low).children;
    }

    pub stands_at : IsLone z v → v.known.own.at < 5
        → Internal z (heap z (words_of z v) g.status) (slot v.known v.known.own.at).named
    stands_at lone low = stands_reached low (lone.held v.known.own.at low (seated_at.held low))

    -- no edge has a bit but LEAF
    pub edge_plain : IsBare z (words_of z v) → (n r : ℕ) → Internal z (heap z (words_of z v) g.status) n → r < 2
        → (flag_bit (cell_word (words_of z v) z n (2 + r)) ≡ 0) × (tag_bit (cell_word (words_of z v) z n (2 + r)) ≡ 0)
        × (invalid_bit (cell_word (words_of z v) z n (2 + r)) ≡ 0)
    edge_plain bare n r i low = let reached = reached_internal n i in let w : ℕ = cell_word (words_of z v) z n (2 + r) in (
      bare n r i.number low reached,
      dite (ℕ_discrete (tag_bit w) 1)
          (λ tag. let flag = tr.tree.tagged n r i low tag in
          let none = bare n (across r) i.number (across_low r) reached in absurd (omega arith))
          (λ ne. omega arith),
      (sane_at.leads n r i.number low i.on).valid,
    )
