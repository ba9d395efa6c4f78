-- The exchange of an insert, by the numbers of the two records.
use Rattle.std.proofs.Common.{◌≡◌, ℕ, ◌*◌, [], eqb, get_or, sym, ap, ◌∙◌, subst}
use prog.Atomic.{either}
use Rattle.atomic_table.specs.Table.{Me, Allows}
use Rattle.pp_link.specs.declared.layout.Sizes.{Sizes}
use Rattle.std.proofs.Common.{List}
use Rattle.pp_rule.specs.Steps.{IsAlone}
use Rattle.pp_rule.specs.Ties.{Holds}
use Rattle.pp_trees.specs.Searches.{Trees}
use Rattle.pp_trees.specs.Edges.{TreeView, Publishes}
use Rattle.pp_trees.proofs.Allowing.{publishes_pair}
use Rattle.pp_edges.specs.Edging.{MayPublishAt, PublishesAt}

-- what is told of the records' numbers
numbered : (z : Sizes) (m c place first n : ℕ) (before now : TreeView) → (may : MayPublishAt z before.known m c place first)
    → Publishes may.may.i_leaf may.may.i_inner may.may.d_leaf.number may.may.d_inner.number place may.key may.value first n
    before now
    → PublishesAt m c place first n before now
numbered z m c place first n before now may t = record {
  key = may.key;
  value = may.value;
  call_is = may.may.call;
  i = may.may.i_leaf;
  j = may.may.i_inner;
  owns = record {
    leaf = may.may.d_leaf;
    leaf_at = may.may.owned_leaf;
    leaf_is = may.leaf_is;
    inner = may.may.d_inner;
    inner_at = may.may.owned_inner;
    inner_is = may.inner_is;
  };
  made = subst (λ (x : ℕ). Publishes may.may.i_leaf may.may.i_inner x c place may.key may.value first n before now) may.leaf_is
      (subst (λ (x : ℕ). Publishes may.may.i_leaf may.may.i_inner may.may.d_leaf.number x place may.key may.value first n
      before now) may.inner_is t);
}

pub publishes_at : (opens : Sizes → List ℕ) (z : Sizes) (id m c place first new : ℕ) (me : Me Unit TreeView) → IsAlone me
    → MayPublishAt z me.0.known m c place first → new ≡ 16 * c
    → Allows (Holds 2 opens (λ z words g. Trees z words g) z) 0 id me place (λ n. either (eqb n first) new n)
    (λ n m'. (m'.1 ≡ []) × PublishesAt m c place first n me.0 m'.0)
publishes_at opens z id m c place first new me lone may is =
    subst (λ (w : ℕ). Allows (Holds 2 opens (λ z words g. Trees z words g) z) 0 id me place (λ n. either (eqb n first) w n)
    (λ n m'. (m'.1 ≡ []) × PublishesAt m c place first n me.0 m'.0)) (ap (λ (x : ℕ). 16 * x) may.inner_is
    ∙ sym is) (λ s h deep at fits.
    let r = publishes_pair opens z 0 id place may.key may.value first me lone may.may s h deep at fits in
    (r.0, r.1, r.2, r.3, (r.4.0, numbered z m c place first (get_or s.words place 0) me.0 r.0 may r.4.1)))
