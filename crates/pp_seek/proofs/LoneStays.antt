-- What a seek of a pass alone ended at stays over calm steps by which the pass holds what it held.
use Rattle.std.proofs.Common.{◌≡◌, ◌≢◌, ℕ, ◌+◌, ◌<◌, true, List, get_or, sym, ap, ◌∙◌, subst, arith}
use Rattle.pp_link.specs.declared.layout.Sizes.{Sizes}
use Rattle.pp_link.specs.Links.{target}
use Rattle.pp_link.specs.Places.{cell_place}
use Rattle.pp_link.specs.Words.{cell_word}
use Rattle.pp_rule.specs.declared.views.WalkSlot.{WalkSlot}
use Rattle.pp_rule.specs.Views.{slot}
use Rattle.pp_rule.specs.Reached.{Reached, SameReached}
use Rattle.pp_base.specs.declared.source.Place.{Place}
use Rattle.pp_base.specs.declared.source.Place.TheVariants.{Walk}
use Rattle.pp_base.specs.declared.source.Side.{Side}
use Rattle.pp_base.specs.Sources.{side_number, source_place}
use Rattle.pp_trees.specs.declared.own.TreeOwn.{TreeOwn}
use Rattle.pp_trees.specs.Trees.{heap}
use Rattle.pp_trees.specs.Edges.{TreeView}
use Rattle.pp_trees.specs.Lone.{words_of as seen_words, Sees, IsLone}
use Rattle.pp_edges.proofs.Splicing.{side_two}
use Rattle.pp_seek.specs.declared.seek.Sought.{Sought}
use Rattle.pp_seek.specs.Seeking.{IsSought}
use Rattle.pp_seek.specs.Lone.{LoneSought}
use Rattle.pp_seek.proofs.Lone.{cell_is, state_at, held_at, sane_at, no_loop, stands_reached}
use Rattle.pp_seek.proofs.LoneSpots.{lone_stays, word_stays}

-- The edge of a held record that can be reached is as it was, where the words of what can be reached are.
pub source_reached : (z : Sizes) (v : TreeView) → Sees z v → z.passes ≡ 1 → (at : Place) (j : ℕ) → at ≡ Walk j → j < 5
    → (slot v.known j).held ≡ true → Reached 2 z (seen_words z v) (slot v.known j).named → (sd : Side) (words : List ℕ)
    → SameReached 2 z (seen_words z v) words
    → get_or words (source_place z v.known at sd) 0 ≡ get_or (seen_words z v) (source_place z v.known at sd) 0
source_reached z v sv one at j is low on reached sd words same = let n : ℕ = (slot v.known j).named in let f : ℕ = 2 + side_number sd in
    let two = side_two sd in
    subst (λ (p : Place). get_or words (source_place z v.known p sd) 0 ≡ get_or (seen_words z v) (source_place z v.known p sd) 0) (sym is)
    (state_at z v sv one (get_or words (cell_place z n f) 0) (get_or (seen_words z v) (cell_place z n f) 0) (λ g b tr known.
    cell_is z words n f ∙ (same.cells n f (held_at z v sv g b tr known j low on).number (omega arith) reached
    ∙ sym (cell_is z (seen_words z v) n f))))

-- The record whose edge leads to the one where the call stands is another one.
pub ancestor_apart : (z : Sizes) (v : TreeView) → Sees z v → z.passes ≡ 1 → v.known.own.at < 5
    → Reached 2 z (seen_words z v) (slot v.known v.known.own.at).named → (at : Place) (j : ℕ) → at ≡ Walk j → (sd : Side) (first : ℕ)
    → get_or (seen_words z v) (source_place z v.known at sd) 0 ≡ first → target first ≡ (slot v.known v.known.own.at).named
    → (slot v.known j).named ≢ (slot v.known v.known.own.at).named
ancestor_apart z v sv one low reached at j is sd first stands leads same = let n : ℕ = (slot v.known v.known.own.at).named in
    let f : ℕ = 2 + side_number sd in
    let edge : cell_word (seen_words z v) z n f ≡ first = ap (λ (i : ℕ). cell_word (seen_words z v) z i f) (sym same)
    ∙ (sym (cell_is z (seen_words z v) (slot v.known j).named f)
    ∙ (ap (λ (p : Place). get_or (seen_words z v) (source_place z v.known p sd) 0) (sym is) ∙ stands)) in
    never (state_at z v sv one 0 1 (λ g b tr known. absurd (no_loop z (heap z (seen_words z v) g.status)
    (sane_at z v sv g b tr known) tr.tree n (side_number sd) (stands_reached z v sv g b tr known low reached) (side_two sd)
    (ap target edge ∙ leads))))
  where
    never : ◌≡◌ {A = ℕ} 0 1 → ⊥
    never e = omega arith

module _ (z : Sizes) (v w : TreeView) (sv : Sees z v) (sw : Sees z w) (same : SameReached 2 z (seen_words z v) (seen_words z w))
    (slots : (j : ℕ) → slot w.known j ≡ slot v.known j) where
  -- so what it holds can be reached still
  pub lone_kept : IsLone z v → IsLone z w
  lone_kept lone = lone_stays z v w sv sw same lone (λ j low on.
      subst (Reached 2 z (seen_words z v)) (ap (λ (x : WalkSlot). x.named) (sym (slots j)))
      (lone.held j low (ap (λ (x : WalkSlot). x.held) (sym (slots j)) ∙ on)))

  source_kept : IsLone z v → (at : Place) (j : ℕ) → at ≡ Walk j → j < 5 → (slot v.known j).held ≡ true → (sd : Side)
      → get_or (seen_words z w) (source_place z w.known at sd) 0 ≡ get_or (seen_words z v) (source_place z v.known at sd) 0
  source_kept lone at j is low on sd = subst (λ (p : Place). get_or (seen_words z w) (source_place z w.known p sd) 0
      ≡ get_or (seen_words z v) (source_place z v.known p sd) 0) (sym is)
      (ap (λ (x : WalkSlot). get_or (seen_words z w) (cell_place z x.named (2 + side_number sd)) 0) (slots j)
      ∙ word_stays z v w sv sw same lone j low on sd)

  pub sought_stays : (k : ℕ) (s : Sought) → w.known.own ≡ v.known.own → IsSought v.known k s → LoneSought z s v → LoneSought z s w
  sought_stays k s own is l = record {
    lone = lone_kept l.lone;
    path = ap (λ (o : TreeOwn). o.path) own ∙ l.path;
    leads = l.leads ∙ (ap (λ (x : WalkSlot). x.named) (sym (slots v.known.own.at))
        ∙ ap (λ (o : TreeOwn). (slot w.known o.at).named) (sym own));
    above = record {
      one = l.lone.one;
      stands = source_kept l.lone s.ancestor is.ancestor is.ancestor_is is.ancestor_held.0 is.ancestor_held.1 s.ancestor_side
          ∙ l.above.stands;
    };
    edge = record {
      one = l.lone.one;
      stands = source_kept l.lone s.parent v.known.own.at is.parent_is is.parent is.parent_held s.side ∙ l.edge.stands;
    };
  }
