-- What stands of a seek of a pass alone stays over its calm steps.
use Rattle.std.proofs.Common.{◌≡◌, ℕ, ◌+◌, ◌-◌, ◌<◌, ◌≤◌, inl, inr, true, get_or, Option, Some, None, refl, sym, ap, ◌∙◌, subst, arith}
use Rattle.pp_link.specs.declared.layout.Sizes.{Sizes}
use Rattle.pp_link.specs.Links.{flag_bit}
use Rattle.pp_link.specs.Places.{cell_place}
use Rattle.pp_model.specs.Calls.{key_of}
use Rattle.pp_rule.specs.Views.{slot}
use Rattle.pp_rule.specs.Rule.{Base}
use Rattle.pp_rule.specs.Reached.{Reached, SameReached}
use Rattle.pp_rule.proofs.Undisturbed.{reached_on, reached_back}
use Rattle.pp_base.specs.declared.source.Side.{Side}
use Rattle.pp_base.specs.Sources.{side_number}
use Rattle.pp_trees.specs.declared.own.TreeOwn.{TreeOwn}
use Rattle.pp_trees.specs.Trees.{side, Meets}
use Rattle.pp_trees.specs.Searches.{TreeState, Trees}
use Rattle.pp_trees.specs.Gathering.{closed}
use Rattle.pp_trees.specs.Edges.{TreeView}
pub use Rattle.pp_trees.proofs.Lone.{sees_of}
use Rattle.pp_trees.specs.Lone.{words_of as seen_words, Sees, IsLone}
use Rattle.pp_edges.proofs.Splicing.{side_two}
use Rattle.pp_seek.specs.declared.seek.Above.{Above}
use Rattle.pp_seek.specs.declared.seek.Spot.{Spot}
use Rattle.pp_seek.specs.Keeping.{IsOf}
use Rattle.pp_seek.specs.Seeking.{words_by, words_of, Over, StandsBut}
use Rattle.pp_seek.specs.Lone.{LoneOver, GoesBy, LoneSpot}
use Rattle.pp_seek.proofs.Going.{SameHeld, word_used}
use Rattle.pp_seek.proofs.Lone.{cell_is, state_at, state_less, held_at, meets_then}

module _ (z : Sizes) (v w : TreeView) (sv : Sees z v) (sw : Sees z w) (same : SameReached 2 z (seen_words z v) (seen_words z w)) where
  -- the pass is alone still, if what it holds could be reached
  pub lone_stays : IsLone z v
      → ((j : ℕ) → j < 5 → (slot w.known j).held ≡ true → Reached 2 z (seen_words z v) (slot w.known j).named) → IsLone z w
  lone_stays lone held = record {
    one = lone.one;
    bare = λ n r number low reached.
        let was = reached_back 2 z (seen_words z v) (seen_words z w) same (omega arith) n reached in
        ap flag_bit (same.cells n (2 + r) number (omega arith) was) ∙ lone.bare n r number low was;
    held = λ j low on. reached_on 2 z (seen_words z v) (seen_words z w) same (omega arith) (slot w.known j).named (held j low on);
  }

  -- the edge of a record that it held is as it was
  pub word_stays : IsLone z v → (j : ℕ) → j < 5 → (slot v.known j).held ≡ true → (sd : Side)
      → get_or (seen_words z w) (cell_place z (slot v.known j).named (2 + side_number sd)) 0
      ≡ get_or (seen_words z v) (cell_place z (slot v.known j).named (2 + side_number sd)) 0
  word_stays lone j low on sd = let n : ℕ = (slot v.known j).named in let two = side_two sd in
      state_at z v sv lone.one (get_or (seen_words z w) (cell_place z n (2 + side_number sd)) 0)
      (get_or (seen_words z v) (cell_place z n (2 + side_number sd)) 0) (λ g b tr is.
      cell_is z (seen_words z w) n (2 + side_number sd)
      ∙ (same.cells n (2 + side_number sd) (held_at z v sv g b tr is j low on).number (omega arith) (lone.held j low on)
      ∙ sym (cell_is z (seen_words z v) n (2 + side_number sd))))

  -- A seek that stands where it stood.
  pub spot_stays : (x : ℕ) (s : Spot) → StandsBut x v.known s
      → ((j : ℕ) → j < 5 → IsOf (words_of s) j → SameHeld (slot v.known j) (slot w.known j))
      → ((j : ℕ) → j < 5 → (slot w.known j).held ≡ true → ((slot v.known j).held ≡ true)
      × ((slot w.known j).named ≡ (slot v.known j).named))
      → w.known.own ≡ v.known.own → LoneSpot z s v → LoneSpot z s w
  spot_stays x s st kept held own l = record {
    lone = lone_stays l.lone (λ j low on. let was = held j low on in
        subst (λ (n : ℕ). Reached 2 z (seen_words z v) n) (sym was.1) (l.lone.held j low was.0));
    over = go s.above st.over kept l.over;
    between = λ y least at at_less. (
      (let more : s.low < y + 1 = state_less z w sw l.lone.one s.low (y + 1) (λ g b tr is.
          let r = (bounds g b tr y least at at_less).0 in omega arith) in omega arith),
      state_less z w sw l.lone.one y s.high (λ g b tr is. (bounds g b tr y least at at_less).1),
    );
  }
    where
      here : SameHeld (slot v.known s.word) (slot w.known s.word)
      here = kept s.word st.low (word_used s)

      go : (a : Option Above) → Over v.known s.word a → ((j : ℕ) → j < 5 → IsOf (words_by s.word a) j → SameHeld (slot v.known j)
          (slot w.known j))
          → LoneOver z s.word a v → LoneOver z s.word a w
      go None o k a = tt
      go (Some a) o k l' = let anc = k a.ancestor o.ancestor_low (inr (inl refl)) in record {
        top = l'.top;
        path = ap (λ (o : TreeOwn). o.path) own ∙ l'.path;
        leads = l'.leads ∙ sym here.named;
        edge = record {
          one = l'.edge.one;
          stands = ap (λ (n : ℕ). get_or (seen_words z w) (cell_place z n (2 + side_number a.side)) 0) anc.named
              ∙ (word_stays l.lone a.ancestor o.ancestor_low o.ancestor_held a.side ∙ l'.edge.stands);
        };
      }

      back : (g : TreeState) → Base 2 z (seen_words z w) g → Trees z (seen_words z w) g → (y : ℕ)
          → GoesBy z (seen_words z w) (slot w.known s.word).named s.key (side (key_of w.known.own.call) s.key) y
          → GoesBy z (seen_words z v) (slot v.known s.word).named s.key (side (key_of v.known.own.call) s.key) y
      back g b tr y m = (
        subst (λ (n : ℕ). Meets (closed z (seen_words z v)) y n) here.named
            (meets_then z w sw l.lone.one (seen_words z v) same g b tr y (slot w.known s.word).named m.0),
        m.1 ∙ ap (λ (o : TreeOwn). side (key_of o.call) s.key) own,
      )

      bounds : (g : TreeState) → Base 2 z (seen_words z w) g → Trees z (seen_words z w) g → (y : ℕ) → 1 ≤ y
          → GoesBy z (seen_words z w) (slot w.known s.word).named s.key (side (key_of w.known.own.call) s.key) y
          → GoesBy z (seen_words z w) (slot w.known s.word).named s.key (side (key_of w.known.own.call) s.key) (y - 1)
          → (s.low ≤ y) × (y < s.high)
      bounds g b tr y least at at_less = l.between y least (back g b tr y at) (back g b tr (y - 1) at_less)
