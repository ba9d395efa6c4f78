-- The tag that a removal of a pass that is alone on its pool sets beside its flag, and what stands after it.
use Rattle.std.proofs.Common.{◌≡◌, ◌≢◌, ℕ, zero, suc, ◌+◌, ◌<◌, ⊎_elim, inl, List, [], ◌∷◌, get_or, set, bit_or, refl, sym}
use Rattle.std.proofs.Common.{ap, ◌∙◌, subst, arith}
use Rattle.std.proofs.Math.Decide.{ℕ_discrete}
use mathlib.Core.Logic.{dite}
use Rattle.pp_link.specs.declared.layout.Sizes.{Sizes}
use Rattle.pp_link.specs.declared.link.Link.{Link}
use Rattle.pp_link.specs.Links.{target, flag_bit, tag_bit, invalid_bit, word_of}
use Rattle.pp_link.specs.Places.{IsNumber, cell_place}
use Rattle.pp_link.specs.Words.{cell_word}
use Rattle.pp_rule.specs.Lists.{IsIn}
use Rattle.pp_rule.specs.Reached.{Reached}
use Rattle.pp_rule.specs.Views.{slot}
use Rattle.pp_rule.specs.declared.views.WalkSlot.{WalkSlot}
use Rattle.pp_rule.proofs.Made.{known_after}
use Rattle.pp_rule.proofs.Put.{in_first, in_right}
use Rattle.pp_rule.proofs.Tagging.{tag_set}
use Rattle.pp_rule.proofs.Lone.{step_words, field_either, field_is, reached_next}
use Rattle.pp_base.specs.declared.source.Place.{Place}
use Rattle.pp_base.specs.declared.source.Side.{Side}
use Rattle.pp_base.specs.Sources.{side_number, source_place}
use Rattle.pp_trees.specs.Trees.{across}
use Rattle.pp_trees.specs.Searches.{TreePass, caller_of}
use Rattle.pp_trees.specs.Edges.{TreeView, Tags}
use Rattle.pp_trees.specs.Lone.{tree_opens, words_of, Sees}
use Rattle.pp_edges.proofs.Splicing.{side_two}
use Rattle.pp_seek.specs.declared.seek.Sought.{Sought}
use Rattle.pp_seek.proofs.Lone.{run_of, state_at, sane_at, stands_reached}
use Rattle.pp_seek.proofs.LoneStays.{ancestor_apart}
use Rattle.pp_seek.proofs.LoneCalm.{finds_there}
use Rattle.pp_tree_turns.specs.Exchanging.{OnPath, TagsNext}
use Rattle.pp_tree_turns.specs.Lone.{parent_of, LoneFlagged, LoneTagged}
use Rattle.pp_tree_turns.proofs.LoneTurns.{held_number, edge_now, reached_then, reached_was, same_named, slot_same}

-- TAG was set in the parent's other edge.
module _ (z : Sizes) (s : Sought) (sibling_side : Side) (v u : TreeView) (sv : Sees z v) (su : Sees z u)
    (l : LoneFlagged z s sibling_side v) (may : TagsNext v.known s sibling_side) (found : ℕ)
    (t : Tags (source_place z v.known s.parent sibling_side) (side_number sibling_side) found v u) where
  abbrev p : OnPath v.known s
  p = may.path

  abbrev r : ℕ
  r = side_number sibling_side

  r_low : r < 2
  r_low = side_two sibling_side

  number : IsNumber z (parent_of v.known)
  number = held_number z v sv l.one v.known.own.at p.parent p.parent_held

  before : Reached 2 z (words_of z v) (parent_of v.known)
  before = l.held v.known.own.at p.parent p.parent_held

  -- it was the word that stood there
  found_is : found ≡ cell_word (words_of z v) z (parent_of v.known) (2 + r)
  found_is = finds_there z l.one _ v u sv.low t.made (run_of z u su) refl
      ∙ (ap (λ (place : Place). get_or (words_of z v) (source_place z v.known place sibling_side) 0) p.parent_is
      ∙ field_is z (words_of z v) (parent_of v.known) (2 + r))

  apart : (q : ℕ) → q < 2 → q ≢ across q
  apart zero low e = absurd (omega arith)
  apart (suc zero) low e = absurd (omega arith)
  apart (suc (suc q)) low e = omega arith

  -- without FLAG and without INVALID
  pub found_plain : flag_bit found ≡ 0
  found_plain = ap flag_bit found_is ∙ l.but (parent_of v.known) r number r_low before (λ e. apart r r_low e.1)

  pub found_valid : invalid_bit found ≡ 0
  found_valid = ap invalid_bit found_is ∙ state_at z v sv l.one (invalid_bit (cell_word (words_of z v) z (parent_of v.known) (2 + r))) 0
      (λ g b tr is. let i = stands_reached z v sv g b tr is p.parent before in
      ((sane_at z v sv g b tr is).leads (parent_of v.known) r i.number r_low i.on).valid)

  abbrev y : ℕ
  y = bit_or found 2

  to_same : target y ≡ target found
  to_same = ⊎_elim (λ (e : (tag_bit found ≡ 1) × (y ≡ found)). ap target e.1)
      (λ (e : (tag_bit found ≡ 0) × (y ≡ found + 2)). ap target e.1 ∙ two found e.0) (tag_set found)
    where
      two : (n : ℕ) → tag_bit n ≡ 0 → target (n + 2) ≡ target n
      two n e = omega arith

  flag_same : flag_bit y ≡ flag_bit found
  flag_same = ⊎_elim (λ (e : (tag_bit found ≡ 1) × (y ≡ found)). ap flag_bit e.1)
      (λ (e : (tag_bit found ≡ 0) × (y ≡ found + 2)). ap flag_bit e.1 ∙ two found e.0) (tag_set found)
    where
      two : (n : ℕ) → tag_bit n ≡ 0 → flag_bit (n + 2) ≡ flag_bit n
      two n e = omega arith

  to : target y ≡ target (cell_word (words_of z v) z (parent_of v.known) (2 + r))
  to = to_same ∙ ap target found_is

  -- the words after it
  left : words_of z u ≡ set (words_of z v) (cell_place z (parent_of v.known) (2 + r)) y
  left = step_words 2 caller_of (tree_opens z) z _ v u l.one sv.low (run_of z u su) t.made
      ∙ ap (λ (place : Place). set (words_of z v) (source_place z v.known place sibling_side) y) p.parent_is

  here : (u.known.walk ≡ v.known.walk) × (u.known.own.at ≡ v.known.own.at)
  here = let is = known_after _ _ _ _ _ _ _ v u t.made in (ap (λ (q : TreePass). q.walk) is, ap (λ (q : TreePass). q.own.at) is)

  parent_same : parent_of u.known ≡ parent_of v.known
  parent_same = same_named v u here.0 here.1

  was : (n : ℕ) → Reached 2 z (words_of z u) n → Reached 2 z (words_of z v) n
  was n x = reached_was z (words_of z v) (parent_of v.known) r y number r_low before to n (subst (λ (ws : List ℕ). Reached 2 z ws n) left x)

  then : (n : ℕ) → Reached 2 z (words_of z v) n → Reached 2 z (words_of z u) n
  then n x = subst (λ (ws : List ℕ). Reached 2 z ws n) (sym left)
      (reached_then z (words_of z v) (parent_of v.known) r y number r_low before to n x)

  edge_as : (n q : ℕ) → IsNumber z n → q < 2 → ((n ≡ parent_of v.known) × (q ≡ r) → ⊥)
      → cell_word (words_of z u) z n (2 + q) ≡ cell_word (words_of z v) z n (2 + q)
  edge_as n q is_n lo ne = ap (λ (ws : List ℕ). cell_word ws z n (2 + q)) left
      ∙ edge_now z (words_of z v) (parent_of v.known) r y number r_low before to n q is_n lo ne

  -- this edge has no FLAG still, and leads where it led
  edge_here : (flag_bit (cell_word (words_of z u) z (parent_of v.known) (2 + r)) ≡ 0)
      × (target (cell_word (words_of z u) z (parent_of v.known) (2 + r)) ≡ target found)
  edge_here = subst (λ (ws : List ℕ). (flag_bit (cell_word ws z (parent_of v.known) (2 + r)) ≡ 0)
      × (target (cell_word ws z (parent_of v.known) (2 + r)) ≡ target found)) (sym left)
      (⊎_elim (λ (e : cell_word (set (words_of z v) (cell_place z (parent_of v.known) (2 + r)) y) z (parent_of v.known) (2 + r) ≡ y).
      (ap flag_bit e ∙ (flag_same ∙ found_plain), ap target e ∙ to_same))
      (λ (e : cell_word (set (words_of z v) (cell_place z (parent_of v.known) (2 + r)) y) z (parent_of v.known) (2 + r)
      ≡ cell_word (words_of z v) z (parent_of v.known) (2 + r)).
      (ap flag_bit (e ∙ sym found_is) ∙ found_plain, ap target (e ∙ sym found_is)))
      (field_either z (words_of z v) (cell_place z (parent_of v.known) (2 + r)) y (parent_of v.known) (2 + r)))

  above_there : get_or (words_of z v) (cell_place z (slot v.known p.ancestor).named (2 + side_number s.ancestor_side)) 0
      ≡ word_of s.successor
  above_there = ap (λ (place : Place). get_or (words_of z v) (source_place z v.known place s.ancestor_side) 0) (sym p.ancestor_is)
      ∙ l.above.stands

  ancestor_other : (slot v.known p.ancestor).named ≢ parent_of v.known
  ancestor_other = ancestor_apart z v sv l.one p.parent before s.ancestor p.ancestor p.ancestor_is s.ancestor_side (word_of s.successor)
      l.above.stands l.leads

  pub tagged_lone : (sibling : Link) → word_of sibling ≡ found → LoneTagged z s sibling_side sibling u
  tagged_lone sibling is = record {
    one = l.one;
    but = λ n q is_n lo x ne. dite (ℕ_discrete n (parent_of v.known))
        (λ same. dite (ℕ_discrete q r)
        (λ equal. (λ i. flag_bit (cell_word (words_of z u) z (same i) (2 + equal i))) ∙ edge_here.0)
        (λ other. ap flag_bit (edge_as n q is_n lo (λ e. other e.1))
        ∙ l.but n q is_n lo (was n x) (λ e. ne (e.0 ∙ sym parent_same, e.1))))
        (λ other. ap flag_bit (edge_as n q is_n lo (λ e. other e.0)) ∙ l.but n q is_n lo (was n x) (λ e. other e.0));
    held = λ j lo on. then (slot u.known j).named
        (subst (λ (w : WalkSlot). Reached 2 z (words_of z v) w.named) (sym (slot_same v u here.0 j))
        (l.held j lo (ap (λ (w : WalkSlot). w.held) (sym (slot_same v u here.0 j)) ∙ on)));
    leads = l.leads ∙ sym parent_same;
    above = record {
      one = l.one;
      stands = ap (λ (place : Place). get_or (words_of z u) (source_place z u.known place s.ancestor_side) 0) p.ancestor_is
          ∙ (ap (λ (w : WalkSlot). get_or (words_of z u) (cell_place z w.named (2 + side_number s.ancestor_side)) 0)
          (slot_same v u here.0 p.ancestor)
          ∙ (field_is z (words_of z u) (slot v.known p.ancestor).named (2 + side_number s.ancestor_side)
          ∙ (edge_as (slot v.known p.ancestor).named (side_number s.ancestor_side)
          (held_number z v sv l.one p.ancestor p.ancestor_held.0 p.ancestor_held.1) (side_two s.ancestor_side)
          (λ (e : ((slot v.known p.ancestor).named ≡ parent_of v.known) × (side_number s.ancestor_side ≡ r)). ancestor_other e.0)
          ∙ (sym (field_is z (words_of z v) (slot v.known p.ancestor).named (2 + side_number s.ancestor_side)) ∙ above_there))));
    };
    plain = ap flag_bit is ∙ found_plain;
    beside = subst (Reached 2 z (words_of z u)) (edge_here.1 ∙ ap target (sym is))
        (reached_next 2 z (words_of z u) (parent_of v.known) r number r_low (then (parent_of v.known) before));
    path = (
      record { number = parent_of v.known; side = r; word = y; leaf = t.leaf },
      (
        subst (IsIn (record { number = parent_of v.known; side = r; word = y; leaf = t.leaf }))
            (sym (ap (λ (q : TreePass). q.own.path) (known_after _ _ _ _ _ _ _ v u t.made)))
            (in_right (record { number = parent_of v.known; side = r; word = y; leaf = t.leaf }) v.known.own.path
            (record { number = parent_of v.known; side = r; word = y; leaf = t.leaf } ∷ [])
            (in_first (record { number = parent_of v.known; side = r; word = y; leaf = t.leaf }) [])),
        inl parent_same,
      ),
    );
  }
