-- A removal of a pass that is alone on its pool: the flag that it sets, and what stands after it.
use Rattle.std.proofs.Common.{◌≡◌, ◌≢◌, ℕ, ◌+◌, ◌%◌, ◌<◌, ⊎_elim, true, List, get_or, set, refl, sym}
use Rattle.std.proofs.Common.{ap, ◌∙◌, subst, arith, Option, Some, None}
use Rattle.std.proofs.Math.Decide.{ℕ_discrete}
use mathlib.Core.Logic.{dite}
use Rattle.atomic_table.specs.declared.shared.Seat.{Seat}
use Rattle.pp_link.specs.declared.layout.Sizes.{Sizes}
use Rattle.pp_link.specs.Links.{target, flag_bit, word_of}
use Rattle.pp_link.specs.Places.{IsNumber, cell_place}
use Rattle.pp_link.specs.Words.{cell_word}
use Rattle.pp_model.specs.Calls.{key_of}
use Rattle.pp_rule.specs.Reached.{Reached, SameReached}
use Rattle.pp_rule.specs.Views.{slot}
use Rattle.pp_rule.specs.declared.views.WalkSlot.{WalkSlot}
use Rattle.pp_rule.proofs.Made.{known_after}
use Rattle.pp_rule.proofs.Lone.{run_before, step_words, field_either, field_other, field_is, head_other}
use Rattle.pp_rule.proofs.Lone.{reached_set, reached_next, reached_led}
use Rattle.pp_rule.proofs.Undisturbed.{reached_on, reached_back, same_through}
use Rattle.pp_base.specs.declared.source.Place.{Place}
use Rattle.pp_base.specs.declared.source.Side.{Side}
use Rattle.pp_base.specs.Passes.{known, view}
use Rattle.pp_base.specs.Sources.{side_number, source_place}
use Rattle.pp_hazard.specs.Reading.{ReadValue}
use Rattle.pp_trees.specs.Trees.{side, across}
use Rattle.pp_trees.specs.Searches.{TreePass, caller_of}
use Rattle.pp_trees.specs.Edges.{TreeView, flagged_pass}
use Rattle.pp_trees.specs.Lone.{tree_opens, words_of, Sees}
use Rattle.pp_edges.specs.Edging.{Missed, Removes}
use Rattle.pp_edges.proofs.Splicing.{side_two}
use Rattle.pp_seek.specs.declared.seek.Sought.{Sought}
use Rattle.pp_seek.specs.Lone.{LoneSought}
use Rattle.pp_seek.specs.Seeking.{IsSought}
use Rattle.pp_seek.proofs.Lone.{run_of, state_less, held_at}
use Rattle.pp_seek.proofs.LoneStays.{ancestor_apart}
use Rattle.pp_seek.proofs.LoneCalm.{calm_step, finds_there}
use Rattle.pp_tree_turns.proofs.Exchanges.{across_twice}
use Rattle.pp_tree_turns.specs.Lone.{parent_of, LoneFlagged}

module _ (z : Sizes) (v : TreeView) (sv : Sees z v) (one : z.passes ≡ 1) where
  -- what the pass holds is a record
  pub held_number : (j : ℕ) → j < 5 → (slot v.known j).held ≡ true → IsNumber z (slot v.known j).named
  held_number j low on = let n : ℕ = (slot v.known j).named in
      let some : 0 < n = state_less z v sv one 0 n (λ g b tr is. let h = (held_at z v sv g b tr is j low on).number.0 in omega arith) in
      let few : n < z.records + 1 = state_less z v sv one n (z.records + 1)
      (λ g b tr is. let h = (held_at z v sv g b tr is j low on).number.1 in omega arith) in (omega arith, omega arith)

-- What is left by a word that is put in an edge of a record that can be reached, and leads where the edge led.
module _ (z : Sizes) (words : List ℕ) (m r x : ℕ) (number : IsNumber z m) (low : r < 2) (reached : Reached 2 z words m)
    (to : target x ≡ target (cell_word words z m (2 + r))) where
  abbrev now : List ℕ
  now = set words (cell_place z m (2 + r)) x

  -- each edge is as it was, or it is this one
  pub edge_now : (n s : ℕ) → IsNumber z n → s < 2 → ((n ≡ m) × (s ≡ r) → ⊥) → cell_word now z n (2 + s) ≡ cell_word words z n (2 + s)
  edge_now n s is_n low_s ne = field_other z words x n (2 + s) m (2 + r) is_n (omega arith) number (omega arith)
      (λ (e : (n ≡ m) × (2 + s ≡ 2 + r)). ne (e.0, (let same = e.1 in omega arith)))

  leads_now : (n s : ℕ) → IsNumber z n → s < 2 → target (cell_word now z n (2 + s)) ≡ target (cell_word words z n (2 + s))
  leads_now n s is_n low_s = dite (ℕ_discrete n m)
      (λ same. dite (ℕ_discrete s r)
      (λ equal. ⊎_elim (λ (e : cell_word now z n (2 + s) ≡ x). ap target e
      ∙ (to ∙ (λ i. target (cell_word words z (sym same i) (2 + sym equal i)))))
      (λ (e : cell_word now z n (2 + s) ≡ cell_word words z n (2 + s)). ap target e)
      (field_either z words (cell_place z m (2 + r)) x n (2 + s)))
      (λ ne. ap target (edge_now n s is_n low_s (λ e. ne e.1))))
      (λ ne. ap target (edge_now n s is_n low_s (λ e. ne e.0)))

  pub reached_then : (n : ℕ) → Reached 2 z words n → Reached 2 z now n
  reached_then n = reached_led 2 z words now (λ h low_h. ap target (head_other z words x m (2 + r) h number low_h)) leads_now n

  pub reached_was : (n : ℕ) → Reached 2 z now n → Reached 2 z words n
  reached_was n = reached_set 2 z words (cell_place z m (2 + r)) x (λ (k : ℕ). Reached 2 z words k) (λ k y. y)
      (subst (Reached 2 z words) (sym to) (reached_next 2 z words m r number low reached))
      (λ k s is_k low_s y. reached_next 2 z words k s is_k low_s y) n

-- what is known of a pass that holds what it held
pub same_named : (v w : TreeView) → w.known.walk ≡ v.known.walk → w.known.own.at ≡ v.known.own.at → parent_of w.known ≡ parent_of v.known
same_named v w walk at = ap (λ (x : List WalkSlot). (slot (record v.known { walk = x }) w.known.own.at).named) walk
    ∙ ap (λ (j : ℕ). (slot v.known j).named) at

pub slot_same : (v w : TreeView) → w.known.walk ≡ v.known.walk → (j : ℕ) → slot w.known j ≡ slot v.known j
slot_same v w walk j = ap (λ (x : List WalkSlot). slot (record v.known { walk = x }) j) walk

-- FLAG was set in the edge where the seek ended.
module _ (z : Sizes) (k : ℕ) (s : Sought) (v u w : TreeView) (sv : Sees z v) (su : Sees z u) (sw : Sees z w) (is : IsSought v.known k s)
    (l : LoneSought z s v) where
  parent_number : IsNumber z (parent_of v.known)
  parent_number = held_number z v sv l.lone.one v.known.own.at is.parent is.parent_held

  edge_there : get_or (words_of z v) (cell_place z (parent_of v.known) (2 + side_number s.side)) 0 ≡ word_of s.edge
  edge_there = ap (λ (p : Place). get_or (words_of z v) (source_place z v.known p s.side) 0) (sym is.parent_is) ∙ l.edge.stands

  above_there : get_or (words_of z v) (cell_place z (slot v.known is.ancestor).named (2 + side_number s.ancestor_side)) 0
      ≡ word_of s.successor
  above_there = ap (λ (p : Place). get_or (words_of z v) (source_place z v.known p s.ancestor_side) 0) (sym is.ancestor_is) ∙ l.above.stands

  -- an exchange of it doesn't miss
  pub never_missed : {found : ℕ} → Missed (source_place z v.known s.parent s.side) (word_of s.edge) found v u → ⊥
  never_missed m = m.other (finds_there z l.lone.one v.known v u sv.low m.made (run_of z u su) refl ∙ l.edge.stands)

  module _ (r : Removes (source_place z v.known s.parent s.side) (word_of s.edge) v u) (known : w.known ≡ u.known)
      (calm : SameReached 2 z (words_of z u) (words_of z w)) (plain : word_of s.edge % 16 ≡ 8) where
    abbrev sd : ℕ
    sd = side_number s.side

    abbrev x : ℕ
    x = word_of s.edge + 1

    low : sd < 2
    low = side_two s.side

    reached : Reached 2 z (words_of z v) (parent_of v.known)
    reached = l.lone.held v.known.own.at is.parent is.parent_held

    -- the words after it
    left : words_of z u ≡ set (words_of z v) (cell_place z (parent_of v.known) (2 + sd)) x
    left = step_words 2 caller_of (tree_opens z) z _ v u l.lone.one sv.low (run_of z u su) r.made
        ∙ ap (λ (p : Place). set (words_of z v) (source_place z v.known p s.side) x) is.parent_is

    to : target x ≡ target (cell_word (words_of z v) z (parent_of v.known) (2 + sd))
    to = even (word_of s.edge) plain ∙ ap target (sym edge_there ∙ field_is z (words_of z v) (parent_of v.known) (2 + sd))
      where
        even : (n : ℕ) → n % 16 ≡ 8 → target (n + 1) ≡ target n
        even n e = omega arith

    here : u.known ≡ flagged_pass (side (key_of v.known.own.call) (slot v.known v.known.own.at).key) (target (word_of s.edge)) v.known
    here = known_after _ _ _ _ _ _ _ v u r.made

    walk : w.known.walk ≡ v.known.walk
    walk = ap (λ (q : TreePass). q.walk) known ∙ ap (λ (q : TreePass). q.walk) here

    at : w.known.own.at ≡ v.known.own.at
    at = ap (λ (q : TreePass). q.own.at) known ∙ ap (λ (q : TreePass). q.own.at) here

    was : (n : ℕ) → Reached 2 z (words_of z w) n → Reached 2 z (words_of z v) n
    was n y = reached_was z (words_of z v) (parent_of v.known) sd x parent_number low reached to n
        (subst (λ (ws : List ℕ). Reached 2 z ws n) left (reached_back 2 z (words_of z u) (words_of z w) calm (omega arith) n y))

    then : (n : ℕ) → Reached 2 z (words_of z v) n → Reached 2 z (words_of z w) n
    then n y = reached_on 2 z (words_of z u) (words_of z w) calm (omega arith) n (subst (λ (ws : List ℕ). Reached 2 z ws n) (sym left)
        (reached_then z (words_of z v) (parent_of v.known) sd x parent_number low reached to n y))

    -- an edge of what can be reached is as it was, but for this one
    edge_as : (n q : ℕ) → IsNumber z n → q < 2 → Reached 2 z (words_of z w) n → ((n ≡ parent_of v.known) × (q ≡ sd) → ⊥)
        → cell_word (words_of z w) z n (2 + q) ≡ cell_word (words_of z v) z n (2 + q)
    edge_as n q number lo y ne = calm.cells n (2 + q) number (omega arith)
        (reached_back 2 z (words_of z u) (words_of z w) calm (omega arith) n y)
        ∙ (ap (λ (ws : List ℕ). cell_word ws z n (2 + q)) left
        ∙ edge_now z (words_of z v) (parent_of v.known) sd x parent_number low reached to n q number lo ne)

    pub flagged_lone : (other : Side) → side_number other ≡ across sd → LoneFlagged z s other w
    flagged_lone other opposite = record {
      one = l.lone.one;
      but = λ n q number lo y ne. ap flag_bit (edge_as n q number lo y
          (λ (e : (n ≡ parent_of v.known) × (q ≡ sd)). ne (e.0 ∙ sym (same_named v w walk at), e.1 ∙ sym back)))
          ∙ l.lone.bare n q number lo (was n y);
      held = λ j lo on. then (slot w.known j).named
          (subst (λ (y : WalkSlot). Reached 2 z (words_of z v) y.named) (sym (slot_same v w walk j))
          (l.lone.held j lo (ap (λ (y : WalkSlot). y.held) (sym (slot_same v w walk j)) ∙ on)));
      leads = l.leads ∙ sym (same_named v w walk at);
      above = record {
        one = l.lone.one;
        stands = ap (λ (p : Place). get_or (words_of z w) (source_place z w.known p s.ancestor_side) 0) is.ancestor_is
            ∙ (ap (λ (y : WalkSlot). get_or (words_of z w) (cell_place z y.named (2 + side_number s.ancestor_side)) 0)
            (slot_same v w walk is.ancestor)
            ∙ (field_is z (words_of z w) (slot v.known is.ancestor).named (2 + side_number s.ancestor_side)
            ∙ (edge_as (slot v.known is.ancestor).named (side_number s.ancestor_side) ancestor_number (side_two s.ancestor_side)
            (then (slot v.known is.ancestor).named (l.lone.held is.ancestor is.ancestor_held.0 is.ancestor_held.1))
            (λ (e : ((slot v.known is.ancestor).named ≡ parent_of v.known) × (side_number s.ancestor_side ≡ sd)). ancestor_other e.0)
            ∙ (sym (field_is z (words_of z v) (slot v.known is.ancestor).named (2 + side_number s.ancestor_side)) ∙ above_there))));
      };
    }
      where
        back : across (side_number other) ≡ sd
        back = ap across opposite ∙ across_twice sd low

        ancestor_number : IsNumber z (slot v.known is.ancestor).named
        ancestor_number = held_number z v sv l.lone.one is.ancestor is.ancestor_held.0 is.ancestor_held.1

        ancestor_other : (slot v.known is.ancestor).named ≢ parent_of v.known
        ancestor_other = ancestor_apart z v sv l.lone.one is.parent reached s.ancestor is.ancestor is.ancestor_is s.ancestor_side
            (word_of s.successor) l.above.stands l.leads

-- The value of the leaf is read then: what the pass knows stays, and no word of what can be reached is another one.
pub read_calm : (z : Sizes) (i value : ℕ) (b w : Seat Unit TreeView) → Sees z (view b) → Sees z (view w) → z.passes ≡ 1
    → ReadValue z i value b w → (known w ≡ known b) × SameReached 2 z (words_of z (view b)) (words_of z (view w))
read_calm z i value b w sb sw one r =
    let first : known r.middle ≡ known b = known_after _ _ _ _ _ _ _ (view b) (view r.middle) r.first.made in
    let run = run_before 2 caller_of (tree_opens z) z _ (view r.middle) (view w) r.second.made (run_of z (view w) sw) in (
      known_after _ _ _ _ _ _ _ (view r.middle) (view w) r.second.made ∙ first,
      same_through 2 z (words_of z (view b)) (words_of z (view r.middle)) (words_of z (view w)) (omega arith)
          (calm_step z one (view b) (view r.middle) sb.low refl r.first.made run refl)
          (calm_step z one (view r.middle) (view w) (subst (λ (q : TreePass). q.number < z.passes) (sym first) sb.low) refl r.second.made
          (run_of z (view w) sw) refl),
    )

pub none_some : {A : Type 0} (x : A) → ◌≢◌ {A = Option A} (Some x) None
none_some x e = cc
