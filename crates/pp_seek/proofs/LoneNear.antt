-- The first load of an edge by a pass alone finds the word that stands there, without INVALID.
use Rattle.std.proofs.Common.{◌≡◌, ◌≢◌, ℕ, ◌+◌, ◌<◌, length, get_or, refl, sym, ap, ◌∙◌, subst, arith}
use Rattle.std.proofs.Math.Bool.{false≢true}
use Rattle.std.proofs.Math.Decide.{ℕ_discrete}
use mathlib.Core.Logic.{dite}
use Rattle.pp_link.specs.declared.layout.Sizes.{Sizes}
use Rattle.pp_link.specs.declared.link.Link.{Link}
use Rattle.pp_link.specs.Links.{word_of, invalid_bit}
use Rattle.pp_link.specs.Places.{cell_place}
use Rattle.pp_rule.specs.Orders.{announce_step}
use Rattle.pp_rule.specs.declared.views.WalkSlot.{WalkSlot}
use Rattle.pp_rule.specs.Views.{slot, naming}
use Rattle.pp_rule.specs.Rule.{Base}
use Rattle.pp_rule.specs.Reached.{SameReached}
use Rattle.pp_rule.specs.Steps.{MadeQuietStep, with_walk, learning}
use Rattle.pp_rule.proofs.Slots.{slot_here, slot_else}
use Rattle.pp_base.specs.declared.source.Side.{Side}
use Rattle.pp_base.specs.Sources.{side_number}
use Rattle.pp_trees.specs.Trees.{heap, Internal}
use Rattle.pp_trees.specs.Searches.{TreePass, TreeState, Trees}
use Rattle.pp_trees.specs.Sentinels.{has_mark}
use Rattle.pp_trees.specs.Edges.{TreeView}
use Rattle.pp_trees.specs.Seeks.{Looks}
use Rattle.pp_trees.specs.Lone.{words_of as seen_words, Sees, IsLone}
use Rattle.pp_edges.proofs.Splicing.{side_two}
use Rattle.pp_seek.specs.declared.seek.Spot.{Spot}
use Rattle.pp_seek.specs.Keeping.{IsOf}
use Rattle.pp_seek.specs.Seeking.{words_of, StandsBut, Near}
use Rattle.pp_seek.specs.Lone.{LoneSpot, LoneNext}
use Rattle.pp_seek.proofs.Going.{SameHeld, word_used, learning_held}
use Rattle.pp_seek.proofs.LoneCalm.{finds_there, trail_same}
use Rattle.pp_seek.proofs.Lone.{run_of, cell_is, state_at, stands_at, edge_plain}
use Rattle.pp_seek.proofs.LoneSpots.{word_stays, spot_stays}

-- a seek stands at an attached internal record
pub spot_internal : (z : Sizes) (x : ℕ) (s : Spot) (v : TreeView) (sv : Sees z v) → StandsBut x v.known s → IsLone z v → (g : TreeState)
    → Base 2 z (seen_words z v) g → Trees z (seen_words z v) g → g.of v.known.number ≡ v.known
    → Internal z (heap z (seen_words z v) g.status) (slot v.known s.word).named
spot_internal z x s v sv st lone g b tr is = subst (λ (j : ℕ). Internal z (heap z (seen_words z v) g.status) (slot v.known j).named) st.at
    (stands_at z v sv g b tr is lone (subst (λ (j : ℕ). j < 5) (sym st.at) st.low))

module _ (z : Sizes) (s : Spot) (sd : Side) (first : ℕ) (v v1 : TreeView) (sv : Sees z v) (s1 : Sees z v1) (x : ℕ)
    (st : StandsBut x v.known s) (l : LoneSpot z s v)
    (t : Looks (side_number sd) (cell_place z (slot v.known s.word).named (2 + side_number sd)) first v v1) where
  -- the load found the word that stands there
  pub first_stands : first ≡ get_or (seen_words z v) (cell_place z (slot v.known s.word).named (2 + side_number sd)) 0
  first_stands = finds_there z l.lone.one _ v v1 sv.low t.loaded.made (run_of z v1 s1) refl

  -- it has no INVALID
  pub first_valid : invalid_bit first ≡ 0
  first_valid = let n : ℕ = (slot v.known s.word).named in ap invalid_bit first_stands
      ∙ state_at z v sv l.lone.one (invalid_bit (get_or (seen_words z v) (cell_place z n (2 + side_number sd)) 0)) 0 (λ g b tr is.
      ap invalid_bit (cell_is z (seen_words z v) n (2 + side_number sd))
      ∙ (edge_plain z v sv g b tr is l.lone n (side_number sd) (spot_internal z x s v sv st l.lone g b tr is) (side_two sd)).2)

-- Where it leads is announced, and the edge is as it was.
pub lone_near : (z : Sizes) (k : ℕ) (s : Spot) (sd : Side) (first : ℕ) (link : Link) (word number place x : ℕ) (v v1 v2 : TreeView)
    → Sees z v → Sees z v1 → Sees z v2 → StandsBut x v.known s → length v.known.walk ≡ 5 → length v1.known.walk ≡ 5
    → Looks (side_number sd) (cell_place z (slot v.known s.word).named (2 + side_number sd)) first v v1 → word_of link ≡ first → word < 5
    → (IsOf (words_of s) word → ⊥)
    → MadeQuietStep announce_step place number number (with_walk word (naming number) v1.known) v1 v2
    → Near z k s (record { side = sd; link = link; word = word }) v v2 → LoneSpot z s v
    → LoneNext z s (record { side = sd; link = link; word = word }) v2
lone_near z k s sd first link word number place x v v1 v2 sv s1 s2 st five five1 t word_is low out made near l = record {
  spot = spot_stays z v v2 sv s2 same x s st
      (λ j lt is. held j lt (λ e. out (subst (IsOf (words_of s)) e is)))
      (λ j lt on. dite (ℕ_discrete j word)
      (λ e. absurd (false≢true (sym (ap (λ (y : WalkSlot). y.held) here) ∙ (ap (λ (i : ℕ). (slot v2.known i).held) (sym e) ∙ on))))
      (λ ne. let h = held j lt ne in (sym h.held ∙ on, h.named))) near.own l;
  edge = record {
    one = l.lone.one;
    stands = ap (λ (n : ℕ). get_or (seen_words z v2) (cell_place z n (2 + side_number sd)) 0) spot.named
        ∙ (word_stays z v v2 sv s2 same l.lone s.word st.low st.held sd
        ∙ (sym (first_stands z s sd first v v1 sv s1 x st l t) ∙ sym word_is));
  };
}
  where
    same : SameReached 2 z (seen_words z v) (seen_words z v2)
    same = trail_same z v v2 l.lone.one sv.low near.trail (run_of z v2 s2)

    at_low : v.known.own.at < 5
    at_low = subst (λ (y : ℕ). y < 5) (sym st.at) st.low

    known1 : v1.known ≡ learning has_mark v.known.own.at (side_number sd) first v.known
    known1 = ap (λ (u : TreeView). u.known) t.loaded.made.is

    known2 : v2.known ≡ with_walk word (naming number) v1.known
    known2 = ap (λ (u : TreeView). u.known) made.is

    here : slot v2.known word ≡ naming number
    here = slot_here v1.known v2.known word (naming number) (ap (λ (q : TreePass). q.walk) known2) (omega arith)

    held : (j : ℕ) → j < 5 → j ≢ word → SameHeld (slot v.known j) (slot v2.known j)
    held j lt ne = subst (SameHeld (slot v.known j))
        (sym (slot_else v1.known v2.known word (naming number) (ap (λ (q : TreePass). q.walk) known2) j ne))
        (subst (λ (q : TreePass). SameHeld (slot v.known j) (slot q j)) (sym known1)
        (learning_held v.known.own.at (side_number sd) first v.known j five at_low))

    spot : SameHeld (slot v.known s.word) (slot v2.known s.word)
    spot = held s.word st.low (λ e. out (subst (IsOf (words_of s)) e (word_used s)))
