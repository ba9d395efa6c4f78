-- A pass alone ends at the leaf behind an edge: both edges of what it ended at stand.
use Rattle.std.proofs.Common.{◌≡◌, ◌≢◌, inl, inr, ℕ, ◌+◌, Bool, length, get_or, Option, Some}
use Rattle.std.proofs.Common.{refl, sym, ap, ◌∙◌, subst, arith}
use Rattle.std.proofs.Math.Decide.{ℕ_discrete}
use mathlib.Core.Logic.{dite}
use Rattle.pp_link.specs.declared.layout.Sizes.{Sizes}
use Rattle.pp_link.specs.Links.{word_of, target}
use Rattle.pp_link.specs.Places.{cell_place}
use Rattle.pp_model.specs.Calls.{key_of, reply_at, changes}
use Rattle.pp_rule.specs.Orders.{read_step}
use Rattle.pp_rule.specs.declared.views.Halves.{Halves}
use Rattle.pp_rule.specs.declared.views.WalkSlot.{WalkSlot}
use Rattle.pp_rule.specs.Views.{slot}
use Rattle.pp_rule.specs.Reached.{Reached, SameReached}
use Rattle.pp_rule.specs.Steps.{MadeQuietStep, holding}
use Rattle.pp_rule.proofs.Slots.{slot_here, slot_else}
use Rattle.pp_rule.proofs.Undisturbed.{same_through}
use Rattle.pp_base.specs.Sources.{side_number}
use Rattle.pp_trees.specs.declared.own.TreeOwn.{TreeOwn}
use Rattle.pp_trees.specs.Searches.{TreePass}
use Rattle.pp_trees.specs.Edges.{TreeView}
use Rattle.pp_trees.specs.Seeks.{found_at, ended_pass, Ended}
use Rattle.pp_trees.specs.Lone.{words_of as seen_words, Sees}
use Rattle.pp_seek.specs.declared.seek.Above.{Above}
use Rattle.pp_seek.specs.declared.seek.Spot.{Spot}
use Rattle.pp_seek.specs.declared.turn.Next.{Next}
use Rattle.pp_seek.specs.Keeping.{IsOf}
use Rattle.pp_seek.specs.Seeking.{words_by, words_of, IsAbove, Over, IsNear}
use Rattle.pp_seek.specs.Lone.{LoneOver, LoneAbove, LoneNext, LoneSought}
use Rattle.pp_seek.proofs.Going.{word_used}
use Rattle.pp_seek.proofs.Ending.{by_bool, ended_known, reached}
use Rattle.pp_seek.proofs.LoneCalm.{calm_step}
use Rattle.pp_seek.proofs.Lone.{run_of}
use Rattle.pp_seek.proofs.LoneSpots.{lone_stays, word_stays}
use Rattle.pp_seek.proofs.LoneComes.{next_reached}

-- the step at which a seek ends changes no word
ended_same : (z : Sizes) (i sd place first key : ℕ) (value : Halves) (v w : TreeView) → z.passes ≡ 1 → Sees z v → Sees z w
    → Ended i sd place first key value v w → SameReached 2 z (seen_words z v) (seen_words z w)
ended_same z i sd place first key value v w one sv sw t = by_bool v.known.own.going
    (λ off. calm_step z one v w sv.low refl (t.again off).made (run_of z w sw) refl)
    (λ on. by_bool (changes (reply_at v.known.own.call (found_at (key_of v.known.own.call) key value first)))
    (λ idle. calm_step z one v w sv.low refl (t.settled on idle).made (run_of z w sw) refl)
    (λ change. calm_step z one v w sv.low refl (t.effect on change).made (run_of z w sw) refl))

pub lone_ends : (z : Sizes) (k : ℕ) (s : Spot) (above : Above) (n : Next) (first key here read_place place : ℕ)
    (value : Halves) (equal : Bool) (v v1 v2 : TreeView) → Sees z v → Sees z v1 → Sees z v2 → IsNear v.known k s n
    → s.above ≡ Some above → length v.known.walk ≡ 5 → first ≡ word_of n.link → Ended n.word (side_number n.side) place first key value v v1
    → MadeQuietStep read_step read_place here here v1.known v1 v2 → LoneNext z s n v → LoneSought z (reached s above n equal) v2
lone_ends z k s above n first key here read_place place value equal v v1 v2 sv s1 s2 near above_is five first_is ended read l = record {
  lone = lone_stays z v v2 sv s2 same l.spot.lone (λ j low on. dite (ℕ_discrete j n.word)
      (λ e. subst (Reached 2 z (seen_words z v)) (sym (ap (λ (i : ℕ). (slot v2.known i).named) e
      ∙ (ap (λ (x : WalkSlot). x.named) there ∙ ap target first_is))) (next_reached z k s n v sv near l))
      (λ ne. subst (Reached 2 z (seen_words z v)) (ap (λ (x : WalkSlot). x.named) (sym (else_ j ne)))
      (l.spot.lone.held j low (ap (λ (x : WalkSlot). x.held) (sym (else_ j ne)) ∙ on))));
  path = ap (λ (o : TreeOwn). o.path) own2 ∙ up.path;
  leads = up.leads ∙ (ap (λ (x : WalkSlot). x.named) (sym spot_same) ∙ ap (λ (j : ℕ). (slot v2.known j).named) (sym at_is));
  above = record {
    one = l.spot.lone.one;
    stands = ap (λ (x : WalkSlot). get_or (seen_words z v2) (cell_place z x.named (2 + side_number above.side)) 0)
        (else_ above.ancestor (λ e. out (inr (inl (sym e)))))
        ∙ (word_stays z v v2 sv s2 same l.spot.lone above.ancestor o.ancestor_low o.ancestor_held above.side ∙ up.edge.stands);
  };
  edge = record {
    one = l.spot.lone.one;
    stands = ap (λ (x : WalkSlot). get_or (seen_words z v2) (cell_place z x.named (2 + side_number n.side)) 0) spot_same
        ∙ (word_stays z v v2 sv s2 same l.spot.lone s.word near.stands.low near.stands.held n.side ∙ l.edge.stands);
  };
}
  where
    o : IsAbove v.known s.word above
    o = subst (Over v.known s.word) above_is near.stands.over

    up : LoneAbove z s.word above v
    up = subst (λ (a : Option Above). LoneOver z s.word a v) above_is l.spot.over

    out : IsOf (words_by s.word (Some above)) n.word → ⊥
    out = subst (λ (a : Option Above). IsOf (words_by s.word a) n.word → ⊥) above_is near.other

    same : SameReached 2 z (seen_words z v) (seen_words z v2)
    same = same_through 2 z (seen_words z v) (seen_words z v1) (seen_words z v2) (omega arith)
        (ended_same z n.word (side_number n.side) place first key value v v1 l.spot.lone.one sv s1 ended)
        (calm_step z l.spot.lone.one v1 v2 s1.low refl read (run_of z v2 s2) refl)

    e : (going : Bool) × (v1.known ≡ ended_pass n.word (side_number n.side) first key value going v.known)
    e = ended_known n.word (side_number n.side) place first key value v v1 ended

    known2 : v2.known ≡ ended_pass n.word (side_number n.side) first key value e.0 v.known
    known2 = ap (λ (u : TreeView). u.known) read.is ∙ e.1

    own2 : v2.known.own ≡ (ended_pass n.word (side_number n.side) first key value e.0 v.known).own
    own2 = ap (λ (q : TreePass). q.own) known2

    at_is : v2.known.own.at ≡ s.word
    at_is = ap (λ (w : TreeOwn). w.at) own2 ∙ near.stands.at

    there : slot v2.known n.word ≡ holding (target first) key value
    there = slot_here v.known v2.known n.word (holding (target first) key value) (ap (λ (q : TreePass). q.walk) known2)
        (let low = near.low in omega arith)

    else_ : (j : ℕ) → j ≢ n.word → slot v2.known j ≡ slot v.known j
    else_ j ne = slot_else v.known v2.known n.word (holding (target first) key value) (ap (λ (q : TreePass). q.walk) known2) j ne

    spot_same : slot v2.known s.word ≡ slot v.known s.word
    spot_same = else_ s.word (λ e. near.other (subst (IsOf (words_of s)) e (word_used s)))
