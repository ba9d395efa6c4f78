-- The value of a record is read.
use Rattle.std.proofs.Common.{◌≡◌, ℕ, true, [], ◌∷◌, refl, ap, ◌∙◌, ⊎_elim}
use Rattle.atomic_table.specs.declared.shared.Seat.{Seat}
use Rattle.pp_link.specs.declared.layout.Sizes.{Sizes}
use Rattle.pp_link.specs.Places.{cell_place}
use Rattle.pp_rule.specs.Lists.{IsIn}
use Rattle.pp_rule.specs.Orders.{is_calm, read_step}
use Rattle.pp_rule.specs.Views.{slot}
use Rattle.pp_rule.proofs.Made.{known_after}
use Rattle.pp_rule.proofs.Put.{in_cases, in_nil}
use Rattle.pp_base.specs.Named.{NamedStep}
use Rattle.pp_base.specs.Passes.{known, view}
use Rattle.pp_calls.specs.PoolViews.{is_writing}
use Rattle.pp_hazard.specs.Reading.{ReadValue}
use Rattle.pp_seek.specs.Trails.{reads}
use Rattle.pp_trees.specs.Searches.{TreePass}
use Rattle.pp_trees.specs.Edges.{TreeView}
use Rattle.pp_turns.specs.Tallies.{memory_of}
use Rattle.pp_shelf.specs.Runs.{steps_made}
use Rattle.pp_turns.proofs.Aside.{named_in}
use Rattle.pp_turns.proofs.Placing.{unplaced_on}
use Rattle.pp_tree_turns.specs.Turning.{Names}
use Rattle.pp_tree_turns.proofs.Seeks.{names_both}
use Rattle.pp_tree_turns.proofs.Exchanges.{quiet_names, quiet_unplaced}
use Rattle.pp_tree_turns.proofs.Counting.{two_reads, none_walks}
use Rattle.pp_tree_calls.specs.Turned.{Idles}
use Rattle.pp_tree_calls.proofs.Lasting.{silent_none}

pub reads_idle : (z : Sizes) (i value : ℕ) (b w : Seat Unit TreeView) → ReadValue z i value b w → Idles z (view b) (view w)
reads_idle z i value b w r = record {
  stepped = names.stepped;
  stands = names.stands;
  unplaced = unplaced_on (view b) (view r.middle) (view w) (ap (λ (q : TreePass). q.number) first_known)
      (quiet_unplaced (view b) (view r.middle) r.first.made refl) (quiet_unplaced (view r.middle) (view w) r.second.made refl);
  known = known_after _ _ _ _ _ _ _ (view r.middle) (view w) r.second.made ∙ first_known;
  none = silent_none (reads one r.low ∷ reads two r.high ∷ []) (view b) (view w) names (λ s x. ap is_writing (kind_is s x));
  calm = named_in (λ n. is_calm n.kind ≡ true) (steps_made (view b) (view w)) (reads one r.low ∷ reads two r.high ∷ []) names.named
      (λ s x. ap is_calm (kind_is s x));
  walks = λ call t calm. none_walks z call t (reads one r.low ∷ reads two r.high ∷ []) (view b) (view w) names calm
      (two_reads z call (memory_of t) one two r.low r.high calm);
}
  where
    one : ℕ
    one = cell_place z (slot (known b) i).named 1

    two : ℕ
    two = cell_place z (slot (known r.middle) i).named 4

    first_known : known r.middle ≡ known b
    first_known = known_after _ _ _ _ _ _ _ (view b) (view r.middle) r.first.made

    names : Names (reads one r.low ∷ reads two r.high ∷ []) (view b) (view w)
    names = names_both (reads one r.low ∷ []) (reads two r.high ∷ []) (view b) (view r.middle) (view w)
        (quiet_names (view b) (view r.middle) r.first.made refl) (quiet_names (view r.middle) (view w) r.second.made refl)

    kind_is : (s : NamedStep) → IsIn s (reads one r.low ∷ reads two r.high ∷ []) → s.kind ≡ read_step
    kind_is s x = ⊎_elim (λ (e : s ≡ reads one r.low). ap (λ (n : NamedStep). n.kind) e)
        (λ (later : IsIn s (reads two r.high ∷ [])). ⊎_elim (λ (e : s ≡ reads two r.high). ap (λ (n : NamedStep). n.kind) e)
        (λ (none : IsIn s []). absurd (in_nil s none)) (in_cases s (reads two r.high) [] later))
        (in_cases s (reads one r.low) (reads two r.high ∷ []) x)
