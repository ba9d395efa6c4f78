-- A pass alone comes from the head to the root.
use Rattle.std.proofs.Common.{◌≡◌, ⊎_elim, ℕ, ◌<◌, ◌≤◌, Bool, None, sym, ap, ◌∙◌, subst, arith}
use Rattle.std.proofs.lemmas.Bool.{cases_lt}
use Rattle.std.proofs.Math.Bool.{false≢true}
use Rattle.std.proofs.Math.Decide.{ℕ_discrete}
use mathlib.Core.Logic.{dite}
use Rattle.pp_link.specs.declared.layout.Sizes.{Sizes}
use Rattle.pp_link.specs.Links.{target}
use Rattle.pp_link.specs.Words.{head_word}
use Rattle.pp_model.specs.declared.Call.{Call}
use Rattle.pp_model.specs.Calls.{key_of}
use Rattle.pp_rule.specs.Views.{slot}
use Rattle.pp_rule.specs.Reached.{Reached, by_head}
use Rattle.pp_trees.specs.Trees.{side, inf0, inf2}
use Rattle.pp_trees.specs.Edges.{TreeView}
use Rattle.pp_trees.specs.Lone.{words_of as seen_words, Sees, IsLone}
use Rattle.pp_trees.proofs.Walking.{side_left, side_right}
use Rattle.pp_seek.specs.declared.seek.Spot.{Spot}
use Rattle.pp_seek.specs.Keeping.{IsOf}
use Rattle.pp_seek.specs.Seeking.{words_of, Enters}
use Rattle.pp_seek.specs.Lone.{LoneSpot}
use Rattle.pp_seek.proofs.LoneCalm.{trail_same}
use Rattle.pp_seek.proofs.Lone.{run_of, state_at, state_less}
use Rattle.pp_seek.proofs.LoneSpots.{lone_stays}

-- the root can be reached
root_reached : (z : Sizes) (v : TreeView) → Sees z v → z.passes ≡ 1 → Reached 2 z (seen_words z v) 1
root_reached z v sv one = by_head 0 (state_less z v sv one 0 z.heads (λ g b tr is. let some = b.within.some_heads in omega arith))
    (state_at z v sv one (target (head_word (seen_words z v) z 0)) 1 (λ g b tr is.
    ap target (tr.tree.sentinels.head 0 (let some = b.within.some_heads in omega arith))))

abbrev spot_root : ℕ → Spot
spot_root key = record { word = 0; key = key; low = 0; high = key; above = None }

pub lone_enters : (z : Sizes) (call : Call) (fresh : Bool) (key : ℕ) (v w : TreeView) → Sees z v → Sees z w → key_of call < inf0
    → Enters z call fresh (record { word = 0; key = key; low = 0; high = key; above = None }) v w → IsLone z v
    → LoneSpot z (record { word = 0; key = key; low = 0; high = key; above = None }) w
lone_enters z call fresh key v w sv sw pair e lone = record {
  lone = lone_stays z v w sv sw (trail_same z v w lone.one sv.low e.trail (run_of z w sw)) lone (λ j low on. dite (ℕ_discrete j 0)
      (λ zero_is. subst (Reached 2 z (seen_words z v)) (sym (ap (λ (i : ℕ). (slot w.known i).named) zero_is ∙ e.stands.over.0))
      (root_reached z v sv lone.one))
      (λ ne. absurd (false≢true (sym (e.stands.empty j low (λ used. ne (only j used)) (λ (five : j ≡ 5). omega arith)).free ∙ on))));
  over = tt;
  between = λ x least at at_less. (
    omega arith,
    ⊎_elim (λ (lt : x < key). lt) (λ (ge : key ≤ x).
        let right = side_right x key ge in let root : key ≡ inf2 = e.root in
        let left = ap (λ (c : Call). side (key_of c) key) e.call_is ∙ side_left (key_of call) key (omega arith) in
        let same = at.1 in absurd (omega arith)) (cases_lt x key),
  );
}
  where
    only : (j : ℕ) → IsOf (words_of (spot_root key)) j → j ≡ 0
    only j used = ⊎_elim (λ (a : j ≡ 0). a) (λ y. ⊎_elim (λ (a : j ≡ 0). a) (λ (a : j ≡ 0). a) y) used
