-- What a lone pass knows stays over calm steps.
use Rattle.std.proofs.Common.{◌≡◌, ℕ, ◌<◌, true, List, get_or, refl, sym}
use Rattle.std.proofs.Common.{ap, ◌∙◌, subst, arith}
use Rattle.pp_link.specs.declared.layout.Sizes.{Sizes}
use Rattle.pp_link.specs.Links.{flag_bit, word_of}
use Rattle.pp_link.specs.Places.{cell_place}
use Rattle.pp_link.specs.Words.{cell_word}
use Rattle.pp_rule.specs.Reached.{SameReached}
use Rattle.pp_rule.specs.Views.{slot}
use Rattle.pp_rule.specs.declared.views.WalkSlot.{WalkSlot}
use Rattle.pp_rule.proofs.Undisturbed.{reached_back}
use Rattle.pp_base.specs.declared.source.Place.{Place}
use Rattle.pp_base.specs.declared.source.Place.TheVariants.{Head, Walk as Word}
use Rattle.pp_base.specs.declared.source.Side.TheVariants.{Left}
use Rattle.pp_base.specs.Sources.{source_place}
use Rattle.pp_base.specs.Named.{NamedStep, Made}
use Rattle.pp_lists.specs.Clean.{IsBare}
use Rattle.pp_lists.specs.Lists.{ListPass}
use Rattle.pp_lists.specs.Walks.{bucket}
use Rattle.pp_lists.specs.Turns.{ListView}
use Rattle.pp_walk.specs.declared.walk.Found.{Found}
use Rattle.pp_walk.specs.Roles.{IsAnchor, IsPlain}
use Rattle.pp_walk.specs.Trod.{Quiet}
use Rattle.pp_walk.specs.Lone.{words_of, Sees}
use Rattle.pp_walk.proofs.Lone.{run_of, state_at, held_attached, reached_at}
use Rattle.pp_walk.proofs.LoneRuns.{AreCalm, calm_words, own_anchor, source_stays}
use Rattle.pp_walk.specs.Bare.{LoneEnd}
use Rattle.pp_walk.proofs.LoneEffects.{quiet_calm}

module _ (z : Sizes) (v w : ListView) (sv : Sees z v) (sw : Sees z w) (one : z.passes ≡ 1) where
  pub same_bare : SameReached 1 z (words_of z v) (words_of z w) → IsBare z (words_of z v) → IsBare z (words_of z w)
  same_bare same bare n number r = let was = reached_back 1 z (words_of z v) (words_of z w) same (omega arith) n r in
      ap flag_bit (same.cells n 2 number (omega arith) was) ∙ bare n number was

  pub named_same : (steps : List NamedStep) → Made steps v w → AreCalm steps → SameReached 1 z (words_of z v) (words_of z w)
  named_same steps made calm = calm_words z steps v w sv.low (run_of z w sw) one made calm

  pub quiet_same : (lost : ℕ) → Quiet lost v w → SameReached 1 z (words_of z v) (words_of z w)
  quiet_same lost q = named_same q.steps q.did (quiet_calm lost v w q)

  -- What a walk alone came to stays over calm steps by which the pass holds what it held.
  pub end_stays : (f : Found) (k : ℕ) → IsAnchor z v.known k f.anchor → IsPlain f.end → SameReached 1 z (words_of z v) (words_of z w)
      → ((j : ℕ) → slot w.known j ≡ slot v.known j) → LoneEnd z f v → LoneEnd z f w
  end_stays f k anchored plain same slots l = (
    record {
      one = one;
      bare = same_bare same l.0.bare;
      held = λ j low on. ap (λ s. flag_bit (cell_word (words_of z w) z s.named 2)) (slots j)
          ∙ state_at z v sv one (flag_bit (cell_word (words_of z w) z (slot v.known j).named 2)) 0 (λ g b lists is.
          let on_then : (slot v.known j).held ≡ true = ap (λ s. s.held) (sym (slots j)) ∙ on in
          let a = held_attached z v sv g b lists is l.0 j low on_then in
          ap flag_bit (same.cells (slot v.known j).named 2 a.0 (omega arith)
          (reached_at z v sv g b lists is (slot v.known j).named a.0 a.1))
          ∙ l.0.held j low on_then);
    },
    record {
      one = one;
      stands = ap (λ (p : ℕ). get_or (words_of z w) p 0) (place_same f.anchor)
          ∙ source_stays z f.anchor (word_of f.end) v sv (own_anchor z v.known k f.anchor anchored) plain l.1 (words_of z w) same;
    },
  )
    where
      place_same : (at : Place) → source_place z w.known at Left ≡ source_place z v.known at Left
      place_same (Head h) = refl
      place_same (Word i) = ap (λ s. cell_place z s.named 2) (slots i)

-- an anchor that the pass holds still is one
pub anchor_kept : (z : Sizes) (k : ℕ) (q q' : ListPass) → ((j : ℕ) → slot q' j ≡ slot q j) → (at : Place) → IsAnchor z q k at
    → IsAnchor z q' k at
anchor_kept z k q q' slots (Head h) a = a
anchor_kept z k q q' slots (Word i) a = subst
    (λ (s : WalkSlot). (i < 5) × (s.held ≡ true) × (s.key < k) × (bucket z.heads s.key ≡ bucket z.heads k))
    (sym (slots i)) a
