-- Calm steps of a pass that is alone on its pool, and the exchange that detaches a run.
use Rattle.std.proofs.Common.{◌≡◌, ℕ, ◌%◌, ◌<◌, ◌≤◌, false, List, [], ◌∷◌, ◌++◌, length, get_or, refl}
use Rattle.std.proofs.Common.{ap, ◌∙◌, subst, arith}
use Rattle.pp_link.specs.declared.layout.Sizes.{Sizes}
use Rattle.pp_link.specs.declared.link.Link.{Link}
use Rattle.pp_link.specs.Links.{target, flag_bit, word_of}
use Rattle.pp_link.specs.Places.{frontier_place}
use Rattle.pp_link.specs.Words.{head_word, cell_word}
use Rattle.pp_model.specs.declared.Change.{Change}
use Rattle.pp_rule.specs.Alone.{IsRun}
use Rattle.pp_rule.specs.Views.{slot}
use Rattle.pp_rule.specs.Rule.{Base}
use Rattle.pp_rule.specs.Reached.{SameReached}
use Rattle.pp_rule.proofs.Put.{in_first, in_later, in_right}
use Rattle.pp_base.specs.declared.source.Place.{Place}
use Rattle.pp_base.specs.declared.source.Place.TheVariants.{Head, Walk as Word}
use Rattle.pp_base.specs.declared.source.Side.TheVariants.{Left}
use Rattle.pp_base.specs.Sources.{source_place}
use Rattle.pp_base.specs.Named.{NamedStep, guards, unguards, misses, Made}
pub use Rattle.pp_base.proofs.Calm.{AreCalm, calm_both, calm_one, calm_none}
use Rattle.pp_base.proofs.Calm.{calm_made, calm_found}
use Rattle.pp_base.proofs.Named.{made_append}
use Rattle.pp_unlink.proofs.Calm as unlinking
use Rattle.pp_unlink.specs.Unlinking.{MayFlush, Misses, Unlinks}
use Rattle.pp_unlink.specs.declared.unlinking.Unlink.{Unlink}
use Rattle.pp_lists.specs.Lists.{ListPass, ListState, Lists, list_chain, list_frozen}
use Rattle.pp_lists.specs.Turns.{ListView}
use Rattle.pp_walk.specs.Effects.{DetachesSo}
use Rattle.pp_walk.specs.Roles.{IsAnchor}
use Rattle.pp_walk.specs.Lone.{list_opens, words_of, Sees, IsOwn, IsStanding}
use Rattle.pp_walk.proofs.Lone.{run_of, state_at, held_at, reached_at}

module _ (z : Sizes) (steps : List NamedStep) (v w : ListView) (low : v.known.number < z.passes)
    (run : IsRun 1 (λ (c : Change). c.caller) (list_opens z) z w.order) (one : z.passes ≡ 1) (made : Made steps v w)
    (calm : AreCalm steps) where
  -- After them the heads and the records that can be reached are as they were.
  pub calm_words : SameReached 1 z (words_of z v) (words_of z w)
  calm_words = calm_made 1 (omega arith) (λ (c : Change). c.caller) (list_opens z) z one steps v w low made run calm

-- an anchor is the pass's own
pub own_anchor : (z : Sizes) (q : ListPass) (k : ℕ) (at : Place) → IsAnchor z q k at → IsOwn z q at
own_anchor z q k (Head h) a = a.0
own_anchor z q k (Word i) a = (a.0, a.1)

-- a flush is calm
pub flush_calm : (z : Sizes) (v w : ListView) → length v.known.chains ≤ 4 → MayFlush 1 z v w
    → (steps : List NamedStep) × (Made steps v w × AreCalm steps)
flush_calm z v w few f = unlinking.flush_calm 1 z v w few f

module _ (z : Sizes) (anchor : Place) (first : ℕ) (v : ListView) (sv : Sees z v) (own : IsOwn z v.known anchor) (plain : first % 16 ≡ 0)
    (st : IsStanding z (source_place z v.known anchor Left) first v) where
  module _ (words : List ℕ) (same : SameReached 1 z (words_of z v) words) (g : ListState) (b : Base 1 z (words_of z v) g)
      (lists : Lists z (words_of z v) g) (is : g.of v.known.number ≡ v.known) where
    plain_flag : (x : ℕ) → x % 16 ≡ 0 → flag_bit x ≡ 0
    plain_flag x plain = omega arith

    word_stays : (at : Place) → IsOwn z v.known at → get_or (words_of z v) (source_place z v.known at Left) 0 ≡ first
        → get_or words (source_place z v.known at Left) 0 ≡ first
    unfolding cell_word head_word
    word_stays (Head h) own stands = same.heads h own ∙ stands
    word_stays (Word i) own stands = let h = held_at z v sv g b lists is i own.0 own.1 in
        let flag : flag_bit (cell_word (words_of z v) z (slot v.known i).named 2) ≡ 0 = ap flag_bit stands ∙ plain_flag first plain in
        let a = lists.listed.marked (slot v.known i).named h.number h.used flag in
        same.cells (slot v.known i).named 2 h.number (omega arith) (reached_at z v sv g b lists is (slot v.known i).named h.number a)
        ∙ stands

  -- the word of a source that stands without FLAG stays over calm steps
  pub source_stays : (words : List ℕ) → SameReached 1 z (words_of z v) words → get_or words (source_place z v.known anchor Left) 0 ≡ first
  source_stays words same = state_at z v sv st.one (get_or words (source_place z v.known anchor Left) 0) first (λ g b lists is.
      word_stays words same g b lists is anchor own st.stands)

  -- The exchange of a word that stands there detaches.
  pub lone_detaches : (end : ℕ) (w : ListView) → Sees z w → length v.known.chains ≤ 4 → DetachesSo z anchor first end v w false → ⊥
  lone_detaches end w sw few d = let missed = d.missed refl in let l : Link = missed.0 in
      let m : Misses 1 z list_frozen list_chain anchor Left first end v w (word_of l) =
      subst (λ (answer : Unlink). Unlinks 1 z list_frozen list_chain anchor Left first end v w answer) missed.1.0 d.unlinks in
      let f = flush_calm z v m.between few m.flushed in
      let place : ℕ = source_place z v.known anchor Left in
      let g : NamedStep = guards (frontier_place z v.known.number m.guard) (target end) in
      let x : NamedStep = misses place (word_of l) in let u : NamedStep = unguards (frontier_place z v.known.number m.guard) in
      let all : Made (f.0 ++ g ∷ x ∷ u ∷ []) v w = made_append f.0 (g ∷ x ∷ u ∷ []) v m.between w f.1.0 m.steps in
      let calm : AreCalm (f.0 ++ g ∷ x ∷ u ∷ []) = calm_both f.0 (g ∷ x ∷ u ∷ []) f.1.1
      (calm_one g (x ∷ u ∷ []) refl (calm_one x (u ∷ []) refl (calm_one u [] refl calm_none))) in
      let found = calm_found 1 (omega arith) (λ (c : Change). c.caller) (list_opens z) z st.one (f.0 ++ g ∷ x ∷ u ∷ []) v w sv.low all
      (run_of z w sw) calm x
      (in_right x f.0 (g ∷ x ∷ u ∷ []) (in_later x g (x ∷ u ∷ []) (in_first x (u ∷ [])))) refl in
      m.other (found.1.1 ∙ source_stays found.0 found.1.0)
