-- A pass alone publishes its record, and no removed record can be reached.
use Rattle.std.proofs.Common.{◌≡◌, ℕ, ◌%◌, ◌⊎◌, inl, inr, ⊎_elim, true, List, get_or, set, refl, sym, ap}
use Rattle.std.proofs.Common.{◌∙◌, subst, arith}
use Rattle.pp_link.specs.declared.layout.Sizes.{Sizes}
use Rattle.pp_link.specs.Links.{target, flag_bit, word_of}
use Rattle.pp_link.specs.Places.{IsNumber}
use Rattle.pp_link.specs.Words.{head_word, cell_word}
use Rattle.pp_rule.specs.Lists.{IsIn}
use Rattle.pp_rule.specs.Rule.{Base}
use Rattle.pp_rule.specs.Reached.{Reached}
use Rattle.pp_rule.specs.Reached.Reached.{by_head}
use Rattle.pp_rule.specs.Views.{slot}
use Rattle.pp_base.specs.declared.purse.Purse.{Purse}
use Rattle.pp_base.specs.declared.source.Place.{Place}
use Rattle.pp_base.specs.declared.source.Place.TheVariants.{Head, Walk as Word}
use Rattle.pp_base.specs.declared.source.Side.TheVariants.{Left}
use Rattle.pp_base.specs.Sources.{source_place}
use Rattle.pp_lists.specs.Clean.{IsBare}
use Rattle.pp_lists.specs.Lists.{ListPass, ListState, Lists}
use Rattle.pp_lists.specs.Turns.{ListView}
use Rattle.pp_walk.specs.declared.walk.Found.{Found}
use Rattle.pp_walk.specs.Effects.{FillsAt, PublishesSo}
use Rattle.pp_walk.specs.Parts.{plain_link}
use Rattle.pp_walk.specs.Roles.{IsAnchor, IsPlain}
use Rattle.pp_walk.specs.Lone.{words_of, Sees}
use Rattle.pp_walk.proofs.Finding.{plain_target, plain_bits}
use Rattle.pp_walk.proofs.Lone.{run_of, state_at, held_attached, reached_at}
use Rattle.pp_walk.proofs.LoneStores.{step_words, cell_either, reached_set, reached_next}
use Rattle.pp_walk.specs.Bare.{LoneEnd}

module _ (z : Sizes) (f : Found) (n k value : ℕ) (p : Purse) (v u : ListView) (sv : Sees z v) (su : Sees z u) (lone : LoneEnd z f v)
    (key : ℕ) (anchored : IsAnchor z v.known key f.anchor) (plain : IsPlain f.end) (filled : FillsAt v.known p n k value f.end)
    (d : PublishesSo (source_place z v.known f.anchor Left) n k value (word_of f.end) v u true) where
  abbrev x : ℕ
  x = word_of (plain_link n)

  abbrev place : ℕ
  place = source_place z v.known f.anchor Left

  abbrev W : List ℕ
  W = words_of z v

  now_words : words_of z u ≡ set W place x
  now_words = step_words z _ v u lone.0.one sv.low (run_of z u su) (d.published.made.same (d.hit refl))

  plain_flag : (y : ℕ) → y % 16 ≡ 0 → flag_bit y ≡ 0
  plain_flag y even = omega arith

  module _ (g : ListState) (b : Base 1 z W g) (lists : Lists z W g) (is : g.of v.known.number ≡ v.known) where
    -- the record has the link to the end
    filled_link : cell_word W z n 2 ≡ word_of f.end
    filled_link = let mine : IsIn filled.was v.known.owned = (filled.index, filled.at) in
        let r = b.privates.reads v.known.number filled.was sv.low (subst (λ (q : ListPass). IsIn filled.was q.owned) (sym is) mine) in
        ap (λ (m : ℕ). cell_word W z m 2) (sym filled.number_is) ∙ (r.left ∙ filled.left)

    -- the end can be reached
    end_reached : (at : Place) → IsAnchor z v.known key at → get_or W (source_place z v.known at Left) 0 ≡ word_of f.end
        → Reached 1 z W (target (word_of f.end))
    unfolding cell_word head_word
    end_reached (Head h) a stands = by_head h a.0 (ap target stands)
    end_reached (Word i) a stands = let h = held_attached z v sv g b lists is lone.0 i a.0 a.1 in
        subst (λ (w : ℕ). Reached 1 z W (target w)) stands (reached_next z W (slot v.known i).named h.0
        (reached_at z v sv g b lists is (slot v.known i).named h.0 h.1))

    was_reached : (m : ℕ) → Reached 1 z (set W place x) m → Reached 1 z W m ⊎ (m ≡ n)
    was_reached = reached_set z W place x (λ (m : ℕ). Reached 1 z W m ⊎ (m ≡ n)) (λ m r. inl r) (inr (plain_target n))
        (λ m is_m known. inl (⊎_elim (λ (r : Reached 1 z W m). reached_next z W m is_m r)
        (λ (e : m ≡ n). subst (λ (w : ℕ). Reached 1 z W (target w)) (sym (ap (λ (j : ℕ). cell_word W z j 2) e ∙ filled_link))
        (end_reached f.anchor anchored lone.1.stands)) known))

    flag_then : (m : ℕ) → IsNumber z m → Reached 1 z W m ⊎ (m ≡ n) → flag_bit (cell_word W z m 2) ≡ 0
    flag_then m is_m (inl r) = lone.0.bare m is_m r
    flag_then m is_m (inr e) = ap flag_bit (ap (λ (j : ℕ). cell_word W z j 2) e ∙ filled_link) ∙ plain_flag (word_of f.end) plain

    flag_now : (m : ℕ) → IsNumber z m → Reached 1 z (set W place x) m → flag_bit (cell_word (set W place x) z m 2) ≡ 0
    flag_now m is_m r = ⊎_elim
        (λ (new : cell_word (set W place x) z m 2 ≡ x). ap flag_bit new ∙ plain_flag x (plain_bits n))
        (λ (old : cell_word (set W place x) z m 2 ≡ cell_word W z m 2). ap flag_bit old ∙ flag_then m is_m (was_reached m r))
        (cell_either z W place x m)

  pub published_bare : IsBare z (words_of z u)
  published_bare m is_m r = state_at z v sv lone.0.one (flag_bit (cell_word (words_of z u) z m 2)) 0 (λ g b lists is.
      ap (λ (ws : List ℕ). flag_bit (cell_word ws z m 2)) now_words
      ∙ flag_now g b lists is m is_m (subst (λ (ws : List ℕ). Reached 1 z ws m) now_words r))
