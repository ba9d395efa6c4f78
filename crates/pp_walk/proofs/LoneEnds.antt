-- Where a walk of a pass ends that is alone on its pool, where no record that can be reached is removed: nothing is gathered, and the
-- anchor's link leads to the end.
use Rattle.std.proofs.Common.{◌≡◌, ◌≢◌, ℕ, ◌<◌, ⊎_elim, true, false, Bool, List, [], ◌∷◌, get_or, refl, sym, ap, ◌∙◌, subst, arith, ◌%◌}
use Rattle.pp_link.specs.declared.layout.Sizes.{Sizes}
use Rattle.pp_link.specs.Links.{target, flag_bit, word_of}
use Rattle.pp_link.specs.Places.{cell_place}
use Rattle.pp_link.specs.Words.{head_word, cell_word}
use Rattle.pp_model.specs.Calls.{key_of}
use Rattle.pp_model.specs.declared.Call.{Call}
use Rattle.pp_rule.specs.Views.{slot}
use Rattle.pp_rule.specs.Rule.{Base}
use Rattle.pp_base.specs.declared.source.Place.{Place}
use Rattle.pp_base.specs.declared.source.Place.TheVariants.{Head, Walk as Word}
use Rattle.pp_base.specs.declared.source.Side.TheVariants.{Left}
use Rattle.pp_base.specs.Sources.{source_place}
use Rattle.pp_lists.specs.declared.own.Gathered.{Gathered}
use Rattle.pp_lists.specs.Lists.{ListPass, ListState, Lists, Gathering}
use Rattle.pp_lists.specs.Walks.{Heap, heap, Joined, Intact}
use Rattle.pp_lists.specs.Walks.Joined.{more}
use Rattle.pp_lists.specs.Turns.{ListView}
use Rattle.pp_walk.specs.declared.walk.Walk.{Walk}
use Rattle.pp_walk.specs.declared.walk.Found.{Found}
use Rattle.pp_walk.specs.Roles.{IsWalk, IsUnder, IsAnchor, IsEnd, HasGathered, nothing, chained, IsFound, HasChain, no_chain, a_chain}
use Rattle.pp_walk.specs.Roles.{at_nil, at_record}
use Rattle.pp_walk.specs.Turns.{Arrives}
use Rattle.pp_walk.specs.Lone.{words_of, Sees, IsLone, IsOwn, IsStanding}
use Rattle.pp_walk.proofs.Lone.{state_at, held_at, held_attached, live_at, source_same, source_at, own_place, same_words, first_stands}

-- the first record of a chain that stands has FLAG
gathered_flag : (z : Sizes) (t : Heap) (n x : ℕ) (cs : List Gathered) → Joined n cs x → Intact z t cs → cs ≢ [] → flag_bit (t.link n) ≡ 1
unfolding Intact
gathered_flag z t n x [] joined intact some = absurd (some refl)
gathered_flag z t n x (c ∷ cs) (more ne number flag valid rest) intact some =
    ap (λ (k : ℕ). flag_bit (t.link k)) (sym number) ∙ (ap flag_bit intact.2 ∙ flag)

module _ (z : Sizes) (v : ListView) (s : Sees z v) (lone : IsLone z v) where
  -- nothing is gathered
  pub gathers_none : v.known.own.first < 5 → v.known.own.chain ≢ [] → ⊥
  gathers_none low some = bad (state_at z v s lone.one 1 0 (λ g b lists is.
      let gathers : Gathering z (heap z (words_of z v) g.status) (slot v.known) v.known.own.first v.known.own.chain =
      subst (λ (q : ListPass). Gathering z (heap z (words_of z v) g.status) (slot q) q.own.first q.own.chain) is
      (lists.each v.known.number s.low).gathering in
      let held = gathers.held low in let joined = gathers.joined low in
      let a = held_attached z v s g b lists is lone v.known.own.first low held in
      sym (gathered_flag z (heap z (words_of z v) g.status) (slot v.known v.known.own.first).named joined.0 v.known.own.chain joined.1
      (gathers.intact low a.1) some) ∙ lone.held v.known.own.first low held))
    where
      bad : ◌≡◌ {A = ℕ} 1 0 → ⊥
      bad e = omega arith

  -- so the call stands at its anchor
  pub at_anchor : (w : Walk) → IsWalk z v.known w → w.anchor ≡ w.at
  at_anchor w is = by w.fresh is.under
    where
      on : HasGathered v.known w.at w.anchor → w.anchor ≡ w.at
      on (nothing f c same) = same
      on (chained i link e low held apart first some_made learnt flag joined) = absurd (gathers_none low some_made)

      by : (b : Bool) → IsUnder b z v.known w → w.anchor ≡ w.at
      by true u = u.2 ∙ sym u.1
      by false u = on u.0.gathered

  -- and what was found is the end alone
  pub found_end : (call : Call) (f : Found) → IsFound z v.known call f → (f.first ≡ f.end) × (f.chain ≡ 0)
  found_end call f is = by is.chain
    where
      by : HasChain v.known f → (f.first ≡ f.end) × (f.chain ≡ 0)
      by (no_chain first chain count same) = (same, count)
      by (a_chain low held apart some leads joined count) = absurd (gathers_none low some)

  -- the word at a source has no bits
  source_plain : (g : ListState) (b : Base 1 z (words_of z v) g) (lists : Lists z (words_of z v) g) (is : g.of v.known.number ≡ v.known)
      (at : Place) → IsOwn z v.known at → get_or (words_of z v) (source_place z v.known at Left) 0 % 16 ≡ 0
  unfolding cell_word head_word
  source_plain g b lists is (Head h) own = lists.listed.bare (source_at v.known (Head h)) own
  source_plain g b lists is (Word i) own =
      let few = lists.listed.bare (source_at v.known (Word i)) (live_at z v s g b lists is lone (Word i) own) in
      let plain = lone.held i own.0 own.1 in plain_of (cell_word (words_of z v) z (slot v.known i).named 2) few plain
    where
      plain_of : (x : ℕ) → x % 16 < 2 → flag_bit x ≡ 0 → x % 16 ≡ 0
      plain_of x few plain = omega arith

-- The anchor's link is what leads to the end.
module _ (z : Sizes) (was : Walk) (f : Found) (v w : ListView) (sv : Sees z v) (sw : Sees z w) (is : IsWalk z v.known was)
    (a : Arrives z was f v w) (lone : IsLone z v) where
  own_at : IsOwn z v.known was.at
  own_at = own_place z v.known was is

  anchor_at : f.anchor ≡ was.at
  anchor_at = a.anchor_is ∙ at_anchor z v sv lone was is

  module _ (g : ListState) (b : Base 1 z (words_of z w) g) (lists : Lists z (words_of z w) g) (now : g.of w.known.number ≡ w.known) where
    -- the anchor isn't the record to which its link leads
    not_next : (i : ℕ) → IsAnchor z w.known (key_of was.call) (Word i) → (slot w.known i).named ≡ target a.turned.first → ⊥
    not_next i anchored new = by a.found.end
      where
        by : IsEnd z w.known (key_of was.call) f → ⊥
        by (at_nil nil word equal marked) = let some = (held_at z w sw g b lists now i anchored.0 anchored.1).number.0 in
            let to = a.end_is in omega arith
        by (at_record some low held named above equal apart other stands) =
            let same : (slot w.known f.word).named ≡ (slot w.known i).named = named ∙ (a.end_is ∙ sym new) in
            let here = (held_at z w sw g b lists now i anchored.0 anchored.1).key in
            let there = (held_at z w sw g b lists now f.word low held).key in
            let keys : (slot w.known f.word).key ≡ (slot w.known i).key =
            sym there ∙ (ap (λ (n : ℕ). cell_word (words_of z w) z n 0) same ∙ here) in
            let below = anchored.2 in omega arith

    place_same : (at : Place) → IsAnchor z w.known (key_of was.call) at
        → source_place z w.known at Left ≡ source_place z v.known at Left
    place_same (Head h) anchored = refl
    place_same (Word i) anchored = ⊎_elim
        (λ (new : (slot w.known i).named ≡ target a.turned.first). absurd (not_next i anchored new))
        (λ (old : ((slot v.known i).held ≡ true) × ((slot w.known i).named ≡ (slot v.known i).named)).
        ap (λ (n : ℕ). cell_place z n 2) old.1) (a.turned.names i anchored.0 anchored.1)

    anchor_place : source_place z w.known f.anchor Left ≡ source_place z v.known was.at Left
    anchor_place = place_same f.anchor a.found.anchored ∙ ap (λ (p : Place). source_place z v.known p Left) anchor_at

  first_is : a.turned.first ≡ get_or (words_of z v) (source_place z v.known was.at Left) 0
  first_is = first_stands z was 0 a.calls a.own v w sv sw own_at a.turned lone

  pub lone_arrives : IsStanding z (source_place z w.known f.anchor Left) (word_of f.end) w
  lone_arrives = record {
    one = lone.one;
    stands = state_at z v sv lone.one (get_or (words_of z w) (source_place z w.known f.anchor Left) 0) (word_of f.end) (λ g b lists was_is.
        state_at z w sw lone.one (get_or (words_of z w) (source_place z w.known f.anchor Left) 0) (word_of f.end) (λ g' b' lists' now.
        ap (λ (p : ℕ). get_or (words_of z w) p 0) (anchor_place g' b' lists' now)
        ∙ (source_same z v sv g b lists was_is lone (words_of z w)
        (same_words z was 0 a.calls a.own v w sv sw own_at a.turned lone) was.at own_at
        ∙ (sym first_is ∙ same_word a.turned.first (word_of f.end)
        (ap (λ (x : ℕ). x % 16) first_is ∙ source_plain z v sv lone g b lists was_is was.at own_at) a.found.plain_end a.end_is))));
  }
    where
      same_word : (x y : ℕ) → x % 16 ≡ 0 → y % 16 ≡ 0 → target y ≡ target x → x ≡ y
      same_word x y plain plain' to = omega arith
