-- The exchange with which a remove or a cut takes effect: an edge to a leaf gets FLAG.
use Rattle.std.proofs.Common.{◌≡◌, ◌≢◌, inr, ℕ, zero, suc, ◌+◌, ◌%◌, ◌<◌, true, false, List, [], ◌∷◌, ◌++◌}
use Rattle.std.proofs.Common.{length, get_or, set, Some}
use Rattle.std.proofs.Common.{refl, sym, ap, ◌∙◌, subst, arith}
use Rattle.pp_link.specs.declared.layout.Sizes.{Sizes}
use Rattle.pp_link.specs.Links.{target, flag_bit, tag_bit, invalid_bit, leaf_bit}
use Rattle.pp_link.specs.Places.{IsNumber, cell_place}
use Rattle.pp_link.specs.Words.{cell_word}
use Rattle.pp_model.specs.declared.Change.{Change}
use Rattle.pp_model.specs.declared.Placed.{Placed}
use Rattle.pp_model.specs.declared.Call.{Call}
use Rattle.pp_model.specs.declared.Reply.TheVariants.{Took}
use Rattle.pp_model.specs.Lists.{AtEach}
use Rattle.pp_model.specs.FiniteMap.{find, drop_key}
use Rattle.pp_model.specs.Calls.{key_of, reply, changes, Takes, removes, cuts}
use Rattle.pp_model.specs.History.{contents_of, Sound, Stands, change_of}
use Rattle.pp_model.proofs.Maps.{takes_reply, takes_after}
use Rattle.pp_model.proofs.Histories.{contents_push, sound_change, stands_change}
use Rattle.pp_rule.specs.Lists.{without}
use Rattle.pp_rule.specs.Orders.{log_of, placed_by}
use Rattle.pp_rule.specs.declared.views.LoggedStep.{LoggedStep}
use Rattle.pp_rule.specs.declared.views.WalkSlot.{WalkSlot}
use Rattle.pp_rule.specs.Views.{value_of, halves, slot}
use Rattle.pp_rule.specs.States.{attached, Held}
use Rattle.pp_rule.specs.Rule.{Base}
use Rattle.pp_rule.specs.Steps.{entry}
use Rattle.pp_rule.specs.Changes.{Relinks}
use Rattle.pp_rule.specs.Looks.{StillHeld}
use Rattle.pp_rule.proofs.Stepping.{after_step}
use Rattle.pp_rule.proofs.Histories.{log_snoc, placed_here}
use Rattle.pp_rule.proofs.Relinking.{base_relinked}
use Rattle.pp_trees.specs.Trees.{Heap, heap, Internal, Sane, SearchTree, Mapped, Remains, Marked, inf0}
use Rattle.pp_trees.specs.Edges.{MayFlag, flagged_pass}
use Rattle.pp_trees.specs.Searches.{TreePass, TreeState, Seated, Searches, Trees}
use Rattle.pp_trees.proofs.Walking.{side_left, side_low, child_on}
use Rattle.pp_trees.proofs.Marking.{tree_marked, mapped_flagged}
use Rattle.pp_trees.proofs.Steady.{Lasting, lasting_marked, seated_on}
use Rattle.pp_rule.proofs.Learnt.{never_learnt}
use Rattle.pp_trees.proofs.Heaps.{sane_of, rewired_of}
use Rattle.pp_rule.proofs.Put.{put_here, put_else}
use Rattle.pp_trees.proofs.Remaining.{remains_flagged}
use Rattle.pp_trees.proofs.Stepping.{grown_more, holder_attached, trees_stepped}

takes_key : (c : Call) (k w : ℕ) → Takes c k w → key_of c ≡ k
takes_key c k w (removes _ _) = refl
takes_key c k w (cuts _ _) = refl

mod_four : (w : ℕ) → w % 16 ≡ 8 → w % 4 ≡ 0
mod_four w e = omega arith

module _ (z : Sizes) (words : List ℕ) (g : TreeState) (q : TreePass) (leaf place k first : ℕ) (b : Base 2 z words g)
    (tr : Trees z words g)
    (pass : q.number < z.passes) (is : g.of q.number ≡ q) (may : MayFlag z q leaf place k first)
    (found : get_or words place 0 ≡ first) where
  abbrev t : Heap
  t = heap z words g.status

  abbrev p : ℕ
  p = (slot q q.own.at).named

  abbrev s : ℕ
  s = may.side_is

  abbrev n : ℕ
  n = length (placed_by q.number g.order)

  abbrev pub change : Change
  change = change_of q.number (n + 1) q.own.call

  abbrev pub settled : Placed
  settled = record { call = q.own.call; reply = Took (value_of (slot q leaf).value); place = length (log_of g.order) + 1 }

  abbrev pub after : TreePass
  after = flagged_pass s (target first) q

  abbrev pub step : LoggedStep Change Placed
  step = entry 21 place first (first + 1) (change ∷ []) (settled ∷ []) g.order after

  abbrev pub g' : TreeState
  g' = after_step g after g.status step

  abbrev t' : Heap
  t' = heap z (set words place (first + 1)) g.status

  sane : Sane z t
  sane = sane_of z words g b

  held_of : (j : ℕ) → j < 5 → (slot q j).held ≡ true → Held z words g.status (slot q j)
  held_of j lt = subst (λ (v : TreePass). (slot v j).held ≡ true → Held z words g.status (slot v j)) is
      (b.hazards.held q.number j pass lt)

  mine : Searches z t (log_of g.order) q.number (slot q) q.own (placed_by q.number g.order)
  mine = subst (λ (v : TreePass). Searches z t (log_of g.order) q.number (slot v) v.own (placed_by q.number g.order)) is
      (tr.each q.number pass)

  low : s < 2
  low = subst (λ (x : ℕ). x < 2) (sym may.side_of) (side_low k (slot q q.own.at).key)

  held_p : Held z words g.status (slot q q.own.at)
  held_p = held_of q.own.at may.at (mine.seated.held may.at)

  held_l : Held z words g.status (slot q leaf)
  held_l = held_of leaf may.leaf_low may.leaf_held

  pub same_value : (j : ℕ) → j < 5 → (slot q j).held ≡ true → target first ≡ (slot q j).named → (slot q j).value ≡ (slot q leaf).value
  same_value j low on leads = let h = held_of j low on in
      sym h.value ∙ (ap (λ (n : ℕ). halves (cell_word words z n 1) (cell_word words z n 4)) (sym leads ∙ may.leaf_is) ∙ held_l.value)

  link_is : t.link p s ≡ first
  unfolding cell_word
  link_is = ap (λ (x : ℕ). get_or words x 0) (sym may.place_is) ∙ found

  l_is : target (t.link p s) ≡ (slot q leaf).named
  l_is = ap target link_is ∙ may.leaf_is

  some : target (t.link p s) ≢ 0
  some e = let one = held_l.number.0 in let l = l_is in omega arith

  parent : Internal z t p
  parent = let plain = may.plain in let l = link_is in holder_attached z words g b tr.tree (slot q q.own.at) s held_p low
      (omega arith) some

  pair : k < inf0
  pair = subst (λ (x : ℕ). x < inf0) (takes_key q.own.call k (value_of (slot q leaf).value) may.takes) (mine.seated.pair may.at)

  leaf_key : t.key (target (t.link p s)) ≡ k
  leaf_key = ap t.key l_is ∙ (held_l.key ∙ may.key)

  leaf_at : leaf_bit (t.link p s) ≡ 1
  leaf_at = let plain = may.plain in let l = link_is in omega arith

  marked : Marked z t t' p s (first + 1)
  marked = let plain = may.plain in let l = link_is in record {
    wired = rewired_of z words g.status g.status p s (first + 1) place b.wide parent.number low may.place_is;
    states = λ n. refl;
    number = parent.number;
    low = low;
    children = parent.children;
    to = to_one first plain ∙ ap target (sym link_is);
    leaf = leaf_one first plain ∙ ap leaf_bit (sym link_is);
    valid = valid_one first plain ∙ ap invalid_bit (sym link_is);
    still = λ e. flag_one first plain;
    inner = λ none. absurd (let one = leaf_one first plain in let was = leaf_at in let same = ap leaf_bit (sym link_is) in
        omega arith);
    fixed = λ e. absurd (omega arith);
    flags = λ on e. (
      leaf_one first plain ∙ (ap leaf_bit (sym link_is) ∙ leaf_at),
      subst (λ (x : ℕ). x < inf0) (sym (ap t.key (to_one first plain ∙ ap target (sym link_is)) ∙ leaf_key)) pair,
    );
    tags = λ on e. absurd (let none = tag_one first plain in omega arith);
  }
    where
      to_one : (w : ℕ) → w % 16 ≡ 8 → target (w + 1) ≡ target w
      to_one w e = omega arith

      leaf_one : (w : ℕ) → w % 16 ≡ 8 → leaf_bit (w + 1) ≡ leaf_bit w
      leaf_one w e = omega arith

      valid_one : (w : ℕ) → w % 16 ≡ 8 → invalid_bit (w + 1) ≡ invalid_bit w
      valid_one w e = omega arith

      flag_one : (w : ℕ) → w % 16 ≡ 8 → flag_bit (w + 1) ≡ 1
      flag_one w e = omega arith

      tag_one : (w : ℕ) → w % 16 ≡ 8 → tag_bit (w + 1) ≡ 0
      tag_one w e = omega arith

  -- an edge to a leaf of a pair, and no edge of the root
  not_root : p ≡ 1 → ⊥
  not_root e = let keys_are = tr.tree.sentinels.keys in let key1 :
      (slot q q.own.at).key ≡ 18446744073709551615 = sym held_p.key ∙ (ap t.key e ∙ keys_are.0) in let lt = pair in
      let left : s ≡ 0 = may.side_of ∙ side_left k (slot q q.own.at).key (omega arith) in
      let link : t.link p s ≡ 32 = ap (λ (x : ℕ). t.link x s) e ∙ (ap (t.link 1) left
      ∙ tr.tree.sentinels.left_of_root) in let leaf = leaf_at in omega arith

  not_s : (p ≡ 2) × (s ≡ 1) → ⊥
  not_s e = let keys_are = tr.tree.sentinels.keys in let key2 : (slot q q.own.at).key ≡ 18446744073709551614 = sym held_p.key
      ∙ (ap t.key e.0 ∙ keys_are.1) in let lt = pair in
      let left : s ≡ 0 = may.side_of ∙ side_left k (slot q q.own.at).key (omega arith) in let right = e.1 in omega arith

  have : find (contents_of (log_of g.order)) k ≡ Some (value_of (slot q leaf).value)
  have = let plain = may.plain in let l = link_is in
      ap (find (contents_of (log_of g.order))) (sym leaf_key) ∙ (tr.mapped.pairs p s parent low leaf_at
      (flag_off first plain l) (subst (λ (x : ℕ). x < inf0) (sym leaf_key) pair)
      ∙ ap Some (ap t.value l_is ∙ ap value_of held_l.value))
    where
      flag_off : (w : ℕ) → w % 16 ≡ 8 → t.link p s ≡ w → flag_bit (t.link p s) ≡ 0
      flag_off w e l = omega arith

  log_is : log_of g'.order ≡ log_of g.order ++ change ∷ []
  log_is = log_snoc g.order step

  replies : reply (contents_of (log_of g.order)) q.own.call ≡ Took (value_of (slot q leaf).value)
  replies = takes_reply (contents_of (log_of g.order)) q.own.call k (value_of (slot q leaf).value) may.takes have

  contents_is : contents_of (log_of g'.order) ≡ drop_key (contents_of (log_of g.order)) (t.key (target (t.link p s)))
  contents_is = ap contents_of log_is ∙ (contents_push (log_of g.order) change
      ∙ (takes_after (contents_of (log_of g.order)) q.own.call k (value_of (slot q leaf).value) may.takes have
      ∙ ap (drop_key (contents_of (log_of g.order))) (sym leaf_key)))

  relinks : Relinks z g place (first + 1)
  relinks = let plain = may.plain in record {
    place_is = record {
      high = let at = may.place_is in let n0 = parent.number.0 in let n1 = parent.number.1 in let two = low in
          (omega arith, omega arith);
      holder = λ m f number lt e. let same = same_cell m f number lt e in let at = same.1 in let two = low in
          (omega arith, omega arith, ap g.status same.0 ∙ parent.on);
      unlearnt = λ r i l below lt on at e. let h = b.hazards.held r i below lt on in let y = h.learnt l at in let two = y.0 in
          let same = same_cell (slot (g.of r) i).named (2 + l.0) h.number (omega arith) e in
          let side_same : l.0 ≡ s = let s1 = same.1 in omega arith in
          let now : cell_word words z (slot (g.of r) i).named (2 + l.0) ≡ first = ap (λ (x : ℕ). cell_word words z x
          (2 + l.0)) same.0 ∙ (ap (λ (x : ℕ). cell_word words z p (2 + x)) side_same ∙ link_is) in
          never_learnt l.1 (cell_word words z (slot (g.of r) i).named (2 + l.0)) y.1 y.2 (ap (λ (x : ℕ). x % 4) now
          ∙ mod_four first plain);
    };
    leads = let child = child_on z t sane tr.tree p s parent low in let to : target (t.link p s) ≡ target
        (first + 1) = ap target link_is ∙ one first plain in record {
          small = even first may.small plain;
          valid = valid_one first plain;
          to = inr (subst (λ (x : ℕ). IsNumber z x × (g.status x ≡ attached)) to child);
        };
  }
    where
      one : (w : ℕ) → w % 16 ≡ 8 → target w ≡ target (w + 1)
      one w e = omega arith

      even : (w : ℕ) → w < 68719476736 → w % 16 ≡ 8 → w + 1 < 68719476736
      even w small e = omega arith

      valid_one : (w : ℕ) → w % 16 ≡ 8 → invalid_bit (w + 1) ≡ 0
      valid_one w e = omega arith

      same_cell : (m f : ℕ) → IsNumber z m → f < 5 → cell_place z m f ≡ place → (m ≡ p) × (f ≡ 2 + s)
      same_cell m f number lt e = let n0 = number.0 in let a0 = parent.number.0 in let two = low in
          let both : cell_place z m f ≡ cell_place z p (2 + s) = e ∙ may.place_is in (omega arith, omega arith)

  pub base_flagged : Base 2 z (set words place (first + 1)) g'
  base_flagged = base_relinked 2 z words g q after place (first + 1) step b pass is
      record {
        rest = record {
          number = refl;
          sizes = refl;
          retired_are = refl;
          walk = refl;
          frontier = refl;
          chains = refl;
          scan = refl;
        };
        owned = refl;
      } relinks

  pub trees_flagged : Trees z (set words place (first + 1)) g'
  trees_flagged = let b' = base_flagged in let sane' = sane_of z (set words place (first + 1)) g' b' in
      let tree' : SearchTree z t' = tree_marked z t t' p s (first + 1) sane tr.tree marked not_root not_s in
      let map : Mapped z t' (contents_of (log_of g'.order)) = subst (Mapped z t') (sym contents_is)
      (mapped_flagged z t t' p s (first + 1) sane tr.tree marked parent leaf_at (odd first may.plain) (contents_of
      (log_of g.order)) tr.mapped) in
      let lasting : Lasting z t t' = lasting_marked z t t' sane tr.tree p s (first + 1) marked (inr parent.on) in
      let remains : Remains z t' (λ r. (g'.of r).own.left) = remains_flagged z t t' p s
      (first + 1) sane tr.tree marked q.number (λ r. (g.of r).own.left) (λ r. (g'.of r).own.left) pass parent
      (odd first may.plain) (ap (λ (v : TreePass). v.own.left) (put_here g.of q.number after)
      ∙ (ap (λ (x : ℕ). x ∷ without x q.own.left) (sym (even first may.plain))
      ∙ ap (λ (v : TreePass). target (first + 1) ∷ without (target (first + 1)) v.own.left) (sym is)))
      (λ r ne. ap (λ (v : TreePass). v.own.left) (put_else g.of q.number after r ne)) tr.remains in
      let right : changes (reply (contents_of (log_of g.order)) q.own.call) ≡ true = ap changes replies in
      trees_stepped z words (set words place (first + 1)) g q after g.status step b b' tr pass refl only_change
      (subst Sound (sym log_is) (sound_change (log_of g.order) change tr.sound right)) tree' map remains lasting record {
        stands = subst (λ (l : List Change). Stands l q.number (placed_by q.number g'.order)) (sym log_is)
            (subst (Stands (log_of g.order ++ change ∷ []) q.number) (sym (placed_here g.order step)) (stands_change
            (log_of g.order) q.number (placed_by q.number g.order) settled mine.stands refl replies refl));
        since = let s = mine.since in let more = (grown_more (log_of g.order) (log_of g'.order)
            (change ∷ []) log_is).longer in omega arith;
        earlier = λ on i x at. absurd (false_true on);
        seated = flag_on (seated_on z t t' (log_of g.order) (log_of g'.order) sane sane' tree' lasting (grown_more
            (log_of g.order) (log_of g'.order) (change ∷ []) log_is) map
            (slot q) (slot q) q.own (record q.own { going = false; left = after.own.left })
            (λ j lt held still. let h = held_of j lt held in record { number = h.number; used = h.used; used' = h.used })
            record {
              call = refl;
              start = refl;
              flag = refl;
              beside = refl;
              at = λ lt. (refl, self (slot q q.own.at) (mine.seated.held lt));
              top = λ lt. (refl, refl, self (slot q q.own.top) (mine.seated.top_held lt));
            } mine.seated);
      }
    where
      odd : (w : ℕ) → w % 16 ≡ 8 → flag_bit (w + 1) ≡ 1
      odd w e = omega arith

      even : (w : ℕ) → w % 16 ≡ 8 → target (w + 1) ≡ target w
      even w e = omega arith

      -- the edge that has FLAG now is known
      flag_on : Seated z t' (log_of g'.order) (slot q) (record q.own { going = false; left = after.own.left })
          → Seated z t' (log_of g'.order) (slot q) after.own
      flag_on y = record {
        held = y.held;
        since = y.since;
        pair = y.pair;
        standing = y.standing;
        flag = λ lt two. ap flag_bit marked.wired.there ∙ odd first may.plain;
        beside = λ lt two. ap target marked.wired.there ∙ even first may.plain;
        top_held = y.top_held;
        joined = y.joined;
        intact = y.intact;
      }

      false_true : false ≡ true → ⊥
      false_true e = cc

      only_change : AtEach (change ∷ []) (λ i c. c.caller ≡ q.number)
      only_change zero c e = cc
      only_change (suc i) c e = absurd cc

      self : (w : WalkSlot) → w.held ≡ true → StillHeld w w
      self w h = record { held = h; named = refl; key = refl; value = refl; learnt = λ l i. i }
