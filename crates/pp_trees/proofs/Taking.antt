-- The laws of a shape that speak of detaching a chain: a splice.
use Rattle.std.proofs.Common.{◌≡◌, ◌≢◌, inl, inr, ⊎_elim, ℕ, zero, suc, ◌+◌, ◌*◌, ◌%◌, ◌<◌, Bool, true, cond, List, [], ◌∷◌}
use Rattle.std.proofs.Common.{length, get_or, set}
use Rattle.std.proofs.Common.{refl, sym, ap, ◌∙◌, subst, arith, eq-eqb, ne_eqb}
use Rattle.std.specs.Prelude.{slice_get}
use Rattle.pp_link.specs.declared.layout.Sizes.{Sizes}
use Rattle.pp_link.specs.Links.{target, flag_bit, invalid_bit, leaf_bit}
use Rattle.pp_link.specs.Places.{IsNumber, cell_place}
use Rattle.pp_link.specs.Words.{head_word, cell_word}
use Rattle.pp_model.specs.declared.Change.{Change}
use Rattle.pp_model.specs.declared.Placed.{Placed}
use Rattle.pp_model.specs.History.{contents_of, Sound, Stands}
use Rattle.pp_rule.specs.Lists.{IsIn}
use Rattle.pp_rule.specs.Orders.{log_of, placed_by}
use Rattle.pp_rule.specs.declared.views.ChainLink.{ChainLink}
use Rattle.pp_rule.specs.Views.{slot, guarding}
use Rattle.pp_rule.specs.States.{RecordState, attached, in_hand, retired, owned, shelved, IsUsed, IsLinked, SameTarget, Held}
use Rattle.pp_rule.specs.Rule.{Base}
use Rattle.pp_rule.specs.Steps.{IsUnused}
use Rattle.pp_rule.specs.Detach.{IsFreeLink, Detaches, Detached}
use Rattle.pp_rule.specs.Laws.{Chained, MayDetach, KeptDetached}
use Rattle.pp_rule.proofs.Histories.{quiet_log, quiet_placed}
use Rattle.pp_rule.proofs.Put.{in_nil, in_cases}
use Rattle.pp_rule.proofs.OwnSteps.{own_quiet}
use Rattle.pp_trees.specs.declared.own.TreeOwn.{TreeOwn}
use Rattle.pp_trees.specs.Trees.{Heap, heap, across, HasChildren, HasNone, Internal, Leaf, Sane, SearchTree, Mapped, Cut, Spliced}
use Rattle.pp_trees.specs.TaggedPaths.{Passed, Joined, Taken, MaySplice, own_links, leaf_links, path_records, path_links}
use Rattle.pp_trees.specs.TaggedPaths.{path_chain}
use Rattle.pp_trees.specs.Searches.{TreePass, TreeState, Seated, Trees, MaySpliceHere, tree_chain, caller_of}
use Rattle.pp_trees.proofs.Walking.{across_low, is_linked, child_on}
use Rattle.pp_trees.proofs.Splicing.{tree_spliced, mapped_spliced}
use Rattle.pp_trees.proofs.Cutting.{cut_of, int, leaf_of, flag_of, distinct_path}
use Rattle.pp_rule.specs.Paths.{IsChainTo}
use Rattle.pp_trees.proofs.Ordering.{path_chained_all, numbered_of}
use Rattle.pp_trees.proofs.Chains.{records_taken, taken_records, once_records, link_of_path, pair_in}
use Rattle.pp_trees.proofs.Steady.{seated_on, lasting_spliced}
use Rattle.pp_rule.proofs.Learnt.{never_learnt}
use Rattle.pp_trees.proofs.Heaps.{sane_of, rewired_of}
use Rattle.pp_trees.proofs.Keeping.{grown_same, stands_same, in_use}
use Rattle.pp_trees.proofs.Remaining.{remains_spliced}

mod_four : (w : ℕ) → w % 16 ≡ 0 → w % 4 ≡ 0
mod_four w e = omega arith

module _ (z : Sizes) (words : List ℕ) (g : TreeState) (q : TreePass) (place first new : ℕ) (b : Base 2 z words g)
    (tr : Trees z words g)
    (pass : q.number < z.passes) (is : g.of q.number ≡ q) (may : MaySpliceHere z q.walk q.own place first new)
    (found : get_or words place 0 ≡ first) where
  abbrev t : Heap
  t = heap z words g.status

  sane : Sane z t
  sane = sane_of z words g b

  -- the ancestor
  abbrev pub a : ℕ
  a = (slot q may.word).named

  held : Held z words g.status (slot q may.word)
  held = subst (λ (v : TreePass). (slot v may.word).held ≡ true → Held z words g.status (slot v may.word)) is
      (b.hazards.held q.number may.word pass may.word_low) may.held

  seated : Seated z t (log_of g.order) (slot q) q.own
  seated = subst (λ (v : TreePass). Seated z t (log_of g.order) (slot v) v.own) is (tr.each q.number pass).seated

  link_is : t.link a may.side ≡ first
  unfolding cell_word
  link_is = ap (λ (k : ℕ). get_or words k 0) (sym may.at) ∙ found

  pub ancestor : Internal z t a
  ancestor = go (g.status a) refl held.used
    where
      children : IsLinked (g.status a) → HasChildren t a
      children l = ⊎_elim (λ (c : HasChildren t a). c) (λ (none : HasNone t a). absurd (may.some (sym (ap target link_is)
          ∙ none may.side may.side_low)))
          (tr.tree.sort a held.number l)

      go : (st : RecordState) → g.status a ≡ st → IsUsed st → Internal z t a
      go attached e u = record { number = held.number; on = e; children = children (subst IsLinked (sym e) tt) }
      go (in_hand p j) e u = let l : IsLinked (g.status a) = subst IsLinked (sym e) tt in
          let f = tr.tree.frozen a may.side held.number l (λ (on : g.status a ≡ attached). let bad : attached ≡ in_hand p j =
          sym on ∙ e in absurd cc) (children l) may.side_low in
          let plain = may.plain in absurd (f (let w = link_is in omega arith))
      go (retired p) e u = let s = b.links.spent a may.side p held.number may.side_low e in
          let bad : invalid_bit first ≡ 1 = sym (ap invalid_bit link_is) ∙ s.1 in
          let plain = may.plain in absurd (omega arith)
      go (owned p) e u = absurd u
      go (shelved j) e u = absurd u

  successor_on : t.state (slot q q.own.top).named ≡ attached
  successor_on = ap t.state (may.leads ∙ ap target (sym link_is)) ∙ (child_on z t sane tr.tree a may.side ancestor may.side_low).1

  pub may_splice : MaySplice z t a may.side new q.own.path
  may_splice = let plain = may.plain in let w = link_is in record {
    ancestor = ancestor;
    low = may.side_low;
    plain = (omega arith, omega arith);
    last = may.last;
    tagged = may.tagged;
    joined = subst (λ (x : ℕ). Joined x q.own.path may.last) (sym link_is) may.joined;
    intact = seated.intact may.top successor_on;
    new_is = may.new_is;
  }

  cut : Cut z t a may.side new (Taken q.own.path)
  cut = cut_of z t sane tr.tree a may.side new q.own.path may_splice

  -- the cell of the ancestor's edge is the only one at the place
  same_cell : (n f : ℕ) → IsNumber z n → f < 5 → cell_place z n f ≡ place → (n ≡ a) × (f ≡ 2 + may.side)
  same_cell n f number lt e = let n0 = number.0 in let a0 = held.number.0 in let low = may.side_low in
      let both : cell_place z n f ≡ cell_place z a (2 + may.side) = e ∙ may.at in (omega arith, omega arith)

  free_link : IsFreeLink z g place
  free_link = record {
    high = let at = may.at in let n0 = held.number.0 in let n1 = held.number.1 in let low = may.side_low in
        (omega arith, omega arith);
    holder = λ n f number lt e. let same = same_cell n f number lt e in let at = same.1 in
        (omega arith, omega arith, ap g.status same.0 ∙ ancestor.on);
    unlearnt = λ r i l low lt on at e. let h = b.hazards.held r i low lt on in let k = h.learnt l at in let two = k.0 in
        let same = same_cell (slot (g.of r) i).named (2 + l.0) h.number (omega arith) e in
        let side : l.0 ≡ may.side = let s1 = same.1 in omega arith in
        let now : cell_word words z (slot (g.of r) i).named (2 + l.0) ≡ first = ap (λ (n : ℕ). cell_word words z n
        (2 + l.0)) same.0 ∙ (ap (λ (s : ℕ). cell_word words z a (2 + s)) side ∙ link_is) in
        let plain = may.plain in never_learnt l.1 (cell_word words z (slot (g.of r) i).named (2 + l.0)) k.1 k.2 (ap (λ
        (x : ℕ). x % 4) now ∙ mod_four first plain);
  }

  heads_off : (h : ℕ) → h < z.heads → IsIn (target (head_word words z h)) (path_records q.own.path) → ⊥
  heads_off h lt i = go h lt (records_taken (target (head_word words z h)) q.own.path i)
    where
      go : (h : ℕ) → h < z.heads → Taken q.own.path (target (head_word words z h)) → ⊥
      go zero lt o = let high = cut.above (target (head_word words z 0)) o in
          let w : head_word words z 0 ≡ 16 = tr.tree.sentinels.head 0 lt in omega arith
      go (suc h) lt o = let high = cut.above (target (head_word words z (suc h))) o in
          let w : head_word words z (suc h) ≡ 0 = tr.tree.sentinels.head (suc h) lt in omega arith

  others_off : (n s : ℕ) → IsNumber z n → s < 2 → g.status n ≡ attached → (IsIn n (path_records q.own.path) → ⊥)
      → cell_place z n (2 + s) ≢ place
      → IsIn (target (cell_word words z n (2 + s))) (path_records q.own.path) → ⊥
  others_off n s number lt on out ne i = let o = records_taken (target (cell_word words z n (2 + s))) q.own.path i in ⊎_elim
      (λ (c : HasChildren t n). cut.outside n s record { number = number; on = on; children = c } lt (λ k. out
      (taken_records n q.own.path k))
      (λ at. ne (ap (λ (x : ℕ). cell_place z x (2 + s)) at.0 ∙ (ap (λ (x : ℕ). cell_place z a (2 + x)) at.1 ∙ sym may.at))) o)
      (λ (c : HasNone t n). let nil = c s lt in let high = cut.above (target (cell_word words z n (2 + s))) o in
      let e : target (cell_word words z n (2 + s)) ≡ 0 = nil in omega arith)
      (tr.tree.sort n number (is_linked (g.status n) on))

  -- each link of the chain is as the pass knows it
  links_are : (l : ChainLink) → IsIn l (path_links q.own.path)
      → IsIn l.number (path_records q.own.path) × (l.side < 2) × SameTarget l.word (cell_word words z l.number (2 + l.side))
  links_are l i = let y = link_of_path l q.own.path i in let c = y.0 in let at = y.1.0 in let h = may_splice.intact c at in
      let number = taken_records c.number q.own.path (c, (at, inl refl)) in
      let leaf = taken_records c.leaf q.own.path (c, (at, inr refl)) in
      let beside : SameTarget (16 * c.leaf + 9) (t.link c.number (across c.side)) = let to = h.beside in
      let flag = flag_of z t sane tr.tree a may.side new q.own.path may_splice c at in
      let f = tr.tree.flagged c.number (across c.side) (int z t sane tr.tree a may.side new q.own.path may_splice c at)
      (across_low c.side) flag in
      record { target_is = to ∙ nine c.leaf; flag_is = flag ∙ nine_flag c.leaf; leaf_is = f.0 ∙ nine_leaf c.leaf } in
      let own : SameTarget c.word (t.link c.number c.side) = record {
        target_is = ap target h.edge;
        flag_is = ap flag_bit
            h.edge;
        leaf_is = ap leaf_bit h.edge;
      } in ⊎_elim
      (λ (k : IsIn l (own_links c)). own_case c l h.low number own beside k)
      (λ (k : IsIn l (leaf_links c.leaf)). leaf_case c.leaf l leaf
      (leaf_of z t sane tr.tree a may.side new q.own.path may_splice c at).0 k)
      y.1.1
    where
      nine : (n : ℕ) → n ≡ target (16 * n + 9)
      nine n = omega arith

      nine_flag : (n : ℕ) → 1 ≡ flag_bit (16 * n + 9)
      nine_flag n = omega arith

      nine_leaf : (n : ℕ) → 1 ≡ leaf_bit (16 * n + 9)
      nine_leaf n = omega arith

      Known : ChainLink → Type 0
      Known l = IsIn l.number (path_records q.own.path) × (l.side < 2) × SameTarget l.word (cell_word words z l.number
          (2 + l.side))

      two_links : (l x y : ChainLink) → IsIn l (x ∷ y ∷ []) → (IsIn x.number (path_records q.own.path) × (x.side < 2)
          × SameTarget x.word (cell_word words z x.number (2 + x.side)))
          → (IsIn y.number (path_records q.own.path) × (y.side < 2) × SameTarget y.word (cell_word words z y.number (2 + y.side)))
          → IsIn l.number (path_records q.own.path) × (l.side < 2) × SameTarget l.word (cell_word words z l.number (2 + l.side))
      two_links l x y i at_x at_y = let P : ChainLink → Type 0 = λ v. IsIn v.number (path_records q.own.path) × (v.side < 2)
          × SameTarget v.word (cell_word words z v.number (2 + v.side)) in ⊎_elim
          (λ (e : l ≡ x). subst P (sym e) at_x)
          (λ (later : IsIn l (y ∷ [])). ⊎_elim (λ (e : l ≡ y). subst P (sym e) at_y) (λ (never : IsIn l []). absurd
          (in_nil l never)) (in_cases l y [] later)) (in_cases l x (y ∷ []) i)

      own_case : (c : Passed) (l : ChainLink) → c.side < 2 → IsIn c.number (path_records q.own.path)
          → SameTarget c.word (t.link c.number c.side)
          → SameTarget (16 * c.leaf + 9) (t.link c.number (across c.side)) → IsIn l (own_links c)
          → IsIn l.number (path_records q.own.path) × (l.side < 2) × SameTarget l.word (cell_word words z l.number (2 + l.side))
      own_case c l lt number own beside k = go c.side lt refl
        where
          go : (s : ℕ) → s < 2 → c.side ≡ s → IsIn l.number (path_records q.own.path) × (l.side < 2)
              × SameTarget l.word (cell_word words z l.number (2 + l.side))
          go zero lt e = two_links l (record { number = c.number; side = 0; word = c.word })
              (record { number = c.number; side = 1; word = 16 * c.leaf + 9 })
              (subst (λ (x : Bool). IsIn l (cond x (record { number = c.number; side = 0; word = c.word } ∷ record {
                number =
                    c.number;
                side = 1;
                word = 16 * c.leaf + 9;
              } ∷ [])
              (record { number = c.number; side = 0; word = 16 * c.leaf + 9 } ∷ record {
                number = c.number;
                side = 1;
                word =
                    c.word;
              } ∷ []))) (eq-eqb c.side 0 e) k)
              (number, omega arith, subst (λ (x : ℕ). SameTarget c.word (t.link c.number x)) e own)
              (number, omega arith, subst (λ (x : ℕ). SameTarget (16 * c.leaf + 9) (t.link c.number (across x))) e beside)
          go (suc zero) lt e = two_links l (record { number = c.number; side = 0; word = 16 * c.leaf + 9 })
              (record { number = c.number; side = 1; word = c.word })
              (subst (λ (x : Bool). IsIn l (cond x (record { number = c.number; side = 0; word = c.word } ∷ record {
                number =
                    c.number;
                side = 1;
                word = 16 * c.leaf + 9;
              } ∷ [])
              (record { number = c.number; side = 0; word = 16 * c.leaf + 9 } ∷ record {
                number = c.number;
                side = 1;
                word =
                    c.word;
              } ∷ []))) (ne_eqb c.side 0 (λ z0. omega arith)) k)
              (number, omega arith, subst (λ (x : ℕ). SameTarget (16 * c.leaf + 9) (t.link c.number (across x))) e beside)
              (number, omega arith, subst (λ (x : ℕ). SameTarget c.word (t.link c.number x)) e own)
          go (suc (suc s)) lt e = absurd (omega arith)

      leaf_case : (n : ℕ) (l : ChainLink) → IsIn n (path_records q.own.path) → Leaf z t n → IsIn l (leaf_links n)
          → IsIn l.number (path_records q.own.path) × (l.side < 2) × SameTarget l.word (cell_word words z l.number (2 + l.side))
      leaf_case n l number leaf k = two_links l (record { number = n; side = 0; word = 0 })
          (record { number = n; side = 1; word = 0 }) k (
            number,
            omega arith,
            let e = tr.tree.bare n 0 leaf (omega arith) in
                record { target_is = ap target e; flag_is = ap flag_bit e; leaf_is = ap leaf_bit e },
          ) (
            number,
            omega arith,
            let e = tr.tree.bare n 1 leaf (omega arith) in
                record { target_is = ap target e; flag_is = ap flag_bit e; leaf_is = ap leaf_bit e },
          )

  -- The chain stands in the order in which its links lead. It takes the facts of the table: where the successor isn't attached,
  -- the
  -- records that were passed may be others by now.
  pub splice_chained : (guard : ℕ) → IsChainTo 2 guard (target first) (target new) (path_chain q.own.path guard (target new))
  splice_chained guard = let plain = may.plain in let n = may.new_is.0 in path_chained_all guard first may.last
      (target new) q.own.path (omega arith) may.tagged may.joined (sym n)
      (numbered_of (target new) q.own.path (λ c i. let h = may_splice.intact c i in
      let l = (leaf_of z t sane tr.tree a may.side new q.own.path may_splice c i).0 in (
        (λ e. let one = h.number.0 in omega arith),
        (λ e. cut.frontier (c, (i, inl (sym e)))),
        (λ e. let one = l.number.0 in omega arith),
        (λ e. cut.frontier (c, (i, inr (sym e)))),
      )))

  module _ (guard : ℕ) where
    pub splice_detaches : guard < 4 → guarding q guard ≡ target new → IsUnused guard q
        → Detaches 2 z words g q (path_chain q.own.path guard (target new)) place (target new) new
    splice_detaches four names unused = record {
      members = λ n i. cut.on n (records_taken n q.own.path i);
      members_once = once_records q.own.path (distinct_path z t sane tr.tree a may.side new q.own.path may_splice);
      inside = λ n s i lt. let o = records_taken n q.own.path i in let on = cut.on n o in ⊎_elim
          (λ (c : HasChildren t n). ⊎_elim
          (λ (y : Taken q.own.path (target (t.link n s)) × (leaf_bit (t.link n s) ≡ 1
          → flag_bit (t.link n s) ≡ 1)). inr (inl (taken_records (target (t.link n s)) q.own.path y.0)))
          (λ (y : (target (t.link n s) ≡ target new) × (leaf_bit (t.link n s) ≡ leaf_bit new)
          × (flag_bit (t.link n s) ≡ flag_bit new)). inr (inr y.0))
          (cut.inside n s o record { number = on.0; on = on.1; children = c } lt))
          (λ (c : HasNone t n). inl (c s lt))
          (tr.tree.sort n on.0 (is_linked (g.status n) on.1));
      valid = λ n s i lt. pair_in n s (path_records q.own.path) i lt;
      links = links_are;
      heads = λ h lt ne i. heads_off h lt i;
      others = others_off;
      frontier = let l = cut.last.1.1 in let child = child_on z t sane tr.tree cut.last.0 cut.last.1.0 l.1 l.2 in
          inr (
            subst (IsNumber z) l.3 child.0,
            ap g.status (sym l.3) ∙ child.1,
            λ i. cut.frontier (records_taken
                (target new) q.own.path i),
          );
      new_is = (may.small, may.new_is.4, refl);
      place_is = free_link;
      stays = λ n f number lt e i. cut.stays (subst (Taken q.own.path) (same_cell n f number lt e).0
          (records_taken n q.own.path i));
      guard = four;
      named = names;
      unused = unused;
    }

  module _ (g' : TreeState) (guard : ℕ) (b' : Base 2 z (set words place new) g') (d : Detached z g g' q
      (path_chain q.own.path guard (target new))) where
    abbrev t' : Heap
    t' = heap z (set words place new) g'.status

    spliced : Spliced z t t' a may.side new (Taken q.own.path)
    spliced = record {
      wired = rewired_of z words g.status g'.status a may.side new place b.wide held.number may.side_low may.at;
      cut = cut;
      inside_state = λ n o. let e = d.inside n (taken_records n q.own.path o) in (
        subst IsLinked (sym e) tt,
        λ (on : g'.status n ≡ attached). let bad : attached ≡ in_hand q.number guard = sym on
            ∙ e in absurd cc,
      );
      outside_state = λ n out. d.outside n (λ i. out (records_taken n q.own.path i));
    }

    pub trees_spliced : Trees z (set words place new) g'
    trees_spliced = let sane' = sane_of z (set words place new) g' b' in let log = quiet_log g.order g'.order d.order in
        let tree' : SearchTree z t' = tree_spliced z t t' a may.side new (Taken q.own.path) sane tr.tree spliced in
        let map : Mapped z t' (contents_of (log_of g'.order)) = subst (λ (l : List Change). Mapped z t' (contents_of l)) (sym log)
        (mapped_spliced z t t' a may.side new (Taken q.own.path) sane tr.tree spliced (contents_of
        (log_of g.order)) tr.mapped) in
        record {
          sound = subst Sound (sym log) tr.sound;
          own_changes = own_quiet caller_of g.order g'.order d.order tr.own_changes;
          tree = tree';
          mapped = map;
          remains = remains_spliced z t t' a may.side new (Taken q.own.path) (λ p. (g.of p).own.left) (λ p.
              (g'.of p).own.left) sane tr.tree spliced
              (λ p low. ap (λ (o : TreeOwn). o.left) (d.passes p low).own) tr.remains;
          each = λ p low. let was = tr.each p low in let same = d.passes p low in
              let placed = quiet_placed p g.order g'.order d.order in
              let own = same.own in record {
                stands = subst (λ (l : List Change). Stands l p (placed_by p g'.order)) (sym log) (subst (Stands
                    (log_of g.order) p) (sym placed) was.stands);
                since = let s = was.since in let e = ap (λ (o : TreeOwn). o.start) own in
                    let l = ap (λ (x : List Change). length x) log in omega arith;
                earlier = λ on i x at. let s = was.earlier (sym (ap (λ (o : TreeOwn). o.going) own)
                    ∙ on) i x (ap (λ (l : List Placed). slice_get l i) (sym placed) ∙ at) in
                    let e = ap (λ (o : TreeOwn). o.start) own in omega arith;
                seated = seated_on z t t' (log_of g.order) (log_of g'.order) sane sane' tree'
                    (lasting_spliced z t t' sane tr.tree sane' a may.side new (Taken q.own.path) spliced)
                    (grown_same (log_of g.order) (log_of g'.order) log) map (slot (g.of p)) (slot (g'.of p)) (g.of p).own
                    (g'.of p).own
                    (in_use z words (set words place new) g g' b b' p low) (stands_same z t (log_of g.order) (g.of p)
                    (g'.of p) same was.seated) was.seated;
              };
        }

pub tree_detaches : MayDetach 2 (λ z words g. Trees z words g) tree_chain MaySpliceHere
tree_detaches z words g q place guard first new b tr pass is may four names unused found = splice_detaches z words g q place
    first new b tr pass is may found guard four names unused

pub tree_detached : KeptDetached 2 (λ z words g. Trees z words g) tree_chain MaySpliceHere
tree_detached z words g g' q place guard first new b b' pass is may found d looks tr = trees_spliced z words g q place first
    new b tr pass is may found g' guard b' looks

pub tree_chained : Chained 2 (λ z words g. Trees z words g) tree_chain MaySpliceHere
tree_chained z words g q place guard first new b tr pass is may found = splice_chained z words g q place first new b tr pass is
    may found guard
