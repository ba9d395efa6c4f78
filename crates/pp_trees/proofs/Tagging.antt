-- The or-step that sets TAG in an edge of the record where a call stands, attached or not.
use Rattle.std.proofs.Common.{◌≡◌, inl, ⊎_elim, ℕ, ◌+◌, ◌<◌, true, List, [], length, set, bit_or}
use Rattle.std.proofs.Common.{refl, sym, ap, ◌∙◌, subst, arith, append-nil}
use Rattle.std.specs.Prelude.{slice_get}
use Rattle.pp_link.specs.declared.layout.Sizes.{Sizes}
use Rattle.pp_link.specs.Links.{target, flag_bit, tag_bit, invalid_bit, leaf_bit}
use Rattle.pp_link.specs.Places.{cell_place}
use Rattle.pp_link.specs.Words.{cell_word}
use Rattle.pp_model.specs.declared.Change.{Change}
use Rattle.pp_model.specs.declared.Placed.{Placed}
use Rattle.pp_model.specs.History.{contents_of, Sound, Stands}
use Rattle.pp_rule.specs.Lists.{IsIn}
use Rattle.pp_rule.specs.Orders.{log_of, placed_by}
use Rattle.pp_rule.specs.declared.views.LoggedStep.{LoggedStep}
use Rattle.pp_rule.specs.declared.views.WalkSlot.{WalkSlot}
use Rattle.pp_rule.specs.Views.{slot}
use Rattle.pp_rule.specs.States.{attached, Held}
use Rattle.pp_rule.specs.Rule.{Base}
use Rattle.pp_rule.specs.Steps.{entry}
use Rattle.pp_rule.specs.Looks.{StillHeld}
use Rattle.pp_rule.proofs.Stepping.{after_step}
use Rattle.pp_rule.proofs.Histories.{log_snoc, placed_here}
use Rattle.pp_rule.proofs.Tagging.{tag_set, base_tagged}
use Rattle.pp_trees.specs.Trees.{Heap, heap, side, across, edge, Meets, root, down, HasChildren, Internal, Sane, SearchTree}
use Rattle.pp_trees.specs.Trees.{Mapped, Remains, Marked, inf0}
use Rattle.pp_trees.specs.TaggedPaths.{Passed}
use Rattle.pp_trees.specs.Edges.{MayTag, tagged_pass}
use Rattle.pp_trees.specs.Searches.{TreePass, TreeState, Seated, Searches, Trees}
use Rattle.pp_trees.proofs.Walking.{across_low, across_apart, each_side, side_left, one_end}
use Rattle.pp_trees.proofs.Marking.{tree_marked, mapped_tagged}
use Rattle.pp_trees.proofs.Steady.{Lasting, lasting_marked, seated_on}
use Rattle.pp_trees.proofs.Heaps.{sane_of, rewired_of}
use Rattle.pp_trees.proofs.Seeking.{joined_more, intact_more, path_end}
use Rattle.pp_trees.proofs.Remaining.{remains_tagged}
use Rattle.pp_rule.proofs.Put.{put_each}
use Rattle.pp_trees.proofs.Stepping.{grown_more, trees_stepped}

module _ (z : Sizes) (words : List ℕ) (g : TreeState) (q : TreePass) (place sd : ℕ) (b : Base 2 z words g) (tr : Trees z words g)
    (pass : q.number < z.passes) (is : g.of q.number ≡ q) (may : MayTag z q place sd) where
  abbrev t : Heap
  t = heap z words g.status

  abbrev p : ℕ
  p = (slot q q.own.at).named

  -- the word that is found, and the one that is left
  abbrev w : ℕ
  w = cell_word words z p (2 + sd)

  abbrev w' : ℕ
  w' = bit_or w 2

  abbrev pub passed : Passed
  passed = record { number = p; side = sd; word = w'; leaf = target (t.link p (across sd)) }

  abbrev pub after : TreePass
  after = tagged_pass passed q

  abbrev pub step : LoggedStep Change Placed
  step = entry 22 place w w' [] [] g.order after

  abbrev pub g' : TreeState
  g' = after_step g after g.status step

  abbrev words' : List ℕ
  words' = set words (cell_place z p (2 + sd)) w'

  abbrev t' : Heap
  t' = heap z words' g.status

  sane : Sane z t
  sane = sane_of z words g b

  held_of : (j : ℕ) → j < 5 → (slot q j).held ≡ true → Held z words g.status (slot q j)
  held_of j lt = subst (λ (v : TreePass). (slot v j).held ≡ true → Held z words g.status (slot v j)) is
      (b.hazards.held q.number j pass lt)

  mine : Searches z t (log_of g.order) q.number (slot q) q.own (placed_by q.number g.order)
  mine = subst (λ (v : TreePass). Searches z t (log_of g.order) q.number (slot v) v.own (placed_by q.number g.order)) is
      (tr.each q.number pass)

  held_p : Held z words g.status (slot q q.own.at)
  held_p = held_of q.own.at may.at (mine.seated.held may.at)

  children : HasChildren t p
  children = (mine.seated.standing may.at).children

  internal : t.state p ≡ attached → Internal z t p
  internal on = record { number = held_p.number; on = on; children = children }

  -- all but TAG is as it was
  record Same : Type 0 where
    to : target w' ≡ target w
    leaf : leaf_bit w' ≡ leaf_bit w
    flag : flag_bit w' ≡ flag_bit w
    valid : invalid_bit w' ≡ invalid_bit w
    tag : tag_bit w' ≡ 1
    fixed : tag_bit w ≡ 1 → w' ≡ w

  same : Same
  same = ⊎_elim
      (λ (y : (tag_bit w ≡ 1) × (bit_or w 2 ≡ w)). let e = y.1 in record {
        to = ap target e;
        leaf = ap leaf_bit e;
        flag = ap
            flag_bit e;
        valid = ap invalid_bit e;
        tag = ap tag_bit e ∙ y.0;
        fixed = λ one. e;
      })
      (λ (y : (tag_bit w ≡ 0) × (bit_or w 2 ≡ w + 2)). let e = y.1 in let off = y.0 in
      record {
        to = ap target e ∙ to_two w off;
        leaf = ap leaf_bit e ∙ leaf_two w off;
        flag = ap flag_bit e
            ∙ flag_two w off;
        valid = ap invalid_bit e ∙ valid_two w off;
        tag = ap tag_bit e ∙ tag_two w off;
        fixed = λ one. absurd (omega arith);
      })
      (tag_set w)
    where
      to_two : (n : ℕ) → tag_bit n ≡ 0 → target (n + 2) ≡ target n
      to_two n e = omega arith

      leaf_two : (n : ℕ) → tag_bit n ≡ 0 → leaf_bit (n + 2) ≡ leaf_bit n
      leaf_two n e = omega arith

      flag_two : (n : ℕ) → tag_bit n ≡ 0 → flag_bit (n + 2) ≡ flag_bit n
      flag_two n e = omega arith

      valid_two : (n : ℕ) → tag_bit n ≡ 0 → invalid_bit (n + 2) ≡ invalid_bit n
      valid_two n e = omega arith

      tag_two : (n : ℕ) → tag_bit n ≡ 0 → tag_bit (n + 2) ≡ 1
      tag_two n e = omega arith

  beside_flagged : t.state p ≡ attached → flag_bit (t.link p (across sd)) ≡ 1
  beside_flagged on = ⊎_elim
      (λ (e : q.own.flag ≡ across sd). subst (λ (r : ℕ). flag_bit (t.link p r) ≡ 1) e (mine.seated.flag may.at (subst (λ
      (r : ℕ). r < 2) (sym e) (across_low sd))))
      (λ (y : (v : ℕ) × ((tag_bit v ≡ 1) × IsIn {A = ℕ × ℕ} (sd, v) (slot q q.own.at).learnt)).
      tr.tree.tagged p sd (internal on) may.low ((held_p.learnt (sd, y.0) y.1.1).1.tag y.1.0))
      may.read

  -- the leaf beside, where FLAG is known there
  pub passed_beside : q.own.flag ≡ across sd → passed.leaf ≡ q.own.beside
  passed_beside e = ap (λ (r : ℕ). target (t.link p r)) (sym e)
      ∙ mine.seated.beside may.at (subst (λ (r : ℕ). r < 2) (sym e) (across_low sd))

  -- Neither R nor the right edge of S is tagged: no edge of R is flagged, and the left one of S isn't, since the leaf inf0 is
  -- there.
  not_root : p ≡ 1 → ⊥
  not_root e = each_side (λ (r : ℕ). flag_bit (t.link 1 r) ≡ 1 → ⊥) (λ f. let l = tr.tree.sentinels.left_of_root in omega arith)
      (λ f. let l = tr.tree.sentinels.right_of_root in omega arith) (across sd) (across_low sd)
      (subst (λ (x : ℕ). flag_bit (t.link x (across sd)) ≡ 1) e (beside_flagged (ap t.state e
      ∙ tr.tree.sentinels.on 1 (omega arith) (omega arith))))

  not_s : (p ≡ 2) × (sd ≡ 1) → ⊥
  not_s e = let st = tr.tree.sentinels in let on : t.state p ≡ attached = ap t.state e.0 ∙ st.on 2 (omega arith) (omega arith) in
      let flag : flag_bit (t.link 2 0) ≡ 1 = ap (λ (x : ℕ). flag_bit (t.link 2 (across x))) (sym e.1)
      ∙ (ap (λ (x : ℕ). flag_bit (t.link x (across sd))) (sym e.0) ∙ beside_flagged on) in
      let s_is : Internal z t 2 = subst (Internal z t) e.0 (internal on) in let f = tr.tree.flagged 2 0 s_is (omega arith) flag in
      let root_edge : edge t inf0 1 ≡ 32 = ap (t.link 1) (side_left inf0 (t.key 1) (let k1 = st.keys.0 in omega arith))
      ∙ st.left_of_root in
      let at2 : Meets t inf0 2 = down (root refl) (ap leaf_bit root_edge) (sym (ap target root_edge)) in
      let side2 : side inf0 (t.key 2) ≡ 0 = side_left inf0 (t.key 2) (let k2 = st.keys.1 in omega arith) in
      let leaf2 : leaf_bit (edge t inf0 2) ≡ 1 = ap (λ (x : ℕ). leaf_bit (t.link 2 x)) side2 ∙ f.0 in
      let many = sane.records in let h = tr.tree.leaf_home 3 record {
        number = (omega arith, omega arith);
        on = st.on 3
            (omega arith) (omega arith);
        none = st.leaf3;
      } in
      let k3 : t.key 3 ≡ inf0 = st.keys.2 in
      let m3 : Meets t inf0 h.parent = subst (λ (x : ℕ). Meets t x h.parent) k3 h.meets in
      let l3 : leaf_bit (edge t inf0 h.parent) ≡ 1 = ap (λ (x : ℕ). leaf_bit (edge t x h.parent)) (sym k3) ∙ h.leaf in
      let same : h.parent ≡ 2 = one_end t inf0 h.parent 2 m3 l3 at2 leaf2 in
      let three : target (t.link 2 0) ≡ 3 = ap (λ (x : ℕ). target (t.link 2 x)) (sym side2)
      ∙ (ap (λ (x : ℕ). target (edge t inf0 x)) (sym same)
      ∙ (ap (λ (x : ℕ). target (edge t x h.parent)) (sym k3) ∙ h.to)) in
      let low = f.1 in let key : t.key (target (t.link 2 0)) ≡ inf0 = ap t.key three ∙ k3 in omega arith

  marked : Marked z t t' p sd w'
  marked = let s = same in record {
    wired = rewired_of z words g.status g.status p sd w' (cell_place z p (2 + sd)) b.wide held_p.number may.low refl;
    states = λ n. refl;
    number = held_p.number;
    low = may.low;
    children = children;
    to = s.to;
    leaf = s.leaf;
    valid = s.valid;
    still = λ e. s.flag ∙ e;
    inner = λ none. s.flag;
    fixed = s.fixed;
    flags = λ on e. let f = tr.tree.flagged p sd (internal on) may.low (sym s.flag ∙ e) in (
      s.leaf
          ∙ f.0,
      subst (λ (x : ℕ). t.key x < inf0) (sym s.to) f.1,
    );
    tags = λ on e. beside_flagged on;
  }

  -- Base speaks of the place of the word
  pub base_tag : Base 2 z words' g'
  base_tag = base_tagged 2 z words g p sd b held_p.number held_p.used may.low q after step pass is
      record {
        rest = record {
          number = refl;
          sizes = refl;
          retired_are = refl;
          walk = refl;
          frontier = refl;
          chains = refl;
          scan = refl;
        };
        owned = refl;
      }

  log_is : log_of g'.order ≡ log_of g.order
  log_is = log_snoc g.order step ∙ append-nil (log_of g.order)

  pub trees_tagged : Trees z words' g'
  trees_tagged = let b' = base_tag in let sane' = sane_of z words' g' b' in
      let tree' : SearchTree z t' = tree_marked z t t' p sd w' sane tr.tree marked not_root not_s in
      let map : Mapped z t' (contents_of (log_of g'.order)) = subst (λ (l : List Change). Mapped z t' (contents_of l))
      (sym log_is)
      (mapped_tagged z t t' p sd w' sane tr.tree marked same.flag (contents_of (log_of g.order)) tr.mapped) in
      let lasting : Lasting z t t' = lasting_marked z t t' sane tr.tree p sd w' marked (inl same.flag) in
      let remains : Remains z t' (λ r. (g'.of r).own.left) = remains_tagged z t t' p sd w' sane tr.tree marked (λ r.
      (g.of r).own.left) (λ r. (g'.of r).own.left) same.flag
      (λ r lt. put_each (λ (r : ℕ) (v : TreePass). v.own.left ≡ (g.of r).own.left) g.of q.number after (ap (λ
      (v : TreePass). v.own.left) (sym is)) (λ r ne. refl) r) tr.remains in
      let placed : placed_by q.number g'.order ≡ placed_by q.number g.order = placed_here g.order step
      ∙ append-nil (placed_by q.number g.order) in
      let sat : Seated z t' (log_of g'.order) (slot q) q.own = seated_on z t t' (log_of g.order)
      (log_of g'.order) sane sane' tree' lasting
      (grown_more (log_of g.order) (log_of g'.order) [] (log_is ∙ sym (append-nil (log_of g.order)))) map (slot q)
      (slot q) q.own q.own
      (λ j lt held still. let h = held_of j lt held in record { number = h.number; used = h.used; used' = h.used })
      record {
        call = refl;
        start = refl;
        flag = refl;
        beside = refl;
        at = λ lt. (refl, self (slot q q.own.at) (mine.seated.held lt));
        top = λ lt. (refl, refl, self (slot q q.own.top) (mine.seated.top_held lt));
      } mine.seated in
      trees_stepped z words words' g q after g.status step b b' tr pass refl (λ i c e. absurd cc)
      (subst Sound (sym log_is) tr.sound) tree' map remains lasting record {
        stands = subst (λ (l : List Change). Stands l q.number (placed_by q.number g'.order)) (sym log_is) (subst (Stands
            (log_of g.order) q.number) (sym placed) mine.stands);
        since = let l = ap (λ (x : List Change). length x) log_is in let s = mine.since in omega arith;
        earlier = λ on i x at. mine.earlier on i x (ap (λ (l : List Placed). slice_get l i) (sym placed) ∙ at);
        seated = record {
          held = sat.held;
          since = sat.since;
          pair = sat.pair;
          standing = sat.standing;
          flag = sat.flag;
          beside = sat.beside;
          top_held = sat.top_held;
          joined = λ lt. (
            may.first,
            (
              w',
              (
                may.begins lt,
                joined_more may.first may.last q.own.path passed
                    (may.joined lt) may.ends same.tag,
              ),
            ),
          );
          intact = λ lt on. let all = sat.intact lt on in intact_more z t' q.own.path passed all record {
            number = held_p.number;
            on = ap t'.state may.ends ∙ path_end z t' sane' tree' may.first may.last q.own.path (may.joined lt) all
                (ap t'.state (may.begins lt) ∙ on);
            low = may.low;
            edge = marked.wired.there;
            beside = ap target (marked.wired.links p (across sd) held_p.number (across_low sd) (λ e. across_apart sd e.1));
          };
        };
      }
    where
      self : (v : WalkSlot) → v.held ≡ true → StillHeld v v
      self v h = record { held = h; named = refl; key = refl; value = refl; learnt = λ l i. i }
