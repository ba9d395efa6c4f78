-- The steps of a seek: the call comes to stand at the record that a confirmed edge leads to.
use Rattle.std.proofs.Common.{◌≡◌, ⊎_elim, ℕ, ◌<◌, ◌≤◌, true, List, [], ◌∷◌, ◌++◌, length}
use Rattle.std.proofs.Common.{refl, sym, ap, ◌∙◌, subst, arith}
use Rattle.pp_link.specs.declared.layout.Sizes.{Sizes}
use Rattle.pp_link.specs.Links.{target, flag_bit, tag_bit}
use Rattle.pp_link.specs.Places.{IsNumber}
use Rattle.pp_model.specs.declared.Change.{Change}
use Rattle.pp_model.specs.Calls.{key_of}
use Rattle.pp_rule.specs.Lists.{IsIn}
use Rattle.pp_rule.specs.declared.views.WalkSlot.{WalkSlot}
use Rattle.pp_rule.specs.declared.views.Halves.{Halves}
use Rattle.pp_rule.specs.Steps.{holding}
use Rattle.pp_rule.specs.States.{attached, IsLinked}
use Rattle.pp_rule.proofs.Put.{in_nil, in_first, in_either, in_one}
use Rattle.pp_trees.specs.declared.own.TreeOwn.{TreeOwn}
use Rattle.pp_trees.specs.Trees.{Heap, side, across, edge, IsEdge, inf0, Sane, SearchTree, Standing}
use Rattle.pp_trees.specs.TaggedPaths.{Passed, Joined, IsPassed, Intact}
use Rattle.pp_trees.specs.Searches.{Seated}
use Rattle.pp_trees.proofs.Walking.{side_low, child_on}
use Rattle.pp_trees.proofs.Standing.{stands_below}
use Rattle.pp_trees.proofs.Cutting.{last_of, passed_internal}

-- a path with one more tagged edge
pub joined_more : (first last : ℕ) (cs : List Passed) (c : Passed) → Joined first cs last → c.number ≡ target last
    → tag_bit c.word ≡ 1 → Joined first (cs ++ c ∷ []) c.word
joined_more first last [] c j to tag = (to ∙ ap target (sym j), tag, refl)
joined_more first last (d ∷ cs) c j to tag = (j.0, j.1, joined_more d.word last cs c j.2 to tag)

pub intact_more : (z : Sizes) (t : Heap) (cs : List Passed) (c : Passed) → Intact z t cs → IsPassed z t c
    → Intact z t (cs ++ c ∷ [])
intact_more z t cs c all one d i = ⊎_elim (λ (old : IsIn d cs). all d old) (λ (new : IsIn d (c ∷ [])). subst (IsPassed z t)
    (in_one d c new) one) (in_either d cs (c ∷ []) i)

module _ (z : Sizes) (t : Heap) (sane : Sane z t) (tree : SearchTree z t) where
  -- where the path begins with an attached record, it leads to one
  pub path_end : (first last : ℕ) (cs : List Passed) → Joined first cs last → Intact z t cs
      → t.state (target first) ≡ attached → t.state (target last) ≡ attached
  path_end first last [] j all on = ap (λ (x : ℕ). t.state (target x)) (sym j) ∙ on
  path_end first last (c ∷ cs) j all on = let l = last_of first last (c ∷ cs) c j (in_first c cs) in let h = all l.0 l.1.0 in
      let i = passed_internal z t sane tree (c ∷ cs) last all first j l.0 l.1.0 in
      ap (λ (x : ℕ). t.state (target x)) (sym (h.edge ∙ l.1.1)) ∙ (child_on z t sane tree l.0.number l.0.side i h.low).1

  module _ (log : List Change) (slots slots' : ℕ → WalkSlot) (own : TreeOwn) (i c key : ℕ) (value : Halves) (low : i < 5)
      (here : slots' i ≡ holding c key value)
      (others : (j : ℕ) → j < 5 → (slots j).held ≡ true → slots' j ≡ slots j) where
    named_here : (slots' i).named ≡ c
    named_here = ap (λ (w : WalkSlot). w.named) here

    held_here : (slots' i).held ≡ true
    held_here = ap (λ (w : WalkSlot). w.held) here

    -- from the head the call comes to the root
    abbrev pub at_root : TreeOwn
    at_root = record own { at = i; top = 5; path = []; flag = 2 }

    pub seated_at_root : c ≡ 1 → own.start ≤ length log → key_of own.call < inf0
        → Standing t log own.start (key_of own.call) 1 → Seated z t log slots' at_root
    seated_at_root one since pair s = record {
      held = λ lt. held_here;
      since = λ lt. since;
      pair = λ lt. pair;
      standing = λ lt. subst (λ (n : ℕ). Standing t log own.start (key_of own.call) n) (sym (named_here ∙ one)) s;
      flag = λ lt two. absurd (omega arith);
      beside = λ lt two. absurd (omega arith);
      top_held = λ lt. absurd (omega arith);
      joined = λ lt. absurd (omega arith);
      intact = λ lt on. absurd (omega arith);
    }

    module _ (seated : Seated z t log slots own) (at : own.at < 5) (sd : ℕ) (w : ℕ) (number : IsNumber z (slots own.at).named)
        (linked : IsLinked (t.state (slots own.at).named))
        (side_is : sd ≡ side (key_of own.call) (t.key (slots own.at).named)) (word : t.link (slots own.at).named sd ≡ w)
        (is_edge : IsEdge w 0) (to : c ≡ target w) where
      edge_is : edge t (key_of own.call) (slots own.at).named ≡ w
      edge_is = ap (t.link (slots own.at).named) (sym side_is) ∙ word

      stands : Standing t log own.start (key_of own.call) (slots' i).named
      stands = subst (λ (n : ℕ). Standing t log own.start (key_of own.call) n) (sym (named_here ∙ (to ∙ ap target (sym edge_is))))
          (stands_below z t log own.start (key_of own.call) sane tree (slots own.at).named number linked (seated.standing at)
          (subst (λ (x : ℕ). IsEdge x 0) (sym edge_is) is_edge))

      -- over an untagged edge: the record is the successor
      abbrev pub at_successor : TreeOwn
      at_successor = record own { at = i; top = i; path = []; flag = 2 }

      pub seated_at_successor : Seated z t log slots' at_successor
      seated_at_successor = record {
        held = λ lt. held_here;
        since = λ lt. seated.since at;
        pair = λ lt. seated.pair at;
        standing = λ lt. stands;
        flag = λ lt two. absurd (omega arith);
        beside = λ lt two. absurd (omega arith);
        top_held = λ lt. held_here;
        joined = λ lt. (w, (w, (sym (named_here ∙ to), refl)));
        intact = λ lt on b k. absurd (in_nil b k);
      }

      -- over a tagged edge: the path goes on
      abbrev pub passed : Passed
      passed = record {
        number = (slots own.at).named;
        side = sd;
        word = w;
        leaf = target (t.link (slots own.at).named
            (across sd));
      }

      abbrev pub at_next : TreeOwn
      at_next = record own { at = i; path = own.path ++ passed ∷ []; flag = 2 }

      pub seated_at_next : tag_bit w ≡ 1 → (first last : ℕ) → (own.top < 5 → target first ≡ (slots own.top).named)
          → (own.top < 5 → Joined first own.path last)
          → (slots own.at).named ≡ target last → Seated z t log slots' at_next
      seated_at_next tag first last begins j end = record {
        held = λ lt. held_here;
        since = λ lt. seated.since at;
        pair = λ lt. seated.pair at;
        standing = λ lt. stands;
        flag = λ lt two. absurd (omega arith);
        beside = λ lt two. absurd (omega arith);
        top_held = λ lt. ap (λ (x : WalkSlot). x.held) (others own.top lt (seated.top_held lt)) ∙ seated.top_held lt;
        joined = λ lt. (
          first,
          (
            w,
            (
              begins lt ∙ ap (λ (x : WalkSlot). x.named) (sym (others own.top lt
                  (seated.top_held lt))),
              joined_more first last own.path passed (j lt) end tag,
            ),
          ),
        );
        intact = λ lt on. let same = ap (λ (x : WalkSlot). x.named) (others own.top lt (seated.top_held lt)) in
            let on' : t.state (slots own.top).named ≡ attached = ap t.state (sym same) ∙ on in let all = seated.intact lt on' in
            intact_more z t own.path passed all record {
              number = number;
              on = ap t.state end ∙ path_end first last own.path (j lt) all (ap t.state (begins lt) ∙ on');
              low = subst (λ (x : ℕ). x < 2) (sym side_is) (side_low (key_of own.call) (t.key (slots own.at).named));
              edge = word;
              beside = refl;
            };
      }

    -- FLAG that was read at the last edge stays known
    pub seated_flag : (r : ℕ) → Seated z t log slots own → (own.at < 5 → r < 2
        → flag_bit (t.link (slots own.at).named r) ≡ 1) → (own.at < 5 → r < 2 → target (t.link (slots own.at).named r) ≡ own.beside)
        → Seated z t log slots (record own { flag = r })
    seated_flag r s on to = record {
      held = s.held;
      since = s.since;
      pair = s.pair;
      standing = s.standing;
      flag = on;
      beside = to;
      top_held = s.top_held;
      joined = s.joined;
      intact = s.intact;
    }
