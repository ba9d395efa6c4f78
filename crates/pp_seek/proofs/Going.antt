-- Where a seek stands after its loads.
use Rattle.std.proofs.Common.{◌≡◌, ◌≢◌, ◌⊎◌, inl, inr, ⊎_elim, ℕ, ◌+◌, ◌*◌, ◌/◌, ◌%◌, ◌<◌, ◌≤◌, Bool, true, false, ◌&&◌, cond, ◌++◌}
use Rattle.std.proofs.Common.{eqb, List, [], ◌∷◌, length, set, get_or, Option, Some, None}
use Rattle.std.proofs.Common.{refl, sym, ap, ◌∙◌, subst, arith}
use Rattle.std.proofs.Math.Bool.{false≢true}
use Rattle.std.proofs.Math.Decide.{ℕ_discrete}
use mathlib.Core.Logic.{dite}
use Rattle.pp_link.specs.declared.layout.Sizes.{Sizes}
use Rattle.pp_link.specs.Links.{word_of, target, tag_bit}
use Rattle.pp_link.specs.Places.{head_place}
use Rattle.pp_model.specs.declared.Call.{Call}
use Rattle.pp_model.specs.Calls.{key_of}
use Rattle.pp_rule.specs.Lists.{IsIn}
use Rattle.pp_rule.specs.Orders.{load_step, announce_step, confirm_step, clear_step, read_step}
use Rattle.pp_rule.specs.declared.views.WalkSlot.{WalkSlot}
use Rattle.pp_rule.specs.Views.{slot, naming}
use Rattle.pp_rule.specs.Steps.{MadeQuietStep, with_walk, learning, holding, clearing}
use Rattle.pp_rule.proofs.Put.{in_first}
use Rattle.pp_rule.proofs.Slots.{slot_here, slot_else}
use Rattle.pp_trees.specs.declared.own.TreeOwn.{TreeOwn}
use Rattle.pp_trees.specs.Trees.{side, inf2}
use Rattle.pp_trees.specs.TaggedPaths.{Joined}
use Rattle.pp_trees.specs.Searches.{TreePass, forget_word}
use Rattle.pp_trees.specs.Sentinels.{has_mark}
use Rattle.pp_trees.specs.Edges.{TreeView}
use Rattle.pp_trees.specs.Seeks.{Begins, LooksAgain, at_root, ComesToRoot, PathEnds}
use Rattle.pp_seek.specs.declared.keeping.Words.{Words}
use Rattle.pp_seek.specs.declared.seek.Above.{Above}
use Rattle.pp_seek.specs.declared.seek.Spot.{Spot}
use Rattle.pp_base.specs.Named.{NamedStep, loads, announces, confirms}
use Rattle.pp_seek.specs.Trails.{IsSilent, SameRest, Trail, Clears, IsEmpty, SameCall, reads}
use Rattle.pp_seek.specs.Keeping.{IsOf, KeepsOnly}
use Rattle.pp_seek.specs.Seeking.{words_by, words_of, Over, StandsBut, AtHead, LookedAtHead}
use Rattle.pp_seek.specs.Seeking.{Enters, StaysThere, LetsAllGo}
use Rattle.pp_seek.proofs.Trailing.{trail_one, trail_both, clears_one, rest_by}
use Rattle.pp_seek.proofs.Letting.{forget_other, call_by, call_on}

-- a quiet step on a word that is no link's, or a load
unfoldable pub quiet_trail : (kind place word : ℕ) (known : TreePass) (v w : TreeView) → IsSilent kind → SameRest v.known known
    → MadeQuietStep kind place word word known v w → Trail v w
quiet_trail kind place word known v w low rest made =
    trail_one (record { kind = kind; place = place; word = word }) known v w low rest made

-- the head was loaded
pub looked_first : (z : Sizes) (call : Call) (fresh : Bool) (n : ℕ) (v w : TreeView) → fresh ≡ true
    → Begins (head_place z 0) call n v w → LookedAtHead z call fresh v w
unfolding quiet_trail trail_one
looked_first z call fresh n v w is t = let known = ap (λ (u : TreeView). u.known) t.made.is in record {
  begins = λ _. subst (λ (x : ℕ). Begins (head_place z 0) call x v w) t.root t;
  again = λ off. absurd (false≢true (sym off ∙ is));
  call_is = ap (λ (q : TreePass). q.own.call) known;
  walk = ap (λ (q : TreePass). q.walk) known;
  trail = quiet_trail load_step (head_place z 0) n _ v w (inl (omega arith, omega arith)) (rest_by v.known _ _) t.made;
  steps_are = ap (λ (x : ℕ). loads (head_place z 0) x ∷ []) t.root;
}

pub looked_again : (z : Sizes) (call : Call) (fresh : Bool) (n : ℕ) (v w : TreeView) → fresh ≡ false
    → AtHead v.known call fresh → LooksAgain (head_place z 0) n v w
    → LookedAtHead z call fresh v w
unfolding quiet_trail trail_one
looked_again z call fresh n v w is head t = let known = ap (λ (u : TreeView). u.known) t.made.is in record {
  begins = λ on. absurd (false≢true (sym is ∙ on));
  again = λ _. call_by v.known.own w.known.own (ap (λ (q : TreePass). q.own) known);
  call_is = ap (λ (q : TreePass). q.own.call) known ∙ head.call_is is;
  walk = ap (λ (q : TreePass). q.walk) known;
  trail = quiet_trail load_step (head_place z 0) n _ v w (inl (omega arith, omega arith)) (rest_by v.known _ _) t.made;
  steps_are = ap (λ (x : ℕ). loads (head_place z 0) x ∷ []) t.root;
}

-- From the head to the root: it was looked at, the root was announced in the word 0, confirmed, and its key was read.
pub enters : (z : Sizes) (call : Call) (fresh : Bool) (n key place read_place : ℕ) (v v1 v2 v3 v4 : TreeView)
    → AtHead v.known call fresh → LookedAtHead z call fresh v v1
    → length v1.known.walk ≡ 5 → MadeQuietStep announce_step place 1 1 (with_walk 0 (naming 1) v1.known) v1 v2
    → ComesToRoot 0 (head_place z 0) n v2 v3
    → MadeQuietStep read_step read_place key key v3.known v3 v4 → key ≡ (slot v3.known 0).key
    → Enters z call fresh (record { word = 0; key = key; low = 0; high = key; above = None }) v v4
unfolding quiet_trail trail_one trail_both
enters z call fresh n key place read_place v v1 v2 v3 v4 head look five announced came read key_is = record {
  stands = record {
    low = omega arith;
    held = ap (λ (s : WalkSlot). s.held) here;
    at = ap (λ (o : TreeOwn). o.at) own4;
    key_is = key_is ∙ ap (λ (q : TreePass). (slot q 0).key) (sym known4);
    over = (ap (λ (s : WalkSlot). s.named) here, ap (λ (s : WalkSlot). s.key) here, ap (λ (o : TreeOwn). o.top) own4);
    empty = λ j low out ne. subst IsEmpty (sym (rest j (λ e. out (inl e)))) (head.empty j low);
  };
  call_is = ap (λ (o : TreeOwn). o.call) own4 ∙ (ap (λ (q : TreePass). q.own.call) known2 ∙ look.call_is);
  bounds = (refl, refl);
  root = key_is ∙ ap (λ (s : WalkSlot). s.key) here3;
  first = v1;
  begins = look.begins;
  again = look.again;
  same = call_on v1.known.own v2.known.own v4.known.own (call_by v1.known.own v2.known.own (ap (λ
      (q : TreePass). q.own) known2)) record {
        call = ap (λ (o : TreeOwn). o.call) own4;
        start = ap (λ (o : TreeOwn). o.start) own4;
        going = ap (λ (o : TreeOwn). o.going) own4;
        left = ap (λ (o : TreeOwn). o.left) own4;
      };
  trail = trail_both v v1 v4 look.trail onward_is;
  onward = onward_is;
  announced = place;
  read = read_place;
  steps_are = ap (λ (l : List NamedStep). l ++ announces place 1 ∷ confirms (head_place z 0) n ∷ reads read_place key ∷ [])
      look.steps_are
      ∙ ap (λ (x : ℕ). loads (head_place z 0) 16 ∷ announces place 1 ∷ confirms (head_place z 0) x ∷ reads read_place key ∷ [])
      came.root;
}
  where
    onward_is : Trail v1 v4
    onward_is = trail_both v1 v2 v4 (quiet_trail announce_step place 1 _ v1 v2 (inl
        (omega arith, omega arith)) (rest_by v1.known _ _) announced)
        (trail_both v2 v3 v4 (quiet_trail confirm_step (head_place z 0) n _ v2 v3 (inl
        (omega arith, omega arith)) (rest_by v2.known _ _) came.made)
        (quiet_trail read_step read_place key v3.known v3 v4 (inl (omega arith, omega arith)) (rest_by v3.known _ _) read))

    known2 : v2.known ≡ with_walk 0 (naming 1) v1.known
    known2 = ap (λ (u : TreeView). u.known) announced.is

    known3 : v3.known ≡ record v2.known { walk = set v2.known.walk 0 (holding 1 inf2 came.value); own = at_root 0 v2.known.own }
    known3 = ap (λ (u : TreeView). u.known) came.made.is

    known4 : v4.known ≡ v3.known
    known4 = ap (λ (u : TreeView). u.known) read.is

    own4 : v4.known.own ≡ at_root 0 v2.known.own
    own4 = ap (λ (q : TreePass). q.own) (known4 ∙ known3)

    five2 : 0 < length v2.known.walk
    five2 = subst (λ (l : List WalkSlot). 0 < length l) (sym (ap (λ (q : TreePass). q.walk) known2)) (zero_in v1.known.walk five)
      where
        zero_in : (l : List WalkSlot) → length l ≡ 5 → 0 < length (set l 0 (naming 1))
        zero_in [] e = absurd (let bad : 0 ≡ 5 = e in omega arith)
        zero_in (x ∷ xs) e = omega arith

    here3 : slot v3.known 0 ≡ holding 1 inf2 came.value
    here3 = slot_here v2.known v3.known 0 (holding 1 inf2 came.value) (ap (λ (q : TreePass). q.walk) known3) five2

    here : slot v4.known 0 ≡ holding 1 inf2 came.value
    here = ap (λ (q : TreePass). slot q 0) known4 ∙ here3

    rest : (j : ℕ) → j ≢ 0 → slot v4.known j ≡ slot v.known j
    rest j ne = ap (λ (q : TreePass). slot q j) known4
        ∙ (slot_else v2.known v3.known 0 (holding 1 inf2 came.value) (ap (λ (q : TreePass). q.walk) known3) j ne
        ∙ (slot_else v1.known v2.known 0 (naming 1) (ap (λ (q : TreePass). q.walk) known2) j ne
        ∙ ap (λ (l : List WalkSlot). get_or l j (naming 0)) look.walk))

-- the walk words that the tree's part names are in use
pub at_used : (q : TreePass) (x : ℕ) (s : Spot) → StandsBut x q s → IsOf (words_of s) q.own.at
at_used q x s st = go s.above
  where
    go : (a : Option Above) → IsOf (words_by s.word a) q.own.at
    go None = inl st.at
    go (Some a) = inl st.at

pub top_used : (q : TreePass) (x : ℕ) (s : Spot) → StandsBut x q s → q.own.top < 5 → IsOf (words_of s) q.own.top
top_used q x s st low = go s.above st.over
  where
    go : (a : Option Above) → Over q s.word a → IsOf (words_by s.word a) q.own.top
    go None o = let five = o.2 in absurd (omega arith)
    go (Some a) o = inr (inr o.top)

pub word_used : (s : Spot) → IsOf (words_of s) s.word
word_used s = go s.above
  where
    go : (a : Option Above) → IsOf (words_by s.word a) s.word
    go None = inl refl
    go (Some a) = inl refl

-- what a walk word holds is as it was, but for what was learnt of it
pub record SameHeld (a b : WalkSlot) : Type 0 where
  pub named : b.named ≡ a.named
  pub held : b.held ≡ a.held
  pub key : b.key ≡ a.key

pub held_by : (a b : WalkSlot) → b ≡ a → SameHeld a b
held_by a b e = record {
  named = ap (λ (s : WalkSlot). s.named) e;
  held = ap (λ (s : WalkSlot). s.held) e;
  key = ap (λ
      (s : WalkSlot). s.key) e;
}

-- Where the words in use hold what they held, and the tree's part is as it was, the seek stands where it stood.
pub stands_on : (x y : ℕ) (q q' : TreePass) (s : Spot) → q'.own ≡ q.own → ((j : ℕ) → j < 5 → IsOf (words_of s) j
    → SameHeld (slot q j) (slot q' j))
    → ((j : ℕ) → j < 5 → (IsOf (words_of s) j → ⊥) → j ≢ y → IsEmpty (slot q' j)) → StandsBut x q s → StandsBut y q' s
stands_on x y q q' s own same empty st = record {
  low = st.low;
  held = (same s.word st.low (word_used s)).held ∙ st.held;
  at = ap (λ (o : TreeOwn). o.at) own ∙ st.at;
  key_is = st.key_is ∙ sym (same s.word st.low (word_used s)).key;
  over = go s.above st.over (λ j low is. same j low is);
  empty = empty;
}
  where
    here : SameHeld (slot q s.word) (slot q' s.word)
    here = same s.word st.low (word_used s)

    go : (a : Option Above) → Over q s.word a → ((j : ℕ) → j < 5 → IsOf (words_by s.word a) j
        → SameHeld (slot q j) (slot q' j)) → Over q' s.word a
    go None o w = (here.named ∙ o.0, here.key ∙ o.1, ap (λ (v : TreeOwn). v.top) own ∙ o.2)
    go (Some a) o w = let anc = w a.ancestor o.ancestor_low (inr (inl refl)) in
        let top = w a.top o.top_low (inr (inr refl)) in record {
          ancestor_low = o.ancestor_low;
          ancestor_held = anc.held ∙ o.ancestor_held;
          apart = o.apart;
          side_is = o.side_is ∙ (ap (λ (v : TreeOwn). side (key_of v.call) (slot q a.ancestor).key) (sym own)
              ∙ ap (side (key_of q'.own.call)) (sym anc.key));
          top_low = o.top_low;
          top = ap (λ (v : TreeOwn). v.top) own ∙ o.top;
          top_held = top.held ∙ o.top_held;
          plain = o.plain;
          some = o.some;
          leads = o.leads ∙ sym top.named;
          last = o.last;
          joined = subst (λ (v : TreeOwn). Joined (word_of a.successor) v.path o.last) (sym own) o.joined;
          ends = here.named ∙ o.ends;
        }

-- a walk word that isn't in use is cleared
pub back_moved : (x place : ℕ) (v w : TreeView) (s : Spot) → length v.known.walk ≡ 5 → StandsBut x v.known s → x < 5
    → (IsOf (words_of s) x → ⊥)
    → MadeQuietStep clear_step place 0 0 (clearing forget_word x v.known) v w → StaysThere s v w × Clears v w
back_moved x place v w s five st low out made = let known : w.known ≡ clearing forget_word x v.known = ap (λ
    (u : TreeView). u.known) made.is in
    let walk = ap (λ (q : TreePass). q.walk) known in
    let own : w.known.own ≡ v.known.own = ap (λ (q : TreePass). q.own) known ∙ forget_other x v.known.own
    (λ e. out (subst (IsOf (words_of s)) e (at_used v.known x s st)))
    (λ e. out (subst (IsOf (words_of s)) e (top_used v.known x s st (subst (λ (y : ℕ). y < 5) (sym e) low)))) in (
      record {
        stands = stands_on x 5 v.known w.known s own
            (λ j lt is. held_by (slot v.known j) (slot w.known j) (slot_else v.known w.known x (naming 0) walk j (λ e. out
            (subst (IsOf (words_of s)) e is))))
            (λ j lt never ne. dite (ℕ_discrete j x)
            (λ e. let here = slot_here v.known w.known x (naming 0) walk (omega arith) in
            subst (λ (y : ℕ). IsEmpty (slot w.known y)) (sym e) (record {
              named = ap (λ (y : WalkSlot). y.named) here;
              free = ap
                  (λ (y : WalkSlot). y.held) here;
            }))
            (λ other. subst IsEmpty (sym (slot_else v.known w.known x (naming 0) walk j other)) (st.empty j lt never other))) st;
        own = own;
      },
      clears_one place _ v w (rest_by v.known _ _) made,
    )

-- nothing is kept
pub lets_go : (w : Words) (u v : TreeView) → ((j : ℕ) → j < 5 → IsOf w j → ⊥) → KeepsOnly w 5 u v → LetsAllGo u v
lets_go w u v none k = record { empty = λ j low. k.emptied j low (none j low); same = k.call }

pub none_of : (j : ℕ) → j < 5 → IsOf (record { first = 5; second = 5; third = 5 }) j → ⊥
none_of j low is = ⊎_elim (λ (a : j ≡ 5). absurd (omega arith)) (λ (y : (j ≡ 5)
    ⊎ (j ≡ 5)). ⊎_elim (λ (b : j ≡ 5). absurd (omega arith)) (λ (c : j ≡ 5). absurd (omega arith)) y) is

pub go_after : (u v w : TreeView) → SameCall u.known.own v.known.own → LetsAllGo v w → LetsAllGo u w
go_after u v w same l = record {
  empty = l.empty;
  same = call_on u.known.own v.known.own w.known.own same l.same;
}

-- what was learnt changes nothing of what is held
pub learning_held : (j side w : ℕ) (q : TreePass) (i : ℕ) → length q.walk ≡ 5 → j < 5
    → SameHeld (slot q i) (slot (learning has_mark j side w q) i)
learning_held j side w q i five low = go (has_mark w && (slot q j).held)
  where
    go : (c : Bool) → SameHeld (slot q i) (slot (cond c (with_walk j (record (slot q j) {
      learnt = (side, w) ∷
          (slot q j).learnt;
    }) q) q) i)
    go false = held_by (slot q i) (slot q i) refl
    go true = dite (ℕ_discrete i j)
        (λ e. let here = slot_here q (with_walk j (record (slot q j) { learnt = (side, w) ∷ (slot q j).learnt }) q) j
        (record (slot q j) { learnt = (side, w) ∷ (slot q j).learnt }) refl (omega arith) in
        subst (λ (x : ℕ). SameHeld (slot q x) (slot (with_walk j (record (slot q j) {
          learnt = (side, w) ∷
              (slot q j).learnt;
        }) q) x)) (sym e)
        record {
          named = ap (λ (s : WalkSlot). s.named) here;
          held = ap (λ (s : WalkSlot). s.held) here;
          key = ap (λ
              (s : WalkSlot). s.key) here;
        })
        (λ ne. held_by (slot q i) (slot (with_walk j (record (slot q j) { learnt = (side, w) ∷ (slot q j).learnt }) q) i)
        (slot_else q (with_walk j (record (slot q j) { learnt = (side, w) ∷ (slot q j).learnt }) q) j (record
        (slot q j) { learnt = (side, w) ∷ (slot q j).learnt }) refl i ne))

pub learning_own : (j side w : ℕ) (q : TreePass) → (learning has_mark j side w q).own ≡ q.own
learning_own j side w q = go (has_mark w && (slot q j).held)
  where
    go : (c : Bool) → (cond c (with_walk j (record (slot q j) { learnt = (side, w) ∷ (slot q j).learnt }) q) q).own ≡ q.own
    go true = refl
    go false = refl

-- a slot with nothing in it stays empty
pub empty_same : (a b : WalkSlot) → SameHeld a b → IsEmpty a → IsEmpty b
empty_same a b s e = record { named = s.named ∙ e.named; free = s.held ∙ e.free }

-- TAG that was read is learnt
pub learnt_tag : (j side w : ℕ) (q : TreePass) → length q.walk ≡ 5 → j < 5 → (slot q j).held ≡ true → tag_bit w ≡ 1
    → IsIn {A = ℕ × ℕ} (side, w) (slot (learning has_mark j side w q) j).learnt
learnt_tag j side w q five low held tag = subst (λ (c : Bool). IsIn {A = ℕ × ℕ} (side, w)
    (slot (cond c (with_walk j (record (slot q j) { learnt = (side, w) ∷ (slot q j).learnt }) q) q) j).learnt) (sym both)
    (subst (λ (s : WalkSlot). IsIn {A = ℕ × ℕ} (side, w) s.learnt) (sym (slot_here q (with_walk j (record
    (slot q j) { learnt = (side, w) ∷ (slot q j).learnt }) q) j
    (record (slot q j) { learnt = (side, w) ∷ (slot q j).learnt }) refl (omega arith))) (in_first (side, w) (slot q j).learnt))
  where
    marked : has_mark w ≡ true
    marked = ap (λ (b : Bool). cond b false true) (Rattle.std.proofs.Common.ne_eqb (w % 4) 0 (not_plain w tag))
      where
        not_plain : (w : ℕ) → tag_bit w ≡ 1 → w % 4 ≢ 0
        not_plain w t e = omega arith

    both : (has_mark w && (slot q j).held) ≡ true
    both = ap (λ (b : Bool). b && (slot q j).held) marked ∙ held

-- the path that was walked ends where the seek stands
pub path_ends : (x : ℕ) (q : TreePass) (s : Spot) → StandsBut x q s → PathEnds q
path_ends x q s st = go s.above st.over
  where
    named_at : (slot q q.own.at).named ≡ (slot q s.word).named
    named_at = ap (λ (j : ℕ). (slot q j).named) st.at

    go : (a : Option Above) → Over q s.word a → PathEnds q
    go None o = let five = o.2 in record {
      first = 0;
      last = 16 * (slot q s.word).named;
      begins = λ low. absurd (omega arith);
      joined = λ low. absurd (omega arith);
      ends = named_at ∙ sixteen (slot q s.word).named;
    }
      where
        sixteen : (n : ℕ) → n ≡ target (16 * n)
        sixteen n = omega arith
    go (Some a) o = record {
      first = word_of a.successor;
      last = o.last;
      begins = λ _. o.leads ∙ ap (λ (j : ℕ). (slot q j).named) (sym o.top);
      joined = λ _. o.joined;
      ends = named_at ∙ o.ends;
    }
