-- The loads of a seek, as steps that the rule allows.
use Rattle.std.proofs.Common.{◌≡◌, ◌≢◌, inr, ℕ, ◌+◌, ◌<◌, ◌≤◌, Bool, true, false, cond, eqb, List, [], ◌∷◌}
use Rattle.std.proofs.Common.{◌++◌, length, get_or, set, Option}
use Rattle.std.proofs.Common.{refl, sym, ap, ◌∙◌, subst, arith, eq-eqb, ne_eqb}
use Rattle.std.proofs.Math.Bool.{false≢true}
use Rattle.std.proofs.Math.Decide.{ℕ_discrete}
use mathlib.Core.Logic.{dite}
use Rattle.atomic_table.specs.Table.{Me, Allows}
use Rattle.pp_link.specs.declared.layout.Sizes.{Sizes}
use Rattle.pp_link.specs.Links.{target, flag_bit, tag_bit}
use Rattle.pp_link.specs.Places.{head_place, cell_place}
use Rattle.pp_link.specs.Words.{head_word, cell_word}
use Rattle.pp_model.specs.declared.Call.{Call}
use Rattle.pp_model.specs.declared.Change.{Change}
use Rattle.pp_model.specs.declared.Placed.{Placed}
use Rattle.pp_model.specs.Calls.{key_of, reply_at, reply, changes}
use Rattle.pp_model.specs.FiniteMap.{find}
use Rattle.pp_model.specs.History.{after, Stands}
use Rattle.pp_model.proofs.Replies.{reply_once}
use Rattle.pp_rule.specs.Orders.{log_of, placed_by, load_step, confirm_step}
use Rattle.pp_rule.specs.Rule.{Base}
use Rattle.pp_rule.specs.declared.views.Halves.{Halves}
use Rattle.pp_rule.specs.Views.{slot, halves, all_of}
use Rattle.pp_rule.specs.Lists.{IsIn}
use Rattle.pp_rule.specs.States.{IsSmall, Held}
use Rattle.pp_rule.specs.Steps.{entry, holding, IsAlone, MadeStep, MadeQuietStep, LoadedLink, learning}
use Rattle.pp_rule.specs.Ties.{Holds}
use Rattle.pp_rule.proofs.Confirming as confirming
use Rattle.pp_rule.proofs.Keeping.{idle_keeps, load_keeps}
use Rattle.pp_rule.proofs.Stepping.{Plays, allows}
use Rattle.pp_rule.proofs.OwnSteps.{log_quiet}
use Rattle.pp_trees.specs.declared.own.TreeOwn.{TreeOwn}
use Rattle.pp_trees.specs.Trees.{Heap, heap, IsEdge, IsRight, inf0}
use Rattle.pp_trees.specs.Searches.{TreePass, TreeState, Seated, Trees}
use Rattle.pp_trees.specs.Sentinels.{has_mark}
use Rattle.pp_trees.specs.Edges.{TreeView, end_step}
use Rattle.pp_trees.specs.Seeks.{begun, Begins, LooksAgain, at_root, ComesToRoot, Looks, over_edge, MayCome}
use Rattle.pp_trees.specs.Seeks.{PathEnds, ComesTo}
use Rattle.pp_trees.specs.Seeks.{found_at, ended_pass, EndsGoing, EndsAt}
use Rattle.pp_trees.proofs.Opens.{tree_freezes}
use Rattle.pp_trees.proofs.Walking.{side_low}
use Rattle.pp_trees.proofs.Keeping.{trees_alike}
use Rattle.pp_trees.proofs.Confirming as coming
use Rattle.pp_trees.proofs.Settling as settling
use Rattle.pp_trees.proofs.Allowing.{loads_small, stands_held}

-- What is true of the word at a place in each state that meets the rule is told by a step there.
pub knowing : (opens : Sizes → List ℕ) (z : Sizes) (id place : ℕ) (me : Me Unit TreeView) (change : ℕ → ℕ) (then : ℕ
    → Me Unit TreeView → Type 0)
    (F : ℕ → Type 0) → IsAlone me
    → ((words : List ℕ) (g : TreeState) → Base 2 z words g → Trees z words g → me.0.known.number < z.passes
    → g.of me.0.known.number ≡ me.0.known → F (get_or words place 0))
    → Allows (Holds 2 opens (λ z words g. Trees z words g) z) 0 id me place change then
    → Allows (Holds 2 opens (λ z words g. Trees z words g) z) 0 id me place change (λ n m. then n m × F n)
knowing opens z id place me change then F lone known a = λ s h deep at fits. let r = a s h deep at fits in
    let tied = h.ties.each_seat id me.0 at in
    let here : IsIn me.0.known (all_of me.0) = subst (λ (u : TreeView). IsIn me.0.known (all_of u)) (sym lone.1) (0, refl) in
    let mine = tied.each me.0.known here in
    (r.0, r.1, r.2, r.3, (r.4, known s.words h.pool h.base h.added mine.number mine.is))

-- the head leads to the root
pub head_is : (z : Sizes) (words : List ℕ) (g : TreeState) → Base 2 z words g → Trees z words g → (place : ℕ)
    → place ≡ head_place z 0 → get_or words place 0 ≡ 16
unfolding head_word
head_is z words g b tr place at = ap (λ (k : ℕ). get_or words k 0) at ∙ tr.tree.sentinels.head 0
    (let one = b.within.some_heads in omega arith)

module _ (opens : Sizes → List ℕ) (z : Sizes) where
  pub begins_at : (id place : ℕ) (call : Call) (me : Me Unit TreeView) → IsAlone me → place ≡ head_place z 0
      → Allows (Holds 2 opens (λ z words g. Trees z words g) z) 0 id me place (λ n. n) (λ n m'. (m'.1 ≡ [])
      × Begins place call n me.0 m'.0)
  begins_at id place call me lone at = allows 2 opens (λ z words g. Trees z words g) z 0 id place load_step me (λ n. n) (λ n. n)
      (λ n m'. (m'.1 ≡ []) × Begins place call n me.0 m'.0) lone (λ m no. refl) (λ m bad. absurd (false≢true bad)) (λ m is. refl)
      (λ words g b tr pass is sizes fits. let q : TreePass = me.0.known in let n : ℕ = get_or words place 0 in
      let known : TreePass = coming.begins_as z words g q b tr pass is call in record {
        known = known;
        status = g.status;
        changes = [];
        placed = [];
        keeps_rule = load_keeps 2 opens (λ z words g. Trees z words g) load_step place z words g q known g.status [] [] refl sizes
            (coming.base_begins z words g q b tr pass is place call) (coming.begins_call z words g q b tr pass is place call);
        tells = λ w is_now made. (
          refl,
          record {
            root = head_is z words g b tr place at;
            made = subst (λ (l : ℕ). MadeQuietStep load_step place n n (record q { own = begun call l q.own.left }) me.0 w)
                (sym (ap (λ (l : List Change). length l) (log_quiet g.order known
                (entry load_step place n n [] [] g.order known) w is_now refl refl))) made;
          },
        );
      })

  pub looks_again : (id place : ℕ) (me : Me Unit TreeView) → IsAlone me → place ≡ head_place z 0
      → Allows (Holds 2 opens (λ z words g. Trees z words g) z) 0 id me place (λ n. n) (λ n m'. (m'.1 ≡ [])
      × LooksAgain place n me.0 m'.0)
  looks_again id place me lone at = allows 2 opens (λ z words g. Trees z words g) z 0 id place load_step me (λ n. n) (λ n. n)
      (λ n m'. (m'.1 ≡ []) × LooksAgain place n me.0 m'.0) lone (λ m no. refl) (λ m bad. absurd (false≢true bad)) (λ m is. refl)
      (λ words g b tr pass is sizes fits. record {
        known = me.0.known;
        status = g.status;
        changes = [];
        placed = [];
        keeps_rule = idle_keeps 2 opens (λ z words g. Trees z words g) trees_alike load_step place z words g me.0.known b tr
            pass is sizes;
        tells = λ w is_now made. (refl, record { root = head_is z words g b tr place at; made = made });
      })

  pub comes_to_root : (id place i : ℕ) (me : Me Unit TreeView) → IsAlone me → place ≡ head_place z 0 → i < 5
      → (slot me.0.known i).held ≡ false
      → (slot me.0.known i).named ≡ 1 → key_of me.0.known.own.call < inf0
      → Allows (Holds 2 opens (λ z words g. Trees z words g) z) 0 id me place (λ n. n) (λ n m'. (m'.1 ≡ [])
      × ComesToRoot i place n me.0 m'.0)
  comes_to_root id place i me lone at low free named pair = allows 2 opens
      (λ z words g. Trees z words g) z 0 id place confirm_step me (λ n. n) (λ n. n)
      (λ n m'. (m'.1 ≡ []) × ComesToRoot i place n me.0 m'.0) lone (λ m no. refl) (λ m bad. absurd (false≢true bad)) (λ m is. refl)
      (λ words g b tr pass is sizes fits. let q : TreePass = me.0.known in let n : ℕ = get_or words place 0 in
      let word : n ≡ 16 = head_is z words g b tr place at in let one : target n ≡ 1 = ap target word in
      let known : TreePass = coming.rooted z words g q b tr pass is place i 16 low free named at word pair in
      let value : Halves = halves (cell_word words z (target n) 1) (cell_word words z (target n) 4) in record {
        known = known;
        status = g.status;
        changes = [];
        placed = [];
        keeps_rule = load_keeps 2 opens (λ z words g. Trees z words g) confirm_step place z words g q known g.status [] [] refl
            sizes
            (coming.base_rooted z words g q b tr pass is place i 16 low free named at word pair)
            (coming.came_to_root z words g q b tr pass is place i 16 low free named at word pair);
        tells = λ w is_now made. (
          refl,
          record {
            root = word;
            value = value;
            made = subst (λ (key : ℕ). MadeQuietStep confirm_step place n n (record q {
              walk = set q.walk i
                  (holding 1 key value);
              own = at_root i q.own;
            }) me.0 w)
                (ap (λ (x : ℕ). cell_word words z x 0) one ∙ tr.tree.sentinels.keys.0)
                (subst (λ (c : ℕ). MadeQuietStep confirm_step place n n
                (record q {
                  walk = set q.walk i (holding c (cell_word words z
                      (target n) 0) value);
                  own = at_root i q.own;
                }) me.0 w) one made);
          },
        );
      })

  -- what a first load of an edge of the record where the call stands tells beside what any first load does
  pub record EdgeFacts (q : TreePass) (sd n : ℕ) : Type 0 where
    pub some : target n ≢ 0
    pub unflagged : IsEdge n 0 → flag_bit n ≡ 0
    pub below_root : (slot q q.own.at).named ≡ 1 → sd ≡ 0 → n ≡ 32

  edge_facts : (q : TreePass) (sd place : ℕ) (words : List ℕ) (g : TreeState) → Base 2 z words g → Trees z words g
      → q.number < z.passes
      → g.of q.number ≡ q → q.own.at < 5 → sd < 2 → place ≡ cell_place z (slot q q.own.at).named (2 + sd)
      → EdgeFacts q sd (get_or words place 0)
  unfolding cell_word
  edge_facts q sd place words g b tr pass is at low place_is = let t : Heap = heap z words g.status in
      let seated : Seated z t (log_of g.order) (slot q) q.own = subst (λ (v : TreePass). Seated z t (log_of g.order)
      (slot v) v.own) is (tr.each q.number pass).seated in
      let held : Held z words g.status (slot q q.own.at) = subst (λ (v : TreePass). (slot v q.own.at).held ≡ true
      → Held z words g.status (slot v q.own.at)) is
      (b.hazards.held q.number q.own.at pass at) (seated.held at) in
      let word : t.link (slot q q.own.at).named sd ≡ get_or words place 0 = ap (λ (k : ℕ). get_or words k 0)
      (sym place_is) in record {
        some = λ nil. (seated.standing at).children sd low (ap target word ∙ nil);
        unflagged = λ e. sym (ap flag_bit word) ∙ tr.tree.unflagged (slot q q.own.at).named sd held.number held.used low
            (subst (λ (w : ℕ). IsEdge w 0) (sym word) e);
        below_root = λ root left. sym word ∙ (ap (λ (x : ℕ). t.link x sd) root ∙ (ap (t.link 1) left
            ∙ tr.tree.sentinels.left_of_root));
      }

  pub looks_at : (id place sd : ℕ) (me : Me Unit TreeView) → IsAlone me → me.0.known.own.at < 5
      → (slot me.0.known me.0.known.own.at).held ≡ true
      → sd < 2 → place ≡ cell_place z (slot me.0.known me.0.known.own.at).named (2 + sd)
      → Allows (Holds 2 opens (λ z words g. Trees z words g) z) 0 id me place (λ n. n) (λ n m'. (m'.1 ≡ [])
      × Looks sd place n me.0 m'.0)
  looks_at id place sd me lone at held low place_is = λ s h deep at_seat fits. let q : TreePass = me.0.known in
      let r = knowing opens z id place me (λ n. n)
      (λ n m'. (m'.1 ≡ []) × LoadedLink (learning has_mark q.own.at sd n q) n place me.0 m'.0) (EdgeFacts q sd) lone
      (λ words g b tr pass is. edge_facts q sd place words g b tr pass is at low place_is)
      (confirming.loads_held 2 opens (λ z words g. Trees z words g) trees_alike has_mark tree_freezes z 0 id place q.own.at sd
      me lone at low held place_is)
      s h deep at_seat fits in let f = r.4.1 in (
        r.0,
        r.1,
        r.2,
        r.3,
        (
          r.4.0.0,
          record {
            loaded = r.4.0.1;
            some = f.some;
            unflagged = f.unflagged;
            below_root =
                f.below_root;
          },
        ),
      )

  source_small : (words : List ℕ) (g : TreeState) (q : TreePass) (i sd place first bit : ℕ) → Base 2 z words g
      → Trees z words g → q.number < z.passes
      → g.of q.number ≡ q → MayCome z q i sd place first bit → IsSmall (get_or words place 0)
  source_small words g q i sd place first bit b tr pass is may = loads_small z words g q place b pass is (inr (
    q.own.at,
    (
      sd,
      (
        may.at,
        subst (λ (x : ℕ). x < 2) (sym may.side_is) (side_low (key_of q.own.call)
            (slot q q.own.at).key),
        stands_held z words g q tr pass is may.at,
        may.place_is,
      ),
    ),
  ))

  module _ (me : Me Unit TreeView) (i sd place first : ℕ) (may : MayCome z me.0.known i sd place first 0)
      (ends : tag_bit first ≡ 1 → PathEnds me.0.known)
      (words : List ℕ) (g : TreeState) (b : Base 2 z words g) (tr : Trees z words g) (pass : me.0.known.number < z.passes)
      (is : g.of me.0.known.number ≡ me.0.known) (sizes : me.0.known.sizes ≡ z) (e : get_or words place 0 ≡ first)
      (small : IsSmall (get_or words place 0)) where
    abbrev q : TreePass
    q = me.0.known

    abbrev then : ℕ → Me Unit TreeView → Type 0
    then n m' = (m'.1 ≡ []) × ComesTo i sd place first n me.0 m'.0

    abbrev n : ℕ
    n = get_or words place 0

    abbrev key : ℕ
    key = cell_word words z (target n) 0

    abbrev value : Halves
    value = halves (cell_word words z (target n) 1) (cell_word words z (target n) 4)

    plays : (own : TreeOwn) (leaf : ℕ) → own ≡ over_edge i (record {
      number =
          (slot q q.own.at).named;
      side = sd;
      word = first;
      leaf = leaf;
    }) first q.own
        → Trees z words (coming.g' z words g q (coming.came z words g q place i sd first b tr pass is may.low may.free
        may.named may.at may.side_is may.place_is 0 may.edge e own) 6 place b tr pass refl is)
        → Plays 2 opens (λ z words g. Trees z words g) confirm_step place n n z words g me.0 (then n)
    plays own leaf own_is added = record {
      known = coming.came z words g q place i sd first b tr pass is may.low may.free may.named may.at may.side_is may.place_is
          0 may.edge e own;
      status = g.status;
      changes = [];
      placed = [];
      keeps_rule = load_keeps 2 opens (λ z words g. Trees z words g) confirm_step place z words g q
          (coming.came z words g q place i sd first b tr pass is may.low may.free may.named may.at may.side_is may.place_is 0
          may.edge e own) g.status [] [] refl sizes
          (coming.base_came z words g q place i sd first b tr pass is may.low may.free may.named may.at may.side_is
          may.place_is 0 may.edge e own) added;
      tells = λ v is_now made. (
        refl,
        record {
          small = small;
          same = λ _. (
            leaf,
            (
              key,
              (
                value,
                subst (λ (c : ℕ). MadeQuietStep confirm_step place n n (record q {
                  walk = set q.walk i (holding c key value);
                  own = over_edge i (record { number = (slot q q.own.at).named; side = sd; word = first; leaf = leaf }) first q.own;
                }) me.0 v) (ap target e) (subst (λ (o : TreeOwn). MadeQuietStep confirm_step place n n
                    (record q { walk = set q.walk i (holding (target n) key value); own = o }) me.0 v) own_is made),
              ),
            ),
          );
          other = λ ne. absurd (ne e);
        },
      );
    }

    comes : Plays 2 opens (λ z words g. Trees z words g) confirm_step place n n z words g me.0 (then n)
    comes = dite (ℕ_discrete (tag_bit first) 0)
        (λ plain. plays (record q.own { at = i; top = i; path = []; flag = 2 }) 0
        (sym (ap (λ (c : Bool). cond c (record q.own { at = i; top = i; path = []; flag = 2 })
        (record q.own {
          at = i;
          path = q.own.path ++ record {
            number =
                (slot q q.own.at).named;
            side = sd;
            word = first;
            leaf = 0;
          } ∷ [];
          flag = 2;
        }))
        (eq-eqb (tag_bit first) 0 plain)))
        (coming.came_to_successor z words g q place i sd first b tr pass is may.low may.free may.named may.at may.side_is
        may.place_is 0 may.edge e refl))
        (λ ne. let tag : tag_bit first ≡ 1 = tag_one first ne in let end = ends tag in
        let next = coming.came_to_next z words g q place i sd first b tr pass is may.low may.free may.named may.at may.side_is
        may.place_is 0 may.edge e
        refl tag end.first end.last end.begins end.joined end.ends in
        plays (record q.own {
          at = i;
          path = q.own.path ++ record {
            number =
                (slot q q.own.at).named;
            side = sd;
            word = first;
            leaf = next.0;
          } ∷ [];
          flag = 2;
        }) next.0
        (sym (ap (λ (c : Bool). cond c (record q.own { at = i; top = i; path = []; flag = 2 })
        (record q.own {
          at = i;
          path = q.own.path ++ record {
            number =
                (slot q q.own.at).named;
            side = sd;
            word = first;
            leaf = next.0;
          } ∷ [];
          flag = 2;
        }))
        (ne_eqb (tag_bit first) 0 ne))) next.1)
      where
        tag_one : (w : ℕ) → tag_bit w ≢ 0 → tag_bit w ≡ 1
        tag_one w some_bit = omega arith

  pub comes_to : (id place i sd first : ℕ) (me : Me Unit TreeView) → IsAlone me → MayCome z me.0.known i sd place first 0
      → (tag_bit first ≡ 1 → PathEnds me.0.known)
      → Allows (Holds 2 opens (λ z words g. Trees z words g) z) 0 id me place (λ n. n) (λ n m'. (m'.1 ≡ [])
      × ComesTo i sd place first n me.0 m'.0)
  comes_to id place i sd first me lone may ends = allows 2 opens (λ z words g. Trees z words g) z 0 id place confirm_step me
      (λ n. n) (λ n. n)
      (λ n m'. (m'.1 ≡ []) × ComesTo i sd place first n me.0 m'.0) lone (λ m no. refl) (λ m bad. absurd (false≢true bad)) (λ m is. refl)
      (λ words g b tr pass is sizes fits. let n : ℕ = get_or words place 0 in
      let small : IsSmall n = source_small words g me.0.known i sd place first 0 b tr pass is may in dite (ℕ_discrete n first)
      (λ e. comes me i sd place first may ends words g b tr pass is sizes e small)
      (λ ne. record {
        known = me.0.known;
        status = g.status;
        changes = [];
        placed = [];
        keeps_rule = idle_keeps 2 opens (λ z words g. Trees z words g) trees_alike confirm_step place z words g me.0.known b tr
            pass is sizes;
        tells = λ v is_now made. (refl, record { small = small; same = λ e. absurd (ne e); other = λ _. made });
      }))

  -- The confirming load of an edge to a leaf, where the word is as it was.
  module _ (me : Me Unit TreeView) (i sd place first : ℕ) (may : MayCome z me.0.known i sd place first 1) (words : List ℕ)
      (g : TreeState)
      (b : Base 2 z words g) (tr : Trees z words g) (pass : me.0.known.number < z.passes)
      (is : g.of me.0.known.number ≡ me.0.known)
      (sizes : me.0.known.sizes ≡ z) (e : get_or words place 0 ≡ first) (small : IsSmall (get_or words place 0)) where
    abbrev q1 : TreePass
    q1 = me.0.known

    abbrev n1 : ℕ
    n1 = get_or words place 0

    abbrev key1 : ℕ
    key1 = cell_word words z (target first) 0

    abbrev value1 : Halves
    value1 = halves (cell_word words z (target first) 1) (cell_word words z (target first) 4)

    abbrev a1 : Option ℕ
    a1 = found_at (key_of q1.own.call) key1 value1 first

    abbrev then1 : ℕ → Me Unit TreeView → Type 0
    then1 n m' = (m'.1 ≡ []) × EndsAt i sd place first n me.0 m'.0

    right1 : IsRight (log_of g.order) q1.own.start (key_of q1.own.call) a1
    right1 = coming.right_there z words g q1 place i sd first b tr pass is may.low may.free may.named may.at may.side_is
        may.place_is 1 may.edge e refl

    abbrev known1 : Bool → TreePass
    known1 going = coming.came z words g q1 place i sd first b tr pass is may.low may.free may.named may.at may.side_is
        may.place_is 1 may.edge e
        (coming.at_leaf z words g q1 place i sd first b tr pass is may.low may.free may.named may.at may.side_is may.place_is 1
        may.edge e going)

    -- the walk word has what was published
    held_there : {kind left : ℕ} {cs : List Change} {ps : List Placed} (going : Bool) (v : TreeView)
        → MadeStep kind place n1 left cs ps (known1 going) me.0 v → MadeStep kind place n1 left cs ps
        (ended_pass i sd first key1 value1 going q1) me.0 v
    held_there {kind} {left} {cs} {ps} going v made = subst (λ (c : ℕ). MadeStep kind place n1 left cs ps (record q1 {
      walk = set q1.walk i (holding c (cell_word words z c 0) (halves (cell_word words z c 1) (cell_word words z c 4)));
      own = record q1.own { going = going; flag = cond (eqb (flag_bit first) 1) sd 2; beside = target first };
    }) me.0 v) (ap target e) made

    -- the reply is settled
    settles1 : q1.own.going ≡ true → changes (reply_at q1.own.call a1) ≡ false
        → Plays 2 opens (λ z words g. Trees z words g) end_step place n1 n1 z words g me.0 (then1 n1)
    settles1 on idle = let known : TreePass = known1 false in
        let l = settling.least z words g q1 known end_step place b tr pass refl is a1 right1 in
        let settled : Placed = settling.settled z words g q1 known end_step place b tr pass refl is a1 right1 in
        let added = settling.settles_at_leaf z words g q1 place i sd first b tr pass is may.low may.free may.named may.at
        may.side_is may.place_is may.edge e
        on idle right1 in
        let base = settling.base_settled z words g q1 place i sd first b tr pass is may.low may.free may.named may.at
        may.side_is may.place_is may.edge e right1 in record {
          known = known;
          status = g.status;
          changes = [];
          placed = settled ∷ [];
          keeps_rule = load_keeps 2 opens (λ z words g. Trees z words g) end_step place z words g q1 known g.status []
              (settled ∷ []) refl sizes base added;
          tells = λ v is_now made. let log : log_of v.order ≡ log_of g.order = log_quiet g.order known
              (entry end_step place n1 n1 [] (settled ∷ []) g.order known) v is_now refl refl in (
                refl,
                record {
                  small = small;
                  same = λ _. (
                    key1,
                    (
                      value1,
                      record {
                        settled = λ _ _. record {
                          at = l.place;
                          since = l.since;
                          within = subst (λ (x : List Change). l.place ≤ length x) (sym log) l.within;
                          right = subst (λ (x : List Change). reply (after x l.place) q1.own.call ≡ reply_at q1.own.call a1)
                              (sym log) (ap (reply_at q1.own.call) l.right);
                          least = λ p low high same. l.least p low high (reply_once q1.own.call a1 (find (after (log_of g.order) p)
                              (key_of q1.own.call)) idle
                              (subst (λ (x : List Change). reply (after x p) q1.own.call ≡ reply_at q1.own.call a1) log same));
                          made = subst (λ (w : ℕ). MadeStep end_step place w w [] (settled ∷ [])
                              (ended_pass i sd first key1 value1 false q1) me.0 v) e
                              (held_there false v made);
                          stands = subst (λ (u : TreeView). Stands (log_of u.order) u.known.number
                              (placed_by u.known.number u.order)) (sym is_now)
                              (added.each q1.number pass).stands;
                        };
                        effect = λ _ change. absurd (false≢true (sym idle ∙ change));
                        again = λ off. absurd (false≢true (sym off ∙ on));
                      },
                    ),
                  );
                  other = λ ne. absurd (ne e);
                },
              );
        }

    -- it isn't: the call goes on, or had taken effect
    goes1 : (going : Bool) → q1.own.going ≡ going → (going ≡ true → changes (reply_at q1.own.call a1) ≡ true)
        → Plays 2 opens (λ z words g. Trees z words g) end_step place n1 n1 z words g me.0 (then1 n1)
    goes1 going is_going change = let known : TreePass = known1 q1.own.going in record {
      known = known;
      status = g.status;
      changes = [];
      placed = [];
      keeps_rule = load_keeps 2 opens (λ z words g. Trees z words g) end_step place z words g q1 known g.status [] [] refl sizes
          (coming.base_leaf z words g q1 place i sd first b tr pass is may.low may.free may.named may.at may.side_is
          may.place_is 1 may.edge e)
          (coming.came_to_leaf z words g q1 place i sd first b tr pass is may.low may.free may.named may.at may.side_is
          may.place_is 1 may.edge e);
      tells = λ v is_now made. let log : log_of v.order ≡ log_of g.order = log_quiet g.order known
          (entry end_step place n1 n1 [] [] g.order known) v is_now refl refl in
          let right : IsRight (log_of v.order) q1.own.start (key_of q1.own.call) a1 = subst (λ
          (l : List Change). IsRight l q1.own.start (key_of q1.own.call) a1) (sym log) right1 in
          let there : (on : Bool) → q1.own.going ≡ on → EndsGoing
          (ended_pass i sd first key1 value1 on q1) place first a1 me.0 v = λ on is_on. record {
            made = subst (λ (x : Bool). MadeQuietStep end_step place first first
                (ended_pass i sd first key1 value1 x q1) me.0 v) is_on
                (subst (λ (w : ℕ). MadeStep end_step place w w [] []
                (ended_pass i sd first key1 value1 q1.own.going q1) me.0 v) e (held_there q1.own.going v made));
            right = right;
          } in (
            refl,
            record {
              small = small;
              same = λ _. (
                key1,
                (
                  value1,
                  record {
                    settled = λ on idle. absurd (false≢true (sym idle ∙ change (sym is_going ∙ on)));
                    effect = λ on _. there true on;
                    again = λ off. there false off;
                  },
                ),
              );
              other = λ ne. absurd (ne e);
            },
          );
    }

    by_bool1 : {X : Type 0} (c : Bool) → (c ≡ false → X) → (c ≡ true → X) → X
    by_bool1 true x y = y refl
    by_bool1 false x y = x refl

    ends1 : Plays 2 opens (λ z words g. Trees z words g) end_step place n1 n1 z words g me.0 (then1 n1)
    ends1 = by_bool1 q1.own.going (λ off. goes1 false off (λ bad. absurd (false≢true bad)))
        (λ on. by_bool1 (changes (reply_at q1.own.call a1)) (λ idle. settles1 on idle) (λ change. goes1 true on (λ _. change)))

  pub ends_at : (id place i sd first : ℕ) (me : Me Unit TreeView) → IsAlone me → MayCome z me.0.known i sd place first 1
      → Allows (Holds 2 opens (λ z words g. Trees z words g) z) 0 id me place (λ n. n) (λ n m'. (m'.1 ≡ [])
      × EndsAt i sd place first n me.0 m'.0)
  ends_at id place i sd first me lone may = allows 2 opens (λ z words g. Trees z words g) z 0 id place end_step me (λ n. n)
      (λ n. n)
      (λ n m'. (m'.1 ≡ []) × EndsAt i sd place first n me.0 m'.0) lone (λ m no. refl) (λ m bad. absurd (false≢true bad)) (λ m is. refl)
      (λ words g b tr pass is sizes fits. let n : ℕ = get_or words place 0 in
      let small : IsSmall n = source_small words g me.0.known i sd place first 1 b tr pass is may in dite (ℕ_discrete n first)
      (λ e. ends1 me i sd place first may words g b tr pass is sizes e small)
      (λ ne. record {
        known = me.0.known;
        status = g.status;
        changes = [];
        placed = [];
        keeps_rule = idle_keeps 2 opens (λ z words g. Trees z words g) trees_alike end_step place z words g me.0.known b tr
            pass is sizes;
        tells = λ v is_now made. (refl, record { small = small; same = λ e. absurd (ne e); other = λ _. made });
      }))
