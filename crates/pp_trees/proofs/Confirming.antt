-- The loads of a seek, with the words and the passes: a call begins, and comes to stand at the record that a confirmed edge
-- leads to.
use Rattle.std.proofs.Common.{◌≡◌, inl, inr, ℕ, ◌+◌, ◌<◌, ◌≤◌, Bool, true, false, cond, eqb, List, [], ◌∷◌, ◌++◌, length}
use Rattle.std.proofs.Common.{get_or, set, Some}
use Rattle.std.proofs.Common.{refl, sym, ap, ◌∙◌, subst, arith, append-nil, eq-eqb, ne_eqb}
use Rattle.std.proofs.Math.Decide.{ℕ_discrete}
use mathlib.Core.Logic.{dite}
use Rattle.std.specs.Prelude.{slice_get}
use Rattle.std.proofs.Math.Bool.{false≢true}
use Rattle.pp_link.specs.declared.layout.Sizes.{Sizes}
use Rattle.pp_link.specs.Links.{target, flag_bit, tag_bit, invalid_bit}
use Rattle.pp_link.specs.Places.{IsNumber, head_place, cell_place}
use Rattle.pp_link.specs.Words.{head_word, cell_word}
use Rattle.pp_model.specs.declared.Call.{Call}
use Rattle.pp_model.specs.declared.Change.{Change}
use Rattle.pp_model.specs.declared.Placed.{Placed}
use Rattle.pp_model.specs.Calls.{key_of}
use Rattle.pp_model.specs.History.{contents_of, Sound, Stands}
use Rattle.pp_model.proofs.Histories.{fits_within}
use Rattle.pp_rule.specs.Orders.{log_of, placed_by}
use Rattle.pp_rule.specs.declared.views.LoggedStep.{LoggedStep}
use Rattle.pp_rule.specs.declared.views.WalkSlot.{WalkSlot}
use Rattle.pp_rule.specs.Views.{slot, halves}
use Rattle.pp_rule.specs.States.{RecordState, attached, in_hand, retired, owned, shelved, IsUsed, IsLinked, Held}
use Rattle.pp_rule.specs.Rule.{Base}
use Rattle.pp_rule.specs.Steps.{entry, holding}
use Rattle.pp_rule.proofs.Keeping.{base_idle}
use Rattle.pp_rule.proofs.Slots.{slot_here, slot_else}
use Rattle.pp_rule.proofs.Stepping.{after_step}
use Rattle.pp_rule.proofs.Histories.{log_snoc, placed_here}
use Rattle.pp_rule.proofs.Confirming.{base_confirmed}
use Rattle.pp_trees.specs.declared.own.TreeOwn.{TreeOwn}
use Rattle.pp_trees.specs.Trees.{Heap, heap, side, across, edge, answer, IsEdge, IsRight, inf0, Standing, Mapped, Fewer}
use Rattle.pp_trees.specs.Trees.{Remains}
use Rattle.pp_trees.specs.TaggedPaths.{Passed, Joined, Intact}
use Rattle.pp_trees.specs.Searches.{TreePass, TreeState, Seated, Searches, Trees}
use Rattle.pp_trees.specs.Seeks.{begun, at_root}
use Rattle.pp_trees.proofs.Walking.{side_low}
use Rattle.pp_trees.proofs.Standing.{stands_at_root, right_at_leaf}
use Rattle.pp_trees.proofs.Adding.{base_moved}
use Rattle.pp_trees.proofs.Steady.{lasting_fewer}
use Rattle.pp_trees.proofs.Heaps.{sane_of}
use Rattle.pp_trees.proofs.Seeking.{seated_at_root, seated_at_successor, seated_at_next}
use Rattle.pp_rule.proofs.Put.{put_each}
use Rattle.pp_trees.proofs.Remaining.{remains_on}
use Rattle.pp_trees.proofs.Stepping.{trees_stepped}

-- nothing was written, and the lists of what was removed are as they were
pub remains_loaded : (z : Sizes) (t : Heap) (left left' : ℕ → List ℕ) → ((p : ℕ) → p < z.passes → left' p ≡ left p)
    → Remains z t left → Remains z t left'
remains_loaded z t left left' same m = remains_on z t t left left' same
    (λ n r i lt f. record { parent = n; side_is = r; internal = i; low = lt; flag = f; to = refl }) (λ l on. on) (λ l y on. y) m

pub fewer_self : (z : Sizes) (t : Heap) → Fewer z t t
fewer_self z t = record {
  heads = λ h lt. refl;
  used_was = λ n u. u;
  linked_was = λ n l. refl;
  attached_on = λ n on. on;
  keys = λ n number u. refl;
  values = λ n number u. refl;
  valid = λ n s number u lt valid. refl;
  rest = λ n s number u lt. (refl, refl);
}

-- a record in use with a valid link is attached or in hand
pub linked_of : (z : Sizes) (words : List ℕ) (g : TreeState) (n s : ℕ) → Base 2 z words g → IsNumber z n
    → IsUsed (g.status n) → s < 2
    → invalid_bit (cell_word words z n (2 + s)) ≡ 0 → IsLinked (g.status n)
linked_of z words g n s b number used lt valid = go (g.status n) refl used
  where
    go : (st : RecordState) → g.status n ≡ st → IsUsed st → IsLinked (g.status n)
    go attached e u = subst IsLinked (sym e) tt
    go (in_hand p j) e u = subst IsLinked (sym e) tt
    go (retired p) e u = let r = b.links.spent n s p number lt e in let one = r.1 in absurd (omega arith)
    go (owned p) e u = absurd u
    go (shelved j) e u = absurd u

module _ (z : Sizes) (words : List ℕ) (g : TreeState) (q q' : TreePass) (kind place : ℕ) (b : Base 2 z words g)
    (tr : Trees z words g)
    (pass : q'.number < z.passes) (number : q'.number ≡ q.number) (is : g.of q.number ≡ q) where
  abbrev t : Heap
  t = heap z words g.status

  abbrev pub step : LoggedStep Change Placed
  step = entry kind place (get_or words place 0) (get_or words place 0) [] [] g.order q'

  abbrev pub g' : TreeState
  g' = after_step g q' g.status step

  log_is : log_of g'.order ≡ log_of g.order
  log_is = log_snoc g.order step ∙ append-nil (log_of g.order)

  mine : Searches z t (log_of g.order) q.number (slot q) q.own (placed_by q.number g.order)
  mine = subst (λ (v : TreePass). Searches z t (log_of g.order) q.number (slot v) v.own (placed_by q.number g.order)) is
      (tr.each q.number (subst (λ (p : ℕ). p < z.passes) number pass))

  placed_is : placed_by q'.number g'.order ≡ placed_by q.number g.order
  placed_is = placed_here g.order step ∙ (append-nil (placed_by q'.number g.order) ∙ ap (λ (p : ℕ). placed_by p g.order) number)

  -- a load after which the pass stands elsewhere, where its call goes on or begins
  pub trees_loaded : q'.own.left ≡ q.own.left → Base 2 z words g' → q'.own.start ≤ length (log_of g.order)
      → (q'.own.going ≡ true → (i : ℕ) (x : Placed) → slice_get (placed_by q.number g.order) i ≡ Some x → x.place ≤ q'.own.start)
      → Seated z t (log_of g.order) (slot q') q'.own → Trees z words g'
  trees_loaded left b' start going seated = let sane = sane_of z words g b in
      trees_stepped z words words g q q' g.status step b b' tr pass refl (λ i c e. absurd cc) (subst Sound
      (sym log_is) tr.sound) tr.tree
      (subst (λ (l : List Change). Mapped z t (contents_of l)) (sym log_is) tr.mapped)
      (remains_loaded z t (λ p. (g.of p).own.left) (λ p. (g'.of p).own.left) (λ r lt. put_each (λ (r : ℕ)
      (v : TreePass). v.own.left ≡ (g.of r).own.left) g.of q'.number q'
      (left ∙ (ap (λ (v : TreePass). v.own.left) (sym is) ∙ ap (λ (p : ℕ). (g.of p).own.left) (sym number)))
      (λ r ne. refl) r) tr.remains) (lasting_fewer z t t sane tr.tree sane (fewer_self z t)) record {
        stands = subst (λ (l : List Change). Stands l q'.number (placed_by q'.number g'.order)) (sym log_is)
            (subst (Stands (log_of g.order) q'.number) (sym placed_is) (subst (λ (p : ℕ). Stands (log_of g.order) p
            (placed_by q.number g.order)) (sym number) mine.stands));
        since = let l = ap (λ (x : List Change). length x) log_is in omega arith;
        earlier = λ on i x at. going on i x (ap (λ (l : List Placed). slice_get l i) (sym placed_is) ∙ at);
        seated = subst (λ (l : List Change). Seated z t l (slot q') q'.own) (sym log_is) seated;
      }

  -- the first load of a call begins it: no earlier call has a place behind it
  pub earlier_all : (i : ℕ) (x : Placed) → slice_get (placed_by q.number g.order) i ≡ Some x → x.place ≤ length (log_of g.order)
  earlier_all i x at = fits_within (log_of g.order) q.number (i + 1) x (mine.stands.each i x at)

-- The confirming load of an edge of the record where the call stands, to an internal record: the call stands there.
module _ (z : Sizes) (words : List ℕ) (g : TreeState) (q : TreePass) (place i sd first : ℕ) (b : Base 2 z words g)
    (tr : Trees z words g)
    (pass : q.number < z.passes) (is : g.of q.number ≡ q) (low : i < 5) (free : (slot q i).held ≡ false) (named :
    (slot q i).named ≡ target first)
    (at : q.own.at < 5) (side_is : sd ≡ side (key_of q.own.call) (slot q q.own.at).key) (place_is : place ≡ cell_place z
    (slot q q.own.at).named (2 + sd))
    (bit : ℕ) (is_edge : IsEdge first bit) (found : get_or words place 0 ≡ first) where
  abbrev t1 : Heap
  t1 = heap z words g.status

  seated : Seated z t1 (log_of g.order) (slot q) q.own
  seated = subst (λ (v : TreePass). Seated z t1 (log_of g.order) (slot v) v.own) is (tr.each q.number pass).seated

  held : Held z words g.status (slot q q.own.at)
  held = subst (λ (v : TreePass). (slot v q.own.at).held ≡ true → Held z words g.status (slot v q.own.at)) is
      (b.hazards.held q.number q.own.at pass at) (seated.held at)

  abbrev c : ℕ
  c = target (get_or words place 0)

  abbrev w : WalkSlot
  w = holding c (cell_word words z c 0) (halves (cell_word words z c 1) (cell_word words z c 4))

  -- the pass with any own part of its shape
  abbrev pub came : TreeOwn → TreePass
  came own = record q { walk = set q.walk i w; own = own }

  five : length q.walk ≡ 5
  five = ap (λ (v : TreePass). length v.walk) (sym is) ∙ b.hazards.five q.number pass

  here : (own : TreeOwn) → slot (came own) i ≡ holding c (cell_word words z c 0) (halves (cell_word words z c 1)
      (cell_word words z c 4))
  here own = slot_here q (came own) i w refl (omega (arith, five))

  others : (own : TreeOwn) (j : ℕ) → j < 5 → (slot q j).held ≡ true → slot (came own) j ≡ slot q j
  others own j lt on = slot_else q (came own) i w refl j (λ e. false≢true (sym free
      ∙ (ap (λ (k : ℕ). (slot q k).held) (sym e) ∙ on)))

  side_low' : sd < 2
  side_low' = subst (λ (x : ℕ). x < 2) (sym side_is) (side_low (key_of q.own.call) (slot q q.own.at).key)

  word : t1.link (slot q q.own.at).named sd ≡ first
  unfolding cell_word
  word = ap (λ (k : ℕ). get_or words k 0) (sym place_is) ∙ found

  linked : IsLinked (g.status (slot q q.own.at).named)
  linked = linked_of z words g (slot q q.own.at).named sd b held.number held.used side_low' (ap invalid_bit word ∙ is_edge.0)

  pub base_came : (own : TreeOwn) → Base 2 z words (g' z words g q (came own) 6 place b tr pass refl is)
  base_came own = base_confirmed 2 z words g q (came own) i (step z words g q
      (came own) 6 place b tr pass refl is) place b pass is low
      (inr (q.own.at, (sd, (at, side_low', seated.held at, place_is)))) (ap invalid_bit found
      ∙ is_edge.0) (λ e. is_edge.2 (sym (ap target found) ∙ e)) (named ∙ sym (ap target found))
      record {
        number = refl;
        sizes = refl;
        owned = refl;
        retired_are = refl;
        frontier = refl;
        chains = refl;
        scan = refl;
        walk
            = refl;
      }

  since_on : q.own.start ≤ length (log_of g.order)
  since_on = (mine z words g q q 6 place b tr pass refl is).since

  going_on : q.own.going ≡ true → (i : ℕ) (x : Placed) → slice_get (placed_by q.number g.order) i ≡ Some x → x.place ≤ q.own.start
  going_on on = (mine z words g q q 6 place b tr pass refl is).earlier on

  side_there : sd ≡ side (key_of q.own.call) (t1.key (slot q q.own.at).named)
  side_there = side_is ∙ ap (side (key_of q.own.call)) (sym held.key)

  -- over an untagged edge
  pub came_to_successor : bit ≡ 0 → Trees z words (g' z words g q (came
      (record q.own { at = i; top = i; path = []; flag = 2 })) 6 place b tr pass refl is)
  came_to_successor inner = let own : TreeOwn = record q.own { at = i; top = i; path = []; flag = 2 } in
      trees_loaded z words g q (came own) 6 place b tr pass refl is refl (base_came own) since_on going_on
      (seated_at_successor z t1 (sane_of z words g b) tr.tree (log_of g.order) (slot q) (slot (came own)) q.own i c
      (cell_word words z c 0) (halves (cell_word words z c 1) (cell_word words z c 4)) low (here own) (others own)
      seated at sd first held.number linked side_there word (subst (IsEdge first) inner is_edge) (ap target found))

  -- over a tagged edge, where the path so far leads to the record where the call stands
  pub came_to_next : bit ≡ 0 → tag_bit first ≡ 1 → (start last : ℕ) → (q.own.top < 5
      → target start ≡ (slot q q.own.top).named) → (q.own.top < 5 → Joined start q.own.path last)
      → (slot q q.own.at).named ≡ target last → (leaf : ℕ) × Trees z words (g' z words g q
      (came (record q.own {
        at = i;
        path = q.own.path ++ record {
          number =
              (slot q q.own.at).named;
          side = sd;
          word = first;
          leaf = leaf;
        } ∷ [];
        flag = 2;
      })) 6 place b tr pass refl is)
  came_to_next inner tag start last begins j end = let leaf : ℕ = target (t1.link (slot q q.own.at).named (across sd)) in
      let own : TreeOwn = record q.own {
        at = i;
        path = q.own.path ++ record {
          number =
              (slot q q.own.at).named;
          side = sd;
          word = first;
          leaf = leaf;
        } ∷ [];
        flag = 2;
      } in (
        leaf,
        trees_loaded z words g q (came own) 6 place b tr pass refl is refl (base_came own) since_on going_on
            (seated_at_next z t1 (sane_of z words g b) tr.tree (log_of g.order) (slot q) (slot (came own)) q.own i c
            (cell_word words z c 0) (halves (cell_word words z c 1) (cell_word words z c 4)) low (here own) (others own)
            seated at sd first held.number linked side_there word (subst (IsEdge first) inner is_edge)
            (ap target found) tag start last begins j end),
      )

  -- The edge leads to a leaf: the call stays where it stands, holds the leaf, and knows FLAG of the edge.
  abbrev pub at_leaf : Bool → TreeOwn
  at_leaf going = record q.own { going = going; flag = cond (eqb (flag_bit first) 1) sd 2; beside = target first }

  same_seat : (own : TreeOwn) → own.at ≡ q.own.at → own.top ≡ q.own.top → own.path ≡ q.own.path → own.call ≡ q.own.call
      → own.start ≡ q.own.start
      → (own.at < 5 → own.flag < 2 → flag_bit (t1.link (slot q q.own.at).named own.flag) ≡ 1)
      → (own.at < 5 → own.flag < 2 → target (t1.link (slot q q.own.at).named own.flag) ≡ own.beside)
      → Seated z t1 (log_of g.order) (slot (came own)) own
  same_seat own a tp p cl st flag to = record {
    held = λ lt. subst (λ (j : ℕ). (slot (came own) j).held ≡ true) (sym a) (ap (λ (x : WalkSlot). x.held)
        (others own q.own.at at (seated.held at)) ∙ seated.held at);
    since = λ lt. subst (λ (x : ℕ). x ≤ length (log_of g.order)) (sym st) (seated.since at);
    pair = λ lt. subst (λ (x : Call). key_of x < inf0) (sym cl) (seated.pair at);
    standing = λ lt. subst (λ (j : ℕ). Standing t1 (log_of g.order) own.start (key_of own.call) (slot (came own) j).named) (sym a)
        (subst (λ (x : WalkSlot). Standing t1 (log_of g.order) own.start (key_of own.call) x.named) (sym
        (others own q.own.at at (seated.held at)))
        (subst (λ (x : ℕ). Standing t1 (log_of g.order) x (key_of own.call) (slot q q.own.at).named) (sym st)
        (subst (λ (x : Call). Standing t1 (log_of g.order) q.own.start (key_of x) (slot q q.own.at).named) (sym cl)
        (seated.standing at))));
    flag = λ lt two. subst (λ (j : ℕ). flag_bit (t1.link (slot (came own) j).named own.flag) ≡ 1) (sym a)
        (subst (λ (x : WalkSlot). flag_bit (t1.link x.named own.flag) ≡ 1) (sym (others own q.own.at at (seated.held at)))
        (flag lt two));
    beside = λ lt two. ap (λ (j : ℕ). target (t1.link (slot (came own) j).named own.flag)) a
        ∙ (ap (λ (x : WalkSlot). target (t1.link x.named own.flag)) (others own q.own.at at (seated.held at)) ∙ to lt two);
    top_held = λ lt. let low' = subst (λ (x : ℕ). x < 5) tp lt in
        subst (λ (j : ℕ). (slot (came own) j).held ≡ true) (sym tp) (ap (λ (x : WalkSlot). x.held) (others own q.own.top low'
        (seated.top_held low')) ∙ seated.top_held low');
    joined = λ lt. let low' = subst (λ (x : ℕ). x < 5) tp lt in let j = seated.joined low' in (
      j.0,
      (
        j.1.0,
        (
          subst (λ (k : ℕ). target j.0 ≡ (slot (came own) k).named) (sym tp) (j.1.1.0
              ∙ ap (λ (x : WalkSlot). x.named) (sym (others own q.own.top low' (seated.top_held low')))),
          subst (λ (cs : List Passed). Joined j.0 cs j.1.0) (sym p) j.1.1.1,
        ),
      ),
    );
    intact = λ lt on. let low' = subst (λ (x : ℕ). x < 5) tp lt in
        subst (Intact z t1) (sym p) (seated.intact low' (subst (λ (x : WalkSlot). t1.state x.named ≡ attached)
        (others own q.own.top low' (seated.top_held low'))
        (subst (λ (k : ℕ). t1.state (slot (came own) k).named ≡ attached) tp on)));
  }

  flag_there : (going : Bool) → (at_leaf going).at < 5 → (at_leaf going).flag < 2
      → flag_bit (t1.link (slot q q.own.at).named (at_leaf going).flag) ≡ 1
  flag_there going lt two = dite (ℕ_discrete (flag_bit first) 1)
      (λ e. subst (λ (r : ℕ). flag_bit (t1.link (slot q q.own.at).named r) ≡ 1) (sym (ap (λ (b : Bool). cond b sd 2) (eq-eqb
      (flag_bit first) 1 e))) (ap flag_bit word ∙ e))
      (λ ne. let off : cond (eqb (flag_bit first) 1) sd 2 ≡ 2 = ap (λ (b : Bool). cond b sd 2) (ne_eqb
      (flag_bit first) 1 ne) in absurd (omega arith))

  beside_there : (going : Bool) → (at_leaf going).at < 5 → (at_leaf going).flag < 2
      → target (t1.link (slot q q.own.at).named (at_leaf going).flag) ≡ target first
  beside_there going lt two = dite (ℕ_discrete (flag_bit first) 1)
      (λ e. subst (λ (r : ℕ). target (t1.link (slot q q.own.at).named r) ≡ target first) (sym (ap (λ (b : Bool). cond b sd 2)
      (eq-eqb (flag_bit first) 1 e))) (ap target word))
      (λ ne. let off : cond (eqb (flag_bit first) 1) sd 2 ≡ 2 = ap (λ (b : Bool). cond b sd 2) (ne_eqb
      (flag_bit first) 1 ne) in absurd (omega arith))

  pub seated_at_leaf : (going : Bool) → Seated z t1 (log_of g.order) (slot (came (at_leaf going))) (at_leaf going)
  seated_at_leaf going = same_seat (at_leaf going) refl refl refl refl refl (flag_there going) (beside_there going)

  -- what the call finds at the leaf is right since its start
  pub right_there : bit ≡ 1 → IsRight (log_of g.order) q.own.start (key_of q.own.call) (answer t1 (key_of q.own.call) first)
  right_there leaf = let e : edge t1 (key_of q.own.call) (slot q q.own.at).named ≡ first = ap (t1.link
      (slot q q.own.at).named) (sym side_there) ∙ word in
      subst (λ (x : ℕ). IsRight (log_of g.order) q.own.start (key_of q.own.call) (answer t1 (key_of q.own.call) x)) e
      (right_at_leaf z t1 (log_of g.order) q.own.start (key_of q.own.call) (sane_of z words g b) tr.tree
      (slot q q.own.at).named (seated.standing at)
      (subst (λ (x : ℕ). IsEdge x 1) (sym e) (subst (IsEdge first) leaf is_edge)))

  pub base_leaf : Base 2 z words (g' z words g q (came (at_leaf q.own.going)) 24 place b tr pass refl is)
  base_leaf = base_moved 2 z words words (g' z words g q (came (at_leaf q.own.going)) 6 place b tr pass refl is)
      (g' z words g q (came (at_leaf q.own.going)) 24 place b tr pass refl is) refl (λ p. refl) refl (base_came
      (at_leaf q.own.going))

  -- the seek ends, and the call goes on
  pub came_to_leaf : Trees z words (g' z words g q (came (at_leaf q.own.going)) 24 place b tr pass refl is)
  came_to_leaf = trees_loaded z words g q (came (at_leaf q.own.going)) 24 place b tr pass refl is refl
      base_leaf since_on going_on (seated_at_leaf q.own.going)

-- The first load of a call: it begins, at the head.
module _ (z : Sizes) (words : List ℕ) (g : TreeState) (q : TreePass) (b : Base 2 z words g) (tr : Trees z words g)
    (pass : q.number < z.passes) (is : g.of q.number ≡ q) where
  abbrev pub begins_as : Call → TreePass
  begins_as call = record q { own = begun call (length (log_of g.order)) q.own.left }

  pub base_begins : (place : ℕ) (call : Call) → Base 2 z words (g' z words g q (begins_as call) 4 place b tr pass refl is)
  base_begins place call = base_idle 2 z words g q (begins_as call) (step z words g q
      (begins_as call) 4 place b tr pass refl is) b pass is
      record {
        rest = record {
          number = refl;
          sizes = refl;
          retired_are = refl;
          walk = refl;
          frontier = refl;
          chains = refl;
          scan = refl;
        };
        owned = refl;
      }

  pub begins_call : (place : ℕ) (call : Call) → Trees z words (g' z words g q (begins_as call) 4 place b tr pass refl is)
  begins_call place call = trees_loaded z words g q (begins_as call) 4 place b tr pass refl is refl
      (base_idle 2 z words g q (begins_as call) (step z words g q (begins_as call) 4 place b tr pass refl is) b pass is
      record {
        rest = record {
          number = refl;
          sizes = refl;
          retired_are = refl;
          walk = refl;
          frontier = refl;
          chains = refl;
          scan = refl;
        };
        owned = refl;
      })
      (omega arith) (λ on. earlier_all z words g q q 4 place b tr pass refl is)
      record {
        held = λ lt. absurd (omega arith);
        since = λ lt. absurd (omega arith);
        pair = λ lt. absurd (omega arith);
        standing = λ lt. absurd (omega arith);
        flag = λ lt two. absurd (omega arith);
        beside = λ lt two. absurd (omega arith);
        top_held = λ lt. absurd (omega arith);
        joined = λ lt. absurd (omega arith);
        intact = λ lt on. absurd (omega arith);
      }

  -- The confirming load of the head: the call, which may have taken effect already, stands at the root.
  module _ (place i first : ℕ) (low : i < 5) (free : (slot q i).held ≡ false) (named : (slot q i).named ≡ target first)
      (place_is : place ≡ head_place z 0)
      (found : get_or words place 0 ≡ first) (pair : key_of q.own.call < inf0) where
    abbrev w0 : WalkSlot
    w0 = holding (target (get_or words place 0)) (cell_word words z (target (get_or words place 0)) 0) (halves
        (cell_word words z (target (get_or words place 0)) 1) (cell_word words z (target (get_or words place 0)) 4))

    abbrev pub rooted : TreePass
    rooted = record q { walk = set q.walk i w0; own = at_root i q.own }

    some_head : 0 < z.heads
    some_head = let one = b.within.some_heads in omega arith

    pub word_is : get_or words place 0 ≡ 16
    unfolding head_word
    word_is = ap (λ (k : ℕ). get_or words k 0) place_is ∙ tr.tree.sentinels.head 0 some_head

    five_is : length q.walk ≡ 5
    five_is = ap (λ (v : TreePass). length v.walk) (sym is) ∙ b.hazards.five q.number pass

    pub base_rooted : Base 2 z words (g' z words g q rooted 6 place b tr pass refl is)
    base_rooted = base_confirmed 2 z words g q rooted i (step z words g q rooted 6 place b tr pass refl is) place b pass is low
        (inl (0, (some_head, place_is))) (ap invalid_bit word_is) (λ e. let w = word_is in omega arith) (named
        ∙ sym (ap target found))
        record {
          number = refl;
          sizes = refl;
          owned = refl;
          retired_are = refl;
          frontier = refl;
          chains = refl;
          scan = refl;
          walk = refl;
        }

    pub came_to_root : Trees z words (g' z words g q rooted 6 place b tr pass refl is)
    came_to_root = let m = mine z words g q q 6 place b tr pass refl is in let sane = sane_of z words g b in
        trees_loaded z words g q rooted 6 place b tr pass refl is refl base_rooted m.since m.earlier
        (seated_at_root z (heap z words g.status) sane tr.tree (log_of g.order) (slot q) (slot rooted) q.own i (target
        (get_or words place 0))
        (cell_word words z (target (get_or words place 0)) 0) (halves (cell_word words z (target (get_or words place 0)) 1)
        (cell_word words z (target (get_or words place 0)) 4)) low
        (slot_here q rooted i w0 refl (omega (arith, five_is)))
        (λ j lt on. slot_else q rooted i w0 refl j (λ e. false≢true (sym free ∙ (ap (λ (k : ℕ). (slot q k).held) (sym e) ∙ on))))
        (ap target word_is) m.since pair
        (stands_at_root z (heap z words g.status) (log_of g.order) q.own.start
        (key_of q.own.call) sane tr.tree tr.mapped pair m.since))
