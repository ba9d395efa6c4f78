-- The confirming load of an edge to a leaf: a reply that changes nothing is settled, at the least place since the call's start
-- at which
-- it is right.
use Rattle.std.proofs.Common.{◌≡◌, ◌≢◌, ◌⊎◌, inl, inr, ⊎_elim, ℕ, zero, suc, ◌+◌, ◌-◌, ◌<◌, ◌≤◌, true, false, List, [], ◌∷◌}
use Rattle.std.proofs.Common.{◌++◌, length, get_or, Option, Some, None}
use Rattle.std.proofs.Common.{refl, sym, ap, ◌∙◌, subst, arith}
use Rattle.std.proofs.Math.Decide.{ℕ_discrete}
use mathlib.Core.Logic.{dite}
use Rattle.pp_model.specs.declared.Change.{Change}
use Rattle.pp_model.specs.FiniteMap.{find}
use Rattle.pp_model.specs.History.{after}
use Rattle.std.proofs.Common.{append-nil}
use Rattle.std.proofs.Math.Bool.{false≢true}
use Rattle.pp_link.specs.declared.layout.Sizes.{Sizes}
use Rattle.pp_model.specs.declared.Placed.{Placed}
use Rattle.pp_model.specs.Calls.{key_of, reply_at, changes}
use Rattle.pp_model.specs.History.{contents_of, Sound, Stands}
use Rattle.pp_model.proofs.Histories.{stands_unchanged}
use Rattle.pp_rule.specs.Orders.{log_of, placed_by}
use Rattle.pp_rule.specs.declared.views.LoggedStep.{LoggedStep}
use Rattle.pp_rule.specs.Views.{slot}
use Rattle.pp_rule.specs.Rule.{Base}
use Rattle.pp_rule.specs.Steps.{entry}
use Rattle.pp_rule.proofs.Stepping.{after_step}
use Rattle.pp_rule.proofs.Histories.{log_snoc, placed_here}
use Rattle.pp_trees.specs.Trees.{Heap, heap, Mapped, IsRight}
use Rattle.pp_trees.specs.Searches.{TreePass, TreeState, Seated, Searches, Trees}
use Rattle.pp_trees.proofs.Steady.{lasting_fewer}
use Rattle.pp_trees.proofs.Heaps.{sane_of}
use Rattle.std.proofs.Common.{cond, eqb}
use Rattle.pp_link.specs.Links.{target, flag_bit}
use Rattle.pp_link.specs.Places.{cell_place}
use Rattle.pp_trees.specs.declared.own.TreeOwn.{TreeOwn}
use Rattle.pp_trees.specs.Trees.{side, answer, IsEdge}
use Rattle.pp_trees.proofs.Adding.{base_moved}
use Rattle.pp_trees.proofs.Confirming.{fewer_self, remains_loaded, came, base_came, seated_at_leaf, step as loaded_step}
use Rattle.pp_rule.proofs.Put.{put_each}
use Rattle.pp_trees.proofs.Stepping.{trees_stepped}

-- two findings are the same, or not
found_same : (a b : Option ℕ) → (a ≡ b) ⊎ (a ≢ b)
found_same None None = inl refl
found_same None (Some w) = inr (λ e. cc)
found_same (Some v) None = inr (λ e. cc)
found_same (Some v) (Some w) = dite (ℕ_discrete v w) (λ e. inl (ap Some e)) (λ ne. inr (λ e. ne cc))

-- the least place from the start on at which the answer is right
pub record Least (log : List Change) (start k : ℕ) (a : Option ℕ) : Type 0 where
  pub place : ℕ
  pub since : start ≤ place
  pub within : place ≤ length log
  pub right : find (after log place) k ≡ a
  pub least : (p : ℕ) → start ≤ p → p < place → find (after log p) k ≢ a

module _ (log : List Change) (k : ℕ) (a : Option ℕ) where
  search : (fuel start q : ℕ) → q ≡ start + fuel → q ≤ length log → find (after log q) k ≡ a → Least log start k a
  search zero start q e within right = record {
    place = start;
    since = omega arith;
    within = omega arith;
    right = ap (λ (p : ℕ). find (after log p) k) (let same : start ≡ q = omega arith in same) ∙ right;
    least = λ p low high. absurd (omega arith);
  }
  search (suc fuel) start q e within right = let later = search fuel (start + 1) q (omega arith) within right in ⊎_elim
      (λ (here : find (after log start) k ≡ a). record {
        place = start;
        since = omega arith;
        within = omega arith;
        right = here;
        least = λ p low high. absurd (omega arith);
      })
      (λ (ne : find (after log start) k ≢ a). let since = later.since in record {
        place = later.place;
        since = omega arith;
        within = later.within;
        right = later.right;
        least = λ p low high. dite (ℕ_discrete p start) (λ same. subst (λ (x : ℕ). find (after log x) k ≢ a) (sym same) ne)
            (λ other. later.least p (omega arith) high);
      })
      (found_same (find (after log start) k) a)

  pub least_right : (start : ℕ) → IsRight log start k a → Least log start k a
  least_right start r = let low = r.1.0 in search (r.0 - start) start r.0 (omega arith) r.1.1 r.1.2

-- A load at which the going call of the pass is settled: its reply changes nothing, and is right since its start.
module _ (z : Sizes) (words : List ℕ) (g : TreeState) (q q' : TreePass) (kind place : ℕ) (b : Base 2 z words g)
    (tr : Trees z words g)
    (pass : q'.number < z.passes) (number : q'.number ≡ q.number) (is : g.of q.number ≡ q) (a : Option ℕ)
    (right : IsRight (log_of g.order) q.own.start (key_of q.own.call) a) where
  abbrev t : Heap
  t = heap z words g.status

  pub least : Least (log_of g.order) q.own.start (key_of q.own.call) a
  least = least_right (log_of g.order) (key_of q.own.call) a q.own.start right

  abbrev pub settled : Placed
  settled = record { call = q.own.call; reply = reply_at q.own.call a; place = least.place }

  abbrev pub step : LoggedStep Change Placed
  step = entry kind place (get_or words place 0) (get_or words place 0) [] (settled ∷ []) g.order q'

  abbrev pub g' : TreeState
  g' = after_step g q' g.status step

  log_is : log_of g'.order ≡ log_of g.order
  log_is = log_snoc g.order step ∙ append-nil (log_of g.order)

  mine : Searches z t (log_of g.order) q.number (slot q) q.own (placed_by q.number g.order)
  mine = subst (λ (v : TreePass). Searches z t (log_of g.order) q.number (slot v) v.own (placed_by q.number g.order)) is
      (tr.each q.number (subst (λ (p : ℕ). p < z.passes) number pass))

  placed_is : placed_by q'.number g'.order ≡ placed_by q.number g.order ++ settled ∷ []
  placed_is = placed_here g.order step ∙ ap (λ (p : ℕ). placed_by p g.order ++ settled ∷ []) number

  pub trees_settled : q'.own.left ≡ q.own.left → Base 2 z words g' → q.own.going ≡ true → q'.own.going ≡ false
      → q'.own.start ≡ q.own.start → changes (reply_at q.own.call a) ≡ false
      → Seated z t (log_of g.order) (slot q') q'.own → Trees z words g'
  trees_settled left b' on off start none seated = let sane = sane_of z words g b in
      let stands : Stands (log_of g.order) q.number (placed_by q.number g.order ++ settled ∷ []) = stands_unchanged
      (log_of g.order) q.number (placed_by q.number g.order) settled mine.stands none
      (record { within = least.within; right = ap (reply_at q.own.call) least.right })
      (λ i x at. let e = mine.earlier on i x at in let s = least.since in omega arith) in
      trees_stepped z words words g q q' g.status step b b' tr pass refl (λ i c e. absurd cc) (subst Sound
      (sym log_is) tr.sound) tr.tree
      (subst (λ (l : List Change). Mapped z t (contents_of l)) (sym log_is) tr.mapped)
      (remains_loaded z t (λ p. (g.of p).own.left) (λ p. (g'.of p).own.left) (λ r lt. put_each (λ (r : ℕ)
      (v : TreePass). v.own.left ≡ (g.of r).own.left) g.of q'.number q'
      (left ∙ (ap (λ (v : TreePass). v.own.left) (sym is) ∙ ap (λ (p : ℕ). (g.of p).own.left) (sym number)))
      (λ r ne. refl) r) tr.remains) (lasting_fewer z t t sane tr.tree sane (fewer_self z t)) record {
        stands = subst (λ (l : List Change). Stands l q'.number (placed_by q'.number g'.order)) (sym log_is)
            (subst (Stands (log_of g.order) q'.number) (sym placed_is) (subst (λ (p : ℕ). Stands (log_of g.order) p
            (placed_by q.number g.order ++ settled ∷ [])) (sym number) stands));
        since = let s = mine.since in let l = ap (λ (x : List Change). length x) log_is in omega arith;
        earlier = λ bad i x at. absurd (false≢true (sym off ∙ bad));
        seated = subst (λ (l : List Change). Seated z t l (slot q') q'.own) (sym log_is) seated;
      }

-- The confirming load of an edge to a leaf where the call's reply changes nothing: it is settled there.
module _ (z : Sizes) (words : List ℕ) (g : TreeState) (q : TreePass) (place i sd first : ℕ) (b : Base 2 z words g)
    (tr : Trees z words g)
    (pass : q.number < z.passes) (is : g.of q.number ≡ q) (low : i < 5) (free : (slot q i).held ≡ false) (named :
    (slot q i).named ≡ target first)
    (at : q.own.at < 5) (side_is : sd ≡ side (key_of q.own.call) (slot q q.own.at).key) (place_is : place ≡ cell_place z
    (slot q q.own.at).named (2 + sd))
    (is_edge : IsEdge first 1) (found : get_or words place 0 ≡ first) where
  abbrev a : Option ℕ
  a = answer (heap z words g.status) (key_of q.own.call) first

  abbrev own : TreeOwn
  own = record q.own { going = false; flag = cond (eqb (flag_bit first) 1) sd 2; beside = target first }

  abbrev pub held_leaf : TreePass
  held_leaf = came z words g q place i sd first b tr pass is low free named at side_is place_is 1 is_edge found own

  pub base_settled : (right : IsRight (log_of g.order) q.own.start (key_of q.own.call) a)
      → Base 2 z words (g' z words g q held_leaf 24 place b tr pass refl is a right)
  base_settled right = base_moved 2 z words words (after_step g held_leaf g.status
      (loaded_step z words g q held_leaf 6 place b tr pass refl is))
      (g' z words g q held_leaf 24 place b tr pass refl is a right) refl (λ p. refl) refl
      (base_came z words g q place i sd first b tr pass is low free named at side_is place_is 1 is_edge found own)

  pub settles_at_leaf : q.own.going ≡ true → changes (reply_at q.own.call a) ≡ false
      → (right : IsRight (log_of g.order) q.own.start (key_of q.own.call) a)
      → Trees z words (g' z words g q held_leaf 24 place b tr pass refl is a right)
  settles_at_leaf on none right = trees_settled z words g q held_leaf 24 place b tr pass refl is a right refl
      (base_settled right) on refl refl none
      (seated_at_leaf z words g q place i sd first b tr pass is low free named at side_is place_is 1 is_edge found false)
