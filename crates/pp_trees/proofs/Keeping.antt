-- The laws of a shape that speak of steps which it can't see, of clearing a walk word, and of INVALID.
use Rattle.std.proofs.Common.{◌≡◌, ℕ, ◌<◌, Bool, true, cond, List, [], length}
use Rattle.std.proofs.Common.{refl, sym, ap, ◌∙◌, subst, arith, eq-eqb, ne_eqb}
use Rattle.std.specs.Prelude.{slice_get}
use Rattle.std.proofs.Math.Decide.{ℕ_discrete}
use mathlib.Core.Logic.{dite}
use Rattle.pp_link.specs.declared.layout.Sizes.{Sizes}
use Rattle.pp_model.specs.declared.Change.{Change}
use Rattle.pp_model.specs.declared.Placed.{Placed}
use Rattle.pp_model.specs.History.{after, contents_of, Sound, Stands}
use Rattle.pp_rule.specs.Alone.{HasOwnChanges}
use Rattle.pp_rule.specs.Orders.{log_of, placed_by, IsQuietStep}
use Rattle.pp_rule.specs.declared.views.WalkSlot.{WalkSlot}
use Rattle.pp_rule.specs.Views.{slot}
use Rattle.pp_rule.specs.States.{IsUsed}
use Rattle.pp_rule.specs.Rule.{Base}
use Rattle.pp_rule.specs.Looks.{StillHeld, SameOwn, Clears}
use Rattle.pp_rule.specs.Laws.{KeptAlike, KeptCleared, KeptInvalid}
use Rattle.pp_rule.proofs.Histories.{quiet_log, quiet_placed}
use Rattle.pp_rule.proofs.OwnSteps.{own_quiet}
use Rattle.pp_trees.specs.declared.own.TreeOwn.{TreeOwn}
use Rattle.pp_trees.specs.Trees.{Heap, heap, SearchTree, Mapped, Fewer}
use Rattle.pp_trees.specs.Searches.{TreePass, TreeState, Seated, Trees, forget_word, caller_of}
use Rattle.pp_trees.proofs.Standing.{Grown}
use Rattle.pp_trees.proofs.Fewer.{tree_fewer, mapped_fewer}
use Rattle.pp_trees.proofs.Steady.{AllUsed, StandsStill, seated_on, lasting_fewer}
use Rattle.pp_trees.proofs.Remaining.{remains_fewer}
use Rattle.pp_trees.proofs.Heaps.{sane_of, fewer_seen, fewer_invalid}

pub grown_same : (log log' : List Change) → log' ≡ log → Grown log log'
grown_same log log' e = record {
  longer = let l = ap (λ (x : List Change). length x) e in
      omega arith;
  same = λ p le. ap (λ (x : List Change). after x p) e;
}

-- a pass whose own part is as it was, and which holds what it held, stands where it stood
pub stands_same : (z : Sizes) (t : Heap) (log : List Change) (q q' : TreePass) → SameOwn q q' → Seated z t log (slot q) q.own
    → StandsStill (slot q) (slot q') q.own q'.own
stands_same z t log q q' same a = record {
  call = ap (λ (o : TreeOwn). o.call) same.own;
  start = ap (λ (o : TreeOwn). o.start) same.own;
  flag = ap (λ (o : TreeOwn). o.flag) same.own;
  beside = ap (λ (o : TreeOwn). o.beside) same.own;
  at = λ lt. let e = ap (λ (o : TreeOwn). o.at) same.own in let low : q.own.at < 5 = subst (λ (x : ℕ). x < 5) e lt in
      (e, subst (λ (x : ℕ). StillHeld (slot q q.own.at) (slot q' x)) (sym e) (same.holds.each q.own.at low (a.held low)));
  top = λ lt. let e = ap (λ (o : TreeOwn). o.top) same.own in let low : q.own.top < 5 = subst (λ (x : ℕ). x < 5) e lt in (
    e,
    ap (λ (o : TreeOwn). o.path) same.own,
    subst (λ (x : ℕ). StillHeld (slot q q.own.top) (slot q' x)) (sym e)
        (same.holds.each q.own.top low (a.top_held low)),
  );
}

-- one that cleared a walk word stands where it stood, or nowhere
pub stands_cleared : (z : Sizes) (t : Heap) (log : List Change) (i : ℕ) (q q' : TreePass) → Clears forget_word i q q'
    → Seated z t log (slot q) q.own
    → StandsStill (slot q) (slot q') q.own q'.own
stands_cleared z t log i q q' c a = record {
  call = ap (λ (o : TreeOwn). o.call) c.own;
  start = ap (λ (o : TreeOwn). o.start) c.own;
  flag = ap (λ (o : TreeOwn). o.flag) c.own;
  beside = ap (λ (o : TreeOwn). o.beside) c.own;
  at = λ lt. let e = ap (λ (o : TreeOwn). o.at) c.own in dite (ℕ_discrete q.own.at i)
      (λ same. let gone : q'.own.at ≡ 5 = e ∙ ap (λ (b : Bool). cond b 5 q.own.at) (eq-eqb q.own.at i same) in
      absurd (omega arith))
      (λ ne. let is : q'.own.at ≡ q.own.at = e ∙ ap (λ (b : Bool). cond b 5 q.own.at) (ne_eqb q.own.at i ne) in
      let low : q.own.at < 5 = subst (λ (x : ℕ). x < 5) is lt in
      (is, still is (c.others q.own.at low ne) (a.held low)));
  top = λ lt. let e = ap (λ (o : TreeOwn). o.top) c.own in let p = ap (λ (o : TreeOwn). o.path) c.own in
      dite (ℕ_discrete q.own.top i)
      (λ same. let gone : q'.own.top ≡ 5 = e ∙ ap (λ (b : Bool). cond b 5 q.own.top) (eq-eqb q.own.top i same) in
      absurd (omega arith))
      (λ ne. let is : q'.own.top ≡ q.own.top = e ∙ ap (λ (b : Bool). cond b 5 q.own.top) (ne_eqb q.own.top i ne) in
      let low : q.own.top < 5 = subst (λ (x : ℕ). x < 5) is lt in (
        is,
        p ∙ ap (λ (b : Bool). cond b [] q.own.path) (ne_eqb q.own.top i ne),
        still is (c.others q.own.top low ne)
            (a.top_held low),
      ));
}
  where
    still : {m n : ℕ} → m ≡ n → slot q' n ≡ slot q n → (slot q n).held ≡ true → StillHeld (slot q n) (slot q' m)
    still {m} {n} e same held = subst (λ (x : ℕ). StillHeld (slot q n) (slot q' x)) (sym e) (subst (λ
        (s : WalkSlot). StillHeld (slot q n) s) (sym same)
        record { held = held; named = refl; key = refl; value = refl; learnt = λ l i. i })

-- what a pass holds is in use
pub in_use : (z : Sizes) (words words' : List ℕ) (g g' : TreeState) → Base 2 z words g → Base 2 z words' g' → (p : ℕ)
    → p < z.passes → (j : ℕ) → j < 5
    → (slot (g.of p) j).held ≡ true → StillHeld (slot (g.of p) j) (slot (g'.of p) j)
    → AllUsed z (heap z words g.status) (heap z words' g'.status) (slot (g.of p)) j
in_use z words words' g g' b b' p low j lt held still = let h = b.hazards.held p j low lt held in
    let h' = b'.hazards.held p j low lt still.held in
    record { number = h.number; used = h.used; used' = subst (λ (n : ℕ). IsUsed (g'.status n)) still.named h'.used }

pub trees_fewer : (z : Sizes) (words words' : List ℕ) (g g' : TreeState) → Base 2 z words g → Base 2 z words' g'
    → Fewer z (heap z words g.status) (heap z words' g'.status) → log_of g'.order ≡ log_of g.order → ((p : ℕ)
    → placed_by p g'.order ≡ placed_by p g.order)
    → ((p : ℕ) → p < z.passes → Seated z (heap z words g.status) (log_of g.order) (slot (g.of p)) (g.of p).own
    → StandsStill (slot (g.of p)) (slot (g'.of p)) (g.of p).own (g'.of p).own)
    → ((p : ℕ) → p < z.passes → ((g'.of p).own.going ≡ (g.of p).own.going) × ((g'.of p).own.start ≡ (g.of p).own.start)
    × ((g'.of p).own.left ≡ (g.of p).own.left))
    → IsQuietStep g.order g'.order → Trees z words g → Trees z words' g'
trees_fewer z words words' g g' b b' fewer log placed still going quiet a = let t = heap z words g.status in
    let t' = heap z words' g'.status in
    let sane = sane_of z words g b in let sane' = sane_of z words' g' b' in
    let tree' : SearchTree z t' = tree_fewer z t t' sane sane' a.tree fewer in
    let map : Mapped z t' (contents_of (log_of g'.order)) = subst (λ (l : List Change). Mapped z t' (contents_of l)) (sym log)
    (mapped_fewer z t t' sane sane' a.tree fewer (contents_of (log_of g.order)) a.mapped) in
    record {
      sound = subst Sound (sym log) a.sound;
      own_changes = own_quiet caller_of g.order g'.order quiet a.own_changes;
      tree = tree';
      mapped = map;
      remains = remains_fewer z t t' (λ p. (g.of p).own.left) (λ p. (g'.of p).own.left) sane sane' a.tree fewer (λ p low.
          (going p low).2) a.remains;
      each = λ p low. let was = a.each p low in let y = going p low in record {
        stands = subst (λ (l : List Change). Stands l p (placed_by p g'.order)) (sym log) (subst (Stands (log_of g.order) p)
            (sym (placed p)) was.stands);
        since = let s = was.since in let e = y.1 in let l = ap (λ (x : List Change). length x) log in omega arith;
        earlier = λ on i x is. let s = was.earlier (sym y.0 ∙ on) i x (ap (λ (l : List Placed). slice_get l i) (sym
            (placed p)) ∙ is) in let e = y.1 in omega arith;
        seated = seated_on z t t' (log_of g.order) (log_of g'.order) sane sane' tree'
            (lasting_fewer z t t' sane a.tree sane' fewer) (grown_same (log_of g.order) (log_of g'.order) log) map
            (slot (g.of p)) (slot (g'.of p)) (g.of p).own (g'.of p).own (in_use z words words' g g' b b' p low)
            (still p low was.seated) was.seated;
      };
    }

pub trees_alike : KeptAlike 2 (λ z words g. Trees z words g)
trees_alike z words words' g g' b b' d a = trees_fewer z words words' g g' b b' (fewer_seen z words words' g g' d.seen)
    (quiet_log g.order g'.order d.seen.order)
    (λ p. quiet_placed p g.order g'.order d.seen.order) (λ p low seated. stands_same z (heap z words g.status)
    (log_of g.order) (g.of p) (g'.of p) (d.passes p low) seated)
    (λ p low. let e = (d.passes p low).own in (
      ap (λ (o : TreeOwn). o.going) e,
      ap (λ (o : TreeOwn). o.start) e,
      ap (λ
          (o : TreeOwn). o.left) e,
    )) d.seen.order a

pub trees_invalidated : KeptInvalid 2 (λ z words g. Trees z words g)
trees_invalidated z words words' g g' n side b b' lt d a = trees_fewer z words words' g g' b b'
    (fewer_invalid z words words' g g' n side lt d) (quiet_log g.order g'.order d.order)
    (λ p. quiet_placed p g.order g'.order d.order) (λ p low seated. stands_same z (heap z words g.status) (log_of g.order)
    (g.of p) (g'.of p) (d.passes p low) seated)
    (λ p low. let e = (d.passes p low).own in (
      ap (λ (o : TreeOwn). o.going) e,
      ap (λ (o : TreeOwn). o.start) e,
      ap (λ
          (o : TreeOwn). o.left) e,
    )) d.order a

pub trees_cleared : KeptCleared 2 (λ z words g. Trees z words g) forget_word
trees_cleared z words words' g g' p i b b' d a = trees_fewer z words words' g g' b b' (fewer_seen z words words' g g' d.seen)
    (quiet_log g.order g'.order d.seen.order)
    (λ r. quiet_placed r g.order g'.order d.seen.order)
    (λ r low seated. dite (ℕ_discrete r p)
    (λ e. stands_cleared z (heap z words g.status) (log_of g.order) i (g.of r) (g'.of r) (subst (λ
    (x : ℕ). Clears forget_word i (g.of x) (g'.of x)) (sym e) d.here) seated)
    (λ ne. stands_same z (heap z words g.status) (log_of g.order) (g.of r) (g'.of r) (d.others r low ne) seated))
    (λ r low. dite (ℕ_discrete r p)
    (λ e. let own = subst (λ (x : ℕ). (g'.of x).own ≡ forget_word i (g.of x).own) (sym e) d.here.own in
    (ap (λ (o : TreeOwn). o.going) own, ap (λ (o : TreeOwn). o.start) own, ap (λ (o : TreeOwn). o.left) own))
    (λ ne. let own = (d.others r low ne).own in (
      ap (λ (o : TreeOwn). o.going) own,
      ap (λ (o : TreeOwn). o.start) own,
      ap (λ
          (o : TreeOwn). o.left) own,
    ))) d.seen.order a

pub tree_own_changes : HasOwnChanges (λ z words g. Trees z words g) caller_of
tree_own_changes z words g tr = tr.own_changes
