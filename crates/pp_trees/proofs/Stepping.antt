-- A step of one pass that a tree sees: what it owes for itself, and that the other passes go on.
use Rattle.std.proofs.Common.{◌≡◌, ◌≢◌, ⊎_elim, ℕ, suc, ◌+◌, ◌%◌, ◌<◌, true, List, [], ◌∷◌, ◌++◌, length}
use Rattle.std.proofs.Common.{refl, sym, ap, ◌∙◌, subst, arith, length-append}
use Rattle.std.specs.Prelude.{slice_get}
use Rattle.pp_link.specs.declared.layout.Sizes.{Sizes}
use Rattle.pp_link.specs.Links.{target, invalid_bit}
use Rattle.pp_link.specs.Words.{cell_word}
use Rattle.pp_model.specs.declared.Change.{Change}
use Rattle.pp_model.specs.declared.Placed.{Placed}
use Rattle.pp_model.specs.Lists.{AtEach}
use Rattle.pp_model.specs.History.{after, contents_of, Sound, Stands}
use Rattle.pp_model.proofs.Histories.{after_grown, stands_grown}
use Rattle.pp_rule.specs.Orders.{log_of, placed_by}
use Rattle.pp_rule.specs.declared.views.LoggedStep.{LoggedStep}
use Rattle.pp_rule.specs.declared.views.WalkSlot.{WalkSlot}
use Rattle.pp_rule.specs.Views.{slot}
use Rattle.pp_rule.specs.States.{RecordState, attached, in_hand, retired, owned, shelved, IsUsed, IsLinked, Held}
use Rattle.pp_rule.specs.Rule.{Base}
use Rattle.pp_rule.specs.Looks.{StillHeld}
use Rattle.pp_rule.specs.Lists.{IsIn}
use Rattle.pp_rule.proofs.Put.{put_each, in_nil, in_cases}
use Rattle.pp_rule.proofs.Stepping.{after_step}
use Rattle.pp_rule.proofs.Histories.{log_snoc, placed_else}
use Rattle.pp_rule.proofs.OwnSteps.{own_more}
use Rattle.pp_trees.specs.Trees.{heap, HasChildren, HasNone, Internal, SearchTree, Mapped, Remains}
use Rattle.pp_trees.specs.Searches.{TreePass, TreeState, Searches, Trees, caller_of}
use Rattle.pp_trees.proofs.Standing.{Grown}
use Rattle.pp_trees.proofs.Steady.{Lasting, seated_on}
use Rattle.pp_trees.proofs.Heaps.{sane_of}
use Rattle.pp_trees.proofs.Keeping.{in_use}

-- what is true at each place of a list is true of what stands in it
each_in : (P : Change → Type 0) (cs : List Change) → AtEach cs (λ k c. P c) → (c : Change) → IsIn c cs → P c
each_in P [] each c i = absurd (in_nil c i)
each_in P (d ∷ ds) each c i = ⊎_elim (λ (here : c ≡ d). subst P (sym here) (each 0 d refl))
    (λ (later : IsIn c ds). each_in P ds (λ k x at. each (suc k) x at) c later) (in_cases c d ds i)

pub grown_more : (log log' more : List Change) → log' ≡ log ++ more → Grown log log'
grown_more log log' more e = record {
  longer = let l = ap (λ (x : List Change). length x) e ∙ length-append log more in omega arith;
  same = λ p le. ap (λ (x : List Change). after x p) e ∙ after_grown log more p le;
}

-- A held record with an edge that has no FLAG, no TAG and no INVALID is attached: in hand each edge is frozen, and a retired
-- one has
-- INVALID.
pub holder_attached : (z : Sizes) (words : List ℕ) (g : TreeState) → Base 2 z words g → SearchTree z (heap z words g.status)
    → (w : WalkSlot) (s : ℕ)
    → Held z words g.status w → s < 2 → cell_word words z w.named (2 + s) % 8 ≡ 0 → target (cell_word words z w.named (2 + s)) ≢ 0
    → Internal z (heap z words g.status) w.named
holder_attached z words g b tree w s held low plain some = go (g.status w.named) refl held.used
  where
    children : IsLinked (g.status w.named) → HasChildren (heap z words g.status) w.named
    children l = ⊎_elim (λ (c : HasChildren (heap z words g.status) w.named). c)
        (λ (none : HasNone (heap z words g.status) w.named). absurd (some (none s low))) (tree.sort w.named held.number l)

    go : (st : RecordState) → g.status w.named ≡ st → IsUsed st → Internal z (heap z words g.status) w.named
    go attached e u = record { number = held.number; on = e; children = children (subst IsLinked (sym e) tt) }
    go (in_hand p j) e u = let l : IsLinked (g.status w.named) = subst IsLinked (sym e) tt in
        let f = tree.frozen w.named s held.number l (λ (on : g.status w.named ≡ attached). let bad : attached ≡ in_hand p j =
        sym on ∙ e in absurd cc) (children l) low in
        absurd (f (mod_four (cell_word words z w.named (2 + s)) plain))
      where
        mod_four : (n : ℕ) → n % 8 ≡ 0 → n % 4 ≡ 0
        mod_four n x = omega arith
    go (retired p) e u = let r = b.links.spent w.named s p held.number low e in
        absurd (bit_off (cell_word words z w.named (2 + s)) plain r.1)
      where
        bit_off : (n : ℕ) → n % 8 ≡ 0 → invalid_bit n ≡ 1 → ⊥
        bit_off n x y = omega arith
    go (owned p) e u = absurd u
    go (shelved j) e u = absurd u

module _ (z : Sizes) (words words' : List ℕ) (g : TreeState) (q q' : TreePass) (status : ℕ
    → RecordState) (s : LoggedStep Change Placed) where
  abbrev pub g' : TreeState
  g' = after_step g q' status s

  pub trees_stepped : Base 2 z words g → Base 2 z words' g' → Trees z words g → q'.number < z.passes → s.entry.pass ≡ q'.number
      → AtEach s.entry.changes (λ k c. c.caller ≡ q'.number) → Sound (log_of g'.order) → SearchTree z (heap z words' status)
      → Mapped z (heap z words' status) (contents_of (log_of g'.order))
      → Remains z (heap z words' status) (λ p. (g'.of p).own.left) → Lasting z (heap z words g.status) (heap z words' status)
      → Searches z (heap z words' status) (log_of g'.order) q'.number (slot q') q'.own (placed_by q'.number g'.order)
      → Trees z words' g'
  trees_stepped b b' tr pass by callers sound tree map remains lasting own = record {
    sound = sound;
    own_changes = own_more caller_of g.order s tr.own_changes (λ c i. each_in (λ c. c.caller ≡ q'.number) s.entry.changes callers c i
        ∙ sym by);
    tree = tree;
    mapped = map;
    remains = remains;
    each = λ p low. put_each (λ (p : ℕ) (v : TreePass). p < z.passes → v ≡ g'.of p
        → Searches z (heap z words' status) (log_of g'.order) p (slot v) v.own (placed_by p g'.order))
        g.of q'.number q' (λ low at. own) (λ p other low at. go p other low at) p low refl;
  }
    where
      log : log_of g'.order ≡ log_of g.order ++ s.entry.changes
      log = log_snoc g.order s

      go : (p : ℕ) → p ≢ q'.number → p < z.passes → g.of p ≡ g'.of p
          → Searches z (heap z words' status) (log_of g'.order) p (slot (g.of p)) (g.of p).own (placed_by p g'.order)
      go p other low at = let was = tr.each p low in let placed : placed_by p g'.order ≡ placed_by p g.order = placed_else p
          g.order s (λ e. other (sym e ∙ by)) in record {
            stands = subst (λ (l : List Change). Stands l p (placed_by p g'.order)) (sym log) (subst (Stands
                (log_of g.order ++ s.entry.changes) p) (sym placed)
                (stands_grown (log_of g.order) s.entry.changes p (placed_by p g.order) (λ k c at e. other (sym e
                ∙ callers k c at)) was.stands));
            since = let a = was.since in let l = ap (λ (x : List Change). length x) log
                ∙ length-append (log_of g.order) s.entry.changes in omega arith;
            earlier = λ on i x is. was.earlier on i x (ap (λ (l : List Placed). slice_get l i) (sym placed) ∙ is);
            seated = seated_on z (heap z words g.status) (heap z words' status) (log_of g.order) (log_of g'.order)
                (sane_of z words g b) (sane_of z words' g' b') tree lasting
                (grown_more (log_of g.order) (log_of g'.order) s.entry.changes log) map (slot (g.of p)) (slot (g.of p))
                (g.of p).own (g.of p).own
                (λ j lt held still. in_use z words words' g g' b b' p low j lt held (subst (λ (v : TreePass). StillHeld (slot
                (g.of p) j) (slot v j)) at still))
                record {
                  call = refl;
                  start = refl;
                  flag = refl;
                  beside = refl;
                  at = λ lt. (refl, self (slot (g.of p) (g.of p).own.at) (was.seated.held lt));
                  top = λ lt. (refl, refl, self (slot (g.of p) (g.of p).own.top) (was.seated.top_held lt));
                } was.seated;
          }
        where
          self : (w : WalkSlot) → w.held ≡ true → StillHeld w w
          self w h = record { held = h; named = refl; key = refl; value = refl; learnt = λ l i. i }
