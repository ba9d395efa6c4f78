-- What stays of a pass over the loads of a seek.
use Rattle.std.proofs.Common.{◌≡◌, ℕ, ◌<◌, Bool, true, false, ◌&&◌, [], ◌∷◌, map, cond, refl}
use Rattle.std.proofs.Common.{sym, subst, arith}
use Rattle.std.proofs.Math.Decide.{ℕ_discrete}
use mathlib.Core.Logic.{dite}
use Rattle.pp_link.specs.declared.layout.Sizes.{Sizes}
use Rattle.pp_link.specs.Links.{target}
use Rattle.pp_link.specs.Places.{IsWithin}
use Rattle.pp_model.specs.declared.Call.{Call}
use Rattle.pp_model.specs.Calls.{key_of, reply_at, changes}
use Rattle.pp_rule.specs.declared.views.Halves.{Halves}
use Rattle.pp_rule.specs.Views.{slot}
use Rattle.pp_rule.specs.Steps.{holding, learning, with_walk}
use Rattle.pp_base.specs.Passes.{named_of}
use Rattle.pp_trees.specs.Searches.{TreePass}
use Rattle.pp_trees.specs.Sentinels.{has_mark}
use Rattle.pp_trees.specs.Edges.{TreeView}
use Rattle.pp_trees.specs.Seeks.{Begins, LooksAgain, ComesToRoot, Looks, ComesTo, found_at, Ended, EndsAt}
use Rattle.pp_seek.specs.Trails.{SameRest}
use Rattle.pp_base.proofs.Steady.{named_same}
use Rattle.pp_base.proofs.Staying.{StaysPass, stays}
use Rattle.pp_edges.proofs.Staying.{TreeMe}

by_bool : {X : Type 0} (c : Bool) → (c ≡ false → X) → (c ≡ true → X) → X
by_bool true a b = b refl
by_bool false a b = a refl

-- a pass that learnt a link names the same records
learning_same : (frozen : ℕ → Bool) (j side w : ℕ) (q : TreePass) → map named_of
    (learning frozen j side w q).walk ≡ map named_of q.walk
learning_same frozen j side w q = go (frozen w && (slot q j).held)
  where
    go : (c : Bool) → map named_of (cond c (with_walk j (record (slot q j) {
      learnt = (side, w) ∷
          (slot q j).learnt;
    }) q) q).walk ≡ map named_of q.walk
    go true = named_same q.walk j (record (slot q j) { learnt = (side, w) ∷ (slot q j).learnt }) refl
    go false = refl

pub learning_rest : (frozen : ℕ → Bool) (j side w : ℕ) (q : TreePass) → SameRest q (learning frozen j side w q)
learning_rest frozen j side w q = go (frozen w && (slot q j).held)
  where
    go : (c : Bool) → SameRest q (cond c (with_walk j (record (slot q j) { learnt = (side, w) ∷ (slot q j).learnt }) q) q)
    go true = record { number = refl; sizes = refl; owned = refl; retired_are = refl; frontier = refl; chains = refl; scan = refl }
    go false = record { number = refl; sizes = refl; owned = refl; retired_are = refl; frontier = refl; chains = refl; scan = refl }

module _ {v : TreeView} {m : TreeMe} (none : m.1 ≡ []) where
  pub begins_stays : (place : ℕ) (call : Call) (n : ℕ) → Begins place call n v m.0 → StaysPass v m
  begins_stays place call n t = stays none t.made refl refl refl refl refl refl refl

  pub again_stays : (place n : ℕ) → LooksAgain place n v m.0 → StaysPass v m
  again_stays place n t = stays none t.made refl refl refl refl refl refl refl

  pub root_stays : (i place n : ℕ) → (slot v.known i).named ≡ 1 → ComesToRoot i place n v m.0 → StaysPass v m
  root_stays i place n named t = stays none t.made refl refl refl refl refl refl (named_same v.known.walk i
      (holding 1 18446744073709551615 t.value) (sym named))

  pub looks_stays : (sd place n : ℕ) → Looks sd place n v m.0 → StaysPass v m
  looks_stays sd place n t = let r = learning_rest has_mark v.known.own.at sd n v.known in
      stays none t.loaded.made r.number r.sizes r.owned r.retired_are r.frontier r.chains
      (learning_same has_mark v.known.own.at sd n v.known)

  pub comes_stays : (i sd place first n : ℕ) → (slot v.known i).named ≡ target first → ComesTo i sd place first n v m.0
      → StaysPass v m
  comes_stays i sd place first n named t = dite (ℕ_discrete n first)
      (λ e. let c = t.same e in stays none c.1.1.1 refl refl refl refl refl refl
      (named_same v.known.walk i (holding (target first) c.1.0 c.1.1.0) (sym named)))
      (λ ne. stays none (t.other ne) refl refl refl refl refl refl refl)

  ended_stays : (i sd place first key : ℕ) (value : Halves) → (slot v.known i).named ≡ target first
      → Ended i sd place first key value v m.0 → StaysPass v m
  ended_stays i sd place first key value named t = let same = named_same v.known.walk i (holding (target first) key value)
      (sym named) in by_bool v.known.own.going
      (λ off. stays none (t.again off).made refl refl refl refl refl refl same)
      (λ on. by_bool (changes (reply_at v.known.own.call (found_at (key_of v.known.own.call) key value first)))
      (λ idle. stays none (t.settled on idle).made refl refl refl refl refl refl same)
      (λ change. stays none (t.effect on change).made refl refl refl refl refl refl same))

  pub ends_stays : (i sd place first n : ℕ) → (slot v.known i).named ≡ target first → EndsAt i sd place first n v m.0
      → StaysPass v m
  ends_stays i sd place first n named t = dite (ℕ_discrete n first)
      (λ e. let c = t.same e in ended_stays i sd place first c.0 c.1.0 named c.1.1)
      (λ ne. stays none (t.other ne) refl refl refl refl refl refl refl)

-- a pool has a head
pub first_head : (z y : Sizes) → IsWithin y → y ≡ z → 0 < z.heads
first_head z y w e = subst (λ (x : Sizes). 0 < x.heads) e (let one = w.some_heads in omega arith)
