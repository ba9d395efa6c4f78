-- A pass that lets go of what it holds in its walk words.
use Rattle.std.proofs.Common.{◌≡◌, ◌≢◌, ◌⊎◌, inl, inr, ⊎_elim, ℕ, ◌+◌, ◌<◌, Bool, cond, eqb, [], refl}
use Rattle.std.proofs.Common.{sym, ap, ◌∙◌, subst, arith, ne_eqb}
use Rattle.std.proofs.Math.Decide.{ℕ_discrete}
use mathlib.Core.Logic.{dite}
use Rattle.pp_link.specs.declared.layout.Sizes.{Sizes}
use Rattle.pp_rule.specs.Orders.{clear_step}
use Rattle.pp_rule.specs.Views.{slot, naming}
use Rattle.pp_rule.specs.Steps.{MadeQuietStep, clearing}
use Rattle.pp_rule.proofs.Slots.{slot_here, slot_else}
use Rattle.pp_rule.proofs.Made.{known_after}
use Rattle.pp_base.specs.Passes.{IsPassOf}
use Rattle.pp_hazard.proofs.Trying.{free_where_0}
use Rattle.pp_trees.specs.declared.own.TreeOwn.{TreeOwn}
use Rattle.pp_trees.specs.Searches.{TreePass, forget_word}
use Rattle.pp_trees.specs.Edges.{TreeView}
use Rattle.pp_seek.specs.declared.keeping.Words.{Words}
use Rattle.pp_seek.specs.Trails.{IsEmpty, SameCall}
use Rattle.pp_seek.specs.Keeping.{IsOf, KeepsAt, KeepsOnly}
use Rattle.pp_seek.proofs.Trailing.{clears_none, clears_one, clears_both, call_same, rest_by}

pub is_of : (w : Words) (j : ℕ) → IsOf w j ⊎ (IsOf w j → ⊥)
is_of w j = dite (ℕ_discrete j w.first) (λ a. inl (inl a)) (λ na. dite (ℕ_discrete j w.second) (λ b. inl (inr (inl b)))
    (λ nb. dite (ℕ_discrete j w.third) (λ c. inl (inr (inr c)))
    (λ nc. inr (λ y. ⊎_elim na (λ (z : (j ≡ w.second) ⊎ (j ≡ w.third)). ⊎_elim nb nc z) y))))

-- forgetting another word than those that the tree's part names
pub forget_other : (i : ℕ) (own : TreeOwn) → own.at ≢ i → own.top ≢ i → forget_word i own ≡ own
forget_other i own na nt = ap (λ (c : Bool). record own {
  at = cond c 5 own.at;
  top = cond
      (eqb own.top i) 5 own.top;
  path = cond (eqb own.top i) [] own.path;
})
    (ne_eqb own.at i na) ∙ ap (λ (c : Bool). record own { at = own.at; top = cond c 5 own.top; path = cond c [] own.path })
    (ne_eqb own.top i nt)

pub forget_call : (i : ℕ) (own : TreeOwn) → SameCall own (forget_word i own)
forget_call i own = record { call = refl; start = refl; going = refl; left = refl }

pub call_on : (a b c : TreeOwn) → SameCall a b → SameCall b c → SameCall a c
call_on a b c x y = record {
  call = y.call ∙ x.call;
  start = y.start ∙ x.start;
  going = y.going ∙ x.going;
  left = y.left
      ∙ x.left;
}

pub call_by : (a b : TreeOwn) → b ≡ a → SameCall a b
call_by a b e = record {
  call = ap (λ (o : TreeOwn). o.call) e;
  start = ap (λ (o : TreeOwn). o.start) e;
  going = ap (λ
      (o : TreeOwn). o.going) e;
  left = ap (λ (o : TreeOwn). o.left) e;
}

pub keeps_none : (w : Words) (i : ℕ) (v : TreeView) → IsOf w i → KeepsAt w i v v
keeps_none w i v is = record {
  emptied = λ never. absurd (never is);
  kept = λ _. refl;
  others = λ j ne. refl;
  own = inl refl;
  cleared = clears_none v;
}

pub keeps_empty : (z : Sizes) (w : Words) (i : ℕ) (v : TreeView) → IsPassOf z v.known → i < 5 → (slot v.known i).named ≡ 0
    → KeepsAt w i v v
keeps_empty z w i v pass low none = record {
  emptied = λ never. record { named = none; free = free_where_0 z v.known i pass low none };
  kept = λ _. refl;
  others = λ j ne. refl;
  own = inl refl;
  cleared = clears_none v;
}

pub keeps_cleared : (z : Sizes) (w : Words) (i place : ℕ) (v v' : TreeView) → IsPassOf z v.known → i < 5 → (IsOf w i → ⊥)
    → MadeQuietStep clear_step place 0 0 (clearing forget_word i v.known) v v' → KeepsAt w i v v'
keeps_cleared z w i place v v' pass low never made = let is : v'.known ≡ clearing forget_word i v.known = known_after
    clear_step place 0 0 [] [] (clearing forget_word i v.known) v v' made in
    let walk = ap (λ (q : TreePass). q.walk) is in let five = pass.five in record {
      emptied = λ _. let here = slot_here v.known v'.known i (naming 0) walk (omega arith) in
          record { named = ap (λ s. s.named) here; free = ap (λ s. s.held) here };
      kept = λ yes. absurd (never yes);
      others = λ j ne. slot_else v.known v'.known i (naming 0) walk j ne;
      own = inr (never, ap (λ (q : TreePass). q.own) is);
      cleared = clears_one place _ v v' (rest_by v.known _ _) made;
    }

pub keeps_first : (w : Words) (v : TreeView) → KeepsOnly w 0 v v
keeps_first w v = record {
  emptied = λ j low never. absurd (omega arith);
  kept = λ j is. refl;
  later = λ j le. refl;
  call = call_same v.known.own;
  own = λ a t. refl;
  cleared = clears_none v;
}

pub keeps_next : (w : Words) (n : ℕ) (u v v' : TreeView) → n < 5 → KeepsOnly w n u v → KeepsAt w n v v' → KeepsOnly w (n + 1) u v'
keeps_next w n u v v' five k a = record {
  emptied = λ j low never. dite (ℕ_discrete j n)
      (λ e. subst (λ (x : ℕ). IsEmpty (slot v'.known x)) (sym e) (a.emptied (subst (λ (x : ℕ). IsOf w x → ⊥) e never)))
      (λ ne. subst IsEmpty (sym (a.others j ne)) (k.emptied j (omega arith) never));
  kept = λ j is. dite (ℕ_discrete j n)
      (λ e. ap (λ (q : TreePass). slot q j) (a.kept (subst (IsOf w) e is)) ∙ k.kept j is)
      (λ ne. a.others j ne ∙ k.kept j is);
  later = λ j le. a.others j (λ e. omega arith) ∙ k.later j (omega arith);
  call = ⊎_elim (λ (same : v'.known.own ≡ v.known.own). call_on u.known.own v.known.own v'.known.own k.call
      (call_by v.known.own v'.known.own same))
      (λ (y : (IsOf w n → ⊥) × (v'.known.own ≡ forget_word n v.known.own)). call_on u.known.own v.known.own v'.known.own k.call
      (subst (SameCall v.known.own) (sym y.1) (forget_call n v.known.own))) a.own;
  own = λ at top. let before = k.own at top in ⊎_elim (λ (same : v'.known.own ≡ v.known.own). same ∙ before)
      (λ (y : (IsOf w n → ⊥) × (v'.known.own ≡ forget_word n v.known.own)). y.1 ∙ (forget_other n v.known.own
      (λ e. y.0 (subst (IsOf w) (ap (λ (o : TreeOwn). o.at) (sym before) ∙ e) at))
      (λ e. let is : u.known.own.top ≡ n = ap (λ (o : TreeOwn). o.top) (sym before)
      ∙ e in y.0 (subst (IsOf w) is (top (omega arith)))) ∙ before)) a.own;
  cleared = clears_both u v v' k.cleared a.cleared;
}
