-- Clearing walk words, one after another.
use Rattle.std.proofs.Common.{◌≡◌, ◌≢◌, ◌⊎◌, inl, inr, ⊎_elim, ℕ, ◌+◌, ◌<◌, ◌≤◌, Bool, true, false, cond, nat_eq, List, [], ◌∷◌, length}
use Rattle.std.proofs.Common.{set, refl, sym, ap, ◌∙◌, subst, arith, ne_eqb, true≢false}
use Rattle.std.specs.Prelude.{◌||◌}
use Rattle.std.proofs.Math.Decide.{ℕ_discrete}
use mathlib.Core.Logic.{dite}
use Rattle.atomic_table.specs.declared.shared.Seat.{Seat}
use Rattle.pp_link.specs.declared.layout.Sizes.{Sizes}
use Rattle.pp_base.specs.Passes.{known, view, IsSame, IsPassOf}
use Rattle.pp_rule.specs.declared.views.WalkSlot.{WalkSlot}
use Rattle.pp_rule.specs.Orders.{clear_step}
use Rattle.pp_rule.specs.Views.{slot, naming}
use Rattle.pp_rule.specs.Steps.{MadeQuietStep, clearing}
use Rattle.pp_rule.proofs.Slots.{slot_here, slot_else}
use Rattle.pp_rule.proofs.Made.{known_after}
use Rattle.pp_base.specs.Named.{clears}
use Rattle.pp_base.proofs.Named.{plain_one}
use Rattle.pp_lists.specs.declared.own.ListOwn.{ListOwn}
use Rattle.pp_lists.specs.Lists.{ListPass, list_forget}
use Rattle.pp_lists.specs.Turns.{ListView}
use Rattle.pp_walk.specs.Words.{IsEmpty, Cleared, is_kept, SameCallOf, SameRest, HoldsNoMore}
use Rattle.pp_walk.specs.Trod.{Quiet}
use Rattle.pp_walk.proofs.Counting.{quiet_idle, quiet_none, quiet_both, same_self, same_through, rest_self, rest_through}

-- What is left where those below i are cleared, but for a, b and c.
pub record ClearedTo (i a b c : ℕ) (q q' : ListPass) : Type 0 where
  pub rest : SameRest q q'
  pub same : SameCallOf q.own q'.own
  pub going : q'.own.going ≡ q.own.going
  pub kept : (j : ℕ) → (i ≤ j) ⊎ (is_kept a b c j ≡ true) → slot q' j ≡ slot q j
  pub empty : (j : ℕ) → j < i → is_kept a b c j ≡ false → IsEmpty (slot q' j)
  pub at : (i ≤ q.own.at) ⊎ (is_kept a b c q.own.at ≡ true) → q'.own.at ≡ q.own.at
  pub gathered : (i ≤ q.own.first) ⊎ (is_kept a b c q.own.first ≡ true) → (q'.own.first ≡ q.own.first) × (q'.own.chain ≡ q.own.chain)
  pub lost : q.own.first < i → is_kept a b c q.own.first ≡ false → (slot q q.own.first).held ≡ true
      → (q'.own.first ≡ 5) × (q'.own.chain ≡ [])
  pub none : q.own.first ≡ 5 → q.own.chain ≡ [] → (q'.own.first ≡ 5) × (q'.own.chain ≡ [])

pub cleared_start : (a b c : ℕ) (q : ListPass) → ClearedTo 0 a b c q q
cleared_start a b c q = record {
  rest = rest_self q;
  same = same_self q.own;
  going = refl;
  kept = λ j _. refl;
  empty = λ j bad _. absurd (omega arith);
  at = λ _. refl;
  gathered = λ _. (refl, refl);
  lost = λ bad _ _. absurd (omega arith);
  none = λ f n. (f, n);
}

-- at the end all of them are
pub cleared_all : (a b c : ℕ) (q q' : ListPass) → ClearedTo 5 a b c q q' → Cleared a b c q q'
cleared_all a b c q q' d = record {
  rest = d.rest;
  same = d.same;
  going = d.going;
  kept = λ j k. d.kept j (inr k);
  empty = d.empty;
  at = λ k. d.at (inr k);
  gathered = λ k. d.gathered (inr k);
  lost = d.lost;
  none = d.none;
}

below_or : (i j : ℕ) → j < i + 1 → (j < i) ⊎ (j ≡ i)
below_or i j lt = dite (ℕ_discrete j i) (λ e. inr e) (λ ne. inl (omega arith))

-- from i on, as from i + 1 on
from_more : (i j : ℕ) (P : Type 0) → (i + 1 ≤ j) ⊎ P → (i ≤ j) ⊎ P
from_more i j P (inl le) = inl (omega arith)
from_more i j P (inr p) = inr p

-- the word i is kept
pub skip_kept : (i a b c : ℕ) (q q' : ListPass) → is_kept a b c i ≡ true → ClearedTo i a b c q q' → ClearedTo (i + 1) a b c q q'
skip_kept i a b c q q' keep d = record {
  rest = d.rest;
  same = d.same;
  going = d.going;
  kept = λ j k. d.kept j (from_more i j _ k);
  empty = λ j lt out. ⊎_elim (λ (l : j < i). d.empty j l out)
      (λ (e : j ≡ i). absurd (true≢false (sym keep ∙ (ap (is_kept a b c) (sym e) ∙ out)))) (below_or i j lt);
  at = λ k. d.at (from_more i q.own.at _ k);
  gathered = λ k. d.gathered (from_more i q.own.first _ k);
  lost = λ lt out held. ⊎_elim (λ (l : q.own.first < i). d.lost l out held)
      (λ (e : q.own.first ≡ i). absurd (true≢false (sym keep ∙ (ap (is_kept a b c) (sym e) ∙ out)))) (below_or i q.own.first lt);
  none = d.none;
}

-- the word i is empty
pub skip_empty : (i a b c : ℕ) (q q' : ListPass) → IsEmpty (slot q' i) → ClearedTo i a b c q q' → ClearedTo (i + 1) a b c q q'
skip_empty i a b c q q' nothing d = record {
  rest = d.rest;
  same = d.same;
  going = d.going;
  kept = λ j k. d.kept j (from_more i j _ k);
  empty = λ j lt out. ⊎_elim (λ (l : j < i). d.empty j l out)
      (λ (e : j ≡ i). subst (λ (k : ℕ). IsEmpty (slot q' k)) (sym e) nothing) (below_or i j lt);
  at = λ k. d.at (from_more i q.own.at _ k);
  gathered = λ k. d.gathered (from_more i q.own.first _ k);
  lost = λ lt out held. ⊎_elim (λ (l : q.own.first < i). d.lost l out held)
      (λ (e : q.own.first ≡ i). absurd (true≢false (sym held ∙ (ap (λ (s : WalkSlot). s.held)
      (sym (d.kept q.own.first (inl (omega arith))))
      ∙ (ap (λ (k : ℕ). (slot q' k).held) e ∙ nothing.free))))) (below_or i q.own.first lt);
  none = d.none;
}

-- the word i is cleared
module _ (i a b c : ℕ) (q q' r : ListPass) (five : length q'.walk ≡ 5) (low : i < 5) (out_i : is_kept a b c i ≡ false)
    (is : r ≡ clearing list_forget i q') (d : ClearedTo i a b c q q') where
  walk_r : r.walk ≡ set q'.walk i (naming 0)
  walk_r = ap (λ (x : ListPass). x.walk) is

  own_r : r.own ≡ list_forget i q'.own
  own_r = ap (λ (x : ListPass). x.own) is

  here_r : slot r i ≡ naming 0
  here_r = slot_here q' r i (naming 0) walk_r (omega arith)

  else_r : (j : ℕ) → j ≢ i → slot r j ≡ slot q' j
  else_r j ne = slot_else q' r i (naming 0) walk_r j ne

  -- a word that is kept or comes later is another one
  other : (j : ℕ) → (i + 1 ≤ j) ⊎ (is_kept a b c j ≡ true) → j ≢ i
  other j (inl le) e = omega arith
  other j (inr k) e = true≢false (sym k ∙ (ap (is_kept a b c) e ∙ out_i))

  stays_first : (f : ℕ) → q'.own.first ≡ f → f ≢ i → (r.own.first ≡ f) × (r.own.chain ≡ q'.own.chain)
  stays_first f e ne = (
    ap (λ (o : ListOwn). o.first) own_r ∙ (ap (λ (x : Bool). cond x 5 q'.own.first) (ne_eqb q'.own.first i (λ g. ne (sym e ∙ g))) ∙ e),
    ap (λ (o : ListOwn). o.chain) own_r ∙ ap (λ (x : Bool). cond x [] q'.own.chain) (ne_eqb q'.own.first i (λ g. ne (sym e ∙ g))),
  )

  goes_first : q'.own.first ≡ i → (r.own.first ≡ 5) × (r.own.chain ≡ [])
  goes_first e = (
    ap (λ (o : ListOwn). o.first) own_r ∙ ap (λ (x : Bool). cond x 5 q'.own.first) (Rattle.std.proofs.Common.eq-eqb q'.own.first i e),
    ap (λ (o : ListOwn). o.chain) own_r ∙ ap (λ (x : Bool). cond x [] q'.own.chain) (Rattle.std.proofs.Common.eq-eqb q'.own.first i e),
  )

  stays_none : (q'.own.first ≡ 5) × (q'.own.chain ≡ []) → (r.own.first ≡ 5) × (r.own.chain ≡ [])
  stays_none n = let s = stays_first 5 n.0 (λ e. omega arith) in (s.0, s.1 ∙ n.1)

  pub clear_one : ClearedTo (i + 1) a b c q r
  clear_one = record {
    rest = rest_through q q' r d.rest (subst (λ (x : ListPass). SameRest q' x) (sym is)
        record { number = refl; sizes = refl; owned = refl; retired_are = refl; frontier = refl; chains = refl; scan = refl });
    same = same_through q.own q'.own r.own d.same (subst (λ (x : ListOwn). SameCallOf q'.own x) (sym own_r)
        record { call = refl; start = refl; left = refl });
    going = ap (λ (o : ListOwn). o.going) own_r ∙ d.going;
    kept = λ j k. else_r j (other j k) ∙ d.kept j (from_more i j _ k);
    empty = λ j lt out. dite (ℕ_discrete j i)
        (λ e. subst (λ (k : ℕ). IsEmpty (slot r k)) (sym e)
        record { named = ap (λ (s : WalkSlot). s.named) here_r; free = ap (λ (s : WalkSlot). s.held) here_r })
        (λ ne. subst IsEmpty (sym (else_r j ne)) (d.empty j (omega arith) out));
    at = λ k. let was = d.at (from_more i q.own.at _ k) in let ne = other q.own.at k in ap (λ (o : ListOwn). o.at) own_r
        ∙ (ap (λ (x : Bool). cond x 5 q'.own.at) (ne_eqb q'.own.at i (λ e. ne (sym was ∙ e))) ∙ was);
    gathered = λ k. let was = d.gathered (from_more i q.own.first _ k) in let now = stays_first q.own.first was.0 (other q.own.first k) in
        (now.0, now.1 ∙ was.1);
    lost = λ lt out held. ⊎_elim (λ (l : q.own.first < i). stays_none (d.lost l out held))
        (λ (e : q.own.first ≡ i). goes_first ((d.gathered (inl (omega arith))).0 ∙ e)) (below_or i q.own.first lt);
    none = λ f n. stays_none (d.none f n);
  }

pub clear_quiet : (i p : ℕ) (v w : ListView) → MadeQuietStep clear_step p 0 0 (clearing list_forget i v.known) v w → Quiet 0 v w
clear_quiet i p v w made = quiet_idle (clears p) v w
    record { load = λ e. omega arith; confirm = λ e. omega arith; miss = λ e. omega arith; mark = λ e. omega arith } refl
    (plain_one (clears p) (clearing list_forget i v.known) v w refl refl made)

pub clear_known : (i p : ℕ) (v w : ListView) → MadeQuietStep clear_step p 0 0 (clearing list_forget i v.known) v w
    → w.known ≡ clearing list_forget i v.known
clear_known i p v w made = known_after clear_step p 0 0 [] [] (clearing list_forget i v.known) v w made

-- the word i is one of those that are kept, or it isn't
pub kept_is : (a b c i : ℕ) → (i ≡ a) ⊎ ((i ≡ b) ⊎ (i ≡ c)) → is_kept a b c i ≡ true
kept_is a b c i (inl e) = ap (λ (x : Bool). x || (nat_eq i b || nat_eq i c)) (Rattle.std.proofs.Common.eq-eqb i a e)
kept_is a b c i (inr (inl e)) = by (nat_eq i a)
  where
    by : (x : Bool) → x || (nat_eq i b || nat_eq i c) ≡ true
    by true = refl
    by false = ap (λ (x : Bool). x || nat_eq i c) (Rattle.std.proofs.Common.eq-eqb i b e)
kept_is a b c i (inr (inr e)) = by (nat_eq i a) (nat_eq i b)
  where
    by : (x y : Bool) → x || (y || nat_eq i c) ≡ true
    by true y = refl
    by false true = refl
    by false false = Rattle.std.proofs.Common.eq-eqb i c e

pub kept_none : (a b c i : ℕ) → i ≢ a → i ≢ b → i ≢ c → is_kept a b c i ≡ false
kept_none a b c i x y z = ap (λ (u : Bool). u || (nat_eq i b || nat_eq i c)) (ne_eqb i a x)
    ∙ (ap (λ (u : Bool). u || nat_eq i c) (ne_eqb i b y) ∙ ne_eqb i c z)

-- the pass cleared those below i
pub record ClearsTo (i a b c : ℕ) (s s' : Seat Unit ListView) : Type 0 where
  pub same : IsSame s s'
  pub cleared : ClearedTo i a b c (known s) (known s')
  pub idles : Quiet 0 (view s) (view s')

pub clears_start : (a b c : ℕ) (s : Seat Unit ListView) → ClearsTo 0 a b c s s
clears_start a b c s = record {
  same = record { table_is = refl; number = refl; sizes = refl };
  cleared = cleared_start a b c (known s);
  idles = quiet_none (view s);
}

pub clears_kept : (i a b c : ℕ) (s s' : Seat Unit ListView) → (i ≡ a) ⊎ ((i ≡ b) ⊎ (i ≡ c)) → ClearsTo i a b c s s' → ClearsTo
    (i + 1) a b c s s'
clears_kept i a b c s s' keep t = record {
  same = t.same;
  cleared = skip_kept i a b c (known s) (known s') (kept_is a b c i keep) t.cleared;
  idles = t.idles;
}

-- a walk word that names no record is empty
pub empty_word : (z : Sizes) (q : ListPass) (i : ℕ) → IsPassOf z q → i < 5 → (slot q i).named ≡ 0 → IsEmpty (slot q i)
empty_word z q i pass lt none = record { named = none; free = by (slot q i).held refl }
  where
    by : (h : Bool) → (slot q i).held ≡ h → (slot q i).held ≡ false
    by true e = let number = pass.held i lt e in let low = number.0 in absurd (omega arith)
    by false e = e

pub clears_empty : (i a b c : ℕ) (s s' : Seat Unit ListView) → IsPassOf (known s').sizes (known s') → i < 5 → (slot (known s') i).named ≡ 0
    → ClearsTo i a b c s s' → ClearsTo (i + 1) a b c s s'
clears_empty i a b c s s' pass lt none t = record {
  same = t.same;
  cleared = skip_empty i a b c (known s) (known s') (empty_word (known s').sizes (known s') i pass lt none) t.cleared;
  idles = t.idles;
}

pub clears_one : (i a b c p : ℕ) (s s' r : Seat Unit ListView) → length (known s').walk ≡ 5 → i < 5 → i ≢ a → i ≢ b → i ≢ c → IsSame s' r
    → MadeQuietStep clear_step p 0 0 (clearing list_forget i (known s')) (view s') (view r) → ClearsTo i a b c s s' → ClearsTo
    (i + 1) a b c s r
clears_one i a b c p s s' r five lt x y u same made t = record {
  same = record {
    table_is = same.table_is ∙ t.same.table_is;
    number = same.number ∙ t.same.number;
    sizes = same.sizes ∙ t.same.sizes;
  };
  cleared = clear_one i a b c (known s) (known s') (known r) five lt (kept_none a b c i x y u)
      (clear_known i p (view s') (view r) made) t.cleared;
  idles = quiet_both 0 0 0 refl (view s) (view s') (view r) t.idles (clear_quiet i p (view s') (view r) made);
}

-- what is held after it was held before
pub cleared_names : (a b c : ℕ) (q q' : ListPass) → Cleared a b c q q' → HoldsNoMore q q'
cleared_names a b c q q' d j low on = by (is_kept a b c j) refl
  where
    by : (k : Bool) → is_kept a b c j ≡ k → ((slot q j).held ≡ true) × ((slot q' j).named ≡ (slot q j).named)
    by true is = let same = d.kept j is in (ap (λ (s : WalkSlot). s.held) (sym same) ∙ on, ap (λ (s : WalkSlot). s.named) same)
    by false is = absurd (true≢false (sym on ∙ (d.empty j low is).free))
