-- What the records of an insert hold.
use Rattle.std.proofs.Common.{◌≡◌, ◌≢◌, ℕ, ◌+◌, ◌*◌, ◌/◌, ◌%◌, ◌^◌, ◌<◌, ◌≤◌, List, [], ◌∷◌, ◌++◌, map}
use Rattle.std.proofs.Common.{set, refl, sym, ap, ◌∙◌, subst}
use Rattle.std.proofs.Common.{⊎_elim, arith}
use mathlib.Core.Option.{some, some-injective}
use lib.ListN.{get_elem?}
use Rattle.atomic_table.proofs.Lists.{at_set, set_here, set_else}
use Rattle.pp_rule.specs.declared.views.PrivateRecord.{PrivateRecord}
use Rattle.pp_rule.specs.Lists.{IsIn, OnceBy}
use Rattle.pp_rule.specs.Orders.{write_step}
use Rattle.pp_rule.specs.Rule.{number_of}
use Rattle.pp_rule.specs.Steps.{wrote, with_private}
use Rattle.pp_rule.specs.Views.{halves, value_of}
use Rattle.pp_rule.proofs.Made.{known_after}
use Rattle.pp_rule.proofs.Private.{numbers_set}
use Rattle.pp_rule.proofs.Put.{at_below, in_one, in_either}
use Rattle.pp_base.specs.Named.{NamedStep}
use Rattle.pp_base.specs.Passes.{owned_numbers}
use Rattle.pp_base.specs.Private.{WroteField}
use Rattle.pp_base.specs.declared.purse.Purse.{Purse}
use Rattle.pp_pool.specs.Taken.{IsPrivate}
use Rattle.pp_rule.specs.Lists.{times}
use Rattle.pp_trees.specs.Searches.{TreePass}
use Rattle.pp_trees.specs.Edges.{TreeView}
use Rattle.pp_turns.proofs.Placing.{unplaced_on}
use Rattle.pp_tree_turns.proofs.Seeks.{names_both}
use Rattle.pp_tree_turns.proofs.Exchanges.{quiet_names, quiet_unplaced}
use Rattle.pp_tree_turns.specs.Filling.{Has, OwnsAlike, Wrote, Filled, FilledOver}

alike_both : (p q r : TreePass) → OwnsAlike p q → OwnsAlike q r → OwnsAlike p r
alike_both p q r a b = record {
  is = b.is ∙ ap (λ (x : TreePass). record x { owned = r.owned }) a.is;
  numbers = b.numbers ∙ a.numbers;
}

pub wrote_both : (u v w : TreeView) → Wrote u v → Wrote v w → Wrote u w
wrote_both u v w a b = record {
  names = a.names ++ b.names;
  did = names_both a.names b.names u v w a.did b.did;
  unplaced = unplaced_on u v w a.did.stepped.number a.unplaced b.unplaced;
  each = λ s i. ⊎_elim (λ (j : IsIn s a.names). a.each s j) (λ (j : IsIn s b.names). b.each s j) (in_either s a.names b.names i);
  same = alike_both u.known v.known w.known a.same b.same;
}

-- One store.
module _ (n f x place : ℕ) (v w : TreeView) (o : WroteField n f x place v w) where
  known_is : w.known ≡ with_private o.index (wrote f x o.was) v.known
  known_is = known_after _ _ _ _ _ _ _ v w o.made

  owned_is : w.known.owned ≡ set v.known.owned o.index (wrote f x o.was)
  owned_is = ap (λ (q : TreePass). q.owned) known_is

  numbers_are : owned_numbers w.known ≡ owned_numbers v.known
  numbers_are = ap (λ (ds : List PrivateRecord). map number_of ds) owned_is
      ∙ numbers_set v.known.owned o.index o.was (wrote f x o.was) o.at refl

  pub wrote_one : Wrote v w
  wrote_one = record {
    names = step ∷ [];
    did = quiet_names v w o.made refl;
    unplaced = quiet_unplaced v w o.made refl;
    each = λ s i. ap (λ (t : NamedStep). t.kind) (sym (in_one s step i));
    same = record {
      is = known_is ∙ ap (λ (l : List PrivateRecord). record v.known { owned = l }) (sym owned_is);
      numbers = numbers_are;
    };
  }
    where
      step : NamedStep
      step = record { kind = write_step; place = place; word = x }

  pub wrote_here : Has w.known n (wrote f x o.was)
  wrote_here = record {
    index = o.index;
    at = ap (λ (l : List PrivateRecord). get_elem? l o.index) owned_is
        ∙ set_here v.known.owned o.index (wrote f x o.was) (at_below v.known.owned o.index o.was o.at);
    number_is = o.number_is;
  }

  module _ (once : OnceBy number_of v.known.owned) where
    pub wrote_again : (d : PrivateRecord) → Has v.known n d → Has w.known n (wrote f x d)
    wrote_again d h = let same : o.index ≡ h.index = once o.index h.index o.was d o.at h.at (o.number_is ∙ sym h.number_is) in
        let is : o.was ≡ d = some-injective o.was d (sym o.at ∙ (ap (get_elem? v.known.owned) same ∙ h.at)) in
        subst (λ (e : PrivateRecord). Has w.known n (wrote f x e)) is wrote_here

    pub wrote_other : (m : ℕ) (d : PrivateRecord) → m ≢ n → Has v.known m d → Has w.known m d
    wrote_other m d ne h = record {
      index = h.index;
      at = ap (λ (l : List PrivateRecord). get_elem? l h.index) owned_is
          ∙ (set_else v.known.owned o.index h.index (wrote f x o.was)
          (λ e. ne (sym h.number_is ∙ (ap number_of (some-injective d o.was (sym h.at ∙ (ap (get_elem? v.known.owned) e ∙ o.at)))
          ∙ o.number_is))) ∙ h.at);
      number_is = h.number_is;
    }

-- the records that are owned have their numbers still
once_wrote : (n f x place : ℕ) (v w : TreeView) → WroteField n f x place v w → OnceBy number_of v.known.owned
    → OnceBy number_of w.known.owned
once_wrote n f x place v w o once i j a b at_i at_j same = let p = origin i a at_i in let r = origin j b at_j in
    once i j p.0 r.0 p.1.0 r.1.0 (p.1.1 ∙ (same ∙ sym r.1.1))
  where
    origin : (i : ℕ) (a : PrivateRecord) → get_elem? w.known.owned i ≡ some a
        → (d : PrivateRecord) × ((get_elem? v.known.owned i ≡ some d) × (d.number ≡ a.number))
    origin i a at = ⊎_elim
        (λ (here : (i ≡ o.index) × (wrote f x o.was ≡ a)). (o.was, (ap (get_elem? v.known.owned) here.0 ∙ o.at, ap number_of here.1)))
        (λ (there : (i ≢ o.index) × (get_elem? v.known.owned i ≡ some a)). (a, (there.1, refl)))
        (at_set v.known.owned o.index i (wrote f x o.was) a (ap (λ (l : List PrivateRecord). get_elem? l i)
        (sym (owned_is n f x place v w o)) ∙ at))

-- all five words of a record
pub filled : (n key low high left right pk pl ph pa pb : ℕ) (v a b c d w : TreeView) → WroteField n 0 key pk v a → WroteField n 1 low pl a b
    → WroteField n 4 high ph b c → WroteField n 2 left pa c d → WroteField n 3 right pb d w
    → OnceBy number_of v.known.owned → (value : ℕ) → value_of (halves low high) ≡ value
    → Filled n key value left right v w
filled n key low high left right pk pl ph pa pb v a b c d w k l h x y ov value is = let oa = once_wrote n 0 key pk v a k ov in
    let ob = once_wrote n 1 low pl a b l oa in let oc = once_wrote n 4 high ph b c h ob in
    let od = once_wrote n 2 left pa c d x oc in record {
      wrote = wrote_both v a w (wrote_one n 0 key pk v a k) (wrote_both a b w (wrote_one n 1 low pl a b l)
          (wrote_both b c w (wrote_one n 4 high ph b c h) (wrote_both c d w (wrote_one n 2 left pa c d x) (wrote_one n 3 right pb d w y))));
      is = wrote 3 right (wrote 2 left (wrote 4 high (wrote 1 low (wrote 0 key k.was))));
      has = wrote_again n 3 right pb d w y od (wrote 2 left (wrote 4 high (wrote 1 low (wrote 0 key k.was))))
          (wrote_again n 2 left pa c d x oc (wrote 4 high (wrote 1 low (wrote 0 key k.was)))
          (wrote_again n 4 high ph b c h ob (wrote 1 low (wrote 0 key k.was))
          (wrote_again n 1 low pl a b l oa (wrote 0 key k.was) (wrote_here n 0 key pk v a k))));
      key_is = refl;
      value_is = is;
      left_is = refl;
      right_is = refl;
      others = λ m e ne was. wrote_other n 3 right pb d w y od m e ne (wrote_other n 2 left pa c d x oc m e ne
          (wrote_other n 4 high ph b c h ob m e ne (wrote_other n 1 low pl a b l oa m e ne (wrote_other n 0 key pk v a k ov m e ne was))));
    }

-- the internal record, whichever key is the greater one
pub over_left : (c m k here first left : ℕ) (v w : TreeView) → left ≡ 16 * m + 8 → k < here → Filled c here 0 left first v w
    → FilledOver c m k here first v w
over_left c m k here first left v w is less f = record {
  wrote = f.wrote;
  is = f.is;
  has = f.has;
  below = λ _. (f.key_is, f.left_is ∙ is, f.right_is);
  above = λ more. absurd (omega arith);
  others = f.others;
}

pub over_right : (c m k here first right : ℕ) (v w : TreeView) → right ≡ 16 * m + 8 → here ≤ k → Filled c k 0 first right v w
    → FilledOver c m k here first v w
over_right c m k here first right v w is most f = record {
  wrote = f.wrote;
  is = f.is;
  has = f.has;
  below = λ less. absurd (omega arith);
  above = λ _. (f.key_is, f.left_is, f.right_is ∙ is);
  others = f.others;
}

-- what was private is so still
pub private_on : (v w : TreeView) (p p' : Purse) (m : ℕ) → Wrote v w → p' ≡ p → IsPrivate v.known p m → IsPrivate w.known p' m
private_on v w p p' m o same private = subst (λ (l : List ℕ). times m p'.free.items < times m l) (sym o.same.numbers)
    (subst (λ (r : Purse). times m r.free.items < times m (owned_numbers v.known)) (sym same) private)

-- the two halves of a value
pub both_halves : (value : ℕ) → value_of (halves (value % 2 ^ 64) (value / 2 ^ 64)) ≡ value
both_halves value = omega arith
