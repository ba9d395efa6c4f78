-- The words that are stored in a private record.
use Rattle.std.proofs.Common.{◌≡◌, ℕ, zero, suc, ◌/◌, ◌%◌, ◌^◌, List, [], ◌∷◌, refl, sym, ap, ◌∙◌}
use Rattle.std.proofs.Common.{subst, arith}
use Rattle.std.proofs.Common.{set}
use mathlib.Core.Option.{some, some-injective}
use lib.ListN.{get_elem?}
use Rattle.pp_link.specs.declared.layout.Sizes.{Sizes}
use Rattle.pp_link.specs.declared.link.Link.{Link}
use Rattle.pp_link.specs.Links.{word_of}
use Rattle.pp_rule.specs.declared.views.PrivateRecord.{PrivateRecord}
use Rattle.pp_rule.specs.Lists.{OnceBy}
use Rattle.pp_rule.specs.Rule.{number_of}
use Rattle.pp_rule.specs.Steps.{wrote, with_private}
use Rattle.pp_rule.specs.Views.{halves, value_of}
use Rattle.pp_rule.proofs.Made.{known_after}
use Rattle.pp_rule.proofs.Put.{in_nil}
use Rattle.pp_base.specs.declared.purse.Purse.{Purse}
use Rattle.pp_base.specs.Private.{WroteField}
use Rattle.pp_pool.specs.Taken.{IsPrivate}
use Rattle.pp_lists.specs.Lists.{ListPass}
use Rattle.pp_lists.specs.Turns.{ListView}
use Rattle.pp_turns.proofs.Aside.{aside_one, aside_both}
use Rattle.pp_walk.specs.Effects.{FillsAt}
use Rattle.pp_list.specs.Purses.{WritesAside}

set_here : (ds : List PrivateRecord) (i : ℕ) (d x : PrivateRecord) → get_elem? ds i ≡ some d → get_elem? (set ds i x) i ≡ some x
set_here [] i d x at = absurd (in_nil d (i, at))
set_here (e ∷ ds) zero d x at = refl
set_here (e ∷ ds) (suc i) d x at = set_here ds i d x at

-- a store leaves the numbers
set_number : (ds : List PrivateRecord) (i k : ℕ) (d x y : PrivateRecord) → get_elem? ds i ≡ some d → x.number ≡ d.number
    → get_elem? (set ds i x) k ≡ some y → (e : PrivateRecord) × ((get_elem? ds k ≡ some e) × (e.number ≡ y.number))
set_number [] i k d x y at same found = absurd (in_nil d (i, at))
set_number (e ∷ ds) zero zero d x y at same found = let is = some-injective e d at in let now = some-injective x y found in
    (e, (refl, ap number_of is ∙ (sym same ∙ ap number_of now)))
set_number (e ∷ ds) zero (suc k) d x y at same found = (y, (found, refl))
set_number (e ∷ ds) (suc i) zero d x y at same found = (e, (refl, ap number_of (some-injective e y found)))
set_number (e ∷ ds) (suc i) (suc k) d x y at same found = set_number ds i k d x y at same found

-- the record with the number n is this one
record HasPrivate (q : ListPass) (n : ℕ) (d : PrivateRecord) : Type 0 where
  index : ℕ
  at : get_elem? q.owned index ≡ some d
  number_is : d.number ≡ n

-- A word was stored in a field of it.
module _ (z : Sizes) (n field word place : ℕ) (v w : ListView) (a : WroteField n field word place v w) where
  known_is : w.known ≡ with_private a.index (wrote field word a.was) v.known
  known_is = known_after _ _ _ _ _ _ _ v w a.made

  has_first : HasPrivate w.known n (wrote field word a.was)
  has_first = record {
    index = a.index;
    at = ap (λ (q : ListPass). get_elem? q.owned a.index) known_is ∙ set_here v.known.owned a.index a.was (wrote field word a.was) a.at;
    number_is = a.number_is;
  }

  has_on : (d : PrivateRecord) → OnceBy number_of v.known.owned → HasPrivate v.known n d → HasPrivate w.known n (wrote field word d)
  has_on d once h = subst (λ (x : PrivateRecord). HasPrivate w.known n (wrote field word x)) same has_first
    where
      here : h.index ≡ a.index
      here = once h.index a.index d a.was h.at a.at (h.number_is ∙ sym a.number_is)

      same : a.was ≡ d
      same = some-injective a.was d (sym a.at ∙ (ap (get_elem? v.known.owned) (sym here) ∙ h.at))

  once_on : OnceBy number_of v.known.owned → OnceBy number_of w.known.owned
  once_on once k l x y at_k at_l same =
      let gx = set_number v.known.owned a.index k a.was (wrote field word a.was) x a.at refl
      (ap (λ (q : ListPass). get_elem? q.owned k) (sym known_is) ∙ at_k) in
      let gy = set_number v.known.owned a.index l a.was (wrote field word a.was) y a.at refl
      (ap (λ (q : ListPass). get_elem? q.owned l) (sym known_is) ∙ at_l) in
      once k l gx.0 gy.0 gx.1.0 gy.1.0 (gx.1.1 ∙ (same ∙ sym gy.1.1))

  writes_one : WritesAside z v w
  writes_one = record {
    aside = aside_one z v w a.made refl refl;
    own = ap (λ (q : ListPass). q.own) known_is;
    walk = ap (λ (q : ListPass). q.walk) known_is;
    number = ap (λ (q : ListPass). q.number) known_is;
    sizes = ap (λ (q : ListPass). q.sizes) known_is;
    retired_are = ap (λ (q : ListPass). q.retired) known_is;
    frontier = ap (λ (q : ListPass). q.frontier) known_is;
    chains = ap (λ (q : ListPass). q.chains) known_is;
    scan = ap (λ (q : ListPass). q.scan) known_is;
  }

writes_both : (z : Sizes) (u v w : ListView) → WritesAside z u v → WritesAside z v w → WritesAside z u w
writes_both z u v w a b = record {
  aside = aside_both z u v w a.aside b.aside;
  own = b.own ∙ a.own;
  walk = b.walk ∙ a.walk;
  number = b.number ∙ a.number;
  sizes = b.sizes ∙ a.sizes;
  retired_are = b.retired_are ∙ a.retired_are;
  frontier = b.frontier ∙ a.frontier;
  chains = b.chains ∙ a.chains;
  scan = b.scan ∙ a.scan;
}

-- the two halves of a value
both_halves : (value : ℕ) → value_of (halves (value % 2 ^ 64) (value / 2 ^ 64)) ≡ value
both_halves value = omega arith

-- A key, a value, a left link and a right one were stored, one word after another.
module _ (z : Sizes) (n key value link right : ℕ) (p0 p1 p2 p3 p4 : ℕ) (v0 v1 v2 v3 v4 v5 : ListView)
    (a : WroteField n 0 key p0 v0 v1) (b : WroteField n 1 (value % 2 ^ 64) p1 v1 v2) (c : WroteField n 4 (value / 2 ^ 64) p2 v2 v3)
    (d : WroteField n 2 link p3 v3 v4) (e : WroteField n 3 right p4 v4 v5)
    (once : OnceBy number_of v1.known.owned) where
  o2 : OnceBy number_of v2.known.owned
  o2 = once_on z n 1 (value % 2 ^ 64) p1 v1 v2 b once

  o3 : OnceBy number_of v3.known.owned
  o3 = once_on z n 4 (value / 2 ^ 64) p2 v2 v3 c o2

  o4 : OnceBy number_of v4.known.owned
  o4 = once_on z n 2 link p3 v3 v4 d o3

  has : HasPrivate v5.known n (wrote 3 right (wrote 2 link (wrote 4 (value / 2 ^ 64) (wrote 1 (value % 2 ^ 64) (wrote 0 key a.was)))))
  has = has_on z n 3 right p4 v4 v5 e _ o4 (has_on z n 2 link p3 v3 v4 d _ o3 (has_on z n 4 (value / 2 ^ 64) p2 v2 v3 c _ o2
      (has_on z n 1 (value % 2 ^ 64) p1 v1 v2 b _ once (has_first z n 0 key p0 v0 v1 a))))

  pub fills : (p : Purse) (end : Link) → IsPrivate v5.known p n → link ≡ word_of end → FillsAt v5.known p n key value end
  fills p end private is = record {
    index = has.index;
    was = wrote 3 right (wrote 2 link (wrote 4 (value / 2 ^ 64) (wrote 1 (value % 2 ^ 64) (wrote 0 key a.was))));
    number_is = has.number_is;
    taken = private;
    at = has.at;
    key = refl;
    value = both_halves value;
    left = is;
  }

  pub writes : WritesAside z v0 v5
  writes = writes_both z v0 v1 v5 (writes_one z n 0 key p0 v0 v1 a) (writes_both z v1 v2 v5 (writes_one z n 1 (value % 2 ^ 64) p1 v1 v2 b)
      (writes_both z v2 v3 v5 (writes_one z n 4 (value / 2 ^ 64) p2 v2 v3 c) (writes_both z v3 v4 v5 (writes_one z n 2 link p3 v3 v4 d)
      (writes_one z n 3 right p4 v4 v5 e))))
