-- What the passes removed and left attached, after each step that a tree sees.
use Rattle.std.proofs.Common.{◌≡◌, ◌≢◌, ◌⊎◌, inl, inr, ⊎_elim, ℕ, ◌+◌, ◌*◌, ◌<◌, List, ◌∷◌}
use Rattle.std.proofs.Common.{sym, ap, ◌∙◌, subst, arith}
use Rattle.std.proofs.Math.Decide.{ℕ_discrete}
use mathlib.Core.Logic.{dite}
use Rattle.pp_link.specs.declared.layout.Sizes.{Sizes}
use Rattle.pp_link.specs.Links.{target, flag_bit, leaf_bit}
use Rattle.pp_rule.specs.Lists.{IsIn, Once, without}
use Rattle.pp_rule.specs.States.{attached, IsUsed}
use Rattle.pp_rule.proofs.Put.{in_cases, in_first, in_later}
use Rattle.pp_rule.proofs.Without.{in_without, without_in, once_without, once_cons}
use Rattle.pp_trees.specs.Trees.{Heap, Internal, Sane, SearchTree, Fewer, Marked, Spliced, Published, IsFlagged}
use Rattle.pp_trees.specs.Trees.{Remains}
use Rattle.pp_trees.proofs.Walking.{is_used, child_on}
use Rattle.pp_trees.proofs.Fewer as fewer
use Rattle.pp_trees.proofs.Marking as marking
use Rattle.pp_trees.proofs.Splicing as splicing
use Rattle.pp_trees.proofs.Splicing.{is_there}
use Rattle.pp_trees.proofs.Publishing as publishing
use Rattle.pp_trees.proofs.Publishing.{target_16}

-- the lists are as they were, no more edges are flagged, and a flagged leaf that stays attached stays flagged
pub remains_on : (z : Sizes) (t t' : Heap) (left left' : ℕ → List ℕ) → ((p : ℕ) → p < z.passes → left' p ≡ left p)
    → ((n r : ℕ) → Internal z t' n → r < 2 → flag_bit (t'.link n r) ≡ 1 → IsFlagged z t (target (t'.link n r)))
    → ((l : ℕ) → t'.state l ≡ attached → t.state l ≡ attached) → ((l : ℕ) → IsFlagged z t l → t'.state l ≡ attached
    → IsFlagged z t' l)
    → Remains z t left → Remains z t' left'
remains_on z t t' left left' same back was on m = record {
  once = λ p low. subst Once (sym (same p low)) (m.once p low);
  listed = λ n r i lt f. let w = back n r i lt f in let y = m.listed w.parent w.side_is w.internal w.low w.flag in (
    y.0,
    (
      y.1.0,
      subst (λ (ls : List ℕ). IsIn (target (t'.link n r)) ls) (sym (same y.0 y.1.0))
          (subst (λ (x : ℕ). IsIn x (left y.0)) w.to y.1.1),
    ),
  );
  flagged = λ one p l low i st. on l (m.flagged one p l low (subst (λ (ls : List ℕ). IsIn l ls) (same p low) i) (was l st)) st;
}

pub remains_fewer : (z : Sizes) (t t' : Heap) (left left' : ℕ → List ℕ) → Sane z t → Sane z t' → SearchTree z t → Fewer z t t'
    → ((p : ℕ) → p < z.passes → left' p ≡ left p) → Remains z t left → Remains z t' left'
remains_fewer z t t' left left' sane sane' tree d same = remains_on z t t' left left' same
    (λ n r i lt f. let was = fewer.internal_was z t t' sane sane' tree d n i in
    let link = fewer.link_on z t t' sane sane' tree d n r was lt in record {
      parent = n;
      side_is = r;
      internal = was;
      low = lt;
      flag = sym (ap flag_bit link) ∙ f;
      to = sym (ap target link);
    })
    (λ l. fewer.attached_was z t t' sane sane' tree d l)
    (λ l w st. let i = w.internal in let link = fewer.link_on z t t' sane sane' tree d w.parent w.side_is i w.low in
    let on = d.attached_on w.parent i.on in record {
      parent = w.parent;
      side_is = w.side_is;
      internal = record {
        number = i.number;
        on = on;
        children = fewer.children_on z t t' sane sane' tree d w.parent i.number (is_used (t'.state w.parent) on) i.children;
      };
      low = w.low;
      flag = ap flag_bit link ∙ w.flag;
      to = ap target link ∙ w.to;
    })

module _ (z : Sizes) (t t' : Heap) (p s w : ℕ) (sane : Sane z t) (tree : SearchTree z t) (d : Marked z t t' p s w) where
  internal_on : (n : ℕ) → Internal z t n → Internal z t' n
  internal_on n i = record {
    number = i.number;
    on = d.states n ∙ i.on;
    children = marking.children_on z t t' p s w sane tree d n i.number i.children;
  }

  -- a flagged edge stays flagged
  flagged_on : (l : ℕ) → IsFlagged z t l → IsFlagged z t' l
  flagged_on l y = record {
    parent = y.parent;
    side_is = y.side_is;
    internal = internal_on y.parent y.internal;
    low = y.low;
    flag = ⊎_elim
        (λ (at : (y.parent ≡ p) × (y.side_is ≡ s)). ap flag_bit (new_at y.parent y.side_is at)
        ∙ d.still (sym (ap flag_bit (old_at y.parent y.side_is at)) ∙ y.flag))
        (λ (ne : (y.parent ≡ p) × (y.side_is ≡ s) → ⊥). ap flag_bit
        (d.wired.links y.parent y.side_is y.internal.number y.low ne) ∙ y.flag)
        (is_there y.parent y.side_is p s);
    to = (marking.same_link z t t' p s w sane tree d y.parent y.side_is y.internal.number y.low).0 ∙ y.to;
  }
    where
      new_at : (n r : ℕ) → (n ≡ p) × (r ≡ s) → t'.link n r ≡ w
      new_at n r e = ap (λ (x : ℕ). t'.link x r) e.0 ∙ (ap (t'.link p) e.1 ∙ d.wired.there)

      old_at : (n r : ℕ) → (n ≡ p) × (r ≡ s) → t.link n r ≡ t.link p s
      old_at n r e = ap (λ (x : ℕ). t.link x r) e.0 ∙ ap (t.link p) e.1

  -- an edge that is flagged now was flagged, or it is the one that was marked
  flagged_was : (n r : ℕ) → Internal z t' n → r < 2 → flag_bit (t'.link n r) ≡ 1 → ((n ≡ p) × (r ≡ s))
      ⊎ IsFlagged z t (target (t'.link n r))
  flagged_was n r i lt f = ⊎_elim (λ (at : (n ≡ p) × (r ≡ s)). inl at)
      (λ (ne : (n ≡ p) × (r ≡ s) → ⊥). let link = d.wired.links n r i.number lt ne in inr record {
        parent = n;
        side_is = r;
        internal = marking.internal_was z t t' p s w sane tree d n i;
        low = lt;
        flag = sym (ap flag_bit link) ∙ f;
        to = sym (ap target link);
      })
      (is_there n r p s)

  pub remains_tagged : (left left' : ℕ → List ℕ) → flag_bit w ≡ flag_bit (t.link p s) → ((r : ℕ) → r < z.passes
      → left' r ≡ left r)
      → Remains z t left → Remains z t' left'
  remains_tagged left left' bit same = remains_on z t t' left left' same
      (λ n r i lt f. ⊎_elim
      (λ (at : (n ≡ p) × (r ≡ s)). let link = ap (λ (x : ℕ). t'.link x r) at.0 ∙ (ap (t'.link p) at.1 ∙ d.wired.there) in record {
        parent = p;
        side_is = s;
        internal = subst (Internal z t) at.0 (marking.internal_was z t t' p s w sane tree d n i);
        low = d.low;
        flag = sym bit ∙ (sym (ap flag_bit link) ∙ f);
        to = sym d.to ∙ sym (ap target link);
      })
      (λ (y : IsFlagged z t (target (t'.link n r))). y) (flagged_was n r i lt f))
      (λ l st. sym (d.states l) ∙ st) (λ l y st. flagged_on l y)

  -- the pass that set FLAG has the leaf in its list
  pub remains_flagged : (q : ℕ) (left left' : ℕ → List ℕ) → q < z.passes → Internal z t p → flag_bit w ≡ 1
      → left' q ≡ target w ∷ without (target w) (left q) → ((r : ℕ) → r ≢ q → left' r ≡ left r) → Remains z t left
      → Remains z t' left'
  remains_flagged q left left' low parent bit here others m = record {
    once = λ r lt. dite (ℕ_discrete r q)
        (λ e. subst Once (sym (ap left' e ∙ here)) (once_cons (λ n. n) (target w) (without (target w) (left q))
        (λ x i same. (in_without (target w) x (left q) i).1 same) (once_without (target w) (left q) (m.once q low))))
        (λ ne. subst Once (sym (others r ne)) (m.once r lt));
    listed = λ n r i lt f. ⊎_elim
        (λ (at : (n ≡ p) × (r ≡ s)). let link = ap (λ (x : ℕ). t'.link x r) at.0 ∙ (ap (t'.link p) at.1 ∙ d.wired.there) in (
          q,
          (
            low,
            subst (λ (ls : List ℕ). IsIn (target (t'.link n r)) ls) (sym here)
                (subst (λ (x : ℕ). IsIn x (target w ∷ without (target w) (left q))) (sym (ap target link)) (in_first (target w)
                (without (target w) (left q)))),
          ),
        ))
        (λ (y : IsFlagged z t (target (t'.link n r))). let o = m.listed y.parent y.side_is y.internal y.low y.flag in
        (o.0, (o.1.0, subst (λ (x : ℕ). IsIn x (left' o.0)) y.to (still (target (t.link y.parent y.side_is)) o.0 o.1.1))))
        (flagged_was n r i lt f);
    flagged = λ one r l lt i st. let same : r ≡ q = omega arith in ⊎_elim
        (λ (e : l ≡ target w). record {
          parent = p;
          side_is = s;
          internal = internal_on p parent;
          low = d.low;
          flag = ap flag_bit d.wired.there ∙ bit;
          to = ap target d.wired.there ∙ sym e;
        })
        (λ (later : IsIn l (without (target w) (left q))). flagged_on l (m.flagged one q l low (in_without (target w) l
        (left q) later).0 (sym (d.states l) ∙ st)))
        (in_cases l (target w) (without (target w) (left q)) (subst (λ (ls : List ℕ). IsIn l ls) (ap left' same ∙ here) i));
  }
    where
      still : (x r : ℕ) → IsIn x (left r) → IsIn x (left' r)
      still x r i = dite (ℕ_discrete r q)
          (λ e. subst (λ (ls : List ℕ). IsIn x ls) (sym (ap left' e ∙ here)) (dite (ℕ_discrete x (target w))
          (λ same. subst (λ (y : ℕ). IsIn y (target w ∷ without (target w) (left q))) (sym same) (in_first (target w) (without
          (target w) (left q))))
          (λ ne. in_later x (target w) (without (target w) (left q)) (without_in (target w) x (left q) (subst (λ
          (k : ℕ). IsIn x (left k)) e i) ne))))
          (λ ne. subst (λ (ls : List ℕ). IsIn x ls) (sym (others r ne)) i)

-- A splice takes away edges with FLAG, and the edge that it writes has the FLAG of one of them.
pub remains_spliced : (z : Sizes) (t t' : Heap) (a s w : ℕ) (In : ℕ → Type 0) (left left' : ℕ → List ℕ) → Sane z t
    → SearchTree z t → Spliced z t t' a s w In
    → ((p : ℕ) → p < z.passes → left' p ≡ left p) → Remains z t left → Remains z t' left'
remains_spliced z t t' a s w In left left' sane tree d same = remains_on z t t' left left' same
    (λ n r i lt f. let was = splicing.internal_was z t t' a s w In sane tree d n i in ⊎_elim
    (λ (at : (n ≡ a) × (r ≡ s)). let link = new_at n r at in let l = d.cut.last.1.1 in record {
      parent = d.cut.last.0;
      side_is = d.cut.last.1.0;
      internal = l.1;
      low = l.2;
      flag = l.5 ∙ (sym (ap flag_bit link) ∙ f);
      to = l.3 ∙ sym (ap target link);
    })
    (λ (ne : (n ≡ a) × (r ≡ s) → ⊥). let link = d.wired.links n r i.number lt ne in record {
      parent = n;
      side_is = r;
      internal = was.1;
      low = lt;
      flag = sym (ap flag_bit link) ∙ f;
      to = sym (ap target link);
    })
    (is_there n r a s))
    (λ l st. (splicing.was_attached z t t' a s w In sane tree d l st).1)
    (λ l y st. let out = (splicing.was_attached z t t' a s w In sane tree d l st).0 in ⊎_elim
    (λ (inside : In y.parent). ⊎_elim
    (λ (more : In (target (t.link y.parent y.side_is)) × (leaf_is y.parent y.side_is → flag_bit (t.link y.parent y.side_is) ≡ 1)).
    absurd (out (subst In y.to more.0)))
    (λ (end : (target (t.link y.parent y.side_is) ≡ target w) × (leaf_same y.parent y.side_is)
    × (flag_bit (t.link y.parent y.side_is) ≡ flag_bit w)). record {
      parent = a;
      side_is = s;
      internal = internal_on a d.cut.ancestor d.cut.stays;
      low = d.cut.low;
      flag = ap flag_bit d.wired.there ∙ (sym end.2 ∙ y.flag);
      to = ap target d.wired.there ∙ (sym end.0 ∙ y.to);
    })
    (d.cut.inside y.parent y.side_is inside y.internal y.low))
    (λ (outside : In y.parent → ⊥). let ne : (y.parent ≡ a) × (y.side_is ≡ s)
    → ⊥ = λ at. plain_not (sym (ap flag_bit (old_at y.parent y.side_is at)) ∙ y.flag) in
    let link = d.wired.links y.parent y.side_is y.internal.number y.low ne in record {
      parent = y.parent;
      side_is = y.side_is;
      internal = internal_on y.parent y.internal outside;
      low = y.low;
      flag = ap flag_bit link ∙ y.flag;
      to = ap target link ∙ y.to;
    })
    (d.cut.either y.parent))
  where
    leaf_is : ℕ → ℕ → Type 0
    leaf_is n r = leaf_bit (t.link n r) ≡ 1

    leaf_same : ℕ → ℕ → Type 0
    leaf_same n r = leaf_bit (t.link n r) ≡ leaf_bit w

    new_at : (n r : ℕ) → (n ≡ a) × (r ≡ s) → t'.link n r ≡ w
    new_at n r e = ap (λ (x : ℕ). t'.link x r) e.0 ∙ (ap (t'.link a) e.1 ∙ d.wired.there)

    old_at : (n r : ℕ) → (n ≡ a) × (r ≡ s) → t.link n r ≡ t.link a s
    old_at n r e = ap (λ (x : ℕ). t.link x r) e.0 ∙ ap (t.link a) e.1

    plain_not : flag_bit (t.link a s) ≡ 1 → ⊥
    plain_not one = let none = d.cut.plain in omega arith

    internal_on : (n : ℕ) → Internal z t n → (In n → ⊥) → Internal z t' n
    internal_on n i out = record {
      number = i.number;
      on = d.outside_state n out ∙ i.on;
      children = splicing.children_on z t t' a s w In sane tree d n i.number i.children;
    }

-- What is published is in no list of its pass, and the edges that are new have no FLAG.
module _ (z : Sizes) (t t' : Heap) (p s k c m : ℕ) (sane : Sane z t) (tree : SearchTree z t)
    (d : Published z t t' p s k c m) where
  private_in : (x : ℕ) (ls : List ℕ) → IsIn x ls → x ≢ c → x ≢ m → IsIn x (without c (without m ls))
  private_in x ls i nc nm = without_in c x (without m ls) (without_in m x ls i nm) nc

  -- an edge that is flagged now was flagged
  flagged_before : (n r : ℕ) → Internal z t' n → r < 2 → flag_bit (t'.link n r) ≡ 1
      → (n ≢ c) × (n ≢ m) × ((n ≡ p) × (r ≡ s) → ⊥) × (t'.link n r ≡ t.link n r)
  flagged_before n r i lt f = let ne : (n ≡ p) × (r ≡ s) → ⊥ = λ at. new_plain (sym (ap flag_bit (ap (λ
      (x : ℕ). t'.link x r) at.0 ∙ (ap (t'.link p) at.1 ∙ d.wired.there))) ∙ f) in
      (not_new, not_bare, ne, d.wired.links n r i.number lt ne)
    where
      new_plain : flag_bit (16 * c) ≡ 1 → ⊥
      new_plain e = omega arith

      leaf_plain : (x : ℕ) → flag_bit (16 * x + 8) ≡ 1 → ⊥
      leaf_plain x e = omega arith

      not_bare : n ≢ m
      not_bare e = i.children 0 (omega arith) (ap (λ (x : ℕ). target (t'.link x 0)) e
          ∙ ap target (publishing.link_bare z t t' p s k c m sane tree d 0 (omega arith)))

      not_new : n ≢ c
      not_new e = ⊎_elim
          (λ (there : r ≡ publishing.sn z t t' p s k c m sane tree d). leaf_plain m (sym (ap flag_bit (ap (λ
          (x : ℕ). t'.link x r) e
          ∙ (ap (t'.link c) there ∙ publishing.link_new z t t' p s k c m sane tree d))) ∙ f))
          (λ (there : r ≡ publishing.so z t t' p s k c m sane tree d). leaf_plain (target (t.link p s)) (sym (ap flag_bit (ap
          (λ (x : ℕ). t'.link x r) e
          ∙ (ap (t'.link c) there ∙ publishing.link_old z t t' p s k c m sane tree d))) ∙ f))
          (publishing.which z t t' p s k c m sane tree d r lt)

  internal_before : (n : ℕ) → Internal z t' n → n ≢ c → n ≢ m → Internal z t n
  internal_before n i nc nm = record {
    number = i.number;
    on = sym (d.others n nc nm) ∙ i.on;
    children = λ r lt e. ⊎_elim
        (λ (at : (n ≡ p) × (r ≡ s)). d.parent.children s d.low (sym (ap (λ (x : ℕ). target (t.link x r)) at.0
        ∙ ap (λ (x : ℕ). target (t.link p x)) at.1) ∙ e))
        (λ (ne : (n ≡ p) × (r ≡ s) → ⊥). i.children r lt (ap target (d.wired.links n r i.number lt ne) ∙ e)) (is_there n r p s);
  }

  internal_after : (n : ℕ) → Internal z t n → Internal z t' n
  internal_after n i = record {
    number = i.number;
    on = d.others n (not_c n i) (not_m n i) ∙ i.on;
    children = λ r lt e. ⊎_elim
        (λ (at : (n ≡ p) × (r ≡ s)). c_some (sym (target_16 c) ∙ (sym (ap target (ap (λ (x : ℕ). t'.link x r) at.0
        ∙ (ap (t'.link p) at.1 ∙ d.wired.there))) ∙ e)))
        (λ (ne : (n ≡ p) × (r ≡ s) → ⊥). i.children r lt (sym (ap target (d.wired.links n r i.number lt ne))
        ∙ e)) (is_there n r p s);
  }
    where
      not_c : (n : ℕ) → Internal z t n → n ≢ c
      not_c n i = publishing.not_c z t t' p s k c m sane tree d n (is_used (t.state n) i.on)

      not_m : (n : ℕ) → Internal z t n → n ≢ m
      not_m n i = publishing.not_m z t t' p s k c m sane tree d n (is_used (t.state n) i.on)

      c_some : c ≢ 0
      c_some e = let one = d.numbers.0.0 in omega arith

  pub remains_published : (q : ℕ) (left left' : ℕ → List ℕ) → q < z.passes → left' q ≡ without c (without m (left q))
      → ((r : ℕ) → r ≢ q → left' r ≡ left r) → Remains z t left → Remains z t' left'
  remains_published q left left' low here others y = record {
    once = λ r lt. dite (ℕ_discrete r q)
        (λ e. subst Once (sym (ap left' e ∙ here)) (once_without c (without m (left q)) (once_without m (left q) (y.once q low))))
        (λ ne. subst Once (sym (others r ne)) (y.once r lt));
    listed = λ n r i lt f. let b = flagged_before n r i lt f in let was = internal_before n i b.0 b.1 in
        let o = y.listed n r was lt (sym (ap flag_bit b.3) ∙ f) in let child = child_on z t sane tree n r was lt in
        let used : IsUsed (t.state (target (t.link n r))) = is_used (t.state (target (t.link n r))) child.1 in (
          o.0,
          (
            o.1.0,
            subst (λ (x : ℕ). IsIn x (left' o.0)) (sym (ap target b.3)) (still (target (t.link n r)) o.0 o.1.1
                (publishing.not_c z t t' p s k c m sane tree d (target (t.link n r)) used)
                (publishing.not_m z t t' p s k c m sane tree d (target (t.link n r)) used)),
          ),
        );
    flagged = λ one r l lt i st. let same : r ≡ q = omega arith in
        let i' = in_without c l (without m (left q)) (subst (λ (ls : List ℕ). IsIn l ls) (ap left' same
        ∙ here) i) in let i'' = in_without m l (left q) i'.0 in
        let w = y.flagged one q l low i''.0 (sym (d.others l i'.1 i''.1) ∙ st) in
        let link = d.wired.links w.parent w.side_is w.internal.number w.low (λ at. plain_not (sym (ap flag_bit
        (old_at w.parent w.side_is at)) ∙ w.flag)) in record {
          parent = w.parent;
          side_is = w.side_is;
          internal = internal_after w.parent w.internal;
          low = w.low;
          flag = ap flag_bit link ∙ w.flag;
          to = ap target link ∙ w.to;
        };
  }
    where
      still : (x r : ℕ) → IsIn x (left r) → x ≢ c → x ≢ m → IsIn x (left' r)
      still x r i nc nm = dite (ℕ_discrete r q)
          (λ e. subst (λ (ls : List ℕ). IsIn x ls) (sym (ap left' e ∙ here)) (private_in x (left q) (subst (λ (j : ℕ). IsIn x
          (left j)) e i) nc nm))
          (λ ne. subst (λ (ls : List ℕ). IsIn x ls) (sym (others r ne)) i)

      old_at : (n r : ℕ) → (n ≡ p) × (r ≡ s) → t.link n r ≡ t.link p s
      old_at n r e = ap (λ (x : ℕ). t.link x r) e.0 ∙ ap (t.link p) e.1

      plain_not : flag_bit (t.link p s) ≡ 1 → ⊥
      plain_not one = let none = d.plain in omega arith
