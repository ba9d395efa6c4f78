-- A seat that stands for several passes deals one to a new seat, a seat takes over the passes of another, and what an order
-- tells where one seat stands for all passes.
use Rattle.std.proofs.Common.{◌≡◌, ◌≢◌, ◌⊎◌, ℕ, zero, suc, ◌+◌, ◌<◌, ◌≤◌, Bool, true, false, cond, eqb, leb, List, [], ◌∷◌, ◌++◌}
use Rattle.std.proofs.Common.{length, set, refl}
use Rattle.std.proofs.Common.{sym, ap, ◌∙◌, subst, inl, inr, ⊎_elim, append-nil, length-append, arith, eq-eqb, ne_eqb}
use Rattle.std.proofs.Common.{leb-true, leb-false}
use Rattle.std.proofs.lemmas.List.{length-set, nil_from_length}
use Rattle.std.proofs.Math.Decide.{ℕ_discrete}
use mathlib.Core.Logic.{dite}
use mathlib.Core.Option.{some, some-ne-none, some-injective}
use lib.ListN.{get_elem?}
use Rattle.atomic_table.specs.Table.{State, Splits, Joins, Seen}
use Rattle.atomic_table.proofs.Lists.{at_set, set_here, set_else, set_again, at_longer}
use Rattle.pp_link.specs.declared.layout.Sizes.{Sizes}
use Rattle.pp_rule.specs.Lists.{IsIn, BeginsWith, rest_of, longer}
use Rattle.pp_rule.specs.Orders.{LoggedStep, made_by, entries_of}
use Rattle.pp_rule.specs.Views.{PassState, SeatView, JoinedOrder, all_of}
use Rattle.pp_rule.specs.States.{PoolState}
use Rattle.pp_rule.specs.Ties.{pass_number, TiedPass, TiedOrder, Tied, Ties, Runs, Holds}
use Rattle.pp_rule.specs.Steps.{alone, several, kept_part, dealt_part, order_of, both_parts, spent_part, told_part}
use Rattle.pp_rule.specs.Closing.{IsEnd}
use Rattle.pp_rule.proofs.Put.{put, put_here, put_else, in_nil, in_first, in_later, in_cases, in_right, in_one, only, at_below}
use Rattle.pp_rule.proofs.Without.{once_tail, once_head, once_cons}
use Rattle.pp_rule.proofs.Histories.{made_append}

pub either_way : {B : Type 0} (b : Bool) → (b ≡ true → B) → (b ≡ false → B) → B
either_way true f g = f refl
either_way false f g = g refl

-- the seats of the passes, where one seat takes over those of another
unfoldable taking : ℕ → ℕ → (ℕ → ℕ) → ℕ → ℕ
taking id other seat_of n = cond (eqb (seat_of n) other) id (seat_of n)

module _ {A : Type 0} where
  -- an entry of a list with one more is an entry of the list, or the last one
  pub at_end : (l : List A) (a b : A) (j : ℕ) → get_elem? (l ++ a ∷ []) j ≡ some b → (get_elem? l j ≡ some b) ⊎ ((j ≡ length l) × (a ≡ b))
  at_end [] a b zero e = inr (refl, some-injective a b e)
  at_end [] a b (suc j) e = absurd (some-ne-none b (sym e))
  at_end (x ∷ l) a b zero e = inl e
  at_end (x ∷ l) a b (suc j) e = ⊎_elim inl (λ (c : (j ≡ length l) × (a ≡ b)). inr (ap suc c.0, c.1)) (at_end l a b j e)

  -- of two beginnings of a list the longer one begins with the other
  prefix_of : (xs ys r t : List A) → xs ++ r ≡ ys ++ t → length xs ≤ length ys → BeginsWith ys xs
  prefix_of [] ys r t e le = (ys, refl)
  prefix_of (x ∷ xs) [] r t e le = absurd (omega arith)
  prefix_of (x ∷ xs) (y ∷ ys) r t e le =
      let first : x ≡ y = some-injective x y (ap (λ (l : List A). get_elem? l 0) e) in
      let later : BeginsWith ys xs = prefix_of xs ys r t (ap rest_of e) (omega arith) in
      (later.0, ap (λ l. y ∷ l) later.1 ∙ ap (λ a. a ∷ (xs ++ later.0)) (sym first))

  -- a beginning as long as the list is the list
  full_prefix : (g xs : List A) → BeginsWith g xs → length g ≤ length xs → xs ≡ g
  full_prefix g xs b le =
      let none : b.0 ≡ [] = nil_from_length b.0 (let sum : length g ≡ length xs + length b.0 = ap (λ (l : List A). length l) b.1
      ∙ length-append xs b.0 in omega arith) in
      sym (b.1 ∙ (ap (λ l. xs ++ l) none ∙ append-nil xs))

  longer_second : (xs ys : List A) → leb (length xs) (length ys) ≡ true → longer xs ys ≡ ys
  longer_second xs ys e = ap (λ (b : Bool). cond b ys xs) e

  longer_first : (xs ys : List A) → leb (length xs) (length ys) ≡ false → longer xs ys ≡ xs
  longer_first xs ys e = ap (λ (b : Bool). cond b ys xs) e

  -- the longer of two lists is one of them
  pub longer_one : (xs ys : List A) → (longer xs ys ≡ xs) ⊎ (longer xs ys ≡ ys)
  longer_one xs ys = either_way (leb (length xs) (length ys)) (λ le. inr (longer_second xs ys le)) (λ gt. inl (longer_first xs ys gt))

  -- the longer of two beginnings begins the list, and begins with both
  pub longer_begins : (g xs ys : List A) → BeginsWith g xs → BeginsWith g ys → BeginsWith g (longer xs ys)
  longer_begins g xs ys b c = either_way (leb (length xs) (length ys))
      (λ yes. subst (λ (l : List A). BeginsWith g l) (sym (longer_second xs ys yes)) c)
      (λ no. subst (λ (l : List A). BeginsWith g l) (sym (longer_first xs ys no)) b)

  pub longer_left : (g xs ys : List A) → BeginsWith g xs → BeginsWith g ys → BeginsWith (longer xs ys) xs
  longer_left g xs ys b c = either_way (leb (length xs) (length ys))
      (λ yes. subst (λ (l : List A). BeginsWith l xs) (sym (longer_second xs ys yes))
      (prefix_of xs ys b.0 c.0 (sym b.1 ∙ c.1) (leb-true (length xs) (length ys) yes)))
      (λ no. subst (λ (l : List A). BeginsWith l xs) (sym (longer_first xs ys no)) ([], sym (append-nil xs)))

  pub longer_right : (g xs ys : List A) → BeginsWith g xs → BeginsWith g ys → BeginsWith (longer xs ys) ys
  longer_right g xs ys b c = either_way (leb (length xs) (length ys))
      (λ yes. subst (λ (l : List A). BeginsWith l ys) (sym (longer_second xs ys yes)) ([], sym (append-nil ys)))
      (λ no. let below : length ys < length xs = leb-false (length xs) (length ys) no in
      subst (λ (l : List A). BeginsWith l ys) (sym (longer_first xs ys no)) (prefix_of ys xs c.0 b.0 (sym c.1 ∙ b.1) (omega arith)))

  -- where one of the two is the list, so is the longer
  pub longer_full : (g xs ys : List A) → BeginsWith g xs → BeginsWith g ys → length g ≤ length xs ⊎ length g ≤ length ys
      → longer xs ys ≡ g
  longer_full g xs ys b c full = either_way (leb (length xs) (length ys))
      (λ yes. let below : length xs ≤ length ys = leb-true (length xs) (length ys) yes in longer_second xs ys yes
      ∙ full_prefix g ys c (⊎_elim (λ (le : length g ≤ length xs). omega arith) (λ (le : length g ≤ length ys). le) full))
      (λ no. let below : length ys < length xs = leb-false (length xs) (length ys) no in longer_first xs ys no
      ∙ full_prefix g xs b (⊎_elim (λ (le : length g ≤ length xs). le) (λ (le : length g ≤ length ys). omega arith) full))

module _ {E A : Type 0} where
  -- an order between two that have the same steps of a pass has these too
  pub made_between : (p : ℕ) (g l o : List (LoggedStep E A)) → BeginsWith g l → BeginsWith l o → made_by p o ≡ made_by p g
      → made_by p l ≡ made_by p g
  made_between p g l o b c same =
      let outer : length (made_by p g) ≡ length (made_by p l) + length (made_by p b.0) = ap (λ o. length (made_by p o)) b.1
      ∙ (ap (λ l. length l) (made_append p l b.0) ∙ length-append (made_by p l) (made_by p b.0)) in
      let inner : length (made_by p l) ≡ length (made_by p o) + length (made_by p c.0) = ap (λ o. length (made_by p o)) c.1
      ∙ (ap (λ l. length l) (made_append p o c.0) ∙ length-append (made_by p o) (made_by p c.0)) in
      let long : length (made_by p o) ≡ length (made_by p g) = ap (λ l. length l) same in
      let none : made_by p b.0 ≡ [] = nil_from_length (made_by p b.0) (omega arith) in
      sym (ap (made_by p) b.1 ∙ (made_append p l b.0 ∙ (ap (λ r. made_by p l ++ r) none ∙ append-nil (made_by p l))))

  -- where each pass that made one of these steps made none, there are none
  pub none_made : (xs : List (LoggedStep E A)) → ((s : LoggedStep E A) → IsIn s xs → made_by s.entry.pass xs ≡ []) → xs ≡ []
  unfolding made_by entries_of
  none_made [] each = refl
  none_made (s ∷ xs) each =
      let bad : s.entry.step ∷ made_by s.entry.pass xs ≡ [] =
      ap (λ (b : Bool). cond b (s.entry.step ∷ made_by s.entry.pass xs) (made_by s.entry.pass xs)) (sym
      (eq-eqb s.entry.pass s.entry.pass refl))
      ∙ each s (in_first s xs) in
      let long : suc (length (made_by s.entry.pass xs)) ≡ 0 = ap (λ l. length l) bad in absurd (omega arith)

module _ {E A W : Type 0} (sides : ℕ) (opens : Sizes → List ℕ) (addition : Sizes → List ℕ → PoolState E A W → Type 0) (z : Sizes) where
  -- another seat's view stays tied where its passes keep their seat
  pub tied_on : (g : PoolState E A W) (was now : ℕ → ℕ) (j : ℕ) (u : SeatView E A W) → ((p : ℕ) → was p ≡ j → now p ≡ j)
      → Tied z g was j u → Tied z g now j u
  tied_on g was now j u on t = record {
    begins = t.begins;
    each = λ q i. let old = t.each q i in
        record { number = old.number; sizes = old.sizes; is = old.is; seat = on q.number old.seat; steps = old.steps };
    apart = t.apart;
    kept = λ o i. let old = t.kept o i in record { begins = old.begins; seat = on o.pass old.seat; steps = old.steps };
    met = t.met;
  }

  -- a pass that is known in a view is known alone, in the seat that it has now
  tied_alone : (g : PoolState E A W) (was now : ℕ → ℕ) (i j : ℕ) (v : SeatView E A W) (q : PassState W) → Tied z g was i v → IsIn q
      (all_of v)
      → now q.number ≡ j → Tied z g now j (alone v.order q)
  tied_alone g was now i j v q t at seat = record {
    begins = t.begins;
    each = λ r m. subst (λ (r : PassState W). TiedPass z g now j v.order r) (in_one r q m)
        (let old = t.each q at in record { number = old.number; sizes = old.sizes; is = old.is; seat = seat; steps = old.steps });
    apart = λ k l x y at_k at_l e. only x q k at_k ∙ sym (only y q l at_l);
    kept = λ o m. absurd (in_nil o m);
    met = λ o m. absurd (in_nil o m);
  }

  -- The seat of the pass is the new one, and no other pass has another seat, since the view had each pass once.
  deals_first : (id : ℕ) (order : List (LoggedStep E A)) (known q : PassState W) (qs : List (PassState W))
      → Splits (Holds sides opens addition z) id (several order known (q ∷ qs)) (several order q qs) (alone order known)
  deals_first id order known q qs s h at =
      let v : SeatView E A W = several order known (q ∷ qs) in
      let left : SeatView E A W = several order q qs in
      let right : SeatView E A W = alone order known in
      let g : PoolState E A W = h.pool in
      let t : Ties z s.views g = h.ties in
      let n : ℕ = length s.views in
      let now : ℕ → ℕ = put t.seat_of known.number n in
      let tied : Tied z g t.seat_of id v = t.each_seat id v at in
      let mine : TiedPass z g t.seat_of id order known = tied.each known (in_first known (q ∷ qs)) in
      let deep : id < length s.views = at_below s.views id v at in
      let on : (j : ℕ) → j ≢ id → (p : ℕ) → t.seat_of p ≡ j → now p ≡ j =
      λ j ne p e. put_else t.seat_of known.number n p (λ same. ne (sym e ∙ (ap t.seat_of same ∙ mine.seat))) ∙ e in record {
        pool = g;
        ties = record {
          seat_of = now;
          each_seat = λ j u is. ⊎_elim
              (λ (old : get_elem? (set s.views id left) j ≡ some u). ⊎_elim
              (λ (c : (j ≡ id) × (left ≡ u)). subst (λ (u : SeatView E A W). Tied z g now j u) c.1
              (subst (λ (k : ℕ). Tied z g now k left) (sym c.0) record {
                begins = tied.begins;
                each = λ r i. let was = tied.each r (in_later r known (q ∷ qs) i) in record {
                  number = was.number;
                  sizes = was.sizes;
                  is = was.is;
                  seat = put_else t.seat_of known.number n r.number (once_head pass_number known (q ∷ qs) tied.apart r i) ∙ was.seat;
                  steps = was.steps;
                };
                apart = once_tail pass_number known (q ∷ qs) tied.apart;
                kept = λ o i. absurd (in_nil o i);
                met = λ o i. absurd (in_nil o i);
              }))
              (λ (c : (j ≢ id) × (get_elem? s.views j ≡ some u)). tied_on g t.seat_of now j u (on j c.0) (t.each_seat j u c.1))
              (at_set s.views id j left u old))
              (λ (new : (j ≡ length (set s.views id left)) × (right ≡ u)). subst (λ (u : SeatView E A W). Tied z g now j u) new.1
              (tied_alone g t.seat_of now id j v known tied (in_first known (q ∷ qs))
              (put_here t.seat_of known.number n ∙ sym (new.0 ∙ length-set s.views id left))))
              (at_end (set s.views id left) right u j is);
          last = dite (ℕ_discrete t.last.0 id)
              (λ e. (
                id,
                (
                  left,
                  at_longer (set s.views id left) (right ∷ []) id left (set_here s.views id left deep),
                  ap (λ (u : SeatView E A W). u.order) (some-injective v t.last.1.0 (sym at ∙ (ap (λ (k : ℕ). get_elem? s.views k)
                      (sym e) ∙ t.last.1.1)))
                      ∙ t.last.1.2,
                ),
              ))
              (λ ne. (
                t.last.0,
                (
                  t.last.1.0,
                  at_longer (set s.views id left) (right ∷ []) t.last.0 t.last.1.0
                      (set_else s.views id t.last.0 left ne ∙ t.last.1.1),
                  t.last.1.2,
                ),
              ));
          made = t.made;
        };
        runs = h.runs;
        aside = h.aside;
        base = h.base;
        added = h.added;
      }

  -- A seat that stands for several passes may deal its own pass to a new seat.
  pub deals : (id : ℕ) (v : SeatView E A W) (q : PassState W) (qs : List (PassState W)) → v ≡ several v.order v.known (q ∷ qs)
      → Splits (Holds sides opens addition z) id v (kept_part v) (dealt_part v)
  deals id v q qs is = subst (λ (u : SeatView E A W). Splits (Holds sides opens addition z) id u (kept_part u) (dealt_part u)) (sym is)
      (deals_first id v.order v.known q qs)

  -- The seats of the other's passes become the first one's. Both orders begin that of all steps, so the longer one begins with
  -- the other, and has all steps of the passes of both.
  joins_alone : (id other : ℕ) (order : List (LoggedStep E A)) (known nobody : PassState W) (w : SeatView E A W) → w.standing ≡ true
      → Joins (Holds sides opens addition z) id (alone order known) other w (both_parts (alone order known) w) (spent_part nobody)
  unfolding taking
  joins_alone id other order known nobody w standing s h at differ at_other =
      let v : SeatView E A W = alone order known in
      let both : SeatView E A W = both_parts v w in
      let spent : SeatView E A W = spent_part nobody in
      let g : PoolState E A W = h.pool in
      let t : Ties z s.views g = h.ties in
      let now : ℕ → ℕ = taking id other t.seat_of in
      let there : get_elem? s.views other ≡ some w = sym (set_else s.views id other both differ) ∙ at_other in
      let tv : Tied z g t.seat_of id v = t.each_seat id v at in
      let tw : Tied z g t.seat_of other w = t.each_seat other w there in
      let mine : TiedPass z g t.seat_of id order known = tv.each known (in_first known []) in
      let all_w : all_of w ≡ w.known ∷ w.taken = ap (λ (b : Bool). cond b (w.known ∷ w.taken) []) standing in
      let stays : (j : ℕ) → j ≢ other → (p : ℕ) → t.seat_of p ≡ j → now p ≡ j =
      λ j ne p e. ap (λ (b : Bool). cond b id (t.seat_of p)) (ne_eqb (t.seat_of p) other (λ same. ne (sym e ∙ same))) ∙ e in
      let comes : (p : ℕ) → t.seat_of p ≡ other → now p ≡ id =
      λ p e. ap (λ (b : Bool). cond b id (t.seat_of p)) (eq-eqb (t.seat_of p) other e) in
      let here : t.seat_of known.number ≡ id = mine.seat in
      let own : now known.number ≡ id = stays id (λ same. differ (sym same)) known.number here in
      let w_first : IsIn w.known (all_of w) = subst (λ (l : List (PassState W)). IsIn w.known l) (sym all_w) (in_first w.known w.taken) in
      let taken : TiedPass z g t.seat_of other w.order w.known = tw.each w.known w_first in
      let deep : id < length s.views = at_below s.views id v at in
      let long : List (LoggedStep E A) = longer order w.order in
      let begins : BeginsWith g.order long = longer_begins g.order order w.order tv.begins tw.begins in
      let left : BeginsWith long order = longer_left g.order order w.order tv.begins tw.begins in
      let right : BeginsWith long w.order = longer_right g.order order w.order tv.begins tw.begins in
      let views' : List (SeatView E A W) = set (set s.views id both) other spent in
      let at_id : get_elem? views' id ≡ some both = set_else (set s.views id both) other id spent (λ same. differ (sym same))
      ∙ set_here s.views id both deep in
      record {
        pool = g;
        ties = record {
          seat_of = now;
          each_seat = λ j u is. ⊎_elim
              (λ (c : (j ≡ other) × (spent ≡ u)). subst (λ (u : SeatView E A W). Tied z g now j u) c.1 record {
                begins = (g.order, refl);
                each = λ q i. absurd (in_nil q i);
                apart = λ k l x y at_k at_l e. absurd (in_nil x (k, at_k));
                kept = λ o i. absurd (in_nil o i);
                met = λ o i. absurd (in_nil o i);
              })
              (λ (c : (j ≢ other) × (get_elem? (set s.views id both) j ≡ some u)). ⊎_elim
              (λ (d : (j ≡ id) × (both ≡ u)). subst (λ (u : SeatView E A W). Tied z g now j u) d.1
              (subst (λ (k : ℕ). Tied z g now k both) (sym d.0) record {
                begins = begins;
                each = λ q i. ⊎_elim
                    (λ (first : q ≡ known). subst (λ (q : PassState W). TiedPass z g now id long q) (sym first) record {
                      number = mine.number;
                      sizes = mine.sizes;
                      is = mine.is;
                      seat = own;
                      steps = made_between known.number g.order long order begins left mine.steps;
                    })
                    (λ (later : IsIn q (all_of w)). let old = tw.each q later in record {
                      number = old.number;
                      sizes = old.sizes;
                      is = old.is;
                      seat = comes q.number old.seat;
                      steps = made_between q.number g.order long w.order begins right old.steps;
                    })
                    (in_cases q known (all_of w) i);
                apart = once_cons pass_number known (all_of w)
                    (λ q i same. differ (sym (tw.each q i).seat ∙ (ap t.seat_of same ∙ here))) tw.apart;
                kept = λ o i. ⊎_elim
                    (λ (first : o ≡ order_of v). subst (λ (o : JoinedOrder E A). TiedOrder g now id o) (sym first)
                    record { begins = tv.begins; seat = own; steps = mine.steps })
                    (λ (later : IsIn o (order_of w ∷ w.kept)). ⊎_elim
                    (λ (second : o ≡ order_of w). subst (λ (o : JoinedOrder E A). TiedOrder g now id o) (sym second)
                    record { begins = tw.begins; seat = comes w.known.number taken.seat; steps = taken.steps })
                    (λ (old : IsIn o w.kept). let k = tw.kept o old in
                    record { begins = k.begins; seat = comes o.pass k.seat; steps = k.steps })
                    (in_cases o (order_of w) w.kept later))
                    (in_cases o (order_of v) (order_of w ∷ w.kept) i);
                met = λ o i. absurd (in_nil o i);
              }))
              (λ (d : (j ≢ id) × (get_elem? s.views j ≡ some u)). tied_on g t.seat_of now j u (stays j c.0) (t.each_seat j u d.1))
              (at_set s.views id j both u c.1))
              (at_set (set s.views id both) other j spent u is);
          last = dite (ℕ_discrete t.last.0 id)
              (λ e. let same : v ≡ t.last.1.0 = some-injective v t.last.1.0 (sym at ∙ (ap (λ (k : ℕ). get_elem? s.views k) (sym e)
              ∙ t.last.1.1)) in
              let full : length g.order ≡ length order = ap (λ (l : List (LoggedStep E A)). length l)
              (sym (ap (λ (u : SeatView E A W). u.order) same ∙ t.last.1.2)) in
              (id, (both, at_id, longer_full g.order order w.order tv.begins tw.begins (inl (omega arith)))))
              (λ ne. dite (ℕ_discrete t.last.0 other)
              (λ e. let same : w ≡ t.last.1.0 = some-injective w t.last.1.0 (sym there ∙ (ap (λ (k : ℕ). get_elem? s.views k)
              (sym e) ∙ t.last.1.1)) in
              let full : length g.order ≡ length w.order = ap (λ (l : List (LoggedStep E A)). length l)
              (sym (ap (λ (u : SeatView E A W). u.order) same ∙ t.last.1.2)) in
              (id, (both, at_id, longer_full g.order order w.order tv.begins tw.begins (inr (omega arith)))))
              (λ no. (
                t.last.0,
                (
                  t.last.1.0,
                  set_else (set s.views id both) other t.last.0 spent no
                      ∙ (set_else s.views id t.last.0 both ne ∙ t.last.1.1),
                  t.last.1.2,
                ),
              )));
          made = t.made;
        };
        runs = h.runs;
        aside = h.aside;
        base = h.base;
        added = h.added;
      }

  -- A seat that is alone with its pass may take over the passes of a seat that stands for some, which then stands for none.
  pub joins : (id other : ℕ) (v w : SeatView E A W) (nobody : PassState W) → v ≡ alone v.order v.known → w.standing ≡ true
      → Joins (Holds sides opens addition z) id v other w (both_parts v w) (spent_part nobody)
  joins id other v w nobody is standing = subst
      (λ (u : SeatView E A W). Joins (Holds sides opens addition z) id u other w (both_parts u w) (spent_part nobody)) (sym is)
      (joins_alone id other v.order v.known nobody w standing)

  -- Any seat may leave behind what it has seen, in a seat that stands for no pass.
  pub tells : (id : ℕ) (v : SeatView E A W) → Splits (Holds sides opens addition z) id v v (told_part v)
  tells id v s h at =
      let g : PoolState E A W = h.pool in
      let t : Ties z s.views g = h.ties in
      let told : SeatView E A W = told_part v in record {
        pool = g;
        ties = record {
          seat_of = t.seat_of;
          each_seat = λ j u is. ⊎_elim
              (λ (old : get_elem? (set s.views id v) j ≡ some u). t.each_seat j u (subst (λ (l : List
              (SeatView E A W)). get_elem? l j ≡ some u)
              (set_again s.views id v at) old))
              (λ (new : (j ≡ length (set s.views id v)) × (told ≡ u)). subst (λ
              (u : SeatView E A W). Tied z g t.seat_of j u) new.1 record {
                begins = (t.each_seat id v at).begins;
                each = λ q i. absurd (in_nil q i);
                apart = λ k l x y at_k at_l e. absurd (in_nil x (k, at_k));
                kept = λ o i. absurd (in_nil o i);
                met = λ o i. absurd (in_nil o i);
              })
              (at_end (set s.views id v) told u j is);
          last = (
            t.last.0,
            (
              t.last.1.0,
              at_longer (set s.views id v) (told ∷ []) t.last.0 t.last.1.0
                  (subst (λ (l : List (SeatView E A W)). get_elem? l t.last.0 ≡ some t.last.1.0) (sym
                  (set_again s.views id v at)) t.last.1.1),
              t.last.1.2,
            ),
          );
          made = t.made;
        };
        runs = h.runs;
        aside = h.aside;
        base = h.base;
        added = h.added;
      }

  -- The last state where one seat stands for all passes: what it has seen is all that there was, since a step that it hasn't seen
  -- would be of one of its passes, all of whose steps it has seen.
  pub ended : (id : ℕ) (v : SeatView E A W) (s : State Unit (SeatView E A W)) → Seen (Holds sides opens addition z) id v s
      → ((p : ℕ) → p < z.passes → (q : PassState W) × (IsIn q (all_of v) × (q.number ≡ p))) → IsEnd sides opens addition z v s.words
  ended id v s seen all =
      let h : Holds sides opens addition z s = seen.0 in
      let g : PoolState E A W = h.pool in
      let t : Ties z s.views g = h.ties in
      let tied : Tied z g t.seat_of id v = t.each_seat id v seen.1 in
      let rest : List (LoggedStep E A) = tied.begins.0 in
      let split : g.order ≡ v.order ++ rest = tied.begins.1 in
      let in_all : (m : LoggedStep E A) → IsIn m rest → IsIn m g.order =
      λ m i. subst (λ (l : List (LoggedStep E A)). IsIn m l) (sym split) (in_right m v.order rest i) in
      let none : rest ≡ [] = none_made rest (λ m i. let q = all m.entry.pass (t.made m (in_all m i)) in
      let same : made_by m.entry.pass v.order ≡ made_by m.entry.pass g.order =
      subst (λ (p : ℕ). made_by p v.order ≡ made_by p g.order) q.1.1 (tied.each q.0 q.1.0).steps in
      let sum : length (made_by m.entry.pass g.order) ≡ length (made_by m.entry.pass v.order) + length (made_by m.entry.pass rest) =
      ap (λ o. length (made_by m.entry.pass o)) split ∙ (ap (λ l. length l) (made_append m.entry.pass v.order rest)
      ∙ length-append (made_by m.entry.pass v.order) (made_by m.entry.pass rest)) in
      let long : length (made_by m.entry.pass v.order) ≡ length (made_by m.entry.pass g.order) = ap (λ l. length l) same in
      nil_from_length (made_by m.entry.pass rest) (omega arith)) in
      let order : g.order ≡ v.order = split ∙ (ap (λ l. v.order ++ l) none ∙ append-nil v.order) in record {
        pool = g;
        base = h.base;
        added = h.added;
        order = order;
        of = λ q i. (tied.each q i).is;
        run = subst (λ (o : List (LoggedStep E A)). Runs (opens z) s.words o) order h.runs;
        made = λ m i. t.made m (subst (λ (l : List (LoggedStep E A)). IsIn m l) (sym order) i);
        kept = λ o i. let k = tied.kept o i in (
          subst (λ (l : List (LoggedStep E A)). BeginsWith l o.order) order k.begins,
          subst (λ (l : List (LoggedStep E A)). made_by o.pass o.order ≡ made_by o.pass l) order k.steps,
        );
      }
