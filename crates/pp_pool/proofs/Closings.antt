-- One seat that takes over the passes one after another, from the last one down, knows what they knew; and what it knows at the
-- end of the table.
use Rattle.std.proofs.Common.{◌≡◌, ℕ, zero, suc, ◌+◌, ◌<◌, Bool, true, cond, List, [], ◌∷◌, ◌++◌, map, length}
use Rattle.std.proofs.Common.{refl, sym, ap, ◌∙◌, subst, ⊎_elim, append_assoc, append-nil, arith}
use Rattle.std.proofs.lemmas.List.{map-append, length-map}
use mathlib.Core.Option.{some, some-ne-none, some-injective}
use lib.ListN.{get_elem?}
use Rattle.atomic_table.specs.Table.{State, Me, Seen}
use Rattle.atomic_table.specs.Seated.{TableId}
use Rattle.atomic_table.specs.declared.shared.Seat.{Seat}
use Rattle.pp_link.specs.declared.layout.Sizes.{Sizes}
use Rattle.pp_model.specs.declared.Pair.{Pair}
use Rattle.pp_model.specs.Lists.{AtEach}
use Rattle.pp_rule.specs.Lists.{IsIn, BeginsWith, longer, times}
use Rattle.pp_rule.specs.declared.views.PassState.{PassState}
use Rattle.pp_rule.specs.declared.views.SeatView.{SeatView}
use Rattle.pp_rule.specs.declared.views.JoinedOrder.{JoinedOrder}
use Rattle.pp_rule.specs.declared.views.LoggedStep.{LoggedStep}
use Rattle.pp_rule.specs.Orders.{log_of, made_by, placed_by}
use Rattle.pp_rule.specs.Views.{all_of}
use Rattle.pp_rule.specs.States.{PoolState}
use Rattle.pp_rule.specs.Ties.{Holds}
use Rattle.pp_rule.specs.Steps.{both_parts, told_part, order_of, IsAlone}
use Rattle.pp_rule.specs.Closing.{spare, IsEnd}
use Rattle.pp_rule.specs.Laws.{Closes}
use Rattle.pp_rule.specs.Alone.{IsOwnStep, HasOwnChanges}
use Rattle.pp_rule.proofs.Put.{in_first, in_later, in_cases, in_one}
use Rattle.pp_rule.proofs.Counting.{each_once, none_else}
use Rattle.pp_rule.proofs.Seats.{longer_one, ended}
use Rattle.pp_base.specs.Passes.{known, view}
use Rattle.pp_pool.specs.Closed.{IsSeatOf, AreSeats, IsJoined, IsClosedPool}

module _ {A : Type 0} where
  -- the entry between two lists stands at the length of the first
  at_between : (xs : List A) (a : A) (ys : List A) → get_elem? ((xs ++ a ∷ []) ++ ys) (length xs) ≡ some a
  at_between [] a ys = refl
  at_between (x ∷ xs) a ys = at_between xs a ys

  at_some : (xs : List A) (k : ℕ) → k < length xs → (x : A) × (get_elem? xs k ≡ some x)
  at_some [] k lt = absurd (omega arith)
  at_some (x ∷ xs) zero lt = (x, refl)
  at_some (x ∷ xs) (suc k) lt = at_some xs k (omega arith)

module _ {A B : Type 0} (f : A → B) where
  map_at : (xs : List A) (k : ℕ) (x : A) → get_elem? xs k ≡ some x → get_elem? (map f xs) k ≡ some (f x)
  map_at [] k x e = absurd (some-ne-none x (sym e))
  map_at (y ∷ xs) zero x e = ap (λ (a : A). some (f a)) (some-injective y x e)
  map_at (y ∷ xs) (suc k) x e = map_at xs k x e

  -- what is true of the image of each element is true of each element of the images
  pub each_image : (P : ℕ → B → Type 0) (xs : List A) → AtEach xs (λ k x. P k (f x)) → (k : ℕ) (b : B)
      → get_elem? (map f xs) k ≡ some b → P k b
  each_image P [] each k b e = absurd (some-ne-none b (sym e))
  each_image P (x ∷ xs) each zero b e = subst (P 0) (some-injective (f x) b e) (each 0 x refl)
  each_image P (x ∷ xs) each (suc k) b e = each_image (λ (l : ℕ). P (suc l)) xs (λ l y at. each (suc l) y at) k b e

  -- a list whose last element was taken off, by the images
  pub popped : (all rest : List A) (x : A) (y : B) → all ≡ rest ++ x ∷ [] → y ≡ f x → map f all ≡ map f rest ++ y ∷ []
  popped all rest x y is image = ap (map f) is ∙ (map-append f rest (x ∷ []) ∙ ap (λ (b : B). map f rest ++ b ∷ []) (sym image))

module _ {E A W : Type 0} where
  pub lone_same : (s t : Seat Unit (SeatView E A W)) → t ≡ s → IsAlone s.me → IsAlone t.me
  lone_same s t same lone = subst (λ (u : Seat Unit (SeatView E A W)). IsAlone u.me) (sym same) lone

  -- one seat has taken over the last ones of these, and the first ones are left
  abbrev pub JoinedRest : List (Seat Unit (SeatView E A W)) → List (Seat Unit (SeatView E A W)) → SeatView E A W → Type 0
  JoinedRest rest all v = (done : List (Seat Unit (SeatView E A W))) × ((all ≡ rest ++ done) × IsJoined done v)

  all_standing : (v : SeatView E A W) → v.standing ≡ true → all_of v ≡ v.known ∷ v.taken
  all_standing v standing = ap (λ (b : Bool). cond b (v.known ∷ v.taken) []) standing

  joined_one : (s : Seat Unit (SeatView E A W)) → IsAlone s.me → IsJoined (s ∷ []) (view s)
  joined_one s lone = record {
    standing = ap (λ (v : SeatView E A W). v.standing) lone.1;
    all = ap (λ (v : SeatView E A W). known s ∷ v.taken) lone.1;
    orders = λ t i. subst (λ (t : Seat Unit (SeatView E A W)). IsIn (order_of (view t)) (order_of (view s) ∷ (view s).kept))
        (in_one t s i) (in_first (order_of (view s)) (view s).kept);
    longest = (s, (in_first s [], refl));
  }

  joined_more : (done : List (Seat Unit (SeatView E A W))) (s : Seat Unit (SeatView E A W)) (w : SeatView E A W) → IsAlone s.me
      → IsJoined done w → IsJoined (s ∷ done) (both_parts (view s) w)
  joined_more done s w lone j = let v : SeatView E A W = view s in record {
    standing = ap (λ (v : SeatView E A W). v.standing) lone.1;
    all = ap (λ (l : List (PassState W)). known s ∷ l)
        (ap (λ (u : SeatView E A W). u.taken ++ all_of w) lone.1 ∙ (all_standing w j.standing ∙ j.all));
    orders = λ t i. ⊎_elim
        (λ (first : t ≡ s). subst (λ (t : Seat Unit (SeatView E A W)). IsIn (order_of (view t))
        (order_of (both_parts v w) ∷ order_of v ∷ order_of w ∷ w.kept)) (sym first)
        (in_later (order_of v) (order_of (both_parts v w)) (order_of v ∷ order_of w ∷ w.kept)
        (in_first (order_of v) (order_of w ∷ w.kept))))
        (λ (later : IsIn t done). in_later (order_of (view t)) (order_of (both_parts v w)) (order_of v ∷ order_of w ∷ w.kept)
        (in_later (order_of (view t)) (order_of v) (order_of w ∷ w.kept) (j.orders t later)))
        (in_cases t s done i);
    longest = ⊎_elim
        (λ (mine : longer v.order w.order ≡ v.order). (s, (in_first s done, mine)))
        (λ (other : longer v.order w.order ≡ w.order).
        (j.longest.0, (in_later j.longest.0 s done j.longest.1.0, other ∙ j.longest.1.1)))
        (longer_one v.order w.order);
  }

  -- The last of the passes is joined to none.
  pub rest_one : (rest all : List (Seat Unit (SeatView E A W))) (s : Seat Unit (SeatView E A W)) → IsAlone s.me → all ≡ rest ++ s ∷ []
      → JoinedRest rest all (view s)
  rest_one rest all s lone is = (s ∷ [], (is, joined_one s lone))

  pub bare_after : (m : Me Unit (SeatView E A W)) (u : SeatView E A W) → m ≡ (u, []) → m.1 ≡ []
  bare_after m u is = ap (λ (m : Me Unit (SeatView E A W)). m.1) is

  -- The last of those that are left takes over what was joined.
  pub rest_more : (rest left all : List (Seat Unit (SeatView E A W))) (s : Seat Unit (SeatView E A W)) (w : SeatView E A W)
      (m : Me Unit (SeatView E A W)) → IsAlone s.me → left ≡ rest ++ s ∷ [] → m ≡ (both_parts (view s) w, []) → JoinedRest left all w
      → JoinedRest rest all m.0
  rest_more rest left all s w m lone is both j = (
    s ∷ j.0,
    (
      j.1.0 ∙ (ap (λ (l : List (Seat Unit (SeatView E A W))). l ++ j.0) is ∙ append_assoc rest (s ∷ []) j.0),
      subst (λ (u : SeatView E A W). IsJoined (s ∷ j.0) u) (sym (ap (λ (m : Me Unit (SeatView E A W)). m.0) both))
          (joined_more j.0 s w lone j.1.1),
    ),
  )

  -- the last of these is a seat of the pool
  pub last_of : (table : TableId) (z : Sizes) (rest all : List (Seat Unit (SeatView E A W))) (s : Seat Unit (SeatView E A W))
      → all ≡ rest ++ s ∷ [] → AreSeats table z all → IsSeatOf table z (length rest) s
  last_of table z rest all s is each = each (length rest) s
      (ap (λ (l : List (Seat Unit (SeatView E A W))). get_elem? l (length rest)) (is ∙ sym (append-nil (rest ++ s ∷ [])))
      ∙ at_between rest s [])

  -- and so is the last of those that are left
  pub last_left : (table : TableId) (z : Sizes) (rest left all : List (Seat Unit (SeatView E A W))) (s : Seat Unit (SeatView E A W))
      (w : SeatView E A W) → left ≡ rest ++ s ∷ [] → JoinedRest left all w → AreSeats table z all → IsSeatOf table z (length rest) s
  last_left table z rest left all s w is j each = each (length rest) s
      (ap (λ (l : List (Seat Unit (SeatView E A W))). get_elem? l (length rest)) (j.1.0
      ∙ ap (λ (l : List (Seat Unit (SeatView E A W))). l ++ j.0) is) ∙ at_between rest s j.0)

  -- where the seats of all passes are joined, the view has each pass
  each_pass : (table : TableId) (z : Sizes) (seats : List (Seat Unit (SeatView E A W))) (v : SeatView E A W) → AreSeats table z seats
      → length seats ≡ z.passes → IsJoined seats v → (p : ℕ) → p < z.passes → (q : PassState W) × (IsIn q (all_of v) × (q.number ≡ p))
  each_pass table z seats v each all j p lt =
      let at = at_some seats p (omega arith) in
      let s : Seat Unit (SeatView E A W) = at.0 in
      let is : map known seats ≡ all_of v = sym (all_standing v j.standing ∙ j.all) in (
        known s,
        (
          subst (λ (l : List (PassState W)). IsIn (known s) l) is (p, map_at known seats p s at.1),
          (each p s at.1).1,
        ),
      )

  module _ (sides : ℕ) (opens : Sizes → List ℕ) (addition : Sizes → List ℕ → PoolState E A W → Type 0) where
    -- the last state of the table, under the view of the seat that took over all passes
    pub end_of : {P : Type 0} (seat : P → Seat Unit (SeatView E A W)) (passes : List P) (table : TableId) (z : Sizes) (id : ℕ)
        (v : SeatView E A W) (words : List ℕ) → AtEach passes (λ k p. IsSeatOf table z k (seat p)) → length passes ≡ z.passes
        → IsJoined (map seat passes) v → (s : State Unit (SeatView E A W)) × Seen (Holds sides opens addition z) id v s × (s.words ≡ words)
        → IsEnd sides opens addition z v words
    end_of seat passes table z id v words each all j last = subst (λ (l : List ℕ). IsEnd sides opens addition z v l) last.2
        (ended sides opens addition z id v last.0 last.1 (each_pass table z (map seat passes) v
        (each_image seat (IsSeatOf table z) passes each) (length-map passes seat ∙ all) j))

    -- What the closed pool shows, from what the last state tells.
    pub closes : (gathered : Sizes → List ℕ → List Pair → List ℕ → Type 0) (live_count : ℕ → ℕ)
        (tells : Sizes → List E → List Pair → Type 0) (tells_pass : Sizes → List E → ℕ → List A → Type 0)
        (caller : E → ℕ) → Closes sides addition gathered live_count tells tells_pass → HasOwnChanges addition caller
        → (z : Sizes) (seats : List (Seat Unit (SeatView E A W)))
        (v w : SeatView E A W) (words : List ℕ) (contents : List Pair) (live free : List ℕ) → IsJoined seats v
        → IsEnd sides opens addition z v words → w ≡ told_part v → gathered z words contents live → free ≡ spare live 1 z.records
        → IsClosedPool (opens z) gathered live_count tells tells_pass caller z seats contents free live w
    closes gathered live_count tells tells_pass caller law law_own z seats v w words contents live free j e told contents_are free_are =
        let g = law z words e.pool contents live e.base e.added contents_are in
        let kept : (o : JoinedOrder E A) → IsIn o (order_of v ∷ v.kept) → BeginsWith v.order o.order
        × (made_by o.pass o.order ≡ made_by o.pass v.order) = λ o i. ⊎_elim
        (λ (first : o ≡ order_of v). subst (λ (o : JoinedOrder E A). BeginsWith v.order o.order
        × (made_by o.pass o.order ≡ made_by o.pass v.order)) (sym first) (([], sym (append-nil v.order)), refl))
        (λ (later : IsIn o v.kept). e.kept o later) (in_cases o (order_of v) v.kept i) in
        subst (λ (u : SeatView E A W). IsClosedPool (opens z) gathered live_count tells tells_pass caller z
        seats contents free live u)
        (sym told)
        record {
          standing = refl;
          words = words;
          run = e.run;
          all = j.all;
          made = e.made;
          own = subst (λ (o : List (LoggedStep E A)). (s : LoggedStep E A) → IsIn s o → IsOwnStep caller s) e.order
              (law_own z words e.pool e.added);
          each = λ s i. kept (order_of (view s)) (j.orders s i);
          longest = j.longest;
          contents_are = contents_are;
          told = subst (λ (o : List (LoggedStep E A)). tells z (log_of o) contents) e.order g.2;
          told_pass = λ p lt. subst (λ (o : List (LoggedStep E A)). tells_pass z (log_of o) p (placed_by p o)) e.order (g.3 p lt);
          once = λ n is. ap (λ (l : List ℕ). times n live + times n l) free_are ∙ each_once live z g.0 n is.0 is.1;
          no_other = λ n out. ap (λ (l : List ℕ). times n live + times n l) free_are ∙ none_else live z g.0 n out;
          live_are = g.1;
          free_are = free_are;
        }
