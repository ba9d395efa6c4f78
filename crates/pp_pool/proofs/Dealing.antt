-- The dealing of seats: what holds after each one.
use Rattle.std.proofs.Common.{◌≡◌, ℕ, zero, suc, ◌+◌, ◌-◌, ◌<◌, List, [], ◌∷◌, ◌++◌, length, All, IfSome}
use Rattle.std.proofs.Common.{refl, sym, ap, ◌∙◌, subst, arith}
use Rattle.std.proofs.Common.{Option as Opt, Some}
use Rattle.std.specs.Prelude.{option_to_list}
use Rattle.std.proofs.lemmas.List.Elements.{All-pop}
use Rattle.std.proofs.lemmas.List.{length_push}
use Rattle.std.proofs.lemmas.Option.{same_Some}
use Rattle.atomic_table.specs.Seated.{TableId}
use Rattle.atomic_table.specs.Table.{Me}
use Rattle.atomic_table.specs.declared.shared.Seat.{Seat}
use Rattle.pp_link.specs.declared.layout.Sizes.{Sizes}
use Rattle.pp_model.specs.Lists.{AtEach}
use Rattle.pp_rule.specs.declared.views.PassState.{PassState}
use Rattle.pp_rule.specs.declared.views.SeatView.{SeatView}
use Rattle.pp_rule.specs.Steps.{alone, several, kept_part}
use Rattle.pp_rule.specs.Opening.{share_of, start_of, dealt, dealt_from, first_view}
use Rattle.pp_rule.proofs.Shares.{dealt_next, start_next, start_zero}
use Rattle.pp_base.specs.Passes.{view}
use Rattle.pp_base.specs.Seats.{HasMore}
use Rattle.pp_pool.specs.declared.opening.Room.{Room}
use Rattle.pp_pool.specs.PurseRooms.{IsRoom}

-- one entry more
each_push : {A : Type 0} (P : ℕ → A → Type 0) (xs : List A) (y : A) (n : ℕ) → length xs ≡ n → AtEach xs P → P n y
    → AtEach (xs ++ y ∷ []) P
each_push P [] y zero count each here zero x at = subst (λ v. P 0 v) (same_Some y x at) here
each_push P [] y zero count each here (suc k) x at = absurd cc
each_push P [] y (suc n) count each here k x at = absurd (omega arith)
each_push P (z ∷ xs) y zero count each here k x at = absurd (omega arith)
each_push P (z ∷ xs) y (suc n) count each here zero x at = each zero x at
each_push P (z ∷ xs) y (suc n) count each here (suc k) x at =
    each_push (λ j. P (suc j)) xs y n (omega arith) (λ j. each (suc j)) here k x at

pub each_next : {A : Type 0} (xs : List A) (y : A) (n : ℕ) (ys : List A) (P : ℕ → A → Type 0) → ys ≡ xs ++ y ∷ [] → length xs ≡ n
    → AtEach xs P → P n y → AtEach ys P
each_next {A = A} xs y n ys P is count each here = subst (λ (zs : List A). AtEach zs P) (sym is) (each_push P xs y n count each here)

-- nothing is in an empty list
pub each_none : {A : Type 0} (xs : List A) (P : ℕ → A → Type 0) → xs ≡ [] → AtEach xs P
each_none {A = A} xs P is = subst (λ (zs : List A). AtEach zs P) (sym is) (λ k x at. absurd cc)

-- the last room of the list
pub room_popped : (records : ℕ) (rooms rest : List Room) (r : Opt Room) (room : Room) → rooms ≡ rest ++ option_to_list r → r ≡ Some room
    → All (IsRoom records) rooms → All (IsRoom records) rest × IsRoom records room × (length rest + 1 ≡ length rooms)
room_popped records rooms rest r room items is all = let both = All-pop (IsRoom records) rooms rest r items all in
    let last : rooms ≡ rest ++ room ∷ [] = items ∙ ap (λ (o : Opt Room). rest ++ option_to_list o) is in
    (both.0, subst (λ (o : Opt Room). IfSome o (IsRoom records)) is both.1, sym (ap length last ∙ length_push rest room))

module _ {E A W : Type 0} (sentinels : ℕ) (own : W) where
  -- a seat for the pass n and these others, and one for the pass n alone
  abbrev seat_for : Sizes → ℕ → List (PassState W) → Me Unit (SeatView E A W)
  seat_for z n others = (several [] (dealt sentinels own z n) others, [])

  abbrev seat_alone : Sizes → ℕ → Me Unit (SeatView E A W)
  seat_alone z n = (alone [] (dealt sentinels own z n), [])

module _ {E A W : Type 0} where
  -- what a seat becomes where it deals its own pass
  abbrev kept_seat : Me Unit (SeatView E A W) → Me Unit (SeatView E A W)
  kept_seat me = (kept_part me.0, me.1)

  -- The passes from n on are still to be dealt: the seat stands for them, the first of their records is this one, and there is
  -- room for their lists.
  pub record IsDealing (sentinels : ℕ) (own : W) (table : TableId) (z : Sizes) (n first : ℕ) (rooms : List Room)
      (s : Seat Unit (SeatView E A W)) : Type 0 where
    pub table_is : s.table_id ≡ table
    pub stands : s.me ≡ (several [] (dealt sentinels own z n) (dealt_from sentinels own z (n + 1) (z.passes - 1 - n)), [])
    pub first_is : first ≡ start_of sentinels z n
    pub rooms_are : All (IsRoom z.records) rooms
    pub enough : length rooms + n ≡ z.passes

  -- before the first one
  pub deals_first : (sentinels : ℕ) (own : W) (table : TableId) (z : Sizes) (first : ℕ) (rooms : List Room) (s : Seat Unit (SeatView E A W))
      → s.table_id ≡ table → s.me ≡ (first_view sentinels own z, []) → first ≡ sentinels + 1 → All (IsRoom z.records) rooms
      → length rooms ≡ z.passes → IsDealing sentinels own table z 0 first rooms s
  deals_first sentinels own table z first rooms s table_is knows begins are count =
      let low : 1 ≡ 0 + 1 = omega arith in
      let others : z.passes - 1 ≡ z.passes - 1 - 0 = omega arith in record {
        table_is = table_is;
        stands = knows ∙ (ap (λ k. seat_for sentinels own z 0 (dealt_from sentinels own z 1 k)) others
            ∙ ap (λ k. seat_for sentinels own z 0 (dealt_from sentinels own z k (z.passes - 1 - 0))) low);
        first_is = begins ∙ sym (start_zero sentinels z);
        rooms_are = are;
        enough = omega arith;
      }

  module _ (sentinels : ℕ) (own : W) (table : TableId) (z : Sizes) (n first : ℕ) (rooms : List Room) (s : Seat Unit (SeatView E A W))
      (d : IsDealing sentinels own table z n first rooms s) where
    -- the passes behind the next one
    others : List (PassState W)
    others = dealt_from sentinels own z (n + 1 + 1) (z.passes - 1 - (n + 1))

    stands_next : n + 1 < z.passes → s.me ≡ seat_for sentinels own z n (dealt sentinels own z (n + 1) ∷ others)
    unfolding others
    stands_next more =
        let next = dealt_next sentinels own z (n + 1) (z.passes - 1 - n) (omega arith) in
        let same : z.passes - 1 - n - 1 ≡ z.passes - 1 - (n + 1) = omega arith in
        d.stands ∙ ap (seat_for sentinels own z n)
        (next ∙ ap (λ k. dealt sentinels own z (n + 1) ∷ dealt_from sentinels own z (n + 1 + 1) k) same)

    pub has_more : n + 1 < z.passes → HasMore (view s)
    has_more more = record {
      next = dealt sentinels own z (n + 1);
      rest = others;
      is = subst (λ (me : Me Unit (SeatView E A W)). me.0 ≡ several me.0.order me.0.known (dealt sentinels own z (n + 1) ∷ others))
          (sym (stands_next more)) refl;
    }

    -- the last pass gets the seat itself, by what the code knows of the sizes and the number
    pub last_seat : (y : Sizes) (m : ℕ) → y ≡ z → m ≡ n → n + 1 ≡ z.passes → s.me ≡ (alone [] (dealt sentinels own y m), [])
    unfolding dealt_from
    last_seat y m sizes number last = let none : z.passes - 1 - n ≡ 0 = omega arith in
        d.stands ∙ (ap (λ k. seat_for sentinels own z n (dealt_from sentinels own z (n + 1) k)) none
        ∙ (ap (seat_alone sentinels own z) (sym number) ∙ ap (λ (x : Sizes). seat_alone sentinels own x m) (sym sizes)))

    -- after one more
    pub deals_next : n + 1 < z.passes → (share : ℕ) (rooms' : List Room) (s' : Seat Unit (SeatView E A W)) → s'.table_id ≡ s.table_id
        → s'.me ≡ (kept_part (view s), s.me.1) → share ≡ share_of sentinels z n → All (IsRoom z.records) rooms'
        → length rooms' + 1 ≡ length rooms → IsDealing sentinels own table z (n + 1) (first + share) rooms' s'
    unfolding others
    deals_next more share rooms' s' table_is kept share_is are count = let next : suc n ≡ n + 1 = omega arith in record {
      table_is = table_is ∙ d.table_is;
      stands = kept ∙ ap kept_seat (stands_next more);
      first_is = ap (λ k. k + share) d.first_is ∙ (ap (λ k. start_of sentinels z n + k) share_is
          ∙ (sym (start_next sentinels z n) ∙ ap (start_of sentinels z) next));
      rooms_are = are;
      enough = let had : length rooms + n ≡ z.passes = d.enough in omega arith;
    }
