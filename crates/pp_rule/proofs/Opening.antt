-- The rule holds of a pool as it opens.
use Rattle.std.proofs.Common.{◌≡◌, ◌≢◌, ◌⊎◌, ℕ, suc, ◌+◌, ◌-◌, ◌<◌, ◌≤◌, Bool, cond, leb, List, [], ◌∷◌, length, ◌++◌}
use Rattle.std.proofs.Common.{refl, sym, ap, ◌∙◌, subst}
use Rattle.std.proofs.Common.{inl, inr, ⊎_elim, arith, le-leb, leb-true, leb-false}
use Rattle.std.proofs.lemmas.Bool.{lt-leb}
use Rattle.std.proofs.Math.Bool.{false≢true}
use mathlib.Core.Option.{some-injective}
use lib.ListN.{get_elem?}
use Rattle.atomic_table.specs.Table.{opening}
use Rattle.pp_link.specs.declared.layout.Sizes.{Sizes}
use Rattle.pp_link.specs.Links.{target}
use Rattle.pp_link.specs.Places.{IsWithin, IsNumber}
use Rattle.pp_rule.specs.Lists.{IsIn, Once, OnceBy}
use Rattle.pp_rule.specs.Orders.{entries_of}
use Rattle.pp_rule.specs.Steps.{alone}
use Rattle.pp_rule.specs.Alone.{SeenState}
use Rattle.pp_rule.specs.Views.{WalkSlot, blank, PrivateRecord, PassState, SeatView, slot, guarding}
use Rattle.pp_rule.specs.States.{RecordState, attached, in_hand, retired, owned, shelved, IsStateIn, PoolState, Leads}
use Rattle.pp_rule.specs.Rule.{Reads, number_of, Numbers, Base}
use Rattle.pp_rule.specs.Ties.{TiedPass, Tied, Ties, Runs, Holds}
use Rattle.pp_rule.specs.Opening.{opening_words, start_of, share_of, records_from, dealt, first_view, OpensInto, IsOpening}
use Rattle.pp_rule.specs.Laws.{HeadsOpen, LinksOpen, MetAtOpening}
use Rattle.pp_rule.proofs.Put.{in_nil, only}
use Rattle.pp_rule.proofs.OpeningWords.{each_replicate, opening_wide, opening_walk, opening_frontier, opening_shelf, opening_head}
use Rattle.pp_rule.proofs.OpeningWords.{opening_field, opening_cell}
use Rattle.pp_rule.proofs.Seats.{either_way}
use Rattle.pp_rule.proofs.Shares.{empty, in_records, records_in, once_records, in_all_dealt, once_all_dealt, start_next, start_zero}
use Rattle.pp_rule.proofs.Shares.{start_total, start_rises}
use Rattle.pp_rule.proofs.Shares.{owner, owner_is, owner_in}

module _ (sentinels : ℕ) (z : Sizes) where
  -- the sentinels are attached, and every other record is free with the pass that is given it
  unfoldable pub opening_state : ℕ → RecordState
  opening_state n = cond (leb n sentinels) attached (owned (owner sentinels z z.passes n))

  pub opening_attached : (n : ℕ) → n ≤ sentinels → opening_state n ≡ attached
  unfolding opening_state
  opening_attached n le = ap (λ (b : Bool). cond b attached (owned (owner sentinels z z.passes n))) (le-leb n sentinels le)

  pub opening_owned : (n : ℕ) → sentinels < n → opening_state n ≡ owned (owner sentinels z z.passes n)
  unfolding opening_state
  opening_owned n lt = ap (λ (b : Bool). cond b attached (owned (owner sentinels z z.passes n))) (lt-leb n sentinels lt)

  state_cases : (n : ℕ) → ((n ≤ sentinels) × (opening_state n ≡ attached)) ⊎ ((sentinels < n) × (opening_state n ≡ owned
      (owner sentinels z z.passes n)))
  state_cases n = either_way (leb n sentinels)
      (λ at. let le : n ≤ sentinels = leb-true n sentinels at in inl (le, opening_attached n le))
      (λ above. let lt : sentinels < n = leb-false n sentinels above in inr (lt, opening_owned n lt))

  -- nothing else is known of a record as a pool opens
  no_other : (n : ℕ) (st : RecordState) → opening_state n ≡ st → attached ≢ st → ((p : ℕ) → owned p ≢ st) → ⊥
  no_other n st is a o = ⊎_elim (λ (c : (n ≤ sentinels) × (opening_state n ≡ attached)). a (sym c.1 ∙ is))
      (λ (c : (sentinels < n) × (opening_state n ≡ owned (owner sentinels z z.passes n))). o (owner sentinels z z.passes n)
      (sym c.1 ∙ is))
      (state_cases n)

  is_sentinel : (n : ℕ) → opening_state n ≡ attached → n ≤ sentinels
  is_sentinel n is = ⊎_elim (λ (c : (n ≤ sentinels) × (opening_state n ≡ attached)). c.0)
      (λ (c : (sentinels < n) × (opening_state n ≡ owned (owner sentinels z z.passes n))).
      let bad : owned (owner sentinels z z.passes n) ≡ attached = sym c.1 ∙ is in absurd cc) (state_cases n)

  owner_of : (n p : ℕ) → opening_state n ≡ owned p → (sentinels < n) × (owner sentinels z z.passes n ≡ p)
  owner_of n p is = ⊎_elim (λ (c : (n ≤ sentinels) × (opening_state n ≡ attached)). let bad : attached ≡ owned p = sym c.1
      ∙ is in absurd cc)
      (λ (c : (sentinels < n) × (opening_state n ≡ owned (owner sentinels z z.passes n))).
      let same : owned (owner sentinels z z.passes n) ≡ owned p = sym c.1 ∙ is in
      (c.0, let e : owner sentinels z z.passes n ≡ p = cc in e))
      (state_cases n)

  -- the numbers of the share of a pass
  share_is : (p n : ℕ) → IsWithin z → sentinels ≤ z.records → p < z.passes → start_of sentinels z p ≤ n
      → n < start_of sentinels z p + share_of sentinels z p → IsNumber z n × (sentinels < n) × (opening_state n ≡ owned p)
  share_is p n within most low least below =
      let next : start_of sentinels z (suc p) ≡ start_of sentinels z p + share_of sentinels z p = start_next sentinels z p in
      let first : start_of sentinels z 0 ≡ sentinels + 1 = start_zero sentinels z in
      let total : start_of sentinels z z.passes ≡ z.records + 1 = start_total sentinels z within most in
      let rises : start_of sentinels z 0 ≤ start_of sentinels z p = start_rises sentinels z 0 p (omega arith) in
      let ends : start_of sentinels z (suc p) ≤ start_of sentinels z z.passes = start_rises sentinels z (suc p) z.passes (omega arith) in
      let upper : n < start_of sentinels z (suc p) = subst (λ (k : ℕ). n < k) (sym next) below in
      let high : sentinels < n = omega arith in
      let top : n < z.records + 1 = omega arith in
      ((omega arith, omega arith), high, opening_owned n high ∙ ap owned (owner_is sentinels z z.passes p n low least upper))

  share_of_owner : (n : ℕ) → IsWithin z → sentinels ≤ z.records → IsNumber z n → sentinels < n → (p : ℕ)
      → owner sentinels z z.passes n ≡ p
      → (p < z.passes) × (start_of sentinels z p ≤ n) × (n < start_of sentinels z p + share_of sentinels z p)
  share_of_owner n within most number high p is =
      let first : start_of sentinels z 0 ≡ sentinels + 1 = start_zero sentinels z in
      let total : start_of sentinels z z.passes ≡ z.records + 1 = start_total sentinels z within most in
      let top : n ≤ z.records = number.1 in
      let found = owner_in sentinels z z.passes n (omega arith) (omega arith) in
      subst (λ (p : ℕ). (p < z.passes) × (start_of sentinels z p ≤ n) × (n < start_of sentinels z p + share_of sentinels z p)) is
      (found.0, found.1, subst (λ (k : ℕ). n < k) (start_next sentinels z (owner sentinels z z.passes n)) found.2)

  -- a word that leads to nil or to a sentinel
  leads_open : sentinels ≤ z.records → (w : ℕ) → OpensInto sentinels w → Leads z opening_state w
  leads_open most w o = record {
    small = o.small;
    valid = o.valid;
    to = either_way (leb (target w) 0)
        (λ at. let nil : target w ≤ 0 = leb-true (target w) 0 at in inl (omega arith))
        (λ above. let some : 0 < target w = leb-false (target w) 0 above in
        let low : target w ≤ sentinels = o.to in inr ((omega arith, omega arith), opening_attached (target w) low));
  }

module _ {W : Type 0} (sentinels : ℕ) (own : W) (z : Sizes) where
  number_of_dealt : (p : ℕ) → (dealt sentinels own z p).number ≡ p
  unfolding dealt
  number_of_dealt p = refl

  sizes_of_dealt : (p : ℕ) → (dealt sentinels own z p).sizes ≡ z
  unfolding dealt
  sizes_of_dealt p = refl

  owned_of_dealt : (p : ℕ) → (dealt sentinels own z p).owned ≡ records_from (start_of sentinels z p) (share_of sentinels z p)
  unfolding dealt
  owned_of_dealt p = refl

  retired_of_dealt : (p : ℕ) → (dealt sentinels own z p).retired ≡ []
  unfolding dealt
  retired_of_dealt p = refl

  chains_of_dealt : (p : ℕ) → (dealt sentinels own z p).chains ≡ []
  unfolding dealt
  chains_of_dealt p = refl

  left_of_dealt : (p : ℕ) → (dealt sentinels own z p).scan.left ≡ []
  unfolding dealt
  left_of_dealt p = refl

  five_of_dealt : (p : ℕ) → length (dealt sentinels own z p).walk ≡ 5
  unfolding dealt
  five_of_dealt p = refl

  four_of_dealt : (p : ℕ) → length (dealt sentinels own z p).frontier ≡ 4
  unfolding dealt
  four_of_dealt p = refl

  slot_of_dealt : (p i : ℕ) → slot (dealt sentinels own z p) i ≡ blank
  unfolding dealt
  slot_of_dealt p i = each_replicate 5 i blank

  guard_of_dealt : (p j : ℕ) → guarding (dealt sentinels own z p) j ≡ 0
  unfolding dealt
  guard_of_dealt p j = each_replicate 4 j 0

  -- the lists of the passes
  numbers_open : IsWithin z → sentinels ≤ z.records → Numbers z (dealt sentinels own z) (opening_state sentinels z)
  numbers_open within most = record {
    scope = λ n number. ⊎_elim
        (λ (c : (n ≤ sentinels) × (opening_state sentinels z n ≡ attached)). subst (IsStateIn z) (sym c.1) tt)
        (λ (c : (sentinels < n) × (opening_state sentinels z n ≡ owned (owner sentinels z z.passes n))). subst (IsStateIn z) (sym c.1)
        (share_of_owner sentinels z n within most number c.0 (owner sentinels z z.passes n) refl).0)
        (state_cases sentinels z n);
    owned_to = λ p d low i. let at = in_records (start_of sentinels z p) (share_of sentinels z p) d
        (subst (λ (l : List PrivateRecord). IsIn d l) (owned_of_dealt p) i) in
        let share = share_is sentinels z p d.number within most low at.0 at.1 in (share.0, share.2);
    owned_from = λ p n low number is. let mine = owner_of sentinels z n p is in
        let at = share_of_owner sentinels z n within most number mine.0 p mine.1 in (
          empty n,
          (
            subst (λ (l : List PrivateRecord). IsIn (empty n) l) (sym (owned_of_dealt p))
                (records_in (start_of sentinels z p) (share_of sentinels z p) n at.1 at.2),
            refl,
          ),
        );
    owned_once = λ p low. subst (λ (l : List PrivateRecord). OnceBy number_of l) (sym (owned_of_dealt p))
        (once_records (start_of sentinels z p) (share_of sentinels z p));
    retired_to = λ p n low i. absurd (in_nil n (subst (λ (l : List ℕ). IsIn n l) (retired_of_dealt p) i));
    retired_from = λ p n low number is. absurd (no_other sentinels z n (retired p) is (λ bad. absurd cc) (λ r bad. absurd cc));
    retired_once = λ p low. subst (λ (l : List ℕ). Once l) (sym (retired_of_dealt p)) (λ k l x y at_k at_l e. absurd (in_nil x
        (k, at_k)));
  }

module _ {E A : Type 0} where
  runs_open : (words : List ℕ) → Runs {E = E} {A = A} words words []
  unfolding entries_of
  runs_open words = record { leaves = refl; finds = tt; kept = λ s i. absurd (in_nil s i) }

-- no step stands in an empty order
pub none_split : {A : Type 0} (before after : List A) (s : A) → [] ≡ before ++ s ∷ after → ⊥
none_split [] after s is = cc
none_split (b ∷ before) after s is = cc

module _ {E A W : Type 0} (sides sentinels : ℕ) (head : ℕ → ℕ) (field : ℕ → ℕ → ℕ) (own : W) (z : Sizes) where
  -- what the rule knows at the opening
  abbrev pub opened_pool : PoolState E A W
  opened_pool = record { of = dealt sentinels own z; order = []; status = opening_state sentinels z }

  -- The facts of every pool as it opens: no record is in hand or retired, no hazard word names one, and the links of heads and
  -- sentinels lead to nil or to sentinels.
  pub base_open : sides ≤ 2 → IsWithin z → sentinels ≤ z.records → HeadsOpen sentinels head → LinksOpen sides sentinels field
      → Base sides z (opening_words sentinels head field z) opened_pool
  base_open two within most heads links =
      let words : List ℕ = opening_words sentinels head field z in
      let status : ℕ → RecordState = opening_state sentinels z in
      let of : ℕ → PassState W = dealt sentinels own z in record {
        within = within;
        two = two;
        wide = opening_wide sentinels head field z most;
        numbers = numbers_open sentinels own z within most;
        privates = record {
          reads = λ p d low i. let at = in_records (start_of sentinels z p) (share_of sentinels z p) d
              (subst (λ (l : List PrivateRecord). IsIn d l) (owned_of_dealt sentinels own z p) i) in
              let high : sentinels < d.number = (share_is sentinels z p d.number within most low at.0 at.1).1 in
              subst (λ (c : PrivateRecord). Reads z words c) (sym at.2) record {
                key = opening_cell sentinels head field z d.number 0 high (omega arith);
                value = opening_cell sentinels head field z d.number 1 high (omega arith);
                left = opening_cell sentinels head field z d.number 2 high (omega arith);
                right = opening_cell sentinels head field z d.number 3 high (omega arith);
                high = opening_cell sentinels head field z d.number 4 high (omega arith);
              };
        };
        hazards = record {
          five = λ p low. five_of_dealt sentinels own z p;
          four = λ p low. four_of_dealt sentinels own z p;
          walks = λ p i low lt. opening_walk sentinels head field z p i low lt ∙ sym (ap (λ (w : WalkSlot). w.named)
              (slot_of_dealt sentinels own z p i));
          frontiers = λ p j low lt. opening_frontier sentinels head field z p j low lt ∙ sym (guard_of_dealt sentinels own z p j);
          held = λ p i low lt on. absurd (false≢true (sym (ap (λ (w : WalkSlot). w.held) (slot_of_dealt sentinels own z p i)) ∙ on));
        };
        links = record {
          heads = λ h low. subst (Leads z status) (sym (opening_head sentinels head field z h low)) (leads_open sentinels z most
              (head h) (heads h));
          linked = λ n side number lt is. let low : n ≤ sentinels = is_sentinel sentinels z n is in
              let four : 2 + side < 5 = omega arith in
              subst (Leads z status) (sym (opening_field sentinels head field z n (2 + side) number.0 low four))
              (leads_open sentinels z most (field n (2 + side)) (links n side number.0 low lt));
          hand = λ n side p j number lt is. absurd (no_other sentinels z n (in_hand p j) is (λ bad. absurd cc) (λ r bad. absurd cc));
          spent = λ n side p number lt is. absurd (no_other sentinels z n (retired p) is (λ bad. absurd cc) (λ r bad. absurd cc));
        };
        shelves = record {
          named = λ j low. inl (opening_shelf sentinels head field z j low);
          home = λ n j number is. absurd (no_other sentinels z n (shelved j) is (λ bad. absurd cc) (λ r bad. absurd cc));
        };
        chains = record {
          guard = λ p c low i. absurd (in_nil c (subst (λ l. IsIn c l) (chains_of_dealt sentinels own z p) i));
          once = λ p low. subst (λ l. OnceBy (λ c. c.guard) l) (sym (chains_of_dealt sentinels own z p))
              (λ k l x y at_k at_l e. absurd (in_nil x (k, at_k)));
          members = λ p n c low i m. absurd (in_nil c (subst (λ l. IsIn c l) (chains_of_dealt sentinels own z p) i));
          members_once = λ p c low i. absurd (in_nil c (subst (λ l. IsIn c l) (chains_of_dealt sentinels own z p) i));
          home = λ p j n low number is. absurd (no_other sentinels z n (in_hand p j) is (λ bad. absurd cc) (λ r bad. absurd cc));
          valid = λ p n side c low i m lt. absurd (in_nil c (subst (λ l. IsIn c l) (chains_of_dealt sentinels own z p) i));
          links = λ p c l low i m. absurd (in_nil c (subst (λ l. IsIn c l) (chains_of_dealt sentinels own z p) i));
        };
        scans = record {
          left = λ p n low i. absurd (in_nil n (subst (λ (l : List ℕ). IsIn n l) (left_of_dealt sentinels own z p) i));
          left_once = λ p low. subst (λ (l : List ℕ). Once l) (sym (left_of_dealt sentinels own z p)) (λ k l x y at_k at_l e. absurd
              (in_nil x (k, at_k)));
          fronts = λ p n r j m side low i. absurd (in_nil n (subst (λ (l : List ℕ). IsIn n l) (left_of_dealt sentinels own z p) i));
          walks = λ p n r k low i. absurd (in_nil n (subst (λ (l : List ℕ). IsIn n l) (left_of_dealt sentinels own z p) i));
        };
      }

  -- the first seat stands for all passes, and no step was made
  ties_open : IsWithin z → Ties z (first_view sentinels own z ∷ []) opened_pool
  ties_open within =
      let v : SeatView E A W = first_view sentinels own z in
      let g : PoolState E A W = opened_pool in
      let seats : ℕ → ℕ = λ p. 0 in
      let tied : Tied z g seats 0 v = record {
        begins = ([], refl);
        each = λ q i. let c = in_all_dealt sentinels own z z.passes q within.some_passes i in
            subst (λ (q : PassState W). TiedPass z g seats 0 [] q) (sym c.1.1) record {
              number = subst (λ (p : ℕ). p < z.passes) (sym (number_of_dealt sentinels own z c.0)) c.1.0;
              sizes = sizes_of_dealt sentinels own z c.0;
              is = ap (dealt sentinels own z) (number_of_dealt sentinels own z c.0);
              seat = refl;
              steps = refl;
            };
        apart = once_all_dealt sentinels own z (z.passes - 1);
        kept = λ o i. absurd (in_nil o i);
        met = λ o i. absurd (in_nil o i);
      } in record {
        seat_of = seats;
        each_seat = λ j u at. let first : j ≡ 0 = only u v j at in
            let same : v ≡ u = some-injective v u (ap (λ (k : ℕ). get_elem? (v ∷ []) k) (sym first) ∙ at) in
            subst (λ (u : SeatView E A W). Tied z g seats j u) same (subst (λ (k : ℕ). Tied z g seats k v) (sym first) tied);
        last = (0, (v, refl, refl));
        made = λ s i. absurd (in_nil s i);
      }

  opening_is : IsOpening sentinels own z opened_pool
  opening_is = record {
    of = λ p low. refl;
    order = refl;
    sentinels_are = λ n number le. opening_attached sentinels z n le;
    others_are = λ n number lt. (owner sentinels z z.passes n, opening_owned sentinels z n lt);
  }

  -- The rule holds of the table with its opening words, whose first seat has the view of all passes.
  pub holds_open : (addition : Sizes → List ℕ → PoolState E A W → Type 0) (xs : List Unit) → sides ≤ 2 → IsWithin z
      → sentinels ≤ z.records
      → HeadsOpen sentinels head → LinksOpen sides sentinels field → MetAtOpening sides addition sentinels head field own
      → Holds sides (opening_words sentinels head field) addition z
      (opening (opening_words sentinels head field z) xs (first_view sentinels own z))
  holds_open addition xs two within most heads links met =
      let base : Base sides z (opening_words sentinels head field z) opened_pool = base_open two within most heads links in record {
        pool = opened_pool;
        ties = ties_open within;
        runs = runs_open (opening_words sentinels head field z);
        aside = λ before after s is. absurd (none_split before after s is);
        base = base;
        added = met z opened_pool within most base opening_is;
      }

  -- The view of each pass as it is dealt is of the opening words.
  pub state_open : (addition : Sizes → List ℕ → PoolState E A W → Type 0) (n : ℕ) → sides ≤ 2 → IsWithin z → sentinels ≤ z.records
      → HeadsOpen sentinels head → LinksOpen sides sentinels field → MetAtOpening sides addition sentinels head field own
      → SeenState sides (opening_words sentinels head field) addition (alone [] (dealt sentinels own z n))
  unfolding entries_of
  state_open addition n two within most heads links met =
      let sizes : (dealt sentinels own z n).sizes ≡ z = sizes_of_dealt sentinels own z n in
      let base : Base sides z (opening_words sentinels head field z) opened_pool = base_open two within most heads links in record {
        pool = opened_pool;
        base = subst (λ (y : Sizes). Base sides y (opening_words sentinels head field y) opened_pool) (sym sizes) base;
        added = subst (λ (y : Sizes). addition y (opening_words sentinels head field y) opened_pool) (sym sizes)
            (met z opened_pool within most base opening_is);
        order = refl;
        known_is = ap (dealt sentinels own z) (number_of_dealt sentinels own z n);
      }
