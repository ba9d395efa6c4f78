-- What is known of a pass as its pool opens, and that what it has beside its seat agrees with that.
use Rattle.std.proofs.Common.{◌≡◌, ℕ, zero, suc, ◌+◌, ◌≤◌, ◌<◌, List, [], ◌∷◌, map, length, take, replicate}
use Rattle.std.proofs.Common.{refl, sym, ap, ◌∙◌, subst, arith, true, false, append-nil}
use Rattle.std.proofs.lemmas.List.{length-map}
use Rattle.atomic_table.specs.Seated.{TableId}
use Rattle.atomic_table.specs.Table.{Me}
use Rattle.atomic_table.specs.declared.shared.Seat.{Seat}
use Rattle.pp_link.specs.declared.layout.Sizes.{Sizes}
use Rattle.pp_link.specs.Places.{IsWithin}
use Rattle.pp_rule.specs.Lists.{IsIn, times}
use Rattle.pp_rule.specs.declared.views.WalkSlot.{WalkSlot}
use Rattle.pp_rule.specs.declared.views.PassState.{PassState}
use Rattle.pp_rule.specs.declared.views.SeatView.{SeatView}
use Rattle.pp_rule.specs.Views.{blank, slot, guarding}
use Rattle.pp_rule.specs.Rule.{number_of}
use Rattle.pp_rule.specs.Steps.{alone, IsAlone}
use Rattle.pp_rule.specs.Opening.{share_of, start_of, numbers_from, records_from, dealt}
use Rattle.pp_rule.proofs.Put.{in_nil}
use Rattle.pp_rule.proofs.OpeningWords.{each_replicate}
use Rattle.pp_rule.proofs.Shares.{in_records, once_records, start_next, start_zero, start_total, start_rises}
use Rattle.pp_rule.specs.declared.shape.Shape.{Ghosts}
use Rattle.pp_base.specs.declared.pool.Pass.{Pass}
use Rattle.pp_base.specs.declared.purse.Purse.{Purse}
use Rattle.pp_base.specs.Passes.{known, named_of, in_hand_of, members_of, owned_numbers, numbers_of}
use Rattle.pp_base.specs.Passes.{IsPassOf, HasRoom, Keeping, IsAtRest}
use Rattle.pp_pool.specs.Opened.{IsNewPurse, IsNewPass}

-- the shares lie between the sentinels and the last record
pub share_within : (sentinels : ℕ) (z : Sizes) (c : ℕ) → IsWithin z → sentinels ≤ z.records → c < z.passes
    → (sentinels < start_of sentinels z c) × (start_of sentinels z c + share_of sentinels z c ≤ z.records + 1)
share_within sentinels z c within most low =
    let first : start_of sentinels z 0 ≡ sentinels + 1 = start_zero sentinels z in
    let rises : start_of sentinels z 0 ≤ start_of sentinels z c = start_rises sentinels z 0 c (omega arith) in
    let next : start_of sentinels z (suc c) ≡ start_of sentinels z c + share_of sentinels z c = start_next sentinels z c in
    let ends : start_of sentinels z (suc c) ≤ start_of sentinels z z.passes = start_rises sentinels z (suc c) z.passes (omega arith) in
    let total : start_of sentinels z z.passes ≡ z.records + 1 = start_total sentinels z within most in
    (omega arith, subst (λ (k : ℕ). k ≤ z.records + 1) next (omega arith))

-- the share by what the code knows of the sizes
pub share_as : (sentinels : ℕ) (y z : Sizes) (c share : ℕ) → y ≡ z → share ≡ share_of sentinels y c → share ≡ share_of sentinels z c
share_as sentinels y z c share sizes is = is ∙ ap (λ (x : Sizes). share_of sentinels x c) sizes

numbers_of_records : (low n : ℕ) → map number_of (records_from low n) ≡ numbers_from low n
unfolding records_from numbers_from
numbers_of_records low zero = refl
numbers_of_records low (suc n) = ap (λ (l : List ℕ). low ∷ l) (numbers_of_records (low + 1) n)

length_records : (low n : ℕ) → length (records_from low n) ≡ n
unfolding records_from
length_records low zero = refl
length_records low (suc n) = let rest = length_records (low + 1) n in omega arith

module _ {W : Type 0} (sentinels : ℕ) (own : W) (z : Sizes) (c : ℕ) where
  length_owned : length (dealt sentinels own z c).owned ≡ share_of sentinels z c
  unfolding dealt
  length_owned = length_records (start_of sentinels z c) (share_of sentinels z c)

  numbers_of_dealt : owned_numbers (dealt sentinels own z c) ≡ numbers_from (start_of sentinels z c) (share_of sentinels z c)
  unfolding dealt
  numbers_of_dealt = numbers_of_records (start_of sentinels z c) (share_of sentinels z c)

  length_numbers : length (numbers_of (dealt sentinels own z c)) ≡ share_of sentinels z c
  unfolding dealt members_of
  length_numbers = ap length (append-nil (owned_numbers (dealt sentinels own z c)))
      ∙ (length-map (records_from (start_of sentinels z c) (share_of sentinels z c)) number_of ∙ length_owned)

  -- its numbers are those of records
  pass_of_dealt : IsWithin z → sentinels ≤ z.records → c < z.passes → IsPassOf z (dealt sentinels own z c)
  unfolding dealt
  pass_of_dealt within most low = record {
    within = within;
    pass = low;
    sizes = refl;
    five = refl;
    four = refl;
    held = λ i five on. let blank_is : slot (dealt sentinels own z c) i ≡ blank = each_replicate 5 i blank in
        let bad : false ≡ true = sym (ap (λ (w : WalkSlot). w.held) blank_is) ∙ on in absurd cc;
    owned = λ d i. let at = in_records (start_of sentinels z c) (share_of sentinels z c) d i in
        let between = share_within sentinels z c within most low in
        let least : start_of sentinels z c ≤ d.number = at.0 in
        let below : d.number < start_of sentinels z c + share_of sentinels z c = at.1 in
        let over : sentinels < start_of sentinels z c = between.0 in
        let under : start_of sentinels z c + share_of sentinels z c ≤ z.records + 1 = between.1 in (omega arith, omega arith);
    owned_once = once_records (start_of sentinels z c) (share_of sentinels z c);
    retired_are = λ n i. absurd (in_nil n i);
    retired_once = λ k l x y at_k at_l e. absurd (in_nil x (k, at_k));
    left = λ n i. absurd (in_nil n i);
    guard = λ d i. absurd (in_nil d i);
    members = λ d n i. absurd (in_nil d i);
    fit = let count : length (numbers_of (dealt sentinels own z c)) ≡ share_of sentinels z c = length_numbers in
        let high : start_of sentinels z c + share_of sentinels z c ≤ z.records + 1 = (share_within sentinels z c within most low).1 in
        let begins : sentinels < start_of sentinels z c = (share_within sentinels z c within most low).0 in omega arith;
  }

module _ {E A W : Type 0} where
  -- what a pass has beside its seat agrees with what the seat knows
  pub beside_dealt : (sentinels sides : ℕ) (own : W) (z : Sizes) (c number share : ℕ) (walk : List ℕ) (p : Purse)
      (s : Seat Unit (SeatView E A W)) → s.me ≡ (alone [] (dealt sentinels own z c), []) → IsWithin z → sentinels ≤ z.records → c < z.passes
      → number ≡ c
      → share ≡ share_of sentinels z c → walk ≡ replicate 5 0 → IsNewPurse z (start_of sentinels z c) (share_of sentinels z c) p
      → Keeping sentinels sides s number share walk p
  unfolding dealt
  beside_dealt sentinels sides own z c number share walk p s knows within most low number_is share_is unnamed new =
      let is : known s ≡ dealt sentinels own z c = ap (λ (m : Me Unit (SeatView E A W)). m.0.known) knows in
      let none : length (known s).retired ≡ 0 = ap (λ (q : PassState W). length q.retired) is in
      let empty : length p.retired.items ≡ 0 = ap length new.retired in
      let first : ℕ = start_of sentinels z c in
      let numbers : owned_numbers (known s) ≡ numbers_from first (share_of sentinels z c) = ap (λ (q : PassState W). owned_numbers q) is
      ∙ numbers_of_dealt sentinels own z c in
      let same_share : share_of sentinels z c ≡ share_of sentinels (known s).sizes number =
      ap (λ (k : ℕ). share_of sentinels z k) (sym number_is)
      ∙ ap (λ (q : PassState W). share_of sentinels q.sizes number) (sym is) in record {
        lone = subst (λ (m : Me Unit (SeatView E A W)). IsAlone m) (sym knows) (refl, refl);
        pass = subst (λ (q : PassState W). IsPassOf q.sizes q) (sym is) (pass_of_dealt sentinels own z c within most low);
        number_is = ap (λ (q : PassState W). q.number) is ∙ sym number_is;
        share_is = share_is ∙ same_share;
        walk_is = ap (λ (q : PassState W). map named_of q.walk) is ∙ sym unnamed;
        frontier = ap (λ (q : PassState W). q.frontier) is ∙ sym new.frontier;
        free = λ n. let same : times n p.free.items ≡ times n (owned_numbers (known s)) = ap (times n) (new.free ∙ sym numbers) in
            omega arith;
        retired_are = subst (λ (q : PassState W). take (length q.retired) p.retired.items ≡ q.retired) (sym is) refl;
        retired_count = let spent : p.spent ≡ 0 = new.spent in omega arith;
        chains = ap (λ (q : PassState W). map in_hand_of q.chains) is ∙ sym new.chains;
        few = let none : length p.chains.items ≡ 0 = ap length new.chains in omega arith;
        counted = let owned : length (owned_numbers (known s)) ≡ length (known s).owned = length-map (known s).owned number_of in
            let listed : length p.free.items ≡ length (owned_numbers (known s)) = ap length (new.free ∙ sym numbers) in omega arith;
        chained = λ d i. absurd (in_nil d (subst (λ (q : PassState W). IsIn d q.chains) is i));
        room = subst (λ (q : PassState W). HasRoom q.sizes p) (sym is)
            record { free = new.free_room; retired_are = new.retired_room; chains = new.chain_room };
      }

  -- no call is under way
  at_rest_dealt : (sentinels : ℕ) (own : W) (z : Sizes) (c : ℕ) (p : Purse) (s : Seat Unit (SeatView E A W))
      → s.me ≡ (alone [] (dealt sentinels own z c), []) → IsNewPurse z (start_of sentinels z c) (share_of sentinels z c) p
      → IsAtRest (known s) p
  unfolding dealt
  at_rest_dealt sentinels own z c p s knows new =
      let is : known s ≡ dealt sentinels own z c = ap (λ (m : Me Unit (SeatView E A W)). m.0.known) knows in record {
        scan = ap (λ (q : PassState W). q.scan.read) is;
        spent = new.spent;
        frontier = λ j four unused. ap (λ (q : PassState W). guarding q j) is ∙ each_replicate 4 j 0;
      }

module _ {S E A W : Type 0} {shape : Ghosts S E A W} where
  -- it is the pass with which its pool opens
  pub new_pass : (z : Sizes) (c : ℕ) (p : Pass S E A W shape) → p.seat.me ≡ (alone [] (dealt shape.SENTINELS shape.fresh z c), [])
      → p.number ≡ c → p.share ≡ share_of shape.SENTINELS z c → p.walk ≡ replicate 5 0
      → IsNewPurse z (start_of shape.SENTINELS z c) (share_of shape.SENTINELS z c) p.purse → IsNewPass p.seat.table_id z c p
  unfolding dealt
  new_pass z c p knows number_is share_is unnamed new = record {
    fits = record { table_is = refl; sizes = ap (λ (m : Me Unit (SeatView E A W)). m.0.known.sizes) knows };
    knows = knows;
    number_is = number_is;
    share_is = share_is;
    unnamed = unnamed;
    purse = new;
    rests = at_rest_dealt shape.SENTINELS shape.fresh z c p.purse p.seat knows new;
  }

  -- by what the code knows of its table, the sizes and its number
  pub new_pass_of : (table table' : TableId) (z z' : Sizes) (c c' : ℕ) (p : Pass S E A W shape) → table ≡ table' → z ≡ z' → c ≡ c'
      → IsNewPass table z c p → IsNewPass table' z' c' p
  new_pass_of table table' z z' c c' p tables sizes numbers new =
      subst (λ (t : TableId). IsNewPass t z' c' p) tables
      (subst (λ (y : Sizes). IsNewPass table y c' p) sizes (subst (λ (k : ℕ). IsNewPass table z k p) numbers new))
