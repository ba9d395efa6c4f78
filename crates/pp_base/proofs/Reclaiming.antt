-- The purse of a pass agrees with its seat after its reclaim pass has freed what no hazard word named.
use Rattle.std.proofs.Common.{◌≡◌, ℕ, ◌+◌, ◌≤◌, List, [], ◌∷◌, ◌++◌, map, length, sym, ap, ◌∙◌, subst, arith}
use Rattle.std.specs.List.Sorted.{IsPermutation}
use Rattle.std.proofs.lemmas.List.{map-append, length-append, length-map, take_all}
use Rattle.atomic_table.specs.declared.shared.Seat.{Seat}
use Rattle.pp_link.specs.declared.layout.Sizes.{Sizes}
use Rattle.pp_rule.specs.declared.views.PrivateRecord.{PrivateRecord}
use Rattle.pp_rule.specs.declared.views.SeatView.{SeatView}
use Rattle.pp_rule.specs.Rule.{number_of}
use Rattle.pp_rule.specs.Steps.{IsAlone, still, reclaimed}
use Rattle.pp_rule.specs.Opening.{share_of}
use Rattle.pp_base.specs.declared.purse.Purse.{Purse}
use Rattle.pp_base.specs.declared.purse.InHand.{InHand}
use Rattle.pp_base.specs.Scans.{is_named, chosen, rejected}
use Rattle.pp_base.proofs.Parted.{rejected_words, chosen_without}
use Rattle.pp_base.specs.Passes.{known, named_of, in_hand_of, members_of, owned_numbers, numbers_of, IsPassOf, HasRoom, Keeping}
use Rattle.pp_rule.proofs.Times.{times_append, times_length}
use Rattle.std.specs.Prelude.{Vec, vec_capacity}
use Rattle.pp_rule.specs.declared.views.Chain.{Chain}
use Rattle.pp_rule.specs.Lists.{IsIn, times, without, without_all}

-- what the words and the last one leave of a list
left_over : (words all ns left : List ℕ) (found : ℕ) → IsPermutation (words ++ found ∷ []) all → left ≡ without_all words ns
    → without found left ≡ rejected (is_named all) ns
left_over words all ns left found moved is = ap (λ (l : List ℕ). without found l) is ∙ sym (rejected_words words all ns found moved)

-- the lists of the purse have room after numbers went from one to the other
pub room_parted : (z y : Sizes) (p : Purse) (free retired : Vec ℕ _) → y ≡ z → vec_capacity p.free ≤ vec_capacity free
    → vec_capacity retired ≡ vec_capacity p.retired → HasRoom z p → HasRoom y (record p { free = free; retired = retired })
room_parted z y p free retired same more as_was room = let records : y.records ≡ z.records = ap (λ (x : Sizes). x.records) same in
    let a = room.free in let b = room.retired_are in record {
      free = omega (arith, a, more, records);
      retired_are = omega (arith, b, as_was, records);
      chains = room.chains;
    }

module _ {E A W : Type 0} where
  pub keeping_reclaimed : (sentinels sides : ℕ) (s s' : Seat Unit (SeatView E A W)) (z : Sizes) (number share : ℕ) (walk : List ℕ)
      (p p' : Purse)
      (found : ℕ) (freed : List PrivateRecord)
      → Keeping sentinels sides s number share walk p → IsAlone s'.me → IsPassOf z (known s') → known s' ≡ reclaimed found freed (known s)
      → p'.free.items ≡ p.free.items ++ map number_of freed → p'.retired.items ≡ (known s').retired → p'.spent ≡ 0
      → p'.frontier ≡ p.frontier → p'.chains.items ≡ p.chains.items → p'.taken ≡ p.taken → HasRoom (known s').sizes p'
      → Keeping sentinels sides s' number share walk p'
  keeping_reclaimed sentinels sides s s' z number share walk p p' found freed k lone pass is free retired none frontier chains taken
      room = record {
        lone = lone;
        pass = subst (λ (y : Sizes). IsPassOf y (known s')) (sym pass.sizes) pass;
        number_is = ap (λ q. q.number) is ∙ k.number_is;
        share_is = k.share_is ∙ ap (λ q. share_of sentinels q.sizes number) (sym is);
        walk_is = ap (λ q. map named_of q.walk) is ∙ k.walk_is;
        frontier = ap (λ q. q.frontier) is ∙ (k.frontier ∙ sym frontier);
        free = λ n. let was = k.free n in
            let mine : times n p'.free.items ≡ times n p.free.items + times n (map number_of freed) =
            ap (times n) free ∙ times_append n p.free.items (map number_of freed) in
            let all : times n (map number_of (known s').owned) ≡ times n (map number_of (known s).owned) + times n (map number_of freed) =
            ap (λ q. times n (map number_of q.owned)) is ∙ (ap (times n) (map-append number_of (known s).owned freed)
            ∙ times_append n (map number_of (known s).owned) (map number_of freed)) in omega (arith, was, mine, all);
        retired_are = take_all (length (known s').retired) p'.retired.items (omega (arith, ap (λ (l : List ℕ). length l) retired)) ∙ retired;
        retired_count = omega (arith, ap (λ (l : List ℕ). length l) retired, none);
        chains = ap (λ q. map in_hand_of q.chains) is ∙ (k.chains ∙ sym chains);
        few = subst (λ (l : List InHand). length l ≤ 4) (sym chains) k.few;
        counted = let was = k.counted in
            let all : length (known s').owned ≡ length (known s).owned + length freed =
            ap (λ q. length q.owned) is ∙ length-append (known s).owned freed in
            let list : length p'.free.items ≡ length p.free.items + length (map number_of freed) =
            ap (λ (l : List ℕ). length l) free ∙ length-append p.free.items (map number_of freed) in
            let count : length (map number_of freed) ≡ length freed = length-map freed number_of in
            omega (arith, was, all, list, count, taken);
        chained = λ c i. k.chained c (subst (λ (l : List Chain). IsIn c l) (ap (λ q. q.chains) is) i);
        room = room;
      }

  -- the free list has room for what may be freed
  pub free_fits : (sentinels sides : ℕ) (s : Seat Unit (SeatView E A W)) (number share : ℕ) (walk : List ℕ) (p : Purse)
      → Keeping sentinels sides s number share walk p → p.spent ≡ 0
      → length p.free.items + length p.retired.items ≤ vec_capacity p.free
  free_fits sentinels sides s number share walk p k none =
      let free = times_length p.free.items (owned_numbers (known s)) k.free in
      let fit = k.pass.fit in let room = k.room.free in
      let all : length (numbers_of (known s)) ≡ length (owned_numbers (known s)) + length ((known s).retired ++ members_of
      (known s).chains) =
      length-append (owned_numbers (known s)) ((known s).retired ++ members_of (known s).chains) in
      let rest : length ((known s).retired ++ members_of (known s).chains) ≡ length (known s).retired + length
      (members_of (known s).chains) =
      length-append (known s).retired (members_of (known s).chains) in
      let count = k.retired_count in omega (arith, free, fit, room, all, rest, count, none)

  -- the retired numbers are the purse's, where no number of a chain stands behind them
  pub only_retired : (sentinels sides : ℕ) (s : Seat Unit (SeatView E A W)) (number share : ℕ) (walk : List ℕ) (p : Purse)
      → Keeping sentinels sides s number share walk p → p.spent ≡ 0 → p.retired.items ≡ (known s).retired
  only_retired sentinels sides s number share walk p k none =
      sym (take_all (length (known s).retired) p.retired.items (omega (arith, k.retired_count, none))) ∙ k.retired_are

  -- what no hazard word named is what the parting rejects
  pub gone_are : (sentinels sides : ℕ) (s : Seat Unit (SeatView E A W)) (number share : ℕ) (walk : List ℕ) (p : Purse) (words all : List ℕ)
      (found : ℕ)
      → Keeping sentinels sides s number share walk p → p.spent ≡ 0 → IsPermutation (words ++ found ∷ []) all
      → still (known s) ≡ without_all words (known s).retired → rejected (is_named all) p.retired.items ≡ without found (still (known s))
  gone_are sentinels sides s number share walk p words all found k none moved read =
      ap (λ (l : List ℕ). rejected (is_named all) l) (only_retired sentinels sides s number share walk p k none)
      ∙ sym (left_over words all (known s).retired (still (known s)) found moved read)

  -- what the parting chooses is what stays retired
  pub stay_are : (sentinels sides : ℕ) (s s' : Seat Unit (SeatView E A W)) (number share : ℕ) (walk : List ℕ) (p : Purse)
      (words all : List ℕ)
      (found : ℕ) (freed : List PrivateRecord)
      → Keeping sentinels sides s number share walk p → p.spent ≡ 0 → IsPermutation (words ++ found ∷ []) all
      → still (known s) ≡ without_all words (known s).retired
      → known s' ≡ reclaimed found freed (known s) → chosen (is_named all) p.retired.items ≡ (known s').retired
  stay_are sentinels sides s s' number share walk p words all found freed k none moved read is =
      ap (λ (l : List ℕ). chosen (is_named all) l) (only_retired sentinels sides s number share walk p k none)
      ∙ (sym (chosen_without (is_named all) (known s).retired)
      ∙ (ap (λ (l : List ℕ). without_all l (known s).retired)
      (sym (left_over words all (known s).retired (still (known s)) found moved read))
      ∙ sym (ap (λ q. q.retired) is)))
