-- The purse of a pass agrees with its seat as records are taken from its free list, given back and told of as published.
use Rattle.std.proofs.Common.{◌≡◌, ◌≢◌, ℕ, ◌+◌, ◌-◌, ◌^◌, ◌<◌, ◌≤◌, min, List, [], ◌∷◌, ◌++◌, map, length}
use Rattle.std.proofs.Common.{refl, sym, ap, ◌∙◌, subst, arith, length-append}
use Rattle.std.proofs.lemmas.List.{length-map}
use Rattle.std.proofs.Math.Decide.{ℕ_discrete}
use mathlib.Core.Logic.{dite}
use Rattle.std.specs.Prelude.{Vec, vec_capacity, Option, Some, Result, Ok, option_to_list, is_ok, if◌then◌else◌}
use Rattle.atomic_table.specs.declared.shared.Seat.{Seat}
use mathlib.Core.Option.{some}
use lib.ListN.{get_elem?}
use Rattle.pp_rule.specs.Lists.{OnceBy, times, remove_at}
use Rattle.pp_rule.specs.declared.views.PrivateRecord.{PrivateRecord}
use Rattle.pp_rule.specs.declared.views.PassState.{PassState}
use Rattle.pp_rule.specs.declared.views.SeatView.{SeatView}
use Rattle.pp_rule.specs.Rule.{number_of}
use Rattle.pp_rule.specs.Steps.{wrote}
use Rattle.pp_rule.proofs.Counting.{times_here, times_else, times_nil}
use Rattle.pp_rule.proofs.Private.{numbers_set}
use Rattle.pp_base.specs.declared.purse.Purse.{Purse}
use Rattle.pp_base.specs.Passes.{known, members_of, owned_numbers, numbers_of, Keeping}
use Rattle.pp_base.specs.Private.{WroteField}
use Rattle.pp_rule.proofs.Times.{times_append, times_length, times_once, times_removed, one_fewer}
use Rattle.pp_base.proofs.Telling.{made_known}
use Rattle.pp_pool.specs.Taken.{IsPrivate, IsPublished, Took, GaveBack}

-- a number behind a list stands in it once more
pub times_last : (n : ℕ) (xs : List ℕ) → times n (xs ++ n ∷ []) ≡ times n xs + 1
times_last n xs = let sum = times_append n xs (n ∷ []) in let one = times_here n n [] refl in let none = times_nil n in omega arith

-- and any other one as often as before
pub times_other : (m n : ℕ) (xs : List ℕ) → n ≢ m → times m (xs ++ n ∷ []) ≡ times m xs
times_other m n xs other = let sum = times_append m xs (n ∷ []) in let none = times_else m n [] other in let nil = times_nil m in
    omega arith

-- a list with one more number has no number more often than another list that has this one more often
pub times_more : (n : ℕ) (xs ys : List ℕ) → ((m : ℕ) → times m xs ≤ times m ys) → times n xs < times n ys
    → (m : ℕ) → times m (xs ++ n ∷ []) ≤ times m ys
times_more n xs ys less more m = dite (ℕ_discrete n m)
    (λ same. subst (λ (k : ℕ). times k (xs ++ n ∷ []) ≤ times k ys) same (let one = times_last n xs in omega arith))
    (λ other. let as_was = times_other m n xs other in let was = less m in omega arith)

-- a list without its last number has no number more often
pub times_fewer : (m n : ℕ) (xs : List ℕ) → times m xs ≤ times m (xs ++ n ∷ [])
times_fewer m n xs = let sum = times_append m xs (n ∷ []) in omega arith

-- a list that was popped had that item last
pub last_was : {A : Type 0} (xs ys : List A) (x : A) (o : Option A) → xs ≡ ys ++ option_to_list o → o ≡ Some x → xs ≡ ys ++ x ∷ []
last_was xs ys x o popped is = popped ∙ ap (λ (o : Option _). ys ++ option_to_list o) is

-- a list on which an item was pushed has it last
pub last_is : {A B E : Type 0} (xs ys : List A) (x : A) (r : Result B E) (y : B) → ys ≡ (if is_ok r then xs ++ x ∷ [] else xs) → r ≡ Ok y
    → ys ≡ xs ++ x ∷ []
last_is xs ys x r y pushed is = pushed ∙ ap (λ (r : Result _ _). if is_ok r then xs ++ x ∷ [] else xs) is

module _ {W : Type 0} (q : PassState W) (n : ℕ) (p p' : Purse) where
  -- the number that was taken is private
  pub private_taken : p.free.items ≡ p'.free.items ++ n ∷ [] → ((m : ℕ) → times m p.free.items ≤ times m (owned_numbers q))
      → IsPrivate q p' n
  private_taken last free = let was = free n in let list : times n p.free.items ≡ times n (p'.free.items ++ n ∷ []) = ap (times n) last in
      let one = times_last n p'.free.items in omega arith

  -- what was private is private still
  pub private_took : (m : ℕ) → Took n p p' → IsPrivate q p m → IsPrivate q p' m
  private_took m took was = let list : times m p.free.items ≡ times m (p'.free.items ++ n ∷ []) = ap (times m) took.free in
      let fewer = times_fewer m n p'.free.items in omega arith

  -- but for the number that was given back
  pub private_gave : (m : ℕ) → n ≢ m → GaveBack n p p' → IsPrivate q p m → IsPrivate q p' m
  private_gave m other gave was = let list : times m p'.free.items ≡ times m (p.free.items ++ n ∷ []) = ap (times m) gave.free in
      let as_was = times_other m n p.free.items other in omega arith

module _ {E A W : Type 0} (sentinels sides : ℕ) (s : Seat Unit (SeatView E A W)) (number share : ℕ) (walk : List ℕ) (p : Purse)
    (k : Keeping sentinels sides s number share walk p) where
  -- a pass owns no more records than there are
  owned_fit : length (known s).owned ≤ (known s).sizes.records
  owned_fit = let fit = k.pass.fit in let count = length-map (known s).owned number_of in
      let all : length (numbers_of (known s)) ≡ length (owned_numbers (known s)) + length ((known s).retired ++ members_of
      (known s).chains) =
      length-append (owned_numbers (known s)) ((known s).retired ++ members_of (known s).chains) in omega arith

  -- where a record is private, the free list is shorter than what is owned
  private_short : (n : ℕ) → IsPrivate (known s) p n → length p.free.items < length (known s).owned
  private_short n private =
      let less = times_length (p.free.items ++ n ∷ []) (owned_numbers (known s))
      (times_more n p.free.items (owned_numbers (known s)) k.free private) in
      let one = length-append p.free.items (n ∷ []) in let count = length-map (known s).owned number_of in omega arith

  -- so the list has room for it
  pub private_room : (n : ℕ) → IsPrivate (known s) p n → length p.free.items < vec_capacity p.free
  private_room n private = let short = private_short n private in let fit = owned_fit in let room = k.room.free in omega arith

  -- and it counts as taken
  pub private_out : (n : ℕ) → IsPrivate (known s) p n → 1 ≤ p.taken
  private_out n private = let short = private_short n private in let counted = k.counted in omega arith

  -- the free list isn't longer than what is owned
  pub free_short : length p.free.items ≤ length (known s).owned
  free_short = let less = times_length p.free.items (owned_numbers (known s)) k.free in
      let count = length-map (known s).owned number_of in omega arith

  -- there is another free list, with at least its room, and another number of records is out
  keeping_free : (f : Vec ℕ _) (t : ℕ) → ((n : ℕ) → times n f.items ≤ times n (owned_numbers (known s)))
      → length (known s).owned ≤ length f.items + t → vec_capacity p.free ≤ vec_capacity f
      → Keeping sentinels sides s number share walk (record p { free = f; taken = t })
  keeping_free f t free counted room = record {
    lone = k.lone;
    pass = k.pass;
    number_is = k.number_is;
    share_is = k.share_is;
    walk_is = k.walk_is;
    frontier = k.frontier;
    free = free;
    retired_are = k.retired_are;
    retired_count = k.retired_count;
    chains = k.chains;
    few = k.few;
    counted = counted;
    chained = k.chained;
    room = record { free = let was = k.room.free in omega arith; retired_are = k.room.retired_are; chains = k.room.chains };
  }

  -- the last free number was taken
  pub keeping_took : (f : Vec ℕ _) (n t : ℕ) → p.free.items ≡ f.items ++ n ∷ []
      → vec_capacity f ≡ vec_capacity p.free → t ≡ min (p.taken + 1) (2 ^ 32 - 1)
      → Keeping sentinels sides s number share walk (record p { free = f; taken = t })
  keeping_took f n t is room count = keeping_free f t
      (λ m. let was = k.free m in let list : times m p.free.items ≡ times m (f.items ++ n ∷ []) = ap (times m) is in
      let fewer = times_fewer m n f.items in omega arith)
      (let counted = k.counted in let fit = owned_fit in let most = k.pass.within.records in
      let list : length p.free.items ≡ length (f.items ++ n ∷ []) = ap (λ (l : List ℕ). length l) is in
      let one = length-append f.items (n ∷ []) in omega arith)
      (omega arith)

  -- a number was given back
  pub keeping_gave : (f : Vec ℕ _) (n : ℕ) → IsPrivate (known s) p n → f.items ≡ p.free.items ++ n ∷ []
      → vec_capacity p.free ≤ vec_capacity f
      → Keeping sentinels sides s number share walk (record p { free = f; taken = p.taken - 1 })
  keeping_gave f n private is room = keeping_free f (p.taken - 1)
      (λ m. subst (λ (l : List ℕ). times m l ≤ times m (owned_numbers (known s))) (sym is)
      (times_more n p.free.items (owned_numbers (known s)) k.free private m))
      (let counted = k.counted in let out = private_out n private in
      let list : length f.items ≡ length (p.free.items ++ n ∷ []) = ap (λ (l : List ℕ). length l) is in
      let one = length-append p.free.items (n ∷ []) in omega arith)
      room

module _ {E A W : Type 0} (s s' : Seat Unit (SeatView E A W)) where
  -- a store to a private record leaves the numbers that are owned
  pub owned_wrote : (n f x place : ℕ) → WroteField n f x place s.me.0 s'.me.0 → owned_numbers (known s') ≡ owned_numbers (known s)
  owned_wrote n f x place w = ap (λ (q : PassState W). owned_numbers q) (made_known s'.me w.made)
      ∙ numbers_set (known s).owned w.index w.was (wrote f x w.was) w.at refl

  -- and what was private is private still
  pub private_wrote : (n f x place m : ℕ) (p p' : Purse) → WroteField n f x place s.me.0 s'.me.0 → p' ≡ p → IsPrivate (known s) p m
      → IsPrivate (known s') p' m
  private_wrote n f x place m p p' w same private = subst (λ (l : List ℕ). times m p'.free.items < times m l)
      (sym (owned_wrote n f x place w))
      (subst (λ (r : Purse). times m r.free.items < times m (owned_numbers (known s))) (sym same) private)

-- A record that was taken is published by a step after which the pass owns all others still.
pub published_after : {W : Type 0} (q q' : PassState W) (p : Purse) (i : ℕ) (d : PrivateRecord) → OnceBy number_of q.owned
    → length q.owned ≤ length p.free.items + p.taken → get_elem? q.owned i ≡ some d → q'.owned ≡ remove_at i q.owned
    → IsPrivate q p d.number → IsPublished q' p d.number
published_after {W} q q' p i d once counted at owned private = record {
  gone = let one = times_once d.number q.owned once in let removed = times_removed d.number q.owned i d at in
      let here = times_here d.number d.number (map number_of (remove_at i q.owned)) refl in
      let is = ap (λ (ds : List PrivateRecord). times d.number (map number_of ds)) owned in
      omega (arith, one, removed, here, is, private);
  untold = let fewer = one_fewer q.owned i d at in let count = ap (λ (ds : List PrivateRecord). length ds) owned in
      omega (arith, fewer, count, counted);
}
