-- The steps of a pass at shelf words: that the rule allows them, with what they tell of the pass, and that what the pass has
-- beside its seat still agrees with it.
use Rattle.std.proofs.Common.{◌≡◌, ◌≢◌, ℕ, zero, suc, ◌+◌, ◌*◌, ◌^◌, ◌<◌, ◌≤◌, eqb, List, [], ◌∷◌, ◌++◌, map, length}
use Rattle.std.proofs.Common.{get_or, take, refl, sym, ap, ◌∙◌, subst, length-append, arith}
use Rattle.std.proofs.lemmas.List.{length-map, map-append, take_more, take_all}
use Rattle.std.proofs.Math.Bool.{false≢true}
use Rattle.std.proofs.Math.Decide.{ℕ_discrete}
use Rattle.std.specs.Prelude.{Vec, vec_capacity}
use prog.Atomic.{either}
use mathlib.Core.Logic.{dite}
use mathlib.Core.Option.{some, some-ne-none, some-injective}
use lib.ListN.{get_elem?}
use Rattle.atomic_table.specs.Table.{Me, Allows}
use Rattle.atomic_table.specs.declared.shared.Seat.{Seat}
use Rattle.pp_link.specs.declared.layout.Sizes.{Sizes}
use Rattle.pp_link.specs.Places.{IsNumber, shelf_place}
use Rattle.pp_rule.specs.Lists.{IsIn, remove_at, times}
use Rattle.pp_rule.specs.declared.views.Chain.{Chain}
use Rattle.pp_rule.specs.declared.views.PrivateRecord.{PrivateRecord}
use Rattle.pp_rule.specs.declared.views.PassState.{PassState}
use Rattle.pp_rule.specs.declared.views.SeatView.{SeatView}
use Rattle.pp_rule.specs.States.{PoolState}
use Rattle.pp_rule.specs.Rule.{number_of}
use Rattle.pp_rule.specs.Ties.{Holds}
use Rattle.pp_rule.specs.Steps.{IsAlone}
use Rattle.pp_rule.specs.Opening.{share_of}
use Rattle.pp_rule.specs.Laws.{KeptAlike}
use Rattle.pp_rule.specs.Shelves.{giving, getting, PutOnShelf, TriedShelf, TookFromShelf, ClearedShelf}
use Rattle.pp_rule.proofs.Put.{in_last}
use Rattle.pp_rule.proofs.Counting.{times_here}
use Rattle.pp_rule.proofs.Shelving.{shelves_owned}
use Rattle.pp_rule.proofs.Unshelving.{unshelves_any}
use Rattle.pp_base.specs.declared.purse.Purse.{Purse}
use Rattle.pp_base.specs.Passes.{known, named_of, in_hand_of, members_of, owned_numbers, numbers_of, IsPassOf, HasRoom, Keeping}
use Rattle.pp_base.specs.Private.{IsOwned}
use Rattle.pp_rule.proofs.Times.{times_length, times_append}
use Rattle.pp_base.specs.Named.{shelves, unshelves, MadeOne}
use Rattle.pp_base.proofs.Owning.{owned_at}
use Rattle.pp_base.proofs.Telling.{telling, made_alone, made_known}

-- a list ends with the entry at its last index
pub last_apart : (xs : List ℕ) (i n : ℕ) → i + 1 ≡ length xs → n ≡ get_or xs i n → xs ≡ take i xs ++ n ∷ []
last_apart xs i n long is = sym (take_all (length xs) xs (omega arith)) ∙ (ap (λ (k : ℕ). take k xs) (sym long)
    ∙ (take_more xs i n (omega arith) ∙ ap (λ (m : ℕ). take i xs ++ m ∷ []) (sym is)))

-- how often a number stands in the numbers of a list and of its entry at an index
times_removed : (m k : ℕ) (ds : List PrivateRecord) (d : PrivateRecord) → get_elem? ds k ≡ some d
    → times m (map number_of ds) ≡ times m (map number_of (remove_at k ds)) + times m (d.number ∷ [])
times_removed m k [] d at = absurd (some-ne-none d (sym at))
times_removed m zero (x ∷ xs) d at = let sum = times_append m (x.number ∷ []) (map number_of xs) in
    let same : times m (x.number ∷ []) ≡ times m (d.number ∷ []) = ap (λ c. times m (number_of c ∷ [])) (some-injective x d at) in
    omega (arith, sum, same)
times_removed m (suc k) (x ∷ xs) d at = let rest = times_removed m k xs d at in
    let all = times_append m (x.number ∷ []) (map number_of xs) in
    let less = times_append m (x.number ∷ []) (map number_of (remove_at k xs)) in
    omega (arith, rest, all, less)

length_removed : (k : ℕ) (ds : List PrivateRecord) (d : PrivateRecord) → get_elem? ds k ≡ some d
    → length ds ≡ length (remove_at k ds) + 1
length_removed k [] d at = absurd (some-ne-none d (sym at))
length_removed zero (x ∷ xs) d at = omega arith
length_removed (suc k) (x ∷ xs) d at = let rest = length_removed k xs d at in omega (arith, rest)

module _ {E A W : Type 0} (sides : ℕ) (opens : Sizes → List ℕ) (addition : Sizes → List ℕ → PoolState E A W
    → Type 0) (z : Sizes) (slots id place j : ℕ) (me : Me Unit (SeatView E A W)) where
  pub shelves_on : KeptAlike sides addition → (n : ℕ) → IsAlone me → IsOwned me.0.known n → j < 8 * z.passes
      → place ≡ shelf_place z j
      → Allows (Holds sides opens addition z) slots id me place (λ w. either (eqb w 0) n w)
      (λ w m'. ((m'.1 ≡ []) × TriedShelf n w place me.0 m'.0) × IsPassOf z m'.0.known)
  shelves_on alike n lone owned low at = let o = owned_at n me.0.known.owned owned in
      subst (λ (n : ℕ). Allows (Holds sides opens addition z) slots id me place (λ w. either (eqb w 0) n w)
      (λ w m'. ((m'.1 ≡ []) × TriedShelf n w place me.0 m'.0) × IsPassOf z m'.0.known)) o.number_is
      (telling sides opens addition z slots id me place (λ w. either (eqb w 0) o.was.number w)
      (λ w m'. (m'.1 ≡ []) × TriedShelf o.was.number w place me.0 m'.0)
      (shelves_owned sides opens addition alike z slots id place o.index j o.was me lone o.at low at)
      (λ w m t. dite (ℕ_discrete w 0) (λ nil. made_alone m t.0 (t.1.empty nil).made)
      (λ other. made_alone m t.0 (t.1.taken other))))

  pub unshelves_on : KeptAlike sides addition → IsAlone me → j < 8 * z.passes → place ≡ shelf_place z j
      → Allows (Holds sides opens addition z) slots id me place (λ _. 0)
      (λ w m'. ((m'.1 ≡ []) × ClearedShelf w place me.0 m'.0) × IsPassOf z m'.0.known)
  unshelves_on alike lone low at = telling sides opens addition z slots id me place (λ _. 0)
      (λ w m'. (m'.1 ≡ []) × ClearedShelf w place me.0 m'.0)
      (unshelves_any sides opens addition alike z slots id place j me lone low at)
      (λ w m t. dite (ℕ_discrete w 0) (λ nil. made_alone m t.0 (t.1.none nil)) (λ other. made_alone m t.0 (t.1.some other).made))

module _ {E A W : Type 0} (sentinels sides : ℕ) (s s' : Seat Unit (SeatView E A W)) (z : Sizes) (number share : ℕ) (walk : List ℕ)
    (p : Purse) (k : Keeping sentinels sides s number share walk p) where
  -- the last free number is one that the pass owns
  pub last_owned : (i n : ℕ) → i + 1 ≡ length p.free.items → n ≡ get_or p.free.items i n → IsOwned (known s) n
  last_owned i n long is = let most = k.free n in
      let list : times n p.free.items ≡ times n (take i p.free.items ++ n ∷ []) =
      ap (times n) (last_apart p.free.items i n long is) in
      let sum = times_append n (take i p.free.items) (n ∷ []) in let one = times_here n n [] refl in
      omega (arith, most, list, sum, one)

  -- the pass owns other records, and has another free list
  keeping_moved : (f : Vec ℕ _) (owned : List PrivateRecord) → IsAlone s'.me → IsPassOf z (known s')
      → known s' ≡ record (known s) { owned = owned } → ((m : ℕ) → times m f.items ≤ times m (map number_of owned))
      → length owned ≤ length f.items + p.taken → vec_capacity p.free ≤ vec_capacity f
      → Keeping sentinels sides s' number share walk (record p { free = f })
  keeping_moved f owned lone pass is free counted room = record {
    lone = lone;
    pass = subst (λ (y : Sizes). IsPassOf y (known s')) (sym pass.sizes) pass;
    number_is = ap (λ q. q.number) is ∙ k.number_is;
    share_is = k.share_is ∙ ap (λ q. share_of sentinels q.sizes number) (sym is);
    walk_is = ap (λ q. map named_of q.walk) is ∙ k.walk_is;
    frontier = ap (λ q. q.frontier) is ∙ k.frontier;
    free = λ m. subst (λ (q : PassState W). times m f.items ≤ times m (map number_of q.owned)) (sym is) (free m);
    retired_are = subst (λ (q : PassState W). take (length q.retired) p.retired.items ≡ q.retired) (sym is) k.retired_are;
    retired_count = subst (λ (q : PassState W). length p.retired.items ≡ length q.retired + p.spent) (sym is) k.retired_count;
    chains = ap (λ q. map in_hand_of q.chains) is ∙ k.chains;
    few = k.few;
    counted = subst (λ (q : PassState W). length q.owned ≤ length f.items + p.taken) (sym is) counted;
    chained = λ c i. k.chained c (subst (λ (l : List Chain). IsIn c l) (ap (λ q. q.chains) is) i);
    room = subst (λ (q : PassState W). HasRoom q.sizes (record p { free = f })) (sym is) (let was = k.room.free in record {
      free = omega (arith, was, room);
      retired_are = k.room.retired_are;
      chains = k.room.chains;
    });
  }

  -- the last free number went to a shelf
  pub keeping_shelved : (f : Vec ℕ _) (i n : ℕ) (d : PrivateRecord) → IsAlone s'.me → IsPassOf z (known s')
      → get_elem? (known s).owned i ≡ some d → d.number ≡ n → known s' ≡ giving i (known s) → p.free.items ≡ f.items ++ n ∷ []
      → vec_capacity f ≡ vec_capacity p.free → Keeping sentinels sides s' number share walk (record p { free = f })
  keeping_shelved f i n d lone pass at number_is is free room =
      let list : length p.free.items ≡ length (f.items ++ n ∷ []) = ap (λ (l : List ℕ). length l) free in
      let one = length-append f.items (n ∷ []) in let fewer = length_removed i (known s).owned d at in let counted = k.counted in
      keeping_moved f (remove_at i (known s).owned) lone pass is
      (λ m. let was = k.free m in let mine : times m p.free.items ≡ times m (f.items ++ n ∷ []) = ap (times m) free in
      let sum = times_append m f.items (n ∷ []) in let less = times_removed m i (known s).owned d at in
      let same : times m (d.number ∷ []) ≡ times m (n ∷ []) = ap (λ (x : ℕ). times m (x ∷ [])) number_is in
      omega (arith, was, mine, sum, less, same))
      (omega (arith, list, one, fewer, counted)) (omega (arith, room))

  -- a number came from a shelf
  pub keeping_unshelved : (f : Vec ℕ _) (n : ℕ) (d : PrivateRecord) → IsAlone s'.me → IsPassOf z (known s') → d.number ≡ n
      → known s' ≡ getting d (known s) → f.items ≡ p.free.items ++ n ∷ [] → vec_capacity p.free ≤ vec_capacity f
      → Keeping sentinels sides s' number share walk (record p { free = f })
  keeping_unshelved f n d lone pass number_is is free room =
      let list : length f.items ≡ length (p.free.items ++ n ∷ []) = ap (λ (l : List ℕ). length l) free in
      let one = length-append p.free.items (n ∷ []) in let more = length-append (known s).owned (d ∷ []) in
      let counted = k.counted in let mine : List ℕ = map number_of (known s).owned in
      keeping_moved f ((known s).owned ++ d ∷ []) lone pass is
      (λ m. let was = k.free m in let now : times m f.items ≡ times m (p.free.items ++ n ∷ []) = ap (times m) free in
      let sum = times_append m p.free.items (n ∷ []) in
      let all : times m (map number_of ((known s).owned ++ d ∷ [])) ≡ times m mine + times m (d.number ∷ []) =
      ap (times m) (map-append number_of (known s).owned (d ∷ [])) ∙ times_append m mine (d.number ∷ []) in
      let same : times m (d.number ∷ []) ≡ times m (n ∷ []) = ap (λ (x : ℕ). times m (x ∷ [])) number_is in
      omega (arith, was, now, sum, all, same))
      (omega (arith, list, one, more, counted)) room

  -- the free list has room for a number that came
  pub room_unshelved : (d : PrivateRecord) → IsPassOf z (known s') → known s' ≡ getting d (known s)
      → length p.free.items < vec_capacity p.free
  room_unshelved d pass is = let less = times_length p.free.items (owned_numbers (known s)) k.free in
      let fit = pass.fit in let room = k.room.free in
      let sizes : z.records ≡ (known s).sizes.records = ap (λ (y : Sizes). y.records) (sym pass.sizes ∙ ap (λ q. q.sizes) is) in
      let rest : List ℕ = (known s').retired ++ members_of (known s').chains in
      let all : length (numbers_of (known s')) ≡ length (owned_numbers (known s')) + length rest =
      length-append (owned_numbers (known s')) rest in
      let more : length (owned_numbers (known s')) ≡ length ((known s).owned ++ d ∷ []) =
      length-map (known s').owned number_of ∙ ap (λ q. length q.owned) is in
      let one = length-append (known s).owned (d ∷ []) in let count = length-map (known s).owned number_of in
      omega (arith, less, fit, room, sizes, all, more, one, count)

module _ {E A W : Type 0} (n place : ℕ) (v w : SeatView E A W) where
  -- how the steps that move a number are named
  pub shelved_one : PutOnShelf n place v w → MadeOne (shelves place) v w
  shelved_one put = record {
    known = giving put.index v.known;
    left = n;
    number = refl;
    owned = λ bad. absurd (false≢true (sym bad));
    leaves = λ bad. absurd (false≢true (sym bad));
    made = put.made;
  }

  pub unshelved_one : TookFromShelf n place v w → MadeOne (unshelves place n) v w
  unshelved_one took = record {
    known = getting took.freed v.known;
    left = 0;
    number = refl;
    owned = λ bad. absurd (false≢true (sym bad));
    leaves = λ bad. absurd (false≢true (sym bad));
    made = took.made;
  }

module _ {E A W : Type 0} where
  -- what a swap of 0 found at a shelf word is 0, or the number of a record
  pub found_number : (z : Sizes) (found place : ℕ) (v : SeatView E A W) (m : Me Unit (SeatView E A W))
      → ClearedShelf found place v m.0 → IsPassOf z m.0.known → found ≢ 0 → IsNumber z found
  found_number z found place v m c pass other = let t = c.some other in
      subst (λ (n : ℕ). IsNumber z n) t.number_is (pass.owned t.freed (subst (λ (q : PassState W). IsIn t.freed q.owned)
      (sym (made_known m t.made)) (in_last t.freed v.known.owned)))

  pub found_small : (z : Sizes) (found place : ℕ) (v : SeatView E A W) (m : Me Unit (SeatView E A W))
      → ClearedShelf found place v m.0 → IsPassOf z m.0.known → found < 2 ^ 32
  found_small z found place v m c pass = dite (ℕ_discrete found 0) (λ nil. omega (arith, nil))
      (λ other. let number = found_number z found place v m c pass other in let most = pass.within.records in
      omega (arith, number.1, most))
