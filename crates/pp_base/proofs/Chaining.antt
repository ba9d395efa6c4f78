-- The steps of a pass at its frontier words and at the chains that it detached: that the rule allows them, with what they tell of
-- the pass, and that what the pass has beside its seat still agrees with it.
use Rattle.std.proofs.Common.{◌≡◌, ℕ, zero, suc, ◌+◌, ◌<◌, ◌≤◌, Bool, true, false, cond, ◌&&◌, List, [], ◌∷◌, ◌++◌, map, length, get_or}
use Rattle.std.proofs.Common.{set, take, drop, bit_or, eqb, refl, sym, ap, ◌∙◌, subst, ⊎_elim, arith}
use Rattle.std.proofs.lemmas.List.{take-append-drop, map-append, length-append, length-map}
use Rattle.std.proofs.Math.Decide.{ℕ_discrete}
use prog.Atomic.{either}
use mathlib.Core.Logic.{dite}
use Rattle.std.proofs.Math.Seq.{take-length}
use mathlib.Core.Option.{some}
use lib.ListN.{get_elem?}
use Rattle.std.specs.Prelude.{Vec, vec_capacity}
use Rattle.atomic_table.specs.Table.{Me, Allows}
use Rattle.atomic_table.specs.declared.shared.Seat.{Seat}
use Rattle.pp_link.specs.declared.layout.Sizes.{Sizes}
use Rattle.pp_link.specs.declared.link.Link.{Link}
use Rattle.pp_link.specs.Links.{word_of, target}
use Rattle.pp_link.proofs.Packing.{bit_small}
use Rattle.pp_link.specs.Places.{IsNumber, total, frontier_place, cell_place}
use Rattle.pp_rule.specs.Lists.{IsIn, times, first_of, rest_of}
use Rattle.pp_rule.specs.Paths.{IsChained, IsChainTo}
use Rattle.pp_rule.specs.Views.{guarding}
use Rattle.pp_rule.proofs.Put.{in_nil, in_first, in_later, in_cases, in_either, in_one}
use Rattle.pp_rule.specs.declared.views.WalkSlot.{WalkSlot}
use Rattle.pp_rule.specs.declared.views.Chain.{Chain}
use Rattle.pp_rule.specs.declared.views.PassState.{PassState}
use Rattle.pp_rule.specs.declared.views.SeatView.{SeatView}
use Rattle.pp_rule.specs.Orders.{guard_step, unguard_step, retire_step}
use Rattle.pp_rule.specs.States.{PoolState}
use Rattle.pp_rule.specs.Rule.{number_of}
use Rattle.pp_rule.specs.Ties.{Holds}
use Rattle.pp_rule.specs.Steps.{IsAlone, MadeQuietStep, with_frontier, IsUnused, Invalidated, invalidated, without_link}
use Rattle.pp_rule.specs.Steps.{with_chain, retiring, detaching}
use Rattle.pp_rule.specs.Laws.{KeptAlike, Freezes, KeptInvalid, Chained, MayDetach, KeptDetached}
use Rattle.pp_rule.specs.Detach.{Exchanged}
use Rattle.pp_rule.proofs.Detaching.{detaches_chain}
use Rattle.pp_rule.specs.Opening.{share_of}
use Rattle.pp_rule.proofs.Frontiers.{guards_frontier, unguards_frontier}
use Rattle.pp_rule.proofs.Invalidating.{invalidates_link}
use Rattle.pp_rule.proofs.Retiring.{retires}
use Rattle.pp_base.specs.declared.purse.InHand.{InHand}
use Rattle.pp_base.specs.declared.purse.Purse.{Purse}
use Rattle.pp_base.specs.Passes.{known, named_of, in_hand_of, IsPassOf, IsSame, HasRoom, Keeping}
use Rattle.pp_base.specs.declared.source.Side.{Side}
use Rattle.pp_base.specs.declared.source.Side.TheVariants.{Left, Right}
use Rattle.pp_base.specs.Sources.{side_number, source_place, IsReadable, learning_at}
use Rattle.pp_base.specs.declared.source.Place.{Place}
use Rattle.pp_base.specs.declared.source.Place.TheVariants.{Head, Walk}
use Rattle.pp_base.specs.Chains.{with_guard, no_chain, chain_at, spent_numbers, LetGo, TookInHand, MayTake}
use Rattle.pp_base.proofs.Telling.{telling, made_alone, made_known}
use Rattle.pp_base.proofs.Moves.{source_of}
use Rattle.pp_base.proofs.Steady.{keeping_loaded, same_loaded, same_known}

-- the entry at an index that the list has
pub elem_at : {X : Type 0} (xs : List X) (k : ℕ) (d : X) → k < length xs → get_elem? xs k ≡ some (get_or xs k d)
elem_at [] k d lt = absurd (omega arith)
elem_at (x ∷ xs) zero d lt = refl
elem_at (x ∷ xs) (suc k) d lt = elem_at xs k d (omega arith)

-- what is kept of all chains but the oldest
kept_rest : (cs : List Chain) → map in_hand_of (rest_of cs) ≡ rest_of (map in_hand_of cs)
kept_rest [] = refl
kept_rest (c ∷ cs) = refl

rest_few : (hs : List InHand) → length hs ≤ 4 → length (rest_of hs) ≤ 4
rest_few [] few = few
rest_few (h ∷ hs) few = omega arith

-- where one chain has other links that have no INVALID, as much is kept of the chains
kept_set : (cs : List Chain) (k : ℕ) (c : Chain) → in_hand_of c ≡ in_hand_of (get_or cs k no_chain)
    → map in_hand_of (set cs k c) ≡ map in_hand_of cs
kept_set [] k c same = refl
kept_set (d ∷ cs) zero c same = ap (λ (h : InHand). h ∷ map in_hand_of cs) same
kept_set (d ∷ cs) (suc k) c same = ap (λ (hs : List InHand). in_hand_of d ∷ hs) (kept_set cs k c same)

-- the word of a link leads to the link's number
pub word_target : (l : Link) → target (word_of l) ≡ l.number
word_target l = let leaf = bit_small l.leaf in let invalid = bit_small l.invalid in let tag = bit_small l.tag in
    let flag = bit_small l.flag in omega (arith, leaf, invalid, tag, flag)

-- what is kept of a chain in hand
pub in_hand_is : (sides guard first frontier : ℕ) (c : Chain) → IsChainTo sides guard first frontier c
    → in_hand_of c ≡ record { first = first; guard = guard; frontier = frontier }
in_hand_is sides guard first frontier c k = let begin : first_of 0 c.records ≡ first = ap (λ (l : List ℕ). first_of 0 l)
    k.chained.records_are in
    λ i. record { first = begin i; guard = k.guard_is i; frontier = k.frontier_is i }

pub chained_first : (sides guard first frontier : ℕ) (c : Chain) → IsChainTo sides guard first frontier c
    → IsChained sides (first_of 0 c.records) c
chained_first sides guard first frontier c k = subst (λ (n : ℕ). IsChained sides n c)
    (sym (ap (λ (l : List ℕ). first_of 0 l) k.chained.records_are)) k.chained

-- how many chains are kept
pub chains_count : (cs : List Chain) (hs : List InHand) → map in_hand_of cs ≡ hs → length hs ≡ length cs
chains_count cs hs same = ap (λ (l : List InHand). length l) (sym same) ∙ length-map cs in_hand_of

in_rest : (cs : List Chain) (d : Chain) → IsIn d (rest_of cs) → IsIn d cs
in_rest [] d i = i
in_rest (c ∷ cs) d i = in_later d c cs i

-- a link that is no longer valid is none of the valid ones
pub without_link_in : (n side : ℕ) (ls : List (ℕ × ℕ)) (l : ℕ × ℕ) → IsIn l (without_link n side ls) → IsIn l ls
without_link_in n side [] l i = i
without_link_in n side (k ∷ ls) l i = by (without_link_in n side ls l) (eqb k.0 n && eqb k.1 side) i
  where
    by : (IsIn l (without_link n side ls) → IsIn l ls) → (b : Bool)
        → IsIn l (cond b (without_link n side ls) (k ∷ without_link n side ls)) → IsIn l (k ∷ ls)
    by rest true i = in_later l k ls (rest i)
    by rest false i = ⊎_elim (λ (here : l ≡ k). subst (λ (x : ℕ × ℕ). IsIn x (k ∷ ls)) (sym here) (in_first k ls))
        (λ (later : IsIn l (without_link n side ls)). in_later l k ls (rest later))
        (in_cases l k (without_link n side ls) i)

-- a chain of which a link got INVALID stands in its order as before
pub chained_invalidated : (sides first n side : ℕ) (c : Chain) → IsChained sides first c → IsChained sides first (invalidated n side c)
chained_invalidated sides first n side c k = record {
  links_are = k.links_are;
  records_are = k.records_are;
  reached = k.reached;
  valid = λ l other i. k.valid l other (without_link_in n side c.valid l i);
}

chained_set : {sides : ℕ} (cs : List Chain) (k n side : ℕ) → ((c : Chain) → IsIn c cs → IsChained sides (first_of 0 c.records) c)
    → (d : Chain) → IsIn d (set cs k (invalidated n side (get_or cs k no_chain))) → IsChained sides (first_of 0 d.records) d
chained_set [] k n side each d i = absurd (in_nil d i)
chained_set {sides} (c ∷ cs) zero n side each d i = ⊎_elim
    (λ (here : d ≡ invalidated n side c). subst (λ (x : Chain). IsChained sides (first_of 0 x.records) x) (sym here)
    (chained_invalidated sides (first_of 0 c.records) n side c (each c (in_first c cs))))
    (λ (later : IsIn d cs). each d (in_later d c cs later)) (in_cases d (invalidated n side c) cs i)
chained_set {sides} (c ∷ cs) (suc k) n side each d i = ⊎_elim
    (λ (here : d ≡ c). each d (subst (λ (x : Chain). IsIn x (c ∷ cs)) (sym here) (in_first c cs)))
    (λ (later : IsIn d (set cs k (invalidated n side (get_or cs k no_chain)))).
    chained_set cs k n side (λ e j. each e (in_later e c cs j)) d later)
    (in_cases d c (set cs k (invalidated n side (get_or cs k no_chain))) i)

-- what is kept of the oldest chain has the number of its frontier word
pub oldest_guard : (cs : List Chain) (hs : List InHand) (h : InHand) → map in_hand_of cs ≡ hs → 0 < length cs → h ≡ get_or hs 0 h
    → h.guard ≡ (get_or cs 0 no_chain).guard
oldest_guard cs hs h same lt is = ap (λ x. x.guard) (is ∙ ap (λ (l : List InHand). get_or l 0 h) (sym same)) ∙ go cs lt
  where
    go : (cs : List Chain) → 0 < length cs → (get_or (map in_hand_of cs) 0 h).guard ≡ (get_or cs 0 no_chain).guard
    go [] lt = absurd (omega arith)
    go (c ∷ cs) lt = refl

pub side_low : (s : Side) → 2 + side_number s < 5
side_low Left = omega arith
side_low Right = omega arith

-- the purse without the oldest chain
pub lets_go : (p : Purse) (kept : Vec InHand _) (j guard : ℕ) → j ≡ guard → kept.items ≡ take 0 p.chains.items ++ drop 1 p.chains.items
    → vec_capacity kept ≡ vec_capacity p.chains
    → LetGo guard p (record p { spent = 0; chains = kept; frontier = set p.frontier j 0 })
lets_go p kept j guard same items room = record {
  free = refl;
  retired_are = refl;
  spent = refl;
  chains = items ∙ drop_rest p.chains.items;
  room = room;
  frontier = ap (λ (i : ℕ). set p.frontier i 0) same;
  taken = refl;
  going = refl;
}
  where
    drop_rest : (hs : List InHand) → drop 1 hs ≡ rest_of hs
    drop_rest [] = refl
    drop_rest (h ∷ hs) = refl

pub frontier_low : (z : Sizes) (p j place : ℕ) → p < z.passes → j < 4 → place ≡ frontier_place z p j → place < total z
frontier_low z p j place pass four is = omega arith

exchanged_alone : {E A W : Type 0} (c : Chain) (first new n place : ℕ) (q : PassState W) (v : SeatView E A W)
    (m : Me Unit (SeatView E A W))
    → m.1 ≡ [] → Exchanged c first new n place q v m.0 → IsAlone m
exchanged_alone c first new n place q v m none x = dite (ℕ_discrete n first) (λ e. made_alone m none (x.same e))
    (λ ne. made_alone m none (x.other ne))

module _ {E A W : Type 0} (sides : ℕ) (opens : Sizes → List ℕ) (addition : Sizes → List ℕ → PoolState E A W
    → Type 0) (z : Sizes) (slots id place : ℕ) (me : Me Unit (SeatView E A W)) where
  pub guards_on : KeptAlike sides addition → (j n : ℕ) → IsAlone me → j < 4 → IsUnused j me.0.known
      → place ≡ frontier_place z me.0.known.number j
      → Allows (Holds sides opens addition z) slots id me place (λ _. n)
      (λ _ m'. ((m'.1 ≡ []) × MadeQuietStep guard_step place n n (with_frontier j n me.0.known) me.0 m'.0) × IsPassOf z m'.0.known)
  guards_on alike j n lone lt unused at = telling sides opens addition z slots id me place (λ _. n)
      (λ _ m'. (m'.1 ≡ []) × MadeQuietStep guard_step place n n (with_frontier j n me.0.known) me.0 m'.0)
      (guards_frontier sides opens addition alike z slots id place j n me lone lt unused at) (λ _ m t. made_alone m t.0 t.1)

  pub unguards_on : KeptAlike sides addition → (j : ℕ) → IsAlone me → j < 4 → IsUnused j me.0.known
      → place ≡ frontier_place z me.0.known.number j
      → Allows (Holds sides opens addition z) slots id me place (λ _. 0)
      (λ _ m'. ((m'.1 ≡ []) × MadeQuietStep unguard_step place 0 0 (with_frontier j 0 me.0.known) me.0 m'.0) × IsPassOf z m'.0.known)
  unguards_on alike j lone lt unused at = telling sides opens addition z slots id me place (λ _. 0)
      (λ _ m'. (m'.1 ≡ []) × MadeQuietStep unguard_step place 0 0 (with_frontier j 0 me.0.known) me.0 m'.0)
      (unguards_frontier sides opens addition alike z slots id place j me lone lt unused at) (λ _ m t. made_alone m t.0 t.1)

  pub detaches_on : KeptAlike sides addition → (frozen : ℕ → Bool) → Freezes frozen
      → (chain : List WalkSlot → W → ℕ → ℕ → ℕ → Chain)
      → (may_detach : Sizes → List WalkSlot → W → ℕ → ℕ → ℕ → Type 0) → Chained sides addition chain may_detach
      → MayDetach sides addition chain may_detach → KeptDetached sides addition chain may_detach
      → (guard first new : ℕ) (at : Place)
      (side : Side) → IsAlone me
      → IsReadable sides z me.0.known at side → place ≡ source_place z me.0.known at side
      → may_detach z me.0.known.walk me.0.known.own (source_place z me.0.known at side) first new
      → guard < 4 → guarding me.0.known guard ≡ target new → IsUnused guard me.0.known
      → Allows (Holds sides opens addition z) slots id me place (λ n. either (eqb n first) new n)
      (λ n m'. ((m'.1 ≡ []) × Exchanged (chain me.0.known.walk me.0.known.own guard first new) first new n place
      (learning_at frozen at side n me.0.known) me.0 m'.0
      × (n ≡ first → IsChainTo sides guard (target first) (target new) (chain me.0.known.walk me.0.known.own guard first new)))
      × IsPassOf z m'.0.known)
  unfolding source_of
  detaches_on alike frozen freezes chain may_detach orders shows kept guard first new
      (Head h) side lone real is may four names unused =
      telling sides opens addition z slots id me place (λ n. either (eqb n first) new n)
      (λ n m'. (m'.1 ≡ []) × Exchanged (chain me.0.known.walk me.0.known.own guard first new) first new n place
      me.0.known me.0 m'.0
      × (n ≡ first → IsChainTo sides guard (target first) (target new) (chain me.0.known.walk me.0.known.own guard first new)))
      (detaches_chain sides opens addition alike frozen freezes chain may_detach orders shows kept z slots id
      place guard first new me lone
      (source_of sides opens addition z slots id place me (Head h) side real is)
      (subst (λ (k : ℕ). may_detach z me.0.known.walk me.0.known.own k first new) (sym is) may) four names unused)
      (λ n m t. exchanged_alone (chain me.0.known.walk me.0.known.own guard first new) first new n place
      me.0.known me.0 m t.0 t.1)
  detaches_on alike frozen freezes chain may_detach orders shows kept guard first new
      (Walk i) side lone real is may four names unused =
      telling sides opens addition z slots id me place (λ n. either (eqb n first) new n)
      (λ n m'. (m'.1 ≡ []) × Exchanged (chain me.0.known.walk me.0.known.own guard first new) first new n place
      (learning_at frozen (Walk i) side n me.0.known) me.0 m'.0
      × (n ≡ first → IsChainTo sides guard (target first) (target new) (chain me.0.known.walk me.0.known.own guard first new)))
      (detaches_chain sides opens addition alike frozen freezes chain may_detach orders shows kept z slots id
      place guard first new me lone
      (source_of sides opens addition z slots id place me (Walk i) side real is)
      (subst (λ (k : ℕ). may_detach z me.0.known.walk me.0.known.own k first new) (sym is) may) four names unused)
      (λ n m t. exchanged_alone (chain me.0.known.walk me.0.known.own guard first new) first new n place
      (learning_at frozen (Walk i) side n me.0.known) me.0 m t.0 t.1)

  pub invalidates_on : KeptInvalid sides addition → (k n side : ℕ) → IsAlone me → k < length me.0.known.chains
      → IsIn n (chain_at me.0.known k).records → side < sides → place ≡ cell_place z n (2 + side)
      → Allows (Holds sides opens addition z) slots id me place (λ w. bit_or w 4)
      (λ w m'. ((m'.1 ≡ []) × Invalidated k (chain_at me.0.known k) n side w place me.0 m'.0) × IsPassOf z m'.0.known)
  invalidates_on law k n side lone lt member below at = telling sides opens addition z slots id me place (λ w. bit_or w 4)
      (λ w m'. (m'.1 ≡ []) × Invalidated k (chain_at me.0.known k) n side w place me.0 m'.0)
      (invalidates_link sides opens addition law z slots id place k n side (chain_at me.0.known k) me lone
      (elem_at me.0.known.chains k no_chain lt) member below at) (λ _ m t. made_alone m t.0 t.1.made)

  pub retires_on : KeptAlike sides addition → IsAlone me → 0 < length me.0.known.chains → (chain_at me.0.known 0).valid ≡ []
      → place ≡ frontier_place z me.0.known.number (chain_at me.0.known 0).guard
      → Allows (Holds sides opens addition z) slots id me place (λ _. 0)
      (λ _ m'. ((m'.1 ≡ []) × MadeQuietStep retire_step place 0 0 (retiring (chain_at me.0.known 0) me.0.known) me.0 m'.0)
      × IsPassOf z m'.0.known)
  retires_on alike lone lt invalid at = telling sides opens addition z slots id me place (λ _. 0)
      (λ _ m'. (m'.1 ≡ []) × MadeQuietStep retire_step place 0 0 (retiring (chain_at me.0.known 0) me.0.known) me.0 m'.0)
      (retires sides opens addition alike z slots id place (chain_at me.0.known 0) me lone
      (elem_at me.0.known.chains 0 no_chain lt) invalid at) (λ _ m t. made_alone m t.0 t.1)

-- the purse's lists of retired records and of chains have room, as they had
pub record KeepsRoom (p p' : Purse) : Type 0 where
  pub retired_are : vec_capacity p.retired ≤ vec_capacity p'.retired
  pub chains : vec_capacity p.chains ≤ vec_capacity p'.chains

room_kept : (z y : Sizes) (p p' : Purse) → y ≡ z → p'.free ≡ p.free → KeepsRoom p p' → HasRoom z p → HasRoom y p'
room_kept z y p p' same free keeps_room room = let records : y.records ≡ z.records = ap (λ (x : Sizes). x.records) same in
    let a = room.free in let b = room.retired_are in let c = room.chains in let d = keeps_room.retired_are in let e = keeps_room.chains in
    let f = ap (λ v. vec_capacity v) free in record {
      free = omega (arith, a, f, records);
      retired_are = omega (arith, b, d, records);
      chains = omega (arith, c, e);
    }

module _ {W : Type 0} where
  -- the pass is the same one, with what it owns and with its walk words
  pub record SameHoldings (q q' : PassState W) : Type 0 where
    pub number : q'.number ≡ q.number
    pub sizes : q'.sizes ≡ q.sizes
    pub owned : q'.owned ≡ q.owned
    pub walk : q'.walk ≡ q.walk

  -- the members of a chain in hand are records of the pool
  pub member_number : (q : PassState W) (z : Sizes) (k n : ℕ) → IsPassOf q.sizes q → q.sizes ≡ z → k < length q.chains
      → IsIn n (chain_at q k).records → IsNumber z n
  member_number q z k n pass sizes lt member = subst (λ (y : Sizes). IsNumber y n) sizes
      (pass.members (chain_at q k) n (k, elem_at q.chains k no_chain lt) member)

  pub guard_low : (q : PassState W) (k : ℕ) → IsPassOf q.sizes q → k < length q.chains → (chain_at q k).guard < 4
  guard_low q k pass lt = pass.guard (chain_at q k) (k, elem_at q.chains k no_chain lt)

  -- the lists of retired records, of frontier words and of chains agree with the purse
  pub record IsListed (sides : ℕ) (q : PassState W) (p : Purse) : Type 0 where
    pub frontier : q.frontier ≡ p.frontier
    pub retired_are : take (length q.retired) p.retired.items ≡ q.retired
    pub retired_count : length p.retired.items ≡ length q.retired + p.spent
    pub chains : map in_hand_of q.chains ≡ p.chains.items
    pub few : length p.chains.items ≤ 4
    pub chained : (c : Chain) → IsIn c q.chains → IsChained sides (first_of 0 c.records) c

module _ {E A W : Type 0} where
  -- where these lists agree with the new purse, so does all else
  pub keeping_listed : (sentinels sides : ℕ) (s s' : Seat Unit (SeatView E A W)) (z : Sizes) (number share : ℕ) (walk : List ℕ)
      (p p' : Purse)
      → Keeping sentinels sides s number share walk p → IsAlone s'.me → IsPassOf z (known s') → SameHoldings (known s) (known s')
      → p'.free ≡ p.free → p'.taken ≡ p.taken → KeepsRoom p p' → IsListed sides (known s') p'
      → Keeping sentinels sides s' number share walk p'
  keeping_listed sentinels sides s s' z number share walk p p' k lone pass same free taken keeps_room listed = record {
    lone = lone;
    pass = subst (λ (y : Sizes). IsPassOf y (known s')) (sym pass.sizes) pass;
    number_is = same.number ∙ k.number_is;
    share_is = k.share_is ∙ ap (λ (y : Sizes). share_of sentinels y number) (sym same.sizes);
    walk_is = ap (λ ws. map named_of ws) same.walk ∙ k.walk_is;
    frontier = listed.frontier;
    free = λ n. subst (λ (l : List ℕ). times n l ≤ times n (map number_of (known s').owned)) (ap (λ f. f.items) (sym free))
        (subst (λ l. times n p.free.items ≤ times n (map number_of l)) (sym same.owned) (k.free n));
    retired_are = listed.retired_are;
    retired_count = listed.retired_count;
    chains = listed.chains;
    few = listed.few;
    counted = let was = k.counted in let count = ap (λ l. length l) same.owned in let list = ap (λ f. length f.items) free in
        omega (arith, was, count, list, taken);
    chained = listed.chained;
    room = room_kept (known s).sizes (known s').sizes p p' same.sizes free keeps_room k.room;
  }

  pub keeping_guarded : (sentinels sides : ℕ) (s s' : Seat Unit (SeatView E A W)) (z : Sizes) (number share : ℕ) (walk : List ℕ) (p : Purse)
      (j n : ℕ)
      → Keeping sentinels sides s number share walk p → IsAlone s'.me → IsPassOf z (known s') → known s' ≡ with_frontier j n (known s)
      → Keeping sentinels sides s' number share walk (with_guard j n p)
  keeping_guarded sentinels sides s s' z number share walk p j n k lone pass is = keeping_listed sentinels sides s s' z number share walk p
      (with_guard j n p)
      k lone pass
      record { number = ap (λ q. q.number) is; sizes = ap (λ q. q.sizes) is; owned = ap (λ q. q.owned) is; walk = ap (λ q. q.walk) is } refl
      refl
      record { retired_are = omega arith; chains = omega arith }
      record {
        frontier = ap (λ q. q.frontier) is ∙ ap (λ (l : List ℕ). set l j n) k.frontier;
        retired_are = subst (λ (l : List ℕ). take (length l) p.retired.items ≡ l) (ap (λ q. q.retired) (sym is)) k.retired_are;
        retired_count = subst (λ (l : List ℕ). length p.retired.items ≡ length l + p.spent) (ap (λ q. q.retired) (sym is)) k.retired_count;
        chains = ap (λ q. map in_hand_of q.chains) is ∙ k.chains;
        few = k.few;
        chained = λ c i. k.chained c (subst (λ (l : List Chain). IsIn c l) (ap (λ q. q.chains) is) i);
      }

  pub keeping_invalidated : (sentinels sides : ℕ) (s s' : Seat Unit (SeatView E A W)) (z : Sizes) (number share : ℕ) (walk : List ℕ)
      (p : Purse)
      (k n side : ℕ)
      → Keeping sentinels sides s number share walk p → IsAlone s'.me → IsPassOf z (known s')
      → known s' ≡ with_chain k (invalidated n side (chain_at (known s) k)) (known s) → Keeping sentinels sides s' number share walk p
  keeping_invalidated sentinels sides s s' z number share walk p k n side kept lone pass is = keeping_listed sentinels sides s s' z number
      share walk p p
      kept lone pass
      record { number = ap (λ q. q.number) is; sizes = ap (λ q. q.sizes) is; owned = ap (λ q. q.owned) is; walk = ap (λ q. q.walk) is } refl
      refl
      record { retired_are = omega arith; chains = omega arith }
      record {
        frontier = ap (λ q. q.frontier) is ∙ kept.frontier;
        retired_are = subst (λ (l : List ℕ). take (length l) p.retired.items ≡ l) (ap (λ q. q.retired) (sym is)) kept.retired_are;
        retired_count = subst (λ (l : List ℕ). length p.retired.items ≡ length l + p.spent) (ap (λ q. q.retired) (sym is))
            kept.retired_count;
        chains = ap (λ q. map in_hand_of q.chains) is
            ∙ (kept_set (known s).chains k (invalidated n side (chain_at (known s) k)) refl ∙ kept.chains);
        few = kept.few;
        chained = λ d i. chained_set (known s).chains k n side kept.chained d (subst (λ (l : List Chain). IsIn d l) (ap (λ q. q.chains) is)
            i);
      }

  -- The oldest chain is retired: its numbers stood behind the retired ones.
  pub keeping_retired : (sentinels sides : ℕ) (s s' : Seat Unit (SeatView E A W)) (z : Sizes) (number share : ℕ) (walk : List ℕ)
      (p p' : Purse)
      → Keeping sentinels sides s number share walk p → IsAlone s'.me → IsPassOf z (known s')
      → spent_numbers (known s) p ≡ (chain_at (known s) 0).records → LetGo (chain_at (known s) 0).guard p p'
      → known s' ≡ retiring (chain_at (known s) 0) (known s) → Keeping sentinels sides s' number share walk p'
  keeping_retired sentinels sides s s' z number share walk p p' k lone pass spent gone is =
      let c : Chain = chain_at (known s) 0 in
      let all : p'.retired.items ≡ (known s').retired = ap (λ r. r.items) gone.retired_are
      ∙ (sym (take-append-drop (length (known s).retired) p.retired.items)
      ∙ (ap (λ (l : List ℕ). l ++ drop (length (known s).retired) p.retired.items) k.retired_are
      ∙ (ap (λ (l : List ℕ). (known s).retired ++ l) spent ∙ ap (λ q. q.retired) (sym is)))) in
      keeping_listed sentinels sides s s' z number share walk p p' k lone pass
      record { number = ap (λ q. q.number) is; sizes = ap (λ q. q.sizes) is; owned = ap (λ q. q.owned) is; walk = ap (λ q. q.walk) is }
      gone.free gone.taken
      record {
        retired_are = let e = ap (λ v. vec_capacity v) gone.retired_are in omega (arith, e);
        chains = let e = gone.room in
            omega (arith, e);
      }
      record {
        frontier = ap (λ q. q.frontier) is ∙ (ap (λ (l : List ℕ). set l c.guard 0) k.frontier ∙ sym gone.frontier);
        retired_are = subst (λ (l : List ℕ). take (length (known s').retired) l ≡ (known s').retired) (sym all)
            (take-length (known s').retired);
        retired_count = let n : length p'.retired.items ≡ length (known s').retired = ap (λ (l : List ℕ). length l) all in
            let none : p'.spent ≡ 0 = gone.spent in omega arith;
        chains = ap (λ q. map in_hand_of q.chains) is
            ∙ (kept_rest (known s).chains ∙ (ap (λ (l : List InHand). rest_of l) k.chains ∙ sym gone.chains));
        few = subst (λ (l : List InHand). length l ≤ 4) (sym gone.chains) (rest_few p.chains.items k.few);
        chained = λ d i. k.chained d (in_rest (known s).chains d (subst (λ (l : List Chain). IsIn d l) (ap (λ q. q.chains) is) i));
      }

  -- One more chain is in hand, and the shape's part may be another.
  pub keeping_taken : (sentinels sides : ℕ) (s s' : Seat Unit (SeatView E A W)) (z : Sizes) (number share : ℕ) (walk : List ℕ)
      (p p' : Purse)
      (c : Chain) (h : InHand) (own : W)
      → Keeping sentinels sides s number share walk p → IsAlone s'.me → IsPassOf z (known s') → in_hand_of c ≡ h
      → IsChained sides (first_of 0 c.records) c → length (known s).chains < 4
      → TookInHand h p p' → known s' ≡ record (detaching c (known s)) { own = own }
      → Keeping sentinels sides s' number share walk p'
  keeping_taken sentinels sides s s' z number share walk p p' c h own k lone pass kept chained few took is =
      keeping_listed sentinels sides s s' z number share walk p p' k lone pass
      record { number = ap (λ q. q.number) is; sizes = ap (λ q. q.sizes) is; owned = ap (λ q. q.owned) is; walk = ap (λ q. q.walk) is }
      took.free took.taken
      record { retired_are = let e = ap (λ v. vec_capacity v) took.retired_are in omega (arith, e); chains = took.room }
      record {
        frontier = ap (λ q. q.frontier) is ∙ (k.frontier ∙ sym took.frontier);
        retired_are = subst (λ (l : List ℕ). take (length l) p'.retired.items ≡ l) (ap (λ q. q.retired) (sym is))
            (subst (λ (l : List ℕ). take (length (known s).retired) l ≡ (known s).retired) (ap (λ r. r.items) (sym took.retired_are))
            k.retired_are);
        retired_count = ap (λ r. length r.items) took.retired_are ∙ (k.retired_count ∙ (ap (λ (n : ℕ). length (known s).retired + n)
            (sym took.spent) ∙ ap (λ q. length q.retired + p'.spent) (sym is)));
        chains = ap (λ q. map in_hand_of q.chains) is ∙ (map-append in_hand_of (known s).chains (c ∷ [])
            ∙ (ap (λ (l : List InHand). l ++ in_hand_of c ∷ []) k.chains
            ∙ (ap (λ (x : InHand). p.chains.items ++ x ∷ []) kept ∙ sym took.chains)));
        few = let n : length p.chains.items ≡ length (known s).chains = ap (λ (l : List InHand). length l) (sym k.chains)
            ∙ length-map (known s).chains in_hand_of in
            let m : length p'.chains.items ≡ length p.chains.items + 1 = ap (λ (l : List InHand). length l) took.chains
            ∙ length-append p.chains.items (h ∷ []) in omega arith;
        chained = λ d i. ⊎_elim (k.chained d) (λ (new : IsIn d (c ∷ [])). subst (λ (x : Chain). IsChained sides (first_of 0 x.records) x)
            (in_one d c new) chained)
            (in_either d (known s).chains (c ∷ []) (subst (λ (l : List Chain). IsIn d l) (ap (λ q. q.chains) is) i));
      }

  -- It is where the link was as it is expected.
  pub keeping_exchanged : (sentinels sides : ℕ) (s s' : Seat Unit (SeatView E A W)) (z : Sizes) (number share : ℕ) (walk : List ℕ)
      (p p' : Purse)
      (c : Chain) (h : InHand) (frozen : ℕ → Bool) (at : Place) (side : Side) (first new n place : ℕ)
      → Keeping sentinels sides s number share walk p → s'.me.1 ≡ [] → IsPassOf z (known s') → in_hand_of c ≡ h
      → IsChained sides (first_of 0 c.records) c → length (known s).chains < 4
      → MayTake (n ≡ first) h p p' → Exchanged c first new n place (learning_at frozen at side n (known s)) s.me.0 s'.me.0
      → Keeping sentinels sides s' number share walk p'
  keeping_exchanged sentinels sides s s' z number share walk p p' c h frozen at side first new n place k none pass kept chained few took x =
      dite (ℕ_discrete n first)
      (λ e. keeping_taken sentinels sides s s' z number share walk p p' c h (known s).own k
      (made_alone s'.me none (x.same e)) pass kept chained
      few (took.taken e) (made_known s'.me (x.same e)))
      (λ ne. subst (λ (p : Purse). Keeping sentinels sides s' number share walk p) (sym (took.kept ne))
      (keeping_loaded sentinels sides s s' z number share walk p frozen at side n k (made_alone s'.me none (x.other ne)) pass
      (made_known s'.me (x.other ne))))

  pub same_exchanged : (s s' : Seat Unit (SeatView E A W)) (c : Chain) (frozen : ℕ → Bool) (at : Place)
      (side : Side) (first new n place : ℕ)
      → Exchanged c first new n place (learning_at frozen at side n (known s)) s.me.0 s'.me.0 → s'.table_id ≡ s.table_id
      → IsSame s s'
  same_exchanged s s' c frozen at side first new n place x table = dite (ℕ_discrete n first)
      (λ e. same_known s s' (detaching c (known s)) (made_known s'.me (x.same e)) refl refl table)
      (λ ne. same_loaded s s' frozen at side n (made_known s'.me (x.other ne)) table)
