-- How far the links of the oldest chain are looked through.
use Rattle.std.proofs.Common.{◌≡◌, ⊎_elim, ℕ, zero, suc, ◌+◌, ◌-◌, ◌*◌, ◌/◌, ◌%◌, ◌<◌, ◌≤◌, Bool, true, false, cond, eqb, ◌&&◌}
use Rattle.std.proofs.Common.{List, [], ◌∷◌, ◌++◌, map, length, take, drop, get_or, set, bit_or, refl, sym, ap, ◌∙◌, subst, arith}
use Rattle.std.proofs.Common.{append_assoc, eq-eqb}
use Rattle.std.proofs.lemmas.List.{length-append, length-map, map-append, set-set}
use Rattle.std.proofs.Math.Seq.{take-suc}
use Rattle.std.proofs.Math.ListN.{get_or-append}
use Rattle.std.proofs.lemmas.List.{get_or-append-add}
use Rattle.std.proofs.lemmas.Grind.{get_or_default_zero}
use Rattle.std.proofs.Math.Bool.{false≢true}
use Rattle.std.proofs.Math.Decide.{ℕ_discrete}
use mathlib.Core.Logic.{dite}
use mathlib.Core.Option.{some, some-injective}
use lib.ListN.{get_elem?}
use Rattle.atomic_table.specs.declared.shared.Seat.{Seat}
use Rattle.pp_link.specs.declared.layout.Sizes.{Sizes}
use Rattle.pp_link.specs.Links.{target}
use Rattle.pp_link.specs.Places.{cell_place}
use Rattle.pp_rule.specs.Lists.{IsIn, first_of}
use Rattle.pp_rule.specs.declared.views.Chain.{Chain}
use Rattle.pp_rule.specs.declared.views.ChainLink.{ChainLink}
use Rattle.pp_rule.specs.declared.views.PassState.{PassState}
use Rattle.pp_rule.specs.declared.views.SeatView.{SeatView}
use Rattle.pp_rule.specs.Steps.{without_link, invalidated, with_chain, Invalidated}
use Rattle.pp_rule.specs.Paths.{links_of, link_of, led_to, IsChained}
use Rattle.pp_rule.proofs.Put.{in_nil, in_first, in_cases}
use Rattle.pp_rule.proofs.Made.{known_after}
use Rattle.pp_base.specs.declared.purse.Purse.{Purse}
use Rattle.std.specs.Prelude.{vec_capacity}
use Rattle.pp_base.specs.Passes.{known, view, members_of, owned_numbers, numbers_of, Keeping}
use Rattle.pp_base.specs.Chains.{no_chain, chain_at}
use Rattle.pp_base.specs.Named.{NamedStep, invalidates, MadeOne, Made}
use Rattle.pp_base.proofs.Named.{made_more}
use Rattle.pp_base.proofs.Chaining.{elem_at, without_link_in}
use Rattle.pp_unlink.specs.Invalidation.{led_of, invalidations, leads_on, SameFree, LooksThrough}
use Rattle.pp_unlink.proofs.Ordered.{one_or_two, led_more, led_first, led_none, invalidations_more, links_length, link_at, record_below}

abbrev pub no_link : ChainLink
no_link = record { number = 0; side = 0; word = 0 }

-- the link at an index, by its record and its side
pair_at : (ls : List ChainLink) (k : ℕ) → k < length ls → get_or (map link_of ls) k (0, 0) ≡ link_of (get_or ls k no_link)
pair_at [] k lt = absurd (omega arith)
pair_at (l ∷ ls) zero lt = refl
pair_at (l ∷ ls) (suc k) lt = pair_at ls k (omega arith)

length_take : {X : Type 0} (xs : List X) (k : ℕ) → k ≤ length xs → length (take k xs) ≡ k
length_take xs zero low = refl
length_take [] (suc k) low = absurd (omega arith)
length_take (x ∷ xs) (suc k) low = ap suc (length_take xs k (omega arith))

take_whole : {X : Type 0} (xs : List X) (k : ℕ) → length xs ≤ k → take k xs ≡ xs
take_whole [] zero low = refl
take_whole [] (suc k) low = refl
take_whole (x ∷ xs) zero low = absurd (omega arith)
take_whole (x ∷ xs) (suc k) low = ap (λ l. x ∷ l) (take_whole xs k (omega arith))

drop_append : {X : Type 0} (xs ys : List X) → drop (length xs) (xs ++ ys) ≡ ys
drop_append [] ys = refl
drop_append (x ∷ xs) ys = drop_append xs ys

-- a link that was taken out of a list isn't in it
without_link_gone : (n side : ℕ) (ls : List (ℕ × ℕ)) → IsIn (n, side) (without_link n side ls) → ⊥
without_link_gone n side [] i = in_nil (n, side) i
without_link_gone n side (l ∷ ls) i = by (without_link_gone n side ls) (eqb l.0 n && eqb l.1 side) refl i
  where
    same_not : (l ≡ (n, side)) → (eqb l.0 n && eqb l.1 side) ≡ true
    same_not e = ap (λ (k : ℕ × ℕ). eqb k.0 n && eqb k.1 side) e ∙ (ap (λ (b : Bool). b && eqb side side) (eq-eqb n n refl)
        ∙ eq-eqb side side refl)

    by : (IsIn (n, side) (without_link n side ls) → ⊥) → (b : Bool) → (eqb l.0 n && eqb l.1 side) ≡ b
        → IsIn (n, side) (cond b (without_link n side ls) (l ∷ without_link n side ls)) → ⊥
    by rest true is j = rest j
    by rest false is j = ⊎_elim (λ (here : (n, side) ≡ l). let bad : true ≡ false = sym (same_not (sym here)) ∙ is in absurd cc)
        rest (in_cases (n, side) l (without_link n side ls) j)

-- an entry that stands nowhere
no_left : (ls : List (ℕ × ℕ)) → ((l : ℕ × ℕ) → IsIn l ls → ⊥) → ls ≡ []
no_left [] none = refl
no_left (l ∷ ls) none = absurd (none l (in_first l ls))

at_index : (ls : List (ℕ × ℕ)) (j : ℕ) (l : ℕ × ℕ) → get_elem? ls j ≡ some l → get_or ls j (0, 0) ≡ l
at_index [] j l e = absurd (in_nil l (j, e))
at_index (x ∷ ls) zero l e = some-injective x l e
at_index (x ∷ ls) (suc j) l e = at_index ls j l e

in_range : (ls : List (ℕ × ℕ)) (j : ℕ) (l : ℕ × ℕ) → get_elem? ls j ≡ some l → j < length ls
in_range [] j l e = absurd (in_nil l (j, e))
in_range (x ∷ ls) zero l e = omega arith
in_range (x ∷ ls) (suc j) l e = let rest = in_range ls j l e in omega (arith, rest)

pub chain_set : {W : Type 0} (q : PassState W) (c : Chain) → 0 < length q.chains → chain_at (with_chain 0 c q) 0 ≡ c
chain_set q c lt = by q.chains lt
  where
    by : (cs : List Chain) → 0 < length cs → get_or (set cs 0 c) 0 no_chain ≡ c
    by [] lt = absurd (omega arith)
    by (d ∷ cs) lt = refl

chain_twice : {W : Type 0} (q : PassState W) (c d : Chain) → with_chain 0 d (with_chain 0 c q) ≡ with_chain 0 d q
chain_twice q c d = ap (λ (cs : List Chain). record q { chains = cs }) (set-set q.chains 0 c d)

chain_again : {W : Type 0} (q : PassState W) → 0 < length q.chains → with_chain 0 (chain_at q 0) q ≡ q
chain_again q lt = ap (λ (cs : List Chain). record q { chains = cs }) (by q.chains lt)
  where
    by : (cs : List Chain) → 0 < length cs → set cs 0 (get_or cs 0 no_chain) ≡ cs
    by [] lt = absurd (omega arith)
    by (d ∷ cs) lt = refl

-- the records that are set aside once the first k links of a chain are looked through
abbrev pub aside_of : ℕ → Chain → List ℕ
aside_of k c = first_of 0 c.records ∷ led_to c.frontier (take k c.links)

-- they are its first ones
pub aside_first : (sides k : ℕ) (c : Chain) → IsChained sides (first_of 0 c.records) c
    → c.records ≡ aside_of k c ++ led_to c.frontier (drop k c.links)
aside_first sides k c chained = chained.records_are ∙ ap (λ (ns : List ℕ). first_of 0 c.records ∷ ns) (led_first c.frontier k c.links)

-- the record whose link comes next is among them
pub next_record : (sides k i : ℕ) (c : Chain) → IsChained sides (first_of 0 c.records) c → i < length (aside_of k c)
    → get_or (aside_of k c) i 0 ≡ get_or c.records i 0
next_record sides k i c chained lt = sym (ap (λ (ns : List ℕ). get_or ns i 0) (aside_first sides k c chained)
    ∙ get_or-append (aside_of k c) (led_to c.frontier (drop k c.links)) 0 i lt)

pub aside_few : (sides k : ℕ) (c : Chain) → IsChained sides (first_of 0 c.records) c → length (aside_of k c) ≤ length c.records
aside_few sides k c chained = let all = ap (λ (ns : List ℕ). length ns) (aside_first sides k c chained) in
    let sum = length-append (aside_of k c) (led_to c.frontier (drop k c.links)) in omega (arith, all, sum)

-- a chain has so many links
pub links_count : (sides : ℕ) (c : Chain) → 1 ≤ sides → sides ≤ 2 → IsChained sides (first_of 0 c.records) c
    → length c.links ≡ sides * length c.records
links_count sides c one two chained = sym (length-map c.links link_of) ∙ (ap (λ l. length l) chained.links_are
    ∙ links_length sides c.records one two)

-- as long as a record set aside has a link that wasn't looked at, the chain has one
pub more_links : (sides k : ℕ) (c : Chain) → 1 ≤ sides → sides ≤ 2 → IsChained sides (first_of 0 c.records) c
    → k < sides * length (aside_of k c) → k < length c.links
more_links sides k c one two chained lt = let few = aside_few sides k c chained in let count = links_count sides c one two chained in
    ⊎_elim (λ (e : sides ≡ 1). let a : k < 1 * length (aside_of k c) = subst (λ (s : ℕ). k < s * length (aside_of k c)) e lt in
    let b : length c.links ≡ 1 * length c.records = subst (λ (s : ℕ). length c.links ≡ s * length c.records) e count in
    omega (arith, few, a, b))
    (λ (e : sides ≡ 2). let a : k < 2 * length (aside_of k c) = subst (λ (s : ℕ). k < s * length (aside_of k c)) e lt in
    let b : length c.links ≡ 2 * length c.records = subst (λ (s : ℕ). length c.links ≡ s * length c.records) e count in
    omega (arith, few, a, b))
    (one_or_two sides one two)

module _ {E A W : Type 0} where
  -- The first k links of the oldest chain have INVALID, and the records that they lead to stand behind the retired ones.
  pub record Looks (sides : ℕ) (z : Sizes) (k : ℕ) (s : Seat Unit (SeatView E A W)) (p : Purse) (s' : Seat Unit (SeatView E A W))
      (p' : Purse)
      : Type 0 where
    pub words : List ℕ
    pub count : length words ≡ k
    pub most : k ≤ length (chain_at (known s) 0).links
    pub lead : map target words ≡ map led_of (take k (chain_at (known s) 0).links)
    pub steps : Made (invalidations z (take k (links_of sides (chain_at (known s) 0).records)) words) (view s) (view s')
    pub table_is : s'.table_id ≡ s.table_id
    pub left : List (ℕ × ℕ)
    pub known_is : known s' ≡ with_chain 0 (record (chain_at (known s) 0) { valid = left }) (known s)
    pub gone : (j : ℕ) → j < k → IsIn (get_or (links_of sides (chain_at (known s) 0).records) j (0, 0)) left → ⊥
    pub others : (l : ℕ × ℕ) → (IsIn l (chain_at (known s) 0).valid → ⊥) → IsIn l left → ⊥
    pub aside : p'.retired.items ≡ (known s).retired ++ aside_of k (chain_at (known s) 0)
    pub free : SameFree p p'

  pub looks_none : (sides : ℕ) (z : Sizes) (s : Seat Unit (SeatView E A W)) (p p' : Purse) → 0 < length (known s).chains
      → p'.retired.items ≡ (known s).retired ++ first_of 0 (chain_at (known s) 0).records ∷ [] → SameFree p p' → Looks sides z 0 s p s p'
  unfolding invalidations
  looks_none sides z s p p' any aside free = record {
    words = [];
    count = refl;
    most = omega arith;
    lead = refl;
    steps = refl;
    table_is = refl;
    left = (chain_at (known s) 0).valid;
    known_is = sym (chain_again (known s) any);
    gone = λ j lt i. absurd (omega arith);
    others = λ l other i. other i;
    aside = aside ∙ ap (λ (ns : List ℕ). (known s).retired ++ first_of 0 (chain_at (known s) 0).records ∷ ns)
        (sym (led_none (chain_at (known s) 0).frontier));
    free = free;
  }

  -- one link more
  pub looks_more : (sides : ℕ) (z : Sizes) (k n side found : ℕ) (s : Seat Unit (SeatView E A W)) (p : Purse)
      (s' : Seat Unit (SeatView E A W))
      (p' : Purse) (s'' : Seat Unit (SeatView E A W)) (p'' : Purse) → 0 < length (known s).chains
      → IsChained sides (first_of 0 (chain_at (known s) 0).records) (chain_at (known s) 0) → Looks sides z k s p s' p'
      → k < length (chain_at (known s) 0).links → link_of (get_or (chain_at (known s) 0).links k no_link) ≡ (n, side)
      → Invalidated 0 (chain_at (known s') 0) n side found (cell_place z n (2 + side)) (view s') (view s'') → s''.table_id ≡ s'.table_id
      → p''.retired.items ≡ p'.retired.items ++ leads_on (chain_at (known s) 0).frontier (target found) → SameFree p' p''
      → Looks sides z (suc k) s p s'' p''
  looks_more sides z k n side found s p s' p' s'' p'' any chained looks lt pair inv table aside free =
      let c : Chain = chain_at (known s) 0 in
      let l : ChainLink = get_or c.links k no_link in
      let now : Chain = record c { valid = looks.left } in
      let here : chain_at (known s') 0 ≡ now = ap (λ q. chain_at q 0) looks.known_is ∙ chain_set (known s) now any in
      let in_now : IsIn l now.links = (k, elem_at c.links k no_link lt) in
      let leads : target found ≡ target l.word = inv.leads l (subst (λ (d : Chain). IsIn l d.links) (sym here) in_now)
      (ap (λ (x : ℕ × ℕ). x.0) pair) (ap (λ (x : ℕ × ℕ). x.1) pair) in
      let links : List (ℕ × ℕ) = links_of sides c.records in
      let last : get_or links k (0, 0) ≡ (n, side) = ap (λ (ls : List (ℕ × ℕ)). get_or ls k (0, 0)) (sym chained.links_are)
      ∙ (pair_at c.links k lt ∙ pair) in
      let long : length links ≡ length c.links = ap (λ (ls : List (ℕ × ℕ)). length ls) (sym chained.links_are) ∙ length-map c.links link_of
      in
      let pairs : take (suc k) links ≡ take k links ++ (n, side) ∷ [] = take-suc links k (0, 0) (omega (arith, lt, long))
      ∙ ap (λ (x : ℕ × ℕ). take k links ++ x ∷ []) last in
      let first : take (suc k) c.links ≡ take k c.links ++ l ∷ [] = take-suc c.links k no_link lt in
      let one : MadeOne (invalidates (cell_place z n (2 + side)) found) (view s') (view s'') = record {
        known = with_chain 0 (invalidated n side (chain_at (known s') 0)) (known s');
        left = bit_or found 4;
        number = refl;
        owned = λ _. refl;
        leaves = λ bad. absurd (false≢true (sym bad));
        made = inv.made;
      } in record {
        words = looks.words ++ found ∷ [];
        count = length-append looks.words (found ∷ []) ∙ (let e = looks.count in omega (arith, e));
        most = omega (arith, lt);
        lead = map-append target looks.words (found ∷ []) ∙ (ap (λ (ns : List ℕ). ns ++ target found ∷ []) looks.lead
            ∙ (ap (λ (n : ℕ). map led_of (take k c.links) ++ n ∷ []) leads ∙ sym (ap (map led_of) first
            ∙ map-append led_of (take k c.links) (l ∷ []))));
        steps = subst (λ (steps : List NamedStep). Made steps (view s) (view s''))
            (sym (ap (λ (ls : List (ℕ × ℕ)). invalidations z ls (looks.words ++ found ∷ [])) pairs
            ∙ invalidations_more z (take k links) looks.words (n, side) found
            (length_take links k (omega (arith, lt, long)) ∙ sym looks.count)))
            (made_more (invalidations z (take k links) looks.words) (invalidates (cell_place z n (2 + side)) found) (view s) (view s')
            (view s'') looks.steps one);
        table_is = table ∙ looks.table_is;
        left = without_link n side looks.left;
        known_is = known_after _ _ _ _ _ _ _ (view s') (view s'') inv.made
            ∙ (ap (λ (q : PassState W). with_chain 0 (invalidated n side (chain_at q 0)) q) looks.known_is
            ∙ (ap (λ (d : Chain). with_chain 0 (invalidated n side d) (with_chain 0 now (known s))) (chain_set (known s) now any)
            ∙ chain_twice (known s) now (invalidated n side now)));
        gone = λ j low i. dite (ℕ_discrete j k)
            (λ e. without_link_gone n side looks.left (subst (λ (x : ℕ × ℕ). IsIn x (without_link n side looks.left))
            (ap (λ (m : ℕ). get_or links m (0, 0)) e ∙ last) i))
            (λ ne. looks.gone j (omega arith) (without_link_in n side looks.left (get_or links j (0, 0)) i));
        others = λ x other i. looks.others x other (without_link_in n side looks.left x i);
        aside = aside ∙ (ap (λ (ns : List ℕ). ns ++ leads_on c.frontier (target found)) looks.aside
            ∙ (append_assoc (known s).retired (aside_of k c) (leads_on c.frontier (target found))
            ∙ ap (λ (ns : List ℕ). (known s).retired ++ first_of 0 c.records ∷ ns)
            (ap (λ (m : ℕ). led_to c.frontier (take k c.links) ++ leads_on c.frontier m) leads
            ∙ sym (ap (led_to c.frontier) first ∙ led_more c.frontier (take k c.links) l))));
        free = record {
          free = free.free ∙ looks.free.free;
          taken = free.taken ∙ looks.free.taken;
          going = free.going ∙ looks.free.going;
        };
      }

  -- where no record set aside has a link that wasn't looked at, all are looked through
  pub looks_all : (sides : ℕ) (z : Sizes) (k : ℕ) (s : Seat Unit (SeatView E A W)) (p : Purse) (s' : Seat Unit (SeatView E A W))
      (p' : Purse)
      → IsChained sides (first_of 0 (chain_at (known s) 0).records) (chain_at (known s) 0) → Looks sides z k s p s' p'
      → (k < sides * length (aside_of k (chain_at (known s) 0)) → ⊥) → LooksThrough sides z s p s' p'
  looks_all sides z k s p s' p' chained looks done =
      let c : Chain = chain_at (known s) 0 in
      let links : List (ℕ × ℕ) = links_of sides c.records in
      let end : k ≡ length c.links = dite (ℕ_discrete k (length c.links)) (λ e. e)
      (λ ne. let most = looks.most in let more : 1 + length (led_to c.frontier (take k c.links)) ≡ length (aside_of k c) = omega arith in
      absurd (done (subst (λ (m : ℕ). k < sides * m) more (chained.reached k (omega (arith, most, ne)))))) in
      let long : length links ≡ length c.links = ap (λ (ls : List (ℕ × ℕ)). length ls) (sym chained.links_are) ∙ length-map c.links link_of
      in
      let whole : take k links ≡ links = take_whole links k (omega (arith, end, long)) in
      let all : take k c.links ≡ c.links = take_whole c.links k (omega (arith, end)) in
      let none : looks.left ≡ [] = no_left looks.left (λ l i. looks.others l
      (λ valid. chained.valid l (λ member. looks.gone member.0 (let low = in_range links member.0 l member.1 in
      omega (arith, low, end, long))
      (subst (λ (x : ℕ × ℕ). IsIn x looks.left) (sym (at_index links member.0 l member.1)) i)) valid) i) in record {
        words = looks.words;
        lead = looks.lead ∙ ap (map led_of) all;
        steps = subst (λ (ls : List (ℕ × ℕ)). Made (invalidations z ls looks.words) (view s) (view s')) whole looks.steps;
        table_is = looks.table_is;
        known_is = looks.known_is ∙ ap (λ (ls : List (ℕ × ℕ)). with_chain 0 (record c { valid = ls }) (known s)) none;
        spent = ap (λ (q : PassState W). drop (length q.retired) p'.retired.items) looks.known_is
            ∙ (ap (λ (ns : List ℕ). drop (length (known s).retired) ns) looks.aside
            ∙ (drop_append (known s).retired (aside_of k c)
            ∙ (ap (λ (ls : List ChainLink). first_of 0 c.records ∷ led_to c.frontier ls) all ∙ sym chained.records_are)));
        free = looks.free;
      }

oldest_few : (cs : List Chain) → 0 < length cs → length (get_or cs 0 no_chain).records ≤ length (members_of cs)
unfolding members_of
oldest_few [] any = absurd (omega arith)
oldest_few (c ∷ cs) any = let sum = length-append c.records (members_of cs) in omega (arith, sum)

set_some : (cs : List Chain) (c : Chain) → 0 < length cs → 0 < length (set cs 0 c)
set_some [] c any = absurd (omega arith)
set_some (d ∷ cs) c any = omega arith

-- the records set aside after one link more
pub aside_more : (k : ℕ) (c : Chain) → k < length c.links
    → aside_of (suc k) c ≡ aside_of k c ++ leads_on c.frontier (target (get_or c.links k no_link).word)
aside_more k c lt = ap (λ (ns : List ℕ). first_of 0 c.records ∷ ns) (ap (led_to c.frontier) (take-suc c.links k no_link lt)
    ∙ led_more c.frontier (take k c.links) (get_or c.links k no_link))

module _ {E A W : Type 0} where
  -- The chain, and the link of it that is looked at next: that of a record of the chain.
  pub record Turn (sides k n side : ℕ) (s s' : Seat Unit (SeatView E A W)) : Type 0 where
    pub lt : k < length (chain_at (known s) 0).links
    pub pair : link_of (get_or (chain_at (known s) 0).links k no_link) ≡ (n, side)
    pub member : IsIn n (chain_at (known s') 0).records

  pub turn : (sides : ℕ) (z : Sizes) (k n before : ℕ) (s : Seat Unit (SeatView E A W)) (p : Purse) (s' : Seat Unit (SeatView E A W))
      (p' : Purse)
      → 1 ≤ sides → sides ≤ 2 → 0 < length (known s).chains
      → IsChained sides (first_of 0 (chain_at (known s) 0).records) (chain_at (known s) 0) → Looks sides z k s p s' p'
      → before ≡ length (known s).retired → k < sides * (length p'.retired.items - before)
      → n ≡ get_or p'.retired.items (before + k / sides) n → Turn sides k n (k % sides) s s'
  turn sides z k n before s p s' p' one two any chained looks start lt is =
      let c : Chain = chain_at (known s) 0 in
      let count : length p'.retired.items - before ≡ length (aside_of k c) = let sum = length-append (known s).retired (aside_of k c) in
      let all = ap (λ (ns : List ℕ). length ns) looks.aside in omega (arith, sum, all, start) in
      let low : k < sides * length (aside_of k c) = subst (λ (m : ℕ). k < sides * m) count lt in
      let within : k < length c.links = more_links sides k c one two chained low in
      let below : k / sides < length (aside_of k c) = (record_below sides (length (aside_of k c)) k one two low).0 in
      let in_list : before + k / sides < length p'.retired.items = let all = ap (λ (ns : List ℕ). length ns) looks.aside in
      let sum = length-append (known s).retired (aside_of k c) in omega (arith, below, all, sum, start) in
      let same : n ≡ get_or c.records (k / sides) 0 = is
      ∙ (get_or_default_zero p'.retired.items (before + k / sides) n in_list
      ∙ ap (λ (m : ℕ). get_or p'.retired.items (m + k / sides) 0) start
      ∙ (ap (λ (ns : List ℕ). get_or ns (length (known s).retired + k / sides) 0) looks.aside
      ∙ (get_or-append-add (known s).retired (aside_of k c) (k / sides) 0 ∙ next_record sides k (k / sides) c chained below))) in
      let few = aside_few sides k c chained in
      let in_c : IsIn (get_or c.records (k / sides) 0) c.records = (k / sides, elem_at c.records (k / sides) 0 (omega (arith, below, few)))
      in
      let here : chain_at (known s') 0 ≡ record c { valid = looks.left } = ap (λ q. chain_at q 0) looks.known_is
      ∙ chain_set (known s) (record c { valid = looks.left }) any in
      let count_is : length c.links ≡ sides * length c.records = links_count sides c one two chained in
      record {
        lt = within;
        pair = sym (pair_at c.links k within) ∙ (ap (λ (ls : List (ℕ × ℕ)). get_or ls k (0, 0)) chained.links_are
            ∙ (link_at sides c.records k one two (subst (λ (m : ℕ). k < m) count_is within)
            ∙ ap (λ (m : ℕ). (m, k % sides)) (sym same)));
        member = subst (λ (d : Chain). IsIn n d.records) (sym here) (subst (λ (m : ℕ). IsIn m c.records) (sym same) in_c);
      }

  -- a word that was found leads where the link led
  pub found_leads : (sides : ℕ) (z : Sizes) (k n side found : ℕ) (s : Seat Unit (SeatView E A W)) (p : Purse)
      (s' : Seat Unit (SeatView E A W))
      (p' : Purse) (s'' : Seat Unit (SeatView E A W)) → 0 < length (known s).chains → Looks sides z k s p s' p' → Turn sides k n side s s'
      → Invalidated 0 (chain_at (known s') 0) n side found (cell_place z n (2 + side)) (view s') (view s'')
      → target found ≡ target (get_or (chain_at (known s) 0).links k no_link).word
  found_leads sides z k n side found s p s' p' s'' any looks t inv =
      let c : Chain = chain_at (known s) 0 in
      let here : chain_at (known s') 0 ≡ record c { valid = looks.left } = ap (λ q. chain_at q 0) looks.known_is
      ∙ chain_set (known s) (record c { valid = looks.left }) any in
      inv.leads (get_or c.links k no_link)
      (subst (λ (d : Chain). IsIn (get_or c.links k no_link) d.links) (sym here) (k, elem_at c.links k no_link t.lt))
      (ap (λ (x : ℕ × ℕ). x.0) t.pair) (ap (λ (x : ℕ × ℕ). x.1) t.pair)

  -- the retired numbers and those of the oldest chain have room
  pub hand_fits : (sentinels sides : ℕ) (s : Seat Unit (SeatView E A W)) (number share : ℕ) (walk : List ℕ) (p : Purse)
      → Keeping sentinels sides s number share walk p → 0 < length (known s).chains
      → length (known s).retired + length (chain_at (known s) 0).records ≤ vec_capacity p.retired
  hand_fits sentinels sides s number share walk p k any = let fit = k.pass.fit in let room = k.room.retired_are in
      let all : length (numbers_of (known s)) ≡ length (owned_numbers (known s)) + length ((known s).retired ++ members_of
      (known s).chains) =
      length-append (owned_numbers (known s)) ((known s).retired ++ members_of (known s).chains) in
      let rest : length ((known s).retired ++ members_of (known s).chains) ≡ length (known s).retired + length
      (members_of (known s).chains) =
      length-append (known s).retired (members_of (known s).chains) in
      let oldest = oldest_few (known s).chains any in omega (arith, fit, room, all, rest, oldest)

  -- so has the next one
  pub next_fits : (sentinels sides : ℕ) (z : Sizes) (k n side found x : ℕ) (s : Seat Unit (SeatView E A W)) (p : Purse)
      (s' : Seat Unit (SeatView E A W)) (number share : ℕ) (walk : List ℕ) (p' : Purse) (s'' : Seat Unit (SeatView E A W))
      → Keeping sentinels sides s' number share walk p'
      → 0 < length (known s).chains → IsChained sides (first_of 0 (chain_at (known s) 0).records) (chain_at (known s) 0)
      → Looks sides z k s p s' p' → Turn sides k n side s s'
      → Invalidated 0 (chain_at (known s') 0) n side found (cell_place z n (2 + side)) (view s') (view s'')
      → x ≡ (chain_at (known s) 0).frontier → length p'.retired.items + length (leads_on x (target found)) ≤ vec_capacity p'.retired
  next_fits sentinels sides z k n side found x s p s' number share walk p' s'' kept any chained looks t inv end =
      let c : Chain = chain_at (known s) 0 in
      let here : chain_at (known s') 0 ≡ record c { valid = looks.left } = ap (λ q. chain_at q 0) looks.known_is
      ∙ chain_set (known s) (record c { valid = looks.left }) any in
      let any' : 0 < length (known s').chains = subst (λ (q : PassState W). 0 < length q.chains) (sym looks.known_is)
      (set_some (known s).chains (record c { valid = looks.left }) any) in
      let fits = hand_fits sentinels sides s' number share walk p' kept any' in
      let retired : length (known s').retired ≡ length (known s).retired = ap (λ (q : PassState W). length q.retired) looks.known_is in
      let records : length (chain_at (known s') 0).records ≡ length c.records = ap (λ (d : Chain). length d.records) here in
      let few = aside_few sides (suc k) c chained in
      let more = ap (λ (ns : List ℕ). length ns) (aside_more k c t.lt) in
      let sum = length-append (aside_of k c) (leads_on c.frontier (target (get_or c.links k no_link).word)) in
      let items = ap (λ (ns : List ℕ). length ns) looks.aside in let all = length-append (known s).retired (aside_of k c) in
      let same : length (leads_on x (target found)) ≡ length (leads_on c.frontier (target (get_or c.links k no_link).word)) =
      ap (λ (m : ℕ). length (leads_on m (target found))) end
      ∙ ap (λ (m : ℕ). length (leads_on c.frontier m)) (found_leads sides z k n side found s p s' p' s'' any looks t inv) in
      omega (arith, fits, retired, records, few, more, sum, items, all, same)

  -- the same where the code has the number of sides
  pub turn_at : (sides sides' : ℕ) (z : Sizes) (k n side before : ℕ) (s : Seat Unit (SeatView E A W)) (p : Purse)
      (s' : Seat Unit (SeatView E A W))
      (p' : Purse) → sides' ≡ sides → 1 ≤ sides → sides ≤ 2 → 0 < length (known s).chains
      → IsChained sides (first_of 0 (chain_at (known s) 0).records) (chain_at (known s) 0) → Looks sides z k s p s' p'
      → before ≡ length (known s).retired → (count : ℕ) → count ≡ length p'.retired.items → k < sides' * (count - before)
      → n ≡ get_or p'.retired.items (before + k / sides') n → side ≡ k % sides' → Turn sides k n side s s'
  turn_at sides sides' z k n side before s p s' p' e one two any chained looks start count all lt is side_is =
      subst (λ (t : ℕ). Turn sides k n t s s') (sym (side_is ∙ ap (λ (m : ℕ). k % m) e))
      (turn sides z k n before s p s' p' one two any chained looks start
      (subst (λ (m : ℕ). k < m * (length p'.retired.items - before)) e (subst (λ (m : ℕ). k < sides' * (m - before)) all lt))
      (is ∙ ap (λ (m : ℕ). get_or p'.retired.items (before + k / m) n) e))
