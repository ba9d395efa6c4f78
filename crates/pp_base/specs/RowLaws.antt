-- A row meets the laws of a shape.
use Rattle.std.proofs.Common.{◌≡◌, ◌≢◌, ◌⊎◌, inl, inr, ⊎_elim, ℕ, zero, suc, ◌+◌, ◌*◌, ◌<◌, ◌≤◌, Bool, true, false, cond, eqb}
use Rattle.std.proofs.Common.{List, [], ◌∷◌, set, get_or, length, take, refl, sym, ap, ◌∙◌, subst, arith, ne_eqb}
use Rattle.std.proofs.Math.Bool.{false≢true}
use Rattle.std.proofs.Math.Decide.{ℕ_discrete}
use Rattle.std.proofs.lemmas.Bool.{cases_lt}
use mathlib.Core.Logic.{dite}
use mathlib.Core.Option.{some, some-injective}
use lib.ListN.{get_elem?}
use Rattle.pp_link.specs.declared.layout.Sizes.{Sizes}
use Rattle.pp_link.specs.Links.{target, invalid_bit, flag_bit, leaf_bit}
use Rattle.pp_link.specs.Places.{IsWithin, IsNumber, head_place, cell_place}
use Rattle.pp_link.specs.Words.{head_word, cell_word}
use Rattle.pp_link.proofs.Stores.{head_stored}
use Rattle.pp_rule.specs.Lists.{IsIn, times}
use Rattle.pp_rule.specs.Orders.{log_of, entries_of, placed_by}
use Rattle.pp_rule.specs.declared.views.Chain.{Chain}
use Rattle.pp_rule.specs.declared.views.ChainLink.{ChainLink}
use Rattle.pp_rule.specs.declared.views.LoggedStep.{LoggedStep}
use Rattle.pp_rule.specs.declared.views.PassState.{PassState}
use Rattle.pp_rule.specs.declared.views.WalkSlot.{WalkSlot}
use Rattle.pp_rule.specs.Views.{guarding}
use Rattle.pp_rule.specs.States.{RecordState, attached, in_hand, retired, owned, shelved, IsUsed, IsLinked, PoolState, Stays, SameTarget}
use Rattle.pp_rule.specs.Rule.{Base}
use Rattle.pp_rule.specs.Looks.{SameSeen}
use Rattle.pp_rule.specs.Steps.{IsUnused}
use Rattle.pp_rule.specs.Detach.{Detaches, Detached}
use Rattle.pp_rule.specs.Closing.{Gathers}
use Rattle.pp_rule.specs.Opening.{OpensInto}
use Rattle.pp_rule.specs.Alone.{HasOwnChanges}
use Rattle.pp_rule.specs.Reached.{Reached, ReachesAll}
use Rattle.pp_rule.specs.Reached.Reached.{by_head, by_link}
use Rattle.pp_rule.proofs.Alone.{none_logged}
use Rattle.pp_rule.specs.Laws.{HeadsOpen, LinksOpen, Freezes, MetAtOpening, KeptAlike, KeptCleared, KeptInvalid}
use Rattle.pp_rule.specs.Paths.{links_of, led_to, IsChained, IsChainTo}
use Rattle.pp_rule.specs.Laws.{Chained, MayDetach, KeptDetached, Closes}
use Rattle.pp_rule.proofs.Put.{in_nil, in_cases, in_one}
use Rattle.pp_rule.proofs.Histories.{quiet_log, quiet_placed}
use Rattle.pp_base.specs.Row.{row_head, row_link, row_field, has_flag, IsRow, IsWhole, IsCut, row_chain, MayCut}
use Rattle.pp_base.specs.Row.{RowGathered, row_count, RowTells, RowTellsPass}
use Rattle.pp_rule.proofs.OpeningWords.{opening_head, opening_field}

pub row_sided : (1 ≤ 1) × (1 ≤ 2)
row_sided = (omega arith, omega arith)

pub row_fits : 3 ≤ 8
row_fits = omega arith

-- the chain in the order in which its links lead
first_two_chained : (guard : ℕ) → IsChained 1 1 (row_chain guard)
unfolding links_of led_to
first_two_chained guard = record {
  links_are = refl;
  records_are = refl;
  reached = reached;
  valid = λ l other i. other i;
}
  where
    reached : (k : ℕ) → k < 2 → k < 1 * (1 + length (led_to 3 (take k (row_chain guard).links)))
    reached zero lt = omega arith
    reached (suc zero) lt = omega arith
    reached (suc (suc k)) lt = absurd (omega arith)

other_head : (h : ℕ) → h ≢ 0 → row_head h ≡ 0
other_head h ne = ap (λ (b : Bool). cond b 16 0) (ne_eqb h 0 ne)

pub row_heads_open : HeadsOpen 3 row_head
row_heads_open h = dite (ℕ_discrete h 0)
    (λ e. subst (λ (k : ℕ). OpensInto 3 (row_head k)) (sym e) record { small = omega arith; valid = refl; to = omega arith })
    (λ ne. subst (OpensInto 3) (sym (other_head h ne)) record { small = omega arith; valid = refl; to = omega arith })

pub row_links_open : LinksOpen 1 3 row_field
row_links_open zero side some_is low one = absurd (omega arith)
row_links_open (suc n) (suc side) some_is low one = absurd (omega arith)
row_links_open (suc zero) zero some_is low one = record { small = omega arith; valid = refl; to = omega arith }
row_links_open (suc (suc zero)) zero some_is low one = record { small = omega arith; valid = refl; to = omega arith }
row_links_open (suc (suc (suc zero))) zero some_is low one = record { small = omega arith; valid = refl; to = omega arith }
row_links_open (suc (suc (suc (suc n)))) zero some_is low one = absurd (omega arith)

pub row_freezes : Freezes has_flag
row_freezes w flag unfrozen = false≢true (sym (ne_eqb (flag_bit w) 1 (omega arith)) ∙ flag)

-- a link without INVALID is as it was
pub exact : (was now : ℕ) → Stays was now → invalid_bit now ≡ 0 → now ≡ was
exact was now stays valid = ⊎_elim (λ (e : now ≡ was). e)
    (λ (more : (invalid_bit was ≡ 0) × (now ≡ was + 4)). let bit = more.0 in let sum = more.1 in absurd (omega arith)) stays

pub stays_through : (a b c : ℕ) → Stays a b → Stays b c → Stays a c
stays_through a b c first second = ⊎_elim
    (λ (e : b ≡ a). subst (λ (k : ℕ). Stays k c) e second)
    (λ (more : (invalid_bit a ≡ 0) × (b ≡ a + 4)). let bit = more.0 in let sum = more.1 in ⊎_elim
    (λ (e : c ≡ b). inr (bit, e ∙ sum))
    (λ (again : (invalid_bit b ≡ 0) × (c ≡ b + 4)). let other = again.0 in absurd (omega arith)) second) first

pub linked_used : (s : RecordState) → IsLinked s → IsUsed s
linked_used attached linked = tt
linked_used (in_hand p j) linked = tt
linked_used (retired p) linked = absurd linked
linked_used (owned p) linked = absurd linked
linked_used (shelved j) linked = absurd linked

pub attached_linked : (s : RecordState) → s ≡ attached → IsLinked s
attached_linked s is = subst IsLinked (sym is) tt

abbrev is_attached : RecordState → Type 0
is_attached attached = Unit {0}
is_attached (in_hand p j) = ⊥
is_attached (retired p) = ⊥
is_attached (owned p) = ⊥
is_attached (shelved j) = ⊥

pub not_in_hand : (s : RecordState) (p j : ℕ) → s ≡ in_hand p j → s ≡ attached → ⊥
not_in_hand s p j hand is = subst is_attached (sym is ∙ hand) tt

pub not_owned : (s : RecordState) (p : ℕ) → s ≡ owned p → s ≡ attached → ⊥
not_owned s p own is = subst is_attached (sym is ∙ own) tt

at_two : (k n : ℕ) → get_elem? (1 ∷ 2 ∷ []) k ≡ some n → suc k ≡ n
at_two zero n e = some-injective 1 n e
at_two (suc zero) n e = some-injective 2 n e
at_two (suc (suc k)) n e = absurd (in_nil n (k, e))

below_two : (k n : ℕ) → get_elem? (1 ∷ 2 ∷ []) k ≡ some n → k < 2
below_two zero n e = omega arith
below_two (suc zero) n e = omega arith
below_two (suc (suc k)) n e = absurd (in_nil n (k, e))

-- what is true of the first two records is true of each member of the chain
each_of_two : (P : ℕ → Type 0) → P 1 → P 2 → (n : ℕ) → IsIn n (1 ∷ 2 ∷ []) → P n
each_of_two P first second n i = ⊎_elim (λ (e : n ≡ 1). subst P (sym e) first)
    (λ (later : IsIn n (2 ∷ [])). subst P (in_one n 2 later) second) (in_cases n 1 (2 ∷ []) i)

-- and what is true of the three records is true of each number up to 3
each_of_three : (P : ℕ → Type 0) → P 1 → P 2 → P 3 → (n : ℕ) → 1 ≤ n → n ≤ 3 → P n
each_of_three P first second third zero some_is low = absurd (omega arith)
each_of_three P first second third (suc zero) some_is low = first
each_of_three P first second third (suc (suc zero)) some_is low = second
each_of_three P first second third (suc (suc (suc zero))) some_is low = third
each_of_three P first second third (suc (suc (suc (suc n)))) some_is low = absurd (omega arith)

not_in_two : (n : ℕ) → n ≢ 1 → n ≢ 2 → IsIn n (1 ∷ 2 ∷ []) → ⊥
not_in_two n first second i = let at = at_two i.0 n i.1 in let low = below_two i.0 n i.1 in
    dite (ℕ_discrete n 1) first (λ ne. second (omega arith))

-- the words of the three links while the row stands whole
record Exactly (z : Sizes) (words : List ℕ) : Type 0 where
  first : cell_word words z 1 2 ≡ 33
  second : cell_word words z 2 2 ≡ 49
  last : cell_word words z 3 2 ≡ 0

head_at : (z : Sizes) (words : List ℕ) (place first : ℕ) → place ≡ head_place z 0 → first ≡ 16 → get_or words place 0 ≡ first
    → head_word words z 0 ≡ 16
unfolding head_word
head_at z words place first at is same = ap (λ (k : ℕ). get_or words k 0) (sym at) ∙ (same ∙ is)

abbrev first_link : ChainLink
first_link = record { number = 1; side = 0; word = 33 }

abbrev second_link : ChainLink
second_link = record { number = 2; side = 0; word = 49 }

-- the link is one of the chain's, and leads where it led
abbrev IsLinkOf : Sizes → List ℕ → ChainLink → Type 0
IsLinkOf z words l = IsIn l.number (1 ∷ 2 ∷ []) × (l.side < 1) × SameTarget l.word (cell_word words z l.number (2 + l.side))

-- the record 3 alone
three_alone : (z : Sizes) → 3 ≤ z.records → Gathers z (3 ∷ [])
unfolding times
three_alone z most = record {
  once = λ n. one_at_most (eqb 3 n);
  low = refl;
  high = λ n more. ap (λ (c : Bool). cond c 1 0) (ne_eqb 3 n (omega (arith, more, most)));
}
  where
    one_at_most : (c : Bool) → cond c 1 0 ≤ 1
    one_at_most true = omega arith
    one_at_most false = omega arith

module _ {W : Type 0} where
  abbrev FirstTwo : List WalkSlot → W → ℕ → ℕ → ℕ → Chain
  FirstTwo walk own guard first new = row_chain guard

  abbrev May : Sizes → List WalkSlot → W → ℕ → ℕ → ℕ → Type 0
  May z walk own place first new = MayCut z walk place first new

module _ {W : Type 0} where
  row_ordered : (z : Sizes) (walk : List WalkSlot) (own : W) (place guard first new : ℕ) → May z walk own place first new
      → IsChainTo 1 guard (target first) (target new) (FirstTwo walk own guard first new)
  row_ordered z walk own place guard first new may = record {
    chained = subst (λ (n : ℕ). IsChained 1 (target n) (row_chain guard)) (sym may.first_is) (first_two_chained guard);
    guard_is = refl;
    frontier_is = sym (ap target may.new_is);
  }

module _ {E A : Type 0} where
  no_log : (order : List (LoggedStep E A)) → order ≡ [] → log_of order ≡ []
  unfolding log_of entries_of
  no_log order e = ap log_of e

  no_placed : (p : ℕ) (order : List (LoggedStep E A)) → order ≡ [] → placed_by p order ≡ []
  unfolding placed_by
  no_placed p order e = ap (placed_by p) e

module _ {E A W : Type 0} where
  abbrev Adds : Sizes → List ℕ → PoolState E A W → Type 0
  Adds z words g = IsRow z words g

  pub row_opened : (own : W) → MetAtOpening 1 Adds 3 row_head row_field own
  row_opened own z g within low b o = record {
    log = no_log g.order o.order;
    placed = λ p. no_placed p g.order o.order;
    heads = λ h lt ne. opening_head 3 row_head row_field z h lt ∙ other_head h ne;
    row = inl record {
      head = opening_head 3 row_head row_field z 0 (omega (arith, within.some_heads));
      first = o.sentinels_are 1 (omega (arith, low), omega (arith, low)) (omega arith);
      second = o.sentinels_are 2 (omega (arith, low), omega (arith, low)) (omega arith);
    };
    last = o.sentinels_are 3 (omega (arith, low), omega (arith, low)) (omega arith);
    no_other = λ n number is. ⊎_elim
        (λ (more : 3 < n). let free = o.others_are n number more in absurd (not_owned (g.status n) free.0 free.1 is))
        (λ (less : n ≤ 3). less) (cases_lt 3 n);
    links = λ n some_is less linked. inl (opening_field 3 row_head row_field z n 2 some_is less (omega arith));
  }

  -- A row stays so where the heads, the used records and the log stay, and no record becomes attached.
  row_seen : (z : Sizes) (words words' : List ℕ) (g g' : PoolState E A W) → IsWithin z → SameSeen z words words' g g'
      → IsRow z words g → IsRow z words' g'
  row_seen z words words' g g' within s r = record {
    log = quiet_log g.order g'.order s.order ∙ r.log;
    placed = λ p. quiet_placed p g.order g'.order s.order ∙ r.placed p;
    heads = λ h low ne. s.heads h low ∙ r.heads h low ne;
    row = ⊎_elim
        (λ (w : IsWhole z words g). inl record {
          head = s.heads 0 (omega (arith, within.some_heads)) ∙ w.head;
          first = s.attached_on 1 w.first;
          second = s.attached_on 2 w.second;
        })
        (λ (c : IsCut z words g). inr record {
          head = s.heads 0 (omega (arith, within.some_heads)) ∙ c.head;
          first = λ is. c.first (was 1 is);
          second = λ is. c.second (was 2 is);
        }) r.row;
    last = s.attached_on 3 r.last;
    no_other = λ n number is. r.no_other n number (was n is);
    links = λ n some_is low linked. subst (Stays (row_link n))
        (sym (s.cells n 2 (some_is, omega (arith, low, within.some_records)) (omega arith) (linked_used (g'.status n) linked)))
        (r.links n some_is low (subst IsLinked (s.linked_was n linked) linked));
  }
    where
      was : (n : ℕ) → g'.status n ≡ attached → g.status n ≡ attached
      was n is = sym (s.linked_was n (attached_linked (g'.status n) is)) ∙ is

  pub row_alike : KeptAlike 1 Adds
  row_alike z words words' g g' b after looks r = row_seen z words words' g g' b.within looks.seen r

  pub row_clears : KeptCleared 1 Adds (λ (i : ℕ) (own : W). own)
  row_clears z words words' g g' p i b after cleared r = row_seen z words words' g g' b.within cleared.seen r

  -- the record whose link got INVALID is in hand, so it's the first or the second one
  pub row_invalidates : KeptInvalid 1 Adds
  row_invalidates z words words' g g' n side b after one_side i r = record {
    log = quiet_log g.order g'.order i.order ∙ r.log;
    placed = λ p. quiet_placed p g.order g'.order i.order ∙ r.placed p;
    heads = λ h low ne. i.heads h low ∙ r.heads h low ne;
    row = ⊎_elim
        (λ (w : IsWhole z words g). inl record {
          head = i.heads 0 (omega (arith, b.within.some_heads)) ∙ w.head;
          first = i.status 1 ∙ w.first;
          second = i.status 2 ∙ w.second;
        })
        (λ (c : IsCut z words g). inr record {
          head = i.heads 0 (omega (arith, b.within.some_heads)) ∙ c.head;
          first = λ is. c.first (sym (i.status 1) ∙ is);
          second = λ is. c.second (sym (i.status 2) ∙ is);
        }) r.row;
    last = i.status 3 ∙ r.last;
    no_other = λ m number is. r.no_other m number (sym (i.status m) ∙ is);
    links = λ m some_is low linked.
        let before = r.links m some_is low (subst IsLinked (i.status m) linked) in
        dite (ℕ_discrete m n)
        (λ e. stays_through (row_link m) (cell_word words z m 2) (cell_word words' z m 2) before (here m e))
        (λ ne. subst (Stays (row_link m))
        (sym (i.others m 2 (some_is, omega (arith, low, b.within.some_records)) (omega arith) (λ same. ne same.0))) before);
  }
    where
      left : 2 + side ≡ 2
      left = omega (arith, one_side)

      here : (m : ℕ) → m ≡ n → Stays (cell_word words z m 2) (cell_word words' z m 2)
      here m e = subst (λ (k : ℕ). Stays (cell_word words z k 2) (cell_word words' z k 2)) (sym e)
          (subst (λ (f : ℕ). Stays (cell_word words z n f) (cell_word words' z n f)) left i.here)

  pub row_own_changes : HasOwnChanges Adds (λ change. 0)
  row_own_changes z words g r = none_logged (λ change. 0) g.order r.log

  pub row_gathers : Closes 1 Adds (λ z words contents live. RowGathered z words contents live) row_count
      (λ z log pairs. RowTells z log pairs) (λ z log p placed. RowTellsPass z log p placed)
  row_gathers z words g contents live b r is = (
    subst (Gathers z) (sym is.1) (three_alone z (omega (arith, b.within.some_records))),
    ap (λ (l : List ℕ). length l) is.1,
    (r.log, is.0),
    λ p low. r.placed p,
  )

  three_words : (z : Sizes) (words : List ℕ) (g : PoolState E A W) → Base 1 z words g → IsRow z words g → IsWhole z words g
      → Exactly z words
  three_words z words g b r w = record {
    first = word 1 (omega arith) (omega arith) w.first;
    second = word 2 (omega arith) (omega arith) w.second;
    last = word 3 (omega arith) (omega arith) r.last;
  }
    where
      word : (n : ℕ) → 1 ≤ n → n ≤ 3 → g.status n ≡ attached → cell_word words z n 2 ≡ row_link n
      word n some_is low is = exact (row_link n) (cell_word words z n 2) (r.links n some_is low (attached_linked (g.status n) is))
          (b.links.linked n 0 (some_is, omega (arith, low, b.within.some_records)) (omega arith) is).valid

  -- The head leads to the first record and its links to the others, or the head leads to the last one, which alone is attached
  -- then.
  pub row_reached : ReachesAll 1 Adds
  row_reached z words g n b r number is = ⊎_elim whole cut r.row
    where
      some_head : 0 < z.heads
      some_head = omega (arith, b.within.some_heads)

      whole : IsWhole z words g → Reached 1 z words n
      whole w = let e = three_words z words g b r w in
          let one : Reached 1 z words 1 = by_head 0 some_head (ap target w.head) in
          let two : Reached 1 z words 2 =
          by_link 1 0 (omega arith, omega (arith, b.within.some_records)) (omega arith) (ap target e.first) one in
          let three : Reached 1 z words 3 = by_link 2 0 (omega arith, omega (arith, b.within.some_records)) (omega arith)
          (ap target e.second) two in
          each_of_three (λ m. Reached 1 z words m) one two three n number.0 (r.no_other n number is)

      cut : IsCut z words g → Reached 1 z words n
      cut c = each_of_three (λ m. g.status m ≡ attached → Reached 1 z words m) (λ at. absurd (c.first at))
          (λ at. absurd (c.second at))
          (λ _. by_head 0 some_head (ap target c.head)) n number.0 (r.no_other n number is) is

  -- where the head has its first word, the row is whole
  whole_at : (z : Sizes) (words : List ℕ) (g : PoolState E A W) → IsRow z words g → head_word words z 0 ≡ 16 → IsWhole z words g
  whole_at z words g r head = ⊎_elim (λ (w : IsWhole z words g). w)
      (λ (c : IsCut z words g). let cut = c.head in absurd (omega arith)) r.row

  -- Both links are as they opened, the head 0 alone leads to the first record, and the left link of the record 3 is nil.
  cuts : (z : Sizes) (words : List ℕ) (g : PoolState E A W) (q : PassState W) (guard : ℕ) → Base 1 z words g → IsRow z words g
      → IsWhole z words g → guard < 4 → guarding q guard ≡ 3 → IsUnused guard q
      → Detaches 1 z words g q (row_chain guard) (head_place z 0) 3 48
  cuts z words g q guard b r w four named unused = record {
    members = each_of_two (λ n. IsNumber z n × (g.status n ≡ attached))
        ((omega arith, omega (arith, b.within.some_records)), w.first) ((omega arith, omega (arith, b.within.some_records)), w.second);
    members_once = λ k l x y at there same. let first = at_two k x at in let second = at_two l y there in omega arith;
    inside = inside;
    valid = valid;
    links = λ l i. ⊎_elim
        (λ (e : l ≡ first_link). subst (IsLinkOf z words) (sym e) (link_of_chain first_link (0, refl) (omega arith) words_are.first))
        (λ (later : IsIn l (second_link ∷ [])). subst (IsLinkOf z words) (in_one l second_link later)
        (link_of_chain second_link (1, refl) (omega arith) words_are.second))
        (in_cases l first_link (second_link ∷ []) i);
    heads = λ h low ne i. let nil = r.heads h low (λ e. ne (ap (head_place z) e)) in
        not_in_two (target (head_word words z h)) (omega (arith, nil)) (omega (arith, nil)) i;
    others = others;
    frontier = inr ((omega arith, omega (arith, b.within.some_records)), r.last, not_in_two 3 (omega arith) (omega arith));
    new_is = (omega arith, refl, refl);
    place_is = record {
      high = (omega (arith, b.within.some_heads), omega arith);
      holder = λ n f number low e. absurd (omega (arith, e, number.0, low, b.within.some_heads));
      unlearnt = λ s i l low five on there e. let held = b.hazards.held s i low five on in
          absurd (omega (arith, e, held.number.0, b.within.some_heads));
    };
    stays = λ n f number low e i. absurd (omega (arith, e, number.0, b.within.some_heads));
    guard = four;
    named = named;
    unused = unused;
  }
    where
      words_are : Exactly z words
      words_are = three_words z words g b r w

      inside : (n side : ℕ) → IsIn n (1 ∷ 2 ∷ []) → side < 1 → (target (cell_word words z n (2 + side)) ≡ 0)
          ⊎ (IsIn (target (cell_word words z n (2 + side))) (1 ∷ 2 ∷ []) ⊎ (target (cell_word words z n (2 + side)) ≡ 3))
      inside n (suc side) i one = absurd (omega arith)
      inside n zero i one = each_of_two (λ m. (target (cell_word words z m 2) ≡ 0)
          ⊎ (IsIn (target (cell_word words z m 2)) (1 ∷ 2 ∷ []) ⊎ (target (cell_word words z m 2) ≡ 3)))
          (inr (inl (subst (λ (k : ℕ). IsIn (target k) (1 ∷ 2 ∷ [])) (sym words_are.first) (1, refl))))
          (inr (inr (ap target words_are.second))) n i

      valid : (n side : ℕ) → IsIn n (1 ∷ 2 ∷ []) → side < 1 → IsIn {A = ℕ × ℕ} (n, side) ((1, 0) ∷ (2, 0) ∷ [])
      valid n (suc side) i one = absurd (omega arith)
      valid n zero i one = each_of_two (λ m. IsIn {A = ℕ × ℕ} (m, 0) ((1, 0) ∷ (2, 0) ∷ [])) (0, refl) (1, refl) n i

      link_of_chain : (l : ChainLink) → IsIn l.number (1 ∷ 2 ∷ []) → l.side < 1 → cell_word words z l.number (2 + l.side) ≡ l.word
          → IsLinkOf z words l
      link_of_chain l i one e = (i, one, record { target_is = ap target e; flag_is = ap flag_bit e; leaf_is = ap leaf_bit e })

      others : (n side : ℕ) → IsNumber z n → side < 1 → g.status n ≡ attached → (IsIn n (1 ∷ 2 ∷ []) → ⊥)
          → cell_place z n (2 + side) ≢ head_place z 0 → IsIn (target (cell_word words z n (2 + side))) (1 ∷ 2 ∷ []) → ⊥
      others n (suc side) number one is out ne = absurd (omega arith)
      others n zero number one is out ne = each_of_three
          (λ m. (IsIn m (1 ∷ 2 ∷ []) → ⊥) → IsIn (target (cell_word words z m 2)) (1 ∷ 2 ∷ []) → ⊥)
          (λ no. absurd (no (0, refl))) (λ no. absurd (no (1, refl)))
          (λ no. not_in_two (target (cell_word words z 3 2)) (omega (arith, words_are.last)) (omega (arith, words_are.last)))
          n number.0 (r.no_other n number is) out

  pub row_chained : Chained 1 Adds FirstTwo May
  row_chained z words g q place guard first new b r pass is may same = row_ordered z q.walk q.own place guard first new may

  pub row_detaches : MayDetach 1 Adds FirstTwo May
  row_detaches z words g q place guard first new b r pass is may four named unused same =
      subst (λ (n : ℕ). Detaches 1 z words g q (row_chain guard) place (target n) n) (sym may.new_is)
      (subst (λ (k : ℕ). Detaches 1 z words g q (row_chain guard) k 3 48) (sym may.place_is)
      (cuts z words g q guard b r (whole_at z words g r (head_at z words place first may.place_is may.first_is same))
      four (named ∙ ap target may.new_is) unused))

  -- After it the head leads to the record 3, and the first two are in hand with their links as they were.
  cut_row : (z : Sizes) (words : List ℕ) (g g' : PoolState E A W) (q : PassState W) (guard : ℕ) → Base 1 z words g → IsRow z words g
      → IsWhole z words g → Detached z g g' q (row_chain guard) → IsRow z (set words (head_place z 0) 48) g'
  cut_row z words g g' q guard b r w d =
      let stored = head_stored z words 48 b.wide 0 (omega (arith, b.within.some_heads)) in
      record {
        log = quiet_log g.order g'.order d.order ∙ r.log;
        placed = λ p. quiet_placed p g.order g'.order d.order ∙ r.placed p;
        heads = λ h low ne. stored.heads h low ne ∙ r.heads h low ne;
        row = inr record {
          head = stored.here;
          first = not_in_hand (g'.status 1) q.number guard (d.inside 1 (0, refl));
          second = not_in_hand (g'.status 2) q.number guard (d.inside 2 (1, refl));
        };
        last = d.outside 3 (not_in_two 3 (omega arith) (omega arith)) ∙ r.last;
        no_other = λ n number is. dite (ℕ_discrete n 1) (λ e. omega (arith, e)) (λ ne. dite (ℕ_discrete n 2) (λ e. omega (arith, e))
            (λ other. r.no_other n number (sym (d.outside n (not_in_two n ne other)) ∙ is)));
        links = λ n some_is low linked. subst (Stays (row_link n))
            (sym (stored.cells n 2 (some_is, omega (arith, low, b.within.some_records)) (omega arith)))
            (r.links n some_is low (each_of_three (λ m. IsLinked (g.status m)) (attached_linked (g.status 1) w.first)
            (attached_linked (g.status 2) w.second) (attached_linked (g.status 3) r.last) n some_is low));
      }

  pub row_detached : KeptDetached 1 Adds FirstTwo May
  row_detached z words g g' q place guard first new b after pass is may same may_go d r =
      subst (λ (n : ℕ). IsRow z (set words place n) g') (sym may.new_is)
      (subst (λ (k : ℕ). IsRow z (set words k 48) g') (sym may.place_is)
      (cut_row z words g g' q guard b r (whole_at z words g r (head_at z words place first may.place_is may.first_is same)) d))
