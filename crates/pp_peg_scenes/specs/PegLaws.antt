-- Five pegs on one line meet the laws of a shape.
use Rattle.std.proofs.Common.{◌≡◌, ◌≢◌, ◌⊎◌, inl, inr, ⊎_elim, ℕ, zero, suc, ◌+◌, ◌-◌, ◌*◌, ◌<◌, ◌≤◌, Bool, true, false, cond}
use Rattle.std.proofs.Common.{eqb, ◌||◌}
use Rattle.std.proofs.Common.{List, [], ◌∷◌, set, get_or, length, take, refl, sym, ap, ◌∙◌, subst, arith, ne_eqb, eq-eqb}
use Rattle.std.proofs.Math.Decide.{ℕ_discrete}
use Rattle.std.proofs.lemmas.Bool.{cases_lt, lt-ltb, le-ltb}
use mathlib.Core.Logic.{dite}
use Rattle.pp_link.specs.declared.layout.Sizes.{Sizes}
use Rattle.pp_link.specs.Links.{target, flag_bit, leaf_bit}
use Rattle.pp_link.specs.Places.{IsWithin, IsNumber, head_place, cell_place}
use Rattle.pp_link.specs.Words.{head_word, cell_word}
use Rattle.pp_link.proofs.Stores.{head_stored}
use Rattle.pp_rule.specs.Alone.{HasOwnChanges}
use Rattle.pp_rule.specs.Reached.{Reached, ReachesAll}
use Rattle.pp_rule.specs.Reached.Reached.{by_head, by_link}
use Rattle.pp_rule.proofs.Alone.{none_logged}
use Rattle.pp_rule.specs.Lists.{IsIn}
use Rattle.pp_rule.specs.Orders.{log_of, entries_of, placed_by}
use Rattle.pp_rule.specs.declared.views.Chain.{Chain}
use Rattle.pp_rule.specs.declared.views.ChainLink.{ChainLink}
use Rattle.pp_rule.specs.declared.views.LoggedStep.{LoggedStep}
use Rattle.pp_rule.specs.declared.views.PassState.{PassState}
use Rattle.pp_rule.specs.declared.views.WalkSlot.{WalkSlot}
use Rattle.pp_rule.specs.Views.{guarding}
use Rattle.pp_rule.specs.States.{attached, IsLinked, PoolState, Stays, SameTarget}
use Rattle.pp_rule.specs.Rule.{Base}
use Rattle.pp_rule.specs.Looks.{SameSeen}
use Rattle.pp_rule.specs.Steps.{IsUnused}
use Rattle.pp_rule.specs.Detach.{IsFreeLink, Detaches, Detached}
use Rattle.pp_rule.specs.Opening.{OpensInto}
use Rattle.pp_rule.specs.Closing.{Gathers}
use Rattle.pp_model.specs.declared.Pair.{Pair}
use Rattle.pp_rule.specs.Laws.{HeadsOpen, LinksOpen, MetAtOpening, KeptAlike, KeptCleared, KeptInvalid}
use Rattle.pp_rule.specs.Paths.{links_of, led_to, IsChained, IsChainTo}
use Rattle.pp_rule.specs.Laws.{Chained, MayDetach, KeptDetached, Closes}
use Rattle.pp_rule.proofs.Put.{in_one, only}
use Rattle.pp_rule.proofs.Histories.{quiet_log, quiet_placed}
use Rattle.pp_base.specs.RowLaws.{exact, stays_through, linked_used, attached_linked, not_in_hand, not_owned}
use Rattle.pp_rule.proofs.OpeningWords.{opening_head, opening_field}
use Rattle.pp_peg_scenes.specs.Pegs.{next_peg, peg_head, peg_link, peg_field, ArePegs, peg_chain, MayPull}
use Rattle.pp_peg_scenes.specs.Pegs.{peg_alive, PegGathered, peg_count, PegTells, PegTellsPass}
use Rattle.pp_peg_scenes.specs.PegLists.{as_many, pegs_once, pegs_low, pegs_high}

pub peg_fits : 5 ≤ 8
peg_fits = omega arith

-- the next peg, or nil behind the last one
pub next_under : (n : ℕ) → n < 5 → next_peg n ≡ n + 1
next_under n low = ap (λ (b : Bool). cond b (n + 1) 0) (lt-ltb n 5 low)

pub next_over : (n : ℕ) → 5 ≤ n → next_peg n ≡ 0
next_over n high = ap (λ (b : Bool). cond b (n + 1) 0) (le-ltb n 5 high)

pub next_few : (n : ℕ) → next_peg n ≤ 5
next_few n = ⊎_elim (λ (low : n < 5). let is = next_under n low in omega arith)
    (λ (high : 5 ≤ n). let is = next_over n high in omega arith) (cases_lt n 5)

-- what has a next peg is the one before it
pub next_before : (n m : ℕ) → next_peg n ≡ m → 1 ≤ m → (n < 5) × (m ≡ n + 1)
next_before n m e some_is = ⊎_elim (λ (low : n < 5). (low, sym e ∙ next_under n low))
    (λ (high : 5 ≤ n). let is = next_over n high in absurd (omega arith)) (cases_lt n 5)

opens_into : (w k : ℕ) → k ≤ 5 → (w ≡ 16 * k) ⊎ (w ≡ 16 * k + 1) → OpensInto 5 w
opens_into w k few is = ⊎_elim
    (λ (e : w ≡ 16 * k). record { small = omega arith; valid = omega arith; to = omega arith })
    (λ (e : w ≡ 16 * k + 1). record { small = omega arith; valid = omega arith; to = omega arith }) is

pub some_head : (z : Sizes) → IsWithin z → 0 < z.heads
some_head z within = omega (arith, within.some_heads)

-- only the first head leads to a peg
head_first : (h : ℕ) → h ≡ 0 → peg_head h ≡ 16
head_first h e = ap (λ (b : Bool). cond b 16 0) (eq-eqb h 0 e)

head_else : (h : ℕ) → h ≢ 0 → peg_head h ≡ 0
head_else h ne = ap (λ (b : Bool). cond b 16 0) (ne_eqb h 0 ne)

pub peg_heads_open : HeadsOpen 5 peg_head
peg_heads_open h = dite (ℕ_discrete h 0)
    (λ e. opens_into (peg_head h) 1 (omega arith) (inl (head_first h e ∙ omega arith)))
    (λ ne. opens_into (peg_head h) 0 (omega arith) (inl (head_else h ne ∙ omega arith)))

pub peg_links_open : LinksOpen 1 5 peg_field
peg_links_open n zero some_is low one = opens_into (peg_link n) (next_peg n) (next_few n) (inr refl)
peg_links_open n (suc side) some_is low one = absurd (omega arith)

-- where the link of a peg leads
pub led_next : (n : ℕ) → target (peg_link n) ≡ next_peg n
led_next n = omega arith

or_true : (a b : Bool) → b ≡ true → (a || b) ≡ true
or_true true b e = refl
or_true false b e = e

-- the chain in the order in which its links lead
peg_chained_alone : (guard n : ℕ) → IsChained 1 n (peg_chain guard n)
unfolding links_of led_to
peg_chained_alone guard n = record {
  links_are = refl;
  records_are = ap (λ (b : Bool). n ∷ cond b [] (target (peg_link n) ∷ []))
      (sym (or_true (eqb (target (peg_link n)) 0) (eqb (target (peg_link n)) (next_peg n))
      (eq-eqb (target (peg_link n)) (next_peg n) (led_next n))));
  reached = reached;
  valid = λ l other i. other i;
}
  where
    reached : (k : ℕ) → k < 1 → k < 1 * (1 + length (led_to (next_peg n) (take k (peg_chain guard n).links)))
    reached zero lt = omega arith
    reached (suc k) lt = absurd (omega arith)

head_at : (z : Sizes) (words : List ℕ) (place first : ℕ) → place ≡ head_place z 0 → get_or words place 0 ≡ first
    → head_word words z 0 ≡ first
unfolding head_word
head_at z words place first at same = ap (λ (k : ℕ). get_or words k 0) (sym at) ∙ same

abbrev link_of_peg : ℕ → ChainLink
link_of_peg n = record { number = n; side = 0; word = peg_link n }

-- the link is that of the peg n, and leads where it led
abbrev IsLinkOf : Sizes → List ℕ → ℕ → ChainLink → Type 0
IsLinkOf z words n l = IsIn l.number (n ∷ []) × (l.side < 1) × SameTarget l.word (cell_word words z l.number (2 + l.side))

module _ {W : Type 0} where
  abbrev OnePeg : List WalkSlot → W → ℕ → ℕ → ℕ → Chain
  OnePeg walk own guard first new = peg_chain guard (target first)

  abbrev May : Sizes → List WalkSlot → W → ℕ → ℕ → ℕ → Type 0
  May z walk own place first new = MayPull z walk place first new

  peg_ordered : (z : Sizes) (walk : List WalkSlot) (own : W) (place guard first new : ℕ) → May z walk own place first new
      → IsChainTo 1 guard (target first) (target new) (OnePeg walk own guard first new)
  peg_ordered z walk own place guard first new may = record {
    chained = peg_chained_alone guard (target first);
    guard_is = refl;
    frontier_is = let led : target first ≡ may.peg = omega (arith, may.first_is) in
        let leads : next_peg may.peg ≡ target new = omega (arith, may.new_is) in ap next_peg led ∙ leads;
  }

module _ {E A : Type 0} where
  no_log : (order : List (LoggedStep E A)) → order ≡ [] → log_of order ≡ []
  unfolding log_of entries_of
  no_log order e = ap log_of e

  no_placed : (p : ℕ) (order : List (LoggedStep E A)) → order ≡ [] → placed_by p order ≡ []
  unfolding placed_by
  no_placed p order e = ap (placed_by p) e

module _ {E A W : Type 0} where
  abbrev Adds : Sizes → List ℕ → PoolState E A W → Type 0
  Adds z words g = ArePegs z words g

  pub peg_opened : (own : W) → MetAtOpening 1 Adds 5 peg_head peg_field own
  peg_opened own z g within low b o = record {
    log = no_log g.order o.order;
    placed = λ p. no_placed p g.order o.order;
    out = 0;
    few = omega arith;
    head = opening_head 5 peg_head peg_field z 0 (some_head z within);
    heads = λ h lt ne. opening_head 5 peg_head peg_field z h lt ∙ head_else h ne;
    standing = λ n more few. o.sentinels_are n (more, omega (arith, low)) few;
    no_other = λ n number is. (
      number.0,
      ⊎_elim
          (λ (more : 5 < n). let free = o.others_are n number more in absurd (not_owned (g.status n) free.0 free.1 is))
          (λ (less : n ≤ 5). less) (cases_lt 5 n),
    );
    links = λ n some_is less linked. inl (opening_field 5 peg_head peg_field z n 2 some_is less (omega arith));
  }

  -- The pegs stay so where the heads, the used records and the log stay, and no record becomes attached.
  pegs_seen : (z : Sizes) (words words' : List ℕ) (g g' : PoolState E A W) → IsWithin z → SameSeen z words words' g g'
      → ArePegs z words g → ArePegs z words' g'
  pegs_seen z words words' g g' within s r = record {
    log = quiet_log g.order g'.order s.order ∙ r.log;
    placed = λ p. quiet_placed p g.order g'.order s.order ∙ r.placed p;
    out = r.out;
    few = r.few;
    head = s.heads 0 (some_head z within) ∙ r.head;
    heads = λ h low ne. s.heads h low ∙ r.heads h low ne;
    standing = λ n more few. s.attached_on n (r.standing n more few);
    no_other = λ n number is. r.no_other n number (was n is);
    links = λ n some_is low linked. subst (Stays (peg_link n))
        (sym (s.cells n 2 (some_is, omega (arith, low, within.some_records)) (omega arith) (linked_used (g'.status n) linked)))
        (r.links n some_is low (subst IsLinked (s.linked_was n linked) linked));
  }
    where
      was : (n : ℕ) → g'.status n ≡ attached → g.status n ≡ attached
      was n is = sym (s.linked_was n (attached_linked (g'.status n) is)) ∙ is

  pub peg_alike : KeptAlike 1 Adds
  peg_alike z words words' g g' b after looks r = pegs_seen z words words' g g' b.within looks.seen r

  pub peg_clears : KeptCleared 1 Adds (λ (i : ℕ) (own : W). own)
  peg_clears z words words' g g' p i b after cleared r = pegs_seen z words words' g g' b.within cleared.seen r

  -- the record whose link got INVALID keeps all else
  pub peg_invalidates : KeptInvalid 1 Adds
  peg_invalidates z words words' g g' n side b after one_side i r = record {
    log = quiet_log g.order g'.order i.order ∙ r.log;
    placed = λ p. quiet_placed p g.order g'.order i.order ∙ r.placed p;
    out = r.out;
    few = r.few;
    head = i.heads 0 (some_head z b.within) ∙ r.head;
    heads = λ h low ne. i.heads h low ∙ r.heads h low ne;
    standing = λ m more few. i.status m ∙ r.standing m more few;
    no_other = λ m number is. r.no_other m number (sym (i.status m) ∙ is);
    links = λ m some_is low linked.
        let before = r.links m some_is low (subst IsLinked (i.status m) linked) in
        dite (ℕ_discrete m n)
        (λ e. stays_through (peg_link m) (cell_word words z m 2) (cell_word words' z m 2) before (here m e))
        (λ ne. subst (Stays (peg_link m))
        (sym (i.others m 2 (some_is, omega (arith, low, b.within.some_records)) (omega arith) (λ same. ne same.0))) before);
  }
    where
      left : 2 + side ≡ 2
      left = omega (arith, one_side)

      here : (m : ℕ) → m ≡ n → Stays (cell_word words z m 2) (cell_word words' z m 2)
      here m e = subst (λ (k : ℕ). Stays (cell_word words z k 2) (cell_word words' z k 2)) (sym e)
          (subst (λ (f : ℕ). Stays (cell_word words z n f) (cell_word words' z n f)) left i.here)

  pub peg_own_changes : HasOwnChanges Adds (λ change. 0)
  peg_own_changes z words g r = none_logged (λ change. 0) g.order r.log

  pub peg_gathers : Closes 1 Adds (λ z words contents live. PegGathered z words contents live) peg_count
      (λ z log pairs. PegTells z log pairs) (λ z log p placed. PegTellsPass z log p placed)
  peg_gathers z words g contents live b r is = let first : ℕ = target (head_word words z 0) in (
    subst (Gathers z) (sym is.1) record {
      once = pegs_once first;
      low = pegs_low first;
      high = λ n more. pegs_high first n (omega (arith, more, b.within.some_records));
    },
    ap (λ (l : List ℕ). length l) is.1 ∙ (as_many (peg_alive z words) ∙ sym (ap (λ (l : List Pair). length l) is.0)),
    r.log,
    λ p low. r.placed p,
  )

  -- the link of a peg that is attached is as it opened
  peg_word : (z : Sizes) (words : List ℕ) (g : PoolState E A W) (n : ℕ) → Base 1 z words g → ArePegs z words g → IsNumber z n
      → g.status n ≡ attached → cell_word words z n 2 ≡ peg_link n
  peg_word z words g n b r number is =
      exact (peg_link n) (cell_word words z n 2) (r.links n number.0 (r.no_other n number is).1 (attached_linked (g.status n) is))
      (b.links.linked n 0 number (omega arith) is).valid

  -- The head leads to the first peg that stands, and each one to the next.
  pub peg_reached : ReachesAll 1 Adds
  peg_reached z words g n b r number is = let scope = r.no_other n number is in
      let low : r.out < n = scope.0 in let high : n ≤ 5 = scope.1 in
      let at : r.out + 1 + (n - r.out - 1) ≡ n = omega arith in
      subst (λ (m : ℕ). Reached 1 z words m) at (reach (n - r.out - 1) (omega arith))
    where
      reach : (d : ℕ) → r.out + 1 + d ≤ 5 → Reached 1 z words (r.out + 1 + d)
      reach zero few = let next = next_under r.out (omega arith) in
          by_head 0 (some_head z b.within) (ap target r.head ∙ omega arith)
      reach (suc d) few = let m : ℕ = r.out + 1 + d in
          let room = b.within.some_records in
          let some_is : IsNumber z m = (omega arith, omega arith) in
          let word : cell_word words z m 2 ≡ peg_link m =
          peg_word z words g m b r some_is (r.standing m (omega arith) (omega arith)) in
          let next : next_peg m ≡ m + 1 = next_under m (omega arith) in
          by_link m 0 some_is (omega arith) (ap target word ∙ (led_next m ∙ (next ∙ omega arith))) (reach d (omega arith))

  -- the first head is a link that nobody learnt as frozen
  pub free_head : (z : Sizes) (words : List ℕ) (g : PoolState E A W) → Base 1 z words g → IsFreeLink z g (head_place z 0)
  free_head z words g b = let has = some_head z b.within in record {
    high = (omega (arith, has, b.within.some_records), omega arith);
    holder = λ n f some_is low e. absurd (omega (arith, e, some_is.0, low, has));
    unlearnt = λ p i l low five on there e. let held = b.hazards.held p i low five on in
        absurd (omega (arith, e, held.number.0, has));
  }

  -- The link of the peg is as it opened, and the head alone leads to it.
  pulls : (z : Sizes) (words : List ℕ) (g : PoolState E A W) (q : PassState W) (guard peg : ℕ) → Base 1 z words g
      → (r : ArePegs z words g)
      → r.out < 5 → peg ≡ r.out + 1 → guard < 4 → guarding q guard ≡ next_peg peg → IsUnused guard q
      → Detaches 1 z words g q (peg_chain guard peg) (head_place z 0) (next_peg peg) (16 * next_peg peg)
  pulls z words g q guard peg b r more peg_is four named unused = record {
    members = λ n i. subst (λ (m : ℕ). IsNumber z m × (g.status m ≡ attached)) (in_one n peg i) (number, stands);
    members_once = λ k l x y at there same. let first = only x peg k at in let second = only y peg l there in omega arith;
    inside = λ n side i one. inr (inr (next_link n side i one));
    valid = valid;
    links = λ l i. subst (IsLinkOf z words peg) (in_one l (link_of_peg peg) i)
        ((0, refl), omega arith, record { target_is = ap target word; flag_is = ap flag_bit word; leaf_is = ap leaf_bit word });
    heads = λ h low ne i. let nil = r.heads h low (λ e. ne (ap (head_place z) e)) in
        let at = in_one (target (head_word words z h)) peg i in absurd (omega arith);
    others = others;
    frontier = frontier;
    new_is = let few = next_few peg in (omega arith, omega arith, omega arith);
    place_is = free_head z words g b;
    stays = λ n f some_is low e i. absurd (omega (arith, e, some_is.0, has));
    guard = four;
    named = named;
    unused = unused;
  }
    where
      has : 0 < z.heads
      has = some_head z b.within

      number : IsNumber z peg
      number = (omega arith, omega (arith, b.within.some_records))

      stands : g.status peg ≡ attached
      stands = r.standing peg (omega arith) (omega arith)

      word : cell_word words z peg 2 ≡ peg_link peg
      word = peg_word z words g peg b r number stands

      next_link : (n side : ℕ) → IsIn n (peg ∷ []) → side < 1 → target (cell_word words z n (2 + side)) ≡ next_peg peg
      next_link n (suc side) i one = absurd (omega arith)
      next_link n zero i one = subst (λ (m : ℕ). target (cell_word words z m 2) ≡ next_peg peg) (in_one n peg i)
          (ap target word ∙ led_next peg)

      valid : (n side : ℕ) → IsIn n (peg ∷ []) → side < 1 → IsIn {A = ℕ × ℕ} (n, side) ((peg, 0) ∷ [])
      valid n (suc side) i one = absurd (omega arith)
      valid n zero i one = subst (λ (m : ℕ). IsIn {A = ℕ × ℕ} (m, 0) ((peg, 0) ∷ [])) (in_one n peg i) (0, refl)

      others : (n side : ℕ) → IsNumber z n → side < 1 → g.status n ≡ attached → (IsIn n (peg ∷ []) → ⊥)
          → cell_place z n (2 + side) ≢ head_place z 0 → IsIn (target (cell_word words z n (2 + side))) (peg ∷ []) → ⊥
      others n (suc side) some_is one is out ne i = absurd (omega arith)
      others n zero some_is one is out ne i = let here = ap target (peg_word z words g n b r some_is is) ∙ led_next n in
          let at = in_one (target (cell_word words z n 2)) peg i in let scope = r.no_other n some_is is in let above = scope.0 in
          let before = next_before n peg (sym here ∙ sym at) number.0 in let same = before.1 in absurd (omega arith)

      frontier : (next_peg peg ≡ 0) ⊎ (IsNumber z (next_peg peg) × (g.status (next_peg peg) ≡ attached)
          × (IsIn (next_peg peg) (peg ∷ []) → ⊥))
      frontier = ⊎_elim
          (λ (low : peg < 5). inr (subst (λ (m : ℕ). IsNumber z m × (g.status m ≡ attached) × (IsIn m (peg ∷ []) → ⊥))
          (sym (next_under peg low)) (
            (omega arith, omega (arith, b.within.some_records)),
            r.standing (peg + 1) (omega arith) (omega arith),
            λ i. let at = in_one (peg + 1) peg i in absurd (omega arith),
          )))
          (λ (high : 5 ≤ peg). inl (next_over peg high)) (cases_lt peg 5)

  -- where the head leads to the peg that a pass may pull out, that is the first one that stands
  first_is : (z : Sizes) (words : List ℕ) (g : PoolState E A W) (walk : List WalkSlot) (place first new : ℕ)
      (r : ArePegs z words g)
      (may : MayPull z walk place first new) → get_or words place 0 ≡ first → (r.out < 5) × (may.peg ≡ r.out + 1)
  first_is z words g walk place first new r may same =
      let at : 16 * next_peg r.out ≡ 16 * may.peg = sym r.head ∙ (head_at z words place first may.place_is same ∙ may.first_is) in
      next_before r.out may.peg (omega arith) may.some_is

  pub peg_chained : Chained 1 Adds OnePeg May
  peg_chained z words g q place guard first new b r pass is may same = peg_ordered z q.walk q.own place guard first new may

  pub peg_detaches : MayDetach 1 Adds OnePeg May
  peg_detaches z words g q place guard first new b r pass is may four named unused same =
      let here = first_is z words g q.walk place first new r may same in
      subst (λ (n : ℕ). Detaches 1 z words g q (peg_chain guard (target first)) place (target n) n) (sym may.new_is)
      (subst (λ (k : ℕ). Detaches 1 z words g q (peg_chain guard (target first)) k (target (16 * next_peg may.peg))
      (16 * next_peg may.peg))
      (sym may.place_is)
      (subst (λ (m : ℕ). Detaches 1 z words g q (peg_chain guard m) (head_place z 0) (target (16 * next_peg may.peg))
      (16 * next_peg may.peg))
      (sym led)
      (subst (λ (x : ℕ). Detaches 1 z words g q (peg_chain guard may.peg) (head_place z 0) x (16 * next_peg may.peg)) (sym leads)
      (pulls z words g q guard may.peg b r here.0 here.1 four (named ∙ (ap target may.new_is ∙ leads)) unused))))
    where
      led : target first ≡ may.peg
      led = omega (arith, may.first_is)

      leads : target (16 * next_peg may.peg) ≡ next_peg may.peg
      leads = omega arith

  -- After it the head leads to the next peg, and the peg is in hand with its link as it was.
  pulled : (z : Sizes) (words : List ℕ) (g g' : PoolState E A W) (q : PassState W) (guard peg : ℕ) → Base 1 z words g
      → (r : ArePegs z words g)
      → r.out < 5 → peg ≡ r.out + 1 → Detached z g g' q (peg_chain guard peg)
      → ArePegs z (set words (head_place z 0) (16 * next_peg peg)) g'
  pulled z words g g' q guard peg b r more peg_is d =
      let stored = head_stored z words (16 * next_peg peg) b.wide 0 (some_head z b.within) in
      record {
        log = quiet_log g.order g'.order d.order ∙ r.log;
        placed = λ p. quiet_placed p g.order g'.order d.order ∙ r.placed p;
        out = peg;
        few = omega arith;
        head = stored.here;
        heads = λ h low ne. stored.heads h low ne ∙ r.heads h low ne;
        standing = λ n over few. stays n (λ e. absurd (omega arith)) ∙ r.standing n (omega arith) few;
        no_other = λ n number is. dite (ℕ_discrete n peg)
            (λ e. absurd (not_in_hand (g'.status n) q.number guard
            (d.inside n (subst (λ (m : ℕ). IsIn m (peg ∷ [])) (sym e) (0, refl))) is))
            (λ ne. let was = r.no_other n number (sym (stays n ne) ∙ is) in let above = was.0 in (omega arith, was.1));
        links = λ n some_is low linked. subst (Stays (peg_link n))
            (sym (stored.cells n 2 (some_is, omega (arith, low, b.within.some_records)) (omega arith)))
            (r.links n some_is low (dite (ℕ_discrete n peg)
            (λ e. attached_linked (g.status n) (ap g.status e ∙ r.standing peg (omega arith) (omega arith)))
            (λ ne. subst IsLinked (stays n ne) linked)));
      }
    where
      stays : (n : ℕ) → n ≢ peg → g'.status n ≡ g.status n
      stays n ne = d.outside n (λ i. ne (sym (in_one n peg i)))

  pub peg_detached : KeptDetached 1 Adds OnePeg May
  peg_detached z words g g' q place guard first new b after pass is may same may_go d r =
      let here = first_is z words g q.walk place first new r may same in
      let led : target first ≡ may.peg = omega (arith, may.first_is) in
      subst (λ (n : ℕ). ArePegs z (set words place n) g') (sym may.new_is)
      (subst (λ (k : ℕ). ArePegs z (set words k (16 * next_peg may.peg)) g') (sym may.place_is)
      (pulled z words g g' q guard may.peg b r here.0 here.1
      (subst (λ (m : ℕ). Detached z g g' q (peg_chain guard m)) led d)))
