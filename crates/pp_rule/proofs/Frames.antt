-- What each part of the rule of every pool asks of a step so that it stays.
use Rattle.std.proofs.Common.{◌≡◌, ◌≢◌, ◌⊎◌, ℕ, ◌+◌, ◌*◌, ◌<◌, ◌≤◌, true, List, map, length, set, refl, sym, ap, ap₂}
use Rattle.std.proofs.Common.{◌∙◌, subst, arith}
use Rattle.std.proofs.lemmas.List.{length-set}
use Rattle.pp_link.specs.declared.layout.Sizes.{Sizes}
use Rattle.pp_link.specs.Links.{target, invalid_bit}
use Rattle.pp_link.specs.Places.{IsNumber}
use Rattle.pp_link.specs.Words.{walk_word, frontier_word, cell_word, SameShelves, SameHeads, SameCells}
use Rattle.pp_link.specs.Words.{WalkStored, FrontierStored}
use Rattle.pp_rule.specs.Lists.{IsIn, OnceBy, Once}
use Rattle.pp_rule.specs.Views.{WalkSlot, PrivateRecord, Chain, PassState, halves, slot, guarding}
use Rattle.pp_rule.specs.States.{RecordState, in_hand, retired, owned, shelved, IsUsed, Keeps, SameTarget}
use Rattle.pp_rule.specs.States.{Leads, Leaves, Held, IsSmall}
use Rattle.pp_rule.specs.Rule.{Reads, number_of, guard_of, Numbers, PrivateWords, Hazards, Links, Shelves, Chains, Scans}
use Rattle.pp_rule.proofs.Put.{put, put_each, image_at, once_same}

-- the heads and the fields of used records are as they were
pub record SameUsed (z : Sizes) (status : ℕ → RecordState) (old new : List ℕ) : Type 0 where
  pub heads : SameHeads z old new
  pub cells : (n f : ℕ) → IsNumber z n → f < 5 → IsUsed (status n) → cell_word new z n f ≡ cell_word old z n f

-- all words are as they were but for hazard words
pub record SameContent (z : Sizes) (old new : List ℕ) : Type 0 where
  pub wide : length new ≡ length old
  pub shelves : SameShelves z old new
  pub heads : SameHeads z old new
  pub cells : SameCells z old new

module _ (z : Sizes) where
  pub content_used : (status : ℕ → RecordState) (old new : List ℕ) → SameContent z old new → SameUsed z status old new
  content_used status old new s = record { heads = s.heads; cells = λ n f number four used. s.cells n f number four }

  pub same_content : (words : List ℕ) → SameContent z words words
  same_content words = record { wide = refl; shelves = λ j low. refl; heads = λ h low. refl; cells = λ n f number four. refl }

  pub walk_content : (words : List ℕ) (place value p i : ℕ) → WalkStored z words (set words place value) p i value
      → SameContent z words (set words place value)
  walk_content words place value p i s = record {
    wide = length-set words place value;
    shelves = s.shelves;
    heads = s.heads;
    cells = s.cells;
  }

  pub frontier_content : (words : List ℕ) (place value p j : ℕ) → FrontierStored z words (set words place value) p j value
      → SameContent z words (set words place value)
  frontier_content words place value p j s = record {
    wide = length-set words place value;
    shelves = s.shelves;
    heads = s.heads;
    cells = s.cells;
  }

  pub held_after : (old new : List ℕ) (status : ℕ → RecordState) (w : WalkSlot) → SameUsed z status old new → Held z old status w
      → Held z new status w
  held_after old new status w s h = record {
    number = h.number;
    used = h.used;
    key = s.cells w.named 0 h.number (omega arith) h.used ∙ h.key;
    value = ap₂ halves (s.cells w.named 1 h.number (omega arith) h.used)
        (s.cells w.named 4 h.number (omega arith) h.used) ∙ h.value;
    learnt = λ l i. let was = h.learnt l i in let side : l.0 < 2 = was.0 in
        (was.0, subst (λ (n : ℕ). Keeps l.1 n) (sym (s.cells w.named (2 + l.0) h.number (omega arith) h.used)) was.1, was.2);
  }

  pub reads_after : (old new : List ℕ) (d : PrivateRecord)
      → ((f : ℕ) → f < 5 → cell_word new z d.number f ≡ cell_word old z d.number f)
      → Reads z old d → Reads z new d
  reads_after old new d same r = record {
    key = same 0 (omega arith) ∙ r.key;
    value = same 1 (omega arith) ∙ r.value;
    left = same 2 (omega arith) ∙ r.left;
    right = same 3 (omega arith) ∙ r.right;
    high = same 4 (omega arith) ∙ r.high;
  }

  pub links_after : (sides : ℕ) (old new : List ℕ) (status : ℕ → RecordState) → sides ≤ 2 → SameUsed z status old new
      → ((n p j : ℕ) → IsNumber z n → status n ≡ in_hand p j → frontier_word new z p j ≡ frontier_word old z p j)
      → Links sides z old status → Links sides z new status
  links_after sides old new status two s guards l = record {
    heads = λ h low. subst (Leads z status) (sym (s.heads h low)) (l.heads h low);
    linked = λ n side number low is. subst (Leads z status) (sym (same n side number low (subst IsUsed (sym is) tt)))
        (l.linked n side number low is);
    hand = λ n side p j number low is. subst (Leaves z new status p j) (sym (same n side number low (subst IsUsed (sym is) tt)))
        (leaves (cell_word old z n (2 + side)) p j (guards n p j number is) (l.hand n side p j number low is));
    spent = λ n side p number low is. subst (λ (w : ℕ). IsSmall w × (invalid_bit w ≡ 1)) (sym (same n side number low (subst IsUsed
        (sym is) tt)))
        (l.spent n side p number low is);
  }
    where
      same : (n side : ℕ) → IsNumber z n → side < sides → IsUsed (status n) → cell_word new z n (2 + side) ≡ cell_word old z n (2 + side)
      same n side number low used = s.cells n (2 + side) number (let most = two in omega arith) used

      leaves : (w p j : ℕ) → frontier_word new z p j ≡ frontier_word old z p j → Leaves z old status p j w → Leaves z new status p j w
      leaves w p j e was = record {
        small = was.small;
        to = subst (λ (x : ℕ). invalid_bit w ≡ 0 → (target w ≡ 0) ⊎ (IsNumber z (target w)
            × ((status (target w) ≡ in_hand p j) ⊎ ((target w ≡ x) × IsUsed (status (target w)))))) (sym e) was.to;
      }

  pub shelves_after : (old new : List ℕ) (status : ℕ → RecordState) → ((n j : ℕ) → status n ≡ shelved j → IsNumber z n → j < 8 * z.passes)
      → SameShelves z old new → Shelves z old status → Shelves z new status
  shelves_after old new status scope s was = record {
    named = λ j low. subst (λ (w : ℕ). (w ≡ 0) ⊎ (IsNumber z w × (status w ≡ shelved j))) (sym (s j low)) (was.named j low);
    home = λ n j number is. s j (scope n j is number) ∙ was.home n j number is;
  }

module _ {W : Type 0} where
  -- the lists of a pass are as they were
  pub record SameLists (q q' : PassState W) : Type 0 where
    pub owned : q'.owned ≡ q.owned
    pub retired_are : q'.retired ≡ q.retired
    pub chains : q'.chains ≡ q.chains

module _ {W : Type 0} (z : Sizes) (of : ℕ → PassState W) (p : ℕ) (q' : PassState W) where
  -- the numbers of the lists are as they were, in their order
  pub numbers_after : (status : ℕ → RecordState) → map number_of q'.owned ≡ map number_of (of p).owned → q'.retired ≡ (of p).retired
      → Numbers z of status → Numbers z (put of p q') status
  numbers_after status owned_is retired_is n = record {
    scope = n.scope;
    owned_to = λ r d low. put_each (λ (r : ℕ) (q : PassState W). r < z.passes → IsIn d q.owned
        → IsNumber z d.number × (status d.number ≡ owned r)) of p q'
        (λ here i. let was = image_at number_of (of p).owned q'.owned owned_is i.0 d i.1 in
        let old = n.owned_to p was.0 here (i.0, was.1.0) in subst (λ (m : ℕ). IsNumber z m × (status m ≡ owned p)) was.1.1 old)
        (λ r other here i. n.owned_to r d here i) r low;
    owned_from = λ r m low number is. put_each (λ (r : ℕ) (q : PassState W). r < z.passes → status m ≡ owned r
        → (d : PrivateRecord) × (IsIn d q.owned × (d.number ≡ m))) of p q'
        (λ here e. let was = n.owned_from p m here number e in
        let now = image_at number_of q'.owned (of p).owned (sym owned_is) was.1.0.0 was.0 was.1.0.1 in
        (now.0, ((was.1.0.0, now.1.0), now.1.1 ∙ was.1.1)))
        (λ r other here e. n.owned_from r m here number e) r low is;
    owned_once = put_each (λ (r : ℕ) (q : PassState W). r < z.passes → OnceBy number_of q.owned) of p q'
        (λ here. once_same number_of (of p).owned q'.owned owned_is (n.owned_once p here)) (λ r other here. n.owned_once r here);
    retired_to = λ r m low. put_each (λ (r : ℕ) (q : PassState W). r < z.passes → IsIn m q.retired
        → IsNumber z m × (status m ≡ retired r)) of p q'
        (λ here i. n.retired_to p m here (subst (λ (l : List ℕ). IsIn m l) retired_is i)) (λ r other here i. n.retired_to r m here i) r low;
    retired_from = λ r m low number is. put_each (λ (r : ℕ) (q : PassState W). r < z.passes → status m ≡ retired r
        → IsIn m q.retired) of p q'
        (λ here e. subst (λ (l : List ℕ). IsIn m l) (sym retired_is) (n.retired_from p m here number e))
        (λ r other here e. n.retired_from r m here number e) r low is;
    retired_once = put_each (λ (r : ℕ) (q : PassState W). r < z.passes → Once q.retired) of p q'
        (λ here. subst Once (sym retired_is) (n.retired_once p here)) (λ r other here. n.retired_once r here);
  }

  pub privates_after : (old new : List ℕ) → ((r : ℕ) (d : PrivateRecord) → r < z.passes → r ≢ p → IsIn d (of r).owned → Reads z new d)
      → ((d : PrivateRecord) → IsIn d q'.owned → Reads z new d) → PrivateWords z new (put of p q')
  privates_after old new others here = record {
    reads = λ r d low. put_each (λ (r : ℕ) (q : PassState W). r < z.passes → IsIn d q.owned → Reads z new d) of p q'
        (λ low i. here d i) (λ r other low i. others r d low other i) r low;
  }

  -- The words of the pass read as announced, those of the others are as they were, and what is held stays.
  pub hazards_after : (old new : List ℕ) (status : ℕ → RecordState) → SameUsed z status old new → Hazards z old of status
      → length q'.walk ≡ 5 → length q'.frontier ≡ 4
      → ((r i : ℕ) → r < z.passes → r ≢ p → i < 5 → walk_word new z r i ≡ walk_word old z r i)
      → ((i : ℕ) → i < 5 → walk_word new z p i ≡ (slot q' i).named)
      → ((r j : ℕ) → r < z.passes → r ≢ p → j < 4 → frontier_word new z r j ≡ frontier_word old z r j)
      → ((j : ℕ) → j < 4 → frontier_word new z p j ≡ guarding q' j)
      → ((i : ℕ) → i < 5 → (slot q' i).held ≡ true → Held z new status (slot q' i))
      → Hazards z new (put of p q') status
  hazards_after old new status s h five four walks walks_here fronts fronts_here held_here = record {
    five = put_each (λ (r : ℕ) (q : PassState W). r < z.passes → length q.walk ≡ 5) of p q' (λ low. five) (λ r other low. h.five r low);
    four = put_each (λ (r : ℕ) (q : PassState W). r < z.passes → length q.frontier ≡ 4) of p q' (λ low. four) (λ r other low. h.four r low);
    walks = λ r i low lt. put_each (λ (r : ℕ) (q : PassState W). r < z.passes → walk_word new z r i ≡ (slot q i).named) of p q'
        (λ low. walks_here i lt) (λ r other low. walks r i low other lt ∙ h.walks r i low lt) r low;
    frontiers = λ r j low lt. put_each (λ (r : ℕ) (q : PassState W). r < z.passes → frontier_word new z r j ≡ guarding q j) of p q'
        (λ low. fronts_here j lt) (λ r other low. fronts r j low other lt ∙ h.frontiers r j low lt) r low;
    held = λ r i low lt. put_each (λ (r : ℕ) (q : PassState W). r < z.passes → (slot q i).held ≡ true
        → Held z new status (slot q i)) of p q'
        (λ low on. held_here i lt on) (λ r other low on. held_after z old new status (slot (of r) i) s (h.held r i low lt on)) r low;
  }

  pub chains_after : (sides : ℕ) (old new : List ℕ) (status : ℕ → RecordState) → sides ≤ 2 → SameUsed z status old new
      → q'.chains ≡ (of p).chains → Chains sides z old of status → Chains sides z new (put of p q') status
  chains_after sides old new status two s chains_are was = record {
    guard = λ r c low i. was.guard r c low (old_in r c i);
    once = put_each (λ (r : ℕ) (q : PassState W). r < z.passes → OnceBy guard_of q.chains) of p q'
        (λ low. subst (OnceBy guard_of) (sym chains_are) (was.once p low)) (λ r other low. was.once r low);
    members = λ r n c low i. was.members r n c low (old_in r c i);
    members_once = λ r c low i. was.members_once r c low (old_in r c i);
    home = λ r j n low number is. let c = was.home r j n low number is in (c.0, (new_in r c.0 c.1.0, c.1.1, c.1.2));
    valid = λ r n side c low i member lt. subst (λ (w : ℕ). (invalid_bit w ≡ 1) ⊎ IsIn (n, side) c.valid)
        (sym (same n side (was.members r n c low (old_in r c i) member).0 lt (used r n c low (old_in r c i) member)))
        (was.valid r n side c low (old_in r c i) member lt);
    links = λ r c l low i link. let old_link = was.links r c l low (old_in r c i) link in (
      old_link.0,
      old_link.1,
      subst (SameTarget l.word)
          (sym (same l.number l.side (was.members r l.number c low (old_in r c i) old_link.0).0 old_link.1 (used r l.number c low
          (old_in r c i) old_link.0)))
          old_link.2,
    );
  }
    where
      old_in : (r : ℕ) (c : Chain) → IsIn c (put of p q' r).chains → IsIn c (of r).chains
      old_in r c = put_each (λ (r : ℕ) (q : PassState W). IsIn c q.chains → IsIn c (of r).chains) of p q'
          (λ i. subst (λ (l : List Chain). IsIn c l) chains_are i) (λ r other i. i) r

      new_in : (r : ℕ) (c : Chain) → IsIn c (of r).chains → IsIn c (put of p q' r).chains
      new_in r c = put_each (λ (r : ℕ) (q : PassState W). IsIn c (of r).chains → IsIn c q.chains) of p q'
          (λ i. subst (λ (l : List Chain). IsIn c l) (sym chains_are) i) (λ r other i. i) r

      used : (r n : ℕ) (c : Chain) → r < z.passes → IsIn c (of r).chains → IsIn n c.records → IsUsed (status n)
      used r n c low i member = subst IsUsed (sym (was.members r n c low i member).1) tt

      same : (n side : ℕ) → IsNumber z n → side < sides → IsUsed (status n) → cell_word new z n (2 + side) ≡ cell_word old z n (2 + side)
      same n side number lt used_is = s.cells n (2 + side) number (let most = two in omega arith) used_is

  -- No reclaim pass that has read the walk word i of this pass still has the number n.
  abbrev pub Unscanned : ℕ → ℕ → Type 0
  Unscanned i n = (r m : ℕ) → r < z.passes → IsIn m (of r).scan.left → 4 * z.passes + 5 * p + i < (of r).scan.read → n ≢ m

  -- The scans stay where what is held newly is left in no scan that read its word.
  pub scans_after : (sides : ℕ) (old new : List ℕ) (status : ℕ → RecordState) → sides ≤ 2 → SameUsed z status old new
      → q'.scan ≡ (of p).scan → ((i : ℕ) → i < 5 → (slot q' i).held ≡ true → Unscanned i (slot q' i).named)
      → Scans sides z old of status → Scans sides z new (put of p q') status
  scans_after sides old new status two s scan_is unscanned was = record {
    left = λ r n low i. was.left r n low (left_was r n i);
    left_once = put_each (λ (r : ℕ) (q : PassState W). r < z.passes → Once q.scan.left) of p q'
        (λ low. subst (λ (l : List ℕ). Once l) (sym (ap (λ c. c.left) scan_is)) (was.left_once p low)) (λ r other low. was.left_once r low);
    fronts = λ r n q j m side low i read number lt is valid to. let e = same m side number lt (subst IsUsed (sym is) tt) in
        was.fronts r n q j m side low (left_was r n i) (subst (λ (k : ℕ). 4 * q + j < k) (read_was r) read) number lt is
        (ap invalid_bit (sym e) ∙ valid) (ap target (sym e) ∙ to);
    walks = λ r n q i low left pass five read. put_each (λ (t : ℕ) (k : PassState W). t < z.passes
        → 4 * z.passes + 5 * t + i < (put of p q' r).scan.read
        → (slot k i).held ≡ true → (slot k i).named ≢ n) of p q'
        (λ low_p read on. unscanned i five on r n low (left_was r n left) (subst (λ (k : ℕ). 4 * z.passes + 5 * p + i < k)
        (read_was r) read))
        (λ t other low_t read on. was.walks r n t i low (left_was r n left) low_t five (subst (λ
        (k : ℕ). 4 * z.passes + 5 * t + i < k) (read_was r) read) on)
        q pass read;
  }
    where
      left_was : (r n : ℕ) → IsIn n (put of p q' r).scan.left → IsIn n (of r).scan.left
      left_was r n = put_each (λ (r : ℕ) (q : PassState W). IsIn n q.scan.left → IsIn n (of r).scan.left) of p q'
          (λ i. subst (λ (l : List ℕ). IsIn n l) (ap (λ c. c.left) scan_is) i) (λ r other i. i) r

      read_was : (r : ℕ) → (put of p q' r).scan.read ≡ (of r).scan.read
      read_was = put_each (λ (r : ℕ) (q : PassState W). q.scan.read ≡ (of r).scan.read) of p q' (ap (λ c. c.read) scan_is) (λ r other. refl)

      same : (n side : ℕ) → IsNumber z n → side < sides → IsUsed (status n) → cell_word new z n (2 + side) ≡ cell_word old z n (2 + side)
      same n side number lt used_is = s.cells n (2 + side) number (let most = two in omega arith) used_is
