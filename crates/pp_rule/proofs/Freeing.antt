-- A reclaim pass reads its last hazard word: what no hazard word named is free.
use Rattle.std.proofs.Common.{◌≡◌, ◌≢◌, ◌⊎◌, ℕ, ◌+◌, ◌-◌, ◌*◌, ◌<◌, true, List, [], ◌∷◌, ◌++◌, map, length, get_or, refl}
use Rattle.std.proofs.Common.{sym, ap, ◌∙◌, subst, inl, inr, ⊎_elim, arith}
use Rattle.std.proofs.Math.Bool.{false≢true}
use Rattle.std.proofs.Math.Decide.{ℕ_discrete}
use mathlib.Core.Logic.{dite}
use Rattle.atomic_table.specs.Table.{Me, Allows}
use Rattle.pp_link.specs.declared.layout.Sizes.{Sizes}
use Rattle.pp_link.specs.Links.{target, invalid_bit}
use Rattle.pp_link.specs.Places.{IsNumber, walk_place}
use Rattle.pp_link.specs.Words.{walk_word, frontier_word, cell_word}
use Rattle.pp_rule.specs.Lists.{IsIn, OnceBy, Once, without}
use Rattle.pp_rule.specs.Orders.{LoggedStep, scan_walk_step}
use Rattle.pp_rule.specs.Views.{WalkSlot, PrivateRecord, PassState, SeatView, slot}
use Rattle.pp_rule.specs.States.{RecordState, attached, in_hand, retired, owned, shelved, IsUsed, IsLinked, IsStateIn, PoolState}
use Rattle.pp_rule.specs.States.{Leads, Held}
use Rattle.pp_rule.specs.Rule.{Reads, number_of, Numbers, Hazards, Links, Chains, Base}
use Rattle.pp_rule.specs.Ties.{Holds}
use Rattle.pp_rule.specs.Steps.{entry, IsAlone, still, scanned, reclaimed, Reclaimed}
use Rattle.pp_rule.specs.Looks.{SameOwn, LooksSame}
use Rattle.pp_rule.specs.Laws.{KeptAlike}
use Rattle.pp_rule.proofs.Put.{put, put_here, put_else, put_each, in_nil, in_first, in_later, in_cases, in_left, in_right, in_either}
use Rattle.pp_rule.proofs.Slots.{same_own}
use Rattle.pp_rule.proofs.Without.{once_tail, once_head, once_cons, once_append, in_without, once_without, in_without_all}
use Rattle.pp_rule.proofs.Without.{without_all_in, once_without_all}
use Rattle.pp_rule.proofs.Stepping.{after_step, allows}
use Rattle.pp_rule.proofs.Frames.{SameUsed, content_used, same_content, privates_after, hazards_after, chains_after}
use Rattle.pp_rule.proofs.Keeping.{load_keeps}
use Rattle.pp_rule.proofs.Scanning.{still_retired, still_once, base_walk_scanned}

-- whether a number stands in the list
pub is_in : (n : ℕ) (ns : List ℕ) → IsIn n ns ⊎ (IsIn n ns → ⊥)
is_in n [] = inr (in_nil n)
is_in n (m ∷ ns) = dite (ℕ_discrete n m)
    (λ e. inl (subst (λ (k : ℕ). IsIn k (m ∷ ns)) (sym e) (in_first m ns)))
    (λ ne. ⊎_elim (λ (i : IsIn n ns). inl (in_later n m ns i))
    (λ (out : IsIn n ns → ⊥). inr (λ i. ⊎_elim ne out (in_cases n m ns i))) (is_in n ns))

-- the states after these records came to be free with a pass
unfoldable pub freeing : ℕ → List ℕ → (ℕ → RecordState) → ℕ → RecordState
freeing p [] status = status
freeing p (n ∷ ns) status = put (freeing p ns status) n (owned p)

pub freeing_in : (p : ℕ) (ns : List ℕ) (status : ℕ → RecordState) (n : ℕ) → IsIn n ns → freeing p ns status n ≡ owned p
unfolding freeing
freeing_in p [] status n i = absurd (in_nil n i)
freeing_in p (m ∷ ns) status n i = dite (ℕ_discrete n m)
    (λ e. ap (put (freeing p ns status) m (owned p)) e ∙ put_here (freeing p ns status) m (owned p))
    (λ ne. put_else (freeing p ns status) m (owned p) n ne
    ∙ freeing_in p ns status n (⊎_elim (λ (here : n ≡ m). absurd (ne here)) (λ (later : IsIn n ns). later) (in_cases n m ns i)))

pub freeing_out : (p : ℕ) (ns : List ℕ) (status : ℕ → RecordState) (n : ℕ) → (IsIn n ns → ⊥) → freeing p ns status n ≡ status n
unfolding freeing
freeing_out p [] status n out = refl
freeing_out p (m ∷ ns) status n out = put_else (freeing p ns status) m (owned p) n
    (λ e. out (subst (λ (k : ℕ). IsIn k (m ∷ ns)) (sym e) (in_first m ns)))
    ∙ freeing_out p ns status n (λ later. out (in_later n m ns later))

module _ (z : Sizes) (words : List ℕ) where
  -- a record with the words that stand in it
  abbrev pub read_record : ℕ → PrivateRecord
  read_record n = record {
    number = n;
    key = cell_word words z n 0;
    value = cell_word words z n 1;
    left = cell_word words z n 2;
    right = cell_word words z n 3;
    high = cell_word words z n 4;
  }

  pub numbers_read : (ns : List ℕ) → map number_of (map read_record ns) ≡ ns
  numbers_read [] = refl
  numbers_read (n ∷ ns) = ap (λ l. n ∷ l) (numbers_read ns)

  pub read_from : (ns : List ℕ) (d : PrivateRecord) → IsIn d (map read_record ns) → IsIn d.number ns × Reads z words d
  read_from [] d i = absurd (in_nil d i)
  read_from (n ∷ ns) d i = ⊎_elim
      (λ (here : d ≡ read_record n). subst (λ (c : PrivateRecord). IsIn c.number (n ∷ ns) × Reads z words c) (sym here)
      (in_first n ns, record { key = refl; value = refl; left = refl; right = refl; high = refl }))
      (λ (later : IsIn d (map read_record ns)). let was = read_from ns d later in (in_later d.number n ns was.0, was.1))
      (in_cases d (read_record n) (map read_record ns) i)

  pub read_in : (ns : List ℕ) (n : ℕ) → IsIn n ns → (d : PrivateRecord) × (IsIn d (map read_record ns) × (d.number ≡ n))
  read_in [] n i = absurd (in_nil n i)
  read_in (m ∷ ns) n i = ⊎_elim (λ (here : n ≡ m). (read_record m, (in_first (read_record m) (map read_record ns), sym here)))
      (λ (later : IsIn n ns). let was = read_in ns n later in (
        was.0,
        (
          in_later was.0 (read_record m)
              (map read_record ns) was.1.0,
          was.1.1,
        ),
      ))
      (in_cases n m ns i)

  pub once_read : (ns : List ℕ) → Once ns → OnceBy number_of (map read_record ns)
  once_read [] o = λ k l x y at_k at_l e. absurd (in_nil x (k, at_k))
  once_read (n ∷ ns) o = once_cons number_of (read_record n) (map read_record ns)
      (λ d i same. once_head (λ k. k) n ns o d.number (read_from ns d i).0 same) (once_read ns (once_tail (λ k. k) n ns o))

-- What stays true when the records of a list, which a pass had retired, come to be free with it. No held record and no link
-- that a frontier word guards is among them.
module _ {E A W : Type 0} (sides : ℕ) (z : Sizes) (words : List ℕ) (g : PoolState E A W) (p : ℕ) (ns : List ℕ) where
  pub record Frees : Type 0 where
    pub were : (n : ℕ) → IsIn n ns → IsNumber z n × (g.status n ≡ retired p)
    pub once : Once ns
    pub fronts : (n r j m side : ℕ) → IsIn n ns → IsNumber z m → side < sides → g.status m ≡ in_hand r j
        → invalid_bit (cell_word words z m (2 + side)) ≡ 0 → target (cell_word words z m (2 + side)) ≢ n
    pub walks : (n r i : ℕ) → IsIn n ns → r < z.passes → i < 5 → (slot (g.of r) i).held ≡ true → (slot (g.of r) i).named ≢ n

  -- a state stays but for the retired ones of the pass
  pub free_on : Frees → (n : ℕ) (st : RecordState) → g.status n ≡ st → retired p ≢ st → freeing p ns g.status n ≡ st
  free_on f n st e other = freeing_out p ns g.status n (λ i. other (sym (f.were n i).1 ∙ e)) ∙ e

  -- a state is as it was but for the free ones of the pass
  pub free_back : (n : ℕ) (st : RecordState) → freeing p ns g.status n ≡ st → owned p ≢ st → (g.status n ≡ st) × (IsIn n ns → ⊥)
  free_back n st e other = ⊎_elim (λ (i : IsIn n ns). absurd (other (sym (freeing_in p ns g.status n i) ∙ e)))
      (λ (out : IsIn n ns → ⊥). (sym (freeing_out p ns g.status n out) ∙ e, out)) (is_in n ns)

  pub free_used : (n : ℕ) → IsUsed (g.status n) → (IsIn n ns → ⊥) → IsUsed (freeing p ns g.status n)
  free_used n used out = subst IsUsed (sym (freeing_out p ns g.status n out)) used

  pub was_used : (n : ℕ) → IsUsed (freeing p ns g.status n) → IsUsed (g.status n)
  was_used n used = ⊎_elim (λ (i : IsIn n ns). absurd (subst IsUsed (freeing_in p ns g.status n i) used))
      (λ (out : IsIn n ns → ⊥). subst IsUsed (freeing_out p ns g.status n out) used) (is_in n ns)

  leads_free : Frees → (w : ℕ) → Leads z g.status w → Leads z (freeing p ns g.status) w
  leads_free f w l = record {
    small = l.small;
    valid = l.valid;
    to = ⊎_elim inl (λ (t : IsNumber z (target w) × (g.status (target w) ≡ attached)). inr (
      t.0,
      free_on f (target w) attached t.1 (λ bad. absurd cc),
    )) l.to;
  }

  pub links_free : Frees → Links sides z words g.status → Links sides z words (freeing p ns g.status)
  links_free f l = record {
    heads = λ h low. leads_free f _ (l.heads h low);
    linked = λ n side number lt is. leads_free f _ (l.linked n side number lt (free_back n attached is (λ bad. absurd cc)).0);
    hand = λ n side r j number lt is. let was : g.status n ≡ in_hand r j = (free_back n (in_hand r j) is (λ bad. absurd cc)).0 in
        let w : ℕ = cell_word words z n (2 + side) in
        let h = l.hand n side r j number lt was in record {
          small = h.small;
          to = λ valid. ⊎_elim inl
              (λ (t : IsNumber z (target w) × ((g.status (target w) ≡ in_hand r j) ⊎ ((target w ≡ frontier_word words z r j)
              × IsUsed (g.status (target w))))).
              inr (
                t.0,
                ⊎_elim (λ (inside : g.status (target w) ≡ in_hand r j). inl (free_on f (target w) (in_hand r j) inside
                    (λ bad. absurd cc)))
                    (λ (out : (target w ≡ frontier_word words z r j) × IsUsed (g.status (target w))). inr (
                      out.0,
                      free_used (target w) out.1 (λ i. f.fronts (target w) r j n side i number lt was valid refl),
                    )) t.1,
              )) (h.to valid);
        };
    spent = λ n side r number lt is. l.spent n side r number lt (free_back n (retired r) is (λ bad. absurd cc)).0;
  }

  pub hazards_free : Frees → Hazards z words g.of g.status → Hazards z words g.of (freeing p ns g.status)
  hazards_free f h = record {
    five = h.five;
    four = h.four;
    walks = h.walks;
    frontiers = h.frontiers;
    held = λ r i low five on. let was = h.held r i low five on in record {
      number = was.number;
      used = free_used (slot (g.of r) i).named was.used (λ m. f.walks (slot (g.of r) i).named r i m low five on refl);
      key = was.key;
      value = was.value;
      learnt = was.learnt;
    };
  }

  pub chains_free : Frees → Chains sides z words g.of g.status → Chains sides z words g.of (freeing p ns g.status)
  chains_free f c = record {
    guard = c.guard;
    once = c.once;
    members = λ r n d low i m. let was = c.members r n d low i m in (was.0, free_on f n (in_hand r d.guard) was.1 (λ bad. absurd cc));
    members_once = c.members_once;
    home = λ r j n low number is. c.home r j n low number (free_back n (in_hand r j) is (λ bad. absurd cc)).0;
    valid = c.valid;
    links = c.links;
  }

  -- the lists of the passes, where the pass has these records free and its other retired ones stay
  pub numbers_free : (q q' : PassState W) → Frees → Numbers z g.of g.status → p < z.passes → g.of p ≡ q
      → q'.owned ≡ q.owned ++ map (read_record z words) ns → OnceBy number_of q'.owned
      → Once q'.retired → ((n : ℕ) → IsIn n q'.retired → IsIn n q.retired × (IsIn n ns → ⊥))
      → ((n : ℕ) → IsIn n q.retired → (IsIn n ns → ⊥) → IsIn n q'.retired)
      → Numbers z (put g.of p q') (freeing p ns g.status)
  numbers_free q q' f b pass is owned_is owned_once retired_once retired_was retired_on =
      let freed : List PrivateRecord = map (read_record z words) ns in record {
        scope = λ n number. ⊎_elim (λ (i : IsIn n ns). subst (IsStateIn z) (sym (freeing_in p ns g.status n i)) pass)
            (λ (out : IsIn n ns → ⊥). subst (IsStateIn z) (sym (freeing_out p ns g.status n out)) (b.scope n number)) (is_in n ns);
        owned_to = λ r d low. put_each (λ (r : ℕ) (v : PassState W). r < z.passes → IsIn d v.owned
            → IsNumber z d.number × (freeing p ns g.status d.number ≡ owned r)) g.of p q'
            (λ low i. ⊎_elim
            (λ (old : IsIn d q.owned). let was = b.owned_to p d pass (subst (λ (v : PassState W). IsIn d v.owned) (sym is) old) in
            (was.0, free_on f d.number (owned p) was.1 (λ bad. absurd cc)))
            (λ (new : IsIn d freed). let m = (read_from z words ns d new).0 in
            ((f.were d.number m).0, freeing_in p ns g.status d.number m))
            (in_either d q.owned freed (subst (λ (l : List PrivateRecord). IsIn d l) owned_is i)))
            (λ r other low i. let was = b.owned_to r d low i in (was.0, free_on f d.number (owned r) was.1 (λ bad. absurd cc))) r low;
        owned_from = λ r n low number. put_each (λ (r : ℕ) (v : PassState W). r < z.passes → freeing p ns g.status n ≡ owned r
            → (d : PrivateRecord) × (IsIn d v.owned × (d.number ≡ n))) g.of p q'
            (λ low e. subst (λ (l : List PrivateRecord). (d : PrivateRecord) × (IsIn d l × (d.number ≡ n))) (sym owned_is)
            (⊎_elim (λ (i : IsIn n ns). let d = read_in z words ns n i in (d.0, (in_right d.0 q.owned freed d.1.0, d.1.1)))
            (λ (out : IsIn n ns → ⊥). let was = b.owned_from p n low number (sym (freeing_out p ns g.status n out) ∙ e) in
            (was.0, (in_left was.0 q.owned freed (subst (λ (v : PassState W). IsIn was.0 v.owned) is was.1.0), was.1.1))) (is_in n ns)))
            (λ r other low e. b.owned_from r n low number (free_back n (owned r) e (λ bad. other cc)).0) r low;
        owned_once = put_each (λ (r : ℕ) (v : PassState W). r < z.passes → OnceBy number_of v.owned) g.of p q'
            (λ low. owned_once) (λ r other low. b.owned_once r low);
        retired_to = λ r n low. put_each (λ (r : ℕ) (v : PassState W). r < z.passes → IsIn n v.retired
            → IsNumber z n × (freeing p ns g.status n ≡ retired r)) g.of p q'
            (λ low i. let old = retired_was n i in
            let was = b.retired_to p n pass (subst (λ (v : PassState W). IsIn n v.retired) (sym is) old.0) in
            (was.0, freeing_out p ns g.status n old.1 ∙ was.1))
            (λ r other low i. let was = b.retired_to r n low i in (was.0, free_on f n (retired r) was.1 (λ bad. other cc))) r low;
        retired_from = λ r n low number. put_each (λ (r : ℕ) (v : PassState W). r < z.passes → freeing p ns g.status n ≡ retired r
            → IsIn n v.retired) g.of p q'
            (λ low e. let was = free_back n (retired p) e (λ bad. absurd cc) in
            retired_on n (subst (λ (v : PassState W). IsIn n v.retired) is (b.retired_from p n low number was.0)) was.1)
            (λ r other low e. b.retired_from r n low number (free_back n (retired r) e (λ bad. absurd cc)).0) r low;
        retired_once = put_each (λ (r : ℕ) (v : PassState W). r < z.passes → Once v.retired) g.of p q'
            (λ low. retired_once) (λ r other low. b.retired_once r low);
      }

module _ {E A W : Type 0} (sides : ℕ) (z : Sizes) (words : List ℕ) (g : PoolState E A W) (q : PassState W) where
  abbrev pub last_word : ℕ
  last_word = walk_word words z (z.passes - 1) 4

  abbrev pub unnamed : List ℕ
  unnamed = without last_word (still q)

  abbrev pub freed_records : List PrivateRecord
  freed_records = map (read_record z words) unnamed

  -- what no hazard word named may be freed
  frees_unnamed : Base sides z words g → q.number < z.passes → g.of q.number ≡ q → q.scan.read + 1 ≡ 9 * z.passes
      → (s : LoggedStep E A) → Frees sides z words g q.number unnamed
  frees_unnamed b pass is full s =
      let p : ℕ = q.number in
      let q' : PassState W = scanned last_word q in
      let after : Base sides z words (after_step g q' g.status s) = base_walk_scanned sides z words g q (z.passes - 1) 4 s b pass is
      (omega arith) (omega arith) (omega arith) in
      let here : put g.of p q' p ≡ q' = put_here g.of p q' in
      let slots : (r i : ℕ) → slot (put g.of p q' r) i ≡ slot (g.of r) i =
      λ r i. put_each (λ (r : ℕ) (v : PassState W). slot v i ≡ slot (g.of r) i) g.of p q' (ap (λ (v : PassState W). slot v i)
      (sym is)) (λ r other. refl) r in record {
        were = λ n i. still_retired sides z words g q b pass is n (in_without last_word n (still q) i).0;
        once = once_without last_word (still q) (still_once sides z words g q b pass is);
        fronts = λ n r j m side i number lt hand. let scope : (r < z.passes) × (j < 4) = subst (IsStateIn z) hand
            (b.numbers.scope m number) in
            let low : r < z.passes = scope.0 in
            let four : j < 4 = scope.1 in
            after.scans.fronts p n r j m side pass (subst (λ (v : PassState W). IsIn n v.scan.left) (sym here) i)
            (subst (λ (v : PassState W). 4 * r + j < v.scan.read) (sym here) (omega arith)) number lt hand;
        walks = λ n r i m low five on same. after.scans.walks p n r i pass (subst (λ (v : PassState W). IsIn n v.scan.left)
            (sym here) m) low five
            (subst (λ (v : PassState W). 4 * z.passes + 5 * r + i < v.scan.read) (sym here) (omega arith))
            (subst (λ (w : WalkSlot). w.held ≡ true) (sym (slots r i)) on) (subst (λ (w : WalkSlot). w.named ≡ n) (sym (slots r i)) same);
      }

  -- The reclaim pass read its last word. What is left is free with the pass. The last load alone keeps the facts with all words
  -- read, so nothing holds a freed record and no link of a record in hand leads to it; and it was retired, so no other link does.
  pub base_freed : Base sides z words g → q.number < z.passes → g.of q.number ≡ q → q.scan.read + 1 ≡ 9 * z.passes → (s : LoggedStep E A)
      → Base sides z words (after_step g (reclaimed last_word freed_records q) (freeing q.number unnamed g.status) s)
  base_freed b pass is full s =
      let p : ℕ = q.number in
      let q' : PassState W = reclaimed last_word freed_records q in
      let status : ℕ → RecordState = freeing p unnamed g.status in
      let f : Frees sides z words g p unnamed = frees_unnamed b pass is full s in
      let used : SameUsed z status words words = content_used z status words words (same_content z words) in
      let hazards : Hazards z words g.of status = hazards_free sides z words g p unnamed f b.hazards in
      let slots : (r i : ℕ) → slot (put g.of p q' r) i ≡ slot (g.of r) i =
      λ r i. put_each (λ (r : ℕ) (v : PassState W). slot v i ≡ slot (g.of r) i) g.of p q' (ap (λ (v : PassState W). slot v i)
      (sym is)) (λ r other. refl) r in record {
        within = b.within;
        two = b.two;
        wide = b.wide;
        numbers = numbers_free sides z words g p unnamed q q' f b.numbers pass is refl
            (once_append number_of q.owned freed_records (subst (λ (v : PassState W). OnceBy number_of v.owned) is
            (b.numbers.owned_once p pass))
            (once_read z words unnamed f.once)
            (λ x y i j same. let mine = b.numbers.owned_to p x pass (subst (λ (v : PassState W). IsIn x v.owned) (sym is) i) in
            let gone = f.were y.number (read_from z words unnamed y j).0 in
            let bad : owned p ≡ retired p = sym mine.1 ∙ (ap g.status same ∙ gone.1) in absurd cc))
            (once_without_all unnamed q.retired (subst (λ (v : PassState W). Once v.retired) is (b.numbers.retired_once p pass)))
            (λ n i. in_without_all unnamed n q.retired i) (λ n i out. without_all_in unnamed n q.retired i out);
        privates = privates_after z g.of p q' words words (λ r d low other i. b.privates.reads r d low i)
            (λ d i. ⊎_elim (λ (old : IsIn d q.owned). b.privates.reads p d pass (subst (λ (v : PassState W). IsIn d v.owned)
            (sym is) old))
            (λ (new : IsIn d freed_records). (read_from z words unnamed d new).1) (in_either d q.owned freed_records i));
        hazards = hazards_after z g.of p q' words words status used hazards (ap (λ v. length v.walk) (sym is) ∙ hazards.five p pass)
            (ap (λ v. length v.frontier) (sym is) ∙ hazards.four p pass)
            (λ r i low other five. refl) (λ i five. hazards.walks p i pass five ∙ ap (λ (v : PassState W). (slot v i).named) is)
            (λ r j low other four. refl) (λ j four. hazards.frontiers p j pass four ∙ ap (λ (v : PassState W). get_or v.frontier j 0) is)
            (λ i five. subst (λ (v : PassState W). (slot v i).held ≡ true → Held z words status (slot v i)) is
            (hazards.held p i pass five));
        links = links_free sides z words g p unnamed f b.links;
        shelves = record {
          named = λ j low. ⊎_elim inl (λ t. inr (t.0, free_on sides z words g p unnamed f _ (shelved j) t.1 (λ bad. absurd cc)))
              (b.shelves.named j low);
          home = λ n j number e. b.shelves.home n j number (free_back sides z words g p unnamed n (shelved j) e (λ bad. absurd cc)).0;
        };
        chains = chains_after z g.of p q' sides words words status b.two used (ap (λ v. v.chains) (sym is))
            (chains_free sides z words g p unnamed f b.chains);
        scans = record {
          left = λ r n low. put_each (λ (r : ℕ) (v : PassState W). r < z.passes → IsIn n v.scan.left → IsNumber z n ×
              (status n ≡ retired r)) g.of p q'
              (λ low i. absurd (in_nil n i))
              (λ r other low i. let was = b.scans.left r n low i in
              (was.0, free_on sides z words g p unnamed f n (retired r) was.1 (λ bad. other cc))) r low;
          left_once = put_each (λ (r : ℕ) (v : PassState W). r < z.passes → Once v.scan.left) g.of p q'
              (λ low k l x y at_k at_l same. absurd (in_nil x (k, at_k))) (λ r other low. b.scans.left_once r low);
          fronts = λ t n r j m side low left read number lt hand valid. put_each (λ (t : ℕ) (v : PassState W). t < z.passes
              → IsIn n v.scan.left
              → 4 * r + j < v.scan.read → target (cell_word words z m (2 + side)) ≢ n) g.of p q'
              (λ low i below. absurd (in_nil n i))
              (λ t other low i below. b.scans.fronts t n r j m side low i below number lt
              (free_back sides z words g p unnamed m (in_hand r j) hand (λ bad. absurd cc)).0 valid) t low left read;
          walks = λ t n r i low left pass_r five read on same. put_each (λ (t : ℕ) (v : PassState W). t < z.passes → IsIn n v.scan.left
              → 4 * z.passes + 5 * r + i < v.scan.read → (slot (g.of r) i).held ≡ true → (slot (g.of r) i).named ≢ n) g.of p q'
              (λ low m below held. absurd (in_nil n m))
              (λ t other low m below held. b.scans.walks t n r i low m pass_r five below held) t low left read
              (subst (λ (w : WalkSlot). w.held ≡ true) (slots r i) on) (subst (λ (w : WalkSlot). w.named ≡ n) (slots r i) same);
        };
      }

  -- what a shape sees of it
  pub looks_freed : Base sides z words g → q.number < z.passes → g.of q.number ≡ q → q.scan.read + 1 ≡ 9 * z.passes → (s : LoggedStep E A)
      → s.entry.changes ≡ [] → s.placed ≡ []
      → LooksSame z words words g (after_step g (reclaimed last_word freed_records q) (freeing q.number unnamed g.status) s)
  looks_freed b pass is full s no_change no_call =
      let p : ℕ = q.number in
      let q' : PassState W = reclaimed last_word freed_records q in
      let f : Frees sides z words g p unnamed = frees_unnamed b pass is full s in record {
        seen = record {
          heads = λ h low. refl;
          cells = λ n k number four used. refl;
          attached_on = λ n e. free_on sides z words g p unnamed f n attached e (λ bad. absurd cc);
          linked_was = λ n linked. ⊎_elim (λ (i : IsIn n unnamed). absurd (subst IsLinked (freeing_in p unnamed g.status n i) linked))
              (λ (out : IsIn n unnamed → ⊥). freeing_out p unnamed g.status n out) (is_in n unnamed);
          used_was = was_used sides z words g p unnamed;
          order = record { step = s; is = refl; no_change = no_change; no_call = no_call };
        };
        passes = λ r low. put_each (λ (r : ℕ) (v : PassState W). SameOwn (g.of r) v) g.of p q'
            (same_own (g.of p) q' (ap (λ v. v.own) (sym is)) (ap (λ v. v.walk) (sym is))) (λ r other. same_own (g.of r)
            (g.of r) refl refl) r;
      }

module _ {E A W : Type 0} (sides : ℕ) (opens : Sizes → List ℕ) (addition : Sizes → List ℕ → PoolState E A W → Type 0) where
  -- A reclaim pass may read the last walk word, and what no hazard word named is free.
  pub frees_retired : KeptAlike sides addition → (z : Sizes) (slots id place : ℕ) (me : Me Unit (SeatView E A W)) → IsAlone me
      → me.0.known.scan.read + 1 ≡ 9 * z.passes → place ≡ walk_place z (z.passes - 1) 4
      → Allows (Holds sides opens addition z) slots id me place (λ n. n) (λ n m'. (m'.1 ≡ []) × Reclaimed n place me.0 m'.0)
  unfolding walk_word
  frees_retired alike z slots id place me lone full at = let q : PassState W = me.0.known in
      allows sides opens addition z slots id place scan_walk_step me (λ n. n) (λ n. n) (λ n m'. (m'.1 ≡ []) × Reclaimed n place me.0 m'.0)
      lone (λ m no. refl) (λ m bad. absurd (false≢true bad)) (λ m _. refl)
      (λ words g b add pass is sizes fits. let n : ℕ = get_or words place 0 in
      let found : n ≡ walk_word words z (z.passes - 1) 4 = ap (λ (k : ℕ). get_or words k 0) at in
      let ns : List ℕ = without n (still q) in
      let freed : List PrivateRecord = map (read_record z words) ns in
      let q' : PassState W = reclaimed n freed q in
      let status : ℕ → RecordState = freeing q.number ns g.status in
      let e : LoggedStep E A = entry scan_walk_step place n n [] [] g.order q' in
      let b' : Base sides z words (after_step g q' status e) = subst (λ (k : ℕ). Base sides z words (after_step g
      (reclaimed k (map (read_record z words) (without k (still q))) q) (freeing q.number (without k (still q)) g.status) e)) (sym found)
      (base_freed sides z words g q b pass is full e) in
      let looks : LooksSame z words words g (after_step g q' status e) = subst (λ (k : ℕ). LooksSame z words words g (after_step g
      (reclaimed k (map (read_record z words) (without k (still q))) q) (freeing q.number (without k (still q)) g.status) e)) (sym found)
      (looks_freed sides z words g q b pass is full e refl refl) in record {
        known = q';
        status = status;
        changes = [];
        placed = [];
        keeps_rule = load_keeps sides opens addition scan_walk_step place z words g q q' status [] [] refl sizes b'
            (alike z words words g (after_step g q' status e) b b' looks add);
        tells = λ v is_now made. (refl, record { freed = freed; numbers = numbers_read z words ns; made = made });
      })
