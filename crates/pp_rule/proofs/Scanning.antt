-- A reclaim pass reads a hazard word: the numbers that it named are no longer left.
use Rattle.std.proofs.Common.{◌≡◌, ◌≢◌, ◌⊎◌, ℕ, ◌+◌, ◌*◌, ◌<◌, ◌≤◌, Bool, true, cond, List, [], length, get_or, refl, sym, ap}
use Rattle.std.proofs.Common.{◌∙◌, subst, ⊎_elim, arith, eq-eqb, ne_eqb}
use Rattle.std.proofs.Math.Bool.{false≢true}
use Rattle.std.proofs.Math.Decide.{ℕ_discrete}
use mathlib.Core.Logic.{dite}
use Rattle.atomic_table.specs.Table.{Me, Allows}
use Rattle.pp_link.specs.declared.layout.Sizes.{Sizes}
use Rattle.pp_link.specs.Links.{target, invalid_bit}
use Rattle.pp_link.specs.Places.{IsNumber, walk_place, frontier_place}
use Rattle.pp_link.specs.Words.{walk_word, frontier_word, cell_word}
use Rattle.pp_rule.specs.Lists.{IsIn, Once}
use Rattle.pp_rule.specs.Orders.{LoggedStep, scan_frontier_step, scan_walk_step}
use Rattle.pp_rule.specs.Views.{WalkSlot, PassState, SeatView, slot}
use Rattle.pp_rule.specs.States.{in_hand, retired, IsUsed, IsStateIn, PoolState, Held}
use Rattle.pp_rule.specs.Rule.{Base}
use Rattle.pp_rule.specs.Ties.{Holds}
use Rattle.pp_rule.specs.Steps.{entry, IsAlone, MadeQuietStep, still, scanned}
use Rattle.pp_rule.specs.Laws.{KeptAlike}
use Rattle.pp_rule.proofs.Put.{put, put_each}
use Rattle.pp_rule.proofs.Slots.{same_own}
use Rattle.pp_rule.proofs.Without.{in_without, once_without}
use Rattle.pp_rule.proofs.Stepping.{after_step, Plays, allows}
use Rattle.pp_rule.proofs.Frames.{SameUsed, content_used, same_content, hazards_after}
use Rattle.pp_rule.proofs.Keeping.{base_after, looks_after, load_keeps}

module _ {W : Type 0} where
  still_first : (q : PassState W) → q.scan.read ≡ 0 → still q ≡ q.retired
  still_first q e = ap (λ (b : Bool). cond b q.retired q.scan.left) (eq-eqb q.scan.read 0 e)

  still_later : (q : PassState W) → q.scan.read ≢ 0 → still q ≡ q.scan.left
  still_later q ne = ap (λ (b : Bool). cond b q.retired q.scan.left) (ne_eqb q.scan.read 0 ne)

module _ {E A W : Type 0} (sides : ℕ) (z : Sizes) (words : List ℕ) (g : PoolState E A W) (q : PassState W) where
  -- what a reclaim pass still has was retired by its pass
  pub still_retired : Base sides z words g → q.number < z.passes → g.of q.number ≡ q → (n : ℕ) → IsIn n (still q)
      → IsNumber z n × (g.status n ≡ retired q.number)
  still_retired b pass is n i = dite (ℕ_discrete q.scan.read 0)
      (λ e. b.numbers.retired_to q.number n pass (subst (λ (l : List ℕ). IsIn n l) (still_first q e ∙ ap (λ v. v.retired) (sym is)) i))
      (λ ne. b.scans.left q.number n pass (subst (λ (l : List ℕ). IsIn n l) (still_later q ne ∙ ap (λ v. v.scan.left) (sym is)) i))

  pub still_once : Base sides z words g → q.number < z.passes → g.of q.number ≡ q → Once (still q)
  still_once b pass is = dite (ℕ_discrete q.scan.read 0)
      (λ e. subst (λ (l : List ℕ). Once l) (ap (λ v. v.retired) is ∙ sym (still_first q e)) (b.numbers.retired_once q.number pass))
      (λ ne. subst (λ (l : List ℕ). Once l) (ap (λ v. v.scan.left) is ∙ sym (still_later q ne)) (b.scans.left_once q.number pass))

  -- once a word is read, what is still there was left before
  still_left : g.of q.number ≡ q → (n k : ℕ) → k < q.scan.read → IsIn n (still q) → IsIn n (g.of q.number).scan.left
  still_left is n k read i = subst (λ (l : List ℕ). IsIn n l) (still_later q (λ none. absurd (omega arith)) ∙ ap (λ v. v.scan.left)
      (sym is)) i

  -- The reclaim pass of a pass read one more hazard word. Where that is a frontier word, no link that it guards leads to what is
  -- left now. Where it is a walk word, nothing that is left now is held in it.
  pub base_scanned : (found : ℕ) (s : LoggedStep E A) → Base sides z words g → q.number < z.passes → g.of q.number ≡ q
      → ((n r j m side : ℕ) → IsIn n (still q) → n ≢ found → 4 * r + j ≡ q.scan.read → IsNumber z m → side < sides
      → g.status m ≡ in_hand r j
      → invalid_bit (cell_word words z m (2 + side)) ≡ 0 → target (cell_word words z m (2 + side)) ≢ n)
      → ((n r i : ℕ) → IsIn n (still q) → n ≢ found → r < z.passes → i < 5 → 4 * z.passes + 5 * r + i ≡ q.scan.read
      → (slot (g.of r) i).held ≡ true → (slot (g.of r) i).named ≢ n)
      → Base sides z words (after_step g (scanned found q) g.status s)
  base_scanned found s b pass is fronts walks =
      let p : ℕ = q.number in
      let q' : PassState W = scanned found q in
      let used : SameUsed z g.status words words = content_used z g.status words words (same_content z words) in
      let slots : (r i : ℕ) → slot (put g.of p q' r) i ≡ slot (g.of r) i =
      λ r i. put_each (λ (r : ℕ) (v : PassState W). slot v i ≡ slot (g.of r) i) g.of p q' (ap (λ (v : PassState W). slot v i)
      (sym is)) (λ r other. refl) r in
      base_after sides z words words g q' s b (same_content z words) pass
      record { owned = ap (λ v. v.owned) (sym is); retired_are = ap (λ v. v.retired) (sym is); chains = ap (λ v. v.chains) (sym is) }
      (λ n r j number hand. refl)
      (hazards_after z g.of p q' words words g.status used b.hazards (ap (λ v. length v.walk) (sym is) ∙ b.hazards.five p pass)
      (ap (λ v. length v.frontier) (sym is) ∙ b.hazards.four p pass)
      (λ r i low other five. refl) (λ i five. b.hazards.walks p i pass five ∙ ap (λ (v : PassState W). (slot v i).named) is)
      (λ r j low other four. refl) (λ j four. b.hazards.frontiers p j pass four ∙ ap (λ (v : PassState W). get_or v.frontier j 0) is)
      (λ i five. subst (λ (v : PassState W). (slot v i).held ≡ true → Held z words g.status (slot v i)) is
      (b.hazards.held p i pass five)))
      record {
        left = λ r n low. put_each (λ (r : ℕ) (v : PassState W). r < z.passes → IsIn n v.scan.left → IsNumber z n ×
            (g.status n ≡ retired r)) g.of p q'
            (λ low i. still_retired b pass is n (in_without found n (still q) i).0) (λ r other low i. b.scans.left r n low i) r low;
        left_once = put_each (λ (r : ℕ) (v : PassState W). r < z.passes → Once v.scan.left) g.of p q'
            (λ low. once_without found (still q) (still_once b pass is)) (λ r other low. b.scans.left_once r low);
        fronts = λ t n r j m side low left read number lt hand valid. put_each (λ (t : ℕ) (v : PassState W). t < z.passes
            → IsIn n v.scan.left
            → 4 * r + j < v.scan.read → target (cell_word words z m (2 + side)) ≢ n) g.of p q'
            (λ low i below. let was = in_without found n (still q) i in dite (ℕ_discrete (4 * r + j) q.scan.read)
            (λ e. fronts n r j m side was.0 was.1 e number lt hand valid)
            (λ ne. let under : 4 * r + j < q.scan.read = omega arith in b.scans.fronts p n r j m side pass (still_left is n
            (4 * r + j) under was.0)
            (subst (λ (v : PassState W). 4 * r + j < v.scan.read) (sym is) under) number lt hand valid))
            (λ t other low i below. b.scans.fronts t n r j m side low i below number lt hand valid) t low left read;
        walks = λ t n r i low left pass_r five read on same. put_each (λ (t : ℕ) (v : PassState W). t < z.passes → IsIn n v.scan.left
            → 4 * z.passes + 5 * r + i < v.scan.read → (slot (g.of r) i).held ≡ true → (slot (g.of r) i).named ≢ n) g.of p q'
            (λ low m below held. let was = in_without found n (still q) m in dite (ℕ_discrete (4 * z.passes + 5 * r + i) q.scan.read)
            (λ e. walks n r i was.0 was.1 pass_r five e held)
            (λ ne. let under : 4 * z.passes + 5 * r + i < q.scan.read = omega arith in
            b.scans.walks p n r i pass (still_left is n (4 * z.passes + 5 * r + i) under was.0) pass_r five
            (subst (λ (v : PassState W). 4 * z.passes + 5 * r + i < v.scan.read) (sym is) under) held))
            (λ t other low m below held. b.scans.walks t n r i low m pass_r five below held) t low left read
            (subst (λ (w : WalkSlot). w.held ≡ true) (slots r i) on) (subst (λ (w : WalkSlot). w.named ≡ n) (slots r i) same);
      }

  -- It read the frontier word j of the pass r.
  pub base_frontier_scanned : (r j : ℕ) (s : LoggedStep E A) → Base sides z words g → q.number < z.passes → g.of q.number ≡ q
      → r < z.passes → j < 4 → q.scan.read ≡ 4 * r + j
      → Base sides z words (after_step g (scanned (frontier_word words z r j) q) g.status s)
  base_frontier_scanned r j s b pass is low four read = base_scanned (frontier_word words z r j) s b pass is
      (λ n t k m side i other at number lt hand valid to.
      let gone : IsNumber z n × (g.status n ≡ retired q.number) = still_retired b pass is n i in
      let one : 1 ≤ n = gone.0.0 in
      let scope : (t < z.passes) × (k < 4) = subst (IsStateIn z) hand (b.numbers.scope m number) in
      let k4 : k < 4 = scope.1 in
      let same_pass : t ≡ r = omega arith in
      let same_word : k ≡ j = omega arith in
      let w : ℕ = cell_word words z m (2 + side) in
      ⊎_elim (λ (nil : target w ≡ 0). absurd (omega arith))
      (λ (far : IsNumber z (target w) × ((g.status (target w) ≡ in_hand t k) ⊎ ((target w ≡ frontier_word words z t k) × IsUsed
      (g.status (target w))))).
      ⊎_elim (λ (inside : g.status (target w) ≡ in_hand t k). let bad : in_hand t k ≡ retired q.number = sym inside ∙
      (ap g.status to ∙ gone.1) in absurd cc)
      (λ (out : (target w ≡ frontier_word words z t k) × IsUsed (g.status (target w))). other (sym to ∙ (out.0
      ∙ (ap (λ (a : ℕ). frontier_word words z a k) same_pass ∙ ap (λ (a : ℕ). frontier_word words z r a) same_word)))) far.1)
      ((b.links.hand m side t k number lt hand).to valid))
      (λ n t i m other below five at on same. absurd (omega arith))

  -- It read the walk word i of the pass r.
  pub base_walk_scanned : (r i : ℕ) (s : LoggedStep E A) → Base sides z words g → q.number < z.passes → g.of q.number ≡ q
      → r < z.passes → i < 5 → q.scan.read ≡ 4 * z.passes + 5 * r + i
      → Base sides z words (after_step g (scanned (walk_word words z r i) q) g.status s)
  base_walk_scanned r i s b pass is low five read = base_scanned (walk_word words z r i) s b pass is
      (λ n t k m side left other at number lt hand valid to.
      let scope : (t < z.passes) × (k < 4) = subst (IsStateIn z) hand (b.numbers.scope m number) in
      let low_t : t < z.passes = scope.0 in
      let k4 : k < 4 = scope.1 in absurd (omega arith))
      (λ n t k left other below k5 at on same.
      let same_pass : t ≡ r = omega arith in
      let same_word : k ≡ i = omega arith in
      other (sym same ∙ (sym (b.hazards.walks t k below k5) ∙ (ap (λ (a : ℕ). walk_word words z a k) same_pass ∙ ap (λ
      (a : ℕ). walk_word words z r a) same_word))))

module _ {E A W : Type 0} (sides : ℕ) (opens : Sizes → List ℕ) (addition : Sizes → List ℕ → PoolState E A W → Type 0)
    (alike : KeptAlike sides addition) where
  -- What a load of a reclaim pass owes, from the facts of every pool after it.
  scan_plays : (kind place : ℕ) (z : Sizes) (words : List ℕ) (g : PoolState E A W) (v : SeatView E A W) → Base sides z words g
      → addition z words g
      → g.of v.known.number ≡ v.known → v.known.sizes ≡ z
      → ((s : LoggedStep E A) → Base sides z words (after_step g (scanned (get_or words place 0) v.known) g.status s))
      → Plays sides opens addition kind place (get_or words place 0) (get_or words place 0) z words g v
      (λ m. (m.1 ≡ []) × MadeQuietStep kind place (get_or words place 0) (get_or words place 0) (scanned
      (get_or words place 0) v.known) v m.0)
  scan_plays kind place z words g v b add is sizes after = let n : ℕ = get_or words place 0 in
      let q : PassState W = v.known in
      let q' : PassState W = scanned n q in
      let e : LoggedStep E A = entry kind place n n [] [] g.order q' in record {
        known = q';
        status = g.status;
        changes = [];
        placed = [];
        keeps_rule = load_keeps sides opens addition kind place z words g q q' g.status [] [] refl sizes (after e)
            (alike z words words g (after_step g q' g.status e) b (after e) (looks_after sides z words words g q' e
            (content_used z g.status words words (same_content z words)) refl refl
            (same_own (g.of q.number) q' (ap (λ v. v.own) (sym is)) (ap (λ v. v.walk) (sym is)))) add);
        tells = λ w is_now made. (refl, made);
      }

  -- A reclaim pass may read the next frontier word.
  pub scans_frontier : (z : Sizes) (slots id place r j : ℕ) (me : Me Unit (SeatView E A W)) → IsAlone me → r < z.passes → j < 4
      → me.0.known.scan.read ≡ 4 * r + j → place ≡ frontier_place z r j
      → Allows (Holds sides opens addition z) slots id me place (λ n. n)
      (λ n m'. (m'.1 ≡ []) × MadeQuietStep scan_frontier_step place n n (scanned n me.0.known) me.0 m'.0)
  unfolding frontier_word
  scans_frontier z slots id place r j me lone low four read at = allows sides opens addition z slots id place scan_frontier_step me
      (λ n. n) (λ n. n)
      (λ n m'. (m'.1 ≡ []) × MadeQuietStep scan_frontier_step place n n (scanned n me.0.known) me.0 m'.0)
      lone (λ m no. refl) (λ m bad. absurd (false≢true bad)) (λ m _. refl)
      (λ words g b add pass is sizes fits. scan_plays scan_frontier_step place z words g me.0 b add is sizes
      (λ s. subst (λ (k : ℕ). Base sides z words (after_step g (scanned (get_or words k 0) me.0.known) g.status s)) (sym at)
      (base_frontier_scanned sides z words g me.0.known r j s b pass is low four read)))

  -- It may read the next walk word.
  pub scans_walk : (z : Sizes) (slots id place r i : ℕ) (me : Me Unit (SeatView E A W)) → IsAlone me → r < z.passes → i < 5
      → me.0.known.scan.read ≡ 4 * z.passes + 5 * r + i → place ≡ walk_place z r i
      → Allows (Holds sides opens addition z) slots id me place (λ n. n)
      (λ n m'. (m'.1 ≡ []) × MadeQuietStep scan_walk_step place n n (scanned n me.0.known) me.0 m'.0)
  unfolding walk_word
  scans_walk z slots id place r i me lone low five read at = allows sides opens addition z slots id place scan_walk_step me (λ n. n)
      (λ n. n)
      (λ n m'. (m'.1 ≡ []) × MadeQuietStep scan_walk_step place n n (scanned n me.0.known) me.0 m'.0)
      lone (λ m no. refl) (λ m bad. absurd (false≢true bad)) (λ m _. refl)
      (λ words g b add pass is sizes fits. scan_plays scan_walk_step place z words g me.0 b add is sizes
      (λ s. subst (λ (k : ℕ). Base sides z words (after_step g (scanned (get_or words k 0) me.0.known) g.status s)) (sym at)
      (base_walk_scanned sides z words g me.0.known r i s b pass is low five read)))
