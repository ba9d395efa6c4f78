-- A walk word of a pass gets another slot: the facts of every pool after it. The stores to walk words, and the loads of the
-- key and the value of a held record and of links.
use Rattle.std.proofs.Common.{◌≡◌, ℕ, ◌<◌, true, false, List, [], length, get_or, set}
use Rattle.std.proofs.Common.{refl, sym, ap, ◌∙◌, subst, arith}
use Rattle.std.proofs.Math.Bool.{false≢true}
use Rattle.atomic_table.specs.Table.{Me, Allows}
use Rattle.pp_link.specs.declared.layout.Sizes.{Sizes}
use Rattle.pp_link.specs.Places.{walk_place, cell_place}
use Rattle.pp_link.specs.Words.{walk_word, frontier_word, cell_word}
use Rattle.pp_link.proofs.Stores.{walk_stored}
use Rattle.pp_rule.specs.Orders.{LoggedStep, announce_step, clear_step, read_step}
use Rattle.pp_rule.specs.Views.{Halves, WalkSlot, naming, PassState, SeatView, slot}
use Rattle.pp_rule.specs.States.{PoolState, Held}
use Rattle.pp_rule.specs.Rule.{Base}
use Rattle.pp_rule.specs.Ties.{Holds}
use Rattle.pp_rule.specs.Steps.{entry, IsAlone, MadeQuietStep, with_walk, clearing, ReadField}
use Rattle.pp_rule.specs.Looks.{HoldsOn, Clears}
use Rattle.pp_rule.specs.Laws.{KeptAlike, KeptCleared}
use Rattle.pp_rule.proofs.Slots.{WalkSet, each_slot, five_after, holds_on_free, clears_after}
use Rattle.pp_rule.proofs.Stepping.{after_step, allows, low_aside}
use Rattle.pp_rule.proofs.Frames.{SameContent, content_used, same_content, walk_content, held_after, hazards_after, Unscanned, scans_after}
use Rattle.pp_rule.proofs.Keeping.{hand_scope, base_after, was_unscanned, looks_after, clears_looks, idle_keeps}

module _ {W : Type 0} where
  pub walk_set : (i : ℕ) (w : WalkSlot) (q : PassState W) → WalkSet i w q (with_walk i w q)
  walk_set i w q = record {
    number = refl;
    sizes = refl;
    owned = refl;
    retired_are = refl;
    frontier = refl;
    chains = refl;
    scan = refl;
    walk = refl;
  }

module _ {E A W : Type 0} (sides : ℕ) (z : Sizes) where
  -- The walk word i of a pass reads as the slot w, and every other hazard word as it was. Where w is held, the record meets
  -- what is asked of held records, and no scan that has read the word still has it.
  base_walk : (words new : List ℕ) (g : PoolState E A W) (q' : PassState W) (i : ℕ) (w : WalkSlot) (s : LoggedStep E A)
      → Base sides z words g
      → SameContent z words new → q'.number < z.passes → i < 5 → WalkSet i w (g.of q'.number) q'
      → ((r j : ℕ) → r < z.passes → j < 4 → frontier_word new z r j ≡ frontier_word words z r j)
      → ((r j : ℕ) → r < z.passes → j < 5 → ((r ≡ q'.number) × (j ≡ i) → ⊥) → walk_word new z r j ≡ walk_word words z r j)
      → walk_word new z q'.number i ≡ w.named
      → (w.held ≡ true → Held z words g.status w) → (w.held ≡ true → Unscanned z g.of q'.number q' i w.named)
      → Base sides z new (after_step g q' g.status s)
  base_walk words new g q' i w s b content low lt is_set fronts walks here holding unscanned =
      let p : ℕ = q'.number in
      let q : PassState W = g.of p in
      let used = content_used z g.status words new content in
      let five : length q.walk ≡ 5 = b.hazards.five p low in
      let deep : i < length q.walk = omega arith in
      base_after sides z words new g q' s b content low record {
        owned = is_set.owned;
        retired_are = is_set.retired_are;
        chains = is_set.chains;
      }
      (λ n r j number hand. let scope = hand_scope sides z words g b n r j hand number in fronts r j scope.0 scope.1)
      (hazards_after z g.of p q' words new g.status used b.hazards (five_after q q' i w is_set.walk five)
      (ap (λ (l : List ℕ). length l) is_set.frontier ∙ b.hazards.four p low)
      (λ r j below other j5. walks r j below j5 (λ same. other same.0))
      (each_slot (λ (j : ℕ) (v : WalkSlot). walk_word new z p j ≡ v.named) q q' i w is_set.walk deep here
      (λ j j5 other. walks p j low j5 (λ same. other same.1) ∙ b.hazards.walks p j low j5))
      (λ r j below other four. fronts r j below four)
      (λ j four. fronts p j low four ∙ (b.hazards.frontiers p j low four ∙ sym (ap (λ (l : List ℕ). get_or l j 0) is_set.frontier)))
      (each_slot (λ (j : ℕ) (v : WalkSlot). v.held ≡ true → Held z new g.status v) q q' i w is_set.walk deep
      (λ on. held_after z words new g.status w used (holding on))
      (λ j j5 other on. held_after z words new g.status (slot q j) used (b.hazards.held p j low j5 on))))
      (scans_after z g.of p q' sides words new g.status b.two used is_set.scan
      (each_slot (λ (j : ℕ) (v : WalkSlot). v.held ≡ true → Unscanned z g.of p q' j v.named) q q' i w is_set.walk deep unscanned
      (λ j j5 other on. was_unscanned sides z words g p j b low j5 on)) b.scans)

  -- a store of the number n to the walk word i, in which nothing is held afterwards
  pub base_walk_stored : (words : List ℕ) (g : PoolState E A W) (q q' : PassState W) (i n : ℕ) (s : LoggedStep E A) → Base sides z words g
      → q.number < z.passes → g.of q.number ≡ q → i < 5 → WalkSet i (naming n) q q'
      → Base sides z (set words (walk_place z q.number i) n) (after_step g q' g.status s)
  base_walk_stored words g q q' i n s b pass is lt is_set =
      let low : q'.number < z.passes = subst (λ (p : ℕ). p < z.passes) (sym is_set.number) pass in
      let stored = walk_stored z words n b.wide q'.number i low lt in
      subst (λ (p : ℕ). Base sides z (set words (walk_place z p i) n) (after_step g q' g.status s)) is_set.number
      (base_walk words (set words (walk_place z q'.number i) n) g q' i (naming n) s b (walk_content z words
      (walk_place z q'.number i) n q'.number i stored) low lt
      (subst (λ (v : PassState W). WalkSet i (naming n) v q') (sym (ap g.of is_set.number ∙ is)) is_set)
      stored.frontiers stored.walks stored.here (λ bad. absurd (false≢true bad)) (λ bad. absurd (false≢true bad)))

  -- More is known of the record that the walk word i names: no word changes.
  pub base_walk_learnt : (words : List ℕ) (g : PoolState E A W) (q q' : PassState W) (i : ℕ) (w : WalkSlot) (s : LoggedStep E A)
      → Base sides z words g
      → q.number < z.passes → g.of q.number ≡ q → i < 5 → WalkSet i w q q' → w.named ≡ (slot q i).named
      → (w.held ≡ true → Held z words g.status w) → (w.held ≡ true → Unscanned z g.of q.number q i w.named)
      → Base sides z words (after_step g q' g.status s)
  base_walk_learnt words g q q' i w s b pass is lt is_set named holding unscanned =
      let at : g.of q'.number ≡ q = ap g.of is_set.number ∙ is in
      let low : q'.number < z.passes = subst (λ (p : ℕ). p < z.passes) (sym is_set.number) pass in
      base_walk words words g q' i w s b (same_content z words) low lt (subst (λ (v : PassState W). WalkSet i w v q') (sym at) is_set)
      (λ r j below four. refl) (λ r j below five other. refl)
      (b.hazards.walks q'.number i low lt ∙ (ap (λ (v : PassState W). (slot v i).named) at ∙ sym named)) holding
      (subst (λ (p : ℕ). w.held ≡ true → Unscanned z g.of p q' i w.named) (sym is_set.number) unscanned)

module _ {E A W : Type 0} (sides : ℕ) (opens : Sizes → List ℕ) (addition : Sizes → List ℕ → PoolState E A W → Type 0) where
  -- A number may be announced in a walk word in which nothing is held.
  pub announces : KeptAlike sides addition → (z : Sizes) (slots id place i n : ℕ) (me : Me Unit (SeatView E A W)) → IsAlone me → i < 5
      → (slot me.0.known i).held ≡ false → place ≡ walk_place z me.0.known.number i
      → Allows (Holds sides opens addition z) slots id me place (λ _. n)
      (λ _ m'. (m'.1 ≡ []) × MadeQuietStep announce_step place n n (with_walk i (naming n) me.0.known) me.0 m'.0)
  announces alike z slots id place i n me lone lt free at = let q : PassState W = me.0.known in
      let q' : PassState W = with_walk i (naming n) q in
      allows sides opens addition z slots id place announce_step me (λ _. n) (λ _. n)
      (λ _ m'. (m'.1 ≡ []) × MadeQuietStep announce_step place n n q' me.0 m'.0) lone (λ m bad. absurd (false≢true (sym bad)))
      (λ m yes. ((λ _. refl), λ words g b low is. low_aside z g place (omega arith))) (λ m _. refl)
      (λ words g b add pass is sizes fits.
      let e : LoggedStep E A = entry announce_step place n n [] [] g.order q' in
      let new : List ℕ = set words place n in
      let b' : Base sides z new (after_step g q' g.status e) = subst (λ (k : ℕ). Base sides z (set words k n)
      (after_step g q' g.status e)) (sym at)
      (base_walk_stored sides z words g q q' i n e b pass is lt (walk_set i (naming n) q)) in
      let content : SameContent z words new = subst (λ (k : ℕ). SameContent z words (set words k n)) (sym at)
      (walk_content z words (walk_place z q.number i) n q.number i (walk_stored z words n b.wide q.number i pass lt)) in record {
        known = q';
        status = g.status;
        changes = [];
        placed = [];
        keeps_rule = record {
          number = refl;
          sizes = sizes;
          base = b';
          added = alike z words new g (after_step g q' g.status e) b b' (looks_after sides z words new g q' e
              (content_used z g.status words new content) refl refl
              record {
                own = sym (ap (λ v. v.own) is);
                holds = subst (λ (v : PassState W). HoldsOn v q') (sym is)
                    (holds_on_free q q' i (naming n) refl free);
              }) add;
        };
        tells = λ v is_now made. (refl, made);
      })

  -- A walk word may be cleared, and the shape's part forgets it.
  pub clears_word : (forget : ℕ → W → W) → KeptCleared sides addition forget
      → (z : Sizes) (slots id place i : ℕ) (me : Me Unit (SeatView E A W)) → IsAlone me
      → i < 5 → place ≡ walk_place z me.0.known.number i
      → Allows (Holds sides opens addition z) slots id me place (λ _. 0)
      (λ _ m'. (m'.1 ≡ []) × MadeQuietStep clear_step place 0 0 (clearing forget i me.0.known) me.0 m'.0)
  clears_word forget clears z slots id place i me lone lt at = let q : PassState W = me.0.known in
      let q' : PassState W = clearing forget i q in
      allows sides opens addition z slots id place clear_step me (λ _. 0) (λ _. 0)
      (λ _ m'. (m'.1 ≡ []) × MadeQuietStep clear_step place 0 0 q' me.0 m'.0) lone (λ m bad. absurd (false≢true (sym bad)))
      (λ m yes. ((λ _. refl), λ words g b low is. low_aside z g place (omega arith))) (λ m _. refl)
      (λ words g b add pass is sizes fits.
      let e : LoggedStep E A = entry clear_step place 0 0 [] [] g.order q' in
      let new : List ℕ = set words place 0 in
      let is_set : WalkSet i (naming 0) q q' = record {
        number = refl;
        sizes = refl;
        owned = refl;
        retired_are = refl;
        frontier = refl;
        chains = refl;
        scan = refl;
        walk = refl;
      } in
      let b' : Base sides z new (after_step g q' g.status e) = subst (λ (k : ℕ). Base sides z (set words k 0)
      (after_step g q' g.status e)) (sym at)
      (base_walk_stored sides z words g q q' i 0 e b pass is lt is_set) in
      let content : SameContent z words new = subst (λ (k : ℕ). SameContent z words (set words k 0)) (sym at)
      (walk_content z words (walk_place z q.number i) 0 q.number i (walk_stored z words 0 b.wide q.number i pass lt)) in
      let five : length q.walk ≡ 5 = ap (λ (v : PassState W). length v.walk) (sym is) ∙ b.hazards.five q.number pass in
      let deep : i < length q.walk = omega arith in record {
        known = q';
        status = g.status;
        changes = [];
        placed = [];
        keeps_rule = record {
          number = refl;
          sizes = sizes;
          base = b';
          added = clears z words new g (after_step g q' g.status e) q.number i b b' (clears_looks sides z forget words new g q' i e
              (content_used z g.status words new content) refl refl pass lt
              (subst (λ (v : PassState W). Clears forget i v q') (sym is) (clears_after forget q q' i refl deep refl))) add;
        };
        tells = λ v is_now made. (refl, made);
      })

  -- The key and the value of a held record may be loaded: they are what it was published with.
  pub reads_field : KeptAlike sides addition → (z : Sizes) (slots id place i field : ℕ) (me : Me Unit (SeatView E A W)) → IsAlone me → i < 5
      → (slot me.0.known i).held ≡ true → place ≡ cell_place z (slot me.0.known i).named field
      → Allows (Holds sides opens addition z) slots id me place (λ n. n) (λ n m'. (m'.1 ≡ []) × ReadField i field n place me.0 m'.0)
  unfolding cell_word
  reads_field alike z slots id place i field me lone lt on at = let q : PassState W = me.0.known in
      allows sides opens addition z slots id place read_step me (λ n. n) (λ n. n) (λ n m'.
      (m'.1 ≡ []) × ReadField i field n place me.0 m'.0)
      lone (λ m no. refl) (λ m bad. absurd (false≢true bad)) (λ m _. refl)
      (λ words g b add pass is sizes fits.
      let held : Held z words g.status (slot q i) = subst (λ (v : PassState W). (slot v i).held ≡ true
      → Held z words g.status (slot v i)) is
      (b.hazards.held q.number i pass lt) on in record {
        known = q;
        status = g.status;
        changes = [];
        placed = [];
        keeps_rule = idle_keeps sides opens addition alike read_step place z words g q b add pass is sizes;
        tells = λ v is_now made. (
          refl,
          record {
            made = made;
            key = λ e. ap (λ (k : ℕ). get_or words k 0) (at ∙ ap (cell_place z (slot q i).named) e) ∙ held.key;
            low = λ e. ap (λ (k : ℕ). get_or words k 0) (at ∙ ap (cell_place z (slot q i).named) e)
                ∙ ap (λ (v : Halves). v.low) held.value;
            high = λ e. ap (λ (k : ℕ). get_or words k 0) (at ∙ ap (cell_place z (slot q i).named) e)
                ∙ ap (λ (v : Halves). v.high) held.value;
          },
        );
      })
