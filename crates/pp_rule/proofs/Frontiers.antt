-- Stores to a frontier word that guards no chain.
use Rattle.std.proofs.Common.{◌≡◌, ℕ, ◌<◌, true, List, [], length, set, refl, sym, ap, ◌∙◌, subst, arith}
use Rattle.std.proofs.lemmas.List.{length-set}
use Rattle.std.proofs.Math.Bool.{false≢true}
use Rattle.std.proofs.Math.Decide.{ℕ_discrete}
use mathlib.Core.Logic.{dite}
use Rattle.atomic_table.specs.Table.{Me, Allows}
use Rattle.pp_link.specs.declared.layout.Sizes.{Sizes}
use Rattle.pp_link.specs.Places.{frontier_place}
use Rattle.pp_link.specs.Words.{frontier_word, FrontierStored}
use Rattle.pp_link.proofs.Stores.{frontier_stored}
use Rattle.pp_rule.specs.Lists.{IsIn}
use Rattle.pp_rule.specs.Orders.{LoggedStep, stores, guard_step, unguard_step}
use Rattle.pp_rule.specs.Views.{WalkSlot, PassState, SeatView, slot, guarding}
use Rattle.pp_rule.specs.States.{PoolState, Held}
use Rattle.pp_rule.specs.Rule.{Base}
use Rattle.pp_rule.specs.Ties.{Holds}
use Rattle.pp_rule.specs.Steps.{entry, IsAlone, MadeQuietStep, with_frontier, IsUnused}
use Rattle.pp_rule.specs.Laws.{KeptAlike}
use Rattle.pp_rule.proofs.Slots.{same_own, guarding_here, guarding_else}
use Rattle.pp_rule.proofs.Stepping.{after_step, allows, low_aside}
use Rattle.pp_rule.proofs.Frames.{SameContent, SameUsed, content_used, held_after, hazards_after, frontier_content, scans_after, Unscanned}
use Rattle.pp_rule.proofs.Keeping.{hand_scope, base_after, was_unscanned, looks_after}

module _ {W : Type 0} (z : Sizes) (words new : List ℕ) (of : ℕ → PassState W) (p : ℕ) where
  -- the frontier words of a pass read as announced after a store to one of them
  pub guards_after : (q q' : PassState W) (j n : ℕ) → FrontierStored z words new p j n → of p ≡ q → q'.frontier ≡ set q.frontier j n
      → length q.frontier ≡ 4 → j < 4 → ((k : ℕ) → k < 4 → frontier_word words z p k ≡ guarding (of p) k) → p < z.passes
      → (k : ℕ) → k < 4 → frontier_word new z p k ≡ guarding q' k
  guards_after q q' j n stored is is_set four lt was pass k low = dite (ℕ_discrete k j)
      (λ e. subst (λ (k : ℕ). frontier_word new z p k ≡ guarding q' k) (sym e)
      (stored.here ∙ sym (guarding_here q q' j n is_set (omega arith))))
      (λ ne. stored.frontiers p k pass low (λ same. ne same.1)
      ∙ (was k low ∙ (ap (λ (v : PassState W). guarding v k) is ∙ sym (guarding_else q q' j n is_set k ne))))

module _ {E A W : Type 0} (sides : ℕ) (z : Sizes) where
  -- The frontier word j of a pass, which guards no chain, gets the number n.
  pub base_frontier_stored : (words : List ℕ) (g : PoolState E A W) (q : PassState W) (j n : ℕ) (s : LoggedStep E A) → Base sides z words g
      → q.number < z.passes → g.of q.number ≡ q → j < 4 → IsUnused j q
      → Base sides z (set words (frontier_place z q.number j) n) (after_step g (with_frontier j n q) g.status s)
  base_frontier_stored words g q j n s b pass is lt unused =
      let p : ℕ = q.number in
      let q' : PassState W = with_frontier j n q in
      let new : List ℕ = set words (frontier_place z p j) n in
      let stored : FrontierStored z words new p j n = frontier_stored z words n b.wide p j pass lt in
      let content : SameContent z words new = frontier_content z words (frontier_place z p j) n p j stored in
      let used : SameUsed z g.status words new = content_used z g.status words new content in
      let walk : q.walk ≡ (g.of p).walk = ap (λ v. v.walk) (sym is) in
      let four : length q.frontier ≡ 4 = ap (λ v. length v.frontier) (sym is) ∙ b.hazards.four p pass in
      base_after sides z words new g q' s b content pass
      record { owned = ap (λ v. v.owned) (sym is); retired_are = ap (λ v. v.retired) (sym is); chains = ap (λ v. v.chains) (sym is) }
      (λ m r k number hand. let scope = hand_scope sides z words g b m r k hand number in stored.frontiers r k scope.0 scope.1
      (λ same. let c = b.chains.home r k m scope.0 number hand in
      unused c.0 (subst (λ (v : PassState W). IsIn c.0 v.chains) (ap g.of same.0 ∙ is) c.1.0) (c.1.1 ∙ same.1)))
      (hazards_after z g.of p q' words new g.status used b.hazards (ap (λ (l : List WalkSlot). length l) walk ∙ b.hazards.five p pass)
      (length-set q.frontier j n ∙ four) (λ r i low other five. stored.walks r i low five)
      (λ i five. stored.walks p i pass five ∙ (b.hazards.walks p i pass five ∙ ap (λ (v : PassState W). (slot v i).named) is))
      (λ r k low other below. stored.frontiers r k low below (λ same. other same.0))
      (guards_after z words new g.of p q q' j n stored is refl four lt (λ k low. b.hazards.frontiers p k pass low) pass)
      (λ i five on. held_after z words new g.status (slot q i) used
      (subst (λ (v : PassState W). (slot v i).held ≡ true → Held z words g.status (slot v i)) is (b.hazards.held p i pass five) on)))
      (scans_after z g.of p q' sides words new g.status b.two used (ap (λ v. v.scan) (sym is))
      (λ i five. subst (λ (v : PassState W). (slot v i).held ≡ true → Unscanned z g.of p v i (slot v i).named) is
      (was_unscanned sides z words g p i b pass five)) b.scans)

module _ {E A W : Type 0} (sides : ℕ) (opens : Sizes → List ℕ) (addition : Sizes → List ℕ → PoolState E A W → Type 0) where
  -- a store to a frontier word that guards no chain, as a step of a kind that stores
  stores_frontier : KeptAlike sides addition → (kind : ℕ) → stores kind ≡ true → (z : Sizes) (slots id place j n : ℕ)
      (me : Me Unit (SeatView E A W))
      → IsAlone me → j < 4 → IsUnused j me.0.known → place ≡ frontier_place z me.0.known.number j
      → Allows (Holds sides opens addition z) slots id me place (λ _. n)
      (λ _ m'. (m'.1 ≡ []) × MadeQuietStep kind place n n (with_frontier j n me.0.known) me.0 m'.0)
  stores_frontier alike kind does z slots id place j n me lone lt unused at = let q : PassState W = me.0.known in
      let q' : PassState W = with_frontier j n q in
      allows sides opens addition z slots id place kind me (λ _. n) (λ _. n)
      (λ _ m'. (m'.1 ≡ []) × MadeQuietStep kind place n n q' me.0 m'.0) lone (λ m bad. absurd (false≢true (sym bad ∙ does)))
      (λ m yes. ((λ _. refl), λ words g b low is. low_aside z g place (omega arith))) (λ m _. refl)
      (λ words g b add pass is sizes fits.
      let e : LoggedStep E A = entry kind place n n [] [] g.order q' in
      let new : List ℕ = set words place n in
      let b' : Base sides z new (after_step g q' g.status e) = subst (λ (k : ℕ). Base sides z (set words k n)
      (after_step g q' g.status e)) (sym at)
      (base_frontier_stored sides z words g q j n e b pass is lt unused) in
      let content : SameContent z words new = subst (λ (k : ℕ). SameContent z words (set words k n)) (sym at)
      (frontier_content z words (frontier_place z q.number j) n q.number j (frontier_stored z words n b.wide q.number j pass lt)) in
      record {
        known = q';
        status = g.status;
        changes = [];
        placed = [];
        keeps_rule = record {
          number = refl;
          sizes = sizes;
          base = b';
          added = alike z words new g (after_step g q' g.status e) b b'
              (looks_after sides z words new g q' e (content_used z g.status words new content) refl refl
              (same_own (g.of q.number) q' (ap (λ v. v.own) (sym is)) (ap (λ v. v.walk) (sym is)))) add;
        };
        tells = λ v is_now made. (refl, made);
      })

  -- A frontier word that guards no chain may get any number.
  pub guards_frontier : KeptAlike sides addition → (z : Sizes) (slots id place j n : ℕ) (me : Me Unit (SeatView E A W)) → IsAlone me → j < 4
      → IsUnused j me.0.known → place ≡ frontier_place z me.0.known.number j
      → Allows (Holds sides opens addition z) slots id me place (λ _. n)
      (λ _ m'. (m'.1 ≡ []) × MadeQuietStep guard_step place n n (with_frontier j n me.0.known) me.0 m'.0)
  guards_frontier alike z slots id place j n me lone lt unused at =
      stores_frontier alike guard_step refl z slots id place j n me lone lt unused at

  -- It may be cleared.
  pub unguards_frontier : KeptAlike sides addition → (z : Sizes) (slots id place j : ℕ) (me : Me Unit (SeatView E A W)) → IsAlone me → j < 4
      → IsUnused j me.0.known → place ≡ frontier_place z me.0.known.number j
      → Allows (Holds sides opens addition z) slots id me place (λ _. 0)
      (λ _ m'. (m'.1 ≡ []) × MadeQuietStep unguard_step place 0 0 (with_frontier j 0 me.0.known) me.0 m'.0)
  unguards_frontier alike z slots id place j me lone lt unused at =
      stores_frontier alike unguard_step refl z slots id place j 0 me lone lt unused at
