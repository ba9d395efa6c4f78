-- What a step tells of its pass beside what its kind says: it is still a pass of the pool, alone in its seat.
use Rattle.std.proofs.Common.{◌≡◌, ℕ, ◌<◌, ◌≤◌, true, List, [], length, get_or, refl, sym, subst}
use Rattle.std.proofs.Math.Decide.{ℕ_discrete}
use mathlib.Core.Logic.{dite}
use Rattle.atomic_table.specs.Table.{Me, Allows}
use Rattle.atomic_table.proofs.Lists.{set_here}
use Rattle.pp_link.specs.declared.layout.Sizes.{Sizes}
use Rattle.pp_link.specs.Places.{IsNumber}
use Rattle.pp_rule.specs.Lists.{IsIn, OnceBy, Once}
use Rattle.pp_rule.specs.declared.views.PassState.{PassState}
use Rattle.pp_rule.specs.declared.views.SeatView.{SeatView}
use Rattle.pp_rule.specs.Views.{slot, all_of}
use Rattle.pp_rule.specs.States.{PoolState}
use Rattle.pp_rule.specs.Rule.{number_of, Base}
use Rattle.pp_rule.specs.Alone.{HasSeen, HasOwnChanges}
use Rattle.pp_rule.specs.Ties.{Holds}
use Rattle.pp_rule.specs.Steps.{IsAlone, MadeStep, Confirmed}
use Rattle.pp_rule.proofs.Put.{at_below}
use Rattle.pp_rule.proofs.Made.{alone_after, known_after}
use Rattle.pp_rule.proofs.Alone.{tells_seen}
use Rattle.pp_base.specs.Passes.{numbers_of, IsPassOf}
use Rattle.pp_base.proofs.Numbered.{numbers_fit}

module _ {E A W : Type 0} where
  -- A step that is allowed under the sizes of the pool, where the table has no slots, is allowed under the key of its table and
  -- with its slots.
  pub keyed : (sides : ℕ) (opens : Sizes → List ℕ) (addition : Sizes → List ℕ → PoolState E A W
      → Type 0) (z key : Sizes) (slots id : ℕ) (me : Me Unit (SeatView E A W))
      (place : ℕ) (change : ℕ → ℕ) (then : ℕ → Me Unit (SeatView E A W) → Type 0) → key ≡ z → slots ≡ 0
      → Allows (Holds sides opens addition z) 0 id me place change then → Allows (Holds sides opens addition key) slots id me place change
      then
  keyed sides opens addition z key slots id me place change then is none a = subst (λ (k : Sizes). Allows
      (Holds sides opens addition k) slots id me place change then) (sym is)
      (subst (λ (n : ℕ). Allows (Holds sides opens addition z) n id me place change then) (sym none) a)

  -- It tells what the seat has then seen of the pool.
  pub keyed_run : (sides : ℕ) (opens : Sizes → List ℕ) (addition : Sizes → List ℕ → PoolState E A W
      → Type 0) (caller : E → ℕ) → HasOwnChanges addition caller → (z key : Sizes) (slots id : ℕ) (me : Me Unit (SeatView E A W))
      (place : ℕ) (change : ℕ → ℕ) (then : ℕ → Me Unit (SeatView E A W) → Type 0) → key ≡ z → slots ≡ 0
      → Allows (Holds sides opens addition z) 0 id me place change then
      → Allows (Holds sides opens addition key) slots id me place change
      (λ n m. then n m × (m.0.standing ≡ true → HasSeen sides opens addition caller m.0))
  keyed_run sides opens addition caller owns z key slots id me place change then is none a =
      keyed sides opens addition z key slots id me place change
      (λ n m. then n m × (m.0.standing ≡ true → HasSeen sides opens addition caller m.0)) is none
      (tells_seen sides opens addition z caller owns 0 id me place change then a)

  -- what is known of a pass names records and words that there are
  pub pass_of : (sides : ℕ) (z : Sizes) (words : List ℕ) (g : PoolState E A W) (q : PassState W) → Base sides z words g
      → q.number < z.passes → g.of q.number ≡ q → q.sizes ≡ z
      → IsPassOf z q
  pass_of sides z words g q b low is sizes = let p : ℕ = q.number in record {
    pass = low;
    sizes = sizes;
    within = b.within;
    five = subst (λ (v : PassState W). length v.walk ≡ 5) is (b.hazards.five p low);
    four = subst (λ (v : PassState W). length v.frontier ≡ 4) is (b.hazards.four p low);
    held = λ i lt. subst (λ (v : PassState W). (slot v i).held ≡ true → IsNumber z (slot v i).named) is
        (λ on. (b.hazards.held p i low lt on).number);
    owned = λ d. subst (λ (v : PassState W). IsIn d v.owned → IsNumber z d.number) is (λ i. (b.numbers.owned_to p d low i).0);
    owned_once = subst (λ (v : PassState W). OnceBy number_of v.owned) is (b.numbers.owned_once p low);
    retired_are = λ n. subst (λ (v : PassState W). IsIn n v.retired → IsNumber z n) is (λ i. (b.numbers.retired_to p n low i).0);
    retired_once = subst (λ (v : PassState W). Once v.retired) is (b.numbers.retired_once p low);
    left = λ n. subst (λ (v : PassState W). IsIn n v.scan.left → IsNumber z n) is (λ i. (b.scans.left p n low i).0);
    guard = λ c. subst (λ (v : PassState W). IsIn c v.chains → c.guard < 4) is (b.chains.guard p c low);
    members = λ c n. subst (λ (v : PassState W). IsIn c v.chains → IsIn n c.records → IsNumber z n) is
        (λ i m. (b.chains.members p n c low i m).0);
    fit = subst (λ (v : PassState W). length (numbers_of v) ≤ z.records) is (numbers_fit sides z words g p b low);
  }

  -- The rule after the step gives it, where the step tells that the pass is alone in its seat.
  pub telling : (sides : ℕ) (opens : Sizes → List ℕ) (addition : Sizes → List ℕ → PoolState E A W
      → Type 0) (z : Sizes) (slots id : ℕ) (me : Me Unit (SeatView E A W)) (place : ℕ)
      (change : ℕ → ℕ) (then : ℕ → Me Unit (SeatView E A W) → Type 0) → Allows (Holds sides opens addition z) slots id me place change then
      → ((n : ℕ) (m : Me Unit (SeatView E A W)) → then n m → IsAlone m)
      → Allows (Holds sides opens addition z) slots id me place change (λ n m. then n m × IsPassOf z m.0.known)
  telling sides opens addition z slots id me place change then a lone = λ s h deep at fits. let r = a s h deep at fits in
      let w : SeatView E A W = r.0 in
      let after = r.3 in
      let said = r.4 in
      let one : IsAlone (w, _) = lone (get_or s.words place 0) (w, _) said in
      let here : IsIn w.known (all_of w) = subst (λ (u : SeatView E A W). IsIn w.known (all_of u)) (sym one.1) (0, refl) in
      let tied = (after.ties.each_seat id w (set_here s.views id w (at_below s.views id me.0 at))).each w.known here in
      (w, r.1, r.2, after, (said, pass_of sides z _ after.pool w.known after.base tied.number tied.is tied.sizes))

  module _ {kind place word left : ℕ} {changes : List E} {placed : List A} {q : PassState W} {v : SeatView E A W}
      (m : Me Unit (SeatView E A W)) where
    pub made_alone : m.1 ≡ [] → MadeStep kind place word left changes placed q v m.0 → IsAlone m
    made_alone none made = (none, alone_after kind place word left changes placed q v m.0 made)

    pub made_known : MadeStep kind place word left changes placed q v m.0 → m.0.known ≡ q
    made_known made = known_after kind place word left changes placed q v m.0 made

  pub confirmed_alone : (i first n place : ℕ) (q : PassState W) (v : SeatView E A W) (m : Me Unit (SeatView E A W)) → m.1 ≡ []
      → Confirmed i first n place q v m.0 → IsAlone m
  confirmed_alone i first n place q v m none c =
      dite (ℕ_discrete n first) (λ e. made_alone m none (c.same e).1.1) (λ ne. made_alone m none
      (c.other ne))
