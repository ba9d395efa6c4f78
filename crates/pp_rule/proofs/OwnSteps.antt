-- What the proofs of a structure's own steps want, whatever the structure.
use Rattle.std.proofs.Common.{◌≡◌, ℕ, zero, suc, ◌+◌, ◌<◌, ◌≤◌, true, List, [], ◌∷◌, ◌++◌, ap, ◌∙◌, subst, ⊎_elim}
use Rattle.std.proofs.Common.{arith}
use Rattle.std.proofs.Common.{append-nil}
use Rattle.std.proofs.Math.Decide.{ℕ_discrete}
use mathlib.Core.Logic.{dite}
use Rattle.atomic_table.specs.Table.{Me}
use Rattle.pp_link.specs.declared.layout.Sizes.{Sizes}
use Rattle.pp_rule.specs.Lists.{IsIn}
use Rattle.pp_rule.specs.Orders.{LoggedStep, IsQuietStep, log_of, placed_by}
use Rattle.pp_rule.specs.Views.{WalkSlot, PassState, SeatView, slot}
use Rattle.pp_rule.specs.States.{PoolState}
use Rattle.pp_rule.specs.Steps.{alone}
use Rattle.pp_rule.specs.Looks.{HoldsOn}
use Rattle.pp_rule.specs.Alone.{IsOwnStep}
use Rattle.pp_rule.proofs.Put.{in_nil, in_either, in_one}
use Rattle.pp_rule.proofs.Histories.{log_snoc, placed_here}
use Rattle.pp_rule.proofs.Stepping.{Plays}

module _ {E A : Type 0} (caller : E → ℕ) where
  -- one step more, whose changes are those of its pass
  pub own_more : (order : List (LoggedStep E A)) (s : LoggedStep E A) → ((m : LoggedStep E A) → IsIn m order → IsOwnStep caller m)
      → IsOwnStep caller s → (m : LoggedStep E A) → IsIn m (order ++ s ∷ []) → IsOwnStep caller m
  own_more order s all own m i = ⊎_elim (all m)
      (λ (last : IsIn m (s ∷ [])). subst (λ (x : LoggedStep E A). IsOwnStep caller x) (in_one m s last) own)
      (in_either m order (s ∷ []) i)

  pub own_none : (s : LoggedStep E A) → s.entry.changes ≡ [] → IsOwnStep caller s
  own_none s none c i = absurd (in_nil c (subst (λ (cs : List E). IsIn c cs) none i))

  -- one quiet step more
  pub own_quiet : (before after : List (LoggedStep E A)) → IsQuietStep before after
      → ((m : LoggedStep E A) → IsIn m before → IsOwnStep caller m) → (m : LoggedStep E A) → IsIn m after → IsOwnStep caller m
  own_quiet before after q all m i = own_more before q.step all (own_none q.step q.no_change) m
      (subst (λ (l : List (LoggedStep E A)). IsIn m l) q.is i)

-- the view of a pass after the step e, which is known as `known`
module _ {E A W : Type 0} (order : List (LoggedStep E A)) (known : PassState W) (e : LoggedStep E A) (w : SeatView E A W)
    (at : w ≡ alone (order ++ e ∷ []) known) (pass : e.entry.pass ≡ known.number) where
  -- the changes up to it
  pub log_told : log_of w.order ≡ log_of order ++ e.entry.changes
  log_told = ap (λ (v : SeatView E A W). log_of v.order) at ∙ log_snoc order e

  pub log_quiet : e.entry.changes ≡ [] → log_of w.order ≡ log_of order
  log_quiet none = log_told ∙ (ap (λ (cs : List E). log_of order ++ cs) none ∙ append-nil (log_of order))

  pub placed_told : placed_by w.known.number w.order ≡ placed_by known.number order ++ e.placed
  placed_told = ap (λ (v : SeatView E A W). placed_by v.known.number v.order) at
      ∙ subst (λ (n : ℕ). placed_by n (order ++ e ∷ []) ≡ placed_by n order ++ e.placed) pass (placed_here order e)

module _ {E A W : Type 0} (sides : ℕ) (opens : Sizes → List ℕ) (addition : Sizes → List ℕ → PoolState E A W → Type 0) where
  -- a step that tells this tells what follows from it
  pub plays_as : {kind place word left : ℕ} {z : Sizes} {words : List ℕ} {g : PoolState E A W} {v : SeatView E A W}
      (then then' : Me Unit (SeatView E A W) → Type 0) → Plays sides opens addition kind place word left z words g v then
      → ((w : SeatView E A W) → then (w, []) → then' (w, [])) → Plays sides opens addition kind place word left z words g v then'
  plays_as then then' p f = record {
    known = p.known;
    status = p.status;
    changes = p.changes;
    placed = p.placed;
    keeps_rule = p.keeps_rule;
    tells = λ w at made. f w (p.tells w at made);
  }

-- those of these walk words for which that is so hold what they held
pub record HoldsStill (ok : ℕ → Type 0) (w w' : ℕ → WalkSlot) : Type 0 where
  pub held : (i : ℕ) → i < 5 → ok i → (w i).held ≡ true → (w' i).held ≡ true
  pub named : (i : ℕ) → i < 5 → ok i → (w i).held ≡ true → (w' i).named ≡ (w i).named

abbrev pub any_word : ℕ → Type 0
any_word i = Unit {0}

pub still_held : {W : Type 0} (q q' : PassState W) → HoldsOn q q' → HoldsStill any_word (slot q) (slot q')
still_held q q' h = record { held = λ i lt _ y. (h.each i lt y).held; named = λ i lt _ y. (h.each i lt y).named }

-- the least number from the start on for which that is so, where it is so for one
pub least_from : (P : ℕ → Type 0) → ((n : ℕ) → Dec (P n)) → (start d s : ℕ) → start ≤ s → P (s + d)
    → ((q : ℕ) → start ≤ q → q < s → P q → ⊥)
    → (p : ℕ) × (start ≤ p) × (p ≤ s + d) × P p × ((q : ℕ) → start ≤ q → q < p → P q → ⊥)
least_from P dec start zero s le h none = let e : s + 0 ≡ s = omega arith in (s, le, omega arith, subst P e h, none)
least_from P dec start (suc d) s le h none = dite (dec s) (λ y. (s, le, omega arith, y, none))
    (λ n. let e : s + suc d ≡ (s + 1) + d = omega arith in
    let r = least_from P dec start d (s + 1) (omega arith) (subst P e h)
    (λ q lo hi y. dite (ℕ_discrete q s) (λ same. n (subst P same y)) (λ ne. none q lo (omega arith) y)) in
    let hi = r.2 in (r.0, r.1, omega arith, r.3, r.4))
