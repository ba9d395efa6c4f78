-- The step at which a call takes effect meets the clause of its turn.
use Rattle.std.proofs.Common.{◌≡◌, ℕ, ◌+◌, true, List, [], ◌∷◌, ◌++◌, length, ap, ◌∙◌, arith, length-append}
use Rattle.pp_model.specs.declared.Call.{Call}
use Rattle.pp_model.specs.declared.Change.{Change}
use Rattle.pp_model.specs.declared.Placed.{Placed}
use Rattle.pp_model.specs.declared.Reply.{Reply}
use Rattle.pp_model.specs.Calls.{changes}
use Rattle.pp_model.specs.MapCalls.{Strikes, placed}
use Rattle.pp_rule.specs.declared.views.PassState.{PassState}
use Rattle.pp_rule.specs.declared.views.SeatView.{SeatView}
use Rattle.pp_rule.specs.Orders.{log_of, placed_by}
use Rattle.pp_rule.specs.Steps.{MadeStep}
use Rattle.pp_rule.proofs.Made.{placed_after, seen_after_step, known_after}
use Rattle.pp_rule.proofs.Histories.{log_begins}
use Rattle.pp_calls.specs.PoolViews.{pool_view}

-- A step at which one change took effect, and its call was placed behind all that the pass had seen.
pub strikes_at : {kind place word left : ℕ} {W : Type 0} {known : PassState W} (call : Call) (r : Reply) (c : Change)
    (v w : SeatView Change Placed W) (free free' : List ℕ) (share : ℕ) → changes r ≡ true → known.number ≡ v.known.number
    → MadeStep kind place word left (c ∷ []) (placed call r (length (log_of w.order)) ∷ []) known v w
    → Strikes call (pool_view v free share) (pool_view w free' share)
strikes_at {kind} {place} {word} {left} {W} {known} call r c v w free free' share changed number m =
    let at : Placed = placed call r (length (log_of w.order)) in
    let same : w.known.number ≡ v.known.number =
    ap (λ (q : PassState W). q.number) (known_after kind place word left (c ∷ []) (at ∷ []) known v w m) ∙ number in
    let log : log_of w.order ≡ log_of m.so_far ++ c ∷ [] = seen_after_step kind place word left (c ∷ []) (at ∷ []) known v w m in
    let long : length (log_of w.order) ≡ length (log_of m.so_far) + 1 =
    ap (λ (l : List Change). length l) log ∙ length-append (log_of m.so_far) (c ∷ []) in
    let b = log_begins m.so_far v.order m.begins in
    let grown : length (log_of m.so_far) ≡ length (log_of v.order) + length b.0 =
    ap (λ (l : List Change). length l) b.1 ∙ length-append (log_of v.order) b.0 in record {
      said = r;
      place = length (log_of w.order);
      changed = changed;
      mine = ap (λ (p : ℕ). placed_by p w.order) same ∙ placed_after kind place word left (c ∷ []) (at ∷ []) known v w m number;
      above = omega arith;
      within = omega arith;
    }
