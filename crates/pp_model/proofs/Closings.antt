-- A map that was closed shows a recorded run, so its linearization is legal.
use Rattle.std.proofs.Common.{◌≡◌, ℕ, zero, suc, ◌+◌, ◌<◌, List, [], ◌∷◌, length, map, Some, refl, sym, ap, ◌∙◌, subst, arith}
use Rattle.std.specs.Prelude.{slice_get}
use Rattle.pp_model.specs.declared.Pair.{Pair}
use Rattle.pp_model.specs.Lists.{AtEach, RisesFrom}
use Rattle.pp_model.specs.History.{finite_map, Stands}
use Rattle.pp_model.specs.Pass.{PassView, MapSizes, Meaning, RunView}
use Rattle.pp_model.specs.MapCalls.{IsClosing, caller_run}
use Rattle.pp_model.specs.Linearization.{CallerList, caller_list, callers_of, IsRecordedRun, IsHistory}
use Rattle.pp_model.proofs.CallersOrder.{is_history}

-- the callers' lists that these passes show
abbrev pub lists_of : List PassView → List CallerList
lists_of passes = map caller_list (map caller_run passes)

callers_rise : (low : ℕ) (passes : List PassView) → AtEach passes (λ k p. p.caller ≡ low + k)
    → RisesFrom low (callers_of (lists_of passes))
callers_rise low [] callers = tt
callers_rise low (p ∷ passes) callers =
    let here : p.caller ≡ low + 0 = callers 0 p refl in
    (omega arith, callers_rise (p.caller + 1) passes (λ k q at. omega (arith, callers (suc k) q at)))

list_at : (passes : List PassView) (k : ℕ) → k < length passes
    → (p : PassView) × (slice_get passes k ≡ Some p) × (slice_get (lists_of passes) k ≡ Some (caller_list (caller_run p)))
list_at [] k within = absurd (omega arith)
list_at (p ∷ passes) zero within = (p, refl, refl)
list_at (p ∷ passes) (suc k) within = list_at passes k (omega arith)

pass_at : (passes : List PassView) (k : ℕ) (l : CallerList) → slice_get (lists_of passes) k ≡ Some l
    → (p : PassView) × (slice_get passes k ≡ Some p) × (l ≡ caller_list (caller_run p))
pass_at [] k l e = absurd cc
pass_at (p ∷ passes) zero l e = (p, refl, cc)
pass_at (p ∷ passes) (suc k) l e = pass_at passes k l e

module _ (meaning : Meaning) (sizes : MapSizes) (passes : List PassView) (contents : List Pair) (free : List ℕ) (run : RunView)
    (closing : IsClosing meaning sizes passes contents free run) (callers : AtEach passes (λ k p. p.caller ≡ k)) where
  recorded : IsRecordedRun run.log (lists_of passes)
  recorded = record {
    sound = closing.sound;
    rise = callers_rise 0 passes (λ k p at. omega (arith, callers k p at));
    known = λ p c at.
        let found = list_at passes c.caller (closing.known p c at) in
        let own : found.0.caller ≡ c.caller = callers c.caller found.0 found.1 in
        let list : CallerList = record { caller = c.caller; mine = found.0.mine } in
        let same : caller_list (caller_run found.0) ≡ list =
        ap (λ (n : ℕ). let l : CallerList = record { caller = n; mine = found.0.mine } in l) own in
        record { position = c.caller; mine = found.0.mine; is_one = found.2 ∙ ap (λ (x : CallerList). Some x) same };
    stand = λ k l at.
        let found = pass_at passes k l at in
        subst (λ (x : CallerList). Stands run.log x.caller x.mine) (sym found.2) (closing.stand k found.0 found.1);
  }

  pub closing_recorded : IsRecordedRun run.log (map caller_list run.callers)
  closing_recorded = subst (λ cs. IsRecordedRun run.log (map caller_list cs)) (sym closing.callers_are) recorded

  -- The history of a run that was closed is legal.
  pub closing_history : IsHistory run.log (map caller_list run.callers)
  closing_history = is_history finite_map run.log (map caller_list run.callers) closing_recorded
