-- The certificate of a run by a plan is right.
use Rattle.std.proofs.Common.{◌≡◌, ℕ, zero, suc, ◌<◌, ◌≤◌, List, [], ◌∷◌, length, map, get_or, Some, refl, sym, ap, ◌∙◌, subst, arith}
use Rattle.std.proofs.Common.{⊎_elim}
use Rattle.std.specs.Prelude.{slice_get}
use Rattle.std.proofs.lemmas.Bool.{cases_lt}
use Rattle.std.proofs.lemmas.List.{get_or-map, length-map}
use Rattle.std.proofs.lemmas.Option.{get_or_from_slice_get}
use Rattle.pp_model.specs.declared.Change.{Change}
use Rattle.pp_model.specs.declared.Placed.{Placed}
use Rattle.pp_model.specs.Lists.{AtEach, upto}
use Rattle.pp_model.specs.History.{Sound, Stands}
use Rattle.pp_model.specs.Pass.{RunView, CallerRun}
use Rattle.pp_model.proofs.Histories.{places_others}
use Rattle.pp_model.proofs.PlainPasses.{length-upto}
use Rattle.pp_running.proofs.Lists.{at_mapped}
use Rattle.pp_certificate.specs.Certificates.{log_of, list_of}
use Rattle.pp_certificate.specs.Printed.{certificate_text, Fit}
use Rattle.pp_certificate.proofs.Printing.{texts_are_certificates}
use Rattle.pp_certificate.proofs.Growing.{get_or-upto}
use Rattle.pp_schedule.proofs.Orders.{within_get}
use Rattle.pp_check.specs.declared.Verdict.TheVariants.{Yes}
use Rattle.pp_check.specs.Verdicts.{IsVerdict}
use Rattle.pp_places.specs.Certified.{RunsAreCertified}

-- an empty list stands in a log that has no change of its caller
none_stand : (log : List Change) (caller : ℕ) → ((p : ℕ) (c : Change) → slice_get log p ≡ Some c → c.caller ≡ caller → ⊥)
    → Stands log caller []
none_stand log caller others = record {
  each = λ n s at. absurd cc;
  rising = λ i j s t lt at_i at_j. absurd cc;
  all = places_others 0 caller log others;
}

-- beyond the end of a list there is nothing
beyond : {A : Type 0} → (xs : List A) (k : ℕ) (d : A) → length xs ≤ k → get_or xs k d ≡ d
beyond [] k d le = refl
beyond (x ∷ xs) zero d le = absurd (omega (arith, le))
beyond (x ∷ xs) (suc k) d le = beyond xs k d (omega (arith, le))

-- the text of a sound log of these callers' changes, in which each caller's list stands
module _ (callers : ℕ) (run : RunView) (sound : Sound run.log) (known : AtEach run.log (λ p c. c.caller < callers))
    (many : length run.callers ≡ callers) (stand : AtEach run.callers (λ c r. Stands run.log c r.mine)) where
  stands : (c : ℕ) → Stands run.log c (get_or (map (λ r. r.mine) run.callers) c [])
  stands c =
      ⊎_elim
      (λ (lt : c < length run.callers).
      let r = within_get run.callers c lt in
      let mine : get_or (map (λ x. x.mine) run.callers) c [] ≡ r.0.mine =
      get_or_from_slice_get (map (λ x. x.mine) run.callers) c r.0.mine [] (at_mapped (λ (x : CallerRun). x.mine) run.callers c r.0 r.1) in
      subst (λ (m : List Placed). Stands run.log c m) (sym mine) (stand c r.0 r.1))
      (λ (ge : length run.callers ≤ c).
      let all : length (map (λ x. x.mine) run.callers) ≡ length run.callers = length-map run.callers (λ (x : CallerRun). x.mine) in
      subst (λ (m : List Placed). Stands run.log c m)
      (sym (beyond (map (λ x. x.mine) run.callers) c [] (omega (arith, ge, all))))
      (none_stand run.log c (λ p x at its. let low = known p x at in omega (arith, low, its, ge, many))))
      (cases_lt c (length run.callers))

  pub certified : Fit run.log (map (λ r. r.mine) run.callers) → IsVerdict (certificate_text run.log (map (λ r. r.mine) run.callers)) Yes
  certified fit =
      let mines = map (λ r. r.mine) run.callers in
      let text = certificate_text run.log mines in
      let t = texts_are_certificates run.log mines fit in
      let is = t.1 in
      let same_log : run.log ≡ log_of text = sym t.2 ∙ is.log_is in (
        is.good,
        (
          subst Sound same_log sound,
          λ c below.
              let said : get_or t.0.lists c [] ≡ list_of text c =
              ap (λ l. get_or l c []) is.lists_are
              ∙ (get_or-map (list_of text) (upto 0 64) c 0 [] (omega (arith, below, length-upto 0 64))
              ∙ ap (list_of text) (get_or-upto 0 64 c 0 below ∙ omega arith)) in
              let own : get_or mines c [] ≡ list_of text c = sym (t.3 c below) ∙ said in
              subst (λ (log : List Change). Stands log c (list_of text c)) same_log
              (subst (λ (mine : List Placed). Stands run.log c mine) own (stands c)),
        ),
      )

pub runs_are_certified : RunsAreCertified
runs_are_certified lists answers marks run placed fit =
    certified (length lists) run placed.sound placed.known placed.callers placed.stand fit
