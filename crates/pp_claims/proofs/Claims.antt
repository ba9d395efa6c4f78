-- What the claims of a tally owe a run, and what the run says of their answers.
use Rattle.std.proofs.Common.{◌≡◌, ℕ, ◌<◌, ◌≤◌, List, [], length, map, get_or, Vec, Global}
use Rattle.std.proofs.Common.{sym, ap, ◌∙◌, arith}
use Rattle.std.proofs.lemmas.Option.{slice_get-get_or, slice_get_within}
use Rattle.std.proofs.lemmas.List.{length-map}
use Rattle.pp_model.specs.declared.Answer.{Answer}
use Rattle.pp_model.specs.declared.Call.{Call}
use Rattle.pp_model.specs.Calls.{key_of}
use Rattle.pp_model.specs.Lists.{AtEach}
use Rattle.pp_model.specs.Pass.{PassView, MapSizes, Meaning, RunView}
use Rattle.pp_model.proofs.Chains.{answers_each}
use Rattle.pp_trace.specs.TraceLists.{KeysFit}
use Rattle.pp_running.specs.Jobs.{HaveRoom, views_of}
use Rattle.pp_running.specs.Run.{IsRunOf}
use Rattle.pp_running.proofs.Lists.{mapped_at, at_mapped}
use Rattle.pp_pieces.specs.Claims.{all_claims}
use Rattle.pp_claims.proofs.Lists.{list_at, are_claims, claims_long, all_long}
use Rattle.pp_claims.proofs.Owners.{caller_at}

-- the keys of claims are in range
pub keys_fit : (callers pieces : ℕ) → pieces ≤ 4096 → KeysFit (all_claims callers pieces)
keys_fit callers pieces few c calls list j call at =
    let claim = are_claims callers pieces c calls list j call at in omega (arith, few, claim.1, ap key_of claim.2)

-- each pass has room for its claims
pub rooms : {P : Type 0} (view : P → PassView) (passes : List P) (callers pieces : ℕ) → AtEach passes (λ c pass. pieces ≤ (view pass).room)
    → HaveRoom (views_of view passes) (all_claims callers pieces)
rooms view passes callers pieces room c pass calls at list =
    let from = mapped_at view passes c pass at in
    let long = ap length (list_at callers pieces c calls list).1 ∙ claims_long callers pieces c in
    let same = ap (λ (p : PassView). p.room) from.2 in
    omega (arith, room c from.0 from.1, long, same)

module _ (meaning : Meaning) (sizes : MapSizes) (races callers pieces : ℕ) (opened : List PassView) (answers : List (Vec Answer Global))
    (run : RunView) (ran : IsRunOf meaning sizes races opened (all_claims callers pieces) (map (λ v. v.items) answers) run)
  where
    pub answers_long : length answers ≡ callers
    answers_long = sym (length-map answers (λ v. v.items)) ∙ (ran.answered ∙ all_long callers pieces)

    -- each claim has an answer
    pub each_answered : AtEach answers (λ c got. length got.items ≡ pieces)
    each_answered c got at =
        let here = slice_get_within answers c got at in
        let low : c < length (all_claims callers pieces) = omega (arith, here, answers_long, all_long callers pieces) in
        let calls : List Call = get_or (all_claims callers pieces) c [] in
        let list = slice_get-get_or (all_claims callers pieces) c [] low in
        let one = caller_at meaning sizes races pieces opened (all_claims callers pieces) (map (λ v. v.items) answers) run ran
        (are_claims callers pieces) c calls got.items list (at_mapped (λ v. v.items) answers c got at) in
        answers_each meaning sizes races one.0 one.1.closed calls got.items one.1.made
        ∙ (ap length (list_at callers pieces c calls list).1 ∙ claims_long callers pieces c)
