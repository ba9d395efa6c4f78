-- What each caller of a run did, by its answers; and a caller that is alone loses no call.
use Rattle.std.proofs.Common.{◌≡◌, ◌≤◌, ℕ, List, [], arith}
use Rattle.std.specs.Prelude.{Some, slice_get}
use Rattle.std.proofs.lemmas.Option.{slice_get-get_or, slice_get_within}
use Rattle.std.proofs.Math.ListN.{get_or}
use Rattle.pp_model.specs.declared.Answer.{Answer}
use Rattle.pp_model.specs.declared.Answer.TheVariants.{Lost}
use Rattle.pp_model.specs.declared.Call.{Call}
use Rattle.pp_model.specs.Lists.{AtEach}
use Rattle.pp_model.specs.Pass.{PassView, MapSizes, Meaning, RunView}
use Rattle.pp_model.specs.MapCalls.{IsClean}
use Rattle.pp_model.proofs.Chains.{alone_never_lost}
use Rattle.pp_running.specs.Run.{IsRunOf, IsCaller}

nobody : PassView
nobody = record {
  caller = 0;
  seen = [];
  mine = [];
  steps = [];
  order = [];
  wrote = 0;
  room = 0;
  free = [];
  retired = [];
  chains = 0;
  share = 0;
}

module _ (meaning : Meaning) (sizes : MapSizes) (races : ℕ) (opened : List PassView) (lists : List (List Call))
    (answers : List (List Answer)) (run : RunView) (ran : IsRunOf meaning sizes races opened lists answers run) where
  pub list_for : (c : ℕ) (got : List Answer) → slice_get answers c ≡ Some got → (calls : List Call) × (slice_get lists c ≡ Some calls)
  list_for c got at = (get_or lists c [], slice_get-get_or lists c [] (omega (arith, slice_get_within answers c got at, ran.answered)))

  pub pass_for : (c : ℕ) (got : List Answer) → slice_get answers c ≡ Some got → (p : PassView) × (slice_get opened c ≡ Some p)
  pass_for c got at = (
    get_or opened c nobody,
    slice_get-get_or opened c nobody (omega (arith, slice_get_within answers c got at, ran.answered, ran.passes_are)),
  )

  pub chain : (c : ℕ) (got : List Answer) (at : slice_get answers c ≡ Some got)
      → IsCaller meaning sizes races run c (pass_for c got at).0 (list_for c got at).0 got
  chain c got at = ran.each c (pass_for c got at).0 (list_for c got at).0 got (pass_for c got at).1 (list_for c got at).1 at

  -- With one pass, that opened on a map where no record of a removed pair was attached, no call is lost.
  pub none_lost : AtEach opened (λ c p. IsClean meaning sizes p) → sizes.passes ≡ 1 → 1 ≤ races
      → AtEach answers (λ c got. AtEach got (λ k a. (turns : ℕ) → a ≡ Lost turns → ⊥))
  none_lost clean one some c got at = let pass = pass_for c got at in
      alone_never_lost meaning sizes races pass.0 (chain c got at).closed (list_for c got at).0 got (chain c got at).made one
      (clean c pass.0 pass.1) some
