-- What the jobs of a run say of passes, lists and answers.
use Rattle.std.proofs.Common.{◌≡◌, ℕ, List, length, map, ap, sym, ◌∙◌, subst, Vec, Global}
use Rattle.std.specs.Prelude.{Some, slice_get}
use Rattle.pp_model.specs.declared.Call.{Call}
use Rattle.pp_model.specs.declared.Answer.{Answer}
use Rattle.pp_model.specs.Lists.{AtEach}
use Rattle.pp_model.specs.Pass.{PassView, MapSizes, Meaning, RunView}
use Rattle.pp_model.specs.declared.Pair.{Pair}
use Rattle.pp_model.specs.MapCalls.{AnswersCalls, IsClosing}
use Rattle.pp_model.proofs.Chains.{caller_kept}
use Rattle.pp_callers.specs.declared.Job.{Job}
use Rattle.pp_callers.specs.Jobs.{AtBoth}
use Rattle.pp_running.specs.Run.{IsOpened, IsRunOf}
use Rattle.pp_running.proofs.JobsDone as jobs
use Rattle.pp_running.proofs.Runs.{is_run}
use Rattle.pp_running.proofs.Lists.{mapped_at}

-- a chain of calls at equal ends
at_equal : (meaning : Meaning) (sizes : MapSizes) (races : ℕ) (p q m n : PassView) (calls more : List Call) (got given : List Answer)
    → p ≡ q → calls ≡ more → got ≡ given → m ≡ n → AnswersCalls meaning sizes races p calls got m
    → AnswersCalls meaning sizes races q more given n
at_equal meaning sizes races p q m n calls more got given a b c d ran = rw (← a, ← b, ← c, ← d) ran

module _ {P : Type 0} (view : P → PassView) (Belongs Idle : P → Type 0) (meaning : Meaning) (sizes : MapSizes) (races : ℕ) where
  -- what a caller did
  abbrev pub Did : Job P Call Answer → Job P Call Answer → Type 0
  Did a b = Belongs b.pass × Idle b.pass × (b.caller ≡ a.caller) × (b.calls.items ≡ a.calls.items)
      × AnswersCalls meaning sizes races (view a.pass) a.calls.items b.answers.items (view b.pass)

  module _ (passes : List P) (lists : List (Vec Call Global)) (was now : List (Job P Call Answer))
      (passes_are : map (λ job. job.pass) was ≡ passes) (lists_are : map (λ job. job.calls) was ≡ lists)
      (opens : AtEach passes (λ c pass. Belongs pass × Idle pass × IsOpened c (view pass))) (ran : AtBoth was now Did) where
    pub closes : AtEach (map (λ job. job.pass) now) (λ k pass. Belongs pass × Idle pass × ((view pass).caller ≡ k))
    closes k pass at =
        let from = jobs.left Did passes lists was now passes_are lists_are ran k pass at in
        let y : Job P Call Answer = from.0 in
        let x : Job P Call Answer = from.1.was in
        let both = from.1.did in
        let opened = opens k x.pass from.1.pass in
        subst (λ (p : P). Belongs p × Idle p × ((view p).caller ≡ k)) from.2
        (both.0, both.1, caller_kept meaning sizes races (view x.pass) (view y.pass) x.calls.items y.answers.items both.4 ∙ opened.2.caller)

    made : (c : ℕ) (pass last : PassView) (calls : List Call) (got : List Answer) → slice_get (map view passes) c ≡ Some pass
        → slice_get (map view (map (λ job. job.pass) now)) c ≡ Some last → slice_get (map (λ v. v.items) lists) c ≡ Some calls
        → slice_get (map (λ v. v.items) (map (λ job. job.answers) now)) c ≡ Some got → AnswersCalls meaning sizes races pass calls got last
    made c pass last calls got at after list answer =
        let one = jobs.told Did passes lists was now passes_are lists_are ran view c pass last calls got at after list answer in
        let x : Job P Call Answer = one.0 in
        let y : Job P Call Answer = one.1 in
        at_equal meaning sizes races (view x.pass) pass (view y.pass) last x.calls.items calls y.answers.items got
        one.3 one.4 one.5 one.6 one.2.4

    -- closing what the jobs left makes one run
    pub runs : (contents : List Pair) (free : List ℕ) (run : RunView)
        → IsClosing meaning sizes (map view (map (λ job. job.pass) now)) contents free run → length lists ≡ length passes
        → IsRunOf meaning sizes races (map view passes) (map (λ v. v.items) lists) (map (λ v. v.items) (map (λ job. job.answers) now)) run
    runs contents free run closing lists_are_all =
        is_run meaning sizes races (map view passes) (map view (map (λ job. job.pass) now)) (map (λ v. v.items) lists)
        (map (λ v. v.items) (map (λ job. job.answers) now)) contents free run closing
        (λ c v at. let from = mapped_at view passes c v at in subst (IsOpened c) from.2 (opens c from.0 from.1).2)
        (jobs.passes_left Did passes lists was now passes_are lists_are ran view)
        (jobs.lists_left Did passes lists was now passes_are lists_are ran view lists_are_all)
        (jobs.answers_left Did passes lists was now passes_are lists_are ran view)
        made
        (λ k v at. let from = mapped_at view (map (λ job. job.pass) now) k v at in
        ap (λ p. p.caller) (sym from.2) ∙ (closes k from.0 from.1).2)
