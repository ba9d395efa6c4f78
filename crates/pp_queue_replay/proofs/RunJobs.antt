-- What the jobs of a run say of passes, lists and answers.
use Rattle.std.proofs.Common.{◌≡◌, ℕ, List, length, map, sym, ap, ◌∙◌, subst, Vec, Global}
use Rattle.std.specs.Prelude.{Some, slice_get}
use Rattle.std.proofs.lemmas.List.{length-map}
use Rattle.pp_link.specs.declared.layout.Sizes.{Sizes}
use Rattle.pp_callers.specs.declared.Job.{Job}
use Rattle.pp_callers.specs.Jobs.{AtBoth}
use Rattle.pp_model.specs.Lists.{AtEach}
use Rattle.pp_running.proofs.JobsDone as jobs
use Rattle.pp_running.proofs.Lists.{mapped_at}
use Rattle.pp_queues.specs.declared.calls.QueueAnswer.{QueueAnswer}
use Rattle.pp_queues.specs.declared.calls.QueueCall.{QueueCall}
use Rattle.pp_queues.specs.Calls.{QueuePassView}
use Rattle.pp_queue.specs.Closings.{IsClosing, QueueRun}
use Rattle.pp_queue_replay.specs.Runs.{AnswersCalls, IsOpened, IsRunOf}
use Rattle.pp_queue_replay.proofs.Chains.{caller_kept}
use Rattle.pp_queue_replay.proofs.Runs.{is_run}

-- a chain of calls at equal ends
at_equal : (z : Sizes) (races : ℕ) (p q m n : QueuePassView) (calls more : List QueueCall) (got given : List QueueAnswer)
    → p ≡ q → calls ≡ more → got ≡ given → m ≡ n → AnswersCalls z races p calls got m → AnswersCalls z races q more given n
at_equal z races p q m n calls more got given a b c d ran = rw (← a, ← b, ← c, ← d) ran

module _ {P : Type 0} (Did : Job P QueueCall QueueAnswer → Job P QueueCall QueueAnswer → Type 0) (view : P → QueuePassView)
    (Ready : P → Type 0) (z : Sizes) (races : ℕ) (ready : (a b : Job P QueueCall QueueAnswer) → Did a b → Ready b.pass)
    (answered : (a b : Job P QueueCall QueueAnswer) → Did a b
    → AnswersCalls z races (view a.pass) a.calls.items b.answers.items (view b.pass))
    (passes : List P) (lists : List (Vec QueueCall Global)) (was now : List (Job P QueueCall QueueAnswer))
    (passes_are : map (λ job. job.pass) was ≡ passes) (lists_are : map (λ job. job.calls) was ≡ lists)
    (opens : AtEach passes (λ c pass. Ready pass × IsOpened c (view pass))) (ran : AtBoth was now Did)
  where
    pub closes : AtEach (map (λ job. job.pass) now) (λ k pass. Ready pass × ((view pass).caller ≡ k))
    closes k pass at =
        let from = jobs.left Did passes lists was now passes_are lists_are ran k pass at in
        let y : Job P QueueCall QueueAnswer = from.0 in
        let x : Job P QueueCall QueueAnswer = from.1.was in
        let did = from.1.did in
        let opened = opens k x.pass from.1.pass in
        subst (λ (p : P). Ready p × ((view p).caller ≡ k)) from.2 (
          ready x y did,
          caller_kept z races (view x.pass) (view y.pass) x.calls.items y.answers.items (answered x y did) ∙ opened.1.caller,
        )

    made : (c : ℕ) (pass last : QueuePassView) (calls : List QueueCall) (got : List QueueAnswer)
        → slice_get (map view passes) c ≡ Some pass
        → slice_get (map view (map (λ job. job.pass) now)) c ≡ Some last → slice_get (map (λ v. v.items) lists) c ≡ Some calls
        → slice_get (map (λ v. v.items) (map (λ job. job.answers) now)) c ≡ Some got
        → AnswersCalls z races pass calls got last
    made c pass last calls got at after list answer =
        let one = jobs.told Did passes lists was now passes_are lists_are ran view c pass last calls got at after list answer in
        let x : Job P QueueCall QueueAnswer = one.0 in
        let y : Job P QueueCall QueueAnswer = one.1 in
        at_equal z races (view x.pass) pass (view y.pass) last x.calls.items calls y.answers.items got
        one.3 one.4 one.5 one.6 (answered x y one.2)

    -- closing what the jobs left makes one run
    pub runs : (items free : List ℕ) (run : QueueRun)
        → IsClosing z (map view (map (λ job. job.pass) now)) items free run → length lists ≡ length passes
        → length passes ≡ z.passes
        → IsRunOf z races (map view passes) (map (λ v. v.items) lists)
        (map (λ v. v.items) (map (λ job. job.answers) now)) items run
    runs items free run closing lists_are_all all =
        let left = jobs.passes_left Did passes lists was now passes_are lists_are ran view in
        is_run z (map view (map (λ job. job.pass) now)) items free run closing
        (left ∙ (length-map passes view ∙ all))
        races (map view passes) (map (λ v. v.items) lists) (map (λ v. v.items) (map (λ job. job.answers) now))
        (λ c v at. let from = mapped_at view passes c v at in subst (IsOpened c) from.2 (opens c from.0 from.1).1)
        left
        (jobs.lists_left Did passes lists was now passes_are lists_are ran view lists_are_all)
        (jobs.answers_left Did passes lists was now passes_are lists_are ran view)
        made
