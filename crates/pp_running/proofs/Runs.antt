-- A run that was closed is one recorded run, and says what each caller did.
use Rattle.std.proofs.Common.{◌≡◌, ℕ, ◌<◌, List, ◌++◌, length, map, sym, ap, ◌∙◌, subst, arith}
use Rattle.std.specs.Prelude.{Some, slice_get}
use Rattle.std.proofs.lemmas.Option.{slice_get-get_or, slice_get_within}
use Rattle.std.proofs.lemmas.List.{length-map}
use Rattle.std.proofs.Math.ListN.{get_or}
use Rattle.pp_model.specs.declared.Call.{Call}
use Rattle.pp_model.specs.declared.Answer.{Answer}
use Rattle.pp_model.specs.declared.Pair.{Pair}
use Rattle.pp_model.specs.Lists.{AtEach}
use Rattle.pp_model.specs.History.{Stands}
use Rattle.pp_model.specs.Pass.{PassView, MapSizes, Meaning, RunView}
use Rattle.pp_model.specs.MapCalls.{AnswersCalls, IsClosing, caller_run, said_call, said_calls}
use Rattle.pp_model.proofs.Chains.{mine_grown}
use Rattle.pp_model.proofs.Closings.{closing_history}
use Rattle.pp_running.proofs.Lists.{at_mapped}
use Rattle.pp_running.specs.Run.{IsOpened, IsCaller, IsRunOf}

module _ (meaning : Meaning) (sizes : MapSizes) (races : ℕ) (opened closed : List PassView) (lists : List (List Call))
    (answers : List (List Answer)) (contents : List Pair) (free : List ℕ) (run : RunView)
    (closing : IsClosing meaning sizes closed contents free run) (opens : AtEach opened IsOpened)
    (closed_are : length closed ≡ length opened) (lists_are : length lists ≡ length opened) (answers_are : length answers ≡ length opened)
    (made : (c : ℕ) (pass now : PassView) (calls : List Call) (got : List Answer) → slice_get opened c ≡ Some pass
    → slice_get closed c ≡ Some now → slice_get lists c ≡ Some calls → slice_get answers c ≡ Some got
    → AnswersCalls meaning sizes races pass calls got now)
    (callers : AtEach closed (λ k p. p.caller ≡ k))
  where
    one_caller : (c : ℕ) (pass : PassView) (calls : List Call) (got : List Answer) → slice_get opened c ≡ Some pass
        → slice_get lists c ≡ Some calls → slice_get answers c ≡ Some got → IsCaller meaning sizes races run c pass calls got
    one_caller c pass calls got at list answer =
        let low : c < length closed = omega (arith, slice_get_within opened c pass at) in
        let now : PassView = get_or closed c pass in
        let here : slice_get closed c ≡ Some now = slice_get-get_or closed c pass low in
        let ran = made c pass now calls got at here list answer in
        let number : now.caller ≡ c = callers c now here in
        record {
          closed = now;
          made = ran;
          caller = number;
          listed = ap (λ l. slice_get l c) closing.callers_are ∙ at_mapped caller_run closed c now here;
          said = mine_grown meaning sizes races pass now calls got ran
              ∙ ap (λ l. map said_call l ++ said_calls calls got) (opens c pass at).fresh.mine;
          stands = subst (λ (n : ℕ). Stands run.log n now.mine) number (closing.stand c now here);
          seen = closing.seen c now here;
          order = closing.order c now here;
        }

    pub is_run : IsRunOf meaning sizes races opened lists answers run
    is_run = record {
      sizes_are = closing.sizes_are;
      passes = opens;
      sound = closing.sound;
      known = λ p c at. omega (arith, closing.known p c at);
      ordered = closing.ordered;
      passes_are = sym lists_are;
      answered = answers_are ∙ sym lists_are;
      callers = ap length closing.callers_are ∙ (length-map closed caller_run ∙ (closed_are ∙ sym lists_are));
      each = one_caller;
      history = closing_history meaning sizes closed contents free run closing callers;
    }
