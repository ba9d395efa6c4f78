-- A run that was closed is one recorded run, and says what each caller did.
use Rattle.std.proofs.Common.{◌≡◌, ℕ, suc, ◌+◌, ◌<◌, List, [], ◌∷◌, ◌++◌, length, map, Some, refl, sym, ap, ◌∙◌, subst, arith}
use Rattle.std.specs.Prelude.{slice_get}
use Rattle.std.proofs.lemmas.Option.{slice_get-get_or, slice_get_within}
use Rattle.std.proofs.lemmas.List.{length-map}
use Rattle.std.proofs.Math.ListN.{get_or}
use Rattle.pp_link.specs.declared.layout.Sizes.{Sizes}
use Rattle.pp_model.specs.Lists.{AtEach, RisesFrom}
use Rattle.pp_model.specs.Objects.{CallerList, callers_of, IsRecordedRun, IsHistory}
use Rattle.pp_model.proofs.CallersOrder.{is_history}
use Rattle.pp_model.specs.declared.steps.OrderEntry.{OrderEntry}
use Rattle.pp_rule.specs.Lists.{IsIn}
use Rattle.pp_rule.specs.Orders.{steps_of}
use Rattle.pp_queues.specs.declared.calls.QueueAnswer.{QueueAnswer}
use Rattle.pp_queues.specs.declared.calls.QueueCall.{QueueCall}
use Rattle.pp_queues.specs.declared.calls.QueueChange.{QueueChange}
use Rattle.pp_queues.specs.Calls.{QueuePassView}
use Rattle.pp_queues.specs.Queue.{queue, StandsIn}
use Rattle.pp_queue.specs.Closings.{IsClosing, QueueCaller, QueueRun, caller_run}
use Rattle.pp_queue_replay.specs.Runs.{AnswersCalls, said_call, said_calls, IsOpened, IsCaller, IsRunOf, caller_list}
use Rattle.pp_queue_replay.proofs.Chains.{mine_grown}
use Rattle.pp_queue_replay.proofs.Changes.{change_at, in_changes}
use Rattle.pp_running.proofs.Lists.{mapped_at, at_mapped}

-- the callers' lists that these passes show
abbrev pub lists_of : List QueuePassView → List (CallerList queue)
lists_of passes = map caller_list (map caller_run passes)

callers_rise : (low : ℕ) (passes : List QueuePassView) → AtEach passes (λ k p. p.caller ≡ low + k)
    → RisesFrom low (callers_of queue (lists_of passes))
callers_rise low [] callers = tt
callers_rise low (p ∷ passes) callers =
    let here : p.caller ≡ low + 0 = callers 0 p refl in
    (omega arith, callers_rise (p.caller + 1) passes (λ k q at. omega (arith, callers (suc k) q at)))

module _ (z : Sizes) (passes : List QueuePassView) (items free : List ℕ) (run : QueueRun)
    (closing : IsClosing z passes items free run) (all : length passes ≡ z.passes) where
  -- a change of the log is that of one of the passes
  pub known : AtEach run.log (λ p c. c.caller < length passes)
  known p c at = let from = in_changes run.order c (subst (λ (l : List QueueChange). IsIn c l) closing.log_is (change_at run.log p c at)) in
      let e : OrderEntry QueueChange = from.0 in let low = closing.made e from.1.0 in let own = closing.own e c from.1.0 from.1.1 in
      omega arith

  callers : AtEach passes (λ k p. p.caller ≡ k)
  callers k p at = (closing.each k p at).caller_is

  recorded : IsRecordedRun queue run.log (lists_of passes)
  recorded = record {
    sound = closing.sound;
    rise = callers_rise 0 passes (λ k p at. omega (arith, callers k p at));
    known = λ p c at. has_list c (known p c at);
    stand = λ k l at.
        let from = mapped_at caller_list (map caller_run passes) k l at in
        let was = mapped_at caller_run passes k from.0 from.1 in
        subst (λ (x : CallerList queue). StandsIn run.log x.caller x.mine) (ap caller_list was.2 ∙ from.2)
        (subst (λ (n : ℕ). StandsIn run.log n was.0.mine) (sym (callers k was.0 was.1)) (closing.each k was.0 was.1).stands);
  }
    where
      has_list : (c : QueueChange) → c.caller < length passes → Rattle.pp_model.specs.Objects.HasList queue c.caller (lists_of passes)
      has_list c low =
          let p : QueuePassView = get_or passes c.caller p0 in
          let here = slice_get-get_or passes c.caller p0 low in
          let list : CallerList queue = record { caller = c.caller; mine = p.mine } in
          let same : caller_list (caller_run p) ≡ list =
          ap (λ (n : ℕ). let l : CallerList queue = record { caller = n; mine = p.mine } in l) (callers c.caller p here) in
          record {
            position = c.caller;
            mine = p.mine;
            is_one = at_mapped caller_list (map caller_run passes) c.caller (caller_run p) (at_mapped caller_run passes c.caller p here)
                ∙ ap (λ (x : CallerList queue). Some x) same;
          }
        where
          p0 : QueuePassView
          p0 = record { caller = 0; seen = []; mine = []; steps = []; order = []; free = []; retired_are = []; chains = 0; share = 0 }

  pub history : IsHistory queue run.log (map caller_list run.callers)
  history = is_history queue run.log (map caller_list run.callers)
      (subst (λ (cs : List QueueCaller). IsRecordedRun queue run.log (map caller_list cs)) (sym closing.callers_are) recorded)

  own_steps : AtEach run.callers (λ k r. r.steps ≡ steps_of r.caller run.order)
  own_steps k r at =
      let from = mapped_at caller_run passes k r (ap (λ (l : List QueueCaller). slice_get l k) (sym closing.callers_are) ∙ at) in
      let p = from.0 in let c = closing.each k p from.1 in
      subst (λ (x : QueueCaller). x.steps ≡ steps_of x.caller run.order) from.2
      (c.steps ∙ ap (λ (n : ℕ). steps_of n run.order) (sym c.caller_is))

  module _ (races : ℕ) (opened : List QueuePassView) (lists : List (List QueueCall)) (answers : List (List QueueAnswer))
      (opens : AtEach opened IsOpened) (closed_are : length passes ≡ length opened) (lists_are : length lists ≡ length opened)
      (answers_are : length answers ≡ length opened)
      (made : (c : ℕ) (pass now : QueuePassView) (calls : List QueueCall) (got : List QueueAnswer) → slice_get opened c ≡ Some pass
      → slice_get passes c ≡ Some now → slice_get lists c ≡ Some calls → slice_get answers c ≡ Some got
      → AnswersCalls z races pass calls got now) where
    one_caller : (c : ℕ) (pass : QueuePassView) (calls : List QueueCall) (got : List QueueAnswer) → slice_get opened c ≡ Some pass
        → slice_get lists c ≡ Some calls → slice_get answers c ≡ Some got → IsCaller z races run c pass calls got
    one_caller c pass calls got at list answer =
        let low : c < length passes = omega (arith, slice_get_within opened c pass at) in
        let now : QueuePassView = get_or passes c pass in
        let here : slice_get passes c ≡ Some now = slice_get-get_or passes c pass low in
        let ran = made c pass now calls got at here list answer in
        let closed = closing.each c now here in
        record {
          closed = now;
          made = ran;
          caller = closed.caller_is;
          listed = ap (λ l. slice_get l c) closing.callers_are ∙ at_mapped caller_run passes c now here;
          said = mine_grown z races pass now calls got ran ∙ ap (λ l. map said_call l ++ said_calls calls got) (opens c pass at).mine;
          stands = closed.stands;
          seen = closed.seen;
          order_is = closed.order_is;
        }

    pub is_run : IsRunOf z races opened lists answers items run
    is_run = record {
      sizes_are = closing.sizes_are;
      passes = opens;
      sound = closing.sound;
      items_are = closing.items_are;
      known = λ p c at. omega (arith, known p c at);
      logged = closing.log_is;
      execution = closing.execution;
      own_passes = λ e i. let low = closing.made e i in omega arith;
      own_changes = closing.own;
      own_steps = own_steps;
      passes_are = sym lists_are;
      answered = answers_are ∙ sym lists_are;
      callers = ap length closing.callers_are ∙ (length-map passes caller_run ∙ (closed_are ∙ sym lists_are));
      each = one_caller;
      history = history;
    }
