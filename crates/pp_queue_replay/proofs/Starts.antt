-- A queue's replay from the passes with which its queue starts.
use Rattle.std.proofs.Common.{◌≡◌, ℕ, zero, suc, ◌+◌, ◌≤◌, Bool, true, false, cond, List, [], ◌∷◌, length, refl}
use Rattle.std.proofs.Common.{sym, ap, ap₂, ◌∙◌}
use Rattle.std.proofs.Common.{subst, arith, ⊎_elim, Some}
use Rattle.std.specs.Prelude.{slice_get, count_by}
use Rattle.std.proofs.lemmas.Bool.{cases_Bool}
use Rattle.std.proofs.lemmas.List.Sums.{sum_by-cons}
use Rattle.std.proofs.lemmas.Option.{slice_get-get_or, slice_get_within}
use Rattle.std.proofs.Math.ListN.{get_or}
use Rattle.pp_link.specs.declared.layout.Sizes.{Sizes}
use Rattle.pp_model.specs.Lists.{AtEach}
use Rattle.pp_rule.specs.declared.shape.Shape.{Ghosts}
use Rattle.pp_rule.specs.Opening.{share_of, start_of, numbers_from}
use Rattle.pp_base.specs.declared.pool.Pass.{Pass}
use Rattle.pp_words.specs.declared.Settings.{Settings}
use Rattle.pp_words.specs.Words.{InRange}
use Rattle.pp_queues.specs.declared.calls.QueueAnswer.{QueueAnswer}
use Rattle.pp_queues.specs.declared.calls.QueueAnswer.TheVariants.{Said, Full, Lost}
use Rattle.pp_queues.specs.declared.calls.QueueCall.{QueueCall}
use Rattle.pp_queues.specs.declared.calls.QueueChange.{QueueChange}
use Rattle.pp_queues.specs.declared.calls.QueuePlaced.{QueuePlaced}
use Rattle.pp_queues.specs.declared.own.QueueOwn.{QueueOwn}
use Rattle.pp_queues.specs.Calls.{QueuePassView}
use Rattle.pp_queues.specs.Queue.{items_of}
use Rattle.pp_queue.specs.Closings.{QueueRun}
use Rattle.pp_queue.specs.Passes.{IsNew, pass_seen, queue_sizes}
use Rattle.pp_programs.specs.Printed.{AreShort}
use Rattle.pp_programs.proofs.Counts.{none_counted, none_of_all}
use Rattle.pp_queue_replay.specs.Replay.{IsRunUnder}
use Rattle.pp_queue_replay.specs.Runs.{IsOpened, IsRunOf, IsCaller, puts}
use Rattle.pp_queue_replay.specs.Text.{is_full, is_lost}
use Rattle.pp_queue_replay.proofs.Chains.{answers_each, never_full, never_lost}

numbers_long : (low n : ℕ) → length (numbers_from low n) ≡ n
unfolding numbers_from
numbers_long low zero = refl
numbers_long low (suc n) = ap suc (numbers_long (low + 1) n)

module _ {S : Type 0} {shape : Ghosts S QueueChange QueuePlaced QueueOwn} where
  -- a new pass has done nothing, and its share is free
  pub opened_new : (z : Sizes) (c : ℕ) (p : Pass S QueueChange QueuePlaced QueueOwn shape) → IsNew z c p → IsOpened c (pass_seen p)
  opened_new z c p new = let is = new.seen_so in record {
    seen = ap (λ v. v.seen) is;
    mine = ap (λ v. v.mine) is;
    steps = ap (λ v. v.steps) is;
    order_is = ap (λ v. v.order) is;
    free = ap (λ v. length v.free) is ∙ (numbers_long (start_of 1 z c) (share_of 1 z c) ∙ sym (ap (λ v. v.share) is));
    caller = ap (λ v. v.caller) is;
  }

  pub share_new : (z : Sizes) (c : ℕ) (p : Pass S QueueChange QueuePlaced QueueOwn shape) → IsNew z c p
      → (pass_seen p).share ≡ share_of 1 z c
  share_new z c p new = ap (λ v. v.share) new.seen_so

full_is : (a : QueueAnswer) → is_full a ≡ true → a ≡ Full
full_is (Said r) e = absurd cc
full_is Full e = refl
full_is (Lost t) e = absurd cc

module _ (settings : Settings) (within : InRange settings) (opened : List QueuePassView) (lists : List (List QueueCall))
    (answers : List (List QueueAnswer)) (items : List ℕ) (run : QueueRun)
    (shares : AtEach opened (λ c pass. pass.share ≡ share_of 1 (queue_sizes settings.callers settings.records) c))
    (ran : IsRunOf (queue_sizes settings.callers settings.records) settings.races opened lists answers items run) where
  list_for : (c : ℕ) (got : List QueueAnswer) → slice_get answers c ≡ Some got → (calls : List QueueCall) × (slice_get lists c ≡ Some calls)
  list_for c got at = (get_or lists c [], slice_get-get_or lists c [] (omega (arith, slice_get_within answers c got at, ran.answered)))

  nobody : QueuePassView
  nobody = record { caller = 0; seen = []; mine = []; steps = []; order = []; free = []; retired_are = []; chains = 0; share = 0 }

  pass_for : (c : ℕ) (got : List QueueAnswer) → slice_get answers c ≡ Some got → (p : QueuePassView) × (slice_get opened c ≡ Some p)
  pass_for c got at = (
    get_or opened c nobody,
    slice_get-get_or opened c nobody (omega (arith, slice_get_within answers c got at, ran.answered, ran.passes_are)),
  )

  chain : (c : ℕ) (got : List QueueAnswer) (at : slice_get answers c ≡ Some got)
      → IsCaller (queue_sizes settings.callers settings.records) settings.races run c (pass_for c got at).0 (list_for c got at).0 got
  chain c got at = ran.each c (pass_for c got at).0 (list_for c got at).0 got (pass_for c got at).1 (list_for c got at).1 at

  pub under : IsRunUnder settings lists answers (items_of run.log) run
  under = record {
    opened = opened;
    shares = λ c p at. shares c p at ∙ ap (λ (z : Sizes). share_of 1 z c) (sym ran.sizes_are);
    ran = subst (λ (l : List ℕ). IsRunOf (queue_sizes settings.callers settings.records) settings.races opened lists answers l run)
        ran.items_are ran;
    none_full = λ enough. none_of_all is_full answers (λ c got at.
        let one = chain c got at in
        let pass = pass_for c got at in
        let list = list_for c got at in
        let own : pass.0.share ≡ share_of 1 run.sizes c =
        shares c pass.0 pass.1 ∙ ap (λ (z : Sizes). share_of 1 z c) (sym ran.sizes_are) in
        let need : puts list.0 ≤ share_of 1 run.sizes c = enough c list.0 list.1 in
        let fits : puts list.0 ≤ pass.0.share = omega arith in
        let never = never_full (queue_sizes settings.callers settings.records) settings.races pass.0 one.closed list.0 got one.made
        (ran.passes c pass.0 pass.1).free fits in
        none_counted is_full got (λ k a here yes. never k a here (full_is a yes)));
    none_lost = λ alone. none_of_all is_lost answers (λ c got at.
        let one = chain c got at in
        none_counted is_lost got (never_lost (queue_sizes settings.callers settings.records) settings.races (pass_for c got at).0
        alone one.closed (list_for c got at).0 got one.made));
  }

  -- one answer a call
  pub short : length lists ≡ settings.callers → AtEach lists (λ c calls. length calls ≤ 16777216) → AreShort answers
  short count each = record {
    callers = omega (arith, ran.answered, within.callers_high);
    each = λ c got at. let one = chain c got at in
        omega (
          arith,
          each c (list_for c got at).0 (list_for c got at).1,
          answers_each (queue_sizes settings.callers settings.records) settings.races (pass_for c got at).0 one.closed
              (list_for c got at).0 got one.made,
        );
  }
