-- Whole calls on a queue meet their clauses.
use Rattle.std.proofs.Common.{◌≡◌, ⊎_elim, ◌⊎◌, inl, inr, ℕ, zero, suc, ◌+◌, ◌<◌, ◌≤◌, min, Bool, true, false}
use Rattle.std.proofs.Common.{List, [], ◌∷◌, ◌++◌, length, map}
use Rattle.std.proofs.Common.{length-append, get_or, refl, sym, ap, ◌∙◌, subst, arith, Option, Some, None, Result, Ok, Err}
use Rattle.std.specs.Prelude.{replicate}
use Rattle.atomic_table.specs.declared.shared.Seat.{Seat}
use Rattle.std.proofs.Math.Bool.{false≢true}
use Rattle.pp_link.specs.declared.layout.Sizes.{Sizes}
use Rattle.pp_model.specs.declared.InsertFault.TheVariants as fault
use Rattle.pp_model.specs.declared.Lost.{Lost}
use Rattle.pp_model.specs.declared.steps.Step.{Step}
use Rattle.pp_model.specs.Pass.{seen_first}
use Rattle.pp_rule.specs.Causes.{FoundNone, FoundTaken}
use Rattle.pp_rule.specs.declared.views.WalkSlot.{WalkSlot}
use Rattle.pp_rule.specs.Lists.{BeginsWith}
use Rattle.pp_rule.specs.Orders.{placed_by}
use Rattle.pp_rule.specs.Steps.{IsAlone}
use Rattle.pp_rule.specs.Views.{slot, blank}
use Rattle.pp_base.proofs.Steady.{named_at}
use Rattle.pp_base.specs.declared.purse.Purse.{Purse}
use Rattle.pp_base.specs.Made.{HasRun}
use Rattle.pp_base.specs.Passes.{view, named_of, IsPassOf, IsSame}
use Rattle.pp_calls.proofs.Growing.{stepped_both}
use Rattle.pp_shelf.specs.Runs.{steps_made}
use Rattle.pp_unlink.specs.Invalidation.{SameFree}
use Rattle.pp_queues.specs.declared.calls.QueueCall.{QueueCall}
use Rattle.pp_queues.specs.declared.calls.QueueCall.TheVariants as call
use Rattle.pp_queues.specs.declared.calls.QueueReply.TheVariants as said
use Rattle.pp_queues.specs.declared.calls.QueuePlaced.{QueuePlaced}
use Rattle.pp_queues.specs.Contents.{queue_caller}
use Rattle.pp_queues.specs.Queue.{reply, placed}
use Rattle.pp_queues.specs.Queues.{QueuePass, QueueView, HasOwn, Queues, queue_head, queue_field}
use Rattle.pp_queues.specs.Turns.{StandsThen}
use Rattle.pp_queues.specs.Losses.{Tally, losing, striking, Ran}
use Rattle.pp_queues.specs.Calls.{queue_view, map_sizes, TriedToMove, AnswersQueue, put_answer, take_answer}
use Rattle.pp_queues.proofs.Counting.{ran_both}
use Rattle.pp_queue.specs.Calling.{EmptyFrom}
use Rattle.pp_queue.specs.Answers.{Idles, RanOut, Tidies, TakeSays, TookNone, TookValue, PutDone, GaveUp}
use Rattle.pp_queue.proofs.Answering.{since, since_is, grew, stand, lost_is, early_is, start_is, stepped, mine_same}
use Rattle.pp_queue.proofs.Answering.{places_change, tidies, right_on, log_long}
use Rattle.pp_queue.proofs.Reclaiming.{since_made}
use Rattle.pp_queue.proofs.Publishing.{tried_later, tried_on}
use Rattle.pp_queue.proofs.Finishing.{steps_both, taken_later}

-- all names are 0 where each walk word is empty, and the other way round
names_zero : (ws : List WalkSlot) (k : ℕ) → length ws ≡ k → ((j : ℕ) → j < k → (get_or ws j blank).named ≡ 0)
    → map named_of ws ≡ replicate k zero
names_zero [] zero long each = refl
names_zero [] (suc k) long each = absurd (omega arith)
names_zero (w ∷ ws) zero long each = absurd (omega arith)
names_zero (w ∷ ws) (suc k) long each = let first : w.named ≡ 0 = each 0 (omega arith) in
    ap (λ (n : ℕ). n ∷ map named_of ws) first
    ∙ ap (λ (ns : List ℕ). 0 ∷ ns) (names_zero ws k (omega arith) (λ j lt. each (suc j) (omega arith)))

pub walk_zero : (q : QueuePass) (walk : List ℕ) → length q.walk ≡ 5 → map named_of q.walk ≡ walk → EmptyFrom 0 q
    → walk ≡ replicate 5 zero
walk_zero q walk five is empty = sym is ∙ names_zero q.walk 5 five (λ j lt. (empty j (omega arith) lt).1)

zero_at : (k j : ℕ) → get_or (replicate k zero) j 0 ≡ 0
zero_at zero j = refl
zero_at (suc k) zero = refl
zero_at (suc k) (suc j) = zero_at k j

is_false : (b : Bool) → (b ≡ true → ⊥) → b ≡ false
is_false true never = absurd (never refl)
is_false false never = refl

pub empty_of : (z : Sizes) (q : QueuePass) (walk : List ℕ) → IsPassOf z q → map named_of q.walk ≡ walk → walk ≡ replicate 5 zero
    → EmptyFrom 0 q
empty_of z q walk pass is none j lo lt = let named : (slot q j).named ≡ 0 =
    sym (named_at q.walk (replicate 5 zero) j (is ∙ none)) ∙ zero_at 5 j in
    (is_false (slot q j).held (λ h. let number = (pass.held j lt h).0 in omega arith), named)

-- the changes of the steps that a pass has seen are their passes' own
pub own_of : (s : Seat Unit QueueView) → IsAlone s.me → HasRun 1 1 queue_head queue_field Queues queue_caller (view s)
    → HasOwn (view s).order
own_of s lone run = (run (ap (λ (v : QueueView). v.standing) lone.1)).run.own

-- the first of some steps and of more
seen_front : (xs ys : List Step) → 0 < length xs → seen_first 0 (xs ++ ys) ≡ seen_first 0 xs
seen_front [] ys long = absurd (omega arith)
seen_front (x ∷ xs) ys long = refl

-- the steps of a call, and those of its tidying
pub record Joined (passes : ℕ) (t : Tally) (u v w : QueueView) (a : Ran passes (losing 0 0) t u v) : Type 0 where
  pub ran : Ran passes (losing 0 0) t u w
  pub later : List Step
  pub steps_are : ran.stepped.steps ≡ a.stepped.steps ++ later

joined : (passes : ℕ) (t : Tally) (u v w : QueueView) (a : Ran passes (losing 0 0) t u v) → Idles passes v w
    → Joined passes t u v w a
unfolding ran_both stepped_both
joined passes t u v w a b = record {
  ran = ran_both passes (losing 0 0) t t u v w a (b.ran t);
  later = (b.ran t).stepped.steps;
  steps_are = refl;
}

module _ (z : Sizes) (races : ℕ) (v0 v1 w : QueueView) (p0 p1 p2 : Purse) (share : ℕ) (few : 1 ≤ races) (b : Idles z.passes v1 w)
    (tidy : Tidies z share v1 w p1 p2) (same : SameFree p0 p1) (chains : length w.known.chains ≤ 4) (own : HasOwn w.order)
    (stands : StandsThen v0) (level : z.passes ≡ 1 → v0.known.own.behind ≡ false) where
  shared_all : (t : Tally) → Ran z.passes (losing 0 0) t v0 v1
      → (length p2.free.items ≤ share) ⊎ FoundTaken (map_sizes z) (steps_made v0 w)
  shared_all t a = ⊎_elim (λ (le : length p2.free.items ≤ share). inl le)
      (λ (f : FoundTaken (map_sizes z) (steps_made v1 w)). inr (subst (FoundTaken (map_sizes z))
      (sym (steps_both v0 v1 w a.stepped (b.ran t).stepped)) (taken_later (map_sizes z) (steps_made v0 v1) (steps_made v1 w) f)))
      tidy.shared

  kept_all : min (length p0.free.items) share ≤ length p2.free.items + 0
  kept_all = let k = tidy.kept in let e = ap (λ f. length f.items) same.free in omega arith

  mine_on : (calls : List QueuePlaced) → v1.known.number ≡ v0.known.number
      → placed_by v0.known.number v1.order ≡ placed_by v0.known.number v0.order ++ calls
      → placed_by v0.known.number w.order ≡ placed_by v0.known.number v0.order ++ calls
  mine_on calls number e = subst (λ (n : ℕ). placed_by n w.order ≡ placed_by n v1.order) number b.mine ∙ e

  order_on : (t : Tally) → BeginsWith w.order v1.order
  order_on t = (b.ran t).stepped.order

  took_none : TookNone z.passes races v0 v1
      → AnswersQueue z call.Take races (queue_view v0 p0.free.items share) (queue_view w p2.free.items share)
      (take_answer (Ok None))
  took_none n = let t : Tally = losing n.word n.lost in let j = joined z.passes t v0 v1 w n.ran b in let r = j.ran in
      let f0 : List ℕ = p0.free.items in let f2 : List ℕ = p2.free.items in
      let real : 0 < length r.stepped.steps = (let long = ap (λ (l : List Step). length l) j.steps_are
      ∙ length-append n.ran.stepped.steps j.later in let x = n.some in omega arith) in
      let begins = order_on t in let up = log_long w v1 begins in
      let start = start_is z call.Take v0 w f0 f2 share t r real n.start
      (ap (seen_first 0) j.steps_are ∙ (seen_front n.ran.stepped.steps j.later n.some ∙ n.started)) in
      let lo = n.since in let from = n.from in let hi = n.within in record {
        grew = grew z call.Take v0 w f0 f2 share t r real;
        says = record {
          place = n.place;
          mine = subst (λ (m : ℕ). placed_by m w.order ≡ placed_by v0.known.number v0.order ++ placed call.Take said.Empty
              n.place ∷ [])
              (sym r.stepped.number) (mine_on (placed call.Take said.Empty n.place ∷ []) n.ran.stepped.number n.mine);
          since = omega arith;
          within = omega arith;
          above = λ bad. absurd (false≢true bad);
          from_start = λ _. omega arith;
          right = λ _. ap (λ (items : List ℕ). reply items call.Take) (right_on v1 w n.place begins hi) ∙ n.right;
          least = λ _ p from lt is. n.least p (omega arith) lt
              (ap (λ (items : List ℕ). reply items call.Take) (sym (right_on v1 w p begins (omega arith))) ∙ is);
        };
        stands = stand z call.Take v0 w f0 f2 share t r real own stands;
        lost = let e = early_is z call.Take v0 w f0 f2 share t r real in let x = n.few in omega arith;
        cause = tt;
        purse = tidies z call.Take v0 w f0 f2 share t r real tidy.few chains (shared_all t n.ran) kept_all;
        full = tt;
        stepped = stepped z call.Take v0 w f0 f2 share t r real;
        alone = λ _. tt;
        none_lost = λ one. lost_is z call.Take v0 w f0 f2 share t r real ∙ n.alone one (level one);
      }

  took_value : (v : ℕ) → TookValue z.passes races v v0 v1
      → AnswersQueue z call.Take races (queue_view v0 p0.free.items share) (queue_view w p2.free.items share)
      (take_answer (Ok (Some v)))
  took_value v n = let t : Tally = striking n.word n.lost in let j = joined z.passes t v0 v1 w n.ran b in let r = j.ran in
      let f0 : List ℕ = p0.free.items in let f2 : List ℕ = p2.free.items in
      let real : 0 < length r.stepped.steps = (let long = ap (λ (l : List Step). length l) j.steps_are
      ∙ length-append n.ran.stepped.steps j.later in let x = n.some in omega arith) in
      let begins = order_on t in let up = log_long w v1 begins in let hi = n.took.within in record {
        grew = grew z call.Take v0 w f0 f2 share t r real;
        says = places_change z call.Take v0 w f0 f2 share t r real (said.Took v) n.took.place refl
            (mine_on (placed call.Take (said.Took v) n.took.place ∷ []) n.ran.stepped.number n.took.mine) n.took.above
            (omega arith);
        stands = stand z call.Take v0 w f0 f2 share t r real own stands;
        lost = let e = early_is z call.Take v0 w f0 f2 share t r real in let x = n.few in omega arith;
        cause = tt;
        purse = tidies z call.Take v0 w f0 f2 share t r real tidy.few chains (shared_all t n.ran) kept_all;
        full = tt;
        stepped = stepped z call.Take v0 w f0 f2 share t r real;
        alone = λ _. tt;
        none_lost = λ one. lost_is z call.Take v0 w f0 f2 share t r real ∙ n.alone one (level one);
      }

  took_lost : (e : Lost) → GaveUp z.passes e.turns races v0 v1
      → AnswersQueue z call.Take races (queue_view v0 p0.free.items share) (queue_view w p2.free.items share)
      (take_answer (Err e))
  took_lost e n = let t : Tally = losing n.word races in let j = joined z.passes t v0 v1 w n.ran b in let r = j.ran in
      let f0 : List ℕ = p0.free.items in let f2 : List ℕ = p2.free.items in
      let real : 0 < length r.stepped.steps = (let long = ap (λ (l : List Step). length l) j.steps_are
      ∙ length-append n.ran.stepped.steps j.later in let x = n.some in omega arith) in record {
        grew = grew z call.Take v0 w f0 f2 share t r real;
        says = record {
          mine = mine_same z call.Take v0 w f0 f2 share t r real
              (subst (λ (m : ℕ). placed_by m w.order ≡ placed_by m v1.order) n.ran.stepped.number b.mine ∙ n.mine);
          counted = lost_is z call.Take v0 w f0 f2 share t r real ∙ sym n.counted;
        };
        stands = stand z call.Take v0 w f0 f2 share t r real own stands;
        lost = (n.counted, early_is z call.Take v0 w f0 f2 share t r real);
        cause = tt;
        purse = tidies z call.Take v0 w f0 f2 share t r real tidy.few chains (shared_all t n.ran) kept_all;
        full = tt;
        stepped = stepped z call.Take v0 w f0 f2 share t r real;
        alone = λ one. n.others one (level one);
        none_lost = λ one. absurd (n.others one (level one));
      }

  -- A take answers so.
  pub take_answered : (r : Result (Option ℕ) Lost) → TakeSays z.passes races r v0 v1
      → AnswersQueue z call.Take races (queue_view v0 p0.free.items share) (queue_view w p2.free.items share) (take_answer r)
  take_answered (Ok None) n = took_none n
  take_answered (Ok (Some v)) n = took_value v n
  take_answered (Err e) n = took_lost e n

-- steps before a call's, its own, and those of its tidying
pub record Between (passes : ℕ) (t : Tally) (u v w x : QueueView) (a : Ran passes (losing 0 0) t v w) : Type 0 where
  pub ran : Ran passes (losing 0 0) t u x
  pub earlier : List Step
  pub later : List Step
  pub steps_are : ran.stepped.steps ≡ earlier ++ (a.stepped.steps ++ later)

between : (passes : ℕ) (t : Tally) (u v w x : QueueView) (a : Ran passes (losing 0 0) t v w) → Idles passes u v → Idles passes w x
    → Between passes t u v w x a
unfolding ran_both stepped_both
between passes t u v w x a pre b = record {
  ran = ran_both passes (losing 0 0) (losing 0 0) t u v x (pre.ran (losing 0 0))
      (ran_both passes (losing 0 0) t t v w x a (b.ran t));
  earlier = (pre.ran (losing 0 0)).stepped.steps;
  later = (b.ran t).stepped.steps;
  steps_are = refl;
}

-- A put that ran out of records.
pub put_full : (z : Sizes) (races value : ℕ) (v w : QueueView) (p p' : Purse) (share : ℕ) → 1 ≤ races → Idles z.passes v w
    → RanOut z v w p p'
    → length w.known.chains ≤ 4 → HasOwn w.order → StandsThen v
    → AnswersQueue z (call.Put value) races (queue_view v p.free.items share) (queue_view w p'.free.items share)
    (put_answer (Err fault.Full))
put_full z races value v w p p' share few b out chains own stands = let t : Tally = losing 0 0 in let r = b.ran t in
    let f0 : List ℕ = p.free.items in let f1 : List ℕ = p'.free.items in let asked : QueueCall = call.Put value in
    let real : 0 < length r.stepped.steps = subst (λ (l : List Step). 0 < length l) (since_made v w r.stepped) out.some in
    let none = ap (λ (l : List ℕ). length l) out.none in let short = out.cause.short in let stay = out.retired_few in record {
      grew = grew z asked v w f0 f1 share t r real;
      says = record { mine = mine_same z asked v w f0 f1 share t r real b.mine; puts = (value, refl) };
      stands = stand z asked v w f0 f1 share t r real own stands;
      lost = let e = early_is z asked v w f0 f1 share t r real in omega arith;
      cause = subst (FoundNone 1 (map_sizes z) f0) (sym (since_is z asked v w f0 f1 share t r real)) out.cause;
      purse = tidies z asked v w f0 f1 share t r real (omega arith) chains (inl (omega arith)) (omega arith);
      full = record { none = out.none; retired_few = out.retired_few };
      stepped = stepped z asked v w f0 f1 share t r real;
      alone = λ _. tt;
      none_lost = λ one. lost_is z asked v w f0 f1 share t r real;
    }

-- A put with its record: it was taken and filled, then linked or not, and then the call tidied.
module _ (z : Sizes) (races value : ℕ) (v0 v1 v2 w : QueueView) (p0 p2 p3 : Purse) (share : ℕ) (pre : Idles z.passes v0 v1)
    (b : Idles z.passes v2 w) (tidy : Tidies z share v2 w p2 p3) (chains : length w.known.chains ≤ 4) (own : HasOwn w.order)
    (stands : StandsThen v0) (first : v1.known.number ≡ v0.known.number)
    (kept : length p0.free.items ≤ length p2.free.items + 1) (level : z.passes ≡ 1 → v1.known.own.behind ≡ false) where
  shared_put : (t : Tally) → Ran z.passes (losing 0 0) t v1 v2
      → (length p3.free.items ≤ share) ⊎ FoundTaken (map_sizes z) (steps_made v0 w)
  shared_put t a = ⊎_elim (λ (le : length p3.free.items ≤ share). inl le)
      (λ (f : FoundTaken (map_sizes z) (steps_made v2 w)). inr (subst (FoundTaken (map_sizes z))
      (sym (steps_both v0 v2 w (ran_both z.passes (losing 0 0) (losing 0 0) t v0 v1 v2 (pre.ran (losing 0 0)) a).stepped
      (b.ran t).stepped))
      (taken_later (map_sizes z) (steps_made v0 v2) (steps_made v2 w) f))) tidy.shared

  kept_put : min (length p0.free.items) share ≤ length p3.free.items + 1
  kept_put = let k = tidy.kept in omega arith

  mine_put : (calls : List QueuePlaced) → v2.known.number ≡ v1.known.number
      → placed_by v1.known.number v2.order ≡ placed_by v1.known.number v1.order ++ calls
      → placed_by v0.known.number w.order ≡ placed_by v0.known.number v0.order ++ calls
  mine_put calls number e = subst (λ (n : ℕ). placed_by n w.order ≡ placed_by n v2.order) (number ∙ first) b.mine
      ∙ (subst (λ (n : ℕ). placed_by n v2.order ≡ placed_by n v1.order ++ calls) first e
      ∙ ap (λ (l : List QueuePlaced). l ++ calls) pre.mine)

  none_put : v2.known.number ≡ v1.known.number → placed_by v1.known.number v2.order ≡ placed_by v1.known.number v1.order
      → placed_by v0.known.number w.order ≡ placed_by v0.known.number v0.order
  none_put number e = subst (λ (n : ℕ). placed_by n w.order ≡ placed_by n v2.order) (number ∙ first) b.mine
      ∙ (subst (λ (n : ℕ). placed_by n v2.order ≡ placed_by n v1.order) first e ∙ pre.mine)

  pub put_done : PutDone z races value v1 v2
      → AnswersQueue z (call.Put value) races (queue_view v0 p0.free.items share) (queue_view w p3.free.items share)
      (put_answer (Ok tt))
  put_done n = let t : Tally = n.counted in let j = between z.passes t v0 v1 v2 w n.ran pre b in let r = j.ran in
      let f0 : List ℕ = p0.free.items in let f3 : List ℕ = p3.free.items in let a : List Step = n.ran.stepped.steps in
      let real : 0 < length r.stepped.steps = (let long = ap (λ (l : List Step). length l) j.steps_are
      ∙ length-append j.earlier (a ++ j.later) in let more = length-append a j.later in let x = n.some in omega arith) in
      let up = log_long v1 v0 (pre.ran (losing 0 0)).stepped.order in let down = log_long w v2 (b.ran t).stepped.order in
      let lo = n.struck.above in let hi = n.struck.within in let place : ℕ = n.struck.place in record {
        grew = grew z (call.Put value) v0 w f0 f3 share t r real;
        says = places_change z (call.Put value) v0 w f0 f3 share t r real said.Put place refl
            (mine_put (placed (call.Put value) said.Put place ∷ []) n.ran.stepped.number n.struck.mine) (omega arith)
            (omega arith);
        stands = stand z (call.Put value) v0 w f0 f3 share t r real own stands;
        lost = let e = early_is z (call.Put value) v0 w f0 f3 share t r real in let x = n.few in let y = n.effect.1 in
            omega arith;
        cause = subst (TriedToMove z) (sym (since z (call.Put value) v0 w f0 f3 share t r real ∙ j.steps_are))
            (tried_later z j.earlier (a ++ j.later) (tried_on z a j.later n.tried));
        purse = tidies z (call.Put value) v0 w f0 f3 share t r real tidy.few chains (shared_put t n.ran) kept_put;
        full = tt;
        stepped = stepped z (call.Put value) v0 w f0 f3 share t r real;
        alone = λ _. tt;
        none_lost = λ one. lost_is z (call.Put value) v0 w f0 f3 share t r real ∙ n.alone one (level one);
      }

  pub put_lost : (turns : ℕ) → GaveUp z.passes turns races v1 v2
      → AnswersQueue z (call.Put value) races (queue_view v0 p0.free.items share) (queue_view w p3.free.items share)
      (put_answer (Err (fault.Lost turns)))
  put_lost turns n = let t : Tally = losing n.word races in let j = between z.passes t v0 v1 v2 w n.ran pre b in let r = j.ran in
      let f0 : List ℕ = p0.free.items in let f3 : List ℕ = p3.free.items in let a : List Step = n.ran.stepped.steps in
      let real : 0 < length r.stepped.steps = (let long = ap (λ (l : List Step). length l) j.steps_are
      ∙ length-append j.earlier (a ++ j.later) in let more = length-append a j.later in let x = n.some in omega arith) in record {
        grew = grew z (call.Put value) v0 w f0 f3 share t r real;
        says = record {
          mine = mine_same z (call.Put value) v0 w f0 f3 share t r real (none_put n.ran.stepped.number n.mine);
          counted = lost_is z (call.Put value) v0 w f0 f3 share t r real ∙ sym n.counted;
        };
        stands = stand z (call.Put value) v0 w f0 f3 share t r real own stands;
        lost = (n.counted, early_is z (call.Put value) v0 w f0 f3 share t r real);
        cause = tt;
        purse = tidies z (call.Put value) v0 w f0 f3 share t r real tidy.few chains (shared_put t n.ran) kept_put;
        full = tt;
        stepped = stepped z (call.Put value) v0 w f0 f3 share t r real;
        alone = λ one. n.others one (level one);
        none_lost = λ one. absurd (n.others one (level one));
      }

-- the pass is the same where its seat is
pub same_then : (s s' s'' : Seat Unit QueueView) → IsSame s s' → s'' ≡ s' → IsSame s s''
same_then s s' s'' same is = subst (IsSame s) (sym is) same
