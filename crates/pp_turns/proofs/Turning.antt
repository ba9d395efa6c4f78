-- What a turn of a call makes, as a map's clauses say it.
use Rattle.std.proofs.Common.{◌≡◌, ℕ, ◌<◌, List, length, refl, ap, ◌∙◌, subst, arith, length-append}
use Rattle.pp_link.specs.declared.layout.Sizes.{Sizes}
use Rattle.pp_model.specs.declared.Answer.{Answer}
use Rattle.pp_model.specs.declared.Change.{Change}
use Rattle.pp_model.specs.declared.Pair.{Pair}
use Rattle.pp_model.specs.declared.Placed.{Placed}
use Rattle.pp_model.specs.declared.Turned.{Turned}
use Rattle.pp_model.specs.declared.Turned.TheVariants.{On, Done}
use Rattle.pp_model.specs.declared.steps.Step.{Step}
use Rattle.pp_model.specs.MapCalls.{Answered, AnswersCall, IfOn, IfDone, IsClean, Counted, SameCall}
use Rattle.pp_model.specs.Pass.{GoingView, MapSizes, Meaning, PassView}
use Rattle.pp_rule.specs.declared.views.SeatView.{SeatView}
use Rattle.pp_rule.specs.Causes.{PoolWords, CauseWords, pool_meaning}
use Rattle.pp_calls.specs.PoolViews.{pool_view}
use Rattle.pp_calls.specs.Steps.{Went, HasOwn, StandsThen}
use Rattle.pp_shelf.specs.Runs.{map_sizes, steps_made}
use Rattle.pp_turns.specs.Turned.{HasTurned, IsGoing, LoneTurned, CountsAs, TurnClauses}
use Rattle.pp_turns.specs.Turns.{BegunAt}
use Rattle.pp_turns.proofs.Answering.{makes_turn, begun_on, begun_shows, counts}
use Rattle.pp_turns.proofs.Stretches.{steps_both, stepped_steps}

pub on_by : (result : Turned) (P Q : Type 0) → (P → Q) → IfOn result P → IfOn result Q
on_by On P Q f p = f p
on_by (Done answer) P Q f p = tt

pub done_by : (result : Turned) (P Q : Answer → Type 0) → ((a : Answer) → P a → Q a) → IfDone result P → IfDone result Q
done_by On P Q f p = tt
done_by (Done answer) P Q f p = f answer p

module _ (words : PoolWords) (causes : CauseWords) (holds : MapSizes → List ℕ → List Pair → List ℕ → Type 0) (z : Sizes) (share : ℕ)
    {W : Type 0} (IsSame : Type 0) (Under Under' : SeatView Change Placed W → List ℕ → Type 0) (Lone Lone' Bare : Type 0)
    (was now : GoingView) (v w : SeatView Change Placed W) (free free' : List ℕ) where
  abbrev meaning : Meaning
  meaning = pool_meaning words causes holds

  abbrev left : PassView
  left = pool_view w free' share

  abbrev Before : SeatView Change Placed W → List ℕ → Type 0
  Before = IsGoing meaning z share Under Lone was.lost

  abbrev After : SeatView Change Placed W → List ℕ → Type 0
  After = IsGoing meaning z share Under' Lone' now.lost

  -- what is known of the call over a turn of it that goes on
  on_alone : (result : Turned) → IfOn result ((from : SeatView Change Placed W) (begun : List ℕ) → Under from begun → Under' from begun)
      → (Lone → LoneTurned Lone' Bare was.lost now.lost result)
      → IfOn result ((from : SeatView Change Placed W) (begun : List ℕ) → Before from begun → After from begun)
  on_alone On each alone = λ from begun x. (
    each from begun x.0,
    λ one clean. let l = x.1 one clean in let turn = alone l.0 in (turn.on, turn.lost ∙ l.1),
  )
  on_alone (Done answer) each alone = tt

  module _ (result : Turned) (t : HasTurned meaning z share IsSame Under Under' was now v w free' result)
      (alone : Lone → LoneTurned Lone' Bare was.lost now.lost result) (own : HasOwn w.order) (stood : StandsThen v)
      (went : (from : SeatView Change Placed W) (begun : List ℕ) → Under from begun → Went from v)
      (tells : (from : SeatView Change Placed W) (begun : List ℕ) → Under' from begun → 0 < length (steps_made from w)
      → CountsAs causes.reader (map_sizes z) now from w)
      (cleans : z.passes ≡ 1 → Bare → IsClean meaning (map_sizes z) left) where
    -- It is counted as its steps tell.
    counted_at : (from : SeatView Change Placed W) (begun : List ℕ) → Under from begun → Under' from begun
        → Counted meaning (map_sizes z) now (pool_view from begun share) left
    counted_at from begun x y = let e = ap (λ (l : List Step). length l) (steps_both from v w (went from begun x) t.stepped)
        ∙ length-append (steps_made from v) (steps_made v w) in
        let some_made = t.some_made in
        let long : 0 < length (steps_made from w) = omega arith in
        let c = tells from begun y long in
        counts words causes holds (map_sizes z) now.call now.budget from w begun free' share now.start c.tally c.since now refl c.lost_is
        refl c.effect c.none

    -- What is told of the call as it is answered, and that it was not disturbed where the pass is alone.
    answers : (answer : Answer) → (Lone → LoneTurned Lone' Bare was.lost now.lost (Done answer))
        → ((from : SeatView Change Placed W) (begun : List ℕ) → Under from begun → StandsThen w
        → Answered meaning (map_sizes z) was.call was.budget (pool_view from begun share) left answer now.lost)
        → (from : SeatView Change Placed W) (begun : List ℕ) → Before from begun
        → AnswersCall meaning (map_sizes z) was.call was.budget (pool_view from begun share) left answer
    answers answer lone each from begun x = let told = each from begun x.0 (t.stands own stood) in record {
      turns = now.lost;
      told = told;
      alone = λ one clean. let l = x.1 one clean in let turn = lone l.0 in record {
        lost = told.counted ∙ (turn.lost ∙ l.1);
        clean = cleans one turn.done;
      };
    }

    pub turn_clauses : w.known.sizes ≡ v.known.sizes → SameCall was now
        → TurnClauses meaning (map_sizes z) was now (pool_view v free share) left result (BegunAt share Before) (BegunAt share After)
    turn_clauses sizes same = record {
      made = makes_turn meaning refl was now v w free free' share record {
        stepped = t.stepped;
        some_made = subst (λ (l : List Step). 0 < length l) (stepped_steps v w t.stepped) t.some_made;
        stands = λ s. t.stands own s;
      } sizes same t.strikes;
      going = on_by result ((from : SeatView Change Placed W) (begun : List ℕ) → Before from begun → After from begun)
          ((before : PassView) → BegunAt share Before before → BegunAt share After before)
          (λ each before b. begun_on share Before After each before b) (on_alone result t.goes_on alone);
      counted = on_by result ((from : SeatView Change Placed W) (begun : List ℕ) → Under from begun → Under' from begun)
          ((before : PassView) → BegunAt share Before before → Counted meaning (map_sizes z) now before left)
          (λ each before b. begun_shows share Before (λ before. Counted meaning (map_sizes z) now before left)
          (λ from begun x. counted_at from begun x.0 (each from begun x.0)) before b) t.goes_on;
      answered = by result alone t.answered;
    }
      where
        by : (r : Turned) → (Lone → LoneTurned Lone' Bare was.lost now.lost r)
            → IfDone r (λ answer. (from : SeatView Change Placed W) (begun : List ℕ) → Under from begun → StandsThen w
            → Answered meaning (map_sizes z) was.call was.budget (pool_view from begun share) left answer now.lost)
            → IfDone r (λ answer. (before : PassView) → BegunAt share Before before
            → AnswersCall meaning (map_sizes z) was.call was.budget before left answer)
        by On lone each = tt
        by (Done answer) lone each = λ before b. begun_shows share Before
            (λ before. AnswersCall meaning (map_sizes z) was.call was.budget before left answer)
            (λ from begun x. answers answer lone each from begun x) before b
