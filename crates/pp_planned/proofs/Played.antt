-- A run by a plan, once the map is closed over the passes that the callers left.
use Rattle.std.proofs.Common.{◌≡◌, ℕ, ◌+◌, ◌≤◌, List, [], ◌∷◌, length, map, Some, ◌⊎◌}
use Rattle.std.proofs.Common.{refl, sym, ap, ◌∙◌, subst, arith}
use Rattle.std.specs.Prelude.{slice_get}
use Rattle.pp_model.specs.declared.Call.{Call}
use Rattle.pp_model.specs.declared.Answer.{Answer}
use Rattle.pp_model.specs.declared.Pair.{Pair}
use Rattle.pp_model.specs.Lists.{AtEach}
use Rattle.pp_model.specs.declared.Placed.{Placed}
use Rattle.pp_model.specs.Pass.{PassView, GoingView, MapSizes, Meaning, RunView, CallerRun}
use Rattle.pp_model.specs.MapCalls.{IsClosing, caller_run}
use Rattle.pp_running.specs.Run.{IsOpened, IsRunOf}
use Rattle.pp_running.proofs.Lists.{mapped_at, at_mapped}
use Rattle.pp_running.proofs.Runs.{is_run}
use Rattle.pp_schedule.specs.declared.caller.Caller.{Caller}
use Rattle.pp_schedule.specs.Calls.{CallerAt, Doing, answers_of, marks_of, all_capped}
use Rattle.pp_schedule.specs.Plays.{Moment, Plays, ended, passed, planned, rest, RunsByPlan}
use Rattle.pp_schedule.specs.Seats.{AllSeen}
use Rattle.pp_schedule.proofs.Answered.{over_last}
use Rattle.pp_schedule.proofs.Whole.{runs_by_plan}
use Rattle.pp_schedule.proofs.Effects.{closed_of}
use Rattle.pp_schedule.proofs.Marking.{Told}
use Rattle.pp_schedule.proofs.Marked.{AllTold, all_marked}
use Rattle.pp_schedule.specs.Marks.{MarkedAs, none}
use Rattle.std.proofs.lemmas.Option.{get_or_from_slice_get}
use Rattle.std.proofs.Math.ListN.{get_or}
use Rattle.pp_planned.specs.Planned.{somes, opened_at, IsPlanned, IsMarked}
use Rattle.pp_planned.proofs.Openings.{begun, begun_at, sound_first, opens_first, opened_length, views_length}
use Rattle.pp_planned.proofs.Endings.{made, Leaves, leaves}

-- there are as many callers after a run as before
as_many : (meaning : Meaning) (sizes : MapSizes) (races : ℕ) (plan : List ℕ) (s t : Moment) (turns : List ℕ)
    → Plays meaning sizes races plan s turns t → length t.callers ≡ length s.callers
as_many meaning sizes races plan s t turns (ended _ all) = refl
as_many meaning sizes races plan s t turns (passed c later _ _ _ over plays) = as_many meaning sizes races later s t turns plays
as_many meaning sizes races plan s t turns (planned c later _ m _ more move plays) =
    as_many meaning sizes races later m t more plays ∙ move.as_many
as_many meaning sizes races plan s t turns (rest c _ m _ more low move plays) =
    as_many meaning sizes races [] m t more plays ∙ move.as_many

some_is : {A : Type 0} {x y : A} → Some x ≡ Some y → x ≡ y
some_is e = cc

nothing_going : (p : PassView) (calls : List Call) (d : Doing) → (begun p calls).doing ≡ Some d → ⊥
nothing_going p calls d e = absurd cc

marks_twice : (vs : List CallerAt) → map (λ v. all_capped v.marks) vs ≡ map all_capped (map (λ v. v.marks) vs)
marks_twice [] = refl
marks_twice (v ∷ vs) = ap (λ l. all_capped v.marks ∷ l) (marks_twice vs)

runs_of : (vs : List CallerAt) → map caller_run (map (λ v. v.pass) vs) ≡ map (λ v. caller_run v.pass) vs
runs_of [] = refl
runs_of (v ∷ vs) = ap (λ l. caller_run v.pass ∷ l) (runs_of vs)

module _ {M P G N W : Type 0} (belongs : P → Type 0) (idle : P → Type 0) (under_way : P → G → PassView → Type 0)
    (learnable : P → N → Type 0) (view : P → PassView) (going_view : P → G → GoingView) (this : M)
    (meaning : Meaning) (sizes : MapSizes) (races : ℕ) (plan : List ℕ) (opened : List PassView) (lists : List (List Call))
    (lengths : length lists ≡ length opened) (opens : AtEach opened IsOpened) (out : List (Caller M P G N W))
    (turns : List ℕ) (last : Moment) (plays : Plays meaning sizes races plan (opened_at opened lists) turns last)
    (sees : AllSeen belongs idle under_way learnable view going_view this out last.callers) where
  abbrev Left : Type 0
  Left = Leaves belongs idle under_way learnable view going_view this 0 out last.callers

  left_so : Left
  left_so = leaves belongs idle under_way learnable view going_view this out last.callers sees
      (over_last meaning sizes races plan (opened_at opened lists) last turns plays)

  abbrev passes : List P
  passes = somes (map (λ x. x.pass) out)

  many_last : length last.callers ≡ length opened
  many_last = as_many meaning sizes races plan (opened_at opened lists) last turns plays ∙ opened_length opened lists lengths

  pub closes_all : length passes ≡ length opened
  closes_all = sym (views_length view passes) ∙ (ap length left_so.views ∙ (views_length (λ (v : CallerAt). v.pass) last.callers
      ∙ many_last))

  pub closes_each : AtEach passes (λ k p. belongs p × idle p × ((view p).caller ≡ k))
  closes_each k p at =
      let l = left_so.each k p at in
      let zero_add : 0 + k ≡ k = omega arith in
      (l.0, l.1, l.2 ∙ zero_add)

  abbrev views : List PassView
  views = map (λ v. v.pass) last.callers

  callers_are : AtEach views (λ k p. p.caller ≡ k)
  callers_are k p at =
      let from = mapped_at view passes k p (ap (λ l. slice_get l k) left_so.views ∙ at) in
      ap (λ (q : PassView). q.caller) (sym from.2) ∙ (closes_each k from.0 from.1).2

  module _ (contents : List Pair) (free : List ℕ) (run : RunView)
      (closing : IsClosing meaning sizes (map view passes) contents free run) where
    closing_of : IsClosing meaning sizes views contents free run
    closing_of = subst (λ (vs : List PassView). IsClosing meaning sizes vs contents free run) left_so.views closing

    pub ran : (answers : List (List Answer)) → answers ≡ map (λ x. answers_of x.answers.items) out
        → IsRunOf meaning sizes races opened lists answers run
    ran answers are =
        let given : map (λ v. v.answers) last.callers ≡ answers = sym (are ∙ left_so.answers) in
        subst (λ (given_so : List (List Answer)). IsRunOf meaning sizes races opened lists given_so run) given
        (is_run meaning sizes races opened views lists (map (λ v. v.answers) last.callers) contents free run closing_of opens
        (views_length (λ (v : CallerAt). v.pass) last.callers ∙ many_last) lengths
        (views_length (λ (v : CallerAt). v.answers) last.callers ∙ many_last)
        (made meaning sizes races plan opened lists last turns plays) callers_are)

    pub is_planned : IsPlanned meaning sizes races plan opened lists run
    is_planned = record {
      turns = turns;
      last = last;
      plays = plays;
      left = closing_of.callers_are ∙ runs_of last.callers;
      by_plan = subst (λ (n : ℕ). RunsByPlan meaning.turn_steps n plan turns run.log run.order)
          (opened_length opened lists lengths ∙ sym lengths)
          (runs_by_plan meaning sizes races plan (opened_at opened lists) last turns contents free run plays
          (sound_first opened lists opens) (opens_first opened lists opens) closing_of callers_are);
    }

    -- the calls are marked as the run has placed them
    pub is_marked : (1 ≤ meaning.turn_steps) ⊎ (length lists ≡ 1) → (answers : List (List Answer)) (marks : List (List ℕ))
        → answers ≡ map (λ x. answers_of x.answers.items) out → marks ≡ map (λ x. marks_of x.answers.items) out
        → IsMarked lists answers marks run
    is_marked steps_or_one answers marks answers_are marks_are = record {
      exact = map (λ v. v.marks) last.callers;
      many = views_length (λ (v : CallerAt). v.marks) last.callers ∙ (many_last ∙ sym lengths);
      marks_are = marks_are ∙ (left_so.marks ∙ marks_twice last.callers);
      each = by;
    }
      where
        by : (c : ℕ) (calls : List Call) (got : List Answer) (own : List ℕ) (r : CallerRun) → slice_get lists c ≡ Some calls
            → slice_get answers c ≡ Some got → slice_get (map (λ v. v.marks) last.callers) c ≡ Some own
            → slice_get run.callers c ≡ Some r → MarkedAs run.log calls got own r.mine
        by c calls got own r calls_at got_at own_at r_at =
            let from = mapped_at (λ (v : CallerAt). v.marks) last.callers c own own_at in
            let v : CallerAt = from.0 in
            let all : ℕ → List Call = λ k. get_or lists k calls in
            let answers_same : answers ≡ map (λ w. w.answers) last.callers = answers_are ∙ left_so.answers in
            let got_same : v.answers ≡ got =
            some_is (sym (at_mapped (λ (w : CallerAt). w.answers) last.callers c v from.1)
            ∙ (ap (λ (l : List (List Answer)). slice_get l c) (sym answers_same) ∙ got_at)) in
            let runs_same : run.callers ≡ map (λ w. caller_run w.pass) last.callers = closing_of.callers_are ∙ runs_of last.callers in
            let run_same : caller_run v.pass ≡ r =
            some_is (sym (at_mapped (λ (w : CallerAt). caller_run w.pass) last.callers c v from.1)
            ∙ (ap (λ (l : List CallerRun). slice_get l c) (sym runs_same) ∙ r_at)) in
            let mine_same : v.pass.mine ≡ r.mine = ap (λ (x : CallerRun). x.mine) run_same in
            let calls_same : all c ≡ calls = get_or_from_slice_get lists c calls calls calls_at in
            let told : AllTold meaning sizes races run.log run.order (length lists) steps_or_one all (opened_at opened lists) =
            λ k w at_w.
            let b = begun_at opened lists k w at_w in
            let fresh = (opens k b.pass b.pass_at).fresh in
            let is_calls : all k ≡ b.calls = get_or_from_slice_get lists k b.calls calls b.calls_at in
            subst (λ (x : CallerAt). Told meaning sizes races run.log (length lists) steps_or_one 0 (all k) x) (sym b.is)
            (record {
              alone = λ one. ap length fresh.seen;
              rests = λ idle. ([], is_calls, subst (λ (ms : List Placed). MarkedAs run.log [] [] [] ms) (sym fresh.mine) none);
              goes = λ d is. absurd (nothing_going b.pass b.calls d is);
            }) in
            let closed = closed_of meaning sizes views contents free run closing_of callers_are in
            let marked = all_marked meaning sizes races run.log run.order (length lists) steps_or_one all plan (opened_at opened lists) last
            turns plays (sound_first opened lists opens) (opens_first opened lists opens)
            (opened_length opened lists lengths ∙ sym lengths) refl told closed c v from.1 in
            subst (λ (cs : List Call). MarkedAs run.log cs got own r.mine) calls_same
            (subst (λ (given : List Answer). MarkedAs run.log (all c) given own r.mine) got_same
            (subst (λ (ms : List ℕ). MarkedAs run.log (all c) v.answers ms r.mine) from.2
            (subst (λ (mine : List Placed). MarkedAs run.log (all c) v.answers v.marks mine) mine_same marked)))
