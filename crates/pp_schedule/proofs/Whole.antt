-- What a run by a plan left on a closed map.
use Rattle.std.proofs.Common.{◌≡◌, ℕ, suc, List, [], ◌∷◌, length, map}
use Rattle.std.proofs.Common.{option_map, Some, ⊎_elim, refl, sym, ap, ◌∙◌, subst}
use Rattle.std.specs.Prelude.{slice_get}
use Rattle.std.proofs.lemmas.Bool.{cases_eq, true≢false}
use Rattle.std.proofs.lemmas.Option.{slice_get-map}
use Rattle.pp_model.specs.declared.Pair.{Pair}
use Rattle.pp_model.specs.Lists.{AtEach}
use Rattle.pp_model.specs.Pass.{PassView, NoteView, MapSizes, Meaning, RunView}
use Rattle.pp_model.specs.MapCalls.{IsClosing}
use Rattle.pp_schedule.specs.Schedule.{Turn, OneTurn, Runs, stop, more, callers_of, Opens}
use Rattle.pp_schedule.specs.Calls.{Entering, CallerAt, Doing, Has, goes_on, begins, Leaves, on, done, CallerTurn, InCall, count_after}
use Rattle.pp_schedule.specs.Plays.{Moment, state_of, Move, Plays, ended, passed, planned, rest, RunsByPlan}
use Rattle.pp_schedule.proofs.Effects.{turn_advances, on_entering, closed_of}
use Rattle.pp_schedule.proofs.Orders.{order_in_turns}
use Rattle.pp_schedule.proofs.Logs.{changes_in_turns}
use Rattle.pp_schedule.proofs.Planned.{planned_order}

-- each caller is of its number, and its list is as its call left it
abbrev pub Sound : Moment → Type 0
Sound s = AtEach s.callers (λ k v. (v.pass.caller ≡ k) × InCall v)

module _ (meaning : Meaning) (sizes : MapSizes) (races : ℕ) where
  caller_stays : (told : NoteView) (v w : CallerAt) → CallerTurn meaning sizes races told v w → w.pass.caller ≡ v.pass.caller
  caller_stays told v w t = t.turn.grew.caller ∙ ap (λ (p : PassView). p.caller) t.learnt.same

  in_call_stays : (told : NoteView) (v w : CallerAt) → CallerTurn meaning sizes races told v w → InCall v → InCall w
  in_call_stays told v w t in_call d at = by t.leaves
    where
      ready_entering : Has races v t.going t.before w.calls → Entering t.going t.before t.ready
      ready_entering (goes_on is same) =
          let mine : t.ready.mine ≡ v.pass.mine = ap (λ (p : PassView). p.mine) t.learnt.same in
          let e = in_call _ is in
          record {
            none = λ not. mine ∙ e.none not;
            taken = λ so. let had = e.taken so in (had.0, had.1, mine ∙ had.2);
          }
      ready_entering (begins call none calls same begun) = record {
        none = λ not. ap (λ (p : PassView). p.mine) t.learnt.same ∙ ap (λ (p : PassView). p.mine) (sym same);
        taken = λ so. absurd (true≢false (sym so ∙ begun.untouched));
      }

      by : Leaves meaning sizes t.going t.now t.before v w → Entering d.going d.before w.pass
      by (on is answers counted) =
          let same : record { going = t.now; before = t.before } ≡ d = cc in
          subst (λ (x : Doing). Entering x.going x.before w.pass) same
          (on_entering meaning sizes t.going t.now t.before t.ready w.pass t.turn (ready_entering t.has) counted)
      by (done answer is answers struck made) = absurd (let e = sym is ∙ at in cc)

  pub sound_stays : (s t : Moment) (c : ℕ) → Move meaning sizes races s c t → Sound s → Sound t
  sound_stays s t c move sound k v at =
      ⊎_elim
      (λ (same : k ≡ c).
      let is_now : move.now ≡ v = cc in
      let had = sound c move.was move.is_was in
      let caller : move.now.pass.caller ≡ k = caller_stays s.told move.was move.now move.turn ∙ (had.0 ∙ sym same) in
      subst (λ (x : CallerAt). (x.pass.caller ≡ k) × InCall x) is_now
      (caller, in_call_stays s.told move.was move.now move.turn had.1))
      (λ (other : k ≡ c → ⊥). sound k v (sym (move.others k other) ∙ at))
      (cases_eq k c)

  pub pass_at : (vs : List CallerAt) (k : ℕ) (v : CallerAt) → slice_get vs k ≡ Some v → slice_get (map (λ x. x.pass) vs) k ≡ Some v.pass
  pass_at vs k v at = slice_get-map (λ (x : CallerAt). x.pass) vs k ∙ ap (option_map (λ (x : CallerAt). x.pass)) at

  pub many_of : (vs : List CallerAt) → length (map (λ x. x.pass) vs) ≡ length vs
  many_of [] = refl
  many_of (v ∷ vs) = ap suc (many_of vs)

  pub one_turn : (s t : Moment) (c : ℕ) → (move : Move meaning sizes races s c t) → Sound s
      → (turn : Turn) × (turn.caller ≡ c) × OneTurn meaning.turn_steps (state_of s) turn (state_of t)
      × (length turn.places ≡ count_after move.turn.going.struck move.turn.now.struck 0)
  one_turn s t c move sound =
      let had = sound c move.was move.is_was in
      let a = turn_advances meaning sizes races c s.told move.was move.now move.turn had.0 had.1 in
      let turn : Turn = record { caller = c; places = a.0 } in (
        turn,
        refl,
        record {
          was = move.was.pass;
          is_was = pass_at s.callers c move.was move.is_was;
          now = move.now.pass;
          is_now = pass_at t.callers c move.now move.is_now;
          others = λ d other.
              slice_get-map (λ (x : CallerAt). x.pass) t.callers d
              ∙ (ap (option_map (λ (x : CallerAt). x.pass)) (move.others d other)
              ∙ sym (slice_get-map (λ (x : CallerAt). x.pass) s.callers d));
          as_many = many_of t.callers ∙ (move.as_many ∙ sym (many_of s.callers));
          advances = a.1;
          told_order = move.noted.order;
          told_seen = move.noted.seen;
        },
        a.2,
      )

  pub record RunOf (s t : Moment) (turns : List ℕ) : Type 0 where
    pub moves : List Turn
    pub of_turns : callers_of moves ≡ turns
    pub runs : Runs meaning.turn_steps (state_of s) moves (state_of t)
    pub as_many : length t.callers ≡ length s.callers

  run_more : (s t u : Moment) (c : ℕ) (turns : List ℕ) → Move meaning sizes races s c t → Sound s → RunOf t u turns
      → RunOf s u (c ∷ turns)
  run_more s t u c turns move sound r =
      let one = one_turn s t c move sound in
      record {
        moves = one.0 ∷ r.moves;
        of_turns = ap (λ k. k ∷ callers_of r.moves) one.1 ∙ ap (λ xs. c ∷ xs) r.of_turns;
        runs = more (state_of s) (state_of t) (state_of u) one.0 r.moves one.2 r.runs;
        as_many = r.as_many ∙ move.as_many;
      }

  pub run_of : (plan : List ℕ) (s t : Moment) (turns : List ℕ) → Plays meaning sizes races plan s turns t → Sound s → RunOf s t turns
  run_of plan s t turns (ended _ all) sound = record { moves = []; of_turns = refl; runs = stop (state_of s); as_many = refl }
  run_of plan s t turns (passed c plan' _ _ _ over plays) sound = run_of plan' s t turns plays sound
  run_of plan s t turns (planned c plan' _ m _ later move plays) sound =
      run_more s m t c later move sound (run_of plan' m t later plays (sound_stays s m c move sound))
  run_of plan s t turns (rest c _ m _ later low move plays) sound =
      run_more s m t c later move sound (run_of [] m t later plays (sound_stays s m c move sound))

  -- The whole claim of a run by a plan, once the map is closed over the callers' passes.
  pub runs_by_plan : (plan : List ℕ) (s t : Moment) (turns : List ℕ) (contents : List Pair) (free : List ℕ) (run : RunView)
      → Plays meaning sizes races plan s turns t → Sound s → Opens (state_of s)
      → IsClosing meaning sizes (map (λ v. v.pass) t.callers) contents free run
      → AtEach (map (λ v. v.pass) t.callers) (λ k p. p.caller ≡ k)
      → RunsByPlan meaning.turn_steps (length s.callers) plan turns run.log run.order
  runs_by_plan plan s t turns contents free run plays sound opens closing callers =
      let r = run_of plan s t turns plays sound in
      let last = state_of t in
      let closed = closed_of meaning sizes last.passes contents free run closing callers in
      let many : length (state_of s).passes ≡ length last.passes = many_of s.callers ∙ (sym r.as_many ∙ sym (many_of t.callers)) in
      record {
        planned = planned_order meaning sizes races plan s t turns plays;
        pieces = rw (← r.of_turns) (order_in_turns meaning.turn_steps last run.log run.order closed (state_of s) r.moves opens r.runs);
        moves = r.moves;
        of_turns = r.of_turns;
        in_turn = changes_in_turns meaning.turn_steps last run.log run.order closed (state_of s) r.moves opens r.runs many;
      }
