-- In a run by a plan, once the map is closed, each caller's calls are marked as they are placed.
use Rattle.std.proofs.Common.{◌≡◌, ℕ, ◌+◌, ◌≤◌, Bool, true, false, cond, List, [], ◌∷◌, ◌++◌, length}
use Rattle.std.proofs.Common.{Some, ⊎_elim, ◌⊎◌, refl, sym, ap, ◌∙◌, subst, arith, append-nil, length-append}
use Rattle.std.specs.Prelude.{slice_get}
use Rattle.std.proofs.lemmas.Bool.{cases_eq}
use Rattle.std.proofs.lemmas.Option.{slice_get_within}
use Rattle.pp_model.specs.declared.Call.{Call}
use Rattle.pp_model.specs.declared.Change.{Change}
use Rattle.pp_model.specs.declared.steps.Step.{Step}
use Rattle.pp_model.specs.declared.steps.OrderEntry.{OrderEntry}
use Rattle.pp_model.specs.Lists.{IsPrefix}
use Rattle.pp_model.specs.Pass.{MapSizes, Meaning}
use Rattle.pp_schedule.specs.Schedule.{State, Turn, Runs, stop, more, places_in_turn, Closed, Opens}
use Rattle.pp_schedule.specs.Calls.{CallerAt, strikes, count_after}
use Rattle.pp_schedule.specs.Plays.{Moment, state_of, Move, Plays, ended, passed, planned, rest}
use Rattle.pp_schedule.specs.Marks.{MarkedAs}
use Rattle.pp_schedule.proofs.Answered.{over_last}
use Rattle.pp_schedule.proofs.Logs.{logs_begin}
use Rattle.pp_schedule.proofs.Marking.{Began, stepped, unstepped, Told, told_turn}
use Rattle.pp_schedule.proofs.Starts.{runs_on, places_on, seen_counts}
use Rattle.pp_schedule.proofs.Orders.{prefix_length}
use Rattle.pp_schedule.proofs.Whole.{Sound, sound_stays, one_turn, run_of, many_of, pass_at}

count_up : (was is : Bool) (n : ℕ) → count_after was is n ≡ n + count_after was is 0
count_up was is n = by (strikes was is)
  where
    by : (b : Bool) → cond b (n + 1) n ≡ n + cond b (0 + 1) 0
    by true = refl
    by false = omega arith

module _ (meaning : Meaning) (sizes : MapSizes) (races : ℕ) (log : List Change) (order : List (OrderEntry Change)) (many : ℕ)
    (steps_or_one : (1 ≤ meaning.turn_steps) ⊎ (many ≡ 1)) (all : ℕ → List Call) where
  abbrev ToldAt : ℕ → ℕ → CallerAt → Type 0
  ToldAt count k v = Told meaning sizes races log many steps_or_one count (all k) v

  -- what is known of each caller's calls and marks
  abbrev pub AllTold : Moment → Type 0
  AllTold s = (k : ℕ) (v : CallerAt) → slice_get s.callers k ≡ Some v → ToldAt s.count k v

  -- another caller's turn changes nothing of that
  began_other : (n m mark seen : ℕ) (xs : List Step) → (many ≡ 1 → ⊥) → Began many n mark seen xs → Began many m mark seen xs
  began_other n m mark seen _ not (stepped x xs saw) = stepped x xs saw
  began_other n m mark seen _ not (unstepped start is one) = absurd (not one)

  told_other : (n m k : ℕ) (v : CallerAt) → (many ≡ 1 → ⊥) → ToldAt n k v → ToldAt m k v
  told_other n m k v not had = record {
    alone = λ one. absurd (not one);
    rests = had.rests;
    goes = λ d at.
        let h = had.goes d at in (
          h.0,
          h.1,
          h.2,
          record {
            steps = h.3.steps;
            taken = h.3.taken;
            began = λ unmade. began_other n m v.mark (length d.before.seen) _ not (h.3.began unmade);
          },
        );
  }

  told_move : (s t : Moment) (c : ℕ) (move : Move meaning sizes races s c t) → Sound s → s.count ≡ s.told.seen → t.count ≡ t.told.seen
      → IsPrefix move.now.pass.seen log → length s.callers ≡ many → AllTold s → AllTold t
  told_move s t c move sound before_is after_is begins few had k v at =
      ⊎_elim
      (λ (same : k ≡ c).
      let is_now : move.now ≡ v = let e = sym move.is_now ∙ (ap (slice_get t.callers) (sym same) ∙ at) in cc in
      let own = had k move.was (ap (slice_get s.callers) same ∙ move.is_was) in
      subst (λ (x : CallerAt). ToldAt t.count k x) is_now
      (told_turn meaning sizes races log many steps_or_one s.told s.count t.count move.was move.now move.turn move.marks
      (sound c move.was move.is_was).1 before_is (after_is ∙ move.noted.seen) begins (all k) own))
      (λ (other : k ≡ c → ⊥).
      let at_old = sym (move.others k other) ∙ at in
      let low = slice_get_within s.callers k v at_old in
      let mover = slice_get_within s.callers c move.was move.is_was in
      told_other s.count t.count k v (λ one. other (omega (arith, one, low, mover, few))) (had k v at_old))
      (cases_eq k c)

  -- what is carried along the turns of a run
  record Along (first : State) (turns : List Turn) (s : Moment) : Type 0 where
    runs : Runs meaning.turn_steps first turns (state_of s)
    sound : Sound s
    few : length s.callers ≡ many
    counted : s.count ≡ length (places_in_turn turns)
    heard : s.count ≡ s.told.seen
    told : AllTold s

  along_move : (first : State) (turns : List Turn) (plan : List ℕ) (s m t : Moment) (c : ℕ) (later : List ℕ) → Opens first
      → length first.passes ≡ many → (move : Move meaning sizes races s c m) → Plays meaning sizes races plan m later t
      → Closed (state_of t).passes log order → Along first turns s
      → (turn : Turn) × Along first (turns ++ turn ∷ []) m
  along_move first turns plan s m t c later opens few move plays closed along =
      let one = one_turn meaning sizes races s m c move along.sound in
      let sound = sound_stays meaning sizes races s m c move along.sound in
      let r = run_of meaning sizes races plan m t later plays sound in
      let runs = runs_on meaning.turn_steps first (state_of s) (state_of m) turns (one.0 ∷ []) along.runs
      (more (state_of s) (state_of m) (state_of m) one.0 [] one.2 (stop (state_of m))) in
      let begins = logs_begin meaning.turn_steps (state_of t) log order closed (state_of m) r.moves r.runs c move.now.pass
      (pass_at meaning sizes races m.callers c move.now move.is_now) in
      let told_within : m.told.seen ≤ length log =
      let e = move.noted.seen in let l = prefix_length move.now.pass.seen log begins in omega (arith, e, l) in
      let as_many : length first.passes ≡ length (state_of t).passes = few ∙ (sym along.few ∙ (sym move.as_many ∙ (sym r.as_many
      ∙ sym (many_of meaning sizes races t.callers)))) in
      let seen = seen_counts meaning.turn_steps (state_of t) log order closed first (state_of m) (turns ++ one.0 ∷ []) r.moves opens runs
      r.runs as_many told_within in
      let added : length (places_in_turn (turns ++ one.0 ∷ [])) ≡ length (places_in_turn turns) + length one.0.places =
      ap length (places_on turns (one.0 ∷ [])) ∙ (length-append (places_in_turn turns) (one.0.places ++ [])
      ∙ ap (λ xs. length (places_in_turn turns) + length xs) (append-nil one.0.places)) in
      let counted : m.count ≡ length (places_in_turn (turns ++ one.0 ∷ [])) =
      move.marks.counts ∙ (count_up move.turn.going.struck move.turn.now.struck s.count
      ∙ (ap (λ k. k + count_after move.turn.going.struck move.turn.now.struck 0) along.counted
      ∙ (ap (λ k. length (places_in_turn turns) + k) (sym one.3) ∙ sym added))) in
      let heard = counted ∙ seen in (
        one.0,
        record {
          runs = runs;
          sound = sound;
          few = move.as_many ∙ along.few;
          counted = counted;
          heard = heard;
          told = told_move s m c move along.sound along.heard heard begins along.few along.told;
        },
      )

  along_last : (first : State) (turns : List Turn) (plan : List ℕ) (s t : Moment) (made : List ℕ) → Opens first
      → length first.passes ≡ many → Plays meaning sizes races plan s made t → Closed (state_of t).passes log order
      → Along first turns s → AllTold t
  along_last first turns plan s t made opens few (ended _ over) closed along = along.told
  along_last first turns plan s t made opens few (passed c plan' _ _ _ over plays) closed along =
      along_last first turns plan' s t made opens few plays closed along
  along_last first turns plan s t made opens few (planned c plan' _ m _ later move plays) closed along =
      let next = along_move first turns plan' s m t c later opens few move plays closed along in
      along_last first (turns ++ next.0 ∷ []) plan' m t later opens few plays closed next.1
  along_last first turns plan s t made opens few (rest c _ m _ later low move plays) closed along =
      let next = along_move first turns [] s m t c later opens few move plays closed along in
      along_last first (turns ++ next.0 ∷ []) [] m t later opens few plays closed next.1

  -- Each caller's calls are marked as they are placed.
  pub all_marked : (plan : List ℕ) (s t : Moment) (made : List ℕ) → Plays meaning sizes races plan s made t → Sound s
      → Opens (state_of s) → length s.callers ≡ many → s.count ≡ 0 → AllTold s → Closed (state_of t).passes log order
      → (k : ℕ) (v : CallerAt) → slice_get t.callers k ≡ Some v → MarkedAs log (all k) v.answers v.marks v.pass.mine
  all_marked plan s t made plays sound opens few unmarked told closed k v at =
      let along : Along (state_of s) [] s = record {
        runs = stop (state_of s);
        sound = sound;
        few = few;
        counted = unmarked;
        heard = unmarked ∙ sym opens.told_seen;
        told = told;
      } in
      let last = along_last (state_of s) [] plan s t made opens (many_of meaning sizes races s.callers ∙ few) plays closed along k v at in
      let over = over_last meaning sizes races plan s t made plays k v at in
      let h = last.rests over.none_going in
      let whole : all k ≡ h.0 = h.1 ∙ (ap (λ cs. h.0 ++ cs) over.none_left ∙ append-nil h.0) in
      subst (λ cs. MarkedAs log cs v.answers v.marks v.pass.mine) (sym whole) h.2
