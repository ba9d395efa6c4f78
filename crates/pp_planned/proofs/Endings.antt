-- What a run by a plan leaves of its callers' passes and answers.
use Rattle.std.proofs.Common.{◌≡◌, ℕ, zero, suc, ◌+◌, List, [], ◌∷◌, length, map, Option, Some}
use Rattle.std.proofs.Common.{refl, sym, ap, ◌∙◌, subst, arith}
use Rattle.std.specs.Prelude.{slice_get}
use Rattle.std.proofs.lemmas.Option.{get_or_from_slice_get}
use Rattle.std.proofs.Math.ListN.{get_or}
use Rattle.pp_model.specs.declared.Call.{Call}
use Rattle.pp_model.specs.declared.Answer.{Answer}
use Rattle.pp_model.specs.Pass.{PassView, GoingView, MapSizes, Meaning}
use Rattle.pp_model.specs.MapCalls.{AnswersCalls, none}
use Rattle.pp_running.proofs.Lists.{mapped_at}
use Rattle.pp_schedule.specs.declared.caller.Caller.{Caller}
use Rattle.pp_schedule.specs.declared.call_future.CallFuture.{CallFuture}
use Rattle.pp_schedule.specs.Calls.{CallerAt, Shows, rests, calls_on, answers_of, marks_of, all_capped}
use Rattle.pp_schedule.specs.Plays.{Moment, Plays, Answered}
use Rattle.pp_schedule.specs.Seats.{AllSeen, SeenAs}
use Rattle.pp_schedule.proofs.Answered.{Chain, answers_all}
use Rattle.pp_planned.specs.Planned.{somes, opened_at}
use Rattle.pp_planned.proofs.Openings.{begun_at}

-- each caller of such a run made all calls of its list
module _ (meaning : Meaning) (sizes : MapSizes) (races : ℕ) (plan : List ℕ) (passes : List PassView) (lists : List (List Call))
    (last : Moment) (turns : List ℕ) (plays : Plays meaning sizes races plan (opened_at passes lists) turns last) where
  pub made : (c : ℕ) (pass now : PassView) (calls : List Call) (got : List Answer) → slice_get passes c ≡ Some pass
      → slice_get (map (λ v. v.pass) last.callers) c ≡ Some now → slice_get lists c ≡ Some calls
      → slice_get (map (λ v. v.answers) last.callers) c ≡ Some got → AnswersCalls meaning sizes races pass calls got now
  made c pass now calls got at after list answer =
      let at_last = mapped_at (λ (v : CallerAt). v.pass) last.callers c now after in
      let v : CallerAt = at_last.0 in
      let answers = mapped_at (λ (v : CallerAt). v.answers) last.callers c got answer in
      let same : v ≡ answers.0 = let e = sym at_last.1 ∙ answers.1 in cc in
      let given : v.answers ≡ got = ap (λ (x : CallerAt). x.answers) same ∙ answers.2 in
      let chain = answers_all meaning sizes races opened all plan (opened_at passes lists) last turns plays chains c v at_last.1 in
      let is_opened : opened c ≡ pass = get_or_from_slice_get passes c pass pass at in
      let is_all : all c ≡ calls = get_or_from_slice_get lists c calls calls list in
      rw (is_opened, is_all, given, at_last.2) at chain
    where
      opened : ℕ → PassView
      opened k = get_or passes k pass

      all : ℕ → List Call
      all k = get_or lists k calls

      chains : (k : ℕ) (v : CallerAt) → slice_get (opened_at passes lists).callers k ≡ Some v
          → Chain meaning sizes races (opened k) (all k) v
      chains k v at_v =
          let b = begun_at passes lists k v at_v in
          let is_pass : opened k ≡ b.pass = get_or_from_slice_get passes k b.pass pass b.pass_at in
          let is_calls : all k ≡ b.calls = get_or_from_slice_get lists k b.calls calls b.calls_at in
          subst (λ (x : CallerAt). Chain meaning sizes races (opened k) (all k) x) (sym b.is)
          (record {
            rests = λ no. ([], is_calls, subst (λ (q : PassView). AnswersCalls meaning sizes races (opened k) [] [] q) is_pass none);
            goes = λ d is. absurd cc;
          })

-- what the callers' parts are once all their calls are answered
module _ {M P G N W : Type 0} (belongs : P → Type 0) (idle : P → Type 0) (under_way : P → G → PassView → Type 0)
    (learnable : P → N → Type 0) (view : P → PassView) (going_view : P → G → GoingView) (this : M) where
  pub record Rests (k : ℕ) (x : Caller M P G N W) (v : CallerAt) : Type 0 where
    pub pass : P
    pub is : x.pass ≡ Some pass
    pub belongs_to : belongs pass
    pub is_idle : idle pass
    pub shows : view pass ≡ v.pass
    pub caller : v.pass.caller ≡ k
    pub answers : v.answers ≡ answers_of x.answers.items
    pub marks : all_capped v.marks ≡ marks_of x.answers.items

  rests_at : (k : ℕ) (x : Caller M P G N W) (v : CallerAt) → SeenAs belongs idle under_way learnable view going_view this k x v
      → Answered v → Rests k x v
  rests_at k x v sees over = by x.pass x.call refl sees.shows
    where
      by : (pass : Option P) (call : Option (CallFuture M P G N W)) → x.pass ≡ pass
          → Shows belongs idle under_way view going_view (λ (f : CallFuture M P G N W). f.parts) v pass call → Rests k x v
      by pass call e (rests p own not_going is no_call) = record {
        pass = p;
        is = e;
        belongs_to = own;
        is_idle = not_going;
        shows = is;
        caller = sees.caller;
        answers = sees.answers;
        marks = sees.marks;
      }
      by pass call e (calls_on f d doing calling) = absurd (let n = sym doing ∙ over.none_going in cc)

  pub record Leaves (n : ℕ) (xs : List (Caller M P G N W)) (vs : List CallerAt) : Type 0 where
    pub views : map view (somes (map (λ x. x.pass) xs)) ≡ map (λ v. v.pass) vs
    pub each : (k : ℕ) (p : P) → slice_get (somes (map (λ x. x.pass) xs)) k ≡ Some p
        → belongs p × idle p × ((view p).caller ≡ n + k)
    pub answers : map (λ x. answers_of x.answers.items) xs ≡ map (λ v. v.answers) vs
    pub marks : map (λ x. marks_of x.answers.items) xs ≡ map (λ v. all_capped v.marks) vs

  leaves_from : (n : ℕ) (xs : List (Caller M P G N W)) (vs : List CallerAt) → length vs ≡ length xs
      → ((k : ℕ) (x : Caller M P G N W) (v : CallerAt) → slice_get xs k ≡ Some x → slice_get vs k ≡ Some v → Rests (n + k) x v)
      → Leaves n xs vs
  leaves_from n [] [] e rest = record { views = refl; each = λ k p at. absurd cc; answers = refl; marks = refl }
  leaves_from n [] (v ∷ vs) e rest = absurd (omega (arith, e))
  leaves_from n (x ∷ xs) [] e rest = absurd (omega (arith, e))
  leaves_from n (x ∷ xs) (v ∷ vs) e rest =
      let later = leaves_from (n + 1) xs vs (omega (arith, e)) (λ k y w at_y at_w.
      let step : n + suc k ≡ n + 1 + k = omega arith in
      subst (λ (j : ℕ). Rests j y w) step (rest (suc k) y w at_y at_w)) in
      let here = rest 0 x v refl refl in
      let some = here.is in
      record {
        views = rw some (ap (λ l. view here.pass ∷ l) later.views ∙ ap (λ p. p ∷ map (λ v. v.pass) vs) here.shows);
        each = rw some (each_of later here);
        answers = ap (λ l. answers_of x.answers.items ∷ l) later.answers ∙ ap (λ a. a ∷ map (λ v. v.answers) vs) (sym here.answers);
        marks = ap (λ l. marks_of x.answers.items ∷ l) later.marks ∙ ap (λ a. a ∷ map (λ v. all_capped v.marks) vs) (sym here.marks);
      }
    where
      each_of : Leaves (n + 1) xs vs → (here : Rests (n + 0) x v) → (k : ℕ) (p : P)
          → slice_get (here.pass ∷ somes (map (λ x. x.pass) xs)) k ≡ Some p → belongs p × idle p × ((view p).caller ≡ n + k)
      each_of later here zero p at =
          let same : here.pass ≡ p = cc in
          subst (λ (q : P). belongs q × idle q × ((view q).caller ≡ n + 0)) same
          (here.belongs_to, here.is_idle, ap (λ (q : PassView). q.caller) here.shows ∙ here.caller)
      each_of later here (suc k) p at =
          let l = later.each k p at in
          let step : n + 1 + k ≡ n + suc k = omega arith in
          (l.0, l.1, l.2 ∙ step)

  pub leaves : (xs : List (Caller M P G N W)) (vs : List CallerAt)
      → AllSeen belongs idle under_way learnable view going_view this xs vs
      → ((k : ℕ) (v : CallerAt) → slice_get vs k ≡ Some v → Answered v) → Leaves 0 xs vs
  leaves xs vs sees over = leaves_from 0 xs vs sees.lengths (λ k x v at_x at_v.
      let zero_add : 0 + k ≡ k = omega arith in
      subst (λ (j : ℕ). Rests j x v) (sym zero_add) (rests_at k x v (sees.each k x v at_x at_v) (over k v at_v)))
