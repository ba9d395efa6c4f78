-- In a run by a plan each caller made its calls one after another.
use Rattle.std.proofs.Common.{◌≡◌, ℕ, List, [], ◌∷◌, ◌++◌, Some, None, ⊎_elim}
use Rattle.std.proofs.Common.{sym, ap, ◌∙◌, subst, append_assoc, append-nil}
use Rattle.std.specs.Prelude.{slice_get}
use Rattle.std.proofs.lemmas.Bool.{cases_eq}
use Rattle.pp_model.specs.declared.Call.{Call}
use Rattle.pp_model.specs.Pass.{PassView, NoteView, MapSizes, Meaning}
use Rattle.pp_model.specs.MapCalls.{AnswersCall, AnswersCalls, more}
use Rattle.pp_schedule.specs.Calls.{CallerAt, Doing, Has, goes_on, begins, Leaves, on, done, CallerTurn}
use Rattle.pp_schedule.specs.Plays.{Moment, Answered, Move, Plays, ended, passed, planned, rest}

module _ (meaning : Meaning) (sizes : MapSizes) (races : ℕ) where
  -- Of these calls the caller made the first with these answers; with the going one and those that are left they are all.
  pub record Chain (opened : PassView) (all : List Call) (v : CallerAt) : Type 0 where
    pub rests : v.doing ≡ None → (made : List Call) × (all ≡ made ++ v.calls)
        × AnswersCalls meaning sizes races opened made v.answers v.pass
    pub goes : (d : Doing) → v.doing ≡ Some d → (made : List Call) × (all ≡ made ++ d.going.call ∷ v.calls)
        × (d.going.budget ≡ races) × AnswersCalls meaning sizes races opened made v.answers d.before

  chain_turn : (opened : PassView) (all : List Call) (told : NoteView) (v w : CallerAt) → CallerTurn meaning sizes races told v w
      → Chain opened all v → Chain opened all w
  chain_turn opened all told v w t chain = by t.leaves (start t.has)
    where
      Going : Type 0
      Going = (made : List Call) × (all ≡ made ++ t.going.call ∷ w.calls) × (t.going.budget ≡ races)
          × AnswersCalls meaning sizes races opened made v.answers t.before

      start : Has races v t.going t.before w.calls → Going
      start (goes_on is same) =
          let h = chain.goes _ is in
          (h.0, h.1 ∙ ap (λ cs. h.0 ++ t.going.call ∷ cs) (sym same), h.2, h.3)
      start (begins call idle calls same begun) =
          let h = chain.rests idle in (
            h.0,
            h.1 ∙ ap (λ cs. h.0 ++ cs) (calls ∙ ap (λ c. c ∷ w.calls) (sym begun.call)),
            begun.budget,
            subst (λ p. AnswersCalls meaning sizes races opened h.0 v.answers p) (sym same) h.2,
          )

      by : Leaves meaning sizes t.going t.now t.before v w → Going → Chain opened all w
      by (on is answers counted) h = record {
        rests = λ no. absurd (let e = sym is ∙ no in cc);
        goes = λ d at.
            let same : record { going = t.now; before = t.before } ≡ d = cc in
            let one : (made : List Call) × (all ≡ made ++ t.now.call ∷ w.calls) × (t.now.budget ≡ races)
            × AnswersCalls meaning sizes races opened made w.answers t.before = (
              h.0,
              h.1 ∙ ap (λ c. h.0 ++ c ∷ w.calls) (sym t.turn.same.call),
              t.turn.same.budget ∙ h.2,
              subst (λ given. AnswersCalls meaning sizes races opened h.0 given t.before) (sym answers) h.3,
            ) in
            subst (λ (x : Doing). (made : List Call) × (all ≡ made ++ x.going.call ∷ w.calls) × (x.going.budget ≡ races)
            × AnswersCalls meaning sizes races opened made w.answers x.before) same one;
      }
      by (done answer is answers struck made) h = record {
        rests = λ no.
            let call = subst (λ n. AnswersCall meaning sizes t.going.call n t.before w.pass answer) h.2 made in (
              h.0 ++ t.going.call ∷ [],
              h.1 ∙ sym (append_assoc h.0 (t.going.call ∷ []) w.calls),
              subst (λ given. AnswersCalls meaning sizes races opened (h.0 ++ t.going.call ∷ []) given w.pass) (sym answers)
                  (more h.0 v.answers t.before w.pass t.going.call answer h.3 call),
            );
        goes = λ d at. absurd (let e = sym is ∙ at in cc);
      }

  -- what each caller has from its opening on
  abbrev pub Chains : (ℕ → PassView) → (ℕ → List Call) → Moment → Type 0
  Chains opened all s = (k : ℕ) (v : CallerAt) → slice_get s.callers k ≡ Some v → Chain (opened k) (all k) v

  chains_move : (opened : ℕ → PassView) (all : ℕ → List Call) (s t : Moment) (c : ℕ) → Move meaning sizes races s c t
      → Chains opened all s → Chains opened all t
  chains_move opened all s t c move chains k v at =
      ⊎_elim
      (λ (same : k ≡ c).
      let is_now : move.now ≡ v = cc in
      let had = chains k move.was (ap (slice_get s.callers) same ∙ move.is_was) in
      subst (λ (x : CallerAt). Chain (opened k) (all k) x) is_now
      (chain_turn (opened k) (all k) s.told move.was move.now move.turn had))
      (λ (other : k ≡ c → ⊥). chains k v (sym (move.others k other) ∙ at))
      (cases_eq k c)

  chains_last : (opened : ℕ → PassView) (all : ℕ → List Call) (plan : List ℕ) (s t : Moment) (turns : List ℕ)
      → Plays meaning sizes races plan s turns t → Chains opened all s → Chains opened all t
  chains_last opened all plan s t turns (ended _ over) chains = chains
  chains_last opened all plan s t turns (passed c plan' _ _ _ over plays) chains = chains_last opened all plan' s t turns plays chains
  chains_last opened all plan s t turns (planned c plan' _ m _ later move plays) chains =
      chains_last opened all plan' m t later plays (chains_move opened all s m c move chains)
  chains_last opened all plan s t turns (rest c _ m _ later low move plays) chains =
      chains_last opened all [] m t later plays (chains_move opened all s m c move chains)

  pub over_last : (plan : List ℕ) (s t : Moment) (turns : List ℕ) → Plays meaning sizes races plan s turns t
      → (k : ℕ) (v : CallerAt) → slice_get t.callers k ≡ Some v → Answered v
  over_last plan s t turns (ended _ over) k v at = over k v at
  over_last plan s t turns (passed c plan' _ _ _ over plays) k v at = over_last plan' s t turns plays k v at
  over_last plan s t turns (planned c plan' _ m _ later move plays) k v at = over_last plan' m t later plays k v at
  over_last plan s t turns (rest c _ m _ later low move plays) k v at = over_last [] m t later plays k v at

  -- Each caller made all its calls, one after another, and has one answer for each.
  pub answers_all : (opened : ℕ → PassView) (all : ℕ → List Call) (plan : List ℕ) (s t : Moment) (turns : List ℕ)
      → Plays meaning sizes races plan s turns t → Chains opened all s → (k : ℕ) (v : CallerAt) → slice_get t.callers k ≡ Some v
      → AnswersCalls meaning sizes races (opened k) (all k) v.answers v.pass
  answers_all opened all plan s t turns plays chains k v at =
      let over = over_last plan s t turns plays k v at in
      let h = (chains_last opened all plan s t turns plays chains k v at).rests over.none_going in
      let whole : all k ≡ h.0 = h.1 ∙ (ap (λ cs. h.0 ++ cs) over.none_left ∙ append-nil h.0) in
      subst (λ cs. AnswersCalls meaning sizes races (opened k) cs v.answers v.pass) (sym whole) h.2
