-- What a chain of calls on one pass leaves.
use Rattle.std.proofs.Common.{◌≡◌, ℕ, ◌+◌, ◌*◌, ◌≤◌, List, [], ◌∷◌, ◌++◌, length, map, refl, sym, ap, ◌∙◌, arith}
use Rattle.std.proofs.Common.{length-append, append_assoc, append-nil, ⊎_elim, Some}
use Rattle.std.specs.Prelude.{slice_get}
use Rattle.std.proofs.lemmas.List.{map-append}
use Rattle.pp_model.specs.declared.Call.{Call}
use Rattle.pp_model.specs.declared.Call.TheVariants.{Get, Insert, Remove, Cut}
use Rattle.pp_model.specs.Calls.{inserts}
use Rattle.pp_model.specs.declared.Answer.{Answer}
use Rattle.pp_model.specs.declared.Answer.TheVariants.{Said, Full, Lost}
use Rattle.pp_model.specs.Lists.{IsPrefix, AtEach}
use Rattle.pp_model.specs.Pass.{PassView, MapSizes, Meaning}
use Rattle.pp_model.specs.MapCalls.{Says, AnswersCalls, none, more, SaidCall, said_call, said_calls, MineGrew}
use Rattle.pp_model.specs.MapCalls.{LeavesPurse, AnswersCall, IsClean, Undisturbed}
use Rattle.pp_model.proofs.Positions.{slice_get_push}
pub use Rattle.pp_model.proofs.Positions.{IsPrefix-refl, IsPrefix-trans}

-- one answer for each call
pub answers_each : (meaning : Meaning) (sizes : MapSizes) (budget : ℕ) (before now : PassView) (calls : List Call)
    (answers : List Answer) → AnswersCalls meaning sizes budget before calls answers now → length answers ≡ length calls
answers_each meaning sizes budget before now calls answers none = refl
answers_each meaning sizes budget before now calls answers (more cs given then_at _ call answer ran made) =
    omega (
      arith,
      answers_each meaning sizes budget before then_at cs given ran,
      length-append cs (call ∷ []),
      length-append given
          (answer ∷ []),
    )

pub caller_kept : (meaning : Meaning) (sizes : MapSizes) (budget : ℕ) (before now : PassView) (calls : List Call)
    (answers : List Answer) → AnswersCalls meaning sizes budget before calls answers now → now.caller ≡ before.caller
caller_kept meaning sizes budget before now calls answers none = refl
caller_kept meaning sizes budget before now calls answers (more cs given then_at _ call answer ran made) =
    made.told.grew.caller ∙ caller_kept meaning sizes budget before then_at cs given ran

-- each call takes at most one from the room
pub room_left : (meaning : Meaning) (sizes : MapSizes) (budget : ℕ) (before now : PassView) (calls : List Call)
    (answers : List Answer) → AnswersCalls meaning sizes budget before calls answers now → before.room ≤ now.room + length calls
room_left meaning sizes budget before now calls answers none = omega arith
room_left meaning sizes budget before now calls answers (more cs given then_at _ call answer ran made) =
    omega (arith, made.told.grew.room, room_left meaning sizes budget before then_at cs given ran, length-append cs (call ∷ []))

pub steps_grown : (meaning : Meaning) (sizes : MapSizes) (budget : ℕ) (before now : PassView) (calls : List Call)
    (answers : List Answer) → AnswersCalls meaning sizes budget before calls answers now → IsPrefix before.steps now.steps
steps_grown meaning sizes budget before now calls answers none = IsPrefix-refl before.steps
steps_grown meaning sizes budget before now calls answers (more cs given then_at _ call answer ran made) =
    IsPrefix-trans before.steps then_at.steps now.steps (steps_grown meaning sizes budget before then_at cs given ran)
    made.told.grew.steps

pub seen_grown : (meaning : Meaning) (sizes : MapSizes) (budget : ℕ) (before now : PassView) (calls : List Call)
    (answers : List Answer) → AnswersCalls meaning sizes budget before calls answers now → IsPrefix before.seen now.seen
seen_grown meaning sizes budget before now calls answers none = IsPrefix-refl before.seen
seen_grown meaning sizes budget before now calls answers (more cs given then_at _ call answer ran made) =
    IsPrefix-trans before.seen then_at.seen now.seen (seen_grown meaning sizes budget before then_at cs given ran) made.told.grew.seen

said_calls-push : (calls : List Call) (answers : List Answer) (call : Call) (answer : Answer) → length answers ≡ length calls
    → said_calls (calls ++ call ∷ []) (answers ++ answer ∷ []) ≡ said_calls calls answers ++ said_calls (call ∷ []) (answer ∷ [])
said_calls-push [] [] call answer e = refl
said_calls-push [] (a ∷ answers) call answer e = absurd (omega arith)
said_calls-push (c ∷ calls) [] call answer e = absurd (omega arith)
said_calls-push (c ∷ calls) (Said r ∷ answers) call answer e =
    let one : SaidCall = record { call = c; reply = r } in
    ap (λ xs. one ∷ xs) (said_calls-push calls answers call answer (omega arith))
said_calls-push (c ∷ calls) (Full ∷ answers) call answer e = said_calls-push calls answers call answer (omega arith)
said_calls-push (c ∷ calls) (Lost t ∷ answers) call answer e = said_calls-push calls answers call answer (omega arith)

mine_step : (meaning : Meaning) (sizes : MapSizes) (call : Call) (before now : PassView) (answer : Answer)
    → Says meaning sizes call before now answer → MineGrew (call ∷ []) (answer ∷ []) before now
mine_step meaning sizes call before now (Said r) says =
    ap (map said_call) says.mine ∙ map-append said_call before.mine _
mine_step meaning sizes call before now Full says = ap (map said_call) says.mine ∙ sym (append-nil (map said_call before.mine))
mine_step meaning sizes call before now (Lost t) says =
    ap (map said_call) says.mine ∙ sym (append-nil (map said_call before.mine))

-- The list of placed calls grew by exactly those that were answered by a reply, in order.
pub mine_grown : (meaning : Meaning) (sizes : MapSizes) (budget : ℕ) (before now : PassView) (calls : List Call)
    (answers : List Answer) → AnswersCalls meaning sizes budget before calls answers now → MineGrew calls answers before now
mine_grown meaning sizes budget before now calls answers none = sym (append-nil (map said_call before.mine))
mine_grown meaning sizes budget before now calls answers (more cs given then_at _ call answer ran made) =
    let ih = mine_grown meaning sizes budget before then_at cs given ran in
    let step = mine_step meaning sizes call then_at now answer made.told.says in
    let pushed = said_calls-push cs given call answer (answers_each meaning sizes budget before then_at cs given ran) in
    let one = said_calls (call ∷ []) (answer ∷ []) in
    step ∙ (ap (λ xs. xs ++ one) ih ∙ (append_assoc (map said_call before.mine) (said_calls cs given) one
    ∙ ap (λ xs. map said_call before.mine ++ xs) (sym pushed)))

inserts-push : (calls : List Call) (call : Call) → inserts (calls ++ call ∷ []) ≡ inserts calls + inserts (call ∷ [])
inserts-push [] call = omega arith
inserts-push (Get k ∷ calls) call = inserts-push calls call
inserts-push (Insert k v ∷ calls) call = omega (arith, inserts-push calls call)
inserts-push (Remove k ∷ calls) call = inserts-push calls call
inserts-push (Cut k v ∷ calls) call = inserts-push calls call

-- one call spends no more than an insert needs
free_step : (meaning : Meaning) (sizes : MapSizes) (call : Call) (before now : PassView) (rest : ℕ)
    → LeavesPurse meaning sizes call before now
    → before.share ≤ length before.free + rest → before.share ≤ length now.free + (meaning.need * inserts (call ∷ []) + rest)
free_step meaning sizes (Get k) before now rest purse enough = omega (arith, enough, ap length purse.free)
free_step meaning sizes (Insert k v) before now rest purse enough = omega (arith, enough, purse.kept)
free_step meaning sizes (Remove k) before now rest purse enough = omega (arith, enough, purse.kept)
free_step meaning sizes (Cut k v) before now rest purse enough = omega (arith, enough, purse.kept)

pub share_kept : (meaning : Meaning) (sizes : MapSizes) (budget : ℕ) (before now : PassView) (calls : List Call)
    (answers : List Answer) → AnswersCalls meaning sizes budget before calls answers now → now.share ≡ before.share
share_kept meaning sizes budget before now calls answers none = refl
share_kept meaning sizes budget before now calls answers (more cs given then_at _ call answer ran made) =
    made.told.grew.share ∙ share_kept meaning sizes budget before then_at cs given ran

-- what is left of the share, with what the inserts may have spent, is the whole share
pub free_left : (meaning : Meaning) (sizes : MapSizes) (budget : ℕ) (before now : PassView) (calls : List Call)
    (answers : List Answer) → AnswersCalls meaning sizes budget before calls answers now → length before.free ≡ before.share
    → before.share ≤ length now.free + meaning.need * inserts calls
free_left meaning sizes budget before now calls answers none whole = omega (arith, whole)
free_left meaning sizes budget before now calls answers (more cs given then_at _ call answer ran made) whole =
    let ih = free_left meaning sizes budget before then_at cs given ran whole in
    let share = share_kept meaning sizes budget before then_at cs given ran in
    let step = free_step meaning sizes call then_at now (meaning.need * inserts cs) made.told.purse (omega (arith, ih, share)) in
    let spent : meaning.need * inserts (cs ++ call ∷ []) ≡ meaning.need * inserts (call ∷ []) + meaning.need * inserts cs =
    ap (λ n. meaning.need * n) (inserts-push cs call) ∙ omega arith in
    omega (arith, step, share, spent)

-- An insert that answers full had too few free numbers; a pass that has enough for all its inserts never gives that answer.
pub never_full : (meaning : Meaning) (sizes : MapSizes) (budget : ℕ) (before now : PassView) (calls : List Call)
    (answers : List Answer) → AnswersCalls meaning sizes budget before calls answers now → length before.free ≡ before.share
    → meaning.need * inserts calls ≤ before.share → AtEach answers (λ k a. a ≡ Full → ⊥)
never_full meaning sizes budget before now calls answers none whole enough k a at is = absurd cc
never_full meaning sizes budget before now calls answers (more cs given then_at _ call answer ran made) whole enough k a at is =
    let spent : meaning.need * inserts (cs ++ call ∷ []) ≡ meaning.need * inserts cs + meaning.need * inserts (call ∷ []) =
    ap (λ n. meaning.need * n) (inserts-push cs call) ∙ omega arith in
    ⊎_elim
    (λ (old : slice_get given k ≡ Some a).
    never_full meaning sizes budget before then_at cs given ran whole (omega (arith, spent, enough)) k a old is)
    (λ (new : (k ≡ length given) × (a ≡ answer)).
    last call answer made.told.says (omega (arith, spent, enough, free_left meaning sizes budget before then_at cs given ran whole))
    (sym new.1 ∙ is))
    (slice_get_push given answer k a at)
  where
    last : (c : Call) (b : Answer) → Says meaning sizes c then_at now b → meaning.need * inserts (c ∷ []) ≤ length then_at.free
        → b ≡ Full → ⊥
    last (Insert i v) Full says free e = omega (arith, says.short, free)
    last (Get i) Full says free e = let same = says.inserts.2 in cc
    last (Remove i) Full says free e = let same = says.inserts.2 in cc
    last (Cut i v) Full says free e = let same = says.inserts.2 in cc
    last c (Said r) says free e = cc
    last c (Lost t) says free e = cc

-- Calls of a pass that is alone on its map leave none of its removed pairs' records attached, where none was attached before.
pub clean_after : (meaning : Meaning) (sizes : MapSizes) (budget : ℕ) (before now : PassView) (calls : List Call)
    (answers : List Answer) → AnswersCalls meaning sizes budget before calls answers now → sizes.passes ≡ 1
    → IsClean meaning sizes before → IsClean meaning sizes now
clean_after meaning sizes budget before now calls answers none one clean = clean
clean_after meaning sizes budget before now calls answers (more cs given then_at _ call answer ran made) one clean =
    (made.alone one (clean_after meaning sizes budget before then_at cs given ran one clean)).clean

-- a call none of whose turns was lost doesn't give up
not_lost : (meaning : Meaning) (sizes : MapSizes) (call : Call) (budget : ℕ) (before now : PassView) (answer : Answer)
    → AnswersCall meaning sizes call budget before now answer → 1 ≤ budget → Undisturbed meaning sizes call before now
    → (turns : ℕ) → answer ≡ Lost turns → ⊥
not_lost meaning sizes call budget before now (Said r) made some calm turns e = cc
not_lost meaning sizes call budget before now Full made some calm turns e = cc
not_lost meaning sizes call budget before now (Lost t) made some calm turns e =
    let all = made.told.lost.0 in let counted = made.told.says.counted in let none = calm.lost in omega arith

-- So none of its calls is ever lost.
pub alone_never_lost : (meaning : Meaning) (sizes : MapSizes) (budget : ℕ) (before now : PassView) (calls : List Call)
    (answers : List Answer) → AnswersCalls meaning sizes budget before calls answers now → sizes.passes ≡ 1
    → IsClean meaning sizes before → 1 ≤ budget → AtEach answers (λ k a. (turns : ℕ) → a ≡ Lost turns → ⊥)
alone_never_lost meaning sizes budget before now calls answers none one clean some k a at turns is = absurd cc
alone_never_lost meaning sizes budget before now calls answers (more cs given then_at _ call answer ran made) one clean some k a at
    turns is =
    ⊎_elim
    (λ (old : slice_get given k ≡ Some a). alone_never_lost meaning sizes budget before then_at cs given ran one clean some k a old turns
    is)
    (λ (new : (k ≡ length given) × (a ≡ answer)). not_lost meaning sizes call budget then_at now answer made some
    (made.alone one (clean_after meaning sizes budget before then_at cs given ran one clean)) turns (sym new.1 ∙ is))
    (slice_get_push given answer k a at)
