-- What a chain of calls on one pass of a queue leaves.
use Rattle.std.proofs.Common.{◌≡◌, ℕ, ◌+◌, ◌≤◌, true, List, [], ◌∷◌, ◌++◌, length, map, refl, sym, ap, ◌∙◌, arith}
use Rattle.std.proofs.Common.{length-append, append_assoc, append-nil, ⊎_elim, Some}
use Rattle.std.specs.Prelude.{slice_get}
use Rattle.std.proofs.lemmas.List.{map-append}
use Rattle.pp_link.specs.declared.layout.Sizes.{Sizes}
use Rattle.pp_model.specs.Lists.{AtEach}
use Rattle.pp_model.proofs.Positions.{slice_get_push}
use Rattle.pp_queues.specs.declared.calls.QueueAnswer.{QueueAnswer}
use Rattle.pp_queues.specs.declared.calls.QueueAnswer.TheVariants.{Said, Full, Lost}
use Rattle.pp_queues.specs.declared.calls.QueueCall.{QueueCall}
use Rattle.pp_queues.specs.declared.calls.QueueCall.TheVariants.{Put, Take}
use Rattle.pp_queues.specs.Calls.{QueuePassView, Says, AnswersQueue, IsGiven, spends}
use Rattle.pp_queue_replay.specs.Text.{is_lost}
use Rattle.pp_queue_replay.specs.Runs.{AnswersCalls, none, more, SaidCall, said_call, said_calls, puts}

module _ (z : Sizes) (races : ℕ) (before : QueuePassView) where
  -- one answer for each call
  pub answers_each : (now : QueuePassView) (calls : List QueueCall) (answers : List QueueAnswer)
      → AnswersCalls z races before calls answers now → length answers ≡ length calls
  answers_each now calls answers none = refl
  answers_each now calls answers (more cs given then_at _ call answer ran made) =
      omega (arith, answers_each then_at cs given ran, length-append cs (call ∷ []), length-append given (answer ∷ []))

  pub caller_kept : (now : QueuePassView) (calls : List QueueCall) (answers : List QueueAnswer)
      → AnswersCalls z races before calls answers now → now.caller ≡ before.caller
  caller_kept now calls answers none = refl
  caller_kept now calls answers (more cs given then_at _ call answer ran made) = made.grew.caller ∙ caller_kept then_at cs given ran

  pub share_kept : (now : QueuePassView) (calls : List QueueCall) (answers : List QueueAnswer)
      → AnswersCalls z races before calls answers now → now.share ≡ before.share
  share_kept now calls answers none = refl
  share_kept now calls answers (more cs given then_at _ call answer ran made) = made.grew.share ∙ share_kept then_at cs given ran

said_calls-push : (calls : List QueueCall) (answers : List QueueAnswer) (call : QueueCall) (answer : QueueAnswer)
    → length answers ≡ length calls
    → said_calls (calls ++ call ∷ []) (answers ++ answer ∷ []) ≡ said_calls calls answers ++ said_calls (call ∷ []) (answer ∷ [])
said_calls-push [] [] call answer e = refl
said_calls-push [] (a ∷ answers) call answer e = absurd (omega arith)
said_calls-push (c ∷ calls) [] call answer e = absurd (omega arith)
said_calls-push (c ∷ calls) (Said r ∷ answers) call answer e =
    let one : SaidCall = record { call = c; reply = r } in
    ap (λ xs. one ∷ xs) (said_calls-push calls answers call answer (omega arith))
said_calls-push (c ∷ calls) (Full ∷ answers) call answer e = said_calls-push calls answers call answer (omega arith)
said_calls-push (c ∷ calls) (Lost t ∷ answers) call answer e = said_calls-push calls answers call answer (omega arith)

mine_step : (z : Sizes) (call : QueueCall) (before now : QueuePassView) (answer : QueueAnswer) → Says z call before now answer
    → map said_call now.mine ≡ map said_call before.mine ++ said_calls (call ∷ []) (answer ∷ [])
mine_step z call before now (Said r) says = ap (map said_call) says.mine ∙ map-append said_call before.mine _
mine_step z call before now Full says = ap (map said_call) says.mine ∙ sym (append-nil (map said_call before.mine))
mine_step z call before now (Lost t) says = ap (map said_call) says.mine ∙ sym (append-nil (map said_call before.mine))

puts-push : (calls : List QueueCall) (call : QueueCall) → puts (calls ++ call ∷ []) ≡ puts calls + spends call
puts-push [] (Put v) = refl
puts-push [] Take = refl
puts-push (Put v ∷ calls) call = omega (arith, puts-push calls call)
puts-push (Take ∷ calls) call = puts-push calls call

module _ (z : Sizes) (races : ℕ) (before : QueuePassView) where
  -- The list of placed calls grew by exactly those that were answered by a reply, in order.
  pub mine_grown : (now : QueuePassView) (calls : List QueueCall) (answers : List QueueAnswer)
      → AnswersCalls z races before calls answers now → map said_call now.mine ≡ map said_call before.mine ++ said_calls calls answers
  mine_grown now calls answers none = sym (append-nil (map said_call before.mine))
  mine_grown now calls answers (more cs given then_at _ call answer ran made) =
      let ih = mine_grown then_at cs given ran in
      let step = mine_step z call then_at now answer made.says in
      let pushed = said_calls-push cs given call answer (answers_each z races before then_at cs given ran) in
      let one = said_calls (call ∷ []) (answer ∷ []) in
      step ∙ (ap (λ xs. xs ++ one) ih ∙ (append_assoc (map said_call before.mine) (said_calls cs given) one
      ∙ ap (λ xs. map said_call before.mine ++ xs) (sym pushed)))

  -- what is left of the share, with what the puts may have spent, is the whole share
  free_left : (now : QueuePassView) (calls : List QueueCall) (answers : List QueueAnswer)
      → AnswersCalls z races before calls answers now → length before.free ≡ before.share
      → before.share ≤ length now.free + puts calls
  free_left now calls answers none whole = omega (arith, whole)
  free_left now calls answers (more cs given then_at _ call answer ran made) whole =
      let ih = free_left then_at cs given ran whole in
      let share = share_kept z races before then_at cs given ran in
      let kept = made.purse.kept in
      omega (arith, ih, share, kept, puts-push cs call)

  -- A put that answers full had no free record: a pass that has enough for all its puts never gives that answer.
  pub never_full : (now : QueuePassView) (calls : List QueueCall) (answers : List QueueAnswer)
      → AnswersCalls z races before calls answers now → length before.free ≡ before.share → puts calls ≤ before.share
      → AtEach answers (λ k a. a ≡ Full → ⊥)
  never_full now calls answers none whole enough k a at is = absurd cc
  never_full now calls answers (more cs given then_at _ call answer ran made) whole enough k a at is =
      let pushed = puts-push cs call in
      ⊎_elim
      (λ (old : slice_get given k ≡ Some a).
      never_full then_at cs given ran whole (omega (arith, pushed, enough)) k a old is)
      (λ (new : (k ≡ length given) × (a ≡ answer)).
      last call answer made (omega (arith, pushed, enough, free_left then_at cs given ran whole)) (sym new.1 ∙ is))
      (slice_get_push given answer k a at)
    where
      last : (c : QueueCall) (b : QueueAnswer) → AnswersQueue z c races then_at now b → spends c ≤ length then_at.free → b ≡ Full → ⊥
      last (Put v) Full made free e = let short = made.cause.short in omega arith
      last Take Full made free e = let same = made.says.puts.1 in cc
      last c (Said r) made free e = cc
      last c (Lost t) made free e = cc

  -- A pass of a pool with no other pass never gives up.
  pub never_lost : z.passes ≡ 1 → (now : QueuePassView) (calls : List QueueCall) (answers : List QueueAnswer)
      → AnswersCalls z races before calls answers now → AtEach answers (λ k a. is_lost a ≡ true → ⊥)
  never_lost one now calls answers none k a at is = absurd cc
  never_lost one now calls answers (more cs given then_at _ call answer ran made) k a at is = ⊎_elim
      (λ (old : slice_get given k ≡ Some a). never_lost one then_at cs given ran k a old is)
      (λ (new : (k ≡ length given) × (a ≡ answer)). last answer (made.alone one) (sym (ap is_lost new.1) ∙ is))
      (slice_get_push given answer k a at)
    where
      last : (b : QueueAnswer) → IsGiven b → is_lost b ≡ true → ⊥
      last (Said r) given e = cc
      last Full given e = cc
      last (Lost t) given e = given
