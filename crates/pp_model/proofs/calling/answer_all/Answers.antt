use Rattle.std.proofs.Common.{◌≡◌, ◌+◌, ◌<◌, [], ◌∷◌, ◌++◌, length, take, get_or, arith}
use Rattle.std.proofs.Common.{length-take-le, take_all}
use Rattle.std.proofs.lemmas.List.{take_more}
use Rattle.std.proofs.lemmas.Option.{slice_get-get_or}
use Rattle.pp_model.specs.declared.Call.TheVariants.{Get}
use Rattle.pp_model.specs.MapCalls.{AnswersCalls, none, more}
use Rattle.pp_model.proofs.Chains.{answers_each, caller_kept, room_left, steps_grown, mine_grown}
use Rattle.pp_model.proofs.calling.answer_all.Given.{Over}
use Rattle.pp_model.proofs.calling.answer_all.Goals as goal

pub loop-call-init : goal.loop-call-init
loop-call-init g c = record {
  belongs = c.requires.belongs;
  idle = c.requires.idle;
  answered = rw c.requires.none none;
  space = c.requires.space;
}

pub answer_one-answer-requires-clause-may : goal.answer_one-answer-requires-clause-may
answer_one-answer-requires-clause-may g c =
    let calls = c.args.calls.now in
    let i = c.loop-call.call-index in
    let within : i < length calls = c.loop-call-test.true in
    let left = room_left _ _ _ _ _ _ _ c.loop-call.invariant.answered in
    record {
      key = c.requires.keys i (get_or calls i (Get 0)) (slice_get-get_or calls i (Get 0) within);
      budget_left = c.requires.races;
      room = omega (arith, left, c.requires.room, within, length-take-le i calls (omega arith));
    }

pub enter-requires : goal.enter-requires
enter-requires g c =
    let within : c.loop-call.call-index < length c.args.calls.now = c.loop-call-test.true in
    let each = answers_each _ _ _ _ _ _ _ c.loop-call.invariant.answered in
    omega (arith, each, within, c.loop-call.invariant.space, length-take-le c.loop-call.call-index c.args.calls.now (omega arith))

pub loop-call-preserved : goal.loop-call-preserved
loop-call-preserved g c =
    let calls = c.args.calls.now in
    let i = c.loop-call.call-index in
    let call = get_or calls i (Get 0) in
    let next : take (i + 1) calls ≡ take i calls ++ call ∷ [] = take_more calls i (Get 0) c.loop-call-test.true in
    let chain = more (take i calls) c.loop-call.answers.items (g.M.MapCalls.pass_view c.loop-call.pass)
    (g.M.MapCalls.pass_view c.answer_one-answer.new.pass) call c.answer_one-answer.result c.loop-call.invariant.answered
    c.answer_one-answer.ensures.answered in
    record {
      belongs = c.answer_one-answer.ensures.belongs;
      idle = c.answer_one-answer.ensures.idle;
      answered = rw (next, c.enter.ensures.items) chain;
      space = omega (arith, c.loop-call.invariant.space, c.enter.ensures.room);
    }

-- the calls that were made are all
module _ (g : Over) (c : goal.After-loop-call g) where
  all : AnswersCalls g.M.MapCalls.meaning (g.M.MapCalls.sizes c.args.map.now) c.args.races (g.M.MapCalls.pass_view c.args.pass.now)
      c.args.calls.now c.loop-call.answers.items (g.M.MapCalls.pass_view c.loop-call.pass)
  all =
      let end : take c.loop-call.call-index c.args.calls.now ≡ c.args.calls.now =
      take_all c.loop-call.call-index c.args.calls.now c.loop-call-test.false in
      rw end at c.loop-call.invariant.answered

pub returns-clause-caller : goal.returns-clause-caller
returns-clause-caller g c = caller_kept _ _ _ _ _ _ _ (all g c)

pub returns-clause-each : goal.returns-clause-each
returns-clause-each g c = answers_each _ _ _ _ _ _ _ (all g c)

pub returns-clause-mine : goal.returns-clause-mine
returns-clause-mine g c = mine_grown _ _ _ _ _ _ _ (all g c)

pub returns-clause-steps : goal.returns-clause-steps
returns-clause-steps g c = steps_grown _ _ _ _ _ _ _ (all g c)
