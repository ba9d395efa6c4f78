-- What one turn of a call does, as a poll of its future tells it.
use Rattle.std.specs.Prelude.{◌≡◌}
use Rattle.pp_model.specs.declared.Answer.{Answer}
use Rattle.pp_model.specs.Pass.{PassView, GoingView, Meaning}
use Rattle.pp_model.specs.MapCalls.{MakesTurn, took_effect}

-- a turn that ended the call
pub record Ends (meaning : Meaning) (was : GoingView) (before after : PassView) (answer : Answer) : Type 0 where
  pub now : GoingView
  pub turn : MakesTurn meaning was now before after
  pub struck : now.struck ≡ took_effect answer
