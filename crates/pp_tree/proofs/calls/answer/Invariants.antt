use Rattle.std.proofs.Common.{◌≡◌}
use Rattle.pp_base.specs.Passes.{known}
use Rattle.pp_calls.specs.PoolViews.{pass_view}
use Rattle.pp_model.specs.Pass.{turns_left}
use Rattle.pp_turns.specs.Passes.{IsMember}
use Rattle.pp_tree_calls.specs.Going.{going_of}
use Rattle.pp_tree.specs.Trees.{IsCalling}
use Rattle.pp_tree.proofs.calls.answer.Given as goal

abbrev pub invariant-loop-answer : goal.invariant-loop-answer
invariant-loop-answer l = record {
  belongs : IsMember l.tree.pool.table.shared.table_id l.tree.pool.layout l.pass;
  going : IsCalling l.tree.pool.layout l.pass l.going (pass_view l.fn.pass);
  call : l.going.call ≡ l.fn.call;
  budget : l.going.races ≡ l.fn.races;
}

abbrev pub decreases-loop-answer : goal.decreases-loop-answer
decreases-loop-answer l = turns_left (going_of (known l.pass.seat) l.going)
