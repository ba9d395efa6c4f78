use Rattle.std.proofs.Common.{◌≡◌, ◌<◌, ◌-◌, false}
use Rattle.pp_link.specs.Places.{head_place}
use Rattle.pp_queue.specs.Standing.{StaysUp, word_in}
use Rattle.pp_base.specs.Passes.{known, view, IsSame, IsAtRest}
use Rattle.pp_unlink.specs.Invalidation.{SameFree}
use Rattle.pp_queues.specs.Losses.{losing, Ran}
use Rattle.pp_queue.specs.Calling.{WentOn, IsHeadWord, EmptyFrom}
use Rattle.pp_queue.proofs.trying.take_value.Given as goal

abbrev pub invariant-again : goal.invariant-again
invariant-again l = record {
  few : l.turns < l.races;
  went : WentOn (view l.initial.pass.seat) (view l.pass.seat);
  ran : Ran l.pool.layout.passes (losing l.initial.first 0) (losing l.first l.turns) (view l.initial.pass.seat)
      (view l.pass.seat);
  same : IsSame l.initial.pass.seat l.pass.seat;
  first : IsHeadWord l.first;
  up : StaysUp (known l.initial.pass.seat) (known l.pass.seat);
  alone : l.pool.layout.passes ≡ 1 → (known l.initial.pass.seat).own.behind ≡ false
      → (l.turns ≡ 0) × (l.first ≡ word_in (view l.pass.seat) (head_place l.pool.layout 0));
  empty : EmptyFrom 0 (known l.pass.seat);
  rest : IsAtRest (known l.pass.seat) l.pass.purse;
  purse : SameFree l.initial.pass.purse l.pass.purse;
}

abbrev pub decreases-again : goal.decreases-again
decreases-again l = l.races - l.turns
