use Rattle.std.proofs.Common.{ℕ, Option, subst}
use Rattle.pp_base.specs.Passes.{view}
use Rattle.pp_seek.specs.declared.seek.Spot.{Spot}
use Rattle.pp_seek.specs.Seeking.{EndsAtLeaf}
use Rattle.pp_seek.specs.Lone.{LoneSeek}
use Rattle.pp_seek.proofs.Coming.{moved_turn}
use Rattle.pp_seek.proofs.seek.Seek.turn.Goals as goal

pub returns-in-Ended-clause-turned : goal.returns-in-Ended-clause-turned
returns-in-Ended-clause-turned c = (
  subst (λ (k : ℕ). EndsAtLeaf c.args.pool.now.layout k c.in-Ended.sought
      (view c.args.pass.now.seat) (view c.go_down.new.pass.seat)) c.key_of_call.ensures c.in-Ended.ensures.looked,
  (c.in-Some.spot, c.in-Some.is),
)

pub returns-in-Moved-clause-turned : goal.returns-in-Moved-clause-turned
returns-in-Moved-clause-turned c = let seek = c.args.self.now in
    moved_turn c.args.pool.now.layout seek.call seek.fresh seek.spot c.in-Some.spot (view c.args.pass.now.seat)
    (view c.go_down.new.pass.seat) c.in-Some.is c.requires.seeks c.in-Moved.ensures.looked

pub returns-in_default-clause-alone : goal.returns-in_default-clause-alone
returns-in_default-clause-alone c = λ lone. c.enter.ensures.alone (subst (λ (o : Option Spot).
    LoneSeek c.args.pool.now.layout o (view c.args.pass.now.seat)) c.in_default.is lone)

pub returns-in-Moved-clause-alone : goal.returns-in-Moved-clause-alone
returns-in-Moved-clause-alone c = λ lone. absurd (c.in-Moved.ensures.alone (subst (λ (o : Option Spot).
    LoneSeek c.args.pool.now.layout o (view c.args.pass.now.seat)) c.in-Some.is lone))

pub returns-in-Broken-clause-alone : goal.returns-in-Broken-clause-alone
returns-in-Broken-clause-alone c = λ lone. absurd (c.in-Broken.ensures.alone (subst (λ (o : Option Spot).
    LoneSeek c.args.pool.now.layout o (view c.args.pass.now.seat)) c.in-Some.is lone))

pub returns-in-Came-clause-alone : goal.returns-in-Came-clause-alone
returns-in-Came-clause-alone c = λ lone. c.in-Came.ensures.alone (subst (λ (o : Option Spot).
    LoneSeek c.args.pool.now.layout o (view c.args.pass.now.seat)) c.in-Some.is lone)

pub returns-in-Ended-clause-alone : goal.returns-in-Ended-clause-alone
returns-in-Ended-clause-alone c = λ lone. c.in-Ended.ensures.alone (subst (λ (o : Option Spot).
    LoneSeek c.args.pool.now.layout o (view c.args.pass.now.seat)) c.in-Some.is lone)
