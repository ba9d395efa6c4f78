use Rattle.std.proofs.Common.{◌≡◌, ◌≤◌, ◌^◌, false, arith, refl, sym, ap, ◌∙◌, subst}
use Rattle.pp_base.specs.Passes.{known, view}
use Rattle.pp_calls.proofs.Purses.{same_share}
use Rattle.pp_seek.specs.declared.seek.Seek.{Seek}
use Rattle.pp_seek.specs.Seeking.{Seeks as IsSeek}
use Rattle.pp_tree_calls.specs.Going.{upper_at}
use Rattle.pp_tree_calls.specs.Turned.{HasLost, HasMissed}
use Rattle.pp_tree_calls.proofs.Lasting.{part_after, missed_lost, out_same, lost_shared}
use Rattle.pp_tree_calls.proofs.Resting.{rest_kept, aside_clears}
use Rattle.pp_tree_calls.proofs.parts.lose_again.Goals as goal

pub lose-requires-clause-rest : goal.lose-requires-clause-rest
lose-requires-clause-rest c = let old = c.args.pass.now in let mid = c.done.new.pass in
    rest_kept (known old.seat) (known mid.seat) old.purse mid.purse c.done.ensures.clears.trail.rest
    (ap (λ p. p.spent) c.done.ensures.purse)
    c.requires.rest

pub lose-requires-clause-out : goal.lose-requires-clause-out
lose-requires-clause-out c = let old = c.args.pass.now in let mid = c.done.new.pass in
    out_same c.args.going.now.records (known old.seat) (known mid.seat) old.purse mid.purse c.done.ensures.clears.trail.rest.owned
    c.done.ensures.purse c.requires.out

pub lose-requires-clause-goes : goal.lose-requires-clause-goes
lose-requires-clause-goes c = let s = c.done.ensures.lets.same in record {
  call = s.call ∙ c.requires.goes.call;
  going = s.going ∙ c.requires.goes.going;
}

pub lose-requires-clause-seek : goal.lose-requires-clause-seek
lose-requires-clause-seek c = subst (λ (s : Seek). (s.call ≡ c.args.going.now.call) ×
    (IsSeek (known c.done.new.pass.seat) s × (s.fresh ≡ false)))
    (sym c.again-seek.ensures) (
      refl,
      (
        record {
          pair = c.requires.pair;
          call_is = λ _. c.done.ensures.lets.same.call ∙ c.requires.goes.call;
          empty = c.done.ensures.lets.empty;
        },
        refl,
      ),
    )

pub lose-requires-clause-high : goal.lose-requires-clause-high
lose-requires-clause-high c = subst (λ (s : Seek). upper_at s.spot ≤ 2 ^ 64) (sym c.again-seek.ensures) (omega arith)

pub returns-clause-part : goal.returns-clause-part
returns-clause-part c = let z = c.args.pool.now.layout in let g = c.args.going.now in let old = c.args.pass.now in
    let mid = c.done.new.pass in
    let l = c.lose in let new = l.new.pass in let s = c.again-seek.result in let n = aside_clears z (view old.seat)
    (view mid.seat) c.done.ensures.clears in
    part_after z old.share (HasMissed z old.share g (view old.seat) old.purse)
    (HasLost z old.share g s (view mid.seat) mid.purse) g l.new.going
    (view old.seat) (view mid.seat) (view new.seat) new.purse l.result n.stepped n.stands
    (missed_lost z old.share g s (view old.seat) (view mid.seat) old.purse mid.purse (ap (λ s. s.spot) c.again-seek.ensures)
    c.done.ensures.clears
    c.done.ensures.lets.same.start c.done.ensures.purse)
    (lost_shared z old.share mid.share g l.new.going s (view mid.seat) (view new.seat) mid.purse new.purse l.result
    (same_share 5 2 old.seat mid.seat _ _ _ _ _ _ _ _ old.keeping mid.keeping c.done.ensures.same) l.ensures.part)
