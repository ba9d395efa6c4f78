use Rattle.std.proofs.Common.{ℕ, suc, ◌<◌, length, ◌∙◌, arith}
use Rattle.pp_base.specs.Passes.{known, view}
use Rattle.pp_unlink.proofs.Settling.{one_less, flushed_more}
use Rattle.pp_unlink.proofs.invalidating.flush.Goals as goal

pub loop-pass-preserved : goal.loop-pass-preserved
loop-pass-preserved g c = let inv = c.loop-pass.invariant in let now = c.loop-pass.pass in let next = c.invalidate.new.pass in
    let made = c.invalidate.ensures.made in let n : ℕ = inv.0 in
    let any : 0 < length (known now.seat).chains = let count = c.chains.ensures in let more = c.loop-pass-test.true in
    omega (arith, count, more) in
    let less = one_less (known now.seat) (known next.seat) any made.known in (
      suc n,
      (
        (let was = inv.1.0 in omega (arith, was, less)),
        flushed_more g.S.Shape.SIDES c.args.pool.now.layout n (view c.args.pass.now.seat) (view now.seat) (view next.seat) inv.1.1 made,
        record {
          table_is = c.invalidate.ensures.same.table_is ∙ inv.1.2.table_is;
          number = c.invalidate.ensures.same.number ∙ inv.1.2.number;
          sizes = c.invalidate.ensures.same.sizes ∙ inv.1.2.sizes;
        },
        c.invalidate.ensures.rest,
        record {
          free = c.invalidate.ensures.purse.free ∙ inv.1.4.free;
          taken = c.invalidate.ensures.purse.taken ∙ inv.1.4.taken;
          going = c.invalidate.ensures.purse.going ∙ inv.1.4.going;
        },
        c.invalidate.ensures.walk ∙ inv.1.5,
      ),
    )
