use Rattle.std.proofs.Common.{◌≡◌, ◌+◌, ◌-◌, [], ◌∷◌, ◌++◌, length, ap, ◌∙◌, sym, arith}
use Rattle.pp_model.specs.Lists.{upto}
use Rattle.pp_model.proofs.PlainPasses.{length-upto, upto-push}
use Rattle.pp_model.proofs.plain.numbers.Goals as goal

pub loop-n-init : goal.loop-n-init
loop-n-init c =
    let none : c.args.first - c.args.first ≡ 0 = omega arith in
    record {
      items = c.in_ok-numbers.ensures.empty ∙ sym (ap (upto (c.args.first + 1)) none);
      room =
          omega (arith, c.in_ok-numbers.ensures.room);
    }

pub push_reserved-requires : goal.push_reserved-requires
push_reserved-requires c =
    let have = length-upto (c.args.first + 1) (c.loop-n.n - c.args.first) in
    omega (arith, ap length c.loop-n.invariant.items, have, c.loop-n.invariant.room)

pub loop-n-preserved : goal.loop-n-preserved
loop-n-preserved c =
    let next : c.loop-n.n + 1 - c.args.first ≡ c.loop-n.n - c.args.first + 1 = omega (arith, c.loop-n.auto.n) in
    let number : c.loop-n.n + 1 ≡ c.args.first + 1 + (c.loop-n.n - c.args.first) = omega (arith, c.loop-n.auto.n) in
    record {
      items = c.push_reserved.ensures.items
          ∙ (ap (λ ns. ns ++ (c.loop-n.n + 1) ∷ []) c.loop-n.invariant.items
          ∙ (ap (λ k. upto (c.args.first + 1) (c.loop-n.n - c.args.first) ++ k ∷ []) number
          ∙ sym (upto-push (c.args.first + 1) (c.loop-n.n - c.args.first) (c.loop-n.n + 1 - c.args.first) next)));
      room = omega (arith, c.loop-n.invariant.room, c.push_reserved.ensures.room);
    }
