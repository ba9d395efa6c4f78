use Rattle.std.proofs.Common.{◌∙◌, ◌%◌, ap, rules, arith}
use Rattle.pp_trace.specs.TraceLists.{with_call}
use Rattle.pp_trace.proofs.MadeLines.{made-none, made-step, made_line-drawn, state-more, length-lists}
use Rattle.pp_trace.proofs.made.make_lists.Goals as goal

pub loop-line-init : goal.loop-line-init
loop-line-init c = (search rules, search rules, c.in_ok-trace.ensures ∙ made-none c.args.make.seed c.args.callers)

pub push-requires : goal.push-requires
push-requires c =
    let n = length-lists _ c.loop-line.trace c.args.callers c.loop-line.invariant.2 in
    omega (arith, n, c.requires.callers)

pub loop-line-preserved : goal.loop-line-preserved
loop-line-preserved c =
    let i = c.loop-line.invariant in
    let seed = c.args.make.seed in
    let callers = c.args.callers in
    let n = c.loop-line.line in
    let call = c.drawn.ensures
    ∙ made_line-drawn seed callers n _ _ _ i.1 c.draw_next-first.ensures.value c.draw_next-state.ensures.value in (
      c.draw_next-state.ensures.range,
      state-more seed n _ _ _ i.1 c.draw_next-first.ensures.value c.draw_next-state.ensures.value,
      c.in_ok-push.ensures ∙ ap (with_call c.loop-line.trace (n % callers)) call
          ∙ made-step seed n callers c.loop-line.trace (omega (arith, c.requires.callers)) i.2,
    )
