use Rattle.std.proofs.Common.{◌≡◌, ◌+◌, ◌-◌, get_or, refl, arith, Ok, Err}
use Rattle.std.proofs.lemmas.Result.{err_from_is_err_and}
use Rattle.pp_trace.proofs.Buffered.{Puts-none}
use Rattle.pp_programs.proofs.PrintedTexts.{Puts-more, Puts-short}
use Rattle.pp_tally.proofs.Values.{values_more, values_whole}
use Rattle.pp_tally.proofs.printing.print_values.Goals as goal

pub loop-value-init : goal.loop-value-init
loop-value-init g c = Puts-none _ _ _ _ _ c.requires.whole

pub returns-in_err-print_value : goal.returns-in_err-print_value
returns-in_err-print_value g c =
    let p = err_from_is_err_and c.from_residual.result c.from_residual.ensures.1 in
    let i = c.loop-value.value in
    rw p.1 (Puts-short _ _ _ p.0
    (values_whole (λ value. get_or c.args.total.now value 0) (i + 1) (255 - i) 256 (omega (arith, c.loop-value-test.true)))
    (Puts-more _ _ _ (Err p.0) (values_more (λ value. get_or c.args.total.now value 0) i _ refl) c.loop-value.invariant
    c.in_err-print_value.ensures))

pub loop-value-preserved : goal.loop-value-preserved
loop-value-preserved g c = Puts-more _ _ _ (Ok tt) (values_more (λ value. get_or c.args.total.now value 0) c.loop-value.value _ refl)
    c.loop-value.invariant c.in_ok-print_value.ensures

pub returns : goal.returns
returns g c =
    let e : c.loop-value.value ≡ 256 = omega (arith, c.loop-value-test.false, c.loop-value.auto.value-end) in rw e at c.loop-value.invariant
