use Rattle.std.proofs.Common.{ℕ, ◌+◌, ◌*◌, ap, ◌∙◌}
use Rattle.pp_hazard.proofs.Halving.{value_read}
use Rattle.pp_hazard.proofs.reading.value.Goals as goal

pub returns-clause-read : goal.returns-clause-read
returns-clause-read g c = record {
  low = c.read-low.result;
  high = c.read-high.result;
  is = ap (λ (n : ℕ). n + 18446744073709551616 * c.from-2.result) c.from.ensures
      ∙ ap (λ (n : ℕ). c.read-low.result + 18446744073709551616 * n) c.from-2.ensures;
  middle = c.read-low.new.pass.seat;
  first = c.read-low.ensures.read;
  second = c.read-high.ensures.read;
}

pub returns-clause-value : goal.returns-clause-value
returns-clause-value g c = ap (λ (n : ℕ). n + 18446744073709551616 * c.from-2.result) c.from.ensures
    ∙ (ap (λ (n : ℕ). c.read-low.result + 18446744073709551616 * n) c.from-2.ensures
    ∙ value_read c.args.pool.now.layout c.args.word c.read-low.result c.read-high.result c.args.pass.now.seat c.read-low.new.pass.seat
    c.read-high.new.pass.seat c.read-low.ensures.read c.read-high.ensures.read)
