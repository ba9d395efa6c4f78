use Rattle.std.proofs.Common.{◌≡◌, take, map, Ok}
use Rattle.pp_trace.specs.Text.{callers_text}
use Rattle.pp_trace.specs.Printing.{Puts}
use Rattle.pp_programs.proofs.lines.print_answers.Given as goal

-- the callers so far were printed
abbrev pub invariant-loop-given : goal.invariant-loop-given
invariant-loop-given g l = record {
  caller : l.caller ≡ l.given-index;
  printed : Puts g.K.Sink.written g.K.Sink.faults g.K.Sink.Writes l.fn.sink l.sink l.fn.printer l.printer
      (callers_text g.L.AnswerLines.line 0 (map (λ v. v.items) (take l.given-index l.answers))) (Ok tt);
}
