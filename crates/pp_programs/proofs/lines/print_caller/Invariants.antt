use Rattle.std.proofs.Common.{◌≡◌, ◌+◌, take, Ok}
use Rattle.pp_trace.specs.Text.{caller_text}
use Rattle.pp_trace.specs.Printing.{Puts}
use Rattle.pp_programs.proofs.lines.print_caller.Given as goal

-- the lines so far were printed
abbrev pub invariant-loop-answer : goal.invariant-loop-answer
invariant-loop-answer g l = record {
  number : l.number ≡ l.answer-index + 1;
  printed : Puts g.K.Sink.written g.K.Sink.faults g.K.Sink.Writes l.fn.sink l.sink l.fn.printer l.printer (caller_text
      g.L.AnswerLines.line l.caller 1 (take l.answer-index l.answers)) (Ok tt);
}
