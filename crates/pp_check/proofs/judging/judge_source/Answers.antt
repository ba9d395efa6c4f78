use Rattle.std.proofs.Common.{List, ℕ, ◌∙◌, subst}
use Rattle.pp_check.specs.Verdicts.{IsVerdict}
use Rattle.pp_devices.specs.Told.{IsToldWhole, IsToldPart}
use Rattle.pp_check.proofs.judging.judge_source.Goals as goal

pub returns-in-Ok-write_text : goal.returns-in-Ok-write_text
returns-in-Ok-write_text g c = (
  record {
    bytes = c.in-Ok.bytes.items;
    all = c.in-Ok.ensures.all;
    unfailed = c.in-Ok.ensures.kept;
    within = c.in-Ok.ensures.most;
    right = subst (λ (t : List ℕ). IsVerdict t c.in-Ok-check.verdict) c.deref.ensures.value c.in-Ok-check.ensures.verdict;
  },
  subst (λ (t : List ℕ). IsToldWhole g.K.Sink.written g.K.Sink.faults g.K.Sink.Writes c.args.sink.now c.write_text.new.sink t)
      (c.as_bytes.ensures.value ∙ c.as_str.ensures.value ∙ c.verdict_text.ensures)
      c.in-Ok-write_text.ensures.whole,
)

pub returns-in-Ok-check : goal.returns-in-Ok-check
returns-in-Ok-check g c = record {
  verdict = c.in-Ok-check.verdict;
  judged = record {
    bytes = c.in-Ok.bytes.items;
    all = c.in-Ok.ensures.all;
    unfailed = c.in-Ok.ensures.kept;
    within = c.in-Ok.ensures.most;
    right = subst (λ (t : List ℕ). IsVerdict t c.in-Ok-check.verdict) c.deref.ensures.value c.in-Ok-check.ensures.verdict;
  };
  cut = subst (λ (t : List ℕ). IsToldPart g.K.Sink.written g.K.Sink.faults g.K.Sink.Writes c.args.sink.now c.write_text.new.sink t)
      (c.as_bytes.ensures.value ∙ c.as_str.ensures.value ∙ c.verdict_text.ensures)
      c.in-Err-write_text.ensures.part;
}
