use Rattle.std.proofs.Common.{arith, rules, ◌≡◌, ◌≤◌, map, length, [], ◌∷◌, ◌++◌, ap, ◌∙◌, sym}
use Rattle.std.specs.Prelude.{vec_capacity}
use Rattle.std.proofs.lemmas.List.Elements.{All-push}
use Rattle.std.proofs.lemmas.Iterator.{YieldsList-from_zip}
use Rattle.std.proofs.lemmas.Iterator.Adapters.{YieldsList-from_vec}
use Rattle.std.proofs.lemmas.Iterator.Consumers.{YieldsList-end}
use Rattle.std.proofs.lemmas.Slice.Zip.{firsts-zip, seconds-zip}
use Rattle.std.proofs.lemmas.List.{map-append}
use Rattle.pp_running.proofs.Lists.{pairs_again}
use Rattle.pp_running.proofs.jobs.jobs_of.Goals as goal

pub loop-pass-preserved : goal.loop-pass-preserved
loop-pass-preserved g c = record {
  passes = ap (map (λ job. job.pass)) c.in_ok-append.ensures ∙ map-append (λ job. job.pass) c.loop-pass.jobs.items _
      ∙ ap (λ l. l ++ c.in-Some.pass ∷ []) c.loop-pass.invariant.passes ∙ sym (map-append (λ p. p.0) c.loop-pass.yielded _);
  calls = ap (map (λ job. job.calls)) c.in_ok-append.ensures ∙ map-append (λ job. job.calls) c.loop-pass.jobs.items _
      ∙ ap (λ l. l ++ c.in-Some.calls ∷ []) c.loop-pass.invariant.calls ∙ sym (map-append (λ p. p.1) c.loop-pass.yielded _);
  empty = rw c.in_ok-append.ensures (All-push
      (λ job. job.answers.items ≡ []) c.loop-pass.jobs.items _ c.loop-pass.invariant.empty c.in-Ok-with_capacity.ensures.items);
  room = rw c.in_ok-append.ensures (All-push
      (λ job. length job.calls.items ≤ vec_capacity job.answers) c.loop-pass.jobs.items _ c.loop-pass.invariant.room
      (omega (arith, c.in-Ok-with_capacity.ensures.capacity, c.len-in-loop-pass.ensures)));
}

pub returns-clause-passes : goal.returns-clause-passes
returns-clause-passes g c =
    let all = YieldsList-end (YieldsList-from_zip {s = c.into_iter-pass-iterator.result} (YieldsList-from_vec c.args.passes.items
    (search rules) (search rules)) (YieldsList-from_vec c.args.lists.items (search rules) (search rules)))
    c.loop-pass.yielded _ c.loop-pass.yielded_by _ c.next.new.self c.in-None.is c.next.ensures.steps in
    c.loop-pass.invariant.passes ∙ ap (map (λ p. p.0)) (sym (pairs_again c.loop-pass.yielded) ∙ all.0)
    ∙ firsts-zip c.args.passes.items c.args.lists.items c.requires

pub returns-clause-calls : goal.returns-clause-calls
returns-clause-calls g c =
    let all = YieldsList-end (YieldsList-from_zip {s = c.into_iter-pass-iterator.result} (YieldsList-from_vec c.args.passes.items
    (search rules) (search rules)) (YieldsList-from_vec c.args.lists.items (search rules) (search rules)))
    c.loop-pass.yielded _ c.loop-pass.yielded_by _ c.next.new.self c.in-None.is c.next.ensures.steps in
    c.loop-pass.invariant.calls ∙ ap (map (λ p. p.1)) (sym (pairs_again c.loop-pass.yielded) ∙ all.0)
    ∙ seconds-zip c.args.passes.items c.args.lists.items c.requires
