use Rattle.std.proofs.Common.{arith, rules, ◌≡◌, ◌≤◌, map, length, Some, None, [], ◌∷◌, ◌++◌, ap, ◌∙◌, sym}
use Rattle.std.specs.Prelude.{vec_capacity}
use Rattle.std.proofs.lemmas.List.Elements.{All-push}
use Rattle.std.proofs.lemmas.Iterator.{YieldsList-from_zip}
use Rattle.std.proofs.lemmas.Iterator.Adapters.{YieldsList-from_vec}
use Rattle.std.proofs.lemmas.Iterator.Consumers.{YieldsList-end}
use Rattle.std.proofs.lemmas.Slice.Zip.{firsts-zip, seconds-zip}
use Rattle.std.proofs.lemmas.List.{map-append}
use Rattle.pp_running.proofs.Lists.{pairs_again}
use Rattle.pp_planned.proofs.Openings.{firsts_some}
use Rattle.pp_planned.proofs.callers.callers_of.Goals as goal

pub loop-pass-preserved : goal.loop-pass-preserved
loop-pass-preserved g c =
    let new = c.new-caller.result in
    let parts = c.new-caller.ensures.parts in
    let old = c.loop-pass.callers.items in
    record {
      passes = ap (map (λ x. x.pass)) c.in_ok-append.ensures ∙ map-append (λ x. x.pass) old (new ∷ [])
          ∙ ap (λ l. l ++ new.pass ∷ []) c.loop-pass.invariant.passes
          ∙ ap (λ o. map (λ p. Some p.0) c.loop-pass.yielded ++ o ∷ []) parts.0
          ∙ sym (map-append (λ p. Some p.0) c.loop-pass.yielded ((c.in-Some.pass, c.in-Some.calls) ∷ []));
      calls = ap (map (λ x. x.calls)) c.in_ok-append.ensures ∙ map-append (λ x. x.calls) old (new ∷ [])
          ∙ ap (λ l. l ++ new.calls ∷ []) c.loop-pass.invariant.calls
          ∙ ap (λ o. map (λ p. p.1) c.loop-pass.yielded ++ o ∷ []) parts.3
          ∙ sym (map-append (λ p. p.1) c.loop-pass.yielded ((c.in-Some.pass, c.in-Some.calls) ∷ []));
      idle = rw c.in_ok-append.ensures (All-push (λ x. (x.call ≡ None) × (x.next ≡ 0) × (x.mark ≡ 0)) old new c.loop-pass.invariant.idle
          (parts.1, parts.2, parts.5));
      empty = rw c.in_ok-append.ensures (All-push (λ x. x.answers.items ≡ []) old new c.loop-pass.invariant.empty
          (ap (λ v. v.items) parts.4 ∙ c.in-Ok-with_capacity.ensures.items));
      room = rw c.in_ok-append.ensures (All-push (λ x. length x.calls.items ≤ vec_capacity x.answers) old new
          c.loop-pass.invariant.room
          (rw (parts.3, parts.4) (omega (arith, c.in-Ok-with_capacity.ensures.capacity, c.len-in-loop-pass.ensures))));
    }

pub returns-clause-passes : goal.returns-clause-passes
returns-clause-passes g c =
    let all = YieldsList-end (YieldsList-from_zip {s = c.into_iter-pass-iterator.result} (YieldsList-from_vec c.args.passes.items
    (search rules) (search rules)) (YieldsList-from_vec c.args.lists.items (search rules) (search rules)))
    c.loop-pass.yielded _ c.loop-pass.yielded_by _ c.next.new.self c.in-None.is c.next.ensures.steps in
    c.loop-pass.invariant.passes ∙ firsts_some c.loop-pass.yielded
    ∙ ap (map Some) (ap (map (λ p. p.0)) (sym (pairs_again c.loop-pass.yielded) ∙ all.0)
    ∙ firsts-zip c.args.passes.items c.args.lists.items c.requires)

pub returns-clause-calls : goal.returns-clause-calls
returns-clause-calls g c =
    let all = YieldsList-end (YieldsList-from_zip {s = c.into_iter-pass-iterator.result} (YieldsList-from_vec c.args.passes.items
    (search rules) (search rules)) (YieldsList-from_vec c.args.lists.items (search rules) (search rules)))
    c.loop-pass.yielded _ c.loop-pass.yielded_by _ c.next.new.self c.in-None.is c.next.ensures.steps in
    c.loop-pass.invariant.calls ∙ ap (map (λ p. p.1)) (sym (pairs_again c.loop-pass.yielded) ∙ all.0)
    ∙ seconds-zip c.args.passes.items c.args.lists.items c.requires
