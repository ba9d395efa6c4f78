use Rattle.std.proofs.Common.{◌≡◌, ◌<◌, List, [], ◌∷◌, ◌++◌, length, map, take, get_or, replicate, arith, sym, ap, ◌∙◌}
use Rattle.std.proofs.lemmas.List.{take_more, map-append}
use Rattle.std.proofs.lemmas.List.Elements.{All-push}
use Rattle.pp_model.specs.declared.Answer.{Answer}
use Rattle.pp_pieces.specs.Claims.{claims}
use Rattle.pp_pieces.proofs.Bytes.{map-more}
use Rattle.pp_claims.proofs.shares.shares_of.Goals as goal

pub loop-caller-preserved : goal.loop-caller-preserved
loop-caller-preserved c = let i = c.loop-caller.caller in let old = c.loop-caller.shares.items in let answers = c.args.answers.now in
    let x = c.index-answers-caller.result in let each = c.requires.each in let lt = c.loop-caller-test.true in
    let less : i < length answers = omega (arith, each, lt) in
    let here : get_or answers i x ≡ x = sym c.index-answers-caller.is in
    let given = c.in_ok-share.ensures.answers ∙ c.as_slice-given.ensures.value in record {
      calls = ap (map (λ s. s.calls.items)) c.in_ok-append.ensures ∙ (map-append (λ s. s.calls.items) old _
          ∙ map-more (claims c.args.callers c.args.pieces) (map (λ s. s.calls.items) old) i c.in_ok-share.share.calls.items
          c.loop-caller.invariant.calls c.in_ok-share.ensures.calls);
      answers = ap (map (λ s. s.answers.now)) c.in_ok-append.ensures ∙ (map-append (λ s. s.answers.now) old _
          ∙ (ap (λ l. l ++ c.in_ok-share.share.answers.now ∷ []) c.loop-caller.invariant.answers
          ∙ (ap (λ (a : List Answer). map (λ v. v.items) (take i answers) ++ a ∷ []) given
          ∙ sym (ap (map (λ v. v.items)) (take_more answers i x less ∙ ap (λ v. take i answers ++ v ∷ []) here)
          ∙ map-append (λ v. v.items) (take i answers) (x ∷ [])))));
      empty = rw c.in_ok-append.ensures (All-push (λ s. s.counts.items ≡ replicate 256 0) old _ c.loop-caller.invariant.empty
          c.in_ok-share.ensures.empty);
    }
