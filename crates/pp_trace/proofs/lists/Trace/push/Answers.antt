use Rattle.std.proofs.Common.{◌<◌, length, ap, ◌∙◌, arith}
use Rattle.std.proofs.lemmas.List.{length-map}
use Rattle.pp_trace.specs.TraceLists.{with_call}
use Rattle.pp_trace.proofs.Growth.{with_call-set}
use Rattle.pp_trace.proofs.lists.Trace.push.Goals as goal

pub returns : goal.returns
returns c =
    let vectors = c.self.inside.lists.items in
    let within : c.args.caller < length vectors = omega (arith, length-map vectors (λ calls. calls.items), ap length c.self.view_is) in
    with_call-set (λ calls. calls.items) vectors c.args.caller _ _ c.args.call within c.index_mut.ensures.value c.in_ok-push.ensures.items
    ∙ ap (λ lists. with_call lists c.args.caller c.args.call) c.self.view_is
