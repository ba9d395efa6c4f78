use Rattle.std.proofs.Common.{◌≡◌, [], List, length, ap, ◌∙◌, sym, arith}
use Rattle.std.proofs.lemmas.List.{length-map, length-replicate}
use Rattle.pp_model.specs.declared.Placed.{Placed}
use Rattle.pp_certificate.proofs.certificate.Certificate.empty.Goals as goal

pub invariant_of-result : goal.invariant_of-result
invariant_of-result c =
    let all = length-replicate {A = List Placed} c.loop.counter [] in
    let size : length c.loop.lists.items ≡ c.loop.counter =
    sym (length-map c.loop.lists.items (λ calls. calls.items)) ∙ ap length c.loop.invariant ∙ all in
    omega (arith, size)
