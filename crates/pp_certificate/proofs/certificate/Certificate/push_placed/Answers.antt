use Rattle.std.proofs.Common.{◌<◌, length, ap, ◌∙◌, arith}
use Rattle.pp_certificate.specs.Certificates.{with_placed}
use Rattle.pp_certificate.proofs.Growing.{placed_in_vectors}
use Rattle.pp_certificate.proofs.certificate.Certificate.push_placed.Goals as goal

pub returns : goal.returns
returns c =
    let vectors = c.self.inside.lists.items in
    let within : c.args.caller < length vectors = omega (arith, c.self.invariant) in
    placed_in_vectors (λ calls. calls.items) vectors c.self.inside.log.items c.args.caller _ _ c.args.placed within
    c.index_mut.ensures.value
    c.in_ok-push.ensures.items
    ∙ ap (λ said. with_placed said c.args.caller c.args.placed) c.self.view_is
