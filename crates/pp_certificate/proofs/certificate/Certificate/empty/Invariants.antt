use Rattle.std.proofs.Common.{◌≡◌, [], map, replicate}
use Rattle.pp_certificate.proofs.certificate.Certificate.empty.Given as goal

abbrev pub invariant-loop : goal.invariant-loop
invariant-loop l = map (λ calls. calls.items) l.lists.items ≡ replicate l.counter []
