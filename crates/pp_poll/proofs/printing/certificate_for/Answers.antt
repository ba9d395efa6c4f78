use Rattle.std.proofs.Common.{arith, length, ap, sym, ◌∙◌}
use Rattle.std.proofs.lemmas.List.{length-map}
use Rattle.pp_poll.proofs.printing.certificate_for.Goals as goal

pub certificate_of-requires : goal.certificate_of-requires
certificate_of-requires c =
    let run = c.requires.run.0 in
    let is = c.in_ok-history.ensures run c.requires.run.1 in
    let many = sym (length-map _ (λ v. v.items)) ∙ (ap length is.1 ∙ length-map run.callers (λ r. r.mine)) in
    let all = length-map c.args.lists.now (λ v. v.items) in
    omega (arith, many, all, c.requires.run.1.callers, c.requires.callers, ap length c.deref-2.ensures.value)
