use Rattle.std.proofs.Common.{◌≡◌, rules, arith, codes, refl}
use Rattle.std.proofs.lemmas.Slice.Eq.{text_from_reads}
use Rattle.pp_certificate.proofs.entries.read_bare_reply.Goals as goal

pub returns-in-absent : goal.returns-in-absent
returns-in-absent c =
    let text : c.args.field.now ≡ codes "absent" = text_from_reads _ _ (omega arith) (search rules) in
    rw text refl
