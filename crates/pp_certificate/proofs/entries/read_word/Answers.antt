use Rattle.std.proofs.Common.{◌≡◌, rules, arith, codes, refl}
use Rattle.std.proofs.lemmas.Slice.Eq.{text_from_reads}
use Rattle.pp_certificate.proofs.entries.read_word.Goals as goal

pub returns-in-insert : goal.returns-in-insert
returns-in-insert c =
    let text : c.args.field.now ≡ codes "insert" = text_from_reads _ _ (omega arith) (search rules) in
    rw text refl

pub returns-in-remove : goal.returns-in-remove
returns-in-remove c =
    let text : c.args.field.now ≡ codes "remove" = text_from_reads _ _ (omega arith) (search rules) in
    rw text refl
