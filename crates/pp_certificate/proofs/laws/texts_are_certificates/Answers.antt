use Rattle.pp_certificate.proofs.Printing.{texts_are_certificates}
use Rattle.pp_certificate.proofs.laws.texts_are_certificates.Goals as goal

pub returns : goal.returns
returns c = texts_are_certificates
