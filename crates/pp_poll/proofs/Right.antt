-- A printed certificate is right.
use Rattle.std.proofs.Common.{ℕ, List, length, sym, subst}
use Rattle.pp_check.specs.declared.Verdict.TheVariants.{Yes}
use Rattle.pp_check.specs.Verdicts.{IsVerdict}
use Rattle.pp_places.proofs.Certified.{certified}
use Rattle.pp_places.proofs.Runs.{run_stands}
use Rattle.pp_replay.specs.Replay.{meaning_of, sizes_of}
use Rattle.pp_poll.specs.Right.{CertificatesAreRight}

pub certificates_are_right : CertificatesAreRight
certificates_are_right words before after answers kept polled =
    let s = polled.settings in
    let ran = polled.under.ran in
    subst (λ (text : List ℕ). IsVerdict text Yes) (sym polled.text_is)
    (certified (length polled.lists) polled.run ran.sound ran.known ran.callers
    (run_stands (meaning_of s.map) (sizes_of s) s.races polled.under.opened polled.lists answers polled.run ran) polled.ranges)
