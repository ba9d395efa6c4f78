use Rattle.std.proofs.Common.{◌≡◌, ◌+◌, ◌-◌, ◌≤◌, drop, length}
use Rattle.pp_certificate.specs.Cuts.{parts_of}
use Rattle.pp_certificate.specs.Stages.{first_bad, first_bad_from}
use Rattle.pp_certificate.proofs.Growing.{HasReadTo}
use Rattle.pp_certificate.proofs.reading.read_certificate.Given as goal

abbrev pub invariant-loop-feed : goal.invariant-loop-feed
invariant-loop-feed l = record {
  within : l.from ≤ length l.bytes;
  few : l.line ≤ l.from + 1;
  good : first_bad l.bytes ≡ first_bad_from l.line l.stage (parts_of (drop l.from l.bytes));
  read : HasReadTo l.bytes (parts_of (drop l.from l.bytes)) l.certificate;
}

abbrev pub decreases-loop-feed : goal.decreases-loop-feed
decreases-loop-feed l = length l.bytes - l.from
