use Rattle.std.proofs.Common.{◌≡◌, take, true, Some}
use Rattle.std.specs.Str.{all_ascii_digits}
use Rattle.std.specs.Str.Parse.{digits_value}
use Rattle.pp_trace.specs.Lines.{as_number}
use Rattle.pp_trace.proofs.scanning.read_number.Given as goal

abbrev pub invariant-loop-byte : goal.invariant-loop-byte
invariant-loop-byte l = record {
  digits : all_ascii_digits (take l.byte-index l.byte-items) ≡ true;
  value : l.number ≡ as_number (Some (digits_value 10 (take l.byte-index l.byte-items)));
}
