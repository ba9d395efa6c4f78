use Rattle.std.proofs.Common.{◌≡◌, ◌++◌, take}
use Rattle.std.specs.List.{flat_map}
use Rattle.pp_certificate.specs.Printed.{change_line}
use Rattle.pp_places.specs.Held.{AtFirst, IsChangeHeld}
use Rattle.pp_places.proofs.writing.push_log.Given as goal

-- the lines so far stand in the text, and their numbers are held
abbrev pub invariant-loop-at : goal.invariant-loop-at
invariant-loop-at l = record {
  text : l.text.items ≡ l.fn.text.items ++ flat_map change_line (take l.at l.log);
  held : AtFirst l.at l.log IsChangeHeld;
}
