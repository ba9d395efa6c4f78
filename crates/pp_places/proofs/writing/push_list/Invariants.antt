use Rattle.std.proofs.Common.{◌≡◌, ◌++◌, take}
use Rattle.std.specs.List.{flat_map}
use Rattle.pp_certificate.specs.Printed.{said_line}
use Rattle.pp_places.specs.Held.{AtFirst, IsPlacedHeld}
use Rattle.pp_places.proofs.writing.push_list.Given as goal

-- the lines so far stand in the text, and their numbers are held
abbrev pub invariant-loop-at : goal.invariant-loop-at
invariant-loop-at l = record {
  text : l.text.items ≡ l.fn.text.items ++ flat_map (said_line l.caller) (take l.at l.list);
  held : AtFirst l.at l.list IsPlacedHeld;
}
