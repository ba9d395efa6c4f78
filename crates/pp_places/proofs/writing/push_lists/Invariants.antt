use Rattle.std.proofs.Common.{◌≡◌, ◌++◌, take, map}
use Rattle.pp_certificate.specs.Printed.{said_text}
use Rattle.pp_places.specs.Held.{AtFirst, IsListHeld}
use Rattle.pp_places.proofs.writing.push_lists.Given as goal

-- the lists of the callers so far stand in the text, and their numbers are held
abbrev pub invariant-loop-caller : goal.invariant-loop-caller
invariant-loop-caller l = record {
  text : l.text.items ≡ l.fn.text.items ++ said_text 0 (take l.caller (map (λ v. v.items) l.lists));
  held : AtFirst l.caller (map (λ v. v.items) l.lists) IsListHeld;
}
