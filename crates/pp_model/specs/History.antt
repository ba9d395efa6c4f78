-- One log of a map's changes, and the calls that are placed in it: what is said of them is said of any sequential object.
use Rattle.std.specs.Prelude.{ℕ, Bool, List, [], refl}
use Rattle.pp_model.specs.declared.Call.{Call}
use Rattle.pp_model.specs.declared.Reply.{Reply}
use Rattle.pp_model.specs.declared.Change.{Change}
use Rattle.pp_model.specs.declared.Placed.{Placed}
use Rattle.pp_model.specs.declared.Pair.{Pair}
use Rattle.pp_model.specs.Calls.{reply, map_after, changes}
use Rattle.pp_model.specs.MapLaws.{map_after_unchanged}
use Rattle.pp_model.specs.Objects.{Object}
use Rattle.pp_model.specs.Objects as object

abbrev pub change_of : ℕ → ℕ → Call → Change
change_of caller number call = record { caller = caller; number = number; call = call }

-- the finite map as a sequential object
abbrev pub finite_map : Object
finite_map = record {
  State = List Pair;
  Call = Call;
  Reply = Reply;
  initial = [];
  reply = reply;
  next = map_after;
  changes = changes;
  still = map_after_unchanged;
  Change = Change;
  caller = λ c. c.caller;
  call = λ c. c.call;
  change = change_of;
  caller_is = λ c n x. refl;
  call_is = λ c n x. refl;
  Placed = Placed;
  asked = λ s. s.call;
  given = λ s. s.reply;
  place = λ s. s.place;
}

-- the map after a list of changes, from a map on
abbrev pub run_from : List Pair → List Change → List Pair
run_from m log = object.run_from finite_map m log

-- the map that the first p changes of a log leave
abbrev pub after : List Change → ℕ → List Pair
after log p = object.after finite_map log p

-- the map that the whole log leaves
abbrev pub contents_of : List Change → List Pair
contents_of log = object.contents_of finite_map log

-- each change of the log changes the map before it
abbrev pub Sound : List Change → Type 0
Sound log = object.Sound finite_map log

-- a call that changed the map, as a caller's call of this number: the log has it at its place, and the map before gives its reply
abbrev pub FitsAsChange : List Change → ℕ → ℕ → Placed → Type 0
FitsAsChange log caller number s = object.FitsAsChange finite_map log caller number s

-- a call that changed nothing: the map at its place gives its reply
abbrev pub FitsUnchanged : List Change → Placed → Type 0
FitsUnchanged log s = object.FitsUnchanged finite_map log s

abbrev pub FitsBy : Bool → List Change → ℕ → ℕ → Placed → Type 0
FitsBy change log caller number s = object.FitsBy finite_map change log caller number s

-- a placed call fits a log, as a caller's call of this number
abbrev pub Fits : List Change → ℕ → ℕ → Placed → Type 0
Fits log caller number s = object.Fits finite_map log caller number s

-- the places of a caller's changes in a log whose first change has place p + 1
abbrev pub places_from : ℕ → ℕ → List Change → List ℕ
places_from p caller log = object.places_from finite_map p caller log

-- the places of a caller's changes in a log
abbrev pub places_in : ℕ → List Change → List ℕ
places_in caller log = object.places_in finite_map caller log

-- the places of the changes in a list of placed calls
abbrev pub places_of : List Placed → List ℕ
places_of mine = object.places_of finite_map mine

-- t comes after s: at no lower place, and above it where t is a change
abbrev pub Follows : Placed → Placed → Type 0
Follows s t = object.Follows finite_map s t

-- a caller's list of placed calls stands in a log: each fits it, they follow one another, and the log has no other change of the
-- caller
abbrev pub Stands : List Change → ℕ → List Placed → Type 0
Stands log caller mine = object.Stands finite_map log caller mine
