-- The answers that suit each call.
use Rattle.std.specs.Prelude.{◌≡◌, ℕ}
use Rattle.pp_model.specs.declared.Answer.{Answer}
use Rattle.pp_model.specs.declared.Answer.TheVariants.{Said, Full, Lost}
use Rattle.pp_model.specs.declared.Call.{Call}
use Rattle.pp_model.specs.declared.Call.TheVariants.{Get, Insert, Remove, Cut}
use Rattle.pp_model.specs.declared.Reply.TheVariants.{Value, Absent, Added, Held, Took, Other}

abbrev pub GetSays : Answer → Type 0
GetSays (Said (Value v)) = Unit {0}
GetSays (Said Absent) = Unit {0}
GetSays (Said Added) = ⊥
GetSays (Said (Held v)) = ⊥
GetSays (Said (Took v)) = ⊥
GetSays (Said (Other v)) = ⊥
GetSays Full = ⊥
GetSays (Lost turns) = Unit {0}

abbrev pub InsertSays : Answer → Type 0
InsertSays (Said (Value v)) = ⊥
InsertSays (Said Absent) = ⊥
InsertSays (Said Added) = Unit {0}
InsertSays (Said (Held v)) = Unit {0}
InsertSays (Said (Took v)) = ⊥
InsertSays (Said (Other v)) = ⊥
InsertSays Full = Unit {0}
InsertSays (Lost turns) = Unit {0}

abbrev pub RemoveSays : Answer → Type 0
RemoveSays (Said (Value v)) = ⊥
RemoveSays (Said Absent) = Unit {0}
RemoveSays (Said Added) = ⊥
RemoveSays (Said (Held v)) = ⊥
RemoveSays (Said (Took v)) = Unit {0}
RemoveSays (Said (Other v)) = ⊥
RemoveSays Full = ⊥
RemoveSays (Lost turns) = Unit {0}

-- a cut takes the value that it asks for
abbrev pub CutSays : ℕ → Answer → Type 0
CutSays wanted (Said (Value v)) = ⊥
CutSays wanted (Said Absent) = Unit {0}
CutSays wanted (Said Added) = ⊥
CutSays wanted (Said (Held v)) = ⊥
CutSays wanted (Said (Took v)) = v ≡ wanted
CutSays wanted (Said (Other v)) = Unit {0}
CutSays wanted Full = ⊥
CutSays wanted (Lost turns) = Unit {0}

abbrev pub Suits : Call → Answer → Type 0
Suits (Get k) answer = GetSays answer
Suits (Insert k v) answer = InsertSays answer
Suits (Remove k) answer = RemoveSays answer
Suits (Cut k v) answer = CutSays v answer
