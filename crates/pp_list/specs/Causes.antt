-- The words in which a list says its causes.
use Rattle.std.specs.Prelude.{◌≡◌, ℕ, ◌+◌, ◌-◌, ◌/◌, true, cond, List, [], ◌∷◌, map}
use Rattle.pp_link.specs.Places.{cell_place}
use Rattle.pp_model.specs.declared.Call.{Call}
use Rattle.pp_model.specs.declared.steps.Step.{Step}
use Rattle.pp_model.specs.Pass.{MapSizes}
use Rattle.pp_rule.specs.Causes.{pool_sizes, CauseWords}
use Rattle.pp_rule.specs.Lists.{IsIn}
use Rattle.pp_rule.specs.Reached.{Reached}
use Rattle.pp_rule.specs.Orders.{missed_step}
use Rattle.pp_base.specs.Named.{NamedStep, name_of}
use Rattle.pp_lists.specs.Losses.{is_past_shelves, is_effect, list_reader}

-- the record can be reached from a head by left links
abbrev pub IsListed : MapSizes → List ℕ → ℕ → Type 0
IsListed z words n = Reached 1 (pool_sizes z) words n

-- the place of the step at which the call took effect
unfoldable pub effect_place : List NamedStep → ℕ
effect_place [] = 0
effect_place (s ∷ steps) = cond (is_effect s) s.place (effect_place steps)

-- the record that has a word at this place
abbrev pub number_at : MapSizes → ℕ → ℕ
number_at z place = (place - cell_place (pool_sizes z) 1 0) / 5 + 1

-- the record whose pair the call took is that of the link which it marked
abbrev pub taken_by : MapSizes → Call → List Step → ℕ
taken_by z call steps = number_at z (effect_place (map name_of steps))

-- a list leaves a record attached where an exchange of a link failed after the mark
abbrev pub ListLeftBy : MapSizes → Call → ℕ → ℕ → List Step → Type 0
ListLeftBy z call budget lost steps = (s : Step) × (IsIn s steps × (s.kind ≡ missed_step) × (is_past_shelves z s.place ≡ true))

abbrev pub list_causes : CauseWords
list_causes = record {
  reader = list_reader;
  IsAttached = IsListed;
  taken = taken_by;
  LeftBy = ListLeftBy;
}
