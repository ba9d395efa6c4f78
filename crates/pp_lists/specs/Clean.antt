-- What a list is where no removed record is attached.
use Rattle.std.specs.Prelude.{◌≡◌, ℕ, List}
use Rattle.pp_link.specs.declared.layout.Sizes.{Sizes}
use Rattle.pp_link.specs.Links.{flag_bit}
use Rattle.pp_link.specs.Places.{IsNumber}
use Rattle.pp_link.specs.Words.{cell_word}
use Rattle.pp_rule.specs.Reached.{Reached}

-- no record that can be reached has FLAG
abbrev pub IsBare : Sizes → List ℕ → Type 0
IsBare z words = (n : ℕ) → IsNumber z n → Reached 1 z words n → flag_bit (cell_word words z n 2) ≡ 0
