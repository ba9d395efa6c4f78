-- What a tree is where no removed record is attached.
use Rattle.std.specs.Prelude.{◌≡◌, ℕ, ◌+◌, ◌<◌, List}
use Rattle.pp_link.specs.declared.layout.Sizes.{Sizes}
use Rattle.pp_link.specs.Links.{flag_bit}
use Rattle.pp_link.specs.Places.{IsNumber}
use Rattle.pp_link.specs.Words.{cell_word}
use Rattle.pp_rule.specs.Reached.{Reached}

-- No link of a record that can be reached has FLAG. Then none has TAG, since beside a tagged edge there is a flagged one.
abbrev pub IsBare : Sizes → List ℕ → Type 0
IsBare z words = (n s : ℕ) → IsNumber z n → s < 2 → Reached 2 z words n → flag_bit (cell_word words z n (2 + s)) ≡ 0
