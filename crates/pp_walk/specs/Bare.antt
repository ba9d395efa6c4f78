-- What stands of a list after a part of a call of a pass that is alone on its pool.
use Rattle.std.specs.Prelude.{◌≡◌, ◌≢◌, ℕ, List}
use Rattle.pp_link.specs.declared.layout.Sizes.{Sizes}
use Rattle.pp_link.specs.declared.link.Link.{Link}
use Rattle.pp_link.specs.Links.{target, flag_bit, word_of}
use Rattle.pp_link.specs.Places.{IsNumber}
use Rattle.pp_link.specs.Words.{cell_word}
use Rattle.pp_rule.specs.Reached.{Reached}
use Rattle.pp_base.specs.declared.source.Place.{Place}
use Rattle.pp_base.specs.declared.source.Side.TheVariants.{Left}
use Rattle.pp_base.specs.Sources.{source_place}
use Rattle.pp_lists.specs.Turns.{ListView}
use Rattle.pp_walk.specs.declared.walk.Found.{Found}
use Rattle.pp_walk.specs.Lone.{words_of, IsLone, IsStanding}

-- no record that can be reached has FLAG, but for the record m
abbrev pub IsBareBut : Sizes → ℕ → List ℕ → Type 0
IsBareBut z m words = (n : ℕ) → IsNumber z n → n ≢ m → Reached 1 z words n → flag_bit (cell_word words z n 2) ≡ 0

-- this anchor's link is this word
abbrev pub LinkStands : Sizes → Place → ℕ → ListView → Type 0
LinkStands z anchor word v = IsStanding z (source_place z v.known anchor Left) word v

-- a walk ended at what was found, to which the anchor leads
abbrev pub LoneEnd : Sizes → Found → ListView → Type 0
LoneEnd z f v = IsLone z v × LinkStands z f.anchor (word_of f.end) v

-- the record to which the anchor leads is the only removed one
abbrev pub LoneRemoved : Sizes → Place → Link → ListView → Type 0
LoneRemoved z anchor first v = IsBareBut z (target (word_of first)) (words_of z v) × LinkStands z anchor (word_of first) v
