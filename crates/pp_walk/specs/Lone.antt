-- A pass that is alone on its pool, where no record that can be reached is removed.
use Rattle.std.specs.Prelude.{◌≡◌, ℕ, ◌<◌, true, List, slice_index_or}
use Rattle.pp_link.specs.declared.layout.Sizes.{Sizes}
use Rattle.pp_link.specs.Links.{flag_bit}
use Rattle.pp_link.specs.Words.{cell_word}
use Rattle.pp_model.specs.declared.Change.{Change}
use Rattle.pp_rule.specs.Orders.{replayed, entries_of}
use Rattle.pp_rule.specs.Opening.{opening_words}
use Rattle.pp_rule.specs.Views.{slot}
use Rattle.pp_rule.specs.Alone.{HasSeen}
use Rattle.pp_base.specs.declared.source.Place.{Place}
use Rattle.pp_base.specs.declared.source.Place.TheVariants.{Head, Walk as Word}
use Rattle.pp_lists.specs.Lists.{ListPass, Lists, list_head, list_field}
use Rattle.pp_lists.specs.Turns.{ListView}
use Rattle.pp_lists.specs.Clean.{IsBare}

abbrev pub list_opens : Sizes → List ℕ
list_opens = opening_words 0 list_head list_field

-- the words that the order leaves that the pass has seen
abbrev pub words_of : Sizes → ListView → List ℕ
words_of z v = replayed (list_opens z) (entries_of v.order)

-- what a pass of this pool has seen
pub record Sees (z : Sizes) (v : ListView) : Type 0 where
  pub sizes : v.known.sizes ≡ z
  pub low : v.known.number < z.passes
  pub seen : HasSeen 1 list_opens Lists (λ (c : Change). c.caller) v

-- It is alone, no record that can be reached is removed, and none that it holds.
pub record IsLone (z : Sizes) (v : ListView) : Type 0 where
  pub one : z.passes ≡ 1
  pub bare : IsBare z (words_of z v)
  pub held : (j : ℕ) → j < 5 → (slot v.known j).held ≡ true
      → flag_bit (cell_word (words_of z v) z (slot v.known j).named 2) ≡ 0

-- a head of the pool, or a record that the pass holds
abbrev pub IsOwn : Sizes → ListPass → Place → Type 0
IsOwn z q (Head h) = h < z.heads
IsOwn z q (Word i) = (i < 5) × ((slot q i).held ≡ true)

-- It is alone, and this word stands at this place.
pub record IsStanding (z : Sizes) (place word : ℕ) (v : ListView) : Type 0 where
  pub one : z.passes ≡ 1
  pub stands : slice_index_or (words_of z v) place 0 ≡ word
