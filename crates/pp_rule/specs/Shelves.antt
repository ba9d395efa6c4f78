-- The steps at shelf words: an exchange of 0 for a free number, and a swap of 0.
use Rattle.std.specs.Prelude.{◌≡◌, ◌≢◌, ℕ, [], ◌∷◌, ◌++◌}
use lib.ListN.{get_elem?}
use mathlib.Core.Option.{some}
use Rattle.pp_rule.specs.Lists.{remove_at}
use Rattle.pp_rule.specs.Orders.{missed_step, shelve_step, unshelve_step}
use Rattle.pp_rule.specs.Views.{PrivateRecord, PassState, SeatView}
use Rattle.pp_rule.specs.Steps.{MadeQuietStep}

module _ {W : Type 0} where
  -- the record at this index of those that the pass owns goes out of it
  abbrev pub giving : ℕ → PassState W → PassState W
  giving k q = record q { owned = remove_at k q.owned }

  -- the pass owns one record more
  abbrev pub getting : PrivateRecord → PassState W → PassState W
  getting d q = record q { owned = q.owned ++ d ∷ [] }

module _ {E A W : Type 0} where
  -- The record with this number went from the pass to the shelf word at this place, which was 0.
  pub record PutOnShelf (number place : ℕ) (before after : SeatView E A W) : Type 0 where
    pub index : ℕ
    pub was : PrivateRecord
    pub at : get_elem? before.known.owned index ≡ some was
    pub number_is : was.number ≡ number
    pub made : MadeQuietStep shelve_step place 0 number (giving index before.known) before after

  -- An exchange of 0 for this number at a shelf word, which may find another word.
  pub record TriedShelf (number found place : ℕ) (before after : SeatView E A W) : Type 0 where
    pub empty : found ≡ 0 → PutOnShelf number place before after
    pub taken : found ≢ 0 → MadeQuietStep missed_step place found found before.known before after

  -- The record that stood on the shelf word at this place, which is 0 now, came to the pass, with the words that stand in it.
  pub record TookFromShelf (number place : ℕ) (before after : SeatView E A W) : Type 0 where
    pub freed : PrivateRecord
    pub number_is : freed.number ≡ number
    pub made : MadeQuietStep unshelve_step place number 0 (getting freed before.known) before after

  -- A swap of 0 into a shelf word, which may be 0 already.
  pub record ClearedShelf (found place : ℕ) (before after : SeatView E A W) : Type 0 where
    pub some : found ≢ 0 → TookFromShelf found place before after
    pub none : found ≡ 0 → MadeQuietStep unshelve_step place 0 0 before.known before after
