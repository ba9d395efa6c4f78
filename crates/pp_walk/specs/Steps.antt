-- What a list's own steps ask of a pass, and what they make of it, by the records' numbers.
use Rattle.std.specs.Prelude.{◌≡◌, ℕ, ◌<◌}
use lib.ListN.{get_elem?}
use mathlib.Core.Option.{some}
use Rattle.pp_link.specs.declared.layout.Sizes.{Sizes}
use Rattle.pp_model.specs.declared.Call.{Call}
use Rattle.pp_model.specs.declared.Call.TheVariants.{Get, Insert, Remove, Cut}
use Rattle.pp_rule.specs.declared.views.PrivateRecord.{PrivateRecord}
use Rattle.pp_rule.specs.Lists.{times}
use Rattle.pp_rule.specs.Views.{slot}
use Rattle.pp_base.specs.declared.purse.Purse.{Purse}
use Rattle.pp_base.specs.Passes.{owned_numbers}
use Rattle.pp_lists.specs.Walks.{Joined}
use Rattle.pp_lists.specs.Lists.{ListPass}
use Rattle.pp_lists.specs.Turns.{ListView, MayPublish, Published}

-- what the pass gathered leads to the record that it holds in the word j
abbrev pub LeadsTo : ℕ → ListPass → Type 0
LeadsTo j q = q.own.first < 5 → Joined (slot q q.own.first).named q.own.chain (slot q j).named

-- the value that a call brings
abbrev pub brought_by : Call → ℕ
brought_by (Get k) = 0
brought_by (Insert k v) = v
brought_by (Remove k) = 0
brought_by (Cut k v) = 0

-- The private record with the number n may be published.
pub record MayPublishAt (z : Sizes) (q : ListPass) (p : Purse) (n place k v first new : ℕ) : Type 0 where
  pub index : ℕ
  pub was : PrivateRecord
  pub number_is : was.number ≡ n
  pub taken : times n p.free.items < times n (owned_numbers q)
  pub may : MayPublish z q index was place k v first new

-- An exchange to publish it.
pub record PublishedAt (n place k v first new found : ℕ) (before now : ListView) : Type 0 where
  pub index : ℕ
  pub was : PrivateRecord
  pub at : get_elem? before.known.owned index ≡ some was
  pub number_is : was.number ≡ n
  pub made : Published index was.number place k v first new found before now
