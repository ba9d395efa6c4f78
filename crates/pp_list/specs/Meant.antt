-- What a list means by the words of the calls' clauses.
use Rattle.std.specs.Prelude.{ℕ, List}
use Rattle.pp_model.specs.declared.Pair.{Pair}
use Rattle.pp_model.specs.Pass.{MapSizes, Meaning}
use Rattle.pp_rule.specs.Causes.{pool_sizes, PoolWords, pool_meaning}
use Rattle.pp_rule.specs.Opening.{opening_words}
use Rattle.pp_lists.specs.Lists.{list_head, list_field}
use Rattle.pp_lists.specs.Contents.{ListGathered, list_count}
use Rattle.pp_list.specs.Causes.{list_causes}

-- an insert needs one record, each pair has one, and a list opens empty
abbrev pub list_words : PoolWords
list_words = record {
  need = 1;
  live = list_count;
  opening = λ sizes. opening_words 0 list_head list_field (pool_sizes sizes);
}

-- the words hold these pairs, in the records of these numbers
abbrev pub HoldsPairs : MapSizes → List ℕ → List Pair → List ℕ → Type 0
HoldsPairs sizes = ListGathered (pool_sizes sizes)

abbrev pub list_meaning : Meaning
list_meaning = pool_meaning list_words list_causes HoldsPairs
