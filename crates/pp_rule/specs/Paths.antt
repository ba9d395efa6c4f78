-- The order of the records of a chain: each but the first is one to which a link of an earlier one leads.
use Rattle.std.specs.Prelude.{◌≡◌, ℕ, ◌+◌, ◌*◌, ◌<◌, cond, nat_eq, nat_le, ◌||◌, List, [], ◌∷◌, ◌++◌, map, length, take}
use Rattle.pp_link.specs.Links.{target}
use Rattle.pp_rule.specs.Lists.{IsIn}
use Rattle.pp_rule.specs.Views.{Chain, ChainLink}

-- the links of these records, each by its record and its side
unfoldable pub links_of : ℕ → List ℕ → List (ℕ × ℕ)
links_of sides [] = []
links_of sides (n ∷ ns) = (n, 0) ∷ (cond (nat_le sides 1) [] ((n, 1) ∷ []) ++ links_of sides ns)

abbrev pub link_of : ChainLink → ℕ × ℕ
link_of l = (l.number, l.side)

-- the records to which these links lead, but for nil and the record x
unfoldable pub led_to : ℕ → List ChainLink → List ℕ
led_to x [] = []
led_to x (l ∷ ls) = cond (nat_eq (target l.word) 0 || nat_eq (target l.word) x) (led_to x ls) (target l.word ∷ led_to x ls)

-- The chain begins with this record. Its links, in the order of its records, lead to nil, to its frontier, or to the next record
-- that none of them has led to yet.
pub record IsChained (sides first : ℕ) (c : Chain) : Type 0 where
  pub links_are : map link_of c.links ≡ links_of sides c.records
  pub records_are : c.records ≡ first ∷ led_to c.frontier c.links
  -- each record is led to before its own links
  pub reached : (k : ℕ) → k < length c.links → k < sides * (1 + length (led_to c.frontier (take k c.links)))
  -- only its own links are valid
  pub valid : (l : ℕ × ℕ) → (IsIn l (links_of sides c.records) → ⊥) → IsIn l c.valid → ⊥

-- the chain leads from this record to that one, and is guarded by this frontier word
pub record IsChainTo (sides guard first frontier : ℕ) (c : Chain) : Type 0 where
  pub chained : IsChained sides first c
  pub guard_is : c.guard ≡ guard
  pub frontier_is : c.frontier ≡ frontier
