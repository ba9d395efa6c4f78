-- Before the first step no change is in the log, and no call is placed.
use Rattle.std.proofs.Common.{◌≡◌, ℕ, List, [], ap}
use Rattle.pp_rule.specs.Orders.{LoggedStep, log_of, placed_by, entries_of}

module _ {E A : Type 0} where
  pub no_log : (order : List (LoggedStep E A)) → order ≡ [] → log_of order ≡ []
  unfolding log_of entries_of
  no_log order e = ap log_of e

  pub no_placed : (p : ℕ) (order : List (LoggedStep E A)) → order ≡ [] → placed_by p order ≡ []
  unfolding placed_by
  no_placed p order e = ap (placed_by p) e
