-- How printing ends.
use Rattle.std.proofs.Common.{◌≡◌, ℕ, suc, ◌*◌, ◌^◌, ◌<◌, ◌≤◌, List, [], ◌∷◌, length, refl, sym, arith, Ok}
use Rattle.std.specs.Prelude.{sum_by}
use Rattle.std.proofs.lemmas.List.Sums.{sum_by-cons}
use Rattle.pp_model.specs.Lists.{AtEach}
use Rattle.pp_devices.specs.declared.ways.Way.{Way}
use Rattle.pp_devices.specs.declared.ways.Way.TheVariants as way
use Rattle.pp_devices.specs.Devices.{Device}
use Rattle.pp_programs.specs.Printed.{IsPrinted, AreShort, IsFinished, IsWayOf}

module _ {A : Type 0} where
  -- lists that are short have few elements in all
  sum_short : (lists : List (List A)) → AtEach lists (λ c given. length given ≤ 16777216)
      → sum_by length lists ≤ 16777216 * length lists
  sum_short [] each = omega arith
  sum_short (x ∷ xs) each =
      let here : length x ≤ 16777216 = each 0 x refl in
      let ih = sum_short xs (λ k g at. each (suc k) g at) in
      omega (arith, sum_by-cons length x xs)

  pub few_answers : (lists : List (List A)) → AreShort lists → sum_by length lists < 2 ^ 32
  few_answers lists short = omega (arith, sum_short lists short.each, short.callers)

-- a text that was printed, with the counts of its full and lost lines
pub finished : (full lost : ℕ) (w : Way) (before after : Device) (text : List ℕ) → IsWayOf full lost w
    → IsPrinted before.bytes before.faults after.bytes after.faults text (Ok tt) → IsFinished w before after full lost text
finished full lost way.Answered before after text is printed = (printed.0, printed.1, is.0, is.1)
finished full lost (way.Partly m n) before after text is printed =
    (printed.0, printed.1, sym is.0, sym is.1, omega (arith, is.2, is.0, is.1))
finished full lost way.BadWords before after text is printed = absurd is
finished full lost (way.BadLine line why) before after text is printed = absurd is
finished full lost way.Unread before after text is printed = absurd is
finished full lost way.TooLong before after text is printed = absurd is
finished full lost way.Unwritten before after text is printed = absurd is
finished full lost way.NoMemory before after text is printed = absurd is
