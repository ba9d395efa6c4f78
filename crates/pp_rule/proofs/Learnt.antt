-- What is known of the words of a held record.
use Rattle.std.proofs.Common.{◌≡◌, ℕ, ◌%◌, arith}
use Rattle.std.proofs.Math.Decide.{ℕ_discrete}
use mathlib.Core.Logic.{dite}
use Rattle.pp_link.specs.Links.{tag_bit}
use Rattle.pp_rule.specs.Views.{halves, value_of}
use Rattle.pp_rule.specs.States.{Keeps, IsFrozen}

-- a value by its two words
abbrev pub value_by : ℕ → ℕ → ℕ
value_by low high = value_of (halves low high)

-- a link without FLAG and TAG is none that was learnt
pub never_learnt : (was now : ℕ) → Keeps was now → IsFrozen was → now % 4 ≡ 0 → ⊥
never_learnt was now k frozen plain = dite (ℕ_discrete (tag_bit was) 1) (λ on. let bad = k.tag on in omega arith)
    (λ off. let same = k.same.flag_is in frozen (omega arith))
