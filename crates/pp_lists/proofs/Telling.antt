-- What a step of a list's own tells of the order, and the two bits that it reads.
use Rattle.std.proofs.Common.{◌≡◌, ℕ, ◌+◌, ◌*◌, List, [], ◌∷◌, ◌++◌}
use Rattle.std.proofs.Common.{length, ap, ◌∙◌, arith, length-append}
use Rattle.std.specs.Prelude.{◌/◌, ◌%◌}
use Rattle.std.specs.Int.Bits.{bit_or, bit_and, or_add_and}
use Rattle.std.proofs.lemmas.Nat.Bits.{and_pow}
use Rattle.pp_link.specs.Links.{flag_bit}
use Rattle.pp_model.specs.declared.Call.{Call}
use Rattle.pp_model.specs.declared.Reply.{Reply}
use Rattle.pp_model.specs.declared.Change.{Change}
use Rattle.pp_model.specs.declared.Placed.{Placed}
use Rattle.pp_model.specs.History.{change_of}
use Rattle.pp_model.specs.MapCalls.{placed}
use Rattle.pp_rule.specs.Orders.{log_of, placed_by}
use Rattle.pp_rule.specs.Steps.{alone}
use Rattle.pp_rule.proofs.OwnSteps.{log_told, placed_told}
use Rattle.pp_lists.specs.Lists.{ListPass, ListStep}
use Rattle.pp_lists.specs.Turns.{ListView, change_at, placed_at}

-- an or-step with FLAG
pub or_one : (n : ℕ) → flag_bit n ≡ 0 → bit_or n 1 ≡ n + 1
or_one n plain = let both : bit_or n 1 + bit_and n 1 ≡ n + 1 = or_add_and n 1 in
    let bit : bit_and n 1 ≡ n / 1 % 2 * 1 = and_pow n 0 in omega arith

pub or_same : (n : ℕ) → flag_bit n ≡ 1 → bit_or n 1 ≡ n
or_same n flag = let both : bit_or n 1 + bit_and n 1 ≡ n + 1 = or_add_and n 1 in
    let bit : bit_and n 1 ≡ n / 1 % 2 * 1 = and_pow n 0 in omega arith

-- the view of a pass after the step e, which is known as `known`
module _ (order : List ListStep) (known : ListPass) (e : ListStep) (w : ListView) (at : w ≡ alone (order ++ e ∷ []) known)
    (pass : e.entry.pass ≡ known.number) where
  -- the change and the call that were placed there
  pub change_told : (call : Call) (s : Placed) → e.placed ≡ s ∷ []
      → change_at call w ≡ change_of known.number (length (placed_by known.number order) + 1) call
  change_told call s one = ap (λ (n : ℕ). change_of n (length (placed_by w.known.number w.order)) call)
      (ap (λ (v : ListView). v.known.number) at)
      ∙ ap (λ (n : ℕ). change_of known.number n call) (ap (λ (l : List Placed). length l)
      (placed_told order known e w at pass ∙ ap (λ (l : List Placed). placed_by known.number order ++ l) one)
      ∙ length-append (placed_by known.number order) (s ∷ []))

  pub place_told : (call : Call) (r : Reply) (c : Change) → e.entry.changes ≡ c ∷ []
      → placed_at call r w ≡ placed call r (length (log_of order) + 1)
  place_told call r c one = ap (λ (n : ℕ). placed call r n) (ap (λ (l : List Change). length l)
      (log_told order known e w at pass ∙ ap (λ (l : List Change). log_of order ++ l) one) ∙ length-append (log_of order) (c ∷ []))
