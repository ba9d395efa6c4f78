-- Where 0, 1 and 2 are the three words, 3 is none of them.
use Rattle.std.proofs.Common.{◌≡◌, ◌≢◌, ◌⊎◌, ℕ, arith}
use Rattle.pp_walk.proofs.walk.spare.Goals as goal

not_first : (a b c : ℕ) → (0 ≡ a) ⊎ ((0 ≡ b) ⊎ (0 ≡ c)) → (1 ≡ a) ⊎ ((1 ≡ b) ⊎ (1 ≡ c)) → (2 ≡ a) ⊎ ((2 ≡ b) ⊎ (2 ≡ c)) → 3 ≢ a
not_first a b c x y u = grind arith

not_second : (a b c : ℕ) → (0 ≡ a) ⊎ ((0 ≡ b) ⊎ (0 ≡ c)) → (1 ≡ a) ⊎ ((1 ≡ b) ⊎ (1 ≡ c)) → (2 ≡ a) ⊎ ((2 ≡ b) ⊎ (2 ≡ c)) → 3 ≢ b
not_second a b c x y u = grind arith

not_third : (a b c : ℕ) → (0 ≡ a) ⊎ ((0 ≡ b) ⊎ (0 ≡ c)) → (1 ≡ a) ⊎ ((1 ≡ b) ⊎ (1 ≡ c)) → (2 ≡ a) ⊎ ((2 ≡ b) ⊎ (2 ≡ c)) → 3 ≢ c
not_third a b c x y u = grind arith

pub returns-clause-other : goal.returns-clause-other
returns-clause-other c = let over = c.loop-word-test.false in let x = c.loop-word.invariant 0 (omega arith) in
    let y = c.loop-word.invariant 1 (omega arith) in let u = c.loop-word.invariant 2 (omega arith) in (
      not_first c.args.a c.args.b c.args.c x y u,
      not_second c.args.a c.args.b c.args.c x y u,
      not_third c.args.a c.args.b c.args.c x y u,
    )
