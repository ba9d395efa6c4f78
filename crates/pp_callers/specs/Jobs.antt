-- What callers have to do, and what they did.
use Rattle.std.specs.Prelude.{◌≡◌, ℕ, ◌^◌, ◌-◌, ◌≤◌, List, [], length, Some, slice_get}
use Rattle.pp_model.specs.declared.Call.{Call}
use Rattle.pp_model.specs.declared.Answer.{Answer}
use Rattle.pp_model.specs.Calls.{key_of}
use Rattle.pp_model.specs.Lists.{AtEach}
use Rattle.pp_model.specs.Pass.{PassView}

-- a caller may make these calls with this pass: their keys are in range, and the pass and the list of answers have room
pub record MayMake (pass : PassView) (calls : List Call) (answers : List Answer) (space : ℕ) : Type 0 where
  pub keys : AtEach calls (λ k call. key_of call ≤ 2 ^ 64 - 4)
  pub room : length calls ≤ pass.room
  pub none : answers ≡ []
  pub fits : length calls ≤ space

-- two lists are as long, and their elements at each position are so
pub record AtBoth {A : Type 0} (xs ys : List A) (P : A → A → Type 0) : Type 0 where
  pub lengths : length ys ≡ length xs
  pub each : (k : ℕ) (x y : A) → slice_get xs k ≡ Some x → slice_get ys k ≡ Some y → P x y
