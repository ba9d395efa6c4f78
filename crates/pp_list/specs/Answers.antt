-- What is known of a call on a list as it ends, before its last steps.
use Rattle.std.specs.Prelude.{ℕ, List, Option}
use Rattle.pp_link.specs.declared.layout.Sizes.{Sizes}
use Rattle.pp_pool.specs.declared.fresh.Fresh.{Fresh}
use Rattle.pp_model.specs.declared.Answer.{Answer}
use Rattle.pp_model.specs.declared.Call.{Call}
use Rattle.pp_base.specs.declared.purse.Purse.{Purse}
use Rattle.pp_shelf.specs.Runs.{map_sizes}
use Rattle.pp_lists.specs.Turns.{ListView}
use Rattle.pp_lists.specs.Losses.{list_reader}
use Rattle.pp_turns.specs.Answers as ends
use Rattle.pp_list.specs.Causes.{list_causes}
use Rattle.pp_list.specs.Meant.{list_words, list_meaning}
use Rattle.pp_list.specs.Purses.{out_of}

-- The pass made steps that count for nothing in a call, and placed none.
abbrev pub Calm : Sizes → Call → ListView → ListView → Type 0
Calm z call v w = ends.Calm list_reader (map_sizes z) call v w

-- A call that began at this view, with these free numbers, and has lost so many turns, may be ended so.
abbrev pub MayEnd : Sizes → (share races : ℕ) → Call → Option Fresh → Answer → ℕ → ListView → ListView → List ℕ → Purse → Type 0
MayEnd z share races call fresh answer lost from now free p =
    ends.MayEnd list_words list_causes (map_sizes z) races call share (out_of fresh) answer lost from now free p

-- It was ended, with this answer.
abbrev pub Ends : Sizes → (share races : ℕ) → Call → Option Fresh → Answer → ListView → ListView → Purse → Purse → Type 0
Ends z share races call fresh answer v w p p' =
    ends.Ends list_words list_causes list_meaning z races call (Calm z call v w) share (out_of fresh) answer v w p p'
