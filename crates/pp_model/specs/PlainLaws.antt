-- The plain map meets the laws of a map.
use Rattle.std.proofs.Common.{◌≢◌, ℕ, ◌≤◌, List, length, ap, ◌∙◌, sym, length-append, arith}
use Rattle.pp_model.specs.declared.Change.{Change}
use Rattle.pp_model.specs.Lists.{IsPrefix}
use Rattle.pp_model.specs.Pass.{PassView, MapSizes}
use Rattle.pp_model.specs.MapCalls.{StandsIn}
use Rattle.pp_model.specs.Plain.{PlainLearnable, PlainBelongs}

-- the placed calls of the pass stand in its log
pub plain_stands : (map : MapSizes) (pass : PassView) → PlainBelongs map.records pass → StandsIn pass
plain_stands map pass belongs = belongs.stands

-- a pass that has seen more may still learn a note
plain_learns_later_by : (pass later : PassView) (note : ℕ) → IsPrefix pass.seen later.seen → PlainLearnable pass note
    → PlainLearnable later note
plain_learns_later_by pass later note more learnable = record { seen = longer pass.seen later.seen more note learnable.seen }
  where
    longer : (xs ys : List Change) → IsPrefix xs ys → (n : ℕ) → n ≤ length xs → n ≤ length ys
    longer xs ys more n le = omega (arith, le, ap length more.1, length-append xs more.0)

pub plain_learns_later : (map : MapSizes) (pass later : PassView) (note : ℕ) → PlainBelongs map.records pass
    → PlainBelongs map.records later
    → IsPrefix pass.seen later.seen → PlainLearnable pass note → PlainLearnable later note
plain_learns_later map pass later note own_pass own_later more learnable = plain_learns_later_by pass later note more learnable

-- there is no other pass
pub plain_others_learn : (map : MapSizes) (pass other : PassView) (note : ℕ) → PlainBelongs map.records pass
    → PlainBelongs map.records other
    → pass.caller ≢ other.caller → PlainLearnable pass note → PlainLearnable other note
plain_others_learn map pass other note own_pass own_other differ learnable =
    absurd (differ (own_pass.caller ∙ sym own_other.caller))
