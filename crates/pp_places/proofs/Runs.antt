-- A closed run by a plan, with its marks, is one whose history is found.
use Rattle.std.proofs.Common.{ℕ, List, sym, ◌∙◌, subst, arith}
use Rattle.std.proofs.lemmas.Option.{slice_get_within}
use Rattle.pp_model.specs.declared.Call.{Call}
use Rattle.pp_model.specs.declared.Answer.{Answer}
use Rattle.pp_model.specs.Lists.{AtEach}
use Rattle.pp_model.specs.History.{Stands}
use Rattle.pp_model.specs.Pass.{PassView, MapSizes, Meaning, RunView, CallerRun}
use Rattle.pp_running.specs.Run.{IsRunOf}
use Rattle.pp_planned.specs.Planned.{IsMarked}
use Rattle.pp_schedule.proofs.Moved.{some_same}
use Rattle.pp_schedule.proofs.Orders.{within_get}
use Rattle.pp_places.specs.Places.{IsPlaced}

pub run_stands : (meaning : Meaning) (sizes : MapSizes) (races : ℕ) (opened : List PassView) (lists : List (List Call))
    (answers : List (List Answer)) (run : RunView) → IsRunOf meaning sizes races opened lists answers run
    → AtEach run.callers (λ c r. Stands run.log c r.mine)
run_stands meaning sizes races opened lists answers run ran = λ c r at.
    let low = slice_get_within run.callers c r at in
    let pass = within_get opened c (omega (arith, low, ran.callers, ran.passes_are)) in
    let calls = within_get lists c (omega (arith, low, ran.callers)) in
    let got = within_get answers c (omega (arith, low, ran.callers, ran.answered)) in
    let is = ran.each c pass.0 calls.0 got.0 pass.1 calls.1 got.1 in
    subst (λ (x : CallerRun). Stands run.log c x.mine) (some_same (sym is.listed ∙ at)) is.stands

pub placed_run : (meaning : Meaning) (sizes : MapSizes) (races : ℕ) (opened : List PassView) (lists : List (List Call))
    (answers : List (List Answer)) (marks : List (List ℕ)) (run : RunView) → IsRunOf meaning sizes races opened lists answers run
    → IsMarked lists answers marks run → IsPlaced lists answers marks run
placed_run meaning sizes races opened lists answers marks run ran marked = record {
  marked = marked;
  sound = ran.sound;
  known = ran.known;
  answered = ran.answered;
  callers = ran.callers;
  stand = run_stands meaning sizes races opened lists answers run ran;
}
