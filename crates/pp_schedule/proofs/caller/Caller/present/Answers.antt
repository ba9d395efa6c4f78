use Rattle.std.proofs.Common.{◌≡◌, ◌+◌, ◌<◌, ◌∷◌, Some, length, drop, refl, sym, ap, ◌∙◌}
use Rattle.std.proofs.lemmas.List.{drop_more}
use Rattle.pp_model.specs.declared.Call.{Call}
use Rattle.pp_schedule.specs.Calls.{goes_on, begins}
use Rattle.pp_schedule.proofs.Shown.{some_at, going_shown, resting_shown}
use Rattle.pp_schedule.proofs.caller.Caller.present.Goals as goal

pub returns-in-Some-clause-has : goal.returns-in-Some-clause-has
returns-in-Some-clause-has g c = λ v shows calls.
    let s = going_shown _ _ _ _ _ _ v _ _ c.in-Some.future shows cc in
    (s.doing.going, s.doing.before, s.calling, goes_on s.is (sym calls))

pub returns-in-None-clause-has : goal.returns-in-None-clause-has
returns-in-None-clause-has g c = λ v shows calls.
    let s = resting_shown _ _ _ _ _ _ v _ _ c.unwrap-pass.result shows cc in
    let b = some_at _ _ c.new.ensures.begun in
    let xs = c.args.self.now.calls.items in
    let i = c.args.self.now.next in
    let within : i < length xs = c.requires.more (let is : c.args.self.now.pass ≡ Some c.unwrap-pass.result = cc in rw is refl) in
    let next : drop i xs ≡ c.index-call.result.now ∷ drop (i + 1) xs = drop_more xs i c.index-call.result.now within
    ∙ ap (λ (x : Call). x ∷ drop (i + 1) xs) cc in (
      g.M.MapCalls.going_view b.0.0 b.0.1,
      g.M.MapCalls.pass_view c.unwrap-pass.result,
      record { at = b.0.0; call = b.0.1; is = b.1; belongs_to = b.2.0; pass_is = b.2.1 ∙ s.pass_is; going_is = refl; under = b.2.3 },
      begins c.index-call.result.now s.none (calls ∙ next) s.pass_is b.2.2,
    )
