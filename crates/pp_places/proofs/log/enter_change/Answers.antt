use Rattle.std.proofs.Common.{arith, ◌+◌, ◌-◌, ◌<◌, ◌≤◌, List, [], ◌∷◌, length, length-append}
use Rattle.std.proofs.Common.{ap, ◌∙◌}
use Rattle.std.specs.Prelude.{slice_get}
use Rattle.std.proofs.lemmas.Option.{slice_get_within}
use Rattle.pp_model.specs.declared.Change.{Change}
use Rattle.pp_model.proofs.Histories.{slice_get-append_left}
use Rattle.pp_schedule.proofs.Moved.{set_here, set_there, set_length}
use Rattle.pp_places.proofs.log.enter_change.Goals as goal

pub loop-filled-preserved : goal.loop-filled-preserved
loop-filled-preserved c =
    let had = c.loop-filled.invariant in
    record {
      kept = λ p x at.
          let h = had.kept p x at in
          ap (λ (l : List Change). slice_get l p) c.in_ok-append.ensures
          ∙ (slice_get-append_left c.loop-filled.log.items (c.args.change ∷ []) p (slice_get_within c.loop-filled.log.items p x h) ∙ h);
      long = ap length c.in_ok-append.ensures
          ∙ (length-append c.loop-filled.log.items (c.args.change ∷ []) ∙ ap (λ n. n + 1) had.long);
      high = omega (arith, c.loop-filled-test.true);
      low = omega (arith, had.low);
    }

pub index_mut-requires : goal.index_mut-requires
index_mut-requires c = let had = c.loop-filled.invariant in omega (arith, had.long, c.loop-filled-test.false)

pub returns-then-place-gt0 : goal.returns-then-place-gt0
returns-then-place-gt0 c = λ some.
    let had = c.loop-filled.invariant in
    let log = c.loop-filled.log in
    let enough : c.args.place ≤ length log.items = omega (arith, had.long, c.loop-filled-test.false) in
    let low : c.args.place - 1 < length log.items = omega (arith, enough, some) in
    record {
      held = omega (arith, enough, log.ok.0);
      longer = set_length log.items (c.args.place - 1) c.args.change ∙ omega (arith, had.long, had.high, had.low, enough);
      here = set_here log.items (c.args.place - 1) c.args.change low;
      others = λ p x other at.
          set_there log.items (c.args.place - 1) c.args.change p (λ e. other (omega (arith, e, some))) ∙ had.kept p x at;
    }
