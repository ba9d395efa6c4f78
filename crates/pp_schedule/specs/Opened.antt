-- The moment before the first turn.
use Rattle.std.specs.Prelude.{List, [], ◌∷◌, None, length}
use Rattle.pp_model.specs.declared.Call.{Call}
use Rattle.pp_model.specs.Pass.{PassView}
use Rattle.pp_schedule.specs.Plays.{Moment}

-- one caller that has begun none of these calls
abbrev pub opened_alone : PassView → List Call → Moment
opened_alone pass calls = record {
  callers = record { pass = pass; doing = None; calls = calls; answers = []; mark = 0; marks = [] } ∷ [];
  told = record { seen = length pass.seen; order = length pass.order };
  count = 0;
}
