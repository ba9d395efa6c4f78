-- What contracts see of a tally's ending.
use Rattle.std.specs.Prelude.{map}
use Rattle.pp_replay.specs.View.{kept_run}
use Rattle.pp_tally.specs.declared.ending.Tallied.TheInside.{Inside}
use Rattle.pp_tally.specs.Tally.{TalliedView, tally_view}

abbrev pub tallied_view : Inside → TalliedView
tallied_view e = record {
  status = e.status;
  tally = tally_view (map (λ v. v.items) e.answers.items) (map (λ v. v.items) e.counted.counts.items) e.counted.rest.items
      (kept_run e.kept);
}
