use Rattle.std.proofs.Common.{sym, ap}
use Rattle.pp_schedule.specs.Calls.{capped}
use Rattle.pp_schedule.proofs.Shown.{ok_of}
use Rattle.pp_schedule.proofs.playing.play.Goals as goal

pub run-requires : goal.run-requires
run-requires g c =
    let n = c.new-schedule.ensures in
    let s = c.requires.seen in
    rw (n.parts.0, n.parts.1, n.parts.3, n.parts.4, n.parts.5, n.map) (
      c.requires.races,
      (c.requires.plan, (s.0, s.1, s.2, s.3, sym (ap capped s.4))),
    )

pub returns-clause-played : goal.returns-clause-played
returns-clause-played g c =
    let n = c.new-schedule.ensures in
    ok_of c.run.result _ _ (rw (n.parts.0, n.parts.1, n.parts.2, n.parts.3, n.parts.4, n.parts.5, n.map) at c.run.ensures.gives)
    (λ out h s seen may told none. h s seen may told (sym (ap capped none)))
