use Rattle.std.proofs.Common.{◌∙◌}
use Rattle.pp_base.specs.Passes.{known}
use Rattle.pp_queue.proofs.Called.{empty_of}
use Rattle.pp_queue.proofs.Whole.{head_word_of}
use Rattle.pp_queue_scenes.proofs.stalled.stop_a_take.Goals as goal

pub stand_at-requires-clause-first : goal.stand_at-requires-clause-first
stand_at-requires-clause-first g c =
    head_word_of _ c.begin-first.result c.args.pass.now.keeping.pass.within c.begin-first.ensures.begins.end

pub stand_at-requires-clause-empty : goal.stand_at-requires-clause-empty
stand_at-requires-clause-empty g c = let p = c.begin-first.new.pass in
    empty_of (known p.seat).sizes (known p.seat) p.walk p.keeping.pass p.keeping.walk_is
    (c.begin-first.ensures.walk ∙ c.requires.ready.idle.0)
