use Rattle.std.proofs.Common.{arith, ◌≡◌, length, map, refl, sym, ap, ◌∙◌, List, Some}
use Rattle.pp_running.specs.Jobs.{views_of}
use Rattle.pp_planned.specs.Planned.{opened_at}
use Rattle.pp_planned.proofs.Openings.{starts_so, views_length}
use Rattle.pp_planned.proofs.play_from.Goals as goal

many_same : {A B C D : Type 0} (f : A → B) (g : C → B) (v : C → D) (xs : List A) (ps qs : List C) → map f xs ≡ map g ps
    → map v ps ≡ map v qs → length xs ≡ length qs
many_same f g v xs ps qs made same = sym (views_length f xs) ∙ (ap length made ∙ (views_length g ps
    ∙ (sym (views_length v ps) ∙ (ap length same ∙ views_length v qs))))

pub play-requires-clause-plan : goal.play-requires-clause-plan
play-requires-clause-plan g c =
    let same = many_same (λ x. x.pass) Some g.M.MapCalls.pass_view c.in-Ok.callers.items c.first_note-note.new.passes.items
    c.args.passes.items c.in-Ok.ensures.passes c.first_note-note.ensures.same in
    λ k x at. let low = c.requires.plan k x at in omega (arith, low, same)

pub play-requires-clause-seen : goal.play-requires-clause-seen
play-requires-clause-seen g c =
    let n = c.first_note-note.ensures in
    let made = c.in-Ok.ensures in
    let starts = starts_so (g.M.MapCalls.Belongs c.args.chosen.now) g.M.MapCalls.Idle (g.M.MapCalls.UnderWay c.args.chosen.now)
    (g.M.MapCalls.Learnable c.args.chosen.now) g.M.MapCalls.pass_view g.M.MapCalls.going_view c.args.chosen.now c.first_note-note.result
    c.args.passes.items c.first_note-note.new.passes.items c.args.lists.items c.in-Ok.callers.items c.requires.lists n.same
    made.passes made.calls made.idle made.empty made.room n.passes n.learnable c.requires.keys c.requires.room in (
      opened_at (views_of g.M.MapCalls.pass_view c.args.passes.items) (map (λ v. v.items) c.args.lists.items),
      starts.0,
      starts.1,
      n.nothing,
      refl,
    )

pub returns-clause-played : goal.returns-clause-played
returns-clause-played g c =
    let n = c.first_note-note.ensures in
    let made = c.in-Ok.ensures in
    let starts = starts_so (g.M.MapCalls.Belongs c.args.chosen.now) g.M.MapCalls.Idle (g.M.MapCalls.UnderWay c.args.chosen.now)
    (g.M.MapCalls.Learnable c.args.chosen.now) g.M.MapCalls.pass_view g.M.MapCalls.going_view c.args.chosen.now c.first_note-note.result
    c.args.passes.items c.first_note-note.new.passes.items c.args.lists.items c.in-Ok.callers.items c.requires.lists n.same
    made.passes made.calls made.idle made.empty made.room n.passes n.learnable c.requires.keys c.requires.room in
    let run = c.in-Ok-play.ensures.played
    (opened_at (views_of g.M.MapCalls.pass_view c.args.passes.items) (map (λ v. v.items) c.args.lists.items))
    starts.0 starts.1 n.nothing refl in
    (run.0, run.1, run.2, run.3)

pub returns-clause-calls : goal.returns-clause-calls
returns-clause-calls g c =
    let n = c.first_note-note.ensures in
    let made = c.in-Ok.ensures in
    let starts = starts_so (g.M.MapCalls.Belongs c.args.chosen.now) g.M.MapCalls.Idle (g.M.MapCalls.UnderWay c.args.chosen.now)
    (g.M.MapCalls.Learnable c.args.chosen.now) g.M.MapCalls.pass_view g.M.MapCalls.going_view c.args.chosen.now c.first_note-note.result
    c.args.passes.items c.first_note-note.new.passes.items c.args.lists.items c.in-Ok.callers.items c.requires.lists n.same
    made.passes made.calls made.idle made.empty made.room n.passes n.learnable c.requires.keys c.requires.room in
    let run = c.in-Ok-play.ensures.played
    (opened_at (views_of g.M.MapCalls.pass_view c.args.passes.items) (map (λ v. v.items) c.args.lists.items))
    starts.0 starts.1 n.nothing refl in
    run.4 ∙ made.calls
