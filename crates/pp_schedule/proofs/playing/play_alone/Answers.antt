use Rattle.std.proofs.Common.{◌≡◌, ℕ, [], ◌∷◌, ◌++◌, length, refl}
use Rattle.std.proofs.Common.{ap, ◌∙◌, arith}
use Rattle.pp_model.specs.Pass.{PassView, NoteView}
use Rattle.pp_model.specs.MapCalls.{Notes}
use Rattle.pp_schedule.specs.Opened.{opened_alone}
use Rattle.pp_schedule.proofs.Opening.{alone_seen, alone_goes}
use Rattle.pp_schedule.proofs.Shown.{ok_of}
use Rattle.pp_schedule.proofs.playing.play_alone.Goals as goal

-- the note tells what the pass had seen
told_is : (note : NoteView) (was now : PassView) → Notes now note → now ≡ was
    → note ≡ record { seen = length was.seen; order = length was.order }
told_is note was now notes same =
    let s : note.seen ≡ length was.seen = notes.seen ∙ ap (λ (p : PassView). length p.seen) same in
    let o : note.order ≡ length was.order = notes.order ∙ ap (λ (p : PassView). length p.order) same in
    ap (λ (a : ℕ). let n : NoteView = record { seen = a; order = note.order } in n) s
    ∙ ap (λ (b : ℕ). let n : NoteView = record { seen = length was.seen; order = b } in n) o

pub play-requires-clause-plan : goal.play-requires-clause-plan
play-requires-clause-plan g c = λ k x at.
    let z = c.requires.plan k x at in
    let list : c.enter.new.list.items ≡ c.new-caller.result ∷ [] = c.enter.ensures.items
    ∙ ap (λ xs. xs ++ c.new-caller.result ∷ []) c.requires.empty.0 in
    omega (arith, z, ap length list)

pub play-requires-clause-seen : goal.play-requires-clause-seen
play-requires-clause-seen g c =
    let n = c.note-note.ensures in
    let p = c.new-caller.ensures.parts in
    let list : c.enter.new.list.items ≡ c.new-caller.result ∷ [] = c.enter.ensures.items
    ∙ ap (λ xs. xs ++ c.new-caller.result ∷ []) c.requires.empty.0 in
    let seen = alone_seen (g.M.MapCalls.Belongs c.args.map.now) g.M.MapCalls.Idle (g.M.MapCalls.UnderWay c.args.map.now)
    (g.M.MapCalls.Learnable c.args.map.now) g.M.MapCalls.pass_view g.M.MapCalls.going_view c.args.map.now
    c.note-note.result c.note-note.new.pass c.new-caller.result (g.M.MapCalls.pass_view c.args.pass) c.args.calls.items
    p.0 p.1 p.2 (ap (λ v. v.items) p.3) (ap (λ v. v.items) p.4 ∙ c.requires.none) p.5 n.belongs
    (n.idle c.requires.idle) n.same c.requires.caller
    c.requires.keys c.requires.room (rw p.4 c.requires.space) n.learnable in
    let goes = alone_goes (g.M.MapCalls.Belongs c.args.map.now) g.M.MapCalls.Idle (g.M.MapCalls.UnderWay c.args.map.now)
    (g.M.MapCalls.Learnable c.args.map.now) g.M.MapCalls.pass_view g.M.MapCalls.going_view c.args.map.now
    c.note-note.result c.note-note.new.pass c.new-caller.result (g.M.MapCalls.pass_view c.args.pass) c.args.calls.items
    p.0 p.1 p.2 (ap (λ v. v.items) p.3) (ap (λ v. v.items) p.4 ∙ c.requires.none) p.5 n.belongs
    (n.idle c.requires.idle) n.same c.requires.caller
    c.requires.keys c.requires.room (rw p.4 c.requires.space) n.learnable in
    let seen_order = n.noted in (
      opened_alone (g.M.MapCalls.pass_view c.args.pass) c.args.calls.items,
      rw list seen,
      rw list goes,
      told_is _ _ _ n.noted n.same,
      refl,
    )

pub returns : goal.returns
returns g c =
    let n = c.note-note.ensures in
    let p = c.new-caller.ensures.parts in
    let list : c.enter.new.list.items ≡ c.new-caller.result ∷ [] = c.enter.ensures.items
    ∙ ap (λ xs. xs ++ c.new-caller.result ∷ []) c.requires.empty.0 in
    let seen = alone_seen (g.M.MapCalls.Belongs c.args.map.now) g.M.MapCalls.Idle (g.M.MapCalls.UnderWay c.args.map.now)
    (g.M.MapCalls.Learnable c.args.map.now) g.M.MapCalls.pass_view g.M.MapCalls.going_view c.args.map.now
    c.note-note.result c.note-note.new.pass c.new-caller.result (g.M.MapCalls.pass_view c.args.pass) c.args.calls.items
    p.0 p.1 p.2 (ap (λ v. v.items) p.3) (ap (λ v. v.items) p.4 ∙ c.requires.none) p.5 n.belongs
    (n.idle c.requires.idle) n.same c.requires.caller
    c.requires.keys c.requires.room (rw p.4 c.requires.space) n.learnable in
    let goes = alone_goes (g.M.MapCalls.Belongs c.args.map.now) g.M.MapCalls.Idle (g.M.MapCalls.UnderWay c.args.map.now)
    (g.M.MapCalls.Learnable c.args.map.now) g.M.MapCalls.pass_view g.M.MapCalls.going_view c.args.map.now
    c.note-note.result c.note-note.new.pass c.new-caller.result (g.M.MapCalls.pass_view c.args.pass) c.args.calls.items
    p.0 p.1 p.2 (ap (λ v. v.items) p.3) (ap (λ v. v.items) p.4 ∙ c.requires.none) p.5 n.belongs
    (n.idle c.requires.idle) n.same c.requires.caller
    c.requires.keys c.requires.room (rw p.4 c.requires.space) n.learnable in
    let seen_order = n.noted in
    let s = opened_alone (g.M.MapCalls.pass_view c.args.pass) c.args.calls.items in
    record {
      played = ok_of c.play.result _ _ c.play.ensures.played
          (λ out h. let r = h s (rw list seen) (rw list goes) (told_is _ _ _ n.noted n.same) refl in (r.0, r.1, r.2, r.3));
    }
