use Rattle.std.proofs.Common.{◌≡◌, ℕ, Option, Some, None, length, drop}
use Rattle.std.proofs.Common.{arith, refl, ap, subst}
use Rattle.std.proofs.lemmas.Option.{slice_get_read}
use Rattle.pp_model.specs.Pass.{NoteView}
use Rattle.pp_model.specs.MapCalls.{Notes}
use Rattle.pp_schedule.specs.Calls.{capped, CallerTurn, Marks}
use Rattle.pp_schedule.specs.Seats.{HasNone}
use Rattle.pp_schedule.proofs.Chosen.{chosen_not_over, chosen_turn, plays_over, plays_turn}
use Rattle.pp_schedule.proofs.Moved.{moved, set_shown}
use Rattle.pp_schedule.proofs.schedule.one_turn.Goals as goal

none_of : (o : Option ℕ) → ((x : ℕ) → o ≡ Some x → ⊥) → o ≡ None
none_of None not = refl
none_of (Some x) not = absurd (not x refl)

pub choose-requires : goal.choose-requires
choose-requires g c = record { known = λ k x at. let l = c.requires.known k x at in omega (arith, l, ap length c.as_slice.ensures.value) }

pub returns-in_default-clause-over : goal.returns-in_default-clause-over
returns-in_default-clause-over g c = λ no.
    let none : c.choose.result ≡ None = none_of c.choose.result c.in_default.not-Some in (
      refl,
      λ s seen.
          plays_over (g.M.MapCalls.Belongs c.args.map.now) g.M.MapCalls.Idle (g.M.MapCalls.UnderWay c.args.map.now)
          (g.M.MapCalls.Learnable c.args.map.now) g.M.MapCalls.pass_view g.M.MapCalls.going_view c.args.map.now
          g.M.MapCalls.meaning (g.M.MapCalls.sizes c.args.map.now) c.args.races c.args.callers.now.items s _ _ seen
          (rw (none, c.as_slice.ensures.value) at c.choose.ensures.chosen),
    )

pub index_mut-requires : goal.index_mut-requires
index_mut-requires g c =
    let h = rw (c.in-Some.is, c.as_slice.ensures.value) at c.choose.ensures.chosen in
    let not = chosen_not_over _ _ _ _ c.in-Some.chosen h in
    omega (arith, not.1, ap length c.as_slice.ensures.value, c.as_slice.ensures.len)

pub turn-note-requires-clause-shows : goal.turn-note-requires-clause-shows
turn-note-requires-clause-shows g c =
    let h = rw (c.in-Some.is, c.as_slice.ensures.value) at c.choose.ensures.chosen in
    let t = chosen_turn (g.M.MapCalls.Belongs c.args.map.now) g.M.MapCalls.Idle (g.M.MapCalls.UnderWay c.args.map.now)
    (g.M.MapCalls.Learnable c.args.map.now) g.M.MapCalls.pass_view g.M.MapCalls.going_view c.args.map.now
    c.args.callers.now.items c.requires.seen.0 c.args.note (drop c.args.at.now c.args.plan.now)
    (drop c.choose.new.at c.args.plan.now) c.in-Some.chosen c.index_mut.result.now c.requires.seen.1 c.requires.seen.2
    h c.index_mut.ensures.value in
    (t.v, t.sees.shows, t.sees.calls)

pub turn-note-requires-clause-maps : goal.turn-note-requires-clause-maps
turn-note-requires-clause-maps g c =
    let h = rw (c.in-Some.is, c.as_slice.ensures.value) at c.choose.ensures.chosen in
    let t = chosen_turn (g.M.MapCalls.Belongs c.args.map.now) g.M.MapCalls.Idle (g.M.MapCalls.UnderWay c.args.map.now)
    (g.M.MapCalls.Learnable c.args.map.now) g.M.MapCalls.pass_view g.M.MapCalls.going_view c.args.map.now
    c.args.callers.now.items c.requires.seen.0 c.args.note (drop c.args.at.now c.args.plan.now)
    (drop c.choose.new.at c.args.plan.now) c.in-Some.chosen c.index_mut.result.now c.requires.seen.1 c.requires.seen.2
    h c.index_mut.ensures.value in
    t.sees.maps

pub turn-note-requires-clause-more : goal.turn-note-requires-clause-more
turn-note-requires-clause-more g c =
    let h = rw (c.in-Some.is, c.as_slice.ensures.value) at c.choose.ensures.chosen in
    let t = chosen_turn (g.M.MapCalls.Belongs c.args.map.now) g.M.MapCalls.Idle (g.M.MapCalls.UnderWay c.args.map.now)
    (g.M.MapCalls.Learnable c.args.map.now) g.M.MapCalls.pass_view g.M.MapCalls.going_view c.args.map.now
    c.args.callers.now.items c.requires.seen.0 c.args.note (drop c.args.at.now c.args.plan.now)
    (drop c.choose.new.at c.args.plan.now) c.in-Some.chosen c.index_mut.result.now c.requires.seen.1 c.requires.seen.2
    h c.index_mut.ensures.value in
    t.may.more

pub turn-note-requires-clause-keys : goal.turn-note-requires-clause-keys
turn-note-requires-clause-keys g c =
    let h = rw (c.in-Some.is, c.as_slice.ensures.value) at c.choose.ensures.chosen in
    let t = chosen_turn (g.M.MapCalls.Belongs c.args.map.now) g.M.MapCalls.Idle (g.M.MapCalls.UnderWay c.args.map.now)
    (g.M.MapCalls.Learnable c.args.map.now) g.M.MapCalls.pass_view g.M.MapCalls.going_view c.args.map.now
    c.args.callers.now.items c.requires.seen.0 c.args.note (drop c.args.at.now c.args.plan.now)
    (drop c.choose.new.at c.args.plan.now) c.in-Some.chosen c.index_mut.result.now c.requires.seen.1 c.requires.seen.2
    h c.index_mut.ensures.value in
    t.goes.keys

pub turn-note-requires-clause-room : goal.turn-note-requires-clause-room
turn-note-requires-clause-room g c =
    let h = rw (c.in-Some.is, c.as_slice.ensures.value) at c.choose.ensures.chosen in
    let t = chosen_turn (g.M.MapCalls.Belongs c.args.map.now) g.M.MapCalls.Idle (g.M.MapCalls.UnderWay c.args.map.now)
    (g.M.MapCalls.Learnable c.args.map.now) g.M.MapCalls.pass_view g.M.MapCalls.going_view c.args.map.now
    c.args.callers.now.items c.requires.seen.0 c.args.note (drop c.args.at.now c.args.plan.now)
    (drop c.choose.new.at c.args.plan.now) c.in-Some.chosen c.index_mut.result.now c.requires.seen.1 c.requires.seen.2
    h c.index_mut.ensures.value in
    t.may.room

pub turn-note-requires-clause-space : goal.turn-note-requires-clause-space
turn-note-requires-clause-space g c =
    let h = rw (c.in-Some.is, c.as_slice.ensures.value) at c.choose.ensures.chosen in
    let t = chosen_turn (g.M.MapCalls.Belongs c.args.map.now) g.M.MapCalls.Idle (g.M.MapCalls.UnderWay c.args.map.now)
    (g.M.MapCalls.Learnable c.args.map.now) g.M.MapCalls.pass_view g.M.MapCalls.going_view c.args.map.now
    c.args.callers.now.items c.requires.seen.0 c.args.note (drop c.args.at.now c.args.plan.now)
    (drop c.choose.new.at c.args.plan.now) c.in-Some.chosen c.index_mut.result.now c.requires.seen.1 c.requires.seen.2
    h c.index_mut.ensures.value in
    t.may.space

pub turn-note-requires-clause-learnable : goal.turn-note-requires-clause-learnable
turn-note-requires-clause-learnable g c =
    let h = rw (c.in-Some.is, c.as_slice.ensures.value) at c.choose.ensures.chosen in
    let t = chosen_turn (g.M.MapCalls.Belongs c.args.map.now) g.M.MapCalls.Idle (g.M.MapCalls.UnderWay c.args.map.now)
    (g.M.MapCalls.Learnable c.args.map.now) g.M.MapCalls.pass_view g.M.MapCalls.going_view c.args.map.now
    c.args.callers.now.items c.requires.seen.0 c.args.note (drop c.args.at.now c.args.plan.now)
    (drop c.choose.new.at c.args.plan.now) c.in-Some.chosen c.index_mut.result.now c.requires.seen.1 c.requires.seen.2
    h c.index_mut.ensures.value in
    t.goes.learns

pub returns-clause-calls : goal.returns-clause-calls
returns-clause-calls g c =
    let xs = c.args.callers.now.items in
    let k = c.in-Some.chosen in
    let h = rw (c.in-Some.is, c.as_slice.ensures.value) at c.choose.ensures.chosen in
    let not = chosen_not_over (HasNone xs) (length xs) (drop c.args.at.now c.args.plan.now) (drop c.choose.new.at c.args.plan.now) k h in
    set_shown (λ x. x.calls) xs k c.index_mut.result.now c.turn-note.new.self
    (slice_get_read xs (length xs) k c.index_mut.result.now refl not.1 c.index_mut.ensures.value) c.turn-note.ensures.calls

pub returns-clause-on : goal.returns-clause-on
returns-clause-on g c = λ so s seen may told counted.
    let xs = c.args.callers.now.items in
    let k = c.in-Some.chosen in
    let before_plan = drop c.args.at.now c.args.plan.now in
    let left_plan = drop c.choose.new.at c.args.plan.now in
    let x = c.index_mut.result.now in
    let h = rw (c.in-Some.is, c.as_slice.ensures.value) at c.choose.ensures.chosen in
    let t = chosen_turn (g.M.MapCalls.Belongs c.args.map.now) g.M.MapCalls.Idle (g.M.MapCalls.UnderWay c.args.map.now)
    (g.M.MapCalls.Learnable c.args.map.now) g.M.MapCalls.pass_view g.M.MapCalls.going_view c.args.map.now
    xs s c.args.note before_plan left_plan k x seen may h c.index_mut.ensures.value in
    let not = chosen_not_over (HasNone xs) (length xs) before_plan left_plan k h in
    let e = c.turn-note.ensures in
    let w = e.shows t.v t.sees.shows t.sees.calls t.sees.answers t.sees.marks t.sees.mark s.count counted in
    let turned = subst (λ (heard : NoteView). (turn : CallerTurn g.M.MapCalls.meaning (g.M.MapCalls.sizes c.args.map.now) c.args.races
    heard t.v w.0) × Notes w.0.pass (g.M.MapCalls.note_view c.turn-note.result.0) × (m : ℕ) × (c.turn-note.result.1 ≡ capped m)
    × Marks turn.going turn.now s.count m t.v w.0) told w.6 in
    let m = moved (g.M.MapCalls.Belongs c.args.map.now) g.M.MapCalls.Idle (g.M.MapCalls.UnderWay c.args.map.now)
    (g.M.MapCalls.Learnable c.args.map.now) g.M.MapCalls.pass_view g.M.MapCalls.going_view c.args.map.now
    (g.met.M.MapCalls.others_learn c.args.map.now) g.M.MapCalls.meaning (g.M.MapCalls.sizes c.args.map.now) c.args.races
    s k xs c.args.note c.turn-note.result.0 (g.M.MapCalls.note_view c.turn-note.result.0) x c.turn-note.new.self t.v w.0 seen may
    (slice_get_read xs (length xs) k x refl not.1 c.index_mut.ensures.value) t.is_v
    e.calls e.space e.maps e.learnable w.1 w.2 w.3 w.4 w.5 turned.0 turned.1 turned.2 c.turn-note.result.1 turned.3 turned.4 in (
      m.0,
      m.4,
      m.5,
      m.2,
      m.3,
      (
        k,
        λ turns u plays.
            plays_turn (g.M.MapCalls.Belongs c.args.map.now) g.M.MapCalls.Idle (g.M.MapCalls.UnderWay c.args.map.now)
            (g.M.MapCalls.Learnable c.args.map.now) g.M.MapCalls.pass_view g.M.MapCalls.going_view c.args.map.now
            g.M.MapCalls.meaning (g.M.MapCalls.sizes c.args.map.now)
            c.args.races xs s m.0 u before_plan left_plan turns k seen h m.1 plays,
      ),
    )
