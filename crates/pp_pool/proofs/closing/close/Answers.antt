use Rattle.std.proofs.Common.{ℕ, ◌<◌, List, map, sym, ap, ◌∙◌, subst}
use Rattle.pp_rule.specs.Lists.{times}
use Rattle.pp_model.specs.declared.Pair.{Pair}
use Rattle.pp_link.specs.declared.layout.Sizes.{Sizes}
use Rattle.pp_rule.specs.Closing.{spare}
use Rattle.pp_rule.specs.Opening.{opening_words}
use Rattle.pp_pool.specs.Closed.{IsSeatOf, IsClosedPool}
use Rattle.pp_pool.proofs.Closings.{each_image, end_of, closes}
use Rattle.pp_pool.proofs.closing.close.Goals as goal

pub join_all-seat-requires-clause-each : goal.join_all-seat-requires-clause-each
join_all-seat-requires-clause-each g c = each_image (λ p. p.seat) (IsSeatOf c.args.pool.table.shared.table_id c.args.pool.layout)
    c.args.passes.items c.requires.each

pub gather-requires-clause-rule : goal.gather-requires-clause-rule
gather-requires-clause-rule g c = let S = g.S.Shape in let pool = c.args.pool in let t = c.end_table-seat.ensures.ended in
    let e = end_of S.SIDES (opening_words S.SENTINELS S.first_head S.first_field) S.addition (λ p. p.seat) c.args.passes.items
    pool.table.shared.table_id pool.layout c.join_all-seat.result.id c.join_all-seat.result.me.0 c.deref.result.now
    c.requires.each c.requires.all c.join_all-seat.ensures.joined (t.0, t.1, t.2 ∙ sym c.deref.ensures.value) in
    (e.pool, e.base, e.added)

pub enter_spare-requires-clause-live : goal.enter_spare-requires-clause-live
enter_spare-requires-clause-live g c = let S = g.S.Shape in let pool = c.args.pool in let t = c.end_table-seat.ensures.ended in
    let words = c.deref.result.now in
    let e = end_of S.SIDES (opening_words S.SENTINELS S.first_head S.first_field) S.addition (λ p. p.seat) c.args.passes.items
    pool.table.shared.table_id pool.layout c.join_all-seat.result.id c.join_all-seat.result.me.0 words
    c.requires.each c.requires.all c.join_all-seat.ensures.joined (t.0, t.1, t.2 ∙ sym c.deref.ensures.value) in
    let told = g.met.S.Shape.gathers pool.layout words e.pool c.gather.new.contents.items c.gather.new.live.items
    e.base e.added c.gather.ensures in
    λ n more. ap (λ (l : List ℕ). times n l) c.deref-2.ensures.value
    ∙ told.0.high n (subst (λ (z : Sizes). z.records < n) c.sizes-sizes.ensures.same more)

pub returns-clause-closed : goal.returns-clause-closed
returns-clause-closed g c = let S = g.S.Shape in let pool = c.args.pool in let t = c.end_table-seat.ensures.ended in
    let words = c.deref.result.now in let v = c.join_all-seat.result.me.0 in
    subst (λ (l : List ℕ). IsClosedPool (opening_words S.SENTINELS S.first_head S.first_field pool.layout)
    S.gathered S.live_count S.tells
    S.tells_pass S.caller_of pool.layout
    (map (λ p. p.seat) c.args.passes.items) c.new.result.contents.items c.new.result.free.items l
    c.new.result.witness.seat.me.0) (sym (ap (λ w. w.live.items) c.new.ensures.witness))
    (closes S.SIDES (opening_words S.SENTINELS S.first_head S.first_field) S.addition S.gathered S.live_count S.tells S.tells_pass
    S.caller_of g.met.S.Shape.gathers g.met.S.Shape.own_changes pool.layout (map (λ p. p.seat) c.args.passes.items) v
    c.new.result.witness.seat.me.0 words
    c.new.result.contents.items c.gather.new.live.items c.new.result.free.items c.join_all-seat.ensures.joined
    (end_of S.SIDES (opening_words S.SENTINELS S.first_head S.first_field) S.addition (λ p. p.seat) c.args.passes.items
    pool.table.shared.table_id pool.layout c.join_all-seat.result.id v words
    c.requires.each c.requires.all c.join_all-seat.ensures.joined (t.0, t.1, t.2 ∙ sym c.deref.ensures.value))
    (ap (λ w. w.seat.me.0) c.new.ensures.witness ∙ c.end_table-seat.ensures.told)
    (subst (λ (l : List Pair). S.gathered pool.layout words l c.gather.new.live.items)
    (sym (ap (λ l. l.items) c.new.ensures.contents)) c.gather.ensures)
    (ap (λ l. l.items) c.new.ensures.free ∙ (c.enter_spare.ensures
    ∙ (ap (λ (l : List ℕ). spare l 1 c.sizes-sizes.result.records) c.deref-2.ensures.value
    ∙ ap (λ (z : Sizes). spare c.gather.new.live.items 1 z.records) c.sizes-sizes.ensures.same))))
