use Rattle.std.proofs.Common.{sym, ◌∙◌, arith, rules}
use Rattle.std.proofs.lemmas.Option.{slice_get_read}
use Rattle.pp_scenes.proofs.Scenes.{each_set, holds_none, seat_after}
use Rattle.pp_scenes.proofs.tests.a_pass_walks_along_the_row.Goals as goal

pub walk_along-requires-clause-fits : goal.walk_along-requires-clause-fits
walk_along-requires-clause-fits g c = let pass = c.index_mut.result.now in
    let new = c.open-pool.ensures.passes 0 pass
    (slice_get_read c.open-pool.result.1.items 2 0 pass (sym c.open-pool.ensures.count) (omega arith) c.index_mut.ensures.value) in
    record { table_is = new.fits.table_is; sizes = new.fits.sizes ∙ sym c.open-pool.ensures.sizes }

pub walk_along-requires-clause-holds : goal.walk_along-requires-clause-holds
walk_along-requires-clause-holds g c = let pass = c.index_mut.result.now in
    holds_none _ _ 0 pass (c.open-pool.ensures.passes 0 pass
    (slice_get_read c.open-pool.result.1.items 2 0 pass (sym c.open-pool.ensures.count) (omega arith) c.index_mut.ensures.value))

pub end-closed-requires-clause-each : goal.end-closed-requires-clause-each
end-closed-requires-clause-each g c = let passes = c.open-pool.result.1.items in let pass = c.index_mut.result.now in
    let new = c.open-pool.ensures.passes 0 pass
    (slice_get_read passes 2 0 pass (sym c.open-pool.ensures.count) (omega arith) c.index_mut.ensures.value) in
    each_set _ passes 0 c.walk_along.new.pass (search rules)
    (seat_after _ _ _ 0 pass c.walk_along.new.pass.seat new c.open-pool.ensures.sizes c.walk_along.ensures.same)

pub end-closed-requires-clause-idle : goal.end-closed-requires-clause-idle
end-closed-requires-clause-idle g c = each_set _ c.open-pool.result.1.items 0 c.walk_along.new.pass (search rules) c.walk_along.ensures.idle
