use Rattle.std.proofs.Common.{◌≡◌, ℕ, get_or, sym, ◌∙◌, arith}
use Rattle.std.proofs.lemmas.List.{get_or-set_other}
use Rattle.std.proofs.lemmas.Option.{slice_get_read}
use Rattle.pp_scenes.proofs.Scenes.{each_set, same_self, holds_none, seat_after}
use Rattle.pp_peg_scenes.proofs.shelving.free_records_pass_over_shelves.Goals as goal

pub give_five-requires-clause-rest : goal.give_five-requires-clause-rest
give_five-requires-clause-rest g c = let pass = c.index_mut.result.now in
    (c.open-pool.ensures.passes 0 pass (slice_get_read c.open-pool.result.1.items 2 0 pass (sym c.open-pool.ensures.count)
    (omega arith) c.index_mut.ensures.value)).rests

pub give_five-requires-clause-clear : goal.give_five-requires-clause-clear
give_five-requires-clause-clear g c = let pass = c.index_mut.result.now in
    let none = holds_none _ _ 0 pass (c.open-pool.ensures.passes 0 pass
    (slice_get_read c.open-pool.result.1.items 2 0 pass (sym c.open-pool.ensures.count) (omega arith)
    c.index_mut.ensures.value)) in
    none.clear 0 (omega arith) (omega arith)

pub use_five-requires : goal.use_five-requires
use_five-requires g c = let passes = c.open-pool.result.1.items in let pass = c.index_mut-2.result.now in
    let new = c.open-pool.ensures.passes 1 pass (slice_get_read passes 2 1 pass (sym c.open-pool.ensures.count) (omega arith)
    (c.index_mut-2.ensures.value ∙ get_or-set_other passes 0 1 c.give_five.new.pass pass (omega arith))) in
    record { fits = record { table_is = new.fits.table_is; sizes = new.fits.sizes ∙ sym c.open-pool.ensures.sizes } }

pub end-closed-requires-clause-each : goal.end-closed-requires-clause-each
end-closed-requires-clause-each g c = let passes = c.open-pool.result.1.items in let sizes = c.open-pool.ensures.sizes in
    let first = c.index_mut.result.now in let second = c.index_mut-2.result.now in
    let first_new = c.open-pool.ensures.passes 0 first
    (slice_get_read passes 2 0 first (sym c.open-pool.ensures.count) (omega arith) c.index_mut.ensures.value) in
    let second_new = c.open-pool.ensures.passes 1 second
    (slice_get_read passes 2 1 second (sym c.open-pool.ensures.count) (omega arith)
    (c.index_mut-2.ensures.value ∙ get_or-set_other passes 0 1 c.give_five.new.pass second (omega arith))) in
    each_set _ _ 1 c.use_five.new.pass (each_set _ passes 0 c.give_five.new.pass
    (λ k p at. seat_after _ _ _ k p p.seat (c.open-pool.ensures.passes k p at) sizes (same_self p.seat))
    (seat_after _ _ _ 0 first c.give_five.new.pass.seat first_new sizes c.give_five.ensures.same))
    (seat_after _ _ _ 1 second c.use_five.new.pass.seat second_new sizes c.use_five.ensures.same)

pub end-closed-requires-clause-idle : goal.end-closed-requires-clause-idle
end-closed-requires-clause-idle g c = each_set _ _ 1 c.use_five.new.pass
    (each_set _ c.open-pool.result.1.items 0 c.give_five.new.pass
    (λ k p at. let new = c.open-pool.ensures.passes k p at in (new.unnamed, new.purse.resting, new.purse.taken))
    c.give_five.ensures.idle) c.use_five.ensures.idle
