use Rattle.std.proofs.Common.{sym, arith, rules}
use Rattle.std.proofs.lemmas.Option.{slice_get_read}
use Rattle.pp_scenes.proofs.Scenes.{each_set, holds_none, seat_after}
use Rattle.pp_peg_scenes.proofs.peg_tests.a_fifth_chain_flushes_the_first_four.Goals as goal

pub pull_all-requires-clause-rest : goal.pull_all-requires-clause-rest
pull_all-requires-clause-rest g c = let pass = c.index_mut.result.now in
    (c.open-pool.ensures.passes 0 pass
    (slice_get_read c.open-pool.result.1.items 1 0 pass (sym c.open-pool.ensures.count) (omega arith) c.index_mut.ensures.value)).rests

pub pull_all-requires-clause-clear : goal.pull_all-requires-clause-clear
pull_all-requires-clause-clear g c = let pass = c.index_mut.result.now in
    let none = holds_none _ _ 0 pass (c.open-pool.ensures.passes 0 pass
    (slice_get_read c.open-pool.result.1.items 1 0 pass (sym c.open-pool.ensures.count) (omega arith) c.index_mut.ensures.value)) in
    none.clear 0 (omega arith) (omega arith)

pub end-closed-requires-clause-each : goal.end-closed-requires-clause-each
end-closed-requires-clause-each g c = let passes = c.open-pool.result.1.items in let pass = c.index_mut.result.now in
    let new = c.open-pool.ensures.passes 0 pass
    (slice_get_read passes 1 0 pass (sym c.open-pool.ensures.count) (omega arith) c.index_mut.ensures.value) in
    each_set _ passes 0 c.pull_all.new.pass (search rules)
    (seat_after _ _ _ 0 pass c.pull_all.new.pass.seat new c.open-pool.ensures.sizes c.pull_all.ensures.same)

pub end-closed-requires-clause-idle : goal.end-closed-requires-clause-idle
end-closed-requires-clause-idle g c = each_set _ c.open-pool.result.1.items 0 c.pull_all.new.pass (search rules) c.pull_all.ensures.idle
