use Rattle.pp_scenes.proofs.Scenes.{holds_none, seat_after, same_self, opened_first, opened_second, both_back}
use Rattle.pp_scenes.proofs.detaching.two_passes_detach_and_reclaim.Goals as goal

pub detach_and_reclaim-requires-clause-fits : goal.detach_and_reclaim-requires-clause-fits
detach_and_reclaim-requires-clause-fits g c = let p = c.last_pass-first.result in
    (seat_after _ _ _ 0 p p.seat (opened_first _ _ _ _ _ p c.last_pass-second.result c.open-pool.ensures.passes c.open-pool.ensures.count
    c.last_pass-second.ensures c.last_pass-first.ensures) c.open-pool.ensures.sizes (same_self p.seat)).0

pub detach_and_reclaim-requires-clause-fits_too : goal.detach_and_reclaim-requires-clause-fits_too
detach_and_reclaim-requires-clause-fits_too g c = let p = c.last_pass-second.result in
    (seat_after _ _ _ 1 p p.seat (opened_second _ _ _ _ _ c.last_pass-first.result p c.open-pool.ensures.passes c.open-pool.ensures.count
    c.last_pass-second.ensures c.last_pass-first.ensures) c.open-pool.ensures.sizes (same_self p.seat)).0

pub detach_and_reclaim-requires-clause-holds : goal.detach_and_reclaim-requires-clause-holds
detach_and_reclaim-requires-clause-holds g c = let p = c.last_pass-first.result in
    holds_none _ _ 0 p (opened_first _ _ _ _ _ p c.last_pass-second.result c.open-pool.ensures.passes c.open-pool.ensures.count
    c.last_pass-second.ensures c.last_pass-first.ensures)

pub detach_and_reclaim-requires-clause-holds_too : goal.detach_and_reclaim-requires-clause-holds_too
detach_and_reclaim-requires-clause-holds_too g c = let p = c.last_pass-second.result in
    holds_none _ _ 1 p (opened_second _ _ _ _ _ c.last_pass-first.result p c.open-pool.ensures.passes c.open-pool.ensures.count
    c.last_pass-second.ensures c.last_pass-first.ensures)

pub detach_and_reclaim-requires-clause-rest : goal.detach_and_reclaim-requires-clause-rest
detach_and_reclaim-requires-clause-rest g c = (opened_first _ _ _ _ _ c.last_pass-first.result c.last_pass-second.result
    c.open-pool.ensures.passes c.open-pool.ensures.count c.last_pass-second.ensures c.last_pass-first.ensures).rests

pub detach_and_reclaim-requires-clause-rest_too : goal.detach_and_reclaim-requires-clause-rest_too
detach_and_reclaim-requires-clause-rest_too g c = (opened_second _ _ _ _ _ c.last_pass-first.result c.last_pass-second.result
    c.open-pool.ensures.passes c.open-pool.ensures.count c.last_pass-second.ensures c.last_pass-first.ensures).rests

pub end-closed-requires-clause-each : goal.end-closed-requires-clause-each
end-closed-requires-clause-each g c = let p = c.last_pass-first.result in let q = c.last_pass-second.result in
    both_back _ c.open-pool.result.1.items _ c.last_pass-first.new.passes.items _ _ p q _ _
    c.open-pool.ensures.count c.last_pass-second.ensures c.last_pass-first.ensures c.append.ensures c.append-2.ensures
    (seat_after _ _ _ 0 p c.detach_and_reclaim.new.first.seat (opened_first _ _ _ _ _ p q c.open-pool.ensures.passes
    c.open-pool.ensures.count c.last_pass-second.ensures c.last_pass-first.ensures) c.open-pool.ensures.sizes
    c.detach_and_reclaim.ensures.same)
    (seat_after _ _ _ 1 q c.detach_and_reclaim.new.second.seat (opened_second _ _ _ _ _ p q c.open-pool.ensures.passes
    c.open-pool.ensures.count c.last_pass-second.ensures c.last_pass-first.ensures) c.open-pool.ensures.sizes
    c.detach_and_reclaim.ensures.same_too)

pub end-closed-requires-clause-idle : goal.end-closed-requires-clause-idle
end-closed-requires-clause-idle g c = both_back _ c.open-pool.result.1.items _ c.last_pass-first.new.passes.items _ _
    c.last_pass-first.result c.last_pass-second.result _ _
    c.open-pool.ensures.count c.last_pass-second.ensures c.last_pass-first.ensures c.append.ensures c.append-2.ensures
    c.detach_and_reclaim.ensures.idle c.detach_and_reclaim.ensures.idle_too
