use Rattle.std.proofs.Common.{length, refl, sym, ap, ◌∙◌}
use Rattle.std.proofs.lemmas.List.{length-map}
use Rattle.pp_pieces.specs.Claims.{all_claims}
use Rattle.pp_pieces.specs.Pieces.{pieces_of}
use Rattle.pp_claims.proofs.Claims.{keys_fit, rooms, answers_long, each_answered}
use Rattle.pp_claims.proofs.Lists.{all_long, are_claims}
use Rattle.pp_claims.proofs.Owners.{are_owned, apart}
use Rattle.pp_claims.proofs.Sums.{sum_fits, counts_input}
use Rattle.pp_claims.proofs.claiming.claim_on.Goals as goal

pub run_on-requires-clause-lists : goal.run_on-requires-clause-lists
run_on-requires-clause-lists g c κs within =
    sym (length-map c.in_ok-lists.lists.items (λ v. v.items)) ∙ (ap length c.in_ok-lists.ensures
    ∙ (all_long c.args.callers c.count_pieces-pieces.result ∙ sym c.requires.count))

pub run_on-requires-clause-keys : goal.run_on-requires-clause-keys
run_on-requires-clause-keys g c κs within =
    rw c.in_ok-lists.ensures (keys_fit c.args.callers c.count_pieces-pieces.result c.count_pieces-pieces.ensures.few)

pub run_on-requires-clause-room : goal.run_on-requires-clause-room
run_on-requires-clause-room g c κs within =
    rw c.in_ok-lists.ensures (rooms g.M.MapCalls.pass_view c.args.passes.items c.args.callers c.count_pieces-pieces.result
    (rw c.count_pieces-pieces.ensures.count c.requires.room))

pub count_claims-requires-clause-each : goal.count_claims-requires-clause-each
count_claims-requires-clause-each g c κs within =
    let ran = rw (c.in_ok-lists.ensures ∙ ap (all_claims c.args.callers) c.count_pieces-pieces.ensures.count) at c.in_ok-ran.ensures.ran in
    ap length c.deref.ensures.value ∙ answers_long g.M.MapCalls.meaning (g.M.MapCalls.sizes c.args.chosen) c.args.races c.args.callers
    (pieces_of (length c.args.bytes.now)) _ c.in_ok-ran.ran.answers.items _ ran

pub count_claims-requires-clause-answered : goal.count_claims-requires-clause-answered
count_claims-requires-clause-answered g c κs within =
    let ran = rw (c.in_ok-lists.ensures ∙ ap (all_claims c.args.callers) c.count_pieces-pieces.ensures.count) at c.in_ok-ran.ensures.ran in
    rw c.deref.ensures.value (each_answered g.M.MapCalls.meaning (g.M.MapCalls.sizes c.args.chosen) c.args.races c.args.callers
    (pieces_of (length c.args.bytes.now)) _ c.in_ok-ran.ran.answers.items _ ran)

pub total_of-requires : goal.total_of-requires
total_of-requires g c =
    let ran = rw (c.in_ok-lists.ensures ∙ ap (all_claims c.args.callers) c.count_pieces-pieces.ensures.count) at c.in_ok-ran.ensures.ran in
    rw (c.deref-2.ensures.value, c.deref-3.ensures.value)
    (sum_fits c.args.bytes.now (pieces_of (length c.args.bytes.now)) _ _ _ _ c.requires.short refl ran.answered
    (apart g.M.MapCalls.meaning (g.M.MapCalls.sizes c.args.chosen) c.args.races (pieces_of (length c.args.bytes.now)) _ _ _ _ ran
    (are_claims c.args.callers (pieces_of (length c.args.bytes.now))))
    (rw c.deref.ensures.value at c.in_ok-counted.ensures))

pub returns-clause-ran : goal.returns-clause-ran
returns-clause-ran g c =
    rw (c.in_ok-lists.ensures ∙ ap (all_claims c.args.callers) c.count_pieces-pieces.ensures.count) at c.in_ok-ran.ensures.ran

pub returns-clause-owned : goal.returns-clause-owned
returns-clause-owned g c =
    let ran = rw (c.in_ok-lists.ensures ∙ ap (all_claims c.args.callers) c.count_pieces-pieces.ensures.count) at c.in_ok-ran.ensures.ran in
    are_owned g.M.MapCalls.meaning (g.M.MapCalls.sizes c.args.chosen) c.args.races (pieces_of (length c.args.bytes.now)) _ _ _ _ ran
    (are_claims c.args.callers (pieces_of (length c.args.bytes.now)))

pub returns-clause-total : goal.returns-clause-total
returns-clause-total g c =
    let ran = rw (c.in_ok-lists.ensures ∙ ap (all_claims c.args.callers) c.count_pieces-pieces.ensures.count) at c.in_ok-ran.ensures.ran in
    counts_input c.args.bytes.now (pieces_of (length c.args.bytes.now)) _ _ _ _ c.in_ok-total.total.items refl ran.answered
    (apart g.M.MapCalls.meaning (g.M.MapCalls.sizes c.args.chosen) c.args.races (pieces_of (length c.args.bytes.now)) _ _ _ _ ran
    (are_claims c.args.callers (pieces_of (length c.args.bytes.now))))
    (rw c.deref.ensures.value at c.in_ok-counted.ensures)
    (rw (c.deref-2.ensures.value, c.deref-3.ensures.value) at c.in_ok-total.ensures)
