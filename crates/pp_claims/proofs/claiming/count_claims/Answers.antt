use Rattle.std.proofs.Common.{map, sym, ap, ◌∙◌}
use Rattle.std.proofs.lemmas.List.{take_at}
use Rattle.pp_claims.proofs.Sharing.{may_count, may_mark, are_counted}
use Rattle.pp_claims.proofs.claiming.count_claims.Goals as goal

pub count_shares-requires-clause-may : goal.count_shares-requires-clause-may
count_shares-requires-clause-may g c κs within =
    rw c.as_mut_slice.ensures.value (may_count c.args.callers c.count_pieces-pieces.result c.args.bytes.now c.in_ok-shares.shares.items
    c.in_ok-shares.shares.items c.args.answers.now c.in_ok-shares.ensures.calls c.in_ok-shares.ensures.answers c.in_ok-shares.ensures.empty
    (rw c.count_pieces-pieces.ensures.count c.requires.answered) c.count_pieces-pieces.ensures.few c.count_pieces-pieces.ensures.count)

pub count_rest-requires-clause-may : goal.count_rest-requires-clause-may
count_rest-requires-clause-may g c =
    let now = c.count_shares.new.shares in
    let whole = take_at now _ c.in_ok-shares.shares.len (c.count_shares.auto.shares ∙ c.as_mut_slice.ensures.len) in
    rw (c.deref.ensures.value ∙ whole) (may_mark c.args.callers c.count_pieces-pieces.result c.args.bytes.now c.in_ok-shares.shares.items
    now c.args.answers.now c.in_ok-shares.ensures.calls c.in_ok-shares.ensures.answers c.in_ok-shares.ensures.empty
    (rw c.count_pieces-pieces.ensures.count c.requires.answered) (rw c.as_mut_slice.ensures.value at c.count_shares.ensures))

pub returns : goal.returns
returns g c =
    let now = c.count_shares.new.shares in
    let whole = take_at now _ c.in_ok-shares.shares.len (c.count_shares.auto.shares ∙ c.as_mut_slice.ensures.len) in
    rw (sym c.count_pieces-pieces.ensures.count) (are_counted c.args.callers c.count_pieces-pieces.result c.args.bytes.now
    c.in_ok-shares.shares.items now c.args.answers.now c.in_ok-shares.ensures.calls c.in_ok-shares.ensures.answers
    c.in_ok-shares.ensures.empty (rw c.count_pieces-pieces.ensures.count c.requires.answered)
    (rw c.as_mut_slice.ensures.value at c.count_shares.ensures) c.in_ok-counts.counts.items c.in_ok-rest.rest.items
    (c.in_ok-counts.ensures ∙ ap (map (λ s. s.counts)) whole)
    (rw (c.deref.ensures.value ∙ whole) at c.in_ok-rest.ensures))
