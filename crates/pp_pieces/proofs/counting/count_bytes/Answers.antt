use Rattle.std.proofs.Common.{◌<◌, ◌+◌, take, get_or, set, ℕ, List, [], ◌∷◌, ◌++◌, rules, arith, subst, sym, ap, ◌∙◌}
use Rattle.std.proofs.lemmas.List.{take_more, length-take-le}
use Rattle.pp_pieces.specs.Counts.{Counted}
use Rattle.pp_pieces.proofs.Bytes.{counted-more, counted-le}
use Rattle.pp_pieces.proofs.counting.count_bytes.Goals as goal

pub overflow_add-counts : goal.overflow_add-counts
overflow_add-counts c = let low : c.from.result < 256 = search rules in let i = c.loop-byte.byte-index in let bytes = c.args.bytes.now in
    let most = counted-le c.args.counts.now c.loop-byte.counts (take i bytes) c.from.result c.loop-byte.invariant low in
    let long = length-take-le i bytes c.loop-byte.auto.byte-index-end in let room = c.requires.room c.from.result low in
    let more = c.loop-byte-test.true in omega arith

pub loop-byte-preserved : goal.loop-byte-preserved
loop-byte-preserved c = let low : c.from.result < 256 = search rules in let i = c.loop-byte.byte-index in let bytes = c.args.bytes.now in
    let more = take_more bytes i 0 c.loop-byte-test.true in
    let count = c.loop-byte.counts in let x = c.from.result in
    subst (λ (l : List ℕ). Counted c.args.counts.now (set count x (get_or count x 0 + 1)) l)
    (sym (more ∙ ap (λ (m : ℕ). take i bytes ++ m ∷ []) (sym c.from.ensures)))
    (counted-more c.args.counts.now count (take i bytes) x c.loop-byte.invariant low)
