use Rattle.std.proofs.Common.{◌<◌, length, take, get_or, ℕ, false, cond, List, [], ◌∷◌, rules, arith, subst, sym}
use Rattle.std.proofs.lemmas.List.{take_more, length-take-le}
use Rattle.pp_pieces.specs.Counts.{CountedIn}
use Rattle.pp_pieces.specs.Left.{left}
use Rattle.pp_pieces.proofs.Bytes.{counted_in-more}
use Rattle.pp_pieces.proofs.Marks.{left-more, left-room}
use Rattle.pp_pieces.proofs.leaving.count_left.Goals as goal

pub count_free-requires-clause-room : goal.count_free-requires-clause-room
count_free-requires-clause-room c = let t = c.loop-number.number in let taken = c.args.taken.now in
    let less : t < length taken = search rules in let long = length-take-le t taken (omega arith) in let pieces = c.requires.pieces in
    let short = c.requires.short in
    λ b low. left-room c.args.counts.now c.loop-number.counts c.args.bytes.now (take t taken) b c.loop-number.invariant
    (omega (arith, long, less, pieces, short)) (c.requires.room b low) low

pub loop-number-preserved : goal.loop-number-preserved
loop-number-preserved c = let t = c.loop-number.number in let taken = c.args.taken.now in let x = get_or taken t false in
    let less : t < length taken = search rules in let long = length-take-le t taken (omega arith) in
    rw (take_more taken t false less)
    (subst (λ (l : List ℕ). CountedIn c.args.counts.now c.count_free.new.counts c.args.bytes.now l)
    (sym (left-more 0 (take t taken) x t (omega (arith, long))))
    (counted_in-more c.args.counts.now c.loop-number.counts c.count_free.new.counts c.args.bytes.now
    (left 0 (take t taken)) (cond x [] (t ∷ [])) c.loop-number.invariant c.count_free.ensures))
