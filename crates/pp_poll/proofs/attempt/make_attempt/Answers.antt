use Rattle.std.proofs.Common.{◌≡◌, ◌-◌, arith, true, false, sym, ◌∙◌, length, map, take, drop}
use Rattle.std.specs.Prelude.{string_bytes}
use Rattle.std.proofs.lemmas.List.{take_all, length-drop}
use Rattle.pp_poll.specs.Certificates.{asks_places}
use Rattle.pp_poll.proofs.Words.{others, all_words}
use Rattle.pp_poll.proofs.attempt.make_attempt.Goals as goal

pub returns-then-asks_places : goal.returns-then-asks_places
returns-then-asks_places g c =
    let words = c.args.words.now in
    let asked : asks_places (map string_bytes words) ≡ true = sym c.asks_places.ensures.asks ∙ c.if-asks_places.true in
    let all : take (length words - 1) (drop 1 words) ≡ drop 1 words =
    take_all (length words - 1) (drop 1 words) (omega (arith, length-drop 1 words)) in
    rw (asked, others string_bytes words asked) (rw all at c.attempt_with.ensures)

pub returns-else-asks_places : goal.returns-else-asks_places
returns-else-asks_places g c =
    let asked : asks_places (map string_bytes c.args.words.now) ≡ false = sym c.asks_places.ensures.asks ∙ c.if-asks_places.false in
    rw (asked, all_words string_bytes c.args.words.now asked) c.attempt_with-else-asks_places.ensures
