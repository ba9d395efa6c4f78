use Rattle.std.proofs.Common.{ℕ, sym, ap, ◌∙◌, subst, arith}
use Rattle.pp_base.specs.Passes.{known, owned_numbers}
use Rattle.pp_pool.specs.Taken.{IsPrivate}
use Rattle.pp_scenes.proofs.Scenes.{private_same, private_next, private_yet}
use Rattle.pp_scenes.proofs.tests.take_and_give_back.Goals as goal

pub write-requires-clause-private : goal.write-requires-clause-private
write-requires-clause-private g c = let out = c.find_none_left.new.pass in let last = c.take_number-four.new.pass in
    let mid = c.take_number-five.new.pass in
    subst (λ (n : ℕ). IsPrivate (known out.seat) out.purse n) (sym c.take_number-five.ensures.number)
    (private_same last.seat out.seat last.purse out.purse 5 (ap (λ s. owned_numbers (known s)) c.find_none_left.ensures.seat)
    c.find_none_left.ensures.purse (private_next mid.seat last.seat mid.purse last.purse 5 4 c.take_number-four.ensures.seat
    c.take_number-four.ensures.took
    c.take_number-five.ensures.private))

pub give_back-requires : goal.give_back-requires
give_back-requires g c = let out = c.find_none_left.new.pass in let last = c.take_number-four.new.pass in
    let mid = c.take_number-five.new.pass in let first = c.take_number-six.new.pass in let now = c.write.new.pass in
    subst (λ (n : ℕ). IsPrivate (known now.seat) now.purse n) (sym c.take_number-six.ensures.number)
    (private_same last.seat now.seat last.purse now.purse 6
    (c.write.ensures.owned ∙ ap (λ s. owned_numbers (known s)) c.find_none_left.ensures.seat)
    (c.write.ensures.purse ∙ c.find_none_left.ensures.purse)
    (private_next mid.seat last.seat mid.purse last.purse 6 4 c.take_number-four.ensures.seat c.take_number-four.ensures.took
    (private_next first.seat mid.seat first.purse mid.purse 6 5 c.take_number-five.ensures.seat c.take_number-five.ensures.took
    c.take_number-six.ensures.private)))

pub give_back-requires-2 : goal.give_back-requires-2
give_back-requires-2 g c = let last = c.take_number-four.new.pass in
    let mid = c.take_number-five.new.pass in let now = c.write.new.pass in let after = c.give_back.new.pass in
    subst (λ (n : ℕ). IsPrivate (known after.seat) after.purse n) (sym c.take_number-five.ensures.number)
    (private_yet now.seat after.seat now.purse after.purse 5 c.take_number-six.result.number
    (λ e. let six = c.take_number-six.ensures.number in omega arith) c.give_back.ensures.seat c.give_back.ensures.purse
    (private_same last.seat now.seat last.purse now.purse 5
    (c.write.ensures.owned ∙ ap (λ s. owned_numbers (known s)) c.find_none_left.ensures.seat)
    (c.write.ensures.purse ∙ c.find_none_left.ensures.purse)
    (private_next mid.seat last.seat mid.purse last.purse 5 4 c.take_number-four.ensures.seat c.take_number-four.ensures.took
    c.take_number-five.ensures.private)))

pub give_back-requires-3 : goal.give_back-requires-3
give_back-requires-3 g c = let last = c.take_number-four.new.pass in let now = c.write.new.pass in
    let after = c.give_back.new.pass in let again = c.give_back-2.new.pass in
    subst (λ (n : ℕ). IsPrivate (known again.seat) again.purse n) (sym c.take_number-four.ensures.number)
    (private_yet after.seat again.seat after.purse again.purse 4 c.take_number-five.result.number
    (λ e. let five = c.take_number-five.ensures.number in omega arith) c.give_back-2.ensures.seat c.give_back-2.ensures.purse
    (private_yet now.seat after.seat now.purse after.purse 4 c.take_number-six.result.number
    (λ e. let six = c.take_number-six.ensures.number in omega arith) c.give_back.ensures.seat c.give_back.ensures.purse
    (private_same last.seat now.seat last.purse now.purse 4
    (c.write.ensures.owned ∙ ap (λ s. owned_numbers (known s)) c.find_none_left.ensures.seat)
    (c.write.ensures.purse ∙ c.find_none_left.ensures.purse) c.take_number-four.ensures.private)))
