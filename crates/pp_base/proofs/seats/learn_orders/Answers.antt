use Rattle.pp_base.proofs.Seated.{learns_on}
use Rattle.pp_base.proofs.seats.learn_orders.Goals as goal

pub load_word-requires-clause-allows : goal.load_word-requires-clause-allows
load_word-requires-clause-allows g c = let S = g.S.Shape in let seat = c.args.seat.now in
    learns_on S.SIDES _ S.addition _ _ seat.id _ seat.me
