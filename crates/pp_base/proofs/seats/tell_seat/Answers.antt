use Rattle.pp_base.proofs.Seated.{some_word, tells_on}
use Rattle.pp_base.proofs.seats.tell_seat.Goals as goal

pub split_seat-requires : goal.split_seat-requires
split_seat-requires g c = let S = g.S.Shape in let pool = c.args.pool.now in let seat = c.args.seat.now in (
  c.requires.table,
  some_word pool.layout _ pool.wide,
  tells_on S.SIDES _ S.addition _ seat.id seat.me.0,
)
