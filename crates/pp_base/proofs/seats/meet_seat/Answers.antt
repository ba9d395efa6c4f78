use Rattle.pp_base.proofs.Seated.{some_word, meets_on}
use Rattle.pp_base.proofs.seats.meet_seat.Goals as goal

pub join_seat-requires : goal.join_seat-requires
join_seat-requires g c = let S = g.S.Shape in let pool = c.args.pool.now in let seat = c.args.seat.now in let other = c.args.other in (
  c.requires.table,
  c.requires.other_table,
  c.requires.bare,
  some_word pool.layout _ pool.wide,
  meets_on S.SIDES _ S.addition _ seat.id other.id seat.me other.me.0 _ c.requires.lone,
)
