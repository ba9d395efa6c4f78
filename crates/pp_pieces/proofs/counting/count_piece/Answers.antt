use Rattle.std.proofs.Common.{length, arith, ap}
use Rattle.pp_pieces.proofs.Bytes.{piece-short}
use Rattle.pp_pieces.proofs.counting.count_piece.Goals as goal

pub count_bytes-requires-clause-room : goal.count_bytes-requires-clause-room
count_bytes-requires-clause-room c = λ b low. let room = c.requires.room b low in let few = piece-short c.args.bytes.now c.args.number in
    let long = ap length c.piece_at.ensures in omega arith
