use Rattle.std.proofs.Common.{◌*◌, arith}
use Rattle.std.specs.Prelude.{drop}
use Rattle.std.proofs.lemmas.List.{length-drop}
use Rattle.pp_pieces.proofs.Bytes.{take-within}
use Rattle.pp_pieces.proofs.pieces.piece_at.Goals as goal

pub returns : goal.returns
returns c = let long = length-drop (c.args.number * 4096) c.args.bytes.now in
    take-within _ 4096 (drop (c.args.number * 4096) c.args.bytes.now) (omega (arith, c.min-to.ensures, long, c.requires.there))
