-- The pieces into which an input is cut.
use Rattle.std.specs.Prelude.{ℕ, ◌+◌, ◌*◌, ◌/◌, List, take, drop}

-- how many pieces so many bytes make: each has 4,096 of them, and the last one may have fewer
abbrev pub pieces_of : ℕ → ℕ
pieces_of n = (n + 4095) / 4096

-- the bytes of the piece with this number, from 0
abbrev pub piece : List ℕ → ℕ → List ℕ
piece bytes number = take 4096 (drop (number * 4096) bytes)
