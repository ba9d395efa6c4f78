use Rattle.std.proofs.Common.{◌≡◌, []}
use Rattle.pp_link.specs.Places.{field_number}
use Rattle.pp_base.specs.Passes.{IsPassOf}
use Rattle.pp_base.specs.Private.{WroteField}
use Rattle.pp_base.proofs.private.write.Given as goal

abbrev pub ghosts-store_word : goal.ghosts-store_word
ghosts-store_word g a = record {
  then = λ m n m'. ((m'.1 ≡ []) × WroteField a._about.number
      (field_number a._about.field) n a.place m.0 m'.0) × IsPassOf a.pool.now.layout m'.0.known;
}
