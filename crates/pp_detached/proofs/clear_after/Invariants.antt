use Rattle.std.proofs.Common.{◌≡◌, []}
use Rattle.pp_rule.specs.Opening.{opening_words}
use Rattle.pp_rule.specs.Orders.{clear_step}
use Rattle.pp_rule.specs.Steps.{MadeQuietStep, clearing}
use Rattle.pp_base.specs.Passes.{IsPassOf}
use Rattle.pp_detached.specs.Gone.{AreGone}
use Rattle.pp_detached.proofs.clear_after.Given as goal

abbrev pub ghosts-store_word : goal.ghosts-store_word
ghosts-store_word g a = record {
  then = λ m n m'. (((m'.1 ≡ []) × MadeQuietStep clear_step a.place 0 0
      (clearing g.S.Shape.forget a._about.word m.0.known) m.0 m'.0)
      × AreGone g.S.Shape.SIDES a.pool.now.layout (opening_words g.S.Shape.SENTINELS g.S.Shape.first_head g.S.Shape.first_field
      a.pool.now.layout) m'.0)
      × IsPassOf a.pool.now.layout m'.0.known;
}
