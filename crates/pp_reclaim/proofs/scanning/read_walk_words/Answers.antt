use Rattle.std.proofs.Common.{◌<◌, ◌/◌, ◌%◌, List, [], ℕ, length, take, refl, sym, ◌∙◌, subst, arith}
use Rattle.std.proofs.lemmas.List.{take_more_set, length-take-le}
use Rattle.pp_link.specs.Places.{walk_place}
use Rattle.pp_rule.specs.Orders.{scan_walk_step}
use Rattle.pp_rule.specs.Steps.{scanned}
use Rattle.pp_rule.proofs.Made.{known_after}
use Rattle.pp_base.specs.Passes.{known, view}
use Rattle.pp_base.specs.Named.{scans_walk}
use Rattle.pp_base.proofs.Named.{plain_one}
use Rattle.pp_reclaim.specs.Sweeps.{HasRead}
use Rattle.pp_reclaim.proofs.Reading.{has_read_none, has_read_more}
use Rattle.pp_reclaim.proofs.scanning.read_walk_words.Goals as goal

pub loop-i-init : goal.loop-i-init
loop-i-init g c = record { read = has_read_none scans_walk _ c.args.pass.now.seat; walk = refl; purse = refl }

pub scan_walk-requires-clause-fits : goal.scan_walk-requires-clause-fits
scan_walk-requires-clause-fits g c = let h = c.loop-i.invariant.read.same in record {
  table_is = h.table_is ∙ c.requires.fits.table_is;
  sizes = h.sizes ∙ c.requires.fits.sizes;
}

pub scan_walk-requires-clause-next : goal.scan_walk-requires-clause-next
scan_walk-requires-clause-next g c = let h = c.loop-i.invariant.read in
    omega (
      arith,
      h.read,
      c.requires.next,
      length-take-le c.loop-i.i c.loop-i.words (omega (arith, c.loop-i-test.true, c.loop-i.auto.words)),
    )

pub loop-i-preserved : goal.loop-i-preserved
loop-i-preserved g c = let h = c.loop-i.invariant in let found = c.scan_walk.result in let i = c.loop-i.i in
    let words = c.loop-i.words in
    let start = c.args.pass.now.seat in let before = c.loop-i.pass.seat in let after = c.scan_walk.new.pass.seat in
    let here : c.loop-i.i < length c.loop-i.words = omega (arith, c.loop-i-test.true, c.loop-i.auto.words) in
    let first : ℕ = walk_place c.args.pool.now.layout 0 0 in
    let at : ℕ = walk_place c.args.pool.now.layout (c.loop-i.i / 5) (c.loop-i.i % 5) in
    let made = c.scan_walk.ensures.made in record {
      read = subst (λ (l : List ℕ). HasRead scans_walk first l start after) (sym (take_more_set words i found here))
          (has_read_more scans_walk first at found (take i words) start before after h.read c.scan_walk.ensures.same
          (omega (arith, length-take-le i words (omega (arith, here))))
          (known_after scan_walk_step at found found [] [] (scanned found (known before)) (view before) (view after) made)
          (plain_one (scans_walk at found) (scanned found (known before)) (view before) (view after) refl refl made));
      walk = c.scan_walk.ensures.walk ∙ h.walk;
      purse = c.scan_walk.ensures.purse ∙ h.purse;
    }
