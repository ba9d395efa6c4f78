use Rattle.std.proofs.Common.{ap, ◌∙◌, refl}
use Rattle.std.proofs.lemmas.Option.{slice_get_read}
use Rattle.atomic_table.specs.Table.{Me}
use Rattle.pp_rule.specs.declared.views.SeatView.{SeatView}
use Rattle.pp_base.specs.declared.purse.Purse.{Purse}
use Rattle.pp_scenes.proofs.Scenes.{each_set}
use Rattle.pp_scenes.proofs.noted.note_of.Goals as goal

pub returns-clause-passes : goal.returns-clause-passes
returns-clause-passes c = let passes = c.args.passes.now.items in let before = c.index_mut.result.now in
    let was = c.requires.passes c.args.pass before
    (slice_get_read passes _ c.args.pass before refl c.requires.pass c.index_mut.ensures.value) in
    let same = c.note.ensures.same in let purse = c.note.ensures.purse in
    each_set _ passes c.args.pass c.note.new.pass c.requires.passes (
      (
        record {
          table_is = c.note.ensures.table ∙ was.0.0.table_is;
          sizes = ap (λ (m : Me Unit (SeatView (Unit {0}) (Unit {0}) (Unit {0}))). m.0.known.sizes) same ∙ was.0.0.sizes;
        },
        ap (λ (m : Me Unit (SeatView (Unit {0}) (Unit {0}) (Unit {0}))). m.0.known.number) same ∙ was.0.1,
      ),
      (
        c.note.ensures.walk ∙ was.1.0,
        ap (λ (r : Purse). r.going) purse ∙ was.1.1,
        ap (λ (r : Purse). r.taken) purse ∙ was.1.2,
      ),
    )
