use Rattle.std.proofs.Common.{ℕ, ◌-◌, List, ◌++◌, refl, sym, ap, ◌∙◌}
use Rattle.pp_base.specs.Passes.{known}
use Rattle.pp_link.specs.declared.layout.Sizes.{Sizes}
use Rattle.pp_link.specs.Places.{walk_place}
use Rattle.pp_base.proofs.Scanned.{frees_on}
use Rattle.pp_base.proofs.Reclaiming.{keeping_reclaimed, room_parted, free_fits, gone_are, stay_are}
use Rattle.pp_base.proofs.Telling.{made_alone, made_known}
use Rattle.pp_base.proofs.scan.scan_last.Goals as goal

pub load_word-found-requires-clause-allows : goal.load_word-found-requires-clause-allows
load_word-found-requires-clause-allows g c = let S = g.S.Shape in let pass = c.args.pass.now in
    frees_on S.SIDES _ S.addition c.args.pool.now.layout _ _ _ pass.seat.me g.met.S.Shape.alike pass.keeping.lone c.requires.next
    (c.walk_word-place.ensures ∙ ap (λ (z : Sizes). walk_place c.args.pool.now.layout (z.passes - 1) 4) c.sizes.ensures.same)

pub part-requires-clause-room : goal.part-requires-clause-room
part-requires-clause-room g c = let pass = c.args.pass.now in
    free_fits g.S.Shape.SENTINELS g.S.Shape.SIDES pass.seat _ _ _ pass.purse pass.keeping c.requires.flushed

pub invariant_of-pass : goal.invariant_of-pass
invariant_of-pass g c = let pass = c.args.pass.now in let t = c.load_word-found.ensures.told in let seat = c.load_word-found.new.seat in
    let found = c.load_word-found.result in let all = c.sort_with_last.new.words in let moved = c.sort_with_last.ensures.same in
    let is = made_known seat.me t.0.1.made in record {
      keeping = keeping_reclaimed g.S.Shape.SENTINELS g.S.Shape.SIDES pass.seat seat _ _ _ _ _ _ found t.0.1.freed pass.keeping
          (made_alone seat.me t.0.0 t.0.1.made) t.1 is
          (c.part.ensures.free ∙ ap (λ (l : List ℕ). pass.purse.free.items ++ l)
          (gone_are g.S.Shape.SENTINELS g.S.Shape.SIDES pass.seat _ _ _ pass.purse _ all found pass.keeping c.requires.flushed moved
          c.requires.words
          ∙ sym t.0.1.numbers))
          (c.part.ensures.retired ∙ stay_are g.S.Shape.SENTINELS g.S.Shape.SIDES pass.seat seat _ _ _ pass.purse _ all found t.0.1.freed
          pass.keeping
          c.requires.flushed moved c.requires.words is)
          c.requires.flushed refl refl refl
          (room_parted (known pass.seat).sizes (known seat).sizes pass.purse c.part.new.free c.part.new.retired (ap (λ q. q.sizes) is)
          c.part.ensures.free_room c.part.ensures.retired_room pass.keeping.room);
      run = c.load_word-found.ensures.run;
    }

pub returns-clause-purse : goal.returns-clause-purse
returns-clause-purse g c = let pass = c.args.pass.now in let t = c.load_word-found.ensures.told in let seat = c.load_word-found.new.seat in
    let found = c.load_word-found.result in let all = c.sort_with_last.new.words in let moved = c.sort_with_last.ensures.same in record {
      free = c.part.ensures.free ∙ ap (λ (l : List ℕ). pass.purse.free.items ++ l)
          (gone_are g.S.Shape.SENTINELS g.S.Shape.SIDES pass.seat _ _ _ pass.purse _ all found pass.keeping c.requires.flushed moved
          c.requires.words);
      retired = c.part.ensures.retired ∙ stay_are g.S.Shape.SENTINELS g.S.Shape.SIDES pass.seat seat _ _ _ pass.purse _ all found
          t.0.1.freed
          pass.keeping c.requires.flushed moved c.requires.words (made_known seat.me t.0.1.made);
      free_room = c.part.ensures.free_room;
      retired_room = c.part.ensures.retired_room;
      spent = refl;
      chains = refl;
      frontier = refl;
      taken = refl;
      going = refl;
    }
