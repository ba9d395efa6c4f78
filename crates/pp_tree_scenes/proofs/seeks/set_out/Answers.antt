use Rattle.std.proofs.Common.{◌<◌, ℕ, sym, ap, ◌∙◌, subst, arith}
use Rattle.std.proofs.Math.Bool.{false≢true}
use Rattle.pp_base.specs.Passes.{known}
use Rattle.pp_seek.specs.declared.seek.Seek.{Seek}
use Rattle.pp_seek.specs.Seeking.{Seeks}
use Rattle.pp_trees.specs.Trees.{inf0}
use Rattle.pp_tree.proofs.Beginning.{all_empty}
use Rattle.pp_tree_scenes.proofs.seeks.set_out.Goals as goal

pub returns : goal.returns
returns c = let p = c.args.pass.now in let ready = c.requires.ready in record {
  seeking = record {
    fits = ready.member.fits;
    seeks = subst (λ (s : Seek). Seeks (known p.seat) s) (sym c.begin.ensures) (record {
      pair = subst (λ (k : ℕ). k < inf0) (sym c.from.ensures) (omega arith);
      call_is = λ e. absurd (false≢true (sym e));
      empty = all_empty (known p.seat).sizes (known p.seat) p.walk p.keeping.pass p.keeping.walk_is ready.resting.idle.0;
    });
  };
}
