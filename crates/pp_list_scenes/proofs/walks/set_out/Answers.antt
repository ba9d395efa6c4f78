use Rattle.std.proofs.Common.{sym, ap, ◌∙◌}
use Rattle.pp_base.specs.Passes.{known}
use Rattle.pp_lists.specs.Walks.{bucket}
use Rattle.pp_buckets.proofs.Beginning.{all_empty}
use Rattle.pp_list_scenes.proofs.walks.set_out.Goals as goal

pub returns : goal.returns
returns c = let z = c.args.table.now.pool.layout in let p = c.args.pass.now in let ready = c.requires.ready in record {
  walking = record {
    fits = ready.member.fits;
    walk = c.begin.ensures.walk z (known p.seat) c.bucket.ensures.low (c.bucket.ensures.home ∙ ap (bucket z.heads) (sym c.requires.key))
        (all_empty (known p.seat).sizes (known p.seat) p.walk p.keeping.pass p.keeping.walk_is ready.resting.idle.0);
  };
}
