use Rattle.pp_base.specs.Passes.{view}
use Rattle.pp_list.proofs.Values.{idles_read, idles_both}
use Rattle.pp_list.proofs.stored.stored.Goals as goal

pub returns-clause-idles : goal.returns-clause-idles
returns-clause-idles c = let r = c.value.ensures.read in
    idles_both (view c.args.pass.now.seat) (view r.middle) (view c.value.new.pass.seat) (idles_read _ _ _ _ _ _ r.first)
    (idles_read _ _ _ _ _ _ r.second)
