use Rattle.pp_pool.proofs.Words.{one_record}
use Rattle.pp_pool.proofs.opening.add_sentinel.Goals as goal

pub returns-clause-words : goal.returns-clause-words
returns-clause-words g c = one_record g.S.Shape.first_field c.args.words.now.items c.enter.new.list.items c.enter-2.new.list.items
    c.enter-3.new.list.items c.enter-4.new.list.items c.enter-5.new.list.items c.args.number c.opening.result c.opening-2.result
    c.opening-3.result c.opening-4.result c.opening-5.result c.enter.ensures.items c.enter-2.ensures.items c.enter-3.ensures.items
    c.enter-4.ensures.items c.enter-5.ensures.items c.opening.ensures c.opening-2.ensures c.opening-3.ensures c.opening-4.ensures
    c.opening-5.ensures
