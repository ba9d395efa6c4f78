use Rattle.std.proofs.Common.{true, refl, sym, ap, ◌∙◌}
use Rattle.std.proofs.Math.Bool.{false≢true}
use Rattle.pp_model.specs.declared.Answer.TheVariants.{Said}
use Rattle.pp_model.specs.declared.Reply.TheVariants.{Added}
use Rattle.pp_pool.specs.declared.fresh.Fresh.{Fresh}
use Rattle.pp_base.specs.Passes.{known, view}
use Rattle.pp_base.specs.declared.purse.Purse.{Purse}
use Rattle.pp_calls.proofs.Purses.{same_share}
use Rattle.pp_tree_calls.proofs.Lasting.{missed_shared}
use Rattle.pp_tree_calls.proofs.Arriving.{ends_as}
use Rattle.pp_tree_calls.proofs.Exchanged.{end_part}
use Rattle.pp_tree_calls.proofs.Publishing.{may_publish, insert_changes, same_fresh, call_by_pair, next_by_pair, spent_out}
use Rattle.pp_tree_calls.proofs.Publishing.{with_records, publish_goes, publish_out, missed_turned, added_turned}
use Rattle.pp_tree_calls.proofs.Alone.{over_turn}
use Rattle.pp_tree_calls.proofs.turns.put_in.Goals as goal

pub publish_turn-requires-clause-leaf : goal.publish_turn-requires-clause-leaf
publish_turn-requires-clause-leaf c = c.requires.under.1.1.carries.out.0

pub publish_turn-requires-clause-inner : goal.publish_turn-requires-clause-inner
publish_turn-requires-clause-inner c = c.requires.under.1.1.carries.out.1

pub publish_turn-requires-clause-apart : goal.publish_turn-requires-clause-apart
publish_turn-requires-clause-apart c = c.requires.under.1.1.carries.out.2

pub publish_turn-requires-clause-may : goal.publish_turn-requires-clause-may
publish_turn-requires-clause-may c = let x = c.requires.under in let old = c.args.pass.now in
    let m = may_publish c.args.pool.now.layout (with_records c.args.going.now c.args.records) c.args.sought x.0 (view old.seat)
    c.requires.at
    x.1.1.stands in let pair = c.pair_of-key.result in let both = c.pair_of-key.ensures.pair m.key m.value m.call in
    next_by_pair (known old.seat) c.args.sought m.key m.value pair.0 pair.1 both.0 both.1 m.next

pub end-requires-clause-out : goal.end-requires-clause-out
end-requires-clause-out c = let old = c.args.pass.now in let mid = c.publish_turn.new.pass in
    spent_out (known mid.seat) old.purse mid.purse c.args.going.now.records c.requires.bare (c.publish_turn.ensures.spent c.in-Done.is)
    c.requires.under.1.1.carries.out.3

pub end-requires-clause-none : goal.end-requires-clause-none
end-requires-clause-none c = λ looks. c.requires.bare

pub returns-in-Done-clause-turned : goal.returns-in-Done-clause-turned
returns-in-Done-clause-turned c = let z = c.args.pool.now.layout in let old = c.args.pass.now in let mid = c.publish_turn.new.pass in
    let g = c.args.going.now in let s = c.args.sought in let f = c.args.records in let x = c.requires.under in
    let m = may_publish z (with_records g f) s x.0 (view old.seat) c.requires.at x.1.1.stands in let pair = c.pair_of-key.result in
    let both = c.pair_of-key.ensures.pair m.key m.value m.call in
    let call = call_by_pair g.call m.key m.value pair.0 pair.1 m.call both.0 both.1 in let e = c.end in let new = e.new.pass in
    let free = ap (λ (p : Purse). p.free) (c.publish_turn.ensures.spent c.in-Done.is) in
    let share = same_share 5 2 old.seat mid.seat _ _ _ _ _ _ _ _ old.keeping mid.keeping c.publish_turn.ensures.same in
    let ended = ends_as z old.share mid.share g.races g.call g.records (Said Added) (view mid.seat) (view new.seat) mid.purse mid.purse
    new.purse share refl e.ensures.ended in
    added_turned z old.share g s f (view old.seat) (view mid.seat) old.purse c.requires.at pair.0 pair.1 call c.requires.bare
    c.in-Done.ensures.published mid.purse free c.publish_turn.ensures.same.sizes e.new.going (view new.seat) new.purse e.result
    ended.calm.stepped ended.calm.unplaced
    (end_part z old.share (record g { struck = true }) e.new.going (Said Added) (view mid.seat) (view new.seat) mid.purse new.purse e.result
    e.ensures.over e.ensures.done refl ended)

pub lose_again-requires-clause-out : goal.lose_again-requires-clause-out
lose_again-requires-clause-out c = let z = c.args.pool.now.layout in let old = c.args.pass.now in let mid = c.publish_turn.new.pass in
    let f = c.args.records in let f' : Fresh × Fresh = (c.in-Changed.leaf, c.in-Changed.inner) in
    let missed = c.in-Changed.ensures.published in
    publish_out z old.share c.args.going.now c.args.sought f (view old.seat) (view mid.seat) old.purse c.requires.at f'
    (same_fresh f' f missed.1 missed.2) missed.0 mid.purse (c.publish_turn.ensures.kept (λ done. absurd cc))
    c.requires.under.1.1.carries.out

pub lose_again-requires-clause-none : goal.lose_again-requires-clause-none
lose_again-requires-clause-none c = let x = c.requires.under in let g = with_records c.args.going.now c.args.records in
    let m = may_publish c.args.pool.now.layout g c.args.sought x.0 (view c.args.pass.now.seat) c.requires.at x.1.1.stands in
    λ looks. absurd (false≢true (sym (insert_changes c.args.pool.now.layout g c.args.sought x.0 (view c.args.pass.now.seat) m) ∙ looks))

pub lose_again-requires-clause-unstruck : goal.lose_again-requires-clause-unstruck
lose_again-requires-clause-unstruck c = let x = c.requires.under in let g = with_records c.args.going.now c.args.records in
    let m = may_publish c.args.pool.now.layout g c.args.sought x.0 (view c.args.pass.now.seat) c.requires.at x.1.1.stands in λ looks. m.off

pub lose_again-requires-clause-goes : goal.lose_again-requires-clause-goes
lose_again-requires-clause-goes c = let x = c.requires.under in let g = c.args.going.now in let f = c.args.records in
    let old = c.args.pass.now in let mid = c.publish_turn.new.pass in let z = c.args.pool.now.layout in
    let m = may_publish z (with_records g f) c.args.sought x.0 (view old.seat) c.requires.at x.1.1.stands in
    publish_goes z old.share g c.args.sought f (view old.seat) (view mid.seat) old.purse c.requires.at
    (c.in-Changed.leaf, c.in-Changed.inner)
    c.in-Changed.ensures.published.0 m.goes

pub returns-in-Changed-clause-turned : goal.returns-in-Changed-clause-turned
returns-in-Changed-clause-turned c = let z = c.args.pool.now.layout in let old = c.args.pass.now in let mid = c.publish_turn.new.pass in
    let g = c.args.going.now in let s = c.args.sought in let f = c.args.records in let x = c.requires.under in
    let m = may_publish z (with_records g f) s x.0 (view old.seat) c.requires.at x.1.1.stands in let l = c.lose_again in
    let new = l.new.pass in
    let f' : Fresh × Fresh = (c.in-Changed.leaf, c.in-Changed.inner) in let missed = c.in-Changed.ensures.published in
    missed_turned z old.share g s f (view old.seat) (view mid.seat) old.purse c.requires.at f' (same_fresh f' f missed.1 missed.2) missed.0
    mid.purse (c.publish_turn.ensures.kept (λ done. absurd cc)) l.new.going (view new.seat) new.purse l.result
    (missed_shared z old.share mid.share (with_records g f') l.new.going (view mid.seat) (view new.seat) mid.purse new.purse l.result
    (same_share 5 2 old.seat mid.seat _ _ _ _ _ _ _ _ old.keeping mid.keeping c.publish_turn.ensures.same) l.ensures.part) m.off

pub returns-in-Done-clause-alone : goal.returns-in-Done-clause-alone
returns-in-Done-clause-alone c = λ l. let z = c.args.pool.now.layout in let g = c.args.going.now in let e = c.end in
    over_turn z g e.new.going (view e.new.pass.seat) _ e.result (ap (λ x. x.lost) e.ensures.over) e.ensures.done
    (e.ensures.alone l.lone.one (c.publish_turn.ensures.alone l).1)

pub returns-in-Changed-clause-alone : goal.returns-in-Changed-clause-alone
returns-in-Changed-clause-alone c = λ l. absurd (let e = c.in-Changed.is in let d = (c.publish_turn.ensures.alone l).0 in cc)
