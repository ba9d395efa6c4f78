use Rattle.std.proofs.Common.{◌≤◌, ◌+◌, length, true, ℕ, Some, None, refl, sym, ap, ◌∙◌, subst}
use Rattle.pp_link.specs.Links.{word_of}
use Rattle.pp_model.specs.declared.Answer.TheVariants.{Said}
use Rattle.pp_model.specs.declared.Reply.TheVariants.{Added}
use Rattle.pp_base.specs.declared.source.Side.TheVariants.{Left}
use Rattle.pp_base.specs.declared.purse.Purse.{Purse}
use Rattle.pp_base.specs.Passes.{known, view, IsAtRest, IsSame}
use Rattle.pp_base.specs.Sources.{source_place}
use Rattle.pp_pool.specs.Taken.{one_fewer_out}
use Rattle.pp_calls.proofs.Purses.{same_share}
use Rattle.pp_lists.specs.Lists.{ListPass}
use Rattle.pp_walk.specs.Effects.{FillsAt}
use Rattle.pp_list.specs.Answers.{Ends}
use Rattle.pp_list.proofs.Arriving.{over_same, ends_as}
use Rattle.pp_list.proofs.Publishing.{call_by_pair, publish_as, sames, rest_aside, is_published, rests_now, put_ends, put_made}
use Rattle.pp_list.proofs.Publishing.{put_again, put_long}
use Rattle.pp_list.proofs.Treading.{lost_as}
use Rattle.std.proofs.Common.{List, true≢false}
use Rattle.pp_model.specs.Calls.{key_of}
use Rattle.pp_rule.specs.declared.views.WalkSlot.{WalkSlot}
use Rattle.pp_lists.specs.Clean.{IsBare}
use Rattle.pp_lists.specs.Lists.{slot_in}
use Rattle.pp_walk.specs.Lone.{words_of}
use Rattle.pp_walk.proofs.Lone.{sees_of}
use Rattle.pp_walk.proofs.LoneStays.{end_stays, anchor_kept}
use Rattle.pp_list.proofs.Alone.{over_turn, aside_same}
use Rattle.pp_walk.proofs.LonePublishes.{published_bare}
use Rattle.pp_list.proofs.turns.put_in.Goals as goal

pub published-requires : goal.published-requires
published-requires c = let z = c.args.pool.now.layout in let old = c.args.pass.now in let mid = c.fill.new.pass in
    let hit = c.publish_behind.new.pass in
    let v = view old.seat in let u = view mid.seat in let x = view hit.seat in let f = c.args.fresh in let pair = c.pair_of-pair.result in
    let i = c.requires.inserts in let g = c.args.going.now in let end = c.args.found.end in
    let place : ℕ = source_place z (known mid.seat) c.args.found.anchor Left in
    let d = publish_as place c.number.result f.number pair.0 pair.1 (word_of end) u x _ _ c.number.ensures c.if-publish_behind.true
    c.publish_behind.ensures.published in
    let both = c.pair_of-pair.ensures.pair i.key i.value i.call_is in
    let is = call_by_pair g.call i.key i.value pair.0 pair.1 i.call_is both.0 both.1 in
    is_published z old.share g f pair.0 pair.1 end place v u x hit.purse c.fill.ensures.writes is d mid.keeping.pass.owned_once
    (subst (λ (p : Purse). length (known mid.seat).owned ≤ length p.free.items + p.taken) (sym c.publish_behind.ensures.purse)
    mid.keeping.counted)

pub end-requires-clause-rest : goal.end-requires-clause-rest
end-requires-clause-rest c = let z = c.args.pool.now.layout in let old = c.args.pass.now in let mid = c.fill.new.pass in
    let hit = c.publish_behind.new.pass in
    let v = view old.seat in let u = view mid.seat in let x = view hit.seat in let f = c.args.fresh in let pair = c.pair_of-pair.result in
    let i = c.requires.inserts in let g = c.args.going.now in let end = c.args.found.end in
    let place : ℕ = source_place z (known mid.seat) c.args.found.anchor Left in
    let d = publish_as place c.number.result f.number pair.0 pair.1 (word_of end) u x _ _ c.number.ensures c.if-publish_behind.true
    c.publish_behind.ensures.published in
    let both = c.pair_of-pair.ensures.pair i.key i.value i.call_is in
    let is = call_by_pair g.call i.key i.value pair.0 pair.1 i.call_is both.0 both.1 in
    let rest = rests_now z old.share g f pair.0 pair.1 end place v u x hit.purse c.fill.ensures.writes is d
    (rest_aside z v u old.purse hit.purse c.fill.ensures.writes (c.publish_behind.ensures.purse ∙ c.fill.ensures.purse) c.requires.rest) in
    subst (λ s. IsAtRest (known s) c.published.new.pass.purse) (sym c.published.ensures.seat)
    (subst (λ (p : Purse). IsAtRest (known hit.seat) p) (sym c.published.ensures.purse) rest)

pub returns-then-publish_behind-clause-part : goal.returns-then-publish_behind-clause-part
returns-then-publish_behind-clause-part c = let z = c.args.pool.now.layout in let old = c.args.pass.now in let mid = c.fill.new.pass in
    let hit = c.publish_behind.new.pass in
    let v = view old.seat in let u = view mid.seat in let x = view hit.seat in let f = c.args.fresh in let pair = c.pair_of-pair.result in
    let i = c.requires.inserts in let g = c.args.going.now in let end = c.args.found.end in
    let place : ℕ = source_place z (known mid.seat) c.args.found.anchor Left in
    let d = publish_as place c.number.result f.number pair.0 pair.1 (word_of end) u x _ _ c.number.ensures c.if-publish_behind.true
    c.publish_behind.ensures.published in
    let both = c.pair_of-pair.ensures.pair i.key i.value i.call_is in
    let is = call_by_pair g.call i.key i.value pair.0 pair.1 i.call_is both.0 both.1 in
    let e = c.end in let new = e.new.pass in let told = c.published.new.pass in
    let share = same_share 0 1 old.seat told.seat _ _ _ _ _ _ _ _ old.keeping told.keeping
    (subst (λ s. IsSame old.seat s) (sym c.published.ensures.seat) (sames c.fill.ensures.same c.publish_behind.ensures.same)) in
    let purse = c.published.ensures.purse ∙ ap (λ (p : Purse). one_fewer_out p) (c.publish_behind.ensures.purse ∙ c.fill.ensures.purse) in
    let same = over_same (record g { struck = true; fresh = None }) e.new.going _ _ e.ensures.over in
    put_ends z old.share g f pair.0 pair.1 end place v u x old.purse c.fill.ensures.writes is d e.new.going (view new.seat) new.purse
    e.result
    (record { head = same.head; call = same.call; races = same.races }) (ap (λ y. y.lost) e.ensures.over)
    (ap (λ y. y.struck) e.ensures.over) c.requires.below
    e.ensures.done
    (ends_as z old.share told.share g.races g.call None (Said Added) x (view new.seat) (one_fewer_out old.purse) told.purse new.purse share
    purse
    (subst (λ s. Ends z told.share g.races g.call None (Said Added) (view s) (view new.seat) told.purse new.purse) c.published.ensures.seat
    e.ensures.ended))

pub returns-then-publish_behind-clause-some_made : goal.returns-then-publish_behind-clause-some_made
returns-then-publish_behind-clause-some_made c = let z = c.args.pool.now.layout in let old = c.args.pass.now in let mid = c.fill.new.pass in
    let hit = c.publish_behind.new.pass in
    let v = view old.seat in let u = view mid.seat in let x = view hit.seat in let f = c.args.fresh in let pair = c.pair_of-pair.result in
    let i = c.requires.inserts in let g = c.args.going.now in let end = c.args.found.end in
    let place : ℕ = source_place z (known mid.seat) c.args.found.anchor Left in
    let d = publish_as place c.number.result f.number pair.0 pair.1 (word_of end) u x _ _ c.number.ensures c.if-publish_behind.true
    c.publish_behind.ensures.published in
    let both = c.pair_of-pair.ensures.pair i.key i.value i.call_is in
    let is = call_by_pair g.call i.key i.value pair.0 pair.1 i.call_is both.0 both.1 in
    let e = c.end in let new = e.new.pass in let told = c.published.new.pass in
    let ended = subst (λ s. Ends z told.share g.races g.call None (Said Added) (view s) (view new.seat) told.purse new.purse)
    c.published.ensures.seat
    e.ensures.ended in
    put_made z old.share g f pair.0 pair.1 end place v u x old.purse c.fill.ensures.writes is d (view new.seat) ended.calm.stepped

pub begin_again-requires-clause-rest : goal.begin_again-requires-clause-rest
begin_again-requires-clause-rest c = let z = c.args.pool.now.layout in let old = c.args.pass.now in let mid = c.fill.new.pass in
    let hit = c.publish_behind.new.pass in
    let v = view old.seat in let u = view mid.seat in let x = view hit.seat in let f = c.args.fresh in let pair = c.pair_of-pair.result in
    let i = c.requires.inserts in let g = c.args.going.now in let end = c.args.found.end in
    let place : ℕ = source_place z (known mid.seat) c.args.found.anchor Left in
    let d = publish_as place c.number.result f.number pair.0 pair.1 (word_of end) u x _ _ c.number.ensures c.if-publish_behind.false
    c.publish_behind.ensures.published in
    subst (λ (q : ListPass). IsAtRest q hit.purse) (sym (d.missed refl).2)
    (rest_aside z v u old.purse hit.purse c.fill.ensures.writes (c.publish_behind.ensures.purse ∙ c.fill.ensures.purse) c.requires.rest)

pub returns-clause-part : goal.returns-clause-part
returns-clause-part c = let z = c.args.pool.now.layout in let old = c.args.pass.now in let mid = c.fill.new.pass in
    let hit = c.publish_behind.new.pass in
    let v = view old.seat in let u = view mid.seat in let x = view hit.seat in let f = c.args.fresh in let pair = c.pair_of-pair.result in
    let i = c.requires.inserts in let g = c.args.going.now in let end = c.args.found.end in
    let place : ℕ = source_place z (known mid.seat) c.args.found.anchor Left in
    let d = publish_as place c.number.result f.number pair.0 pair.1 (word_of end) u x _ _ c.number.ensures c.if-publish_behind.false
    c.publish_behind.ensures.published in
    let new = c.begin_again.new.pass in
    let share = same_share 0 1 old.seat hit.seat _ _ _ _ _ _ _ _ old.keeping hit.keeping
    (sames c.fill.ensures.same c.publish_behind.ensures.same) in
    put_again z old.share g f pair.0 pair.1 end place v u x old.purse (sym c.requires.fits.sizes) c.fill.ensures.writes
    (subst (λ (p : Purse). FillsAt (known mid.seat) p f.number pair.0 pair.1 end) c.fill.ensures.purse c.fill.ensures.fills) d
    c.begin_again.new.going (view new.seat) new.purse c.begin_again.result
    (lost_as z old.share hit.share (record g { fresh = Some f }) c.begin_again.new.going x (view new.seat) old.purse hit.purse new.purse
    c.begin_again.result share (c.publish_behind.ensures.purse ∙ c.fill.ensures.purse) c.begin_again.ensures.part)

pub returns-clause-some_made : goal.returns-clause-some_made
returns-clause-some_made c = let z = c.args.pool.now.layout in let old = c.args.pass.now in let mid = c.fill.new.pass in
    let hit = c.publish_behind.new.pass in
    let v = view old.seat in let u = view mid.seat in let x = view hit.seat in let f = c.args.fresh in let pair = c.pair_of-pair.result in
    let i = c.requires.inserts in let g = c.args.going.now in let end = c.args.found.end in
    let place : ℕ = source_place z (known mid.seat) c.args.found.anchor Left in
    let d = publish_as place c.number.result f.number pair.0 pair.1 (word_of end) u x _ _ c.number.ensures c.if-publish_behind.false
    c.publish_behind.ensures.published in
    put_long z old.share g f pair.0 pair.1 end place v u x old.purse (sym c.requires.fits.sizes) c.fill.ensures.writes
    (subst (λ (p : Purse). FillsAt (known mid.seat) p f.number pair.0 pair.1 end) c.fill.ensures.purse c.fill.ensures.fills) d
    (view c.begin_again.new.pass.seat) c.begin_again.ensures.part.stepped

pub returns-then-publish_behind-clause-alone : goal.returns-then-publish_behind-clause-alone
returns-then-publish_behind-clause-alone c = λ lone. let z = c.args.pool.now.layout in let old = c.args.pass.now in
    let mid = c.fill.new.pass in let hit = c.publish_behind.new.pass in
    let v = view old.seat in let u = view mid.seat in let x = view hit.seat in let f = c.args.fresh in let pair = c.pair_of-pair.result in
    let g = c.args.going.now in let end = c.args.found.end in let w = c.fill.ensures.writes in let k = key_of g.call in
    let sv = sees_of z old.seat _ _ _ _ old.keeping old.run c.requires.fits.sizes in
    let size_u = c.fill.ensures.same.sizes ∙ c.requires.fits.sizes in
    let su = sees_of z mid.seat _ _ _ _ mid.keeping mid.run size_u in
    let slots = λ (j : ℕ). ap (λ (l : List WalkSlot). slot_in l j) w.walk in let may = c.requires.may.0 in
    let l = end_stays z v u sv su lone.0.one c.args.found k may.anchored may.plain (aside_same z v u sv su lone.0.one w.aside) slots lone in
    let place : ℕ = source_place z (known mid.seat) c.args.found.anchor Left in
    let d = publish_as place c.number.result f.number pair.0 pair.1 (word_of end) u x _ _ c.number.ensures c.if-publish_behind.true
    c.publish_behind.ensures.published in
    let sx = sees_of z hit.seat _ _ _ _ hit.keeping hit.run (c.publish_behind.ensures.same.sizes ∙ size_u) in
    let bare = published_bare z c.args.found f.number pair.0 pair.1 mid.purse u x su sx l k
    (anchor_kept z k (known old.seat) (known mid.seat) slots c.args.found.anchor may.anchored) may.plain c.fill.ensures.fills d in
    let e = c.end in
    over_turn z g e.new.going (view e.new.pass.seat) _ e.result (ap (λ y. y.lost) e.ensures.over) e.ensures.done
    (e.ensures.alone lone.0.one (subst (λ s. IsBare z (words_of z (view s))) (sym c.published.ensures.seat) bare))

pub returns-clause-alone : goal.returns-clause-alone
returns-clause-alone c = λ lone. let z = c.args.pool.now.layout in let old = c.args.pass.now in let mid = c.fill.new.pass in
    let hit = c.publish_behind.new.pass in
    let v = view old.seat in let u = view mid.seat in let x = view hit.seat in let f = c.args.fresh in let pair = c.pair_of-pair.result in
    let g = c.args.going.now in let end = c.args.found.end in let w = c.fill.ensures.writes in let k = key_of g.call in
    let sv = sees_of z old.seat _ _ _ _ old.keeping old.run c.requires.fits.sizes in
    let size_u = c.fill.ensures.same.sizes ∙ c.requires.fits.sizes in
    let su = sees_of z mid.seat _ _ _ _ mid.keeping mid.run size_u in
    let slots = λ (j : ℕ). ap (λ (l : List WalkSlot). slot_in l j) w.walk in let may = c.requires.may.0 in
    let l = end_stays z v u sv su lone.0.one c.args.found k may.anchored may.plain (aside_same z v u sv su lone.0.one w.aside) slots lone in
    absurd (true≢false (sym (c.publish_behind.ensures.alone l.1) ∙ c.if-publish_behind.false))
