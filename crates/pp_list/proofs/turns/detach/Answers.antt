use Rattle.std.proofs.Common.{Bool, refl, sym, ap, ◌∙◌, subst}
use Rattle.pp_link.specs.Links.{word_of}
use Rattle.pp_base.specs.Passes.{known, view}
use Rattle.pp_calls.proofs.Purses.{same_share}
use Rattle.pp_calls.proofs.Growing.{stepped_made}
use Rattle.pp_calls.proofs.Remaining.{stands_made}
use Rattle.pp_walk.specs.Effects.{DetachesSo}
use Rattle.pp_list.specs.Turned.{HasLost}
use Rattle.pp_list.proofs.Arriving.{holds_first}
use Rattle.pp_turns.proofs.Resting.{four_chains}
use Rattle.pp_list.proofs.Trying.{detached_on, detach_lost, at_detach, unstruck_at, missed_holds, tried_long}
use Rattle.pp_list.proofs.Treading.{turned_by, lost_as}
use Rattle.pp_list.specs.declared.going.Next.{Next}
use Rattle.pp_list.specs.Lone.{LoneAt}
use Rattle.pp_list.proofs.turns.detach.Goals as goal

pub returns-then-detach_run-clause-turned : goal.returns-then-detach_run-clause-turned
returns-then-detach_run-clause-turned c = let z = c.args.pool.now.layout in let g = c.args.going.now in let old = c.args.pass.now in
    let mid = c.detach_run.new.pass in let x = c.requires.under in let f = c.args.found in
    detached_on z old.share g f (view old.seat) (view mid.seat) old.purse mid.purse c.requires.at x.0 x.1.0 x.1.1
    (sym c.requires.fits.sizes) (four_chains (known old.seat) old.purse old.keeping.chains old.keeping.few) c.detach_run.ensures.same.sizes
    c.detach_run.ensures.rest c.detach_run.ensures.purse
    (subst (λ (b : Bool). DetachesSo z f.anchor (word_of f.first) (word_of f.end) (view old.seat) (view mid.seat) b) c.if-detach_run.true
    c.detach_run.ensures.detaches)

pub begin_again-requires-clause-own : goal.begin_again-requires-clause-own
begin_again-requires-clause-own c = let z = c.args.pool.now.layout in let g = c.args.going.now in let old = c.args.pass.now in
    let mid = c.detach_run.new.pass in let x = c.requires.under in let f = c.args.found in let v = view old.seat in let u = view mid.seat in
    let d = subst (λ (b : Bool). DetachesSo z f.anchor (word_of f.first) (word_of f.end) v u b) c.if-detach_run.false
    c.detach_run.ensures.detaches in
    let k = at_detach z old.share g f v old.purse c.requires.at x.0 x.1.0 x.1.1 in (
      ap (λ o. o.going) d.own ∙ k.1.0.going,
      ap (λ o. o.call) d.own ∙ k.1.0.own_call,
      missed_holds z f.anchor (word_of f.first) (word_of f.end) v u
          (four_chains (known old.seat) old.purse old.keeping.chains old.keeping.few) d (holds_first v.known f k.1.1.0.chain),
    )

pub returns-clause-turned : goal.returns-clause-turned
returns-clause-turned c = let z = c.args.pool.now.layout in let g = c.args.going.now in let old = c.args.pass.now in
    let mid = c.detach_run.new.pass in let new = c.begin_again.new.pass in let x = c.requires.under in let f = c.args.found in
    let v = view old.seat in let u = view mid.seat in let w = view new.seat in
    let d = subst (λ (b : Bool). DetachesSo z f.anchor (word_of f.first) (word_of f.end) v u b) c.if-detach_run.false
    c.detach_run.ensures.detaches in let t = (d.missed refl).1.1 in
    let share = same_share 0 1 old.seat mid.seat _ _ _ _ _ _ _ _ old.keeping mid.keeping c.detach_run.ensures.same in
    turned_by z old.share (HasLost z old.share g u mid.purse) g c.begin_again.new.going v u w old.purse mid.purse new.purse
    c.begin_again.result (stepped_made t.steps v u t.did) (tried_long z v u t (ap (λ s. s.passes) (sym c.requires.fits.sizes)))
    (λ own s. stands_made t.steps v u t.did own s) (unstruck_at z old.share g f v old.purse c.requires.at x.0 x.1.0 x.1.1)
    (detach_lost z old.share g f v u old.purse mid.purse c.requires.at (sym c.requires.fits.sizes) c.detach_run.ensures.same.sizes
    c.detach_run.ensures.purse d)
    (lost_as z old.share mid.share g c.begin_again.new.going u w mid.purse mid.purse new.purse c.begin_again.result share refl
    c.begin_again.ensures.part) c.begin_again.ensures.early

pub returns-then-detach_run-clause-alone : goal.returns-then-detach_run-clause-alone
returns-then-detach_run-clause-alone c = λ lone. absurd (subst (λ (n : Next). LoneAt c.args.pool.now.layout n (view c.args.pass.now.seat))
    c.requires.at lone)

pub returns-clause-alone : goal.returns-clause-alone
returns-clause-alone c = λ lone. absurd
    (subst (λ (n : Next). LoneAt c.args.pool.now.layout n (view c.args.pass.now.seat)) c.requires.at lone)
