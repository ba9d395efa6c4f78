use Rattle.std.proofs.Common.{Bool, refl, sym, ◌∙◌, subst}
use Rattle.pp_link.specs.Links.{word_of}
use Rattle.pp_base.specs.declared.purse.Purse.{Purse}
use Rattle.pp_base.specs.Passes.{known, view, IsAtRest}
use Rattle.pp_rule.specs.Orders.{clear_step}
use Rattle.pp_rule.specs.Steps.{clearing}
use Rattle.pp_rule.proofs.Made.{known_after}
use Rattle.pp_lists.specs.Lists.{ListPass, list_forget}
use Rattle.pp_walk.specs.Effects.{DetachesSo}
use Rattle.pp_turns.proofs.Resting.{four_chains}
use Rattle.pp_list.proofs.Unlinking.{tries_hit, tries_miss}
use Rattle.std.proofs.Common.{true≢false}
use Rattle.pp_base.specs.declared.source.Side.TheVariants.{Left}
use Rattle.pp_lists.specs.Lists.{list_chain, list_frozen}
use Rattle.pp_unlink.specs.declared.unlinking.Unlink.{Unlink}
use Rattle.pp_unlink.specs.Unlinking.{Unlinks}
use Rattle.pp_walk.proofs.Lone.{sees_of}
use Rattle.pp_list.proofs.LoneDetaches.{cleared_bare}
use Rattle.pp_list.proofs.turns.try_detach.Goals as goal

pub returns-clause-tries : goal.returns-clause-tries
returns-clause-tries c = let z = c.args.pool.now.layout in let old = c.args.pass.now in let mid = c.detach_run.new.pass in
    let new = c.clear_after.new.pass in let m = c.args.marked in
    tries_hit z m m.word _ (view old.seat) (view mid.seat) (view new.seat) old.purse mid.purse new.purse (sym c.requires.fits.sizes)
    (four_chains (known old.seat) old.purse old.keeping.chains old.keeping.few)
    (subst (λ (b : Bool). DetachesSo z m.anchor (word_of m.first) (word_of m.next) (view old.seat)
    (view mid.seat) b) c.if-not-detach_run.false
    c.detach_run.ensures.detaches) c.clear_after.ensures.made c.clear_after.ensures.gone c.detach_run.ensures.purse
    c.clear_after.ensures.purse

pub returns-clause-rest : goal.returns-clause-rest
returns-clause-rest c = let mid = c.detach_run.new.pass in let new = c.clear_after.new.pass in let r = c.detach_run.ensures.rest in
    subst (λ (p : Purse). IsAtRest (known new.seat) p) (sym c.clear_after.ensures.purse)
    (subst (λ (q : ListPass). IsAtRest q mid.purse)
    (sym (known_after clear_step _ 0 0 _ _ (clearing list_forget c.args.marked.word (known mid.seat)) (view mid.seat) (view new.seat)
    c.clear_after.ensures.made)) record { scan = r.scan; spent = r.spent; frontier = r.frontier })

pub returns-then-not-detach_run-clause-tries : goal.returns-then-not-detach_run-clause-tries
returns-then-not-detach_run-clause-tries c = let z = c.args.pool.now.layout in let old = c.args.pass.now in
    let mid = c.detach_run.new.pass in
    let m = c.args.marked in
    tries_miss z m (view old.seat) (view mid.seat) old.purse mid.purse (sym c.requires.fits.sizes)
    (four_chains (known old.seat) old.purse old.keeping.chains old.keeping.few)
    (subst (λ (b : Bool). DetachesSo z m.anchor (word_of m.first) (word_of m.next) (view old.seat)
    (view mid.seat) b) c.if-not-detach_run.true
    c.detach_run.ensures.detaches) c.detach_run.ensures.purse

pub returns-clause-alone : goal.returns-clause-alone
returns-clause-alone c = λ lone. let z = c.args.pool.now.layout in let old = c.args.pass.now in let mid = c.detach_run.new.pass in
    let new = c.clear_after.new.pass in let m = c.args.marked in let v = view old.seat in let u = view mid.seat in
    let d = subst (λ (b : Bool). DetachesSo z m.anchor (word_of m.first) (word_of m.next) v u b) c.if-not-detach_run.false
    c.detach_run.ensures.detaches in
    let sizes = c.detach_run.ensures.same.sizes ∙ c.requires.fits.sizes in (
      refl,
      cleared_bare z m v u (sees_of z old.seat _ _ _ _ old.keeping old.run c.requires.fits.sizes)
          (sees_of z mid.seat _ _ _ _ mid.keeping mid.run sizes)
          (four_chains (known old.seat) old.purse old.keeping.chains old.keeping.few) c.requires.may.1.detaches lone
          (subst (λ (a : Unlink). Unlinks 1 z list_frozen list_chain m.anchor Left (word_of m.first) (word_of m.next) v u a)
          (d.hit refl).0 d.unlinks)
          m.word _ (view new.seat) (sees_of z new.seat _ _ _ _ new.keeping new.run (c.clear_after.ensures.same.sizes ∙ sizes))
          c.clear_after.ensures.made c.clear_after.ensures.gone,
    )

pub returns-then-not-detach_run-clause-alone : goal.returns-then-not-detach_run-clause-alone
returns-then-not-detach_run-clause-alone c = λ lone. absurd
    (true≢false (sym (c.detach_run.ensures.alone lone.1) ∙ c.if-not-detach_run.true))
