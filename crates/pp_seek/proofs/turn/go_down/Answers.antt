use Rattle.std.proofs.Common.{Option, sym, ap, ◌∙◌, subst}
use Rattle.pp_link.specs.Links.{bit}
use Rattle.pp_base.specs.Passes.{view}
use Rattle.pp_seek.specs.declared.turn.Next.{Next}
use Rattle.pp_seek.specs.Seeking.{Approaches}
use Rattle.pp_seek.proofs.Going.{lets_go, none_of}
use Rattle.pp_seek.proofs.Coming.{leaf_of, lost_first, down_inner, down_leaf}
use Rattle.pp_seek.specs.Lone.{LoneNear}
use Rattle.pp_seek.proofs.turn.go_down.Goals as goal

pub end_at-requires-clause-leaf : goal.end_at-requires-clause-leaf
end_at-requires-clause-leaf c = leaf_of c.in-Some.next.link ∙ ap bit (sym c.leaf.ensures ∙ c.if-leaf.true)

pub come_on-requires-clause-inner : goal.come_on-requires-clause-inner
come_on-requires-clause-inner c = leaf_of c.in-Some.next.link ∙ ap bit (sym c.leaf.ensures ∙ c.if-leaf.false)

pub returns-in_default-clause-looked : goal.returns-in_default-clause-looked
returns-in_default-clause-looked c = let v = view c.args.pass.now.seat in let v1 = view c.approach.new.pass.seat in
    lost_first c.args.pool.now.layout c.args.spot v v1 (view c.keep_only.new.pass.seat)
    (subst (λ (r : Option Next). Approaches c.args.pool.now.layout c.args.key c.args.spot v v1 r) c.in_default.is
    c.approach.ensures.approaches)
    (lets_go _ v1 (view c.keep_only.new.pass.seat) none_of c.keep_only.ensures.keeps) c.keep_only.ensures.keeps.cleared

pub returns-then-leaf-clause-looked : goal.returns-then-leaf-clause-looked
returns-then-leaf-clause-looked c = let v = view c.args.pass.now.seat in let v1 = view c.approach.new.pass.seat in
    down_leaf c.args.pool.now.layout c.args.key c.args.spot c.in-Some.next v v1 (view c.end_at.new.pass.seat) c.end_at.result
    (subst (λ (r : Option Next). Approaches c.args.pool.now.layout c.args.key c.args.spot v v1 r) c.in-Some.is
    c.approach.ensures.approaches)
    c.end_at.ensures.ended

pub returns-clause-looked : goal.returns-clause-looked
returns-clause-looked c = let v = view c.args.pass.now.seat in let v1 = view c.approach.new.pass.seat in
    down_inner c.args.pool.now.layout c.args.key c.args.spot c.in-Some.next v v1 (view c.come_on.new.pass.seat) c.come_on.result
    (subst (λ (r : Option Next). Approaches c.args.pool.now.layout c.args.key c.args.spot v v1 r) c.in-Some.is
    c.approach.ensures.approaches)
    c.come_on.ensures.came

pub returns-in_default-clause-alone : goal.returns-in_default-clause-alone
returns-in_default-clause-alone c = λ lone. absurd (subst (λ (r : Option Next).
    LoneNear c.args.pool.now.layout c.args.spot (view c.approach.new.pass.seat) r) c.in_default.is (c.approach.ensures.alone lone))

pub returns-then-leaf-clause-alone : goal.returns-then-leaf-clause-alone
returns-then-leaf-clause-alone c = λ lone. c.end_at.ensures.alone (subst (λ (r : Option Next).
    LoneNear c.args.pool.now.layout c.args.spot (view c.approach.new.pass.seat) r) c.in-Some.is (c.approach.ensures.alone lone))

pub returns-clause-alone : goal.returns-clause-alone
returns-clause-alone c = λ lone. c.come_on.ensures.alone (subst (λ (r : Option Next).
    LoneNear c.args.pool.now.layout c.args.spot (view c.approach.new.pass.seat) r) c.in-Some.is (c.approach.ensures.alone lone))
