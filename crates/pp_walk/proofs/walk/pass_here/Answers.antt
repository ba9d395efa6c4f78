-- The record has a smaller key: it is gathered, or it is the anchor.
use Rattle.std.proofs.Common.{refl, ◌≡◌, ◌≢◌, ◌<◌, ◌%◌, ◌^◌, ℕ, sym, ap, ◌∙◌, subst, arith}
use Rattle.pp_link.specs.Links.{bit, flag_bit, invalid_bit}
use Rattle.pp_rule.specs.Views.{slot}
use Rattle.pp_base.specs.Passes.{known, view}
use Rattle.pp_lists.proofs.Walking.{real}
use Rattle.pp_model.specs.Calls.{key_of}
use Rattle.pp_walk.proofs.Here.{pass_broken, pass_gathers, pass_anchors}
use Rattle.pp_walk.proofs.walk.pass_here.Goals as goal

pub returns-then-invalid-clause-came : goal.returns-then-invalid-clause-came
returns-then-invalid-clause-came c = let bad : invalid_bit c.pass_by-link.result ≡ 1 =
    sym c.unpacked.ensures.invalid ∙ ap bit (sym c.invalid.ensures ∙ c.if-invalid.true) in
    pass_broken c.args.pool.now.layout c.args.walk c.args.word (view c.args.pass.now.seat) c.requires.holds _ c.pass_by-link.result
    (view c.pass_by-link.new.pass.seat) (view c.rest.new.pass.seat) c.pass_by-link.ensures.passed bad c.rest.ensures.cleared
    c.rest.ensures.idles refl

pub returns-then-link-ne0-clause-came : goal.returns-then-link-ne0-clause-came
returns-then-link-ne0-clause-came c = let ok : invalid_bit c.pass_by-link.result ≡ 0 =
    sym c.unpacked.ensures.invalid ∙ ap bit (sym c.invalid.ensures ∙ c.if-invalid.false) in
    let marked : c.pass_by-link.result % 2 ≢ 0 = c.if-link-ne0.true in let flag : flag_bit c.pass_by-link.result ≡ 1 = omega arith in
    let pass = c.args.pass.now.keeping.pass in let h = c.requires.holds in let small : c.args.key < 2 ^ 64 = omega arith in
    pass_gathers c.args.pool.now.layout c.args.walk c.args.word (view c.args.pass.now.seat) h _ c.pass_by-link.result
    (view c.pass_by-link.new.pass.seat) pass.five c.pass_by-link.ensures.passed
    (real (known c.args.pass.now.seat).sizes (slot (known c.args.pass.now.seat) c.args.word).named (pass.held c.args.word h.low h.held))
    (subst (λ (k : ℕ). k < 2 ^ 64) c.requires.key small) ok flag c.requires.changes

pub returns-clause-came : goal.returns-clause-came
returns-clause-came c = let ok : invalid_bit c.pass_by-link.result ≡ 0 =
    sym c.unpacked.ensures.invalid ∙ ap bit (sym c.invalid.ensures ∙ c.if-invalid.false) in
    let h = c.requires.holds in let small : c.args.key < 2 ^ 64 = omega arith in
    pass_anchors c.args.pool.now.layout c.args.walk c.args.word (view c.args.pass.now.seat) h _ c.pass_by-link.result
    (view c.pass_by-link.new.pass.seat) (view c.clear_but.new.pass.seat) c.pass_by-link.ensures.passed ok c.if-link-ne0.false
    (subst (λ (k : ℕ). k < key_of c.args.walk.call) c.requires.key c.requires.low)
    (subst (λ (k : ℕ). k < 2 ^ 64) c.requires.key small) c.clear_but.ensures.cleared c.clear_but.ensures.idles
