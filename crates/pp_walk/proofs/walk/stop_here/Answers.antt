-- The record has no smaller key: it is gathered, or the walk ends there.
use Rattle.std.proofs.Common.{refl, ◌≡◌, ◌≢◌, ◌<◌, ◌≤◌, ◌%◌, ◌^◌, ℕ, sym, ap, ◌∙◌, subst, arith}
use Rattle.pp_link.specs.Links.{bit, flag_bit, invalid_bit}
use Rattle.pp_rule.specs.Views.{slot}
use Rattle.pp_base.specs.Passes.{known, view}
use Rattle.pp_lists.proofs.Walking.{real}
use Rattle.pp_model.specs.Calls.{key_of}
use Rattle.pp_model.specs.declared.Call.{Call}
use Rattle.pp_walk.proofs.Here.{stop_broken, stop_gathers, stop_stops}
use Rattle.pp_walk.proofs.walk.stop_here.Goals as goal

pub stop_at-link-requires-clause-high : goal.stop_at-link-requires-clause-high
stop_at-link-requires-clause-high c = subst (λ (k : ℕ). key_of (known c.args.pass.now.seat).own.call ≤ k) c.requires.key
    (subst (λ (a : Call). key_of a ≤ c.args.key) (sym c.requires.holds.call_is) c.requires.high)

pub returns-then-invalid-clause-came : goal.returns-then-invalid-clause-came
returns-then-invalid-clause-came c = let bad : invalid_bit c.stop_at-link.result ≡ 1 =
    sym c.unpacked.ensures.invalid ∙ ap bit (sym c.invalid.ensures ∙ c.if-invalid.true) in
    stop_broken c.args.pool.now.layout c.args.walk c.args.word (view c.args.pass.now.seat) c.requires.holds _ c.stop_at-link.result
    (view c.stop_at-link.new.pass.seat) (view c.rest.new.pass.seat) c.stop_at-link.ensures.stopped bad c.rest.ensures.cleared
    c.rest.ensures.idles refl

pub returns-then-link-ne0-clause-came : goal.returns-then-link-ne0-clause-came
returns-then-link-ne0-clause-came c = let ok : invalid_bit c.stop_at-link.result ≡ 0 =
    sym c.unpacked.ensures.invalid ∙ ap bit (sym c.invalid.ensures ∙ c.if-invalid.false) in
    let marked : c.stop_at-link.result % 2 ≢ 0 = c.if-link-ne0.true in let flag : flag_bit c.stop_at-link.result ≡ 1 = omega arith in
    let pass = c.args.pass.now.keeping.pass in let h = c.requires.holds in let small : c.args.key < 2 ^ 64 = omega arith in
    stop_gathers c.args.pool.now.layout c.args.walk c.args.word (view c.args.pass.now.seat) h _ c.stop_at-link.result
    (view c.stop_at-link.new.pass.seat) pass.five c.stop_at-link.ensures.stopped
    (real (known c.args.pass.now.seat).sizes (slot (known c.args.pass.now.seat) c.args.word).named (pass.held c.args.word h.low h.held))
    (subst (λ (k : ℕ). k < 2 ^ 64) c.requires.key small) ok flag c.requires.changes

pub returns-clause-came : goal.returns-clause-came
returns-clause-came c = let ok : invalid_bit c.stop_at-link.result ≡ 0 =
    sym c.unpacked.ensures.invalid ∙ ap bit (sym c.invalid.ensures ∙ c.if-invalid.false) in
    let pass = c.args.pass.now.keeping.pass in let h = c.requires.holds in
    stop_stops c.args.pool.now.layout c.args.walk c.args.word (view c.args.pass.now.seat) h _ c.args.key c.stop_at-link.result
    (view c.stop_at-link.new.pass.seat) c.stop_at-link.ensures.stopped
    (real (known c.args.pass.now.seat).sizes (slot (known c.args.pass.now.seat) c.args.word).named (pass.held c.args.word h.low h.held))
    c.requires.key c.requires.high ok c.if-link-ne0.false
