-- The record's key was read, and a get comes on by it.
use Rattle.std.proofs.Common.{◌≡◌, ◌<◌, ◌≤◌, ◌^◌, ℕ, refl, sym, ap, ◌∙◌, subst, arith}
use Rattle.pp_link.specs.Links.{bit, invalid_bit}
use Rattle.pp_model.specs.Calls.{key_of}
use Rattle.pp_rule.specs.Views.{slot}
use Rattle.pp_base.specs.Passes.{known, view}
use Rattle.pp_lists.specs.Lists.{ListPass}
use Rattle.pp_lists.proofs.Walking.{real}
use Rattle.pp_walk.specs.declared.walk.Came.TheVariants.{Broken, Anchors, Ends}
use Rattle.pp_walk.specs.Parts.{Holds}
use Rattle.pp_walk.proofs.Here.{here_after, read_quiet, read_known, look_broken, look_anchors, end_broken, end_stops}
use Rattle.pp_walk.proofs.walk.look_here.Goals as goal

pub end-link-requires-clause-going : goal.end-link-requires-clause-going
end-link-requires-clause-going c = (subst (λ (q : ListPass). Holds c.args.pool.now.layout q c.args.walk.call c.args.walk.anchor
    c.args.word)
    (sym (read_known c.args.word 0 c.read-key.result _ (view c.args.pass.now.seat)
    (view c.read-key.new.pass.seat) c.read-key.ensures.read))
    c.requires.holds).going

pub end-link-requires-clause-held : goal.end-link-requires-clause-held
end-link-requires-clause-held c = (subst (λ (q : ListPass). Holds c.args.pool.now.layout q c.args.walk.call c.args.walk.anchor c.args.word)
    (sym (read_known c.args.word 0 c.read-key.result _ (view c.args.pass.now.seat)
    (view c.read-key.new.pass.seat) c.read-key.ensures.read))
    c.requires.holds).held

pub end-link-requires-clause-at : goal.end-link-requires-clause-at
end-link-requires-clause-at c = (subst (λ (q : ListPass). Holds c.args.pool.now.layout q c.args.walk.call c.args.walk.anchor c.args.word)
    (sym (read_known c.args.word 0 c.read-key.result _ (view c.args.pass.now.seat)
    (view c.read-key.new.pass.seat) c.read-key.ensures.read))
    c.requires.holds).stands

pub end-link-requires-clause-high : goal.end-link-requires-clause-high
end-link-requires-clause-high c = let v = view c.args.pass.now.seat in let v1 = view c.read-key.new.pass.seat in
    let r = c.read-key.ensures.read in
    let is = read_known c.args.word 0 c.read-key.result _ v v1 r in
    let here : c.read-key.result ≡ (slot v.known c.args.word).key = r.key refl in
    let high : c.key_for.result ≤ c.read-key.result = c.if-key-key_for.false in
    subst (λ (q : ListPass). key_of q.own.call ≤ (slot q c.args.word).key) (sym is)
    (subst (λ (k : ℕ). key_of v.known.own.call ≤ k) here
    (subst (λ (k : ℕ). k ≤ c.read-key.result) (c.key_for.ensures ∙ ap key_of (sym c.requires.holds.call_is)) high))

pub returns-then-invalid-clause-came : goal.returns-then-invalid-clause-came
returns-then-invalid-clause-came c = let z = c.args.pool.now.layout in let v = view c.args.pass.now.seat in
    let v1 = view c.read-key.new.pass.seat in
    let u = view c.rest.new.pass.seat in let r = c.read-key.ensures.read in let is = read_known c.args.word 0 c.read-key.result _ v v1 r in
    let bad : invalid_bit c.load_link-link.result ≡ 1 = sym c.unpacked.ensures.invalid ∙ ap bit
    (sym c.invalid.ensures ∙ c.if-invalid.true) in
    here_after z c.args.walk c.args.word v v1 u Broken is (read_quiet c.args.word 0 c.read-key.result _ v v1 r)
    (look_broken z c.args.walk c.args.word v1
    (subst (λ (q : ListPass). Holds z q c.args.walk.call c.args.walk.anchor c.args.word)
    (sym is) c.requires.holds) _ c.load_link-link.result
    (view c.load_link-link.new.pass.seat) u c.read-key.new.pass.keeping.pass.five c.load_link-link.ensures.loaded bad
    c.rest.ensures.cleared
    c.rest.ensures.idles refl)

pub returns-then-key-key_for-clause-came : goal.returns-then-key-key_for-clause-came
returns-then-key-key_for-clause-came c = let z = c.args.pool.now.layout in let v = view c.args.pass.now.seat in
    let v1 = view c.read-key.new.pass.seat in let u = view c.clear_but.new.pass.seat in let r = c.read-key.ensures.read in
    let is = read_known c.args.word 0 c.read-key.result _ v v1 r in
    let ok : invalid_bit c.load_link-link.result ≡ 0 = sym c.unpacked.ensures.invalid ∙ ap bit
    (sym c.invalid.ensures ∙ c.if-invalid.false) in
    let here : c.read-key.result ≡ (slot v1.known c.args.word).key = r.key refl ∙ ap (λ (q : ListPass). (slot q c.args.word).key)
    (sym is) in
    let less : c.read-key.result < c.key_for.result = c.if-key-key_for.true in let small : c.read-key.result < 2 ^ 64 = omega arith in
    here_after z c.args.walk c.args.word v v1 u (Anchors c.args.word) is (read_quiet c.args.word 0 c.read-key.result _ v v1 r)
    (look_anchors z c.args.walk c.args.word v1
    (subst (λ (q : ListPass). Holds z q c.args.walk.call c.args.walk.anchor c.args.word)
    (sym is) c.requires.holds) _ c.load_link-link.result
    (view c.load_link-link.new.pass.seat) u c.read-key.new.pass.keeping.pass.five c.load_link-link.ensures.loaded ok c.requires.looks
    (subst (λ (k : ℕ). k < key_of c.args.walk.call) here (subst (λ (k : ℕ). c.read-key.result < k) c.key_for.ensures less))
    (subst (λ (k : ℕ). k < 2 ^ 64) here small) c.clear_but.ensures.cleared c.clear_but.ensures.idles)

pub returns-then-invalid-2-clause-came : goal.returns-then-invalid-2-clause-came
returns-then-invalid-2-clause-came c = let z = c.args.pool.now.layout in let v = view c.args.pass.now.seat in
    let v1 = view c.read-key.new.pass.seat in let u = view c.rest-then-invalid-2.new.pass.seat in let r = c.read-key.ensures.read in
    let is = read_known c.args.word 0 c.read-key.result _ v v1 r in
    let bad : invalid_bit c.end-link.result ≡ 1 = sym c.unpacked-2.ensures.invalid ∙ ap bit
    (sym c.invalid-2.ensures ∙ c.if-invalid-2.true) in
    here_after z c.args.walk c.args.word v v1 u Broken is (read_quiet c.args.word 0 c.read-key.result _ v v1 r)
    (end_broken z c.args.walk c.args.word v1
    (subst (λ (q : ListPass). Holds z q c.args.walk.call c.args.walk.anchor c.args.word) (sym is) c.requires.holds) _ c.end-link.result
    (view c.end-link.new.pass.seat) u c.end-link.ensures.ended bad c.rest-then-invalid-2.ensures.cleared
    c.rest-then-invalid-2.ensures.idles refl)

pub returns-clause-came : goal.returns-clause-came
returns-clause-came c = let z = c.args.pool.now.layout in let v = view c.args.pass.now.seat in
    let v1 = view c.read-key.new.pass.seat in let u = view c.end-link.new.pass.seat in let r = c.read-key.ensures.read in
    let is = read_known c.args.word 0 c.read-key.result _ v v1 r in
    let ok : invalid_bit c.end-link.result ≡ 0 = sym c.unpacked-2.ensures.invalid ∙ ap bit
    (sym c.invalid-2.ensures ∙ c.if-invalid-2.false) in
    let here : c.read-key.result ≡ (slot v1.known c.args.word).key = r.key refl ∙ ap (λ (q : ListPass). (slot q c.args.word).key)
    (sym is) in
    let high : c.key_for.result ≤ c.read-key.result = c.if-key-key_for.false in
    let h1 = subst (λ (q : ListPass). Holds z q c.args.walk.call c.args.walk.anchor c.args.word) (sym is) c.requires.holds in
    let pass = c.read-key.new.pass.keeping.pass in
    here_after z c.args.walk c.args.word v v1 u (Ends c.args.word c.read-key.result c.end-link.result) is
    (read_quiet c.args.word 0 c.read-key.result _ v v1 r)
    (end_stops z c.args.walk c.args.word v1 h1 _ c.read-key.result c.end-link.result u c.end-link.ensures.ended
    (real (known c.read-key.new.pass.seat).sizes (slot v1.known c.args.word).named (pass.held c.args.word h1.low h1.held)) here
    (subst (λ (k : ℕ). k ≤ c.read-key.result) c.key_for.ensures high) ok c.requires.looks)
