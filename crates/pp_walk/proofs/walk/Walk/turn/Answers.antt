-- Whole turns.
use Rattle.std.proofs.Common.{◌≡◌, ℕ, nat_eq, sym, ap, ◌∙◌, subst, arith}
use Rattle.pp_link.specs.Links.{bit, invalid_bit}
use Rattle.pp_base.specs.Passes.{known, view}
use Rattle.pp_base.proofs.Steady.{named_at}
use Rattle.pp_walk.specs.declared.walk.Walk.{Walk}
use Rattle.pp_walk.specs.declared.walk.Found.{Found}
use Rattle.pp_walk.specs.declared.walk.Turn.TheVariants.{On, Lost}
use Rattle.pp_walk.specs.Turns.{TurnsTo, Arrives}
use Rattle.pp_walk.proofs.Whole.{turn_moved, turn_broken, turn_anchors, turn_gathers, turn_ends, turn_nil, back_invalid, walks_u}
use Rattle.pp_walk.proofs.Whole.{gathered_u, leads_u}
use Rattle.pp_walk.proofs.Finding.{odd_is}
use Rattle.pp_walk.proofs.Lone.{lone_turns, sees_of}
use Rattle.pp_walk.proofs.walk.Walk.turn.Goals as goal

pub returns-then-number-eq0-clause-turned : goal.returns-then-number-eq0-clause-turned
returns-then-number-eq0-clause-turned c = let z = c.args.pool.now.layout in let v = view c.args.pass.now.seat in
    let u = view c.load_first-first.new.pass.seat in let first = c.load_first-first.result in
    let none = sym c.unpacked-link.ensures.invalid ∙ ap bit (sym c.invalid.ensures ∙ c.if-invalid.false) in
    let nil = sym c.unpacked-link.ensures.number ∙ (sym c.number.ensures ∙ c.if-number-eq0.true) in
    subst (λ (f : Found). Arrives z c.args.self.now f v u) (sym c.found.ensures)
    (turn_nil z c.args.self.now first v u c.requires.walk c.load_first-first.ensures.loads (none, nil))

pub returns-then-invalid-clause-turned : goal.returns-then-invalid-clause-turned
returns-then-invalid-clause-turned c = let z = c.args.pool.now.layout in let v = view c.args.pass.now.seat in
    let u = view c.load_first-first.new.pass.seat in let first = c.load_first-first.result in let w = view c.rest.new.pass.seat in
    let bad : invalid_bit first ≡ 1 = sym c.unpacked-link.ensures.invalid ∙ ap bit (sym c.invalid.ensures ∙ c.if-invalid.true) in
    subst (λ (x : Walk). TurnsTo z c.args.self.now x v w Lost) (sym c.go_back.ensures)
    (back_invalid z c.args.self.now first v u c.requires.walk c.load_first-first.ensures.loads (λ nil. let ok = nil.0 in omega arith) w bad
    c.rest.ensures.cleared c.rest.ensures.idles)

pub come_on-requires-clause-walks : goal.come_on-requires-clause-walks
come_on-requires-clause-walks c = walks_u c.args.pool.now.layout c.args.self.now c.load_first-first.result (view c.args.pass.now.seat)
    (view c.load_first-first.new.pass.seat) c.requires.walk c.load_first-first.ensures.loads
    (λ nil. c.if-number-eq0.false (c.number.ensures ∙ (c.unpacked-link.ensures.number ∙ nil.1)))

pub come_on-requires-clause-gathered : goal.come_on-requires-clause-gathered
come_on-requires-clause-gathered c = gathered_u c.args.pool.now.layout c.args.self.now c.load_first-first.result
    (view c.args.pass.now.seat)
    (view c.load_first-first.new.pass.seat) c.requires.walk c.load_first-first.ensures.loads
    (λ nil. c.if-number-eq0.false (c.number.ensures ∙ (c.unpacked-link.ensures.number ∙ nil.1)))

pub come_on-requires-clause-leads : goal.come_on-requires-clause-leads
come_on-requires-clause-leads c = leads_u c.args.pool.now.layout c.args.self.now c.load_first-first.result (view c.args.pass.now.seat)
    (view c.load_first-first.new.pass.seat) c.requires.walk c.load_first-first.ensures.loads
    (λ nil. c.if-number-eq0.false (c.number.ensures ∙ (c.unpacked-link.ensures.number ∙ nil.1)))

pub returns-in-Moved-clause-turned : goal.returns-in-Moved-clause-turned
returns-in-Moved-clause-turned c = turn_moved c.args.pool.now.layout c.args.self.now c.load_first-first.result (view c.args.pass.now.seat)
    (view c.load_first-first.new.pass.seat) c.requires.walk c.load_first-first.ensures.loads
    (λ nil. c.if-number-eq0.false (c.number.ensures ∙ (c.unpacked-link.ensures.number ∙ nil.1)))
    (view c.come_on.new.pass.seat) c.in-Moved.ensures.on

pub returns-in-Broken-clause-turned : goal.returns-in-Broken-clause-turned
returns-in-Broken-clause-turned c = let z = c.args.pool.now.layout in let v = view c.args.pass.now.seat in
    let w = view c.come_on.new.pass.seat in
    subst (λ (x : Walk). TurnsTo z c.args.self.now x v w Lost) (sym c.go_back-in-Broken.ensures)
    (turn_broken z c.args.self.now c.load_first-first.result v (view c.load_first-first.new.pass.seat) c.requires.walk
    c.load_first-first.ensures.loads (λ nil. c.if-number-eq0.false (c.number.ensures ∙ (c.unpacked-link.ensures.number ∙ nil.1))) w
    c.in-Broken.ensures.on)

pub returns-in-Anchors-clause-turned : goal.returns-in-Anchors-clause-turned
returns-in-Anchors-clause-turned c = let z = c.args.pool.now.layout in let v = view c.args.pass.now.seat in
    let w = view c.come_on.new.pass.seat in
    subst (λ (x : Walk). TurnsTo z c.args.self.now x v w On) (sym c.anchor_at.ensures)
    (turn_anchors z c.args.self.now c.load_first-first.result v (view c.load_first-first.new.pass.seat) c.requires.walk
    c.load_first-first.ensures.loads (λ nil. c.if-number-eq0.false (c.number.ensures ∙ (c.unpacked-link.ensures.number ∙ nil.1)))
    c.in-Anchors.word w c.in-Anchors.ensures.on)

pub returns-in-Gathers-clause-turned : goal.returns-in-Gathers-clause-turned
returns-in-Gathers-clause-turned c = let z = c.args.pool.now.layout in let v = view c.args.pass.now.seat in
    let w = view c.come_on.new.pass.seat in
    subst (λ (x : Walk). TurnsTo z c.args.self.now x v w On) (sym c.gather_at.ensures)
    (turn_gathers z c.args.self.now c.load_first-first.result v (view c.load_first-first.new.pass.seat) c.requires.walk
    c.load_first-first.ensures.loads (λ nil. c.if-number-eq0.false (c.number.ensures ∙ (c.unpacked-link.ensures.number ∙ nil.1)))
    c.in-Gathers.word w c.in-Gathers.ensures.on)

pub returns-in-Ends-clause-turned : goal.returns-in-Ends-clause-turned
returns-in-Ends-clause-turned c = let z = c.args.pool.now.layout in let v = view c.args.pass.now.seat in let pass = c.come_on.new.pass in
    let w = view pass.seat in let s = c.in-Ends.ensures.on.1.1.1.stopped in
    let named = named_at (known pass.seat).walk pass.walk c.in-Ends.word pass.keeping.walk_is in
    subst (λ (f : Found). Arrives z c.args.self.now f v w) (sym c.found-in-Ends.ensures)
    (turn_ends z c.args.self.now c.load_first-first.result v (view c.load_first-first.new.pass.seat) c.requires.walk
    c.load_first-first.ensures.loads (λ nil. c.if-number-eq0.false (c.number.ensures ∙ (c.unpacked-link.ensures.number ∙ nil.1)))
    c.in-Ends.word c.in-Ends.key c.in-Ends.left _ _ _ w c.in-Ends.ensures.on
    named (let low = (pass.keeping.pass.held c.in-Ends.word s.low s.held).1 in let most = pass.keeping.pass.within.records in omega arith)
    (ap (λ (k : ℕ). nat_eq c.in-Ends.key k) c.key_for.ensures) (odd_is c.in-Ends.left))

pub returns-then-number-eq0-clause-alone : goal.returns-then-number-eq0-clause-alone
returns-then-number-eq0-clause-alone c = λ lone. let z = c.args.pool.now.layout in let old = c.args.pass.now in
    let new = c.load_first-first.new.pass in
    lone_turns z c.args.self.now c.args.self.now (view old.seat) (view new.seat) _
    (sees_of z old.seat _ _ _ _ old.keeping old.run c.requires.fits.sizes)
    (λ sizes. sees_of z new.seat _ _ _ _ new.keeping new.run sizes) c.requires.walk (returns-then-number-eq0-clause-turned c) lone

pub returns-then-invalid-clause-alone : goal.returns-then-invalid-clause-alone
returns-then-invalid-clause-alone c = λ lone. let z = c.args.pool.now.layout in let old = c.args.pass.now in let new = c.rest.new.pass in
    lone_turns z c.args.self.now _ (view old.seat) (view new.seat) _
    (sees_of z old.seat _ _ _ _ old.keeping old.run c.requires.fits.sizes)
    (λ sizes. sees_of z new.seat _ _ _ _ new.keeping new.run sizes) c.requires.walk (returns-then-invalid-clause-turned c) lone

pub returns-in-Moved-clause-alone : goal.returns-in-Moved-clause-alone
returns-in-Moved-clause-alone c = λ lone. let z = c.args.pool.now.layout in let old = c.args.pass.now in let new = c.come_on.new.pass in
    lone_turns z c.args.self.now _ (view old.seat) (view new.seat) _
    (sees_of z old.seat _ _ _ _ old.keeping old.run c.requires.fits.sizes)
    (λ sizes. sees_of z new.seat _ _ _ _ new.keeping new.run sizes) c.requires.walk (returns-in-Moved-clause-turned c) lone

pub returns-in-Broken-clause-alone : goal.returns-in-Broken-clause-alone
returns-in-Broken-clause-alone c = λ lone. let z = c.args.pool.now.layout in let old = c.args.pass.now in let new = c.come_on.new.pass in
    lone_turns z c.args.self.now _ (view old.seat) (view new.seat) _
    (sees_of z old.seat _ _ _ _ old.keeping old.run c.requires.fits.sizes)
    (λ sizes. sees_of z new.seat _ _ _ _ new.keeping new.run sizes) c.requires.walk (returns-in-Broken-clause-turned c) lone

pub returns-in-Anchors-clause-alone : goal.returns-in-Anchors-clause-alone
returns-in-Anchors-clause-alone c = λ lone. let z = c.args.pool.now.layout in let old = c.args.pass.now in let new = c.come_on.new.pass in
    lone_turns z c.args.self.now _ (view old.seat) (view new.seat) _
    (sees_of z old.seat _ _ _ _ old.keeping old.run c.requires.fits.sizes)
    (λ sizes. sees_of z new.seat _ _ _ _ new.keeping new.run sizes) c.requires.walk (returns-in-Anchors-clause-turned c) lone

pub returns-in-Gathers-clause-alone : goal.returns-in-Gathers-clause-alone
returns-in-Gathers-clause-alone c = λ lone. let z = c.args.pool.now.layout in let old = c.args.pass.now in let new = c.come_on.new.pass in
    lone_turns z c.args.self.now _ (view old.seat) (view new.seat) _
    (sees_of z old.seat _ _ _ _ old.keeping old.run c.requires.fits.sizes)
    (λ sizes. sees_of z new.seat _ _ _ _ new.keeping new.run sizes) c.requires.walk (returns-in-Gathers-clause-turned c) lone

pub returns-in-Ends-clause-alone : goal.returns-in-Ends-clause-alone
returns-in-Ends-clause-alone c = λ lone. let z = c.args.pool.now.layout in let old = c.args.pass.now in let new = c.come_on.new.pass in
    lone_turns z c.args.self.now c.args.self.now (view old.seat) (view new.seat) _
    (sees_of z old.seat _ _ _ _ old.keeping old.run c.requires.fits.sizes)
    (λ sizes. sees_of z new.seat _ _ _ _ new.keeping new.run sizes) c.requires.walk (returns-in-Ends-clause-turned c) lone
