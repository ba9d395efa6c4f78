use Rattle.std.proofs.Common.{◌≡◌, ℕ, inl, inr, sym, ap, ◌∙◌, subst}
use Rattle.pp_link.specs.Links.{bit, target, invalid_bit}
use Rattle.pp_base.specs.Passes.{known, view}
use Rattle.pp_base.specs.Made.{Announced}
use Rattle.pp_hazard.specs.Protection.{Protects, FindsNil, FindsOther}
use Rattle.pp_hazard.proofs.Trying.{free_where_0, finds_nil, finds_invalid, protects, finds_other, others_held, others_lost}
use Rattle.pp_hazard.proofs.protection.try_protect.Goals as goal

pub returns-then-invalid-clause-answered : goal.returns-then-invalid-clause-answered
returns-then-invalid-clause-answered g c = let S = g.S.Shape in let pass = c.args.pass.now in
    inl (finds_invalid S.SIDES c.args.pool.now.layout S.frozen S.forget c.args.source c.args.side c.args.word (view pass.seat)
    pass.keeping.pass.five c.requires.readable
    (view c.load_link-first.new.pass.seat) c.load_link-first.result c.load_link-first.ensures.loaded
    (sym c.unpacked-link.ensures.invalid ∙ ap bit (sym c.invalid.ensures ∙ c.if-invalid.true)))

pub returns-then-number-eq0-clause-answered : goal.returns-then-number-eq0-clause-answered
returns-then-number-eq0-clause-answered g c = let S = g.S.Shape in let pass = c.args.pass.now in
    subst (FindsNil c.args.pool.now.layout S.frozen S.forget c.args.source c.args.side c.args.word (view pass.seat)
    (view c.load_link-first.new.pass.seat))
    (sym c.unpacked-link.ensures.word)
    (finds_nil S.SIDES c.args.pool.now.layout S.frozen S.forget c.args.source c.args.side c.args.word (view pass.seat)
    pass.keeping.pass.five c.requires.readable
    (view c.load_link-first.new.pass.seat) c.load_link-first.result c.load_link-first.ensures.loaded
    (sym c.unpacked-link.ensures.invalid ∙ ap bit (sym c.invalid.ensures ∙ c.if-invalid.false))
    (sym c.unpacked-link.ensures.number ∙ (sym c.number.ensures ∙ c.if-number-eq0.true)))

pub returns-then-second-first-clause-answered : goal.returns-then-second-first-clause-answered
returns-then-second-first-clause-answered g c = let S = g.S.Shape in let pass = c.args.pass.now in
    let is : c.number-2.result ≡ target c.load_link-first.result = c.number-2.ensures ∙ c.unpacked-link.ensures.number in
    subst (Protects c.args.pool.now.layout S.frozen S.forget c.args.source c.args.side c.args.word (view pass.seat)
    (view c.confirm-second.new.pass.seat))
    (sym c.unpacked-link.ensures.word)
    (protects S.SIDES c.args.pool.now.layout S.frozen S.forget c.args.source c.args.side c.args.word (view pass.seat)
    pass.keeping.pass.five c.requires.readable
    (view c.load_link-first.new.pass.seat) c.load_link-first.result c.load_link-first.ensures.loaded
    (view c.announce.new.pass.seat) (view c.confirm-second.new.pass.seat) c.confirm-second.result
    (free_where_0 _ (known pass.seat) c.args.word pass.keeping.pass c.requires.word c.requires.clear) c.requires.fits.sizes
    (sym c.unpacked-link.ensures.invalid ∙ ap bit (sym c.invalid.ensures ∙ c.if-invalid.false))
    (λ e. c.if-number-eq0.false (c.number.ensures ∙ (c.unpacked-link.ensures.number ∙ e)))
    (subst (λ (n : ℕ). Announced c.args.pool.now.layout c.args.word n c.load_link-first.new.pass.seat
    c.announce.new.pass.seat) is c.announce.ensures.made)
    c.confirm-second.ensures.confirmed c.if-second-first.true)

pub returns-then-second-first-clause-others : goal.returns-then-second-first-clause-others
returns-then-second-first-clause-others g c = let S = g.S.Shape in let pass = c.args.pass.now in
    others_held S.SIDES c.args.pool.now.layout S.frozen S.forget c.args.source c.args.side c.args.word (view pass.seat)
    pass.keeping.pass.five c.requires.readable
    (view c.confirm-second.new.pass.seat) _ (returns-then-second-first-clause-answered g c)

pub returns-then-invalid-2-clause-answered : goal.returns-then-invalid-2-clause-answered
returns-then-invalid-2-clause-answered g c = let S = g.S.Shape in let pass = c.args.pass.now in
    inr (
      c.confirm-second.result,
      (
        finds_other S.SIDES c.args.pool.now.layout S.frozen S.forget c.args.source c.args.side c.args.word (view pass.seat)
            pass.keeping.pass.five c.requires.readable
            (view c.load_link-first.new.pass.seat) c.load_link-first.result c.load_link-first.ensures.loaded
            (view c.announce.new.pass.seat) (view c.confirm-second.new.pass.seat) c.confirm-second.result
            (free_where_0 _ (known pass.seat) c.args.word pass.keeping.pass c.requires.word c.requires.clear) c.requires.fits.sizes
            (sym c.unpacked-link.ensures.invalid ∙ ap bit (sym c.invalid.ensures ∙ c.if-invalid.false))
            (λ e. c.if-number-eq0.false (c.number.ensures ∙ (c.unpacked-link.ensures.number ∙ e)))
            (subst (λ (n : ℕ). Announced c.args.pool.now.layout c.args.word n c.load_link-first.new.pass.seat c.announce.new.pass.seat)
            (c.number-2.ensures ∙ c.unpacked-link.ensures.number) c.announce.ensures.made)
            c.confirm-second.ensures.confirmed (view c.clear.new.pass.seat) c.if-second-first.false c.clear.ensures.made,
        sym c.unpacked-found.ensures.invalid ∙ ap bit (sym c.invalid-2.ensures ∙ c.if-invalid-2.true),
      ),
    )

pub returns-then-invalid-2-clause-others : goal.returns-then-invalid-2-clause-others
returns-then-invalid-2-clause-others g c = let S = g.S.Shape in let pass = c.args.pass.now in
    others_lost S.SIDES c.args.pool.now.layout S.frozen S.forget c.args.source c.args.side c.args.word (view pass.seat)
    pass.keeping.pass.five c.requires.readable
    (free_where_0 _ (known pass.seat) c.args.word pass.keeping.pass c.requires.word c.requires.clear)
    (view c.clear.new.pass.seat) c.confirm-second.result
    (finds_other S.SIDES c.args.pool.now.layout S.frozen S.forget c.args.source c.args.side c.args.word (view pass.seat)
    pass.keeping.pass.five c.requires.readable
    (view c.load_link-first.new.pass.seat) c.load_link-first.result c.load_link-first.ensures.loaded
    (view c.announce.new.pass.seat) (view c.confirm-second.new.pass.seat) c.confirm-second.result
    (free_where_0 _ (known pass.seat) c.args.word pass.keeping.pass c.requires.word c.requires.clear) c.requires.fits.sizes
    (sym c.unpacked-link.ensures.invalid ∙ ap bit (sym c.invalid.ensures ∙ c.if-invalid.false))
    (λ e. c.if-number-eq0.false (c.number.ensures ∙ (c.unpacked-link.ensures.number ∙ e)))
    (subst (λ (n : ℕ). Announced c.args.pool.now.layout c.args.word n c.load_link-first.new.pass.seat c.announce.new.pass.seat)
    (c.number-2.ensures ∙ c.unpacked-link.ensures.number) c.announce.ensures.made)
    c.confirm-second.ensures.confirmed (view c.clear.new.pass.seat) c.if-second-first.false c.clear.ensures.made)

pub returns-clause-answered : goal.returns-clause-answered
returns-clause-answered g c = let S = g.S.Shape in let pass = c.args.pass.now in
    let found = c.unpacked-found.ensures in (
      subst (FindsOther c.args.pool.now.layout S.frozen S.forget c.args.source c.args.side c.args.word (view pass.seat)
          (view c.clear.new.pass.seat))
          (sym found.word) (finds_other S.SIDES c.args.pool.now.layout S.frozen S.forget c.args.source c.args.side c.args.word
          (view pass.seat)
          pass.keeping.pass.five c.requires.readable
          (view c.load_link-first.new.pass.seat) c.load_link-first.result c.load_link-first.ensures.loaded
          (view c.announce.new.pass.seat) (view c.confirm-second.new.pass.seat) c.confirm-second.result
          (free_where_0 _ (known pass.seat) c.args.word pass.keeping.pass c.requires.word c.requires.clear) c.requires.fits.sizes
          (sym c.unpacked-link.ensures.invalid ∙ ap bit (sym c.invalid.ensures ∙ c.if-invalid.false))
          (λ e. c.if-number-eq0.false (c.number.ensures ∙ (c.unpacked-link.ensures.number ∙ e)))
          (subst (λ (n : ℕ). Announced c.args.pool.now.layout c.args.word n c.load_link-first.new.pass.seat c.announce.new.pass.seat)
          (c.number-2.ensures ∙ c.unpacked-link.ensures.number) c.announce.ensures.made)
          c.confirm-second.ensures.confirmed (view c.clear.new.pass.seat) c.if-second-first.false c.clear.ensures.made),
      ap invalid_bit found.word ∙ (sym found.invalid ∙ ap bit (sym c.invalid-2.ensures ∙ c.if-invalid-2.false)),
    )

pub returns-clause-others : goal.returns-clause-others
returns-clause-others g c = let S = g.S.Shape in let pass = c.args.pass.now in
    others_lost S.SIDES c.args.pool.now.layout S.frozen S.forget c.args.source c.args.side c.args.word (view pass.seat)
    pass.keeping.pass.five c.requires.readable
    (free_where_0 _ (known pass.seat) c.args.word pass.keeping.pass c.requires.word c.requires.clear)
    (view c.clear.new.pass.seat) _ (returns-clause-answered g c).0
