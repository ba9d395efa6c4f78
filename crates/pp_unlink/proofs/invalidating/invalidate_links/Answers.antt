use Rattle.std.proofs.Common.{◌≡◌, ℕ, ◌+◌, ◌*◌, ◌-◌, ◌<◌, ◌≤◌, suc, List, [], ◌∷◌, ◌++◌, length, sym, ap, ◌∙◌, subst, arith}
use Rattle.pp_base.specs.Passes.{known}
use Rattle.pp_base.specs.Chains.{chain_at}
use Rattle.pp_base.specs.Sources.{side_number}
use Rattle.pp_base.proofs.Chaining.{elem_at}
use Rattle.pp_base.proofs.Reclaiming.{only_retired}
use Rattle.std.specs.Prelude.{vec_capacity}
use Rattle.std.proofs.lemmas.List.{length-append}
use Rattle.pp_link.specs.Links.{target}
use Rattle.pp_unlink.specs.Invalidation.{leads_on}
use Rattle.pp_unlink.proofs.Looking.{Looks, Turn, turn_at, hand_fits, next_fits, looks_none, looks_more, looks_all, aside_of}
use Rattle.pp_unlink.proofs.invalidating.invalidate_links.Goals as goal

pub set_aside-requires : goal.set_aside-requires
set_aside-requires g c = let pass = c.args.pass.now in
    let fits = hand_fits g.S.Shape.SENTINELS g.S.Shape.SIDES pass.seat _ _ _ pass.purse pass.keeping c.requires.oldest.0 in
    let chained = pass.keeping.chained (chain_at (known pass.seat) 0) (0, elem_at (known pass.seat).chains 0 _ c.requires.oldest.0) in
    let records = ap (λ (ns : List ℕ). length ns) chained.records_are in
    let count = pass.keeping.retired_count in let none = c.requires.rest.spent in
    record { room = omega (arith, fits, records, count, none) }

pub loop-link-init : goal.loop-link-init
loop-link-init g c = let pass = c.args.pass.now in let aside = c.set_aside.ensures.purse in (
  subst (λ t. Looks g.S.Shape.SIDES c.args.pool.now.layout 0 pass.seat pass.purse t c.set_aside.new.pass.purse)
      (sym c.set_aside.ensures.seat)
      (looks_none g.S.Shape.SIDES c.args.pool.now.layout pass.seat pass.purse c.set_aside.new.pass.purse c.requires.oldest.0
      (aside.retired_are ∙ (ap (λ (ns : List ℕ). ns ++ c.args.chain.first ∷ [])
      (only_retired g.S.Shape.SENTINELS g.S.Shape.SIDES pass.seat _ _ _ pass.purse pass.keeping c.requires.rest.spent)
      ∙ ap (λ h. (known pass.seat).retired ++ h.first ∷ []) c.requires.oldest.1))
      record { free = aside.free; taken = aside.taken; going = aside.going }),
  c.set_aside.ensures.walk,
  c.SIDES-sides.ensures,
  c.listed-before.ensures ∙ ap (λ (ns : List ℕ). length ns)
      (only_retired g.S.Shape.SENTINELS g.S.Shape.SIDES pass.seat _ _ _ pass.purse pass.keeping c.requires.rest.spent),
)

pub invalidate-found-requires-clause-member : goal.invalidate-found-requires-clause-member
invalidate-found-requires-clause-member g c = let pass = c.args.pass.now in let now = c.loop-link.pass in
    let any = c.requires.oldest.0 in
    let chained = pass.keeping.chained (chain_at (known pass.seat) 0) (0, elem_at (known pass.seat).chains 0 _ any) in
    let inv = c.loop-link.invariant in
    (turn_at g.S.Shape.SIDES c.SIDES-sides.result c.args.pool.now.layout c.loop-link.link c.index-number.result.now
    (side_number c.side_at.result) c.listed-before.result
    pass.seat pass.purse now.seat now.purse inv.2 g.met.S.Shape.sided.0 g.met.S.Shape.sided.1 any chained inv.0 inv.3
    c.listed.result c.listed.ensures c.loop-link-test.true c.index-number.ensures c.side_at.ensures).member

pub set_next_aside-requires-clause-room : goal.set_next_aside-requires-clause-room
set_next_aside-requires-clause-room g c = let pass = c.args.pass.now in let now = c.loop-link.pass in
    let z = c.args.pool.now.layout in let sides = g.S.Shape.SIDES in let any = c.requires.oldest.0 in
    let chained = pass.keeping.chained (chain_at (known pass.seat) 0) (0, elem_at (known pass.seat).chains 0 _ any) in
    let inv = c.loop-link.invariant in let k : ℕ = c.loop-link.link in let n : ℕ = c.index-number.result.now in
    let side : ℕ = side_number c.side_at.result in
    let t : Turn sides k n side pass.seat now.seat = turn_at sides c.SIDES-sides.result z k n side c.listed-before.result
    pass.seat pass.purse now.seat now.purse inv.2 g.met.S.Shape.sided.0 g.met.S.Shape.sided.1 any chained inv.0 inv.3
    c.listed.result c.listed.ensures c.loop-link-test.true c.index-number.ensures c.side_at.ensures in
    let x : ℕ = c.args.chain.frontier in let found : ℕ = c.invalidate-found.result in
    subst (λ p. length p.retired.items + length (leads_on x (target found)) ≤ vec_capacity p.retired) (sym c.invalidate-found.ensures.purse)
    (next_fits g.S.Shape.SENTINELS sides z k n side found x pass.seat pass.purse now.seat _ _ _ now.purse c.invalidate-found.new.pass.seat
    now.keeping any chained inv.0 t c.invalidate-found.ensures.made (ap (λ h. h.frontier) c.requires.oldest.1))

pub loop-link-smaller : goal.loop-link-smaller
loop-link-smaller g c = let pass = c.args.pass.now in let now = c.loop-link.pass in
    let z = c.args.pool.now.layout in let sides = g.S.Shape.SIDES in let any = c.requires.oldest.0 in
    let chained = pass.keeping.chained (chain_at (known pass.seat) 0) (0, elem_at (known pass.seat).chains 0 _ any) in
    let inv = c.loop-link.invariant in let k : ℕ = c.loop-link.link in let n : ℕ = c.index-number.result.now in
    let side : ℕ = side_number c.side_at.result in
    let t : Turn sides k n side pass.seat now.seat = turn_at sides c.SIDES-sides.result z k n side c.listed-before.result
    pass.seat pass.purse now.seat now.purse inv.2 g.met.S.Shape.sided.0 g.met.S.Shape.sided.1 any chained inv.0 inv.3
    c.listed.result c.listed.ensures c.loop-link-test.true c.index-number.ensures c.side_at.ensures in
    let lt = t.lt in omega (arith, lt)

pub loop-link-preserved : goal.loop-link-preserved
loop-link-preserved g c = let pass = c.args.pass.now in let now = c.loop-link.pass in
    let z = c.args.pool.now.layout in let sides = g.S.Shape.SIDES in let any = c.requires.oldest.0 in
    let chained = pass.keeping.chained (chain_at (known pass.seat) 0) (0, elem_at (known pass.seat).chains 0 _ any) in
    let inv = c.loop-link.invariant in let k : ℕ = c.loop-link.link in let n : ℕ = c.index-number.result.now in
    let side : ℕ = side_number c.side_at.result in
    let t : Turn sides k n side pass.seat now.seat = turn_at sides c.SIDES-sides.result z k n side c.listed-before.result
    pass.seat pass.purse now.seat now.purse inv.2 g.met.S.Shape.sided.0 g.met.S.Shape.sided.1 any chained inv.0 inv.3
    c.listed.result c.listed.ensures c.loop-link-test.true c.index-number.ensures c.side_at.ensures in
    let x : ℕ = c.args.chain.frontier in let found : ℕ = c.invalidate-found.result in let aside = c.set_next_aside.ensures.aside in
    let purse = c.invalidate-found.ensures.purse in
    let more : c.loop-link.link + 1 ≡ suc k = omega arith in (
      subst (λ (m : ℕ). Looks sides z m pass.seat pass.purse c.set_next_aside.new.pass.seat c.set_next_aside.new.pass.purse) (sym more)
          (subst (λ s. Looks sides z (suc k) pass.seat pass.purse s c.set_next_aside.new.pass.purse) (sym c.set_next_aside.ensures.seat)
          (looks_more sides z k n side found pass.seat pass.purse now.seat now.purse c.invalidate-found.new.pass.seat
          c.set_next_aside.new.pass.purse any chained inv.0 t.lt t.pair c.invalidate-found.ensures.made
          c.invalidate-found.ensures.same.table_is
          (aside.aside ∙ (ap (λ p. p.retired.items ++ leads_on x (target found)) purse
          ∙ ap (λ h. now.purse.retired.items ++ leads_on h.frontier (target found)) c.requires.oldest.1))
          record {
            free = aside.free.free ∙ ap (λ p. p.free) purse;
            taken = aside.free.taken ∙ ap (λ p. p.taken) purse;
            going = aside.free.going ∙ ap (λ p. p.going) purse;
          })),
      c.set_next_aside.ensures.walk ∙ (c.invalidate-found.ensures.walk ∙ inv.1),
      inv.2,
      inv.3,
    )

pub returns-clause-made : goal.returns-clause-made
returns-clause-made g c = let pass = c.args.pass.now in let now = c.loop-link.pass in
    let z = c.args.pool.now.layout in let sides = g.S.Shape.SIDES in let any = c.requires.oldest.0 in
    let chained = pass.keeping.chained (chain_at (known pass.seat) 0) (0, elem_at (known pass.seat).chains 0 _ any) in
    let inv = c.loop-link.invariant in let k : ℕ = c.loop-link.link in
    looks_all sides z k pass.seat pass.purse now.seat now.purse chained inv.0
    (λ (lt : k < sides * length (aside_of k (chain_at (known pass.seat) 0))).
    let count : c.listed.result - c.listed-before.result ≡ length (aside_of k (chain_at (known pass.seat) 0)) =
    let sum = length-append (known pass.seat).retired (aside_of k (chain_at (known pass.seat) 0)) in
    let all = ap (λ (ns : List ℕ). length ns) inv.0.aside in let a = c.listed.ensures in let b = inv.3 in omega (arith, sum, all, a, b) in
    let more : k < c.SIDES-sides.result * (c.listed.result - c.listed-before.result) =
    subst (λ (m : ℕ). k < m * (c.listed.result - c.listed-before.result)) (sym inv.2) (subst (λ (m : ℕ). k < sides * m) (sym count) lt) in
    let done = c.loop-link-test.false in omega (arith, more, done))
