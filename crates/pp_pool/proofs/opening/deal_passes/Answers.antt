use Rattle.std.proofs.Common.{ℕ, ◌≡◌, ◌+◌, ◌-◌, ◌≤◌, ◌<◌, arith, [], ◌∷◌, refl, sym, ap, ◌∙◌, subst, length}
use Rattle.pp_link.specs.declared.layout.Sizes.{Sizes}
use Rattle.pp_rule.specs.Opening.{share_of, start_of}
use Rattle.pp_pool.specs.PurseRooms.{IsRoom}
use Rattle.pp_pool.specs.Opened.{IsNewPass}
use Rattle.pp_pool.proofs.Dealt.{share_within, share_as, new_pass_of}
use Rattle.pp_pool.proofs.Words.{long}
use Rattle.pp_pool.proofs.Dealing.{each_next, each_none, room_popped, has_more, last_seat, deals_first, deals_next}
use Rattle.pp_pool.proofs.opening.deal_passes.Goals as goal

pub loop-number-init : goal.loop-number-init
loop-number-init g c = let S = g.S.Shape in let z : Sizes = c.args.pool.now.layout in
    let table = c.args.pool.now.table.shared.table_id in (
      deals_first S.SENTINELS S.fresh table z (c.SENTINELS-first.result + 1) c.args.rooms.items c.args.seat c.requires.table
          c.requires.first (ap (λ k. k + 1) c.SENTINELS-first.ensures) c.requires.rooms c.requires.enough,
      ap length c.requires.none,
      c.requires.room,
      each_none c.args.passes.now.items (IsNewPass table z) c.requires.none,
    )

pub deal_seat-dealt-requires-clause-more : goal.deal_seat-dealt-requires-clause-more
deal_seat-dealt-requires-clause-more g c = let S = g.S.Shape in let z : Sizes = c.args.pool.now.layout in
    let same : c.sizes-sizes.result.passes ≡ z.passes = ap (λ (y : Sizes). y.passes) c.sizes-sizes.ensures.same in
    let below = c.loop-number-test.true in
    has_more S.SENTINELS S.fresh _ z c.loop-number.number c.loop-number.first c.loop-number.rooms.items c.loop-number.seat
    c.loop-number.invariant.0 (omega arith)

pub make_pass-pass-requires-clause-room : goal.make_pass-pass-requires-clause-room
make_pass-pass-requires-clause-room g c = let z : Sizes = c.args.pool.now.layout in
    subst (λ (y : Sizes). IsRoom y.records c.unwrap.result) (sym c.sizes-sizes.ensures.same)
    (room_popped z.records c.loop-number.rooms.items c.pop.new.self.items c.pop.result c.unwrap.result c.pop.ensures.items
    c.unwrap.ensures c.loop-number.invariant.0.rooms_are).1

pub overflow_add-first-in-loop-number : goal.overflow_add-first-in-loop-number
overflow_add-first-in-loop-number g c = let S = g.S.Shape in let z : Sizes = c.args.pool.now.layout in
    let n : ℕ = c.loop-number.number in
    let within = c.sizes-sizes.ensures.within in
    let passes : c.sizes-sizes.result.passes ≡ z.passes = ap (λ (y : Sizes). y.passes) c.sizes-sizes.ensures.same in
    let below = c.loop-number-test.true in
    let high : start_of S.SENTINELS z n + share_of S.SENTINELS z n ≤ z.records + 1 =
    (share_within S.SENTINELS z n within c.requires.sentinels (omega arith)).1 in
    let records : z.records ≤ 262144 = within.records in
    let begins : c.loop-number.first ≡ start_of S.SENTINELS z n = c.loop-number.invariant.0.first_is in
    let share : c.make_pass-pass.result.share ≡ share_of S.SENTINELS z n = share_as S.SENTINELS c.sizes-sizes.result z n
    c.make_pass-pass.result.share c.sizes-sizes.ensures.same c.make_pass-pass.ensures.made.share_is in omega arith

pub loop-number-preserved : goal.loop-number-preserved
loop-number-preserved g c = let S = g.S.Shape in let z : Sizes = c.args.pool.now.layout in
    let table = c.args.pool.now.table.shared.table_id in
    let n : ℕ = c.loop-number.number in
    let d = c.loop-number.invariant.0 in
    let passes : c.sizes-sizes.result.passes ≡ z.passes = ap (λ (y : Sizes). y.passes) c.sizes-sizes.ensures.same in
    let below = c.loop-number-test.true in
    let more : n + 1 < z.passes = omega arith in
    let share : c.make_pass-pass.result.share ≡ share_of S.SENTINELS z n = share_as S.SENTINELS c.sizes-sizes.result z n
    c.make_pass-pass.result.share c.sizes-sizes.ensures.same c.make_pass-pass.ensures.made.share_is in
    let popped = room_popped z.records c.loop-number.rooms.items c.pop.new.self.items c.pop.result c.unwrap.result c.pop.ensures.items
    c.unwrap.ensures d.rooms_are in (
      deals_next S.SENTINELS S.fresh table z n c.loop-number.first c.loop-number.rooms.items c.loop-number.seat d more
          c.make_pass-pass.result.share c.pop.new.self.items c.deal_seat-dealt.new.seat c.deal_seat-dealt.ensures.table.0
          c.deal_seat-dealt.ensures.kept share popped.0 popped.2,
      long c.loop-number.passes.items c.enter.new.list.items (c.make_pass-pass.result ∷ []) 1 c.enter.ensures.items refl
          ∙ ap (λ k. k + 1) c.loop-number.invariant.1,
      omega arith,
      each_next c.loop-number.passes.items c.make_pass-pass.result n c.enter.new.list.items
          (IsNewPass table z) c.enter.ensures.items c.loop-number.invariant.1
          c.loop-number.invariant.3
          (new_pass_of _ table _ z n n _ (c.deal_seat-dealt.ensures.table.1 ∙ d.table_is) c.sizes-sizes.ensures.same refl
          c.make_pass-pass.ensures.made),
    )

pub make_pass-requires-clause-seat : goal.make_pass-requires-clause-seat
make_pass-requires-clause-seat g c = let S = g.S.Shape in let z : Sizes = c.args.pool.now.layout in
    let passes : c.sizes-sizes.result.passes ≡ z.passes = ap (λ (y : Sizes). y.passes) c.sizes-sizes.ensures.same in
    let within = c.sizes-sizes.ensures.within in
    let some : 1 ≤ z.passes = within.some_passes in
    let over = c.loop-number-test.false in
    let under = c.loop-number.auto.number-end in
    last_seat S.SENTINELS S.fresh _ z c.loop-number.number c.loop-number.first c.loop-number.rooms.items c.loop-number.seat
    c.loop-number.invariant.0 c.sizes-sizes.result (c.sizes-sizes.result.passes - 1) c.sizes-sizes.ensures.same (omega arith) (omega arith)

pub make_pass-requires-clause-room : goal.make_pass-requires-clause-room
make_pass-requires-clause-room g c = let z : Sizes = c.args.pool.now.layout in
    subst (λ (y : Sizes). IsRoom y.records c.unwrap-2.result) (sym c.sizes-sizes.ensures.same)
    (room_popped z.records c.loop-number.rooms.items c.pop-2.new.self.items c.pop-2.result c.unwrap-2.result c.pop-2.ensures.items
    c.unwrap-2.ensures c.loop-number.invariant.0.rooms_are).1

pub returns-clause-passes : goal.returns-clause-passes
returns-clause-passes g c = let S = g.S.Shape in let z : Sizes = c.args.pool.now.layout in
    let table = c.args.pool.now.table.shared.table_id in
    let n : ℕ = c.loop-number.number in
    let passes : c.sizes-sizes.result.passes ≡ z.passes = ap (λ (y : Sizes). y.passes) c.sizes-sizes.ensures.same in
    let within = c.sizes-sizes.ensures.within in
    let some : 1 ≤ z.passes = within.some_passes in
    let over = c.loop-number-test.false in
    let under = c.loop-number.auto.number-end in
    each_next c.loop-number.passes.items c.make_pass.result n c.enter-2.new.list.items
    (IsNewPass table z) c.enter-2.ensures.items c.loop-number.invariant.1
    c.loop-number.invariant.3
    (new_pass_of _ table _ z _ n _ c.loop-number.invariant.0.table_is c.sizes-sizes.ensures.same (omega arith)
    c.make_pass.ensures.made)
