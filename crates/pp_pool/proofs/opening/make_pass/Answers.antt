use Rattle.std.proofs.Common.{ℕ, ◌≡◌, ◌+◌, ◌≤◌, ◌<◌, arith, refl, vec_capacity}
use Rattle.pp_rule.specs.Opening.{share_of, start_of}
use Rattle.pp_pool.proofs.Dealt.{share_within, beside_dealt, new_pass}
use Rattle.pp_pool.proofs.Rooms.{new_purse}
use Rattle.pp_pool.proofs.Noting.{run_open}
use Rattle.pp_pool.proofs.opening.make_pass.Goals as goal

pub list_share-requires-clause-room : goal.list_share-requires-clause-room
list_share-requires-clause-room g c = let sentinels : ℕ = g.S.Shape.SENTINELS in let z = c.args.sizes in let n : ℕ = c.args.number in
    let at = share_within sentinels z n c.requires.within c.requires.sentinels c.requires.number in
    let low : sentinels < start_of sentinels z n = at.0 in
    let high : start_of sentinels z n + share_of sentinels z n ≤ z.records + 1 = at.1 in
    let room : z.records ≤ vec_capacity c.args.room.free = c.requires.room.free_room in
    let share : c.share_for-share.result ≡ share_of sentinels z n = c.share_for-share.ensures in omega arith

pub list_share-requires-clause-high : goal.list_share-requires-clause-high
list_share-requires-clause-high g c = let sentinels : ℕ = g.S.Shape.SENTINELS in let z = c.args.sizes in let n : ℕ = c.args.number in
    let high : start_of sentinels z n + share_of sentinels z n ≤ z.records + 1 =
    (share_within sentinels z n c.requires.within c.requires.sentinels c.requires.number).1 in
    let records : z.records ≤ 262144 = c.requires.within.records in
    let first : c.args.first ≡ start_of sentinels z n = c.requires.first in
    let share : c.share_for-share.result ≡ share_of sentinels z n = c.share_for-share.ensures in omega arith

pub invariant_of-result : goal.invariant_of-result
invariant_of-result g c = let sentinels : ℕ = g.S.Shape.SENTINELS in let z = c.args.sizes in let n : ℕ = c.args.number in record {
  keeping = beside_dealt sentinels g.S.Shape.SIDES g.S.Shape.fresh z n n c.share_for-share.result _ _ c.args.seat c.requires.seat
      c.requires.within c.requires.sentinels c.requires.number refl c.share_for-share.ensures refl
      (new_purse z (start_of sentinels z n) (share_of sentinels z n) c.args.first c.share_for-share.result c.args.room c.list_share.new.free
      c.requires.room c.list_share.ensures.numbers c.list_share.ensures.room c.requires.first c.share_for-share.ensures);
  run = run_open g.S.Shape.SIDES g.S.Shape.SENTINELS g.S.Shape.first_head g.S.Shape.first_field g.S.Shape.addition g.S.Shape.fresh
      g.S.Shape.caller_of c.args.sizes c.args.number c.args.seat g.met.S.Shape.sided.1 c.requires.within c.requires.sentinels
      g.met.S.Shape.heads_open g.met.S.Shape.links_open g.met.S.Shape.opened c.requires.seat;
}

pub returns-clause-made : goal.returns-clause-made
returns-clause-made g c = let sentinels : ℕ = g.S.Shape.SENTINELS in let z = c.args.sizes in let n : ℕ = c.args.number in
    new_pass z n _ c.requires.seat refl c.share_for-share.ensures refl
    (new_purse z (start_of sentinels z n) (share_of sentinels z n) c.args.first c.share_for-share.result c.args.room c.list_share.new.free
    c.requires.room c.list_share.ensures.numbers c.list_share.ensures.room c.requires.first c.share_for-share.ensures)
