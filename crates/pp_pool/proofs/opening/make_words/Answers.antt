use Rattle.std.proofs.Common.{ℕ, ◌≡◌, ◌+◌, ◌*◌, ◌≤◌, replicate, length, vec_capacity, arith, ap}
use Rattle.std.proofs.lemmas.List.{length-replicate}
use Rattle.pp_rule.specs.Opening.{words_from, fields_from}
use Rattle.pp_pool.proofs.Words.{long, length_words, length_fields, all_words}
use Rattle.pp_pool.proofs.opening.make_words.Goals as goal

pub add_sentinels-requires : goal.add_sentinels-requires
add_sentinels-requires g c =
    let S = g.S.Shape in
    let low : ℕ = 1 + 17 * c.args.sizes.passes in
    let a = long c.in-Ok.words.items c.add_zeros.new.words.items (replicate low 0) low c.add_zeros.ensures.words (length-replicate low 0) in
    let b = long c.add_zeros.new.words.items c.add_heads.new.words.items (words_from S.first_head 0 c.args.sizes.heads) c.args.sizes.heads
    c.add_heads.ensures.words (length_words S.first_head 0 c.args.sizes.heads) in
    let none : length c.in-Ok.words.items ≡ 0 = ap length c.in-Ok.ensures.items in
    let sentinels : S.SENTINELS ≤ c.args.sizes.records = c.requires.sentinels in
    let room : low + c.args.sizes.heads + 5 * c.args.sizes.records ≤ vec_capacity c.in-Ok.words = c.in-Ok.ensures.capacity in
    let first : vec_capacity c.in-Ok.words ≤ vec_capacity c.add_zeros.new.words = c.add_zeros.ensures.room in
    let second : vec_capacity c.add_zeros.new.words ≤ vec_capacity c.add_heads.new.words = c.add_heads.ensures.room in omega arith

pub add_zeros-requires-2 : goal.add_zeros-requires-2
add_zeros-requires-2 g c =
    let S = g.S.Shape in
    let low : ℕ = 1 + 17 * c.args.sizes.passes in
    let a = long c.in-Ok.words.items c.add_zeros.new.words.items (replicate low 0) low c.add_zeros.ensures.words (length-replicate low 0) in
    let b = long c.add_zeros.new.words.items c.add_heads.new.words.items (words_from S.first_head 0 c.args.sizes.heads) c.args.sizes.heads
    c.add_heads.ensures.words (length_words S.first_head 0 c.args.sizes.heads) in
    let d = long c.add_heads.new.words.items c.add_sentinels.new.words.items (fields_from S.first_field 1 S.SENTINELS)
    (5 * S.SENTINELS)
    c.add_sentinels.ensures.words (length_fields S.first_field 1 S.SENTINELS) in
    let none : length c.in-Ok.words.items ≡ 0 = ap length c.in-Ok.ensures.items in
    let sentinels : c.SENTINELS.result ≡ S.SENTINELS = c.SENTINELS.ensures in
    let most : S.SENTINELS ≤ c.args.sizes.records = c.requires.sentinels in
    let room : low + c.args.sizes.heads + 5 * c.args.sizes.records ≤ vec_capacity c.in-Ok.words = c.in-Ok.ensures.capacity in
    let first : vec_capacity c.in-Ok.words ≤ vec_capacity c.add_zeros.new.words = c.add_zeros.ensures.room in
    let second : vec_capacity c.add_zeros.new.words ≤ vec_capacity c.add_heads.new.words = c.add_heads.ensures.room in
    let third : vec_capacity c.add_heads.new.words ≤ vec_capacity c.add_sentinels.new.words = c.add_sentinels.ensures.room in omega arith

pub returns : goal.returns
returns g c = let S = g.S.Shape in
    all_words S.SENTINELS S.first_head S.first_field c.args.sizes c.in-Ok.words.items c.add_zeros.new.words.items
    c.add_heads.new.words.items c.add_sentinels.new.words.items c.add_zeros-2.new.words.items c.SENTINELS.result c.in-Ok.ensures.items
    c.add_zeros.ensures.words c.add_heads.ensures.words c.add_sentinels.ensures.words c.add_zeros-2.ensures.words c.SENTINELS.ensures
