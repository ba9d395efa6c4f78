use Rattle.std.proofs.Common.{◌≡◌, ◌<◌, length, sym, ap, ◌∙◌, subst, arith, zero-le}
use Rattle.pp_model.specs.declared.Call.TheVariants.{Insert}
use Rattle.pp_model.specs.declared.Reply.TheVariants.{Added}
use Rattle.pp_model.specs.FiniteMap.{put, KeysRise, LacksKeyAt}
use Rattle.pp_model.specs.Calls.{reply, reply_at, map_after, map_after_at}
use Rattle.pp_model.proofs.Maps.{RisesFrom-put, length-put}
use Rattle.pp_model.proofs.PlainPasses.{IsPlainChange, adds, holds_entered, count_entered, answers_entered, length-changes_from}
use Rattle.pp_model.proofs.plain.PlainPass.add.Goals as goal

pub overflow_add-self : goal.overflow_add-self
overflow_add-self c =
    let few = length-changes_from 1 c.self.inside.placed.items in
    let whole = c.self.invariant in
    let left = rw (← c.self.view_is) at c.requires.room in
    omega (arith, whole.counted, few, left)

-- what the insert and the push leave, by the pass's fields before them
module _ (c : goal.After-push_reserved) where
  lacks : LacksKeyAt c.self.inside.pairs.items c.args.pair.key c.args.i
  lacks =
      let absent = rw (← c.self.view_is) at c.requires.lacks in
      subst (λ m. LacksKeyAt m c.args.pair.key c.args.i) (sym c.self.invariant.holds.contents) absent

  few : length c.self.inside.pairs.items < c.self.inside.records
  few = let below = rw (← c.self.view_is) at c.requires.few in omega (arith, below, ap length c.self.invariant.holds.contents)

  room : length c.self.inside.placed.items < c.self.inside.calls
  room = let left = rw (← c.self.view_is) at c.requires.room in omega (arith, left)

  is : c.insert_reserved.new.pairs.items ≡ put c.self.inside.pairs.items c.args.pair.key c.args.pair.value
  is = c.insert_reserved.ensures.items ∙ lacks.with_key c.args.pair.value

  rises : KeysRise c.insert_reserved.new.pairs.items
  rises =
      let put_rises = RisesFrom-put c.self.inside.pairs.items 0 c.args.pair.key c.args.pair.value c.self.invariant.holds.rises zero-le
      lacks.absent in
      subst (λ m. KeysRise m) (sym is) put_rises

  change : IsPlainChange c.self.inside.pairs.items c.self.inside.records
      (Insert c.args.pair.key c.args.pair.value) Added c.insert_reserved.new.pairs.items
  change = adds c.args.pair.key c.args.pair.value c.insert_reserved.new.pairs.items few
      (ap length is ∙ length-put c.self.inside.pairs.items c.args.pair.key c.args.pair.value)

  right : reply c.self.inside.pairs.items (Insert c.args.pair.key c.args.pair.value) ≡ Added
  right = ap (reply_at (Insert c.args.pair.key c.args.pair.value)) lacks.absent

  after : c.insert_reserved.new.pairs.items ≡ map_after c.self.inside.pairs.items (Insert c.args.pair.key c.args.pair.value)
  after = is ∙ sym (ap (map_after_at c.self.inside.pairs.items (Insert c.args.pair.key c.args.pair.value)) lacks.absent)

pub invariant_of-self : goal.invariant_of-self
invariant_of-self c =
    let pass = c.self.inside in
    let whole = c.self.invariant in
    record {
      holds = holds_entered pass.records pass.calls pass.changes pass.pairs.items pass.placed.items whole.holds whole.counted (room c) _
          _ (right c)
          _ (change c) (after c) (rises c) _ c.push_reserved.ensures.items;
      counted = count_entered pass.records pass.calls pass.changes pass.pairs.items pass.placed.items whole.holds whole.counted (room c)
          _ _ (right c)
          _ (change c) (after c) (rises c) _ c.push_reserved.ensures.items;
      pairs_room = omega (arith, whole.pairs_room, c.insert_reserved.ensures.room);
      calls_room = omega (arith, whole.calls_room, c.push_reserved.ensures.room);
    }

pub returns : goal.returns
returns c =
    let pass = c.self.inside in
    let whole = c.self.invariant in
    rw (← c.self.view_is)
    (answers_entered pass.records pass.calls pass.changes pass.pairs.items pass.placed.items whole.holds whole.counted (room c) _ _
    (right c)
    _ (change c) (after c) (rises c) _ c.push_reserved.ensures.items)
