use Rattle.std.proofs.Common.{◌≡◌, ◌+◌, ◌<◌, Some, length, sym, ap, ◌∙◌, subst, arith}
use Rattle.std.proofs.lemmas.Option.{slice_get_read}
use Rattle.pp_model.specs.declared.Reply.TheVariants.{Took}
use Rattle.pp_model.specs.Pass.{PassView}
use Rattle.pp_model.specs.History.{contents_of}
use Rattle.pp_model.specs.FiniteMap.{find, drop_key, KeysRise, HasKeyAt}
use Rattle.pp_model.specs.Calls.{reply, map_after, Takes}
use Rattle.pp_model.proofs.Maps.{RisesFrom-drop_key, length-drop_key, takes_reply, takes_after}
use Rattle.pp_model.proofs.PlainPasses.{IsPlainChange, takes, holds_entered, count_entered, answers_entered, length-changes_from}
use Rattle.pp_model.proofs.plain.PlainPass.take.Goals as goal

pub overflow_add-self : goal.overflow_add-self
overflow_add-self c =
    let few = length-changes_from 1 c.self.inside.placed.items in
    let whole = c.self.invariant in
    let left = rw (← c.self.view_is) at c.requires.room in
    omega (arith, whole.counted, few, left)

-- what the remove and the push leave, by the pass's fields before them
module _ (c : goal.After-push_reserved) where
  has : HasKeyAt c.self.inside.pairs.items c.args.key c.args.i
  has =
      let has = rw (← c.self.view_is) at c.requires.has in
      subst (λ m. HasKeyAt m c.args.key c.args.i) (sym c.self.invariant.holds.contents) has

  room : length c.self.inside.placed.items < c.self.inside.calls
  room = let left = rw (← c.self.view_is) at c.requires.room in omega (arith, left)

  found : find c.self.inside.pairs.items c.args.key ≡ Some c.remove-value.result.value
  found = has.found c.remove-value.result
      (slice_get_read c.self.inside.pairs.items (length c.self.inside.pairs.items) c.args.i c.remove-value.result (omega arith)
      has.within c.remove-value.ensures.value)

  is : c.remove-value.new.self.items ≡ drop_key c.self.inside.pairs.items c.args.key
  is = c.remove-value.ensures.items ∙ has.rest

  rises : KeysRise c.remove-value.new.self.items
  rises = subst (λ m. KeysRise m) (sym is) (RisesFrom-drop_key c.self.inside.pairs.items 0 c.args.key c.self.invariant.holds.rises)

  how : Takes c.args.call c.args.key c.remove-value.result.value
  how = c.requires.takes c.remove-value.result.value
      (sym (ap (λ m. find m c.args.key) c.self.invariant.holds.contents ∙ ap (λ (v : PassView). find (contents_of v.seen) c.args.key)
      c.self.view_is) ∙ found)

  change : IsPlainChange c.self.inside.pairs.items c.self.inside.records c.args.call (Took c.remove-value.result.value)
      c.remove-value.new.self.items
  change = takes c.args.call c.args.key c.remove-value.result.value c.remove-value.new.self.items how
      (ap (λ m. length m + 1) is ∙ length-drop_key c.self.inside.pairs.items c.args.key c.remove-value.result.value found)

  right : reply c.self.inside.pairs.items c.args.call ≡ Took c.remove-value.result.value
  right = takes_reply c.self.inside.pairs.items c.args.call c.args.key c.remove-value.result.value how found

  after : c.remove-value.new.self.items ≡ map_after c.self.inside.pairs.items c.args.call
  after = is ∙ sym (takes_after c.self.inside.pairs.items c.args.call c.args.key c.remove-value.result.value how found)

pub invariant_of-self : goal.invariant_of-self
invariant_of-self c =
    let pass = c.self.inside in
    let whole = c.self.invariant in
    record {
      holds = holds_entered pass.records pass.calls pass.changes pass.pairs.items pass.placed.items whole.holds whole.counted (room c) _
          _ (right c)
          _ (change c) (after c) (rises c) _ c.push_reserved.ensures.items;
      counted = count_entered pass.records pass.calls pass.changes pass.pairs.items pass.placed.items whole.holds whole.counted (room c)
          _ _ (right c)
          _ (change c) (after c) (rises c) _ c.push_reserved.ensures.items;
      pairs_room = omega (arith, whole.pairs_room, c.remove-value.ensures.capacity);
      calls_room = omega (arith, whole.calls_room, c.push_reserved.ensures.room);
    }

pub returns-clause-takes : goal.returns-clause-takes
returns-clause-takes c = how c

pub returns-clause-answered : goal.returns-clause-answered
returns-clause-answered c =
    let pass = c.self.inside in
    let whole = c.self.invariant in
    rw (← c.self.view_is)
    (answers_entered pass.records pass.calls pass.changes pass.pairs.items pass.placed.items whole.holds whole.counted (room c) _ _
    (right c)
    _ (change c) (after c) (rises c) _ c.push_reserved.ensures.items)
