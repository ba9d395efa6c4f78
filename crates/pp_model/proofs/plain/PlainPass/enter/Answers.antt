use Rattle.std.proofs.Common.{◌≡◌, ◌<◌, List, [], ◌∷◌, ◌++◌, length, sym, ap, ◌∙◌, subst, arith}
use Rattle.pp_model.specs.declared.Answer.TheVariants.{Said}
use Rattle.pp_model.specs.declared.Placed.{Placed}
use Rattle.pp_model.specs.Calls.{reply}
use Rattle.pp_model.specs.MapCalls.{placed}
use Rattle.pp_model.specs.Plain.{plain_pass, PlainHolds, IsPlainAnswer, log_of}
use Rattle.pp_model.proofs.PlainPasses.{holds_unchanged, answers_unchanged, log_unchanged}
use Rattle.pp_model.proofs.plain.PlainPass.enter.Goals as goal

-- what the push leaves, by the pass's fields before it
room : (c : goal.After-push_reserved) → length c.self.inside.placed.items < c.self.inside.calls
room c = let left = rw (← c.self.view_is) at c.requires.room in omega (arith, left)

right : (c : goal.After-push_reserved) → reply c.self.inside.pairs.items c.args.call ≡ c.args.said
right c =
    let said = rw (← c.self.view_is) at c.requires.right in
    ap (λ m. reply m c.args.call) c.self.invariant.holds.contents ∙ said

items : (c : goal.After-push_reserved) → c.push_reserved.new.list.items
    ≡ c.self.inside.placed.items ++ placed c.args.call c.args.said (length (log_of c.self.inside.placed.items)) ∷ []
items c =
    c.push_reserved.ensures.items
    ∙ ap (λ n. c.self.inside.placed.items ++ placed c.args.call c.args.said n ∷ []) c.self.invariant.counted

pub invariant_of-self : goal.invariant_of-self
invariant_of-self c =
    let pass = c.self.inside in
    let whole = c.self.invariant in
    let log = log_unchanged pass.placed.items (placed c.args.call c.args.said (length (log_of pass.placed.items))) c.requires.unchanged in
    record {
      holds = subst (λ (mine : List Placed). PlainHolds pass.records pass.calls pass.pairs.items mine) (sym (items c))
          (holds_unchanged pass.records pass.calls pass.pairs.items pass.placed.items whole.holds (room c) c.args.call c.args.said
          (right c) c.requires.unchanged);
      counted = whole.counted ∙ sym (ap (λ mine. length (log_of mine)) (items c) ∙ ap length log);
      pairs_room = whole.pairs_room;
      calls_room = omega (arith, whole.calls_room, c.push_reserved.ensures.room);
    }

pub returns : goal.returns
returns c =
    let pass = c.self.inside in
    rw (← c.self.view_is)
    (subst (λ (mine : List Placed). IsPlainAnswer c.args.call (plain_pass pass.records pass.calls pass.pairs.items pass.placed.items)
    (plain_pass pass.records pass.calls pass.pairs.items mine) (Said c.args.said)) (sym (items c))
    (answers_unchanged pass.records pass.calls pass.pairs.items pass.placed.items c.self.invariant.holds (room c) c.args.call c.args.said
    (right c) c.requires.unchanged))
