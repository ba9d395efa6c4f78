use Rattle.std.proofs.Common.{◌≡◌, inl, inr, ◌++◌, [], ◌∷◌, List, ℕ, length, ap, sym, ◌∙◌, arith, true, false}
use Rattle.std.proofs.Common.{vec_capacity}
use Rattle.std.proofs.lemmas.List.{nil_from_length}
use Rattle.pp_model.specs.declared.Pair.{Pair}
use Rattle.pp_model.specs.FiniteMap.{pair}
use Rattle.pp_link.specs.Links.{link_of}
use Rattle.pp_link.specs.Words.{cell_word}
use Rattle.pp_trees.specs.Gathering.{with_leaf}
use Rattle.pp_trees.proofs.Gathers.{at_first, at_down, at_live, at_leaf, at_up, at_end, LeafStep, UpStep, down_readable}
use Rattle.pp_trees.proofs.Gathers.{down_room, done_room, up_readable}
use Rattle.pp_trees.proofs.gathering.list_live.Goals.{then-not-flag, else-not-flag, then-len-base, else-len-base}
use Rattle.pp_trees.proofs.gathering.list_live.Goals as goal

pub loop-link-init : goal.loop-link-init
loop-link-init c = record {
  ahead = at_first c.args.layout.now c.args.words.now c.link_at-link.result c.enter.new.list.items c.args.live.now.items
      c.requires.tree c.link_at-link.ensures
      (c.enter.ensures.items ∙ (ap (λ (l : List Pair). l ++ c.entry.result ∷ []) c.requires.none.0
      ∙ ap (λ (p : Pair). p ∷ []) c.entry.ensures)) c.requires.none.1;
  stack_room = omega (arith, c.requires.room.0, c.enter.ensures.room);
  live_room = c.requires.room.1;
}

pub enter_leaf-requires : goal.enter_leaf-requires
enter_leaf-requires c = let leaf : c.loop-link.link.leaf ≡ true = sym c.leaf.ensures ∙ c.if-leaf.true in
    let plain : c.loop-link.link.flag ≡ false = sym c.flag.ensures ∙ c.if-not-flag.true in
    let done = at_live c.args.layout.now c.args.words.now c.loop-link.link c.loop-link.stack.items c.loop-link.live.items
    c.loop-link.low c.loop-link.base c.loop-link.parting c.loop-link.invariant.ahead leaf plain in
    let few = done_room c.args.layout.now c.args.words.now c.loop-link.stack.items
    (with_leaf c.loop-link.live.items c.loop-link.parting c.loop-link.link.number)
    c.loop-link.low (length c.loop-link.stack.items) c.loop-link.parting done in
    let same = ap (λ (n : ℕ). length (with_leaf c.loop-link.live.items c.loop-link.parting n)) c.number.ensures in
    record { room = omega (arith, few, same, c.loop-link.invariant.live_room) }

pub returns-in_default-clause-gathered : goal.returns-in_default-clause-gathered
returns-in_default-clause-gathered c = let leaf : c.loop-link.link.leaf ≡ true = sym c.leaf.ensures ∙ c.if-leaf.true in
    let how : LeafStep c.loop-link.link c.loop-link.stack.items c.loop-link.live.items c.loop-link.base c.loop-link.parting
    c.if-not-flag.live.items c.if-not-flag.base =
    elim c.if-not-flag.branch [
      | then-not-flag w ↦ inl (
        sym c.flag.ensures ∙ w.if-not-flag.true,
        ap (λ v. v.items) w.live-is ∙ (w.enter_leaf.ensures.items
            ∙ ap (with_leaf c.loop-link.live.items c.loop-link.parting) w.number.ensures),
        (let ok = c.loop-link.stack.ok.0 in let e = w.len-base.ensures in let b = w.base-is in omega (arith, ok, e, b)),
      )
      | else-not-flag w ↦ inr (sym c.flag.ensures ∙ w.if-not-flag.false, ap (λ v. v.items) w.live-is, w.base-is)
    ] in
    let done = at_leaf c.args.layout.now c.args.words.now c.loop-link.link c.loop-link.stack.items c.loop-link.live.items
    c.loop-link.low c.loop-link.base c.loop-link.parting c.loop-link.invariant.ahead leaf c.if-not-flag.live.items
    c.if-not-flag.base how in
    at_end c.args.layout.now c.args.words.now c.loop-link.stack.items c.if-not-flag.live.items c.loop-link.low
    c.if-not-flag.base c.loop-link.parting done
    (nil_from_length c.loop-link.stack.items (let ok = c.loop-link.stack.ok.0 in omega (arith, ok, c.in_default.ensures.cases.0)))

pub overflow_cast-number : goal.overflow_cast-number
overflow_cast-number c = let leaf : c.loop-link.link.leaf ≡ true = sym c.leaf.ensures ∙ c.if-leaf.true in
    let how : LeafStep c.loop-link.link c.loop-link.stack.items c.loop-link.live.items c.loop-link.base c.loop-link.parting
    c.if-not-flag.live.items c.if-not-flag.base =
    elim c.if-not-flag.branch [
      | then-not-flag w ↦ inl (
        sym c.flag.ensures ∙ w.if-not-flag.true,
        ap (λ v. v.items) w.live-is ∙ (w.enter_leaf.ensures.items
            ∙ ap (with_leaf c.loop-link.live.items c.loop-link.parting) w.number.ensures),
        (let ok = c.loop-link.stack.ok.0 in let e = w.len-base.ensures in let b = w.base-is in omega (arith, ok, e, b)),
      )
      | else-not-flag w ↦ inr (sym c.flag.ensures ∙ w.if-not-flag.false, ap (λ v. v.items) w.live-is, w.base-is)
    ] in
    let done = at_leaf c.args.layout.now c.args.words.now c.loop-link.link c.loop-link.stack.items c.loop-link.live.items
    c.loop-link.low c.loop-link.base c.loop-link.parting c.loop-link.invariant.ahead leaf c.if-not-flag.live.items
    c.if-not-flag.base how in
    let r = up_readable c.args.layout.now c.args.words.now c.loop-link.stack.items c.pop.new.self.items c.in-Some.next
    c.if-not-flag.live.items c.loop-link.low c.if-not-flag.base c.loop-link.parting done c.in-Some.ensures.items in
    omega (arith, r.number.1, c.requires.tree.few)

pub link_at-link-requires-then-leaf-clause-small :
    goal.link_at-link-requires-then-leaf-clause-small
link_at-link-requires-then-leaf-clause-small c = let leaf : c.loop-link.link.leaf ≡ true = sym c.leaf.ensures ∙ c.if-leaf.true in
    let how : LeafStep c.loop-link.link c.loop-link.stack.items c.loop-link.live.items c.loop-link.base c.loop-link.parting
    c.if-not-flag.live.items c.if-not-flag.base =
    elim c.if-not-flag.branch [
      | then-not-flag w ↦ inl (
        sym c.flag.ensures ∙ w.if-not-flag.true,
        ap (λ v. v.items) w.live-is ∙ (w.enter_leaf.ensures.items
            ∙ ap (with_leaf c.loop-link.live.items c.loop-link.parting) w.number.ensures),
        (let ok = c.loop-link.stack.ok.0 in let e = w.len-base.ensures in let b = w.base-is in omega (arith, ok, e, b)),
      )
      | else-not-flag w ↦ inr (sym c.flag.ensures ∙ w.if-not-flag.false, ap (λ v. v.items) w.live-is, w.base-is)
    ] in
    let done = at_leaf c.args.layout.now c.args.words.now c.loop-link.link c.loop-link.stack.items c.loop-link.live.items
    c.loop-link.low c.loop-link.base c.loop-link.parting c.loop-link.invariant.ahead leaf c.if-not-flag.live.items
    c.if-not-flag.base how in
    let r = up_readable c.args.layout.now c.args.words.now c.loop-link.stack.items c.pop.new.self.items c.in-Some.next
    c.if-not-flag.live.items c.loop-link.low c.if-not-flag.base c.loop-link.parting done c.in-Some.ensures.items in
    r.right

pub loop-link-smaller-then-leaf : goal.loop-link-smaller-then-leaf
loop-link-smaller-then-leaf c = let leaf : c.loop-link.link.leaf ≡ true = sym c.leaf.ensures ∙ c.if-leaf.true in
    let how : LeafStep c.loop-link.link c.loop-link.stack.items c.loop-link.live.items c.loop-link.base c.loop-link.parting
    c.if-not-flag.live.items c.if-not-flag.base =
    elim c.if-not-flag.branch [
      | then-not-flag w ↦ inl (
        sym c.flag.ensures ∙ w.if-not-flag.true,
        ap (λ v. v.items) w.live-is ∙ (w.enter_leaf.ensures.items
            ∙ ap (with_leaf c.loop-link.live.items c.loop-link.parting) w.number.ensures),
        (let ok = c.loop-link.stack.ok.0 in let e = w.len-base.ensures in let b = w.base-is in omega (arith, ok, e, b)),
      )
      | else-not-flag w ↦ inr (sym c.flag.ensures ∙ w.if-not-flag.false, ap (λ v. v.items) w.live-is, w.base-is)
    ] in
    let done = at_leaf c.args.layout.now c.args.words.now c.loop-link.link c.loop-link.stack.items c.loop-link.live.items
    c.loop-link.low c.loop-link.base c.loop-link.parting c.loop-link.invariant.ahead leaf c.if-not-flag.live.items
    c.if-not-flag.base how in
    let turn : UpStep c.pop.new.self.items c.in-Some.next c.if-not-flag.base c.loop-link.parting c.if-len-base.base
    c.if-len-base.parting =
    elim c.if-len-base.branch [
      | then-len-base w ↦ (let ok = c.pop.new.self.ok.0 in let e = w.len-base-then-len-base.ensures in let b = w.base-is in
          inl (omega (arith, ok, c.len.ensures, w.if-len-base.true), omega (arith, ok, e, b), w.parting-is))
      | else-len-base w ↦ (let ok = c.pop.new.self.ok.0 in inr (
        omega
            (arith, ok, c.len.ensures, w.if-len-base.false),
        w.base-is,
        w.parting-is,
      ))
    ] in
    let up = at_up c.args.layout.now c.args.words.now c.loop-link.stack.items c.pop.new.self.items c.in-Some.next
    c.if-not-flag.live.items c.loop-link.low c.if-not-flag.base c.loop-link.parting done c.in-Some.ensures.items
    c.link_at-link-then-leaf.result c.word_at-low.result c.if-len-base.base c.if-len-base.parting
    c.link_at-link-then-leaf.ensures c.word_at-low.ensures turn in
    up.1

pub loop-link-preserved-then-leaf : goal.loop-link-preserved-then-leaf
loop-link-preserved-then-leaf c = let leaf : c.loop-link.link.leaf ≡ true = sym c.leaf.ensures ∙ c.if-leaf.true in
    let how : LeafStep c.loop-link.link c.loop-link.stack.items c.loop-link.live.items c.loop-link.base c.loop-link.parting
    c.if-not-flag.live.items c.if-not-flag.base =
    elim c.if-not-flag.branch [
      | then-not-flag w ↦ inl (
        sym c.flag.ensures ∙ w.if-not-flag.true,
        ap (λ v. v.items) w.live-is ∙ (w.enter_leaf.ensures.items
            ∙ ap (with_leaf c.loop-link.live.items c.loop-link.parting) w.number.ensures),
        (let ok = c.loop-link.stack.ok.0 in let e = w.len-base.ensures in let b = w.base-is in omega (arith, ok, e, b)),
      )
      | else-not-flag w ↦ inr (sym c.flag.ensures ∙ w.if-not-flag.false, ap (λ v. v.items) w.live-is, w.base-is)
    ] in
    let done = at_leaf c.args.layout.now c.args.words.now c.loop-link.link c.loop-link.stack.items c.loop-link.live.items
    c.loop-link.low c.loop-link.base c.loop-link.parting c.loop-link.invariant.ahead leaf c.if-not-flag.live.items
    c.if-not-flag.base how in
    let turn : UpStep c.pop.new.self.items c.in-Some.next c.if-not-flag.base c.loop-link.parting c.if-len-base.base
    c.if-len-base.parting =
    elim c.if-len-base.branch [
      | then-len-base w ↦ (let ok = c.pop.new.self.ok.0 in let e = w.len-base-then-len-base.ensures in let b = w.base-is in
          inl (omega (arith, ok, c.len.ensures, w.if-len-base.true), omega (arith, ok, e, b), w.parting-is))
      | else-len-base w ↦ (let ok = c.pop.new.self.ok.0 in inr (
        omega
            (arith, ok, c.len.ensures, w.if-len-base.false),
        w.base-is,
        w.parting-is,
      ))
    ] in
    let up = at_up c.args.layout.now c.args.words.now c.loop-link.stack.items c.pop.new.self.items c.in-Some.next
    c.if-not-flag.live.items c.loop-link.low c.if-not-flag.base c.loop-link.parting done c.in-Some.ensures.items
    c.link_at-link-then-leaf.result c.word_at-low.result c.if-len-base.base c.if-len-base.parting
    c.link_at-link-then-leaf.ensures c.word_at-low.ensures turn in
    record {
      ahead = up.0;
      stack_room = omega (arith, c.loop-link.invariant.stack_room, c.pop.ensures.capacity);
      live_room = elim c.if-not-flag.branch [
        | then-not-flag w ↦ let same = ap vec_capacity w.live-is in omega
            (arith, same, w.enter_leaf.ensures.room, c.loop-link.invariant.live_room)
        | else-not-flag w ↦ let same = ap vec_capacity w.live-is in omega (arith, same, c.loop-link.invariant.live_room)
      ];
    }

pub enter-requires-else-leaf : goal.enter-requires-else-leaf
enter-requires-else-leaf c = let inner : c.loop-link.link.leaf ≡ false = sym c.leaf.ensures ∙ c.if-leaf.false in
    let room = down_room c.args.layout.now c.args.words.now c.loop-link.link c.loop-link.stack.items c.loop-link.live.items
    c.loop-link.low c.loop-link.base c.loop-link.parting
    c.loop-link.invariant.ahead inner in omega (arith, room, c.loop-link.invariant.stack_room)

pub link_at-link-requires-else-leaf-clause-number :
    goal.link_at-link-requires-else-leaf-clause-number
link_at-link-requires-else-leaf-clause-number c = let inner : c.loop-link.link.leaf ≡ false = sym c.leaf.ensures
    ∙ c.if-leaf.false in
    let r = down_readable c.args.layout.now c.args.words.now c.loop-link.link c.loop-link.stack.items c.loop-link.live.items
    c.loop-link.low c.loop-link.base c.loop-link.parting
    c.loop-link.invariant.ahead inner in rw c.number-number.ensures r.number

pub link_at-link-requires-else-leaf-clause-small :
    goal.link_at-link-requires-else-leaf-clause-small
link_at-link-requires-else-leaf-clause-small c = let inner : c.loop-link.link.leaf ≡ false = sym c.leaf.ensures
    ∙ c.if-leaf.false in
    let r = down_readable c.args.layout.now c.args.words.now c.loop-link.link c.loop-link.stack.items c.loop-link.live.items
    c.loop-link.low c.loop-link.base c.loop-link.parting
    c.loop-link.invariant.ahead inner in rw c.number-number.ensures r.left

pub loop-link-smaller : goal.loop-link-smaller
loop-link-smaller c = let inner : c.loop-link.link.leaf ≡ false = sym c.leaf.ensures ∙ c.if-leaf.false in
    let d = at_down c.args.layout.now c.args.words.now c.loop-link.link c.loop-link.stack.items c.loop-link.live.items
    c.loop-link.low c.loop-link.base c.loop-link.parting c.loop-link.invariant.ahead inner
    c.link_at-link-else-leaf.result c.enter-else-leaf.new.list.items
    (c.link_at-link-else-leaf.ensures ∙ ap (λ (n : ℕ). link_of
    (cell_word c.args.words.now c.args.layout.now n 2)) c.number-number.ensures)
    (c.enter-else-leaf.ensures.items ∙ ap (λ (p : Pair). c.loop-link.stack.items ++ p ∷ []) (c.entry-else-leaf.ensures
    ∙ ap (λ (n : ℕ). pair n 0) c.number-number.ensures)) in
    d.1

pub loop-link-preserved : goal.loop-link-preserved
loop-link-preserved c = let inner : c.loop-link.link.leaf ≡ false = sym c.leaf.ensures ∙ c.if-leaf.false in
    let d = at_down c.args.layout.now c.args.words.now c.loop-link.link c.loop-link.stack.items c.loop-link.live.items
    c.loop-link.low c.loop-link.base c.loop-link.parting c.loop-link.invariant.ahead inner
    c.link_at-link-else-leaf.result c.enter-else-leaf.new.list.items
    (c.link_at-link-else-leaf.ensures ∙ ap (λ (n : ℕ). link_of
    (cell_word c.args.words.now c.args.layout.now n 2)) c.number-number.ensures)
    (c.enter-else-leaf.ensures.items ∙ ap (λ (p : Pair). c.loop-link.stack.items ++ p ∷ []) (c.entry-else-leaf.ensures
    ∙ ap (λ (n : ℕ). pair n 0) c.number-number.ensures)) in
    record {
      ahead = d.0;
      stack_room = omega (arith, c.loop-link.invariant.stack_room, c.enter-else-leaf.ensures.room);
      live_room = c.loop-link.invariant.live_room;
    }
