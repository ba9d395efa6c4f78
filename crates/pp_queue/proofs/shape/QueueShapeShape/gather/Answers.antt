use Rattle.std.proofs.Common.{◌≡◌, ◌<◌, ℕ, suc, ◌+◌, ◌-◌, ◌*◌, List, [], ◌∷◌, ◌++◌, length, length-append, sym, ap}
use Rattle.std.proofs.Common.{ap₂, ◌∙◌, subst, arith, get_or}
use Rattle.pp_link.specs.Links.{target}
use Rattle.pp_queue.proofs.Gathering.{IsHalfway, pairs_of, head_small, starts, starts_halfway, in_range, cell_in, link_small}
use Rattle.pp_queue.proofs.Gathering.{next_small, room, goes_on}
use Rattle.pp_queue.proofs.Gathering.{first_on, one_more, ends_left, ends_nil, pairs_long, pairs_more}
use Rattle.pp_queue.proofs.shape.QueueShapeShape.gather.Goals as goal

pub led_to-dummy-requires : goal.led_to-dummy-requires
led_to-dummy-requires c = let z = c.args.layout.now in let words = c.args.words.now in
    subst (λ (p : ℕ). get_or words p 0 < 68719476736) (sym c.head_word.ensures) (head_small z words c.requires.rule)

pub cell-requires : goal.cell-requires
cell-requires c = let z = c.args.layout.now in let words = c.args.words.now in
    (starts z words c.requires.rule c.led_to-dummy.result
    (c.led_to-dummy.ensures ∙ ap (λ (p : ℕ). target (get_or words p 0)) c.head_word.ensures)).0

pub bounds-words-cell : goal.bounds-words-cell
bounds-words-cell c = let z = c.args.layout.now in let words = c.args.words.now in
    subst (λ (p : ℕ). p < length words) (sym c.cell.ensures)
    (cell_in z words c.requires.rule c.led_to-dummy.result 2 (starts z words c.requires.rule c.led_to-dummy.result
    (c.led_to-dummy.ensures ∙ ap (λ (p : ℕ). target (get_or words p 0)) c.head_word.ensures)).0 (omega arith))

pub led_to-number-requires : goal.led_to-number-requires
led_to-number-requires c = let z = c.args.layout.now in let words = c.args.words.now in
    subst (λ (p : ℕ). get_or words p 0 < 68719476736) (sym c.cell.ensures)
    (link_small z words c.requires.rule c.led_to-dummy.result (starts z words c.requires.rule c.led_to-dummy.result
    (c.led_to-dummy.ensures ∙ ap (λ (p : ℕ). target (get_or words p 0)) c.head_word.ensures)))

pub loop-init : goal.loop-init
loop-init c = let z = c.args.layout.now in let words = c.args.words.now in
    let dummy = c.led_to-dummy.ensures ∙ ap (λ (p : ℕ). target (get_or words p 0)) c.head_word.ensures in
    let next = c.led_to-number.ensures ∙ ap (λ (p : ℕ). target (get_or words p 0)) c.cell.ensures in
    let some = c.requires.rule.1.within.some_records in let items = c.enter.ensures.items in
    let live : c.enter.new.list.items ≡ c.led_to-dummy.result ∷ [] =
    items ∙ ap (λ (l : List ℕ). l ++ c.led_to-dummy.result ∷ []) c.requires.none.1 in record {
      along = goes_on z words c.led_to-dummy.result c.led_to-number.result (first_on z words c.led_to-dummy.result dummy) next;
      halfway = subst (λ (l : List ℕ). IsHalfway z words l (z.records - 1) c.led_to-number.result) (sym live)
          (starts_halfway z words c.requires.rule c.led_to-dummy.result c.led_to-number.result dummy next (z.records - 1)
          (omega arith));
      some = let long = ap (λ (l : List ℕ). length l) live in omega arith;
      contents = c.requires.none.0 ∙ ap (pairs_of z words) (sym live);
      contents_room = c.requires.room.0;
      live_room = let grown = c.enter.ensures.room in let was = c.requires.room.1 in omega arith;
    }

pub enter-requires-in-loop : goal.enter-requires-in-loop
enter-requires-in-loop c = let z = c.args.layout.now in let words = c.args.words.now in
    let end = ap (λ s. s.records) c.sizes-end.ensures.same in let before = c.loop-test.true in
    let left : z.records - c.loop.counter ≡ suc (z.records - (c.loop.counter + 1)) = omega arith in
    let few = room z words c.requires.rule c.loop.live.items
    (z.records - (c.loop.counter + 1)) c.loop.number c.if-number-eq0.false
    (subst (λ (k : ℕ). IsHalfway z words c.loop.live.items k c.loop.number) left c.loop.invariant.halfway) in
    let pairs = pairs_long z words c.loop.live.items c.loop.invariant.some in
    let long = ap (λ l. length l) c.loop.invariant.contents in let cap = c.loop.invariant.contents_room in omega arith

pub enter-requires-in-loop-2 : goal.enter-requires-in-loop-2
enter-requires-in-loop-2 c = let z = c.args.layout.now in let words = c.args.words.now in
    let end = ap (λ s. s.records) c.sizes-end.ensures.same in let before = c.loop-test.true in
    let left : z.records - c.loop.counter ≡ suc (z.records - (c.loop.counter + 1)) = omega arith in
    let few = room z words c.requires.rule c.loop.live.items
    (z.records - (c.loop.counter + 1)) c.loop.number c.if-number-eq0.false
    (subst (λ (k : ℕ). IsHalfway z words c.loop.live.items k c.loop.number) left c.loop.invariant.halfway) in
    let cap = c.loop.invariant.live_room in omega arith

pub led_to-number-requires-in-loop : goal.led_to-number-requires-in-loop
led_to-number-requires-in-loop c = let z = c.args.layout.now in let words = c.args.words.now in
    subst (λ (p : ℕ). get_or words p 0 < 68719476736) (sym c.cell-in-loop-3.ensures)
    (next_small z words c.requires.rule c.loop.number c.loop.invariant.along c.if-number-eq0.false)

pub loop-preserved : goal.loop-preserved
loop-preserved c = let z = c.args.layout.now in let words = c.args.words.now in let n = c.loop.number in
    let end = ap (λ s. s.records) c.sizes-end.ensures.same in let before = c.loop-test.true in
    let left : z.records - c.loop.counter ≡ suc (z.records - (c.loop.counter + 1)) = omega arith in
    let half = subst (λ (k : ℕ). IsHalfway z words c.loop.live.items k n) left c.loop.invariant.halfway in
    let next = c.led_to-number-in-loop.ensures ∙ ap (λ (p : ℕ). target (get_or words p 0)) c.cell-in-loop-3.ensures in
    let pushed = c.enter-in-loop-2.ensures.items in let entered = c.enter-in-loop.ensures.items in record {
      along = goes_on z words n c.led_to-number-in-loop.result (λ g b q. c.loop.invariant.along g b q c.if-number-eq0.false) next;
      halfway = subst (λ (l : List ℕ). IsHalfway z words l (z.records - (c.loop.counter + 1)) c.led_to-number-in-loop.result)
          (sym pushed)
          (one_more z words c.loop.live.items (z.records - (c.loop.counter + 1)) n c.led_to-number-in-loop.result
          c.if-number-eq0.false next half);
      some = let long = ap (λ (l : List ℕ). length l) pushed in let sum = length-append c.loop.live.items (n ∷ []) in omega arith;
      contents = let value : ℕ = c.from.result + 18446744073709551616 * c.from-in-loop.result in
          entered ∙ (ap (λ (k : ℕ). c.loop.contents.items ++ record { key = k; value = value } ∷ []) (c.len-key.ensures
          ∙ c.loop.contents.ok.0)
          ∙ (pairs_more z words c.loop.live.items n c.loop.contents.items c.cell-in-loop.result c.cell-in-loop-2.result value
          c.loop.invariant.some c.loop.invariant.contents c.cell-in-loop.ensures c.cell-in-loop-2.ensures
          (ap₂ (λ (a b : ℕ). a + 18446744073709551616 * b) c.from.ensures c.from-in-loop.ensures)
          ∙ ap (pairs_of z words) (sym pushed)));
      contents_room = grind arith;
      live_room = grind arith;
    }

pub returns-after-loop : goal.returns-after-loop
returns-after-loop c = let z = c.args.layout.now in let end = ap (λ s. s.records) c.sizes-end.ensures.same in
    let after = c.loop-test.false in let most = c.loop.auto.counter-end in
    let all = ends_left z c.args.words.now c.loop.live.items (z.records - c.loop.counter) c.loop.number (omega arith)
    c.loop.invariant.halfway in (c.loop.invariant.contents ∙ ap (pairs_of z c.args.words.now) all, all)

pub returns-then-number-eq0 : goal.returns-then-number-eq0
returns-then-number-eq0 c = let z = c.args.layout.now in
    let all = ends_nil z c.args.words.now c.loop.live.items (z.records - c.loop.counter) c.loop.number c.if-number-eq0.true
    c.loop.invariant.halfway in (c.loop.invariant.contents ∙ ap (pairs_of z c.args.words.now) all, all)

pub bounds-words-cell-in-loop-3 : goal.bounds-words-cell-in-loop-3
bounds-words-cell-in-loop-3 c = let z = c.args.layout.now in let words = c.args.words.now in
    subst (λ (p : ℕ). p < length words) (sym c.cell-in-loop-3.ensures)
    (cell_in z words c.requires.rule c.loop.number 2
    (in_range z words c.requires.rule c.loop.number c.loop.invariant.along c.if-number-eq0.false) (omega arith))
