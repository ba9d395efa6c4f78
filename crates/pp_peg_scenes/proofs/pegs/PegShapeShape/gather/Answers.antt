use Rattle.std.proofs.Common.{◌≡◌, ◌-◌, ◌∙◌, ◌++◌, ◌∷◌, ◌<◌, ◌*◌, [], ℕ, List, ap, sym, subst, map, length, arith}
use Rattle.pp_link.specs.Links.{target}
use Rattle.pp_link.specs.Words.{head_word}
use Rattle.pp_model.specs.declared.Pair.{Pair}
use Rattle.pp_rule.specs.Opening.{numbers_from}
use Rattle.pp_peg_scenes.specs.Pegs.{next_peg, pair_of, pegs_from}
use Rattle.pp_peg_scenes.specs.PegLaws.{next_few, some_head}
use Rattle.pp_peg_scenes.specs.PegLists.{as_many, from_length, from_none, from_step, pairs_more, pegs_none, pegs_some, word_at}
use Rattle.pp_peg_scenes.proofs.pegs.PegShapeShape.gather.Goals as goal

pub unpacked-requires : goal.unpacked-requires
unpacked-requires c = let z = c.args.layout.now in let words = c.args.words.now in let base = c.requires.rule.1 in
    let leads = base.links.heads 0 (some_head z base.within) in
    subst (λ (w : ℕ). w < 68719476736) (sym (word_at z words c.head_word.result c.head_word.ensures)) leads.small

pub returns-then-first-eq0 : goal.returns-then-first-eq0
returns-then-first-eq0 c = let z = c.args.layout.now in let words = c.args.words.now in
    let first : target (head_word words z 0) ≡ 0 = ap target (sym (word_at z words c.head_word.result c.head_word.ensures))
    ∙ (sym c.unpacked.ensures.number ∙ (sym c.number-first.ensures ∙ c.if-first-eq0.true)) in
    let none = pegs_none (target (head_word words z 0)) first in
    (c.requires.none.0 ∙ sym (ap (λ (l : List ℕ). map pair_of l) none), c.requires.none.1 ∙ sym none)

pub loop-number-init : goal.loop-number-init
loop-number-init c = let n = c.number-first.result in let none : numbers_from n (n - n) ≡ [] =
    ap (numbers_from n) (let nil : n - n ≡ 0 = omega arith in nil) ∙ from_none n in
    let z = c.args.layout.now in let words = c.args.words.now in let rule = c.requires.rule.2 in let few = next_few rule.out in
    let is : n ≡ target (head_word words z 0) = c.number-first.ensures
    ∙ (c.unpacked.ensures.number ∙ ap target (word_at z words c.head_word.result c.head_word.ensures)) in record {
      above = omega arith;
      below = let leads : n ≡ target (16 * next_peg rule.out) = is ∙ ap target rule.head in omega arith;
      live = c.requires.none.1 ∙ sym none;
      contents = c.requires.none.0 ∙ sym (ap (λ (l : List ℕ). map pair_of l) none);
      live_room = c.requires.room.1;
      contents_room = c.requires.room.0;
    }

pub enter-requires : goal.enter-requires
enter-requires c = let first = c.number-first.result in let n = c.loop-number.number in let base = c.requires.rule.1 in
    let count = from_length first (n - first) in let pairs = as_many (numbers_from first (n - first)) in
    let long = ap (λ (l : List Pair). length l) c.loop-number.invariant.contents in
    let room = c.loop-number.invariant.contents_room in omega (arith, base.within.some_records, c.if-first-eq0.false)

pub enter-requires-in-loop-number : goal.enter-requires-in-loop-number
enter-requires-in-loop-number c = let first = c.number-first.result in let n = c.loop-number.number in
    let base = c.requires.rule.1 in
    let count = from_length first (n - first) in
    let long = ap (λ (l : List ℕ). length l) c.loop-number.invariant.live in
    let room = c.loop-number.invariant.live_room in omega (arith, base.within.some_records, c.if-first-eq0.false)

pub loop-number-preserved : goal.loop-number-preserved
loop-number-preserved c = let first = c.number-first.result in let n = c.loop-number.number in let i = c.loop-number.invariant in
    let more = from_step first n i.above in record {
      above = omega arith;
      below = omega arith;
      live = c.enter-in-loop-number.ensures.items ∙ (ap (λ (l : List ℕ). l ++ n ∷ []) i.live ∙ sym more);
      contents = c.enter.ensures.items ∙ (ap (λ (l : List Pair). l ++ c.pair.result ∷ []) i.contents
          ∙ (ap (λ (p : Pair). map pair_of (numbers_from first (n - first)) ++ p ∷ []) c.pair.ensures
          ∙ (sym (pairs_more (numbers_from first (n - first)) n) ∙ ap (λ (l : List ℕ). map pair_of l) (sym more))));
      live_room = let a = i.live_room in let b = c.enter-in-loop-number.ensures.room in omega arith;
      contents_room = let a = i.contents_room in let b = c.enter.ensures.room in omega arith;
    }

pub returns : goal.returns
returns c = let z = c.args.layout.now in let words = c.args.words.now in let first = c.number-first.result in
    let i = c.loop-number.invariant in let n = c.loop-number.number in
    let is : first ≡ target (head_word words z 0) = c.number-first.ensures
    ∙ (c.unpacked.ensures.number ∙ ap target (word_at z words c.head_word.result c.head_word.ensures)) in
    let count : n - first ≡ 6 - first = omega arith in
    let all : numbers_from first (n - first) ≡ pegs_from (target (head_word words z 0)) = ap (numbers_from first) count
    ∙ (sym (pegs_some first c.if-first-eq0.false) ∙ ap pegs_from is) in
    (i.contents ∙ ap (λ (l : List ℕ). map pair_of l) all, i.live ∙ all)
