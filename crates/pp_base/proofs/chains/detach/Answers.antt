use Rattle.std.proofs.Common.{◌≡◌, ℕ, sym, ap, ◌∙◌, subst}
use Rattle.pp_link.specs.Links.{word_of, target}
use Rattle.pp_rule.specs.declared.views.Chain.{Chain}
use Rattle.pp_rule.specs.Paths.{IsChainTo}
use Rattle.pp_base.specs.declared.purse.InHand.{InHand}
use Rattle.pp_base.specs.Passes.{known, in_hand_of}
use Rattle.pp_base.specs.Sources.{source_place}
use Rattle.pp_base.proofs.Chaining.{detaches_on, word_target, in_hand_is, chained_first, keeping_taken}
use Rattle.pp_base.proofs.Steady.{keeping_loaded}
use Rattle.pp_base.proofs.Telling.{made_alone, made_known}
use Rattle.pp_base.proofs.chains.detach.Goals as goal

pub exchange_word-found-requires-clause-allows : goal.exchange_word-found-requires-clause-allows
exchange_word-found-requires-clause-allows g c = let S = g.S.Shape in let z = c.args.pool.now.layout in let pass = c.args.pass.now in
    let q = known pass.seat in let first : ℕ = c.word-expected.result in let new : ℕ = c.word.result in
    detaches_on S.SIDES _ S.addition z _ _ _ pass.seat.me g.met.S.Shape.alike S.frozen g.met.S.Shape.freezes S.chain S.may_detach
    g.met.S.Shape.chained g.met.S.Shape.detaches
    g.met.S.Shape.detached c.args.word first new c.args.at c.args.side pass.keeping.lone c.requires.readable
    c.locate-place.ensures.place
    (subst (λ (n : ℕ). S.may_detach z q.walk q.own (source_place z q c.args.at c.args.side) first n) (sym c.word.ensures.word)
    (subst (λ (n : ℕ). S.may_detach z q.walk q.own (source_place z q c.args.at c.args.side) n (word_of c.args.new))
    (sym c.word-expected.ensures.word) c.requires.may))
    c.requires.word (c.requires.named ∙ (sym (word_target c.args.new) ∙ ap target (sym c.word.ensures.word))) c.requires.unused

pub invariant_of-pass : goal.invariant_of-pass
invariant_of-pass g c = let S = g.S.Shape in let z = c.args.pool.now.layout in let pass = c.args.pass.now in let q = known pass.seat in
    let first : ℕ = c.word-expected.result in let new : ℕ = c.word.result in let word : ℕ = c.args.word in
    let chain : Chain = S.chain q.walk q.own word first new in
    let t = c.exchange_word-found.ensures.told in let seat = c.exchange_word-found.new.seat in
    let law : IsChainTo S.SIDES word (target first) (target new) chain = t.0.2 c.if-found-expected.true in
    let begin : target first ≡ c.number-first.result =
    ap target c.word-expected.ensures.word ∙ (word_target c.args.first ∙ sym c.number-first.ensures) in
    let end : target new ≡ c.number-frontier.result =
    ap target c.word.ensures.word ∙ (word_target c.args.new ∙ sym c.number-frontier.ensures) in
    let hand : InHand = record { first = c.number-first.result; guard = word; frontier = c.number-frontier.result } in
    let kept : in_hand_of chain ≡ hand = in_hand_is S.SIDES word (target first) (target new) chain law
    ∙ (λ i. record { first = begin i; guard = word; frontier = end i }) in
    let made = t.0.1.same c.if-found-expected.true in record {
      keeping = keeping_taken S.SENTINELS S.SIDES pass.seat seat _ _ _ _ _ _ chain hand q.own pass.keeping
          (made_alone seat.me t.0.0 made) t.1 kept
          (chained_first S.SIDES word (target first) (target new) chain law) c.requires.few c.take_in_hand.ensures
          (made_known seat.me made);
      run = c.exchange_word-found.ensures.run;
    }

pub invariant_of-pass-else-found-expected : goal.invariant_of-pass-else-found-expected
invariant_of-pass-else-found-expected g c = let S = g.S.Shape in let pass = c.args.pass.now in
    let t = c.exchange_word-found.ensures.told in let seat = c.exchange_word-found.new.seat in
    let made = t.0.1.other c.if-found-expected.false in record {
      keeping = keeping_loaded S.SENTINELS S.SIDES pass.seat seat _ _ _ _ _ S.frozen c.args.at c.args.side c.exchange_word-found.result
          pass.keeping (made_alone seat.me t.0.0 made) t.1 (made_known seat.me made);
      run = c.exchange_word-found.ensures.run;
    }
