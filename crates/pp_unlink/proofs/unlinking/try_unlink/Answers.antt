use Rattle.std.proofs.Common.{◌≢◌, ℕ, List, sym, ap, ◌∙◌, subst}
use Rattle.pp_link.specs.Links.{word_of, target}
use Rattle.pp_rule.specs.Lists.{IsIn}
use Rattle.pp_rule.specs.Steps.{IsUnused}
use Rattle.pp_rule.proofs.Made.{known_after}
use Rattle.pp_base.specs.Passes.{known, view}
use Rattle.pp_base.specs.Chains.{GuardedBy}
use Rattle.pp_base.proofs.Chaining.{word_target}
use Rattle.pp_rule.specs.declared.views.Chain.{Chain}
use Rattle.pp_rule.specs.declared.views.PassState.{PassState}
use Rattle.pp_base.proofs.Learning.{SameButWalk, learns_walk}
use Rattle.pp_unlink.specs.Unlinking.{GuardsNone, Misses}
use Rattle.pp_unlink.proofs.Settling.{rest_detached, rest_learnt}
use Rattle.pp_unlink.proofs.Exchanging.{unused_of, exchanges, exchanged_known, taken_is, misses_it, missed_known}
use Rattle.pp_unlink.proofs.unlinking.try_unlink.Goals as goal

pub guard-requires-clause-unused : goal.guard-requires-clause-unused
guard-requires-clause-unused g c = let now = c.flush_full.new.pass in
    unused_of (known now.seat) now.purse.chains.items c.free_word-word.result now.keeping.chains
    (subst (λ hs. GuardsNone c.free_word-word.result hs) c.deref.ensures.value c.free_word-word.ensures.free)

pub detach-found-requires-clause-unused : goal.detach-found-requires-clause-unused
detach-found-requires-clause-unused g c = let now = c.flush_full.new.pass in let word : ℕ = c.free_word-word.result in
    let known_is = known_after _ _ _ _ _ _ _ (view now.seat) (view c.guard.new.pass.seat) c.guard.ensures.made in
    λ d i. unused_of (known now.seat) now.purse.chains.items word now.keeping.chains
    (subst (λ hs. GuardsNone word hs) c.deref.ensures.value c.free_word-word.ensures.free) d
    (subst (λ q. IsIn d q.chains) known_is i)

pub returns-then-found-word-clause-unlinks : goal.returns-then-found-word-clause-unlinks
returns-then-found-word-clause-unlinks g c = let S = g.S.Shape in let pass = c.args.pass.now in let now = c.flush_full.new.pass in
    let z = c.args.pool.now.layout in let word : ℕ = c.free_word-word.result in
    let unused : IsUnused word (known now.seat) = unused_of (known now.seat) now.purse.chains.items word now.keeping.chains
    (subst (λ hs. GuardsNone word hs) c.deref.ensures.value c.free_word-word.ensures.free) in
    let guarded : GuardedBy z word (target (word_of c.args.frontier)) now.seat c.guard.new.pass.seat =
    subst (λ (n : ℕ). GuardedBy z word n now.seat c.guard.new.pass.seat) (c.number.ensures ∙ sym (word_target c.args.frontier))
    c.guard.ensures.made in
    exchanges S.SIDES z S.frozen S.chain c.args.at c.args.side (word_of c.args.first)
    (word_of c.args.frontier) word pass.seat now.seat
    c.guard.new.pass.seat c.detach-found.new.pass.seat c.flush_full.ensures.flushed c.flush_full.ensures.held
    c.free_word-word.ensures.low unused guarded c.detach-found.result c.detach-found.ensures.made
    (c.if-found-word.true ∙ c.word.ensures.word)

pub returns-then-found-word-clause-rest : goal.returns-then-found-word-clause-rest
returns-then-found-word-clause-rest g c = let S = g.S.Shape in let pass = c.args.pass.now in let now = c.flush_full.new.pass in
    let z = c.args.pool.now.layout in let word : ℕ = c.free_word-word.result in
    let first : ℕ = word_of c.args.first in let new : ℕ = word_of c.args.frontier in
    let unused : IsUnused word (known now.seat) = unused_of (known now.seat) now.purse.chains.items word now.keeping.chains
    (subst (λ hs. GuardsNone word hs) c.deref.ensures.value c.free_word-word.ensures.free) in
    let guarded : GuardedBy z word (target new) now.seat c.guard.new.pass.seat =
    subst (λ (n : ℕ). GuardedBy z word n now.seat c.guard.new.pass.seat) (c.number.ensures ∙ sym (word_target c.args.frontier))
    c.guard.ensures.made in
    let hit = c.if-found-word.true ∙ c.word.ensures.word in
    let made = exchanged_known S.SIDES z S.frozen S.chain c.args.at c.args.side first new word pass.seat now.seat
    c.guard.new.pass.seat c.detach-found.new.pass.seat c.flush_full.ensures.flushed c.flush_full.ensures.held
    c.free_word-word.ensures.low unused guarded c.detach-found.result c.detach-found.ensures.made hit in
    let law = c.detach-found.ensures.order hit in
    let same = taken_is S.SIDES z S.frozen S.chain c.args.at c.args.side first new word pass.seat now.seat
    c.guard.new.pass.seat c.detach-found.new.pass.seat c.flush_full.ensures.flushed c.flush_full.ensures.held
    c.free_word-word.ensures.low unused guarded in
    let took = c.detach-found.ensures.purse.taken hit in
    rest_detached (known now.seat) (known c.detach-found.new.pass.seat) now.purse c.detach-found.new.pass.purse
    (S.chain (known pass.seat).walk (known pass.seat).own word first new) word (target new) (known now.seat).own made
    (ap (λ x. x.guard) (sym same) ∙ law.guard_is)
    (took.spent ∙ (ap (λ p. p.spent) c.guard.ensures.purse ∙ c.flush_full.ensures.rest.spent)) c.flush_full.ensures.rest

pub unguard-requires-clause-unused : goal.unguard-requires-clause-unused
unguard-requires-clause-unused g c = let S = g.S.Shape in let now = c.flush_full.new.pass in
    let word : ℕ = c.free_word-word.result in
    let guarded = known_after _ _ _ _ _ _ _ (view now.seat) (view c.guard.new.pass.seat) c.guard.ensures.made in
    let missed = known_after _ _ _ _ _ _ _ (view c.guard.new.pass.seat) (view c.detach-found.new.pass.seat)
    (c.detach-found.ensures.made.other (λ e. c.if-found-word.false (e ∙ sym c.word.ensures.word))) in
    λ d i. unused_of (known now.seat) now.purse.chains.items word now.keeping.chains
    (subst (λ hs. GuardsNone word hs) c.deref.ensures.value c.free_word-word.ensures.free) d
    (subst (λ (l : List Chain). IsIn d l) (ap (λ q. q.chains) missed
    ∙ ((learns_walk S.frozen c.args.at c.args.side c.detach-found.result (known c.guard.new.pass.seat)).chains ∙ ap
    (λ q. q.chains) guarded)) i)

pub returns-clause-unlinks : goal.returns-clause-unlinks
returns-clause-unlinks g c = let S = g.S.Shape in let pass = c.args.pass.now in let now = c.flush_full.new.pass in
    let z = c.args.pool.now.layout in let word : ℕ = c.free_word-word.result in
    let first : ℕ = word_of c.args.first in let new : ℕ = word_of c.args.frontier in
    let unused : IsUnused word (known now.seat) = unused_of (known now.seat) now.purse.chains.items word now.keeping.chains
    (subst (λ hs. GuardsNone word hs) c.deref.ensures.value c.free_word-word.ensures.free) in
    let guarded : GuardedBy z word (target new) now.seat c.guard.new.pass.seat =
    subst (λ (n : ℕ). GuardedBy z word n now.seat c.guard.new.pass.seat) (c.number.ensures ∙ sym (word_target c.args.frontier))
    c.guard.ensures.made in
    let other : c.detach-found.result ≢ first = λ e. c.if-found-word.false (e ∙ sym c.word.ensures.word) in
    subst (λ (found : ℕ). Misses S.SIDES z S.frozen S.chain c.args.at c.args.side first new (view pass.seat)
    (view c.unguard.new.pass.seat) found) (sym c.unpacked.ensures.word)
    (misses_it S.SIDES z S.frozen S.chain c.args.at c.args.side first new word pass.seat now.seat
    c.guard.new.pass.seat c.detach-found.new.pass.seat c.flush_full.ensures.flushed c.flush_full.ensures.held
    c.free_word-word.ensures.low unused guarded c.detach-found.result now.purse c.unguard.new.pass.seat c.detach-found.ensures.made other
    c.unguard.ensures.made c.flush_full.ensures.rest)

pub returns-clause-rest : goal.returns-clause-rest
returns-clause-rest g c = let S = g.S.Shape in let pass = c.args.pass.now in let now = c.flush_full.new.pass in
    let z = c.args.pool.now.layout in let word : ℕ = c.free_word-word.result in
    let first : ℕ = word_of c.args.first in let new : ℕ = word_of c.args.frontier in
    let unused : IsUnused word (known now.seat) = unused_of (known now.seat) now.purse.chains.items word now.keeping.chains
    (subst (λ hs. GuardsNone word hs) c.deref.ensures.value c.free_word-word.ensures.free) in
    let guarded : GuardedBy z word (target new) now.seat c.guard.new.pass.seat =
    subst (λ (n : ℕ). GuardedBy z word n now.seat c.guard.new.pass.seat) (c.number.ensures ∙ sym (word_target c.args.frontier))
    c.guard.ensures.made in
    let other : c.detach-found.result ≢ first = λ e. c.if-found-word.false (e ∙ sym c.word.ensures.word) in
    let kept = c.detach-found.ensures.purse.kept other in
    let is = missed_known S.SIDES z S.frozen S.chain c.args.at c.args.side first new word pass.seat now.seat
    c.guard.new.pass.seat c.detach-found.new.pass.seat c.flush_full.ensures.flushed c.flush_full.ensures.held
    c.free_word-word.ensures.low unused guarded c.detach-found.result now.purse c.unguard.new.pass.seat c.detach-found.ensures.made other
    c.unguard.ensures.made c.flush_full.ensures.rest in
    rest_learnt (known now.seat) (known c.unguard.new.pass.seat) now.purse c.unguard.new.pass.purse
    (subst (λ (q : PassState _). SameButWalk (known now.seat) q) (sym is)
    (learns_walk S.frozen c.args.at c.args.side c.detach-found.result (known now.seat)))
    (ap (λ p. p.spent) c.unguard.ensures.purse ∙ (ap (λ p. p.spent) kept ∙ ap (λ p. p.spent) c.guard.ensures.purse))
    c.flush_full.ensures.rest
