use Rattle.std.proofs.Common.{◌≡◌, ℕ, [], refl, sym, subst, eqb}
use prog.Atomic.{either}
use Rattle.pp_link.specs.Links.{target}
use Rattle.pp_base.specs.Sources.{source_place}
use Rattle.pp_base.specs.Passes.{known, view}
use Rattle.pp_base.proofs.Telling.{telling}
use Rattle.pp_trees.specs.Searches.{Trees}
use Rattle.pp_edges.proofs.Adding.{publishes_at}
use Rattle.pp_edges.specs.Edging.{MayPublishAt, PublishesAt}
use Rattle.pp_pool.specs.Taken.{IsPrivate}
use Rattle.pp_edges.proofs.Splicing.{to_inner, sixteen_of}
use Rattle.pp_edges.proofs.Staying.{publishes_alone, keeping_published, same_published}
use Rattle.pp_edges.proofs.edges.publish_pair.Goals as goal

pub exchange_word-requires-clause-allows : goal.exchange_word-requires-clause-allows
exchange_word-requires-clause-allows c = let z = c.args.pool.now.layout in let me = c.args.pass.now.seat.me in
    let q = known c.args.pass.now.seat in
    let place = c.locate-place.result in let first = c.word.result in let new = c.word-2.result in
    let p0 = source_place z q c.args.parent c.args.side in let n0 = c.args.inner.now.number in
    let to : target new ≡ n0 = to_inner n0 c.number.result c.pack-new.result new c.number.ensures c.pack-new.ensures
    c.word-2.ensures.word in
    let may : MayPublishAt z q c.number-2.result (target new) place first = subst (λ (n : ℕ). MayPublishAt z q n
    (target new) place first) (sym c.number-2.ensures)
    (subst (λ (n : ℕ). MayPublishAt z q c.args.leaf.now.number n place first) (sym to)
    (subst (λ (p : ℕ). MayPublishAt z q c.args.leaf.now.number n0 p first) (sym c.locate-place.ensures.place)
    (subst (λ (w : ℕ). MayPublishAt z q c.args.leaf.now.number n0 p0 w) (sym c.word.ensures.word) c.requires.may))) in
    telling 2 _ (λ z words g. Trees z words g) z 0 _ me place (λ n. either (eqb n first) new n)
    (λ n m'. (m'.1 ≡ []) × PublishesAt c.number-2.result (target new) place first n me.0 m'.0)
    (publishes_at _ z _ c.number-2.result (target new) place first new me c.args.pass.now.keeping.lone may
    (sixteen_of n0 c.number.result c.pack-new.result new c.number.ensures c.pack-new.ensures c.word-2.ensures.word))
    (λ n m t. publishes_alone _ _ _ _ _ _ _ _ n me.0 m t.0 t.1.made)

pub invariant_of-pass : goal.invariant_of-pass
invariant_of-pass c = let pass = c.args.pass.now in let t = c.exchange_word.ensures.told in let seat = c.exchange_word.new.seat in
    let m = c.number-2.result in let n0 = target c.word-2.result in record {
      keeping = keeping_published pass.seat seat _ _ _ _ _ m n0 _ _ _ pass.keeping t.1 t.0.0
          (subst (λ (n : ℕ). IsPrivate (known pass.seat) pass.purse n) (sym c.number-2.ensures) c.requires.leaf)
          (subst (λ (n : ℕ). IsPrivate (known pass.seat) pass.purse n) (sym
          (to_inner c.args.inner.now.number c.number.result c.pack-new.result c.word-2.result c.number.ensures
          c.pack-new.ensures c.word-2.ensures.word)) c.requires.inner) t.0.1;
      run = c.exchange_word.ensures.run;
    }

pub returns : goal.returns
returns c = let pass = c.args.pass.now in let t = c.exchange_word.ensures.told in let seat = c.exchange_word.new.seat in
    let result = c.exchange_word.result in let p0 = source_place c.args.pool.now.layout
    (known pass.seat) c.args.parent c.args.side in
    let m = c.number-2.result in let n0 = target c.word-2.result in let first = c.word.result in record {
      same = same_published pass.seat seat _ _ _ _ _ m n0 _ _ _ pass.keeping t.1 t.0.0
          (subst (λ (n : ℕ). IsPrivate (known pass.seat) pass.purse n) (sym c.number-2.ensures) c.requires.leaf)
          (subst (λ (n : ℕ). IsPrivate (known pass.seat) pass.purse n) (sym
          (to_inner c.args.inner.now.number c.number.result c.pack-new.result c.word-2.result c.number.ensures
          c.pack-new.ensures c.word-2.ensures.word)) c.requires.inner) t.0.1 c.exchange_word.ensures.table;
      publishes = subst (λ (w : ℕ). PublishesAt c.args.leaf.now.number c.args.inner.now.number p0 w result (view pass.seat)
          (view seat)) c.word.ensures.word
          (subst (λ (p : ℕ). PublishesAt c.args.leaf.now.number c.args.inner.now.number p first result (view pass.seat)
          (view seat)) c.locate-place.ensures.place
          (subst (λ (n : ℕ). PublishesAt c.args.leaf.now.number n c.locate-place.result first result (view pass.seat)
          (view seat)) (to_inner c.args.inner.now.number c.number.result c.pack-new.result c.word-2.result c.number.ensures
          c.pack-new.ensures c.word-2.ensures.word)
          (subst (λ (n : ℕ). PublishesAt n n0 c.locate-place.result first result (view pass.seat)
          (view seat)) c.number-2.ensures t.0.1)));
      walk = refl;
      purse = refl;
    }
