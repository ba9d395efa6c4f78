use Rattle.std.proofs.Common.{◌≡◌, ℕ, [], sym, subst, eqb}
use prog.Atomic.{either}
use Rattle.pp_link.specs.Links.{word_of}
use Rattle.pp_base.specs.declared.source.Side.TheVariants.{Left}
use Rattle.pp_base.specs.Sources.{source_place}
use Rattle.pp_base.specs.Passes.{known, view}
use Rattle.pp_base.proofs.Telling.{telling}
use Rattle.pp_lists.specs.Lists.{Lists}
use Rattle.pp_lists.specs.Turns.{MayPublish, Published}
use Rattle.pp_lists.proofs.Adding.{publishes_one}
use Rattle.pp_walk.specs.Steps.{PublishedAt}
use Rattle.pp_walk.proofs.Staying.{keeping_published, same_published, published_lone}
use Rattle.pp_walk.proofs.steps.publish.Goals as goal

pub exchange_word-requires-clause-allows : goal.exchange_word-requires-clause-allows
exchange_word-requires-clause-allows c = let z = c.args.pool.now.layout in let me = c.args.pass.now.seat.me in
    let q = known c.args.pass.now.seat in
    let may = c.requires.may in let place = c.locate-place.result in let k = c.args.pair.0 in let v = c.args.pair.1 in
    let first = c.word.result in let new = c.word-2.result in let p0 = source_place z q c.args.at Left in
    let here : MayPublish z q may.index may.was place k v first new =
    subst (λ (p : ℕ). MayPublish z q may.index may.was p k v first new) (sym c.locate-place.ensures.place)
    (subst (λ (w : ℕ). MayPublish z q may.index may.was p0 k v w new) (sym c.word.ensures.word)
    (subst (λ (w : ℕ). MayPublish z q may.index may.was p0 k v (word_of c.args.first) w) (sym c.word-2.ensures.word) may.may)) in
    λ s h deep at fits. let r = telling 1 _ Lists z 0 _ me place (λ n. either (eqb n first) new n)
    (λ n m'. (m'.1 ≡ []) × Published may.index may.was.number place k v first new n me.0 m'.0)
    (publishes_one _ z 0 _ may.index may.was place k v first new me c.args.pass.now.keeping.lone here)
    (λ n m t. published_lone may.index may.was.number place k v first new n me.0 m t.0 t.1) s h deep at fits in (
      r.0,
      r.1,
      r.2,
      r.3,
      (
        (
          r.4.0.0,
          record {
            index = may.index;
            was = may.was;
            at = here.owned_at;
            number_is = may.number_is;
            made = r.4.0.1;
          },
        ),
        r.4.1,
      ),
    )

pub invariant_of-pass : goal.invariant_of-pass
invariant_of-pass c = let pass = c.args.pass.now in let t = c.exchange_word.ensures.told in let seat = c.exchange_word.new.seat in record {
  keeping = keeping_published pass.seat seat _ _ _ _ _ _ _ _ _ _ _ _ pass.keeping t.1 t.0.0 c.requires.may.taken t.0.1;
  run = c.exchange_word.ensures.run;
}

pub returns-clause-same : goal.returns-clause-same
returns-clause-same c = let pass = c.args.pass.now in let t = c.exchange_word.ensures.told in let seat = c.exchange_word.new.seat in
    same_published pass.seat seat _ _ _ _ _ _ _ _ _ _ _ _ pass.keeping t.1 t.0.0 c.requires.may.taken t.0.1 c.exchange_word.ensures.table

pub returns-clause-published : goal.returns-clause-published
returns-clause-published c = let pass = c.args.pass.now in let t = c.exchange_word.ensures.told in let seat = c.exchange_word.new.seat in
    let p0 = source_place c.args.pool.now.layout (known pass.seat) c.args.at Left in
    subst (λ (w : ℕ). PublishedAt c.args.number p0 c.args.pair.0 c.args.pair.1 w (word_of c.args.new) c.exchange_word.result
    (view pass.seat) (view seat)) c.word.ensures.word
    (subst (λ (w : ℕ). PublishedAt c.args.number p0 c.args.pair.0 c.args.pair.1 c.word.result w c.exchange_word.result
    (view pass.seat) (view seat)) c.word-2.ensures.word
    (subst (λ (p : ℕ). PublishedAt c.args.number p c.args.pair.0 c.args.pair.1 c.word.result c.word-2.result c.exchange_word.result
    (view pass.seat) (view seat)) c.locate-place.ensures.place t.0.1))
