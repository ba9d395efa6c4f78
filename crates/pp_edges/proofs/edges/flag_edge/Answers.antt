use Rattle.std.proofs.Common.{◌≡◌, ℕ, ◌+◌, [], refl, sym, subst, eqb}
use prog.Atomic.{either}
use Rattle.pp_base.specs.Sources.{source_place}
use Rattle.pp_base.specs.Passes.{known, view}
use Rattle.pp_base.proofs.Telling.{telling}
use Rattle.pp_model.specs.Calls.{key_of}
use Rattle.pp_trees.specs.Searches.{Trees}
use Rattle.pp_trees.specs.Edges.{MayFlag, Flags}
use Rattle.pp_trees.proofs.Allowing.{flags_edge}
use Rattle.pp_edges.specs.Edging.{FlagsAt}
use Rattle.pp_base.proofs.Staying.{keeping_stays, same_stays}
use Rattle.pp_edges.proofs.Staying.{flags_stays}
use Rattle.pp_edges.proofs.edges.flag_edge.Goals as goal

pub exchange_word-requires-clause-allows : goal.exchange_word-requires-clause-allows
exchange_word-requires-clause-allows c = let z = c.args.pool.now.layout in let me = c.args.pass.now.seat.me in
    let q = known c.args.pass.now.seat in let place = c.locate-place.result in let k = key_of q.own.call in
    let leaf = c.requires.may.leaf in let first = c.word-expected.result in let p0 = source_place z q c.args.parent c.args.side in
    let may : MayFlag z q leaf place k first = subst (λ (p : ℕ). MayFlag z q leaf p k first) (sym c.locate-place.ensures.place)
    (subst (λ (w : ℕ). MayFlag z q leaf p0 k w) (sym c.word-expected.ensures.word) c.requires.may.may) in
    λ s h deep at fits. let r = telling 2 _ (λ z words g. Trees z words g) z 0 _ me place (λ n. either (eqb n first)
    (first + 1) n)
    (λ n m'. (m'.1 ≡ []) × Flags leaf place k first n me.0 m'.0)
    (flags_edge _ z 0 _ leaf place k first me c.args.pass.now.keeping.lone may)
    (λ n m t. (flags_stays t.0 leaf place k first n t.1).lone) s h deep at fits in (
      r.0,
      r.1,
      r.2,
      r.3,
      (
        (
          r.4.0.0,
          record {
            leaf = leaf;
            holds = record { low = may.leaf_low; held = may.leaf_held; leads = may.leaf_is };
            made = r.4.0.1;
          },
        ),
        r.4.1,
      ),
    )

pub invariant_of-pass : goal.invariant_of-pass
invariant_of-pass c = let pass = c.args.pass.now in let t = c.exchange_word.ensures.told in
    let seat = c.exchange_word.new.seat in record {
      keeping = keeping_stays 5 2 pass.seat seat _ _ _ _ _ pass.keeping t.1 (flags_stays t.0.0 _ _ _ _ _ t.0.1.made);
      run = c.exchange_word.ensures.run;
    }

pub returns : goal.returns
returns c = let pass = c.args.pass.now in let t = c.exchange_word.ensures.told in let seat = c.exchange_word.new.seat in
    let result = c.exchange_word.result in let p0 = source_place c.args.pool.now.layout
    (known pass.seat) c.args.parent c.args.side in record {
      same = same_stays pass.seat seat (flags_stays t.0.0 _ _ _ _ _ t.0.1.made) c.exchange_word.ensures.table;
      flags = subst (λ (w : ℕ). FlagsAt p0 w result (view pass.seat) (view seat)) c.word-expected.ensures.word
          (subst (λ (p : ℕ). FlagsAt p c.word-expected.result result (view pass.seat)
          (view seat)) c.locate-place.ensures.place t.0.1);
      walk = refl;
      purse = refl;
    }
