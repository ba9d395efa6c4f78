use Rattle.std.proofs.Common.{◌≡◌, ℕ, ◌+◌, ◌<◌, true, [], refl, sym, subst}
use Rattle.pp_link.specs.Places.{cell_place}
use Rattle.pp_rule.specs.Views.{slot}
use Rattle.pp_base.specs.Sources.{side_number}
use Rattle.pp_base.specs.Passes.{known, view}
use Rattle.pp_base.proofs.Telling.{telling}
use Rattle.pp_base.proofs.Staying.{keeping_stays, same_stays}
use Rattle.pp_trees.specs.Searches.{Trees}
use Rattle.pp_trees.specs.Seeks.{Looks}
use Rattle.pp_trees.proofs.Looking.{looks_at}
use Rattle.pp_seek.proofs.Staying.{looks_stays}
use Rattle.pp_edges.proofs.Splicing.{side_two}
use Rattle.pp_seek.proofs.steps.look.Goals as goal

pub load_word-requires-clause-allows : goal.load_word-requires-clause-allows
load_word-requires-clause-allows c = let z = c.args.pool.now.layout in let me = c.args.pass.now.seat.me in
    let q = known c.args.pass.now.seat in
    let place = c.locate-place.result in let sd = side_number c.args.side in
    telling 2 _ (λ z words g. Trees z words g) z 0 _ me _ (λ n. n) (λ n m'. (m'.1 ≡ []) × Looks sd place n me.0 m'.0)
    (looks_at _ z _ place sd me c.args.pass.now.keeping.lone (subst (λ (x : ℕ). x < 5) (sym c.requires.at) c.requires.word)
    (subst (λ (x : ℕ). (slot q x).held ≡ true) (sym c.requires.at) c.requires.held) (side_two c.args.side) (subst (λ
    (x : ℕ). place ≡ cell_place z (slot q x).named (2 + sd)) (sym c.requires.at) c.locate-place.ensures.place))
    (λ n m t. (looks_stays t.0 sd place n t.1).lone)

pub invariant_of-pass : goal.invariant_of-pass
invariant_of-pass c = let pass = c.args.pass.now in let t = c.load_word.ensures.told in let seat = c.load_word.new.seat in
    let n = c.load_word.result in
    let place = c.locate-place.result in let sd = side_number c.args.side in record {
      keeping = keeping_stays 5 2 pass.seat seat _ _ _ _ _ pass.keeping t.1 (looks_stays t.0.0 sd place n t.0.1);
      run = c.load_word.ensures.run;
    }

pub returns : goal.returns
returns c = let pass = c.args.pass.now in let t = c.load_word.ensures.told in let seat = c.load_word.new.seat in
    let n = c.load_word.result in
    let place = c.locate-place.result in let sd = side_number c.args.side in record {
      same = same_stays pass.seat seat (looks_stays t.0.0 sd place n t.0.1) c.load_word.ensures.table;
      looks = subst (λ (p : ℕ). Looks sd p n (view pass.seat) (view seat)) c.locate-place.ensures.place t.0.1;
      walk = refl;
      purse = refl;
    }
