use Rattle.std.proofs.Common.{◌≡◌, ◌<◌, true, ℕ, [], refl, sym, ap, ◌∙◌, subst}
use Rattle.pp_link.specs.Places.{cell_place}
use Rattle.pp_rule.specs.Views.{slot}
use Rattle.pp_base.specs.Passes.{known, view}
use Rattle.pp_base.proofs.Telling.{telling}
use Rattle.pp_queues.specs.Queues.{Queues}
use Rattle.pp_queues.specs.Turns.{Looked}
use Rattle.pp_queues.proofs.Loading.{looks}
use Rattle.pp_base.proofs.Staying.{keeping_stays, same_stays}
use Rattle.pp_queue.proofs.Staying.{looked_stays}
use Rattle.pp_queue.proofs.steps.look.Goals as goal

pub load_word-requires-clause-allows : goal.load_word-requires-clause-allows
load_word-requires-clause-allows c = let z = c.args.pool.now.layout in let me = c.args.pass.now.seat.me in
    let q = known c.args.pass.now.seat in
    telling 1 _ Queues z 0 _ me _ (λ n. n) (λ n m'. (m'.1 ≡ []) × Looked c.locate-place.result n me.0 m'.0)
    (looks _ z 0 _ _ me c.args.pass.now.keeping.lone c.requires.two (subst (λ (i : ℕ). i < 5) (sym c.requires.at) c.requires.word)
    (subst (λ (i : ℕ). (slot q i).held ≡ true) (sym c.requires.at) c.requires.held)
    (c.locate-place.ensures.place ∙ ap (λ (i : ℕ). cell_place z (slot q i).named 2) (sym c.requires.at)))
    (λ n m t. (looked_stays t.0 _ n t.1).lone)

pub invariant_of-pass : goal.invariant_of-pass
invariant_of-pass c = let pass = c.args.pass.now in let t = c.load_word.ensures.told in let seat = c.load_word.new.seat in
    record {
      keeping = keeping_stays 1 1 pass.seat seat _ _ _ _ _ pass.keeping t.1 (looked_stays t.0.0 _ _ t.0.1);
      run = c.load_word.ensures.run;
    }

pub returns : goal.returns
returns c = let pass = c.args.pass.now in let t = c.load_word.ensures.told in let seat = c.load_word.new.seat in
    let result = c.load_word.result in record {
      same = same_stays pass.seat seat (looked_stays t.0.0 _ _ t.0.1) c.load_word.ensures.table;
      looked = subst (λ (p : ℕ). Looked p result (view pass.seat) (view seat)) c.locate-place.ensures.place t.0.1;
      walk = refl;
      purse = refl;
    }
