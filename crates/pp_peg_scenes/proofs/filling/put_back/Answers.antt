use Rattle.std.proofs.Common.{◌<◌, ◌∙◌, ◌*◌, ℕ, sym, ap, refl, subst, arith}
use Rattle.pp_link.specs.Places.{head_place}
use Rattle.pp_rule.specs.Lists.{times}
use Rattle.pp_base.specs.Passes.{known, view, owned_numbers}
use Rattle.pp_peg_scenes.specs.Pegs.{peg_link}
use Rattle.pp_peg_scenes.specs.Puts.{PutBack}
use Rattle.pp_peg_scenes.proofs.Putting.{puts_on, keeping_put, same_put}
use Rattle.pp_peg_scenes.proofs.filling.put_back.Goals as goal

pub exchange_word-requires-clause-allows : goal.exchange_word-requires-clause-allows
exchange_word-requires-clause-allows c = let z = c.args.pool.now.layout in let pass = c.args.pass.now in
    let peg = c.requires.peg in
    let n : ℕ = c.number-number.result in let is = c.number-number.ensures in
    puts_on _ z 0 _ peg.index n c.head_word-place.result _ _ peg.was pass.seat.me pass.keeping.lone peg.at
    (peg.number_is ∙ sym is) (omega (arith, is)) (omega (arith, is)) (peg.left ∙ ap peg_link (sym is)) c.head_word-place.ensures
    (ap (λ (x : ℕ). 16 * x) c.behind.ensures) refl

pub invariant_of-pass : goal.invariant_of-pass
invariant_of-pass c = let pass = c.args.pass.now in let t = c.exchange_word.ensures.told in
    let seat = c.exchange_word.new.seat in record {
      keeping = keeping_put pass.seat seat _ _ _ _ _ _ _ _ pass.keeping t.0.0 t.1
          (subst (λ (x : ℕ). times x pass.purse.free.items < times x (owned_numbers (known pass.seat))) (sym c.number-number.ensures)
          c.requires.private) t.0.1;
      run = c.exchange_word.ensures.run;
    }

pub returns : goal.returns
returns c = let pass = c.args.pass.now in let t = c.exchange_word.ensures.told in let seat = c.exchange_word.new.seat in record {
  same = same_put pass.seat seat _ _ _ t.0.1 c.exchange_word.ensures.table;
  put = subst (λ (x : ℕ). PutBack x (head_place c.args.pool.now.layout 0) c.exchange_word.result (view pass.seat) (view seat))
      c.number-number.ensures (subst (λ (k : ℕ). PutBack c.number-number.result k c.exchange_word.result
      (view pass.seat) (view seat))
      c.head_word-place.ensures t.0.1);
  walk = refl;
  purse = refl;
}
