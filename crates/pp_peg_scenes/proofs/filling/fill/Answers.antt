use Rattle.std.proofs.Common.{◌≡◌, ◌∙◌, ◌+◌, ◌*◌, ℕ, sym, ap, arith}
use Rattle.pp_link.specs.Links.{word_of}
use Rattle.pp_base.specs.Passes.{view}
use Rattle.pp_peg_scenes.specs.Pegs.{next_peg, peg_link}
use Rattle.pp_peg_scenes.proofs.Putting.{has_peg, put_published}
use Rattle.pp_peg_scenes.proofs.filling.fill.Goals as goal

pub put_back-found-requires-clause-peg : goal.put_back-found-requires-clause-peg
put_back-found-requires-clause-peg g c =
    let number : c.in-Some.fresh.number ≡ c.args.peg = omega arith in
    let leads : word_of c.pack-link.result ≡ 16 * c.behind-next.result + 1 = ap word_of c.pack-link.ensures ∙ omega arith in
    let next : 16 * c.behind-next.result + 1 ≡ peg_link c.args.peg = ap (λ (n : ℕ). 16 * n + 1) c.behind-next.ensures in
    has_peg c.in-Some.fresh.number (word_of c.pack-link.result) _ (view c.set_value.new.pass.seat) (view c.set_link.new.pass.seat)
    c.set_link.ensures.wrote (leads ∙ (next ∙ ap peg_link (sym number)))

pub published-requires : goal.published-requires
published-requires g c = let before = c.set_link.new.pass in let now = c.put_back-found.new.pass in
    let number : c.in-Some.fresh.number ≡ c.args.peg = omega arith in
    let found : c.put_back-found.result ≡ 16 * c.behind-next.result = omega arith in
    put_published before.seat now.seat _ _ _ before.purse now.purse c.in-Some.fresh.number _ c.put_back-found.result before.keeping
    c.put_back-found.ensures.put
    (found ∙ (ap (λ (n : ℕ). 16 * n) c.behind-next.ensures ∙ ap (λ (n : ℕ). 16 * next_peg n) (sym number)))
    c.put_back-found.ensures.purse c.set_link.ensures.private
