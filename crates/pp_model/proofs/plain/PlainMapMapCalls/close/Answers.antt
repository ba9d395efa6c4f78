use Rattle.std.proofs.Common.{◌≡◌, ℕ, ◌+◌, ◌-◌, List, [], ◌∷◌, ◌++◌, length, map, sym, ap, ◌∙◌, subst, arith, length-append}
use Rattle.std.proofs.lemmas.List.{nil_from_length}
use Rattle.std.specs.Prelude.{slice_get, Vec}
use Rattle.std.proofs.Common.{Global, Some, get_or}
use Rattle.std.proofs.lemmas.Option.{slice_get-get_or}
use Rattle.pp_model.specs.declared.plain.PlainKept.{PlainKept}
use Rattle.pp_model.specs.declared.Pair.{Pair}
use Rattle.pp_model.specs.Pass.{PassView, MapSizes}
use Rattle.pp_model.specs.Lists.{upto}
use Rattle.pp_model.specs.History.{contents_of}
use Rattle.pp_model.specs.MapCalls.{IsClosing}
use Rattle.pp_model.specs.Plain.{log_of, plain_pass, plain_meaning, plain_sizes, plain_run}
use Rattle.pp_model.proofs.PlainPasses.{plain_closing}
use Rattle.pp_model.proofs.plain.PlainMapMapCalls.close.Goals as goal

-- what was read of the first pass is of the map's size
pub numbers-requires : goal.numbers-requires
numbers-requires c =
    let pass = c.behind-passes.inside in
    let first = slice_get-get_or c.args.passes.items 0 c.index.result.now (omega (arith, c.requires.all)) in
    let view = plain_pass pass.records pass.calls pass.pairs.items pass.placed.items in
    let same : view ≡ get_or c.args.passes.items 0 c.index.result.now = c.behind-passes.view_is ∙ c.index.ensures in
    let here : slice_get c.args.passes.items 0 ≡ Some view = first ∙ ap (λ (v : PassView). Some v) (sym same) in
    let share : pass.records ≡ c.args.self.records = (c.requires.each 0 view here).0.share in
    let own : c.self.inside.records ≡ c.args.self.records = ap (λ (z : MapSizes). z.records) c.self.view_is in
    omega (arith, c.len-kept.ensures, c.behind-passes.invariant.holds.pairs_fit, share, own, pass.pairs.ok)

module _ (c : goal.After-drop-passes) where
  -- the pass is the only one
  only : c.args.passes.items ≡ c.in-Some.pass ∷ []
  only =
      let items = c.in-Some.ensures.items in
      let none : length c.pop.new.self.items ≡ 0 =
      omega (arith, c.requires.all, ap length items, length-append c.pop.new.self.items (c.in-Some.pass ∷ [])) in
      items ∙ ap (λ (ps : List PassView). ps ++ c.in-Some.pass ∷ []) (nil_from_length c.pop.new.self.items none)

  -- what was read of the first pass is what was taken from it
  same : plain_pass c.behind-passes.inside.records c.behind-passes.inside.calls c.behind-passes.inside.pairs.items
      c.behind-passes.inside.placed.items
      ≡ plain_pass c.pass.inside.records c.pass.inside.calls c.pass.inside.pairs.items c.pass.inside.placed.items
  same = c.behind-passes.view_is ∙ ((rw only at c.index.ensures) ∙ sym c.pass.view_is)

  same_pairs : c.behind-passes.inside.pairs.items ≡ c.pass.inside.pairs.items
  same_pairs =
      c.behind-passes.invariant.holds.contents
      ∙ (ap (λ (v : PassView). contents_of (log_of v.mine)) same ∙ sym c.pass.invariant.holds.contents)

  records : c.pass.inside.records ≡ c.args.self.records
  records = let first = c.requires.each 0 c.in-Some.pass (ap (λ ps. slice_get ps 0) only) in
      ap (λ (v : PassView). v.share) c.pass.view_is ∙ first.0.share

pub returns-clause-closed : goal.returns-clause-closed
returns-clause-closed c =
    let pass = c.pass.inside in
    let many = length pass.pairs.items in
    let kept : c.len-kept.result ≡ length pass.pairs.items =
    omega (arith, c.len-kept.ensures, ap length (same_pairs c), c.behind-passes.inside.pairs.ok) in
    let own : c.self.inside.records ≡ c.args.self.records = ap (λ (z : MapSizes). z.records) c.self.view_is in
    let numbers : c.in-Ok.free.items ≡ upto (c.len-kept.result + 1) (c.args.self.records - c.len-kept.result) =
    c.in-Ok.ensures ∙ ap (λ r. upto (c.len-kept.result + 1) (r - c.len-kept.result)) own in
    let free : c.new.result.free.items ≡ upto (length pass.pairs.items + 1) (pass.records - length pass.pairs.items) =
    ap (λ (v : Vec ℕ Global). v.items) c.new.ensures.free
    ∙ (numbers ∙ (ap (λ k. upto (k + 1) (c.args.self.records - k)) kept ∙ ap (λ r. upto (many + 1) (r - many)) (sym (records c)))) in
    let free_items = c.new.result.free.items in
    let closing = plain_closing pass.records pass.calls pass.pairs.items pass.placed.items free_items c.pass.invariant.holds free in
    let view = plain_pass pass.records pass.calls pass.pairs.items pass.placed.items in
    let run = plain_run pass.records pass.placed.items in
    let passes : view ∷ [] ≡ map (λ (p : PassView). p) c.args.passes.items =
    ap (λ (v : PassView). v ∷ []) c.pass.view_is ∙ sym (ap (map (λ (p : PassView). p)) (only c)) in
    let at_sizes = subst (λ r. IsClosing plain_meaning (plain_sizes r) (view ∷ []) pass.pairs.items free_items run) (records c) closing in
    let at_passes = subst (λ ps. IsClosing plain_meaning (plain_sizes c.args.self.records) ps pass.pairs.items free_items run) passes
    at_sizes in
    let at_contents = subst (λ (v : Vec Pair Global). IsClosing plain_meaning (plain_sizes c.args.self.records)
    (map (λ (p : PassView). p) c.args.passes.items) v.items free_items run) (sym c.new.ensures.contents) at_passes in
    subst (λ (w : PlainKept). IsClosing plain_meaning (plain_sizes c.args.self.records) (map (λ (p : PassView). p) c.args.passes.items)
    c.new.result.contents.items free_items (plain_run w.records w.placed.items)) (sym c.new.ensures.witness) at_contents
