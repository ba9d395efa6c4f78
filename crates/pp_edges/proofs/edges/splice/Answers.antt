use Rattle.std.proofs.Common.{rules, ◌≡◌, ℕ, false, sym, ap, ◌∙◌, subst}
use Rattle.pp_link.specs.Links.{word_of}
use Rattle.pp_base.specs.Passes.{known, view}
use Rattle.pp_base.specs.Sources.{side_number, source_place}
use Rattle.pp_trees.specs.Searches.{MaySpliceHere, tree_chain}
use Rattle.pp_trees.specs.Sentinels.{has_mark}
use Rattle.pp_unlink.specs.Unlinking.{Unlinks}
use Rattle.pp_unlink.specs.declared.unlinking.Unlink.{Unlink}
use Rattle.pp_edges.proofs.Splicing.{may_splice, path_in_hand, plain_link, small_link, place_of, side_two, readable_at}
use Rattle.pp_edges.proofs.edges.splice.Goals as goal

pub try_unlink-requires-clause-readable : goal.try_unlink-requires-clause-readable
try_unlink-requires-clause-readable c = let m = c.requires.may in
    readable_at c.args.pool.now.layout (known c.args.pass.now.seat) c.args.ancestor c.args.side m.0 m.1 m.2.word_low m.2.held

pub try_unlink-requires-clause-may : goal.try_unlink-requires-clause-may
try_unlink-requires-clause-may c = let z = c.args.pool.now.layout in let q = known c.args.pass.now.seat in
    let m = c.requires.may in
    let place = source_place z q c.args.ancestor c.args.side in
    let same : c.pack-new.result ≡ record {
      number = c.args.sibling.number;
      flag = c.args.sibling.flag;
      tag = false;
      invalid =
          false;
      leaf = c.args.sibling.leaf;
    } =
    c.pack-new.ensures ∙ (ap (λ (n : ℕ). record {
      number = n;
      flag = c.flag-flag.result;
      tag = false;
      invalid = false;
      leaf =
          c.leaf.result;
    }) c.number-number.ensures
    ∙ (ap (λ f. record { number = c.args.sibling.number; flag = f; tag = false; invalid = false; leaf = c.leaf.result })
    c.flag-flag.ensures
    ∙ ap (λ l. record { number = c.args.sibling.number; flag = c.args.sibling.flag; tag = false; invalid = false; leaf = l })
    c.leaf.ensures)) in
    subst (λ (w : ℕ). MaySpliceHere z q.walk q.own place (word_of c.args.successor) w) (sym
    (plain_link c.args.sibling c.pack-new.result same))
    (may_splice z q m.0 (side_number c.args.side) place (word_of c.args.successor) c.args.parent c.args.sibling_side
    (word_of c.args.sibling)
    (small_link c.args.sibling (search rules)) (side_two c.args.side) (place_of z q c.args.ancestor c.args.side m.0 m.1) m.2)

pub returns-clause-spliced : goal.returns-clause-spliced
returns-clause-spliced c = let z = c.args.pool.now.layout in let q = known c.args.pass.now.seat in
    let place = source_place z q c.args.ancestor c.args.side in
    let same : c.pack-new.result ≡ record {
      number = c.args.sibling.number;
      flag = c.args.sibling.flag;
      tag = false;
      invalid =
          false;
      leaf = c.args.sibling.leaf;
    } =
    c.pack-new.ensures ∙ (ap (λ (n : ℕ). record {
      number = n;
      flag = c.flag-flag.result;
      tag = false;
      invalid = false;
      leaf =
          c.leaf.result;
    }) c.number-number.ensures
    ∙ (ap (λ f. record { number = c.args.sibling.number; flag = f; tag = false; invalid = false; leaf = c.leaf.result })
    c.flag-flag.ensures
    ∙ ap (λ l. record { number = c.args.sibling.number; flag = c.args.sibling.flag; tag = false; invalid = false; leaf = l })
    c.leaf.ensures)) in
    subst (λ (w : ℕ). Unlinks 2 z has_mark tree_chain c.args.ancestor c.args.side (word_of c.args.successor) w (view c.args.pass.now.seat)
    (view c.try_unlink.new.pass.seat) c.try_unlink.result)
    (plain_link c.args.sibling c.pack-new.result same) c.try_unlink.ensures.unlinks

pub returns-clause-in_hand : goal.returns-clause-in_hand
returns-clause-in_hand c = let z = c.args.pool.now.layout in let q = known c.args.pass.now.seat in
    let place = source_place z q c.args.ancestor c.args.side in
    λ e. path_in_hand z c.args.ancestor c.args.side (word_of c.args.successor) (word_of c.pack-new.result) (view c.args.pass.now.seat)
    (view c.try_unlink.new.pass.seat)
    (subst (λ (u : Unlink). Unlinks 2 z has_mark tree_chain c.args.ancestor c.args.side (word_of c.args.successor)
    (word_of c.pack-new.result)
    (view c.args.pass.now.seat)
    (view c.try_unlink.new.pass.seat) u) e c.try_unlink.ensures.unlinks)
