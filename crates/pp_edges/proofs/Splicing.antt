-- A splice of the path that a pass walked is one that the tree's shape allows, and what it takes in hand.
use Rattle.std.proofs.Common.{◌≡◌, ℕ, ◌+◌, ◌*◌, ◌/◌, ◌%◌, ◌<◌, ◌≤◌, Bool, true, false, List, [], ◌∷◌, ◌++◌}
use Rattle.std.proofs.Common.{sym, ap, ◌∙◌, subst, arith}
use Rattle.pp_link.specs.declared.layout.Sizes.{Sizes}
use Rattle.pp_link.specs.declared.link.Link.{Link}
use Rattle.pp_link.specs.Links.{bit, word_of, target, flag_bit, tag_bit, invalid_bit, leaf_bit}
use Rattle.pp_link.specs.Places.{cell_place}
use Rattle.pp_rule.specs.Views.{slot}
use Rattle.pp_rule.specs.States.{IsSmall}
use Rattle.pp_base.specs.declared.source.Place.{Place}
use Rattle.pp_base.specs.declared.source.Place.TheVariants.{Walk}
use Rattle.pp_base.specs.declared.source.Side.{Side}
use Rattle.pp_base.specs.declared.source.Side.TheVariants.{Left, Right}
use Rattle.pp_base.specs.Sources.{side_number, source_place, IsReadable}
use Rattle.pp_trees.specs.declared.own.Passed.{Passed}
use Rattle.pp_trees.specs.TaggedPaths.{Joined}
use Rattle.pp_trees.specs.Searches.{TreePass, MaySpliceHere, tree_chain}
use Rattle.pp_trees.specs.Edges.{TreeView}
use Rattle.pp_trees.proofs.Chains.{records_taken, taken_records}
use Rattle.pp_trees.specs.Sentinels.{has_mark}
use Rattle.pp_unlink.specs.Unlinking.{Exchanges}
use Rattle.pp_edges.specs.Edging.{MaySpliceAt, HasPathInHand, plain_word}

-- a path that ends with an edge with TAG
joined_last : (first last : ℕ) (cs : List Passed) (c : Passed) → Joined first (cs ++ c ∷ []) last → (tag_bit c.word ≡ 1)
    × (c.word ≡ last)
joined_last first last [] c j = (j.1, j.2)
joined_last first last (d ∷ cs) c j = joined_last d.word last cs c j.2

bits_of : (w : ℕ) → (target (plain_word w) ≡ target w) × (leaf_bit (plain_word w) ≡ leaf_bit w)
    × (flag_bit (plain_word w) ≡ flag_bit w)
    × (tag_bit (plain_word w) ≡ 0) × (invalid_bit (plain_word w) ≡ 0)
bits_of w = (omega arith, omega arith, omega arith, omega arith, omega arith)

small_of : (w : ℕ) → IsSmall w → IsSmall (plain_word w)
small_of w small = omega arith

pub may_splice : (z : Sizes) (q : TreePass) (ancestor side place first : ℕ) (parent : Place) (sibling_side : Side)
    (sibling : ℕ) → IsSmall sibling → side < 2
    → place ≡ cell_place z (slot q ancestor).named (2 + side) → MaySpliceAt z q ancestor first parent sibling_side sibling
    → MaySpliceHere z q.walk q.own place first (plain_word sibling)
may_splice z q ancestor side place first parent sibling_side sibling small low at m = let b = bits_of sibling in
    let s = m.sibling_is in record {
      word = ancestor;
      word_low = m.word_low;
      held = m.held;
      side = side;
      side_low = low;
      at = at;
      plain = m.plain;
      some = m.some;
      small = small_of sibling small;
      top = m.top;
      leads = m.leads;
      last = m.last.word;
      tagged = (joined_last first m.last.word m.before m.last (subst (λ
          (cs : List Passed). Joined first cs m.last.word) m.path_is m.joined)).0;
      joined = m.joined;
      new_is = (b.0 ∙ s.0, b.1 ∙ s.1, b.2 ∙ s.2, b.3, b.4);
    }

pub path_in_hand : (z : Sizes) (at : Place) (side : Side) (first new : ℕ) (before now : TreeView)
    → Exchanges 2 z has_mark tree_chain at side first new before now → HasPathInHand before.known.own.path now
path_in_hand z at side first new before now e = record {
  others = e.between.known.chains;
  chain = tree_chain before.known.walk before.known.own e.guard first new;
  newest = ap (λ (q : TreePass). q.chains) e.known;
  all = λ n t. taken_records n before.known.own.path t;
  no_more = λ n i. records_taken n before.known.own.path i;
}

-- the words of a link without TAG and INVALID
pub plain_link : (l n : Link) → n ≡ record { number = l.number; flag = l.flag; tag = false; invalid = false; leaf = l.leaf }
    → word_of n ≡ plain_word (word_of l)
plain_link l n e = ap word_of e ∙ go l.number (bit l.leaf) (bit l.invalid) (bit l.tag) (bit l.flag) (low l.leaf)
    (low l.invalid) (low l.tag) (low l.flag)
  where
    low : (b : Bool) → bit b ≤ 1
    low true = omega arith
    low false = omega arith

    go : (n l i t f : ℕ) → l ≤ 1 → i ≤ 1 → t ≤ 1 → f ≤ 1 → 16 * n + 8 * l + 4 * 0 + 2 * 0 + f ≡ plain_word
        (16 * n + 8 * l + 4 * i + 2 * t + f)
    go n l i t f a b c d = let to : (16 * n + 8 * l + 4 * i + 2 * t + f) / 16 ≡ n = omega arith in
        let leaf : (16 * n + 8 * l + 4 * i + 2 * t + f) / 8 % 2 ≡ l = omega arith in
        let flag : (16 * n + 8 * l + 4 * i + 2 * t + f) % 2 ≡ f = omega arith in omega arith

pub small_link : (l : Link) → l.number < 4294967296 → word_of l < 68719476736
small_link l lt = go l.number (bit l.leaf) (bit l.invalid) (bit l.tag) (bit l.flag) (low l.leaf) (low l.invalid) (low l.tag)
    (low l.flag) lt
  where
    low : (b : Bool) → bit b ≤ 1
    low true = omega arith
    low false = omega arith

    go : (n l i t f : ℕ) → l ≤ 1 → i ≤ 1 → t ≤ 1 → f ≤ 1 → n < 4294967296 → 16 * n + 8 * l + 4 * i + 2 * t + f < 68719476736
    go n l i t f a b c d lt = omega arith

-- the place of an edge of a held record
pub place_of : (z : Sizes) (q : TreePass) (at : Place) (side : Side) (word : ℕ) → at ≡ Walk word
    → source_place z q at side ≡ cell_place z (slot q word).named (2 + side_number side)
place_of z q at side word e = ap (λ (p : Place). source_place z q p side) e

pub side_two : (side : Side) → side_number side < 2
side_two Left = omega arith
side_two Right = omega arith

pub readable_at : (z : Sizes) (q : TreePass) (at : Place) (side : Side) (word : ℕ) → at ≡ Walk word → word < 5
    → (slot q word).held ≡ true
    → IsReadable 2 z q at side
readable_at z q at side word e low held = subst (λ (p : Place). IsReadable 2 z q p side) (sym e) (low, side_two side, held)

-- a link without bits leads to its number
pub to_inner : (n m : ℕ) (l : Link) (w : ℕ) → m ≡ n → l ≡ record {
  number = m;
  flag = false;
  tag = false;
  invalid = false;
  leaf
      = false;
} → w ≡ word_of l → target w ≡ n
to_inner n m l w same link word = ap target (word ∙ ap word_of link) ∙ (sixteen m ∙ same)
  where
    sixteen : (n : ℕ) → target (16 * n + 8 * 0 + 4 * 0 + 2 * 0 + 0) ≡ n
    sixteen n = omega arith

pub sixteen_of : (n m : ℕ) (l : Link) (w : ℕ) → m ≡ n → l ≡ record {
  number = m;
  flag = false;
  tag = false;
  invalid = false;
  leaf = false;
} → w ≡ word_of l → w ≡ 16 * target w
sixteen_of n m l w same link word = let e : w ≡ 16 * m + 8 * 0 + 4 * 0 + 2 * 0 + 0 = word ∙ ap word_of link in omega arith
