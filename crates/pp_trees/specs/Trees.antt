-- The records as an external search tree sees them, and what a walk finds in them.
use Rattle.std.specs.Prelude.{◌≡◌, ◌≢◌, ◌⊎◌, ℕ, zero, suc, ◌+◌, ◌*◌, ◌-◌, ◌%◌, ◌<◌, ◌≤◌, cond, nat_eq, nat_lt, List, length}
use Rattle.std.specs.Prelude.{Option, Some, None}
use Rattle.pp_link.specs.declared.layout.Sizes.{Sizes}
use Rattle.pp_link.specs.Links.{target, flag_bit, tag_bit, invalid_bit, leaf_bit}
use Rattle.pp_link.specs.Places.{IsNumber}
use Rattle.pp_link.specs.Words.{head_word, cell_word}
use Rattle.pp_model.specs.declared.Change.{Change}
use Rattle.pp_model.specs.declared.Pair.{Pair}
use Rattle.pp_model.specs.FiniteMap.{find, KeysRise}
use Rattle.pp_model.specs.History.{after}
use Rattle.pp_rule.specs.Views.{halves, value_of}
use Rattle.pp_rule.specs.Lists.{IsIn, Once}
use Rattle.pp_rule.specs.States.{RecordState, attached, IsUsed, IsLinked, IsFrozen, Leads}

-- the heads, and of each record its key, its value (of two words), its links by their sides (0 is left), and its state
pub record Heap : Type 0 where
  pub head : ℕ → ℕ
  pub key : ℕ → ℕ
  pub value : ℕ → ℕ
  pub link : ℕ → ℕ → ℕ
  pub state : ℕ → RecordState

abbrev pub heap : Sizes → List ℕ → (ℕ → RecordState) → Heap
heap z words state = record {
  head = λ h. head_word words z h;
  key = λ n. cell_word words z n 0;
  value = λ n. value_of (halves (cell_word words z n 1) (cell_word words z n 4));
  link = λ n s. cell_word words z n (2 + s);
  state = state;
}

-- the side of a record with this key at which k lies
abbrev pub side : ℕ → ℕ → ℕ
side k key = cond (nat_lt k key) 0 1

abbrev pub across : ℕ → ℕ
across zero = 1
across (suc s) = 0

-- the edge by which a walk for k leaves the record n
abbrev pub edge : Heap → ℕ → ℕ → ℕ
edge t k n = t.link n (side k (t.key n))

-- an internal record has two children, and a leaf none
abbrev pub HasChildren : Heap → ℕ → Type 0
HasChildren t n = (s : ℕ) → s < 2 → target (t.link n s) ≢ 0

abbrev pub HasNone : Heap → ℕ → Type 0
HasNone t n = (s : ℕ) → s < 2 → target (t.link n s) ≡ 0

-- an attached internal record
pub record Internal (z : Sizes) (t : Heap) (n : ℕ) : Type 0 where
  pub number : IsNumber z n
  pub on : t.state n ≡ attached
  pub children : HasChildren t n

-- an attached leaf
pub record Leaf (z : Sizes) (t : Heap) (n : ℕ) : Type 0 where
  pub number : IsNumber z n
  pub on : t.state n ≡ attached
  pub none : HasNone t n

-- The walk for k from the root, which is record 1, comes to the internal record n.
pub data Meets (t : Heap) (k : ℕ) : ℕ → Type 0 where
  root : {n : ℕ} → n ≡ 1 → Meets t k n
  down : {n m : ℕ} → Meets t k n → leaf_bit (edge t k n) ≡ 0 → m ≡ target (edge t k n) → Meets t k m

-- an edge that can be followed, to a leaf or to an internal record
abbrev pub IsEdge : ℕ → ℕ → Type 0
IsEdge w leaf = (invalid_bit w ≡ 0) × (leaf_bit w ≡ leaf) × (target w ≢ 0)

-- A walk for k from the internal record n comes to the internal record m. There is no way through INVALID.
pub data Comes (t : Heap) (k m : ℕ) : ℕ → Type 0 where
  there : {n : ℕ} → n ≡ m → Comes t k m n
  over : {n : ℕ} → IsEdge (edge t k n) 0 → Comes t k m (target (edge t k n)) → Comes t k m n

-- what a walk for k answers whose last edge is the word w
abbrev pub answer : Heap → ℕ → ℕ → Option ℕ
answer t k w = cond (nat_eq (t.key (target w)) k) (cond (nat_eq (flag_bit w) 0) (Some (t.value (target w))) None) None

-- A walk for k from the internal record n finds a, if all stands still. A walk that comes to an edge with INVALID finds nothing
-- at all.
pub data Finds (t : Heap) (k : ℕ) (a : Option ℕ) : ℕ → Type 0 where
  ends : {n : ℕ} → IsEdge (edge t k n) 1 → a ≡ answer t k (edge t k n) → Finds t k a n
  goes : {n : ℕ} → IsEdge (edge t k n) 0 → Finds t k a (target (edge t k n)) → Finds t k a n

-- the walk for its key from the root ends at the leaf l
pub record Behind (t : Heap) (l : ℕ) : Type 0 where
  pub parent : ℕ
  pub meets : Meets t (t.key l) parent
  pub leaf : leaf_bit (edge t (t.key l) parent) ≡ 1
  pub to : target (edge t (t.key l) parent) ≡ l

-- the sentinel keys; every key of a pair is below them
abbrev pub inf0 : ℕ
inf0 = 18446744073709551613

abbrev pub inf1 : ℕ
inf1 = 18446744073709551614

abbrev pub inf2 : ℕ
inf2 = 18446744073709551615

-- the head leads to the root; no other one leads anywhere
abbrev pub root_head : ℕ → ℕ
root_head zero = 16
root_head (suc h) = 0

-- the root R, its left child S, and the leaves inf0, inf1 and inf2
pub record Sentinels (z : Sizes) (t : Heap) : Type 0 where
  pub head : (h : ℕ) → h < z.heads → t.head h ≡ root_head h
  pub on : (n : ℕ) → 1 ≤ n → n ≤ 5 → t.state n ≡ attached
  pub keys : (t.key 1 ≡ inf2) × (t.key 2 ≡ inf1) × (t.key 3 ≡ inf0) × (t.key 4 ≡ inf1) × (t.key 5 ≡ inf2)
  pub left_of_root : t.link 1 0 ≡ 32
  pub right_of_root : t.link 1 1 ≡ 88
  pub right_of_s : t.link 2 1 ≡ 72
  pub leaf3 : HasNone t 3

-- what the rule of the pool says of the links
pub record Sane (z : Sizes) (t : Heap) : Type 0 where
  pub records : 8 ≤ z.records
  pub leads : (n s : ℕ) → IsNumber z n → s < 2 → t.state n ≡ attached → Leads z t.state (t.link n s)
  pub used : (n s : ℕ) → IsNumber z n → s < 2 → IsUsed (t.state n) → invalid_bit (t.link n s) ≡ 0 → target (t.link n s) ≢ 0
      → IsNumber z (target (t.link n s)) × IsUsed (t.state (target (t.link n s)))

-- The shape of the tree.
pub record SearchTree (z : Sizes) (t : Heap) : Type 0 where
  pub sentinels : Sentinels z t
  -- a record that is attached or in hand is an internal record or a leaf, and LEAF tells it of the target of an edge
  pub sort : (n : ℕ) → IsNumber z n → IsLinked (t.state n) → HasChildren t n ⊎ HasNone t n
  pub to_leaf : (n s : ℕ) → IsNumber z n → IsLinked (t.state n) → s < 2 → IsEdge (t.link n s) 1 → HasNone t (target (t.link n s))
  pub to_internal : (n s : ℕ) → IsNumber z n → IsLinked (t.state n) → s < 2 → IsEdge (t.link n s) 0
      → HasChildren t (target (t.link n s))
  -- the links of an attached leaf have no bit
  pub bare : (n s : ℕ) → Leaf z t n → s < 2 → t.link n s ≡ 0
  -- no edge leads to the root, and one alone to each other record
  pub rooted : (n s : ℕ) → Internal z t n → s < 2 → target (t.link n s) ≢ 1
  pub once : (n s m r : ℕ) → Internal z t n → s < 2 → Internal z t m → r < 2 → target (t.link n s) ≡ target (t.link m r)
      → (n ≡ m) × (s ≡ r)
  -- a flagged edge leads to the leaf of a pair, and beside a tagged edge there is a flagged one
  pub flagged : (n s : ℕ) → Internal z t n → s < 2 → flag_bit (t.link n s) ≡ 1 → (leaf_bit (t.link n s) ≡ 1)
      × (t.key (target (t.link n s)) < inf0)
  pub tagged : (n s : ℕ) → Internal z t n → s < 2 → tag_bit (t.link n s) ≡ 1 → flag_bit (t.link n (across s)) ≡ 1
  -- an edge to an internal record has no FLAG, whoever holds its record
  pub unflagged : (n s : ℕ) → IsNumber z n → IsUsed (t.state n) → s < 2 → IsEdge (t.link n s) 0 → flag_bit (t.link n s) ≡ 0
  -- both edges of an internal record in hand have FLAG or TAG
  pub frozen : (n s : ℕ) → IsNumber z n → IsLinked (t.state n) → t.state n ≢ attached → HasChildren t n → s < 2
      → IsFrozen (t.link n s)
  -- Search order: the root's walk for its key comes to each record, and to an internal record also the one for the key before, so
  -- that both of its sides have keys.
  pub leaf_home : (n : ℕ) → Leaf z t n → Behind t n
  pub internal_home : (n : ℕ) → Internal z t n → (1 ≤ t.key n) × Meets t (t.key n) n × Meets t (t.key n - 1) n

-- a flagged edge leads to it
pub record IsFlagged (z : Sizes) (t : Heap) (l : ℕ) : Type 0 where
  pub parent : ℕ
  pub side_is : ℕ
  pub internal : Internal z t parent
  pub low : side_is < 2
  pub flag : flag_bit (t.link parent side_is) ≡ 1
  pub to : target (t.link parent side_is) ≡ l

-- What the passes removed and left attached, by the lists of the leaves that each of them put FLAG on: a leaf behind a flagged
-- edge
-- stands in the list of a pass. Where there is one pass alone, each number of its list whose record is attached is such a leaf.
pub record Remains (z : Sizes) (t : Heap) (left : ℕ → List ℕ) : Type 0 where
  pub once : (p : ℕ) → p < z.passes → Once (left p)
  pub listed : (n s : ℕ) → Internal z t n → s < 2 → flag_bit (t.link n s) ≡ 1 → (p : ℕ) × ((p < z.passes)
      × IsIn (target (t.link n s)) (left p))
  pub flagged : z.passes ≡ 1 → (p l : ℕ) → p < z.passes → IsIn l (left p) → t.state l ≡ attached → IsFlagged z t l

-- at the end of the root's walk for k there is the leaf of a pair, behind an edge without FLAG
pub record Stored (t : Heap) (k : ℕ) : Type 0 where
  pub parent : ℕ
  pub meets : Meets t k parent
  pub leaf : leaf_bit (edge t k parent) ≡ 1
  pub plain : flag_bit (edge t k parent) ≡ 0
  pub key : t.key (target (edge t k parent)) ≡ k
  pub low : k < inf0

-- the map is the pairs of the leaves behind attached edges without FLAG, sentinels left out
pub record Mapped (z : Sizes) (t : Heap) (m : List Pair) : Type 0 where
  pub sorted : KeysRise m
  pub pairs : (n s : ℕ) → Internal z t n → s < 2 → leaf_bit (t.link n s) ≡ 1 → flag_bit (t.link n s) ≡ 0
      → t.key (target (t.link n s)) < inf0
      → find m (t.key (target (t.link n s))) ≡ Some (t.value (target (t.link n s)))
  pub records : (k v : ℕ) → find m k ≡ Some v → Stored t k

-- the answer a is right at a place since the start
abbrev pub IsRight : List Change → ℕ → ℕ → Option ℕ → Type 0
IsRight log start k a = (p : ℕ) × ((start ≤ p) × (p ≤ length log) × (find (after log p) k ≡ a))

-- A call for k stands at the internal record n. What a walk finds from there is right at a place since the call's start, and
-- every
-- attached record on that walk is on the root's walk for k.
pub record Standing (t : Heap) (log : List Change) (start k n : ℕ) : Type 0 where
  pub children : HasChildren t n
  pub right : (a : Option ℕ) → Finds t k a n → IsRight log start k a
  pub rooted : (m : ℕ) → Comes t k m n → t.state m ≡ attached → Meets t k m

-- The link of the record p at the side s is w now. All else of the words is as it was.
pub record Rewired (z : Sizes) (t t' : Heap) (p s w : ℕ) : Type 0 where
  pub head : (h : ℕ) → h < z.heads → t'.head h ≡ t.head h
  pub there : t'.link p s ≡ w
  pub links : (n r : ℕ) → IsNumber z n → r < 2 → ((n ≡ p) × (r ≡ s) → ⊥) → t'.link n r ≡ t.link n r
  pub keys : (n : ℕ) → IsNumber z n → t'.key n ≡ t.key n
  pub values : (n : ℕ) → IsNumber z n → t'.value n ≡ t.value n

-- What a splice at the edge (a, s) takes away: the records of which In tells. Only that edge leads to them, and what leads out of
-- them, but for nil, has the target, LEAF and FLAG of the new word w.
pub record Cut (z : Sizes) (t : Heap) (a s w : ℕ) (In : ℕ → Type 0) : Type 0 where
  pub either : (n : ℕ) → In n ⊎ (In n → ⊥)
  pub on : (n : ℕ) → In n → IsNumber z n × (t.state n ≡ attached)
  pub above : (n : ℕ) → In n → 6 ≤ n
  pub ancestor : Internal z t a
  pub low : s < 2
  pub stays : In a → ⊥
  pub plain : flag_bit (t.link a s) ≡ 0
  pub free : tag_bit (t.link a s) ≡ 0
  pub internal : leaf_bit (t.link a s) ≡ 0
  pub first : In (target (t.link a s))
  pub inside : (n r : ℕ) → In n → Internal z t n → r < 2 → (In (target (t.link n r)) × (leaf_bit (t.link n r) ≡ 1
      → flag_bit (t.link n r) ≡ 1))
      ⊎ ((target (t.link n r) ≡ target w) × (leaf_bit (t.link n r) ≡ leaf_bit w) × (flag_bit (t.link n r) ≡ flag_bit w))
  pub last : (n : ℕ) × ((r : ℕ) × (In n × Internal z t n × (r < 2) × (target (t.link n r) ≡ target w)
      × (leaf_bit (t.link n r) ≡ leaf_bit w)
      × (flag_bit (t.link n r) ≡ flag_bit w)))
  pub outside : (n r : ℕ) → Internal z t n → r < 2 → (In n → ⊥) → ((n ≡ a) × (r ≡ s) → ⊥) → In (target (t.link n r)) → ⊥
  pub frontier : In (target w) → ⊥
  pub frozen : (n r : ℕ) → In n → Internal z t n → r < 2 → IsFrozen (t.link n r)
  pub untagged : tag_bit w ≡ 0
  pub valid : invalid_bit w ≡ 0

-- The records were taken away.
pub record Spliced (z : Sizes) (t t' : Heap) (a s w : ℕ) (In : ℕ → Type 0) : Type 0 where
  pub wired : Rewired z t t' a s w
  pub cut : Cut z t a s w In
  pub inside_state : (n : ℕ) → In n → IsLinked (t'.state n) × (t'.state n ≢ attached)
  pub outside_state : (n : ℕ) → (In n → ⊥) → t'.state n ≡ t.state n

-- The internal record c with the leaf m for k was put at the edge (p, s), in place of the leaf there, which is beside m now. The
-- walk for k ends at that edge.
pub record Published (z : Sizes) (t t' : Heap) (p s k c m : ℕ) : Type 0 where
  pub wired : Rewired z t t' p s (16 * c)
  pub parent : Internal z t p
  pub low : s < 2
  pub leaf : leaf_bit (t.link p s) ≡ 1
  pub plain : flag_bit (t.link p s) ≡ 0
  pub free : tag_bit (t.link p s) ≡ 0
  pub meets : Meets t k p
  pub at : side k (t.key p) ≡ s
  pub pair : k < inf0
  pub other : t.key (target (t.link p s)) ≢ k
  pub numbers : IsNumber z c × IsNumber z m × (c ≢ m)
  pub unused : (IsUsed (t.state c) → ⊥) × (IsUsed (t.state m) → ⊥)
  pub now : (t'.state c ≡ attached) × (t'.state m ≡ attached)
  pub others : (n : ℕ) → n ≢ c → n ≢ m → t'.state n ≡ t.state n
  pub leaf_key : t.key m ≡ k
  pub bare : (r : ℕ) → r < 2 → t.link m r ≡ 0
  -- the greater of the two keys
  pub greater : (k < t.key (target (t.link p s)) → t.key c ≡ t.key (target (t.link p s))) × (t.key (target (t.link p s)) < k
      → t.key c ≡ k)
  pub to_new : t.link c (side k (t.key c)) ≡ 16 * m + 8
  pub to_old : t.link c (side (t.key (target (t.link p s))) (t.key c)) ≡ 16 * target (t.link p s) + 8

-- The edge (p, s) got FLAG or TAG.
pub record Marked (z : Sizes) (t t' : Heap) (p s w : ℕ) : Type 0 where
  pub wired : Rewired z t t' p s w
  pub states : (n : ℕ) → t'.state n ≡ t.state n
  pub number : IsNumber z p
  pub low : s < 2
  pub children : HasChildren t p
  pub to : target w ≡ target (t.link p s)
  pub leaf : leaf_bit w ≡ leaf_bit (t.link p s)
  pub valid : invalid_bit w ≡ invalid_bit (t.link p s)
  pub still : flag_bit (t.link p s) ≡ 1 → flag_bit w ≡ 1
  pub inner : leaf_bit w ≡ 0 → flag_bit w ≡ flag_bit (t.link p s)
  pub fixed : tag_bit (t.link p s) ≡ 1 → w ≡ t.link p s
  pub flags : t.state p ≡ attached → flag_bit w ≡ 1 → (leaf_bit w ≡ 1) × (t.key (target w) < inf0)
  pub tags : t.state p ≡ attached → tag_bit w ≡ 1 → flag_bit (t.link p (across s)) ≡ 1

-- A step that a shape can't see, or that sets INVALID in a record in hand: what is used now was used before, and each link is
-- as it
-- was, but perhaps for INVALID.
pub record Fewer (z : Sizes) (t t' : Heap) : Type 0 where
  pub heads : (h : ℕ) → h < z.heads → t'.head h ≡ t.head h
  pub used_was : (n : ℕ) → IsUsed (t'.state n) → IsUsed (t.state n)
  pub linked_was : (n : ℕ) → IsLinked (t'.state n) → t'.state n ≡ t.state n
  pub attached_on : (n : ℕ) → t.state n ≡ attached → t'.state n ≡ attached
  pub keys : (n : ℕ) → IsNumber z n → IsUsed (t'.state n) → t'.key n ≡ t.key n
  pub values : (n : ℕ) → IsNumber z n → IsUsed (t'.state n) → t'.value n ≡ t.value n
  pub valid : (n s : ℕ) → IsNumber z n → IsUsed (t'.state n) → s < 2 → invalid_bit (t'.link n s) ≡ 0 → t'.link n s ≡ t.link n s
  pub rest : (n s : ℕ) → IsNumber z n → IsUsed (t'.state n) → s < 2 → (target (t'.link n s) ≡ target (t.link n s))
      × (t'.link n s % 4 ≡ t.link n s % 4)
