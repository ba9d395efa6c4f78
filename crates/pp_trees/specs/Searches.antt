-- What a search tree adds to the rule of its pool.
use Rattle.std.specs.Prelude.{◌≡◌, ◌≢◌, ℕ, ◌+◌, ◌%◌, ◌<◌, ◌≤◌, true, cond, nat_eq, List, [], length, Some, slice_get}
use Rattle.std.specs.Prelude.{slice_index_or}
use Rattle.pp_link.specs.declared.layout.Sizes.{Sizes}
use Rattle.pp_link.specs.Links.{target, flag_bit, tag_bit, invalid_bit, leaf_bit}
use Rattle.pp_link.specs.Places.{cell_place}
use Rattle.pp_model.specs.declared.Change.{Change}
use Rattle.pp_model.specs.declared.Placed.{Placed}
use Rattle.pp_model.specs.Calls.{key_of}
use Rattle.pp_model.specs.History.{contents_of, Sound, Stands}
use Rattle.pp_rule.specs.Alone.{IsOwnStep}
use Rattle.pp_rule.specs.Lists.{IsIn}
use Rattle.pp_rule.specs.Orders.{log_of, placed_by}
use Rattle.pp_rule.specs.declared.views.Chain.{Chain}
use Rattle.pp_rule.specs.declared.views.LoggedStep.{LoggedStep}
use Rattle.pp_rule.specs.declared.views.WalkSlot.{WalkSlot}
use Rattle.pp_rule.specs.declared.views.PassState.{PassState}
use Rattle.pp_rule.specs.Views.{slot, blank}
use Rattle.pp_rule.specs.States.{attached, PoolState, IsSmall}
pub use Rattle.pp_trees.specs.declared.own.TreeOwn.{TreeOwn}
use Rattle.pp_trees.specs.Trees.{Heap, heap, inf0, SearchTree, Mapped, Remains, Standing}
use Rattle.pp_trees.specs.TaggedPaths.{Joined, Intact, path_chain}

abbrev pub TreePass : Type 0
TreePass = PassState TreeOwn

abbrev pub TreeState : Type 0
TreeState = PoolState Change Placed TreeOwn

-- The record where a call stands is held, and so is the successor. As long as the successor is attached, so is the tagged path
-- from it
-- to where the call stands.
pub record Seated (z : Sizes) (t : Heap) (log : List Change) (slots : ℕ → WalkSlot) (own : TreeOwn) : Type 0 where
  pub held : own.at < 5 → (slots own.at).held ≡ true
  pub since : own.at < 5 → own.start ≤ length log
  pub pair : own.at < 5 → key_of own.call < inf0
  pub standing : own.at < 5 → Standing t log own.start (key_of own.call) (slots own.at).named
  -- FLAG that was read there is there still
  pub flag : own.at < 5 → own.flag < 2 → flag_bit (t.link (slots own.at).named own.flag) ≡ 1
  pub beside : own.at < 5 → own.flag < 2 → target (t.link (slots own.at).named own.flag) ≡ own.beside
  pub top_held : own.top < 5 → (slots own.top).held ≡ true
  pub joined : own.top < 5 → (first : ℕ) × ((last : ℕ) × ((target first ≡ (slots own.top).named) × Joined first own.path last))
  pub intact : own.top < 5 → t.state (slots own.top).named ≡ attached → Intact z t own.path

-- what holds of the pass p, whose placed calls are these
pub record Searches (z : Sizes) (t : Heap) (log : List Change) (p : ℕ) (slots : ℕ
    → WalkSlot) (own : TreeOwn) (placed : List Placed) : Type 0 where
  pub stands : Stands log p placed
  pub since : own.start ≤ length log
  -- as long as its reply isn't settled, the calls before it have their places up to its start
  pub earlier : own.going ≡ true → (i : ℕ) (x : Placed) → slice_get placed i ≡ Some x → x.place ≤ own.start
  pub seated : Seated z t log slots own

-- the pass to which a change belongs
abbrev pub caller_of : Change → ℕ
caller_of c = c.caller

-- what a tree adds to the rule
pub record Trees (z : Sizes) (words : List ℕ) (g : TreeState) : Type 0 where
  pub sound : Sound (log_of g.order)
  pub own_changes : (s : LoggedStep Change Placed) → IsIn s g.order → IsOwnStep caller_of s
  pub tree : SearchTree z (heap z words g.status)
  pub mapped : Mapped z (heap z words g.status) (contents_of (log_of g.order))
  pub remains : Remains z (heap z words g.status) (λ p. (g.of p).own.left)
  pub each : (p : ℕ) → p < z.passes → Searches z (heap z words g.status) (log_of g.order) p (slot (g.of p)) (g.of p).own
      (placed_by p g.order)

-- a walk word was cleared
abbrev pub forget_word : ℕ → TreeOwn → TreeOwn
forget_word i own = record own {
  at = cond (nat_eq own.at i) 5 own.at;
  top = cond (nat_eq own.top i) 5 own.top;
  path = cond (nat_eq own.top i) [] own.path;
}

-- what a pass knows of a walk word, by the list of all of them
abbrev pub slot_in : List WalkSlot → ℕ → WalkSlot
slot_in walk i = slice_index_or walk i blank

-- A splice: the place is that of an edge of the held ancestor, from which the word `first` without bits leads to the successor.
-- The
-- tagged path from there was walked to its end, and the new word is the last one without TAG.
pub record MaySpliceHere (z : Sizes) (walk : List WalkSlot) (own : TreeOwn) (place first new : ℕ) : Type 0 where
  pub word : ℕ
  pub word_low : word < 5
  pub held : (slot_in walk word).held ≡ true
  pub side : ℕ
  pub side_low : side < 2
  pub at : place ≡ cell_place z (slot_in walk word).named (2 + side)
  pub plain : first % 16 ≡ 0
  pub some : target first ≢ 0
  pub small : IsSmall new
  pub top : own.top < 5
  pub leads : (slot_in walk own.top).named ≡ target first
  pub last : ℕ
  pub tagged : tag_bit last ≡ 1
  pub joined : Joined first own.path last
  pub new_is : (target new ≡ target last) × (leaf_bit new ≡ leaf_bit last) × (flag_bit new ≡ flag_bit last)
      × (tag_bit new ≡ 0) × (invalid_bit new ≡ 0)

-- the chain that a splice takes away is the tagged path that the pass walked
abbrev pub tree_chain : List WalkSlot → TreeOwn → ℕ → ℕ → ℕ → Chain
tree_chain walk own guard first new = path_chain own.path guard (target new)
