-- Where a seek stands, and what its turns make of its pass.
use Rattle.std.specs.Prelude.{◌≡◌, ◌≢◌, ◌⊎◌, ℕ, ◌+◌, ◌-◌, ◌%◌, ◌<◌, ◌≤◌, Bool, true, false, nat_eq, nat_lt, cond, Option}
use Rattle.std.specs.Prelude.{Some, None, List, [], ◌∷◌}
use Rattle.pp_link.specs.declared.layout.Sizes.{Sizes}
use Rattle.pp_link.specs.Links.{word_of, target, flag_bit, tag_bit, invalid_bit}
use Rattle.pp_link.specs.Places.{head_place, cell_place}
use Rattle.pp_model.specs.declared.Call.{Call}
use Rattle.pp_model.specs.Calls.{key_of}
use Rattle.pp_rule.specs.declared.views.Halves.{Halves}
use Rattle.pp_rule.specs.Lists.{IsIn}
use Rattle.pp_rule.specs.States.{IsSmall}
use Rattle.pp_rule.specs.Views.{slot}
use Rattle.pp_base.specs.declared.source.Place.TheVariants.{Walk}
use Rattle.pp_base.specs.Sources.{side_number}
use Rattle.pp_base.specs.Named.{NamedStep, loads, announces, confirms}
use Rattle.pp_trees.specs.Trees.{side, IsEdge, inf0, inf2}
use Rattle.pp_trees.specs.TaggedPaths.{Joined}
use Rattle.pp_trees.specs.Searches.{TreePass}
use Rattle.pp_trees.specs.Edges.{TreeView, end_step}
use Rattle.pp_trees.specs.Seeks.{Begins, Ended}
use Rattle.pp_seek.specs.declared.keeping.Words.{Words}
use Rattle.pp_seek.specs.declared.seek.Above.{Above}
use Rattle.pp_seek.specs.declared.seek.Spot.{Spot}
use Rattle.pp_seek.specs.declared.seek.Sought.{Sought}
use Rattle.pp_seek.specs.declared.seek.Seek.{Seek}
use Rattle.pp_seek.specs.declared.seek.SeekTurn.{SeekTurn}
use Rattle.pp_seek.specs.declared.seek.SeekTurn.TheVariants as turns
use Rattle.pp_seek.specs.declared.turn.Next.{Next}
use Rattle.pp_seek.specs.declared.turn.Down.{Down}
use Rattle.pp_seek.specs.declared.turn.Down.TheVariants as downs
use Rattle.pp_rule.specs.Orders.{confirm_step}
use Rattle.pp_seek.specs.Trails.{SameRest, Trail, IsFront, Clears, IsEmpty, SameCall, reads}
use Rattle.pp_seek.specs.Keeping.{IsOf}

-- the walk words that are in use
abbrev pub words_by : ℕ → Option Above → Words
words_by w None = record { first = w; second = w; third = w }
words_by w (Some a) = record { first = w; second = a.ancestor; third = a.top }

abbrev pub words_of : Spot → Words
words_of s = words_by s.word s.above

-- The ancestor's edge led to the successor without a bit, and the edges from there on to the record in the walk word all had TAG.
pub record IsAbove (q : TreePass) (word : ℕ) (a : Above) : Type 0 where
  pub ancestor_low : a.ancestor < 5
  pub ancestor_held : (slot q a.ancestor).held ≡ true
  pub apart : (a.ancestor ≢ a.top) × (a.ancestor ≢ word)
  pub side_is : side_number a.side ≡ side (key_of q.own.call) (slot q a.ancestor).key
  pub top_low : a.top < 5
  pub top : q.own.top ≡ a.top
  pub top_held : (slot q a.top).held ≡ true
  pub plain : word_of a.successor % 16 ≡ 0
  pub some : target (word_of a.successor) ≢ 0
  pub leads : target (word_of a.successor) ≡ (slot q a.top).named
  pub last : ℕ
  pub joined : Joined (word_of a.successor) q.own.path last
  pub ends : (slot q word).named ≡ target last

-- only at the root no edge lies above
abbrev pub Over : TreePass → ℕ → Option Above → Type 0
Over q word None = ((slot q word).named ≡ 1) × ((slot q word).key ≡ inf2) × (q.own.top ≡ 5)
Over q word (Some a) = IsAbove q word a

-- The call stands there, and all other walk words but x are empty.
pub record StandsBut (x : ℕ) (q : TreePass) (s : Spot) : Type 0 where
  pub low : s.word < 5
  pub held : (slot q s.word).held ≡ true
  pub at : q.own.at ≡ s.word
  pub key_is : s.key ≡ (slot q s.word).key
  pub over : Over q s.word s.above
  pub empty : (j : ℕ) → j < 5 → (IsOf (words_of s) j → ⊥) → j ≢ x → IsEmpty (slot q j)

abbrev pub StandsIn : TreePass → Spot → Type 0
StandsIn q s = StandsBut 5 q s

abbrev pub AllEmpty : TreePass → Type 0
AllEmpty q = (j : ℕ) → j < 5 → IsEmpty (slot q j)

-- a seek at the head
pub record AtHead (q : TreePass) (call : Call) (fresh : Bool) : Type 0 where
  pub pair : key_of call < inf0
  pub call_is : fresh ≡ false → q.own.call ≡ call
  pub empty : AllEmpty q

-- a seek at an internal record
pub record AtRecord (q : TreePass) (call : Call) (fresh : Bool) (s : Spot) : Type 0 where
  pub pair : key_of call < inf0
  pub call_is : q.own.call ≡ call
  pub begun : fresh ≡ false
  pub stands : StandsIn q s

abbrev pub SeeksAt : TreePass → Call → Bool → Option Spot → Type 0
SeeksAt q call fresh None = AtHead q call fresh
SeeksAt q call fresh (Some s) = AtRecord q call fresh s

abbrev pub Seeks : TreePass → Seek → Type 0
Seeks q s = SeeksAt q s.call s.fresh s.spot

-- The head was loaded. The first load of a call begins it.
pub record LookedAtHead (z : Sizes) (call : Call) (fresh : Bool) (before now : TreeView) : Type 0 where
  pub begins : fresh ≡ true → Begins (head_place z 0) call 16 before now
  pub again : fresh ≡ false → SameCall before.known.own now.known.own
  pub call_is : now.known.own.call ≡ call
  pub walk : now.known.walk ≡ before.known.walk
  pub trail : Trail before now
  pub steps_are : trail.steps ≡ loads (head_place z 0) 16 ∷ []

-- From the head the call came to the root. Its first load began it.
pub record Enters (z : Sizes) (call : Call) (fresh : Bool) (s : Spot) (before now : TreeView) : Type 0 where
  pub stands : StandsIn now.known s
  pub call_is : now.known.own.call ≡ call
  pub bounds : (s.low ≡ 0) × (s.high ≡ s.key)
  pub root : s.key ≡ inf2
  pub first : TreeView
  pub begins : fresh ≡ true → Begins (head_place z 0) call 16 before first
  pub again : fresh ≡ false → SameCall before.known.own first.known.own
  pub same : SameCall first.known.own now.known.own
  pub trail : Trail before now
  -- the steps after the first one
  pub onward : Trail first now
  pub announced : ℕ
  pub read : ℕ
  pub steps_are : trail.steps ≡ loads (head_place z 0) 16 ∷ announces announced 1 ∷ confirms (head_place z 0) 16
      ∷ reads read s.key ∷ []

-- The edge at the side of the key of the record where the call stands led to the record that is announced in the walk word of n.
pub record IsNear (q : TreePass) (k : ℕ) (s : Spot) (n : Next) : Type 0 where
  pub call_is : key_of q.own.call ≡ k
  pub side_is : side_number n.side ≡ side k s.key
  pub stands : StandsBut n.word q s
  pub low : n.word < 5
  pub other : IsOf (words_of s) n.word → ⊥
  pub named : (slot q n.word).named ≡ target (word_of n.link)
  pub free : (slot q n.word).held ≡ false
  pub valid : invalid_bit (word_of n.link) ≡ 0
  pub small : IsSmall (word_of n.link)
  pub some : target (word_of n.link) ≢ 0
  pub unflagged : IsEdge (word_of n.link) 0 → flag_bit (word_of n.link) ≡ 0
  pub below_root : (slot q s.word).named ≡ 1 → side_number n.side ≡ 0 → word_of n.link ≡ 32
  -- TAG that was read is known
  pub learnt : tag_bit (word_of n.link) ≡ 1 → IsIn {A = ℕ × ℕ} (side_number n.side, word_of n.link) (slot q s.word).learnt

-- the kinds of a second load
abbrev pub IsSecond : ℕ → Type 0
IsSecond kind = (kind ≡ confirm_step) ⊎ (kind ≡ end_step)

-- the first load of an edge found INVALID
pub record FoundInvalid (z : Sizes) (steps : List NamedStep) : Type 0 where
  pub place : ℕ
  pub far : head_place z 0 < place
  pub word : ℕ
  pub bad : invalid_bit word ≡ 1
  pub front : IsFront (loads place word ∷ []) steps

-- the second load of an edge found another word than the first one
pub record FoundOther (z : Sizes) (steps : List NamedStep) : Type 0 where
  pub place : ℕ
  pub far : head_place z 0 < place
  pub kind : ℕ
  pub which : IsSecond kind
  pub first : ℕ
  pub valid : invalid_bit first ≡ 0
  pub second : ℕ
  pub other : second ≢ first
  pub announced : ℕ
  pub number : ℕ
  pub front : IsFront (loads place first ∷ announces announced number ∷ record { kind = kind; place = place; word = second } ∷ [])
      steps

-- the record behind an edge was confirmed, and its key lies outside the bounds
pub record FoundOutside (z : Sizes) (s : Spot) (steps : List NamedStep) : Type 0 where
  pub place : ℕ
  pub far : head_place z 0 < place
  pub first : ℕ
  pub valid : invalid_bit first ≡ 0
  pub announced : ℕ
  pub number : ℕ
  pub read : ℕ
  pub key : ℕ
  pub outside : (key < s.low) ⊎ (s.high ≤ key)
  pub front : IsFront (loads place first ∷ announces announced number ∷ confirms place first ∷ reads read key ∷ []) steps

-- why a turn was lost, by its steps
abbrev pub LostBy : Sizes → Spot → List NamedStep → Type 0
LostBy z s steps = FoundInvalid z steps ⊎ (FoundOther z steps ⊎ FoundOutside z s steps)

pub record Loses (z : Sizes) (s : Spot) (before now : TreeView) : Type 0 where
  pub trail : Trail before now
  pub cause : LostBy z s trail.steps

-- by another word that the second load found
abbrev pub Moves : Sizes → Spot → TreeView → TreeView → Type 0
Moves z s before now = (l : Loses z s before now) × FoundOther z l.trail.steps

-- the first load of an edge found INVALID
pub record IsBroken (z : Sizes) (before now : TreeView) : Type 0 where
  pub own : now.known.own ≡ before.known.own
  pub trail : Trail before now
  pub place : ℕ
  pub far : head_place z 0 < place
  pub word : ℕ
  pub bad : invalid_bit word ≡ 1
  pub steps_are : trail.steps ≡ loads place word ∷ []

pub record Near (z : Sizes) (k : ℕ) (s : Spot) (n : Next) (before now : TreeView) : Type 0 where
  pub near : IsNear now.known k s n
  pub own : now.known.own ≡ before.known.own
  pub trail : Trail before now
  pub far : head_place z 0 < cell_place z (slot now.known s.word).named (2 + side_number n.side)
  pub announced : ℕ
  pub number : ℕ
  pub steps_are : trail.steps ≡ loads (cell_place z (slot now.known s.word).named (2 + side_number n.side)) (word_of n.link)
      ∷ announces announced number ∷ []

-- the answer of a first load of an edge
abbrev pub Approaches : Sizes → ℕ → Spot → TreeView → TreeView → Option Next → Type 0
Approaches z k s before now None = IsBroken z before now
Approaches z k s before now (Some n) = Near z k s n before now

-- the seek stands where it stood
pub record StaysThere (s : Spot) (before now : TreeView) : Type 0 where
  pub stands : StandsIn now.known s
  pub own : now.known.own ≡ before.known.own

-- nothing is held any more
pub record LetsAllGo (before now : TreeView) : Type 0 where
  pub empty : AllEmpty now.known
  pub same : SameCall before.known.own now.known.own

-- The pass went back after an edge that had become another one.
abbrev pub Backs : Spot → TreeView → TreeView → Down → Type 0
Backs s before now downs.Moved = StaysThere s before now × Clears before now
Backs s before now downs.Broken = LetsAllGo before now × Clears before now
Backs s before now (downs.Came next) = ⊥
Backs s before now (downs.Ended sought) = ⊥

-- where a seek stands that went over the edge of n and came to a record with the key `here`
abbrev pub further_spot : Spot → Next → ℕ → ℕ → Spot
further_spot s n k here = record {
  word = n.word;
  key = here;
  low = cond (nat_lt k here) s.low (here + 1);
  high = cond (nat_lt k here) here s.high;
  above = cond n.link.tag s.above (Some (record { ancestor = s.word; side = n.side; successor = n.link; top = n.word }));
}

-- how many keys are left
abbrev pub width : Spot → ℕ
width s = s.high - s.low

-- The seek stands at a further record, whose key lies between the bounds.
pub record ComesFurther (s next : Spot) (before now : TreeView) : Type 0 where
  pub stands : StandsIn now.known next
  pub same : SameCall before.known.own now.known.own
  pub between : (s.low ≤ next.key) × (next.key < s.high)
  -- the greatest key at which the seek went right, and the least one at which it went left
  pub low_is : next.low ≡ cond (nat_lt (key_of before.known.own.call) next.key) s.low (next.key + 1)
  pub high_is : next.high ≡ cond (nat_lt (key_of before.known.own.call) next.key) next.key s.high
  pub narrows : width next < width s
  pub trail : Trail before now

-- What a seek ended at: ancestor, successor, parent and leaf, all held.
pub record IsSought (q : TreePass) (k : ℕ) (s : Sought) : Type 0 where
  pub ancestor : ℕ
  pub ancestor_is : s.ancestor ≡ Walk ancestor
  pub ancestor_held : (ancestor < 5) × ((slot q ancestor).held ≡ true)
  pub ancestor_side_is : side_number s.ancestor_side ≡ side k (slot q ancestor).key
  pub plain : word_of s.successor % 16 ≡ 0
  pub some : target (word_of s.successor) ≢ 0
  pub top : q.own.top < 5
  pub top_held : (slot q q.own.top).held ≡ true
  pub leads : target (word_of s.successor) ≡ (slot q q.own.top).named
  -- the edges from the successor to the parent all had TAG
  pub last : ℕ
  pub joined : Joined (word_of s.successor) q.own.path last
  pub ends : (slot q q.own.at).named ≡ target last
  pub parent : q.own.at < 5
  pub parent_is : s.parent ≡ Walk q.own.at
  pub parent_held : (slot q q.own.at).held ≡ true
  pub side_is : side_number s.side ≡ side k (slot q q.own.at).key
  pub edge : IsEdge (word_of s.edge) 1
  pub small : IsSmall (word_of s.edge)
  pub leaf : (s.word < 5) × ((slot q s.word).held ≡ true)
  pub leaf_is : (slot q s.word).named ≡ target (word_of s.edge)
  pub equal : s.equal ≡ nat_eq (slot q s.word).key k
  -- FLAG and TAG that the edge had are known
  pub flag : flag_bit (word_of s.edge) ≡ 1 → q.own.flag ≡ side_number s.side
  pub beside : q.own.beside ≡ target (word_of s.edge)
  pub tag : tag_bit (word_of s.edge) ≡ 1 → IsIn {A = ℕ × ℕ} (side_number s.side, word_of s.edge) (slot q q.own.at).learnt

-- The seek ended. The step at which it ended settled a reply that changes nothing.
pub record Ends (z : Sizes) (k : ℕ) (sought : Sought) (before now : TreeView) : Type 0 where
  pub is : IsSought now.known k sought
  -- before that step and after it
  pub last : TreeView
  pub ended : TreeView
  pub until : Trail before last
  pub then : Trail ended now
  pub own : last.known.own ≡ before.known.own
  pub value : Halves
  pub ends : Ended sought.word (side_number sought.side) (cell_place z (slot now.known now.known.own.at).named
      (2 + side_number sought.side))
      (word_of sought.edge) (slot now.known sought.word).key value last ended
  pub value_is : (slot now.known sought.word).value ≡ value
  pub still : now.known.own ≡ ended.known.own
  pub rest : SameRest before.known now.known

-- the place of an edge of the record where a seek stands
abbrev pub edge_place : Sizes → TreePass → Spot → Next → ℕ
edge_place z q s n = cell_place z (slot q s.word).named (2 + side_number n.side)

-- the second load of an edge found this word, which isn't the first one
pub record SecondOther (z : Sizes) (s : Spot) (n : Next) (before : TreeView) (steps : List NamedStep) : Type 0 where
  pub kind : ℕ
  pub second : ℕ
  pub saw : IsFront (record { kind = kind; place = edge_place z before.known s n; word = second } ∷ []) steps
  pub which : IsSecond kind
  pub other : second ≢ word_of n.link

-- the key of the record that was confirmed lies outside the bounds
pub record KeyOutside (z : Sizes) (s : Spot) (n : Next) (before : TreeView) (steps : List NamedStep) : Type 0 where
  pub read : ℕ
  pub key : ℕ
  pub saw : IsFront (confirms (edge_place z before.known s n) (word_of n.link) ∷ reads read key ∷ []) steps
  pub outside : (key < s.low) ⊎ (s.high ≤ key)

-- why the second part of a turn was lost
pub record LosesThere (z : Sizes) (s : Spot) (n : Next) (before now : TreeView) : Type 0 where
  pub trail : Trail before now
  pub cause : SecondOther z s n before trail.steps ⊎ KeyOutside z s n before trail.steps

-- by another word
abbrev pub MovesThere : Sizes → Spot → Next → TreeView → TreeView → Type 0
MovesThere z s n before now = (l : LosesThere z s n before now) × SecondOther z s n before l.trail.steps

-- the second part of a turn in which the record was confirmed and its key read
pub record Confirms (place word key : ℕ) (steps : List NamedStep) : Type 0 where
  pub read : ℕ
  pub front : IsFront (confirms place word ∷ reads read key ∷ []) steps

-- such a turn whole: it loaded an edge of a record, announced where it leads, and confirmed it
pub record WentDown (z : Sizes) (key : ℕ) (steps : List NamedStep) : Type 0 where
  pub place : ℕ
  pub far : head_place z 0 < place
  pub first : ℕ
  pub valid : invalid_bit first ≡ 0
  pub announced : ℕ
  pub number : ℕ
  pub read : ℕ
  pub front : IsFront (loads place first ∷ announces announced number ∷ confirms place first ∷ reads read key ∷ []) steps

-- the seek stands at a further record, to which it came by these steps
abbrev pub ComesDown : Sizes → Spot → Spot → TreeView → TreeView → Type 0
ComesDown z s next before now = (c : ComesFurther s next before now) × WentDown z next.key c.trail.steps

-- it ended by the loads of an edge, and of the key of the leaf
pub record EndsDown (z : Sizes) (edge key : ℕ) (until then : List NamedStep) : Type 0 where
  pub place : ℕ
  pub far : head_place z 0 < place
  pub announced : ℕ
  pub number : ℕ
  pub read : ℕ
  pub first_is : until ≡ loads place edge ∷ announces announced number ∷ []
  pub then_is : then ≡ reads read key ∷ []

abbrev pub EndsAtLeaf : Sizes → ℕ → Sought → TreeView → TreeView → Type 0
EndsAtLeaf z k sought before now = (e : Ends z k sought before now)
    × EndsDown z (word_of sought.edge) (slot now.known sought.word).key e.until.steps e.then.steps

-- each answer of the second part of a turn, after an edge to an internal record, and after one to a leaf
abbrev pub CameOn : Sizes → Spot → Next → TreeView → TreeView → Down → Type 0
CameOn z s n before now downs.Moved = StaysThere s before now × MovesThere z s n before now
CameOn z s n before now downs.Broken = LetsAllGo before now × LosesThere z s n before now
CameOn z s n before now (downs.Came next) = (c : ComesFurther s next before now)
    × Confirms (edge_place z before.known s n) (word_of n.link) next.key c.trail.steps
CameOn z s n before now (downs.Ended sought) = ⊥

abbrev pub EndedAt : Sizes → ℕ → Spot → Next → TreeView → TreeView → Down → Type 0
EndedAt z k s n before now downs.Moved = StaysThere s before now × MovesThere z s n before now
EndedAt z k s n before now downs.Broken = LetsAllGo before now × LosesThere z s n before now
EndedAt z k s n before now (downs.Came next) = ⊥
EndedAt z k s n before now (downs.Ended sought) = (e : Ends z k sought before now) × ((e.until.steps ≡ [])
    × (sought.edge ≡ n.link) × ((read : ℕ) × (e.then.steps ≡ reads read (slot now.known sought.word).key ∷ [])))

-- each answer of a step down
abbrev pub LookedDown : Sizes → ℕ → Spot → TreeView → TreeView → Down → Type 0
LookedDown z k s before now downs.Moved = StaysThere s before now × Moves z s before now
LookedDown z k s before now downs.Broken = LetsAllGo before now × Loses z s before now
LookedDown z k s before now (downs.Came next) = ComesDown z s next before now
LookedDown z k s before now (downs.Ended sought) = EndsAtLeaf z k sought before now

-- how a turn that goes on does so
abbrev pub WentOn : Sizes → Call → Bool → Option Spot → Option Spot → TreeView → TreeView → Type 0
WentOn z call fresh None None before now = ⊥
WentOn z call fresh None (Some next) before now = Enters z call fresh next before now
WentOn z call fresh (Some s) None before now = ⊥
WentOn z call fresh (Some s) (Some next) before now = ComesDown z s next before now

-- how a turn that was lost leaves the seek: where it stood, or at the head
abbrev pub WasLost : Sizes → Option Spot → Option Spot → TreeView → TreeView → Type 0
WasLost z None next before now = ⊥
WasLost z (Some s) next before now = (l : Loses z s before now) × (((next ≡ Some s) × FoundOther z l.trail.steps) ⊎ (next ≡ None))
    × SameCall before.known.own now.known.own

-- each answer of a turn
abbrev pub Turned : Sizes → Seek → Seek → TreeView → TreeView → SeekTurn → Type 0
Turned z old new before now turns.On = Seeks now.known new × WentOn z old.call old.fresh old.spot new.spot before now
Turned z old new before now (turns.At sought) = EndsAtLeaf z (key_of old.call) sought before now × ((s : Spot) × (old.spot ≡ Some s))
Turned z old new before now turns.Lost = Seeks now.known new × WasLost z old.spot new.spot before now
