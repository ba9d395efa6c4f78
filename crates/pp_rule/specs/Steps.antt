-- What the steps that every pool has make of a view.
use Rattle.std.specs.Prelude.{◌≡◌, ◌≢◌, ◌⊎◌, ℕ, ◌+◌, ◌<◌, Bool, true, false, cond, nat_eq, ◌&&◌, List, [], ◌∷◌, ◌++◌, map}
use Rattle.std.specs.Prelude.{length, slice_set, bit_or}
use Rattle.pp_link.specs.declared.layout.Sizes.{Sizes}
use Rattle.pp_link.specs.Links.{target, invalid_bit}
use Rattle.pp_link.specs.Places.{IsNumber, head_place, cell_place}
use Rattle.atomic_table.specs.Table.{Me}
use Rattle.pp_rule.specs.Lists.{IsIn, BeginsWith, without, without_all, first_of, rest_of, longer}
use Rattle.pp_rule.specs.Orders.{LoggedStep, log_of, made_by, load_step, confirm_step, read_step, invalidate_step, scan_walk_step}
use Rattle.pp_rule.specs.Views.{WalkSlot, Halves, naming, Chain, ChainLink, PrivateRecord, PassState, SeatView, JoinedOrder}
use Rattle.pp_rule.specs.Views.{all_of, slot}

module _ {E A W : Type 0} where
  -- the entry of a step in the order, after the steps so far
  abbrev pub entry : ℕ → ℕ → ℕ → ℕ → List E → List A → List (LoggedStep E A) → PassState W → LoggedStep E A
  entry kind place word left changes placed so_far known = record {
    entry = record {
      pass = known.number;
      step = record { kind = kind; place = place; word = word; seen = length (log_of so_far) + length changes; owned = length known.owned };
      left = left;
      changes = changes;
    };
    placed = placed;
  }

  -- the view of a pass that is alone in its seat
  abbrev pub alone : List (LoggedStep E A) → PassState W → SeatView E A W
  alone order known = record { order = order; standing = true; known = known; taken = []; kept = []; met = [] }

  -- the view of a seat that stands for several passes, none of them joined
  abbrev pub several : List (LoggedStep E A) → PassState W → List (PassState W) → SeatView E A W
  several order known taken = record { order = order; standing = true; known = known; taken = taken; kept = []; met = [] }

  -- a seat's own pass goes to a seat of its own, and the first of the others takes its place
  abbrev pub kept_part : SeatView E A W → SeatView E A W
  kept_part v = record {
    order = v.order;
    standing = v.standing;
    known = first_of v.known v.taken;
    taken = rest_of v.taken;
    kept = v.kept;
    met = v.met;
  }

  abbrev pub dealt_part : SeatView E A W → SeatView E A W
  dealt_part v = alone v.order v.known

  -- the order that a seat's own pass had
  abbrev pub order_of : SeatView E A W → JoinedOrder E A
  order_of v = record { pass = v.known.number; order = v.order }

  -- the view of a seat that took over another's passes, and what the other is left with
  abbrev pub both_parts : SeatView E A W → SeatView E A W → SeatView E A W
  both_parts v w = record {
    order = longer v.order w.order;
    standing = v.standing;
    known = v.known;
    taken = v.taken ++ all_of w;
    kept = order_of v ∷ order_of w ∷ w.kept;
    met = [];
  }

  abbrev pub spent_part : PassState W → SeatView E A W
  spent_part nobody = record { order = []; standing = false; known = nobody; taken = []; kept = []; met = [] }

  -- what remembers a seat's view and stands for no pass
  abbrev pub told_part : SeatView E A W → SeatView E A W
  told_part v = record { order = v.order; standing = false; known = v.known; taken = v.taken; kept = []; met = [] }

  -- the view of a seat that took over what another remembers: it has the longer order of the two, and keeps both
  abbrev pub meeting_part : SeatView E A W → SeatView E A W → SeatView E A W
  meeting_part v w = record {
    order = longer v.order w.order;
    standing = v.standing;
    known = v.known;
    taken = v.taken;
    kept = order_of v ∷ v.kept;
    met = w.order ∷ v.met;
  }

  -- the view of a seat that has seen all these steps, and keeps no other order
  abbrev pub seeing : List (LoggedStep E A) → SeatView E A W → SeatView E A W
  seeing order v = record {
    order = order;
    standing = v.standing;
    known = v.known;
    taken = v.taken;
    kept = [];
    met = [];
  }

  -- A load that is no step of the order. The seat has then seen all steps so far: they begin with each order that it kept, and
  -- there is no further step of that order's pass.
  pub record Learnt (v w : SeatView E A W) : Type 0 where
    pub is : w ≡ seeing w.order v
    pub begins : BeginsWith w.order v.order
    pub met : (o : List (LoggedStep E A)) → IsIn o v.met → BeginsWith w.order o
    pub kept : (o : JoinedOrder E A) → IsIn o v.kept → BeginsWith w.order o.order
        × (made_by o.pass w.order ≡ made_by o.pass o.order)

  -- a seat with no slot, whose view is that of one pass
  abbrev pub IsAlone : Me Unit (SeatView E A W) → Type 0
  IsAlone me = (me.1 ≡ []) × (me.0 ≡ alone me.0.order me.0.known)

  -- The view of a pass before and after one step of this kind on the word at this place, which found (or stored) `word` and
  -- left `left`. The steps of all passes so far begin with those that the pass had seen.
  pub record MadeStep (kind place word left : ℕ) (changes : List E) (placed : List A) (known : PassState W)
      (before after : SeatView E A W) : Type 0 where
    pub so_far : List (LoggedStep E A)
    pub begins : BeginsWith so_far before.order
    -- no other step of this pass came between
    pub own_steps : made_by before.known.number so_far ≡ made_by before.known.number before.order
    pub is : after ≡ alone (so_far ++ entry kind place word left changes placed so_far known ∷ []) known

  -- the same where no change took effect and no call was placed
  abbrev pub MadeQuietStep : ℕ → ℕ → ℕ → ℕ → PassState W → SeatView E A W → SeatView E A W → Type 0
  MadeQuietStep kind place word left known before after = MadeStep kind place word left [] [] known before after

module _ {W : Type 0} where
  -- the walk word i has the slot w
  abbrev pub with_walk : ℕ → WalkSlot → PassState W → PassState W
  with_walk i w q = record q { walk = slice_set q.walk i w }

  -- the walk word i is cleared, and the shape's part forgets it
  abbrev pub clearing : (ℕ → W → W) → ℕ → PassState W → PassState W
  clearing forget i q = record q { walk = slice_set q.walk i (naming 0); own = forget i q.own }

  -- the frontier word j names n
  abbrev pub with_frontier : ℕ → ℕ → PassState W → PassState W
  with_frontier j n q = record q { frontier = slice_set q.frontier j n }

  abbrev pub with_private : ℕ → PrivateRecord → PassState W → PassState W
  with_private k d q = record q { owned = slice_set q.owned k d }

  -- no chain in hand is guarded by the frontier word j
  abbrev pub IsUnused : ℕ → PassState W → Type 0
  IsUnused j q = (c : Chain) → IsIn c q.chains → c.guard ≢ j

  -- the place of a link of a head, or of a record that the pass holds
  abbrev pub IsSource : ℕ → Sizes → PassState W → ℕ → Type 0
  IsSource sides z q place = ((h : ℕ) × ((h < z.heads) × (place ≡ head_place z h)))
      ⊎ ((j : ℕ) × ((side : ℕ) × ((j < 5) × (side < sides) × ((slot q j).held ≡ true) × (place ≡ cell_place z (slot q j).named
      (2 + side)))))

  -- the frozen word of this side is learnt of the record that is held in the word j
  abbrev pub learning : (ℕ → Bool) → ℕ → ℕ → ℕ → PassState W → PassState W
  learning frozen j side word q = cond (frozen word && (slot q j).held)
      (with_walk j (record (slot q j) { learnt = (side, word) ∷ (slot q j).learnt }) q) q

-- the record n is held, which was published with this key and this value
abbrev pub holding : ℕ → ℕ → Halves → WalkSlot
holding n key value = record { named = n; held = true; key = key; value = value; learnt = [] }

-- the private record with this word in this field
abbrev pub wrote : ℕ → ℕ → PrivateRecord → PrivateRecord
wrote f x d = record {
  number = d.number;
  key = cond (nat_eq f 0) x d.key;
  value = cond (nat_eq f 1) x d.value;
  left = cond (nat_eq f 2) x d.left;
  right = cond (nat_eq f 3) x d.right;
  high = cond (nat_eq f 4) x d.high;
}

-- the links of the list but this one
abbrev pub without_link : ℕ → ℕ → List (ℕ × ℕ) → List (ℕ × ℕ)
without_link n side [] = []
without_link n side (l ∷ ls) = cond (nat_eq l.0 n && nat_eq l.1 side) (without_link n side ls) (l ∷ without_link n side ls)

-- the chain, of which one more link has INVALID
abbrev pub invalidated : ℕ → ℕ → Chain → Chain
invalidated n side c = record c { valid = without_link n side c.valid }

module _ {W : Type 0} where
  abbrev pub with_chain : ℕ → Chain → PassState W → PassState W
  with_chain k c q = record q { chains = slice_set q.chains k c }

  -- the chain is in hand
  abbrev pub detaching : Chain → PassState W → PassState W
  detaching c q = record q { chains = q.chains ++ c ∷ [] }

  -- The oldest chain in hand is retired, its records in their order, and its frontier word is 0.
  abbrev pub retiring : Chain → PassState W → PassState W
  retiring c q = record q { chains = rest_of q.chains; retired = q.retired ++ c.records; frontier = slice_set q.frontier c.guard 0 }

  -- the numbers that a reclaim pass still has; it begins with all retired numbers
  abbrev pub still : PassState W → List ℕ
  still q = cond (nat_eq q.scan.read 0) q.retired q.scan.left

  -- after the reclaim pass read one more hazard word, which named n
  abbrev pub scanned : ℕ → PassState W → PassState W
  scanned n q = record q { scan = record { read = q.scan.read + 1; left = without n (still q) } }

  -- The reclaim pass has read its last hazard word, which named n: what no word named is free. The retired numbers that stay
  -- keep their order.
  abbrev pub reclaimed : ℕ → List PrivateRecord → PassState W → PassState W
  reclaimed n freed q = record q {
    owned = q.owned ++ freed;
    retired = without_all (without n (still q)) q.retired;
    scan = record { read = 0; left = [] };
  }

module _ {E A W : Type 0} where
  -- A load of the key or the value of the record that is held in the word i: what it was published with.
  pub record ReadField (i field found place : ℕ) (before after : SeatView E A W) : Type 0 where
    pub made : MadeQuietStep read_step place found found before.known before after
    pub key : field ≡ 0 → found ≡ (slot before.known i).key
    pub low : field ≡ 1 → found ≡ (slot before.known i).value.low
    pub high : field ≡ 4 → found ≡ (slot before.known i).value.high

  -- A load of the link at this place. Where it is the link of a held record and frozen, it is learnt.
  pub record LoadedLink (known : PassState W) (found place : ℕ) (before after : SeatView E A W) : Type 0 where
    pub made : MadeQuietStep load_step place found found known before after
    pub small : found < 68719476736
    -- where it is valid, it leads to nil or to a record of this pool
    pub to : invalid_bit found ≡ 0 → (target found ≡ 0) ⊎ IsNumber before.known.sizes (target found)

  -- A confirming load: the record is held in the word i where the word found is the first one. Of another word it is known what
  -- a first load of it would tell.
  pub record Confirmed (i first found place : ℕ) (known : PassState W) (before after : SeatView E A W) : Type 0 where
    pub small : found < 68719476736
    pub number : found ≡ first → IsNumber before.known.sizes (target first)
    pub same : found ≡ first → (key : ℕ) × ((value : Halves)
        × MadeQuietStep confirm_step place found found (with_walk i (holding (target first) key value) before.known) before after)
    pub other : found ≢ first → MadeQuietStep confirm_step place found found known before after

  -- An or-step that sets INVALID in a link of the chain at the index k. The old word leads where the chain's link led.
  pub record Invalidated (k : ℕ) (c : Chain) (n side found place : ℕ) (before after : SeatView E A W) : Type 0 where
    pub made : MadeQuietStep invalidate_step place found (bit_or found 4) (with_chain k (invalidated n side c) before.known) before after
    pub small : found < 68719476736
    pub leads : (l : ChainLink) → IsIn l c.links → l.number ≡ n → l.side ≡ side → target found ≡ target l.word

  -- A load of the last walk word of a reclaim pass, which named n. The freed records are those that are left, in the order of
  -- the retired list, with the words that stand in them.
  pub record Reclaimed (found place : ℕ) (before after : SeatView E A W) : Type 0 where
    pub freed : List PrivateRecord
    pub numbers : map (λ d. d.number) freed ≡ without found (still before.known)
    pub made : MadeQuietStep scan_walk_step place found found (reclaimed found freed before.known) before after
