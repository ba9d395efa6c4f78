-- What a try to protect a record makes of the view of its pass.
use Rattle.std.specs.Prelude.{◌≡◌, ◌≢◌, ◌⊎◌, ℕ, ◌<◌, Bool, true, false, [], ◌∷◌}
use Rattle.pp_link.specs.declared.layout.Sizes.{Sizes}
use Rattle.pp_link.specs.Links.{word_of, target, invalid_bit}
use Rattle.pp_link.specs.Places.{IsNumber, walk_place}
use Rattle.pp_rule.specs.declared.views.Halves.{Halves}
use Rattle.pp_rule.specs.declared.views.WalkSlot.{WalkSlot}
use Rattle.pp_rule.specs.declared.views.PassState.{PassState}
use Rattle.pp_rule.specs.declared.views.SeatView.{SeatView}
use Rattle.pp_rule.specs.Views.{naming, slot}
use Rattle.pp_rule.specs.Steps.{with_walk, clearing, holding}
use Rattle.pp_base.specs.declared.source.Side.{Side}
use Rattle.pp_base.specs.declared.source.Place.{Place}
use Rattle.pp_base.specs.Named.{loads, announces, confirms, clears, Made}
use Rattle.pp_base.specs.Sources.{source_place, learning_at}
use Rattle.pp_hazard.specs.declared.protection.Protect.{Protect}
use Rattle.pp_hazard.specs.declared.protection.Protect.TheVariants.{Confirmed, Nil, Moved, Invalid}

-- nothing is held in the walk word, and it is 0
pub record IsClear (s : WalkSlot) : Type 0 where
  pub named : s.named ≡ 0
  pub free : s.held ≡ false

-- the same record stands in the walk word, held or not
pub record SameRecord (s s' : WalkSlot) : Type 0 where
  pub named : s'.named ≡ s.named
  pub held : s'.held ≡ s.held
  pub key : s'.key ≡ s.key
  pub value : s'.value ≡ s.value

module _ {W : Type 0} where
  -- what the pass has is as it was, but for the walk word i and for what it learnt of held records
  pub record SameBut (i : ℕ) (q q' : PassState W) : Type 0 where
    pub walk : (j : ℕ) → j < 5 → j ≢ i → SameRecord (slot q j) (slot q' j)
    pub frontier : q'.frontier ≡ q.frontier
    pub owned : q'.owned ≡ q.owned
    pub retired_are : q'.retired ≡ q.retired
    pub chains : q'.chains ≡ q.chains
    pub scan : q'.scan ≡ q.scan

module _ {E A W : Type 0} (z : Sizes) (frozen : ℕ → Bool) (forget : ℕ → W → W) (at : Place) (side : Side) (i : ℕ)
    (before after : SeatView E A W) where
  -- the place of the link, and that of the walk word
  abbrev pub link_at : ℕ
  link_at = source_place z before.known at side

  abbrev pub word_at : ℕ
  word_at = walk_place z before.known.number i

  -- what the pass knows once it has loaded this word
  abbrev pub with_link : ℕ → PassState W
  with_link word = learning_at frozen at side word before.known

  -- The link was this word twice, and the pass holds the record that it leads to.
  pub record Protects (word : ℕ) : Type 0 where
    pub valid : invalid_bit word ≡ 0
    pub number : IsNumber z (target word)
    pub key : ℕ
    pub value : Halves
    pub steps : Made (loads link_at word ∷ announces word_at (target word) ∷ confirms link_at word ∷ []) before after
    pub known : after.known ≡ with_walk i (holding (target word) key value) (with_link word)

  -- The link was this word, which leads to no record.
  pub record FindsNil (word : ℕ) : Type 0 where
    pub valid : invalid_bit word ≡ 0
    pub nil : target word ≡ 0
    pub steps : Made (loads link_at word ∷ []) before after
    pub known : after.known ≡ with_link word

  -- The link had INVALID when it was loaded first.
  pub record FindsInvalid : Type 0 where
    pub word : ℕ
    pub invalid : invalid_bit word ≡ 1
    pub steps : Made (loads link_at word ∷ []) before after
    pub known : after.known ≡ with_link word

  -- The link led to a record, and was another word when it was loaded again. Both words are learnt where they are frozen.
  pub record FindsOther (second : ℕ) : Type 0 where
    pub first : ℕ
    pub valid : invalid_bit first ≡ 0
    pub number : IsNumber z (target first)
    pub other : second ≢ first
    pub steps : Made (loads link_at first ∷ announces word_at (target first) ∷ confirms link_at second ∷ clears word_at ∷ []) before after
    pub known : after.known ≡ clearing forget i
        (learning_at frozen at side second (with_walk i (naming (target first)) (with_link first)))

  -- each answer, by the words that were found
  abbrev pub Answered : Protect → Type 0
  Answered (Confirmed l) = Protects (word_of l)
  Answered (Nil l) = FindsNil (word_of l)
  Answered (Moved l) = FindsOther (word_of l) × (invalid_bit (word_of l) ≡ 0)
  Answered Invalid = FindsInvalid ⊎ ((second : ℕ) × (FindsOther second × (invalid_bit second ≡ 1)))

-- what stands in the walk word after each answer
abbrev pub HasAfter : Protect → WalkSlot → Type 0
HasAfter (Confirmed l) s = (s.held ≡ true) × (s.named ≡ l.number)
HasAfter (Nil l) s = IsClear s
HasAfter (Moved l) s = IsClear s
HasAfter Invalid s = IsClear s
