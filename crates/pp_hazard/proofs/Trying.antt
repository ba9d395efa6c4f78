-- The steps of a try to protect a record, and what they leave of its pass.
use Rattle.std.proofs.Common.{◌≡◌, ◌≢◌, ◌⊎◌, inl, inr, ℕ, ◌+◌, ◌<◌, ◌≤◌, Bool, true, false, cond, ◌&&◌}
use Rattle.std.proofs.Common.{List, [], ◌∷◌, length, set, refl, sym, ap, ◌∙◌, subst, arith}
use Rattle.std.proofs.lemmas.List.{set-set, length-set}
use Rattle.std.proofs.Math.Bool.{false≢true}
use Rattle.std.proofs.Math.Decide.{ℕ_discrete}
use mathlib.Core.Logic.{dite}
use Rattle.pp_link.specs.declared.layout.Sizes.{Sizes}
use Rattle.pp_link.specs.Links.{target, invalid_bit}
use Rattle.pp_link.specs.Places.{IsNumber, walk_place, cell_place}
use Rattle.pp_rule.specs.declared.views.WalkSlot.{WalkSlot}
use Rattle.pp_rule.specs.declared.views.PassState.{PassState}
use Rattle.pp_rule.specs.declared.views.SeatView.{SeatView}
use Rattle.pp_rule.specs.Orders.{announce_step, clear_step}
use Rattle.pp_rule.specs.Views.{naming, slot}
use Rattle.pp_rule.specs.Steps.{MadeQuietStep, with_walk, clearing, holding, LoadedLink, Confirmed}
use Rattle.pp_rule.proofs.Slots.{slot_here, slot_else}
use Rattle.pp_rule.proofs.Made.{known_after}
use Rattle.pp_base.specs.declared.source.Side.{Side}
use Rattle.pp_base.specs.declared.source.Place.{Place}
use Rattle.pp_base.specs.declared.source.Place.TheVariants.{Head, Walk}
use Rattle.pp_base.specs.Passes.{IsPassOf}
use Rattle.pp_base.specs.Sources.{side_number, source_place, IsReadable, learning_at}
use Rattle.pp_base.specs.Named.{loads, announces, confirms, clears, MadeOne}
use Rattle.pp_base.proofs.Named.{plain_one}
use Rattle.pp_hazard.specs.Protection.{SameRecord, SameBut}
use Rattle.pp_hazard.specs.Protection.{Protects, FindsNil, FindsInvalid, FindsOther}

same_record : (s : WalkSlot) → SameRecord s s
same_record s = record { named = refl; held = refl; key = refl; value = refl }

same_on : (s t u : WalkSlot) → SameRecord s t → SameRecord t u → SameRecord s u
same_on s t u a b = record { named = b.named ∙ a.named; held = b.held ∙ a.held; key = b.key ∙ a.key; value = b.value ∙ a.value }

module _ {W : Type 0} where
  -- the pass knows what it knew, and perhaps more of the records that it holds
  pub record Learnt (q q' : PassState W) : Type 0 where
    pub number : q'.number ≡ q.number
    pub sizes : q'.sizes ≡ q.sizes
    pub owned : q'.owned ≡ q.owned
    pub retired_are : q'.retired ≡ q.retired
    pub frontier : q'.frontier ≡ q.frontier
    pub chains : q'.chains ≡ q.chains
    pub scan : q'.scan ≡ q.scan
    pub walk : (j : ℕ) → SameRecord (slot q j) (slot q' j)

  learnt_nothing : (q : PassState W) → Learnt q q
  learnt_nothing q = record {
    number = refl;
    sizes = refl;
    owned = refl;
    retired_are = refl;
    frontier = refl;
    chains = refl;
    scan = refl;
    walk = λ j. same_record (slot q j);
  }

  learnt_here : (q : PassState W) (i : ℕ) (w : WalkSlot) → i < length q.walk → SameRecord (slot q i) w → Learnt q (with_walk i w q)
  learnt_here q i w low same = record {
    number = refl;
    sizes = refl;
    owned = refl;
    retired_are = refl;
    frontier = refl;
    chains = refl;
    scan = refl;
    walk = λ j. dite (ℕ_discrete j i)
        (λ e. subst (λ (k : ℕ). SameRecord (slot q k) (slot (with_walk i w q) k)) (sym e)
        (subst (λ (s : WalkSlot). SameRecord (slot q i) s) (sym (slot_here q (with_walk i w q) i w refl low)) same))
        (λ ne. subst (λ (s : WalkSlot). SameRecord (slot q j) s) (sym (slot_else q (with_walk i w q) i w refl j ne)) (same_record
        (slot q j)));
  }

  pub learnt_at : (sides : ℕ) (z : Sizes) (frozen : ℕ → Bool) (at : Place) (side : Side) (word : ℕ) (q : PassState W)
      → length q.walk ≡ 5 → IsReadable sides z q at side → Learnt q (learning_at frozen at side word q)
  learnt_at sides z frozen (Head h) side word q five low = learnt_nothing q
  learnt_at sides z frozen (Walk i) side word q five low = by (frozen word && (slot q i).held)
    where
      more : WalkSlot
      more = record (slot q i) { learnt = (side_number side, word) ∷ (slot q i).learnt }

      by : (b : Bool) → Learnt q (cond b (with_walk i more q) q)
      by false = learnt_nothing q
      by true = learnt_here q i more (subst (λ (n : ℕ). i < n) (sym five) low.0)
          (record { named = refl; held = refl; key = refl; value = refl })

  learnt_five : (sides : ℕ) (z : Sizes) (frozen : ℕ → Bool) (at : Place) (side : Side) (word : ℕ) (q : PassState W)
      → length q.walk ≡ 5 → length (learning_at frozen at side word q).walk ≡ 5
  learnt_five sides z frozen (Head h) side word q five = five
  learnt_five sides z frozen (Walk i) side word q five = by (frozen word && (slot q i).held)
    where
      more : WalkSlot
      more = record (slot q i) { learnt = (side_number side, word) ∷ (slot q i).learnt }

      by : (b : Bool) → length (cond b (with_walk i more q) q).walk ≡ 5
      by false = five
      by true = length-set q.walk i more ∙ five

  -- after that another walk word has any slot
  pub but_one : (i : ℕ) (q q' : PassState W) (w : WalkSlot) (own : W) → Learnt q q'
      → SameBut i q (record q' { walk = set q'.walk i w; own = own })
  but_one i q q' w own l = let q'' : PassState W = record q' { walk = set q'.walk i w; own = own } in record {
    walk = λ j five ne. subst (λ (s : WalkSlot). SameRecord (slot q j) s) (sym (slot_else q' q'' i w refl j ne)) (l.walk j);
    frontier = l.frontier;
    owned = l.owned;
    retired_are = l.retired_are;
    chains = l.chains;
    scan = l.scan;
  }

  -- so it is where more was learnt between
  pub but_more : (i : ℕ) (q r q' : PassState W) (w : WalkSlot) (own : W) → SameBut i q r → Learnt r q'
      → SameBut i q (record q' { walk = set q'.walk i w; own = own })
  but_more i q r q' w own s l = let q'' : PassState W = record q' { walk = set q'.walk i w; own = own } in record {
    walk = λ j five ne. subst (λ (s : WalkSlot). SameRecord (slot q j) s) (sym (slot_else q' q'' i w refl j ne))
        (same_on (slot q j) (slot r j) (slot q' j) (s.walk j five ne) (l.walk j));
    frontier = l.frontier ∙ s.frontier;
    owned = l.owned ∙ s.owned;
    retired_are = l.retired_are ∙ s.retired_are;
    chains = l.chains ∙ s.chains;
    scan = l.scan ∙ s.scan;
  }

  -- the last slot that a walk word got counts
  last_slot : (q : PassState W) (i : ℕ) (v w : WalkSlot) (own : W)
      → record q { walk = set (set q.walk i v) i w; own = own } ≡ record q { walk = set q.walk i w; own = own }
  last_slot q i v w own = ap (λ (l : List WalkSlot). record q { walk = l; own = own }) (set-set q.walk i v w)

  -- nothing is held in a walk word that is 0
  pub free_where_0 : (z : Sizes) (q : PassState W) (i : ℕ) → IsPassOf z q → i < 5 → (slot q i).named ≡ 0 → (slot q i).held ≡ false
  free_where_0 z q i pass low none = by (slot q i).held refl
    where
      by : (b : Bool) → (slot q i).held ≡ b → (slot q i).held ≡ false
      by false e = e
      by true e = let real : 1 ≤ (slot q i).named = (pass.held i low e).0 in absurd (omega arith)

  -- the link of a source that the pass still has stands where it stood
  same_source : (sides : ℕ) (z : Sizes) (at : Place) (side : Side) (i : ℕ) (q q' : PassState W) → IsReadable sides z q at side
      → (slot q i).held ≡ false → SameBut i q q' → source_place z q' at side ≡ source_place z q at side
  same_source sides z (Head h) side i q q' low free same = refl
  same_source sides z (Walk j) side i q q' low free same = ap (λ (n : ℕ). cell_place z n (2 + side_number side))
      (same.walk j low.0 (λ e. false≢true (sym free ∙ (ap (λ (k : ℕ). (slot q k).held) (sym e) ∙ low.2)))).named

  -- and it may load it still
  still_readable : (sides : ℕ) (z : Sizes) (at : Place) (side : Side) (i : ℕ) (q q' : PassState W) → IsReadable sides z q at side
      → (slot q i).held ≡ false → SameBut i q q' → IsReadable sides z q' at side
  still_readable sides z (Head h) side i q q' low free same = low
  still_readable sides z (Walk j) side i q q' low free same = (
    low.0,
    low.1,
    (same.walk j low.0 (λ e. false≢true (sym free ∙ (ap (λ (k : ℕ). (slot q k).held) (sym e) ∙ low.2)))).held ∙ low.2,
  )

module _ {E A W : Type 0} where
  quiet_known : (kind place word left : ℕ) (q : PassState W) (v w : SeatView E A W)
      → MadeQuietStep kind place word left q v w → w.known ≡ q
  quiet_known kind place word left q v w m = known_after kind place word left [] [] q v w m

module _ {E A W : Type 0} (sides : ℕ) (z : Sizes) (frozen : ℕ → Bool) (forget : ℕ → W → W) (at : Place) (side : Side) (i : ℕ)
    (v : SeatView E A W) (five : length v.known.walk ≡ 5) (readable : IsReadable sides z v.known at side) where
  abbrev pub link_place : ℕ
  link_place = source_place z v.known at side

  abbrev pub word_place : ℕ
  word_place = walk_place z v.known.number i

  abbrev pub learnt : ℕ → PassState W
  learnt word = learning_at frozen at side word v.known

  more : (word : ℕ) → Learnt v.known (learnt word)
  more word = learnt_at sides z frozen at side word v.known five readable

  -- what is as it was after a try that met a record
  pub others_held : (v' : SeatView E A W) (word : ℕ) → Protects z frozen forget at side i v v' word → SameBut i v.known v'.known
  others_held v' word p = subst (λ (q : PassState W). SameBut i v.known q) (sym p.known)
      (but_one i v.known (learnt word) (holding (target word) p.key p.value) (learnt word).own (more word))

  -- what the pass knows once it has announced the record that the first word leads to
  abbrev pub announced_at : ℕ → PassState W
  announced_at first = with_walk i (naming (target first)) (learnt first)

  same_announced : (first : ℕ) → SameBut i v.known (announced_at first)
  same_announced first = but_one i v.known (learnt first) (naming (target first)) (learnt first).own (more first)

  -- and what it learns then of another word
  learnt_more : (free : (slot v.known i).held ≡ false) (first second : ℕ)
      → Learnt (announced_at first) (learning_at frozen at side second (announced_at first))
  learnt_more free first second = learnt_at sides z frozen at side second (announced_at first)
      (length-set (learnt first).walk i (naming (target first)) ∙ five_on)
      (still_readable sides z at side i v.known (announced_at first) readable free (same_announced first))
    where
      five_on : length (learnt first).walk ≡ 5
      five_on = learnt_five sides z frozen at side first v.known five

  pub others_lost : (free : (slot v.known i).held ≡ false) (v' : SeatView E A W) (second : ℕ)
      → FindsOther z frozen forget at side i v v' second → SameBut i v.known v'.known
  others_lost free v' second f = let q' : PassState W = learning_at frozen at side second (announced_at f.first) in
      subst (λ (q : PassState W). SameBut i v.known q) (sym f.known)
      (but_more i v.known (announced_at f.first) q' (naming 0) (forget i q'.own) (same_announced f.first)
      (learnt_more free f.first second))

  module _ (v1 : SeatView E A W) (first : ℕ) (loaded : LoadedLink (learnt first) first link_place v v1) where
    loaded_known : v1.known ≡ learnt first
    loaded_known = quiet_known _ _ _ _ (learnt first) v v1 loaded.made

    loaded_one : MadeOne (loads link_place first) v v1
    loaded_one = plain_one (loads link_place first) (learnt first) v v1 (more first).number (more first).owned loaded.made

    pub finds_nil : invalid_bit first ≡ 0 → target first ≡ 0 → FindsNil z frozen forget at side i v v1 first
    finds_nil valid nil = record { valid = valid; nil = nil; steps = (v1, (loaded_one, refl)); known = loaded_known }

    pub finds_invalid : invalid_bit first ≡ 1 → FindsInvalid z frozen forget at side i v v1
    finds_invalid invalid = record { word = first; invalid = invalid; steps = (v1, (loaded_one, refl)); known = loaded_known }

    real_number : v.known.sizes ≡ z → invalid_bit first ≡ 0 → target first ≢ 0 → IsNumber z (target first)
    real_number sizes valid real = by (loaded.to valid)
      where
        by : (target first ≡ 0) ⊎ IsNumber v.known.sizes (target first) → IsNumber z (target first)
        by (inl e) = absurd (real e)
        by (inr is) = subst (λ (y : Sizes). IsNumber y (target first)) sizes is

    module _ (v2 v3 : SeatView E A W) (second : ℕ) (free : (slot v.known i).held ≡ false) (sizes : v.known.sizes ≡ z)
        (valid : invalid_bit first ≡ 0) (real : target first ≢ 0)
        (announced : MadeQuietStep announce_step (walk_place z v1.known.number i) (target first) (target first)
        (with_walk i (naming (target first)) v1.known) v1 v2)
        (confirmed : Confirmed i first second (source_place z v2.known at side)
        (learning_at frozen at side second v2.known) v2 v3) where
      abbrev pub named : PassState W
      named = announced_at first

      named_known : v2.known ≡ named
      named_known = quiet_known _ _ _ _ _ v1 v2 announced ∙ ap (with_walk i (naming (target first))) loaded_known

      announced_one : MadeOne (announces word_place (target first)) v1 v2
      announced_one = subst (λ (p : ℕ). MadeOne (announces p (target first)) v1 v2)
          (ap (λ (q : PassState W). walk_place z q.number i) loaded_known ∙ ap (λ (n : ℕ). walk_place z n i) (more first).number)
          (plain_one (announces (walk_place z v1.known.number i) (target first)) (with_walk i (naming (target first)) v1.known) v1 v2 refl
          refl announced)

      place_is : source_place z v2.known at side ≡ link_place
      place_is = ap (λ (q : PassState W). source_place z q at side) named_known
          ∙ same_source sides z at side i v.known named readable free (same_announced first)

      pub protects : second ≡ first → Protects z frozen forget at side i v v3 first
      protects e = let held = confirmed.same e in let w : WalkSlot = holding (target first) held.0 held.1.0 in record {
        valid = valid;
        number = real_number sizes valid real;
        key = held.0;
        value = held.1.0;
        steps = (
          v1,
          (
            loaded_one,
            (
              v2,
              (
                announced_one,
                (
                  v3,
                  (
                    subst (λ (n : ℕ). MadeOne (confirms link_place n) v2 v3) e
                        (subst (λ (p : ℕ). MadeOne (confirms p second) v2 v3) place_is
                        (plain_one (confirms (source_place z v2.known at side) second) (with_walk i w v2.known) v2 v3 refl refl held.1.1)),
                    refl,
                  ),
                ),
              ),
            ),
          ),
        );
        known = quiet_known _ _ _ _ _ v2 v3 held.1.1 ∙ (ap (with_walk i w) named_known
            ∙ last_slot (learnt first) i (naming (target first)) w (learnt first).own);
      }

      pub finds_other : (v4 : SeatView E A W) → second ≢ first
          → MadeQuietStep clear_step (walk_place z v3.known.number i) 0 0 (clearing forget i v3.known) v3 v4
          → FindsOther z frozen forget at side i v v4 second
      finds_other v4 ne cleared = let later : PassState W = learning_at frozen at side second v2.known in
          let same : v3.known ≡ learning_at frozen at side second named = quiet_known _ _ _ _ _ v2 v3 (confirmed.other ne)
          ∙ ap (λ (q : PassState W). learning_at frozen at side second q) named_known in
          let learns : Learnt v2.known later =
          subst (λ (q : PassState W). Learnt q (learning_at frozen at side second q)) (sym named_known)
          (learnt_more free first second) in
          let number : v3.known.number ≡ v.known.number = ap (λ (q : PassState W). q.number) same
          ∙ ((learnt_more free first second).number ∙ (more first).number) in record {
            first = first;
            valid = valid;
            number = real_number sizes valid real;
            other = ne;
            steps = (
              v1,
              (
                loaded_one,
                (
                  v2,
                  (
                    announced_one,
                    (
                      v3,
                      (
                        subst (λ (p : ℕ). MadeOne (confirms p second) v2 v3) place_is
                            (plain_one (confirms (source_place z v2.known at side) second) later v2 v3 learns.number
                            learns.owned (confirmed.other ne)),
                        (
                          v4,
                          (
                            subst (λ (p : ℕ). MadeOne (clears p) v3 v4)
                                (ap (λ (n : ℕ). walk_place z n i) number)
                                (plain_one (clears (walk_place z v3.known.number i)) (clearing forget i v3.known) v3 v4 refl refl cleared),
                            refl,
                          ),
                        ),
                      ),
                    ),
                  ),
                ),
              ),
            );
            known = quiet_known _ _ _ _ _ v3 v4 cleared ∙ ap (clearing forget i) same;
          }
