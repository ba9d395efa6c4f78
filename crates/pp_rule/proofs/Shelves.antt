-- A step that changes one shelf word and the state of one number, which is free or private before it and after it: what the
-- rule of every pool says of the other states and words stays.
use Rattle.std.proofs.Common.{◌≡◌, ◌≢◌, ◌⊎◌, ℕ, ◌+◌, ◌*◌, ◌<◌, true, List, [], ◌∷◌, ◌++◌, length, get_or, set, refl, sym, ap}
use Rattle.std.proofs.Common.{◌∙◌, subst, inl, inr, ⊎_elim}
use Rattle.std.proofs.lemmas.List.{length-set}
use Rattle.pp_link.specs.declared.layout.Sizes.{Sizes}
use Rattle.pp_link.specs.Links.{target}
use Rattle.pp_link.specs.Places.{IsNumber, shelf_place}
use Rattle.pp_link.specs.Words.{frontier_word, cell_word, ShelfStored}
use Rattle.pp_link.proofs.Stores.{shelf_stored}
use Rattle.pp_rule.specs.Lists.{IsIn, OnceBy, Once}
use Rattle.pp_rule.specs.Orders.{LoggedStep}
use Rattle.pp_rule.specs.Views.{WalkSlot, blank, PrivateRecord, PassState, slot}
use Rattle.pp_rule.specs.States.{RecordState, attached, in_hand, retired, owned, shelved, IsUsed, IsLinked, IsStateIn, PoolState}
use Rattle.pp_rule.specs.States.{Leads, Held}
use Rattle.pp_rule.specs.Rule.{number_of, Numbers, PrivateWords, Hazards, Links, Shelves, Chains, Scans, Base}
use Rattle.pp_rule.specs.Changes.{SameButOwned}
use Rattle.pp_rule.specs.Looks.{SameOwn, LooksSame}
use Rattle.pp_rule.proofs.Put.{put, put_here, put_else, put_each}
use Rattle.pp_rule.proofs.Slots.{same_own}
use Rattle.pp_rule.proofs.Frames.{SameUsed, held_after, links_after, hazards_after, chains_after, Unscanned, scans_after}

module _ (status : ℕ → RecordState) (n : ℕ) (to : RecordState) (was_free : IsUsed (status n) → ⊥) (is_free : IsUsed to → ⊥) where
  -- the states after the step
  abbrev pub moved : ℕ → RecordState
  moved = put status n to

  -- a used record has the state that it had
  pub used_stays : (m : ℕ) (x : RecordState) → status m ≡ x → IsUsed x → moved m ≡ x
  used_stays m x state used = put_else status n to m (λ e. was_free (subst IsUsed (sym state ∙ ap status e) used)) ∙ state

  pub used_was : (m : ℕ) (x : RecordState) → moved m ≡ x → IsUsed x → status m ≡ x
  used_was m x state used =
      sym (put_else status n to m (λ e. is_free (subst IsUsed (sym state ∙ (ap moved e ∙ put_here status n to)) used))) ∙ state

  pub used_on : (m : ℕ) → IsUsed (status m) → IsUsed (moved m)
  used_on m used = subst IsUsed (sym (used_stays m (status m) refl used)) used

  pub used_back : (m : ℕ) → IsUsed (moved m) → IsUsed (status m)
  used_back m used = subst IsUsed (sym (used_was m (moved m) refl used)) used

-- an attached record and one in hand are used
linked_used : (x : RecordState) → IsLinked x → IsUsed x
linked_used attached linked = tt
linked_used (in_hand p j) linked = tt
linked_used (retired p) linked = absurd linked
linked_used (owned p) linked = absurd linked
linked_used (shelved j) linked = absurd linked

-- The shelf word j gets a value, the number n another state, and the pass q owns other records.
module _ {E A W : Type 0} (sides : ℕ) (z : Sizes) (words : List ℕ) (g : PoolState E A W) (q q' : PassState W) (j value n : ℕ)
    (to : RecordState) (b : Base sides z words g) (pass : q.number < z.passes) (is : g.of q.number ≡ q) (low : j < 8 * z.passes)
    (was_free : IsUsed (g.status n) → ⊥) (is_free : IsUsed to → ⊥) (same : SameButOwned q q') where
  abbrev pub stored_words : List ℕ
  stored_words = set words (shelf_place z j) value

  abbrev pub states : ℕ → RecordState
  states = moved g.status n to was_free is_free

  abbrev pub passes : ℕ → PassState W
  passes = put g.of q.number q'

  pub stored : ShelfStored z words stored_words j value
  stored = shelf_stored z words value b.wide j low

  stays : (m : ℕ) (x : RecordState) → g.status m ≡ x → IsUsed x → states m ≡ x
  stays m x state used = used_stays g.status n to was_free is_free m x state used

  was : (m : ℕ) (x : RecordState) → states m ≡ x → IsUsed x → g.status m ≡ x
  was m x state used = used_was g.status n to was_free is_free m x state used

  same_used : SameUsed z states words stored_words
  same_used = record { heads = stored.heads; cells = λ m f number four used. stored.cells m f number four }

  hazards_moved : Hazards z words g.of states
  hazards_moved = record {
    five = b.hazards.five;
    four = b.hazards.four;
    walks = b.hazards.walks;
    frontiers = b.hazards.frontiers;
    held = λ r i below five on. let h = b.hazards.held r i below five on in record {
      number = h.number;
      used = used_on g.status n to was_free is_free (slot (g.of r) i).named h.used;
      key = h.key;
      value = h.value;
      learnt = h.learnt;
    };
  }

  leads_on : {w : ℕ} → Leads z g.status w → Leads z states w
  leads_on {w} l = record {
    small = l.small;
    valid = l.valid;
    to = ⊎_elim inl (λ (t : IsNumber z (target w) × (g.status (target w) ≡ attached)).
        inr (t.0, stays (target w) attached t.1 tt)) l.to;
  }

  links_moved : Links sides z words states
  links_moved = record {
    heads = λ h below. leads_on (b.links.heads h below);
    linked = λ m side number lt state. leads_on (b.links.linked m side number lt (was m attached state tt));
    hand = λ m side r k number lt state. let l = b.links.hand m side r k number lt (was m (in_hand r k) state tt) in
        let w : ℕ = cell_word words z m (2 + side) in record {
          small = l.small;
          to = λ valid. ⊎_elim inl
              (λ (t : IsNumber z (target w) × ((g.status (target w) ≡ in_hand r k)
              ⊎ ((target w ≡ frontier_word words z r k) × IsUsed (g.status (target w))))). inr (
                t.0,
                ⊎_elim (λ (e : g.status (target w) ≡ in_hand r k). inl (stays (target w) (in_hand r k) e tt))
                    (λ (u : (target w ≡ frontier_word words z r k) × IsUsed (g.status (target w))). inr
                    (u.0, used_on g.status n to was_free is_free (target w) u.1)) t.1,
              )) (l.to valid);
        };
    spent = λ m side r number lt state. b.links.spent m side r number lt (was m (retired r) state tt);
  }

  chains_moved : Chains sides z words g.of states
  chains_moved = record {
    guard = b.chains.guard;
    once = b.chains.once;
    members = λ r m c below i member. let had = b.chains.members r m c below i member in
        (had.0, stays m (in_hand r c.guard) had.1 tt);
    members_once = b.chains.members_once;
    home = λ r k m below number state. b.chains.home r k m below number (was m (in_hand r k) state tt);
    valid = b.chains.valid;
    links = b.chains.links;
  }

  scans_moved : Scans sides z words g.of states
  scans_moved = record {
    left = λ r m below i. let had = b.scans.left r m below i in (had.0, stays m (retired r) had.1 tt);
    left_once = b.scans.left_once;
    fronts = λ r m p k l side below i read number lt state. b.scans.fronts r m p k l side below i read number lt
        (was l (in_hand p k) state tt);
    walks = b.scans.walks;
  }

  walk_is : q'.walk ≡ (g.of q.number).walk
  walk_is = same.walk ∙ ap (λ v. v.walk) (sym is)

  frontier_is : q'.frontier ≡ (g.of q.number).frontier
  frontier_is = same.frontier ∙ ap (λ v. v.frontier) (sym is)

  hazards_now : Hazards z stored_words passes states
  hazards_now = hazards_after z g.of q.number q' words stored_words states same_used hazards_moved
      (ap (λ (l : List WalkSlot). length l) walk_is ∙ b.hazards.five q.number pass)
      (ap (λ (l : List ℕ). length l) frontier_is ∙ b.hazards.four q.number pass)
      (λ r i below other five. stored.walks r i below five)
      (λ i five. stored.walks q.number i pass five ∙ (b.hazards.walks q.number i pass five
      ∙ ap (λ (l : List WalkSlot). (get_or l i blank).named) (sym walk_is)))
      (λ r k below other four. stored.frontiers r k below four)
      (λ k four. stored.frontiers q.number k pass four ∙ (b.hazards.frontiers q.number k pass four
      ∙ ap (λ (l : List ℕ). get_or l k 0) (sym frontier_is)))
      (λ i five. subst (λ (l : List WalkSlot). (get_or l i blank).held ≡ true → Held z stored_words states (get_or l i blank))
      (sym walk_is) (held_on i five))
    where
      held_on : (i : ℕ) → i < 5 → (slot (g.of q.number) i).held ≡ true → Held z stored_words states (slot (g.of q.number) i)
      held_on i five on = held_after z words stored_words states (slot (g.of q.number) i) same_used
          (hazards_moved.held q.number i pass five on)

  -- The numbers of the pass's other lists stay, where what it owns is told.
  pub numbers_moved : IsStateIn z to
      → ((d : PrivateRecord) → IsIn d q'.owned → IsNumber z d.number × (states d.number ≡ owned q.number))
      → ((m : ℕ) → IsNumber z m → states m ≡ owned q.number → (d : PrivateRecord) × (IsIn d q'.owned × (d.number ≡ m)))
      → ((r : ℕ) (d : PrivateRecord) → r < z.passes → r ≢ q.number → IsIn d (g.of r).owned → d.number ≢ n)
      → ((r : ℕ) → r < z.passes → r ≢ q.number → to ≢ owned r) → OnceBy number_of q'.owned → Numbers z passes states
  numbers_moved scope mine_to mine_from others_to others_from once = record {
    scope = put_each (λ (m : ℕ) (x : RecordState). IsNumber z m → IsStateIn z x) g.status n to (λ number. scope)
        (λ m other number. b.numbers.scope m number);
    owned_to = λ r d below. put_each (λ (r : ℕ) (v : PassState W). r < z.passes → IsIn d v.owned
        → IsNumber z d.number × (states d.number ≡ owned r)) g.of q.number q' (λ below i. mine_to d i)
        (λ r other below i. let had = b.numbers.owned_to r d below i in
        (had.0, put_else g.status n to d.number (others_to r d below other i) ∙ had.1)) r below;
    owned_from = λ r m below number. put_each (λ (r : ℕ) (v : PassState W). r < z.passes → states m ≡ owned r
        → (d : PrivateRecord) × (IsIn d v.owned × (d.number ≡ m))) g.of q.number q' (λ below state. mine_from m number state)
        (λ r other below state. b.numbers.owned_from r m below number
        (sym (put_else g.status n to m (λ e. others_from r below other (sym (put_here g.status n to)
        ∙ (ap states (sym e) ∙ state)))) ∙ state))
        r below;
    owned_once = put_each (λ (r : ℕ) (v : PassState W). r < z.passes → OnceBy number_of v.owned) g.of q.number q' (λ below. once)
        (λ r other below. b.numbers.owned_once r below);
    retired_to = λ r m below i. let had = b.numbers.retired_to r m below (subst (λ (l : List ℕ). IsIn m l) (same_retired r) i) in
        (had.0, stays m (retired r) had.1 tt);
    retired_from = λ r m below number state. subst (λ (l : List ℕ). IsIn m l) (sym (same_retired r))
        (b.numbers.retired_from r m below number (was m (retired r) state tt));
    retired_once = λ r below. subst Once (sym (same_retired r)) (b.numbers.retired_once r below);
  }
    where
      same_retired : (r : ℕ) → (passes r).retired ≡ (g.of r).retired
      same_retired = put_each (λ (r : ℕ) (v : PassState W). v.retired ≡ (g.of r).retired) g.of q.number q'
          (same.retired_are ∙ ap (λ v. v.retired) (sym is)) (λ r other. refl)

  -- all facts, where those of the lists, of the private records and of the shelf words are told
  pub base_moved : (order : List (LoggedStep E A)) → Numbers z passes states → PrivateWords z stored_words passes
      → Shelves z stored_words states → Base sides z stored_words (record { of = passes; order = order; status = states })
  base_moved order numbers privates shelves = record {
    within = b.within;
    two = b.two;
    wide = length-set words (shelf_place z j) value ∙ b.wide;
    numbers = numbers;
    privates = privates;
    hazards = hazards_now;
    links = links_after z sides words stored_words states b.two same_used
        (λ m p k number state. let scope = hand_scope m p k number state in stored.frontiers p k scope.0 scope.1) links_moved;
    shelves = shelves;
    chains = chains_after z g.of q.number q' sides words stored_words states b.two same_used
        (same.chains ∙ ap (λ v. v.chains) (sym is)) chains_moved;
    scans = scans_after z g.of q.number q' sides words stored_words states b.two same_used (same.scan ∙ ap (λ v. v.scan) (sym is))
        (λ i five. subst (λ (l : List WalkSlot). (get_or l i blank).held ≡ true
        → Unscanned z g.of q.number q' i (get_or l i blank).named)
        (sym walk_is) (λ on r m below left read. b.scans.walks r m q.number i below left pass five read on)) scans_moved;
  }
    where
      hand_scope : (m p k : ℕ) → IsNumber z m → states m ≡ in_hand p k → (p < z.passes) × (k < 4)
      hand_scope m p k number state = subst (IsStateIn z) (was m (in_hand p k) state tt) (b.numbers.scope m number)

  -- what a shape sees of it
  pub looks_moved : (s : LoggedStep E A) → s.entry.changes ≡ [] → s.placed ≡ [] → q'.own ≡ q.own
      → LooksSame z words stored_words g (record { of = passes; order = g.order ++ s ∷ []; status = states })
  looks_moved s no_change no_call own = record {
    seen = record {
      heads = stored.heads;
      cells = λ m f number four used. stored.cells m f number four;
      attached_on = λ m state. stays m attached state tt;
      linked_was = λ m linked. sym (was m (states m) refl (linked_used (states m) linked));
      used_was = used_back g.status n to was_free is_free;
      order = record { step = s; is = refl; no_change = no_change; no_call = no_call };
    };
    passes = λ p below. put_each (λ (p : ℕ) (v : PassState W). SameOwn (g.of p) v) g.of q.number q'
        (same_own (g.of q.number) q' (own ∙ ap (λ v. v.own) (sym is)) walk_is)
        (λ r other. same_own (g.of r) (g.of r) refl refl) p;
  }
