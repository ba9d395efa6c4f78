-- The or-step that sets INVALID in a link of a record in hand.
use Rattle.std.proofs.Common.{◌≡◌, ◌≢◌, ◌⊎◌, ℕ, ◌+◌, ◌*◌, ◌/◌, ◌%◌, ◌<◌, max, Bool, true, false, cond, eqb, ◌&&◌, List, [], ◌∷◌, map}
use Rattle.std.proofs.Common.{get_or, set, bit_or, refl, sym, ap, ap₂, ◌∙◌, subst, inl, inr, ⊎_elim, arith, eq-eqb, ne_eqb}
use Rattle.std.proofs.lemmas.List.{length-set}
use Rattle.std.proofs.Math.Bool.{false≢true}
use Rattle.std.proofs.Math.Decide.{ℕ_discrete}
use mathlib.Core.Logic.{dite}
use mathlib.Core.Option.{some}
use lib.ListN.{get_elem?}
use lib.Bits.{or_step, or_zero_r}
use Rattle.atomic_table.specs.Table.{Me, Allows}
use Rattle.atomic_table.proofs.Lists.{at_set}
use Rattle.pp_link.specs.declared.layout.Sizes.{Sizes}
use Rattle.pp_link.specs.Links.{target, invalid_bit, tag_bit}
use Rattle.pp_link.specs.Places.{IsNumber, cell_place}
use Rattle.pp_link.specs.Words.{cell_word, CellStored}
use Rattle.pp_link.proofs.Stores.{cell_stored}
use Rattle.pp_rule.specs.Lists.{IsIn, OnceBy, Once}
use Rattle.pp_rule.specs.Orders.{LoggedStep, invalidate_step}
use Rattle.pp_rule.specs.Views.{halves, Chain, ChainLink, PassState, SeatView, slot}
use Rattle.pp_rule.specs.States.{attached, in_hand, retired, owned, PoolState, IsSmall, Stays, Keeps, SameTarget, Leads, Leaves}
use Rattle.pp_rule.specs.States.{Held}
use Rattle.pp_rule.specs.Rule.{guard_of, PrivateWords, Hazards, Links, Chains, Scans, Base}
use Rattle.pp_rule.specs.Ties.{Holds}
use Rattle.pp_rule.specs.Steps.{entry, IsAlone, without_link, invalidated, with_chain, Invalidated}
use Rattle.pp_rule.specs.Looks.{SameOwn, Invalidates}
use Rattle.pp_rule.specs.Laws.{KeptInvalid}
use Rattle.pp_rule.proofs.Put.{put, put_each, image_at, once_same, in_first, in_later, in_cases}
use Rattle.pp_rule.proofs.Slots.{same_own}
use Rattle.pp_rule.proofs.Stepping.{after_step, allows, cell_aside}
use Rattle.pp_rule.proofs.Frames.{reads_after, shelves_after}
use Rattle.pp_rule.proofs.Keeping.{shelf_scope, hand_scope}
use Rattle.pp_rule.proofs.Chained.{images_set, same_through, leaves_on, with_chains, numbers_on, privates_on, hazards_on, scans_on}

-- the bit is set already, or it is added
pub invalid_set : (w : ℕ) → ((invalid_bit w ≡ 1) × (bit_or w 4 ≡ w)) ⊎ ((invalid_bit w ≡ 0) × (bit_or w 4 ≡ w + 4))
invalid_set w = let a : bit_or w 4 ≡ bit_or (w / 2) 2 * 2 + max (w % 2) 0 = or_step w 4 in
    let b : bit_or (w / 2) 2 ≡ bit_or (w / 2 / 2) 1 * 2 + max (w / 2 % 2) 0 = or_step (w / 2) 2 in
    let c : bit_or (w / 2 / 2) 1 ≡ bit_or (w / 2 / 2 / 2) 0 * 2 + max (w / 2 / 2 % 2) 1 = or_step (w / 2 / 2) 1 in
    let d : bit_or (w / 2 / 2 / 2) 0 ≡ w / 2 / 2 / 2 = or_zero_r (w / 2 / 2 / 2) in
    dite (ℕ_discrete (invalid_bit w) 1) (λ e. inl (e, omega arith)) (λ ne. inr (omega arith, omega arith))

-- what the step makes of a link: all but INVALID stays
pub record SetsInvalid (w v : ℕ) : Type 0 where
  pub stays : Stays w v
  pub invalid : invalid_bit v ≡ 1
  pub same : SameTarget w v
  pub small : IsSmall w → IsSmall v

pub sets_invalid : (w : ℕ) → SetsInvalid w (bit_or w 4)
sets_invalid w = ⊎_elim
    (λ (a : (invalid_bit w ≡ 1) × (bit_or w 4 ≡ w)). subst (SetsInvalid w) (sym a.1)
    record { stays = inl refl; invalid = a.0; same = record { target_is = refl; flag_is = refl; leaf_is = refl }; small = λ s. s })
    (λ (a : (invalid_bit w ≡ 0) × (bit_or w 4 ≡ w + 4)). let clear : invalid_bit w ≡ 0 = a.0 in subst (SetsInvalid w) (sym a.1) record {
      stays = inr (a.0, refl);
      invalid = omega arith;
      same = record { target_is = omega arith; flag_is = omega arith; leaf_is = omega arith };
      small = λ s. omega arith;
    })
    (invalid_set w)

-- a link of which INVALID was set keeps what was learnt
pub keeps_through : (u v w : ℕ) → Keeps u v → SetsInvalid v w → Keeps u w
keeps_through u v w a s = record {
  same = record {
    target_is = s.same.target_is ∙ a.same.target_is;
    flag_is = s.same.flag_is ∙ a.same.flag_is;
    leaf_is = s.same.leaf_is ∙ a.same.leaf_is;
  };
  tag = λ e. ⊎_elim (λ (same : w ≡ v). ap tag_bit same ∙ a.tag e) (λ (t : (invalid_bit v ≡ 0) × (w ≡ v + 4)). let p = t.0 in
      let q = t.1 in let r = a.tag e in omega arith) s.stays;
}

-- what was learnt stays so, since INVALID is set once
pub stays_through : (u v w : ℕ) → Stays u v → SetsInvalid v w → Stays u w
stays_through u v w a s = ⊎_elim (λ (e : v ≡ u). subst (λ (x : ℕ). Stays x w) e s.stays)
    (λ (e : (invalid_bit u ≡ 0) × (v ≡ u + 4)). ⊎_elim (λ (same : w ≡ v). inr (e.0, same ∙ e.1))
    (λ (t : (invalid_bit v ≡ 0) × (w ≡ v + 4)). let p = e.0 in let q = e.1 in let r = t.0 in absurd (omega arith)) s.stays) a

-- the other links of the list stay in it
pub in_without_link : (n side : ℕ) (ls : List (ℕ × ℕ)) (m t : ℕ) → ((m ≡ n) × (t ≡ side) → ⊥) → IsIn (m, t) ls → IsIn (m, t)
    (without_link n side ls)
in_without_link n side [] m t ne i = i
in_without_link n side (l ∷ ls) m t ne i = ⊎_elim (λ (e : (m, t) ≡ l). subst
    (λ (b : Bool). IsIn (m, t) (cond b (without_link n side ls) (l ∷ without_link n side ls)))
    (sym (subst (λ (l : ℕ × ℕ). eqb l.0 n && eqb l.1 side ≡ false) e unlike))
    (subst (λ (l : ℕ × ℕ). IsIn (m, t) (l ∷ without_link n side ls)) e (in_first (m, t) (without_link n side ls))))
    (λ (later : IsIn (m, t) ls). there (eqb l.0 n && eqb l.1 side) (in_without_link n side ls m t ne later)) (in_cases (m, t) l ls i)
  where
    unlike : eqb m n && eqb t side ≡ false
    unlike = dite (ℕ_discrete m n) (λ e. ap (λ (b : Bool). b && eqb t side) (eq-eqb m n e) ∙ ne_eqb t side (λ f. ne (e, f)))
        (λ other. ap (λ (b : Bool). b && eqb t side) (ne_eqb m n other))

    there : (b : Bool) → IsIn (m, t) (without_link n side ls) → IsIn (m, t) (cond b (without_link n side ls) (l ∷ without_link n side ls))
    there true h = h
    there false h = in_later (m, t) l (without_link n side ls) h

-- the chain but for the list that the step shortens
abbrev pub core_of : Chain → Chain
core_of c = record c { valid = [] }

module _ {E A W : Type 0} (sides : ℕ) (z : Sizes) (words : List ℕ) (g : PoolState E A W) (q : PassState W) (k n side : ℕ) (c : Chain)
    (b : Base sides z words g) (pass : q.number < z.passes) (is : g.of q.number ≡ q) (at : get_elem? q.chains k ≡ some c)
    (member : IsIn n c.records)
    (below : side < sides) where
  abbrev new : List ℕ
  new = set words (cell_place z n (2 + side)) (bit_or (cell_word words z n (2 + side)) 4)

  abbrev after : PassState W
  after = with_chain k (invalidated n side c) q

  pub chain_in : IsIn c (g.of q.number).chains
  chain_in = (k, ap (λ (v : PassState W). get_elem? v.chains k) is ∙ at)

  pub link_number : IsNumber z n
  link_number = (b.chains.members q.number n c pass chain_in member).0

  pub link_state : g.status n ≡ in_hand q.number c.guard
  link_state = (b.chains.members q.number n c pass chain_in member).1

  pub link_small : IsSmall (cell_word words z n (2 + side))
  link_small = (b.links.hand n side q.number c.guard link_number below link_state).small

  pub link_stored : CellStored z words new n (2 + side) (bit_or (cell_word words z n (2 + side)) 4)
  link_stored = let most = b.two in cell_stored z words (bit_or (cell_word words z n (2 + side)) 4) b.wide n (2 + side) link_number
      (omega arith)

  set_now : SetsInvalid (cell_word words z n (2 + side)) (cell_word new z n (2 + side))
  set_now = subst (SetsInvalid (cell_word words z n (2 + side))) (sym link_stored.here) (sets_invalid (cell_word words z n (2 + side)))

  -- each link of a record gets INVALID, or it is as it was
  each_link : (m t : ℕ) → IsNumber z m → t < sides → SetsInvalid (cell_word words z m (2 + t)) (cell_word new z m (2 + t))
      ⊎ (((m ≡ n) × (t ≡ side) → ⊥) × (cell_word new z m (2 + t) ≡ cell_word words z m (2 + t)))
  each_link m t number lt = dite (ℕ_discrete m n) (λ e. dite (ℕ_discrete t side)
      (λ f. inl (subst (λ (m : ℕ). SetsInvalid (cell_word words z m (2 + t)) (cell_word new z m (2 + t))) (sym e)
      (subst (λ (t : ℕ). SetsInvalid (cell_word words z n (2 + t)) (cell_word new z n (2 + t))) (sym f) set_now)))
      (λ ne. inr ((λ same. ne same.1), kept m t number lt (λ same. ne same.1))))
      (λ ne. inr ((λ same. ne same.0), kept m t number lt (λ same. ne same.0)))
    where
      kept : (m t : ℕ) → IsNumber z m → t < sides → ((m ≡ n) × (t ≡ side) → ⊥) → cell_word new z m (2 + t) ≡ cell_word words z m (2 + t)
      kept m t number lt ne = let most = b.two in link_stored.cells m (2 + t) number (omega arith)
          (λ same. let e : 2 + t ≡ 2 + side = same.1 in ne (same.0, omega arith))

  -- a record that isn't in hand has all its words
  elsewhere : (m f : ℕ) → IsNumber z m → f < 5 → m ≢ n → cell_word new z m f ≡ cell_word words z m f
  elsewhere m f number lt ne = link_stored.cells m f number lt (λ same. ne same.0)

  held_now : (r i : ℕ) → r < z.passes → i < 5 → (slot (g.of r) i).held ≡ true → Held z new g.status (slot (g.of r) i)
  held_now r i low five on = let h : Held z words g.status (slot (g.of r) i) = b.hazards.held r i low five on in
      let w : ℕ = (slot (g.of r) i).named in record {
        number = h.number;
        used = h.used;
        key = link_stored.cells w 0 h.number (omega arith) (λ same. let e : 0 ≡ 2 + side = same.1 in omega arith) ∙ h.key;
        value = ap₂ halves (link_stored.cells w 1 h.number (omega arith) (λ same. let e : 1 ≡ 2 + side = same.1 in omega arith))
            (link_stored.cells w 4 h.number (omega arith) (λ same. let e : 4 ≡ 2 + side = same.1 in let most = b.two in
            omega arith)) ∙ h.value;
        learnt = λ l j. let was = h.learnt l j in (was.0, link_now w l was.0 was.1 h.number, was.2);
      }
    where
      link_now : (w : ℕ) (l : ℕ × ℕ) → l.0 < 2 → Keeps l.1 (cell_word words z w (2 + l.0)) → IsNumber z w → Keeps l.1
          (cell_word new z w (2 + l.0))
      link_now w l two stays number = dite (ℕ_discrete w n) (λ e. dite (ℕ_discrete l.0 side)
          (λ f. subst (λ (m : ℕ). Keeps l.1 (cell_word words z m (2 + l.0)) → Keeps l.1 (cell_word new z m (2 + l.0))) (sym e)
          (subst (λ (t : ℕ). Keeps l.1 (cell_word words z n (2 + t)) → Keeps l.1 (cell_word new z n (2 + t))) (sym f)
          (λ s. keeps_through l.1 (cell_word words z n (2 + side)) (cell_word new z n (2 + side)) s set_now)) stays)
          (λ ne. subst (Keeps l.1) (sym (link_stored.cells w (2 + l.0) number (omega arith)
          (λ same. let d : 2 + l.0 ≡ 2 + side = same.1 in ne (omega arith)))) stays))
          (λ ne. subst (Keeps l.1) (sym (elsewhere w (2 + l.0) number (omega arith) ne)) stays)

  hazards_now : Hazards z new g.of g.status
  hazards_now = record {
    five = b.hazards.five;
    four = b.hazards.four;
    walks = λ r i low lt. link_stored.walks r i low lt ∙ b.hazards.walks r i low lt;
    frontiers = λ r j low lt. link_stored.frontiers r j low lt ∙ b.hazards.frontiers r j low lt;
    held = held_now;
  }

  -- Only a link of a record in hand changed, and with INVALID it may lead anywhere.
  links_now : Links sides z new g.status
  links_now = let most = b.two in record {
    heads = λ h low. subst (Leads z g.status) (sym (link_stored.heads h low)) (b.links.heads h low);
    linked = λ m t number lt state. subst (Leads z g.status) (sym (elsewhere m (2 + t) number (omega arith)
        (λ e. let bad : attached ≡ in_hand q.number c.guard = sym state ∙ (ap g.status e ∙ link_state) in absurd cc)))
        (b.links.linked m t number lt state);
    hand = λ m t r j number lt state. let was = b.links.hand m t r j number lt state in
        let scope = hand_scope sides z words g b m r j state number in ⊎_elim
        (λ (s : SetsInvalid (cell_word words z m (2 + t)) (cell_word new z m (2 + t))). record {
          small = s.small was.small;
          to = λ valid. let one : invalid_bit (cell_word new z m (2 + t)) ≡ 1 = s.invalid in absurd (omega arith);
        })
        (λ (e : ((m ≡ n) × (t ≡ side) → ⊥) × (cell_word new z m (2 + t) ≡ cell_word words z m (2 + t))).
        subst (Leaves z new g.status r j) (sym e.1)
        (leaves_on z words new g.status (cell_word words z m (2 + t)) r j (link_stored.frontiers r j scope.0 scope.1) was))
        (each_link m t number lt);
    spent = λ m t r number lt state. subst (λ (w : ℕ). IsSmall w × (invalid_bit w ≡ 1)) (sym (elsewhere m (2 + t) number (omega arith)
        (λ e. let bad : retired r ≡ in_hand q.number c.guard = sym state ∙ (ap g.status e ∙ link_state) in absurd cc)))
        (b.links.spent m t r number lt state);
  }

  scans_now : Scans sides z new g.of g.status
  scans_now = record {
    left = b.scans.left;
    left_once = b.scans.left_once;
    fronts = λ r m p j x t low i read number lt state valid to. ⊎_elim
        (λ (s : SetsInvalid (cell_word words z x (2 + t)) (cell_word new z x (2 + t))).
        let one : invalid_bit (cell_word new z x (2 + t)) ≡ 1 = s.invalid in absurd (omega arith))
        (λ (e : ((x ≡ n) × (t ≡ side) → ⊥) × (cell_word new z x (2 + t) ≡ cell_word words z x (2 + t))).
        b.scans.fronts r m p j x t low i read number lt state (ap invalid_bit (sym e.1) ∙ valid) (ap target (sym e.1) ∙ to))
        (each_link x t number lt);
    walks = b.scans.walks;
  }

  privates_now : PrivateWords z new g.of
  privates_now = record {
    reads = λ r d low i. let his = b.numbers.owned_to r d low i in reads_after z words new d (λ f four. elsewhere d.number f his.0 four
        (λ e. let bad : owned r ≡ in_hand q.number c.guard = sym his.1 ∙ (ap g.status e ∙ link_state) in absurd cc))
        (b.privates.reads r d low i);
  }

  same_cores : map core_of after.chains ≡ map core_of (g.of q.number).chains
  same_cores = images_set core_of q.chains k c (invalidated n side c) at refl ∙ ap (λ (v : PassState W). map core_of v.chains) (sym is)

  -- each chain afterwards was one before, and each goes on
  old_chain : (r : ℕ) (d : Chain) → IsIn d (put g.of q.number after r).chains → (o : Chain)
      × (IsIn o (g.of r).chains × (core_of o ≡ core_of d))
  old_chain r d = put_each (λ (r : ℕ) (v : PassState W). IsIn d v.chains → (o : Chain) × (IsIn o (g.of r).chains × (core_of o ≡ core_of d)))
      g.of q.number after
      (λ i. let was = image_at core_of (g.of q.number).chains after.chains same_cores i.0 d i.1 in (was.0, ((i.0, was.1.0), was.1.1)))
      (λ r other i. (d, (i, refl))) r

  new_chain : (r : ℕ) (o : Chain) → IsIn o (g.of r).chains → (d : Chain)
      × (IsIn d (put g.of q.number after r).chains × (core_of d ≡ core_of o))
  new_chain r o = put_each (λ (r : ℕ) (v : PassState W). IsIn o (g.of r).chains → (d : Chain) × (IsIn d v.chains × (core_of d ≡ core_of o)))
      g.of q.number after
      (λ i. let now = image_at core_of after.chains (g.of q.number).chains (sym same_cores) i.0 o i.1 in (now.0, ((i.0, now.1.0), now.1.1)))
      (λ r other i. (o, (i, refl))) r

  old_member : (r m : ℕ) (d : Chain) → r < z.passes → IsIn d (put g.of q.number after r).chains → IsIn m d.records
      → IsNumber z m × (g.status m ≡ in_hand r d.guard)
  old_member r m d low i of_it = let o = old_chain r d i in
      subst (λ (j : ℕ). IsNumber z m × (g.status m ≡ in_hand r j)) (ap (λ x. x.guard) o.1.1)
      (b.chains.members r m o.0 low o.1.0 (subst (λ (l : List ℕ). IsIn m l) (ap (λ x. x.records) (sym o.1.1)) of_it))

  -- the links that have no INVALID yet
  valid_now : (r m t : ℕ) (d : Chain) → r < z.passes → IsIn d (put g.of q.number after r).chains → IsIn m d.records → t < sides
      → (invalid_bit (cell_word new z m (2 + t)) ≡ 1) ⊎ IsIn (m, t) d.valid
  valid_now r m t d low i of_it lt = ⊎_elim
      (λ (s : SetsInvalid (cell_word words z m (2 + t)) (cell_word new z m (2 + t))). inl s.invalid)
      (λ (e : ((m ≡ n) × (t ≡ side) → ⊥) × (cell_word new z m (2 + t) ≡ cell_word words z m (2 + t))).
      ⊎_elim (λ (one : invalid_bit (cell_word words z m (2 + t)) ≡ 1). inl (ap invalid_bit e.1 ∙ one)) inr (by e.0))
      (each_link m t (old_member r m d low i of_it).0 lt)
    where
      by : ((m ≡ n) × (t ≡ side) → ⊥) → (invalid_bit (cell_word words z m (2 + t)) ≡ 1) ⊎ IsIn (m, t) d.valid
      by ne = put_each (λ (r : ℕ) (v : PassState W). r < z.passes → IsIn d v.chains → (invalid_bit (cell_word words z m (2 + t)) ≡ 1)
          ⊎ IsIn (m, t) d.valid)
          g.of q.number after
          (λ low j. ⊎_elim
          (λ (e : (j.0 ≡ k) × (invalidated n side c ≡ d)). ⊎_elim inl
          (λ (left : IsIn (m, t) c.valid). inr (subst (λ (x : Chain). IsIn (m, t) x.valid) e.1
          (in_without_link n side c.valid m t ne left)))
          (b.chains.valid q.number m t c pass chain_in (subst (λ (l : List ℕ). IsIn m l) (ap (λ x. x.records) (sym e.1)) of_it) lt))
          (λ (e : (j.0 ≢ k) × (get_elem? q.chains j.0 ≡ some d)).
          b.chains.valid q.number m t d pass (j.0, ap (λ (v : PassState W). get_elem? v.chains j.0) is ∙ e.1) of_it lt)
          (at_set q.chains k j.0 (invalidated n side c) d j.1))
          (λ r other low j. b.chains.valid r m t d low j of_it lt) r low i

  -- Each chain is as it was but for the list of links that may have no INVALID, and the link that left the list has it.
  chains_now : Chains sides z new (put g.of q.number after) g.status
  chains_now = record {
    guard = λ r d low i. let o = old_chain r d i in subst (λ (j : ℕ). j < 4) (ap (λ x. x.guard) o.1.1) (b.chains.guard r o.0 low o.1.0);
    once = put_each (λ (r : ℕ) (v : PassState W). r < z.passes → OnceBy guard_of v.chains) g.of q.number after
        (λ low. once_same guard_of (g.of q.number).chains after.chains
        (images_set guard_of q.chains k c (invalidated n side c) at refl ∙ ap (λ (v : PassState W). map guard_of v.chains) (sym is))
        (b.chains.once q.number low)) (λ r other low. b.chains.once r low);
    members = old_member;
    members_once = λ r d low i. let o = old_chain r d i in subst Once (ap (λ x. x.records) o.1.1) (b.chains.members_once r o.0 low o.1.0);
    home = λ r j m low number state. let o = b.chains.home r j m low number state in let d = new_chain r o.0 o.1.0 in (
      d.0,
      (d.1.0, ap (λ x. x.guard) d.1.1 ∙ o.1.1, subst (λ (l : List ℕ). IsIn m l) (ap (λ x. x.records) (sym d.1.1)) o.1.2),
    );
    valid = valid_now;
    links = λ r d l low i link. let o = old_chain r d i in
        let was = b.chains.links r o.0 l low o.1.0 (subst (λ (ls : List ChainLink). IsIn l ls) (ap (λ x. x.links) (sym o.1.1)) link) in (
          subst (λ (ns : List ℕ). IsIn l.number ns) (ap (λ x. x.records) o.1.1) was.0,
          was.1,
          ⊎_elim
              (λ (s : SetsInvalid (cell_word words z l.number (2 + l.side)) (cell_word new z l.number (2 + l.side))).
              same_through l.word (cell_word words z l.number (2 + l.side)) (cell_word new z l.number (2 + l.side)) was.2 s.same)
              (λ (e : ((l.number ≡ n) × (l.side ≡ side) → ⊥)
              × (cell_word new z l.number (2 + l.side) ≡ cell_word words z l.number (2 + l.side))). subst (SameTarget l.word)
              (sym e.1) was.2)
              (each_link l.number l.side (b.chains.members r l.number o.0 low o.1.0 was.0).0 was.1),
        );
  }

  -- INVALID is set in a link of the chain at the index k of the pass.
  pub base_invalidated : (s : LoggedStep E A) → Base sides z new (after_step g after g.status s)
  base_invalidated s = let chains_are = with_chains g.of q after.chains is in record {
    within = b.within;
    two = b.two;
    wide = length-set words (cell_place z n (2 + side)) (bit_or (cell_word words z n (2 + side)) 4) ∙ b.wide;
    numbers = numbers_on z g.of (put g.of q.number after) g.status chains_are b.numbers;
    privates = privates_on z g.of (put g.of q.number after) g.status chains_are new privates_now;
    hazards = hazards_on z g.of (put g.of q.number after) g.status chains_are new hazards_now;
    links = links_now;
    shelves = shelves_after z words new g.status (shelf_scope sides z words g b) link_stored.shelves b.shelves;
    chains = chains_now;
    scans = scans_on z g.of (put g.of q.number after) g.status chains_are sides new scans_now;
  }

  -- what a shape sees of it
  pub looks_invalidated : (s : LoggedStep E A) → s.entry.changes ≡ [] → s.placed ≡ [] → Invalidates z words new g
      (after_step g after g.status s) n side
  looks_invalidated s no_change no_call = record {
    number = link_number;
    hand = (q.number, (c.guard, link_state));
    heads = link_stored.heads;
    others = link_stored.cells;
    here = set_now.stays;
    invalid = set_now.invalid;
    status = λ m. refl;
    order = record { step = s; is = refl; no_change = no_change; no_call = no_call };
    passes = λ p low. put_each (λ (p : ℕ) (v : PassState W). SameOwn (g.of p) v) g.of q.number after
        (same_own (g.of q.number) after (ap (λ v. v.own) (sym is)) (ap (λ v. v.walk) (sym is)))
        (λ r other. same_own (g.of r) (g.of r) refl refl) p;
  }

module _ {E A W : Type 0} (sides : ℕ) (opens : Sizes → List ℕ) (addition : Sizes → List ℕ → PoolState E A W → Type 0) where
  -- INVALID may be set in any link of a chain in hand.
  pub invalidates_link : KeptInvalid sides addition → (z : Sizes) (slots id place k n side : ℕ) (c : Chain) (me : Me Unit (SeatView E A W))
      → IsAlone me → get_elem? me.0.known.chains k ≡ some c → IsIn n c.records → side < sides → place ≡ cell_place z n (2 + side)
      → Allows (Holds sides opens addition z) slots id me place (λ w. bit_or w 4)
      (λ w m'. (m'.1 ≡ []) × Invalidated k c n side w place me.0 m'.0)
  unfolding cell_word
  invalidates_link invalidates z slots id place k n side c me lone at member below at_place = let q : PassState W = me.0.known in
      let q' : PassState W = with_chain k (invalidated n side c) q in
      allows sides opens addition z slots id place invalidate_step me (λ w. bit_or w 4) (λ w. w)
      (λ w m'. (m'.1 ≡ []) × Invalidated k c n side w place me.0 m'.0) lone (λ m no. refl)
      (λ m yes. (
        (λ bad. absurd (false≢true bad)),
        λ words g b low is.
            let own = b.chains.members q.number n c low (subst (λ (v : PassState W). IsIn c v.chains) (sym is) (k, at)) member in
            cell_aside z g n (2 + side) place own.0 (let two = b.two in omega arith) at_place
            (λ st. let bad : in_hand q.number c.guard ≡ attached = sym own.1 ∙ st in cc),
      ))
      (λ m bad. absurd (false≢true bad))
      (λ words g b add pass is sizes fits.
      let w : ℕ = get_or words place 0 in
      let e : LoggedStep E A = entry invalidate_step place w (bit_or w 4) [] [] g.order q' in
      let b' : Base sides z (set words place (bit_or w 4)) (after_step g q' g.status e) =
      subst (λ (x : ℕ). Base sides z (set words x (bit_or (get_or words x 0) 4)) (after_step g q' g.status e)) (sym at_place)
      (base_invalidated sides z words g q k n side c b pass is at member below e) in
      let looks : Invalidates z words (set words place (bit_or w 4)) g (after_step g q' g.status e) n side =
      subst (λ (x : ℕ). Invalidates z words (set words x (bit_or (get_or words x 0) 4)) g (after_step g q' g.status e) n side)
      (sym at_place)
      (looks_invalidated sides z words g q k n side c b pass is at member below e refl refl) in record {
        known = q';
        status = g.status;
        changes = [];
        placed = [];
        keeps_rule = record {
          number = refl;
          sizes = sizes;
          base = b';
          added = invalidates z words (set words place (bit_or w 4)) g (after_step g q' g.status e) n side b b' below looks add;
        };
        tells = λ v is_now made. (
          refl,
          record {
            made = made;
            small = subst (λ (x : ℕ). IsSmall (get_or words x 0)) (sym at_place)
                (link_small sides z words g q k n side c b pass is at member below);
            leads = λ l i number_is side_is. let link = b.chains.links q.number c l pass (chain_in sides z words g q k n side c b pass is at
                member below) i in
                ap target (ap (λ (x : ℕ). get_or words x 0) (at_place ∙ (ap (λ (m : ℕ). cell_place z m (2 + side)) (sym number_is)
                ∙ ap (λ (t : ℕ). cell_place z l.number (2 + t)) (sym side_is)))) ∙ link.2.target_is;
          },
        );
      })
