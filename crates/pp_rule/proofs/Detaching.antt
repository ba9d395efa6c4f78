-- The exchange that detaches a chain, and the one that finds another word.
use Rattle.std.proofs.Common.{◌≡◌, ◌≢◌, ◌⊎◌, ℕ, ◌+◌, ◌<◌, ◌≤◌, Bool, true, false, cond, eqb, List, [], ◌∷◌, ◌++◌, length, get_or, set}
use Rattle.std.proofs.Common.{refl, sym, ap, ap₂, ◌∙◌, subst, inl, inr, ⊎_elim, arith, eq-eqb, ne_eqb}
use Rattle.std.proofs.lemmas.List.{length-set}
use Rattle.std.proofs.Math.Bool.{false≢true}
use Rattle.std.proofs.Math.Decide.{ℕ_discrete}
use prog.Atomic.{either}
use mathlib.Core.Logic.{dite}
use mathlib.Core.Option.{some}
use lib.ListN.{get_elem?}
use Rattle.atomic_table.specs.Table.{Me, Allows}
use Rattle.pp_link.specs.declared.layout.Sizes.{Sizes}
use Rattle.pp_link.specs.Links.{target, invalid_bit}
use Rattle.pp_link.specs.Places.{IsNumber, head_place, cell_place}
use Rattle.pp_link.specs.Words.{frontier_word, shelf_word, head_word, cell_word}
use Rattle.pp_rule.specs.Lists.{IsIn, OnceBy, Once}
use Rattle.pp_rule.specs.Orders.{LoggedStep, goes_aside, only_loads, detach_step, missed_step}
use Rattle.pp_rule.specs.Views.{halves, WalkSlot, Chain, PassState, SeatView, slot, guarding}
use Rattle.pp_rule.specs.States.{RecordState, attached, in_hand, retired, owned, shelved, IsUsed, IsStateIn, PoolState}
use Rattle.pp_rule.specs.States.{IsSmall, Keeps, Leads, Leaves, Held, SameTarget}
use Rattle.pp_rule.specs.Rule.{guard_of, Numbers, PrivateWords, Hazards, Links, Shelves, Chains, Scans, Base}
use Rattle.pp_rule.specs.Ties.{Holds}
use Rattle.pp_rule.specs.Steps.{entry, IsAlone, detaching, IsSource, IsUnused}
use Rattle.pp_rule.specs.Looks.{SameOwn}
use Rattle.pp_rule.specs.Detach.{Detaches, Detached, Exchanged}
use Rattle.pp_rule.specs.Paths.{IsChainTo}
use Rattle.pp_rule.specs.Laws.{KeptAlike, Freezes, Chained, MayDetach, KeptDetached}
use Rattle.pp_rule.proofs.Put.{put, put_each, in_left, in_either, in_last, in_one, only}
use Rattle.pp_rule.proofs.Slots.{same_own}
use Rattle.pp_rule.proofs.FreeLinks.{LinkStored, link_stored}
use Rattle.pp_rule.proofs.Stepping.{after_step, Plays, allows_by}
use Rattle.pp_rule.proofs.Frames.{reads_after, shelves_after}
use Rattle.pp_rule.proofs.Confirming.{learning_from, source_learns}
use Rattle.pp_rule.proofs.Sources.{source_sound}
use Rattle.pp_rule.proofs.Chained.{at_either, in_or_out, put_all, put_all_in, put_all_out}
use Rattle.pp_rule.proofs.Chained.{leaves_on, with_chains, numbers_on, privates_on, hazards_on, scans_on}

module _ {E A W : Type 0} (sides : ℕ) (z : Sizes) (words : List ℕ) (g : PoolState E A W) (q : PassState W) (c : Chain) (place x value : ℕ)
    (b : Base sides z words g) (pass : q.number < z.passes) (is : g.of q.number ≡ q) (d : Detaches sides z words g q c place x value) where
  abbrev new : List ℕ
  new = set words place value

  abbrev after : PassState W
  after = detaching c q

  -- the states after the step
  abbrev pub detached_status : ℕ → RecordState
  detached_status = put_all g.status c.records (in_hand q.number c.guard)

  inside : (n : ℕ) → IsIn n c.records → detached_status n ≡ in_hand q.number c.guard
  inside n i = put_all_in g.status c.records (in_hand q.number c.guard) n i

  outside : (n : ℕ) → (IsIn n c.records → ⊥) → detached_status n ≡ g.status n
  outside n out = put_all_out g.status c.records (in_hand q.number c.guard) n out

  -- a state but attached stays, and one but in hand in this chain was so
  stays_state : (n : ℕ) (s : RecordState) → g.status n ≡ s → s ≢ attached → detached_status n ≡ s
  stays_state n s state ne = outside n (λ i. ne (sym state ∙ (d.members n i).1)) ∙ state

  was_state : (n : ℕ) (s : RecordState) → detached_status n ≡ s → s ≢ in_hand q.number c.guard → (IsIn n c.records → ⊥) × (g.status n ≡ s)
  was_state n s state ne = let out : IsIn n c.records → ⊥ = λ i. ne (sym state ∙ inside n i) in (out, sym (outside n out) ∙ state)

  used_on : (n : ℕ) → IsUsed (g.status n) → IsUsed (detached_status n)
  used_on n used = ⊎_elim (λ (i : IsIn n c.records). subst IsUsed (sym (inside n i)) tt)
      (λ (out : IsIn n c.records → ⊥). subst IsUsed (sym (outside n out)) used) (in_or_out n c.records)

  -- the words after the step
  stored : LinkStored z words g place value
  stored = link_stored z words g place value b.wide d.place_is

  member_link : (n side : ℕ) → IsIn n c.records → side < sides → cell_word new z n (2 + side) ≡ cell_word words z n (2 + side)
  member_link n side i lt = let most = b.two in stored.other_cell n (2 + side) (λ e. d.stays n (2 + side) (d.members n i).0 (omega arith) e
      i)

  hand_link : (n side r j : ℕ) → IsNumber z n → side < sides → g.status n ≡ in_hand r j
      → cell_word new z n (2 + side) ≡ cell_word words z n (2 + side)
  hand_link n side r j number lt state = let most = b.two in stored.unattached n (2 + side) (in_hand r j) number (omega arith)
      state (λ (e : in_hand r j ≡ attached). absurd cc)

  -- what leads to none of the chain leads on
  leads_on : (w : ℕ) → (IsIn (target w) c.records → ⊥) → Leads z g.status w → Leads z detached_status w
  leads_on w out l = record {
    small = l.small;
    valid = l.valid;
    to = ⊎_elim inl (λ (t : IsNumber z (target w) × (g.status (target w) ≡ attached)). inr (t.0, outside (target w) out ∙ t.1)) l.to;
  }

  -- so does the new word
  new_leads : Leads z detached_status value
  new_leads = record {
    small = d.new_is.0;
    valid = d.new_is.1;
    to = ⊎_elim (λ (nil : x ≡ 0). inl (d.new_is.2 ∙ nil))
        (λ (t : IsNumber z x × (g.status x ≡ attached) × (IsIn x c.records → ⊥)).
        inr (subst (λ (k : ℕ). IsNumber z k × (detached_status k ≡ attached)) (sym d.new_is.2) (t.0, outside x t.2 ∙ t.1))) d.frontier;
  }

  numbers_now : Numbers z g.of detached_status
  numbers_now = record {
    scope = λ n number. ⊎_elim (λ (i : IsIn n c.records). subst (IsStateIn z) (sym (inside n i)) (pass, d.guard))
        (λ (out : IsIn n c.records → ⊥). subst (IsStateIn z) (sym (outside n out)) (b.numbers.scope n number)) (in_or_out n c.records);
    owned_to = λ r e low i. let was = b.numbers.owned_to r e low i in
        (was.0, stays_state e.number (owned r) was.1 (λ (same : owned r ≡ attached). absurd cc));
    owned_from = λ r n low number state. b.numbers.owned_from r n low number
        (was_state n (owned r) state (λ (e : owned r ≡ in_hand q.number c.guard). absurd cc)).1;
    owned_once = b.numbers.owned_once;
    retired_to = λ r n low i. let was = b.numbers.retired_to r n low i in
        (was.0, stays_state n (retired r) was.1 (λ (e : retired r ≡ attached). absurd cc));
    retired_from = λ r n low number state. b.numbers.retired_from r n low number
        (was_state n (retired r) state (λ (e : retired r ≡ in_hand q.number c.guard). absurd cc)).1;
    retired_once = b.numbers.retired_once;
  }

  privates_now : PrivateWords z new g.of
  privates_now = record {
    reads = λ r e low i. let his = b.numbers.owned_to r e low i in reads_after z words new e (λ f four. stored.unattached e.number f
        (owned r) his.0 four
        his.1 (λ (e : owned r ≡ attached). absurd cc))
        (b.privates.reads r e low i);
  }

  hazards_now : Hazards z new g.of detached_status
  hazards_now = record {
    five = b.hazards.five;
    four = b.hazards.four;
    walks = λ r i low lt. stored.walks r i low lt ∙ b.hazards.walks r i low lt;
    frontiers = λ r j low lt. stored.frontiers r j low lt ∙ b.hazards.frontiers r j low lt;
    held = held_now;
  }
    where
      held_now : (r i : ℕ) → r < z.passes → i < 5 → (slot (g.of r) i).held ≡ true → Held z new detached_status (slot (g.of r) i)
      held_now r i low five on = let w : WalkSlot = slot (g.of r) i in let h : Held z words g.status w = b.hazards.held r i low five on in
          record {
            number = h.number;
            used = used_on w.named h.used;
            key = stored.fields w.named 0 h.number (omega arith) ∙ h.key;
            value = ap₂ halves (stored.fields w.named 1 h.number (omega arith)) (stored.high w.named h.number) ∙ h.value;
            learnt = λ l k. let was = h.learnt l k in (
              was.0,
              subst (Keeps l.1) (sym (stored.other_cell w.named (2 + l.0) (d.place_is.unlearnt r i l low five on k))) was.1,
              was.2,
            );
          }

  -- Outside the chain only the changed word led to it, so what stays attached leads on, and so does the new word. The chain
  -- leads as it did, and what it leads to is now nil, in hand with it, or what its frontier word names.
  links_now : Links sides z new detached_status
  links_now = let most = b.two in record {
    heads = λ h low. dite (ℕ_discrete (head_place z h) place) (λ e. subst (Leads z detached_status) (sym (stored.this_head h e)) new_leads)
        (λ ne. subst (Leads z detached_status) (sym (stored.other_head h ne))
        (leads_on (head_word words z h) (d.heads h low ne) (b.links.heads h low)));
    linked = λ n side number lt state.
        let was = was_state n attached state (λ (e : attached ≡ in_hand q.number c.guard). absurd cc) in
        dite (ℕ_discrete (cell_place z n (2 + side)) place) (λ e. subst (Leads z detached_status)
        (sym (stored.this_cell n (2 + side) e)) new_leads)
        (λ ne. subst (Leads z detached_status) (sym (stored.other_cell n (2 + side) ne)) (leads_on (cell_word words z n (2 + side))
        (d.others n side number lt was.1 was.0 ne) (b.links.linked n side number lt was.1)));
    hand = λ n side r j number lt state. ⊎_elim
        (λ (i : IsIn n c.records). let same : in_hand r j ≡ in_hand q.number c.guard = sym state ∙ inside n i in
        let pass_is : r ≡ q.number = cc in let guard_is : j ≡ c.guard = cc in
        subst (λ (r : ℕ). Leaves z new detached_status r j (cell_word new z n (2 + side))) (sym pass_is)
        (subst (λ (j : ℕ). Leaves z new detached_status q.number j (cell_word new z n (2 + side))) (sym guard_is)
        (member_leaves n side i lt)))
        (λ (out : IsIn n c.records → ⊥). old_leaves n side r j number lt (sym (outside n out) ∙ state)) (in_or_out n c.records);
    spent = λ n side r number lt state.
        let was = was_state n (retired r) state (λ (e : retired r ≡ in_hand q.number c.guard). absurd cc) in
        subst (λ (w : ℕ). IsSmall w × (invalid_bit w ≡ 1)) (sym (stored.unattached n (2 + side) (retired r) number
        (omega arith) was.1 (λ (e : retired r ≡ attached). absurd cc)))
        (b.links.spent n side r number lt was.1);
  }
    where
      -- a link of the chain leads to nil, into the chain, or to what its frontier word names
      member_leaves : (n side : ℕ) → IsIn n c.records → side < sides → Leaves z new detached_status q.number c.guard
          (cell_word new z n (2 + side))
      member_leaves n side i lt = let w : ℕ = cell_word words z n (2 + side) in
          let l : Leads z g.status w = b.links.linked n side (d.members n i).0 lt (d.members n i).1 in
          let guard_now : frontier_word new z q.number c.guard ≡ x = stored.frontiers q.number c.guard pass d.guard
          ∙ (b.hazards.frontiers q.number c.guard pass d.guard ∙ (ap (λ (v : PassState W). guarding v c.guard) is ∙ d.named)) in
          subst (Leaves z new detached_status q.number c.guard) (sym (member_link n side i lt)) record {
            small = l.small;
            to = λ valid. ⊎_elim inl
                (λ (to : IsIn (target w) c.records ⊎ (target w ≡ x)). ⊎_elim
                (λ (j : IsIn (target w) c.records). inr ((d.members (target w) j).0, inl (inside (target w) j)))
                (λ (e : target w ≡ x). ⊎_elim (λ (nil : x ≡ 0). inl (e ∙ nil))
                (λ (t : IsNumber z x × (g.status x ≡ attached) × (IsIn x c.records → ⊥)). inr (
                  subst (IsNumber z) (sym e) t.0,
                  inr (
                    e ∙ sym guard_now,
                    subst (λ (k : ℕ). IsUsed (detached_status k)) (sym e)
                        (subst IsUsed (sym (outside x t.2 ∙ t.1)) tt),
                  ),
                )) d.frontier) to)
                (d.inside n side i lt);
          }

      old_leaves : (n side r j : ℕ) → IsNumber z n → side < sides → g.status n ≡ in_hand r j
          → Leaves z new detached_status r j (cell_word new z n (2 + side))
      old_leaves n side r j number lt state = let w : ℕ = cell_word words z n (2 + side) in
          let scope : (r < z.passes) × (j < 4) = subst (IsStateIn z) state (b.numbers.scope n number) in
          let l : Leaves z words g.status r j w = b.links.hand n side r j number lt state in
          subst (Leaves z new detached_status r j) (sym (hand_link n side r j number lt state))
          (leaves_on z words new detached_status w r j (stored.frontiers r j scope.0 scope.1) record {
            small = l.small;
            to = λ valid. ⊎_elim inl
                (λ (t : IsNumber z (target w) × ((g.status (target w) ≡ in_hand r j)
                ⊎ ((target w ≡ frontier_word words z r j) × IsUsed (g.status (target w))))). inr (
                  t.0,
                  ⊎_elim (λ (e : g.status (target w) ≡ in_hand r j). inl (stays_state (target w) (in_hand r j) e
                      (λ (same : in_hand r j ≡ attached). absurd cc)))
                      (λ (u : (target w ≡ frontier_word words z r j) × IsUsed (g.status (target w))). inr
                      (u.0, used_on (target w) u.1)) t.1,
                ))
                (l.to valid);
          })

  shelves_now : Shelves z new detached_status
  shelves_now = shelves_after z words new detached_status (λ n j state number. subst (IsStateIn z) state
      (numbers_now.scope n number)) stored.shelves
      record {
        named = λ j low. ⊎_elim inl (λ (t : IsNumber z (shelf_word words z j) × (g.status (shelf_word words z j) ≡ shelved j)).
            inr (t.0, stays_state (shelf_word words z j) (shelved j) t.1 (λ (e : shelved j ≡ attached). absurd cc)))
            (b.shelves.named j low);
        home = λ n j number state. b.shelves.home n j number
            (was_state n (shelved j) state (λ (e : shelved j ≡ in_hand q.number c.guard). absurd cc)).1;
      }

  -- a chain afterwards was one before, or it is the new one
  each_chain : (r : ℕ) (e : Chain) → IsIn e (put g.of q.number after r).chains → IsIn e (g.of r).chains ⊎ ((r ≡ q.number) × (c ≡ e))
  each_chain r e = put_each (λ (r : ℕ) (v : PassState W). IsIn e v.chains → IsIn e (g.of r).chains
      ⊎ ((r ≡ q.number) × (c ≡ e))) g.of q.number after
      (λ i. ⊎_elim (λ (early : IsIn e q.chains). inl (subst (λ (v : PassState W). IsIn e v.chains) (sym is) early))
      (λ (last : IsIn e (c ∷ [])). inr (refl, in_one e c last)) (in_either e q.chains (c ∷ []) i))
      (λ r other i. inl i) r

  old_in : (r : ℕ) (e : Chain) → IsIn e (g.of r).chains → IsIn e (put g.of q.number after r).chains
  old_in r e = put_each (λ (r : ℕ) (v : PassState W). IsIn e (g.of r).chains → IsIn e v.chains) g.of q.number after
      (λ i. in_left e q.chains (c ∷ []) (subst (λ (v : PassState W). IsIn e v.chains) is i)) (λ r other i. i) r

  new_in : (r : ℕ) → r ≡ q.number → IsIn c (put g.of q.number after r).chains
  new_in = put_each (λ (r : ℕ) (v : PassState W). r ≡ q.number → IsIn c v.chains) g.of q.number after
      (λ e. in_last c q.chains) (λ r other e. absurd (other e))

  -- The new chain stands behind the others, which have none of its records, and no other has its frontier word.
  chains_now : Chains sides z new (put g.of q.number after) detached_status
  chains_now = record {
    guard = λ r e low i. ⊎_elim (λ (old : IsIn e (g.of r).chains). b.chains.guard r e low old)
        (λ (s : (r ≡ q.number) × (c ≡ e)). subst (λ (e : Chain). e.guard < 4) s.1 d.guard) (each_chain r e i);
    once = put_each (λ (r : ℕ) (v : PassState W). r < z.passes → OnceBy guard_of v.chains) g.of q.number after
        once_now (λ r other low. b.chains.once r low);
    members = λ r n e low i member. ⊎_elim (λ (old : IsIn e (g.of r).chains). let was = b.chains.members r n e low old member in
        (was.0, stays_state n (in_hand r e.guard) was.1 (λ (same : in_hand r e.guard ≡ attached). absurd cc)))
        (λ (s : (r ≡ q.number) × (c ≡ e)). let mine : IsIn n c.records = subst (λ (e : Chain). IsIn n e.records) (sym s.1) member in (
          (d.members n mine).0,
          subst (λ (r : ℕ). detached_status n ≡ in_hand r e.guard) (sym s.0)
              (subst (λ (e : Chain). detached_status n ≡ in_hand q.number e.guard) s.1 (inside n mine)),
        )) (each_chain r e i);
    members_once = λ r e low i. ⊎_elim (λ (old : IsIn e (g.of r).chains). b.chains.members_once r e low old)
        (λ (s : (r ≡ q.number) × (c ≡ e)). subst (λ (e : Chain). Once e.records) s.1 d.members_once) (each_chain r e i);
    home = λ r j n low number state. ⊎_elim
        (λ (i : IsIn n c.records). let same : in_hand r j ≡ in_hand q.number c.guard = sym state ∙ inside n i in (c, (new_in r cc, cc, i)))
        (λ (out : IsIn n c.records → ⊥). let e = b.chains.home r j n low number (sym (outside n out) ∙ state) in
        (e.0, (old_in r e.0 e.1.0, e.1.1, e.1.2))) (in_or_out n c.records);
    valid = λ r n side e low i member lt. ⊎_elim (λ (old : IsIn e (g.of r).chains). let was = b.chains.members r n e low old member in
        subst (λ (w : ℕ). (invalid_bit w ≡ 1) ⊎ IsIn (n, side) e.valid) (sym (hand_link n side r e.guard was.0 lt was.1))
        (b.chains.valid r n side e low old member lt))
        (λ (s : (r ≡ q.number) × (c ≡ e)). inr (subst (λ (e : Chain). IsIn n e.records → IsIn (n, side) e.valid) s.1
        (λ mine. d.valid n side mine lt) member)) (each_chain r e i);
    links = λ r e l low i link. ⊎_elim (λ (old : IsIn e (g.of r).chains). let was = b.chains.links r e l low old link in
        let m = b.chains.members r l.number e low old was.0 in
        (was.0, was.1, subst (SameTarget l.word) (sym (hand_link l.number l.side r e.guard m.0 was.1 m.1)) was.2))
        (λ (s : (r ≡ q.number) × (c ≡ e)). let was = d.links l (subst (λ (e : Chain). IsIn l e.links) (sym s.1) link) in (
          subst (λ (e : Chain). IsIn l.number e.records) s.1 was.0,
          was.1,
          subst (SameTarget l.word) (sym (member_link l.number l.side was.0 was.1)) was.2,
        )) (each_chain r e i);
  }
    where
      early : (k : ℕ) (y : Chain) → get_elem? q.chains k ≡ some y → get_elem? (g.of q.number).chains k ≡ some y
      early k y e = ap (λ (v : PassState W). get_elem? v.chains k) is ∙ e

      last : (j : ℕ) (y : Chain) → get_elem? (c ∷ []) j ≡ some y → (c ≡ y) × (j ≡ 0)
      last j y e = (in_one y c (j, e), only y c j e)

      once_now : q.number < z.passes → OnceBy guard_of (q.chains ++ c ∷ [])
      once_now low k l y w at_k at_l same = ⊎_elim
          (λ (a : (k < length q.chains) × (get_elem? q.chains k ≡ some y)). ⊎_elim
          (λ (e : (l < length q.chains) × (get_elem? q.chains l ≡ some w)). b.chains.once q.number low k l y w (early k y a.1)
          (early l w e.1) same)
          (λ (e : (j : ℕ) × ((l ≡ length q.chains + j) × (get_elem? (c ∷ []) j ≡ some w))).
          absurd (d.unused y (k, a.1) (same ∙ ap (λ v. v.guard) (sym (last e.0 w e.1.1).0))))
          (at_either q.chains (c ∷ []) l w at_l))
          (λ (a : (j : ℕ) × ((k ≡ length q.chains + j) × (get_elem? (c ∷ []) j ≡ some y))). ⊎_elim
          (λ (e : (l < length q.chains) × (get_elem? q.chains l ≡ some w)).
          absurd (d.unused w (l, e.1) (sym same ∙ ap (λ v. v.guard) (sym (last a.0 y a.1.1).0))))
          (λ (e : (j : ℕ) × ((l ≡ length q.chains + j) × (get_elem? (c ∷ []) j ≡ some w))).
          let one : a.0 ≡ 0 = (last a.0 y a.1.1).1 in let two : e.0 ≡ 0 = (last e.0 w e.1.1).1 in
          a.1.0 ∙ (ap (λ (j : ℕ). length q.chains + j) (one ∙ sym two) ∙ sym e.1.0))
          (at_either q.chains (c ∷ []) l w at_l)) (at_either q.chains (c ∷ []) k y at_k)

  scans_now : Scans sides z new g.of detached_status
  scans_now = record {
    left = λ r n low i. let was = b.scans.left r n low i in
        (was.0, stays_state n (retired r) was.1 (λ (e : retired r ≡ attached). absurd cc));
    left_once = b.scans.left_once;
    fronts = λ r n p j m side low i read number lt state valid to. ⊎_elim
        (λ (mine : IsIn m c.records). member_leads r n m side low i mine lt (ap target (sym (member_link m side mine lt)) ∙ to))
        (λ (out : IsIn m c.records → ⊥). let was : g.status m ≡ in_hand p j = sym (outside m out) ∙ state in
        let e = hand_link m side p j number lt was in
        b.scans.fronts r n p j m side low i read number lt was (ap invalid_bit (sym e) ∙ valid) (ap target (sym e) ∙ to))
        (in_or_out m c.records);
    walks = b.scans.walks;
  }
    where
      -- no link of an attached record leads to a retired one
      member_leads : (r n m side : ℕ) → r < z.passes → IsIn n (g.of r).scan.left → IsIn m c.records → side < sides
          → target (cell_word words z m (2 + side)) ≢ n
      member_leads r n m side low i mine lt to = let gone = b.scans.left r n low i in ⊎_elim
          (λ (nil : target (cell_word words z m (2 + side)) ≡ 0). let one : 1 ≤ n = gone.0.0 in absurd (omega arith))
          (λ (t : IsNumber z (target (cell_word words z m (2 + side))) × (g.status (target (cell_word words z m (2 + side))) ≡ attached)).
          let bad : attached ≡ retired r = sym t.1 ∙ (ap g.status to ∙ gone.1) in absurd cc)
          (b.links.linked m side (d.members m mine).0 lt (d.members m mine).1).to

  -- The chain is in hand, and the word at the place leads past it.
  pub base_detached : (s : LoggedStep E A) → Base sides z new (after_step g after detached_status s)
  base_detached s = let chains_are = with_chains g.of q after.chains is in record {
    within = b.within;
    two = b.two;
    wide = length-set words place value ∙ b.wide;
    numbers = numbers_on z g.of (put g.of q.number after) detached_status chains_are numbers_now;
    privates = privates_on z g.of (put g.of q.number after) detached_status chains_are new privates_now;
    hazards = hazards_on z g.of (put g.of q.number after) detached_status chains_are new hazards_now;
    links = links_now;
    shelves = shelves_now;
    chains = chains_now;
    scans = scans_on z g.of (put g.of q.number after) detached_status chains_are sides new scans_now;
  }

  -- what a shape sees of it
  pub looks_detached : (s : LoggedStep E A) → s.entry.changes ≡ [] → s.placed ≡ [] → Detached z g (after_step g after detached_status s) q c
  looks_detached s no_change no_call = record {
    inside = inside;
    outside = outside;
    order = record { step = s; is = refl; no_change = no_change; no_call = no_call };
    passes = λ p low. put_each (λ (p : ℕ) (v : PassState W). SameOwn (g.of p) v) g.of q.number after
        (same_own (g.of q.number) after (ap (λ v. v.own) (sym is)) (ap (λ v. v.walk) (sym is)))
        (λ r other. same_own (g.of r) (g.of r) refl refl) p;
  }

module _ {E A W : Type 0} (sides : ℕ) (opens : Sizes → List ℕ) (addition : Sizes → List ℕ → PoolState E A W → Type 0) where
  -- no exchange stores whatever stands there
  stores_none : (hit : Bool) → goes_aside (cond hit detach_step missed_step) ≡ false
  stores_none true = refl
  stores_none false = refl

  -- one that missed leaves what it found
  missed_keeps : (hit : Bool) (n new : ℕ) → only_loads (cond hit detach_step missed_step) ≡ true → either hit new n ≡ n
  missed_keeps true n new bad = absurd (false≢true bad)
  missed_keeps false n new is = refl

  -- A chain may be detached by an exchange at a source, where the shape says so.
  pub detaches_chain : KeptAlike sides addition → (frozen : ℕ → Bool) → Freezes frozen
      → (chain : List WalkSlot → W → ℕ → ℕ → ℕ → Chain)
      → (may_detach : Sizes → List WalkSlot → W → ℕ → ℕ → ℕ → Type 0) → Chained sides addition chain may_detach
      → MayDetach sides addition chain may_detach → KeptDetached sides addition chain may_detach
      → (z : Sizes) (slots id place guard first new : ℕ) (me : Me Unit (SeatView E A W))
      → IsAlone me → (source : IsSource sides z me.0.known place) → may_detach z me.0.known.walk me.0.known.own place first new
      → guard < 4 → guarding me.0.known guard ≡ target new → IsUnused guard me.0.known
      → Allows (Holds sides opens addition z) slots id me place (λ n. either (eqb n first) new n)
      (λ n m'. (m'.1 ≡ []) × Exchanged (chain me.0.known.walk me.0.known.own guard first new) first new n place
      (learning_from sides z place frozen me.0.known source n) me.0 m'.0
      × (n ≡ first → IsChainTo sides guard (target first) (target new) (chain me.0.known.walk me.0.known.own guard first new)))
  detaches_chain alike frozen freezes chain may_detach orders shows kept z slots id place guard first new me lone source may four names
      unused =
      let q : PassState W = me.0.known in
      let c : Chain = chain q.walk q.own guard first new in
      let then : ℕ → Me Unit (SeatView E A W) → Type 0 = λ n m'. (m'.1 ≡ [])
      × Exchanged c first new n place (learning_from sides z place frozen q source n) me.0 m'.0
      × (n ≡ first → IsChainTo sides guard (target first) (target new) c) in
      allows_by sides opens addition z slots id place (λ n. cond (eqb n first) detach_step missed_step) me
      (λ n. either (eqb n first) new n) (λ n. n)
      then lone (λ m no. refl) (λ m bad. absurd (false≢true (sym (stores_none (eqb m first)) ∙ bad)))
      (λ m. missed_keeps (eqb m first) m new)
      (λ words g b add pass is sizes fits.
      let n : ℕ = get_or words place 0 in
      let small : IsSmall n = (source_sound sides z words g q place b pass is source).small in
      dite (ℕ_discrete n first)
      (λ e. subst (λ (hit : Bool). Plays sides opens addition (cond hit detach_step missed_step) place n (either hit new n) z words g me.0
      (then n))
      (sym (eq-eqb n first e))
      (let d : Detaches sides z words g q c place (target new) new = shows z words g q place guard first new b add pass is may four names
      unused e in
      let q' : PassState W = detaching c q in
      let status : ℕ → RecordState = detached_status sides z words g q c place (target new) new b pass is d in
      let s : LoggedStep E A = entry detach_step place n new [] [] g.order q' in
      let b' : Base sides z (set words place new) (after_step g q' status s) = base_detached sides z words g q c place
      (target new) new b pass is d s in
      let looks : Detached z g (after_step g q' status s) q c = looks_detached sides z words g q c place
      (target new) new b pass is d s refl refl in
      record {
        known = q';
        status = status;
        changes = [];
        placed = [];
        keeps_rule = record {
          number = refl;
          sizes = sizes;
          base = b';
          added = kept z words g (after_step g q' status s) q place guard first new b b' pass is may e d looks add;
        };
        tells = λ v is_now made. (
          refl,
          record { small = small; same = λ _. made; other = λ ne. absurd (ne e) },
          λ _. orders z words g q place guard first new b add pass is may e,
        );
      }))
      (λ ne. subst (λ (hit : Bool). Plays sides opens addition (cond hit detach_step missed_step) place n
      (either hit new n) z words g me.0 (then n))
      (sym (ne_eqb n first ne)) record {
        known = learning_from sides z place frozen q source n;
        status = g.status;
        changes = [];
        placed = [];
        keeps_rule = source_learns sides opens addition alike frozen freezes z missed_step place words g q b add pass is sizes source;
        tells = λ v is_now made. (
          refl,
          record { small = small; same = λ e. absurd (ne e); other = λ _. made },
          λ e. absurd (ne e),
        );
      }))
