-- The store of 0 to the frontier word of the oldest chain in hand, all of whose links have INVALID: it is retired.
use Rattle.std.proofs.Common.{◌≡◌, ◌≢◌, ◌⊎◌, ℕ, zero, suc, ◌+◌, ◌<◌, true, List, [], ◌∷◌, ◌++◌, length, set}
use Rattle.std.proofs.Common.{refl, sym, ap, ◌∙◌, subst, inl, inr, ⊎_elim, arith}
use Rattle.std.proofs.lemmas.List.{length-set}
use Rattle.std.proofs.Math.Bool.{false≢true}
use mathlib.Core.Option.{some, some-injective}
use lib.ListN.{get_elem?}
use Rattle.atomic_table.specs.Table.{Me, Allows}
use Rattle.pp_link.specs.declared.layout.Sizes.{Sizes}
use Rattle.pp_link.specs.Links.{target, invalid_bit}
use Rattle.pp_link.specs.Places.{IsNumber, frontier_place}
use Rattle.pp_link.specs.Words.{frontier_word, shelf_word, cell_word, FrontierStored}
use Rattle.pp_link.proofs.Stores.{frontier_stored}
use Rattle.pp_rule.specs.Lists.{IsIn, OnceBy, Once, rest_of}
use Rattle.pp_rule.specs.Orders.{LoggedStep, retire_step}
use Rattle.pp_rule.specs.Views.{WalkSlot, PrivateRecord, Chain, PassState, SeatView, slot}
use Rattle.pp_rule.specs.States.{RecordState, attached, in_hand, retired, owned, shelved, IsUsed, IsLinked, IsStateIn, PoolState}
use Rattle.pp_rule.specs.States.{IsSmall, Leads, Leaves, Held, SameTarget}
use Rattle.pp_rule.specs.Rule.{Reads, guard_of, Numbers, PrivateWords, Hazards, Links, Shelves, Chains, Scans, Base}
use Rattle.pp_rule.specs.Ties.{Holds}
use Rattle.pp_rule.specs.Steps.{entry, IsAlone, MadeQuietStep, retiring}
use Rattle.pp_rule.specs.Looks.{SameOwn, LooksSame}
use Rattle.pp_rule.specs.Laws.{KeptAlike}
use Rattle.pp_rule.proofs.Put.{put, put_each, in_nil, in_left, in_right, in_either}
use Rattle.pp_rule.proofs.Slots.{same_own}
use Rattle.pp_rule.proofs.Stepping.{after_step, allows, low_aside}
use Rattle.pp_rule.proofs.Frames.{SameUsed, SameContent, content_used, frontier_content}
use Rattle.pp_rule.proofs.Frames.{held_after, reads_after, shelves_after, hazards_after}
use Rattle.pp_rule.proofs.Frames.{Unscanned, scans_after}
use Rattle.pp_rule.proofs.Chained.{at_either, in_or_out, put_all, put_all_in, put_all_out, leaves_on}
use Rattle.pp_rule.proofs.Frontiers.{guards_after}

module _ {A : Type 0} where
  pub rest_get : (xs : List A) (i : ℕ) → get_elem? (rest_of xs) i ≡ get_elem? xs (suc i)
  rest_get [] i = refl
  rest_get (x ∷ xs) i = refl

-- two lists with nothing in common, each with each number once
pub once_append : (xs ys : List ℕ) → Once xs → Once ys → ((n : ℕ) → IsIn n xs → IsIn n ys → ⊥) → Once (xs ++ ys)
once_append xs ys once_x once_y apart k l x y at_k at_l e = ⊎_elim
    (λ (a : (k < length xs) × (get_elem? xs k ≡ some x)). ⊎_elim
    (λ (c : (l < length xs) × (get_elem? xs l ≡ some y)). once_x k l x y a.1 c.1 e)
    (λ (c : (j : ℕ) × ((l ≡ length xs + j) × (get_elem? ys j ≡ some y))).
    absurd (apart x (k, a.1) (c.0, c.1.1 ∙ ap some (sym e)))) (at_either xs ys l y at_l))
    (λ (a : (j : ℕ) × ((k ≡ length xs + j) × (get_elem? ys j ≡ some x))). ⊎_elim
    (λ (c : (l < length xs) × (get_elem? xs l ≡ some y)). absurd (apart y (l, c.1) (a.0, a.1.1 ∙ ap some e)))
    (λ (c : (j : ℕ) × ((l ≡ length xs + j) × (get_elem? ys j ≡ some y))).
    let same : a.0 ≡ c.0 = once_y a.0 c.0 x y a.1.1 c.1.1 e in a.1.0 ∙ (ap (λ (j : ℕ). length xs + j) same ∙ sym c.1.0))
    (at_either xs ys l y at_l)) (at_either xs ys k x at_k)

module _ {E A W : Type 0} (sides : ℕ) (z : Sizes) (words : List ℕ) (g : PoolState E A W) (q : PassState W) (c : Chain)
    (b : Base sides z words g) (pass : q.number < z.passes) (is : g.of q.number ≡ q) (at : get_elem? q.chains 0 ≡ some c)
    (spent : c.valid ≡ []) where
  abbrev new : List ℕ
  new = set words (frontier_place z q.number c.guard) 0

  abbrev after : PassState W
  after = retiring c q

  -- the states after the step
  abbrev pub retired_status : ℕ → RecordState
  retired_status = put_all g.status c.records (retired q.number)

  chain_in : IsIn c (g.of q.number).chains
  chain_in = (0, ap (λ (v : PassState W). get_elem? v.chains 0) is ∙ at)

  member_was : (n : ℕ) → IsIn n c.records → IsNumber z n × (g.status n ≡ in_hand q.number c.guard)
  member_was n i = b.chains.members q.number n c pass chain_in i

  inside : (n : ℕ) → IsIn n c.records → retired_status n ≡ retired q.number
  inside n i = put_all_in g.status c.records (retired q.number) n i

  outside : (n : ℕ) → (IsIn n c.records → ⊥) → retired_status n ≡ g.status n
  outside n out = put_all_out g.status c.records (retired q.number) n out

  -- a state that isn't that of the chain stays, and one that isn't retired was so
  stays_state : (n : ℕ) (x : RecordState) → g.status n ≡ x → x ≢ in_hand q.number c.guard → retired_status n ≡ x
  stays_state n x state ne = outside n (λ i. ne (sym state ∙ (member_was n i).1)) ∙ state

  was_state : (n : ℕ) (x : RecordState) → retired_status n ≡ x → x ≢ retired q.number → (IsIn n c.records → ⊥) × (g.status n ≡ x)
  was_state n x state ne = let out : IsIn n c.records → ⊥ = λ i. ne (sym state ∙ inside n i) in (out, sym (outside n out) ∙ state)

  used_on : (n : ℕ) → IsUsed (g.status n) → IsUsed (retired_status n)
  used_on n used = ⊎_elim (λ (i : IsIn n c.records). subst IsUsed (sym (inside n i)) tt)
      (λ (out : IsIn n c.records → ⊥). subst IsUsed (sym (outside n out)) used) (in_or_out n c.records)

  used_before : (n : ℕ) → IsUsed (retired_status n) → IsUsed (g.status n)
  used_before n used = ⊎_elim (λ (i : IsIn n c.records). subst IsUsed (sym (member_was n i).1) tt)
      (λ (out : IsIn n c.records → ⊥). subst IsUsed (outside n out) used) (in_or_out n c.records)

  stored : FrontierStored z words new q.number c.guard 0
  stored = frontier_stored z words 0 b.wide q.number c.guard pass (b.chains.guard q.number c pass chain_in)

  content : SameContent z words new
  content = frontier_content z words (frontier_place z q.number c.guard) 0 q.number c.guard stored

  same_link : (n side : ℕ) → IsNumber z n → side < sides → cell_word new z n (2 + side) ≡ cell_word words z n (2 + side)
  same_link n side number lt = let most = b.two in stored.cells n (2 + side) number (omega arith)

  -- each chain afterwards was one before, and it is another than c
  old_chain : (r : ℕ) (d : Chain) → IsIn d (put g.of q.number after r).chains
      → IsIn d (g.of r).chains × ((r ≡ q.number) × (d.guard ≡ c.guard) → ⊥)
  old_chain r d = put_each (λ (r : ℕ) (v : PassState W). IsIn d v.chains
      → IsIn d (g.of r).chains × ((r ≡ q.number) × (d.guard ≡ c.guard) → ⊥)) g.of q.number after
      (λ i. let e : get_elem? (g.of q.number).chains (suc i.0) ≡ some d =
      ap (λ (v : PassState W). get_elem? v.chains (suc i.0)) is ∙ (sym (rest_get q.chains i.0) ∙ i.1) in (
        (suc i.0, e),
        λ same. let bad : suc i.0 ≡ 0 = b.chains.once q.number pass (suc i.0) 0 d c e
            (ap (λ (v : PassState W). get_elem? v.chains 0) is ∙ at) same.1 in absurd (omega arith),
      ))
      (λ r other i. (i, λ same. other same.0)) r

  -- a record of another chain is none of c
  other_member : (r m : ℕ) (d : Chain) → r < z.passes → IsIn d (put g.of q.number after r).chains → IsIn m d.records
      → IsNumber z m × (retired_status m ≡ in_hand r d.guard)
  other_member r m d low i member = let o = old_chain r d i in let was = b.chains.members r m d low o.0 member in
      (was.0, stays_state m (in_hand r d.guard) was.1 (λ (e : in_hand r d.guard ≡ in_hand q.number c.guard). o.1 (cc, cc)))

  -- a record that is in hand still stands in a chain that goes on
  other_home : (r j m : ℕ) → r < z.passes → IsNumber z m → retired_status m ≡ in_hand r j
      → (d : Chain) × (IsIn d (put g.of q.number after r).chains × (d.guard ≡ j) × IsIn m d.records)
  other_home r j m low number state =
      let was = was_state m (in_hand r j) state (λ (e : in_hand r j ≡ retired q.number). absurd cc) in
      put_each (λ (r : ℕ) (v : PassState W). r < z.passes → g.status m ≡ in_hand r j
      → (d : Chain) × (IsIn d v.chains × (d.guard ≡ j) × IsIn m d.records)) g.of q.number after
      (λ low state. let d = b.chains.home q.number j m low number state in
      (d.0, (behind d.0 d.1.0.0 (ap (λ (v : PassState W). get_elem? v.chains d.1.0.0) (sym is) ∙ d.1.0.1) d.1.2 was.0, d.1.1, d.1.2)))
      (λ r other low state. b.chains.home r j m low number state) r low was.1
    where
      behind : (d : Chain) (k : ℕ) → get_elem? q.chains k ≡ some d → IsIn m d.records → (IsIn m c.records → ⊥) → IsIn d (rest_of q.chains)
      behind d zero e member out = absurd (out (subst (λ (x : Chain). IsIn m x.records) (some-injective d c (sym e ∙ at)) member))
      behind d (suc k) e member out = (k, rest_get q.chains k ∙ e)

  -- The records of the chain were in hand, so they stand in no list yet, and now they stand behind the retired ones.
  numbers_now : Numbers z (put g.of q.number after) retired_status
  numbers_now = record {
    scope = λ n number. ⊎_elim (λ (i : IsIn n c.records). subst (IsStateIn z) (sym (inside n i)) pass)
        (λ (out : IsIn n c.records → ⊥). subst (IsStateIn z) (sym (outside n out)) (b.numbers.scope n number)) (in_or_out n c.records);
    owned_to = λ r d low i. let was = b.numbers.owned_to r d low (subst (λ (l : List PrivateRecord). IsIn d l) (owned_same r) i) in
        (was.0, stays_state d.number (owned r) was.1 (λ (e : owned r ≡ in_hand q.number c.guard). absurd cc));
    owned_from = λ r n low number state.
        let was = was_state n (owned r) state (λ (e : owned r ≡ retired q.number). absurd cc) in
        let d = b.numbers.owned_from r n low number was.1 in
        (d.0, (subst (λ (l : List PrivateRecord). IsIn d.0 l) (sym (owned_same r)) d.1.0, d.1.1));
    owned_once = λ r low. subst (OnceBy (λ (d : PrivateRecord). d.number)) (sym (owned_same r)) (b.numbers.owned_once r low);
    retired_to = λ r n low. put_each (λ (r : ℕ) (v : PassState W). r < z.passes → IsIn n v.retired → IsNumber z n
        × (retired_status n ≡ retired r))
        g.of q.number after (λ low i. ⊎_elim
        (λ (early : IsIn n q.retired). old_retired q.number n low (subst (λ (v : PassState W). IsIn n v.retired) (sym is) early))
        (λ (late : IsIn n c.records). ((member_was n late).0, inside n late)) (in_either n q.retired c.records i))
        (λ r other low i. old_retired r n low i) r low;
    retired_from = λ r n low number. put_each (λ (r : ℕ) (v : PassState W). r < z.passes → retired_status n ≡ retired r → IsIn n v.retired)
        g.of q.number after (λ low state. ⊎_elim (λ (i : IsIn n c.records). in_right n q.retired c.records i)
        (λ (out : IsIn n c.records → ⊥). in_left n q.retired c.records (subst (λ (v : PassState W). IsIn n v.retired) is
        (b.numbers.retired_from q.number n low number (sym (outside n out) ∙ state)))) (in_or_out n c.records))
        (λ r other low state. b.numbers.retired_from r n low number
        (was_state n (retired r) state (λ (e : retired r ≡ retired q.number). other cc)).1) r low;
    retired_once = put_each (λ (r : ℕ) (v : PassState W). r < z.passes → Once v.retired) g.of q.number after
        (λ low. once_append q.retired c.records (subst (λ (v : PassState W). Once v.retired) is (b.numbers.retired_once q.number low))
        (b.chains.members_once q.number c pass chain_in)
        (λ n early late. let e : retired q.number ≡ in_hand q.number c.guard =
        sym (b.numbers.retired_to q.number n low (subst (λ (v : PassState W). IsIn n v.retired) (sym is) early)).1
        ∙ (member_was n late).1 in absurd cc))
        (λ r other low. b.numbers.retired_once r low);
  }
    where
      owned_same : (r : ℕ) → (put g.of q.number after r).owned ≡ (g.of r).owned
      owned_same = put_each (λ (r : ℕ) (v : PassState W). v.owned ≡ (g.of r).owned) g.of q.number after (ap (λ v. v.owned) (sym is))
          (λ r other. refl)

      old_retired : (r n : ℕ) → r < z.passes → IsIn n (g.of r).retired → IsNumber z n × (retired_status n ≡ retired r)
      old_retired r n low i = let was = b.numbers.retired_to r n low i in
          (was.0, stays_state n (retired r) was.1 (λ (e : retired r ≡ in_hand q.number c.guard). absurd cc))

  privates_now : PrivateWords z new (put g.of q.number after)
  privates_now = record {
    reads = λ r d low. put_each (λ (r : ℕ) (v : PassState W). r < z.passes → IsIn d v.owned → Reads z new d) g.of q.number after
        (λ low i. old q.number d low (subst (λ (v : PassState W). IsIn d v.owned) (sym is) i)) (λ r other low i. old r d low i) r low;
  }
    where
      old : (r : ℕ) (d : PrivateRecord) → r < z.passes → IsIn d (g.of r).owned → Reads z new d
      old r d low i = reads_after z words new d (λ f four. stored.cells d.number f (b.numbers.owned_to r d low i).0 four)
          (b.privates.reads r d low i)

  hazards_now : Hazards z new (put g.of q.number after) retired_status
  hazards_now = let used : SameUsed z retired_status words new = content_used z retired_status words new content in
      let four : length q.frontier ≡ 4 = ap (λ v. length v.frontier) (sym is) ∙ b.hazards.four q.number pass in
      let before : Hazards z words g.of retired_status = record {
        five = b.hazards.five;
        four = b.hazards.four;
        walks = b.hazards.walks;
        frontiers = b.hazards.frontiers;
        held = λ r i low lt on. held_on (slot (g.of r) i) (b.hazards.held r i low lt on);
      } in
      hazards_after z g.of q.number after words new retired_status used before
      (ap (λ v. length v.walk) (sym is) ∙ b.hazards.five q.number pass) (length-set q.frontier c.guard 0 ∙ four)
      (λ r i low other five. stored.walks r i low five)
      (λ i five. stored.walks q.number i pass five
      ∙ (b.hazards.walks q.number i pass five ∙ ap (λ (v : PassState W). (slot v i).named) is))
      (λ r k low other below. stored.frontiers r k low below (λ same. other same.0))
      (guards_after z words new g.of q.number q after c.guard 0 stored is refl four (b.chains.guard q.number c pass chain_in)
      (λ k low. b.hazards.frontiers q.number k pass low) pass)
      (λ i five on. held_after z words new retired_status (slot q i) used
      (subst (λ (v : PassState W). (slot v i).held ≡ true → Held z words retired_status (slot v i)) is
      (before.held q.number i pass five) on))
    where
      held_on : (w : WalkSlot) → Held z words g.status w → Held z words retired_status w
      held_on w h = record { number = h.number; used = used_on w.named h.used; key = h.key; value = h.value; learnt = h.learnt }

  -- No link of another chain leads to this one, so what is in hand still leads on. The links of this chain have INVALID, since
  -- none is left that may have none.
  links_now : Links sides z new retired_status
  links_now = record {
    heads = λ h low. subst (Leads z retired_status) (sym (stored.heads h low)) (leads_on_retired (b.links.heads h low));
    linked = λ n side number lt state. subst (Leads z retired_status) (sym (same_link n side number lt)) (leads_on_retired
        (b.links.linked n side number lt (was_state n attached state (λ (e : attached ≡ retired q.number). absurd cc)).1));
    hand = hand_now;
    spent = λ n side r number lt state. subst (λ (w : ℕ). IsSmall w × (invalid_bit w ≡ 1)) (sym (same_link n side number lt))
        (⊎_elim (λ (i : IsIn n c.records). (
          (b.links.hand n side q.number c.guard number lt (member_was n i).1).small,
          ⊎_elim (λ (one : invalid_bit (cell_word words z n (2 + side)) ≡ 1). one)
              (λ (left : IsIn (n, side) c.valid). absurd (in_nil (n, side) (subst (λ (l : List (ℕ × ℕ)). IsIn (n, side) l) spent left)))
              (b.chains.valid q.number n side c pass chain_in i lt),
        ))
        (λ (out : IsIn n c.records → ⊥). b.links.spent n side r number lt (sym (outside n out) ∙ state)) (in_or_out n c.records));
  }
    where
      leads_on_retired : {w : ℕ} → Leads z g.status w → Leads z retired_status w
      leads_on_retired {w} l = record {
        small = l.small;
        valid = l.valid;
        to = ⊎_elim inl (λ (t : IsNumber z (target w) × (g.status (target w) ≡ attached)).
            inr (t.0, stays_state (target w) attached t.1 (λ (e : attached ≡ in_hand q.number c.guard). absurd cc))) l.to;
      }

      hand_now : (n side r j : ℕ) → IsNumber z n → side < sides → retired_status n ≡ in_hand r j
          → Leaves z new retired_status r j (cell_word new z n (2 + side))
      hand_now n side r j number lt state =
          let was = was_state n (in_hand r j) state (λ (e : in_hand r j ≡ retired q.number). absurd cc) in
          let scope : (r < z.passes) × (j < 4) = subst (IsStateIn z) was.1 (b.numbers.scope n number) in
          let w : ℕ = cell_word words z n (2 + side) in
          let l : Leaves z words g.status r j w = b.links.hand n side r j number lt was.1 in
          let home = other_home r j n scope.0 number state in
          let other : (r ≡ q.number) × (j ≡ c.guard) → ⊥ = λ same. (old_chain r home.0 home.1.0).1 (same.0, home.1.1 ∙ same.1) in
          subst (Leaves z new retired_status r j) (sym (same_link n side number lt))
          (leaves_on z words new retired_status w r j (stored.frontiers r j scope.0 scope.1 other) record {
            small = l.small;
            to = λ valid. ⊎_elim inl
                (λ (t : IsNumber z (target w) × ((g.status (target w) ≡ in_hand r j)
                ⊎ ((target w ≡ frontier_word words z r j) × IsUsed (g.status (target w))))). inr (
                  t.0,
                  ⊎_elim (λ (e : g.status (target w) ≡ in_hand r j). inl (stays_state (target w) (in_hand r j) e
                      (λ (same : in_hand r j ≡ in_hand q.number c.guard). other (cc, cc))))
                      (λ (u : (target w ≡ frontier_word words z r j) × IsUsed (g.status (target w))). inr
                      (u.0, used_on (target w) u.1)) t.1,
                ))
                (l.to valid);
          })

  shelves_now : Shelves z new retired_status
  shelves_now = shelves_after z words new retired_status (λ n j state number. subst (IsStateIn z) state
      (numbers_now.scope n number)) stored.shelves
      record {
        named = λ j low. ⊎_elim inl (λ (t : IsNumber z (shelf_word words z j) × (g.status (shelf_word words z j) ≡ shelved j)).
            inr (t.0, stays_state (shelf_word words z j) (shelved j) t.1 (λ (e : shelved j ≡ in_hand q.number c.guard). absurd cc)))
            (b.shelves.named j low);
        home = λ n j number state. b.shelves.home n j number (was_state n (shelved j) state
            (λ (e : shelved j ≡ retired q.number). absurd cc)).1;
      }

  chains_now : Chains sides z new (put g.of q.number after) retired_status
  chains_now = record {
    guard = λ r d low i. b.chains.guard r d low (old_chain r d i).0;
    once = put_each (λ (r : ℕ) (v : PassState W). r < z.passes → OnceBy guard_of v.chains) g.of q.number after
        (λ low k l x y at_k at_l e. let same : suc k ≡ suc l = b.chains.once q.number low (suc k) (suc l) x y (later k x at_k)
        (later l y at_l) e in
        omega arith) (λ r other low. b.chains.once r low);
    members = other_member;
    members_once = λ r d low i. b.chains.members_once r d low (old_chain r d i).0;
    home = other_home;
    valid = λ r n side d low i member lt. subst (λ (w : ℕ). (invalid_bit w ≡ 1) ⊎ IsIn (n, side) d.valid)
        (sym (same_link n side (other_member r n d low i member).0 lt)) (b.chains.valid r n side d low (old_chain r d i).0 member lt);
    links = λ r d l low i link. let was = b.chains.links r d l low (old_chain r d i).0 link in (
      was.0,
      was.1,
      subst (SameTarget l.word) (sym (same_link l.number l.side (other_member r l.number d low i was.0).0 was.1)) was.2,
    );
  }
    where
      later : (k : ℕ) (x : Chain) → get_elem? (rest_of q.chains) k ≡ some x → get_elem? (g.of q.number).chains (suc k) ≡ some x
      later k x e = ap (λ (v : PassState W). get_elem? v.chains (suc k)) is ∙ (sym (rest_get q.chains k) ∙ e)

  scans_now : Scans sides z new (put g.of q.number after) retired_status
  scans_now = scans_after z g.of q.number after sides words new retired_status b.two (content_used z retired_status words new content)
      (ap (λ v. v.scan) (sym is))
      (λ i five. subst (λ (v : PassState W). (slot v i).held ≡ true → Unscanned z g.of q.number v i (slot v i).named) is
      (λ on r m low left read. b.scans.walks r m q.number i low left pass five read on))
      record {
        left = λ r n low i. let was = b.scans.left r n low i in
            (was.0, stays_state n (retired r) was.1 (λ (e : retired r ≡ in_hand q.number c.guard). absurd cc));
        left_once = b.scans.left_once;
        fronts = λ r n p j m side low i read number lt state. b.scans.fronts r n p j m side low i read number lt
            (was_state m (in_hand p j) state (λ (e : in_hand p j ≡ retired q.number). absurd cc)).1;
        walks = b.scans.walks;
      }

  -- The oldest chain in hand is retired, and its frontier word is 0.
  pub base_retired : (s : LoggedStep E A) → Base sides z new (after_step g after retired_status s)
  base_retired s = record {
    within = b.within;
    two = b.two;
    wide = length-set words (frontier_place z q.number c.guard) 0 ∙ b.wide;
    numbers = numbers_now;
    privates = privates_now;
    hazards = hazards_now;
    links = links_now;
    shelves = shelves_now;
    chains = chains_now;
    scans = scans_now;
  }

  -- what a shape sees of it
  pub looks_retired : (s : LoggedStep E A) → s.entry.changes ≡ [] → s.placed ≡ [] → LooksSame z words new g
      (after_step g after retired_status s)
  looks_retired s no_change no_call = record {
    seen = record {
      heads = stored.heads;
      cells = λ n f number four used. stored.cells n f number four;
      attached_on = λ n state. stays_state n attached state (λ (e : attached ≡ in_hand q.number c.guard). absurd cc);
      linked_was = λ n linked. ⊎_elim (λ (i : IsIn n c.records). absurd (subst IsLinked (inside n i) linked))
          (λ (out : IsIn n c.records → ⊥). outside n out)
          (in_or_out n c.records);
      used_was = used_before;
      order = record { step = s; is = refl; no_change = no_change; no_call = no_call };
    };
    passes = λ p low. put_each (λ (p : ℕ) (v : PassState W). SameOwn (g.of p) v) g.of q.number after
        (same_own (g.of q.number) after (ap (λ v. v.own) (sym is)) (ap (λ v. v.walk) (sym is)))
        (λ r other. same_own (g.of r) (g.of r) refl refl) p;
  }

module _ {E A W : Type 0} (sides : ℕ) (opens : Sizes → List ℕ) (addition : Sizes → List ℕ → PoolState E A W → Type 0) where
  -- The oldest chain in hand may be retired where each of its links has INVALID.
  pub retires : KeptAlike sides addition → (z : Sizes) (slots id place : ℕ) (c : Chain) (me : Me Unit (SeatView E A W)) → IsAlone me
      → get_elem? me.0.known.chains 0 ≡ some c → c.valid ≡ [] → place ≡ frontier_place z me.0.known.number c.guard
      → Allows (Holds sides opens addition z) slots id me place (λ _. 0)
      (λ _ m'. (m'.1 ≡ []) × MadeQuietStep retire_step place 0 0 (retiring c me.0.known) me.0 m'.0)
  retires alike z slots id place c me lone at spent at_place = let q : PassState W = me.0.known in
      let q' : PassState W = retiring c q in
      allows sides opens addition z slots id place retire_step me (λ _. 0) (λ _. 0)
      (λ _ m'. (m'.1 ≡ []) × MadeQuietStep retire_step place 0 0 q' me.0 m'.0) lone (λ m bad. absurd (false≢true (sym bad)))
      (λ m yes. (
        (λ _. refl),
        λ words g b low is.
            let four : c.guard < 4 = b.chains.guard q.number c low (subst (λ (v : PassState W). IsIn c v.chains) (sym is) (0, at)) in
            low_aside z g place (omega arith),
      )) (λ m _. refl)
      (λ words g b add pass is sizes fits.
      let e : LoggedStep E A = entry retire_step place 0 0 [] [] g.order q' in
      let status : ℕ → RecordState = retired_status sides z words g q c b pass is at spent in
      let b' : Base sides z (set words place 0) (after_step g q' status e) =
      subst (λ (k : ℕ). Base sides z (set words k 0) (after_step g q' status e)) (sym at_place)
      (base_retired sides z words g q c b pass is at spent e) in
      let looks : LooksSame z words (set words place 0) g (after_step g q' status e) =
      subst (λ (k : ℕ). LooksSame z words (set words k 0) g (after_step g q' status e)) (sym at_place)
      (looks_retired sides z words g q c b pass is at spent e refl refl) in record {
        known = q';
        status = status;
        changes = [];
        placed = [];
        keeps_rule = record {
          number = refl;
          sizes = sizes;
          base = b';
          added = alike z words (set words place 0) g (after_step g q' status e) b b' looks add;
        };
        tells = λ v is_now made. (refl, made);
      })
