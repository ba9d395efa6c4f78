-- The loads with which a walk begins, goes on and ends: that the rule allows them, with what they tell.
use Rattle.std.proofs.Common.{◌≡◌, ◌≢◌, ◌⊎◌, inl, inr, ⊎_elim, ℕ, ◌+◌, ◌<◌, ◌≤◌, Bool, true, false, cond, eqb, ◌&&◌}
use Rattle.std.proofs.Common.{List, [], length, get_or, None, sym, refl, ap, ◌∙◌, subst, arith, append-nil}
use Rattle.std.proofs.Common.{eq-eqb, ne_eqb}
use Rattle.std.proofs.Math.Bool.{false≢true}
use Rattle.std.proofs.Math.Decide.{ℕ_discrete}
use mathlib.Core.Logic.{dite}
use Rattle.atomic_table.specs.Table.{Me, Allows}
use Rattle.pp_link.specs.declared.layout.Sizes.{Sizes}
use Rattle.pp_link.specs.Links.{target, invalid_bit, flag_bit}
use Rattle.pp_link.specs.Places.{IsNumber, head_place, cell_place}
use Rattle.pp_link.specs.Words.{cell_word}
use Rattle.pp_model.specs.declared.Call.{Call}
use Rattle.pp_model.specs.declared.Change.{Change}
use Rattle.pp_model.specs.declared.Placed.{Placed}
use Rattle.pp_model.specs.Calls.{key_of}
use Rattle.pp_model.proofs.Histories.{fits_within}
use Rattle.pp_rule.specs.declared.views.WalkSlot.{WalkSlot}
use Rattle.pp_rule.specs.Orders.{log_of, placed_by, goes_aside, load_step, confirm_step}
use Rattle.pp_rule.specs.declared.views.Halves.{Halves}
use Rattle.pp_rule.specs.Views.{slot, halves}
use Rattle.pp_rule.specs.States.{attached, IsUsed}
use Rattle.pp_rule.specs.Rule.{Base}
use Rattle.pp_rule.specs.Ties.{Holds}
use Rattle.pp_rule.specs.Steps.{entry, IsAlone, MadeQuietStep, IsSource, holding}
use Rattle.pp_rule.specs.Laws.{KeptAlike}
use Rattle.pp_rule.proofs.Slots.{WalkSet, slot_here, slot_else}
use Rattle.pp_rule.proofs.Stepping.{after_step, Plays, allows, allows_by}
use Rattle.pp_rule.proofs.Sources.{source_sound}
use Rattle.pp_rule.proofs.Keeping.{load_keeps, idle_keeps}
use Rattle.pp_rule.proofs.Confirming.{base_confirmed}
use Rattle.pp_rule.proofs.OwnSteps.{plays_as}
use Rattle.pp_lists.specs.declared.own.ListOwn.{ListOwn}
use Rattle.pp_lists.specs.Walks.{heap, Finds, IsRight, Joined, Intact, bucket}
use Rattle.pp_lists.specs.Walks.Finds.{ends}
use Rattle.pp_lists.specs.Lists.{ListPass, ListState, ListStep, Walks, Lists}
use Rattle.pp_lists.specs.Turns.{ListView, with_own, end_step, StandsAt, EndsWith, found_of, IsLoaded, IsNil, FindsLearnt}
use Rattle.pp_lists.specs.Turns.{Reached, beginning, Begins}
use Rattle.pp_lists.specs.Turns.{standing, Came, Ended, gathering, anchored, Gathers, PassesBy, StopsAt}
use Rattle.pp_lists.specs.Turns.StandsAt.{on_head, on_record}
use Rattle.pp_lists.proofs.Keeping.{lists_alike}
use Rattle.pp_rule.proofs.Made.{known_after}
use Rattle.pp_lists.proofs.Standing.{WalksAs, walks_of, held_of, from_here, home_here, rises_here, ends_right}
use Rattle.pp_lists.proofs.Standing.{is_loaded, plays_own, plays_end, lists_own}
use Rattle.pp_lists.proofs.Collecting.{keeps_gathered}

alike : KeptAlike 1 Lists
alike z words words' g g' b b' same add = lists_alike z words words' g g' b b' same add

pub valid_or : (n : ℕ) → invalid_bit n ≢ 0 → invalid_bit n ≡ 1
valid_or n ne = omega arith

flag_or : (n : ℕ) → flag_bit n ≢ 0 → flag_bit n ≡ 1
flag_or n ne = omega arith

-- where a call stands it may load
pub source_of : (z : Sizes) (q : ListPass) (k place : ℕ) → ((j : ℕ) → j ≡ q.own.at → j < 5 → (slot q j).held ≡ true)
    → StandsAt z q k place
    → IsSource 1 z q place
source_of z q k place held (on_head h lt home at) = inl (h, (lt, at))
source_of z q k place held (on_record lt at home low) = inr (q.own.at, (0, (lt, omega arith, held q.own.at refl lt, at)))

finds_learnt : (z : Sizes) (words : List ℕ) (g : ListState) (q : ListPass) (b : Base 1 z words g) (lists : Lists z words g)
    (pass : q.number < z.passes) (is : g.of q.number ≡ q) → q.sizes ≡ z → (place : ℕ) → FindsLearnt q place (get_or words place 0)
unfolding cell_word
finds_learnt z words g q b lists pass is sizes place j w lt on at i =
    let k = (held_of z words g q b lists pass is j lt on).learnt (0, w) i in
    ap (λ (p : ℕ). target (get_or words p 0)) (at ∙ ap (λ (y : Sizes). cell_place y (slot q j).named 2) sizes)
    ∙ k.1.same.target_is

module _ (opens : Sizes → List ℕ) where
  -- the first load of the link where a call stands, which has this part of the pass from then on
  plays_reach : (z : Sizes) (words : List ℕ) (g : ListState) (q : ListPass) (b : Base 1 z words g) (lists : Lists z words g)
      (pass : q.number < z.passes) (is : g.of q.number ≡ q) (v : ListView) → v.known ≡ q → q.sizes ≡ z
      → (place : ℕ) (own : ListOwn)
      → IsLoaded v.known.sizes (get_or words place 0) → FindsLearnt v.known place (get_or words place 0)
      → WalksAs z words g q b lists pass is own → own.left ≡ q.own.left → own.going ≡ true
      → (IsNil (get_or words place 0) → IsRight (log_of g.order) own.start (key_of own.call) None)
      → Plays 1 opens Lists load_step place (get_or words place 0) (get_or words place 0) z words g v
      (λ m'. (m'.1 ≡ []) × (Reached own place (get_or words place 0) v m'.0 × (log_of m'.0.order ≡ log_of g.order)))
  plays_reach z words g q b lists pass is v known_is sizes place own loaded learnt o left going right = let n : ℕ =
      get_or words place 0 in
      dite (ℕ_discrete (invalid_bit n) 0)
      (λ ok. dite (ℕ_discrete (target n) 0)
      (λ nil. plays_as 1 opens Lists (λ m'. (m'.1 ≡ []) × (EndsWith own load_step place n None v m'.0
      × (log_of m'.0.order ≡ log_of g.order)))
      (λ m'. (m'.1 ≡ []) × (Reached own place n v m'.0 × (log_of m'.0.order ≡ log_of g.order)))
      (plays_end z words g q b lists pass is opens v known_is sizes load_step place own o left None going (right (ok, nil)))
      (λ w y. (
        y.0,
        (
          record {
            loaded = loaded;
            learnt = learnt;
            ended = λ _. y.1.0;
            goes_on = λ never. absurd (never (ok, nil));
          },
          y.1.1,
        ),
      )))
      (λ more_to. on_it (λ nil. more_to nil.1)))
      (λ bad. on_it (λ nil. bad nil.0))
    where
      on_it : (IsNil (get_or words place 0) → ⊥) → Plays 1 opens Lists load_step place (get_or words place 0)
          (get_or words place 0) z words g v
          (λ m'. (m'.1 ≡ []) × (Reached own place (get_or words place 0) v m'.0 × (log_of m'.0.order ≡ log_of g.order)))
      on_it never = plays_as 1 opens Lists (λ m'. (m'.1 ≡ []) × (MadeQuietStep load_step place (get_or words place 0)
          (get_or words place 0) (with_own own q) v m'.0
          × (log_of m'.0.order ≡ log_of g.order)))
          (λ m'. (m'.1 ≡ []) × (Reached own place (get_or words place 0) v m'.0 × (log_of m'.0.order ≡ log_of g.order)))
          (plays_own z words g q b lists pass is opens v known_is sizes load_step place own o left)
          (λ w y. (
            y.0,
            (
              record {
                loaded = loaded;
                learnt = learnt;
                ended = λ nil. absurd (never nil);
                goes_on = λ _. subst (λ (k : ListPass). MadeQuietStep load_step place (get_or words place 0)
                    (get_or words place 0)
                    (with_own own k) v w)
                    (sym known_is) y.1.0;
              },
              y.1.1,
            ),
          ))

  -- The first load of the link where the call stands may end the walk.
  pub reaches : (z : Sizes) (slots id place : ℕ) (me : Me Unit ListView) → IsAlone me → me.0.known.own.going ≡ true
      → StandsAt z me.0.known (key_of me.0.known.own.call) place
      → Allows (Holds 1 opens Lists z) slots id me place (λ n. n) (λ n m'. (m'.1 ≡ []) × Reached me.0.known.own place n me.0 m'.0)
  reaches z slots id place me lone going at = let q : ListPass = me.0.known in
      allows 1 opens Lists z slots id place load_step me (λ n. n) (λ n. n)
      (λ n m'. (m'.1 ≡ []) × Reached q.own place n me.0 m'.0) lone
      (λ n _. refl) (λ n bad. absurd (false≢true bad)) (λ n _. refl)
      (λ words g b add pass is sizes fits. let n : ℕ = get_or words place 0 in let o = walks_of z words g q b add pass is in
      let source = source_of z q (key_of q.own.call) place
      (λ j e lj. subst (λ (j : ℕ). (slot q j).held ≡ true) (sym e) (o.stood.held (subst (λ (j : ℕ). j < 5) e lj))) at in
      plays_as 1 opens Lists (λ m'. (m'.1 ≡ []) × (Reached q.own place n me.0 m'.0 × (log_of m'.0.order ≡ log_of g.order)))
      (λ m'. (m'.1 ≡ []) × Reached q.own place n me.0 m'.0)
      (plays_reach z words g q b add pass is me.0 refl sizes place q.own (is_loaded z words g q b add pass is sizes place source)
      (finds_learnt z words g q b add pass is sizes place) o refl going
      (λ nil. from_here z words g q b add pass is place n refl going at nil.0 None (ends nil.1 refl)))
      (λ w y. (y.0, y.1.0)))

  -- The first load of a call, at its head.
  pub begins_call : (z : Sizes) (slots id place head : ℕ) (call : Call) (me : Me Unit ListView) → IsAlone me → head < z.heads
      → head ≡ bucket z.heads (key_of call) → place ≡ head_place z head
      → Allows (Holds 1 opens Lists z) slots id me place (λ n. n) (λ n m'. (m'.1 ≡ []) × Begins place n call me.0 m'.0)
  begins_call z slots id place head call me lone low home at = let q : ListPass = me.0.known in
      allows 1 opens Lists z slots id place load_step me (λ n. n) (λ n. n)
      (λ n m'. (m'.1 ≡ []) × Begins place n call me.0 m'.0) lone
      (λ n _. refl) (λ n bad. absurd (false≢true bad)) (λ n _. refl)
      (λ words g b add pass is sizes fits. let n : ℕ = get_or words place 0 in let log : List Change = log_of g.order in
      let o = walks_of z words g q b add pass is in let own : ListOwn = beginning call (length log) q.own.left in
      let begun : WalksAs z words g q b add pass is own = record {
        stands = o.stands;
        since = λ _. omega arith;
        earlier = λ _ i x at. fits_within log q.number (i + 1) x (o.stands.each i x at);
        stood = record { held = λ bad. absurd (omega arith); right = λ _ bad. absurd (omega arith) };
        gathering = record {
          held = λ bad. absurd (omega arith);
          joined = λ bad. absurd (omega arith);
          intact = λ bad. absurd (omega arith);
        };
      } in
      plays_as 1 opens Lists (λ m'. (m'.1 ≡ []) × (Reached own place n me.0 m'.0 × (log_of m'.0.order ≡ log)))
      (λ m'. (m'.1 ≡ []) × Begins place n call me.0 m'.0)
      (plays_reach z words g q b add pass is me.0 refl sizes place own
      (is_loaded z words g q b add pass is sizes place (inl (head, (low, at))))
      (finds_learnt z words g q b add pass is sizes place) begun refl refl
      (λ nil. head_right z words g q b add pass is n nil head low home at))
      (λ w y. (
        y.0,
        subst (λ (l : List Change). Reached (beginning call (length l) q.own.left) place n me.0 w)
            (sym y.1.1) y.1.0,
      )))
    where
      head_right : (z : Sizes) (words : List ℕ) (g : ListState) (q : ListPass) (b : Base 1 z words g) (lists : Lists z words g)
          → (q.number < z.passes) → (g.of q.number ≡ q) → (n : ℕ) → IsNil (get_or words place 0) → (head : ℕ) → head < z.heads
          → head ≡ bucket z.heads (key_of call) → place ≡ head_place z head
          → IsRight (log_of g.order) (length (log_of g.order)) (key_of call) None
      head_right z words g q b lists pass is n nil head low home at =
          Rattle.pp_lists.proofs.Standing.head_finds z words g b lists place head
          (key_of call) low home at None nil.0 (ends nil.1 refl)

  -- The confirming load of a walk: the call stands at the record that it holds.
  pub comes : (z : Sizes) (slots id place i first : ℕ) (me : Me Unit ListView) → IsAlone me → i < 5
      → (slot me.0.known i).held ≡ false
      → (slot me.0.known i).named ≡ target first → invalid_bit first ≡ 0 → target first ≢ 0 → me.0.known.own.going ≡ true
      → StandsAt z me.0.known (key_of me.0.known.own.call) place
      → Allows (Holds 1 opens Lists z) slots id me place (λ n. n) (λ n m'. (m'.1 ≡ []) × Came i first n place me.0 m'.0)
  comes z slots id place i first me lone lt unheld named valid to_some going at = let q : ListPass = me.0.known in
      allows 1 opens Lists z slots id place confirm_step me (λ n. n) (λ n. n)
      (λ n m'. (m'.1 ≡ []) × Came i first n place me.0 m'.0) lone
      (λ n _. refl) (λ n bad. absurd (false≢true bad)) (λ n _. refl)
      (λ words g b add pass is sizes fits. let n : ℕ = get_or words place 0 in let o = walks_of z words g q b add pass is in
      let source = source_of z q (key_of q.own.call) place
      (λ j e lj. subst (λ (j : ℕ). (slot q j).held ≡ true) (sym e) (o.stood.held (subst (λ (j : ℕ). j < 5) e lj))) at in
      let sound = source_sound 1 z words g q place b pass is source in dite (ℕ_discrete n first)
      (λ hit. let ok : invalid_bit n ≡ 0 = ap invalid_bit hit ∙ valid in let t : ℕ = target n in
      let same : t ≡ target first = ap target hit in
      let some_t : t ≢ 0 = λ nil. to_some (sym same ∙ nil) in
      let to : IsNumber z t × IsUsed (g.status t) = ⊎_elim (λ (nil : t ≡ 0). absurd (some_t nil))
      (λ (y : IsNumber z t × IsUsed (g.status t)). y) (sound.to ok) in
      let key : ℕ = cell_word words z t 0 in let value : Halves = halves (cell_word words z t 1) (cell_word words z t 4) in
      let w : WalkSlot = holding t key value in
      let known : ListPass = standing i t key value q in let e : ListStep = entry confirm_step place n n [] [] g.order known in
      let five : length q.walk ≡ 5 = ap (λ (v : ListPass). length v.walk) (sym is) ∙ b.hazards.five q.number pass in
      let sets : WalkSet i w q known = record {
        number = refl;
        sizes = refl;
        owned = refl;
        retired_are = refl;
        frontier = refl;
        chains = refl;
        scan = refl;
        walk = refl;
      } in
      let here_is : slot known i ≡ w = slot_here q known i w refl (omega arith) in
      let base : Base 1 z words (after_step g known g.status e) =
      base_confirmed 1 z words g q known i e place b pass is lt source ok some_t
      (named ∙ sym same) sets in
      let home : bucket q.sizes.heads key ≡ bucket q.sizes.heads (key_of q.own.call) =
      subst (λ (y : Sizes). bucket y.heads key ≡ bucket y.heads (key_of q.own.call)) (sym sizes)
      (home_here z words g q b add pass is (key_of q.own.call) place n refl at ok some_t) in
      let first_same : q.own.first < 5 → slot known q.own.first ≡ slot q q.own.first =
      λ lf. slot_else q known i w refl q.own.first
      (λ e. (let h = o.gathering.held lf in false≢true (sym unheld ∙ subst (λ (j : ℕ). (slot q j).held ≡ true) e h))) in
      let walks : Walks z (heap z words g.status) (log_of g.order) q.number (slot known) known.own
      (placed_by q.number g.order) = record {
        stands = o.stands;
        since = o.since;
        earlier = o.earlier;
        stood = record {
          held = λ _. ap (λ (v : WalkSlot). v.held) here_is;
          right = λ go _ a f. from_here z words g q b add pass is place n refl going at ok a
              (subst (λ (v : WalkSlot). Finds (heap z words g.status) (key_of q.own.call) a v.named) here_is f);
        };
        gathering = record {
          held = λ lf. subst (λ (v : WalkSlot). v.held ≡ true) (sym (first_same lf)) (o.gathering.held lf);
          joined = λ lf. subst (λ (v : WalkSlot). (x : ℕ) × Joined v.named q.own.chain x) (sym (first_same lf))
              (o.gathering.joined lf);
          intact = λ lf. subst (λ (v : WalkSlot). g.status v.named ≡ attached → Intact z (heap z words g.status) q.own.chain)
              (sym (first_same lf))
              (o.gathering.intact lf);
        };
      } in record {
        known = known;
        status = g.status;
        changes = [];
        placed = [];
        keeps_rule = load_keeps 1 opens Lists confirm_step place z words g q known g.status [] [] refl sizes base
            (lists_own z words g q known e add refl refl refl
            (subst (λ (mine : List Placed). Walks z (heap z words g.status) (log_of g.order) q.number (slot known) known.own mine)
            (sym (append-nil (placed_by q.number g.order))) walks) is refl);
        tells = λ v _ made. (
          refl,
          record {
            small = sound.small;
            number = λ _. subst (λ (k : ℕ). IsNumber q.sizes k) same (subst (λ (y : Sizes). IsNumber y t) (sym sizes) to.0);
            same = λ _. (
              key,
              (
                value,
                home,
                subst (λ (k : ℕ). MadeQuietStep confirm_step place n n
                    (standing i k key value q) me.0 v) same made,
              ),
            );
            other = λ miss. absurd (miss hit);
            rises = λ _ lt at_record. subst (λ (v : ListPass). (slot q q.own.at).key < (slot v i).key)
                (sym (known_after confirm_step place n n [] [] known me.0 v made))
                (subst (λ (v : WalkSlot). (slot q q.own.at).key < v.key) (sym here_is)
                (rises_here z words g q b add pass is place n refl lt
                (subst (λ (y : Sizes). place ≡ cell_place y (slot q q.own.at).named 2) sizes at_record) ok some_t));
          },
        );
      })
      (λ miss. record {
        known = q;
        status = g.status;
        changes = [];
        placed = [];
        keeps_rule = idle_keeps 1 opens Lists alike confirm_step place z words g q b add pass is sizes;
        tells = λ v _ made. (
          refl,
          record {
            small = sound.small;
            number = λ hit. absurd (miss hit);
            same = λ hit. absurd (miss hit);
            other = λ _. made;
            rises = λ hit _ _. absurd (miss hit);
          },
        );
      }))

  -- The kind of a load at which a walk ends, where this is true of the word.
  abbrev end_kind : Bool → ℕ
  end_kind ending = cond ending end_step load_step

  end_loads : (ending : Bool) → goes_aside (end_kind ending) ≡ false
  end_loads true = refl
  end_loads false = refl

  -- The load of the left link of the record where a walk of a get ends.
  pub ends_walk : (z : Sizes) (slots id place : ℕ) (me : Me Unit ListView) → IsAlone me → me.0.known.own.going ≡ true
      → me.0.known.own.at < 5
      → (slot me.0.known me.0.known.own.at).held ≡ true
      → key_of me.0.known.own.call ≤ (slot me.0.known me.0.known.own.at).key
      → place ≡ cell_place z (slot me.0.known me.0.known.own.at).named 2
      → Allows (Holds 1 opens Lists z) slots id me place (λ n. n) (λ n m'. (m'.1 ≡ []) × Ended place n me.0 m'.0)
  ends_walk z slots id place me lone going lt on le at = let q : ListPass = me.0.known in
      let then : ℕ → Me Unit ListView → Type 0 = λ n m'. (m'.1 ≡ []) × Ended place n me.0 m'.0 in
      allows_by 1 opens Lists z slots id place (λ n. end_kind (eqb (invalid_bit n) 0)) me (λ n. n) (λ n. n) then lone
      (λ n _. refl)
      (λ n bad. absurd (false≢true (sym (end_loads (eqb (invalid_bit n) 0)) ∙ bad))) (λ n _. refl)
      (λ words g b add pass is sizes fits. let n : ℕ = get_or words place 0 in let o = walks_of z words g q b add pass is in
      let loaded = is_loaded z words g q b add pass is sizes place (inr (q.own.at, (0, (lt, omega arith, on, at)))) in
      dite (ℕ_discrete (invalid_bit n) 0)
      (λ ok. subst (λ (b : Bool). Plays 1 opens Lists (end_kind b) place n n z words g me.0 (then n))
      (sym (eq-eqb (invalid_bit n) 0 ok))
      (plays_as 1 opens Lists (λ m'. (m'.1 ≡ []) × (EndsWith q.own end_step place n (found_of q n) me.0 m'.0
      × (log_of m'.0.order ≡ log_of g.order))) (then n)
      (plays_end z words g q b add pass is opens me.0 refl sizes end_step place q.own o refl (found_of q n) going
      (ends_right z words g q b add pass is place n refl going lt le at ok))
      (λ w y. (y.0, record { loaded = loaded; invalid = λ bad. absurd (omega arith); ended = λ _. y.1.0 }))))
      (λ ne. subst (λ (b : Bool). Plays 1 opens Lists (end_kind b) place n n z words g me.0 (then n))
      (sym (ne_eqb (invalid_bit n) 0 ne)) record {
        known = q;
        status = g.status;
        changes = [];
        placed = [];
        keeps_rule = idle_keeps 1 opens Lists alike load_step place z words g q b add pass is sizes;
        tells = λ w _ made. (refl, record { loaded = loaded; invalid = λ _. made; ended = λ ok. absurd (ne ok) });
      }))

  -- the load of the left link of the record where a changing call stands, where it finds INVALID or FLAG
  gathers_on : (z : Sizes) (words : List ℕ) (g : ListState) (v : ListView) (b : Base 1 z words g) (lists : Lists z words g)
      (pass : v.known.number < z.passes) (is : g.of v.known.number ≡ v.known) → v.known.sizes ≡ z → (j place : ℕ) → j < 5
      → (slot v.known j).held ≡ true → place ≡ cell_place z (slot v.known j).named 2
      → (v.known.own.first < 5 → Joined (slot v.known v.known.own.first).named v.known.own.chain (slot v.known j).named)
      → (invalid_bit (get_or words place 0) ≡ 0 → flag_bit (get_or words place 0) ≡ 0 → ⊥)
      → Plays 1 opens Lists load_step place (get_or words place 0) (get_or words place 0) z words g v
      (λ m'. (m'.1 ≡ []) × Gathers j place (get_or words place 0) v m'.0)
  gathers_on z words g v b lists pass is sizes j place lt held at leads never = let q : ListPass = v.known in
      let n : ℕ = get_or words place 0 in
      let loaded = is_loaded z words g q b lists pass is sizes place (inr (j, (0, (lt, omega arith, held, at)))) in
      dite (ℕ_discrete (invalid_bit n) 0)
      (λ ok. let flag : flag_bit n ≡ 1 = flag_or n (never ok) in record {
        known = gathering j n q;
        status = g.status;
        changes = [];
        placed = [];
        keeps_rule = keeps_gathered z words g q j place b lists pass is sizes lt held at leads ok flag opens;
        tells = λ w _ made. (refl, record { loaded = loaded; invalid = λ bad. absurd (omega arith); joins = λ _ _. made });
      })
      (λ bad. record {
        known = q;
        status = g.status;
        changes = [];
        placed = [];
        keeps_rule = idle_keeps 1 opens Lists alike load_step place z words g q b lists pass is sizes;
        tells = λ w _ made. (refl, record { loaded = loaded; invalid = λ _. made; joins = λ ok. absurd (bad ok) });
      })

  -- A changing call passes by a record with a smaller key.
  pub passes_by : (z : Sizes) (slots id j place : ℕ) (me : Me Unit ListView) → IsAlone me → j < 5
      → (slot me.0.known j).held ≡ true
      → place ≡ cell_place z (slot me.0.known j).named 2
      → (me.0.known.own.first < 5 → Joined (slot me.0.known me.0.known.own.first).named me.0.known.own.chain
      (slot me.0.known j).named)
      → Allows (Holds 1 opens Lists z) slots id me place (λ n. n) (λ n m'. (m'.1 ≡ []) × PassesBy j place n me.0 m'.0)
  passes_by z slots id j place me lone lt held at leads = let q : ListPass = me.0.known in
      let then : ℕ → Me Unit ListView → Type 0 = λ n m'. (m'.1 ≡ []) × PassesBy j place n me.0 m'.0 in
      allows 1 opens Lists z slots id place load_step me (λ n. n) (λ n. n) then lone (λ n _. refl)
      (λ n bad. absurd (false≢true bad)) (λ n _. refl)
      (λ words g b add pass is sizes fits. let n : ℕ = get_or words place 0 in let o = walks_of z words g q b add pass is in
      let loaded = is_loaded z words g q b add pass is sizes place (inr (j, (0, (lt, omega arith, held, at)))) in
      let gathers = λ (never : invalid_bit n ≡ 0 → flag_bit n ≡ 0 → ⊥).
      plays_as 1 opens Lists (λ m'. (m'.1 ≡ []) × Gathers j place n me.0 m'.0) (then n)
      (gathers_on z words g me.0 b add pass is sizes j place lt held at leads never)
      (λ w y. (y.0, record { gathers = y.1; anchors = λ ok plain. absurd (never ok plain) })) in
      dite (ℕ_discrete (invalid_bit n) 0)
      (λ ok. dite (ℕ_discrete (flag_bit n) 0)
      (λ plain. plays_as 1 opens Lists (λ m'. (m'.1 ≡ []) × (MadeQuietStep load_step place n n (with_own (anchored q.own) q) me.0 m'.0
      × (log_of m'.0.order ≡ log_of g.order))) (then n)
      (plays_own z words g q b add pass is opens me.0 refl sizes load_step place (anchored q.own) record {
        stands = o.stands;
        since = o.since;
        earlier = o.earlier;
        stood = o.stood;
        gathering = record {
          held = λ bad. absurd (omega arith);
          joined = λ bad. absurd (omega arith);
          intact = λ bad. absurd (omega arith);
        };
      } refl)
      (λ w y. (
        y.0,
        record {
          gathers = record { loaded = loaded; invalid = λ bad. absurd (omega arith); joins = λ _ flag. absurd (omega arith) };
          anchors = λ _ _. y.1.0;
        },
      )))
      (λ ne. gathers (λ _ f. ne f)))
      (λ bad. gathers (λ ok _. bad ok)))

  -- A changing call stops at a record whose key isn't smaller.
  pub stops_at : (z : Sizes) (slots id place : ℕ) (me : Me Unit ListView) → IsAlone me → me.0.known.own.going ≡ true
      → me.0.known.own.at < 5
      → (slot me.0.known me.0.known.own.at).held ≡ true
      → key_of me.0.known.own.call ≤ (slot me.0.known me.0.known.own.at).key
      → place ≡ cell_place z (slot me.0.known me.0.known.own.at).named 2
      → (me.0.known.own.first < 5 → Joined (slot me.0.known me.0.known.own.first).named me.0.known.own.chain
      (slot me.0.known me.0.known.own.at).named)
      → Allows (Holds 1 opens Lists z) slots id me place (λ n. n)
      (λ n m'. (m'.1 ≡ []) × StopsAt me.0.known.own.at place n me.0 m'.0)
  stops_at z slots id place me lone going lt on le at leads = let q : ListPass = me.0.known in let j : ℕ = q.own.at in
      let then : ℕ → Me Unit ListView → Type 0 = λ n m'. (m'.1 ≡ []) × StopsAt j place n me.0 m'.0 in
      let plain_test : ℕ → Bool = λ n. eqb (invalid_bit n) 0 && eqb (flag_bit n) 0 in
      allows_by 1 opens Lists z slots id place (λ n. end_kind (plain_test n)) me (λ n. n) (λ n. n) then lone (λ n _. refl)
      (λ n bad. absurd (false≢true (sym (end_loads (plain_test n)) ∙ bad))) (λ n _. refl)
      (λ words g b add pass is sizes fits. let n : ℕ = get_or words place 0 in let o = walks_of z words g q b add pass is in
      let loaded = is_loaded z words g q b add pass is sizes place (inr (j, (0, (lt, omega arith, on, at)))) in
      let gathers = λ (test : plain_test n ≡ false) (never : invalid_bit n ≡ 0 → flag_bit n ≡ 0 → ⊥).
      subst (λ (b : Bool). Plays 1 opens Lists (end_kind b) place n n z words g me.0 (then n)) (sym test)
      (plays_as 1 opens Lists (λ m'. (m'.1 ≡ []) × Gathers j place n me.0 m'.0) (then n)
      (gathers_on z words g me.0 b add pass is sizes j place lt on at leads never)
      (λ w y. (y.0, record { gathers = y.1; ended = λ ok plain. absurd (never ok plain) }))) in
      dite (ℕ_discrete (invalid_bit n) 0)
      (λ ok. dite (ℕ_discrete (flag_bit n) 0)
      (λ plain. subst (λ (b : Bool). Plays 1 opens Lists (end_kind b) place n n z words g me.0 (then n))
      (sym (both_true (eqb (invalid_bit n) 0) (eqb (flag_bit n) 0) (eq-eqb (invalid_bit n) 0 ok) (eq-eqb (flag_bit n) 0 plain)))
      (plays_as 1 opens Lists (λ m'. (m'.1 ≡ []) × (EndsWith q.own end_step place n (found_of q n) me.0 m'.0
      × (log_of m'.0.order ≡ log_of g.order))) (then n)
      (plays_end z words g q b add pass is opens me.0 refl sizes end_step place q.own o refl (found_of q n) going
      (ends_right z words g q b add pass is place n refl going lt le at ok))
      (λ w y. (
        y.0,
        record {
          gathers = record { loaded = loaded; invalid = λ bad. absurd (omega arith); joins = λ _ flag. absurd (omega arith) };
          ended = λ _ _. y.1.0;
        },
      ))))
      (λ ne. gathers (one_false (eqb (invalid_bit n) 0) (eqb (flag_bit n) 0) (inr (ne_eqb (flag_bit n) 0 ne))) (λ _ f. ne f)))
      (λ bad. gathers (one_false (eqb (invalid_bit n) 0) (eqb (flag_bit n) 0) (inl (ne_eqb (invalid_bit n) 0 bad)))
      (λ ok _. bad ok)))
    where
      both_true : (a b : Bool) → a ≡ true → b ≡ true → (a && b) ≡ true
      both_true true true x y = refl
      both_true true false x y = absurd (false≢true y)
      both_true false b x y = absurd (false≢true x)

      one_false : (a b : Bool) → (a ≡ false) ⊎ (b ≡ false) → (a && b) ≡ false
      one_false false b x = refl
      one_false true false x = refl
      one_false true true (inl x) = absurd (false≢true (sym x))
      one_false true true (inr x) = absurd (false≢true (sym x))
