-- The first load of a link, and the second, which confirms what was announced.
use Rattle.std.proofs.Common.{◌≡◌, ◌≢◌, ℕ, suc, ◌+◌, ◌<◌, Bool, true, false, cond, ◌&&◌, List, [], ◌∷◌, length, get_or}
use Rattle.std.proofs.Common.{refl, sym, ap, ◌∙◌, subst, inl, inr, ⊎_elim, arith}
use Rattle.std.proofs.Math.Bool.{false≢true}
use Rattle.std.proofs.Math.Decide.{ℕ_discrete}
use mathlib.Core.Logic.{dite}
use Rattle.atomic_table.specs.Table.{Me, Allows}
use Rattle.pp_link.specs.declared.layout.Sizes.{Sizes}
use Rattle.pp_link.specs.Links.{target, invalid_bit}
use Rattle.pp_link.specs.Places.{IsNumber, head_place, cell_place}
use Rattle.pp_link.specs.Words.{cell_word}
use Rattle.pp_rule.specs.Orders.{LoggedStep, load_step, confirm_step}
use Rattle.pp_rule.specs.Views.{halves, WalkSlot, PassState, SeatView, slot}
use Rattle.pp_rule.specs.States.{PoolState, IsUsed, IsFrozen, Keeps, Held}
use Rattle.pp_rule.specs.Rule.{Base}
use Rattle.pp_rule.specs.Ties.{Holds}
use Rattle.pp_rule.specs.Steps.{entry, IsAlone, MadeQuietStep, with_walk, learning, holding, IsSource, LoadedLink, Confirmed}
use Rattle.pp_rule.specs.Looks.{HoldsOn}
use Rattle.pp_rule.specs.Laws.{KeptAlike, Freezes}
use Rattle.pp_rule.proofs.Put.{in_nil, in_cases}
use Rattle.pp_rule.proofs.Slots.{WalkSet, holds_on_free, holds_on_same}
use Rattle.pp_rule.proofs.Stepping.{after_step, KeepsRule, allows}
use Rattle.pp_rule.proofs.Frames.{content_used, same_content, Unscanned}
use Rattle.pp_rule.proofs.Keeping.{was_unscanned, looks_after, load_keeps, idle_keeps}
use Rattle.pp_rule.proofs.WalkWords.{walk_set, base_walk_learnt}
use Rattle.pp_rule.proofs.Sources.{Sound, source_sound}

-- the slot, of whose record one link more was learnt
abbrev pub learnt_of : ℕ → ℕ → WalkSlot → WalkSlot
learnt_of side word w = record w { learnt = (side, word) ∷ w.learnt }

-- what a pass knows once it found this word at a source: where it is frozen and a held record's link, it is learnt
abbrev pub learning_from : {W : Type 0} (sides : ℕ) (z : Sizes) (place : ℕ) → (ℕ → Bool) → (q : PassState W)
    → IsSource sides z q place → ℕ
    → PassState W
learning_from sides z place frozen q (inl s) word = q
learning_from sides z place frozen q (inr s) word = learning frozen s.0 s.1.0 word q

module _ {E A W : Type 0} (sides : ℕ) (z : Sizes) (words : List ℕ) (g : PoolState E A W) (q q' : PassState W) (i : ℕ)
    (s : LoggedStep E A) where
  -- The frozen word of a link of the held record is learnt.
  pub base_link_learnt : (side : ℕ) → Base sides z words g → q.number < z.passes → g.of q.number ≡ q → i < 5 → (slot q i).held ≡ true
      → side < sides
      → IsFrozen (cell_word words z (slot q i).named (2 + side)) → WalkSet i (learnt_of side (cell_word words z (slot q i).named (2 + side))
      (slot q i)) q q'
      → Base sides z words (after_step g q' g.status s)
  base_link_learnt side b pass is lt on below frozen is_set =
      let w : WalkSlot = slot q i in
      let word : ℕ = cell_word words z w.named (2 + side) in
      let held : Held z words g.status w = subst (λ (v : PassState W). (slot v i).held ≡ true → Held z words g.status (slot v i)) is
      (b.hazards.held q.number i pass lt) on in
      let two : side < 2 = let most = b.two in omega arith in
      base_walk_learnt sides z words g q q' i (learnt_of side word w) s b pass is lt is_set refl
      (λ on. record {
        number = held.number;
        used = held.used;
        key = held.key;
        value = held.value;
        learnt = λ l i. ⊎_elim
            (λ (e : l ≡ (side, word)). subst (λ (l : ℕ × ℕ). (l.0 < 2) × Keeps l.1 (cell_word words z w.named (2 + l.0))
            × IsFrozen l.1) (sym e) (
              two,
              record { same = record { target_is = refl; flag_is = refl; leaf_is = refl }; tag = λ e. e },
              frozen,
            ))
            (held.learnt l) (in_cases l (side, word) w.learnt i);
      })
      (λ on r m low left read. subst (λ (v : PassState W). (slot v i).held ≡ true → Unscanned z g.of q.number v i (slot v i).named) is
      (was_unscanned sides z words g q.number i b pass lt) on r m low left read)

  -- The word of a source is found as it was when the record that it leads to was announced: the record is held.
  pub base_confirmed : (place : ℕ) → Base sides z words g → q.number < z.passes → g.of q.number ≡ q → i < 5 → IsSource sides z q place
      → invalid_bit (get_or words place 0) ≡ 0 → target (get_or words place 0) ≢ 0 → (slot q i).named ≡ target (get_or words place 0)
      → WalkSet i (holding (target (get_or words place 0)) (cell_word words z (target (get_or words place 0)) 0)
      (halves (cell_word words z (target (get_or words place 0)) 1) (cell_word words z (target (get_or words place 0)) 4))) q q'
      → Base sides z words (after_step g q' g.status s)
  base_confirmed place b pass is lt source valid real named is_set =
      let n : ℕ = target (get_or words place 0) in
      let sound : Sound z g.of g.status (get_or words place 0) = source_sound sides z words g q place b pass is source in
      let to : IsNumber z n × IsUsed (g.status n) = ⊎_elim (λ (nil : n ≡ 0). absurd (real nil)) (λ (t : IsNumber z n
      × IsUsed (g.status n)). t) (sound.to valid) in
      base_walk_learnt sides z words g q q' i
      (holding n (cell_word words z n 0) (halves (cell_word words z n 1) (cell_word words z n 4))) s b pass is lt is_set
      (sym named)
      (λ on. record { number = to.0; used = to.1; key = refl; value = refl; learnt = λ l at. absurd (in_nil l at) })
      (λ on r m low left read. sound.unscanned valid r m low left (omega arith))

module _ {E A W : Type 0} (sides : ℕ) (opens : Sizes → List ℕ) (addition : Sizes → List ℕ → PoolState E A W
    → Type 0) (alike : KeptAlike sides addition) where
  -- The link of a head may be loaded.
  pub loads_head : (z : Sizes) (slots id place head : ℕ) (me : Me Unit (SeatView E A W)) → IsAlone me → head < z.heads
      → place ≡ head_place z head
      → Allows (Holds sides opens addition z) slots id me place (λ n. n) (λ n m'. (m'.1 ≡ []) × LoadedLink me.0.known n place me.0 m'.0)
  loads_head z slots id place head me lone low at = let q : PassState W = me.0.known in
      allows sides opens addition z slots id place load_step me (λ n. n) (λ n. n) (λ n m'. (m'.1 ≡ []) × LoadedLink q n place me.0 m'.0)
      lone (λ m no. refl) (λ m bad. absurd (false≢true bad)) (λ m _. refl)
      (λ words g b add pass is sizes fits. let n : ℕ = get_or words place 0 in
      let sound : Sound z g.of g.status n = source_sound sides z words g q place b pass is (inl (head, (low, at))) in record {
        known = q;
        status = g.status;
        changes = [];
        placed = [];
        keeps_rule = idle_keeps sides opens addition alike load_step place z words g q b add pass is sizes;
        tells = λ v is_now made. (
          refl,
          record {
            made = made;
            small = sound.small;
            to = λ valid. ⊎_elim inl (λ (t : IsNumber z (target n) × IsUsed (g.status (target n))). inr (subst (λ (y : Sizes). IsNumber y
                (target n)) (sym sizes) t.0)) (sound.to valid);
          },
        );
      })

  module _ (frozen : ℕ → Bool) (freezes : Freezes frozen) (z : Sizes) where
    -- The link of a held record is found, and where it is frozen it is learnt.
    learns : (kind place i side : ℕ) (words : List ℕ) (g : PoolState E A W) (q : PassState W) → Base sides z words g
        → addition z words g
        → q.number < z.passes
        → g.of q.number ≡ q → q.sizes ≡ z → i < 5 → side < sides → place ≡ cell_place z (slot q i).named (2 + side) → (f h : Bool)
        → (f ≡ true → IsFrozen (get_or words place 0)) → h ≡ (slot q i).held → (slot q i).held ≡ true
        → KeepsRule sides opens addition kind place (get_or words place 0) (get_or words place 0) z words g q
        (cond (f && h) (with_walk i (learnt_of side (get_or words place 0) (slot q i)) q) q) g.status [] []
    unfolding cell_word
    learns kind place i side words g q b add pass is sizes lt below at false h frozen_is same on =
        idle_keeps sides opens addition alike kind place z words g q b add pass is sizes
    learns kind place i side words g q b add pass is sizes lt below at true false frozen_is same on =
        absurd (false≢true (same ∙ on))
    learns kind place i side words g q b add pass is sizes lt below at true true frozen_is same on =
        let n : ℕ = get_or words place 0 in
        let w : WalkSlot = learnt_of side n (slot q i) in
        let q' : PassState W = with_walk i w q in
        let e : LoggedStep E A = entry kind place n n [] [] g.order q' in
        let word : n ≡ get_or words (cell_place z (slot q i).named (2 + side)) 0 = ap (λ (k : ℕ). get_or words k 0) at in
        let b' : Base sides z words (after_step g q' g.status e) = base_link_learnt sides z words g q q' i e side b pass is lt on below
        (subst IsFrozen word (frozen_is refl)) (subst (λ (k : ℕ). WalkSet i (learnt_of side k (slot q i)) q q') word (walk_set i w q)) in
        let five : length q.walk ≡ 5 = ap (λ (v : PassState W). length v.walk) (sym is) ∙ b.hazards.five q.number pass in
        let deep : i < length q.walk = omega arith in
        load_keeps sides opens addition kind place z words g q q' g.status [] [] refl sizes b'
        (alike z words words g (after_step g q' g.status e) b b' (looks_after sides z words words g q' e
        (content_used z g.status words words (same_content z words)) refl refl
        record {
          own = sym (ap (λ v. v.own) is);
          holds = subst (λ (v : PassState W). HoldsOn v q') (sym is)
              (holds_on_same q q' i w refl deep
              (λ h. record { held = h; named = refl; key = refl; value = refl; learnt = λ l m. (suc m.0, m.1) }));
        }) add)

    -- A word is found at a source, and learnt where it is frozen.
    pub source_learns : (kind place : ℕ) (words : List ℕ) (g : PoolState E A W) (q : PassState W) → Base sides z words g
        → addition z words g → q.number < z.passes → g.of q.number ≡ q → q.sizes ≡ z → (source : IsSource sides z q place)
        → KeepsRule sides opens addition kind place (get_or words place 0) (get_or words place 0) z words g q
        (learning_from sides z place frozen q source (get_or words place 0)) g.status [] []
    source_learns kind place words g q b add pass is sizes (inl s) =
        idle_keeps sides opens addition alike kind place z words g q b add pass is sizes
    source_learns kind place words g q b add pass is sizes (inr s) =
        learns kind place s.0 s.1.0 words g q b add pass is sizes s.1.1.0 s.1.1.1
        s.1.1.3 (frozen (get_or words place 0)) (slot q s.0).held (freezes (get_or words place 0)) refl s.1.1.2

    pub loads_held : (slots id place i side : ℕ) (me : Me Unit (SeatView E A W)) → IsAlone me → i < 5 → side < sides
        → (slot me.0.known i).held ≡ true → place ≡ cell_place z (slot me.0.known i).named (2 + side)
        → Allows (Holds sides opens addition z) slots id me place (λ n. n)
        (λ n m'. (m'.1 ≡ []) × LoadedLink (learning frozen i side n me.0.known) n place me.0 m'.0)
    loads_held slots id place i side me lone lt below on at = let q : PassState W = me.0.known in
        allows sides opens addition z slots id place load_step me (λ n. n) (λ n. n) (λ n m'. (m'.1 ≡ [])
        × LoadedLink (learning frozen i side n q) n place me.0 m'.0)
        lone (λ m no. refl) (λ m bad. absurd (false≢true bad)) (λ m _. refl)
        (λ words g b add pass is sizes fits. let n : ℕ = get_or words place 0 in
        let sound : Sound z g.of g.status n = source_sound sides z words g q place b pass is (inr (
          i,
          (
            side,
            (lt, below, on, at),
          ),
        )) in record {
          known = learning frozen i side n q;
          status = g.status;
          changes = [];
          placed = [];
          keeps_rule = learns load_step place i side words g q b add pass is sizes lt below at (frozen n)
              (slot q i).held (freezes n) refl on;
          tells = λ v is_now made. (
            refl,
            record {
              made = made;
              small = sound.small;
              to = λ valid. ⊎_elim inl (λ (t : IsNumber z (target n) × IsUsed (g.status (target n))). inr (subst (λ (y : Sizes). IsNumber y
                  (target n)) (sym sizes) t.0)) (sound.to valid);
            },
          );
        })

    -- The second load of a link confirms what was announced where the link is as it was: the record is held.
    pub confirms : (slots id place i first : ℕ) (me : Me Unit (SeatView E A W)) → IsAlone me → i < 5
        → (slot me.0.known i).held ≡ false
        → (slot me.0.known i).named ≡ target first → invalid_bit first ≡ 0 → target first ≢ 0
        → (source : IsSource sides z me.0.known place)
        → Allows (Holds sides opens addition z) slots id me place (λ n. n)
        (λ n m'. (m'.1 ≡ []) × Confirmed i first n place (learning_from sides z place frozen me.0.known source n) me.0 m'.0)
    confirms slots id place i first me lone lt free named valid real source = let q : PassState W = me.0.known in
        allows sides opens addition z slots id place confirm_step me (λ n. n) (λ n. n) (λ n m'.
        (m'.1 ≡ []) × Confirmed i first n place (learning_from sides z place frozen q source n) me.0 m'.0)
        lone (λ m no. refl) (λ m bad. absurd (false≢true bad)) (λ m _. refl)
        (λ words g b add pass is sizes fits. let n : ℕ = get_or words place 0 in
        let sound : Sound z g.of g.status n = source_sound sides z words g q place b pass is source in dite (ℕ_discrete n first)
        (λ e. let t : ℕ = target n in
        let w : WalkSlot = holding t (cell_word words z t 0) (halves (cell_word words z t 1) (cell_word words z t 4)) in
        let q' : PassState W = with_walk i w q in
        let s : LoggedStep E A = entry confirm_step place n n [] [] g.order q' in
        let same : t ≡ target first = ap target e in
        let b' : Base sides z words (after_step g q' g.status s) =
        base_confirmed sides z words g q q' i s place b pass is lt source
        (ap invalid_bit e ∙ valid)
        (λ nil. real (sym same ∙ nil)) (named ∙ sym same) (walk_set i w q) in
        let to : IsNumber z t = ⊎_elim (λ (nil : t ≡ 0). absurd (real (sym same ∙ nil))) (λ (t : IsNumber z (target n)
        × IsUsed (g.status (target n))). t.0)
        (sound.to (ap invalid_bit e ∙ valid)) in record {
          known = q';
          status = g.status;
          changes = [];
          placed = [];
          keeps_rule = load_keeps sides opens addition confirm_step place z words g q q' g.status [] [] refl sizes b'
              (alike z words words g (after_step g q' g.status s) b b' (looks_after sides z words words g q' s
              (content_used z g.status words words (same_content z words)) refl refl
              record {
                own = sym (ap (λ v. v.own) is);
                holds = subst (λ (v : PassState W). HoldsOn v q') (sym is)
                    (holds_on_free q q' i w refl free);
              }) add);
          tells = λ v is_now made. (
            refl,
            record {
              small = sound.small;
              number = λ _. subst (λ (k : ℕ). IsNumber q.sizes k) same (subst (λ (y : Sizes). IsNumber y t) (sym sizes) to);
              same = λ _. (
                cell_word words z t 0,
                (
                  halves (cell_word words z t 1) (cell_word words z t 4),
                  subst (λ (k : ℕ). MadeQuietStep confirm_step place n n
                      (with_walk i (holding k (cell_word words z t 0) (halves (cell_word words z t 1) (cell_word words z t 4)))
                      q) me.0 v) same made,
                ),
              );
              other = λ ne. absurd (ne e);
            },
          );
        })
        (λ ne. record {
          known = learning_from sides z place frozen q source n;
          status = g.status;
          changes = [];
          placed = [];
          keeps_rule = source_learns confirm_step place words g q b add pass is sizes source;
          tells = λ v is_now made. (
            refl,
            record {
              small = sound.small;
              number = λ e. absurd (ne e);
              same = λ e. absurd
                  (ne e);
              other = λ _. made;
            },
          );
        }))
