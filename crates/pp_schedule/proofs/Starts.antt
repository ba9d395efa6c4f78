-- How much of the log a call had seen at its first step: the changes that took effect in the turns before.
use Rattle.std.proofs.Common.{◌≡◌, ℕ, zero, suc, ◌+◌, ◌<◌, ◌≤◌, List, [], ◌∷◌, ◌++◌, length}
use Rattle.std.proofs.Common.{⊎_elim, refl, sym, ap, ◌∙◌, subst, arith, append_assoc}
use Rattle.std.proofs.lemmas.Bool.{cases_lt}
use Rattle.pp_model.specs.declared.Change.{Change}
use Rattle.pp_model.specs.declared.Call.{Call}
use Rattle.pp_model.specs.declared.Reply.{Reply}
use Rattle.pp_model.specs.declared.steps.Step.{Step}
use Rattle.pp_model.specs.declared.steps.OrderEntry.{OrderEntry}
use Rattle.pp_model.specs.Lists.{AtEach, upto, RisesFrom}
use Rattle.pp_model.specs.Calls.{reply}
use Rattle.pp_model.specs.History.{after}
use Rattle.pp_model.specs.Pass.{PassView, steps_since, seen_first}
use Rattle.pp_model.specs.MapCalls.{Grew}
use Rattle.pp_schedule.specs.Schedule.{State, Turn, Runs, stop, more, places_in_turn, Closed, Opens}
use Rattle.pp_schedule.proofs.Orders.{prefix_length}
use Rattle.pp_schedule.proofs.Logs.{Has, split_has, places_rise, changes_in_turns, effect_within}

pub runs_on : (least : ℕ) (s t u : State) (xs ys : List Turn) → Runs least s xs t → Runs least t ys u → Runs least s (xs ++ ys) u
runs_on least s t u xs ys (stop _) later = later
runs_on least s t u xs ys (more _ m _ turn rest one runs) later = more s m u turn (rest ++ ys) one
    (runs_on least m t u rest ys runs later)

pub places_on : (xs ys : List Turn) → places_in_turn (xs ++ ys) ≡ places_in_turn xs ++ places_in_turn ys
places_on [] ys = refl
places_on (t ∷ xs) ys = ap (λ zs. t.places ++ zs) (places_on xs ys) ∙ sym (append_assoc t.places (places_in_turn xs) (places_in_turn ys))

told_grows : (least : ℕ) (s t : State) (xs : List Turn) → Runs least s xs t → s.told.seen ≤ t.told.seen
told_grows least s t xs (stop _) = omega arith
told_grows least s t xs (more _ m _ turn rest one runs) =
    let a = one.advances in
    omega (arith, told_grows least m t rest runs, a.told_seen, prefix_length a.ready.seen one.now.seen a.seen, one.told_seen)

-- each change that took effect so far was told
places_told : (least : ℕ) (s t : State) (xs : List Turn) → Runs least s xs t → (x : ℕ) → Has (places_in_turn xs) x → x ≤ t.told.seen
places_told least s t xs (stop _) x h = absurd cc
places_told least s t xs (more _ m _ turn rest one runs) x h =
    let a = one.advances in
    ⊎_elim
    (λ (here : Has turn.places x).
    omega (arith, effect_within a.ready one.now turn.places a.effect x here, one.told_seen, told_grows least m t rest runs))
    (λ (later : Has (places_in_turn rest) x). places_told least m t rest runs x later)
    (split_has turn.places (places_in_turn rest) x h)

-- a range that is parted at n is parted after n numbers
parted : (count low n : ℕ) (xs ys : List ℕ) → xs ++ ys ≡ upto low count → ((x : ℕ) → Has xs x → x < low + n) → RisesFrom (low + n) ys
    → n ≤ count → length xs ≡ n
parted zero low n [] ys is below above le = omega (arith, le)
parted zero low n (x ∷ xs) ys is below above le = absurd (omega (arith, ap length is))
parted (suc count) low zero [] ys is below above le = refl
parted (suc count) low (suc n) [] [] is below above le = absurd (omega (arith, ap length is))
parted (suc count) low (suc n) [] (y ∷ ys) is below above le =
    absurd (let first : y ≡ low = cc in omega (arith, first, above.0))
parted (suc count) low zero (x ∷ xs) ys is below above le =
    absurd (let first : x ≡ low = cc in let b = below x (0, refl) in omega (arith, b, first))
parted (suc count) low (suc n) (x ∷ xs) ys is below above le =
    let rest : xs ++ ys ≡ upto (low + 1) count = cc in
    let e : low + suc n ≡ low + 1 + n = omega arith in
    let ih = parted count (low + 1) n xs ys rest (λ z h. let b = below z (suc h.0, h.1) in omega (arith, b))
    (subst (λ (k : ℕ). RisesFrom k ys) e above) (omega (arith, le)) in
    omega (arith, ih)

module _ (least : ℕ) (last : State) (log : List Change) (order : List (OrderEntry Change)) (closed : Closed last.passes log order) where
  -- The pass that made the last turn has seen as many changes as took effect so far.
  pub seen_counts : (first s : State) (done rest : List Turn) → Opens first → Runs least first done s → Runs least s rest last
      → length first.passes ≡ length last.passes → s.told.seen ≤ length log → length (places_in_turn done) ≡ s.told.seen
  seen_counts first s done rest opens before later as_many le =
      let all = changes_in_turns least last log order closed first (done ++ rest) opens
      (runs_on least first s last done rest before later) as_many in
      let rises : RisesFrom (s.told.seen + 1) (places_in_turn rest) = places_rise least last log order closed s rest later in
      let e : s.told.seen + 1 ≡ 1 + s.told.seen = omega arith in
      parted (length log) 1 s.told.seen (places_in_turn done) (places_in_turn rest) (sym (places_on done rest) ∙ all)
      (λ x h. let t = places_told least first s done before x h in omega (arith, t))
      (subst (λ (k : ℕ). RisesFrom k (places_in_turn rest)) e rises) le

-- The first step of a turn that saw no change saw what the pass had seen before.
pub first_saw : (before now : PassView) (d : ℕ) → Grew before now → 1 ≤ length (steps_since before now)
    → length now.seen ≡ length before.seen → seen_first d (steps_since before now) ≡ length before.seen
first_saw before now d grew some same = by (steps_since before now) grew.saw some
  where
    by : (xs : List Step) → AtEach xs (λ k s. (length before.seen ≤ s.seen) × (s.seen ≤ length now.seen)) → 1 ≤ length xs
        → seen_first d xs ≡ length before.seen
    by [] saw some = absurd (omega (arith, some))
    by (x ∷ xs) saw some = let h = saw 0 x refl in omega (arith, h.0, h.1, same)

-- A call that changes nothing has one place: the least from its start on at which the reply is right.
pub one_place : (log : List Change) (start : ℕ) (call : Call) (r : Reply) (p q : ℕ) → start ≤ p → start ≤ q
    → reply (after log p) call ≡ r → reply (after log q) call ≡ r
    → ((k : ℕ) → start ≤ k → k < p → reply (after log k) call ≡ r → ⊥) → ((k : ℕ) → start ≤ k → k < q → reply (after log k) call ≡ r → ⊥)
    → p ≡ q
one_place log start call r p q from_p from_q right_p right_q least_p least_q =
    ⊎_elim
    (λ (lt : p < q). absurd (least_q p from_p lt right_p))
    (λ (ge : q ≤ p).
    ⊎_elim
    (λ (lt : q < p). absurd (least_p q from_q lt right_q))
    (λ (le : p ≤ q). omega (arith, le, ge))
    (cases_lt q p))
    (cases_lt p q)
