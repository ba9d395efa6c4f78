-- The changes stand in the log in the order of the turns in which they took effect.
use Rattle.std.proofs.Common.{◌≡◌, ℕ, zero, suc, ◌+◌, ◌<◌, ◌≤◌, true, List, [], ◌∷◌, ◌++◌, length}
use Rattle.std.proofs.Common.{Some, ⊎_elim, ◌⊎◌, inl, inr, refl, sym, ap, ◌∙◌, subst, arith}
use Rattle.std.proofs.Common.{eq-eqb}
use Rattle.std.specs.Prelude.{slice_get, nat_eq}
use Rattle.std.proofs.lemmas.Bool.{cases_eq, cases_Bool}
use Rattle.std.proofs.lemmas.Option.{slice_get_within}
use Rattle.pp_model.specs.declared.Change.{Change}
use Rattle.pp_model.specs.declared.steps.OrderEntry.{OrderEntry}
use Rattle.pp_model.specs.Lists.{IsPrefix, RisesFrom, upto}
use Rattle.pp_model.specs.History.{places_of, places_from}
use Rattle.pp_model.specs.Pass.{PassView}
use Rattle.pp_model.proofs.Histories.{slice_get-append_left, slice_get-append_right, slice_get_push}
use Rattle.pp_model.proofs.Chains.{IsPrefix-trans}
use Rattle.pp_schedule.specs.Schedule.{Effect, none, struck, State, Turn, Runs, stop, more, places_in_turn}
use Rattle.pp_schedule.specs.Schedule.{Closed, Opens}
use Rattle.pp_schedule.proofs.Orders.{prefix_length, within_get}

-- a number stands in a list
abbrev pub Has : List ℕ → ℕ → Type 0
Has xs x = (k : ℕ) × (slice_get xs k ≡ Some x)

has_left : (xs ys : List ℕ) (x : ℕ) → Has xs x → Has (xs ++ ys) x
has_left xs ys x h = (h.0, slice_get-append_left xs ys h.0 (slice_get_within xs h.0 x h.1) ∙ h.1)

has_right : (xs ys : List ℕ) (x : ℕ) → Has ys x → Has (xs ++ ys) x
has_right xs ys x h = (length xs + h.0, slice_get-append_right xs ys h.0 ∙ h.1)

rises_weaker : (low high : ℕ) (xs : List ℕ) → low ≤ high → RisesFrom high xs → RisesFrom low xs
rises_weaker low high [] le rises = tt
rises_weaker low high (x ∷ xs) le rises = (omega (arith, le, rises.0), rises.1)

rises_above : (low : ℕ) (xs : List ℕ) → RisesFrom low xs → (x : ℕ) → Has xs x → low ≤ x
rises_above low [] rises x h = absurd cc
rises_above low (y ∷ xs) rises x (zero, e) =
    let same : y ≡ x = cc in
    omega (arith, rises.0, same)
rises_above low (y ∷ xs) rises x (suc k, e) =
    let above = rises_above (y + 1) xs rises.1 x (k, e) in
    omega (arith, above, rises.0)

-- numbers that rise strictly, and are all of a range, are that range
pub rising_full : (count low : ℕ) (xs : List ℕ) → RisesFrom low xs → ((x : ℕ) → Has xs x → x < low + count)
    → ((k : ℕ) → k < count → Has xs (low + k)) → xs ≡ upto low count
rising_full zero low [] rises within full = refl
rising_full zero low (x ∷ xs) rises within full = absurd (omega (arith, rises.0, within x (0, refl)))
rising_full (suc count) low [] rises within full = absurd (let h = full 0 (omega arith) in cc)
rising_full (suc count) low (x ∷ xs) rises within full =
    let first = full 0 (omega arith) in
    let here : x ≡ low =
    ⊎_elim
    (λ (same : x ≡ low). same)
    (λ (other : x ≡ low → ⊥). absurd (off first other))
    (cases_eq x low) in
    let rises' : RisesFrom (low + 1) xs = subst (λ (n : ℕ). RisesFrom (n + 1) xs) here rises.1 in
    let tail = rising_full count (low + 1) xs rises' (λ y h. omega (arith, within y (suc h.0, h.1)))
    (λ k l. next k (full (suc k) (omega arith)) rises' here) in
    ap (λ n. n ∷ xs) here ∙ ap (λ ys. low ∷ ys) tail
  where
    off : Has (x ∷ xs) (low + 0) → (x ≡ low → ⊥) → ⊥
    off (zero, e) other = other (let same : x ≡ low + 0 = cc in omega (arith, same))
    off (suc k, e) other =
        let above = rises_above (x + 1) xs rises.1 (low + 0) (k, e) in
        omega (arith, above, rises.0)

    next : (k : ℕ) → Has (x ∷ xs) (low + suc k) → RisesFrom (low + 1) xs → x ≡ low → Has xs (low + 1 + k)
    next k (zero, e) r here = absurd (let same : x ≡ low + suc k = cc in omega (arith, same, here))
    next k (suc j, e) r here =
        let to : low + suc k ≡ low + 1 + k = omega arith in
        (j, e ∙ ap (λ n. Some n) to)

-- the places of a caller's changes are all there
places_has : (p caller : ℕ) (log : List Change) (k : ℕ) (c : Change) → slice_get log k ≡ Some c → c.caller ≡ caller
    → Has (places_from p caller log) (p + k + 1)
places_has p caller [] k c at is = absurd cc
places_has p caller (d ∷ log) zero c at is =
    let same : d.caller ≡ caller = cc in
    let test : nat_eq d.caller caller ≡ true = eq-eqb d.caller caller same in
    let e : p + 1 ≡ p + 0 + 1 = omega arith in
    rw test (0, ap (λ n. Some n) e)
places_has p caller (d ∷ log) (suc k) c at is =
    let ih = places_has (p + 1) caller log k c at is in
    let e : p + 1 + k + 1 ≡ p + suc k + 1 = omega arith in
    let ih' : Has (places_from (p + 1) caller log) (p + suc k + 1) = (ih.0, ih.1 ∙ ap (λ n. Some n) e) in
    ⊎_elim
    (λ test. rw test (suc ih'.0, ih'.1))
    (λ test. rw test ih')
    (cases_Bool (nat_eq d.caller caller))

-- a change that took effect in a turn lies above what was seen before it and in what was seen after it
effect_rises : (before now : PassView) (places rest : List ℕ) → Effect before now places → IsPrefix before.seen now.seen
    → RisesFrom (length now.seen + 1) rest → RisesFrom (length before.seen + 1) (places ++ rest)
effect_rises before now places rest (none same) grew rises =
    rises_weaker (length before.seen + 1) (length now.seen + 1) rest (omega (arith, prefix_length before.seen now.seen grew)) rises
effect_rises before now places rest (struck place mine above within) grew rises =
    (omega (arith, above), rises_weaker (place + 1) (length now.seen + 1) rest (omega (arith, within)) rises)

pub effect_within : (before now : PassView) (places : List ℕ) → Effect before now places → (x : ℕ) → Has places x → x ≤ length now.seen
effect_within before now places (none same) x h = absurd cc
effect_within before now places (struck place mine above within) x (zero, e) =
    let same : place ≡ x = cc in omega (arith, same, within)
effect_within before now places (struck place mine above within) x (suc k, e) = absurd cc

effect_has : (before now : PassView) (places : List ℕ) → Effect before now places → (x : ℕ) → Has (places_of now.mine) x
    → Has (places_of before.mine) x ⊎ Has places x
effect_has before now places (none same) x h = inl (h.0, ap (λ (xs : List ℕ). slice_get xs h.0) (sym same) ∙ h.1)
effect_has before now places (struck place mine above within) x h =
    ⊎_elim
    (λ old. inl (h.0, old))
    (λ new. inr (0, ap (λ n. Some n) (sym new.1)))
    (slice_get_push (places_of before.mine) place h.0 x (ap (λ (xs : List ℕ). slice_get xs h.0) (sym mine) ∙ h.1))

pub split_has : (xs ys : List ℕ) (x : ℕ) → Has (xs ++ ys) x → Has xs x ⊎ Has ys x
split_has [] ys x h = inr h
split_has (y ∷ xs) ys x (zero, e) = inl (0, e)
split_has (y ∷ xs) ys x (suc k, e) = ⊎_elim (λ (h : Has xs x). inl (suc h.0, h.1)) inr (split_has xs ys x (k, e))

module _ (least : ℕ) (last : State) (log : List Change) (order : List (OrderEntry Change)) (closed : Closed last.passes log order) where
  -- each pass's log begins the whole one
  pub logs_begin : (s : State) (turns : List Turn) → Runs least s turns last → (d : ℕ) (p : PassView) → slice_get s.passes d ≡ Some p
      → IsPrefix p.seen log
  logs_begin s turns (stop _) d p at = closed.own_seen d p at
  logs_begin s turns (more _ t _ turn rest one runs) d p at =
      ⊎_elim
      (λ (same : d ≡ turn.caller).
      let a = one.advances in
      let is_was : one.was ≡ p = cc in
      let later = logs_begin t rest runs turn.caller one.now one.is_now in
      let all = IsPrefix-trans one.was.seen one.now.seen log
      (IsPrefix-trans one.was.seen a.ready.seen one.now.seen a.learnt_seen a.seen) later in
      subst (λ (x : PassView). IsPrefix x.seen log) is_was all)
      (λ (other : d ≡ turn.caller → ⊥). logs_begin t rest runs d p (one.others d other ∙ at))
      (cases_eq d turn.caller)

  pub places_rise : (s : State) (turns : List Turn) → Runs least s turns last → RisesFrom (s.told.seen + 1) (places_in_turn turns)
  places_rise s turns (stop _) = tt
  places_rise s turns (more _ t _ turn rest one runs) =
      let a = one.advances in
      let later : RisesFrom (length one.now.seen + 1) (places_in_turn rest) =
      subst (λ (n : ℕ). RisesFrom (n + 1) (places_in_turn rest)) one.told_seen (places_rise t rest runs) in
      rises_weaker (s.told.seen + 1) (length a.ready.seen + 1) (turn.places ++ places_in_turn rest) (omega (arith, a.told_seen))
      (effect_rises a.ready one.now turn.places (places_in_turn rest) a.effect a.seen later)

  places_within : (s : State) (turns : List Turn) → Runs least s turns last → (x : ℕ) → Has (places_in_turn turns) x → x ≤ length log
  places_within s turns (stop _) x h = absurd cc
  places_within s turns (more _ t _ turn rest one runs) x h =
      let a = one.advances in
      let begins = logs_begin t rest runs turn.caller one.now one.is_now in
      ⊎_elim
      (λ (here : Has turn.places x).
      let le = effect_within a.ready one.now turn.places a.effect x here in
      omega (arith, le, prefix_length one.now.seen log begins))
      (λ (later : Has (places_in_turn rest) x). places_within t rest runs x later)
      (split_has turn.places (places_in_turn rest) x h)

  -- a caller's change stood in its list before, or took effect in one of the turns
  places_come : (s : State) (turns : List Turn) → Runs least s turns last → (d : ℕ) (p q : PassView) → slice_get s.passes d ≡ Some p
      → slice_get last.passes d ≡ Some q → (x : ℕ) → Has (places_of q.mine) x → Has (places_of p.mine) x ⊎ Has (places_in_turn turns) x
  places_come s turns (stop _) d p q at at_last x h =
      let same : p ≡ q = cc in
      inl (subst (λ (y : PassView). Has (places_of y.mine) x) (sym same) h)
  places_come s turns (more _ t _ turn rest one runs) d p q at at_last x h =
      let a = one.advances in
      ⊎_elim
      (λ (same : d ≡ turn.caller).
      let is_was : one.was ≡ p = cc in
      let at_now : slice_get t.passes d ≡ Some one.now = ap (slice_get t.passes) same ∙ one.is_now in
      ⊎_elim
      (λ (old : Has (places_of one.now.mine) x).
      ⊎_elim
      (λ (older : Has (places_of a.ready.mine) x).
      let kept : a.ready.mine ≡ p.mine = a.kept_mine ∙ ap (λ (y : PassView). y.mine) is_was in
      inl (subst (λ ms. Has (places_of ms) x) kept older))
      (λ (new : Has turn.places x). inr (has_left turn.places (places_in_turn rest) x new))
      (effect_has a.ready one.now turn.places a.effect x old))
      (λ (later : Has (places_in_turn rest) x). inr (has_right turn.places (places_in_turn rest) x later))
      (places_come t rest runs d one.now q at_now at_last x h))
      (λ (other : d ≡ turn.caller → ⊥).
      ⊎_elim
      (λ (old : Has (places_of p.mine) x). inl old)
      (λ (later : Has (places_in_turn rest) x). inr (has_right turn.places (places_in_turn rest) x later))
      (places_come t rest runs d p q (one.others d other ∙ at) at_last x h))
      (cases_eq d turn.caller)

  -- In the order of the turns in which the changes took effect, their places are 1 to the length of the log.
  pub changes_in_turns : (s : State) (turns : List Turn) → Opens s → Runs least s turns last → length s.passes ≡ length last.passes
      → places_in_turn turns ≡ upto 1 (length log)
  changes_in_turns s turns opens runs as_many =
      let rises : RisesFrom 1 (places_in_turn turns) =
      subst (λ (n : ℕ). RisesFrom (n + 1) (places_in_turn turns)) opens.told_seen (places_rise s turns runs) in
      rising_full (length log) 1 (places_in_turn turns) rises (λ x h. omega (arith, places_within s turns runs x h))
      (λ k l.
      let c = within_get log k l in
      let known = closed.known_changes k c.0 c.1 in
      let q = within_get last.passes c.0.caller known in
      let p = within_get s.passes c.0.caller (omega (arith, known, as_many)) in
      let stands = closed.stand c.0.caller q.0 q.1 in
      let own = places_has 0 c.0.caller log k c.0 c.1 refl in
      let e : 0 + k + 1 ≡ 1 + k = omega arith in
      let mine : Has (places_of q.0.mine) (1 + k) =
      (own.0, ap (λ (xs : List ℕ). slice_get xs own.0) (sym stands.all) ∙ (own.1 ∙ ap (λ n. Some n) e)) in
      ⊎_elim
      (λ (old : Has (places_of p.0.mine) (1 + k)).
      absurd (let empty : Has (places_of []) (1 + k) = subst (λ ms. Has (places_of ms) (1 + k))
      (opens.mine c.0.caller p.0 p.1) old in cc))
      (λ (new : Has (places_in_turn turns) (1 + k)). new)
      (places_come s turns runs c.0.caller p.0 q.0 p.1 q.1 (1 + k) mine))
