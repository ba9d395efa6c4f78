-- The longest order is one piece per turn.
use Rattle.std.proofs.Common.{◌≡◌, ℕ, zero, suc, ◌+◌, ◌-◌, ◌<◌, ◌≤◌, true, List, [], ◌∷◌, ◌++◌, length}
use Rattle.std.proofs.Common.{Some, ⊎_elim, refl, sym, ap, ◌∙◌, subst, arith, length-append, take, drop}
use Rattle.std.proofs.Common.{eq-eqb}
use Rattle.std.specs.Prelude.{slice_get, nat_eq}
use Rattle.std.proofs.lemmas.Bool.{cases_eq, cases_Bool}
use Rattle.std.proofs.lemmas.Option.{slice_get_within}
use Rattle.std.proofs.lemmas.List.{length-drop, length-take-le, drop_all}
use Rattle.pp_model.specs.declared.Change.{Change}
use Rattle.pp_model.specs.Lists.{AtEach, IsPrefix}
use Rattle.pp_model.specs.declared.steps.OrderEntry.{OrderEntry}
use Rattle.pp_model.specs.Pass.{PassView, NoteView, steps_of, steps_since}
use Rattle.pp_model.proofs.Histories.{slice_get-append_left, slice_get-append_right}
use Rattle.pp_model.proofs.Chains.{IsPrefix-refl, IsPrefix-trans}
use Rattle.pp_schedule.specs.Schedule.{Advances, State, Turn, OneTurn, Runs, stop, more, callers_of, Pieces, none, piece, Closed, Opens}

abbrev Entry : Type 0
Entry = OrderEntry Change

pub steps_of-append : (d : ℕ) (xs ys : List Entry) → steps_of d (xs ++ ys) ≡ steps_of d xs ++ steps_of d ys
steps_of-append d [] ys = refl
steps_of-append d (x ∷ xs) ys =
    let ih = steps_of-append d xs ys in
    ⊎_elim
    (λ test. rw test (ap (λ zs. x.step ∷ zs) ih))
    (λ test. rw test ih)
    (cases_Bool (nat_eq x.pass d))

steps_few : (d : ℕ) (xs : List Entry) → length (steps_of d xs) ≤ length xs
steps_few d [] = omega arith
steps_few d (x ∷ xs) =
    let ih = steps_few d xs in
    ⊎_elim
    (λ test. rw test (omega (arith, ih)))
    (λ test. rw test (omega (arith, ih)))
    (cases_Bool (nat_eq x.pass d))

some_step : (d : ℕ) (xs : List Entry) (k : ℕ) (e : Entry) → slice_get xs k ≡ Some e → e.pass ≡ d → 0 < length (steps_of d xs)
some_step d [] k e at is = absurd cc
some_step d (x ∷ xs) zero e at is =
    let same : x.pass ≡ d = cc in
    let test : nat_eq x.pass d ≡ true = eq-eqb x.pass d same in
    rw test (omega arith)
some_step d (x ∷ xs) (suc k) e at is =
    let ih = some_step d xs k e at is in
    ⊎_elim
    (λ test. rw test (omega arith))
    (λ test. rw test ih)
    (cases_Bool (nat_eq x.pass d))

-- no entry of the order from position a to below b is of pass d
abbrev pub Free : ℕ → ℕ → ℕ → List Entry → Type 0
Free d a b order = (k : ℕ) (e : Entry) → a ≤ k → k < b → slice_get order k ≡ Some e → e.pass ≡ d → ⊥

pub prefix_length : {A : Type 0} → (xs ys : List A) → IsPrefix xs ys → length xs ≤ length ys
prefix_length xs ys p = omega (arith, ap length p.1, length-append xs p.0)

-- an element of a prefix stands in the longer list
prefix_get : {A : Type 0} → (xs ys : List A) → IsPrefix xs ys → (k : ℕ) → k < length xs → slice_get ys k ≡ slice_get xs k
prefix_get xs ys p k l = ap (λ zs. slice_get zs k) p.1 ∙ slice_get-append_left xs p.0 k l

free_prefix : (d : ℕ) (xs ys order : List Entry) → IsPrefix xs ys → IsPrefix ys order → steps_of d xs ≡ steps_of d ys
    → Free d (length xs) (length ys) order
free_prefix d xs ys order p q same k e low high at is =
    let here : slice_get ys k ≡ Some e = sym (prefix_get ys order q k high) ∙ at in
    let shift : length xs + (k - length xs) ≡ k = omega (arith, low) in
    let in_more : slice_get p.0 (k - length xs) ≡ Some e =
    sym (slice_get-append_right xs p.0 (k - length xs)) ∙ (ap (slice_get (xs ++ p.0)) shift
    ∙ (ap (λ zs. slice_get zs k) (sym p.1) ∙ here)) in
    let positive = some_step d p.0 (k - length xs) e in_more is in
    let sums = ap (λ zs. length (steps_of d zs)) p.1 ∙ (ap length (steps_of-append d xs p.0)
    ∙ length-append (steps_of d xs) (steps_of d p.0)) in
    omega (arith, positive, sums, ap length same)

module _ (least : ℕ) (last : State) (log : List Change) (order : List Entry) (closed : Closed last.passes log order) where
  -- each pass's order begins the whole one
  pub orders_begin : (s : State) (turns : List Turn) → Runs least s turns last → (d : ℕ) (p : PassView) → slice_get s.passes d ≡ Some p
      → IsPrefix p.order order
  orders_begin s turns (stop _) d p at = closed.own_order d p at
  orders_begin s turns (more _ t _ turn rest one runs) d p at =
      ⊎_elim
      (λ (same : d ≡ turn.caller).
      let a = one.advances in
      let is_was : one.was ≡ p = cc in
      let later = orders_begin t rest runs turn.caller one.now one.is_now in
      let all = IsPrefix-trans one.was.order one.now.order order
      (IsPrefix-trans one.was.order a.ready.order one.now.order a.learnt_order a.order) later in
      subst (λ (x : PassView). IsPrefix x.order order) is_was all)
      (λ (other : d ≡ turn.caller → ⊥). orders_begin t rest runs d p (one.others d other ∙ at))
      (cases_eq d turn.caller)

  -- a caller made no step from the end of its order to the end of the last turn
  pub none_between : (s : State) (turns : List Turn) → Runs least s turns last → (d : ℕ) (p : PassView) → slice_get s.passes d ≡ Some p
      → p.steps ≡ steps_of d p.order → Free d (length p.order) s.told.order order
  none_between s turns (stop _) d p at own k e low high is_e is_d =
      free_prefix d p.order order order (closed.own_order d p at) (IsPrefix-refl order) (sym own ∙ closed.own_steps d p at)
      k e low (slice_get_within order k e is_e) is_e is_d
  none_between s turns (more _ t _ turn rest one runs) d p at own k e low high is_e is_d =
      let a = one.advances in
      ⊎_elim
      (λ (same : d ≡ turn.caller).
      let is_was : one.was ≡ p = cc in
      let now_begins = orders_begin t rest runs turn.caller one.now one.is_now in
      let begins = IsPrefix-trans a.ready.order one.now.order order a.order now_begins in
      let learnt : IsPrefix p.order a.ready.order = subst (λ (x : PassView). IsPrefix x.order a.ready.order) is_was a.learnt_order in
      let steps : steps_of d p.order ≡ steps_of d a.ready.order =
      sym own ∙ (ap (λ (x : PassView). x.steps) (sym is_was) ∙ (sym a.kept_steps
      ∙ (a.ready_steps ∙ ap (λ n. steps_of n a.ready.order) (sym same)))) in
      free_prefix d p.order a.ready.order order learnt begins steps k e low (omega (arith, high, a.told_order)) is_e is_d)
      (λ (other : d ≡ turn.caller → ⊥).
      let ready_now = prefix_length a.ready.order one.now.order a.order in
      none_between t rest runs d p (one.others d other ∙ at) own k e low
      (omega (arith, high, a.told_order, ready_now, one.told_order)) is_e is_d)
      (cases_eq d turn.caller)

-- no pass has seen more steps than the last turn left
abbrev pub Low : State → Type 0
Low s = AtEach s.passes (λ d p. length p.order ≤ s.told.order)

-- each pass's steps are its own ones in its order
abbrev pub OwnSteps : State → Type 0
OwnSteps s = AtEach s.passes (λ d p. p.steps ≡ steps_of d p.order)

told_grows : (least : ℕ) (s t : State) (turn : Turn) → OneTurn least s turn t → s.told.order ≤ t.told.order
told_grows least s t turn one =
    let a = one.advances in
    omega (arith, a.told_order, one.told_order, prefix_length a.ready.order one.now.order a.order)

low_kept : (least : ℕ) (s t : State) (turn : Turn) → OneTurn least s turn t → Low s → Low t
low_kept least s t turn one low d p at =
    ⊎_elim
    (λ (same : d ≡ turn.caller).
    let is_now : one.now ≡ p = cc in
    let e : length one.now.order ≡ length p.order = ap (λ (x : PassView). length x.order) is_now in
    omega (arith, e, one.told_order))
    (λ (other : d ≡ turn.caller → ⊥).
    let before = low d p (sym (one.others d other) ∙ at) in
    omega (arith, before, told_grows least s t turn one))
    (cases_eq d turn.caller)

own_kept : (least : ℕ) (s t : State) (turn : Turn) → OneTurn least s turn t → OwnSteps s → OwnSteps t
own_kept least s t turn one own d p at =
    ⊎_elim
    (λ (same : d ≡ turn.caller).
    let is_now : one.now ≡ p = cc in
    let steps : one.now.steps ≡ steps_of d one.now.order = one.advances.now_steps ∙ ap (λ n. steps_of n one.now.order) (sym same) in
    subst (λ (x : PassView). x.steps ≡ steps_of d x.order) is_now steps)
    (λ (other : d ≡ turn.caller → ⊥). own d p (sym (one.others d other) ∙ at))
    (cases_eq d turn.caller)

low_last : (least : ℕ) (s t : State) (turns : List Turn) → Runs least s turns t → Low s → Low t
low_last least s t turns (stop _) low = low
low_last least s t turns (more _ u _ turn rest one runs) low = low_last least u t rest runs (low_kept least s u turn one low)

-- as many steps as a turn made stand in its piece
turn_steps_fit : (least c : ℕ) (told : NoteView) (was now : PassView) (places : List ℕ) → (a : Advances least told c was now places)
    → least + length a.ready.order ≤ length now.order
turn_steps_fit least c told was now places a =
    let more_steps = a.order.0 in
    let now_is : now.steps ≡ steps_of c a.ready.order ++ steps_of c more_steps =
    a.now_steps ∙ (ap (steps_of c) a.order.1 ∙ steps_of-append c a.ready.order more_steps) in
    let sums = ap length now_is ∙ length-append (steps_of c a.ready.order) (steps_of c more_steps) in
    let before = ap length a.ready_steps in
    let dropped : length (steps_since a.ready now) ≡ length now.steps - length a.ready.steps = length-drop
    (length a.ready.steps) now.steps in
    omega (arith, sums, before, dropped, a.least_steps, steps_few c more_steps, ap length a.order.1, length-append a.ready.order more_steps)

-- what is left of a list after a prefix of it
pub get_dropped : {A : Type 0} → (n : ℕ) (xs : List A) (k : ℕ) → slice_get (drop n xs) k ≡ slice_get xs (n + k)
get_dropped zero xs k = ap (slice_get xs) (omega arith)
get_dropped (suc n) [] k = refl
get_dropped {A} (suc n) (x ∷ xs) k =
    let e : suc (n + k) ≡ suc n + k = omega arith in
    get_dropped n xs k ∙ ap (slice_get (x ∷ xs)) e

get_taken : {A : Type 0} → (n : ℕ) (xs : List A) (k : ℕ) (x : A) → slice_get (take n xs) k ≡ Some x → (k < n) × (slice_get xs k ≡ Some x)
get_taken zero xs k x e = absurd cc
get_taken (suc n) [] k x e = absurd cc
get_taken (suc n) (y ∷ xs) zero x e = (omega arith, e)
get_taken (suc n) (y ∷ xs) (suc k) x e = let h = get_taken n xs k x e in (omega (arith, h.0), h.1)

taken_parts : {A : Type 0} → (m : ℕ) (xs : List A) → xs ≡ take m xs ++ drop m xs
taken_parts zero xs = refl
taken_parts (suc m) [] = refl
taken_parts (suc m) (x ∷ xs) = ap (λ ys. x ∷ ys) (taken_parts m xs)

drop_nil : {A : Type 0} → (n : ℕ) → drop {A = A} n [] ≡ []
drop_nil zero = refl
drop_nil (suc n) = refl

dropped_twice : {A : Type 0} → (n m : ℕ) (xs : List A) → drop m (drop n xs) ≡ drop (n + m) xs
dropped_twice zero m xs =
    let e : m ≡ zero + m = omega arith in
    ap (λ j. drop j xs) e
dropped_twice (suc n) m [] = drop_nil m ∙ sym (drop_nil (suc n + m))
dropped_twice {A} (suc n) m (x ∷ xs) =
    let e : suc (n + m) ≡ suc n + m = omega arith in
    dropped_twice n m xs ∙ ap (λ j. drop j (x ∷ xs)) e

dropped_parts : {A : Type 0} → (n m : ℕ) (xs : List A) → drop n xs ≡ take m (drop n xs) ++ drop (n + m) xs
dropped_parts n m xs = taken_parts m (drop n xs) ∙ ap (λ ys. take m (drop n xs) ++ ys) (dropped_twice n m xs)

pub within_get : {A : Type 0} → (xs : List A) (k : ℕ) → k < length xs → (x : A) × (slice_get xs k ≡ Some x)
within_get [] k l = absurd (omega arith)
within_get (x ∷ xs) zero l = (x, refl)
within_get (x ∷ xs) (suc k) l = within_get xs k (omega arith)

module _ (least : ℕ) (last : State) (log : List Change) (order : List Entry) (closed : Closed last.passes log order) where
  passes_kept : (s : State) (turns : List Turn) → Runs least s turns last → length s.passes ≡ length last.passes
  passes_kept s turns (stop _) = refl
  passes_kept s turns (more _ t _ turn rest one runs) = sym one.as_many ∙ passes_kept t rest runs

  pieces_from : (s : State) (turns : List Turn) → Runs least s turns last → Low s → OwnSteps s
      → Pieces least (callers_of turns) (drop s.told.order order)
  pieces_from s turns (stop _) low own =
      let whole = closed.all in
      let e : length whole.1.order ≡ length order = ap length whole.3 in
      let at_end : length order ≤ s.told.order = omega (arith, e, low whole.0 whole.1 whole.2) in
      subst (λ (xs : List Entry). Pieces least [] xs) (sym (drop_all s.told.order order at_end)) none
  pieces_from s turns (more _ t _ turn rest one runs) low own =
      let a = one.advances in
      let n = s.told.order in
      let m = t.told.order - s.told.order in
      let grows = told_grows least s t turn one in
      let to : n + m ≡ t.told.order = omega (arith, grows) in
      let begins = orders_begin least last log order closed t rest runs turn.caller one.now one.is_now in
      let fits : t.told.order ≤ length order = omega (arith, one.told_order, prefix_length one.now.order order begins) in
      let own_piece = take m (drop n order) in
      let size : length own_piece ≡ m = length-take-le m (drop n order) (omega (arith, fits, length-drop n order)) in
      let enough : least ≤ length own_piece =
      omega (arith, size, grows, one.told_order, a.told_order, turn_steps_fit least turn.caller s.told one.was one.now turn.places a) in
      let callers : AtEach own_piece (λ k e. e.pass ≡ turn.caller) =
      λ k e at.
      let taken = get_taken m (drop n order) k e at in
      let at_order : slice_get order (n + k) ≡ Some e = sym (get_dropped n order k) ∙ taken.1 in
      let known = closed.known_steps (n + k) e at_order in
      let pass = within_get s.passes e.pass (omega (arith, known, passes_kept s (turn ∷ rest) (more _ t _ turn rest one runs))) in
      ⊎_elim
      (λ (same : e.pass ≡ turn.caller). same)
      (λ (other : e.pass ≡ turn.caller → ⊥).
      absurd (none_between least last log order closed t rest runs e.pass pass.0 (one.others e.pass other ∙ pass.1)
      (own e.pass pass.0 pass.1) (n + k) e (omega (arith, low e.pass pass.0 pass.1)) (omega (arith, taken.0, to)) at_order refl))
      (cases_eq e.pass turn.caller) in
      let later = pieces_from t rest runs (low_kept least s t turn one low) (own_kept least s t turn one own) in
      let rest_is : drop (n + m) order ≡ drop t.told.order order = ap (λ j. drop j order) to in
      let whole : Pieces least (turn.caller ∷ callers_of rest) (own_piece ++ drop t.told.order order) =
      piece turn.caller (callers_of rest) own_piece (drop t.told.order order) callers enough later in
      let parts : drop n order ≡ own_piece ++ drop t.told.order order = dropped_parts n m order ∙ ap (λ ys. own_piece ++ ys) rest_is in
      subst (λ (xs : List Entry). Pieces least (turn.caller ∷ callers_of rest) xs) (sym parts) whole

  -- The longest order is one consecutive piece per turn, in order.
  pub order_in_turns : (s : State) (turns : List Turn) → Opens s → Runs least s turns last → Pieces least (callers_of turns) order
  order_in_turns s turns opens runs =
      let low : Low s = λ d p at. let e : length p.order ≡ 0 = ap length (opens.order d p at) in omega (arith, e) in
      let own : OwnSteps s = λ d p at. opens.steps d p at ∙ ap (steps_of d) (sym (opens.order d p at)) in
      let all = pieces_from s turns runs low own in
      subst (λ (n : ℕ). Pieces least (callers_of turns) (drop n order)) opens.told_order all
