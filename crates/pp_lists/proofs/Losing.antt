-- How many turns the steps of a turn lose.
use Rattle.std.proofs.Common.{◌≡◌, ◌≢◌, ℕ, ◌+◌, ◌*◌, ◌<◌, ◌≤◌, Bool, true, false, cond, nat_eq, List, [], ◌∷◌, ◌++◌, refl, sym}
use Rattle.std.proofs.Common.{ap, ◌∙◌}
use Rattle.std.proofs.Common.{arith, eq-eqb, ne_eqb, append-nil}
use Rattle.std.specs.Prelude.{◌&&◌, ◌||◌, not}
use Rattle.std.proofs.lemmas.Bool.{lt-ltb, le-ltb}
use Rattle.pp_link.specs.Links.{flag_bit, invalid_bit}
use Rattle.pp_model.specs.Pass.{MapSizes}
use Rattle.pp_rule.specs.Lists.{IsIn}
use Rattle.pp_rule.specs.Orders.{load_step, confirm_step, missed_step}
use Rattle.pp_rule.proofs.Put.{in_first, in_later}
use Rattle.pp_base.specs.Named.{NamedStep, loads, announces, confirms, clears, misses}
use Rattle.pp_lists.specs.Turns.{mark_step}
use Rattle.pp_lists.specs.Losses.{has_flag, has_invalid, is_past_shelves, loaded_last, is_find, one_if, finds, is_effect}
use Rattle.pp_lists.specs.Losses.{before_effect}

-- these steps, the latest one first, and then those before
abbrev pub onto : List NamedStep → List NamedStep → List NamedStep
onto [] before = before
onto (s ∷ steps) before = onto steps (s ∷ before)

pub finds_none : (sizes : MapSizes) (before : List NamedStep) → finds sizes before [] ≡ 0
unfolding finds
finds_none sizes before = refl

pub finds_more : (sizes : MapSizes) (before : List NamedStep) (s : NamedStep) (steps : List NamedStep)
    → finds sizes before (s ∷ steps) ≡ one_if (is_find sizes before s) + finds sizes (s ∷ before) steps
unfolding finds
finds_more sizes before s steps = refl

pub finds_append : (sizes : MapSizes) (before xs ys : List NamedStep)
    → finds sizes before (xs ++ ys) ≡ finds sizes before xs + finds sizes (onto xs before) ys
finds_append sizes before [] ys = let none = finds_none sizes before in omega arith
finds_append sizes before (s ∷ xs) ys = let rest = finds_append sizes (s ∷ before) xs ys in
    let a = finds_more sizes before s (xs ++ ys) in
    let b = finds_more sizes before s xs in omega arith

-- The kinds of the steps at which nothing is found, whatever they are about.
pub record IsIdleKind (kind : ℕ) : Type 0 where
  pub load : kind ≢ load_step
  pub confirm : kind ≢ confirm_step
  pub miss : kind ≢ missed_step
  pub mark : kind ≢ mark_step

idle_find : (sizes : MapSizes) (before : List NamedStep) (s : NamedStep) → IsIdleKind s.kind → is_find sizes before s ≡ false
idle_find sizes before s k = ap (λ (b : Bool). (b && has_invalid s.word) ||
    ((nat_eq s.kind confirm_step && not (nat_eq s.word (loaded_last s.place before)))
    || ((nat_eq s.kind missed_step && is_past_shelves sizes s.place) || (nat_eq s.kind mark_step && has_flag s.word))))
    (ne_eqb s.kind load_step k.load)
    ∙ (ap (λ (b : Bool). (b && not (nat_eq s.word (loaded_last s.place before)))
    || ((nat_eq s.kind missed_step && is_past_shelves sizes s.place) || (nat_eq s.kind mark_step && has_flag s.word)))
    (ne_eqb s.kind confirm_step k.confirm)
    ∙ (ap (λ (b : Bool). (b && is_past_shelves sizes s.place) || (nat_eq s.kind mark_step && has_flag s.word))
    (ne_eqb s.kind missed_step k.miss)
    ∙ ap (λ (b : Bool). b && has_flag s.word) (ne_eqb s.kind mark_step k.mark)))

-- nothing is found by steps of other kinds: a flush, a reclaim pass, loads of keys and values
pub idle_finds : (sizes : MapSizes) (before steps : List NamedStep) → ((s : NamedStep) → IsIn s steps → IsIdleKind s.kind)
    → finds sizes before steps ≡ 0
idle_finds sizes before [] idle = finds_none sizes before
idle_finds sizes before (s ∷ steps) idle = let rest = idle_finds sizes (s ∷ before) steps
    (λ t i. idle t (in_later t s steps i)) in
    let here : one_if (is_find sizes before s) ≡ 0 = ap (λ (b : Bool). one_if b)
    (idle_find sizes before s (idle s (in_first s steps))) in
    let more = finds_more sizes before s steps in omega arith

idle_one : (sizes : MapSizes) (before : List NamedStep) (s : NamedStep) (steps : List NamedStep) → IsIdleKind s.kind
    → finds sizes before (s ∷ steps) ≡ finds sizes (s ∷ before) steps
idle_one sizes before s steps idle = let here : one_if (is_find sizes before s) ≡ 0 = ap (λ (b : Bool). one_if b)
    (idle_find sizes before s idle) in
    let more = finds_more sizes before s steps in omega arith

-- a load of a link finds INVALID, or nothing
valid_load : (sizes : MapSizes) (before : List NamedStep) (place word : ℕ) → invalid_bit word ≡ 0
    → is_find sizes before (loads place word) ≡ false
valid_load sizes before place word ok = ap (λ (b : Bool). b || false) (ne_eqb (invalid_bit word) 1 (λ e. omega arith))

pub load_valid : (sizes : MapSizes) (before : List NamedStep) (place word : ℕ) (steps : List NamedStep) → invalid_bit word ≡ 0
    → finds sizes before (loads place word ∷ steps) ≡ finds sizes (loads place word ∷ before) steps
load_valid sizes before place word steps ok = let more = finds_more sizes before (loads place word) steps in
    let here : one_if (is_find sizes before (loads place word)) ≡ 0 = ap (λ (b : Bool). one_if b)
    (valid_load sizes before place word ok) in
    omega arith

pub load_invalid : (sizes : MapSizes) (before : List NamedStep) (place word : ℕ) → invalid_bit word ≡ 1
    → finds sizes before (loads place word ∷ []) ≡ 1
load_invalid sizes before place word bad = let more = finds_more sizes before (loads place word) [] in
    let none = finds_none sizes (loads place word ∷ before) in
    let here : one_if (is_find sizes before (loads place word)) ≡ 1 =
    ap (λ (b : Bool). one_if (b || false)) (eq-eqb (invalid_bit word) 1 bad) in omega arith

last_is : (place word number at : ℕ) (before : List NamedStep)
    → loaded_last place (announces at number ∷ loads place word ∷ before) ≡ word
unfolding loaded_last
last_is place word number at before = ap (λ (b : Bool). cond b word (loaded_last place before)) (eq-eqb place place refl)

-- a try to protect that confirms its record finds nothing
pub confirmed_finds : (sizes : MapSizes) (before : List NamedStep) (place word number at : ℕ) → invalid_bit word ≡ 0
    → finds sizes before (loads place word ∷ announces at number ∷ confirms place word ∷ []) ≡ 0
confirmed_finds sizes before place word number at ok =
    let a = load_valid sizes before place word (announces at number ∷ confirms place word ∷ []) ok in
    let b = idle_one sizes (loads place word ∷ before) (announces at number) (confirms place word ∷ [])
    record { load = λ e. omega arith; confirm = λ e. omega arith; miss = λ e. omega arith; mark = λ e. omega arith } in
    let seen : List NamedStep = announces at number ∷ loads place word ∷ before in
    let c = finds_more sizes seen (confirms place word) [] in let none = finds_none sizes (confirms place word ∷ seen) in
    let here : one_if (is_find sizes seen (confirms place word)) ≡ 0 =
    ap (λ (b : Bool). one_if (not b || false)) (eq-eqb word (loaded_last place seen)
    (sym (last_is place word number at before))) in omega arith

-- and one that finds another link finds that
pub moved_finds : (sizes : MapSizes) (before : List NamedStep) (place word second number at cleared : ℕ) → invalid_bit word ≡ 0
    → second ≢ word
    → finds sizes before (loads place word ∷ announces at number ∷ confirms place second ∷ clears cleared ∷ []) ≡ 1
moved_finds sizes before place word second number at cleared ok ne =
    let a = load_valid sizes before place word (announces at number ∷ confirms place second ∷ clears cleared ∷ []) ok in
    let b = idle_one sizes (loads place word ∷ before) (announces at number) (confirms place second ∷ clears cleared ∷ [])
    record { load = λ e. omega arith; confirm = λ e. omega arith; miss = λ e. omega arith; mark = λ e. omega arith } in
    let seen : List NamedStep = announces at number ∷ loads place word ∷ before in
    let c = finds_more sizes seen (confirms place second) (clears cleared ∷ []) in
    let d = idle_one sizes (confirms place second ∷ seen) (clears cleared) []
    record { load = λ e. omega arith; confirm = λ e. omega arith; miss = λ e. omega arith; mark = λ e. omega arith } in
    let none = finds_none sizes (clears cleared ∷ confirms place second ∷ seen) in
    let here : one_if (is_find sizes seen (confirms place second)) ≡ 1 =
    ap (λ (b : Bool). one_if (not b || false)) (ne_eqb second (loaded_last place seen)
    (λ e. ne (e ∙ last_is place word number at before))) in omega arith

-- an exchange of a link that fails is one find
pub missed_finds : (sizes : MapSizes) (before : List NamedStep) (place word : ℕ) → 17 * sizes.passes < place
    → finds sizes before (misses place word ∷ []) ≡ 1
missed_finds sizes before place word high = let more = finds_more sizes before (misses place word) [] in
    let none = finds_none sizes (misses place word ∷ before) in
    let here : one_if (is_find sizes before (misses place word)) ≡ 1 =
    ap (λ (b : Bool). one_if (b || false)) (lt-ltb (17 * sizes.passes) place high) in omega arith

-- and one of a shelf word is none
pub shelf_finds : (sizes : MapSizes) (before : List NamedStep) (place word : ℕ) → place ≤ 17 * sizes.passes
    → finds sizes before (misses place word ∷ []) ≡ 0
shelf_finds sizes before place word low = let more = finds_more sizes before (misses place word) [] in
    let none = finds_none sizes (misses place word ∷ before) in
    let here : one_if (is_find sizes before (misses place word)) ≡ 0 =
    ap (λ (b : Bool). one_if (b || false)) (le-ltb (17 * sizes.passes) place low) in omega arith

abbrev pub marks_at : ℕ → ℕ → NamedStep
marks_at place word = record { kind = mark_step; place = place; word = word }

-- a marking or-step finds what was removed, or takes effect
pub marked_finds : (sizes : MapSizes) (before : List NamedStep) (place word : ℕ) → flag_bit word ≡ 1
    → finds sizes before (marks_at place word ∷ []) ≡ 1
marked_finds sizes before place word flag = let more = finds_more sizes before (marks_at place word) [] in
    let none = finds_none sizes (marks_at place word ∷ before) in
    let here : one_if (is_find sizes before (marks_at place word)) ≡ 1 = ap (λ (b : Bool). one_if b)
    (eq-eqb (flag_bit word) 1 flag) in omega arith

pub plain_finds : (sizes : MapSizes) (before : List NamedStep) (place word : ℕ) → flag_bit word ≡ 0
    → finds sizes before (marks_at place word ∷ []) ≡ 0
plain_finds sizes before place word plain = let more = finds_more sizes before (marks_at place word) [] in
    let none = finds_none sizes (marks_at place word ∷ before) in
    let here : one_if (is_find sizes before (marks_at place word)) ≡ 0 = ap (λ (b : Bool). one_if b)
    (ne_eqb (flag_bit word) 1 (λ e. omega arith)) in omega arith

-- none of these steps is one by which a call takes effect
abbrev pub AreEarly : List NamedStep → Type 0
AreEarly steps = (s : NamedStep) → IsIn s steps → is_effect s ≡ false

pub early_append : (xs ys : List NamedStep) → AreEarly xs → before_effect (xs ++ ys) ≡ xs ++ before_effect ys
unfolding before_effect
early_append [] ys early = refl
early_append (s ∷ xs) ys early = ap (λ (b : Bool). cond b [] (s ∷ before_effect (xs ++ ys))) (early s (in_first s xs))
    ∙ ap (λ (l : List NamedStep). s ∷ l) (early_append xs ys (λ t i. early t (in_later t s xs i)))

-- where the call has not taken effect, all its lost turns are early ones
pub early_all : (xs : List NamedStep) → AreEarly xs → before_effect xs ≡ xs
unfolding before_effect
early_all xs early = ap before_effect (sym (append-nil xs)) ∙ (early_append xs [] early ∙ append-nil xs)

-- and from its effect on they stay as many
pub early_ends : (xs ys : List NamedStep) (s : NamedStep) → AreEarly xs → is_effect s ≡ true → before_effect (xs ++ s ∷ ys) ≡ xs
unfolding before_effect
early_ends xs ys s early effect = early_append xs (s ∷ ys) early
    ∙ (ap (λ (b : Bool). xs ++ cond b [] (s ∷ before_effect ys)) effect ∙ append-nil xs)
