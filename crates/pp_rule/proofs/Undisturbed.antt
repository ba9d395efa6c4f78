-- In a pool of one pass the words stand still but for what the pass does itself.
use Rattle.std.proofs.Common.{◌≡◌, ℕ, ◌+◌, ◌<◌, ◌≤◌, Bool, true, false, List, [], ◌∷◌, ◌++◌, get_or, set, refl, sym}
use Rattle.std.proofs.Common.{ap, ◌∙◌, subst, append-nil, append_assoc, arith, ne_eqb, eq-eqb, eqb, cond, ⊎_elim}
use Rattle.std.proofs.lemmas.Bool.{false≢true}
use Rattle.std.specs.Prelude.{nat_eq, ◌||◌, ◌-◌}
use Rattle.std.proofs.Math.Decide.{ℕ_discrete}
use Rattle.std.proofs.lemmas.List.{set-get_or, get_or-set_other, append_cancel_left}
use mathlib.Core.Logic.{dite}
use Rattle.pp_link.specs.declared.layout.Sizes.{Sizes}
use Rattle.pp_link.specs.Links.{target}
use Rattle.pp_link.specs.Places.{head_place, cell_place}
use Rattle.pp_link.specs.Words.{head_word, cell_word}
use Rattle.pp_model.specs.declared.steps.Step.{Step}
use Rattle.pp_rule.specs.Lists.{IsIn, BeginsWith}
use Rattle.pp_rule.specs.Orders.{LoggedStep, replayed, entries_of, made_by, stores, only_loads, only_walks, goes_aside, is_calm}
use Rattle.pp_rule.specs.Views.{SeatView}
use Rattle.pp_rule.specs.States.{PoolState}
use Rattle.pp_rule.specs.Reached.{Reached, IsAside, SameReached}
use Rattle.pp_rule.specs.Reached.Reached.{by_head, by_link}
use Rattle.pp_rule.specs.Alone.{IsRun, SeenState, SeesState}
use Rattle.pp_rule.proofs.Put.{in_nil, in_first, in_right, in_left, in_cases}
use Rattle.pp_rule.proofs.Histories.{made_append, replayed_more}

-- an equation of numbers that isn't refuted is true
pub stable : (a b : ℕ) → ((a ≡ b → ⊥) → ⊥) → a ≡ b
stable a b never = dite (ℕ_discrete a b) (λ e. e) (λ ne. absurd (never ne))

-- a number that isn't refuted to be less is less
pub stable_less : (a b : ℕ) → ((a < b → ⊥) → ⊥) → a < b
stable_less a b never = dite (ℕ_discrete (a + 1 - b) 0) (λ e. omega arith) (λ ne. absurd (never (λ lt. ne (omega arith))))

-- the kinds of a walk
pub walk_kinds : (k : ℕ) → only_walks k ≡ true → (P : ℕ → Type 0) → P 4 → P 6 → P 8 → P 19 → P 5 → P 7 → P k
walk_kinds k is P load confirm read end announce clear =
    pick k 4 _ is load (λ a. pick k 6 _ a confirm (λ b. pick k 8 _ b read (λ c. pick k 19 _ c end
    (λ d. pick k 5 _ d announce (λ e. pick k 7 _ e clear (λ bad. absurd (false≢true bad)))))))
  where
    pick : (k n : ℕ) (rest : Bool) → (nat_eq k n || rest) ≡ true → P n → (rest ≡ true → P k) → P k
    pick k n rest is here later = dite (ℕ_discrete k n) (λ e. subst P (sym e) here)
        (λ ne. later (sym (ap (λ (b : Bool). b || rest) (ne_eqb k n ne)) ∙ is))

-- the kinds of a walk write no link
pub walks_calm : (k : ℕ) → only_walks k ≡ true → is_calm k ≡ true
walks_calm k is = walk_kinds k is (λ k. is_calm k ≡ true) refl refl refl refl refl refl

module _ (sides : ℕ) (z : Sizes) where
  -- what could be reached can be reached still, and nothing else can
  pub reached_on : (words words' : List ℕ) → SameReached sides z words words' → sides ≤ 2 → (n : ℕ) → Reached sides z words n
      → Reached sides z words' n
  reached_on words words' same two n (by_head h low to) = by_head h low (ap target (same.heads h low) ∙ to)
  reached_on words words' same two n (by_link m side is low to r) =
      by_link m side is low (ap target (same.cells m (2 + side) is (omega arith) r) ∙ to) (reached_on words words' same two m r)

  pub reached_back : (words words' : List ℕ) → SameReached sides z words words' → sides ≤ 2 → (n : ℕ) → Reached sides z words' n
      → Reached sides z words n
  reached_back words words' same two n (by_head h low to) = by_head h low (ap target (sym (same.heads h low)) ∙ to)
  reached_back words words' same two n (by_link m side is low to r) = let was = reached_back words words' same two m r in
      by_link m side is low (ap target (sym (same.cells m (2 + side) is (omega arith) was)) ∙ to) was

  pub same_self : (words : List ℕ) → SameReached sides z words words
  same_self words = record { heads = λ h low. refl; cells = λ n f is low r. refl }

  pub same_through : (words words' then : List ℕ) → sides ≤ 2 → SameReached sides z words words' → SameReached sides z words' then
      → SameReached sides z words then
  same_through words words' then two a b = record {
    heads = λ h low. b.heads h low ∙ a.heads h low;
    cells = λ n f is low r. b.cells n f is low (reached_on words words' a two n r) ∙ a.cells n f is low r;
  }

  -- a word was set at a place aside of them
  set_aside : (words : List ℕ) (place x : ℕ) → IsAside sides z words place → SameReached sides z words (set words place x)
  unfolding cell_word head_word
  set_aside words place x a = record {
    heads = λ h low. get_or-set_other words place (head_place z h) x 0 (λ e. a.heads h low (sym e));
    cells = λ n f is low r. get_or-set_other words place (cell_place z n f) x 0 (λ e. a.cells n f is low (sym e) r);
  }

module _ {E A : Type 0} (sides : ℕ) (two : sides ≤ 2) (caller : E → ℕ) (opens : List ℕ) (z : Sizes) where
  -- one calm step
  one_stays : (before after : List (LoggedStep E A)) (s : LoggedStep E A) → IsRun sides caller opens z (before ++ s ∷ after)
      → is_calm s.entry.step.kind ≡ true
      → SameReached sides z (replayed opens (entries_of before)) (replayed opens (entries_of (before ++ s ∷ [])))
  one_stays before after s run calm = let words : List ℕ = replayed opens (entries_of before) in
      subst (λ (ws : List ℕ). SameReached sides z words ws) (sym (replayed_more opens before s)) (by (goes_aside s.entry.step.kind) refl)
    where
      here : IsIn s (before ++ s ∷ after)
      here = in_right s before (s ∷ after) (in_first s after)

      or_first : (a b : Bool) → (a || b) ≡ true → b ≡ false → a ≡ true
      or_first true b is none = refl
      or_first false b is none = sym none ∙ is

      or_none : (a b c d : Bool) → (a || b || c || d) ≡ false → a ≡ false
      or_none true b c d is = absurd (false≢true (sym is))
      or_none false b c d is = refl

      by : (b : Bool) → goes_aside s.entry.step.kind ≡ b → SameReached sides z (replayed opens (entries_of before))
          (set (replayed opens (entries_of before)) s.entry.step.place s.entry.left)
      by true is = set_aside sides z (replayed opens (entries_of before)) s.entry.step.place s.entry.left (run.aside before after s refl is)
      by false is = let words : List ℕ = replayed opens (entries_of before) in
          let loads : only_loads s.entry.step.kind ≡ true = or_first (only_loads s.entry.step.kind) (goes_aside s.entry.step.kind) calm is
          in
          let silent : stores s.entry.step.kind ≡ false = or_none (stores s.entry.step.kind) _ _ _ is in
          let found : s.entry.step.word ≡ get_or words s.entry.step.place 0 = (run.finds before after s refl).found silent in
          let left : s.entry.left ≡ get_or words s.entry.step.place 0 = run.kept s here loads ∙ found in
          let same : set words s.entry.step.place s.entry.left ≡ words =
          ap (λ (w : ℕ). set words s.entry.step.place w) left ∙ set-get_or words s.entry.step.place 0 in
          subst (λ (ws : List ℕ). SameReached sides z words ws) (sym same) (same_self sides z words)

  all_stay : (before rest : List (LoggedStep E A)) → IsRun sides caller opens z (before ++ rest)
      → ((s : LoggedStep E A) → IsIn s rest → is_calm s.entry.step.kind ≡ true)
      → SameReached sides z (replayed opens (entries_of before)) (replayed opens (entries_of (before ++ rest)))
  all_stay before [] run calm = subst (λ (o : List (LoggedStep E A)). SameReached sides z (replayed opens (entries_of before))
      (replayed opens (entries_of o))) (sym (append-nil before)) (same_self sides z (replayed opens (entries_of before)))
  all_stay before (s ∷ rest) run calm =
      let again : (before ++ s ∷ []) ++ rest ≡ before ++ s ∷ rest = append_assoc before (s ∷ []) rest in
      same_through sides z (replayed opens (entries_of before)) (replayed opens (entries_of (before ++ s ∷ [])))
      (replayed opens (entries_of (before ++ s ∷ rest))) two
      (one_stays before rest s run (calm s (in_first s rest)))
      (subst (λ (o : List (LoggedStep E A)). SameReached sides z (replayed opens (entries_of (before ++ s ∷ [])))
      (replayed opens (entries_of o))) again
      (all_stay (before ++ s ∷ []) rest (subst (λ (o : List (LoggedStep E A)). IsRun sides caller opens z o) (sym again) run)
      (λ m i. calm m (in_right m (s ∷ []) rest i))))

-- what a pass names of its own steps, in a pool of one pass, is all that was made
all_own : {E A : Type 0} (passes p : ℕ) (order : List (LoggedStep E A)) → passes ≡ 1 → p < passes
    → ((s : LoggedStep E A) → IsIn s order → s.entry.pass < passes) → (s : LoggedStep E A) → IsIn s order
    → IsIn s.entry.step (made_by p order)
unfolding made_by entries_of
all_own passes p [] one low made s i = absurd (in_nil s i)
all_own {E} {A} passes p (x ∷ order) one low made s i =
    let same : x.entry.pass ≡ p = (let mine : x.entry.pass < passes = made x (in_first x order) in omega arith) in
    subst (λ (b : Bool). IsIn s.entry.step (cond b (x.entry.step ∷ made_by p order) (made_by p order))) (sym (eq-eqb x.entry.pass p same))
    (⊎_elim (λ (e : s ≡ x). subst (λ (t : LoggedStep E A). IsIn s.entry.step (t.entry.step ∷ made_by p order)) e
    (in_first s.entry.step (made_by p order)))
    (λ (later : IsIn s order). in_right s.entry.step (x.entry.step ∷ []) (made_by p order)
    (all_own passes p order one low (λ t j. made t (in_right t (x ∷ []) order j)) s later))
    (in_cases s x order i))

module _ {E A W : Type 0} (sides : ℕ) (two : sides ≤ 2) (caller : E → ℕ) (opens : List ℕ) (z : Sizes) where
  -- After calm steps the heads and the records that can be reached are as they were.
  pub calm_stays : (p : ℕ) (v w : SeatView E A W) (steps : List Step) → z.passes ≡ 1 → p < z.passes → IsRun sides caller opens z w.order
      → BeginsWith w.order v.order → made_by p w.order ≡ made_by p v.order ++ steps
      → ((s : Step) → IsIn s steps → is_calm s.kind ≡ true)
      → SameReached sides z (replayed opens (entries_of v.order)) (replayed opens (entries_of w.order))
  calm_stays p v w steps one low run begins made calm =
      let rest : List (LoggedStep E A) = begins.0 in
      let split : w.order ≡ v.order ++ rest = begins.1 in
      let mine : made_by p rest ≡ steps = append_cancel_left (made_by p v.order) (made_by p rest) steps
      (sym (ap (made_by p) split ∙ made_append p v.order rest) ∙ made) in
      let inside : (s : LoggedStep E A) → IsIn s rest → IsIn s w.order = λ s i. subst (λ (o : List (LoggedStep E A)). IsIn s o) (sym split)
      (in_right s v.order rest i) in
      subst (λ (o : List (LoggedStep E A)). SameReached sides z (replayed opens (entries_of v.order)) (replayed opens (entries_of o)))
      (sym split)
      (all_stay sides two caller opens z v.order rest (subst (λ (o : List (LoggedStep E A)). IsRun sides caller opens z o) split run)
      (λ s i. calm s.entry.step (subst (λ (l : List Step). IsIn s.entry.step l) mine
      (all_own z.passes p rest one low (λ t j. run.made t (inside t j)) s i))))

module _ {E A W : Type 0} (sides : ℕ) (opens : Sizes → List ℕ) (addition : Sizes → List ℕ → PoolState E A W → Type 0) where
  -- What the rule of the present words says of numbers is so.
  pub by_state : (v : SeatView E A W) → SeesState sides opens addition v → (a b : ℕ) → (SeenState sides opens addition v → a ≡ b) → a ≡ b
  by_state v whole a b says = stable a b (λ no. whole (λ st. no (says st)))

-- Where a thing stands in a list, the list splits.
split_at : {X : Type 0} (x : X) (xs : List X) → IsIn x xs → (before : List X) × ((after : List X) × (xs ≡ before ++ x ∷ after))
split_at x [] i = absurd (in_nil x i)
split_at {X} x (y ∷ ys) i = ⊎_elim
    (λ (e : x ≡ y). ([], (ys, ap (λ (z : X). z ∷ ys) (sym e))))
    (λ (later : IsIn x ys). let s = split_at x ys later in (y ∷ s.0, (s.1.0, ap (λ (l : List X). y ∷ l) s.1.1)))
    (in_cases x y ys i)

-- a step that a pass made is that of an entry
entry_of_step : {E A : Type 0} (p : ℕ) (order : List (LoggedStep E A)) (s : Step) → IsIn s (made_by p order)
    → (e : LoggedStep E A) × (IsIn e order × (e.entry.step ≡ s))
unfolding made_by entries_of
entry_of_step p [] s i = absurd (in_nil s i)
entry_of_step {E} {A} p (x ∷ order) s i = by (eqb x.entry.pass p) i (entry_of_step p order s)
  where
    later : (e : LoggedStep E A) × (IsIn e order × (e.entry.step ≡ s)) → (e : LoggedStep E A) × (IsIn e (x ∷ order) × (e.entry.step ≡ s))
    later f = (f.0, (in_right f.0 (x ∷ []) order f.1.0, f.1.1))

    by : (b : Bool) → IsIn s (cond b (x.entry.step ∷ made_by p order) (made_by p order))
        → (IsIn s (made_by p order) → (e : LoggedStep E A) × (IsIn e order × (e.entry.step ≡ s)))
        → (e : LoggedStep E A) × (IsIn e (x ∷ order) × (e.entry.step ≡ s))
    by true j rest = ⊎_elim (λ (e : s ≡ x.entry.step). (x, (in_first x order, sym e)))
        (λ (k : IsIn s (made_by p order)). later (rest k)) (in_cases s x.entry.step (made_by p order) j)
    by false j rest = later (rest j)

-- what begins a run is one
pub run_front : {E A : Type 0} (sides : ℕ) (caller : E → ℕ) (opens : List ℕ) (z : Sizes) (xs ys : List (LoggedStep E A))
    → IsRun sides caller opens z (xs ++ ys) → IsRun sides caller opens z xs
run_front {E} {A} sides caller opens z xs ys run = record {
  finds = λ before after s is. run.finds before (after ++ ys) s (on before after s is);
  kept = λ s i. run.kept s (in_left s xs ys i);
  made = λ s i. run.made s (in_left s xs ys i);
  own = λ s i. run.own s (in_left s xs ys i);
  aside = λ before after s is. run.aside before (after ++ ys) s (on before after s is);
}
  where
    on : (before after : List (LoggedStep E A)) (s : LoggedStep E A) → xs ≡ before ++ s ∷ after → xs ++ ys ≡ before ++ s ∷ (after ++ ys)
    on before after s is = ap (λ (l : List (LoggedStep E A)). l ++ ys) is ∙ append_assoc before (s ∷ after) ys

-- These words stood when the step was made, and it found the word at its place.
pub record FoundThen (sides : ℕ) (z : Sizes) (words : List ℕ) (s : Step) : Type 0 where
  pub then : List ℕ
  pub same : SameReached sides z words then
  pub found : s.word ≡ get_or then s.place 0

module _ {E A W : Type 0} (sides : ℕ) (two : sides ≤ 2) (caller : E → ℕ) (opens : List ℕ) (z : Sizes) where
  -- Each of some calm steps that isn't a store found a word that stood there.
  pub calm_finds : (p : ℕ) (v w : SeatView E A W) (steps : List Step) → z.passes ≡ 1 → p < z.passes → IsRun sides caller opens z w.order
      → BeginsWith w.order v.order → made_by p w.order ≡ made_by p v.order ++ steps
      → ((s : Step) → IsIn s steps → is_calm s.kind ≡ true) → (s : Step) → IsIn s steps → stores s.kind ≡ false
      → FoundThen sides z (replayed opens (entries_of v.order)) s
  calm_finds p v w steps one low run begins made calm s i silent =
      let rest : List (LoggedStep E A) = begins.0 in
      let split : w.order ≡ v.order ++ rest = begins.1 in
      let run_all : IsRun sides caller opens z (v.order ++ rest) = subst (λ (o : List (LoggedStep E A)). IsRun sides caller opens z o) split
      run in
      let mine : made_by p rest ≡ steps = append_cancel_left (made_by p v.order) (made_by p rest) steps
      (sym (ap (made_by p) split ∙ made_append p v.order rest) ∙ made) in
      let e = entry_of_step p rest s (subst (λ (l : List Step). IsIn s l) (sym mine) i) in
      let parts = split_at e.0 rest e.1.0 in
      let first : List (LoggedStep E A) = parts.0 in
      let whole : v.order ++ rest ≡ (v.order ++ first) ++ e.0 ∷ parts.1.0 = ap (λ (l : List (LoggedStep E A)). v.order ++ l) parts.1.1
      ∙ sym (append_assoc v.order first (e.0 ∷ parts.1.0)) in
      let front : IsRun sides caller opens z (v.order ++ first) = run_front sides caller opens z (v.order ++ first) (e.0 ∷ parts.1.0)
      (subst (λ (o : List (LoggedStep E A)). IsRun sides caller opens z o) whole run_all) in
      let found = (run_all.finds (v.order ++ first) parts.1.0 e.0 whole).found
      (subst (λ (t : Step). stores t.kind ≡ false) (sym e.1.1) silent) in record {
        then = replayed opens (entries_of (v.order ++ first));
        same = all_stay sides two caller opens z v.order first front
            (λ t j. calm t.entry.step (subst (λ (l : List Step). IsIn t.entry.step l) mine
            (all_own z.passes p rest one low (λ x k. run_all.made x (in_right x v.order rest k)) t
            (subst (λ (l : List (LoggedStep E A)). IsIn t l) (sym parts.1.1) (in_left t first (e.0 ∷ parts.1.0) j)))));
        found = subst (λ (t : Step). t.word ≡ get_or (replayed opens (entries_of (v.order ++ first))) t.place 0) e.1.1 found;
      }
