-- What callers see of a pass grows with each of its steps.
use Rattle.std.proofs.Common.{◌≡◌, ℕ, zero, suc, ◌+◌, ◌<◌, ◌≤◌, ⊎_elim, Bool, false, ◌&&◌, List, [], ◌∷◌, ◌++◌, map, length}
use Rattle.std.proofs.Common.{Some, refl, sym, ap, ◌∙◌, subst, append_assoc, append-nil, length-append, arith}
use Rattle.std.specs.Prelude.{drop, slice_get}
use Rattle.std.proofs.lemmas.Option.{slice_get_within}
use Rattle.std.proofs.Math.Seq.{drop-append_seam}
use Rattle.pp_link.specs.declared.layout.Sizes.{Sizes}
use Rattle.pp_model.specs.declared.Change.{Change}
use Rattle.pp_model.specs.declared.Placed.{Placed}
use Rattle.pp_model.specs.declared.steps.Step.{Step}
use Rattle.pp_model.specs.Lists.{AtEach, IsPrefix}
use Rattle.pp_model.specs.Pass.{PassView, seen_last, steps_since}
use Rattle.pp_model.specs.MapCalls.{Grew}
use Rattle.pp_rule.specs.declared.views.PassState.{PassState}
use Rattle.pp_rule.specs.declared.views.SeatView.{SeatView}
use Rattle.pp_rule.specs.Lists.{IsIn, BeginsWith}
use Rattle.pp_rule.specs.Orders.{log_of, made_by, placed_by, entries_of}
use Rattle.pp_rule.specs.Steps.{MadeStep}
use Rattle.pp_rule.proofs.Made.{known_after, order_begins, seen_begins, steps_after, placed_after}
use Rattle.pp_rule.proofs.Histories.{begins_through, log_begins, entries_append}
use Rattle.pp_rule.proofs.Put.{in_nil, in_first, in_later, in_either, in_one}
use Rattle.pp_base.specs.Named.{NamedStep, name_of, Made}
use Rattle.pp_calls.specs.PoolViews.{pool_view, link_writes, is_link_write, is_link_place, is_writing, one_at}
use Rattle.pp_calls.specs.Steps.{WriteNone, SeeBetween, Went, Stepped}

-- the last of two lists of steps
pub last_of : (d : ℕ) (xs ys : List Step) → 0 < length ys → seen_last d (xs ++ ys) ≡ seen_last 0 ys
last_of d [] (y ∷ ys) some_made = refl
last_of d [] [] some_made = absurd (omega arith)
last_of d (x ∷ xs) ys some_made = last_of x.seen xs ys some_made

-- link writes are counted in each part
pub writes_append : (z : Sizes) (xs ys : List Step) → link_writes z (xs ++ ys) ≡ link_writes z xs + link_writes z ys
unfolding link_writes
writes_append z [] ys = let e : 0 + link_writes z ys ≡ link_writes z ys = omega arith in sym e
writes_append z (x ∷ xs) ys = let ih = writes_append z xs ys in omega (arith, ih)

pub none_written : (z : Sizes) (xs : List Step) → WriteNone xs → link_writes z xs ≡ 0
unfolding link_writes
none_written z [] n = refl
none_written z (x ∷ xs) n = let ih = none_written z xs n.1 in
    let here : one_at (is_link_write z x) ≡ 0 = ap (λ (b : Bool). one_at (b && is_link_place z x.place)) n.0 in
    omega (arith, ih, here)

-- steps whose names are of no writing kind
pub kinds_none : (steps : List Step) → ((n : NamedStep) → IsIn n (map name_of steps) → is_writing n.kind ≡ false)
    → WriteNone steps
kinds_none [] none = tt
kinds_none (s ∷ steps) none = (
  none (name_of s) (in_first (name_of s) (map name_of steps)),
  kinds_none steps (λ n i. none n (in_later n (name_of s) (map name_of steps) i)),
)

-- what stands at an index of a list stands in it
pub in_slice : {A : Type 0} (x : A) (xs : List A) (k : ℕ) → slice_get xs k ≡ Some x → IsIn x xs
in_slice x [] k e = let long = slice_get_within [] k x e in absurd (omega arith)
in_slice {A} x (y ∷ xs) zero e = let is : y ≡ x = cc in subst (λ (z : A). IsIn z (y ∷ xs)) is (in_first y xs)
in_slice x (y ∷ xs) (suc k) e = in_later x y xs (in_slice x xs k e)

-- a longer list has as many entries and more
pub begins_long : {A : Type 0} (xs first : List A) → BeginsWith xs first → length first ≤ length xs
begins_long xs first b = let e = ap (λ l. length l) b.1 ∙ length-append first b.0 in omega arith

-- two stretches of steps, one after the other
pub saw_both : (low middle high : ℕ) (xs ys : List Step) → low ≤ middle → middle ≤ high → SeeBetween low middle xs
    → SeeBetween middle high ys
    → SeeBetween low high (xs ++ ys)
saw_both low middle high xs ys first second a b s i = ⊎_elim
    (λ (j : IsIn s xs). let is = a s j in let from = is.0 in let to = is.1 in (omega arith, omega arith))
    (λ (j : IsIn s ys). let is = b s j in let from = is.0 in let to = is.1 in (omega arith, omega arith))
    (in_either s xs ys i)

module _ {E A W : Type 0} where
  unfoldable pub stepped_none : (v w : SeatView E A W) → w ≡ v → Stepped v w
  stepped_none v w is = subst (λ (u : SeatView E A W). Stepped v u) (sym is) record {
    number = refl;
    order = ([], sym (append-nil v.order));
    steps = [];
    made = sym (append-nil (made_by v.known.number v.order));
    saw = λ s i. absurd (in_nil s i);
    calls = [];
    placed = sym (append-nil (placed_by v.known.number v.order));
    still = λ _. refl;
    last = λ long. absurd (omega arith);
  }

  -- one step, at which a change may have taken effect or a call may have been placed
  unfoldable pub stepped_one : {kind place word left : ℕ} {changes : List E} {placed : List A} {known : PassState W}
      (v w : SeatView E A W) → MadeStep kind place word left changes placed known v w → known.number ≡ v.known.number
      → Stepped v w
  stepped_one {kind} {place} {word} {left} {changes} {placed} {known} v w m number = record {
    number = ap (λ (q : PassState W). q.number) (known_after kind place word left changes placed known v w m) ∙ number;
    order = order_begins kind place word left changes placed known v w m;
    steps = step ∷ [];
    made = steps_after kind place word left changes placed known v w m number;
    saw = λ s i. subst (λ (x : Step). (length (log_of v.order) ≤ x.seen) × (x.seen ≤ length (log_of w.order))) (in_one s step i) (
      begins_long (log_of w.order) (log_of v.order) (seen_begins kind place word left changes placed known v w m),
      omega arith,
    );
    calls = placed;
    placed = placed_after kind place word left changes placed known v w m number;
    still = λ none. let long = ap (λ (l : List Step). length l) none in absurd (omega arith);
    last = λ long. refl;
  }
    where
      step : Step
      step = record { kind = kind; place = place; word = word; seen = length (log_of w.order); owned = length known.owned }

  -- a pass went on from there
  unfoldable pub went_on : (u v w : SeatView E A W) → Went u v → Stepped v w → Went u w
  went_on u v w a b = record {
    number = b.number ∙ a.number;
    order = begins_through w.order v.order u.order b.order a.order;
    steps = a.steps ++ b.steps;
    made = subst (λ (n : ℕ). made_by n w.order ≡ made_by n v.order ++ b.steps) a.number b.made
        ∙ (ap (λ (l : List Step). l ++ b.steps) a.made ∙ append_assoc (made_by u.known.number u.order) a.steps b.steps);
    saw = saw_both (length (log_of u.order)) (length (log_of v.order)) (length (log_of w.order)) a.steps b.steps
        (begins_long (log_of v.order) (log_of u.order) (log_begins v.order u.order a.order))
        (begins_long (log_of w.order) (log_of v.order) (log_begins w.order v.order b.order)) a.saw b.saw;
    calls = a.calls ++ b.calls;
    placed = subst (λ (n : ℕ). placed_by n w.order ≡ placed_by n v.order ++ b.calls) a.number b.placed
        ∙ (ap (λ (l : List A). l ++ b.calls) a.placed ∙ append_assoc (placed_by u.known.number u.order) a.calls b.calls);
  }

  -- the steps of a stretch, without what is known of its last one
  unfoldable pub went_stepped : (v w : SeatView E A W) → Stepped v w → Went v w
  went_stepped v w s = record {
    number = s.number;
    order = s.order;
    steps = s.steps;
    made = s.made;
    saw = s.saw;
    calls = s.calls;
    placed = s.placed;
  }

  -- It is so after the pass learnt of more steps of others: nothing else that is known of it changed.
  unfoldable pub went_learnt : (u v w : SeatView E A W) → Went u v → w.known ≡ v.known → BeginsWith w.order v.order
      → made_by v.known.number w.order ≡ made_by v.known.number v.order
      → placed_by v.known.number w.order ≡ placed_by v.known.number v.order → Went u w
  went_learnt u v w a same order made placed = record {
    number = ap (λ (q : PassState W). q.number) same ∙ a.number;
    order = begins_through w.order v.order u.order order a.order;
    steps = a.steps;
    made = subst (λ (n : ℕ). made_by n w.order ≡ made_by n v.order) a.number made ∙ a.made;
    saw = λ s i. let was = a.saw s i in let to = was.1 in
        let more = begins_long (log_of w.order) (log_of v.order) (log_begins w.order v.order order) in (was.0, omega arith);
    calls = a.calls;
    placed = subst (λ (n : ℕ). placed_by n w.order ≡ placed_by n v.order) a.number placed ∙ a.placed;
  }

  -- where the last of all steps was made just now, all is seen that it saw
  pub went_last : (u v w : SeatView E A W) (a : Went u v) (b : Stepped v w) → 0 < length b.steps
      → seen_last 0 (a.steps ++ b.steps) ≡ length (log_of w.order)
  went_last u v w a b some_made = last_of 0 a.steps b.steps some_made ∙ b.last some_made

  -- and where further ones may have been none
  pub last_on : (u v w : SeatView E A W) (a : Went u v) (b : Stepped v w) → seen_last 0 a.steps ≡ length (log_of v.order)
      → seen_last 0 (a.steps ++ b.steps) ≡ length (log_of w.order)
  last_on u v w a b was = by b.steps refl
    where
      by : (ys : List Step) → ys ≡ b.steps → seen_last 0 (a.steps ++ b.steps) ≡ length (log_of w.order)
      by [] is = ap (λ (l : List Step). seen_last 0 (a.steps ++ l)) (sym is) ∙ (ap (seen_last 0) (append-nil a.steps)
          ∙ (was ∙ ap (λ l. length l) (sym (b.still (sym is)))))
      by (y ∷ ys) is = went_last u v w a b (subst (λ (l : List Step). 0 < length l) is (omega arith))

  unfoldable pub stepped_went : (u w : SeatView E A W) (a : Went u w) → 0 < length a.steps
      → seen_last 0 a.steps ≡ length (log_of w.order) → Stepped u w
  stepped_went u w a some_made last = record {
    number = a.number;
    order = a.order;
    steps = a.steps;
    made = a.made;
    saw = a.saw;
    calls = a.calls;
    placed = a.placed;
    still = λ none. let long : length a.steps ≡ 0 = ap (λ (l : List Step). length l) none in absurd (omega arith);
    last = λ _. last;
  }

  unfoldable pub stepped_both : (u v w : SeatView E A W) → Stepped u v → Stepped v w → Stepped u w
  unfolding went_on went_stepped
  stepped_both u v w a b = let all : Went u w = went_on u v w (went_stepped u v a) b in record {
    number = all.number;
    order = all.order;
    steps = a.steps ++ b.steps;
    made = all.made;
    saw = all.saw;
    calls = all.calls;
    placed = all.placed;
    still = λ none. b.still (no_later a.steps b.steps none) ∙ a.still (no_first a.steps b.steps none);
    last = ends b.steps refl;
  }
    where
      no_later : (xs ys : List Step) → xs ++ ys ≡ [] → ys ≡ []
      no_later [] ys e = e
      no_later (x ∷ xs) ys e = let long = ap (λ (l : List Step). length l) e in absurd (omega arith)

      no_first : (xs ys : List Step) → xs ++ ys ≡ [] → xs ≡ []
      no_first [] ys e = refl
      no_first (x ∷ xs) ys e = let long = ap (λ (l : List Step). length l) e in absurd (omega arith)

      ends : (ys : List Step) → ys ≡ b.steps → 0 < length (a.steps ++ b.steps)
          → seen_last 0 (a.steps ++ b.steps) ≡ length (log_of w.order)
      ends [] is long = let none : a.steps ++ b.steps ≡ a.steps =
          ap (λ (l : List Step). a.steps ++ l) (sym is) ∙ append-nil a.steps in
          ap (seen_last 0) none
          ∙ (a.last (subst (λ (l : List Step). 0 < length l) none long) ∙ ap (λ l. length l) (sym (b.still (sym is))))
      ends (y ∷ ys) is long = let some_made : 0 < length b.steps = subst (λ (l : List Step). 0 < length l) is (omega arith) in
          last_of 0 a.steps b.steps some_made ∙ b.last some_made

  -- steps by their names
  unfoldable pub stepped_made : (steps : List NamedStep) (v w : SeatView E A W) → Made steps v w → Stepped v w
  stepped_made [] v w is = stepped_none v w is
  stepped_made (s ∷ steps) v w m =
      stepped_both v m.0 w (stepped_one v m.0 m.1.0.made m.1.0.number) (stepped_made steps m.0 w m.1.1)

  -- the steps that were made are those by these names
  pub named_made : (steps : List NamedStep) (v w : SeatView E A W) (m : Made steps v w)
      → map name_of (stepped_made steps v w m).steps ≡ steps
  unfolding stepped_none stepped_made stepped_both stepped_one
  named_made [] v w is = refl
  named_made (s ∷ steps) v w m = ap (λ (l : List NamedStep). s ∷ l) (named_made steps m.0 w m.1.1)

module _ {W : Type 0} (v w : SeatView Change Placed W) (free free' : List ℕ) (share : ℕ) where
  abbrev before : PassView
  before = pool_view v free share

  abbrev now : PassView
  now = pool_view w free' share

  all_made : (n : ℕ) (steps : List Step) → w.known.number ≡ n → made_by n w.order ≡ made_by n v.order ++ steps
      → made_by w.known.number w.order ≡ made_by n v.order ++ steps
  all_made n steps number made = subst (λ (p : ℕ). made_by p w.order ≡ made_by n v.order ++ steps) (sym number) made

  -- the steps that callers see since
  pub since_went : (s : Went v w) → steps_since before now ≡ s.steps
  since_went s = let n : ℕ = v.known.number in
      ap (drop (length (made_by n v.order))) (all_made n s.steps s.number s.made) ∙ drop-append_seam (made_by n v.order) s.steps

  pub since_steps : (s : Stepped v w) → steps_since before now ≡ s.steps
  unfolding went_stepped
  since_steps s = since_went (went_stepped v w s)

  -- The placed calls stay, and new ones come after them.
  pub grew_mine : Went v w → IsPrefix before.mine now.mine
  grew_mine s = (
    s.calls,
    subst (λ (p : ℕ). placed_by p w.order ≡ placed_by v.known.number v.order ++ s.calls) (sym s.number) s.placed,
  )

  -- Each step that was made saw at least what the pass had seen before, and no more than it has seen.
  pub grew_saw : Went v w → AtEach (steps_since before now) (λ k s. (length before.seen ≤ s.seen) × (s.seen ≤ length now.seen))
  grew_saw s = subst (λ (l : List Step). AtEach l (λ k x. (length before.seen ≤ x.seen) × (x.seen ≤ length now.seen)))
      (sym (since_went s)) (λ k x e. s.saw x (in_slice x s.steps k e))

  -- What callers see of the pass grew.
  pub grew : Stepped v w → w.known.sizes ≡ v.known.sizes → Grew before now
  unfolding made_by went_stepped
  grew s sizes = let n : ℕ = v.known.number in
      let made = all_made n s.steps s.number s.made in
      let wrote : link_writes w.known.sizes (made_by w.known.number w.order)
      ≡ link_writes v.known.sizes (made_by n v.order) + link_writes v.known.sizes s.steps =
      ap (λ (l : List Step). link_writes w.known.sizes l) made ∙
      (ap (λ (z : Sizes). link_writes z (made_by n v.order ++ s.steps)) sizes
      ∙ writes_append v.known.sizes (made_by n v.order) s.steps) in record {
        caller = s.number;
        share = refl;
        seen = log_begins w.order v.order s.order;
        steps = (s.steps, made);
        order = (entries_of s.order.0, ap entries_of s.order.1 ∙ entries_append v.order s.order.0);
        wrote = omega (arith, wrote);
        room = omega arith;
        own_steps = refl;
        seen_by = λ long. ap (seen_last 0) (since_steps s)
            ∙ s.last (subst (λ (l : List Step). 0 < length l) (since_steps s) long);
        saw = grew_saw (went_stepped v w s);
        mine = grew_mine (went_stepped v w s);
      }
