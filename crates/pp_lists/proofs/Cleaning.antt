-- As many records are attached as there are pairs exactly where no attached record is removed.
use Rattle.std.proofs.Common.{◌≡◌, ℕ, ◌+◌, ◌≤◌, List, [], ◌∷◌, length, refl, sym, ap, ◌∙◌, subst, ⊎_elim, arith, Bool, true}
use Rattle.std.proofs.Common.{false, cond, eqb, eq-eqb, ne_eqb}
use Rattle.std.proofs.Math.Decide.{ℕ_discrete}
use mathlib.Core.Logic.{dite}
use Rattle.pp_link.specs.declared.layout.Sizes.{Sizes}
use Rattle.pp_link.specs.Links.{target}
use Rattle.pp_link.specs.Places.{IsNumber}
use Rattle.pp_link.specs.Words.{head_word, cell_word}
use Rattle.pp_model.specs.History.{contents_of}
use Rattle.pp_rule.specs.Lists.{IsIn, Once, without}
use Rattle.pp_rule.specs.Orders.{log_of}
use Rattle.pp_rule.specs.States.{attached, Leads}
use Rattle.pp_rule.specs.Rule.{Base}
use Rattle.pp_rule.specs.Reached.{Reached}
use Rattle.pp_rule.specs.Reached.Reached.{by_head, by_link}
use Rattle.pp_rule.specs.Causes.{CountsAttached}
use Rattle.pp_rule.proofs.Put.{in_nil, in_first, in_later, in_cases}
use Rattle.pp_rule.proofs.Without.{once_tail, once_head, without_in}
use Rattle.pp_rule.proofs.Occurrences.{once_counted}
use Rattle.pp_model.specs.declared.Pair.{Pair}
use Rattle.pp_rule.proofs.Reaching.{reached_attached}
use Rattle.pp_lists.specs.Contents.{list_alive}
use Rattle.pp_rule.specs.Opening.{opening_words}
use Rattle.pp_rule.proofs.OpeningWords.{opening_head}
use Rattle.pp_lists.specs.Lists.{ListState, Lists, list_head, list_field}
use Rattle.pp_lists.specs.Clean.{IsBare}
use Rattle.pp_lists.proofs.Closing.{IsAlive, live_in, live_once, live_all, low_bucket, told_gathered, contents_are, list_reached}

no_longer : (n : ℕ) (ys : List ℕ) → length (without n ys) ≤ length ys
no_longer n [] = omega arith
no_longer n (y ∷ ys) = by (eqb y n) (no_longer n ys)
  where
    by : (b : Bool) → length (without n ys) ≤ length ys → length (cond b (without n ys) (y ∷ without n ys)) ≤ length (y ∷ ys)
    by true rest = omega arith
    by false rest = omega arith

-- a list without a number that stands there is shorter
shorter : (n : ℕ) (ys : List ℕ) → IsIn n ys → length (without n ys) + 1 ≤ length ys
shorter n [] i = absurd (in_nil n i)
shorter n (y ∷ ys) i = dite (ℕ_discrete y n)
    (λ e. let same : without n (y ∷ ys) ≡ without n ys = ap (λ (b : Bool). cond b (without n ys) (y ∷ without n ys)) (eq-eqb y n e) in
    let long : length (without n (y ∷ ys)) ≡ length (without n ys) = ap (λ (l : List ℕ). length l) same in
    let few = no_longer n ys in omega arith)
    (λ ne. let same : without n (y ∷ ys) ≡ y ∷ without n ys = ap (λ (b : Bool). cond b (without n ys) (y ∷ without n ys)) (ne_eqb y n ne) in
    let long : length (without n (y ∷ ys)) ≡ length (without n ys) + 1 = ap (λ (l : List ℕ). length l) same ∙ (omega arith) in
    ⊎_elim (λ (e : n ≡ y). absurd (ne (sym e))) (λ (later : IsIn n ys). let less = shorter n ys later in omega arith) (in_cases n y ys i))

-- A list of distinct numbers in one that is no longer has all of them.
pigeon : (xs ys : List ℕ) → Once xs → ((n : ℕ) → IsIn n xs → IsIn n ys) → length ys ≤ length xs → (n : ℕ) → IsIn n ys → IsIn n xs
pigeon [] [] once inside few n i = i
pigeon [] (y ∷ ys) once inside few n i = absurd (omega arith)
pigeon (x ∷ xs) ys once inside few n i = dite (ℕ_discrete n x)
    (λ e. subst (λ (k : ℕ). IsIn k (x ∷ xs)) (sym e) (in_first x xs))
    (λ ne. let less = shorter x ys (inside x (in_first x xs)) in
    in_later n x xs (pigeon xs (without x ys) (once_tail (λ k. k) x xs once)
    (λ m j. without_in x m ys (inside m (in_later m x xs j)) (λ e. once_head (λ k. k) x xs once m j e))
    (omega arith) n (without_in x n ys i ne)))

module _ (z : Sizes) (words : List ℕ) (g : ListState) (b : Base 1 z words g) (lists : Lists z words g) where
  alive_once : Once (list_alive z words)
  alive_once = once_counted (list_alive z words) (λ n. live_once z words g b lists z.heads n (omega arith))

  -- as many are live as there are pairs
  alive_many : length (list_alive z words) ≡ length (contents_of (log_of g.order))
  alive_many = (told_gathered z words g b lists).1 ∙ ap (λ (l : List Pair). length l) (contents_are z words g b lists)

  alive_is : (n : ℕ) → IsIn n (list_alive z words) → IsAlive z words g b lists n
  alive_is n i = (live_in z words g b lists z.heads n (omega arith) i).0

  alive_of : (n : ℕ) → IsAlive z words g b lists n → IsIn n (list_alive z words)
  alive_of n a = live_all z words g b lists z.heads n (omega arith) a (low_bucket z words g b lists n)

  -- a number that can be reached is that of a record
  reached_number : (n : ℕ) → 1 ≤ n → Reached 1 z words n → IsNumber z n
  reached_number n some (by_head h low to) = number_led n some (head_word words z h) (b.links.heads h low) to
    where
      number_led : (n : ℕ) → 1 ≤ n → (w : ℕ) → Leads z g.status w → target w ≡ n → IsNumber z n
      number_led n some w l to = ⊎_elim (λ (nil : target w ≡ 0). absurd (omega arith))
          (λ (t : IsNumber z (target w) × (g.status (target w) ≡ attached)). subst (IsNumber z) to t.0) l.to
  reached_number n some (by_link m side is low to r) =
      number_led n some (cell_word words z m (2 + side)) (b.links.linked m side is low (reached_attached 1 z words g b m is r)) to
    where
      number_led : (n : ℕ) → 1 ≤ n → (w : ℕ) → Leads z g.status w → target w ≡ n → IsNumber z n
      number_led n some w l to = ⊎_elim (λ (nil : target w ≡ 0). absurd (omega arith))
          (λ (t : IsNumber z (target w) × (g.status (target w) ≡ attached)). subst (IsNumber z) to t.0) l.to

  -- Where as many records are attached as there are pairs, none of them is removed.
  pub clean_bare : CountsAttached (Reached 1 z words) (length (contents_of (log_of g.order))) → IsBare z words
  clean_bare c n number reached = let inside : IsIn n (list_alive z words) = pigeon (list_alive z words) c.numbers alive_once
      (λ m i. let a = alive_is m i in c.all m a.number.0 (list_reached z words g m b lists a.number a.state))
      (let many = alive_many in let count = c.count_is in omega arith) n (c.all n number.0 reached) in
      (alive_is n inside).plain

  -- Where none is removed, as many are attached as there are pairs.
  pub bare_clean : IsBare z words → CountsAttached (Reached 1 z words) (length (contents_of (log_of g.order)))
  bare_clean bare = record {
    numbers = list_alive z words;
    count_is = alive_many;
    once = alive_once;
    each = λ n i. let a = alive_is n i in (a.number.0, list_reached z words g n b lists a.number a.state);
    all = λ n some reached. let number = reached_number n some reached in
        alive_of n record { number = number; state = reached_attached 1 z words g b n number reached; plain = bare n number reached };
  }

-- no record of a list that opens can be reached
none_open : (z : Sizes) (n : ℕ) → 1 ≤ n → Reached 1 z (opening_words 0 list_head list_field z) n → ⊥
none_open z n some (by_head h low to) =
    let nil : target (head_word (opening_words 0 list_head list_field z) z h) ≡ 0 = ap target (opening_head 0 list_head list_field z h low)
    in
    omega arith
none_open z n some (by_link m side is low to r) = none_open z m is.0 r

-- so it opens clean
pub clean_open : (z : Sizes) → CountsAttached (Reached 1 z (opening_words 0 list_head list_field z)) 0
clean_open z = record {
  numbers = [];
  count_is = refl;
  once = λ k l x y at_k at_l e. absurd (in_nil x (k, at_k));
  each = λ n i. absurd (in_nil n i);
  all = λ n some r. absurd (none_open z n some r);
}
