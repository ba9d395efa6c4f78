-- How a list's reader counts the steps of a turn, by their names.
use Rattle.std.proofs.Common.{◌≡◌, ◌≢◌, ◌⊎◌, ℕ, ◌+◌, ◌*◌, ◌<◌, ◌≤◌, Bool, true, false, List, [], ◌∷◌, ◌++◌, map, refl, sym, ap, ◌∙◌, subst}
use Rattle.std.proofs.Common.{⊎_elim, inl, inr, arith, eqb-true, ltb-true, ne_eqb}
use Rattle.std.specs.Prelude.{◌||◌, ◌&&◌, nat_eq, nat_lt, not}
use Rattle.std.proofs.Math.Bool.{false≢true}
use Rattle.pp_link.specs.declared.layout.Sizes.{Sizes}
use Rattle.pp_model.specs.declared.Call.{Call}
use Rattle.pp_model.specs.declared.steps.Step.{Step}
use Rattle.pp_model.specs.Pass.{MapSizes}
use Rattle.pp_rule.specs.Causes.{memory_after, lost_from}
use Rattle.pp_rule.specs.Orders.{missed_step}
use Rattle.pp_rule.proofs.Put.{in_first, in_later, in_one}
use Rattle.pp_base.specs.Named.{NamedStep, name_of, misses}
use Rattle.pp_shelf.specs.Runs.{map_sizes}
use Rattle.pp_purse.specs.Steps.{is_purse_step}
use Rattle.pp_lists.specs.Turns.{mark_step, publish_step}
use Rattle.pp_lists.specs.Losses.{is_find, one_if, finds, is_effect, has_flag, list_reader}
use Rattle.pp_lists.proofs.Losing.{finds_none, finds_more, IsIdleKind, idle_finds, shelf_finds, AreEarly}
use Rattle.pp_lists.proofs.Reading.{lost_read}
use Rattle.pp_turns.specs.Tallies.{losing, effected, tally, StrikesNone}
use Rattle.pp_turns.specs.Causes.{is_aside, PassesOver}
use Rattle.pp_turns.proofs.Tallies.{tally_quiet, tally_later}

either : (a b : Bool) → a || b ≡ true → (a ≡ true) ⊎ (b ≡ true)
either true b e = inl refl
either false b e = inr e

both : (a b : Bool) → a && b ≡ true → (a ≡ true) × (b ≡ true)
both true b e = (refl, e)
both false b e = absurd (false≢true e)

-- a step of one of these kinds, or a failed exchange at a shelf word
abbrev IsAside : Sizes → NamedStep → Type 0
IsAside z s = (IsIdleKind s.kind × (s.kind ≢ publish_step)) ⊎ ((s.kind ≡ missed_step) × (s.place ≤ 17 * z.passes))

idle_kind : (k : ℕ) → k ≢ 4 → k ≢ 6 → k ≢ 11 → k ≢ 18 → IsIdleKind k
idle_kind k a b c d = record { load = a; confirm = b; miss = c; mark = d }

kind_of : (z : Sizes) (s : NamedStep) (k : ℕ) → nat_eq s.kind k ≡ true → k ≢ 4 → k ≢ 6 → k ≢ 11 → k ≢ 18 → k ≢ 17 → IsAside z s
kind_of z s k e a b c d f = let is : s.kind ≡ k = eqb-true s.kind k e in
    inl (subst IsIdleKind (sym is) (idle_kind k a b c d), λ no. f (sym is ∙ no))

-- what a step aside may be
aside_is : (z : Sizes) (s : NamedStep) → is_aside z s ≡ true → IsAside z s
aside_is z s e = ⊎_elim
    (λ (p : is_purse_step z s ≡ true). purse p)
    (λ (x : nat_eq s.kind 7 || nat_eq s.kind 1 ≡ true). ⊎_elim
    (λ (y : nat_eq s.kind 7 ≡ true). kind_of z s 7 y (λ i. omega arith) (λ i. omega arith) (λ i. omega arith) (λ i. omega arith)
    (λ i. omega arith))
    (λ (y : nat_eq s.kind 1 ≡ true). kind_of z s 1 y (λ i. omega arith) (λ i. omega arith) (λ i. omega arith) (λ i. omega arith)
    (λ i. omega arith))
    (either (nat_eq s.kind 7) (nat_eq s.kind 1) x))
    (either (is_purse_step z s) (nat_eq s.kind 7 || nat_eq s.kind 1) e)
  where
    last : (nat_eq s.kind 11 && nat_lt s.place (1 + 17 * z.passes)) ≡ true → IsAside z s
    last x = let y = both (nat_eq s.kind 11) (nat_lt s.place (1 + 17 * z.passes)) x in
        let low : s.place < 1 + 17 * z.passes = ltb-true s.place (1 + 17 * z.passes) y.1 in
        let most : s.place ≤ 17 * z.passes = omega arith in inr (eqb-true s.kind 11 y.0, most)

    purse : is_purse_step z s ≡ true → IsAside z s
    purse e0 = ⊎_elim
        (λ (x : nat_eq s.kind 12 ≡ true). kind_of z s 12 x (λ i. omega arith) (λ i. omega arith) (λ i. omega arith) (λ i. omega arith)
        (λ i. omega arith))
        (λ e1. ⊎_elim
        (λ (x : nat_eq s.kind 14 ≡ true). kind_of z s 14 x (λ i. omega arith) (λ i. omega arith) (λ i. omega arith) (λ i. omega arith)
        (λ i. omega arith))
        (λ e2. ⊎_elim
        (λ (x : nat_eq s.kind 15 ≡ true). kind_of z s 15 x (λ i. omega arith) (λ i. omega arith) (λ i. omega arith) (λ i. omega arith)
        (λ i. omega arith))
        (λ e3. ⊎_elim
        (λ (x : nat_eq s.kind 16 ≡ true). kind_of z s 16 x (λ i. omega arith) (λ i. omega arith) (λ i. omega arith) (λ i. omega arith)
        (λ i. omega arith))
        (λ e4. ⊎_elim
        (λ (x : nat_eq s.kind 25 ≡ true). kind_of z s 25 x (λ i. omega arith) (λ i. omega arith) (λ i. omega arith) (λ i. omega arith)
        (λ i. omega arith))
        (λ e5. ⊎_elim
        (λ (x : nat_eq s.kind 26 ≡ true). kind_of z s 26 x (λ i. omega arith) (λ i. omega arith) (λ i. omega arith) (λ i. omega arith)
        (λ i. omega arith))
        last (either _ _ e5)) (either _ _ e4)) (either _ _ e3)) (either _ _ e2)) (either _ _ e1)) (either _ _ e0)

one_false : (b : Bool) → one_if b ≡ 0 → b ≡ false
one_false true e = absurd (omega arith)
one_false false e = refl

find_false : (z : Sizes) (before : List NamedStep) (s : NamedStep) → finds (map_sizes z) before (s ∷ []) ≡ 0 → is_find (map_sizes z) before
    s ≡ false
find_false z before s none = let more = finds_more (map_sizes z) before s [] in let rest = finds_none (map_sizes z) (s ∷ before) in
    one_false (is_find (map_sizes z) before s) (omega arith)

-- nothing is found by such a step
aside_finds : (z : Sizes) (before : List NamedStep) (s : NamedStep) → IsAside z s → is_find (map_sizes z) before s ≡ false
aside_finds z before s a = ⊎_elim
    (λ (idle : IsIdleKind s.kind × (s.kind ≢ publish_step)). find_false z before s (idle_finds (map_sizes z) before (s ∷ [])
    (λ t i. subst (λ (u : NamedStep). IsIdleKind u.kind) (in_one t s i) idle.0)))
    (λ (m : (s.kind ≡ missed_step) × (s.place ≤ 17 * z.passes)).
    subst (λ (k : ℕ). is_find (map_sizes z) before (record { kind = k; place = s.place; word = s.word }) ≡ false) (sym m.0)
    (find_false z before (misses s.place s.word) (shelf_finds (map_sizes z) before s.place s.word m.1))) a

aside_early : (z : Sizes) (s : NamedStep) → IsAside z s → is_effect s ≡ false
aside_early z s a = ⊎_elim
    (λ (idle : IsIdleKind s.kind × (s.kind ≢ publish_step)). ap (λ (b : Bool). b || (nat_eq s.kind mark_step && not (has_flag s.word)))
    (ne_eqb s.kind publish_step idle.1)
    ∙ ap (λ (b : Bool). b && not (has_flag s.word)) (ne_eqb s.kind mark_step idle.0.mark))
    (λ (m : (s.kind ≡ missed_step) × (s.place ≤ 17 * z.passes)).
    ap (λ (k : ℕ). nat_eq k publish_step || (nat_eq k mark_step && not (has_flag s.word))) m.0) a

-- A list's reader passes over steps aside.
pub list_over : (z : Sizes) → PassesOver list_reader z
list_over z = record {
  keeps = λ call m s e. aside_finds z m (name_of s) (aside_is z (name_of s) e);
  idles = λ call m s e. aside_early z (name_of s) (aside_is z (name_of s) e);
}

-- The steps of these names, of which so many lose a turn.
module _ (z : MapSizes) (call : Call) (names : List NamedStep) (lost : ℕ)
    (counts : (earlier : List NamedStep) → finds z earlier names ≡ lost) where
  lost_named : (m : List NamedStep) (steps : List Step) → map name_of steps ≡ names → lost_from list_reader z call m steps ≡ lost
  lost_named m steps is = lost_read z call m steps ∙ (ap (finds z m) is ∙ counts m)

  strikes_none : (m : List NamedStep) (steps : List Step) → AreEarly (map name_of steps) → StrikesNone list_reader z call m steps
  strikes_none m [] quiet = tt
  strikes_none m (s ∷ steps) quiet = (
    quiet (name_of s) (in_first (name_of s) (map name_of steps)),
    strikes_none (name_of s ∷ m) steps (λ n i. quiet n (in_later n (name_of s) (map name_of steps) i)),
  )

  -- before the call took effect, which it doesn't at them
  pub named_losing : AreEarly names → (m : List NamedStep) (n : ℕ) (steps : List Step) → map name_of steps ≡ names
      → tally list_reader z call (losing m n) steps ≡ losing (memory_after list_reader z call m steps) (n + lost)
  named_losing early m n steps is = tally_quiet list_reader z call m n steps (strikes_none m steps (subst AreEarly (sym is) early))
      ∙ ap (λ (k : ℕ). losing (memory_after list_reader z call m steps) (n + k)) (lost_named m steps is)

  -- and after it
  pub named_later : (m : List NamedStep) (n few : ℕ) (later steps : List Step) → map name_of steps ≡ names
      → tally list_reader z call (effected m n few later) steps
      ≡ effected (memory_after list_reader z call m steps) (n + lost) few (later ++ steps)
  named_later m n few later steps is = tally_later list_reader z call m n few later steps
      ∙ ap (λ (k : ℕ). effected (memory_after list_reader z call m steps) (n + k) few (later ++ steps)) (lost_named m steps is)
