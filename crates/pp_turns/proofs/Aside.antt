-- Steps aside from the structure count for nothing.
use Rattle.std.proofs.Common.{◌≡◌, ℕ, ◌+◌, Bool, true, cond, List, [], ◌∷◌, ◌++◌, map, length, refl, sym, ap, ◌∙◌, subst, ⊎_elim}
use Rattle.std.proofs.Common.{append-nil, arith}
use Rattle.std.specs.Prelude.{◌||◌, nat_eq}
use Rattle.pp_link.specs.declared.layout.Sizes.{Sizes}
use Rattle.pp_model.specs.declared.Call.{Call}
use Rattle.pp_model.specs.declared.Change.{Change}
use Rattle.pp_model.specs.declared.Placed.{Placed}
use Rattle.pp_model.specs.declared.steps.Step.{Step}
use Rattle.pp_rule.specs.declared.views.PassState.{PassState}
use Rattle.pp_rule.specs.declared.views.SeatView.{SeatView}
use Rattle.pp_rule.specs.Causes.{Reader, memory_after, lost_from}
use Rattle.pp_rule.specs.Lists.{IsIn}
use Rattle.pp_rule.specs.Orders.{log_of, placed_by, write_step, clear_step}
use Rattle.pp_rule.specs.Steps.{MadeQuietStep}
use Rattle.pp_rule.proofs.Made.{placed_after}
use Rattle.pp_rule.proofs.Put.{in_nil, in_first, in_later, in_either, in_one, in_cases}
use Rattle.pp_base.specs.Named.{NamedStep, name_of, Made}
use Rattle.pp_calls.proofs.Growing.{stepped_none, stepped_one, stepped_both, stepped_made}
use Rattle.pp_calls.proofs.Remaining.{stands_one, stands_made}
use Rattle.pp_calls.specs.Steps.{StandsThen}
use Rattle.pp_shelf.specs.Runs.{map_sizes, steps_made}
use Rattle.pp_purse.specs.Steps.{is_purse_step, PurseSteps}
use Rattle.pp_turns.specs.Tallies.{Tally, losing, effected, tally, StrikesNone}
use Rattle.pp_turns.specs.Turns.{Ran}
use Rattle.pp_turns.specs.Causes.{is_aside, Aside, PassesOver}
use Rattle.pp_turns.proofs.Tallies.{tally_quiet, tally_later}
use Rattle.pp_turns.proofs.Stretches.{stepped_steps, stretch_both, steps_none, steps_named, own_before, ran_as}
use Rattle.pp_turns.proofs.Placing.{unplaced_none, unplaced_made, unplaced_on}

aside_purse : (z : Sizes) (s : NamedStep) → is_purse_step z s ≡ true → is_aside z s ≡ true
aside_purse z s is = ap (λ (c : Bool). c || (nat_eq s.kind clear_step || nat_eq s.kind write_step)) is

in_names : (s : Step) (steps : List Step) → IsIn s steps → IsIn (name_of s) (map name_of steps)
in_names s [] i = absurd (in_nil s i)
in_names s (t ∷ steps) i = ⊎_elim (λ (here : s ≡ t). subst (λ (x : Step). IsIn (name_of x) (map name_of (t ∷ steps))) (sym here)
    (in_first (name_of t) (map name_of steps)))
    (λ (later : IsIn s steps). in_later (name_of s) (name_of t) (map name_of steps) (in_names s steps later)) (in_cases s t steps i)

-- the steps that are named
pub named_in : (P : NamedStep → Type 0) (steps : List Step) (names : List NamedStep) → map name_of steps ≡ names
    → ((n : NamedStep) → IsIn n names → P n) → (s : Step) → IsIn s steps → P (name_of s)
named_in P steps names is each s i = each (name_of s) (subst (λ (l : List NamedStep). IsIn (name_of s) l) is (in_names s steps i))

module _ {W : Type 0} (z : Sizes) where
  pub aside_none : (v w : SeatView Change Placed W) → w ≡ v → Aside z v w
  aside_none v w is = record {
    stepped = stepped_none v w is;
    stands = λ own stands. subst StandsThen (sym is) stands;
    unplaced = unplaced_none v w is;
    each = λ s i. absurd (in_nil s (subst (λ (l : List Step). IsIn s l) (steps_none v w is) i));
  }

  -- steps by their names
  pub aside_made : (names : List NamedStep) (v w : SeatView Change Placed W) → Made names v w
      → ((s : NamedStep) → IsIn s names → is_aside z s ≡ true) → Aside z v w
  aside_made names v w m each = record {
    stepped = stepped_made names v w m;
    stands = λ own stands. stands_made names v w m own stands;
    unplaced = unplaced_made names v w m;
    each = named_in (λ n. is_aside z n ≡ true) (steps_made v w) names (steps_named names v w m) each;
  }

  pub aside_at_purse : (names : List NamedStep) (v w : SeatView Change Placed W) → PurseSteps z names v w → Aside z v w
  aside_at_purse names v w m = aside_made names v w m.made (λ s i. aside_purse z s (m.each s i))

  -- one step, whatever the pass knows after it
  pub aside_one : {kind place word left : ℕ} {known : PassState W} (v w : SeatView Change Placed W)
      → MadeQuietStep kind place word left known v w → known.number ≡ v.known.number
      → is_aside z (record { kind = kind; place = place; word = word }) ≡ true → Aside z v w
  unfolding stepped_one
  aside_one {kind} {place} {word} {left} {known} v w m number good = record {
    stepped = stepped_one v w m number;
    stands = λ own stands. stands_one v w m number own stands;
    unplaced = placed_after kind place word left [] [] known v w m number ∙ append-nil (placed_by v.known.number v.order);
    each = λ s i. subst (λ (x : Step). is_aside z (name_of x) ≡ true)
        (in_one s step (subst (λ (l : List Step). IsIn s l) (stepped_steps v w (stepped_one v w m number)) i)) good;
  }
    where
      step : Step
      step = record { kind = kind; place = place; word = word; seen = length (log_of w.order); owned = length known.owned }

  pub aside_both : (u v w : SeatView Change Placed W) → Aside z u v → Aside z v w → Aside z u w
  aside_both u v w a b = record {
    stepped = stepped_both u v w a.stepped b.stepped;
    stands = λ own stands. b.stands own (a.stands (own_before v w b.stepped own) stands);
    unplaced = unplaced_on u v w a.stepped.number a.unplaced b.unplaced;
    each = λ s i. ⊎_elim (λ (first : IsIn s (steps_made u v)). a.each s first) (λ (second : IsIn s (steps_made v w)). b.each s second)
        (in_either s (steps_made u v) (steps_made v w) (subst (λ (l : List Step). IsIn s l)
        (stretch_both u v w a.stepped b.stepped) i));
  }

module _ (r : Reader Call) (z : Sizes) (over : PassesOver r z) (call : Call) where
  strikes_none : (m : r.Memory) (steps : List Step) → ((s : Step) → IsIn s steps → is_aside z (name_of s) ≡ true)
      → StrikesNone r (map_sizes z) call m steps
  strikes_none m [] each = tt
  strikes_none m (s ∷ steps) each = (
    over.idles call m s (each s (in_first s steps)),
    strikes_none (r.next (map_sizes z) call m s) steps (λ n i. each n (in_later n s steps i)),
  )

  loses_none : (m : r.Memory) (steps : List Step) → ((s : Step) → IsIn s steps → is_aside z (name_of s) ≡ true)
      → lost_from r (map_sizes z) call m steps ≡ 0
  unfolding lost_from
  loses_none m [] each = refl
  loses_none m (s ∷ steps) each = let m' : r.Memory = r.next (map_sizes z) call m s in
      let one : Bool → ℕ = λ b. cond b 1 0 in
      let here : one (r.loses (map_sizes z) call m s) ≡ 0 = ap one (over.keeps call m s (each s (in_first s steps))) in
      let rest = loses_none m' steps (λ n i. each n (in_later n s steps i)) in omega arith

  module _ {W : Type 0} (v w : SeatView Change Placed W) (a : Aside z v w) where
    made : (t : Tally r.Memory) → Ran r (map_sizes z) call t (tally r (map_sizes z) call t (steps_made v w)) v w
    made t = record { stepped = a.stepped; read = refl; stands = a.stands }

    -- before the call took effect
    pub counts_losing : (memory : r.Memory) (n : ℕ)
        → Ran r (map_sizes z) call (losing memory n) (losing (memory_after r (map_sizes z) call memory (steps_made v w)) n) v w
    counts_losing memory n = let none = loses_none memory (steps_made v w) a.each in
        let e : n + lost_from r (map_sizes z) call memory (steps_made v w) ≡ n = omega arith in
        ran_as r (map_sizes z) call (losing memory n) _ _ v w
        (tally_quiet r (map_sizes z) call memory n (steps_made v w) (strikes_none memory (steps_made v w) a.each)
        ∙ ap (losing (memory_after r (map_sizes z) call memory (steps_made v w))) e) (made (losing memory n))

    -- after it
    pub counts_effected : (memory : r.Memory) (n early : ℕ) (later : List Step)
        → Ran r (map_sizes z) call (effected memory n early later)
        (effected (memory_after r (map_sizes z) call memory (steps_made v w)) n early (later ++ steps_made v w)) v w
    counts_effected memory n early later = let none = loses_none memory (steps_made v w) a.each in
        let e : n + lost_from r (map_sizes z) call memory (steps_made v w) ≡ n = omega arith in
        ran_as r (map_sizes z) call (effected memory n early later) _ _ v w
        (tally_later r (map_sizes z) call memory n early later (steps_made v w)
        ∙ ap (λ (k : ℕ). effected (memory_after r (map_sizes z) call memory (steps_made v w)) k early (later ++ steps_made v w)) e)
        (made (effected memory n early later))

  module _ {W : Type 0} (names : List NamedStep) (v w : SeatView Change Placed W) (m : Made names v w)
      (each : (s : NamedStep) → IsIn s names → is_aside z s ≡ true) where
    -- by names, before it took effect
    pub aside_losing : (memory : r.Memory) (n : ℕ)
        → Ran r (map_sizes z) call (losing memory n) (losing (memory_after r (map_sizes z) call memory (steps_made v w)) n) v w
    aside_losing = counts_losing v w (aside_made z names v w m each)

    -- and after it
    pub aside_effected : (memory : r.Memory) (n early : ℕ) (later : List Step)
        → Ran r (map_sizes z) call (effected memory n early later)
        (effected (memory_after r (map_sizes z) call memory (steps_made v w)) n early (later ++ steps_made v w)) v w
    aside_effected = counts_effected v w (aside_made z names v w m each)
