-- Steps that count for nothing in a call.
use Rattle.std.proofs.Common.{◌≡◌, ℕ, ◌+◌, Bool, true, false, List, ◌++◌, refl, ap, ◌∙◌}
use Rattle.std.proofs.Common.{arith}
use Rattle.std.specs.Prelude.{◌||◌, ◌&&◌, nat_eq, not}
use Rattle.pp_link.specs.declared.layout.Sizes.{Sizes}
use Rattle.pp_model.specs.declared.Call.{Call}
use Rattle.pp_model.specs.declared.steps.Step.{Step}
use Rattle.pp_rule.specs.Causes.{memory_after}
use Rattle.pp_base.specs.Named.{NamedStep, Made}
use Rattle.pp_calls.specs.PoolViews.{is_writing}
use Rattle.pp_calls.proofs.Growing.{stepped_made}
use Rattle.pp_calls.proofs.Remaining.{stands_made}
use Rattle.pp_shelf.specs.Runs.{map_sizes, steps_made}
use Rattle.pp_lists.specs.Turns.{ListView}
use Rattle.pp_lists.specs.Losses.{is_effect, has_flag, list_reader, finds as finds_in}
use Rattle.pp_turns.specs.Tallies.{losing, effected}
use Rattle.pp_turns.specs.Turns.{Ran}
use Rattle.pp_turns.specs.Causes.{Aside}
use Rattle.pp_turns.proofs.Calm as turns
use Rattle.pp_turns.proofs.Placing.{unplaced_made}
use Rattle.pp_turns.proofs.Stretches.{ran_as, steps_named}
use Rattle.pp_walk.proofs.Counting.{walks_write_none}
use Rattle.pp_walk.specs.Trod.{Idles, WriteNoLink, StrikeNone}
use Rattle.pp_list.specs.Answers.{Calm}
use Rattle.pp_list.proofs.Reading.{list_over, named_losing, named_later}

neither : (a b : Bool) → a || b ≡ false → (a ≡ false) × (b ≡ false)
neither true b e = absurd (true_false e)
  where
    true_false : true ≡ false → ⊥
    true_false e = cc
neither false b e = (refl, e)

kind_effect : (k place word : ℕ) → is_writing k ≡ false → is_effect (record { kind = k; place = place; word = word }) ≡ false
kind_effect k place word none =
    let rest : ℕ → Bool = λ j. nat_eq k j in
    let a = neither (rest 1) (rest 10 || (rest 11 || (rest 12 || (rest 17 || (rest 18 || (rest 20 || (rest 21 || (rest 22 || rest 23))))))))
    none in
    let b = neither (rest 10) (rest 11 || (rest 12 || (rest 17 || (rest 18 || (rest 20 || (rest 21 || (rest 22 || rest 23))))))) a.1 in
    let c = neither (rest 11) (rest 12 || (rest 17 || (rest 18 || (rest 20 || (rest 21 || (rest 22 || rest 23)))))) b.1 in
    let d = neither (rest 12) (rest 17 || (rest 18 || (rest 20 || (rest 21 || (rest 22 || rest 23))))) c.1 in
    let e = neither (rest 17) (rest 18 || (rest 20 || (rest 21 || (rest 22 || rest 23)))) d.1 in
    let f = neither (rest 18) (rest 20 || (rest 21 || (rest 22 || rest 23))) e.1 in
    ap (λ (x : Bool). x || (nat_eq k 18 && not (has_flag word))) e.0 ∙ ap (λ (x : Bool). x && not (has_flag word)) f.0

-- what writes no link takes no effect
pub strikes_none : (steps : List NamedStep) → WriteNoLink steps → StrikeNone steps
strikes_none steps writes s i = kind_effect s.kind s.place s.word (walks_write_none s.kind (writes s i))

module _ (z : Sizes) (call : Call) (lost : ℕ) (names : List NamedStep) (v w : ListView) (made : Made names v w)
    (finds : (earlier : List NamedStep) → finds_in (map_sizes z) earlier names ≡ lost) where
  -- steps by their names, of which so many lose a turn, before the call took effect
  pub named_ran : StrikeNone names → (m : List NamedStep) (n : ℕ)
      → (m' : List NamedStep) × Ran list_reader (map_sizes z) call (losing m n) (losing m' (n + lost)) v w
  named_ran early m n = (
    memory_after list_reader (map_sizes z) call m (steps_made v w),
    record {
      stepped = stepped_made names v w made;
      read = named_losing (map_sizes z) call names lost finds early m n (steps_made v w) (steps_named names v w made);
      stands = λ own stands. stands_made names v w made own stands;
    },
  )

  -- and after it
  pub named_after : (m : List NamedStep) (n few : ℕ) (later : List Step) → (m' : List NamedStep)
      × Ran list_reader (map_sizes z) call (effected m n few later) (effected m' (n + lost) few (later ++ steps_made v w)) v w
  named_after m n few later = (
    memory_after list_reader (map_sizes z) call m (steps_made v w),
    record {
      stepped = stepped_made names v w made;
      read = named_later (map_sizes z) call names lost finds m n few later (steps_made v w) (steps_named names v w made);
      stands = λ own stands. stands_made names v w made own stands;
    },
  )

module _ (z : Sizes) (call : Call) where
  pub calm_quiet : (v w : ListView) → Idles v w → Calm z call v w
  calm_quiet v w q = let early = strikes_none q.steps q.writes in record {
    stepped = stepped_made q.steps v w q.did;
    stands = λ own stands. stands_made q.steps v w q.did own stands;
    unplaced = unplaced_made q.steps v w q.did;
    losing_so = λ m n. let r = named_ran z call 0 q.steps v w q.did (q.loses (map_sizes z)) early m n in let e : n + 0 ≡ n = omega arith in
        (r.0, ran_as list_reader (map_sizes z) call (losing m n) _ _ v w (ap (losing r.0) e) r.1);
    effected_so = λ m n few later. let r = named_after z call 0 q.steps v w q.did (q.loses (map_sizes z)) m n few later in
        let e : n + 0 ≡ n = omega arith in (
          r.0,
          ran_as list_reader (map_sizes z) call (effected m n few later) _ _ v w
              (ap (λ (k : ℕ). effected r.0 k few (later ++ steps_made v w)) e) r.1,
        );
  }

  pub calm_aside : (v w : ListView) → Aside z v w → Calm z call v w
  calm_aside v w a = turns.calm_aside list_reader z (list_over z) call v w a

  pub calm_both : (u v w : ListView) → Calm z call u v → Calm z call v w → Calm z call u w
  calm_both u v w a b = turns.calm_both list_reader (map_sizes z) call u v w a b
