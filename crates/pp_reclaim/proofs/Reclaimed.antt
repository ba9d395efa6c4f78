-- A reclaim pass, as it is told by the names of its steps, is one by the steps of a call.
use Rattle.std.proofs.Common.{◌≡◌, ℕ, zero, suc, ◌+◌, ◌*◌, List, [], ◌∷◌, ◌++◌, map, length, Some, refl, sym, ap, ◌∙◌, arith}
use Rattle.std.specs.Prelude.{slice_get}
use Rattle.std.proofs.lemmas.List.{length-map}
use Rattle.pp_link.specs.Places.{frontier_place, walk_place}
use Rattle.pp_model.specs.declared.steps.Step.{Step}
use Rattle.pp_model.specs.Pass.{MapSizes}
use Rattle.pp_rule.specs.Causes.{pool_sizes, IsReclaim}
use Rattle.pp_rule.specs.Orders.{scan_frontier_step, scan_walk_step}
use Rattle.pp_base.specs.Named.{NamedStep, name_of, in_turn, scans_frontier, scans_walk}
use Rattle.pp_reclaim.specs.Sweeps.{scan_steps}

-- loads of one kind
pub record IsLoad (kind : ℕ) (load : ℕ → ℕ → NamedStep) : Type 0 where
  pub kind_is : (place word : ℕ) → (load place word).kind ≡ kind
  pub place_is : (place word : ℕ) → (load place word).place ≡ place

pub turn_long : (load : ℕ → ℕ → NamedStep) (place : ℕ) (words : List ℕ) → length (in_turn load place words) ≡ length words
turn_long load place [] = refl
turn_long load place (word ∷ words) = ap suc (turn_long load (place + 1) words)

-- each of the loads that were made in turn is of this kind, and on its place
each_in_turn : (kind : ℕ) (load : ℕ → ℕ → NamedStep) → IsLoad kind load → (place : ℕ) (words : List ℕ) (steps : List Step)
    → map name_of steps ≡ in_turn load place words → (i : ℕ) (s : Step) → slice_get steps i ≡ Some s → (s.kind ≡ kind)
    × (s.place ≡ place + i)
each_in_turn kind load l place words [] e i s at = absurd cc
each_in_turn kind load l place [] (t ∷ steps) e i s at = absurd cc
each_in_turn kind load l place (word ∷ words) (t ∷ steps) e zero s at =
    let first : name_of t ≡ load place word = cc in let same : t ≡ s = cc in (
      ap (λ (x : Step). x.kind) (sym same) ∙ (ap (λ (x : NamedStep). x.kind) first ∙ l.kind_is place word),
      ap (λ (x : Step). x.place) (sym same) ∙ (ap (λ (x : NamedStep). x.place) first ∙ (l.place_is place word ∙ (omega arith))),
    )
each_in_turn kind load l place (word ∷ words) (t ∷ steps) e (suc i) s at =
    let rest = each_in_turn kind load l (place + 1) words steps (cc) i s at in let there = rest.1 in (rest.0, omega arith)

-- steps that are named by two lists, one after the other, are two lists
split_named : (steps : List Step) (xs ys : List NamedStep) → map name_of steps ≡ xs ++ ys
    → (a : List Step) × ((b : List Step) × ((steps ≡ a ++ b) × (map name_of a ≡ xs) × (map name_of b ≡ ys)))
split_named steps [] ys e = ([], (steps, (refl, refl, e)))
split_named [] (x ∷ xs) ys e = absurd cc
split_named (s ∷ steps) (x ∷ xs) ys e = let first : name_of s ≡ x = cc in
    let r = split_named steps xs ys (cc) in (
      s ∷ r.0,
      (
        r.1.0,
        (
          ap (λ (l : List Step). s ∷ l) r.1.1.0,
          ap (λ (y : NamedStep). y ∷ map name_of r.0) first ∙ ap (λ (l : List NamedStep). x ∷ l) r.1.1.1,
          r.1.1.2,
        ),
      ),
    )

frontiers : IsLoad scan_frontier_step scans_frontier
frontiers = record { kind_is = λ place word. refl; place_is = λ place word. refl }

walks_loads : IsLoad scan_walk_step scans_walk
walks_loads = record { kind_is = λ place word. refl; place_is = λ place word. refl }

-- the steps of a reclaim pass that read all hazard words
pub reclaim_is : (z : MapSizes) (fronts walks : List ℕ) (scan : List Step) → length fronts ≡ 4 * z.passes → length walks ≡ 5 * z.passes
    → map name_of scan ≡ scan_steps (pool_sizes z) fronts walks → IsReclaim z scan
reclaim_is z fronts walks scan all_fronts all_walks e =
    let f : ℕ = frontier_place (pool_sizes z) 0 0 in let w : ℕ = walk_place (pool_sizes z) 0 0 in
    let r = split_named scan (in_turn scans_frontier f fronts) (in_turn scans_walk w walks) e in record {
      fronts = r.0;
      walks = r.1.0;
      is = r.1.1.0;
      frontier = record {
        count_is = sym (length-map r.0 name_of) ∙ (ap (λ (l : List NamedStep). length l) r.1.1.1 ∙ (turn_long scans_frontier f fronts
            ∙ all_fronts));
        each = λ i s at. let y = each_in_turn scan_frontier_step scans_frontier frontiers f fronts r.0 r.1.1.1 i s at in
            let there = y.1 in (y.0, omega arith);
      };
      walk = record {
        count_is = sym (length-map r.1.0 name_of) ∙ (ap (λ (l : List NamedStep). length l) r.1.1.2 ∙ (turn_long scans_walk w walks
            ∙ all_walks));
        each = λ i s at. let y = each_in_turn scan_walk_step scans_walk walks_loads w walks r.1.0 r.1.1.2 i s at in
            let there = y.1 in (y.0, omega arith);
      };
    }
