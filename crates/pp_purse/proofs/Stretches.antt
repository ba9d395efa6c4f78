-- The stretches of steps that a call makes at its purse, one after another.
use Rattle.std.proofs.Common.{◌≡◌, ℕ, zero, suc, ◌+◌, ◌*◌, ◌<◌, true, List, [], ◌∷◌, ◌++◌}
use Rattle.std.proofs.Common.{map, length}
use Rattle.std.proofs.Common.{refl, sym, ap, ◌∙◌, subst, ⊎_elim, lt-ltb, arith}
use Rattle.std.specs.Prelude.{drop}
use Rattle.std.proofs.Math.Seq.{drop-append_seam}
use Rattle.atomic_table.specs.declared.shared.Seat.{Seat}
use Rattle.pp_link.specs.declared.layout.Sizes.{Sizes}
use Rattle.pp_link.specs.Places.{frontier_place, walk_place}
use Rattle.pp_model.specs.declared.steps.Step.{Step}
use Rattle.pp_rule.specs.declared.views.Chain.{Chain}
use Rattle.pp_rule.specs.declared.views.PassState.{PassState}
use Rattle.pp_rule.specs.Paths.{links_of}
use Rattle.pp_rule.specs.declared.views.SeatView.{SeatView}
use Rattle.pp_rule.specs.Causes.{owned_after}
use Rattle.pp_rule.specs.Lists.{IsIn}
use Rattle.pp_rule.specs.Orders.{made_by, missed_step, shelve_step, unshelve_step}
use Rattle.pp_rule.proofs.Made.{known_after}
use Rattle.pp_rule.proofs.Put.{in_nil, in_cases, in_either, in_one}
use Rattle.pp_base.specs.declared.purse.Purse.{Purse}
use Rattle.pp_base.specs.Chains.{chain_at}
use Rattle.pp_base.specs.Named.{NamedStep, name_of, in_turn, scans_frontier, scans_walk, retires, Made}
use Rattle.pp_base.specs.Passes.{view}
use Rattle.pp_base.proofs.Named.{made_append}
use Rattle.pp_calls.specs.Steps.{Stepped}
use Rattle.pp_calls.proofs.Growing.{stepped_none, stepped_one, stepped_both, stepped_made, named_made}
use Rattle.pp_unlink.specs.Invalidation.{invalidations, Flushed}
use Rattle.pp_reclaim.specs.Sweeps.{scan_steps, Swept}
use Rattle.pp_shelf.specs.Runs.{IsShelfStep, MadeAtShelves, steps_made}
use Rattle.pp_shelf.specs.Shelves.{MovesFree}
use Rattle.pp_purse.specs.Steps.{is_purse_step, PurseSteps}

module _ {E A W : Type 0} where
  pub none_made : (z : Sizes) (v w : SeatView E A W) → w ≡ v → PurseSteps z [] v w
  none_made z v w is = record {
    made = is;
    each = λ s i. absurd (in_nil s i);
    own = ap (λ (u : SeatView E A W). u.known.own) is;
    walk = ap (λ (u : SeatView E A W). u.known.walk) is;
  }

  -- a stretch at the purse, and another one behind it
  pub purse_both : (z : Sizes) (first second : List NamedStep) (u v w : SeatView E A W) → PurseSteps z first u v
      → PurseSteps z second v w → PurseSteps z (first ++ second) u w
  purse_both z first second u v w a b = record {
    made = made_append first second u v w a.made b.made;
    each = λ s i. ⊎_elim (λ (l : IsIn s first). a.each s l) (λ (r : IsIn s second). b.each s r) (in_either s first second i);
    own = b.own ∙ a.own;
    walk = b.walk ∙ a.walk;
  }

  -- the steps since are those of the names
  pub since_made : (names : List NamedStep) (v w : SeatView E A W) (m : Made names v w)
      → steps_made v w ≡ (stepped_made names v w m).steps
  since_made names v w m = let s : Stepped v w = stepped_made names v w m in
      ap (drop (length (made_by v.known.number v.order))) s.made ∙ drop-append_seam (made_by v.known.number v.order) s.steps

  pub since_named : (names : List NamedStep) (v w : SeatView E A W) → Made names v w → map name_of (steps_made v w) ≡ names
  since_named names v w m = ap (map name_of) (since_made names v w m) ∙ named_made names v w m

  -- steps since, over two stretches
  pub since_both : (first second : List NamedStep) (u v w : SeatView E A W) → Made first u v → Made second v w
      → steps_made u w ≡ steps_made u v ++ steps_made v w
  unfolding stepped_both
  since_both first second u v w a b = let s : Stepped u v = stepped_made first u v a in let t : Stepped v w = stepped_made second v w b in
      let both : Stepped u w = stepped_both u v w s t in
      ap (drop (length (made_by u.known.number u.order))) both.made
      ∙ (drop-append_seam (made_by u.known.number u.order) (s.steps ++ t.steps)
      ∙ (ap (λ (l : List Step). l ++ t.steps) (sym (since_made first u v a))
      ∙ ap (λ (l : List Step). steps_made u v ++ l) (sym (since_made second v w b))))

  -- what the pass owns after its last step
  pub owned_made : (names : List NamedStep) (v w : SeatView E A W) (m : Made names v w)
      → owned_after (length v.known.owned) (stepped_made names v w m).steps ≡ length w.known.owned
  unfolding stepped_made stepped_both stepped_one stepped_none
  owned_made [] v w is = ap (λ (u : SeatView E A W). length u.known.owned) (sym is)
  owned_made (s ∷ names) v w m = let here : m.0.known ≡ m.1.0.known = known_after s.kind s.place s.word m.1.0.left [] [] m.1.0.known v m.0
      m.1.0.made in
      ap (λ (q : PassState W). owned_after (length q.owned) (stepped_made names m.0 w m.1.1).steps) (sym here)
      ∙ owned_made names m.0 w m.1.1

-- or-steps that set INVALID are steps at the purse
invalidations_good : (z zz : Sizes) (ls : List (ℕ × ℕ)) (words : List ℕ) (s : NamedStep) → IsIn s (invalidations zz ls words)
    → is_purse_step z s ≡ true
unfolding invalidations
invalidations_good z zz [] words s i = absurd (in_nil s i)
invalidations_good z zz (l ∷ ls) [] s i = absurd (in_nil s i)
invalidations_good z zz (l ∷ ls) (w ∷ words) s i = ⊎_elim (λ e. ap (is_purse_step z) e)
    (λ later. invalidations_good z zz ls words s later) (in_cases s _ (invalidations zz ls words) i)

turn_good : (z : Sizes) (step : ℕ → ℕ → NamedStep) → ((place word : ℕ) → is_purse_step z (step place word) ≡ true)
    → (place : ℕ) (words : List ℕ) (s : NamedStep) → IsIn s (in_turn step place words) → is_purse_step z s ≡ true
turn_good z step good place [] s i = absurd (in_nil s i)
turn_good z step good place (w ∷ words) s i = ⊎_elim (λ e. ap (is_purse_step z) e ∙ good place w)
    (λ later. turn_good z step good (place + 1) words s later) (in_cases s (step place w) (in_turn step (place + 1) words) i)

missed_good : (z : Sizes) (kind place : ℕ) → kind ≡ missed_step → place < 1 + 17 * z.passes
    → is_purse_step z (record { kind = kind; place = place; word = 0 }) ≡ true
missed_good z kind place is low = ap (λ (k : ℕ). is_purse_step z (record { kind = k; place = place; word = 0 })) is
    ∙ lt-ltb place (1 + 17 * z.passes) low

kind_good : (z : Sizes) (s : NamedStep) → s.kind ≡ shelve_step → is_purse_step z s ≡ true
kind_good z s is = ap (λ (k : ℕ). is_purse_step z (record { kind = k; place = s.place; word = s.word })) is

kind_taken : (z : Sizes) (s : NamedStep) → s.kind ≡ unshelve_step → is_purse_step z s ≡ true
kind_taken z s is = ap (λ (k : ℕ). is_purse_step z (record { kind = k; place = s.place; word = s.word })) is

shelf_good : (z : Sizes) (s : NamedStep) → IsShelfStep z s → is_purse_step z s ≡ true
shelf_good z s is = let place = is.place in let low = is.low in
    let before : s.place < 1 + 17 * z.passes = omega arith in
    ⊎_elim (λ missed. missed_good z s.kind s.place missed before) (λ other. ⊎_elim (λ put. kind_good z s put)
    (λ taken. kind_taken z s taken) other)
    is.kind

module _ {E A W : Type 0} where
  -- chains that were flushed
  pub flushed_purse : (sides : ℕ) (z : Sizes) (n : ℕ) (v w : SeatView E A W) → Flushed sides z n v w
      → (names : List NamedStep) × PurseSteps z names v w
  flushed_purse sides z zero v w is = ([], none_made z v w is)
  flushed_purse sides z (suc n) v w (u, (first, rest)) = let later = flushed_purse sides z n u w rest in
      let c : Chain = chain_at v.known 0 in
      let sets : List NamedStep = invalidations z (links_of sides c.records) first.words in
      let last : NamedStep = retires (frontier_place z v.known.number c.guard) in
      let one : PurseSteps z (sets ++ last ∷ []) v u = record {
        made = first.steps;
        each = λ s i. ⊎_elim (λ (l : IsIn s sets). invalidations_good z z (links_of sides c.records) first.words s l)
            (λ (r : IsIn s (last ∷ [])). subst (λ (x : NamedStep). is_purse_step z x ≡ true) (in_one s last r) refl)
            (in_either s sets (last ∷ []) i);
        own = ap (λ (q : PassState W). q.own) first.known;
        walk = ap (λ (q : PassState W). q.walk) first.known;
      } in ((sets ++ last ∷ []) ++ later.0, purse_both z (sets ++ last ∷ []) later.0 v u w one later.1)

  -- a reclaim pass that read all hazard words
  pub swept_purse : (z : Sizes) (many : ℕ) (s s' : Seat Unit (SeatView E A W)) (p p' : Purse) (w : Swept z many s s' p p')
      → PurseSteps z (scan_steps z w.fronts w.walks) (view s) (view s')
  swept_purse z many s s' p p' w = record {
    made = w.steps;
    each = λ x i. let first : List NamedStep = in_turn scans_frontier (frontier_place z 0 0) w.fronts in
        let second : List NamedStep = in_turn scans_walk (walk_place z 0 0) w.walks in
        ⊎_elim (λ (l : IsIn x first). turn_good z scans_frontier (λ place word. refl) (frontier_place z 0 0) w.fronts x l)
        (λ (r : IsIn x second). turn_good z scans_walk (λ place word. refl) (walk_place z 0 0) w.walks x r) (in_either x first second i);
    own = ap (λ (q : PassState W). q.own) w.known_is;
    walk = ap (λ (q : PassState W). q.walk) w.known_is;
  }

  -- steps at shelf words
  pub shelves_purse : (z : Sizes) (v w : SeatView E A W) (p p' : Purse) (m : MadeAtShelves z v w) → MovesFree v.known w.known p p'
      → PurseSteps z m.steps v w
  shelves_purse z v w p p' m only = record {
    made = m.made;
    each = λ s i. shelf_good z s (m.each s i);
    own = ap (λ (q : PassState W). q.own) only.known;
    walk = ap (λ (q : PassState W). q.walk) only.known;
  }
