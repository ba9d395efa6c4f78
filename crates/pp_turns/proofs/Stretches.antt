-- The steps of a call's turns, one stretch after another.
use Rattle.std.proofs.Common.{◌≡◌, ℕ, ◌<◌, List, [], ◌∷◌, ◌++◌, map, length, refl, sym, ap, ◌∙◌}
use Rattle.std.proofs.Common.{subst, length-append, arith}
use Rattle.std.specs.Prelude.{drop}
use Rattle.std.proofs.Math.Seq.{drop-append_seam}
use Rattle.pp_model.specs.declared.Call.{Call}
use Rattle.pp_model.specs.declared.Change.{Change}
use Rattle.pp_model.specs.declared.Placed.{Placed}
use Rattle.pp_model.specs.declared.steps.Step.{Step}
use Rattle.pp_model.specs.Pass.{MapSizes, seen_first, seen_last}
use Rattle.pp_rule.specs.declared.views.LoggedStep.{LoggedStep}
use Rattle.pp_rule.specs.declared.views.PassState.{PassState}
use Rattle.pp_rule.specs.declared.views.SeatView.{SeatView}
use Rattle.pp_rule.specs.Causes.{Reader}
use Rattle.pp_rule.specs.Lists.{IsIn}
use Rattle.pp_rule.specs.Orders.{log_of, made_by}
use Rattle.pp_rule.specs.Steps.{MadeStep}
use Rattle.pp_rule.proofs.Put.{in_left}
use Rattle.pp_base.specs.Named.{NamedStep, name_of, Made}
use Rattle.pp_calls.specs.Steps.{Went, Stepped, HasOwn, StandsThen, TurnMade}
use Rattle.pp_calls.proofs.Growing.{stepped_none, stepped_one, stepped_both, stepped_made, named_made, went_on, went_stepped}
use Rattle.pp_calls.proofs.Growing.{last_of, last_on}
use Rattle.pp_calls.proofs.Remaining.{stands_made}
use Rattle.pp_shelf.specs.Runs.{steps_made}
use Rattle.pp_turns.specs.Tallies.{Tally, losing, counting, tally}
use Rattle.pp_turns.specs.Turns.{Ran, Since, Waits, SawLast}
use Rattle.pp_turns.proofs.Tallies.{tally_append, tally_none, tally_one}

module _ {E A W : Type 0} where
  -- the steps since are those that it made
  pub went_steps : (v w : SeatView E A W) (s : Went v w) → steps_made v w ≡ s.steps
  went_steps v w s = let n : ℕ = v.known.number in
      ap (drop (length (made_by n v.order))) s.made ∙ drop-append_seam (made_by n v.order) s.steps

  pub stepped_steps : (v w : SeatView E A W) (s : Stepped v w) → steps_made v w ≡ s.steps
  unfolding went_stepped
  stepped_steps v w s = went_steps v w (went_stepped v w s)

  -- the steps of two stretches
  pub steps_both : (u v w : SeatView E A W) → Went u v → Stepped v w → steps_made u w ≡ steps_made u v ++ steps_made v w
  unfolding went_on
  steps_both u v w a b = went_steps u w (went_on u v w a b) ∙ (ap (λ (l : List Step). l ++ b.steps) (sym (went_steps u v a))
      ∙ ap (λ (l : List Step). steps_made u v ++ l) (sym (stepped_steps v w b)))

  pub stretch_both : (u v w : SeatView E A W) → Stepped u v → Stepped v w → steps_made u w ≡ steps_made u v ++ steps_made v w
  stretch_both u v w a b = steps_both u v w (went_stepped u v a) b

  pub steps_none : (v w : SeatView E A W) → w ≡ v → steps_made v w ≡ []
  unfolding stepped_none
  steps_none v w is = stepped_steps v w (stepped_none v w is)

  -- the steps of these names
  pub steps_named : (names : List NamedStep) (v w : SeatView E A W) → Made names v w → map name_of (steps_made v w) ≡ names
  steps_named names v w m = ap (map name_of) (stepped_steps v w (stepped_made names v w m)) ∙ named_made names v w m

  -- what was seen at the first of the steps of two stretches
  pub first_kept : (u v w : SeatView E A W) → Went u v → Stepped v w → 0 < length (steps_made u v)
      → seen_first 0 (steps_made u w) ≡ seen_first 0 (steps_made u v)
  first_kept u v w a b long = ap (seen_first 0) (steps_both u v w a b) ∙ front (steps_made u v) (steps_made v w) long
    where
      front : (xs ys : List Step) → 0 < length xs → seen_first 0 (xs ++ ys) ≡ seen_first 0 xs
      front [] ys some_made = absurd (omega arith)
      front (x ∷ xs) ys some_made = refl

pub own_before : {W : Type 0} (v w : SeatView Change Placed W) → Stepped v w → HasOwn w.order → HasOwn v.order
own_before v w s own x i = own x (subst (λ (o : List (LoggedStep Change Placed)). IsIn x o) (sym s.order.1) (in_left x v.order s.order.0 i))

module _ (r : Reader Call) (z : MapSizes) (call : Call) {W : Type 0} where
  pub ran_none : (t : Tally r.Memory) (v w : SeatView Change Placed W) → w ≡ v → Ran r z call t t v w
  ran_none t v w is = record {
    stepped = stepped_none v w is;
    read = ap (tally r z call t) (steps_none v w is) ∙ tally_none r z call t;
    stands = λ own stands. subst StandsThen (sym is) stands;
  }

  -- One step, whatever took effect or was placed at it.
  pub ran_one : {kind place word left : ℕ} {changes : List Change} {placed : List Placed} {known : PassState W} (t t' : Tally r.Memory)
      (v w : SeatView Change Placed W) → MadeStep kind place word left changes placed known v w → known.number ≡ v.known.number
      → counting r z call t (record {
        kind = kind;
        place = place;
        word = word;
        seen = length (log_of w.order);
        owned = length known.owned;
      }) ≡ t'
      → (HasOwn w.order → StandsThen v → StandsThen w) → Ran r z call t t' v w
  unfolding stepped_one
  ran_one {kind} {place} {word} {left} {changes} {placed} {known} t t' v w m number counts stands = record {
    stepped = stepped_one v w m number;
    read = ap (tally r z call t) (stepped_steps v w (stepped_one v w m number)) ∙ (tally_one r z call t step ∙ counts);
    stands = stands;
  }
    where
      step : Step
      step = record { kind = kind; place = place; word = word; seen = length (log_of w.order); owned = length known.owned }

  -- steps by their names, whatever else they are
  pub ran_made : (names : List NamedStep) (t t' : Tally r.Memory) (v w : SeatView Change Placed W) → Made names v w
      → ((steps : List Step) → map name_of steps ≡ names → tally r z call t steps ≡ t') → Ran r z call t t' v w
  ran_made names t t' v w m counts = record {
    stepped = stepped_made names v w m;
    read = counts (steps_made v w) (steps_named names v w m);
    stands = λ own stands. stands_made names v w m own stands;
  }

  pub ran_both : (t t' t'' : Tally r.Memory) (u v w : SeatView Change Placed W) → Ran r z call t t' u v → Ran r z call t' t'' v w
      → Ran r z call t t'' u w
  ran_both t t' t'' u v w a b = record {
    stepped = stepped_both u v w a.stepped b.stepped;
    read = ap (tally r z call t) (stretch_both u v w a.stepped b.stepped)
        ∙ (tally_append r z call t (steps_made u v) (steps_made v w)
        ∙ (ap (λ (s : Tally r.Memory). tally r z call s (steps_made v w)) a.read ∙ b.read));
    stands = λ own stands. b.stands own (a.stands (own_before v w b.stepped own) stands);
  }

  -- the same count by another name
  pub ran_as : (t t' t'' : Tally r.Memory) (v w : SeatView Change Placed W) → t' ≡ t'' → Ran r z call t t' v w → Ran r z call t t'' v w
  ran_as t t' t'' v w is a = record { stepped = a.stepped; read = a.read ∙ is; stands = a.stands }

  -- A turn of a call whose pass made a step.
  pub turn_made : (t t' : Tally r.Memory) (v w : SeatView Change Placed W) → Ran r z call t t' v w → 0 < length (steps_made v w)
      → HasOwn w.order → TurnMade v w
  turn_made t t' v w a long own = record {
    stepped = a.stepped;
    some_made = subst (λ (l : List Step). 0 < length l) (stepped_steps v w a.stepped) long;
    stands = a.stands own;
  }

  -- a call's first steps
  pub since_first : (start : ℕ) (t : Tally r.Memory) (from v w : SeatView Change Placed W) → Waits from v
      → Ran r z call (losing r.blank 0) t v w → 0 < length (steps_made v w) → seen_first 0 (steps_made v w) ≡ start
      → Since r z call start t from w
  since_first start t from v w a b long first = let e = steps_both from v w a.went b.stepped in
      let is : steps_made from w ≡ steps_made v w = e ∙ ap (λ (l : List Step). l ++ steps_made v w) a.none in record {
        went = went_on from v w a.went b.stepped;
        some_made = subst (λ (l : List Step). 0 < length l) (sym is) long;
        started = ap (seen_first 0) is ∙ first;
        read = ap (tally r z call (losing r.blank 0)) is ∙ b.read;
      }

  -- and more of them
  pub since_on : (start : ℕ) (t t' : Tally r.Memory) (from v w : SeatView Change Placed W) → Since r z call start t from v
      → Ran r z call t t' v w → Since r z call start t' from w
  since_on start t t' from v w a b = let e = steps_both from v w a.went b.stepped in record {
    went = went_on from v w a.went b.stepped;
    some_made = let long = ap (λ (l : List Step). length l) e ∙ length-append (steps_made from v) (steps_made v w) in
        let some_made = a.some_made in omega arith;
    started = first_kept from v w a.went b.stepped a.some_made ∙ a.started;
    read = ap (tally r z call (losing r.blank 0)) e ∙ (tally_append r z call (losing r.blank 0) (steps_made from v) (steps_made v w)
        ∙ (ap (λ (s : Tally r.Memory). tally r z call s (steps_made v w)) a.read ∙ b.read));
  }

module _ {W : Type 0} where
  pub waits_none : (v : SeatView Change Placed W) → Waits v v
  waits_none v = record { went = went_stepped v v (stepped_none v v refl); none = steps_none v v refl }

  -- where its last steps were made just now
  pub saw_last : (from v w : SeatView Change Placed W) → Went from v → Stepped v w → 0 < length (steps_made v w) → SawLast from w
  saw_last from v w a b long = ap (seen_last 0) (steps_both from v w a b)
      ∙ (last_of 0 (steps_made from v) (steps_made v w) long ∙ (ap (seen_last 0) (stepped_steps v w b)
      ∙ b.last (subst (λ (l : List Step). 0 < length l) (stepped_steps v w b) long)))

  -- or where they were, and others came behind them
  pub saw_on : (from v w : SeatView Change Placed W) → Went from v → SawLast from v → Stepped v w → SawLast from w
  saw_on from v w a last b = ap (seen_last 0) (steps_both from v w a b ∙ (ap (λ (l : List Step). l ++ steps_made v w) (went_steps from v a)
      ∙ ap (λ (l : List Step). a.steps ++ l) (stepped_steps v w b)))
      ∙ last_on from v w a b (ap (seen_last 0) (sym (went_steps from v a)) ∙ last)
