-- What a call's turns place, and what stays of it while others go on.
use Rattle.std.proofs.Common.{◌≡◌, ℕ, ◌+◌, ◌<◌, ◌≤◌, Bool, true, false, List, [], ◌∷◌, ◌++◌, length, refl, sym, ap, ◌∙◌, subst}
use Rattle.std.proofs.Common.{append-nil, arith}
use Rattle.pp_model.specs.declared.Call.{Call}
use Rattle.pp_model.specs.declared.Change.{Change}
use Rattle.pp_model.specs.declared.Pair.{Pair}
use Rattle.pp_model.specs.declared.Placed.{Placed}
use Rattle.pp_model.specs.declared.Reply.{Reply}
use Rattle.pp_model.specs.declared.steps.Step.{Step}
use Rattle.pp_model.specs.Calls.{reply, changes}
use Rattle.pp_model.specs.FiniteMap.{find}
use Rattle.pp_model.specs.History.{after}
use Rattle.pp_model.specs.MapCalls.{placed}
use Rattle.pp_model.specs.Pass.{MapSizes, seen_first}
use Rattle.pp_model.proofs.Histories.{after_grown}
use Rattle.pp_rule.specs.declared.views.PassState.{PassState}
use Rattle.pp_rule.specs.declared.views.SeatView.{SeatView}
use Rattle.pp_rule.specs.Causes.{Reader}
use Rattle.pp_rule.specs.Lists.{BeginsWith}
use Rattle.pp_rule.specs.Orders.{log_of, made_by, placed_by}
use Rattle.pp_rule.specs.Steps.{MadeStep}
use Rattle.pp_rule.proofs.Made.{known_after, placed_after, seen_after_step}
use Rattle.pp_rule.proofs.Histories.{log_begins}
use Rattle.pp_base.specs.Named.{NamedStep, Made}
use Rattle.pp_calls.specs.Steps.{Went}
use Rattle.pp_calls.proofs.Growing.{begins_long, went_learnt}
use Rattle.pp_shelf.specs.Runs.{steps_made}
use Rattle.pp_turns.specs.Tallies.{Tally, losing, tally}
use Rattle.pp_turns.specs.Turns.{Since, Waits, Unplaced, Struck, HasEffect, Replied, WasAbsent}

-- what was right at a place is right there in a longer log
pub after_longer : (longer log : List Change) (p : ℕ) → BeginsWith longer log → p ≤ length log → after longer p ≡ after log p
after_longer longer log p b le = ap (λ (l : List Change). after l p) b.1 ∙ after_grown log b.0 p le

pub absent_on : (start key : ℕ) (longer log : List Change) → BeginsWith longer log → WasAbsent start key log → WasAbsent start key longer
absent_on start key longer log b a = let long = begins_long longer log b in let here = a.within in record {
  place = a.place;
  since = a.since;
  within = omega arith;
  absent = ap (λ (m : List Pair). find m key) (after_longer longer log a.place b a.within) ∙ a.absent;
}

module _ {W : Type 0} where
  pub unplaced_none : (v w : SeatView Change Placed W) → w ≡ v → Unplaced v w
  unplaced_none v w is = ap (λ (u : SeatView Change Placed W). placed_by v.known.number u.order) is

  pub unplaced_on : (u v w : SeatView Change Placed W) → v.known.number ≡ u.known.number → Unplaced u v → Unplaced v w → Unplaced u w
  unplaced_on u v w number a b = subst (λ (p : ℕ). placed_by p w.order ≡ placed_by p v.order) number b ∙ a

  -- no call is placed at steps that are named
  pub unplaced_made : (names : List NamedStep) (v w : SeatView Change Placed W) → Made names v w → Unplaced v w
  unplaced_made [] v w is = unplaced_none v w is
  unplaced_made (s ∷ names) v w m = let one = m.1.0 in
      let number : m.0.known.number ≡ v.known.number =
      ap (λ (q : PassState W). q.number) (known_after s.kind s.place s.word one.left [] [] one.known v m.0 one.made) ∙ one.number in
      unplaced_on v m.0 w number
      (placed_after s.kind s.place s.word one.left [] [] one.known v m.0 one.made one.number
      ∙ append-nil (placed_by v.known.number v.order))
      (unplaced_made names m.0 w m.1.1)

  placed_on : (u v w : SeatView Change Placed W) (x : Placed) → v.known.number ≡ u.known.number → Unplaced u v
      → placed_by v.known.number w.order ≡ placed_by v.known.number v.order ++ x ∷ []
      → placed_by u.known.number w.order ≡ placed_by u.known.number u.order ++ x ∷ []
  placed_on u v w x number a b = subst (λ (p : ℕ). placed_by p w.order ≡ placed_by p v.order ++ x ∷ []) number b
      ∙ ap (λ (l : List Placed). l ++ x ∷ []) a

  placed_later : (u v w : SeatView Change Placed W) (x : Placed) → v.known.number ≡ u.known.number
      → placed_by u.known.number v.order ≡ placed_by u.known.number u.order ++ x ∷ [] → Unplaced v w
      → placed_by u.known.number w.order ≡ placed_by u.known.number u.order ++ x ∷ []
  placed_later u v w x number a b = subst (λ (p : ℕ). placed_by p w.order ≡ placed_by p v.order) number b ∙ a

  longer_log : (v w : SeatView Change Placed W) → BeginsWith w.order v.order → length (log_of v.order) ≤ length (log_of w.order)
  longer_log v w b = begins_long (log_of w.order) (log_of v.order) (log_begins w.order v.order b)

  -- A step at which a change took effect and its call was placed behind all that was seen.
  pub struck_at : {kind place word left : ℕ} {known : PassState W} (call : Call) (said : Reply) (c : Change)
      (v w : SeatView Change Placed W) → changes said ≡ true → known.number ≡ v.known.number
      → MadeStep kind place word left (c ∷ []) (placed call said (length (log_of w.order)) ∷ []) known v w → Struck call said v w
  struck_at {kind} {place} {word} {left} {known} call said c v w changed number m =
      let at : Placed = placed call said (length (log_of w.order)) in
      let log : log_of w.order ≡ log_of m.so_far ++ c ∷ [] = seen_after_step kind place word left (c ∷ []) (at ∷ []) known v w m in
      let long = begins_long (log_of m.so_far) (log_of v.order) (log_begins m.so_far v.order m.begins) in
      let sum : length (log_of w.order) ≡ length (log_of m.so_far) + 1 = ap (λ (l : List Change). length l) log ∙ plus_one (log_of m.so_far)
      c in record {
        changed = changed;
        place = length (log_of w.order);
        placed_so = placed_after kind place word left (c ∷ []) (at ∷ []) known v w m number;
        above = omega arith;
        within = omega arith;
      }
    where
      plus_one : (xs : List Change) (x : Change) → length (xs ++ x ∷ []) ≡ length xs + 1
      plus_one [] x = refl
      plus_one (y ∷ xs) x = let ih = plus_one xs x in omega arith

  -- quiet steps before it
  pub struck_on : (call : Call) (said : Reply) (u v w : SeatView Change Placed W) → v.known.number ≡ u.known.number
      → BeginsWith v.order u.order → Unplaced u v → Struck call said v w → Struck call said u w
  struck_on call said u v w number order a s = let more = longer_log u v order in let above = s.above in record {
    changed = s.changed;
    place = s.place;
    placed_so = placed_on u v w (placed call said s.place) number a s.placed_so;
    above = omega arith;
    within = s.within;
  }

  -- and behind it
  pub struck_later : (call : Call) (said : Reply) (u v w : SeatView Change Placed W) → v.known.number ≡ u.known.number
      → BeginsWith w.order v.order → Struck call said u v → Unplaced v w → Struck call said u w
  struck_later call said u v w number order s b = let more = longer_log v w order in let within = s.within in record {
    changed = s.changed;
    place = s.place;
    placed_so = placed_later u v w (placed call said s.place) number s.placed_so b;
    above = s.above;
    within = omega arith;
  }

  -- a call that goes on with quiet steps has taken effect or not as before
  pub effect_on : (struck : Bool) (call : Call) (u v w : SeatView Change Placed W) → v.known.number ≡ u.known.number
      → BeginsWith w.order v.order → HasEffect struck call u v → Unplaced v w → HasEffect struck call u w
  effect_on true call u v w number order s b = (s.0, struck_later call s.0 u v w number order s.1 b)
  effect_on false call u v w number order s b = unplaced_on u v w number s b

  -- a reply that was settled, with the steps before it
  pub replied_on : (call : Call) (said : Reply) (start : ℕ) (u v w : SeatView Change Placed W) → v.known.number ≡ u.known.number
      → Unplaced u v → Replied call said start v w → Replied call said start u w
  replied_on call said start u v w number a s = record {
    unchanged = s.unchanged;
    place = s.place;
    placed_so = placed_on u v w (placed call said s.place) number a s.placed_so;
    since = s.since;
    within = s.within;
    least = s.least;
  }

  -- and those behind it
  pub replied_later : (call : Call) (said : Reply) (start : ℕ) (u v w : SeatView Change Placed W) → v.known.number ≡ u.known.number
      → BeginsWith w.order v.order → Replied call said start u v → Unplaced v w → Replied call said start u w
  replied_later call said start u v w number order s b = let more = longer_log v w order in let within = s.within in record {
    unchanged = s.unchanged;
    place = s.place;
    placed_so = placed_later u v w (placed call said s.place) number s.placed_so b;
    since = s.since;
    within = omega arith;
    least = λ q lo hi right. s.least q lo hi
        (ap (λ (m : List Pair). reply m call) (sym (after_longer (log_of w.order) (log_of v.order) q (log_begins w.order v.order order)
        (omega arith))) ∙ right);
  }

-- The pass learnt of more steps of others.
module _ {W : Type 0} (from v w : SeatView Change Placed W) (same : w.known ≡ v.known) (order : BeginsWith w.order v.order)
    (made : made_by v.known.number w.order ≡ made_by v.known.number v.order)
    (placed_same : placed_by v.known.number w.order ≡ placed_by v.known.number v.order) where
  went : Went from v → Went from w
  went g = went_learnt from v w g same order made placed_same

  -- its own steps stay
  pub steps_learnt : Went from v → steps_made from w ≡ steps_made from v
  steps_learnt g = let now : made_by from.known.number w.order ≡ made_by from.known.number v.order =
      subst (λ (p : ℕ). made_by p w.order ≡ made_by p v.order) g.number made in cc

  pub waits_learnt : Waits from v → Waits from w
  waits_learnt g = record { went = went g.went; none = steps_learnt g.went ∙ g.none }

  pub since_learnt : (r : Reader Call) (z : MapSizes) (call : Call) (start : ℕ) (t : Tally r.Memory) → Since r z call start t from v
      → Since r z call start t from w
  since_learnt r z call start t g = record {
    went = went g.went;
    some_made = subst (λ (l : List Step). 0 < length l) (sym (steps_learnt g.went)) g.some_made;
    started = ap (seen_first 0) (steps_learnt g.went) ∙ g.started;
    read = ap (tally r z call (losing r.blank 0)) (steps_learnt g.went) ∙ g.read;
  }

  pub effect_learnt : (struck : Bool) (call : Call) → v.known.number ≡ from.known.number → HasEffect struck call from v
      → HasEffect struck call from w
  effect_learnt struck call number s = effect_on struck call from v w number order s placed_same
