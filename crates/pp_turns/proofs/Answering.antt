-- The clauses of a call's turns and of its answers, from what its turns come to.
use Rattle.std.proofs.Common.{◌≡◌, ◌⊎◌, ℕ, ◌-◌, ◌<◌, ◌≤◌, true, false, List, [], ◌∷◌, length, refl, sym, ap, ◌∙◌, subst, arith}
use Rattle.std.proofs.Math.Bool.{false≢true}
use Rattle.pp_model.specs.declared.Answer.{Answer}
use Rattle.pp_model.specs.declared.Answer.TheVariants.{Said, Full, Lost}
use Rattle.pp_model.specs.declared.Call.{Call}
use Rattle.pp_model.specs.declared.Call.TheVariants.{Insert}
use Rattle.pp_model.specs.declared.Change.{Change}
use Rattle.pp_model.specs.declared.Pair.{Pair}
use Rattle.pp_model.specs.declared.Placed.{Placed}
use Rattle.pp_model.specs.declared.Reply.{Reply}
use Rattle.pp_model.specs.declared.Reply.TheVariants.{Value, Absent, Added, Held, Took, Other}
use Rattle.pp_model.specs.declared.steps.Step.{Step}
use Rattle.pp_model.specs.Calls.{changes, key_of}
use Rattle.pp_model.specs.FiniteMap.{find}
use Rattle.pp_model.specs.History.{after as map_after}
use Rattle.pp_model.specs.MapCalls.{Grew, Strikes, SameCall, MakesTurn, Counted, Answered, PlacesReply, LeavesPurse, FullPurse}
use Rattle.pp_model.specs.Pass.{PassView, GoingView, MapSizes, Meaning, seen_first, seen_last, steps_since, start_of}
use Rattle.pp_rule.specs.declared.views.SeatView.{SeatView}
use Rattle.pp_rule.specs.Causes.{PoolWords, CauseWords, pool_meaning, PoolCause, WasDetached, FoundNone, lost_from, early_from}
use Rattle.pp_rule.specs.Causes.{after_effect}
use Rattle.pp_rule.specs.Lists.{IsIn}
use Rattle.pp_rule.proofs.Put.{in_first}
use Rattle.pp_rule.specs.Orders.{log_of, made_by, placed_by, entries_of}
use Rattle.pp_calls.specs.PoolViews.{pool_view}
use Rattle.pp_calls.specs.Steps.{Stepped, StandsThen, TurnMade}
use Rattle.pp_calls.proofs.Growing.{stepped_went, since_steps, grew}
use Rattle.pp_shelf.specs.Runs.{steps_made}
use Rattle.pp_turns.specs.Tallies.{Tally, lost_of, early_of, later_of}
use Rattle.pp_turns.specs.Turns.{Since, SawLast, Unplaced, Struck, HasEffect, Replied, WasAbsent, BegunAt}
use Rattle.pp_turns.specs.Causes.{TookBy}
use Rattle.pp_turns.proofs.Tallies.{lost_told, early_told, later_told}
use Rattle.pp_turns.proofs.Stretches.{went_steps}
use Rattle.pp_turns.proofs.Purses.{since_seen}

-- a call is answered as its steps tell, by whatever name its number of lost turns goes
pub told_as : (m : Meaning) (z : MapSizes) (call : Call) (budget : ℕ) (before now : PassView) (answer : Answer) (n k : ℕ) → n ≡ k
    → Answered m z call budget before now answer n → Answered m z call budget before now answer k
told_as m z call budget before now answer n k same a = subst (λ (j : ℕ). Answered m z call budget before now answer j) same a

-- how much the first of some steps saw
seen_some : (d e : ℕ) (steps : List Step) → 0 < length steps → seen_first d steps ≡ seen_first e steps
seen_some d e [] long = absurd (omega arith)
seen_some d e (s ∷ steps) long = refl

module _ {W : Type 0} where
  struck_seen : (call : Call) (said : Reply) (v w : SeatView Change Placed W) (free free' : List ℕ) (share : ℕ)
      → w.known.number ≡ v.known.number → Struck call said v w → Strikes call (pool_view v free share) (pool_view w free' share)
  struck_seen call said v w free free' share number s = record {
    said = said;
    place = s.place;
    changed = s.changed;
    mine = ap (λ (p : ℕ). placed_by p w.order) number ∙ s.placed_so;
    above = s.above;
    within = s.within;
  }

  -- A turn was made, in which the call took effect or not.
  pub makes_turn : (m : Meaning) → m.turn_steps ≡ 1 → (was now : GoingView) (v w : SeatView Change Placed W) (free free' : List ℕ)
      (share : ℕ) → TurnMade v w → w.known.sizes ≡ v.known.sizes → SameCall was now
      → (was.struck ≡ false → now.struck ≡ true → (said : Reply) × Struck was.call said v w)
      → MakesTurn m was now (pool_view v free share) (pool_view w free' share)
  makes_turn m one was now v w free free' share t sizes same strikes = record {
    grew = grew v w free free' share t.stepped sizes;
    same = same;
    stepped = let many = t.some_made in
        let long : 1 ≤ length t.stepped.steps = omega arith in
        subst (λ (k : ℕ). k ≤ length (steps_since (pool_view v free share) (pool_view w free' share))) (sym one)
        (subst (λ (l : List Step). 1 ≤ length l) (sym (since_steps v w free free' share t.stepped)) long);
    strikes = λ old new. let s = strikes old new in struck_seen was.call s.0 v w free free' share t.stepped.number s.1;
  }

  -- what holds of each begin that callers may have seen holds of the one that they saw
  pub begun_on : (share : ℕ) (Under Under' : SeatView Change Placed W → List ℕ → Type 0)
      → ((from : SeatView Change Placed W) (free : List ℕ) → Under from free → Under' from free)
      → (before : PassView) → BegunAt share Under before → BegunAt share Under' before
  begun_on share Under Under' each before b = record {
    from = b.from;
    free = b.free;
    seen_so = b.seen_so;
    under = each b.from b.free b.under;
  }

  pub begun_shows : (share : ℕ) (Under : SeatView Change Placed W → List ℕ → Type 0) (Shows : PassView → Type 0)
      → ((from : SeatView Change Placed W) (free : List ℕ) → Under from free → Shows (pool_view from free share))
      → (before : PassView) → BegunAt share Under before → Shows before
  begun_shows share Under Shows each before b = subst Shows (sym b.seen_so) (each b.from b.free b.under)

-- a reply that changes nothing needs no cause
plain_cause : (p : PoolWords) (w : CauseWords) (z : MapSizes) (call : Call) (budget : ℕ) (before now : PassView) (said : Reply)
    → changes said ≡ false → PoolCause p w z call budget before now (Said said)
plain_cause p w z call budget before now (Value v) plain = tt
plain_cause p w z call budget before now Absent plain = tt
plain_cause p w z call budget before now Added plain = tt
plain_cause p w z call budget before now (Held v) plain = tt
plain_cause p w z call budget before now (Took v) plain = absurd (false≢true (sym plain))
plain_cause p w z call budget before now (Other v) plain = tt

module _ (words : PoolWords) (causes : CauseWords) (holds : MapSizes → List ℕ → List Pair → List ℕ → Type 0) (z : MapSizes)
    (call : Call) (budget : ℕ) {W : Type 0} (from now : SeatView Change Placed W) (free free' : List ℕ) (share start : ℕ)
    (t : Tally causes.reader.Memory) (made : Since causes.reader z call start t from now) where
  abbrev meaning : Meaning
  meaning = pool_meaning words causes holds

  abbrev before : PassView
  before = pool_view from free share

  abbrev after : PassView
  after = pool_view now free' share

  since : steps_since before after ≡ steps_made from now
  since = since_seen from now free free' share made.went.number

  lost_is : meaning.lost z call (steps_since before after) ≡ lost_of t
  lost_is = let e = ap (λ (l : List Step). lost_from causes.reader z call causes.reader.blank l) since in
      let told = lost_told causes.reader z call causes.reader.blank 0 (steps_made from now) in
      let read = ap lost_of made.read in omega (arith, e, told, read)

  early_is : meaning.lost_early z call (steps_since before after) ≡ early_of t
  early_is = let e = ap (λ (l : List Step). early_from causes.reader z call causes.reader.blank l) since in
      let told = early_told causes.reader z call causes.reader.blank 0 (steps_made from now) in
      let read = ap early_of made.read in omega (arith, e, told, read)

  start_is : start_of before after ≡ start
  start_is = ap (seen_first (length (log_of from.order))) since
      ∙ (seen_some (length (log_of from.order)) 0 (steps_made from now) made.some_made ∙ made.started)

  mine_same : Unplaced from now → after.mine ≡ before.mine
  mine_same u = ap (λ (p : ℕ). placed_by p now.order) made.went.number ∙ u

  struck_reply : (said : Reply) → Struck call said from now → PlacesReply call said before after
  struck_reply said s = let above = s.above in record {
    place = s.place;
    mine = ap (λ (p : ℕ). placed_by p now.order) made.went.number ∙ s.placed_so;
    since = omega arith;
    within = s.within;
    above = λ _. above;
    from_start = λ no. absurd (false≢true (sym no ∙ s.changed));
    least = λ no. absurd (false≢true (sym no ∙ s.changed));
  }

  -- A call that goes on is counted as its steps tell.
  pub counts : (going : GoingView) → going.call ≡ call → going.lost ≡ lost_of t → going.start ≡ start
      → (going.struck ≡ true → HasEffect true call from now) → (going.struck ≡ false → HasEffect false call from now)
      → Counted meaning z going before after
  counts going asked lost begins effect none = record {
    lost = lost ∙ sym (ap (λ (c : Call). lost_from causes.reader z c causes.reader.blank (steps_since before after)) asked ∙ lost_is);
    start = begins ∙ sym start_is;
    effect = λ struck. let s = effect struck in record {
      said = s.0;
      changed = s.1.changed;
      entered = subst (λ (c : Call). PlacesReply c s.0 before after) (sym asked) (struck_reply s.0 s.1);
    };
    no_effect = λ not. mine_same (none not);
  }

  module _ (last : SawLast from now) (sizes : now.known.sizes ≡ from.known.sizes) (stands : StandsThen now) where
    whole : Stepped from now
    whole = stepped_went from now made.went (subst (λ (l : List Step). 0 < length l) (went_steps from now made.went) made.some_made)
        (ap (seen_last 0) (sym (went_steps from now made.went)) ∙ last)

    all_grew : Grew before after
    all_grew = grew from now free free' share whole sizes

    stepped : 1 ≤ length (steps_since before after)
    stepped = let long = made.some_made in let one : 1 ≤ length (steps_made from now) = omega arith in
        subst (λ (l : List Step). 1 ≤ length l) (sym since) one

    long_enough : length (log_of from.order) ≤ start
    long_enough = first_saw (steps_made from now) refl
      where
        first_saw : (steps : List Step) → steps_made from now ≡ steps → length (log_of from.order) ≤ start
        first_saw [] is = let long = made.some_made in let none = ap (λ (l : List Step). length l) is in absurd (omega arith)
        first_saw (s ∷ steps) is = let e : s.seen ≡ start = ap (seen_first 0) (sym is) ∙ made.started in
            let saw = made.went.saw s (subst (λ (l : List Step). IsIn s l) (sym is ∙ went_steps from now made.went) (in_first s steps)) in
            let low = saw.0 in omega arith

    -- An answer by a reply that changes nothing.
    pub says_plain : (said : Reply) → Replied call said start from now → early_of t < budget → LeavesPurse meaning z call before after
        → Answered meaning z call budget before after (Said said) (lost_of t)
    says_plain said s few purse = let lo = s.since in record {
      grew = all_grew;
      says = record {
        place = s.place;
        mine = ap (λ (p : ℕ). placed_by p now.order) made.went.number ∙ s.placed_so;
        since = omega (arith, long_enough);
        within = s.within;
        above = λ yes. absurd (false≢true (sym s.unchanged ∙ yes));
        from_start = λ _. omega (arith, start_is);
        least = λ _ q from_q to_q. s.least q (omega (arith, start_is)) to_q;
      };
      stands = stands;
      lost = omega (arith, early_is);
      cause = plain_cause words causes z call budget before after said s.unchanged;
      purse = purse;
      full = tt;
      stepped = stepped;
      counted = lost_is;
    }

    own_long : length after.steps ≡ length (made_by now.known.number now.order)
    own_long = refl

    -- why it took a pair
    took_cause : (v : ℕ) → TookBy words causes z call budget t from now → PoolCause words causes z call budget before after (Said (Took v))
    took_cause v by = subst (λ (l : List Step). Why l (after_effect causes.reader z call causes.reader.blank l)) (sym since)
        (subst (λ (l : List Step). Why (steps_made from now) l) later
        (subst (λ (n : ℕ). Whole n (steps_made from now) (later_of t)) (sym lost_is) by))
      where
        later : later_of t ≡ after_effect causes.reader z call causes.reader.blank (steps_made from now)
        later = ap later_of (sym made.read) ∙ later_told causes.reader z call causes.reader.blank 0 (steps_made from now)

        Whole : ℕ → List Step → List Step → Type 0
        Whole n steps since_effect = WasDetached (causes.IsAttached z) (words.opening z) (causes.taken z call steps)
            (length (made_by now.known.number now.order) - length since_effect) now.known.number (entries_of now.order)
            ⊎ causes.LeftBy z call budget n since_effect

        Why : List Step → List Step → Type 0
        Why steps since_effect = Whole (lost_from causes.reader z call causes.reader.blank (steps_since before after)) steps since_effect

    -- An answer by a reply that says that the map was changed.
    pub says_struck : (said : Reply) → Struck call said from now → early_of t < budget
        → ((v : ℕ) → said ≡ Took v → TookBy words causes z call budget t from now) → LeavesPurse meaning z call before after
        → Answered meaning z call budget before after (Said said) (lost_of t)
    says_struck said s few why purse = record {
      grew = all_grew;
      says = struck_reply said s;
      stands = stands;
      lost = omega (arith, early_is);
      cause = by said refl;
      purse = purse;
      full = tt;
      stepped = stepped;
      counted = lost_is;
    }
      where
        by : (r : Reply) → said ≡ r → PoolCause words causes z call budget before after (Said r)
        by (Value v) is = tt
        by Absent is = tt
        by Added is = tt
        by (Held v) is = tt
        by (Took v) is = took_cause v (why v is)
        by (Other v) is = tt

    -- No record was found.
    pub says_full : (k v : ℕ) → call ≡ Insert k v → Unplaced from now → length free < words.need → WasAbsent start k (log_of now.order)
        → early_of t < budget → FoundNone words.need z free (steps_made from now) → LeavesPurse meaning z call before after
        → FullPurse meaning z before after → Answered meaning z call budget before after Full (lost_of t)
    says_full k v asked none short a few cause purse full = let lo = a.since in record {
      grew = all_grew;
      says = record {
        mine = mine_same none;
        inserts = (k, v, asked);
        short = short;
        place = a.place;
        from_start = omega (arith, start_is);
        within = a.within;
        absent = ap (λ (c : Call). find (after_log a.place) (key_of c)) asked ∙ a.absent;
      };
      stands = stands;
      lost = omega (arith, early_is);
      cause = subst (FoundNone words.need z free) (sym since) cause;
      purse = purse;
      full = full;
      stepped = stepped;
      counted = lost_is;
    }
      where
        after_log : ℕ → List Pair
        after_log p = map_after (log_of now.order) p

    -- It lost as many turns as it may, and gave up.
    pub gave_up : (turns : ℕ) → Unplaced from now → lost_of t ≡ turns → early_of t ≡ turns → turns ≡ budget
        → LeavesPurse meaning z call before after → Answered meaning z call budget before after (Lost turns) (lost_of t)
    gave_up turns none lost early all purse = record {
      grew = all_grew;
      says = record { mine = mine_same none; counted = lost_is ∙ lost };
      stands = stands;
      lost = (all, early_is ∙ (early ∙ all));
      cause = tt;
      purse = purse;
      full = tt;
      stepped = stepped;
      counted = lost_is;
    }
