-- The clauses of a whole call on a queue.
use Rattle.std.proofs.Common.{◌≡◌, ⊎_elim, ◌⊎◌, inl, inr, ℕ, ◌+◌, ◌*◌, ◌<◌, ◌≤◌, min, true}
use Rattle.std.proofs.Common.{List, [], ◌∷◌, ◌++◌, length}
use Rattle.std.proofs.Common.{length-append, refl, sym, ap, ◌∙◌, subst, arith}
use Rattle.std.specs.Prelude.{drop}
use Rattle.std.proofs.Math.Seq.{drop-append_seam}
use Rattle.std.proofs.Math.Bool.{false≢true}
use Rattle.pp_link.specs.declared.layout.Sizes.{Sizes}
use Rattle.pp_model.specs.declared.steps.Step.{Step}
use Rattle.pp_model.specs.Pass.{seen_first, seen_last}
use Rattle.pp_rule.specs.Causes.{FoundTaken}
use Rattle.pp_rule.specs.Lists.{IsIn, BeginsWith}
use Rattle.pp_rule.specs.Orders.{log_of, made_by, placed_by, entries_of}
use Rattle.pp_rule.proofs.Histories.{log_begins, entries_append}
use Rattle.pp_shelf.specs.Runs.{steps_made}
use Rattle.pp_queues.specs.declared.calls.QueueCall.{QueueCall}
use Rattle.pp_queues.specs.declared.calls.QueueReply.{QueueReply}
use Rattle.pp_queues.specs.declared.calls.QueueChange.{QueueChange}
use Rattle.pp_queues.specs.declared.calls.QueuePlaced.{QueuePlaced}
use Rattle.pp_model.specs.Objects.{after}
use Rattle.pp_queues.specs.Queue.{queue, changes, placed}
use Rattle.pp_queues.specs.Queues.{QueueView, HasOwn}
use Rattle.pp_queues.specs.Turns.{StandsThen}
use Rattle.pp_queues.specs.Losses.{Tally, losing, Ran}
use Rattle.pp_queues.specs.Calls.{QueuePassView, queue_view, steps_since, start_of, map_sizes, lost_turns, early_losses}
use Rattle.pp_queues.specs.Calls.{Grew, Stands, PlacesReply}
use Rattle.pp_queues.specs.Calls.{Tidied, spends}
use Rattle.pp_queues.proofs.Counting.{tally_lost, tally_early}
use Rattle.pp_model.proofs.Logs.{after_grown}
use Rattle.pp_queue.proofs.Reclaiming.{since_made}

-- how much the first of some steps saw
seen_some : (d e : ℕ) (steps : List Step) → 0 < length steps → seen_first d steps ≡ seen_first e steps
seen_some d e [] long = absurd (omega arith)
seen_some d e (s ∷ steps) long = refl

module _ (z : Sizes) (asked : QueueCall) (v w : QueueView) (free free' : List ℕ) (share : ℕ) (t : Tally)
    (r : Ran z.passes (losing 0 0) t v w)
    (real : 0 < length r.stepped.steps) where
  abbrev pub before : QueuePassView
  before = queue_view v free share

  abbrev pub now : QueuePassView
  now = queue_view w free' share

  made : made_by w.known.number w.order ≡ made_by v.known.number v.order ++ r.stepped.steps
  made = subst (λ (n : ℕ). made_by n w.order ≡ made_by v.known.number v.order ++ r.stepped.steps)
      (sym r.stepped.number) r.stepped.made

  pub since : steps_since before now ≡ r.stepped.steps
  since = ap (drop (length (made_by v.known.number v.order))) made
      ∙ drop-append_seam (made_by v.known.number v.order) r.stepped.steps

  pub since_is : steps_since before now ≡ steps_made v w
  since_is = since ∙ sym (since_made v w r.stepped)

  pub stepped : 0 < length (steps_since before now)
  stepped = subst (λ (l : List Step). 0 < length l) (sym since) real

  pub grew : Grew before now
  unfolding made_by
  grew = record {
    caller = r.stepped.number;
    share = refl;
    seen = log_begins w.order v.order r.stepped.order;
    mine = (
      r.stepped.calls,
      subst (λ (n : ℕ). placed_by n w.order ≡ placed_by v.known.number v.order ++ r.stepped.calls)
          (sym r.stepped.number) r.stepped.placed,
    );
    steps = (r.stepped.steps, made);
    order = (entries_of r.stepped.order.0, ap entries_of r.stepped.order.1 ∙ entries_append v.order r.stepped.order.0);
    own_steps = refl;
    saw = λ s i. r.stepped.saw s (subst (λ (l : List Step). IsIn s l) since i);
    seen_by = ap (seen_last 0) since ∙ r.stepped.last real;
  }

  pub lost_is : lost_turns z asked (steps_since before now) ≡ t.lost
  lost_is = let e = ap (λ (l : List Step). lost_turns z asked l) since in
      let n = tally_lost (map_sizes z) asked (losing 0 0) r.stepped.steps in let x = ap (λ (u : Tally). u.lost) r.tallied in
      omega arith

  pub early_is : early_losses z asked (steps_since before now) ≡ t.early
  early_is = let e = ap (λ (l : List Step). early_losses z asked l) since in
      let n = tally_early (map_sizes z) asked (losing 0 0) r.stepped.steps refl in
      let x = ap (λ (u : Tally). u.early) r.tallied in omega arith

  pub start_is : (start : ℕ) → seen_first 0 r.stepped.steps ≡ start → start_of before now ≡ start
  start_is start e = ap (seen_first (length (log_of v.order))) since
      ∙ (seen_some (length (log_of v.order)) 0 r.stepped.steps real ∙ e)

  pub stand : HasOwn w.order → StandsThen v → Stands now
  stand own s = r.stands own s

  mine_now : (calls : List QueuePlaced) → placed_by v.known.number w.order ≡ placed_by v.known.number v.order ++ calls
      → now.mine ≡ before.mine ++ calls
  mine_now calls e = subst (λ (n : ℕ). placed_by n w.order ≡ placed_by v.known.number v.order ++ calls) (sym r.stepped.number) e

  pub mine_same : placed_by v.known.number w.order ≡ placed_by v.known.number v.order → now.mine ≡ before.mine
  mine_same e = subst (λ (n : ℕ). placed_by n w.order ≡ placed_by v.known.number v.order) (sym r.stepped.number) e

  -- a reply that says that the queue was changed
  pub places_change : (said : QueueReply) (place : ℕ) → changes said ≡ true
      → placed_by v.known.number w.order ≡ placed_by v.known.number v.order ++ placed asked said place ∷ []
      → length (log_of v.order) < place → place ≤ length (log_of w.order) → PlacesReply asked said before now
  places_change said place changed e above within = record {
    place = place;
    mine = mine_now (placed asked said place ∷ []) e;
    since = omega arith;
    within = within;
    above = λ _. above;
    from_start = λ no. absurd (false≢true (sym no ∙ changed));
    right = λ no. absurd (false≢true (sym no ∙ changed));
    least = λ no. absurd (false≢true (sym no ∙ changed));
  }

  -- what the call left of its purse
  pub tidies : (length w.known.retired ≤ 2 * (9 * z.passes)) → length w.known.chains ≤ 4
      → (length free' ≤ share) ⊎ FoundTaken (map_sizes z) (steps_made v w) → min (length free) share ≤ length free' + spends asked
      → Tidied z asked before now
  tidies few chains shared kept = record {
    retired_few = few;
    chains = chains;
    shared = ⊎_elim (λ (le : length free' ≤ share). inl le)
        (λ (f : FoundTaken (map_sizes z) (steps_made v w)). inr (subst (FoundTaken (map_sizes z)) (sym since_is) f)) shared;
    kept = kept;
  }

-- what is right at a place stays right there
pub right_on : (v w : QueueView) (p : ℕ) → BeginsWith w.order v.order → p ≤ length (log_of v.order)
    → after queue (log_of w.order) p ≡ after queue (log_of v.order) p
right_on v w p b le = let up = log_begins w.order v.order b in
    ap (λ (l : List QueueChange). after queue l p) up.1 ∙ after_grown queue (log_of v.order) up.0 p le

-- more is seen where the order is longer
pub log_long : (w v : QueueView) → BeginsWith w.order v.order → length (log_of v.order) ≤ length (log_of w.order)
log_long w v b = let up = log_begins w.order v.order b in
    let long = ap (λ (l : List QueueChange). length l) up.1 ∙ length-append (log_of v.order) up.0 in omega arith
