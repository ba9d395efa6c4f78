-- The ends of a take's turn.
use Rattle.std.proofs.Common.{◌≡◌, ◌≢◌, ℕ, ◌*◌, ◌≤◌, true, List, [], ◌∷◌, ◌++◌, length, get_or, refl, sym, ap, ◌∙◌}
use Rattle.std.proofs.Common.{subst, arith, length-append}
use Rattle.std.proofs.Math.Decide.{ℕ_discrete}
use mathlib.Core.Logic.{dite}
use Rattle.atomic_table.specs.declared.shared.Seat.{Seat}
use Rattle.pp_link.specs.declared.layout.Sizes.{Sizes}
use Rattle.pp_rule.specs.Lists.{IsIn}
use Rattle.pp_rule.specs.Orders.{log_of, placed_by}
use Rattle.pp_rule.proofs.Histories.{begins_through, log_begins}
use Rattle.pp_rule.proofs.Made.{known_after, order_begins, placed_after}
use Rattle.pp_base.specs.declared.purse.Purse.{Purse}
use Rattle.pp_base.specs.Passes.{known, view, IsAtRest}
use Rattle.pp_hazard.specs.Reading.{ReadValue}
use Rattle.pp_queues.specs.declared.calls.QueueChange.{QueueChange}
use Rattle.pp_queues.specs.declared.calls.QueuePlaced.{QueuePlaced}
use Rattle.pp_queues.specs.declared.calls.QueueCall.TheVariants as call
use Rattle.pp_queues.specs.declared.calls.QueueReply.TheVariants as said
use Rattle.pp_model.specs.Objects.{after}
use Rattle.pp_queues.specs.Queue.{queue, reply, placed}
use Rattle.pp_queues.specs.Queues.{QueuePass, QueueView}
use Rattle.pp_queues.specs.Turns.{stand, Saw, Tried, Settled, Advanced}
use Rattle.pp_model.proofs.Logs.{after_grown}
use Rattle.pp_queue.specs.Calling.{GoesOn, GoesFree, TookOff, WentOn, SaidEmpty}
use Rattle.pp_queue.proofs.Going.{rest_self, goes_made, goes_on}

-- what a pass at rest has stays where its lists are as they were
pub rest_same_lists : (q q' : QueuePass) (p p' : Purse) → q'.scan ≡ q.scan → q'.chains ≡ q.chains → q'.frontier ≡ q.frontier
    → p'.spent ≡ p.spent
    → IsAtRest q p → IsAtRest q' p'
rest_same_lists q q' p p' scan chains frontier spent r = record {
  scan = ap (λ s. s.read) scan ∙ r.scan;
  spent = spent ∙ r.spent;
  frontier = λ j lt unused. ap (λ (ws : List ℕ). get_or ws j 0) frontier ∙ r.frontier j lt
      (λ d i. unused d (subst (λ cs. IsIn d cs) (sym chains) i));
}

pub rest_goes : (v w : QueueView) (p p' : Purse) → GoesOn v w → p' ≡ p → IsAtRest v.known p → IsAtRest w.known p'
rest_goes v w p p' g same r = rest_same_lists v.known w.known p p' g.rest.scan g.rest.chains g.rest.frontier (ap
    (λ (p : Purse). p.spent) same) r

pub goes_saw : (place n : ℕ) (v w : QueueView) → Saw place n v w → GoesOn v w
goes_saw place n v w s = dite (ℕ_discrete n (16 * stand v.known)) (λ e. goes_made v w (s.here e) (rest_self v.known))
    (λ ne. goes_made v w (s.elsewhere ne) record {
      number = refl;
      sizes = refl;
      owned = refl;
      retired_are = refl;
      frontier = refl;
      chains = refl;
      scan = refl;
      going = refl;
      start = refl;
    })

pub goes_tried : (place n : ℕ) (v w : QueueView) → n ≢ 0 → Tried place n v w → GoesOn v w
goes_tried place n v w ne t = goes_made v w (t.some ne) record {
  number = refl;
  sizes = refl;
  owned = refl;
  retired_are = refl;
  frontier = refl;
  chains = refl;
  scan = refl;
  going = refl;
  start = refl;
}

pub goes_advanced : (place first new n : ℕ) (v w : QueueView) → Advanced place first new n v w → GoesOn v w
goes_advanced place first new n v w a = dite (ℕ_discrete n first)
    (λ e. goes_made v w (a.same e) record {
      number = refl;
      sizes = refl;
      owned = refl;
      retired_are = refl;
      frontier = refl;
      chains = refl;
      scan = refl;
      going = refl;
      start = refl;
    })
    (λ ne. goes_made v w (a.other ne) (rest_self v.known))

pub went_on : (v w : QueueView) → v.known.own.going ≡ true → GoesOn v w → WentOn v w
went_on v w going g = record {
  order = g.order;
  mine = g.mine;
  number = g.rest.number;
  going = g.rest.going
      ∙ going;
  start = g.rest.start;
}

-- an exchange of head 0 that missed, between other steps
pub went_free : (u v w x : QueueView) → u.known.own.going ≡ true → GoesOn u v → GoesFree v w → GoesOn w x → WentOn u x
went_free u v w x going a f b = record {
  order = begins_through x.order w.order u.order b.order (begins_through w.order v.order u.order f.order a.order);
  mine = subst (λ (n : ℕ). placed_by n x.order ≡ placed_by n w.order) (f.number ∙ a.rest.number) b.mine
      ∙ (subst (λ (n : ℕ). placed_by n w.order ≡ placed_by n v.order) a.rest.number f.mine ∙ a.mine);
  number = b.rest.number ∙ (f.number ∙ a.rest.number);
  going = b.rest.going ∙ (ap (λ o. o.going) f.own ∙ (a.rest.going ∙ going));
  start = b.rest.start ∙ (ap (λ o. o.start) f.own ∙ a.rest.start);
}

-- an exchange that succeeded, between other steps
pub took_between : (n : ℕ) (u v w x : QueueView) → GoesOn u v → TookOff n v w → GoesOn w x → TookOff n u x
took_between n u v w x a t b = record {
  order = begins_through x.order w.order u.order b.order (begins_through w.order v.order u.order t.order a.order);
  place = t.place;
  mine = subst (λ (m : ℕ). placed_by m x.order ≡ placed_by m w.order) (t.number ∙ a.rest.number) b.mine
      ∙ (subst (λ (m : ℕ). placed_by m w.order ≡ placed_by m v.order ++ placed call.Take
      (said.Took n) t.place ∷ []) a.rest.number t.mine
      ∙ ap (λ (l : List QueuePlaced). l ++ placed call.Take (said.Took n) t.place ∷ []) a.mine);
  above = let up = log_begins v.order u.order a.order in
      let long = ap (λ (l : List QueueChange). length l) up.1 ∙ length-append (log_of u.order) up.0 in
      let was = t.above in omega arith;
  within = let up = log_begins x.order w.order b.order in
      let long = ap (λ (l : List QueueChange). length l) up.1 ∙ length-append (log_of w.order) up.0 in
      let was = t.within in omega arith;
  number = b.rest.number ∙ (t.number ∙ a.rest.number);
}

-- a load of nil, between other steps
pub said_empty : (place found : ℕ) (u v w x : QueueView) → GoesOn u v → Settled place found v w → GoesOn w x → SaidEmpty u x
said_empty place found u v w x a s b = let up = log_begins x.order w.order b.order in
    let long = ap (λ (l : List QueueChange). length l) up.1 ∙ length-append (log_of w.order) up.0 in let hi = s.within in
    let same = λ (p : ℕ) (le : p ≤ length (log_of w.order)). ap (λ (l : List QueueChange). after queue l p) up.1
    ∙ after_grown queue (log_of w.order) up.0 p le in
    let is = known_after _ _ _ _ _ _ _ v w s.made in
    let number : w.known.number ≡ v.known.number = ap (λ (q : QueuePass). q.number) is in record {
      order = begins_through x.order w.order u.order b.order
          (begins_through w.order v.order u.order (order_begins _ _ _ _ _ _ _ v w s.made) a.order);
      place = s.at;
      mine = subst (λ (m : ℕ). placed_by m x.order ≡ placed_by m w.order) (number ∙ a.rest.number) b.mine
          ∙ (subst (λ (m : ℕ). placed_by m w.order ≡ placed_by m v.order ++ placed call.Take said.Empty s.at ∷ []) a.rest.number
          (placed_after _ _ _ _ _ _ _ v w s.made refl)
          ∙ ap (λ (l : List QueuePlaced). l ++ placed call.Take said.Empty s.at ∷ []) a.mine);
      since = let e = a.rest.start in let lo = s.since in omega arith;
      within = omega arith;
      right = ap (λ (items : List ℕ). reply items call.Take) (same s.at hi) ∙ s.right;
      least = λ p lo lt r. s.least p (let e = a.rest.start in omega arith) lt
          (ap (λ (items : List ℕ). reply items call.Take) (sym (same p (omega arith))) ∙ r);
      number = b.rest.number ∙ (number ∙ a.rest.number);
    }

-- after it the pass is at rest
pub rest_settled : (place found : ℕ) (v w : QueueView) (p p' : Purse) → Settled place found v w → p' ≡ p → IsAtRest v.known p
    → IsAtRest w.known p'
rest_settled place found v w p p' s same r = let is = known_after _ _ _ _ _ _ _ v w s.made in
    rest_same_lists v.known w.known p p' (ap (λ (q : QueuePass). q.scan) is) (ap (λ (q : QueuePass). q.chains) is) (ap
    (λ (q : QueuePass). q.frontier) is)
    (ap (λ (p : Purse). p.spent) same) r

pub goes_read : (z : Sizes) (i value : ℕ) (s s' : Seat Unit QueueView) → ReadValue z i value s s' → GoesOn (view s) (view s')
goes_read z i value s s' r = goes_on (view s) (view r.middle) (view s') (goes_made (view s) (view r.middle) r.first.made
    (rest_self (known s)))
    (goes_made (view r.middle) (view s') r.second.made (rest_self (known r.middle)))
