-- The steps of a try to move head 0 on.
use Rattle.std.proofs.Common.{◌≡◌, ◌≢◌, ℕ, zero, suc, ◌*◌, ◌<◌, ◌≤◌, List, [], ◌∷◌, ◌++◌, length, get_or}
use Rattle.std.proofs.Common.{refl, sym, ap, ap₂, ◌∙◌, subst, arith}
use Rattle.std.proofs.Common.{append-nil, length-append}
use Rattle.std.proofs.Math.Decide.{ℕ_discrete}
use mathlib.Core.Logic.{dite}
use Rattle.pp_link.specs.declared.layout.Sizes.{Sizes}
use Rattle.pp_link.specs.Places.{head_place}
use Rattle.pp_rule.specs.declared.views.WalkSlot.{WalkSlot}
use Rattle.pp_rule.specs.Lists.{BeginsWith}
use Rattle.pp_rule.specs.Orders.{log_of, placed_by}
use Rattle.pp_rule.specs.Views.{blank, guarding}
use Rattle.pp_rule.specs.Steps.{MadeStep, IsUnused}
use Rattle.pp_rule.proofs.Histories.{begins_self, begins_through, log_begins}
use Rattle.pp_rule.proofs.Made.{known_after, order_begins, placed_after, seen_after_step}
use Rattle.pp_base.specs.Named.{NamedStep, Made}
use Rattle.pp_unlink.specs.Invalidation.{Flushed}
use Rattle.pp_unlink.specs.Unlinking.{MayFlush}
use Rattle.pp_queues.specs.declared.calls.QueueChange.{QueueChange}
use Rattle.pp_queues.specs.declared.calls.QueuePlaced.{QueuePlaced}
use Rattle.pp_queues.specs.declared.calls.QueueCall.TheVariants as call
use Rattle.pp_queues.specs.declared.calls.QueueReply.TheVariants as said
use Rattle.pp_queues.specs.declared.own.QueueOwn.{QueueOwn}
use Rattle.pp_queues.specs.Queue.{placed}
use Rattle.pp_queues.specs.Queues.{QueuePass, QueueView}
use Rattle.pp_queues.specs.Turns.{stand, MayTake}
use Rattle.pp_queue.specs.Calling.{MayRemove, TookOff}

-- steps at which no call was placed
pub record OnOrder (v w : QueueView) : Type 0 where
  pub order : BeginsWith w.order v.order
  pub mine : placed_by v.known.number w.order ≡ placed_by v.known.number v.order
  pub number : w.known.number ≡ v.known.number

pub order_self : (v : QueueView) → OnOrder v v
order_self v = record { order = begins_self v.order; mine = refl; number = refl }

pub order_trans : (u v w : QueueView) → OnOrder u v → OnOrder v w → OnOrder u w
order_trans u v w a b = record {
  order = begins_through w.order v.order u.order b.order a.order;
  mine = subst (λ (n : ℕ). placed_by n w.order ≡ placed_by n v.order) a.number b.mine ∙ a.mine;
  number = b.number ∙ a.number;
}

pub order_made : {kind place word left : ℕ} {cs : List QueueChange} {q : QueuePass} (v w : QueueView)
    → MadeStep kind place word left cs [] q v w
    → q.number ≡ v.known.number → OnOrder v w
order_made v w made number = record {
  order = order_begins _ _ _ _ _ _ _ v w made;
  mine = placed_after _ _ _ _ _ _ _ v w made number ∙ append-nil (placed_by v.known.number v.order);
  number = ap (λ (q : QueuePass). q.number) (known_after _ _ _ _ _ _ _ v w made) ∙ number;
}

made_order : (steps : List NamedStep) (v w : QueueView) → Made steps v w → OnOrder v w
made_order [] v w is = subst (OnOrder v) (sym is) (order_self v)
made_order (s ∷ steps) v w (next, (one, rest)) = order_trans v next w (order_made v next one.made one.number)
    (made_order steps next w rest)

pub flushed_order : (z : Sizes) (n : ℕ) (v w : QueueView) → Flushed 1 z n v w → OnOrder v w
flushed_order z zero v w is = subst (OnOrder v) (sym is) (order_self v)
flushed_order z (suc n) v w (next, (one, rest)) = order_trans v next w (made_order _ v next one.steps)
    (flushed_order z n next w rest)

pub flush_order : (z : Sizes) (v w : QueueView) → length v.known.chains ≤ 4 → MayFlush 1 z v w → OnOrder v w
flush_order z v w few f = dite (ℕ_discrete (length v.known.chains) 4) (λ e. flushed_order z 4 v w (f.full e))
    (λ ne. subst (OnOrder v) (sym (f.few (omega arith))) (order_self v))

-- what may be done stays so as long as the pass stands where it stood
pub may_take : (z : Sizes) (q q' : QueuePass) (first new guard : ℕ) → MayRemove z q first new → q'.own ≡ q.own → q'.walk ≡ q.walk
    → guard < 4
    → guarding q' guard ≡ q.own.next → IsUnused guard q' → MayTake z q' 1 guard (head_place z 0) first new
may_take z q q' first new guard m own walk low named unused = let same : stand q' ≡ stand q =
    ap₂ (λ (ws : List WalkSlot) (o : QueueOwn). (get_or ws o.at blank).named) walk own in record {
      two = m.two;
      word = subst (λ (o : QueueOwn). o.at < 5) (sym own) m.word;
      front = ap (λ (o : QueueOwn). o.front) own ∙ m.front;
      past = ap (λ (o : QueueOwn). o.past) own ∙ m.past;
      some = subst (λ (o : QueueOwn). o.next ≢ 0) (sym own) m.some;
      place_is = refl;
      first_is = m.first_is ∙ ap (λ (n : ℕ). 16 * n) (sym same);
      new_is = m.new_is ∙ ap (λ (o : QueueOwn). 16 * o.next) (sym own);
      other = omega arith;
      held = ap (λ (ws : List WalkSlot). (get_or ws 1 blank).held) walk ∙ m.held;
      named = ap (λ (ws : List WalkSlot). (get_or ws 1 blank).named) walk ∙ (m.named ∙ ap (λ (o : QueueOwn). o.next) (sym own));
      guard_low = low;
      guarded = named ∙ ap (λ (o : QueueOwn). o.next) (sym own);
      unused = unused;
    }

-- A take's own step, after others.
pub took_off : {kind place word left : ℕ} {c : QueueChange} {q : QueuePass} (v : ℕ) (u w x : QueueView) → OnOrder u w
    → MadeStep kind place word left (c ∷ []) (placed call.Take (said.Took v) (length (log_of x.order)) ∷ []) q w x
    → q.number ≡ w.known.number → TookOff v u x
took_off {kind} {place} {word} {left} {c} {q} v u w x a made number = let is = known_after _ _ _ _ _ _ _ w x made in
    let b = order_begins _ _ _ _ _ _ _ w x made in let so_far = log_begins made.so_far w.order made.begins in
    let up = log_begins w.order u.order a.order in
    let last : log_of x.order ≡ log_of made.so_far ++ c ∷ [] = seen_after_step _ _ _ _ _ _ _ w x made in record {
      order = begins_through x.order w.order u.order b a.order;
      place = length (log_of x.order);
      mine = subst (λ (n : ℕ). placed_by n x.order ≡ placed_by n w.order ++ placed call.Take (said.Took v)
          (length (log_of x.order)) ∷ []) a.number
          (placed_after _ _ _ _ _ _ _ w x made number)
          ∙ ap (λ (l : List QueuePlaced). l ++ placed call.Take (said.Took v) (length (log_of x.order)) ∷ []) a.mine;
      above = let one = ap (λ (l : List QueueChange). length l) last ∙ length-append (log_of made.so_far) (c ∷ []) in
          let two = ap (λ (l : List QueueChange). length l) so_far.1 ∙ length-append (log_of w.order) so_far.0 in
          let three = ap (λ (l : List QueueChange). length l) up.1 ∙ length-append (log_of u.order) up.0 in omega arith;
      within = omega arith;
      number = ap (λ (q : QueuePass). q.number) is ∙ (number ∙ a.number);
    }
