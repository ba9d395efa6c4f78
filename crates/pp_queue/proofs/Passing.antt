-- A take may move head 0 on where head 1 has passed the dummy and the record behind it is held.
use Rattle.std.proofs.Common.{◌≡◌, ◌≢◌, ℕ, ◌*◌, ◌/◌, Bool, true, sym, ap, ◌∙◌, arith}
use Rattle.pp_link.specs.declared.layout.Sizes.{Sizes}
use Rattle.pp_link.specs.Links.{target}
use Rattle.pp_rule.specs.declared.views.WalkSlot.{WalkSlot}
use Rattle.pp_rule.specs.Views.{slot}
use Rattle.pp_rule.proofs.Made.{known_after}
use Rattle.pp_queues.specs.declared.own.QueueOwn.{QueueOwn}
use Rattle.pp_queues.specs.Queues.{QueuePass, QueueView}
use Rattle.pp_queues.specs.Turns.{stand, with_own, passed, leading, Saw, Tried}
use Rattle.pp_queue.specs.Calling.{StandsAt, IsHeadWord, HoldsNext, MayRemove}

-- a call stands at the record to which its head's word led
pub stand_is : (front : Bool) (n : ℕ) (q : QueuePass) → StandsAt front n q → stand q ≡ n
stand_is front n q st = ap (λ (j : ℕ). (slot q j).named) st.at ∙ st.named

pub may_remove : (z : Sizes) (v1 v2 v3 : QueueView) (q4 : QueuePass) (first last link place1 place2 : ℕ) → z.heads ≡ 2
    → StandsAt true (target first) v1.known → IsHeadWord first → Saw place1 last v1 v2 → last ≢ first → Tried place2 link v2 v3
    → link ≢ 0 → HoldsNext (target link) v3.known q4 → MayRemove z q4 first (link / 16 * 16)
may_remove z v1 v2 v3 q4 first last link place1 place2 two st head saw ne tried some h =
    let at_stand : first ≡ 16 * stand v1.known = head.plain
    ∙ ap (λ (n : ℕ). 16 * n) (sym (stand_is true (target first) v1.known st)) in
    let is2 : v2.known ≡ with_own (passed v1.known.own) v1.known = known_after _ _ _ _ _ _ _ v1 v2
    (saw.elsewhere (λ e. ne (e ∙ sym at_stand))) in
    let is3 : v3.known ≡ with_own (leading (target link) v2.known.own) v2.known = known_after _ _ _ _ _ _ _ v2 v3 (tried.some some) in
    let own4 : q4.own ≡ leading (target link) (passed v1.known.own) = h.own ∙ (ap (λ (q : QueuePass). q.own) is3
    ∙ ap (λ (q : QueuePass). leading (target link) q.own) is2) in
    let slot4 : slot q4 0 ≡ slot v1.known 0 = h.first ∙ (ap (λ (q : QueuePass). slot q 0) is3 ∙ ap (λ (q : QueuePass). slot q 0) is2) in
    let at4 : q4.own.at ≡ 0 = ap (λ (o : QueueOwn). o.at) own4 ∙ st.at in
    let next4 : q4.own.next ≡ target link = ap (λ (o : QueueOwn). o.next) own4 in record {
      two = two;
      word = omega arith;
      front = ap (λ (o : QueueOwn). o.front) own4 ∙ st.front_is;
      past = ap (λ (o : QueueOwn). o.past) own4;
      some = λ nil. some (tried.plain (sym next4 ∙ nil));
      first_is = head.plain ∙ ap (λ (n : ℕ). 16 * n) (sym (ap (λ (j : ℕ). (slot q4 j).named) at4
          ∙ (ap (λ (w : WalkSlot). w.named) slot4 ∙ st.named)));
      new_is = omega arith;
      held = h.held;
      named = h.named ∙ sym next4;
    }
