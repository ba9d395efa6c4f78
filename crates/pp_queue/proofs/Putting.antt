-- The ends of a put's turn.
use Rattle.std.proofs.Common.{◌≡◌, ◌≢◌, ℕ, ◌*◌, false, List, [], ◌∷◌, ◌++◌, length, refl, sym, ap, ◌∙◌}
use Rattle.std.proofs.Common.{subst, arith, length-append}
use mathlib.Core.Option.{some, some-injective}
use lib.ListN.{get_elem?}
use Rattle.pp_link.specs.declared.layout.Sizes.{Sizes}
use Rattle.pp_link.specs.Links.{target}
use Rattle.pp_link.specs.Places.{head_place}
use Rattle.pp_rule.specs.declared.views.PrivateRecord.{PrivateRecord}
use Rattle.pp_rule.specs.Lists.{OnceBy}
use Rattle.pp_rule.specs.Orders.{log_of, placed_by}
use Rattle.pp_rule.specs.Rule.{number_of}
use Rattle.pp_rule.specs.Steps.{MadeStep}
use Rattle.pp_rule.specs.Views.{slot}
use Rattle.pp_rule.proofs.Histories.{begins_through, log_begins}
use Rattle.pp_rule.proofs.Made.{known_after, order_begins, placed_after, seen_after_step}
use Rattle.pp_queues.specs.declared.calls.QueueCall.{QueueCall}
use Rattle.pp_queues.specs.declared.calls.QueueReply.{QueueReply}
use Rattle.pp_queues.specs.declared.calls.QueueChange.{QueueChange}
use Rattle.pp_queues.specs.declared.calls.QueuePlaced.{QueuePlaced}
use Rattle.pp_queues.specs.Queues.{QueuePass, QueueView}
use Rattle.pp_queues.specs.Turns.{leading, with_own, linked, Looked, MayAdvance, placed_at}
use Rattle.pp_queue.specs.Calling.{GoesOn, StandsAt, IsHeadWord, Struck}
use Rattle.pp_queue.proofs.Going.{goes_made}

pub goes_looked : (place n : ℕ) (v w : QueueView) → Looked place n v w → GoesOn v w
goes_looked place n v w l = goes_made v w l.made record {
  number = refl;
  sizes = refl;
  owned = refl;
  retired_are = refl;
  frontier = refl;
  chains = refl;
  scan = refl;
  going = refl;
  start = refl;
}

-- after its linking step a put may move head 1 on
pub may_advance : (z : Sizes) (q : QueuePass) (x i n first new : ℕ) → z.heads ≡ 2 → StandsAt false (target first) q
    → IsHeadWord first → n ≢ 0
    → new ≡ 16 * n → MayAdvance z (linked i n (with_own (leading x q.own) q)) (head_place z 1) first new
may_advance z q x i n first new two st head real is = record {
  two = two;
  word = let e = st.at in omega arith;
  some = real;
  place_is = refl;
  first_is = head.plain ∙ ap (λ (m : ℕ). 16 * m) (sym (ap (λ (j : ℕ). (slot q j).named) st.at ∙ st.named));
  new_is = is;
}

-- an own step at which a call took effect, between others
pub struck_between : {kind place word left : ℕ} {c : QueueChange} {q : QueuePass} (asked : QueueCall) (given : QueueReply)
    (u v w x : QueueView)
    → GoesOn u v → MadeStep kind place word left (c ∷ []) (placed_at asked given w ∷ []) q v w → q.number ≡ v.known.number
    → GoesOn w x → Struck asked given u x
struck_between {c = c} {q = q} asked given u v w x a made number b = let is = known_after _ _ _ _ _ _ _ v w made in
    let so_far = log_begins made.so_far v.order made.begins in let up = log_begins v.order u.order a.order in
    let later = log_begins x.order w.order b.order in let s : QueuePlaced = placed_at asked given w in
    let same : w.known.number ≡ u.known.number = ap (λ (q : QueuePass). q.number) is ∙ (number ∙ a.rest.number) in
    let last : log_of w.order ≡ log_of made.so_far ++ c ∷ [] = seen_after_step _ _ _ _ _ _ _ v w made in record {
      order = begins_through x.order w.order u.order b.order
          (begins_through w.order v.order u.order (order_begins _ _ _ _ _ _ _ v w made) a.order);
      place = length (log_of w.order);
      mine = subst (λ (n : ℕ). placed_by n x.order ≡ placed_by n w.order) same b.mine
          ∙ (subst (λ (n : ℕ). placed_by n w.order ≡ placed_by n v.order ++ s ∷ []) a.rest.number
          (placed_after _ _ _ _ _ _ _ v w made number)
          ∙ ap (λ (l : List QueuePlaced). l ++ s ∷ []) a.mine);
      above = let one = ap (λ (l : List QueueChange). length l) last ∙ length-append (log_of made.so_far) (c ∷ []) in
          let two = ap (λ (l : List QueueChange). length l) so_far.1 ∙ length-append (log_of v.order) so_far.0 in
          let three = ap (λ (l : List QueueChange). length l) up.1 ∙ length-append (log_of u.order) up.0 in omega arith;
      within = let four = ap (λ (l : List QueueChange). length l) later.1 ∙ length-append (log_of w.order) later.0 in omega arith;
      number = b.rest.number ∙ same;
    }

-- a number is that of one record
pub same_record : (ds : List PrivateRecord) (i j : ℕ) (d e : PrivateRecord) → OnceBy number_of ds → get_elem? ds i ≡ some d
    → get_elem? ds j ≡ some e
    → d.number ≡ e.number → d ≡ e
same_record ds i j d e once at_i at_j same = let k : i ≡ j = once i j d e at_i at_j same in
    some-injective d e (sym at_i ∙ (ap (λ (k : ℕ). get_elem? ds k) k ∙ at_j))
