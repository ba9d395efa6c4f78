-- The turns of a take put together.
use Rattle.std.proofs.Common.{◌≡◌, ℕ, ◌<◌, true, false, List, [], ◌∷◌, ◌++◌, length, refl, sym, ap, ◌∙◌}
use Rattle.std.proofs.Common.{subst, arith, length-append, append-nil}
use Rattle.pp_link.specs.declared.layout.Sizes.{Sizes}
use Rattle.pp_link.specs.Places.{IsWithin}
use Rattle.pp_rule.specs.Orders.{log_of, placed_by}
use Rattle.pp_rule.proofs.Histories.{begins_self, begins_through, log_begins}
use Rattle.pp_base.specs.declared.purse.Purse.{Purse}
use Rattle.pp_unlink.specs.Invalidation.{SameFree}
use Rattle.pp_rule.proofs.Made.{known_after, order_begins, placed_after}
use Rattle.pp_queues.specs.declared.calls.QueueChange.{QueueChange}
use Rattle.pp_queues.specs.declared.calls.QueuePlaced.{QueuePlaced}
use Rattle.pp_queues.specs.declared.calls.QueueCall.TheVariants as call
use Rattle.pp_queues.specs.declared.calls.QueueReply.TheVariants as said
use Rattle.pp_queues.specs.declared.calls.QueueCall.{QueueCall}
use Rattle.pp_queues.specs.declared.calls.QueueReply.{QueueReply}
use lib.ListN.{get_elem?}
use Rattle.pp_rule.specs.declared.views.PrivateRecord.{PrivateRecord}
use Rattle.pp_rule.specs.Rule.{number_of}
use Rattle.pp_rule.specs.Lists.{times}
use Rattle.pp_base.specs.Passes.{owned_numbers}
use Rattle.std.proofs.Common.{map}
use Rattle.pp_queues.specs.Queue.{placed}
use Rattle.pp_queues.specs.Queues.{QueuePass, QueueView}
use Rattle.pp_queues.specs.Turns.{IsEnd, Begins, Ends}
use Rattle.pp_rule.specs.Steps.{MadeQuietStep}
use Rattle.pp_model.specs.Pass.{seen_first}
use Rattle.pp_calls.proofs.Growing.{stepped_one, stepped_both}
use Rattle.pp_queues.specs.Losses.{Tally, counting, losing, Ran}
use Rattle.pp_queues.proofs.Counting.{ran_one, ran_quiet, ran_both}
use Rattle.pp_queue.specs.Calling.{GoesOn, WentOn, SaidEmpty, TookOff, IsHeadWord, Struck, HasRecord}
use Rattle.pp_queue.specs.Answers.{Began, TookNone}
use Rattle.pp_queue.proofs.Running.{counted_load, end_valid}

pub head_word_of : (z : Sizes) (found : ℕ) → IsWithin z → IsEnd z found → IsHeadWord found
head_word_of z found within e = let some = e.number.0 in let most = e.number.1 in let few = within.records in
    let plain = e.plain in record {
      some = λ nil. omega arith;
      plain = e.plain;
      small = omega arith;
    }

pub began : (place n : ℕ) (v w : QueueView) → Begins place n v w → Began v w
began place n v w b = let is = known_after _ _ _ _ _ _ _ v w b.made in
    let up = log_begins w.order v.order (order_begins _ _ _ _ _ _ _ v w b.made) in record {
      order = order_begins _ _ _ _ _ _ _ v w b.made;
      mine = placed_after _ _ _ _ _ _ _ v w b.made refl ∙ append-nil (placed_by v.known.number v.order);
      number = ap (λ (q : QueuePass). q.number) is;
      going = ap (λ (q : QueuePass). q.own.going) is;
      since = let e = ap (λ (q : QueuePass). q.own.start) is in
          let long = ap (λ (l : List QueueChange). length l) up.1 ∙ length-append (log_of v.order) up.0 in omega arith;
    }

pub went_self : (v : QueueView) → v.known.own.going ≡ true → WentOn v v
went_self v going = record { order = begins_self v.order; mine = refl; number = refl; going = going; start = refl }

pub went_more : (u v w x : QueueView) → WentOn u v → WentOn v w → GoesOn w x → WentOn u x
went_more u v w x a o g = record {
  order = begins_through x.order w.order u.order g.order (begins_through w.order v.order u.order o.order a.order);
  mine = subst (λ (n : ℕ). placed_by n x.order ≡ placed_by n w.order) (o.number ∙ a.number) g.mine
      ∙ (subst (λ (n : ℕ). placed_by n w.order ≡ placed_by n v.order) a.number o.mine ∙ a.mine);
  number = g.rest.number ∙ (o.number ∙ a.number);
  going = g.rest.going ∙ o.going;
  start = g.rest.start ∙ (o.start ∙ a.start);
}

pub began_on : (u v w : QueueView) → Began u v → WentOn v w → Began u w
began_on u v w b o = record {
  order = begins_through w.order v.order u.order o.order b.order;
  mine = subst (λ (n : ℕ). placed_by n w.order ≡ placed_by n v.order) b.number o.mine ∙ b.mine;
  number = o.number ∙ b.number;
  going = o.going;
  since = let s = b.since in let e = o.start in omega arith;
}

-- The steps of a call after its first one, with that one: how much was seen at the start is what was seen after it.
pub started : {kind place word left : ℕ} {q : QueuePass} (passes : ℕ) (t t' t'' : Tally) (u v w : QueueView)
    → MadeQuietStep kind place word left q u v → q.number ≡ u.known.number
    → counting passes t (record { kind = kind; place = place; word = word }) ≡ t' → Ran passes t' t'' v w
    → (x : Ran passes t t'' u w) × ((seen_first 0 x.stepped.steps ≡ length (log_of v.order)) × (0 < length x.stepped.steps))
unfolding ran_both ran_one ran_quiet stepped_both stepped_one
started passes t t' t'' u v w made number counted b = (
  ran_both passes t t' t'' u v w (ran_quiet passes t t' u v made number counted) b,
  (refl, omega arith),
)

-- a take's first step
pub begun : (passes : ℕ) (t'' : Tally) (place found : ℕ) (u v w : QueueView) → Begins place found u v
    → Ran passes (losing found 0) t'' v w
    → (x : Ran passes (losing 0 0) t'' u w) × ((seen_first 0 x.stepped.steps ≡ v.known.own.start) × (0 < length x.stepped.steps))
begun passes t'' place found u v w b r = let x = started passes (losing 0 0) (losing found 0) t'' u v w b.made refl
    (counted_load passes 0 0 place found false (end_valid u.known.sizes found b.end)) r in
    (x.0, (x.1.0 ∙ sym (ap (λ (q : QueuePass). q.own.start) (known_after _ _ _ _ _ _ _ u v b.made)), x.1.1))

pub took_none : (passes races turns word : ℕ) (u v w : QueueView) → Began u v → SaidEmpty v w → turns < races
    → (x : Ran passes (losing 0 0) (losing word turns) u w) → seen_first 0 x.stepped.steps ≡ v.known.own.start
    → 0 < length x.stepped.steps → (passes ≡ 1 → u.known.own.behind ≡ false → turns ≡ 0)
    → TookNone passes races u w
took_none passes races turns word u v w b e few x started real alone = record {
  start = v.known.own.start;
  from = b.since;
  place = e.place;
  mine = subst (λ (n : ℕ). placed_by n w.order ≡ placed_by n v.order ++ placed call.Take said.Empty e.place ∷ []) b.number e.mine
      ∙ ap (λ (l : List QueuePlaced). l ++ placed call.Take said.Empty e.place ∷ []) b.mine;
  since = e.since;
  within = e.within;
  right = e.right;
  least = e.least;
  word = word;
  lost = turns;
  few = few;
  ran = x;
  some = real;
  started = started;
  alone = alone;
}

pub took_one : (n : ℕ) (u v w : QueueView) → Began u v → TookOff n v w → TookOff n u w
took_one n u v w b t = record {
  order = begins_through w.order v.order u.order t.order b.order;
  place = t.place;
  mine = subst (λ (m : ℕ). placed_by m w.order ≡ placed_by m v.order ++ placed call.Take
      (said.Took n) t.place ∷ []) b.number t.mine
      ∙ ap (λ (l : List QueuePlaced). l ++ placed call.Take (said.Took n) t.place ∷ []) b.mine;
  above = let up = log_begins v.order u.order b.order in
      let long = ap (λ (l : List QueueChange). length l) up.1 ∙ length-append (log_of u.order) up.0 in
      let was = t.above in omega arith;
  within = t.within;
  number = t.number ∙ b.number;
}

pub free_on : (p q r s : Purse) → SameFree p q → SameFree q r → s ≡ r → SameFree p s
free_on p q r s a b e = subst (SameFree p) (sym e) record {
  free = b.free ∙ a.free;
  taken = b.taken ∙ a.taken;
  going = b.going
      ∙ a.going;
}

-- what was taken stays so
pub record_on : (q q' : QueuePass) (p p' : Purse) (n v : ℕ) → q'.owned ≡ q.owned → p' ≡ p → HasRecord q p n v
    → HasRecord q' p' n v
record_on q q' p p' n v owned purse h = record {
  index = h.index;
  was = h.was;
  number_is = h.number_is;
  taken = subst (λ (ds : List PrivateRecord). times n p'.free.items < times n (map number_of ds)) (sym owned)
      (subst (λ (p : Purse). times n p.free.items < times n (owned_numbers q)) (sym purse) h.taken);
  at = ap (λ (ds : List PrivateRecord). get_elem? ds h.index) owned ∙ h.at;
  left = h.left;
  value_is = h.value_is;
}

pub struck_on : (asked : QueueCall) (given : QueueReply) (u v w : QueueView) → GoesOn u v → Struck asked given v w
    → Struck asked given u w
struck_on asked given u v w a t = record {
  order = begins_through w.order v.order u.order t.order a.order;
  place = t.place;
  mine = subst (λ (m : ℕ). placed_by m w.order ≡ placed_by m v.order ++ placed asked given t.place ∷ []) a.rest.number t.mine
      ∙ ap (λ (l : List QueuePlaced). l ++ placed asked given t.place ∷ []) a.mine;
  above = let up = log_begins v.order u.order a.order in
      let long = ap (λ (l : List QueueChange). length l) up.1 ∙ length-append (log_of u.order) up.0 in
      let was = t.above in omega arith;
  within = t.within;
  number = t.number ∙ a.rest.number;
}

-- a put's first step, and those up to its last turn
pub ended : (passes : ℕ) (t'' : Tally) (place found : ℕ) (u v w : QueueView) → Ends place found u v
    → Ran passes (losing found 0) t'' v w
    → (x : Ran passes (losing 0 0) t'' u w) × (0 < length x.stepped.steps)
ended passes t'' place found u v w e r = let x = started passes (losing 0 0) (losing found 0) t'' u v w e.made refl
    (counted_load passes 0 0 place found false (end_valid u.known.sizes found e.end)) r in (x.0, x.1.1)
