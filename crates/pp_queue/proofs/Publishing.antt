-- A put that took effect.
use Rattle.std.proofs.Common.{◌≡◌, inl, inr, ℕ, ◌+◌, ◌*◌, ◌<◌, ◌≤◌, false, List, [], ◌∷◌, ◌++◌, map}
use Rattle.std.proofs.Common.{length, refl, sym, ap, ◌∙◌, subst}
use Rattle.std.proofs.Common.{arith, append_assoc, lt-ltb, length-append}
use Rattle.std.proofs.Math.Decide.{ℕ_discrete}
use mathlib.Core.Logic.{dite}
use mathlib.Core.Option.{some}
use lib.ListN.{get_elem?}
use Rattle.pp_link.specs.declared.layout.Sizes.{Sizes}
use Rattle.pp_link.specs.Places.{head_place}
use Rattle.pp_model.specs.declared.steps.Step.{Step}
use Rattle.pp_rule.specs.declared.views.PrivateRecord.{PrivateRecord}
use Rattle.pp_rule.specs.Lists.{OnceBy, times, remove_at}
use Rattle.pp_rule.specs.Rule.{number_of}
use Rattle.pp_rule.specs.Orders.{log_of}
use Rattle.pp_rule.proofs.Counting.{times_here}
use Rattle.pp_rule.proofs.Times.{one_fewer, times_removed, times_once}
use Rattle.pp_rule.proofs.Put.{in_first, in_left}
use Rattle.pp_base.specs.declared.purse.Purse.{Purse}
use Rattle.pp_base.specs.Passes.{owned_numbers}
use Rattle.pp_pool.specs.Taken.{IsPrivate, IsPublished}
use Rattle.pp_calls.proofs.Growing.{stepped_one, stepped_both}
use Rattle.pp_queues.specs.Queues.{QueuePass, QueueView}
use Rattle.pp_queues.specs.Turns.{put_step, Advanced}
use Rattle.pp_queues.specs.Calls.{TriedToMove}
use Rattle.pp_queues.specs.Losses.{Tally, one_more, losing, striking, Ran}
use Rattle.pp_queues.proofs.Counting.{ran_one, ran_quiet, ran_both}
use Rattle.pp_queue.specs.Steps.{LinkedAt}
use Rattle.pp_queue.specs.Calling.{Struck, PutStruck, SameRest, SameLists, HasRecord}
use Rattle.pp_queue.specs.Answers.{PutDone}
use Rattle.pp_queues.specs.declared.calls.QueueCall.TheVariants as call
use Rattle.pp_queues.specs.declared.calls.QueueReply.TheVariants as said
use Rattle.std.proofs.Math.Bool.{false≢true}
use Rattle.pp_rule.proofs.Made.{known_after}

-- A record that was linked counts as published.
pub published_linked : (q q' : QueuePass) (p p' : Purse) (n i : ℕ) (d : PrivateRecord) → OnceBy number_of q.owned
    → get_elem? q.owned i ≡ some d → d.number ≡ n → q'.owned ≡ remove_at i q.owned → p' ≡ p
    → length q.owned ≤ length p.free.items + p.taken → IsPublished q' p' n
published_linked q q' p p' n i d once at number owned same counted =
    let all : times n (owned_numbers q) ≤ 1 = times_once n q.owned once in
    let removed = times_removed n q.owned i d at in
    let one = times_here n d.number (map number_of (remove_at i q.owned)) number in
    let now : times n (owned_numbers q') ≡ times n (map number_of (remove_at i q.owned)) =
    ap (λ (ds : List PrivateRecord). times n (map number_of ds)) owned in
    let fewer = one_fewer q.owned i d at in let long = ap (λ (ds : List PrivateRecord). length ds) owned in
    let free = ap (λ (p : Purse). length p.free.items) same in let taken = ap (λ (p : Purse). p.taken) same in record {
      gone = omega arith;
      untold = omega arith;
    }

-- The linking exchange of a put between its other steps: after it, it tries once to move head 1 on.
module _ (z : Sizes) (first word n : ℕ) (v0 v2 v3 v4 v5 : QueueView) (a : Ran z.passes (losing first n) (losing word n) v0 v2)
    (m place new : ℕ) (l : LinkedAt m place new 0 v2 v3) (old next found : ℕ)
    (adv : Advanced (head_place z 1) old next found v3 v4)
    (rest : (t : Tally) → Ran z.passes t t v4 v5) (kept : v5.known.own.behind ≡ v4.known.own.behind) where
  pub put_struck : PutStruck z first n v0 v5
  unfolding ran_both ran_one ran_quiet stepped_both stepped_one
  put_struck = dite (ℕ_discrete found old)
      (λ hit. let t : Tally = striking word n in
      let b : Ran z.passes t t v3 v4 = ran_quiet z.passes t t v3 v4 (adv.same hit) refl refl in
      let front = ran_both z.passes (losing first n) (losing word n) t v0 v2 v3 a linking in
      let back = ran_both z.passes t t t v3 v4 v5 b (rest t) in record {
        counted = t;
        struck = (refl, refl);
        ran = ran_both z.passes (losing first n) t t v0 v3 v5 front back;
        up = λ _. refl;
        tried = record {
          earlier = a.stepped.steps;
          linking = link_step;
          later = b.stepped.steps ++ (rest t).stepped.steps;
          steps_are = append_assoc a.stepped.steps (link_step ∷ []) (b.stepped.steps ++ (rest t).stepped.steps);
          linked = refl;
          tried = _;
          after_it = in_first _ (rest t).stepped.steps;
          place = refl;
          outcome = inl refl;
        };
      })
      (λ ne. let t : Tally = striking word n in let u : Tally = record { memory = t.memory; lost = n + 1; early = n } in
      let b : Ran z.passes t u v3 v4 = ran_quiet z.passes t u v3 v4 (adv.other ne) refl
      (let count : _ → Tally = λ b. record { memory = t.memory; lost = one_more b n; early = n } in
      ap count (lt-ltb (17 * z.passes) (head_place z 1) (omega arith))) in
      let front = ran_both z.passes (losing first n) (losing word n) t v0 v2 v3 a linking in
      let back = ran_both z.passes t u u v3 v4 v5 b (rest u) in record {
        counted = u;
        struck = (refl, refl);
        ran = ran_both z.passes (losing first n) t u v0 v3 v5 front back;
        up = λ down. absurd (false≢true (sym down
            ∙ (kept ∙ (ap (λ (q : QueuePass). q.own.behind) (known_after _ _ _ _ _ _ _ v3 v4 (adv.other ne))
            ∙ ap (λ (q : QueuePass). q.own.behind) (known_after _ _ _ _ _ _ _ v2 v3 (l.made.same refl))))));
        tried = record {
          earlier = a.stepped.steps;
          linking = link_step;
          later = b.stepped.steps ++ (rest u).stepped.steps;
          steps_are = append_assoc a.stepped.steps (link_step ∷ []) (b.stepped.steps ++ (rest u).stepped.steps);
          linked = refl;
          tried = _;
          after_it = in_first _ (rest u).stepped.steps;
          place = refl;
          outcome = inr refl;
        };
      })
    where
      linking : Ran z.passes (losing word n) (striking word n) v2 v3
      linking = ran_one z.passes (losing word n) (striking word n) v2 v3 (l.made.same refl) refl refl
          (λ own stands. l.made.stands refl)

      link_step : Step
      link_step = record {
        kind = put_step;
        place = place;
        word = 0;
        seen = length (log_of v3.order);
        owned = length (remove_at l.index v2.known.owned);
      }

pub lists_rest : (q q' : QueuePass) → SameRest q q' → SameLists q q'
lists_rest q q' r = record {
  number = r.number;
  sizes = r.sizes;
  retired_are = r.retired_are;
  frontier = r.frontier;
  chains = r.chains;
  scan = r.scan;
}

pub lists_on : (p q r : QueuePass) → SameLists p q → SameLists q r → SameLists p r
lists_on p q r a b = record {
  number = b.number ∙ a.number;
  sizes = b.sizes ∙ a.sizes;
  retired_are = b.retired_are ∙ a.retired_are;
  frontier = b.frontier ∙ a.frontier;
  chains = b.chains ∙ a.chains;
  scan = b.scan ∙ a.scan;
}

-- a record that was taken is still private
pub record_private : (q q' : QueuePass) (p p' : Purse) (n v : ℕ) → HasRecord q p n v → SameRest q q' → p' ≡ p → IsPrivate q' p' n
record_private q q' p p' n v h r same = subst (λ (p : Purse). IsPrivate q' p n) (sym same)
    (subst (λ (ds : List PrivateRecord). times n p.free.items < times n (map number_of ds)) (sym r.owned) h.taken)

-- what was tried stays so with steps before it
pub tried_later : (z : Sizes) (xs ys : List Step) → TriedToMove z ys → TriedToMove z (xs ++ ys)
tried_later z xs ys t = record {
  earlier = xs ++ t.earlier;
  linking = t.linking;
  later = t.later;
  steps_are = ap (λ (l : List Step). xs ++ l) t.steps_are ∙ sym (append_assoc xs t.earlier (t.linking ∷ t.later));
  linked = t.linked;
  tried = t.tried;
  after_it = t.after_it;
  place = t.place;
  outcome = t.outcome;
}

-- and with steps after it
pub tried_on : (z : Sizes) (xs ys : List Step) → TriedToMove z xs → TriedToMove z (xs ++ ys)
tried_on z xs ys t = record {
  earlier = t.earlier;
  linking = t.linking;
  later = t.later ++ ys;
  steps_are = ap (λ (l : List Step). l ++ ys) t.steps_are ∙ append_assoc t.earlier (t.linking ∷ t.later) ys;
  linked = t.linked;
  tried = t.tried;
  after_it = in_left t.tried t.later ys t.after_it;
  place = t.place;
  outcome = t.outcome;
}

-- A put took effect in its last turn.
pub put_after : (z : Sizes) (races v first n : ℕ) (u w x : QueueView) (a : Ran z.passes (losing 0 0) (losing first n) u w)
    → 0 < length a.stepped.steps → PutStruck z first n w x → Struck (call.Put v) said.Put u x → n < races
    → (z.passes ≡ 1 → u.known.own.behind ≡ false → x.known.own.behind ≡ false)
    → (z.passes ≡ 1 → u.known.own.behind ≡ false → n ≡ 0) → PutDone z races v u x
unfolding ran_both stepped_both
put_after z races v first n u w x a real s struck few up none = record {
  struck = struck;
  lost = n;
  few = few;
  counted = s.counted;
  effect = s.struck;
  ran = ran_both z.passes (losing 0 0) (losing first n) s.counted u w x a s.ran;
  some = let long = length-append a.stepped.steps s.ran.stepped.steps in omega arith;
  tried = tried_later z a.stepped.steps s.ran.stepped.steps s.tried;
  up = up;
  alone = λ one was. s.up (up one was) ∙ none one was;
}
