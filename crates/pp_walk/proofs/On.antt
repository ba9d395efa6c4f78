-- A turn after its first load comes together.
use Rattle.std.proofs.Common.{◌≡◌, ℕ, ◌+◌, ◌^◌, ◌<◌, ◌≤◌, true, false, cond, nat_lt, List, [], ◌∷◌, length, Option, inl, inr, ⊎_elim}
use Rattle.pp_walk.proofs.Clearing.{cleared_names}
use Rattle.pp_link.specs.Places.{cell_place}
use Rattle.pp_link.specs.Links.{target}
use Rattle.std.proofs.Common.{sym, ap, ◌∙◌, subst, arith}
use Rattle.pp_link.specs.declared.layout.Sizes.{Sizes}
use Rattle.pp_model.specs.declared.Call.{Call}
use Rattle.pp_model.specs.declared.Placed.{Placed}
use Rattle.pp_model.specs.Calls.{key_of, reply, reply_at, changes}
use Rattle.pp_model.specs.History.{after}
use Rattle.pp_model.specs.MapCalls.{placed}
use Rattle.pp_rule.specs.Orders.{log_of}
use Rattle.pp_rule.specs.Views.{slot}
use Rattle.pp_lists.specs.declared.own.ListOwn.{ListOwn}
use Rattle.pp_lists.specs.Walks.{IsRight}
use Rattle.pp_lists.specs.Turns.{ListView}
use Rattle.pp_walk.specs.declared.walk.Walk.{Walk}
use Rattle.pp_walk.specs.declared.walk.Came.{Came}
use Rattle.pp_walk.specs.declared.walk.Came.TheVariants.{Moved, Broken, Anchors, Gathers, Ends}
use Rattle.pp_walk.specs.Words.{Cleared, SameCallOf}
use Rattle.pp_walk.specs.Roles.{is_look, lower_of}
use Rattle.pp_walk.specs.Trod.{Quiet}
use Rattle.pp_walk.specs.Turns.{Answers, RepliedTo}
use Rattle.pp_walk.specs.Parts.{HoldsNext, LosesNext, CameHere, CameOn, SameOf, SameBut, LosesAt}
use Rattle.pp_walk.proofs.Counting.{rest_loses, rest_idle, same_through, rest_through}
use Rattle.pp_walk.proofs.Standing.{begins_again, chains_of}
use Rattle.pp_walk.proofs.Here.{same_of}

-- What is said of the call's end is said of its call and its start alone.
pub answers_as : (own own' : ListOwn) (a : Option ℕ) (calls : List Placed) (u : ListView) → SameCallOf own own' → Answers own' a calls u
    → Answers own a calls u
answers_as own own' a calls u s x = record {
  settled = λ c. let y = x.settled (subst (λ (k : Call). changes (reply_at k a) ≡ false) (sym s.call) c) in (y.0, replied y.1);
  goes_on = λ c. let y = x.goes_on (subst (λ (k : Call). changes (reply_at k a) ≡ true) (sym s.call) c) in (
    y.0,
    y.1,
    subst (λ (n : ℕ). IsRight (log_of u.order) n (key_of own.call) a) s.start
        (subst (λ (k : Call). IsRight (log_of u.order) own'.start (key_of k) a) s.call y.2),
  );
}
  where
    replied : RepliedTo own' a calls u → RepliedTo own a calls u
    replied r = record {
      at = r.at;
      since = subst (λ (n : ℕ). n ≤ r.at) s.start r.since;
      within = r.within;
      right = subst (λ (k : Call). reply (after (log_of u.order) r.at) k ≡ reply_at k a) s.call r.right;
      least = λ p from below right. r.least p (subst (λ (n : ℕ). n ≤ p) (sym s.start) from) below
          (subst (λ (k : Call). reply (after (log_of u.order) p) k ≡ reply_at k a) (sym s.call) right);
      calls_are = r.calls_are ∙ ap (λ (k : Call). placed k (reply_at k a) r.at ∷ []) s.call;
      stands = r.stands;
    }

-- it came to hold the next record, and holds no other
same_held : (z : Sizes) (walk : Walk) (w place first : ℕ) (v u t : ListView) → HoldsNext z walk w place first v u → SameOf u t
    → SameBut (target first) v t
same_held z walk w place first v u t h c = record {
  same = same_through v.known.own u.known.own t.known.own h.same c.same;
  rest = rest_through v.known u.known t.known h.rest c.rest;
  names = λ j five on. let later = c.names j five on in ⊎_elim
      (λ (new : (slot u.known j).named ≡ target first). inl (later.1 ∙ new))
      (λ (old : ((slot v.known j).held ≡ true) × ((slot u.known j).named ≡ (slot v.known j).named)). inr (old.0, later.1 ∙ old.1))
      (h.names j five later.0);
}

-- It held the next record, and came on there.
pub on_held : (z : Sizes) (walk : Walk) (w place first : ℕ) (v u t : ListView) (came : Came) → HoldsNext z walk w place first v u
    → CameHere z walk w u t came → CameOn z walk place first v t came
on_held z walk w place first v u t Moved h c = absurd c
on_held z walk w place first v u t Broken h c = (
  same_held z walk w place first v u t h c.0,
  c.1,
  rest_loses z place first v u t h.turn (subst (λ (n : ℕ). LosesAt (cell_place z n 2) u t) h.named c.2),
)
on_held z walk w place first v u t (Anchors i) h c = let up = h.rises in let key = c.4.0 in let small = c.4.1 in (
  same_held z walk w place first v u t h c.0,
  record { walks = c.1.walks; nothing = c.1.nothing },
  rest_idle z 0 place first v u t h.turn c.2,
  subst (λ (j : ℕ). lower_of v.known walk.at < (slot t.known j).key + 1) (sym c.3) (omega arith),
  subst (λ (j : ℕ). (slot t.known j).key + 1 ≤ 2 ^ 64) (sym c.3) (omega arith),
)
on_held z walk w place first v u t (Gathers i) h c = let up = h.rises in let key = c.4.0 in let small = c.4.1 in (
  same_held z walk w place first v u t h c.0,
  record {
    walks = c.1.walks;
    first = c.1.first ∙ ap (λ (f : ℕ). cond (nat_lt f 5) f i) h.gathered.first;
    longer = c.1.longer ∙ ap (λ (cs : List Rattle.pp_lists.specs.declared.own.Gathered.Gathered). length cs + 1) h.gathered.chain;
  },
  rest_idle z 0 place first v u t h.turn c.2,
  subst (λ (j : ℕ). lower_of v.known walk.at < (slot t.known j).key + 1) (sym c.3) (omega arith),
  subst (λ (j : ℕ). (slot t.known j).key + 1 ≤ 2 ^ 64) (sym c.3) (omega arith),
)
on_held z walk w place first v u t (Ends i key link) h c = let last = c.1.0 in let e = c.1.1.1 in (
  same_held z walk w place first v u t h c.0,
  (
    last,
    (
      rest_idle z 0 place first v u last h.turn c.1.1.0,
      record {
        stopped = e.stopped;
        gathered = record { first = e.gathered.first ∙ h.gathered.first; chain = e.gathered.chain ∙ h.gathered.chain };
        place = e.place;
        calls = e.calls;
        ends = e.ends;
        answers = answers_as v.known.own u.known.own _ e.calls t h.same e.answers;
      },
    ),
  ),
  (let low : i < 5 = e.stopped.low in (c.0.names i low e.stopped.held).1 ∙ (ap (λ (j : ℕ). (slot u.known j).named) c.2 ∙ h.named)),
)

-- The link moved under a get.
pub on_moved : (z : Sizes) (walk : Walk) (place first : ℕ) (v u : ListView) → is_look walk.call ≡ true → LosesNext z walk place first v u
    → CameOn z walk place first v u Moved
on_moved z walk place first v u look l = (
  record { same = l.same; rest = l.rest; names = λ j five on. inr (l.names j five on) },
  l.walks,
  l.gathered,
  l.turn,
  look,
)

-- It moved, and the call begins again.
pub on_broken : (z : Sizes) (walk : Walk) (place first : ℕ) (v u t : ListView) → LosesNext z walk place first v u
    → Cleared 5 5 5 u.known t.known
    → Quiet 0 u t → CameOn z walk place first v t Broken
on_broken z walk place first v u t l c idles = (
  (let x : SameOf v t = same_of v u t record { same = l.same; rest = l.rest; names = l.names }
      record { same = c.same; rest = c.rest; names = cleared_names 5 5 5 u.known t.known c } in
      record { same = x.same; rest = x.rest; names = λ j five on. inr (x.names j five on) }),
  begins_again u.known t.known walk.call walk.anchor l.walks.going l.walks.call_is
      (chains_of u.known walk.at walk.anchor l.walks.gathered) c,
  rest_idle z 1 place first v u t l.turn idles,
)
