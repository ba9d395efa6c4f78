-- The later turns of a call that changes its list, by what they tried.
use Rattle.std.proofs.Common.{◌≡◌, ◌≢◌, ℕ, zero, suc, ◌+◌, ◌<◌, ◌≤◌, Bool, true, false, cond, List, [], ◌∷◌, map}
use Rattle.std.proofs.Common.{length, get_or, set, refl, sym, ap, ◌∙◌}
use Rattle.std.proofs.Common.{subst, inl, inr, ⊎_elim, Option, Some, None, arith, length-append}
use Rattle.std.specs.Prelude.{◌&&◌}
use Rattle.std.proofs.Math.Bool.{false≢true}
use Rattle.std.proofs.lemmas.Bool.{cases_lt}
use Rattle.pp_link.specs.declared.layout.Sizes.{Sizes}
use Rattle.pp_link.specs.declared.link.Link.{Link}
use Rattle.pp_link.specs.Links.{word_of, target}
use Rattle.pp_pool.specs.declared.fresh.Fresh.{Fresh}
use Rattle.pp_model.specs.declared.Call.{Call}
use Rattle.pp_model.specs.declared.Turned.TheVariants.{On}
use Rattle.pp_model.specs.declared.steps.Step.{Step}
use Rattle.pp_model.specs.MapCalls.{next_kind}
use Rattle.pp_model.specs.Calls.{key_of}
use Rattle.pp_rule.specs.declared.views.PrivateRecord.{PrivateRecord}
use Rattle.pp_rule.specs.declared.views.WalkSlot.{WalkSlot}
use Rattle.pp_rule.specs.Lists.{times}
use Rattle.pp_rule.specs.Rule.{number_of}
use Rattle.pp_rule.specs.Orders.{log_of}
use Rattle.pp_rule.specs.Views.{slot, blank}
use Rattle.pp_rule.specs.Steps.{learning}
use Rattle.pp_rule.proofs.Histories.{log_begins}
use Rattle.pp_base.specs.declared.purse.Purse.{Purse}
use Rattle.pp_base.specs.declared.source.Place.{Place}
use Rattle.pp_base.specs.declared.source.Place.TheVariants.{Head, Walk as Word}
use Rattle.pp_base.specs.declared.source.Side.{Side}
use Rattle.pp_base.specs.declared.source.Side.TheVariants.{Left}
use Rattle.pp_base.specs.Named.{NamedStep, name_of, Made, guards, detaches}
use Rattle.pp_base.specs.Passes.{IsAtRest}
use Rattle.pp_base.specs.Sources.{learning_at, side_number, source_place}
use Rattle.pp_link.specs.Places.{frontier_place}
use Rattle.pp_calls.specs.Steps.{Stepped}
use Rattle.pp_calls.proofs.Growing.{stepped_made}
use Rattle.pp_calls.proofs.Remaining.{stands_made}
use Rattle.pp_purse.proofs.Stretches.{flushed_purse, none_made}
use Rattle.std.proofs.lemmas.List.{length-map}
use Rattle.pp_purse.specs.Steps.{PurseSteps}
use Rattle.pp_shelf.specs.Runs.{map_sizes, steps_made}
use Rattle.pp_unlink.specs.Invalidation.{SameFree}
use Rattle.pp_unlink.specs.Unlinking.{Unlinks, Exchanges, MayFlush}
use Rattle.pp_unlink.specs.declared.unlinking.Unlink.{Unlink}
use Rattle.pp_unlink.specs.declared.unlinking.Unlink.TheVariants.{Detached}
use Rattle.pp_lists.specs.Lists.{ListPass, list_chain, list_frozen}
use Rattle.pp_lists.specs.Walks.{bucket}
use Rattle.pp_lists.specs.Turns.{ListView, EndsPast}
use Rattle.pp_lists.specs.Losses.{list_reader, finds}
use Rattle.pp_lists.proofs.Losing.{finds_none}
use Rattle.pp_turns.specs.Tallies.{losing}
use Rattle.pp_turns.specs.Turns.{Since, WasAbsent}
use Rattle.pp_turns.proofs.Placing.{unplaced_made, unplaced_on, absent_on}
use Rattle.pp_turns.proofs.Purses.{carries_on}
use Rattle.pp_turns.proofs.Stretches.{since_on, saw_last, steps_named, stretch_both}
use Rattle.pp_walk.specs.declared.walk.Found.{Found}
use Rattle.pp_walk.specs.Effects.{Tried, MayFill, DetachesSo}
use Rattle.pp_walk.specs.Parts.{GathersNone}
use Rattle.pp_walk.specs.Roles.{IsFound, IsAnchor, is_look}
use Rattle.pp_list.specs.declared.going.ListGoing.{ListGoing}
use Rattle.pp_list.specs.declared.going.Next.{Next}
use Rattle.pp_list.specs.declared.going.Next.TheVariants.{Detaches, Publishes}
use Rattle.pp_list.specs.Purses.{HasOut}
use Rattle.pp_list.specs.Going.{Tries, Inserts, HoldsFirst, Stands, Carries, IsUnder, kind_of, is_after}
use Rattle.pp_list.specs.Turned.{HasLost, ListTurned}
use Rattle.pp_list.proofs.Arriving.{may_fill, holds_first}
use Rattle.pp_list.proofs.Calm.{named_ran}

-- what a call tried since its begin, with steps that lose so many turns
module _ (z : Sizes) (g : ListGoing) (lost n : ℕ) (from v u : ListView) (t : Tried lost v u) (passes : z.passes ≡ v.known.sizes.passes)
    (start : u.known.own.start ≡ v.known.own.start) (k : Tries z g.call n from v) where
  pub tried_on : Tries z g.call (n + lost) from u
  tried_on = let r = named_ran z g.call lost t.steps v u t.did (λ earlier. t.loses (map_sizes z) earlier passes) t.strikes k.memory n in
      record {
        memory = r.0;
        since = subst (λ (s : ℕ). Since list_reader (map_sizes z) g.call s (losing r.0 (n + lost)) from u) (sym start)
            (since_on list_reader (map_sizes z) g.call v.known.own.start (losing k.memory n) (losing r.0 (n + lost)) from v u k.since r.1);
        unplaced = unplaced_on from v u k.since.went.number k.unplaced (unplaced_made t.steps v u t.did);
      }

-- steps that lose a turn are some
pub tried_long : (z : Sizes) (v u : ListView) (t : Tried 1 v u) → z.passes ≡ v.known.sizes.passes → 0 < length (steps_made v u)
tried_long z v u t passes = by (steps_made v u) (steps_named t.steps v u t.did)
  where
    by : (xs : List Step) → map name_of xs ≡ t.steps → 0 < length xs
    by [] e = let one = t.loses (map_sizes z) [] passes in
        let none = ap (finds (map_sizes z) []) (sym e) ∙ finds_none (map_sizes z) [] in absurd (omega arith)
    by (x ∷ xs) e = omega arith

-- what a call has of its purse where it may change its list
pub carries_changed : (share : ℕ) (call : Call) (fresh : Option Fresh) (from v u : ListView) (free : List ℕ) (p q : Purse)
    → u.known.sizes ≡ v.known.sizes → u.known.owned ≡ v.known.owned → SameFree p q → is_look call ≡ false
    → Carries share call fresh from v free p → Carries share call fresh from u free q
carries_changed share call fresh from v u free p q sizes owned same changing k =
    carries_on HasOut 1 share call fresh from v u free p q sizes (out fresh) (ap (λ f. f.items) same.free)
    (λ looks. absurd (false≢true (sym changing ∙ looks))) k
  where
    out : (f : Option Fresh) → HasOut v.known p f → HasOut u.known q f
    out None o = same.taken ∙ o
    out (Some f) o = (
      subst (λ (l : List ℕ). times f.number l < times f.number (map number_of u.known.owned)) (sym (ap (λ y. y.items) same.free))
          (subst (λ (ds : List PrivateRecord). times f.number p.free.items < times f.number (map number_of ds)) (sym owned) o.0),
      same.taken ∙ o.1,
    )

-- learning of a link lets no record go
held_set : (ws : List WalkSlot) (i j : ℕ) (x : WalkSlot) → x.held ≡ (get_or ws i blank).held
    → (get_or (set ws i x) j blank).held ≡ (get_or ws j blank).held
held_set [] i j x e = refl
held_set (w ∷ ws) zero zero x e = e
held_set (w ∷ ws) zero (suc j) x e = refl
held_set (w ∷ ws) (suc i) zero x e = refl
held_set (w ∷ ws) (suc i) (suc j) x e = held_set ws i j x e

held_learning : (i side word j : ℕ) (q : ListPass) → (slot (learning list_frozen i side word q) j).held ≡ (slot q j).held
held_learning i side word j q = by (list_frozen word && (slot q i).held)
  where
    by : (b : Bool) → (slot (cond b (record q { walk = set q.walk i (record (slot q i) { learnt = (side, word) ∷ (slot q i).learnt }) }) q)
        j).held
        ≡ (slot q j).held
    by true = held_set q.walk i j (record (slot q i) { learnt = (side, word) ∷ (slot q i).learnt }) refl
    by false = refl

held_at : (at : Place) (side : Side) (word j : ℕ) (q : ListPass) → (slot (learning_at list_frozen at side word q) j).held ≡ (slot q j).held
held_at (Head h) side word j q = refl
held_at (Word i) side word j q = held_learning i (side_number side) word j q

-- a flush leaves the walk words
pub flush_steps : (z : Sizes) (v b : ListView) → length v.known.chains ≤ 4 → MayFlush 1 z v b → (names : List NamedStep)
    × PurseSteps z names v b
flush_steps z v b few f = ⊎_elim (λ (less : length v.known.chains < 4). let none : List NamedStep = [] in
    (none, none_made z v b (f.few less)))
    (λ (more : 4 ≤ length v.known.chains). flushed_purse 1 z 4 v b (f.full (omega arith))) (cases_lt (length v.known.chains) 4)

walk_flushed : (z : Sizes) (v b : ListView) → length v.known.chains ≤ 4 → MayFlush 1 z v b → b.known.walk ≡ v.known.walk
walk_flushed z v b few f = (flush_steps z v b few f).1.walk

-- steps behind a flush are some
pub long_behind : (z : Sizes) (v b u : ListView) → length v.known.chains ≤ 4 → MayFlush 1 z v b → (s : NamedStep) (names : List NamedStep)
    → Made (s ∷ names) b u → 0 < length (steps_made v u)
long_behind z v b u few f s names made = let flush = flush_steps z v b few f in
    let e = ap (λ (l : List Step). length l) (stretch_both v b u (stepped_made flush.0 v b flush.1.made)
    (stepped_made (s ∷ names) b u made))
    ∙ length-append (steps_made v b) (steps_made b u) in
    let n = sym (length-map (steps_made b u) name_of) ∙ ap (λ (l : List NamedStep). length l) (steps_named (s ∷ names) b u made) in
    omega arith

-- What was gathered is held still after a link moved.
pub missed_holds : (z : Sizes) (anchor : Place) (first end : ℕ) (v u : ListView) → length v.known.chains ≤ 4
    → DetachesSo z anchor first end v u false → HoldsFirst v.known → HoldsFirst u.known
missed_holds z anchor first end v u few d h = let m = d.missed refl in
    let x = subst (λ (a : Unlink). Unlinks 1 z list_frozen list_chain anchor Left first end v u a) m.1.0 d.unlinks in
    let held : (j : ℕ) → (slot u.known j).held ≡ (slot v.known j).held = λ j. ap (λ (q : ListPass). (slot q j).held) x.known
    ∙ (held_at anchor Left (word_of m.0) j x.between.known
    ∙ ap (λ (ws : List WalkSlot). (get_or ws j blank).held) (walk_flushed z v x.between few x.flushed)) in
    ⊎_elim (λ (n : GathersNone v.known.own). inl (record {
      first = ap (λ o. o.first) d.own ∙ n.first;
      chain = ap (λ o. o.chain) d.own ∙ n.chain;
    })) (λ y. let same = ap (λ o. o.first) d.own in
    inr (subst (λ (n : ℕ). n < 5) (sym same) y.0, ap (λ (n : ℕ). (slot u.known n).held) same ∙ (held v.known.own.first ∙ y.1))) h

anchor_walk : (z : Sizes) (q r : ListPass) (k : ℕ) (at : Place) → r.walk ≡ q.walk → IsAnchor z q k at → IsAnchor z r k at
anchor_walk z q r k (Head h) same a = a
anchor_walk z q r k (Word i) same a =
    subst (λ (ws : List WalkSlot). (i < 5) × ((get_or ws i blank).held ≡ true) × ((get_or ws i blank).key < k)
    × (bucket z.heads (get_or ws i blank).key ≡ bucket z.heads k)) (sym same) a

pub fill_walk : (z : Sizes) (q r : ListPass) (k : ℕ) (at : Place) (end : Link) → r.walk ≡ q.walk → MayFill z q at end k
    → MayFill z r at end k
fill_walk z q r k at end same m = record {
  anchored = anchor_walk z q r k at same m.anchored;
  plain = m.plain;
  past = subst (λ (ws : List WalkSlot). EndsPast (record r { walk = ws }) k (word_of end)) (sym same) m.past;
}

pub inserts_later : (call : Call) (v u : ListView) → Stepped v u → u.known.own ≡ v.known.own → Inserts call v → Inserts call u
inserts_later call v u s own i = record {
  key = i.key;
  value = i.value;
  call_is = i.call_is;
  going = ap (λ o. o.going) own ∙ i.going;
  own_call = ap (λ o. o.call) own ∙ i.own_call;
  absent = subst (λ (n : ℕ). WasAbsent n i.key (log_of u.order)) (sym (ap (λ o. o.start) own))
      (absent_on v.known.own.start i.key (log_of u.order) (log_of v.order) (log_begins u.order v.order s.order) i.absent);
}

pub insert_changes : (call : Call) (v : ListView) → Inserts call v → is_look call ≡ false
insert_changes call v i = ap is_look i.call_is

module _ (z : Sizes) (share : ℕ) (g : ListGoing) (f : Found) (v : ListView) (p : Purse) (at : g.next ≡ Detaches f) (from : ListView)
    (free : List ℕ)
    (x : IsUnder z share g v p from free) where
  pub at_detach : Tries z g.call g.lost from v × (Inserts g.call v × (IsFound z v.known g.call f × ((f.equal ≡ false) × (f.chain ≢ 0))))
  at_detach = subst (λ (n : Next). Stands z g.call g.races g.lost n from v) at x.stands

  pub unstruck_at : g.struck ≡ false
  unstruck_at = x.struck ∙ ap is_after at

-- An insert that detached what its walk gathered comes to publish.
pub detached_on : (z : Sizes) (share : ℕ) (g : ListGoing) (f : Found) (v u : ListView) (p q : Purse) → g.next ≡ Detaches f
    → (from : ListView) (free : List ℕ) → IsUnder z share g v p from free
    → z ≡ v.known.sizes → length v.known.chains ≤ 4 → u.known.sizes ≡ v.known.sizes → IsAtRest u.known q → SameFree p q
    → DetachesSo z f.anchor (word_of f.first) (word_of f.end) v u true
    → ListTurned z share g (record g { next = Publishes f }) v u p q On
detached_on z share g f v u p q at from0 free0 x0 z_is few sizes rest same d = record {
  stepped = stepped;
  some_made = long;
  stands = λ own s. stands_made t.steps v u t.did own s;
  same = record { head = refl; call = refl; races = refl };
  stays = λ was. was;
  strikes = λ was now. absurd (false≢true (sym was ∙ now));
  struck = tt;
  went = let kind : kind_of g.next ≡ 2 = ap kind_of at in next_kind refl (omega (arith, kind));
  goes_on = λ from free x. let k = at_detach z share g f v p at from free x in
      let none : g.lost + 0 ≡ g.lost = omega arith in
      let tries = subst (λ (n : ℕ). Tries z g.call n from u) none
      (tried_on z g 0 g.lost from v u t (ap (λ (s : Sizes). s.passes) z_is) (ap (λ o. o.start) d.own) k.0) in record {
        low = x.low;
        home = x.home;
        below = x.below;
        struck = unstruck_at z share g f v p at from free x;
        rest = rest;
        carries = carries_changed share g.call g.fresh from v u free p q sizes d.owned same (insert_changes g.call v k.1.0) x.carries;
        stands = (
          tries,
          (
            inserts_later g.call v u stepped d.own k.1.0,
            (
              fill_walk z v.known u.known (key_of g.call) f.anchor f.end walk (may_fill z v.known g.call f k.1.1.0 k.1.1.1.0),
              holds (holds_first v.known f k.1.1.0.chain),
            ),
          ),
        );
      };
  answered = tt;
}
  where
    hit : (d.answer ≡ Detached) × (u.known.walk ≡ v.known.walk) × Tried 0 v u
    hit = d.hit refl

    t : Tried 0 v u
    t = hit.2

    walk : u.known.walk ≡ v.known.walk
    walk = hit.1

    stepped : Stepped v u
    stepped = stepped_made t.steps v u t.did

    x : Exchanges 1 z list_frozen list_chain f.anchor Left (word_of f.first) (word_of f.end) v u
    x = subst (λ (a : Unlink). Unlinks 1 z list_frozen list_chain f.anchor Left (word_of f.first) (word_of f.end) v u a) hit.0 d.unlinks

    long : 0 < length (steps_made v u)
    long = long_behind z v x.between u few x.flushed (guards (frontier_place z v.known.number x.guard) (target (word_of f.end)))
        (detaches (source_place z v.known f.anchor Left) (word_of f.first) ∷ []) x.steps

    holds : HoldsFirst v.known → HoldsFirst u.known
    holds h = ⊎_elim (λ (n : GathersNone v.known.own). inl (record {
      first = ap (λ o. o.first) d.own ∙ n.first;
      chain = ap (λ o. o.chain) d.own ∙ n.chain;
    })) (λ y. let same_first = ap (λ o. o.first) d.own in
        inr (
          subst (λ (n : ℕ). n < 5) (sym same_first) y.0,
          ap (λ (n : ℕ). (slot u.known n).held) same_first
              ∙ (ap (λ (ws : List WalkSlot). (get_or ws v.known.own.first blank).held) walk ∙ y.1),
        )) h

-- or it lost the turn
pub detach_lost : (z : Sizes) (share : ℕ) (g : ListGoing) (f : Found) (v u : ListView) (p q : Purse) → g.next ≡ Detaches f
    → z ≡ v.known.sizes → u.known.sizes ≡ v.known.sizes → SameFree p q → DetachesSo z f.anchor (word_of f.first) (word_of f.end) v u false
    → (from : ListView) (free : List ℕ) → IsUnder z share g v p from free → HasLost z share g u q from free
detach_lost z share g f v u p q at z_is sizes same d from free x = let t = (d.missed refl).1.1 in
    let k = at_detach z share g f v p at from free x in let passes = ap (λ (s : Sizes). s.passes) z_is in record {
      tries = tried_on z g 1 g.lost from v u t passes (ap (λ o. o.start) d.own) k.0;
      last = saw_last from v u k.0.since.went (stepped_made t.steps v u t.did) (tried_long z v u t passes);
      carries = carries_changed share g.call g.fresh from v u free p q sizes d.owned same (insert_changes g.call v k.1.0) x.carries;
    }
