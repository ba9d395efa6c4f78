-- From the end of a walk a call is answered, or comes to its next kind of turn.
use Rattle.std.proofs.Common.{◌≡◌, ◌≢◌, ℕ, ◌<◌, Bool, true, false, cond, nat_eq, length, List, [], refl, sym}
use Rattle.std.proofs.Common.{ap, ◌∙◌, subst, inl, inr, arith}
use Rattle.std.proofs.Common.{Option, Some, None, eqb-true, eq-eqb, ne_eqb}
use Rattle.std.specs.Prelude.{not}
use Rattle.std.proofs.Math.Bool.{false≢true}
use Rattle.pp_calls.specs.PoolViews.{pool_view}
use Rattle.pp_link.specs.declared.layout.Sizes.{Sizes}
use Rattle.pp_link.specs.Links.{word_of}
use Rattle.pp_pool.specs.declared.fresh.Fresh.{Fresh}
use Rattle.pp_model.specs.declared.Answer.{Answer}
use Rattle.pp_model.specs.declared.Answer.TheVariants.{Said}
use Rattle.pp_model.specs.declared.Call.{Call}
use Rattle.pp_model.specs.declared.Call.TheVariants.{Get, Insert, Remove, Cut}
use Rattle.pp_model.specs.declared.Change.{Change}
use Rattle.pp_model.specs.declared.Pair.{Pair}
use Rattle.pp_model.specs.FiniteMap.{find}
use Rattle.pp_model.specs.History.{after}
use Rattle.pp_model.specs.declared.Reply.{Reply}
use Rattle.pp_model.specs.declared.Reply.TheVariants.{Value, Absent, Held, Took, Other}
use Rattle.pp_model.specs.declared.Turned.{Turned}
use Rattle.pp_model.specs.declared.Turned.TheVariants.{On, Done}
use Rattle.pp_model.specs.Calls.{key_of, changes, reply_at, Takes, removes, cuts}
use Rattle.pp_rule.specs.Orders.{log_of}
use Rattle.pp_rule.specs.Views.{slot, value_of}
use Rattle.pp_base.specs.declared.purse.Purse.{Purse}
use Rattle.pp_base.specs.Named.{NamedStep}
use Rattle.pp_base.specs.Passes.{IsAtRest}
use Rattle.pp_calls.specs.Steps.{WriteNone}
use Rattle.pp_calls.proofs.Growing.{kinds_none, stepped_both, begins_long}
use Rattle.pp_rule.specs.Lists.{IsIn, BeginsWith}
use Rattle.pp_rule.proofs.Histories.{log_begins}
use Rattle.pp_rule.proofs.Put.{in_nil}
use Rattle.pp_shelf.specs.Runs.{map_sizes, steps_made}
use Rattle.pp_lists.specs.Lists.{ListPass}
use Rattle.pp_lists.specs.Walks.{IsRight}
use Rattle.pp_lists.specs.Turns.{ListView, EndsPast}
use Rattle.pp_lists.specs.Losses.{list_reader}
use Rattle.pp_lists.proofs.Losing.{finds_none}
use Rattle.pp_turns.proofs.Answering.{told_as}
use Rattle.pp_turns.specs.Answers.{SaysBy}
use Rattle.pp_turns.specs.Tallies.{losing}
use Rattle.pp_turns.specs.Turns.{Since, Replied}
use Rattle.pp_turns.proofs.Placing.{replied_later, unplaced_on, after_longer}
use Rattle.pp_turns.proofs.Purses.{carries_on}
use Rattle.pp_turns.proofs.Stretches.{since_on, saw_on, steps_named, own_before}
use Rattle.pp_walk.proofs.Counting.{walks_write_none}
use Rattle.pp_walk.specs.declared.walk.Found.{Found}
use Rattle.pp_walk.specs.Effects.{MayFill}
use Rattle.pp_walk.specs.Roles.{IsFound, IsEnd, at_nil, at_record, HasChain, no_chain, a_chain, found_in, is_look}
use Rattle.pp_walk.specs.Trod.{Idles}
use Rattle.pp_list.specs.Causes.{list_causes}
use Rattle.pp_list.specs.Meant.{list_words, list_meaning}
use Rattle.pp_list.specs.declared.going.ListGoing.{ListGoing}
use Rattle.pp_list.specs.declared.going.Next.{Next}
use Rattle.pp_list.specs.declared.going.Next.TheVariants.{Detaches, Marks, Publishes}
use Rattle.pp_list.specs.Purses.{HasOut}
use Rattle.pp_list.specs.Going.{kind_of, is_after, Tries, Inserts, HoldsFirst, Stands, Carries}
use Rattle.pp_list.specs.Answers.{Calm, Ends}
use Rattle.pp_list.specs.Turned.{SameGoing, Part, HasArrived, HasEnded}
use Rattle.pp_list.proofs.Calm.{calm_quiet}

-- what was right at a place stays so
right_on : (longer log : List Change) (start k : ℕ) (a : Option ℕ) → BeginsWith longer log → IsRight log start k a → IsRight longer start k
    a
right_on longer log start k a b r = let long = begins_long longer log b in let within = r.1.1 in
    (r.0, (r.1.0, omega arith, ap (λ (m : List Pair). find m k) (after_longer longer log r.0 b r.1.1) ∙ r.1.2))

pub idles_none : (v w : ListView) → w ≡ v → Idles v w
idles_none v w is = record {
  steps = [];
  did = is;
  loses = λ sizes earlier. finds_none sizes earlier;
  writes = λ s i. absurd (in_nil s i);
}

pub idles_quiet : (v w : ListView) → Idles v w → WriteNone (steps_made v w)
idles_quiet v w q = kinds_none (steps_made v w) (λ n i. walks_write_none n.kind (q.writes n
    (subst (λ (ns : List NamedStep). IsIn n ns) (steps_named q.steps v w q.did) i)))

-- what a call has of its purse over steps that write no link, after which the same is known of its pass
pub carries_idle : (share : ℕ) (call : Call) (fresh : Option Fresh) (z : Sizes) (from v w : ListView) (free : List ℕ) (p : Purse)
    → Idles v w → w.known ≡ v.known → Carries share call fresh from v free p → Carries share call fresh from w free p
carries_idle share call fresh z from v w free p q same k = carries_on HasOut 1 share call fresh from v w free p p
    (ap (λ (x : ListPass). x.sizes) same) (subst (λ (x : ListPass). HasOut x p fresh) (sym same)) refl
    (λ _. (
      (calm_quiet z call v w q).stepped,
      idles_quiet v w q,
      record {
        sizes = ap (λ (x : ListPass). x.sizes) same;
        retired = ap (λ (x : ListPass). x.retired) same;
        chains = ap (λ (x : ListPass). length x.chains) same;
      },
    )) k

module _ (z : Sizes) (share : ℕ) (g : ListGoing) (f : Found) (v u : ListView) (p : Purse) (idle : Idles v u) (same : u.known ≡ v.known)
  where
    calm : Calm z g.call v u
    calm = calm_quiet z g.call v u idle

    -- It is answered by a reply that was settled.
    pub arrived_ends : (w : ListView) (g' : ListGoing) (p' : Purse) (result : Turned) (said : Reply) → SameGoing g g' → g'.lost ≡ g.lost
        → g'.struck ≡ false → g.lost < g.races → reply_at g.call (found_in v.known f) ≡ said → changes said ≡ false
        → result ≡ Done (Said said)
        → Ends z share g.races g.call g.fresh (Said said) u w p p'
        → Part z share (HasArrived z share g f v p) g g' v w p' result
    arrived_ends w g' p' result said same_going lost_still none few is plain done e =
        subst (λ (r : Turned). Part z share (HasArrived z share g f v p) g g' v w p' r) (sym done) record {
          stepped = stepped_both v u w calm.stepped e.calm.stepped;
          stands = λ own stands. e.calm.stands own (calm.stands (own_before u w e.calm.stepped own) stands);
          same = same_going;
          strikes = λ now. absurd (false≢true (sym none ∙ now));
          struck = none ∙ sym plain;
          advances = tt;
          goes_on = tt;
          answered = λ from free k stands. let r = calm.losing_so k.memory g.lost in
              let on = since_on list_reader (map_sizes z) g.call v.known.own.start (losing k.memory g.lost) (losing r.0 g.lost) from v u
              k.since r.1 in
              let c = carries_idle share g.call g.fresh z from v u free p idle same k.carries in
              let settled = subst (λ (s : Reply). Replied g.call s v.known.own.start from v) is (k.settled (ap changes is ∙ plain)) in
              told_as list_meaning (map_sizes z) g.call g.races (pool_view from free share) (pool_view w p'.free.items share) (Said said)
              g.lost g'.lost (sym lost_still) (e.answered from free g.lost record {
                by = subst (λ (b : Bool). SaysBy list_words list_causes (map_sizes z) g.races g.call b said g.lost from u)
                    (sym plain) record {
                      start = v.known.own.start;
                      memory = r.0;
                      since = on;
                      few = few;
                      replied = replied_later g.call said v.known.own.start from v u k.since.went.number calm.stepped.order settled
                          calm.unplaced;
                    };
                last = saw_on from v u k.since.went k.last calm.stepped;
                sizes = c.sizes;
                kept = let few = c.kept in omega arith;
                alone = c.alone;
              } stands);
        }

    -- It comes to its next kind of turn.
    pub arrived_opens : (n : Next) → kind_of g.next < kind_of n → is_after n ≡ false → HasEnded z g v.known p f
        → changes (reply_at g.call (found_in v.known f)) ≡ true
        → ((from : ListView) → Tries z g.call g.lost from u
        → IsRight (log_of u.order) u.known.own.start (key_of g.call) (found_in v.known f) → Stands z g.call g.races g.lost n from u)
        → Part z share (HasArrived z share g f v p) g (record g { next = n }) v u p On
    arrived_opens n later early ended opens each = record {
      stepped = calm.stepped;
      stands = calm.stands;
      same = record { head = refl; call = refl; races = refl };
      strikes = λ now. absurd (false≢true (sym ended.unstruck ∙ now));
      struck = tt;
      advances = inr (refl, later);
      goes_on = λ from free k. let r = calm.losing_so k.memory g.lost in let o = k.opened opens in
          let on = since_on list_reader (map_sizes z) g.call v.known.own.start (losing k.memory g.lost) (losing r.0 g.lost) from v u k.since
          r.1 in
          let start : u.known.own.start ≡ v.known.own.start = ap (λ (x : ListPass). x.own.start) same in
          record {
            low = ended.low;
            home = ended.home;
            below = ended.below;
            struck = ended.unstruck ∙ sym early;
            rest = subst (λ (x : ListPass). IsAtRest x p) (sym same) ended.rest;
            carries = carries_idle share g.call g.fresh z from v u free p idle same k.carries;
            stands = each from record {
              memory = r.0;
              since = subst (λ (s : ℕ). Since list_reader (map_sizes z) g.call s (losing r.0 g.lost) from u) (sym start) on;
              unplaced = unplaced_on from v u k.since.went.number o.0 calm.unplaced;
            } (subst (λ (s : ℕ). IsRight (log_of u.order) s (key_of g.call) (found_in v.known f)) (sym start)
                (right_on (log_of u.order) (log_of v.order) v.known.own.start (key_of g.call) (found_in v.known f)
                (log_begins u.order v.order calm.stepped.order) o.1));
          };
      answered = tt;
    }

-- what a walk found, by what it tells
pub found_absent : (q : ListPass) (f : Found) → f.equal ≡ false → found_in q f ≡ None
found_absent q f is = ap (λ (a : Bool). cond a (cond f.marked None (Some (value_of (slot q f.word).value))) None) is

pub found_value : (q : ListPass) (f : Found) → f.equal ≡ true → f.marked ≡ false → found_in q f ≡ Some (value_of (slot q f.word).value)
found_value q f is plain = ap (λ (a : Bool). cond a (cond f.marked None (Some (value_of (slot q f.word).value))) None) is
    ∙ ap (λ (b : Bool). cond b None (Some (value_of (slot q f.word).value))) plain

pub found_marked : (q : ListPass) (f : Found) → f.equal ≡ true → f.marked ≡ true → found_in q f ≡ None
found_marked q f is flag = ap (λ (a : Bool). cond a (cond f.marked None (Some (value_of (slot q f.word).value))) None) is
    ∙ ap (λ (b : Bool). cond b None (Some (value_of (slot q f.word).value))) flag

-- a get's answer
pub get_reply : (call : Call) (a : Option ℕ) → is_look call ≡ true → a ≡ None → reply_at call a ≡ Absent
get_reply (Get k) a looks e = ap (reply_at (Get k)) e
get_reply (Insert k x) a looks e = absurd (false≢true looks)
get_reply (Remove k) a looks e = absurd (false≢true looks)
get_reply (Cut k x) a looks e = absurd (false≢true looks)

pub get_value : (call : Call) (a : Option ℕ) (x : ℕ) → is_look call ≡ true → a ≡ Some x → reply_at call a ≡ Value x
get_value (Get k) a x looks e = ap (reply_at (Get k)) e
get_value (Insert k y) a x looks e = absurd (false≢true looks)
get_value (Remove k) a x looks e = absurd (false≢true looks)
get_value (Cut k y) a x looks e = absurd (false≢true looks)

-- the record where the walk ended is held, and has the key
pub record EndsAtKey (q : ListPass) (k : ℕ) (f : Found) : Type 0 where
  pub low : f.word < 5
  pub held : (slot q f.word).held ≡ true
  pub key : (slot q f.word).key ≡ k

pub ends_at_key : (z : Sizes) (q : ListPass) (k : ℕ) (f : Found) → IsEnd z q k f → f.equal ≡ true → EndsAtKey q k f
ends_at_key z q k f (at_nil nil word equal plain) is = absurd (false≢true (sym equal ∙ is))
ends_at_key z q k f (at_record some low held named above equal other first stands) is = record {
  low = low;
  held = held;
  key = eqb-true (slot q f.word).key k (sym equal ∙ is);
}

-- or it is past the key
pub ends_past : (z : Sizes) (q : ListPass) (k : ℕ) (f : Found) → IsEnd z q k f → f.equal ≡ false → EndsPast q k (word_of f.end)
ends_past z q k f (at_nil nil word equal plain) not_equal = inl nil
ends_past z q k f (at_record some low held named above equal other first stands) not_equal =
    let apart : (slot q f.word).key ≢ k = λ e. false≢true (sym not_equal ∙ (equal ∙ eq-eqb (slot q f.word).key k e)) in
    inr (f.word, low, held, named, omega arith)

pub may_fill : (z : Sizes) (q : ListPass) (call : Call) (f : Found) → IsFound z q call f → f.equal ≡ false
    → MayFill z q f.anchor f.end (key_of call)
may_fill z q call f i no_key = record {
  anchored = i.anchored;
  plain = i.plain_end;
  past = ends_past z q (key_of call) f i.end no_key;
}

pub holds_first : (q : ListPass) (f : Found) → HasChain q f → HoldsFirst q
holds_first q f (no_chain first chain count leads) = inl (record { first = first; chain = chain })
holds_first q f (a_chain low held other some leads joined count) = inr (low, held)

-- an insert goes on
pub inserts_on : (call : Call) (k x : ℕ) (u : ListView) (a : Option ℕ) → call ≡ Insert k x → a ≡ None → u.known.own.going ≡ true
    → u.known.own.call ≡ call → IsRight (log_of u.order) u.known.own.start (key_of call) a → Inserts call u
inserts_on call k x u a is none going own_call r = record {
  key = k;
  value = x;
  call_is = is;
  going = going;
  own_call = own_call;
  absent = record {
    place = r.0;
    since = r.1.0;
    within = r.1.1;
    absent = ap (find (after (log_of u.order) r.0)) (sym (ap key_of is)) ∙ (r.1.2 ∙ none);
  };
}

-- the call is the same one as it is over
pub over_same : (g g' : ListGoing) (n : Next) (h : Option Fresh) → g' ≡ record g { next = n; fresh = h } → SameGoing g g'
over_same g g' n h is = record { head = ap (λ x. x.head) is; call = ap (λ x. x.call) is; races = ap (λ x. x.races) is }

-- what ends a call of a pass with the same share and purse
pub ends_as : (z : Sizes) (share share' races : ℕ) (call : Call) (fresh : Option Fresh) (answer : Answer) (v w : ListView) (p q p' : Purse)
    → share' ≡ share → q ≡ p → Ends z share' races call fresh answer v w q p' → Ends z share races call fresh answer v w p p'
ends_as z share share' races call fresh answer v w p q p' same purse e =
    subst (λ (n : ℕ). Ends z n races call fresh answer v w p p') same (subst (λ (r : Purse). Ends z share' races call fresh answer v w r p')
    purse e)

pub not_so : (b : Bool) → not b ≡ true → b ≡ false
not_so true e = absurd (false≢true e)
not_so false e = refl

pub so : (b : Bool) → not b ≡ false → b ≡ true
so true e = refl
so false e = absurd (false≢true (sym e))

-- what an insert answers, or that it goes on
pub insert_held : (call : Call) (k x : ℕ) (a : Option ℕ) (y : ℕ) → call ≡ Insert k x → a ≡ Some y → reply_at call a ≡ Held y
insert_held call k x a y is e = ap (λ (c : Call). reply_at c a) is ∙ ap (reply_at (Insert k x)) e

pub insert_added : (call : Call) (k x : ℕ) (a : Option ℕ) → call ≡ Insert k x → a ≡ None → changes (reply_at call a) ≡ true
insert_added call k x a is e = ap (λ (c : Call). changes (reply_at c a)) is ∙ ap (λ (o : Option ℕ). changes (reply_at (Insert k x) o)) e

pub insert_looks : (call : Call) (k x : ℕ) → call ≡ Insert k x → is_look call ≡ false
insert_looks call k x is = ap is_look is

module _ (z : Sizes) (share : ℕ) (g : ListGoing) (f : Found) (v : ListView) (p : Purse) (ended : HasEnded z g v.known p f) (k x : ℕ)
    (is : g.call ≡ Insert k x) (no_key : f.equal ≡ false) where
  absent : found_in v.known f ≡ None
  absent = found_absent v.known f no_key

  opens : changes (reply_at g.call (found_in v.known f)) ≡ true
  opens = insert_added g.call k x (found_in v.known f) is absent

  goes_on : IsRight (log_of v.order) v.known.own.start (key_of g.call) (found_in v.known f) → Inserts g.call v
  goes_on r = inserts_on g.call k x v (found_in v.known f) is absent (ended.goes opens) ended.found.call_is r

  -- an insert comes to detach what was gathered
  pub comes_to_detach : f.chain ≢ 0 → Part z share (HasArrived z share g f v p) g (record g { next = Detaches f }) v v p On
  comes_to_detach some_chain = let early = ended.walks in
      arrived_opens z share g f v v p (idles_none v v refl) refl (Detaches f) (omega arith) refl ended opens
      (λ from t r. (t, (goes_on r, (ended.found, (no_key, some_chain)))))

  -- or to publish its record
  pub comes_to_publish : Part z share (HasArrived z share g f v p) g (record g { next = Publishes f }) v v p On
  comes_to_publish = let early = ended.walks in
      arrived_opens z share g f v v p (idles_none v v refl) refl (Publishes f) (omega arith) refl ended opens
      (λ from t r. (t, (goes_on r, (may_fill z v.known g.call f ended.found no_key, holds_first v.known f ended.found.chain))))

-- a call that takes the pair of its key
module _ (z : Sizes) (share : ℕ) (g : ListGoing) (f : Found) (v u : ListView) (p : Purse) (ended : HasEnded z g v.known p f)
    (idle : Idles v u) (same : u.known ≡ v.known) (has_key : f.equal ≡ true) (changing : is_look g.call ≡ false) where
  value_found : found_in v.known f ≡ Some (value_of (slot v.known f.word).value)
  value_found = found_value v.known f has_key (ended.found.unmarked changing)

  pub comes_to_mark : changes (reply_at g.call (found_in v.known f)) ≡ true
      → Takes g.call (slot v.known f.word).key (value_of (slot v.known f.word).value)
      → Part z share (HasArrived z share g f v p) g (record g { next = Marks f }) v u p On
  comes_to_mark opens takes = let early = ended.walks in let at = ends_at_key z v.known (key_of g.call) f ended.found.end has_key in
      arrived_opens z share g f v u p idle same (Marks f) (omega arith) refl ended opens
      (λ from t r. (
        t,
        (
          subst (λ (q : ListPass). IsFound z q g.call f) (sym same) ended.found,
          subst (λ (q : ListPass). (f.equal ≡ true) × (q.own.going ≡ true) × (f.word < 5) × ((slot q f.word).held ≡ true)
              × Takes g.call (slot q f.word).key (value_of (slot q f.word).value)) (sym same) (
                has_key,
                ended.goes opens,
                at.low,
                at.held,
                takes,
              ),
        ),
      ))

-- what a remove or a cut answers, or that it goes on
pub remove_absent : (call : Call) (k : ℕ) (a : Option ℕ) → call ≡ Remove k → a ≡ None → reply_at call a ≡ Absent
remove_absent call k a is e = ap (λ (c : Call). reply_at c a) is ∙ ap (reply_at (Remove k)) e

pub remove_opens : (call : Call) (k : ℕ) (a : Option ℕ) (y : ℕ) → call ≡ Remove k → a ≡ Some y → changes (reply_at call a) ≡ true
remove_opens call k a y is e = ap (λ (c : Call). changes (reply_at c a)) is ∙ ap (λ (o : Option ℕ). changes (reply_at (Remove k) o)) e

pub remove_takes : (call : Call) (k key y : ℕ) → call ≡ Remove k → key ≡ key_of call → Takes call key y
remove_takes call k key y is same = subst (λ (c : Call). Takes c key y) (sym is)
    (subst (λ (n : ℕ). Takes (Remove k) n y) (sym (same ∙ ap key_of is)) (removes k y))

pub cut_absent : (call : Call) (k x : ℕ) (a : Option ℕ) → call ≡ Cut k x → a ≡ None → reply_at call a ≡ Absent
cut_absent call k x a is e = ap (λ (c : Call). reply_at c a) is ∙ ap (reply_at (Cut k x)) e

cut_at : (call : Call) (k x : ℕ) (a : Option ℕ) (y : ℕ) → call ≡ Cut k x → a ≡ Some y → reply_at call a ≡ cond (nat_eq y x) (Took y)
    (Other y)
cut_at call k x a y is e = ap (λ (c : Call). reply_at c a) is ∙ ap (reply_at (Cut k x)) e

pub cut_other : (call : Call) (k x : ℕ) (a : Option ℕ) (y : ℕ) → call ≡ Cut k x → a ≡ Some y → y ≢ x → reply_at call a ≡ Other y
cut_other call k x a y is e apart = cut_at call k x a y is e ∙ ap (λ (b : Bool). cond b (Took y) (Other y)) (ne_eqb y x apart)

pub cut_opens : (call : Call) (k x : ℕ) (a : Option ℕ) (y : ℕ) → call ≡ Cut k x → a ≡ Some y → y ≡ x → changes (reply_at call a) ≡ true
cut_opens call k x a y is e same = ap changes (cut_at call k x a y is e ∙ ap (λ (b : Bool). cond b (Took y) (Other y)) (eq-eqb y x same))

pub cut_takes : (call : Call) (k x key y : ℕ) → call ≡ Cut k x → key ≡ key_of call → y ≡ x → Takes call key y
cut_takes call k x key y is same value = subst (λ (c : Call). Takes c key y) (sym is)
    (subst (λ (n : ℕ). Takes (Cut k x) n y) (sym (same ∙ ap key_of is)) (subst (λ (w : ℕ). Takes (Cut k x) k w) (sym value) (cuts k x)))
