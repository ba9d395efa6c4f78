-- A turn of a walk, for the call whose walk it is.
use Rattle.std.proofs.Common.{◌≡◌, ℕ, ◌+◌, ◌<◌, Bool, true, false, cond, List, [], ◌∷◌, ◌++◌, map, length, refl}
use Rattle.std.proofs.Common.{sym, ap, ◌∙◌, subst, ⊎_elim, append-nil, length-append}
use Rattle.std.proofs.Common.{Option, Some, None, arith}
use Rattle.std.specs.Prelude.{drop}
use Rattle.std.proofs.Math.Bool.{false≢true}
use Rattle.std.proofs.Math.Seq.{drop-append_seam}
use Rattle.pp_link.specs.declared.layout.Sizes.{Sizes}
use Rattle.pp_pool.specs.declared.fresh.Fresh.{Fresh}
use Rattle.pp_model.specs.declared.Answer.{Answer}
use Rattle.pp_model.specs.declared.Call.{Call}
use Rattle.pp_model.specs.declared.Placed.{Placed}
use Rattle.pp_model.specs.declared.Turned.{Turned}
use Rattle.pp_model.specs.declared.Turned.TheVariants.{On, Done}
use Rattle.pp_model.specs.declared.steps.Step.{Step}
use Rattle.pp_model.specs.MapCalls.{WentOn, turn_lost, keys_narrowed, next_kind, IfOn, IfDone, Answered}
use Rattle.pp_model.specs.Calls.{key_of, changes, reply_at}
use Rattle.pp_model.specs.Pass.{seen_first}
use Rattle.pp_lists.specs.Walks.{IsRight}
use Rattle.pp_rule.specs.declared.views.PrivateRecord.{PrivateRecord}
use Rattle.pp_rule.specs.declared.views.Chain.{Chain}
use Rattle.pp_rule.specs.Orders.{log_of, made_by, placed_by}
use Rattle.pp_base.specs.declared.purse.Purse.{Purse}
use Rattle.pp_base.specs.Named.{NamedStep, name_of}
use Rattle.pp_calls.specs.Steps.{Stepped, HasOwn, StandsThen, WriteNone}
use Rattle.pp_calls.proofs.Growing.{stepped_both, kinds_none}
use Rattle.pp_rule.specs.Lists.{IsIn, times}
use Rattle.pp_rule.specs.Rule.{number_of}
use Rattle.pp_shelf.specs.Runs.{map_sizes, steps_made}
use Rattle.pp_lists.specs.declared.own.ListOwn.{ListOwn}
use Rattle.pp_lists.specs.Turns.{ListView}
use Rattle.pp_lists.specs.Losses.{list_reader}
use Rattle.pp_turns.specs.Tallies.{losing}
use Rattle.pp_turns.specs.Turns.{Ran, Since, SawLast, Unplaced, Replied}
use Rattle.pp_turns.proofs.Placing.{unplaced_on, replied_on}
use Rattle.pp_turns.proofs.Purses.{carries_on}
use Rattle.pp_turns.proofs.Stretches.{since_first, since_on, saw_last, stepped_steps, stretch_both, own_before}
use Rattle.pp_walk.proofs.Counting.{walks_write_none}
use Rattle.pp_walk.specs.declared.walk.Walk.{Walk}
use Rattle.pp_walk.specs.declared.walk.Found.{Found}
use Rattle.pp_walk.specs.Roles.{IsWalk, IsFound, found_in, lower_of}
use Rattle.pp_walk.specs.Trod.{Trod, FirstSaw}
use Rattle.pp_walk.specs.Turns.{From, Goes, GoesOn, GoesBack, Arrives}
use Rattle.pp_walk.specs.Turns as walked
use Rattle.pp_walk.specs.Words.{SameRest}
use Rattle.pp_list.specs.declared.going.ListGoing.{ListGoing}
use Rattle.pp_list.specs.declared.going.Next.{Next}
use Rattle.pp_list.specs.declared.going.Next.TheVariants.{Walks}
use Rattle.pp_calls.specs.PoolViews.{pool_view}
use Rattle.pp_list.specs.Meant.{list_meaning}
use Rattle.pp_list.specs.Purses.{HasOut}
use Rattle.pp_list.specs.Going.{Begun, Tries, Carries, IsUnder, kind_of, going_of, lower_left, Stands, is_after}
use Rattle.pp_list.specs.Turned.{Advances, Part, HasLost, HasArrived, HasEnded, ListTurned}
use Rattle.pp_list.proofs.Reading.{named_losing}
use Rattle.pp_list.proofs.Calm.{strikes_none}
use Rattle.pp_list.proofs.Resting.{rest_kept}

abbrev lower_at : Bool → ℕ → ℕ
lower_at b n = cond b 0 n

abbrev first_kind : Bool → ℕ
first_kind b = cond b 0 1

-- the steps of a turn of a walk, as the list's reader counts them
pub trod_ran : (z : Sizes) (call : Call) (lost : ℕ) (calls : List Placed) (v u : ListView) (t : Trod lost calls v u)
    → (HasOwn u.order → StandsThen v → StandsThen u) → (m : List NamedStep) (n : ℕ)
    → (m' : List NamedStep) × Ran list_reader (map_sizes z) call (losing m n) (losing m' (n + lost)) v u
trod_ran z call lost calls v u t stands m n = (
  _,
  record {
    stepped = t.stepped;
    read = named_losing (map_sizes z) call t.steps lost (t.loses (map_sizes z)) (strikes_none t.steps t.writes) m n (steps_made v u)
        (ap (map name_of) (stepped_steps v u t.stepped) ∙ t.named);
    stands = stands;
  },
)

pub trod_long : (lost : ℕ) (calls : List Placed) (v u : ListView) (t : Trod lost calls v u) → 0 < length (steps_made v u)
trod_long lost calls v u t = subst (λ (l : List Step). 0 < length l) (sym (stepped_steps v u t.stepped))
    (long t.stepped.steps (subst (λ (l : List NamedStep). 0 < length l) (sym t.named) t.some_made))
  where
    long : (xs : List Step) → 0 < length (map name_of xs) → 0 < length xs
    long [] some_made = absurd (omega arith)
    long (x ∷ xs) some_made = omega arith

first_saw : (start : ℕ) (v u : ListView) → FirstSaw start v u → seen_first 0 (steps_made v u) ≡ start
first_saw start v u f = ap (λ (l : List Step). seen_first 0 (drop (length (made_by v.known.number v.order)) l)) f.made
    ∙ (ap (seen_first 0) (drop-append_seam (made_by v.known.number v.order) (f.first ∷ f.rest)) ∙ f.saw)

-- what a call made since its begin, with a turn of its walk
record Trodden (z : Sizes) (call : Call) (n : ℕ) (from u : ListView) : Type 0 where
  memory : List NamedStep
  since : Since list_reader (map_sizes z) call u.known.own.start (losing memory n) from u
  last : SawLast from u

module _ (z : Sizes) (call : Call) (n lost : ℕ) (calls : List Placed) (own : ListOwn) (w : Walk) (from v u : ListView)
    (t : walked.Turned z w lost calls own v u) where
  trodden_at : (fresh : Bool) → Begun fresh z call n from v → From fresh w.call own v u → Trodden z call (n + lost) from u
  trodden_at true b s = let r = trod_ran z call lost calls v u t.trod t.stands [] 0 in let long = trod_long lost calls v u t.trod in
      let start : s.start ≡ u.known.own.start = ap (λ (o : ListOwn). o.start) (sym s.own_is) ∙ sym t.same.start in
      let e : 0 + lost ≡ n + lost = let none = b.1.1 in omega arith in record {
        memory = r.0;
        since = subst (λ (k : ℕ). Since list_reader (map_sizes z) call u.known.own.start (losing r.0 k) from u) e
            (since_first list_reader (map_sizes z) call u.known.own.start (losing r.0 (0 + lost)) from v u b.0 r.1 long
            (first_saw s.start v u s.saw ∙ start));
        last = saw_last from v u b.0.went t.trod.stepped long;
      }
  trodden_at false b s = let r = trod_ran z call lost calls v u t.trod t.stands b.memory n in let long = trod_long lost calls v u t.trod in
      let start : v.known.own.start ≡ u.known.own.start = ap (λ (o : ListOwn). o.start) (sym s) ∙ sym t.same.start in record {
        memory = r.0;
        since = subst (λ (k : ℕ). Since list_reader (map_sizes z) call k (losing r.0 (n + lost)) from u) start
            (since_on list_reader (map_sizes z) call v.known.own.start (losing b.memory n) (losing r.0 (n + lost)) from v u b.since r.1);
        last = saw_last from v u b.since.went t.trod.stepped long;
      }

  unplaced_at : (fresh : Bool) → Begun fresh z call n from v → Unplaced from v
  unplaced_at true b = b.1.0
  unplaced_at false b = b.unplaced

-- what a call has of its purse, where its walk wrote no link
pub carries_rest : (share : ℕ) (call : Call) (fresh : Option Fresh) (from v u : ListView) (free : List ℕ) (p : Purse) → Stepped v u
    → WriteNone (steps_made v u) → SameRest v.known u.known → Carries share call fresh from v free p → Carries share call fresh from u free
    p
carries_rest share call fresh from v u free p s none rest k = carries_on HasOut 1 share call fresh from v u free p p rest.sizes (out fresh)
    refl (λ _. (
      s,
      none,
      record {
        sizes = rest.sizes;
        retired = rest.retired_are;
        chains = ap (λ (l : List Chain). length l) rest.chains;
      },
    )) k
  where
    out : (f : Option Fresh) → HasOut v.known p f → HasOut u.known p f
    out None o = o
    out (Some f) o = (
      subst (λ (ds : List PrivateRecord). times f.number p.free.items < times f.number (map number_of ds)) (sym rest.owned) o.0,
      o.1,
    )

trod_none : (lost : ℕ) (calls : List Placed) (v u : ListView) (t : Trod lost calls v u) → WriteNone (steps_made v u)
trod_none lost calls v u t = kinds_none (steps_made v u) (λ n i. walks_write_none n.kind (t.writes n
    (subst (λ (l : List NamedStep). IsIn n l) (ap (map name_of) (stepped_steps v u t.stepped) ∙ t.named) i)))

trod_unplaced : (lost : ℕ) (v u : ListView) (t : Trod lost [] v u) → Unplaced v u
trod_unplaced lost v u t = t.stepped.placed ∙ (ap (λ (l : List Placed). placed_by v.known.number v.order ++ l) t.calls_are
    ∙ append-nil (placed_by v.known.number v.order))

pub went_by : (v w : ListView) (g g' : ListGoing) (result : Turned) → IfOn result (Advances g g')
    → IfOn result (WentOn (going_of v.known g) (going_of w.known g'))
went_by v w g g' On a = ⊎_elim (λ (l : (g'.lost ≡ g.lost + 1) × (g'.lost < g'.races)). turn_lost l.0 l.1)
    (λ (l : (g'.lost ≡ g.lost) × (kind_of g.next < kind_of g'.next)). next_kind l.0 l.1) a
went_by v w g g' (Done answer) a = tt

pub on_by : (result : Turned) (P Q : Type 0) → (P → Q) → IfOn result P → IfOn result Q
on_by On P Q f p = f p
on_by (Done answer) P Q f p = tt

pub done_by : (result : Turned) (P Q : Answer → Type 0) → ((a : Answer) → P a → Q a) → IfDone result P → IfDone result Q
done_by On P Q f p = tt
done_by (Done answer) P Q f p = f answer p

-- A turn of its first part, in which nothing took effect, and of its last one.
pub turned_by : (z : Sizes) (share : ℕ) (Known : ListView → List ℕ → Type 0) (g g' : ListGoing) (v u w : ListView) (p q p' : Purse)
    (result : Turned) → Stepped v u → 0 < length (steps_made v u) → (HasOwn u.order → StandsThen v → StandsThen u) → g.struck ≡ false
    → ((from : ListView) (free : List ℕ) → IsUnder z share g v p from free → Known from free) → Part z share Known g g' u w p' result
    → g'.struck ≡ false → ListTurned z share g g' v w p p' result
turned_by z share Known g g' v u w p q p' result first long stands unstruck each part early = record {
  stepped = stepped_both v u w first part.stepped;
  some_made = let e = ap (λ (l : List Step). length l) (stretch_both v u w first part.stepped)
      ∙ length-append (steps_made v u) (steps_made u w) in omega arith;
  stands = λ own s. part.stands own (stands (own_before u w part.stepped own) s);
  same = part.same;
  stays = λ was. absurd (false≢true (sym unstruck ∙ was));
  strikes = λ was now. absurd (false≢true (sym early ∙ now));
  struck = part.struck;
  went = went_by v w g g' result part.advances;
  goes_on = on_by result _ ((from : ListView) (free : List ℕ) → IsUnder z share g v p from free → IsUnder z share g' w p' from free)
      (λ f from free under. f from free (each from free under)) part.goes_on;
  answered = done_by result _ (λ answer. (from : ListView) (free : List ℕ) → IsUnder z share g v p from free → StandsThen w
      → Answered list_meaning (map_sizes z) g.call g.races (pool_view from free share) (pool_view w p'.free.items share) answer
      g'.lost) (λ a f from free under stands. f from free (each from free under) stands) part.answered;
}

-- the walk that a call is at
stage : (z : Sizes) (g : ListGoing) (walk : Walk) (from v : ListView) → g.next ≡ Walks walk → Stands z g.call g.races g.lost g.next from v
    → (walk.call ≡ g.call) × (IsWalk z v.known walk × Begun walk.fresh z g.call g.lost from v)
stage z g walk from v at s = subst (λ (n : Next). Stands z g.call g.races g.lost n from v) at s

module _ (z : Sizes) (share : ℕ) (g : ListGoing) (walk : Walk) (v u : ListView) (p : Purse) (at : g.next ≡ Walks walk) where
  pub unstruck : (from : ListView) (free : List ℕ) → IsUnder z share g v p from free → g.struck ≡ false
  unstruck from free x = x.struck ∙ ap is_after at

  module _ (w' : Walk) (lost : ℕ) (goes : Goes z walk w' lost v u) (from : ListView) (free : List ℕ) (x : IsUnder z share g v p from free)
    where
      stood : (walk.call ≡ g.call) × (IsWalk z v.known walk × Begun walk.fresh z g.call g.lost from v)
      stood = stage z g walk from v at x.stands

      after_turn : Trodden z g.call (g.lost + lost) from u
      after_turn = trodden_at z g.call g.lost lost [] goes.own walk from v u goes.turned walk.fresh stood.1.1
          (subst (λ (c : Call). From walk.fresh c goes.own v u) refl goes.turned.from)

      tries : Tries z g.call (g.lost + lost) from u
      tries = let t = after_turn in record {
        memory = t.memory;
        since = t.since;
        unplaced = unplaced_on from v u (went_of walk.fresh stood.1.1)
            (unplaced_at z g.call g.lost lost [] goes.own walk from v u goes.turned walk.fresh stood.1.1)
            (trod_unplaced lost v u goes.turned.trod);
      }
        where
          went_of : (fresh : Bool) → Begun fresh z g.call g.lost from v → v.known.number ≡ from.known.number
          went_of true b = b.0.went.number
          went_of false b = b.since.went.number

      carries : Carries share g.call g.fresh from u free p
      carries = carries_rest share g.call g.fresh from v u free p goes.turned.trod.stepped (trod_none lost [] v u goes.turned.trod)
          goes.turned.rest x.carries

  -- It came to a greater key.
  pub treads_on : (w' : Walk) → GoesOn z walk w' v u → w'.call ≡ walk.call → (from : ListView) (free : List ℕ) → IsUnder z share g v p from
      free
      → ListTurned z share g (record g { next = Walks w' }) v u p p On
  treads_on w' goes asked from0 free0 x0 = record {
    stepped = goes.goes.turned.trod.stepped;
    some_made = trod_long 0 [] v u goes.goes.turned.trod;
    stands = goes.goes.turned.stands;
    same = record { head = refl; call = refl; races = refl };
    stays = λ was. was;
    strikes = λ was now. absurd (false≢true (sym was ∙ now));
    struck = tt;
    went = narrowed walk.fresh refl;
    goes_on = λ from free x. record {
      low = x.low;
      home = x.home;
      below = x.below;
      struck = unstruck from free x;
      rest = rest_kept v.known u.known p p goes.goes.turned.rest refl x.rest;
      carries = carries w' 0 goes.goes from free x;
      stands = (
        asked ∙ (stood w' 0 goes.goes from free x).0,
        (
          goes.goes.walks,
          begun w'.fresh goes.goes.under_way from
              (subst (λ (n : ℕ). Tries z g.call n from u) same_lost (tries w' 0 goes.goes from free x)),
        ),
      );
    };
    answered = tt;
  }
    where
      same_lost : g.lost + 0 ≡ g.lost
      same_lost = omega arith

      begun : (fresh : Bool) → fresh ≡ false → (from : ListView) → Tries z g.call g.lost from u → Begun fresh z g.call g.lost from u
      begun true is from t = absurd (false≢true (sym is))
      begun false is from t = t

      kind_now : first_kind w'.fresh ≡ 1
      kind_now = ap first_kind goes.goes.under_way

      lower_now : lower_at w'.fresh (lower_of u.known w'.at) ≡ lower_of u.known w'.at
      lower_now = ap (λ (b : Bool). lower_at b (lower_of u.known w'.at)) goes.goes.under_way

      narrowed : (b : Bool) → walk.fresh ≡ b → WentOn (going_of v.known g) (going_of u.known (record g { next = Walks w' }))
      narrowed true is = let kind : kind_of g.next ≡ 0 = ap kind_of at ∙ ap first_kind is in next_kind refl (omega (arith, kind, kind_now))
      narrowed false is = let kind : kind_of g.next ≡ 1 = ap kind_of at ∙ ap first_kind is in
          let lower : lower_left v.known g.next ≡ lower_of v.known walk.at =
          ap (lower_left v.known) at ∙ ap (λ (b : Bool). lower_at b (lower_of v.known walk.at)) is in
          let up = goes.rises in let low = goes.low in
          keys_narrowed refl (kind_now ∙ sym kind) (omega (arith, lower, lower_now, up, low))

  -- It was lost.
  pub treads_back : (w' : Walk) → GoesBack z walk w' v u → (from : ListView) (free : List ℕ) → IsUnder z share g v p from free
      → HasLost z share g u p from free
  treads_back w' goes from free x = record {
    tries = tries w' 1 goes.goes from free x;
    last = (after_turn w' 1 goes.goes from free x).last;
    carries = carries w' 1 goes.goes from free x;
  }

  -- The walk ended.
  module _ (f : Found) (arrives : Arrives z walk f v u) where
    abbrev a : Option ℕ
    a = found_in u.known f

    module _ (from : ListView) (free : List ℕ) (x : IsUnder z share g v p from free) where
      begun_so : (walk.call ≡ g.call) × (IsWalk z v.known walk × Begun walk.fresh z g.call g.lost from v)
      begun_so = stage z g walk from v at x.stands

      own_call : arrives.own.call ≡ g.call
      own_call = sym arrives.turned.same.call ∙ (arrives.found.call_is ∙ begun_so.0)

      trodden : Trodden z g.call (g.lost + 0) from u
      trodden = trodden_at z g.call g.lost 0 arrives.calls arrives.own walk from v u arrives.turned walk.fresh begun_so.1.1
          arrives.turned.from

      before : Unplaced from v
      before = unplaced_at z g.call g.lost 0 arrives.calls arrives.own walk from v u arrives.turned walk.fresh begun_so.1.1

      number : v.known.number ≡ from.known.number
      number = of walk.fresh begun_so.1.1
        where
          of : (fresh : Bool) → Begun fresh z g.call g.lost from v → v.known.number ≡ from.known.number
          of true b = b.0.went.number
          of false b = b.since.went.number

      replied : (call : Call) → arrives.own.call ≡ call → changes (reply_at call a) ≡ false
          → Replied call (reply_at call a) u.known.own.start v u
      replied call is plain = subst (λ (c : Call). changes (reply_at c a) ≡ false → Replied c (reply_at c a) u.known.own.start v u) is
          (λ still. let r = (arrives.answers.settled still).1 in let start = arrives.turned.same.start in let lo = r.since in record {
            unchanged = still;
            place = r.at;
            placed_so = arrives.turned.trod.stepped.placed ∙ ap (λ (l : List Placed). placed_by v.known.number v.order ++ l)
                (arrives.turned.trod.calls_are ∙ r.calls_are);
            since = omega arith;
            within = r.within;
            least = λ q from_q to_q right. r.least q (omega arith) to_q right;
          }) plain

      pub treads_to : HasArrived z share g f u p from free
      treads_to = let t = trodden in let same_lost : g.lost + 0 ≡ g.lost = omega arith in record {
        memory = t.memory;
        since = subst (λ (n : ℕ). Since list_reader (map_sizes z) g.call u.known.own.start (losing t.memory n) from u) same_lost t.since;
        last = t.last;
        settled = λ plain. replied_on g.call (reply_at g.call a) u.known.own.start from v u number before (replied g.call own_call plain);
        opened = λ opens. let o = arrives.answers.goes_on (ap (λ (c : Call). changes (reply_at c a)) own_call ∙ opens) in (
          unplaced_on from v u number before (arrives.turned.trod.stepped.placed ∙ (ap (λ (l : List Placed).
              placed_by v.known.number v.order ++ l) (arrives.turned.trod.calls_are ∙ o.1)
              ∙ append-nil (placed_by v.known.number v.order))),
          subst (λ (s : ℕ). IsRight (log_of u.order) s (key_of g.call) a) (sym arrives.turned.same.start)
              (subst (λ (c : Call). IsRight (log_of u.order) arrives.own.start (key_of c) a) own_call o.2),
        );
        carries = carries_rest share g.call g.fresh from v u free p arrives.turned.trod.stepped
            (trod_none 0 arrives.calls v u arrives.turned.trod) arrives.turned.rest x.carries;
      }

      -- and the pass is ready for what comes next
      pub treads_ready : HasEnded z g u.known p f
      treads_ready = record {
        found = subst (λ (c : Call). IsFound z u.known c f) begun_so.0 arrives.found;
        goes = λ opens. (arrives.answers.goes_on (ap (λ (c : Call). changes (reply_at c a)) own_call ∙ opens)).0;
        low = x.low;
        home = x.home;
        below = x.below;
        unstruck = unstruck from free x;
        walks = below_two walk.fresh (ap kind_of at);
        rest = rest_kept v.known u.known p p arrives.turned.rest refl x.rest;
        out = treads_to.carries.out;
        none = x.carries.none;
      }
        where
          below_two : (b : Bool) → kind_of g.next ≡ first_kind b → kind_of g.next < 2
          below_two true is = omega arith
          below_two false is = omega arith

-- the last part of a turn of a pass with the same share and purse
pub lost_as : (z : Sizes) (share share' : ℕ) (g g' : ListGoing) (u w : ListView) (p q p' : Purse) (result : Turned) → share' ≡ share → q ≡ p
    → Part z share' (HasLost z share' g u q) g g' u w p' result → Part z share (HasLost z share g u p) g g' u w p' result
lost_as z share share' g g' u w p q p' result same purse x = subst (λ (n : ℕ). Part z n (HasLost z n g u p) g g' u w p' result) same
    (subst (λ (r : Purse). Part z share' (HasLost z share' g u r) g g' u w p' result) purse x)

pub arrived_as : (z : Sizes) (share share' : ℕ) (g g' : ListGoing) (f : Found) (u w : ListView) (p q p' : Purse) (result : Turned)
    → share' ≡ share → q ≡ p
    → Part z share' (HasArrived z share' g f u q) g g' u w p' result → Part z share (HasArrived z share g f u p) g g' u w p' result
arrived_as z share share' g g' f u w p q p' result same purse x =
    subst (λ (n : ℕ). Part z n (HasArrived z n g f u p) g g' u w p' result) same
    (subst (λ (r : Purse). Part z share' (HasArrived z share' g f u r) g g' u w p' result) purse x)
