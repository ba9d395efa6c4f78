-- The turn in which a remove or a cut marks its record.
use Rattle.std.proofs.Common.{◌≡◌, ◌≢◌, ℕ, ◌+◌, ◌<◌, ◌≤◌, Bool, true, false, cond, nat_eq, List, [], ◌∷◌}
use Rattle.std.proofs.Common.{◌++◌, map, length, refl, sym, ap, ◌∙◌}
use Rattle.std.proofs.Common.{subst, arith, ne_eqb, length-append}
use Rattle.std.specs.Prelude.{◌||◌, ◌&&◌, not, nat_lt, bit_or}
use Rattle.std.proofs.Math.Bool.{false≢true}
use Rattle.pp_link.specs.declared.layout.Sizes.{Sizes}
use Rattle.pp_link.specs.Links.{word_of, target, flag_bit}
use Rattle.pp_link.specs.Places.{cell_place, IsNumber}
use Rattle.pp_model.specs.declared.Call.{Call}
use Rattle.pp_model.specs.declared.Reply.TheVariants.{Took}
use Rattle.pp_model.specs.declared.Turned.TheVariants.{On}
use Rattle.pp_model.specs.declared.steps.Step.{Step}
use Rattle.pp_model.specs.MapCalls.{next_kind}
use Rattle.pp_model.specs.Calls.{key_of, Takes, removes, cuts}
use Rattle.pp_model.specs.Pass.{MapSizes}
use Rattle.pp_rule.specs.Lists.{IsIn}
use Rattle.pp_rule.specs.Orders.{log_of}
use Rattle.pp_rule.specs.Steps.{MadeStep}
use Rattle.pp_rule.specs.Views.{slot, value_of}
use Rattle.pp_rule.proofs.Put.{in_right, in_first}
use Rattle.pp_base.specs.declared.purse.Purse.{Purse}
use Rattle.pp_base.specs.Named.{NamedStep, name_of}
use Rattle.pp_base.specs.Passes.{IsAtRest}
use Rattle.pp_calls.specs.Steps.{Stepped, HasOwn, StandsThen}
use Rattle.pp_calls.proofs.Growing.{stepped_made, stepped_both, stepped_one}
use Rattle.pp_shelf.specs.Runs.{map_sizes, steps_made}
use Rattle.pp_unlink.specs.Invalidation.{SameFree}
use Rattle.pp_lists.specs.declared.own.Gathered.{Gathered}
use Rattle.pp_lists.specs.Lists.{ListPass}
use Rattle.pp_lists.specs.Walks.{numbers}
use Rattle.pp_lists.specs.Turns.{ListView, mark_step, change_at, placed_at, marked}
use Rattle.pp_lists.specs.Losses.{list_reader, is_effect, is_find, has_flag}
use Rattle.pp_turns.specs.Tallies.{losing, effected, tally, counting, lost_at}
use Rattle.pp_turns.specs.Turns.{Ran, Since, Struck}
use Rattle.pp_turns.proofs.Tallies.{tally_later}
use Rattle.pp_turns.proofs.Placing.{struck_at, struck_later, struck_on}
use Rattle.pp_turns.proofs.Stretches.{ran_one, ran_both, since_on, saw_last, steps_both, stretch_both, stepped_steps}
use Rattle.pp_walk.specs.declared.walk.Found.{Found}
use Rattle.pp_walk.specs.declared.effects.Taken.{Taken}
use Rattle.pp_walk.specs.Effects.{MarksNone, MarksOne}
use Rattle.pp_walk.specs.Roles.{IsFound, IsEnd, at_nil, at_record, is_look}
use Rattle.pp_walk.proofs.Effecting.{may_detach_marked}
use Rattle.pp_list.specs.declared.going.ListGoing.{ListGoing}
use Rattle.pp_list.specs.declared.going.Marked.{Marked}
use Rattle.pp_list.specs.declared.going.Next.{Next}
use Rattle.pp_list.specs.declared.going.Next.TheVariants.{Marks as ToMark, Unlinks}
use Rattle.pp_list.specs.Causes.{effect_place, number_at}
use Rattle.pp_list.specs.Going.{Tries, HasTaken, Stands, IsUnder, kind_of, is_after}
use Rattle.pp_list.specs.Turned.{HasLost, ListTurned}
use Rattle.pp_list.proofs.Calm.{calm_quiet}
use Rattle.pp_list.proofs.Trying.{tried_on, tried_long, carries_changed}

pub takes_changes : (call : Call) (k w : ℕ) → Takes call k w → is_look call ≡ false
takes_changes call k w (removes k' w') = refl
takes_changes call k w (cuts k' w') = refl

pub real_end : (z : Sizes) (q : ListPass) (k : ℕ) (f : Found) → IsEnd z q k f → f.equal ≡ true → target (word_of f.end) ≢ 0
real_end z q k f (at_nil nil word equal plain) is = absurd (false≢true (sym equal ∙ is))
real_end z q k f (at_record some low held named above equal other first stands) is = some

-- nothing of its purse changed
same_free : (p : Purse) → SameFree p p
same_free p = record { free = refl; taken = refl; going = refl }

module _ (z : Sizes) (share : ℕ) (g : ListGoing) (f : Found) (v : ListView) (p : Purse) (at : g.next ≡ ToMark f) (from : ListView)
    (free : List ℕ)
    (x : IsUnder z share g v p from free) where
  pub at_mark : Tries z g.call g.lost from v × (IsFound z v.known g.call f × ((f.equal ≡ true) × (v.known.own.going ≡ true) × (f.word < 5)
      × ((slot v.known f.word).held ≡ true) × Takes g.call (slot v.known f.word).key (value_of (slot v.known f.word).value)))
  at_mark = subst (λ (n : Next). Stands z g.call g.races g.lost n from v) at x.stands

  pub unmarked_yet : g.struck ≡ false
  unmarked_yet = x.struck ∙ ap is_after at

  pub mark_changes : is_look g.call ≡ false
  mark_changes = let k = at_mark.1.1 in takes_changes g.call _ _ k.4

-- the mark came too late
pub mark_lost : (z : Sizes) (share : ℕ) (g : ListGoing) (f : Found) (v u : ListView) (p : Purse) (place : ℕ) → g.next ≡ ToMark f
    → z ≡ v.known.sizes → MarksNone place v u
    → (from : ListView) (free : List ℕ) → IsUnder z share g v p from free → HasLost z share g u p from free
mark_lost z share g f v u p place at z_is m from free x = let t = m.tried in let k = at_mark z share g f v p at from free x in
    let passes = ap (λ (s : Sizes). s.passes) z_is in record {
      tries = tried_on z g 1 g.lost from v u t passes (ap (λ (q : ListPass). q.own.start) m.known) k.0;
      last = saw_last from v u k.0.since.went (stepped_made t.steps v u t.did) (tried_long z v u t passes);
      carries = carries_changed share g.call g.fresh from v u free p p (ap (λ (q : ListPass). q.sizes) m.known)
          (ap (λ (q : ListPass). q.owned) m.known) (same_free p) (mark_changes z share g f v p at from free x) x.carries;
    }

-- the number of a record by the place of its left link
pub number_there : (z : Sizes) (n : ℕ) → 1 ≤ n → number_at (map_sizes z) (cell_place z n 2) ≡ n
number_there z n some = omega arith

-- a marking step that finds no FLAG is one by which the call takes effect
mark_counts : (z : MapSizes) (call : Call) (m : List NamedStep) (n : ℕ) (s : Step) → s.kind ≡ mark_step → flag_bit s.word ≡ 0
    → (is_effect (name_of s) ≡ true) × (counting list_reader z call (losing m n) s ≡ effected (name_of s ∷ m) n n [])
mark_counts z call m n s kind plain = (
  effect,
  ap (λ (b : Bool). cond b (effected (name_of s ∷ m) (lost_at list_reader z call m s n) n [])
      (losing (name_of s ∷ m) (lost_at list_reader z call m s n))) effect
      ∙ ap (λ (k : ℕ). effected (name_of s ∷ m) k n []) same,
)
  where
    one : Bool → ℕ
    one b = cond b 1 0

    none : has_flag s.word ≡ false
    none = ne_eqb (flag_bit s.word) 1 (λ e. omega arith)

    find_none : is_find z m (name_of s) ≡ false
    find_none = subst (λ (k : ℕ). is_find z m (record { kind = k; place = s.place; word = s.word }) ≡ false) (sym kind) none

    same : n + cond (is_find z m (name_of s)) 1 0 ≡ n
    same = let zero_lost : one (is_find z m (name_of s)) ≡ 0 = ap one find_none in omega (arith, zero_lost)

    effect : is_effect (name_of s) ≡ true
    effect = ap (λ (k : ℕ). nat_eq k 17 || (nat_eq k 18 && not (has_flag s.word))) kind ∙ ap not none

-- the place of the first effect, behind steps that are none
effect_behind : (call : Call) (z : MapSizes) (m m' : List NamedStep) (n n' : ℕ) (xs ys : List Step) (s : Step)
    → tally list_reader z call (losing m n) xs ≡ losing m' n' → is_effect (name_of s) ≡ true
    → effect_place (map name_of (xs ++ s ∷ ys)) ≡ s.place
unfolding tally effect_place
effect_behind call z m m' n n' [] ys s e hit = ap (λ (b : Bool). cond b s.place (effect_place (map name_of ys))) hit
effect_behind call z m m' n n' (x ∷ xs) ys s e hit = by (is_effect (name_of x)) e
    (λ f. effect_behind call z (name_of x ∷ m) m' (lost_at list_reader z call m x n) n' xs ys s f hit)
  where
    by : (b : Bool) → tally list_reader z call (cond b (effected (name_of x ∷ m) (lost_at list_reader z call m x n) n [])
        (losing (name_of x ∷ m) (lost_at list_reader z call m x n))) xs ≡ losing m' n'
        → (tally list_reader z call (losing (name_of x ∷ m) (lost_at list_reader z call m x n)) xs ≡ losing m' n'
        → effect_place (map name_of (xs ++ s ∷ ys)) ≡ s.place)
        → cond b x.place (effect_place (map name_of (xs ++ s ∷ ys))) ≡ s.place
    by true f again = let bad = sym (tally_later list_reader z call (name_of x ∷ m) (lost_at list_reader z call m x n) n [] xs) ∙ f in
        absurd cc
    by false f again = again f

member_last : (b : Bool) (cs : List Gathered) (c : Gathered) → IsIn c.number (numbers (cond b (cs ++ c ∷ []) (c ∷ [])))
member_last true cs c = subst (λ (l : List ℕ). IsIn c.number l) (sym (numbers_push cs)) (in_right c.number (numbers cs) (c.number ∷ [])
    (in_first c.number []))
  where
    numbers_push : (xs : List Gathered) → numbers (xs ++ c ∷ []) ≡ numbers xs ++ c.number ∷ []
    numbers_push [] = refl
    numbers_push (x ∷ xs) = ap (λ (l : List ℕ). x.number ∷ l) (numbers_push xs)
member_last false cs c = in_first c.number []

-- The mark took effect.
module _ (z : Sizes) (share : ℕ) (g : ListGoing) (f : Found) (taken : Taken) (v u : ListView) (p : Purse) (at : g.next ≡ ToMark f)
    (z_is : z ≡ v.known.sizes) (m : MarksOne z f.word g.call taken v u) (number : IsNumber z (slot v.known f.word).named) where
  abbrev cut : Marked
  cut = record { anchor = f.anchor; first = f.first; next = taken.next; word = f.word; value = taken.value }

  abbrev place : ℕ
  place = cell_place z (slot v.known f.word).named 2

  made : MadeStep mark_step place m.found (bit_or m.found 1) (change_at g.call m.then ∷ [])
      (placed_at g.call (Took (value_of (slot v.known f.word).value)) m.then ∷ []) (marked f.word (bit_or m.found 1) v.known) v m.then
  made = (m.marks.done m.plain).1

  abbrev step : Step
  step = record {
    kind = mark_step;
    place = place;
    word = m.found;
    seen = length (log_of m.then.order);
    owned = length (marked f.word (bit_or m.found 1) v.known).owned;
  }

  stands : HasOwn u.order → StandsThen v → StandsThen u
  stands own s = (calm_quiet z g.call m.then u m.reads).stands own (m.marks.stands m.plain)

  stepped : Stepped v u
  stepped = stepped_both v m.then u (stepped_one v m.then made refl) (calm_quiet z g.call m.then u m.reads).stepped

  struck : Struck g.call (Took taken.value) v u
  struck = subst (λ (n : ℕ). Struck g.call (Took n) v u) (sym m.value)
      (struck_later g.call (Took (value_of (slot v.known f.word).value)) v m.then u (stepped_one v m.then made refl).number
      (calm_quiet z g.call m.then u m.reads).stepped.order
      (struck_at g.call (Took (value_of (slot v.known f.word).value)) (change_at g.call m.then) v m.then refl refl made)
      (calm_quiet z g.call m.then u m.reads).unplaced)

  one_made : steps_made v m.then ≡ step ∷ []
  unfolding stepped_one
  one_made = stepped_steps v m.then (stepped_one v m.then made refl)

  some_made : 0 < length (steps_made v u)
  some_made = let e = ap (λ (l : List Step). length l) (stretch_both v m.then u (stepped_one v m.then made refl)
      (calm_quiet z g.call m.then u m.reads).stepped) ∙ length-append (steps_made v m.then) (steps_made m.then u) in
      let one = ap (λ (l : List Step). length l) one_made in omega arith

  start : v.known.own.start ≡ u.known.own.start
  start = sym (ap (λ (q : ListPass). q.own.start) m.known)

  -- it has its pair
  has_taken : (from : ListView) → Tries z g.call g.lost from v → g.lost < g.races → is_look g.call ≡ false
      → HasTaken z g.call g.races g.lost (slot v.known f.word).named taken.value from u
  has_taken from k below changing = let counts = mark_counts (map_sizes z) g.call k.memory g.lost step refl m.plain in
      let first : Ran list_reader (map_sizes z) g.call (losing k.memory g.lost) (effected (name_of step ∷ k.memory) g.lost g.lost []) v
      m.then =
      ran_one list_reader (map_sizes z) g.call (losing k.memory g.lost) (effected (name_of step ∷ k.memory) g.lost g.lost []) v m.then made
      refl
      counts.1 (λ own s. m.marks.stands m.plain) in
      let second = (calm_quiet z g.call m.then u m.reads).effected_so (name_of step ∷ k.memory) g.lost g.lost [] in
      let both = ran_both list_reader (map_sizes z) g.call (losing k.memory g.lost) (effected (name_of step ∷ k.memory) g.lost g.lost [])
      (effected second.0 g.lost g.lost (steps_made m.then u)) v m.then u first second.1 in record {
        memory = second.0;
        early = g.lost;
        later = steps_made m.then u;
        since = subst (λ (s : ℕ). Since list_reader (map_sizes z) g.call s (effected second.0 g.lost g.lost (steps_made m.then u)) from u)
            start
            (since_on list_reader (map_sizes z) g.call v.known.own.start (losing k.memory g.lost)
            (effected second.0 g.lost g.lost (steps_made m.then u)) from v u k.since both);
        few = below;
        struck = struck_on g.call (Took taken.value) from v u k.since.went.number k.since.went.order k.unplaced struck;
        taken = ap (λ (l : List Step). number_at (map_sizes z) (effect_place (map name_of l))) (parts from k)
            ∙ (ap (number_at (map_sizes z)) (effect_behind g.call (map_sizes z) [] k.memory 0 g.lost (steps_made from v)
            (steps_made m.then u)
            step k.since.read counts.0) ∙ number_there z (slot v.known f.word).named number.0);
        changing = changing;
      }
    where
      parts : (from : ListView) → (k : Tries z g.call g.lost from v) → steps_made from u ≡ steps_made from v ++ step ∷ steps_made m.then u
      parts from k = steps_both from v u k.since.went stepped ∙ ap (λ (l : List Step). steps_made from v ++ l)
          (stretch_both v m.then u (stepped_one v m.then made refl) (calm_quiet z g.call m.then u m.reads).stepped
          ∙ ap (λ (l : List Step). l ++ steps_made m.then u) one_made)

  pub marked_on : ((from : ListView) (free : List ℕ) → IsUnder z share g v p from free → IsAtRest u.known p)
      → (from : ListView) (free : List ℕ) → IsUnder z share g v p from free
      → ListTurned z share g (record g { struck = true; next = Unlinks cut }) v u p p On
  marked_on rest from0 free0 x0 = record {
    stepped = stepped;
    some_made = some_made;
    stands = stands;
    same = record { head = refl; call = refl; races = refl };
    stays = λ was. refl;
    strikes = λ was now. (Took taken.value, struck);
    struck = tt;
    went = let kind : kind_of g.next ≡ 2 = ap kind_of at in next_kind refl (omega (arith, kind));
    goes_on = λ from free x. let k = at_mark z share g f v p at from free x in record {
      low = x.low;
      home = x.home;
      below = x.below;
      struck = refl;
      rest = rest from free x;
      carries = carries_changed share g.call g.fresh from v u free p p (ap (λ (q : ListPass). q.sizes) m.known)
          (ap (λ (q : ListPass). q.owned) m.known) (same_free p) (mark_changes z share g f v p at from free x) x.carries;
      stands = (
        (slot v.known f.word).named,
        (
          has_taken from k.0 x.below (mark_changes z share g f v p at from free x),
          record {
            detaches = may_detach_marked z v.known g.call g.call f taken v u refl k.1.0 (real_end z v.known (key_of g.call) f k.1.0.end
                k.1.1.0) m;
            member = subst (λ (q : ListPass). IsIn (slot v.known f.word).named (numbers q.own.chain)) (sym m.known)
                (member_last (nat_lt v.known.own.first 5) v.known.own.chain
                (record { number = (slot v.known f.word).named; link = bit_or m.found 1 }));
            word = k.1.1.2;
          },
        ),
      );
    };
    answered = tt;
  }
