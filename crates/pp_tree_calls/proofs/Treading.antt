-- What the turns of a seek make of a going call.
use Rattle.std.proofs.Common.{◌≡◌, ℕ, zero, suc, ◌+◌, ◌<◌, ◌≤◌, true, false, List, [], ◌∷◌}
use Rattle.std.proofs.Common.{map, length, refl, sym, ap, ◌∙◌, subst, ⊎_elim}
use Rattle.std.proofs.Common.{Option, Some, None, length-append, arith}
use Rattle.std.specs.Prelude.{not}
use Rattle.std.proofs.Math.Bool.{false≢true}
use Rattle.pp_link.specs.declared.layout.Sizes.{Sizes}
use Rattle.pp_model.specs.declared.Call.{Call}
use Rattle.pp_model.specs.declared.Reply.{Reply}
use Rattle.pp_model.specs.declared.Turned.{Turned}
use Rattle.pp_model.specs.declared.steps.Step.{Step}
use Rattle.pp_model.specs.Calls.{key_of}
use Rattle.pp_model.specs.MapCalls.{Answered, WentOn, turn_lost, next_kind}
use Rattle.pp_base.specs.declared.purse.Purse.{Purse}
use Rattle.pp_base.specs.Named.{NamedStep, name_of}
use Rattle.pp_base.specs.Passes.{IsAtRest}
use Rattle.pp_calls.specs.PoolViews.{is_writing, pool_view}
use Rattle.pp_tree_turns.specs.Causes.{tree_meaning}
use Rattle.pp_calls.specs.Steps.{Stepped, HasOwn, StandsThen, WriteNone}
use Rattle.pp_calls.proofs.Growing.{stepped_both}
use Rattle.pp_shelf.specs.Runs.{map_sizes, steps_made}
use Rattle.pp_seek.specs.declared.seek.Spot.{Spot}
use Rattle.pp_seek.specs.Trails.{Trail, SameCall, IsSilent}
use Rattle.pp_seek.specs.Seeking.{Enters}
use Rattle.pp_trees.specs.Trees.{inf0}
use Rattle.pp_trees.specs.Edges.{TreeView, end_step}
use Rattle.pp_turns.specs.Tallies.{losing, memory_of}
use Rattle.pp_turns.specs.Turns.{Waits, Unplaced, Struck}
use Rattle.pp_turns.proofs.Purses.{carries_on}
use Rattle.pp_turns.proofs.Placing.{unplaced_on, unplaced_made}
use Rattle.pp_turns.proofs.Turning.{on_by, done_by}
use Rattle.pp_turns.proofs.Stretches.{since_first, stretch_both, own_before}
use Rattle.pp_tree_turns.specs.Walked.{fresh_walk, tree_reader}
use Rattle.pp_tree_turns.specs.Turning.{Minds, Walks}
use Rattle.pp_tree_turns.proofs.Seeks.{trail_names, enters_walks}
use Rattle.pp_tree_turns.proofs.Ends.{entered_start}
use Rattle.pp_tree_calls.specs.declared.going.TreeGoing.{TreeGoing}
use Rattle.pp_tree_calls.specs.declared.going.Next.{Next}
use Rattle.pp_tree_calls.specs.Purses.{TwoRecords, HasOut}
use Rattle.pp_tree_calls.specs.Going.{kind_of, going_of, Tries, Goes}
use Rattle.pp_tree_calls.specs.Going.{Carries, IsUnder}
use Rattle.pp_tree_calls.specs.Turned.{Advances, Part, TreeTurned}
use Rattle.pp_tree_calls.proofs.Resting.{rest_kept, same_purse}
use Rattle.pp_tree_calls.proofs.Lasting.{silent_none, counts_on, tries_on, out_same}

-- steps with some names are some steps
pub some_named : (n : NamedStep) (names : List NamedStep) (steps : List Step) → map name_of steps ≡ n ∷ names → 0 < length steps
some_named n names [] e = absurd cc
some_named n names (s ∷ steps) e = omega arith

pub some_after : (v u w : TreeView) → Stepped v u → Stepped u w → 0 < length (steps_made v u) → 0 < length (steps_made v w)
some_after v u w a b some = let e = ap (λ (l : List Step). length l) (stretch_both v u w a b) ∙ length-append (steps_made v u)
    (steps_made u w) in omega arith

silent_kind : (k : ℕ) → IsSilent k → is_writing k ≡ false
silent_kind k s = ⊎_elim (λ (lt : (4 ≤ k) × (k < 9)). let least = lt.0 in low k (omega arith) lt.1)
    (λ (e : k ≡ end_step). ap is_writing e) s
  where
    low : (k : ℕ) → 2 ≤ k → k < 9 → is_writing k ≡ false
    low zero a b = absurd (omega arith)
    low (suc zero) a b = absurd (omega arith)
    low (suc (suc zero)) a b = refl
    low (suc (suc (suc zero))) a b = refl
    low (suc (suc (suc (suc zero)))) a b = refl
    low (suc (suc (suc (suc (suc zero))))) a b = refl
    low (suc (suc (suc (suc (suc (suc zero)))))) a b = refl
    low (suc (suc (suc (suc (suc (suc (suc zero))))))) a b = refl
    low (suc (suc (suc (suc (suc (suc (suc (suc zero)))))))) a b = refl
    low (suc (suc (suc (suc (suc (suc (suc (suc (suc k))))))))) a b = absurd (omega arith)

pub trail_none : (v w : TreeView) → Trail v w → WriteNone (steps_made v w)
trail_none v w a = silent_none a.steps v w (trail_names v w a) (λ s i. silent_kind s.kind (a.silent s i))

-- what a call has of its purse over a stretch of loads
pub carries_trail : (share : ℕ) (call : Call) (records : TwoRecords) (from v w : TreeView) (free : List ℕ) (p p' : Purse) → Trail v w
    → p' ≡ p → Carries share call records from v free p → Carries share call records from w free p'
carries_trail share call records from v w free p p' a same k = carries_on HasOut 2 share call records from v w free p p' a.rest.sizes
    (out_same records v.known w.known p p' a.rest.owned same) (ap (λ (x : Purse). x.free.items) same)
    (λ looks. ((trail_names v w a).stepped, trail_none v w a, same_purse v w a.rest)) k

pub trail_unplaced : (v w : TreeView) → Trail v w → Unplaced v w
trail_unplaced v w a = unplaced_made a.steps v w a.did

-- A turn of a call, from its first steps and its last part.
pub turned_by : (z : Sizes) (share : ℕ) (g h g' : TreeGoing) (v u w : TreeView) (p p' : Purse) (result : Turned)
    (Known : TreeView → List ℕ → Type 0) → h.call ≡ g.call → h.races ≡ g.races → h.lost ≡ g.lost → kind_of h.next ≡ kind_of g.next
    → (g.struck ≡ true → h.struck ≡ true)
    → (g.struck ≡ false → h.struck ≡ true → (said : Reply) × Struck g.call said v w)
    → Stepped v u → 0 < length (steps_made v u) → (HasOwn u.order → StandsThen v → StandsThen u)
    → ((from : TreeView) (free : List ℕ) → IsUnder z share g v p from free → Known from free)
    → Part z share Known h g' u w p' result → TreeTurned z share g g' v w p p' result
turned_by z share g h g' v u w p p' result Known call races lost kind stays strikes s some stands knows a = record {
  stepped = stepped_both v u w s a.stepped;
  some_made = some_after v u w s a.stepped some;
  stands = λ own st. a.stands own (stands (own_before u w a.stepped own) st);
  same = record { call = a.same.call ∙ call; races = a.same.races ∙ races; high = a.high };
  stays = λ on. a.same.struck ∙ stays on;
  strikes = λ off on. strikes off (sym a.same.struck ∙ on);
  struck = a.struck;
  went = on_by result (Advances h g') (WentOn (going_of v.known g) (going_of w.known g'))
      (⊎_elim (λ (l : (g'.lost ≡ h.lost + 1) × (g'.lost < g'.races)). turn_lost (l.0 ∙ ap (λ (n : ℕ). n + 1) lost) l.1)
      (λ (k : (g'.lost ≡ h.lost) × (kind_of h.next < kind_of g'.next)). next_kind (k.0 ∙ lost)
      (subst (λ (n : ℕ). n < kind_of g'.next) kind k.1))) a.advances;
  goes_on = on_by result _ ((from : TreeView) (free : List ℕ) → IsUnder z share g v p from free → IsUnder z share g' w p' from free)
      (λ each from free k. each from free (knows from free k)) a.goes_on;
  answered = done_by result _ (λ answer. (from : TreeView) (free : List ℕ) → IsUnder z share g v p from free → StandsThen w
      → Answered tree_meaning (map_sizes z) g.call g.races (pool_view from free share) (pool_view w p'.free.items share) answer g'.lost)
      (λ answer each from free k st. subst (λ (c : Call). Answered tree_meaning (map_sizes z) c g.races (pool_view from free share)
      (pool_view w p'.free.items share) answer g'.lost) call (subst (λ (n : ℕ). Answered tree_meaning (map_sizes z) h.call n
      (pool_view from free share) (pool_view w p'.free.items share) answer g'.lost) races (each from free (knows from free k) st)))
      a.answered;
}

-- where the last part is one of the same call
pub turned_same : (z : Sizes) (share : ℕ) (g g' : TreeGoing) (v u w : TreeView) (p p' : Purse) (result : Turned)
    (Known : TreeView → List ℕ → Type 0) → Stepped v u → 0 < length (steps_made v u) → (HasOwn u.order → StandsThen v → StandsThen u)
    → ((from : TreeView) (free : List ℕ) → IsUnder z share g v p from free → Known from free)
    → Part z share Known g g' u w p' result → TreeTurned z share g g' v w p p' result
turned_same z share g g' v u w p p' result Known s some stands knows a =
    turned_by z share g g g' v u w p p' result Known refl refl refl refl (λ on. on)
    (λ off on. absurd (false≢true (sym off ∙ on))) s some stands knows a

module _ (z : Sizes) (share : ℕ) (g : TreeGoing) (v w : TreeView) (p p' : Purse) (same : p' ≡ p) where
  pub rest_on : Trail v w → IsAtRest v.known p → IsAtRest w.known p'
  rest_on a r = rest_kept v.known w.known p p' a.rest (ap (λ (x : Purse). x.spent) same) r

  pub goes_same : SameCall v.known.own w.known.own → Goes g v.known → Goes g w.known
  goes_same s k = record { call = s.call ∙ k.call; going = s.going ∙ k.going }

  -- the first turn of a call
  abbrev pub first_tries : (call : Call) (n : Spot) (next : Next) (spot : Option Spot) (from : TreeView) → call ≡ g.call
      → Enters z call true n v w
      → key_of g.call < inf0
      → Waits from v × (Unplaced from v × ((g.lost ≡ 0) × ((g.struck ≡ false) × (spot ≡ None))))
      → (t : Tries (map_sizes z) (record g { next = next }) g.lost from w)
      × (Goes (record g { next = next }) w.known × Minds (memory_of t.counts.tally) (Some n))
  first_tries call n next spot from asked e pair b = let x = enters_walks z g.call true n (losing fresh_walk 0) v w
      (subst (λ (c : Call). Enters z c true n v w) asked e) pair in
      let names = trail_names v w e.trail in
      let long : 0 < length (steps_made v w) = some_named _ _ (steps_made v w) (names.named ∙ e.steps_are) in
      let lost : g.lost ≡ 0 = b.1.1.0 in
      let zero : 0 + 0 ≡ g.lost = omega arith in
      let off : g.struck ≡ false = b.1.1.1.0 in (
        record {
          counts = record {
            tally = losing x.0.memory (0 + 0);
            since = since_first tree_reader (map_sizes z) g.call w.known.own.start (losing x.0.memory (0 + 0)) from v w b.0 x.0.ran long
                (entered_start z call n v w e);
            lost_is = zero;
            calm = x.0.calm;
            struck_is = x.0.struck ∙ sym off;
          };
          untaken = λ _. (
            record { memory = x.0.memory; lost = 0 + 0; is = refl },
            unplaced_on from v w b.0.went.number b.1.0 (trail_unplaced v w e.trail),
          );
          taken = λ on. absurd (false≢true (sym off ∙ on));
        },
        (
          record {
            call = e.call_is ∙ asked;
            going = e.same.going ∙ (ap (λ (u : TreeView). u.known.own.going) (e.begins refl).made.is ∙ sym (ap not off));
          },
          x.1,
        ),
      )

  -- a call goes on trying, with another next turn
  abbrev pub next_tries : (next : Next) (from : TreeView) (t : Tries (map_sizes z) g g.lost from v) → Walks
      (map_sizes z) g.call t.counts.tally 0 v w
      → Unplaced v w → w.known.own.start ≡ v.known.own.start → Tries (map_sizes z) (record g { next = next }) g.lost from w
  next_tries next from t a none start = let zero : g.lost ≡ g.lost + 0 = omega arith in
      let on = tries_on (map_sizes z) g g.lost g.lost 0 from v w t a zero none start in record {
        counts = counts_on (map_sizes z) g.call from v w 0 g.lost g.lost g.struck t.counts a zero start;
        untaken = on.untaken;
        taken = on.taken;
      }

pub both_calls : (a b c : TreeView) → SameCall a.known.own b.known.own → SameCall b.known.own c.known.own → SameCall a.known.own c.known.own
both_calls a b c x y = record {
  call = y.call ∙ x.call;
  start = y.start ∙ x.start;
  going = y.going ∙ x.going;
  left = y.left ∙ x.left;
}
