-- What the turn counts and tells at which a seek ends.
use Rattle.std.proofs.Common.{◌≡◌, ℕ, ◌+◌, Bool, true, false, List, [], ◌∷◌, ◌++◌, map}
use Rattle.std.proofs.Common.{refl, sym, ap, ◌∙◌}
use Rattle.std.proofs.Common.{subst, ⊎_elim, inr, arith, eq-eqb, Option, append-nil}
use Rattle.std.specs.Prelude.{not}
use Rattle.pp_link.specs.declared.layout.Sizes.{Sizes}
use Rattle.pp_link.specs.Links.{word_of}
use Rattle.pp_link.specs.Places.{cell_place}
use Rattle.pp_model.specs.declared.Call.{Call}
use Rattle.pp_model.specs.declared.Change.{Change}
use Rattle.pp_model.specs.declared.Placed.{Placed}
use Rattle.pp_model.specs.declared.steps.Step.{Step}
use Rattle.pp_model.specs.Calls.{key_of, reply_at, changes}
use Rattle.pp_model.specs.Pass.{seen_first}
use Rattle.pp_rule.specs.declared.views.Halves.{Halves}
use Rattle.pp_rule.specs.Lists.{IsIn, BeginsWith}
use Rattle.pp_rule.specs.Orders.{log_of}
use Rattle.pp_rule.specs.Steps.{MadeStep, MadeQuietStep}
use Rattle.pp_rule.specs.Views.{slot}
use Rattle.pp_rule.proofs.Put.{in_cases, in_nil}
use Rattle.pp_rule.proofs.Made.{placed_after}
use Rattle.pp_base.specs.Named.{NamedStep, name_of, loads, announces}
use Rattle.pp_base.specs.Sources.{side_number}
use Rattle.pp_calls.proofs.Growing.{stepped_one}
use Rattle.pp_shelf.specs.Runs.{map_sizes, steps_made}
use Rattle.pp_seek.specs.declared.seek.Spot.{Spot}
use Rattle.pp_seek.specs.declared.seek.Sought.{Sought}
use Rattle.pp_seek.specs.Trails.{reads}
use Rattle.pp_seek.specs.Seeking.{Enters, EndsAtLeaf}
use Rattle.pp_seek.proofs.Trailing.{trail_one, rest_by}
use Rattle.pp_trees.specs.Edges.{TreeView, end_step}
use Rattle.pp_trees.specs.declared.own.TreeOwn.{TreeOwn}
use Rattle.pp_trees.specs.Searches.{TreePass}
use Rattle.pp_trees.specs.Seeks.{Ended, ended_pass, found_at}
use Rattle.pp_turns.specs.Tallies.{memory_of}
use Rattle.pp_turns.specs.Turns.{Unplaced, Replied}
use Rattle.pp_turns.proofs.Stretches.{stretch_both, stepped_steps}
use Rattle.pp_rule.proofs.Histories.{log_begins}
use Rattle.pp_model.specs.declared.Pair.{Pair}
use Rattle.pp_model.specs.FiniteMap.{find}
use Rattle.pp_trees.specs.Trees.{IsRight}
use Rattle.pp_calls.proofs.Growing.{begins_long}
use Rattle.pp_turns.proofs.Placing.{after_longer, unplaced_made, unplaced_on, replied_on, replied_later}
use Rattle.pp_tree_turns.specs.Walked.{Walked, tree_strikes, walked, one_if, lost_by, TreeTally}
use Rattle.pp_tree_turns.specs.Turning.{Names, Walks}
use Rattle.pp_tree_turns.proofs.Reading.{AreQuiet}
use Rattle.pp_tree_turns.proofs.Seeks.{trail_names, step_names, names_both, names_as, names_ran, load_walked, load_lost, loaded}

pub quiet_nil : AreQuiet []
quiet_nil s i = absurd (in_nil s i)

pub quiet_more : (s : NamedStep) (names : List NamedStep) → tree_strikes s ≡ false → AreQuiet names → AreQuiet (s ∷ names)
quiet_more s names here later x i = ⊎_elim (λ (e : x ≡ s). ap tree_strikes e ∙ here) (λ (j : IsIn x names). later x j)
    (in_cases x s names i)

by_bool : {X : Type 0} (c : Bool) → (c ≡ false → X) → (c ≡ true → X) → X
by_bool true a b = b refl
by_bool false a b = a refl

-- what is right at a place stays right there
right_on : (k : ℕ) (a : Option ℕ) (start : ℕ) (longer log : List Change) → BeginsWith longer log → IsRight log start k a
    → IsRight longer start k a
right_on k a start longer log b r = let long = begins_long longer log b in let within = r.1.1 in (
  r.0,
  (r.1.0, omega arith, ap (λ (m : List Pair). find m k) (after_longer longer log r.0 b r.1.1) ∙ r.1.2),
)

-- steps that have these four names
pub four_steps : (a b c d : NamedStep) (steps : List Step) → map name_of steps ≡ a ∷ b ∷ c ∷ d ∷ []
    → (w : Step) × ((x : Step) × ((y : Step) × ((u : Step) × ((steps ≡ w ∷ x ∷ y ∷ u ∷ []) × (name_of y ≡ c) × (name_of u ≡ d)))))
four_steps a b c d [] e = absurd cc
four_steps a b c d (w ∷ []) e = absurd cc
four_steps a b c d (w ∷ x ∷ []) e = absurd cc
four_steps a b c d (w ∷ x ∷ y ∷ []) e = absurd cc
four_steps a b c d (w ∷ x ∷ y ∷ u ∷ []) e = (w, (x, (y, (u, (refl, cc, cc)))))
four_steps a b c d (w ∷ x ∷ y ∷ u ∷ r ∷ rest) e = absurd cc

-- what a call had seen at its first step
pub entered_start : (z : Sizes) (call : Call) (s : Spot) (v w : TreeView) → Enters z call true s v w
    → seen_first 0 (steps_made v w) ≡ w.known.own.start
unfolding stepped_one
entered_start z call s v w e = let b = e.begins refl in let one = stepped_one v e.first b.made refl in
    let known = ap (λ (u : TreeView). u.known) b.made.is in
    let on = trail_names e.first w e.onward in
    ap (seen_first 0) (stretch_both v e.first w one on.stepped ∙ ap (λ (l : List Step). l ++ steps_made e.first w)
    (stepped_steps v e.first one))
    ∙ (ap (λ (q : TreePass). q.own.start) (sym known) ∙ sym e.same.start)

-- the loads of the edge to the leaf
pub end_names : (i sd place first key : ℕ) (value : Halves) (v w : TreeView) → Ended i sd place first key value v w
    → Names (record { kind = end_step; place = place; word = first } ∷ []) v w
unfolding trail_one
end_names i sd place first key value v w t = by_bool v.known.own.going
    (λ off. quiet false (t.again off).made)
    (λ on. by_bool (changes (reply_at v.known.own.call (found_at (key_of v.known.own.call) key value first)))
    (λ idle. let s = t.settled on idle in step_names v w s.made refl (λ own stands. s.stands))
    (λ change. quiet true (t.effect on change).made))
  where
    quiet : (going : Bool) → MadeQuietStep end_step place first first (ended_pass i sd first key value going v.known) v w
        → Names (record { kind = end_step; place = place; word = first } ∷ []) v w
    quiet going made = trail_names v w (trail_one (record { kind = end_step; place = place; word = first })
        (ended_pass i sd first key value going v.known) v w (inr refl) (rest_by v.known _ _) made)

module _ (z : Sizes) (call : Call) (k : ℕ) (sought : Sought) (v w : TreeView) (e : EndsAtLeaf z k sought v w) where
  abbrev end_at : ℕ
  end_at = cell_place z (slot w.known w.known.own.at).named (2 + side_number sought.side)

  abbrev key_here : ℕ
  key_here = (slot w.known sought.word).key

  abbrev pub ending : List NamedStep
  ending = loads e.1.place (word_of sought.edge) ∷ announces e.1.announced e.1.number
      ∷ record { kind = end_step; place = end_at; word = word_of sought.edge } ∷ reads e.1.read key_here ∷ []

  pub ends_names : Names ending v w
  ends_names = names_both (loads e.1.place (word_of sought.edge) ∷ announces e.1.announced e.1.number ∷ [])
      (record { kind = end_step; place = end_at; word = word_of sought.edge } ∷ reads e.1.read key_here ∷ []) v e.0.last w
      (names_as e.0.until.steps _ v e.0.last e.1.first_is (trail_names v e.0.last e.0.until))
      (names_both (record { kind = end_step; place = end_at; word = word_of sought.edge } ∷ []) (reads e.1.read key_here ∷ [])
      e.0.last e.0.ended w
      (end_names sought.word (side_number sought.side) end_at (word_of sought.edge) key_here e.0.value e.0.last e.0.ended e.0.ends)
      (names_as e.0.then.steps _ e.0.ended w e.1.then_is (trail_names e.0.ended w e.0.then)))

  quiet_ending : AreQuiet ending
  quiet_ending = let a : NamedStep = loads e.1.place (word_of sought.edge) in
      let b : NamedStep = announces e.1.announced e.1.number in
      let c : NamedStep = record { kind = end_step; place = end_at; word = word_of sought.edge } in
      let d : NamedStep = reads e.1.read key_here in
      quiet_more a (b ∷ c ∷ d ∷ []) refl (quiet_more b (c ∷ d ∷ []) refl (quiet_more c (d ∷ []) refl (quiet_more d [] refl quiet_nil)))

  -- no turn is lost by it
  pub ends_walks : (t : TreeTally) → Walks (map_sizes z) call t 0 v w
  unfolding walked lost_by
  ends_walks t = let m : Walked = memory_of t in let p : ℕ = e.1.place in let edge : ℕ = word_of sought.edge in
      let rest : List NamedStep = announces e.1.announced e.1.number ∷ record { kind = end_step; place = end_at; word = edge }
      ∷ reads e.1.read key_here ∷ [] in record {
        memory = loaded z call m p edge e.1.far;
        ran = names_ran (map_sizes z) call t ending (loaded z call m p edge e.1.far) 0 v w ends_names
            quiet_ending
            (load_walked z call m p edge e.1.far rest (loaded z call m p edge e.1.far) refl)
            (load_lost z call m p edge e.1.far rest 0 e.0.is.edge.0
            (ap (λ (b : Bool). 0 + (one_if (not b) + 0)) (eq-eqb edge edge refl)));
        calm = refl;
        struck = refl;
      }

  -- No call was placed at the loads before the last one, nor after it.
  before_end : Unplaced v e.0.last
  before_end = unplaced_made e.0.until.steps v e.0.last e.0.until.did

  after_end : Unplaced e.0.ended w
  after_end = unplaced_made e.0.then.steps e.0.ended w e.0.then.did

  ended_number : e.0.ended.known.number ≡ e.0.last.known.number
  ended_number = (end_names sought.word (side_number sought.side) end_at (word_of sought.edge) key_here e.0.value e.0.last e.0.ended
      e.0.ends).stepped.number

  last_number : e.0.last.known.number ≡ v.known.number
  last_number = (trail_names v e.0.last e.0.until).stepped.number

  -- what the seek found
  abbrev pub sought_value : Option ℕ
  sought_value = found_at (key_of call) key_here e.0.value (word_of sought.edge)

  module _ (asked : v.known.own.call ≡ call) where
    last_call : e.0.last.known.own.call ≡ call
    last_call = ap (λ (o : TreeOwn). o.call) e.0.own ∙ asked

    -- where the call's reply changes nothing, it was placed
    pub ends_replied : v.known.own.going ≡ true → changes (reply_at call sought_value) ≡ false
        → Replied call (reply_at call sought_value) v.known.own.start v w
    ends_replied on idle = let on' : e.0.last.known.own.going ≡ true = ap (λ (o : TreeOwn). o.going) e.0.own ∙ on in
        let s = e.0.ends.settled on' (subst (λ (c : Call). changes (reply_at c (found_at (key_of c) key_here e.0.value
        (word_of sought.edge))) ≡ false) (sym last_call) idle) in
        let here : Replied call (reply_at call sought_value) v.known.own.start e.0.last e.0.ended =
        subst (λ (c : Call). Replied c (reply_at c (found_at (key_of c) key_here e.0.value (word_of sought.edge)))
        v.known.own.start e.0.last e.0.ended) last_call record {
          unchanged = subst (λ (c : Call). changes (reply_at c (found_at (key_of c) key_here e.0.value (word_of sought.edge))) ≡ false)
              (sym last_call) idle;
          place = s.at;
          placed_so = placed_after _ _ _ _ _ _ _ e.0.last e.0.ended s.made refl;
          since = let lo = s.since in let same = ap (λ (o : TreeOwn). o.start) e.0.own in omega arith;
          within = s.within;
          least = λ q lo hi right. s.least q (let same = ap (λ (o : TreeOwn). o.start) e.0.own in omega arith) hi right;
        } in
        replied_later call (reply_at call sought_value) v.known.own.start v e.0.ended w (ended_number ∙ last_number)
        (trail_names e.0.ended w e.0.then).stepped.order
        (replied_on call (reply_at call sought_value) v.known.own.start v e.0.last e.0.ended last_number before_end here) after_end

    -- where its change is still to come, nothing was placed, and what was found is right at a place since its start
    pub ends_effect : v.known.own.going ≡ true → changes (reply_at call sought_value) ≡ true
        → Unplaced v w × (w.known.own.going ≡ true) × IsRight (log_of w.order) v.known.own.start (key_of call) sought_value
    ends_effect on change = let on' : e.0.last.known.own.going ≡ true = ap (λ (o : TreeOwn). o.going) e.0.own ∙ on in
        let g = e.0.ends.effect on' (subst (λ (c : Call). changes (reply_at c (found_at (key_of c) key_here e.0.value
        (word_of sought.edge))) ≡ true) (sym last_call) change) in
        let none : Unplaced e.0.last e.0.ended = placed_after _ _ _ _ _ _ _ e.0.last e.0.ended g.made refl ∙ append-nil _ in (
          unplaced_on v e.0.last w last_number before_end (unplaced_on e.0.last e.0.ended w ended_number none after_end),
          ap (λ (o : TreeOwn). o.going) e.0.still ∙ ap (λ (u : TreeView). u.known.own.going) g.made.is,
          right_on (key_of call) sought_value v.known.own.start (log_of w.order) (log_of e.0.ended.order)
              (log_begins w.order e.0.ended.order (trail_names e.0.ended w e.0.then).stepped.order)
              (subst (λ (x : ℕ). IsRight (log_of e.0.ended.order) x (key_of call) sought_value) (ap (λ (o : TreeOwn). o.start) e.0.own)
              (subst (λ (c : Call). IsRight (log_of e.0.ended.order) e.0.last.known.own.start (key_of c) (found_at (key_of c) key_here
              e.0.value (word_of sought.edge))) last_call g.right)),
        )

    -- a call that has taken effect goes on
    pub ends_again : v.known.own.going ≡ false → Unplaced v w × (w.known.own.going ≡ false)
    ends_again off = let g = e.0.ends.again (ap (λ (o : TreeOwn). o.going) e.0.own ∙ off) in
        let none : Unplaced e.0.last e.0.ended = placed_after _ _ _ _ _ _ _ e.0.last e.0.ended g.made refl ∙ append-nil _ in (
          unplaced_on v e.0.last w last_number before_end (unplaced_on e.0.last e.0.ended w ended_number none after_end),
          ap (λ (o : TreeOwn). o.going) e.0.still ∙ ap (λ (u : TreeView). u.known.own.going) g.made.is,
        )

  -- it is the same call, with the same start
  pub ends_same : (w.known.own.call ≡ v.known.own.call) × (w.known.own.start ≡ v.known.own.start)
      × (w.known.own.left ≡ v.known.own.left)
  ends_same = let own = e.0.own in by_bool e.0.last.known.own.going
      (λ off. same false (e.0.ends.again off).made)
      (λ on. by_bool (changes (reply_at e.0.last.known.own.call (found_at (key_of e.0.last.known.own.call) key_here e.0.value
      (word_of sought.edge))))
      (λ idle. same false (e.0.ends.settled on idle).made)
      (λ change. same true (e.0.ends.effect on change).made))
    where
      same : {placed : List Placed} (going : Bool) → MadeStep end_step end_at (word_of sought.edge) (word_of sought.edge) [] placed
          (ended_pass sought.word (side_number sought.side) (word_of sought.edge) key_here e.0.value going e.0.last.known)
          e.0.last e.0.ended
          → (w.known.own.call ≡ v.known.own.call) × (w.known.own.start ≡ v.known.own.start) × (w.known.own.left ≡ v.known.own.left)
      same going made = let is = ap (λ (u : TreeView). u.known.own) made.is in (
        ap (λ (o : TreeOwn). o.call) (e.0.still ∙ is) ∙ ap (λ (o : TreeOwn). o.call) e.0.own,
        ap (λ (o : TreeOwn). o.start) (e.0.still ∙ is) ∙ ap (λ (o : TreeOwn). o.start) e.0.own,
        ap (λ (o : TreeOwn). o.left) (e.0.still ∙ is) ∙ ap (λ (o : TreeOwn). o.left) e.0.own,
      )
