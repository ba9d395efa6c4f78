-- What the turns of a seek count.
use Rattle.std.proofs.Common.{◌≡◌, ◌≢◌, ◌⊎◌, ℕ, ◌+◌, ◌<◌, ◌≤◌, Bool, true, false, cond, List, [], ◌∷◌, ◌++◌, map, refl, sym, ap, ◌∙◌}
use Rattle.std.proofs.Common.{subst, ⊎_elim, inl, inr, arith, ne_eqb, eq-eqb, lt-ltb, Option, Some, None}
use Rattle.std.proofs.lemmas.Bool.{le-ltb, lt-leb, le-leb}
use Rattle.std.proofs.lemmas.List.{map-append}
use Rattle.std.specs.Prelude.{◌||◌, nat_eq, nat_lt, nat_le, not}
use Rattle.pp_link.specs.declared.layout.Sizes.{Sizes}
use Rattle.pp_link.specs.Links.{invalid_bit}
use Rattle.pp_link.specs.Places.{head_place}
use Rattle.pp_model.specs.declared.Call.{Call}
use Rattle.pp_model.specs.declared.Change.{Change}
use Rattle.pp_model.specs.declared.Placed.{Placed}
use Rattle.pp_model.specs.Calls.{key_of}
use Rattle.pp_model.specs.Pass.{MapSizes}
use Rattle.pp_rule.specs.Lists.{IsIn}
use Rattle.pp_rule.specs.Orders.{confirm_step, clear_step}
use Rattle.pp_rule.specs.declared.views.LoggedStep.{LoggedStep}
use Rattle.pp_rule.specs.Steps.{MadeStep}
use Rattle.pp_rule.proofs.Put.{in_first, in_later, in_left}
use Rattle.pp_base.specs.Named.{NamedStep, name_of, loads, announces, confirms}
use Rattle.pp_calls.specs.Steps.{Stepped, HasOwn, StandsThen}
use Rattle.pp_calls.proofs.Growing.{stepped_made, stepped_one, stepped_both}
use Rattle.pp_calls.proofs.Remaining.{stands_made}
use Rattle.pp_shelf.specs.Runs.{map_sizes, steps_made}
use Rattle.pp_seek.specs.declared.seek.Spot.{Spot}
use Rattle.pp_seek.specs.Trails.{IsSilent, Trail, IsFront, reads}
use Rattle.pp_seek.proofs.Trailing.{front_exact}
use Rattle.pp_seek.specs.Seeking.{Enters, ComesDown, FoundInvalid, FoundOther, FoundOutside, Loses, IsSecond}
use Rattle.pp_trees.specs.Searches.{TreePass}
use Rattle.pp_trees.specs.Trees.{inf0}
use Rattle.pp_trees.specs.Edges.{TreeView, end_step}
use Rattle.pp_turns.specs.Tallies.{memory_of}
use Rattle.pp_turns.specs.Turns.{Ran}
use Rattle.pp_turns.proofs.Stretches.{steps_named, stepped_steps, stretch_both}
use Rattle.pp_tree_turns.specs.Walked.{Walked, unbounded, tree_next, tree_loses, tree_strikes, tree_reader, walked}
use Rattle.pp_tree_turns.specs.Walked.{one_if, lost_by}
use Rattle.pp_tree_turns.specs.Walked.{TreeTally, moved}
use Rattle.pp_tree_turns.specs.Turning.{Minds, Names, Walks}
use Rattle.pp_tree_turns.proofs.Reading.{IsIdleKind, AreQuiet, tally_named, idle, idle_loses, idle_next}

silent_quiet : (s : NamedStep) → IsSilent s.kind → tree_strikes s ≡ false
silent_quiet s e = ⊎_elim
    (λ (low : (4 ≤ s.kind) × (s.kind < 9)). let most = low.1 in by (λ i. omega arith) (λ i. omega arith))
    (λ (is : s.kind ≡ end_step). by (λ i. omega arith) (λ i. omega arith)) e
  where
    by : s.kind ≢ 20 → s.kind ≢ 21 → tree_strikes s ≡ false
    by a b = ap (λ (x : Bool). x || nat_eq s.kind 21) (ne_eqb s.kind 20 a) ∙ ne_eqb s.kind 21 b

pub trail_quiet : (v w : TreeView) (a : Trail v w) → AreQuiet a.steps
trail_quiet v w a s i = silent_quiet s (a.silent s i)

-- A stretch of such steps.
pub trail_names : (v w : TreeView) (a : Trail v w) → Names a.steps v w
trail_names v w a = record {
  stepped = stepped_made a.steps v w a.did;
  named = steps_named a.steps v w a.did;
  stands = λ own stands. stands_made a.steps v w a.did own stands;
}

-- one step, whatever took effect or was placed at it
pub step_names : {kind place word left : ℕ} {changes : List Change} {placed : List Placed} {known : TreePass} (v w : TreeView)
    → MadeStep kind place word left changes placed known v w → known.number ≡ v.known.number
    → (HasOwn w.order → StandsThen v → StandsThen w) → Names (record { kind = kind; place = place; word = word } ∷ []) v w
unfolding stepped_one
step_names v w made number stands = record {
  stepped = stepped_one v w made number;
  named = ap (map name_of) (stepped_steps v w (stepped_one v w made number));
  stands = stands;
}

own_before : (v w : TreeView) → Stepped v w → HasOwn w.order → HasOwn v.order
own_before v w s own x i = own x (subst (λ (o : List (LoggedStep Change Placed)). IsIn x o) (sym s.order.1)
    (in_left x v.order s.order.0 i))

pub names_both : (xs ys : List NamedStep) (u v w : TreeView) → Names xs u v → Names ys v w → Names (xs ++ ys) u w
names_both xs ys u v w a b = record {
  stepped = stepped_both u v w a.stepped b.stepped;
  named = ap (map name_of) (stretch_both u v w a.stepped b.stepped)
      ∙ (map-append name_of (steps_made u v) (steps_made v w)
      ∙ (ap (λ (l : List NamedStep). l ++ map name_of (steps_made v w)) a.named ∙ ap (λ (l : List NamedStep). xs ++ l) b.named));
  stands = λ own stands. b.stands own (a.stands (own_before v w b.stepped own) stands);
}

pub names_as : (xs ys : List NamedStep) (v w : TreeView) → xs ≡ ys → Names xs v w → Names ys v w
names_as xs ys v w is a = record { stepped = a.stepped; named = a.named ∙ is; stands = a.stands }

-- What steps of these names count, at which the call doesn't take effect.
pub names_ran : (z : MapSizes) (call : Call) (t : TreeTally) (names : List NamedStep) (m' : Walked) (k : ℕ) (v w : TreeView)
    → Names names v w → AreQuiet names → walked z call (memory_of t) names ≡ m' → lost_by z call (memory_of t) names ≡ k
    → Ran tree_reader z call t (moved t m' k (steps_made v w)) v w
names_ran z call t names m' k v w a quiet walk lost = record {
  stepped = a.stepped;
  read = tally_named z call t (steps_made v w) (subst AreQuiet (sym a.named) quiet)
      ∙ (ap (λ (l : List NamedStep). moved t (walked z call (memory_of t) l) (lost_by z call (memory_of t) l) (steps_made v w)) a.named
      ∙ (ap (λ (x : Walked). moved t x (lost_by z call (memory_of t) names) (steps_made v w)) walk
      ∙ ap (λ (n : ℕ). moved t m' n (steps_made v w)) lost));
  stands = a.stands;
}

-- clears count nothing
module _ (z : MapSizes) (call : Call) where
  cleared_walked : (m : Walked) (clears : List NamedStep) → ((s : NamedStep) → IsIn s clears → s.kind ≡ clear_step)
      → walked z call m clears ≡ m
  unfolding walked
  cleared_walked m [] each = refl
  cleared_walked m (s ∷ clears) each = ap (λ (x : Walked). walked z call x clears) (idle_next z call m s
      (subst (λ (k : ℕ). IsIdleKind k) (sym (each s (in_first s clears))) (idle 7 refl)))
      ∙ cleared_walked m clears (λ x i. each x (in_later x s clears i))

  cleared_lost : (m : Walked) (clears : List NamedStep) → ((s : NamedStep) → IsIn s clears → s.kind ≡ clear_step)
      → lost_by z call m clears ≡ 0
  unfolding lost_by
  cleared_lost m [] each = refl
  cleared_lost m (s ∷ clears) each = let i = subst (λ (k : ℕ). IsIdleKind k) (sym (each s (in_first s clears))) (idle 7 refl) in
      let here : one_if (tree_loses z m s) ≡ 0 = ap one_if (idle_loses z m s i) in
      let rest = cleared_lost m clears (λ x i. each x (in_later x s clears i)) in
      let same : lost_by z call (tree_next z call m s) clears ≡ lost_by z call m clears =
      ap (λ (x : Walked). lost_by z call x clears) (idle_next z call m s i) in omega arith

  front_walked : (m : Walked) (front clears : List NamedStep) → ((s : NamedStep) → IsIn s clears → s.kind ≡ clear_step)
      → walked z call m (front ++ clears) ≡ walked z call m front
  unfolding walked
  front_walked m [] clears each = cleared_walked m clears each
  front_walked m (s ∷ front) clears each = front_walked (tree_next z call m s) front clears each

  front_lost : (m : Walked) (front clears : List NamedStep) → ((s : NamedStep) → IsIn s clears → s.kind ≡ clear_step)
      → lost_by z call m (front ++ clears) ≡ lost_by z call m front
  unfolding lost_by
  front_lost m [] clears each = cleared_lost m clears each
  front_lost m (s ∷ front) clears each = ap (λ (n : ℕ). one_if (tree_loses z m s) + n) (front_lost (tree_next z call m s) front clears each)

  -- A stretch that begins with steps of these names, and then clears words.
  pub front_ran : (t : TreeTally) (front : List NamedStep) (m' : Walked) (k : ℕ) (v w : TreeView) (a : Trail v w)
      → IsFront front a.steps → walked z call (memory_of t) front ≡ m' → lost_by z call (memory_of t) front ≡ k
      → Ran tree_reader z call t (moved t m' k (steps_made v w)) v w
  front_ran t front m' k v w a f walk lost = names_ran z call t (front ++ f.clears) m' k v w
      (names_as a.steps (front ++ f.clears) v w f.is (trail_names v w a)) (subst AreQuiet f.is (trail_quiet v w a))
      (front_walked (memory_of t) front f.clears f.each ∙ walk) (front_lost (memory_of t) front f.clears f.each ∙ lost)

-- a first load of an edge
module _ (z : Sizes) (call : Call) (m : Walked) (place w : ℕ) (far : head_place z 0 < place) where
  abbrev pub loaded : Walked
  loaded = record m { word = w; coming = false }

  pub load_far : tree_next (map_sizes z) call m (loads place w) ≡ loaded
  load_far = ap (λ (b : Bool). by b) (ne_eqb place (head_place z 0) (λ e. omega arith))
    where
      by : Bool → Walked
      by b = record { word = w; coming = false; low = cond b 0 m.low; high = cond b unbounded m.high; struck = m.struck }

  pub load_lost : (rest : List NamedStep) (k : ℕ) → invalid_bit w ≡ 0 → lost_by (map_sizes z) call loaded rest ≡ k
      → lost_by (map_sizes z) call m (loads place w ∷ rest) ≡ k
  unfolding lost_by
  load_lost rest k valid later = let here : one_if (nat_eq (invalid_bit w) 1) ≡ 0 =
      ap one_if (ne_eqb (invalid_bit w) 1 (λ bad. let off = valid in omega arith)) in
      let same : lost_by (map_sizes z) call (tree_next (map_sizes z) call m (loads place w)) rest ≡ k =
      ap (λ (x : Walked). lost_by (map_sizes z) call x rest) load_far ∙ later in omega arith

  pub load_walked : (rest : List NamedStep) (m' : Walked) → walked (map_sizes z) call loaded rest ≡ m'
      → walked (map_sizes z) call m (loads place w ∷ rest) ≡ m'
  unfolding walked
  load_walked rest m' later = ap (λ (x : Walked). walked (map_sizes z) call x rest) load_far ∙ later

  -- it finds INVALID
  invalid_lost : invalid_bit w ≡ 1 → lost_by (map_sizes z) call m (loads place w ∷ []) ≡ 1
  unfolding lost_by
  invalid_lost bad = ap (λ (b : Bool). one_if b + 0) (eq-eqb (invalid_bit w) 1 bad)

  module _ (at number : ℕ) where
    -- the edge is confirmed, and the key of the record is read
    abbrev went : ℕ → Walked
    went key = record m {
      word = w;
      coming = false;
      low = cond (nat_lt (key_of call) key) m.low (key + 1);
      high = cond (nat_lt (key_of call) key) key m.high;
    }

    down_walked : (read key : ℕ) → walked (map_sizes z) call m
        (loads place w ∷ announces at number ∷ confirms place w ∷ reads read key ∷ [])
        ≡ went key
    unfolding walked
    down_walked read key = load_walked (announces at number ∷ confirms place w ∷ reads read key ∷ []) (went key)
        (ap (λ (b : Bool). tree_next (map_sizes z) call (record loaded { coming = b }) (reads read key)) (eq-eqb w w refl))

    rest_lost : (read key : ℕ) (b : Bool) → nat_lt key m.low || nat_le m.high key ≡ b
        → lost_by (map_sizes z) call loaded (announces at number ∷ confirms place w ∷ reads read key ∷ []) ≡ one_if b
    unfolding lost_by
    rest_lost read key b is = ap (λ (c : Bool). 0 + (one_if (not c) + (one_if (cond c (nat_lt key m.low || nat_le m.high key) false) + 0)))
        (eq-eqb w w refl) ∙ (ap (λ (c : Bool). 0 + (0 + (one_if c + 0))) is ∙ by b)
      where
        by : (b : Bool) → 0 + (0 + (one_if b + 0)) ≡ one_if b
        by true = refl
        by false = refl

    down_lost : (read key : ℕ) (b : Bool) → invalid_bit w ≡ 0 → nat_lt key m.low || nat_le m.high key ≡ b
        → lost_by (map_sizes z) call m (loads place w ∷ announces at number ∷ confirms place w ∷ reads read key ∷ []) ≡ one_if b
    down_lost read key b valid is = load_lost (announces at number ∷ confirms place w ∷ reads read key ∷ []) (one_if b) valid
        (rest_lost read key b is)

    -- a second load finds another word
    other_lost : (kind second : ℕ) → IsSecond kind → invalid_bit w ≡ 0 → second ≢ w
        → lost_by (map_sizes z) call m (loads place w ∷ announces at number ∷ record { kind = kind; place = place; word = second } ∷ []) ≡ 1
    unfolding lost_by
    other_lost kind second which valid other = load_lost (announces at number ∷ record { kind = kind; place = place; word = second } ∷ []) 1
        valid (⊎_elim (λ (e : kind ≡ confirm_step). by confirm_step e same) (λ (e : kind ≡ end_step). by end_step e same) which)
      where
        same : 0 + (one_if (not (nat_eq second w)) + 0) ≡ 1
        same = ap (λ (b : Bool). 0 + (one_if (not b) + 0)) (ne_eqb second w other)

        by : (n : ℕ) → kind ≡ n → lost_by (map_sizes z) call loaded
            (announces at number ∷ record { kind = n; place = place; word = second } ∷ []) ≡ 1
            → lost_by (map_sizes z) call loaded (announces at number ∷ record { kind = kind; place = place; word = second } ∷ []) ≡ 1
        by n e h = subst (λ (x : ℕ). lost_by (map_sizes z) call loaded
            (announces at number ∷ record { kind = x; place = place; word = second } ∷ []) ≡ 1)
            (sym e) h

    other_walked : (kind second : ℕ) → IsSecond kind → second ≢ w
        → walked (map_sizes z) call m (loads place w ∷ announces at number ∷ record { kind = kind; place = place; word = second } ∷ [])
        ≡ loaded
    unfolding walked
    other_walked kind second which other = load_walked
        (announces at number ∷ record { kind = kind; place = place; word = second } ∷ []) loaded
        (⊎_elim (λ (e : kind ≡ confirm_step). by confirm_step e (ap (λ (b : Bool). record loaded { coming = b }) (ne_eqb second w other)))
        (λ (e : kind ≡ end_step). by end_step e refl) which)
      where
        by : (n : ℕ) → kind ≡ n → walked (map_sizes z) call loaded
            (announces at number ∷ record { kind = n; place = place; word = second } ∷ []) ≡ loaded
            → walked (map_sizes z) call loaded (announces at number ∷ record { kind = kind; place = place; word = second } ∷ []) ≡ loaded
        by n e h = subst (λ (x : ℕ). walked (map_sizes z) call loaded
            (announces at number ∷ record { kind = x; place = place; word = second } ∷ []) ≡ loaded)
            (sym e) h

-- whether a key lies within the bounds
pub within_bounds : (low high key : ℕ) → low ≤ key → key < high → nat_lt key low || nat_le high key ≡ false
within_bounds low high key a b = ap (λ (x : Bool). x || nat_le high key) (le-ltb key low a) ∙ lt-leb high key b

pub out_of_bounds : (low high key : ℕ) → (key < low) ⊎ (high ≤ key) → nat_lt key low || nat_le high key ≡ true
out_of_bounds low high key e = ⊎_elim (λ (a : key < low). ap (λ (x : Bool). x || nat_le high key) (lt-ltb key low a))
    (λ (b : high ≤ key). by (nat_lt key low) b) e
  where
    by : (x : Bool) → high ≤ key → x || nat_le high key ≡ true
    by true b = refl
    by false b = le-leb high key b

-- What each turn of a seek counts.
module _ (z : Sizes) (call : Call) where
  -- from the head to the root
  pub enters_walks : (fresh : Bool) (s : Spot) (t : TreeTally) (v w : TreeView) → Enters z call fresh s v w → key_of call < inf0
      → (r : Walks (map_sizes z) call t 0 v w) × Minds r.memory (Some s)
  unfolding walked lost_by
  enters_walks fresh s t v w e pair = (
    record {
      memory = after;
      ran = front_ran (map_sizes z) call t names after 0 v w e.trail (front_exact names e.trail.steps e.steps_are) walk lost;
      calm = refl;
      struck = refl;
    },
    (sym e.bounds.0, sym e.bounds.1),
  )
    where
      h : ℕ
      h = head_place z 0

      names : List NamedStep
      names = loads h 16 ∷ announces e.announced 1 ∷ confirms h 16 ∷ reads e.read s.key ∷ []

      m : Walked
      m = memory_of t

      after : Walked
      after = record { word = 16; coming = false; low = 0; high = s.key; struck = m.struck }

      -- at the head, with or without bounds before
      at_head : Bool → Walked
      at_head b = record { word = 16; coming = false; low = cond b 0 m.low; high = cond b unbounded m.high; struck = m.struck }

      at_root : Bool → Walked
      at_root b = record { word = 16; coming = false; low = cond b 0 (s.key + 1); high = cond b s.key unbounded; struck = m.struck }

      less : key_of call < s.key
      less = let root = e.root in omega arith

      walk : walked (map_sizes z) call m names ≡ after
      walk = ap (λ (b : Bool). walked (map_sizes z) call (at_head b) (announces e.announced 1 ∷ confirms h 16 ∷ reads e.read s.key ∷ []))
          (eq-eqb h h refl) ∙ ap at_root (lt-ltb (key_of call) s.key less)

      lost : lost_by (map_sizes z) call m names ≡ 0
      lost = ap (λ (b : Bool). 0 + lost_by (map_sizes z) call (at_head b)
          (announces e.announced 1 ∷ confirms h 16 ∷ reads e.read s.key ∷ []))
          (eq-eqb h h refl)
          ∙ ap (λ (b : Bool). 0 + (0 + (0 + (one_if b + 0))))
          (within_bounds 0 unbounded s.key (omega arith) (let root = e.root in omega arith))

  -- over one edge
  pub further_walks : (s next : Spot) (t : TreeTally) (v w : TreeView) → ComesDown z s next v w → v.known.own.call ≡ call
      → Minds (memory_of t) (Some s) → (r : Walks (map_sizes z) call t 0 v w) × Minds r.memory (Some next)
  further_walks s next t v w c asked minds = let d = c.1 in let m : Walked = memory_of t in
      let b = within_bounds m.low m.high next.key (let lo = c.0.between.0 in let e = minds.0 in omega arith)
      (let hi = c.0.between.1 in let e = minds.1 in omega arith) in (
        record {
          memory = went z call m d.place d.first d.far d.announced d.number next.key;
          ran = front_ran (map_sizes z) call t (loads d.place d.first ∷ announces d.announced d.number ∷ confirms d.place d.first
              ∷ reads d.read next.key ∷ []) (went z call m d.place d.first d.far d.announced d.number next.key) 0 v w c.0.trail d.front
              (down_walked z call m d.place d.first d.far d.announced d.number d.read next.key)
              (down_lost z call m d.place d.first d.far d.announced d.number d.read next.key false d.valid b);
          calm = refl;
          struck = refl;
        },
        (
          ap (λ (n : ℕ). cond (nat_lt (key_of call) next.key) n (next.key + 1)) minds.0
              ∙ (ap (λ (c : Call). cond (nat_lt (key_of c) next.key) s.low (next.key + 1)) (sym asked) ∙ sym c.0.low_is),
          ap (λ (n : ℕ). cond (nat_lt (key_of call) next.key) next.key n) minds.1
              ∙ (ap (λ (c : Call). cond (nat_lt (key_of c) next.key) next.key s.high) (sym asked) ∙ sym c.0.high_is),
        ),
      )

  none_walked : (x : Walked) → walked (map_sizes z) call x [] ≡ x
  unfolding walked
  none_walked x = refl

  -- a turn that was lost
  pub lost_walks : (s : Spot) (to : Option Spot) (t : TreeTally) (v w : TreeView) (l : Loses z s v w)
      → ((to ≡ Some s) × FoundOther z l.trail.steps) ⊎ (to ≡ None) → Minds (memory_of t) (Some s)
      → (r : Walks (map_sizes z) call t 1 v w) × Minds r.memory to
  lost_walks s to t v w l which minds = ⊎_elim
      (λ (y : (to ≡ Some s) × FoundOther z l.trail.steps). by_other y.1 to (subst (λ (o : Option Spot). Minds m o) (sym y.0) minds))
      (λ (e : to ≡ None). subst (λ (o : Option Spot). (r : Walks (map_sizes z) call t 1 v w) × Minds r.memory o) (sym e)
      (⊎_elim (λ (f : FoundInvalid z l.trail.steps). (
        record {
          memory = record m { word = f.word; coming = false };
          ran = front_ran (map_sizes z) call t (loads f.place f.word ∷ [])
              (record m { word = f.word; coming = false }) 1 v w l.trail f.front
              (load_walked z call m f.place f.word f.far [] (record m { word = f.word; coming = false }) (none_walked _))
              (invalid_lost z call m f.place f.word f.far f.bad);
          calm = refl;
          struck = refl;
        },
        tt,
      ))
      (λ y. ⊎_elim (λ (f : FoundOther z l.trail.steps). by_other f None tt)
      (λ (f : FoundOutside z s l.trail.steps). (
        record {
          memory = went z call m f.place f.first f.far f.announced f.number f.key;
          ran = front_ran (map_sizes z) call t (loads f.place f.first ∷ announces f.announced f.number ∷ confirms f.place f.first
              ∷ reads f.read f.key ∷ []) (went z call m f.place f.first f.far f.announced f.number f.key) 1 v w l.trail f.front
              (down_walked z call m f.place f.first f.far f.announced f.number f.read f.key)
              (down_lost z call m f.place f.first f.far f.announced f.number f.read f.key true f.valid
              (out_of_bounds m.low m.high f.key (⊎_elim (λ (a : f.key < s.low). inl (let e = minds.0 in omega arith))
              (λ (b : s.high ≤ f.key). inr (let e = minds.1 in omega arith)) f.outside)));
          calm = refl;
          struck = refl;
        },
        tt,
      )) y) l.cause)) which
    where
      m : Walked
      m = memory_of t

      by_other : FoundOther z l.trail.steps → (o : Option Spot) → Minds m o → (r : Walks (map_sizes z) call t 1 v w) × Minds r.memory o
      by_other f o is = (
        record {
          memory = record m { word = f.first; coming = false };
          ran = front_ran (map_sizes z) call t (loads f.place f.first ∷ announces f.announced f.number
              ∷ record { kind = f.kind; place = f.place; word = f.second } ∷ []) (record m { word = f.first; coming = false }) 1 v w l.trail
              f.front (other_walked z call m f.place f.first f.far f.announced f.number f.kind f.second f.which f.other)
              (other_lost z call m f.place f.first f.far f.announced f.number f.kind f.second f.which f.valid f.other);
          calm = refl;
          struck = refl;
        },
        same o is,
      )
        where
          same : (o : Option Spot) → Minds m o → Minds (record m { word = f.first; coming = false }) o
          same None is = tt
          same (Some x) is = is
