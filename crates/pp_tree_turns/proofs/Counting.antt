-- What the turns after a seek count.
use Rattle.std.proofs.Common.{◌≡◌, ◌≢◌, ℕ, ◌+◌, ◌*◌, ◌<◌, Bool, true, false, cond, List, [], ◌∷◌, ◌++◌, map}
use Rattle.std.proofs.Common.{refl, sym, ap, ◌∙◌}
use Rattle.std.proofs.Common.{subst, ⊎_elim, arith, lt-ltb, append_assoc}
use Rattle.std.specs.Prelude.{◌||◌, nat_eq, nat_lt, nat_le, not}
use Rattle.std.proofs.Math.Bool.{false≢true}
use Rattle.pp_link.specs.declared.layout.Sizes.{Sizes}
use Rattle.pp_link.specs.Links.{word_of, target, invalid_bit}
use Rattle.pp_link.specs.Places.{cell_place}
use Rattle.pp_model.specs.declared.Call.{Call}
use Rattle.pp_model.specs.declared.steps.Step.{Step}
use Rattle.pp_model.specs.Pass.{MapSizes}
use Rattle.pp_rule.specs.Lists.{IsIn}
use Rattle.pp_rule.specs.Orders.{write_step, read_step}
use Rattle.pp_rule.proofs.Put.{in_first, in_later, in_either}
use Rattle.pp_base.specs.Named.{NamedStep, name_of, guards, unguards, detaches, misses, clears}
use Rattle.pp_shelf.specs.Runs.{map_sizes, steps_made}
use Rattle.pp_seek.specs.declared.seek.Sought.{Sought}
use Rattle.pp_seek.specs.Trails.{reads}
use Rattle.pp_trees.specs.Edges.{TreeView, publish_step, flag_step}
use Rattle.pp_turns.specs.Tallies.{losing, effected, memory_of, counting, tally}
use Rattle.pp_turns.specs.Turns.{Ran}
use Rattle.pp_turns.proofs.Tallies.{tally_append, tally_later}
use Rattle.pp_tree_turns.specs.Walked.{Walked, after_key, tree_next, tree_loses, tree_strikes, tree_reader, walked, one_if}
use Rattle.pp_tree_turns.specs.Walked.{lost_by, TreeTally}
use Rattle.pp_tree_turns.specs.Causes.{flagged_leaf, ReadsValueOf, EndedElsewhere}
use Rattle.pp_tree_turns.specs.Turning.{Names, Walks}
use Rattle.pp_tree_turns.specs.Exchanging.{MissesEdge, flags, FlagsLeaf, tags, TagsEdge, AreAside, MissesPath, TakesPath}
use Rattle.pp_tree_turns.specs.Filling.{AreBefore, Publishes, NotPublished}
use Rattle.pp_tree_turns.proofs.Reading.{AreQuiet, tally_named, IsIdleKind, idle, idle_loses, idle_next, idle_strikes, aside_next}
use Rattle.pp_tree_turns.proofs.Reading.{aside_loses, aside_strikes}
use Rattle.pp_tree_turns.proofs.Seeks.{names_ran}
use Rattle.pp_tree_turns.proofs.Ends.{quiet_nil, quiet_more}

module _ (z : Sizes) (call : Call) where
  abbrev ms : MapSizes
  ms = map_sizes z

  -- steps that count nothing
  pub record CountsNone (m : Walked) (names : List NamedStep) : Type 0 where
    pub walk : walked ms call m names ≡ m
    pub lost : lost_by ms call m names ≡ 0
    pub quiet : AreQuiet names

  none_counted : (m : Walked) → CountsNone m []
  unfolding walked lost_by
  none_counted m = record { walk = refl; lost = refl; quiet = quiet_nil }

  more_counted : (m : Walked) (s : NamedStep) (names : List NamedStep) → tree_next ms call m s ≡ m → tree_loses ms m s ≡ false
      → tree_strikes s ≡ false → CountsNone m names → CountsNone m (s ∷ names)
  unfolding walked lost_by
  more_counted m s names next loses strikes c = record {
    walk = ap (λ (x : Walked). walked ms call x names) next ∙ c.walk;
    lost = ap (λ (b : Bool). one_if b + lost_by ms call (tree_next ms call m s) names) loses
        ∙ (ap (λ (x : Walked). 0 + lost_by ms call x names) next ∙ ap (λ (n : ℕ). 0 + n) c.lost);
    quiet = quiet_more s names strikes c.quiet;
  }

  idle_counted : (m : Walked) (s : NamedStep) (names : List NamedStep) → IsIdleKind s.kind → CountsNone m names
      → CountsNone m (s ∷ names)
  idle_counted m s names i c = more_counted m s names (idle_next ms call m s i) (idle_loses ms m s i) (idle_strikes s i) c

  pub aside_counted : (m : Walked) (names : List NamedStep) → AreAside z names → CountsNone m names
  aside_counted m [] a = none_counted m
  aside_counted m (s ∷ names) a = let here = a.each s (in_first s names) in
      more_counted m s names (aside_next z call m s here) (aside_loses z m s here) (aside_strikes z s here)
      (aside_counted m names record { each = λ x i. a.each x (in_later x s names i) })

  -- a load of a key or a value, where no key of an internal record is awaited
  read_next : (m : Walked) (place word : ℕ) → m.coming ≡ false → tree_next ms call m (reads place word) ≡ m
  read_next m place word calm = ap (λ (b : Bool). cond b (after_key call m (reads place word)) m) calm

  read_loses : (m : Walked) (place word : ℕ) → m.coming ≡ false → tree_loses ms m (reads place word) ≡ false
  read_loses m place word calm = ap (λ (b : Bool). cond b (nat_lt word m.low || nat_le m.high word) false) calm

  before_counted : (m : Walked) (names : List NamedStep) → m.coming ≡ false → AreBefore names → CountsNone m names
  before_counted m [] calm a = none_counted m
  before_counted m (s ∷ names) calm a = let rest = before_counted m names calm (λ x i. a x (in_later x s names i)) in
      ⊎_elim (λ (e : s.kind ≡ write_step). idle_counted m s names (subst IsIdleKind (sym e) (idle 1 refl)) rest)
      (λ (e : s.kind ≡ read_step). more_counted m s names
      (ap (λ (k : ℕ). tree_next ms call m (record { kind = k; place = s.place; word = s.word })) e ∙ read_next m s.place s.word calm)
      (ap (λ (k : ℕ). tree_loses ms m (record { kind = k; place = s.place; word = s.word })) e ∙ read_loses m s.place s.word calm)
      (ap (λ (k : ℕ). nat_eq k 20 || nat_eq k 21) e) rest)
      (a s (in_first s names))

  walked_split : (m : Walked) (xs ys : List NamedStep) → walked ms call m (xs ++ ys) ≡ walked ms call (walked ms call m xs) ys
  unfolding walked
  walked_split m [] ys = refl
  walked_split m (x ∷ xs) ys = walked_split (tree_next ms call m x) xs ys

  lost_split : (m : Walked) (xs ys : List NamedStep)
      → lost_by ms call m (xs ++ ys) ≡ lost_by ms call m xs + lost_by ms call (walked ms call m xs) ys
  unfolding walked lost_by
  lost_split m [] ys = omega arith
  lost_split m (x ∷ xs) ys = let ih = lost_split (tree_next ms call m x) xs ys in omega arith

  -- steps after others that count nothing
  pub counted_after : (m m' : Walked) (k : ℕ) (xs ys : List NamedStep) → CountsNone m xs → walked ms call m ys ≡ m'
      → lost_by ms call m ys ≡ k
      → (walked ms call m (xs ++ ys) ≡ m') × (lost_by ms call m (xs ++ ys) ≡ k)
  counted_after m m' k xs ys c walk lost = (
    walked_split m xs ys ∙ (ap (λ (x : Walked). walked ms call x ys) c.walk ∙ walk),
    lost_split m xs ys ∙ (ap (λ (n : ℕ). n + lost_by ms call (walked ms call m xs) ys) c.lost
        ∙ (ap (λ (x : Walked). 0 + lost_by ms call x ys) c.walk ∙ (ap (λ (n : ℕ). 0 + n) lost ∙ zero_add k))),
  )
    where
      zero_add : (n : ℕ) → 0 + n ≡ n
      zero_add n = omega arith

  quiet_both : (xs ys : List NamedStep) → AreQuiet xs → AreQuiet ys → AreQuiet (xs ++ ys)
  quiet_both xs ys a b s i = ⊎_elim (λ (j : IsIn s xs). a s j) (λ (j : IsIn s ys). b s j) (in_either s xs ys i)

  walks_after : (t : TreeTally) (k : ℕ) (xs ys : List NamedStep) (v w : TreeView) → Names (xs ++ ys) v w
      → (memory_of t).coming ≡ false → CountsNone (memory_of t) xs → AreQuiet ys → walked ms call (memory_of t) ys ≡ memory_of t
      → lost_by ms call (memory_of t) ys ≡ k → Walks ms call t k v w
  walks_after t k xs ys v w names calm c quiet walk lost =
      let both = counted_after (memory_of t) (memory_of t) k xs ys c walk lost in record {
        memory = memory_of t;
        ran = names_ran ms call t (xs ++ ys) (memory_of t) k v w names (quiet_both xs ys c.quiet quiet) both.0 both.1;
        calm = calm;
        struck = refl;
      }

  missed_walk : (m : Walked) (place found : ℕ) → walked ms call m (misses place found ∷ []) ≡ m
  unfolding walked
  missed_walk m place found = refl

  missed_lost : (m : Walked) (place found : ℕ) → 17 * z.passes < place → lost_by ms call m (misses place found ∷ []) ≡ 1
  unfolding lost_by
  missed_lost m place found far = ap (λ (b : Bool). one_if b + 0) (lt-ltb (17 * z.passes) place far)

  -- an exchange that found another word
  pub edge_misses : (t : TreeTally) (v w : TreeView) → (memory_of t).coming ≡ false → MissesEdge z v w → Walks ms call t 1 v w
  edge_misses t v w calm e = walks_after t 1 [] (misses e.place e.found ∷ []) v w e.names calm (none_counted (memory_of t))
      (quiet_more (misses e.place e.found) [] refl quiet_nil) (missed_walk (memory_of t) e.place e.found)
      (missed_lost (memory_of t) e.place e.found e.far)

  pub not_published_walks : (t : TreeTally) (v w : TreeView) → (memory_of t).coming ≡ false → NotPublished z v w → Walks ms call t 1 v w
  not_published_walks t v w calm e = walks_after t 1 e.before (misses e.place e.found ∷ []) v w e.names calm
      (before_counted (memory_of t) e.before calm e.aside)
      (quiet_more (misses e.place e.found) [] refl quiet_nil) (missed_walk (memory_of t) e.place e.found)
      (missed_lost (memory_of t) e.place e.found e.far)

  miss_walk : (m : Walked) (guard number place found : ℕ)
      → walked ms call m (guards guard number ∷ misses place found ∷ unguards guard ∷ []) ≡ m
  unfolding walked
  miss_walk m guard number place found = refl

  miss_lost : (m : Walked) (guard number place found : ℕ) → 17 * z.passes < place
      → lost_by ms call m (guards guard number ∷ misses place found ∷ unguards guard ∷ []) ≡ 1
  unfolding lost_by
  miss_lost m guard number place found far = ap (λ (b : Bool). 0 + (one_if b + (0 + 0))) (lt-ltb (17 * z.passes) place far)

  -- a splice that found another word
  pub path_misses : (t : TreeTally) (v w : TreeView) → (memory_of t).coming ≡ false → MissesPath z v w → Walks ms call t 1 v w
  path_misses t v w calm e = let g : NamedStep = guards e.guard e.number in let x : NamedStep = misses e.place e.found in
      let u : NamedStep = unguards e.guard in
      walks_after t 1 e.flush (g ∷ x ∷ u ∷ []) v w e.names calm (aside_counted (memory_of t) e.flush e.aside)
      (quiet_more g (x ∷ u ∷ []) refl (quiet_more x (u ∷ []) refl (quiet_more u [] refl quiet_nil)))
      (miss_walk (memory_of t) e.guard e.number e.place e.found) (miss_lost (memory_of t) e.guard e.number e.place e.found e.far)

  take_walk : (m : Walked) (guard number place word cleared : ℕ)
      → walked ms call m (guards guard number ∷ detaches place word ∷ clears cleared ∷ []) ≡ m
  unfolding walked
  take_walk m guard number place word cleared = refl

  take_lost : (m : Walked) (guard number place word cleared : ℕ) (b : Bool) → m.struck ≡ b
      → lost_by ms call m (guards guard number ∷ detaches place word ∷ clears cleared ∷ []) ≡ one_if (not b)
  unfolding lost_by
  take_lost m guard number place word cleared b is = ap (λ (x : Bool). 0 + (one_if (not x) + (0 + 0))) is ∙ by b
    where
      by : (b : Bool) → 0 + (one_if (not b) + (0 + 0)) ≡ one_if (not b)
      by true = refl
      by false = refl

  -- a splice that took a path out: before the call took effect its turn is lost
  pub path_takes : (t : TreeTally) (b : Bool) (v w : TreeView) → (memory_of t).coming ≡ false → (memory_of t).struck ≡ b
      → TakesPath z v w → Walks ms call t (one_if (not b)) v w
  path_takes t b v w calm struck e = let g : NamedStep = guards e.guard e.number in let x : NamedStep = detaches e.place e.word in
      let u : NamedStep = clears e.cleared in
      walks_after t (one_if (not b)) e.flush (g ∷ x ∷ u ∷ []) v w e.names calm (aside_counted (memory_of t) e.flush e.aside)
      (quiet_more g (x ∷ u ∷ []) refl (quiet_more x (u ∷ []) refl (quiet_more u [] refl quiet_nil)))
      (take_walk (memory_of t) e.guard e.number e.place e.word e.cleared)
      (take_lost (memory_of t) e.guard e.number e.place e.word e.cleared b struck)

  tag_walk : (m : Walked) (place found : ℕ) → walked ms call m (tags place found ∷ []) ≡ m
  unfolding walked
  tag_walk m place found = refl

  tag_lost : (m : Walked) (place found : ℕ) (b : Bool) → nat_eq (invalid_bit found) 1 ≡ b
      → lost_by ms call m (tags place found ∷ []) ≡ one_if b
  unfolding lost_by
  tag_lost m place found b is = ap (λ (x : Bool). one_if x + 0) is ∙ by b
    where
      by : (b : Bool) → one_if b + 0 ≡ one_if b
      by true = refl
      by false = refl

  pub tag_walks : (t : TreeTally) (found : ℕ) (b : Bool) (v w : TreeView) → (memory_of t).coming ≡ false
      → nat_eq (invalid_bit found) 1 ≡ b → TagsEdge found v w → Walks ms call t (one_if b) v w
  tag_walks t found b v w calm is e = walks_after t (one_if b) [] (tags e.place found ∷ []) v w e.names calm
      (none_counted (memory_of t)) (quiet_more (tags e.place found) [] refl quiet_nil) (tag_walk (memory_of t) e.place found)
      (tag_lost (memory_of t) e.place found b is)

-- steps of these names, in two parts with one step between
pub split_named : (pre : List NamedStep) (s : NamedStep) (post : List NamedStep) (steps : List Step)
    → map name_of steps ≡ pre ++ s ∷ post
    → (earlier : List Step) × ((x : Step) × ((later : List Step) × ((steps ≡ earlier ++ x ∷ later) × (map name_of earlier ≡ pre)
    × (name_of x ≡ s) × (map name_of later ≡ post))))
split_named [] s post [] e = absurd cc
split_named [] s post (x ∷ steps) e = ([], (x, (steps, (refl, refl, cc, cc))))
split_named (p ∷ pre) s post [] e = absurd cc
split_named (p ∷ pre) s post (y ∷ steps) e = let rest : map name_of steps ≡ pre ++ s ∷ post = cc in
    let r = split_named pre s post steps rest in let here : name_of y ≡ p = cc in (
      y ∷ r.0,
      (
        r.1.0,
        (
          r.1.1.0,
          (
            ap (λ (l : List Step). y ∷ l) r.1.1.1.0,
            ap (λ (n : NamedStep). n ∷ map name_of r.0) here ∙ ap (λ (l : List NamedStep). p ∷ l) r.1.1.1.1,
            r.1.1.1.2,
            r.1.1.1.3,
          ),
        ),
      ),
    )

-- The call took effect at one of its steps, and lost no turn by them. The steps after that one are `later`.
pub record TakesEffect (z : MapSizes) (call : Call) (m m' : Walked) (n : ℕ) (s : NamedStep) (post : List NamedStep) (v w : TreeView)
    : Type 0 where
  pub earlier : List Step
  pub at : Step
  pub later : List Step
  pub is : steps_made v w ≡ earlier ++ at ∷ later
  pub at_is : name_of at ≡ s
  pub later_are : map name_of later ≡ post
  pub ran : Ran tree_reader z call (losing m n) (effected m' n n later) v w

module _ (z : Sizes) (call : Call) where
  at_effect : (m m' : Walked) (n : ℕ) (x : Step) → tree_strikes (name_of x) ≡ true → tree_loses (map_sizes z) m (name_of x) ≡ false
      → tree_next (map_sizes z) call m (name_of x) ≡ m'
      → counting tree_reader (map_sizes z) call (losing m n) x ≡ effected m' n n []
  at_effect m m' n x strikes loses next = let same : n + 0 ≡ n = omega arith in
      ap (λ (b : Bool). cond b (effected (tree_next (map_sizes z) call m (name_of x))
      (n + cond (tree_loses (map_sizes z) m (name_of x)) 1 0) n [])
      (losing (tree_next (map_sizes z) call m (name_of x)) (n + cond (tree_loses (map_sizes z) m (name_of x)) 1 0))) strikes
      ∙ (ap (λ (b : Bool). effected (tree_next (map_sizes z) call m (name_of x)) (n + cond b 1 0) n []) loses
      ∙ (ap (λ (k : ℕ). effected (tree_next (map_sizes z) call m (name_of x)) k n []) same
      ∙ ap (λ (k : Walked). effected k n n []) next))

  pub strikes_ran : (m m' : Walked) (n : ℕ) (pre : List NamedStep) (s : NamedStep) (post : List NamedStep) (v w : TreeView)
      → Names (pre ++ s ∷ post) v w → CountsNone z call m pre → tree_strikes s ≡ true → tree_loses (map_sizes z) m s ≡ false
      → tree_next (map_sizes z) call m s ≡ m' → CountsNone z call m' post
      → TakesEffect (map_sizes z) call m m' n s post v w
  unfolding tally
  strikes_ran m m' n pre s post v w names before strikes loses next behind =
      let r = split_named pre s post (steps_made v w) names.named in
      let earlier : List Step = r.0 in let x : Step = r.1.0 in let later : List Step = r.1.1.0 in
      let is = r.1.1.1.0 in let first = r.1.1.1.1 in let at = r.1.1.1.2 in let last = r.1.1.1.3 in
      let zero : n + 0 ≡ n = omega arith in
      let up : tally tree_reader (map_sizes z) call (losing m n) earlier ≡ losing m n =
      tally_named (map_sizes z) call (losing m n) earlier (subst AreQuiet (sym first) before.quiet)
      ∙ (ap (λ (l : List NamedStep). losing (walked (map_sizes z) call m l) (n + lost_by (map_sizes z) call m l)) first
      ∙ (ap (λ (y : Walked). losing y (n + lost_by (map_sizes z) call m pre)) before.walk
      ∙ (ap (λ (k : ℕ). losing m (n + k)) before.lost ∙ ap (losing m) zero))) in
      let here : counting tree_reader (map_sizes z) call (losing m n) x ≡ effected m' n n [] =
      at_effect m m' n x (ap tree_strikes at ∙ strikes) (ap (tree_loses (map_sizes z) m) at ∙ loses)
      (ap (tree_next (map_sizes z) call m) at ∙ next) in
      let down : tally tree_reader (map_sizes z) call (effected m' n n []) later ≡ effected m' n n later =
      tally_named (map_sizes z) call (effected m' n n []) later (subst AreQuiet (sym last) behind.quiet)
      ∙ (ap (λ (l : List NamedStep). effected (walked (map_sizes z) call m' l) (n + lost_by (map_sizes z) call m' l) n later) last
      ∙ (ap (λ (y : Walked). effected y (n + lost_by (map_sizes z) call m' post) n later) behind.walk
      ∙ (ap (λ (k : ℕ). effected m' (n + k) n later) behind.lost ∙ ap (λ (k : ℕ). effected m' k n later) zero))) in record {
        earlier = earlier;
        at = x;
        later = later;
        is = is;
        at_is = at;
        later_are = last;
        ran = record {
          stepped = names.stepped;
          read = ap (tally tree_reader (map_sizes z) call (losing m n)) is
              ∙ (tally_append tree_reader (map_sizes z) call (losing m n) earlier (x ∷ later)
              ∙ (ap (λ (t : TreeTally). tally tree_reader (map_sizes z) call t (x ∷ later)) up
              ∙ (ap (λ (t : TreeTally). tally tree_reader (map_sizes z) call t later) here ∙ down)));
          stands = names.stands;
        };
      }

  -- loads of keys and values
  pub two_reads : (m : Walked) (a b : ℕ) (x y : ℕ) → m.coming ≡ false → CountsNone z call m (reads a x ∷ reads b y ∷ [])
  two_reads m a b x y calm = more_counted z call m (reads a x) (reads b y ∷ []) (read_next z call m a x calm)
      (read_loses z call m a x calm) refl
      (more_counted z call m (reads b y) [] (read_next z call m b y calm) (read_loses z call m b y calm) refl (none_counted z call m))

  abbrev pub struck_walk : Walked → Walked
  struck_walk m = record m { struck = true }

  -- a removal takes effect
  pub flag_strikes : (m : Walked) (n : ℕ) (s : Sought) (value : ℕ) (v w : TreeView) → m.coming ≡ false → (f : FlagsLeaf z call s value v w)
      → TakesEffect (map_sizes z) call m (struck_walk m) n (flags f.place (word_of s.edge))
      (reads (cell_place z (target (word_of s.edge)) 1) f.low ∷ reads (cell_place z (target (word_of s.edge)) 4) f.high ∷ []) v w
  flag_strikes m n s value v w calm f = strikes_ran m (struck_walk m) n [] (flags f.place (word_of s.edge))
      (reads (cell_place z (target (word_of s.edge)) 1) f.low ∷ reads (cell_place z (target (word_of s.edge)) 4) f.high ∷ []) v w f.names
      (none_counted z call m) refl refl refl (two_reads (struck_walk m) _ _ f.low f.high calm)

  -- an insert takes effect
  pub publish_strikes : (m : Walked) (n : ℕ) (k value : ℕ) (v w : TreeView) → m.coming ≡ false → (f : Publishes k value v w)
      → TakesEffect (map_sizes z) call m (struck_walk m) n (record { kind = publish_step; place = f.place; word = f.word }) [] v w
  publish_strikes m n k value v w calm f = strikes_ran m (struck_walk m) n f.before
      (record { kind = publish_step; place = f.place; word = f.word })
      [] v w f.names (before_counted z call m f.before calm f.aside) refl refl refl (none_counted z call (struck_walk m))

-- The leaf whose pair was taken, by the steps.
nat_bool : (b : Bool) (k : ℕ) → (nat_eq k publish_step || nat_eq k flag_step ≡ b) → b ≡ false → nat_eq k flag_step ≡ false
nat_bool b k is none = by (nat_eq k publish_step) (nat_eq k flag_step) (is ∙ none)
  where
    by : (x y : Bool) → x || y ≡ false → y ≡ false
    by true y e = absurd (false≢true (sym e))
    by false y e = e

-- no step before the call took effect sets FLAG
pub flagged_losing : (z : MapSizes) (call : Call) (m m' : Walked) (n n' : ℕ) (xs ys : List Step)
    → tally tree_reader z call (losing m n) xs ≡ losing m' n' → flagged_leaf (xs ++ ys) ≡ flagged_leaf ys
unfolding tally flagged_leaf
flagged_losing z call m m' n n' [] ys e = refl
flagged_losing z call m m' n n' (x ∷ xs) ys e = by (tree_strikes (name_of x)) refl e
    (λ f. flagged_losing z call (tree_next z call m (name_of x)) m' (n + cond (tree_loses z m (name_of x)) 1 0) n' xs ys f)
  where
    by : (b : Bool) → tree_strikes (name_of x) ≡ b
        → tally tree_reader z call (cond b (effected (tree_next z call m (name_of x)) (n + cond (tree_loses z m (name_of x)) 1 0) n [])
        (losing (tree_next z call m (name_of x)) (n + cond (tree_loses z m (name_of x)) 1 0))) xs ≡ losing m' n'
        → (tally tree_reader z call (losing (tree_next z call m (name_of x)) (n + cond (tree_loses z m (name_of x)) 1 0)) xs ≡ losing m' n'
        → flagged_leaf (xs ++ ys) ≡ flagged_leaf ys)
        → cond (nat_eq x.kind flag_step) (target x.word) (flagged_leaf (xs ++ ys)) ≡ flagged_leaf ys
    by true is f again = absurd (let g = tally_later tree_reader z call (tree_next z call m (name_of x))
        (n + cond (tree_loses z m (name_of x)) 1 0) n [] xs in cc)
    by false is f again = ap (λ (b : Bool). cond b (target x.word) (flagged_leaf (xs ++ ys)))
        (nat_bool (tree_strikes (name_of x)) x.kind refl is)
        ∙ again f

pub flagged_here : (x : Step) (steps : List Step) → x.kind ≡ flag_step → flagged_leaf (x ∷ steps) ≡ target x.word
unfolding flagged_leaf
flagged_here x steps is = ap (λ (k : ℕ). cond (nat_eq k flag_step) (target x.word) (flagged_leaf steps)) is

-- and it stays so over further steps
pub flagged_on : (xs ys : List Step) (n : ℕ) → flagged_leaf xs ≡ n → n ≢ 0 → flagged_leaf (xs ++ ys) ≡ n
unfolding flagged_leaf
flagged_on [] ys n e some = absurd (some (sym e))
flagged_on (x ∷ xs) ys n e some = by (nat_eq x.kind flag_step) e (λ f. flagged_on xs ys n f some)
  where
    by : (b : Bool) → cond b (target x.word) (flagged_leaf xs) ≡ n → (flagged_leaf xs ≡ n → flagged_leaf (xs ++ ys) ≡ n)
        → cond b (target x.word) (flagged_leaf (xs ++ ys)) ≡ n
    by true f again = f
    by false f again = again f

-- what the first steps after the effect read, they read also before further ones
pub reads_on : (z : MapSizes) (leaf : ℕ) (xs ys : List Step) → ReadsValueOf z leaf xs → ReadsValueOf z leaf (xs ++ ys)
reads_on z leaf xs ys r = record {
  first = r.first;
  rest = r.rest ++ ys;
  is = ap (λ (l : List Step). l ++ ys) r.is;
  kind = r.kind;
  place = r.place;
}

pub elsewhere_on : (z : MapSizes) (call : Call) (xs ys : List Step) → EndedElsewhere z call xs → EndedElsewhere z call (xs ++ ys)
elsewhere_on z call xs ys e = record {
  earlier = e.earlier;
  later = e.later ++ ys;
  ends = e.ends;
  reads = e.reads;
  is = ap (λ (l : List Step). l ++ ys) e.is ∙ append_assoc e.earlier (e.ends ∷ e.reads ∷ e.later) ys;
  ends_kind = e.ends_kind;
  reads_kind = e.reads_kind;
  leaf = e.leaf;
  own = reads_on z e.leaf xs ys e.own;
  elsewhere = e.elsewhere;
}

-- steps that count nothing
pub none_walks : (z : Sizes) (call : Call) (t : TreeTally) (names : List NamedStep) (v w : TreeView) → Names names v w
    → (memory_of t).coming ≡ false → CountsNone z call (memory_of t) names → Walks (map_sizes z) call t 0 v w
none_walks z call t names v w a calm c = record {
  memory = memory_of t;
  ran = names_ran (map_sizes z) call t names (memory_of t) 0 v w a c.quiet c.walk c.lost;
  calm = calm;
  struck = refl;
}
