-- An insert of a pass alone adds its pair: the edge at which its seek ended stands until the exchange, and the new records' links have no
-- FLAG.
use Rattle.std.proofs.Common.{◌≡◌, ◌≢◌, ◌⊎◌, inl, inr, ⊎_elim, ℕ, ◌+◌, ◌*◌, ◌<◌, ◌≤◌, List, [], ◌∷◌, map, get_or, set}
use Rattle.std.proofs.Common.{true, refl, sym, ap, ◌∙◌, subst, arith}
use Rattle.std.proofs.lemmas.Bool.{cases_lt}
use Rattle.pp_link.specs.declared.layout.Sizes.{Sizes}
use Rattle.pp_link.specs.Links.{target, flag_bit, word_of}
use Rattle.pp_link.specs.Places.{IsNumber}
use Rattle.pp_link.specs.Words.{cell_word}
use Rattle.pp_model.specs.declared.steps.Step.{Step}
use Rattle.pp_rule.specs.declared.views.PrivateRecord.{PrivateRecord}
use Rattle.pp_rule.specs.declared.views.WalkSlot.{WalkSlot}
use Rattle.pp_rule.specs.Lists.{IsIn}
use Rattle.pp_rule.specs.Orders.{is_calm, read_step}
use Rattle.pp_rule.specs.Reached.{Reached, SameReached}
use Rattle.pp_rule.specs.Rule.{Base, Reads}
use Rattle.pp_rule.specs.Steps.{MadeQuietStep}
use Rattle.pp_rule.specs.Views.{slot}
use Rattle.pp_rule.proofs.Lone.{step_words, field_either, reached_set, reached_next}
use Rattle.pp_rule.proofs.Made.{known_after}
use Rattle.pp_rule.proofs.Put.{in_nil, in_first, in_later, in_cases}
use Rattle.pp_rule.proofs.Undisturbed.{calm_stays, same_through}
use Rattle.pp_base.specs.declared.source.Place.{Place}
use Rattle.pp_base.specs.Named.{NamedStep, name_of}
use Rattle.pp_base.specs.Sources.{side_number, source_place}
use Rattle.pp_turns.proofs.Stretches.{stepped_steps}
use Rattle.pp_edges.specs.Edging.{Missed, Adds, PublishedBy}
use Rattle.pp_edges.specs.declared.edges.Published.{Published}
use Rattle.pp_edges.specs.declared.edges.Published.TheVariants as published
use Rattle.pp_edges.proofs.Splicing.{side_two}
use Rattle.pp_trees.specs.Clean.{IsBare}
use Rattle.pp_trees.specs.Searches.{TreePass, TreeState, Trees, caller_of}
use Rattle.pp_trees.specs.Edges.{TreeView}
use Rattle.pp_trees.specs.Lone.{tree_opens, words_of, Sees}
use Rattle.pp_trees.proofs.Walking.{each_side}
use Rattle.pp_seek.specs.declared.seek.Sought.{Sought}
use Rattle.pp_seek.specs.Lone.{LoneSought}
use Rattle.pp_seek.proofs.Lone.{run_of, cell_is, state_at, held_at}
use Rattle.pp_seek.proofs.LoneCalm.{TreeRun, run_back, calm_step, finds_there}
use Rattle.pp_seek.proofs.LoneStays.{sought_stays}
use Rattle.pp_tree_turns.specs.Filling.{Has, Wrote, Filled, FilledOver, PublishesNext}
use Rattle.pp_tree_turns.specs.Turning.{Names}

-- a step is named among the names
in_names : (x : Step) (xs : List Step) → IsIn x xs → IsIn (name_of x) (map name_of xs)
in_names x [] i = absurd (in_nil x i)
in_names x (y ∷ ys) i = ⊎_elim
    (λ (e : x ≡ y). subst (λ (s : Step). IsIn (name_of x) (name_of s ∷ map name_of ys)) e (in_first (name_of x) (map name_of ys)))
    (λ (later : IsIn x ys). in_later (name_of x) (name_of y) (map name_of ys) (in_names x ys later)) (in_cases x y ys i)

-- steps by their names, each of which is calm
pub names_same : (z : Sizes) (names : List NamedStep) (v w : TreeView) → z.passes ≡ 1 → v.known.number < z.passes → Names names v w
    → TreeRun z w.order → ((s : NamedStep) → IsIn s names → is_calm s.kind ≡ true)
    → SameReached 2 z (words_of z v) (words_of z w)
names_same z names v w one low n run calm = calm_stays 2 (omega arith) caller_of (tree_opens z) z v.known.number v w n.stepped.steps
    one low run n.stepped.order n.stepped.made (λ x i. calm (name_of x) (subst (λ (l : List NamedStep). IsIn (name_of x) l)
    (ap (λ (l : List Step). map name_of l) (sym (stepped_steps v w n.stepped)) ∙ n.named) (in_names x n.stepped.steps i)))

-- stores in private records
wrote_same : (z : Sizes) (v w : TreeView) → z.passes ≡ 1 → v.known.number < z.passes → Wrote v w → TreeRun z w.order
    → SameReached 2 z (words_of z v) (words_of z w)
wrote_same z v w one low o run = names_same z o.names v w one low o.did run (λ s i. ap is_calm (o.each s i))

in_owned : (q : TreePass) (n : ℕ) (d : PrivateRecord) → Has q n d → IsIn d q.owned
in_owned q n d h = (h.index, h.at)

-- What is written before the exchange.
module _ (z : Sizes) (s : Sought) (k value m c here place : ℕ) (v v1 v2 v3 : TreeView) (sv : Sees z v) (s3 : Sees z v3)
    (read : MadeQuietStep read_step place here here v.known v v1) (leaf : Filled m k value 0 0 v1 v2)
    (inner : FilledOver c m k here (word_of s.edge) v2 v3) (apart : m ≢ c) (here_is : here ≡ (slot v.known s.word).key)
    (next : PublishesNext v.known s k value) (l : LoneSought z s v) where
  one : z.passes ≡ 1
  one = l.lone.one

  known1 : v1.known ≡ v.known
  known1 = known_after read_step place here here [] [] v.known v v1 read

  low1 : v1.known.number < z.passes
  low1 = subst (λ (q : TreePass). q.number < z.passes) (sym known1) sv.low

  low2 : v2.known.number < z.passes
  low2 = subst (λ (n : ℕ). n < z.passes) (sym leaf.wrote.did.stepped.number) low1

  run2 : TreeRun z v2.order
  run2 = run_back z v2 v3 inner.wrote.did.stepped.order (run_of z v3 s3)

  run1 : TreeRun z v1.order
  run1 = run_back z v1 v2 leaf.wrote.did.stepped.order run2

  same : SameReached 2 z (words_of z v) (words_of z v3)
  same = same_through 2 z (words_of z v) (words_of z v1) (words_of z v3) (omega arith) (calm_step z one v v1 sv.low refl read run1 refl)
      (same_through 2 z (words_of z v1) (words_of z v2) (words_of z v3) (omega arith) (wrote_same z v1 v2 one low1 leaf.wrote run2)
      (wrote_same z v2 v3 one low2 inner.wrote (run_of z v3 s3)))

  slots : (j : ℕ) → slot v3.known j ≡ slot v.known j
  slots j = ap (λ (q : TreePass). slot q j) inner.wrote.same.is ∙ (ap (λ (q : TreePass). slot q j) leaf.wrote.same.is
      ∙ ap (λ (q : TreePass). slot q j) known1)

  own : v3.known.own ≡ v.known.own
  own = ap (λ (q : TreePass). q.own) inner.wrote.same.is ∙ (ap (λ (q : TreePass). q.own) leaf.wrote.same.is
      ∙ ap (λ (q : TreePass). q.own) known1)

  sought3 : LoneSought z s v3
  sought3 = sought_stays z v v3 sv s3 same slots k s own next.sought l

  -- The exchange never finds another word.
  pub publish_finds : (found : ℕ) (w : TreeView) → Sees z w
      → Missed (source_place z v3.known s.parent s.side) (word_of s.edge) found v3 w → ⊥
  publish_finds found w sw o = o.other (finds_there z one v3.known v3 w s3.low o.made (run_of z w sw) refl ∙ sought3.edge.stands)

  -- What can be reached then could be reached, or it is nil or one of the two new records.
  abbrev IsThere : ℕ → Type 0
  IsThere n = Reached 2 z (words_of z v3) n ⊎ ((n ≡ 0) ⊎ ((n ≡ c) ⊎ (n ≡ m)))

  module _ (g : TreeState) (b : Base 2 z (words_of z v3) g) (tr : Trees z (words_of z v3) g) (is : g.of v3.known.number ≡ v3.known) where
    private_reads : (d : PrivateRecord) → IsIn d v3.known.owned → Reads z (words_of z v3) d
    private_reads d i = b.privates.reads v3.known.number d s3.low (subst (λ (q : TreePass). IsIn d q.owned) (sym is) i)

    leaf_link : (r : ℕ) → r < 2 → cell_word (words_of z v3) z m (2 + r) ≡ 0
    leaf_link r low = let has = inner.others m leaf.is apart leaf.has in
        let reads = private_reads leaf.is (in_owned v3.known m leaf.is has) in
        subst (λ (n : ℕ). cell_word (words_of z v3) z n (2 + r) ≡ 0) has.number_is
        (each_side (λ (r : ℕ). cell_word (words_of z v3) z leaf.is.number (2 + r) ≡ 0) (reads.left ∙ leaf.left_is)
        (reads.right ∙ leaf.right_is) r low)

    inner_link : (r : ℕ) → r < 2 → (cell_word (words_of z v3) z c (2 + r) ≡ 16 * m + 8)
        ⊎ (cell_word (words_of z v3) z c (2 + r) ≡ word_of s.edge)
    inner_link r low = let reads = private_reads inner.is (in_owned v3.known c inner.is inner.has) in
        subst (λ (n : ℕ). (cell_word (words_of z v3) z n (2 + r) ≡ 16 * m + 8) ⊎ (cell_word (words_of z v3) z n (2 + r) ≡ word_of s.edge))
        inner.has.number_is (⊎_elim
        (λ (less : k < here). let fields = inner.below less in each_side (λ (r : ℕ). (cell_word (words_of z v3) z inner.is.number (2 + r)
        ≡ 16 * m + 8) ⊎ (cell_word (words_of z v3) z inner.is.number (2 + r) ≡ word_of s.edge)) (inl (reads.left ∙ fields.1))
        (inr (reads.right ∙ fields.2)) r low)
        (λ (most : here ≤ k). let other = next.other in
        let fields = inner.above (strict most) in each_side (λ (r : ℕ). (cell_word (words_of z v3) z inner.is.number (2 + r)
        ≡ 16 * m + 8) ⊎ (cell_word (words_of z v3) z inner.is.number (2 + r) ≡ word_of s.edge)) (inr (reads.left ∙ fields.1))
        (inl (reads.right ∙ fields.2)) r low)
        (cases_lt k here))
      where
        strict : here ≤ k → here < k
        strict most = let ne : here ≢ k = λ e. next.other (sym here_is ∙ e) in omega arith

    -- the leaf that was there can be reached
    old_reached : Reached 2 z (words_of z v3) (target (word_of s.edge))
    old_reached = let at : ℕ = v.known.own.at in let low = next.sought.parent in
        let held : (slot v3.known at).held ≡ true = ap (λ (x : WalkSlot). x.held) (slots at) ∙ next.sought.parent_held in
        let n : ℕ = (slot v3.known at).named in let r : ℕ = side_number s.side in
        let stands : cell_word (words_of z v3) z n (2 + r) ≡ word_of s.edge = sym (cell_is z (words_of z v3) n (2 + r))
        ∙ (ap (λ (p : Place). get_or (words_of z v3) (source_place z v3.known p s.side) 0) (sym next.sought.parent_is)
        ∙ sought3.edge.stands) in
        subst (λ (w : ℕ). Reached 2 z (words_of z v3) (target w)) stands
        (reached_next 2 z (words_of z v3) n r (held_at z v3 s3 g b tr is at low held).number (side_two s.side)
        (sought3.lone.held at low held))

    along : (n r : ℕ) → IsNumber z n → r < 2 → IsThere n → IsThere (target (cell_word (words_of z v3) z n (2 + r)))
    along n r number low (inl was) = inl (reached_next 2 z (words_of z v3) n r number low was)
    along n r number low (inr (inl nil)) = let some = number.0 in absurd (omega arith)
    along n r number low (inr (inr (inl new))) = subst (λ (i : ℕ). IsThere (target (cell_word (words_of z v3) z i (2 + r)))) (sym new)
        (⊎_elim (λ (e : cell_word (words_of z v3) z c (2 + r) ≡ 16 * m + 8). inr (inr (inr (ap target e ∙ sixteen m))))
        (λ (e : cell_word (words_of z v3) z c (2 + r) ≡ word_of s.edge).
        inl (subst (λ (w : ℕ). Reached 2 z (words_of z v3) (target w)) (sym e) old_reached)) (inner_link r low))
      where
        sixteen : (i : ℕ) → target (16 * i + 8) ≡ i
        sixteen i = omega arith
    along n r number low (inr (inr (inr new))) = subst (λ (i : ℕ). IsThere (target (cell_word (words_of z v3) z i (2 + r)))) (sym new)
        (inr (inl (ap target (leaf_link r low))))

    flag_there : (n r : ℕ) → IsNumber z n → r < 2 → IsThere n → flag_bit (cell_word (words_of z v3) z n (2 + r)) ≡ 0
    flag_there n r number low (inl was) = sought3.lone.bare n r number low was
    flag_there n r number low (inr (inl nil)) = let some = number.0 in absurd (omega arith)
    flag_there n r number low (inr (inr (inl new))) = subst (λ (i : ℕ). flag_bit (cell_word (words_of z v3) z i (2 + r)) ≡ 0) (sym new)
        (⊎_elim (λ (e : cell_word (words_of z v3) z c (2 + r) ≡ 16 * m + 8). ap flag_bit e ∙ eight m)
        (λ (e : cell_word (words_of z v3) z c (2 + r) ≡ word_of s.edge). ap flag_bit e ∙ next.plain.0) (inner_link r low))
      where
        eight : (i : ℕ) → flag_bit (16 * i + 8) ≡ 0
        eight i = omega arith
    flag_there n r number low (inr (inr (inr new))) = subst (λ (i : ℕ). flag_bit (cell_word (words_of z v3) z i (2 + r)) ≡ 0) (sym new)
        (ap flag_bit (leaf_link r low))

    bare_now : (to : ℕ) (n r : ℕ) → IsNumber z n → r < 2 → Reached 2 z (set (words_of z v3) to (16 * c)) n
        → flag_bit (cell_word (set (words_of z v3) to (16 * c)) z n (2 + r)) ≡ 0
    bare_now to n r number low reached = ⊎_elim
        (λ (new : cell_word (set (words_of z v3) to (16 * c)) z n (2 + r) ≡ 16 * c). ap flag_bit new ∙ sixteen c)
        (λ (old : cell_word (set (words_of z v3) to (16 * c)) z n (2 + r) ≡ cell_word (words_of z v3) z n (2 + r)).
        ap flag_bit old ∙ flag_there n r number low (reached_set 2 z (words_of z v3) to (16 * c) IsThere (λ i was. inl was)
        (inr (inr (inl (number_back c)))) along n reached))
        (field_either z (words_of z v3) to (16 * c) n (2 + r))
      where
        sixteen : (i : ℕ) → flag_bit (16 * i) ≡ 0
        sixteen i = omega arith

        number_back : (i : ℕ) → target (16 * i) ≡ i
        number_back i = omega arith

  pub published_bare : (w : TreeView) → Sees z w → Adds m c (source_place z v3.known s.parent s.side) (word_of s.edge) v3 w
      → IsBare z (words_of z w)
  published_bare w sw a n r number low reached = let to : ℕ = source_place z v3.known s.parent s.side in
      let now : words_of z w ≡ set (words_of z v3) to (16 * c) =
      step_words 2 caller_of (tree_opens z) z _ v3 w one s3.low (run_of z w sw) a.made in
      state_at z v3 s3 one (flag_bit (cell_word (words_of z w) z n (2 + r))) 0 (λ g b tr is.
      ap (λ (ws : List ℕ). flag_bit (cell_word ws z n (2 + r))) now
      ∙ bare_now g b tr is to n r number low (subst (λ (ws : List ℕ). Reached 2 z ws n) now reached))

  -- each answer of the exchange
  pub publish_alone : (w : TreeView) → Sees z w → (result : Published)
      → PublishedBy m c (source_place z v3.known s.parent s.side) (word_of s.edge) v3 w result
      → (result ≡ published.Done) × IsBare z (words_of z w)
  publish_alone w sw published.Done a = (refl, published_bare w sw a)
  publish_alone w sw (published.Changed leaf inner found) a = absurd (publish_finds (word_of found) w sw a.2)
