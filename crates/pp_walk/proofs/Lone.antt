-- A turn of a pass that is alone on its pool, where no record that can be reached is removed, isn't lost.
use Rattle.std.proofs.Common.{◌≡◌, ◌≢◌, ℕ, ◌<◌, inl, inr, ⊎_elim, true, false, List, [], ◌∷◌, map}
use Rattle.std.proofs.Common.{Bool, get_or, refl, sym, ap, ◌∙◌, subst, arith}
use Rattle.std.proofs.Math.Decide.{ℕ_discrete}
use mathlib.Core.Logic.{dite}
use Rattle.pp_link.specs.declared.layout.Sizes.{Sizes}
use Rattle.pp_link.specs.Links.{target, invalid_bit, flag_bit}
use Rattle.pp_link.specs.Places.{IsNumber, cell_place}
use Rattle.pp_link.specs.Words.{head_word, cell_word}
use Rattle.pp_model.specs.declared.Change.{Change}
use Rattle.pp_model.specs.declared.Placed.{Placed}
use Rattle.pp_model.specs.declared.steps.Step.{Step}
use Rattle.pp_rule.specs.Lists.{IsIn}
use Rattle.pp_rule.specs.Orders.{stores}
use Rattle.pp_rule.specs.Views.{slot}
use Rattle.pp_rule.specs.States.{attached, Held}
use Rattle.pp_rule.specs.Rule.{Base}
use Rattle.pp_rule.specs.Reached.{Reached, SameReached}
use Rattle.pp_rule.specs.Alone.{IsRun}
use Rattle.pp_rule.proofs.Put.{in_nil, in_first, in_later, in_right, in_cases}
use Rattle.pp_rule.proofs.Undisturbed.{by_state, calm_stays, calm_finds, walks_calm, reached_back}
use Rattle.pp_base.specs.declared.source.Place.{Place}
use Rattle.pp_base.specs.declared.source.Place.TheVariants.{Head, Walk as Word}
use Rattle.pp_base.specs.declared.source.Side.TheVariants.{Left}
use Rattle.pp_base.specs.Sources.{source_place}
use Rattle.pp_base.specs.Named.{NamedStep, name_of, loads}
use Rattle.pp_lists.specs.declared.own.ListOwn.{ListOwn}
use Rattle.pp_lists.specs.Lists.{ListPass, ListState, Lists}
use Rattle.pp_lists.specs.Walks.{heap, Source, at_head, at_record, word_at, IsLive}
use Rattle.pp_lists.specs.Turns.{ListView}
use Rattle.pp_lists.proofs.Heaps.{sane_of}
use Rattle.pp_lists.proofs.Closing.{list_reached}
use Rattle.pp_walk.specs.declared.walk.Walk.{Walk}
use Rattle.pp_walk.specs.Trod.{Why}
use Rattle.pp_walk.specs.Turns.{Turned}
use Rattle.std.specs.Prelude.{bit_or}
use Rattle.atomic_table.specs.declared.shared.Seat.{Seat}
use Rattle.pp_model.specs.Calls.{key_of}
use Rattle.pp_rule.specs.Orders.{missed_step}
use Rattle.pp_rule.specs.Steps.{MadeStep, MadeQuietStep}
use Rattle.pp_rule.proofs.Alone.{finds_standing}
use Rattle.pp_base.specs.declared.purse.Purse.{Purse}
use Rattle.pp_base.specs.Made.{HasRun}
use Rattle.pp_base.specs.Passes.{known, view, Keeping}
use Rattle.pp_lists.specs.Lists.{list_head, list_field}
use Rattle.pp_lists.specs.Turns.{mark_step}
use Rattle.pp_walk.specs.declared.walk.Turn.{Turn}
use Rattle.pp_walk.specs.declared.walk.Turn.TheVariants.{On, At, Lost}
use Rattle.pp_walk.specs.Roles.{IsWalk, IsUnder, IsAnchor, StandsOn, HasGathered, nothing, chained}
use Rattle.pp_walk.specs.Turns.{TurnsTo}
use Rattle.pp_walk.specs.Lone.{list_opens, words_of, Sees, IsLone, IsOwn, IsStanding}

-- a step is named among its names
pub in_names : (x : Step) (xs : List Step) → IsIn x xs → IsIn (name_of x) (map name_of xs)
in_names x [] i = absurd (in_nil x i)
in_names x (y ∷ ys) i = ⊎_elim
    (λ (e : x ≡ y). subst (λ (s : Step). IsIn (name_of x) (name_of s ∷ map name_of ys)) e (in_first (name_of x) (map name_of ys)))
    (λ (later : IsIn x ys). in_later (name_of x) (name_of y) (map name_of ys) (in_names x ys later)) (in_cases x y ys i)

pub of_names : (s : NamedStep) (xs : List Step) → IsIn s (map name_of xs) → (x : Step) × (IsIn x xs × (name_of x ≡ s))
of_names s [] i = absurd (in_nil s i)
of_names s (y ∷ ys) i = ⊎_elim
    (λ (e : s ≡ name_of y). (y, (in_first y ys, sym e)))
    (λ (later : IsIn s (map name_of ys)). let r = of_names s ys later in (r.0, (in_later r.0 y ys r.1.0, r.1.1)))
    (in_cases s (name_of y) (map name_of ys) i)

-- the source at a place
abbrev pub source_at : ListPass → Place → Source
source_at q (Head h) = at_head h
source_at q (Word i) = at_record (slot q i).named

pub word_is : (z : Sizes) (words : List ℕ) (g : ListState) (q : ListPass) (at : Place)
    → get_or words (source_place z q at Left) 0 ≡ word_at (heap z words g.status) (source_at q at)
unfolding cell_word head_word
word_is z words g q (Head h) = refl
word_is z words g q (Word i) = refl

pub cell_is : (z : Sizes) (words : List ℕ) (n : ℕ) → get_or words (cell_place z n 2) 0 ≡ cell_word words z n 2
unfolding cell_word
cell_is z words n = refl

module _ (z : Sizes) (v : ListView) (s : Sees z v) where
  pub run_of : IsRun 1 (λ (c : Change). c.caller) (list_opens z) z v.order
  run_of = subst (λ (y : Sizes). IsRun 1 (λ (c : Change). c.caller) (list_opens y) y v.order) s.sizes s.seen.run

  -- an equation that the rule of the present words gives
  pub state_at : z.passes ≡ 1 → (a b : ℕ)
      → ((g : ListState) → Base 1 z (words_of z v) g → Lists z (words_of z v) g → g.of v.known.number ≡ v.known → a ≡ b) → a ≡ b
  state_at one a b says = by_state 1 list_opens Lists v (s.seen.whole (ap (λ (y : Sizes). y.passes) s.sizes ∙ one)) a b
      (λ st. says st.pool (subst (λ (y : Sizes). Base 1 y (words_of y v) st.pool) s.sizes st.base)
      (subst (λ (y : Sizes). Lists y (words_of y v) st.pool) s.sizes st.added) st.known_is)

  module _ (g : ListState) (b : Base 1 z (words_of z v) g) (lists : Lists z (words_of z v) g) (is : g.of v.known.number ≡ v.known) where
    pub held_at : (j : ℕ) → j < 5 → (slot v.known j).held ≡ true → Held z (words_of z v) g.status (slot v.known j)
    held_at j lt on = subst (λ (q : ListPass). (slot q j).held ≡ true → Held z (words_of z v) g.status (slot q j)) is
        (b.hazards.held v.known.number j s.low lt) on

    -- what it holds is attached
    pub held_attached : IsLone z v → (j : ℕ) → j < 5 → (slot v.known j).held ≡ true
        → IsNumber z (slot v.known j).named × (g.status (slot v.known j).named ≡ attached)
    held_attached lone j lt on = let h = held_at j lt on in
        (h.number, lists.listed.marked (slot v.known j).named h.number h.used (lone.held j lt on))

    pub live_at : IsLone z v → (at : Place) → IsOwn z v.known at → IsLive z (heap z (words_of z v) g.status) (source_at v.known at)
    live_at lone (Head h) own = own
    live_at lone (Word i) own = held_attached lone i own.0 own.1

    pub reached_at : (n : ℕ) → IsNumber z n → g.status n ≡ attached → Reached 1 z (words_of z v) n
    reached_at n number st = list_reached z (words_of z v) g n b lists number st

    -- it is so in later words too
    pub source_same : IsLone z v → (words : List ℕ) → SameReached 1 z (words_of z v) words → (at : Place) → IsOwn z v.known at
        → get_or words (source_place z v.known at Left) 0 ≡ get_or (words_of z v) (source_place z v.known at Left) 0
    unfolding cell_word head_word
    source_same lone words same (Head h) own = same.heads h own
    source_same lone words same (Word i) own = let a = held_attached lone i own.0 own.1 in
        same.cells (slot v.known i).named 2 a.0 (omega arith) (reached_at (slot v.known i).named a.0 a.1)

    -- the record to which the link there leads is attached
    pub next_attached : IsLone z v → (at : Place) → IsOwn z v.known at → (w : ℕ)
        → w ≡ get_or (words_of z v) (source_place z v.known at Left) 0 → target w ≢ 0
        → IsNumber z (target w) × (g.status (target w) ≡ attached)
    next_attached lone at own w is_word some = subst (λ (x : ℕ). IsNumber z (target x) × (g.status (target x) ≡ attached))
        (sym (is_word ∙ word_is z (words_of z v) g v.known at))
        (⊎_elim (λ (nil : target (word_at (heap z (words_of z v) g.status) (source_at v.known at)) ≡ 0).
        absurd (some (ap target (is_word ∙ word_is z (words_of z v) g v.known at) ∙ nil)))
        (λ (y : IsNumber z (target (word_at (heap z (words_of z v) g.status) (source_at v.known at)))
        × (g.status (target (word_at (heap z (words_of z v) g.status) (source_at v.known at))) ≡ attached)). y)
        ((sane_of z (words_of z v) g b).live (source_at v.known at) (live_at lone at own)))

    source_valid : IsLone z v → (at : Place) → IsOwn z v.known at
        → invalid_bit (get_or (words_of z v) (source_place z v.known at Left) 0) ≡ 0
    source_valid lone at own = ap invalid_bit (word_is z (words_of z v) g v.known at)
        ∙ (sane_of z (words_of z v) g b).valid (source_at v.known at) (live_at lone at own)

module _ (z : Sizes) (was : Walk) (lost : ℕ) (calls : List Placed) (own : ListOwn) (v w : ListView) (sv : Sees z v) (sw : Sees z w)
    (own_at : IsOwn z v.known was.at) (t : Turned z was lost calls own v w) (lone : IsLone z v) where
  walks : (x : Step) → IsIn x t.trod.stepped.steps → Rattle.pp_rule.specs.Orders.only_walks x.kind ≡ true
  walks x i = t.trod.writes (name_of x) (subst (λ (l : List NamedStep). IsIn (name_of x) l) t.trod.named
      (in_names x t.trod.stepped.steps i))

  -- the heads and the records that can be reached are as they were
  pub same_words : SameReached 1 z (words_of z v) (words_of z w)
  same_words = calm_stays 1 (omega arith) (λ (c : Change). c.caller) (list_opens z) z v.known.number v w t.trod.stepped.steps lone.one
      sv.low
      (run_of z w sw) t.trod.stepped.order t.trod.stepped.made (λ x i. walks_calm x.kind (walks x i))

  -- each load found a word that stood there
  found_then : (s : NamedStep) → IsIn s t.trod.steps → stores s.kind ≡ false
      → (words : List ℕ) × (SameReached 1 z (words_of z v) words × (s.word ≡ get_or words s.place 0))
  found_then s i silent = let x = of_names s t.trod.stepped.steps (subst (λ (l : List NamedStep). IsIn s l) (sym t.trod.named) i) in
      let f = calm_finds 1 (omega arith) (λ (c : Change). c.caller) (list_opens z) z v.known.number v w t.trod.stepped.steps lone.one sv.low
      (run_of z w sw) t.trod.stepped.order t.trod.stepped.made (λ y j. walks_calm y.kind (walks y j)) x.0 x.1.0
      (subst (λ (y : NamedStep). stores y.kind ≡ false) (sym x.1.1) silent) in
      (f.then, (f.same, subst (λ (y : NamedStep). y.word ≡ get_or f.then y.place 0) x.1.1 f.found))

  place : ℕ
  place = source_place z v.known was.at Left

  -- the first load found the word that stands there
  pub first_stands : t.first ≡ get_or (words_of z v) (source_place z v.known was.at Left) 0
  first_stands = let f = found_then (loads (source_place z v.known was.at Left) t.first)
      (subst (λ (l : List NamedStep). IsIn (loads (source_place z v.known was.at Left) t.first) l) (sym t.steps_are)
      (in_first (loads (source_place z v.known was.at Left) t.first) t.behind)) refl in
      state_at z v sv lone.one t.first (get_or (words_of z v) (source_place z v.known was.at Left) 0)
      (λ g b lists is. f.1.1 ∙ source_same z v sv g b lists is lone f.0 f.1.0 was.at own_at)

  pub first_valid : invalid_bit t.first ≡ 0
  first_valid = ap invalid_bit first_stands ∙ state_at z v sv lone.one
      (invalid_bit (get_or (words_of z v) (source_place z v.known was.at Left) 0)) 0
      (λ g b lists is. source_valid z v sv g b lists is lone was.at own_at)

  inside : (s : NamedStep) → IsIn s t.behind → IsIn s t.trod.steps
  inside s i = subst (λ (l : List NamedStep). IsIn s l) (sym t.steps_are)
      (in_right s (loads (source_place z v.known was.at Left) t.first ∷ []) t.behind i)

  -- The turn isn't lost.
  pub lone_kept : lost ≡ 0
  lone_kept = dite (ℕ_discrete lost 0) (λ e. e) (λ ne. absurd (refuted ne (t.why ne)))
    where
      kind_of : (k n : ℕ) → k ≡ n → stores n ≡ false → stores k ≡ false
      kind_of k n e none = ap stores e ∙ none

      refuted : lost ≢ 0 → Why z (source_place z v.known was.at Left) t.first t.behind → ⊥
      refuted ne (inl bad) = let ok = first_valid in omega arith
      refuted ne (inr (inl m)) = let f = found_then m.step (inside m.step m.inside) (kind_of m.step.kind 4 m.load refl) in
          let some : target t.first ≢ 0 = λ nil. t.some_next ne (first_valid, nil) in
          let valid : invalid_bit m.step.word ≡ 0 = state_at z v sv lone.one (invalid_bit m.step.word) 0 (λ g b lists is.
          let a = next_attached z v sv g b lists is lone was.at own_at t.first first_stands some in
          ap invalid_bit (f.1.1 ∙ (ap (λ (p : ℕ). get_or f.0 p 0) m.at ∙ (cell_is z f.0 (target t.first)
          ∙ f.1.0.cells (target t.first) 2 a.0 (omega arith) (reached_at z v sv g b lists is (target t.first) a.0 a.1))))
          ∙ (sane_of z (words_of z v) g b).valid (at_record (target t.first)) a) in
          let bad = m.bad in omega arith
      refuted ne (inr (inr m)) = let f = found_then m.step (inside m.step m.inside) (kind_of m.step.kind 6 m.again refl) in
          m.other (state_at z v sv lone.one m.step.word t.first (λ g b lists is.
          f.1.1 ∙ (ap (λ (p : ℕ). get_or f.0 p 0) m.at ∙ (source_same z v sv g b lists is lone f.0 f.1.0 was.at own_at
          ∙ sym first_stands))))

  -- After it no record that can be reached is removed, nor one that the pass holds.
  pub lone_now : IsLone z w
  lone_now = record {
    one = lone.one;
    bare = λ n number r. let was_reached = reached_back 1 z (words_of z v) (words_of z w) same_words (omega arith) n r in
        ap flag_bit (same_words.cells n 2 number (omega arith) was_reached) ∙ lone.bare n number was_reached;
    held = λ j lt on. state_at z w sw lone.one (flag_bit (cell_word (words_of z w) z (slot w.known j).named 2)) 0 (λ g' b' lists' is'.
        let number = (held_at z w sw g' b' lists' is' j lt on).number in
        state_at z v sv lone.one (flag_bit (cell_word (words_of z w) z (slot w.known j).named 2)) 0 (λ g b lists is. ⊎_elim
        (λ (new : (slot w.known j).named ≡ target t.first). let some : target t.first ≢ 0 = (let one = number.0 in omega arith) in
        let a = next_attached z v sv g b lists is lone was.at own_at t.first first_stands some in
        let reached = reached_at z v sv g b lists is (target t.first) a.0 a.1 in
        ap (λ (n : ℕ). flag_bit (cell_word (words_of z w) z n 2)) new
        ∙ (ap flag_bit (same_words.cells (target t.first) 2 a.0 (omega arith) reached) ∙ lone.bare (target t.first) a.0 reached))
        (λ (old : ((slot v.known j).held ≡ true) × ((slot w.known j).named ≡ (slot v.known j).named)).
        let a = held_attached z v sv g b lists is lone j lt old.0 in
        let reached = reached_at z v sv g b lists is (slot v.known j).named a.0 a.1 in
        ap (λ (n : ℕ). flag_bit (cell_word (words_of z w) z n 2)) old.1
        ∙ (ap flag_bit (same_words.cells (slot v.known j).named 2 a.0 (omega arith) reached) ∙ lone.held j lt old.0))
        (t.names j lt on)));
  }

-- what the seat of a pass has seen
pub sees_of : (z : Sizes) (s : Seat Unit ListView) (number share : ℕ) (walk : List ℕ) (p : Purse) → Keeping 0 1 s number share walk p
    → HasRun 1 0 list_head list_field Lists (λ (c : Change). c.caller) (view s) → (known s).sizes ≡ z → Sees z (view s)
sees_of z s number share walk p k run sizes = record {
  sizes = sizes;
  low = subst (λ (y : Sizes). (known s).number < y.passes) sizes k.pass.pass;
  seen = run (ap (λ (v : ListView). v.standing) k.lone.1);
}

-- where a call stands is its head, or a record that the pass holds
pub own_place : (z : Sizes) (q : ListPass) (w : Walk) → IsWalk z q w → IsOwn z q w.at
own_place z q w is = by w.fresh is.under
  where
    on : (at anchor : Place) → StandsOn z q (key_of w.call) at → IsAnchor z q (key_of w.call) anchor → HasGathered q at anchor
        → IsOwn z q at
    on (Head h) anchor stands anchored (nothing f c same) = (subst (λ (p : Place). IsAnchor z q (key_of w.call) p) same anchored).0
    on (Head h) anchor stands anchored (chained i link e low held apart first some_made learnt flag joined) = absurd
        (let f : Head h ≡ Word i = e in cc)
    on (Word i) anchor stands anchored g = (stands.0, stands.1)

    by : (b : Bool) → IsUnder b z q w → IsOwn z q w.at
    by true u = subst (λ (p : Place). IsOwn z q p) (sym u.1) is.low
    by false u = on w.at w.anchor u.0.stands u.0.anchored u.0.gathered

-- A turn of a pass alone isn't lost, and leaves no removed record that can be reached.
pub lone_turns : (z : Sizes) (was w : Walk) (v u : ListView) (r : Turn) → Sees z v
    → (u.known.sizes ≡ z → Sees z u) → IsWalk z v.known was
    → TurnsTo z was w v u r → IsLone z v → (r ≢ Lost) × IsLone z u
lone_turns z was w v u On sv su is t lone = let sees = su (t.goes.turned.rest.sizes ∙ sv.sizes) in
    ((λ e. cc), lone_now z was 0 [] t.goes.own v u sv sees (own_place z v.known was is) t.goes.turned lone)
lone_turns z was w v u Lost sv su is t lone = let sees = su (t.goes.turned.rest.sizes ∙ sv.sizes) in
    absurd (not_one 1 refl (lone_kept z was 1 [] t.goes.own v u sv sees (own_place z v.known was is) t.goes.turned lone))
  where
    not_one : (n : ℕ) → n ≡ 1 → n ≡ 0 → ⊥
    not_one n one none = omega arith
lone_turns z was w v u (At f) sv su is t lone = let sees = su (t.turned.rest.sizes ∙ sv.sizes) in
    ((λ e. cc), lone_now z was 0 t.calls t.own v u sv sees (own_place z v.known was is) t.turned lone)

-- An or-step or an exchange of a pass alone finds the word that stands there.
pub finds_there : {kind place word left : ℕ} {changes : List Change} {placed : List Placed} (z : Sizes) (known : ListPass)
    (v u : ListView) → z.passes ≡ 1 → Sees z v → Sees z u → MadeStep kind place word left changes placed known v u → stores kind ≡ false
    → word ≡ get_or (words_of z v) place 0
finds_there z known v u one sv su made silent = finds_standing 1 list_opens Lists z {caller = λ (c : Change). c.caller} known v u one sv.low
    made
    (run_of z u su) silent

-- what is marked by a pass alone had no FLAG
pub lone_marks : (z : Sizes) (j found : ℕ) (v u : ListView) → Sees z v → Sees z u → j < 5 → (slot v.known j).held ≡ true
    → (flag_bit found ≡ 1 → MadeQuietStep mark_step (cell_place z (slot v.known j).named 2) found (bit_or found 1) v.known v u)
    → IsLone z v → flag_bit found ≡ 1 → ⊥
lone_marks z j found v u sv su low on made lone flag =
    let there = finds_there z v.known v u lone.one sv su (made flag) refl in
    let plain : flag_bit found ≡ 0 = ap flag_bit (there ∙ cell_is z (words_of z v) (slot v.known j).named) ∙ lone.held j low on in
    omega arith

-- an exchange of the word that stands there succeeds
pub lone_exchanges : (z : Sizes) (at first found : ℕ) (v u : ListView) → Sees z v → Sees z u
    → (found ≢ first → MadeQuietStep missed_step at found found v.known v u) → IsStanding z at first v → found ≢ first → ⊥
lone_exchanges z at first found v u sv su made st ne = ne (finds_there z v.known v u st.one sv su (made ne) refl ∙ st.stands)
