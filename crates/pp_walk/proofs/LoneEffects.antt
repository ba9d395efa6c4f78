-- What a step of a pass that is alone on its pool leaves of its list: the record that it marks is the only removed one, what it detaches
-- goes, and what it publishes comes.
use Rattle.std.proofs.Common.{◌≡◌, ◌≢◌, ℕ, ◌+◌, ◌<◌, ◌≤◌, ⊎_elim, true, List, get_or, set, refl, sym}
use Rattle.std.proofs.Common.{ap, ◌∙◌, subst, arith}
use Rattle.std.proofs.Math.Decide.{ℕ_discrete}
use Rattle.std.proofs.lemmas.Bool.{false≢true}
use Rattle.std.specs.Prelude.{bit_or}
use mathlib.Core.Logic.{dite}
use Rattle.pp_link.specs.declared.layout.Sizes.{Sizes}
use Rattle.pp_link.specs.Links.{target, flag_bit, word_of}
use Rattle.pp_link.specs.Places.{IsNumber, cell_place}
use Rattle.pp_link.specs.Words.{head_word, cell_word}
use Rattle.pp_model.specs.Calls.{key_of}
use Rattle.pp_model.specs.declared.Call.{Call}
use Rattle.pp_model.specs.declared.Change.{Change}
use Rattle.pp_rule.specs.Alone.{IsRun}
use Rattle.pp_rule.specs.Rule.{Base}
use Rattle.pp_rule.specs.Reached.{Reached, SameReached}
use Rattle.pp_rule.specs.Views.{slot}
use Rattle.pp_rule.proofs.Alone.{finds_standing}
use Rattle.pp_rule.proofs.Made.{known_after}
use Rattle.pp_rule.proofs.Undisturbed.{reached_back}
use Rattle.pp_base.specs.declared.source.Place.{Place}
use Rattle.pp_base.specs.declared.source.Place.TheVariants.{Head, Walk as Word}
use Rattle.pp_base.specs.declared.source.Side.TheVariants.{Left}
use Rattle.pp_base.specs.Sources.{source_place}
use Rattle.pp_calls.proofs.Growing.{stepped_made}
use Rattle.pp_lists.specs.Lists.{ListPass, ListState, Lists}
use Rattle.pp_lists.specs.Turns.{ListView, marked}
use Rattle.pp_lists.proofs.Telling.{or_one}
use Rattle.pp_walk.specs.declared.effects.Taken.{Taken}
use Rattle.pp_walk.specs.declared.walk.Found.{Found}
use Rattle.pp_walk.specs.Effects.{MarksOne}
use Rattle.pp_walk.specs.Roles.{IsAnchor, IsFound, IsEnd, at_nil, at_record}
use Rattle.pp_walk.specs.Lone.{list_opens, words_of, Sees}
use Rattle.pp_walk.proofs.Lone.{run_of, state_at, held_at, held_attached, reached_at, cell_is}
use Rattle.pp_rule.proofs.Undisturbed.{walks_calm}
use Rattle.pp_walk.specs.Trod.{Quiet}
use Rattle.pp_walk.proofs.LoneRuns.{AreCalm, calm_words}
use Rattle.pp_walk.proofs.LoneStores.{run_back, step_words, cell_either, cell_other, heads_other, reached_set, reached_next, reached_led}
use Rattle.pp_walk.specs.Bare.{LoneEnd, LoneRemoved}

-- steps that write no link are calm
pub quiet_calm : (lost : ℕ) (v w : ListView) (q : Quiet lost v w) → AreCalm q.steps
quiet_calm lost v w q = λ s i. walks_calm s.kind (q.writes s i)

-- The mark of the record where a walk of a pass alone ended.
module _ (z : Sizes) (f : Found) (call : Call) (taken : Taken) (v u : ListView) (sv : Sees z v) (su : Sees z u)
    (found : IsFound z v.known call f) (equal : f.equal ≡ true) (low : f.word < 5) (held : (slot v.known f.word).held ≡ true)
    (m : MarksOne z f.word call taken v u) (lone : LoneEnd z f v) where
  abbrev n0 : ℕ
  n0 = (slot v.known f.word).named

  abbrev x : ℕ
  x = bit_or m.found 1

  abbrev W : List ℕ
  W = words_of z v

  one : z.passes ≡ 1
  one = lone.0.one

  to_end : n0 ≡ target (word_of f.end)
  to_end = by found.end
    where
      by : IsEnd z v.known (key_of call) f → n0 ≡ target (word_of f.end)
      by (at_nil nil word none marked) = absurd (false≢true (sym none ∙ equal))
      by (at_record some low' held' named above same apart other stands) = named

  above : key_of call ≤ (slot v.known f.word).key
  above = by found.end
    where
      by : IsEnd z v.known (key_of call) f → key_of call ≤ (slot v.known f.word).key
      by (at_nil nil word none marked) = absurd (false≢true (sym none ∙ equal))
      by (at_record some low' held' named above same apart other stands) = above

  run_then : IsRun 1 (λ (c : Change). c.caller) (list_opens z) z m.then.order
  run_then = run_back z m.then u (stepped_made m.reads.steps m.then u m.reads.did).order (run_of z u su)

  then_words : words_of z m.then ≡ set W (cell_place z n0 2) x
  then_words = step_words z _ v m.then one sv.low run_then (m.marks.done m.plain).1

  found_is : m.found ≡ cell_word W z n0 2
  found_is = finds_standing 1 list_opens Lists z {caller = λ (c : Change). c.caller} _ v m.then one sv.low
      (m.marks.done m.plain).1 run_then refl ∙ cell_is z W n0

  -- the mark leads where the link led
  led : target x ≡ target (cell_word W z n0 2)
  led = ap target (or_one m.found m.plain) ∙ (plus m.found m.plain ∙ ap target found_is)
    where
      plus : (y : ℕ) → flag_bit y ≡ 0 → target (y + 1) ≡ target y
      plus y plain = omega arith

  low_then : m.then.known.number < z.passes
  low_then = subst (λ (p : ℕ). p < z.passes) (sym (ap (λ (q : ListPass). q.number) (known_then))) sv.low
    where
      known_then : m.then.known ≡ marked f.word x v.known
      known_then = known_after _ _ _ _ _ _ _ v m.then (m.marks.done m.plain).1

  reads_same : SameReached 1 z (set W (cell_place z n0 2) x) (words_of z u)
  reads_same = subst (λ (ws : List ℕ). SameReached 1 z ws (words_of z u)) then_words
      (calm_words z m.reads.steps m.then u low_then (run_of z u su) one m.reads.did (quiet_calm 0 m.then u m.reads))

  module _ (g : ListState) (b : Base 1 z W g) (lists : Lists z W g) (is : g.of v.known.number ≡ v.known) where
    number : IsNumber z n0
    number = (held_attached z v sv g b lists is lone.0 f.word low held).0

    n0_reached : Reached 1 z W n0
    n0_reached = let a = held_attached z v sv g b lists is lone.0 f.word low held in reached_at z v sv g b lists is n0 a.0 a.1

    was_reached : (n : ℕ) → Reached 1 z (set W (cell_place z n0 2) x) n → Reached 1 z W n
    was_reached = reached_set z W (cell_place z n0 2) x (Reached 1 z W) (λ n r. r)
        (subst (Reached 1 z W) (sym led) (reached_next z W n0 number n0_reached)) (λ m is r. reached_next z W m is r)

    still_reached : (n : ℕ) → Reached 1 z W n → Reached 1 z (set W (cell_place z n0 2) x) n
    still_reached = reached_led z W (set W (cell_place z n0 2) x) (λ h lt. ap target (heads_other z W x n0 h number lt)) (λ k is_k.
        dite (ℕ_discrete k n0)
        (λ e. subst (λ (j : ℕ). target (cell_word (set W (cell_place z n0 2) x) z j 2) ≡ target (cell_word W z j 2)) (sym e) here)
        (λ ne. ap target (cell_other z W x k n0 is_k number ne)))
      where
        here : target (cell_word (set W (cell_place z n0 2) x) z n0 2) ≡ target (cell_word W z n0 2)
        here = ⊎_elim (λ (e : cell_word (set W (cell_place z n0 2) x) z n0 2 ≡ x). ap target e ∙ led)
            (λ (e : cell_word (set W (cell_place z n0 2) x) z n0 2 ≡ cell_word W z n0 2). ap target e)
            (cell_either z W (cell_place z n0 2) x n0)

    bare_there : (n : ℕ) → IsNumber z n → n ≢ n0 → Reached 1 z (words_of z u) n → flag_bit (cell_word (words_of z u) z n 2) ≡ 0
    bare_there n is_n ne r = let then : Reached 1 z (set W (cell_place z n0 2) x) n =
        reached_back 1 z (set W (cell_place z n0 2) x) (words_of z u) reads_same (omega arith) n r in
        ap flag_bit (reads_same.cells n 2 is_n (omega arith) then ∙ cell_other z W x n n0 is_n number ne)
        ∙ lone.0.bare n is_n (was_reached n then)

    -- the anchor's link is as it was
    link_there : (at : Place) → IsAnchor z v.known (key_of call) at
        → get_or (words_of z u) (source_place z v.known at Left) 0 ≡ get_or W (source_place z v.known at Left) 0
    unfolding cell_word head_word
    link_there (Head h) a = reads_same.heads h a.0 ∙ heads_other z W x n0 h number a.0
    link_there (Word i) a = let k = held_attached z v sv g b lists is lone.0 i a.0 a.1 in let n : ℕ = (slot v.known i).named in
        reads_same.cells n 2 k.0 (omega arith) (still_reached n (reached_at z v sv g b lists is n k.0 k.1))
        ∙ cell_other z W x n n0 k.0 number (λ same. let here = (held_at z v sv g b lists is i a.0 a.1).key in
        let there = (held_at z v sv g b lists is f.word low held).key in
        let keys : (slot v.known i).key ≡ (slot v.known f.word).key = sym here ∙ (ap (λ (j : ℕ). cell_word W z j 0) same ∙ there) in
        let below = a.2 in let over = above in omega arith)

  place_same : (at : Place) → source_place z u.known at Left ≡ source_place z v.known at Left
  place_same (Head h) = refl
  place_same (Word i) = ap (λ (q : ListPass). cell_place z (slot q i).named 2) m.known

  pub marks_lone : f.first ≡ f.end → LoneRemoved z f.anchor f.first u
  marks_lone first = (
    λ n is_n ne r. state_at z v sv one (flag_bit (cell_word (words_of z u) z n 2)) 0 (λ g b lists is.
        bare_there g b lists is n is_n (λ e. ne (e ∙ (to_end ∙ ap (λ l. target (word_of l)) (sym first)))) r),
    record {
      one = one;
      stands = ap (λ (p : ℕ). get_or (words_of z u) p 0) (place_same f.anchor)
          ∙ (state_at z v sv one (get_or (words_of z u) (source_place z v.known f.anchor Left) 0)
          (get_or W (source_place z v.known f.anchor Left) 0) (λ g b lists is. link_there g b lists is f.anchor found.anchored)
          ∙ (lone.1.stands ∙ ap word_of (sym first)));
    },
  )
