-- The record that a pass alone marked is detached, and no removed record can be reached any more.
use Rattle.std.proofs.Common.{◌≡◌, ◌≢◌, ℕ, ◌%◌, ◌<◌, ◌≤◌, ⊎_elim, List, [], ◌∷◌, ◌++◌, get_or, set, refl, sym, ap}
use Rattle.std.proofs.Common.{◌∙◌, subst, arith, length}
use Rattle.pp_link.specs.declared.layout.Sizes.{Sizes}
use Rattle.pp_link.specs.declared.link.Link.{Link}
use Rattle.pp_link.specs.Links.{target, flag_bit, word_of}
use Rattle.pp_link.specs.Places.{IsNumber, frontier_place}
use Rattle.pp_link.specs.Words.{head_word, cell_word}
use Rattle.pp_model.specs.declared.Change.{Change}
use Rattle.pp_rule.specs.Lists.{IsIn}
use Rattle.pp_rule.specs.Alone.{IsRun}
use Rattle.pp_rule.specs.Rule.{Base}
use Rattle.pp_rule.specs.Reached.{Reached, SameReached}
use Rattle.pp_rule.specs.Reached.Reached.{by_head}
use Rattle.pp_rule.specs.Views.{slot}
use Rattle.pp_rule.proofs.Put.{in_first}
use Rattle.pp_rule.proofs.Reaching.{reached_attached}
use Rattle.pp_rule.proofs.Undisturbed.{reached_back}
use Rattle.pp_base.specs.declared.source.Place.{Place}
use Rattle.pp_base.specs.declared.source.Place.TheVariants.{Head, Walk as Word}
use Rattle.pp_base.specs.declared.source.Side.TheVariants.{Left}
use Rattle.pp_base.specs.Sources.{source_place}
use Rattle.pp_base.specs.Named.{NamedStep, guards, Made}
use Rattle.pp_base.proofs.Named.{made_append}
use Rattle.pp_calls.proofs.Growing.{stepped_made}
use Rattle.pp_unlink.specs.Unlinking.{Exchanges}
use Rattle.pp_lists.specs.declared.own.Gathered.{Gathered}
use Rattle.pp_lists.specs.Lists.{ListPass, ListState, Lists, Gathering, list_chain, list_frozen}
use Rattle.pp_lists.specs.Walks.{heap, Joined, numbers}
use Rattle.pp_lists.specs.Walks.Joined.{more}
use Rattle.pp_lists.specs.Turns.{ListView}
use Rattle.pp_walk.specs.Effects.{MayDetachRun}
use Rattle.pp_walk.specs.Roles.{IsAnchor}
use Rattle.pp_walk.specs.Lone.{list_opens, words_of, Sees}
use Rattle.pp_walk.proofs.Lone.{run_of, state_at, held_at, reached_at}
use Rattle.pp_walk.proofs.LoneRuns.{AreCalm, calm_both, calm_one, calm_none, calm_words, flush_calm}
use Rattle.pp_walk.proofs.LoneStores.{run_before, step_words, cell_either, reached_set, reached_next, reached_chain}
use Rattle.pp_walk.specs.Bare.{LoneRemoved}

-- a chain begins with the record to which its source leads
pub first_in : (n x : ℕ) (cs : List Gathered) → Joined n cs x → cs ≢ [] → IsIn n (numbers cs)
first_in n x [] joined some = absurd (some refl)
first_in n x (c ∷ cs) (more ne number flag valid rest) some = subst (λ (k : ℕ). IsIn k (numbers (c ∷ cs))) number
    (in_first c.number (numbers cs))

module _ (z : Sizes) (anchor : Place) (first next : Link) (v u : ListView) (sv : Sees z v) (su : Sees z u) (few : length v.known.chains ≤ 4)
    (may : MayDetachRun z v.known anchor first next) (lone : LoneRemoved z anchor first v)
    (e : Exchanges 1 z list_frozen list_chain anchor Left (word_of first) (word_of next) v u) where
  abbrev n0 : ℕ
  n0 = target (word_of first)

  abbrev x : ℕ
  x = word_of next

  abbrev place : ℕ
  place = source_place z v.known anchor Left

  abbrev W : List ℕ
  W = words_of z v

  abbrev guard : NamedStep
  guard = guards (frontier_place z v.known.number e.guard) (target (word_of next))

  one : z.passes ≡ 1
  one = lone.1.one

  flush : (steps : List NamedStep) × (Made steps v e.between × AreCalm steps)
  flush = flush_calm z v e.between few e.flushed

  abbrev t : ListView
  t = e.exchange.then

  earlier : Made (flush.0 ++ guard ∷ []) v t
  earlier = made_append flush.0 (guard ∷ []) v e.between t flush.1.0 e.exchange.earlier

  pub run_then : IsRun 1 (λ (c : Change). c.caller) (list_opens z) z t.order
  run_then = run_before z e.exchange.known t u e.exchange.made (run_of z u su)

  low_then : t.known.number < z.passes
  low_then = subst (λ (p : ℕ). p < z.passes) (sym (stepped_made (flush.0 ++ guard ∷ []) v t earlier).number) sv.low

  then_same : SameReached 1 z W (words_of z t)
  then_same = calm_words z (flush.0 ++ guard ∷ []) v t sv.low run_then one earlier
      (calm_both flush.0 (guard ∷ []) flush.1.1 (calm_one guard [] refl calm_none))

  now_words : words_of z u ≡ set (words_of z t) place x
  now_words = step_words z e.exchange.known t u one low_then (run_of z u su) e.exchange.made

  pub member : IsIn n0 (numbers v.known.own.chain)
  member = subst (λ (k : ℕ). IsIn k (numbers v.known.own.chain)) (sym may.leads)
      (first_in (slot v.known v.known.own.first).named (target x) v.known.own.chain may.joined may.some_chain)

  module _ (g : ListState) (b : Base 1 z W g) (lists : Lists z W g) (is : g.of v.known.number ≡ v.known) where
    -- where the anchor's link leads can be reached
    first_reached : (at : Place) → IsAnchor z v.known may.key at → get_or W (source_place z v.known at Left) 0 ≡ word_of first
        → Reached 1 z W n0
    unfolding cell_word head_word
    first_reached (Head h) a stands = by_head h a.0 (ap target stands)
    first_reached (Word i) a stands = let h = held_at z v sv g b lists is i a.0 a.1 in let n : ℕ = (slot v.known i).named in
        let flag : flag_bit (cell_word W z n 2) ≡ 0 = ap flag_bit stands ∙ plain_flag (word_of first) may.plain_first in
        subst (λ (w : ℕ). Reached 1 z W (target w)) stands (reached_next z W n h.number
        (reached_at z v sv g b lists is n h.number (lists.listed.marked n h.number h.used flag)))
      where
        plain_flag : (y : ℕ) → y % 16 ≡ 0 → flag_bit y ≡ 0
        plain_flag y plain = omega arith

    -- so can the end of what was gathered
    end_reached : Reached 1 z W (target x)
    end_reached = let q : ListPass = v.known in
        let gathers : Gathering z (heap z W g.status) (slot q) q.own.first q.own.chain =
        subst (λ (q : ListPass). Gathering z (heap z W g.status) (slot q) q.own.first q.own.chain) is
        (lists.each v.known.number sv.low).gathering in
        let n : ℕ = (slot q q.own.first).named in
        let reached : Reached 1 z W n = subst (Reached 1 z W) may.leads (first_reached anchor may.anchored lone.1.stands) in
        let number = (held_at z v sv g b lists is q.own.first may.gathered (gathers.held may.gathered)).number in
        reached_chain z W g.status n (target x) q.own.chain may.joined
        (gathers.intact may.gathered (reached_attached 1 z W g b n number reached)) reached

    was_reached : (n : ℕ) → Reached 1 z (set (words_of z t) place x) n → Reached 1 z W n
    was_reached = reached_set z (words_of z t) place x (Reached 1 z W)
        (λ n r. reached_back 1 z W (words_of z t) then_same (omega arith) n r) end_reached
        (λ k is_k r. subst (λ (w : ℕ). Reached 1 z W (target w)) (sym (then_same.cells k 2 is_k (omega arith) r))
        (reached_next z W k is_k r))

    flag_now : (n : ℕ) → IsNumber z n → n ≢ n0 → Reached 1 z (set (words_of z t) place x) n
        → flag_bit (cell_word (set (words_of z t) place x) z n 2) ≡ 0
    flag_now n is_n ne r = let was = was_reached n r in ⊎_elim
        (λ (new : cell_word (set (words_of z t) place x) z n 2 ≡ x). ap flag_bit new ∙ plain_flag x may.plain_end)
        (λ (old : cell_word (set (words_of z t) place x) z n 2 ≡ cell_word (words_of z t) z n 2).
        ap flag_bit (old ∙ then_same.cells n 2 is_n (omega arith) was) ∙ lone.0 n is_n ne was)
        (cell_either z (words_of z t) place x n)
      where
        plain_flag : (y : ℕ) → y % 16 ≡ 0 → flag_bit y ≡ 0
        plain_flag y plain = omega arith

  -- After the detaching exchange no record that can be reached is removed, but for the one that was detached.
  pub detached_bare : (n : ℕ) → IsNumber z n → n ≢ n0 → Reached 1 z (words_of z u) n → flag_bit (cell_word (words_of z u) z n 2) ≡ 0
  detached_bare n is_n ne r = state_at z v sv one (flag_bit (cell_word (words_of z u) z n 2)) 0 (λ g b lists is.
      ap (λ (ws : List ℕ). flag_bit (cell_word ws z n 2)) now_words
      ∙ flag_now g b lists is n is_n ne (subst (λ (ws : List ℕ). Reached 1 z ws n) now_words r))
