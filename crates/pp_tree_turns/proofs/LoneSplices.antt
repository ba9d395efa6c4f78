-- The splice of a pass alone takes out what it flagged and tagged: no edge that can be reached has FLAG then.
use Rattle.std.proofs.Common.{◌≡◌, ◌≢◌, ℕ, ◌+◌, ◌<◌, ◌≤◌, ⊎_elim, List, [], ◌∷◌, ◌++◌, length, get_or, set, refl, sym, ap}
use Rattle.std.proofs.Common.{◌∙◌, subst, arith, true}
use Rattle.pp_link.specs.declared.layout.Sizes.{Sizes}
use Rattle.pp_link.specs.declared.link.Link.{Link}
use Rattle.pp_link.specs.Links.{target, flag_bit, word_of}
use Rattle.pp_link.specs.Places.{IsNumber, frontier_place}
use Rattle.pp_link.specs.Words.{cell_word}
use Rattle.pp_rule.specs.Lists.{IsIn}
use Rattle.pp_rule.specs.Orders.{is_calm, clear_step}
use Rattle.pp_rule.specs.Reached.{Reached, SameReached}
use Rattle.pp_rule.specs.Steps.{MadeQuietStep, clearing}
use Rattle.pp_rule.specs.Views.{slot}
use Rattle.pp_rule.proofs.Lone.{run_before, step_words, field_either, reached_set, reached_next}
use Rattle.pp_rule.proofs.Put.{in_one, in_either}
use Rattle.pp_rule.proofs.Undisturbed.{reached_back}
use Rattle.pp_base.specs.declared.source.Place.TheVariants.{Walk}
use Rattle.pp_base.specs.declared.source.Side.{Side}
use Rattle.pp_base.specs.Sources.{source_place}
use Rattle.pp_base.specs.Named.{NamedStep, guards, unguards, Made}
use Rattle.pp_base.proofs.Named.{made_append}
use Rattle.pp_purse.specs.Steps.{PurseSteps}
use Rattle.pp_turns.proofs.CalmSteps.{purse_calm}
use Rattle.pp_unlink.specs.Unlinking.{Exchanges, Misses}
use Rattle.pp_edges.specs.Edging.{plain_word}
use Rattle.pp_trees.specs.Clean.{IsBare}
use Rattle.pp_trees.specs.Searches.{tree_chain, forget_word, caller_of}
use Rattle.pp_trees.specs.Sentinels.{has_mark}
use Rattle.pp_trees.specs.TaggedPaths.{Taken}
use Rattle.pp_trees.specs.Edges.{TreeView}
use Rattle.pp_trees.specs.Lone.{tree_opens, words_of, Sees}
use Rattle.pp_seek.specs.declared.seek.Sought.{Sought}
use Rattle.pp_seek.proofs.Lone.{run_of}
use Rattle.pp_seek.proofs.LoneCalm.{TreeRun, run_back, made_begins, made_number, calm_step, calm_made, finds_there}
use Rattle.pp_seek.proofs.LoneStays.{source_reached}
use Rattle.pp_tree_turns.specs.Lone.{parent_of, LoneTagged}
use Rattle.pp_tree_turns.proofs.Exchanges.{flush_names}

-- the steps before an exchange are calm
calm_before : (z : Sizes) (flush : List NamedStep) (guard : NamedStep) (v b : TreeView) → PurseSteps z flush v b → is_calm guard.kind ≡ true
    → (s : NamedStep) → IsIn s (flush ++ guard ∷ []) → is_calm s.kind ≡ true
calm_before z flush guard v b p calm s i = ⊎_elim (λ (a : IsIn s flush). purse_calm z s (p.each s a))
    (λ (a : IsIn s (guard ∷ [])). subst (λ (x : NamedStep). is_calm x.kind ≡ true) (in_one s guard a) calm)
    (in_either s flush (guard ∷ []) i)

plain_target : (w : ℕ) → target (plain_word w) ≡ target w
plain_target w = omega arith

plain_flag : (w : ℕ) → flag_bit w ≡ 0 → flag_bit (plain_word w) ≡ 0
plain_flag w none = omega arith

module _ (z : Sizes) (s : Sought) (side : Side) (sibling : Link) (v : TreeView) (sv : Sees z v) (few : length v.known.chains ≤ 4)
    (ancestor : ℕ) (ancestor_is : s.ancestor ≡ Walk ancestor) (low : ancestor < 5) (held : (slot v.known ancestor).held ≡ true)
    (lone : LoneTagged z s side sibling v) where
  -- the ancestor's edge stays over calm steps
  stands_then : (words : List ℕ) → SameReached 2 z (words_of z v) words → get_or words (source_place z v.known s.ancestor s.ancestor_side) 0
      ≡ word_of s.successor
  stands_then words same = source_reached z v sv lone.one s.ancestor ancestor ancestor_is low held (lone.held ancestor low held)
      s.ancestor_side words same ∙ lone.above.stands

  -- The exchange never finds another word.
  pub splice_finds : (found : ℕ) (w : TreeView) → Sees z w
      → Misses 2 z has_mark tree_chain s.ancestor s.ancestor_side (word_of s.successor) (plain_word (word_of sibling)) v w found → ⊥
  splice_finds found w sw m = let f = flush_names z v m.between few m.flushed in
      let guard : NamedStep = guards (frontier_place z v.known.number m.guard) (target (plain_word (word_of sibling))) in
      let a : TreeView = m.steps.0 in let c : TreeView = m.steps.1.1.0 in
      let run_c : TreeRun z c.order = run_back z c w (made_begins (unguards (frontier_place z v.known.number m.guard) ∷ []) c w
      m.steps.1.1.1.1) (run_of z w sw) in
      let run_a : TreeRun z a.order = run_before 2 caller_of (tree_opens z) z m.steps.1.1.1.0.known a c m.steps.1.1.1.0.made run_c in
      let to_a : Made (f.0 ++ guard ∷ []) v a = made_append f.0 (guard ∷ []) v m.between a f.1.made (a, (m.steps.1.0, refl)) in
      let same : SameReached 2 z (words_of z v) (words_of z a) = calm_made z lone.one (f.0 ++ guard ∷ []) v a sv.low to_a run_a
      (calm_before z f.0 guard v m.between f.1 refl) in
      let number : a.known.number ≡ v.known.number = made_number (f.0 ++ guard ∷ []) v a to_a in
      m.other (finds_there z lone.one m.steps.1.1.1.0.known a c (subst (λ (n : ℕ). n < z.passes) (sym number) sv.low)
      m.steps.1.1.1.0.made run_c refl ∙ stands_then (words_of z a) same)

  module _ (u : TreeView) (su : Sees z u)
      (e : Exchanges 2 z has_mark tree_chain s.ancestor s.ancestor_side (word_of s.successor) (plain_word (word_of sibling)) v u) where
    abbrev x : ℕ
    x = plain_word (word_of sibling)

    abbrev place : ℕ
    place = source_place z v.known s.ancestor s.ancestor_side

    abbrev W : List ℕ
    W = words_of z v

    abbrev t : TreeView
    t = e.exchange.then

    abbrev guard : NamedStep
    guard = guards (frontier_place z v.known.number e.guard) (target (plain_word (word_of sibling)))

    flush : (names : List NamedStep) × PurseSteps z names v e.between
    flush = flush_names z v e.between few e.flushed

    earlier : Made (flush.0 ++ guard ∷ []) v t
    earlier = made_append flush.0 (guard ∷ []) v e.between t flush.1.made e.exchange.earlier

    run_then : TreeRun z t.order
    run_then = run_before 2 caller_of (tree_opens z) z e.exchange.known t u e.exchange.made (run_of z u su)

    then_same : SameReached 2 z W (words_of z t)
    then_same = calm_made z lone.one (flush.0 ++ guard ∷ []) v t sv.low earlier run_then
        (calm_before z flush.0 guard v e.between flush.1 refl)

    now_words : words_of z u ≡ set (words_of z t) place x
    now_words = step_words 2 caller_of (tree_opens z) z e.exchange.known t u lone.one
        (subst (λ (n : ℕ). n < z.passes) (sym (made_number (flush.0 ++ guard ∷ []) v t earlier)) sv.low) (run_of z u su) e.exchange.made

    -- what can be reached then could be reached
    was_reached : (n : ℕ) → Reached 2 z (set (words_of z t) place x) n → Reached 2 z W n
    was_reached = reached_set 2 z (words_of z t) place x (Reached 2 z W)
        (λ n r. reached_back 2 z W (words_of z t) then_same (omega arith) n r)
        (subst (Reached 2 z W) (sym (plain_target (word_of sibling))) lone.beside)
        (λ m r number low_r was. subst (λ (w : ℕ). Reached 2 z W (target w)) (sym (then_same.cells m (2 + r) number (omega arith) was))
        (reached_next 2 z W m r number low_r was))

    -- no edge has FLAG then but those of the parent
    flag_now : (n r : ℕ) → IsNumber z n → r < 2 → n ≢ parent_of v.known → Reached 2 z (set (words_of z t) place x) n
        → flag_bit (cell_word (set (words_of z t) place x) z n (2 + r)) ≡ 0
    flag_now n r number low_r ne reached = let was = was_reached n reached in ⊎_elim
        (λ (new : cell_word (set (words_of z t) place x) z n (2 + r) ≡ x). ap flag_bit new ∙ plain_flag (word_of sibling) lone.plain)
        (λ (old : cell_word (set (words_of z t) place x) z n (2 + r) ≡ cell_word (words_of z t) z n (2 + r)).
        ap flag_bit (old ∙ then_same.cells n (2 + r) number (omega arith) was) ∙ lone.but n r number low_r was (λ both. ne both.0))
        (field_either z (words_of z t) place x n (2 + r))

    -- Once a walk word is cleared, the parent can't be reached.
    pub spliced_bare : (i p : ℕ) (w : TreeView) → Sees z w → MadeQuietStep clear_step p 0 0 (clearing forget_word i u.known) u w
        → ((n : ℕ) → Taken v.known.own.path n → Reached 2 z (words_of z w) n → ⊥) → IsBare z (words_of z w)
    spliced_bare i p w sw made gone n r number low_r reached =
        let same : SameReached 2 z (words_of z u) (words_of z w) = calm_step z lone.one u w su.low refl made (run_of z w sw) refl in
        let was : Reached 2 z (words_of z u) n = reached_back 2 z (words_of z u) (words_of z w) same (omega arith) n reached in
        let ne : n ≢ parent_of v.known = λ here. gone (parent_of v.known) lone.path (subst (Reached 2 z (words_of z w)) here reached) in
        ap flag_bit (same.cells n (2 + r) number (omega arith) was)
        ∙ (ap (λ (ws : List ℕ). flag_bit (cell_word ws z n (2 + r))) now_words
        ∙ flag_now n r number low_r ne (subst (λ (ws : List ℕ). Reached 2 z ws n) now_words was))
