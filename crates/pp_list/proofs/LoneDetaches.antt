-- The record that a pass alone marked was detached and let go: no removed record can be reached any more.
use Rattle.std.proofs.Common.{◌≡◌, ℕ, ◌≤◌, List, [], ◌∷◌, refl, sym, ap}
use Rattle.std.proofs.Common.{◌∙◌, subst, arith, length}
use Rattle.pp_link.specs.declared.layout.Sizes.{Sizes}
use Rattle.pp_link.specs.Links.{flag_bit, word_of}
use Rattle.pp_rule.specs.Lists.{IsIn}
use Rattle.pp_rule.specs.Reached.{Reached, SameReached}
use Rattle.pp_rule.specs.Orders.{clear_step}
use Rattle.pp_rule.specs.Steps.{MadeQuietStep, clearing}
use Rattle.pp_rule.specs.declared.views.Chain.{Chain}
use Rattle.pp_rule.proofs.Made.{known_after}
use Rattle.pp_rule.proofs.Put.{in_first, in_right}
use Rattle.pp_rule.proofs.Undisturbed.{reached_back}
use Rattle.pp_base.specs.declared.source.Side.TheVariants.{Left}
use Rattle.pp_base.specs.Named.{clears}
use Rattle.pp_base.proofs.Named.{plain_one}
use Rattle.pp_detached.specs.Gone.{AreGone as NoneReached}
use Rattle.pp_unlink.specs.Unlinking.{Exchanges}
use Rattle.pp_lists.specs.Clean.{IsBare}
use Rattle.pp_lists.specs.Lists.{ListPass, list_chain, list_frozen, list_forget}
use Rattle.pp_lists.specs.Walks.{numbers}
use Rattle.pp_lists.specs.Turns.{ListView}
use Rattle.pp_walk.specs.Effects.{MayDetachRun}
use Rattle.pp_walk.specs.Lone.{list_opens, words_of, Sees}
use Rattle.pp_walk.proofs.Lone.{run_of}
use Rattle.pp_walk.proofs.LoneRuns.{calm_one, calm_none, calm_words}
use Rattle.pp_list.specs.declared.going.Marked.{Marked}
use Rattle.pp_list.specs.Lone.{LoneMarked}
use Rattle.pp_walk.proofs.LoneDetaches.{member, detached_bare}

module _ (z : Sizes) (m : Marked) (v u : ListView) (sv : Sees z v) (su : Sees z u) (few : length v.known.chains ≤ 4)
    (may : MayDetachRun z v.known m.anchor m.first m.next) (lone : LoneMarked z m v)
    (e : Exchanges 1 z list_frozen list_chain m.anchor Left (word_of m.first) (word_of m.next) v u) where
  -- Once its walk word is cleared the record that was detached can't be reached.
  pub cleared_bare : (i p : ℕ) (w : ListView) → Sees z w → MadeQuietStep clear_step p 0 0 (clearing list_forget i u.known) u w
      → NoneReached 1 z (list_opens z) w → IsBare z (words_of z w)
  cleared_bare i p w sw made gone n is_n r =
      let known_w : w.known ≡ clearing list_forget i u.known = known_after clear_step p 0 0 [] []
      (clearing list_forget i u.known) u w made in
      let chain : Chain = list_chain v.known.walk v.known.own e.guard (word_of m.first) (word_of m.next) in
      let same : SameReached 1 z (words_of z u) (words_of z w) = calm_words z (clears p ∷ []) u w su.low (run_of z w sw) lone.1.one
      (w, (plain_one (clears p) (clearing list_forget i u.known) u w refl refl made, refl)) (calm_one (clears p) [] refl calm_none) in
      let was : Reached 1 z (words_of z u) n = reached_back 1 z (words_of z u) (words_of z w) same (omega arith) n r in
      ap flag_bit (same.cells n 2 is_n (omega arith) was)
      ∙ detached_bare z m.anchor m.first m.next v u sv su few may lone e n is_n (λ here. gone.gone chain n
      (subst (λ (cs : List Chain). IsIn chain cs) (sym (ap (λ (q : ListPass). q.chains) known_w ∙ ap (λ (q : ListPass). q.chains) e.known))
      (in_right chain e.between.known.chains (chain ∷ []) (in_first chain [])))
      (subst (λ (k : ℕ). IsIn k (numbers v.known.own.chain)) (sym here)
      (member z m.anchor m.first m.next v u sv su few may lone e)) r) was
