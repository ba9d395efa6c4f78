-- What a call of a pass that is alone on its pool reads and tidies changes no word of what can be reached.
use Rattle.std.proofs.Common.{◌≡◌, ℕ, ◌+◌, ⊎_elim, Bool, true, false, List, ◌++◌, get_or, sym, ap, ◌∙◌, subst, arith}
use Rattle.pp_link.specs.declared.layout.Sizes.{Sizes}
use Rattle.pp_link.specs.Links.{flag_bit, tag_bit, word_of}
use Rattle.pp_link.specs.Places.{cell_place}
use Rattle.pp_model.specs.declared.Answer.{Answer}
use Rattle.pp_model.specs.declared.Turned.{Turned}
use Rattle.pp_model.specs.declared.Turned.TheVariants.{Done}
use Rattle.pp_model.specs.declared.steps.Step.{Step}
use Rattle.pp_model.specs.MapCalls.{IfOn, IfDone}
use Rattle.pp_rule.specs.Lists.{IsIn}
use Rattle.pp_rule.specs.Orders.{is_calm}
use Rattle.pp_rule.specs.Reached.{SameReached}
use Rattle.pp_rule.specs.Views.{slot}
use Rattle.pp_rule.specs.declared.views.WalkSlot.{WalkSlot}
use Rattle.pp_rule.proofs.Put.{in_either}
use Rattle.pp_rule.proofs.Undisturbed.{calm_stays, reached_back}
use Rattle.pp_base.specs.declared.purse.Purse.{Purse}
use Rattle.pp_base.specs.declared.source.Place.{Place}
use Rattle.pp_base.specs.Named.{NamedStep}
use Rattle.pp_base.specs.Sources.{side_number, source_place}
use Rattle.pp_base.proofs.Named.{made_append}
use Rattle.pp_calls.specs.Steps.{Stepped}
use Rattle.pp_shelf.specs.Runs.{steps_made}
use Rattle.pp_purse.specs.Steps.{PurseSteps}
use Rattle.pp_turns.proofs.CalmSteps.{purse_calm}
use Rattle.pp_turns.proofs.Stretches.{stepped_steps}
use Rattle.pp_trees.specs.Clean.{IsBare}
use Rattle.pp_trees.specs.Edges.{TreeView}
use Rattle.pp_trees.specs.Lone.{tree_opens, words_of, Sees}
use Rattle.pp_trees.specs.Searches.{caller_of}
use Rattle.pp_edges.proofs.Splicing.{side_two}
use Rattle.pp_seek.specs.declared.seek.Sought.{Sought}
use Rattle.pp_seek.specs.Lone.{LoneSought}
use Rattle.pp_seek.specs.Seeking.{IsSought}
use Rattle.pp_seek.specs.Trails.{Clears}
use Rattle.pp_seek.proofs.Lone.{run_of, state_at, stands_at, edge_plain, cell_is}
use Rattle.pp_seek.proofs.LoneCalm.{calm_made, silent_calm, trail_same}
use Rattle.pp_tree_calls.specs.declared.going.TreeGoing.{TreeGoing}
use Rattle.pp_tree_calls.specs.Lone.{LoneAt, LoneTurn}
use Rattle.pp_tree_calls.specs.Purses.{TwoRecords, Leaves, PutsAway}
use Rattle.pp_tree_calls.specs.Turned.{Idles}

module _ (z : Sizes) (v w : TreeView) (sv : Sees z v) (sw : Sees z w) (one : z.passes ≡ 1) where
  pub same_bare : SameReached 2 z (words_of z v) (words_of z w) → IsBare z (words_of z v) → IsBare z (words_of z w)
  same_bare same bare n s number low r =
      let was = reached_back 2 z (words_of z v) (words_of z w) same (omega arith) n r in
      ap flag_bit (same.cells n (2 + s) number (omega arith) was) ∙ bare n s number low was

  -- steps each of which is calm
  pub stepped_same : (s : Stepped v w) → ((x : Step) → IsIn x (steps_made v w) → is_calm x.kind ≡ true)
      → SameReached 2 z (words_of z v) (words_of z w)
  stepped_same s each = calm_stays 2 (omega arith) caller_of (tree_opens z) z v.known.number v w s.steps one sv.low (run_of z w sw)
      s.order s.made (λ x i. each x (subst (λ (l : List Step). IsIn x l) (sym (stepped_steps v w s)) i))

  pub idles_same : Idles z v w → SameReached 2 z (words_of z v) (words_of z w)
  idles_same i = stepped_same i.stepped i.calm

  pub purse_same : (names : List NamedStep) → PurseSteps z names v w → SameReached 2 z (words_of z v) (words_of z w)
  purse_same names p = calm_made z one names v w sv.low p.made (run_of z w sw) (λ s i. purse_calm z s (p.each s i))

  -- walk words are cleared, and then the purse is tidied
  pub clears_purse_same : (between : TreeView) → Clears v between → (names : List NamedStep) → PurseSteps z names between w
      → SameReached 2 z (words_of z v) (words_of z w)
  clears_purse_same between clears names p = calm_made z one (clears.trail.steps ++ names) v w sv.low
      (made_append clears.trail.steps names v between w clears.trail.did p.made) (run_of z w sw)
      (λ s i. ⊎_elim (λ (a : IsIn s clears.trail.steps). silent_calm s.kind (clears.trail.silent s a))
      (λ (b : IsIn s names). purse_calm z s (p.each s b)) (in_either s clears.trail.steps names i))

  -- what ends a call
  pub leaves_bare : (looks : Bool) (share : ℕ) (records : TwoRecords) (p p' : Purse) → Leaves looks z share records v w p p'
      → IsBare z (words_of z v) → IsBare z (words_of z w)
  leaves_bare true share records p p' l = same_bare (trail_same z v w one sv.low l.clears.trail (run_of z w sw))
  leaves_bare false share records p p' l = same_bare (clears_purse_same l.between l.clears l.tidies.names l.tidies.steps)

  pub puts_bare : (share : ℕ) (p p' : Purse) → PutsAway z share v w p p' → IsBare z (words_of z v) → IsBare z (words_of z w)
  puts_bare share p p' a = same_bare (clears_purse_same a.between a.clears a.names a.steps)

-- A turn that ended the call.
pub over_turn : (z : Sizes) (g g' : TreeGoing) (w : TreeView) (answer : Answer) (result : Turned) → g'.lost ≡ g.lost → result ≡ Done answer
    → IsBare z (words_of z w) → LoneTurn z g g' w result
over_turn z g g' w answer result lost done bare = record {
  lost = lost;
  on = subst (λ (r : Turned). IfOn r (LoneAt z g' w)) (sym done) tt;
  done = subst (λ (r : Turned). IfDone r (λ _. IsBare z (words_of z w))) (sym done) bare;
}

module _ (z : Sizes) (k : ℕ) (s : Sought) (v : TreeView) (sv : Sees z v) (is : IsSought v.known k s) (l : LoneSought z s v) where
  parent_stands : get_or (words_of z v) (cell_place z (slot v.known v.known.own.at).named (2 + side_number s.side)) 0 ≡ word_of s.edge
  parent_stands = ap (λ (at : Place). get_or (words_of z v) (source_place z v.known at s.side) 0) (sym is.parent_is) ∙ l.edge.stands

  -- The edge at which its seek ended has no FLAG and no TAG.
  pub sought_plain : (flag_bit (word_of s.edge) ≡ 0) × (tag_bit (word_of s.edge) ≡ 0)
  sought_plain = let n : ℕ = (slot v.known v.known.own.at).named in let r : ℕ = side_number s.side in let low = side_two s.side in
      let stands = sym (cell_is z (words_of z v) n (2 + r)) ∙ parent_stands in (
        state_at z v sv l.lone.one (flag_bit (word_of s.edge)) 0 (λ g b tr same. ap flag_bit (sym stands)
            ∙ (edge_plain z v sv g b tr same l.lone n r (stands_at z v sv g b tr same l.lone is.parent) low).0),
        state_at z v sv l.lone.one (tag_bit (word_of s.edge)) 0 (λ g b tr same. ap tag_bit (sym stands)
            ∙ (edge_plain z v sv g b tr same l.lone n r (stands_at z v sv g b tr same l.lone is.parent) low).1),
      )

-- equal walks hold the same
pub slots_same : (v w : TreeView) → w.known.walk ≡ v.known.walk → (j : ℕ) → slot w.known j ≡ slot v.known j
slots_same v w same j = ap (λ (walk : List WalkSlot). slot (record v.known { walk = walk }) j) same
