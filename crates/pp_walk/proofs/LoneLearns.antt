-- A lone pass that learns a note has seen no more steps, so what it knew stays.
use Rattle.std.proofs.Common.{◌≡◌, ℕ, ◌<◌, true, List, get_or, sym, ap, ◌∙◌, subst}
use Rattle.pp_link.specs.declared.layout.Sizes.{Sizes}
use Rattle.pp_link.specs.declared.link.Link.{Link}
use Rattle.pp_link.specs.Links.{flag_bit, target, word_of}
use Rattle.pp_link.specs.Words.{cell_word}
use Rattle.pp_model.specs.declared.Change.{Change}
use Rattle.pp_rule.specs.Lists.{BeginsWith}
use Rattle.pp_rule.specs.Orders.{entries_of, made_by, replayed}
use Rattle.pp_rule.specs.Views.{slot}
use Rattle.pp_base.specs.declared.source.Place.{Place}
use Rattle.pp_base.specs.declared.source.Side.TheVariants.{Left}
use Rattle.pp_base.specs.Sources.{source_place}
use Rattle.pp_calls.proofs.Lone.{learnt_same}
use Rattle.pp_lists.specs.Clean.{IsBare}
use Rattle.pp_lists.specs.Lists.{ListPass, ListStep}
use Rattle.pp_lists.specs.Turns.{ListView}
use Rattle.pp_walk.specs.declared.walk.Found.{Found}
use Rattle.pp_walk.specs.Bare.{IsBareBut, LinkStands, LoneEnd, LoneRemoved}
use Rattle.pp_walk.specs.Lone.{list_opens, words_of, Sees, IsLone}
use Rattle.pp_walk.proofs.Lone.{run_of}

-- the order is as it was
pub order_learnt : (z : Sizes) (v w : ListView) → z.passes ≡ 1 → Sees z v → Sees z w → BeginsWith w.order v.order
    → made_by v.known.number w.order ≡ made_by v.known.number v.order → w.order ≡ v.order
order_learnt z v w one sv sw begins same =
    learnt_same 1 (λ (c : Change). c.caller) (list_opens z) z v.known.number w.order v.order one sv.low (run_of z w sw) begins same

-- What is known of the pass and the order that it has seen are all that is asked of a view.
module _ (z : Sizes) (v w : ListView) (known : w.known ≡ v.known) (order : w.order ≡ v.order) where
  words_same : words_of z w ≡ words_of z v
  words_same = ap (λ (o : List ListStep). replayed (list_opens z) (entries_of o)) order

  pub lone_same : IsLone z v → IsLone z w
  lone_same l = record {
    one = l.one;
    bare = subst (IsBare z) (sym words_same) l.bare;
    held = subst (λ (q : ListPass). (j : ℕ) → j < 5 → (slot q j).held ≡ true
        → flag_bit (cell_word (words_of z w) z (slot q j).named 2) ≡ 0) (sym known)
        (subst (λ (ws : List ℕ). (j : ℕ) → j < 5 → (slot v.known j).held ≡ true
        → flag_bit (cell_word ws z (slot v.known j).named 2) ≡ 0) (sym words_same) l.held);
  }

  link_same : (anchor : Place) (word : ℕ) → LinkStands z anchor word v → LinkStands z anchor word w
  link_same anchor word l = record {
    one = l.one;
    stands = ap (λ (q : ListPass). get_or (words_of z w) (source_place z q anchor Left) 0) known
        ∙ (ap (λ (ws : List ℕ). get_or ws (source_place z v.known anchor Left) 0) words_same ∙ l.stands);
  }

  pub end_same : (f : Found) → LoneEnd z f v → LoneEnd z f w
  end_same f l = (lone_same l.0, link_same f.anchor (word_of f.end) l.1)

  pub removed_same : (anchor : Place) (first : Link) → LoneRemoved z anchor first v → LoneRemoved z anchor first w
  removed_same anchor first l =
      (subst (IsBareBut z (target (word_of first))) (sym words_same) l.0, link_same anchor (word_of first) l.1)
