-- The exchange of an insert, after its records were written.
use Rattle.std.proofs.Common.{◌≡◌, ◌≢◌, ℕ, zero, suc, ◌+◌, ◌*◌, ◌%◌, ◌<◌, true, List, [], ◌∷◌}
use Rattle.std.proofs.Common.{refl, sym, ap, ◌∙◌, subst}
use Rattle.std.proofs.Common.{⊎_elim, inl, inr, arith}
use mathlib.Core.Option.{some, some-injective, some-ne-none}
use lib.ListN.{get_elem?}
use Rattle.pp_link.specs.declared.layout.Sizes.{Sizes}
use Rattle.pp_link.specs.Links.{word_of, flag_bit, tag_bit, leaf_bit, invalid_bit}
use Rattle.pp_link.specs.Places.{cell_place}
use Rattle.pp_model.specs.declared.Call.{Call}
use Rattle.pp_model.specs.declared.Call.TheVariants.{Insert}
use Rattle.pp_model.specs.declared.Reply.TheVariants.{Added}
use Rattle.pp_rule.specs.declared.views.PrivateRecord.{PrivateRecord}
use Rattle.pp_rule.specs.Lists.{IsIn, remove_at}
use Rattle.pp_rule.specs.Orders.{read_step}
use Rattle.pp_rule.specs.Steps.{MadeQuietStep}
use Rattle.pp_rule.specs.Views.{slot, halves, value_of}
use Rattle.pp_rule.proofs.Made.{known_after}
use Rattle.pp_rule.proofs.Put.{in_cases}
use Rattle.pp_base.specs.declared.source.Place.TheVariants.{Walk}
use Rattle.pp_base.specs.Named.{NamedStep, misses}
use Rattle.pp_base.specs.declared.purse.Purse.{Purse}
use Rattle.pp_base.specs.Passes.{IsPassOf, IsAtRest}
use Rattle.pp_pool.specs.Taken.{one_fewer_out}
use Rattle.pp_base.specs.Sources.{side_number, source_place, IsReadable}
use Rattle.pp_edges.specs.Edging.{MayPublishAt, PublishedBy}
use Rattle.pp_edges.specs.declared.edges.Published.{Published}
use Rattle.pp_edges.specs.declared.edges.Published.TheVariants as published
use Rattle.pp_edges.proofs.Splicing.{readable_at}
use Rattle.pp_seek.specs.declared.seek.Sought.{Sought}
use Rattle.pp_seek.specs.Trails.{reads}
use Rattle.pp_trees.specs.Searches.{TreePass}
use Rattle.pp_trees.specs.Edges.{TreeView, publish_step}
use Rattle.pp_turns.specs.Turns.{Unplaced, Struck}
use Rattle.pp_turns.proofs.Placing.{unplaced_on, struck_at, struck_on}
use Rattle.pp_tree_turns.specs.Turning.{Names}
use Rattle.pp_tree_turns.specs.Filling.{Has, OwnsAlike, Wrote, Filled, FilledOver, PublishesNext, AreBefore}
use Rattle.pp_tree_turns.specs.Filling.{PublishedTo}
use Rattle.pp_tree_turns.proofs.Seeks.{step_names, names_both}
use Rattle.pp_tree_turns.proofs.Exchanges.{quiet_names, quiet_unplaced, parent_place, walk_far}
use Rattle.pp_tree_turns.proofs.Written.{wrote_both}

-- an entry stands at some index of the list without another one
among_others : {A : Type 0} (l : List A) (i j : ℕ) (a : A) → i ≢ j → get_elem? l j ≡ some a
    → (r : ℕ) × (get_elem? (remove_at i l) r ≡ some a)
among_others [] i j a ne at = absurd (some-ne-none a (sym at))
among_others (x ∷ xs) zero zero a ne at = absurd (ne refl)
among_others (x ∷ xs) zero (suc j) a ne at = (j, at)
among_others (x ∷ xs) (suc i) zero a ne at = (0, at)
among_others (x ∷ xs) (suc i) (suc j) a ne at = let r = among_others xs i j a (λ e. ne (ap suc e)) at in (suc r.0, r.1)

pub plain_leaf : (w : ℕ) → invalid_bit w ≡ 0 → leaf_bit w ≡ 1 → flag_bit w ≡ 0 → tag_bit w ≡ 0 → w % 16 ≡ 8
plain_leaf w a b c d = omega arith

module _ (z : Sizes) (q q' : TreePass) (s : Sought) (k v : ℕ) (may : PublishesNext q s k v) (alike : OwnsAlike q q') where
  parent_there : s.parent ≡ Walk q'.own.at
  parent_there = may.sought.parent_is ∙ ap (λ (x : TreePass). Walk x.own.at) (sym alike.is)

  pub publish_readable : IsReadable 2 z q' s.parent s.side
  publish_readable = readable_at z q' s.parent s.side q'.own.at parent_there
      (subst (λ (x : TreePass). x.own.at < 5) (sym alike.is) may.sought.parent)
      (subst (λ (x : TreePass). (slot x x.own.at).held ≡ true) (sym alike.is) may.sought.parent_held)

  pub publish_far : 17 * z.passes < source_place z q' s.parent s.side
  publish_far = walk_far z q' s.parent q'.own.at s.side parent_there

  pub may_publish : (m c here : ℕ) (leaf inner : PrivateRecord) → m ≢ c → Has q' m leaf → Has q' c inner → leaf.key ≡ k
      → value_of (halves leaf.value leaf.high) ≡ v → leaf.left ≡ 0 → leaf.right ≡ 0 → here ≡ (slot q s.word).key
      → (k < here → (inner.key ≡ here) × (inner.left ≡ 16 * m + 8) × (inner.right ≡ word_of s.edge))
      → (here < k → (inner.key ≡ k) × (inner.left ≡ word_of s.edge) × (inner.right ≡ 16 * m + 8))
      → m < 4294967296 → c < 4294967296
      → MayPublishAt z q' m c (source_place z q' s.parent s.side) (word_of s.edge)
  may_publish m c here leaf inner ne hm hc key value left right here_is below above small_m small_c =
      subst (λ (x : TreePass). MayPublishAt z x m c (source_place z q' s.parent s.side) (word_of s.edge)) (sym alike.is) record {
        key = k;
        value = v;
        may = record {
          at = may.sought.parent;
          call = may.call;
          going = may.going;
          side_is = side_number s.side;
          side_of = may.sought.side_is;
          place_is = parent_place z q' s.parent s.side parent_there
              ∙ ap (λ (x : TreePass). cell_place z (slot x x.own.at).named (2 + side_number s.side)) alike.is;
          plain = plain_leaf (word_of s.edge) may.sought.edge.0 may.sought.edge.1 may.plain.0 may.plain.1;
          leaf = s.word;
          leaf_low = may.sought.leaf.0;
          leaf_held = may.sought.leaf.1;
          leaf_is = sym may.sought.leaf_is;
          other = may.other;
          i_leaf = hm.index;
          d_leaf = leaf;
          owned_leaf = hm.at;
          leaf_fields = (key, value, left, right);
          i_inner = others.0;
          d_inner = inner;
          owned_inner = others.1;
          below = λ less. let b = below (subst (λ (x : ℕ). k < x) (sym here_is) less) in
              (b.0 ∙ here_is, b.1 ∙ ap (λ (n : ℕ). 16 * n + 8) (sym hm.number_is), b.2);
          above = λ less. let a = above (subst (λ (x : ℕ). x < k) (sym here_is) less) in
              (a.0, a.1, a.2 ∙ ap (λ (n : ℕ). 16 * n + 8) (sym hm.number_is));
          small = (let e = hm.number_is in omega arith, let e = hc.number_is in omega arith);
        };
        leaf_is = hm.number_is;
        inner_is = hc.number_is;
      }
    where
      apart : hm.index ≢ hc.index
      apart e = ne (sym hm.number_is ∙ (ap (λ (d : PrivateRecord). d.number) (some-injective leaf inner
          (sym hm.at ∙ (ap (get_elem? q'.owned) e ∙ hc.at))) ∙ hc.number_is))

      others : (r : ℕ) × (get_elem? (remove_at hm.index q'.owned) r ≡ some inner)
      others = among_others q'.owned hm.index hc.index inner apart hc.at

-- What the whole turn tells: the leaf's key was read, the two records were written, and the edge was exchanged.
module _ (z : Sizes) (s : Sought) (k value m c here read : ℕ) (v v1 v2 v3 w : TreeView) (may : PublishesNext v.known s k value)
    (made : MadeQuietStep read_step read here here v.known v v1) (leaf : Filled m k value 0 0 v1 v2)
    (inner : FilledOver c m k here (word_of s.edge) v2 v3) where
  known1 : v1.known ≡ v.known
  known1 = known_after _ _ _ _ _ _ _ v v1 made

  writes : Wrote v1 v3
  writes = wrote_both v1 v2 v3 leaf.wrote inner.wrote

  pub alike_then : OwnsAlike v.known v3.known
  alike_then = subst (λ (q : TreePass). OwnsAlike q v3.known) known1 writes.same

  abbrev before_names : List NamedStep
  before_names = reads read here ∷ writes.names

  before_made : Names before_names v v3
  before_made = names_both (reads read here ∷ []) writes.names v v1 v3 (quiet_names v v1 made refl) writes.did

  before_unplaced : Unplaced v v3
  before_unplaced = unplaced_on v v1 v3 (ap (λ (q : TreePass). q.number) known1) (quiet_unplaced v v1 made refl) writes.unplaced

  before_aside : AreBefore before_names
  before_aside x i = ⊎_elim (λ (e : x ≡ reads read here). inr (ap (λ (y : NamedStep). y.kind) e))
      (λ (j : IsIn x writes.names). inl (writes.each x j)) (in_cases x (reads read here) writes.names i)

  call_then : v3.known.own.call ≡ Insert k value
  call_then = ap (λ (q : TreePass). q.own.call) alike_then.is ∙ may.call

  pub published_to : (place : ℕ) → 17 * z.passes < place → (r : Published) → PublishedBy m c place (word_of s.edge) v3 w r
      → PublishedTo z m c k value r v w
  published_to place far published.Done a = record {
    before = before_names;
    aside = before_aside;
    place = place;
    word = word_of s.edge;
    names = names_both before_names (record { kind = publish_step; place = place; word = word_of s.edge } ∷ []) v v3 w before_made
        (step_names v3 w a.made refl (λ own stands. a.stands));
    struck = struck_on (Insert k value) Added v v3 w before_made.stepped.number before_made.stepped.order before_unplaced
        (subst (λ (x : Call). Struck x Added v3 w) (sym a.call_is ∙ call_then)
        (struck_at (Insert a.key a.value) Added _ v3 w refl refl a.made));
  }
  published_to place far (published.Changed leaf' inner' found) a = (
    record {
      before = before_names;
      aside = before_aside;
      place = place;
      far = far;
      found = word_of found;
      names = names_both before_names (misses place (word_of found) ∷ []) v v3 w before_made (quiet_names v3 w a.2.made refl);
      unplaced = unplaced_on v v3 w before_made.stepped.number before_unplaced (quiet_unplaced v3 w a.2.made refl);
      same = subst (λ (q : TreePass). OwnsAlike v.known q) (sym (known_after _ _ _ _ _ _ _ v3 w a.2.made)) alike_then;
    },
    a.0,
    a.1,
  )

pub number_small : (z : Sizes) (q : TreePass) (n : ℕ) (d : PrivateRecord) → IsPassOf z q → Has q n d → n < 4294967296
number_small z q n d pass h = let number = pass.owned d (h.index, h.at) in let most = number.1 in let few = pass.within.records in
    let e = h.number_is in omega arith

-- A pass at rest is so after its records were written, and after the exchange.
pub rest_alike : (q q' : TreePass) (p : Purse) → OwnsAlike q q' → IsAtRest q p → IsAtRest q' p
rest_alike q q' p alike r = subst (λ (x : TreePass). IsAtRest x p) (sym alike.is) record {
  scan = r.scan;
  spent = r.spent;
  frontier = r.frontier;
}

pub rest_published : (m c place first : ℕ) (v w : TreeView) (p p' : Purse) (r : Published) → PublishedBy m c place first v w r
    → (r ≡ published.Done → p' ≡ one_fewer_out (one_fewer_out p)) → ((r ≡ published.Done → ⊥) → p' ≡ p)
    → IsAtRest v.known p → IsAtRest w.known p'
rest_published m c place first v w p p' published.Done a spent kept r = subst (λ (x : Purse). IsAtRest w.known x) (sym (spent refl))
    (subst (λ (q : TreePass). IsAtRest q (one_fewer_out (one_fewer_out p))) (sym (known_after _ _ _ _ _ _ _ v w a.made)) record {
      scan = r.scan;
      spent = r.spent;
      frontier = r.frontier;
    })
rest_published m c place first v w p p' (published.Changed leaf inner found) a spent kept r =
    subst (λ (x : Purse). IsAtRest w.known x) (sym (kept (λ is. absurd cc)))
    (subst (λ (q : TreePass). IsAtRest q p) (sym (known_after _ _ _ _ _ _ _ v w a.2.made)) r)
