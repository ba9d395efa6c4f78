-- Search order in the usual words, from where the root's walks go.
use Rattle.std.proofs.Common.{◌≡◌, ◌⊎◌, inl, inr, ⊎_elim, ℕ, zero, suc, ◌-◌, ◌<◌, ◌≤◌, refl, sym, ap, ◌∙◌, subst, arith}
use Rattle.std.proofs.lemmas.Bool.{cases_lt}
use Rattle.pp_link.specs.declared.layout.Sizes.{Sizes}
use Rattle.pp_link.specs.Links.{target, leaf_bit}
use Rattle.pp_trees.specs.Trees.{Heap, side, Internal, Meets, root, down, Sane, SearchTree}
use Rattle.pp_trees.proofs.Walking.{side_left, side_right, side_low, meets_internal, home_edge}

-- m lies below the side s of the attached internal record n
pub data Below (z : Sizes) (t : Heap) (n s : ℕ) : ℕ → Type 0 where
  child : {m : ℕ} → m ≡ target (t.link n s) → Below z t n s m
  under : {p m : ℕ} (r : ℕ) → Below z t n s p → Internal z t p → r < 2 → m ≡ target (t.link p r) → Below z t n s m

module _ (z : Sizes) (t : Heap) (sane : Sane z t) (tree : SearchTree z t) where
  -- the root's walks that come below a side of a record come over it, to that side
  pub over_side : (n s : ℕ) → Internal z t n → s < 2 → (k : ℕ) (m : ℕ) → Below z t n s m → Meets t k m → Meets t k n
      × (side k (t.key n) ≡ s)
  over_side n s i lt k m (child to) (root e) = absurd (tree.rooted n s i lt (sym to ∙ e))
  over_side n s i lt k m (child to) (down {n = p} at inner to') =
      let one = tree.once p (side k (t.key p)) n s (meets_internal z t sane tree k p at) (side_low k (t.key p)) i lt (sym to'
      ∙ to) in
      (subst (Meets t k) one.0 at, ap (λ (x : ℕ). side k (t.key x)) (sym one.0) ∙ one.1)
  over_side n s i lt k m (under r b j lr to) (root e) = absurd (tree.rooted _ r j lr (sym to ∙ e))
  over_side n s i lt k m (under {p = q} r b j lr to) (down {n = p} at inner to') =
      let one = tree.once p (side k (t.key p)) q r (meets_internal z t sane tree k p at) (side_low k (t.key p)) j lr (sym to'
      ∙ to) in
      over_side n s i lt k q b (subst (Meets t k) one.0 at)

  side_is_left : (k key : ℕ) → side k key ≡ 0 → k < key
  side_is_left k key e = ⊎_elim (λ (lt : k < key). lt) (λ (le : key ≤ k). let r = side_right k key le in
      absurd (omega arith)) (cases_lt k key)

  side_is_right : (k key : ℕ) → side k key ≡ 1 → key ≤ k
  side_is_right k key e = ⊎_elim (λ (lt : k < key). let l = side_left k key lt in
      absurd (omega arith)) (λ (le : key ≤ k). le) (cases_lt k key)

  -- internal records: those on the left have smaller keys, those on the right greater ones
  pub internal_order : (n s m : ℕ) → Internal z t n → s < 2 → Internal z t m → Below z t n s m → ((s ≡ 0)
      × (t.key m < t.key n)) ⊎ ((s ≡ 1) × (t.key n < t.key m))
  internal_order n s m i lt j b = let h = tree.internal_home m j in let x = over_side n s i lt (t.key m) m b h.1 in
      let y = over_side n s i lt (t.key m - 1) m b h.2 in
      go s lt x.1 y.1 h.0
    where
      go : (s : ℕ) → s < 2 → side (t.key m) (t.key n) ≡ s → side (t.key m - 1) (t.key n) ≡ s → 1 ≤ t.key m → ((s ≡ 0)
          × (t.key m < t.key n)) ⊎ ((s ≡ 1) × (t.key n < t.key m))
      go zero lt x y one = inl (refl, side_is_left (t.key m) (t.key n) x)
      go (suc zero) lt x y one = let le = side_is_right (t.key m - 1) (t.key n) y in inr (refl, omega arith)
      go (suc (suc s)) lt x y one = absurd (omega arith)

  -- leaves: those on the left have smaller keys, those on the right have at least its key
  pub leaf_order : (n s q r : ℕ) → Internal z t n → s < 2 → Internal z t q → r < 2 → leaf_bit (t.link q r) ≡ 1 → (q ≡ n)
      × (r ≡ s) ⊎ Below z t n s q
      → ((s ≡ 0) × (t.key (target (t.link q r)) < t.key n)) ⊎ ((s ≡ 1) × (t.key n ≤ t.key (target (t.link q r))))
  leaf_order n s q r i lt j lr leaf where_is = let l : ℕ = t.key (target (t.link q r)) in
      let h = home_edge z t sane tree q r j lr leaf in
      go s lt (⊎_elim (λ (at : (q ≡ n) × (r ≡ s)). ap (λ (x : ℕ). side l (t.key x)) (sym at.0) ∙ (h.1 ∙ at.1))
      (λ (b : Below z t n s q). (over_side n s i lt l q b h.0).1) where_is)
    where
      go : (s : ℕ) → s < 2 → side (t.key (target (t.link q r))) (t.key n) ≡ s
          → ((s ≡ 0) × (t.key (target (t.link q r)) < t.key n)) ⊎ ((s ≡ 1) × (t.key n ≤ t.key (target (t.link q r))))
      go zero lt x = inl (refl, side_is_left (t.key (target (t.link q r))) (t.key n) x)
      go (suc zero) lt x = inr (refl, side_is_right (t.key (target (t.link q r))) (t.key n) x)
      go (suc (suc s)) lt x = absurd (omega arith)
