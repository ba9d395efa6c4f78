-- Where two walks part: at one record alone, and different neighbours part at different ones.
use Rattle.std.proofs.Common.{◌≡◌, ◌≢◌, ℕ, ◌<◌, ◌≤◌, List, [], ◌∷◌, length}
use Rattle.std.proofs.Common.{refl, sym, ap, ◌∙◌, subst, arith}
use Rattle.pp_link.specs.declared.layout.Sizes.{Sizes}
use Rattle.pp_link.specs.Links.{target}
use Rattle.pp_trees.specs.Trees.{Heap, side, edge, Internal, Meets, root, down, Sane, SearchTree}
use Rattle.pp_trees.specs.Gathering.{Parts}
use Rattle.pp_trees.proofs.Walking.{side_low, meets_internal}
use Rattle.pp_trees.proofs.Spanning.{bound, Stacked}

-- the walks for j and k go on together from a record to n
pub data Both (t : Heap) (j k n : ℕ) : ℕ → Type 0 where
  at_last : {m : ℕ} → m ≡ n → Both t j k n m
  both_on : {m : ℕ} → side j (t.key m) ≡ side k (t.key m) → Both t j k n (target (edge t j m)) → Both t j k n m

-- they part once
both_once : (t : Heap) (j k n n' : ℕ) → side j (t.key n) ≢ side k (t.key n) → side j (t.key n') ≢ side k (t.key n') → (m : ℕ)
    → Both t j k n m → Both t j k n' m → n ≡ n'
both_once t j k n n' ne ne' m (at_last e) (at_last e') = sym e ∙ e'
both_once t j k n n' ne ne' m (at_last e) (both_on s b) = absurd (ne (subst (λ (x : ℕ). side j (t.key x) ≡ side k (t.key x)) e s))
both_once t j k n n' ne ne' m (both_on s b) (at_last e) = absurd (ne' (subst (λ (x : ℕ). side j (t.key x) ≡ side k
    (t.key x)) e s))
both_once t j k n n' ne ne' m (both_on s b) (both_on s' b') = both_once t j k n n' ne ne' (target (edge t j m)) b b'

module _ (z : Sizes) (t : Heap) (sane : Sane z t) (tree : SearchTree z t) where
  both_back : (j k n m : ℕ) → Meets t j m → Meets t k m → Both t j k n m → Both t j k n 1
  both_back j k n m (root e) m' b = subst (Both t j k n) e b
  both_back j k n m (down {n = p} a inner to) (root e) b =
      absurd (tree.rooted p (side j (t.key p)) (meets_internal z t sane tree j p a) (side_low j (t.key p)) (sym to ∙ e))
  both_back j k n m (down {n = p} a inner to) (down {n = q} a' inner' to') b =
      let one = tree.once p (side j (t.key p)) q (side k (t.key q)) (meets_internal z t sane tree j p a) (side_low j (t.key p))
      (meets_internal z t sane tree k q a') (side_low k (t.key q)) (sym to ∙ to') in
      both_back j k n p a (subst (Meets t k) (sym one.0) a')
      (both_on (one.1 ∙ ap (λ (x : ℕ). side k (t.key x)) (sym one.0)) (subst (Both t j k n) to b))

  pub parts_once : (j k n n' : ℕ) → Parts t j k n → Parts t j k n' → n ≡ n'
  parts_once j k n n' p p' = both_once t j k n n' p.apart p'.apart 1
      (both_back j k n n p.first p.second (at_last refl)) (both_back j k n' n' p'.first p'.second (at_last refl))

  -- where the walks for both come to m, they go on from there together to where they part
  later : (j k n m : ℕ) → side j (t.key n) ≢ side k (t.key n) → (x : ℕ) → Both t j k n x → Both t j k m x → Both t j k n m
  later j k n m ne x (at_last e) (at_last e') = at_last (sym e' ∙ e)
  later j k n m ne x (at_last e) (both_on s b) = absurd (ne (subst (λ (x : ℕ). side j (t.key x) ≡ side k (t.key x)) e s))
  later j k n m ne x (both_on s b) (at_last e') = subst (Both t j k n) e' (both_on s b)
  later j k n m ne x (both_on s b) (both_on s' b') = later j k n m ne (target (edge t j x)) b b'

  pub parts_last : (j k n m : ℕ) → Parts t j k n → Meets t j m → Meets t k m → Both t j k n m
  parts_last j k n m p a b = later j k n m p.apart 1 (both_back j k n n p.first p.second (at_last refl))
      (both_back j k m m a b (at_last refl))

-- What is known of the live leaf that was met last: the records on the stack that were there then are on its walk, those below
-- base.
-- The bounds above that are at most the limit.
abbrev pub Marks : Heap → ℕ → ℕ → ℕ → List ℕ → Type 0
Marks t k base limit [] = Unit {0}
Marks t k base limit (n ∷ ns) = (length ns < base → Meets t k n) × (base ≤ length ns → bound t ns ≤ limit)
    × Marks t k base limit ns

-- the record c was left for its right side, and it is on the walks of all keys from its own up to the limit
pub record Candidate (z : Sizes) (t : Heap) (k lo limit c : ℕ) : Type 0 where
  pub internal : Internal z t c
  pub meets : Meets t k c
  pub above : k < t.key c
  pub reached : t.key c ≤ lo
  pub right : (j : ℕ) → t.key c ≤ j → j < limit → Meets t j c

-- the whole stack as it is when a live leaf with one of the keys from lo on is met
pub marks_all : (z : Sizes) (t : Heap) (lo k limit base : ℕ) (ns : List ℕ) → Stacked z t lo ns → lo ≤ k → k < bound t ns
    → length ns ≤ base → Marks t k base limit ns
marks_all z t lo k limit base [] st a b le = tt
marks_all z t lo k limit base (n ∷ ns) st a b le = let e = st.0 in let falls = e.falls in (
  (λ lt. e.comes k a (omega arith)),
  (λ le'. absurd (omega arith)),
  marks_all z t lo k limit base ns st.1 a (omega arith)
      (omega arith),
)

-- the records below a lower base
pub marks_lower : (t : Heap) (k base base' limit limit' : ℕ) (ns : List ℕ) → base' ≤ base → length ns ≤ base'
    → Marks t k base limit ns → Marks t k base' limit' ns
marks_lower t k base base' limit limit' [] le most m = tt
marks_lower t k base base' limit limit' (n ∷ ns) le most m =
    ((λ lt. m.0 (omega arith)), (λ le'. absurd (omega arith)), marks_lower t k base base' limit limit' ns le (omega arith) m.2)
