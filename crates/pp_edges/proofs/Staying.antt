-- What stays of a pass over a tree's own steps.
use Rattle.std.proofs.Common.{◌≡◌, ℕ, ◌+◌, ◌-◌, ◌<◌, ◌≤◌, List, [], ◌∷◌, map, length}
use Rattle.std.proofs.Common.{sym, refl, ap, ◌∙◌, subst, arith}
use Rattle.std.proofs.Math.Decide.{ℕ_discrete}
use mathlib.Core.Logic.{dite}
use Rattle.atomic_table.specs.Table.{Me}
use Rattle.atomic_table.specs.declared.shared.Seat.{Seat}
use Rattle.pp_link.specs.declared.layout.Sizes.{Sizes}
use Rattle.pp_rule.specs.declared.views.PrivateRecord.{PrivateRecord}
use Rattle.pp_rule.specs.Lists.{OnceBy, times, remove_at}
use Rattle.pp_rule.specs.Rule.{number_of}
use Rattle.pp_rule.specs.Steps.{IsAlone}
use Rattle.pp_rule.proofs.Counting.{times_here, times_else}
use Rattle.pp_rule.proofs.Times.{one_fewer, times_removed, times_once}
use Rattle.pp_base.specs.declared.purse.Purse.{Purse}
use Rattle.pp_base.specs.Passes.{known, named_of, owned_numbers, IsPassOf, IsSame, Keeping}
use Rattle.pp_base.proofs.Telling.{made_alone, made_known}
use Rattle.pp_base.proofs.Staying.{StaysPass, stays, keeping_stays, keeping_given}
use Rattle.pp_trees.specs.Searches.{TreePass}
use Rattle.pp_trees.specs.Edges.{TreeView, Publishes, Flags, Tags}
use Rattle.pp_edges.specs.Edging.{OwnsBoth, PublishesAt}

abbrev pub TreeMe : Type 0
TreeMe = Me Unit TreeView

module _ {v : TreeView} {m : TreeMe} (none : m.1 ≡ []) where
  pub flags_stays : (leaf place k first n : ℕ) → Flags leaf place k first n v m.0 → StaysPass v m
  flags_stays leaf place k first n t = dite (ℕ_discrete n first)
      (λ e. stays none (t.same e) refl refl refl refl refl refl refl) (λ ne. stays none
      (t.other ne) refl refl refl refl refl refl refl)

  pub tags_stays : (place sd n : ℕ) → Tags place sd n v m.0 → StaysPass v m
  tags_stays place sd n t = stays none t.made refl refl refl refl refl refl refl

pub publishes_alone : (i j m c place k v first n : ℕ) (before : TreeView) (me : TreeMe) → me.1 ≡ []
    → Publishes i j m c place k v first n before me.0 → IsAlone me
publishes_alone i j m c place k v first n before me none t = dite (ℕ_discrete n first) (λ e. made_alone me none (t.same e))
    (λ ne. made_alone me none (t.other ne))

-- the records that the pass owns beside the two that were published
abbrev pub others_of : ℕ → ℕ → List PrivateRecord → List PrivateRecord
others_of i j ds = remove_at j (remove_at i ds)

abbrev pub numbers : List PrivateRecord → List ℕ
numbers ds = map number_of ds

-- each number is owned as often as before, but for the two, which were owned once and no more
module _ (q : TreePass) (m c i j : ℕ) (o : OwnsBoth q m c i j) where
  pub two_fewer : length (others_of i j q.owned) + 2 ≡ length q.owned
  two_fewer = let a = one_fewer q.owned i o.leaf o.leaf_at in let b = one_fewer
      (remove_at i q.owned) j o.inner o.inner_at in omega arith

  split : (n : ℕ) → times n (numbers q.owned) ≡ times n (m ∷ c ∷ numbers (others_of i j q.owned))
  split n = times_removed n q.owned i o.leaf o.leaf_at ∙ (front (numbers (remove_at i q.owned)) (o.inner.number ∷ numbers
      (others_of i j q.owned))
      (times_removed n (remove_at i q.owned) j o.inner o.inner_at) ∙ (ap (λ (x : ℕ). times n (x ∷ o.inner.number ∷ numbers
      (others_of i j q.owned))) o.leaf_is
      ∙ ap (λ (x : ℕ). times n (m ∷ x ∷ numbers (others_of i j q.owned))) o.inner_is))
    where
      front : (xs ys : List ℕ) → times n xs ≡ times n ys → times n (o.leaf.number ∷ xs) ≡ times n (o.leaf.number ∷ ys)
      front xs ys e = dite (ℕ_discrete o.leaf.number n)
          (λ hit. let a = times_here n o.leaf.number xs hit in let b = times_here n o.leaf.number ys hit in omega arith)
          (λ ne. let a = times_else n o.leaf.number xs ne in let b = times_else n o.leaf.number ys ne in omega arith)

  -- of a list that has less of both
  pub still_free : (free : List ℕ) → ((n : ℕ) → times n free ≤ times n (numbers q.owned))
      → times m free < times m (numbers q.owned)
      → times c free < times c (numbers q.owned) → OnceBy number_of q.owned → (n : ℕ)
      → times n free ≤ times n (numbers (others_of i j q.owned))
  still_free free most less_m less_c once n = let was = most n in let all = split n in
      let one = times_once n q.owned once in
      let xs : List ℕ = numbers (others_of i j q.owned) in dite (ℕ_discrete m n)
      (λ hit. let a = times_here n m (c ∷ xs) hit in let less : times n free < times n (numbers q.owned) =
      subst (λ (x : ℕ). times x free < times x (numbers q.owned)) hit less_m in omega arith)
      (λ nm. let a = times_else n m (c ∷ xs) nm in dite (ℕ_discrete c n)
      (λ hit. let b = times_here n c xs hit in let less : times n free < times n (numbers q.owned) =
      subst (λ (x : ℕ). times x free < times x (numbers q.owned)) hit less_c in omega arith)
      (λ nc. let b = times_else n c xs nc in omega arith))

  pub gone_leaf : OnceBy number_of q.owned → times m (numbers (others_of i j q.owned)) ≡ 0
  gone_leaf once = let all = split m in let one = times_once m q.owned once in
      let xs : List ℕ = numbers (others_of i j q.owned) in
      let a = times_here m m (c ∷ xs) refl in more m c xs (omega arith)
    where
      more : (n c : ℕ) (xs : List ℕ) → times n (c ∷ xs) ≡ 0 → times n xs ≡ 0
      more n c xs e = dite (ℕ_discrete c n) (λ hit. let b = times_here n c xs hit in
          absurd (omega arith)) (λ ne. let b = times_else n c xs ne in omega arith)

  pub gone_inner : OnceBy number_of q.owned → times c (numbers (others_of i j q.owned)) ≡ 0
  gone_inner once = let all = split c in let one = times_once c q.owned once in
      let xs : List ℕ = numbers (others_of i j q.owned) in
      let b = times_here c c xs refl in dite (ℕ_discrete m c)
      (λ hit. let a = times_here c m (c ∷ xs) hit in absurd (omega arith))
      (λ ne. let a = times_else c m (c ∷ xs) ne in omega arith)

-- What a pass has beside its seat agrees with what the seat knows after an exchange to publish two records that were taken.
module _ (s s' : Seat Unit TreeView) (z : Sizes) (number share : ℕ) (walk : List ℕ) (p : Purse) (m c place first found : ℕ)
    (kept : Keeping 5 2 s number share walk p) (pass : IsPassOf z (known s')) (none : s'.me.1 ≡ [])
    (taken_m : times m p.free.items < times m (owned_numbers (known s))) (taken_c : times c p.free.items < times c
    (owned_numbers (known s)))
    (t : PublishesAt m c place first found s.me.0 s'.me.0) where
  pub keeping_published : Keeping 5 2 s' number share walk p
  keeping_published = dite (ℕ_discrete found first)
      (λ hit. let made = t.made.same hit in let is = made_known s'.me made in
      let owned = ap (λ (q : TreePass). q.owned) is in let gone = two_fewer (known s) m c t.i t.j t.owns in
      let count = ap (λ (ds : List PrivateRecord). length ds) owned in
      keeping_given 5 2 s s' z number share walk p kept (made_alone s'.me none made) pass record {
        number = ap (λ (q : TreePass). q.number) is;
        sizes = ap (λ (q : TreePass). q.sizes) is;
        retired_are = ap (λ (q : TreePass). q.retired) is;
        frontier = ap (λ (q : TreePass). q.frontier) is;
        chains = ap (λ (q : TreePass). q.chains) is;
        names = ap (λ (q : TreePass). map named_of q.walk) is;
      }
      (λ n. subst (λ (ds : List PrivateRecord). times n p.free.items ≤ times n (map number_of ds)) (sym owned)
      (still_free (known s) m c t.i t.j t.owns p.free.items kept.free taken_m taken_c
      kept.pass.owned_once n))
      (omega arith))
      (λ ne. keeping_stays 5 2 s s' z number share walk p kept pass (stays none (t.made.other ne) refl refl refl refl refl refl refl))

  pub same_published : s'.table_id ≡ s.table_id → IsSame s s'
  same_published table = dite (ℕ_discrete found first)
      (λ hit. let is = made_known s'.me (t.made.same hit) in
      record { table_is = table; number = ap (λ (q : TreePass). q.number) is; sizes = ap (λ (q : TreePass). q.sizes) is })
      (λ ne. let is = made_known s'.me (t.made.other ne) in
      record { table_is = table; number = ap (λ (q : TreePass). q.number) is; sizes = ap (λ (q : TreePass). q.sizes) is })

  -- where it was published, the two are told to be spent one after the other
  pub spends_leaf : found ≡ first → (times m (owned_numbers (known s')) ≤ times m p.free.items)
      × (length (known s').owned < length p.free.items + p.taken)
  spends_leaf hit = let owned = ap (λ (q : TreePass). q.owned) (made_known s'.me (t.made.same hit)) in
      let once = kept.pass.owned_once in
      let none_left : times m (owned_numbers (known s')) ≡ 0 = ap (λ (ds : List PrivateRecord). times m (numbers ds)) owned
      ∙ gone_leaf (known s) m c t.i t.j t.owns once in
      let was = kept.counted in let fewer = two_fewer (known s) m c t.i t.j t.owns in
      let count = ap (λ (ds : List PrivateRecord). length ds) owned in (omega arith, omega arith)

  pub spends_inner : found ≡ first → (times c (owned_numbers (known s')) ≤ times c p.free.items)
      × (length (known s').owned < length p.free.items + (p.taken - 1))
  spends_inner hit = let owned = ap (λ (q : TreePass). q.owned) (made_known s'.me (t.made.same hit)) in
      let once = kept.pass.owned_once in
      let none_left : times c (owned_numbers (known s')) ≡ 0 = ap (λ (ds : List PrivateRecord). times c (numbers ds)) owned
      ∙ gone_inner (known s) m c t.i t.j t.owns once in
      let was = kept.counted in let fewer = two_fewer (known s) m c t.i t.j t.owns in
      let count = ap (λ (ds : List PrivateRecord). length ds) owned in (omega arith, omega arith)
