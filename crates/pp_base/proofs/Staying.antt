-- What stays of a pass over the own steps of a structure.
use Rattle.std.proofs.Common.{◌≡◌, ℕ, ◌+◌, ◌<◌, ◌≤◌, List, [], map, length, take, sym, ap, ◌∙◌, subst, arith}
use mathlib.Core.Option.{some}
use lib.ListN.{get_elem?}
use Rattle.atomic_table.specs.Table.{Me}
use Rattle.atomic_table.specs.declared.shared.Seat.{Seat}
use Rattle.pp_link.specs.declared.layout.Sizes.{Sizes}
use Rattle.pp_rule.specs.declared.views.PrivateRecord.{PrivateRecord}
use Rattle.pp_rule.specs.declared.views.Chain.{Chain}
use Rattle.pp_rule.specs.declared.views.PassState.{PassState}
use Rattle.pp_rule.specs.declared.views.SeatView.{SeatView}
use Rattle.pp_rule.specs.Lists.{IsIn, times, remove_at}
use Rattle.pp_rule.specs.Rule.{number_of}
use Rattle.pp_rule.specs.Steps.{IsAlone, MadeStep}
use Rattle.pp_rule.specs.Opening.{share_of}
use Rattle.pp_rule.proofs.Times.{one_fewer, times_fewer}
use Rattle.pp_base.specs.declared.purse.Purse.{Purse}
use Rattle.pp_base.specs.Passes.{known, named_of, owned_numbers, in_hand_of, IsPassOf, IsSame, HasRoom, Keeping}
use Rattle.pp_base.proofs.Telling.{made_alone, made_known}
use Rattle.pp_base.proofs.Steady.{keeping_steady}

-- But for the shape's part, for what it holds and for what it owns the pass is as it was.
pub record GivesUp {W : Type 0} (q q' : PassState W) : Type 0 where
  pub number : q'.number ≡ q.number
  pub sizes : q'.sizes ≡ q.sizes
  pub retired_are : q'.retired ≡ q.retired
  pub frontier : q'.frontier ≡ q.frontier
  pub chains : q'.chains ≡ q.chains
  pub names : map named_of q'.walk ≡ map named_of q.walk

module _ {E A W : Type 0} where
  -- The pass is alone in its seat, and but for the shape's part and what it holds in its walk words it is as it was.
  pub record StaysPass (v : SeatView E A W) (m : Me Unit (SeatView E A W)) : Type 0 where
    pub lone : IsAlone m
    pub number : m.0.known.number ≡ v.known.number
    pub sizes : m.0.known.sizes ≡ v.known.sizes
    pub owned : m.0.known.owned ≡ v.known.owned
    pub retired_are : m.0.known.retired ≡ v.known.retired
    pub frontier : m.0.known.frontier ≡ v.known.frontier
    pub chains : m.0.known.chains ≡ v.known.chains
    pub names : map named_of m.0.known.walk ≡ map named_of v.known.walk

  pub stays : {kind place word left : ℕ} {changes : List E} {placed : List A} {q : PassState W} {v : SeatView E A W}
      {m : Me Unit (SeatView E A W)} → m.1 ≡ []
      → MadeStep kind place word left changes placed q v m.0 → q.number ≡ v.known.number → q.sizes ≡ v.known.sizes
      → q.owned ≡ v.known.owned → q.retired ≡ v.known.retired → q.frontier ≡ v.known.frontier → q.chains ≡ v.known.chains
      → map named_of q.walk ≡ map named_of v.known.walk → StaysPass v m
  stays {m = m} none made number sizes owned retired frontier chains names = let is = made_known m made in record {
    lone = made_alone m none made;
    number = ap (λ (q : PassState W). q.number) is ∙ number;
    sizes = ap (λ (q : PassState W). q.sizes) is ∙ sizes;
    owned = ap (λ (q : PassState W). q.owned) is ∙ owned;
    retired_are = ap (λ (q : PassState W). q.retired) is ∙ retired;
    frontier = ap (λ (q : PassState W). q.frontier) is ∙ frontier;
    chains = ap (λ (q : PassState W). q.chains) is ∙ chains;
    names = ap (λ (q : PassState W). map named_of q.walk) is ∙ names;
  }

  -- so it agrees with what its seat knows
  pub keeping_stays : (sentinels sides : ℕ) (s s' : Seat Unit (SeatView E A W)) (z : Sizes) (number share : ℕ)
      (walk : List ℕ) (p : Purse)
      → Keeping sentinels sides s number share walk p → IsPassOf z (known s') → StaysPass s.me.0 s'.me
      → Keeping sentinels sides s' number share walk p
  keeping_stays sentinels sides s s' z number share walk p k pass y =
      keeping_steady sentinels sides s s' z number share walk walk p k y.lone pass
      record {
        number = y.number;
        sizes = y.sizes;
        owned = ap (map number_of) y.owned;
        retired_are = y.retired_are;
        frontier = y.frontier;
        chains = y.chains;
      }
      (y.names ∙ k.walk_is)

  pub same_stays : (s s' : Seat Unit (SeatView E A W)) → StaysPass s.me.0 s'.me → s'.table_id ≡ s.table_id → IsSame s s'
  same_stays s s' y table = record { table_is = table; number = y.number; sizes = y.sizes }

  -- It may own fewer records after a step that published some that were taken.
  pub keeping_given : (sentinels sides : ℕ) (s s' : Seat Unit (SeatView E A W)) (z : Sizes) (number share : ℕ)
      (walk : List ℕ) (p : Purse)
      → Keeping sentinels sides s number share walk p → IsAlone s'.me → IsPassOf z (known s') → GivesUp (known s) (known s')
      → ((n : ℕ) → times n p.free.items ≤ times n (owned_numbers (known s'))) → length (known s').owned ≤ length (known s).owned
      → Keeping sentinels sides s' number share walk p
  keeping_given sentinels sides s s' z number share walk p k lone pass y free fewer = record {
    lone = lone;
    pass = subst (λ (x : Sizes). IsPassOf x (known s')) (sym pass.sizes) pass;
    number_is = y.number ∙ k.number_is;
    share_is = k.share_is ∙ ap (λ (x : Sizes). share_of sentinels x number) (sym y.sizes);
    walk_is = y.names ∙ k.walk_is;
    frontier = y.frontier ∙ k.frontier;
    free = free;
    retired_are = subst (λ (l : List ℕ). take (length l) p.retired.items ≡ l) (sym y.retired_are) k.retired_are;
    retired_count = subst (λ (l : List ℕ). length p.retired.items ≡ length l + p.spent) (sym y.retired_are) k.retired_count;
    chains = ap (λ (l : List Chain). map in_hand_of l) y.chains ∙ k.chains;
    few = k.few;
    counted = let was = k.counted in omega arith;
    chained = λ c i. k.chained c (subst (λ (l : List Chain). IsIn c l) y.chains i);
    room = subst (λ (x : Sizes). HasRoom x p) (sym y.sizes) k.room;
  }

  -- so it agrees with what its seat knows after it gave up one that isn't on its free list
  pub keeping_gave : (sentinels sides : ℕ) (s s' : Seat Unit (SeatView E A W)) (z : Sizes) (number share : ℕ)
      (walk : List ℕ) (p : Purse)
      (i : ℕ) (d : PrivateRecord) → Keeping sentinels sides s number share walk p → IsAlone s'.me → IsPassOf z (known s')
      → GivesUp (known s) (known s') → get_elem? (known s).owned i ≡ some d → (known s').owned ≡ remove_at i (known s).owned
      → times d.number p.free.items < times d.number (owned_numbers (known s)) → Keeping sentinels sides s' number share walk p
  keeping_gave sentinels sides s s' z number share walk p i d k lone pass y at owned taken =
      keeping_given sentinels sides s s' z number share walk p k lone pass y
      (λ n. subst (λ (ds : List PrivateRecord). times n p.free.items ≤ times n (map number_of ds)) (sym owned)
      (times_fewer p.free.items (known s).owned i d at k.free taken n))
      (let less = one_fewer (known s).owned i d at in let count = ap (λ (ds : List PrivateRecord). length ds) owned in
      omega arith)
