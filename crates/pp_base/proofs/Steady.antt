-- What a pass has beside its seat agrees with what the seat knows after a step at its walk words or at a private record.
use Rattle.std.proofs.Common.{◌≡◌, ℕ, zero, suc, ◌+◌, ◌≤◌, Bool, true, false, cond, ◌&&◌, List, [], ◌∷◌, map, length, get_or, set, take}
use Rattle.std.proofs.Common.{refl, sym, ap, ◌∙◌, subst, arith}
use Rattle.std.proofs.Math.Decide.{ℕ_discrete}
use mathlib.Core.Logic.{dite}
use Rattle.atomic_table.specs.declared.shared.Seat.{Seat}
use Rattle.pp_link.specs.declared.layout.Sizes.{Sizes}
use Rattle.std.proofs.lemmas.List.{length-map}
use Rattle.pp_rule.specs.Lists.{IsIn, times}
use Rattle.pp_rule.specs.declared.views.WalkSlot.{WalkSlot}
use Rattle.pp_rule.specs.declared.views.Chain.{Chain}
use Rattle.pp_rule.specs.declared.views.PassState.{PassState}
use Rattle.pp_rule.specs.declared.views.SeatView.{SeatView}
use Rattle.pp_rule.specs.Views.{blank, slot}
use Rattle.pp_rule.specs.Rule.{number_of}
use Rattle.pp_link.specs.Links.{target}
use Rattle.pp_rule.specs.Steps.{IsAlone, with_walk, holding, Confirmed}
use Rattle.pp_rule.specs.Opening.{share_of}
use Rattle.pp_base.specs.declared.purse.Purse.{Purse}
use Rattle.pp_base.specs.declared.source.Side.{Side}
use Rattle.pp_base.specs.declared.source.Place.{Place}
use Rattle.pp_base.specs.declared.source.Place.TheVariants.{Head, Walk}
use Rattle.pp_base.specs.Sources.{side_number, learning_at}
use Rattle.pp_base.proofs.Telling.{made_alone, made_known}
use Rattle.pp_base.specs.Passes.{known, named_of, in_hand_of, IsPassOf, IsSame, HasRoom, Keeping}

-- the names where one walk word has another slot
pub named_set : (ws : List WalkSlot) (i : ℕ) (w : WalkSlot) → map named_of (set ws i w) ≡ set (map named_of ws) i w.named
named_set [] i w = refl
named_set (v ∷ ws) zero w = refl
named_set (v ∷ ws) (suc i) w = ap (λ (ns : List ℕ). v.named ∷ ns) (named_set ws i w)

-- the names where it has a slot that names the same record
pub named_same : (ws : List WalkSlot) (i : ℕ) (w : WalkSlot) → w.named ≡ (get_or ws i blank).named
    → map named_of (set ws i w) ≡ map named_of ws
named_same [] i w same = refl
named_same (v ∷ ws) zero w same = ap (λ (n : ℕ). n ∷ map named_of ws) same
named_same (v ∷ ws) (suc i) w same = ap (λ (ns : List ℕ). v.named ∷ ns) (named_same ws i w same)

module _ {E A W : Type 0} where
  -- what the lists of the pass speak of is as it was
  pub record SameLists (s s' : Seat Unit (SeatView E A W)) : Type 0 where
    pub number : (known s').number ≡ (known s).number
    pub sizes : (known s').sizes ≡ (known s).sizes
    pub owned : map number_of (known s').owned ≡ map number_of (known s).owned
    pub retired_are : (known s').retired ≡ (known s).retired
    pub frontier : (known s').frontier ≡ (known s).frontier
    pub chains : (known s').chains ≡ (known s).chains

  pub keeping_steady : (sentinels sides : ℕ) (s s' : Seat Unit (SeatView E A W)) (z : Sizes) (number share : ℕ) (walk walk' : List ℕ)
      (p : Purse)
      → Keeping sentinels sides s number share walk p
      → IsAlone s'.me → IsPassOf z (known s') → SameLists s s' → map named_of (known s').walk ≡ walk' → Keeping sentinels sides s' number
      share walk' p
  keeping_steady sentinels sides s s' z number share walk walk' p k lone pass same walk_is = record {
    lone = lone;
    pass = subst (λ (y : Sizes). IsPassOf y (known s')) (sym pass.sizes) pass;
    number_is = same.number ∙ k.number_is;
    share_is = k.share_is ∙ ap (λ (y : Sizes). share_of sentinels y number) (sym same.sizes);
    walk_is = walk_is;
    frontier = same.frontier ∙ k.frontier;
    free = λ n. subst (λ (l : List ℕ). times n p.free.items ≤ times n l) (sym same.owned) (k.free n);
    retired_are = subst (λ (l : List ℕ). take (length l) p.retired.items ≡ l) (sym same.retired_are) k.retired_are;
    retired_count = subst (λ (l : List ℕ). length p.retired.items ≡ length l + p.spent) (sym same.retired_are) k.retired_count;
    chains = ap (λ (l : List Chain). map in_hand_of l) same.chains ∙ k.chains;
    few = k.few;
    counted = let was = k.counted in
        let count = sym (length-map (known s').owned number_of) ∙ (ap (λ (l : List ℕ). length l) same.owned ∙ length-map (known s).owned
        number_of) in
        omega (arith, was, count);
    chained = λ c i. k.chained c (subst (λ (l : List Chain). IsIn c l) same.chains i);
    room = subst (λ (y : Sizes). HasRoom y p) (sym same.sizes) k.room;
  }

  -- the pass is known as before
  pub lists_idle : (s s' : Seat Unit (SeatView E A W)) → known s' ≡ known s → SameLists s s'
  lists_idle s s' is = record {
    number = ap (λ q. q.number) is;
    sizes = ap (λ q. q.sizes) is;
    owned = ap (λ q. map number_of q.owned) is;
    retired_are = ap (λ q. q.retired) is;
    frontier = ap (λ q. q.frontier) is;
    chains = ap (λ q. q.chains) is;
  }

  -- one walk word of it has another slot
  pub lists_walk : (s s' : Seat Unit (SeatView E A W)) (i : ℕ) (w : WalkSlot) (own : W)
      → known s' ≡ record (known s) { walk = set (known s).walk i w; own = own } → SameLists s s'
  lists_walk s s' i w own is = record {
    number = ap (λ q. q.number) is;
    sizes = ap (λ q. q.sizes) is;
    owned = ap (λ q. map number_of q.owned) is;
    retired_are = ap (λ q. q.retired) is;
    frontier = ap (λ q. q.frontier) is;
    chains = ap (λ q. q.chains) is;
  }

  -- its walk word i was stored
  pub keeping_stored : (sentinels sides : ℕ) (s s' : Seat Unit (SeatView E A W)) (z : Sizes) (number share : ℕ) (walk : List ℕ) (p : Purse)
      (i : ℕ) (w : WalkSlot) (own : W)
      → Keeping sentinels sides s number share walk p → IsAlone s'.me → IsPassOf z (known s')
      → known s' ≡ record (known s) { walk = set (known s).walk i w; own = own } → Keeping sentinels sides s' number share
      (set walk i w.named) p
  keeping_stored sentinels sides s s' z number share walk p i w own k lone pass is = keeping_steady sentinels sides s s' z number share walk
      (set walk i w.named) p k lone pass
      (lists_walk s s' i w own is) (ap (λ q. map named_of q.walk) is ∙ (named_set (known s).walk i w ∙ ap (λ
      (ns : List ℕ). set ns i w.named) k.walk_is))

  -- more is known of the record that its walk word i names
  pub keeping_learnt : (sentinels sides : ℕ) (s s' : Seat Unit (SeatView E A W)) (z : Sizes) (number share : ℕ) (walk : List ℕ) (p : Purse)
      (i : ℕ) (w : WalkSlot)
      → Keeping sentinels sides s number share walk p → IsAlone s'.me → IsPassOf z (known s') → w.named ≡ (slot (known s) i).named
      → known s' ≡ with_walk i w (known s) → Keeping sentinels sides s' number share walk p
  keeping_learnt sentinels sides s s' z number share walk p i w k lone pass named is = keeping_steady sentinels sides s s' z number share
      walk walk p k lone pass
      (lists_walk s s' i w (known s).own is) (ap (λ q. map named_of q.walk) is ∙ (named_same (known s).walk i w named ∙ k.walk_is))

  -- nothing more is known of it
  pub keeping_idle : (sentinels sides : ℕ) (s s' : Seat Unit (SeatView E A W)) (z : Sizes) (number share : ℕ) (walk : List ℕ) (p : Purse)
      → Keeping sentinels sides s number share walk p → IsAlone s'.me → IsPassOf z (known s') → known s' ≡ known s
      → Keeping sentinels sides s' number share walk p
  keeping_idle sentinels sides s s' z number share walk p k lone pass is = keeping_steady sentinels sides s s' z number share walk walk p k
      lone pass
      (lists_idle s s' is) (ap (λ q. map named_of q.walk) is ∙ k.walk_is)

module _ {E A W : Type 0} where
  -- the pass has loaded a link, and perhaps learnt it
  pub keeping_loaded : (sentinels sides : ℕ) (s s' : Seat Unit (SeatView E A W)) (z : Sizes) (number share : ℕ) (walk : List ℕ) (p : Purse)
      (frozen : ℕ → Bool) (at : Place) (side : Side) (n : ℕ)
      → Keeping sentinels sides s number share walk p → IsAlone s'.me → IsPassOf z (known s') → known s' ≡ learning_at frozen at side n
      (known s)
      → Keeping sentinels sides s' number share walk p
  keeping_loaded sentinels sides s s' z number share walk p frozen
      (Head h) side n k lone pass is = keeping_idle sentinels sides s s' z number share walk p k lone pass is
  keeping_loaded sentinels sides s s' z number share walk p frozen (Walk i) side n k lone pass is = by (frozen n && (slot (known s) i).held)
      is
    where
      by : (b : Bool) → known s' ≡ cond b (with_walk i (record (slot (known s) i) {
        learnt = (side_number side, n) ∷ (slot
            (known s) i).learnt;
      }) (known s)) (known s)
          → Keeping sentinels sides s' number share walk p
      by false e = keeping_idle sentinels sides s s' z number share walk p k lone pass e
      by true e = keeping_learnt sentinels sides s s' z number share walk p i (record (slot (known s) i) {
        learnt = (side_number side, n) ∷ (slot
            (known s) i).learnt;
      }) k lone pass refl e

  -- the pass has loaded a link again, and perhaps holds the record that it leads to
  pub keeping_confirmed : (sentinels sides : ℕ) (s s' : Seat Unit (SeatView E A W)) (z : Sizes) (number share : ℕ) (walk : List ℕ)
      (p : Purse)
      (frozen : ℕ → Bool) (at : Place) (side : Side) (i first n place : ℕ)
      → Keeping sentinels sides s number share walk p → s'.me.1 ≡ [] → IsPassOf z (known s') → (slot (known s) i).named ≡ target first
      → Confirmed i first n place (learning_at frozen at side n (known s)) s.me.0 s'.me.0
      → Keeping sentinels sides s' number share walk p
  keeping_confirmed sentinels sides s s' z number share walk p frozen at side i first n place k none pass named c =
      dite (ℕ_discrete n first)
      (λ e. let held = c.same e in keeping_learnt sentinels sides s s' z number share walk p i (holding (target first) held.0 held.1.0) k
      (made_alone s'.me none held.1.1) pass (sym named)
      (made_known s'.me held.1.1))
      (λ ne. keeping_loaded sentinels sides s s' z number share walk p frozen at side n k
      (made_alone s'.me none (c.other ne)) pass
      (made_known s'.me (c.other ne)))

  -- it is the same pass
  pub same_known : (s s' : Seat Unit (SeatView E A W)) (q : PassState W) → known s' ≡ q → q.number ≡ (known s).number
      → q.sizes ≡ (known s).sizes → s'.table_id ≡ s.table_id → IsSame s s'
  same_known s s' q is number sizes table = record {
    table_is = table;
    number = ap (λ q. q.number) is ∙ number;
    sizes = ap (λ q. q.sizes) is
        ∙ sizes;
  }

  pub same_loaded : (s s' : Seat Unit (SeatView E A W)) (frozen : ℕ → Bool) (at : Place) (side : Side) (n : ℕ)
      → known s' ≡ learning_at frozen at side n (known s)
      → s'.table_id ≡ s.table_id → IsSame s s'
  same_loaded s s' frozen (Head h) side n is table = same_known s s' (known s) is refl refl table
  same_loaded s s' frozen (Walk i) side n is table = by (frozen n && (slot (known s) i).held) is
    where
      by : (b : Bool) → known s' ≡ cond b (with_walk i (record (slot (known s) i) {
        learnt = (side_number side, n) ∷ (slot
            (known s) i).learnt;
      }) (known s)) (known s) → IsSame s s'
      by false e = same_known s s' (known s) e refl refl table
      by true e = same_known s s' (with_walk i (record (slot (known s) i) { learnt = (side_number side, n) ∷ (slot (known s) i).learnt })
          (known s)) e refl refl table

  pub same_confirmed : (s s' : Seat Unit (SeatView E A W)) (frozen : ℕ → Bool) (at : Place) (side : Side) (i first n place : ℕ)
      → Confirmed i first n place (learning_at frozen at side n (known s)) s.me.0 s'.me.0 → s'.table_id ≡ s.table_id → IsSame s s'
  same_confirmed s s' frozen at side i first n place c table = dite (ℕ_discrete n first)
      (λ e. let held = c.same e in same_known s s' (with_walk i (holding (target first) held.0 held.1.0) (known s))
      (made_known s'.me held.1.1) refl refl table)
      (λ ne. same_loaded s s' frozen at side n (made_known s'.me (c.other ne)) table)

-- the number in a walk word
pub named_at : (ws : List WalkSlot) (walk : List ℕ) (i : ℕ) → map named_of ws ≡ walk → get_or walk i 0 ≡ (get_or ws i blank).named
named_at ws walk i is = ap (λ (ns : List ℕ). get_or ns i 0) (sym is) ∙ go ws i
  where
    go : (ws : List WalkSlot) (i : ℕ) → get_or (map named_of ws) i 0 ≡ (get_or ws i blank).named
    go [] i = refl
    go (w ∷ ws) zero = refl
    go (w ∷ ws) (suc i) = go ws i
