-- What a scene knows of the passes that it began with, and after one of them went on.
use Rattle.std.proofs.Common.{◌≡◌, ◌≢◌, ℕ, zero, suc, ◌<◌, List, [], ◌∷◌, ◌++◌, map, length, slice_set, refl, sym, ap, ◌∙◌, subst}
use Rattle.std.proofs.Common.{arith, length-append}
use Rattle.std.proofs.lemmas.Option.{same_Some}
use Rattle.atomic_table.specs.Seated.{TableId}
use Rattle.atomic_table.specs.Table.{Me}
use Rattle.atomic_table.specs.declared.shared.Seat.{Seat}
use Rattle.pp_link.specs.declared.layout.Sizes.{Sizes}
use Rattle.pp_model.specs.Lists.{AtEach}
use Rattle.pp_rule.specs.declared.views.WalkSlot.{WalkSlot}
use Rattle.pp_rule.specs.declared.views.SeatView.{SeatView}
use Rattle.pp_rule.specs.declared.shape.Shape.{Ghosts}
use Rattle.pp_rule.specs.Views.{blank, naming, slot}
use Rattle.pp_rule.specs.Lists.{times}
use Rattle.pp_rule.specs.Opening.{dealt}
use Rattle.pp_rule.proofs.OpeningWords.{each_replicate}
use Rattle.pp_base.specs.declared.pool.Pass.{Pass}
use Rattle.pp_base.specs.declared.purse.Purse.{Purse}
use Rattle.pp_rule.specs.declared.views.PassState.{PassState}
use Rattle.pp_rule.proofs.Made.{known_after}
use Rattle.pp_base.specs.Made.{ClearedWord}
use Rattle.pp_base.proofs.Steady.{named_set}
use Rattle.pp_base.specs.Passes.{known, view, named_of, owned_numbers, IsIdle, IsSame, Keeping}
use Rattle.pp_pool.specs.Taken.{IsPrivate, Took, GaveBack}
use Rattle.pp_pool.proofs.Taking.{private_took, private_gave}
use Rattle.pp_pool.specs.Opened.{IsNewPass, AreNewPasses}
use Rattle.pp_pool.specs.Closed.{IsSeatOf}
use Rattle.pp_scenes.specs.Rows.{HoldsFirst}

-- one of them is another now, of which the same is true
pub each_set : {A : Type 0} (P : ℕ → A → Type 0) (xs : List A) (i : ℕ) (y : A) → AtEach xs P → P i y → AtEach (slice_set xs i y) P
each_set P [] i y each here k x at = each k x at
each_set P (z ∷ xs) zero y each here zero x at = subst (λ v. P 0 v) (same_Some y x at) here
each_set P (z ∷ xs) zero y each here (suc k) x at = each (suc k) x at
each_set P (z ∷ xs) (suc i) y each here zero x at = each zero x at
each_set P (z ∷ xs) (suc i) y each here (suc k) x at = each_set (λ j. P (suc j)) xs i y (λ j. each (suc j)) here k x at

-- nothing is left of a list of two after both were taken from its end
two_taken : {A : Type 0} (xs ys zs : List A) (x y : A) → length xs ≡ 2 → xs ≡ ys ++ y ∷ [] → ys ≡ zs ++ x ∷ [] → zs ≡ []
two_taken xs ys [] x y two last first = refl
two_taken xs ys (z ∷ zs) x y two last first = let all = ap (λ l. length l) last ∙ length-append ys (y ∷ []) in
    let rest = ap (λ l. length l) first ∙ length-append (z ∷ zs) (x ∷ []) in absurd (omega (arith, all, rest))

-- so it had those
two_were : {A : Type 0} (xs ys zs : List A) (x y : A) → length xs ≡ 2 → xs ≡ ys ++ y ∷ [] → ys ≡ zs ++ x ∷ [] → xs ≡ x ∷ y ∷ []
two_were xs ys zs x y two last first = last ∙ ap (λ l. l ++ y ∷ []) (first ∙ ap (λ l. l ++ x ∷ []) (two_taken xs ys zs x y two last first))

-- what is true of two is true of each of a list of them
each_of_two : {A : Type 0} (P : ℕ → A → Type 0) (x y : A) → P 0 x → P 1 y → AtEach (x ∷ y ∷ []) P
each_of_two P x y px py zero v at = subst (λ u. P 0 u) (same_Some x v at) px
each_of_two P x y px py (suc zero) v at = subst (λ u. P 1 u) (same_Some y v at) py
each_of_two P x y px py (suc (suc k)) v at = absurd cc

-- both were taken from the end of a list, and two others were put there
pub both_back : {A : Type 0} (P : ℕ → A → Type 0) (xs ys zs us vs : List A) (x y u v : A) → length xs ≡ 2 → xs ≡ ys ++ y ∷ []
    → ys ≡ zs ++ x ∷ [] → us ≡ zs ++ u ∷ [] → vs ≡ us ++ v ∷ [] → P 0 u → P 1 v → AtEach vs P
both_back P xs ys zs us vs x y u v two last first back again pu pv = subst (λ l. AtEach l P)
    (sym (again ∙ ap (λ l. l ++ v ∷ []) (back ∙ ap (λ l. l ++ u ∷ []) (two_taken xs ys zs x y two last first))))
    (each_of_two P u v pu pv)

pub same_self : {E A W : Type 0} (s : Seat Unit (SeatView E A W)) → IsSame s s
same_self s = record { table_is = refl; number = refl; sizes = refl }

module _ {S E A W : Type 0} {shape : Ghosts S E A W} (table : TableId) (z : Sizes) (xs ys zs : List (Pass S E A W shape))
    (x y : Pass S E A W shape) (each : AreNewPasses table z xs) (two : length xs ≡ 2) (last : xs ≡ ys ++ y ∷ [])
    (first : ys ≡ zs ++ x ∷ []) where
  -- the first and the second of two passes of a pool that opened
  pub opened_first : IsNewPass table z 0 x
  opened_first = subst (λ l. AreNewPasses table z l) (two_were xs ys zs x y two last first) each 0 x refl

  pub opened_second : IsNewPass table z 1 y
  opened_second = subst (λ l. AreNewPasses table z l) (two_were xs ys zs x y two last first) each 1 y refl

module _ {S E A W : Type 0} {shape : Ghosts S E A W} where
  -- a new pass holds nothing
  pub holds_none : (table : TableId) (z : Sizes) (c : ℕ) (p : Pass S E A W shape) → IsNewPass table z c p → HoldsFirst 0 (known p.seat)
  unfolding dealt
  holds_none table z c p new = record {
    held = λ i low five. absurd (omega arith);
    clear = λ i low five. let blank_is : slot (known p.seat) i ≡ blank =
        ap (λ (m : Me Unit (SeatView E A W)). slot m.0.known i) new.knows ∙ each_replicate 5 i blank in
        ap (λ (w : WalkSlot). w.named) blank_is;
  }

  -- after its steps it still has the seat of its number
  pub seat_after : (table : TableId) (y z : Sizes) (c : ℕ) (p : Pass S E A W shape) (s : Seat Unit (SeatView E A W)) → IsNewPass table y c p
      → z ≡ y → IsSame p.seat s → IsSeatOf table z c s
  unfolding dealt
  seat_after table y z c p s new sizes same = (
    record {
      table_is = same.table_is ∙ new.fits.table_is;
      sizes = same.sizes ∙ (new.fits.sizes ∙ sym sizes);
    },
    same.number ∙ ap (λ (m : Me Unit (SeatView E A W)). m.0.known.number) new.knows,
  )

module _ {E A W : Type 0} (s s' : Seat Unit (SeatView E A W)) (p p' : Purse) (m : ℕ) where
  -- a record is private still where nothing has changed that tells of it
  pub private_same : owned_numbers (known s') ≡ owned_numbers (known s) → p' ≡ p → IsPrivate (known s) p m → IsPrivate (known s') p' m
  private_same owned purse was = subst (λ (l : List ℕ). times m p'.free.items < times m l) (sym owned)
      (subst (λ (r : Purse). times m r.free.items < times m (owned_numbers (known s))) (sym purse) was)

  -- it is after another one was taken
  pub private_next : (n : ℕ) → s' ≡ s → Took n p p' → IsPrivate (known s) p m → IsPrivate (known s') p' m
  private_next n seat took was = subst (λ (t : Seat Unit (SeatView E A W)). IsPrivate (known t) p' m) (sym seat)
      (private_took (known s) n p p' m took was)

  -- it is after another one was given back
  pub private_yet : (n : ℕ) → n ≢ m → s' ≡ s → GaveBack n p p' → IsPrivate (known s) p m → IsPrivate (known s') p' m
  private_yet n other seat gave was = subst (λ (t : Seat Unit (SeatView E A W)). IsPrivate (known t) p' m) (sym seat)
      (private_gave (known s) n p p' m other gave was)

-- an idle pass is idle after it cleared its first walk word
pub idle_cleared : {E A W : Type 0} (sentinels sides : ℕ) (z : Sizes) (forget : ℕ → W → W) (s s' : Seat Unit (SeatView E A W))
    (n share n' share' : ℕ) (ws ws' : List ℕ) (p p' : Purse) → Keeping sentinels sides s n share ws p
    → Keeping sentinels sides s' n' share' ws' p' → ClearedWord z forget 0 s s' → p' ≡ p → IsIdle ws p → IsIdle ws' p'
idle_cleared {E} {A} {W} sentinels sides z forget s s' n share n' share' ws ws' p p' k k' cleared same idle = (
  sym k'.walk_is ∙ (ap (λ (q : PassState W). map named_of q.walk) (known_after _ _ _ _ [] [] _ (view s) (view s') cleared)
      ∙ (named_set (known s).walk 0 (naming 0) ∙ ap (λ (l : List ℕ). slice_set l 0 0) (k.walk_is ∙ idle.0))),
  ap (λ (r : Purse). r.going) same ∙ idle.1,
  ap (λ (r : Purse). r.taken) same ∙ idle.2,
)
