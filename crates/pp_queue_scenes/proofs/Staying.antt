-- The passes of a scene after one of them made calls.
use Rattle.std.proofs.Common.{◌≡◌, ℕ, zero, suc, ◌<◌, List, [], ◌∷◌, ◌++◌, length, slice_set, refl, sym, ap, ◌∙◌, subst}
use Rattle.std.proofs.Common.{Some, slice_get}
use Rattle.std.proofs.Common.{get_or}
use Rattle.std.proofs.lemmas.Option.{same_Some, slice_get_read}
use Rattle.pp_model.specs.Lists.{AtEach}
use Rattle.pp_rule.specs.declared.shape.Shape.{Ghosts}
use Rattle.pp_base.specs.declared.pool.Pass.{Pass}
use Rattle.pp_base.specs.Passes.{known}
use Rattle.pp_queues.specs.declared.calls.QueueChange.{QueueChange}
use Rattle.pp_queues.specs.declared.calls.QueuePlaced.{QueuePlaced}
use Rattle.pp_queues.specs.declared.own.QueueOwn.{QueueOwn}
use Rattle.pp_queue.specs.declared.queue.Queue.{Queue}
use Rattle.pp_queue.specs.Passes.{IsReady, IsNew, queue_sizes}
use Rattle.pp_queue_scenes.specs.Staff.{AreReady}

-- what is true at each place is so after one of them was set
each_set : {A : Type 0} (P : ℕ → A → Type 0) (xs : List A) (i : ℕ) (y : A) → AtEach xs P → P i y → AtEach (slice_set xs i y) P
each_set P [] i y each here k x at = each k x at
each_set P (z ∷ xs) zero y each here zero x at = subst (λ v. P 0 v) (same_Some y x at) here
each_set P (z ∷ xs) zero y each here (suc k) x at = each (suc k) x at
each_set P (z ∷ xs) (suc i) y each here zero x at = each zero x at
each_set P (z ∷ xs) (suc i) y each here (suc k) x at = each_set (λ j. P (suc j)) xs i y (λ j. each (suc j)) here k x at

-- what is true of each of a list is so of its last one, and of those before
pub each_before : {A : Type 0} (P : A → Type 0) (xs : List A) (y : A) → AtEach (xs ++ y ∷ []) (λ k x. P x) → AtEach xs (λ k x. P x)
each_before P [] y each k x at = absurd cc
each_before P (z ∷ xs) y each zero x at = each zero x at
each_before P (z ∷ xs) y each (suc k) x at = each_before P xs y (λ j. each (suc j)) k x at

pub each_last : {A : Type 0} (P : A → Type 0) (xs : List A) (y : A) → AtEach (xs ++ y ∷ []) (λ k x. P x) → P y
each_last P [] y each = each zero y refl
each_last P (z ∷ xs) y each = each_last P xs y (λ j. each (suc j))

set_long : {A : Type 0} (xs : List A) (i : ℕ) (y : A) → length (slice_set xs i y) ≡ length xs
set_long [] i y = refl
set_long (z ∷ xs) zero y = refl
set_long (z ∷ xs) (suc i) y = ap suc (set_long xs i y)

module _ {S : Type 0} {shape : Ghosts S QueueChange QueuePlaced QueueOwn} where
  -- A pass made calls, and is between them again.
  pub ready_set : (q : Queue) (passes : List (Pass S QueueChange QueuePlaced QueueOwn shape)) (i : ℕ)
      (was now : Pass S QueueChange QueuePlaced QueueOwn shape) → AreReady q passes → slice_get passes i ≡ Some was
      → IsReady q now → (known now.seat).number ≡ (known was.seat).number → AreReady q (slice_set passes i now)
  ready_set q passes i was now ready at same number = record {
    all = set_long passes i now ∙ ready.all;
    each = each_set (λ k p. IsReady q p) passes i now ready.each same;
    numbered = each_set (λ k p. (known p.seat).number ≡ k) passes i now ready.numbered (number ∙ ready.numbered i was at);
  }

  -- the pass of a caller that is read from the list
  pub pass_at : (q : Queue) (passes : List (Pass S QueueChange QueuePlaced QueueOwn shape)) (i : ℕ)
      (p : Pass S QueueChange QueuePlaced QueueOwn shape) → AreReady q passes → i < q.pool.layout.passes → p ≡ get_or passes i p
      → slice_get passes i ≡ Some p
  pass_at q passes i p ready low is = slice_get_read passes q.pool.layout.passes i p (sym ready.all) low is

  pub ready_at : (q : Queue) (passes : List (Pass S QueueChange QueuePlaced QueueOwn shape)) (i : ℕ)
      (p : Pass S QueueChange QueuePlaced QueueOwn shape) → AreReady q passes → i < q.pool.layout.passes → p ≡ get_or passes i p
      → IsReady q p
  ready_at q passes i p ready low is = ready.each i p (pass_at q passes i p ready low is)

  -- the passes with which a queue starts
  pub ready_new : (q : Queue) (callers records : ℕ) (passes : List (Pass S QueueChange QueuePlaced QueueOwn shape))
      → q.pool.layout ≡ queue_sizes callers records → length passes ≡ callers → AtEach passes (λ k p. IsReady q p)
      → AtEach passes (λ k p. IsNew (queue_sizes callers records) k p) → AreReady q passes
  ready_new q callers records passes sizes count each new = record {
    all = count ∙ sym (ap (λ z. z.passes) sizes);
    each = each;
    numbered = λ k p at. ap (λ v. v.caller) (new k p at).seen_so;
  }
