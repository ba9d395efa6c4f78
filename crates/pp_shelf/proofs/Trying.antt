-- One try more to put a record on a shelf, or to take one from there.
use Rattle.std.proofs.Common.{◌≡◌, ◌≢◌, ℕ, ◌+◌, List, [], ◌∷◌, ◌++◌, length, refl, sym, ap, ap₂}
use Rattle.std.proofs.Common.{◌∙◌, subst, length-append, ⊎_elim, arith}
use Rattle.std.specs.Prelude.{replicate, Option, Some, None, is_some, IfSome, IfNone, true, false}
use Rattle.std.proofs.Math.Bool.{false≢true}
use Rattle.std.proofs.lemmas.List.{length-replicate, replicate-append-replicate}
use Rattle.atomic_table.specs.declared.shared.Seat.{Seat}
use Rattle.pp_link.specs.declared.layout.Sizes.{Sizes}
use Rattle.pp_link.specs.Places.{shelf_place}
use Rattle.pp_rule.specs.Lists.{IsIn, remove_at}
use Rattle.pp_rule.specs.Orders.{missed_step, shelve_step, unshelve_step}
use Rattle.pp_rule.specs.Steps.{MadeQuietStep}
use Rattle.pp_rule.specs.Opening.{share_of}
use Rattle.pp_rule.specs.Shelves.{giving, getting, PutOnShelf, TookFromShelf}
use Rattle.pp_rule.specs.declared.views.PassState.{PassState}
use Rattle.pp_rule.specs.declared.views.SeatView.{SeatView}
use Rattle.pp_rule.proofs.Made.{known_after}
use Rattle.pp_rule.proofs.Put.{in_nil, in_either, in_one}
use Rattle.pp_base.specs.declared.purse.Purse.{Purse}
use Rattle.pp_base.specs.Passes.{IsSame, Keeping, IsAtRest}
use Rattle.pp_base.specs.Named.{misses, unshelves, in_turn, Made, MadeOne}
use Rattle.pp_base.specs.Shelves.{FreeWithoutLast, FreeWithLast}
use Rattle.pp_base.proofs.Named.{made_in_turn, plain_one}
use Rattle.pp_shelf.specs.Shelves.{MovesFree, MissesShelves, EmptiesNone}

module _ {W : Type 0} where
  -- a pass of which the records that it owns and its free list alone changed
  pub moves_free : (q q' : PassState W) (p p' : Purse) → q' ≡ record q { owned = q'.owned } → p' ≡ record p { free = p'.free }
      → MovesFree q q' p p'
  moves_free q q' p p' known lists = record {
    known = known;
    lists = lists;
    rest = λ rest. subst (λ (x : PassState W). IsAtRest x p') (sym known)
        (subst (λ (r : Purse). IsAtRest (record q { owned = q'.owned }) r) (sym lists)
        record { scan = rest.scan; spent = rest.spent; frontier = rest.frontier });
  }

  pub moves_none : (q q' : PassState W) (p p' : Purse) → q' ≡ q → p' ≡ p → MovesFree q q' p p'
  moves_none q q' p p' known lists = moves_free q q' p p'
      (subst (λ (x : PassState W). x ≡ record q { owned = x.owned }) (sym known) refl)
      (subst (λ (r : Purse). r ≡ record p { free = r.free }) (sym lists) refl)

  pub moves_more : (q q' q'' : PassState W) (p p' p'' : Purse) → MovesFree q q' p p' → MovesFree q' q'' p' p''
      → MovesFree q q'' p p''
  moves_more q q' q'' p p' p'' m n = moves_free q q'' p p''
      (n.known ∙ ap (λ (x : PassState W). record x { owned = q''.owned }) m.known)
      (n.lists ∙ ap (λ (r : Purse). record r { free = p''.free }) m.lists)

module _ {E A W : Type 0} (z : Sizes) where
  pub misses_none : (v : SeatView E A W) → MissesShelves z 0 v v
  misses_none v = record { words = []; count_is = refl; taken = λ word i. absurd (in_nil word i); steps = refl; known_is = refl }

  -- one exchange more that found another word than 0
  pub misses_more : (count found : ℕ) (u v w : SeatView E A W) → MissesShelves z count u v → found ≢ 0
      → MadeQuietStep missed_step (shelf_place z count) found found v.known v w → MissesShelves z (count + 1) u w
  misses_more count found u v w h other made =
      let at : shelf_place z count ≡ shelf_place z 0 + length h.words = let long = h.count_is in omega arith in record {
        words = h.words ++ found ∷ [];
        count_is = length-append h.words (found ∷ []) ∙ ap (λ (n : ℕ). n + 1) h.count_is;
        taken = λ word i. ⊎_elim (h.taken word) (λ (last : IsIn word (found ∷ [])).
            subst (λ (x : ℕ). x ≢ 0) (in_one word found last) other) (in_either word h.words (found ∷ []) i);
        steps = made_in_turn misses (shelf_place z 0) h.words found u v w h.steps
            (subst (λ (k : ℕ). MadeOne (misses k found) v w) at
            (plain_one (misses (shelf_place z count) found) v.known v w refl refl made));
        known_is = known_after missed_step (shelf_place z count) found found [] [] v.known v w made ∙ h.known_is;
      }

  pub empties_none : (v : SeatView E A W) → EmptiesNone z 0 v v
  empties_none v = record { steps = refl; known_is = refl }

  -- one swap more that found 0
  pub empties_more : (count : ℕ) (u v w : SeatView E A W) → EmptiesNone z count u v
      → MadeQuietStep unshelve_step (shelf_place z count) 0 0 v.known v w → EmptiesNone z (count + 1) u w
  empties_more count u v w h made =
      let at : shelf_place z count ≡ shelf_place z 0 + length (replicate count 0) =
      let long = length-replicate {A = ℕ} count 0 in omega (arith, long) in record {
        steps = subst (λ (l : List ℕ). Made (in_turn unshelves (shelf_place z 0) l) u w) (replicate-append-replicate count 1 0)
            (made_in_turn unshelves (shelf_place z 0) (replicate count 0) 0 u v w h.steps
            (subst (λ (k : ℕ). MadeOne (unshelves k 0) v w) at
            (plain_one (unshelves (shelf_place z count) 0) v.known v w refl refl made)));
        known_is = known_after unshelve_step (shelf_place z count) 0 0 [] [] v.known v w made ∙ h.known_is;
      }

module _ {E A W : Type 0} (n place : ℕ) (q : PassState W) (v w : SeatView E A W) (p p' : Purse) (same : v.known ≡ q) where
  -- a number that went to a shelf, or came from one
  pub moves_put : PutOnShelf n place v w → FreeWithoutLast n p p' → MovesFree q w.known p p'
  moves_put put free = moves_free q w.known p p'
      (let is : w.known ≡ record q { owned = remove_at put.index v.known.owned } =
      known_after shelve_step place 0 n [] [] (giving put.index v.known) v w put.made
      ∙ ap (λ (x : PassState W). record x { owned = remove_at put.index v.known.owned }) same in
      subst (λ (x : PassState W). x ≡ record q { owned = x.owned }) (sym is) refl) free.rest

  pub moves_took : TookFromShelf n place v w → FreeWithLast n p p' → MovesFree q w.known p p'
  moves_took took free = moves_free q w.known p p'
      (let is : w.known ≡ record q { owned = v.known.owned ++ took.freed ∷ [] } =
      known_after unshelve_step place n 0 [] [] (getting took.freed v.known) v w took.made
      ∙ ap (λ (x : PassState W). record x { owned = v.known.owned ++ took.freed ∷ [] }) same in
      subst (λ (x : PassState W). x ≡ record q { owned = x.owned }) (sym is) refl) free.rest

-- the same pass has the same share
pub same_share : {E A W : Type 0} (sentinels sides : ℕ) (s s' : Seat Unit (SeatView E A W)) (number number' share share' : ℕ)
    (walk walk' : List ℕ) (p p' : Purse) → Keeping sentinels sides s number share walk p
    → Keeping sentinels sides s' number' share' walk' p' → IsSame s s' → share' ≡ share
same_share sentinels sides s s' number number' share share' walk walk' p p' k k' same = k'.share_is
    ∙ (ap₂ (share_of sentinels) same.sizes (sym k'.number_is ∙ (same.number ∙ k.number_is)) ∙ sym k.share_is)

-- what is said of an answer where there is one, and where there is none
pub of_some : (o : Option ℕ) (P : ℕ → Type 0) → IfSome o P → is_some o ≡ true → (n : ℕ) × P n
of_some (Some n) P said e = (n, said)
of_some None P said e = absurd (false≢true e)

pub of_none : (o : Option ℕ) (P : Type 0) → IfNone o P → is_some o ≡ false → P
of_none (Some n) P said e = absurd (false≢true (sym e))
of_none None P said e = said
