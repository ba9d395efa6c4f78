-- What a reclaim pass has freed after its last load.
use Rattle.std.proofs.Common.{◌≡◌, ℕ, ◌+◌, ◌-◌, ◌*◌, ◌≤◌, Bool, cond, List, [], ◌∷◌, ◌++◌, map, length, take, refl, sym, ap, ◌∙◌, subst}
use Rattle.std.proofs.Common.{append_assoc, length-append, eq-eqb, arith}
use Rattle.std.proofs.Math.Bool.{false≢true}
use Rattle.std.specs.List.Sorted.{IsPermutation}
use Rattle.std.proofs.lemmas.List.{length-map}
use Rattle.std.proofs.lemmas.List.Sorted.{IsPermutation-refl}
use Rattle.std.proofs.Math.Seq.{take-append_seam}
use Rattle.atomic_table.specs.declared.shared.Seat.{Seat}
use Rattle.pp_link.specs.declared.layout.Sizes.{Sizes}
use Rattle.pp_link.specs.Places.{frontier_place, walk_place}
use Rattle.pp_rule.specs.Lists.{IsIn, Once, without, without_all}
use Rattle.pp_rule.specs.Orders.{scan_walk_step}
use Rattle.pp_rule.specs.declared.views.PassState.{PassState}
use Rattle.pp_rule.specs.declared.views.SeatView.{SeatView}
use Rattle.pp_rule.specs.Rule.{number_of}
use Rattle.pp_rule.specs.Steps.{still, reclaimed, Reclaimed}
use Rattle.pp_rule.proofs.Made.{known_after}
use Rattle.pp_base.specs.declared.purse.Purse.{Purse}
use Rattle.pp_base.specs.Passes.{known, view}
use Rattle.pp_base.specs.Scans.{ScannedLast, GotBack, is_named, chosen, rejected}
use Rattle.pp_base.proofs.Parted.{rejected_words, chosen_without}
use Rattle.pp_base.specs.Named.{scans_frontier, scans_walk, MadeOne}
use Rattle.pp_base.proofs.Named.{made_append, made_in_turn}
use Rattle.pp_reclaim.specs.Sweeps.{in_turn, HasReadMost, Swept, swept}
use Rattle.pp_rule.proofs.Occurrences.{fits_in}
use Rattle.pp_reclaim.proofs.Staying.{chosen_in, rejected_out, was_named}

-- all but the last of the words
pub most_words : (fronts walks last : List ℕ) → length last ≡ 1
    → take (length (fronts ++ (walks ++ last)) - 1) (fronts ++ (walks ++ last)) ≡ fronts ++ walks
most_words fronts walks last one = let long : length (fronts ++ (walks ++ last)) - 1 ≡ length (fronts ++ walks) =
    omega (arith, length-append fronts (walks ++ last), length-append walks last, length-append fronts walks) in
    ap (λ (n : ℕ). take n (fronts ++ (walks ++ last))) long
    ∙ (ap (λ (l : List ℕ). take (length (fronts ++ walks)) l) (sym (append_assoc fronts walks last))
    ∙ take-append_seam (fronts ++ walks) last)

without_both : (xs ys ns : List ℕ) → without_all ys (without_all xs ns) ≡ without_all (xs ++ ys) ns
without_both [] ys ns = refl
without_both (x ∷ xs) ys ns = without_both xs ys (without x ns)

-- what is left before the first load
all_still : {W : Type 0} (q : PassState W) → q.scan.read ≡ 0 → still q ≡ q.retired
all_still q e = ap (λ (b : Bool). cond b q.retired q.scan.left) (eq-eqb q.scan.read 0 e)

pub first_words : (n : ℕ) (words rest : List ℕ) → length words ≡ n → take n (words ++ rest) ≡ words
first_words n words rest long = ap (λ (k : ℕ). take k (words ++ rest)) (sym long) ∙ take-append_seam words rest

-- the last load, which frees records
last_one : {E A W : Type 0} (found place : ℕ) (v w : SeatView E A W) → Reclaimed found place v w → MadeOne (scans_walk place found) v w
last_one found place v w last = record {
  known = reclaimed found last.freed v.known;
  left = found;
  number = refl;
  owned = λ bad. absurd (false≢true (sym bad));
  leaves = λ _. refl;
  made = last.made;
}

module _ {E A W : Type 0} (z : Sizes) (words : List ℕ) (s s' : Seat Unit (SeatView E A W)) where
  -- what is left before the last load
  pub left_most : (h : HasReadMost z words s s') → (known s).scan.read ≡ 0
      → still (known s') ≡ without_all (h.fronts ++ h.walks) (known s).retired
  left_most h none = h.second.left ∙ (ap (λ (l : List ℕ). without_all h.walks l) (h.first.left
      ∙ ap (λ (l : List ℕ). without_all h.fronts l) (all_still (known s) none))
      ∙ without_both h.fronts h.walks (known s).retired)

  pub known_most : (h : HasReadMost z words s s') → known s' ≡ record (known s) { scan = (known s').scan }
  known_most h = h.second.rest ∙ ap (λ (q : PassState W). record q { scan = (known s').scan }) h.first.rest

  -- what is left, said of the words that were read
  pub left_words : (all : List ℕ) → all ≡ words → HasReadMost z words s s' → (known s).scan.read ≡ 0
      → still (known s') ≡ without_all (take (length all - 1) all) (known s').retired
  left_words all same h none = left_most h none
      ∙ (ap (λ (l : List ℕ). without_all l (known s).retired) (sym (ap (λ (l : List ℕ). take (length l - 1) l) same ∙ h.words_are))
      ∙ sym (ap (λ (q : PassState W). without_all (take (length all - 1) all) q.retired) (known_most h)))

  module _ (found : ℕ) (s'' : Seat Unit (SeatView E A W)) (h : HasReadMost z words s s') (none : (known s).scan.read ≡ 0) where
    read : List ℕ
    read = h.fronts ++ (h.walks ++ found ∷ [])

    gone_are : rejected (is_named read) (known s).retired ≡ without found (still (known s'))
    unfolding read
    gone_are = rejected_words (h.fronts ++ h.walks) read (known s).retired found
        (subst (λ (l : List ℕ). IsPermutation ((h.fronts ++ h.walks) ++ found ∷ []) l) (append_assoc h.fronts h.walks (found ∷ []))
        (IsPermutation-refl ((h.fronts ++ h.walks) ++ found ∷ [])))
        ∙ ap (λ (l : List ℕ). without found l) (sym (left_most h none))

    stay_are : without_all (without found (still (known s'))) (known s').retired ≡ chosen (is_named read) (known s).retired
    stay_are = ap (λ (q : PassState W). without_all (without found (still (known s'))) q.retired) (known_most h)
        ∙ (ap (λ (l : List ℕ). without_all l (known s).retired) (sym gone_are) ∙ chosen_without (is_named read) (known s).retired)

    pub swept_by : (many : ℕ) (p p' : Purse) → 1 ≤ z.passes → Once (known s'').retired → ScannedLast z found s' s''
        → GotBack (without found (still (known s'))) (known s'').retired p p' → many ≡ length p'.free.items - length p.free.items
        → Swept z many s s'' p p'
    unfolding read
    swept_by many p p' some once last got count =
        let after : known s'' ≡ reclaimed found last.freed (known s') =
        known_after scan_walk_step (walk_place z (z.passes - 1) 4) found found [] [] (reclaimed found last.freed (known s'))
        (view s') (view s'') last.made in
        let at : walk_place z (z.passes - 1) 4 ≡ walk_place z 0 0 + length h.walks = omega (arith, h.most_walks, some) in
        let all_walks : length (h.walks ++ found ∷ []) ≡ 5 * z.passes = omega (arith, length-append h.walks (found ∷ []), h.most_walks) in
        let gone : map number_of last.freed ≡ rejected (is_named read) (known s).retired = last.numbers ∙ sym gone_are in
        let known_is : known s'' ≡ swept last.freed (chosen (is_named read) (known s).retired) (known s) = after
        ∙ (ap (λ (l : List ℕ). swept last.freed l (known s')) stay_are
        ∙ ap (λ (q : PassState W). swept last.freed (chosen (is_named read) (known s).retired) q) (known_most h)) in
        let stay : (n : ℕ) → IsIn n (known s'').retired → IsIn n read = λ n i. chosen_in read (known s).retired n
        (subst (λ (l : List ℕ). IsIn n l) (ap (λ (q : PassState W). q.retired) known_is) i) in
        record {
          fronts = h.fronts;
          walks = h.walks ++ found ∷ [];
          all_fronts = h.all_fronts;
          all_walks = all_walks;
          steps = made_append (in_turn scans_frontier (frontier_place z 0 0) h.fronts)
              (in_turn scans_walk (walk_place z 0 0) (h.walks ++ found ∷ [])) (view s) (view h.between) (view s'') h.first.steps
              (made_in_turn scans_walk (walk_place z 0 0) h.walks found (view h.between) (view s') (view s'') h.second.steps
              (subst (λ (k : ℕ). MadeOne (scans_walk k found) (view s') (view s'')) at
              (last_one found (walk_place z (z.passes - 1) 4) (view s') (view s'') last)));
          freed = last.freed;
          unnamed = gone;
          known_is = known_is;
          purse = subst (λ (l : List ℕ). GotBack l (known s'').retired p p') (sym last.numbers) got;
          count = omega (
            arith,
            count,
            ap (λ (l : List ℕ). length l) got.free,
            length-append p.free.items (without found (still (known s'))),
            ap (λ (l : List ℕ). length l) last.numbers,
            length-map last.freed number_of,
          );
          kept = λ n i freed. rejected_out read (known s).retired n i (subst (λ (l : List ℕ). IsIn n l) gone freed);
          named = λ n i. was_named z h.fronts (h.walks ++ found ∷ []) n h.all_fronts all_walks (stay n i);
          few = let fewer = fits_in (known s'').retired read once stay in
              omega (arith, fewer, length-append h.fronts (h.walks ++ found ∷ []), h.all_fronts, all_walks);
        }
