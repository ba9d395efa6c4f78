-- A caller's list stands in a log exactly where each call is in place and no change is left out.
use Rattle.std.proofs.Common.{◌≡◌, ℕ, zero, suc, ◌+◌, ◌-◌, ◌<◌, ◌≤◌, inl, inr, true, List, length, get_or}
use Rattle.std.proofs.Common.{Some, refl, sym, ap, ◌∙◌, ⊎_elim, arith, subst}
use Rattle.std.specs.Prelude.{slice_get}
use Rattle.std.proofs.lemmas.Bool.{cases_lt}
use Rattle.std.proofs.lemmas.Option.{slice_get-get_or, slice_get_within, get_or_from_slice_get}
use Rattle.pp_model.specs.declared.Change.{Change}
use Rattle.pp_model.specs.declared.Placed.{Placed}
use Rattle.pp_model.specs.Calls.{changes}
use Rattle.pp_model.specs.History.{change_of, FitsAsChange, FitsBy, Fits, Follows, Stands, places_in, places_of}
use Rattle.pp_check.specs.Histories.{IsInPlace, InPlaceTo, IsChangeAt, LeavesOut, IsMisplacedAt}
use Rattle.pp_check.proofs.Places.{IsAmong, same_rising, places_rise, place_in, place_out}
use Rattle.pp_check.proofs.Places.{Rising, changes_rise, listed_in, HasListed, listed_out}

follows_trans : (s t u : Placed) → Follows s t → Follows t u → Follows s u
follows_trans s t u a b = record { rises = omega (arith, a.rises, b.rises); above = λ change. omega (arith, a.rises, b.above change) }

module _ (log : List Change) (caller : ℕ) (mine : List Placed) where
  -- ---- calls in place

  follows_by : InPlaceTo log caller mine (length mine) → (n i j : ℕ) (s t : Placed) → j ≡ i + 1 + n → slice_get mine i ≡ Some s
      → slice_get mine j ≡ Some t → Follows s t
  follows_by all zero i j s t is at_i at_j =
      (all j t (slice_get_within mine j t at_j) at_j).follows i s (omega arith) at_i
  follows_by all (suc n) i j s t is at_i at_j =
      let within = slice_get_within mine j t at_j in
      let k = i + 1 + n in
      let u = get_or mine k s in
      let at_k : slice_get mine k ≡ Some u = slice_get-get_or mine k s (omega arith) in
      follows_trans s u t (follows_by all n i k s u refl at_i at_k) ((all j t within at_j).follows k u (omega arith) at_k)

  rising : InPlaceTo log caller mine (length mine) → Rising mine
  rising all i j s t lt at_i at_j = follows_by all (j - (i + 1)) i j s t (omega arith) at_i at_j

  fit_change : (n : ℕ) (s : Placed) → changes s.reply ≡ true → Fits log caller n s → FitsAsChange log caller n s
  fit_change n s changed fits = subst (λ b. FitsBy b log caller n s) changed fits

  -- the log has the changes of the list at their places
  listed_logged : InPlaceTo log caller mine (length mine) → (place : ℕ) → IsAmong place (places_of mine)
      → IsAmong place (places_in caller log)
  listed_logged all place among =
      let has = listed_out mine place among in
      let in_place = all has.position has.call (slice_get_within mine has.position has.call has.listed) has.listed in
      let fit = fit_change (has.position + 1) has.call has.changed in_place.fits in
      place_in 0 caller log fit.before _ place fit.logged refl (omega (arith, fit.place, has.is))

  changes_from : InPlaceTo log caller mine (length mine) → (j : ℕ) (t : Placed) → slice_get mine j ≡ Some t → changes t.reply ≡ true
      → 1 ≤ t.place
  changes_from all j t at changed =
      let fit = fit_change (j + 1) t changed (all j t (slice_get_within mine j t at) at).fits in
      omega (arith, fit.place)

  -- a list stands where its calls are in place and it has each change of the caller
  pub stands_from : InPlaceTo log caller mine (length mine)
      → ((p : ℕ) (c : Change) → slice_get log p ≡ Some c → c.caller ≡ caller → HasListed mine (p + 1)) → Stands log caller mine
  stands_from all has = record {
    each = λ n s at. (all n s (slice_get_within mine n s at) at).fits;
    rising = rising all;
    all = same_rising 1 (places_in caller log) (places_of mine) (places_rise 0 caller log)
        (changes_rise mine (rising all) (changes_from all))
        (λ n among.
        let logged = place_out 0 caller log n among in
        let listed = has logged.before logged.change logged.logged logged.its in
        subst (λ k. IsAmong k (places_of mine)) (omega (arith, listed.is, logged.place))
        (listed_in mine listed.position listed.call listed.listed listed.changed))
        (listed_logged all);
  }

  -- ---- changes that are left out

  -- a change of the caller that the list has at its place has the number of its call there
  pub listed_number : InPlaceTo log caller mine (length mine) → (p : ℕ) (c : Change) → slice_get log p ≡ Some c → HasListed mine (p + 1)
      → IsChangeAt mine c.number (p + 1)
  listed_number all p c at has =
      let in_place = all has.position has.call (slice_get_within mine has.position has.call has.listed) has.listed in
      let fit = fit_change (has.position + 1) has.call has.changed in_place.fits in
      let same : p ≡ fit.before = omega (arith, fit.place, has.is) in
      let is : change_of caller (has.position + 1) has.call.call ≡ c =
      let logged : slice_get log p ≡ Some (change_of caller (has.position + 1) has.call.call) = ap (slice_get log) same ∙ fit.logged in
      cc in
      record {
        position = has.position;
        number_is = ap (λ (x : Change). x.number) (sym is);
        call = has.call;
        listed = has.listed;
        changed = has.changed;
        place_is = has.is;
      }

  pub listed_of : (number place : ℕ) → IsChangeAt mine number place → HasListed mine place
  listed_of number place is = record { position = is.position; call = is.call; listed = is.listed; changed = is.changed; is = is.place_is }

  -- a change that isn't the call of its number is left out
  pub left_out : InPlaceTo log caller mine (length mine) → (p : ℕ) (c : Change) → slice_get log p ≡ Some c → c.caller ≡ caller
      → (IsChangeAt mine c.number (p + 1) → ⊥) → LeavesOut log caller mine
  left_out all p c at its none = record {
    before = p;
    change = c;
    logged = at;
    its = its;
    unlisted = λ n s listed changed place.
        none (listed_number all p c at (record { position = n; call = s; listed = listed; changed = changed; is = place }));
  }

  -- so far each change of the caller is listed
  pub listed_more : (i : ℕ) (x : Change) → i < length log
      → ((p : ℕ) (c : Change) → p < i → slice_get log p ≡ Some c → c.caller ≡ caller → IsChangeAt mine c.number (p + 1))
      → ((get_or log i x).caller ≡ caller → IsChangeAt mine (get_or log i x).number (i + 1))
      → (p : ℕ) (c : Change) → p < i + 1 → slice_get log p ≡ Some c → c.caller ≡ caller → IsChangeAt mine c.number (p + 1)
  listed_more i x within so_far here p c below at its =
      ⊎_elim
      (λ (lt : p < i). so_far p c lt at its)
      (λ (ge : i ≤ p).
      let same : p ≡ i = omega arith in
      let is : get_or log i x ≡ c = get_or_from_slice_get log i c x (ap (slice_get log) (sym same) ∙ at) in
      let mine_here : IsChangeAt mine (get_or log i x).number (i + 1) = here (ap (λ (y : Change). y.caller) is ∙ its) in
      let there : IsChangeAt mine (get_or log i x).number (p + 1) =
      subst (λ k. IsChangeAt mine (get_or log i x).number (k + 1)) (sym same) mine_here in
      subst (λ (y : Change). IsChangeAt mine y.number (p + 1)) is there)
      (cases_lt p i)

  -- so far each call is in place
  pub in_place_more : (i : ℕ) (x y : Placed) → i < length mine → InPlaceTo log caller mine i → Fits log caller (i + 1) (get_or mine i x)
      → (0 < i → Follows (get_or mine (i - 1) y) (get_or mine i x)) → InPlaceTo log caller mine (i + 1)
  in_place_more i x y within so_far fits follows m s below at =
      ⊎_elim
      (λ (lt : m < i). so_far m s lt at)
      (λ (ge : i ≤ m).
      let same : m ≡ i = omega arith in
      let is : get_or mine i x ≡ s = get_or_from_slice_get mine i s x (ap (slice_get mine) (sym same) ∙ at) in
      record {
        fits = subst (λ k. Fits log caller (k + 1) s) (sym same) (subst (λ (z : Placed). Fits log caller (i + 1) z) is fits);
        follows = λ n t e at_n.
            let before : i - 1 ≡ n = omega arith in
            let was : get_or mine (i - 1) y ≡ t = get_or_from_slice_get mine (i - 1) t y (ap (slice_get mine) before ∙ at_n) in
            let follow : Follows (get_or mine (i - 1) y) (get_or mine i x) = follows (omega arith) in
            subst (λ (z : Placed). Follows z s) was (subst (λ (z : Placed). Follows (get_or mine (i - 1) y) z) is follow);
      })
      (cases_lt m i)

  pub in_place_first : (i : ℕ) (x : Placed) → i < length mine → i ≤ 0 → InPlaceTo log caller mine i → Fits log caller (i + 1)
      (get_or mine i x)
      → InPlaceTo log caller mine (i + 1)
  in_place_first i x within first so_far fits = in_place_more i x x within so_far fits (λ some. absurd (omega arith))

  -- ---- what a list that stands says

  pub in_place_from : Stands log caller mine → (n : ℕ) (s : Placed) → slice_get mine n ≡ Some s → IsInPlace log caller mine n s
  in_place_from stands n s at = record {
    fits = stands.each n s at;
    follows = λ m t is at_m. stands.rising m n t s (omega arith) at_m at;
  }

  pub has_all : Stands log caller mine → (p : ℕ) (c : Change) → slice_get log p ≡ Some c → c.caller ≡ caller → HasListed mine (p + 1)
  has_all stands p c at its =
      let among = place_in 0 caller log p c (p + 1) at its (omega arith) in
      listed_out mine (p + 1) (subst (IsAmong (p + 1)) stands.all among)

  -- so it isn't misplaced
  pub stands_not : Stands log caller mine → (number : ℕ) → IsMisplacedAt log caller mine number → ⊥
  stands_not stands number (inl amiss) = amiss.amiss (in_place_from stands amiss.position amiss.call amiss.listed)
  stands_not stands number (inr short) =
      let out = short.left_out in
      let has = has_all stands out.before out.change out.logged out.its in
      out.unlisted has.position has.call has.listed has.changed has.is
