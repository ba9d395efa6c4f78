-- The places of a caller's changes in a log, and in its list.
use Rattle.std.proofs.Common.{◌≡◌, ℕ, zero, suc, ◌+◌, ◌<◌, ◌≤◌, ◌⊎◌, inl, inr, true, false, List, [], ◌∷◌}
use Rattle.std.proofs.Common.{Some, refl, sym, ap, ◌∙◌, ⊎_elim, arith, subst}
use Rattle.std.specs.Prelude.{slice_get}
use Rattle.std.proofs.lemmas.Bool.{cases_eq, eq-eqb, ne_eqb, cases_Bool}
use Rattle.pp_model.specs.declared.Change.{Change}
use Rattle.pp_model.specs.declared.Placed.{Placed}
use Rattle.pp_model.specs.Lists.{RisesFrom}
use Rattle.pp_model.specs.Calls.{changes}
use Rattle.pp_model.specs.History.{places_from, places_of, Follows}

-- a number stands in a list
pub record IsAmong (n : ℕ) (ns : List ℕ) : Type 0 where
  pub position : ℕ
  pub at : slice_get ns position ≡ Some n

here : (n m : ℕ) (ns : List ℕ) → n ≡ m → IsAmong n (m ∷ ns)
here n m ns same = record { position = 0; at = ap (λ k. Some k) (sym same) }

there : (n m : ℕ) (ns : List ℕ) → IsAmong n ns → IsAmong n (m ∷ ns)
there n m ns among = record { position = suc among.position; at = among.at }

split_at : (n m : ℕ) (ns : List ℕ) (k : ℕ) → slice_get (m ∷ ns) k ≡ Some n → (n ≡ m) ⊎ IsAmong n ns
split_at n m ns zero at = inl cc
split_at n m ns (suc k) at = inr (record { position = k; at = at })

among_split : (n m : ℕ) (ns : List ℕ) → IsAmong n (m ∷ ns) → (n ≡ m) ⊎ IsAmong n ns
among_split n m ns among = split_at n m ns among.position among.at

among_none : (n : ℕ) → IsAmong n [] → ⊥
among_none n among = let at = among.at in cc

-- ---- lists that rise

rises_low : (low : ℕ) (ns : List ℕ) (n : ℕ) → RisesFrom low ns → IsAmong n ns → low ≤ n
rises_low low [] n rises among = absurd (among_none n among)
rises_low low (m ∷ ns) n rises among =
    ⊎_elim (λ (same : n ≡ m). omega (arith, rises.0)) (λ later. omega (arith, rises.0, rises_low (m + 1) ns n rises.1 later))
    (among_split n m ns among)

rises_lower : (low high : ℕ) (ns : List ℕ) → low ≤ high → RisesFrom high ns → RisesFrom low ns
rises_lower low high [] le rises = tt
rises_lower low high (n ∷ ns) le rises = (omega (arith, rises.0), rises.1)

-- two lists that rise and have the same numbers are one
pub same_rising : (low : ℕ) (ns ms : List ℕ) → RisesFrom low ns → RisesFrom low ms → ((n : ℕ) → IsAmong n ns → IsAmong n ms)
    → ((n : ℕ) → IsAmong n ms → IsAmong n ns) → ns ≡ ms
same_rising low [] [] a b to from = refl
same_rising low [] (m ∷ ms) a b to from = absurd (among_none m (from m (here m m ms refl)))
same_rising low (n ∷ ns) [] a b to from = absurd (among_none n (to n (here n n ns refl)))
same_rising low (n ∷ ns) (m ∷ ms) a b to from =
    let up : m ≤ n = ⊎_elim (λ (same : n ≡ m). omega arith) (λ later. omega (arith, rises_low (m + 1) ms n b.1 later))
    (among_split n m ms (to n (here n n ns refl))) in
    let down : n ≤ m = ⊎_elim (λ (same : m ≡ n). omega arith) (λ later. omega (arith, rises_low (n + 1) ns m a.1 later))
    (among_split m n ns (from m (here m m ms refl))) in
    let same : n ≡ m = omega arith in
    let rest : ns ≡ ms = same_rising (n + 1) ns ms a.1 (subst (λ k. RisesFrom (k + 1) ms) (sym same) b.1)
    (λ k among. ⊎_elim (λ (equal : k ≡ m). absurd (omega (arith, rises_low (n + 1) ns k a.1 among))) (λ later. later)
    (among_split k m ms (to k (there k n ns among))))
    (λ k among. ⊎_elim (λ (equal : k ≡ n). absurd (omega (arith, rises_low (m + 1) ms k b.1 among))) (λ later. later)
    (among_split k n ns (from k (there k m ms among)))) in
    ap (λ k. k ∷ ns) same ∙ ap (λ ks. m ∷ ks) rest

-- ---- the places of a caller's changes in a log

mine_first : (p caller : ℕ) (c : Change) (log : List Change) → c.caller ≡ caller
    → places_from p caller (c ∷ log) ≡ (p + 1) ∷ places_from (p + 1) caller log
mine_first p caller c log its = let test = eq-eqb c.caller caller its in rw test refl

other_first : (p caller : ℕ) (c : Change) (log : List Change) → (c.caller ≡ caller → ⊥)
    → places_from p caller (c ∷ log) ≡ places_from (p + 1) caller log
other_first p caller c log other = let test = ne_eqb c.caller caller other in rw test refl

pub places_rise : (p caller : ℕ) (log : List Change) → RisesFrom (p + 1) (places_from p caller log)
places_rise p caller [] = tt
places_rise p caller (c ∷ log) =
    let rest = places_rise (p + 1) caller log in
    ⊎_elim
    (λ its. subst (RisesFrom (p + 1)) (sym (mine_first p caller c log its)) (omega arith, rest))
    (λ other. subst (RisesFrom (p + 1)) (sym (other_first p caller c log other)) (rises_lower (p + 1) (p + 1 + 1) _ (omega arith) rest))
    (cases_eq c.caller caller)

-- a change of the caller has its place among them
pub place_in : (p caller : ℕ) (log : List Change) (q : ℕ) (c : Change) (n : ℕ) → slice_get log q ≡ Some c → c.caller ≡ caller
    → n ≡ p + q + 1
    → IsAmong n (places_from p caller log)
place_in p caller [] q c n at its is = absurd cc
place_in p caller (d ∷ log) zero c n at its is =
    let same : d ≡ c = cc in
    let mine : d.caller ≡ caller = ap (λ (x : Change). x.caller) same ∙ its in
    subst (IsAmong n) (sym (mine_first p caller d log mine)) (here n (p + 1) _ (omega arith))
place_in p caller (d ∷ log) (suc q) c n at its is =
    let rest = place_in (p + 1) caller log q c n at its (omega arith) in
    ⊎_elim
    (λ mine. subst (IsAmong n) (sym (mine_first p caller d log mine)) (there n (p + 1) _ rest))
    (λ other. subst (IsAmong n) (sym (other_first p caller d log other)) rest)
    (cases_eq d.caller caller)

-- what a place among them says
pub record HasChange (log : List Change) (p caller n : ℕ) : Type 0 where
  pub before : ℕ
  pub change : Change
  pub logged : slice_get log before ≡ Some change
  pub its : change.caller ≡ caller
  pub place : n ≡ p + before + 1

later_change : (d : Change) (log : List Change) (p caller n : ℕ) → HasChange log (p + 1) caller n → HasChange (d ∷ log) p caller n
later_change d log p caller n has = record {
  before = suc has.before;
  change = has.change;
  logged = has.logged;
  its = has.its;
  place = omega (arith, has.place);
}

pub place_out : (p caller : ℕ) (log : List Change) (n : ℕ) → IsAmong n (places_from p caller log) → HasChange log p caller n
place_out p caller [] n among = absurd (among_none n among)
place_out p caller (d ∷ log) n among =
    ⊎_elim
    (λ mine.
    ⊎_elim
    (λ (first : n ≡ p + 1). record { before = 0; change = d; logged = refl; its = mine; place = omega arith })
    (λ later. later_change d log p caller n (place_out (p + 1) caller log n later))
    (among_split n (p + 1) _ (subst (IsAmong n) (mine_first p caller d log mine) among)))
    (λ other. later_change d log p caller n (place_out (p + 1) caller log n (subst (IsAmong n) (other_first p caller d log other) among)))
    (cases_eq d.caller caller)

-- ---- the places of the changes in a list

change_first : (s : Placed) (mine : List Placed) → changes s.reply ≡ true → places_of (s ∷ mine) ≡ s.place ∷ places_of mine
change_first s mine changed = rw changed refl

still_first : (s : Placed) (mine : List Placed) → changes s.reply ≡ false → places_of (s ∷ mine) ≡ places_of mine
still_first s mine still = rw still refl

-- a list in which each call follows all before it
abbrev pub Rising : List Placed → Type 0
Rising mine = (i j : ℕ) (s t : Placed) → i < j → slice_get mine i ≡ Some s → slice_get mine j ≡ Some t → Follows s t

rising_rest : (s : Placed) (mine : List Placed) → Rising (s ∷ mine) → Rising mine
rising_rest s mine rising i j t u lt at_i at_j = rising (suc i) (suc j) t u (omega arith) at_i at_j

-- no change of a list has a place below this
abbrev ChangesFrom : ℕ → List Placed → Type 0
ChangesFrom low mine = (j : ℕ) (t : Placed) → slice_get mine j ≡ Some t → changes t.reply ≡ true → low ≤ t.place

list_rises : (low : ℕ) (mine : List Placed) → Rising mine → ChangesFrom low mine → RisesFrom low (places_of mine)
list_rises low [] rising above = tt
list_rises low (s ∷ mine) rising above =
    ⊎_elim
    (λ changed.
    subst (RisesFrom low) (sym (change_first s mine changed)) (
      above 0 s refl changed,
      list_rises (s.place + 1) mine (rising_rest s mine rising)
          (λ j t at change. omega (arith, (rising 0 (suc j) s t (omega arith) refl at).above change)),
    ))
    (λ still.
    subst (RisesFrom low) (sym (still_first s mine still))
    (list_rises low mine (rising_rest s mine rising) (λ j t at change. above (suc j) t at change)))
    (cases_Bool (changes s.reply))

pub changes_rise : (mine : List Placed) → Rising mine → ChangesFrom 1 mine → RisesFrom 1 (places_of mine)
changes_rise mine rising above = list_rises 1 mine rising above

-- a change of a list has its place among them
pub listed_in : (mine : List Placed) (n : ℕ) (s : Placed) → slice_get mine n ≡ Some s → changes s.reply ≡ true
    → IsAmong s.place (places_of mine)
listed_in [] n s at changed = absurd cc
listed_in (t ∷ mine) zero s at changed =
    let same : t ≡ s = cc in
    let mine_too : changes t.reply ≡ true = ap (λ (x : Placed). changes x.reply) same ∙ changed in
    subst (IsAmong s.place) (sym (change_first t mine mine_too)) (here s.place t.place _ (ap (λ (x : Placed). x.place) (sym same)))
listed_in (t ∷ mine) (suc n) s at changed =
    let rest = listed_in mine n s at changed in
    ⊎_elim
    (λ yes. subst (IsAmong s.place) (sym (change_first t mine yes)) (there s.place t.place _ rest))
    (λ no. subst (IsAmong s.place) (sym (still_first t mine no)) rest)
    (cases_Bool (changes t.reply))

-- what a place among them says
pub record HasListed (mine : List Placed) (place : ℕ) : Type 0 where
  pub position : ℕ
  pub call : Placed
  pub listed : slice_get mine position ≡ Some call
  pub changed : changes call.reply ≡ true
  pub is : call.place ≡ place

later_listed : (s : Placed) (mine : List Placed) (n : ℕ) → HasListed mine n → HasListed (s ∷ mine) n
later_listed s mine n has = record {
  position = suc has.position;
  call = has.call;
  listed = has.listed;
  changed = has.changed;
  is = has.is;
}

pub listed_out : (mine : List Placed) (n : ℕ) → IsAmong n (places_of mine) → HasListed mine n
listed_out [] n among = absurd (among_none n among)
listed_out (s ∷ mine) n among =
    ⊎_elim
    (λ yes.
    ⊎_elim
    (λ first. record { position = 0; call = s; listed = refl; changed = yes; is = sym first })
    (λ later. later_listed s mine n (listed_out mine n later))
    (among_split n s.place _ (subst (IsAmong n) (change_first s mine yes) among)))
    (λ no. later_listed s mine n (listed_out mine n (subst (IsAmong n) (still_first s mine no) among)))
    (cases_Bool (changes s.reply))
