-- A caller's placed calls, listed call by call.
use Rattle.std.proofs.Common.{◌≡◌, ℕ, ◌+◌, ◌^◌, ◌<◌, ◌≤◌, true, false, List, [], ◌∷◌, ◌++◌, length, drop}
use Rattle.std.proofs.Common.{Some, ⊎_elim, sym, ap, ◌∙◌, subst, arith, append_assoc, append-nil}
use Rattle.std.proofs.Common.{get_or, eq-eqb}
use Rattle.std.specs.Prelude.{slice_get, nat_eq}
use Rattle.std.proofs.lemmas.Option.{slice_get-get_or}
use Rattle.std.proofs.lemmas.Bool.{cases_lt, cases_Bool, true≢false}
use Rattle.pp_model.specs.declared.Call.{Call}
use Rattle.pp_model.specs.declared.Reply.{Reply}
use Rattle.pp_model.specs.declared.Answer.{Answer}
use Rattle.pp_model.specs.declared.Answer.TheVariants.{Said}
use Rattle.pp_model.specs.declared.Change.{Change}
use Rattle.pp_model.specs.declared.Placed.{Placed}
use Rattle.pp_model.specs.Calls.{changes, reply, reply_at, key_of}
use Rattle.pp_model.specs.History.{after}
use Rattle.pp_schedule.specs.Calls.{capped, all_capped}
use Rattle.pp_schedule.specs.Marks.{MarkPlaces, MarkedAs}
use Rattle.pp_schedule.proofs.Marking.{Unplaced}
use Rattle.pp_check.proofs.Values.{kept_after}
use Rattle.pp_places.specs.Places.{PlacesOn}
use Rattle.pp_places.proofs.Entries.{next_said, next_other, none_left, is_next}

pub places_other : (log : List Change) (mine : List Placed) (call : Call) (a : Answer) (m : ℕ) (calls : List Call) (answers : List Answer)
    (exact : List ℕ) (list : List Placed) → Unplaced a → PlacesOn log mine (call ∷ calls) (a ∷ answers) (m ∷ exact) list
    → PlacesOn log mine calls answers exact list
places_other log mine call a m calls answers exact list un e =
    record { rest = e.rest; whole = e.whole; marked = next_other log call a m calls answers exact e.rest un e.marked }

same_placed : (s : Placed) (call : Call) (r : Reply) (place : ℕ) → s.call ≡ call → s.reply ≡ r → place ≡ s.place
    → s ≡ record { call = call; reply = r; place = place }
same_placed s call r place calls replies places =
    ap (λ (c : Call). let x : Placed = record { call = c; reply = s.reply; place = s.place } in x) calls
    ∙ ap (λ (y : Reply). let x : Placed = record { call = call; reply = y; place = s.place } in x) replies
    ∙ ap (λ (p : ℕ). let x : Placed = record { call = call; reply = r; place = p } in x) (sym places)

pub places_said : (log : List Change) (mine : List Placed) (call : Call) (r : Reply) (m : ℕ) (calls : List Call) (answers : List Answer)
    (exact : List ℕ) (list : List Placed) (place : ℕ) → ((s : Placed) → MarkPlaces log call r m s → place ≡ s.place)
    → PlacesOn log mine (call ∷ calls) (Said r ∷ answers) (m ∷ exact) list
    → PlacesOn log mine calls answers exact (list ++ record { call = call; reply = r; place = place } ∷ [])
places_said log mine call r m calls answers exact list place found e =
    let next = next_said log call r m calls answers exact e.rest e.marked in
    let one : Placed = record { call = call; reply = r; place = place } in
    let is : next.first ≡ one =
    same_placed next.first call r place next.placed.call_is next.placed.reply_is (found next.first next.placed) in
    record {
      rest = next.rest;
      whole = e.whole ∙ (ap (λ l. list ++ l) next.is ∙ (ap (λ (x : Placed). list ++ x ∷ next.rest) is
          ∙ sym (append_assoc list (one ∷ []) next.rest)));
      marked = next.more;
    }

pub places_last : (log : List Change) (mine : List Placed) (answers : List Answer) (exact : List ℕ) (list : List Placed)
    → PlacesOn log mine [] answers exact list → list ≡ mine
places_last log mine answers exact list e =
    sym (e.whole ∙ (ap (λ l. list ++ l) (none_left log answers exact e.rest e.marked) ∙ append-nil list))

-- ---- the least place

module _ (log : List Change) (call : Call) (r : Reply) where
  abbrev pub Wrong : ℕ → Type 0
  Wrong q = reply (after log q) call ≡ r → ⊥

  -- a change on another key leaves a reply as it was
  pub wrong_kept : (p : ℕ) (c : Change) → slice_get log p ≡ Some c → (key_of c.call ≡ key_of call → ⊥) → Wrong p → Wrong (p + 1)
  wrong_kept p c at other wrong right =
      wrong (ap (reply_at call) (sym (kept_after log (key_of call) p c at other)) ∙ right)

  pub before_more : (mark place : ℕ) → ((q : ℕ) → mark ≤ q → q < place → Wrong q) → Wrong place
      → (q : ℕ) → mark ≤ q → q < place + 1 → Wrong q
  before_more mark place before here q from low =
      ⊎_elim
      (λ (lt : q < place). before q from lt)
      (λ (ge : place ≤ q). let same : place ≡ q = omega (arith, ge, low) in subst Wrong same here)
      (cases_lt q place)

  pub here_more : (place : ℕ) (d : Change) (k j : ℕ) → place < length log → k ≡ key_of (get_or log place d).call → j ≡ key_of call
      → Wrong place → nat_eq k j ≡ false → Wrong (place + 1)
  here_more place d k j low its own here test =
      wrong_kept place (get_or log place d) (slice_get-get_or log place d low)
      (λ same. true≢false (sym (eq-eqb k j (its ∙ (same ∙ sym own))) ∙ test)) here

  module _ (mark : ℕ) (s : Placed) (unchanged : changes r ≡ false) (placed : MarkPlaces log call r mark s) where
    pub found_right : (place : ℕ) → mark ≤ place → ((q : ℕ) → mark ≤ q → q < place → Wrong q) → reply (after log place) call ≡ r
        → place ≡ s.place
    found_right place from before right =
        ⊎_elim
        (λ (lt : place < s.place). absurd (placed.least unchanged place from lt right))
        (λ (ge : s.place ≤ place).
        ⊎_elim
        (λ (lt : s.place < place). absurd (before s.place (placed.from_mark unchanged) lt (placed.right unchanged)))
        (λ (le : place ≤ s.place). omega (arith, ge, le))
        (cases_lt s.place place))
        (cases_lt place s.place)

    pub found_none : ((q : ℕ) → mark ≤ q → q < length log → Wrong q) → length log ≡ s.place
    found_none before =
        ⊎_elim
        (λ (lt : s.place < length log). absurd (before s.place (placed.from_mark unchanged) lt (placed.right unchanged)))
        (λ (ge : length log ≤ s.place). let w = placed.within in omega (arith, ge, w))
        (cases_lt s.place (length log))

-- the place of a change is its mark
pub change_place : (log : List Change) (call : Call) (r : Reply) (mark m : ℕ) (s : Placed) → length log < 2 ^ 63 → mark ≡ capped m
    → MarkPlaces log call r m s → mark ≡ m
change_place log call r mark m s short is placed =
    ⊎_elim
    (λ (yes : changes r ≡ true). let p = placed.change yes in let w = placed.within in omega (arith, short, is, p, w))
    (λ (not : changes r ≡ false). let p = placed.from_mark not in let w = placed.within in omega (arith, short, is, p, w))
    (cases_Bool (changes r))

pub places_more : (log : List Change) (mine : List Placed) (calls : List Call) (answers : List Answer) (marks exact : List ℕ) (at : ℕ)
    (x : Call) (a : Answer) (k : ℕ) (list list' : List Placed) → at < length calls → MarkedAs log calls answers exact mine
    → marks ≡ all_capped exact
    → ((calls' : List Call) (answers' : List Answer) (exact' : List ℕ) (m : ℕ) → get_or marks at k ≡ capped m
    → PlacesOn log mine (get_or calls at x ∷ calls') (get_or answers at a ∷ answers') (m ∷ exact') list
    → PlacesOn log mine calls' answers' exact' list')
    → PlacesOn log mine (drop at calls) (drop at answers) (drop at exact) list
    → PlacesOn log mine (drop (at + 1) calls) (drop (at + 1) answers) (drop (at + 1) exact) list'
places_more log mine calls answers marks exact at x a k list list' low marked are placed e =
    let n = is_next log mine calls answers marks exact at x a k low marked are in
    placed (drop (at + 1) calls) (drop (at + 1) answers) (drop (at + 1) exact) n.mark n.is_mark
    (subst (λ (cs : List Call). PlacesOn log mine cs (get_or answers at a ∷ drop (at + 1) answers)
    (n.mark ∷ drop (at + 1) exact) list) n.calls_are
    (subst (λ (given : List Answer). PlacesOn log mine (drop at calls) given (n.mark ∷ drop (at + 1) exact) list)
    n.answers_are (subst (λ (ms : List ℕ). PlacesOn log mine (drop at calls) (drop at answers) ms list) n.exact_are e)))
