-- The place of a call that changes nothing, as it is found from the whole log.
use Rattle.std.proofs.Common.{◌≡◌, ℕ, ◌+◌, ◌<◌, ◌≤◌, Bool, true, false, List, [], ◌∷◌, ◌++◌, length, drop}
use Rattle.std.proofs.Common.{refl, sym, ap, ◌∙◌, arith, append_assoc}
use Rattle.std.specs.Prelude.{slice_get, Some}
use Rattle.pp_model.specs.declared.Change.{Change}
use Rattle.pp_model.specs.declared.Call.{Call}
use Rattle.pp_model.specs.declared.Reply.{Reply}
use Rattle.pp_model.specs.declared.Placed.{Placed}
use Rattle.pp_model.specs.declared.steps.Step.{Step}
use Rattle.pp_model.specs.Lists.{IsPrefix}
use Rattle.pp_model.specs.Calls.{reply, changes}
use Rattle.pp_model.specs.History.{after, Stands, FitsBy}
use Rattle.pp_model.specs.Pass.{PassView, steps_since, seen_first, start_of}
use Rattle.pp_model.specs.MapCalls.{PlacesReply, placed}
use Rattle.pp_model.proofs.Histories.{slice_get_new, after_grown}
use Rattle.pp_schedule.proofs.Starts.{one_place}

-- the reply is right at the place that stands
pub right_at : (b : Bool) (log : List Change) (caller number : ℕ) (s : Placed) → b ≡ false → FitsBy b log caller number s
    → reply (after log s.place) s.call ≡ s.reply
right_at true log caller number s e f = absurd (let wrong : true ≡ false = e in cc)
right_at false log caller number s e f = f.right

-- The place is the least one of the whole log, from the call's start on, at which the reply is right.
pub place_is : (log : List Change) (call : Call) (r : Reply) (before now : PassView) (start q : ℕ)
    → (says : PlacesReply call r before now)
    → changes r ≡ false → Stands now.seen now.caller now.mine → IsPrefix now.seen log → start_of before now ≡ start
    → start ≤ q → reply (after log q) call ≡ r → ((k : ℕ) → start ≤ k → k < q → reply (after log k) call ≡ r → ⊥) → says.place ≡ q
place_is log call r before now start q says unchanged stands begins start_is from_q right_q least_q =
    let p = says.place in
    let s = placed call r p in
    let at : slice_get now.mine (length before.mine) ≡ Some s =
    ap (λ (xs : List Placed). slice_get xs (length before.mine)) says.mine ∙ slice_get_new before.mine s in
    let right : reply (after now.seen p) call ≡ r =
    right_at (changes r) now.seen now.caller (length before.mine + 1) s unchanged (stands.each (length before.mine) s at) in
    let longer : (k : ℕ) → k ≤ length now.seen → after log k ≡ after now.seen k =
    λ k le. ap (λ (l : List Change). after l k) begins.1 ∙ after_grown now.seen begins.0 k le in
    let from_p = says.from_start unchanged in
    one_place log start call r p q (omega (arith, from_p, start_is)) from_q
    (ap (λ m. reply m call) (longer p says.within) ∙ right) right_q
    (λ k from below is. says.least unchanged k (omega (arith, from, start_is)) below
    (ap (λ m. reply m call) (sym (longer k (omega (arith, below, says.within)))) ∙ is))
    least_q

pub drop_front : {A : Type 0} → (xs ys : List A) → drop (length xs) (xs ++ ys) ≡ ys
drop_front [] ys = refl
drop_front (x ∷ xs) ys = drop_front xs ys

pub first_kept : (d e : ℕ) (xs ys : List Step) → 1 ≤ length xs → seen_first d (xs ++ ys) ≡ seen_first e xs
first_kept d e [] ys some = absurd (omega (arith, some))
first_kept d e (x ∷ xs) ys some = refl

-- The start of a call is told by its first turn, where that made a step.
pub start_kept : (before ready left now : PassView) (d : ℕ) → ready.steps ≡ before.steps → IsPrefix ready.steps left.steps
    → IsPrefix left.steps now.steps
    → 1 ≤ length (steps_since ready left) → start_of before now ≡ seen_first d (steps_since ready left)
start_kept before ready left now d same turn later some =
    let new : steps_since ready left ≡ turn.0 = ap (drop (length ready.steps)) turn.1 ∙ drop_front ready.steps turn.0 in
    let all : now.steps ≡ before.steps ++ (turn.0 ++ later.0) =
    later.1 ∙ (ap (λ xs. xs ++ later.0) turn.1 ∙ (append_assoc ready.steps turn.0 later.0 ∙ ap (λ xs. xs ++ (turn.0 ++ later.0)) same)) in
    let since : steps_since before now ≡ turn.0 ++ later.0 = ap (drop (length before.steps)) all
    ∙ drop_front before.steps (turn.0 ++ later.0) in
    ap (seen_first (length before.seen)) since
    ∙ (first_kept (length before.seen) d turn.0 later.0 (omega (arith, some, ap length new)) ∙ ap (seen_first d) (sym new))
