-- Lemmas on a map's log that grows and on lists that stand in it: those of any sequential object. Every map that keeps a log
-- cites them.
use Rattle.std.proofs.Common.{◌≡◌, ℕ, ◌+◌, ◌≤◌, true, false, List, [], ◌∷◌, ◌++◌, length, Some}
use Rattle.std.specs.Prelude.{slice_get}
use Rattle.pp_model.specs.declared.Change.{Change}
use Rattle.pp_model.specs.declared.Placed.{Placed}
use Rattle.pp_model.specs.declared.Pair.{Pair}
use Rattle.pp_model.specs.Lists.{AtEach}
use Rattle.pp_model.specs.Calls.{reply, map_after, changes}
use Rattle.pp_model.specs.History.{finite_map, run_from, after, contents_of, Sound, change_of, FitsUnchanged, Fits, places_from}
use Rattle.pp_model.specs.History.{places_of, Stands}
use Rattle.pp_model.proofs.Logs as any
pub use Rattle.pp_model.proofs.Positions.{slice_get-append_left, slice_get-append_right, slice_get_push, slice_get_new}

pub run_from-append : (m : List Pair) (log more : List Change) → run_from m (log ++ more) ≡ run_from (run_from m log) more
run_from-append = any.run_from-append finite_map

-- a log that grows keeps its earlier maps
pub after_grown : (log more : List Change) (p : ℕ) → p ≤ length log → after (log ++ more) p ≡ after log p
after_grown = any.after_grown finite_map

pub after_all : (log : List Change) → after log (length log) ≡ contents_of log
after_all = any.after_all finite_map

-- the map before the first of the new changes is that after the old log
pub after_old : (log more : List Change) → after (log ++ more) (length log) ≡ contents_of log
after_old = any.after_old finite_map

pub contents_push : (log : List Change) (c : Change) → contents_of (log ++ c ∷ []) ≡ map_after (contents_of log) c.call
contents_push = any.contents_push finite_map

-- a sound log stays sound with one more change that changes the map
pub sound_change : (log : List Change) (c : Change) → Sound log → changes (reply (contents_of log) c.call) ≡ true
    → Sound (log ++ c ∷ [])
sound_change = any.sound_change finite_map

-- what fits a log fits every longer one
pub fits_grown : (log more : List Change) (caller number : ℕ) (s : Placed) → Fits log caller number s
    → Fits (log ++ more) caller number s
fits_grown = any.fits_grown finite_map

-- no place lies beyond the log
pub fits_within : (log : List Change) (caller number : ℕ) (s : Placed) → Fits log caller number s → s.place ≤ length log
fits_within = any.fits_within finite_map

pub places_from-append : (p caller : ℕ) (log more : List Change)
    → places_from p caller (log ++ more) ≡ places_from p caller log ++ places_from (p + length log) caller more
places_from-append = any.places_from-append finite_map

pub places_of-append : (mine more : List Placed) → places_of (mine ++ more) ≡ places_of mine ++ places_of more
places_of-append = any.places_of-append finite_map

-- other callers' changes are at none of a caller's places
pub places_others : (p caller : ℕ) (more : List Change) → AtEach more (λ k c. c.caller ≡ caller → ⊥)
    → places_from p caller more ≡ []
places_others = any.places_others finite_map

-- A list that stands in a log still does when other callers' changes come.
pub stands_grown : (log more : List Change) (caller : ℕ) (mine : List Placed) → AtEach more (λ k c. c.caller ≡ caller → ⊥)
    → Stands log caller mine → Stands (log ++ more) caller mine
stands_grown = any.stands_grown finite_map

-- A call that changed nothing is entered at a place that no earlier place is above.
pub stands_unchanged : (log : List Change) (caller : ℕ) (mine : List Placed) (s : Placed) → Stands log caller mine
    → changes s.reply ≡ false → FitsUnchanged log s → ((i : ℕ) (t : Placed) → slice_get mine i ≡ Some t → t.place ≤ s.place)
    → Stands log caller (mine ++ s ∷ [])
stands_unchanged = any.stands_unchanged finite_map

-- A change is entered at the end of the log.
pub stands_change : (log : List Change) (caller : ℕ) (mine : List Placed) (s : Placed) → Stands log caller mine
    → changes s.reply ≡ true → reply (contents_of log) s.call ≡ s.reply → s.place ≡ length log + 1
    → Stands (log ++ change_of caller (length mine + 1) s.call ∷ []) caller (mine ++ s ∷ [])
stands_change = any.stands_change finite_map
