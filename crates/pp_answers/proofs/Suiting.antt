-- What a call answers suits it.
use Rattle.std.proofs.Common.{◌≡◌, ℕ, ◌+◌, Bool, true, false, cond, List, [], ◌∷◌, ◌++◌, length, Option, Some, None}
use Rattle.std.proofs.Common.{refl, sym, ap, ◌∙◌, subst}
use Rattle.std.specs.Prelude.{slice_get, nat_eq}
use Rattle.pp_model.specs.declared.Answer.{Answer}
use Rattle.pp_model.specs.declared.Answer.TheVariants.{Said, Full, Lost}
use Rattle.pp_model.specs.declared.Call.{Call}
use Rattle.pp_model.specs.declared.Call.TheVariants.{Get, Insert, Remove, Cut}
use Rattle.pp_model.specs.declared.Change.{Change}
use Rattle.pp_model.specs.declared.Placed.{Placed}
use Rattle.pp_model.specs.declared.Reply.{Reply}
use Rattle.pp_model.specs.declared.Reply.TheVariants.{Took, Other}
use Rattle.pp_model.specs.Calls.{key_of, reply_at, changes}
use Rattle.pp_model.specs.FiniteMap.{find}
use Rattle.pp_model.specs.History.{after, FitsBy}
use Rattle.pp_model.specs.MapCalls.{AnswersCall, PlacesReply, StandsIn, placed}
use Rattle.pp_model.specs.Pass.{PassView, MapSizes, Meaning}
use Rattle.pp_answers.specs.Suits.{Suits, CutSays}

-- a value gives the call this reply
abbrev GivesSome : Call → Reply → Type 0
GivesSome call r = (w : Option ℕ) × (reply_at call w ≡ r)

fits_gives : (b : Bool) (log : List Change) (caller number place : ℕ) (call : Call) (r : Reply)
    → FitsBy b log caller number (placed call r place) → GivesSome call r
fits_gives true log caller number place call r f = (find (after log f.before) (key_of call), f.right)
fits_gives false log caller number place call r f = (find (after log place) (key_of call), f.right)

last_of : {A : Type 0} (xs : List A) (x : A) → slice_get (xs ++ x ∷ []) (length xs) ≡ Some x
last_of [] x = refl
last_of (y ∷ xs) x = last_of xs x

placed_gives : (call : Call) (r : Reply) (before now : PassView) → PlacesReply call r before now → StandsIn now → GivesSome call r
placed_gives call r before now p s = fits_gives (changes r) now.seen now.caller (length before.mine + 1) p.place call r
    (s.each (length before.mine) (placed call r p.place)
    (ap (λ (l : List Placed). slice_get l (length before.mine)) p.mine ∙ last_of before.mine (placed call r p.place)))

cut_suits : (v w : ℕ) (b : Bool) → nat_eq w v ≡ b → CutSays v (Said (cond b (Took w) (Other w)))
cut_suits v w true e = Rattle.std.proofs.lemmas.Bool.eqb-true w v e
cut_suits v w false e = tt

gives_suits : (call : Call) (w : Option ℕ) → Suits call (Said (reply_at call w))
gives_suits (Get k) None = tt
gives_suits (Get k) (Some w) = tt
gives_suits (Insert k v) None = tt
gives_suits (Insert k v) (Some w) = tt
gives_suits (Remove k) None = tt
gives_suits (Remove k) (Some w) = tt
gives_suits (Cut k v) None = tt
gives_suits (Cut k v) (Some w) = cut_suits v w (nat_eq w v) refl

lost_suits : (call : Call) (turns : ℕ) → Suits call (Lost turns)
lost_suits (Get k) turns = tt
lost_suits (Insert k v) turns = tt
lost_suits (Remove k) turns = tt
lost_suits (Cut k v) turns = tt

full_suits : (call : Call) → (k : ℕ) × (v : ℕ) × (call ≡ Insert k v) → Suits call Full
full_suits call i = subst (λ (c : Call). Suits c Full) (sym i.2) tt

pub suits : (m : Meaning) (z : MapSizes) (call : Call) (budget : ℕ) (before now : PassView) (answer : Answer)
    → AnswersCall m z call budget before now answer → Suits call answer
suits m z call budget before now (Said r) a = let g = placed_gives call r before now a.told.says a.told.stands in
    subst (λ (x : Reply). Suits call (Said x)) g.1 (gives_suits call g.0)
suits m z call budget before now Full a = full_suits call a.told.says.inserts
suits m z call budget before now (Lost turns) a = lost_suits call turns
