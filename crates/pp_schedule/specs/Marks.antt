-- What the marks of calls say of the calls' places in a log.
use Rattle.std.specs.Prelude.{◌≡◌, ℕ, ◌<◌, ◌≤◌, true, false, List, [], ◌∷◌, length}
use Rattle.pp_model.specs.declared.Call.{Call}
use Rattle.pp_model.specs.declared.Reply.{Reply}
use Rattle.pp_model.specs.declared.Answer.{Answer}
use Rattle.pp_model.specs.declared.Answer.TheVariants.{Said, Full, Lost}
use Rattle.pp_model.specs.declared.Change.{Change}
use Rattle.pp_model.specs.declared.Placed.{Placed}
use Rattle.pp_model.specs.Calls.{reply, changes}
use Rattle.pp_model.specs.History.{after}

-- A call with this mark has this place: where it changed the map, the place is its mark, and else the least place from the mark on
-- at which the reply is right.
pub record MarkPlaces (log : List Change) (call : Call) (r : Reply) (mark : ℕ) (s : Placed) : Type 0 where
  pub call_is : s.call ≡ call
  pub reply_is : s.reply ≡ r
  pub within : s.place ≤ length log
  pub change : changes r ≡ true → s.place ≡ mark
  pub from_mark : changes r ≡ false → mark ≤ s.place
  pub right : changes r ≡ false → reply (after log s.place) call ≡ r
  pub least : changes r ≡ false → (q : ℕ) → mark ≤ q → q < s.place → reply (after log q) call ≡ r → ⊥

-- a caller's calls with their answers and their marks, and the list of those that are placed
pub data MarkedAs (log : List Change) : List Call → List Answer → List ℕ → List Placed → Type 0 where
  none : MarkedAs log [] [] [] []
  said : (c : Call) (r : Reply) (m : ℕ) (s : Placed) (calls : List Call) (answers : List Answer) (marks : List ℕ) (mine : List Placed)
      → MarkPlaces log c r m s → MarkedAs log calls answers marks mine
      → MarkedAs log (c ∷ calls) (Said r ∷ answers) (m ∷ marks) (s ∷ mine)
  full : (c : Call) (m : ℕ) (calls : List Call) (answers : List Answer) (marks : List ℕ) (mine : List Placed)
      → MarkedAs log calls answers marks mine → MarkedAs log (c ∷ calls) (Full ∷ answers) (m ∷ marks) mine
  lost : (c : Call) (turns m : ℕ) (calls : List Call) (answers : List Answer) (marks : List ℕ) (mine : List Placed)
      → MarkedAs log calls answers marks mine → MarkedAs log (c ∷ calls) (Lost turns ∷ answers) (m ∷ marks) mine
