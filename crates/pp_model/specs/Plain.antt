-- The plain map: sorted pairs, and the list of the placed calls, from which its log is read.
use Rattle.std.specs.Prelude.{◌≡◌, ℕ, ◌+◌, ◌-◌, ◌<◌, ◌≤◌, Bool, false, cond, List, [], ◌∷◌, length}
use Rattle.pp_model.specs.declared.Call.{Call}
use Rattle.pp_model.specs.declared.Reply.TheVariants.{Value, Absent, Added, Held, Took, Other}
use Rattle.pp_model.specs.declared.Answer.{Answer}
use Rattle.pp_model.specs.declared.Answer.TheVariants.{Said, Full, Lost}
use Rattle.pp_model.specs.declared.Change.{Change}
use Rattle.pp_model.specs.declared.Placed.{Placed}
use Rattle.pp_model.specs.declared.Pair.{Pair}
use Rattle.pp_model.specs.Lists.{upto}
use Rattle.pp_model.specs.FiniteMap.{KeysRise}
use Rattle.pp_model.specs.Calls.{changes}
use Rattle.pp_model.specs.History.{Sound, Stands, contents_of, change_of}
use Rattle.pp_model.specs.Pass.{PassView, GoingView, NoteView, MapSizes, Meaning, RunView}
use Rattle.pp_model.specs.MapCalls.{MayCall, Answered, StandsIn}

-- the changes of a list of placed calls, numbered from n on
abbrev pub changes_from : ℕ → List Placed → List Change
changes_from n [] = []
changes_from n (s ∷ mine) = cond (changes s.reply) (change_of 0 n s.call ∷ changes_from (n + 1) mine) (changes_from (n + 1) mine)

-- the log of a list of placed calls
abbrev pub log_of : List Placed → List Change
log_of mine = changes_from 1 mine

-- a pass of the plain map, by its number of records and of calls, its pairs and its placed calls
abbrev pub plain_pass : ℕ → ℕ → List Pair → List Placed → PassView
plain_pass records calls pairs mine = record {
  caller = 0;
  seen = log_of mine;
  mine = mine;
  steps = [];
  order = [];
  wrote = 0;
  room = calls - length mine;
  free = upto (length pairs + 1) (records - length pairs);
  retired = [];
  chains = 0;
  share = records;
}

-- what a pass of the plain map keeps
pub record PlainHolds (records calls : ℕ) (pairs : List Pair) (mine : List Placed) : Type 0 where
  pub contents : pairs ≡ contents_of (log_of mine)
  pub rises : KeysRise pairs
  pub stands : Stands (log_of mine) 0 mine
  pub sound : Sound (log_of mine)
  pub pairs_fit : length pairs ≤ records
  pub calls_fit : length mine ≤ calls

abbrev pub plain_sizes : ℕ → MapSizes
plain_sizes records = record { passes = 1; records = records; heads = 0 }

-- an insert is full exactly where the key is absent and as many pairs are kept as there are records; nothing is ever lost
abbrev pub PlainAnswers : ℕ → ℕ → Answer → Type 0
PlainAnswers records pairs (Said Added) = pairs < records
PlainAnswers records pairs (Said (Held v)) = Unit {0}
PlainAnswers records pairs (Said (Value v)) = Unit {0}
PlainAnswers records pairs (Said Absent) = Unit {0}
PlainAnswers records pairs (Said (Took v)) = Unit {0}
PlainAnswers records pairs (Said (Other v)) = Unit {0}
PlainAnswers records pairs Full = pairs ≡ records
PlainAnswers records pairs (Lost turns) = ⊥

-- a call of the plain map makes no step, and its pass has seen the changes of its own list
pub record PlainCause (sizes : MapSizes) (call : Call) (budget : ℕ) (before now : PassView) (answer : Answer) : Type 0 where
  pub no_step : now.steps ≡ before.steps
  pub seen : now.seen ≡ log_of now.mine
  pub answers : PlainAnswers sizes.records (length (contents_of before.seen)) answer

-- the plain map has no words, makes no steps and loses no turn
abbrev pub plain_meaning : Meaning
plain_meaning = record {
  need = 1;
  live = λ n. n;
  turn_steps = 0;
  hazards = λ sizes. 0;
  stores = λ kind. false;
  opening = λ sizes. [];
  Holds = λ sizes words contents live. (words ≡ []) × (live ≡ upto 1 (length contents));
  Attached = λ sizes words n. Unit {0};
  lost = λ sizes call steps. 0;
  lost_early = λ sizes call steps. 0;
  Cause = PlainCause;
  Shelved = λ sizes steps. ⊥;
}

-- a call of the plain map was made, whatever its budget
abbrev pub IsPlainAnswer : Call → PassView → PassView → Answer → Type 0
IsPlainAnswer call before now answer =
    (budget : ℕ) → 1 ≤ budget → Answered plain_meaning (plain_sizes before.share) call budget before now answer 0

-- a going call of the plain map: nothing happens before its one turn
pub record PlainUnderWay (asked : Call) (races start : ℕ) (struck : Bool) (pass before : PassView) : Type 0 where
  pub same : pass ≡ before
  pub untouched : struck ≡ false
  pub start_is : start ≡ length before.seen
  pub may : MayCall asked races before

abbrev pub plain_going : Call → ℕ → ℕ → Bool → GoingView
plain_going asked races start struck =
    record { call = asked; budget = races; lost = 0; start = start; struck = struck; kind = 0; lower = 0; upper = 0 }

-- a note of the plain map
abbrev pub plain_note : ℕ → NoteView
plain_note seen = record { seen = seen; order = 0 }

-- The pass may learn a note: it has seen as much. There is one pass, so it made each note itself.
pub record PlainLearnable (pass : PassView) (note : ℕ) : Type 0 where
  pub seen : note ≤ length pass.seen

-- the pass is that of the plain map, and its placed calls stand in its log
pub record PlainBelongs (records : ℕ) (pass : PassView) : Type 0 where
  pub share : pass.share ≡ records
  pub caller : pass.caller ≡ 0
  pub stands : StandsIn pass

-- the run that a closed plain map shows, by its number of records and its placed calls
abbrev pub plain_run : ℕ → List Placed → RunView
plain_run records mine = record {
  log = log_of mine;
  callers = record { caller = 0; mine = mine; steps = [] } ∷ [];
  order = [];
  live = upto 1 (length (contents_of (log_of mine)));
  sizes = plain_sizes records;
}
