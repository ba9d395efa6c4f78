-- The clauses of a map's calls, by name.
use Rattle.std.specs.Prelude.{◌≡◌, ℕ, ◌+◌, ◌-◌, ◌*◌, ◌^◌, ◌<◌, ◌≤◌, ◌⊎◌, min, Bool, true, false, List, [], ◌∷◌, ◌++◌}
use Rattle.std.specs.Prelude.{length, map, take, Option, Some, None, Result, Ok, Err, slice_get}
use Rattle.pp_model.specs.declared.Call.{Call}
use Rattle.pp_model.specs.declared.Call.TheVariants.{Get, Insert, Remove, Cut}
use Rattle.pp_model.specs.declared.Reply.{Reply}
use Rattle.pp_model.specs.declared.Reply.TheVariants.{Value, Absent, Added, Held, Took, Other}
use Rattle.pp_model.specs.declared.Answer.{Answer}
use Rattle.pp_model.specs.declared.Answer.TheVariants.{Said, Full, Lost}
use Rattle.pp_model.specs.declared.Lost.{Lost as LostTurns}
use Rattle.pp_model.specs.declared.Inserted.{Inserted}
use Rattle.pp_model.specs.declared.Inserted.TheVariants as inserted
use Rattle.pp_model.specs.declared.Cut.{Cut as CutReply}
use Rattle.pp_model.specs.declared.Cut.TheVariants as cut
use Rattle.pp_model.specs.declared.InsertFault.{InsertFault}
use Rattle.pp_model.specs.declared.InsertFault.TheVariants as fault
use Rattle.pp_model.specs.declared.Turned.{Turned}
use Rattle.pp_model.specs.declared.Turned.TheVariants.{On, Done}
use Rattle.pp_model.specs.declared.Change.{Change}
use Rattle.pp_model.specs.declared.Placed.{Placed}
use Rattle.pp_model.specs.declared.Pair.{Pair}
use Rattle.pp_model.specs.Lists.{AtEach, IsPrefix, RisesFrom, times}
use Rattle.pp_model.specs.FiniteMap.{find, KeysRise}
use Rattle.pp_model.specs.Calls.{key_of, reply, changes}
use Rattle.pp_model.specs.History.{after, contents_of, Sound, Stands}
use Rattle.pp_model.specs.Pass.{PassView, GoingView, NoteView, MapSizes, OrderEntry, Meaning, CallerRun, RunView}
use Rattle.pp_model.specs.Pass.{IsExecution, replayed, changes_of, steps_of, steps_since, start_of, seen_last}

-- the answers of the four calls, as one type
abbrev pub get_answer : Result (Option ℕ) LostTurns → Answer
get_answer (Ok None) = Said Absent
get_answer (Ok (Some v)) = Said (Value v)
get_answer (Err e) = Lost e.turns

abbrev pub insert_answer : Result Inserted InsertFault → Answer
insert_answer (Ok inserted.Added) = Said Added
insert_answer (Ok (inserted.Held v)) = Said (Held v)
insert_answer (Err fault.Full) = Full
insert_answer (Err (fault.Lost turns)) = Lost turns

abbrev pub remove_answer : Result (Option ℕ) LostTurns → Answer
remove_answer (Ok None) = Said Absent
remove_answer (Ok (Some v)) = Said (Took v)
remove_answer (Err e) = Lost e.turns

abbrev pub cut_answer : ℕ → Result CutReply LostTurns → Answer
cut_answer value (Ok cut.Took) = Said (Took value)
cut_answer value (Ok (cut.Other v)) = Said (Other v)
cut_answer value (Ok cut.Absent) = Said Absent
cut_answer value (Err e) = Lost e.turns

-- a call may be made
pub record MayCall (call : Call) (budget : ℕ) (pass : PassView) : Type 0 where
  pub key : key_of call ≤ 2 ^ 64 - 4
  pub budget_left : 1 ≤ budget
  pub room : 1 ≤ pass.room

-- what a pass keeps over a call or a part of one
pub record Grew (before now : PassView) : Type 0 where
  pub caller : now.caller ≡ before.caller
  pub share : now.share ≡ before.share
  pub seen : IsPrefix before.seen now.seen
  pub steps : IsPrefix before.steps now.steps
  pub order : IsPrefix before.order now.order
  pub wrote : before.wrote ≤ now.wrote
  pub room : before.room ≤ now.room + 1
  -- its steps are its own ones in the order that it has seen
  pub own_steps : now.steps ≡ steps_of now.caller now.order
  -- where it made a step, it has seen what its last step saw
  pub seen_by : (0 < length (steps_since before now)) → seen_last 0 (steps_since before now) ≡ length now.seen
  -- each step that it made saw at least what it had seen before, and no more than it has seen
  pub saw : AtEach (steps_since before now) (λ k s. (length before.seen ≤ s.seen) × (s.seen ≤ length now.seen))
  -- its placed calls stay, and new ones come after them
  pub mine : IsPrefix before.mine now.mine

-- a pass's placed calls stand in what it has seen
abbrev pub StandsIn : PassView → Type 0
StandsIn p = Stands p.seen p.caller p.mine

abbrev pub placed : Call → Reply → ℕ → Placed
placed call reply place = record { call = call; reply = reply; place = place }

-- A reply was entered in the pass's list, at a place among the changes that it saw in the call. A change comes after all that
-- was seen before; of a call that changed nothing the place is the least from its start on at which the reply is right.
pub record PlacesReply (call : Call) (r : Reply) (before now : PassView) : Type 0 where
  pub place : ℕ
  pub mine : now.mine ≡ before.mine ++ placed call r place ∷ []
  pub since : length before.seen ≤ place
  pub within : place ≤ length now.seen
  pub above : changes r ≡ true → length before.seen < place
  pub from_start : changes r ≡ false → start_of before now ≤ place
  pub least : changes r ≡ false → (q : ℕ) → start_of before now ≤ q → q < place → reply (after now.seen q) call ≡ r → ⊥

-- an insert had fewer free records than it needs, and at some place since its start the key was absent
pub record FoundFull (need : ℕ) (call : Call) (before now : PassView) : Type 0 where
  pub mine : now.mine ≡ before.mine
  pub inserts : (k : ℕ) × (v : ℕ) × (call ≡ Insert k v)
  pub short : length before.free < need
  pub place : ℕ
  pub from_start : start_of before now ≤ place
  pub within : place ≤ length now.seen
  pub absent : find (after now.seen place) (key_of call) ≡ None

-- a call gave up; it carries the number of its lost turns
pub record GaveUp (lost turns : ℕ) (before now : PassView) : Type 0 where
  pub mine : now.mine ≡ before.mine
  pub counted : lost ≡ turns

-- what an answer says of the pass
abbrev pub Says : Meaning → MapSizes → Call → PassView → PassView → Answer → Type 0
Says meaning sizes call before now (Said r) = PlacesReply call r before now
Says meaning sizes call before now Full = FoundFull meaning.need call before now
Says meaning sizes call before now (Lost turns) = GaveUp (meaning.lost sizes call (steps_since before now)) turns before now

-- a call answers lost exactly where its lost turns, of which so many came before it took effect, reached its budget
abbrev pub KeepsBudget : ℕ → ℕ → Answer → Type 0
KeepsBudget budget early (Said r) = early < budget
KeepsBudget budget early Full = early < budget
KeepsBudget budget early (Lost turns) = (turns ≡ budget) × (early ≡ budget)

-- a get leaves links and purse as they were
pub record LeftAlone (before now : PassView) : Type 0 where
  pub wrote : now.wrote ≡ before.wrote
  pub free : now.free ≡ before.free
  pub retired : now.retired ≡ before.retired
  pub chains : now.chains ≡ before.chains

-- an insert or a remove, of which the first may spend so many free numbers, tidied its purse
pub record Tidied (meaning : Meaning) (sizes : MapSizes) (spends : ℕ) (before now : PassView) : Type 0 where
  pub retired : length now.retired ≤ 2 * meaning.hazards sizes
  pub chains : now.chains ≤ 4
  pub shared : (length now.free ≤ now.share) ⊎ meaning.Shelved sizes (steps_since before now)
  pub kept : min (length before.free) before.share ≤ length now.free + spends

-- what a call leaves of links and purse
abbrev pub LeavesPurse : Meaning → MapSizes → Call → PassView → PassView → Type 0
LeavesPurse meaning sizes (Get k) before now = LeftAlone before now
LeavesPurse meaning sizes (Insert k v) before now = Tidied meaning sizes meaning.need before now
LeavesPurse meaning sizes (Remove k) before now = Tidied meaning sizes 0 before now
LeavesPurse meaning sizes (Cut k v) before now = Tidied meaning sizes 0 before now

-- after a full answer few numbers are retired, the free numbers of the share that there were are still there, and they are again
-- fewer than an insert needs
pub record FullPurse (meaning : Meaning) (sizes : MapSizes) (before now : PassView) : Type 0 where
  pub retired : length now.retired ≤ meaning.hazards sizes
  pub short : length now.free < meaning.need
  pub free : IsPrefix (take (min (length before.free) before.share) before.free) now.free

abbrev pub LeavesFull : Meaning → MapSizes → PassView → PassView → Answer → Type 0
LeavesFull meaning sizes before now Full = FullPurse meaning sizes before now
LeavesFull meaning sizes before now (Said r) = Unit {0}
LeavesFull meaning sizes before now (Lost turns) = Unit {0}

-- As many records are attached as a map of the pairs has live ones that the pass has seen, where it has seen all steps: none of
-- them is that of a removed pair.
abbrev pub IsClean : Meaning → MapSizes → PassView → Type 0
IsClean meaning sizes pass =
    meaning.Attached sizes (replayed (meaning.opening sizes) pass.order) (meaning.live (length (contents_of pass.seen)))

-- A call was made with this budget of lost turns, from its begin to this answer. By its steps it lost so many turns.
pub record Answered (meaning : Meaning) (sizes : MapSizes) (call : Call) (budget : ℕ) (before now : PassView)
    (answer : Answer) (turns : ℕ) : Type 0 where
  pub grew : Grew before now
  pub says : Says meaning sizes call before now answer
  pub stands : StandsIn now
  pub lost : KeepsBudget budget (meaning.lost_early sizes call (steps_since before now)) answer
  pub cause : meaning.Cause sizes call budget before now answer
  pub purse : LeavesPurse meaning sizes call before now
  pub full : LeavesFull meaning sizes before now answer
  pub stepped : meaning.turn_steps ≤ length (steps_since before now)
  pub counted : meaning.lost sizes call (steps_since before now) ≡ turns

-- No turn of a call was lost, and it left no record of a removed pair attached.
pub record Undisturbed (meaning : Meaning) (sizes : MapSizes) (call : Call) (before now : PassView) : Type 0 where
  pub lost : meaning.lost sizes call (steps_since before now) ≡ 0
  pub clean : IsClean meaning sizes now

-- A call was made, with so many lost turns. One of a pass that is alone on its map is not disturbed, where no record of a removed
-- pair was attached as it began.
pub record AnswersCall (meaning : Meaning) (sizes : MapSizes) (call : Call) (budget : ℕ) (before now : PassView)
    (answer : Answer) : Type 0 where
  pub turns : ℕ
  pub told : Answered meaning sizes call budget before now answer turns
  pub alone : sizes.passes ≡ 1 → IsClean meaning sizes before → Undisturbed meaning sizes call before now

-- a call was begun
pub record Begun (asked : Call) (races : ℕ) (going : GoingView) : Type 0 where
  pub call : going.call ≡ asked
  pub budget : going.budget ≡ races
  pub lost : going.lost ≡ 0
  pub untouched : going.struck ≡ false
  pub few : going.kind ≤ 3
  pub high : going.upper ≤ 2 ^ 64

-- a turn that goes on was lost, narrowed the keys that the walk has left, or came to a later kind of turn
pub data WentOn (was now : GoingView) : Type 0 where
  turn_lost : now.lost ≡ was.lost + 1 → now.lost < now.budget → WentOn was now
  keys_narrowed : now.lost ≡ was.lost → now.kind ≡ was.kind → now.upper - now.lower < was.upper - was.lower → WentOn was now
  next_kind : now.lost ≡ was.lost → was.kind < now.kind → WentOn was now

-- a going call stays the same call, and one that took effect has taken effect
pub record SameCall (was now : GoingView) : Type 0 where
  pub call : now.call ≡ was.call
  pub budget : now.budget ≡ was.budget
  pub struck : was.struck ≡ true → now.struck ≡ true
  pub few : now.kind ≤ 3
  pub high : now.upper ≤ 2 ^ 64

-- a call has taken effect: its change was entered in the pass's list, with the reply that it will give
pub record TookEffect (call : Call) (before now : PassView) : Type 0 where
  pub said : Reply
  pub changed : changes said ≡ true
  pub entered : PlacesReply call said before now

-- A going call's lost turns and its start are those of its steps. Its change stands in the pass's list exactly where it has
-- taken effect.
pub record Counted (meaning : Meaning) (sizes : MapSizes) (going : GoingView) (before now : PassView) : Type 0 where
  pub lost : going.lost ≡ meaning.lost sizes going.call (steps_since before now)
  pub start : going.start ≡ start_of before now
  pub effect : going.struck ≡ true → TookEffect going.call before now
  pub no_effect : going.struck ≡ false → now.mine ≡ before.mine

-- A turn in which the call took effect: its change's place is above all that was seen before the turn.
pub record Strikes (call : Call) (before now : PassView) : Type 0 where
  pub said : Reply
  pub place : ℕ
  pub changed : changes said ≡ true
  pub mine : now.mine ≡ before.mine ++ placed call said place ∷ []
  pub above : length before.seen < place
  pub within : place ≤ length now.seen

-- one turn of a going call was made, whether it goes on or ended: what the pass keeps, what stays of the call, how many steps the
-- pass made at least, and what it means that the call took effect in it
pub record MakesTurn (meaning : Meaning) (was now : GoingView) (before left : PassView) : Type 0 where
  pub grew : Grew before left
  pub same : SameCall was now
  pub stepped : meaning.turn_steps ≤ length (steps_since before left)
  pub strikes : was.struck ≡ false → now.struck ≡ true → Strikes was.call before left

-- an answer of a call that took effect
abbrev pub took_effect : Answer → Bool
took_effect (Said r) = changes r
took_effect Full = false
took_effect (Lost turns) = false

-- a note says how much its pass has seen
pub record Notes (pass : PassView) (note : NoteView) : Type 0 where
  pub seen : note.seen ≡ length pass.seen
  pub order : note.order ≡ length pass.order

-- the pass with another part of the log and of the order seen
abbrev pub seeing : List Change → List (OrderEntry Change) → PassView → PassView
seeing seen order pass = record {
  caller = pass.caller;
  seen = seen;
  mine = pass.mine;
  steps = pass.steps;
  order = order;
  wrote = pass.wrote;
  room = pass.room;
  free = pass.free;
  retired = pass.retired;
  chains = pass.chains;
  share = pass.share;
}

-- A pass learnt a note: it has seen what it had seen and at least as much as the note says, and nothing else of it changed.
pub record Learns (note : NoteView) (before now : PassView) : Type 0 where
  pub same : now ≡ seeing now.seen now.order before
  pub seen : IsPrefix before.seen now.seen
  pub order : IsPrefix before.order now.order
  pub noted_seen : note.seen ≤ length now.seen
  pub noted_order : note.order ≤ length now.order
  pub own_steps : now.steps ≡ steps_of now.caller now.order

abbrev pub IfOn : Turned → Type 0 → Type 0
IfOn On P = P
IfOn (Done a) P = Unit {0}

abbrev pub IfDone : Turned → (Answer → Type 0) → Type 0
IfDone On P = Unit {0}
IfDone (Done a) P = P a

abbrev pub caller_run : PassView → CallerRun
caller_run p = record { caller = p.caller; mine = p.mine; steps = p.steps }

-- One of the passes had seen the whole log, and had the whole order of steps.
pub record SawAll (passes : List PassView) (run : RunView) : Type 0 where
  pub position : ℕ
  pub last : PassView
  pub is_one : slice_get passes position ≡ Some last
  pub seen : last.seen ≡ run.log
  pub order : last.order ≡ run.order

-- The order of a run's steps is an execution from the map's opening words. Each step was made by the pass of a caller, and its
-- changes are that caller's; where turns make steps, all changes of the log took effect at steps. Each caller's steps are its own
-- entries.
pub record IsOrdered (meaning : Meaning) (run : RunView) : Type 0 where
  pub execution : IsExecution meaning.stores (meaning.opening run.sizes) 0 run.order
  pub own_passes : AtEach run.order (λ k e. e.pass < length run.callers)
  pub own_changes : AtEach run.order (λ k e. AtEach e.changes (λ j c. c.caller ≡ e.pass))
  pub logged : 0 < meaning.turn_steps → changes_of run.order ≡ run.log
  pub own_steps : AtEach run.callers (λ k r. r.steps ≡ steps_of r.caller run.order)

-- Live and free numbers together are 1 to the number of records, each once, and the free ones rise.
pub record AreNumbers (records : ℕ) (live free : List ℕ) : Type 0 where
  pub each_once : (n : ℕ) → 1 ≤ n → n ≤ records → times n live + times n free ≡ 1
  pub no_other : (n : ℕ) → (n ≡ 0) ⊎ (records < n) → times n live + times n free ≡ 0
  pub free_rise : RisesFrom 0 free

-- what stands after a map was closed over these passes
pub record IsClosing (meaning : Meaning) (sizes : MapSizes) (passes : List PassView) (contents : List Pair) (free : List ℕ)
    (run : RunView) : Type 0 where
  pub sizes_are : run.sizes ≡ sizes
  pub sound : Sound run.log
  pub contents_are : contents ≡ contents_of run.log
  pub keys_rise : KeysRise contents
  pub callers_are : run.callers ≡ map caller_run passes
  pub known : AtEach run.log (λ p c. c.caller < length passes)
  pub stand : AtEach passes (λ k p. Stands run.log p.caller p.mine)
  pub seen : AtEach passes (λ k p. IsPrefix p.seen run.log)
  pub order : AtEach passes (λ k p. IsPrefix p.order run.order)
  pub own_order : AtEach passes (λ k p. p.steps ≡ steps_of p.caller p.order)
  pub saw_all : SawAll passes run
  pub ordered : IsOrdered meaning run
  pub holds : meaning.Holds sizes (replayed (meaning.opening sizes) run.order) contents run.live
  pub numbers : AreNumbers sizes.records run.live free
  pub live : length run.live ≡ meaning.live (length contents)

-- a pass made these calls, one after another, with these answers
pub data AnswersCalls (meaning : Meaning) (sizes : MapSizes) (budget : ℕ) (before : PassView)
    : List Call → List Answer → PassView → Type 0 where
  none : AnswersCalls meaning sizes budget before [] [] before
  more : (calls : List Call) (answers : List Answer) (then_at now : PassView) (call : Call) (answer : Answer)
      → AnswersCalls meaning sizes budget before calls answers then_at → AnswersCall meaning sizes call budget then_at now answer
      → AnswersCalls meaning sizes budget before (calls ++ call ∷ []) (answers ++ answer ∷ []) now

-- what a placed call says
pub record SaidCall : Type 0 where
  pub call : Call
  pub reply : Reply

abbrev pub said_call : Placed → SaidCall
said_call s = record { call = s.call; reply = s.reply }

-- the calls that were answered by a reply, with their replies
abbrev pub said_calls : List Call → List Answer → List SaidCall
said_calls [] answers = []
said_calls (c ∷ calls) [] = []
said_calls (c ∷ calls) (Said r ∷ answers) = record { call = c; reply = r } ∷ said_calls calls answers
said_calls (c ∷ calls) (Full ∷ answers) = said_calls calls answers
said_calls (c ∷ calls) (Lost turns ∷ answers) = said_calls calls answers

-- a pass's list grew by the calls that were answered by a reply, in order
abbrev pub MineGrew : List Call → List Answer → PassView → PassView → Type 0
MineGrew calls answers before now = map said_call now.mine ≡ map said_call before.mine ++ said_calls calls answers
