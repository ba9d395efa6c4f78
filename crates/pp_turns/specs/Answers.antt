-- What is known of a call as it ends, before its last steps, for every structure.
use Rattle.std.specs.Prelude.{◌≡◌, ℕ, ◌+◌, ◌<◌, Bool, true, false, List, ◌++◌}
use Rattle.pp_link.specs.declared.layout.Sizes.{Sizes}
use Rattle.pp_model.specs.declared.Answer.{Answer}
use Rattle.pp_model.specs.declared.Answer.TheVariants.{Said, Full, Lost}
use Rattle.pp_model.specs.declared.Call.{Call}
use Rattle.pp_model.specs.declared.Call.TheVariants.{Get, Insert, Remove, Cut}
use Rattle.pp_model.specs.declared.Change.{Change}
use Rattle.pp_model.specs.declared.Placed.{Placed}
use Rattle.pp_model.specs.declared.Reply.{Reply}
use Rattle.pp_model.specs.declared.Reply.TheVariants.{Took}
use Rattle.pp_model.specs.declared.steps.Step.{Step}
use Rattle.pp_model.specs.Calls.{changes}
use Rattle.pp_model.specs.MapCalls.{LeftAlone, Answered}
use Rattle.pp_model.specs.Pass.{MapSizes, Meaning}
use Rattle.pp_rule.specs.declared.views.SeatView.{SeatView}
use Rattle.pp_rule.specs.Causes.{Reader, PoolWords, CauseWords}
use Rattle.pp_base.specs.declared.purse.Purse.{Purse}
use Rattle.pp_calls.specs.PoolViews.{pool_view}
use Rattle.pp_calls.specs.Steps.{Stepped, HasOwn, StandsThen}
use Rattle.pp_shelf.specs.Runs.{map_sizes, steps_made}
use Rattle.pp_turns.specs.Tallies.{losing, effected}
use Rattle.pp_turns.specs.Turns.{Ran, Since, Unplaced, Struck, Replied, SawLast, Kept}
use Rattle.pp_turns.specs.Causes.{TookBy}

-- a call that only looks
abbrev pub is_look : Call → Bool
is_look (Get k) = true
is_look (Insert k v) = false
is_look (Remove k) = false
is_look (Cut k v) = false

-- how many free numbers a call may spend, where an insert needs so many records
abbrev pub spends_of : (need : ℕ) → Call → ℕ
spends_of need (Get k) = 0
spends_of need (Insert k v) = need
spends_of need (Remove k) = 0
spends_of need (Cut k v) = 0

-- more steps leave the record that they tell
abbrev pub IsSettled : (List Step → ℕ) → List Step → Type 0
IsSettled taken steps = (more : List Step) → taken (steps ++ more) ≡ taken steps

-- The pass made steps that count for nothing in a call, and placed none.
pub record Calm (r : Reader Call) (z : MapSizes) (call : Call) {W : Type 0} (v w : SeatView Change Placed W) : Type 0 where
  pub stepped : Stepped v w
  pub stands : HasOwn w.order → StandsThen v → StandsThen w
  pub unplaced : Unplaced v w
  pub losing_so : (m : r.Memory) (n : ℕ) → (m' : r.Memory) × Ran r z call (losing m n) (losing m' n) v w
  pub effected_so : (m : r.Memory) (n early : ℕ) (later : List Step)
      → (m' : r.Memory) × Ran r z call (effected m n early later) (effected m' n early (later ++ steps_made v w)) v w

module _ (words : PoolWords) (causes : CauseWords) (z : MapSizes) (budget : ℕ) (call : Call) {W : Type 0} where
  -- it is answered by a reply that changes nothing
  pub record SaysPlain (said : Reply) (lost : ℕ) (from now : SeatView Change Placed W) : Type 0 where
    pub start : ℕ
    pub memory : causes.reader.Memory
    pub since : Since causes.reader z call start (losing memory lost) from now
    pub few : lost < budget
    pub replied : Replied call said start from now

  -- Or by one that says what it changed. Which record it took its steps have settled.
  pub record SaysStruck (said : Reply) (lost : ℕ) (from now : SeatView Change Placed W) : Type 0 where
    pub start : ℕ
    pub memory : causes.reader.Memory
    pub early : ℕ
    pub later : List Step
    pub since : Since causes.reader z call start (effected memory lost early later) from now
    pub few : early < budget
    pub struck : Struck call said from now
    pub took : (v : ℕ) → said ≡ Took v → TookBy words causes z call budget (effected memory lost early later) from now
        × IsSettled (causes.taken z call) (steps_made from now)

  -- or it lost as many turns as it may
  pub record GivesUp (turns : ℕ) (from now : SeatView Change Placed W) : Type 0 where
    pub start : ℕ
    pub memory : causes.reader.Memory
    pub since : Since causes.reader z call start (losing memory turns) from now
    pub all : turns ≡ budget
    pub unplaced : Unplaced from now

  abbrev pub SaysBy : Bool → Reply → ℕ → SeatView Change Placed W → SeatView Change Placed W → Type 0
  SaysBy true said lost from now = SaysStruck said lost from now
  SaysBy false said lost from now = SaysPlain said lost from now

  -- the answer, of a call that has lost so many turns
  abbrev pub AnswersBy : Answer → ℕ → SeatView Change Placed W → SeatView Change Placed W → Type 0
  AnswersBy (Said r) lost from now = SaysBy (changes r) r lost from now
  AnswersBy Full lost from now = ⊥
  AnswersBy (Lost turns) lost from now = GivesUp turns from now × (turns ≡ lost)

  -- A call that began at this view, with these free numbers, has so many records out, and has lost so many turns, may be ended so.
  pub record MayEnd (share out : ℕ) (answer : Answer) (lost : ℕ) (from now : SeatView Change Placed W) (free : List ℕ) (p : Purse)
      : Type 0 where
    pub by : AnswersBy answer lost from now
    pub last : SawLast from now
    pub sizes : now.known.sizes ≡ from.known.sizes
    pub kept : Kept free share p.free.items (out + spends_of words.need call)
    pub alone : is_look call ≡ true → LeftAlone (pool_view from free share) (pool_view now p.free.items share)

-- It was ended by such steps, with this answer.
pub record Ends (words : PoolWords) (causes : CauseWords) (m : Meaning) (z : Sizes) (budget : ℕ) (call : Call) {W : Type 0}
    (IsCalm : Type 0) (share out : ℕ) (answer : Answer) (v w : SeatView Change Placed W) (p p' : Purse) : Type 0 where
  pub calm : IsCalm
  pub answered : (from : SeatView Change Placed W) (free : List ℕ) (lost : ℕ)
      → MayEnd words causes (map_sizes z) budget call share out answer lost from v free p → StandsThen w
      → Answered m (map_sizes z) call budget (pool_view from free share) (pool_view w p'.free.items share) answer lost
