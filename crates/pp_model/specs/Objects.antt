-- Sequential objects: one log of an object's changes, the calls that are placed in it, and the one history that they make.
-- Sequential objects and legal histories are those of Herlihy and Wing, "Linearizability: a correctness condition for concurrent
-- objects", 1990.
use Rattle.std.specs.Prelude.{◌≡◌, ℕ, zero, suc, ◌+◌, ◌<◌, ◌≤◌, Bool, true, false, cond, not, ◌&&◌, nat_eq, List, [], ◌∷◌, ◌++◌}
use Rattle.std.specs.Prelude.{length, map, take, Some, slice_get}
use Rattle.pp_model.specs.Lists.{AtEach, RisesFrom}

-- A sequential object: its states, its calls and its replies, what it replies to a call and what the call leaves, and which
-- replies say that it was changed. Besides, how the changes of its log and its placed calls are written down.
pub record Object : Type 1 where
  pub State : Type 0
  pub Call : Type 0
  pub Reply : Type 0
  pub initial : State
  pub reply : State → Call → Reply
  pub next : State → Call → State
  pub changes : Reply → Bool
  -- a call whose reply says no change leaves the state as it was
  pub still : (m : State) (x : Call) → changes (reply m x) ≡ false → next m x ≡ m
  -- a change: whose it is, and by which call
  pub Change : Type 0
  pub caller : Change → ℕ
  pub call : Change → Call
  -- the change that this caller's call of this number made
  pub change : ℕ → ℕ → Call → Change
  pub caller_is : (c n : ℕ) (x : Call) → caller (change c n x) ≡ c
  pub call_is : (c n : ℕ) (x : Call) → call (change c n x) ≡ x
  -- a placed call: what was asked, what was replied, and where in the log
  pub Placed : Type 0
  pub asked : Placed → Call
  pub given : Placed → Reply
  pub place : Placed → ℕ

module _ (o : Object) where
  -- the state after a list of changes, from a state on
  abbrev pub run_from : o.State → List o.Change → o.State
  run_from m [] = m
  run_from m (c ∷ log) = run_from (o.next m (o.call c)) log

  -- the state that the first p changes of a log leave
  abbrev pub after : List o.Change → ℕ → o.State
  after log p = run_from o.initial (take p log)

  -- the state that the whole log leaves
  abbrev pub contents_of : List o.Change → o.State
  contents_of log = run_from o.initial log

  -- each change of the log changes the state before it
  abbrev pub Sound : List o.Change → Type 0
  Sound log = (p : ℕ) (c : o.Change) → slice_get log p ≡ Some c → o.changes (o.reply (after log p) (o.call c)) ≡ true

  -- a call that changed the object, as a caller's call of this number: the log has it at its place, and the state before gives
  -- its reply
  pub record FitsAsChange (log : List o.Change) (caller number : ℕ) (s : o.Placed) : Type 0 where
    pub before : ℕ
    pub place : o.place s ≡ before + 1
    pub logged : slice_get log before ≡ Some (o.change caller number (o.asked s))
    pub right : o.reply (after log before) (o.asked s) ≡ o.given s

  -- a call that changed nothing: the state at its place gives its reply
  pub record FitsUnchanged (log : List o.Change) (s : o.Placed) : Type 0 where
    pub within : o.place s ≤ length log
    pub right : o.reply (after log (o.place s)) (o.asked s) ≡ o.given s

  abbrev pub FitsBy : Bool → List o.Change → ℕ → ℕ → o.Placed → Type 0
  FitsBy true log caller number s = FitsAsChange log caller number s
  FitsBy false log caller number s = FitsUnchanged log s

  -- a placed call fits a log, as a caller's call of this number
  abbrev pub Fits : List o.Change → ℕ → ℕ → o.Placed → Type 0
  Fits log caller number s = FitsBy (o.changes (o.given s)) log caller number s

  -- the places of a caller's changes in a log whose first change has place p + 1
  abbrev pub places_from : ℕ → ℕ → List o.Change → List ℕ
  places_from p caller [] = []
  places_from p caller (c ∷ log) =
      cond (nat_eq (o.caller c) caller) ((p + 1) ∷ places_from (p + 1) caller log) (places_from (p + 1) caller log)

  -- the places of a caller's changes in a log
  abbrev pub places_in : ℕ → List o.Change → List ℕ
  places_in caller log = places_from 0 caller log

  -- the places of the changes in a list of placed calls
  abbrev pub places_of : List o.Placed → List ℕ
  places_of [] = []
  places_of (s ∷ mine) = cond (o.changes (o.given s)) (o.place s ∷ places_of mine) (places_of mine)

  -- t comes after s: at no lower place, and above it where t is a change
  pub record Follows (s t : o.Placed) : Type 0 where
    pub rises : o.place s ≤ o.place t
    pub above : o.changes (o.given t) ≡ true → o.place s < o.place t

  -- a caller's list of placed calls stands in a log: each fits it, they follow one another, and the log has no other change of
  -- the caller
  pub record Stands (log : List o.Change) (caller : ℕ) (mine : List o.Placed) : Type 0 where
    pub each : (n : ℕ) (s : o.Placed) → slice_get mine n ≡ Some s → Fits log caller (n + 1) s
    pub rising : (i j : ℕ) (s t : o.Placed) → i < j → slice_get mine i ≡ Some s → slice_get mine j ≡ Some t → Follows s t
    pub all : places_in caller log ≡ places_of mine

  -- a caller with its list of placed calls
  pub record CallerList : Type 0 where
    pub caller : ℕ
    pub mine : List o.Placed

  -- a call of a history
  pub record HistoryCall : Type 0 where
    pub caller : ℕ
    pub call : o.Call
    pub reply : o.Reply

  abbrev pub history_call : ℕ → o.Placed → HistoryCall
  history_call caller s = record { caller = caller; call = o.asked s; reply = o.given s }

  -- a history is legal where running its calls, from a state on, gives its replies
  abbrev pub LegalFrom : o.State → List HistoryCall → Type 0
  LegalFrom m [] = Unit {0}
  LegalFrom m (s ∷ history) = (o.reply m s.call ≡ s.reply) × LegalFrom (o.next m s.call) history

  abbrev pub Legal : List HistoryCall → Type 0
  Legal history = LegalFrom o.initial history

  -- a placed call stands at this place, as a change or as none
  abbrev pub stands_at : Bool → ℕ → o.Placed → Bool
  stands_at true p s = o.changes (o.given s) && nat_eq (o.place s) p
  stands_at false p s = not (o.changes (o.given s)) && nat_eq (o.place s) p

  -- a caller's changes at a place, or its other calls there
  abbrev pub calls_at : Bool → ℕ → ℕ → List o.Placed → List HistoryCall
  calls_at change p caller [] = []
  calls_at change p caller (s ∷ mine) =
      cond (stands_at change p s) (history_call caller s ∷ calls_at change p caller mine) (calls_at change p caller mine)

  -- those of all callers
  abbrev pub all_calls_at : Bool → ℕ → List CallerList → List HistoryCall
  all_calls_at change p [] = []
  all_calls_at change p (l ∷ lists) = calls_at change p l.caller l.mine ++ all_calls_at change p lists

  -- from place p on, with so many changes to come: the calls that changed nothing at p, then the next change, and so on
  abbrev pub linearized_from : ℕ → ℕ → List CallerList → List HistoryCall
  linearized_from p zero lists = all_calls_at false p lists
  linearized_from p (suc n) lists =
      all_calls_at false p lists ++ (all_calls_at true (p + 1) lists ++ linearized_from (p + 1) n lists)

  -- the one history of a log and the callers' lists
  abbrev pub linearization : List o.Change → List CallerList → List HistoryCall
  linearization log lists = linearized_from 0 (length log) lists

  -- the calls of one caller in a history
  abbrev pub calls_of : ℕ → List HistoryCall → List HistoryCall
  calls_of caller [] = []
  calls_of caller (s ∷ history) = cond (nat_eq s.caller caller) (s ∷ calls_of caller history) (calls_of caller history)

  abbrev pub callers_of : List CallerList → List ℕ
  callers_of [] = []
  callers_of (l ∷ lists) = l.caller ∷ callers_of lists

  -- a caller has a list
  pub record HasList (caller : ℕ) (lists : List CallerList) : Type 0 where
    pub position : ℕ
    pub mine : List o.Placed
    pub is_one : slice_get lists position ≡ Some (record { caller = caller; mine = mine })

  -- a recorded run: a sound log, and lists by rising callers that stand in it, one for each caller of a change
  pub record IsRecordedRun (log : List o.Change) (lists : List CallerList) : Type 0 where
    pub sound : Sound log
    pub rise : RisesFrom 0 (callers_of lists)
    pub known : AtEach log (λ p c. HasList (o.caller c) lists)
    pub stand : AtEach lists (λ k l. Stands log l.caller l.mine)

  -- the linearization is legal, and has each caller's calls in the order of its list, and no other call
  pub record IsHistory (log : List o.Change) (lists : List CallerList) : Type 0 where
    pub legal : Legal (linearization log lists)
    pub each : AtEach lists (λ k l. calls_of l.caller (linearization log lists) ≡ map (history_call l.caller) l.mine)
    pub no_other : AtEach (linearization log lists) (λ i s. HasList s.caller lists)

  -- The law: what a recorded run makes is a history.
  abbrev pub RunsAreHistories : Type 0
  RunsAreHistories = (log : List o.Change) (lists : List CallerList) → IsRecordedRun log lists → IsHistory log lists
