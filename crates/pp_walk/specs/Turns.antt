-- What a turn of a walk makes of the view of its pass.
use Rattle.std.specs.Prelude.{◌≡◌, ◌≢◌, ℕ, ◌^◌, ◌<◌, ◌≤◌, Bool, true, false, List, [], ◌∷◌, length, Option}
use Rattle.pp_link.specs.declared.layout.Sizes.{Sizes}
use Rattle.pp_model.specs.declared.Call.{Call}
use Rattle.pp_model.specs.declared.Placed.{Placed}
use Rattle.pp_model.specs.Calls.{key_of, reply, reply_at, changes}
use Rattle.pp_model.specs.History.{after, Stands}
use Rattle.pp_model.specs.MapCalls.{placed}
use Rattle.pp_rule.specs.Orders.{log_of, placed_by}
use Rattle.pp_base.specs.declared.source.Place.TheVariants.{Head}
use Rattle.pp_base.specs.declared.source.Side.TheVariants.{Left}
use Rattle.pp_base.specs.Sources.{source_place}
use Rattle.pp_base.specs.Named.{NamedStep, loads}
use Rattle.pp_link.specs.Links.{target, word_of}
use Rattle.pp_calls.specs.Steps.{HasOwn, StandsThen}
use Rattle.pp_lists.specs.declared.own.ListOwn.{ListOwn}
use Rattle.pp_lists.specs.Walks.{IsRight}
use Rattle.pp_lists.specs.Turns.{ListView, beginning, IsNil}
use Rattle.pp_walk.specs.declared.walk.Walk.{Walk}
use Rattle.pp_walk.specs.declared.walk.Found.{Found}
use Rattle.pp_walk.specs.declared.walk.Turn.{Turn}
use Rattle.pp_walk.specs.declared.walk.Turn.TheVariants.{On, At, Lost}
use Rattle.pp_walk.specs.Words.{AllEmpty, SameCallOf, SameRest, HoldsBut}
use Rattle.pp_walk.specs.Roles.{IsWalk, IsFound, found_in, lower_of, is_look}
use Rattle.pp_walk.specs.Trod.{Trod, FirstSaw, Why}

-- A reply that changes nothing was placed for this call, by a walk that found a. Its place is the least one since the call's start
-- at which it is right.
pub record RepliedTo (own : ListOwn) (a : Option ℕ) (calls : List Placed) (now : ListView) : Type 0 where
  pub at : ℕ
  pub since : own.start ≤ at
  pub within : at ≤ length (log_of now.order)
  pub right : reply (after (log_of now.order) at) own.call ≡ reply_at own.call a
  pub least : (p : ℕ) → own.start ≤ p → p < at → reply (after (log_of now.order) p) own.call ≡ reply_at own.call a → ⊥
  pub calls_are : calls ≡ placed own.call (reply_at own.call a) at ∷ []
  -- the pass's placed calls stand in the log
  pub stands : Stands (log_of now.order) now.known.number (placed_by now.known.number now.order)

-- What the end of a walk that found a says: a reply that changes nothing is placed, and the call walks no more. Else a was right at a
-- place since the call's start, and the call goes on.
pub record Answers (own : ListOwn) (a : Option ℕ) (calls : List Placed) (now : ListView) : Type 0 where
  pub settled : changes (reply_at own.call a) ≡ false → (now.known.own.going ≡ false) × RepliedTo own a calls now
  pub goes_on : changes (reply_at own.call a) ≡ true → (now.known.own.going ≡ true) × (calls ≡ [])
      × IsRight (log_of now.order) own.start (key_of own.call) a

-- the first turn of a call: it starts when so many changes had taken effect
pub record Starts (call : Call) (own : ListOwn) (before now : ListView) : Type 0 where
  pub start : ℕ
  pub own_is : own ≡ beginning call start before.known.own.left
  pub since : length (log_of before.order) ≤ start
  pub saw : FirstSaw start before now

-- the list's part of the pass from the first load of the turn on
abbrev pub From : Bool → Call → ListOwn → ListView → ListView → Type 0
From true call own before now = Starts call own before now
From false call own before now = own ≡ before.known.own

-- What every turn of a walk makes of its pass, by which so many turns are lost and these calls are placed.
pub record Turned (z : Sizes) (was : Walk) (lost : ℕ) (calls : List Placed) (own : ListOwn) (before now : ListView) : Type 0 where
  pub from : From was.fresh was.call own before now
  pub same : SameCallOf own now.known.own
  pub rest : SameRest before.known now.known
  pub trod : Trod lost calls before now
  -- It loaded the link where the call stood, which was this word. Then it made these steps, and came to hold no other record than that
  -- to which the link leads.
  pub first : ℕ
  pub behind : List NamedStep
  pub steps_are : trod.steps ≡ loads (source_place z before.known was.at Left) first ∷ behind
  pub why : lost ≢ 0 → Why z (source_place z before.known was.at Left) first behind
  pub some_next : lost ≢ 0 → IsNil first → ⊥
  pub names : HoldsBut (target first) before.known now.known
  pub stands : HasOwn now.order → StandsThen before → StandsThen now

-- It goes on.
pub record Goes (z : Sizes) (was w : Walk) (lost : ℕ) (before now : ListView) : Type 0 where
  pub own : ListOwn
  pub turned : Turned z was lost [] own before now
  pub walks : IsWalk z now.known w
  pub under_way : w.fresh ≡ false

-- It came to a greater key.
pub record GoesOn (z : Sizes) (was w : Walk) (before now : ListView) : Type 0 where
  pub goes : Goes z was w 0 before now
  pub rises : lower_of before.known was.at < lower_of now.known w.at
  pub low : lower_of now.known w.at ≤ 2 ^ 64

-- It was lost. A call that changes the list begins again.
pub record GoesBack (z : Sizes) (was w : Walk) (before now : ListView) : Type 0 where
  pub goes : Goes z was w 1 before now
  pub again : is_look was.call ≡ false → (w.at ≡ Head w.head) × AllEmpty now.known

-- It ended.
pub record Arrives (z : Sizes) (was : Walk) (f : Found) (before now : ListView) : Type 0 where
  pub own : ListOwn
  pub calls : List Placed
  pub turned : Turned z was 0 calls own before now
  pub found : IsFound z now.known was.call f
  pub answers : Answers own (found_in now.known f) calls now
  -- the end is where the link led
  pub end_is : target (word_of f.end) ≡ target turned.first
  pub anchor_is : f.anchor ≡ was.anchor

-- What a turn came to.
abbrev pub TurnsTo : Sizes → Walk → Walk → ListView → ListView → Turn → Type 0
TurnsTo z was w before now On = GoesOn z was w before now
TurnsTo z was w before now Lost = GoesBack z was w before now
TurnsTo z was w before now (At f) = Arrives z was f before now
