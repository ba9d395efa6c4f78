-- What the parts of a turn make of the view of a pass.
use Rattle.std.specs.Prelude.{◌≡◌, ◌≢◌, ◌⊎◌, ℕ, ◌+◌, ◌^◌, ◌<◌, ◌≤◌, true, false, cond, nat_eq, nat_lt, min, List, [], length}
use Rattle.pp_link.specs.declared.layout.Sizes.{Sizes}
use Rattle.pp_link.specs.declared.link.Link.{Link}
use Rattle.pp_link.specs.Links.{target, invalid_bit, flag_bit}
use Rattle.pp_link.specs.Places.{cell_place}
use Rattle.pp_model.specs.declared.Call.{Call}
use Rattle.pp_model.specs.declared.Placed.{Placed}
use Rattle.pp_model.specs.Calls.{key_of}
use Rattle.pp_rule.specs.Views.{slot}
use Rattle.pp_rule.specs.Steps.{MadeStep}
use Rattle.pp_base.specs.declared.source.Place.{Place}
use Rattle.pp_base.specs.declared.source.Place.TheVariants.{Head, Walk as Word}
use Rattle.pp_base.specs.declared.source.Side.TheVariants.{Left}
use Rattle.pp_base.specs.Sources.{source_place}
use Rattle.pp_lists.specs.declared.own.ListOwn.{ListOwn}
use Rattle.pp_lists.specs.Walks.{bucket, Joined}
use Rattle.pp_lists.specs.Lists.{ListPass}
use Rattle.pp_lists.specs.Turns.{ListView, Reached, end_step, found_at}
use Rattle.pp_walk.specs.declared.walk.Walk.{Walk}
use Rattle.pp_walk.specs.declared.walk.Found.{Found}
use Rattle.pp_walk.specs.declared.walk.Came.{Came}
use Rattle.pp_walk.specs.declared.walk.Came.TheVariants.{Moved, Broken, Anchors, Gathers, Ends}
use Rattle.pp_walk.specs.Steps.{LeadsTo}
use Rattle.pp_walk.specs.Words.{IsEmpty, AllEmpty, SameCallOf, SameRest, HoldsNoMore, HoldsBut}
use Rattle.pp_walk.specs.Roles.{IsAnchor, Walking, is_look, lower_of, most}
use Rattle.pp_walk.specs.Trod.{Quiet, RestOfTurn, MetInvalid}
use Rattle.pp_walk.specs.Turns.{From, Answers}

-- the walk word of a place, or 5 at a head
abbrev pub word_in : Place → ℕ
word_in (Head h) = 5
word_in (Word w) = w

-- nothing is gathered
pub record GathersNone (own : ListOwn) : Type 0 where
  pub first : own.first ≡ 5
  pub chain : own.chain ≡ []

-- The link where the call stands was loaded, and is this word. From then on the list's part of the pass is `own`.
pub record LoadsFirst (z : Sizes) (walk : Walk) (first : ℕ) (v u : ListView) : Type 0 where
  pub own : ListOwn
  pub from : From walk.fresh walk.call own v u
  pub call_is : own.call ≡ walk.call
  pub reached : Reached own (source_place z v.known walk.at Left) first v u
  pub gathered : walk.first ≡ own.first
  pub counts : walk.chain ≡ min (length own.chain) most
  -- with that part the pass walks as it did
  pub walks : (q : ListPass) → q.walk ≡ v.known.walk → q.sizes ≡ v.known.sizes → q.own ≡ own → Walking z q walk.call walk.at walk.anchor
  pub leads : own.first < 5 → Joined (slot v.known own.first).named own.chain (target first)

-- The call came to the record that it holds in the walk word w, and what was gathered leads there. At most three walk words are in
-- use.
pub record Holds (z : Sizes) (q : ListPass) (call : Call) (anchor : Place) (w : ℕ) : Type 0 where
  pub going : q.own.going ≡ true
  pub call_is : q.own.call ≡ call
  pub anchored : IsAnchor z q (key_of call) anchor
  pub low : w < 5
  pub held : (slot q w).held ≡ true
  pub stands : q.own.at ≡ w
  pub home : bucket z.heads (slot q w).key ≡ bucket z.heads (key_of call)
  pub looks : is_look call ≡ true → q.own.first ≡ 5
  pub leads : LeadsTo w q
  pub none : q.own.first ≡ 5 → q.own.chain ≡ []
  pub few : q.own.first ≤ 5
  pub first_held : q.own.first < 5 → (slot q q.own.first).held ≡ true
  pub some_chain : q.own.first < 5 → q.own.chain ≢ []
  pub first_apart : q.own.first < 5 → (anchor ≢ Word q.own.first) × (q.own.first ≢ w)
  pub apart : anchor ≢ Word w
  pub empty : (j : ℕ) → j < 5 → Word j ≢ anchor → j ≢ q.own.first → j ≢ w → IsEmpty (slot q j)

-- what was gathered is as it was
pub record SameGathered (own own' : ListOwn) : Type 0 where
  pub first : own'.first ≡ own.first
  pub chain : own'.chain ≡ own.chain

-- The record to which the link leads is held in the walk word w: the link was this word twice.
pub record HoldsNext (z : Sizes) (walk : Walk) (w place first : ℕ) (v u : ListView) : Type 0 where
  pub holds : Holds z u.known walk.call walk.anchor w
  pub rises : lower_of v.known walk.at < (slot u.known w).key + 1
  pub gathered : SameGathered v.known.own u.known.own
  pub same : SameCallOf v.known.own u.known.own
  pub rest : SameRest v.known u.known
  pub turn : RestOfTurn z 0 place first v u
  pub named : (slot u.known w).named ≡ target first
  pub names : HoldsBut (target first) v.known u.known

-- The link was another word when it was loaded again: the call stands where it stood.
pub record LosesNext (z : Sizes) (walk : Walk) (place first : ℕ) (v u : ListView) : Type 0 where
  pub walks : Walking z u.known walk.call walk.at walk.anchor
  pub gathered : SameGathered v.known.own u.known.own
  pub same : SameCallOf v.known.own u.known.own
  pub rest : SameRest v.known u.known
  pub turn : RestOfTurn z 1 place first v u
  pub names : HoldsNoMore v.known u.known

-- the call has no walk word in use, and walks on from its head
pub record BeginsAgain (q : ListPass) (call : Call) : Type 0 where
  pub going : q.own.going ≡ true
  pub call_is : q.own.call ≡ call
  pub empty : AllEmpty q
  pub nothing : GathersNone q.own

-- The walk ended at the record in the walk word w. What was gathered leads there.
pub record Stopped (z : Sizes) (q : ListPass) (call : Call) (anchor : Place) (w key link : ℕ) : Type 0 where
  pub call_is : q.own.call ≡ call
  pub anchored : IsAnchor z q (key_of call) anchor
  pub low : w < 5
  pub held : (slot q w).held ≡ true
  pub stands : q.own.at ≡ w
  pub real : (slot q w).named ≢ 0
  pub key_is : key ≡ (slot q w).key
  pub high : key_of call ≤ key
  pub valid : invalid_bit link ≡ 0
  pub unmarked : is_look call ≡ false → flag_bit link ≡ 0
  pub looks : is_look call ≡ true → q.own.first ≡ 5
  pub leads : LeadsTo w q
  pub none : q.own.first ≡ 5 → q.own.chain ≡ []
  pub few : q.own.first ≤ 5
  pub first_held : q.own.first < 5 → (slot q q.own.first).held ≡ true
  pub some_chain : q.own.first < 5 → q.own.chain ≢ []
  pub first_apart : q.own.first < 5 → (anchor ≢ Word q.own.first) × (q.own.first ≢ w)
  pub apart : anchor ≢ Word w
  pub empty : (j : ℕ) → j < 5 → Word j ≢ anchor → j ≢ q.own.first → j ≢ w → IsEmpty (slot q j)

-- The last step of a walk, the load of this left link, by which these calls were placed.
pub record EndsBy (place link : ℕ) (calls : List Placed) (v w : ListView) : Type 0 where
  pub known : ListPass
  pub number : known.number ≡ v.known.number
  pub made : MadeStep end_step place link link [] calls known v w

-- where a walk goes on to: its anchor is there, and nothing is gathered
pub record AnchorsAt (z : Sizes) (call : Call) (w : ℕ) (own : ListOwn) (u : ListView) : Type 0 where
  pub walks : Walking z u.known call (Word w) (Word w)
  pub nothing : GathersNone u.known.own

-- or what it gathered ends there
pub record GathersAt (z : Sizes) (call : Call) (anchor : Place) (w : ℕ) (own : ListOwn) (u : ListView) : Type 0 where
  pub walks : Walking z u.known call (Word w) anchor
  pub first : u.known.own.first ≡ cond (nat_lt own.first 5) own.first w
  pub longer : length u.known.own.chain ≡ length own.chain + 1

-- the end of a walk, after these steps of its turn
pub record EndsAt (z : Sizes) (call : Call) (anchor : Place) (w key link : ℕ) (own : ListOwn) (last u : ListView) : Type 0 where
  pub stopped : Stopped z u.known call anchor w key link
  pub gathered : SameGathered own u.known.own
  pub place : ℕ
  pub calls : List Placed
  pub ends : EndsBy place link calls last u
  pub answers : Answers own (found_at (key_of call) (slot u.known w).key (slot u.known w).value link) calls u

-- it is the same call of the same pass
pub record SameOf (v u : ListView) : Type 0 where
  pub same : SameCallOf v.known.own u.known.own
  pub rest : SameRest v.known u.known
  pub names : HoldsNoMore v.known u.known

-- the same, while it came to hold the record n
pub record SameBut (n : ℕ) (v u : ListView) : Type 0 where
  pub same : SameCallOf v.known.own u.known.own
  pub rest : SameRest v.known u.known
  pub names : HoldsBut n v.known u.known

-- A turn was lost by steps that found INVALID at this place.
pub record LosesAt (place : ℕ) (v u : ListView) : Type 0 where
  pub quiet : Quiet 1 v u
  pub met : MetInvalid place quiet.steps

-- the key of the record in the walk word w stays, and is one of 64 bits
abbrev pub SameKey : ℕ → ListView → ListView → Type 0
SameKey w v u = ((slot u.known w).key ≡ (slot v.known w).key) × ((slot u.known w).key < 2 ^ 64)

-- How a walk came on at the record that it holds in the walk word w.
abbrev pub CameHere : Sizes → Walk → ℕ → ListView → ListView → Came → Type 0
CameHere z walk w v u Moved = ⊥
CameHere z walk w v u Broken = SameOf v u × BeginsAgain u.known walk.call × LosesAt (cell_place z (slot v.known w).named 2) v u
CameHere z walk w v u (Anchors i) = SameOf v u × AnchorsAt z walk.call i v.known.own u × Quiet 0 v u × (i ≡ w) × SameKey w v u
CameHere z walk w v u (Gathers i) = SameOf v u × GathersAt z walk.call walk.anchor i v.known.own u × Quiet 0 v u × (i ≡ w) × SameKey w v u
CameHere z walk w v u (Ends i key link) = SameOf v u
    × ((last : ListView) × (Quiet 0 v last × EndsAt z walk.call walk.anchor i key link v.known.own last u)) × (i ≡ w)

-- How it came on from its place, after a first load that found this word there.
abbrev pub CameOn : Sizes → Walk → ℕ → ℕ → ListView → ListView → Came → Type 0
CameOn z walk place first v u Moved = SameBut (target first) v u × Walking z u.known walk.call walk.at walk.anchor
    × SameGathered v.known.own u.known.own × RestOfTurn z 1 place first v u × (is_look walk.call ≡ true)
CameOn z walk place first v u Broken = SameBut (target first) v u × BeginsAgain u.known walk.call × RestOfTurn z 1 place first v u
CameOn z walk place first v u (Anchors i) = SameBut (target first) v u × AnchorsAt z walk.call i v.known.own u × RestOfTurn z 0 place first
    v u
    × (lower_of v.known walk.at < lower_of u.known (Word i)) × (lower_of u.known (Word i) ≤ 2 ^ 64)
CameOn z walk place first v u (Gathers i) = SameBut (target first) v u × GathersAt z walk.call walk.anchor i v.known.own u
    × RestOfTurn z 0 place first v u
    × (lower_of v.known walk.at < lower_of u.known (Word i)) × (lower_of u.known (Word i) ≤ 2 ^ 64)
CameOn z walk place first v u (Ends i key link) = SameBut (target first) v u
    × ((last : ListView) × (RestOfTurn z 0 place first v last × EndsAt z walk.call walk.anchor i key link v.known.own last u))
    × ((slot u.known i).named ≡ target first)

-- the walk whose call gathered the record in this walk word
abbrev pub gathered_at : ℕ → Walk → Walk
gathered_at w walk = record walk {
  at = Word w;
  first = cond (nat_eq walk.first 5) w walk.first;
  chain = min (walk.chain + 1) most;
}

abbrev pub plain_link : ℕ → Link
plain_link n = record { number = n; flag = false; tag = false; invalid = false; leaf = false }

-- what a walk finds that ends there
abbrev pub finding : Walk → ListPass → ℕ → ℕ → Rattle.std.specs.Prelude.Bool → Rattle.std.specs.Prelude.Bool → Found
finding walk q end word equal marked = record {
  anchor = walk.anchor;
  first = cond (nat_lt walk.first 5) (plain_link (slot q walk.first).named) (plain_link end);
  end = plain_link end;
  word = word;
  chain = walk.chain;
  equal = equal;
  marked = marked;
}
