-- What the later turns of a call that changes the list ask of a pass, and make of its view.
use Rattle.std.specs.Prelude.{◌≡◌, ◌≢◌, ℕ, ◌*◌, ◌<◌, Bool, true, false, List, [], Option, Some, None, bit_or}
use lib.ListN.{get_elem?}
use mathlib.Core.Option.{some}
use Rattle.pp_link.specs.declared.layout.Sizes.{Sizes}
use Rattle.pp_link.specs.declared.link.Link.{Link}
use Rattle.pp_link.specs.Links.{target, flag_bit, word_of}
use Rattle.pp_link.specs.Places.{cell_place}
use Rattle.pp_model.specs.declared.Call.{Call}
use Rattle.pp_rule.specs.declared.views.PrivateRecord.{PrivateRecord}
use Rattle.pp_rule.specs.Lists.{times}
use Rattle.pp_rule.specs.Views.{slot, halves, value_of}
use Rattle.pp_rule.specs.States.{IsSmall}
use Rattle.pp_base.specs.declared.purse.Purse.{Purse}
use Rattle.pp_base.specs.declared.source.Place.{Place}
use Rattle.pp_base.specs.declared.source.Side.TheVariants.{Left}
use Rattle.pp_base.specs.Passes.{owned_numbers}
use Rattle.pp_base.specs.Sources.{source_place}
use Rattle.pp_base.specs.Named.{NamedStep, Made}
use Rattle.pp_unlink.specs.Unlinking.{Unlinks}
use Rattle.pp_unlink.specs.declared.unlinking.Unlink.{Unlink}
use Rattle.pp_unlink.specs.declared.unlinking.Unlink.TheVariants.{Detached, Changed}
use Rattle.pp_lists.specs.Walks.{Joined}
use Rattle.pp_lists.specs.Lists.{ListPass, list_chain, list_frozen}
use Rattle.pp_lists.specs.Turns.{ListView, EndsPast, Marks, marked}
use Rattle.pp_lists.specs.Losses.{finds}
use Rattle.pp_walk.specs.declared.effects.Taken.{Taken}
use Rattle.pp_walk.specs.Roles.{IsAnchor, IsPlain}
use Rattle.pp_model.specs.Pass.{MapSizes}
use Rattle.pp_walk.specs.Parts.{plain_link}
use Rattle.pp_walk.specs.Trod.{Quiet, StrikeNone}
use Rattle.pp_walk.specs.Steps.{PublishedAt}

-- so many of these steps are finds in a map with so many passes, whatever was before them
abbrev pub FindIn : ℕ → ℕ → List NamedStep → Type 0
FindIn passes lost steps = (sizes : MapSizes) (earlier : List NamedStep) → sizes.passes ≡ passes → finds sizes earlier steps ≡ lost

-- The pass made these steps, by which no call took effect and none was placed. So many turns are lost by them.
pub record Tried (lost : ℕ) (v w : ListView) : Type 0 where
  pub steps : List NamedStep
  pub did : Made steps v w
  pub loses : FindIn v.known.sizes.passes lost steps
  pub strikes : StrikeNone steps

-- The anchor stands before the key in its list, and the end is nil or a greater key that the pass holds.
pub record MayFill (z : Sizes) (q : ListPass) (anchor : Place) (end : Link) (k : ℕ) : Type 0 where
  pub anchored : IsAnchor z q k anchor
  pub plain : IsPlain end
  pub past : EndsPast q k (word_of end)

-- The pass owns the record n, which was taken, with this pair and this link.
pub record FillsAt (q : ListPass) (p : Purse) (n k v : ℕ) (end : Link) : Type 0 where
  pub index : ℕ
  pub was : PrivateRecord
  pub number_is : was.number ≡ n
  pub taken : times n p.free.items < times n (owned_numbers q)
  pub at : get_elem? q.owned index ≡ some was
  pub key : was.key ≡ k
  pub value : value_of (halves was.value was.high) ≡ v
  pub left : was.left ≡ word_of end

-- The exchange found this word. Where it was the expected one, the record is published. Else one turn is lost by it.
pub record PublishesSo (place n k v end : ℕ) (before now : ListView) (done : Bool) : Type 0 where
  pub found : ℕ
  pub published : PublishedAt n place k v end (word_of (plain_link n)) found before now
  pub hit : done ≡ true → found ≡ end
  pub missed : done ≡ false → (found ≢ end) × Tried 1 before now × (now.known ≡ before.known)
  pub past : 17 * before.known.sizes.passes < place

-- It had FLAG already: the turn is lost.
pub record MarksNone (place : ℕ) (before now : ListView) : Type 0 where
  pub found : ℕ
  pub flagged : flag_bit found ≡ 1
  pub tried : Tried 1 before now
  pub known : now.known ≡ before.known

-- The call took effect by the step to the view `then`, which found this word. Then the value was read.
pub record MarksOne (z : Sizes) (w : ℕ) (call : Call) (taken : Taken) (before now : ListView) : Type 0 where
  pub found : ℕ
  pub plain : flag_bit found ≡ 0
  pub then : ListView
  pub marks : Marks w (cell_place z (slot before.known w).named 2) call found before then
  pub reads : Quiet 0 then now
  pub known : now.known ≡ marked w (bit_or found 1) before.known
  pub value : taken.value ≡ value_of (slot before.known w).value
  pub next_is : target (word_of taken.next) ≡ target (bit_or found 1)
  pub next_plain : IsPlain taken.next
  pub next_small : IsSmall (word_of taken.next)

abbrev pub MarksSo : Sizes → ℕ → Call → ListView → ListView → Option Taken → Type 0
MarksSo z w call before now None = MarksNone (cell_place z (slot before.known w).named 2) before now
MarksSo z w call before now (Some taken) = MarksOne z w call taken before now

-- The anchor stands there, and what was gathered leads from its first record to the end.
pub record MayDetachRun (z : Sizes) (q : ListPass) (anchor : Place) (first end : Link) : Type 0 where
  pub key : ℕ
  pub anchored : IsAnchor z q key anchor
  pub gathered : q.own.first < 5
  pub some_chain : q.own.chain ≢ []
  pub plain_first : IsPlain first
  pub plain_end : IsPlain end
  pub small_end : IsSmall (word_of end)
  pub leads : target (word_of first) ≡ (slot q q.own.first).named
  pub joined : Joined (slot q q.own.first).named q.own.chain (target (word_of end))

-- How it came out. But for its chains in hand, its frontier words and what it learnt, what is known of the pass is as it was.
pub record DetachesSo (z : Sizes) (anchor : Place) (first end : ℕ) (before now : ListView) (done : Bool) : Type 0 where
  pub answer : Unlink
  pub unlinks : Unlinks 1 z list_frozen list_chain anchor Left first end before now answer
  pub own : now.known.own ≡ before.known.own
  pub owned : now.known.owned ≡ before.known.owned
  pub hit : done ≡ true → (answer ≡ Detached) × (now.known.walk ≡ before.known.walk) × Tried 0 before now
  pub missed : done ≡ false → (l : Link) × ((answer ≡ Changed l) × Tried 1 before now)
  pub past : 17 * before.known.sizes.passes < source_place z before.known anchor Left
