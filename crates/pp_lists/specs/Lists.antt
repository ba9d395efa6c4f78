-- What a list adds to the rule of its pool.
use Rattle.std.specs.Prelude.{◌≡◌, ◌≢◌, ℕ, ◌%◌, ◌<◌, ◌≤◌, Bool, true, false, cond, nat_eq, List, [], ◌∷◌, length, Option, Some}
use Rattle.std.specs.Prelude.{slice_get, slice_index_or}
use Rattle.pp_link.specs.declared.layout.Sizes.{Sizes}
use Rattle.pp_link.specs.Links.{target, flag_bit}
use Rattle.pp_link.specs.Places.{IsNumber}
use Rattle.pp_model.specs.declared.Call.{Call}
use Rattle.pp_model.specs.declared.Call.TheVariants.{Get}
use Rattle.pp_model.specs.declared.Change.{Change}
use Rattle.pp_model.specs.declared.Placed.{Placed}
use Rattle.pp_model.specs.declared.Pair.{Pair}
use Rattle.pp_model.specs.Calls.{key_of}
use Rattle.pp_model.specs.History.{contents_of, Sound, Stands}
use Rattle.pp_rule.specs.declared.views.WalkSlot.{WalkSlot}
use Rattle.pp_rule.specs.declared.views.Chain.{Chain}
use Rattle.pp_rule.specs.declared.views.ChainLink.{ChainLink}
use Rattle.pp_rule.specs.declared.views.PassState.{PassState}
use Rattle.pp_rule.specs.declared.views.LoggedStep.{LoggedStep}
use Rattle.pp_rule.specs.Lists.{IsIn}
use Rattle.pp_rule.specs.Orders.{log_of, placed_by}
use Rattle.pp_rule.specs.Views.{slot, blank}
use Rattle.pp_rule.specs.States.{attached, PoolState, IsSmall}
use Rattle.pp_rule.specs.Paths.{links_of}
use Rattle.pp_lists.specs.declared.own.Gathered.{Gathered}
use Rattle.pp_lists.specs.declared.own.ListOwn.{ListOwn}
use Rattle.pp_lists.specs.Walks.{Heap, heap, Source, at_head, at_record, source_place, Finds, Listed, Mapped, IsRight, Joined}
use Rattle.pp_lists.specs.Walks.{Intact, numbers}

abbrev pub ListPass : Type 0
ListPass = PassState ListOwn

abbrev pub ListState : Type 0
ListState = PoolState Change Placed ListOwn

abbrev pub ListStep : Type 0
ListStep = LoggedStep Change Placed

-- A going call stands at the record that is held in the word `at`, or at the head, where `at` is 5. What a walk finds from that
-- record was right since the call's start. From a head a walk finds what is right now.
pub record Stood (t : Heap) (log : List Change) (w : ℕ → WalkSlot) (going : Bool) (call : Call) (start at : ℕ) : Type 0 where
  pub held : at < 5 → (w at).held ≡ true
  pub right : going ≡ true → at < 5 → (a : Option ℕ) → Finds t (key_of call) a (w at).named → IsRight log start (key_of call) a

-- What a walk gathered begins with the record that is held in the word `first`, and is attached as long as that one is.
pub record Gathering (z : Sizes) (t : Heap) (w : ℕ → WalkSlot) (first : ℕ) (chain : List Gathered) : Type 0 where
  pub held : first < 5 → (w first).held ≡ true
  pub joined : first < 5 → (x : ℕ) × Joined (w first).named chain x
  pub intact : first < 5 → t.status (w first).named ≡ attached → Intact z t chain

-- What is true of the pass p, by its walk words, its own part and its placed calls.
pub record Walks (z : Sizes) (t : Heap) (log : List Change) (p : ℕ) (w : ℕ → WalkSlot) (own : ListOwn)
    (mine : List Placed) : Type 0 where
  pub stands : Stands log p mine
  pub since : own.going ≡ true → own.start ≤ length log
  -- the calls before it have their places up to its start
  pub earlier : own.going ≡ true → (i : ℕ) (x : Placed) → slice_get mine i ≡ Some x → x.place ≤ own.start
  pub stood : Stood t log w own.going own.call own.start own.at
  pub gathering : Gathering z t w own.first own.chain

-- the changes of this step are those of its pass
abbrev pub IsOwnStep : ListStep → Type 0
IsOwnStep s = (c : Change) → IsIn c s.entry.changes → c.caller ≡ s.entry.pass

-- A removed record that is still attached stands in the list of a pass that marked it. Where the pool has one pass, an attached
-- record that stands in its list is removed.
pub record Leaves (z : Sizes) (t : Heap) (left : ℕ → List ℕ) : Type 0 where
  pub known_to : (n : ℕ) → IsNumber z n → t.status n ≡ attached → flag_bit (t.link n) ≡ 1
      → (p : ℕ) × ((p < z.passes) × IsIn n (left p))
  pub removed : z.passes ≡ 1 → (p n : ℕ) → p < z.passes → IsNumber z n → IsIn n (left p) → t.status n ≡ attached
      → flag_bit (t.link n) ≡ 1

-- what a list adds to the rule
pub record Lists (z : Sizes) (words : List ℕ) (g : ListState) : Type 0 where
  pub sound : Sound (log_of g.order)
  pub own_changes : (s : ListStep) → IsIn s g.order → IsOwnStep s
  pub listed : Listed z (heap z words g.status)
  pub mapped : Mapped z (heap z words g.status) (contents_of (log_of g.order))
  pub each : (p : ℕ) → p < z.passes
      → Walks z (heap z words g.status) (log_of g.order) p (slot (g.of p)) (g.of p).own (placed_by p g.order)
  pub leaves : Leaves z (heap z words g.status) (λ p. (g.of p).own.left)

-- a link with FLAG is frozen
abbrev pub list_frozen : ℕ → Bool
list_frozen w = nat_eq (flag_bit w) 1

-- a walk word was cleared
abbrev pub list_forget : ℕ → ListOwn → ListOwn
list_forget i own = record own {
  at = cond (nat_eq own.at i) 5 own.at;
  first = cond (nat_eq own.first i) 5 own.first;
  chain = cond (nat_eq own.first i) [] own.chain;
}

-- a pass without a call
abbrev pub nobody : ListOwn
nobody = record { going = false; call = Get 0; start = 0; at = 5; first = 5; chain = []; left = [] }

-- the links of the records of the chain, as they were read
abbrev pub chain_links : List Gathered → List ChainLink
chain_links [] = []
chain_links (c ∷ cs) = record { number = c.number; side = 0; word = c.link } ∷ chain_links cs

-- the gathered chain, guarded by this frontier word, up to this record
abbrev pub whole_chain : List Gathered → ℕ → ℕ → Chain
whole_chain cs guard frontier = record {
  records = numbers cs;
  guard = guard;
  frontier = frontier;
  links = chain_links cs;
  valid = links_of 1 (numbers cs);
}

-- The chain that the exchange detaches is what the pass gathered.
abbrev pub list_chain : List WalkSlot → ListOwn → ℕ → ℕ → ℕ → Chain
list_chain walk own guard first new = whole_chain own.chain guard (target new)

-- the walk word i
abbrev pub slot_in : List WalkSlot → ℕ → WalkSlot
slot_in walk i = slice_index_or walk i blank

-- the head, or a record that the pass holds
abbrev pub IsOwnSource : Sizes → List WalkSlot → Source → Type 0
IsOwnSource z walk (at_head h) = h < z.heads
IsOwnSource z walk (at_record n) = (j : ℕ) × (j < 5) × ((slot_in walk j).held ≡ true) × ((slot_in walk j).named ≡ n)

-- The word `first` without bits leads to the chain that the walk gathered, and `new` without bits to where the chain leads.
pub record MayUnlink (z : Sizes) (walk : List WalkSlot) (own : ListOwn) (place first new : ℕ) : Type 0 where
  pub source : Source
  pub own_source : IsOwnSource z walk source
  pub at : place ≡ source_place z source
  pub plain : first % 16 ≡ 0
  pub new_plain : new % 16 ≡ 0
  pub small : IsSmall new
  pub gathered : own.first < 5
  pub some : own.chain ≢ []
  pub leads : target first ≡ (slot_in walk own.first).named
  pub joined : Joined (target first) own.chain (target new)

-- a list opens empty, and has no sentinels
abbrev pub list_head : ℕ → ℕ
list_head h = 0

abbrev pub list_field : ℕ → ℕ → ℕ
list_field n f = 0

-- the log of a closed list is sound and leaves these contents
pub record ListTells (z : Sizes) (log : List Change) (pairs : List Pair) : Type 0 where
  pub sound : Sound log
  pub contents : pairs ≡ contents_of log

-- the placed calls of a pass stand in it
abbrev pub ListTellsPass : Sizes → List Change → ℕ → List Placed → Type 0
ListTellsPass z log p placed = Stands log p placed
