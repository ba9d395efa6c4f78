-- The records and heads as a list sees them, and what a walk finds in them.
use Rattle.std.specs.Prelude.{◌≡◌, ◌≢◌, ◌⊎◌, ℕ, ◌+◌, ◌*◌, ◌/◌, ◌%◌, ◌<◌, ◌≤◌, cond, nat_eq, List, [], ◌∷◌, length}
use Rattle.std.specs.Prelude.{Option, Some, None}
use Rattle.pp_link.specs.Links.{target, invalid_bit, flag_bit, tag_bit}
use Rattle.pp_link.specs.Places.{head_place, cell_place, IsNumber}
use Rattle.pp_link.specs.Words.{head_word, cell_word}
use Rattle.pp_link.specs.declared.layout.Sizes.{Sizes}
use Rattle.pp_model.specs.FiniteMap.{find, KeysRise}
use Rattle.pp_model.specs.History.{after}
use Rattle.pp_model.specs.declared.Change.{Change}
use Rattle.pp_model.specs.declared.Pair.{Pair}
use Rattle.pp_rule.specs.Lists.{IsIn}
use Rattle.pp_rule.specs.Views.{halves, value_of}
use Rattle.pp_rule.specs.States.{RecordState, attached, in_hand, IsUsed, IsLinked}
use Rattle.pp_lists.specs.declared.own.Gathered.{Gathered}

pub record Heap : Type 0 where
  pub head : ℕ → ℕ
  pub key : ℕ → ℕ
  pub value : ℕ → ℕ
  pub link : ℕ → ℕ
  pub status : ℕ → RecordState

abbrev pub heap : Sizes → List ℕ → (ℕ → RecordState) → Heap
heap z words status = record {
  head = λ h. head_word words z h;
  key = λ n. cell_word words z n 0;
  value = λ n. value_of (halves (cell_word words z n 1) (cell_word words z n 4));
  link = λ n. cell_word words z n 2;
  status = status;
}

-- the list to which a key belongs
unfoldable pub bucket : ℕ → ℕ → ℕ
bucket heads k = k * 11400714819323198485 % 18446744073709551616 / 4294967296 % heads

-- from where a link leads
pub data Source : Type 0 where
  at_head : ℕ → Source
  at_record : ℕ → Source

abbrev pub word_at : Heap → Source → ℕ
word_at t (at_head h) = t.head h
word_at t (at_record n) = t.link n

abbrev pub source_place : Sizes → Source → ℕ
source_place z (at_head h) = head_place z h
source_place z (at_record n) = cell_place z n 2

-- a head, or an attached record
abbrev pub IsLive : Sizes → Heap → Source → Type 0
IsLive z t (at_head h) = h < z.heads
IsLive z t (at_record n) = IsNumber z n × (t.status n ≡ attached)

abbrev pub bucket_at : Sizes → Heap → Source → ℕ
bucket_at z t (at_head h) = h
bucket_at z t (at_record n) = bucket z.heads (t.key n)

abbrev pub IsBelow : Heap → Source → ℕ → Type 0
IsBelow t (at_head h) k = Unit {0}
IsBelow t (at_record n) k = t.key n < k

-- what a walk for k answers where it ends at the record n
abbrev pub answer : Heap → ℕ → ℕ → Option ℕ
answer t k n = cond (nat_eq (t.key n) k) (cond (nat_eq (flag_bit (t.link n)) 0) (Some (t.value n)) None) None

-- A walk for k that comes to n finds a, if all stands still. A walk that comes to a link with INVALID finds nothing at all.
pub data Finds (t : Heap) (k : ℕ) (a : Option ℕ) : ℕ → Type 0 where
  ends : {n : ℕ} → n ≡ 0 → a ≡ None → Finds t k a n
  here : {n : ℕ} → n ≢ 0 → invalid_bit (t.link n) ≡ 0 → k ≤ t.key n → a ≡ answer t k n → Finds t k a n
  on : {n : ℕ} → n ≢ 0 → invalid_bit (t.link n) ≡ 0 → t.key n < k → Finds t k a (target (t.link n)) → Finds t k a n

-- nil, or a record that is neither free nor private
abbrev pub IsSeen : Sizes → Heap → ℕ → Type 0
IsSeen z t n = (n ≡ 0) ⊎ (IsNumber z n × IsUsed (t.status n))

abbrev pub IsOn : Sizes → Heap → ℕ → Type 0
IsOn z t n = (n ≡ 0) ⊎ (IsNumber z n × (t.status n ≡ attached))

-- what the rule of the pool says of the links
pub record Sane (z : Sizes) (t : Heap) : Type 0 where
  pub valid : (s : Source) → IsLive z t s → invalid_bit (word_at t s) ≡ 0
  pub live : (s : Source) → IsLive z t s → IsOn z t (target (word_at t s))
  pub used : (n : ℕ) → IsNumber z n → IsUsed (t.status n) → invalid_bit (t.link n) ≡ 0 → IsSeen z t (target (t.link n))

-- the word at a source has no bit but FLAG, and that of a head has none
abbrev pub IsBareAt : Heap → Source → Type 0
IsBareAt t (at_head h) = t.head h % 16 ≡ 0
IsBareAt t (at_record n) = t.link n % 16 < 2

-- the shape of the lists
pub record Listed (z : Sizes) (t : Heap) : Type 0 where
  pub rising : (n : ℕ) → IsNumber z n → IsLinked (t.status n) → invalid_bit (t.link n) ≡ 0 → target (t.link n) ≢ 0
      → t.key n < t.key (target (t.link n))
  -- links stay in one bucket
  pub same_list : (n : ℕ) → IsNumber z n → IsLinked (t.status n) → invalid_bit (t.link n) ≡ 0 → target (t.link n) ≢ 0
      → bucket z.heads (t.key (target (t.link n))) ≡ bucket z.heads (t.key n)
  -- a record without FLAG is attached
  pub marked : (n : ℕ) → IsNumber z n → IsUsed (t.status n) → flag_bit (t.link n) ≡ 0 → t.status n ≡ attached
  pub untagged : (n : ℕ) → IsNumber z n → IsUsed (t.status n) → tag_bit (t.link n) ≡ 0
  pub bare : (s : Source) → IsLive z t s → IsBareAt t s
  pub once : (n m : ℕ) → IsNumber z n → IsNumber z m → t.status n ≡ attached → t.status m ≡ attached → t.key n ≡ t.key m → n ≡ m
  pub home : (s : Source) → IsLive z t s → target (word_at t s) ≢ 0
      → bucket z.heads (t.key (target (word_at t s))) ≡ bucket_at z t s
  -- no attached record of the bucket lies between a source and its target
  pub next : (s : Source) (m : ℕ) → IsLive z t s → IsNumber z m → t.status m ≡ attached
      → bucket z.heads (t.key m) ≡ bucket_at z t s → IsBelow t s (t.key m)
      → (target (word_at t s) ≢ 0) × (t.key (target (word_at t s)) ≤ t.key m)

-- the map is the pairs of the attached records without FLAG
pub record Mapped (z : Sizes) (t : Heap) (m : List Pair) : Type 0 where
  pub sorted : KeysRise m
  pub pairs : (n : ℕ) → IsNumber z n → t.status n ≡ attached → flag_bit (t.link n) ≡ 0 → find m (t.key n) ≡ Some (t.value n)
  pub records : (k v : ℕ) → find m k ≡ Some v → (n : ℕ) × (IsNumber z n × (t.status n ≡ attached) × (flag_bit (t.link n) ≡ 0)
      × (t.key n ≡ k))

-- the answer a is right at a place since the start
abbrev pub IsRight : List Change → ℕ → ℕ → Option ℕ → Type 0
IsRight log start k a = (p : ℕ) × ((start ≤ p) × (p ≤ length log) × (find (after log p) k ≡ a))

-- From n the records of the chain lead to x. Their links are frozen.
pub data Joined : ℕ → List Gathered → ℕ → Type 0 where
  done : {n x : ℕ} → n ≡ x → Joined n [] x
  more : {n : ℕ} {c : Gathered} {cs : List Gathered} {x : ℕ} → n ≢ 0 → c.number ≡ n → flag_bit c.link ≡ 1
      → invalid_bit c.link ≡ 0 → Joined (target c.link) cs x → Joined n (c ∷ cs) x

-- each record of the chain is attached, and has the link that was read
unfoldable pub Intact : Sizes → Heap → List Gathered → Type 0
Intact z t [] = Unit {0}
Intact z t (c ∷ cs) = IsNumber z c.number × (t.status c.number ≡ attached) × (t.link c.number ≡ c.link) × Intact z t cs

-- the numbers of the chain
abbrev pub numbers : List Gathered → List ℕ
numbers [] = []
numbers (c ∷ cs) = c.number ∷ numbers cs

-- The link at the source s is w now. All else is as it was, but perhaps the states.
pub record Rewired (z : Sizes) (t t' : Heap) (s : Source) (w : ℕ) : Type 0 where
  pub there : word_at t' s ≡ w
  pub heads : (h : ℕ) → h < z.heads → at_head h ≢ s → t'.head h ≡ t.head h
  pub links : (n : ℕ) → IsNumber z n → at_record n ≢ s → t'.link n ≡ t.link n
  pub keys : (n : ℕ) → IsNumber z n → t'.key n ≡ t.key n
  pub values : (n : ℕ) → IsNumber z n → t'.value n ≡ t.value n

-- The chain was detached at s.
pub record Taken (z : Sizes) (t t' : Heap) (s : Source) (w : ℕ) (cs : List Gathered) : Type 0 where
  pub wired : Rewired z t t' s w
  pub live : IsLive z t s
  pub plain : flag_bit (word_at t s) ≡ 0
  pub new_plain : flag_bit w ≡ 0
  pub new_untagged : tag_bit w ≡ 0
  pub new_valid : invalid_bit w ≡ 0
  pub new_bare : w % 16 ≡ 0
  pub joined : Joined (target (word_at t s)) cs (target w)
  pub intact : Intact z t cs
  pub inside : (n : ℕ) → IsIn n (numbers cs) → (p : ℕ) × ((j : ℕ) × (t'.status n ≡ in_hand p j))
  pub outside : (n : ℕ) → (IsIn n (numbers cs) → ⊥) → t'.status n ≡ t.status n

-- The attached record c got FLAG.
pub record Marked (z : Sizes) (t t' : Heap) (c : ℕ) : Type 0 where
  pub wired : Rewired z t t' (at_record c) (t.link c + 1)
  pub live : IsLive z t (at_record c)
  pub plain : flag_bit (t.link c) ≡ 0
  pub same : (n : ℕ) → t'.status n ≡ t.status n

-- The record c was put between s and its target.
pub record Between (z : Sizes) (t t' : Heap) (s : Source) (w c : ℕ) : Type 0 where
  pub wired : Rewired z t t' s w
  pub live : IsLive z t s
  pub plain : flag_bit (word_at t s) ≡ 0
  pub to : target w ≡ c
  pub new_plain : flag_bit w ≡ 0
  pub new_untagged : tag_bit w ≡ 0
  pub new_valid : invalid_bit w ≡ 0
  pub new_bare : w % 16 ≡ 0
  pub number : IsNumber z c
  pub unused : IsUsed (t.status c) → ⊥
  pub attached_now : t'.status c ≡ attached
  pub others : (n : ℕ) → n ≢ c → t'.status n ≡ t.status n
  pub valid_c : invalid_bit (t.link c) ≡ 0
  pub plain_c : flag_bit (t.link c) ≡ 0
  pub untagged_c : tag_bit (t.link c) ≡ 0
  pub bare_c : t.link c % 16 ≡ 0
  pub to_c : target (t.link c) ≡ target (word_at t s)
  pub home : bucket z.heads (t.key c) ≡ bucket_at z t s
  pub above : IsBelow t s (t.key c)
  pub gap : target (word_at t s) ≢ 0 → t.key c < t.key (target (word_at t s))
