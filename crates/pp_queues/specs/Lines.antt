-- The records and heads as a queue sees them.
use Rattle.std.specs.Prelude.{◌≡◌, ◌≢◌, ◌⊎◌, ℕ, ◌+◌, ◌*◌, ◌<◌, ◌≤◌, true, false, List, length, slice_index_or}
use Rattle.pp_link.specs.declared.layout.Sizes.{Sizes}
use Rattle.pp_link.specs.Links.{target}
use Rattle.pp_link.specs.Places.{IsNumber}
use Rattle.pp_link.specs.Words.{head_word, cell_word}
use Rattle.pp_rule.specs.declared.views.WalkSlot.{WalkSlot}
use Rattle.pp_rule.specs.Views.{halves, value_of}
use Rattle.pp_rule.specs.States.{RecordState, attached, IsUsed}
use Rattle.pp_queues.specs.declared.own.QueueOwn.{QueueOwn}

pub record Heap : Type 0 where
  pub head : ℕ → ℕ
  pub value : ℕ → ℕ
  pub link : ℕ → ℕ
  pub status : ℕ → RecordState

abbrev pub heap : Sizes → List ℕ → (ℕ → RecordState) → Heap
heap z words status = record {
  head = λ h. head_word words z h;
  value = λ n. value_of (halves (cell_word words z n 1) (cell_word words z n 4));
  link = λ n. cell_word words z n 2;
  status = status;
}

-- The attached records stand in one line: the record at 0 is the dummy, to which head 0 leads, and each leads to the next one.
-- Those
-- behind the dummy have the values of the queue.
pub record Lined (z : Sizes) (t : Heap) (at : ℕ → ℕ) (items : List ℕ) : Type 0 where
  pub front : t.head 0 ≡ 16 * at 0
  pub each : (i : ℕ) → i ≤ length items → IsNumber z (at i) × (t.status (at i) ≡ attached)
  pub next : (i : ℕ) → i < length items → t.link (at i) ≡ 16 * at (i + 1)
  pub last : t.link (at (length items)) ≡ 0
  pub values : (i : ℕ) → i < length items → slice_index_or items i 0 ≡ t.value (at (i + 1))
  pub all : (n : ℕ) → IsNumber z n → t.status n ≡ attached → (i : ℕ) × ((i ≤ length items) × (at i ≡ n))
  pub once : (i j : ℕ) → i ≤ length items → j ≤ length items → at i ≡ at j → i ≡ j
  -- a record that leads nowhere is attached
  pub ended : (n : ℕ) → IsNumber z n → IsUsed (t.status n) → target (t.link n) ≡ 0 → t.status n ≡ attached
  -- head 1 leads to the last record or to the one before it
  pub back : z.heads ≡ 2 → (i : ℕ) × ((i ≤ length items) × (length items ≤ i + 1) × (t.head 1 ≡ 16 * at i))

-- What is true of the record where the call of a pass stands, by its walk words.
pub record Stood (t : Heap) (w : ℕ → WalkSlot) (own : QueueOwn) : Type 0 where
  pub held : own.at < 5 → (w own.at).held ≡ true
  -- it leads on there for good
  pub next : own.at < 5 → own.next ≢ 0 → target (t.link (w own.at).named) ≡ own.next
  -- found by head 0, it is the dummy as long as it is attached
  pub front : own.at < 5 → own.front ≡ true → t.status (w own.at).named ≡ attached → t.head 0 ≡ 16 * (w own.at).named
  -- and head 1 has passed it
  pub past : own.at < 5 → own.front ≡ true → own.past ≡ true → t.status (w own.at).named ≡ attached
      → t.head 1 ≢ 16 * (w own.at).named
  -- found by head 1, head 1 isn't before it as long as it is attached
  pub back : own.at < 5 → own.front ≡ false → t.status (w own.at).named ≡ attached
      → target (t.link (target (t.head 1))) ≢ (w own.at).named

-- What is true beside where a pool has one pass.
pub record Sole (t : Heap) (w : ℕ → WalkSlot) (own : QueueOwn) : Type 0 where
  -- but after a linking exchange of its own head 1 leads to the last record
  pub last : own.behind ≡ false → target (t.link (target (t.head 1))) ≡ 0
  -- the dummy of a take that is going on is still attached
  pub front : own.at < 5 → own.front ≡ true → own.going ≡ true → t.status (w own.at).named ≡ attached

-- what a step leaves of that, where it neither links nor detaches a record
pub record Still (t t' : Heap) : Type 0 where
  pub back : target (t'.link (target (t'.head 1))) ≡ target (t.link (target (t.head 1)))
  pub on : (n : ℕ) → t.status n ≡ attached → t'.status n ≡ attached

-- What a step leaves of where a call stands.
pub record Steady (z : Sizes) (t t' : Heap) : Type 0 where
  pub next : (n : ℕ) → IsNumber z n → IsUsed (t.status n) → IsUsed (t'.status n) → target (t.link n) ≢ 0
      → target (t'.link n) ≡ target (t.link n)
  pub was : (n : ℕ) → IsNumber z n → IsUsed (t.status n) → t'.status n ≡ attached → t.status n ≡ attached
  pub front : (n : ℕ) → IsNumber z n → t.status n ≡ attached → t'.status n ≡ attached → t.head 0 ≡ 16 * n → t'.head 0 ≡ 16 * n
  pub past : (n : ℕ) → IsNumber z n → t.status n ≡ attached → t'.status n ≡ attached → t.head 0 ≡ 16 * n → t.head 1 ≢ 16 * n
      → t'.head 1 ≢ 16 * n
  pub back : (n : ℕ) → IsNumber z n → t.status n ≡ attached → t'.status n ≡ attached → target (t.link (target (t.head 1))) ≢ n
      → target (t'.link (target (t'.head 1))) ≢ n

-- A step after which a queue is as it was: but for states that a queue doesn't tell apart, and INVALID in links of detached
-- records.
pub record Alike (z : Sizes) (t t' : Heap) : Type 0 where
  pub heads : (h : ℕ) → h < z.heads → t'.head h ≡ t.head h
  pub on : (n : ℕ) → t.status n ≡ attached → t'.status n ≡ attached
  pub was : (n : ℕ) → t'.status n ≡ attached → t.status n ≡ attached
  pub used_was : (n : ℕ) → IsUsed (t'.status n) → IsUsed (t.status n)
  pub values : (n : ℕ) → IsNumber z n → IsUsed (t'.status n) → t'.value n ≡ t.value n
  pub links : (n : ℕ) → IsNumber z n → IsUsed (t'.status n)
      → (t'.link n ≡ t.link n) ⊎ ((t'.status n ≢ attached) × (target (t'.link n) ≡ target (t.link n)) × (t'.link n ≢ 0))

-- The record c, which had no use, was put behind the record n, which led nowhere.
pub record Appended (z : Sizes) (t t' : Heap) (n c : ℕ) : Type 0 where
  pub heads : (h : ℕ) → h < z.heads → t'.head h ≡ t.head h
  pub number : IsNumber z n
  pub new_number : IsNumber z c
  pub unused : IsUsed (t.status c) → ⊥
  pub attached_now : t'.status c ≡ attached
  pub others : (m : ℕ) → m ≢ c → t'.status m ≡ t.status m
  pub values : (m : ℕ) → IsNumber z m → t'.value m ≡ t.value m
  pub here : t'.link n ≡ 16 * c
  pub links : (m : ℕ) → IsNumber z m → m ≢ n → t'.link m ≡ t.link m
  pub nil : t.link n ≡ 0
  pub new_nil : t.link c ≡ 0

-- Head 1 was moved on from the record n, which leads to m.
pub record Moved (z : Sizes) (t t' : Heap) (n m : ℕ) : Type 0 where
  pub two : z.heads ≡ 2
  pub front : t'.head 0 ≡ t.head 0
  pub from : t.head 1 ≡ 16 * n
  pub to : t'.head 1 ≡ 16 * m
  pub leads : target (t.link n) ≡ m
  pub some : m ≢ 0
  pub status : (k : ℕ) → t'.status k ≡ t.status k
  pub values : (k : ℕ) → IsNumber z k → t'.value k ≡ t.value k
  pub links : (k : ℕ) → IsNumber z k → t'.link k ≡ t.link k

-- The dummy n was detached, and head 0 leads to the record m behind it.
pub record Removed (z : Sizes) (t t' : Heap) (n m : ℕ) : Type 0 where
  pub two : z.heads ≡ 2
  pub from : t.head 0 ≡ 16 * n
  pub to : t'.head 0 ≡ 16 * m
  pub back : t'.head 1 ≡ t.head 1
  pub passed : t.head 1 ≢ 16 * n
  pub leads : target (t.link n) ≡ m
  pub some : m ≢ 0
  pub gone : t'.status n ≢ attached
  pub others : (k : ℕ) → k ≢ n → t'.status k ≡ t.status k
  pub values : (k : ℕ) → IsNumber z k → t'.value k ≡ t.value k
  pub links : (k : ℕ) → IsNumber z k → t'.link k ≡ t.link k
