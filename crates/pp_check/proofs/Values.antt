-- A key's value in the map after some changes of a log: what the last change on it left.
use Rattle.std.proofs.Common.{◌≡◌, ℕ, zero, suc, ◌+◌, ◌<◌, ◌≤◌, ◌-◌, Bool, true, false, cond, nat_eq, List, [], ◌∷◌, length, take, get_or}
use Rattle.std.proofs.Common.{Option, Some, None, refl, sym, ap, ◌∙◌, arith}
use Rattle.std.specs.Prelude.{slice_get}
use Rattle.std.proofs.lemmas.Bool.{true≢false}
use Rattle.std.proofs.lemmas.List.{take_more}
use Rattle.std.proofs.lemmas.Option.{slice_get-get_or, slice_get_within, get_or_from_slice_get}
use Rattle.pp_model.specs.declared.Call.{Call}
use Rattle.pp_model.specs.declared.Call.TheVariants.{Get, Insert, Remove, Cut}
use Rattle.pp_model.specs.declared.Reply.TheVariants.{Took, Other}
use Rattle.pp_model.specs.declared.Change.{Change}
use Rattle.pp_model.specs.declared.Pair.{Pair}
use Rattle.pp_model.specs.FiniteMap.{find, drop_key, KeysRise}
use Rattle.pp_model.specs.Calls.{key_of, reply, reply_at, map_after, map_after_at, changes}
use Rattle.pp_model.specs.History.{run_from, after}
use Rattle.pp_model.proofs.Maps.{RisesFrom-put, RisesFrom-drop_key}
use Rattle.pp_model.proofs.Finding.{find_put, find_put_else, find_drop, find_drop_else}
use Rattle.pp_model.proofs.Histories.{run_from-append}
use Rattle.pp_check.specs.Histories.{SoundTo}
use Rattle.pp_check.specs.Indexes.{left_by}

-- ---- one change

either_rises : (m : List Pair) (k : ℕ) (same : Bool) → KeysRise m → KeysRise (cond same (drop_key m k) m)
either_rises m k true rises = RisesFrom-drop_key m 0 k rises
either_rises m k false rises = rises

rises_at : (m : List Pair) (call : Call) (w : Option ℕ) → find m (key_of call) ≡ w → KeysRise m → KeysRise (map_after_at m call w)
rises_at m (Get k) w is rises = rises
rises_at m (Insert k v) None is rises = RisesFrom-put m 0 k v rises (omega arith) is
rises_at m (Insert k v) (Some x) is rises = rises
rises_at m (Remove k) None is rises = rises
rises_at m (Remove k) (Some x) is rises = RisesFrom-drop_key m 0 k rises
rises_at m (Cut k v) None is rises = rises
rises_at m (Cut k v) (Some x) is rises = either_rises m k (nat_eq x v) rises

rises_run : (m : List Pair) (log : List Change) → KeysRise m → KeysRise (run_from m log)
rises_run m [] rises = rises
rises_run m (c ∷ log) rises = rises_run (map_after m c.call) log (rises_at m c.call (find m (key_of c.call)) refl rises)

-- the keys of the map after some changes rise
pub rises_after : (log : List Change) (p : ℕ) → KeysRise (after log p)
rises_after log p = rises_run [] (take p log) tt

cut_next : (m : List Pair) (k x : ℕ) (same : Bool) → KeysRise m → changes (cond same (Took x) (Other x)) ≡ true
    → find (cond same (drop_key m k) m) k ≡ None
cut_next m k x true rises changed = find_drop 0 m k rises
cut_next m k x false rises changed = absurd (true≢false (sym changed))

find_next_at : (m : List Pair) (call : Call) (w : Option ℕ) → find m (key_of call) ≡ w → KeysRise m → changes (reply_at call w) ≡ true
    → find (map_after_at m call w) (key_of call) ≡ left_by call
find_next_at m (Get k) None is rises changed = absurd (true≢false (sym changed))
find_next_at m (Get k) (Some x) is rises changed = absurd (true≢false (sym changed))
find_next_at m (Insert k v) None is rises changed = find_put m k v is
find_next_at m (Insert k v) (Some x) is rises changed = absurd (true≢false (sym changed))
find_next_at m (Remove k) None is rises changed = absurd (true≢false (sym changed))
find_next_at m (Remove k) (Some x) is rises changed = find_drop 0 m k rises
find_next_at m (Cut k v) None is rises changed = absurd (true≢false (sym changed))
find_next_at m (Cut k v) (Some x) is rises changed = cut_next m k x (nat_eq x v) rises changed

-- a call that changes the map leaves this value at its key
pub find_next : (m : List Pair) (call : Call) → KeysRise m → changes (reply m call) ≡ true
    → find (map_after m call) (key_of call) ≡ left_by call
find_next m call rises changed = find_next_at m call (find m (key_of call)) refl rises changed

cut_else : (m : List Pair) (k j : ℕ) (same : Bool) → (j ≡ k → ⊥) → find (cond same (drop_key m k) m) j ≡ find m j
cut_else m k j true other = find_drop_else m k j other
cut_else m k j false other = refl

find_else_at : (m : List Pair) (call : Call) (w : Option ℕ) (j : ℕ) → (j ≡ key_of call → ⊥) → find (map_after_at m call w) j ≡ find m j
find_else_at m (Get k) w j other = refl
find_else_at m (Insert k v) None j other = find_put_else m k v j other
find_else_at m (Insert k v) (Some x) j other = refl
find_else_at m (Remove k) None j other = refl
find_else_at m (Remove k) (Some x) j other = find_drop_else m k j other
find_else_at m (Cut k v) None j other = refl
find_else_at m (Cut k v) (Some x) j other = cut_else m k j (nat_eq x v) other

-- and leaves the values of other keys
pub find_else : (m : List Pair) (call : Call) (j : ℕ) → (j ≡ key_of call → ⊥) → find (map_after m call) j ≡ find m j
find_else m call j other = find_else_at m call (find m (key_of call)) j other

-- ---- a log

pub after_next : (log : List Change) (p : ℕ) (c : Change) → slice_get log p ≡ Some c → after log (p + 1) ≡ map_after (after log p) c.call
after_next log p c at =
    let within = slice_get_within log p c at in
    ap (run_from []) (take_more log p c within) ∙ run_from-append [] (take p log) (get_or log p c ∷ [])
    ∙ ap (λ (x : Change). map_after (after log p) x.call) (get_or_from_slice_get log p c c at)

-- a change on another key
pub kept_after : (log : List Change) (key p : ℕ) (c : Change) → slice_get log p ≡ Some c → (key_of c.call ≡ key → ⊥)
    → find (after log (p + 1)) key ≡ find (after log p) key
kept_after log key p c at other =
    ap (λ m. find m key) (after_next log p c at) ∙ find_else (after log p) c.call key (λ e. other (sym e))

left_after : (log : List Change) (key q : ℕ) (c : Change) → slice_get log q ≡ Some c → key_of c.call ≡ key
    → changes (reply (after log q) c.call) ≡ true → find (after log (q + 1)) key ≡ left_by c.call
left_after log key q c at its changed =
    ap (λ m. find m key) (after_next log q c at) ∙ ap (find (map_after (after log q) c.call)) (sym its)
    ∙ find_next (after log q) c.call (rises_after log q) changed

value_far : (n : ℕ) (log : List Change) (key q p : ℕ) (c : Change) → p ≡ q + 1 + n → p ≤ length log → slice_get log q ≡ Some c
    → key_of c.call ≡ key → changes (reply (after log q) c.call) ≡ true
    → ((r : ℕ) (d : Change) → q < r → r < p → slice_get log r ≡ Some d → key_of d.call ≡ key → ⊥)
    → find (after log p) key ≡ left_by c.call
value_far zero log key q p c is within at its changed last =
    let same : p ≡ q + 1 = omega arith in
    ap (λ r. find (after log r) key) same ∙ left_after log key q c at its changed
value_far (suc n) log key q p c is within at its changed last =
    let r = q + 1 + n in
    let next : p ≡ r + 1 = omega arith in
    let d = get_or log r c in
    let here : slice_get log r ≡ Some d = slice_get-get_or log r c (omega arith) in
    ap (λ k. find (after log k) key) next
    ∙ kept_after log key r d here (λ e. last r d (omega arith) (omega arith) here e)
    ∙ value_far n log key q r c refl (omega arith) at its changed (λ k x above below. last k x above (omega arith))

-- the last change on a key left the key's value
pub value_left : (log : List Change) (key q p : ℕ) (c : Change) → q < p → p ≤ length log → SoundTo log p → slice_get log q ≡ Some c
    → key_of c.call ≡ key → ((r : ℕ) (d : Change) → q < r → r < p → slice_get log r ≡ Some d → key_of d.call ≡ key → ⊥)
    → find (after log p) key ≡ left_by c.call
value_left log key q p c before within sound at its last =
    value_far (p - (q + 1)) log key q p c (omega arith) within at its (sound q c before at) last

-- a key on which there was no change has none
value_none_from : (log : List Change) (d : Change) (key p : ℕ) → p ≤ length log
    → ((r : ℕ) (c : Change) → r < p → slice_get log r ≡ Some c → key_of c.call ≡ key → ⊥) → find (after log p) key ≡ None
value_none_from log d key zero within none = refl
value_none_from log d key (suc p) within none =
    let c = get_or log p d in
    let here : slice_get log p ≡ Some c = slice_get-get_or log p d (omega arith) in
    let next : suc p ≡ p + 1 = omega arith in
    ap (λ k. find (after log k) key) next
    ∙ kept_after log key p c here (λ e. none p c (omega arith) here e)
    ∙ value_none_from log d key p (omega arith) (λ r x below. none r x (omega arith))

pub value_none : (log : List Change) (key p : ℕ) → p ≤ length log
    → ((r : ℕ) (c : Change) → r < p → slice_get log r ≡ Some c → key_of c.call ≡ key → ⊥) → find (after log p) key ≡ None
value_none [] key zero within none = refl
value_none [] key (suc p) within none = absurd (omega arith)
value_none (c ∷ log) key p within none = value_none_from (c ∷ log) c key p within none
