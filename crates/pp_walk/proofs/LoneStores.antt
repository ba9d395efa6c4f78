-- One step of a pass that is alone on its pool: a word is left at one place. What is true of every pool, at the one side of a list.
use Rattle.std.proofs.Common.{◌≡◌, ◌≢◌, ℕ, ◌+◌, ◌<◌, ◌⊎◌, List, [], ◌∷◌, set, sym, subst, arith}
use Rattle.pp_link.specs.declared.layout.Sizes.{Sizes}
use Rattle.pp_link.specs.Links.{target}
use Rattle.pp_link.specs.Places.{IsNumber, cell_place}
use Rattle.pp_link.specs.Words.{head_word, cell_word}
use Rattle.pp_model.specs.declared.Change.{Change}
use Rattle.pp_model.specs.declared.Placed.{Placed}
use Rattle.pp_rule.specs.Alone.{IsRun}
use Rattle.pp_rule.specs.Lists.{BeginsWith}
use Rattle.pp_rule.specs.Reached.{Reached}
use Rattle.pp_rule.specs.States.{RecordState}
use Rattle.pp_rule.specs.Steps.{MadeStep}
use Rattle.pp_rule.proofs.Lone as lone
use Rattle.pp_lists.specs.declared.own.Gathered.{Gathered}
use Rattle.pp_lists.specs.Lists.{ListPass}
use Rattle.pp_lists.specs.Walks.{heap, Joined, Intact}
use Rattle.pp_lists.specs.Walks.Joined.{done, more}
use Rattle.pp_lists.specs.Turns.{ListView}
use Rattle.pp_walk.specs.Lone.{list_opens, words_of}

-- what a pass had seen earlier was a run
pub run_back : (z : Sizes) (v w : ListView) → BeginsWith w.order v.order → IsRun 1 (λ (c : Change). c.caller) (list_opens z) z w.order
    → IsRun 1 (λ (c : Change). c.caller) (list_opens z) z v.order
run_back z v w begins run = lone.run_back 1 (λ (c : Change). c.caller) (list_opens z) z v w begins run

-- what it had seen before a step was one
pub run_before : {kind place word left : ℕ} {changes : List Change} {placed : List Placed} (z : Sizes) (known : ListPass) (v u : ListView)
    → MadeStep kind place word left changes placed known v u → IsRun 1 (λ (c : Change). c.caller) (list_opens z) z u.order
    → IsRun 1 (λ (c : Change). c.caller) (list_opens z) z v.order
run_before z known v u made run = lone.run_before 1 (λ (c : Change). c.caller) (list_opens z) z known v u made run

-- After it the words are those before, but for that one.
pub step_words : {kind place word left : ℕ} {changes : List Change} {placed : List Placed} (z : Sizes) (known : ListPass) (v u : ListView)
    → z.passes ≡ 1 → v.known.number < z.passes → IsRun 1 (λ (c : Change). c.caller) (list_opens z) z u.order
    → MadeStep kind place word left changes placed known v u → words_of z u ≡ set (words_of z v) place left
step_words z known v u one low run made = lone.step_words 1 (λ (c : Change). c.caller) (list_opens z) z known v u one low run made

pub cell_either : (z : Sizes) (words : List ℕ) (place x n : ℕ) → (cell_word (set words place x) z n 2 ≡ x)
    ⊎ (cell_word (set words place x) z n 2 ≡ cell_word words z n 2)
cell_either z words place x n = lone.field_either z words place x n 2

-- the link of another record is as it was
pub cell_other : (z : Sizes) (words : List ℕ) (x n m : ℕ) → IsNumber z n → IsNumber z m → n ≢ m
    → cell_word (set words (cell_place z m 2) x) z n 2 ≡ cell_word words z n 2
cell_other z words x n m is_n is_m ne = lone.field_other z words x n 2 m 2 is_n (omega arith) is_m (omega arith) (λ e. ne e.0)

-- so are the heads
pub heads_other : (z : Sizes) (words : List ℕ) (x m h : ℕ) → IsNumber z m → h < z.heads
    → head_word (set words (cell_place z m 2) x) z h ≡ head_word words z h
heads_other z words x m h is low = lone.head_other z words x m 2 h is low

-- what is said of the one side is said of each
at_side : (P : ℕ → Type 0) → P 0 → (side : ℕ) → side < 1 → P side
at_side P here side low = subst P (let e : 0 ≡ side = omega arith in e) here

-- What can be reached then has each property that what could be reached has, and that goes on along links.
pub reached_set : (z : Sizes) (words : List ℕ) (place x : ℕ) (P : ℕ → Type 0) → ((n : ℕ) → Reached 1 z words n → P n) → P (target x)
    → ((m : ℕ) → IsNumber z m → P m → P (target (cell_word words z m 2))) → (n : ℕ) → Reached 1 z (set words place x) n → P n
reached_set z words place x P was there on = lone.reached_set 1 z words place x P was there
    (λ m s is low p. at_side (λ (r : ℕ). P (target (cell_word words z m (2 + r)))) (on m is p) s low)

-- a record to which the link of a record leads that can be reached
pub reached_next : (z : Sizes) (words : List ℕ) (m : ℕ) → IsNumber z m → Reached 1 z words m
    → Reached 1 z words (target (cell_word words z m 2))
reached_next z words m is r = lone.reached_next 1 z words m 0 is (omega arith) r

-- the end of a chain that stands can be reached where its first record can
pub reached_chain : (z : Sizes) (words : List ℕ) (status : ℕ → RecordState) (n x : ℕ) (cs : List Gathered) → Joined n cs x
    → Intact z (heap z words status) cs → Reached 1 z words n → Reached 1 z words x
unfolding Intact
reached_chain z words status n x [] (done e) intact r = subst (Reached 1 z words) e r
reached_chain z words status n x (c ∷ cs) (more ne number flag valid rest) intact r =
    reached_chain z words status (target c.link) x cs rest intact.3 (subst (λ (w : ℕ). Reached 1 z words (target w)) intact.2
    (reached_next z words c.number intact.0 (subst (Reached 1 z words) (sym number) r)))

-- Where each link leads where it led, what could be reached can be reached.
pub reached_led : (z : Sizes) (words words' : List ℕ)
    → ((h : ℕ) → h < z.heads → target (head_word words' z h) ≡ target (head_word words z h))
    → ((m : ℕ) → IsNumber z m → target (cell_word words' z m 2) ≡ target (cell_word words z m 2)) → (n : ℕ) → Reached 1 z words n
    → Reached 1 z words' n
reached_led z words words' heads cells = lone.reached_led 1 z words words' heads
    (λ m s is low. at_side (λ (r : ℕ). target (cell_word words' z m (2 + r)) ≡ target (cell_word words z m (2 + r))) (cells m is) s low)
