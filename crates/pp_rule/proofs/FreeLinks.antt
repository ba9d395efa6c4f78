-- The words after a link of a head or of an attached record, which nobody learnt as frozen, got another word.
use Rattle.std.proofs.Common.{◌≡◌, ◌≢◌, ℕ, ◌+◌, ◌*◌, ◌<◌, ◌≤◌, List, length, get_or, set, sym, ap, ◌∙◌, subst, arith}
use Rattle.std.proofs.lemmas.List.{get_or-set_same, get_or-set_other}
use Rattle.std.proofs.Math.Decide.{ℕ_discrete}
use mathlib.Core.Logic.{dite}
use Rattle.pp_link.specs.declared.layout.Sizes.{Sizes}
use Rattle.pp_link.specs.Places.{IsNumber, total, head_place, cell_place}
use Rattle.pp_link.specs.Words.{walk_word, frontier_word, shelf_word, head_word, cell_word}
use Rattle.pp_rule.specs.States.{RecordState, attached, PoolState}
use Rattle.pp_rule.specs.Detach.{IsFreeLink}

module _ {E A W : Type 0} where
  -- No hazard word, no shelf word, no key, no value and no link of a record that isn't attached has the place.
  pub record LinkStored (z : Sizes) (words : List ℕ) (g : PoolState E A W) (place value : ℕ) : Type 0 where
    pub walks : (p i : ℕ) → p < z.passes → i < 5 → walk_word (set words place value) z p i ≡ walk_word words z p i
    pub frontiers : (p j : ℕ) → p < z.passes → j < 4 → frontier_word (set words place value) z p j ≡ frontier_word words z p j
    pub shelves : (j : ℕ) → j < 8 * z.passes → shelf_word (set words place value) z j ≡ shelf_word words z j
    pub other_head : (h : ℕ) → head_place z h ≢ place → head_word (set words place value) z h ≡ head_word words z h
    pub this_head : (h : ℕ) → head_place z h ≡ place → head_word (set words place value) z h ≡ value
    pub other_cell : (n f : ℕ) → cell_place z n f ≢ place → cell_word (set words place value) z n f ≡ cell_word words z n f
    pub this_cell : (n f : ℕ) → cell_place z n f ≡ place → cell_word (set words place value) z n f ≡ value
    -- keys and values stay
    pub fields : (n f : ℕ) → IsNumber z n → f < 2 → cell_word (set words place value) z n f ≡ cell_word words z n f
    pub high : (n : ℕ) → IsNumber z n → cell_word (set words place value) z n 4 ≡ cell_word words z n 4
    -- all words of a record that isn't attached stay
    pub unattached : (n f : ℕ) (s : RecordState) → IsNumber z n → f < 5 → g.status n ≡ s → s ≢ attached
        → cell_word (set words place value) z n f ≡ cell_word words z n f

  pub link_stored : (z : Sizes) (words : List ℕ) (g : PoolState E A W) (place value : ℕ) → length words ≡ total z → IsFreeLink z g place
      → LinkStored z words g place value
  unfolding walk_word frontier_word shelf_word head_word cell_word
  link_stored z words g place value wide free = record {
    walks = λ p i low five. let high = free.high.1 in elsewhere (1 + 5 * p + i) (omega arith);
    frontiers = λ p j low four. let high = free.high.1 in elsewhere (1 + 5 * z.passes + 4 * p + j) (omega arith);
    shelves = λ j low. let high = free.high.1 in elsewhere (1 + 9 * z.passes + j) (omega arith);
    other_head = λ h ne. elsewhere (head_place z h) ne;
    this_head = λ h e. ap (λ (k : ℕ). get_or new k 0) e ∙ here;
    other_cell = λ n f ne. elsewhere (cell_place z n f) ne;
    this_cell = λ n f e. ap (λ (k : ℕ). get_or new k 0) e ∙ here;
    fields = λ n f number two. elsewhere (cell_place z n f)
        (λ e. let high : 2 ≤ f = (free.holder n f number (omega arith) e).0 in absurd (omega arith));
    high = λ n number. elsewhere (cell_place z n 4)
        (λ e. let low : 4 < 4 = (free.holder n 4 number (omega arith) e).1 in absurd (omega arith));
    unattached = λ n f s number four state ne. elsewhere (cell_place z n f)
        (λ e. ne (sym state ∙ (free.holder n f number four e).2));
  }
    where
      new : List ℕ
      new = set words place value

      elsewhere : (at : ℕ) → at ≢ place → get_or new at 0 ≡ get_or words at 0
      elsewhere at ne = get_or-set_other words place at value 0 ne

      here : get_or new place 0 ≡ value
      here = let low = free.high.0 in get_or-set_same words place value 0 (omega arith)

  -- a head and a link have what they had, where the new word has it too
  pub head_has : (z : Sizes) (words : List ℕ) (g : PoolState E A W) (place value : ℕ) → LinkStored z words g place value
      → (P : ℕ → Type 0) (h : ℕ) → P value → P (head_word words z h) → P (head_word (set words place value) z h)
  head_has z words g place value stored P h then was = dite (ℕ_discrete (head_place z h) place)
      (λ e. subst P (sym (stored.this_head h e)) then) (λ ne. subst P (sym (stored.other_head h ne)) was)

  pub cell_has : (z : Sizes) (words : List ℕ) (g : PoolState E A W) (place value : ℕ) → LinkStored z words g place value
      → (P : ℕ → Type 0) (n f : ℕ) → P value → P (cell_word words z n f) → P (cell_word (set words place value) z n f)
  cell_has z words g place value stored P n f then was = dite (ℕ_discrete (cell_place z n f) place)
      (λ e. subst P (sym (stored.this_cell n f e)) then) (λ ne. subst P (sym (stored.other_cell n f ne)) was)
