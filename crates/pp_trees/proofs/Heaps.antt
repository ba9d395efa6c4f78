-- The words of a table as the tree sees them.
use Rattle.std.proofs.Common.{◌≡◌, ◌≢◌, ⊎_elim, ℕ, ◌+◌, ◌%◌, ◌<◌, List, length, get_or, set}
use Rattle.std.proofs.Common.{refl, sym, ap, ap₂, ◌∙◌, subst, arith}
use Rattle.std.proofs.lemmas.List.{get_or-set_same, get_or-set_other}
use Rattle.pp_link.specs.declared.layout.Sizes.{Sizes}
use Rattle.pp_link.specs.Links.{target, invalid_bit}
use Rattle.pp_link.specs.Places.{IsNumber, total, head_place, cell_place}
use Rattle.pp_link.specs.Words.{head_word, cell_word}
use Rattle.pp_rule.specs.States.{RecordState, IsUsed, PoolState, Stays}
use Rattle.pp_rule.specs.Rule.{Base}
use Rattle.pp_rule.specs.Looks.{SameSeen, Invalidates}
use Rattle.pp_rule.proofs.Learnt.{value_by}
use Rattle.pp_rule.proofs.Sources.{used_sound}
use Rattle.pp_trees.specs.Trees.{heap, Sane, Rewired, Fewer}
use Rattle.pp_trees.proofs.Splicing.{is_there}

module _ {E A W : Type 0} where
  pub sane_of : (z : Sizes) (words : List ℕ) (g : PoolState E A W) → Base 2 z words g → Sane z (heap z words g.status)
  sane_of z words g b = record {
    records = b.within.some_records;
    leads = λ n s number lt on. b.links.linked n s number lt on;
    used = λ n s number lt used valid some. let sound = used_sound 2 z words g.of g.status n s
        (g.status n) refl used b.numbers b.links b.scans number lt in ⊎_elim
        (λ (nil : target (cell_word words z n (2 + s)) ≡ 0). absurd (some nil))
        (λ (to : IsNumber z (target (cell_word words z n (2 + s))) × IsUsed (g.status (target (cell_word words z n
        (2 + s))))). to) (sound.to valid);
  }

  pub fewer_seen : (z : Sizes) (words words' : List ℕ) (g g' : PoolState E A W) → SameSeen z words words' g g'
      → Fewer z (heap z words g.status) (heap z words' g'.status)
  fewer_seen z words words' g g' d = record {
    heads = d.heads;
    used_was = d.used_was;
    linked_was = d.linked_was;
    attached_on = d.attached_on;
    keys = λ n number used. d.cells n 0 number (omega arith) used;
    values = λ n number used. ap₂ value_by (d.cells n 1 number (omega arith) used) (d.cells n 4 number (omega arith) used);
    valid = λ n s number used lt valid. d.cells n (2 + s) number (omega arith) used;
    rest = λ n s number used lt. let same = d.cells n (2 + s) number (omega arith) used in
        (ap target same, ap (λ (x : ℕ). x % 4) same);
  }

  pub fewer_invalid : (z : Sizes) (words words' : List ℕ) (g g' : PoolState E A W) (n side : ℕ) → side < 2
      → Invalidates z words words' g g' n side
      → Fewer z (heap z words g.status) (heap z words' g'.status)
  fewer_invalid z words words' g g' n side low d = record {
    heads = d.heads;
    used_was = λ m used. subst IsUsed (d.status m) used;
    linked_was = λ m l. d.status m;
    attached_on = λ m on. d.status m ∙ on;
    keys = λ m number used. d.others m 0 number (omega arith) (λ at. let e = at.1 in omega arith);
    values = λ m number used. ap₂ value_by (d.others m 1 number (omega arith) (λ at. let e = at.1 in omega arith))
        (d.others m 4 number (omega arith) (λ at. let e = at.1 in omega arith));
    valid = λ m s number used lt valid. ⊎_elim
        (λ (at : (m ≡ n) × (s ≡ side)). let bad : invalid_bit (cell_word words' z m (2 + s)) ≡ 1 = ap (λ (x : ℕ). invalid_bit
        (cell_word words' z x (2 + s))) at.0
        ∙ (ap (λ (x : ℕ). invalid_bit (cell_word words' z n (2 + x))) at.1 ∙ d.invalid) in absurd (omega arith))
        (λ (ne : (m ≡ n) × (s ≡ side) → ⊥). other m s number lt ne) (is_there m s n side);
    rest = λ m s number used lt. ⊎_elim
        (λ (at : (m ≡ n) × (s ≡ side)). let new : cell_word words' z m (2 + s) ≡ cell_word words' z n (2 + side) = ap (λ
        (x : ℕ). cell_word words' z x (2 + s)) at.0 ∙ ap (λ (x : ℕ). cell_word words' z n (2 + x)) at.1 in
        let old : cell_word words z m (2 + s) ≡ cell_word words z n (2 + side) = ap (λ (x : ℕ). cell_word words z x
        (2 + s)) at.0 ∙ ap (λ (x : ℕ). cell_word words z n (2 + x)) at.1 in
        let here = same_but (cell_word words z n (2 + side)) (cell_word words' z n (2 + side)) d.here in
        (ap target new ∙ (here.0 ∙ sym (ap target old)), ap (λ (x : ℕ). x % 4) new ∙ (here.1 ∙ sym (ap (λ (x : ℕ). x % 4) old))))
        (λ (ne : (m ≡ n) × (s ≡ side) → ⊥). let same = other m s number lt ne in
        (ap target same, ap (λ (x : ℕ). x % 4) same)) (is_there m s n side);
  }
    where
      other : (m s : ℕ) → IsNumber z m → s < 2 → ((m ≡ n) × (s ≡ side) → ⊥)
          → cell_word words' z m (2 + s) ≡ cell_word words z m (2 + s)
      other m s number lt ne = d.others m (2 + s) number (omega arith) (λ at. let e = at.1 in ne (at.0, omega arith))

      same_but : (w w' : ℕ) → Stays w w' → (target w' ≡ target w) × (w' % 4 ≡ w % 4)
      same_but w w' s = ⊎_elim (λ (e : w' ≡ w). (ap target e, ap (λ (x : ℕ). x % 4) e))
          (λ (y : (invalid_bit w ≡ 0) × (w' ≡ w + 4)). let a = y.0 in let b = y.1 in (omega arith, omega arith)) s

-- a link of a record gets another word
pub rewired_of : (z : Sizes) (words : List ℕ) (state state' : ℕ → RecordState) (p s w place : ℕ) → length words ≡ total z
    → IsNumber z p → s < 2
    → place ≡ cell_place z p (2 + s) → Rewired z (heap z words state) (heap z (set words place w) state') p s w
unfolding head_word cell_word
rewired_of z words state state' p s w place wide number low at = record {
  head = λ h lt. elsewhere (head_place z h) (omega arith);
  there = ap (λ (k : ℕ). get_or (set words place w) k 0) (sym at) ∙ get_or-set_same words place w 0 (let n0 = number.0 in
      let n1 = number.1 in omega arith);
  links = λ n r num lt ne. elsewhere (cell_place z n (2 + r)) (λ e. let n0 = num.0 in let p0 = number.0 in apart n r num lt ne e);
  keys = λ n num. elsewhere (cell_place z n 0) (let n0 = num.0 in let p0 = number.0 in λ e. omega arith);
  values = λ n num. ap₂ value_by (elsewhere (cell_place z n 1) (let n0 = num.0 in let p0 = number.0 in λ e. omega arith))
      (elsewhere (cell_place z n 4) (let n0 = num.0 in let p0 = number.0 in λ e. omega arith));
}
  where
    elsewhere : (k : ℕ) → k ≢ place → get_or (set words place w) k 0 ≡ get_or words k 0
    elsewhere k ne = get_or-set_other words place k w 0 ne

    apart : (n r : ℕ) → IsNumber z n → r < 2 → ((n ≡ p) × (r ≡ s) → ⊥) → cell_place z n (2 + r) ≢ place
    apart n r num lt ne e = let n0 = num.0 in let p0 = number.0 in let both : cell_place z n (2 + r) ≡ cell_place z p
        (2 + s) = e ∙ at in
        ne (omega arith, omega arith)
