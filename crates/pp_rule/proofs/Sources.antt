-- Where the links lead that a pass may load: those of heads and of records that it holds.
use Rattle.std.proofs.Common.{◌≡◌, ◌≢◌, ◌⊎◌, ℕ, ◌+◌, ◌*◌, ◌<◌, ◌≤◌, true, List, get_or, refl, sym, ap, ◌∙◌, subst, inl, inr, ⊎_elim, arith}
use Rattle.pp_link.specs.declared.layout.Sizes.{Sizes}
use Rattle.pp_link.specs.Links.{target, invalid_bit}
use Rattle.pp_link.specs.Places.{IsNumber, head_place, cell_place}
use Rattle.pp_link.specs.Words.{frontier_word, head_word, cell_word}
use Rattle.pp_rule.specs.Lists.{IsIn}
use Rattle.pp_rule.specs.Views.{PassState, slot}
use Rattle.pp_rule.specs.States.{RecordState, attached, in_hand, retired, owned, shelved, IsUsed, IsStateIn, PoolState, IsSmall}
use Rattle.pp_rule.specs.States.{Leads, Held}
use Rattle.pp_rule.specs.Rule.{Numbers, Links, Scans, Base}
use Rattle.pp_rule.specs.Steps.{IsSource}

-- A link without INVALID leads to nil, or to a record that is neither free nor private and that no reclaim pass still has
-- which has read all frontier words.
pub record Sound {W : Type 0} (z : Sizes) (of : ℕ → PassState W) (status : ℕ → RecordState) (w : ℕ) : Type 0 where
  pub small : IsSmall w
  pub to : invalid_bit w ≡ 0 → (target w ≡ 0) ⊎ (IsNumber z (target w) × IsUsed (status (target w)))
  pub unscanned : invalid_bit w ≡ 0 → (r m : ℕ) → r < z.passes → IsIn m (of r).scan.left → 4 * z.passes ≤ (of r).scan.read → target w ≢ m

module _ {W : Type 0} (sides : ℕ) (z : Sizes) (words : List ℕ) (of : ℕ → PassState W) (status : ℕ → RecordState) where
  -- what leads to nil or to an attached record
  pub leads_sound : (w : ℕ) → Scans sides z words of status → Leads z status w → Sound z of status w
  leads_sound w s l = record {
    small = l.small;
    to = λ valid. ⊎_elim inl (λ (t : IsNumber z (target w) × (status (target w) ≡ attached)). inr (t.0, subst IsUsed (sym t.1) tt)) l.to;
    unscanned = λ valid r m low i read same. let gone = s.left r m low i in ⊎_elim
        (λ (nil : target w ≡ 0). let one : 1 ≤ m = gone.0.0 in absurd (omega arith))
        (λ (t : IsNumber z (target w) × (status (target w) ≡ attached)). let bad : attached ≡ retired r = sym t.1 ∙ (ap status same
        ∙ gone.1) in absurd cc) l.to;
  }

  -- The link of a record that is neither free nor private. Of a record in hand it may lead where the frontier word of the chain
  -- says, and what a scan still has that has read that word, no such link leads to.
  pub used_sound : (n side : ℕ) (state : RecordState) → status n ≡ state → IsUsed state → Numbers z of status → Links sides z words status
      → Scans sides z words of status → IsNumber z n → side < sides → Sound z of status (cell_word words z n (2 + side))
  used_sound n side attached is used numbers l s number lt = leads_sound (cell_word words z n (2 + side)) s (l.linked n side number lt is)
  used_sound n side (in_hand p j) is used numbers l s number lt = let h = l.hand n side p j number lt is in
      let w : ℕ = cell_word words z n (2 + side) in
      let scope : (p < z.passes) × (j < 4) = subst (IsStateIn z) is (numbers.scope n number) in record {
        small = h.small;
        to = λ valid. ⊎_elim inl
            (λ (t : IsNumber z (target w) × ((status (target w) ≡ in_hand p j) ⊎ ((target w ≡ frontier_word words z p j) × IsUsed
            (status (target w))))). inr (
              t.0,
              ⊎_elim
                  (λ (e : status (target w) ≡ in_hand p j). subst IsUsed (sym e) tt) (λ (u :
                  (target w ≡ frontier_word words z p j) × IsUsed (status (target w))). u.1) t.1,
            )) (h.to valid);
        unscanned = λ valid r m low i read. let pass : p < z.passes = scope.0 in let word : j < 4 = scope.1 in
            s.fronts r m p j n side low i (omega arith) number lt is valid;
      }
  used_sound n side (retired p) is used numbers l s number lt = let spent = l.spent n side p number lt is in
      let one : invalid_bit (cell_word words z n (2 + side)) ≡ 1 = spent.1 in
      record { small = spent.0; to = λ valid. absurd (omega arith); unscanned = λ valid. absurd (omega arith) }
  used_sound n side (owned p) is used numbers l s number lt = absurd used
  used_sound n side (shelved j) is used numbers l s number lt = absurd used

module _ {E A W : Type 0} (sides : ℕ) (z : Sizes) (words : List ℕ) (g : PoolState E A W) where
  -- the word of a source
  pub source_sound : (q : PassState W) (place : ℕ) → Base sides z words g → q.number < z.passes → g.of q.number ≡ q
      → IsSource sides z q place
      → Sound z g.of g.status (get_or words place 0)
  unfolding cell_word head_word
  source_sound q place b pass is source = ⊎_elim
      (λ (s : (h : ℕ) × ((h < z.heads) × (place ≡ head_place z h))). subst (λ (k : ℕ). Sound z g.of g.status (get_or words k 0)) (sym s.1.1)
      (leads_sound sides z words g.of g.status (get_or words (head_place z s.0) 0) b.scans (b.links.heads s.0 s.1.0)))
      (λ (s : (j : ℕ) × ((side : ℕ) × ((j < 5) × (side < sides) × ((slot q j).held ≡ true) × (place ≡ cell_place z (slot q j).named
      (2 + side))))).
      let held : Held z words g.status (slot q s.0) = subst (λ (v : PassState W). (slot v s.0).held ≡ true
      → Held z words g.status (slot v s.0)) is
      (b.hazards.held q.number s.0 pass s.1.1.0) s.1.1.2 in
      subst (λ (k : ℕ). Sound z g.of g.status (get_or words k 0)) (sym s.1.1.3)
      (used_sound sides z words g.of g.status (slot q s.0).named s.1.0 (g.status
      (slot q s.0).named) refl held.used b.numbers b.links b.scans held.number s.1.1.1))
      source
