-- The or-step that sets TAG in a link of a record that is neither free nor private: attached, in hand, or retired.
use Rattle.std.proofs.Common.{◌≡◌, ◌⊎◌, ℕ, ◌+◌, ◌*◌, ◌/◌, ◌%◌, ◌<◌, max, List, set, bit_or}
use Rattle.std.proofs.Common.{sym, ap, ap₂, ◌∙◌, subst, inl, inr, ⊎_elim, arith}
use Rattle.std.proofs.lemmas.List.{length-set}
use Rattle.std.proofs.Math.Decide.{ℕ_discrete}
use mathlib.Core.Logic.{dite}
use lib.Bits.{or_step, or_zero_r}
use Rattle.pp_link.specs.declared.layout.Sizes.{Sizes}
use Rattle.pp_link.specs.Links.{target, invalid_bit, tag_bit, flag_bit, leaf_bit}
use Rattle.pp_link.specs.Places.{IsNumber, cell_place}
use Rattle.pp_link.specs.Words.{frontier_word, cell_word, CellStored}
use Rattle.pp_link.proofs.Stores.{cell_stored}
use Rattle.pp_rule.specs.Orders.{LoggedStep}
use Rattle.pp_rule.specs.Views.{PassState, halves, slot}
use Rattle.pp_rule.specs.States.{attached, in_hand, IsUsed, PoolState, IsSmall, Keeps, SameTarget, Leads, Leaves}
use Rattle.pp_rule.specs.Rule.{Base}
use Rattle.pp_rule.specs.Changes.{SameBase}
use Rattle.pp_rule.proofs.Stepping.{after_step}
use Rattle.pp_rule.proofs.Frames.{reads_after, shelves_after}
use Rattle.pp_rule.proofs.Keeping.{shelf_scope, hand_scope, base_idle}
use Rattle.pp_rule.proofs.Chained.{same_through, leaves_on}

-- the bit is set already, or it is added
pub tag_set : (w : ℕ) → ((tag_bit w ≡ 1) × (bit_or w 2 ≡ w)) ⊎ ((tag_bit w ≡ 0) × (bit_or w 2 ≡ w + 2))
tag_set w = let a : bit_or w 2 ≡ bit_or (w / 2) 1 * 2 + max (w % 2) 0 = or_step w 2 in
    let b : bit_or (w / 2) 1 ≡ bit_or (w / 2 / 2) 0 * 2 + max (w / 2 % 2) 1 = or_step (w / 2) 1 in
    let c : bit_or (w / 2 / 2) 0 ≡ w / 2 / 2 = or_zero_r (w / 2 / 2) in
    dite (ℕ_discrete (tag_bit w) 1) (λ e. inl (e, omega arith)) (λ ne. inr (omega arith, omega arith))

-- what the step makes of a link: all but TAG stays
pub record Tags (w v : ℕ) : Type 0 where
  pub same : SameTarget w v
  pub invalid : invalid_bit v ≡ invalid_bit w
  pub tag : tag_bit w ≡ 1 → tag_bit v ≡ 1
  pub small : IsSmall w → IsSmall v

pub tags_self : (w v : ℕ) → v ≡ w → Tags w v
tags_self w v e = record {
  same = record { target_is = ap target e; flag_is = ap flag_bit e; leaf_is = ap leaf_bit e };
  invalid = ap invalid_bit e;
  tag = λ t. ap tag_bit e ∙ t;
  small = λ s. subst IsSmall (sym e) s;
}

pub tags_set : (w : ℕ) → Tags w (bit_or w 2)
tags_set w = ⊎_elim (λ (a : (tag_bit w ≡ 1) × (bit_or w 2 ≡ w)). tags_self w (bit_or w 2) a.1)
    (λ (a : (tag_bit w ≡ 0) × (bit_or w 2 ≡ w + 2)). let clear : tag_bit w ≡ 0 = a.0 in subst (Tags w) (sym a.1) record {
      same = record { target_is = omega arith; flag_is = omega arith; leaf_is = omega arith };
      invalid = omega arith;
      tag = λ e. omega arith;
      small = λ s. omega arith;
    })
    (tag_set w)

keeps_through : (u v w : ℕ) → Keeps u v → Tags v w → Keeps u w
keeps_through u v w a t = record { same = same_through u v w a.same t.same; tag = λ e. t.tag (a.tag e) }

module _ {E A W : Type 0} (sides : ℕ) (z : Sizes) (words : List ℕ) (g : PoolState E A W) (n side : ℕ)
    (b : Base sides z words g) (number : IsNumber z n)
    (used : IsUsed (g.status n)) (below : side < sides) where
  abbrev new : List ℕ
  new = set words (cell_place z n (2 + side)) (bit_or (cell_word words z n (2 + side)) 2)

  stored : CellStored z words new n (2 + side) (bit_or (cell_word words z n (2 + side)) 2)
  stored = let most = b.two in cell_stored z words (bit_or (cell_word words z n (2 + side)) 2) b.wide n
      (2 + side) number (omega arith)

  tags_now : Tags (cell_word words z n (2 + side)) (cell_word new z n (2 + side))
  tags_now = subst (Tags (cell_word words z n (2 + side))) (sym stored.here) (tags_set (cell_word words z n (2 + side)))

  each_link : (m t : ℕ) → IsNumber z m → t < 2 → Tags (cell_word words z m (2 + t)) (cell_word new z m (2 + t))
  each_link m t num lt = dite (ℕ_discrete m n) (λ e. dite (ℕ_discrete t side)
      (λ f. subst (λ (m : ℕ). Tags (cell_word words z m (2 + t)) (cell_word new z m (2 + t))) (sym e)
      (subst (λ (t : ℕ). Tags (cell_word words z n (2 + t)) (cell_word new z n (2 + t))) (sym f) tags_now))
      (λ ne. kept m t num lt (λ same. ne same.1)))
      (λ ne. kept m t num lt (λ same. ne same.0))
    where
      kept : (m t : ℕ) → IsNumber z m → t < 2 → ((m ≡ n) × (t ≡ side) → ⊥)
          → Tags (cell_word words z m (2 + t)) (cell_word new z m (2 + t))
      kept m t num lt ne = tags_self (cell_word words z m (2 + t)) (cell_word new z m (2 + t))
          (stored.cells m (2 + t) num (omega arith)
          (λ same. let e : 2 + t ≡ 2 + side = same.1 in ne (same.0, omega arith)))

  -- what led somewhere leads there
  leads_now : (w v : ℕ) → Tags w v → Leads z g.status w → Leads z g.status v
  leads_now w v t l = record {
    small = t.small l.small;
    valid = t.invalid ∙ l.valid;
    to = subst (λ (x : ℕ). (x ≡ 0) ⊎ (IsNumber z x × (g.status x ≡ attached))) (sym t.same.target_is) l.to;
  }

  leaves_now : (w v p j : ℕ) → Tags w v → Leaves z new g.status p j w → Leaves z new g.status p j v
  leaves_now w v p j t l = record {
    small = t.small l.small;
    to = λ valid. subst (λ (x : ℕ). (x ≡ 0) ⊎
        (IsNumber z x × ((g.status x ≡ in_hand p j) ⊎ ((x ≡ frontier_word new z p j) × IsUsed (g.status x)))))
        (sym t.same.target_is) (l.to (sym t.invalid ∙ valid));
  }

  tagged : Base sides z new g
  tagged = let most = b.two in record {
    within = b.within;
    two = b.two;
    wide = length-set words (cell_place z n (2 + side)) (bit_or (cell_word words z n (2 + side)) 2) ∙ b.wide;
    numbers = b.numbers;
    privates = record {
      reads = λ r d low i. let his = b.numbers.owned_to r d low i in reads_after z words new d
          (λ f four. stored.cells d.number f his.0 four (λ same. subst IsUsed (ap g.status (sym same.0) ∙ his.1) used))
          (b.privates.reads r d low i);
    };
    hazards = record {
      five = b.hazards.five;
      four = b.hazards.four;
      walks = λ r i low lt. stored.walks r i low lt ∙ b.hazards.walks r i low lt;
      frontiers = λ r j low lt. stored.frontiers r j low lt ∙ b.hazards.frontiers r j low lt;
      held = λ r i low five on. let h = b.hazards.held r i low five on in let w : ℕ = (slot (g.of r) i).named in record {
        number = h.number;
        used = h.used;
        key = stored.cells w 0 h.number (omega arith) (λ same. let e : 0 ≡ 2 + side = same.1 in omega arith) ∙ h.key;
        value = ap₂ halves (stored.cells w 1 h.number (omega arith) (λ same. let e : 1 ≡ 2 + side = same.1 in omega arith))
            (stored.cells w 4 h.number (omega arith) (λ same. let e : 4 ≡ 2 + side = same.1 in let most = b.two in
            omega arith)) ∙ h.value;
        learnt = λ l j. let was = h.learnt l j in (
          was.0,
          keeps_through l.1 (cell_word words z w (2 + l.0)) (cell_word new z w (2 + l.0)) was.1
              (each_link w l.0 h.number was.0),
          was.2,
        );
      };
    };
    links = record {
      heads = λ h low. subst (Leads z g.status) (sym (stored.heads h low)) (b.links.heads h low);
      linked = λ m t num lt state. leads_now (cell_word words z m (2 + t)) (cell_word new z m (2 + t))
          (each_link m t num (omega arith)) (b.links.linked m t num lt state);
      hand = λ m t r j num lt state. let scope = hand_scope sides z words g b m r j state num in
          leaves_now (cell_word words z m (2 + t)) (cell_word new z m (2 + t)) r j (each_link m t num (omega arith))
          (leaves_on z words new g.status (cell_word words z m (2 + t)) r j (stored.frontiers r j scope.0 scope.1)
          (b.links.hand m t r j num lt state));
      spent = λ m t r num lt state. let was = b.links.spent m t r num lt state in
          let s = each_link m t num (omega arith) in (s.small was.0, s.invalid ∙ was.1);
    };
    shelves = shelves_after z words new g.status (shelf_scope sides z words g b) stored.shelves b.shelves;
    chains = record {
      guard = b.chains.guard;
      once = b.chains.once;
      members = b.chains.members;
      members_once = b.chains.members_once;
      home = b.chains.home;
      valid = λ p m t c low i member lt. let was = b.chains.members p m c low i member in ⊎_elim
          (λ (one : invalid_bit (cell_word words z m (2 + t)) ≡ 1). inl ((each_link m t was.0 (omega arith)).invalid ∙ one)) inr
          (b.chains.valid p m t c low i member lt);
      links = λ p c l low i link. let was = b.chains.links p c l low i link in
          let m = b.chains.members p l.number c low i was.0 in (
            was.0,
            was.1,
            same_through l.word (cell_word words z l.number (2 + l.side))
                (cell_word new z l.number (2 + l.side)) was.2 (each_link l.number l.side m.0 (omega arith)).same,
          );
    };
    scans = record {
      left = b.scans.left;
      left_once = b.scans.left_once;
      fronts = λ p m q j x t low i read num lt state valid to. let s = each_link x t num (omega arith) in
          b.scans.fronts p m q j x t low i read num lt state (sym s.invalid ∙ valid) (sym s.same.target_is ∙ to);
      walks = b.scans.walks;
    };
  }

  -- TAG was set in the link, and what every pool has of the pass is as it was.
  pub base_tagged : (q q' : PassState W) (s : LoggedStep E A) → q.number < z.passes → g.of q.number ≡ q
      → SameBase q q' → Base sides z new (after_step g q' g.status s)
  base_tagged q q' s pass is same = base_idle sides z new g q q' s tagged pass is same
