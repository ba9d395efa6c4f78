-- From the words of the table to what a list sees.
use Rattle.std.proofs.Common.{◌≡◌, ◌⊎◌, inl, inr, ⊎_elim, ℕ, ◌+◌, ◌*◌, ◌<◌, ◌≤◌, List}
use Rattle.std.proofs.Common.{length, set, sym, refl, ap, ap₂, ◌∙◌, subst, arith}
use Rattle.std.proofs.Math.Decide.{ℕ_discrete}
use mathlib.Core.Logic.{dite}
use Rattle.pp_link.specs.Links.{target, invalid_bit, flag_bit, tag_bit}
use Rattle.pp_link.specs.Places.{cell_place, total, IsNumber}
use Rattle.pp_link.specs.Words.{cell_word, frontier_word}
use Rattle.pp_link.specs.declared.layout.Sizes.{Sizes}
use Rattle.pp_rule.specs.Looks.{SameSeen, Invalidates}
use Rattle.pp_rule.specs.Rule.{Base}
use Rattle.pp_rule.specs.States.{RecordState, attached, in_hand, retired, owned, shelved, PoolState, IsUsed, Leads}
use Rattle.pp_rule.specs.States.{Stays}
use Rattle.pp_rule.proofs.Learnt.{value_by}
use Rattle.pp_link.proofs.Stores.{head_stored, cell_stored}
use Rattle.pp_lists.specs.Walks.{heap, Source, at_head, at_record, word_at, source_place, IsLive, IsSeen, IsOn, Sane, Rewired}
use Rattle.pp_lists.proofs.Walking.{Fewer}

module _ {E A W : Type 0} (z : Sizes) (words : List ℕ) (g : PoolState E A W) where
  pub sane_of : Base 1 z words g → Sane z (heap z words g.status)
  sane_of b = record {
    valid = valid_at;
    live = live_at;
    used = λ n is_n u ok. used_at n is_n (g.status n) refl u ok;
  }
    where
      leads : (s : Source) → IsLive z (heap z words g.status) s → Leads z g.status (word_at (heap z words g.status) s)
      leads (at_head h) live = b.links.heads h live
      leads (at_record n) live = b.links.linked n 0 live.0 (omega arith) live.1

      valid_at : (s : Source) → IsLive z (heap z words g.status) s → invalid_bit (word_at (heap z words g.status) s) ≡ 0
      valid_at s live = (leads s live).valid

      live_at : (s : Source) → IsLive z (heap z words g.status) s
          → IsOn z (heap z words g.status) (target (word_at (heap z words g.status) s))
      live_at s live = (leads s live).to

      used_at : (n : ℕ) → IsNumber z n → (st : RecordState) → g.status n ≡ st → IsUsed (g.status n)
          → invalid_bit (cell_word words z n 2) ≡ 0 → IsSeen z (heap z words g.status) (target (cell_word words z n 2))
      used_at n is_n attached e u ok = let y = b.links.linked n 0 is_n (omega arith) e in
          ⊎_elim inl (λ (v : IsNumber z (target (cell_word words z n 2))
          × (g.status (target (cell_word words z n 2)) ≡ attached)). inr (v.0, subst IsUsed (sym v.1) tt)) y.to
      used_at n is_n (in_hand p j) e u ok = let y = b.links.hand n 0 p j is_n (omega arith) e in
          let w : ℕ = cell_word words z n 2 in ⊎_elim inl
          (λ (v : IsNumber z (target w) × ((g.status (target w) ≡ in_hand p j)
          ⊎ ((target w ≡ frontier_word words z p j) × IsUsed (g.status (target w))))). inr (
            v.0,
            ⊎_elim (λ (i : g.status (target w) ≡ in_hand p j). subst IsUsed (sym i) tt)
                (λ (i : (target w ≡ frontier_word words z p j) × IsUsed (g.status (target w))). i.1) v.1,
          ))
          (y.to ok)
      used_at n is_n (retired p) e u ok = let y = b.links.spent n 0 p is_n (omega arith) e in let bad = y.1 in
          absurd (omega arith)
      used_at n is_n (owned p) e u ok = absurd (subst IsUsed e u)
      used_at n is_n (shelved p) e u ok = absurd (subst IsUsed e u)

  -- after a store to the link of a source
  pub rewired_of : (status' : ℕ → RecordState) (s : Source) (place w : ℕ) → length words ≡ total z
      → IsLive z (heap z words g.status) s
      → place ≡ source_place z s → Rewired z (heap z words g.status) (heap z (set words place w) status') s w
  rewired_of status' (at_head h) place w wide live at = let stored = head_stored z words w wide h live in
      subst (λ (p : ℕ). Rewired z (heap z words g.status) (heap z (set words p w) status') (at_head h) w) (sym at) record {
        there = stored.here;
        heads = λ i lt ne. stored.heads i lt (λ e. ne (ap at_head e));
        links = λ n is_n ne. stored.cells n 2 is_n (omega arith);
        keys = λ n is_n. stored.cells n 0 is_n (omega arith);
        values = λ n is_n. ap₂ value_by (stored.cells n 1 is_n (omega arith)) (stored.cells n 4 is_n (omega arith));
      }
  rewired_of status' (at_record m) place w wide live at = let stored = cell_stored z words w wide m 2 live.0 (omega arith) in
      subst (λ (p : ℕ). Rewired z (heap z words g.status) (heap z (set words p w) status') (at_record m) w) (sym at) record {
        there = stored.here;
        heads = λ i lt ne. stored.heads i lt;
        links = λ n is_n ne. stored.cells n 2 is_n (omega arith) (λ y. ne (ap at_record y.0));
        keys = λ n is_n. stored.cells n 0 is_n (omega arith) (λ y. let e = y.1 in omega arith);
        values = λ n is_n. ap₂ value_by (stored.cells n 1 is_n (omega arith) (λ y. let e = y.1 in omega arith))
            (stored.cells n 4 is_n (omega arith) (λ y. let e = y.1 in omega arith));
      }

  pub place_of_live : (s : Source) → length words ≡ total z → IsLive z (heap z words g.status) s → (source_place z s < total z)
      × (17 * z.passes < source_place z s)
  place_of_live (at_head h) wide live = (omega arith, omega arith)
  place_of_live (at_record n) wide live = let one : 1 ≤ n = live.0.0 in let most : n ≤ z.records = live.0.1 in
      (omega arith, omega arith)

-- a place is that of one cell alone
pub cell_once : (z : Sizes) (n m f e : ℕ) → 1 ≤ n → 1 ≤ m → f < 5 → e < 5 → cell_place z n f ≡ cell_place z m e → (n ≡ m)
    × (f ≡ e)
cell_once z n m f e one_n one_m low_f low_e same = (omega arith, omega arith)

module _ {E A W : Type 0} (z : Sizes) (words words' : List ℕ) (g g' : PoolState E A W) where
  pub fewer_seen : SameSeen z words words' g g' → Fewer z (heap z words g.status) (heap z words' g'.status)
  fewer_seen s = record {
    used_was = s.used_was;
    linked_was = s.linked_was;
    attached_on = s.attached_on;
    keys = λ n is_n u. s.cells n 0 is_n (omega arith) u;
    values = λ n is_n u. ap₂ value_by (s.cells n 1 is_n (omega arith) u) (s.cells n 4 is_n (omega arith) u);
    valid_links = λ n is_n u _. s.cells n 2 is_n (omega arith) u;
    flags = λ n is_n u. ap flag_bit (s.cells n 2 is_n (omega arith) u);
    tags = λ n is_n u. ap tag_bit (s.cells n 2 is_n (omega arith) u);
    heads = s.heads;
  }

  pub fewer_invalid : (n side : ℕ) → side < 1 → Invalidates z words words' g g' n side
      → Fewer z (heap z words g.status) (heap z words' g'.status)
  fewer_invalid n side lt i = record {
    used_was = λ m u. subst IsUsed (i.status m) u;
    linked_was = λ m _. i.status m;
    attached_on = λ m st. i.status m ∙ st;
    keys = λ m is_m _. i.others m 0 is_m (omega arith) (λ y. let e = y.1 in omega arith);
    values = λ m is_m _. ap₂ value_by (i.others m 1 is_m (omega arith) (λ y. let e = y.1 in omega arith))
        (i.others m 4 is_m (omega arith) (λ y. let e = y.1 in omega arith));
    valid_links = λ m is_m _ ok. dite (ℕ_discrete m n)
        (λ at. let bad = here_invalid m at in absurd (omega arith))
        (λ ne. i.others m 2 is_m (omega arith) (λ y. ne y.0));
    flags = λ m is_m _. dite (ℕ_discrete m n) (λ at. flag_of (cell_word words z m 2) (cell_word words' z m 2) (here_stays m at))
        (λ ne. ap flag_bit (i.others m 2 is_m (omega arith) (λ y. ne y.0)));
    tags = λ m is_m _. dite (ℕ_discrete m n) (λ at. tag_of (cell_word words z m 2) (cell_word words' z m 2) (here_stays m at))
        (λ ne. ap tag_bit (i.others m 2 is_m (omega arith) (λ y. ne y.0)));
    heads = i.heads;
  }
    where
      zero_side : side ≡ 0
      zero_side = omega arith

      here_invalid : (m : ℕ) → m ≡ n → invalid_bit (cell_word words' z m 2) ≡ 1
      here_invalid m at = subst (λ (k : ℕ). invalid_bit (cell_word words' z k 2) ≡ 1) (sym at)
          (subst (λ (k : ℕ). invalid_bit (cell_word words' z n (2 + k)) ≡ 1) zero_side i.invalid)

      here_stays : (m : ℕ) → m ≡ n → Stays (cell_word words z m 2) (cell_word words' z m 2)
      here_stays m at = subst (λ (k : ℕ). Stays (cell_word words z k 2) (cell_word words' z k 2)) (sym at)
          (subst (λ (k : ℕ). Stays (cell_word words z n (2 + k)) (cell_word words' z n (2 + k))) zero_side i.here)

      flag_of : (was now : ℕ) → Stays was now → flag_bit now ≡ flag_bit was
      flag_of was now s = ⊎_elim (λ (e : now ≡ was). ap flag_bit e)
          (λ (y : (invalid_bit was ≡ 0) × (now ≡ was + 4)). let e = y.1 in omega arith) s

      tag_of : (was now : ℕ) → Stays was now → tag_bit now ≡ tag_bit was
      tag_of was now s = ⊎_elim (λ (e : now ≡ was). ap tag_bit e)
          (λ (y : (invalid_bit was ≡ 0) × (now ≡ was + 4)). let e = y.1 in omega arith) s
