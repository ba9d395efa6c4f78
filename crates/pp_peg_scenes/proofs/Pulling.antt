-- What a pass knows as it pulls out a peg.
use Rattle.std.proofs.Common.{◌≡◌, ℕ, ◌*◌, ◌≤◌, ◌&&◌, Bool, true, cond, [], ◌∷◌, length, refl, sym, ap, ◌∙◌, subst}
use Rattle.std.proofs.Common.{arith, eq-eqb}
use Rattle.atomic_table.specs.declared.shared.Seat.{Seat}
use Rattle.pp_link.specs.declared.layout.Sizes.{Sizes}
use Rattle.pp_link.specs.Links.{flag_bit}
use Rattle.pp_link.specs.Places.{head_place}
use Rattle.pp_rule.specs.declared.views.WalkSlot.{WalkSlot}
use Rattle.pp_rule.specs.declared.views.PassState.{PassState}
use Rattle.pp_rule.specs.declared.views.SeatView.{SeatView}
use Rattle.pp_rule.specs.Views.{slot}
use Rattle.pp_rule.specs.Steps.{with_walk}
use Rattle.pp_rule.specs.Lists.{IsIn}
use Rattle.pp_rule.proofs.Slots.{slot_here}
use Rattle.pp_rule.proofs.Made.{known_after}
use Rattle.pp_base.specs.declared.source.Side.TheVariants.{Left}
use Rattle.pp_base.specs.declared.source.Place.TheVariants.{Walk}
use Rattle.pp_base.specs.Passes.{known}
use Rattle.pp_base.specs.Made.{LoadedAt}
use Rattle.pp_base.specs.Sources.{learning_at}
use Rattle.pp_base.specs.Row.{has_flag, Learnt}
use Rattle.pp_peg_scenes.specs.Pegs.{next_peg, peg_link, MayPull}

module _ {W : Type 0} where
  -- what the pass knows once the link of the peg in its first walk word was read as this word
  abbrev learning_link : ℕ → PassState W → PassState W
  learning_link word q = with_walk 0 (record (slot q 0) { learnt = (0, word) ∷ (slot q 0).learnt }) q

  link_learnt : (word : ℕ) (q : PassState W) → has_flag word ≡ true → (slot q 0).held ≡ true
      → learning_at has_flag (Walk 0) Left word q ≡ learning_link word q
  link_learnt word q flag held = ap (λ (b : Bool). cond (b && (slot q 0).held) (learning_link word q) q) flag
      ∙ ap (λ (b : Bool). cond b (learning_link word q) q) held

  -- the peg is held, and its link is learnt
  peg_learnt : (q : PassState W) (n word : ℕ) → length q.walk ≡ 5 → (slot q 0).held ≡ true → (slot q 0).named ≡ n
      → Learnt (learning_link word q).walk n word
  peg_learnt q n word five held named = record {
    index = 0;
    index_low = omega arith;
    held = ap (λ (w : WalkSlot). w.held) here ∙ held;
    named = ap (λ (w : WalkSlot). w.named) here ∙ named;
    learnt = subst (λ (w : WalkSlot). IsIn {A = ℕ × ℕ} (0, word) w.learnt) (sym here) (0, refl);
  }
    where
      here : slot (learning_link word q) 0 ≡ record (slot q 0) { learnt = (0, word) ∷ (slot q 0).learnt }
      here = slot_here q (learning_link word q) 0 (record (slot q 0) { learnt = (0, word) ∷ (slot q 0).learnt }) refl
          (omega arith)

-- the link of a peg has FLAG
peg_flag : (n : ℕ) → has_flag (peg_link n) ≡ true
peg_flag n = eq-eqb (flag_bit (peg_link n)) 1 (omega arith)

module _ {E A W : Type 0} where
  learnt_then : (z : Sizes) (word : ℕ) (s s' : Seat Unit (SeatView E A W)) → LoadedAt z has_flag (Walk 0) Left word s s'
      → has_flag word ≡ true → (slot (known s) 0).held ≡ true → known s' ≡ learning_link word (known s)
  learnt_then z word s s' loaded flag held =
      known_after _ _ _ _ [] [] (learning_at has_flag (Walk 0) Left word (known s)) s.me.0 s'.me.0 loaded.made
      ∙ link_learnt word (known s) flag held

  -- A pass that holds the peg in its first walk word and has read its link may lead the head past it.
  pub may_pull : (z : Sizes) (peg first new word : ℕ) (s s' : Seat Unit (SeatView E A W)) → length (known s).walk ≡ 5
      → LoadedAt z has_flag (Walk 0) Left word s s' → word ≡ peg_link peg → (slot (known s) 0).held ≡ true
      → (slot (known s) 0).named ≡ peg
      → 1 ≤ peg → peg ≤ 5 → first ≡ 16 * peg → new ≡ 16 * next_peg peg → MayPull z (known s').walk (head_place z 0) first new
  may_pull z peg first new word s s' five loaded is held named some_is few first_is new_is = record {
    peg = peg;
    some_is = some_is;
    few = few;
    place_is = refl;
    first_is = first_is;
    new_is = new_is;
    learnt = subst (λ (k : ℕ). Learnt (known s').walk peg k) is
        (subst (λ (q : PassState W). Learnt q.walk peg word)
        (sym (learnt_then z word s s' loaded (ap has_flag is ∙ peg_flag peg) held))
        (peg_learnt (known s) peg word five held named));
  }
