-- What a pass has beside its seat agrees with what the seat knows after the dummy came in hand.
use Rattle.std.proofs.Common.{◌≡◌, ℕ, ◌<◌, Bool, true, false, cond, eqb, ◌||◌, List, [], ◌∷◌}
use Rattle.std.proofs.Common.{length, take, refl, sym, ap, ◌∙◌}
use Rattle.std.proofs.Common.{arith, eq-eqb}
use Rattle.atomic_table.specs.declared.shared.Seat.{Seat}
use Rattle.pp_link.specs.declared.layout.Sizes.{Sizes}
use Rattle.pp_link.specs.Links.{target}
use Rattle.pp_rule.specs.declared.views.Chain.{Chain}
use Rattle.pp_rule.specs.declared.views.ChainLink.{ChainLink}
use Rattle.pp_rule.specs.Paths.{links_of, led_to, IsChained}
use Rattle.pp_base.specs.declared.purse.InHand.{InHand}
use Rattle.pp_base.specs.declared.purse.Purse.{Purse}
use Rattle.pp_base.specs.Chains.{TookInHand}
use Rattle.pp_base.specs.Passes.{known, in_hand_of, IsPassOf, Keeping}
use Rattle.pp_base.proofs.Chaining.{keeping_taken}
use Rattle.pp_base.proofs.Telling.{made_alone, made_known}
use Rattle.pp_queues.specs.Queues.{QueueView, dummy_chain}
use Rattle.pp_queues.specs.Turns.{resting, stand, taken, Took}

led_none : (x : ℕ) (l : ChainLink) → target l.word ≡ x → led_to x (l ∷ []) ≡ []
unfolding led_to
led_none x l e = ap (λ (b : Bool). cond (eqb (target l.word) 0 || b) [] (target l.word ∷ [])) (eq-eqb (target l.word) x e)
    ∙ by (eqb (target l.word) 0)
  where
    by : (a : Bool) → cond (a || true) [] (target l.word ∷ []) ≡ []
    by true = refl
    by false = refl

links_one : (n word : ℕ) → (n, 0) ∷ [] ≡ links_of 1 (n ∷ [])
unfolding links_of
links_one n word = refl

take_none : (ls : List ChainLink) → take 0 ls ≡ []
take_none ls = refl

-- a dummy alone is a chain in order
pub dummy_chained : (n guard word : ℕ) → IsChained 1 n (dummy_chain n guard word)
dummy_chained n guard word = record {
  links_are = links_one n word;
  records_are = ap (λ (ns : List ℕ). n ∷ ns) (sym (led_none (target word) (record { number = n; side = 0; word = word }) refl));
  reached = λ k lt. let none : k ≡ 0 = omega arith in omega arith;
  valid = λ l out i. out i;
}

pub keeping_took : (s s' : Seat Unit QueueView) (z : Sizes) (number share : ℕ) (walk : List ℕ) (p p' : Purse)
    (j guard place first new found : ℕ)
    (h : InHand) → Keeping 1 1 s number share walk p → s'.me.1 ≡ [] → IsPassOf z (known s')
    → in_hand_of (dummy_chain (stand (known s)) guard new) ≡ h
    → length (known s).chains < 4 → TookInHand h p p' → found ≡ first → Took j guard place first new found s.me.0 s'.me.0
    → Keeping 1 1 s' number share walk p'
keeping_took s s' z number share walk p p' j guard place first new found h k none pass kept few took hit t =
    let made = t.same hit in let is : known s' ≡ taken (stand (known s)) guard new (known s) = made_known s'.me made in
    let c : Chain = dummy_chain (stand (known s)) guard new in
    keeping_taken 1 1 s s' z number share walk p p' c h (resting (known s).own) k (made_alone s'.me none made) pass kept
    (dummy_chained (stand (known s)) guard new) few took is
