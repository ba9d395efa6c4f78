-- One step of a pass that is alone on its pool: a word is left at one place, and what can be reached then.
use Rattle.std.proofs.Common.{◌≡◌, ◌≢◌, ℕ, zero, suc, ◌+◌, ◌<◌, ◌⊎◌, inl, inr, ⊎_elim, List, [], ◌∷◌, ◌++◌, get_or, set, refl}
use Rattle.std.proofs.Common.{sym, ap, ◌∙◌, subst, arith, append_assoc}
use Rattle.std.proofs.Math.Decide.{ℕ_discrete}
use Rattle.std.proofs.lemmas.List.{get_or-set_other}
use mathlib.Core.Logic.{dite}
use Rattle.pp_link.specs.declared.layout.Sizes.{Sizes}
use Rattle.pp_link.specs.Links.{target}
use Rattle.pp_link.specs.Places.{IsNumber, head_place, cell_place}
use Rattle.pp_link.specs.Words.{head_word, cell_word}
use Rattle.pp_rule.specs.Alone.{IsRun}
use Rattle.pp_rule.specs.Lists.{IsIn, BeginsWith}
use Rattle.pp_rule.specs.Orders.{LoggedStep, replayed, entries_of}
use Rattle.pp_rule.specs.Reached.{Reached}
use Rattle.pp_rule.specs.Reached.Reached.{by_head, by_link}
use Rattle.pp_rule.specs.Rule.{Base}
use Rattle.pp_rule.specs.States.{PoolState, RecordState, attached, Leads}
use Rattle.pp_rule.specs.Steps.{MadeStep, entry}
use Rattle.pp_rule.specs.Views.{PassState, SeatView}
use Rattle.pp_rule.proofs.Alone.{none_further}
use Rattle.pp_rule.proofs.Histories.{replayed_more}
use Rattle.pp_rule.proofs.Put.{in_left}
use Rattle.pp_rule.proofs.Reaching.{reached_attached}
use Rattle.pp_rule.proofs.Undisturbed.{run_front}

module _ {E A W : Type 0} (sides : ℕ) (caller : E → ℕ) (opens : List ℕ) (z : Sizes) where
  -- what a pass had seen earlier was a run
  pub run_back : (v w : SeatView E A W) → BeginsWith w.order v.order → IsRun sides caller opens z w.order → IsRun sides caller opens z
      v.order
  run_back v w begins run = run_front sides caller opens z v.order begins.0
      (subst (λ (o : List (LoggedStep E A)). IsRun sides caller opens z o) begins.1 run)

  -- what it had seen before a step was one
  pub run_before : {kind place word left : ℕ} {changes : List E} {placed : List A} (known : PassState W) (v u : SeatView E A W)
      → MadeStep kind place word left changes placed known v u → IsRun sides caller opens z u.order → IsRun sides caller opens z v.order
  run_before {kind} {place} {word} {left} {changes} {placed} known v u made run =
      let e : LoggedStep E A = entry kind place word left changes placed made.so_far known in
      run_back v u (
        made.begins.0 ++ e ∷ [],
        ap (λ (w : SeatView E A W). w.order) made.is
            ∙ (ap (λ (o : List (LoggedStep E A)). o ++ e ∷ []) made.begins.1 ∙ append_assoc v.order made.begins.0 (e ∷ [])),
      ) run

  -- After a step the words are those before, but for that one.
  pub step_words : {kind place word left : ℕ} {changes : List E} {placed : List A} (known : PassState W) (v u : SeatView E A W)
      → z.passes ≡ 1 → v.known.number < z.passes → IsRun sides caller opens z u.order → MadeStep kind place word left changes placed known v
      u
      → replayed opens (entries_of u.order) ≡ set (replayed opens (entries_of v.order)) place left
  step_words {kind} {place} {word} {left} {changes} {placed} known v u one low run made =
      let e : LoggedStep E A = entry kind place word left changes placed made.so_far known in
      let is : u.order ≡ made.so_far ++ e ∷ [] = ap (λ (x : SeatView E A W). x.order) made.is in
      let same : made.so_far ≡ v.order = none_further z.passes v.known.number made.so_far v.order one low made.begins (sym made.own_steps)
      (λ s i. run.made s (subst (λ (l : List (LoggedStep E A)). IsIn s l) (sym is) (in_left s made.so_far (e ∷ []) i))) in
      ap (λ (o : List (LoggedStep E A)). replayed opens (entries_of o)) (is ∙ ap (λ (o : List (LoggedStep E A)). o ++ e ∷ []) same)
      ∙ replayed_more opens v.order e

-- each word is the one that was set, or is as it was
pub set_either : (words : List ℕ) (place x q : ℕ) → (get_or (set words place x) q 0 ≡ x) ⊎ (get_or (set words place x) q 0 ≡ get_or words q
    0)
set_either words place x q = dite (ℕ_discrete q place)
    (λ e. subst (λ (p : ℕ). (get_or (set words place x) p 0 ≡ x) ⊎ (get_or (set words place x) p 0 ≡ get_or words p 0)) (sym e)
    (here words place)) (λ ne. inr (get_or-set_other words place q x 0 ne))
  where
    here : (ws : List ℕ) (p : ℕ) → (get_or (set ws p x) p 0 ≡ x) ⊎ (get_or (set ws p x) p 0 ≡ get_or ws p 0)
    here [] p = inr refl
    here (w ∷ ws) zero = inl refl
    here (w ∷ ws) (suc p) = here ws p

module _ (z : Sizes) (words : List ℕ) where
  pub field_either : (place x n f : ℕ) → (cell_word (set words place x) z n f ≡ x) ⊎ (cell_word (set words place x) z n f ≡ cell_word words
      z n f)
  unfolding cell_word
  field_either place x n f = set_either words place x (cell_place z n f)

  pub head_either : (place x h : ℕ) → (head_word (set words place x) z h ≡ x) ⊎ (head_word (set words place x) z h ≡ head_word words z h)
  unfolding head_word
  head_either place x h = set_either words place x (head_place z h)

  -- a field where nothing was set is as it was
  pub field_other : (x n f m g : ℕ) → IsNumber z n → f < 5 → IsNumber z m → g < 5 → ((n ≡ m) × (f ≡ g) → ⊥)
      → cell_word (set words (cell_place z m g) x) z n f ≡ cell_word words z n f
  unfolding cell_word
  field_other x n f m g is_n low_f is_m low_g ne = get_or-set_other words (cell_place z m g) (cell_place z n f) x 0
      (λ e. ne (let one = is_n.0 in let one' = is_m.0 in (omega arith, omega arith)))

  -- so are the heads where a field was set
  pub head_other : (x m f h : ℕ) → IsNumber z m → h < z.heads → head_word (set words (cell_place z m f) x) z h ≡ head_word words z h
  unfolding head_word
  head_other x m f h is low = get_or-set_other words (cell_place z m f) (head_place z h) x 0 (λ e. let one = is.0 in omega arith)

  -- a field is the word at its place
  pub field_is : (n f : ℕ) → get_or words (cell_place z n f) 0 ≡ cell_word words z n f
  unfolding cell_word
  field_is n f = refl

module _ (sides : ℕ) (z : Sizes) (words : List ℕ) where
  -- What can be reached after a word was set has each property that what could be reached has, and that goes on along links.
  pub reached_set : (place x : ℕ) (P : ℕ → Type 0) → ((n : ℕ) → Reached sides z words n → P n) → P (target x)
      → ((m s : ℕ) → IsNumber z m → s < sides → P m → P (target (cell_word words z m (2 + s))))
      → (n : ℕ) → Reached sides z (set words place x) n → P n
  reached_set place x P was there on n (by_head h low to) = subst P to (⊎_elim
      (λ (e : head_word (set words place x) z h ≡ x). subst (λ (w : ℕ). P (target w)) (sym e) there)
      (λ (e : head_word (set words place x) z h ≡ head_word words z h). subst (λ (w : ℕ). P (target w)) (sym e)
      (was (target (head_word words z h)) (by_head h low refl))) (head_either z words place x h))
  reached_set place x P was there on n (by_link m s is low to r) = let before : P m = reached_set place x P was there on m r in
      subst P to (⊎_elim
      (λ (e : cell_word (set words place x) z m (2 + s) ≡ x). subst (λ (w : ℕ). P (target w)) (sym e) there)
      (λ (e : cell_word (set words place x) z m (2 + s) ≡ cell_word words z m (2 + s)). subst (λ (w : ℕ). P (target w)) (sym e)
      (on m s is low before)) (field_either z words place x m (2 + s)))

  -- a record to which a link of a record leads that can be reached
  pub reached_next : (m s : ℕ) → IsNumber z m → s < sides → Reached sides z words m → Reached sides z words
      (target (cell_word words z m (2 + s)))
  reached_next m s is low r = by_link m s is low refl r

  -- Where each link leads where it led, what could be reached can be reached.
  pub reached_led : (words' : List ℕ) → ((h : ℕ) → h < z.heads → target (head_word words' z h) ≡ target (head_word words z h))
      → ((m s : ℕ) → IsNumber z m → s < sides → target (cell_word words' z m (2 + s)) ≡ target (cell_word words z m (2 + s))) → (n : ℕ)
      → Reached sides z words n → Reached sides z words' n
  reached_led words' heads cells n (by_head h low to) = by_head h low (heads h low ∙ to)
  reached_led words' heads cells n (by_link m s is low to r) = by_link m s is low (cells m s is low ∙ to) (reached_led words' heads cells m
      r)

-- what a link leads to that leads somewhere is a record
led_on : (z : Sizes) (status : ℕ → RecordState) (w n : ℕ) → Leads z status w → target w ≡ n → n ≢ 0 → IsNumber z n
led_on z status w n l to some = ⊎_elim (λ (nil : target w ≡ 0). absurd (some (sym to ∙ nil)))
    (λ (t : IsNumber z (target w) × (status (target w) ≡ attached)). subst (IsNumber z) to t.0) l.to

module _ {E A W : Type 0} (sides : ℕ) (z : Sizes) (words : List ℕ) (g : PoolState E A W) (b : Base sides z words g) where
  -- so is what can be reached
  pub led_number : (n : ℕ) → n ≢ 0 → Reached sides z words n → IsNumber z n
  led_number n some (by_head h low to) = led_on z g.status (head_word words z h) n (b.links.heads h low) to some
  led_number n some (by_link m s is low to r) = led_on z g.status (cell_word words z m (2 + s)) n
      (b.links.linked m s is low (reached_attached sides z words g b m is r)) to some
