-- What a pass knows after a step of its own.
use Rattle.std.proofs.Common.{◌≡◌, ℕ, ◌+◌, List, [], ◌∷◌, ◌++◌, length, refl, sym, ap, ◌∙◌, subst, length-append}
use Rattle.pp_rule.specs.Lists.{BeginsWith}
use Rattle.pp_rule.specs.Orders.{LoggedStep, log_of, made_by, placed_by}
use Rattle.pp_rule.specs.Views.{PassState, SeatView}
use Rattle.pp_rule.specs.Steps.{entry, alone, MadeStep}
use Rattle.pp_rule.proofs.Histories.{begins_more, log_begins, log_snoc, made_here, placed_here, placed_kept}

module _ {E A W : Type 0} (kind place word left : ℕ) (changes : List E) (placed : List A) (known : PassState W) (v w : SeatView E A W) where
  pub known_after : MadeStep kind place word left changes placed known v w → w.known ≡ known
  known_after m = ap (λ u. u.known) m.is

  pub alone_after : MadeStep kind place word left changes placed known v w → w ≡ alone w.order w.known
  alone_after m = subst (λ (u : SeatView E A W). u ≡ alone u.order u.known) (sym m.is) refl

  -- the order grew, and with it the log that the pass has seen
  pub order_begins : MadeStep kind place word left changes placed known v w → BeginsWith w.order v.order
  order_begins m = subst (λ (u : SeatView E A W). BeginsWith u.order v.order) (sym m.is)
      (begins_more m.so_far v.order (entry kind place word left changes placed m.so_far known ∷ []) m.begins)

  pub seen_begins : MadeStep kind place word left changes placed known v w → BeginsWith (log_of w.order) (log_of v.order)
  seen_begins m = log_begins w.order v.order (order_begins m)

  -- its steps grew by this one, which tells how much of the log was seen at it
  pub steps_after : MadeStep kind place word left changes placed known v w → known.number ≡ v.known.number
      → made_by v.known.number w.order ≡ made_by v.known.number v.order
      ++ record { kind = kind; place = place; word = word; seen = length (log_of w.order); owned = length known.owned } ∷ []
  steps_after m number = let s : LoggedStep E A = entry kind place word left changes placed m.so_far known in
      let grown : List (LoggedStep E A) = m.so_far ++ s ∷ [] in
      let order : w.order ≡ grown = ap (λ u. u.order) m.is in
      let seen : length (log_of m.so_far) + length changes ≡ length (log_of w.order) =
      sym (ap (λ o. length (log_of o)) order ∙ (ap (λ l. length l) (log_snoc m.so_far s) ∙ length-append (log_of m.so_far) changes)) in
      ap (made_by v.known.number) order
      ∙ (subst (λ (p : ℕ). made_by p grown ≡ made_by p m.so_far ++ s.entry.step ∷ []) number (made_here m.so_far s)
      ∙ (ap (λ l. l ++ s.entry.step ∷ []) m.own_steps
      ∙ ap (λ (n : ℕ). made_by v.known.number v.order
      ++ record { kind = kind; place = place; word = word; seen = n; owned = length known.owned } ∷ []) seen))

  -- its placed calls grew by those that were placed at the step
  pub placed_after : MadeStep kind place word left changes placed known v w → known.number ≡ v.known.number
      → placed_by v.known.number w.order ≡ placed_by v.known.number v.order ++ placed
  placed_after m number = let s : LoggedStep E A = entry kind place word left changes placed m.so_far known in
      let grown : List (LoggedStep E A) = m.so_far ++ s ∷ [] in
      ap (placed_by v.known.number) (ap (λ u. u.order) m.is)
      ∙ (subst (λ (p : ℕ). placed_by p grown ≡ placed_by p m.so_far ++ placed) number (placed_here m.so_far s)
      ∙ ap (λ l. l ++ placed) (placed_kept v.known.number m.so_far v.order m.begins m.own_steps))

  -- the log that it has seen grew by what others did, and then by the changes that took effect at the step
  pub seen_after_step : (m : MadeStep kind place word left changes placed known v w) → log_of w.order ≡ log_of m.so_far ++ changes
  seen_after_step m = ap (λ u. log_of u.order) m.is ∙ log_snoc m.so_far (entry kind place word left changes placed m.so_far known)
