-- Where a pool has one pass, the words between two of its steps stand still: each step tells what the rule says of the words that
-- the order leaves that the pass has seen.
use Rattle.std.proofs.Common.{◌≡◌, ℕ, ◌+◌, ◌<◌, Bool, true, false, cond, List, [], ◌∷◌, ◌++◌, length, get_or, set, refl, sym, ap}
use Rattle.std.proofs.Common.{◌∙◌, subst}
use Rattle.std.proofs.Common.{append-nil, length-append, append_assoc, arith, ⊎_elim}
use Rattle.std.proofs.lemmas.List.{nil_from_length}
use Rattle.atomic_table.specs.Table.{Me, Allows, State}
use Rattle.atomic_table.proofs.Lists.{set_here}
use Rattle.pp_link.specs.declared.layout.Sizes.{Sizes}
use Rattle.pp_rule.specs.Lists.{IsIn, BeginsWith}
use Rattle.pp_rule.specs.Orders.{LoggedStep, OrderEntry, replayed, FindsWord, IsExecution, entries_of, log_of, made_by, stores}
use Rattle.pp_rule.specs.Views.{PassState, SeatView, all_of}
use Rattle.pp_rule.specs.States.{PoolState}
use Rattle.pp_rule.specs.Rule.{Base}
use Rattle.pp_rule.specs.Ties.{TiedPass, Tied, Runs, Holds, GoAside}
use Rattle.pp_rule.specs.Steps.{entry, alone, IsAlone, MadeStep}
use Rattle.pp_rule.specs.Alone.{SeesAll, IsRun, IsOwnStep, HasOwnChanges, HasSeen}
use Rattle.pp_rule.proofs.Put.{in_nil, in_first, in_right, in_left, in_cases, at_below}
use Rattle.pp_rule.proofs.Histories.{made_append, entries_append}
use Rattle.pp_rule.proofs.Seats.{none_made}

module _ {E A : Type 0} where
  -- an order with no further step of the one pass is no longer
  pub none_further : (passes p : ℕ) (longer first : List (LoggedStep E A)) → passes ≡ 1 → p < passes → BeginsWith longer first
      → made_by p first ≡ made_by p longer → ((s : LoggedStep E A) → IsIn s longer → s.entry.pass < passes) → longer ≡ first
  none_further passes p longer first one low begins same made =
      let rest : List (LoggedStep E A) = begins.0 in
      let sum : length (made_by p longer) ≡ length (made_by p first) + length (made_by p rest) =
      ap (λ o. length (made_by p o)) begins.1 ∙ (ap (λ l. length l) (made_append p first rest)
      ∙ length-append (made_by p first) (made_by p rest)) in
      let long : length (made_by p first) ≡ length (made_by p longer) = ap (λ l. length l) same in
      let no_step : made_by p rest ≡ [] = nil_from_length (made_by p rest) (omega arith) in
      let none : rest ≡ [] = none_made rest (λ s i.
      let below : s.entry.pass < passes =
      made s (subst (λ (l : List (LoggedStep E A)). IsIn s l) (sym begins.1) (in_right s first rest i)) in
      let own : p ≡ s.entry.pass = omega arith in
      subst (λ (n : ℕ). made_by n rest ≡ []) own no_step) in
      begins.1 ∙ (ap (λ l. first ++ l) none ∙ append-nil first)

module _ {E A : Type 0} where
  -- a change of a step stands in the log
  pub in_log : (order : List (LoggedStep E A)) (s : LoggedStep E A) → IsIn s order → (c : E) → IsIn c s.entry.changes
      → IsIn c (log_of order)
  unfolding log_of entries_of
  in_log [] s i c here = absurd (in_nil s i)
  in_log (t ∷ order) s i c here = ⊎_elim
      (λ (e : s ≡ t). in_left c t.entry.changes (log_of order) (subst (λ (x : LoggedStep E A). IsIn c x.entry.changes) e here))
      (λ (later : IsIn s order). in_right c t.entry.changes (log_of order) (in_log order s later c here)) (in_cases s t order i)

  -- where the log is empty, no step has a change
  pub none_logged : (caller : E → ℕ) (order : List (LoggedStep E A)) → log_of order ≡ [] → (s : LoggedStep E A)
      → IsIn s order → IsOwnStep caller s
  none_logged caller order none s i c here = absurd (in_nil c (subst (λ (l : List E). IsIn c l) none (in_log order s i c here)))

module _ {E : Type 0} where
  -- each step of an execution found the word that stood there
  finds_each : (opens : List ℕ) (seen : ℕ) (es before after : List (OrderEntry E)) (e : OrderEntry E) → es ≡ before ++ e ∷ after
      → IsExecution stores opens seen es → FindsWord stores (replayed opens before) e
  finds_each opens seen es before after e is run = at_end before opens seen (subst (λ l. IsExecution stores opens seen l) is run)
    where
      at_end : (before : List (OrderEntry E)) (opens : List ℕ) (seen : ℕ) → IsExecution stores opens seen (before ++ e ∷ after)
          → FindsWord stores (replayed opens before) e
      at_end [] opens seen run = run.0
      at_end (x ∷ before) opens seen run = at_end before (set opens x.step.place x.left) (seen + length x.changes) run.2

module _ {E A : Type 0} where
  entries_middle : (before after : List (LoggedStep E A)) (s : LoggedStep E A)
      → entries_of (before ++ s ∷ after) ≡ entries_of before ++ s.entry ∷ entries_of after
  unfolding entries_of
  entries_middle before after s = entries_append before (s ∷ after)

  -- what was seen of a run is one
  pub run_seen : (sides : ℕ) (caller : E → ℕ) (opens words : List ℕ) (z : Sizes) (all order : List (LoggedStep E A)) → BeginsWith all order
      → Runs opens words all → ((s : LoggedStep E A) → IsIn s all → s.entry.pass < z.passes)
      → ((s : LoggedStep E A) → IsIn s all → IsOwnStep caller s) → GoAside sides z opens all
      → IsRun sides caller opens z order
  run_seen sides caller opens words z all order begins runs made own aside = record {
    finds = λ before after s is.
        let split : all ≡ before ++ s ∷ (after ++ begins.0) =
        begins.1 ∙ (ap (λ l. l ++ begins.0) is ∙ append_assoc before (s ∷ after) begins.0) in
        finds_each opens 0 (entries_of all) (entries_of before) (entries_of (after ++ begins.0)) s.entry
        (ap entries_of split ∙ entries_middle before (after ++ begins.0) s) runs.finds;
    kept = λ s i. runs.kept s (in_all s i);
    made = λ s i. made s (in_all s i);
    own = λ s i. own s (in_all s i);
    aside = λ before after s is. aside before (after ++ begins.0) s
        (begins.1 ∙ (ap (λ l. l ++ begins.0) is ∙ append_assoc before (s ∷ after) begins.0));
  }
    where
      in_all : (s : LoggedStep E A) → IsIn s order → IsIn s all
      in_all s i = subst (λ (l : List (LoggedStep E A)). IsIn s l) (sym begins.1) (in_left s order begins.0 i)

module _ {E A W : Type 0} (sides : ℕ) (opens : Sizes → List ℕ) (addition : Sizes → List ℕ → PoolState E A W → Type 0) (z : Sizes) where
  -- what is true where a seat has seen all steps is known of the seat of the one pass
  all_seen : z.passes ≡ 1 → (Q : SeatView E A W → Type 0) → SeesAll sides opens addition z Q
      → (words : List ℕ) (g : PoolState E A W)
      (seat_of : ℕ → ℕ) (j : ℕ) (v : SeatView E A W)
      → v ≡ alone v.order v.known → Tied z g seat_of j v → ((s : LoggedStep E A) → IsIn s g.order → s.entry.pass < z.passes)
      → Runs (opens z) words g.order → Base sides z words g → addition z words g → Q v
  all_seen one Q sees words g seat_of j v lone tied made runs base added =
      let here : IsIn v.known (all_of v) = subst (λ (u : SeatView E A W). IsIn v.known (all_of u)) (sym lone) (0, refl) in
      let mine : TiedPass z g seat_of j v.order v.known = tied.each v.known here in
      sees words g v base added runs made
      (none_further z.passes v.known.number g.order v.order one mine.number tied.begins mine.steps made) mine.is

  -- Before and after each step of the one pass.
  pub tells_alone : z.passes ≡ 1 → (Q : SeatView E A W → Type 0) → SeesAll sides opens addition z Q → (slots id : ℕ)
      (me : Me Unit (SeatView E A W)) (place : ℕ) (change : ℕ → ℕ) (then : ℕ → Me Unit (SeatView E A W) → Type 0) → IsAlone me
      → ((n : ℕ) (m : Me Unit (SeatView E A W)) → then n m → IsAlone m)
      → Allows (Holds sides opens addition z) slots id me place change then
      → Allows (Holds sides opens addition z) slots id me place change (λ n m. then n m × (Q me.0 × Q m.0))
  tells_alone one Q sees slots id me place change then lone still a = λ s h deep at fits. let r = a s h deep at fits in
      let w : SeatView E A W = r.0 in
      let after = r.3 in
      let said = r.4 in
      let alone_after : IsAlone (w, _) = still (get_or s.words place 0) (w, _) said in
      let was : Q me.0 = all_seen one Q sees s.words h.pool h.ties.seat_of id me.0 lone.1
      (h.ties.each_seat id me.0 at) h.ties.made h.runs
      h.base h.added in
      let is : Q w = all_seen one Q sees _ after.pool after.ties.seat_of id w alone_after.1
      (after.ties.each_seat id w (set_here s.views id w
      (at_below s.views id me.0 at))) after.ties.made after.runs after.base after.added in
      (w, r.1, r.2, after, (said, (was, is)))

  -- The word that a step of the one pass found is the one that the pass's own order left there.
  pub finds_standing : {kind place word left : ℕ} {changes : List E} {placed : List A} {caller : E → ℕ}
      (known : PassState W) (before after : SeatView E A W)
      → z.passes ≡ 1 → before.known.number < z.passes → MadeStep kind place word left changes placed known before after
      → IsRun sides caller (opens z) z after.order → stores kind ≡ false
      → word ≡ get_or (replayed (opens z) (entries_of before.order)) place 0
  finds_standing {kind} {place} {word} {left} {changes} {placed} {caller} known before after one low made run loads =
      let e : LoggedStep E A = entry kind place word left changes placed made.so_far known in
      let is : after.order ≡ made.so_far ++ e ∷ [] = ap (λ (u : SeatView E A W). u.order) made.is in
      let same : made.so_far ≡ before.order =
      none_further z.passes before.known.number made.so_far before.order one low made.begins
      (sym made.own_steps) (λ s i. run.made s
      (subst (λ (l : List (LoggedStep E A)). IsIn s l) (sym is) (in_left s made.so_far (e ∷ []) i))) in
      (run.finds made.so_far [] e is).found loads
      ∙ ap (λ o. get_or (replayed (opens z) (entries_of o)) place 0) same

  -- What a seat that stands for a pass has seen, by the rule that holds then: a run of this pool, and where there is one pass the
  -- rule of the words that its order leaves.
  pub has_seen : (caller : E → ℕ) → HasOwnChanges addition caller → (s : State Unit (SeatView E A W)) → (id : ℕ) (w : SeatView E A W)
      → (h : Holds sides opens addition z s) → Tied z h.pool h.ties.seat_of id w → w.standing ≡ true → HasSeen sides opens addition caller w
  has_seen caller owns s id w h tied standing =
      let g : PoolState E A W = h.pool in
      let all_w : all_of w ≡ w.known ∷ w.taken = ap (λ (b : Bool). cond b (w.known ∷ w.taken) []) standing in
      let mine : TiedPass z g h.ties.seat_of id w.order w.known =
      tied.each w.known (subst (λ (l : List (PassState W)). IsIn w.known l) (sym all_w) (in_first w.known w.taken)) in
      let run : IsRun sides caller (opens z) z w.order =
      run_seen sides caller (opens z) s.words z g.order w.order tied.begins h.runs h.ties.made (owns z s.words g h.added) h.aside in
      record {
        run = subst (λ (y : Sizes). IsRun sides caller (opens y) y w.order) (sym mine.sizes) run;
        whole = λ one none.
            let order : g.order ≡ w.order = none_further z.passes w.known.number g.order w.order
            (sym (ap (λ (y : Sizes). y.passes) mine.sizes) ∙ one) mine.number tied.begins mine.steps h.ties.made in
            let left : s.words ≡ replayed (opens w.known.sizes) (entries_of w.order) = sym h.runs.leaves
            ∙ (ap (λ (y : Sizes). replayed (opens y) (entries_of g.order)) (sym mine.sizes)
            ∙ ap (λ (o : List (LoggedStep E A)). replayed (opens w.known.sizes) (entries_of o)) order) in
            none record {
              pool = g;
              base = subst (λ (words : List ℕ). Base sides w.known.sizes words g) left
                  (subst (λ (y : Sizes). Base sides y s.words g) (sym mine.sizes) h.base);
              added = subst (λ (words : List ℕ). addition w.known.sizes words g) left
                  (subst (λ (y : Sizes). addition y s.words g) (sym mine.sizes) h.added);
              order = order;
              known_is = mine.is;
            };
      }

  -- After each step of a seat that stands for a pass.
  pub tells_seen : (caller : E → ℕ) → HasOwnChanges addition caller → (slots id : ℕ) (me : Me Unit (SeatView E A W))
      (place : ℕ) (change : ℕ → ℕ) (then : ℕ → Me Unit (SeatView E A W) → Type 0)
      → Allows (Holds sides opens addition z) slots id me place change then
      → Allows (Holds sides opens addition z) slots id me place change
      (λ n m. then n m × (m.0.standing ≡ true → HasSeen sides opens addition caller m.0))
  tells_seen caller owns slots id me place change then a = λ s h deep at fits. let r = a s h deep at fits in
      let w : SeatView E A W = r.0 in
      let after = r.3 in
      let tied : Tied z after.pool after.ties.seat_of id w =
      after.ties.each_seat id w (set_here s.views id w (at_below s.views id me.0 at)) in (
        w,
        r.1,
        r.2,
        after,
        (r.4, λ standing. has_seen caller owns _ id w after tied standing),
      )
