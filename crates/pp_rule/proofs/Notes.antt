-- A seat takes over what a note remembers, and learns that both orders begin that of all steps.
use Rattle.std.proofs.Common.{◌≡◌, ◌≢◌, ℕ, ◌<◌, ◌≤◌, Bool, true, cond, List, [], ◌∷◌, length, set, get_or, refl, sym, ap, ◌∙◌}
use Rattle.std.proofs.Common.{subst}
use Rattle.std.proofs.Common.{inl, inr, ⊎_elim, arith}
use Rattle.std.proofs.lemmas.Bool.{cases_lt}
use Rattle.std.proofs.Math.Seq.{set_out}
use Rattle.std.proofs.Math.Decide.{ℕ_discrete}
use mathlib.Core.Logic.{dite}
use mathlib.Core.Option.{some, some-injective}
use lib.ListN.{get_elem?}
use Rattle.atomic_table.specs.Table.{Me, Joins, Allows, keeps}
use Rattle.atomic_table.proofs.Lists.{at_set, set_here, set_else, set_again}
use Rattle.pp_link.specs.declared.layout.Sizes.{Sizes}
use Rattle.pp_rule.specs.Lists.{IsIn, BeginsWith, longer}
use Rattle.pp_rule.specs.Orders.{LoggedStep}
use Rattle.pp_rule.specs.Views.{PassState, SeatView, JoinedOrder, all_of}
use Rattle.pp_rule.specs.States.{PoolState}
use Rattle.pp_rule.specs.Rule.{Base}
use Rattle.pp_rule.specs.Ties.{TiedPass, TiedOrder, Tied, Ties, Runs, Holds}
use Rattle.pp_rule.specs.Steps.{order_of, spent_part, meeting_part, seeing, Learnt}
use Rattle.pp_rule.proofs.Put.{in_nil, in_first, in_cases, at_below, get_at}
use Rattle.pp_rule.proofs.Histories.{begins_self}
use Rattle.pp_rule.proofs.Seats.{longer_begins, longer_left, longer_full, made_between}

-- a word that is stored again
store_again : (words : List ℕ) (place : ℕ) → set words place (get_or words place 0) ≡ words
store_again words place = ⊎_elim
    (λ (low : place < length words). set_again words place (get_or words place 0) (get_at words place 0 low))
    (λ (high : length words ≤ place). set_out words place (get_or words place 0) high)
    (cases_lt place (length words))

module _ {E A W : Type 0} (sides : ℕ) (opens : Sizes → List ℕ) (addition : Sizes → List ℕ → PoolState E A W → Type 0) (z : Sizes) where
  -- A seat that stands for a pass may take over what another remembers, which then stands for none. Both orders begin that of all
  -- steps, so the longer one does, and has all steps of the passes of the first.
  pub meets : (id other : ℕ) (v w : SeatView E A W) (nobody : PassState W) → v.standing ≡ true
      → Joins (Holds sides opens addition z) id v other w (meeting_part v w) (spent_part nobody)
  meets id other v w nobody standing s h at differ at_other =
      let both : SeatView E A W = meeting_part v w in
      let spent : SeatView E A W = spent_part nobody in
      let g : PoolState E A W = h.pool in
      let t : Ties z s.views g = h.ties in
      let there : get_elem? s.views other ≡ some w = sym (set_else s.views id other both differ) ∙ at_other in
      let tv : Tied z g t.seat_of id v = t.each_seat id v at in
      let tw : Tied z g t.seat_of other w = t.each_seat other w there in
      let all_v : all_of v ≡ v.known ∷ v.taken = ap (λ (b : Bool). cond b (v.known ∷ v.taken) []) standing in
      let mine : TiedPass z g t.seat_of id v.order v.known =
      tv.each v.known (subst (λ (l : List (PassState W)). IsIn v.known l) (sym all_v) (in_first v.known v.taken)) in
      let deep : id < length s.views = at_below s.views id v at in
      let long : List (LoggedStep E A) = longer v.order w.order in
      let begins : BeginsWith g.order long = longer_begins g.order v.order w.order tv.begins tw.begins in
      let left : BeginsWith long v.order = longer_left g.order v.order w.order tv.begins tw.begins in
      let at_id : get_elem? (set (set s.views id both) other spent) id ≡ some both =
      set_else (set s.views id both) other id spent (λ same. differ (sym same)) ∙ set_here s.views id both deep in
      record {
        pool = g;
        ties = record {
          seat_of = t.seat_of;
          each_seat = λ j u is. ⊎_elim
              (λ (c : (j ≡ other) × (spent ≡ u)). subst (λ (u : SeatView E A W). Tied z g t.seat_of j u) c.1 record {
                begins = (g.order, refl);
                each = λ q i. absurd (in_nil q i);
                apart = λ k l x y at_k at_l e. absurd (in_nil x (k, at_k));
                kept = λ o i. absurd (in_nil o i);
                met = λ o i. absurd (in_nil o i);
              })
              (λ (c : (j ≢ other) × (get_elem? (set s.views id both) j ≡ some u)). ⊎_elim
              (λ (d : (j ≡ id) × (both ≡ u)). subst (λ (u : SeatView E A W). Tied z g t.seat_of j u) d.1
              (subst (λ (k : ℕ). Tied z g t.seat_of k both) (sym d.0) record {
                begins = begins;
                each = λ q i. let old = tv.each q i in record {
                  number = old.number;
                  sizes = old.sizes;
                  is = old.is;
                  seat = old.seat;
                  steps = made_between q.number g.order long v.order begins left old.steps;
                };
                apart = tv.apart;
                kept = λ o i. ⊎_elim
                    (λ (first : o ≡ order_of v). subst (λ (o : JoinedOrder E A). TiedOrder g t.seat_of id o) (sym first)
                    record { begins = tv.begins; seat = mine.seat; steps = mine.steps })
                    (tv.kept o)
                    (in_cases o (order_of v) v.kept i);
                met = λ o i. ⊎_elim
                    (λ (first : o ≡ w.order). subst (λ (l : List (LoggedStep E A)). BeginsWith g.order l) (sym first) tw.begins)
                    (tv.met o)
                    (in_cases o w.order v.met i);
              }))
              (λ (d : (j ≢ id) × (get_elem? s.views j ≡ some u)). t.each_seat j u d.1)
              (at_set s.views id j both u c.1))
              (at_set (set s.views id both) other j spent u is);
          last = dite (ℕ_discrete t.last.0 id)
              (λ e. let same : v ≡ t.last.1.0 = some-injective v t.last.1.0 (sym at ∙ (ap (λ (k : ℕ). get_elem? s.views k) (sym e)
              ∙ t.last.1.1)) in
              let full : length g.order ≡ length v.order = ap (λ (l : List (LoggedStep E A)). length l)
              (sym (ap (λ (u : SeatView E A W). u.order) same ∙ t.last.1.2)) in
              (id, (both, at_id, longer_full g.order v.order w.order tv.begins tw.begins (inl (omega arith)))))
              (λ ne. dite (ℕ_discrete t.last.0 other)
              (λ e. let same : w ≡ t.last.1.0 = some-injective w t.last.1.0 (sym there ∙ (ap (λ (k : ℕ). get_elem? s.views k)
              (sym e) ∙ t.last.1.1)) in
              let full : length g.order ≡ length w.order = ap (λ (l : List (LoggedStep E A)). length l)
              (sym (ap (λ (u : SeatView E A W). u.order) same ∙ t.last.1.2)) in
              (id, (both, at_id, longer_full g.order v.order w.order tv.begins tw.begins (inr (omega arith)))))
              (λ no. (
                t.last.0,
                (
                  t.last.1.0,
                  set_else (set s.views id both) other t.last.0 spent no
                      ∙ (set_else s.views id t.last.0 both ne ∙ t.last.1.1),
                  t.last.1.2,
                ),
              )));
          made = t.made;
        };
        runs = h.runs;
        aside = h.aside;
        base = h.base;
        added = h.added;
      }

  -- A load of any word may show a seat all steps so far.
  pub learns : (slots id place : ℕ) (me : Me Unit (SeatView E A W)) (then : ℕ → Me Unit (SeatView E A W) → Type 0)
      → ((n : ℕ) (w : SeatView E A W) → Learnt me.0 w → then n (w, me.1))
      → Allows (Holds sides opens addition z) slots id me place (λ n. n) then
  learns slots id place me then told s h deep at fits =
      let v : SeatView E A W = me.0 in
      let g : PoolState E A W = h.pool in
      let t : Ties z s.views g = h.ties in
      let tied : Tied z g t.seat_of id v = t.each_seat id v at in
      let w : SeatView E A W = seeing g.order v in
      let again : set s.words place (get_or s.words place 0) ≡ s.words = store_again s.words place in
      let low : id < length s.views = at_below s.views id v at in (
        w,
        keeps,
        tt,
        record {
          pool = g;
          ties = record {
            seat_of = t.seat_of;
            each_seat = λ j u is. ⊎_elim
                (λ (c : (j ≡ id) × (w ≡ u)). subst (λ (u : SeatView E A W). Tied z g t.seat_of j u) c.1
                (subst (λ (k : ℕ). Tied z g t.seat_of k w) (sym c.0) record {
                  begins = begins_self g.order;
                  each = λ q i. let old = tied.each q i in
                      record { number = old.number; sizes = old.sizes; is = old.is; seat = old.seat; steps = refl };
                  apart = tied.apart;
                  kept = λ o i. absurd (in_nil o i);
                  met = λ o i. absurd (in_nil o i);
                }))
                (λ (c : (j ≢ id) × (get_elem? s.views j ≡ some u)). t.each_seat j u c.1)
                (at_set s.views id j w u is);
            last = (id, (w, set_here s.views id w low, refl));
            made = t.made;
          };
          runs = subst (λ (words : List ℕ). Runs (opens z) words g.order) (sym again) h.runs;
          aside = h.aside;
          base = subst (λ (words : List ℕ). Base sides z words g) (sym again) h.base;
          added = subst (λ (words : List ℕ). addition z words g) (sym again) h.added;
        },
        told (get_or s.words place 0) w record {
          is = refl;
          begins = tied.begins;
          met = tied.met;
          kept = λ o i. let k = tied.kept o i in (k.begins, sym k.steps);
        },
      )
