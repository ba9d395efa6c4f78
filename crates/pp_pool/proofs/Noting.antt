-- What a pass keeps and learns where it makes a note, and where it learns one.
use Rattle.std.proofs.Common.{◌≡◌, ℕ, ◌≤◌, List, [], sym, ap, ◌∙◌, subst}
use Rattle.atomic_table.specs.Table.{Me}
use Rattle.atomic_table.specs.declared.shared.Seat.{Seat}
use Rattle.pp_rule.specs.Lists.{IsIn, BeginsWith}
use Rattle.pp_rule.specs.declared.views.PassState.{PassState}
use Rattle.pp_rule.specs.declared.views.SeatView.{SeatView}
use Rattle.pp_rule.specs.Steps.{alone, order_of, IsAlone, meeting_part, seeing, Learnt}
use Rattle.pp_rule.proofs.Put.{in_first, in_nil}
use Rattle.pp_rule.proofs.Histories.{log_begins, placed_kept}
use Rattle.pp_base.specs.declared.purse.Purse.{Purse}
use Rattle.pp_base.specs.Passes.{known, view, IsPassOf, Keeping}
use Rattle.pp_base.proofs.Steady.{keeping_idle}
use Rattle.pp_base.specs.Made.{HasRun}
use Rattle.pp_pool.specs.Noted.{HasLearnt}
use Rattle.pp_link.specs.declared.layout.Sizes.{Sizes}
use Rattle.pp_link.specs.Places.{IsWithin}
use Rattle.pp_rule.specs.States.{PoolState}
use Rattle.pp_rule.specs.Laws.{HeadsOpen, LinksOpen, MetAtOpening}
use Rattle.pp_rule.specs.Opening.{dealt}
use Rattle.pp_rule.proofs.Opening.{state_open, none_split}

module _ {E A W : Type 0} where
  -- a seat with the view that it had stands for the pass as before
  pub keeping_same : (sentinels sides : ℕ) (s s' : Seat Unit (SeatView E A W)) (number share : ℕ) (walk : List ℕ) (p : Purse)
      → s'.me ≡ s.me → Keeping sentinels sides s number share walk p → Keeping sentinels sides s' number share walk p
  keeping_same sentinels sides s s' number share walk p same k =
      keeping_idle sentinels sides s s' (known s).sizes number share walk p k
      (subst (λ (m : Me Unit (SeatView E A W)). IsAlone m) (sym same) k.lone)
      (subst (λ (m : Me Unit (SeatView E A W)). IsPassOf (known s).sizes m.0.known) (sym same) k.pass)
      (ap (λ (m : Me Unit (SeatView E A W)). m.0.known) same)

  module _ (note s t s' : Seat Unit (SeatView E A W)) (lone : IsAlone s.me)
      (met : t.me ≡ (meeting_part (view s) (view note), s.me.1))
      (none : s'.me.1 ≡ t.me.1) (learnt : Learnt (view t) (view s')) where
    met_view : view t ≡ meeting_part (view s) (view note)
    met_view = ap (λ (m : Me Unit (SeatView E A W)). m.0) met

    -- the seat is alone with its pass again
    pub learnt_alone : IsAlone s'.me
    learnt_alone = (
      none ∙ (ap (λ (m : Me Unit (SeatView E A W)). m.1) met ∙ lone.0),
      learnt.is ∙ (ap (λ (v : SeatView E A W). seeing (view s').order v) met_view
          ∙ (ap (λ (v : SeatView E A W). seeing (view s').order (meeting_part v (view note))) lone.1
          ∙ sym (ap (λ (q : PassState W). alone (view s').order q) learnt_known))),
    )
      where
        learnt_known : known s' ≡ known s
        learnt_known = ap (λ (v : SeatView E A W). v.known) learnt.is ∙ ap (λ (v : SeatView E A W). v.known) met_view

    pub learnt_same : known s' ≡ known s
    learnt_same = ap (λ (v : SeatView E A W). v.known) learnt.is ∙ ap (λ (v : SeatView E A W). v.known) met_view

    pub has_learnt : HasLearnt note s s'
    has_learnt =
        let first : IsIn (order_of (view s)) (view t).kept =
        subst (λ (v : SeatView E A W). IsIn (order_of (view s)) v.kept) (sym met_view)
        (in_first (order_of (view s)) (view s).kept) in
        let second : IsIn (view note).order (view t).met =
        subst (λ (v : SeatView E A W). IsIn (view note).order v.met) (sym met_view) (in_first (view note).order (view s).met) in
        let own = learnt.kept (order_of (view s)) first in
        let other : BeginsWith (view s').order (view note).order = learnt.met (view note).order second in
        record {
          known_is = learnt_same;
          order = own.0;
          noted_order = other;
          seen = log_begins (view s').order (view s).order own.0;
          noted_seen = log_begins (view s').order (view note).order other;
          steps = own.1;
          placed = placed_kept (known s).number (view s').order (view s).order own.0 own.1;
        }

    pub learnt_keeping : (sentinels sides number share : ℕ) (walk : List ℕ) (p : Purse)
        → Keeping sentinels sides s number share walk p
        → Keeping sentinels sides s' number share walk p
    learnt_keeping sentinels sides number share walk p k = keeping_idle sentinels sides s s' (known s).sizes number share walk p k
        learnt_alone (subst (λ (q : PassState W). IsPassOf (known s).sizes q) (sym learnt_same) k.pass) learnt_same

-- A pass that has seen no step of a pool that opened has seen a run, and the words are those of the opening.
pub run_open : {E A W : Type 0} (sides sentinels : ℕ) (head : ℕ → ℕ) (field : ℕ → ℕ → ℕ)
    (addition : Sizes → List ℕ → PoolState E A W → Type 0) (own : W) (caller : E → ℕ) (z : Sizes) (n : ℕ)
    (s : Seat Unit (SeatView E A W)) → sides ≤ 2 → IsWithin z → sentinels ≤ z.records
    → HeadsOpen sentinels head → LinksOpen sides sentinels field → MetAtOpening sides addition sentinels head field own
    → s.me ≡ (alone [] (dealt sentinels own z n), []) → HasRun sides sentinels head field addition caller (view s)
run_open {E} {A} {W} sides sentinels head field addition own caller z n s two within most heads links met is =
    subst (λ (m : Me Unit (SeatView E A W)). HasRun sides sentinels head field addition caller m.0) (sym is)
    (λ standing. record {
      run = record {
        finds = λ before after e none. absurd (none_split before after e none);
        kept = λ e i. absurd (in_nil e i);
        made = λ e i. absurd (in_nil e i);
        own = λ e i. absurd (in_nil e i);
        aside = λ before after e none. absurd (none_split before after e none);
      };
      whole = λ one none. none (state_open sides sentinels head field own z addition n two within most heads links met);
    })
