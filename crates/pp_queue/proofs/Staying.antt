-- What stays of a pass over a queue's own steps.
use Rattle.std.proofs.Common.{◌≡◌, ℕ, zero, suc, ◌*◌, ◌<◌, Bool, List, []}
use Rattle.std.proofs.Common.{map}
use Rattle.std.proofs.Common.{eqb, sym, refl, ap, subst, arith}
use Rattle.std.proofs.Math.Decide.{ℕ_discrete}
use mathlib.Core.Logic.{dite}
use Rattle.atomic_table.specs.Table.{Me}
use Rattle.atomic_table.specs.declared.shared.Seat.{Seat}
use Rattle.pp_link.specs.declared.layout.Sizes.{Sizes}
use Rattle.pp_link.specs.Links.{target}
use Rattle.pp_rule.specs.Views.{slot}
use Rattle.pp_rule.specs.Steps.{IsAlone, holding}
use Rattle.pp_base.specs.declared.purse.Purse.{Purse}
use Rattle.pp_base.specs.Passes.{known, named_of, owned_numbers, IsPassOf, IsSame, Keeping}
use Rattle.pp_rule.specs.Lists.{times}
use mathlib.Core.Option.{some}
use Rattle.pp_base.proofs.Telling.{made_alone, made_known}
use Rattle.pp_base.proofs.Steady.{named_same}
use Rattle.pp_base.proofs.Staying.{StaysPass, stays, keeping_stays, keeping_gave}
use Rattle.pp_queues.specs.Queues.{QueuePass, QueueView}
use Rattle.pp_queues.specs.Turns.{stand, Begins, Ends, Came, Saw, Looked, Tried, Advanced, Linked, Took, end_number}
use Rattle.pp_queue.specs.Steps.{LinkedAt}

abbrev pub QueueMe : Type 0
QueueMe = Me Unit QueueView

module _ {v : QueueView} {m : QueueMe} (none : m.1 ≡ []) where
  pub begins_stays : (place n : ℕ) → Begins place n v m.0 → StaysPass v m
  begins_stays place n b = stays none b.made refl refl refl refl refl refl refl

  pub ends_stays : (place n : ℕ) → Ends place n v m.0 → StaysPass v m
  ends_stays place n e = stays none e.made refl refl refl refl refl refl refl

  pub came_stays : (i : ℕ) (front : Bool) (first n place : ℕ) → (slot v.known i).named ≡ target first
      → Came i front first n place v m.0
      → StaysPass v m
  came_stays i front first n place named c = dite (ℕ_discrete n first)
      (λ e. let held = c.same e in stays none held.1.1 refl refl refl refl refl refl
      (named_same v.known.walk i (holding (target first) held.0 held.1.0) (sym named)))
      (λ ne. stays none (c.other ne) refl refl refl refl refl refl refl)

  pub saw_stays : (place n : ℕ) → Saw place n v m.0 → StaysPass v m
  saw_stays place n s = dite (ℕ_discrete n (16 * stand v.known)) (λ e. stays none (s.here e) refl refl refl refl refl refl refl)
      (λ ne. stays none (s.elsewhere ne) refl refl refl refl refl refl refl)

  pub looked_stays : (place n : ℕ) → Looked place n v m.0 → StaysPass v m
  looked_stays place n l = stays none l.made refl refl refl refl refl refl refl

  pub tried_stays : (place n : ℕ) → Tried place n v m.0 → StaysPass v m
  tried_stays place n t = dite (ℕ_discrete n 0) (λ e. stays none (t.none e).made refl refl refl refl refl refl refl)
      (λ ne. stays none (t.some ne) refl refl refl refl refl refl refl)

  pub advanced_stays : (place first new n : ℕ) → Advanced place first new n v m.0 → StaysPass v m
  advanced_stays place first new n a = dite (ℕ_discrete n first) (λ e. stays none (a.same e) refl refl refl refl refl refl refl)
      (λ ne. stays none (a.other ne) refl refl refl refl refl refl refl)

-- a head's number from whether it is the front one
pub end_is : (head : ℕ) → head < 2 → end_number (eqb head 0) ≡ head
end_is zero lt = refl
end_is (suc zero) lt = refl
end_is (suc (suc head)) lt = absurd (omega arith)

-- What a pass has beside its seat agrees with what the seat knows after an exchange to link a record that was taken.
module _ (s s' : Seat Unit QueueView) (z : Sizes) (number share : ℕ) (walk : List ℕ) (p : Purse) (n place new found : ℕ)
    (kept : Keeping 1 1 s number share walk p) (pass : IsPassOf z (known s')) (none : s'.me.1 ≡ [])
    (taken : times n p.free.items < times n (owned_numbers (known s))) (t : LinkedAt n place new found s.me.0 s'.me.0) where
  pub keeping_linked : Keeping 1 1 s' number share walk p
  keeping_linked = dite (ℕ_discrete found 0)
      (λ hit. let made = t.made.same hit in let is = made_known s'.me made in
      keeping_gave 1 1 s s' z number share walk p t.index t.was kept (made_alone s'.me none made) pass record {
        number = ap (λ (q : QueuePass). q.number) is;
        sizes = ap (λ (q : QueuePass). q.sizes) is;
        retired_are = ap (λ (q : QueuePass). q.retired) is;
        frontier = ap (λ (q : QueuePass). q.frontier) is;
        chains = ap (λ (q : QueuePass). q.chains) is;
        names = ap (λ (q : QueuePass). map named_of q.walk) is;
      } t.at (ap (λ (q : QueuePass). q.owned) is)
      (subst (λ (x : ℕ). times x p.free.items < times x (owned_numbers (known s))) (sym t.number_is) taken))
      (λ ne. keeping_stays 1 1 s s' z number share walk p kept pass (stays none (t.made.other ne) refl refl refl refl refl refl refl))

  pub same_linked : s'.table_id ≡ s.table_id → IsSame s s'
  same_linked table = dite (ℕ_discrete found 0)
      (λ hit. let is = made_known s'.me (t.made.same hit) in
      record { table_is = table; number = ap (λ (q : QueuePass). q.number) is; sizes = ap (λ (q : QueuePass). q.sizes) is })
      (λ ne. let is = made_known s'.me (t.made.other ne) in
      record { table_is = table; number = ap (λ (q : QueuePass). q.number) is; sizes = ap (λ (q : QueuePass). q.sizes) is })

  pub lone_linked : IsAlone s'.me
  lone_linked = dite (ℕ_discrete found 0) (λ hit. made_alone s'.me none (t.made.same hit))
      (λ ne. made_alone s'.me none (t.made.other ne))

pub linked_lone : (i n place v new found : ℕ) (before : QueueView) (m : QueueMe) → m.1 ≡ []
    → Linked i n place v new found before m.0 → IsAlone m
linked_lone i n place v new found before m none t = dite (ℕ_discrete found 0) (λ hit. made_alone m none (t.same hit))
    (λ ne. made_alone m none (t.other ne))

pub took_lone : (j guard place first new found : ℕ) (before : QueueView) (m : QueueMe) → m.1 ≡ []
    → Took j guard place first new found before m.0
    → IsAlone m
took_lone j guard place first new found before m none t = dite (ℕ_discrete found first) (λ hit. made_alone m none (t.same hit))
    (λ ne. made_alone m none (t.other ne))
