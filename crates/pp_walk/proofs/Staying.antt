-- What stays of a pass over a list's own steps.
use Rattle.std.proofs.Common.{◌≡◌, ◌≢◌, ◌⊎◌, inl, inr, ⊎_elim, ℕ, ◌<◌, Bool, true, false, List, [], ◌∷◌, map}
use Rattle.std.proofs.Common.{sym, refl, ap, subst, arith, Option, None}
use Rattle.std.proofs.Math.Decide.{ℕ_discrete}
use mathlib.Core.Logic.{dite}
use Rattle.atomic_table.specs.Table.{Me}
use Rattle.atomic_table.specs.declared.shared.Seat.{Seat}
use Rattle.pp_link.specs.declared.layout.Sizes.{Sizes}
use Rattle.pp_link.specs.Links.{target, invalid_bit, flag_bit}
use Rattle.pp_model.specs.declared.Call.{Call}
use Rattle.pp_model.specs.Calls.{reply_at, changes}
use Rattle.pp_rule.specs.Lists.{times}
use Rattle.pp_rule.specs.Views.{slot}
use Rattle.pp_rule.specs.Steps.{IsAlone, holding}
use Rattle.pp_base.specs.declared.purse.Purse.{Purse}
use Rattle.pp_base.specs.Passes.{known, named_of, owned_numbers, IsPassOf, IsSame, Keeping}
use Rattle.pp_base.proofs.Telling.{made_alone, made_known}
use Rattle.pp_base.proofs.Steady.{named_same}
use Rattle.pp_base.proofs.Staying.{StaysPass, stays, keeping_stays, keeping_gave}
use Rattle.pp_lists.specs.declared.own.ListOwn.{ListOwn}
use Rattle.pp_lists.specs.Lists.{ListPass}
use Rattle.pp_lists.specs.Turns.{ListView, IsNil, EndsWith, Reached, Came, Ended, Gathers, PassesBy, StopsAt, Marks, Published}
use Rattle.pp_lists.proofs.Stepping.{valid_or}
use Rattle.pp_walk.specs.Steps.{PublishedAt}

abbrev ListMe : Type 0
ListMe = Me Unit ListView

by_bool : {X : Type 0} (c : Bool) → (c ≡ false → X) → (c ≡ true → X) → X
by_bool true a b = b refl
by_bool false a b = a refl

-- nil or not
nil_or : (n : ℕ) → IsNil n ⊎ (IsNil n → ⊥)
nil_or n = dite (ℕ_discrete (invalid_bit n) 0)
    (λ ok. dite (ℕ_discrete (target n) 0) (λ nil. inl (ok, nil)) (λ ne. inr (λ y. ne y.1))) (λ bad. inr (λ y. bad y.0))

module _ {v : ListView} {m : ListMe} (none : m.1 ≡ []) where
  ends_stays : (own : ListOwn) (kind place n : ℕ) (a : Option ℕ) → EndsWith own kind place n a v m.0 → StaysPass v m
  ends_stays own kind place n a e = by_bool (changes (reply_at own.call a))
      (λ idle. stays none (e.0 idle).made refl refl refl refl refl refl refl)
      (λ change. stays none (e.1 change).0 refl refl refl refl refl refl refl)

  pub reached_stays : (own : ListOwn) (place n : ℕ) → Reached own place n v m.0 → StaysPass v m
  reached_stays own place n r = ⊎_elim (λ (nil : IsNil n). ends_stays own 4 place n None (r.ended nil))
      (λ (never : IsNil n → ⊥). stays none (r.goes_on never) refl refl refl refl refl refl refl) (nil_or n)

  pub came_stays : (i first n place : ℕ) → (slot v.known i).named ≡ target first → Came i first n place v m.0 → StaysPass v m
  came_stays i first n place named c = dite (ℕ_discrete n first)
      (λ e. let held = c.same e in stays none held.1.2 refl refl refl refl refl refl
      (named_same v.known.walk i (holding (target first) held.0 held.1.0) (sym named)))
      (λ ne. stays none (c.other ne) refl refl refl refl refl refl refl)

  pub ended_stays : (place n : ℕ) → Ended place n v m.0 → StaysPass v m
  ended_stays place n e = dite (ℕ_discrete (invalid_bit n) 0)
      (λ ok. ends_stays v.known.own 19 place n _ (e.ended ok))
      (λ bad. stays none (e.invalid (valid_or n bad)) refl refl refl refl refl refl refl)

  gathers_stays : (j place n : ℕ) → (invalid_bit n ≡ 0 → flag_bit n ≡ 0 → ⊥) → Gathers j place n v m.0 → StaysPass v m
  gathers_stays j place n never g = dite (ℕ_discrete (invalid_bit n) 0)
      (λ ok. stays none (g.joins ok (flagged n (never ok))) refl refl refl refl refl refl
      (named_same v.known.walk j (record (slot v.known j) { learnt = (0, n) ∷ (slot v.known j).learnt }) refl))
      (λ bad. stays none (g.invalid (valid_or n bad)) refl refl refl refl refl refl refl)
    where
      flagged : (n : ℕ) → (flag_bit n ≡ 0 → ⊥) → flag_bit n ≡ 1
      flagged n ne = omega arith

  pub passes_stays : (j place n : ℕ) → PassesBy j place n v m.0 → StaysPass v m
  passes_stays j place n p = dite (ℕ_discrete (invalid_bit n) 0)
      (λ ok. dite (ℕ_discrete (flag_bit n) 0)
      (λ plain. stays none (p.anchors ok plain) refl refl refl refl refl refl refl)
      (λ ne. gathers_stays j place n (λ _ f. ne f) p.gathers))
      (λ bad. gathers_stays j place n (λ ok _. bad ok) p.gathers)

  pub stops_stays : (j place n : ℕ) → StopsAt j place n v m.0 → StaysPass v m
  stops_stays j place n p = dite (ℕ_discrete (invalid_bit n) 0)
      (λ ok. dite (ℕ_discrete (flag_bit n) 0)
      (λ plain. ends_stays v.known.own 19 place n _ (p.ended ok plain))
      (λ ne. gathers_stays j place n (λ _ f. ne f) p.gathers))
      (λ bad. gathers_stays j place n (λ ok _. bad ok) p.gathers)

  pub marks_stays : (j place : ℕ) (call : Call) (n : ℕ) → Marks j place call n v m.0 → StaysPass v m
  marks_stays j place call n s = dite (ℕ_discrete (flag_bit n) 0)
      (λ plain. stays none (s.done plain).1 refl refl refl refl refl refl refl)
      (λ ne. stays none (s.lost (flagged n ne)) refl refl refl refl refl refl refl)
    where
      flagged : (n : ℕ) → (flag_bit n ≢ 0) → flag_bit n ≡ 1
      flagged n ne = omega arith

-- What a pass has beside its seat agrees with what the seat knows after an exchange to publish a record that was taken.
module _ (s s' : Seat Unit ListView) (z : Sizes) (number share : ℕ) (walk : List ℕ) (p : Purse) (n place k v first new found : ℕ)
    (kept : Keeping 0 1 s number share walk p) (pass : IsPassOf z (known s')) (none : s'.me.1 ≡ [])
    (taken : times n p.free.items < times n (owned_numbers (known s))) (t : PublishedAt n place k v first new found s.me.0 s'.me.0) where
  pub keeping_published : Keeping 0 1 s' number share walk p
  keeping_published = dite (ℕ_discrete found first)
      (λ hit. let made = t.made.same hit in let is = made_known s'.me made in
      keeping_gave 0 1 s s' z number share walk p t.index t.was kept (made_alone s'.me none made) pass record {
        number = ap (λ (q : ListPass). q.number) is;
        sizes = ap (λ (q : ListPass). q.sizes) is;
        retired_are = ap (λ (q : ListPass). q.retired) is;
        frontier = ap (λ (q : ListPass). q.frontier) is;
        chains = ap (λ (q : ListPass). q.chains) is;
        names = ap (λ (q : ListPass). map named_of q.walk) is;
      } t.at (ap (λ (q : ListPass). q.owned) is)
      (subst (λ (x : ℕ). times x p.free.items < times x (owned_numbers (known s))) (sym t.number_is) taken))
      (λ ne. keeping_stays 0 1 s s' z number share walk p kept pass (stays none (t.made.other ne) refl refl refl refl refl refl refl))

  pub same_published : s'.table_id ≡ s.table_id → IsSame s s'
  same_published table = dite (ℕ_discrete found first)
      (λ hit. let is = made_known s'.me (t.made.same hit) in
      record { table_is = table; number = ap (λ (q : ListPass). q.number) is; sizes = ap (λ (q : ListPass). q.sizes) is })
      (λ ne. let is = made_known s'.me (t.made.other ne) in
      record { table_is = table; number = ap (λ (q : ListPass). q.number) is; sizes = ap (λ (q : ListPass). q.sizes) is })

  pub lone_published : IsAlone s'.me
  lone_published = dite (ℕ_discrete found first) (λ hit. made_alone s'.me none (t.made.same hit))
      (λ ne. made_alone s'.me none (t.made.other ne))

pub published_lone : (i number place k v first new found : ℕ) (before : ListView) (m : ListMe) → m.1 ≡ []
    → Published i number place k v first new found before m.0
    → IsAlone m
published_lone i number place k v first new found before m none t = dite (ℕ_discrete found first) (λ hit. made_alone m none (t.same hit))
    (λ ne. made_alone m none (t.other ne))
