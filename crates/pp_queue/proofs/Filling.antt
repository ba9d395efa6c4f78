-- The words that are stored in a private record.
use Rattle.std.proofs.Common.{◌≡◌, ◌≢◌, ℕ, zero, suc, ◌/◌, ◌%◌, ◌^◌, List, [], ◌∷◌}
use Rattle.std.proofs.Common.{set, refl, sym, ap, ap₂, ◌∙◌, subst, arith}
use Rattle.std.proofs.Math.Decide.{ℕ_discrete}
use mathlib.Core.Logic.{dite}
use mathlib.Core.Option.{some, some-injective}
use lib.ListN.{get_elem?}
use Rattle.pp_rule.specs.declared.views.PrivateRecord.{PrivateRecord}
use Rattle.pp_rule.specs.Lists.{OnceBy}
use Rattle.pp_rule.specs.Rule.{number_of}
use Rattle.pp_rule.specs.Steps.{wrote, with_private}
use Rattle.pp_rule.specs.Views.{halves, value_of}
use Rattle.pp_rule.proofs.Made.{known_after}
use Rattle.pp_base.specs.declared.purse.Purse.{Purse}
use Rattle.pp_base.specs.Private.{WroteField}
use Rattle.pp_pool.specs.Taken.{IsPrivate}
use Rattle.pp_queues.specs.Queues.{QueuePass, QueueView}
use Rattle.pp_queue.specs.Calling.{HasRecord, SameLists}
use Rattle.pp_queue.proofs.Putting.{same_record}
use Rattle.pp_queue.proofs.Idling.{idles_one, idles_both}
use Rattle.pp_queue.specs.Answers.{Idles}

set_here : (ds : List PrivateRecord) (i : ℕ) (d x : PrivateRecord) → get_elem? ds i ≡ some d → get_elem? (set ds i x) i ≡ some x
set_here [] i d x at = absurd (Rattle.pp_rule.proofs.Put.in_nil d (i, at))
set_here (e ∷ ds) zero d x at = refl
set_here (e ∷ ds) (suc i) d x at = set_here ds i d x at

set_other : (ds : List PrivateRecord) (i j : ℕ) (x : PrivateRecord) → j ≢ i → get_elem? (set ds i x) j ≡ get_elem? ds j
set_other [] i j x ne = refl
set_other (e ∷ ds) zero zero x ne = absurd (ne refl)
set_other (e ∷ ds) zero (suc j) x ne = refl
set_other (e ∷ ds) (suc i) zero x ne = refl
set_other (e ∷ ds) (suc i) (suc j) x ne = set_other ds i j x (λ e. ne (ap suc e))

-- after a store the record with that number is the one with the word
wrote_is : (ds : List PrivateRecord) (i j : ℕ) (d e x : PrivateRecord) → OnceBy number_of ds → get_elem? ds i ≡ some d
    → x.number ≡ d.number
    → get_elem? (set ds i x) j ≡ some e → e.number ≡ d.number → e ≡ x
wrote_is ds i j d e x once at same found number = dite (ℕ_discrete j i)
    (λ k. some-injective e x (sym found ∙ (ap (get_elem? (set ds i x)) k ∙ set_here ds i d x at)))
    (λ ne. absurd (ne (sym (once i j d e at (sym (set_other ds i j x ne) ∙ found) (sym number)))))

-- A value and a nil link were stored, one word after another.
module _ (v0 v1 v2 v3 : QueueView) (n low high : ℕ) (place1 place2 place3 : ℕ) (a : WroteField n 1 low place1 v0 v1)
    (b : WroteField n 4 high place2 v1 v2)
    (c : WroteField n 2 0 place3 v2 v3) (once : OnceBy number_of v0.known.owned) (once2 : OnceBy number_of v2.known.owned) where
  is1 : v1.known ≡ with_private a.index (wrote 1 low a.was) v0.known
  is1 = known_after _ _ _ _ _ _ _ v0 v1 a.made

  is2 : v2.known ≡ with_private b.index (wrote 4 high b.was) v1.known
  is2 = known_after _ _ _ _ _ _ _ v1 v2 b.made

  is3 : v3.known ≡ with_private c.index (wrote 2 0 c.was) v2.known
  is3 = known_after _ _ _ _ _ _ _ v2 v3 c.made

  second : b.was ≡ wrote 1 low a.was
  second = wrote_is v0.known.owned a.index b.index a.was b.was (wrote 1 low a.was) once a.at refl
      (subst (λ (q : QueuePass). get_elem? q.owned b.index ≡ some b.was) is1 b.at) (b.number_is ∙ sym a.number_is)

  third : c.was ≡ wrote 4 high b.was
  third = same_record v2.known.owned c.index b.index c.was (wrote 4 high b.was) once2 c.at
      (ap (λ (q : QueuePass). get_elem? q.owned b.index) is2 ∙ set_here v1.known.owned b.index b.was (wrote 4 high b.was) b.at)
      (c.number_is ∙ sym b.number_is)

  pub filled : (p : Purse) (v : ℕ) → IsPrivate v3.known p n → value_of (halves low high) ≡ v → HasRecord v3.known p n v
  filled p v private value = record {
    index = c.index;
    was = wrote 2 0 c.was;
    number_is = c.number_is;
    taken = private;
    at = ap (λ (q : QueuePass). get_elem? q.owned c.index) is3 ∙ set_here v2.known.owned c.index c.was (wrote 2 0 c.was) c.at;
    left = refl;
    value_is = ap₂ (λ l h. value_of (halves l h)) (ap (λ (d : PrivateRecord). d.value) third
        ∙ ap (λ (d : PrivateRecord). d.value) second)
        (ap (λ (d : PrivateRecord). d.high) third) ∙ value;
  }

  pub fill_lists : SameLists v0.known v3.known
  fill_lists = subst (SameLists v0.known) (sym is3)
      (subst (λ (q : QueuePass). SameLists v0.known (with_private c.index (wrote 2 0 c.was) q)) (sym is2)
      (subst (λ (q : QueuePass). SameLists v0.known
      (with_private c.index (wrote 2 0 c.was) (with_private b.index (wrote 4 high b.was) q))) (sym is1) record {
        number = refl;
        sizes = refl;
        retired_are = refl;
        frontier = refl;
        chains = refl;
        scan = refl;
      }))

  pub fill_idles : (passes : ℕ) → Idles passes v0 v3
  fill_idles passes = idles_both passes v0 v1 v3 (ap (λ (q : QueuePass). q.number) is1) (idles_one passes v0 v1 a.made refl refl)
      (idles_both passes v1 v2 v3 (ap (λ (q : QueuePass). q.number) is2) (idles_one passes v1 v2 b.made refl refl)
      (idles_one passes v2 v3 c.made refl refl))

-- the two halves of a value
pub both_halves : (value : ℕ) → value_of (halves (value % 2 ^ 64) (value / 2 ^ 64)) ≡ value
both_halves value = omega arith
