-- The first load of a turn.
use Rattle.std.proofs.Common.{◌≡◌, ℕ, ◌+◌, ◌≤◌, Bool, true, false, List, [], ◌∷◌, ◌++◌, length, None}
use Rattle.std.proofs.Common.{refl, sym, ap, ◌∙◌, subst, arith, append_assoc, length-append}
use Rattle.std.specs.Prelude.{min}
use Rattle.std.proofs.Math.Decide.{ℕ_discrete}
use mathlib.Core.Logic.{dite}
use Rattle.pp_link.specs.declared.layout.Sizes.{Sizes}
use Rattle.pp_link.specs.Links.{target, invalid_bit}
use Rattle.pp_link.specs.Places.{head_place}
use Rattle.pp_model.specs.declared.Call.{Call}
use Rattle.pp_model.specs.declared.Placed.{Placed}
use Rattle.pp_model.specs.declared.steps.Step.{Step}
use Rattle.pp_model.specs.Calls.{key_of, reply_at, changes}
use Rattle.pp_model.specs.MapCalls.{placed}
use Rattle.pp_rule.specs.declared.views.WalkSlot.{WalkSlot}
use Rattle.pp_rule.specs.Orders.{log_of, load_step, made_by}
use Rattle.pp_rule.specs.Views.{blank}
use Rattle.pp_rule.specs.Steps.{MadeStep}
use Rattle.pp_rule.proofs.Made.{seen_begins, steps_after}
use Rattle.pp_base.specs.declared.source.Place.{Place}
use Rattle.pp_base.specs.declared.source.Place.TheVariants.{Head, Walk as Word}
use Rattle.pp_base.specs.declared.source.Side.TheVariants.{Left}
use Rattle.pp_base.specs.Sources.{source_place}
use Rattle.pp_calls.specs.Steps.{Stepped}
use Rattle.pp_lists.specs.declared.own.ListOwn.{ListOwn}
use Rattle.pp_lists.specs.Lists.{ListPass}
use Rattle.pp_lists.specs.Turns.{ListView, with_own, resting, Reached, IsNil, beginning, Begins}
use Rattle.pp_walk.specs.declared.walk.Walk.{Walk}
use Rattle.pp_walk.specs.Words.{IsEmpty}
use Rattle.pp_walk.specs.Roles.{IsAnchor, HasGathered, nothing, chained, StandsOn, Walking, IsWalk, IsUnder}
use Rattle.pp_walk.specs.Trod.{FirstSaw}
use Rattle.pp_walk.specs.Turns.{From}
use Rattle.pp_walk.specs.Parts.{LoadsFirst}
use Rattle.pp_walk.proofs.Standing.{leads_next}

-- A walk depends on the walk words and the list's part alone.
pub walks_as : (z : Sizes) (q r : ListPass) (call : Call) (at anchor : Place) → r.walk ≡ q.walk → r.own ≡ q.own
    → Walking z q call at anchor
    → Walking z r call at anchor
walks_as z q r call at anchor walk own w = subst (λ (o : ListOwn). Walking z (record r { own = o }) call at anchor) (sym own)
    (subst (λ (ws : List WalkSlot). Walking z (record r { walk = ws; own = q.own }) call at anchor) (sym walk) record {
      going = w.going;
      call_is = w.call_is;
      anchored = anchored_as anchor w.anchored;
      gathered = gathered_as w.gathered;
      stands = stands_as at w.stands;
      looks = w.looks;
      empty = w.empty;
    })
  where
    anchored_as : (p : Place) → IsAnchor z q (key_of call) p → IsAnchor z (record r { walk = q.walk; own = q.own }) (key_of call) p
    anchored_as (Head h) x = x
    anchored_as (Word i) x = x

    stands_as : (p : Place) → StandsOn z q (key_of call) p → StandsOn z (record r { walk = q.walk; own = q.own }) (key_of call) p
    stands_as (Head h) x = x
    stands_as (Word i) x = x

    gathered_as : HasGathered q at anchor → HasGathered (record r { walk = q.walk; own = q.own }) at anchor
    gathered_as (nothing f c is) = nothing f c is
    gathered_as (chained i link is low held apart first_apart some_made learnt flag joined) =
        chained i link is low held apart first_apart some_made learnt flag joined

-- The load, whatever was placed at it.
pub record LoadMade (own : ListOwn) (place first : ℕ) (v u : ListView) : Type 0 where
  pub calls : List Placed
  pub then : ListOwn
  pub made : MadeStep load_step place first first [] calls (with_own then v.known) v u

pub load_made : (own : ListOwn) (place first : ℕ) (v u : ListView) → Reached own place first v u → LoadMade own place first v u
load_made own place first v u r = dite (ℕ_discrete (invalid_bit first) 0)
    (λ ok. dite (ℕ_discrete (target first) 0)
    (λ nil. by (changes (reply_at own.call None)) refl (ok, nil))
    (λ some_there. going (λ n. some_there n.1)))
    (λ bad. going (λ n. bad n.0))
  where
    going : (IsNil first → ⊥) → LoadMade own place first v u
    going not = record { calls = []; then = own; made = r.goes_on not }

    by : (b : Bool) → changes (reply_at own.call None) ≡ b → IsNil first → LoadMade own place first v u
    by false e n = record {
      calls = placed own.call (reply_at own.call None) ((r.ended n).0 e).at ∷ [];
      then = resting own;
      made =
          ((r.ended n).0 e).made;
    }
    by true e n = record { calls = []; then = own; made = ((r.ended n).1 e).0 }

pub saw_first : (place first : ℕ) (placed : List Placed) (q : ListPass) (v u : ListView) → q.number ≡ v.known.number
    → MadeStep load_step place first first [] placed q v u → FirstSaw (length (log_of u.order)) v u
saw_first place first placed q v u n m = record {
  first = record { kind = load_step; place = place; word = first; seen = length (log_of u.order); owned = length q.owned };
  rest = [];
  saw = refl;
  made = steps_after load_step place first first [] placed q v u m n;
}

-- a pass sees no less of the log after a step
pub start_since : (place first : ℕ) (placed : List Placed) (q : ListPass) (v u : ListView)
    → MadeStep load_step place first first [] placed q v u
    → length (log_of v.order) ≤ length (log_of u.order)
start_since place first placed q v u m = let b = seen_begins load_step place first first [] placed q v u m in
    let l : length (log_of u.order) ≡ length (log_of v.order) + length b.0 = ap
    (λ (l : List Rattle.pp_model.specs.declared.Change.Change). length l) b.1
    ∙ length-append (log_of v.order) b.0 in omega arith

-- it is still so after more steps
pub from_on : (fresh : Bool) (call : Call) (own : ListOwn) (v u w : ListView) → u.known.number ≡ v.known.number → From fresh call own v u
    → Stepped u w
    → From fresh call own v w
from_on true call own v u w number f s = record {
  start = f.start;
  own_is = f.own_is;
  since = f.since;
  saw = record {
    first = f.saw.first;
    rest = f.saw.rest ++ s.steps;
    saw = f.saw.saw;
    made = subst (λ (n : ℕ). made_by n w.order ≡ made_by n u.order ++ s.steps) number s.made
        ∙ (ap (λ (l : List Step). l ++ s.steps) f.saw.made ∙ append_assoc (made_by v.known.number v.order)
        (f.saw.first ∷ f.saw.rest) s.steps);
  };
}
from_on false call own v u w number f s = f

-- the first turn of a call
pub loads_fresh : (z : Sizes) (walk : Walk) (first : ℕ) (v u : ListView) → IsWalk z v.known walk → walk.fresh ≡ true
    → Begins (head_place z walk.head) first walk.call v u → LoadsFirst z walk first v u
loads_fresh z walk first v u is fresh begins = by (subst (λ (b : Bool). IsUnder b z v.known walk) fresh is.under)
  where
    start : ℕ
    start = length (log_of u.order)

    by : IsUnder true z v.known walk → LoadsFirst z walk first v u
    by x = let own : ListOwn = beginning walk.call (length (log_of u.order)) v.known.own.left in
        let made = load_made own (head_place z walk.head) first v u begins in record {
          own = own;
          from = subst (λ (b : Bool). From b walk.call own v u) (sym fresh) record {
            start = length (log_of u.order);
            own_is = refl;
            since = start_since (head_place z walk.head) first made.calls (with_own made.then v.known) v u made.made;
            saw = saw_first (head_place z walk.head) first made.calls (with_own made.then v.known) v u refl made.made;
          };
          call_is = refl;
          reached = subst (λ (p : Place). Reached own (source_place z v.known p Left) first v u) (sym x.1) begins;
          gathered = x.3;
          counts = x.4;
          walks = λ q same_walk sizes same_own. subst (λ (p : Place). Walking z q walk.call p walk.anchor) (sym x.1)
              (subst (λ (p : Place). Walking z q walk.call (Head walk.head) p) (sym x.2) record {
                going = ap (λ (o : ListOwn). o.going) same_own;
                call_is = ap (λ (o : ListOwn). o.call) same_own;
                anchored = (is.low, is.home);
                gathered = nothing (ap (λ (o : ListOwn). o.first) same_own) (ap (λ (o : ListOwn). o.chain) same_own) refl;
                stands = tt;
                looks = λ _. ap (λ (o : ListOwn). o.first) same_own;
                empty = λ j lt _ _ _. subst (λ (ws : List WalkSlot). IsEmpty (Rattle.std.specs.Prelude.slice_index_or ws j blank))
                    (sym same_walk) (x.0 j lt);
              });
          leads = λ bad. absurd (omega arith);
        }

-- a later one
pub loads_later : (z : Sizes) (walk : Walk) (first : ℕ) (v u : ListView) → v.known.sizes ≡ z → IsWalk z v.known walk → walk.fresh ≡ false
    → Reached v.known.own (source_place z v.known walk.at Left) first v u → LoadsFirst z walk first v u
loads_later z walk first v u sizes is fresh r = by (subst (λ (b : Bool). IsUnder b z v.known walk) fresh is.under)
  where
    by : IsUnder false z v.known walk → LoadsFirst z walk first v u
    by x = record {
      own = v.known.own;
      from = subst (λ (b : Bool). From b walk.call v.known.own v u) (sym fresh) refl;
      call_is = x.0.call_is;
      reached = r;
      gathered = x.1;
      counts = x.2;
      walks = λ q same_walk _ same_own. walks_as z v.known q walk.call walk.at walk.anchor same_walk same_own x.0;
      leads = λ lt. leads_next z v.known walk.call walk.at walk.anchor first sizes x.0 r.learnt lt;
    }

-- what a later one asks
pub under_false : (z : Sizes) (q : ListPass) (walk : Walk) → IsWalk z q walk → walk.fresh ≡ false
    → Walking z q walk.call walk.at walk.anchor
under_false z q walk is fresh = (subst (λ (b : Bool). IsUnder b z q walk) fresh is.under).0
