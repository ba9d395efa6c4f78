-- A call that was begun on a pass that rests is under way.
use Rattle.std.proofs.Common.{◌≡◌, ℕ, zero, ◌<◌, ◌≤◌, Bool, true, false, List, map}
use Rattle.std.proofs.Common.{refl, sym, ap, ◌∙◌, subst, arith}
use Rattle.std.proofs.Math.Bool.{false≢true}
use Rattle.std.specs.Prelude.{replicate}
use Rattle.pp_link.specs.declared.layout.Sizes.{Sizes}
use Rattle.pp_model.specs.declared.Call.{Call}
use Rattle.pp_model.specs.Calls.{key_of}
use Rattle.pp_base.specs.declared.purse.Purse.{Purse}
use Rattle.pp_base.specs.Passes.{IsPassOf, IsAtRest, named_of}
use Rattle.pp_lists.specs.Lists.{ListPass}
use Rattle.pp_lists.specs.Turns.{ListView}
use Rattle.pp_lists.specs.Walks.{bucket}
use Rattle.pp_turns.proofs.Placing.{unplaced_none}
use Rattle.pp_turns.proofs.Purses.{alone_none}
use Rattle.pp_turns.proofs.Resting.{none_named}
use Rattle.pp_turns.proofs.Stretches.{waits_none}
use Rattle.pp_walk.specs.Words.{AllEmpty}
use Rattle.pp_list.specs.declared.going.ListGoing.{ListGoing}
use Rattle.pp_list.specs.declared.going.Next.{Next}
use Rattle.pp_list.specs.Begun.{BeginsOn}
use Rattle.pp_list.specs.Going.{IsUnder, Stands, Begun, is_after}
use Rattle.pp_list.specs.Purses.{HasOut}

-- the walk words of a pass that names no record are empty
pub all_empty : (z : Sizes) (q : ListPass) (walk : List ℕ) → IsPassOf z q → map named_of q.walk ≡ walk → walk ≡ replicate 5 zero
    → AllEmpty q
all_empty z q walk p is none j lt = let e = none_named z q walk p is none j lt in record { named = e.0; free = e.1 }

module _ (z : Sizes) (share head : ℕ) (call : Call) (races : ℕ) (g : ListGoing) (v : ListView) (p : Purse) (b : BeginsOn head call races g)
    (low : head < z.heads) (home : head ≡ bucket z.heads (key_of call)) (some_races : 1 ≤ races) (empty : AllEmpty v.known)
    (rest : IsAtRest v.known p) (none : p.taken ≡ 0) where
  waits : (fresh : Bool) → fresh ≡ true → (n : ℕ) → n ≡ 0 → Begun fresh z g.call n v v
  waits true is n zero_lost = (waits_none v, (unplaced_none v v refl, zero_lost))
  waits false is n zero_lost = absurd (false≢true is)

  pub under_begun : IsUnder z share g v p v p.free.items
  under_begun = record {
    low = subst (λ (h : ℕ). h < z.heads) (sym b.head_is) low;
    home = b.head_is ∙ (home ∙ ap (λ (c : Call). bucket z.heads (key_of c)) (sym b.call_is));
    below = let lost = b.lost in let most = b.races_are in omega arith;
    struck = b.struck ∙ ap is_after (sym b.next);
    rest = rest;
    carries = record {
      sizes = refl;
      out = subst (HasOut v.known p) (sym b.fresh) none;
      kept = omega arith;
      same = λ _. refl;
      none = λ _. b.fresh;
      alone = λ _. alone_none v p.free.items share;
    };
    stands = subst (λ (n : Next). Stands z g.call g.races g.lost n v v) (sym b.next)
        (b.walk_call ∙ sym b.call_is, (b.walks z v.known low home empty, waits b.walk.fresh b.walk_fresh g.lost b.lost));
  }
