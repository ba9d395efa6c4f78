-- A call that was begun on a pass that rests is under way.
use Rattle.std.proofs.Common.{◌≡◌, ℕ, zero, ◌^◌, ◌<◌, ◌≤◌, Bool, true, false, List, map}
use Rattle.std.proofs.Common.{Option, refl, sym, ◌∙◌, subst, arith}
use Rattle.std.proofs.Math.Bool.{false≢true}
use Rattle.std.specs.Prelude.{replicate}
use Rattle.pp_link.specs.declared.layout.Sizes.{Sizes}
use Rattle.pp_model.specs.declared.Call.{Call}
use Rattle.pp_model.specs.Calls.{key_of}
use Rattle.pp_base.specs.declared.purse.Purse.{Purse}
use Rattle.pp_base.specs.Passes.{IsPassOf, IsAtRest, named_of}
use Rattle.pp_seek.specs.declared.seek.Spot.{Spot}
use Rattle.pp_seek.specs.Seeking.{AllEmpty}
use Rattle.pp_trees.specs.Trees.{inf0}
use Rattle.pp_trees.specs.Searches.{TreePass}
use Rattle.pp_trees.specs.Edges.{TreeView}
use Rattle.pp_turns.proofs.Placing.{unplaced_none}
use Rattle.pp_turns.proofs.Purses.{alone_none}
use Rattle.pp_turns.proofs.Resting.{none_named}
use Rattle.pp_turns.proofs.Stretches.{waits_none}
use Rattle.pp_tree_calls.specs.declared.going.TreeGoing.{TreeGoing}
use Rattle.pp_tree_calls.specs.declared.going.Next.{Next}
use Rattle.pp_tree_calls.specs.Begun.{BeginsOn}
use Rattle.pp_tree_calls.specs.Going.{IsUnder, Stands, Begun, upper_at}
use Rattle.pp_tree_calls.specs.Purses.{HasOut}

-- the walk words of a pass that names no record are empty
pub all_empty : (z : Sizes) (q : TreePass) (walk : List ℕ) → IsPassOf z q → map named_of q.walk ≡ walk → walk ≡ replicate 5 zero
    → AllEmpty q
all_empty z q walk p is none j lt = let e = none_named z q walk p is none j lt in record { named = e.0; free = e.1 }

module _ (z : Sizes) (share : ℕ) (call : Call) (races : ℕ) (g : TreeGoing) (v : TreeView) (p : Purse) (b : BeginsOn call races g)
    (pair : key_of call < inf0) (some_races : 1 ≤ races) (empty : AllEmpty v.known) (rest : IsAtRest v.known p)
    (none : p.taken ≡ 0) where
  waits : (fresh : Bool) → fresh ≡ true → Begun fresh z g b.seek.spot v v
  waits true is = (waits_none v, (unplaced_none v v refl, (b.lost, (b.struck, b.seek_spot))))
  waits false is = absurd (false≢true is)

  low : upper_at b.seek.spot ≤ 2 ^ 64
  low = subst (λ (s : Option Spot). upper_at s ≤ 2 ^ 64) (sym b.seek_spot) (omega arith)

  pub under_begun : IsUnder z share g v p v p.free.items
  under_begun = record {
    pair = subst (λ (c : Call). key_of c < inf0) (sym b.call_is) pair;
    below = let lost = b.lost in let most = b.races_are in omega arith;
    rest = rest;
    looks = λ _. b.struck;
    carries = record {
      sizes = refl;
      out = subst (HasOut v.known p) (sym b.records) none;
      kept = omega arith;
      same = λ _. refl;
      none = λ _. b.records;
      alone = λ _. alone_none v p.free.items share;
    };
    stands = subst (λ (n : Next). Stands z g n v v) (sym b.next)
        (b.seek_call ∙ sym b.call_is, (b.seeks v.known pair empty, low, waits b.seek.fresh b.seek_fresh));
  }
