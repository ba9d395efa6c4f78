-- The seek of a call ended.
use Rattle.std.proofs.Common.{◌≡◌, ℕ, ◌+◌, ◌<◌, Bool, true, false, List, [], ◌∷◌, ◌++◌, map}
use Rattle.std.proofs.Common.{length, refl, sym, ap, ◌∙◌, subst, ⊎_elim}
use Rattle.std.proofs.Common.{Option, Some, None, append_assoc, arith}
use Rattle.std.specs.Prelude.{not}
use Rattle.std.proofs.Math.Bool.{false≢true}
use Rattle.pp_link.specs.declared.layout.Sizes.{Sizes}
use Rattle.pp_link.specs.Links.{word_of}
use Rattle.pp_model.specs.declared.Call.{Call}
use Rattle.pp_model.specs.declared.steps.Step.{Step}
use Rattle.pp_model.specs.Calls.{key_of, changes, reply_at}
use Rattle.pp_rule.specs.declared.views.Halves.{Halves}
use Rattle.pp_rule.specs.Lists.{IsIn}
use Rattle.pp_rule.specs.Orders.{log_of}
use Rattle.pp_rule.specs.Views.{slot}
use Rattle.pp_rule.proofs.Put.{in_cases, in_nil}
use Rattle.pp_base.specs.declared.purse.Purse.{Purse}
use Rattle.pp_base.specs.Named.{NamedStep, name_of, loads, announces}
use Rattle.pp_calls.specs.PoolViews.{is_writing}
use Rattle.pp_calls.specs.Steps.{Stepped, HasOwn, StandsThen, WriteNone}
use Rattle.pp_shelf.specs.Runs.{map_sizes, steps_made}
use Rattle.pp_seek.specs.declared.seek.Spot.{Spot}
use Rattle.pp_seek.specs.declared.seek.Sought.{Sought}
use Rattle.pp_seek.specs.Trails.{reads}
use Rattle.pp_seek.specs.Seeking.{SeeksAt, IsSought, EndsAtLeaf}
use Rattle.pp_trees.specs.Trees.{IsRight}
use Rattle.pp_trees.specs.Edges.{TreeView, end_step}
use Rattle.pp_trees.specs.Seeks.{found_at}
use Rattle.pp_turns.specs.Tallies.{effected, later_of}
use Rattle.pp_turns.specs.Turns.{Replied}
use Rattle.pp_turns.proofs.Purses.{carries_on}
use Rattle.pp_turns.proofs.Placing.{unplaced_on, replied_on}
use Rattle.pp_turns.proofs.Stretches.{saw_last}
use Rattle.pp_tree_turns.specs.Walked.{Walked, TreeTally, moved}
use Rattle.pp_tree_turns.proofs.Ends.{four_steps, ending, ends_names, ends_walks, sought_value, ends_replied, ends_effect}
use Rattle.pp_tree_turns.proofs.Ends.{ends_again, ends_same}
use Rattle.pp_tree_calls.specs.declared.going.TreeGoing.{TreeGoing}
use Rattle.pp_tree_calls.specs.Purses.{HasOut}
use Rattle.pp_tree_calls.specs.Going.{kind_of, Begun, Tries, Goes, IsUnder}
use Rattle.pp_tree_calls.specs.Turned.{EndedAt, found_by, HasArrived, HasEnded}
use Rattle.pp_tree_calls.proofs.Resting.{rest_kept, same_purse}
use Rattle.pp_tree_calls.proofs.Lasting.{silent_none, counts_on, losing_on, taken_on, out_same}
use Rattle.pp_tree_calls.proofs.Treading.{some_named}

-- what the steps of a seek's end are
ended_at : (place edge announced number at read key : ℕ) (t : TreeTally) (m : Walked) (k : ℕ) (steps : List Step)
    → map name_of steps ≡ loads place edge ∷ announces announced number
    ∷ record { kind = end_step; place = at; word = edge } ∷ reads read key ∷ []
    → (memory : Walked) (lost early : ℕ) (later : List Step) → t ≡ effected memory lost early later
    → EndedAt edge key (later_of (moved t m k steps))
ended_at place edge announced number at read key t m k steps named memory lost early later is =
    let f = four_steps _ _ _ _ steps named in
    subst (λ (x : TreeTally). EndedAt edge key (later_of (moved x m k steps))) (sym is) record {
      earlier = later ++ f.0 ∷ f.1.0 ∷ [];
      ends = f.1.1.0;
      reads = f.1.1.1.0;
      after = [];
      is = ap (λ (l : List Step). later ++ l) f.1.1.1.1.0 ∙ sym (append_assoc later (f.0 ∷ f.1.0 ∷ []) (f.1.1.0 ∷ f.1.1.1.0 ∷ []));
      ends_kind = ap (λ (n : NamedStep). n.kind) f.1.1.1.1.1;
      ends_word = ap (λ (n : NamedStep). n.word) f.1.1.1.1.1;
      reads_kind = ap (λ (n : NamedStep). n.kind) f.1.1.1.1.2;
      reads_word = ap (λ (n : NamedStep). n.word) f.1.1.1.1.2;
    }

four_silent : (a b c d : NamedStep) → is_writing a.kind ≡ false → is_writing b.kind ≡ false → is_writing c.kind ≡ false
    → is_writing d.kind ≡ false → (s : NamedStep) → IsIn s (a ∷ b ∷ c ∷ d ∷ []) → is_writing s.kind ≡ false
four_silent a b c d wa wb wc wd s i = ⊎_elim (λ (x : s ≡ a). here x wa) (λ (i : IsIn s (b ∷ c ∷ d ∷ [])).
    ⊎_elim (λ (x : s ≡ b). here x wb) (λ (i : IsIn s (c ∷ d ∷ [])). ⊎_elim (λ (x : s ≡ c). here x wc) (λ (i : IsIn s (d ∷ [])).
    ⊎_elim (λ (x : s ≡ d). here x wd) (λ (i : IsIn s []). absurd (in_nil s i)) (in_cases s d [] i)) (in_cases s c (d ∷ []) i))
    (in_cases s b (c ∷ d ∷ []) i)) (in_cases s a (b ∷ c ∷ d ∷ []) i)
  where
    here : {x : NamedStep} → s ≡ x → is_writing x.kind ≡ false → is_writing s.kind ≡ false
    here e none = ap (λ (n : NamedStep). is_writing n.kind) e ∙ none

-- a call whose seek stands at a record has begun
pub at_record : (z : Sizes) (g : TreeGoing) (fresh : Bool) (call : Call) (spot : Option Spot) (s : Spot) (from v : TreeView) → spot ≡ Some s
    → SeeksAt v.known call fresh spot → Begun fresh z g spot from v → Tries (map_sizes z) g g.lost from v × Goes g v.known
at_record z g fresh call None s from v is was b = absurd cc
at_record z g true call (Some x) s from v is was b = absurd (false≢true (sym was.begun))
at_record z g false call (Some x) s from v is was b = (b.0, b.1.0)

module _ (z : Sizes) (share : ℕ) (g : TreeGoing) (k : ℕ) (sought : Sought) (v w : TreeView) (p p' : Purse) (same : p' ≡ p)
    (e : EndsAtLeaf z k sought v w) where
  found_is : found_by g sought w.known ≡ sought_value z g.call k sought v w e
  found_is = ap (λ (x : Halves). found_at (key_of g.call) (slot w.known sought.word).key x (word_of sought.edge)) e.0.value_is

  silent : WriteNone (steps_made v w)
  silent = silent_none (ending z g.call k sought v w e) v w (ends_names z g.call k sought v w e)
      (four_silent (loads e.1.place (word_of sought.edge)) (announces e.1.announced e.1.number) _ _ refl refl refl refl)

  pub landed_stepped : Stepped v w
  landed_stepped = (ends_names z g.call k sought v w e).stepped

  pub landed_stands : HasOwn w.order → StandsThen v → StandsThen w
  landed_stands = (ends_names z g.call k sought v w e).stands

  pub landed_some : 0 < length (steps_made v w)
  landed_some = some_named _ _ (steps_made v w) (ends_names z g.call k sought v w e).named

  module _ (goes : Goes g v.known) where
    -- the pass is ready for what comes next
    pub has_ended : k ≡ key_of g.call → (from : TreeView) (free : List ℕ) → IsUnder z share g v p from free → kind_of g.next ≡ 0
        → HasEnded z g w.known p' sought
    has_ended key from free u seeks = record {
      sought = subst (λ (n : ℕ). IsSought w.known n sought) key e.0.is;
      call = (ends_same z g.call k sought v w e).0 ∙ goes.call;
      goes = λ off change. (ends_effect z g.call k sought v w e goes.call (goes.going ∙ ap not off)
          (ap (λ (o : Option ℕ). changes (reply_at g.call o)) (sym found_is) ∙ change)).1;
      gone = λ on. (ends_again z g.call k sought v w e goes.call (goes.going ∙ ap not on)).1;
      pair = u.pair;
      below = u.below;
      seeks = seeks;
      rest = rest_kept v.known w.known p p' e.0.rest (ap (λ (x : Purse). x.spent) same) u.rest;
      out = out_same g.records v.known w.known p p' e.0.rest.owned same u.carries.out;
      looks = λ is. (u.carries.none is, u.looks is);
    }

    pub has_arrived : (from : TreeView) (free : List ℕ) → IsUnder z share g v p from free → Tries (map_sizes z) g g.lost from v
        → HasArrived z share g sought w p' from free
    has_arrived from free u t = let a = ends_walks z g.call k sought v w e t.counts.tally in
        let s = ends_same z g.call k sought v w e in let zero : g.lost ≡ g.lost + 0 = omega arith in record {
          counts = counts_on (map_sizes z) g.call from v w 0 g.lost g.lost g.struck t.counts a zero s.1;
          last = saw_last from v w t.counts.since.went landed_stepped landed_some;
          losing_still = λ off. losing_on (map_sizes z) g.call from v w 0 t.counts.tally a.memory (steps_made v w) (t.untaken off).0;
          settled = λ off plain. subst (λ (n : ℕ). Replied g.call (reply_at g.call (found_by g sought w.known)) n from w) (sym s.1)
              (subst (λ (o : Option ℕ). Replied g.call (reply_at g.call o) v.known.own.start from w) (sym found_is)
              (replied_on g.call (reply_at g.call (sought_value z g.call k sought v w e)) v.known.own.start from v w
              t.counts.since.went.number (t.untaken off).1 (ends_replied z g.call k sought v w e goes.call (goes.going ∙ ap not off)
              (ap (λ (o : Option ℕ). changes (reply_at g.call o)) (sym found_is) ∙ plain))));
          opened = λ off change. let x = ends_effect z g.call k sought v w e goes.call (goes.going ∙ ap not off)
              (ap (λ (o : Option ℕ). changes (reply_at g.call o)) (sym found_is) ∙ change) in (
                unplaced_on from v w t.counts.since.went.number (t.untaken off).1 x.0,
                subst (λ (n : ℕ). IsRight (log_of w.order) n (key_of g.call) (found_by g sought w.known)) (sym s.1)
                    (subst (λ (o : Option ℕ). IsRight (log_of w.order) v.known.own.start (key_of g.call) o) (sym found_is) x.2),
              );
          taken = λ on. taken_on (map_sizes z) g.call from v w 0 g.races g.taken v.known.own.start t.counts.tally a.memory t.counts.since
              landed_stepped (ends_again z g.call k sought v w e goes.call (goes.going ∙ ap not on)).0 (t.taken on);
          ended = λ on. let h = t.taken on in ended_at e.1.place (word_of sought.edge) e.1.announced e.1.number _ e.1.read
              (slot w.known sought.word).key t.counts.tally a.memory 0 (steps_made v w) (ends_names z g.call k sought v w e).named
              h.memory h.lost h.early h.later h.is;
          carries = carries_on HasOut 2 share g.call g.records from v w free p p' e.0.rest.sizes
              (out_same g.records v.known w.known p p' e.0.rest.owned same) (ap (λ (x : Purse). x.free.items) same)
              (λ looks. (landed_stepped, silent, same_purse v w e.0.rest)) u.carries;
        }
