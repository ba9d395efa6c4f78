-- A turn of a call's seek.
use Rattle.std.proofs.Common.{◌≡◌, ℕ, ◌+◌, ◌-◌, ◌<◌, ◌≤◌, ◌^◌, Bool, true, false, cond, List}
use Rattle.std.proofs.Common.{length, refl, sym, ◌∙◌, subst, ⊎_elim}
use Rattle.std.proofs.Common.{Option, Some, None, arith}
use Rattle.std.specs.Prelude.{nat_lt}
use Rattle.std.proofs.Math.Bool.{false≢true}
use Rattle.pp_link.specs.declared.layout.Sizes.{Sizes}
use Rattle.pp_model.specs.declared.Call.{Call}
use Rattle.pp_model.specs.declared.Turned.TheVariants.{On}
use Rattle.pp_model.specs.Calls.{key_of}
use Rattle.pp_model.specs.MapCalls.{WentOn, keys_narrowed}
use Rattle.pp_base.specs.declared.purse.Purse.{Purse}
use Rattle.pp_shelf.specs.Runs.{map_sizes, steps_made}
use Rattle.pp_seek.specs.declared.seek.Seek.{Seek}
use Rattle.pp_seek.specs.declared.seek.Spot.{Spot}
use Rattle.pp_seek.specs.Trails.{Trail, SameCall}
use Rattle.pp_seek.specs.Seeking.{Seeks as IsSeek, SeeksAt, Enters, ComesDown, Loses, FoundInvalid}
use Rattle.pp_seek.specs.Seeking.{FoundOther, FoundOutside, WasLost, WentOn as SeekWentOn}
use Rattle.pp_trees.specs.Trees.{inf0}
use Rattle.pp_trees.specs.Edges.{TreeView}
use Rattle.pp_turns.specs.Tallies.{memory_of}
use Rattle.pp_turns.proofs.Stretches.{saw_last}
use Rattle.pp_tree_turns.specs.Walked.{Walked}
use Rattle.pp_tree_turns.specs.Turning.{Minds}
use Rattle.pp_tree_turns.proofs.Seeks.{trail_names, enters_walks, further_walks, lost_walks}
use Rattle.pp_tree_calls.specs.declared.going.TreeGoing.{TreeGoing}
use Rattle.pp_tree_calls.specs.declared.going.Next.{Next}
use Rattle.pp_tree_calls.specs.declared.going.Next.TheVariants.{Seeks}
use Rattle.pp_tree_calls.specs.Going.{upper_at, lower_at, going_of, Begun, Tries, Goes, Stands, IsUnder}
use Rattle.pp_tree_calls.specs.Turned.{HasLost, TreeTurned}
use Rattle.pp_tree_calls.proofs.Lasting.{moved_memory, tries_on}
use Rattle.pp_tree_calls.proofs.Treading.{some_named, carries_trail, trail_unplaced, rest_on, first_tries, next_tries}
use Rattle.pp_tree_calls.proofs.Treading.{both_calls}

-- a turn that was lost made a step
pub lost_some : (z : Sizes) (s : Spot) (v w : TreeView) → Loses z s v w → 0 < length (steps_made v w)
lost_some z s v w l = let named = (trail_names v w l.trail).named in
    ⊎_elim (λ (f : FoundInvalid z l.trail.steps). some_named _ _ (steps_made v w) (named ∙ f.front.is))
    (λ y. ⊎_elim (λ (f : FoundOther z l.trail.steps). some_named _ _ (steps_made v w) (named ∙ f.front.is))
    (λ (f : FoundOutside z s l.trail.steps). some_named _ _ (steps_made v w) (named ∙ f.front.is)) y) l.cause

module _ (z : Sizes) (share : ℕ) (g : TreeGoing) (v w : TreeView) (p p' : Purse) (same : p' ≡ p) where
  abbrev Trying : Next → Option Spot → TreeView → Type 0
  Trying next spot from = (t : Tries (map_sizes z) (record g { next = next }) g.lost from w)
      × (Goes (record g { next = next }) w.known × Minds (memory_of t.counts.tally) spot)

  begun_on : (fresh : Bool) (next : Next) (spot : Option Spot) (from : TreeView) → fresh ≡ false → Trying next spot from
      → Begun fresh z (record g { next = next }) spot from w
  begun_on true next spot from is t = absurd (false≢true (sym is))
  begun_on false next spot from is t = t

  -- it entered the tree
  entered : (call : Call) (fresh : Bool) (n : Spot) (next : Next) (from : TreeView) → call ≡ g.call → Enters z call fresh n v w
      → key_of g.call < inf0 → Begun fresh z g None from v → Trying next (Some n) from
  entered call true n next from asked e pair b = first_tries z share g v w p p' same call n next None from asked e pair b
  entered call false n next from asked e pair b =
      let x = enters_walks z g.call false n b.0.counts.tally v w (subst (λ (c : Call). Enters z c false n v w) asked e) pair in
      let own = both_calls v e.first w (e.again refl) e.same in
      let t = next_tries z share g v w p p' same next from b.0 x.0 (trail_unplaced v w e.trail) own.start in (
        t,
        (
          record { call = own.call ∙ b.1.0.call; going = own.going ∙ b.1.0.going },
          subst (λ (m : Walked). Minds m (Some n)) (sym (moved_memory b.0.counts.tally x.0.memory 0 (steps_made v w))) x.1,
        ),
      )

  -- or came down
  came_down : (call : Call) (fresh : Bool) (s n : Spot) (next : Next) (from : TreeView) → fresh ≡ false → call ≡ g.call
      → ComesDown z s n v w
      → Begun fresh z g (Some s) from v → Trying next (Some n) from
  came_down call true s n next from is asked c b = absurd (false≢true (sym is))
  came_down call false s n next from is asked c b =
      let x = further_walks z g.call s n b.0.counts.tally v w c b.1.0.call b.1.1 in let own = c.0.same in
      let t = next_tries z share g v w p p' same next from b.0 x.0 (trail_unplaced v w c.0.trail) own.start in (
        t,
        (
          record { call = own.call ∙ b.1.0.call; going = own.going ∙ b.1.0.going },
          subst (λ (m : Walked). Minds m (Some n)) (sym (moved_memory b.0.counts.tally x.0.memory 0 (steps_made v w))) x.1,
        ),
      )

  -- What a seek's turn that goes on makes of the call.
  pub record GoesOn (fresh : Bool) (spot : Option Spot) (fresh' : Bool) (spot' : Option Spot) (next : Next) : Type 0 where
    pub trail : Trail v w
    pub some_made : 0 < length (steps_made v w)
    pub high : upper_at spot ≤ 2 ^ 64 → upper_at spot' ≤ 2 ^ 64
    pub narrows : upper_at spot' - lower_at spot' < upper_at spot - lower_at spot
    pub begun : (from : TreeView) → Begun fresh z g spot from v → Begun fresh' z (record g { next = next }) spot' from w

  pub seek_goes_on : (call call' : Call) (fresh fresh' : Bool) (spot spot' : Option Spot) (next : Next) → call ≡ g.call
      → key_of g.call < inf0 → SeeksAt v.known call fresh spot → SeeksAt w.known call' fresh' spot'
      → SeekWentOn z call fresh spot spot' v w → GoesOn fresh spot fresh' spot' next
  seek_goes_on call call' fresh fresh' None None next asked pair was now went = absurd went
  seek_goes_on call call' fresh fresh' (Some s) None next asked pair was now went = absurd went
  seek_goes_on call call' fresh fresh' None (Some n) next asked pair was now went =
      let low = went.bounds.0 in let high = went.bounds.1 in let root = went.root in record {
        trail = went.trail;
        some_made = some_named _ _ (steps_made v w) ((trail_names v w went.trail).named ∙ went.steps_are);
        high = λ _. omega arith;
        narrows = omega arith;
        begun = λ from b. begun_on fresh' next (Some n) from now.begun (entered call fresh n next from asked went pair b);
      }
  seek_goes_on call call' fresh fresh' (Some s) (Some n) next asked pair was now went = record {
    trail = went.0.trail;
    some_made = some_named _ _ (steps_made v w) ((trail_names v w went.0.trail).named ∙ went.1.front.is);
    high = λ hi. high_by (nat_lt (key_of v.known.own.call) n.key) hi went.0.high_is;
    narrows = went.0.narrows;
    begun = λ from b. begun_on fresh' next (Some n) from now.begun (came_down call fresh s n next from was.begun asked went b);
  }
    where
      high_by : (b : Bool) → s.high ≤ 2 ^ 64 → n.high ≡ cond b n.key s.high → n.high ≤ 2 ^ 64
      high_by true hi is = let under = went.0.between.1 in omega arith
      high_by false hi is = omega arith

  -- It is under way still.
  pub seek_under : (s s' : Seek) → IsSeek v.known s → IsSeek w.known s' → s'.call ≡ s.call → SeekWentOn z s.call s.fresh s.spot s'.spot v w
      → g.next ≡ Seeks s → (from : TreeView) (free : List ℕ) → IsUnder z share g v p from free
      → IsUnder z share (record g { next = Seeks s' }) w p' from free
  seek_under s s' was now call went at from free u =
      let k = subst (λ (n : Next). Stands z g n from v) at u.stands in
      let o = seek_goes_on s.call s'.call s.fresh s'.fresh s.spot s'.spot (Seeks s') k.0 u.pair was now went in record {
        pair = u.pair;
        below = u.below;
        rest = rest_on z share g v w p p' same o.trail u.rest;
        looks = u.looks;
        carries = carries_trail share g.call g.records from v w free p p' o.trail same u.carries;
        stands = (call ∙ k.0, (now, o.high k.1.1, o.begun from k.1.2));
      }

  pub seek_turned : (s s' : Seek) → IsSeek v.known s → IsSeek w.known s' → s'.call ≡ s.call → SeekWentOn z s.call s.fresh s.spot s'.spot v w
      → g.next ≡ Seeks s → s.call ≡ g.call → key_of g.call < inf0 → upper_at s.spot ≤ 2 ^ 64
      → TreeTurned z share g (record g { next = Seeks s' }) v w p p' On
  seek_turned s s' was now call went at asked pair high =
      let o = seek_goes_on s.call s'.call s.fresh s'.fresh s.spot s'.spot (Seeks s') asked pair was now went in
      let names = trail_names v w o.trail in record {
        stepped = names.stepped;
        some_made = o.some_made;
        stands = names.stands;
        same = record {
          call = refl;
          races = refl;
          high = o.high high;
        };
        stays = λ on. on;
        strikes = λ off on. absurd (false≢true (sym off ∙ on));
        struck = tt;
        went = subst (λ (n : Next). WentOn (going_of v.known (record g { next = n }))
            (going_of w.known (record g { next = Seeks s' }))) (sym at)
            (keys_narrowed refl refl o.narrows);
        goes_on = λ from free u. seek_under s s' was now call went at from free u;
        answered = tt;
      }

  -- A turn of it was lost.
  pub seek_lost : (s s' : Seek) → IsSeek v.known s → WasLost z s.spot s'.spot v w → g.next ≡ Seeks s
      → (from : TreeView) (free : List ℕ) → IsUnder z share g v p from free → HasLost z share g s' w p' from free
  seek_lost s s' was lost at from free u = by s.spot s.fresh was lost (subst (λ (n : Next). Stands z g n from v) at u.stands).1.2
    where
      by : (spot : Option Spot) (fresh : Bool) → SeeksAt v.known s.call fresh spot → WasLost z spot s'.spot v w
          → Begun fresh z g spot from v
          → HasLost z share g s' w p' from free
      by None fresh was lost b = absurd lost
      by (Some x) true was lost b = absurd (false≢true (sym was.begun))
      by (Some x) false was lost b = let a = lost_walks z g.call x s'.spot b.0.counts.tally v w lost.0 lost.1 b.1.1 in
          let names = trail_names v w lost.0.trail in record {
            tries = tries_on (map_sizes z) g g.lost (g.lost + 1) 1 from v w b.0 a.0 refl (trail_unplaced v w lost.0.trail) lost.2.start;
            minds = subst (λ (m : Walked). Minds m s'.spot) (sym (moved_memory b.0.counts.tally a.0.memory 1 (steps_made v w))) a.1;
            last = saw_last from v w b.0.counts.since.went names.stepped (lost_some z x v w lost.0);
            carries = carries_trail share g.call g.records from v w free p p' lost.0.trail same u.carries;
          }

  -- what a turn that was lost made of its pass
  pub record LostTurn (s s' : Seek) : Type 0 where
    pub trail : Trail v w
    pub some_made : 0 < length (steps_made v w)
    pub own : SameCall v.known.own w.known.own

  pub lost_turn : (s s' : Seek) → WasLost z s.spot s'.spot v w → LostTurn s s'
  lost_turn s s' lost = by s.spot lost
    where
      by : (spot : Option Spot) → WasLost z spot s'.spot v w → LostTurn s s'
      by None l = absurd l
      by (Some x) l = record { trail = l.0.trail; some_made = lost_some z x v w l.0; own = l.2 }
