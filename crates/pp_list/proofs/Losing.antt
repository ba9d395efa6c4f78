-- A turn of a call on a list that was lost.
use Rattle.std.proofs.Common.{◌≡◌, ℕ, ◌+◌, ◌<◌, Bool, true, false, List, refl, sym, ◌∙◌, subst, inl, arith}
use Rattle.std.proofs.Math.Bool.{false≢true}
use Rattle.pp_link.specs.declared.layout.Sizes.{Sizes}
use Rattle.pp_model.specs.declared.Answer.TheVariants.{Lost}
use Rattle.pp_model.specs.declared.Turned.{Turned}
use Rattle.pp_model.specs.declared.Turned.TheVariants.{On, Done}
use Rattle.pp_model.specs.Calls.{key_of}
use Rattle.pp_base.specs.declared.purse.Purse.{Purse}
use Rattle.pp_base.specs.Passes.{IsAtRest}
use Rattle.pp_calls.proofs.Growing.{stepped_none}
use Rattle.pp_lists.specs.Walks.{bucket}
use Rattle.pp_lists.specs.Turns.{ListView}
use Rattle.pp_walk.specs.declared.walk.Walk.{Walk}
use Rattle.pp_walk.specs.Roles.{IsWalk}
use Rattle.pp_list.specs.declared.going.ListGoing.{ListGoing}
use Rattle.pp_list.specs.declared.going.Next.TheVariants.{Walks}
use Rattle.pp_list.specs.Going.{Begun, Tries}
use Rattle.pp_list.specs.Answers.{Ends}
use Rattle.pp_list.specs.Turned.{SameGoing, Part, HasLost}

module _ (z : Sizes) (share : ℕ) (g : ListGoing) (v : ListView) (p : Purse) (unstruck : g.struck ≡ false) where
  begun_again : (fresh : Bool) → fresh ≡ false → (from : ListView) → Tries z g.call (g.lost + 1) from v
      → Begun fresh z g.call (g.lost + 1) from v
  begun_again true is from t = absurd cc
  begun_again false is from t = t

  -- It goes on: its walk is on its way.
  pub lost_goes : (walk : Walk) → g.head < z.heads → g.head ≡ bucket z.heads (key_of g.call) → g.lost + 1 < g.races → IsAtRest v.known p
      → walk.call ≡ g.call → IsWalk z v.known walk → walk.fresh ≡ false
      → Part z share (HasLost z share g v p) g (record g { lost = g.lost + 1; next = Walks walk }) v v p On
  lost_goes walk low home below rest asked walks on_its_way = record {
    stepped = stepped_none v v refl;
    stands = λ own stands. stands;
    same = record { head = refl; call = refl; races = refl };
    strikes = λ now. absurd (false≢true (sym unstruck ∙ now));
    struck = tt;
    advances = inl (refl, below);
    goes_on = λ from free k. record {
      low = low;
      home = home;
      below = below;
      struck = unstruck;
      rest = rest;
      carries = k.carries;
      stands = (asked, (walks, begun_again walk.fresh on_its_way from k.tries));
    };
    answered = tt;
  }

  -- It gave up.
  pub lost_ends : (g' : ListGoing) (w : ListView) (p' : Purse) (result : Turned) → SameGoing g g' → g'.lost ≡ g.lost + 1
      → g'.struck ≡ false → g.lost + 1 ≡ g.races → result ≡ Done (Lost (g.lost + 1))
      → Ends z share g.races g.call g.fresh (Lost (g.lost + 1)) v w p p' → Part z share (HasLost z share g v p) g g' v w p' result
  lost_ends g' w p' result same lost_now none all is e =
      subst (λ (r : Turned). Part z share (HasLost z share g v p) g g' v w p' r) (sym is) record {
        stepped = e.calm.stepped;
        stands = e.calm.stands;
        same = same;
        strikes = λ now. absurd (false≢true (sym none ∙ now));
        struck = none;
        advances = tt;
        goes_on = tt;
        answered = λ from free k stands. e.answered from free g'.lost record {
          by = (
            record {
              start = v.known.own.start;
              memory = k.tries.memory;
              since = k.tries.since;
              all = all;
              unplaced = k.tries.unplaced;
            },
            sym lost_now,
          );
          last = k.last;
          sizes = k.carries.sizes;
          kept = let few = k.carries.kept in omega arith;
          alone = k.carries.alone;
        } stands;
      }
