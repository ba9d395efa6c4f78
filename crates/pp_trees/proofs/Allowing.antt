-- The exchanges and the or-step at a tree's edges, as steps that the rule allows.
use Rattle.std.proofs.Common.{◌≡◌, ◌≢◌, inr, ℕ, ◌+◌, ◌*◌, ◌<◌, Bool, true, false, cond, eqb, List, [], ◌∷◌, ◌++◌, get_or, bit_or}
use Rattle.std.proofs.Common.{refl, sym, ◌∙◌, subst, eq-eqb, ne_eqb}
use Rattle.std.proofs.Math.Bool.{false≢true}
use Rattle.std.proofs.Math.Decide.{ℕ_discrete}
use prog.Atomic.{either}
use mathlib.Core.Logic.{dite}
use Rattle.atomic_table.specs.Table.{Me, Allows}
use Rattle.pp_link.specs.declared.layout.Sizes.{Sizes}
use Rattle.pp_link.specs.Links.{target}
use Rattle.pp_link.specs.Places.{cell_place}
use Rattle.pp_model.specs.declared.Change.{Change}
use Rattle.pp_model.specs.declared.Placed.{Placed}
use Rattle.pp_model.specs.declared.Call.{Call}
use Rattle.pp_model.specs.declared.Call.TheVariants.{Insert}
use Rattle.pp_model.specs.declared.Reply.{Reply}
use Rattle.pp_model.specs.declared.Reply.TheVariants.{Added, Took}
use Rattle.pp_model.specs.History.{Stands}
use Rattle.pp_rule.specs.Orders.{log_of, placed_by, goes_aside, missed_step, only_loads}
use Rattle.pp_rule.specs.Rule.{Base}
use Rattle.pp_rule.specs.Views.{slot, value_of}
use Rattle.pp_rule.specs.States.{IsSmall}
use Rattle.pp_rule.specs.Steps.{alone, entry, IsAlone, IsSource, MadeStep, MadeQuietStep}
use Rattle.pp_rule.specs.Ties.{Holds}
use Rattle.pp_rule.proofs.Keeping.{idle_keeps}
use Rattle.pp_rule.proofs.Sources.{source_sound}
use Rattle.pp_rule.proofs.Stepping.{Plays, allows, allows_by}
use Rattle.pp_trees.specs.Searches.{TreePass, TreeState, Trees}
use Rattle.pp_trees.specs.Edges.{TreeView, publish_step, flag_step, tag_step, change_at, placed_at}
use Rattle.pp_trees.specs.Edges.{MayPublish, published_pass, Publishes, MayFlag, flagged_pass, Flags, MayTag, Tags}
use Rattle.pp_trees.proofs.Walking.{side_low}
use Rattle.pp_trees.proofs.Keeping.{trees_alike}
use Rattle.pp_trees.proofs.Telling.{change_told, place_told}
use Rattle.pp_trees.proofs.Adding as adding
use Rattle.pp_trees.proofs.Flagging as flagging
use Rattle.pp_trees.proofs.Tagging as tagging

-- the word of a link that a pass may load is small
pub loads_small : (z : Sizes) (words : List ℕ) (g : TreeState) (q : TreePass) (place : ℕ) → Base 2 z words g
    → q.number < z.passes → g.of q.number ≡ q
    → IsSource 2 z q place → IsSmall (get_or words place 0)
loads_small z words g q place b pass is source = (source_sound 2 z words g q place b pass is source).small

-- the record where a call stands is held
pub stands_held : (z : Sizes) (words : List ℕ) (g : TreeState) (q : TreePass) → Trees z words g → q.number < z.passes
    → g.of q.number ≡ q → q.own.at < 5
    → (slot q q.own.at).held ≡ true
stands_held z words g q tr pass is at = subst (λ (v : TreePass). v.own.at < 5
    → (slot v v.own.at).held ≡ true) is (tr.each q.number pass).seated.held at

-- An exchange of a tree's own kind at an edge of the record where the call stands: it is made where the first word is found,
-- and else
-- nothing changes.
module _ (opens : Sizes → List ℕ) (z : Sizes) (kind : ℕ) (silent : goes_aside kind ≡ false) (writes : only_loads kind ≡ false) where
  stores_none : (hit : Bool) → goes_aside (cond hit kind missed_step) ≡ false
  stores_none true = silent
  stores_none false = refl

  -- an exchange that misses leaves what it found
  missed_keeps : (hit : Bool) (n new : ℕ) → only_loads (cond hit kind missed_step) ≡ true → either hit new n ≡ n
  missed_keeps true n new bad = absurd (false≢true (sym writes ∙ bad))
  missed_keeps false n new is = refl

  pub exchange_allowed : (slots id place sd first new : ℕ) (me : Me Unit TreeView) (then : ℕ → Me Unit TreeView → Type 0)
      → IsAlone me
      → me.0.known.own.at < 5 → sd < 2 → place ≡ cell_place z (slot me.0.known me.0.known.own.at).named (2 + sd)
      → ((words : List ℕ) (g : TreeState) → Base 2 z words g → Trees z words g → me.0.known.number < z.passes
      → g.of me.0.known.number ≡ me.0.known → me.0.known.sizes ≡ z → get_or words place 0 ≡ first → IsSmall first
      → Plays 2 opens (λ z words g. Trees z words g) kind place first new z words g me.0 (then first))
      → ((n : ℕ) (v : TreeView) → n ≢ first → IsSmall n → MadeQuietStep missed_step place n n me.0.known me.0 v → then n (v, []))
      → Allows (Holds 2 opens (λ z words g. Trees z words g) z) slots id me place (λ n. either (eqb n first) new n) then
  exchange_allowed slots id place sd first new me then lone at low place_is hits misses =
      allows_by 2 opens (λ z words g. Trees z words g) z slots id place (λ n. cond (eqb n first) kind missed_step) me
      (λ n. either (eqb n first) new n) (λ n. n) then lone (λ m no. refl)
      (λ m bad. absurd (false≢true (sym (stores_none (eqb m first)) ∙ bad))) (λ m. missed_keeps (eqb m first) m new)
      (λ words g b tr pass is sizes fits. let n : ℕ = get_or words place 0 in
      let small : IsSmall n = loads_small z words g me.0.known place b pass is
      (inr (me.0.known.own.at, (sd, (at, low, stands_held z words g me.0.known tr pass is at, place_is)))) in
      dite (ℕ_discrete n first)
      (λ e. subst (λ (hit : Bool). Plays 2 opens (λ z words g. Trees z words g) (cond hit kind missed_step) place n
      (either hit new n)
      z words g me.0 (then n)) (sym (eq-eqb n first e))
      (subst (λ (found : ℕ). Plays 2 opens (λ z words g. Trees z words g) kind place found new z words g me.0 (then found))
      (sym e)
      (hits words g b tr pass is sizes e (subst IsSmall e small))))
      (λ ne. subst (λ (hit : Bool). Plays 2 opens (λ z words g. Trees z words g) (cond hit kind missed_step) place n
      (either hit new n)
      z words g me.0 (then n)) (sym (ne_eqb n first ne)) record {
        known = me.0.known;
        status = g.status;
        changes = [];
        placed = [];
        keeps_rule = idle_keeps 2 opens (λ z words g. Trees z words g) trees_alike missed_step place z words g me.0.known b tr
            pass is sizes;
        tells = λ v is_now made. misses n v ne small made;
      }))

-- What a step tells at which a call took effect, with the change and the placed call as the view after it names them.
effect_told : (z : Sizes) (words : List ℕ) (g : TreeState) (kind place word left : ℕ) (call : Call) (r : Reply) (c : Change)
    (s : Placed)
    (known : TreePass) (v w : TreeView) → w ≡ alone (g.order ++ entry kind place word left (c ∷ [])
    (s ∷ []) g.order known ∷ []) known
    → change_at call w ≡ c → placed_at call r w ≡ s → MadeStep kind place word left (c ∷ []) (s ∷ []) known v w
    → MadeStep kind place word left (change_at call w ∷ []) (placed_at call r w ∷ []) known v w
effect_told z words g kind place word left call r c s known v w at change_is placed_is made =
    subst (λ (x : Change). MadeStep kind place word left (x ∷ []) (placed_at call r w ∷ []) known v w) (sym change_is)
    (subst (λ (x : Placed). MadeStep kind place word left (c ∷ []) (x ∷ []) known v w) (sym placed_is) made)

pub publishes_pair : (opens : Sizes → List ℕ) (z : Sizes) (slots id place k v first : ℕ) (me : Me Unit TreeView) → IsAlone me
    → (may : MayPublish z me.0.known place k v first)
    → Allows (Holds 2 opens (λ z words g. Trees z words g) z) slots id me place (λ n. either (eqb n first)
    (16 * may.d_inner.number) n)
    (λ n m'. (m'.1 ≡ []) × Publishes may.i_leaf may.i_inner may.d_leaf.number may.d_inner.number place k v first n me.0 m'.0)
publishes_pair opens z slots id place k v first me lone may = exchange_allowed opens z publish_step refl refl slots id place
    may.side_is first
    (16 * may.d_inner.number) me
    (λ n m'. (m'.1 ≡ []) × Publishes may.i_leaf may.i_inner may.d_leaf.number may.d_inner.number place k v first n me.0 m'.0) lone
    may.at (subst (λ (x : ℕ). x < 2) (sym may.side_of) (side_low k (slot me.0.known me.0.known.own.at).key)) may.place_is
    (λ words g b tr pass is sizes e small. let q : TreePass = me.0.known in
    let known : TreePass = published_pass may.i_leaf may.i_inner may.d_leaf.number may.d_inner.number q in
    let c : Change = adding.change z words g q place k v first b tr pass is may e in
    let s : Placed = adding.settled z words g q place k v first b tr pass is may e in record {
      known = known;
      status = adding.status' z words g q place k v first b tr pass is may e;
      changes = c ∷ [];
      placed = s ∷ [];
      keeps_rule = record {
        number = refl;
        sizes = sizes;
        base = adding.base_added z words g q place k v first b tr pass is may e;
        added = adding.trees_added z words g q place k v first b tr pass is may e;
      };
      tells = λ w at made. let entered = entry publish_step place first (16 * may.d_inner.number) (c ∷ [])
          (s ∷ []) g.order known in (
            refl,
            record {
              small = small;
              same = λ _. effect_told z words g publish_step place first (16 * may.d_inner.number)
                  (Insert k v) Added c s known me.0 w at
                  (change_told g.order known entered w at refl (Insert k v) s refl) (place_told g.order known entered w at refl
                  (Insert k v) Added c refl) made;
              other = λ ne. absurd (ne refl);
              stands = λ _. subst (λ (u : TreeView). Stands (log_of u.order) u.known.number (placed_by u.known.number u.order)) (sym at)
                  ((adding.trees_added z words g q place k v first b tr pass is may e).each q.number pass).stands;
            },
          );
    })
    (λ n w ne small made. (
      refl,
      record {
        small = small;
        same = λ e. absurd (ne e);
        other = λ _. made;
        stands = λ e. absurd
            (ne e);
      },
    ))

pub flags_edge : (opens : Sizes → List ℕ) (z : Sizes) (slots id leaf place k first : ℕ) (me : Me Unit TreeView) → IsAlone me
    → MayFlag z me.0.known leaf place k first
    → Allows (Holds 2 opens (λ z words g. Trees z words g) z) slots id me place (λ n. either (eqb n first) (first + 1) n)
    (λ n m'. (m'.1 ≡ []) × Flags leaf place k first n me.0 m'.0)
flags_edge opens z slots id leaf place k first me lone may = exchange_allowed opens z flag_step refl refl slots id place may.side_is
    first (first + 1) me
    (λ n m'. (m'.1 ≡ []) × Flags leaf place k first n me.0 m'.0) lone
    may.at (subst (λ (x : ℕ). x < 2) (sym may.side_of) (side_low k (slot me.0.known me.0.known.own.at).key)) may.place_is
    (λ words g b tr pass is sizes e small. let q : TreePass = me.0.known in
    let known : TreePass = flagged_pass may.side_is (target first) q in
    let c : Change = flagging.change z words g q leaf place k first b tr pass is may e in
    let s : Placed = flagging.settled z words g q leaf place k first b tr pass is may e in record {
      known = known;
      status = g.status;
      changes = c ∷ [];
      placed = s ∷ [];
      keeps_rule = record {
        number = refl;
        sizes = sizes;
        base = flagging.base_flagged z words g q leaf place k first b tr pass is may e;
        added = flagging.trees_flagged z words g q leaf place k first b tr pass is may e;
      };
      tells = λ w at made. let entered = entry flag_step place first (first + 1) (c ∷ []) (s ∷ []) g.order known in
          let took : Reply = Took (value_of (slot q leaf).value) in (
            refl,
            record {
              small = small;
              same = λ _. subst (λ (sd : ℕ). MadeStep flag_step place first (first + 1) (change_at q.own.call w ∷ [])
                  (placed_at q.own.call took w ∷ []) (flagged_pass sd (target first) q) me.0 w) may.side_of
                  (effect_told z words g flag_step place first (first + 1) q.own.call took c s known me.0 w at
                  (change_told g.order known entered w at refl q.own.call s refl)
                  (place_told g.order known entered w at refl q.own.call took c refl) made);
              values = λ _. flagging.same_value z words g q leaf place k first b tr pass is may e;
              other = λ ne. absurd (ne refl);
              stands = λ _. subst (λ (u : TreeView). Stands (log_of u.order) u.known.number (placed_by u.known.number u.order))
                  (sym at)
                  ((flagging.trees_flagged z words g q leaf place k first b tr pass is may e).each q.number pass).stands;
            },
          );
    })
    (λ n w ne small made. (
      refl,
      record {
        small = small;
        same = λ e. absurd (ne e);
        values = λ e. absurd (ne e);
        other = λ _. made;
        stands = λ e. absurd
            (ne e);
      },
    ))

tags_here : (opens : Sizes → List ℕ) (z : Sizes) (slots id place sd : ℕ) (me : Me Unit TreeView) → IsAlone me
    → place ≡ cell_place z (slot me.0.known me.0.known.own.at).named (2 + sd)
    → MayTag z me.0.known (cell_place z (slot me.0.known me.0.known.own.at).named (2 + sd)) sd
    → Allows (Holds 2 opens (λ z words g. Trees z words g) z) slots id me (cell_place z
    (slot me.0.known me.0.known.own.at).named (2 + sd)) (λ n. bit_or n 2)
    (λ n m'. (m'.1 ≡ []) × Tags (cell_place z (slot me.0.known me.0.known.own.at).named (2 + sd)) sd n me.0 m'.0)
unfolding Rattle.pp_link.specs.Words.cell_word
tags_here opens z slots id at sd me lone same may = let place = cell_place z (slot me.0.known me.0.known.own.at).named
    (2 + sd) in let q : TreePass = me.0.known in
    allows 2 opens (λ z words g. Trees z words g) z slots id place tag_step me (λ n. bit_or n 2) (λ n. n)
    (λ n m'. (m'.1 ≡ []) × Tags place sd n me.0 m'.0) lone (λ m none. refl) (λ m bad. absurd (false≢true bad))
    (λ m bad. absurd (false≢true bad))
    (λ words g b tr pass is sizes fits. record {
      known = tagging.after z words g q place sd b tr pass is may;
      status = g.status;
      changes = [];
      placed = [];
      keeps_rule = record {
        number = refl;
        sizes = sizes;
        base = tagging.base_tag z words g q place sd b tr pass is may;
        added = tagging.trees_tagged z words g q place sd b tr pass is may;
      };
      tells = λ w is_now made. (
        refl,
        record {
          small = loads_small z words g q place b pass is (inr (
            q.own.at,
            (
              sd,
              (may.at, may.low, stands_held z words g q tr pass is may.at, refl),
            ),
          ));
          leaf = (tagging.passed z words g q place sd b tr pass is may).leaf;
          beside = tagging.passed_beside z words g q place sd b tr pass is may;
          made = made;
        },
      );
    })

pub tags_edge : (opens : Sizes → List ℕ) (z : Sizes) (slots id place sd : ℕ) (me : Me Unit TreeView) → IsAlone me
    → MayTag z me.0.known place sd
    → Allows (Holds 2 opens (λ z words g. Trees z words g) z) slots id me place (λ n. bit_or n 2) (λ n m'. (m'.1 ≡ [])
    × Tags place sd n me.0 m'.0)
tags_edge opens z slots id place sd me lone may = subst (λ (x : ℕ). Allows (Holds 2 opens
    (λ z words g. Trees z words g) z) slots id me x (λ n. bit_or n 2)
    (λ n m'. (m'.1 ≡ []) × Tags x sd n me.0 m'.0)) (sym may.place_is)
    (tags_here opens z slots id place sd me lone may.place_is (subst (λ (x : ℕ). MayTag z me.0.known x sd) may.place_is may))
