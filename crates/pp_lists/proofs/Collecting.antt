-- A removed record joins the chain that a walk gathers.
use Rattle.std.proofs.Common.{◌≡◌, ◌≢◌, inl, inr, ⊎_elim, ℕ, ◌<◌, Bool, true, false, cond, nat_lt}
use Rattle.std.proofs.Common.{List, [], ◌∷◌, ◌++◌, length, get_or, sym, refl, ap, ◌∙◌, subst, arith, append-nil}
use Rattle.std.proofs.Math.Decide.{ℕ_discrete}
use mathlib.Core.Logic.{dite}
use Rattle.pp_link.specs.declared.layout.Sizes.{Sizes}
use Rattle.pp_link.specs.Links.{target, invalid_bit, flag_bit}
use Rattle.pp_link.specs.Places.{IsNumber, cell_place}
use Rattle.pp_link.specs.Words.{cell_word}
use Rattle.pp_model.specs.declared.Change.{Change}
use Rattle.pp_model.specs.declared.Placed.{Placed}
use Rattle.pp_rule.specs.declared.views.WalkSlot.{WalkSlot}
use Rattle.pp_rule.specs.Orders.{log_of, placed_by, load_step}
use Rattle.pp_rule.specs.Views.{slot}
use Rattle.pp_rule.specs.States.{attached, Held}
use Rattle.pp_rule.specs.Rule.{Base}
use Rattle.pp_rule.specs.Steps.{entry}
use Rattle.pp_rule.proofs.Slots.{WalkSet, slot_here, slot_else}
use Rattle.pp_rule.proofs.Stepping.{after_step, KeepsRule}
use Rattle.pp_rule.proofs.Keeping.{load_keeps}
use Rattle.pp_rule.proofs.Confirming.{learnt_of, base_link_learnt}
use Rattle.pp_lists.specs.declared.own.Gathered.{Gathered}
use Rattle.pp_lists.specs.Walks.{Heap, heap, IsSeen, Joined}
use Rattle.pp_lists.specs.Walks.Joined.{done}
use Rattle.pp_lists.specs.Lists.{ListPass, ListState, ListStep, Gathering, Walks, Lists}
use Rattle.pp_lists.specs.Turns.{and_gathered, gathering}
use Rattle.pp_lists.proofs.Walking.{real}
use Rattle.pp_lists.proofs.Taking.{chain_on}
use Rattle.pp_lists.proofs.Heaps.{sane_of}
use Rattle.pp_rule.proofs.OwnSteps.{HoldsStill, any_word}
use Rattle.pp_lists.proofs.Keeping.{Steadily, stood_on, gathering_on}
use Rattle.pp_lists.proofs.Marking.{joined_more, intact_more, none_intact, less_from}
use Rattle.pp_lists.proofs.Standing.{lists_own, walks_of, held_of}

pub steady_still : (z : Sizes) (t : Heap) (log : List Change) → Steadily z t t log log
steady_still z t log = record {
  grown = omega arith;
  same = λ n _. refl;
  finds = λ k a n _ _ f. inl f;
  was = λ n _ st. st;
  intact = λ n cs x _ j _ i. i;
}

-- the load of the left link of the record in the word j
module _ (z : Sizes) (words : List ℕ) (g : ListState) (q : ListPass) (j place : ℕ) (b : Base 1 z words g)
    (lists : Lists z words g)
    (pass : q.number < z.passes) (is : g.of q.number ≡ q) (sizes : q.sizes ≡ z) (lt : j < 5) (held : (slot q j).held ≡ true)
    (at : place ≡ cell_place z (slot q j).named 2)
    (leads : q.own.first < 5 → Joined (slot q q.own.first).named q.own.chain (slot q j).named)
    (ok : invalid_bit (get_or words place 0) ≡ 0)
    (flag : flag_bit (get_or words place 0) ≡ 1) where
  h : Held z words g.status (slot q j)
  h = held_of z words g q b lists pass is j lt held

  link_is : cell_word words z (slot q j).named 2 ≡ get_or words place 0
  unfolding cell_word
  link_is = ap (λ (p : ℕ). get_or words p 0) (sym at)

  abbrev learnt : WalkSlot
  learnt = learnt_of 0 (get_or words place 0) (slot q j)

  abbrev after_load : ListPass
  after_load = gathering j (get_or words place 0) q

  abbrev load_entry : ListStep
  load_entry = entry load_step place (get_or words place 0) (get_or words place 0) [] [] g.order after_load

  in_walk : j < length q.walk
  in_walk = let f : length q.walk ≡ 5 = ap (λ (v : ListPass). length v.walk) (sym is) ∙ b.hazards.five q.number pass in
      omega arith

  base_gathered : Base 1 z words (after_step g after_load g.status load_entry)
  base_gathered = base_link_learnt 1 z words g q after_load j load_entry 0 b pass is lt held (omega arith)
      (λ bits. let f : flag_bit (cell_word words z (slot q j).named 2) ≡ 1 = ap flag_bit link_is ∙ flag in omega arith)
      (subst (λ (w : ℕ). WalkSet j (learnt_of 0 w (slot q j)) q after_load) (sym link_is)
      record {
        number = refl;
        sizes = refl;
        owned = refl;
        retired_are = refl;
        frontier = refl;
        chains = refl;
        scan = refl;
        walk = refl;
      })

  here : slot after_load j ≡ learnt
  here = slot_here q after_load j learnt refl in_walk

  elsewhere : (i : ℕ) → i ≢ j → slot after_load i ≡ slot q i
  elsewhere i ne = slot_else q after_load j learnt refl i ne

  still : HoldsStill any_word (slot q) (slot after_load)
  still = record {
    held = λ i _ _ was. dite (ℕ_discrete i j)
        (λ same. subst (λ (i : ℕ). (slot after_load i).held ≡ true) (sym same) (ap (λ (v : WalkSlot). v.held) here ∙ held))
        (λ ne. ap (λ (v : WalkSlot). v.held) (elsewhere i ne) ∙ was);
    named = λ i _ _ was. dite (ℕ_discrete i j)
        (λ same. subst (λ (i : ℕ). (slot after_load i).named ≡ (slot q i).named) (sym same) (ap (λ (v : WalkSlot). v.named) here))
        (λ ne. ap (λ (v : WalkSlot). v.named) (elsewhere i ne));
  }

  is_real : (slot q j).named ≢ 0
  is_real = real z (slot q j).named h.number

  abbrev last : Gathered
  last = record { number = (slot q j).named; link = get_or words place 0 }

  gathered : (some_before : Bool) → nat_lt q.own.first 5 ≡ some_before
      → Gathering z (heap z words g.status) (slot q) q.own.first q.own.chain
      → Gathering z (heap z words g.status) (slot q) (cond some_before q.own.first j)
      (cond some_before (q.own.chain ++ last ∷ []) (last ∷ []))
  gathered true is_small o = let small = less_from q.own.first 5 is_small in let t : Heap = heap z words g.status in
      let n : ℕ = (slot q q.own.first).named in record {
        held = o.held;
        joined = λ _. (target (get_or words place 0), joined_more n q.own.chain last (leads small) is_real flag ok);
        intact = λ _ st. let i = o.intact small st in let hn = held_of z words g q b lists pass is q.own.first small
            (o.held small) in
            let on_c = chain_on z t (sane_of z words g b) lists.listed n q.own.chain (slot q j).named (leads small) i
            (inr (hn.number, st)) in
            intact_more z t q.own.chain last i h.number (⊎_elim (λ (nil : (slot q j).named ≡ 0). absurd (is_real nil))
            (λ (y : IsNumber z (slot q j).named × (g.status (slot q j).named ≡ attached)). y.1) on_c) link_is;
      }
  gathered false is_small o = let t : Heap = heap z words g.status in record {
    held = λ _. held;
    joined = λ _. (target (get_or words place 0), joined_more (slot q j).named [] last (done refl) is_real flag ok);
    intact = λ _ st. intact_more z t [] last (none_intact z t) h.number st link_is;
  }

  walks_after : Walks z (heap z words g.status) (log_of g.order) q.number (slot after_load) after_load.own
      (placed_by q.number g.order)
  walks_after = let t : Heap = heap z words g.status in let log : List Change = log_of g.order in
      let o = walks_of z words g q b lists pass is in let steady = steady_still z t log in
      let seen : (i : ℕ) → i < 5 → (slot q i).held ≡ true → IsSeen z t (slot q i).named =
      λ i li y. (let hi = held_of z words g q b lists pass is i li y in inr (hi.number, hi.used)) in
      let seen' : (i : ℕ) → i < 5 → (slot after_load i).held ≡ true
      → IsSeen z t (slot after_load i).named = λ i li y. dite (ℕ_discrete i j)
      (λ same. subst (λ (i : ℕ). IsSeen z t (slot after_load i).named) (sym same)
      (subst (λ (v : WalkSlot). IsSeen z t v.named) (sym here) (inr (h.number, h.used))))
      (λ ne. subst (λ (v : WalkSlot). IsSeen z t v.named) (sym (elsewhere i ne))
      (seen i li (ap (λ (v : WalkSlot). v.held) (sym (elsewhere i ne)) ∙ y))) in
      record {
        stands = o.stands;
        since = o.since;
        earlier = o.earlier;
        stood = stood_on z t t log log steady q.number any_word (slot q)
            (slot after_load) still seen seen' q.own.going q.own.call q.own.start q.own.at
            (λ _. tt) o.since o.stood;
        gathering = gathering_on z t t log log steady q.number any_word (slot q) (slot after_load) still seen seen'
            (and_gathered j last q.own).first
            (and_gathered j last q.own).chain (λ _. tt) (gathered (nat_lt q.own.first 5) refl o.gathering);
      }

  -- it keeps the rule, where it finds FLAG and no INVALID
  pub keeps_gathered : (opens : Sizes → List ℕ) → KeepsRule 1 opens Lists load_step place (get_or words place 0)
      (get_or words place 0) z words g q
      (gathering j (get_or words place 0) q) g.status [] []
  keeps_gathered opens = load_keeps 1 opens Lists load_step place z words g q after_load g.status [] [] refl sizes base_gathered
      (lists_own z words g q after_load load_entry lists refl refl refl
      (subst (λ (mine : List Placed). Walks z (heap z words g.status) (log_of g.order) q.number
      (slot after_load) after_load.own mine)
      (sym (append-nil (placed_by q.number g.order))) walks_after) is refl)
