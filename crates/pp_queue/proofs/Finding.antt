-- What the one pass of a queue finds at the steps of its calls.
use Rattle.std.proofs.Common.{◌≡◌, ◌≢◌, ℕ, zero, suc, length, ◌*◌, ◌<◌, Bool, true, false, List, get_or, refl, sym, ap, ◌∙◌, subst, arith}
use Rattle.std.proofs.Math.Decide.{ℕ_discrete}
use mathlib.Core.Logic.{dite}
use Rattle.pp_link.specs.declared.layout.Sizes.{Sizes}
use Rattle.pp_link.specs.Links.{target, invalid_bit}
use Rattle.pp_link.specs.Places.{head_place, cell_place}
use Rattle.pp_rule.specs.Orders.{stores}
use Rattle.pp_rule.specs.Steps.{MadeStep, Confirmed}
use Rattle.pp_rule.specs.Views.{slot}
use Rattle.pp_rule.proofs.Made.{known_after}
use Rattle.pp_queues.specs.declared.calls.QueueChange.{QueueChange}
use Rattle.pp_queues.specs.declared.calls.QueuePlaced.{QueuePlaced}
use Rattle.pp_queues.specs.Queues.{QueuePass, QueueView}
use Rattle.pp_queues.specs.Turns.{stand, Came, Saw, Looked, Tried, Advanced}
use Rattle.pp_queue.specs.Calling.{StandsAt, IsHeadWord}
use Rattle.pp_queue.specs.Steps.{LinkedAt}
use Rattle.atomic_table.specs.declared.shared.Seat.{Seat}
use Rattle.pp_base.specs.declared.purse.Purse.{Purse}
use Rattle.pp_base.specs.Passes.{known, view}
use Rattle.pp_unlink.specs.Invalidation.{Flushed}
use Rattle.pp_reclaim.specs.Sweeps.{Reclaims}
use Rattle.pp_shelf.specs.Shelves.{MovesFree}
use Rattle.pp_queues.specs.declared.own.QueueOwn.{QueueOwn}
use Rattle.pp_queue.specs.Standing.{words_of, word_in, StaysUp}
use Rattle.pp_queue.proofs.Passing.{stand_is}
use Rattle.pp_queue.proofs.Standing.{HasSeenQueue, found_here, words_stay, others_stay, last_nil, link_valid}

-- a step that links nothing leaves no record behind head 1
pub up_made : {kind place word left : ℕ} {cs : List QueueChange} {ps : List QueuePlaced} {q : QueuePass} (v w : QueueView)
    → MadeStep kind place word left cs ps q v w → q.own.behind ≡ v.known.own.behind → StaysUp v.known w.known
up_made v w made same up = ap (λ (q : QueuePass). q.own.behind) (known_after _ _ _ _ _ _ _ v w made) ∙ (same ∙ up)

pub up_on : (p q r : QueuePass) → StaysUp p q → StaysUp q r → StaysUp p r
up_on p q r a b up = b (a up)

pub up_saw : (place n : ℕ) (v w : QueueView) → Saw place n v w → StaysUp v.known w.known
up_saw place n v w s = dite (ℕ_discrete n (16 * stand v.known)) (λ e. up_made v w (s.here e) refl)
    (λ ne. up_made v w (s.elsewhere ne) refl)

pub up_tried : (place n : ℕ) (v w : QueueView) → Tried place n v w → StaysUp v.known w.known
up_tried place n v w t = dite (ℕ_discrete n 0) (λ e. up_made v w (t.none e).made refl) (λ ne. up_made v w (t.some ne) refl)

pub up_advanced : (place first new n : ℕ) (v w : QueueView) → Advanced place first new n v w → StaysUp v.known w.known
up_advanced place first new n v w a up = dite (ℕ_discrete n first)
    (λ e. ap (λ (q : QueuePass). q.own.behind) (known_after _ _ _ _ _ _ _ v w (a.same e)))
    (λ ne. up_made v w (a.other ne) refl up)

module _ (v w : QueueView) (one : v.known.sizes.passes ≡ 1) (low : v.known.number < v.known.sizes.passes)
    (seen : HasSeenQueue w) where
  pub came_found : (i : ℕ) (front : Bool) (first found place : ℕ) → Came i front first found place v w → found ≡ word_in v place
  came_found i front first found place c = dite (ℕ_discrete found first)
      (λ hit. found_here v w (c.same hit).1.1 refl one low seen refl) (λ ne. found_here v w (c.other ne) refl one low seen refl)

  pub came_stay : (i : ℕ) (front : Bool) (first found place : ℕ) → Came i front first found place v w → words_of w ≡ words_of v
  came_stay i front first found place c = dite (ℕ_discrete found first)
      (λ hit. words_stay v w (c.same hit).1.1 refl one low seen refl refl) (λ ne. words_stay v w (c.other ne) refl one low seen refl refl)

  pub confirmed_found : (i first found place : ℕ) (q : QueuePass) → q.sizes ≡ v.known.sizes → Confirmed i first found place q v w
      → found ≡ word_in v place
  confirmed_found i first found place q sizes c = dite (ℕ_discrete found first)
      (λ hit. found_here v w (c.same hit).1.1 refl one low seen refl) (λ ne. found_here v w (c.other ne) sizes one low seen refl)

  pub saw_found : (place found : ℕ) → Saw place found v w → found ≡ word_in v place
  saw_found place found s = dite (ℕ_discrete found (16 * stand v.known))
      (λ hit. found_here v w (s.here hit) refl one low seen refl) (λ ne. found_here v w (s.elsewhere ne) refl one low seen refl)

  pub saw_stay : (place found : ℕ) → Saw place found v w → words_of w ≡ words_of v
  saw_stay place found s = dite (ℕ_discrete found (16 * stand v.known))
      (λ hit. words_stay v w (s.here hit) refl one low seen refl refl) (λ ne. words_stay v w (s.elsewhere ne) refl one low seen refl refl)

-- where the call stands it stands still
saw_slot : (place found : ℕ) (v w : QueueView) → Saw place found v w → slot w.known 0 ≡ slot v.known 0
saw_slot place found v w s = dite (ℕ_discrete found (16 * stand v.known))
    (λ hit. ap (λ (q : QueuePass). slot q 0) (known_after _ _ _ _ _ _ _ v w (s.here hit)))
    (λ ne. ap (λ (q : QueuePass). slot q 0) (known_after _ _ _ _ _ _ _ v w (s.elsewhere ne)))

saw_sizes : (place found : ℕ) (v w : QueueView) → Saw place found v w
    → (w.known.sizes ≡ v.known.sizes) × (w.known.number ≡ v.known.number)
saw_sizes place found v w s = dite (ℕ_discrete found (16 * stand v.known))
    (λ hit. let is = known_after _ _ _ _ _ _ _ v w (s.here hit) in
    (ap (λ (q : QueuePass). q.sizes) is, ap (λ (q : QueuePass). q.number) is))
    (λ ne. let is = known_after _ _ _ _ _ _ _ v w (s.elsewhere ne) in
    (ap (λ (q : QueuePass). q.sizes) is, ap (λ (q : QueuePass). q.number) is))

-- The turn of a take that stands at the dummy and has loaded head 1 and the dummy's link, which isn't nil.
module _ (z : Sizes) (one : z.passes ≡ 1) (two : z.heads ≡ 2) (v1 v2 v3 : QueueView) (first last link : ℕ)
    (sizes : v1.known.sizes ≡ z) (low : v1.known.number < v1.known.sizes.passes) (seen1 : HasSeenQueue v1) (seen2 : HasSeenQueue v2)
    (seen3 : HasSeenQueue v3) (st : StandsAt true (target first) v1.known) (going : v1.known.own.going ≡ true)
    (saw : Saw (head_place z 1) last v1 v2) (tried : Tried (cell_place z (slot v2.known 0).named 2) link v2 v3) (some : link ≢ 0) where
  one1 : v1.known.sizes.passes ≡ 1
  one1 = ap (λ (y : Sizes). y.passes) sizes ∙ one

  low1 : v1.known.number < z.passes
  low1 = subst (λ (y : Sizes). v1.known.number < y.passes) sizes low

  one2 : v2.known.sizes.passes ≡ 1
  one2 = ap (λ (y : Sizes). y.passes) (saw_sizes _ _ v1 v2 saw).0 ∙ one1

  low2 : v2.known.number < v2.known.sizes.passes
  low2 = let y = saw_sizes _ _ v1 v2 saw in subst (λ (s : Sizes). v2.known.number < s.passes) (sym y.0)
      (subst (λ (n : ℕ). n < v1.known.sizes.passes) (sym y.1) low)

  same12 : words_of v2 ≡ words_of v1
  same12 = saw_stay v1 v2 one1 low seen2 _ _ saw

  here : (slot v2.known 0).named ≡ stand v1.known
  here = ap (λ w. w.named) (saw_slot _ _ v1 v2 saw) ∙ (st.named ∙ sym (stand_is true (target first) v1.known st))

  link_found : link ≡ word_in v1 (cell_place z (stand v1.known) 2)
  link_found = found_here v2 v3 (tried.some some) refl one2 low2 seen3 refl
      ∙ (ap (λ (n : ℕ). word_in v2 (cell_place z n 2)) here
      ∙ ap (λ (ws : List ℕ). get_or ws (cell_place z (stand v1.known) 2) 0) same12)

  -- the link is valid
  pub take_valid : invalid_bit link ≢ 1
  take_valid bad = let ok = link_valid z v1 sizes one two low1 seen1 (let e = st.at in omega arith) st.front_is going in
      let is = ap invalid_bit link_found in omega arith

  -- the link stands there still
  pub take_link : link ≡ word_in v3 (cell_place z (slot v3.known 0).named 2)
  take_link = found_here v2 v3 (tried.some some) refl one2 low2 seen3 refl
      ∙ (sym (ap (λ (ws : List ℕ). get_or ws (cell_place z (slot v2.known 0).named 2) 0)
      (words_stay v2 v3 (tried.some some) refl one2 low2 seen3 refl refl))
      ∙ ap (λ (w : QueuePass). word_in v3 (cell_place z (slot w 0).named 2))
      (sym (known_after _ _ _ _ _ _ _ v2 v3 (tried.some some))))

  -- and head 1 leads on behind the dummy
  pub take_past : v1.known.own.behind ≡ false → IsHeadWord first → last ≢ first
  take_past up head same = let found = saw_found v1 v2 one1 low seen2 _ _ saw in
      let is : word_in v1 (head_place z 1) ≡ 16 * stand v1.known = sym found ∙ (same ∙ (head.plain
      ∙ ap (λ (n : ℕ). 16 * n) (sym (stand_is true (target first) v1.known st)))) in
      some (tried.plain (ap target link_found ∙ last_nil z v1 sizes one two low1 seen1 up (stand v1.known) is))

-- The turn of a put that stands at the record to which head 1 leads.
module _ (z : Sizes) (one : z.passes ≡ 1) (two : z.heads ≡ 2) (v1 v2 : QueueView) (first link : ℕ)
    (sizes : v1.known.sizes ≡ z) (low : v1.known.number < v1.known.sizes.passes) (seen1 : HasSeenQueue v1) (seen2 : HasSeenQueue v2)
    (st : StandsAt false (target first) v1.known) (head : IsHeadWord first) (there : word_in v1 (head_place z 1) ≡ first)
    (up : v1.known.own.behind ≡ false) (looked : Looked (cell_place z (slot v1.known 0).named 2) link v1 v2) where
  one_put : v1.known.sizes.passes ≡ 1
  one_put = ap (λ (y : Sizes). y.passes) sizes ∙ one

  low_put : v1.known.number < z.passes
  low_put = subst (λ (y : Sizes). v1.known.number < y.passes) sizes low

  -- its link is nil
  pub put_last : link ≡ 0
  put_last = looked.plain (ap target (found_here v1 v2 looked.made refl one_put low seen2 refl)
      ∙ last_nil z v1 sizes one two low_put seen1 up (slot v1.known 0).named (there ∙ (head.plain
      ∙ ap (λ (n : ℕ). 16 * n) (sym st.named))))

  same_put : words_of v2 ≡ words_of v1
  same_put = words_stay v1 v2 looked.made refl one_put low seen2 refl refl

  is_put : v2.known.sizes ≡ v1.known.sizes
  is_put = ap (λ (q : QueuePass). q.sizes) (known_after _ _ _ _ _ _ _ v1 v2 looked.made)

  one_link : v2.known.sizes.passes ≡ 1
  one_link = ap (λ (y : Sizes). y.passes) is_put ∙ one_put

  low_link : v2.known.number < v2.known.sizes.passes
  low_link = subst (λ (q : QueuePass). q.number < q.sizes.passes) (sym (known_after _ _ _ _ _ _ _ v1 v2 looked.made)) low

  module _ (v3 : QueueView) (seen3 : HasSeenQueue v3) (m new found : ℕ)
      (linked : LinkedAt m (cell_place z (slot v2.known 0).named 2) new found v2 v3) where
    slot_link : (slot v2.known 0).named ≡ (slot v1.known 0).named
    slot_link = ap (λ (q : QueuePass). (slot q 0).named) (known_after _ _ _ _ _ _ _ v1 v2 looked.made)

    -- the exchange of the link finds nil
    pub put_links : found ≡ 0
    put_links = dite (ℕ_discrete found 0) (λ e. e) (λ ne.
        found_here v2 v3 (linked.made.other ne) refl one_link low_link seen3 refl
        ∙ (ap (λ (n : ℕ). word_in v2 (cell_place z n 2)) slot_link
        ∙ (ap (λ (ws : List ℕ). get_or ws (cell_place z (slot v1.known 0).named 2) 0) same_put
        ∙ (sym (found_here v1 v2 looked.made refl one_put low seen2 refl) ∙ put_last))))

    head_still : word_in v3 (head_place z 1) ≡ first
    head_still = let made = linked.made.same put_links in
        others_stay v2 v3 made refl one_link low_link seen3 (head_place z 1) (λ e. omega arith)
        ∙ (ap (λ (ws : List ℕ). get_or ws (head_place z 1) 0) same_put ∙ there)

    -- so does the exchange of head 1
    pub put_advances : (v4 : QueueView) → HasSeenQueue v4 → (next moved : ℕ) → Advanced (head_place z 1) first next moved v3 v4
        → v4.known.own.behind ≡ false
    put_advances v4 seen4 next moved a = let is = known_after _ _ _ _ _ _ _ v2 v3 (linked.made.same put_links) in
        let one3 : v3.known.sizes.passes ≡ 1 = ap (λ (q : QueuePass). q.sizes.passes) is ∙ one_link in
        let low3 : v3.known.number < v3.known.sizes.passes = subst (λ (q : QueuePass). q.number < q.sizes.passes) (sym is) low_link in
        dite (ℕ_discrete moved first)
        (λ e. ap (λ (q : QueuePass). q.own.behind) (known_after _ _ _ _ _ _ _ v3 v4 (a.same e)))
        (λ ne. absurd (ne (found_here v3 v4 (a.other ne) refl one3 low3 seen4 refl ∙ head_still)))

-- what a load found stands there after it
pub load_left : {kind place word : ℕ} {cs : List QueueChange} {ps : List QueuePlaced} {q : QueuePass} (v w : QueueView)
    → MadeStep kind place word word cs ps q v w → q.sizes ≡ v.known.sizes → v.known.sizes.passes ≡ 1
    → v.known.number < v.known.sizes.passes → HasSeenQueue w → stores kind ≡ false → word ≡ word_in w place
load_left {place = place} v w made sizes one low seen loads = found_here v w made sizes one low seen loads
    ∙ sym (ap (λ (ws : List ℕ). get_or ws place 0) (words_stay v w made sizes one low seen loads refl))

-- The steps of a reclaim pass and those at shelf words leave no record behind head 1.
flushed_own : (z : Sizes) (n : ℕ) (v w : QueueView) → Flushed 1 z n v w → w.known.own ≡ v.known.own
flushed_own z zero v w is = ap (λ (u : QueueView). u.known.own) is
flushed_own z (suc n) v w (next, (one, rest)) = flushed_own z n next w rest ∙ ap (λ (q : QueuePass). q.own) one.known

pub up_reclaimed : (z : Sizes) (many : ℕ) (s s' : Seat Unit QueueView) (p p' : Purse) → Reclaims 1 z many s s' p p'
    → StaysUp (known s) (known s')
up_reclaimed z many s s' p p' r up = ap (λ (q : QueuePass). q.own.behind) r.swept.known_is
    ∙ (ap (λ (o : QueueOwn). o.behind) (flushed_own z (length (known s).chains) (view s) (view r.between) r.flushed) ∙ up)

pub up_shelved : (q q' : QueuePass) (p p' : Purse) → MovesFree q q' p p' → StaysUp q q'
up_shelved q q' p p' m up = ap (λ (q : QueuePass). q.own.behind) m.known ∙ up

pub up_seat : (s s' : Seat Unit QueueView) → s' ≡ s → StaysUp (known s) (known s')
up_seat s s' is up = ap (λ (s : Seat Unit QueueView). (known s).own.behind) is ∙ up
