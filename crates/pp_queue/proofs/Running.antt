-- The lost turns that a queue's own steps count.
use Rattle.std.proofs.Common.{◌≡◌, ◌≢◌, ℕ, zero, suc, ⊎_elim, List, [], ◌∷◌, ◌++◌, length, ◌+◌, ◌*◌, ◌<◌, ◌≤◌}
use Rattle.std.proofs.Common.{Bool, true, false, cond, not, eqb, refl, sym, ap, ◌∙◌, subst, arith}
use Rattle.std.proofs.Common.{ne_eqb, lt-ltb}
use Rattle.std.proofs.Math.Decide.{ℕ_discrete}
use mathlib.Core.Logic.{dite}
use Rattle.pp_link.specs.declared.layout.Sizes.{Sizes}
use Rattle.pp_link.specs.Links.{invalid_bit}
use Rattle.pp_link.specs.Places.{cell_place, frontier_place}
use Rattle.pp_rule.specs.Lists.{IsIn}
use Rattle.pp_rule.specs.Steps.{MadeQuietStep, Confirmed}
use Rattle.pp_rule.specs.Paths.{links_of}
use Rattle.pp_rule.proofs.Put.{in_nil, in_cases, in_either, in_one}
use Rattle.pp_base.specs.Chains.{chain_at}
use Rattle.pp_base.specs.Passes.{view}
use Rattle.pp_unlink.specs.Invalidation.{Invalidated, Flushed, invalidations}
use Rattle.pp_unlink.specs.Unlinking.{MayFlush}
use Rattle.pp_hazard.specs.Reading.{ReadValue}
use Rattle.atomic_table.specs.declared.shared.Seat.{Seat}
use Rattle.pp_base.specs.Named.{NamedStep, retires, invalidates, loads, confirms, misses}
use Rattle.pp_queues.specs.Queues.{QueuePass, QueueView}
use Rattle.pp_queues.specs.Turns.{stand, IsEnd, Begins, Ends, Came, Saw, Looked, Tried, Advanced, Took}
use Rattle.pp_queues.specs.Losses.{Tally, one_more, counting, losing, striking, Ran}
use Rattle.pp_queues.proofs.Counting.{ran_one, ran_quiet, ran_none, ran_both, ran_made, is_idle, counted_idle}
use Rattle.pp_queue.specs.Steps.{LinkedAt}

-- A load counts a lost turn where it finds INVALID.
pub counted_load : (passes word n place found : ℕ) (b : Bool) → eqb (invalid_bit found) 1 ≡ b
    → counting passes (losing word n) (loads place found) ≡ losing found (one_more b n)
counted_load passes word n place found b e = let t : Bool → Tally = λ b. losing found (one_more b n) in ap t e

-- A second load counts one where it finds another word than the first one.
pub counted_confirm : (passes n first place found : ℕ) (b : Bool) → eqb found first ≡ b
    → counting passes (losing first n) (confirms place found) ≡ losing first (cond b n (n + 1))
counted_confirm passes n first place found b e = let t : Bool → Tally = λ b. losing first (one_more (not b) n) in ap t e ∙ by b
  where
    by : (b : Bool) → losing first (one_more (not b) n) ≡ losing first (cond b n (n + 1))
    by true = refl
    by false = refl

-- A failing exchange of a link counts one.
pub counted_miss : (passes word n place found : ℕ) → 17 * passes < place
    → counting passes (losing word n) (misses place found) ≡ losing word (n + 1)
counted_miss passes word n place found past = let t : Bool → Tally = λ b. losing word (one_more b n) in
    ap t (lt-ltb (17 * passes) place past)

-- the word of a head has no INVALID
pub end_valid : (z : Sizes) (found : ℕ) → IsEnd z found → eqb (invalid_bit found) 1 ≡ false
end_valid z found e = let plain = e.plain in ne_eqb (invalid_bit found) 1 (λ bad. omega arith)

module _ (passes : ℕ) (v w : QueueView) where
  -- a step that counts nothing
  pub ran_idle : (t : Tally) {kind place word left : ℕ} {q : QueuePass} → MadeQuietStep kind place word left q v w
      → q.number ≡ v.known.number
      → is_idle kind ≡ true → Ran passes t t v w
  ran_idle t {kind} {place} {word} made number idle = ran_quiet passes t t v w made number
      (counted_idle passes t (record { kind = kind; place = place; word = word }) idle)

  pub ran_begins : (place found word n : ℕ) → Begins place found v w → Ran passes (losing word n) (losing found n) v w
  ran_begins place found word n b = ran_quiet passes (losing word n) (losing found n) v w b.made refl
      (counted_load passes word n place found false (end_valid v.known.sizes found b.end))

  pub ran_ends : (place found word n : ℕ) → Ends place found v w → Ran passes (losing word n) (losing found n) v w
  ran_ends place found word n e = ran_quiet passes (losing word n) (losing found n) v w e.made refl
      (counted_load passes word n place found false (end_valid v.known.sizes found e.end))

  pub ran_came : (i : ℕ) (front : Bool) (first found place n : ℕ) → Came i front first found place v w
      → (b : Bool) → eqb found first ≡ b → Ran passes (losing first n) (losing first (cond b n (n + 1))) v w
  ran_came i front first found place n c b e = dite (ℕ_discrete found first)
      (λ hit. ran_quiet passes (losing first n) (losing first (cond b n (n + 1))) v w (c.same hit).1.1 refl
      (counted_confirm passes n first place found b e))
      (λ ne. ran_quiet passes (losing first n) (losing first (cond b n (n + 1))) v w (c.other ne) refl
      (counted_confirm passes n first place found b e))

  pub ran_confirmed : (i first found place n : ℕ) (q : QueuePass) → q.number ≡ v.known.number
      → Confirmed i first found place q v w → (b : Bool)
      → eqb found first ≡ b → Ran passes (losing first n) (losing first (cond b n (n + 1))) v w
  ran_confirmed i first found place n q number c b e = dite (ℕ_discrete found first)
      (λ hit. ran_quiet passes (losing first n) (losing first (cond b n (n + 1))) v w (c.same hit).1.1 refl
      (counted_confirm passes n first place found b e))
      (λ ne. ran_quiet passes (losing first n) (losing first (cond b n (n + 1))) v w (c.other ne) number
      (counted_confirm passes n first place found b e))

  -- what a part answered
  pub ran_is : (t : Tally) (word n : ℕ) (b b' : Bool) → b ≡ b' → Ran passes t (losing word (cond b n (n + 1))) v w
      → Ran passes t (losing word (cond b' n (n + 1))) v w
  ran_is t word n b b' e a = subst (λ (x : Bool). Ran passes t (losing word (cond x n (n + 1))) v w) e a

  pub ran_saw : (place found word n : ℕ) → Saw place found v w → Ran passes (losing word n) (losing found n) v w
  ran_saw place found word n s = let none = counted_load passes word n place found false (end_valid v.known.sizes found s.end) in
      dite (ℕ_discrete found (16 * stand v.known))
      (λ hit. ran_quiet passes (losing word n) (losing found n) v w (s.here hit) refl none)
      (λ ne. ran_quiet passes (losing word n) (losing found n) v w (s.elsewhere ne) refl none)

  pub ran_looked : (place found word n : ℕ) (b : Bool) → eqb (invalid_bit found) 1 ≡ b → Looked place found v w
      → Ran passes (losing word n) (losing found (one_more b n)) v w
  ran_looked place found word n b e l = ran_quiet passes (losing word n) (losing found (one_more b n)) v w l.made refl
      (counted_load passes word n place found b e)

  pub ran_tried : (place found word n : ℕ) (b : Bool) → eqb (invalid_bit found) 1 ≡ b → found ≢ 0 → Tried place found v w
      → Ran passes (losing word n) (losing found (one_more b n)) v w
  ran_tried place found word n b e ne t = ran_quiet passes (losing word n) (losing found (one_more b n)) v w (t.some ne) refl
      (counted_load passes word n place found b e)

  pub ran_settled : (place found word n : ℕ) → found ≡ 0 → Tried place found v w → Ran passes (losing word n) (losing word n) v w
  ran_settled place found word n nil t = ran_one passes (losing word n) (losing word n) v w (t.none nil).made refl refl
      (λ own stands. (t.none nil).stands)

  pub ran_advanced : (place first new found word n : ℕ) → 17 * passes < place → Advanced place first new found v w
      → Ran passes (losing word n) (losing word (n + 1)) v w
  ran_advanced place first new found word n past a = dite (ℕ_discrete found first)
      (λ hit. ran_quiet passes (losing word n) (losing word (n + 1)) v w (a.same hit) refl refl)
      (λ ne. ran_quiet passes (losing word n) (losing word (n + 1)) v w (a.other ne) refl
      (counted_miss passes word n place found past))

  pub ran_linked : (m place new found word n : ℕ) → found ≡ 0 → LinkedAt m place new found v w
      → Ran passes (losing word n) (striking word n) v w
  ran_linked m place new found word n hit l = ran_one passes (losing word n) (striking word n) v w (l.made.same hit) refl refl
      (λ own stands. l.made.stands hit)

  pub ran_unlinked : (m place new found word n : ℕ) → found ≢ 0 → 17 * passes < place → LinkedAt m place new found v w
      → Ran passes (losing word n) (losing word (n + 1)) v w
  ran_unlinked m place new found word n ne past l = ran_quiet passes (losing word n) (losing word (n + 1)) v w
      (l.made.other ne) refl
      (counted_miss passes word n place found past)

  pub ran_took : (j guard place first new found word n : ℕ) → found ≡ first → Took j guard place first new found v w
      → Ran passes (losing word n) (striking word n) v w
  ran_took j guard place first new found word n hit t = ran_one passes (losing word n) (striking word n) v w
      (t.same hit) refl refl
      (λ own stands. t.stands hit)

  pub ran_missed : (j guard place first new found word n : ℕ) → found ≢ first → 17 * passes < place
      → Took j guard place first new found v w
      → Ran passes (losing word n) (losing word (n + 1)) v w
  ran_missed j guard place first new found word n ne past t = ran_quiet passes (losing word n) (losing word (n + 1)) v w
      (t.other ne) refl
      (counted_miss passes word n place found past)

-- the or-steps at the links of a chain, and the clearing of its frontier word
idle_invalidations : (z : Sizes) (ls : List (ℕ × ℕ)) (words : List ℕ) (s : NamedStep) → IsIn s (invalidations z ls words)
    → is_idle s.kind ≡ true
unfolding invalidations
idle_invalidations z [] words s i = absurd (in_nil s i)
idle_invalidations z (l ∷ ls) [] s i = absurd (in_nil s i)
idle_invalidations z (l ∷ ls) (w ∷ words) s i = ⊎_elim (λ (e : s ≡ invalidates (cell_place z l.0 (2 + l.1)) w). ap
    (λ (x : NamedStep). is_idle x.kind) e)
    (λ (later : IsIn s (invalidations z ls words)). idle_invalidations z ls words s later)
    (in_cases s (invalidates (cell_place z l.0 (2 + l.1)) w) (invalidations z ls words) i)

ran_invalidated : (passes : ℕ) (t : Tally) (z : Sizes) (v w : QueueView) → Invalidated 1 z v w → Ran passes t t v w
ran_invalidated passes t z v w one = let ls = links_of 1 (chain_at v.known 0).records in
    let last : NamedStep = retires (frontier_place z v.known.number (chain_at v.known 0).guard) in
    ran_made passes t (invalidations z ls one.words ++ last ∷ []) v w one.steps
    (λ s i. counted_idle passes t s (⊎_elim (λ (j : IsIn s (invalidations z ls one.words)). idle_invalidations z ls one.words s j)
    (λ (j : IsIn s (last ∷ [])). ap (λ (x : NamedStep). is_idle x.kind) (sym (in_one s last j)))
    (in_either s (invalidations z ls one.words) (last ∷ []) i)))

pub ran_flushed : (passes : ℕ) (t : Tally) (z : Sizes) (n : ℕ) (v w : QueueView) → Flushed 1 z n v w → Ran passes t t v w
ran_flushed passes t z zero v w is = ran_none passes t v w is
ran_flushed passes t z (suc n) v w (next, (one, rest)) = ran_both passes t t t v next w (ran_invalidated passes t z v next one)
    (ran_flushed passes t z n next w rest)

pub ran_flush : (passes : ℕ) (t : Tally) (z : Sizes) (v w : QueueView) → length v.known.chains ≤ 4 → MayFlush 1 z v w
    → Ran passes t t v w
ran_flush passes t z v w few f = dite (ℕ_discrete (length v.known.chains) 4) (λ e. ran_flushed passes t z 4 v w (f.full e))
    (λ ne. ran_none passes t v w (f.few (omega arith)))

-- the two loads of a value
pub ran_read : (passes : ℕ) (t : Tally) (z : Sizes) (i value : ℕ) (s s' : Seat Unit QueueView) → ReadValue z i value s s'
    → Ran passes t t (view s) (view s')
ran_read passes t z i value s s' r = ran_both passes t t t (view s) (view r.middle) (view s')
    (ran_idle passes (view s) (view r.middle) t r.first.made refl refl)
    (ran_idle passes (view r.middle) (view s') t r.second.made refl refl)
