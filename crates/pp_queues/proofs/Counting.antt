-- The lost turns of a call, counted along its steps.
use Rattle.std.proofs.Common.{◌≡◌, ℕ, ◌+◌, ◌*◌, ◌≤◌, Bool, true, false, cond, eqb, not}
use Rattle.std.proofs.Common.{List, [], ◌∷◌, ◌++◌, map}
use Rattle.std.proofs.Common.{refl, sym, ap, ◌∙◌, subst, arith, ne_eqb, eqb-true, le-ltb}
use Rattle.std.specs.Prelude.{nat_lt}
use Rattle.std.proofs.Math.Bool.{false≢true}
use Rattle.std.proofs.Math.Decide.{ℕ_discrete}
use mathlib.Core.Logic.{dite}
use Rattle.pp_model.specs.declared.steps.Step.{Step}
use Rattle.pp_model.specs.Pass.{MapSizes}
use Rattle.pp_rule.specs.Causes.{lost_from, early_from}
use Rattle.pp_rule.specs.Lists.{IsIn}
use Rattle.pp_link.specs.Links.{invalid_bit}
use Rattle.pp_rule.specs.Orders.{load_step, confirm_step, missed_step}
use Rattle.pp_rule.specs.Steps.{MadeStep, MadeQuietStep}
use Rattle.pp_rule.proofs.Put.{in_first, in_later, in_left}
use Rattle.pp_base.specs.Named.{NamedStep, name_of, Made, misses}
use Rattle.pp_calls.specs.Steps.{Stepped}
use Rattle.pp_calls.proofs.Growing.{stepped_none, stepped_one, stepped_both}
use Rattle.pp_queues.specs.declared.calls.QueueCall.{QueueCall}
use Rattle.pp_queues.specs.declared.calls.QueueChange.{QueueChange}
use Rattle.pp_queues.specs.declared.calls.QueuePlaced.{QueuePlaced}
use Rattle.pp_queues.specs.Queue.{queue}
use Rattle.pp_queues.specs.Queues.{QueuePass, QueueStep, QueueView, HasOwn}
use Rattle.pp_queues.specs.Turns.{put_step, advance_step, take_step, StandsThen}
use Rattle.pp_calls.proofs.AnyObject.{stands_one}
use Rattle.pp_queues.specs.Losses.{Remembered, queue_strikes, queue_next, queue_loses, queue_reader, Tally, one_more}
use Rattle.pp_queues.specs.Losses.{counting, tally, HasStruck, Ran}

pub tally_append : (passes : ℕ) (t : Tally) (xs ys : List NamedStep)
    → tally passes t (xs ++ ys) ≡ tally passes (tally passes t xs) ys
unfolding tally
tally_append passes t [] ys = refl
tally_append passes t (x ∷ xs) ys = tally_append passes (counting passes t x) xs ys

pub names_append : (xs ys : List Step) → map name_of (xs ++ ys) ≡ map name_of xs ++ map name_of ys
names_append [] ys = refl
names_append (x ∷ xs) ys = ap (λ (l : List NamedStep). name_of x ∷ l) (names_append xs ys)

unfoldable pub ran_none : (passes : ℕ) (t : Tally) (v w : QueueView) → w ≡ v → Ran passes t t v w
unfolding stepped_none tally
ran_none passes t v w is = record {
  stepped = stepped_none v w is;
  tallied = refl;
  stands = λ own stands. subst StandsThen (sym is) stands;
}

unfoldable pub ran_one : (passes : ℕ) (t t' : Tally) {kind place word left : ℕ} {cs : List QueueChange} {ps : List QueuePlaced}
    {q : QueuePass} (v w : QueueView)
    → MadeStep kind place word left cs ps q v w → q.number ≡ v.known.number
    → counting passes t (record { kind = kind; place = place; word = word }) ≡ t' → (HasOwn w.order → StandsThen v → StandsThen w)
    → Ran passes t t' v w
unfolding stepped_one tally
ran_one passes t t' v w made number counted stands = record {
  stepped = stepped_one v w made number;
  tallied = counted;
  stands =
      stands;
}

unfoldable pub ran_quiet : (passes : ℕ) (t t' : Tally) {kind place word left : ℕ} {q : QueuePass} (v w : QueueView)
    → MadeQuietStep kind place word left q v w → q.number ≡ v.known.number
    → counting passes t (record { kind = kind; place = place; word = word }) ≡ t' → Ran passes t t' v w
ran_quiet passes t t' v w made number counted = ran_one passes t t' v w made number counted
    (λ own stands. stands_one queue v w made number own stands)

pub own_before : (v w : QueueView) → Stepped v w → HasOwn w.order → HasOwn v.order
own_before v w s own x i = own x (subst (λ (o : List QueueStep). IsIn x o) (sym s.order.1) (in_left x v.order s.order.0 i))

unfoldable pub ran_both : (passes : ℕ) (t t' t'' : Tally) (u v w : QueueView) → Ran passes t t' u v → Ran passes t' t'' v w
    → Ran passes t t'' u w
unfolding stepped_both
ran_both passes t t' t'' u v w a b = record {
  stepped = stepped_both u v w a.stepped b.stepped;
  tallied = ap (tally passes t) (names_append a.stepped.steps b.stepped.steps)
      ∙ (tally_append passes t (map name_of a.stepped.steps) (map name_of b.stepped.steps)
      ∙ (ap (λ (s : Tally). tally passes s (map name_of b.stepped.steps)) a.tallied ∙ b.tallied));
  stands = λ own stands. b.stands own (a.stands (own_before v w b.stepped own) stands);
}

-- a step that counts nothing
abbrev pub IsIdle : ℕ → Tally → NamedStep → Type 0
IsIdle passes t s = counting passes t s ≡ t

-- the kinds of step at which no turn is lost, no call takes effect and nothing is remembered
abbrev pub is_idle : ℕ → Bool
is_idle kind = cond (eqb kind load_step) false (cond (eqb kind confirm_step) false (cond (eqb kind missed_step) false
    (cond (eqb kind put_step) false (cond (eqb kind advance_step) false (cond (eqb kind take_step) false true)))))

not_first : (a b : Bool) → cond a false b ≡ true → (a ≡ false) × (b ≡ true)
not_first true b e = absurd (false≢true e)
not_first false b e = (refl, e)

same_either : (b : Bool) (n : ℕ) → cond b n n ≡ n
same_either true n = refl
same_either false n = refl

-- a step that loses nothing, and isn't one of those
counted_none : (passes : ℕ) (t : Tally) (s : NamedStep) → queue_loses passes t.memory s ≡ false → eqb s.kind load_step ≡ false
    → eqb s.kind put_step ≡ false → eqb s.kind take_step ≡ false → IsIdle passes t s
counted_none passes t s none load put take = let count : Bool → Bool → Bool → Bool → Tally = λ lost load put take. record {
  memory = record { word = cond load s.word t.memory.word; struck = cond (cond put true take) true t.memory.struck };
  lost = one_more lost t.lost;
  early = cond t.memory.struck t.early (one_more lost t.early);
} in
    ap (λ (b : Bool). count b (eqb s.kind load_step) (eqb s.kind put_step) (eqb s.kind take_step)) none
    ∙ (ap (λ (b : Bool). count false b (eqb s.kind put_step) (eqb s.kind take_step)) load
    ∙ (ap (λ (b : Bool). count false false b (eqb s.kind take_step)) put
    ∙ (ap (λ (b : Bool). count false false false b) take
    ∙ ap (λ (n : ℕ). record t { early = n }) (same_either t.memory.struck t.early))))

pub counted_idle : (passes : ℕ) (t : Tally) (s : NamedStep) → is_idle s.kind ≡ true → IsIdle passes t s
counted_idle passes t s idle = let k : ℕ = s.kind in
    let a = not_first (eqb k load_step) (cond (eqb k confirm_step) false (cond (eqb k missed_step) false
    (cond (eqb k put_step) false (cond (eqb k advance_step) false (cond (eqb k take_step) false true))))) idle in
    let b = not_first (eqb k confirm_step) (cond (eqb k missed_step) false
    (cond (eqb k put_step) false (cond (eqb k advance_step) false (cond (eqb k take_step) false true)))) a.1 in
    let m = not_first (eqb k missed_step)
    (cond (eqb k put_step) false (cond (eqb k advance_step) false (cond (eqb k take_step) false true))) b.1 in
    let p = not_first (eqb k put_step) (cond (eqb k advance_step) false (cond (eqb k take_step) false true)) m.1 in
    let d = not_first (eqb k advance_step) (cond (eqb k take_step) false true) p.1 in
    let e = not_first (eqb k take_step) true d.1 in
    let lost : Bool → Bool → Bool → Bool → Bool = λ l c x y. cond l (eqb (invalid_bit s.word) 1)
    (cond c (not (eqb s.word t.memory.word)) (cond x (nat_lt (17 * passes) s.place) (cond y (not t.memory.struck) false))) in
    counted_none passes t s (ap (λ (v : Bool). lost v (eqb k confirm_step) (eqb k missed_step) (eqb k advance_step)) a.0
    ∙ (ap (λ (v : Bool). lost false v (eqb k missed_step) (eqb k advance_step)) b.0
    ∙ (ap (λ (v : Bool). lost false false v (eqb k advance_step)) m.0
    ∙ ap (λ (v : Bool). lost false false false v) d.0))) a.0 p.0 e.0

-- so does a failing exchange of a word that is no link
pub counted_shelf : (passes : ℕ) (t : Tally) (place word : ℕ) → place ≤ 17 * passes → IsIdle passes t (misses place word)
counted_shelf passes t place word le = counted_none passes t (misses place word) (le-ltb (17 * passes) place le) refl refl refl

pub ran_made : (passes : ℕ) (t : Tally) (steps : List NamedStep) (v w : QueueView) → Made steps v w
    → ((s : NamedStep) → IsIn s steps → IsIdle passes t s) → Ran passes t t v w
ran_made passes t [] v w is idle = ran_none passes t v w is
ran_made passes t (s ∷ steps) v w (next, (one, rest)) idle = ran_both passes t t t v next w
    (ran_quiet passes t t v next one.made one.number (idle s (in_first s steps)))
    (ran_made passes t steps next w rest (λ x i. idle x (in_later x s steps i)))

-- what a call that took effect still does counts no early turn
pub tally_struck : (passes n : ℕ) (t : Tally) (steps : List NamedStep) → HasStruck n t → HasStruck n (tally passes t steps)
unfolding tally
tally_struck passes n t [] h = h
tally_struck passes n t (s ∷ steps) h = tally_struck passes n (counting passes t s) steps (
  struck_next (queue_strikes s) h.0,
  ap (λ (b : Bool). cond b t.early (one_more (queue_loses passes t.memory s) t.early)) h.0
      ∙ h.1,
)
  where
    struck_next : (b : Bool) → t.memory.struck ≡ true → cond b true t.memory.struck ≡ true
    struck_next true e = refl
    struck_next false e = e

-- what takes effect no more
pub ran_struck : (passes n : ℕ) (t t' : Tally) (v w : QueueView) → Ran passes t t' v w → HasStruck n t → HasStruck n t'
ran_struck passes n t t' v w a h = subst (HasStruck n) a.tallied (tally_struck passes n t (map name_of a.stepped.steps) h)

-- a step at which a call takes effect loses no turn
strike_wins : (passes : ℕ) (m : Remembered) (s : NamedStep) → queue_strikes s ≡ true → queue_loses passes m s ≡ false
strike_wins passes m s strikes = dite (ℕ_discrete s.kind put_step)
    (λ e. ap (λ (k : ℕ). queue_loses passes m (record { kind = k; place = s.place; word = s.word })) e)
    (λ ne. let e : s.kind ≡ take_step = eqb-true s.kind take_step
    (sym (ap (λ (b : Bool). cond b true (eqb s.kind take_step)) (ne_eqb s.kind put_step ne)) ∙ strikes) in
    ap (λ (k : ℕ). queue_loses passes m (record { kind = k; place = s.place; word = s.word })) e)

module _ (z : MapSizes) (call : QueueCall) where
  -- the count is that of the reader
  pub tally_lost : (t : Tally) (steps : List Step) → lost_from queue_reader z call t.memory steps + t.lost
      ≡ (tally z.passes t (map name_of steps)).lost
  unfolding tally lost_from
  tally_lost t [] = omega arith
  tally_lost t (s ∷ steps) = let ih = tally_lost (counting z.passes t (name_of s)) steps in
      by (queue_loses z.passes t.memory (name_of s)) ih
    where
      by : (b : Bool) → lost_from queue_reader z call (queue_next t.memory (name_of s)) steps + one_more b t.lost
          ≡ (tally z.passes (counting z.passes t (name_of s)) (map name_of steps)).lost
          → cond b 1 0 + lost_from queue_reader z call (queue_next t.memory (name_of s)) steps + t.lost
          ≡ (tally z.passes (counting z.passes t (name_of s)) (map name_of steps)).lost
      by true ih = omega arith
      by false ih = omega arith

  pub tally_early : (t : Tally) (steps : List Step) → t.memory.struck ≡ false
      → early_from queue_reader z call t.memory steps + t.early ≡ (tally z.passes t (map name_of steps)).early
  unfolding tally early_from
  tally_early t [] yet = omega arith
  tally_early t (s ∷ steps) yet = by (queue_strikes (name_of s)) refl
      (λ on. tally_early (counting z.passes t (name_of s)) steps on)
    where
      now : Tally
      now = counting z.passes t (name_of s)

      early_is : now.early ≡ one_more (queue_loses z.passes t.memory (name_of s)) t.early
      early_is = ap (λ (b : Bool). cond b t.early (one_more (queue_loses z.passes t.memory (name_of s)) t.early)) yet

      by : (b : Bool) → queue_strikes (name_of s) ≡ b
          → (now.memory.struck ≡ false → early_from queue_reader z call now.memory steps + now.early ≡
          (tally z.passes now (map name_of steps)).early)
          → cond b 0 (cond (queue_loses z.passes t.memory (name_of s)) 1 0 + early_from queue_reader z call now.memory steps) +
          t.early
          ≡ (tally z.passes now (map name_of steps)).early
      by true e next = let none = strike_wins z.passes t.memory (name_of s) e in
          let same : now.early ≡ t.early = early_is ∙ ap (λ (b : Bool). one_more b t.early) none in
          let on = tally_struck z.passes now.early now (map name_of steps) (
            ap
                (λ (b : Bool). cond b true t.memory.struck) e,
            refl,
          ) in
          let last = on.1 in omega arith
      by false e next = let ih = next (ap (λ (b : Bool). cond b true t.memory.struck) e ∙ yet) in
          by_lost (queue_loses z.passes t.memory (name_of s)) ih early_is
        where
          by_lost : (l : Bool) → early_from queue_reader z call now.memory steps + now.early ≡
              (tally z.passes now (map name_of steps)).early
              → now.early ≡ one_more l t.early
              → cond l 1 0 + early_from queue_reader z call now.memory steps + t.early ≡
              (tally z.passes now (map name_of steps)).early
          by_lost true ih is = omega arith
          by_lost false ih is = omega arith
