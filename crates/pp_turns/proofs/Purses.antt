-- What a whole call leaves of its purse, from what its parts leave.
use Rattle.std.proofs.Common.{◌≡◌, ℕ, ◌+◌, ◌*◌, ◌<◌, ◌≤◌, min, Option, true, List, [], ◌∷◌, ◌++◌, length, take, refl, sym, ap, ◌∙◌}
use Rattle.std.proofs.Common.{subst, ⊎_elim, inl, inr, append_assoc, length-append, arith}
use Rattle.pp_link.specs.declared.layout.Sizes.{Sizes}
use Rattle.pp_model.specs.declared.Call.{Call}
use Rattle.pp_model.specs.declared.Change.{Change}
use Rattle.pp_model.specs.declared.Placed.{Placed}
use Rattle.pp_model.specs.declared.steps.Step.{Step}
use Rattle.pp_model.specs.Lists.{IsPrefix}
use Rattle.pp_model.specs.MapCalls.{LeftAlone, Tidied, FullPurse}
use Rattle.pp_model.specs.Pass.{MapSizes, Meaning, steps_since}
use Rattle.pp_rule.specs.declared.views.PassState.{PassState}
use Rattle.pp_rule.specs.declared.views.SeatView.{SeatView}
use Rattle.pp_rule.specs.Causes.{FoundTaken, FoundNone, owned_after}
use Rattle.pp_rule.specs.Orders.{made_by}
use Rattle.pp_rule.proofs.Put.{in_left, in_right}
use Rattle.pp_base.specs.declared.purse.Purse.{Purse}
use Rattle.pp_base.specs.Named.{NamedStep, Made}
use Rattle.pp_calls.specs.PoolViews.{pool_view, link_writes}
use Rattle.pp_calls.specs.Steps.{Went, Stepped, SamePurse, WriteNone}
use Rattle.pp_calls.proofs.Growing.{writes_append, none_written, stepped_made}
use Rattle.pp_shelf.specs.Runs.{map_sizes, steps_made}
use Rattle.pp_purse.specs.Purses.{TidiesPurse, RanOut}
use Rattle.pp_purse.proofs.Stretches.{owned_made}
use Rattle.pp_turns.specs.Answers.{is_look}
use Rattle.pp_turns.specs.Purses.{Carries}
use Rattle.pp_turns.specs.Turns.{Kept}
use Rattle.pp_base.proofs.Named.{made_append}
use Rattle.pp_turns.proofs.Stretches.{stepped_steps, steps_both, stretch_both}

module _ {W : Type 0} where
  -- the steps that callers see since are those of the views
  pub since_seen : (v w : SeatView Change Placed W) (free free' : List ℕ) (share : ℕ) → w.known.number ≡ v.known.number
      → steps_since (pool_view v free share) (pool_view w free' share) ≡ steps_made v w
  since_seen v w free free' share number = cc

  pub alone_none : (v : SeatView Change Placed W) (free : List ℕ) (share : ℕ) → LeftAlone (pool_view v free share) (pool_view v free share)
  alone_none v free share = record { wrote = refl; free = refl; retired = refl; chains = refl }

  -- steps that write no link, and leave the purse as it is
  pub alone_on : (u v w : SeatView Change Placed W) (free free' free'' : List ℕ) (share : ℕ)
      → LeftAlone (pool_view u free share) (pool_view v free' share) → Stepped v w → WriteNone (steps_made v w) → SamePurse v w
      → free'' ≡ free' → LeftAlone (pool_view u free share) (pool_view w free'' share)
  alone_on u v w free free' free'' share a s none p same = record {
    wrote = wrote ∙ a.wrote;
    free = same ∙ a.free;
    retired = p.retired ∙ a.retired;
    chains = p.chains ∙ a.chains;
  }
    where
      n : ℕ
      n = v.known.number

      none_made : link_writes v.known.sizes s.steps ≡ 0
      none_made = none_written v.known.sizes s.steps (subst WriteNone (stepped_steps v w s) none)

      parts : link_writes v.known.sizes (made_by n w.order) ≡ link_writes v.known.sizes (made_by n v.order) + link_writes v.known.sizes
          s.steps
      parts = ap (link_writes v.known.sizes) s.made ∙ writes_append v.known.sizes (made_by n v.order) s.steps

      wrote : link_writes w.known.sizes (made_by w.known.number w.order) ≡ link_writes v.known.sizes (made_by n v.order)
      wrote = ap (λ (z : Sizes). link_writes z (made_by w.known.number w.order)) p.sizes
          ∙ (ap (λ (p : ℕ). link_writes v.known.sizes (made_by p w.order)) s.number ∙ (omega (arith, parts, none_made)))

-- What a call has of its purse stays.
module _ {W R : Type 0} (HasOut : PassState W → Purse → Option R → Type 0) (need share : ℕ) (call : Call) (records : Option R)
    (from v w : SeatView Change Placed W) (free : List ℕ) where
  -- over steps of which those of a call that only looks wrote no link
  pub carries_on : (p p' : Purse) → w.known.sizes ≡ v.known.sizes → (HasOut v.known p records → HasOut w.known p' records)
      → p'.free.items ≡ p.free.items → (is_look call ≡ true → Stepped v w × WriteNone (steps_made v w) × SamePurse v w)
      → Carries HasOut need share call records from v free p → Carries HasOut need share call records from w free p'
  carries_on p p' sizes out same looks k = record {
    sizes = sizes ∙ k.sizes;
    out = out k.out;
    kept = let few = k.kept in let e = ap (λ (l : List ℕ). length l) same in omega arith;
    same = λ none. same ∙ k.same none;
    none = k.none;
    alone = λ is. let l = looks is in alone_on from v w free p.free.items p'.free.items share (k.alone is) l.0 l.1 l.2 same;
  }

  -- over what its pass learns of the steps of others
  pub carries_learnt : (p : Purse) → w.known ≡ v.known → made_by v.known.number w.order ≡ made_by v.known.number v.order
      → Carries HasOut need share call records from v free p → Carries HasOut need share call records from w free p
  carries_learnt p same made k = record {
    sizes = ap (λ (q : PassState W). q.sizes) same ∙ k.sizes;
    out = subst (λ (q : PassState W). HasOut q p records) (sym same) k.out;
    kept = k.kept;
    same = k.same;
    none = k.none;
    alone = λ looks. let a = k.alone looks in record {
      wrote = (ap (λ (q : PassState W). link_writes q.sizes (made_by q.number w.order)) same ∙ ap (link_writes v.known.sizes) made)
          ∙ a.wrote;
      free = a.free;
      retired = ap (λ (q : PassState W). q.retired) same ∙ a.retired;
      chains = ap (λ (q : PassState W). length q.chains) same ∙ a.chains;
    };
  }

-- what was found taken, was found so by more steps
pub taken_among : (z : MapSizes) (xs ys : List Step) → FoundTaken z ys → FoundTaken z (xs ++ ys)
taken_among z xs ys f = record {
  each = λ j low. let s = f.each j low in (s.0, (in_right s.0 xs ys s.1.0, s.1.1, s.1.2, s.1.3));
}

module _ (m : Meaning) (z : Sizes) (hazards : m.hazards (map_sizes z) ≡ 9 * z.passes) {W : Type 0}
    (from v w : SeatView Change Placed W) (free : List ℕ) (share : ℕ) where
  -- A call that changes the map tidied its purse in its last steps.
  pub tidied : (spends : ℕ) (p p' : Purse) → ((steps : List Step) → FoundTaken (map_sizes z) steps → m.Shelved (map_sizes z) steps)
      → Went from v → Stepped v w → TidiesPurse z share v w p p' → Kept free share p.free.items spends
      → length w.known.chains ≤ 4 → Tidied m (map_sizes z) spends (pool_view from free share) (pool_view w p'.free.items share)
  tidied spends p p' shelved a s t kept four = record {
    retired = let few = t.retired in omega arith;
    chains = four;
    shared = ⊎_elim (λ (few : length p'.free.items ≤ share). inl few)
        (λ (f : FoundTaken (map_sizes z) (steps_made v w)). inr (shelved _ (subst (FoundTaken (map_sizes z))
        (sym (steps_both from v w a s) ∙ sym (since_seen from w free p'.free.items share (s.number ∙ a.number)))
        (taken_among (map_sizes z) (steps_made from v) (steps_made v w) f)))) t.shared;
    kept = let k = t.kept in omega arith;
  }

  -- There is nothing to tidy: few numbers are retired, and few are free.
  pub tidy_already : (spends : ℕ) (free' : List ℕ) → length w.known.retired ≤ 18 * z.passes → length w.known.chains ≤ 4
      → length free' ≤ share → Kept free share free' spends
      → Tidied m (map_sizes z) spends (pool_view from free share) (pool_view w free' share)
  tidy_already spends free' few four short kept = record {
    retired = omega arith;
    chains = four;
    shared = inl short;
    kept = kept;
  }

  -- after a full answer
  pub full_purse : (free' : List ℕ) → length w.known.retired ≤ 9 * z.passes → length free' < m.need
      → IsPrefix (take (min (length free) share) free) free'
      → FullPurse m (map_sizes z) (pool_view from free share) (pool_view w free' share)
  full_purse free' few short begins = record { retired = omega arith; short = short; free = begins }

-- what is owned after some steps is owned after the last of them
owned_last : (a b : ℕ) (xs ys : List Step) → 0 < length ys → owned_after a (xs ++ ys) ≡ owned_after b ys
owned_last a b [] (y ∷ ys) some_made = refl
owned_last a b [] [] some_made = absurd (omega arith)
owned_last a b (x ∷ xs) ys some_made = owned_last x.owned b xs ys some_made

scan_long : (need : ℕ) (scan : List Step) → owned_after need scan < need → 0 < length scan
scan_long need [] few = absurd (omega arith)
scan_long need (s ∷ scan) few = omega arith

module _ {W : Type 0} (z : Sizes) (need : ℕ) (from v u w : SeatView Change Placed W) (free : List ℕ) (p p' : Purse) where
  -- A call ran out of records in steps of its own, and then made further ones. It has too few still.
  pub found_none : (first second : List NamedStep) → Went from v → Made first v u → Made second u w → RanOut z need v u p p'
      → p.free.items ≡ free → length w.known.owned < need → FoundNone need (map_sizes z) free (steps_made from w)
  found_none first second a m n o same few = record {
    short = subst (λ (l : List ℕ). length l < need) same o.short;
    earlier = steps_made from v ++ o.earlier;
    scan = o.scan;
    later = o.later ++ steps_made u w;
    is = parts ∙ (ap (λ (l : List Step). steps_made from v ++ l) inner ∙ regroup (steps_made from v) o.earlier o.scan o.later
        (steps_made u w));
    reclaim = o.reclaim;
    few = o.few;
    still = subst (λ (k : ℕ). k < need) (sym owned) few;
    empty = λ j low. let e = o.empty.each j low in
        (e.0, (in_left e.0 o.later (steps_made u w) e.1.0, e.1.1, e.1.2, e.1.3));
  }
    where
      both : Made (first ++ second) v w
      both = made_append first second v u w m n

      all : Stepped v w
      all = stepped_made (first ++ second) v w both

      parts : steps_made from w ≡ steps_made from v ++ steps_made v w
      parts = steps_both from v w a all

      inner : steps_made v w ≡ (o.earlier ++ (o.scan ++ o.later)) ++ steps_made u w
      inner = stretch_both v u w (stepped_made first v u m) (stepped_made second u w n) ∙ ap (λ (l : List Step). l ++ steps_made u w) o.is

      regroup : (a b c d e : List Step) → a ++ ((b ++ (c ++ d)) ++ e) ≡ (a ++ b) ++ (c ++ (d ++ e))
      regroup a b c d e = simp append_assoc

      long : 0 < length (steps_made v w)
      long = let e = ap (λ (l : List Step). length l) inner in let scan = scan_long need o.scan o.few in
          let x = length-append (o.earlier ++ (o.scan ++ o.later)) (steps_made u w) in
          let y = length-append o.earlier (o.scan ++ o.later) in let w = length-append o.scan o.later in omega arith

      owned : owned_after need (steps_made from w) ≡ length w.known.owned
      owned = ap (owned_after need) parts ∙ (owned_last need (length v.known.owned) (steps_made from v) (steps_made v w) long
          ∙ (ap (owned_after (length v.known.owned)) (stepped_steps v w all) ∙ owned_made (first ++ second) v w both))
