-- How the parts of a turn count, and what they leave of a pass.
use Rattle.std.proofs.Common.{◌≡◌, ⊎_elim, inl, inr, ℕ, ◌+◌, Bool, true, false, nat_eq, List, [], ◌∷◌, ◌++◌}
use Rattle.std.proofs.Common.{refl, sym, ap, ◌∙◌, subst, arith, ne_eqb, true≢false}
use Rattle.std.specs.Prelude.{◌&&◌, ◌||◌, not}
use Rattle.pp_rule.proofs.Put.{in_nil, in_first, in_left, in_right, in_cases, in_one, in_either}
use Rattle.pp_base.specs.Named.{NamedStep, loads, MadeOne}
use Rattle.pp_base.proofs.Named.{made_append}
use Rattle.pp_calls.specs.PoolViews.{is_writing}
use Rattle.pp_rule.specs.Orders.{load_step, only_walks}
use Rattle.pp_rule.proofs.Undisturbed.{walk_kinds}
use Rattle.pp_link.specs.declared.layout.Sizes.{Sizes}
use Rattle.pp_link.specs.Links.{target, invalid_bit}
use Rattle.pp_link.specs.Places.{cell_place}
use Rattle.pp_lists.specs.declared.own.ListOwn.{ListOwn}
use Rattle.pp_lists.specs.Lists.{ListPass}
use Rattle.pp_lists.specs.Turns.{ListView}
use Rattle.pp_lists.specs.Losses.{has_flag, is_effect}
use Rattle.pp_lists.proofs.Losing.{IsIdleKind, onto, finds_append, finds_none, idle_finds}
use Rattle.pp_walk.specs.Words.{SameCallOf, SameRest}
use Rattle.pp_walk.specs.Parts.{LosesAt}
use Rattle.pp_walk.specs.Trod.{Quiet, RestOfTurn, WriteNoLink, StrikeNone, FindSo, Why}

-- the kinds of a walk write no link
pub walks_write_none : (k : ℕ) → only_walks k ≡ true → is_writing k ≡ false
walks_write_none k is = walk_kinds k is (λ k. is_writing k ≡ false) refl refl refl refl refl refl

-- a step that writes no link is no effect
pub no_effect : (s : NamedStep) → only_walks s.kind ≡ true → is_effect s ≡ false
no_effect s walks = let none : is_writing s.kind ≡ false = walks_write_none s.kind walks in
    ap (λ (b : Bool). b || (nat_eq s.kind 18 && not (has_flag s.word)))
    (ne_eqb s.kind 17 (λ e. let is : true ≡ is_writing s.kind = ap is_writing (sym e) in true≢false (is ∙ none)))
    ∙ ap (λ (b : Bool). b && not (has_flag s.word)) (ne_eqb s.kind 18 (λ e. let is : true ≡ is_writing s.kind =
    ap is_writing (sym e) in true≢false (is ∙ none)))

pub strikes_none : (steps : List NamedStep) → WriteNoLink steps → StrikeNone steps
strikes_none steps writes s i = no_effect s (writes s i)

pub writes_one : (s : NamedStep) (steps : List NamedStep) → only_walks s.kind ≡ true → WriteNoLink steps → WriteNoLink (s ∷ steps)
writes_one s steps none rest t i = ⊎_elim (λ (e : t ≡ s). subst (λ (x : NamedStep). only_walks x.kind ≡ true) (sym e) none)
    (rest t) (in_cases t s steps i)

pub writes_none : WriteNoLink []
writes_none s i = absurd (in_nil s i)

pub writes_both : (xs ys : List NamedStep) → WriteNoLink xs → WriteNoLink ys → WriteNoLink (xs ++ ys)
writes_both xs ys a b s i = ⊎_elim (a s) (b s) (in_either s xs ys i)

pub quiet_none : (v : ListView) → Quiet 0 v v
quiet_none v = record { steps = []; did = refl; loses = λ sizes earlier. finds_none sizes earlier; writes = writes_none }

pub quiet_one : (lost : ℕ) (s : NamedStep) (v w : ListView) → MadeOne s v w → FindSo lost (s ∷ []) → only_walks s.kind ≡ true
    → Quiet lost v w
quiet_one lost s v w made so none = record {
  steps = s ∷ [];
  did = (w, (made, refl));
  loses = so;
  writes = writes_one s [] none writes_none;
}

-- a step of a kind by which nothing is found
pub quiet_idle : (s : NamedStep) (v w : ListView) → IsIdleKind s.kind → only_walks s.kind ≡ true → MadeOne s v w → Quiet 0 v w
quiet_idle s v w idle none made = quiet_one 0 s v w made (λ sizes earlier. idle_finds sizes earlier (s ∷ [])
    (λ t i. subst (λ (x : NamedStep). IsIdleKind x.kind) (in_one t s i) idle)) none

pub quiet_both : (a b n : ℕ) → a + b ≡ n → (u v w : ListView) → Quiet a u v → Quiet b v w → Quiet n u w
quiet_both a b n sum u v w x y = record {
  steps = x.steps ++ y.steps;
  did = made_append x.steps y.steps u v w x.did y.did;
  loses = λ sizes earlier. let all = finds_append sizes earlier x.steps y.steps in let p = x.loses sizes earlier in
      let q = y.loses sizes (onto x.steps earlier) in omega arith;
  writes = writes_both x.steps y.steps x.writes y.writes;
}

-- the reason stays with more steps
why_more : (z : Sizes) (place first : ℕ) (xs ys : List NamedStep) → Why z place first xs → Why z place first (xs ++ ys)
why_more z place first xs ys (inl bad) = inl bad
why_more z place first xs ys (inr (inl m)) = inr (inl record {
  step = m.step;
  inside = in_left m.step xs ys m.inside;
  load = m.load;
  at = m.at;
  bad = m.bad;
})
why_more z place first xs ys (inr (inr m)) = inr (inr record {
  step = m.step;
  inside = in_left m.step xs ys m.inside;
  again = m.again;
  at = m.at;
  other = m.other;
})

-- more steps at the end of a turn, by which it was lost
pub rest_loses : (z : Sizes) (place first : ℕ) (u v w : ListView) → RestOfTurn z 0 place first u v
    → LosesAt (cell_place z (target first) 2) v w → RestOfTurn z 1 place first u w
rest_loses z place first u v w x l = record {
  steps = x.steps ++ l.quiet.steps;
  did = made_append x.steps l.quiet.steps u v w x.did l.quiet.did;
  loses = λ sizes earlier. let all = finds_append sizes earlier (loads place first ∷ x.steps) l.quiet.steps in
      let p = x.loses sizes earlier in
      let q = l.quiet.loses sizes (onto (loads place first ∷ x.steps) earlier) in omega arith;
  writes = writes_both x.steps l.quiet.steps x.writes l.quiet.writes;
  why = λ _. inr (inl record {
    step = l.met.step;
    inside = in_right l.met.step x.steps l.quiet.steps l.met.inside;
    load = l.met.load;
    at = l.met.at;
    bad = l.met.bad;
  });
}

-- more steps that lose no turn
pub rest_idle : (z : Sizes) (a : ℕ) (place first : ℕ) (u v w : ListView) → RestOfTurn z a place first u v → Quiet 0 v w
    → RestOfTurn z a place first u w
rest_idle z a place first u v w x y = record {
  steps = x.steps ++ y.steps;
  did = made_append x.steps y.steps u v w x.did y.did;
  loses = λ sizes earlier. let all = finds_append sizes earlier (loads place first ∷ x.steps) y.steps in let p = x.loses sizes earlier in
      let q = y.loses sizes (onto (loads place first ∷ x.steps) earlier) in omega arith;
  writes = writes_both x.steps y.steps x.writes y.writes;
  why = λ lost. why_more z place first x.steps y.steps (x.why lost);
}

-- what lost a turn, by one step
pub lose_one : (place : ℕ) (s : NamedStep) (v w : ListView) → MadeOne s v w → FindSo 1 (s ∷ []) → only_walks s.kind ≡ true
    → s.kind ≡ load_step → s.place ≡ place → invalid_bit s.word ≡ 1 → LosesAt place v w
unfolding quiet_one
lose_one place s v w made so walks load at bad = record {
  quiet = quiet_one 1 s v w made so walks;
  met = record { step = s; inside = in_first s []; load = load; at = at; bad = bad };
}

-- with steps after it, or before it
pub lose_more : (place : ℕ) (u v w : ListView) → LosesAt place u v → Quiet 0 v w → LosesAt place u w
unfolding quiet_both
lose_more place u v w l q = record {
  quiet = quiet_both 1 0 1 refl u v w l.quiet q;
  met = record {
    step = l.met.step;
    inside = in_left l.met.step l.quiet.steps q.steps l.met.inside;
    load = l.met.load;
    at = l.met.at;
    bad = l.met.bad;
  };
}

pub lose_then : (place : ℕ) (u v w : ListView) → Quiet 0 u v → LosesAt place v w → LosesAt place u w
unfolding quiet_both
lose_then place u v w q l = record {
  quiet = quiet_both 0 1 1 refl u v w q l.quiet;
  met = record {
    step = l.met.step;
    inside = in_right l.met.step q.steps l.quiet.steps l.met.inside;
    load = l.met.load;
    at = l.met.at;
    bad = l.met.bad;
  };
}

pub same_through : (a b c : ListOwn) → SameCallOf a b → SameCallOf b c → SameCallOf a c
same_through a b c s t = record { call = t.call ∙ s.call; start = t.start ∙ s.start; left = t.left ∙ s.left }

pub same_self : (a : ListOwn) → SameCallOf a a
same_self a = record { call = refl; start = refl; left = refl }

pub rest_through : (a b c : ListPass) → SameRest a b → SameRest b c → SameRest a c
rest_through a b c s t = record {
  number = t.number ∙ s.number;
  sizes = t.sizes ∙ s.sizes;
  owned = t.owned ∙ s.owned;
  retired_are = t.retired_are ∙ s.retired_are;
  frontier = t.frontier ∙ s.frontier;
  chains = t.chains ∙ s.chains;
  scan = t.scan ∙ s.scan;
}

pub rest_self : (a : ListPass) → SameRest a a
rest_self a = record { number = refl; sizes = refl; owned = refl; retired_are = refl; frontier = refl; chains = refl; scan = refl }

-- a pass of which another walk and another list's part are known
pub rest_of : (q q' : ListPass) → q' ≡ record q { walk = q'.walk; own = q'.own } → SameRest q q'
rest_of q q' is = record {
  number = ap (λ (x : ListPass). x.number) is;
  sizes = ap (λ (x : ListPass). x.sizes) is;
  owned = ap (λ (x : ListPass). x.owned) is;
  retired_are = ap (λ (x : ListPass). x.retired) is;
  frontier = ap (λ (x : ListPass). x.frontier) is;
  chains = ap (λ (x : ListPass). x.chains) is;
  scan = ap (λ (x : ListPass). x.scan) is;
}
