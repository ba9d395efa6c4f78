-- The steps of a turn of a seek, put together.
use Rattle.std.proofs.Common.{◌≡◌, inl, ⊎_elim, ℕ, List, [], ◌∷◌, ◌++◌, refl, sym, ap, ◌∙◌, subst, append-nil, append_assoc, arith}
use Rattle.pp_rule.specs.Lists.{IsIn}
use Rattle.pp_rule.proofs.Put.{in_nil, in_one, in_either}
use Rattle.pp_base.specs.Named.{NamedStep, clears}
use Rattle.pp_rule.specs.Orders.{clear_step}
use Rattle.pp_rule.specs.Steps.{MadeQuietStep}
use Rattle.pp_base.proofs.Named.{made_append, made_single, plain_one}
use Rattle.pp_rule.specs.declared.views.WalkSlot.{WalkSlot}
use Rattle.pp_trees.specs.Searches.{TreePass}
use Rattle.pp_trees.specs.Edges.{TreeView}
use Rattle.pp_trees.specs.declared.own.TreeOwn.{TreeOwn}
use Rattle.pp_seek.specs.Trails.{IsSilent, SameRest, Trail, IsFront, Clears, SameCall}

pub rest_none : (q : TreePass) → SameRest q q
rest_none q = record { number = refl; sizes = refl; owned = refl; retired_are = refl; frontier = refl; chains = refl; scan = refl }

-- its walk words and what the tree knows of it are others
pub rest_by : (q : TreePass) (walk : List WalkSlot) (own : TreeOwn) → SameRest q (record q { walk = walk; own = own })
rest_by q walk own = record {
  number = refl;
  sizes = refl;
  owned = refl;
  retired_are = refl;
  frontier = refl;
  chains = refl;
  scan = refl;
}

pub rest_both : (p q r : TreePass) → SameRest p q → SameRest q r → SameRest p r
rest_both p q r a b = record {
  number = b.number ∙ a.number;
  sizes = b.sizes ∙ a.sizes;
  owned = b.owned ∙ a.owned;
  retired_are = b.retired_are ∙ a.retired_are;
  frontier = b.frontier ∙ a.frontier;
  chains = b.chains ∙ a.chains;
  scan = b.scan ∙ a.scan;
}

unfoldable pub trail_none : (v : TreeView) → Trail v v
trail_none v = record { steps = []; did = refl; silent = λ s i. absurd (in_nil s i); rest = rest_none v.known }

unfoldable pub trail_one : (s : NamedStep) (known : TreePass) (v w : TreeView) → IsSilent s.kind → SameRest v.known known
    → MadeQuietStep s.kind s.place s.word s.word known v w → Trail v w
trail_one s known v w low rest made = record {
  steps = s ∷ [];
  did = made_single s v w (plain_one s known v w rest.number rest.owned made);
  silent = λ x i. subst (λ (y : NamedStep). IsSilent y.kind) (in_one x s i) low;
  rest = subst (SameRest v.known) (sym (ap (λ (u : TreeView). u.known) made.is)) rest;
}

unfoldable pub trail_both : (u v w : TreeView) → Trail u v → Trail v w → Trail u w
trail_both u v w a b = record {
  steps = a.steps ++ b.steps;
  did = made_append a.steps b.steps u v w a.did b.did;
  silent = λ s i. ⊎_elim (λ (first : IsIn s a.steps). a.silent s first) (λ (then : IsIn s b.steps). b.silent s then)
      (in_either s a.steps b.steps i);
  rest = rest_both u.known v.known w.known a.rest b.rest;
}

pub call_same : (own : TreeOwn) → SameCall own own
call_same own = record { call = refl; start = refl; going = refl; left = refl }

-- the steps are exactly these
pub front_exact : (front steps : List NamedStep) → steps ≡ front → IsFront front steps
front_exact front steps is = record { clears = []; is = is ∙ sym (append-nil front); each = λ s i. absurd (in_nil s i) }

-- a trail of these steps, and then of others
pub front_behind : (pre front : List NamedStep) (u v w : TreeView) (a : Trail u v) (l : Trail v w) → a.steps ≡ pre
    → IsFront front l.steps → IsFront (pre ++ front) (trail_both u v w a l).steps
unfolding trail_both
front_behind pre front u v w a l is f = record {
  clears = f.clears;
  is = ap (λ (x : List NamedStep). x ++ l.steps) is ∙ (ap (λ (x : List NamedStep). pre ++ x) f.is ∙ sym (append_assoc pre front f.clears));
  each = f.each;
}

-- and then of clears
pub front_cleared : (front : List NamedStep) (u v w : TreeView) (a : Trail u v) (c : Clears v w) → a.steps ≡ front
    → IsFront front (trail_both u v w a c.trail).steps
unfolding trail_both
front_cleared front u v w a c is = record {
  clears = c.trail.steps;
  is = ap (λ (x : List NamedStep). x ++ c.trail.steps) is;
  each = c.each;
}

pub both_names : (xs ys : List NamedStep) (u v w : TreeView) (a : Trail u v) (b : Trail v w) → a.steps ≡ xs → b.steps ≡ ys
    → (trail_both u v w a b).steps ≡ xs ++ ys
unfolding trail_both
both_names xs ys u v w a b x y = ap (λ (l : List NamedStep). l ++ b.steps) x ∙ ap (λ (l : List NamedStep). xs ++ l) y

pub clears_none : (v : TreeView) → Clears v v
unfolding trail_none
clears_none v = record { trail = trail_none v; each = λ s i. absurd (in_nil s i) }

pub clears_one : (place : ℕ) (known : TreePass) (v w : TreeView) → SameRest v.known known
    → MadeQuietStep clear_step place 0 0 known v w → Clears v w
unfolding trail_one
clears_one place known v w rest made = record {
  trail = trail_one (clears place) known v w (inl (omega arith, omega arith)) rest made;
  each = λ s i. ap (λ (x : NamedStep). x.kind) (sym (in_one s (clears place) i));
}

pub clears_both : (u v w : TreeView) → Clears u v → Clears v w → Clears u w
unfolding trail_both
clears_both u v w a b = record {
  trail = trail_both u v w a.trail b.trail;
  each = λ s i. ⊎_elim (λ (first : IsIn s a.trail.steps). a.each s first) (λ (then : IsIn s b.trail.steps). b.each s then)
      (in_either s a.trail.steps b.trail.steps i);
}
