-- How a tree's reader counts the steps of a turn, by their names.
use Rattle.std.proofs.Common.{◌≡◌, ◌≢◌, ◌⊎◌, ℕ, ◌+◌, ◌*◌, ◌<◌, ◌≤◌, Bool, true, false, cond, List, [], ◌∷◌, ◌++◌, map, refl, sym, ap, ◌∙◌}
use Rattle.std.proofs.Common.{subst, ⊎_elim, inl, inr, arith, eqb-true, ltb-true, ne_eqb, append-nil, append_assoc}
use Rattle.std.specs.Prelude.{◌||◌, ◌&&◌, nat_eq, nat_lt, nat_le, not}
use Rattle.std.proofs.Math.Bool.{false≢true}
use Rattle.pp_link.specs.declared.layout.Sizes.{Sizes}
use Rattle.pp_link.specs.Links.{invalid_bit}
use Rattle.pp_model.specs.declared.Call.{Call}
use Rattle.pp_model.specs.declared.steps.Step.{Step}
use Rattle.pp_model.specs.Pass.{MapSizes}
use Rattle.pp_rule.specs.Lists.{IsIn}
use Rattle.pp_rule.proofs.Put.{in_first, in_later}
use Rattle.pp_base.specs.Named.{NamedStep, name_of}
use Rattle.pp_shelf.specs.Runs.{map_sizes}
use Rattle.pp_purse.specs.Steps.{is_purse_step}
use Rattle.pp_turns.specs.Tallies.{losing, effected, memory_of, tally}
use Rattle.pp_turns.specs.Causes.{is_aside, PassesOver}
use Rattle.pp_tree_turns.specs.Walked.{Walked, after_load, after_key, tree_next, tree_loses, tree_strikes, tree_reader, walked}
use Rattle.pp_tree_turns.specs.Walked.{one_if, lost_by, TreeTally, moved}

either : (a b : Bool) → a || b ≡ true → (a ≡ true) ⊎ (b ≡ true)
either true b e = inl refl
either false b e = inr e

both : (a b : Bool) → a && b ≡ true → (a ≡ true) × (b ≡ true)
both true b e = (refl, e)
both false b e = absurd (false≢true e)

-- A step aside is of one of these kinds, or it is a failed exchange at a shelf word.
pub record IsIdleKind (k : ℕ) : Type 0 where
  pub load : k ≢ 4
  pub confirm : k ≢ 6
  pub read : k ≢ 8
  pub detach : k ≢ 10
  pub miss : k ≢ 11
  pub publish : k ≢ 20
  pub flag : k ≢ 21
  pub tag : k ≢ 22
  pub ends : k ≢ 24

abbrev IsAside : Sizes → NamedStep → Type 0
IsAside z s = IsIdleKind s.kind ⊎ ((s.kind ≡ 11) × (s.place ≤ 17 * z.passes))

abbrev pub is_counted : ℕ → Bool
is_counted k = nat_eq k 4 || (nat_eq k 6 || (nat_eq k 8 || (nat_eq k 10 || (nat_eq k 11 || (nat_eq k 20 || (nat_eq k 21
    || (nat_eq k 22 || nat_eq k 24)))))))

pub idle : (k : ℕ) → is_counted k ≡ false → IsIdleKind k
idle k e = record {
  load = λ i. never i refl;
  confirm = λ i. never i refl;
  read = λ i. never i refl;
  detach = λ i. never i refl;
  miss = λ i. never i refl;
  publish = λ i. never i refl;
  flag = λ i. never i refl;
  tag = λ i. never i refl;
  ends = λ i. never i refl;
}
  where
    never : {n : ℕ} → k ≡ n → is_counted n ≡ true → ⊥
    never i counted = false≢true (sym e ∙ (ap is_counted i ∙ counted))

kind_of : (z : Sizes) (s : NamedStep) (k : ℕ) → nat_eq s.kind k ≡ true → is_counted k ≡ false → IsAside z s
kind_of z s k e which = inl (subst IsIdleKind (sym (eqb-true s.kind k e)) (idle k which))

-- what a step aside may be
aside_is : (z : Sizes) (s : NamedStep) → is_aside z s ≡ true → IsAside z s
aside_is z s e = ⊎_elim
    (λ (p : is_purse_step z s ≡ true). purse p)
    (λ (x : nat_eq s.kind 7 || nat_eq s.kind 1 ≡ true). ⊎_elim
    (λ (y : nat_eq s.kind 7 ≡ true). kind_of z s 7 y refl)
    (λ (y : nat_eq s.kind 1 ≡ true). kind_of z s 1 y refl)
    (either (nat_eq s.kind 7) (nat_eq s.kind 1) x))
    (either (is_purse_step z s) (nat_eq s.kind 7 || nat_eq s.kind 1) e)
  where
    last : (nat_eq s.kind 11 && nat_lt s.place (1 + 17 * z.passes)) ≡ true → IsAside z s
    last x = let y = both (nat_eq s.kind 11) (nat_lt s.place (1 + 17 * z.passes)) x in
        let low : s.place < 1 + 17 * z.passes = ltb-true s.place (1 + 17 * z.passes) y.1 in
        let most : s.place ≤ 17 * z.passes = omega arith in inr (eqb-true s.kind 11 y.0, most)

    purse : is_purse_step z s ≡ true → IsAside z s
    purse e0 = ⊎_elim (λ (x : nat_eq s.kind 12 ≡ true). kind_of z s 12 x refl)
        (λ e1. ⊎_elim (λ (x : nat_eq s.kind 14 ≡ true). kind_of z s 14 x refl)
        (λ e2. ⊎_elim (λ (x : nat_eq s.kind 15 ≡ true). kind_of z s 15 x refl)
        (λ e3. ⊎_elim (λ (x : nat_eq s.kind 16 ≡ true). kind_of z s 16 x refl)
        (λ e4. ⊎_elim (λ (x : nat_eq s.kind 25 ≡ true). kind_of z s 25 x refl)
        (λ e5. ⊎_elim (λ (x : nat_eq s.kind 26 ≡ true). kind_of z s 26 x refl)
        last (either _ _ e5)) (either _ _ e4)) (either _ _ e3)) (either _ _ e2)) (either _ _ e1)) (either _ _ e0)

-- nothing is lost or remembered at a step of such a kind
pub idle_loses : (z : MapSizes) (m : Walked) (s : NamedStep) → IsIdleKind s.kind → tree_loses z m s ≡ false
idle_loses z m s i = by (nat_eq s.kind 4) (nat_eq s.kind 6) (nat_eq s.kind 24) (nat_eq s.kind 11) (nat_eq s.kind 22)
    (nat_eq s.kind 10) (nat_eq s.kind 8) (ne_eqb s.kind 4 i.load) (ne_eqb s.kind 6 i.confirm) (ne_eqb s.kind 24 i.ends)
    (ne_eqb s.kind 11 i.miss) (ne_eqb s.kind 22 i.tag) (ne_eqb s.kind 10 i.detach) (ne_eqb s.kind 8 i.read)
  where
    by : (a b c d e f g : Bool) → a ≡ false → b ≡ false → c ≡ false → d ≡ false → e ≡ false → f ≡ false → g ≡ false
        → cond a (nat_eq (invalid_bit s.word) 1) (cond (b || c) (not (nat_eq s.word m.word))
        (cond d (nat_lt (17 * z.passes) s.place) (cond e (nat_eq (invalid_bit s.word) 1)
        (cond f (not m.struck) (cond (g && m.coming) (nat_lt s.word m.low || nat_le m.high s.word) false))))) ≡ false
    by false false false false false false false _ _ _ _ _ _ _ = refl
    by true b c d e f g x _ _ _ _ _ _ = absurd (false≢true (sym x))
    by false true c d e f g _ x _ _ _ _ _ = absurd (false≢true (sym x))
    by false false true d e f g _ _ x _ _ _ _ = absurd (false≢true (sym x))
    by false false false true e f g _ _ _ x _ _ _ = absurd (false≢true (sym x))
    by false false false false true f g _ _ _ _ x _ _ = absurd (false≢true (sym x))
    by false false false false false true g _ _ _ _ _ x _ = absurd (false≢true (sym x))
    by false false false false false false true _ _ _ _ _ _ x = absurd (false≢true (sym x))

pub idle_strikes : (s : NamedStep) → IsIdleKind s.kind → tree_strikes s ≡ false
idle_strikes s i = ap (λ (b : Bool). b || nat_eq s.kind 21) (ne_eqb s.kind 20 i.publish) ∙ ne_eqb s.kind 21 i.flag

pub idle_next : (z : MapSizes) (call : Call) (m : Walked) (s : NamedStep) → IsIdleKind s.kind → tree_next z call m s ≡ m
idle_next z call m s i = ap (λ (b : Bool). cond b l (cond (nat_eq s.kind 6) c (cond (nat_eq s.kind 8 && m.coming) r
    (cond (tree_strikes s) e m)))) (ne_eqb s.kind 4 i.load)
    ∙ (ap (λ (b : Bool). cond b c (cond (nat_eq s.kind 8 && m.coming) r (cond (tree_strikes s) e m))) (ne_eqb s.kind 6 i.confirm)
    ∙ (ap (λ (b : Bool). cond (b && m.coming) r (cond (tree_strikes s) e m)) (ne_eqb s.kind 8 i.read)
    ∙ ap (λ (b : Bool). cond b e m) (idle_strikes s i)))
  where
    l : Walked
    l = after_load z m s

    c : Walked
    c = record m { coming = nat_eq s.word m.word }

    r : Walked
    r = after_key call m s

    e : Walked
    e = record m { struck = true }

shelf_loses : (z : Sizes) (m : Walked) (place word : ℕ) → place ≤ 17 * z.passes
    → tree_loses (map_sizes z) m (record { kind = 11; place = place; word = word }) ≡ false
shelf_loses z m place word most = by (nat_lt (17 * z.passes) place) refl
  where
    by : (b : Bool) → nat_lt (17 * z.passes) place ≡ b → b ≡ false
    by false e = refl
    by true e = let more : 17 * z.passes < place = ltb-true (17 * z.passes) place e in absurd (omega arith)

-- A tree's reader passes over steps aside.
pub tree_over : (z : Sizes) → PassesOver tree_reader z
tree_over z = record {
  keeps = λ call m s e. ⊎_elim (λ (i : IsIdleKind s.kind). idle_loses (map_sizes z) m (name_of s) i)
      (λ (x : (s.kind ≡ 11) × (s.place ≤ 17 * z.passes)).
      subst (λ (k : ℕ). tree_loses (map_sizes z) m (record { kind = k; place = s.place; word = s.word }) ≡ false) (sym x.0)
      (shelf_loses z m s.place s.word x.1)) (aside_is z (name_of s) e);
  idles = λ call m s e. ⊎_elim (λ (i : IsIdleKind s.kind). idle_strikes (name_of s) i)
      (λ (x : (s.kind ≡ 11) × (s.place ≤ 17 * z.passes)). ap (λ (k : ℕ). nat_eq k 20 || nat_eq k 21) x.0)
      (aside_is z (name_of s) e);
}

pub aside_next : (z : Sizes) (call : Call) (m : Walked) (s : NamedStep) → is_aside z s ≡ true → tree_next (map_sizes z) call m s ≡ m
aside_next z call m s e = ⊎_elim (λ (i : IsIdleKind s.kind). idle_next (map_sizes z) call m s i)
    (λ (x : (s.kind ≡ 11) × (s.place ≤ 17 * z.passes)).
    ap (λ (k : ℕ). tree_next (map_sizes z) call m (record { kind = k; place = s.place; word = s.word })) x.0) (aside_is z s e)

pub aside_loses : (z : Sizes) (m : Walked) (s : NamedStep) → is_aside z s ≡ true → tree_loses (map_sizes z) m s ≡ false
aside_loses z m s e = ⊎_elim (λ (i : IsIdleKind s.kind). idle_loses (map_sizes z) m s i)
    (λ (x : (s.kind ≡ 11) × (s.place ≤ 17 * z.passes)).
    subst (λ (k : ℕ). tree_loses (map_sizes z) m (record { kind = k; place = s.place; word = s.word }) ≡ false) (sym x.0)
    (shelf_loses z m s.place s.word x.1)) (aside_is z s e)

pub aside_strikes : (z : Sizes) (s : NamedStep) → is_aside z s ≡ true → tree_strikes s ≡ false
aside_strikes z s e = ⊎_elim (λ (i : IsIdleKind s.kind). idle_strikes s i)
    (λ (x : (s.kind ≡ 11) × (s.place ≤ 17 * z.passes)). ap (λ (k : ℕ). nat_eq k 20 || nat_eq k 21) x.0) (aside_is z s e)

-- no call takes effect at steps of these names
abbrev pub AreQuiet : List NamedStep → Type 0
AreQuiet names = (s : NamedStep) → IsIn s names → tree_strikes s ≡ false

-- A call after steps of these names, at which it doesn't take effect.
pub tally_named : (z : MapSizes) (call : Call) (t : TreeTally) (steps : List Step) → AreQuiet (map name_of steps)
    → tally tree_reader z call t steps
    ≡ moved t (walked z call (memory_of t) (map name_of steps)) (lost_by z call (memory_of t) (map name_of steps)) steps
unfolding tally walked lost_by
tally_named z call (losing m n) [] quiet = let e : n ≡ n + 0 = omega arith in ap (losing m) e
tally_named z call (losing m n) (s ∷ steps) quiet = let m' : Walked = tree_next z call m (name_of s) in
    let k : ℕ = one_if (tree_loses z m (name_of s)) in
    let rest : List NamedStep = map name_of steps in
    let ih = tally_named z call (losing m' (n + k)) steps (λ x i. quiet x (in_later x (name_of s) rest i)) in
    let sum : n + k + lost_by z call m' rest ≡ n + (k + lost_by z call m' rest) = omega arith in
    ap (λ (b : Bool). tally tree_reader z call (cond b (effected m' (n + k) n []) (losing m' (n + k))) steps)
    (quiet (name_of s) (in_first (name_of s) rest)) ∙ (ih ∙ ap (losing (walked z call m' rest)) sum)
tally_named z call (effected m n early later) [] quiet = let e : n ≡ n + 0 = omega arith in
    ap (λ (x : ℕ). effected m x early later) e ∙ ap (effected m (n + 0) early) (sym (append-nil later))
tally_named z call (effected m n early later) (s ∷ steps) quiet = let m' : Walked = tree_next z call m (name_of s) in
    let k : ℕ = one_if (tree_loses z m (name_of s)) in
    let rest : List NamedStep = map name_of steps in
    let ih = tally_named z call (effected m' (n + k) early (later ++ s ∷ [])) steps (λ x i. quiet x (in_later x (name_of s) rest i)) in
    let sum : n + k + lost_by z call m' rest ≡ n + (k + lost_by z call m' rest) = omega arith in
    ih ∙ (ap (λ (x : ℕ). effected (walked z call m' rest) x early ((later ++ s ∷ []) ++ steps)) sum
    ∙ ap (effected (walked z call m' rest) (n + (k + lost_by z call m' rest)) early) (append_assoc later (s ∷ []) steps))
