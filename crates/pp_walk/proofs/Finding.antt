-- What a walk found.
use Rattle.std.proofs.Common.{◌≡◌, ◌≢◌, inl, inr, ℕ, ◌+◌, ◌%◌, ◌<◌, ◌≤◌, Bool, true, false, cond, nat_eq, nat_lt, List, [], ◌∷◌, length}
use Rattle.std.proofs.Common.{Option, Some, None, refl, sym, ap, ◌∙◌, subst, arith, true≢false, eq-eqb, ne_eqb}
use Rattle.std.specs.Prelude.{min, not}
use Rattle.std.proofs.Math.Decide.{ℕ_discrete}
use mathlib.Core.Logic.{dite}
use Rattle.pp_link.specs.declared.layout.Sizes.{Sizes}
use Rattle.pp_link.specs.declared.link.Link.{Link}
use Rattle.pp_link.specs.Links.{target, word_of, flag_bit}
use Rattle.pp_model.specs.declared.Call.{Call}
use Rattle.pp_model.specs.Calls.{key_of}
use Rattle.pp_rule.specs.Views.{slot, value_of}
use Rattle.pp_base.specs.declared.source.Place.TheVariants.{Walk as Word}
use Rattle.pp_lists.specs.declared.own.Gathered.{Gathered}
use Rattle.pp_lists.specs.Walks.{Joined}
use Rattle.pp_lists.specs.Lists.{ListPass}
use Rattle.pp_lists.specs.Turns.{found_at, EndsPast}
use Rattle.pp_walk.specs.declared.walk.Walk.{Walk}
use Rattle.pp_walk.specs.declared.walk.Found.{Found}
use Rattle.pp_walk.specs.Steps.{LeadsTo}
use Rattle.pp_walk.specs.Words.{IsEmpty, Cleared}
use Rattle.pp_walk.specs.Roles.{IsAnchor, IsFound, HasChain, no_chain, a_chain, IsEnd, at_nil, at_record, Counts, IsPlain, is_look, most}
use Rattle.pp_walk.specs.Roles.{found_in}
use Rattle.pp_walk.specs.Parts.{Stopped, finding, plain_link, GathersNone}
use Rattle.pp_walk.specs.Effects.{MayFill, MayDetachRun}
use Rattle.pp_walk.proofs.Standing.{Chains, lets_nothing}

pub plain_target : (n : ℕ) → target (word_of (plain_link n)) ≡ n
plain_target n = omega arith

pub plain_bits : (n : ℕ) → IsPlain (plain_link n)
plain_bits n = omega arith

-- a number that isn't below five and isn't above it
below_five : (f : ℕ) → f < 5 → nat_lt f 5 ≡ true
below_five f lt = Rattle.std.proofs.lemmas.Bool.lt-ltb f 5 lt

counted_some : (cs : List Gathered) (n : ℕ) → n ≡ min (length cs) most → cs ≢ [] → n ≢ 0
counted_some [] n e some_made z = some_made refl
counted_some (c ∷ cs) n e some_made z = let long : length (c ∷ cs) ≡ length cs + 1 = omega arith in omega arith

-- What was gathered leads to the record n.
pub has_chain : (q : ListPass) (walk : Walk) (n word : ℕ) (equal marked : Bool) → Chains q walk.anchor
    → (q.own.first < 5 → Joined (slot q q.own.first).named q.own.chain n) → walk.first ≡ q.own.first → Counts q walk.chain
    → HasChain q (finding walk q n word equal marked)
has_chain q walk n word equal marked c leads first counts = dite (ℕ_discrete q.own.first 5)
    (λ e. no_chain e (c.none e) (counts ∙ ap (λ (cs : List Gathered). min (length cs) most) (c.none e))
    (ap (λ (f : ℕ). cond (nat_lt f 5) (plain_link (slot q f).named) (plain_link n)) (first ∙ e)))
    (λ ne. let few = c.few in let lt : q.own.first < 5 = omega arith in
    let first_is : cond (nat_lt walk.first 5) (plain_link (slot q walk.first).named) (plain_link n) ≡ plain_link
    (slot q q.own.first).named =
    ap (λ (f : ℕ). cond (nat_lt f 5) (plain_link (slot q f).named) (plain_link n)) first
    ∙ ap (λ (b : Bool). cond b (plain_link (slot q q.own.first).named) (plain_link n)) (below_five q.own.first lt) in
    a_chain lt (c.first_held lt) (c.first_apart lt) (c.some_chain lt)
    (ap (λ (l : Link). target (word_of l)) first_is ∙ plain_target (slot q q.own.first).named)
    (subst (λ (m : ℕ). Joined (slot q q.own.first).named q.own.chain m) (sym (plain_target n)) (leads lt))
    (counted_some q.own.chain walk.chain counts (c.some_chain lt)))

-- the link that a walk found is one without bits
pub plain_first : (q : ListPass) (walk : Walk) (n word : ℕ) (equal marked : Bool) → IsPlain (finding walk q n word equal marked).first
plain_first q walk n word equal marked = by (nat_lt walk.first 5)
  where
    by : (b : Bool) → IsPlain (cond b (plain_link (slot q walk.first).named) (plain_link n))
    by true = plain_bits (slot q walk.first).named
    by false = plain_bits n

-- It ended at the record in the walk word i.
pub found_there : (z : Sizes) (q : ListPass) (call : Call) (walk : Walk) (i key link n : ℕ) (equal marked : Bool)
    → Stopped z q call walk.anchor i key link
    → n ≡ (slot q i).named → n < 4294967296 → equal ≡ nat_eq key (key_of call) → (is_look call ≡ false → marked ≡ false)
    → walk.first ≡ q.own.first → Counts q walk.chain
    → IsFound z q call (finding walk q n i equal marked)
found_there z q call walk i key link n equal marked s number small same unmarked first counts = record {
  call_is = s.call_is;
  anchored = s.anchored;
  plain_first = plain_first q walk n i equal marked;
  plain_end = plain_bits n;
  small_end = omega arith;
  end = at_record (λ e. s.real (sym number ∙ (sym (plain_target n) ∙ e))) s.low s.held (sym number ∙ sym (plain_target n))
      (subst (λ (k : ℕ). key_of call ≤ k) s.key_is s.high) (same ∙ ap (λ (k : ℕ). nat_eq k (key_of call)) s.key_is) s.apart
      (λ e. apart_first e) s.stands;
  chain = has_chain q walk n i equal marked record {
    none = s.none;
    few = s.few;
    first_held = s.first_held;
    some_chain = s.some_chain;
    first_apart = λ lt. (s.first_apart lt).0;
  } (λ lt. subst (λ (m : ℕ). Joined (slot q q.own.first).named q.own.chain m) (sym number) (s.leads lt)) first counts;
  count = counts;
  looks = s.looks;
  unmarked = unmarked;
  empty = λ j lt x y u. s.empty j lt x y (λ e. u (e ∙ sym s.stands));
}
  where
    apart_first : i ≢ q.own.first
    apart_first e = let low = s.low in (s.first_apart (omega arith)).1 (sym e)

-- what was found, in the words of the step that ended the walk
pub found_is : (q : ListPass) (call : Call) (walk : Walk) (i key link n : ℕ) (equal marked : Bool) → key ≡ (slot q i).key
    → equal ≡ nat_eq key (key_of call) → marked ≡ nat_eq (flag_bit link) 1
    → found_at (key_of call) (slot q i).key (slot q i).value link ≡ found_in q (finding walk q n i equal marked)
found_is q call walk i key link n equal marked key_is same marks =
    ap (λ (b : Bool). cond b (cond (nat_eq (flag_bit link) 0) (Some (value_of (slot q i).value)) None) None)
    (ap (λ (k : ℕ). nat_eq k (key_of call)) (sym key_is) ∙ sym same)
    ∙ ap (λ (o : Option ℕ). cond equal o None) (dite (ℕ_discrete (flag_bit link) 0)
    (λ e. ap (λ (b : Bool). cond b (Some (value_of (slot q i).value)) None) (eq-eqb (flag_bit link) 0 e)
    ∙ sym (ap (λ (b : Bool). cond b None (Some (value_of (slot q i).value))) (marks ∙ ne_eqb (flag_bit link) 1 (λ f. omega arith))))
    (λ ne. ap (λ (b : Bool). cond b (Some (value_of (slot q i).value)) None) (ne_eqb (flag_bit link) 0 ne)
    ∙ sym (ap (λ (b : Bool). cond b None (Some (value_of (slot q i).value))) (marks ∙ eq-eqb (flag_bit link) 1 (omega arith)))))

-- an odd word has FLAG
pub odd_is : (n : ℕ) → not (nat_eq (n % 2) 0) ≡ nat_eq (flag_bit n) 1
odd_is n = dite (ℕ_discrete (n % 2) 0)
    (λ e. ap not (eq-eqb (n % 2) 0 e) ∙ sym (ne_eqb (n % 2) 1 (λ f. omega arith)))
    (λ ne. ap not (ne_eqb (n % 2) 0 ne) ∙ sym (eq-eqb (n % 2) 1 (omega arith)))

-- It ended at nil.
pub found_nil : (z : Sizes) (q : ListPass) (call : Call) (walk : Walk) → q.own.call ≡ call → IsAnchor z q (key_of call) walk.anchor
    → Chains q walk.anchor
    → (q.own.first < 5 → Joined (slot q q.own.first).named q.own.chain 0) → (is_look call ≡ true → q.own.first ≡ 5)
    → ((j : ℕ) → j < 5 → Word j ≢ walk.anchor → j ≢ q.own.first → j ≢ q.own.at → IsEmpty (slot q j)) → walk.first ≡ q.own.first
    → Counts q walk.chain
    → IsFound z q call (finding walk q 0 0 false false)
found_nil z q call walk call_is anchored chains leads looks empty first counts = record {
  call_is = call_is;
  anchored = anchored;
  plain_first = plain_first q walk 0 0 false false;
  plain_end = plain_bits 0;
  small_end = omega arith;
  end = at_nil (plain_target 0) refl refl refl;
  chain = has_chain q walk 0 0 false false chains leads first counts;
  count = counts;
  looks = looks;
  unmarked = λ _. refl;
  empty = empty;
}

-- From what was found to the later turns.
module _ (z : Sizes) (q : ListPass) (call : Call) (f : Found) (found : IsFound z q call f) where
  -- what was gathered leads to the record where the walk ended
  pub leads_end : target (word_of f.end) ≢ 0 → LeadsTo f.word q
  leads_end real = by found.chain found.end
    where
      by : HasChain q f → IsEnd z q (key_of call) f → LeadsTo f.word q
      by (no_chain first _ _ _) e lt = absurd (omega arith)
      by (a_chain low held apart some_made leads joined count) (at_nil nil _ _ _) lt = absurd (real nil)
      by (a_chain low held apart some_made leads joined count) (at_record _ _ _ named _ _ _ _ _) lt =
          subst (λ (n : ℕ). Joined (slot q q.own.first).named q.own.chain n) (sym named) joined

  -- nothing is gathered, or what was may be detached
  pub may_detach : f.chain ≢ 0 → MayDetachRun z q f.anchor f.first f.end
  may_detach some_made = by found.chain
    where
      by : HasChain q f → MayDetachRun z q f.anchor f.first f.end
      by (no_chain _ _ none _) = absurd (some_made none)
      by (a_chain low held apart more_made leads joined count) = record {
        key = key_of call;
        anchored = found.anchored;
        gathered = low;
        some_chain = more_made;
        plain_first = found.plain_first;
        plain_end = found.plain_end;
        small_end = found.small_end;
        leads = leads;
        joined = joined;
      }

  -- an insert whose key isn't there may fill the gap
  pub may_fill : f.equal ≡ false → MayFill z q f.anchor f.end (key_of call)
  may_fill other = record { anchored = found.anchored; plain = found.plain_end; past = by found.end }
    where
      by : IsEnd z q (key_of call) f → EndsPast q (key_of call) (word_of f.end)
      by (at_nil nil _ _ _) = inl nil
      by (at_record real low held named high equal _ _ _) = inr (
        f.word,
        low,
        held,
        named,
        (let ne : (slot q f.word).key ≢ key_of call =
            (λ e. true≢false (sym (eq-eqb (slot q f.word).key (key_of call) e) ∙ (sym equal ∙ other))) in omega arith),
      )

  chains_found : Chains q f.anchor
  chains_found = by found.chain
    where
      by : HasChain q f → Chains q f.anchor
      by (no_chain first chain _ _) = record {
        none = λ _. chain;
        few = omega arith;
        first_held = λ lt. absurd (omega arith);
        some_chain = λ lt. absurd (omega arith);
        first_apart = λ lt. absurd (omega arith);
      }
      by (a_chain low held apart some_made leads joined count) = record {
        none = λ e. absurd (omega arith);
        few = omega arith;
        first_held = λ _. held;
        some_chain = λ _. some_made;
        first_apart = λ _. apart;
      }

  -- after all walk words are cleared nothing is gathered
  pub found_cleared : (r : ListPass) → Cleared 5 5 5 q r → GathersNone r.own
  found_cleared r c = lets_nothing q r chains_found.none chains_found.few chains_found.first_held c
