-- The later turns of a call that changes the list.
use Rattle.std.proofs.Common.{◌≡◌, ◌≢◌, inl, inr, ℕ, zero, suc, ◌+◌, ◌*◌, ◌%◌, ◌<◌, ◌≤◌, Bool, true, false, cond, nat_eq, nat_lt, List, []}
use Rattle.std.proofs.Common.{◌∷◌, ◌++◌, length}
use Rattle.std.proofs.Common.{refl, sym, ap, ◌∙◌, subst, arith, true≢false, eq-eqb, ne_eqb}
use Rattle.std.specs.Prelude.{bit_or, map, not}
use Rattle.std.proofs.Math.Decide.{ℕ_discrete}
use mathlib.Core.Logic.{dite}
use Rattle.pp_link.specs.declared.layout.Sizes.{Sizes}
use Rattle.pp_link.specs.declared.link.Link.{Link}
use Rattle.pp_link.specs.Links.{target, flag_bit, invalid_bit, word_of, bit}
use Rattle.pp_link.specs.Places.{cell_place, frontier_place}
use Rattle.pp_link.proofs.Packing.{bit_small}
use Rattle.pp_model.specs.declared.Call.{Call}
use Rattle.pp_model.specs.Calls.{key_of}
use Rattle.pp_rule.specs.declared.views.WalkSlot.{WalkSlot}
use Rattle.pp_rule.specs.Lists.{IsIn}
use Rattle.pp_rule.specs.Orders.{missed_step}
use Rattle.pp_rule.specs.Views.{slot, value_of}
use Rattle.pp_rule.specs.States.{IsSmall}
use Rattle.pp_rule.specs.Steps.{MadeQuietStep, ReadField}
use Rattle.pp_rule.proofs.Put.{in_nil, in_one, in_cases, in_either}
use Rattle.pp_rule.proofs.Made.{known_after}
use Rattle.pp_base.specs.declared.purse.Purse.{Purse}
use Rattle.pp_base.specs.declared.source.Place.{Place}
use Rattle.pp_base.specs.declared.source.Place.TheVariants.{Head, Walk as Word}
use Rattle.pp_base.specs.declared.source.Side.TheVariants.{Left}
use Rattle.pp_base.specs.Sources.{source_place, IsReadable}
use Rattle.pp_base.specs.Named.{NamedStep, misses, guards, unguards, detaches, invalidates, retires, MadeOne, Made}
use Rattle.pp_base.proofs.Named.{plain_one, made_append}
use Rattle.pp_unlink.specs.Invalidation.{Flushed, invalidations}
use Rattle.pp_unlink.specs.Unlinking.{MayFlush, Exchanges, Misses}
use Rattle.pp_unlink.specs.declared.unlinking.Unlink.TheVariants.{Detached, Changed}
use Rattle.pp_lists.specs.declared.own.Gathered.{Gathered}
use Rattle.pp_lists.specs.Walks.{Source, at_head, Joined, more, bucket}
use Rattle.pp_lists.specs.Walks.{at_record as at_number, done as chain_ends}
use Rattle.pp_lists.specs.Lists.{ListPass, MayUnlink, list_chain, list_frozen}
use Rattle.pp_lists.specs.Turns.{ListView, IsBefore, Marks, mark_step, marked}
use Rattle.pp_lists.specs.Losses.{is_effect}
use Rattle.pp_lists.proofs.Losing.{IsIdleKind, onto, finds_append, idle_finds, missed_finds, marked_finds}
use Rattle.pp_lists.proofs.Telling.{or_one, or_same}
use Rattle.pp_walk.specs.Steps.{MayPublishAt, PublishedAt}
use Rattle.pp_walk.specs.Roles.{IsAnchor, IsPlain, IsFound, IsEnd, at_nil, at_record, HasChain, no_chain, a_chain}
use Rattle.pp_walk.specs.declared.walk.Found.{Found}
use Rattle.pp_walk.specs.Trod.{StrikeNone}
use Rattle.pp_walk.specs.Parts.{plain_link}
use Rattle.pp_walk.specs.Effects.{Tried, MayFill, FillsAt, PublishesSo, MarksNone, MarksOne, MayDetachRun, DetachesSo}
use Rattle.pp_walk.specs.declared.effects.Taken.{Taken}
use Rattle.pp_walk.proofs.Counting.{quiet_both}
use Rattle.pp_walk.proofs.Standing.{anchor_on, joined_more}
use Rattle.pp_walk.proofs.Finding.{plain_target, plain_bits}
use Rattle.pp_walk.proofs.Here.{read_quiet, read_known}

-- An anchor's link may be loaded.
pub anchor_readable : (z : Sizes) (q : ListPass) (k : ℕ) (anchor : Place) → IsAnchor z q k anchor → IsReadable 1 z q anchor Left
anchor_readable z q k (Head h) a = a.0
anchor_readable z q k (Word i) a = (a.0, omega arith, a.1)

-- its place stands behind the hazard words and the shelf words
pub anchor_past : (z : Sizes) (q : ListPass) (anchor : Place) → 17 * z.passes < source_place z q anchor Left
anchor_past z q (Head h) = omega arith
anchor_past z q (Word i) = omega arith

-- The gap behind an anchor may be filled.
pub may_publish : (z : Sizes) (q : ListPass) (p : Purse) (anchor : Place) (end : Link) (n k v : ℕ) → n < 4294967296
    → MayFill z q anchor end k
    → FillsAt q p n k v end → MayPublishAt z q p n (source_place z q anchor Left) k v (word_of end) (word_of (plain_link n))
may_publish z q p anchor end n k v small may f = record {
  index = f.index;
  was = f.was;
  number_is = f.number_is;
  taken = f.taken;
  may = record {
    source = source anchor;
    before = before anchor may.anchored;
    at = at anchor;
    plain = may.plain;
    new_plain = plain_bits n;
    new_to = plain_target n ∙ sym f.number_is;
    new_small = omega arith;
    owned_at = f.at;
    key = f.key;
    value = f.value;
    left = f.left;
    end = may.past;
  };
}
  where
    source : Place → Source
    source (Head h) = at_head h
    source (Word i) = at_number (slot q i).named

    before : (p : Place) → IsAnchor z q k p → IsBefore z q k (source p)
    before (Head h) a = a
    before (Word i) a = (i, a.0, a.1, refl, a.2, a.3)

    at : (p : Place) → source_place z q p Left ≡ Rattle.pp_lists.specs.Walks.source_place z (source p)
    at (Head h) = refl
    at (Word i) = refl

-- a step that writes, but by which no call takes effect
tried_missed : (place word : ℕ) (v w : ListView) → 17 * v.known.sizes.passes < place → MadeOne (misses place word) v w → Tried 1 v w
tried_missed place word v w past made = record {
  steps = misses place word ∷ [];
  did = (w, (made, refl));
  loses = λ sizes earlier same. missed_finds sizes earlier place word (subst (λ (n : ℕ). 17 * n < place) (sym same) past);
  strikes = λ s i. subst (λ (x : NamedStep). is_effect x ≡ false) (in_one s (misses place word) i) refl;
}

pub publishes_so : (z : Sizes) (place n k v end : ℕ) (found : ℕ) (done : Bool) (before now : ListView) → before.known.sizes ≡ z
    → 17 * z.passes < place → done ≡ nat_eq found end → PublishedAt n place k v end (word_of (plain_link n)) found before now
    → PublishesSo place n k v end before now done
publishes_so z place n k v end found done before now sizes past done_is p = let high : 17 * before.known.sizes.passes < place =
    subst (λ (y : Sizes). 17 * y.passes < place) (sym sizes) past in record {
      found = found;
      published = p;
      hit = λ t. hit (sym done_is ∙ t);
      missed = λ f. let other = missed (sym done_is ∙ f) in let made = p.made.other other in (
        other,
        tried_missed place found before now high (plain_one (misses place found) before.known before now refl refl made),
        known_after missed_step place found found [] [] before.known before now made,
      );
      past = high;
    }
  where
    hit : nat_eq found end ≡ true → found ≡ end
    hit t = Rattle.std.proofs.lemmas.Bool.eqb-true found end t

    missed : nat_eq found end ≡ false → found ≢ end
    missed f e = true≢false (sym (eq-eqb found end e) ∙ f)

-- FLAG of a link that was unpacked from a word
pub flag_of : (l : Link) → flag_bit (word_of l) ≡ bit l.flag
flag_of l = let small = bit_small l.flag in omega arith

-- The record was marked already.
pub marks_none : (w place found : ℕ) (call : Call) (before now : ListView) → flag_bit found ≡ 1 → Marks w place call found before now
    → MarksNone place before now
marks_none w place found call before now flag m = let made = m.lost flag in let s : NamedStep = record {
  kind = mark_step;
  place = place;
  word = found;
} in record {
  found = found;
  flagged = flag;
  tried = record {
    steps = s ∷ [];
    did = (
      now,
      (
        record {
          known = before.known;
          left = bit_or found 1;
          number = refl;
          owned = λ _. refl;
          leaves = λ _. or_same found flag;
          made = made;
        },
        refl,
      ),
    );
    loses = λ sizes earlier _. marked_finds sizes earlier place found flag;
    strikes = λ t i. subst (λ (x : NamedStep). is_effect x ≡ false) (in_one t s i)
        (ap (λ (b : Bool). not b) (eq-eqb (flag_bit found) 1 flag));
  };
  known = known_after mark_step place found (bit_or found 1) [] [] before.known before now made;
}

-- The call took effect, and then the record's value was read.
pub marks_one : (z : Sizes) (w found a b p q : ℕ) (call : Call) (taken : Taken) (before then middle now : ListView) → flag_bit found ≡ 0
    → Marks w (cell_place z (slot before.known w).named 2) call found before then → ReadField w 1 a p then middle
    → ReadField w 4 b q middle now
    → taken.value ≡ value_of (slot then.known w).value → taken.next ≡ plain_link (target found) → MarksOne z w call taken before now
marks_one z w found a b p q call taken before then middle now plain m r1 r2 value next =
    let made = (m.done plain).1 in let place : ℕ = cell_place z (slot before.known w).named 2 in
    let is = known_after mark_step place found (bit_or found 1) _ _ (marked w (bit_or found 1) before.known) before then made in record {
      found = found;
      plain = plain;
      then = then;
      marks = m;
      reads = quiet_both 0 0 0 refl then middle now (read_quiet w 1 a p then middle r1) (read_quiet w 4 b q middle now r2);
      known = read_known w 4 b q middle now r2 ∙ (read_known w 1 a p then middle r1 ∙ is);
      value = value ∙ ap (λ (x : ListPass). value_of (slot x w).value) is;
      next_is = ap (λ (l : Link). target (word_of l)) next ∙ (plain_target (target found) ∙ sym (ap target (or_one found plain) ∙ same));
      next_plain = subst IsPlain (sym next) (plain_bits (target found));
      next_small = subst (λ (l : Link). IsSmall (word_of l)) (sym next) (let low = m.small in omega arith);
    }
  where
    same : target (found + 1) ≡ target found
    same = omega arith

-- what was held before it is held after
pub held_marked : (w place found : ℕ) (call : Call) (before then : ListView) → flag_bit found ≡ 0 → Marks w place call found before then
    → (j : ℕ) → slot then.known j ≡ slot before.known j
held_marked w place found call before then plain m j = ap (λ (q : ListPass). slot q j)
    (known_after mark_step place found (bit_or found 1) _ _
    (marked w (bit_or found 1) before.known) before then (m.done plain).1)

-- What was gathered may be detached at the anchor.
pub may_unlink : (z : Sizes) (q : ListPass) (anchor : Place) (first end : Link) → MayDetachRun z q anchor first end
    → MayUnlink z q.walk q.own (source_place z q anchor Left) (word_of first) (word_of end)
may_unlink z q (Head h) first end m = record {
  source = at_head h;
  own_source = m.anchored.0;
  at = refl;
  plain = m.plain_first;
  new_plain = m.plain_end;
  small = m.small_end;
  gathered = m.gathered;
  some = m.some_chain;
  leads = m.leads;
  joined = subst (λ (n : ℕ). Joined n q.own.chain (target (word_of end))) (sym m.leads) m.joined;
}
may_unlink z q (Word i) first end m = record {
  source = at_number (slot q i).named;
  own_source = (i, m.anchored.0, m.anchored.1, refl);
  at = refl;
  plain = m.plain_first;
  new_plain = m.plain_end;
  small = m.small_end;
  gathered = m.gathered;
  some = m.some_chain;
  leads = m.leads;
  joined = subst (λ (n : ℕ). Joined n q.own.chain (target (word_of end))) (sym m.leads) m.joined;
}

-- Steps at which nothing is found and no call takes effect.
record Idling (steps : List NamedStep) : Type 0 where
  idle : (s : NamedStep) → IsIn s steps → IsIdleKind s.kind
  none : StrikeNone steps

idling_none : Idling []
idling_none = record { idle = λ s i. absurd (in_nil s i); none = λ s i. absurd (in_nil s i) }

idling_one : (s : NamedStep) (steps : List NamedStep) → IsIdleKind s.kind → is_effect s ≡ false → Idling steps → Idling (s ∷ steps)
idling_one s steps k e rest = record {
  idle = λ t i. Rattle.std.proofs.Common.⊎_elim (λ (x : t ≡ s). subst (λ (y : NamedStep). IsIdleKind y.kind) (sym x) k) (rest.idle t)
      (in_cases t s steps i);
  none = λ t i. Rattle.std.proofs.Common.⊎_elim (λ (x : t ≡ s). subst (λ (y : NamedStep). is_effect y ≡ false) (sym x) e) (rest.none t)
      (in_cases t s steps i);
}

idling_both : (xs ys : List NamedStep) → Idling xs → Idling ys → Idling (xs ++ ys)
idling_both xs ys a b = record {
  idle = λ t i. Rattle.std.proofs.Common.⊎_elim (a.idle t) (b.idle t) (in_either t xs ys i);
  none = λ t i. Rattle.std.proofs.Common.⊎_elim (a.none t) (b.none t) (in_either t xs ys i);
}

idling_links : (z : Sizes) (ls : List (ℕ × ℕ)) (words : List ℕ) → Idling (invalidations z ls words)
unfolding invalidations
idling_links z [] words = idling_none
idling_links z (l ∷ ls) [] = idling_none
idling_links z (l ∷ ls) (w ∷ words) = idling_one (invalidates (cell_place z l.0 (2 + l.1)) w) (invalidations z ls words)
    record { load = λ e. omega arith; confirm = λ e. omega arith; miss = λ e. omega arith; mark = λ e. omega arith } refl
    (idling_links z ls words)

-- A flush before the try: the list's part and the records that the pass owns stay.
record FlushedSo (v w : ListView) : Type 0 where
  steps : List NamedStep
  did : Made steps v w
  idling : Idling steps
  own : w.known.own ≡ v.known.own
  owned : w.known.owned ≡ v.known.owned
  walk : w.known.walk ≡ v.known.walk
  sizes : w.known.sizes ≡ v.known.sizes

flushed_none : (v w : ListView) → w ≡ v → FlushedSo v w
flushed_none v w is = record {
  steps = [];
  did = is;
  idling = idling_none;
  own = ap (λ (u : ListView). u.known.own) is;
  owned = ap (λ (u : ListView). u.known.owned) is;
  walk = ap (λ (u : ListView). u.known.walk) is;
  sizes = ap (λ (u : ListView). u.known.sizes) is;
}

flushed_so : (z : Sizes) (n : ℕ) (v w : ListView) → Flushed 1 z n v w → FlushedSo v w
flushed_so z zero v w is = flushed_none v w is
flushed_so z (suc n) v w f = let u : ListView = f.0 in let one = f.1.0 in let rest = flushed_so z n u w f.1.1 in
    let c = Rattle.pp_base.specs.Chains.chain_at v.known 0 in
    let here : List NamedStep = invalidations z (Rattle.pp_rule.specs.Paths.links_of 1 c.records) one.words
    ++ retires (frontier_place z v.known.number c.guard) ∷ [] in record {
      steps = here ++ rest.steps;
      did = made_append here rest.steps v u w one.steps rest.did;
      idling = idling_both here rest.steps (idling_both (invalidations z (Rattle.pp_rule.specs.Paths.links_of 1 c.records) one.words)
          (retires (frontier_place z v.known.number c.guard) ∷ [])
          (idling_links z (Rattle.pp_rule.specs.Paths.links_of 1 c.records) one.words)
          (idling_one (retires (frontier_place z v.known.number c.guard)) []
          record {
            load = λ e. omega arith;
            confirm = λ e. omega arith;
            miss = λ e. omega arith;
            mark = λ e. omega arith;
          } refl idling_none)) rest.idling;
      own = rest.own ∙ ap (λ (q : ListPass). q.own) one.known;
      owned = rest.owned ∙ ap (λ (q : ListPass). q.owned) one.known;
      walk = rest.walk ∙ ap (λ (q : ListPass). q.walk) one.known;
      sizes = rest.sizes ∙ ap (λ (q : ListPass). q.sizes) one.known;
    }

may_flush : (z : Sizes) (v w : ListView) → length v.known.chains ≤ 4 → MayFlush 1 z v w → FlushedSo v w
may_flush z v w few f = dite (ℕ_discrete (length v.known.chains) 4) (λ e. flushed_so z 4 v w (f.full e))
    (λ ne. flushed_none v w (f.few (omega arith)))

tried_idle : (steps : List NamedStep) (v w : ListView) → Made steps v w → Idling steps → Tried 0 v w
tried_idle steps v w did i = record {
  steps = steps;
  did = did;
  loses = λ sizes earlier _. idle_finds sizes earlier steps i.idle;
  strikes = i.none;
}

-- The chain was detached.
pub detaches_so : (z : Sizes) (anchor : Place) (first end : ℕ) (v w : ListView) → v.known.sizes ≡ z → length v.known.chains ≤ 4
    → Exchanges 1 z list_frozen list_chain anchor Left first end v w → DetachesSo z anchor first end v w true
detaches_so z anchor first end v w sizes few e = let f = may_flush z v e.between few e.flushed in
    let g : NamedStep = guards (frontier_place z v.known.number e.guard) (target end) in
    let d : NamedStep = detaches (source_place z v.known anchor Left) first in record {
      answer = Detached;
      unlinks = e;
      own = ap (λ (q : ListPass). q.own) e.known ∙ f.own;
      owned = ap (λ (q : ListPass). q.owned) e.known ∙ f.owned;
      hit = λ _. (
        refl,
        ap (λ (q : ListPass). q.walk) e.known ∙ f.walk,
        tried_idle (f.steps ++ g ∷ d ∷ []) v w
            (made_append f.steps (g ∷ d ∷ []) v e.between w f.did e.steps)
            (idling_both f.steps (g ∷ d ∷ []) f.idling
            (idling_one g (d ∷ []) record {
              load = λ e. omega arith;
              confirm = λ e. omega arith;
              miss = λ e. omega arith;
              mark = λ e. omega arith;
            } refl
            (idling_one d [] record {
              load = λ e. omega arith;
              confirm = λ e. omega arith;
              miss = λ e. omega arith;
              mark = λ e. omega arith;
            } refl
            idling_none))),
      );
      missed = λ bad. absurd (true≢false bad);
      past = subst (λ (y : Sizes). 17 * y.passes < source_place z v.known anchor Left) (sym sizes) (anchor_past z v.known anchor);
    }

learnt_own : (anchor : Place) (found : ℕ) (q : ListPass)
    → ((Rattle.pp_base.specs.Sources.learning_at list_frozen anchor Left found q).own ≡ q.own)
    × ((Rattle.pp_base.specs.Sources.learning_at list_frozen anchor Left found q).owned ≡ q.owned)
learnt_own (Head h) found q = (refl, refl)
learnt_own (Word i) found q = by (Rattle.std.specs.Prelude.◌&&◌ (list_frozen found) (slot q i).held)
  where
    by : (b : Bool) → ((cond b (Rattle.pp_rule.specs.Steps.with_walk i
        (record (slot q i) { learnt = (0, found) ∷ (slot q i).learnt }) q) q).own ≡ q.own)
        × ((cond b (Rattle.pp_rule.specs.Steps.with_walk i (record
        (slot q i) { learnt = (0, found) ∷ (slot q i).learnt }) q) q).owned ≡ q.owned)
    by true = (refl, refl)
    by false = (refl, refl)

-- The link was another word.
pub misses_so : (z : Sizes) (anchor : Place) (first end : ℕ) (l : Link) (v w : ListView) → v.known.sizes ≡ z → length v.known.chains ≤ 4
    → Misses 1 z list_frozen list_chain anchor Left first end v w (word_of l) → DetachesSo z anchor first end v w false
misses_so z anchor first end l v w sizes few e = let f = may_flush z v e.between few e.flushed in
    let place : ℕ = source_place z v.known anchor Left in
    let g : NamedStep = guards (frontier_place z v.known.number e.guard) (target end) in
    let m : NamedStep = misses place (word_of l) in let u : NamedStep = unguards (frontier_place z v.known.number e.guard) in
    let known = learnt_own anchor (word_of l) e.between.known in
    let past : 17 * v.known.sizes.passes < place = subst (λ (y : Sizes). 17 * y.passes < place) (sym sizes)
    (anchor_past z v.known anchor) in
    let before = idling_both f.steps (g ∷ []) f.idling (idling_one g []
    record { load = λ e. omega arith; confirm = λ e. omega arith; miss = λ e. omega arith; mark = λ e. omega arith } refl idling_none) in
    let after = idling_one u [] record {
      load = λ e. omega arith;
      confirm = λ e. omega arith;
      miss = λ e. omega arith;
      mark = λ e. omega arith;
    } refl
    idling_none in record {
      answer = Changed l;
      unlinks = e;
      own = ap (λ (q : ListPass). q.own) e.known ∙ (known.0 ∙ f.own);
      owned = ap (λ (q : ListPass). q.owned) e.known ∙ (known.1 ∙ f.owned);
      hit = λ bad. absurd (true≢false (sym bad));
      missed = λ _. (
        l,
        (
          refl,
          record {
            steps = f.steps ++ (g ∷ m ∷ u ∷ []);
            did = made_append f.steps (g ∷ m ∷ u ∷ []) v e.between w f.did e.steps;
            loses = λ sizes earlier same. let a = finds_append sizes earlier f.steps (g ∷ m ∷ u ∷ []) in
                let none = idle_finds sizes earlier f.steps f.idling.idle in let seen : List NamedStep = onto f.steps earlier in
                let b = finds_append sizes seen (g ∷ []) (m ∷ u ∷ []) in
                let c = idle_finds sizes seen (g ∷ []) (λ t i. before.idle t (Rattle.pp_rule.proofs.Put.in_right t f.steps (g ∷ []) i)) in
                let d = finds_append sizes (g ∷ seen) (m ∷ []) (u ∷ []) in
                let x = missed_finds sizes (g ∷ seen) place (word_of l) (subst (λ (n : ℕ). 17 * n < place) (sym same) past) in
                let y = idle_finds sizes (m ∷ g ∷ seen) (u ∷ []) after.idle in omega arith;
            strikes = λ t i. Rattle.std.proofs.Common.⊎_elim (λ (j : IsIn t f.steps). f.idling.none t j)
                (λ (j : IsIn t (g ∷ m ∷ u ∷ [])). Rattle.std.proofs.Common.⊎_elim
                (λ (x : t ≡ g). subst (λ (y : NamedStep). is_effect y ≡ false) (sym x) refl)
                (λ (k : IsIn t (m ∷ u ∷ [])). Rattle.std.proofs.Common.⊎_elim
                (λ (x : t ≡ m). subst (λ (y : NamedStep). is_effect y ≡ false) (sym x) refl) (after.none t)
                (in_cases t m (u ∷ []) k)) (in_cases t g (m ∷ u ∷ []) j)) (in_either t f.steps (g ∷ m ∷ u ∷ []) i);
          },
        ),
      );
      past = past;
    }

-- After the mark, what was gathered and the marked record may be detached, up to the record behind it.
pub may_detach_marked : (z : Sizes) (q : ListPass) (call mark_call : Call) (f : Found) (taken : Taken) (before now : ListView)
    → before.known ≡ q
    → IsFound z q call f → target (word_of f.end) ≢ 0 → MarksOne z f.word mark_call taken before now
    → MayDetachRun z now.known f.anchor f.first taken.next
may_detach_marked z q call mark_call f taken before now is found real m = by found.end found.chain
  where
    each : (j : ℕ) → slot now.known j ≡ slot q j
    each j = ap (λ (p : ListPass). slot p j) m.known ∙ ap (λ (p : ListPass). slot p j) is

    one : bit_or m.found 1 ≡ m.found + 1
    one = or_one m.found m.plain

    flag : flag_bit (bit_or m.found 1) ≡ 1
    flag = ap flag_bit one ∙ (let plain = m.plain in omega arith)

    valid : invalid_bit (bit_or m.found 1) ≡ 0
    valid = ap invalid_bit one ∙ (let plain = m.plain in let ok = (m.marks.done m.plain).0 in omega arith)

    first_now : (b : Bool) → nat_lt q.own.first 5 ≡ b → now.known.own.first ≡ cond b q.own.first f.word
    first_now b e = ap (λ (p : ListPass). p.own.first) m.known ∙ (ap (λ (p : ListPass). cond (nat_lt p.own.first 5) p.own.first f.word) is
        ∙ ap (λ (c : Bool). cond c q.own.first f.word) e)

    chain_now : (b : Bool) → nat_lt q.own.first 5 ≡ b
        → now.known.own.chain ≡ cond b (q.own.chain ++ record { number = (slot q f.word).named; link = bit_or m.found 1 } ∷ [])
        (record { number = (slot q f.word).named; link = bit_or m.found 1 } ∷ [])
    chain_now b e = ap (λ (p : ListPass). p.own.chain) m.known
        ∙ (ap (λ (p : ListPass). cond (nat_lt p.own.first 5) (p.own.chain ++ record {
          number = (slot p f.word).named;
          link = bit_or m.found 1;
        } ∷ [])
        (record { number = (slot p f.word).named; link = bit_or m.found 1 } ∷ [])) is
        ∙ ap (λ (c : Bool). cond c (q.own.chain ++ record { number = (slot q f.word).named; link = bit_or m.found 1 } ∷ [])
        (record { number = (slot q f.word).named; link = bit_or m.found 1 } ∷ [])) e)

    detach_so : (n : ℕ) (cs : List Gathered) → now.known.own.first ≡ n → now.known.own.chain ≡ cs → n < 5 → cs ≢ [] → target
        (word_of f.first) ≡ (slot q n).named
        → Joined (slot q n).named cs (target (bit_or m.found 1)) → MayDetachRun z now.known f.anchor f.first taken.next
    detach_so n cs first chain low some_made leads joined = record {
      key = key_of call;
      anchored = anchor_on z q now.known (key_of call) f.anchor (λ j _. each j) found.anchored;
      gathered = subst (λ (x : ℕ). x < 5) (sym first) low;
      some_chain = λ e. some_made (sym chain ∙ e);
      plain_first = found.plain_first;
      plain_end = m.next_plain;
      small_end = m.next_small;
      leads = leads ∙ ap (λ (s : WalkSlot). s.named) (sym (ap (slot now.known) first ∙ each n));
      joined = subst (λ (s : WalkSlot). Joined s.named now.known.own.chain (target (word_of taken.next)))
          (sym (ap (slot now.known) first ∙ each n))
          (subst (λ (x : List Gathered). Joined (slot q n).named x (target (word_of taken.next))) (sym chain)
          (subst (λ (x : ℕ). Joined (slot q n).named cs x) (sym m.next_is) joined));
    }

    by : IsEnd z q (key_of call) f → HasChain q f → MayDetachRun z now.known f.anchor f.first taken.next
    by (at_nil nil _ _ _) c = absurd (real nil)
    by (at_record _ low held named high equal apart other at) (no_chain first chain none first_is) =
        let not_low : nat_lt q.own.first 5 ≡ false = ap (λ (x : ℕ). nat_lt x 5) first in
        detach_so f.word (record { number = (slot q f.word).named; link = bit_or m.found 1 } ∷ []) (first_now false not_low)
        (chain_now false not_low) low
        (λ e. let long : 1 ≡ 0 = ap (λ (l : List Gathered). length l) e in omega arith)
        (ap (λ (l : Link). target (word_of l)) first_is ∙ sym named)
        (more (λ e. real (sym named ∙ e)) refl flag valid (chain_ends refl))
    by (at_record _ low held named high equal apart other at) (a_chain first_low first_held first_apart some_made leads joined count) =
        let is_low : nat_lt q.own.first 5 ≡ true = Rattle.std.proofs.lemmas.Bool.lt-ltb q.own.first 5 first_low in
        detach_so q.own.first (q.own.chain ++ record { number = (slot q f.word).named; link = bit_or m.found 1 } ∷ [])
        (first_now true is_low)
        (chain_now true is_low) first_low (not_none q.own.chain) leads
        (joined_more (slot q q.own.first).named q.own.chain record { number = (slot q f.word).named; link = bit_or m.found 1 }
        (slot q f.word).named
        (subst (λ (x : ℕ). Joined (slot q q.own.first).named q.own.chain x) (sym named) joined)
        (λ e. real (sym named ∙ e)) refl flag valid)
      where
        not_none : (cs : List Gathered) → cs ++ record { number = (slot q f.word).named; link = bit_or m.found 1 } ∷ [] ≢ []
        not_none cs e = let long = ap (λ (l : List Gathered). length l) e in
            let sum = Rattle.std.proofs.Common.length-append cs
            (record { number = (slot q f.word).named; link = bit_or m.found 1 } ∷ []) in omega arith
