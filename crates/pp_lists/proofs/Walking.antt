-- What the walks find after a step.
use Rattle.std.proofs.Common.{◌≡◌, ◌≢◌, ◌⊎◌, inl, inr, ⊎_elim, ℕ, ◌+◌, ◌<◌, ◌≤◌, Bool, cond, nat_eq, List, [], ◌∷◌}
use Rattle.std.proofs.Common.{Option, Some, None, sym, refl, ap, ◌∙◌, subst, arith, eq-eqb, ne_eqb}
use Rattle.std.proofs.Math.Decide.{ℕ_discrete}
use mathlib.Core.Logic.{dite}
use Rattle.pp_link.specs.Links.{target, invalid_bit, flag_bit, tag_bit}
use Rattle.pp_link.specs.Places.{IsNumber}
use Rattle.pp_link.specs.declared.layout.Sizes.{Sizes}
use Rattle.pp_model.specs.FiniteMap.{find}
use Rattle.pp_model.specs.declared.Pair.{Pair}
use Rattle.pp_rule.specs.States.{attached, IsUsed, IsLinked}
use Rattle.pp_lists.specs.Walks.{Heap, Source, at_head, at_record, word_at, IsLive, bucket, bucket_at, IsBelow, answer, Finds}
use Rattle.pp_lists.specs.Walks.{IsSeen}
use Rattle.pp_lists.specs.Walks.{IsOn, Sane, Listed, Mapped, Joined, Intact, Rewired, Between, Marked}
use Rattle.pp_lists.specs.Walks.Finds.{ends, here, on}
use Rattle.pp_lists.specs.Walks.Joined.{done, more}
use Rattle.pp_lists.specs.declared.own.Gathered.{Gathered}
use Rattle.pp_lists.proofs.Answering.{less_or, answer_other, answer_flagged, answer_here, answer_same, past_none}

-- a number of a record isn't nil
pub real : (z : Sizes) (n : ℕ) → IsNumber z n → n ≢ 0
real z n is e = let one : 1 ≤ n = is.0 in omega arith

-- what leads to a record leads to one in range
pub seen_number : (z : Sizes) (t : Heap) (n : ℕ) → n ≢ 0 → IsSeen z t n → IsNumber z n × IsUsed (t.status n)
seen_number z t n ne s = ⊎_elim (λ (e : n ≡ 0). absurd (ne e)) (λ (y : IsNumber z n × IsUsed (t.status n)). y) s

-- Every record that can be seen afterwards could be seen before, with the same key and value. Its link is as it was, or has
-- INVALID.
pub record Fewer (z : Sizes) (t t' : Heap) : Type 0 where
  pub used_was : (n : ℕ) → IsUsed (t'.status n) → IsUsed (t.status n)
  pub linked_was : (n : ℕ) → IsLinked (t'.status n) → t'.status n ≡ t.status n
  pub attached_on : (n : ℕ) → t.status n ≡ attached → t'.status n ≡ attached
  pub keys : (n : ℕ) → IsNumber z n → IsUsed (t'.status n) → t'.key n ≡ t.key n
  pub values : (n : ℕ) → IsNumber z n → IsUsed (t'.status n) → t'.value n ≡ t.value n
  pub valid_links : (n : ℕ) → IsNumber z n → IsUsed (t'.status n) → invalid_bit (t'.link n) ≡ 0 → t'.link n ≡ t.link n
  pub flags : (n : ℕ) → IsNumber z n → IsUsed (t'.status n) → flag_bit (t'.link n) ≡ flag_bit (t.link n)
  pub tags : (n : ℕ) → IsNumber z n → IsUsed (t'.status n) → tag_bit (t'.link n) ≡ tag_bit (t.link n)
  pub heads : (h : ℕ) → h < z.heads → t'.head h ≡ t.head h

pub finds_fewer : (z : Sizes) (t t' : Heap) (k : ℕ) (a : Option ℕ) → Fewer z t t' → Sane z t' → (n : ℕ) → IsSeen z t' n
    → Finds t' k a n → Finds t k a n
finds_fewer z t t' k a f s n seen (ends e none) = ends e none
finds_fewer z t t' k a f s n seen (here ne valid le is) = let u = seen_number z t' n ne seen in
    let same = f.valid_links n u.0 u.1 valid in
    here ne (sym (ap invalid_bit same) ∙ valid) (subst (λ (x : ℕ). k ≤ x) (f.keys n u.0 u.1) le)
    (is ∙ answer_same t t' k n (f.keys n u.0 u.1) (f.values n u.0 u.1) (ap flag_bit same))
finds_fewer z t t' k a f s n seen (on ne valid lt rest) = let u = seen_number z t' n ne seen in
    let same = f.valid_links n u.0 u.1 valid in
    on ne (sym (ap invalid_bit same) ∙ valid) (subst (λ (x : ℕ). x < k) (f.keys n u.0 u.1) lt)
    (subst (λ (w : ℕ). Finds t k a (target w)) same (finds_fewer z t t' k a f s (target (t'.link n))
    (s.used n u.0 u.1 valid) rest))

-- A walk from a head or an attached record, below the key, finds what the map gives.
pub finds_right : (z : Sizes) (t : Heap) (m : List Pair) (k : ℕ) (a : Option ℕ) → Sane z t → Listed z t → Mapped z t m
    → (n : ℕ) → Finds t k a n → (s : Source) → IsLive z t s → n ≡ target (word_at t s) → bucket z.heads k ≡ bucket_at z t s
    → IsBelow t s k → a ≡ find m k
finds_right z t m k a sane l p n (ends e none) s live to home low = none ∙ absent (find m k) refl
  where
    absent : (o : Option ℕ) → find m k ≡ o → None ≡ find m k
    absent None is = sym is
    absent (Some v) is = let r = p.records k v is in let key = r.1.3 in
        absurd ((l.next s r.0 live r.1.0 r.1.1 (ap (bucket z.heads) key ∙ home) (subst (IsBelow t s) (sym key) low)).0
        (sym to ∙ e))
finds_right z t m k a sane l p n (here ne valid le is) s live to home low = is ∙ settle (find m k) refl (ℕ_discrete (t.key n) k)
  where
    on_it : IsNumber z n × (t.status n ≡ attached)
    on_it = ⊎_elim (λ (e : n ≡ 0). absurd (ne e)) (λ (y : IsNumber z n × (t.status n ≡ attached)). y)
        (subst (IsOn z t) (sym to) (sane.live s live))

    settle : (o : Option ℕ) → find m k ≡ o → Dec (t.key n ≡ k) → answer t k n ≡ find m k
    settle None is (no other) = answer_other t k n other ∙ sym is
    settle None is (yes same) = dite (ℕ_discrete (flag_bit (t.link n)) 0)
        (λ f. let there : find m (t.key n) ≡ Some (t.value n) = p.pairs n on_it.0 on_it.1 f in
        let there' : find m k ≡ Some (t.value n) = subst (λ (x : ℕ). find m x ≡ Some (t.value n)) same there in
        let bad : None ≡ Some (t.value n) = sym is ∙ there' in cc)
        (λ ne. answer_flagged t k n (omega arith) ∙ sym is)
    settle (Some v) is (no other) = let r = p.records k v is in let key = r.1.3 in
        let gap = (l.next s r.0 live r.1.0 r.1.1 (ap (bucket z.heads) key ∙ home) (subst (IsBelow t s) (sym key) low)).1 in
        let gap' : t.key n ≤ t.key r.0 = subst (λ (x : ℕ). t.key x ≤ t.key r.0) (sym to) gap in absurd (omega arith)
    settle (Some v) is (yes same) = let r = p.records k v is in
        let one : r.0 ≡ n = l.once r.0 n r.1.0 on_it.0 r.1.1 on_it.1 (r.1.3 ∙ sym same) in
        let f : flag_bit (t.link n) ≡ 0 = ap (λ (x : ℕ). flag_bit (t.link x)) (sym one) ∙ r.1.2 in
        answer_here t k n same f ∙ (sym (p.pairs n on_it.0 on_it.1 f) ∙ ap (find m) same)
finds_right z t m k a sane l p n (on ne valid lt rest) s live to home low = let y = ⊎_elim (λ (e : n ≡ 0). absurd (ne e))
    (λ (y : IsNumber z n × (t.status n ≡ attached)). y) (subst (IsOn z t) (sym to) (sane.live s live)) in
    finds_right z t m k a sane l p (target (t.link n)) rest (at_record n) y refl
    (home ∙ (sym (l.home s live (λ e. ne (to ∙ e))) ∙ ap (λ (x : ℕ). bucket z.heads (t.key x)) (sym to))) lt

-- What a walk finds at x it finds at the first record of a removed chain that leads to x.
pub finds_through : (z : Sizes) (t : Heap) (k : ℕ) (a : Option ℕ) → Listed z t → (n : ℕ) (cs : List Gathered) (x : ℕ)
    → Joined n cs x → Intact z t cs → Finds t k a x → Finds t k a n
unfolding Intact
finds_through z t k a l n [] x (done e) i f = subst (Finds t k a) (sym e) f
finds_through z t k a l n (c ∷ cs) x (more ne number flag valid rest) i f = let next = finds_through z t k a l
    (target c.link) cs x rest i.3 f in
    let link : t.link n ≡ c.link = ap t.link (sym number) ∙ i.2 in let ok : invalid_bit (t.link n) ≡ 0 = ap invalid_bit link
    ∙ valid in
    let is_n : IsNumber z n = subst (IsNumber z) number i.0 in let st : t.status n ≡ attached = ap t.status (sym number) ∙ i.1 in
    ⊎_elim
    (λ (lt : t.key n < k). on ne ok lt (subst (λ (w : ℕ). Finds t k a (target w)) (sym link) next))
    (λ (le : k ≤ t.key n). here ne ok le (past_none t k (target c.link) a
    (λ some_next. let gap = l.rising n is_n (subst IsLinked (sym st) tt) ok (λ e. some_next (sym (ap target link) ∙ e)) in
    let gap' : t.key n < t.key (target c.link) = subst (λ (w : ℕ). t.key n < t.key (target w)) link gap in omega arith) next
    ∙ sym (answer_flagged t k n (ap flag_bit link ∙ flag))))
    (less_or (t.key n) k)

pub is_there : (n : ℕ) (s : Source) → (at_record n ≡ s) ⊎ (at_record n ≢ s)
is_there n (at_head h) = inr (λ e. cc)
is_there n (at_record m) = dite (ℕ_discrete n m) (λ e. inl (ap at_record e)) (λ ne. inr (λ e. ne (cc)))

-- After a removed chain was detached at s, a walk finds what it found before.
module _ (z : Sizes) (t t' : Heap) (s : Source) (w : ℕ) (cs : List Gathered) (k : ℕ) (a : Option ℕ) where
  pub finds_detached : Sane z t → Sane z t' → Listed z t → Rewired z t t' s w → IsLive z t s → flag_bit (word_at t s) ≡ 0
      → flag_bit w ≡ 0
      → Joined (target (word_at t s)) cs (target w) → Intact z t cs → (n : ℕ) → IsSeen z t' n → Finds t' k a n → Finds t k a n
  finds_detached sane sane' l r live plain plain' j i n seen (ends e none) = ends e none
  finds_detached sane sane' l r live plain plain' j i n seen (here ne valid le is) = let u = seen_number z t' n ne seen in
      let low : k ≤ t.key n = subst (λ (x : ℕ). k ≤ x) (r.keys n u.0) le in ⊎_elim
      (λ (at : at_record n ≡ s). let was : word_at t s ≡ t.link n = ap (word_at t) (sym at) in
      let now : t'.link n ≡ w = ap (word_at t') at ∙ r.there in
      here ne (sym (ap invalid_bit was) ∙ sane.valid s live) low
      (is ∙ answer_same t t' k n (r.keys n u.0) (r.values n u.0) (ap flag_bit now ∙ plain' ∙ sym plain ∙ ap flag_bit was)))
      (λ (else_at : at_record n ≢ s). let same = r.links n u.0 else_at in
      here ne (sym (ap invalid_bit same) ∙ valid) low (is ∙ answer_same t t' k n (r.keys n u.0) (r.values n u.0)
      (ap flag_bit same)))
      (is_there n s)
  finds_detached sane sane' l r live plain plain' j i n seen (on ne valid lt rest) = let u = seen_number z t' n ne seen in
      let low : t.key n < k = subst (λ (x : ℕ). x < k) (r.keys n u.0) lt in
      let next : Finds t k a (target (t'.link n)) = finds_detached sane sane' l r live plain plain' j i (target (t'.link n))
      (sane'.used n u.0 u.1 valid) rest in ⊎_elim
      (λ (at : at_record n ≡ s). let was : word_at t s ≡ t.link n = ap (word_at t) (sym at) in
      let now : t'.link n ≡ w = ap (word_at t') at ∙ r.there in
      on ne (sym (ap invalid_bit was) ∙ sane.valid s live) low (subst (λ (v : ℕ). Finds t k a (target v)) was
      (finds_through z t k a l (target (word_at t s)) cs (target w) j i (subst (λ (v : ℕ). Finds t k a (target v)) now next))))
      (λ (else_at : at_record n ≢ s). let same = r.links n u.0 else_at in
      on ne (sym (ap invalid_bit same) ∙ valid) low (subst (λ (v : ℕ). Finds t k a (target v)) same next))
      (is_there n s)

-- After the record c got FLAG, a walk finds what it found before, or none where it looks for c's key.
module _ (z : Sizes) (t t' : Heap) (c w : ℕ) (k : ℕ) (a : Option ℕ) where
  marked_walk : Sane z t → Sane z t' → Rewired z t t' (at_record c) w → invalid_bit (t.link c) ≡ 0 → w ≡ t.link c + 1
      → flag_bit (t.link c) ≡ 0 → (n : ℕ) → IsSeen z t' n → Finds t' k a n → Finds t k a n ⊎ ((k ≡ t.key c) × (a ≡ None))
  marked_walk sane sane' r ok more_by plain n seen (ends e none) = inl (ends e none)
  marked_walk sane sane' r ok more_by plain n seen (here ne valid le is) = let u = seen_number z t' n ne seen in
      let low : k ≤ t.key n = subst (λ (x : ℕ). k ≤ x) (r.keys n u.0) le in dite (ℕ_discrete n c)
      (λ at. let now : t'.link n ≡ w = ap t'.link at ∙ r.there in
      let flag : flag_bit (t'.link n) ≡ 1 = ap flag_bit (now ∙ more_by) ∙ (omega arith) in let none : a ≡ None = is
      ∙ answer_flagged t' k n flag in
      dite (ℕ_discrete k (t.key c)) (λ same. inr (same, none))
      (λ other. inl (here ne (ap (λ (x : ℕ). invalid_bit (t.link x)) at ∙ ok) low
      (none ∙ sym (answer_other t k n (λ e. other (sym e ∙ ap t.key at)))))))
      (λ else_at. let same = r.links n u.0 (λ e. else_at (cc)) in
      inl (here ne (sym (ap invalid_bit same) ∙ valid) low (is
      ∙ answer_same t t' k n (r.keys n u.0) (r.values n u.0) (ap flag_bit same))))
  marked_walk sane sane' r ok more_by plain n seen (on ne valid lt rest) = let u = seen_number z t' n ne seen in
      let low : t.key n < k = subst (λ (x : ℕ). x < k) (r.keys n u.0) lt in
      ⊎_elim (λ (next : Finds t k a (target (t'.link n))). dite (ℕ_discrete n c)
      (λ at. let now : t'.link n ≡ w = ap t'.link at ∙ r.there in
      let to : target (t'.link n) ≡ target (t.link n) = ap target (now ∙ more_by)
      ∙ ((let p = plain in the_target (t.link c) plain) ∙ ap (λ (x : ℕ). target (t.link x)) (sym at)) in
      inl (on ne (ap (λ (x : ℕ). invalid_bit (t.link x)) at ∙ ok) low (subst (Finds t k a) to next)))
      (λ else_at. let same = r.links n u.0 (λ e. else_at (cc)) in
      inl (on ne (sym (ap invalid_bit same) ∙ valid) low (subst (λ (v : ℕ). Finds t k a (target v)) same next))))
      inr
      (marked_walk sane sane' r ok more_by plain (target (t'.link n)) (sane'.used n u.0 u.1 valid) rest)
    where
      the_target : (x : ℕ) → flag_bit x ≡ 0 → target (x + 1) ≡ target x
      the_target x e = omega arith

pub finds_marked : (z : Sizes) (t t' : Heap) (c k : ℕ) (a : Option ℕ) → Sane z t → Sane z t' → Marked z t t' c → (n : ℕ)
    → IsSeen z t' n → Finds t' k a n → Finds t k a n ⊎ ((k ≡ t.key c) × (a ≡ None))
finds_marked z t t' c k a sane sane' d n seen f = marked_walk z t t' c (t.link c + 1) k a sane sane' d.wired
    (sane.valid (at_record c) d.live) refl d.plain n seen f

pub apart : (z : Sizes) (t : Heap) (s : Source) (c : ℕ) → IsLive z t s → (IsUsed (t.status c) → ⊥) → at_record c ≢ s
apart z t (at_head h) c live unused e = cc
apart z t (at_record n) c live unused e = let same : c ≡ n = cc in unused (subst IsUsed (sym (ap t.status same ∙ live.1)) tt)

-- After the record c, with the key j and the value v, was put there, a walk finds what it found before, or v where it looks for
-- j.
module _ (z : Sizes) (t t' : Heap) (s : Source) (w c : ℕ) (k : ℕ) (a : Option ℕ) where
  past : ℕ → ℕ
  past n = cond (nat_eq n c) (target (word_at t s)) n

  past_c : (n : ℕ) → n ≡ c → past n ≡ target (word_at t s)
  unfolding past
  past_c n e = ap (λ (b : Bool). cond b (target (word_at t s)) n) (eq-eqb n c e)

  past_else : (n : ℕ) → n ≢ c → past n ≡ n
  unfolding past
  past_else n ne = ap (λ (b : Bool). cond b (target (word_at t s)) n) (ne_eqb n c ne)

  finds_past : Sane z t → Sane z t' → Between z t t' s w c → (n : ℕ) → IsSeen z t' n → Finds t' k a n → Finds t k a (past n)
      ⊎ ((k ≡ t.key c) × (a ≡ Some (t.value c)))
  finds_past sane sane' b n seen (ends e none) = inl (subst (Finds t k a)
      (sym (past_else n (λ same. real z c b.number (sym same ∙ e)))) (ends e none))
  finds_past sane sane' b n seen (here ne valid le is) = let u = seen_number z t' n ne seen in
      let low : k ≤ t.key n = subst (λ (x : ℕ). k ≤ x) (b.wired.keys n u.0) le in dite (ℕ_discrete n c)
      (λ at. let same = b.wired.links n u.0 (λ e. apart z t s c b.live b.unused (ap at_record (sym at) ∙ e)) in
      let found : a ≡ answer t k n = is ∙ answer_same t t' k n (b.wired.keys n u.0) (b.wired.values n u.0) (ap flag_bit same) in
      let low_c : k ≤ t.key c = subst (λ (x : ℕ). k ≤ t.key x) at low in dite (ℕ_discrete (t.key n) k)
      (λ hit. inr (
        sym hit ∙ ap t.key at,
        found ∙ (answer_here t k n hit (ap (λ (x : ℕ). flag_bit (t.link x)) at ∙ b.plain_c)
            ∙ ap (λ (x : ℕ). Some (t.value x)) at),
      ))
      (λ miss. let none : a ≡ None = found ∙ answer_other t k n miss in let x : ℕ = target (word_at t s) in
      inl (subst (Finds t k a) (sym (past_c n at)) (⊎_elim
      (λ (nil : x ≡ 0). ends nil none)
      (λ (y : IsNumber z x × (t.status x ≡ attached)). let up = b.gap (real z x y.0) in
      here (real z x y.0) (sane.valid (at_record x) y) (omega arith) (none ∙ sym (answer_other t k x (λ e. omega arith))))
      (sane.live s b.live)))))
      (λ other. inl (subst (Finds t k a) (sym (past_else n other)) (⊎_elim
      (λ (at : at_record n ≡ s). let was : word_at t s ≡ t.link n = ap (word_at t) (sym at) in
      let now : t'.link n ≡ w = ap (word_at t') at ∙ b.wired.there in
      here ne (sym (ap invalid_bit was) ∙ sane.valid s b.live) low
      (is ∙ answer_same t t' k n (b.wired.keys n u.0) (b.wired.values n u.0)
      (ap flag_bit now ∙ b.new_plain ∙ sym b.plain ∙ ap flag_bit was)))
      (λ (else_at : at_record n ≢ s). let same = b.wired.links n u.0 else_at in
      here ne (sym (ap invalid_bit same) ∙ valid) low (is ∙ answer_same t t' k n (b.wired.keys n u.0) (b.wired.values n u.0)
      (ap flag_bit same)))
      (is_there n s))))
  finds_past sane sane' b n seen (on ne valid lt rest) = let u = seen_number z t' n ne seen in
      let low : t.key n < k = subst (λ (x : ℕ). x < k) (b.wired.keys n u.0) lt in
      ⊎_elim (λ (next : Finds t k a (past (target (t'.link n)))). inl (dite (ℕ_discrete n c)
      (λ at. let same = b.wired.links n u.0 (λ e. apart z t s c b.live b.unused (ap at_record (sym at) ∙ e)) in
      let x : ℕ = target (word_at t s) in
      let to : target (t'.link n) ≡ x = ap target same ∙ (ap (λ (m : ℕ). target (t.link m)) at ∙ b.to_c) in
      subst (Finds t k a) (ap past to ∙ (past_else x (not_c x (sane.live s b.live)) ∙ sym (past_c n at))) next)
      (λ other. subst (Finds t k a) (sym (past_else n other)) (⊎_elim
      (λ (at : at_record n ≡ s). let was : word_at t s ≡ t.link n = ap (word_at t) (sym at) in
      let now : t'.link n ≡ w = ap (word_at t') at ∙ b.wired.there in
      on ne (sym (ap invalid_bit was) ∙ sane.valid s b.live) low
      (subst (Finds t k a) (past_c (target (t'.link n)) (ap target now ∙ b.to) ∙ ap target was) next))
      (λ (else_at : at_record n ≢ s). let same = b.wired.links n u.0 else_at in
      let ok : invalid_bit (t.link n) ≡ 0 = sym (ap invalid_bit same) ∙ valid in
      let y : ℕ = target (t.link n) in on ne ok low (subst (Finds t k a)
      (ap past (ap target same) ∙ past_else y (seen_not_c y
      (sane.used n u.0 (subst IsUsed (b.others n other) u.1) ok))) next))
      (is_there n s)))))
      inr
      (finds_past sane sane' b (target (t'.link n)) (sane'.used n u.0 u.1 valid) rest)
    where
      seen_not_c : (x : ℕ) → IsSeen z t x → x ≢ c
      seen_not_c x y e = ⊎_elim (λ (nil : x ≡ 0). real z c b.number (sym e ∙ nil))
          (λ (y : IsNumber z x × IsUsed (t.status x)). b.unused (subst (λ (m : ℕ). IsUsed (t.status m)) e y.1)) y

      not_c : (x : ℕ) → IsOn z t x → x ≢ c
      not_c x y = seen_not_c x (⊎_elim inl (λ (y : IsNumber z x × (t.status x ≡ attached)). inr
          (y.0, subst IsUsed (sym y.1) tt)) y)

  pub finds_published : Sane z t → Sane z t' → Between z t t' s w c → (n : ℕ) → n ≢ c → IsSeen z t' n → Finds t' k a n
      → Finds t k a n ⊎ ((k ≡ t.key c) × (a ≡ Some (t.value c)))
  finds_published sane sane' b n other seen f = ⊎_elim (λ (y : Finds t k a (past n)). inl
      (subst (Finds t k a) (past_else n other) y)) inr (finds_past sane sane' b n seen f)
