-- The shape of the lists and the map after a mark and after a publication.
use Rattle.std.proofs.Common.{◌≡◌, ◌≢◌, ◌%◌, ◌⊎◌, inl, inr, ⊎_elim, ℕ, ◌+◌, ◌<◌, ◌≤◌, List}
use Rattle.std.proofs.Common.{[], ◌∷◌, Option, Some, None, sym, refl, ap, ◌∙◌, subst, arith}
use Rattle.std.proofs.Math.Decide.{ℕ_discrete}
use mathlib.Core.Logic.{dite}
use Rattle.pp_link.specs.Links.{target, invalid_bit, flag_bit, tag_bit}
use Rattle.pp_link.specs.Places.{IsNumber}
use Rattle.pp_link.specs.declared.layout.Sizes.{Sizes}
use Rattle.pp_model.proofs.Maps.{RisesFrom-put, RisesFrom-drop_key}
use Rattle.pp_model.proofs.Finding.{find_put, find_put_else, find_drop, find_drop_else}
use Rattle.pp_model.specs.FiniteMap.{find, put, drop_key}
use Rattle.pp_model.specs.declared.Pair.{Pair}
use Rattle.pp_rule.specs.States.{attached, IsUsed, IsLinked}
use Rattle.pp_lists.specs.Walks.{Heap, Source, at_head, at_record, word_at, IsLive, bucket, IsBareAt, bucket_at, IsBelow, Sane}
use Rattle.pp_lists.specs.Walks.{Listed, Mapped, Joined, Intact, Marked, Between}
use Rattle.pp_lists.specs.Walks.Joined.{more}
use Rattle.pp_lists.specs.declared.own.Gathered.{Gathered}
use Rattle.pp_lists.proofs.Answering.{less_or}
use Rattle.pp_lists.proofs.Shaping.{on_number, is_used, linked_used}
use Rattle.pp_lists.proofs.Walking.{is_there, real, seen_number, apart}

pub decided : (r s : Source) → (r ≡ s) ⊎ (r ≢ s)
decided (at_head h) (at_head i) = dite (ℕ_discrete h i) (λ e. inl (ap at_head e)) (λ ne. inr (λ e. ne (cc)))
decided (at_head h) (at_record n) = inr (λ e. cc)
decided (at_record n) s = is_there n s

marked_bits : (x : ℕ) → flag_bit x ≡ 0 → (target (x + 1) ≡ target x) × (invalid_bit (x + 1) ≡ invalid_bit x)
    × (flag_bit (x + 1) ≡ 1)
marked_bits x e = (omega arith, omega arith, omega arith)

-- what a source leads to, and whether it is valid, is as it was
module _ (z : Sizes) (t t' : Heap) (c : ℕ) (sane : Sane z t) (sane' : Sane z t') (l : Listed z t) (d : Marked z t t' c) where
  same_target : (r : Source) → IsLive z t' r → target (word_at t' r) ≡ target (word_at t r)
  same_target r live = ⊎_elim
      (λ (at : r ≡ at_record c). ap target (ap (word_at t') at ∙ d.wired.there)
      ∙ ((marked_bits (t.link c) d.plain).0 ∙ ap (λ (r : Source). target (word_at t r)) (sym at)))
      (λ (ne : r ≢ at_record c). ap target (wired r live ne)) (decided r (at_record c))
    where
      wired : (r : Source) → IsLive z t' r → r ≢ at_record c → word_at t' r ≡ word_at t r
      wired (at_head h) live ne = d.wired.heads h live ne
      wired (at_record n) live ne = d.wired.links n live.0 ne

  link_is : (n : ℕ) → IsNumber z n → (target (t'.link n) ≡ target (t.link n))
      × (invalid_bit (t'.link n) ≡ invalid_bit (t.link n)) × (flag_bit (t'.link n) ≡ 0 → (n ≢ c) × (flag_bit (t.link n) ≡ 0))
  link_is n is_n = dite (ℕ_discrete n c)
      (λ at. let now : t'.link n ≡ t.link c + 1 = ap t'.link at ∙ d.wired.there in let bits = marked_bits (t.link c) d.plain in
      let back : t.link c ≡ t.link n = ap t.link (sym at) in (
        ap target now ∙ (bits.0 ∙ ap target back),
        ap invalid_bit now
            ∙ (bits.1 ∙ ap invalid_bit back),
        λ f. let one : flag_bit (t'.link n) ≡ 1 = ap flag_bit now ∙ bits.2 in
            absurd (omega arith),
      ))
      (λ ne. let same = d.wired.links n is_n (λ e. ne (cc)) in
      (ap target same, ap invalid_bit same, λ f. (ne, sym (ap flag_bit same) ∙ f)))

  was : (r : Source) → IsLive z t' r → IsLive z t r
  was (at_head h) live = live
  was (at_record n) live = (live.0, sym (d.same n) ∙ live.1)

  same_bucket : (r : Source) → IsLive z t' r → bucket_at z t' r ≡ bucket_at z t r
  same_bucket (at_head h) live = refl
  same_bucket (at_record n) live = ap (bucket z.heads) (d.wired.keys n live.0)

  below : (r : Source) (k : ℕ) → IsLive z t' r → IsBelow t' r k → IsBelow t r k
  below (at_head h) k live low = tt
  below (at_record n) k live low = subst (λ (x : ℕ). x < k) (d.wired.keys n live.0) low

  target_key : (r : Source) → IsLive z t' r → target (word_at t' r) ≢ 0
      → t'.key (target (word_at t' r)) ≡ t.key (target (word_at t r))
  target_key r live some = d.wired.keys (target (word_at t' r))
      (on_number z t' (target (word_at t' r)) some (sane'.live r live)).0 ∙ ap t.key (same_target r live)

  bare_marked : (r : Source) → IsLive z t' r → IsBareAt t' r
  bare_marked (at_head h) live = subst (λ (x : ℕ). x % 16 ≡ 0) (sym (d.wired.heads h live (λ e. cc))) (l.bare (at_head h) live)
  bare_marked (at_record n) live = dite (ℕ_discrete n c)
      (λ at. let now : t'.link n ≡ t.link c + 1 = ap t'.link at ∙ d.wired.there in
      let old : t.link c % 16 < 2 = l.bare (at_record c) d.live in let plain = d.plain in omega arith)
      (λ ne. subst (λ (x : ℕ). x % 16 < 2) (sym (d.wired.links n live.0 (λ e. ne (cc)))) (l.bare (at_record n) (was (at_record n) live)))

  pub listed_marked : Listed z t'
  listed_marked = record {
    rising = λ n is_n lk ok some. let y = link_is n is_n in let k1 = d.wired.keys n is_n in
        let u = linked_used (t'.status n) lk in
        let k2 : t'.key (target (t'.link n)) ≡ t.key (target (t.link n)) = d.wired.keys (target (t'.link n))
        (seen_number z t' (target (t'.link n)) some (sane'.used n is_n u ok)).0 ∙ ap t.key y.0 in
        let gap = l.rising n is_n (subst IsLinked (d.same n) lk) (sym y.1 ∙ ok) (λ e. some (y.0 ∙ e)) in omega arith;
    same_list = λ n is_n lk ok some. let y = link_is n is_n in let u = linked_used (t'.status n) lk in
        ap (bucket z.heads) (d.wired.keys (target (t'.link n))
        (seen_number z t' (target (t'.link n)) some (sane'.used n is_n u ok)).0 ∙ ap t.key y.0)
        ∙ (l.same_list n is_n (subst IsLinked (d.same n) lk) (sym y.1 ∙ ok) (λ e. some (y.0 ∙ e))
        ∙ ap (bucket z.heads) (sym (d.wired.keys n is_n)));
    marked = λ n is_n u flag. d.same n ∙ l.marked n is_n (subst IsUsed (d.same n) u) ((link_is n is_n).2 flag).1;
    untagged = λ n is_n u. dite (ℕ_discrete n c)
        (λ at. let now : t'.link n ≡ t.link c + 1 = ap t'.link at ∙ d.wired.there in
        let old = l.untagged c d.live.0 (is_used (t.status c) d.live.1) in let plain = d.plain in ap tag_bit now ∙ (omega arith))
        (λ ne. ap tag_bit (d.wired.links n is_n (λ e. ne (cc))) ∙ l.untagged n is_n (subst IsUsed (d.same n) u));
    bare = bare_marked;
    once = λ n m is_n is_m st st' e. l.once n m is_n is_m (sym (d.same n) ∙ st) (sym (d.same m) ∙ st')
        (sym (d.wired.keys n is_n) ∙ (e ∙ d.wired.keys m is_m));
    home = λ r live some. ap (bucket z.heads) (target_key r live some)
        ∙ (l.home r (was r live) (λ e. some (same_target r live ∙ e)) ∙ sym (same_bucket r live));
    next = λ r m live is_m st same low. let k = d.wired.keys m is_m in
        let go = l.next r m (was r live) is_m (sym (d.same m) ∙ st) (ap (bucket z.heads) (sym k) ∙ (same ∙ same_bucket r live))
        (subst (IsBelow t r) k (below r (t'.key m) live low)) in
        let some : target (word_at t' r) ≢ 0 = λ e. go.0 (sym (same_target r live) ∙ e) in let le = go.1 in
        let k2 = target_key r live some in (some, omega arith);
  }

  pub mapped_marked : (m : List Pair) → Mapped z t m → Mapped z t' (drop_key m (t.key c))
  mapped_marked m p = record {
    sorted = RisesFrom-drop_key m 0 (t.key c) p.sorted;
    pairs = λ n is_n st flag. let y = (link_is n is_n).2 flag in let st' = sym (d.same n) ∙ st in
        let other : t.key n ≢ t.key c = λ e. y.0 (l.once n c is_n d.live.0 st' d.live.1 e) in
        ap (find (drop_key m (t.key c))) (d.wired.keys n is_n)
        ∙ (find_drop_else m (t.key c) (t.key n) other ∙ (p.pairs n is_n st' y.1 ∙ ap Some (sym (d.wired.values n is_n))));
    records = λ k v is. let other : k ≢ t.key c = λ e. (let none : find (drop_key m (t.key c)) k ≡ None = ap
        (find (drop_key m (t.key c))) e ∙ find_drop 0 m (t.key c) p.sorted in let bad : Some v ≡ None = sym is ∙ none in cc) in
        let r = p.records k v (sym (find_drop_else m (t.key c) k other) ∙ is) in
        let ne : r.0 ≢ c = λ e. other (sym r.1.3 ∙ ap t.key e) in (
          r.0,
          (
            r.1.0,
            d.same r.0 ∙ r.1.1,
            ap flag_bit (d.wired.links r.0 r.1.0 (λ e. ne (cc))) ∙ r.1.2,
            d.wired.keys r.0 r.1.0
                ∙ r.1.3,
          ),
        );
  }

  pub intact_marked : (n : ℕ) (ds : List Gathered) (x : ℕ) → Joined n ds x → Intact z t ds → Intact z t' ds
  unfolding Intact
  intact_marked n [] x j i = tt
  intact_marked n (e ∷ ds) x (more ne number flag valid rest) i = let ne_c : at_record e.number ≢ at_record c = λ same.
      (let at : e.number ≡ c = cc in let f : flag_bit (t.link c) ≡ 1 = ap (λ (k : ℕ). flag_bit (t.link k)) (sym at)
      ∙ (ap flag_bit i.2 ∙ flag) in let p = d.plain in omega arith) in
      (i.0, d.same e.number ∙ i.1, d.wired.links e.number i.0 ne_c ∙ i.2, intact_marked (target e.link) ds x rest i.3)

module _ (z : Sizes) (t t' : Heap) (s : Source) (w c : ℕ) (sane : Sane z t) (sane' : Sane z t') (l : Listed z t)
    (d : Between z t t' s w c) where
  here_ne : at_record c ≢ s
  here_ne = apart z t s c d.live d.unused

  -- no attached record has its key
  pub no_twin : (n : ℕ) → IsNumber z n → t.status n ≡ attached → t.key n ≢ t.key c
  no_twin n is_n st e = let go = l.next s n d.live is_n st (ap (bucket z.heads) e ∙ d.home)
      (subst (IsBelow t s) (sym e) d.above) in let lt = d.gap go.0 in let le = go.1 in omega arith

  pub was_attached : (n : ℕ) → t'.status n ≡ attached → n ≢ c → t.status n ≡ attached
  was_attached n st ne = sym (d.others n ne) ∙ st

  pub used_on : (n : ℕ) → n ≢ c → IsUsed (t'.status n) → IsUsed (t.status n)
  used_on n ne u = subst IsUsed (d.others n ne) u

  link_c : t'.link c ≡ t.link c
  link_c = d.wired.links c d.number here_ne

  then_bucket : (r : Source) → IsLive z t' r → bucket_at z t' r ≡ bucket_at z t r
  then_bucket (at_head h) live = refl
  then_bucket (at_record n) live = ap (bucket z.heads) (d.wired.keys n live.0)

  then_below : (r : Source) (k : ℕ) → IsLive z t' r → IsBelow t' r k → IsBelow t r k
  then_below (at_head h) k live low = tt
  then_below (at_record n) k live low = subst (λ (x : ℕ). x < k) (d.wired.keys n live.0) low

  key_there : (r : Source) → IsLive z t' r → target (word_at t' r) ≢ 0
      → t'.key (target (word_at t' r)) ≡ t.key (target (word_at t' r))
  key_there r live some = d.wired.keys (target (word_at t' r)) (on_number z t' (target (word_at t' r)) some (sane'.live r live)).0

  now_target : (r : Source) → r ≡ s → target (word_at t' r) ≡ c
  now_target r at = ap target (ap (word_at t') at ∙ d.wired.there) ∙ d.to

  c_target : (r : Source) → r ≡ at_record c → target (word_at t' r) ≡ target (word_at t s)
  c_target r at = ap target (ap (word_at t') at ∙ link_c) ∙ d.to_c

  -- a source afterwards is s, the new record, or another
  pub data Which (r : Source) : Type 0 where
    at_s : r ≡ s → Which r
    at_c : r ≡ at_record c → Which r
    other : r ≢ s → IsLive z t r → word_at t' r ≡ word_at t r → Which r

  which : (r : Source) → IsLive z t' r → Which r
  which (at_head h) live = ⊎_elim at_s (λ (ne : at_head h ≢ s). other ne live (d.wired.heads h live ne)) (decided (at_head h) s)
  which (at_record n) live = ⊎_elim at_s (λ (ne : at_record n ≢ s). dite (ℕ_discrete n c) (λ e. at_c (ap at_record e))
      (λ ne'. other ne (live.0, was_attached n live.1 ne') (d.wired.links n live.0 ne))) (decided (at_record n) s)

  -- another source of the bucket, below the new key, leads to a record below it
  reaches : (r : Source) → IsLive z t r → r ≢ s → bucket z.heads (t.key c) ≡ bucket_at z t r → IsBelow t r (t.key c)
      → (target (word_at t r) ≢ 0) × (t.key (target (word_at t r)) ≤ t.key c)
  reaches r live ne same low = go r s live d.live ne (λ n is_n st b lo. l.next s n d.live is_n st b lo) d.gap
      (sym same ∙ d.home) low d.above
    where
      go : (r s : Source) → IsLive z t r → IsLive z t s → r ≢ s
          → ((n : ℕ) → IsNumber z n → t.status n ≡ attached → bucket z.heads (t.key n) ≡ bucket_at z t s → IsBelow t s (t.key n)
          → (target (word_at t s) ≢ 0) × (t.key (target (word_at t s)) ≤ t.key n))
          → (target (word_at t s) ≢ 0 → t.key c < t.key (target (word_at t s))) → bucket_at z t r ≡ bucket_at z t s
          → IsBelow t r (t.key c) → IsBelow t s (t.key c) → (target (word_at t r) ≢ 0) × (t.key (target (word_at t r)) ≤ t.key c)
      go (at_head h) (at_head i) live ls ne next gap b low above = absurd (ne (ap at_head b))
      go (at_head h) (at_record n) live ls ne next gap b low above = let y = l.next (at_head h) n live ls.0 ls.1 (sym b) tt in
          let le = y.1 in (y.0, omega arith)
      go (at_record m) (at_head i) live ls ne next gap b low above = let y = next m live.0 live.1 b tt in let lt = gap y.0 in
          let le = y.1 in absurd (omega arith)
      go (at_record m) (at_record n) live ls ne next gap b low above = ⊎_elim
          (λ (lt : t.key m < t.key n). let y = l.next (at_record m) n live ls.0 ls.1 (sym b) lt in let le = y.1 in
          (y.0, omega arith))
          (λ (ge : t.key n ≤ t.key m). let apart_keys : t.key n ≢ t.key m = λ e. ne
          (ap at_record (l.once m n live.0 ls.0 live.1 ls.1 (sym e))) in let y = next m live.0 live.1 b (omega arith) in
          let lt = gap y.0 in let le = y.1 in absurd (omega arith))
          (less_or (t.key m) (t.key n))

  bare_published : (r : Source) → IsLive z t' r → IsBareAt t' r
  bare_published (at_head h) live = ⊎_elim
      (λ (at : at_head h ≡ s). subst (λ (x : ℕ). x % 16 ≡ 0) (sym (ap (word_at t') at ∙ d.wired.there)) d.new_bare)
      (λ (ne : at_head h ≢ s). subst (λ (x : ℕ). x % 16 ≡ 0) (sym (d.wired.heads h live ne)) (l.bare (at_head h) live))
      (decided (at_head h) s)
  bare_published (at_record n) live = ⊎_elim
      (λ (at : at_record n ≡ s). subst (λ (x : ℕ). x % 16 < 2) (sym (ap (word_at t') at ∙ d.wired.there))
      (let none = d.new_bare in omega arith))
      (λ (ne : at_record n ≢ s). subst (λ (x : ℕ). x % 16 < 2) (sym (d.wired.links n live.0 ne)) (dite (ℕ_discrete n c)
      (λ e. subst (λ (m : ℕ). t.link m % 16 < 2) (sym e) (let none = d.bare_c in omega arith))
      (λ other. l.bare (at_record n) (live.0, sym (d.others n other) ∙ live.1))))
      (is_there n s)

  pub listed_published : Listed z t'
  listed_published = record {
    rising = λ n is_n lk ok some. let u = linked_used (t'.status n) lk in let k1 = d.wired.keys n is_n in
        let y = seen_number z t' (target (t'.link n)) some (sane'.used n is_n u ok) in
        let k2 = d.wired.keys (target (t'.link n)) y.0 in dite (ℕ_discrete n c)
        (λ e. let to : target (t'.link n) ≡ target (word_at t s) = c_target (at_record n) (ap at_record e) in
        let gap = d.gap (λ nil. some (to ∙ nil)) in let k3 = ap t.key to in let k4 = ap t.key e in omega arith)
        (λ ne. ⊎_elim
        (λ (at : at_record n ≡ s). let to = now_target (at_record n) at in
        let up : t.key n < t.key c = subst (λ (r : Source). IsBelow t r (t.key c)) (sym at) d.above in let k3 = ap t.key to in
        omega arith)
        (λ (else_at : at_record n ≢ s). let same = d.wired.links n is_n else_at in
        let k3 : t.key (target (t'.link n)) ≡ t.key (target (t.link n)) = ap (λ (v : ℕ). t.key (target v)) same in
        let gap = l.rising n is_n (subst IsLinked (d.others n ne) lk) (sym (ap invalid_bit same) ∙ ok)
        (λ e. some (ap target same ∙ e)) in omega arith)
        (is_there n s));
    same_list = λ n is_n lk ok some. let u = linked_used (t'.status n) lk in
        let y = seen_number z t' (target (t'.link n)) some (sane'.used n is_n u ok) in
        ap (bucket z.heads) (d.wired.keys (target (t'.link n)) y.0) ∙ (dite (ℕ_discrete n c)
        (λ e. let to : target (t'.link n) ≡ target (word_at t s) = c_target (at_record n) (ap at_record e) in
        ap (λ (x : ℕ). bucket z.heads (t.key x)) to ∙ (l.home s d.live (λ nil. some (to ∙ nil))
        ∙ (sym d.home ∙ ap (λ (x : ℕ). bucket z.heads (t.key x)) (sym e))))
        (λ ne. ⊎_elim (λ (at : at_record n ≡ s). ap (λ (x : ℕ). bucket z.heads (t.key x)) (now_target (at_record n) at)
        ∙ (d.home ∙ ap (bucket_at z t) (sym at)))
        (λ (else_at : at_record n ≢ s). let same = d.wired.links n is_n else_at in
        ap (λ (v : ℕ). bucket z.heads (t.key (target v))) same
        ∙ l.same_list n is_n (subst IsLinked (d.others n ne) lk) (sym (ap invalid_bit same) ∙ ok)
        (λ e. some (ap target same ∙ e)))
        (is_there n s)) ∙ ap (bucket z.heads) (sym (d.wired.keys n is_n)));
    marked = λ n is_n u flag. dite (ℕ_discrete n c) (λ e. ap t'.status e ∙ d.attached_now)
        (λ ne. let f : flag_bit (t.link n) ≡ 0 = ⊎_elim (λ (at : at_record n ≡ s). ap (λ (r : Source). flag_bit (word_at t r)) at
        ∙ d.plain) (λ (else_at : at_record n ≢ s). sym (ap flag_bit (d.wired.links n is_n else_at)) ∙ flag) (is_there n s) in
        d.others n ne ∙ l.marked n is_n (used_on n ne u) f);
    untagged = λ n is_n u. dite (ℕ_discrete n c) (λ e. ap (λ (x : ℕ). tag_bit (t'.link x)) e ∙ (ap tag_bit link_c ∙ d.untagged_c))
        (λ ne. ⊎_elim (λ (at : at_record n ≡ s). ap (λ (r : Source). tag_bit (word_at t' r)) at
        ∙ (ap tag_bit d.wired.there ∙ d.new_untagged)) (λ (else_at : at_record n ≢ s). ap tag_bit (d.wired.links n is_n else_at)
        ∙ l.untagged n is_n (used_on n ne u)) (is_there n s));
    bare = bare_published;
    once = λ n m is_n is_m st st' e. let e' : t.key n ≡ t.key m = sym (d.wired.keys n is_n) ∙ (e ∙ d.wired.keys m is_m) in
        dite (ℕ_discrete n c)
        (λ a. dite (ℕ_discrete m c) (λ b. a ∙ sym b) (λ ne. absurd
        (no_twin m is_m (was_attached m st' ne) (sym e' ∙ ap t.key a))))
        (λ ne. dite (ℕ_discrete m c) (λ b. absurd (no_twin n is_n (was_attached n st ne) (e' ∙ ap t.key b)))
        (λ ne'. l.once n m is_n is_m (was_attached n st ne) (was_attached m st' ne') e'));
    home = λ r live some. ap (bucket z.heads) (key_there r live some)
        ∙ (home_of r live some (which r live) ∙ sym (then_bucket r live));
    next = λ r m live is_m st same low. let k = d.wired.keys m is_m in
        let same' : bucket z.heads (t.key m) ≡ bucket_at z t r = ap (bucket z.heads) (sym k) ∙ (same ∙ then_bucket r live) in
        let low' : IsBelow t r (t.key m) = subst (IsBelow t r) k (then_below r (t'.key m) live low) in
        let y = next_of r m is_m st same' low' (which r live) in let k2 = key_there r live y.0 in let le = y.1 in
        (y.0, omega arith);
  }
    where
      home_of : (r : Source) → IsLive z t' r → target (word_at t' r) ≢ 0 → Which r
          → bucket z.heads (t.key (target (word_at t' r))) ≡ bucket_at z t r
      home_of r live some (at_s e) = ap (λ (x : ℕ). bucket z.heads (t.key x)) (now_target r e)
          ∙ (d.home ∙ ap (bucket_at z t) (sym e))
      home_of r live some (at_c e) = let to = c_target r e in ap (λ (x : ℕ). bucket z.heads (t.key x)) to
          ∙ (l.home s d.live (λ nil. some (to ∙ nil)) ∙ (sym d.home ∙ ap (bucket_at z t) (sym e)))
      home_of r live some (other ne live' same) = ap (λ (v : ℕ). bucket z.heads (t.key (target v))) same
          ∙ l.home r live' (λ nil. some (ap target same ∙ nil))

      raised : (s : Source) (j k : ℕ) → j < k → IsBelow t s j → IsBelow t s k
      raised (at_head h) j k lt low = tt
      raised (at_record n) j k lt low = omega arith

      next_of : (r : Source) (m : ℕ) → IsNumber z m → t'.status m ≡ attached → bucket z.heads (t.key m) ≡ bucket_at z t r
          → IsBelow t r (t.key m) → Which r → (target (word_at t' r) ≢ 0) × (t.key (target (word_at t' r)) ≤ t.key m)
      next_of r m is_m st same low (at_s e) = let to = now_target r e in
          subst (λ (x : ℕ). (x ≢ 0) × (t.key x ≤ t.key m)) (sym to) (
            real z c d.number,
            dite (ℕ_discrete m c) (λ hit. let k = ap t.key hit in omega arith)
                (λ ne. let y = l.next s m d.live is_m (was_attached m st ne) (same ∙ ap (bucket_at z t) e)
                (subst (λ (r : Source). IsBelow t r (t.key m)) e low) in let lt = d.gap y.0 in let le = y.1 in omega arith),
          )
      next_of r m is_m st same low (at_c e) = let to = c_target r e in
          let lt : t.key c < t.key m = subst (λ (r : Source). IsBelow t r (t.key m)) e low in
          let ne : m ≢ c = λ hit. (let k = ap t.key hit in omega arith) in
          subst (λ (x : ℕ). (x ≢ 0) × (t.key x ≤ t.key m)) (sym to)
          (l.next s m d.live is_m (was_attached m st ne) (same ∙ (ap (bucket_at z t) e ∙ d.home))
          (raised s (t.key c) (t.key m) lt d.above))
      next_of r m is_m st same low (other ne live' word) = subst (λ (v : ℕ). (target v ≢ 0) × (t.key (target v) ≤ t.key m))
          (sym word) (dite (ℕ_discrete m c)
          (λ hit. subst (λ (m : ℕ). (target (word_at t r) ≢ 0) × (t.key (target (word_at t r)) ≤ t.key m)) (sym hit)
          (reaches r live' ne (ap (λ (m : ℕ). bucket z.heads (t.key m)) (sym hit) ∙ same)
          (subst (λ (m : ℕ). IsBelow t r (t.key m)) hit low)))
          (λ ne'. l.next r m live' is_m (was_attached m st ne') same low))

  pub none_yet : (m : List Pair) → Mapped z t m → find m (t.key c) ≡ None
  none_yet m p = absent (find m (t.key c)) refl
    where
      absent : (o : Option ℕ) → find m (t.key c) ≡ o → find m (t.key c) ≡ None
      absent None e = e
      absent (Some v) e = let r = p.records (t.key c) v e in absurd (no_twin r.0 r.1.0 r.1.1 r.1.3)

  pub mapped_published : (m : List Pair) → Mapped z t m → Mapped z t' (put m (t.key c) (t.value c))
  mapped_published m p = record {
    sorted = RisesFrom-put m 0 (t.key c) (t.value c) p.sorted (omega arith) (absent (find m (t.key c)) refl);
    pairs = λ n is_n st flag. ap (find (put m (t.key c) (t.value c))) (d.wired.keys n is_n) ∙ (dite (ℕ_discrete n c)
        (λ e. ap (λ (x : ℕ). find (put m (t.key c) (t.value c)) (t.key x)) e
        ∙ (find_put m (t.key c) (t.value c) (absent (find m (t.key c)) refl) ∙ ap (λ (x : ℕ). Some (t.value x)) (sym e)))
        (λ ne. let st' = was_attached n st ne in find_put_else m (t.key c) (t.value c) (t.key n) (no_twin n is_n st')
        ∙ p.pairs n is_n st' (flag_was n is_n flag))
        ∙ ap Some (sym (d.wired.values n is_n)));
    records = λ k v is. dite (ℕ_discrete k (t.key c))
        (λ e. (c, (d.number, d.attached_now, ap flag_bit link_c ∙ d.plain_c, d.wired.keys c d.number ∙ sym e)))
        (λ other_key. let r = p.records k v (sym (find_put_else m (t.key c) (t.value c) k other_key) ∙ is) in
        let ne : r.0 ≢ c = λ e. other_key (sym r.1.3 ∙ ap t.key e) in
        (r.0, (r.1.0, d.others r.0 ne ∙ r.1.1, flag_now r.0 r.1.0 r.1.2, d.wired.keys r.0 r.1.0 ∙ r.1.3)));
  }
    where
      absent : (o : Option ℕ) → find m (t.key c) ≡ o → find m (t.key c) ≡ None
      absent None e = e
      absent (Some v) e = let r = p.records (t.key c) v e in absurd (no_twin r.0 r.1.0 r.1.1 r.1.3)

      flag_was : (n : ℕ) → IsNumber z n → flag_bit (t'.link n) ≡ 0 → flag_bit (t.link n) ≡ 0
      flag_was n is_n flag = ⊎_elim (λ (at : at_record n ≡ s). ap (λ (r : Source). flag_bit (word_at t r)) at ∙ d.plain)
          (λ (else_at : at_record n ≢ s). sym (ap flag_bit (d.wired.links n is_n else_at)) ∙ flag) (is_there n s)

      flag_now : (n : ℕ) → IsNumber z n → flag_bit (t.link n) ≡ 0 → flag_bit (t'.link n) ≡ 0
      flag_now n is_n flag = ⊎_elim (λ (at : at_record n ≡ s). ap (λ (r : Source). flag_bit (word_at t' r)) at
          ∙ (ap flag_bit d.wired.there ∙ d.new_plain)) (λ (else_at : at_record n ≢ s). ap flag_bit (d.wired.links n is_n else_at)
          ∙ flag) (is_there n s)

  pub intact_published : (n : ℕ) (ds : List Gathered) (x : ℕ) → Joined n ds x → Intact z t ds → Intact z t' ds
  unfolding Intact
  intact_published n [] x j i = tt
  intact_published n (e ∷ ds) x (more ne number flag valid rest) i = let ne_s : at_record e.number ≢ s = λ same.
      (let f : flag_bit (word_at t s) ≡ 1 = ap (λ (r : Source). flag_bit (word_at t r)) (sym same) ∙ (ap flag_bit i.2 ∙ flag) in
      let p = d.plain in omega arith) in
      let ne_c : e.number ≢ c = λ same. d.unused (subst IsUsed (sym (ap t.status (sym same) ∙ i.1)) tt) in
      (i.0, d.others e.number ne_c ∙ i.1, d.wired.links e.number i.0 ne_s ∙ i.2, intact_published (target e.link) ds x rest i.3)
