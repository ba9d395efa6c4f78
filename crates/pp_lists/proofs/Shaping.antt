-- The shape of the lists after a step that adds no record.
use Rattle.std.proofs.Common.{◌≡◌, ◌≢◌, ◌%◌, ◌⊎◌, inl, inr, ⊎_elim, ℕ, ◌<◌, ◌≤◌, List}
use Rattle.std.proofs.Common.{[], ◌∷◌, Some, sym, refl, ap, ◌∙◌, subst, arith}
use Rattle.std.proofs.Math.Decide.{ℕ_discrete}
use mathlib.Core.Logic.{dite}
use Rattle.pp_link.specs.Links.{target, invalid_bit, flag_bit, tag_bit}
use Rattle.pp_link.specs.Places.{IsNumber}
use Rattle.pp_link.specs.declared.layout.Sizes.{Sizes}
use Rattle.pp_model.specs.FiniteMap.{find}
use Rattle.pp_model.specs.declared.Pair.{Pair}
use Rattle.pp_rule.specs.Lists.{IsIn}
use Rattle.pp_rule.specs.States.{RecordState, attached, in_hand, retired, owned, shelved, IsUsed, IsLinked}
use Rattle.pp_lists.specs.Walks.{Heap, Source, at_head, at_record, word_at, IsLive, bucket, IsBareAt, bucket_at, IsBelow, IsSeen, IsOn}
use Rattle.pp_lists.specs.Walks.{Sane}
use Rattle.pp_lists.specs.Walks.{Listed, Mapped, Joined, Intact, Taken, numbers}
use Rattle.pp_lists.specs.Walks.Joined.{more}
use Rattle.pp_lists.specs.declared.own.Gathered.{Gathered}
use Rattle.pp_lists.proofs.Chaining.{in_or, Link, each_link, chain_up, chain_next}
use Rattle.pp_lists.proofs.Chaining.{no_other}
use Rattle.pp_lists.proofs.Walking.{is_there, Fewer, seen_number}

pub on_number : (z : Sizes) (t : Heap) (n : ℕ) → n ≢ 0 → IsOn z t n → IsNumber z n × (t.status n ≡ attached)
on_number z t n ne s = ⊎_elim (λ (e : n ≡ 0). absurd (ne e)) (λ (y : IsNumber z n × (t.status n ≡ attached)). y) s

pub is_used : (s : RecordState) → s ≡ attached → IsUsed s
is_used s e = subst IsUsed (sym e) tt

pub is_linked : (s : RecordState) → s ≡ attached → IsLinked s
is_linked s e = subst IsLinked (sym e) tt

pub linked_used : (s : RecordState) → IsLinked s → IsUsed s
linked_used attached y = tt
linked_used (in_hand p j) y = tt
linked_used (retired p) y = absurd y
linked_used (owned p) y = absurd y
linked_used (shelved p) y = absurd y

module _ (z : Sizes) (t t' : Heap) (f : Fewer z t t') (sane' : Sane z t') where
  was_attached : (n : ℕ) → t'.status n ≡ attached → t.status n ≡ attached
  was_attached n st = sym (f.linked_was n (is_linked (t'.status n) st)) ∙ st

  was_live : (s : Source) → IsLive z t' s → (IsLive z t s) × (word_at t' s ≡ word_at t s)
  was_live (at_head h) live = (live, f.heads h live)
  was_live (at_record n) live = (
    (live.0, was_attached n live.1),
    f.valid_links n live.0 (is_used (t'.status n) live.1) (sane'.valid (at_record n) live),
  )

  key_of : (n : ℕ) → IsNumber z n → t'.status n ≡ attached → t'.key n ≡ t.key n
  key_of n is st = f.keys n is (is_used (t'.status n) st)

  was_bucket : (s : Source) → IsLive z t' s → bucket_at z t' s ≡ bucket_at z t s
  was_bucket (at_head h) live = refl
  was_bucket (at_record n) live = ap (bucket z.heads) (key_of n live.0 live.1)

  was_below : (s : Source) (k : ℕ) → IsLive z t' s → IsBelow t' s k → IsBelow t s k
  was_below (at_head h) k live low = tt
  was_below (at_record n) k live low = subst (λ (x : ℕ). x < k) (key_of n live.0 live.1) low

  target_key : (s : Source) → IsLive z t' s → target (word_at t' s) ≢ 0
      → t'.key (target (word_at t' s)) ≡ t.key (target (word_at t s))
  target_key s live some = let y = on_number z t' (target (word_at t' s)) some (sane'.live s live) in
      key_of (target (word_at t' s)) y.0 y.1 ∙ ap (λ (w : ℕ). t.key (target w)) (was_live s live).1

  bare_fewer : Listed z t → (s : Source) → IsLive z t' s → IsBareAt t' s
  bare_fewer l (at_head h) live = subst (λ (w : ℕ). w % 16 ≡ 0) (sym (f.heads h live)) (l.bare (at_head h) live)
  bare_fewer l (at_record n) live = let y = was_live (at_record n) live in
      subst (λ (w : ℕ). w % 16 < 2) (sym y.1) (l.bare (at_record n) y.0)

  pub listed_fewer : Listed z t → Listed z t'
  listed_fewer l = record {
    rising = λ n is_n lk ok some. let u = linked_used (t'.status n) lk in let same = f.valid_links n is_n u ok in
        let y = seen_number z t' (target (t'.link n)) some (sane'.used n is_n u ok) in
        let gap = l.rising n is_n (subst IsLinked (f.linked_was n lk) lk) (sym (ap invalid_bit same) ∙ ok)
        (λ e. some (ap target same ∙ e)) in
        let k1 = f.keys n is_n u in let k2 : t'.key (target (t'.link n)) ≡ t.key (target (t.link n)) = f.keys
        (target (t'.link n)) y.0 y.1 ∙ ap (λ (w : ℕ). t.key (target w)) same in omega arith;
    same_list = λ n is_n lk ok some. let u = linked_used (t'.status n) lk in let same = f.valid_links n is_n u ok in
        let y = seen_number z t' (target (t'.link n)) some (sane'.used n is_n u ok) in
        ap (bucket z.heads) (f.keys (target (t'.link n)) y.0 y.1 ∙ ap (λ (w : ℕ). t.key (target w)) same)
        ∙ (l.same_list n is_n (subst IsLinked (f.linked_was n lk) lk) (sym (ap invalid_bit same) ∙ ok)
        (λ e. some (ap target same ∙ e)) ∙ ap (bucket z.heads) (sym (f.keys n is_n u)));
    marked = λ n is_n u flag. f.attached_on n (l.marked n is_n (f.used_was n u) (sym (f.flags n is_n u) ∙ flag));
    untagged = λ n is_n u. f.tags n is_n u ∙ l.untagged n is_n (f.used_was n u);
    bare = bare_fewer l;
    once = λ n m is_n is_m st st' e. l.once n m is_n is_m (was_attached n st) (was_attached m st')
        (sym (key_of n is_n st) ∙ (e ∙ key_of m is_m st'));
    home = λ s live some. let y = was_live s live in ap (bucket z.heads) (target_key s live some)
        ∙ (l.home s y.0 (λ e. some (ap target y.1 ∙ e)) ∙ sym (was_bucket s live));
    next = λ s m live is_m st same low. let y = was_live s live in let k = key_of m is_m st in
        let go = l.next s m y.0 is_m (was_attached m st) (ap (bucket z.heads) (sym k) ∙ (same ∙ was_bucket s live))
        (subst (IsBelow t s) k (was_below s (t'.key m) live low)) in
        let some : target (word_at t' s) ≢ 0 = λ e. go.0 (sym (ap target y.1) ∙ e) in let le = go.1 in
        let k2 = target_key s live some in (some, omega arith);
  }

  pub mapped_fewer : (m : List Pair) → Mapped z t m → Mapped z t' m
  mapped_fewer m p = record {
    sorted = p.sorted;
    pairs = λ n is_n st flag. let u = is_used (t'.status n) st in ap (find m) (f.keys n is_n u)
        ∙ (p.pairs n is_n (was_attached n st) (sym (f.flags n is_n u) ∙ flag) ∙ ap Some (sym (f.values n is_n u)));
    records = λ k v is. let r = p.records k v is in let st = f.attached_on r.0 r.1.1 in let u = is_used (t'.status r.0) st in
        (r.0, (r.1.0, st, f.flags r.0 r.1.0 u ∙ r.1.2, f.keys r.0 r.1.0 u ∙ r.1.3));
  }

  pub intact_fewer : (cs : List Gathered) → Intact z t cs → Intact z t' cs
  unfolding Intact
  intact_fewer [] i = tt
  intact_fewer (c ∷ cs) i = let st = f.attached_on c.number i.1 in
      (i.0, st, (was_live (at_record c.number) (i.0, st)).1 ∙ i.2, intact_fewer cs i.3)

-- after the chain was detached at s
module _ (z : Sizes) (t t' : Heap) (s : Source) (w : ℕ) (cs : List Gathered) (sane : Sane z t) (sane' : Sane z t')
    (l : Listed z t) (d : Taken z t t' s w cs) where
  member : (m : ℕ) → IsIn m (numbers cs) → Link z t m
  member m i = each_link z t (target (word_at t s)) m cs (target w) d.joined d.intact i

  -- the state of a number after it
  cases : (n : ℕ) → (IsIn n (numbers cs) × ((t'.status n ≡ attached) → ⊥) × IsUsed (t.status n))
      ⊎ ((IsIn n (numbers cs) → ⊥) × (t'.status n ≡ t.status n))
  cases n = ⊎_elim (λ (i : IsIn n (numbers cs)). inl (i, hand n (d.inside n i), is_used (t.status n) (member n i).state))
      (λ (out : IsIn n (numbers cs) → ⊥). inr (out, d.outside n out)) (in_or n (numbers cs))
    where
      hand : (n : ℕ) → ((p : ℕ) × ((j : ℕ) × (t'.status n ≡ in_hand p j))) → t'.status n ≡ attached → ⊥
      hand n y st = let p : ℕ = y.0 in let j : ℕ = y.1.0 in let bad : in_hand p j ≡ attached = sym y.1.1 ∙ st in cc

  pub still : (n : ℕ) → t'.status n ≡ attached → (t.status n ≡ attached) × (IsIn n (numbers cs) → ⊥)
  still n st = ⊎_elim (λ (y : IsIn n (numbers cs) × ((t'.status n ≡ attached) → ⊥) × IsUsed (t.status n)). absurd (y.1 st))
      (λ (y : (IsIn n (numbers cs) → ⊥) × (t'.status n ≡ t.status n)). (sym y.1 ∙ st, y.0)) (cases n)

  pub still_used : (n : ℕ) → IsUsed (t'.status n) → IsUsed (t.status n)
  still_used n u = ⊎_elim (λ (y : IsIn n (numbers cs) × ((t'.status n ≡ attached) → ⊥) × IsUsed (t.status n)). y.2)
      (λ (y : (IsIn n (numbers cs) → ⊥) × (t'.status n ≡ t.status n)). subst IsUsed y.1 u) (cases n)

  still_linked : (n : ℕ) → IsLinked (t'.status n) → IsLinked (t.status n)
  still_linked n u = ⊎_elim (λ (i : IsIn n (numbers cs)). is_linked (t.status n) (member n i).state)
      (λ (out : IsIn n (numbers cs) → ⊥). subst IsLinked (d.outside n out) u) (in_or n (numbers cs))

  -- the source isn't in the chain
  out_of : (n : ℕ) → s ≡ at_record n → IsIn n (numbers cs) → ⊥
  out_of n e i = let flag = (member n i).flag in let plain : flag_bit (t.link n) ≡ 0 = ap
      (λ (r : Source). flag_bit (word_at t r)) (sym e) ∙ d.plain in omega arith

  was : (r : Source) → IsLive z t' r → IsLive z t r
  was (at_head h) live = live
  was (at_record n) live = (live.0, (still n live.1).0)

  wired : (r : Source) → IsLive z t' r → r ≢ s → word_at t' r ≡ word_at t r
  wired (at_head h) live ne = d.wired.heads h live ne
  wired (at_record n) live ne = d.wired.links n live.0 ne

  same_bucket : (r : Source) → IsLive z t' r → bucket_at z t' r ≡ bucket_at z t r
  same_bucket (at_head h) live = refl
  same_bucket (at_record n) live = ap (bucket z.heads) (d.wired.keys n live.0)

  below : (r : Source) (k : ℕ) → IsLive z t' r → IsBelow t' r k → IsBelow t r k
  below (at_head h) k live low = tt
  below (at_record n) k live low = subst (λ (x : ℕ). x < k) (d.wired.keys n live.0) low

  decided : (r : Source) → (r ≡ s) ⊎ (r ≢ s)
  decided (at_head h) = go s
    where
      go : (s : Source) → (at_head h ≡ s) ⊎ (at_head h ≢ s)
      go (at_head i) = dite (ℕ_discrete h i) (λ e. inl (ap at_head e)) (λ ne. inr (λ e. ne (cc)))
      go (at_record n) = inr (λ e. cc)
  decided (at_record n) = is_there n s

  key_there : (n : ℕ) → IsSeen z t' n → n ≢ 0 → t'.key n ≡ t.key n
  key_there n seen ne = d.wired.keys n (seen_number z t' n ne seen).0

  on_there : (n : ℕ) → IsOn z t' n → n ≢ 0 → t'.key n ≡ t.key n
  on_there n seen ne = d.wired.keys n (on_number z t' n ne seen).0

  bare_there : (r : Source) → word_at t' r ≡ w → IsBareAt t' r
  bare_there (at_head h) now = subst (λ (x : ℕ). x % 16 ≡ 0) (sym now) d.new_bare
  bare_there (at_record n) now = subst (λ (x : ℕ). x % 16 < 2) (sym now) (let none = d.new_bare in omega arith)

  bare_else : (r : Source) → IsLive z t' r → r ≢ s → IsBareAt t' r
  bare_else (at_head h) live ne = subst (λ (x : ℕ). x % 16 ≡ 0) (sym (wired (at_head h) live ne)) (l.bare (at_head h) live)
  bare_else (at_record n) live ne = subst (λ (x : ℕ). x % 16 < 2) (sym (wired (at_record n) live ne))
      (l.bare (at_record n) (was (at_record n) live))

  pub listed_detached : Listed z t'
  listed_detached = record {
    rising = λ n is_n lk ok some. let u = linked_used (t'.status n) lk in let k1 = d.wired.keys n is_n in
        let k2 = key_there (target (t'.link n)) (sane'.used n is_n u ok) some in ⊎_elim
        (λ (at : at_record n ≡ s). let now : t'.link n ≡ w = ap (word_at t') at ∙ d.wired.there in
        let was_word : word_at t s ≡ t.link n = ap (word_at t) (sym at) in
        let some_x : target w ≢ 0 = λ e. some (ap target now ∙ e) in
        let up = chain_up z t sane l (target (word_at t s)) cs (target w) d.joined d.intact some_x in
        let st : t.status n ≡ attached = (subst (IsLive z t) (sym at) d.live).1 in
        let gap = l.rising n is_n (is_linked (t.status n) st) (sane.valid (at_record n) (is_n, st))
        (λ e. up.0 (ap target was_word ∙ e)) in
        let le : t.key (target (t.link n)) ≤ t.key (target w) = subst
        (λ (v : ℕ). t.key (target v) ≤ t.key (target w)) was_word up.1 in
        let k3 : t.key (target (t'.link n)) ≡ t.key (target w) = ap (λ (v : ℕ). t.key (target v)) now in omega arith)
        (λ (else_at : at_record n ≢ s). let same = d.wired.links n is_n else_at in
        let k3 : t.key (target (t'.link n)) ≡ t.key (target (t.link n)) = ap (λ (v : ℕ). t.key (target v)) same in
        let gap = l.rising n is_n (still_linked n lk) (sym (ap invalid_bit same) ∙ ok) (λ e. some (ap target same ∙ e)) in
        omega arith)
        (is_there n s);
    same_list = λ n is_n lk ok some. let u = linked_used (t'.status n) lk in
        let k2 = key_there (target (t'.link n)) (sane'.used n is_n u ok) some in ap (bucket z.heads) k2 ∙ (⊎_elim
        (λ (at : at_record n ≡ s). let now : t'.link n ≡ w = ap (word_at t') at ∙ d.wired.there in
        let up = chain_up z t sane l (target (word_at t s)) cs (target w) d.joined d.intact (λ e. some (ap target now ∙ e)) in
        ap (λ (v : ℕ). bucket z.heads (t.key (target v))) now ∙ (up.2 ∙ (l.home s d.live up.0 ∙ ap (bucket_at z t) (sym at))))
        (λ (else_at : at_record n ≢ s). let same = d.wired.links n is_n else_at in
        ap (λ (v : ℕ). bucket z.heads (t.key (target v))) same
        ∙ l.same_list n is_n (still_linked n lk) (sym (ap invalid_bit same) ∙ ok) (λ e. some (ap target same ∙ e)))
        (is_there n s) ∙ ap (bucket z.heads) (sym (d.wired.keys n is_n)));
    marked = λ n is_n u flag. let was_flag : flag_bit (t.link n) ≡ 0 = ⊎_elim
        (λ (at : at_record n ≡ s). ap (λ (r : Source). flag_bit (word_at t r)) at ∙ d.plain)
        (λ (else_at : at_record n ≢ s). sym (ap flag_bit (d.wired.links n is_n else_at)) ∙ flag) (is_there n s) in ⊎_elim
        (λ (i : IsIn n (numbers cs)). let f = (member n i).flag in absurd (omega arith))
        (λ (out : IsIn n (numbers cs) → ⊥). d.outside n out ∙ l.marked n is_n (still_used n u) was_flag) (in_or n (numbers cs));
    untagged = λ n is_n u. ⊎_elim (λ (at : at_record n ≡ s). ap (λ (r : Source). tag_bit (word_at t' r)) at
        ∙ (ap tag_bit d.wired.there ∙ d.new_untagged)) (λ (else_at : at_record n ≢ s). ap tag_bit (d.wired.links n is_n else_at)
        ∙ l.untagged n is_n (still_used n u)) (is_there n s);
    bare = λ r live. ⊎_elim (λ (at : r ≡ s). bare_there r (ap (word_at t') at ∙ d.wired.there))
        (λ (else_at : r ≢ s). bare_else r live else_at) (decided r);
    once = λ n m is_n is_m st st' e. l.once n m is_n is_m (still n st).0 (still m st').0
        (sym (d.wired.keys n is_n) ∙ (e ∙ d.wired.keys m is_m));
    home = λ r live some. let k = on_there (target (word_at t' r)) (sane'.live r live) some in ap (bucket z.heads) k ∙ (⊎_elim
        (λ (at : r ≡ s). let now : word_at t' r ≡ w = ap (word_at t') at ∙ d.wired.there in
        let up = chain_up z t sane l (target (word_at t s)) cs (target w) d.joined d.intact (λ e. some (ap target now ∙ e)) in
        ap (λ (v : ℕ). bucket z.heads (t.key (target v))) now ∙ (up.2 ∙ (l.home s d.live up.0 ∙ ap (bucket_at z t) (sym at))))
        (λ (else_at : r ≢ s). let same = wired r live else_at in ap (λ (v : ℕ). bucket z.heads (t.key (target v))) same
        ∙ l.home r (was r live) (λ e. some (ap target same ∙ e)))
        (decided r) ∙ sym (same_bucket r live));
    next = λ r m live is_m st same low. let st' = still m st in let k = d.wired.keys m is_m in
        let go = l.next r m (was r live) is_m st'.0 (ap (bucket z.heads) (sym k) ∙ (same ∙ same_bucket r live))
        (subst (IsBelow t r) k (below r (t'.key m) live low)) in
        let reached = ⊎_elim
        (λ (at : r ≡ s). let now : word_at t' r ≡ w = ap (word_at t') at ∙ d.wired.there in
        let go' = subst (λ (r : Source). (target (word_at t r) ≢ 0) × (t.key (target (word_at t r)) ≤ t.key m)) at go in
        subst (λ (v : ℕ). (target v ≢ 0) × (t.key (target v) ≤ t.key m)) (sym now)
        (chain_next z t sane l (target (word_at t s)) cs (target w) m d.joined d.intact is_m st'.0 st'.1 go'.0 go'.1
        (ap (bucket z.heads) (sym k) ∙ (same ∙ (same_bucket r live ∙ (ap (bucket_at z t) at ∙ sym (l.home s d.live go'.0)))))))
        (λ (else_at : r ≢ s). subst (λ (v : ℕ). (target v ≢ 0) × (t.key (target v) ≤ t.key m)) (sym (wired r live else_at)) go)
        (decided r) in
        let k2 = on_there (target (word_at t' r)) (sane'.live r live) reached.0 in let le = reached.1 in (reached.0, omega arith);
  }

  flag_same : (n : ℕ) → IsNumber z n → flag_bit (t'.link n) ≡ flag_bit (t.link n)
  flag_same n is_n = ⊎_elim (λ (at : at_record n ≡ s). ap (λ (r : Source). flag_bit (word_at t' r)) at
      ∙ (ap flag_bit d.wired.there ∙ (d.new_plain ∙ (sym d.plain ∙ ap (λ (r : Source). flag_bit (word_at t r)) (sym at)))))
      (λ (else_at : at_record n ≢ s). ap flag_bit (d.wired.links n is_n else_at)) (is_there n s)

  pub mapped_detached : (m : List Pair) → Mapped z t m → Mapped z t' m
  mapped_detached m p = record {
    sorted = p.sorted;
    pairs = λ n is_n st flag. ap (find m) (d.wired.keys n is_n)
        ∙ (p.pairs n is_n (still n st).0 (sym (flag_same n is_n) ∙ flag) ∙ ap Some (sym (d.wired.values n is_n)));
    records = λ k v is. let r = p.records k v is in let plain = r.1.2 in let out : IsIn r.0 (numbers cs)
        → ⊥ = λ i. (let f = (member r.0 i).flag in omega arith) in
        (r.0, (r.1.0, d.outside r.0 out ∙ r.1.1, flag_same r.0 r.1.0 ∙ r.1.2, d.wired.keys r.0 r.1.0 ∙ r.1.3));
  }

  -- what another pass gathered is attached as long as its first record is
  pub intact_detached : (n : ℕ) (ds : List Gathered) (x : ℕ) → Joined n ds x → Intact z t ds → (n ≢ 0 → IsIn n (numbers cs) → ⊥)
      → Intact z t' ds
  unfolding Intact
  intact_detached n [] x j i out = tt
  intact_detached n (c ∷ ds) x (more ne number flag valid rest) i out = let link : t.link n ≡ c.link = ap t.link (sym number)
      ∙ i.2 in let is_n : IsNumber z n = subst (IsNumber z) number i.0 in
      let st : t.status n ≡ attached = ap t.status (sym number) ∙ i.1 in
      let other : at_record n ≢ s = λ e. let plain : flag_bit (t.link n) ≡ 0 = ap (λ (r : Source). flag_bit (word_at t r)) e
      ∙ d.plain in let f : flag_bit (t.link n) ≡ 1 = ap flag_bit link ∙ flag in omega arith in (
        i.0,
        ap t'.status number ∙ (d.outside n (out ne) ∙ st),
        ap t'.link number ∙ (d.wired.links n is_n other ∙ link),
        intact_detached (target c.link) ds x rest i.3 (λ some inside.
            no_other z t sane l s (at_record n) (target (word_at t s)) (target c.link) cs (target w) d.live
            (is_n, st) refl d.joined d.intact other (λ k e j. out ne
            (subst (λ (y : ℕ). IsIn y (numbers cs)) (record_once k n (sym e)) j)) (ap target link) inside),
      )
    where
      record_once : (k n : ℕ) → at_record k ≡ at_record n → k ≡ n
      record_once k n e = cc
