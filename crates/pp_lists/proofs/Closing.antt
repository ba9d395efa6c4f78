-- What a closed list holds: its live records, and its contents, which are those of the log.
use Rattle.std.proofs.Common.{◌≡◌, ◌≢◌, ◌⊎◌, inl, inr, ⊎_elim, ℕ, zero, suc, ◌+◌, ◌<◌, ◌≤◌, Bool, cond}
use Rattle.std.proofs.Common.{List, [], ◌∷◌, ◌++◌, map, length, Option, Some, None, sym, refl, ap, ◌∙◌, subst, arith, eq-eqb}
use Rattle.std.proofs.Common.{ne_eqb}
use Rattle.std.specs.List.{sum_by}
use Rattle.std.proofs.lemmas.List.{length-map}
use Rattle.std.proofs.lemmas.List.Sums.{sum_by-cons}
use Rattle.std.proofs.Math.Decide.{ℕ_discrete}
use mathlib.Core.Logic.{dite}
use Rattle.pp_link.specs.declared.layout.Sizes.{Sizes}
use Rattle.pp_link.specs.Links.{target, flag_bit}
use Rattle.pp_link.specs.Places.{IsNumber}
use Rattle.pp_link.specs.Words.{head_word, cell_word}
use Rattle.pp_model.specs.declared.Pair.{Pair}
use Rattle.pp_model.specs.FiniteMap.{find}
use Rattle.pp_model.specs.History.{contents_of}
use Rattle.pp_model.proofs.Maps.{length-put}
use Rattle.pp_rule.specs.Lists.{IsIn, times}
use Rattle.pp_rule.specs.Orders.{log_of}
use Rattle.pp_rule.specs.States.{attached}
use Rattle.pp_rule.specs.Rule.{Base}
use Rattle.pp_rule.specs.Reached.{Reached, ReachesAll}
use Rattle.pp_rule.specs.Reached.Reached.{by_head, by_link}
use Rattle.pp_rule.specs.Closing.{Gathers, spare}
use Rattle.pp_rule.specs.Laws.{Closes}
use Rattle.pp_rule.proofs.Put.{in_nil, in_cases, in_first, in_later, in_either, in_left, in_right}
use Rattle.pp_rule.proofs.Counting.{times_here, times_else, times_nil, each_once, spare_free, spare_none}
use Rattle.pp_rule.proofs.Times.{times_length, times_append}
use Rattle.pp_rule.proofs.Freeing.{is_in}
use Rattle.pp_rule.proofs.Occurrences.{not_counted, counted}
use Rattle.pp_lists.specs.Walks.{heap, Source, at_head, at_record, word_at, IsLive, IsOn, IsBelow, bucket, bucket_at, Sane}
use Rattle.pp_lists.specs.Lists.{ListState, Lists, ListTells, ListTellsPass}
use Rattle.pp_lists.specs.Contents.{next_of, along, unmarked, live_at, live_of, list_alive, pair_of, in_order, list_pairs}
use Rattle.pp_lists.specs.Contents.{ListGathered, list_count}
use Rattle.pp_lists.proofs.Shaping.{is_linked}
use Rattle.pp_lists.proofs.Heaps.{sane_of}
use Rattle.pp_lists.proofs.Ordering.{has_key, KeysOnce, map_is}

-- the numbers 1 to n
all_length : (low n : ℕ) → length (spare [] low n) ≡ n
all_length low zero = ap (λ (l : List ℕ). length l) (spare_none [] low)
all_length low (suc n) = ap (λ (l : List ℕ). length l) (spare_free [] low n (times_nil low)) ∙ ap suc (all_length (low + 1) n)

few_numbers : (z : Sizes) (ns : List ℕ) → ((m : ℕ) → times m ns ≤ 1) → ((m : ℕ) → IsIn m ns → IsNumber z m)
    → length ns ≤ z.records
few_numbers z ns once range = let le = times_length ns (spare [] 1 z.records) each in let is = all_length 1 z.records in
    omega arith
  where
    none_times : (n : ℕ) → times n [] ≤ 1
    none_times n = let nil = times_nil n in omega arith

    each : (m : ℕ) → times m ns ≤ times m (spare [] 1 z.records)
    each m = ⊎_elim
        (λ (i : IsIn m ns). let r = range m i in let lo = r.0 in let hi = r.1 in
        let one = each_once [] z record {
          once = λ n. none_times n;
          low = times_nil 0;
          high = λ n more_than. times_nil n;
        } m lo hi in
        let nil = times_nil m in let most = once m in omega arith)
        (λ (out : IsIn m ns → ⊥). let none = not_counted m ns out in omega arith) (is_in m ns)

module _ (z : Sizes) (words : List ℕ) where
  pub along_nil : (most n : ℕ) → n ≡ 0 → along z words most n ≡ []
  unfolding along
  along_nil zero n e = refl
  along_nil (suc most) n e = ap (λ (b : Bool). cond b [] (n ∷ along z words most (next_of z words n))) (eq-eqb n 0 e)

  pub along_none : (n : ℕ) → along z words 0 n ≡ []
  unfolding along
  along_none n = refl

  pub along_more : (most n : ℕ) → n ≢ 0 → along z words (suc most) n ≡ n ∷ along z words most (next_of z words n)
  unfolding along
  along_more most n ne = ap (λ (b : Bool). cond b [] (n ∷ along z words most (next_of z words n))) (ne_eqb n 0 ne)

  pub unmarked_nil : unmarked z words [] ≡ []
  unfolding unmarked
  unmarked_nil = refl

  pub unmarked_more : (n : ℕ) (ns : List ℕ) → flag_bit (cell_word words z n 2) ≡ 0
      → unmarked z words (n ∷ ns) ≡ n ∷ unmarked z words ns
  unfolding unmarked
  unmarked_more n ns plain = ap (λ (b : Bool). cond b (n ∷ unmarked z words ns) (unmarked z words ns))
      (eq-eqb (flag_bit (cell_word words z n 2)) 0 plain)

  pub unmarked_less : (n : ℕ) (ns : List ℕ) → flag_bit (cell_word words z n 2) ≢ 0
      → unmarked z words (n ∷ ns) ≡ unmarked z words ns
  unfolding unmarked
  unmarked_less n ns flag = ap (λ (b : Bool). cond b (n ∷ unmarked z words ns) (unmarked z words ns))
      (ne_eqb (flag_bit (cell_word words z n 2)) 0 flag)

  pub live_more : (h : ℕ) → live_of z words (suc h) ≡ live_of z words h ++ live_at z words h
  unfolding live_of
  live_more h = refl

  pub live_none : live_of z words 0 ≡ []
  unfolding live_of
  live_none = refl

  unmarked_in : (m : ℕ) (ns : List ℕ) → IsIn m (unmarked z words ns) → IsIn m ns × (flag_bit (cell_word words z m 2) ≡ 0)
  unmarked_in m [] i = absurd (in_nil m (subst (λ (l : List ℕ). IsIn m l) unmarked_nil i))
  unmarked_in m (n ∷ ns) i = dite (ℕ_discrete (flag_bit (cell_word words z n 2)) 0)
      (λ plain. ⊎_elim (λ (e : m ≡ n). (
        subst (λ (k : ℕ). IsIn k (n ∷ ns)) (sym e) (in_first n ns),
        ap (λ (k : ℕ). flag_bit (cell_word words z k 2)) e ∙ plain,
      ))
      (λ (j : IsIn m (unmarked z words ns)). let y = unmarked_in m ns j in (in_later m n ns y.0, y.1))
      (in_cases m n (unmarked z words ns) (subst (λ (l : List ℕ). IsIn m l) (unmarked_more n ns plain) i)))
      (λ flag. let y = unmarked_in m ns (subst (λ (l : List ℕ). IsIn m l) (unmarked_less n ns flag) i) in
      (in_later m n ns y.0, y.1))

  in_unmarked : (m : ℕ) (ns : List ℕ) → IsIn m ns → flag_bit (cell_word words z m 2) ≡ 0 → IsIn m (unmarked z words ns)
  in_unmarked m [] i plain = absurd (in_nil m i)
  in_unmarked m (n ∷ ns) i plain = ⊎_elim
      (λ (e : m ≡ n). subst (λ (l : List ℕ). IsIn m l) (sym (unmarked_more n ns
      (ap (λ (k : ℕ). flag_bit (cell_word words z k 2)) (sym e) ∙ plain)))
      (subst (λ (k : ℕ). IsIn k (n ∷ unmarked z words ns)) (sym e) (in_first n (unmarked z words ns))))
      (λ (j : IsIn m ns). let rest = in_unmarked m ns j plain in dite (ℕ_discrete (flag_bit (cell_word words z n 2)) 0)
      (λ here. subst (λ (l : List ℕ). IsIn m l) (sym (unmarked_more n ns here)) (in_later m n (unmarked z words ns) rest))
      (λ flag. subst (λ (l : List ℕ). IsIn m l) (sym (unmarked_less n ns flag)) rest))
      (in_cases m n ns i)

  unmarked_times : (m : ℕ) (ns : List ℕ) → times m (unmarked z words ns) ≤ times m ns
  unmarked_times m [] = let e = ap (times m) unmarked_nil in omega arith
  unmarked_times m (n ∷ ns) = let rest = unmarked_times m ns in dite (ℕ_discrete (flag_bit (cell_word words z n 2)) 0)
      (λ plain. let e = ap (times m) (unmarked_more n ns plain) in dite (ℕ_discrete n m)
      (λ hit. let a = times_here m n ns hit in let b = times_here m n (unmarked z words ns) hit in omega arith)
      (λ ne. let a = times_else m n ns ne in let b = times_else m n (unmarked z words ns) ne in omega arith))
      (λ flag. let e = ap (times m) (unmarked_less n ns flag) in dite (ℕ_discrete n m)
      (λ hit. let a = times_here m n ns hit in omega arith) (λ ne. let a = times_else m n ns ne in omega arith))

-- a state that meets the rule
module _ (z : Sizes) (words : List ℕ) (g : ListState) (b : Base 1 z words g) (lists : Lists z words g) where
  -- the record m is attached, in the list of the head h, and its key is at least `low`
  pub record OnList (h low m : ℕ) : Type 0 where
    pub number : IsNumber z m
    pub state : g.status m ≡ attached
    pub home : bucket z.heads (cell_word words z m 0) ≡ h
    pub high : low ≤ cell_word words z m 0

  sane : Sane z (heap z words g.status)
  sane = sane_of z words g b

  -- what stands there leads on so
  pub next_on : (h low n : ℕ) → OnList h low n → IsOn z (heap z words g.status) (next_of z words n)
      × (next_of z words n ≢ 0 → OnList h (cell_word words z n 0 + 1) (next_of z words n))
  next_on h low n o = let live : IsLive z (heap z words g.status) (at_record n) = (o.number, o.state) in
      let to = sane.live (at_record n) live in (
        to,
        (λ ne. let y = ⊎_elim (λ (e : next_of z words n ≡ 0). absurd (ne e))
            (λ (y : IsNumber z (next_of z words n) × (g.status (next_of z words n) ≡ attached)). y) to in
            let up = lists.listed.rising n o.number (is_linked (g.status n) o.state) (sane.valid (at_record n) live) ne in
            record {
              number = y.0;
              state = y.1;
              home = lists.listed.home (at_record n) live ne ∙ o.home;
              high = omega arith;
            }),
      )

  along_in : (most h low n m : ℕ) → (n ≢ 0 → OnList h low n) → IsIn m (along z words most n) → OnList h low m
  along_in zero h low n m on i = absurd (in_nil m (subst (λ (l : List ℕ). IsIn m l) (along_none z words n) i))
  along_in (suc most) h low n m on i = dite (ℕ_discrete n 0)
      (λ nil. absurd (in_nil m (subst (λ (l : List ℕ). IsIn m l) (along_nil z words (suc most) n nil) i)))
      (λ ne. ⊎_elim (λ (e : m ≡ n). subst (OnList h low) (sym e) (on ne))
      (λ (j : IsIn m (along z words most (next_of z words n))).
      let y = along_in most h (cell_word words z n 0 + 1) (next_of z words n) m (next_on h low n (on ne)).1 j in
      let o = on ne in let lo = o.high in let hi = y.high in
      record { number = y.number; state = y.state; home = y.home; high = omega arith })
      (in_cases m n (along z words most (next_of z words n)) (subst (λ (l : List ℕ). IsIn m l) (along_more z words most n ne) i)))

  along_once : (most h low n m : ℕ) → (n ≢ 0 → OnList h low n) → times m (along z words most n) ≤ 1
  along_once zero h low n m on = let e = ap (times m) (along_none z words n) in let nil = times_nil m in omega arith
  along_once (suc most) h low n m on = dite (ℕ_discrete n 0)
      (λ nil. let e = ap (times m) (along_nil z words (suc most) n nil) in let none = times_nil m in omega arith)
      (λ ne. let e = ap (times m) (along_more z words most n ne) in let rest : List ℕ = along z words most (next_of z words n) in
      dite (ℕ_discrete n m)
      (λ hit. let one = times_here m n rest hit in let none = not_counted m rest (λ i.
      let y = along_in most h (cell_word words z n 0 + 1) (next_of z words n) m (next_on h low n (on ne)).1 i in
      let up = y.high in
      let same : cell_word words z n 0 ≡ cell_word words z m 0 = ap (λ (k : ℕ). cell_word words z k 0) hit in
      absurd (omega arith)) in omega arith)
      (λ other. let same = times_else m n rest other in
      let le = along_once most h (cell_word words z n 0 + 1) (next_of z words n) m (next_on h low n (on ne)).1 in omega arith))

  -- a walk along the list comes to an attached record of it, or passes as many smaller keys as it may
  along_reaches : (most : ℕ) (m : ℕ) → IsNumber z m → g.status m ≡ attached → (s : Source) → IsLive z (heap z words g.status) s
      → bucket z.heads (cell_word words z m 0) ≡ bucket_at z (heap z words g.status) s
      → IsBelow (heap z words g.status) s (cell_word words z m 0)
      → IsIn m (along z words most (target (word_at (heap z words g.status) s)))
      ⊎ ((length (along z words most (target (word_at (heap z words g.status) s))) ≡ most)
      × (IsIn m (along z words most (target (word_at (heap z words g.status) s))) → ⊥))
  along_reaches zero m is_m st s live home low = let t : ℕ = target (word_at (heap z words g.status) s) in
      inr (
        ap (λ (l : List ℕ). length l) (along_none z words t),
        (λ i. in_nil m (subst (λ (l : List ℕ). IsIn m l) (along_none z words t) i)),
      )
  along_reaches (suc most) m is_m st s live home low = let n : ℕ = target (word_at (heap z words g.status) s) in
      let y = lists.listed.next s m live is_m st home low in let le = y.1 in
      let on_n = ⊎_elim (λ (e : n ≡ 0). absurd (y.0 e)) (λ (y : IsNumber z n × (g.status n ≡ attached)). y) (sane.live s live) in
      let e = along_more z words most n y.0 in dite (ℕ_discrete n m)
      (λ hit. inl (subst (λ (l : List ℕ). IsIn m l) (sym e) (subst
      (λ (k : ℕ). IsIn k (n ∷ along z words most (next_of z words n))) hit
      (in_first n (along z words most (next_of z words n))))))
      (λ ne. let other : cell_word words z n 0 ≢ cell_word words z m 0 = λ same. ne
      (lists.listed.once n m on_n.0 is_m on_n.1 st same) in
      ⊎_elim (λ (i : IsIn m (along z words most (next_of z words n))). inl (subst (λ (l : List ℕ). IsIn m l) (sym e)
      (in_later m n (along z words most (next_of z words n)) i)))
      (λ (r : (length (along z words most (next_of z words n)) ≡ most) × (IsIn m (along z words most (next_of z words n)) → ⊥)).
      inr (
        ap (λ (l : List ℕ). length l) e ∙ ap suc r.0,
        (λ i. ⊎_elim (λ (at : m ≡ n). ne (sym at)) r.1
            (in_cases m n (along z words most (next_of z words n)) (subst (λ (l : List ℕ). IsIn m l) e i))),
      ))
      (along_reaches most m is_m st (at_record n) on_n (home ∙ sym (lists.listed.home s live y.0)) (omega arith)))

  -- the first record of a head's list
  pub first_on : (h : ℕ) → h < z.heads → IsOn z (heap z words g.status) (target (head_word words z h))
      × (target (head_word words z h) ≢ 0 → OnList h 0 (target (head_word words z h)))
  first_on h lt = let to = sane.live (at_head h) lt in (
    to,
    (λ ne. let y = ⊎_elim
        (λ (e : target (head_word words z h) ≡ 0). absurd (ne e))
        (λ (y : IsNumber z (target (head_word words z h)) × (g.status (target (head_word words z h)) ≡ attached)). y) to in
        record { number = y.0; state = y.1; home = lists.listed.home (at_head h) lt ne; high = omega arith }),
  )

  -- no more records than there are: the walk comes to each
  along_all : (h m : ℕ) → h < z.heads → IsNumber z m → g.status m ≡ attached → bucket z.heads (cell_word words z m 0) ≡ h
      → IsIn m (along z words z.records (target (head_word words z h)))
  along_all h m lt is_m st home = let ns : List ℕ = along z words z.records (target (head_word words z h)) in ⊎_elim
      (λ (i : IsIn m ns). i)
      (λ (r : (length ns ≡ z.records) × (IsIn m ns → ⊥)). let long = few_numbers z (m ∷ ns) (λ k. dite (ℕ_discrete m k)
      (λ hit. let one = times_here k m ns hit in let none = not_counted k ns
      (λ i. r.1 (subst (λ (k : ℕ). IsIn k ns) (sym hit) i)) in omega arith)
      (λ ne. let same = times_else k m ns ne in let le = along_once z.records h 0 (target (head_word words z h)) k
      (first_on h lt).1 in omega arith))
      (λ k i. ⊎_elim (λ (e : k ≡ m). subst (IsNumber z) (sym e) is_m)
      (λ (j : IsIn k ns). (along_in z.records h 0 (target (head_word words z h)) k (first_on h lt).1 j).number)
      (in_cases k m ns i)) in
      let same = r.0 in absurd (omega arith))
      (along_reaches z.records m is_m st (at_head h) lt home tt)

  -- what is true of a live record
  pub record IsAlive (m : ℕ) : Type 0 where
    pub number : IsNumber z m
    pub state : g.status m ≡ attached
    pub plain : flag_bit (cell_word words z m 2) ≡ 0

  pub live_in : (h m : ℕ) → h ≤ z.heads → IsIn m (live_of z words h) → IsAlive m × (bucket z.heads (cell_word words z m 0) < h)
  live_in zero m le i = absurd (in_nil m (subst (λ (l : List ℕ). IsIn m l) (live_none z words) i))
  live_in (suc h) m le i = ⊎_elim (λ (j : IsIn m (live_of z words h)). let y = live_in h m (omega arith) j in let lt = y.1 in
      (y.0, omega arith))
      (λ (j : IsIn m (live_at z words h)). let u = unmarked_in z words m
      (along z words z.records (target (head_word words z h))) j in
      let o = along_in z.records h 0 (target (head_word words z h)) m (first_on h (omega arith)).1 u.0 in let at = o.home in
      (record { number = o.number; state = o.state; plain = u.1 }, omega arith))
      (in_either m (live_of z words h) (live_at z words h) (subst (λ (l : List ℕ). IsIn m l) (live_more z words h) i))

  pub live_once : (h m : ℕ) → h ≤ z.heads → times m (live_of z words h) ≤ 1
  live_once zero m le = let e = ap (times m) (live_none z words) in let nil = times_nil m in omega arith
  live_once (suc h) m le = let e = ap (times m) (live_more z words h) in
      let sum = times_append m (live_of z words h) (live_at z words h) in
      let few = unmarked_times z words m (along z words z.records (target (head_word words z h))) in
      let last = along_once z.records h 0 (target (head_word words z h)) m (first_on h (omega arith)).1 in
      let before = live_once h m (omega arith) in ⊎_elim
      (λ (i : IsIn m (live_at z words h)). let u = unmarked_in z words m
      (along z words z.records (target (head_word words z h))) i in
      let o = along_in z.records h 0 (target (head_word words z h)) m (first_on h (omega arith)).1 u.0 in let at = o.home in
      let none = not_counted m (live_of z words h) (λ j. let y = live_in h m (omega arith) j in let lt = y.1 in omega arith) in
      omega arith)
      (λ (out : IsIn m (live_at z words h) → ⊥). let none = not_counted m (live_at z words h) out in omega arith)
      (is_in m (live_at z words h))

  pub live_all : (h m : ℕ) → h ≤ z.heads → IsAlive m → bucket z.heads (cell_word words z m 0) < h → IsIn m (live_of z words h)
  live_all zero m le a lt = absurd (omega arith)
  live_all (suc h) m le a lt = subst (λ (l : List ℕ). IsIn m l) (sym (live_more z words h))
      (dite (ℕ_discrete (bucket z.heads (cell_word words z m 0)) h)
      (λ here. in_right m (live_of z words h) (live_at z words h)
      (in_unmarked z words m (along z words z.records (target (head_word words z h)))
      (along_all h m (omega arith) a.number a.state here) a.plain))
      (λ ne. in_left m (live_of z words h) (live_at z words h) (live_all h m (omega arith) a (omega arith))))

  -- there are no more live records than records
  pub live_few : (h : ℕ) → h ≤ z.heads → length (live_of z words h) ≤ z.records
  live_few h le = few_numbers z (live_of z words h) (λ m. live_once h m le) (λ m i. (live_in h m le i).0.number)

  -- no two live records have one key
  keys_once : (ns : List ℕ) → ((m : ℕ) → times m ns ≤ 1) → ((m : ℕ) → IsIn m ns → IsAlive m) → KeysOnce (map (pair_of z words) ns)
  keys_once [] once all k = omega arith
  keys_once (n ∷ ns) once all k = let sum = sum_by-cons (has_key k) (pair_of z words n) (map (pair_of z words) ns) in
      let rest = keys_once ns (λ m. let one = once m in let more = times_more m in omega arith)
      (λ m i. all m (in_later m n ns i)) k in
      dite (ℕ_discrete (cell_word words z n 0) k)
      (λ hit. let one : has_key k (pair_of z words n) ≡ 1 = ap (λ (b : Bool). cond {A = ℕ} b 1 0)
      (eq-eqb (cell_word words z n 0) k hit) in
      let none : sum_by (has_key k) (map (pair_of z words) ns) ≡ 0 = none_else ns
      (λ m i same. let a = all n (in_first n ns) in let b = all m (in_later m n ns i) in
      let e : n ≡ m = lists.listed.once n m a.number b.number a.state b.state (hit ∙ sym same) in
      let twice = counted n ns (subst (λ (x : ℕ). IsIn x ns) (sym e) i) in let here = times_here n n ns refl in
      let most = once n in absurd (omega arith)) in omega arith)
      (λ ne. let zero_here : has_key k (pair_of z words n) ≡ 0 = ap (λ (b : Bool). cond {A = ℕ} b 1 0)
      (ne_eqb (cell_word words z n 0) k ne) in omega arith)
    where
      times_more : (m : ℕ) → times m ns ≤ times m (n ∷ ns)
      times_more m = dite (ℕ_discrete n m) (λ e. let one = times_here m n ns e in omega arith)
          (λ ne. let same = times_else m n ns ne in omega arith)

      none_else : (ms : List ℕ) → ((m : ℕ) → IsIn m ms → cell_word words z m 0 ≡ k → ⊥)
          → sum_by (has_key k) (map (pair_of z words) ms) ≡ 0
      none_else [] out = refl
      none_else (m ∷ ms) out = let sum = sum_by-cons (has_key k) (pair_of z words m) (map (pair_of z words) ms) in
          let rest = none_else ms (λ x i. out x (in_later x m ms i)) in
          let none : has_key k (pair_of z words m) ≡ 0 =
          ap (λ (b : Bool). cond {A = ℕ} b 1 0) (ne_eqb (cell_word words z m 0) k (out m (in_first m ms))) in omega arith

  pub live_keys : KeysOnce (map (pair_of z words) (list_alive z words))
  live_keys = keys_once (list_alive z words) (λ m. live_once z.heads m (omega arith))
      (λ m i. (live_in z.heads m (omega arith) i).0)

  abbrev value_at_of : ℕ → ℕ
  value_at_of n = (pair_of z words n).value

  find_live : (k v : ℕ) (ns : List ℕ) → find (map (pair_of z words) ns) k ≡ Some v
      → (m : ℕ) × (IsIn m ns × (cell_word words z m 0 ≡ k) × (value_at_of m ≡ v))
  find_live k v [] e = cc
  find_live k v (n ∷ ns) e = dite (ℕ_discrete (cell_word words z n 0) k)
      (λ hit. let is : Some (value_at_of n) ≡ Some v = sym (ap (λ (b : Bool). cond b (Some (value_at_of n))
      (find (map (pair_of z words) ns) k)) (eq-eqb (cell_word words z n 0) k hit)) ∙ e in
      (n, (in_first n ns, hit, some_is (value_at_of n) v is)))
      (λ ne. let y = find_live k v ns (sym (ap (λ (b : Bool). cond b (Some (value_at_of n))
      (find (map (pair_of z words) ns) k)) (ne_eqb (cell_word words z n 0) k ne)) ∙ e) in
      (y.0, (in_later y.0 n ns y.1.0, y.1.1, y.1.2)))
    where
      some_is : (v w : ℕ) → Some v ≡ Some w → v ≡ w
      some_is v w e = cc

  not_absent : (m : ℕ) (ns : List ℕ) → IsIn m ns → find (map (pair_of z words) ns) (cell_word words z m 0) ≡ None → ⊥
  not_absent m [] i e = in_nil m i
  not_absent m (n ∷ ns) i e = dite (ℕ_discrete (cell_word words z n 0) (cell_word words z m 0))
      (λ hit. let bad : Some (value_at_of n) ≡ None = sym (ap (λ (b : Bool). cond b (Some (value_at_of n))
      (find (map (pair_of z words) ns) (cell_word words z m 0))) (eq-eqb (cell_word words z n 0) (cell_word words z m 0) hit))
      ∙ e in cc)
      (λ ne. ⊎_elim (λ (same : m ≡ n). ne (ap (λ (k : ℕ). cell_word words z k 0) (sym same)))
      (λ (j : IsIn m ns). not_absent m ns j (sym (ap (λ (b : Bool). cond b (Some (value_at_of n))
      (find (map (pair_of z words) ns) (cell_word words z m 0))) (ne_eqb (cell_word words z n 0) (cell_word words z m 0) ne))
      ∙ e))
      (in_cases m n ns i))

  -- a record is in the list of some head
  pub low_bucket : (m : ℕ) → bucket z.heads (cell_word words z m 0) < z.heads
  unfolding bucket
  low_bucket m = let some_heads = b.within.some_heads in omega arith

  same_find : (k : ℕ) → find (contents_of (log_of g.order)) k ≡ find (map (pair_of z words) (list_alive z words)) k
  same_find k = by (find (map (pair_of z words) (list_alive z words)) k) refl
    where
      m : List Pair
      m = contents_of (log_of g.order)

      by_map : find (map (pair_of z words) (list_alive z words)) k ≡ None → (o : Option ℕ)
          → find (contents_of (log_of g.order)) k ≡ o
          → find (contents_of (log_of g.order)) k ≡ None
      by_map none None e = e
      by_map none (Some v) e = let r = lists.mapped.records k v e in
          let i = live_all z.heads r.0 (omega arith) record { number = r.1.0; state = r.1.1; plain = r.1.2 } (low_bucket r.0) in
          absurd (not_absent r.0 (list_alive z words) i (ap (find (map (pair_of z words) (list_alive z words))) r.1.3 ∙ none))

      by : (o : Option ℕ) → find (map (pair_of z words) (list_alive z words)) k ≡ o
          → find (contents_of (log_of g.order)) k ≡ find (map (pair_of z words) (list_alive z words)) k
      by None e = by_map e (find (contents_of (log_of g.order)) k) refl ∙ sym e
      by (Some v) e = let y = find_live k v (list_alive z words) e in let a = (live_in z.heads y.0 (omega arith) y.1.0).0 in
          ap (find (contents_of (log_of g.order))) (sym y.1.1)
          ∙ (lists.mapped.pairs y.0 a.number a.state a.plain ∙ (ap Some y.1.2 ∙ sym e))

  pub contents_are : list_pairs z words ≡ contents_of (log_of g.order)
  contents_are = sym (map_is (contents_of (log_of g.order)) (map (pair_of z words)
      (list_alive z words)) lists.mapped.sorted live_keys same_find)

module _ (z : Sizes) (words : List ℕ) (g : ListState) (b : Base 1 z words g) (lists : Lists z words g) where
  -- what stands along a list from a record that can be reached can be reached
  along_reached : (most h low n m : ℕ) → (n ≢ 0 → OnList z words g b lists h low n) → (n ≢ 0 → Reached 1 z words n)
      → IsIn m (along z words most n) → Reached 1 z words m
  along_reached zero h low n m on from i = absurd (in_nil m (subst (λ (l : List ℕ). IsIn m l) (along_none z words n) i))
  along_reached (suc most) h low n m on from i = dite (ℕ_discrete n 0)
      (λ nil. absurd (in_nil m (subst (λ (l : List ℕ). IsIn m l) (along_nil z words (suc most) n nil) i)))
      (λ ne. ⊎_elim (λ (e : m ≡ n). subst (λ (k : ℕ). Reached 1 z words k) (sym e) (from ne))
      (λ (j : IsIn m (along z words most (next_of z words n))).
      along_reached most h (cell_word words z n 0 + 1) (next_of z words n) m (next_on z words g b lists h low n (on ne)).1
      (λ _. by_link n 0 (on ne).number (omega arith) refl (from ne)) j)
      (in_cases m n (along z words most (next_of z words n)) (subst (λ (l : List ℕ). IsIn m l) (along_more z words most n ne) i)))

-- each attached record stands in the list of its key's head
pub list_reached : ReachesAll 1 Lists
list_reached z words g n b lists number st = let h : ℕ = bucket z.heads (cell_word words z n 0) in
    let low = low_bucket z words g b lists n in
    along_reached z words g b lists z.records h 0 (target (head_word words z h)) n (first_on z words g b lists h low).1
    (λ _. by_head h low refl) (along_all z words g b lists h n low number st refl)

in_order_length : (ps : List Pair) → length (in_order ps) ≡ length ps
unfolding in_order
in_order_length [] = refl
in_order_length (p ∷ ps) = let one = length-put (in_order ps) p.key p.value in let rest = in_order_length ps in omega arith

-- What a closed list tells, of the contents and the live numbers that its words have.
pub told_gathered : (z : Sizes) (words : List ℕ) (g : ListState) → Base 1 z words g → Lists z words g
    → Gathers z (list_alive z words) × (length (list_alive z words) ≡ list_count (length (list_pairs z words)))
    × ListTells z (log_of g.order) (list_pairs z words)
told_gathered z words g b lists = (
  record {
    once = λ m. live_once z words g b lists z.heads m (omega arith);
    low = not_counted 0 (list_alive z words) (λ i.
        let a = (live_in z words g b lists z.heads 0 (omega arith) i).0 in let one = a.number.0 in omega arith);
    high = λ m more. not_counted m (list_alive z words) (λ i. let a = (live_in z words g b lists z.heads m (omega arith) i).0 in
        let most = a.number.1 in omega arith);
  },
  (let long = in_order_length (map (pair_of z words) (list_alive z words)) in
      let same = length-map (list_alive z words) (pair_of z words) in omega arith),
  record { sound = lists.sound; contents = contents_are z words g b lists },
)

pub list_gathers : Closes 1 Lists ListGathered list_count ListTells ListTellsPass
list_gathers z words g contents live b lists is = let t = told_gathered z words g b lists in (
  subst (Gathers z) (sym is.1) t.0,
  ap (λ (l : List ℕ). length l) is.1 ∙ (t.1 ∙ ap (λ (l : List Pair). list_count (length l)) (sym is.0)),
  subst (λ (l : List Pair). ListTells z (log_of g.order) l) (sym is.0) t.2,
  λ p lt. (lists.each p lt).stands,
)
